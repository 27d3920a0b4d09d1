-- A guide that was refused, and one that has ended, stay as they are.
use Rattle.guide.proofs.GuideRowLaws.{next_refused, next_ended, kept_same}
use Rattle.guide.proofs.guides.Guide.next.Goals as goal

pub returns-in-Refusing-clause-given : goal.returns-in-Refusing-clause-given
returns-in-Refusing-clause-given c = search next_refused

pub returns-in-Refusing-clause-kept : goal.returns-in-Refusing-clause-kept
returns-in-Refusing-clause-kept c = search kept_same

pub returns-in-Ended-clause-given : goal.returns-in-Ended-clause-given
returns-in-Ended-clause-given c = search next_ended

pub returns-in-Ended-clause-kept : goal.returns-in-Ended-clause-kept
returns-in-Ended-clause-kept c = search kept_same

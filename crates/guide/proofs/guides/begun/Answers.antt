-- The guide's request is the start of its row.
use Rattle.guide.proofs.GuideStartLaws.{begun_request, begun_held}
use Rattle.guide.proofs.guides.begun.Goals as goal

pub returns-clause-guide_value : goal.returns-clause-guide_value
returns-clause-guide_value c = search begun_request

pub returns-clause-begins : goal.returns-clause-begins
returns-clause-begins c = search begun_held

-- By what is told the guide goes on, ends or stays as it is.
use Rattle.guide.proofs.GuideRowLaws.{part_called, moves_on, moves_last, moves_not, kept_on, kept_last}
use Rattle.guide.proofs.guides.moved.Goals as goal

pub returns-in-Do-clause-result_value : goal.returns-in-Do-clause-result_value
returns-in-Do-clause-result_value c = search (part_called, moves_on)

pub returns-in-Do-clause-kept_guide : goal.returns-in-Do-clause-kept_guide
returns-in-Do-clause-kept_guide c = search kept_on

pub returns-in-Done-clause-result_value : goal.returns-in-Done-clause-result_value
returns-in-Done-clause-result_value c = search (part_called, moves_last)

pub returns-in-Done-clause-kept_guide : goal.returns-in-Done-clause-kept_guide
returns-in-Done-clause-kept_guide c = search kept_last

pub returns-in-Refused-clause-result_value : goal.returns-in-Refused-clause-result_value
returns-in-Refused-clause-result_value c = search (part_called, moves_not)

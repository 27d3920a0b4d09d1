-- The tally's state is over the lent one.
use Rattle.verdicts.proofs.TellingLaws.{report_over}
use Rattle.verdicts.proofs.telling.report.Goals as goal

pub returns : goal.returns
returns c = search report_over

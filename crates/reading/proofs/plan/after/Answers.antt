-- After the last item of a sequence comes what stands around the sequence, and after another the item met next.
use Rattle.reading.proofs.NotingLaws.{after_last, after_other}
use Rattle.reading.proofs.plan.after.Goals as goal

pub returns-then-left-eq1 : goal.returns-then-left-eq1
returns-then-left-eq1 c = search after_last

pub returns : goal.returns
returns c = search after_other

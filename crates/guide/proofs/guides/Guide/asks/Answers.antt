-- Only a guide on its way asks for readings.
use Rattle.guide.proofs.GuideRowLaws.{part_asked, asks_refused, asks_going, asks_ended}
use Rattle.guide.proofs.guides.Guide.asks.Goals as goal

pub returns-in-Refusing : goal.returns-in-Refusing
returns-in-Refusing c = search asks_refused

pub returns-in-Going : goal.returns-in-Going
returns-in-Going c = search (part_asked, asks_going)

pub returns-in-Ended : goal.returns-in-Ended
returns-in-Ended c = search asks_ended

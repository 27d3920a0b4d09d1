-- Four slots, one after another.
use Rattle.reading.proofs.RequestLaws.{put_all}
use Rattle.reading.proofs.requests.put_places.Goals as goal

pub returns : goal.returns
returns c = search put_all

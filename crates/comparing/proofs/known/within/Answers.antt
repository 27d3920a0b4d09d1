-- The state of the second list knows just the list's literals, since none of them stands beside its complement.
use Rattle.comparing.proofs.KnownLaws.{within_is}
use Rattle.comparing.proofs.known.within.Goals as goal

pub returns : goal.returns
returns c = search within_is

-- One more line goes behind those that are cited, and the places behind it hold 0 as before.
use Rattle.writing.proofs.CiteLaws.{one_more}
use Rattle.writing.proofs.cites.Cites.push.Goals as goal

pub invariant_of-self : goal.invariant_of-self
invariant_of-self c = one_more _ _ c.self.invariant.0 c.self.invariant.1 c.self.invariant.2 _ c.self.view_is c.requires.room _

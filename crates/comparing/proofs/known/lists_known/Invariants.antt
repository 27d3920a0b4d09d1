-- The entries left are the literals left exactly where the list is what the state knows; each known fluent takes one entry.
use mathlib.Core.Path.{◌≡◌}
use lib.ListN.{drop}
use Rattle.meaning.specs.Derivations.{same_list, known_from, literals_of}
use Rattle.reading.specs.Listed.{listed}
use Rattle.comparing.proofs.known.lists_known.Given as goal

abbrev pub invariant-loop-f : goal.invariant-loop-f
invariant-loop-f l = same_list (listed l.s l.p) (literals_of l.marks) ≡ same_list l.entries.rest.now (known_from l.marks l.f (drop l.f l.marks))

-- What is possible beside a held value is what is possible beside the list that leaves it: of flags, and of values. Assumes nothing.
use Rattle.std.specs.Prelude.{ℕ, ◌≡◌, Bool, List}
use Rattle.std.proofs.Common.{refl, ap}
use Rattle.meaning.specs.Tests.{each_of}
use Rattle.meaning.specs.Limits.{format}
use Rattle.meaning.specs.States.{State, state_of}
use Rattle.meaning.specs.declared.Form.TheVariants.{Flags, Valued}
use Rattle.parsing.specs.Masks.{Allows, Counted}
use Rattle.parsing.proofs.LineReaderLaws.{counted_values}
use Rattle.reading.specs.Listed.{listed, listed_as, LiteralsHere, holds_as}
use Rattle.reading.specs.declared.marks.Test.TheVariants.{Possible}
use Rattle.valuing.specs.Valuing.{agreeing}
use Rattle.valuing.proofs.TwosLaws.{listed_fluent}
use Rattle.valuing.proofs.AgreeingLaws.{agreeing_beside}
use Rattle.valuing.specs.Meets.{meets_as}

pub state_meets : (s c : List ℕ) (held : State) (p : ℕ) → held ≡ state_of format c → Counted Flags s → LiteralsHere Flags s p
    → each_of (holds_as Possible held) (listed_as Flags s p) ≡ meets_as Flags s c (listed_as Flags s p)
unfolding meets_as
state_meets s c held p is counted here = ap (λ (x : State). each_of (holds_as Possible x) (listed s p)) is

pub sets_meet : (s c sets : List ℕ) (p : ℕ) → Allows s c sets → Counted Valued s → LiteralsHere Valued s p
    → agreeing s sets (listed_as Valued s p) ≡ meets_as Valued s c (listed_as Valued s p)
unfolding meets_as
sets_meet s c sets p so counted here = agreeing_beside s c sets (listed_as Valued s p) so (counted_values Valued s refl counted) (listed_fluent s p here)

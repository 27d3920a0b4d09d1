-- What the readers answer, in the terms of the definitions.
use Rattle.std.specs.Prelude.{ℕ, ◌+◌, ◌-◌, Bool, List, Result, Ok, Err, ltb, eqb}
use Rattle.meaning.specs.Tests.{both}
use Rattle.meaning.specs.Literals.{complement}
use Rattle.meaning.specs.Requests.{Effect, Executability, Knowledge}
use Rattle.meaning.specs.Reading
use Rattle.meaning.specs.declared.Form.{Form}
use Rattle.meaning.specs.declared.Form.TheVariants.{Flags, Valued}
use Rattle.meaning.specs.Reading.{Got, got, fault, next, have_complements, past_values}
use Rattle.parsing.specs.declared.lists.Kind.{Kind}
use Rattle.parsing.specs.declared.lists.Kind.TheVariants.{Literals, Fluents}
use Rattle.parsing.specs.declared.faults.Fault.{Fault}
use Rattle.parsing.specs.Faults.{number_of}

-- A fault, as the definitions say it.
abbrev pub stopped : {A : Type 0} → Fault → Got A
stopped f = fault (number_of f.refusal) f.place

-- A number that was read and the place after it, or the fault.
abbrev pub Numbered : Type 0
Numbered = Result (ℕ × ℕ) Fault

abbrev pub numbered : Numbered → Got ℕ
numbered (Ok x) = got x.0 x.1
numbered (Err f) = stopped f

-- The place after what was read, whatever it is, or the fault.
abbrev pub Passed : Type 0
Passed = Result ℕ Fault

abbrev pub over : Passed → Got (Unit {0})
over (Ok p) = got tt p
over (Err f) = stopped f

module _ {A : Type 0} where
  unfoldable pub passed : Got A → Got (Unit {0})
  passed (got x p) = got tt p
  passed (fault n p) = fault n p

unfoldable pub kind_of : Kind → Reading.Kind
kind_of k = elim k [ Literals ↦ Reading.Kind.literals | Fluents ↦ Reading.Kind.fluents ]

-- The entry is the complement of the one before it (FORMAT 4.13).
unfoldable pub beside_floor : Reading.Kind → (floor x : ℕ) → Bool
beside_floor kind floor x = both (have_complements kind) (both (ltb 0 floor) (eqb x (complement (floor - 1))))

-- What stands between the fluents' count and the actions' count.
unfoldable pub values_first : Form → (n : ℕ) → List ℕ → ℕ → Got (Unit {0})
values_first form n s p = past_values form n s p (got tt)

-- Where the actions' count stands: behind the fluents' count, and with values behind how many each fluent has (FORMAT 2.12, 26.2).
abbrev pub actions_place : Form → (p fluents : ℕ) → ℕ
actions_place Flags p n = p + 1
actions_place Valued p n = p + 1 + n

-- The action of a line, and the place after its body.
unfoldable pub action_before : ℕ → Got (List ℕ) → Got ℕ
action_before a m = next m λ b p. got a p

unfoldable pub effect_read : Got Effect → Got ℕ
effect_read m = next m λ e p. got e.action p

unfoldable pub executability_read : Got Executability → Got ℕ
executability_read m = next m λ x p. got x.action p

unfoldable pub knowledge_read : Got Knowledge → Got ℕ
knowledge_read m = next m λ l p. got l.action p

-- Past 16, where an action can be run, its effects do not meet: what one gives by a body known true, no other takes back by a possible body. For
-- the line that allows the action is known true too, so the two effects would be contradictory. Assumes nothing.
use Prim.Native.Nat.{ℕ}
use mathlib.Core.Path.{◌≡◌, sym, ◌∙◌, ap}
use mathlib.Core.Bool.{true}
use borrow.Author.Tests.{eqb-true}
use Rattle.meaning.specs.Literals.{complement}
use Rattle.meaning.specs.Requests.{Table}
use Rattle.meaning.specs.Refusals.{nowhere, contradiction_in}
use Rattle.meaning.specs.Lines.{effects_of, given}
use Rattle.meaning.specs.States.{State, known, possible, can_be_run}
use Rattle.meaning.proofs.TestLaws.{clash, both_left, both_right, fails_true, some_has, those_has}
use Rattle.meaning.proofs.LiteralLaws.{complement_twice}
use Rattle.meaning.proofs.StateLaws.{known_possible}
use Rattle.meaning.proofs.RefusalLaws.{meeting, past_16}

known_apart : (s : State) (l : ℕ) → known s l ≡ true → possible s (complement l) ≡ true → ⊥
unfolding possible
known_apart s l k p = clash k (ap (known s) (sym (complement_twice l)) ∙ fails_true _ p)

module _ (t : Table) (passed : contradiction_in t ≡ nowhere) (a : ℕ) (s : State) (runs : can_be_run t a s ≡ true) where
  pub given_apart : (l : ℕ) → given (known s) (effects_of t a) l ≡ true → given (possible s) (effects_of t a) (complement l) ≡ true → ⊥
  unfolding given effects_of can_be_run
  given_apart l sure may =
      let e = some_has _ (effects_of t a) sure in
      let g = some_has _ (effects_of t a) may in
      let he = those_has _ t.effects e.0 e.1 in
      let hg = those_has _ t.effects g.0 g.1 in
      let le : e.0.literal ≡ l = eqb-true _ _ (both_left _ _ e.2) in
      let lg : g.0.literal ≡ complement l = eqb-true _ _ (both_left _ _ g.2) in
      let ae : e.0.action ≡ a = eqb-true _ _ he.1 in
      let ag : g.0.action ≡ a = eqb-true _ _ hg.1 in
      clash
      (meeting t (known s) (possible s) (known_apart s) (known_possible s) e.0 g.0 (ae ∙ sym ag) (lg ∙ ap complement (sym le))
      (rw ae runs) (both_right _ _ e.2) (both_right _ _ g.2))
      (past_16 t passed e.0 g.0 he.0 hg.0)

-- Marks that a state of a request has, in either form: there is one for each fluent, a reading sets one of its values, and an action leads to such marks again.
-- Assumes nothing.
use Prim.Native.Nat.{ℕ, ◌+◌, ◌≤◌, ◌<◌}
use native.Mathlib.Omega.{arith}
use mathlib.Core.Path.{◌≡◌, refl, sym, subst}
use mathlib.Core.List.{List, [], ◌∷◌}
use lib.ListN.{length, set}
use Rattle.meaning.specs.Limits.{format}
use Rattle.meaning.specs.declared.Form.{Form}
use Rattle.meaning.specs.declared.Form.TheVariants.{Flags, Valued}
use Rattle.meaning.specs.Values.{numbers, values_of}
use Rattle.meaning.specs.States.{State, single, readings}
use Rattle.meaning.specs.ValueStates as Value
use Rattle.acting.proofs.ActingMarks.{told_valued, after_valued}
use Rattle.steps.specs.Held.{table_in}
use Rattle.steps.specs.AtHand.{AtHand, MarkedAs}
use Rattle.steps.specs.Steps.{mode_in, after_as, values_as, readings_as}
use Rattle.steps.proofs.LookLaws.{marked_set, told_true, told_false}
use Rattle.finding.proofs.StartLaws.{two_values}
use Rattle.steps.proofs.ModeLaws
use Rattle.steps.proofs.FormSteps.{hand_values}

pub fit_sized : (form : Form) (s marks : State) → MarkedAs form s marks → length marks ≡ format.state
fit_sized Flags s marks marked = marked.sized
fit_sized Valued s marks marked = marked.sized

pub fit_told : (form : Form) (s marks : State) → MarkedAs form s marks → (f m : ℕ) → f < format.fluents → m < values_as form s f → MarkedAs form s (set marks f (m + 1))
fit_told Flags s marks marked f m near low = marked_set marks f (m + 1) marked near (omega arith)
fit_told Valued s marks marked f m near low = told_valued s marks marked f m near low

fit_next : (form : Form) (s t marks : State) → MarkedAs form s marks → (a : ℕ) → MarkedAs form s (after_as form s t a marks)
fit_next Flags s t marks marked a = ModeLaws.after_marked (mode_in t) (table_in Flags s) a marks _ marked refl
fit_next Valued s t marks marked a = after_valued s marks marked a

pub fit_after : (form : Form) (s t marks : State) → MarkedAs form s marks → (a : ℕ) (r : State) → r ≡ after_as form s t a marks → MarkedAs form s r
fit_after form s t marks marked a r e = subst (MarkedAs form s) (sym e) (fit_next form s t marks marked a)

pub few_values : (form : Form) (s t : List ℕ) → AtHand form s t → (f : ℕ) → values_as form s f ≤ 16
few_values Flags s t here f = omega arith
few_values Valued s t here f = (hand_values s t here).each f

pub many_values : (form : Form) (s t : List ℕ) → AtHand form s t → (f : ℕ) → 2 ≤ values_as form s f
many_values Flags s t here f = omega arith
many_values Valued s t here f = two_values s (table_in Valued s) here.table.end here.table.is f

-- A fluent is read by its values in ascending order.
pub readings_first : (form : Form) (s : List ℕ) (f : ℕ) (fs : List ℕ) (marks : State)
    → readings_as form s (f ∷ fs) marks ≡ Value.each_value (numbers 0 (values_as form s f)) (λ v. readings_as form s fs (set marks f (v + 1))) marks
unfolding readings Value.readings Value.each_value Value.told values_of numbers
readings_first Flags s f fs marks = rw (told_true f marks, told_false f marks) refl
readings_first Valued s f fs marks = refl

pub no_readings : (form : Form) (s : List ℕ) (marks : State) → readings_as form s [] marks ≡ single marks
unfolding readings Value.readings
no_readings Flags s marks = refl
no_readings Valued s marks = refl

-- What the notes say of an action's lines, as the code finds it.
use Rattle.std.specs.Prelude.{ℕ, ◌+◌, ◌-◌, ◌≤◌, ◌<◌, ◌≡◌, Bool, true, List, [], ◌∷◌, map, get_or, eqb, ltb}
use Rattle.meaning.specs.declared.Runs.{Runs}
use Rattle.meaning.specs.declared.Runs.TheVariants.{By, Short, Never}
use Rattle.meaning.specs.Tests.{both, pick, some_of, each_of}
use Rattle.meaning.specs.Limits.{format}
use Rattle.meaning.specs.Requests.{Effect, Executability}
use Rattle.meaning.specs.Lines.{effects_of, executability_of, knowledge_of, sensing, senses}
use Rattle.meaning.specs.Asking.{short_by}
use Rattle.reading.specs.Noted.{sensed_from, sensed_to, pair_there}
use Rattle.reading.specs.Listed.{listed}
use Rattle.steps.specs.Held.{table_in}
use Rattle.meaning.specs.declared.Form.{Form}

-- THE PLACES of an action's lines, in file order.
unfoldable pub run_places : Form → List ℕ → (a : ℕ) → List ℕ
run_places form s a = map (λ (r : Executability). r.place) (executability_of (table_in form s) a)

unfoldable pub effect_places : Form → List ℕ → (a : ℕ) → List ℕ
effect_places form s a = map (λ (e : Effect). e.place) (effects_of (table_in form s) a)

-- WHAT ASKING GIVES of executability lines, by the bytes behind these places. How many literals of a line's body fail the test.
module _ (s : List ℕ) (test : ℕ → Bool) where
  unfoldable pub short_at : (place : ℕ) → ℕ
  short_at p = short_by test (listed s (p + 1))

  unfoldable pub fewest_at : (place n : ℕ) → List ℕ → ℕ
  fewest_at p n [] = p
  fewest_at p n (q ∷ qs) = pick (ltb (short_at q) n) (λ _. fewest_at q (short_at q) qs) (λ _. fewest_at p n qs)

  unfoldable pub nearest_at : List ℕ → Runs
  nearest_at [] = Never
  nearest_at (p ∷ ps) = Short (fewest_at p (short_at p) ps)

  unfoldable pub first_allowing_at : List ℕ → (otherwise : Unit {0} → Runs) → Runs
  first_allowing_at [] otherwise = otherwise tt
  first_allowing_at (p ∷ ps) otherwise = pick (each_of test (listed s (p + 1))) (λ _. By p) (λ _. first_allowing_at ps otherwise)

-- Some effect gives the literal by a body each of whose literals passes the test.
unfoldable pub given_at : List ℕ → (ℕ → Bool) → List ℕ → ℕ → Bool
given_at s test places l = some_of (λ (p : ℕ). both (eqb (get_or s (p + 1) 0) l) (each_of test (listed s (p + 2)))) places

-- WHAT IT SENSES, with the smallest fluent as the limit less it and the largest as one more.
pub record Senses (form : Form) (s t : List ℕ) (a : ℕ) : Type 0 where
  pub pair : (f : ℕ) → f < format.fluents → pair_there t a f ≡ senses (knowledge_of (table_in form s) a) f
  pub most : get_or t (sensed_from + a) 0 ≤ format.fluents
  pub from : (f : ℕ) → senses (knowledge_of (table_in form s) a) f ≡ true → format.fluents - get_or t (sensed_from + a) 0 ≤ f
  pub to : (f : ℕ) → senses (knowledge_of (table_in form s) a) f ≡ true → f < get_or t (sensed_to + a) 0
  pub last : get_or t (sensed_to + a) 0 ≤ format.fluents
  pub any : ltb 0 (get_or t (sensed_to + a) 0) ≡ sensing (table_in form s) a

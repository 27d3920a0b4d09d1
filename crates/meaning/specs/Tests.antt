-- Tests that compute, the choice between two values by a test, and what is said of the entries of a list. Definitions only.
use Rattle.std.specs.Prelude.{◌≡◌, Bool, true, false, List, [], ◌∷◌, ◌⊎◌}

unfoldable pub both : Bool → Bool → Bool
both true b = b
both false b = false

unfoldable pub either : Bool → Bool → Bool
either true b = true
either false b = b

unfoldable pub fails : Bool → Bool
fails true = false
fails false = true

module _ {A : Type 0} where
  -- The value chosen by a test. Each waits under its λ, so that only the chosen one is computed.
  unfoldable pub pick : Bool → (Unit {0} → A) → (Unit {0} → A) → A
  pick true f g = f tt
  pick false f g = g tt

module _ {A : Type 0} where
  -- Some entry of the list passes the test.
  unfoldable pub some_of : (A → Bool) → List A → Bool
  some_of p [] = false
  some_of p (x ∷ xs) = either (p x) (some_of p xs)

  -- Each entry of the list passes the test.
  unfoldable pub each_of : (A → Bool) → List A → Bool
  each_of p [] = true
  each_of p (x ∷ xs) = both (p x) (each_of p xs)

  -- The entries that pass the test, in their order.
  unfoldable pub those_of : (A → Bool) → List A → List A
  those_of p [] = []
  those_of p (x ∷ xs) = pick (p x) (λ _. x ∷ those_of p xs) (λ _. those_of p xs)

  -- The list has the entry.
  abbrev pub Has : List A → A → Type 0
  Has [] x = ⊥
  Has (y ∷ ys) x = (x ≡ y) ⊎ Has ys x

  -- It is so of each entry, or of some.
  abbrev pub Each : (A → Type 0) → List A → Type 0
  Each P [] = Unit {0}
  Each P (x ∷ xs) = P x × Each P xs

  abbrev pub Some : (A → Type 0) → List A → Type 0
  Some P [] = ⊥
  Some P (x ∷ xs) = P x ⊎ Some P xs

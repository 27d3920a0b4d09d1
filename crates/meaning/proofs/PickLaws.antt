-- What is said of a choice is said of the side that its test chooses. By the two values of the test. Assumes nothing.
use mathlib.Core.Path.{◌≡◌, refl}
use mathlib.Core.Bool.{Bool, true, false}
use Rattle.meaning.specs.Tests.{pick}

module _ {A : Type 0} (P : A → Type 0) where
  pub pick_has : (b : Bool) (f g : Unit {0} → A) → (b ≡ true → P (f tt)) → (b ≡ false → P (g tt)) → P (pick b f g)
  unfolding pick
  pick_has true f g t u = t refl
  pick_has false f g t u = u refl

  pub has-picked {ℓ} : {C : Type ℓ} (b : Bool) (f g : Unit {0} → A) → P (pick b f g) → (b ≡ true → P (f tt) → C) → (b ≡ false → P (g tt) → C) → C
  unfolding pick
  has-picked true f g h t u = t refl h
  has-picked false f g h t u = u refl h

-- What the code found is what the definition found; the notes before anything is noted. Assumes nothing.
use Prim.Native.Nat.{ℕ, ◌<◌}
use mathlib.Core.Path.{◌≡◌, refl, sym, ◌∙◌, ap}
use lib.ListN.{length, get_or, length-replicate, get_or-replicate}
use Rattle.std.specs.Prelude.{Option, None, Some}
use Rattle.meaning.specs.Refusals
use Rattle.meaning.specs.Refusals.{nowhere, at}
use Rattle.reading.specs.Noted.{slots}
use Rattle.finding.specs.Places.{found}
use Rattle.finding.specs.TablesHere.{blank}

-- What was found, by the definition.
back : Option ℕ → Refusals.Found
back r = elim r [ None ↦ nowhere | Some p ↦ at p ]

back_found : (f : Refusals.Found) → back (found f) ≡ f
unfolding back found
back_found nowhere = refl
back_found (at p) = refl

module _ (f : Refusals.Found) (r : Option ℕ) (is : r ≡ found f) where
  pub found_none : r ≡ None → f ≡ nowhere
  unfolding back
  found_none e = sym (back_found f) ∙ ap back (sym is ∙ e)

  pub found_at : (p : ℕ) → r ≡ Some p → f ≡ at p
  unfolding back
  found_at p e = sym (back_found f) ∙ ap back (sym is ∙ e)

-- A TABLE that held nothing.
pub blank_long : length blank ≡ slots
unfolding blank
blank_long = let none : ℕ = 0 in length-replicate slots none

pub blank_slot : (i : ℕ) → i < slots → get_or blank i 0 ≡ 0
unfolding blank
blank_slot i h = let none : ℕ = 0 in get_or-replicate slots i none none h

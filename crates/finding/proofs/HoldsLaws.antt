-- What the notes hold of the effects once they are noted. Assumes nothing.
use Prim.Native.Nat.{ℕ, zero, suc, ◌+◌, ◌≤◌, ◌<◌}
use native.Mathlib.Omega.{arith}
use mathlib.Core.Path.{◌≡◌, refl, ◌∙◌, ap, subst}
use mathlib.Core.List.{List, [], ◌∷◌}
use mathlib.Core.Logic.{inl, inr}
use lib.ListN.{length, get_or, set}
use lib.Seq.{get_or-set_same}
use Rattle.meaning.specs.Tests.{Has}
use Rattle.meaning.specs.declared.Form.{Form}
use Rattle.meaning.specs.Requests.{Effect}
use Rattle.reading.specs.Noted.{effects, line_place, before, appended, action_in, note_line, lines_noted, effect_lines, slots, line_numbers}
use Rattle.finding.specs.LinesHere.{effect_from, EffectHere, place_in, effects_in}
use Rattle.finding.proofs.KeptLaws.{kept, note_long}

-- The notes have the places of these effects, from number k + 1 on.
unfoldable pub PlacedIn : List ℕ → ℕ → List Effect → Type 0
PlacedIn t k [] = Unit {0}
PlacedIn t k (e ∷ es) = (place_in t (k + 1) ≡ e.place) × PlacedIn t (k + 1) es

-- The place of an effect stays where others are noted after it.
place_kept : (i last k : ℕ) (e : Effect) (t : List ℕ) → i < line_numbers → k < line_numbers → (i ≡ k → ⊥) → place_in (note_line effects last k e t) i ≡ place_in t i
unfolding note_line appended line_place
place_kept i last k e t h g other =
    kept (set t (effect_lines + k) e.place) (effect_lines + line_numbers + before last e.action) (effect_lines + i) k (λ q. omega arith)
    ∙ kept t (effect_lines + k) (effect_lines + i) e.place (λ q. other (omega arith))

place_noted : (last k : ℕ) (e : Effect) (t : List ℕ) → length t ≡ slots → k < line_numbers → place_in (note_line effects last k e t) k ≡ e.place
unfolding note_line appended line_place
place_noted last k e t sized h =
    kept (set t (effect_lines + k) e.place) (effect_lines + line_numbers + before last e.action) (effect_lines + k) k (λ q. omega arith)
    ∙ get_or-set_same t (effect_lines + k) e.place 0 (omega arith)

places_later : (i k : ℕ) (last : List ℕ) (es : List Effect) (t : List ℕ) → i ≤ k → k + length es < line_numbers → place_in (lines_noted effects k last es t) i ≡ place_in t i
unfolding lines_noted action_in
places_later i k last [] t h g = refl
places_later i k last (e ∷ es) t h g =
    places_later i (k + 1) (set last e.action (k + 1)) es (note_line effects (get_or last e.action 0) (k + 1) e t) (omega arith) (omega arith)
    ∙ place_kept i (get_or last e.action 0) (k + 1) e t (omega arith) (omega arith) (λ q. omega arith)

pub effects_placed : (k : ℕ) (last : List ℕ) (es : List Effect) (t : List ℕ) → length t ≡ slots → k + length es < line_numbers → PlacedIn (lines_noted effects k last es t) k es
unfolding lines_noted action_in PlacedIn
effects_placed k last [] t sized h = tt
effects_placed k last (e ∷ es) t sized h =
    let newest : List ℕ = set last e.action (k + 1) in
    let noted : List ℕ = note_line effects (get_or last e.action 0) (k + 1) e t in (
      places_later (k + 1) (k + 1) newest es noted (omega arith) (omega arith) ∙ place_noted (get_or last e.action 0) (k + 1) e t sized (omega arith),
      effects_placed (k + 1) newest es noted (note_long effects (get_or last e.action 0) (k + 1) e t ∙ sized) (omega arith),
    )

-- Notes that agree on the places have them too.
pub placed_same : (t u : List ℕ) (k : ℕ) (es : List Effect) → ((i : ℕ) → i ≤ k + length es → place_in u i ≡ place_in t i) → PlacedIn t k es → PlacedIn u k es
unfolding PlacedIn
placed_same t u k [] same h = tt
placed_same t u k (e ∷ es) same h = (same (k + 1) (omega arith) ∙ h.0, placed_same t u (k + 1) es (λ i less. same i (omega arith)) h.1)

pub effects_found : (form : Form) (s t : List ℕ) (k : ℕ) (es : List Effect) → PlacedIn t k es → ((e : Effect) → Has es e → effect_from form s e.place ≡ e) → effects_in form s t k (length es) ≡ es
unfolding effects_in PlacedIn
effects_found form s t k [] h each = refl
effects_found form s t k (e ∷ es) h each =
    ap (λ (y : Effect). y ∷ effects_in form s t (k + 1) (length es)) (ap (effect_from form s) h.0 ∙ each e (inl refl))
    ∙ ap (λ (ys : List Effect). e ∷ ys) (effects_found form s t (k + 1) es h.1 (λ y has. each y (inr has)))

pub effects_fit : (form : Form) (s t : List ℕ) (k : ℕ) (es : List Effect) → PlacedIn t k es → ((e : Effect) → Has es e → EffectHere form s e.place) → (i : ℕ) → i < length es → EffectHere form s (place_in t (k + i + 1))
unfolding PlacedIn
effects_fit form s t k [] h each i less = absurd (omega arith)
effects_fit form s t k (e ∷ es) h each zero less =
    let same : k + zero + 1 ≡ k + 1 = omega arith in
    rw (same, h.0) (each e (inl refl))
effects_fit form s t k (e ∷ es) h each (suc i) less =
    let same : k + 1 + i + 1 ≡ k + suc i + 1 = omega arith in
    subst (λ (j : ℕ). EffectHere form s (place_in t j)) same (effects_fit form s t (k + 1) es h.1 (λ y has. each y (inr has)) i (omega arith))

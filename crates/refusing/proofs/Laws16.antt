-- Refusal 16 over the notes that reading left: the effects of a bucket are linked, and others need not be compared. Assumes nothing.
use Prim.Native.Nat.{ℕ, zero, suc, ◌+◌, ◌-◌, ◌*◌, ◌/◌, ◌%◌, ◌≤◌, ◌<◌}
use native.Mathlib.Omega.{arith}
use native.Mathlib.Decide.{ℕ_discrete}
use native.Mathlib.Numerals.{add-one}
use mathlib.Core.Path.{◌≡◌, refl, sym, ◌∙◌, ap, subst}
use mathlib.Core.Bool.{Bool, true, false}
use mathlib.Core.List.{List, [], ◌∷◌}
use lib.ListN.{length, get_or, set, length-set, replicate, length-replicate, get_or-replicate}
use lib.Seq.{get_or-set_same, get_or-set_other}
use mir.Syntax.{w8, w64}
use mir.Val.{Fits}
use Rattle.std.specs.Prelude.{None, Some}
use Rattle.meaning.specs.Tests.{either, pick, some_of}
use Rattle.meaning.specs.Limits.{format}
use Rattle.meaning.specs.Refusals
use Rattle.meaning.specs.Refusals.{first_against}
use Rattle.meaning.specs.declared.Form.{Form}
use Rattle.meaning.specs.declared.Form.TheVariants.{Flags, Valued}
use Rattle.meaning.proofs.TestLaws.{by-test, pick_true, pick_false}
use Rattle.parsing.specs.Masks.{Counted}
use Rattle.parsing.proofs.LineReaderLaws.{counted_values}
use Rattle.reading.specs.Noted.{line_numbers}
use Rattle.finding.specs.Places.{found}
use Rattle.finding.specs.LinesHere.{effect_from, EffectHere, place_in, effects_in, EffectsHere}
use Rattle.refusing.specs.Refusal16.{contradictory_as, effects_before, among, fluent_by, buckets, bucket_at, Last, Linked, Sought, bucket_linked, linked_slots}
use Rattle.refusing.proofs.FlagClashes.{flags_bucket}
use Rattle.refusing.proofs.ValueClashes.{values_bucket}

-- THE BUCKET of an effect.
pub flags_fluent : (form : Form) (byte r : ℕ) → form ≡ Flags → r ≡ byte → r / 2 ≡ fluent_by form byte
flags_fluent form byte r is e = rw (is, e)

pub values_fluent : (form : Form) (byte r : ℕ) → form ≡ Valued → r ≡ byte → r ≡ fluent_by form byte
values_fluent form byte r is e = rw is e

pub bucket_got : (form : Form) (s : List ℕ) (p x y : ℕ) → x ≡ get_or s p 0 → y ≡ fluent_by form (get_or s (p + 1) 0) → (format.fluents * x + y) % buckets ≡ bucket_at form s p
unfolding bucket_at
bucket_got form s p x y ex ey = rw (ex, ey)

fluent_low : (form : Form) (byte : ℕ) → byte < 256 → fluent_by form byte < 256
fluent_low Flags byte h = omega arith
fluent_low Valued byte h = h

effect_ends : (form : Form) (s : List ℕ) (p : ℕ) → EffectHere form s p → p + 2 < length s
effect_ends Flags s p here = let ends = here.body.ends in omega arith
effect_ends Valued s p here = let ends = here.body.ends in omega arith

module _ (form : Form) (s : List ℕ) (p : ℕ) (here : EffectHere form s p) where
  pub effect_there : p < length s
  effect_there = let ends = effect_ends form s p here in omega arith

  pub effect_second : p + 1 < length s
  effect_second = let ends = effect_ends form s p here in omega arith

  pub effect_third : p + 2 < length s
  effect_third = effect_ends form s p here

  pub third_fits : Fits w64 (length s) → Fits w64 (p + 2)
  third_fits room = let ends = effect_ends form s p here in let most = room.fits in record { fits = omega arith }

  pub effect_fits : Fits w64 (length s) → Fits w64 (p + 1)
  effect_fits room = let ends = effect_ends form s p here in let most = room.fits in record { fits = omega arith }

  pub bucket_fits : (x y : ℕ) → x ≡ get_or s p 0 → y ≡ fluent_by form (get_or s (p + 1) 0) → Fits w8 (get_or s (p + 1) 0) → Fits w64 (format.fluents * x + y)
  bucket_fits x y ex ey byte =
      let low = fluent_low form (get_or s (p + 1) 0) byte.fits in
      let acts = here.action in
      record { fits = omega arith }

bucket_most : (form : Form) (s : List ℕ) (p bucket : ℕ) → bucket ≡ bucket_at form s p → bucket < buckets
unfolding bucket_at
bucket_most form s p bucket e = omega (arith, e)

bucket_same : (form : Form) (s : List ℕ) (p q : ℕ) → Counted form s → EffectHere form s p → EffectHere form s q
    → contradictory_as form s (effect_from form s p) (effect_from form s q) ≡ true → bucket_at form s q ≡ bucket_at form s p
bucket_same Flags s p q counted here there h = flags_bucket s p q h
bucket_same Valued s p q counted here there h = values_bucket s p q (counted_values Valued s refl counted) here there h

-- THE CHAIN.
module _ (form : Form) (s t : List ℕ) (k : ℕ) where
  abbrev New : ℕ
  New = place_in t (k + 1)

  abbrev Against : ℕ → Bool
  Against j = contradictory_as form s (effect_from form s New) (effect_from form s (place_in t j))

  among_first : (j : ℕ) → 0 < j → among form s t k j ≡ either (Against j) (among form s t k (j - 1))
  unfolding among effects_before some_of
  among_first zero h = absurd (omega arith)
  among_first (suc j) h =
      let up : j + 1 ≡ suc j = omega arith in
      let down : j ≡ suc j - 1 = omega arith in
      ap (λ (i : ℕ). either (Against i) (among form s t k j)) up
      ∙ ap (λ (i : ℕ). either (Against (suc j)) (among form s t k i)) down

  among_none : (j : ℕ) → j ≤ 0 → among form s t k j ≡ false
  unfolding among effects_before some_of
  among_none j h = let e : j ≡ zero = omega arith in rw e

  -- Effects between two numbers are skipped where none of them is in the bucket.
  module _ (counted : Counted form s) (here : EffectsHere form s t (k + 1)) where
    effects_skip : (i j : ℕ) → i ≤ k → j ≤ i → ((m : ℕ) → j < m → m ≤ i → bucket_at form s (place_in t m) ≡ bucket_at form s New → ⊥) → among form s t k i ≡ among form s t k j
    unfolding among effects_before some_of either
    effects_skip zero j few h none = let e : j ≡ zero = omega arith in rw e
    effects_skip (suc i) j few h none =
        elim (ℕ_discrete j (suc i)) [
          | yes e ↦ rw e
          | no d ↦
              let apart : Against (i + 1) ≡ false = by-test _
              (λ e. absurd (none (i + 1) (omega arith) (omega arith) (bucket_same form s New (place_in t (i + 1)) counted (here.line k (omega arith)) (here.line i (omega arith)) e)))
              (λ e. e) in
              rw apart (effects_skip i j (omega arith) (omega arith) (λ m lo hi. none m lo (omega arith)))
        ]

module _ (form : Form) (s t : List ℕ) (k : ℕ) (here : EffectsHere form s t (k + 1)) where
  new_here : EffectHere form s (New form s t k)
  new_here = here.line k (omega arith)

  module _ (p : ℕ) (at : p ≡ New form s t k) where
    pub new_fit : EffectHere form s p
    new_fit = subst (EffectHere form s) (sym at) new_here

    module _ (bucket : ℕ) (is : bucket ≡ bucket_at form s p) where
      pub last_there : line_numbers + bucket < linked_slots
      last_there = let most = bucket_most form s p bucket is in omega arith

      pub last_fits : Fits w64 (line_numbers + bucket)
      last_fits = let most = bucket_most form s p bucket is in record { fits = omega arith }

      module _ (same : List ℕ) (linked : Linked form s t same k) (counted : Counted form s) (j : ℕ) (read : j ≡ get_or same (line_numbers + bucket) 0) where
        last_is : Last form s t k (bucket_at form s (New form s t k)) j
        last_is =
            subst (λ (x : ℕ). Last form s t k x j) (is ∙ ap (bucket_at form s) at)
            (subst (Last form s t k bucket) (sym read) (linked.last bucket (bucket_most form s p bucket is)))

        pub sought_starts : Sought form s t k j
        sought_starts = record { most = last_is.most; has = last_is.has; rest = effects_skip form s t k counted here k j (omega arith) last_is.most last_is.none }

        pub none_sought : j ≡ 0 → false ≡ among form s t k k
        none_sought e = sym (sought_starts.rest ∙ among_none form s t k j (omega arith))

  module _ (j : ℕ) (sought : Sought form s t k j) where
    pub sought_below : k < 255 → j < line_numbers
    sought_below h = let most = sought.most in omega arith

    pub sought_there : k < 255 → j < linked_slots
    sought_there h = let most = sought.most in omega arith

    pub sought_done : j ≤ 0 → false ≡ among form s t k k
    sought_done h = sym (sought.rest ∙ among_none form s t k j h)

    module _ (same : List ℕ) (linked : Linked form s t same k) (more : 0 < j) where
      up : j - 1 + 1 ≡ j
      up = omega arith

      below : j - 1 < k
      below = let most = sought.most in omega arith

      before_is : Last form s t (j - 1) (bucket_at form s (place_in t j)) (get_or same j 0)
      before_is = subst (λ (x : ℕ). Last form s t (j - 1) (bucket_at form s (place_in t x)) (get_or same x 0)) up (linked.line (j - 1) below)

      pub sought_less : (i : ℕ) → i ≡ get_or same j 0 → i < j
      sought_less i e = let most = before_is.most in omega arith

      module _ (q : ℕ) (at : q ≡ place_in t j) where
        pub sought_fit : EffectHere form s q
        sought_fit = subst (EffectHere form s) (ap (place_in t) up ∙ sym at) (here.line (j - 1) (let less = below in omega arith))

        module _ (p : ℕ) (met : Bool) (new : p ≡ place_in t (k + 1)) (tested : met ≡ contradictory_as form s (effect_from form s p) (effect_from form s q)) where
          met_is : contradictory_as form s (effect_from form s (New form s t k)) (effect_from form s (place_in t j)) ≡ met
          met_is = rw (sym new, sym at) (sym tested)

          rest_is : among form s t k k ≡ either met (among form s t k (j - 1))
          rest_is = sought.rest ∙ among_first form s t k j more ∙ ap (λ (b : Bool). either b (among form s t k (j - 1))) met_is

          pub sought_met : met ≡ true → true ≡ among form s t k k
          unfolding either
          sought_met e = sym (rest_is ∙ ap (λ (b : Bool). either b (among form s t k (j - 1))) e)

          pub sought_next : Counted form s → (i : ℕ) → met ≡ false → i ≡ get_or same j 0 → Sought form s t k i
          unfolding either
          sought_next counted i e read =
              let last : Last form s t (j - 1) (bucket_at form s (New form s t k)) i = subst (λ (x : ℕ). Last form s t (j - 1) x i) (sought.has more) (subst (Last form s t (j - 1) (bucket_at form s (place_in t j))) (sym read) before_is) in
              record {
                most = let most = last.most in let less = below in omega arith;
                has = last.has;
                rest = rest_is ∙ ap (λ (b : Bool). either b (among form s t k (j - 1))) e ∙ effects_skip form s t k counted here (j - 1) i (let less = below in omega arith) last.most last.none;
              }

-- ALL THE CHAINS, first empty.
pub linked_none : (form : Form) (s t : List ℕ) → Linked form s t (replicate linked_slots 0) 0
linked_none form s t =
    record {
      sized = length-replicate {A = ℕ} linked_slots 0;
      line = λ i h. absurd (omega arith);
      last = λ bucket h. subst (Last form s t 0 bucket) (sym (get_or-replicate {A = ℕ} linked_slots (line_numbers + bucket) 0 0 (omega arith))) (record { most = omega arith; has = λ more. absurd (omega arith); none = λ m lo hi _. absurd (omega arith) });
    }

-- One more effect is linked.
module _ (form : Form) (s t same : List ℕ) (k bucket : ℕ) (room : k < 255) (below : bucket < buckets) (linked : Linked form s t same k) (is : bucket ≡ bucket_at form s (place_in t (k + 1))) where
  abbrev After : List ℕ
  After = set (set same (k + 1) (get_or same (line_numbers + bucket) 0)) (line_numbers + bucket) (k + 1)

  after_sized : length After ≡ linked_slots
  after_sized = length-set (set same (k + 1) (get_or same (line_numbers + bucket) 0)) (line_numbers + bucket) (k + 1) ∙ length-set same (k + 1) (get_or same (line_numbers + bucket) 0) ∙ linked.sized

  after_new : get_or After (k + 1) 0 ≡ get_or same (line_numbers + bucket) 0
  after_new =
      get_or-set_other (set same (k + 1) (get_or same (line_numbers + bucket) 0)) (line_numbers + bucket) (k + 1) (k + 1) 0 (λ q. omega arith)
      ∙ get_or-set_same same (k + 1) (get_or same (line_numbers + bucket) 0) 0 (omega (arith, linked.sized))

  after_last : get_or After (line_numbers + bucket) 0 ≡ k + 1
  after_last = get_or-set_same (set same (k + 1) (get_or same (line_numbers + bucket) 0)) (line_numbers + bucket) (k + 1) 0 (omega (arith, length-set same (k + 1) (get_or same (line_numbers + bucket) 0), linked.sized))

  after_other : (i : ℕ) → (i ≡ line_numbers + bucket → ⊥) → (i ≡ k + 1 → ⊥) → get_or After i 0 ≡ get_or same i 0
  after_other i apart new =
      get_or-set_other (set same (k + 1) (get_or same (line_numbers + bucket) 0)) (line_numbers + bucket) i (k + 1) 0 apart
      ∙ get_or-set_other same (k + 1) i (get_or same (line_numbers + bucket) 0) 0 new

  after_line : (i : ℕ) → i < k + 1 → Last form s t i (bucket_at form s (place_in t (i + 1))) (get_or After (i + 1) 0)
  after_line i h =
      elim (ℕ_discrete i k) [
        | yes e ↦ rw e (rw (sym is, after_new) (linked.last bucket below))
        | no d ↦ subst (Last form s t i (bucket_at form s (place_in t (i + 1)))) (sym (after_other (i + 1) (λ q. omega arith) (λ q. omega arith))) (linked.line i (omega arith))
      ]

  after_bucket : (x : ℕ) → x < buckets → Last form s t (k + 1) x (get_or After (line_numbers + x) 0)
  after_bucket x h =
      elim (ℕ_discrete x bucket) [
        | yes e ↦ rw e (subst (Last form s t (k + 1) bucket) (sym after_last) (record { most = omega arith; has = λ _. sym is; none = λ m lo hi _. omega arith }))
        | no d ↦
            let old = linked.last x h in
            subst (Last form s t (k + 1) x) (sym (after_other (line_numbers + x) (λ q. omega arith) (λ q. omega arith))) (
            record {
              most = let most = old.most in omega arith;
              has = old.has;
              none = λ m lo hi q. elim (ℕ_discrete m (k + 1)) [
                | yes e ↦ d (sym q ∙ ap (λ (i : ℕ). bucket_at form s (place_in t i)) e ∙ sym is)
                | no less ↦ old.none m lo (omega arith) q
              ];
            }
            )
      ]

  linked_after : Linked form s t (bucket_linked bucket (k + 1) same) (k + 1)
  unfolding bucket_linked
  linked_after = record { sized = after_sized; line = after_line; last = after_bucket }

-- THE LOOP over the effects.
pub effects_start : (form : Form) (s t : List ℕ) (count : ℕ) → first_against (contradictory_as form s) [] (effects_in form s t 0 count) ≡ first_against (contradictory_as form s) (effects_before form s t 0) (effects_in form s t 0 (count - 0))
unfolding effects_before
effects_start form s t count = let same : count - 0 ≡ count = omega arith in rw same

before_next : (form : Form) (s t : List ℕ) (k : ℕ) → effects_before form s t (k + 1) ≡ effect_from form s (place_in t (k + 1)) ∷ effects_before form s t k
unfolding effects_before
before_next form s t k = ap (effects_before form s t) (add-one k)

module _ (form : Form) (s t : List ℕ) (count k : ℕ) (most : count ≤ 255) (here : EffectsHere form s t count) (more : k < count) where
  pub here_first : EffectsHere form s t (k + 1)
  here_first = record { line = λ i h. here.line i (omega arith) }

  module _ (p : ℕ) (at : p ≡ place_in t (k + 1)) where
    pub line_here : EffectHere form s p
    line_here = subst (EffectHere form s) (sym at) (here.line k more)

    module _ (bucket : ℕ) (placed : bucket ≡ bucket_at form s p) where
      pub line_bucket : bucket < buckets
      line_bucket = bucket_most form s p bucket placed

      pub linked_next : (same same' : List ℕ) → Linked form s t same k → same' ≡ bucket_linked bucket (k + 1) same → Linked form s t same' (k + 1)
      linked_next same same' linked e = subst (λ (x : List ℕ). Linked form s t x (k + 1)) (sym e) (linked_after form s t same k bucket (omega arith) line_bucket linked (placed ∙ ap (bucket_at form s) at))

  module _ (whole : Refusals.Found) (so_far : whole ≡ first_against (contradictory_as form s) (effects_before form s t k) (effects_in form s t k (count - k))) (met : Bool)
      (tested : met ≡ among form s t k k) where
    first_is : whole ≡ pick met (λ _. Refusals.Found.at (place_in t (k + 1))) (λ _. first_against (contradictory_as form s) (effects_before form s t (k + 1)) (effects_in form s t (k + 1) (count - (k + 1))))
    unfolding first_against effects_in effect_from among
    first_is =
        let left : count - k ≡ suc (count - (k + 1)) = omega arith in
        so_far ∙ rw (left, tested, before_next form s t k)

    pub effects_met : (p : ℕ) → p ≡ place_in t (k + 1) → met ≡ true → Some p ≡ found whole
    unfolding found
    effects_met p at e = sym (ap found (first_is ∙ pick_true _ _ _ e) ∙ ap Some (sym at))

    pub effects_next : met ≡ false → whole ≡ first_against (contradictory_as form s) (effects_before form s t (k + 1)) (effects_in form s t (k + 1) (count - (k + 1)))
    effects_next e = first_is ∙ pick_false _ _ _ e

pub effects_done : (form : Form) (s t : List ℕ) (count k : ℕ) (whole : Refusals.Found) → count ≤ k → whole ≡ first_against (contradictory_as form s) (effects_before form s t k) (effects_in form s t k (count - k)) → None ≡ found whole
unfolding first_against effects_in found
effects_done form s t count k whole h so_far = let none : count - k ≡ zero = omega arith in let is : whole ≡ Refusals.Found.nowhere = so_far ∙ rw none in sym (ap found is)

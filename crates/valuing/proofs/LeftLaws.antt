-- The values that lists leave to each fluent: a list's literals narrow the sets one by one, in whatever order, and what a set has lost at one literal it
-- lacks at the end. Assumes nothing.
use Prim.Native.Nat.{ℕ, ◌/◌, ◌%◌, ◌<◌}
use native.Mathlib.Omega.{arith}
use native.Mathlib.Decide.{ℕ_discrete}
use mathlib.Core.Path.{◌≡◌, refl, sym, ◌∙◌, ap, subst}
use mathlib.Core.Bool.{Bool, true, false}
use mathlib.Core.List.{List, [], ◌∷◌}
use mathlib.Core.Logic.{◌⊎◌, inl, inr, ⊎_elim}
use lib.ListN.{length, get_or, replicate, length-set, length-replicate, get_or-replicate}
use lib.Seq.{get_or-set_same, get_or-set_other}
use lib.Dec.{eqb}
use borrow.Author.Tests.{eq-eqb, ne_eqb}
use Rattle.meaning.specs.Tests.{both, either, fails, each_of, Has}
use Rattle.meaning.specs.Limits.{format}
use Rattle.meaning.specs.Reading.{values_in, literals_in}
use Rattle.meaning.specs.Values.{numbers, values_of, fits}
use Rattle.meaning.proofs.TestLaws.{by-test, clash, both_all, both_true, both_left, both_right, some_has, has_some, each_has, has_each}
use Rattle.meaning.proofs.ValueLaws.{numbers_has}
use Rattle.parsing.specs.Bits.{bit_of}
use Rattle.parsing.specs.Masks.{every_value, satisfying, some_left, narrowed, Allows, FewValues}
use Rattle.parsing.proofs.MaskLaws.{bit_both, satisfied_bit, every_bit}
use Rattle.valuing.specs.Valuing.{agreeing}

-- ONE LITERAL takes away what does not satisfy it, of the set of its fluent.
unfoldable pub lets : (s : List ℕ) (literal fluent value : ℕ) → Bool
lets s l f v = either (fails (eqb (l / 256) f)) ((literals_in s).satisfied l v)

module _ (s sets : List ℕ) (sized : length sets ≡ format.fluents) (l v : ℕ) (near : l < 32768) (second : l % 256 < 32) (low : v < 16) where
  bit_narrowed : (f : ℕ) → bit_of (get_or (narrowed l sets) f 0) v ≡ both (bit_of (get_or sets f 0) v) (lets s l f v)
  unfolding narrowed lets either fails
  bit_narrowed f =
      elim (ℕ_discrete (l / 256) f) [
        | yes same ↦ subst (λ (g : ℕ). bit_of (get_or (narrowed l sets) g 0) v ≡ both (bit_of (get_or sets g 0) v) (lets s l g v)) same there
        | no other ↦
            ap (λ (m : ℕ). bit_of m v) (get_or-set_other sets (l / 256) f _ 0 (λ e. other (sym e))) ∙ sym (both_all _)
            ∙ ap (λ (x : Bool). both (bit_of (get_or sets f 0) v) (either (fails x) ((literals_in s).satisfied l v))) (sym (ne_eqb (l / 256) f other))
      ]
    where
      there : bit_of (get_or (narrowed l sets) (l / 256) 0) v ≡ both (bit_of (get_or sets (l / 256) 0) v) (lets s l (l / 256) v)
      there =
          ap (λ (m : ℕ). bit_of m v) (get_or-set_same sets (l / 256) _ 0 (subst (λ (n : ℕ). l / 256 < n) (sym sized) (omega arith)))
          ∙ bit_both (get_or sets (l / 256) 0) (satisfying l) v
          ∙ ap (both (bit_of (get_or sets (l / 256) 0) v)) (satisfied_bit s l v second low)
          ∙ ap (λ (x : Bool). both (bit_of (get_or sets (l / 256) 0) v) (either (fails x) ((literals_in s).satisfied l v))) (sym (eq-eqb (l / 256) (l / 256) refl))

pub fits_more : (s : List ℕ) (l : ℕ) (b : List ℕ) (f v : ℕ) → fits (literals_in s) (l ∷ b) f v ≡ both (lets s l f v) (fits (literals_in s) b f v)
unfolding fits each_of lets
fits_more s l b f v = refl

both_moved : (a b c : Bool) → both (both a b) c ≡ both a (both c b)
unfolding both
both_moved true true true = refl
both_moved true true false = refl
both_moved true false true = refl
both_moved true false false = refl
both_moved false b c = refl

both_passed : (a b c : Bool) → both (both a b) c ≡ both b (both a c)
unfolding both
both_passed true b c = refl
both_passed false true c = refl
both_passed false false c = refl

-- THE LOOP over a list's literals: the sets that are kept are those at first without what the literals so far take away, and these with the literals that are left
-- say what all of them say.
pub record NarrowAhead (s sets all kept left : List ℕ) : Type 0 where
  pub before : List ℕ
  pub sized : length kept ≡ format.fluents
  pub bits : (f v : ℕ) → v < 16 → bit_of (get_or kept f 0) v ≡ both (bit_of (get_or sets f 0) v) (fits (literals_in s) before f v)
  pub together : (f v : ℕ) → both (fits (literals_in s) before f v) (fits (literals_in s) left f v) ≡ fits (literals_in s) all f v

module _ (s all : List ℕ) where
  narrow_starts : (sets left : List ℕ) → length sets ≡ format.fluents → left ≡ all → NarrowAhead s sets all sets left
  unfolding fits each_of both
  narrow_starts sets left sized whole =
      record {
        before = [];
        sized = sized;
        bits = λ f v low. sym (both_all _);
        together = λ f v. ap (λ (ls : List ℕ). fits (literals_in s) ls f v) whole;
      }

  module _ (sets kept left : List ℕ) (so : NarrowAhead s sets all kept left) where
    narrow_on : (l : ℕ) (others : List ℕ) → left ≡ l ∷ others → l < 32768 → l % 256 < 32 → NarrowAhead s sets all (narrowed l kept) others
    unfolding narrowed
    narrow_on l others turn near second =
        record {
          before = l ∷ so.before;
          sized = length-set kept (l / 256) _ ∙ so.sized;
          bits = λ f v low.
              bit_narrowed s kept so.sized l v near second low f
              ∙ ap (λ (x : Bool). both x (lets s l f v)) (so.bits f v low)
              ∙ both_moved _ _ _
              ∙ ap (both (bit_of (get_or sets f 0) v)) (sym (fits_more s l so.before f v));
          together = λ f v.
              ap (λ (x : Bool). both x (fits (literals_in s) others f v)) (fits_more s l so.before f v)
              ∙ both_passed _ _ _
              ∙ ap (both (fits (literals_in s) so.before f v)) (sym (ap (λ (ls : List ℕ). fits (literals_in s) ls f v) turn ∙ fits_more s l _ f v))
              ∙ so.together f v;
        }

    -- With no literal left, those before say what all of them say.
    narrow_over : left ≡ [] → (f v : ℕ) → fits (literals_in s) so.before f v ≡ fits (literals_in s) all f v
    unfolding fits each_of
    narrow_over none f v =
        sym (both_all _)
        ∙ ap (λ (ls : List ℕ). both (fits (literals_in s) so.before f v) (fits (literals_in s) ls f v)) (sym none)
        ∙ so.together f v

  -- WHAT A LIST LEAVES, from all the values on.
  pub allowed_starts : (left : List ℕ) → left ≡ all → NarrowAhead s (replicate format.fluents every_value) all (replicate format.fluents every_value) left
  allowed_starts left whole = narrow_starts (replicate format.fluents every_value) left (length-replicate format.fluents every_value) whole

  module _ (kept left : List ℕ) (so : NarrowAhead s (replicate format.fluents every_value) all kept left) where
    pub allowed_on : (l : ℕ) (others : List ℕ) → left ≡ l ∷ others → l < 32768 → l % 256 < 32 → (new : List ℕ) → new ≡ narrowed l kept
        → NarrowAhead s (replicate format.fluents every_value) all new others
    allowed_on l others turn near second new e =
        subst (λ (sets : List ℕ). NarrowAhead s (replicate format.fluents every_value) all sets others) (sym e) (narrow_on _ kept left so l others turn near second)

    pub allowed_over : left ≡ [] → Allows s all kept
    unfolding both
    allowed_over none =
        record {
          sized = so.sized;
          bits = λ f v near low.
              so.bits f v low
              ∙ ap (λ (x : Bool). both x (fits (literals_in s) so.before f v)) (ap (λ (m : ℕ). bit_of m v) (get_or-replicate format.fluents f every_value 0 near) ∙ every_bit v low)
              ∙ narrow_over _ kept left so none f v;
        }

-- WHAT TWO LISTS LEAVE. Each literal so far leaves its fluent a value.
pub record AgreeAhead (s sets all kept left : List ℕ) : Type 0 where
  pub narrow : NarrowAhead s sets all kept left
  pub ahead : (l : ℕ) → Has all l → Has narrow.before l ⊎ Has left l
  pub within : (l : ℕ) → Has left l → Has all l
  pub good : (l : ℕ) → Has narrow.before l → some_left (get_or kept (l / 256) 0) (values_in s (l / 256)) ≡ true

module _ (s sets all : List ℕ) where
  pub agree_starts : (left : List ℕ) → length sets ≡ format.fluents → left ≡ all → AgreeAhead s sets all sets left
  unfolding narrow_starts
  agree_starts left sized whole =
      record {
        narrow = narrow_starts s all sets left sized whole;
        ahead = λ l h. inr (subst (λ (ls : List ℕ). Has ls l) (sym whole) h);
        within = λ l h. subst (λ (ls : List ℕ). Has ls l) whole h;
        good = λ l h. absurd h;
      }

  module _ (few : FewValues s) (kept left : List ℕ) (so : AgreeAhead s sets all kept left) where
    pub agree_over : left ≡ [] → true ≡ agreeing s sets all
    unfolding agreeing some_left values_of
    agree_over none =
        sym (has_each _ all
        (λ l has.
        let t = some_has (bit_of (get_or kept (l / 256) 0)) (numbers 0 (values_in s (l / 256))) (so.good l (read l (so.ahead l has))) in
        has_some _ (numbers 0 (values_in s (l / 256))) t.0 t.1
        (ap (both (bit_of (get_or sets (l / 256) 0) t.0)) (sym (narrow_over s all sets kept left so.narrow none (l / 256) t.0))
        ∙ sym (so.narrow.bits (l / 256) t.0 (low l t.0 t.1)) ∙ t.2)))
      where
        low : (l v : ℕ) → Has (numbers 0 (values_in s (l / 256))) v → v < 16
        low l v there = let below = numbers_has 0 (values_in s (l / 256)) v there in let most = few.each (l / 256) in omega arith

        read : (l : ℕ) → Has so.narrow.before l ⊎ Has left l → Has so.narrow.before l
        read l (inl b) = b
        read l (inr b) = absurd (subst (λ (ls : List ℕ). Has ls l) none b)

    module _ (l : ℕ) (others : List ℕ) (turn : left ≡ l ∷ others) (near : l < 32768) (second : l % 256 < 32)
        (new : List ℕ) (narrower : new ≡ narrowed l kept) (values : ℕ) (count : values ≡ values_in s (l / 256)) (some : Bool) (told : some ≡ some_left (get_or new (l / 256) 0) values) where
      narrow_new : NarrowAhead s sets all new others
      narrow_new = subst (λ (ks : List ℕ). NarrowAhead s sets all ks others) (sym narrower) (narrow_on s all sets kept left so.narrow l others turn near second)

      left_new : some ≡ some_left (get_or new (l / 256) 0) (values_in s (l / 256))
      left_new = told ∙ ap (some_left (get_or new (l / 256) 0)) count

      pub agree_on : some ≡ true → AgreeAhead s sets all new others
      unfolding narrowed narrow_on
      agree_on yet =
          subst (λ (ks : List ℕ). AgreeAhead s sets all ks others) (sym narrower)
          (record {
            narrow = narrow_on s all sets kept left so.narrow l others turn near second;
            ahead = λ k h. moved k (so.ahead k h);
            within = λ k h. so.within k (subst (λ (ls : List ℕ). Has ls k) (sym turn) (inr h));
            good = λ k h. kept_good k (ℕ_discrete (k / 256) (l / 256)) h;
          })
        where
          moved : (k : ℕ) → Has so.narrow.before k ⊎ Has left k → Has (l ∷ so.narrow.before) k ⊎ Has others k
          moved k (inl b) = inl (inr b)
          moved k (inr b) = ⊎_elim (λ e. inl (inl e)) inr (subst (λ (ls : List ℕ). Has ls k) turn b)

          here_good : some_left (get_or (narrowed l kept) (l / 256) 0) (values_in s (l / 256)) ≡ true
          here_good = ap (λ (ks : List ℕ). some_left (get_or ks (l / 256) 0) (values_in s (l / 256))) (sym narrower) ∙ sym left_new ∙ yet

          kept_good : (k : ℕ) → Dec (k / 256 ≡ l / 256) → Has (l ∷ so.narrow.before) k → some_left (get_or (narrowed l kept) (k / 256) 0) (values_in s (k / 256)) ≡ true
          kept_good k (yes same) h = subst (λ (f : ℕ). some_left (get_or (narrowed l kept) f 0) (values_in s f) ≡ true) (sym same) here_good
          kept_good k (no other) (inl e) = absurd (other (ap (λ (x : ℕ). x / 256) e))
          kept_good k (no other) (inr h) = ap (λ (m : ℕ). some_left m (values_in s (k / 256))) (get_or-set_other kept (l / 256) (k / 256) _ 0 other) ∙ so.good k h

      pub agree_none : some ≡ false → false ≡ agreeing s sets all
      unfolding agreeing some_left values_of
      agree_none none =
          by-test (agreeing s sets all)
          (λ e.
          let one = each_has _ all l e (so.within l (subst (λ (ls : List ℕ). Has ls l) (sym turn) (inl refl))) in
          let t = some_has _ (numbers 0 (values_in s (l / 256))) one in
          let v = t.0 in
          let both_of = both_right _ _ t.2 in
          let fit = both_left _ _ (narrow_new.together (l / 256) v ∙ both_of) in
          clash (left_new ∙ has_some (bit_of (get_or new (l / 256) 0)) (numbers 0 (values_in s (l / 256))) v t.1
          (narrow_new.bits (l / 256) v (low v t.1) ∙ both_true _ _ (both_left _ _ t.2) fit)) none)
          (λ e. sym e)
        where
          low : (v : ℕ) → Has (numbers 0 (values_in s (l / 256))) v → v < 16
          low v there = let below = numbers_has 0 (values_in s (l / 256)) v there in let most = few.each (l / 256) in omega arith

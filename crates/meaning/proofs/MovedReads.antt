-- What a reader gives is written where it was read, and is read again wherever it is written: a reader looks at no byte but those that it passes,
-- and each of its tests is about these. Of a plan the places alone differ. Assumes nothing.
use Prim.Native.Nat.{ℕ, zero, suc, ◌+◌, ◌*◌, ◌/◌, ◌%◌, ◌≤◌, ◌<◌}
use native.Mathlib.Omega.{arith}
use mathlib.Core.Path.{◌≡◌, refl, sym, ◌∙◌, ap, ap₂, subst}
use mathlib.Core.List.{List, [], ◌∷◌, ◌++◌}
use lib.ListN.{length, get_or}
use borrow.Author.Tests.{leb-false, lt-leb}
use Rattle.meaning.specs.Reading
use Rattle.meaning.specs.Reading.{Got, got, next, byte_at, two_bytes_at, count_at, below_at, entry_at, entries_at, list_at, repeated}
use Rattle.meaning.specs.Layouts.{Bytes, list_written, number_written, numbers_written}
use Rattle.meaning.proofs.TestLaws.{pick_false}
use Rattle.meaning.proofs.GotLaws.{On, got_on, refuse_on, next_on}

-- After a part that gives something comes what follows it.
module _ {A B : Type 0} where
  pub next_is : (m : Got A) (k : A → ℕ → Got B) (x : A) (q : ℕ) → m ≡ got x q → next m k ≡ k x q
  unfolding next
  next_is m k x q e = ap (λ (y : Got A). next y k) e

-- IN THE INPUT. From p up to e stand these bytes.
abbrev pub Stands : List ℕ → ℕ → List ℕ → ℕ → Type 0
Stands s p [] e = p ≡ e
Stands s p (x ∷ xs) e = (p < length s) × (get_or s p 0 ≡ x) × Stands s (p + 1) xs e

module _ (s : List ℕ) where
  pub stands_both : (p : ℕ) (xs : List ℕ) (q : ℕ) (ys : List ℕ) (e : ℕ) → Stands s p xs q → Stands s q ys e → Stands s p (xs ++ ys) e
  stands_both p [] q ys e one more = subst (λ (o : ℕ). Stands s o ys e) (sym one) more
  stands_both p (x ∷ xs) q ys e one more = (one.0, one.1, stands_both (p + 1) xs q ys e one.2 more)

  pub stands_parts : (p : ℕ) (xs ys : List ℕ) (e : ℕ) → Stands s p (xs ++ ys) e → (q : ℕ) × Stands s p xs q × Stands s q ys e
  stands_parts p [] ys e all = (p, refl, all)
  stands_parts p (x ∷ xs) ys e all = let w = stands_parts (p + 1) xs ys e all.2 in (w.0, (all.0, all.1, w.1), w.2)

-- What was read from p up to e is written there, and is read wherever it is written.
pub record Copied {A : Type 0} (read : List ℕ → ℕ → Got A) (code : A → List ℕ) (s : List ℕ) (p : ℕ) (x : A) (e : ℕ) : Type 0 where
  pub there : Stands s p (code x) e
  pub again : (u : List ℕ) (q f : ℕ) → Stands u q (code x) f → read u q ≡ got x f

-- One byte, and what is written in one.
abbrev one_byte : ℕ → List ℕ
one_byte x = x ∷ []

pub byte_stands : (u : List ℕ) (q x f : ℕ) → Stands u q (x ∷ []) f → byte_at u q ≡ got x f
unfolding byte_at
byte_stands u q x f st = pick_false _ _ _ (lt-leb (length u) q st.0) ∙ ap₂ {C = Got ℕ} (λ y o. got y o) st.1 st.2

module _ (s : List ℕ) where
  pub byte_copied : (p : ℕ) → On (byte_at s p) (Copied byte_at one_byte s p)
  unfolding byte_at
  byte_copied p = refuse_on _ _ _ _ λ inside. got_on _ _ (record { there = (leb-false (length s) p inside, refl, refl); again = λ u q f st. byte_stands u q (get_or s p 0) f st })

  pub count_copied : (least most p : ℕ) → On (count_at least most s p) (Copied (count_at least most) one_byte s p)
  unfolding count_at
  count_copied least most p =
      next_on (byte_at s p) _ (byte_copied p) λ c q one.
      refuse_on _ _ _ _ λ within.
      got_on _ _ (record { there = one.there; again = λ u o f st. next_is _ _ _ _ (one.again u o f st) ∙ pick_false _ _ _ within })

  pub below_copied : (bound p : ℕ) → On (below_at bound s p) (Copied (below_at bound) one_byte s p)
  unfolding below_at
  below_copied bound p =
      next_on (byte_at s p) _ (byte_copied p) λ x q one.
      refuse_on _ _ _ _ λ within.
      got_on _ _ (record { there = one.there; again = λ u o f st. next_is _ _ _ _ (one.again u o f st) ∙ pick_false _ _ _ within })

  -- A count byte, and what has as many entries.
  pub counted_copied : (count : List ℕ → ℕ → Got ℕ) (entries : List ℕ → ℕ → ℕ → Got (List ℕ)) (code : List ℕ → List ℕ) (p : ℕ)
      → On (count s p) (Copied count one_byte s p)
      → ((c q : ℕ) → On (entries s c q) (λ xs e. Copied (λ u. entries u c) code s q xs e × (length xs ≡ c)))
      → On (next (count s p) (entries s)) (Copied (λ u q. next (count u q) (entries u)) (λ xs. length xs ∷ code xs) s p)
  counted_copied count entries code p first rest =
      next_on _ _ first λ c q one.
      record {
        holds = λ xs e read.
            let more = (rest c q).holds xs e read in
            let here = one.there in
            record {
              there = (here.0, here.1 ∙ sym more.1, subst (λ (o : ℕ). Stands s o (code xs) e) (sym here.2) more.0.there);
              again = λ u o f st. next_is _ _ _ _ (one.again u o (o + 1) (st.0, st.1 ∙ more.1, refl)) ∙ more.0.again u (o + 1) f st.2;
            };
      }

-- LISTS.
module _ (kind : Reading.Kind) (n : ℕ) (s : List ℕ) where
  entry_copied : (p floor : ℕ) → On (entry_at kind n s p floor) (Copied (λ u q. entry_at kind n u q floor) one_byte s p)
  unfolding entry_at
  entry_copied p floor =
      next_on _ _ (below_copied s (Reading.bound_of kind n) p) λ x q one.
      refuse_on _ _ _ _ λ above.
      refuse_on _ _ _ _ λ apart.
      got_on _ _ (record {
        there = one.there;
        again = λ u o f st. next_is _ _ _ _ (one.again u o f st) ∙ pick_false _ _ _ above ∙ pick_false _ _ _ apart;
      })

  entries_copied : (left p floor : ℕ) → On (entries_at kind n s left p floor) (λ xs e. Copied (λ u q. entries_at kind n u left q floor) (λ ys. ys) s p xs e × (length xs ≡ left))
  unfolding entries_at
  entries_copied zero p floor = got_on _ _ (record { there = refl; again = λ u q f st. ap (λ (o : ℕ). got [] o) st }, refl)
  entries_copied (suc left) p floor =
      next_on _ _ (entry_copied p floor) λ x q one.
      next_on _ _ (entries_copied left q (x + 1)) λ xs r more.
      got_on _ _ (
        record {
          there = stands_both s p (x ∷ []) q xs r one.there more.0.there;
          again = λ u o f st. next_is _ _ _ _ (one.again u o (o + 1) (st.0, st.1, refl)) ∙ next_is _ _ _ _ (more.0.again u (o + 1) f st.2);
        },
        ap suc more.1,
      )

  pub list_copied : (most p : ℕ) → On (list_at kind n most s p) (Copied (list_at kind n most) list_written s p)
  unfolding list_at list_written
  list_copied most p = counted_copied s (count_at 0 most) (λ u c q. entries_at kind n u c q 0) (λ xs. xs) p (count_copied s 0 most p) (λ c q. entries_copied c q 0)

-- TWO-BYTE NUMBERS.
pub number_stands : (u : List ℕ) (q k f : ℕ) → Stands u q (number_written k) f → two_bytes_at u q ≡ got k f
unfolding two_bytes_at number_written
number_stands u q k f st =
    let is : k / 256 * 256 + k % 256 ≡ k = omega arith in
    next_is _ _ _ _ (byte_stands u q (k / 256) (q + 1) (st.0, st.1, refl)) ∙ next_is _ _ _ _ (byte_stands u (q + 1) (k % 256) f st.2) ∙ ap (λ (j : ℕ). got j f) is

pub numbers_stand : (u : List ℕ) (q : ℕ) (ks : List ℕ) (f : ℕ) → Stands u q (numbers_written ks) f → repeated (two_bytes_at u) (length ks) q ≡ got ks f
unfolding repeated numbers_written
numbers_stand u q [] f st = ap (λ (o : ℕ). got [] o) st
numbers_stand u q (k ∷ ks) f st =
    let parts = stands_parts u q (number_written k) (numbers_written ks) f st in
    next_is _ _ _ _ (number_stands u q k parts.0 parts.1) ∙ next_is _ _ _ _ (numbers_stand u parts.0 ks f parts.2)

module _ (s : List ℕ) (bytes : Bytes s) where
  pub two_bytes_copied : (p : ℕ) → On (two_bytes_at s p) (Copied two_bytes_at number_written s p)
  unfolding two_bytes_at number_written
  two_bytes_copied p =
      next_on (byte_at s p) _ (byte_copied s p) λ high q one.
      next_on (byte_at s q) _ (byte_copied s q) λ low r two.
      let first = one.there in let second = two.there in
      let small = bytes q in
      let k = high * 256 + low in
      let is_low : k % 256 ≡ low = omega arith in
      let is_high : k / 256 ≡ high = omega arith in
      got_on _ _ (record {
        there = (first.0, first.1 ∙ sym is_high, subst (λ (o : ℕ). Stands s o (k % 256 ∷ []) r) (sym first.2) (second.0, second.1 ∙ sym is_low, second.2));
        again = λ u o f st. number_stands u o k f st;
      })

  pub numbers_copied : (left p : ℕ) → On (repeated (two_bytes_at s) left p) (λ ks e. Stands s p (numbers_written ks) e × (length ks ≡ left))
  unfolding repeated numbers_written
  numbers_copied zero p = got_on _ _ (refl, refl)
  numbers_copied (suc left) p =
      next_on _ _ (two_bytes_copied p) λ k q one.
      next_on _ _ (numbers_copied left q) λ ks r more.
      got_on _ _ (stands_both s p (number_written k) q (numbers_written ks) r one.there more.0, ap suc more.1)

-- THE WHOLE INPUT. What stands from its start up to its end is the input, and the input stands so.
module _ (y : ℕ) (s : List ℕ) where
  stands_behind : (p : ℕ) (xs : List ℕ) (e : ℕ) → Stands s p xs e → Stands (y ∷ s) (suc p) xs (suc e)
  stands_behind p [] e st = ap suc st
  stands_behind p (x ∷ xs) e st =
      let same : suc (p + 1) ≡ suc p + 1 = omega arith in
      let inside = st.0 in
      (omega arith, st.1, subst (λ (o : ℕ). Stands (y ∷ s) o xs (suc e)) same (stands_behind (p + 1) xs e st.2))

  stands_before : (p : ℕ) (xs : List ℕ) (e : ℕ) → Stands (y ∷ s) (suc p) xs (suc e) → Stands s p xs e
  stands_before p [] e st = omega arith
  stands_before p (x ∷ xs) e st =
      let same : suc p + 1 ≡ suc (p + 1) = omega arith in
      let inside = st.0 in
      (omega arith, st.1, stands_before (p + 1) xs e (subst (λ (o : ℕ). Stands (y ∷ s) o xs (suc e)) same st.2))

pub whole_stands : (s : List ℕ) → Stands s 0 s (length s)
whole_stands [] = refl
whole_stands (x ∷ xs) = (omega arith, refl, stands_behind x xs 0 xs (length xs) (whole_stands xs))

pub stands_whole : (s xs : List ℕ) → Stands s 0 xs (length s) → xs ≡ s
stands_whole [] [] st = refl
stands_whole [] (x ∷ xs) st = let inside = st.0 in absurd (omega arith)
stands_whole (y ∷ s) [] st = absurd (omega arith)
stands_whole (y ∷ s) (x ∷ xs) st = ap₂ {C = List ℕ} (λ z zs. z ∷ zs) (sym st.1) (stands_whole s xs (stands_before y s 0 xs (length s) st.2))

pub stands_inside : (s : List ℕ) (p : ℕ) (xs : List ℕ) (e : ℕ) → p ≤ length s → Stands s p xs e → e ≤ length s
stands_inside s p [] e h st = omega arith
stands_inside s p (x ∷ xs) e h st = let inside = st.0 in stands_inside s (p + 1) xs e (omega arith) st.2

-- Bytes that stand somewhere reach as far as they are long; and a part of an input stands behind what is before it.
pub stands_length : (s : List ℕ) (p : ℕ) (xs : List ℕ) (e : ℕ) → Stands s p xs e → e ≡ p + length xs
stands_length s p [] e st = omega (arith, st)
stands_length s p (x ∷ xs) e st = let more = stands_length s (p + 1) xs e st.2 in omega (arith, more)

pub part_stands : (pre xs post : List ℕ) → Stands (pre ++ (xs ++ post)) (length pre) xs (length pre + length xs)
part_stands pre xs post =
    let s = pre ++ (xs ++ post) in
    let one = stands_parts s 0 pre (xs ++ post) (length s) (whole_stands s) in
    let two = stands_parts s one.0 xs post (length s) one.2 in
    let first : one.0 ≡ length pre = stands_length s 0 pre one.0 one.1 ∙ omega arith in
    let second : two.0 ≡ length pre + length xs = stands_length s one.0 xs two.0 two.1 ∙ ap (λ (k : ℕ). k + length xs) first in
    subst (λ (p : ℕ). Stands s p xs (length pre + length xs)) first (subst (λ (q : ℕ). Stands s one.0 xs q) second two.1)

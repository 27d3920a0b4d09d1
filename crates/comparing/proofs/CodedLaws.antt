-- A plan is told by how many items it has and by their bytes, wherever it stands: each part says its length before it, so that what follows a
-- part is where it is. Joined plans have the bytes of both, and the first byte says what the first item is. Assumes nothing.
use Prim.Native.Nat.{ℕ, suc, ◌+◌, ◌/◌, ◌%◌, ◌≤◌}
use native.Mathlib.Omega.{arith}
use mathlib.Core.Path.{◌≡◌, refl, sym, ◌∙◌, ap, ap₂}
use mathlib.Core.Bool.{true, false≢true}
use mathlib.Core.List.{List, [], ◌∷◌, ◌++◌, append_assoc}
use lib.ListN.{length, length-append}
use lib.Dec.{eqb}
use borrow.Author.Tests.{eqb-true, eq-eqb, ne_eqb}
use Rattle.meaning.specs.Tests.{both}
use Rattle.meaning.specs.Requests.{Sequence, done, item, Item, act, branching, Branches, none, branch}
use Rattle.meaning.specs.Derivations.{same_list, same_plan, same_item, same_branches, join}
use Rattle.meaning.proofs.TestLaws.{same_test, both_left, both_right, both_true}
use Rattle.meaning.proofs.SetLaws.{same_list_is}
use Rattle.finding.specs.PlansHeld.{own_items, branches_in}
use Rattle.meaning.specs.declared.Form.TheVariants.{Flags}
use Rattle.reading.specs.Planned.{items_of, bytes_of, bytes_in, bytes_under}
use Rattle.comparing.proofs.SamePartLaws.{same_list_equal}
use Rattle.comparing.specs.Coded.{coded, coded_item, coded_branches, Tellable, TellableItem, TellableBranches}

-- LISTS of numbers.
abbrev head_of : List ℕ → ℕ
head_of [] = 0
head_of (x ∷ xs) = x

abbrev tail_of : List ℕ → List ℕ
tail_of [] = []
tail_of (x ∷ xs) = xs

pub heads : (x y : ℕ) (xs ys : List ℕ) → x ∷ xs ≡ y ∷ ys → x ≡ y
heads x y xs ys e = ap head_of e

pub tails : (x y : ℕ) (xs ys : List ℕ) → x ∷ xs ≡ y ∷ ys → xs ≡ ys
tails x y xs ys e = ap tail_of e

-- Lists of the same length, each with something behind it.
parted : (c d r q : List ℕ) → length c ≡ length d → c ++ r ≡ d ++ q → (c ≡ d) × (r ≡ q)
parted [] [] r q h e = (refl, e)
parted [] (y ∷ ys) r q h e = absurd (omega arith)
parted (x ∷ xs) [] r q h e = absurd (omega arith)
parted (x ∷ xs) (y ∷ ys) r q h e =
    let rest = parted xs ys r q (omega arith) (tails x y (xs ++ r) (ys ++ q) e) in
    (ap₂ {C = List ℕ} (λ z zs. z ∷ zs) (heads x y (xs ++ r) (ys ++ q) e) rest.0, rest.1)

-- FROM THE BYTES, with anything behind them.
branch_apart : (c b rest r : List ℕ) → c ++ b ++ rest ++ r ≡ c ++ (b ++ (rest ++ r))
branch_apart c b rest r = append_assoc (c ++ b) rest r ∙ append_assoc c b (rest ++ r)

mutual
  unfolding coded Tellable same_plan own_items branches_in

  told_sequence : (b d : Sequence ℕ) → own_items b ≡ own_items d → Tellable b → Tellable d → (r q : List ℕ) → coded b ++ r ≡ coded d ++ q → (same_plan b d ≡ true) × (r ≡ q)
  told_sequence done done h t u r q e = (refl, e)
  told_sequence done (item j d) h t u r q e = absurd (omega arith)
  told_sequence (item i b) done h t u r q e = absurd (omega arith)
  told_sequence (item i b) (item j d) h t u r q e =
      let first = told_item i j t.0 u.0 (coded b ++ r) (coded d ++ q) (sym (append_assoc (coded_item i) (coded b) r) ∙ e ∙ append_assoc (coded_item j) (coded d) q) in
      let rest = told_sequence b d (omega arith) t.1 u.1 r q first.1 in
      (both_true _ _ first.0 rest.0, rest.1)

  told_item : (i j : Item ℕ) → TellableItem i → TellableItem j → (r q : List ℕ) → coded_item i ++ r ≡ coded_item j ++ q → (same_item i j ≡ true) × (r ≡ q)
  told_item (act p a) (act o b) t u r q e = (eq-eqb a b (heads a b r q e), tails a b r q e)
  told_item (act p a) (branching o cs) t u r q e =
      let no : a ≡ 255 = heads a 255 r (branches_in cs ∷ coded_branches cs ++ q) e in
      absurd (omega arith)
  told_item (branching p bs) (act o b) t u r q e =
      let no : 255 ≡ b = heads 255 b (branches_in bs ∷ coded_branches bs ++ r) q e in
      absurd (omega arith)
  told_item (branching p bs) (branching o cs) t u r q e =
      let after : branches_in bs ∷ (coded_branches bs ++ r) ≡ branches_in cs ∷ (coded_branches cs ++ q) = ap tail_of e in
      told_branches bs cs (ap head_of after) t u r q (ap tail_of after)

  told_branches : (bs cs : Branches ℕ) → branches_in bs ≡ branches_in cs → TellableBranches bs → TellableBranches cs → (r q : List ℕ) → coded_branches bs ++ r ≡ coded_branches cs ++ q
      → (same_branches bs cs ≡ true) × (r ≡ q)
  told_branches none none h t u r q e = (refl, e)
  told_branches none (branch d y cs) h t u r q e = absurd (omega arith)
  told_branches (branch c x bs) none h t u r q e = absurd (omega arith)
  told_branches (branch c x bs) (branch d y cs) h t u r q e =
      let left : List ℕ = own_items x / 256 ∷ own_items x % 256 ∷ coded x in
      let right : List ℕ = own_items y / 256 ∷ own_items y % 256 ∷ coded y in
      let after = sym (branch_apart c left (coded_branches bs) r) ∙ ap tail_of e ∙ branch_apart d right (coded_branches cs) q in
      let size : length c ≡ length d = ap head_of e in
      let first = parted c d (left ++ (coded_branches bs ++ r)) (right ++ (coded_branches cs ++ q)) size after in
      let high : own_items x / 256 ≡ own_items y / 256 = ap head_of first.1 in
      let low : own_items x % 256 ≡ own_items y % 256 = ap head_of (ap tail_of first.1) in
      let body = told_sequence x y (omega arith) t.1 u.1 (coded_branches bs ++ r) (coded_branches cs ++ q) (ap tail_of (ap tail_of first.1)) in
      let rest = told_branches bs cs (omega arith) t.2 u.2 r q body.1 in
      (both_true _ _ (same_list_equal c d first.0) (both_true _ _ body.0 rest.0), rest.1)

-- TO THE BYTES.
mutual
  unfolding coded same_plan own_items branches_in

  sequence_tells : (b d : Sequence ℕ) → same_plan b d ≡ true → (own_items b ≡ own_items d) × (coded b ≡ coded d)
  sequence_tells done done e = (refl, refl)
  sequence_tells done (item j d) e = absurd (false≢true e)
  sequence_tells (item i b) done e = absurd (false≢true e)
  sequence_tells (item i b) (item j d) e =
      let rest = sequence_tells b d (both_right _ _ e) in
      (ap suc rest.0, ap₂ {C = List ℕ} (λ x y. x ++ y) (item_tells i j (both_left _ _ e)) rest.1)

  item_tells : (i j : Item ℕ) → same_item i j ≡ true → coded_item i ≡ coded_item j
  item_tells (act p a) (act o b) e = ap (λ (x : ℕ). x ∷ []) (eqb-true a b e)
  item_tells (act p a) (branching o cs) e = absurd (false≢true e)
  item_tells (branching p bs) (act o b) e = absurd (false≢true e)
  item_tells (branching p bs) (branching o cs) e =
      let all = branches_tell bs cs e in
      ap₂ {C = List ℕ} (λ k xs. 255 ∷ k ∷ xs) all.0 all.1

  branches_tell : (bs cs : Branches ℕ) → same_branches bs cs ≡ true → (branches_in bs ≡ branches_in cs) × (coded_branches bs ≡ coded_branches cs)
  branches_tell none none e = (refl, refl)
  branches_tell none (branch d y cs) e = absurd (false≢true e)
  branches_tell (branch c x bs) none e = absurd (false≢true e)
  branches_tell (branch c x bs) (branch d y cs) e =
      let condition : c ≡ d = same_list_is c d (both_left _ _ e) in
      let body = sequence_tells x y (both_left _ _ (both_right _ _ e)) in
      let rest = branches_tell bs cs (both_right _ _ (both_right _ _ e)) in
      (ap suc rest.0, rw (condition, body.0, body.1, rest.1) refl)

-- EQUALITY. Plans are the same exactly where their counts and their items' bytes are.
pub coded_same : (b d : Sequence ℕ) → Tellable b → Tellable d → own_items b ≡ own_items d → coded b ≡ coded d → same_plan b d ≡ true
coded_same b d t u h e = (told_sequence b d h t u [] [] (ap (λ (xs : List ℕ). xs ++ []) e)).0

pub same_own : (b d : Sequence ℕ) → same_plan b d ≡ true → own_items b ≡ own_items d
same_own b d e = (sequence_tells b d e).0

pub same_bytes : (b d : Sequence ℕ) → same_plan b d ≡ true → coded b ≡ coded d
same_bytes b d e = (sequence_tells b d e).1

pub same_coded : (b d : Sequence ℕ) → Tellable b → Tellable d → same_plan b d ≡ both (eqb (own_items b) (own_items d)) (same_list (coded b) (coded d))
same_coded b d t u =
    same_test (same_plan b d) (both (eqb (own_items b) (own_items d)) (same_list (coded b) (coded d)))
    (λ e. both_true _ _ (eq-eqb (own_items b) (own_items d) (same_own b d e)) (same_list_equal (coded b) (coded d) (same_bytes b d e)))
    (λ e. coded_same b d t u (eqb-true (own_items b) (own_items d) (both_left _ _ e)) (same_list_is (coded b) (coded d) (both_right _ _ e)))

-- JOINED PLANS (FORMAT 10.7).
pub coded_join : (p q : Sequence ℕ) → coded (join p q) ≡ coded p ++ coded q
unfolding coded join
coded_join done q = refl
coded_join (item i p) q = ap {B = List ℕ} (λ xs. coded_item i ++ xs) (coded_join p q) ∙ sym (append_assoc (coded_item i) (coded p) (coded q))

pub own_join : (p q : Sequence ℕ) → own_items (join p q) ≡ own_items p + own_items q
unfolding own_items join
own_join done q = omega arith
own_join (item i p) q = let rest = own_join p q in omega arith

pub tellable_join : (p q : Sequence ℕ) → Tellable p → Tellable q → Tellable (join p q)
unfolding Tellable join
tellable_join done q t u = u
tellable_join (item i p) q t u = (t.0, tellable_join p q t.1 u)

pub same_to_joined : (d p q : Sequence ℕ) → Tellable d → Tellable p → Tellable q
    → same_plan d (join p q) ≡ both (eqb (own_items d) (own_items p + own_items q)) (same_list (coded d) (coded p ++ coded q))
same_to_joined d p q t u v = rw (sym (coded_join p q), sym (own_join p q)) (same_coded d (join p q) t (tellable_join p q u v))

-- SIZES. The bytes are as many as were counted.
mutual
  unfolding coded bytes_of

  pub coded_length : (b : Sequence ℕ) → length (coded b) ≡ bytes_of Flags b
  coded_length done = refl
  coded_length (item i rest) =
      let one = item_length i in let more = coded_length rest in
      length-append (coded_item i) (coded rest) ∙ omega arith

  pub item_length : (i : Item ℕ) → length (coded_item i) ≡ bytes_in Flags i
  item_length (act p a) = refl
  item_length (branching p bs) = let all = branches_length bs in omega arith

  pub branches_length : (bs : Branches ℕ) → length (coded_branches bs) ≡ bytes_under Flags bs
  branches_length none = refl
  branches_length (branch c b rest) =
      let left : List ℕ = own_items b / 256 ∷ own_items b % 256 ∷ coded b in
      let one = coded_length b in let more = branches_length rest in
      let whole = length-append (c ++ left) (coded_branches rest) in
      let part = length-append c left in
      omega arith

-- A sequence has no more items itself than in all.
pub own_most : (b : Sequence ℕ) → own_items b ≤ items_of b
unfolding own_items items_of
own_most done = omega arith
own_most (item (act p a) rest) = let more = own_most rest in omega arith
own_most (item (branching p bs) rest) = let more = own_most rest in omega arith

-- NO ITEM.
pub none_done : (b : Sequence ℕ) → own_items b ≡ 0 → b ≡ done
unfolding own_items
none_done done h = refl
none_done (item i rest) h = absurd (omega arith)

-- A sequence with no item is the same as the empty one, and no other is.
pub same_done : (b : Sequence ℕ) → same_plan b done ≡ eqb (own_items b) 0
unfolding same_plan own_items
same_done done = sym (eq-eqb 0 0 refl)
same_done (item i rest) = sym (ne_eqb (suc (own_items rest)) 0 (λ e. omega arith))

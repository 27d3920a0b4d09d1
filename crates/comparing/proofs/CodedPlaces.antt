-- Where the parts of a plan stand, once its bytes do: what stands from a place on as two lists one after the other stands there as the first, and
-- as the second behind it. Assumes nothing.
use Prim.Native.Nat.{ℕ, suc, ◌+◌, ◌*◌, ◌/◌, ◌%◌, ◌<◌}
use native.Mathlib.Omega.{arith}
use mathlib.Core.Path.{◌≡◌, refl, sym, ap, ap₂, subst}
use mathlib.Core.List.{List, [], ◌∷◌, ◌++◌}
use lib.ListN.{length, length-append, get_or}
use Rattle.meaning.specs.Requests.{Sequence, done, item, act, branching, Branches, branch}
use Rattle.reading.specs.Listed.{bytes_from, listed}
use Rattle.finding.specs.Branches.{sequence_place}
use Rattle.meaning.specs.declared.Form.TheVariants.{Flags}
use Rattle.reading.specs.Planned.{bytes_of, bytes_under}
use Rattle.finding.specs.PlansHeld.{own_items, branches_in}
use Rattle.comparing.specs.Coded.{coded, coded_branches, Tellable, TellableBranches}
use Rattle.comparing.proofs.CodedLaws.{heads, tails, coded_length, branches_length}

-- PARTS.
pub record PartedBytes (s : List ℕ) (p : ℕ) (xs ys : List ℕ) : Type 0 where
  pub first : bytes_from s p (length xs) ≡ xs
  pub then : bytes_from s (p + length xs) (length ys) ≡ ys

module _ (s : List ℕ) where
  pub parted_bytes : (p : ℕ) (xs ys : List ℕ) → bytes_from s p (length (xs ++ ys)) ≡ xs ++ ys → PartedBytes s p xs ys
  unfolding bytes_from
  parted_bytes p [] ys e = let same : p + 0 ≡ p = omega arith in record { first = refl; then = rw same e }
  parted_bytes p (x ∷ xs) ys e =
      let one : get_or s p 0 ≡ x = heads (get_or s p 0) x (bytes_from s (p + 1) (length (xs ++ ys))) (xs ++ ys) e in
      let rest = parted_bytes (p + 1) xs ys (tails (get_or s p 0) x (bytes_from s (p + 1) (length (xs ++ ys))) (xs ++ ys) e) in
      let same : p + suc (length xs) ≡ p + 1 + length xs = omega arith in
      record { first = ap₂ {C = List ℕ} (λ y ys. y ∷ ys) one rest.first; then = rw same rest.then }

  -- A first byte and the others.
  first_byte : (p x : ℕ) (xs : List ℕ) → bytes_from s p (length (x ∷ xs)) ≡ x ∷ xs → get_or s p 0 ≡ x
  unfolding bytes_from
  first_byte p x xs e = heads (get_or s p 0) x (bytes_from s (p + 1) (length xs)) xs e

  other_bytes : (p x : ℕ) (xs : List ℕ) → bytes_from s p (length (x ∷ xs)) ≡ x ∷ xs → bytes_from s (p + 1) (length xs) ≡ xs
  unfolding bytes_from
  other_bytes p x xs e = tails (get_or s p 0) x (bytes_from s (p + 1) (length xs)) xs e

-- After an action.
pub record ActCoded (s : List ℕ) (p a : ℕ) (rest : Sequence ℕ) : Type 0 where
  pub byte : get_or s p 0 ≡ a
  pub rest_there : bytes_from s (p + 1) (bytes_of Flags rest) ≡ coded rest

-- After a branching's byte and count, its branches; then the rest.
pub record BranchingCoded (s : List ℕ) (p : ℕ) (bs : Branches ℕ) (rest : Sequence ℕ) : Type 0 where
  pub byte : get_or s p 0 ≡ 255
  pub count : get_or s (p + 1) 0 ≡ branches_in bs
  pub branches_there : bytes_from s (p + 2) (bytes_under Flags bs) ≡ coded_branches bs
  pub rest_there : bytes_from s (p + 2 + bytes_under Flags bs) (bytes_of Flags rest) ≡ coded rest

-- A branch, and the branches after it.
pub record BranchCoded (s : List ℕ) (p : ℕ) (c : List ℕ) (b : Sequence ℕ) (more : Branches ℕ) : Type 0 where
  pub size : get_or s p 0 ≡ length c
  pub condition : listed s p ≡ c
  pub count : get_or s (sequence_place Flags s p) 0 * 256 + get_or s (sequence_place Flags s p + 1) 0 ≡ own_items b
  pub body : bytes_from s (sequence_place Flags s p + 2) (bytes_of Flags b) ≡ coded b
  pub more_there : bytes_from s (p + (1 + length c) + (2 + bytes_of Flags b)) (bytes_under Flags more) ≡ coded_branches more

module _ (s : List ℕ) (p : ℕ) where
  pub act_coded : (o a : ℕ) (rest : Sequence ℕ) → bytes_from s p (bytes_of Flags (item (act o a) rest)) ≡ coded (item (act o a) rest) → ActCoded s p a rest
  unfolding coded
  act_coded o a rest e =
      let all = subst (λ (k : ℕ). bytes_from s p k ≡ coded (item (act o a) rest)) (sym (coded_length (item (act o a) rest))) e in
      record {
        byte = first_byte s p a (coded rest) all;
        rest_there = subst (λ (k : ℕ). bytes_from s (p + 1) k ≡ coded rest) (coded_length rest) (other_bytes s p a (coded rest) all);
      }

  pub branching_coded : (o : ℕ) (bs : Branches ℕ) (rest : Sequence ℕ) → bytes_from s p (bytes_of Flags (item (branching o bs) rest)) ≡ coded (item (branching o bs) rest) → BranchingCoded s p bs rest
  unfolding coded
  branching_coded o bs rest e =
      let all = subst (λ (k : ℕ). bytes_from s p k ≡ coded (item (branching o bs) rest)) (sym (coded_length (item (branching o bs) rest))) e in
      let code : List ℕ = coded_branches bs ++ coded rest in
      let after = other_bytes s p 255 (branches_in bs ∷ code) all in
      let last = other_bytes s (p + 1) (branches_in bs) code after in
      let place : p + 1 + 1 ≡ p + 2 = omega arith in
      let both = parted_bytes s (p + 2) (coded_branches bs) (coded rest) (subst (λ (o : ℕ). bytes_from s o (length code) ≡ code) place last) in
      record {
        byte = first_byte s p 255 (branches_in bs ∷ code) all;
        count = first_byte s (p + 1) (branches_in bs) code after;
        branches_there = subst (λ (k : ℕ). bytes_from s (p + 2) k ≡ coded_branches bs) (branches_length bs) both.first;
        rest_there = rw (sym (branches_length bs), sym (coded_length rest)) both.then;
      }

  pub branch_coded : (c : List ℕ) (b : Sequence ℕ) (more : Branches ℕ) → bytes_from s p (bytes_under Flags (branch c b more)) ≡ coded_branches (branch c b more) → BranchCoded s p c b more
  unfolding coded_branches listed sequence_place
  branch_coded c b more e =
      let all = subst (λ (k : ℕ). bytes_from s p k ≡ coded_branches (branch c b more)) (sym (branches_length (branch c b more))) e in
      let high = own_items b / 256 in let low = own_items b % 256 in
      let code : List ℕ = high ∷ low ∷ coded b in
      let outer = parted_bytes s p ((length c ∷ c) ++ code) (coded_branches more) all in
      let inner = parted_bytes s p (length c ∷ c) code outer.first in
      let size : get_or s p 0 ≡ length c = first_byte s p (length c) c inner.first in
      let place : p + suc (length c) ≡ p + 1 + get_or s p 0 = omega arith in
      let there : bytes_from s (p + 1 + get_or s p 0) (length code) ≡ code = subst (λ (o : ℕ). bytes_from s o (length code) ≡ code) place inner.then in
      let after = other_bytes s (p + 1 + get_or s p 0) high (low ∷ coded b) there in
      let last = other_bytes s (p + 1 + get_or s p 0 + 1) low (coded b) after in
      let one = first_byte s (p + 1 + get_or s p 0) high (low ∷ coded b) there in
      let two = first_byte s (p + 1 + get_or s p 0 + 1) low (coded b) after in
      let begin : p + 1 + get_or s p 0 + 1 + 1 ≡ p + 1 + get_or s p 0 + 2 = omega arith in
      let sized = length-append (length c ∷ c) code in
      let bytes = coded_length b in
      let end : p + length ((length c ∷ c) ++ code) ≡ p + (1 + length c) + (2 + bytes_of Flags b) = omega arith in
      record {
        size = size;
        condition = rw size (other_bytes s p (length c) c inner.first);
        count = omega (arith, one, two);
        body = rw (sym begin, sym (coded_length b)) last;
        more_there = rw (sym end, sym (branches_length more)) outer.then;
      }

-- THE FIRST ITEM of a plan whose items stand from p on, by the byte there.
pub record ActThere (s : List ℕ) (p : ℕ) (b : Sequence ℕ) : Type 0 where
  pub place : ℕ
  pub rest : Sequence ℕ
  pub is : b ≡ item (act place (get_or s p 0)) rest
  pub own : own_items b ≡ suc (own_items rest)
  pub below : get_or s p 0 < 255
  pub rest_told : Tellable rest
  pub rest_there : bytes_from s (p + 1) (bytes_of Flags rest) ≡ coded rest

pub record BranchingThere (s : List ℕ) (p : ℕ) (b : Sequence ℕ) : Type 0 where
  pub place : ℕ
  pub branches : Branches ℕ
  pub rest : Sequence ℕ
  pub is : b ≡ item (branching place branches) rest
  pub own : own_items b ≡ suc (own_items rest)
  pub branches_told : TellableBranches branches
  pub rest_told : Tellable rest
  pub there : BranchingCoded s p branches rest

module _ (s : List ℕ) (p : ℕ) where
  pub act_there : (b : Sequence ℕ) → 0 < own_items b → Tellable b → bytes_from s p (bytes_of Flags b) ≡ coded b → (get_or s p 0 ≡ 255 → ⊥) → ActThere s p b
  unfolding own_items Tellable
  act_there done h t e other = absurd (omega arith)
  act_there (item (act o a) rest) h t e other =
      let all = act_coded s p o a rest e in
      let byte = all.byte in let below = t.0 in
      record {
        place = o;
        rest = rest;
        is = ap (λ (x : ℕ). item (act o x) rest) (sym byte);
        own = refl;
        below = omega arith;
        rest_told = t.1;
        rest_there = all.rest_there;
      }
  act_there (item (branching o bs) rest) h t e other = absurd (other (branching_coded s p o bs rest e).byte)

  pub branching_there : (b : Sequence ℕ) → 0 < own_items b → Tellable b → bytes_from s p (bytes_of Flags b) ≡ coded b → get_or s p 0 ≡ 255 → BranchingThere s p b
  unfolding own_items Tellable
  branching_there done h t e is = absurd (omega arith)
  branching_there (item (act o a) rest) h t e is =
      let byte = (act_coded s p o a rest e).byte in let below = t.0 in
      absurd (omega arith)
  branching_there (item (branching o bs) rest) h t e is =
      record { place = o; branches = bs; rest = rest; is = refl; own = refl; branches_told = t.0; rest_told = t.1; there = branching_coded s p o bs rest e }

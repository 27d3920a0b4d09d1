-- Where a plan was read, the bytes after its count are those that say it: it is written there, and written as it is coded. And it can be told by
-- them, as each reader passes on what its parts give. Assumes nothing.
use Prim.Native.Nat.{ℕ, suc, ◌+◌, ◌*◌, ◌/◌, ◌%◌, ◌≤◌, ◌<◌}
use native.Mathlib.Omega.{arith}
use mathlib.Core.Path.{◌≡◌, refl, sym, ap, ap₂, subst}
use mathlib.Core.List.{List, [], ◌∷◌, ◌++◌, append_assoc}
use lib.ListN.{length, get_or}
use borrow.Author.Tests.{leb-false}
use Rattle.meaning.specs.Limits.{format}
use Rattle.meaning.specs.Requests.{Sequence, done, item, Item, act, branching, Branches, none, branch}
use Rattle.meaning.specs.declared.Form.TheVariants.{Flags}
use Rattle.meaning.specs.Reading.{got, Met, plan_at}
use Rattle.meaning.specs.Layouts
use Rattle.meaning.specs.Layouts.{Bytes, list_written, number_written, items_in, items_written, item_written, branches_written, plan_written}
use Rattle.meaning.proofs.PlanReads.{Said, PassedOn, plan_on}
use Rattle.meaning.proofs.MovedReads.{Stands}
use Rattle.meaning.proofs.MovedPlans.{plan_copied}
use Rattle.reading.specs.Listed.{bytes_from}
use Rattle.reading.specs.Planned.{bytes_of}
use Rattle.reading.proofs.PlanSizes.{sequence_read}
use Rattle.finding.specs.PlansHeld.{own_items, branches_in}
use Rattle.finding.proofs.WrittenLaws.{two_is}
use Rattle.comparing.specs.Coded.{coded, coded_item, coded_branches, Tellable, TellableItem, TellableBranches}
use Rattle.comparing.proofs.CodedLaws.{coded_length, own_most}

-- What stands in the input, as its bytes.
stands_bytes : (s : List ℕ) (p : ℕ) (code : List ℕ) (e : ℕ) → Stands s p code e → bytes_from s p (length code) ≡ code
unfolding bytes_from
stands_bytes s p [] e st = refl
stands_bytes s p (x ∷ code) e st = ap₂ {C = List ℕ} (λ y ys. y ∷ ys) st.1 (stands_bytes s (p + 1) code e st.2)

-- A plan is coded as it is written.
items_same : (b : Sequence ℕ) → items_in b ≡ own_items b
unfolding items_in own_items
items_same done = refl
items_same (item i rest) = ap suc (items_same rest)

branches_same : (bs : Branches ℕ) → Layouts.branches_in bs ≡ branches_in bs
unfolding Layouts.branches_in branches_in
branches_same none = refl
branches_same (branch c b rest) = ap suc (branches_same rest)

mutual
  unfolding items_written coded list_written number_written

  written_coded : (b : Sequence ℕ) → items_written b ≡ coded b
  written_coded done = refl
  written_coded (item i rest) = ap₂ {C = List ℕ} (λ xs ys. xs ++ ys) (item_coded i) (written_coded rest)

  item_coded : (i : Item ℕ) → item_written i ≡ coded_item i
  item_coded (act p a) = refl
  item_coded (branching p bs) = ap₂ {C = List ℕ} (λ k xs. 255 ∷ k ∷ xs) (branches_same bs) (branches_coded bs)

  branches_coded : (bs : Branches ℕ) → branches_written bs ≡ coded_branches bs
  branches_coded none = refl
  branches_coded (branch c b rest) =
      rw (items_same b, written_coded b, branches_coded rest) (sym (append_assoc (length c ∷ c) (own_items b / 256 ∷ own_items b % 256 ∷ coded b) (coded_branches rest)))

-- WHAT WAS READ CAN BE TOLD: an action is below the actions' count, and a count has two bytes.
module _ (n m : ℕ) (s : List ℕ) (bytes : Bytes s) (few : m ≤ format.actions) where
  abbrev plan_told : Said
  plan_told = record {
    item = λ deep p met x e. TellableItem x.value;
    items = λ deep left p met x e. Tellable x.value × (own_items x.value ≡ left);
    sequence = λ deep p met x e. (own_items x.value < 65536) × Tellable x.value;
    branches = λ deep left p met x e. TellableBranches x.value;
  }

  told_passed : PassedOn format n m s plan_told
  unfolding Tellable own_items
  told_passed = record {
    an_action = λ deep p met x q _ _ _ within. let below = leb-false m x within in omega (arith, below, few);
    a_branching = λ deep p met x q c r bs e _ _ _ _ all. all;
    no_item = λ deep p met. (tt, refl);
    an_item = λ deep left p met i q rest e one more. ((one, more.0), ap suc more.1);
    a_sequence = λ deep p met c q b e read all.
        let is = ((two_is s p).holds c q read).is in let own = all.1 in let high = bytes p in let low = bytes (p + 1) in
        (omega arith, all.0);
    no_branch = λ deep p met. tt;
    a_branch = λ deep left p met c q b r rest e _ _ one more. (one.0, one.1, more);
  }

-- THE PLAN, its count at p and the place after it.
pub record PlanCoded (s : List ℕ) (p : ℕ) (b : Sequence ℕ) (e : ℕ) : Type 0 where
  pub after : e ≡ p + 2 + bytes_of Flags b
  pub bytes : bytes_from s (p + 2) (bytes_of Flags b) ≡ coded b
  pub size : length (coded b) ≡ bytes_of Flags b
  pub count : get_or s p 0 * 256 + get_or s (p + 1) 0 ≡ own_items b
  pub there : p + 1 < length s
  pub inside : e ≤ length s
  pub tellable : Tellable b
  pub few : own_items b ≤ format.items

pub plan_coded : (n m : ℕ) (s : List ℕ) → ((i : ℕ) → get_or s i 0 < 256) → m ≤ format.actions → (p : ℕ) (x : Met (Sequence ℕ)) (e : ℕ) → plan_at format Flags n m s p ≡ got x e → PlanCoded s p x.value e
unfolding plan_at plan_written number_written
plan_coded n m s small few p x e read =
    let st = ((plan_copied format n m s small p).holds x e read).there in
    let high = st.1 in let low = st.2.1 in let same = items_same x.value in
    let sizes = (sequence_read Flags n m s 8 p 0 (omega arith)).holds x e read in
    let counted = sizes.counted in let most = sizes.most in let own = own_most x.value in
    let end = sizes.through.after in
    let next : p + 1 + 1 ≡ p + 2 = omega arith in
    let size = coded_length x.value in
    record {
      after = omega arith;
      bytes = subst (λ (k : ℕ). bytes_from s (p + 2) k ≡ coded x.value) size (stands_bytes s (p + 2) (coded x.value) e (rw (next, written_coded x.value) at st.2.2));
      size = size;
      count = omega arith;
      there = st.2.0;
      inside = sizes.through.inside;
      tellable = ((plan_on format n m s (plan_told n m s small few) (told_passed n m s small few) p).holds x e read).1;
      few = omega arith;
    }

-- Each item of a plan that was read stands in the input: its bytes are there from its place on. And each item of what is left of a plan is one of the plan. Assumes nothing.
use Prim.Native.Nat.{ℕ, suc, ◌+◌}
use native.Mathlib.Omega.{arith}
use mathlib.Core.Path.{◌≡◌, refl, sym, ◌∙◌, ap, ap₂, subst}
use mathlib.Core.List.{List, [], ◌∷◌, ◌++◌}
use mathlib.Core.Logic.{inl, inr, ⊎_elim}
use lib.ListN.{length, length-append, take, drop}
use lib.Seq.{drop-cons}
use borrow.Author.Tests.{eqb-true}
use Rattle.meaning.specs.Limits
use Rattle.meaning.specs.Limits.{format}
use Rattle.meaning.specs.Requests.{Sequence, done, item, Item, act, branching, Branches, none, branch}
use Rattle.meaning.specs.declared.Form.TheVariants.{Flags}
use Rattle.meaning.specs.Reading.{got, Met, literals, body_at, plan_at}
use Rattle.meaning.specs.Derivations.{join}
use Rattle.meaning.specs.Reported.{ItemIn, ItemOf, ItemUnder}
use Rattle.meaning.specs.Layouts
use Rattle.meaning.specs.Layouts.{Bytes, list_written, number_written, items_written, item_written, branches_written, plan_written}
use Rattle.meaning.proofs.PickLaws.{pick_has}
use Rattle.meaning.proofs.PlanReads.{Said, PassedOn, plan_on}
use Rattle.meaning.proofs.MovedReads.{Stands, stands_both, byte_copied, count_copied, list_copied, two_bytes_copied}
use Rattle.reading.specs.Planned.{items_of, items_in, bytes_of, bytes_in, bytes_under, place_of}
use Rattle.steps.specs.Rests.{rest_in, rest_within, rest_under, rest_at}

-- HOW LONG what is written is.
mutual
  unfolding items_written bytes_of list_written number_written

  pub items_length : (b : Sequence ℕ) → length (items_written b) ≡ bytes_of Flags b
  items_length done = refl
  items_length (item i rest) = let one = item_length i in let more = items_length rest in length-append (item_written i) (items_written rest) ∙ omega (arith, one, more)

  pub item_length : (i : Item ℕ) → length (item_written i) ≡ bytes_in Flags i
  item_length (act p a) = refl
  item_length (branching p bs) = let all = branches_length bs in omega (arith, all)

  branches_length : (bs : Branches ℕ) → length (branches_written bs) ≡ bytes_under Flags bs
  branches_length none = refl
  branches_length (branch c b bs) =
      let own : List ℕ = number_written (Layouts.items_in b) ++ items_written b in
      let one = items_length b in let more = branches_length bs in
      let whole = length-append c (own ++ branches_written bs) in
      let part = length-append own (branches_written bs) in
      omega (arith, one, more, whole, part)

-- WHAT STANDS from p on, cut out of the input.
pub stands_taken : (s : List ℕ) (p : ℕ) (xs : List ℕ) (e : ℕ) → Stands s p xs e → take (length xs) (drop p s) ≡ xs
stands_taken s p [] e st = refl
stands_taken s p (x ∷ xs) e st =
    let on : p + 1 ≡ suc p = omega arith in
    let more : take (length xs) (drop (suc p) s) ≡ xs = rw on at (stands_taken s (p + 1) xs e st.2) in
    rw (drop-cons s p 0 st.0) (ap₂ {C = List ℕ} (λ y ys. y ∷ ys) st.1 more)

-- AN ITEM, from its place on.
pub record ItemStands (s : List ℕ) (i : Item ℕ) : Type 0 where
  pub end : ℕ
  pub bytes : Stands s (place_of i) (item_written i) end

module _ (n m : ℕ) (s : List ℕ) (bytes : Bytes s) where
  abbrev EachStands : (Item ℕ → Type 0) → Type 0
  EachStands Items = (i : Item ℕ) → Items i → ItemStands s i

  -- As many items or branches as were to be read.
  abbrev plan_stands : Said
  plan_stands = record {
    item = λ deep p met x e. Stands s p (item_written x.value) e × EachStands (ItemOf x.value);
    items = λ deep left p met x e. Stands s p (items_written x.value) e × (Layouts.items_in x.value ≡ left) × EachStands (ItemIn x.value);
    sequence = λ deep p met x e. Stands s p (plan_written x.value) e × EachStands (ItemIn x.value);
    branches = λ deep left p met x e. Stands s p (branches_written x.value) e × (Layouts.branches_in x.value ≡ left) × EachStands (ItemUnder x.value);
  }

  stands_passed : PassedOn format n m s plan_stands
  unfolding body_at items_written plan_written Layouts.items_in Layouts.branches_in place_of
  stands_passed = record {
    an_action = λ deep p met x q read _ _ _.
        let here = ((byte_copied s p).holds x q read).there in
        (here, λ i is. subst (ItemStands s) (sym is) (record { end = q; bytes = here }));
    a_branching = λ deep p met x q c r bs e read _ opens counted all.
        let one = ((byte_copied s p).holds x q read).there in
        let count = ((count_copied s 1 format.branches (p + 1)).holds c r counted).there in
        let here : Stands s p (item_written (branching p bs.value)) e = (
          one.0,
          one.1 ∙ eqb-true x Limits.branching_byte opens,
          (count.0, count.1 ∙ sym all.1, subst (λ (o : ℕ). Stands s o (branches_written bs.value) e) (sym count.2) all.0),
        ) in
        (here, λ i. ⊎_elim (λ is. subst (ItemStands s) (sym is) (record { end = e; bytes = here })) (all.2 i));
    no_item = λ deep p met. (refl, refl, λ i h. absurd h);
    an_item = λ deep left p met i q rest e one more.
        (stands_both s p (item_written i.value) q (items_written rest.value) e one.0 more.0, ap suc more.1, λ j. ⊎_elim (one.1 j) (more.2 j));
    a_sequence = λ deep p met c q b e read all.
        let two = ((two_bytes_copied s bytes p).holds c q read).there in
        let size : c ≡ Layouts.items_in b.value = sym all.1 in
        (stands_both s p (number_written (Layouts.items_in b.value)) q (items_written b.value) e (subst (λ (k : ℕ). Stands s p (number_written k) q) size two) all.0, all.2);
    no_branch = λ deep p met. (refl, refl, λ i h. absurd h);
    a_branch = λ deep left p met c q b r rest e read _ one more.
        let condition = ((list_copied literals n s format.body p).holds c q read).there in
        let later = branches_written rest.value in (
          stands_both s p (list_written c) q (plan_written b.value ++ later) e condition (stands_both s q (plan_written b.value) r later e one.0 more.0),
          ap suc more.1,
          λ j. ⊎_elim (one.1 j) (more.2 j),
        );
  }

  pub each_stands : (p : ℕ) (x : Met (Sequence ℕ)) (e : ℕ) → plan_at format Flags n m s p ≡ got x e → (i : Item ℕ) → ItemIn x.value i → ItemStands s i
  each_stands p x e read = ((plan_on format n m s plan_stands stands_passed p).holds x e read).1

-- WHAT IS LEFT. What is so of each item of a plan and of what is behind it is so of each item that is left.
module _ (P : Item ℕ → Type 0) where
  abbrev All : Sequence ℕ → Type 0
  All b = (i : Item ℕ) → ItemIn b i → P i

  on_join : (b after : Sequence ℕ) → All b → All after → All (join b after)
  unfolding join
  on_join done after own more = more
  on_join (item x b) after own more = λ i. ⊎_elim (λ h. own i (inl h)) (on_join b after (λ j h. own j (inr h)) more i)

  mutual
    unfolding rest_in

    on_rest : (b : Sequence ℕ) (met i : ℕ) (after : Sequence ℕ) → All b → All after → All (rest_in b met i after)
    on_rest done met i after own more = more
    on_rest (item x b) met i after own more =
        let behind = on_join b after (λ j h. own j (inr h)) more in
        pick_has All _ _ _ (λ _ j. ⊎_elim (λ h. own j (inl h)) (behind j)) λ _.
        pick_has All _ _ _ (λ _. on_within x (met + 1) i (join b after) (λ j h. own j (inl h)) behind) λ _.
        on_rest b (met + items_in x) i after (λ j h. own j (inr h)) more

    on_within : (x : Item ℕ) (met i : ℕ) (after : Sequence ℕ) → ((j : Item ℕ) → ItemOf x j → P j) → All after → All (rest_within x met i after)
    on_within (act p a) met i after own more = more
    on_within (branching p bs) met i after own more = on_under bs met i after (λ j h. own j (inr h)) more

    on_under : (bs : Branches ℕ) (met i : ℕ) (after : Sequence ℕ) → ((j : Item ℕ) → ItemUnder bs j → P j) → All after → All (rest_under bs met i after)
    on_under none met i after own more = more
    on_under (branch c b bs) met i after own more =
        pick_has All _ _ _ (λ _. on_rest b met i after (λ j h. own j (inl h)) more) λ _.
        on_under bs (met + items_of b) i after (λ j h. own j (inr h)) more

  -- The first of them.
  own_first : (x : Item ℕ) → ((j : Item ℕ) → ItemOf x j → P j) → P x
  own_first (act p a) own = own (act p a) refl
  own_first (branching p bs) own = own (branching p bs) (inl refl)

  pub on_first : (b : Sequence ℕ) → All b → (i : ℕ) (this : Item ℕ) (after : Sequence ℕ) → rest_at b i ≡ item this after → P this
  unfolding rest_at
  on_first b own i this after rest = own_first this (λ j h. subst All rest (on_rest b 0 i done own (λ k none. absurd none)) j (inl h))

-- Marks of literals, and the loops over a list's entries. Assumes nothing.
use Prim.Native.Nat.{ℕ, zero, suc, ◌+◌, ◌-◌, ◌/◌, ◌%◌, ◌≤◌, ◌<◌}
use native.Mathlib.Omega.{arith}
use mathlib.Core.Path.{◌≡◌, refl, sym, ◌∙◌, ap, subst}
use mathlib.Core.Bool.{Bool, true, false, not, ◌&&◌}
use mathlib.Core.List.{List, [], ◌∷◌}
use mathlib.Core.Logic.{◌⊎◌, inl, inr}
use lib.ListN.{length, get_or, set, replicate, drop, drop_of_length-le}
use lib.Seq.{drop-cons}
use Rattle.std.proofs.Common.{add-one}
use Rattle.std.specs.List.{filter}
use lib.Dec.{eqb}
use mir.Syntax.{w64}
use mir.Val.{Fits}
use borrow.Author.Tests.{eq-eqb, ne_eqb}
use Rattle.meaning.specs.Tests.{both, fails, pick, each_of}
use Rattle.meaning.specs.Limits.{format, all_literals}
use Rattle.meaning.specs.Literals.{positive, complement, fluent_of}
use Rattle.meaning.specs.States.{State, mark_of, known, possible, told, told_all, state_of}
use Rattle.meaning.specs.Asking.{short_by}
use Rattle.meaning.proofs.TestLaws.{by-test, both_none, pick_true, pick_false}
use Rattle.meaning.proofs.LiteralLaws.{by_literal, complement_true, complement_false, fluent_complement}
use Rattle.meaning.proofs.StateLaws.{mark_true, mark_false}
use Rattle.reading.specs.declared.marks.Test.{Test}
use Rattle.reading.specs.declared.marks.Test.TheVariants.{Known, Possible}
use Rattle.reading.specs.declared.marks.Look.{Look}
use Rattle.reading.specs.declared.marks.Look.TheVariants as look
use Rattle.reading.specs.Listed.{bytes_from, listed, ListHere, holds_as, look_at}

pub mark_even : (l : ℕ) → l % 2 ≡ 0 → 1 ≡ mark_of l
unfolding mark_of positive
mark_even l e = sym (pick_true _ _ _ (eq-eqb _ _ e))

pub mark_odd : (l : ℕ) → (l % 2 ≡ 0 → ⊥) → 2 ≡ mark_of l
unfolding mark_of positive
mark_odd l h = sym (pick_false _ _ _ (ne_eqb _ _ h))

pub mark_other : (l : ℕ) → mark_of (complement l) ≡ 3 - mark_of l
mark_other =
    by_literal (λ (l : ℕ). mark_of (complement l) ≡ 3 - mark_of l)
    (λ f. rw (complement_true f, mark_true f, mark_false f))
    (λ f. rw (complement_false f, mark_true f, mark_false f))

pub mark_most : (l : ℕ) → mark_of l ≤ 2
mark_most = by_literal (λ (l : ℕ). mark_of l ≤ 2) (λ f. rw (mark_true f) (omega arith)) (λ f. rw (mark_false f) (omega arith))

not_fails : (b : Bool) → not b ≡ fails b
unfolding fails
not_fails true = refl
not_fails false = refl

mark_some : (l : ℕ) → (mark_of l ≡ 1 ⊎ mark_of l ≡ 2)
mark_some = by_literal (λ (l : ℕ). mark_of l ≡ 1 ⊎ mark_of l ≡ 2) (λ f. inl (mark_true f)) (λ f. inr (mark_false f))

module _ (l mark : ℕ) (is : mark ≡ mark_of l) where
  pub mark_within : mark ≤ 3
  mark_within = let most = mark_most l in omega arith

  module _ (marks : State) where
    mark_known : known marks l ≡ eqb (get_or marks (l / 2) 0) mark
    unfolding known fluent_of
    mark_known = rw is

    mark_possible : possible marks l ≡ fails (eqb (get_or marks (l / 2) 0) (3 - mark))
    unfolding possible known fluent_of
    mark_possible = ap fails (rw (fluent_complement l, mark_other l, is))

    module _ (test : Test) where
      pub holds_known : test ≡ Known → eqb (get_or marks (l / 2) 0) mark ≡ holds_as test marks l
      unfolding holds_as
      holds_known e = rw e (sym mark_known)

      pub holds_possible : test ≡ Possible → not (eqb (get_or marks (l / 2) 0) (3 - mark)) ≡ holds_as test marks l
      unfolding holds_as
      holds_possible e = rw e (not_fails _ ∙ sym mark_possible)

and_true : (b : Bool) → (b && true) ≡ b
and_true true = refl
and_true false = refl

and_false : (b : Bool) → (b && false) ≡ false
and_false true = refl
and_false false = refl

-- What the entries that are left tell in one look, where those before were all known or some was not.
unfoldable pub look_on : (sure : Bool) (marks : State) → List ℕ → Look
look_on sure marks ls =
    pick (both sure (each_of (known marks) ls)) (λ _. look.Known) λ _.
    pick (each_of (possible marks) ls) (λ _. look.Possible) λ _.
    look.Never

-- A LIST at p, read to its end.
module _ (s : List ℕ) (p : ℕ) (here : ListHere all_literals s p) where
  pub count_there : p < length s
  count_there = let ends = here.ends in omega arith

  pub list_fits : (x : ℕ) → x ≡ get_or s p 0 → Fits w64 (length s) → Fits w64 (p + x)
  list_fits x byte room = let ends = here.ends in let most = room.fits in record { fits = omega arith }

  pub first_fits : Fits w64 (length s) → Fits w64 (p + 1)
  first_fits room = let there = count_there in let most = room.fits in record { fits = omega arith }

  pub past_fits : (x : ℕ) → x ≡ get_or s p 0 → Fits w64 (length s) → Fits w64 (p + 1 + x)
  past_fits x byte room = let ends = here.ends in let most = room.fits in record { fits = omega arith }

  module _ (x end : ℕ) (byte : x ≡ get_or s p 0) (is : end ≡ p + 1 + x) where
    ends_at : end ≡ p + 1 + get_or s p 0
    ends_at = is ∙ ap (λ (y : ℕ). p + 1 + y) byte

    pub list_starts : bytes_from s (p + 1) (end - (p + 1)) ≡ listed s p
    unfolding listed
    list_starts = let e = ends_at in let left : end - (p + 1) ≡ get_or s p 0 = omega arith in rw left

    module _ (i : ℕ) (from : p < i) (more : i < end) where
      pub entry_there : i < length s
      entry_there = let ends = here.ends in let e = ends_at in omega arith

      pub entry_fits : Fits w64 (length s) → Fits w64 (i + 1)
      entry_fits room = let there = entry_there in let most = room.fits in record { fits = omega arith }

      pub entry_below : (l : ℕ) → l ≡ get_or s i 0 → l < all_literals
      entry_below l e =
          let ends = ends_at in
          let same : p + 1 + (i - (p + 1)) ≡ i = omega arith in
          subst (λ (y : ℕ). y < all_literals) (ap (λ (j : ℕ). get_or s j 0) same ∙ sym e) (here.below (i - (p + 1)) (omega arith))

      pub fluent_below : (l : ℕ) → l ≡ get_or s i 0 → l / 2 < format.fluents
      fluent_below l e = let below = entry_below l e in omega arith

module _ (s : List ℕ) (end i : ℕ) (more : i < end) where
  pub bytes_next : bytes_from s (i + 1) (end - i) ≡ get_or s (i + 1) 0 ∷ bytes_from s (i + 1 + 1) (end - (i + 1))
  unfolding bytes_from
  bytes_next = let left : end - i ≡ suc (end - (i + 1)) = omega arith in rw left

pub bytes_done : (s : List ℕ) (end i : ℕ) → end ≤ i → bytes_from s (i + 1) (end - i) ≡ []
unfolding bytes_from
bytes_done s end i h = let none : end - i ≡ zero = omega arith in rw none

-- The same from the entry at i on.
module _ (s : List ℕ) (end i : ℕ) where
  pub entry_next : i < end → bytes_from s i (end - i) ≡ get_or s i 0 ∷ bytes_from s (i + 1) (end - (i + 1))
  unfolding bytes_from
  entry_next more = let left : end - i ≡ suc (end - (i + 1)) = omega arith in rw left

  pub entry_last : end ≤ i → bytes_from s i (end - i) ≡ []
  unfolding bytes_from
  entry_last h = let none : end - i ≡ zero = omega arith in rw none

-- The entries of a list from the one at i on.
module _ (ls : List ℕ) (i : ℕ) where
  pub rest_next : i < length ls → drop i ls ≡ get_or ls i 0 ∷ drop (i + 1) ls
  rest_next more = rw (drop-cons ls i 0 more, ← add-one i)

  pub rest_done : length ls ≤ i → drop i ls ≡ []
  rest_done h = drop_of_length-le ls h

module _ (whole : Look) (sure : Bool) (marks : State) (ls : List ℕ) (i : ℕ) (so_far : whole ≡ look_on sure marks (drop i ls)) where
  module _ (l mark : ℕ) (more : i < length ls) (entry : l ≡ get_or ls i 0) (is : mark ≡ mark_of l) where
    abbrev others : List ℕ
    others = drop (i + 1) ls

    look_first : (b c : Bool) → known marks l ≡ b → possible marks l ≡ c
        → whole ≡ pick (both sure (both b (each_of (known marks) others))) (λ _. look.Known) (λ _. pick (both c (each_of (possible marks) others)) (λ _. look.Possible) (λ _. look.Never))
    unfolding look_on each_of
    look_first b c k m = so_far ∙ rw (rest_next ls i more, sym entry, k, m)

    look_turn : (b : Bool) → known marks l ≡ b → possible marks l ≡ true → whole ≡ look_on (sure && b) marks others
    unfolding look_on both pick
    look_turn true k m = look_first true true k m ∙ ap (λ (now : Bool). look_on now marks others) (sym (and_true sure))
    look_turn false k m = look_first false true k m ∙ pick_false _ _ _ (both_none sure) ∙ ap (λ (now : Bool). look_on now marks others) (sym (and_false sure))

    pub look_next : (get_or marks (l / 2) 0 ≡ 3 - mark → ⊥) → whole ≡ look_on (sure && eqb (get_or marks (l / 2) 0) mark) marks others
    unfolding fails
    look_next differs = look_turn _ (mark_known l mark is marks) (mark_possible l mark is marks ∙ ap fails (ne_eqb _ _ differs))

    pub look_never : get_or marks (l / 2) 0 ≡ 3 - mark → look.Never ≡ whole
    unfolding both fails pick
    look_never e =
        let other : get_or marks (l / 2) 0 ≡ mark → ⊥ = λ same. (let odd = mark_some l in omega (arith, e, same, is, odd)) in
        sym (look_first false false (mark_known l mark is marks ∙ ne_eqb _ _ other) (mark_possible l mark is marks ∙ ap fails (eq-eqb _ _ e)) ∙ pick_false _ _ _ (both_none sure))

  pub look_sure_done : length ls ≤ i → sure ≡ true → look.Known ≡ whole
  unfolding look_on each_of both pick
  look_sure_done h e = sym (so_far ∙ rw (rest_done ls i h, e))

  pub look_unsure_done : length ls ≤ i → sure ≡ false → look.Possible ≡ whole
  unfolding look_on each_of both pick
  look_unsure_done h e = sym (so_far ∙ rw (rest_done ls i h, e))

pub look_starts : (marks : State) (ls items : List ℕ) → items ≡ ls → look_at marks ls ≡ look_on true marks items
unfolding look_at look_on both
look_starts marks ls items same = rw same

pub state_starts : (ls items : List ℕ) → items ≡ ls → state_of format ls ≡ told_all items (replicate format.state 0)
unfolding state_of
state_starts ls items same = rw same

module _ (whole : State) (ls : List ℕ) (i : ℕ) (marks : State) (so_far : whole ≡ told_all (drop i ls) marks) where
  pub state_next : (l mark : ℕ) → i < length ls → l ≡ get_or ls i 0 → mark ≡ mark_of l → whole ≡ told_all (drop (i + 1) ls) (set marks (l / 2) mark)
  unfolding told_all told fluent_of
  state_next l mark h entry is = so_far ∙ rw (rest_next ls i h, is, entry)

  pub state_done : length ls ≤ i → marks ≡ whole
  unfolding told_all
  state_done h = sym (so_far ∙ rw (rest_done ls i h))

-- SHORT BY so many literals: those that are not known true.
pub short_filtered : (marks : State) (ls : List ℕ) → length (filter (λ l. not (holds_as Known marks l)) ls) ≡ short_by (known marks) ls
unfolding holds_as short_by pick
short_filtered marks [] = refl
short_filtered marks (l ∷ ls) =
    by-test (known marks l)
    (λ t. rw t (short_filtered marks ls))
    (λ f. let more = short_filtered marks ls in rw f (omega (arith, more)))

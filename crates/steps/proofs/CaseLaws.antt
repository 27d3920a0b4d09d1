-- Reasoning by cases in code: the fluents that are held are the open ones, each of them is made true and made false, and what the results share is put
-- together two by two. Assumes nothing.
use Prim.Native.Nat.{ℕ, suc, ◌+◌, ◌-◌, ◌≤◌, ◌<◌}
use native.Mathlib.Omega.{arith}
use native.Mathlib.Decide.{ℕ_discrete, dec_lt}
use native.Mathlib.Nat.{not-suc-le-zero}
use mathlib.Core.Path.{◌≡◌, refl, sym, ◌∙◌, ap, ap₂, subst}
use mathlib.Core.Bool.{Bool, true, false}
use mathlib.Core.List.{List, [], ◌∷◌, ◌++◌, map, map-append}
use lib.ListN.{length, get_or, set, drop, length-set, drop_of_length-le, get_or-eq_default}
use lib.Seq.{get_or-set_same, get_or-set_other, get_or-take, get_or-drop, drop-cons, set-set, ext_get_or}
use lib.Dec.{eqb}
use mir.Syntax.{w64}
use mir.Val.{Fits}
use borrow.Author.Tests.{eqb-true}
use Rattle.meaning.specs.Tests.{both, pick, each_of}
use Rattle.meaning.specs.Limits
use Rattle.meaning.specs.Limits.{format, most_open}
use Rattle.meaning.specs.Requests.{Table}
use Rattle.meaning.specs.States.{State, known_whether, can_be_run, state_after}
use Rattle.meaning.specs.ByCases.{fillings, shared_mark, shared_marks, after_each}
use Rattle.meaning.proofs.TestLaws.{by-test, both_left, both_right, both_all, both_same, has_map, each_append}
use Rattle.meaning.proofs.PickLaws.{pick_has}
use Rattle.meaning.proofs.StateLaws.{known_true, known_false, after_length}
use Rattle.meaning.proofs.PairLaws.{mark_by}
use Rattle.meaning.proofs.FillingLaws.{some_filling, shared_length, shared_at}
use Rattle.meaning.proofs.FillLaws.{filled_both, shared_joined}
use Rattle.steps.specs.AtHand.{Marked}
use Rattle.steps.specs.Opened.{open_in, Filling}
use Rattle.steps.proofs.AfterLaws.{mark_told}
use Rattle.steps.proofs.LookLaws.{first_marked, second_marked, told_true, told_false, known_set, marked_after}

-- A MARK by two tests is one of the three.
mark_by_most : (x y : Bool) → mark_by x y ≤ 2
mark_by_most x y = pick_has (λ (m : ℕ). m ≤ 2) x _ _ (λ _. omega arith) (λ _. pick_has (λ (m : ℕ). m ≤ 2) y _ _ (λ _. omega arith) (λ _. omega arith))

-- What one state shares with itself.
pub shared_one : (r s : State) → Marked r → length s ≡ length r → shared_marks (r ∷ []) 0 s ≡ r
unfolding each_of
shared_one r s marked long =
    ext_get_or Limits.unknown_mark (shared_marks (r ∷ []) 0 s) r (shared_length (r ∷ []) 0 s ∙ long)
    (λ f h.
    shared_at (r ∷ []) s f (omega (arith, h, shared_length (r ∷ []) 0 s))
    ∙ ap₂ mark_by (both_all _ ∙ known_true r f) (both_all _ ∙ known_false r f)
    ∙ sym (mark_told (get_or r f 0) (marked.small f)))

-- What states share is marked.
pub shared_marked : (us : List State) (s : State) → length s ≡ format.state → Marked (shared_marks us 0 s)
shared_marked us s long = record {
  sized = shared_length us 0 s ∙ long;
  small = λ f. elim (dec_lt f (length s)) [
    | yes near ↦ rw (shared_at us s f near) (mark_by_most _ _)
    | no far ↦ rw (get_or-eq_default (shared_marks us 0 s) 0 {n = f} (rw (shared_length us 0 s) (omega (arith, far)))) (omega arith)
  ];
}

after_each_marked : (t : Table) (a : ℕ) (us : List State) (s r : State) → Marked s → r ≡ after_each t a us s → Marked r
unfolding after_each
after_each_marked t a us s r marked is = subst Marked (sym is) (shared_marked (map (state_after t a) us) s marked.sized)

-- TWO STATES share a mark where they have the same one.
module _ (one other : State) (g : ℕ) where
  two_marks : shared_mark (one ∷ other ∷ []) g
      ≡ mark_by (both (eqb (get_or one g 0) 1) (both (eqb (get_or other g 0) 1) true)) (both (eqb (get_or one g 0) 2) (both (eqb (get_or other g 0) 2) true))
  unfolding shared_mark each_of
  two_marks = rw (known_true one g, known_true other g, known_false one g, known_false other g)

  alike_mark : get_or one g 0 ≤ 2 → get_or one g 0 ≡ get_or other g 0 → shared_mark (one ∷ other ∷ []) g ≡ get_or one g 0
  alike_mark most same = two_marks ∙ rw (sym same) (ap₂ mark_by (twice _) (twice _) ∙ sym (mark_told (get_or one g 0) most))
    where
      twice : (b : Bool) → both b (both b true) ≡ b
      twice b = ap (both b) (both_all b) ∙ both_same b

  apart_mark : (get_or one g 0 ≡ get_or other g 0 → ⊥) → shared_mark (one ∷ other ∷ []) g ≡ 0
  unfolding pick
  apart_mark apart = two_marks ∙ rw (never 1, never 2) refl
    where
      never : (c : ℕ) → both (eqb (get_or one g 0) c) (both (eqb (get_or other g 0) c) true) ≡ false
      never c = by-test _ (λ e. absurd (apart (eqb-true _ c (both_left _ _ e) ∙ sym (eqb-true _ c (both_left _ _ (both_right _ _ e)))))) (λ e. e)

-- The loop: what is shared up to fluent f, and the marks of the one state from there on.
pub record Sharing (one other so_far : State) (f : ℕ) : Type 0 where
  pub few : f ≤ format.fluents
  pub sized : length so_far ≡ format.state
  pub done : (g : ℕ) → g < f → get_or so_far g 0 ≡ shared_mark (one ∷ other ∷ []) g
  pub left : (g : ℕ) → f ≤ g → get_or so_far g 0 ≡ get_or one g 0

module _ (one other : State) (marked : Marked one) where
  pub sharing_starts : Sharing one other one 0
  sharing_starts = record { few = omega arith; sized = marked.sized; done = λ g h. absurd (not-suc-le-zero h); left = λ g h. refl }

  module _ (so_far : State) (f : ℕ) (sharing : Sharing one other so_far f) where
    pub sharing_same : f < format.fluents → get_or one f 0 ≡ get_or other f 0 → Sharing one other so_far (f + 1)
    sharing_same near same = record {
      few = omega (arith, near);
      sized = sharing.sized;
      done = λ g h. elim (ℕ_discrete g f) [
        | yes e ↦ rw e (sharing.left f (omega arith) ∙ sym (alike_mark one other f (marked.small f) same))
        | no d ↦ sharing.done g (omega (arith, h, d))
      ];
      left = λ g h. sharing.left g (omega (arith, h));
    }

    pub sharing_apart : f < format.fluents → (get_or one f 0 ≡ get_or other f 0 → ⊥) → Sharing one other (set so_far f 0) (f + 1)
    sharing_apart near apart = record {
      few = omega (arith, near);
      sized = length-set so_far f 0 ∙ sharing.sized;
      done = λ g h. elim (ℕ_discrete g f) [
        | yes e ↦ rw e (get_or-set_same so_far f 0 0 (rw sharing.sized near) ∙ sym (apart_mark one other f apart))
        | no d ↦ get_or-set_other so_far f g 0 0 d ∙ sharing.done g (omega (arith, h, d))
      ];
      left = λ g h. get_or-set_other so_far f g 0 0 (λ e. omega (arith, h, e)) ∙ sharing.left g (omega (arith, h));
    }

    pub sharing_done : format.fluents ≤ f → so_far ≡ shared_marks (one ∷ other ∷ []) 0 one
    unfolding shared_mark
    sharing_done far =
        ext_get_or Limits.unknown_mark so_far (shared_marks (one ∷ other ∷ []) 0 one) (sharing.sized ∙ sym (shared_length (one ∷ other ∷ []) 0 one ∙ marked.sized))
        (λ g h.
        let near : g < format.fluents = omega (arith, h, sharing.sized) in
        sharing.done g (omega (arith, near, far)) ∙ sym (shared_at (one ∷ other ∷ []) one g (omega (arith, near, marked.sized))))

-- THE FLUENTS HELD from number i up.
abbrev pub fluents_left : ℕ → ℕ
fluents_left i = 1 + most_open - i

module _ (held : List ℕ) (i : ℕ) (marks : State) (filling : Filling held i marks) where
  pub filling_marked : Marked marks
  filling_marked = filling.marked

  module _ (n : ℕ) (is : n ≡ get_or held 0 0) where
    none_left : n ≤ i → drop i (open_in held) ≡ []
    none_left all = drop_of_length-le (open_in held) {i = i} (rw filling.number (omega (arith, all, is)))

    module _ (more : i < n) where
      pub next_fits : Fits w64 (i + 1)
      next_fits = record { fits = omega (arith, more, is, filling.few) }

      pub next_held : i + 1 < 1 + most_open
      next_held = omega (arith, more, is, filling.few)

      pub left_falls : (μ : ℕ) → fluents_left i ≡ μ → fluents_left (i + 1) < μ
      left_falls μ at = omega (arith, more, is, filling.few, at)

      here_held : i < length (open_in held)
      here_held = omega (arith, more, is, filling.number)

      module _ (f : ℕ) (at : f ≡ get_or held (i + 1) 0) where
        fluent_here : get_or (open_in held) i 0 ≡ f
        unfolding open_in
        fluent_here = get_or-take (get_or held 0 0) (drop 1 held) i 0 (omega (arith, more, is)) ∙ get_or-drop 1 held i 0 ∙ ap (λ (j : ℕ). get_or held j 0) (omega arith) ∙ sym at

        pub fluent_held : f < format.fluents
        fluent_held = subst (λ (g : ℕ). g < format.fluents) fluent_here (filling.small i here_held)

        held_rest : drop i (open_in held) ≡ f ∷ drop (i + 1) (open_in held)
        held_rest =
            drop-cons (open_in held) i 0 here_held
            ∙ ap₂ {C = List ℕ} (λ g j. g ∷ drop j (open_in held)) fluent_here (let up : suc i ≡ i + 1 = omega arith in up)

        unknown_held : known_whether marks f ≡ false
        unknown_held = ap (known_whether marks) (sym fluent_here) ∙ filling.unknown i (omega arith) here_held

        -- The state with the fluent made true, and then false.
        set_filling : (u : State) → Marked u → ((g : ℕ) → (g ≡ f → ⊥) → known_whether u g ≡ known_whether marks g) → Filling held (i + 1) u
        set_filling u marked same = record {
          marked = marked;
          few = filling.few;
          number = filling.number;
          small = filling.small;
          unknown = λ j from below. same (get_or (open_in held) j 0) (λ e. filling.once i j (omega (arith, from)) below (fluent_here ∙ sym e)) ∙ filling.unknown j (omega (arith, from)) below;
          once = filling.once;
        }

        pub first_filling : Filling held (i + 1) (set marks f 1)
        first_filling = set_filling (set marks f 1) (first_marked f marks fluent_held filling.marked) (known_set marks f 1)

        pub second_filling : Filling held (i + 1) (set (set marks f 1) f 2)
        second_filling =
            set_filling (set (set marks f 1) f 2) (second_marked f marks fluent_held filling.marked)
            (λ g other. known_set (set marks f 1) f 2 g other ∙ known_set marks f 1 g other)

        -- The fillings are those of the one state and then those of the other.
        held_both : fillings (drop i (open_in held)) marks ≡ fillings (drop (i + 1) (open_in held)) (set marks f 1) ++ fillings (drop (i + 1) (open_in held)) (set (set marks f 1) f 2)
        held_both =
            ap (λ (fs : List ℕ). fillings fs marks) held_rest
            ∙ filled_both f (drop (i + 1) (open_in held)) marks unknown_held
            ∙ rw (told_true f marks, told_false f marks, set-set marks f 1 2)

        -- Whether the action can be run in each.
        module _ (t : Table) (a : ℕ) (first : Bool) (ran : first ≡ each_of (can_be_run t a) (fillings (drop (i + 1) (open_in held)) (set marks f 1))) where
          runs_split : each_of (can_be_run t a) (fillings (drop i (open_in held)) marks) ≡ both first (each_of (can_be_run t a) (fillings (drop (i + 1) (open_in held)) (set (set marks f 1) f 2)))
          runs_split = ap (each_of (can_be_run t a)) held_both ∙ each_append (can_be_run t a) _ _ ∙ ap (λ (b : Bool). both b (each_of (can_be_run t a) (fillings (drop (i + 1) (open_in held)) (set (set marks f 1) f 2)))) (sym ran)

          pub runs_both : first ≡ true → (r : Bool) → r ≡ each_of (can_be_run t a) (fillings (drop (i + 1) (open_in held)) (set (set marks f 1) f 2)) → r ≡ each_of (can_be_run t a) (fillings (drop i (open_in held)) marks)
          unfolding both
          runs_both yields r second = second ∙ sym (runs_split ∙ rw yields refl)

          pub runs_not : first ≡ false → false ≡ each_of (can_be_run t a) (fillings (drop i (open_in held)) marks)
          unfolding both
          runs_not stuck = sym (runs_split ∙ rw stuck refl)

        -- The state after it in each.
        module _ (t : Table) (a : ℕ) where
          module _ (can : each_of (can_be_run t a) (fillings (drop i (open_in held)) marks) ≡ true) where
            both_can : both (each_of (can_be_run t a) (fillings (drop (i + 1) (open_in held)) (set marks f 1))) (each_of (can_be_run t a) (fillings (drop (i + 1) (open_in held)) (set (set marks f 1) f 2))) ≡ true
            both_can = sym (each_append (can_be_run t a) _ _) ∙ ap (each_of (can_be_run t a)) (sym held_both) ∙ can

            pub first_can : each_of (can_be_run t a) (fillings (drop (i + 1) (open_in held)) (set marks f 1)) ≡ true
            first_can = both_left _ _ both_can

            pub second_can : each_of (can_be_run t a) (fillings (drop (i + 1) (open_in held)) (set (set marks f 1) f 2)) ≡ true
            second_can = both_right _ _ both_can

          pub one_marked : (us : List State) (one : State) → one ≡ after_each t a us (set marks f 1) → Marked one
          one_marked us one = after_each_marked t a us (set marks f 1) one first_filling.marked

          pub other_marked : (us : List State) (other : State) → other ≡ after_each t a us (set (set marks f 1) f 2) → Marked other
          other_marked us other = after_each_marked t a us (set (set marks f 1) f 2) other second_filling.marked

          module _ (one other : State)
              (first : one ≡ after_each t a (fillings (drop (i + 1) (open_in held)) (set marks f 1)) (set marks f 1))
              (second : other ≡ after_each t a (fillings (drop (i + 1) (open_in held)) (set (set marks f 1) f 2)) (set (set marks f 1) f 2)) where
            pub after_both : (r : State) → r ≡ shared_marks (one ∷ other ∷ []) 0 one → r ≡ after_each t a (fillings (drop i (open_in held)) marks) marks
            unfolding after_each
            after_both r is_shared =
                let us = fillings (drop (i + 1) (open_in held)) (set marks f 1) in
                let vs = fillings (drop (i + 1) (open_in held)) (set (set marks f 1) f 2) in
                let u = some_filling (drop (i + 1) (open_in held)) (set marks f 1) in
                let v = some_filling (drop (i + 1) (open_in held)) (set (set marks f 1) f 2) in
                is_shared ∙ ap₂ {C = State} (λ x y. shared_marks (x ∷ y ∷ []) 0 x) first second
                ∙ sym (ap (λ (ws : List State). shared_marks (map (state_after t a) ws) 0 marks) held_both
                ∙ ap (λ (ws : List State). shared_marks ws 0 marks) (map-append (state_after t a) us vs)
                ∙ shared_joined (map (state_after t a) us) (map (state_after t a) vs) _ _ (has_map (state_after t a) us u.0 u.1) (has_map (state_after t a) vs v.0 v.1) marks (set marks f 1) (set (set marks f 1) f 2)
                (length-set marks f 1) (length-set (set marks f 1) f 2 ∙ length-set marks f 1))

    -- None is left to be filled.
    module _ (all : n ≤ i) (t : Table) (a : ℕ) where
      pub runs_last : (r : Bool) → r ≡ can_be_run t a marks → r ≡ each_of (can_be_run t a) (fillings (drop i (open_in held)) marks)
      unfolding fillings each_of
      runs_last r ran = ran ∙ sym (both_all _) ∙ ap (λ (fs : List ℕ). each_of (can_be_run t a) (fillings fs marks)) (sym (none_left all))

      pub last_can : each_of (can_be_run t a) (fillings (drop i (open_in held)) marks) ≡ true → can_be_run t a marks ≡ true
      last_can can = runs_last (can_be_run t a marks) refl ∙ can

      pub after_last : (r : State) → r ≡ state_after t a marks → r ≡ after_each t a (fillings (drop i (open_in held)) marks) marks
      unfolding fillings after_each
      after_last r is-after =
          is-after ∙ sym (shared_one (state_after t a marks) marks (marked_after t a marks filling.marked) (sym (after_length t a marks)))
          ∙ ap (λ (fs : List ℕ). shared_marks (map (state_after t a) (fillings fs marks)) 0 marks) (sym (none_left all))

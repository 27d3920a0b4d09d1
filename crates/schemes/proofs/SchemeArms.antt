-- The ways through the code: what each puts are the lines of the scheme for what is next, by what was there before. Assumes nothing.
use Prim.Native.Nat.{ℕ, ◌+◌, ◌-◌, ◌^◌, ◌≤◌, ◌<◌}
use native.Mathlib.Omega.{arith}
use mathlib.Core.Path.{◌≡◌, refl, sym, ◌∙◌, ap, ap₂, subst}
use mathlib.Core.Bool.{true, false}
use mathlib.Core.List.{List, [], ◌∷◌, ◌++◌, append_assoc}
use mathlib.Core.Logic.{⊎_elim}
use lib.ListN.{length, length-append, set}
use lib.Dec.{ltb}
use borrow.Author.Tests.{ltb-true, ltb-false}
use Rattle.std.specs.Prelude.{Option, None, Some}
use Rattle.meaning.specs.Limits
use Rattle.meaning.specs.Limits.{format}
use Rattle.meaning.specs.Requests.{Table, Sequence, done, item, act, branching, Branches, none, branch}
use Rattle.meaning.specs.Lines.{sensing}
use Rattle.meaning.specs.States.{State, known, state_after, unknown_sensed, Outcome, readings}
use Rattle.meaning.specs.Derivations.{Conclusion, knows, Line, literals_of, goals_of}
use Rattle.meaning.specs.Layouts.{item_written, items_written, items_in, plan_written, line_written, lines_written}
use Rattle.meaning.specs.Schemes.{line_of, Writes, empty_lines, and_cites, ReadLines, one_read, both_read, then_read, read_lines, rule_for, sensing_lines, acting_lines, action_lines, branching_lines, lines, item_lines, branch_lines, lines_from}
use Rattle.meaning.proofs.TestLaws.{by-test, pick_true, pick_false}
use Rattle.meaning.proofs.SchemeLaws.{lines_item, lines_branch}
use Rattle.steps.specs.Held.{table_in, plan_in, request_in}
use Rattle.steps.specs.AtHand.{AtHand, Marked}
use Rattle.steps.specs.Rests.{rest_at, Position}
use Rattle.steps.specs.Steps.{unknown_above, first_of, Followed, Takes, Taken, Chosen}
use Rattle.steps.proofs.HandLaws.{few_items}
use Rattle.steps.proofs.RestLaws.{rest_past}
use Rattle.writing.specs.declared.lines.Progress.{Progress}
use Rattle.writing.specs.Progress.{Standing, over, so_far, add, standing, Underway}
use Rattle.writing.proofs.ProgressLaws.{lines_over}
use Rattle.schemes.specs.Narrow.{NarrowFrom, lines_at, fluents_from, readings_at, Acts}
use Rattle.schemes.specs.Put.{Put, ReadingsPut}
use Rattle.schemes.proofs.AddLaws.{over_adds, count_grows, some_added, behind, adds_behind}
use Rattle.schemes.proofs.NarrowLaws.{left_after, fluents_none, fluents_sensed, readings_double, readings_fork, some_chosen}
use Rattle.meaning.specs.declared.Form.TheVariants.{Flags}

-- PUT, where they are added.
pub lines_put : (ls : List Line) (progress : Progress) (room : List ℕ) (progress' : Progress) (room' : List ℕ) → 0 < length ls → standing progress' room' ≡ add (standing progress room) ls → Underway progress' → Put ls progress room progress' room'
lines_put ls progress room progress' room' some puts underway = record { stands = puts; underway = underway; some = some_added progress room ls progress' room' puts some }

-- Too many lines were there before.
pub put_over : (ls : List Line) (progress : Progress) (room : List ℕ) → Underway progress → format.lines < progress.lines → Put ls progress room progress room
put_over ls progress room underway many = record { stands = lines_over progress room many ls; underway = underway; some = omega arith }

module _ (progress : Progress) (room : List ℕ) (progress₁ : Progress) (room₁ : List ℕ) (progress₂ : Progress) (room₂ : List ℕ) where
  -- Lines, and then those that are told by the number of lines so far.
  put_both : (ls : List Line) → standing progress₁ room₁ ≡ add (standing progress room) ls → (k : (n : ℕ) → List Line) → Put (k progress₁.lines) progress₁ room₁ progress₂ room₂
      → (ms : List Line) → ls ++ k (progress.lines + length ls) ≡ ms → Put ms progress room progress₂ room₂
  put_both ls first k then ms is = record {
    stands = then.stands ∙ adds_behind progress room ls progress₁ room₁ first k ∙ ap (add (standing progress room)) is;
    underway = then.underway;
    some = then.some;
  }

-- WHERE NOTHING IS LEFT.
-- The first of the two lines was put.
pub end_some : (marks : State) (progress : Progress) (room : List ℕ) (progress₁ : Progress) (room₁ : List ℕ) → standing progress₁ room₁ ≡ add (standing progress room) (line_of marks done (knows (literals_of marks)) Limits.empty_rule [] ∷ []) → 0 < progress₁.lines
end_some marks progress room progress₁ room₁ puts = some_added progress room (line_of marks done (knows (literals_of marks)) Limits.empty_rule [] ∷ []) progress₁ room₁ puts (omega arith)

module _ (s t : List ℕ) (here : AtHand Flags s t) where
  end_left : rest_at (plan_in Flags s t) format.items ≡ done
  unfolding rest_at
  end_left = let few = few_items s t here in rest_past (plan_in Flags s t) 0 format.items done (omega (arith, few))

  pub end_position : Position (plan_in Flags s t) format.items
  end_position = record { most = omega arith; there = λ other. absurd (other refl) }

  end_lines : (marks : State) (n : ℕ) → lines_at s t format.items marks n
      ≡ line_of marks done (knows (literals_of marks)) Limits.empty_rule [] ∷ line_of marks (rest_at (plan_in Flags s t) format.items) (goals_of (request_in Flags s t)) Limits.consequence_rule (n ∷ []) ∷ []
  unfolding lines_at lines_from lines empty_lines goals_of
  end_lines marks n = rw end_left

  pub end_put : (marks : State) (progress : Progress) (room : List ℕ) (progress₁ : Progress) (room₁ : List ℕ) (progress₂ : Progress) (room₂ : List ℕ)
      → standing progress₁ room₁ ≡ add (standing progress room) (line_of marks done (knows (literals_of marks)) Limits.empty_rule [] ∷ [])
      → Put (line_of marks (rest_at (plan_in Flags s t) format.items) (goals_of (request_in Flags s t)) 6 ((progress₁.lines - 1) ∷ []) ∷ []) progress₁ room₁ progress₂ room₂
      → Put (lines_at s t format.items marks progress.lines) progress room progress₂ room₂
  end_put marks progress room progress₁ room₁ progress₂ room₂ first then =
      let last : progress.lines + 1 - 1 ≡ progress.lines = omega arith in
      put_both progress room progress₁ room₁ progress₂ room₂ _ first
      (λ n. line_of marks (rest_at (plan_in Flags s t) format.items) (goals_of (request_in Flags s t)) 6 ((n - 1) ∷ []) ∷ []) then _ (rw last (sym (end_lines marks progress.lines)))

-- The position is there.
pub end_there : (s t : List ℕ) (at : ℕ) (marks : State) (progress : Progress) (room : List ℕ) (progress₁ : Progress) (room₁ : List ℕ) → at ≡ format.items → Put (lines_at s t format.items marks progress.lines) progress room progress₁ room₁
    → Put (lines_at s t at marks progress.lines) progress room progress₁ room₁
end_there s t at marks progress room progress₁ room₁ is put = subst (λ (j : ℕ). Put (lines_at s t j marks progress.lines) progress room progress₁ room₁) (sym is) put

-- A BRANCHING: the lines of the chosen branch joined with what is left behind it, and then rule 4.
module _ (t : Table) (Y : Conclusion) (marks : State) (c rest : Sequence ℕ) (k : Writes) (n : ℕ) where
  takes_lines : (bs : Branches ℕ) (b : Sequence ℕ) → Takes known marks bs b → branch_lines t Y bs c rest k marks n ≡ branching_lines t Y marks c n (lines t Y b rest k marks n)
  unfolding Takes branch_lines
  takes_lines none b takes = absurd takes
  takes_lines (branch φ d bs) b takes =
      ⊎_elim (λ here. pick_true _ _ _ here.0 ∙ ap (λ (e : Sequence ℕ). branching_lines t Y marks c n (lines t Y e rest k marks n)) (sym here.1))
      (λ later. pick_false _ _ _ later.0 ∙ takes_lines bs b later.1) takes

module _ (s t : List ℕ) (i at : ℕ) (marks : State) (taken : Taken known marks (rest_at (plan_in Flags s t) i) (rest_at (plan_in Flags s t) at)) where
  branch_left : (n : ℕ) → lines_at s t i marks n ≡ branching_lines (table_in Flags s) (goals_of (request_in Flags s t)) marks (rest_at (plan_in Flags s t) i) n (lines_at s t at marks n)
  unfolding lines_at item_lines request_in
  branch_left n =
      let r = request_in Flags s t in
      let Y = goals_of r in
      ap (λ (c : Sequence ℕ). lines_from r c marks n) taken.is
      ∙ lines_item r (branching taken.place taken.branches) taken.after marks n
      ∙ takes_lines (table_in Flags s) Y marks (item (branching taken.place taken.branches) taken.after) taken.after (lines_from r taken.after) n taken.branches taken.chosen taken.takes
      ∙ ap₂ (λ (c : Sequence ℕ) (ls : List Line). branching_lines (table_in Flags s) Y marks c n ls) (sym taken.is)
      (lines_branch r taken.chosen taken.after marks n ∙ ap (λ (c : Sequence ℕ). lines_from r c marks n) (sym taken.rest))

  taken_put : (progress : Progress) (room : List ℕ) (progress₁ : Progress) (room₁ : List ℕ) (progress₂ : Progress) (room₂ : List ℕ) → Put (lines_at s t at marks progress.lines) progress room progress₁ room₁
      → Put (line_of marks (rest_at (plan_in Flags s t) i) (goals_of (request_in Flags s t)) 4 ((progress₁.lines - 1) ∷ []) ∷ []) progress₁ room₁ progress₂ room₂
      → Put (lines_at s t i marks progress.lines) progress room progress₂ room₂
  unfolding branching_lines and_cites rule_for goals_of
  taken_put progress room progress₁ room₁ progress₂ room₂ first then =
      put_both progress room progress₁ room₁ progress₂ room₂ _ first.stands
      (λ n. line_of marks (rest_at (plan_in Flags s t) i) (goals_of (request_in Flags s t)) 4 ((n - 1) ∷ []) ∷ []) then _ (sym (branch_left progress.lines))

module _ (s t : List ℕ) (i : ℕ) (marks : State) (r : Option ℕ) (chosen : Chosen Flags s t i marks r) (progress : Progress) (room : List ℕ) where
  pub branch_put : (at : ℕ) → r ≡ Some at → (progress₁ : Progress) (room₁ : List ℕ) (progress₂ : Progress) (room₂ : List ℕ) → Put (lines_at s t at marks progress.lines) progress room progress₁ room₁
      → Put (line_of marks (rest_at (plan_in Flags s t) i) (goals_of (request_in Flags s t)) 4 ((progress₁.lines - 1) ∷ []) ∷ []) progress₁ room₁ progress₂ room₂
      → Put (lines_at s t i marks progress.lines) progress room progress₂ room₂
  branch_put at is progress₁ room₁ progress₂ room₂ first then = taken_put s t i at marks (chosen.takes at is) progress room progress₁ room₁ progress₂ room₂ first then

  -- Some branch is chosen.
  pub branch_there : NarrowFrom s t i marks → r ≡ None → Put (lines_at s t i marks progress.lines) progress room progress room
  branch_there good is = absurd (some_chosen s t i marks good r chosen is)

-- Where an action stands is not written.
unplaced : (marks : State) (a p : ℕ) (Y : Conclusion) (x : Standing)
    → add x (line_of marks (item (act 0 a) done) Y Limits.action_rule [] ∷ []) ≡ add x (line_of marks (item (act p a) done) Y Limits.action_rule [] ∷ [])
unfolding add line_of lines_written line_written plan_written items_in items_written item_written
unplaced marks a p Y over = refl
unplaced marks a p Y (so_far n b room) = refl

-- AN ACTION that is item i.
module _ (s t : List ℕ) (i a : ℕ) (acts : Acts s t i a) (at : ℕ) (follows : Followed Flags s t i at) (marks : State) where
  item_left : (n : ℕ) → lines_at s t i marks n ≡ action_lines (table_in Flags s) (goals_of (request_in Flags s t)) acts.place a acts.after (lines_at s t at) marks n
  unfolding lines_at item_lines request_in
  item_left n =
      let r = request_in Flags s t in
      ap (λ (c : Sequence ℕ). lines_from r c marks n) acts.is
      ∙ lines_item r (act acts.place a) acts.after marks n
      ∙ ap (λ (c : Sequence ℕ). action_lines (table_in Flags s) (goals_of r) acts.place a acts.after (lines_from r c) marks n) (sym (left_after s t i a acts at follows))

  -- It does not sense: rule 2, what follows, and then rule 5.
  module _ (unsensed : sensing (table_in Flags s) a ≡ false) (n : ℕ) (same : n ≡ a) (after : State) (is : after ≡ state_after (table_in Flags s) n marks) where
    acting_left : (k : ℕ) → lines_at s t i marks k
        ≡ acting_lines (table_in Flags s) (goals_of (request_in Flags s t)) marks (item (act acts.place a) done) (rest_at (plan_in Flags s t) i) after (lines_at s t at) k
    unfolding action_lines
    acting_left k =
        item_left k ∙ pick_false _ _ _ unsensed
        ∙ ap₂ (λ (c : Sequence ℕ) (m : State). acting_lines (table_in Flags s) (goals_of (request_in Flags s t)) marks (item (act acts.place a) done) c m (lines_at s t at) k) (sym acts.is)
        (sym (is ∙ ap (λ (b : ℕ). state_after (table_in Flags s) b marks) same))

    pub acting_put : (progress : Progress) (room : List ℕ) (progress₁ : Progress) (room₁ : List ℕ) (progress₂ : Progress) (room₂ : List ℕ) (progress₃ : Progress) (room₃ : List ℕ)
        → standing progress₁ room₁ ≡ add (standing progress room) (line_of marks (item (act 0 a) done) (knows (literals_of after)) Limits.action_rule [] ∷ [])
        → Put (lines_at s t at after progress₁.lines) progress₁ room₁ progress₂ room₂
        → Put (line_of marks (rest_at (plan_in Flags s t) i) (goals_of (request_in Flags s t)) 5 (progress.lines ∷ (progress₂.lines - 1) ∷ []) ∷ []) progress₂ room₂ progress₃ room₃
        → Put (lines_at s t i marks progress.lines) progress room progress₃ room₃
    unfolding acting_lines and_cites rule_for goals_of
    acting_put progress room progress₁ room₁ progress₂ room₂ progress₃ room₃ first then last =
        let k = progress.lines in
        let one : Line = line_of marks (item (act acts.place a) done) (knows (literals_of after)) Limits.action_rule [] in
        let ls : List Line = lines_at s t at after (k + 1) in
        let both : standing progress₂ room₂ ≡ add (standing progress room) (one ∷ ls) =
        then.stands ∙ adds_behind progress room (one ∷ []) progress₁ room₁ (first ∙ unplaced marks a acts.place (knows (literals_of after)) (standing progress room)) (lines_at s t at after) in
        let ends : k + length (one ∷ ls) - 1 ≡ k + 1 + length ls - 1 = omega arith in
        put_both progress room progress₂ room₂ progress₃ room₃ (one ∷ ls) both
        (λ m. line_of marks (rest_at (plan_in Flags s t) i) (goals_of (request_in Flags s t)) 5 (k ∷ (m - 1) ∷ []) ∷ []) last _ (rw ends (sym (acting_left k)))

  -- It senses: each reading, and then rule 3.
  module _ (sensed : sensing (table_in Flags s) a ≡ true) (marked : Marked marks) (f : ℕ) (first : f ≡ first_of (unknown_sensed (table_in Flags s) a marks)) where
    sensing_left : (n : ℕ) → lines_at s t i marks n ≡ sensing_lines (table_in Flags s) (goals_of (request_in Flags s t)) marks (rest_at (plan_in Flags s t) i) (readings_at s t a at f marks n)
    unfolding action_lines readings_at
    sensing_left n =
        item_left n ∙ pick_true _ _ _ sensed
        ∙ ap₂ (λ (c : Sequence ℕ) (fs : List ℕ). sensing_lines (table_in Flags s) (goals_of (request_in Flags s t)) marks c (read_lines (readings fs marks) (lines_at s t at) n)) (sym acts.is) (sym (fluents_sensed s a marks f marked first))

    pub sensing_put : (progress : Progress) (room none_cited : List ℕ) → none_cited ≡ [] → (cites : List ℕ) (progress₁ : Progress) (room₁ : List ℕ) (progress₂ : Progress) (room₂ : List ℕ)
        → ReadingsPut (2 ^ length (fluents_from s a f marks)) (readings_at s t a at f marks progress.lines) none_cited progress room cites progress₁ room₁
        → (byte : ℕ) → byte ≡ 3 → standing progress₂ room₂ ≡ add (standing progress₁ room₁) (line_of marks (rest_at (plan_in Flags s t) i) (goals_of (request_in Flags s t)) byte (cites) ∷ [])
        → Underway progress₂
        → Put (lines_at s t i marks progress.lines) progress room progress₂ room₂
    unfolding sensing_lines rule_for goals_of
    sensing_put progress room none_cited empty cites progress₁ room₁ progress₂ room₂ reads byte same puts underway =
        let x : ReadLines = readings_at s t a at f marks progress.lines in
        let line : List ℕ → List Line = λ ks. line_of marks (rest_at (plan_in Flags s t) i) (goals_of (request_in Flags s t)) 3 ks ∷ [] in
        let then : standing progress₂ room₂ ≡ add (standing progress₁ room₁) (line cites) =
        puts ∙ ap (λ (n : ℕ). add (standing progress₁ room₁) (line_of marks (rest_at (plan_in Flags s t) i) (goals_of (request_in Flags s t)) n cites ∷ [])) same in
        let cited_so : add (standing progress₁ room₁) (line cites) ≡ add (standing progress₁ room₁) (line x.lasts) =
        by-test (ltb format.lines progress₁.lines)
        (λ u. let many = ltb-true format.lines progress₁.lines u in over_adds progress₁ room₁ many (line cites) ∙ sym (over_adds progress₁ room₁ many (line x.lasts)))
        (λ u. ap (λ (ks : List ℕ). add (standing progress₁ room₁) (line ks)) (reads.numbers (ltb-false _ _ u) ∙ ap (λ (ks : List ℕ). ks ++ x.lasts) empty)) in
        let all : standing progress₂ room₂ ≡ add (standing progress room) (x.lines ++ line x.lasts) = then ∙ cited_so ∙ behind progress room x.lines progress₁ room₁ reads.put.stands (line x.lasts) in
        let long = length-append x.lines (line x.lasts) in
        subst (λ (ls : List Line). Put ls progress room progress₂ room₂) (sym (sensing_left progress.lines)) (lines_put (x.lines ++ line x.lasts) progress room progress₂ room₂ (omega (arith, long)) all underway)

-- THE READINGS from fluent f up.
module _ (s t : List ℕ) (a at f : ℕ) (marks : State) where
  -- Of no fluent: there is one.
  module _ (far : format.fluents ≤ f) where
    none_left : (n : ℕ) → readings_at s t a at f marks n ≡ one_read n (lines_at s t at marks n)
    unfolding readings_at readings read_lines
    none_left n = ap (λ (fs : List ℕ). read_lines (readings fs marks) (lines_at s t at) n) (fluents_none s a marks f far)

    pub cites_few : (cites : List ℕ) → length cites + 2 ^ length (fluents_from s a f marks) ≤ format.citations → length cites < format.citations
    cites_few cites few = let one : 2 ^ length (fluents_from s a f marks) ≡ 1 = ap (λ (fs : List ℕ). 2 ^ length fs) (fluents_none s a marks f far) in omega arith

    pub reading_put : (cites : List ℕ) (progress : Progress) (room : List ℕ) (progress₁ : Progress) (room₁ cites₁ : List ℕ) → Put (lines_at s t at marks progress.lines) progress room progress₁ room₁ → cites₁ ≡ cites ++ ((progress₁.lines - 1) ∷ [])
        → ReadingsPut (2 ^ length (fluents_from s a f marks)) (readings_at s t a at f marks progress.lines) cites progress room cites₁ progress₁ room₁
    unfolding one_read
    reading_put cites progress room progress₁ room₁ cites₁ put more =
        let one : 2 ^ length (fluents_from s a f marks) ≡ 1 = ap (λ (fs : List ℕ). 2 ^ length fs) (fluents_none s a marks f far) in
        rw (none_left progress.lines)
        (record {
          put = put;
          more = let long = ap length more ∙ length-append cites ((progress₁.lines - 1) ∷ []) in omega (arith, long, one);
          numbers = λ few. more ∙ ap (λ (n : ℕ). cites ++ ((n - 1) ∷ [])) (count_grows progress room (lines_at s t at marks progress.lines) progress₁ room₁ put.stands few).1;
        })

  -- Of f as true, and then as false.
  module _ (small : f < format.fluents) (marked : Marked marks) (g : ℕ) (next : g ≡ first_of (unknown_above (table_in Flags s) a (set marks f 1) (f + 1))) where
    both_left : (n : ℕ) → readings_at s t a at f marks n ≡ then_read n (readings_at s t a at g (set marks f 1) n) (λ m. readings_at s t a at g (set (set marks f 1) f 2) m)
    unfolding readings_at read_lines
    both_left n = ap (λ (o : Outcome State). read_lines o (lines_at s t at) n) (readings_fork s a f marks small marked g next)

    module _ (cites : List ℕ) (few : length cites + 2 ^ length (fluents_from s a f marks) ≤ format.citations) where
      pub first_few : length cites + 2 ^ length (fluents_from s a g (set marks f 1)) ≤ format.citations
      first_few = let all = readings_double s a f marks small marked g next in omega arith

      module _ (progress : Progress) (room cites₁ : List ℕ) (progress₁ : Progress) (room₁ : List ℕ) (first : ReadingsPut (2 ^ length (fluents_from s a g (set marks f 1))) (readings_at s t a at g (set marks f 1) progress.lines) cites progress room cites₁ progress₁ room₁) where
        pub second_few : length cites₁ + 2 ^ length (fluents_from s a g (set (set marks f 1) f 2)) ≤ format.citations
        second_few = let all = readings_double s a f marks small marked g next in let more = first.more in omega arith

        pub readings_put : (cites₂ : List ℕ) (progress₂ : Progress) (room₂ : List ℕ)
            → ReadingsPut (2 ^ length (fluents_from s a g (set (set marks f 1) f 2))) (readings_at s t a at g (set (set marks f 1) f 2) progress₁.lines) cites₁ progress₁ room₁ cites₂ progress₂ room₂
            → ReadingsPut (2 ^ length (fluents_from s a f marks)) (readings_at s t a at f marks progress.lines) cites progress room cites₂ progress₂ room₂
        unfolding then_read both_read
        readings_put cites₂ progress₂ room₂ second =
            let n = progress.lines in
            let x : ReadLines = readings_at s t a at g (set marks f 1) n in
            let more : (m : ℕ) → ReadLines = λ m. readings_at s t a at g (set (set marks f 1) f 2) m in
            rw (both_left n)
            (record {
              put = put_both progress room progress₁ room₁ progress₂ room₂ x.lines first.put.stands (λ m. (more m).lines) second.put _ refl;
              more = let all = readings_double s a f marks small marked g next in let one = first.more in let two = second.more in omega arith;
              numbers = λ few-there.
                  let before = (count_grows progress₁ room₁ (more progress₁.lines).lines progress₂ room₂ second.put.stands few-there).0 in
                  let grown = (count_grows progress room x.lines progress₁ room₁ first.put.stands before).1 in
                  second.numbers few-there ∙ ap₂ (λ (ks : List ℕ) (m : ℕ). ks ++ (more m).lasts) (first.numbers before) grown ∙ append_assoc (cites) x.lasts (more (n + length x.lines)).lasts;
            })

-- The lines of sections 3 to 5: a line said twice, or elsewhere among its like, changes no answer's number, input, count or state. Every test over lines asks
-- whether some line passes. Assumes nothing.
use Prim.Native.Nat.{ℕ, ◌+◌}
use mathlib.Core.Path.{◌≡◌, refl, sym, ◌∙◌, ap, fun_ext}
use mathlib.Core.Bool.{Bool, true, false}
use mathlib.Core.List.{List, [], ◌∷◌}
use lib.Dec.{ltb}
use Rattle.meaning.specs.Tests.{both, fails, pick, some_of, each_of}
use Rattle.meaning.specs.Limits
use Rattle.meaning.specs.Limits.{Limits}
use Rattle.meaning.specs.Requests.{Effect, Knowledge, Table, Sequence, Entry, Request, values, unplaced}
use Rattle.meaning.specs.declared.Form.TheVariants.{Flags}
use Rattle.meaning.specs.Reading.{Got, got, next, read_request}
use Rattle.meaning.specs.Refusals.{Found, nowhere, at, clashing, runs_with, contradictory, contradiction_in, mixed_in, overlap_in, refuse, settled}
use Rattle.meaning.specs.Lines.{effects_of, executability_of, knowledge_of, allowed, given, sensing, senses}
use Rattle.meaning.specs.States.{State, known, known_whether, state_of, first_state, can_be_run, known_after, mark_after, marks_after, state_after, unknown_from, unknown_sensed, outcome}
use Rattle.meaning.specs.Walk.{End, fine, missed, stopped, Walked, walk, table_does, table_step, first_missed, missed_in, end_of, judged, walked}
use Rattle.meaning.specs.Judging.{Judgement, written_over, reported, ended, within, judge_settled, judge, judge_got}
use Rattle.meaning.specs.SameLines.{SameSet, SameEffect, SameTables, SameButLines, Gist, gist}
use Rattle.meaning.proofs.TestLaws.{clash, same_test, pick_map, some_has, has_some, some_those}
use Rattle.meaning.proofs.WalkLaws.{on_actions, Agree, walk_agrees, unplaced_end, unplaced_walk, walk_unplaced}
use Rattle.meaning.proofs.RefusalLaws.{at≢nowhere, past_16, by_16, unplaced_found, found_if, unplaced_or_else, unplaced_17, unplaced_18}

-- LINES SAID TWICE.
module _ {A : Type 0} {R : A → A → Type 0} (p : A → Bool) (fair : (x y : A) → R x y → p x ≡ p y) where
  -- A test that does not tell R's pairs apart passes in both lists or in neither.
  some_same : (xs ys : List A) → SameSet R xs ys → some_of p xs ≡ some_of p ys
  some_same xs ys same =
      same_test (some_of p xs) (some_of p ys)
      (λ e. let t = some_has p xs e in let u = same.there t.0 t.1 in has_some p ys u.0 u.1 (sym (fair t.0 u.0 u.2) ∙ t.2))
      (λ e. let t = some_has p ys e in let u = same.back t.0 t.1 in has_some p xs u.0 u.1 (fair u.0 t.0 u.2 ∙ t.2))

module _ (t u : Table) (same : SameTables t u) (a : ℕ) where
  allowed_same : (test : ℕ → Bool) → allowed test (executability_of t a) ≡ allowed test (executability_of u a)
  unfolding allowed executability_of
  allowed_same test =
      some_those _ _ t.executability
      ∙ some_same _ (λ x y r. rw (r.action, r.body)) t.executability u.executability same.executability
      ∙ sym (some_those _ _ u.executability)

  given_same : (test : ℕ → Bool) (l : ℕ) → given test (effects_of t a) l ≡ given test (effects_of u a) l
  unfolding given effects_of
  given_same test l =
      some_those _ _ t.effects
      ∙ some_same _ (λ x y r. rw (r.action, r.literal, r.body)) t.effects u.effects same.effects
      ∙ sym (some_those _ _ u.effects)

  pub sensing_same : sensing t a ≡ sensing u a
  unfolding sensing knowledge_of
  sensing_same =
      some_those _ _ t.knowledge
      ∙ some_same _ (λ x y r. rw r.action) t.knowledge u.knowledge same.knowledge
      ∙ sym (some_those _ _ u.knowledge)

  pub senses_same : (f : ℕ) → senses (knowledge_of t a) f ≡ senses (knowledge_of u a) f
  unfolding senses knowledge_of
  senses_same f =
      some_those _ _ t.knowledge
      ∙ some_same _ (λ x y r. rw (r.action, r.fluent)) t.knowledge u.knowledge same.knowledge
      ∙ sym (some_those _ _ u.knowledge)

  pub marks_same : (s : State) (f : ℕ) (ms : List ℕ) → marks_after (effects_of t a) s f ms ≡ marks_after (effects_of u a) s f ms
  unfolding marks_after mark_after known_after
  marks_same s f [] = refl
  marks_same s f (m ∷ ms) = simp (given_same, marks_same s (f + 1) ms)

  pub unknown_same : (s : State) (f : ℕ) (ms : List ℕ) → unknown_from (knowledge_of t a) s f ms ≡ unknown_from (knowledge_of u a) s f ms
  unfolding unknown_from
  unknown_same s f [] = refl
  unknown_same s f (m ∷ ms) = simp (senses_same, unknown_same s (f + 1) ms)

  pub runs_same : (s : State) → can_be_run t a s ≡ can_be_run u a s
  unfolding can_be_run
  runs_same s = allowed_same (known s)

  -- Tables that say the same step alike.
  tables_agree : Agree (table_step t) (table_step u) a
  unfolding table_step table_does outcome unknown_sensed state_after
  tables_agree = record { does = λ s. rw (runs_same s, sensing_same, unknown_same s 0 s, marks_same s 0 s) }

-- 16 and 17 find something in both tables or in neither.
module _ (t u : Table) (same : SameTables t u) where
  runs_with_same : (a : ℕ) (b c : List ℕ) → runs_with t a b c ≡ runs_with u a b c
  unfolding runs_with executability_of
  runs_with_same a b c =
      some_those _ _ t.executability
      ∙ some_same _ (λ x y r. rw (r.action, r.body)) t.executability u.executability same.executability
      ∙ sym (some_those _ _ u.executability)

  contradictory_same : (e g x y : Effect) → SameEffect e x → SameEffect g y → contradictory t e g ≡ contradictory u x y
  unfolding contradictory clashing
  contradictory_same e g x y p q = rw (p.action, p.literal, p.body, q.action, q.literal, q.body, runs_with_same x.action x.body y.body)

  pub contradiction_same : unplaced_found (contradiction_in t) ≡ unplaced_found (contradiction_in u)
  contradiction_same = go _ _ refl refl
    where
      go : (f g : Found) → contradiction_in t ≡ f → contradiction_in u ≡ g → unplaced_found f ≡ unplaced_found g
      go nowhere nowhere p q = refl
      go (at i) (at j) p q = refl
      go (at i) nowhere p q =
          let w = by_16 t i p in
          let x = same.effects.there w.0 w.2 in
          let y = same.effects.there w.1 w.3 in
          clash (sym (contradictory_same w.0 w.1 x.0 y.0 x.2 y.2) ∙ w.4) (past_16 u q x.0 y.0 x.1 y.1)
      go nowhere (at j) p q =
          let w = by_16 u j q in
          let x = same.effects.back w.0 w.2 in
          let y = same.effects.back w.1 w.3 in
          clash (contradictory_same x.0 y.0 w.0 w.1 x.2 y.2 ∙ w.4) (past_16 t p x.0 y.0 x.1 y.1)

  pub mixed_same : unplaced_found (mixed_in t.effects t.knowledge) ≡ unplaced_found (mixed_in u.effects u.knowledge)
  mixed_same =
      unplaced_17 t.effects t.knowledge
      ∙ ap found_if (some_same _ (λ x y r. rw r.action) t.knowledge u.knowledge same.knowledge)
      ∙ ap (λ (test : Knowledge → Bool). found_if (some_of test u.knowledge))
      (fun_ext λ (k : Knowledge). some_same _ (λ x y r. rw r.action) t.effects u.effects same.effects)
      ∙ sym (unplaced_17 u.effects u.knowledge)

-- JUDGING.
missed_values : (test : ℕ → Bool) (es : List Entry) → unplaced_found (first_missed test es) ≡ found_if (fails (each_of test (values es)))
unfolding first_missed each_of pick fails both values
missed_values test [] = refl
missed_values test (e ∷ es) = go (test e.value) (each_of test (values es)) (missed_values test es)
  where
    go : (here later : Bool) → unplaced_found (first_missed test es) ≡ found_if (fails later) → unplaced_found (pick here (λ _. first_missed test es) (λ _. at e.place)) ≡ found_if (fails (both here later))
    go true later ih = ih
    go false later ih = refl

unplaced_end_of : (f : Found) (s : State) → unplaced_end (end_of f s) ≡ end_of (unplaced_found f) s
unfolding end_of
unplaced_end_of nowhere s = refl
unplaced_end_of (at p) s = refl

module _ (r q : Request) (same : SameButLines r q) where
  missed_same : (s : State) → unplaced_found (missed_in r s) ≡ unplaced_found (missed_in q s)
  unfolding missed_in
  missed_same s =
      unplaced_or_else (first_missed (known s) r.goals) _
      ∙ rw (
        missed_values (known s) r.goals,
        missed_values (known_whether s) r.whether,
        same.goals,
        same.whether,
        ← missed_values (known s) q.goals,
        ← missed_values (known_whether s) q.whether,
      )
      (sym (unplaced_or_else (first_missed (known s) q.goals) _))

  judged_same : (s : State) → unplaced_walk (judged r s) ≡ unplaced_walk (judged q s)
  unfolding judged
  judged_same s =
      ap (λ (e : End State). record { count = 1; end = e })
      (unplaced_end_of (missed_in r s) s ∙ ap (λ (f : Found). end_of f s) (missed_same s) ∙ sym (unplaced_end_of (missed_in q s) s))

  pub walked_same : (s : State) → unplaced_walk (walked r s) ≡ unplaced_walk (walked q s)
  unfolding walked table_step
  walked_same s =
      walk_unplaced (table_step r.table) refl r.plan (judged r) s
      ∙ walk_agrees (table_step r.table) (table_step q.table) refl refl (unplaced r.plan) (on_actions _ (tables_agree r.table q.table same.tables) (unplaced r.plan)) _ s
      ∙ ap (λ (p : Sequence ℕ). walk (table_step q.table) p (λ t. unplaced_walk (judged r t)) s) same.plan
      ∙ ap (λ (k : State → Walked State). walk (table_step q.table) (unplaced q.plan) k s) (fun_ext judged_same)
      ∙ sym (walk_unplaced (table_step q.table) refl q.plan (judged q) s)

within_gist : (lent : List ℕ) (budget : ℕ) (w : Walked State) → gist (within lent budget w) ≡ gist (within lent budget (unplaced_walk w))
unfolding within ended reported written_over pick
within_gist lent budget w = go (ltb budget w.count) w.end
  where
    spent : Judgement
    spent = record { answer = record { number = Limits.budget_spent; input = Limits.neither_input; place = 0; count = budget }; state = lent }

    go : (b : Bool) (e : End State) → gist (pick b (λ _. spent) (λ _. ended lent w.count e)) ≡ gist (pick b (λ _. spent) (λ _. ended lent w.count (unplaced_end e)))
    go true e = refl
    go false fine = refl
    go false (missed p s) = refl
    go false (stopped n p u) = refl

-- The same finding without its place refuses alike.
module _ (lim : Limits) (lent : List ℕ) (budget : ℕ) where
  after_refusal : Got Request → Gist
  after_refusal x = gist (judge_settled lim lent budget x)

  refuse_gist : (n : ℕ) (f g : Found) → unplaced_found f ≡ unplaced_found g → (j k : Unit {0} → Got Request) → after_refusal (j tt) ≡ after_refusal (k tt) → after_refusal (refuse n f j) ≡ after_refusal (refuse n g k)
  unfolding after_refusal refuse judge_got
  refuse_gist n nowhere nowhere e j k h = h
  refuse_gist n (at p) (at q) e j k h = refl
  refuse_gist n (at p) nowhere e j k h = absurd (at≢nowhere e)
  refuse_gist n nowhere (at q) e j k h = absurd (at≢nowhere (sym e))

  walks_alike : (r q : Request) (e f : ℕ) → SameButLines r q → after_refusal (got r e) ≡ after_refusal (got q f)
  unfolding after_refusal judge_got first_state
  walks_alike r q e f same =
      within_gist lent budget _
      ∙ ap (λ (w : Walked State). gist (within lent budget w)) (walked_same r q same (first_state lim r.table))
      ∙ sym (within_gist lent budget _)
      ∙ ap (λ (s : State). gist (within lent budget (walked q s))) (ap (state_of lim) same.tables.facts)

  judged_alike : (b c : List ℕ) (r q : Request) (e f : ℕ) → read_request lim Flags b ≡ got r e → read_request lim Flags c ≡ got q f → SameButLines r q → after_refusal (settled lim b) ≡ after_refusal (settled lim c)
  unfolding settled next
  judged_alike b c r q e f rb rc same =
      rw (rb, rc)
      (refuse_gist _ _ _ (contradiction_same r.table q.table same.tables) _ _
      (refuse_gist _ _ _ (mixed_same r.table q.table same.tables) _ _
      (refuse_gist _ _ _ (unplaced_18 r.plan ∙ ap overlap_in same.plan ∙ sym (unplaced_18 q.plan)) _ _ (walks_alike r q e f same))))

-- Lines said twice, or elsewhere among their like, change no answer's number, input, count or state (FORMAT 2.36).
pub lines_are_a_set : (lim : Limits) (b c : List ℕ) (r q : Request) (e f : ℕ)
    → read_request lim Flags b ≡ got r e → read_request lim Flags c ≡ got q f → SameButLines r q
    → (lent : List ℕ) (budget : ℕ) → gist (judge lim b lent budget) ≡ gist (judge lim c lent budget)
unfolding judge after_refusal
lines_are_a_set lim b c r q e f rb rc same lent budget =
    pick_map gist _ _ _ ∙ rw (judged_alike lim lent budget b c r q e f rb rc same) (sym (pick_map gist _ _ _))

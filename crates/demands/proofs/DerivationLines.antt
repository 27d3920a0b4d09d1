-- The lines of sections 3 to 5 for the derivation call and the whether call: said twice, or elsewhere among their like, they change no answer
-- but the place of one that is about the request. Rules 2, 3, 7 and 10 ask a table only what tables that say the same answer alike, the other
-- rules ask it nothing, and what is asked is compared without its places. Assumes nothing.
use Prim.Native.Nat.{ℕ, zero, suc, ◌+◌}
use mathlib.Core.Path.{◌≡◌, refl, sym, ◌∙◌, ap}
use mathlib.Core.Bool.{Bool, true, false}
use mathlib.Core.List.{List, [], ◌∷◌, map, map-map}
use Rattle.meaning.specs.declared.Answer.{Answer}
use Rattle.meaning.specs.declared.Layout.{Layout}
use Rattle.meaning.specs.declared.Layout.TheVariants.{Plain, Closing}
use Rattle.meaning.specs.Tests.{pick, some_of}
use Rattle.meaning.specs.Limits
use Rattle.meaning.specs.Limits.{Limits}
use Rattle.meaning.specs.Requests.{Table, Sequence, done, item, Item, act, branching, Branches, none, branch, Entry, Request, values, unplaced, unplaced_item, unplaced_branches}
use Rattle.meaning.specs.declared.Form.TheVariants.{Flags}
use Rattle.meaning.specs.Reading.{Got, got, fault, next, read_request}
use Rattle.meaning.specs.Refusals.{Found, nowhere, at, overlap_in, refuse, settled}
use Rattle.meaning.specs.States.{State, state_after, unknown_sensed}
use Rattle.meaning.specs.Derivations.{Conclusion, knows, knows_whether, Line, Derivation, read_derivation, overlap_in_lines, same_plan, same_item, same_branches, says, acts, one_action, rule_2, reads, senses_first, rule_3, looks_for, one_look, rule_7, given_by, follows, check_lines, asks_for, goals_of, check_last, all_asked, names, check_entries, check_closing, check_end, check_derivation, answer, accepted_if, beyond, check_settled, check}
use Rattle.meaning.specs.SameLines.{SameTables, SameForDerivations, SameAnswer}
use Rattle.meaning.proofs.TestLaws.{clash}
use Rattle.meaning.proofs.RefusalLaws.{at≢nowhere, unplaced_found, unplaced_18}
use Rattle.demands.proofs.LineLaws.{sensing_same, senses_same, unknown_same, marks_same, runs_same, contradiction_same, mixed_same}

-- THE RULES. Tables that say the same give the same lines.
module _ (lim : Limits) (t u : Table) (same : SameTables t u) where
  after_same : (a : ℕ) (s : State) → state_after t a s ≡ state_after u a s
  unfolding state_after
  after_same a s = marks_same t u same a s 0 s

  unread_same : (a : ℕ) (s : State) → unknown_sensed t a s ≡ unknown_sensed u a s
  unfolding unknown_sensed
  unread_same a s = unknown_same t u same a s 0 s

  acts_same : (l : Line) (a : ℕ) (s : State) → acts lim t l a s ≡ acts lim u l a s
  unfolding acts
  acts_same l a s = rw (sensing_same t u same a, runs_same t u same a s, after_same a s)

  one_action_same : (l : Line) (c : Sequence ℕ) → one_action lim t l c ≡ one_action lim u l c
  unfolding one_action
  one_action_same l done = refl
  one_action_same l (item (act p a) done) = acts_same l a _
  one_action_same l (item (act p a) (item i rest)) = refl
  one_action_same l (item (branching p bs) rest) = refl

  reads_same : (cited : List Line) (l : Line) (a : ℕ) (rest : Sequence ℕ) (s : State) → reads lim t cited l a rest s ≡ reads lim u cited l a rest s
  unfolding reads
  reads_same cited l a rest s = rw (sensing_same t u same a, runs_same t u same a s, unread_same a s)

  senses_first_same : (cited : List Line) (l : Line) (c : Sequence ℕ) → senses_first lim t cited l c ≡ senses_first lim u cited l c
  unfolding senses_first
  senses_first_same cited l done = refl
  senses_first_same cited l (item (act p a) rest) = reads_same cited l a rest _
  senses_first_same cited l (item (branching p bs) rest) = refl

  looks_for_same : (Y : Conclusion) (a : ℕ) (s : State) → looks_for lim t Y a s ≡ looks_for lim u Y a s
  unfolding looks_for
  looks_for_same (knows Y) a s = refl
  looks_for_same (knows_whether f) a s = rw (senses_same t u same a f, runs_same t u same a s)

  one_look_same : (l : Line) (c : Sequence ℕ) → one_look lim t l c ≡ one_look lim u l c
  unfolding one_look
  one_look_same l done = refl
  one_look_same l (item (act p a) done) = looks_for_same l.Y a _
  one_look_same l (item (act p a) (item i rest)) = refl
  one_look_same l (item (branching p bs) rest) = refl

  -- What a rule gives, and what is found line by line.
  follows_same : (cited : List Line) (l : Line) → follows lim t cited l ≡ follows lim u cited l
  unfolding follows given_by rule_2 rule_3 rule_7
  follows_same cited l = rw (one_action_same l l.c, senses_first_same cited l l.c, one_look_same l l.c)

  check_lines_same : (layout : Layout) (lines : List Line) (i : ℕ) (ls : List Line) → check_lines lim layout t lines i ls ≡ check_lines lim layout u lines i ls
  unfolding check_lines
  check_lines_same layout lines i [] = refl
  check_lines_same layout lines i (l ∷ ls) = rw (follows_same _ l, check_lines_same layout lines (i + 1) ls)

-- THE QUESTION. Plans are compared wherever they stand.
mutual
  unfolding same_plan

  same_unplaced : (p q : Sequence ℕ) → same_plan p q ≡ same_plan p (unplaced q)
  same_unplaced done done = refl
  same_unplaced done (item j q) = refl
  same_unplaced (item i p) done = refl
  same_unplaced (item i p) (item j q) = rw (same_unplaced_item i j, same_unplaced p q)

  same_unplaced_item : (i j : Item ℕ) → same_item i j ≡ same_item i (unplaced_item j)
  same_unplaced_item (act p a) (act q b) = refl
  same_unplaced_item (act p a) (branching q cs) = refl
  same_unplaced_item (branching p bs) (act q b) = refl
  same_unplaced_item (branching p bs) (branching q cs) = same_unplaced_branches bs cs

  same_unplaced_branches : (bs cs : Branches ℕ) → same_branches bs cs ≡ same_branches bs (unplaced_branches cs)
  same_unplaced_branches none none = refl
  same_unplaced_branches none (branch d q cs) = refl
  same_unplaced_branches (branch c p bs) none = refl
  same_unplaced_branches (branch c p bs) (branch d q cs) = rw (same_unplaced p q, same_unplaced_branches bs cs)

-- Whether there is an entry is told by the values.
any_value : (ws : List Entry) → some_of (λ (w : Entry). true) ws ≡ some_of (λ (v : ℕ). true) (values ws)
unfolding some_of values
any_value [] = refl
any_value (w ∷ ws) = rw (any_value ws)

module _ (r q : Request) (same : SameForDerivations r q) where
  plan_same : (c : Sequence ℕ) → same_plan c r.plan ≡ same_plan c q.plan
  plan_same c = same_unplaced c r.plan ∙ ap (same_plan c) same.but_lines.plan ∙ sym (same_unplaced c q.plan)

  asks_same : (Y : Conclusion) (l : Line) → asks_for r Y l ≡ asks_for q Y l
  unfolding asks_for says
  asks_same Y l = rw (same.but_lines.tables.facts, plan_same l.c)

  goals_same : goals_of r ≡ goals_of q
  unfolding goals_of
  goals_same = ap knows same.but_lines.goals

  last_same : (ls : List Line) → check_last r ls ≡ check_last q ls
  unfolding check_last
  last_same [] = refl
  last_same (l ∷ []) = rw (goals_same, asks_same (goals_of q) l)
  last_same (l ∷ (k ∷ ls)) = last_same (k ∷ ls)

  -- The closing list is compared with the values of the whether list.
  asked_same : all_asked r ≡ all_asked q
  unfolding all_asked values
  asked_same = rw (goals_same) (ap (λ (Ys : List Conclusion). goals_of q ∷ Ys) (sym (map-map knows_whether _ r.whether) ∙ ap (map knows_whether) same.but_lines.whether ∙ map-map knows_whether _ q.whether))

  names_same : (ls : List Line) (k : ℕ) (Y : Conclusion) → names r ls k Y ≡ names q ls k Y
  unfolding names
  names_same [] k Y = refl
  names_same (l ∷ ls) zero Y = asks_same Y l
  names_same (l ∷ ls) (suc k) Y = names_same ls k Y

  entries_same : (lines : List Line) (p : ℕ) (Ys : List Conclusion) (ks : List ℕ) → check_entries r lines p Ys ks ≡ check_entries q lines p Ys ks
  unfolding check_entries
  entries_same lines p [] ks = refl
  entries_same lines p (Y ∷ Ys) [] = refl
  entries_same lines p (Y ∷ Ys) (k ∷ ks) = rw (names_same lines k Y, entries_same lines (p + 2) Ys ks)

  end_same : (layout : Layout) (d : Derivation) → check_end layout r d ≡ check_end layout q d
  unfolding check_end check_closing
  end_same Plain d = last_same d.lines
  end_same Closing d = rw (asked_same, entries_same d.lines (d.closing_place + 1) (all_asked q) d.closing)

  beyond_same : (layout : Layout) → beyond layout r ≡ beyond layout q
  unfolding beyond
  beyond_same Plain = any_value r.whether ∙ ap (some_of (λ (v : ℕ). true)) same.but_lines.whether ∙ sym (any_value q.whether)
  beyond_same Closing = refl

  -- A derivation has the same outcome for both, its place included.
  derivation_same : (lim : Limits) (layout : Layout) (d : List ℕ) → check_derivation lim layout r d ≡ check_derivation lim layout q d
  unfolding check_derivation next
  derivation_same lim layout d = ap (λ (x : Got Derivation). next x (from r)) read_alike ∙ goes_on (read_derivation lim q.table.fluents q.table.actions d layout)
    where
      from : Request → Derivation → ℕ → Got (Unit {0})
      from asks x e =
          refuse Limits.not_exclusive (overlap_in_lines x.lines) λ _.
          next (check_lines lim layout asks.table x.lines 0 x.lines) λ _ _.
          check_end layout asks x

      read_alike : read_derivation lim r.table.fluents r.table.actions d layout ≡ read_derivation lim q.table.fluents q.table.actions d layout
      read_alike = ap (λ (n : ℕ). read_derivation lim n r.table.actions d layout) same.fluents ∙ ap (λ (m : ℕ). read_derivation lim q.table.fluents m d layout) same.actions

      goes_on : (x : Got Derivation) → next x (from r) ≡ next x (from q)
      goes_on (fault n p) = refl
      goes_on (got x e) = rw (check_lines_same lim r.table q.table same.but_lines.tables layout x.lines 0 x.lines, end_same layout x)

-- CHECKING.
module _ (lim : Limits) (layout : Layout) (d : List ℕ) where
  in_the_request : (n p q : ℕ) → SameAnswer (answer n Limits.the_request p) (answer n Limits.the_request q)
  unfolding answer
  in_the_request n p q = record { number = refl; input = refl; count = refl; place = λ other. absurd (other refl) }

  abbrev Alike : Got Request → Got Request → Type 0
  Alike x y = SameAnswer (check_settled lim layout d x) (check_settled lim layout d y)

  -- The same finding without its place refuses alike.
  refuse_alike : (n : ℕ) (f g : Found) → unplaced_found f ≡ unplaced_found g → (j k : Unit {0} → Got Request) → Alike (j tt) (k tt) → Alike (refuse n f j) (refuse n g k)
  unfolding refuse check_settled
  refuse_alike n nowhere nowhere e j k h = h
  refuse_alike n (at p) (at q) e j k h = in_the_request n p q
  refuse_alike n (at p) nowhere e j k h = absurd (at≢nowhere e)
  refuse_alike n nowhere (at q) e j k h = absurd (at≢nowhere (sym e))

  module _ (r q : Request) (e f : ℕ) (same : SameForDerivations r q) where
    checked_alike : Alike (got r e) (got q f)
    unfolding check_settled pick
    checked_alike = go _ _ (beyond_same r q same layout) _ _ (ap accepted_if (derivation_same r q same lim layout d))
      where
        go : (a b : Bool) → a ≡ b → (x y : Answer) → x ≡ y
            → SameAnswer (pick a (λ _. answer Limits.whether_asked Limits.the_request r.whether_place) (λ _. x)) (pick b (λ _. answer Limits.whether_asked Limits.the_request q.whether_place) (λ _. y))
        go true true p x y z = in_the_request _ _ _
        go false false p x y z = record { number = ap (λ (a : Answer). a.number) z; input = ap (λ (a : Answer). a.input) z; count = ap (λ (a : Answer). a.count) z; place = λ _. ap (λ (a : Answer). a.place) z }
        go true false p x y z = clash refl p
        go false true p x y z = clash refl (sym p)

    settled_alike : (b c : List ℕ) → read_request lim Flags b ≡ got r e → read_request lim Flags c ≡ got q f → Alike (settled lim b) (settled lim c)
    unfolding settled next
    settled_alike b c rb rc =
        let tables = same.but_lines.tables in
        rw (rb, rc)
        (refuse_alike _ _ _ (contradiction_same r.table q.table tables) _ _
        (refuse_alike _ _ _ (mixed_same r.table q.table tables) _ _
        (refuse_alike _ _ _ (unplaced_18 r.plan ∙ ap overlap_in same.but_lines.plan ∙ sym (unplaced_18 q.plan)) _ _ checked_alike)))

-- Lines said twice, or elsewhere among their like, change no answer of the two calls but a place in the request (FORMAT 2.36).
pub lines_are_a_set_for_derivations : (lim : Limits) (layout : Layout) (b c d : List ℕ) (r q : Request) (e f : ℕ)
    → read_request lim Flags b ≡ got r e → read_request lim Flags c ≡ got q f → SameForDerivations r q
    → SameAnswer (check lim layout b d) (check lim layout c d)
unfolding check
lines_are_a_set_for_derivations lim layout b c d r q e f rb rc same = settled_alike lim layout d r q e f same b c rb rc

-- Every line of a scheme follows by its rule, and the last of the lines that a plan gets is for what the state knows, the plan and the conclusion (FORMAT 24.3, 24.6 to
-- 24.9): where the walk is verified and meets no sensing action that is too wide, by induction over the plan. Assumes nothing.
use Prim.Native.Nat.{ℕ, zero, suc, ◌+◌, ◌-◌, ◌<◌}
use native.Mathlib.Omega.{arith}
use mathlib.Core.Path.{◌≡◌, refl, sym, ◌∙◌, ap, subst}
use mathlib.Core.Bool.{true, false, false≢true}
use mathlib.Core.List.{List, [], ◌∷◌, ◌++◌, map, map-append}
use lib.ListN.{length, length-append, get_or}
use lib.Dec.{ltb}
use borrow.Author.Tests.{ltb-true, ltb-false, lt-ltb}
use Rattle.meaning.specs.declared.Layout.{Layout}
use Rattle.meaning.specs.declared.Layout.TheVariants.{Plain}
use Rattle.meaning.specs.Tests.{each_of}
use Rattle.meaning.specs.Limits
use Rattle.meaning.specs.Limits.{format}
use Rattle.meaning.specs.Literals.{says_true, says_false}
use Rattle.meaning.specs.Requests.{Table, Sequence, done, item, Item, act, branching, Branches, none, branch, Request, values}
use Rattle.meaning.specs.Reading.{got}
use Rattle.meaning.specs.Refusals.{settled}
use Rattle.meaning.specs.Lines.{sensing}
use Rattle.meaning.specs.States.{State, known, known_whether, told, first_state, can_be_run, state_after, unknown_sensed, Outcome, readings, outcome}
use Rattle.meaning.specs.Walk.{fine, Walked, stopped_at, counted, each_reading, Step, after_step, run_action, walk, walk_item, walk_branch, table_does, judged}
use Rattle.meaning.specs.Derivations.{Conclusion, knows, Line, join, included, literals_of, says, states_of, takes_branch, each_reads, asks_for, goals_of, names}
use Rattle.meaning.specs.Schemes.{line_of, Writes, empty_lines, and_cites, ReadLines, one_read, both_read, then_read, read_lines, sensing_lines, acting_lines, action_lines, branching_lines, lines, item_lines, branch_lines, lines_from, derivation_of, too_wide, narrow_does, narrow_step, walked_narrow, narrow_walk_of}
use Rattle.meaning.proofs.TestLaws.{both_left, both_right, both_true, either_left, either_right, pick_true, pick_false, each_mono, each_append}
use Rattle.meaning.proofs.PickLaws.{pick_has, has-picked}
use Rattle.meaning.proofs.SettledLaws.{settled_is}
use Rattle.meaning.proofs.RangeLaws.{read_ranged}
use Rattle.meaning.proofs.SetLaws.{Ascending, same_list_self, literals_among}
use Rattle.meaning.proofs.RulesExact.{ConclusionAscends}
use Rattle.meaning.proofs.ReadLines.{question_ascends}
use Rattle.meaning.proofs.Passed.{AllPass, LastPasses}
use Rattle.meaning.proofs.SchemeLaws.{join_done}
use Rattle.meaning.proofs.ExactEnds.{met}
use Rattle.meaning.proofs.Sound.{stopped≢fine, then_verified}
use Rattle.demands.proofs.PartsAlike.{ended_fine}
use Rattle.demands.proofs.LayoutLaws.{named_last}
use Rattle.demands.proofs.ListedStates.{Marked, told_marked, state_marked, after_marked, literals_of_state}
use Rattle.demands.proofs.SchemeRules.{plan_self, conclusion_same_self, Stands, stands_left, stands_right, stands_all, RulesFor, plain_rules_for, Right, AllRight, right_append, right_passes, empty_right, less_right, action_right, composed_right, branched_right, sensed_right}

-- A line says what it was made of.
pub line_says : (s : State) (c : Sequence ℕ) (Y : Conclusion) (rule : ℕ) (cites : List ℕ) → says (line_of s c Y rule cites) (literals_of s) c Y ≡ true
unfolding line_of says
line_says s c Y rule cites = both_true _ _ (same_list_self (literals_of s)) (both_true _ _ (plan_self c) (conclusion_same_self Y))

-- A BLOCK. There are lines, each of them is right, and the last says X, c, Y.
pub record Block (layout : Layout) (t : Table) (all : List Line) (n : ℕ) (ls : List Line) (X : List ℕ) (c : Sequence ℕ) (Y : Conclusion) : Type 0 where
  pub some : 0 < length ls
  pub right : AllRight layout t all n ls
  pub last : (d : Line) → says (get_or all (n + length ls - 1) d) X c Y ≡ true

-- One more line makes a block of those before it.
pub block_of : (layout : Layout) (t : Table) (all : List Line) (n : ℕ) (ls : List Line) (l : Line) (X : List ℕ) (c : Sequence ℕ) (Y : Conclusion) → Stands all n (ls ++ (l ∷ []))
    → AllRight layout t all n ls → Right layout t all (n + length ls) l → says l X c Y ≡ true → Block layout t all n (ls ++ (l ∷ [])) X c Y
block_of layout t all n ls l X c Y stands rights right said =
    let size = length-append ls (l ∷ []) in
    let place : n + length ls ≡ n + length (ls ++ (l ∷ [])) - 1 = omega (arith, size) in
    record {
      some = omega (arith, size);
      right = right_append layout t all n ls (l ∷ []) rights (right, tt);
      last = λ d. subst (λ (i : ℕ). says (get_or all i d) X c Y ≡ true) place (subst (λ (k : Line). says k X c Y ≡ true) (sym ((stands_right all n ls (l ∷ []) stands).0 d)) said);
    }

-- What a state knows is within the list of it.
listed_within : (s : State) (Z : List ℕ) → each_of (known s) Z ≡ true → included Z (literals_of s) ≡ true
unfolding included
listed_within s Z = each_mono _ _ (λ l e. literals_among s l ∙ e) Z

-- THE SCHEME, over a table and a conclusion in a layout, among all the lines.
module _ (layout : Layout) (t : Table) (all : List Line) (Y : Conclusion) (rules : RulesFor layout Y) where
  abbrev Holds : (n : ℕ) → List Line → (X : List ℕ) → Sequence ℕ → Type 0
  Holds n ls X c = Stands all n ls → Block layout t all n ls X c Y

  -- What writes lines is good for a walk and a plan: from each state from which the walk is verified it writes a block for what the state knows and the plan.
  abbrev pub Good : (State → Walked State) → Writes → Sequence ℕ → Type 0
  Good w k c = (s : State) → Marked format s → (w s).end ≡ fine → (n : ℕ) → Holds n (k s n) (literals_of s) c

  -- READINGS. Each line is right, the last line of each reading is an earlier one, and it is for what the state knows with the reading.
  record ReadBlock (n : ℕ) (x : ReadLines) (rest : Sequence ℕ) (ss : List State) : Type 0 where
    right : AllRight layout t all n x.lines
    earlier : each_of (λ (k : ℕ). ltb k (n + length x.lines)) x.lasts ≡ true
    each : (d : Line) → each_reads rest Y ss (map (λ (k : ℕ). get_or all k d) x.lasts) ≡ true

  reads_append : (rest : Sequence ℕ) (ss us : List State) (ls ks : List Line) → each_reads rest Y ss ls ≡ true → each_reads rest Y us ks ≡ true → each_reads rest Y (ss ++ us) (ls ++ ks) ≡ true
  unfolding each_reads
  reads_append rest [] us [] ks e f = f
  reads_append rest [] us (l ∷ ls) ks e f = absurd (false≢true e)
  reads_append rest (s ∷ ss) us [] ks e f = absurd (false≢true e)
  reads_append rest (s ∷ ss) us (l ∷ ls) ks e f = both_true _ _ (both_left _ _ e) (reads_append rest ss us ls ks (both_right _ _ e) f)

  both_blocks : (n : ℕ) (x y : ReadLines) (rest : Sequence ℕ) (ss us : List State) → ReadBlock n x rest ss → ReadBlock (n + length x.lines) y rest us → ReadBlock n (both_read x y) rest (ss ++ us)
  unfolding both_read
  both_blocks n x y rest ss us b c =
      let size = length-append x.lines y.lines in
      record {
        right = right_append layout t all n x.lines y.lines b.right c.right;
        earlier = each_append (λ (k : ℕ). ltb k (n + length (x.lines ++ y.lines))) x.lasts y.lasts ∙ both_true _ _
            (each_mono _ _ (λ k e. let less = ltb-true k _ e in lt-ltb k _ (omega (arith, less, size))) x.lasts b.earlier)
            (each_mono _ _ (λ k e. let less = ltb-true k _ e in lt-ltb k _ (omega (arith, less, size))) y.lasts c.earlier);
        each = λ d. ap (each_reads rest Y (ss ++ us)) (map-append (λ (k : ℕ). get_or all k d) x.lasts y.lasts) ∙ reads_append rest ss us _ _ (b.each d) (c.each d);
      }

  module _ (w : State → Walked State) (k : Writes) (rest : Sequence ℕ) (good : Good w k rest) where
    reads_good : (fs : List ℕ) (s : State) → Marked format s → (each_reading (readings fs s) w).end ≡ fine → (n : ℕ) → Stands all n (read_lines (readings fs s) k n).lines
        → ReadBlock n (read_lines (readings fs s) k n) rest (states_of (readings fs s))
    unfolding readings read_lines one_read then_read both_read each_reading states_of each_reads each_of
    reads_good [] s marked e n stands =
        let b = good s marked e n stands in
        record {
          right = b.right;
          earlier = both_true _ _ (lt-ltb (n + length (k s n) - 1) (n + length (k s n)) (let some = b.some in omega (arith, some))) refl;
          each = λ d. both_true _ _ (b.last d) refl;
        }
    reads_good (f ∷ fs) s marked e n stands =
        let first = told (says_true f) s in
        let second = told (says_false f) s in
        let verified = then_verified (each_reading (readings fs first) w) (λ _. each_reading (readings fs second) w) e in
        let x = read_lines (readings fs first) k n in
        let m = n + length x.lines in
        let y = read_lines (readings fs second) k m in
        both_blocks n x y rest (states_of (readings fs first)) (states_of (readings fs second))
        (reads_good fs first (told_marked format (says_true f) s marked) verified.0 n (stands_left all n x.lines y.lines stands))
        (reads_good fs second (told_marked format (says_false f) s marked) verified.1 m (stands_right all n x.lines y.lines stands))

    -- ACTIONS.
    module _ (p a : ℕ) (s : State) (marked : Marked format s) (runs : can_be_run t a s ≡ true) (n : ℕ) where
      sensing_good : sensing t a ≡ true → too_wide t a s ≡ false → (each_reading (readings (unknown_sensed t a s) s) w).end ≡ fine
          → Holds n (sensing_lines t Y s (item (act p a) rest) (read_lines (readings (unknown_sensed t a s) s) k n)) (literals_of s) (item (act p a) rest)
      unfolding sensing_lines too_wide
      sensing_good senses narrow e stands =
          let x = read_lines (readings (unknown_sensed t a s) s) k n in
          let b = reads_good (unknown_sensed t a s) s marked e n (stands_left all n x.lines _ stands) in
          block_of layout t all n x.lines _ (literals_of s) (item (act p a) rest) Y stands b.right
          (sensed_right layout t all s marked (n + length x.lines) Y rules p a rest x.lasts senses runs (ltb-false _ _ narrow) b.earlier b.each)
          (line_says s (item (act p a) rest) Y _ x.lasts)

      acting_good : sensing t a ≡ false → (w (state_after t a s)).end ≡ fine
          → Holds n (acting_lines t Y s (item (act p a) done) (item (act p a) rest) (state_after t a s) k n) (literals_of s) (item (act p a) rest)
      unfolding acting_lines and_cites
      acting_good blind e stands =
          let after = state_after t a s in
          let ls = k after (n + 1) in
          let b = good after (after_marked format t a s marked) e (n + 1) (stands_left all (n + 1) ls _ stands.1) in
          let one = action_right layout t all s marked n p a blind runs in
          let some = b.some in
          block_of layout t all n (_ ∷ ls) _ (literals_of s) (item (act p a) rest) Y stands (one, b.right)
          (composed_right layout t all s marked (n + suc (length ls)) Y rules p a rest after n (n + 1 + length ls - 1) (omega (arith, some)) (omega (arith, some)) stands.0 b.last)
          (line_says s (item (act p a) rest) Y _ _)

      led_good : too_wide t a s ≡ false → (each_reading (outcome t a s) w).end ≡ fine → Holds n (action_lines t Y p a rest k s n) (literals_of s) (item (act p a) rest)
      unfolding outcome action_lines each_reading
      led_good narrow e =
          pick_has (λ (ls : List Line). Holds n ls (literals_of s) (item (act p a) rest)) (sensing t a) _ _
          (λ senses. sensing_good senses narrow (subst (λ (o : Outcome State). (each_reading o w).end ≡ fine) (pick_true _ _ _ senses) e))
          (λ blind. acting_good blind (subst (λ (o : Outcome State). (each_reading o w).end ≡ fine) (pick_false _ _ _ blind) e))

    action_good : (p a : ℕ) → Good (run_action (narrow_step t) p a w) (action_lines t Y p a rest k) (item (act p a) rest)
    unfolding run_action narrow_step narrow_does table_does after_step stopped_at counted
    action_good p a s marked e n =
        has-picked (λ (x : Step State). (after_step p x w).end ≡ fine) (too_wide t a s) _ _ e (λ _ q. absurd (stopped≢fine q)) λ narrow e'.
        has-picked (λ (x : Step State). (after_step p x w).end ≡ fine) (can_be_run t a s) _ _ e' (λ runs q. led_good p a s marked runs n narrow q) (λ _ q. absurd (stopped≢fine q))

  -- BRANCHINGS.
  branching_good : (p : ℕ) (bs : Branches ℕ) (rest : Sequence ℕ) (s : State) → Marked format s → (n : ℕ) (b : Sequence ℕ) (ls : List Line)
      → ((l : Line) → says l (literals_of s) (join b rest) Y ≡ true → takes_branch (literals_of s) bs rest Y l ≡ true)
      → Holds n ls (literals_of s) (join b rest) → Holds n (branching_lines t Y s (item (branching p bs) rest) n ls) (literals_of s) (item (branching p bs) rest)
  unfolding branching_lines and_cites
  branching_good p bs rest s marked n b ls takes holds stands =
      let block = holds (stands_left all n ls _ stands) in
      let some = block.some in
      block_of layout t all n ls _ (literals_of s) (item (branching p bs) rest) Y stands block.right
      (branched_right layout t all s marked (n + length ls) Y rules p bs rest (n + length ls - 1) (omega (arith, some)) (λ d. takes _ (block.last d)))
      (line_says s (item (branching p bs) rest) Y _ _)

  -- PLANS, by induction.
  mutual
    unfolding walk lines join narrow_step stopped_at takes_branch

    pub plan_good : (p rest : Sequence ℕ) (w : State → Walked State) (k : Writes) → Good w k rest → Good (walk (narrow_step t) p w) (lines t Y p rest k) (join p rest)
    plan_good done rest w k good = good
    plan_good (item i p) rest w k good = item_good i (join p rest) (walk (narrow_step t) p w) (lines t Y p rest k) (plan_good p rest w k good)

    item_good : (i : Item ℕ) (rest : Sequence ℕ) (w : State → Walked State) (k : Writes) → Good w k rest → Good (walk_item (narrow_step t) i w) (item_lines t Y i rest k) (item i rest)
    item_good (act p a) rest w k good = action_good w k rest good p a
    item_good (branching p bs) rest w k good = λ s marked e n. branches_good p bs bs rest w k good s marked (λ l h. h) e n

    -- The branches that are left of those of a branching.
    branches_good : (p : ℕ) (bs left : Branches ℕ) (rest : Sequence ℕ) (w : State → Walked State) (k : Writes) → Good w k rest → (s : State) → Marked format s
        → ((l : Line) → takes_branch (literals_of s) left rest Y l ≡ true → takes_branch (literals_of s) bs rest Y l ≡ true)
        → (walk_branch (narrow_step t) left p w s).end ≡ fine → (n : ℕ) → Holds n (branch_lines t Y left (item (branching p bs) rest) rest k s n) (literals_of s) (item (branching p bs) rest)
    branches_good p bs none rest w k good s marked among e n = absurd (stopped≢fine e)
    branches_good p bs (branch φ b left) rest w k good s marked among e n =
        has-picked (λ (v : Walked State). v.end ≡ fine) (each_of (known s) φ) _ _ e
        (λ chosen q. subst (λ (ls : List Line). Holds n ls (literals_of s) (item (branching p bs) rest)) (sym (pick_true _ _ _ chosen))
        (branching_good p bs rest s marked n b (lines t Y b rest k s n) (λ l h. among l (either_left _ _ (both_true _ _ (listed_within s φ chosen) h))) (plan_good b rest w k good s marked q n)))
        (λ other q. subst (λ (ls : List Line). Holds n ls (literals_of s) (item (branching p bs) rest)) (sym (pick_false _ _ _ other))
        (branches_good p bs left rest w k good s marked (λ l h. among l (either_right _ _ h)) q n))

-- THE ENDS. Where a state is judged fine, every goal is known and every whether fluent is known whether.
pub asked_known : (r : Request) (s : State) → (judged r s).end ≡ fine → (each_of (known s) (values r.goals) ≡ true) × (each_of (known_whether s) (values r.whether) ≡ true)
unfolding judged
asked_known r s e = (met r s).0 (ended_fine _ s e)

module _ (layout : Layout) (t : Table) (all : List Line) where
  -- The empty plan, for a list that is known: rule 1 and rule 6.
  pub empty_block : (Z : List ℕ) → Ascending 0 Z → (s : State) → Marked format s → each_of (known s) Z ≡ true → (n : ℕ) → Stands all n (empty_lines Z s n)
      → Block layout t all n (empty_lines Z s n) (literals_of s) done (knows Z)
  unfolding empty_lines
  empty_block Z up s marked holds n stands =
      block_of layout t all n (_ ∷ []) _ (literals_of s) done (knows Z) stands (empty_right layout t all s marked n, tt)
      (less_right layout t all s marked n Z up (listed_within s Z holds) stands.0) (line_says s done (knows Z) Limits.consequence_rule (n ∷ []))

-- A line of this number that asks for a conclusion is named for it.
pub said_named : (r : Request) (ls : List Line) (k : ℕ) (Y : Conclusion) → k < length ls → ((d : Line) → says (get_or ls k d) r.table.facts r.plan Y ≡ true) → names r ls k Y ≡ true
unfolding names asks_for
said_named r [] k Y near said = absurd (omega (arith, near))
said_named r (l ∷ ls) zero Y near said = said l
said_named r (l ∷ ls) (suc k) Y near said = said_named r ls k Y (omega (arith, near)) said

-- THE DERIVATION OF A REQUEST that is settled, and whose walk is verified and meets no sensing action that is too wide.
module _ (request : List ℕ) (r : Request) (e : ℕ) (past : settled format request ≡ got r e) where
  pub first_literals : literals_of (first_state format r.table) ≡ r.table.facts
  unfolding first_state
  first_literals =
      let reads = (settled_is format request r e past).reads in
      let ranged = read_ranged format request r e reads in
      literals_of_state format r.table.facts
      (record { within = λ l h. let below = ranged.facts l h in let few = ranged.fluents in omega (arith, below, few); consistent = ranged.consistent })
      (question_ascends format request r e reads).0

  pub goals_ascend : ConclusionAscends (goals_of r)
  unfolding goals_of
  goals_ascend = (question_ascends format request r e (settled_is format request r e past).reads).1

  module _ (verified : (narrow_walk_of format r).end ≡ fine) where
    -- Lines for a conclusion, where the ends are good for it.
    pub plan_block : (layout : Layout) (all : List Line) (Y : Conclusion) (rules : RulesFor layout Y) (k : Writes) → Good layout r.table all Y rules (judged r) k done → (n : ℕ)
        → Stands all n (lines r.table Y r.plan done k (first_state format r.table) n)
        → Block layout r.table all n (lines r.table Y r.plan done k (first_state format r.table) n) r.table.facts r.plan Y
    unfolding walked_narrow first_state
    plan_block layout all Y rules k good n stands =
        let s = first_state format r.table in
        let ls = lines r.table Y r.plan done k s n in
        subst (λ (X : List ℕ). Block layout r.table all n ls X r.plan Y) first_literals
        (subst (λ (c : Sequence ℕ). Block layout r.table all n ls (literals_of s) c Y) (join_done r.plan)
        (plan_good layout r.table all Y rules r.plan done (judged r) k good s (state_marked format r.table.facts) verified n stands))

    pub derivation_block : (layout : Layout) (all : List Line) → RulesFor layout (goals_of r) → Stands all 0 (derivation_of format r)
        → Block layout r.table all 0 (derivation_of format r) r.table.facts r.plan (goals_of r)
    unfolding derivation_of lines_from goals_of
    derivation_block layout all rules stands =
        plan_block layout all (goals_of r) rules (empty_lines (values r.goals))
        (λ s marked e n. empty_block layout r.table all (values r.goals) goals_ascend s marked (asked_known r s e).0 n) 0 stands

    -- In the plain layout each line passes every test of the check, and the last one asks for the goals.
    plain_block : Block Plain r.table (derivation_of format r) 0 (derivation_of format r) r.table.facts r.plan (goals_of r)
    unfolding goals_of
    plain_block = derivation_block Plain (derivation_of format r) (plain_rules_for (values r.goals) goals_ascend) (stands_all (derivation_of format r))

    pub derivation_passes : AllPass format Plain r.table (derivation_of format r) 0 (derivation_of format r)
    derivation_passes = right_passes Plain r.table (derivation_of format r) 0 (derivation_of format r) plain_block.right

    pub derivation_asks : LastPasses r (derivation_of format r)
    derivation_asks =
        let ls = derivation_of format r in
        let some = plain_block.some in
        let place : 0 + length ls - 1 ≡ length ls - 1 = omega arith in
        named_last r ls (said_named r ls (length ls - 1) (goals_of r) (omega (arith, some)) (subst (λ (i : ℕ). (d : Line) → says (get_or ls i d) r.table.facts r.plan (goals_of r) ≡ true) place plain_block.last))

-- Derivations: reading one, the rules, and the answers of the derivation call and of the whether call for every pair of inputs (FORMAT
-- sections 10 and 17).
use Rattle.std.specs.Prelude.{ℕ, zero, suc, ◌+◌, ◌^◌, Bool, true, false, List, [], ◌∷◌, ◌++◌, map, length, get_or, leb, ltb, eqb}
use Rattle.meaning.specs.declared.Answer.{Answer}
use Rattle.meaning.specs.declared.Layout.{Layout}
use Rattle.meaning.specs.declared.Layout.TheVariants.{Plain, Closing}
use Rattle.meaning.specs.Tests.{both, either, fails, pick, some_of, each_of}
use Rattle.meaning.specs.Limits
use Rattle.meaning.specs.Limits.{Limits}
use Rattle.meaning.specs.Literals.{says_true, says_false, fluent_of, among}
use Rattle.meaning.specs.Requests.{Table, Sequence, done, item, Item, act, branching, Branches, none, branch, Entry, Request, values}
use Rattle.meaning.specs.Reading.{Flags, Got, got, fault, next, byte_at, two_bytes_at, count_at, below_at, literals, list_at, repeated, section_at, plan_at}
use Rattle.meaning.specs.Refusals.{Found, nowhere, or_else, overlap_in, refuse, settled}
use Rattle.meaning.specs.Lines.{knowledge_of, sensing, senses}
use Rattle.meaning.specs.States.{State, known, state_of, can_be_run, state_after, unknown_sensed, Outcome, single, fork, readings}

-- A conclusion: every literal of a list is known, or a fluent is known whether (FORMAT 10.4, 17.17).
pub data Conclusion : Type 0 where
  knows : List ℕ → Conclusion
  knows_whether : (fluent : ℕ) → Conclusion

-- A line claims that c can be run wherever X is known, and that the conclusion Y is true at each of its ends (FORMAT 10.3, 17.4).
pub record Line : Type 0 where
  pub place : ℕ
  pub X : List ℕ
  pub c : Sequence ℕ
  pub Y : Conclusion
  pub rule : ℕ
  pub cites : List ℕ

-- Its lines, and the line numbers that close it, from the place of their count on (FORMAT 10.1, 17.3).
pub record Derivation : Type 0 where
  pub lines : List Line
  pub closing : List ℕ
  pub closing_place : ℕ

-- The rule byte and the conclusion, in the layout's order.
pub record Concluded : Type 0 where
  pub rule : ℕ
  pub Y : Conclusion

-- The rules that conclude a fluent (FORMAT 17.5).
unfoldable pub concludes_fluent : ℕ → Bool
concludes_fluent rule =
    among rule
    (Limits.look_rule ∷ Limits.literal_rule ∷ Limits.sensing_whether_rule ∷ Limits.composition_whether_rule ∷ Limits.branching_whether_rule ∷ [])

-- READING, with the fluent count n and the action count m of the request.
module _ (lim : Limits) (n : ℕ) (s : List ℕ) where
  unfoldable pub list_concluded : ℕ → Got Conclusion
  list_concluded p =
      next (list_at literals n lim.listed s p) λ Y e.
      got (knows Y) e

  unfoldable pub fluent_concluded : ℕ → Got Conclusion
  fluent_concluded p =
      next (below_at n s p) λ f e.
      got (knows_whether f) e

  -- The conclusion after a rule byte (FORMAT 17.5, 17.6).
  unfoldable pub conclusion_at : (rule : ℕ) → ℕ → Got Conclusion
  conclusion_at rule p = pick (concludes_fluent rule) (λ _. fluent_concluded p) (λ _. list_concluded p)

  unfoldable pub concluded_at : Layout → ℕ → Got Concluded
  concluded_at Plain p =
      next (list_concluded p) λ Y q.
      next (byte_at s q) λ rule e.
      got (record { rule = rule; Y = Y }) e
  concluded_at Closing p =
      next (byte_at s p) λ rule q.
      next (conclusion_at rule q) λ Y e.
      got (record { rule = rule; Y = Y }) e

-- What closes a derivation: nothing, or a count byte of any value and as many line numbers (FORMAT 17.7).
unfoldable pub closing_at : List ℕ → Layout → ℕ → Got (List ℕ)
closing_at s Plain p = got [] p
closing_at s Closing p = section_at (two_bytes_at s) s p

module _ (lim : Limits) (n m : ℕ) (s : List ℕ) where
  unfoldable pub line_at : Layout → ℕ → Got Line
  line_at layout p =
      next (list_at literals n lim.listed s p) λ X q.
      next (plan_at lim Flags n m s q) λ plan r.
      next (concluded_at lim n s layout r) λ end t.
      next (count_at 0 lim.citations s t) λ k u.
      next (repeated (two_bytes_at s) k u) λ cites e.
      got (record { place = p; X = X; c = plan.value; Y = end.Y; rule = end.rule; cites = cites }) e

  -- At most the derivation limit, a line count within its limits, the lines, what closes them, and nothing after (FORMAT 5.22, 5.23, 10.1,
  -- 17.3, 17.8).
  unfoldable pub read_derivation : Layout → Got Derivation
  read_derivation layout =
      pick (ltb lim.derivation (length s)) (λ _. fault Limits.too_long 0) λ _.
      next (two_bytes_at s 0) λ c p.
      pick (either (ltb c 1) (ltb lim.lines c)) (λ _. fault Limits.count_outside 0) λ _.
      next (repeated (line_at layout) c p) λ lines q.
      next (closing_at s layout q) λ closing e.
      pick (ltb e (length s)) (λ _. fault Limits.bytes_after e) λ _.
      got (record { lines = lines; closing = closing; closing_place = q }) e

-- 18 over the plans of all lines (FORMAT 5.25).
unfoldable pub overlap_in_lines : List Line → Found
overlap_in_lines [] = nowhere
overlap_in_lines (l ∷ ls) = or_else (overlap_in l.c) (λ _. overlap_in_lines ls)

-- EQUALITY (FORMAT 10.10, 10.11): lists entry by entry, plans wherever they stand.
unfoldable pub same_list : List ℕ → List ℕ → Bool
same_list [] [] = true
same_list [] (y ∷ ys) = false
same_list (x ∷ xs) [] = false
same_list (x ∷ xs) (y ∷ ys) = both (eqb x y) (same_list xs ys)

unfoldable mutual
  pub same_plan : Sequence ℕ → Sequence ℕ → Bool
  same_plan done done = true
  same_plan done (item j q) = false
  same_plan (item i p) done = false
  same_plan (item i p) (item j q) = both (same_item i j) (same_plan p q)

  pub same_item : Item ℕ → Item ℕ → Bool
  same_item (act p a) (act q b) = eqb a b
  same_item (act p a) (branching q cs) = false
  same_item (branching p bs) (act q b) = false
  same_item (branching p bs) (branching q cs) = same_branches bs cs

  pub same_branches : Branches ℕ → Branches ℕ → Bool
  same_branches none none = true
  same_branches none (branch d q cs) = false
  same_branches (branch c p bs) none = false
  same_branches (branch c p bs) (branch d q cs) = both (same_list c d) (both (same_plan p q) (same_branches bs cs))

-- JOINING (FORMAT 10.7, 10.8).
module _ {L : Type 0} where
  unfoldable pub join : Sequence L → Sequence L → Sequence L
  join done q = q
  join (item i p) q = item i (join p q)

-- Every literal of the one list is in the other.
unfoldable pub included : List ℕ → List ℕ → Bool
included xs ys = each_of (λ (x : ℕ). among x ys) xs

-- What a state knows, as a list; `state_of` goes the other way (FORMAT 10.6).
unfoldable pub known_from : State → (f : ℕ) → List ℕ → List ℕ
known_from s f [] = []
known_from s f (m ∷ ms) =
    pick (known s (says_true f)) (λ _. says_true f ∷ known_from s (f + 1) ms) λ _.
    pick (known s (says_false f)) (λ _. says_false f ∷ known_from s (f + 1) ms) λ _.
    known_from s (f + 1) ms

unfoldable pub literals_of : State → List ℕ
literals_of s = known_from s 0 s

-- Conclusions are the same when they are of one kind and say the same.
unfoldable pub same_conclusion : Conclusion → Conclusion → Bool
same_conclusion (knows Y) (knows Z) = same_list Y Z
same_conclusion (knows Y) (knows_whether g) = false
same_conclusion (knows_whether f) (knows Z) = false
same_conclusion (knows_whether f) (knows_whether g) = eqb f g

-- One list is part of another; a fluent is part of nothing.
unfoldable pub part_of : Conclusion → Conclusion → Bool
part_of (knows Y) (knows Z) = included Y Z
part_of (knows Y) (knows_whether g) = false
part_of (knows_whether f) Z = false

-- The line says X, c, Y.
unfoldable pub says : Line → List ℕ → Sequence ℕ → Conclusion → Bool
says l X c Y = both (same_list l.X X) (both (same_plan l.c c) (same_conclusion l.Y Y))

-- The states of an outcome in their order.
unfoldable pub states_of : Outcome State → List State
states_of (single s) = s ∷ []
states_of (fork o p) = states_of o ++ states_of (p tt)

module _ {A : Type 0} where
  unfoldable pub of_one : (A → Bool) → List A → Bool
  of_one test [] = false
  of_one test (x ∷ []) = test x
  of_one test (x ∷ (y ∷ ys)) = false

  unfoldable pub of_two : (A → A → Bool) → List A → Bool
  of_two test [] = false
  of_two test (x ∷ []) = false
  of_two test (x ∷ (y ∷ [])) = test x y
  of_two test (x ∷ (y ∷ (z ∷ zs))) = false

-- THE RULES. Each takes the lines that it cites, in their order, and the line itself.
-- Rule 1 (FORMAT 10.12).
unfoldable pub rule_1 : Line → Bool
rule_1 l = both (same_plan l.c done) (same_conclusion l.Y (knows l.X))

-- Rules 4 and 12 (FORMAT 10.15, 10.24, 17.25): some condition is within X, and its branch joined with the rest is cited.
unfoldable pub takes_branch : List ℕ → Branches ℕ → Sequence ℕ → Conclusion → Line → Bool
takes_branch X none rest Y cited = false
takes_branch X (branch c b bs) rest Y cited = either (both (included c X) (says cited X (join b rest) Y)) (takes_branch X bs rest Y cited)

unfoldable pub branches_first : Line → Line → Sequence ℕ → Bool
branches_first cited l done = false
branches_first cited l (item (act p a) rest) = false
branches_first cited l (item (branching p bs) rest) = takes_branch l.X bs rest l.Y cited

unfoldable pub rule_4 : Line → Line → Bool
rule_4 cited l = branches_first cited l l.c

-- Rules 5 and 11 (FORMAT 10.16, 10.25, 10.26, 17.24): X c' Z, then Z c'' Y.
unfoldable pub rule_5 : Line → Line → Line → Bool
rule_5 first second l =
    both (both (same_list first.X l.X) (same_conclusion first.Y (knows second.X)))
    (both (same_conclusion second.Y l.Y) (same_plan (join first.c second.c) l.c))

-- Rule 6 (FORMAT 10.17, 10.27): X' c Y', with X' within X and Y within Y'.
unfoldable pub rule_6 : Line → Line → Bool
rule_6 cited l = both (included cited.X l.X) (both (same_plan cited.c l.c) (part_of l.Y cited.Y))

-- Rule 8 (FORMAT 17.22, 17.28): X c {l}, with l a literal of the fluent.
unfoldable pub one_literal : (fluent : ℕ) → List ℕ → Bool
one_literal f [] = false
one_literal f (l ∷ []) = eqb (fluent_of l) f
one_literal f (l ∷ (k ∷ ls)) = false

unfoldable pub settles : (cited own : Conclusion) → Bool
settles (knows Z) (knows_whether f) = one_literal f Z
settles (knows Z) (knows Y) = false
settles (knows_whether g) Y = false

unfoldable pub rule_8 : Line → Line → Bool
rule_8 cited l = both (same_list cited.X l.X) (both (same_plan cited.c l.c) (settles cited.Y l.Y))

-- The lines of rules 3 and 10: one for each reading, X with the reading, the rest of c, Y (FORMAT 10.14, 10.21 to 10.23, 17.23).
unfoldable pub each_reads : Sequence ℕ → Conclusion → List State → List Line → Bool
each_reads rest Y [] [] = true
each_reads rest Y [] (l ∷ ls) = false
each_reads rest Y (s ∷ ss) [] = false
each_reads rest Y (s ∷ ss) (l ∷ ls) = both (says l (literals_of s) rest Y) (each_reads rest Y ss ls)

module _ (lim : Limits) (t : Table) where
  -- Rule 2 (FORMAT 10.13, 10.18 to 10.20).
  unfoldable pub acts : Line → ℕ → State → Bool
  acts l a s = both (fails (sensing t a)) (both (can_be_run t a s) (same_conclusion l.Y (knows (literals_of (state_after t a s)))))

  unfoldable pub one_action : Line → Sequence ℕ → Bool
  one_action l done = false
  one_action l (item (act p a) done) = acts l a (state_of lim l.X)
  one_action l (item (act p a) (item i rest)) = false
  one_action l (item (branching p bs) rest) = false

  unfoldable pub rule_2 : Line → Bool
  rule_2 l = one_action l l.c

  -- Rules 3 and 10 (FORMAT 10.14, 17.23). The number of readings is settled before they are gone through.
  unfoldable pub reads : List Line → Line → ℕ → Sequence ℕ → State → Bool
  reads cited l a rest s =
      both (sensing t a) (both (can_be_run t a s)
      (pick (eqb (2 ^ length (unknown_sensed t a s)) (length cited))
      (λ _. each_reads rest l.Y (states_of (readings (unknown_sensed t a s) s)) cited) (λ _. false)))

  unfoldable pub senses_first : List Line → Line → Sequence ℕ → Bool
  senses_first cited l done = false
  senses_first cited l (item (act p a) rest) = reads cited l a rest (state_of lim l.X)
  senses_first cited l (item (branching p bs) rest) = false

  unfoldable pub rule_3 : List Line → Line → Bool
  rule_3 cited l = senses_first cited l l.c

  -- Rule 7 (FORMAT 17.21, 17.27).
  unfoldable pub looks_for : Conclusion → ℕ → State → Bool
  looks_for (knows Y) a s = false
  looks_for (knows_whether f) a s = both (senses (knowledge_of t a) f) (can_be_run t a s)

  unfoldable pub one_look : Line → Sequence ℕ → Bool
  one_look l done = false
  one_look l (item (act p a) done) = looks_for l.Y a (state_of lim l.X)
  one_look l (item (act p a) (item i rest)) = false
  one_look l (item (branching p bs) rest) = false

  unfoldable pub rule_7 : Line → Bool
  rule_7 l = one_look l l.c

  -- What the rule gives; 10, 11 and 12 are 3, 5 and 4 with a fluent for Y.
  unfoldable pub given_by : (rule : ℕ) → List Line → Line → Bool
  given_by rule cited l =
      pick (eqb rule Limits.empty_rule) (λ _. rule_1 l) λ _.
      pick (eqb rule Limits.action_rule) (λ _. rule_2 l) λ _.
      pick (eqb rule Limits.sensing_rule) (λ _. rule_3 cited l) λ _.
      pick (eqb rule Limits.branching_rule) (λ _. of_one (λ x. rule_4 x l) cited) λ _.
      pick (eqb rule Limits.composition_rule) (λ _. of_two (λ x y. rule_5 x y l) cited) λ _.
      pick (eqb rule Limits.consequence_rule) (λ _. of_one (λ x. rule_6 x l) cited) λ _.
      pick (eqb rule Limits.look_rule) (λ _. rule_7 l) λ _.
      of_one (λ x. rule_8 x l) cited

-- The rule that asks the same of lists (FORMAT 17.23 to 17.25).
unfoldable pub for_lists : ℕ → ℕ
for_lists rule =
    pick (eqb rule Limits.sensing_whether_rule) (λ _. Limits.sensing_rule) λ _.
    pick (eqb rule Limits.composition_whether_rule) (λ _. Limits.composition_rule) λ _.
    pick (eqb rule Limits.branching_whether_rule) (λ _. Limits.branching_rule) λ _.
    rule

-- What the line's rule gives.
unfoldable pub follows : Limits → Table → List Line → Line → Bool
follows lim t cited l = given_by lim t (for_lists l.rule) cited l

-- CHECKING. The numbers of citations that a rule takes (FORMAT 10.12 to 10.17, 17.21 to 17.25).
unfoldable pub citations_taken : ℕ → List ℕ
citations_taken rule =
    pick (eqb rule Limits.empty_rule) (λ _. 0 ∷ []) λ _.
    pick (eqb rule Limits.action_rule) (λ _. 0 ∷ []) λ _.
    pick (eqb rule Limits.sensing_rule) (λ _. 1 ∷ 2 ∷ 4 ∷ 8 ∷ 16 ∷ 32 ∷ 64 ∷ []) λ _.
    pick (eqb rule Limits.composition_rule) (λ _. 2 ∷ []) λ _.
    pick (eqb rule Limits.look_rule) (λ _. 0 ∷ []) λ _.
    1 ∷ []

unfoldable pub citations_of : ℕ → List ℕ
citations_of rule = citations_taken (for_lists rule)

-- The rules of each layout (FORMAT 4.21, 17.18).
unfoldable pub a_rule : Layout → ℕ → Bool
a_rule Plain rule = both (leb Limits.empty_rule rule) (leb rule Limits.consequence_rule)
a_rule Closing rule =
    either (both (leb Limits.empty_rule rule) (leb rule Limits.literal_rule))
    (both (leb Limits.sensing_whether_rule rule) (leb rule Limits.branching_whether_rule))

-- The lines that a line cites, in their order. (Each number is tested to be that of an earlier line before they are used.)
unfoldable pub cited_by : List Line → Line → List Line
cited_by lines l = map (λ (k : ℕ). get_or lines k l) l.cites

-- Line by line 31, 33, 32, 34 (FORMAT 5.26); `lines` are all of them, and i is the number of the next one.
unfoldable pub check_lines : Limits → Layout → Table → (lines : List Line) → (i : ℕ) → List Line → Got (Unit {0})
check_lines lim layout t lines i [] = got tt 0
check_lines lim layout t lines i (l ∷ ls) =
    pick (fails (a_rule layout l.rule)) (λ _. fault Limits.no_such_rule l.place) λ _.
    pick (fails (among (length l.cites) (citations_of l.rule))) (λ _. fault Limits.citations_not_taken l.place) λ _.
    pick (fails (each_of (λ (k : ℕ). ltb k i) l.cites)) (λ _. fault Limits.not_earlier l.place) λ _.
    pick (fails (follows lim t (cited_by lines l) l)) (λ _. fault Limits.does_not_follow l.place) λ _.
    check_lines lim layout t lines (i + 1) ls

-- THE QUESTION: X the initial facts, c the plan, and a conclusion; with the goals it is the question of the plain layout (FORMAT 10.31).
unfoldable pub asks_for : Request → Conclusion → Line → Bool
asks_for r Y l = says l r.table.facts r.plan Y

unfoldable pub goals_of : Request → Conclusion
goals_of r = knows (values r.goals)

-- The last line is the question (FORMAT 4.25, 5.28).
unfoldable pub check_last : Request → List Line → Got (Unit {0})
check_last r [] = got tt 0
check_last r (l ∷ []) = pick (asks_for r (goals_of r) l) (λ _. got tt 0) (λ _. fault Limits.not_the_question l.place)
check_last r (l ∷ (k ∷ ls)) = check_last r (k ∷ ls)

-- What the closing list names in its order: the goals, then each whether entry (FORMAT 17.32, 17.33).
unfoldable pub all_asked : Request → List Conclusion
all_asked r = goals_of r ∷ map (λ (w : Entry). knows_whether w.value) r.whether

-- There is a line of this number, and it asks for Y.
unfoldable pub names : Request → List Line → (number : ℕ) → Conclusion → Bool
names r [] k Y = false
names r (l ∷ ls) zero Y = asks_for r Y l
names r (l ∷ ls) (suc k) Y = names r ls k Y

-- The entries from the left, the first of them at p (FORMAT 17.36).
unfoldable pub check_entries : Request → List Line → (p : ℕ) → List Conclusion → List ℕ → Got (Unit {0})
check_entries r lines p [] ks = got tt 0
check_entries r lines p (Y ∷ Ys) [] = got tt 0
check_entries r lines p (Y ∷ Ys) (k ∷ ks) = pick (names r lines k Y) (λ _. check_entries r lines (p + 2) Ys ks) (λ _. fault Limits.closing_not_right p)

-- The length first (FORMAT 17.31, 17.35).
unfoldable pub check_closing : Request → Derivation → Got (Unit {0})
check_closing r d =
    pick (eqb (length d.closing) (length (all_asked r)))
    (λ _. check_entries r d.lines (d.closing_place + 1) (all_asked r) d.closing)
    (λ _. fault Limits.closing_not_right d.closing_place)

unfoldable pub check_end : Layout → Request → Derivation → Got (Unit {0})
check_end Plain r d = check_last r d.lines
check_end Closing r d = check_closing r d

-- A derivation for a settled request: read, 18, each line, the question (FORMAT 5.22 to 5.28, 17.10 to 17.14).
unfoldable pub check_derivation : Limits → Layout → Request → List ℕ → Got (Unit {0})
check_derivation lim layout r s =
    next (read_derivation lim r.table.fluents r.table.actions s layout) λ d e.
    refuse Limits.not_exclusive (overlap_in_lines d.lines) λ _.
    next (check_lines lim layout r.table d.lines 0 d.lines) λ _ _.
    check_end layout r d

-- THE DERIVATION CALL, with the plain layout, and THE WHETHER CALL, with the closing one. A refusal names its input and counts 0, and so does acceptance (FORMAT 4.26 to 4.29, 4.44).
unfoldable pub answer : (number input place : ℕ) → Answer
answer number input place = record { number = number; input = input; place = place; count = 0 }

unfoldable pub accepted_if : Got (Unit {0}) → Answer
accepted_if (got x e) = answer Limits.verified Limits.neither_input 0
accepted_if (fault n p) = answer n Limits.the_derivation p

-- The plain layout does not speak of whether entries (FORMAT 4.20, 17.9).
unfoldable pub beyond : Layout → Request → Bool
beyond Plain r = some_of (λ (w : Entry). true) r.whether
beyond Closing r = false

unfoldable pub check_settled : Limits → Layout → List ℕ → Got Request → Answer
check_settled lim layout derivation (got r e) =
    pick (beyond layout r) (λ _. answer Limits.whether_asked Limits.the_request r.whether_place) λ _.
    accepted_if (check_derivation lim layout r derivation)
check_settled lim layout derivation (fault n p) = answer n Limits.the_request p

-- The request is settled first, then 30, then the derivation (FORMAT 5.20, 5.21, 17.9).
unfoldable pub check : Limits → Layout → (request derivation : List ℕ) → Answer
check lim layout request derivation = check_settled lim layout derivation (settled lim request)

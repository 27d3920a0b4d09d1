-- The first overlap of the items that the notes lead to is that of the plan that they hold. Assumes nothing.
use Prim.Native.Nat.{ℕ, ◌+◌, ◌-◌, ◌*◌, ◌≤◌}
use native.Mathlib.Omega.{arith}
use mathlib.Core.Path.{◌≡◌, refl, sym, ◌∙◌, ap, ap₂, subst, fun_ext}
use mathlib.Core.Bool.{Bool, true, false}
use mathlib.Core.List.{List, [], ◌∷◌}
use mathlib.Core.Logic.{inl, inr}
use lib.ListN.{length, get_or}
use borrow.Author.Tests.{eq-eqb}
use Rattle.std.specs.Prelude.{Ok}
use Rattle.parsing.specs.Read.{Numbered}
use Rattle.std.specs.Prelude.{Option}
use Rattle.meaning.specs.Tests.{both, fails, pick, each_of, Has}
use Rattle.meaning.specs.Limits.{format, all_literals}
use Rattle.meaning.specs.Literals.{exclusive}
use Rattle.meaning.specs.Requests.{Sequence, done, item, Item, act, branching, Branches, none, branch}
use Rattle.meaning.specs.Refusals.{failing_at, failing_below, failing_in, Found, nowhere, at, or_else, conditions_of, all_exclusive, overlap_in}
use Rattle.meaning.proofs.TestLaws.{pick_true}
use Rattle.meaning.proofs.RefusalLaws.{exclusive_sym}
use Rattle.meaning.proofs.ToldLaws.{Clear}
use Rattle.reading.specs.Listed.{holds_as, span}
use Rattle.reading.specs.Planned.{items_of, items_in, items_under, bytes_of, plan_noted, noting_met, outcome_met}
use Rattle.finding.specs.Places.{found}
use Rattle.refusing.specs.Refusal18.{rules_out_as, all_apart, item_apart, first_overlap, exclusive_as, OverlapFound}
use Rattle.finding.specs.PlansHeld.{Opened, BranchWritten, Written, ItemWritten, BranchesWritten, Kept, ItemKept, BranchesKept, PlanHeld}
use Rattle.valuing.specs.Meets.{meets_as}
use Rattle.refusing.proofs.Laws18.{overlap_first, item_other}
use Rattle.refusing.proofs.FlagClashes.{possible_each}
use Rattle.finding.proofs.PlanHere.{listed_below, conditions_are, clear_of}
use Rattle.meaning.specs.declared.Form.{Form}
use Rattle.meaning.specs.declared.Form.TheVariants.{Flags, Valued}
use Rattle.meaning.specs.Values
use Rattle.valuing.proofs.AgreeingLaws.{beside_is}
use Rattle.finding.specs.LinesHere.{Consistent}
use Rattle.meaning.specs.Reading.{got, Met, plan_at, literals_in}
use Rattle.meaning.proofs.SettledLaws.{got_same}
use Rattle.parsing.proofs.LineReaderLaws.{counted_flags}
use Rattle.reading.specs.Noted.{effect_lines}
use Rattle.reading.proofs.NotingLaws.{with_items, met_value}
use Rattle.finding.proofs.WrittenLaws.{plan_items, plan_held}

-- CONDITIONS that are clear: a state of one rules out what the condition excludes.
fails_twice : (a : Bool) → fails (fails a) ≡ a
unfolding fails
fails_twice true = refl
fails_twice false = refl

out_is : (s c : List ℕ) → Clear format c → (d : List ℕ) → rules_out_as Flags s c d ≡ exclusive d c
unfolding rules_out_as meets_as holds_as exclusive
out_is s c clear d = ap fails (possible_each c clear d) ∙ fails_twice (exclusive d c)

pub apart_is : (s : List ℕ) (cs : List (List ℕ)) → ((c : List ℕ) → Has cs c → Clear format c) → all_apart Flags s cs ≡ all_exclusive cs
unfolding all_apart all_exclusive
apart_is s [] clear = refl
apart_is s (c ∷ cs) clear =
    let first : rules_out_as Flags s c ≡ exclusive c = fun_ext (λ (d : List ℕ). out_is s c (clear c (inl refl)) d ∙ exclusive_sym d c) in
    rw (first, apart_is s cs (λ d h. clear d (inr h)))

written_clear : (s : List ℕ) (p : ℕ) (c : List ℕ) (b : Sequence ℕ) → BranchWritten Flags s p c b → Clear format c
written_clear s p c b w = clear_of c (λ l h. listed_below s all_literals p w.here l (rw w.condition h)) w.clear

conditions_clear : (s : List ℕ) (p : ℕ) (bs : Branches ℕ) → BranchesWritten Flags s p bs → (c : List ℕ) → Has (conditions_of bs) c → Clear format c
unfolding BranchesWritten conditions_of
conditions_clear s p none w c h = absurd h
conditions_clear s p (branch d b rest) w c (inl e) = rw e (written_clear s p d b w.0)
conditions_clear s p (branch d b rest) w c (inr h) = conditions_clear s (p + (1 + length d) + (2 + bytes_of Flags b)) rest w.2 c h

-- CONDITIONS OF VALUES each of whose literals leaves its fluent a value.
each_alike : (f g : List ℕ → Bool) (cs : List (List ℕ)) → ((c : List ℕ) → Has cs c → f c ≡ g c) → each_of f cs ≡ each_of g cs
unfolding each_of
each_alike f g [] same = refl
each_alike f g (c ∷ cs) same = ap₂ both (same c (inl refl)) (each_alike f g cs (λ d has. same d (inr has)))

values_apart : (s : List ℕ) (cs : List (List ℕ)) → ((c : List ℕ) → Has cs c → Consistent Valued s c) → all_apart Valued s cs ≡ Values.all_exclusive (literals_in s) cs
unfolding all_apart Values.all_exclusive rules_out_as meets_as
values_apart s [] leaves = refl
values_apart s (c ∷ cs) leaves =
    ap₂ both
    (each_alike (rules_out_as Valued s c) (Values.exclusive (literals_in s) c) cs
    (λ d has. ap fails (beside_is s c d (leaves d (inr has))) ∙ fails_twice (Values.exclusive (literals_in s) c d)))
    (values_apart s cs (λ d has. leaves d (inr has)))

conditions_leave : (s : List ℕ) (p : ℕ) (bs : Branches ℕ) → BranchesWritten Valued s p bs → (c : List ℕ) → Has (conditions_of bs) c → Consistent Valued s c
unfolding BranchesWritten conditions_of
conditions_leave s p none w c h = absurd h
conditions_leave s p (branch d b rest) w c (inl e) = rw e w.0.clear
conditions_leave s p (branch d b rest) w c (inr h) = conditions_leave s (p + (1 + 2 * length d) + (2 + bytes_of Valued b)) rest w.2 c h

written_apart : (form : Form) (s : List ℕ) (p : ℕ) (bs : Branches ℕ) → BranchesWritten form s p bs → all_apart form s (conditions_of bs) ≡ exclusive_as form s (conditions_of bs)
written_apart Flags s p bs w = apart_is s (conditions_of bs) (conditions_clear s p bs w)
written_apart Valued s p bs w = values_apart s (conditions_of bs) (conditions_leave s p bs w)

module _ (form : Form) (s t : List ℕ) where
  -- THE FIRST OVERLAP of a part, and then of what follows it.
  or_else_twice : (f g : Found) (k : Unit {0} → Found) → or_else f (λ _. or_else g k) ≡ or_else (or_else f (λ _. g)) k
  unfolding or_else
  or_else_twice nowhere g k = refl
  or_else_twice (at p) g k = refl

  or_else_pick : (b : Bool) (f : Found) (p : ℕ) (k : Unit {0} → Found) → pick b (λ _. or_else f k) (λ _. at p) ≡ or_else (pick b (λ _. f) (λ _. at p)) k
  unfolding or_else pick
  or_else_pick true f p k = refl
  or_else_pick false f p k = refl

  branching_apart : (met p : ℕ) (bs : Branches ℕ) → Opened s p bs → BranchesWritten form s (p + 2) bs → BranchesKept form t (met + 1) (p + 2) bs → item_apart form s t met p ≡ exclusive_as form s (conditions_of bs)
  unfolding item_apart
  branching_apart met p bs o w k =
      pick_true _ _ _ (eq-eqb (get_or s p 0) 255 o.byte)
      ∙ rw (o.count, conditions_are form s t (met + 1) (p + 2) bs w k) (written_apart form s (p + 2) bs w)

  mutual
    unfolding items_of Written Kept failing_in or_else items_in ItemWritten ItemKept failing_at items_under BranchesWritten BranchesKept failing_below

    sequence_first : (b : Sequence ℕ) (met k : ℕ) → Written form s b → Kept form t met b → first_overlap form s t (items_of b + k) met ≡ or_else (failing_in (exclusive_as form s) b) (λ _. first_overlap form s t k (met + items_of b))
    sequence_first done met k w h = let none : 0 + k ≡ k = omega arith in let here : met + 0 ≡ met = omega arith in rw (none, here)
    sequence_first (item i rest) met k w h =
        let parts : items_in i + items_of rest + k ≡ items_in i + (items_of rest + k) = omega arith in
        let on : met + (items_in i + items_of rest) ≡ met + items_in i + items_of rest = omega arith in
        ap (λ (n : ℕ). first_overlap form s t n met) parts
        ∙ item_first i met (items_of rest + k) w.0 h.0
        ∙ ap (λ (f : Found). or_else (failing_at (exclusive_as form s) i) (λ _. f)) (sequence_first rest (met + items_in i) k w.1 h.1)
        ∙ or_else_twice (failing_at (exclusive_as form s) i) (failing_in (exclusive_as form s) rest) (λ _. first_overlap form s t k (met + items_in i + items_of rest))
        ∙ ap (λ (n : ℕ). or_else (or_else (failing_at (exclusive_as form s) i) (λ _. failing_in (exclusive_as form s) rest)) (λ _. first_overlap form s t k n)) (sym on)

    item_first : (i : Item ℕ) (met k : ℕ) → ItemWritten form s i → ItemKept form t met i → first_overlap form s t (items_in i + k) met ≡ or_else (failing_at (exclusive_as form s) i) (λ _. first_overlap form s t k (met + items_in i))
    item_first (act p a) met k w h =
        let left : 1 + k - 1 ≡ k = omega arith in
        let byte = w.byte in let below = w.below in
        overlap_first form s t (1 + k) met (omega arith)
        ∙ pick_true _ _ _ (rw h (sym (item_other form s t met p (λ is. omega (arith, is, byte, below)))))
        ∙ ap (λ (n : ℕ). first_overlap form s t n (met + 1)) left
    item_first (branching p bs) met k w h =
        let left : 1 + items_under bs + k - 1 ≡ items_under bs + k = omega arith in
        let on : met + 1 + items_under bs ≡ met + (1 + items_under bs) = omega arith in
        overlap_first form s t (1 + items_under bs + k) met (omega arith)
        ∙ rw (h.0, left, branching_apart met p bs w.0 w.1 h.1, branches_first bs (met + 1) (p + 2) k w.1 h.1, on)
        (or_else_pick (exclusive_as form s (conditions_of bs)) (failing_below (exclusive_as form s) bs) p (λ _. first_overlap form s t k (met + (1 + items_under bs))))

    branches_first : (bs : Branches ℕ) (met p k : ℕ) → BranchesWritten form s p bs → BranchesKept form t met p bs → first_overlap form s t (items_under bs + k) met ≡ or_else (failing_below (exclusive_as form s) bs) (λ _. first_overlap form s t k (met + items_under bs))
    branches_first none met p k w h = let none : 0 + k ≡ k = omega arith in let here : met + 0 ≡ met = omega arith in rw (none, here)
    branches_first (branch c b rest) met p k w h =
        let parts : items_of b + items_under rest + k ≡ items_of b + (items_under rest + k) = omega arith in
        let on : met + (items_of b + items_under rest) ≡ met + items_of b + items_under rest = omega arith in
        ap (λ (n : ℕ). first_overlap form s t n met) parts
        ∙ sequence_first b met (items_under rest + k) w.1 h.1
        ∙ ap (λ (f : Found). or_else (failing_in (exclusive_as form s) b) (λ _. f)) (branches_first rest (met + items_of b) (p + (1 + span form (length c)) + (2 + bytes_of form b)) k w.2 h.2)
        ∙ or_else_twice (failing_in (exclusive_as form s) b) (failing_below (exclusive_as form s) rest) (λ _. first_overlap form s t k (met + items_of b + items_under rest))
        ∙ ap (λ (n : ℕ). or_else (or_else (failing_in (exclusive_as form s) b) (λ _. failing_below (exclusive_as form s) rest)) (λ _. first_overlap form s t k n)) (sym on)

  or_else_none : (f : Found) → or_else f (λ _. nowhere) ≡ f
  unfolding or_else
  or_else_none nowhere = refl
  or_else_none (at p) = refl

  pub plan_overlap : (b : Sequence ℕ) (count : ℕ) → PlanHeld form s t b → items_of b ≡ count → first_overlap form s t count 0 ≡ failing_in (exclusive_as form s) b
  unfolding first_overlap
  plan_overlap b count held is =
      let all : count ≡ items_of b + 0 = omega (arith, is) in
      ap (λ (n : ℕ). first_overlap form s t n 0) all ∙ sequence_first b 0 0 held.written held.kept ∙ or_else_none (failing_in (exclusive_as form s) b)

  module _ (count : ℕ) where
    pub overlap_found : (r : Option ℕ) → r ≡ found (first_overlap form s t count 0) → OverlapFound form s t count r
    overlap_found r is = record { holds = λ b held items. is ∙ ap found (plan_overlap b count held items) }

-- What is found in a plan that was read is its own first overlap.
module _ (n m : ℕ) (s : List ℕ) (small : n ≤ format.fluents) (few : m ≤ format.actions) (p : ℕ) (t u : List ℕ) (r : Numbered) (count e : ℕ) (room : effect_lines ≤ length t) (left : outcome_met r u ≡ noting_met (plan_noted Flags p t) (plan_at format Flags n m s p)) (is : r ≡ Ok (count, e)) where
  pub overlap_left : (f : Option ℕ) → OverlapFound Flags s u count f → (x : Met (Sequence ℕ)) (q : ℕ) → plan_at format Flags n m s p ≡ got x q → f ≡ found (overlap_in x.value)
  overlap_left f all x q read =
      let w = met_value (plan_noted Flags p t) (plan_at format Flags n m s p) r u count e left is in
      let same : with_items w.0 count ≡ x = got_same (sym w.1 ∙ read) in
      subst (λ (y : Met (Sequence ℕ)). f ≡ found (overlap_in y.value)) same (all.holds w.0 (subst (λ (v : List ℕ). PlanHeld Flags s v w.0) (sym w.2) (plan_held Flags n m s small few (counted_flags s) p t (with_items w.0 count) e room w.1)) (plan_items Flags n m s small few (counted_flags s) p t (with_items w.0 count) e room w.1))

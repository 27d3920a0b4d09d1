-- Where faults are placed, in what was read and in a walk: 11 at the input's length, and every other at a byte. Each reader goes on from where
-- the one before it stopped and stops within the input, what is read keeps the places at which it was read, and the later refusals and the
-- walk name those places only. Assumes nothing.
use Prim.Native.Nat.{ℕ, zero, suc, ◌+◌, ◌*◌, ◌≤◌, ◌<◌}
use native.Mathlib.Omega.{arith}
use mathlib.Core.Path.{◌≡◌, refl, ap, subst}
use mathlib.Core.Bool.{Bool, true, false}
use mathlib.Core.List.{List, [], ◌∷◌, ◌++◌}
use lib.ListN.{length}
use borrow.Author.Tests.{leb-false, ltb-true, ltb-false}
use Rattle.meaning.specs.declared.Layout.{Layout}
use Rattle.meaning.specs.declared.Layout.TheVariants.{Plain, Closing}
use Rattle.meaning.specs.Tests.{both, either, fails, some_of, each_of, Each}
use Rattle.meaning.specs.Limits
use Rattle.meaning.specs.Limits.{Limits}
use Rattle.meaning.specs.Literals.{among}
use Rattle.meaning.specs.Requests.{Effect, Executability, Knowledge, Table, Sequence, done, item, Item, act, branching, Branches, none, branch, Entry, Request}
use Rattle.meaning.specs.Reading.{Form, Flags, Got, got, next, byte_at, two_bytes_at, count_at, below_at, Kind, literals, fluents, bound_of, entry_at, entries_at, list_at, repeated, section_at, literals_at, literal_at, past_values, body_at, effect_at, executability_at, knowledge_at, Met, plan_at, table_at, placed, placed_as, request_at, read_request}
use Rattle.meaning.specs.Refusals.{failing_at, failing_below, failing_in, Found, nowhere, at, or_else, contradictory, first_against, contradiction_in, mixed_in, all_exclusive, overlap_in, refuse, past_refusals, settled}
use Rattle.meaning.specs.States.{State, known, outcome}
use Rattle.meaning.specs.Walk.{End, Walked, first_missed, missed_in, walked, walked_guarded}
use Rattle.meaning.specs.Guards.{GuardedRequest, read_guarded, settled_guarded}
use Rattle.meaning.specs.Derivations.{Conclusion, Line, Derivation, Concluded, list_concluded, fluent_concluded, conclusion_at, concluded_at, closing_at, line_at, read_derivation, overlap_in_lines, check_lines, check_last, all_asked, check_entries, check_closing, check_end, check_derivation}
use Rattle.meaning.specs.Answers.{refusals, end_fault}
use Rattle.meaning.specs.AnswerParts.{of_neither, at_start, Placed}
use Rattle.meaning.proofs.TestLaws.{clash, either_right, fails_true}
use Rattle.meaning.proofs.LiteralLaws.{among_each}
use Rattle.meaning.proofs.PickLaws.{pick_has}
use Rattle.meaning.proofs.GotLaws
use Rattle.meaning.proofs.GotLaws.{held_got, held_then, held_faulty, next_held}
use Rattle.meaning.proofs.PlanReads
use Rattle.meaning.proofs.PlanReads.{About, Said, PassedAs, FaultsAs}
use Rattle.meaning.proofs.KeptEnds.{OnPlaces, OnPlacesItem, OnPlacesBelow, any_outcome, EndSo, walked_unguarded, walked_guarded_so}

-- The faults of counts and entries, which sections 1 to 5 have alone; those of items; and all the faults of reading that are placed at a byte.
unfoldable pub entry_faults : List ℕ
entry_faults = Limits.count_outside ∷ Limits.too_large ∷ Limits.not_above ∷ Limits.complement_beside ∷ []

unfoldable pub item_faults : List ℕ
item_faults = Limits.nested_too_deep ∷ Limits.too_many_items ∷ []

unfoldable pub byte_faults : List ℕ
byte_faults =
    Limits.count_outside ∷ Limits.too_large ∷ Limits.not_above ∷ Limits.complement_beside ∷ Limits.nested_too_deep ∷ Limits.bytes_after ∷
    Limits.too_many_items ∷ []

pub entry_byte : (n : ℕ) → among n entry_faults ≡ true → among n byte_faults ≡ true
unfolding among entry_faults byte_faults some_of either each_of both
entry_byte n is = among_each (λ (m : ℕ). among m byte_faults) entry_faults refl n is

pub item_byte : (n : ℕ) → among n item_faults ≡ true → among n byte_faults ≡ true
unfolding among item_faults byte_faults some_of either each_of both
item_byte n is = among_each (λ (m : ℕ). among m byte_faults) item_faults refl n is

-- BELOW. What has only places below `size`.
module _ (size : ℕ) where
  abbrev pub FoundBelow : Found → Type 0
  FoundBelow nowhere = Unit {0}
  FoundBelow (at p) = p < size

  module _ {A : Type 0} (place : A → ℕ) where
    abbrev pub EachBelow : List A → Type 0
    EachBelow xs = Each (λ (x : A). place x < size) xs

  abbrev pub PlanBelow : Sequence ℕ → Type 0
  PlanBelow b = OnPlaces (λ p. p < size) b

  abbrev ItemBelow : Item ℕ → Type 0
  ItemBelow i = OnPlacesItem (λ p. p < size) i

  abbrev BranchesBelow : Branches ℕ → Type 0
  BranchesBelow bs = OnPlacesBelow (λ p. p < size) bs

  pub record TableBelow (t : Table) : Type 0 where
    pub effects : EachBelow (λ (e : Effect). e.place) t.effects
    pub knowledge : EachBelow (λ (k : Knowledge). k.place) t.knowledge

  pub record RequestBelow (r : Request) : Type 0 where
    pub table : TableBelow r.table
    pub plan : PlanBelow r.plan
    pub goals : EachBelow (λ (e : Entry). e.place) r.goals
    pub whether : EachBelow (λ (e : Entry). e.place) r.whether
    pub whether_place : r.whether_place < size

  record LineBelow (l : Line) : Type 0 where
    here : l.place < size
    plan : PlanBelow l.c

  -- The numbers that close a derivation, behind their count at p.
  abbrev Closed : Layout → (p : ℕ) → List ℕ → Type 0
  Closed Plain p ks = Unit {0}
  Closed Closing p ks = p + 1 + 2 * length ks ≤ size

  record DerivationBelow (layout : Layout) (d : Derivation) : Type 0 where
    lines : Each LineBelow d.lines
    closing : Closed layout d.closing_place d.closing

  -- THE LATER REFUSALS.
  pub or_below : (f : Found) (k : Unit {0} → Found) → FoundBelow f → FoundBelow (k tt) → FoundBelow (or_else f k)
  unfolding or_else
  or_below nowhere k first then = then
  or_below (at p) k first then = first

  pub against_below : (against : Effect → Effect → Bool) (before es : List Effect) → EachBelow (λ (e : Effect). e.place) es → FoundBelow (first_against against before es)
  unfolding first_against
  against_below against before [] h = tt
  against_below against before (e ∷ es) h = pick_has FoundBelow _ _ _ (λ _. h.0) (λ _. against_below against (e ∷ before) es h.1)

  pub contradiction_below : (t : Table) → EachBelow (λ (e : Effect). e.place) t.effects → FoundBelow (contradiction_in t)
  unfolding contradiction_in
  contradiction_below t h = against_below (contradictory t) [] t.effects h

  pub mixed_below : (es : List Effect) (ks : List Knowledge) → EachBelow (λ (k : Knowledge). k.place) ks → FoundBelow (mixed_in es ks)
  unfolding mixed_in
  mixed_below es [] h = tt
  mixed_below es (k ∷ ks) h = pick_has FoundBelow _ _ _ (λ _. h.0) (λ _. mixed_below es ks h.1)

  module _ (test : List (List ℕ) → Bool) where
    mutual
      unfolding failing_in failing_at failing_below

      pub failing_in_below : (b : Sequence ℕ) → PlanBelow b → FoundBelow (failing_in test b)
      failing_in_below done h = tt
      failing_in_below (item i rest) h = or_below (failing_at test i) _ (failing_at_below i h.0) (failing_in_below rest h.1)

      failing_at_below : (i : Item ℕ) → ItemBelow i → FoundBelow (failing_at test i)
      failing_at_below (act p a) h = tt
      failing_at_below (branching p bs) h = pick_has FoundBelow _ _ _ (λ _. failing_below_below bs h.1) (λ _. h.0)

      failing_below_below : (bs : Branches ℕ) → BranchesBelow bs → FoundBelow (failing_below test bs)
      failing_below_below none h = tt
      failing_below_below (branch c b bs) h = or_below (failing_in test b) _ (failing_in_below b h.0) (failing_below_below bs h.1)

  pub overlap_in_below : (b : Sequence ℕ) → PlanBelow b → FoundBelow (overlap_in b)
  overlap_in_below = failing_in_below all_exclusive

  overlap_lines_below : (ls : List Line) → Each LineBelow ls → FoundBelow (overlap_in_lines ls)
  unfolding overlap_in_lines
  overlap_lines_below [] h = tt
  overlap_lines_below (l ∷ ls) h = or_below (overlap_in l.c) _ (overlap_in_below l.c h.0.plan) (overlap_lines_below ls h.1)

  pub placed_below : (p : ℕ) (xs : List ℕ) → p + length xs ≤ size → EachBelow (λ (e : Entry). e.place) (placed p xs)
  unfolding placed
  placed_below p [] fits = tt
  placed_below p (x ∷ xs) fits = (omega (arith, fits), placed_below (p + 1) xs (omega (arith, fits)))

  pub first_missed_below : (test : ℕ → Bool) (es : List Entry) → EachBelow (λ (e : Entry). e.place) es → FoundBelow (first_missed test es)
  unfolding first_missed
  first_missed_below test [] h = tt
  first_missed_below test (e ∷ es) h = pick_has FoundBelow _ _ _ (λ _. first_missed_below test es h.1) (λ _. h.0)

  pub missed_below : (r : Request) → RequestBelow r → (s : State) → FoundBelow (missed_in r s)
  unfolding missed_in
  missed_below r h s = or_below _ _ (first_missed_below _ r.goals h.goals) (first_missed_below _ r.whether h.whether)

  -- THE WALK misses at an entry, and stops at an item.
  abbrev pub EndBelow : End State → Type 0
  EndBelow = EndSo (λ p _. p < size) (λ _ p _. p < size)

  -- With guards, each at a byte, it stops in a state at the guard that it lacks.
  pub walked_guarded_below : (r : Request) → RequestBelow r → (gs : List Entry) → EachBelow (λ (e : Entry). e.place) gs → (s : State) → EndBelow (walked_guarded r gs s).end
  walked_guarded_below r h gs guards s =
      walked_guarded_so _ _ (λ _. Unit {0}) (λ p. p < size) (λ _ _ p here. here) r gs (λ a u _. any_outcome (outcome r.table a u))
      (λ u _ p q. subst FoundBelow q (missed_below r h u)) (λ u _ p q. subst FoundBelow q (first_missed_below (known u) gs guards)) h.plan s tt

  pub walked_below : (r : Request) → RequestBelow r → (s : State) → EndBelow (walked r s).end
  walked_below r h s = subst (λ (w : Walked State). EndBelow w.end) (walked_unguarded r s) (walked_guarded_below r h [] tt s)

-- READING an input, where `Bad n p` is what is said of a fault with number n at place p.
module _ (s : List ℕ) (Bad : ℕ → ℕ → Type 0) where
  -- What a reader gives stops within the input, and `so` holds of it and of where it stops; of a fault `Bad` holds.
  module _ {A : Type 0} (so : A → ℕ → Type 0) where
    abbrev pub Inside : A → ℕ → Type 0
    Inside x p = (p ≤ length s) × so x p

    abbrev pub Held : Got A → Type 0
    Held = GotLaws.Held Bad Inside

  module _ {A B : Type 0} (so : A → ℕ → Type 0) (then : B → ℕ → Type 0) where
    pub by_next : (m : Got A) (k : A → ℕ → Got B) → Held so m → ((x : A) (p : ℕ) → p ≤ length s → so x p → Held then (k x p)) → Held then (next m k)
    by_next m k h g = next_held Bad (Inside so) (Inside then) m k h λ x p _ w. g x p w.0 w.1

  module _ {A : Type 0} (so : A → ℕ → Type 0) where
    pub by_refuse : (n : ℕ) (f : Found) (k : Unit {0} → Got A) → ((p : ℕ) → p < length s → Bad n p) → FoundBelow (length s) f → Held so (k tt) → Held so (refuse n f k)
    unfolding refuse
    by_refuse n nowhere k bad found then = then
    by_refuse n (at p) k bad found then = bad p found

  -- It holds of 11 at the input's length, and of the faults of counts and entries at each byte.
  module _ (ends : Bad Limits.ends_too_soon (length s)) (byte : (n p : ℕ) → among n entry_faults ≡ true → p < length s → Bad n p) where
    -- Some number, and the place after its one byte.
    abbrev One : ℕ → ℕ → ℕ → Type 0
    One p x q = q ≡ p + 1

    pub byte_held : (p : ℕ) → Held (One p) (byte_at s p)
    unfolding byte_at
    byte_held p = pick_has (Held (One p)) _ _ _ (λ _. ends) (λ f. let more = leb-false (length s) p f in (omega (arith, more), refl))

    abbrev Two : ℕ → ℕ → ℕ → Type 0
    Two p x q = q ≡ p + 2

    pub two_bytes_held : (p : ℕ) → Held (Two p) (two_bytes_at s p)
    unfolding two_bytes_at
    two_bytes_held p =
        by_next (One p) _ (byte_at s p) _ (byte_held p) λ high q _ is.
        by_next (One q) _ (byte_at s q) _ (byte_held q) λ low r fits is₂. (fits, omega (arith, is, is₂))

    pub count_held : (least limit p : ℕ) → Held (One p) (count_at least limit s p)
    unfolding count_at among entry_faults some_of either
    count_held least limit p =
        by_next (One p) _ (byte_at s p) _ (byte_held p) λ c q fits is.
        pick_has (Held (One p)) _ _ _ (λ _. byte _ p refl (omega (arith, fits, is))) (λ _. (fits, is))

    pub below_held : (bound p : ℕ) → Held (One p) (below_at bound s p)
    unfolding below_at among entry_faults some_of either
    below_held bound p =
        by_next (One p) _ (byte_at s p) _ (byte_held p) λ x q fits is.
        pick_has (Held (One p)) _ _ _ (λ _. byte _ p refl (omega (arith, fits, is))) (λ _. (fits, is))

    entry_held : (kind : Kind) (n p floor : ℕ) → Held (One p) (entry_at kind n s p floor)
    unfolding entry_at among entry_faults some_of either
    entry_held kind n p floor =
        by_next (One p) _ (below_at (bound_of kind n) s p) _ (below_held (bound_of kind n) p) λ x q fits is.
        pick_has (Held (One p)) _ _ _ (λ _. byte _ p refl (omega (arith, fits, is))) λ _.
        pick_has (Held (One p)) _ _ _ (λ _. byte _ p refl (omega (arith, fits, is))) (λ _. (fits, is))

    -- A list stops as far on as it is long, behind its count.
    abbrev Long : ℕ → List ℕ → ℕ → Type 0
    Long p xs q = q ≡ p + length xs

    entries_held : (kind : Kind) (n left p floor : ℕ) → p ≤ length s → Held (Long p) (entries_at kind n s left p floor)
    unfolding entries_at
    entries_held kind n zero p floor fits = (fits, omega arith)
    entries_held kind n (suc left) p floor fits =
        by_next (One p) _ (entry_at kind n s p floor) _ (entry_held kind n p floor) λ x q fits₁ is.
        by_next (Long q) _ (entries_at kind n s left q (x + 1)) _ (entries_held kind n left q (x + 1) fits₁) λ xs r fits₂ long.
        (fits₂, omega (arith, is, long))

    pub list_held : (kind : Kind) (n limit p : ℕ) → Held (Long (p + 1)) (list_at kind n limit s p)
    unfolding list_at
    list_held kind n limit p =
        by_next (One p) _ (count_at 0 limit s p) _ (count_held 0 limit p) λ c q fits is.
        rw is (entries_held kind n c (p + 1) 0 (omega (arith, fits, is)))

    module _ {A : Type 0} (so : A → Type 0) (line : ℕ → Got A) (held : (p : ℕ) → Held (λ (x : A) (q : ℕ). so x) (line p)) where
      repeated_held : (left p : ℕ) → p ≤ length s → Held (λ (xs : List A) (q : ℕ). Each so xs) (repeated line left p)
      unfolding repeated
      repeated_held zero p fits = (fits, tt)
      repeated_held (suc left) p fits =
          by_next (λ (x : A) (q : ℕ). so x) _ (line p) _ (held p) λ x q fits₁ here.
          by_next (λ (xs : List A) (q : ℕ). Each so xs) _ (repeated line left q) _ (repeated_held left q fits₁) λ xs r fits₂ rest.
          (fits₂, (here, rest))

      section_held : (p : ℕ) → Held (λ (xs : List A) (q : ℕ). Each so xs) (section_at line s p)
      unfolding section_at
      section_held p = by_next (One p) _ (byte_at s p) _ (byte_held p) λ c q fits _. repeated_held c q fits

    -- Two-byte numbers, one after the other.
    numbers_held : (left p : ℕ) → p ≤ length s → Held (λ (ks : List ℕ) (q : ℕ). q ≡ p + 2 * length ks) (repeated (two_bytes_at s) left p)
    unfolding repeated
    numbers_held zero p fits = (fits, omega arith)
    numbers_held (suc left) p fits =
        by_next (Two p) _ (two_bytes_at s p) _ (two_bytes_held p) λ x q fits₁ is.
        by_next (λ (ks : List ℕ) (r : ℕ). r ≡ q + 2 * length ks) _ (repeated (two_bytes_at s) left q) _ (numbers_held left q fits₁) λ ks r fits₂ long.
        (fits₂, omega (arith, is, long))

    -- A FORM of requests: the entries of its lists stand at bytes, and its literals and what stands behind its values are within the input.
    pub record FormHeld (form : Form) : Type 0 where
      pub listed : (n most p : ℕ) → Held (λ (xs : List ℕ) (q : ℕ). EachBelow (length s) (λ (e : Entry). e.place) (placed_as form (p + 1) xs)) (literals_at form n most s p)
      pub literal : (n p : ℕ) → Held (λ (l q : ℕ). Unit {0}) (literal_at form n s p)
      pub past : (n p : ℕ) (k : ℕ → Got Table) → p ≤ length s → ((q : ℕ) → q ≤ length s → Held (λ (t : Table) (e : ℕ). TableBelow (length s) t) (k q))
          → Held (λ (t : Table) (e : ℕ). TableBelow (length s) t) (past_values form n s p k)

    -- That with one byte for a literal.
    flags_held : FormHeld Flags
    flags_held = record {
      listed = λ n most p.
          held_then Bad (Inside (Long (p + 1))) (Inside (λ xs q. EachBelow (length s) (λ (e : Entry). e.place) (placed (p + 1) xs))) (list_at literals n most s p) (list_held literals n most p) λ xs q h.
          (h.0, placed_below (length s) (p + 1) xs (omega (arith, h.0, h.1)));
      literal = λ n p. held_then Bad (Inside (One p)) (Inside (λ _ _. Unit {0})) (below_at (2 * n) s p) (below_held (2 * n) p) λ x q h. (h.0, tt);
      past = λ n p k here then. then p here;
    }

    module _ (lim : Limits) (n m : ℕ) where
      module _ (form : Form) (held : FormHeld form) where
        -- A body.
        abbrev Stands : ℕ → List ℕ → ℕ → Type 0
        Stands p xs q = EachBelow (length s) (λ (e : Entry). e.place) (placed_as form (p + 1) xs)

        body_held : (p : ℕ) → Held (Stands p) (body_at lim form n s p)
        unfolding body_at
        body_held p = held.listed n lim.body p

        effect_held : (p : ℕ) → Held (λ (x : Effect) (q : ℕ). x.place < length s) (effect_at lim form n m s p)
        unfolding effect_at
        effect_held p =
            by_next (One p) _ (below_at m s p) _ (below_held m p) λ a q fits is.
            by_next _ _ (literal_at form n s q) _ (held.literal n q) λ l r _ _.
            by_next (Stands r) _ (body_at lim form n s r) _ (body_held r) λ b e fits₂ _. (fits₂, omega (arith, fits, is))

        executability_held : (p : ℕ) → Held (λ (x : Executability) (q : ℕ). Unit {0}) (executability_at lim form n m s p)
        unfolding executability_at
        executability_held p =
            by_next (One p) _ (below_at m s p) _ (below_held m p) λ a q _ _.
            by_next (Stands q) _ (body_at lim form n s q) _ (body_held q) λ b e fits _. (fits, tt)

      knowledge_held : (p : ℕ) → Held (λ (x : Knowledge) (q : ℕ). x.place < length s) (knowledge_at lim n m s p)
      unfolding knowledge_at
      knowledge_held p =
          by_next (One p) _ (below_at m s p) _ (below_held m p) λ a q fits is.
          by_next (One q) _ (below_at n s q) _ (below_held n q) λ f e fits₂ _. (fits₂, omega (arith, fits, is))

      -- The plan: a part of it that begins within the input stops there, and has only places of its bytes.
      abbrev PartBelow : {A : Type 0} → (A → Type 0) → About A
      PartBelow below p met x e = p ≤ length s → (e ≤ length s) × below x.value

      abbrev plan_below : Said
      plan_below = record {
        item = λ deep. PartBelow (ItemBelow (length s));
        items = λ deep left. PartBelow (PlanBelow (length s));
        sequence = λ deep. PartBelow (PlanBelow (length s));
        branches = λ deep left. PartBelow (BranchesBelow (length s));
      }

      byte_there : (p x q : ℕ) → byte_at s p ≡ got x q → (q ≤ length s) × (p < length s)
      byte_there p x q read = let h = held_got Bad (Inside (One p)) (byte_at s p) (byte_held p) x q read in let fits = h.0 in let is = h.1 in (fits, omega (arith, fits, is))

      -- Where it holds of the faults of items too.
      abbrev OfItems : Type 0
      OfItems = (n p : ℕ) → among n item_faults ≡ true → p < length s → Bad n p

      module _ (form : Form) (held : FormHeld form) where
        below_passed : PassedAs lim form n m s plan_below
        below_passed = record {
          an_action = λ deep p met x q read _ _ _ _. byte_there p x q read;
          a_branching = λ deep p met x q c r bs e read _ _ count all _.
              let inside = all (held_got Bad (Inside (One (p + 1))) (count_at 1 lim.branches s (p + 1)) (count_held 1 lim.branches (p + 1)) c r count).0 in
              (inside.0, ((byte_there p x q read).1, inside.1));
          no_item = λ deep p met here. (here, tt);
          an_item = λ deep left p met i q rest e one more here. let first = one here in let others = more first.0 in (others.0, (first.1, others.1));
          a_sequence = λ deep p met c q b e read all _. all (held_got Bad (Inside (Two p)) (two_bytes_at s p) (two_bytes_held p) c q read).0;
          no_branch = λ deep p met here. (here, tt);
          a_branch = λ deep left p met c q b r rest e read _ one more _.
              let first = one (held_got Bad (Inside (Stands form held p)) (body_at lim form n s p) (body_held form held p) c q read).0 in
              let others = more first.0 in
              (others.0, (first.1, others.1));
        }

        plan_faults : OfItems → FaultsAs lim form n m s Bad
        unfolding among entry_faults item_faults some_of either
        plan_faults items = record {
          byte = λ p. held_faulty Bad (Inside (One p)) (byte_at s p) (byte_held p);
          number = λ p. held_faulty Bad (Inside (Two p)) (two_bytes_at s p) (two_bytes_held p);
          count = λ p. held_faulty Bad (Inside (One p)) (count_at 1 lim.branches s p) (count_held 1 lim.branches p);
          condition = λ p. held_faulty Bad (Inside (Stands form held p)) (body_at lim form n s p) (body_held form held p);
          too_many = λ p x q read. items _ p refl (byte_there p x q read).1;
          too_large = λ p x q read. byte _ p refl (byte_there p x q read).1;
          too_deep = λ p x q read. items _ p refl (byte_there p x q read).1;
        }

        plan_held : OfItems → (p : ℕ) → p ≤ length s → Held (λ (x : Met (Sequence ℕ)) (q : ℕ). PlanBelow (length s) x.value) (plan_at lim form n m s p)
        plan_held items p here =
            held_then Bad (PartBelow (PlanBelow (length s)) p 0) (Inside (λ x q. PlanBelow (length s) x.value)) (plan_at lim form n m s p)
            (PlanReads.plan_held_as lim form n m s plan_below below_passed Bad (plan_faults items) p) λ x e below. below here

      -- A line of a derivation.
      listed_held : (p : ℕ) → Held (λ (Y : Conclusion) (q : ℕ). Unit {0}) (list_concluded lim n s p)
      unfolding list_concluded
      listed_held p = by_next (Long (p + 1)) _ (list_at literals n lim.listed s p) _ (list_held literals n lim.listed p) λ Y q fits _. (fits, tt)

      fluent_held : (p : ℕ) → Held (λ (Y : Conclusion) (q : ℕ). Unit {0}) (fluent_concluded lim n s p)
      unfolding fluent_concluded
      fluent_held p = by_next (One p) _ (below_at n s p) _ (below_held n p) λ f q fits _. (fits, tt)

      concluded_held : (layout : Layout) (p : ℕ) → Held (λ (x : Concluded) (q : ℕ). Unit {0}) (concluded_at lim n s layout p)
      unfolding concluded_at conclusion_at
      concluded_held Plain p =
          by_next _ _ (list_concluded lim n s p) _ (listed_held p) λ Y q _ _.
          by_next (One q) _ (byte_at s q) _ (byte_held q) λ rule e fits _. (fits, tt)
      concluded_held Closing p =
          by_next (One p) _ (byte_at s p) _ (byte_held p) λ rule q _ _.
          by_next (λ (Y : Conclusion) (e : ℕ). Unit {0}) _ (conclusion_at lim n s rule q) _ (pick_has (Held (λ (Y : Conclusion) (e : ℕ). Unit {0})) _ _ _ (λ _. fluent_held q) (λ _. listed_held q)) λ Y e fits _. (fits, tt)

      line_held : OfItems → (layout : Layout) (p : ℕ) → Held (λ (l : Line) (q : ℕ). LineBelow (length s) l) (line_at lim n m s layout p)
      unfolding line_at
      line_held items layout p =
          by_next (Long (p + 1)) _ (list_at literals n lim.listed s p) _ (list_held literals n lim.listed p) λ X q fits long.
          by_next _ _ (plan_at lim Flags n m s q) _ (plan_held Flags flags_held items q fits) λ plan r _ inside.
          by_next _ _ (concluded_at lim n s layout r) _ (concluded_held layout r) λ x t _ _.
          by_next (One t) _ (count_at 0 lim.citations s t) _ (count_held 0 lim.citations t) λ k v fits₂ _.
          by_next _ _ (repeated (two_bytes_at s) k v) _ (numbers_held k v fits₂) λ cites e fits₃ _.
          (fits₃, record { here = omega (arith, fits, long); plan = inside })

    closing_held : (layout : Layout) (p : ℕ) → p ≤ length s → Held (λ (ks : List ℕ) (q : ℕ). Closed (length s) layout p ks) (closing_at s layout p)
    unfolding closing_at section_at
    closing_held Plain p fits = (fits, tt)
    closing_held Closing p fits =
        by_next (One p) (λ ks e. p + 1 + 2 * length ks ≤ length s) (byte_at s p) _ (byte_held p) λ c q fits₁ is.
        held_then Bad (Inside (λ ks e. e ≡ q + 2 * length ks)) (Inside (λ ks e. p + 1 + 2 * length ks ≤ length s)) (repeated (two_bytes_at s) c q) (numbers_held c q fits₁) λ ks e h.
        (h.0, omega (arith, is, h.0, h.1))

    -- The table, and the rest after it.
    module _ (lim : Limits) where
      module _ (form : Form) (held : FormHeld form) where
        pub table_held_as : (p : ℕ) → Held (λ (t : Table) (q : ℕ). TableBelow (length s) t) (table_at lim form s p)
        unfolding table_at
        table_held_as start =
            by_next _ _ (count_at 1 lim.fluents s start) _ (count_held 1 lim.fluents start) λ n v here _.
            held.past n v _ here λ p _.
            by_next _ _ (count_at 1 lim.actions s p) _ (count_held 1 lim.actions p) λ m q _ _.
            by_next _ _ (literals_at form n lim.listed s q) _ (held.listed n lim.listed q) λ facts r _ _.
            by_next _ _ (section_at (effect_at lim form n m s) s r) _ (section_held (λ (e : Effect). e.place < length s) _ (effect_held lim n m form held) r) λ es t _ effects.
            by_next _ _ (section_at (executability_at lim form n m s) s t) _ (section_held (λ (e : Executability). Unit {0}) _ (executability_held lim n m form held) t) λ xs u _ _.
            by_next _ _ (section_at (knowledge_at lim n m s) s u) _ (section_held (λ (k : Knowledge). k.place < length s) _ (knowledge_held lim n m) u) λ ks e fits knowledge.
            (fits, record { effects = effects; knowledge = knowledge })

        pub request_held_as : ((n p : ℕ) → among n item_faults ≡ true → p < length s → Bad n p) → (t : Table) (p : ℕ) → TableBelow (length s) t → p ≤ length s
            → Held (λ (r : Request) (q : ℕ). RequestBelow (length s) r) (request_at lim form s t p)
        unfolding request_at
        request_held_as items t start table here =
            by_next _ _ (plan_at lim form t.fluents t.actions s start) _ (plan_held lim t.fluents t.actions form held items start here) λ b p _ plan.
            by_next _ _ (literals_at form t.fluents lim.listed s p) _ (held.listed t.fluents lim.listed p) λ gs q _ goals.
            by_next _ _ (list_at fluents t.fluents lim.listed s q) _ (list_held fluents t.fluents lim.listed q) λ ws e fits₂ whether. (
              fits₂,
              record {
                table = table;
                plan = plan;
                goals = goals;
                whether = placed_below (length s) (q + 1) ws (omega (arith, fits₂, whether));
                whether_place = omega (arith, fits₂, whether);
              },
            )

      pub table_held : (p : ℕ) → Held (λ (t : Table) (q : ℕ). TableBelow (length s) t) (table_at lim Flags s p)
      table_held = table_held_as Flags flags_held

      pub request_held : ((n p : ℕ) → among n item_faults ≡ true → p < length s → Bad n p) → (t : Table) (p : ℕ) → TableBelow (length s) t → p ≤ length s → Held (λ (r : Request) (q : ℕ). RequestBelow (length s) r) (request_at lim Flags s t p)
      request_held = request_held_as Flags flags_held

-- PLACED, by the number.
start_or_end : (n : ℕ) → among n at_start ≡ true → among n (Limits.ends_too_soon ∷ at_start) ≡ true
unfolding among some_of
start_or_end n is = either_right _ _ is

pub placed_start : (size n : ℕ) → among n at_start ≡ true → Placed size n 0
unfolding among at_start of_neither some_of either
placed_start size n is = record {
  start = λ _. refl;
  end = λ e. clash is (ap (λ (m : ℕ). among m at_start) e);
  byte = λ f. clash (start_or_end n is) f;
}

placed_end : (size : ℕ) → Placed size Limits.ends_too_soon size
unfolding among at_start of_neither some_of either
placed_end size = record { start = λ h. clash h refl; end = λ _. refl; byte = λ f. clash refl f }

pub placed_byte : (size n p : ℕ) → among n (Limits.ends_too_soon ∷ at_start) ≡ false → p < size → Placed size n p
unfolding among at_start of_neither some_of either
placed_byte size n p not less = record {
  start = λ h. clash (start_or_end n h) not;
  end = λ e. clash (ap (λ (m : ℕ). among m (Limits.ends_too_soon ∷ at_start)) e) not;
  byte = λ _. less;
}

-- A FAULT of an input: its number is one of ns, and its place is as the input's size says and no larger than its limit.
pub record FaultIn (ns : List ℕ) (limit size n p : ℕ) : Type 0 where
  pub number : among n ns ≡ true
  pub placed : Placed size n p
  pub fits : p ≤ limit

module _ (ns : List ℕ) (limit size : ℕ) where
  pub too_long_fault : among Limits.too_long ns ≡ true → FaultIn ns limit size Limits.too_long 0
  unfolding among at_start of_neither some_of either
  too_long_fault is = record { number = is; placed = placed_start size Limits.too_long refl; fits = omega arith }

  module _ (short : size ≤ limit) where
    pub ends_fault : among Limits.ends_too_soon ns ≡ true → FaultIn ns limit size Limits.ends_too_soon size
    ends_fault is = record { number = is; placed = placed_end size; fits = short }

    pub byte_fault : (n p : ℕ) → among n ns ≡ true → among n (Limits.ends_too_soon ∷ at_start) ≡ false → p < size → FaultIn ns limit size n p
    byte_fault n p is not less = record { number = is; placed = placed_byte size n p not less; fits = omega (arith, short, less) }

    -- So are those of reading that are placed at a byte.
    pub listed_fault : (faults : List ℕ) → each_of (λ (n : ℕ). among n ns) faults ≡ true → each_of (λ (m : ℕ). fails (among m (Limits.ends_too_soon ∷ at_start))) faults ≡ true
        → (n p : ℕ) → among n faults ≡ true → p < size → FaultIn ns limit size n p
    listed_fault faults each bytes n p is less =
        byte_fault n p (among_each (λ (m : ℕ). among m ns) faults each n is) (fails_true _ (among_each (λ (m : ℕ). fails (among m (Limits.ends_too_soon ∷ at_start))) faults bytes n is)) less

    pub reading_fault : each_of (λ (n : ℕ). among n ns) byte_faults ≡ true → (n p : ℕ) → among n byte_faults ≡ true → p < size → FaultIn ns limit size n p
    unfolding among byte_faults at_start of_neither some_of either fails each_of both
    reading_fault each = listed_fault byte_faults each refl

-- A REQUEST.
module _ (lim : Limits) (s : List ℕ) where
  abbrev RequestFault : ℕ → ℕ → Type 0
  RequestFault = FaultIn refusals lim.request (length s)

  -- It is no longer than its limit, and has only places of its bytes.
  abbrev pub RequestRead : Request → ℕ → Type 0
  RequestRead r e = RequestBelow (length s) r × (length s ≤ lim.request)

  abbrev pub RequestHeld : Got Request → Type 0
  RequestHeld = Held s RequestFault RequestRead

  pub read_held : RequestHeld (read_request lim Flags s)
  unfolding read_request among refusals byte_faults some_of either each_of both
  read_held =
      pick_has RequestHeld _ _ _ (λ _. too_long_fault refusals lim.request (length s) refl) λ f.
      let short = ltb-false lim.request (length s) f in
      let ends = ends_fault refusals lim.request (length s) short refl in
      let byte = reading_fault refusals lim.request (length s) short refl in
      let entry : (n p : ℕ) → among n entry_faults ≡ true → p < length s → RequestFault n p = λ n p is. byte n p (entry_byte n is) in
      by_next s RequestFault (λ (t : Table) (q : ℕ). TableBelow (length s) t) RequestRead (table_at lim Flags s 0) _ (table_held s RequestFault ends entry lim 0) λ t p fits table.
      by_next s RequestFault (λ (r : Request) (q : ℕ). RequestBelow (length s) r) RequestRead (request_at lim Flags s t p) _ (request_held s RequestFault ends entry lim (λ n p is. byte n p (item_byte n is)) t p table fits) λ r e fits₂ so.
      pick_has RequestHeld _ _ _ (λ more. byte _ e refl (ltb-true _ _ more)) (λ _. (fits₂, (so, short)))

  -- What was read of it, past 16, 17 and 18.
  module _ {A : Type 0} (so : A → ℕ → Type 0) (r : Request) (below : RequestBelow (length s) r) (short : length s ≤ lim.request) where
    past_held : (whole : Got A) → Held s RequestFault so whole → Held s RequestFault so (past_refusals r whole)
    unfolding among refusals at_start of_neither some_of either
    past_held whole held =
        let refused = byte_fault refusals lim.request (length s) short in
        by_refuse s RequestFault so _ _ _ (λ p. refused _ p refl refl) (contradiction_below (length s) r.table below.table.effects)
        (by_refuse s RequestFault so _ _ _ (λ p. refused _ p refl refl) (mixed_below (length s) r.table.effects r.table.knowledge below.table.knowledge)
        (by_refuse s RequestFault so _ _ _ (λ p. refused _ p refl refl) (overlap_in_below (length s) r.plan below.plan) held))

  pub settled_held : RequestHeld (settled lim s)
  unfolding settled
  settled_held = by_next s RequestFault RequestRead RequestRead (read_request lim Flags s) _ read_held λ r e fits so. past_held RequestRead r so.0 so.1 (got r e) (fits, so)

  -- A guarded request: so are its guards.
  pub record GuardedBelow (g : GuardedRequest) (e : ℕ) : Type 0 where
    pub request : RequestBelow (length s) g.request
    pub guards : EachBelow (length s) (λ (x : Entry). x.place) g.guards
    pub short : length s ≤ lim.request

  abbrev pub GuardedHeld : Got GuardedRequest → Type 0
  GuardedHeld = Held s RequestFault GuardedBelow

  guarded_read_held : GuardedHeld (read_guarded lim s)
  unfolding read_guarded among refusals byte_faults some_of either each_of both
  guarded_read_held =
      pick_has GuardedHeld _ _ _ (λ _. too_long_fault refusals lim.request (length s) refl) λ f.
      let short = ltb-false lim.request (length s) f in
      let ends = ends_fault refusals lim.request (length s) short refl in
      let byte = reading_fault refusals lim.request (length s) short refl in
      let entry : (n p : ℕ) → among n entry_faults ≡ true → p < length s → RequestFault n p = λ n p is. byte n p (entry_byte n is) in
      by_next s RequestFault (λ (t : Table) (q : ℕ). TableBelow (length s) t) GuardedBelow (table_at lim Flags s 0) _ (table_held s RequestFault ends entry lim 0) λ t p fits table.
      by_next s RequestFault (λ (r : Request) (q : ℕ). RequestBelow (length s) r) GuardedBelow (request_at lim Flags s t p) _ (request_held s RequestFault ends entry lim (λ n p is. byte n p (item_byte n is)) t p table fits) λ r q _ so.
      by_next s RequestFault (λ (gs : List ℕ) (e : ℕ). e ≡ q + 1 + length gs) GuardedBelow (list_at literals t.fluents Limits.most_guards s q) _
      (list_held s RequestFault ends entry literals t.fluents Limits.most_guards q) λ gs e fits₂ long.
      pick_has GuardedHeld _ _ _ (λ more. byte _ e refl (ltb-true _ _ more))
      (λ _. (fits₂, record { request = so; guards = placed_below (length s) (q + 1) gs (omega (arith, fits₂, long)); short = short }))

  pub guarded_held : GuardedHeld (settled_guarded lim s)
  unfolding settled_guarded
  guarded_held =
      by_next s RequestFault GuardedBelow GuardedBelow (read_guarded lim s) _ guarded_read_held λ g e fits so. past_held GuardedBelow g.request so.request so.short (got g e) (fits, so)

-- A DERIVATION, for a request. It gets neither 16 nor 17. What the layout decides stands last, so that the others are found in any layout.
unfoldable pub derivation_faults : Layout → List ℕ
derivation_faults layout =
    Limits.no_such_rule ∷ Limits.not_earlier ∷ Limits.citations_not_taken ∷ Limits.does_not_follow ∷ Limits.not_exclusive ∷ Limits.too_long ∷
    Limits.ends_too_soon ∷ byte_faults ++ (end_fault layout ∷ [])

module _ (lim : Limits) (layout : Layout) (d : List ℕ) where
  abbrev DerivationFault : ℕ → ℕ → Type 0
  DerivationFault = FaultIn (derivation_faults layout) lim.derivation (length d)

  abbrev DerivationRead : Derivation → ℕ → Type 0
  DerivationRead x e = DerivationBelow (length d) layout x × (length d ≤ lim.derivation)

  abbrev DerivationHeld : Got Derivation → Type 0
  DerivationHeld = Held d DerivationFault DerivationRead

  derivation_held : (n m : ℕ) → DerivationHeld (read_derivation lim n m d layout)
  unfolding read_derivation among derivation_faults byte_faults some_of either each_of both
  derivation_held n m =
      pick_has DerivationHeld _ _ _ (λ _. too_long_fault (derivation_faults layout) lim.derivation (length d) refl) λ f.
      let short = ltb-false lim.derivation (length d) f in
      let ends = ends_fault (derivation_faults layout) lim.derivation (length d) short refl in
      let byte = reading_fault (derivation_faults layout) lim.derivation (length d) short refl in
      let entry : (n p : ℕ) → among n entry_faults ≡ true → p < length d → DerivationFault n p = λ n p is. byte n p (entry_byte n is) in
      by_next d DerivationFault (λ (c p : ℕ). p ≡ 0 + 2) DerivationRead (two_bytes_at d 0) _ (two_bytes_held d DerivationFault ends entry 0) λ c p fits is.
      pick_has DerivationHeld _ _ _ (λ _. byte _ 0 refl (omega (arith, fits, is))) λ _.
      by_next d DerivationFault (λ (ls : List Line) (q : ℕ). Each (LineBelow (length d)) ls) DerivationRead (repeated (line_at lim n m d layout) c p) _
      (repeated_held d DerivationFault ends entry (LineBelow (length d)) (line_at lim n m d layout) (line_held d DerivationFault ends entry lim n m (λ n p is. byte n p (item_byte n is)) layout) c p fits) λ ls q fits₂ so.
      by_next d DerivationFault (λ (ks : List ℕ) (e : ℕ). Closed (length d) layout q ks) DerivationRead (closing_at d layout q) _ (closing_held d DerivationFault ends entry layout q fits₂) λ ks e fits₃ closed.
      pick_has DerivationHeld _ _ _ (λ more. byte _ e refl (ltb-true _ _ more)) (λ _. (fits₃, (record { lines = so; closing = closed }, short)))

  abbrev pub Checked : Got (Unit {0}) → Type 0
  Checked = Held d DerivationFault (λ (x : Unit {0}) (q : ℕ). Unit {0})

  module _ (short : length d ≤ lim.derivation) where
    refused : (n p : ℕ) → among n (derivation_faults layout) ≡ true → among n (Limits.ends_too_soon ∷ at_start) ≡ false → p < length d → DerivationFault n p
    refused = byte_fault (derivation_faults layout) lim.derivation (length d) short

    lines_checked : (t : Table) (lines : List Line) (i : ℕ) (ls : List Line) → Each (LineBelow (length d)) ls → Checked (check_lines lim layout t lines i ls)
    unfolding check_lines among derivation_faults byte_faults at_start of_neither some_of either
    lines_checked t lines i [] h = (omega arith, tt)
    lines_checked t lines i (l ∷ ls) h =
        pick_has Checked _ _ _ (λ _. refused _ _ refl refl h.0.here) λ _.
        pick_has Checked _ _ _ (λ _. refused _ _ refl refl h.0.here) λ _.
        pick_has Checked _ _ _ (λ _. refused _ _ refl refl h.0.here) λ _.
        pick_has Checked _ _ _ (λ _. refused _ _ refl refl h.0.here) λ _.
        lines_checked t lines (i + 1) ls h.1

-- The end, by the layout.
module _ (lim : Limits) (d : List ℕ) (short : length d ≤ lim.derivation) where
  last_checked : (r : Request) (ls : List Line) → Each (LineBelow (length d)) ls → Checked lim Plain d (check_last r ls)
  unfolding check_last among derivation_faults byte_faults end_fault at_start of_neither some_of either
  last_checked r [] h = (omega arith, tt)
  last_checked r (l ∷ []) h = pick_has (Checked lim Plain d) _ _ _ (λ _. (omega arith, tt)) (λ _. refused lim Plain d short _ _ refl refl h.0.here)
  last_checked r (l ∷ (k ∷ ls)) h = last_checked r (k ∷ ls) h.1

  entries_checked : (r : Request) (lines : List Line) (p : ℕ) (Ys : List Conclusion) (ks : List ℕ) → p + 2 * length ks ≤ length d → Checked lim Closing d (check_entries r lines p Ys ks)
  unfolding check_entries among derivation_faults byte_faults end_fault at_start of_neither some_of either
  entries_checked r lines p [] ks fits = (omega arith, tt)
  entries_checked r lines p (Y ∷ Ys) [] fits = (omega arith, tt)
  entries_checked r lines p (Y ∷ Ys) (k ∷ ks) fits =
      pick_has (Checked lim Closing d) _ _ _ (λ _. entries_checked r lines (p + 2) Ys ks (omega (arith, fits))) (λ _. refused lim Closing d short _ p refl refl (omega (arith, fits)))

  end_checked : (layout : Layout) (r : Request) (x : Derivation) → DerivationBelow (length d) layout x → Checked lim layout d (check_end layout r x)
  unfolding check_end check_closing among derivation_faults byte_faults end_fault at_start of_neither some_of either
  end_checked Plain r x h = last_checked r x.lines h.lines
  end_checked Closing r x h =
      pick_has (Checked lim Closing d) _ _ _ (λ _. entries_checked r x.lines (x.closing_place + 1) (all_asked r) x.closing h.closing)
      (λ _. let fits = h.closing in refused lim Closing d short _ x.closing_place refl refl (omega (arith, fits)))

module _ (lim : Limits) (layout : Layout) (d : List ℕ) where
  pub derivation_checked : (r : Request) → Checked lim layout d (check_derivation lim layout r d)
  unfolding check_derivation among derivation_faults byte_faults at_start of_neither some_of either
  derivation_checked r =
      by_next d (DerivationFault lim layout d) (DerivationRead lim layout d) (λ (x : Unit {0}) (q : ℕ). Unit {0}) (read_derivation lim r.table.fluents r.table.actions d layout) _ (derivation_held lim layout d r.table.fluents r.table.actions) λ x e _ so.
      by_refuse d (DerivationFault lim layout d) (λ (x : Unit {0}) (q : ℕ). Unit {0}) _ _ _ (λ p. refused lim layout d so.1 _ p refl refl) (overlap_lines_below (length d) x.lines so.0.lines)
      (by_next d (DerivationFault lim layout d) (λ (x : Unit {0}) (q : ℕ). Unit {0}) (λ (x : Unit {0}) (q : ℕ). Unit {0}) (check_lines lim layout r.table x.lines 0 x.lines) _ (lines_checked lim layout d so.1 r.table x.lines 0 x.lines so.0.lines) λ _ _ _ _.
      end_checked lim d so.1 layout r x so.0)

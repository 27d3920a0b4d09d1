-- Wider limits read the same, unless the narrower refuse a count by 12. Only counts are compared with the limits that grow, and a count within
-- the narrower is within the wider; everything else is read alike, so one reader after another is. Assumes nothing.
use Prim.Native.Nat.{ℕ, zero, suc, ◌+◌, ◌*◌, ◌≤◌}
use native.Mathlib.Omega.{arith}
use mathlib.Core.Path.{◌≡◌, refl, sym, ap, subst}
use mathlib.Core.Bool.{Bool, true, false}
use mathlib.Core.List.{List}
use mathlib.Core.Logic.{◌⊎◌, inl, inr, ⊎_elim}
use lib.ListN.{length}
use lib.Dec.{leb, ltb, eqb}
use borrow.Author.Tests.{ltb-true, lt-ltb}
use Rattle.meaning.specs.Tests.{either, pick}
use Rattle.meaning.specs.Limits
use Rattle.meaning.specs.Limits.{Limits}
use Rattle.meaning.specs.Requests.{Table, Sequence, Item}
use Rattle.meaning.specs.declared.Form.TheVariants.{Flags}
use Rattle.meaning.specs.Reading.{Got, got, fault, next, byte_at, two_bytes_at, count_at, below_at, Kind, literals, fluents, list_at, repeated, section_at, body_at, effect_at, executability_at, knowledge_at, Part, item_at, items_at, sequence_at, branches_at, branching_at, plan_at, table_at, request_at, read_request}
use Rattle.meaning.specs.Refusals.{settled}
use Rattle.demands.specs.Wider.{Wider}
use Rattle.meaning.proofs.TestLaws.{by-test, clash, either_left, either_right, either_split, pick_false}

-- WHAT WAS READ TWICE: by the narrower limits, and by the wider.
module _ {A : Type 0} where
  -- Refused by 12.
  abbrev pub Outside : Got A → Type 0
  Outside (got x p) = ⊥
  Outside (fault n p) = n ≡ Limits.count_outside

  abbrev pub Alike : Got A → Got A → Type 0
  Alike g h = Outside g ⊎ (h ≡ g)

  pub alike_pick : (a b : Bool) → b ≡ a → (f k g h : Unit {0} → Got A) → Alike (f tt) (k tt) → Alike (g tt) (h tt) → Alike (pick a f g) (pick b k h)
  unfolding pick
  alike_pick true b same f k g h first second = rw same first
  alike_pick false b same f k g h first second = rw same second

  -- A refusal by a limit that stays.
  pub alike_refuse : (a b : Bool) → b ≡ a → (n p : ℕ) (g h : Unit {0} → Got A) → Alike (g tt) (h tt) → Alike (pick a (λ _. fault n p) g) (pick b (λ _. fault n p) h)
  alike_refuse a b same n p g h alike = alike_pick a b same _ _ g h (inr refl) alike

  -- A count that the narrower limits do not refuse is not refused by the wider.
  alike_count : (a b : Bool) (p : ℕ) (k : Unit {0} → Got A) → (b ≡ true → a ≡ true) → Alike (pick a (λ _. fault Limits.count_outside p) k) (pick b (λ _. fault Limits.count_outside p) k)
  unfolding pick
  alike_count true b p k f = inl refl
  alike_count false b p k f = inr (pick_false b _ _ (by-test b (λ t. clash (f t) refl) (λ e. e)))

module _ {A B : Type 0} where
  -- What follows may know what was read.
  pub alike_read : (g h : Got A) (k j : A → ℕ → Got B) → Alike g h → ((x : A) (p : ℕ) → g ≡ got x p → Alike (k x p) (j x p)) → Alike (next g k) (next h j)
  unfolding next
  alike_read (got x p) h k j (inl o) f = absurd o
  alike_read (got x p) h k j (inr e) f = rw e (f x p refl)
  alike_read (fault n p) h k j (inl o) f = inl o
  alike_read (fault n p) h k j (inr e) f = inr (rw e refl)

  pub alike_next : (g h : Got A) (k j : A → ℕ → Got B) → Alike g h → ((x : A) (p : ℕ) → Alike (k x p) (j x p)) → Alike (next g k) (next h j)
  alike_next g h k j alike f = alike_read g h k j alike (λ x p _. f x p)

  -- After what is read without limits.
  pub alike_after : (g : Got A) (k j : A → ℕ → Got B) → ((x : A) (p : ℕ) → Alike (k x p) (j x p)) → Alike (next g k) (next g j)
  alike_after g k j f = alike_next g g k j (inr refl) f

-- COUNTS, LISTS AND LINES.
count_alike : (least most more : ℕ) → most ≤ more → (s : List ℕ) (p : ℕ) → Alike (count_at least most s p) (count_at least more s p)
unfolding count_at
count_alike least most more wide s p =
    alike_after (byte_at s p) _ _ λ c q.
    alike_count (either (ltb c least) (ltb most c)) (either (ltb c least) (ltb more c)) p (λ _. got c q) λ t.
    ⊎_elim (λ low. either_left _ _ low) (λ high. either_right _ _ (lt-ltb most c (omega (arith, ltb-true more c high, wide)))) (either_split _ _ t)

pub list_alike : (kind : Kind) (n most more : ℕ) → most ≤ more → (s : List ℕ) (p : ℕ) → Alike (list_at kind n most s p) (list_at kind n more s p)
unfolding list_at
list_alike kind n most more wide s p = alike_next (count_at 0 most s p) (count_at 0 more s p) _ _ (count_alike 0 most more wide s p) λ c q. inr refl

module _ {A : Type 0} (line other : ℕ → Got A) (alike : (p : ℕ) → Alike (line p) (other p)) where
  pub repeated_alike : (left p : ℕ) → Alike (repeated line left p) (repeated other left p)
  unfolding repeated
  repeated_alike zero p = inr refl
  repeated_alike (suc left) p =
      alike_next (line p) (other p) _ _ (alike p) λ x q.
      alike_next (repeated line left q) (repeated other left q) _ _ (repeated_alike left q) λ rest r. inr refl

  section_alike : (s : List ℕ) (p : ℕ) → Alike (section_at line s p) (section_at other s p)
  unfolding section_at
  section_alike s p = alike_after (byte_at s p) _ _ λ c q. repeated_alike c q

module _ (lim big : Limits) (wider : Wider lim big) where
  module _ (n m : ℕ) (s : List ℕ) where
    body_alike : (p : ℕ) → Alike (body_at lim Flags n s p) (body_at big Flags n s p)
    unfolding body_at
    body_alike p = inr (ap (λ (b : ℕ). list_at literals n b s p) wider.body)

    effect_alike : (p : ℕ) → Alike (effect_at lim Flags n m s p) (effect_at big Flags n m s p)
    unfolding effect_at
    effect_alike p =
        alike_after (below_at m s p) _ _ λ a q.
        alike_after (below_at (2 * n) s q) _ _ λ l r.
        alike_next (body_at lim Flags n s r) (body_at big Flags n s r) _ _ (body_alike r) λ b e. inr refl

    executability_alike : (p : ℕ) → Alike (executability_at lim Flags n m s p) (executability_at big Flags n m s p)
    unfolding executability_at
    executability_alike p =
        alike_after (below_at m s p) _ _ λ a q.
        alike_next (body_at lim Flags n s q) (body_at big Flags n s q) _ _ (body_alike q) λ b e. inr refl

    knowledge_alike : (p : ℕ) → Alike (knowledge_at lim n m s p) (knowledge_at big n m s p)
    unfolding knowledge_at
    knowledge_alike p = inr refl

    -- PLANS. Two readers of a part that read alike.
    abbrev PartsAlike : {A : Type 0} → Part A → Part A → Type 0
    PartsAlike one other = (p met : ℕ) → Alike (one p met) (other p met)

    item_alike : (deeper other : Part (Item ℕ)) → PartsAlike deeper other → PartsAlike (item_at lim Flags n m s deeper) (item_at big Flags n m s other)
    unfolding item_at
    item_alike deeper other alike p met =
        alike_after (byte_at s p) _ _ λ x q.
        alike_refuse (leb lim.items met) (leb big.items met) (ap (λ (most : ℕ). leb most met) wider.items) _ _ _ _
        (alike_pick (eqb x Limits.branching_byte) (eqb x Limits.branching_byte) refl _ _ _ _ (alike p (met + 1)) (inr refl))

    items_alike : (one other : Part (Item ℕ)) → PartsAlike one other → (left : ℕ) → PartsAlike (items_at lim Flags n m s one left) (items_at big Flags n m s other left)
    unfolding items_at
    items_alike one other alike zero p met = inr refl
    items_alike one other alike (suc left) p met =
        alike_next (one p met) (other p met) _ _ (alike p met) λ i q.
        alike_next (items_at lim Flags n m s one left q i.items) (items_at big Flags n m s other left q i.items) _ _ (items_alike one other alike left q i.items) λ rest r. inr refl

    sequence_alike : (deeper other : Part (Item ℕ)) → PartsAlike deeper other → PartsAlike (sequence_at lim Flags n m s deeper) (sequence_at big Flags n m s other)
    unfolding sequence_at
    sequence_alike deeper other alike p met =
        alike_after (two_bytes_at s p) _ _ λ c q.
        items_alike (item_at lim Flags n m s deeper) (item_at big Flags n m s other) (item_alike deeper other alike) c q met

    branches_alike : (sequence other : Part (Sequence ℕ)) → PartsAlike sequence other → (left : ℕ) → PartsAlike (branches_at lim Flags n m s sequence left) (branches_at big Flags n m s other left)
    unfolding branches_at
    branches_alike sequence other alike zero p met = inr refl
    branches_alike sequence other alike (suc left) p met =
        alike_next (body_at lim Flags n s p) (body_at big Flags n s p) _ _ (body_alike p) λ c q.
        alike_next (sequence q met) (other q met) _ _ (alike q met) λ b r.
        alike_next (branches_at lim Flags n m s sequence left r b.items) (branches_at big Flags n m s other left r b.items) _ _ (branches_alike sequence other alike left r b.items) λ rest e. inr refl

    branching_alike : (left : ℕ) → PartsAlike (branching_at lim Flags n m s left) (branching_at big Flags n m s left)
    unfolding branching_at
    branching_alike zero p met = inr refl
    branching_alike (suc left) p met =
        alike_next (count_at 1 lim.branches s (p + 1)) (count_at 1 big.branches s (p + 1)) _ _ (inr (ap (λ (most : ℕ). count_at 1 most s (p + 1)) wider.branches)) λ c q.
        alike_next (branches_at lim Flags n m s (sequence_at lim Flags n m s (branching_at lim Flags n m s left)) c q met) (branches_at big Flags n m s (sequence_at big Flags n m s (branching_at big Flags n m s left)) c q met) _ _
        (branches_alike _ _ (sequence_alike _ _ (branching_alike left)) c q met) λ bs r. inr refl

    pub plan_alike : (p : ℕ) → Alike (plan_at lim Flags n m s p) (plan_at big Flags n m s p)
    unfolding plan_at
    plan_alike p =
        sequence_alike (branching_at lim Flags n m s lim.nested) (branching_at big Flags n m s big.nested)
        (subst (λ (deep : ℕ). PartsAlike (branching_at lim Flags n m s lim.nested) (branching_at big Flags n m s deep)) (sym wider.nested) (branching_alike lim.nested)) p 0

  -- THE REQUEST.
  table_alike : (s : List ℕ) (start : ℕ) → Alike (table_at lim Flags s start) (table_at big Flags s start)
  unfolding table_at
  table_alike s start =
      alike_next (count_at 1 lim.fluents s start) (count_at 1 big.fluents s start) _ _ (count_alike 1 lim.fluents big.fluents wider.fluents s start) λ n p.
      alike_next (count_at 1 lim.actions s p) (count_at 1 big.actions s p) _ _ (count_alike 1 lim.actions big.actions wider.actions s p) λ m q.
      alike_next (list_at literals n lim.listed s q) (list_at literals n big.listed s q) _ _ (list_alike literals n lim.listed big.listed wider.listed s q) λ facts r.
      alike_next (section_at (effect_at lim Flags n m s) s r) (section_at (effect_at big Flags n m s) s r) _ _ (section_alike _ _ (effect_alike n m s) s r) λ effects t.
      alike_next (section_at (executability_at lim Flags n m s) s t) (section_at (executability_at big Flags n m s) s t) _ _ (section_alike _ _ (executability_alike n m s) s t) λ executability u.
      alike_next (section_at (knowledge_at lim n m s) s u) (section_at (knowledge_at big n m s) s u) _ _ (section_alike _ _ (knowledge_alike n m s) s u) λ knowledge e. inr refl

  request_alike : (s : List ℕ) (t : Table) (start : ℕ) → Alike (request_at lim Flags s t start) (request_at big Flags s t start)
  unfolding request_at
  request_alike s t start =
      alike_next (plan_at lim Flags t.fluents t.actions s start) (plan_at big Flags t.fluents t.actions s start) _ _ (plan_alike t.fluents t.actions s start) λ plan p.
      alike_next (list_at literals t.fluents lim.listed s p) (list_at literals t.fluents big.listed s p) _ _ (list_alike literals t.fluents lim.listed big.listed wider.listed s p) λ goals q.
      alike_next (list_at fluents t.fluents lim.listed s q) (list_at fluents t.fluents big.listed s q) _ _ (list_alike fluents t.fluents lim.listed big.listed wider.listed s q) λ whether e. inr refl

  read_alike : (s : List ℕ) → Alike (read_request lim Flags s) (read_request big Flags s)
  unfolding read_request
  read_alike s =
      alike_refuse (ltb lim.request (length s)) (ltb big.request (length s)) (ap (λ (most : ℕ). ltb most (length s)) wider.request) _ _ _ _
      (alike_next (table_at lim Flags s 0) (table_at big Flags s 0) _ _ (table_alike s 0) λ t p.
      alike_next (request_at lim Flags s t p) (request_at big Flags s t p) _ _ (request_alike s t p) λ r e. inr refl)

  -- A request is settled alike: 16 to 18 do not look at the limits.
  pub settled_alike : (s : List ℕ) → Alike (settled lim s) (settled big s)
  unfolding settled
  settled_alike s = alike_next (read_request lim Flags s) (read_request big Flags s) _ _ (read_alike s) λ r e. inr refl

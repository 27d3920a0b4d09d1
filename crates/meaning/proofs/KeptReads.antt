-- What was read up to a place is read from every input that has the same bytes up to there: a reader goes on from where it began, and looks at no byte
-- behind the place where it stops. A fault other than 11 is met in every input that begins with all of the bytes. By going through the readers.
-- Assumes nothing.
use Prim.Native.Nat.{ℕ, zero, suc, ◌+◌, ◌*◌, ◌≤◌, ◌<◌}
use native.Mathlib.Omega.{arith}
use mathlib.Core.Path.{◌≡◌, refl, ◌∙◌, ap, subst}
use mathlib.Core.Bool.{Bool, true, false}
use mathlib.Core.List.{List, [], ◌∷◌}
use lib.ListN.{length, get_or}
use lib.Dec.{leb}
use borrow.Author.Tests.{leb-false, lt-leb}
use Rattle.meaning.specs.Tests.{pick}
use Rattle.meaning.specs.Limits
use Rattle.meaning.specs.Limits.{Limits}
use Rattle.meaning.specs.Requests.{Table, Sequence, Item}
use Rattle.meaning.specs.Reading.{Flags, Got, got, fault, next, byte_at, two_bytes_at, count_at, below_at, Kind, literals, fluents, bound_of, entry_at, entries_at, list_at, repeated, section_at, body_at, effect_at, executability_at, knowledge_at, Part, item_at, items_at, sequence_at, branches_at, branching_at, plan_at, table_at, request_at}
use Rattle.meaning.proofs.TestLaws.{pick_false}
use Rattle.meaning.proofs.PickLaws.{pick_has}
use Rattle.meaning.proofs.MovedReads.{next_is}

-- The input u has the bytes of s up to `far`.
module _ (s u : List ℕ) (far : ℕ) (room : far ≤ length u) (same : (p : ℕ) → p < far → get_or u p 0 ≡ get_or s p 0) where
  module _ {A : Type 0} where
    -- What was read in s from p on stops behind p and within s; and where it stops no later than `far`, it was read in u. Where u has all bytes of s, a
    -- fault other than 11 is met there too.
    abbrev pub Kept : ℕ → Got A → Got A → Type 0
    Kept p (got x e) h = (p ≤ e) × (p ≤ length s → e ≤ length s) × (e ≤ far → h ≡ got x e)
    Kept p (fault n i) h = p ≤ length s → length s ≤ far → (n ≡ Limits.ends_too_soon → ⊥) → h ≡ fault n i

    pub kept_fault : (p : ℕ) (g h : Got A) → Kept p g h → (n i : ℕ) → g ≡ fault n i → Kept p (fault n i) h
    kept_fault p g h kept n i read = subst (λ (y : Got A). Kept p y h) read kept

    -- One fault, read in both.
    kept_same : (p n i : ℕ) → Kept p (fault n i) (fault n i)
    kept_same p n i _ _ _ = refl

    pub kept_of : (p : ℕ) (g h : Got A) → Kept p g h → (x : A) (e : ℕ) → g ≡ got x e → Kept p (got x e) h
    kept_of p g h kept x e read = subst (λ (y : Got A). Kept p y h) read kept

    pub kept_got : (x : A) (p : ℕ) → Kept p (got x p) (got x p)
    kept_got x p = (omega arith, λ h. h, λ _. refl)

    kept_pick : (b : Bool) (p : ℕ) (f g h k : Unit {0} → Got A) → Kept p (f tt) (h tt) → Kept p (g tt) (k tt) → Kept p (pick b f g) (pick b h k)
    unfolding pick
    kept_pick true p f g h k first second = first
    kept_pick false p f g h k first second = second

    -- From where another reader has stopped.
    kept_after : (p q : ℕ) → p ≤ q → (p ≤ length s → q ≤ length s) → (g h j : Got A) → (q ≤ far → j ≡ h) → Kept q g h → Kept p g j
    kept_after p q on inside (got x e) h j is kept = (omega (arith, on, kept.0), λ fits. kept.1 (inside fits), λ few. is (omega (arith, kept.0, few)) ∙ kept.2 few)
    kept_after p q on inside (fault n i) h j is kept = λ fits all not. is (let stops = inside fits in omega (arith, stops, all)) ∙ kept (inside fits) all not

  module _ {A B : Type 0} where
    pub kept_next : (p : ℕ) (g h : Got A) (k j : A → ℕ → Got B) → Kept p g h → ((x : A) (q : ℕ) → Kept q (k x q) (j x q)) → Kept p (next g k) (next h j)
    unfolding next
    kept_next p (got x q) h k j one f = kept_after p q one.0 one.1 (k x q) (j x q) (next h j) (λ few. next_is h j x q (one.2 few)) (f x q)
    kept_next p (fault n i) h k j one f = λ fits all not. ap (λ (y : Got A). next y j) (one fits all not)

  -- BYTES, NUMBERS AND LISTS.
  byte_next : {B : Type 0} (p : ℕ) (k j : ℕ → ℕ → Got B) → ((x : ℕ) → Kept (p + 1) (k x (p + 1)) (j x (p + 1))) → Kept p (next (byte_at s p) k) (next (byte_at u p) j)
  unfolding next byte_at
  byte_next p k j f =
      pick_has (λ (g : Got ℕ). Kept p (next g k) (next (byte_at u p) j)) (leb (length s) p) _ _ (λ _ _ _ not. absurd (not refl)) λ inside.
      let less = leb-false (length s) p inside in
      kept_after p (p + 1) (omega arith) (λ _. omega (arith, less)) (k (get_or s p 0) (p + 1)) (j (get_or s p 0) (p + 1)) (next (byte_at u p) j)
      (λ few. next_is (byte_at u p) j (get_or s p 0) (p + 1) (pick_false _ _ _ (lt-leb (length u) p (omega (arith, few, room))) ∙ ap (λ (x : ℕ). got x (p + 1)) (same p (omega (arith, few)))))
      (f (get_or s p 0))

  two_bytes_kept : (p : ℕ) → Kept p (two_bytes_at s p) (two_bytes_at u p)
  unfolding two_bytes_at
  two_bytes_kept p = byte_next p _ _ λ high. byte_next (p + 1) _ _ λ low. kept_got _ _

  count_kept : (least most p : ℕ) → Kept p (count_at least most s p) (count_at least most u p)
  unfolding count_at
  count_kept least most p = byte_next p _ _ λ c. kept_pick _ (p + 1) _ _ _ _ (kept_same (p + 1) _ _) (kept_got c (p + 1))

  below_kept : (bound p : ℕ) → Kept p (below_at bound s p) (below_at bound u p)
  unfolding below_at
  below_kept bound p = byte_next p _ _ λ x. kept_pick _ (p + 1) _ _ _ _ (kept_same (p + 1) _ _) (kept_got x (p + 1))

  module _ (kind : Kind) (n : ℕ) where
    entry_kept : (p floor : ℕ) → Kept p (entry_at kind n s p floor) (entry_at kind n u p floor)
    unfolding entry_at
    entry_kept p floor =
        kept_next p (below_at (bound_of kind n) s p) (below_at (bound_of kind n) u p) _ _ (below_kept (bound_of kind n) p) λ x q.
        kept_pick _ q _ _ _ _ (kept_same q _ _) (kept_pick _ q _ _ _ _ (kept_same q _ _) (kept_got x q))

    entries_kept : (left p floor : ℕ) → Kept p (entries_at kind n s left p floor) (entries_at kind n u left p floor)
    unfolding entries_at
    entries_kept zero p floor = kept_got [] p
    entries_kept (suc left) p floor =
        kept_next p (entry_at kind n s p floor) (entry_at kind n u p floor) _ _ (entry_kept p floor) λ x q.
        kept_next q (entries_at kind n s left q (x + 1)) (entries_at kind n u left q (x + 1)) _ _ (entries_kept left q (x + 1)) λ xs r. kept_got (x ∷ xs) r

    pub list_kept : (most p : ℕ) → Kept p (list_at kind n most s p) (list_at kind n most u p)
    unfolding list_at
    list_kept most p = kept_next p (count_at 0 most s p) (count_at 0 most u p) _ _ (count_kept 0 most p) λ c q. entries_kept c q 0

  -- LINES.
  module _ {A : Type 0} (line other : ℕ → Got A) (kept : (p : ℕ) → Kept p (line p) (other p)) where
    pub repeated_kept : (left p : ℕ) → Kept p (repeated line left p) (repeated other left p)
    unfolding repeated
    repeated_kept zero p = kept_got [] p
    repeated_kept (suc left) p =
        kept_next p (line p) (other p) _ _ (kept p) λ x q.
        kept_next q (repeated line left q) (repeated other left q) _ _ (repeated_kept left q) λ rest r. kept_got (x ∷ rest) r

    pub section_kept : (p : ℕ) → Kept p (section_at line s p) (section_at other u p)
    unfolding section_at
    section_kept p = byte_next p _ _ λ c. repeated_kept c (p + 1)

  -- Two readers of a part that read alike.
  abbrev PartsKept : {A : Type 0} → Part A → Part A → Type 0
  PartsKept one other = (p met : ℕ) → Kept p (one p met) (other p met)

  -- A branching is read from behind the byte that opens it.
  abbrev BehindKept : {A : Type 0} → Part A → Part A → Type 0
  BehindKept one other = (p met : ℕ) → Kept (p + 1) (one p met) (other p met)

  module _ (lim : Limits) (n m : ℕ) where
    body_kept : (p : ℕ) → Kept p (body_at lim Flags n s p) (body_at lim Flags n u p)
    unfolding body_at
    body_kept p = list_kept literals n lim.body p

    pub effect_kept : (p : ℕ) → Kept p (effect_at lim Flags n m s p) (effect_at lim Flags n m u p)
    unfolding effect_at
    effect_kept p =
        kept_next p (below_at m s p) (below_at m u p) _ _ (below_kept m p) λ a q.
        kept_next q (below_at (2 * n) s q) (below_at (2 * n) u q) _ _ (below_kept (2 * n) q) λ l r.
        kept_next r (body_at lim Flags n s r) (body_at lim Flags n u r) _ _ (body_kept r) λ b e. kept_got _ e

    pub executability_kept : (p : ℕ) → Kept p (executability_at lim Flags n m s p) (executability_at lim Flags n m u p)
    unfolding executability_at
    executability_kept p =
        kept_next p (below_at m s p) (below_at m u p) _ _ (below_kept m p) λ a q.
        kept_next q (body_at lim Flags n s q) (body_at lim Flags n u q) _ _ (body_kept q) λ b e. kept_got _ e

    pub knowledge_kept : (p : ℕ) → Kept p (knowledge_at lim n m s p) (knowledge_at lim n m u p)
    unfolding knowledge_at
    knowledge_kept p =
        kept_next p (below_at m s p) (below_at m u p) _ _ (below_kept m p) λ a q.
        kept_next q (below_at n s q) (below_at n u q) _ _ (below_kept n q) λ f e. kept_got _ e

    -- PLANS.
    pub item_kept : (deeper other : Part (Item ℕ)) → BehindKept deeper other → PartsKept (item_at lim Flags n m s deeper) (item_at lim Flags n m u other)
    unfolding item_at
    item_kept deeper other kept p met =
        byte_next p _ _ λ x.
        kept_pick _ (p + 1) _ _ _ _ (kept_same (p + 1) _ _) (kept_pick _ (p + 1) _ _ _ _ (kept p (met + 1)) (kept_pick _ (p + 1) _ _ _ _ (kept_same (p + 1) _ _) (kept_got _ (p + 1))))

    pub items_kept : (one other : Part (Item ℕ)) → PartsKept one other → (left : ℕ) → PartsKept (items_at lim Flags n m s one left) (items_at lim Flags n m u other left)
    unfolding items_at
    items_kept one other kept zero p met = kept_got _ p
    items_kept one other kept (suc left) p met =
        kept_next p (one p met) (other p met) _ _ (kept p met) λ i q.
        kept_next q (items_at lim Flags n m s one left q i.items) (items_at lim Flags n m u other left q i.items) _ _ (items_kept one other kept left q i.items) λ rest r. kept_got _ r

    sequence_kept : (deeper other : Part (Item ℕ)) → BehindKept deeper other → PartsKept (sequence_at lim Flags n m s deeper) (sequence_at lim Flags n m u other)
    unfolding sequence_at
    sequence_kept deeper other kept p met =
        kept_next p (two_bytes_at s p) (two_bytes_at u p) _ _ (two_bytes_kept p) λ c q.
        items_kept (item_at lim Flags n m s deeper) (item_at lim Flags n m u other) (item_kept deeper other kept) c q met

    branches_kept : (sequence other : Part (Sequence ℕ)) → PartsKept sequence other → (left : ℕ) → PartsKept (branches_at lim Flags n m s sequence left) (branches_at lim Flags n m u other left)
    unfolding branches_at
    branches_kept sequence other kept zero p met = kept_got _ p
    branches_kept sequence other kept (suc left) p met =
        kept_next p (body_at lim Flags n s p) (body_at lim Flags n u p) _ _ (body_kept p) λ c q.
        kept_next q (sequence q met) (other q met) _ _ (kept q met) λ b r.
        kept_next r (branches_at lim Flags n m s sequence left r b.items) (branches_at lim Flags n m u other left r b.items) _ _ (branches_kept sequence other kept left r b.items) λ rest e. kept_got _ e

    pub branching_kept : (left : ℕ) → BehindKept (branching_at lim Flags n m s left) (branching_at lim Flags n m u left)
    unfolding branching_at
    branching_kept zero p met = kept_same (p + 1) _ p
    branching_kept (suc left) p met =
        kept_next (p + 1) (count_at 1 lim.branches s (p + 1)) (count_at 1 lim.branches u (p + 1)) _ _ (count_kept 1 lim.branches (p + 1)) λ c q.
        kept_next q (branches_at lim Flags n m s (sequence_at lim Flags n m s (branching_at lim Flags n m s left)) c q met) (branches_at lim Flags n m u (sequence_at lim Flags n m u (branching_at lim Flags n m u left)) c q met) _ _
        (branches_kept _ _ (sequence_kept _ _ (branching_kept left)) c q met) λ bs r. kept_got _ r

    pub plan_kept : (p : ℕ) → Kept p (plan_at lim Flags n m s p) (plan_at lim Flags n m u p)
    unfolding plan_at
    plan_kept p = sequence_kept _ _ (branching_kept lim.nested) p 0

  -- SECTIONS 1 TO 5, AND 6 TO 8.
  module _ (lim : Limits) where
    pub table_kept : (start : ℕ) → Kept start (table_at lim Flags s start) (table_at lim Flags u start)
    unfolding table_at
    table_kept start =
        kept_next start (count_at 1 lim.fluents s start) (count_at 1 lim.fluents u start) _ _ (count_kept 1 lim.fluents start) λ n p.
        kept_next p (count_at 1 lim.actions s p) (count_at 1 lim.actions u p) _ _ (count_kept 1 lim.actions p) λ m q.
        kept_next q (list_at literals n lim.listed s q) (list_at literals n lim.listed u q) _ _ (list_kept literals n lim.listed q) λ facts r.
        kept_next r (section_at (effect_at lim Flags n m s) s r) (section_at (effect_at lim Flags n m u) u r) _ _ (section_kept _ _ (effect_kept lim n m) r) λ effects t.
        kept_next t (section_at (executability_at lim Flags n m s) s t) (section_at (executability_at lim Flags n m u) u t) _ _ (section_kept _ _ (executability_kept lim n m) t) λ executability v.
        kept_next v (section_at (knowledge_at lim n m s) s v) (section_at (knowledge_at lim n m u) u v) _ _ (section_kept _ _ (knowledge_kept lim n m) v) λ knowledge e. kept_got _ e

    pub request_kept : (t : Table) (start : ℕ) → Kept start (request_at lim Flags s t start) (request_at lim Flags u t start)
    unfolding request_at
    request_kept t start =
        kept_next start (plan_at lim Flags t.fluents t.actions s start) (plan_at lim Flags t.fluents t.actions u start) _ _ (plan_kept lim t.fluents t.actions start) λ plan p.
        kept_next p (list_at literals t.fluents lim.listed s p) (list_at literals t.fluents lim.listed u p) _ _ (list_kept literals t.fluents lim.listed p) λ goals q.
        kept_next q (list_at fluents t.fluents lim.listed s q) (list_at fluents t.fluents lim.listed u q) _ _ (list_kept fluents t.fluents lim.listed q) λ whether e. kept_got _ e

-- Reading a request from the left: what stands there, or the first fault met (FORMAT sections 2 and 5).
use Rattle.std.specs.Prelude.{ℕ, zero, suc, ◌+◌, ◌-◌, ◌*◌, Bool, true, false, List, [], ◌∷◌, length, get_or, leb, ltb, eqb}
use Rattle.meaning.specs.Tests.{both, either, pick, some_of}
use Rattle.meaning.specs.Limits
use Rattle.meaning.specs.Limits.{Limits}
use Rattle.meaning.specs.Literals.{complement, positive}
use Rattle.meaning.specs.Values.{Literals, valued, values_of, fits}
pub use Rattle.meaning.specs.declared.Form.{Form}
pub use Rattle.meaning.specs.declared.Form.TheVariants.{Flags, Valued}
use Rattle.meaning.specs.Requests.{Effect, Executability, Knowledge, Table, Sequence, Item, Branches, Entry, Request}

-- What was read and the place after it; or the first fault, its number and its place (FORMAT 5.2).
pub data Got (A : Type 0) : Type 0 where
  got : A → ℕ → Got A
  fault : (number place : ℕ) → Got A

module _ {A B : Type 0} where
  unfoldable pub next : Got A → (A → ℕ → Got B) → Got B
  next (got x p) k = k x p
  next (fault n p) k = fault n p

-- BYTES AND NUMBERS. In each definition s is the input and p the place. A byte that is missing (FORMAT 4.9, 5.5).
unfoldable pub byte_at : List ℕ → ℕ → Got ℕ
byte_at s p = pick (leb (length s) p) (λ _. fault Limits.ends_too_soon (length s)) (λ _. got (get_or s p 0) (p + 1))

-- A two-byte number (FORMAT 2.22, 5.12).
unfoldable pub two_bytes_at : List ℕ → ℕ → Got ℕ
two_bytes_at s p =
    next (byte_at s p) λ high q.
    next (byte_at s q) λ low r.
    got (high * 256 + low) r

-- A count within its limits (FORMAT 4.10).
unfoldable pub count_at : (least most : ℕ) → List ℕ → ℕ → Got ℕ
count_at least most s p =
    next (byte_at s p) λ c q.
    pick (either (ltb c least) (ltb most c)) (λ _. fault Limits.count_outside p) (λ _. got c q)

-- A fluent, literal or action: a byte below `bound` (FORMAT 2.32, 4.11).
unfoldable pub below_at : (bound : ℕ) → List ℕ → ℕ → Got ℕ
below_at bound s p =
    next (byte_at s p) λ x q.
    pick (leb bound x) (λ _. fault Limits.too_large p) (λ _. got x q)

-- LISTS. What a list holds: literals have complements, fluents have none (FORMAT 2.5 to 2.9).
pub data Kind : Type 0 where
  literals fluents : Kind

-- The first number that is too large, over n fluents (FORMAT 2.32).
unfoldable pub bound_of : Kind → ℕ → ℕ
bound_of literals n = 2 * n
bound_of fluents n = n

unfoldable pub have_complements : Kind → Bool
have_complements literals = true
have_complements fluents = false

-- One entry (FORMAT 4.11 to 4.13, 5.7 to 5.11). `floor` is 0 at the first entry, and else one more than the entry before.
unfoldable pub entry_at : Kind → (n : ℕ) → List ℕ → ℕ → (floor : ℕ) → Got ℕ
entry_at kind n s p floor =
    next (below_at (bound_of kind n) s p) λ x q.
    pick (ltb x floor) (λ _. fault Limits.not_above p) λ _.
    pick (both (have_complements kind) (both (ltb 0 floor) (eqb x (complement (floor - 1))))) (λ _. fault Limits.complement_beside p) λ _.
    got x q

unfoldable pub entries_at : Kind → (n : ℕ) → List ℕ → (left : ℕ) → ℕ → (floor : ℕ) → Got (List ℕ)
entries_at kind n s zero p floor = got [] p
entries_at kind n s (suc left) p floor =
    next (entry_at kind n s p floor) λ x q.
    next (entries_at kind n s left q (x + 1)) λ xs r.
    got (x ∷ xs) r

unfoldable pub list_at : Kind → (n most : ℕ) → List ℕ → ℕ → Got (List ℕ)
list_at kind n most s p =
    next (count_at 0 most s p) λ c q.
    entries_at kind n s c q 0

-- VALUES. How many values a fluent has: its byte behind the fluent count, and 2 for a number that is no fluent of the request (FORMAT 26.2).
unfoldable pub values_in : List ℕ → (fluent : ℕ) → ℕ
values_in s f = pick (ltb f (get_or s 0 0)) (λ _. get_or s (1 + f) 0) (λ _. 2)

abbrev pub literals_in : List ℕ → Literals ℕ
literals_in s = valued (values_in s)

-- A literal with its two bytes, which is their number (FORMAT 26.5 to 26.7).
unfoldable pub value_at : (n : ℕ) → List ℕ → ℕ → Got ℕ
value_at n s p =
    next (below_at n s p) λ f q.
    next (below_at (2 * values_in s f) s q) λ b r.
    got (f * 256 + b) r

-- Some value of the literal's fluent satisfies all that the list says of it (FORMAT 26.11).
unfoldable pub leaves_one : List ℕ → (literal : ℕ) → List ℕ → Bool
leaves_one s l xs = some_of (fits (literals_in s) xs ((literals_in s).fluent l)) (values_of (literals_in s) ((literals_in s).fluent l))

-- One entry after those before it, of which the last stands first (FORMAT 26.10 to 26.12).
unfoldable pub floor_after : (before : List ℕ) → ℕ
floor_after [] = 0
floor_after (x ∷ xs) = x + 1

unfoldable pub value_entry_at : (n : ℕ) → List ℕ → ℕ → (before : List ℕ) → Got ℕ
value_entry_at n s p before =
    next (value_at n s p) λ x q.
    pick (ltb x (floor_after before)) (λ _. fault Limits.not_above p) λ _.
    pick (leaves_one s x (x ∷ before)) (λ _. got x q) λ _.
    fault Limits.complement_beside p

unfoldable pub value_entries_at : (n : ℕ) → List ℕ → (left : ℕ) → ℕ → (before : List ℕ) → Got (List ℕ)
value_entries_at n s zero p before = got [] p
value_entries_at n s (suc left) p before =
    next (value_entry_at n s p before) λ x q.
    next (value_entries_at n s left q (x ∷ before)) λ xs r.
    got (x ∷ xs) r

unfoldable pub value_list_at : (n most : ℕ) → List ℕ → ℕ → Got (List ℕ)
value_list_at n most s p =
    next (count_at 0 most s p) λ c q.
    value_entries_at n s c q []

-- An effect says which value its fluent gets (FORMAT 26.8).
unfoldable pub set_value_at : (n : ℕ) → List ℕ → ℕ → Got ℕ
set_value_at n s p =
    next (value_at n s p) λ x q.
    pick (positive x) (λ _. got x q) (λ _. fault Limits.says_is_not p)

-- The numbers of values of so many fluents (FORMAT 26.2, 26.3).
unfoldable pub value_counts_at : (left : ℕ) → List ℕ → ℕ → Got (List ℕ)
value_counts_at zero s p = got [] p
value_counts_at (suc left) s p =
    next (count_at Limits.fewest_values Limits.most_values s p) λ c q.
    next (value_counts_at left s q) λ cs r.
    got (c ∷ cs) r

-- AS THE FORM WRITES IT: a list of literals, an effect's literal, and what stands between the fluent count and the action count.
abbrev pub literals_at : Form → (n most : ℕ) → List ℕ → ℕ → Got (List ℕ)
literals_at Flags n = list_at literals n
literals_at Valued n = value_list_at n

abbrev pub literal_at : Form → (n : ℕ) → List ℕ → ℕ → Got ℕ
literal_at Flags n = below_at (2 * n)
literal_at Valued n = set_value_at n

abbrev pub past_values : {A : Type 0} → Form → (n : ℕ) → List ℕ → ℕ → (ℕ → Got A) → Got A
past_values Flags n s p k = k p
past_values Valued n s p k = next (value_counts_at n s p) λ _ q. k q

-- LINES of sections 3 to 5: a count byte, then as many lines (FORMAT 2.14 to 2.16).
module _ {A : Type 0} where
  unfoldable pub repeated : (ℕ → Got A) → (left : ℕ) → ℕ → Got (List A)
  repeated line zero p = got [] p
  repeated line (suc left) p =
      next (line p) λ x q.
      next (repeated line left q) λ rest r.
      got (x ∷ rest) r

  unfoldable pub section_at : (ℕ → Got A) → List ℕ → ℕ → Got (List A)
  section_at line s p =
      next (byte_at s p) λ c q.
      repeated line c q

-- A body, and a condition (FORMAT 2.20, 2.26).
unfoldable pub body_at : Limits → Form → (n : ℕ) → List ℕ → ℕ → Got (List ℕ)
body_at lim form n = literals_at form n lim.body

-- In what follows n is the fluent count and m the action count.
module _ (lim : Limits) (form : Form) (n m : ℕ) (s : List ℕ) where
  unfoldable pub effect_at : ℕ → Got Effect
  effect_at p =
      next (below_at m s p) λ a q.
      next (literal_at form n s q) λ l r.
      next (body_at lim form n s r) λ b e.
      got (record { place = p; action = a; literal = l; body = b }) e

  unfoldable pub executability_at : ℕ → Got Executability
  executability_at p =
      next (below_at m s p) λ a q.
      next (body_at lim form n s q) λ b e.
      got (record { place = p; action = a; body = b }) e

module _ (lim : Limits) (n m : ℕ) (s : List ℕ) where
  unfoldable pub knowledge_at : ℕ → Got Knowledge
  knowledge_at p =
      next (below_at m s p) λ a q.
      next (below_at n s q) λ f e.
      got (record { place = p; action = a; fluent = f }) e

-- PLANS. A part of a plan is read together with the number of items met from the plan's start up to its end (FORMAT 2.30).
pub record Met (A : Type 0) : Type 0 where
  pub value : A
  pub items : ℕ

-- A reader of a part takes the place and the number of items met before it.
abbrev pub Part : Type 0 → Type 0
Part A = ℕ → ℕ → Got (Met A)

module _ (lim : Limits) (form : Form) (n m : ℕ) (s : List ℕ) where
  -- One item, where `deeper` reads a branching (FORMAT 2.23, 2.27, 2.33, 5.6).
  unfoldable pub item_at : Part (Item ℕ) → Part (Item ℕ)
  item_at deeper p met =
      next (byte_at s p) λ x q.
      pick (leb lim.items met) (λ _. fault Limits.too_many_items p) λ _.
      pick (eqb x Limits.branching_byte) (λ _. deeper p (met + 1)) λ _.
      pick (leb m x) (λ _. fault Limits.too_large p) λ _.
      got (record { value = Item.act p x; items = met + 1 }) q

  unfoldable pub items_at : Part (Item ℕ) → (left : ℕ) → Part (Sequence ℕ)
  items_at one_item zero p met = got (record { value = Sequence.done; items = met }) p
  items_at one_item (suc left) p met =
      next (one_item p met) λ i q.
      next (items_at one_item left q i.items) λ rest r.
      got (record { value = Sequence.item i.value rest.value; items = rest.items }) r

  -- FORMAT 2.21, 2.31.
  unfoldable pub sequence_at : Part (Item ℕ) → Part (Sequence ℕ)
  sequence_at deeper p met =
      next (two_bytes_at s p) λ c q.
      items_at (item_at deeper) c q met

  -- FORMAT 2.25.
  unfoldable pub branches_at : Part (Sequence ℕ) → (left : ℕ) → Part (Branches ℕ)
  branches_at sequence zero p met = got (record { value = Branches.none; items = met }) p
  branches_at sequence (suc left) p met =
      next (body_at lim form n s p) λ c q.
      next (sequence q met) λ b r.
      next (branches_at sequence left r b.items) λ rest e.
      got (record { value = Branches.branch c b.value rest.value; items = rest.items }) e

  -- A branching, where `left` more may stand one inside another (FORMAT 2.24, 2.28).
  unfoldable pub branching_at : (left : ℕ) → Part (Item ℕ)
  branching_at zero p met = fault Limits.nested_too_deep p
  branching_at (suc left) p met =
      next (count_at 1 lim.branches s (p + 1)) λ c q.
      next (branches_at (sequence_at (branching_at left)) c q met) λ bs r.
      got (record { value = Item.branching p bs.value; items = bs.items }) r

  -- FORMAT 2.17, 2.29.
  unfoldable pub plan_at : ℕ → Got (Met (Sequence ℕ))
  plan_at p = sequence_at (branching_at lim.nested) p 0

-- THE REQUEST. Sections 1 to 5 (FORMAT 2.12 to 2.16).
unfoldable pub table_at : Limits → Form → List ℕ → ℕ → Got Table
table_at lim form s start =
    next (count_at 1 lim.fluents s start) λ n v.
    past_values form n s v λ p.
    next (count_at 1 lim.actions s p) λ m q.
    next (literals_at form n lim.listed s q) λ facts r.
    next (section_at (effect_at lim form n m s) s r) λ effects t.
    next (section_at (executability_at lim form n m s) s t) λ executability u.
    next (section_at (knowledge_at lim n m s) s u) λ knowledge e.
    got (record { fluents = n; actions = m; facts = facts; effects = effects; executability = executability; knowledge = knowledge }) e

-- The entries of a list whose first entry stands at p.
unfoldable pub placed : ℕ → List ℕ → List Entry
placed p [] = []
placed p (x ∷ xs) = record { place = p; value = x } ∷ placed (p + 1) xs

-- With two bytes each.
unfoldable pub placed_twos : ℕ → List ℕ → List Entry
placed_twos p [] = []
placed_twos p (x ∷ xs) = record { place = p; value = x } ∷ placed_twos (p + 2) xs

abbrev pub placed_as : Form → ℕ → List ℕ → List Entry
placed_as Flags = placed
placed_as Valued = placed_twos

-- Sections 6 to 8, after the table (FORMAT 2.17 to 2.19).
unfoldable pub request_at : Limits → Form → List ℕ → Table → ℕ → Got Request
request_at lim form s t start =
    next (plan_at lim form t.fluents t.actions s start) λ plan p.
    next (literals_at form t.fluents lim.listed s p) λ goals q.
    next (list_at fluents t.fluents lim.listed s q) λ whether e.
    got (record { table = t; plan = plan.value; goals = placed_as form (p + 1) goals; whether = placed (q + 1) whether; whether_place = q }) e

-- At most the request limit, all eight sections, and nothing after them (FORMAT 2.11, 5.1, 5.15).
unfoldable pub read_request : Limits → Form → List ℕ → Got Request
read_request lim form s =
    pick (ltb lim.request (length s)) (λ _. fault Limits.too_long 0) λ _.
    next (table_at lim form s 0) λ t p.
    next (request_at lim form s t p) λ r e.
    pick (ltb e (length s)) (λ _. fault Limits.bytes_after e) λ _.
    got r e

-- What reading leaves in its notes, as a function of what the definitions read. Lines are numbered from 1 in file order, so that 0 is no line; items from 0.
use Rattle.std.specs.Prelude.{ℕ, ◌+◌, ◌-◌, ◌*◌, ◌/◌, ◌%◌, ◌≡◌, refl, Bool, List, [], ◌∷◌, Ok, Err, length, get_or, set, replicate, eqb, ltb}
use Rattle.meaning.specs.Tests.{pick}
use Rattle.meaning.specs.Limits.{format}
use Rattle.meaning.specs.Requests.{Effect, Executability, Knowledge, Table}
use Rattle.meaning.specs.declared.Form.{Form}
use Rattle.meaning.specs.Reading.{Got, got, next, count_at, literals_at, effect_at, executability_at, knowledge_at, section_at}
use Rattle.parsing.specs.Read.{Passed, stopped, effect_read, executability_read, knowledge_read}
use Rattle.parsing.specs.Bits.{bit_of, with_bit}

-- THE SLOTS.
-- Item i: the place of its first byte.
abbrev pub item_place : ℕ
item_place = 0

-- Item i: the item after it in its sequence; after the last one the limit of items, or `around_from` and the number of the branching around it.
abbrev pub item_next : ℕ
item_next = format.items

abbrev pub around_from : ℕ
around_from = format.items + 1

-- Item i that opens a branch: the place after the branch, and how many items are met up to there.
abbrev pub branch_place : ℕ
branch_place = 2 * format.items

abbrev pub branch_item : ℕ
branch_item = 3 * format.items

-- A line's number in its section is a byte.
abbrev pub line_numbers : ℕ
line_numbers = 256

-- The slots of a section of lines: for each line the place of its first byte; for each line the next one of the same action in file order,
-- or 0; for each action its first line, or 0. So the first line of action a is where that after a line with number 256 + a would be.
abbrev pub line_slots : ℕ
line_slots = 2 * line_numbers + format.actions

-- Where the slots of the effects start, and those of the executability lines.
abbrev pub effect_lines : ℕ
effect_lines = 4 * format.items

abbrev pub run_lines : ℕ
run_lines = effect_lines + line_slots

unfoldable pub line_place : (t : List ℕ) (lines k : ℕ) → ℕ
line_place t lines k = get_or t (lines + k) 0

unfoldable pub next_line : (t : List ℕ) (lines i : ℕ) → ℕ
next_line t lines i = get_or t (lines + line_numbers + i) 0

unfoldable pub first_line : (t : List ℕ) (lines a : ℕ) → ℕ
first_line t lines a = next_line t lines (line_numbers + a)

-- Action a: what it senses, from the smallest fluent (as the limit of fluents less it) to the largest (as one more).
abbrev pub sensed_from : ℕ
sensed_from = run_lines + line_slots

abbrev pub sensed_to : ℕ
sensed_to = sensed_from + format.actions

-- The place of the plan, how many items it has, how many lines each section has, and the place of the goals.
abbrev pub plan_slot : ℕ
plan_slot = sensed_to + format.actions

abbrev pub items_slot : ℕ
items_slot = plan_slot + 1

abbrev pub effects_slot : ℕ
effects_slot = plan_slot + 2

abbrev pub executability_slot : ℕ
executability_slot = plan_slot + 3

abbrev pub knowledge_slot : ℕ
knowledge_slot = plan_slot + 4

abbrev pub goals_slot : ℕ
goals_slot = plan_slot + 5

-- The place of the guards' count, or 0 where there are none to look at.
abbrev pub guards_slot : ℕ
guards_slot = plan_slot + 6

-- What kind of walk it is: 0 goes by what is known, and every other number by cases.
abbrev pub mode_slot : ℕ
mode_slot = plan_slot + 7

-- Action a and fluent f, with a row of fluents for each action: a bit, which is there where a knowledge line has both. A slot has as many bits
-- as its number has, and so many fluents of one action.
abbrev pub sensed : ℕ
sensed = plan_slot + 8

abbrev pub word_bits : ℕ
word_bits = 16

abbrev pub row_words : ℕ
row_words = format.fluents / word_bits

abbrev pub sensed_words : ℕ
sensed_words = format.actions * row_words

abbrev pub pair_slot : (action fluent : ℕ) → ℕ
pair_slot a f = sensed + (row_words * a + f / word_bits)

unfoldable pub pair_there : (t : List ℕ) (action fluent : ℕ) → Bool
pair_there t a f = bit_of (get_or t (pair_slot a f) 0) (f % word_bits)

-- How many slots there are.
abbrev pub slots : ℕ
slots = sensed + sensed_words

-- READING WITH THE NOTES. What was read and the notes afterwards; at a fault the notes are of no use.
module _ {A : Type 0} where
  unfoldable pub noting : (A → List ℕ → List ℕ) → Got A → List ℕ → Got (List ℕ)
  noting note g t = next g λ x p. got (note x t) p

unfoldable pub outcome : Passed → List ℕ → Got (List ℕ)
outcome r t = elim r [ Ok p ↦ got t p | Err f ↦ stopped f ]

-- LINES. What a new line of an action comes after, by its last line so far.
unfoldable pub before : (last action : ℕ) → ℕ
before last a = pick (eqb last 0) (λ _. line_numbers + a) (λ _. last)

-- Line k comes after the others of its action.
unfoldable pub appended : (lines last k place action : ℕ) → List ℕ → List ℕ
appended lines last k p a t = set (set t (lines + k) p) (lines + line_numbers + before last a) k

-- The slot holds at least the value.
unfoldable pub raised : (slot value : ℕ) → List ℕ → List ℕ
raised slot v t = pick (ltb (get_or t slot 0) v) (λ _. set t slot v) (λ _. t)

-- An action senses a fluent.
unfoldable pub bit_noted : (action fluent : ℕ) → List ℕ → List ℕ
bit_noted a f t = set t (pair_slot a f) (with_bit (get_or t (pair_slot a f) 0) (f % word_bits))

unfoldable pub pair_noted : (action fluent : ℕ) → List ℕ → List ℕ
pair_noted a f t = raised (sensed_to + a) (f + 1) (raised (sensed_from + a) (format.fluents - f) (bit_noted a f t))

-- A section of lines, what a line of it is, and what is noted of line k.
pub data Section : Type 0 where
  effects executability knowledge : Section

abbrev pub Line : Section → Type 0
Line effects = Effect
Line executability = Executability
Line knowledge = Knowledge

unfoldable pub line_at : Form → (c : Section) (n m : ℕ) → List ℕ → ℕ → Got (Line c)
line_at form effects n m s = effect_at format form n m s
line_at form executability n m s = executability_at format form n m s
line_at form knowledge n m s = knowledge_at format n m s

unfoldable pub action_in : (c : Section) → Line c → ℕ
action_in effects e = e.action
action_in executability x = x.action
action_in knowledge l = l.action

unfoldable pub note_line : (c : Section) → (last k : ℕ) → Line c → List ℕ → List ℕ
note_line effects last k e = appended effect_lines last k e.place e.action
note_line executability last k x = appended run_lines last k x.place x.action
note_line knowledge last k l = pair_noted l.action l.fluent

-- The action of a line that was read, and the place after it.
unfoldable pub line_read : (c : Section) → Got (Line c) → Got ℕ
line_read effects = effect_read
line_read executability = executability_read
line_read knowledge = knowledge_read

-- What is noted of line k, of action a, at place p; f is the byte after the action.
unfoldable pub line_noted : Section → (last k p a f : ℕ) → List ℕ → List ℕ
line_noted effects last k p a f = appended effect_lines last k p a
line_noted executability last k p a f = appended run_lines last k p a
line_noted knowledge last k p a f = pair_noted a f

-- Lines from number k + 1 on, where `last` has the last line of each action so far.
unfoldable pub lines_noted : (c : Section) (k : ℕ) (last : List ℕ) → List (Line c) → List ℕ → List ℕ
lines_noted c k last [] t = t
lines_noted c k last (x ∷ xs) t = lines_noted c (k + 1) (set last (action_in c x) (k + 1)) xs (note_line c (get_or last (action_in c x) 0) (k + 1) x t)

unfoldable pub none_yet : List ℕ
none_yet = replicate format.actions 0

-- How many lines each section has.
unfoldable pub count_slot : Section → ℕ
count_slot effects = effects_slot
count_slot executability = executability_slot
count_slot knowledge = knowledge_slot

pub effects_counted : effects_slot ≡ count_slot effects
unfolding count_slot
effects_counted = refl

pub executability_counted : executability_slot ≡ count_slot executability
unfolding count_slot
executability_counted = refl

pub knowledge_counted : knowledge_slot ≡ count_slot knowledge
unfolding count_slot
knowledge_counted = refl

unfoldable pub section_noted : (c : Section) → List (Line c) → List ℕ → List ℕ
section_noted c xs t = lines_noted c 0 none_yet xs (set t (count_slot c) (length xs))

-- Sections 1 to 5. The counts stand at places 0 and 1, and the facts from 2 on.
unfoldable pub table_noted : Table → List ℕ → List ℕ
table_noted x t =
    section_noted knowledge x.knowledge
    (section_noted executability x.executability
    (section_noted effects x.effects t))

-- The three sections, read one after another.
unfoldable pub three_sections : Form → (n m : ℕ) → List ℕ → ℕ → List ℕ → Got (List ℕ)
three_sections form n m s p t =
    next (section_at (line_at form effects n m s) s p) λ es q.
    next (section_at (line_at form executability n m s) s q) λ xs r.
    next (section_at (line_at form knowledge n m s) s r) λ ks e.
    got (section_noted knowledge ks (section_noted executability xs (section_noted effects es t))) e

-- Sections 2 to 5, and the actions' count before them.
unfoldable pub facts_first : Form → (n m : ℕ) → List ℕ → ℕ → List ℕ → Got (List ℕ)
facts_first form n m s p t =
    next (literals_at form n format.listed s p) λ facts q.
    three_sections form n m s q t

unfoldable pub actions_first : Form → (n : ℕ) → List ℕ → ℕ → List ℕ → Got (List ℕ)
actions_first form n s p t =
    next (count_at 1 format.actions s p) λ m q.
    facts_first form n m s q t

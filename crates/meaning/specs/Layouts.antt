-- A derivation written in a layout: the bytes that say its lines, and the list that closes them (FORMAT 10.1, 17.3 to 17.7).
use Rattle.std.specs.Prelude.{ℕ, suc, ◌+◌, ◌-◌, ◌/◌, ◌%◌, ◌≤◌, ◌<◌, ◌≡◌, Bool, List, [], ◌∷◌, ◌++◌, length, get_or}
use Rattle.meaning.specs.declared.Layout.{Layout}
use Rattle.meaning.specs.declared.Layout.TheVariants.{Plain, Closing}
use Rattle.meaning.specs.Tests.{each_of}
use Rattle.meaning.specs.Limits
use Rattle.meaning.specs.Limits.{Limits}
use Rattle.meaning.specs.Requests.{Sequence, done, item, Item, act, branching, Branches, none, branch}
use Rattle.meaning.specs.Reading.{Got, got, next}
use Rattle.meaning.specs.Refusals.{settled}
use Rattle.meaning.specs.Derivations.{Conclusion, knows, knows_whether, Line, Derivation, read_derivation, a_rule, check}

-- Each number is a byte, as in every input of a call.
abbrev pub Bytes : List ℕ → Type 0
Bytes s = (i : ℕ) → get_or s i 0 < 256

-- A list is its count and its entries (FORMAT 2.5).
unfoldable pub list_written : List ℕ → List ℕ
list_written xs = length xs ∷ xs

-- A number in two bytes, the high one first (FORMAT 2.22).
unfoldable pub number_written : ℕ → List ℕ
number_written k = k / 256 ∷ k % 256 ∷ []

unfoldable pub numbers_written : List ℕ → List ℕ
numbers_written [] = []
numbers_written (k ∷ ks) = number_written k ++ numbers_written ks

-- A PLAN. Its count of items, and each item: an action, or 255, the count of branches and these (FORMAT 2.21 to 2.26).
unfoldable pub items_in : Sequence ℕ → ℕ
items_in done = 0
items_in (item i rest) = suc (items_in rest)

unfoldable pub branches_in : Branches ℕ → ℕ
branches_in none = 0
branches_in (branch c b rest) = suc (branches_in rest)

unfoldable mutual
  pub items_written : Sequence ℕ → List ℕ
  items_written done = []
  items_written (item i rest) = item_written i ++ items_written rest

  pub item_written : Item ℕ → List ℕ
  item_written (act p a) = a ∷ []
  item_written (branching p bs) = Limits.branching_byte ∷ branches_in bs ∷ branches_written bs

  pub branches_written : Branches ℕ → List ℕ
  branches_written none = []
  branches_written (branch c b bs) = list_written c ++ ((number_written (items_in b) ++ items_written b) ++ branches_written bs)

unfoldable pub plan_written : Sequence ℕ → List ℕ
plan_written c = number_written (items_in c) ++ items_written c

-- A LINE: X, c, the conclusion and the rule byte in the layout's order, the citations (FORMAT 10.3, 17.4).
unfoldable pub conclusion_written : Conclusion → List ℕ
conclusion_written (knows Y) = list_written Y
conclusion_written (knows_whether f) = f ∷ []

unfoldable pub concluded_written : Layout → (rule : ℕ) → Conclusion → List ℕ
concluded_written Plain rule Y = conclusion_written Y ++ (rule ∷ [])
concluded_written Closing rule Y = rule ∷ conclusion_written Y

unfoldable pub line_written : Layout → Line → List ℕ
line_written layout l =
    list_written l.X ++ (plan_written l.c ++ (concluded_written layout l.rule l.Y ++ (length l.cites ∷ numbers_written l.cites)))

unfoldable pub lines_written : Layout → List Line → List ℕ
lines_written layout [] = []
lines_written layout (l ∷ ls) = line_written layout l ++ lines_written layout ls

-- THE WHOLE: the count of lines, the lines, and in the closing layout the closing list (FORMAT 10.1, 17.3, 17.7).
unfoldable pub closing_written : Layout → List ℕ → List ℕ
closing_written Plain ks = []
closing_written Closing ks = length ks ∷ numbers_written ks

unfoldable pub written : Layout → Derivation → List ℕ
written layout d = number_written (length d.lines) ++ (lines_written layout d.lines ++ closing_written layout d.closing)

-- FROM ONE LAYOUT TO THE OTHER. Every line is by a rule of the plain layout, 1 to 6 (FORMAT 17.43).
unfoldable pub plain_rules : List Line → Bool
plain_rules = each_of (λ (l : Line). a_rule Plain l.rule)

-- The closing list that names the last line (FORMAT 17.42, 17.43).
unfoldable pub names_last : List Line → List ℕ
names_last lines = (length lines - 1) ∷ []

unfoldable pub closed_by_last : Derivation → Derivation
closed_by_last d = record { lines = d.lines; closing = names_last d.lines; closing_place = d.closing_place }

-- What a derivation says for a request: it is read by the request's counts of fluents and actions (FORMAT 5.24, 17.10).
unfoldable pub read_for : Limits → Layout → (request derivation : List ℕ) → Got Derivation
read_for lim layout request derivation =
    next (settled lim request) λ r e.
    read_derivation lim r.table.fluents r.table.actions derivation layout

-- The derivation that d says, written in the closing layout with a closing list that names its last line.
pub record InClosingLayout (lim : Limits) (request d : List ℕ) : Type 0 where
  pub says : Derivation
  pub end : ℕ
  pub read : read_for lim Plain request d ≡ got says end
  pub same : written Plain says ≡ d
  pub bytes : Bytes (written Closing (closed_by_last says))
  pub longer : length (written Closing (closed_by_last says)) ≡ length d + 3
  pub accepted : length (written Closing (closed_by_last says)) ≤ lim.derivation → (check lim Closing request (written Closing (closed_by_last says))).number ≡ Limits.verified

-- The derivation D that d says, written in the plain layout: its closing list is left out.
pub record InPlainLayout (lim : Limits) (request d : List ℕ) (D : Derivation) : Type 0 where
  pub same : written Closing D ≡ d
  pub bytes : Bytes (written Plain D)
  pub shorter : length (written Plain D) + 3 ≡ length d
  pub accepted : (check lim Plain request (written Plain D)).number ≡ Limits.verified

-- What the checking of a derivation says of the lines that were read.
use Rattle.std.specs.Prelude.{ℕ, zero, suc, ◌+◌, ◌*◌, ◌≤◌, ◌<◌, ◌≡◌, Bool, true, List, [], ◌∷◌, length, get_or, ltb, Option, Some, None}
use Rattle.meaning.specs.declared.Layout.{Layout}
use Rattle.meaning.specs.Tests.{fails, pick, each_of}
use Rattle.meaning.specs.Limits
use Rattle.meaning.specs.Limits.{format}
use Rattle.meaning.specs.Literals.{among}
use Rattle.meaning.specs.Requests.{Table, done}
use Rattle.meaning.specs.Reading.{Got, got, fault}
use Rattle.meaning.specs.Derivations.{knows, Line, Derivation, read_derivation, follows, citations_of, a_rule, cited_by}
use Rattle.parsing.specs.declared.faults.Refusal.{Refusal}
use Rattle.parsing.specs.Faults.{number_of}
use Rattle.derivation.specs.Derived.{LinesHere}
use Rattle.derivation.specs.DerivationRead.{plan_ends_slot}
use Rattle.comparing.specs.declared.spots.Spot.{Spot}
use Rattle.comparing.specs.Stands.{spot_at, LinesStand}

-- THE DERIVATION that was read; one without lines where a fault was met.
unfoldable pub derivation_of : Got Derivation → Derivation
derivation_of (got x e) = x
derivation_of (fault n p) = record { lines = []; closing = []; closing_place = 0 }

unfoldable pub derivation_in : Layout → (n m : ℕ) → List ℕ → Derivation
derivation_in layout n m d = derivation_of (read_derivation format n m d layout)

unfoldable pub lines_in : Layout → (n m : ℕ) → List ℕ → List Line
lines_in layout n m d = (derivation_in layout n m d).lines

-- For what is asked past the last line.
unfoldable pub no_line : Line
no_line = record { place = 0; X = []; c = done; Y = knows []; rule = 0; cites = [] }

unfoldable pub line_in : Layout → (n m : ℕ) → List ℕ → ℕ → Line
line_in layout n m d i = get_or (lines_in layout n m d) i no_line

-- Where its parts stand.
abbrev pub spot_in : Layout → (d places : List ℕ) → ℕ → Spot
spot_in layout d places i = spot_at layout d (get_or places i 0) (get_or places (plan_ends_slot + i) 0)

-- Their number is the given one, and each stands where its slots say.
pub record AllStand (layout : Layout) (n m : ℕ) (d places : List ℕ) (count : ℕ) : Type 0 where
  pub few : n ≤ format.fluents
  pub less : m ≤ format.actions
  pub here : LinesHere n m d layout places 0 (lines_in layout n m d)
  pub stand : LinesStand layout d places (lines_in layout n m d)
  pub size : length (lines_in layout n m d) ≡ count
  pub some : 1 ≤ count

-- Line i is one of them.
pub record Numbered (layout : Layout) (n m : ℕ) (d places : List ℕ) (count i : ℕ) : Type 0 where
  pub all : AllStand layout n m d places count
  pub below : i < count

-- It cites as many lines as its rule takes, each an earlier one.
pub record CitesEarlier (layout : Layout) (n m : ℕ) (d : List ℕ) (i : ℕ) : Type 0 where
  pub taken : among (length (line_in layout n m d i).cites) (citations_of (line_in layout n m d i).rule) ≡ true
  pub earlier : each_of (λ (k : ℕ). ltb k i) (line_in layout n m d i).cites ≡ true

-- Each of the numbers is below i.
unfoldable pub all_below : ℕ → List ℕ → Bool
all_below i ks = each_of (λ (k : ℕ). ltb k i) ks

-- A given number of two-byte numbers from p on.
unfoldable pub numbers_from : List ℕ → ℕ → ℕ → List ℕ
numbers_from d p zero = []
numbers_from d p (suc k) = (get_or d p 0 * 256 + get_or d (p + 1) 0) ∷ numbers_from d (p + 2) k

-- WHAT REFUSES line i: its number, and 0 where the line follows (FORMAT 5.26).
unfoldable pub refused_by : Layout → Table → (lines : List Line) → (i : ℕ) → Line → ℕ
refused_by layout t lines i l =
    pick (fails (a_rule layout l.rule)) (λ _. Limits.no_such_rule) λ _.
    pick (fails (among (length l.cites) (citations_of l.rule))) (λ _. Limits.citations_not_taken) λ _.
    pick (fails (each_of (λ (k : ℕ). ltb k i) l.cites)) (λ _. Limits.not_earlier) λ _.
    pick (fails (follows format t (cited_by lines l) l)) (λ _. Limits.does_not_follow) λ _.
    0

-- The number of what refuses a line, and 0 where nothing does.
abbrev pub number_or_none : Option Refusal → ℕ
number_or_none None = 0
number_or_none (Some refusal) = number_of refusal

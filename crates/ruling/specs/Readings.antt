-- What the functions of rules 3 and 10 answer: the readings of the unknown sensed fluents against the lines cited, one after the other.
use Rattle.std.specs.Prelude.{ℕ, ◌+◌, ◌-◌, ◌*◌, ◌≤◌, ◌≡◌, Bool, true, Option, Some, None, List, [], ◌∷◌, map, length, get_or, ltb}
use Rattle.meaning.specs.declared.Form.TheVariants.{Flags}
use Rattle.meaning.specs.declared.Layout.{Layout}
use Rattle.meaning.specs.Tests.{both, pick, each_of}
use Rattle.meaning.specs.Limits.{format}
use Rattle.meaning.specs.Requests.{Table, Sequence}
use Rattle.meaning.specs.States.{State, readings}
use Rattle.meaning.specs.Derivations.{Conclusion, Line, literals_of, says, states_of}
use Rattle.finding.specs.Branches.{sequence_place}
use Rattle.steps.specs.Steps.{unknown_above}
use Rattle.comparing.specs.declared.spots.Spot.{Spot}
use Rattle.comparing.specs.Stands.{NumbersStand, ConclusionStands, Stands, LinesStand}
use Rattle.comparing.specs.RuleAnswers.{ItemsStand}

-- The lines with these numbers; another line where there is none.
unfoldable pub lines_at : List Line → (other : Line) → List ℕ → List Line
lines_at lines other cites = map (λ (k : ℕ). get_or lines k other) cites

-- Line k of those cited says the state, what follows the action, and Y.
unfoldable pub reads_at : Sequence ℕ → Conclusion → List Line → (other : Line) → State → (k : ℕ) → Bool
reads_at rest Y cited other s k = both (ltb k (length cited)) (says (get_or cited k other) (literals_of s) rest Y)

-- Each state is said by the next line, the first by line k: how many lines are then used; none where a line does not say its state, or there is no
-- line left.
unfoldable pub used : Sequence ℕ → Conclusion → List Line → (other : Line) → List State → (k : ℕ) → Option ℕ
used rest Y cited other [] k = Some k
used rest Y cited other (s ∷ ss) k = pick (reads_at rest Y cited other s k) (λ _. used rest Y cited other ss (k + 1)) (λ _. None)

-- The unknown sensed fluents where the first of them is f; none where it is the limit of fluents.
unfoldable pub fluents_from : Table → ℕ → State → (f : ℕ) → List ℕ
fluents_from t a marks f = pick (ltb f format.fluents) (λ _. f ∷ unknown_above t a marks (f + 1)) (λ _. [])

unfoldable pub states_from : Table → ℕ → State → (f : ℕ) → List State
states_from t a marks f = states_of (readings (fluents_from t a marks f) marks)

-- A line stands where the spot says.
pub record StandsSome (d : List ℕ) (w : Spot) : Type 0 where
  pub long : length d ≤ format.derivation
  pub line : Line
  pub stands : Stands d w line

-- What follows the first item of the line at the spot: where it starts, and how many items it has.
abbrev pub rest_first : List ℕ → Spot → ℕ
rest_first d w = sequence_place Flags d w.line + 3

abbrev pub rest_items : List ℕ → Spot → ℕ
rest_items d w = get_or d (sequence_place Flags d w.line) 0 * 256 + get_or d (sequence_place Flags d w.line + 1) 0 - 1

-- It stands there, and the line's conclusion.
pub record Follows (d : List ℕ) (w : Spot) (rest : Sequence ℕ) (Y : Conclusion) : Type 0 where
  pub items : ItemsStand d (rest_first d w) w.end (rest_items d w) rest
  pub concluded : ConclusionStands d w.conclusion Y

pub record SomeFollows (d : List ℕ) (w : Spot) : Type 0 where
  pub rest : Sequence ℕ
  pub Y : Conclusion
  pub follows : Follows d w rest Y

-- The line at v says the state, and what follows in the line at w.
pub record SaysReading (d : List ℕ) (marks : State) (w v : Spot) (answer : Bool) : Type 0 where
  pub holds : (c : Line) (rest : Sequence ℕ) (Y : Conclusion) → Stands d v c → Follows d w rest Y → answer ≡ says c (literals_of marks) rest Y

-- All lines stand; and what follows in the line at w, and its citations, each the number of a line.
pub record RestStands (layout : Layout) (d places : List ℕ) (w : Spot) (lines : List Line) (rest : Sequence ℕ) (Y : Conclusion) (cites : List ℕ) : Type 0 where
  pub stand : LinesStand layout d places lines
  pub follows : Follows d w rest Y
  pub counted : get_or d w.cites 0 ≡ length cites
  pub most : length cites ≤ format.citations
  pub numbers : NumbersStand d (w.cites + 1) cites
  pub below : each_of (λ (k : ℕ). ltb k (length lines)) cites ≡ true

-- Whatever these are; the lines have the given number.
pub record SomeRest (layout : Layout) (d places : List ℕ) (total : ℕ) (w : Spot) : Type 0 where
  pub lines : List Line
  pub size : length lines ≡ total
  pub rest : Sequence ℕ
  pub Y : Conclusion
  pub cites : List ℕ
  pub stands : RestStands layout d places w lines rest Y cites

-- The states are used up by the citations from k on.
pub record Uses (layout : Layout) (d places : List ℕ) (w : Spot) (states : List State) (k : ℕ) (answer : Option ℕ) : Type 0 where
  pub holds : (lines : List Line) (rest : Sequence ℕ) (Y : Conclusion) (cites : List ℕ) (other : Line) → RestStands layout d places w lines rest Y cites
      → answer ≡ used rest Y (lines_at lines other cites) other states k

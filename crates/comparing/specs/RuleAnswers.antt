-- What the rules' functions answer of lines that stand in the input, whatever lines these are.
use Rattle.std.specs.Prelude.{ℕ, ◌+◌, ◌≤◌, ◌≡◌, Bool, List, length, ltb, true}
use Rattle.meaning.specs.Requests.{Sequence}
use Rattle.meaning.specs.declared.Layout.{Layout}
use Rattle.meaning.specs.Tests.{each_of}
use Rattle.meaning.specs.Limits.{format}
use Rattle.meaning.specs.Derivations.{Conclusion, Line, same_plan, join, same_conclusion, cited_by}
use Rattle.reading.specs.Listed.{bytes_from}
use Rattle.meaning.specs.declared.Form.TheVariants.{Flags}
use Rattle.reading.specs.Planned.{bytes_of}
use Rattle.finding.specs.PlansHeld.{own_items}
use Rattle.derivation.specs.Derived.{LineHere}
use Rattle.steps.specs.Small.{Small}
use Rattle.comparing.specs.declared.spots.Spot.{Spot}
use Rattle.comparing.specs.Coded.{coded, Tellable}
use Rattle.comparing.specs.Stands.{PlanStands, ConclusionStands, Stands, spot_at, LinesStand}

-- PLANS. One stands with its count at q, up to e.
pub record SomePlan (d : List ℕ) (q e : ℕ) : Type 0 where
  pub plan : Sequence ℕ
  pub stands : PlanStands d q e plan

-- A given number of items stand from a up to b.
pub record ItemsStand (d : List ℕ) (a b count : ℕ) (c : Sequence ℕ) : Type 0 where
  pub counted : count ≡ own_items c
  pub few : count ≤ format.lines
  pub ends : a + bytes_of Flags c ≡ b
  pub inside : b ≤ length d
  pub sized : length (coded c) ≡ bytes_of Flags c
  pub bytes : bytes_from d a (bytes_of Flags c) ≡ coded c
  pub tellable : Tellable c

pub record SomeItems (d : List ℕ) (a b count : ℕ) : Type 0 where
  pub items : Sequence ℕ
  pub stand : ItemsStand d a b count items

pub record SamePlans (d : List ℕ) (q e : ℕ) (u : List ℕ) (r f : ℕ) (answer : Bool) : Type 0 where
  pub holds : (b c : Sequence ℕ) → PlanStands d q e b → PlanStands u r f c → answer ≡ same_plan b c

-- A plan is what stands from a up to b joined with what stands from g up to h.
pub record JoinedPlans (d : List ℕ) (q e a b count g h more : ℕ) (answer : Bool) : Type 0 where
  pub holds : (c first rest : Sequence ℕ) → PlanStands d q e c → ItemsStand d a b count first → ItemsStand d g h more rest → answer ≡ same_plan c (join first rest)

-- CONCLUSIONS, lists or fluents.
pub record SomeConcluded (d : List ℕ) (w : Spot) : Type 0 where
  pub conclusion : Conclusion
  pub stands : ConclusionStands d w.conclusion conclusion

pub record SameConclusions (d : List ℕ) (one other : Spot) (answer : Bool) : Type 0 where
  pub holds : (Y Z : Conclusion) → ConclusionStands d one.conclusion Y → ConclusionStands d other.conclusion Z → answer ≡ same_conclusion Y Z

-- LINES. One stands at p, and its plan ends at e.
pub record SomeAt (layout : Layout) (d : List ℕ) (p e : ℕ) : Type 0 where
  pub line : Line
  pub stands : Stands d (spot_at layout d p e) line

-- One stands where the spot says.
pub record SomeStands (d : List ℕ) (w : Spot) : Type 0 where
  pub line : Line
  pub stands : Stands d w line

-- Besides, its actions are within the limit.
pub record SomeLine (d : List ℕ) (w : Spot) : Type 0 where
  pub long : length d ≤ format.derivation
  pub line : Line
  pub stands : Stands d w line
  pub small : Small line.c

pub record Ruled (d : List ℕ) (w : Spot) (rule : Line → Bool) (answer : Bool) : Type 0 where
  pub holds : (l : Line) → Stands d w l → answer ≡ rule l

-- By a line that it cites.
pub record RuledBy (d : List ℕ) (v w : Spot) (rule : Line → Line → Bool) (answer : Bool) : Type 0 where
  pub holds : (c l : Line) → Stands d v c → Stands d w l → answer ≡ rule c l

-- Where the line itself is read again, with n fluents and m actions.
pub record SomeRead (n m : ℕ) (d : List ℕ) (w : Spot) : Type 0 where
  pub long : length d ≤ format.derivation
  pub layout : Layout
  pub line : Line
  pub here : LineHere n m d layout w.line line
  pub stands : Stands d w line

pub record ReadBy (n m : ℕ) (d : List ℕ) (v w : Spot) (rule : Line → Line → Bool) (answer : Bool) : Type 0 where
  pub holds : (layout : Layout) (c l : Line) → Stands d v c → LineHere n m d layout w.line l → Stands d w l → answer ≡ rule c l

-- By two.
pub record RuledByTwo (d : List ℕ) (u v w : Spot) (rule : Line → Line → Line → Bool) (answer : Bool) : Type 0 where
  pub holds : (b c l : Line) → Stands d u b → Stands d v c → Stands d w l → answer ≡ rule b c l

-- All lines stand, whatever lines these are, and their number is the given one.
pub record SomeLines (layout : Layout) (d places : List ℕ) (count : ℕ) : Type 0 where
  pub lines : List Line
  pub stand : LinesStand layout d places lines
  pub size : length lines ≡ count

-- By the lines that it cites, each of which is one of the lines.
pub record RuledByAll (layout : Layout) (d places : List ℕ) (w : Spot) (rule : List Line → Line → Bool) (answer : Bool) : Type 0 where
  pub holds : (lines : List Line) (l : Line) → LinesStand layout d places lines → Stands d w l → each_of (λ (k : ℕ). ltb k (length lines)) l.cites ≡ true → answer ≡ rule (cited_by lines l) l

-- Each number that the line cites is that of one of the lines.
pub record CitedBelow (d : List ℕ) (w : Spot) (count : ℕ) : Type 0 where
  pub holds : (l : Line) → Stands d w l → each_of (λ (k : ℕ). ltb k count) l.cites ≡ true

-- What it means that the lines of a derivation stand where their places say, and what is found in their plans.
use Rattle.std.specs.Prelude.{Option}
use Rattle.std.specs.Prelude.{ℕ, ◌+◌, ◌≡◌, List, [], ◌∷◌, length, get_or}
use Rattle.meaning.specs.declared.Layout.{Layout}
use Rattle.meaning.specs.Limits.{format}
use Rattle.meaning.specs.Reading.{got}
use Rattle.meaning.specs.Refusals.{overlap_in}
use Rattle.meaning.specs.Derivations.{Line, Derivation, line_at, read_derivation, overlap_in_lines}
use Rattle.finding.specs.Places.{found}
use Rattle.derivation.specs.DerivationRead.{plan_end, plan_ends_slot, lines_end}

-- In what follows the request has n fluents and m actions, and s is the derivation.
module _ (n m : ℕ) (s : List ℕ) where
  -- The line stands at p.
  pub record LineHere (layout : Layout) (p : ℕ) (l : Line) : Type 0 where
    pub end : ℕ
    pub reads : line_at format n m s layout p ≡ got l end

  -- Lines stand where slot k and those after it say, and their plans end where slot `plan_ends_slot` + k and those after it say.
  unfoldable pub LinesHere : Layout → (places : List ℕ) (k : ℕ) → List Line → Type 0
  LinesHere layout places k [] = Unit {0}
  LinesHere layout places k (l ∷ ls) = LineHere layout (get_or places k 0) l × (get_or places (plan_ends_slot + k) 0 ≡ plan_end l) × LinesHere layout places (k + 1) ls

  pub record SomeLines (places : List ℕ) (count : ℕ) : Type 0 where
    pub layout : Layout
    pub lines : List Line
    pub here : LinesHere layout places 0 lines
    pub size : length lines ≡ count

  -- A derivation was read up to e, and its lines and what closes it stand where the places say.
  pub record DerivationHere (layout : Layout) (places : List ℕ) (e : ℕ) : Type 0 where
    pub derivation : Derivation
    pub reads : read_derivation format n m s layout ≡ got derivation e
    pub here : LinesHere layout places 0 derivation.lines
    pub closes : get_or places lines_end 0 ≡ derivation.closing_place

  -- What is found is the first overlap in the plan of whatever line stands at p, in either layout (FORMAT 4.40).
  pub record LineFound (p : ℕ) (r : Option ℕ) : Type 0 where
    pub holds : (layout : Layout) (l : Line) → LineHere layout p l → r ≡ found (overlap_in l.c)

  -- What is found is the first overlap in the plans of whatever lines of the given number stand there (FORMAT 5.25).
  pub record LinesFound (places : List ℕ) (count : ℕ) (r : Option ℕ) : Type 0 where
    pub holds : (layout : Layout) (ls : List Line) → LinesHere layout places 0 ls → length ls ≡ count → r ≡ found (overlap_in_lines ls)

-- When a derivation is accepted (FORMAT 11.6, 17.39): each line follows by its rule from earlier lines, and the question is answered. What was
-- read is judged by the relations of `Rules`, and by none of the checker's tests.
use Rattle.std.specs.Prelude.{ℕ, zero, suc, ◌+◌, ◌<◌, ◌≡◌, List, [], ◌∷◌}
use Rattle.meaning.specs.declared.Layout.{Layout}
use Rattle.meaning.specs.declared.Layout.TheVariants.{Plain, Closing}
use Rattle.meaning.specs.Limits.{Limits}
use Rattle.meaning.specs.Requests.{Table, Request}
use Rattle.meaning.specs.Reading.{got}
use Rattle.meaning.specs.Refusals.{nowhere, settled}
use Rattle.meaning.specs.Derivations.{Conclusion, Line, Derivation, read_derivation, overlap_in_lines, goals_of, all_asked}
use Rattle.meaning.specs.Rules.{Claims, Follows}

-- The line of number k is x (FORMAT 10.2).
abbrev pub LineIs : List Line → (k : ℕ) → Line → Type 0
LineIs [] k x = ⊥
LineIs (l ∷ ls) zero x = x ≡ l
LineIs (l ∷ ls) (suc k) x = LineIs ls k x

-- The lines of these numbers, in their order, each of a number below i (FORMAT 10.28).
abbrev pub Earlier : (lines : List Line) → (i : ℕ) → List ℕ → List Line → Type 0
Earlier lines i [] [] = Unit {0}
Earlier lines i [] (x ∷ xs) = ⊥
Earlier lines i (k ∷ ks) [] = ⊥
Earlier lines i (k ∷ ks) (x ∷ xs) = (k < i) × LineIs lines k x × Earlier lines i ks xs

-- A line follows from those that it cites, which are earlier ones. `lines` are all of them, and i is the line's number. In the plain layout every
-- conclusion is a list, so that a line there follows by one of rules 1 to 6.
pub record LineFollows (t : Table) (lines : List Line) (i : ℕ) (l : Line) : Type 0 where
  pub cited : List Line
  pub earlier : Earlier lines i l.cites cited
  pub follows : Follows t cited l

abbrev pub AllFollow : Table → (lines : List Line) → (i : ℕ) → List Line → Type 0
AllFollow t lines i [] = Unit {0}
AllFollow t lines i (l ∷ ls) = LineFollows t lines i l × AllFollow t lines (i + 1) ls

-- The line is made of the initial facts, the plan and Y; with the goals for Y it is the question (FORMAT 10.31).
abbrev pub Asks : Request → Conclusion → Line → Type 0
Asks r Y l = Claims l r.table.facts r.plan Y

-- The last line is the question; where there is no line none is.
abbrev pub LastAsks : Request → List Line → Type 0
LastAsks r [] = ⊥
LastAsks r (l ∷ []) = Asks r (goals_of r) l
LastAsks r (l ∷ (k ∷ ls)) = LastAsks r (k ∷ ls)

-- For each conclusion one number, and each number is that of a line which asks for its conclusion.
abbrev pub AllNamed : Request → (lines : List Line) → List Conclusion → List ℕ → Type 0
AllNamed r lines [] [] = Unit {0}
AllNamed r lines [] (k ∷ ks) = ⊥
AllNamed r lines (Y ∷ Ys) [] = ⊥
AllNamed r lines (Y ∷ Ys) (k ∷ ks) = ((x : Line) × LineIs lines k x × Asks r Y x) × AllNamed r lines Ys ks

-- The question is answered: in the plain layout no whether entry is asked and the last line is the question, and in the closing one the
-- closing list names a line for the goals and one for each whether entry (FORMAT 17.31 to 17.33).
abbrev pub Answered : Layout → Request → Derivation → Type 0
Answered Plain r d = (r.whether ≡ []) × LastAsks r d.lines
Answered Closing r d = AllNamed r d.lines (all_asked r) d.closing

-- Neither file is refused by 10 to 21, each line follows, and the question is answered.
pub record Accepted (lim : Limits) (layout : Layout) (request derivation : List ℕ) : Type 0 where
  pub asks : Request
  pub end : ℕ
  pub request_settled : settled lim request ≡ got asks end
  pub reads : Derivation
  pub derivation_end : ℕ
  pub derivation_read : read_derivation lim asks.table.fluents asks.table.actions derivation layout ≡ got reads derivation_end
  pub no_overlap : overlap_in_lines reads.lines ≡ nowhere
  pub all_follow : AllFollow asks.table reads.lines 0 reads.lines
  pub answered : Answered layout asks reads

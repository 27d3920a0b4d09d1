-- What it means that the lines of a derivation stand in the input d.
use Rattle.std.specs.Prelude.{ℕ, ◌+◌, ◌*◌, ◌≤◌, ◌<◌, ◌≡◌, false, List, [], ◌∷◌, length, get_or}
use Rattle.meaning.specs.declared.Layout.{Layout}
use Rattle.meaning.specs.declared.Layout.TheVariants.{Plain, Closing}
use Rattle.meaning.specs.Tests.{pick}
use Rattle.meaning.specs.Limits.{format, all_literals}
use Rattle.meaning.specs.Literals.{exclusive}
use Rattle.meaning.specs.Requests.{Sequence}
use Rattle.meaning.specs.Reading.{got}
use Rattle.meaning.specs.Refusals.{nowhere}
use Rattle.meaning.specs.Derivations.{Conclusion, knows, knows_whether, Line, Derivation, concludes_fluent, read_derivation, overlap_in_lines}
use Rattle.reading.specs.Listed.{bytes_from, listed, ListHere}
use Rattle.meaning.specs.declared.Form.TheVariants.{Flags}
use Rattle.reading.specs.Planned.{bytes_of}
use Rattle.finding.specs.PlansHeld.{own_items}
use Rattle.derivation.specs.DerivationRead.{settled_derivation, plan_ends_slot, lines_end}
use Rattle.derivation.specs.Derived.{LinesHere}
use Rattle.comparing.specs.declared.spots.Concludes.{Concludes}
use Rattle.comparing.specs.declared.spots.Concludes.TheVariants.{Literals, Fluent}
use Rattle.comparing.specs.declared.spots.Spot.{Spot}
use Rattle.comparing.specs.Coded.{coded, Tellable}

-- The place after the list at p.
unfoldable pub after_list : List ℕ → ℕ → ℕ
after_list d p = p + 1 + get_or d p 0

-- A list, in which no literal stands beside its complement.
pub record ListStands (d : List ℕ) (p : ℕ) (xs : List ℕ) : Type 0 where
  pub here : ListHere all_literals d p
  pub same : listed d p ≡ xs
  pub clear : exclusive xs xs ≡ false

-- A plan with its count at q, up to e.
pub record PlanStands (d : List ℕ) (q e : ℕ) (c : Sequence ℕ) : Type 0 where
  pub counted : q + 1 < length d
  pub count : get_or d q 0 * 256 + get_or d (q + 1) 0 ≡ own_items c
  pub few : own_items c ≤ format.items
  pub ends : q + 2 + bytes_of Flags c ≡ e
  pub inside : e ≤ length d
  pub sized : length (coded c) ≡ bytes_of Flags c
  pub bytes : bytes_from d (q + 2) (bytes_of Flags c) ≡ coded c
  pub tellable : Tellable c

-- Two-byte numbers from p on.
unfoldable pub NumbersStand : List ℕ → ℕ → List ℕ → Type 0
NumbersStand d p [] = Unit {0}
NumbersStand d p (k ∷ ks) = (p + 1 < length d) × (get_or d p 0 * 256 + get_or d (p + 1) 0 ≡ k) × NumbersStand d (p + 2) ks

-- A conclusion: a list that stands at its place, or a fluent.
unfoldable pub ConclusionStands : List ℕ → Concludes → Conclusion → Type 0
ConclusionStands d (Literals y) (knows Y) = ListStands d y Y
ConclusionStands d (Literals y) (knows_whether f) = ⊥
ConclusionStands d (Fluent g) (knows Y) = ⊥
ConclusionStands d (Fluent g) (knows_whether f) = (g ≡ f) × (f < format.fluents)

-- A line whose parts stand where the spot says.
pub record Stands (d : List ℕ) (w : Spot) (l : Line) : Type 0 where
  pub place : l.place ≡ w.line
  pub X : ListStands d w.line l.X
  pub plan : PlanStands d (after_list d w.line) w.end l.c
  pub Y : ConclusionStands d w.conclusion l.Y
  pub rule : w.rule ≡ l.rule
  pub counted : w.cites < length d
  pub cited : get_or d w.cites 0 ≡ length l.cites
  pub most : length l.cites ≤ format.citations
  pub cites : NumbersStand d (w.cites + 1) l.cites

-- The parts of the line at p whose plan ends at e, by the layout (FORMAT 10.3, 17.4 to 17.6).
unfoldable pub spot_at : Layout → List ℕ → (p e : ℕ) → Spot
spot_at Plain d p e = record { line = p; end = e; conclusion = Literals e; cites = after_list d e + 1; rule = get_or d (after_list d e) 0 }
spot_at Closing d p e =
    pick (concludes_fluent (get_or d e 0))
    (λ _. record { line = p; end = e; conclusion = Fluent (get_or d (e + 1) 0); cites = e + 2; rule = get_or d e 0 })
    (λ _. record { line = p; end = e; conclusion = Literals (e + 1); cites = after_list d (e + 1); rule = get_or d e 0 })

-- The number that citation k of the line at w says.
abbrev pub number_cited : List ℕ → Spot → ℕ → ℕ
number_cited d w k = get_or d (w.cites + 1 + 2 * k) 0 * 256 + get_or d (w.cites + 1 + 2 * k + 1) 0

-- Every line stands where its slots say.
pub record LinesStand (layout : Layout) (d places : List ℕ) (lines : List Line) : Type 0 where
  pub long : length d ≤ format.derivation
  pub few : length lines ≤ format.lines
  pub each : (k : ℕ) → k < length lines → (other : Line) → Stands d (spot_at layout d (get_or places k 0) (get_or places (plan_ends_slot + k) 0)) (get_or lines k other)

-- What closes a derivation stands at p: nothing, or a count and as many line numbers (FORMAT 17.7).
unfoldable pub ClosingStands : Layout → List ℕ → ℕ → List ℕ → Type 0
ClosingStands Plain d p ks = ks ≡ []
ClosingStands Closing d p ks = (p < length d) × (get_or d p 0 ≡ length ks) × NumbersStand d (p + 1) ks

-- A derivation was read up to e and is past 18, and its lines and what closes it stand where the places say.
pub record Derived (layout : Layout) (n m : ℕ) (d places : List ℕ) (x : Derivation) (e : ℕ) : Type 0 where
  pub settles : settled_derivation layout n m d ≡ got x e
  pub reads : read_derivation format n m d layout ≡ got x e
  pub clear : overlap_in_lines x.lines ≡ nowhere
  pub here : LinesHere n m d layout places 0 x.lines
  pub there : 1 < length d
  pub count : get_or d 0 0 * 256 + get_or d 1 0 ≡ length x.lines
  pub some : 1 ≤ length x.lines
  pub few : length x.lines ≤ format.lines
  pub long : length d ≤ format.derivation
  pub closes : get_or places lines_end 0 ≡ x.closing_place
  pub closing : ClosingStands layout d x.closing_place x.closing

-- Whatever derivation this is.
pub record SomeDerived (layout : Layout) (n m : ℕ) (d places : List ℕ) (e : ℕ) : Type 0 where
  pub derivation : Derivation
  pub derived : Derived layout n m d places derivation e

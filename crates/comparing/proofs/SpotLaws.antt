-- Where the parts of a line stand, by its layout, and conclusions compared. A line that stands tells that each byte on the way to its citations
-- is there, and what kind of conclusion it has. Assumes nothing.
use Prim.Native.Nat.{ℕ, ◌+◌, ◌<◌}
use native.Mathlib.Omega.{arith}
use mathlib.Core.Path.{◌≡◌, refl, sym, ◌∙◌, ap, subst}
use mathlib.Core.Bool.{Bool, true, false}
use mathlib.Core.List.{List, []}
use lib.ListN.{length, get_or}
use lib.Dec.{eqb}
use Rattle.meaning.specs.Limits.{all_literals}
use mir.Syntax.{w64}
use mir.Val.{Fits}
use Rattle.meaning.specs.declared.Layout.{Layout}
use Rattle.meaning.specs.declared.Layout.TheVariants.{Plain, Closing}
use Rattle.meaning.specs.Requests.{done}
use Rattle.meaning.specs.Derivations.{Conclusion, knows, knows_whether, Line, concludes_fluent, same_list, same_conclusion}
use Rattle.meaning.proofs.TestLaws.{by-test, pick_true, pick_false}
use Rattle.reading.specs.Listed.{listed, ListHere}
use Rattle.derivation.specs.DerivationRead.{plan_ends_slot}
use Rattle.finding.specs.Branches.{sequence_place}
use Rattle.comparing.specs.declared.spots.Concludes.{Concludes}
use Rattle.comparing.specs.declared.spots.Concludes.TheVariants.{Literals, Fluent}
use Rattle.comparing.specs.declared.spots.Spot.{Spot}
use Rattle.comparing.specs.Stands.{after_list, ConclusionStands, Stands, spot_at}
use Rattle.comparing.specs.RuleAnswers.{SomeConcluded, SameConclusions, SomeAt, SomeLines}
use Rattle.meaning.specs.declared.Form.TheVariants.{Flags}

-- A CONCLUSION, whatever it is.
module _ (d : List ℕ) where
  list_there : (y : ℕ) (Y : Conclusion) → ConclusionStands d (Literals y) Y → ListHere all_literals d y
  unfolding ConclusionStands
  list_there y (knows Y) w = w.here
  list_there y (knows_whether g) w = absurd w

-- CLOSING LINES, by their rule.
module _ (d : List ℕ) (p e : ℕ) where
  abbrev pub closing_spot : Concludes → (cites : ℕ) → Spot
  closing_spot conclusion cites = record { line = p; end = e; conclusion = conclusion; cites = cites; rule = get_or d e 0 }

  pub spot_fluent : concludes_fluent (get_or d e 0) ≡ true → spot_at Closing d p e ≡ closing_spot (Fluent (get_or d (e + 1) 0)) (e + 2)
  unfolding spot_at
  spot_fluent t = pick_true _ _ _ t

  pub spot_list : concludes_fluent (get_or d e 0) ≡ false → spot_at Closing d p e ≡ closing_spot (Literals (e + 1)) (after_list d (e + 1))
  unfolding spot_at
  spot_list f = pick_false _ _ _ f

-- In either layout the list X and the plan come first.
pub spot_line : (layout : Layout) (d : List ℕ) (p e : ℕ) → (spot_at layout d p e).line ≡ p
unfolding spot_at
spot_line Plain d p e = refl
spot_line Closing d p e = by-test (concludes_fluent (get_or d e 0)) (λ t. ap (λ (w : Spot). w.line) (spot_fluent d p e t)) (λ f. ap (λ (w : Spot). w.line) (spot_list d p e f))

pub spot_end : (layout : Layout) (d : List ℕ) (p e : ℕ) → (spot_at layout d p e).end ≡ e
unfolding spot_at
spot_end Plain d p e = refl
spot_end Closing d p e = by-test (concludes_fluent (get_or d e 0)) (λ t. ap (λ (w : Spot). w.end) (spot_fluent d p e t)) (λ f. ap (λ (w : Spot). w.end) (spot_list d p e f))

-- THE PARTS, read one after another.
module _ (layout : Layout) (d : List ℕ) (p e : ℕ) where
  module _ (plain : layout ≡ Plain) where
    plainly : (some : SomeAt layout d p e) → Stands d (spot_at Plain d p e) some.line
    plainly some = subst (λ (x : Layout). Stands d (spot_at x d p e) some.line) plain some.stands

    pub plain_list : SomeAt layout d p e → ListHere all_literals d e
    unfolding spot_at
    plain_list some = list_there d e some.line.Y (plainly some).Y

    module _ (at : ℕ) (after : at ≡ sequence_place Flags d e) where
      cites_there : SomeAt layout d p e → at + 1 < length d
      unfolding spot_at sequence_place after_list
      cites_there some = let counted = (plainly some).counted in omega (arith, after, counted)

      pub plain_rule : SomeAt layout d p e → at < length d
      plain_rule some = let there = cites_there some in omega arith

      pub plain_cites : SomeAt layout d p e → Fits w64 (length d) → Fits w64 (at + 1)
      plain_cites some room = let there = cites_there some in let most = room.fits in record { fits = omega arith }

      pub plain_spot : (rule : ℕ) → rule ≡ get_or d at 0
          → record { line = p; end = e; conclusion = Literals e; cites = at + 1; rule = rule } ≡ spot_at layout d p e
      unfolding spot_at sequence_place after_list
      plain_spot rule read = rw (plain, read, after) refl

  module _ (closing : layout ≡ Closing) where
    fluently : (some : SomeAt layout d p e) → concludes_fluent (get_or d e 0) ≡ true → Stands d (closing_spot d p e (Fluent (get_or d (e + 1) 0)) (e + 2)) some.line
    fluently some t = subst (λ (w : Spot). Stands d w some.line) (ap (λ (x : Layout). spot_at x d p e) closing ∙ spot_fluent d p e t) some.stands

    by_list : (some : SomeAt layout d p e) → concludes_fluent (get_or d e 0) ≡ false → Stands d (closing_spot d p e (Literals (e + 1)) (after_list d (e + 1))) some.line
    by_list some f = subst (λ (w : Spot). Stands d w some.line) (ap (λ (x : Layout). spot_at x d p e) closing ∙ spot_list d p e f) some.stands

    closing_list_there : (some : SomeAt layout d p e) → concludes_fluent (get_or d e 0) ≡ false → ListHere all_literals d (e + 1)
    closing_list_there some f = list_there d (e + 1) some.line.Y (by_list some f).Y

    y_there : SomeAt layout d p e → e + 1 < length d
    y_there some =
        by-test (concludes_fluent (get_or d e 0))
        (λ t. let counted = (fluently some t).counted in omega (arith, counted))
        (λ f. let ends = (closing_list_there some f).ends in omega (arith, ends))

    pub closing_rule : SomeAt layout d p e → e < length d
    closing_rule some = let there = y_there some in omega arith

    pub closing_there : SomeAt layout d p e → e + 1 < length d
    closing_there = y_there

    pub closing_fits : SomeAt layout d p e → Fits w64 (length d) → Fits w64 (e + 1)
    closing_fits some room = let there = y_there some in let most = room.fits in record { fits = omega arith }

    -- What the rule tells.
    module _ (rule : ℕ) (read : rule ≡ get_or d e 0) (fluent : Bool) (told : fluent ≡ concludes_fluent rule) where
      kind : {b : Bool} → fluent ≡ b → concludes_fluent (get_or d e 0) ≡ b
      kind is = ap concludes_fluent (sym read) ∙ sym told ∙ is

      module _ (is : fluent ≡ true) where
        pub fluent_fits : SomeAt layout d p e → Fits w64 (length d) → Fits w64 (e + 2)
        fluent_fits some room = let counted = (fluently some (kind is)).counted in let most = room.fits in record { fits = omega arith }

        pub fluent_spot : record { line = p; end = e; conclusion = Fluent (get_or d (e + 1) 0); cites = e + 2; rule = rule } ≡ spot_at layout d p e
        fluent_spot = rw (closing, spot_fluent d p e (kind is), read) refl

      module _ (is : fluent ≡ false) where
        pub closing_list : SomeAt layout d p e → ListHere all_literals d (e + 1)
        closing_list some = closing_list_there some (kind is)

        pub list_spot : (cites : ℕ) → cites ≡ sequence_place Flags d (e + 1) → record { line = p; end = e; conclusion = Literals (e + 1); cites = cites; rule = rule } ≡ spot_at layout d p e
        unfolding sequence_place after_list
        list_spot cites place = rw (closing, spot_list d p e (kind is), read, place) refl

-- LINE k. What is asked past the last line is no line.
no_line : Line
no_line = record { place = 0; X = []; c = done; Y = knows []; rule = 0; cites = [] }

module _ (layout : Layout) (d places : List ℕ) (k p e : ℕ) (place : p ≡ get_or places k 0) (end : e ≡ get_or places (plan_ends_slot + k) 0) where
  pub some_at : (count : ℕ) → SomeLines layout d places count → k < count → SomeAt layout d p e
  some_at count some less =
      let size = some.size in
      record { line = get_or some.lines k no_line; stands = rw (place, end) (some.stand.each k (omega (arith, less, size)) no_line) }

  pub spot_is : (w : Spot) → w ≡ spot_at layout d p e → w ≡ spot_at layout d (get_or places k 0) (get_or places (plan_ends_slot + k) 0)
  spot_is w is = is ∙ rw (place, end) refl

-- TWO CONCLUSIONS: of two kinds they differ, and of one kind they are what stands there.
pub concluded_as : (d : List ℕ) (c e : Concludes) (Y : Conclusion) → c ≡ e → ConclusionStands d c Y → ConclusionStands d e Y
concluded_as d c e Y is = subst (λ (x : Concludes). ConclusionStands d x Y) is

pub concluded_list : (d : List ℕ) (w : Spot) (y : ℕ) → w.conclusion ≡ Literals y → SomeConcluded d w → ListHere all_literals d y
concluded_list d w y is some = list_there d y some.conclusion (concluded_as d w.conclusion (Literals y) some.conclusion is some.stands)

fluents_as : (d : List ℕ) (f g : ℕ) (Y Z : Conclusion) → ConclusionStands d (Fluent f) Y → ConclusionStands d (Fluent g) Z → eqb f g ≡ same_conclusion Y Z
unfolding ConclusionStands same_conclusion
fluents_as d f g (knows Y) Z v w = absurd v
fluents_as d f g (knows_whether h) (knows Z) v w = absurd w
fluents_as d f g (knows_whether h) (knows_whether i) v w = rw (v.0, w.0) refl

fluent_list : (d : List ℕ) (f y : ℕ) (Y Z : Conclusion) → ConclusionStands d (Fluent f) Y → ConclusionStands d (Literals y) Z → false ≡ same_conclusion Y Z
unfolding ConclusionStands same_conclusion
fluent_list d f y (knows Y) Z v w = absurd v
fluent_list d f y (knows_whether h) (knows Z) v w = refl
fluent_list d f y (knows_whether h) (knows_whether i) v w = absurd w

list_fluent : (d : List ℕ) (y f : ℕ) (Y Z : Conclusion) → ConclusionStands d (Literals y) Y → ConclusionStands d (Fluent f) Z → false ≡ same_conclusion Y Z
unfolding ConclusionStands same_conclusion
list_fluent d y f (knows Y) (knows Z) v w = absurd w
list_fluent d y f (knows Y) (knows_whether i) v w = refl
list_fluent d y f (knows_whether h) Z v w = absurd v

lists_as : (d : List ℕ) (y z : ℕ) (Y Z : Conclusion) → ConclusionStands d (Literals y) Y → ConclusionStands d (Literals z) Z → same_list (listed d y) (listed d z) ≡ same_conclusion Y Z
unfolding ConclusionStands same_conclusion
lists_as d y z (knows Y) (knows Z) v w = rw (v.same, w.same) refl
lists_as d y z (knows Y) (knows_whether g) v w = absurd w
lists_as d y z (knows_whether f) Z v w = absurd v

module _ (d : List ℕ) (one other : Spot) where
  pub fluents_same : (f g : ℕ) → one.conclusion ≡ Fluent f → other.conclusion ≡ Fluent g → SameConclusions d one other (eqb f g)
  fluents_same f g first second = record { holds = λ Y Z v w. fluents_as d f g Y Z (concluded_as d _ _ Y first v) (concluded_as d _ _ Z second w) }

  pub fluent_to_list : (f y : ℕ) → one.conclusion ≡ Fluent f → other.conclusion ≡ Literals y → SameConclusions d one other false
  fluent_to_list f y first second = record { holds = λ Y Z v w. fluent_list d f y Y Z (concluded_as d _ _ Y first v) (concluded_as d _ _ Z second w) }

  pub list_to_fluent : (y f : ℕ) → one.conclusion ≡ Literals y → other.conclusion ≡ Fluent f → SameConclusions d one other false
  list_to_fluent y f first second = record { holds = λ Y Z v w. list_fluent d y f Y Z (concluded_as d _ _ Y first v) (concluded_as d _ _ Z second w) }

  pub concluded_same : (y z : ℕ) → one.conclusion ≡ Literals y → other.conclusion ≡ Literals z → (answer : Bool) → answer ≡ same_list (listed d y) (listed d z) → SameConclusions d one other answer
  concluded_same y z first second answer same =
      record { holds = λ Y Z v w. same ∙ lists_as d y z Y Z (concluded_as d _ _ Y first v) (concluded_as d _ _ Z second w) }

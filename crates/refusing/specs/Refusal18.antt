-- 18: the first branching whose conditions are not exclusive.
use Rattle.std.specs.Prelude.{Option}
use Rattle.std.specs.Prelude.{ℕ, zero, suc, ◌+◌, ◌≡◌, Bool, true, List, [], ◌∷◌, get_or, eqb}
use Rattle.meaning.specs.Tests.{both, fails, pick, each_of}
use Rattle.meaning.specs.Reading.{literals_in}
use Rattle.meaning.specs.Refusals.{Found, nowhere, at, all_exclusive, failing_in}
use Rattle.meaning.specs.Values
use Rattle.meaning.specs.Requests.{Sequence}
use Rattle.meaning.specs.declared.Form.{Form}
use Rattle.meaning.specs.declared.Form.TheVariants.{Flags, Valued}
use Rattle.reading.specs.Noted.{item_place}
use Rattle.reading.specs.Planned.{items_of}
use Rattle.finding.specs.Places.{found}
use Rattle.finding.specs.Branches.{conditions_from}
use Rattle.finding.specs.PlansHeld.{PlanHeld}
use Rattle.valuing.specs.Meets.{meets_as}

-- What is held rules out the condition.
unfoldable pub rules_out : {Held : Type 0} → (meets : List ℕ → Held → List ℕ → Bool) → (s : List ℕ) → Held → List ℕ → Bool
rules_out meets s held c = fails (meets s held c)

-- What a condition leaves rules out another.
unfoldable pub rules_out_as : Form → (s one other : List ℕ) → Bool
rules_out_as form s c d = fails (meets_as form s c d)

module _ (form : Form) (s : List ℕ) where
  -- Each condition rules out the conditions after it.
  unfoldable pub all_apart : List (List ℕ) → Bool
  all_apart [] = true
  all_apart (c ∷ cs) = both (each_of (rules_out_as form s c) cs) (all_apart cs)

  -- Item i, at p: a branching's conditions are apart.
  unfoldable pub item_apart : (t : List ℕ) (i p : ℕ) → Bool
  item_apart t i p = pick (eqb (get_or s p 0) 255) (λ _. all_apart (conditions_from form s t (get_or s (p + 1) 0) (p + 2) (i + 1))) (λ _. true)

  -- The first of a given number of items from item i on that is a branching with conditions that are not apart.
  unfoldable pub first_overlap : (t : List ℕ) (left i : ℕ) → Found
  first_overlap t zero i = nowhere
  first_overlap t (suc left) i = pick (item_apart t i (get_or t (item_place + i) 0)) (λ _. first_overlap t left (i + 1)) (λ _. at (get_or t (item_place + i) 0))

-- Every two of the conditions are exclusive, and the first branching of a plan where they are not, by what the form's literals say (FORMAT 5.18, 26.26).
abbrev pub exclusive_as : Form → List ℕ → List (List ℕ) → Bool
exclusive_as Flags s = all_exclusive
exclusive_as Valued s = Values.all_exclusive (literals_in s)

abbrev pub overlap_as : Form → List ℕ → Sequence ℕ → Found
overlap_as form s = failing_in (exclusive_as form s)

-- What is found is the first overlap of whatever plan with a given number of items is held (FORMAT 4.40).
pub record OverlapFound (form : Form) (s t : List ℕ) (count : ℕ) (r : Option ℕ) : Type 0 where
  pub holds : (b : Sequence ℕ) → PlanHeld form s t b → items_of b ≡ count → r ≡ found (overlap_as form s b)

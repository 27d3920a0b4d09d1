-- The branches of a branching in the input, found by the notes that its reading left.
use Rattle.std.specs.Prelude.{ℕ, zero, suc, ◌+◌, ◌≤◌, ◌<◌, ◌≡◌, Bool, List, [], ◌∷◌, length, get_or, eqb}
use Rattle.meaning.specs.Tests.{both, pick}
use Rattle.meaning.specs.Limits.{format}
use Rattle.meaning.specs.declared.Form.{Form}
use Rattle.reading.specs.Noted.{item_place, branch_place, branch_item}
use Rattle.reading.specs.Listed.{listed_as, LiteralsHere, span}

-- The count at q is 0.
unfoldable pub no_item : List ℕ → ℕ → Bool
no_item s q = both (eqb (get_or s q 0) 0) (eqb (get_or s (q + 1) 0) 0)

module _ (form : Form) where
  -- A BRANCH whose condition stands at p, with i items met before it. Where its sequence's count stands.
  unfoldable pub sequence_place : List ℕ → ℕ → ℕ
  sequence_place s p = p + 1 + span form (get_or s p 0)

  -- The branch after it, and the items met before that one.
  unfoldable pub place_after : (s t : List ℕ) (p i : ℕ) → ℕ
  place_after s t p i = pick (no_item s (sequence_place s p)) (λ _. sequence_place s p + 2) (λ _. get_or t (branch_place + i) 0)

  unfoldable pub item_after : (s t : List ℕ) (p i : ℕ) → ℕ
  item_after s t p i = pick (no_item s (sequence_place s p)) (λ _. i) (λ _. get_or t (branch_item + i) 0)

  -- The conditions of a given number of branches.
  unfoldable pub conditions_from : (s t : List ℕ) (left p i : ℕ) → List (List ℕ)
  conditions_from s t zero p i = []
  conditions_from s t (suc left) p i = listed_as form s p ∷ conditions_from s t left (place_after s t p i) (item_after s t p i)

  -- WHAT STANDS THERE.
  pub record BranchHere (s : List ℕ) (p i : ℕ) : Type 0 where
    pub condition : LiteralsHere form s p
    pub counted : sequence_place s p + 1 < length s
    pub few : i ≤ format.items

  unfoldable pub BranchesHere : (s t : List ℕ) (left p i : ℕ) → Type 0
  BranchesHere s t zero p i = Unit {0}
  BranchesHere s t (suc left) p i = BranchHere s p i × BranchesHere s t left (place_after s t p i) (item_after s t p i)

  pub record BranchingHere (s t : List ℕ) (i p : ℕ) : Type 0 where
    pub counted : p + 1 < length s
    pub branches : BranchesHere s t (get_or s (p + 1) 0) (p + 2) (i + 1)

  pub record ItemHere (s t : List ℕ) (i p : ℕ) : Type 0 where
    pub there : p < length s
    pub few : i < format.items
    pub branches : get_or s p 0 ≡ 255 → BranchingHere s t i p

  pub record ItemsHere (s t : List ℕ) (count : ℕ) : Type 0 where
    pub few : count ≤ format.items
    pub each : (i : ℕ) → i < count → ItemHere s t i (get_or t (item_place + i) 0)

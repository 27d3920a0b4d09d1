-- What noting a plan leaves in the notes is kept: each part changes slots of its own items alone, and what is kept of a part stands in slots
-- that no later part changes. Assumes nothing.
use Prim.Native.Nat.{ℕ, ◌+◌, ◌*◌, ◌%◌, ◌≤◌, ◌<◌}
use native.Mathlib.Omega.{arith}
use mathlib.Core.Path.{◌≡◌, refl, sym, ◌∙◌}
use mathlib.Core.List.{List}
use lib.ListN.{length, get_or, set, length-set}
use lib.Seq.{get_or-set_same, get_or-set_other}
use lib.Dec.{ltb}
use borrow.Author.Tests.{ltb-true, ltb-false}
use Rattle.meaning.specs.Limits.{format}
use Rattle.meaning.specs.Requests.{Sequence, done, item, Item, act, branching, Branches, none, branch}
use Rattle.meaning.proofs.TestLaws.{by-test}
use Rattle.meaning.specs.declared.Form.{Form}
use Rattle.reading.specs.Listed.{span}
use Rattle.reading.specs.Planned.{items_of, items_in, items_under, bytes_of, bytes_in, place_of, following, branch_noted, rest_noted, inside_noted, branches_noted, sequence_noted, plan_noted}
use Rattle.finding.specs.PlansHeld.{Kept, ItemKept, BranchesKept}
use Rattle.reading.proofs.NotingLaws.{branch_empty, branch_ended}
use Rattle.reading.specs.Noted.{branch_place, branch_item, effect_lines, around_from}
use Rattle.finding.proofs.PlanHere.{some_item}

branch_made : (first met p : ℕ) (t : List ℕ) → first < met → branch_noted first met p t ≡ set (set t (branch_place + first) p) (branch_item + first) met
branch_made first met p t h = sym (branch_ended first met p t (set t (branch_place + first) p) (set (set t (branch_place + first) p) (branch_item + first) met) h refl refl)

branch_not : (first met p : ℕ) (t : List ℕ) → met ≤ first → branch_noted first met p t ≡ t
branch_not first met p t h = sym (branch_empty first met p t h)

module _ (form : Form) where
  -- The notes after an item, before the rest of its sequence.
  abbrev after_item : (up met : ℕ) → List ℕ → Item ℕ → Sequence ℕ → List ℕ
  after_item up met t i rest = set (inside_noted form met (set t (0 + met) (place_of i)) i) (format.items + met) (following up (met + items_in i) rest)

  -- LENGTHS.
  branch_length : (first met p : ℕ) (t : List ℕ) → length (branch_noted first met p t) ≡ length t
  branch_length first met p t =
      by-test (ltb first met)
      (λ e. rw (branch_made first met p t (ltb-true first met e)) (length-set (set t (branch_place + first) p) (branch_item + first) met ∙ length-set t (branch_place + first) p))
      (λ e. rw (branch_not first met p t (ltb-false first met e)))

  mutual
    unfolding rest_noted inside_noted branches_noted

    pub rest_length : (b : Sequence ℕ) (up first met p : ℕ) (t : List ℕ) → length (rest_noted form up first met p t b) ≡ length t
    rest_length done up first met p t = branch_length first met p t
    rest_length (item i rest) up first met p t =
        rest_length rest up first (met + items_in i) (p + bytes_in form i) (after_item up met t i rest)
        ∙ length-set (inside_noted form met (set t (0 + met) (place_of i)) i) (format.items + met) (following up (met + items_in i) rest)
        ∙ inside_length i met (set t (0 + met) (place_of i))
        ∙ length-set t (0 + met) (place_of i)

    pub inside_length : (i : Item ℕ) (met : ℕ) (t : List ℕ) → length (inside_noted form met t i) ≡ length t
    inside_length (act p a) met t = refl
    inside_length (branching p bs) met t = branches_length bs (around_from + met) (met + 1) (p + 2) t

    branches_length : (bs : Branches ℕ) (up met p : ℕ) (t : List ℕ) → length (branches_noted form up met p t bs) ≡ length t
    branches_length none up met p t = refl
    branches_length (branch c b rest) up met p t =
        branches_length rest up (met + items_of b) (p + (1 + span form (length c)) + (2 + bytes_of form b)) (rest_noted form up met met (p + (1 + span form (length c)) + 2) t b)
        ∙ rest_length b up met met (p + (1 + span form (length c)) + 2) t

  -- OTHER SLOTS than those of the items from lo up to hi.
  abbrev Off : (lo hi x : ℕ) → Type 0
  Off lo hi x = x < effect_lines → lo ≤ x % format.items → x % format.items < hi → ⊥

  off : (k lo hi j x : ℕ) → k < 4 → hi ≤ format.items → lo ≤ j → j < hi → Off lo hi x → x ≡ format.items * k + j → ⊥
  off k lo hi j x four few from to apart e =
      let own : x % format.items ≡ j = omega (arith, e, few, to) in
      apart (omega (arith, e, four, few, to)) (omega (arith, own, from)) (omega (arith, own, to))

  mutual
    unfolding rest_noted inside_noted branches_noted items_of items_in items_under

    pub rest_other : (b : Sequence ℕ) (up first met p : ℕ) (t : List ℕ) (x : ℕ) → met + items_of b ≤ format.items
        → (first < met + items_of b → (x ≡ branch_place + first → ⊥) × (x ≡ branch_item + first → ⊥)) → Off met (met + items_of b) x
        → get_or (rest_noted form up first met p t b) x 0 ≡ get_or t x 0
    rest_other done up first met p t x few ends apart =
        by-test (ltb first met)
        (λ e.
        let h = ltb-true first met e in
        let far = ends (omega (arith, h)) in
        rw (branch_made first met p t h) (get_or-set_other (set t (branch_place + first) p) (branch_item + first) x met 0 far.1 ∙ get_or-set_other t (branch_place + first) x p 0 far.0))
        (λ e. rw (branch_not first met p t (ltb-false first met e)))
    rest_other (item i rest) up first met p t x few ends apart =
        let some = some_item i in
        rest_other rest up first (met + items_in i) (p + bytes_in form i) (after_item up met t i rest) x (omega (arith, few)) (λ h. ends (omega (arith, h))) (λ a d e. apart a (omega (arith, d)) (omega (arith, e)))
        ∙ get_or-set_other (inside_noted form met (set t (0 + met) (place_of i)) i) (format.items + met) x (following up (met + items_in i) rest) 0
        (off 1 met (met + (items_in i + items_of rest)) met x (omega arith) few (omega arith) (omega (arith, some)) apart)
        ∙ inside_other i met (set t (0 + met) (place_of i)) x (omega (arith, few)) (λ a d e. apart a (omega (arith, d)) (omega (arith, e)))
        ∙ get_or-set_other t (0 + met) x (place_of i) 0 (off 0 met (met + (items_in i + items_of rest)) met x (omega arith) few (omega arith) (omega (arith, some)) apart)

    inside_other : (i : Item ℕ) (met : ℕ) (t : List ℕ) (x : ℕ) → met + items_in i ≤ format.items → Off met (met + items_in i) x → get_or (inside_noted form met t i) x 0 ≡ get_or t x 0
    inside_other (act p a) met t x few apart = refl
    inside_other (branching p bs) met t x few apart = branches_other bs (around_from + met) (met + 1) (p + 2) t x (omega (arith, few)) (λ a d e. apart a (omega (arith, d)) (omega (arith, e)))

    pub branches_other : (bs : Branches ℕ) (up met p : ℕ) (t : List ℕ) (x : ℕ) → met + items_under bs ≤ format.items → Off met (met + items_under bs) x → get_or (branches_noted form up met p t bs) x 0 ≡ get_or t x 0
    branches_other none up met p t x few apart = refl
    branches_other (branch c b rest) up met p t x few apart =
        branches_other rest up (met + items_of b) (p + (1 + span form (length c)) + (2 + bytes_of form b)) (rest_noted form up met met (p + (1 + span form (length c)) + 2) t b) x (omega (arith, few)) (λ a d e. apart a (omega (arith, d)) (omega (arith, e)))
        ∙ rest_other b up met met (p + (1 + span form (length c)) + 2) t x (omega (arith, few))
        (λ h. (
          off 2 met (met + (items_of b + items_under rest)) met x (omega arith) few (omega arith) (omega (arith, h)) apart,
          off 3 met (met + (items_of b + items_under rest)) met x (omega arith) few (omega arith) (omega (arith, h)) apart,
        ))
        (λ a d e. apart a (omega (arith, d)) (omega (arith, e)))

  -- TABLES THAT AGREE on the places of the items from lo up to hi, and on the ends of branches from `from` up to hi.
  pub record Agree (lo from hi : ℕ) (t u : List ℕ) : Type 0 where
    pub places : (j : ℕ) → lo ≤ j → j < hi → get_or u (0 + j) 0 ≡ get_or t (0 + j) 0
    pub ends : (j : ℕ) → from ≤ j → j < hi → get_or u (branch_place + j) 0 ≡ get_or t (branch_place + j) 0
    pub counts : (j : ℕ) → from ≤ j → j < hi → get_or u (branch_item + j) 0 ≡ get_or t (branch_item + j) 0

  agree_part : (lo from hi lo' from' hi' : ℕ) (t u : List ℕ) → lo ≤ lo' → from ≤ from' → hi' ≤ hi → Agree lo from hi t u → Agree lo' from' hi' t u
  agree_part lo from hi lo' from' hi' t u a b c same =
      record {
        places = λ j h k. same.places j (omega (arith, a, h)) (omega (arith, c, k));
        ends = λ j h k. same.ends j (omega (arith, b, h)) (omega (arith, c, k));
        counts = λ j h k. same.counts j (omega (arith, b, h)) (omega (arith, c, k));
      }

  mutual
    unfolding Kept ItemKept BranchesKept items_of items_in items_under

    pub kept_agree : (b : Sequence ℕ) (met : ℕ) (t u : List ℕ) → Agree met (met + 1) (met + items_of b) t u → Kept form t met b → Kept form u met b
    kept_agree done met t u same k = tt
    kept_agree (item i rest) met t u same k =
        let some = some_item i in (
          item_agree i met t u (agree_part met (met + 1) (met + (items_in i + items_of rest)) met (met + 1) (met + items_in i) t u (omega arith) (omega arith) (omega arith) same) k.0,
          kept_agree rest (met + items_in i) t u
              (agree_part met (met + 1) (met + (items_in i + items_of rest)) (met + items_in i) (met + items_in i + 1) (met + items_in i + items_of rest) t u (omega arith) (omega arith) (omega arith) same)
              k.1,
        )

    item_agree : (i : Item ℕ) (met : ℕ) (t u : List ℕ) → Agree met (met + 1) (met + items_in i) t u → ItemKept form t met i → ItemKept form u met i
    item_agree (act p a) met t u same k = same.places met (omega arith) (omega arith) ∙ k
    item_agree (branching p bs) met t u same k = (
      same.places met (omega arith) (omega arith) ∙ k.0,
      branches_agree bs (met + 1) (p + 2) t u
          (agree_part met (met + 1) (met + (1 + items_under bs)) (met + 1) (met + 1) (met + 1 + items_under bs) t u (omega arith) (omega arith) (omega arith) same)
          k.1,
    )

    branches_agree : (bs : Branches ℕ) (met p : ℕ) (t u : List ℕ) → Agree met met (met + items_under bs) t u → BranchesKept form t met p bs → BranchesKept form u met p bs
    branches_agree none met p t u same k = tt
    branches_agree (branch c b rest) met p t u same k = (
      record {
        place = λ some. same.ends met (omega arith) (omega (arith, some)) ∙ k.0.place some;
        count = λ some. same.counts met (omega arith) (omega (arith, some)) ∙ k.0.count some;
      },
      kept_agree b met t u (agree_part met met (met + (items_of b + items_under rest)) met (met + 1) (met + items_of b) t u (omega arith) (omega arith) (omega arith) same) k.1,
      branches_agree rest (met + items_of b) (p + (1 + span form (length c)) + (2 + bytes_of form b)) t u
          (agree_part met met (met + (items_of b + items_under rest)) (met + items_of b) (met + items_of b) (met + items_of b + items_under rest) t u (omega arith) (omega arith) (omega arith) same)
          k.2,
    )

  -- THE END OF A SEQUENCE.
  sequence_end : (b : Sequence ℕ) (up first met p : ℕ) (t : List ℕ) → first < met + items_of b → met + items_of b ≤ format.items → first < format.items → effect_lines ≤ length t
      → (get_or (rest_noted form up first met p t b) (branch_place + first) 0 ≡ p + bytes_of form b) × (get_or (rest_noted form up first met p t b) (branch_item + first) 0 ≡ met + items_of b)
  unfolding rest_noted items_of bytes_of
  sequence_end done up first met p t h few low room =
      let same : p + 0 ≡ p = omega arith in
      let all : met + 0 ≡ met = omega arith in
      let long : length (set t (branch_place + first) p) ≡ length t = length-set t (branch_place + first) p in
      rw (branch_made first met p t (omega (arith, h)), same, all) (
        get_or-set_other (set t (branch_place + first) p) (branch_item + first) (branch_place + first) met 0 (λ (q : branch_place + first ≡ branch_item + first). omega (arith, q))
            ∙ get_or-set_same t (branch_place + first) p 0 (omega (arith, low, room)),
        get_or-set_same (set t (branch_place + first) p) (branch_item + first) met 0 (omega (arith, low, room, long)),
      )
  sequence_end (item i rest) up first met p t h few low room =
      let size : length (after_item up met t i rest) ≡ length t =
      length-set (inside_noted form met (set t (0 + met) (place_of i)) i) (format.items + met) (following up (met + items_in i) rest)
      ∙ inside_length i met (set t (0 + met) (place_of i))
      ∙ length-set t (0 + met) (place_of i)
      in
      let on = sequence_end rest up first (met + items_in i) (p + bytes_in form i) (after_item up met t i rest) (omega (arith, h)) (omega (arith, few)) low (rw size room) in
      (on.0 ∙ omega arith, on.1 ∙ omega arith)

  -- WHAT IS NOTED is kept. An item's slots are not those of the rest.
  rest_agrees : (i : Item ℕ) (rest : Sequence ℕ) (up first met p : ℕ) (t : List ℕ) → first ≤ met → met + (items_in i + items_of rest) ≤ format.items
      → Agree met (met + 1) (met + items_in i) (inside_noted form met (set t (0 + met) (place_of i)) i) (rest_noted form up first (met + items_in i) (p + bytes_in form i) (after_item up met t i rest) rest)
  rest_agrees i rest up first met p t start few =
      record {
        places = λ j h k. keeps (0 + j) (λ (q : 0 + j ≡ branch_place + first). omega (arith, q, k, few)) (λ (q : 0 + j ≡ branch_item + first). omega (arith, q, k, few)) (λ (q : 0 + j ≡ format.items + met). omega (arith, q, k, few)) (λ a d e. omega (arith, d, k, few));
        ends = λ j h k. keeps (branch_place + j) (λ (q : branch_place + j ≡ branch_place + first). omega (arith, q, h, start)) (λ (q : branch_place + j ≡ branch_item + first). omega (arith, q, k, few)) (λ (q : branch_place + j ≡ format.items + met). omega (arith, q, k, few, h)) (λ a d e. omega (arith, d, k, few));
        counts = λ j h k. keeps (branch_item + j) (λ (q : branch_item + j ≡ branch_place + first). omega (arith, q, h, start)) (λ (q : branch_item + j ≡ branch_item + first). omega (arith, q, h, start)) (λ (q : branch_item + j ≡ format.items + met). omega (arith, q, k, few, h)) (λ a d e. omega (arith, d, k, few));
      }
    where
      keeps : (x : ℕ) → (x ≡ branch_place + first → ⊥) → (x ≡ branch_item + first → ⊥) → (x ≡ format.items + met → ⊥) → Off (met + items_in i) (met + items_in i + items_of rest) x
          → get_or (rest_noted form up first (met + items_in i) (p + bytes_in form i) (after_item up met t i rest) rest) x 0 ≡ get_or (inside_noted form met (set t (0 + met) (place_of i)) i) x 0
      keeps x a d e apart =
          rest_other rest up first (met + items_in i) (p + bytes_in form i) (after_item up met t i rest) x (omega (arith, few)) (λ _. (a, d)) apart
          ∙ get_or-set_other (inside_noted form met (set t (0 + met) (place_of i)) i) (format.items + met) x (following up (met + items_in i) rest) 0 e

  mutual
    unfolding rest_noted inside_noted branches_noted Kept ItemKept BranchesKept items_of items_in items_under place_of

    rest_kept : (b : Sequence ℕ) (up first met p : ℕ) (t : List ℕ) → first ≤ met → met + items_of b ≤ format.items → effect_lines ≤ length t → Kept form (rest_noted form up first met p t b) met b
    rest_kept done up first met p t start few room = tt
    rest_kept (item i rest) up first met p t start few room =
        let some = some_item i in
        let placed : length (set t (0 + met) (place_of i)) ≡ length t = length-set t (0 + met) (place_of i) in
        let size : length (after_item up met t i rest) ≡ length t =
        length-set (inside_noted form met (set t (0 + met) (place_of i)) i) (format.items + met) (following up (met + items_in i) rest)
        ∙ inside_length i met (set t (0 + met) (place_of i))
        ∙ placed
        in (
          item_agree i met (inside_noted form met (set t (0 + met) (place_of i)) i) (rest_noted form up first (met + items_in i) (p + bytes_in form i) (after_item up met t i rest) rest)
              (rest_agrees i rest up first met p t start few)
              (inside_kept i met (set t (0 + met) (place_of i)) (get_or-set_same t (0 + met) (place_of i) 0 (omega (arith, some, few, room))) (omega (arith, few)) (rw placed room)),
          rest_kept rest up first (met + items_in i) (p + bytes_in form i) (after_item up met t i rest) (omega (arith, start)) (omega (arith, few)) (rw size room),
        )

    inside_kept : (i : Item ℕ) (met : ℕ) (t : List ℕ) → get_or t (0 + met) 0 ≡ place_of i → met + items_in i ≤ format.items → effect_lines ≤ length t → ItemKept form (inside_noted form met t i) met i
    inside_kept (act p a) met t here few room = here
    inside_kept (branching p bs) met t here few room = (
      branches_other bs (around_from + met) (met + 1) (p + 2) t (0 + met) (omega (arith, few)) (λ a d e. omega (arith, d, few)) ∙ here,
      branches_keep bs (around_from + met) (met + 1) (p + 2) t (omega (arith, few)) room,
    )

    branches_keep : (bs : Branches ℕ) (up met p : ℕ) (t : List ℕ) → met + items_under bs ≤ format.items → effect_lines ≤ length t → BranchesKept form (branches_noted form up met p t bs) met p bs
    branches_keep none up met p t few room = tt
    branches_keep (branch c b rest) up met p t few room = (
      record {
        place = λ some. branches_other rest up (met + items_of b) end after (branch_place + met) (omega (arith, few)) (λ a d e. omega (arith, d, some, few)) ∙ (closed some).0 ∙ omega arith;
        count = λ some. branches_other rest up (met + items_of b) end after (branch_item + met) (omega (arith, few)) (λ a d e. omega (arith, d, some, few)) ∙ (closed some).1;
      },
      kept_agree b met after (branches_noted form up (met + items_of b) end after rest) agrees (rest_kept b up met met (p + (1 + span form (length c)) + 2) t (omega arith) (omega (arith, few)) room),
      branches_keep rest up (met + items_of b) end after (omega (arith, few)) (rw (rest_length b up met met (p + (1 + span form (length c)) + 2) t) room),
    )
      where
        end : ℕ
        end = p + (1 + span form (length c)) + (2 + bytes_of form b)

        after : List ℕ
        after = rest_noted form up met met (p + (1 + span form (length c)) + 2) t b

        closed : 0 < items_of b → (get_or after (branch_place + met) 0 ≡ p + (1 + span form (length c)) + 2 + bytes_of form b) × (get_or after (branch_item + met) 0 ≡ met + items_of b)
        closed some = sequence_end b up met met (p + (1 + span form (length c)) + 2) t (omega (arith, some)) (omega (arith, few)) (omega (arith, some, few)) room

        agrees : Agree met (met + 1) (met + items_of b) after (branches_noted form up (met + items_of b) end after rest)
        agrees = record {
          places = λ j h k. branches_other rest up (met + items_of b) end after (0 + j) (omega (arith, few)) (λ a d e. omega (arith, d, k, few));
          ends = λ j h k. branches_other rest up (met + items_of b) end after (branch_place + j) (omega (arith, few)) (λ a d e. omega (arith, d, k, few));
          counts = λ j h k. branches_other rest up (met + items_of b) end after (branch_item + j) (omega (arith, few)) (λ a d e. omega (arith, d, k, few));
        }

  pub plan_kept : (p : ℕ) (t : List ℕ) (b : Sequence ℕ) → items_of b ≤ format.items → effect_lines ≤ length t → Kept form (plan_noted form p t b) 0 b
  unfolding plan_noted sequence_noted
  plan_kept p t b few room = rest_kept b format.items 0 0 (p + 2) t (omega arith) (omega (arith, few)) room

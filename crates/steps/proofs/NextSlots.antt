-- What noting a plan leaves as each item's next is kept: the slot is set once, after what stands inside the item, and what is noted later
-- sets only the slots of later items. Assumes nothing.
use Prim.Native.Nat.{ℕ, ◌+◌, ◌≤◌, ◌<◌}
use native.Mathlib.Omega.{arith}
use mathlib.Core.Path.{◌≡◌, ◌∙◌}
use mathlib.Core.List.{List}
use lib.ListN.{length, get_or, set, length-set}
use lib.Seq.{get_or-set_same, get_or-set_other}
use Rattle.meaning.specs.Limits.{format}
use Rattle.meaning.specs.Requests.{Sequence, done, item, Item, act, branching, Branches, none, branch}
use Rattle.meaning.specs.declared.Form.{Form}
use Rattle.reading.specs.Listed.{span}
use Rattle.reading.specs.Planned.{items_of, items_in, items_under, bytes_of, bytes_in, place_of, following, rest_noted, inside_noted, branches_noted, sequence_noted, plan_noted}
use Rattle.reading.specs.Noted.{item_next, branch_place, branch_item, effect_lines, around_from}
use Rattle.finding.proofs.PlanKept.{rest_length, inside_length, rest_other, branches_other}
use Rattle.finding.proofs.PlanHere.{some_item}
use Rattle.steps.specs.Rests.{Nexts, InsideNexts, UnderNexts}

-- TABLES THAT AGREE on what is next of the items from lo up to hi.
pub record SameNexts (lo hi : ℕ) (t u : List ℕ) : Type 0 where
  pub slot : (j : ℕ) → lo ≤ j → j < hi → get_or u (item_next + j) 0 ≡ get_or t (item_next + j) 0

same_part : (lo hi lo' hi' : ℕ) (t u : List ℕ) → lo ≤ lo' → hi' ≤ hi → SameNexts lo hi t u → SameNexts lo' hi' t u
same_part lo hi lo' hi' t u a b same = record { slot = λ j h k. same.slot j (omega (arith, a, h)) (omega (arith, b, k)) }

mutual
  unfolding Nexts InsideNexts UnderNexts items_of items_in items_under

  pub nexts_agree : (b : Sequence ℕ) (up met : ℕ) (t u : List ℕ) → SameNexts met (met + items_of b) t u → Nexts t up met b → Nexts u up met b
  nexts_agree done up met t u same n = tt
  nexts_agree (item i rest) up met t u same n =
      let some = some_item i in (
        same.slot met (omega arith) (omega (arith, some)) ∙ n.0,
        inside_agree i met t u (same_part met (met + (items_in i + items_of rest)) (met + 1) (met + items_in i) t u (omega arith) (omega arith) same) n.1,
        nexts_agree rest up (met + items_in i) t u
            (same_part met (met + (items_in i + items_of rest)) (met + items_in i) (met + items_in i + items_of rest) t u (omega arith) (omega arith) same)
            n.2,
      )

  inside_agree : (i : Item ℕ) (met : ℕ) (t u : List ℕ) → SameNexts (met + 1) (met + items_in i) t u → InsideNexts t met i → InsideNexts u met i
  inside_agree (act p a) met t u same n = tt
  inside_agree (branching p bs) met t u same n =
      under_agree bs (around_from + met) (met + 1) t u (same_part (met + 1) (met + (1 + items_under bs)) (met + 1) (met + 1 + items_under bs) t u (omega arith) (omega arith) same) n

  under_agree : (bs : Branches ℕ) (up met : ℕ) (t u : List ℕ) → SameNexts met (met + items_under bs) t u → UnderNexts t up met bs → UnderNexts u up met bs
  under_agree none up met t u same n = tt
  under_agree (branch c b rest) up met t u same n = (
    nexts_agree b up met t u (same_part met (met + (items_of b + items_under rest)) met (met + items_of b) t u (omega arith) (omega arith) same) n.0,
    under_agree rest up (met + items_of b) t u
        (same_part met (met + (items_of b + items_under rest)) (met + items_of b) (met + items_of b + items_under rest) t u (omega arith) (omega arith) same)
        n.1,
  )

-- WHAT IS NOTED is kept.
module _ (form : Form) where
  mutual
    unfolding rest_noted inside_noted branches_noted Nexts InsideNexts UnderNexts items_of items_in items_under

    rest_nexts : (b : Sequence ℕ) (up first met p : ℕ) (t : List ℕ) → met + items_of b ≤ format.items → effect_lines ≤ length t → Nexts (rest_noted form up first met p t b) up met b
    rest_nexts done up first met p t few room = tt
    rest_nexts (item i rest) up first met p t few room = (
      keeps met (omega (arith, some)) ∙ get_or-set_same inside (format.items + met) (following up (met + items_in i) rest) 0 (omega (arith, some, few, room, size)),
      inside_agree i met inside (rest_noted form up first (met + items_in i) (p + bytes_in form i) after rest)
          (record { slot = λ j h k. keeps j k ∙ get_or-set_other inside (format.items + met) (format.items + j) (following up (met + items_in i) rest) 0 (λ (q : format.items + j ≡ format.items + met). omega (arith, q, h)) })
          (inside_next i met (set t (0 + met) (place_of i)) (omega (arith, few)) (rw (length-set t (0 + met) (place_of i)) room)),
      rest_nexts rest up first (met + items_in i) (p + bytes_in form i) after (omega (arith, few))
          (rw (length-set inside (item_next + met) (following up (met + items_in i) rest), size) room),
    )
      where
        some : 0 < items_in i
        some = some_item i

        inside : List ℕ
        inside = inside_noted form met (set t (0 + met) (place_of i)) i

        size : length inside ≡ length t
        size = inside_length form i met (set t (0 + met) (place_of i)) ∙ length-set t (0 + met) (place_of i)

        after : List ℕ
        after = set inside (item_next + met) (following up (met + items_in i) rest)

        keeps : (j : ℕ) → j < met + items_in i → get_or (rest_noted form up first (met + items_in i) (p + bytes_in form i) after rest) (format.items + j) 0 ≡ get_or after (item_next + j) 0
        keeps j k =
            rest_other form rest up first (met + items_in i) (p + bytes_in form i) after (format.items + j) (omega (arith, few))
            (λ _. (λ (q : format.items + j ≡ branch_place + first). omega (arith, q, k, few), λ (q : format.items + j ≡ branch_item + first). omega (arith, q, k, few)))
            (λ a d e. omega (arith, d, k, few))

    inside_next : (i : Item ℕ) (met : ℕ) (t : List ℕ) → met + items_in i ≤ format.items → effect_lines ≤ length t → InsideNexts (inside_noted form met t i) met i
    inside_next (act p a) met t few room = tt
    inside_next (branching p bs) met t few room = under_nexts bs (around_from + met) (met + 1) (p + 2) t (omega (arith, few)) room

    under_nexts : (bs : Branches ℕ) (up met p : ℕ) (t : List ℕ) → met + items_under bs ≤ format.items → effect_lines ≤ length t → UnderNexts (branches_noted form up met p t bs) up met bs
    under_nexts none up met p t few room = tt
    under_nexts (branch c b rest) up met p t few room = (
      nexts_agree b up met after (branches_noted form up (met + items_of b) end after rest)
          (record { slot = λ j h k. branches_other form rest up (met + items_of b) end after (format.items + j) (omega (arith, few)) (λ a d e. omega (arith, d, k, few)) })
          (rest_nexts b up met met (p + (1 + span form (length c)) + 2) t (omega (arith, few)) room),
      under_nexts rest up (met + items_of b) end after (omega (arith, few)) (rw (rest_length form b up met met (p + (1 + span form (length c)) + 2) t) room),
    )
      where
        end : ℕ
        end = p + (1 + span form (length c)) + (2 + bytes_of form b)

        after : List ℕ
        after = rest_noted form up met met (p + (1 + span form (length c)) + 2) t b

  pub plan_nexts : (p : ℕ) (t : List ℕ) (b : Sequence ℕ) → items_of b ≤ format.items → effect_lines ≤ length t → Nexts (plan_noted form p t b) format.items 0 b
  unfolding plan_noted sequence_noted
  plan_nexts p t b few room = rest_nexts b format.items 0 0 (p + 2) t (omega (arith, few)) room

-- The fluents with a flag are gathered one after another, up to one more than the limit; with a flag for each open fluent these are the open ones.
-- Assumes nothing.
use Prim.Native.Nat.{ℕ, suc, ◌+◌, ◌-◌, ◌≤◌, ◌<◌}
use native.Mathlib.Omega.{arith}
use mathlib.Core.Path.{◌≡◌, refl, sym, ◌∙◌, ap, subst}
use mathlib.Core.Bool.{Bool}
use mathlib.Core.List.{List, [], ◌∷◌, ◌++◌, append-nil}
use lib.ListN.{length, get_or, set, take, drop, replicate, length-set, length-drop, length-append, length-replicate}
use lib.Seq.{length-take-le, append_snoc, get_or-set_same, drop-set-lt, drop-set-add, take-suc-set}
use lib.Dec.{eqb}
use borrow.Author.Tests.{eq-eqb, ne_eqb}
use Rattle.meaning.specs.Tests.{both, fails, pick, those_of}
use Rattle.meaning.specs.Limits.{format, most_open}
use Rattle.meaning.specs.States.{State, known_whether}
use Rattle.meaning.specs.ByCases.{upward, in_bodies, open_fluents}
use Rattle.meaning.proofs.TestLaws.{by-test, both_left, pick_true, pick_false}
use Rattle.meaning.proofs.RangeLaws.{Ranged, table_ranged}
use Rattle.meaning.proofs.OpenLaws.{upward_same, in_bodies_within}
use Rattle.steps.specs.Held.{table_in}
use Rattle.steps.specs.AtHand.{AtHand}
use Rattle.steps.specs.Flags.{OpenFlags, with_flag}
use Rattle.steps.specs.Opened.{open_in, Opened}
use Rattle.meaning.specs.declared.Form.TheVariants.{Flags}

-- GATHERING. Those from fluent f up that have a flag.
unfoldable pub flagged_from : List ℕ → ℕ → List ℕ
flagged_from flags f = those_of (λ (g : ℕ). eqb (get_or flags g 0) 1) (upward f (format.fluents - f))

-- The first k are held, of those below f.
pub record Gathering (flags held : List ℕ) (k f : ℕ) : Type 0 where
  pub sized : length held ≡ 1 + most_open
  pub few : k ≤ most_open
  pub same : with_flag flags ≡ take k (drop 1 held) ++ flagged_from flags f

pub gathering_starts : (flags : List ℕ) → Gathering flags (replicate (1 + most_open) 0) 0 0
unfolding with_flag flagged_from
gathering_starts flags = record { sized = length-replicate {A = ℕ} (1 + most_open) 0; few = omega arith; same = refl }

module _ (flags held : List ℕ) (k f : ℕ) (gathers : Gathering flags held k f) where
  room : length (drop 1 held) ≡ most_open
  room = let sized = gathers.sized in length-drop 1 held ∙ omega arith

  held_first : length (take k (drop 1 held)) ≡ k
  held_first = length-take-le k (drop 1 held) (rw room gathers.few)

  -- With their number in front.
  number_there : (n : ℕ) → get_or (set held 0 n) 0 0 ≡ n
  number_there n = let sized = gathers.sized in get_or-set_same held 0 n 0 (omega arith)

  number_beside : (n : ℕ) → drop 1 (set held 0 n) ≡ drop 1 held
  number_beside n = drop-set-lt 1 held 0 n (omega arith)

  -- None is to come.
  module _ (far : format.fluents ≤ f) where
    all_held : with_flag flags ≡ take k (drop 1 held)
    unfolding flagged_from those_of upward
    all_held = let none : format.fluents - f ≡ 0 = omega arith in gathers.same ∙ rw none (append-nil (take k (drop 1 held)))

    all_counted : length (with_flag flags) ≡ k
    all_counted = ap length all_held ∙ held_first

    pub gather_done : Opened (with_flag flags) (set held 0 k)
    unfolding open_in
    gather_done = record {
      sized = length-set held 0 k ∙ gathers.sized;
      number = λ _. number_there k ∙ sym all_counted;
      fluents = λ _. rw (number_there k, number_beside k) (sym all_held);
      more = λ h. let counted = all_counted in let most = gathers.few in absurd (omega arith);
    }

  module _ (near : f < format.fluents) where
    from_here : flagged_from flags f ≡ pick (eqb (get_or flags f 0) 1) (λ _. f ∷ flagged_from flags (f + 1)) (λ _. flagged_from flags (f + 1))
    unfolding flagged_from those_of upward
    from_here = let left : format.fluents - f ≡ suc (format.fluents - (f + 1)) = omega arith in rw left

    -- A fluent without a flag.
    pub gather_kept : (get_or flags f 0 ≡ 1 → ⊥) → Gathering flags held k (f + 1)
    gather_kept none = record {
      sized = gathers.sized;
      few = gathers.few;
      same = gathers.same ∙ ap (λ (fs : List ℕ). take k (drop 1 held) ++ fs) (from_here ∙ pick_false _ _ _ (ne_eqb _ _ none));
    }

    -- One with a flag.
    module _ (flag : get_or flags f 0 ≡ 1) where
      one_more : with_flag flags ≡ take k (drop 1 held) ++ f ∷ flagged_from flags (f + 1)
      one_more = gathers.same ∙ ap (λ (fs : List ℕ). take k (drop 1 held) ++ fs) (from_here ∙ pick_true _ _ _ (eq-eqb _ _ flag))

      module _ (less : k + 1 ≤ most_open) where
        more_held : take (k + 1) (drop 1 (set held (k + 1) f)) ≡ take k (drop 1 held) ++ (f ∷ [])
        more_held =
            let place : k + 1 ≡ 1 + k = omega arith in
            let up : 1 + k ≡ suc k = omega arith in
            rw (place, drop-set-add 1 held k f, up) (take-suc-set (drop 1 held) k f (rw room (omega arith)))

        pub gather_more : Gathering flags (set held (k + 1) f) (k + 1) (f + 1)
        gather_more = record {
          sized = length-set held (k + 1) f ∙ gathers.sized;
          few = less;
          same =
              one_more
              ∙ sym (append_snoc (take k (drop 1 held)) f (flagged_from flags (f + 1)))
              ∙ ap (λ (fs : List ℕ). fs ++ flagged_from flags (f + 1)) (sym more_held);
        }

      -- It is one more than the limit.
      module _ (over : most_open < k + 1) where
        more_than_held : most_open < length (with_flag flags)
        more_than_held =
            let counted = ap length one_more ∙ length-append (take k (drop 1 held)) (f ∷ flagged_from flags (f + 1)) in
            let first = held_first in
            omega arith

        pub gather_over : Opened (with_flag flags) (set held 0 (k + 1))
        gather_over = record {
          sized = length-set held 0 (k + 1) ∙ gathers.sized;
          number = λ h. let most = more_than_held in absurd (omega arith);
          fluents = λ h. let most = more_than_held in absurd (omega arith);
          more = λ _. rw (number_there (k + 1)) over;
        }

-- THE OPEN FLUENTS are those with a flag.
module _ (s t : List ℕ) (a : ℕ) (marks flags : State) (here : AtHand Flags s t) (open-are : OpenFlags (table_in Flags s) a marks flags) where
  ranged : Ranged format (table_in Flags s)
  ranged = table_ranged format s 0 (table_in Flags s) here.table.end here.table.is

  abbrev is_open : ℕ → Bool
  is_open f = both (in_bodies (table_in Flags s) a f) (fails (known_whether marks f))

  flag_open : (f : ℕ) → f < format.fluents → eqb (get_or flags f 0) 1 ≡ is_open f
  flag_open f near =
      ap (λ (m : ℕ). eqb m 1) (open-are.flag f near)
      ∙ by-test (is_open f) (λ e. ap (λ (m : ℕ). eqb m 1) (pick_true _ _ _ e) ∙ sym e) (λ e. ap (λ (m : ℕ). eqb m 1) (pick_false _ _ _ e) ∙ sym e)

  flagged_open : with_flag flags ≡ open_fluents (table_in Flags s) a marks
  unfolding with_flag open_fluents
  flagged_open =
      let few = ranged.fluents in
      upward_same (λ (f : ℕ). eqb (get_or flags f 0) 1) is_open (table_in Flags s).fluents format.fluents 0 few
      (λ f h. flag_open f (omega arith))
      (λ f h i. flag_open f (omega arith) ∙ by-test (is_open f) (λ e. let below = in_bodies_within format (table_in Flags s) ranged a f (both_left _ _ e) in absurd (omega arith)) (λ e. e))

  pub all_opened : (r : List ℕ) → Opened (with_flag flags) r → Opened (open_fluents (table_in Flags s) a marks) r
  all_opened r opened = subst (λ (fs : List ℕ). Opened fs r) flagged_open opened

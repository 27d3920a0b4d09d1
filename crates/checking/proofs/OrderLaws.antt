-- The lines one after another: what all of them give is what those from line i on give, where each line before it follows. Assumes nothing.
use Prim.Native.Nat.{ℕ, suc, ◌+◌, ◌≤◌, ◌<◌}
use native.Mathlib.Omega.{arith}
use mathlib.Core.Path.{◌≡◌, refl, sym, ◌∙◌, ap, subst}
use mathlib.Core.Bool.{Bool, true, false}
use mathlib.Core.List.{List, ◌∷◌}
use lib.ListN.{length, get_or, drop, drop_of_length-le}
use lib.Seq.{drop-cons}
use lib.Dec.{ltb}
use borrow.Author.Tests.{lt-ltb, le-ltb}
use Rattle.meaning.specs.declared.Layout.{Layout}
use Rattle.meaning.specs.Tests.{fails, pick, each_of}
use Rattle.meaning.specs.Limits.{format}
use Rattle.meaning.specs.Literals.{among}
use Rattle.meaning.specs.Requests.{Table}
use Rattle.meaning.specs.Reading.{Got, fault}
use Rattle.meaning.specs.Derivations.{Line, follows, citations_of, a_rule, cited_by, check_lines}
use Rattle.meaning.proofs.TestLaws.{pick_true, pick_false}
use Rattle.std.specs.Prelude.{Option, Some, None, Ok, Err}
use Rattle.parsing.specs.declared.faults.Refusal.{Refusal}
use Rattle.parsing.specs.declared.faults.Refusal.TheVariants.{TooLong, EndsTooSoon, CountOutside, TooLarge, NotAbove, ComplementBeside, ContradictoryEffects, EffectAndKnowledge, NotExclusive, NestedTooDeep, BytesAfter, TooManyItems, NoSuchRule, NotEarlier, CitationsNotTaken, DoesNotFollow, NotTheQuestion, ClosingNotRight, SaysIsNot}
use Rattle.parsing.specs.declared.faults.Fault.{Fault}
use Rattle.parsing.specs.Faults.{number_of}
use Rattle.parsing.specs.Read.{over, passed}
use Rattle.derivation.specs.DerivationRead.{plan_ends_slot, places_slots}
use Rattle.comparing.proofs.SpotLaws.{spot_line}
use Rattle.checking.specs.Checked.{lines_in, no_line, line_in, spot_in, AllStand, Numbered, refused_by, number_or_none}
use Rattle.checking.proofs.EachLineLaws.{own_few, own}

-- ONE LINE: refused by its number, or passed over.
chosen : (a b c e : Bool) (p : ℕ) (rest : Got (Unit {0}))
    → pick a (λ _. fault 31 p) (λ _. pick b (λ _. fault 33 p) (λ _. pick c (λ _. fault 32 p) (λ _. pick e (λ _. fault 34 p) (λ _. rest))))
    ≡ pick (ltb 0 (pick a (λ _. 31) (λ _. pick b (λ _. 33) (λ _. pick c (λ _. 32) (λ _. pick e (λ _. 34) (λ _. 0))))))
    (λ _. fault (pick a (λ _. 31) (λ _. pick b (λ _. 33) (λ _. pick c (λ _. 32) (λ _. pick e (λ _. 34) (λ _. 0))))) p) (λ _. rest)
unfolding pick
chosen true b c e p rest = refl
chosen false true c e p rest = refl
chosen false false true e p rest = refl
chosen false false false true p rest = refl
chosen false false false false p rest = refl

module _ (layout : Layout) (t : Table) (lines : List Line) (i : ℕ) (l : Line) (ls : List Line) where
  line_first : check_lines format layout t lines i (l ∷ ls) ≡ pick (ltb 0 (refused_by layout t lines i l)) (λ _. fault (refused_by layout t lines i l) l.place) (λ _. check_lines format layout t lines (i + 1) ls)
  unfolding check_lines refused_by
  line_first =
      chosen (fails (a_rule layout l.rule)) (fails (among (length l.cites) (citations_of l.rule))) (fails (each_of (λ (k : ℕ). ltb k i) l.cites))
      (fails (follows format t (cited_by lines l) l)) l.place (check_lines format layout t lines (i + 1) ls)

  line_refused : 0 < refused_by layout t lines i l → check_lines format layout t lines i (l ∷ ls) ≡ fault (refused_by layout t lines i l) l.place
  line_refused h = line_first ∙ pick_true _ _ _ (lt-ltb _ _ h)

  line_passed : refused_by layout t lines i l ≤ 0 → check_lines format layout t lines i (l ∷ ls) ≡ check_lines format layout t lines (i + 1) ls
  line_passed h = line_first ∙ pick_false _ _ _ (le-ltb _ _ h)

-- No refusal has the number 0.
refusal_some : (refusal : Refusal) → 0 < number_of refusal
refusal_some TooLong = omega arith
refusal_some EndsTooSoon = omega arith
refusal_some CountOutside = omega arith
refusal_some TooLarge = omega arith
refusal_some NotAbove = omega arith
refusal_some ComplementBeside = omega arith
refusal_some ContradictoryEffects = omega arith
refusal_some EffectAndKnowledge = omega arith
refusal_some NotExclusive = omega arith
refusal_some NestedTooDeep = omega arith
refusal_some BytesAfter = omega arith
refusal_some TooManyItems = omega arith
refusal_some NoSuchRule = omega arith
refusal_some NotEarlier = omega arith
refusal_some CitationsNotTaken = omega arith
refusal_some DoesNotFollow = omega arith
refusal_some NotTheQuestion = omega arith
refusal_some ClosingNotRight = omega arith
refusal_some SaysIsNot = omega arith

-- FROM LINE i ON.
pub record Checking (layout : Layout) (t : Table) (lines : List Line) (i : ℕ) : Type 0 where
  pub same : check_lines format layout t lines 0 lines ≡ check_lines format layout t lines i (drop i lines)

pub checking_start : (layout : Layout) (t : Table) (lines : List Line) → Checking layout t lines 0
checking_start layout t lines = record { same = refl }

module _ (layout : Layout) (n m : ℕ) (d places : List ℕ) (count : ℕ) (all : AllStand layout n m d places count) where
  pub line_numbered : (i : ℕ) → i < count → Numbered layout n m d places count i
  line_numbered i h = record { all = all; below = h }

  pub index_few : (i : ℕ) → i < count → i < places_slots
  index_few i h = let few = own_few layout n m d places count i (line_numbered i h) in omega (arith, few)

  module _ (t : Table) (i : ℕ) (so_far : Checking layout t (lines_in layout n m d) i) where
    -- Past the last line.
    pub lines_through : count ≤ i → over (Ok 0) ≡ passed (check_lines format layout t (lines_in layout n m d) 0 (lines_in layout n m d))
    unfolding check_lines passed
    lines_through over =
        let size = all.size in
        sym (ap passed (so_far.same ∙ ap (check_lines format layout t (lines_in layout n m d) i) (drop_of_length-le (lines_in layout n m d) {i = i} (omega (arith, size, over)))))

    module _ (more : i < count) where
      on : check_lines format layout t (lines_in layout n m d) 0 (lines_in layout n m d) ≡ check_lines format layout t (lines_in layout n m d) i (line_in layout n m d i ∷ drop (i + 1) (lines_in layout n m d))
      unfolding line_in
      on =
          let size = all.size in
          let same : suc i ≡ i + 1 = omega arith in
          so_far.same
          ∙ ap (check_lines format layout t (lines_in layout n m d) i)
          (drop-cons (lines_in layout n m d) i no_line (omega (arith, size, more)) ∙ ap (λ (j : ℕ). get_or (lines_in layout n m d) i no_line ∷ drop j (lines_in layout n m d)) same)

      module _ (told : Option Refusal) (is : number_or_none told ≡ refused_by layout t (lines_in layout n m d) i (line_in layout n m d i)) where
        pub checking_next : told ≡ None → Checking layout t (lines_in layout n m d) (i + 1)
        checking_next none =
            let follows : 0 ≡ refused_by layout t (lines_in layout n m d) i (line_in layout n m d i) = ap number_or_none (sym none) ∙ is in
            record { same = on ∙ line_passed layout t (lines_in layout n m d) i (line_in layout n m d i) (drop (i + 1) (lines_in layout n m d)) (omega (arith, follows)) }

        stopped_at : (refusal : Refusal) → told ≡ Some refusal → (p : ℕ) → p ≡ get_or places i 0 → check_lines format layout t (lines_in layout n m d) 0 (lines_in layout n m d) ≡ fault (number_of refusal) p
        stopped_at refusal some p place =
            let there : (line_in layout n m d i).place ≡ p = (own layout n m d places count i (line_numbered i more) (spot_in layout d places i) refl).place ∙ spot_line layout d (get_or places i 0) (get_or places (plan_ends_slot + i) 0) ∙ sym place in
            let refused : number_of refusal ≡ refused_by layout t (lines_in layout n m d) i (line_in layout n m d i) = ap number_or_none (sym some) ∙ is in
            on ∙ line_refused layout t (lines_in layout n m d) i (line_in layout n m d i) (drop (i + 1) (lines_in layout n m d)) (subst (λ (j : ℕ). 0 < j) refused (refusal_some refusal)) ∙ rw (sym refused, there) refl

        pub line_stops : (refusal : Refusal) → told ≡ Some refusal → (p : ℕ) → p ≡ get_or places i 0 → (why : Fault) → why ≡ record { refusal = refusal; place = p }
            → over (Err why) ≡ passed (check_lines format layout t (lines_in layout n m d) 0 (lines_in layout n m d))
        unfolding passed
        line_stops refusal some p place why is-why = rw (is-why, stopped_at refusal some p place) refl

-- Items: a law for each way that their reader returns. Assumes nothing.
use Prim.Native.Nat.{ℕ, ◌+◌, ◌≤◌, ◌<◌}
use native.Mathlib.Omega.{arith}
use mathlib.Core.Path.{◌≡◌, refl, sym, ◌∙◌, ap}
use mathlib.Core.List.{List}
use lib.ListN.{length, set}
use lib.Dec.{eqb, leb}
use borrow.Author.Tests.{eq-eqb, ne_eqb, le-leb, lt-leb}
use Rattle.std.specs.Prelude.{Ok, Err}
use Rattle.parsing.specs.declared.faults.Fault.{Fault}
use Rattle.parsing.specs.declared.faults.Refusal.TheVariants.{TooManyItems, TooLarge}
use Rattle.meaning.specs.Tests.{pick}
use Rattle.meaning.specs.Limits.{format}
use Rattle.meaning.specs.Requests.{Item, act}
use Rattle.meaning.specs.declared.Form.{Form}
use Rattle.meaning.specs.Reading.{Got, got, fault, next, Met, byte_at, item_at, branching_at}
use Rattle.meaning.proofs.TestLaws.{pick_true, pick_false}
use Rattle.parsing.specs.Read.{Numbered, numbered}
use Rattle.reading.specs.Noted.{item_place}
use Rattle.reading.specs.Planned.{place_of, inside_noted, item_noted, noting_met, outcome_met}
use Rattle.parsing.proofs.ByteLaws.{was_read, was_stopped}
use Rattle.reading.proofs.PlanSizes.{byte_through, item_read}
use Rattle.reading.proofs.NotingLaws.{noting_same, with_items}

module _ (form : Form) (n m deep : ℕ) (s : List ℕ) (p met : ℕ) (t : List ℕ) (byte : Numbered) (read : numbered byte ≡ (byte_at s p)) where
  abbrev whole_item : Got (Met (Item ℕ))
  whole_item = item_at format form n m s (branching_at format form n m s deep) p met

  pub item_fault : (why : Fault) (u : List ℕ) → byte ≡ Err why → outcome_met (Err why) u ≡ noting_met (item_noted form met t) whole_item
  unfolding item_at next noting_met outcome_met
  item_fault why u e = rw (was_stopped (byte_at s p) byte why read e)

  module _ (x q : ℕ) (is : byte ≡ Ok (x, q)) where
    item_rest : whole_item ≡ pick (leb format.items met) (λ _. fault 21 p) (λ _. pick (eqb x 255) (λ _. branching_at format form n m s deep p (met + 1)) (λ _. pick (leb m x) (λ _. fault 13 p) (λ _. got (with_items (act p x) (met + 1)) q)))
    unfolding item_at next
    item_rest = rw (was_read (byte_at s p) byte x q read is)

    pub item_many : (u : List ℕ) (why : Fault) → format.items ≤ met → why ≡ record { refusal = TooManyItems; place = p } → outcome_met (Err why) u ≡ noting_met (item_noted form met t) whole_item
    unfolding noting_met next outcome_met
    item_many u why h e = rw e (sym (ap (noting_met (item_noted form met t)) (item_rest ∙ pick_true _ _ _ (le-leb format.items met h))))

    pub item_branching : (r : Numbered) (u v : List ℕ) → met < format.items → x ≡ 255 → u ≡ set t (item_place + met) p
        → outcome_met r v ≡ noting_met (inside_noted form met u) (branching_at format form n m s deep p (met + 1)) → outcome_met r v ≡ noting_met (item_noted form met t) whole_item
    unfolding item_noted
    item_branching r u v h b placed e =
        let whole : whole_item ≡ branching_at format form n m s deep p (met + 1) = item_rest ∙ pick_false _ _ _ (lt-leb format.items met h) ∙ pick_true _ _ _ (eq-eqb x 255 b) in
        e ∙ noting_same (inside_noted form met u) (item_noted form met t) (branching_at format form n m s deep p (met + 1))
        (λ y r g. rw (placed, ((item_read form n m s deep p met).holds y r (whole ∙ g)).place) refl)
        ∙ sym (ap (noting_met (item_noted form met t)) whole)

    pub item_large : (u : List ℕ) (why : Fault) → met < format.items → (x ≡ 255 → ⊥) → m ≤ x → why ≡ record { refusal = TooLarge; place = p } → outcome_met (Err why) u ≡ noting_met (item_noted form met t) whole_item
    unfolding noting_met next outcome_met
    item_large u why h b k e = rw e (sym (ap (noting_met (item_noted form met t)) (item_rest ∙ pick_false _ _ _ (lt-leb format.items met h) ∙ pick_false _ _ _ (ne_eqb x 255 b) ∙ pick_true _ _ _ (le-leb m x k))))

    pub item_act : (u : List ℕ) → met < format.items → (x ≡ 255 → ⊥) → x < m → u ≡ set t (item_place + met) p → outcome_met (Ok (met + 1, q)) u ≡ noting_met (item_noted form met t) whole_item
    unfolding noting_met next outcome_met item_noted inside_noted place_of
    item_act u h b k placed = rw placed (sym (ap (noting_met (item_noted form met t)) (item_rest ∙ pick_false _ _ _ (lt-leb format.items met h) ∙ pick_false _ _ _ (ne_eqb x 255 b) ∙ pick_false _ _ _ (lt-leb m x k))))

    -- A byte that was read was there.
    pub item_inside : p < length s
    item_inside = let w = (byte_through s p).holds x q (was_read (byte_at s p) byte x q read is) in let a = w.after in let b = w.inside in omega arith

    pub item_fits : length s ≤ format.derivation → p < 65536
    item_fits h = let k = item_inside in omega arith

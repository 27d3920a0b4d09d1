-- Sequences and the plan: a law for each way that a reader returns, and how the loop over the items goes on. Assumes nothing.
use Prim.Native.Nat.{ℕ, zero, suc, ◌+◌, ◌-◌, ◌≤◌, ◌<◌}
use native.Mathlib.Omega.{arith}
use native.Mathlib.Numerals.{sub-one}
use mathlib.Core.Path.{◌≡◌, refl, sym, ◌∙◌, ap, subst}
use mathlib.Core.List.{List}
use lib.ListN.{set}
use Rattle.std.specs.Prelude.{Ok, Err}
use Rattle.parsing.specs.declared.faults.Fault.{Fault}
use Rattle.meaning.specs.Limits.{format}
use Rattle.meaning.specs.Requests.{Sequence, item, Item}
use Rattle.meaning.specs.declared.Form.{Form}
use Rattle.meaning.specs.Reading.{Got, got, next, Met, Part, two_bytes_at, item_at, items_at, sequence_at, branching_at, plan_at}
use Rattle.meaning.proofs.SettledLaws.{got_same}
use Rattle.meaning.proofs.RangeLaws.{after_got}
use Rattle.parsing.specs.Read.{Numbered, numbered, stopped}
use Rattle.reading.specs.Noted.{item_next}
use Rattle.reading.specs.Planned.{items_in, bytes_in, following, number_after, branch_noted, rest_noted, item_noted, sequence_noted, plan_noted, noting_met, outcome_met}
use Rattle.parsing.proofs.ByteLaws.{was_read, was_stopped}
use Rattle.reading.proofs.PlanSizes.{ItemRead, two_bytes_through, item_read}
use Rattle.reading.proofs.NotingLaws.{Going, after_last, after_other, fault_met, met_fault, met_value, noting_built, noting_same, with_items}

module _ (form : Form) (n m deep up : ℕ) (s : List ℕ) where
  abbrev one_item : Part (Item ℕ)
  one_item = item_at format form n m s (branching_at format form n m s deep)

  abbrev pub sequence_whole : (start before : ℕ) → List ℕ → Got (Met (List ℕ))
  sequence_whole start before t = noting_met (sequence_noted form up before start t) (sequence_at format form n m s (branching_at format form n m s deep) start before)

  -- The rest of a sequence whose first item is `first`.
  abbrev pub sequence_rest : (first p met : ℕ) → List ℕ → ℕ → Got (Met (List ℕ))
  sequence_rest first p met t left = noting_met (rest_noted form up first met p t) (items_at format form n m s one_item left p met)

  module _ (start before : ℕ) (t : List ℕ) (count : Numbered) (read : numbered count ≡ (two_bytes_at s start)) where
    pub sequence_fault : (why : Fault) (u : List ℕ) → count ≡ Err why → outcome_met (Err why) u ≡ sequence_whole start before t
    unfolding sequence_at next noting_met outcome_met
    sequence_fault why u is = rw (was_stopped (two_bytes_at s start) count why read is)

    sequence_opened : (c q : ℕ) → two_bytes_at s start ≡ got c q → start + 2 ≡ q → sequence_whole start before t ≡ sequence_rest before q before t c
    unfolding sequence_at next sequence_noted noting_met
    sequence_opened c q given place = rw (given, place) refl

    pub sequence_starts : (c q : ℕ) → before ≤ format.items → count ≡ Ok (c, q) → Going s (sequence_whole start before t) (sequence_rest before q before t c) q before
    sequence_starts c q h is =
        let given = was_read (two_bytes_at s start) count c q read is in
        let two = (two_bytes_through s start).holds c q given in
        record { same = sequence_opened c q given (sym two.after); inside = two.inside; most = h }

    pub sequence_begins : (c q : ℕ) → before ≤ format.items → count ≡ Ok (c, q) → Going s (sequence_whole start before t) (sequence_rest before q before t (c - 0)) q before
    sequence_begins c q h is = let same : c - 0 ≡ c = omega arith in rw same (sequence_starts c q h is)

  -- What follows an item is known by how many are left.
  followed : (left e more k : ℕ) (x : Met (Sequence ℕ)) (q : ℕ) → items_at format form n m s one_item left e more ≡ got x q → following up k x.value ≡ number_after (suc left) k up
  unfolding items_at following
  followed zero e more k x q is = subst (λ (y : Met (Sequence ℕ)). following up k y.value ≡ number_after 1 k up) (got_same is) (after_last 1 k up refl)
  followed (suc left) e more k x q is =
      after_got (one_item e more) _ is λ i r _ is'.
      after_got (items_at format form n m s one_item left r i.items) _ is' λ rest z _ is''.
      subst (λ (y : Met (Sequence ℕ)). following up k y.value ≡ number_after (suc (suc left)) k up) (got_same is'') (after_other (suc (suc left)) k up (λ g. omega arith))

  -- One item, and the rest from where it ends.
  items_step : (first p met : ℕ) (t : List ℕ) (left more e : ℕ) (v : List ℕ) (i : Item ℕ) → one_item p met ≡ got (with_items i more) e
      → v ≡ set (item_noted form met t i) (item_next + met) (number_after (suc left) more up) → sequence_rest first p met t (suc left) ≡ sequence_rest first e more v left
  unfolding items_at next rest_noted item_noted
  items_step first p met t left more e v i given noted =
      let read = (item_read form n m s deep p met).holds (with_items i more) e given in
      let counted : met + items_in i ≡ more = sym read.sized.counted in
      let end : p + bytes_in form i ≡ e = sym read.sized.through.after in
      rw given (noting_built (rest_noted form up first met p t) (item i) (items_at format form n m s one_item left e more)
      ∙ noting_same (λ rest. rest_noted form up first met p t (item i rest)) (rest_noted form up first more e v) (items_at format form n m s one_item left e more)
      (λ x q is. rw (counted, end, noted, followed left e more more x q is) refl))

  module _ (whole : Got (Met (List ℕ))) (first p met : ℕ) (t : List ℕ) where
    pub items_done : (left : ℕ) (u : List ℕ) → Going s whole (sequence_rest first p met t left) p met → left ≤ 0 → u ≡ branch_noted first met p t → outcome_met (Ok (met, p)) u ≡ whole
    unfolding items_at noting_met next outcome_met rest_noted
    items_done zero u w h noted = rw noted (sym w.same)
    items_done (suc left) u w h noted = absurd (omega arith)

    module _ (r : Numbered) (u : List ℕ) (read : outcome_met r u ≡ noting_met (item_noted form met t) (one_item p met)) where
      pub items_fault : (left : ℕ) (why : Fault) (v : List ℕ) → Going s whole (sequence_rest first p met t left) p met → 0 < left → r ≡ Err why → outcome_met (Err why) v ≡ whole
      unfolding items_at next noting_met outcome_met
      items_fault zero why v w h is = absurd (omega arith)
      items_fault (suc left) why v w h is =
          let given : one_item p met ≡ stopped why = fault_met (item_noted form met t) (one_item p met) why (met_fault (item_noted form met t) (one_item p met) r u why read is) in
          sym (w.same ∙ rw given refl)

      pub items_next : (left more e : ℕ) (v : List ℕ) → Going s whole (sequence_rest first p met t left) p met → 0 < left → r ≡ Ok (more, e)
          → v ≡ set u (item_next + met) (number_after left more up) → Going s whole (sequence_rest first e more v (left - 1)) e more
      items_next zero more e v w h is noted = absurd (omega arith)
      items_next (suc left) more e v w h is noted =
          let g = met_value (item_noted form met t) (one_item p met) r u more e read is in
          let k = (item_read form n m s deep p met).holds (with_items g.0 more) e g.1 in
          record {
            same = w.same ∙ rw sub-one (items_step first p met t left more e v g.0 g.1 (noted ∙ ap (λ (z : List ℕ). set z (item_next + met) (number_after (suc left) more up)) g.2));
            inside = k.sized.through.inside;
            most = k.sized.most;
          }

  -- The same by the number of the item in its sequence.
  module _ (whole : Got (Met (List ℕ))) (first p met : ℕ) (t : List ℕ) (count i : ℕ) (w : Going s whole (sequence_rest first p met t (count - i)) p met) where
    pub items_over : (u : List ℕ) → count ≤ i → u ≡ branch_noted first met p t → outcome_met (Ok (met, p)) u ≡ whole
    items_over u h noted = items_done whole first p met t (count - i) u w (omega arith) noted

    module _ (r : Numbered) (u : List ℕ) (read : outcome_met r u ≡ noting_met (item_noted form met t) (one_item p met)) (h : i < count) where
      pub items_stopped : (why : Fault) (v : List ℕ) → r ≡ Err why → outcome_met (Err why) v ≡ whole
      items_stopped why v is = items_fault whole first p met t r u read (count - i) why v w (omega arith) is

      pub items_onward : (more e : ℕ) (v : List ℕ) → r ≡ Ok (more, e) → v ≡ set u (item_next + met) (number_after (count - i) more up)
          → Going s whole (sequence_rest first e more v (count - (i + 1))) e more
      items_onward more e v is noted =
          subst (λ (left : ℕ). Going s whole (sequence_rest first e more v left) e more) {x = count - i - 1} {y = count - (i + 1)} (omega arith)
          (items_next whole first p met t r u read (count - i) more e v w (omega arith) is noted)

  module _ (p met : ℕ) (t : List ℕ) (r : Numbered) (u : List ℕ) (more e : ℕ) (read : outcome_met r u ≡ noting_met (item_noted form met t) (one_item p met)) (is : r ≡ Ok (more, e)) where
    item_was_read : (i : Item ℕ) × ItemRead form s p met i more e
    item_was_read = let g = met_value (item_noted form met t) (one_item p met) r u more e read is in (g.0, (item_read form n m s deep p met).holds (with_items g.0 more) e g.1)

    pub item_was_below : met < format.items
    item_was_below = item_was_read.1.below

    pub item_most : more ≤ format.items
    item_most = item_was_read.1.sized.most

-- THE PLAN.
pub plan_whole : (form : Form) (n m : ℕ) (s : List ℕ) (start : ℕ) (t : List ℕ) (r : Numbered) (u : List ℕ)
    → outcome_met r u ≡ noting_met (sequence_noted form format.items 0 start t) (sequence_at format form n m s (branching_at format form n m s 8) start 0)
    → outcome_met r u ≡ noting_met (plan_noted form start t) (plan_at format form n m s start)
unfolding plan_noted plan_at
plan_whole form n m s start t r u e = e

-- Branches and branchings: a law for each way that a reader returns, and how the loop over the branches goes on. Assumes nothing.
use Prim.Native.Nat.{ℕ, zero, suc, ◌+◌, ◌-◌, ◌≤◌, ◌<◌}
use native.Mathlib.Omega.{arith}
use native.Mathlib.Numerals.{sub-one}
use mathlib.Core.Path.{◌≡◌, refl, sym, ◌∙◌, ap, subst}
use mathlib.Core.List.{List}
use lib.ListN.{length}
use Rattle.std.specs.Prelude.{Ok, Err}
use Rattle.parsing.specs.declared.faults.Fault.{Fault}
use Rattle.parsing.specs.declared.faults.Refusal.TheVariants.{NestedTooDeep}
use Rattle.meaning.specs.Limits.{format}
use Rattle.meaning.specs.Requests.{Sequence, branching, Branches, branch}
use Rattle.meaning.specs.declared.Form.{Form}
use Rattle.meaning.specs.Reading.{Got, got, fault, next, Met, Part, count_at, body_at, sequence_at, branches_at, branching_at}
use Rattle.meaning.proofs.SettledLaws.{next_got}
use Rattle.parsing.specs.Read.{Numbered, Passed, numbered, over, stopped, passed}
use Rattle.reading.specs.Listed.{span}
use Rattle.reading.specs.Planned.{items_of, bytes_of, inside_noted, branches_noted, sequence_noted, noting_met, outcome_met, branch_noting}
use Rattle.parsing.proofs.ByteLaws.{was_read, was_stopped}
use Rattle.parsing.proofs.ListLaws.{passed_to, passed_stop}
use Rattle.reading.proofs.PlanSizes.{count_through, body_through, sequence_read}
use Rattle.reading.proofs.NotingLaws.{Going, fault_met, met_value, noting_built, with_items}
use Rattle.reading.proofs.SectionLaws.{fault_turned}
use Rattle.reading.specs.Noted.{around_from}

-- BRANCHES.
module _ (form : Form) (n m deep up : ℕ) (s : List ℕ) (p met : ℕ) (t : List ℕ) (body : Passed) (read : over body ≡ passed (body_at format form n s p)) where
  pub branch_fault : (why : Fault) (u : List ℕ) → body ≡ Err why → outcome_met (Err why) u ≡ branch_noting form n m deep up s p met t
  unfolding branch_noting next outcome_met
  branch_fault why u is = rw (passed_stop (body_at format form n s p) why (sym read ∙ ap over is))

  pub branch_whole : (q : ℕ) (r : Numbered) (u : List ℕ) → body ≡ Ok q
      → outcome_met r u ≡ noting_met (sequence_noted form up met q t) (sequence_at format form n m s (branching_at format form n m s deep) q met) → outcome_met r u ≡ branch_noting form n m deep up s p met t
  unfolding branch_noting next
  branch_whole q r u is e = rw (passed_to (body_at format form n s p) q (sym read ∙ ap over is)).1 e

-- BRANCHINGS.
pub branching_none : (form : Form) (n m deep : ℕ) (s : List ℕ) (start i : ℕ) (t u : List ℕ) → deep ≡ 0
    → (why : Fault) → why ≡ record { refusal = NestedTooDeep; place = start } → outcome_met (Err why) u ≡ noting_met (inside_noted form i t) (branching_at format form n m s deep start (i + 1))
unfolding branching_at noting_met next outcome_met
branching_none form n m deep s start i t u e why is = rw (e, is)

module _ (form : Form) (n m deep : ℕ) (s : List ℕ) (start i : ℕ) (t : List ℕ) where
  abbrev pub branching_whole : Got (Met (List ℕ))
  branching_whole = noting_met (inside_noted form i t) (branching_at format form n m s deep start (i + 1))

  abbrev pub branching_rest : (left p met : ℕ) → List ℕ → Got (Met (List ℕ))
  branching_rest left p met u =
      noting_met (branches_noted form (around_from + i) met p u) (branches_at format form n m s (sequence_at format form n m s (branching_at format form n m s (deep - 1))) left p met)

module _ (form : Form) (n m : ℕ) (s : List ℕ) (start i : ℕ) (t : List ℕ) (count : Numbered) (read : numbered count ≡ (count_at 1 8 s (start + 1))) where
  pub branching_fault : (deep : ℕ) (why : Fault) (u : List ℕ) → (deep ≡ 0 → ⊥) → count ≡ Err why → outcome_met (Err why) u ≡ noting_met (inside_noted form i t) (branching_at format form n m s deep start (i + 1))
  unfolding branching_at noting_met next outcome_met
  branching_fault zero why u h is = absurd (h refl)
  branching_fault (suc deep) why u h is = rw (was_stopped (count_at 1 8 s (start + 1)) count why read is)

  branching_opened : (deep c q : ℕ) → count_at 1 8 s (start + 1) ≡ got c q → start + 2 ≡ q
      → branching_whole form n m (suc deep) s start i t ≡ branching_rest form n m (suc deep) s start i t c q (i + 1) t
  unfolding branching_at next inside_noted
  branching_opened deep c q given place =
      rw (given, sub-one) (noting_built (inside_noted form i t) (branching start) (branches_at format form n m s (sequence_at format form n m s (branching_at format form n m s deep)) c q (i + 1))
      ∙ ap (λ (r : ℕ). noting_met (branches_noted form (around_from + i) (i + 1) r t) (branches_at format form n m s (sequence_at format form n m s (branching_at format form n m s deep)) c q (i + 1))) place)

  pub branching_starts : (deep c q : ℕ) → (deep ≡ 0 → ⊥) → i < format.items → count ≡ Ok (c, q)
      → Going s (branching_whole form n m deep s start i t) (branching_rest form n m deep s start i t c q (i + 1) t) q (i + 1)
  branching_starts zero c q h k is = absurd (h refl)
  branching_starts (suc deep) c q h k is =
      let given = was_read (count_at 1 8 s (start + 1)) count c q read is in
      let one = (count_through s 1 8 (start + 1)).holds c q given in
      let a = one.after in
      record { same = branching_opened deep c q given (omega arith); inside = one.inside; most = omega arith }

  pub branching_begins : (deep c q : ℕ) → (deep ≡ 0 → ⊥) → i < format.items → count ≡ Ok (c, q)
      → Going s (branching_whole form n m deep s start i t) (branching_rest form n m deep s start i t (c - 0) q (i + 1) t) q (i + 1)
  branching_begins deep c q h k is = let same : c - 0 ≡ c = omega arith in rw same (branching_starts deep c q h k is)

-- What a branch that was read, or not, says of its parts.
branch_stops : (b : Got (List ℕ)) (seq : ℕ → Got (Met (Sequence ℕ))) (note : ℕ → Sequence ℕ → List ℕ) (build : List ℕ → Met (Sequence ℕ) → ℕ → Got (Met (Branches ℕ))) (why : Fault)
    → next b (λ c q. noting_met (note q) (seq q)) ≡ stopped why → next b (λ c q. next (seq q) (build c)) ≡ stopped why
unfolding next
branch_stops (got c q) seq note build why is = rw (fault_met (note q) (seq q) why is)
branch_stops (fault j q) seq note build why is = fault_turned is

branch_goes : (b : Got (List ℕ)) (seq : ℕ → Got (Met (Sequence ℕ))) (note : ℕ → Sequence ℕ → List ℕ) (u : List ℕ) (more e : ℕ)
    → next b (λ c q. noting_met (note q) (seq q)) ≡ got (with_items u more) e
    → (c : List ℕ) × (q : ℕ) × (x : Sequence ℕ) × (b ≡ got c q) × (seq q ≡ got (with_items x more) e) × (u ≡ note q x)
unfolding outcome_met
branch_goes b seq note u more e is =
    let w = next_got b _ is in
    let v = met_value (note w.1) (seq w.1) (Ok (more, e)) u more e (sym w.3) refl in
    (w.0, w.1, v.0, w.2, v.1, v.2)

-- The loop over the branches, where `deep` branchings may stand in each.
module _ (form : Form) (n m deep up : ℕ) (s : List ℕ) (whole : Got (Met (List ℕ))) where
  abbrev one_sequence : Part (Sequence ℕ)
  one_sequence = sequence_at format form n m s (branching_at format form n m s deep)

  abbrev branches_left : (p met : ℕ) → List ℕ → ℕ → Got (Met (List ℕ))
  branches_left p met t left = noting_met (branches_noted form up met p t) (branches_at format form n m s one_sequence left p met)

  pub branches_done : (p met : ℕ) (t : List ℕ) (left : ℕ) → Going s whole (branches_left p met t left) p met → left ≤ 0 → outcome_met (Ok (met, p)) t ≡ whole
  unfolding branches_at noting_met next outcome_met branches_noted
  branches_done p met t zero w h = sym w.same
  branches_done p met t (suc left) w h = absurd (omega arith)

  pub branches_fault : (p met : ℕ) (t : List ℕ) (left : ℕ) (why : Fault) (r : Numbered) (u v : List ℕ) → Going s whole (branches_left p met t left) p met → 0 < left
      → outcome_met r u ≡ branch_noting form n m deep up s p met t → r ≡ Err why → outcome_met (Err why) v ≡ whole
  unfolding branches_at branch_noting noting_met next outcome_met
  branches_fault p met t zero why r u v w h is f = absurd (omega arith)
  branches_fault p met t (suc left) why r u v w h is f =
      let fails : branch_noting form n m deep up s p met t ≡ stopped why = rw f at (sym is) in
      sym (w.same ∙ ap (noting_met (branches_noted form up met p t)) (branch_stops (body_at format form n s p) (λ q. one_sequence q met) (λ q. sequence_noted form up met q t) _ why fails))

  -- One branch, and the rest from where it ends.
  branches_step : (p met : ℕ) (t : List ℕ) (left more e : ℕ) (u c : List ℕ) (q : ℕ) (x : Sequence ℕ) → met ≤ format.items
      → body_at format form n s p ≡ got c q → one_sequence q met ≡ got (with_items x more) e → u ≡ sequence_noted form up met q t x
      → branches_left p met t (suc left) ≡ branches_left e more u left
  unfolding branches_at next branches_noted sequence_noted
  branches_step p met t left more e u c q x most condition sequence noted =
      let a = ((body_through s form n p).holds c q condition).after in
      let b = (sequence_read form n m s deep q met most).holds (with_items x more) e sequence in
      let d = b.through.after in
      let counted : met + items_of x ≡ more = sym b.counted in
      let middle : p + (1 + span form (length c)) ≡ q = sym a in
      let end : p + (1 + span form (length c)) + (2 + bytes_of form x) ≡ e = omega arith in
      rw (condition, sequence) (noting_built (branches_noted form up met p t) (branch c x) (branches_at format form n m s one_sequence left e more)
      ∙ rw (counted, end, middle, noted) refl)

  pub branches_next : (p met : ℕ) (t : List ℕ) (left more e : ℕ) (r : Numbered) (u : List ℕ) → Going s whole (branches_left p met t left) p met → 0 < left
      → outcome_met r u ≡ branch_noting form n m deep up s p met t → r ≡ Ok (more, e) → Going s whole (branches_left e more u (left - 1)) e more
  unfolding branch_noting outcome_met
  branches_next p met t zero more e r u w h is f = absurd (omega arith)
  branches_next p met t (suc left) more e r u w h is f =
      let goes : branch_noting form n m deep up s p met t ≡ got (with_items u more) e = rw f at (sym is) in
      let b = branch_goes (body_at format form n s p) (λ q. one_sequence q met) (λ q. sequence_noted form up met q t) u more e goes in
      let k = (sequence_read form n m s deep b.1 met w.most).holds (with_items b.2 more) e b.4 in
      record { same = w.same ∙ rw sub-one (branches_step p met t left more e u b.0 b.1 b.2 w.most b.3 b.4 b.5); inside = k.through.inside; most = k.most }

  -- The same by the number of the branch.
  pub branches_over : (p met : ℕ) (t : List ℕ) (count i : ℕ) → Going s whole (branches_left p met t (count - i)) p met → count ≤ i → outcome_met (Ok (met, p)) t ≡ whole
  branches_over p met t count i w h = branches_done p met t (count - i) w (omega arith)

  pub branches_stopped : (p met : ℕ) (t : List ℕ) (count i : ℕ) (why : Fault) (r : Numbered) (u v : List ℕ) → Going s whole (branches_left p met t (count - i)) p met → i < count
      → outcome_met r u ≡ branch_noting form n m deep up s p met t → r ≡ Err why → outcome_met (Err why) v ≡ whole
  branches_stopped p met t count i why r u v w h is f = branches_fault p met t (count - i) why r u v w (omega arith) is f

  pub branches_onward : (p met : ℕ) (t : List ℕ) (count i more e : ℕ) (r : Numbered) (u : List ℕ) → Going s whole (branches_left p met t (count - i)) p met → i < count
      → outcome_met r u ≡ branch_noting form n m deep up s p met t → r ≡ Ok (more, e) → Going s whole (branches_left e more u (count - (i + 1))) e more
  branches_onward p met t count i more e r u w h is f =
      subst (λ (left : ℕ). Going s whole (branches_left e more u left) e more) {x = count - i - 1} {y = count - (i + 1)} (omega arith) (branches_next p met t (count - i) more e r u w (omega arith) is f)

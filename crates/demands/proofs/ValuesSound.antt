-- Demand 3 of the values call (FORMAT 26.34): answer 0 is given only to a settled request whose walk is verified (`VerifiedLaws`), whose conditions 18 has kept
-- apart, and such a request is carried out (`ValueSound`). A world's move is single-valued where 16 has passed. Assumes nothing.
use Prim.Native.Nat.{ℕ, ◌≤◌}
use native.Mathlib.Omega.{arith}
use mathlib.Core.Path.{◌≡◌, refl, sym, ◌∙◌, ap, subst}
use mathlib.Core.Bool.{true, false}
use mathlib.Core.List.{List, []}
use mathlib.Core.Logic.{inl}
use lib.ListN.{length}
use lib.Dec.{eqb}
use borrow.Author.Tests.{eqb-true, eq-eqb}
use Rattle.meaning.specs.declared.Form.TheVariants.{Valued}
use Rattle.meaning.specs.Tests.{either, fails, some_of, Has}
use Rattle.meaning.specs.Limits
use Rattle.meaning.specs.Limits.{Limits}
use Rattle.meaning.specs.Literals.{among}
use Rattle.meaning.specs.Requests.{Effect, Executability, Table, Request}
use Rattle.meaning.specs.Reading.{got, literals_in, read_request}
use Rattle.meaning.specs.Refusals.{nowhere, first_against, mixed_in, failing_in}
use Rattle.meaning.specs.Lines.{effects_of, executability_of}
use Rattle.meaning.specs.Walk.{Verified}
use Rattle.meaning.specs.Values.{Literals, values_of, set_by, fits, disagree, exclusive, clashing, runs_with, contradictory, all_exclusive}
use Rattle.meaning.specs.ValueWorlds.{World, Within, holds, may_be_run, CarriedOut}
use Rattle.meaning.specs.Valued.{settled_values, walk_of, judge_values, number, count}
use Rattle.meaning.specs.Answers.{refusals, values_refusals}
use Rattle.meaning.proofs.TestLaws.{by-test, clash, same_test, both_left, both_right, both_true, fails_true, fails_false, some_has, has_some, some_mono}
use Rattle.meaning.proofs.RefusalLaws.{none_against}
use Rattle.meaning.proofs.SettledLaws.{got_same, refuse_got, next_got, none_failing}
use Rattle.meaning.proofs.VerifiedLaws.{VerifiedBy, verified_past, by_verified}
use Rattle.meaning.proofs.ValueSound
use Rattle.meaning.proofs.ValuePlaces.{values_settled_numbered}
use Rattle.meaning.proofs.ValueAnswers.{walked_values_never}

-- What a settled values request has passed.
pub record SettledValues (lim : Limits) (b : List ℕ) (r : Request) (e : ℕ) : Type 0 where
  pub reads : read_request lim Valued b ≡ got r e
  pub no_contradiction : first_against (contradictory (literals_in b) r.table) [] r.table.effects ≡ nowhere
  pub not_mixed : mixed_in r.table.effects r.table.knowledge ≡ nowhere
  pub no_overlap : failing_in (all_exclusive (literals_in b)) r.plan ≡ nowhere

pub values_settled_is : (lim : Limits) (b : List ℕ) (r : Request) (e : ℕ) → settled_values lim b ≡ got r e → SettledValues lim b r e
unfolding settled_values
values_settled_is lim b r e past =
    let n = next_got (read_request lim Valued b) _ past in
    let u = refuse_got _ _ _ n.3 in
    let v = refuse_got _ _ _ u.1 in
    let w = refuse_got _ _ _ v.1 in
    let same : n.0 ≡ r = got_same w.1 in
    record {
      reads = n.2 ∙ w.1;
      no_contradiction = rw same at u.0;
      not_mixed = rw same at v.0;
      no_overlap = rw same at w.0;
    }

-- EXCLUSIVE and CONTRADICTORY go both ways, over any structure of literals.
module _ (ls : Literals ℕ) where
  disagree_turns : (b c : List ℕ) (f : ℕ) → disagree ls b c f ≡ true → disagree ls c b f ≡ true
  unfolding disagree
  disagree_turns b c f h =
      fails_false _
      (by-test _
      (λ t. clash (some_mono _ _ (λ v k. both_true _ _ (both_right (fits ls c f v) (fits ls b f v) k) (both_left (fits ls c f v) (fits ls b f v) k)) (values_of ls f) t) (fails_true _ h))
      (λ u. u))

  exclusive_turns : (b c : List ℕ) → exclusive ls b c ≡ true → exclusive ls c b ≡ true
  unfolding exclusive
  exclusive_turns b c h =
      let t = some_has _ b h in
      let k = some_has _ c (both_left _ _ t.2) in
      let same : ls.fluent k.0 ≡ ls.fluent t.0 = eqb-true _ _ k.2 in
      has_some _ c k.0 k.1
      (both_true _ _ (has_some _ b t.0 t.1 (eq-eqb _ _ (sym same)))
      (subst (λ (f : ℕ). disagree ls c b f ≡ true) (sym same) (disagree_turns b c (ls.fluent t.0) (both_right _ _ t.2))))

  exclusive_sym : (b c : List ℕ) → exclusive ls b c ≡ exclusive ls c b
  exclusive_sym b c = same_test _ _ (exclusive_turns b c) (exclusive_turns c b)

  module _ (t : Table) where
    contradicts_itself : (e : Effect) → contradictory ls t e e ≡ false
    unfolding contradictory clashing
    contradicts_itself e =
        by-test _ (λ h. clash (eq-eqb (ls.sets e.literal) _ refl) (fails_true _ (both_right _ _ (both_left _ _ (both_right _ _ (both_left _ _ h)))))) (λ f. f)

    contradictory_turns : (e g : Effect) → contradictory ls t e g ≡ true → contradictory ls t g e ≡ true
    unfolding contradictory clashing runs_with
    contradictory_turns e g h =
        let c = both_left _ _ h in
        let a : e.action ≡ g.action = eqb-true _ _ (both_left _ _ c) in
        let l = both_left _ _ (both_right _ _ c) in
        let f : ls.fluent g.literal ≡ ls.fluent e.literal = eqb-true _ _ (both_left _ _ l) in
        both_true _ _
        (both_true _ _ (eq-eqb _ _ (sym a))
        (both_true _ _ (both_true _ _ (eq-eqb _ _ (sym f)) (fails_false _ (by-test _ (λ s. clash (eq-eqb (ls.sets e.literal) (ls.sets g.literal) (sym (eqb-true (ls.sets g.literal) (ls.sets e.literal) s))) (fails_true _ (both_right _ _ l))) (λ u. u))))
        (ap fails (exclusive_sym g.body e.body) ∙ both_right _ _ (both_right _ _ c))))
        (subst (λ (i : ℕ). runs_with ls t i g.body e.body ≡ true) a
        (some_mono _ _ (λ (x : Executability) k. both_true _ _ (both_right (fails (exclusive ls e.body x.body)) _ k) (both_left _ (fails (exclusive ls g.body x.body)) k)) (executability_of t e.action) (both_right _ _ h)))

    contradictory_sym : (e g : Effect) → contradictory ls t e g ≡ contradictory ls t g e
    contradictory_sym e g = same_test _ _ (contradictory_turns e g) (contradictory_turns g e)

    -- Where 16 has passed, no two effects are contradictory.
    pub values_past_16 : first_against (contradictory ls t) [] t.effects ≡ nowhere → (e g : Effect) → Has t.effects e → Has t.effects g → contradictory ls t e g ≡ false
    values_past_16 q e g he hg = none_against (contradictory ls t) contradicts_itself contradictory_sym [] t.effects q e g he (inl hg)

module _ (lim : Limits) (request lent : List ℕ) (budget : ℕ) where
  -- Answer 0 is given to a settled request whose walk is verified, and to every such request within its budget.
  pub values_verified : number lim request lent budget ≡ Limits.verified → VerifiedBy (walk_of lim request) lim (settled_values lim request) lent budget (judge_values lim request lent budget)
  unfolding judge_values walk_of among values_refusals refusals some_of either
  values_verified =
      verified_past (walk_of lim request) lim lent budget values_refusals refl (λ r. walked_values_never (literals_in request) r Limits.verified (λ z. omega arith) _)
      (settled_values lim request) (values_settled_numbered lim request)

  pub verified_values : length lent ≡ lim.state → (r : Request) (e : ℕ) → settled_values lim request ≡ got r e → Verified (walk_of lim request r) → count lim request r ≤ budget
      → (number lim request lent budget ≡ Limits.verified) × ((judge_values lim request lent budget).answer.count ≡ count lim request r)
  unfolding judge_values
  verified_values sized = by_verified (walk_of lim request) lim lent budget sized (settled_values lim request)

  -- DEMAND 3: it is carried out in every world that gives each fluent one of its values and has the initial facts.
  pub values_sound : number lim request lent budget ≡ Limits.verified → (r : Request) × (e : ℕ) × (settled_values lim request ≡ got r e) × CarriedOut (literals_in request) r
  unfolding walk_of
  values_sound q =
      let v = values_verified q in
      let passed = values_settled_is lim request v.says v.end v.settles in
      (v.says, v.end, v.settles, ValueSound.walk_sound (literals_in request) lim v.says (none_failing (all_exclusive (literals_in request)) v.says.plan passed.no_overlap) v.fine)

-- 16 keeps moves single-valued: where the action may be run, no effects whose bodies hold set two values of one fluent.
pub values_move_single : (lim : Limits) (b : List ℕ) (r : Request) (e : ℕ) → settled_values lim b ≡ got r e → (a : ℕ) (w : World) → Within (literals_in b) w
    → may_be_run (literals_in b) r.table a w ≡ true → (f v : ℕ)
    → set_by (literals_in b) (holds (literals_in b) w) (eqb v) (effects_of r.table a) f ≡ true
    → set_by (literals_in b) (holds (literals_in b) w) (λ u. fails (eqb v u)) (effects_of r.table a) f ≡ true → ⊥
values_move_single lim b r e past =
    ValueSound.move_is_single_valued (literals_in b) r.table (values_past_16 (literals_in b) r.table (values_settled_is lim b r e past).no_contradiction)

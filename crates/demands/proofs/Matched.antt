-- The values call and the walk call agree where every fluent has two values (FORMAT 26.27, 26.28): literals that match are satisfied by the same values and set the same, so matching
-- requests are refused and walked alike (`MatchedWalk`), and the plain definitions are those of the instance with two values (`TwoValues`). That no list names a fluent twice is
-- not asked: no list that was read of the plain request does, and so it follows. Assumes nothing.
use Prim.Native.Nat.{ℕ, ◌+◌, ◌*◌, ◌/◌, ◌%◌, ◌<◌}
use native.Mathlib.Omega.{arith}
use native.Mathlib.Decide.{ℕ_discrete}
use mathlib.Core.Path.{◌≡◌, refl, sym, ◌∙◌, ap, subst, fun_ext}
use mathlib.Core.Bool.{Bool, true, false}
use mathlib.Core.List.{List, []}
use mathlib.Core.Logic.{◌⊎◌, inl, inr, ⊎_elim}
use lib.ListN.{length}
use lib.Dec.{eqb, ltb}
use borrow.Author.Tests.{eq-eqb, ne_eqb}
use Rattle.meaning.specs.declared.Form.TheVariants.{Flags, Valued}
use Rattle.meaning.specs.Tests.{fails, pick}
use Rattle.meaning.specs.Limits
use Rattle.meaning.specs.Limits.{Limits}
use Rattle.meaning.specs.Literals.{fluent_of, positive}
use Rattle.meaning.specs.Requests.{Effect, Request}
use Rattle.meaning.specs.Reading.{Got, got, fault, next, values_in, literals_in, read_request}
use Rattle.meaning.specs.Refusals.{Found, nowhere, at, refuse, first_against, contradiction_in, mixed_in, overlap_in, failing_in, settled}
use Rattle.meaning.specs.States.{State}
use Rattle.meaning.specs.Walk.{End, fine, missed, stopped, Walked}
use Rattle.meaning.specs.Judging
use Rattle.meaning.specs.Judging.{Judgement, reported, ended, within, judge_got, judge}
use Rattle.meaning.specs.Values
use Rattle.meaning.specs.Values.{Literals, flags}
use Rattle.meaning.specs.ValueStates
use Rattle.meaning.specs.Valued.{settled_values, walk_of, judge_values}
use Rattle.demands.specs.Matching.{is_value, is_not_value, SameLiteral, SameSetting, Matches, placeless}
use Rattle.meaning.proofs.TestLaws.{pick_true, pick_false, pick_map}
use Rattle.meaning.proofs.LiteralLaws.{positive_true, positive_false, fluent_true, fluent_false}
use Rattle.meaning.proofs.RefusalLaws.{at≢nowhere, unplaced_found}
use Rattle.meaning.proofs.RangeLaws.{read_ranged}
use Rattle.meaning.proofs.WalkLaws.{unplaced_end, unplaced_walk}
use Rattle.meaning.proofs.TwoValues.{sets_true, sets_false, same_walked, same_contradictory, same_all_exclusive, same_first_state}
use Rattle.demands.proofs.MatchedStates.{Agreeing, first_state_same}
use Rattle.demands.proofs.MatchedWalk.{walked_alike, contradiction_alike, mixed_alike, overlap_alike}

-- LITERALS of two bytes, by their fluent and their second byte.
module _ (f b : ℕ) (byte : b < 256) where
  fluent_there : (f * 256 + b) / 256 ≡ f
  fluent_there = omega (arith, byte)

  second_there : (f * 256 + b) % 256 ≡ b
  second_there = omega (arith, byte)

  sets_there : (v : ℕ) → b / 2 ≡ v → (f * 256 + b) % 256 / 2 ≡ v
  sets_there v q = ap (λ (n : ℕ). n / 2) second_there ∙ q

even_byte : (f v : ℕ) → positive (is_value f v) ≡ true
unfolding positive
even_byte f v = eq-eqb ((f * 256 + 2 * v) % 2) 0 (omega arith)

odd_byte : (f v : ℕ) → positive (is_not_value f v) ≡ false
unfolding positive
odd_byte f v = ne_eqb ((f * 256 + (2 * v + 1)) % 2) 0 (λ (q : (f * 256 + (2 * v + 1)) % 2 ≡ 0). omega arith)

module _ (counts : ℕ → ℕ) where
  abbrev ls : Literals ℕ
  ls = Values.valued counts

  says_is : (f v u : ℕ) → v < 2 → ls.satisfied (is_value f v) u ≡ eqb u v
  says_is f v u small = pick_true _ _ _ (even_byte f v) ∙ ap (eqb u) (sets_there f (2 * v) (omega (arith, small)) v (omega arith))

  says_not : (f v u : ℕ) → v < 2 → ls.satisfied (is_not_value f v) u ≡ fails (eqb u v)
  says_not f v u small = pick_false _ _ _ (odd_byte f v) ∙ ap (λ (n : ℕ). fails (eqb u n)) (sets_there f (2 * v + 1) (omega (arith, small)) v (omega arith))

-- Of two values, what is not the one is the other.
either_value : (u : ℕ) → u < 2 → (u ≡ 0) ⊎ (u ≡ 1)
either_value u small = elim (ℕ_discrete u 0) [ yes q ↦ inl q | no other ↦ inr (omega (arith, small, other)) ]

not_1 : (u : ℕ) → u < 2 → fails (eqb u 1) ≡ eqb u 0
unfolding fails
not_1 u small = ⊎_elim (λ q. rw q) (λ q. rw q) (either_value u small)

is_1 : (u : ℕ) → u < 2 → eqb u 1 ≡ fails (eqb u 0)
unfolding fails
is_1 u small = ⊎_elim (λ q. rw q) (λ q. rw q) (either_value u small)

-- Where every fluent has two values, the literals of a values request and the format's agree.
pub two_agree : (counts : ℕ → ℕ) → ((f : ℕ) → counts f ≡ 2) → Agreeing (Values.valued counts) flags SameLiteral SameSetting
two_agree counts two = record {
  counts = two;
  fluents = λ l m h.
      let f = h.0 in
      ⊎_elim
      (λ t. ⊎_elim (λ q. ap (λ (n : ℕ). n / 256) q ∙ is_fluent f 0 (omega arith)) (λ q. ap (λ (n : ℕ). n / 256) q ∙ not_fluent f 1 (omega arith)) t.1 ∙ sym (ap fluent_of t.0 ∙ fluent_true f))
      (λ t. ⊎_elim (λ q. ap (λ (n : ℕ). n / 256) q ∙ is_fluent f 1 (omega arith)) (λ q. ap (λ (n : ℕ). n / 256) q ∙ not_fluent f 0 (omega arith)) t.1 ∙ sym (ap fluent_of t.0 ∙ fluent_false f))
      h.1;
  says = λ l m h v less.
      let f = h.0 in
      let small : v < 2 = subst (λ (n : ℕ). v < n) (two (l / 256)) less in
      let by : (n : ℕ) → l ≡ n → (Values.valued counts).satisfied l v ≡ (Values.valued counts).satisfied n v = λ n q. ap (λ (k : ℕ). (Values.valued counts).satisfied k v) q in
      ⊎_elim
      (λ t.
      ⊎_elim (λ q. by (is_value f 0) q ∙ says_is counts f 0 v (omega arith)) (λ q. by (is_not_value f 1) q ∙ says_not counts f 1 v (omega arith) ∙ not_1 v small) t.1
      ∙ sym (ap (λ (n : ℕ). flags.satisfied n v) t.0 ∙ pick_true _ _ _ (positive_true f)))
      (λ t.
      ⊎_elim (λ q. by (is_value f 1) q ∙ says_is counts f 1 v (omega arith) ∙ is_1 v small) (λ q. by (is_not_value f 0) q ∙ says_not counts f 0 v (omega arith)) t.1
      ∙ sym (ap (λ (n : ℕ). flags.satisfied n v) t.0 ∙ pick_false _ _ _ (positive_false f)))
      h.1;
  set_fluents = λ l m h.
      let f = h.0 in
      ⊎_elim
      (λ t. ap (λ (n : ℕ). n / 256) t.1 ∙ is_fluent f 0 (omega arith) ∙ sym (ap fluent_of t.0 ∙ fluent_true f))
      (λ t. ap (λ (n : ℕ). n / 256) t.1 ∙ is_fluent f 1 (omega arith) ∙ sym (ap fluent_of t.0 ∙ fluent_false f))
      h.1;
  sets = λ l m h.
      let f = h.0 in
      ⊎_elim
      (λ t. ap (λ (n : ℕ). n % 256 / 2) t.1 ∙ sets_there f (2 * 0) (omega arith) 0 refl ∙ sym (ap flags.sets t.0 ∙ sets_true f))
      (λ t. ap (λ (n : ℕ). n % 256 / 2) t.1 ∙ sets_there f (2 * 1) (omega arith) 1 refl ∙ sym (ap flags.sets t.0 ∙ sets_false f))
      h.1;
}
  where
    is_fluent : (f v : ℕ) → v < 2 → is_value f v / 256 ≡ f
    is_fluent f v small = fluent_there f (2 * v) (omega (arith, small))

    not_fluent : (f v : ℕ) → v < 2 → is_not_value f v / 256 ≡ f
    not_fluent f v small = fluent_there f (2 * v + 1) (omega (arith, small))

-- JUDGEMENTS without their places are those of walks without theirs.
ended_placeless : (lent : List ℕ) (c : ℕ) (e : End State) → placeless (ended lent c e) ≡ ended lent c (unplaced_end e)
unfolding placeless ended reported
ended_placeless lent c fine = refl
ended_placeless lent c (missed p s) = refl
ended_placeless lent c (stopped n p u) = refl

within_placeless : (lent : List ℕ) (budget : ℕ) (w : Walked State) → placeless (within lent budget w) ≡ within lent budget (unplaced_walk w)
unfolding within placeless
within_placeless lent budget w =
    pick_map placeless (ltb budget w.count) _ _
    ∙ ap (λ (j : Judgement). pick (ltb budget w.count) (λ _. record { answer = record { number = Limits.budget_spent; input = Limits.neither_input; place = 0; count = budget }; state = lent }) (λ _. j))
    (ended_placeless lent w.count w.end)

-- WHAT WAS READ of one request and of another: refused with one number, or walked alike.
module _ (walks others : Request → Walked State) where
  abbrev AlikeGot : Got Request → Got Request → Type 0
  AlikeGot (got x e) (got y i) = unplaced_walk (walks x) ≡ unplaced_walk (others y)
  AlikeGot (got x e) (fault m q) = ⊥
  AlikeGot (fault n p) (got y i) = ⊥
  AlikeGot (fault n p) (fault m q) = n ≡ m

  refused_alike : (n : ℕ) (f g : Found) (k j : Unit {0} → Got Request) → unplaced_found f ≡ unplaced_found g → AlikeGot (k tt) (j tt) → AlikeGot (refuse n f k) (refuse n g j)
  unfolding refuse
  refused_alike n nowhere nowhere k j q alike = alike
  refused_alike n nowhere (at p) k j q alike = absurd (at≢nowhere (sym q))
  refused_alike n (at p) nowhere k j q alike = absurd (at≢nowhere q)
  refused_alike n (at p) (at i) k j q alike = refl

  judged_alike : (lent : List ℕ) (budget : ℕ) (x y : Got Request) → AlikeGot x y → placeless (judge_got walks lent budget x) ≡ placeless (judge_got others lent budget y)
  unfolding judge_got placeless
  judged_alike lent budget (got x e) (got y i) alike = within_placeless lent budget (walks x) ∙ ap (within lent budget) alike ∙ sym (within_placeless lent budget (others y))
  judged_alike lent budget (got x e) (fault m q) alike = absurd alike
  judged_alike lent budget (fault n p) (got y i) alike = absurd alike
  judged_alike lent budget (fault n p) (fault m q) alike =
      ap (λ (k : ℕ). record { answer = record { number = k; input = Limits.the_request; place = 0; count = 0 }; state = lent }) alike

-- THE TWO CALLS.
module _ (lim : Limits) (s d : List ℕ) (x y : Request) (e i : ℕ) (reads : read_request lim Valued s ≡ got x e) (reads_plain : read_request lim Flags d ≡ got y i)
    (two : (f : ℕ) → values_in s f ≡ 2) (matches : Matches x y) where
  agree : Agreeing (literals_in s) flags SameLiteral SameSetting
  agree = two_agree (values_in s) two

  walks_alike : unplaced_walk (walk_of lim s x) ≡ unplaced_walk (Judging.walk_of lim y)
  unfolding walk_of
  walks_alike =
      walked_alike (literals_in s) flags SameLiteral SameSetting agree x y matches (ValueStates.first_state (literals_in s) lim x.table)
      ∙ ap (λ (u : State). unplaced_walk (ValueStates.walked flags y u)) (first_state_same (literals_in s) flags SameLiteral SameSetting agree lim x.table y.table matches.table.facts)
      ∙ sym (rw (same_first_state lim y.table (read_ranged lim d y i reads_plain).consistent) (ap unplaced_walk (same_walked y (ValueStates.first_state flags lim y.table))))

  -- Past 18, past 17 and past 16.
  abbrev both_past : (number : ℕ) (f g : Found) → (k j : Unit {0} → Got Request) → Type 0
  both_past number f g k j = AlikeGot (walk_of lim s) (Judging.walk_of lim) (refuse number f k) (refuse number g j)

  past_18_alike : both_past Limits.not_exclusive (failing_in (Values.all_exclusive (literals_in s)) x.plan) (overlap_in y.plan) (λ _. got x e) (λ _. got y i)
  past_18_alike =
      refused_alike (walk_of lim s) (Judging.walk_of lim) Limits.not_exclusive (failing_in (Values.all_exclusive (literals_in s)) x.plan) (overlap_in y.plan) (λ _. got x e) (λ _. got y i)
      (overlap_alike SameLiteral SameSetting (literals_in s) flags agree x.plan y.plan matches.plan
      ∙ ap (λ (test : List (List ℕ) → Bool). unplaced_found (failing_in test y.plan)) (sym (fun_ext same_all_exclusive)))
      walks_alike

  past_17_alike : both_past Limits.effect_and_knowledge (mixed_in x.table.effects x.table.knowledge) (mixed_in y.table.effects y.table.knowledge)
      (λ _. refuse Limits.not_exclusive (failing_in (Values.all_exclusive (literals_in s)) x.plan) (λ _. got x e)) (λ _. refuse Limits.not_exclusive (overlap_in y.plan) (λ _. got y i))
  past_17_alike =
      refused_alike (walk_of lim s) (Judging.walk_of lim) Limits.effect_and_knowledge (mixed_in x.table.effects x.table.knowledge) (mixed_in y.table.effects y.table.knowledge)
      (λ _. refuse Limits.not_exclusive (failing_in (Values.all_exclusive (literals_in s)) x.plan) (λ _. got x e)) (λ _. refuse Limits.not_exclusive (overlap_in y.plan) (λ _. got y i))
      (mixed_alike SameLiteral SameSetting x.table.effects y.table.effects x.table.knowledge y.table.knowledge matches.table.effects matches.table.knowledge)
      past_18_alike

  contradictions_alike : unplaced_found (first_against (Values.contradictory (literals_in s) x.table) [] x.table.effects) ≡ unplaced_found (contradiction_in y.table)
  unfolding contradiction_in
  contradictions_alike =
      contradiction_alike SameLiteral SameSetting (literals_in s) flags agree x.table y.table matches.table
      ∙ ap (λ (against : Effect → Effect → Bool). unplaced_found (first_against against [] y.table.effects)) (sym (fun_ext λ (g : Effect). fun_ext (same_contradictory y.table g)))

  settled_alike : AlikeGot (walk_of lim s) (Judging.walk_of lim) (settled_values lim s) (settled lim d)
  unfolding settled_values settled next
  settled_alike =
      rw (reads, reads_plain)
      (refused_alike (walk_of lim s) (Judging.walk_of lim) Limits.contradictory_effects
      (first_against (Values.contradictory (literals_in s) x.table) [] x.table.effects) (contradiction_in y.table)
      (λ _. refuse Limits.effect_and_knowledge (mixed_in x.table.effects x.table.knowledge) (λ _. refuse Limits.not_exclusive (failing_in (Values.all_exclusive (literals_in s)) x.plan) (λ _. got x e)))
      (λ _. refuse Limits.effect_and_knowledge (mixed_in y.table.effects y.table.knowledge) (λ _. refuse Limits.not_exclusive (overlap_in y.plan) (λ _. got y i)))
      contradictions_alike past_17_alike)

  -- They give the same number, input and count, and leave the same lent bytes, for every lent state and budget (FORMAT 26.28).
  pub matched_alike : (lent : List ℕ) (budget : ℕ) → placeless (judge_values lim s lent budget) ≡ placeless (judge lim d lent budget)
  unfolding judge_values judge
  matched_alike lent budget =
      pick_map placeless (eqb (length lent) lim.state) _ _
      ∙ rw (judged_alike (walk_of lim s) (Judging.walk_of lim) lent budget (settled_values lim s) (settled lim d) settled_alike)
      (sym (pick_map placeless (eqb (length lent) lim.state) (λ _. judge_got (Judging.walk_of lim) lent budget (settled lim d)) _))

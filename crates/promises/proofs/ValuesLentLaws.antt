-- What the values call leaves in the lent bytes with answers 1 and 2: the state that the end of its walk concerns, whose marks are at most the numbers of values, and 0 from the fluent count
-- on (FORMAT 26.15, 26.30). The facts, the literals of effects and the sensed fluents were read below that count, so no step sets a mark from there up, and a walk keeps what its steps keep.
-- Assumes nothing.
use Prim.Native.Nat.{ℕ, zero, suc, ◌+◌, ◌/◌, ◌≤◌, ◌<◌}
use native.Mathlib.Omega.{arith}
use native.Mathlib.Decide.{dec_lt}
use mathlib.Core.Path.{◌≡◌, refl, sym, ◌∙◌, ap, subst}
use mathlib.Core.Bool.{Bool, true, false}
use mathlib.Core.List.{List, [], ◌∷◌, map}
use mathlib.Core.Logic.{inl, inr, ⊎_elim}
use lib.ListN.{length, get_or, get_or-eq_default}
use lib.Seq.{get_or-set_other}
use borrow.Author.Tests.{eqb-true, le-ltb}
use Rattle.meaning.specs.declared.Form.TheVariants.{Valued}
use Rattle.meaning.specs.Tests.{pick, those_of, Has}
use Rattle.meaning.specs.Limits.{format}
use Rattle.meaning.specs.Literals.{among}
use Rattle.meaning.specs.Requests.{Effect, Knowledge, Table, Request}
use Rattle.meaning.specs.Reading.{got, count_at, below_at, fluents, list_at, values_in, literals_in, value_at, value_entry_at, value_entries_at, value_list_at, set_value_at, value_counts_at, section_at, body_at, effect_at, executability_at, knowledge_at, plan_at, table_at, request_at, read_request}
use Rattle.meaning.specs.Lines.{effects_of, knowledge_of, senses}
use Rattle.meaning.specs.States.{State, Outcome}
use Rattle.meaning.specs.Walk.{Step}
use Rattle.meaning.specs.Values.{numbers, values_of, set_by, fits}
use Rattle.meaning.specs.ValueStates.{is_known, told, mark_left, each_value, first_state, known_after, mark_after, state_after, unknown_sensed, readings, outcome, table_does, table_step, missed_in, judged, walked}
use Rattle.meaning.specs.Valued.{settled_values, walk_of, judge_values}
use Rattle.meaning.specs.AnswerParts.{stated}
use Rattle.meaning.proofs.TestLaws.{by-test, both_left, either_split, pick-cases, pick_false, some_has, those_has}
use Rattle.meaning.proofs.PickLaws.{pick_has}
use Rattle.meaning.proofs.SettledLaws.{fault≢got, got_same}
use Rattle.meaning.proofs.RefusalLaws.{at≢nowhere}
use Rattle.meaning.proofs.RangeLaws.{not_refused, after_got, count_within, below_bound, section_read}
use Rattle.meaning.proofs.ValueLaws.{numbers_has, numbered_length, numbered_at, first-such-cases}
use Rattle.meaning.proofs.KeptEnds.{on_places, OutcomeHas, StepSo, walk_so, end_of_so}
use Rattle.demands.proofs.Demands.{values_state}
use Rattle.demands.proofs.ValuesSound.{values_settled_is}
use Rattle.parsing.specs.Masks.{FewValues}
use Rattle.reading.specs.Tables.{table_of, table_in}
use Rattle.reading.proofs.SectionLaws.{count_got}
use Rattle.reading.proofs.ValueSizes.{few_counted}
use Rattle.valuing.specs.Valuing.{ValuedMarks}
use Rattle.valuing.proofs.AgreeingLaws.{names, unnamed_fits}
use Rattle.valuing.proofs.FirstMarks.{first_valued}
use Rattle.valuing.proofs.ValueListsRead.{value_read}
use Rattle.acting.proofs.ActingMarks.{told_valued, after_valued}
use Rattle.glintstring.specs.LentState.{BlankFrom}
use Rattle.verdicts.proofs.KeepingLaws.{ConcernedHas, EndHas}
use Rattle.promises.proofs.LentLaws.{concerned_has}

-- A TABLE THAT WAS READ of a values request speaks of its own fluents alone.
record Own (b : List ℕ) (t : Table) : Type 0 where
  count : get_or b 0 0 ≡ t.fluents
  most : t.fluents ≤ format.fluents
  same : table_in Valued b ≡ t
  facts : (l : ℕ) → Has t.facts l → l / 256 < t.fluents
  effects : (e : Effect) → Has t.effects e → e.literal / 256 < t.fluents
  knowledge : (k : Knowledge) → Has t.knowledge k → k.fluent < t.fluents

module _ (b : List ℕ) (few : FewValues b) (n : ℕ) where
  value_own : (p l q : ℕ) → value_at n b p ≡ got l q → l / 256 < n
  value_own p l q e =
      let r = value_read n b p l q e in
      let is = r.is in
      let low = r.fluent in
      let second = r.second in
      let most = few.each (get_or b p 0) in
      omega arith

  set_value_own : (p l q : ℕ) → set_value_at n b p ≡ got l q → l / 256 < n
  unfolding set_value_at
  set_value_own p l q e =
      after_got (value_at n b p) _ e λ k i ek e'.
      pick-cases _ _ _ e'
      (λ _ same. subst (λ (j : ℕ). j / 256 < n) (got_same same) (value_own p k i ek))
      (λ _ bad. absurd (fault≢got bad))

  entries_own : (left p : ℕ) (before xs : List ℕ) (q : ℕ) → value_entries_at n b left p before ≡ got xs q → (l : ℕ) → Has xs l → l / 256 < n
  unfolding value_entries_at value_entry_at
  entries_own zero p before xs q e l h = absurd (subst (λ (ys : List ℕ). Has ys l) (sym (got_same e)) h)
  entries_own (suc left) p before xs q e l h =
      after_got (value_entry_at n b p before) _ e λ x i ex e'.
      after_got (value_entries_at n b left i (x ∷ before)) _ e' λ ys j eys e''.
      after_got (value_at n b p) _ ex λ k m ek ex'.
      pick-cases _ _ _ (not_refused _ _ _ _ ex').1
      (λ _ same.
      ⊎_elim (λ here. subst (λ (z : ℕ). z / 256 < n) (got_same same ∙ sym here) (value_own p k m ek)) (entries_own left i (x ∷ before) ys j eys l)
      (subst (λ (zs : List ℕ). Has zs l) (sym (got_same e'')) h))
      (λ _ bad. absurd (fault≢got bad))

  list_own : (most p : ℕ) (xs : List ℕ) (q : ℕ) → value_list_at n most b p ≡ got xs q → (l : ℕ) → Has xs l → l / 256 < n
  unfolding value_list_at
  list_own most p xs q e = after_got (count_at 0 most b p) _ e λ c i _ entries. entries_own c i [] xs q entries

  effect_own : (m p : ℕ) (x : Effect) (q : ℕ) → effect_at format Valued n m b p ≡ got x q → x.literal / 256 < n
  unfolding effect_at
  effect_own m p x q e =
      after_got (below_at m b p) _ e λ a i _ e'.
      after_got (set_value_at n b i) _ e' λ l j el e''.
      after_got (body_at format Valued n b j) _ e'' λ c k _ same.
      subst (λ (y : Effect). y.literal / 256 < n) (got_same same) (set_value_own i l j el)

  line_own : (m p : ℕ) (x : Knowledge) (q : ℕ) → knowledge_at format n m b p ≡ got x q → x.fluent < n
  unfolding knowledge_at
  line_own m p x q e =
      after_got (below_at m b p) _ e λ a i _ e'.
      after_got (below_at n b i) _ e' λ f j ef same.
      subst (λ (y : Knowledge). y.fluent < n) (got_same same) (below_bound n b i f j ef)

table_own : (b : List ℕ) (t : Table) (e : ℕ) → table_at format Valued b 0 ≡ got t e → Own b t
unfolding table_at table_in table_of
table_own b t e reads =
    after_got (count_at 1 format.fluents b 0) _ reads λ n q₁ en f₁.
    after_got (value_counts_at n b q₁) _ f₁ λ cs q₂ ec f₂.
    after_got (count_at 1 format.actions b q₂) _ f₂ λ m q₃ _ f₃.
    after_got (value_list_at n format.listed b q₃) _ f₃ λ facts q₄ ef f₄.
    after_got (section_at (effect_at format Valued n m b) b q₄) _ f₄ λ effects q₅ ee f₅.
    after_got (section_at (executability_at format Valued n m b) b q₅) _ f₅ λ executability q₆ _ f₆.
    after_got (section_at (knowledge_at format n m b) b q₆) _ f₆ λ knowledge q₇ ek same.
    let c = count_got 1 format.fluents b 0 n q₁ en in
    let few = few_counted n b c.1 q₁ (sym c.2) cs q₂ ec in
    let is : table_in Valued b ≡ t = ap table_of reads in
    subst (λ (u : Table). table_in Valued b ≡ u → Own b u) (got_same same)
    (λ here. record {
      count = c.1;
      most = count_within 1 format.fluents b 0 n q₁ en;
      same = here;
      facts = list_own b few n format.listed q₃ facts q₄ ef;
      effects = λ x h. let w = section_read (effect_at format Valued n m b) b q₄ effects q₅ ee x h in effect_own b few n m w.0 x w.1 w.2;
      knowledge = λ k h. let w = section_read (knowledge_at format n m b) b q₆ knowledge q₇ ek k h in line_own b few n m w.0 k w.1 w.2;
    })
    is

request_own : (b : List ℕ) (x : Request) (e : ℕ) → read_request format Valued b ≡ got x e → Own b x.table
unfolding read_request request_at
request_own b x e reads =
    after_got (table_at format Valued b 0) _ (not_refused _ _ _ _ reads).1 λ t p₁ et e₁.
    after_got (request_at format Valued b t p₁) _ e₁ λ r p₂ er e₂.
    after_got (plan_at format Valued t.fluents t.actions b p₁) _ er λ plan p₃ _ e₃.
    after_got (value_list_at t.fluents format.listed b p₃) _ e₃ λ goals p₄ _ e₄.
    after_got (list_at fluents t.fluents format.listed b p₄) _ e₄ λ whether p₅ _ same.
    subst (λ (z : Request). Own b z.table) (got_same same ∙ got_same (not_refused _ _ _ _ e₂).1) (table_own b t p₁ et)

-- STATES of such a table: within the numbers of values, and blank from its fluents up.
abbrev KeptValues : List ℕ → ℕ → State → Type 0
KeptValues b n s = ValuedMarks b s × BlankFrom n s

two_left : (test : ℕ → Bool) → test 0 ≡ true → test 1 ≡ true → mark_left (those_of test (numbers 0 2)) ≡ 0
unfolding those_of numbers mark_left pick
two_left test zeroth first = rw (zeroth, first) refl

-- One outcome for each value.
values_have : (P : State → Type 0) (vs : List ℕ) (k : ℕ → Outcome State) (s : State) → P s → ((v : ℕ) → Has vs v → OutcomeHas P (k v)) → OutcomeHas P (each_value vs k s)
unfolding each_value
values_have P [] k s has each = has
values_have P (v ∷ []) k s has each = each v (inl refl)
values_have P (v ∷ u ∷ vs) k s has each = (each v (inl refl), values_have P (u ∷ vs) k s has (λ w h. each w (inr h)))

module _ (b : List ℕ) (t : Table) (own : Own b t) where
  abbrev Kept : State → Type 0
  Kept = KeptValues b t.fluents

  -- THE FIRST STATE: of a fluent beyond them, both its values are left.
  unnamed : (f : ℕ) → t.fluents ≤ f → names b t.facts f ≡ false
  unfolding names
  unnamed f far =
      by-test _
      (λ named. let w = some_has _ t.facts named in let low = own.facts w.0 w.1 in let is = eqb-true (w.0 / 256) f w.2 in absurd (omega (arith, low, is, far)))
      (λ none. none)

  beyond_two : (f : ℕ) → t.fluents ≤ f → values_in b f ≡ 2
  unfolding values_in
  beyond_two f far = pick_false _ _ _ (le-ltb f (get_or b 0 0) (rw own.count far))

  first_kept : Kept (first_state (literals_in b) format t)
  unfolding first_state values_of
  first_kept = (
    first_valued b t.facts,
    λ f far.
        let mark : ℕ → ℕ = λ g. mark_left (those_of (fits (literals_in b) t.facts g) (numbers 0 (values_in b g))) in
        elim (dec_lt f format.state) [
          | yes near ↦
              numbered_at mark format.state f 0 near
              ∙ ap (λ (k : ℕ). mark_left (those_of (fits (literals_in b) t.facts f) (numbers 0 k))) (beyond_two f far)
              ∙ two_left (fits (literals_in b) t.facts f) (unnamed_fits b t.facts f 0 (unnamed f far)) (unnamed_fits b t.facts f 1 (unnamed f far))
          | no beyond ↦ get_or-eq_default (map mark (numbers 0 format.state)) 0 {n = f} (rw (numbered_length mark 0 format.state) (omega arith))
        ],
  )

  -- AFTER AN ACTION: no effect sets a fluent beyond them.
  mark_blank : (a : ℕ) (s : State) → BlankFrom t.fluents s → (f : ℕ) → t.fluents ≤ f → mark_after (literals_in b) (effects_of t a) s f ≡ 0
  unfolding mark_after known_after is_known set_by effects_of
  mark_blank a s blank f far =
      first-such-cases (known_after (literals_in b) (effects_of t a) s f) (λ v. v + 1) (values_of (literals_in b) f) 0
      (λ v _ passes _.
      ⊎_elim
      (λ was. let is = eqb-true (get_or s f 0) (v + 1) was in let none = blank f far in absurd (omega (arith, is, none)))
      (λ sets.
      let w = some_has _ (effects_of t a) sets in
      let one = those_has _ t.effects w.0 w.1 in
      let low = own.effects w.0 one.0 in
      let is = eqb-true (w.0.literal / 256) f (both_left _ _ (both_left _ _ w.2)) in
      absurd (omega (arith, low, is, far)))
      (either_split _ _ (both_left _ _ passes)))
      (λ _ is. is)

  after_kept : (a : ℕ) (s : State) → Kept s → Kept (state_after (literals_in b) t a s)
  unfolding state_after
  after_kept a s kept = (
    subst (λ (u : Table). ValuedMarks b (state_after (literals_in b) u a s)) own.same (after_valued b s kept.0 a),
    λ f far.
        let mark = mark_after (literals_in b) (effects_of t a) s in
        elim (dec_lt f (length s)) [
          | yes near ↦ numbered_at mark (length s) f 0 near ∙ mark_blank a s kept.1 f far
          | no beyond ↦ get_or-eq_default (map mark (numbers 0 (length s))) 0 {n = f} (rw (numbered_length mark 0 (length s)) (omega arith))
        ],
  )

  -- READINGS set sensed fluents alone, each to one of its values.
  told_kept : (f v : ℕ) → f < t.fluents → v < values_in b f → (s : State) → Kept s → Kept (told f v s)
  unfolding told
  told_kept f v near low s kept = (
    told_valued b s kept.0 f v (let most = own.most in omega (arith, near, most)) low,
    λ g far. get_or-set_other s f g (v + 1) 0 (λ same. omega (arith, same, near, far)) ∙ kept.1 g far,
  )

  readings_kept : (fs : List ℕ) → ((f : ℕ) → Has fs f → f < t.fluents) → (s : State) → Kept s → OutcomeHas Kept (readings (literals_in b) fs s)
  unfolding readings values_of
  readings_kept [] near s kept = kept
  readings_kept (f ∷ fs) near s kept =
      values_have Kept (numbers 0 (values_in b f)) (λ v. readings (literals_in b) fs (told f v s)) s kept
      (λ v h. let low = numbers_has 0 (values_in b f) v h in readings_kept fs (λ g later. near g (inr later)) (told f v s) (told_kept f v (near f (inl refl)) (omega (arith, low)) s kept))

  sensed_own : (a : ℕ) (s : State) (f : ℕ) → Has (unknown_sensed (literals_in b) t a s) f → f < t.fluents
  unfolding unknown_sensed senses knowledge_of
  sensed_own a s f h =
      let looked = both_left _ _ (those_has _ (numbers 0 (length s)) f h).1 in
      let w = some_has _ (knowledge_of t a) looked in
      let one = those_has _ t.knowledge w.0 w.1 in
      let low = own.knowledge w.0 one.0 in
      let is = eqb-true w.0.fluent f w.2 in
      omega (arith, low, is)

  outcome_kept : (a : ℕ) (s : State) → Kept s → OutcomeHas Kept (outcome (literals_in b) t a s)
  unfolding outcome
  outcome_kept a s kept = pick_has (OutcomeHas Kept) _ _ _ (λ _. readings_kept (unknown_sensed (literals_in b) t a s) (sensed_own a s) s kept) (λ _. after_kept a s kept)

-- THE WALK.
module _ (b : List ℕ) (x : Request) (own : Own b x.table) where
  abbrev Holds : State → Type 0
  Holds = KeptValues b x.table.fluents

  abbrev So : Step State → Type 0
  So = StepSo (λ _ s. Holds s) (λ _ _ u. ConcernedHas Holds u) Holds (λ _. Unit {0})

  does_kept : (a : ℕ) (s : State) → Holds s → So (table_does (literals_in b) x.table a s)
  unfolding table_does
  does_kept a s kept = pick_has So _ _ _ (λ _. outcome_kept b x.table own a s kept) (λ _ p _. kept)

  walk_kept : EndHas Holds (walk_of format b x).end
  unfolding walk_of walked judged table_step
  walk_kept =
      walk_so (λ _ s. Holds s) (λ _ _ u. ConcernedHas Holds u) Holds (λ _. Unit {0}) (table_step (literals_in b) x.table) does_kept (λ s kept p _. kept) (λ s _ p q. absurd (at≢nowhere (sym q))) x.plan
      (on_places (λ _. Unit {0}) (λ _. tt) x.plan) (judged (literals_in b) x) (λ s kept. end_of_so (λ _ u. Holds u) (λ _ _ u. ConcernedHas Holds u) (missed_in (literals_in b) x s) s (λ p _. kept))
      (first_state (literals_in b) format x.table) (first_kept b x.table own)

-- Such an answer is of a settled values request, with n fluents by its first byte. It leaves as many marks as a state has, each at most its fluent's number of values, and none of them from n up.
abbrev pub ValuesWritten : (request left : List ℕ) → Type 0
ValuesWritten request left =
    (x : Request) × (e : ℕ) × (settled_values format request ≡ got x e) × (get_or request 0 0 ≡ x.table.fluents) × ValuedMarks request left × BlankFrom x.table.fluents left

pub values_written : (request lent : List ℕ) (budget : ℕ) → among (judge_values format request lent budget).answer.number stated ≡ true
    → ValuesWritten request (judge_values format request lent budget).state
values_written request lent budget writes =
    let w = (values_state format request lent budget).written writes in
    let own = request_own request w.0 w.1 (values_settled_is format request w.0 w.1 w.2).reads in
    let kept = concerned_has (KeptValues request w.0.table.fluents) _ _ w.3 (walk_kept request w.0 own) in
    (w.0, w.1, w.2, own.count, kept.0, kept.1)

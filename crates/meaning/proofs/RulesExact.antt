-- Each rule's test is its relation. The lists of lines that were read ascend, so lists are equal exactly where they are the same set; plans are
-- compared as they are without their places; and the state of X is the a-state that X determines. Assumes nothing.
use Prim.Native.Nat.{ℕ, ◌*◌, ◌<◌}
use native.Mathlib.Omega.{arith}
use mathlib.Core.Path.{◌≡◌, refl, sym, ◌∙◌, ap, ap₂, subst}
use mathlib.Core.Bool.{Bool, true, false≢true}
use mathlib.Core.List.{List, [], ◌∷◌}
use mathlib.Core.Logic.{◌↔◌, inl, inr, ⊎_elim}
use borrow.Author.Tests.{eqb-true, eq-eqb}
use Rattle.meaning.specs.Tests.{Has}
use Rattle.meaning.specs.Limits.{Limits}
use Rattle.meaning.specs.Literals.{fluent_of}
use Rattle.meaning.specs.Requests.{Effect, Table, Sequence, done, item, Item, act, branching, Branches, none, branch, unplaced, unplaced_item, unplaced_branches}
use Rattle.meaning.specs.States.{State, state_of, can_be_run, state_after}
use Rattle.meaning.specs.Approximation.{executable, K, Res}
use Rattle.meaning.specs.Derivations.{Conclusion, knows, knows_whether, Line, same_plan, same_item, same_branches, join, literals_of, same_conclusion, part_of, says, of_one, of_two, rule_1, takes_branch, branches_first, rule_4, rule_5, rule_6, one_literal, settles, rule_8, acts, one_action, rule_2, looks_for, one_look, rule_7}
use Rattle.meaning.specs.Rules.{◌⊆◌, ◌≐◌, a_state, SamePlan, SameConclusion, Claims, Rule1, Rule2, Case, Rule4, Rule5, Rule6, Rule7, Rule8}
use Rattle.meaning.specs.Reported.{pair_of}
use Rattle.meaning.proofs.TestLaws.{both_left, both_right, both_true, either_left, either_right, either_split, fails_true, fails_false}
use Rattle.meaning.proofs.PairLaws.{pair_after, runs_pair, sensing_pair, senses_pair}
use Rattle.meaning.proofs.PlacelessLaws.{same_placeless, join_placeless, branches_placeless, acts_placeless, look_placeless, unplaced_line}
use Rattle.meaning.proofs.ToldLaws.{Clear, state_length}
use Rattle.meaning.proofs.SetLaws.{≐_refl, ≐_sym, ≐_trans, included_exactly, a_state_same, same_a_state, Ascending, ascending_same, same_list_is, same_list_self, same_list_exactly, literals_ascend, literals_a_state, state_a_state}

-- PLANS are the same to the test where they are without their places.
mutual
  unfolding same_plan

  plan_alike : (p q : Sequence ℕ) → same_plan p q ≡ true → unplaced p ≡ unplaced q
  plan_alike done done e = refl
  plan_alike done (item j q) e = absurd (false≢true e)
  plan_alike (item i p) done e = absurd (false≢true e)
  plan_alike (item i p) (item j q) e = ap₂ {C = Sequence ℕ} item (item_alike i j (both_left _ _ e)) (plan_alike p q (both_right _ _ e))

  item_alike : (i j : Item ℕ) → same_item i j ≡ true → unplaced_item i ≡ unplaced_item j
  item_alike (act p a) (act q b) e = ap (act 0) (eqb-true a b e)
  item_alike (act p a) (branching q cs) e = absurd (false≢true e)
  item_alike (branching p bs) (act q b) e = absurd (false≢true e)
  item_alike (branching p bs) (branching q cs) e = ap (branching 0) (branches_alike bs cs e)

  branches_alike : (bs cs : Branches ℕ) → same_branches bs cs ≡ true → unplaced_branches bs ≡ unplaced_branches cs
  branches_alike none none e = refl
  branches_alike none (branch d q cs) e = absurd (false≢true e)
  branches_alike (branch c p bs) none e = absurd (false≢true e)
  branches_alike (branch c p bs) (branch d q cs) e =
      rw (same_list_is c d (both_left _ _ e), plan_alike p q (both_left _ _ (both_right _ _ e)), branches_alike bs cs (both_right _ _ (both_right _ _ e)))

mutual
  unfolding same_plan

  same_self : (p : Sequence ℕ) → same_plan p p ≡ true
  same_self done = refl
  same_self (item i p) = both_true _ _ (same_self_item i) (same_self p)

  same_self_item : (i : Item ℕ) → same_item i i ≡ true
  same_self_item (act p a) = eq-eqb a a refl
  same_self_item (branching p bs) = same_self_branches bs

  same_self_branches : (bs : Branches ℕ) → same_branches bs bs ≡ true
  same_self_branches none = refl
  same_self_branches (branch c p bs) = both_true _ _ (same_list_self c) (both_true _ _ (same_self p) (same_self_branches bs))

pub plan_exactly : (c d : Sequence ℕ) → (same_plan c d ≡ true) ↔ SamePlan c d
plan_exactly c d = (plan_alike c d, λ e. sym (same_placeless c d) ∙ ap (λ (p : Sequence ℕ). same_plan p (unplaced d)) e ∙ same_self (unplaced d))

-- Joined plans are the same where their parts are.
join_alike : (c d c' d' : Sequence ℕ) → SamePlan c c' → SamePlan d d' → SamePlan (join c d) (join c' d')
join_alike c d c' d' e f = sym (join_placeless c d) ∙ ap₂ join e f ∙ join_placeless c' d'

-- CONCLUSIONS.
abbrev pub ConclusionAscends : Conclusion → Type 0
ConclusionAscends (knows Y) = Ascending 0 Y
ConclusionAscends (knows_whether f) = Unit {0}

pub conclusion_exactly : (Y Z : Conclusion) → ConclusionAscends Y → ConclusionAscends Z → (same_conclusion Y Z ≡ true) ↔ SameConclusion Y Z
unfolding same_conclusion
conclusion_exactly (knows Y) (knows Z) a b = same_list_exactly Y Z a b
conclusion_exactly (knows Y) (knows_whether g) a b = (false≢true, absurd)
conclusion_exactly (knows_whether f) (knows Z) a b = (false≢true, absurd)
conclusion_exactly (knows_whether f) (knows_whether g) a b = (eqb-true f g, eq-eqb f g)

pub conclusion_self : (Y : Conclusion) → SameConclusion Y Y
conclusion_self (knows Y) = ≐_refl Y
conclusion_self (knows_whether f) = refl

-- Two conclusions that are the same as a third are the same.
pub conclusions_meet : (Y Z W : Conclusion) → SameConclusion Y W → SameConclusion Z W → SameConclusion Y Z
conclusions_meet (knows Y) (knows Z) (knows W) e f = ≐_trans Y W Z e (≐_sym Z W f)
conclusions_meet (knows Y) (knows Z) (knows_whether h) e f = absurd e
conclusions_meet (knows Y) (knows_whether g) (knows W) e f = absurd f
conclusions_meet (knows Y) (knows_whether g) (knows_whether h) e f = absurd e
conclusions_meet (knows_whether f) (knows Z) (knows W) e h = absurd e
conclusions_meet (knows_whether f) (knows Z) (knows_whether h) e g = absurd g
conclusions_meet (knows_whether f) (knows_whether g) (knows W) e h = absurd e
conclusions_meet (knows_whether f) (knows_whether g) (knows_whether h) p q = p ∙ sym q

-- CITED LINES, where a rule takes one or two.
module _ {A : Type 0} where
  pub one_only : (test : A → Bool) (xs : List A) → of_one test xs ≡ true → (x : A) × (xs ≡ x ∷ []) × (test x ≡ true)
  unfolding of_one
  one_only test [] e = absurd (false≢true e)
  one_only test (x ∷ []) e = (x, refl, e)
  one_only test (x ∷ (y ∷ ys)) e = absurd (false≢true e)

  pub two_only : (test : A → A → Bool) (xs : List A) → of_two test xs ≡ true → (x y : A) × (xs ≡ x ∷ y ∷ []) × (test x y ≡ true)
  unfolding of_two
  two_only test [] e = absurd (false≢true e)
  two_only test (x ∷ []) e = absurd (false≢true e)
  two_only test (x ∷ (y ∷ [])) e = (x, y, refl, e)
  two_only test (x ∷ (y ∷ (z ∷ zs))) e = absurd (false≢true e)

-- LINES that were read: their lists ascend, and X is clear.
pub record Proper (lim : Limits) (l : Line) : Type 0 where
  pub XAscends : Ascending 0 l.X
  pub XClear : Clear lim l.X
  pub YAscends : ConclusionAscends l.Y

pub says_exactly : {lim : Limits} (l : Line) → Proper lim l → (X : List ℕ) (c : Sequence ℕ) (Y : Conclusion) → Ascending 0 X → ConclusionAscends Y → (says l X c Y ≡ true) ↔ Claims l X c Y
unfolding says
says_exactly l proper X c Y a b =
    let xs = same_list_exactly l.X X proper.XAscends a in
    let cs = plan_exactly l.c c in
    let ys = conclusion_exactly l.Y Y proper.YAscends b in (
      λ e. record { start = xs.0 (both_left _ _ e); plan = cs.0 (both_left _ _ (both_right _ _ e)); end = ys.0 (both_right _ _ (both_right _ _ e)) },
      λ k. both_true _ _ (xs.1 k.start) (both_true _ _ (cs.1 k.plan) (ys.1 k.end)),
    )

-- RULE 1.
pub rule_1_exactly : {lim : Limits} (l : Line) → Proper lim l → (rule_1 l ≡ true) ↔ Rule1 l
unfolding rule_1
rule_1_exactly l proper =
    let ys = conclusion_exactly l.Y (knows l.X) proper.YAscends proper.XAscends in (
      λ e. record { X = l.X; line = record { start = ≐_refl l.X; plan = (plan_exactly l.c done).0 (both_left _ _ e); end = ys.0 (both_right _ _ e) } },
      λ r. both_true _ _ ((plan_exactly l.c done).1 r.line.plan) (ys.1 (conclusions_meet l.Y (knows l.X) (knows r.X) r.line.end r.line.start)),
    )

-- RULES 5 AND 11.
pub rule_5_exactly : {lim : Limits} (k j l : Line) → Proper lim k → Proper lim j → Proper lim l → (rule_5 k j l ≡ true) ↔ ((Y : Conclusion) × Rule5 k j l Y)
unfolding rule_5
rule_5_exactly k j l pk pj pl =
    let xs = same_list_exactly k.X l.X pk.XAscends pl.XAscends in
    let zs = conclusion_exactly k.Y (knows j.X) pk.YAscends pj.XAscends in
    let ys = conclusion_exactly j.Y l.Y pj.YAscends pl.YAscends in
    let cs = plan_exactly (join k.c j.c) l.c in (
      λ e. (
        l.Y,
        record {
          X = l.X;
          c = k.c;
          Z = j.X;
          d = j.c;
          line = record { start = ≐_refl l.X; plan = sym (cs.0 (both_right _ _ (both_right _ _ e))); end = conclusion_self l.Y };
          premise = record { start = xs.0 (both_left _ _ (both_left _ _ e)); plan = refl; end = zs.0 (both_right _ _ (both_left _ _ e)) };
          premise_after = record { start = ≐_refl j.X; plan = refl; end = ys.0 (both_left _ _ (both_right _ _ e)) };
        },
      ),
      λ w. let r = w.1 in
          both_true _ _
          (both_true _ _ (xs.1 (≐_trans k.X r.X l.X r.premise.start (≐_sym l.X r.X r.line.start)))
          (zs.1 (conclusions_meet k.Y (knows j.X) (knows r.Z) r.premise.end r.premise_after.start)))
          (both_true _ _ (ys.1 (conclusions_meet j.Y l.Y w.0 r.premise_after.end r.line.end))
          (cs.1 (join_alike k.c j.c r.c r.d r.premise.plan r.premise_after.plan ∙ sym r.line.plan))),
    )

-- RULE 6.
parted : (Y Z : Conclusion) → part_of Y Z ≡ true → (U W : List ℕ) × SameConclusion Y (knows U) × SameConclusion Z (knows W) × (U ⊆ W)
unfolding part_of
parted (knows Y) (knows Z) e = (Y, Z, ≐_refl Y, ≐_refl Z, (included_exactly Y Z).0 e)
parted (knows Y) (knows_whether g) e = absurd (false≢true e)
parted (knows_whether f) Z e = absurd (false≢true e)

part : (Y Z : Conclusion) (U W : List ℕ) → SameConclusion Y (knows U) → SameConclusion Z (knows W) → U ⊆ W → part_of Y Z ≡ true
unfolding part_of
part (knows Y) (knows Z) U W y z h = (included_exactly Y Z).1 (λ l m. z.1 l (h l (y.0 l m)))
part (knows Y) (knows_whether g) U W y z h = absurd z
part (knows_whether f) Z U W y z h = absurd y

pub rule_6_exactly : (k l : Line) → (rule_6 k l ≡ true) ↔ Rule6 k l
unfolding rule_6
rule_6_exactly k l =
    let xs = included_exactly k.X l.X in
    let cs = plan_exactly k.c l.c in (
      λ e. let w = parted l.Y k.Y (both_right _ _ (both_right _ _ e)) in record {
        X = l.X;
        X' = k.X;
        c = l.c;
        Y = w.0;
        Y' = w.1;
        line = record { start = ≐_refl l.X; plan = refl; end = w.2 };
        premise = record { start = ≐_refl k.X; plan = cs.0 (both_left _ _ (both_right _ _ e)); end = w.3 };
        more = xs.0 (both_left _ _ e);
        less = w.4;
      },
      λ r. both_true _ _ (xs.1 (λ x m. r.line.start.1 x (r.more x (r.premise.start.0 x m))))
          (both_true _ _ (cs.1 (r.premise.plan ∙ sym r.line.plan)) (part l.Y k.Y r.Y r.Y' r.line.end r.premise.end r.less)),
    )

-- RULE 8.
settled : (Z Y : Conclusion) → settles Z Y ≡ true → (p : ℕ) × SameConclusion Z (knows (p ∷ [])) × SameConclusion Y (knows_whether (fluent_of p))
unfolding settles one_literal
settled (knows []) (knows_whether f) e = absurd (false≢true e)
settled (knows (p ∷ [])) (knows_whether f) e = (p, ≐_refl (p ∷ []), sym (eqb-true _ _ e))
settled (knows (p ∷ (q ∷ ps))) (knows_whether f) e = absurd (false≢true e)
settled (knows Z) (knows Y) e = absurd (false≢true e)
settled (knows_whether g) Y e = absurd (false≢true e)

settles_by : (Z Y : Conclusion) → ConclusionAscends Z → (p : ℕ) → SameConclusion Z (knows (p ∷ [])) → SameConclusion Y (knows_whether (fluent_of p)) → settles Z Y ≡ true
unfolding settles one_literal
settles_by (knows Z) (knows_whether f) a p z y =
    subst (λ (U : List ℕ). one_literal f U ≡ true) (sym (ascending_same Z (p ∷ []) a (omega arith, tt) z)) (eq-eqb _ _ (sym y))
settles_by (knows Z) (knows Y) a p z y = absurd y
settles_by (knows_whether g) Y a p z y = absurd z

pub rule_8_exactly : {lim : Limits} (k l : Line) → Proper lim k → Proper lim l → (rule_8 k l ≡ true) ↔ Rule8 k l
unfolding rule_8
rule_8_exactly k l pk pl =
    let xs = same_list_exactly k.X l.X pk.XAscends pl.XAscends in
    let cs = plan_exactly k.c l.c in (
      λ e. let w = settled k.Y l.Y (both_right _ _ (both_right _ _ e)) in record {
        X = l.X;
        c = l.c;
        p = w.0;
        line = record { start = ≐_refl l.X; plan = refl; end = w.2 };
        premise = record { start = xs.0 (both_left _ _ e); plan = cs.0 (both_left _ _ (both_right _ _ e)); end = w.1 };
      },
      λ r. both_true _ _ (xs.1 (≐_trans k.X r.X l.X r.premise.start (≐_sym l.X r.X r.line.start)))
          (both_true _ _ (cs.1 (r.premise.plan ∙ sym r.line.plan)) (settles_by k.Y l.Y pk.YAscends r.p r.premise.end r.line.end)),
    )

-- RULES 4 AND 12.
case_taken : (X : List ℕ) (bs : Branches ℕ) (rest : Sequence ℕ) (Y : Conclusion) (k : Line) → takes_branch X bs rest Y k ≡ true
    → (φ : List ℕ) × (b : Sequence ℕ) × Case φ b bs × (φ ⊆ X) × (says k X (join b rest) Y ≡ true)
unfolding takes_branch
case_taken X none rest Y k e = absurd (false≢true e)
case_taken X (branch φ b bs) rest Y k e =
    ⊎_elim
    (λ here. (φ, b, inl (refl, refl), (included_exactly φ X).0 (both_left _ _ here), both_right _ _ here))
    (λ later. let w = case_taken X bs rest Y k later in (w.0, w.1, inr w.2, w.3, w.4))
    (either_split _ _ e)

takes_case : (X : List ℕ) (bs : Branches ℕ) (rest : Sequence ℕ) (Y : Conclusion) (k : Line) (φ : List ℕ) (b : Sequence ℕ) → Case φ b bs → φ ⊆ X → says k X (join b rest) Y ≡ true
    → takes_branch X bs rest Y k ≡ true
unfolding takes_branch
takes_case X none rest Y k φ b case h s = absurd case
takes_case X (branch ψ d bs) rest Y k φ b (inl w) h s =
    either_left _ _ (both_true _ _ ((included_exactly ψ X).1 (subst (λ (U : List ℕ). U ⊆ X) w.0 h)) (subst (λ (q : Sequence ℕ). says k X (join q rest) Y ≡ true) w.1 s))
takes_case X (branch ψ d bs) rest Y k φ b (inr later) h s = either_right _ _ (takes_case X bs rest Y k φ b later h s)

branches_alike_at : (k l : Line) (c d : Sequence ℕ) → SamePlan c d → branches_first k l c ≡ branches_first k l d
branches_alike_at k l c d e = sym (branches_placeless k l c) ∙ ap (branches_first (unplaced_line k) (unplaced_line l)) e ∙ branches_placeless k l d

pub rule_4_exactly : {lim : Limits} (k l : Line) → Proper lim k → Proper lim l → (rule_4 k l ≡ true) ↔ ((Y : Conclusion) × Rule4 k l Y)
unfolding rule_4 branches_first
rule_4_exactly k l pk pl = (from l.c refl, λ w. to w.0 w.1)
  where
    from : (c : Sequence ℕ) → l.c ≡ c → branches_first k l c ≡ true → (Y : Conclusion) × Rule4 k l Y
    from done q e = absurd (false≢true e)
    from (item (act p a) rest) q e = absurd (false≢true e)
    from (item (branching p bs) rest) q e =
        let w = case_taken l.X bs rest l.Y k e in (
          l.Y,
          record {
            X = l.X;
            place = p;
            cases = bs;
            c = rest;
            line = record { start = ≐_refl l.X; plan = ap unplaced q; end = conclusion_self l.Y };
            φ = w.0;
            b = w.1;
            case = w.2;
            holds = w.3;
            premise = (says_exactly k pk l.X (join w.1 rest) l.Y pl.XAscends pl.YAscends).0 w.4;
          },
        )

    to : (Y : Conclusion) → Rule4 k l Y → branches_first k l l.c ≡ true
    to Y r =
        branches_alike_at k l l.c (item (branching r.place r.cases) r.c) r.line.plan
        ∙ takes_case l.X r.cases r.c l.Y k r.φ r.b r.case (λ x m. r.line.start.1 x (r.holds x m))
        ((says_exactly k pk l.X (join r.b r.c) l.Y pl.XAscends pl.YAscends).1 (record {
          start = ≐_trans k.X r.X l.X r.premise.start (≐_sym l.X r.X r.line.start);
          plan = r.premise.plan;
          end = conclusions_meet k.Y l.Y Y r.premise.end r.line.end;
        }))

-- RULES 2 AND 7, over a table whose lines are within the states.
module _ (lim : Limits) (t : Table) where
  -- The state of X is the a-state that X determines, however X is written.
  pub start_state : (l : Line) → Proper lim l → (X : List ℕ) → l.X ≐ X → pair_of (state_of lim l.X) ≡ a_state X
  start_state l proper X e = state_a_state lim l.X proper.XClear ∙ a_state_same l.X X e

  pub runs_exactly : (l : Line) → Proper lim l → (X : List ℕ) → l.X ≐ X → (a : ℕ) → can_be_run t a (state_of lim l.X) ≡ executable t a (a_state X)
  runs_exactly l proper X e a = sym (runs_pair t a (state_of lim l.X)) ∙ ap (executable t a) (start_state l proper X e)

  look_alike : (l : Line) (c d : Sequence ℕ) → SamePlan c d → one_look lim t l c ≡ one_look lim t l d
  look_alike l c d e = sym (look_placeless lim t l c) ∙ ap (one_look lim t (unplaced_line l)) e ∙ look_placeless lim t l d

  pub rule_7_exactly : (l : Line) → Proper lim l → (rule_7 lim t l ≡ true) ↔ Rule7 t l
  unfolding rule_7 one_look looks_for
  rule_7_exactly l proper = (from l.c refl, to)
    where
      looked : (p a : ℕ) → l.c ≡ item (act p a) done → (Y : Conclusion) → SameConclusion l.Y Y → looks_for lim t Y a (state_of lim l.X) ≡ true → Rule7 t l
      looked p a q (knows Y) y e = absurd (false≢true e)
      looked p a q (knows_whether f) y e = record {
        X = l.X;
        place = p;
        a = a;
        f = f;
        line = record { start = ≐_refl l.X; plan = ap unplaced q; end = y };
        runs = sym (runs_exactly l proper l.X (≐_refl l.X) a) ∙ both_right _ _ e;
        determines = senses_pair t a f ∙ both_left _ _ e;
      }

      from : (c : Sequence ℕ) → l.c ≡ c → one_look lim t l c ≡ true → Rule7 t l
      from done q e = absurd (false≢true e)
      from (item (act p a) done) q e = looked p a q l.Y (conclusion_self l.Y) e
      from (item (act p a) (item i rest)) q e = absurd (false≢true e)
      from (item (branching p bs) rest) q e = absurd (false≢true e)

      looks : (Y : Conclusion) (f a : ℕ) → SameConclusion Y (knows_whether f) → K t a f ≡ true → can_be_run t a (state_of lim l.X) ≡ true → looks_for lim t Y a (state_of lim l.X) ≡ true
      looks (knows Y) f a y k run = absurd y
      looks (knows_whether g) f a y k run = both_true _ _ (sym (senses_pair t a g) ∙ ap (K t a) y ∙ k) run

      to : Rule7 t l → one_look lim t l l.c ≡ true
      to r =
          look_alike l l.c (item (act r.place r.a) done) r.line.plan
          ∙ looks l.Y r.f r.a r.line.end r.determines (runs_exactly l proper r.X r.line.start r.a ∙ r.runs)

  act_alike : (l : Line) (c d : Sequence ℕ) → SamePlan c d → one_action lim t l c ≡ one_action lim t l d
  act_alike l c d e = sym (acts_placeless lim t l c) ∙ ap (one_action lim t (unplaced_line l)) e ∙ acts_placeless lim t l d

  pub rule_2_exactly : ((e : Effect) → Has t.effects e → e.literal < 2 * lim.state) → (l : Line) → Proper lim l → (rule_2 lim t l ≡ true) ↔ Rule2 t l
  unfolding rule_2 one_action acts
  rule_2_exactly within l proper = (from l.c refl, to)
    where
      s : State
      s = state_of lim l.X

      after : (X : List ℕ) → l.X ≐ X → (a : ℕ) → a_state (literals_of (state_after t a s)) ≡ Res t a (a_state X)
      after X e a = literals_a_state (state_after t a s) ∙ pair_after t a s (λ n m. rw (state_length lim l.X) (within n m)) ∙ ap (Res t a) (start_state l proper X e)

      ys : (a : ℕ) → (same_conclusion l.Y (knows (literals_of (state_after t a s))) ≡ true) ↔ SameConclusion l.Y (knows (literals_of (state_after t a s)))
      ys a = conclusion_exactly l.Y (knows (literals_of (state_after t a s))) proper.YAscends (literals_ascend (state_after t a s))

      from : (c : Sequence ℕ) → l.c ≡ c → one_action lim t l c ≡ true → Rule2 t l
      from done q e = absurd (false≢true e)
      from (item (act p a) done) q e = record {
        X = l.X;
        place = p;
        a = a;
        Y = literals_of (state_after t a s);
        line = record { start = ≐_refl l.X; plan = ap unplaced q; end = (ys a).0 (both_right _ _ (both_right _ _ e)) };
        non_sensing = sensing_pair t a ∙ fails_true _ (both_left _ _ e);
        runs = sym (runs_exactly l proper l.X (≐_refl l.X) a) ∙ both_left _ _ (both_right _ _ e);
        result = after l.X (≐_refl l.X) a;
      }
      from (item (act p a) (item i rest)) q e = absurd (false≢true e)
      from (item (branching p bs) rest) q e = absurd (false≢true e)

      to : Rule2 t l → one_action lim t l l.c ≡ true
      to r =
          act_alike l l.c (item (act r.place r.a) done) r.line.plan
          ∙ both_true _ _ (fails_false _ (sym (sensing_pair t r.a) ∙ r.non_sensing))
          (both_true _ _ (runs_exactly l proper r.X r.line.start r.a ∙ r.runs)
          ((ys r.a).1 (conclusions_meet l.Y (knows (literals_of (state_after t r.a s))) (knows r.Y) r.line.end
          (same_a_state (literals_of (state_after t r.a s)) r.Y (after r.X r.line.start r.a ∙ sym r.result)))))

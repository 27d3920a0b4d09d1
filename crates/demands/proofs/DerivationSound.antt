-- Theorems 3.1 and 3.3 of Zhao and Shen: what an accepted derivation asks, the walk verifies without a budget, in the plain layout where
-- goals are asked and in the closing one where whether fluents are asked too. Each line holds of every a-state in which its X is true, by
-- induction on the lines, a rule at a time; rules 5 and 6 rest on holding of every such a-state. Rules 3, 4 and 5 are indifferent to what is
-- concluded, so they are 10, 12 and 11 too. Assumes nothing.
use Prim.Native.Nat.{ℕ, zero, suc, ◌+◌, ◌*◌, ◌≤◌, ◌<◌}
use native.Mathlib.Omega.{arith}
use mathlib.Core.Path.{◌≡◌, refl, sym, ◌∙◌, ap, subst}
use mathlib.Core.Bool.{Bool, true, false, false≢true}
use mathlib.Core.List.{List, [], ◌∷◌, map}
use mathlib.Core.Logic.{inl, inr, ⊎_elim}
use lib.ListN.{length, get_or}
use lib.Dec.{eqb, ltb}
use borrow.Author.Tests.{eqb-true, ltb-true}
use native.Mathlib.Decide.{dec_lt}
use Rattle.meaning.specs.declared.Layout.{Layout}
use Rattle.meaning.specs.declared.Layout.TheVariants.{Plain, Closing}
use Rattle.meaning.specs.Tests.{both, either, each_of, Has}
use Rattle.meaning.specs.Limits.{Limits}
use Rattle.meaning.specs.Literals.{says_true, says_false, fluent_of, among}
use Rattle.meaning.specs.Requests.{Effect, Knowledge, Table, Sequence, done, item, Item, act, branching, Branches, none, branch, Entry, Request, values}
use Rattle.meaning.specs.Refusals.{nowhere, conditions_of, all_exclusive, overlap_in}
use Rattle.meaning.specs.Lines.{sensing}
use Rattle.meaning.specs.States.{State, known, state_of, first_state, can_be_run, state_after, unknown_sensed, readings}
use Rattle.meaning.specs.Walk.{Verified, walked}
use Rattle.meaning.specs.Approximation.{Pair, Disjoint, true_in, false_in, ◌≼◌, executable, K, sensing_action, Res, Result, failed, state, Sensed, Φ, Union, NoneTrue, Φ̂, Φ̂_item, Φ̂_case, Entails, Entailed}
use Rattle.meaning.specs.Derivations.{Conclusion, knows, knows_whether, Line, Derivation, overlap_in_lines, same_plan, same_item, same_branches, join, included, literals_of, same_conclusion, says, states_of, of_one, of_two, rule_1, takes_branch, branches_first, rule_4, rule_5, part_of, rule_6, one_literal, settles, rule_8, each_reads, acts, one_action, rule_2, reads, senses_first, rule_3, looks_for, one_look, rule_7, given_by, for_lists, follows, cited_by, asks_for, goals_of, all_asked, names}
use Rattle.meaning.specs.Reported.{pair_of}
use Rattle.meaning.proofs.PairLaws.{true_in_true, true_in_false, false_in_true, pair_after, executable_grows, ResGrows, ResDisjoint, runs_pair, sensing_pair, senses_pair, ≼_trans}
use Rattle.meaning.proofs.SensingLaws.{arrived, reading_follows}
use Rattle.meaning.proofs.SettledLaws.{settled_is, or_else_nowhere, Fit, fit}
use Rattle.meaning.proofs.Passed.{AllPass, LastPasses, EntriesPass, EndPasses, Passed}
use Rattle.meaning.proofs.RangeLaws.{Ranged, read_ranged}
use Rattle.meaning.proofs.Exact.{entailed_fine}
use Rattle.meaning.proofs.SetLaws.{same_list_is, known_from_known}
use Rattle.meaning.proofs.RulesExact.{one_only, two_only}
use Rattle.meaning.proofs.ReadLines.{lines_read}
use Rattle.meaning.proofs.CoverLaws.{knows_true, others_false, none_chosen}
use Rattle.meaning.proofs.ToldLaws.{state_length, Clear, state_known}
use Rattle.meaning.proofs.LiteralLaws.{one_of_two}
use Rattle.meaning.proofs.TestLaws.{clash, both_left, both_right, either_left, either_right, either_split, fails_true, pick-cases, some_has, each_has, has_each, some_mono, has_map, map_has}

-- EQUALITY of conclusions, and of plans up to places, as the transition function sees it.
pub same_conclusion_is : (Y Z : Conclusion) → same_conclusion Y Z ≡ true → Y ≡ Z
unfolding same_conclusion
same_conclusion_is (knows Y) (knows Z) e = ap knows (same_list_is Y Z e)
same_conclusion_is (knows Y) (knows_whether g) e = absurd (false≢true e)
same_conclusion_is (knows_whether f) (knows Z) e = absurd (false≢true e)
same_conclusion_is (knows_whether f) (knows_whether g) e = ap knows_whether (eqb-true f g e)

state≢failed : {σ : Pair} → state σ ≡ failed → ⊥
state≢failed e = subst is_state e tt
  where
    is_state : Result → Type 0
    is_state failed = ⊥
    is_state (state σ) = Unit {0}

state_same : {σ δ : Pair} → state σ ≡ state δ → σ ≡ δ
state_same {σ} e = ap pair e
  where
    pair : Result → Pair
    pair failed = σ
    pair (state δ) = δ

module _ (t : Table) where
  none_true_same : (bs cs : Branches ℕ) → same_branches bs cs ≡ true → (σ : Pair) → NoneTrue cs σ → NoneTrue bs σ
  unfolding same_plan
  none_true_same none none e σ n = tt
  none_true_same none (branch d q cs) e σ n = tt
  none_true_same (branch c p bs) none e σ n = absurd (false≢true e)
  none_true_same (branch c p bs) (branch d q cs) e σ n =
      (rw (same_list_is c d (both_left _ _ e)) n.0, none_true_same bs cs (both_right _ _ (both_right _ _ e)) σ n.1)

  mutual
    unfolding same_plan

    -- Where the same plan leads, written elsewhere, this one leads.
    same_leads : (p q : Sequence ℕ) → same_plan p q ≡ true → (σ : Pair) (x : Result) → Φ̂ t q σ x → Φ̂ t p σ x
    same_leads done done e σ x h = h
    same_leads done (item j q) e σ x h = absurd (false≢true e)
    same_leads (item i p) done e σ x h = absurd (false≢true e)
    same_leads (item i p) (item j q) e σ x h =
        ⊎_elim (λ w. inl (same_item_leads i j (both_left _ _ e) σ failed w.0, w.1))
        (λ w. inr (w.0, same_item_leads i j (both_left _ _ e) σ (state w.0) w.1, same_leads p q (both_right _ _ e) w.0 x w.2)) h

    same_item_leads : (i j : Item ℕ) → same_item i j ≡ true → (σ : Pair) (x : Result) → Φ̂_item t j σ x → Φ̂_item t i σ x
    same_item_leads (act p a) (act q b) e σ x h = rw (eqb-true a b e) h
    same_item_leads (act p a) (branching q cs) e σ x h = absurd (false≢true e)
    same_item_leads (branching p bs) (act q b) e σ x h = absurd (false≢true e)
    same_item_leads (branching p bs) (branching q cs) e σ x h =
        ⊎_elim (λ w. inl (same_case_leads bs cs e σ x w)) (λ w. inr (none_true_same bs cs e σ w.0, w.1)) h

    same_case_leads : (bs cs : Branches ℕ) → same_branches bs cs ≡ true → (σ : Pair) (x : Result) → Φ̂_case t cs σ x → Φ̂_case t bs σ x
    same_case_leads none none e σ x h = h
    same_case_leads none (branch d q cs) e σ x h = absurd (false≢true e)
    same_case_leads (branch c p bs) none e σ x h = absurd (false≢true e)
    same_case_leads (branch c p bs) (branch d q cs) e σ x h =
        ⊎_elim
        (λ w. inl (rw (same_list_is c d (both_left _ _ e)) w.0, same_leads p q (both_left _ _ (both_right _ _ e)) σ x w.1))
        (λ w. inr (same_case_leads bs cs (both_right _ _ (both_right _ _ e)) σ x w)) h

  -- JOINED PLANS lead where the second leads from where the first leads.
  join_leads : (p q : Sequence ℕ) (σ : Pair) (x : Result) → Φ̂ t (join p q) σ x → Union (Φ̂ t p σ) (Φ̂ t q) x
  unfolding join
  join_leads done q σ x h = inr (σ, refl, h)
  join_leads (item i p) q σ x (inl w) = inl (inl (w.0, refl), w.1)
  join_leads (item i p) q σ x (inr w) =
      ⊎_elim (λ v. inl (inr (w.0, w.1, v.0), v.1)) (λ v. inr (v.0, inr (w.0, w.1, v.1), v.2)) (join_leads p q w.0 x w.2)

  leads_joined : (p q : Sequence ℕ) (σ : Pair) (x : Result) → Union (Φ̂ t p σ) (Φ̂ t q) x → Φ̂ t (join p q) σ x
  unfolding join
  leads_joined done q σ x (inl w) = absurd (state≢failed (sym w.0))
  leads_joined done q σ x (inr w) = subst (λ (ρ : Pair). Φ̂ t q ρ x) (state_same w.1) w.2
  leads_joined (item i p) q σ x (inl w) = ⊎_elim (λ v. inl (v.0, w.1)) (λ v. inr (v.0, v.1, leads_joined p q v.0 x (inl (v.2, w.1)))) w.0
  leads_joined (item i p) q σ x (inr w) =
      ⊎_elim (λ v. absurd (state≢failed v.1)) (λ v. inr (v.0, v.1, leads_joined p q v.0 x (inr (w.0, v.2, w.2)))) w.1

-- What is asked of an a-state: that the literals are true in it, or that the fluent is known whether.
abbrev pub holds_in : Conclusion → Pair → Bool
holds_in (knows Y) σ = each_of (true_in σ) Y
holds_in (knows_whether f) σ = either (true_in σ (says_true f)) (false_in σ (says_true f))

-- A LINE HOLDS: from every a-state in which X is true the plan does not fail, and leads only to a-states in which Y holds.
pub record Holds (t : Table) (X : List ℕ) (c : Sequence ℕ) (Y : Conclusion) : Type 0 where
  pub runs : (σ : Pair) → Disjoint σ → each_of (true_in σ) X ≡ true → Φ̂ t c σ failed → ⊥
  pub ends : (σ : Pair) → Disjoint σ → each_of (true_in σ) X ≡ true → (δ : Pair) → Φ̂ t c σ (state δ) → Disjoint δ × (holds_in Y δ ≡ true)

-- What the line claims holds.
abbrev Good : Table → Line → Type 0
Good t l = Holds t l.X l.c l.Y

-- A line holds with more in X, the same plan written elsewhere, and a conclusion that its own gives.
weaker : (t : Table) (X Z : List ℕ) (c d : Sequence ℕ) (Y W : Conclusion) → Holds t Z d W
    → ((σ : Pair) → each_of (true_in σ) X ≡ true → each_of (true_in σ) Z ≡ true) → same_plan d c ≡ true → ((δ : Pair) → holds_in W δ ≡ true → holds_in Y δ ≡ true)
    → Holds t X c Y
weaker t X Z c d Y W good more same less =
    record {
      runs = λ σ apart h z. good.runs σ apart (more σ h) (same_leads t d c same σ failed z);
      ends = λ σ apart h δ z. let m = good.ends σ apart (more σ h) δ (same_leads t d c same σ (state δ) z) in (m.0, less δ m.1);
    }

-- What a state knows, as a list, is known.
literals_known : (s : State) → each_of (known s) (literals_of s) ≡ true
unfolding literals_of
literals_known s = has_each _ _ (known_from_known s 0 s)

-- Where every literal of the one list is in the other, what is true of the other is true of it.
included_true : (xs ys : List ℕ) → included xs ys ≡ true → (σ : Pair) → each_of (true_in σ) ys ≡ true → each_of (true_in σ) xs ≡ true
unfolding included among
included_true xs ys e σ h =
    has_each _ xs (λ l m. let w = some_has _ ys (each_has _ xs l e m) in rw (eqb-true l w.0 w.2) (each_has _ ys w.0 h w.1))

-- THE RULES that ask nothing of the table.
-- A line that says X, c, Y and holds.
said : (t : Table) (l : Line) (X : List ℕ) (c : Sequence ℕ) (Y : Conclusion) → says l X c Y ≡ true → Good t l → Holds t X c Y
unfolding says
said t l X c Y e good =
    let x : l.X ≡ X = same_list_is l.X X (both_left _ _ e) in
    let y : l.Y ≡ Y = same_conclusion_is l.Y Y (both_right _ _ (both_right _ _ e)) in
    weaker t X l.X c l.c Y l.Y good (λ σ h. rw x h) (both_left _ _ (both_right _ _ e)) (λ δ h. rw (← y) h)

-- Rule 6. The part of a list is true where the list is.
part_holds : (Y Z : Conclusion) → part_of Y Z ≡ true → (δ : Pair) → holds_in Z δ ≡ true → holds_in Y δ ≡ true
unfolding part_of
part_holds (knows Y) (knows Z) e δ h = included_true Y Z e δ h
part_holds (knows Y) (knows_whether g) e δ h = absurd (false≢true e)
part_holds (knows_whether f) Z e δ h = absurd (false≢true e)

-- Rule 8. Where either literal of a fluent is true, the fluent is known whether.
either_tells : (l : ℕ) (δ : Pair) → true_in δ l ≡ true → holds_in (knows_whether (fluent_of l)) δ ≡ true
either_tells l δ h =
    rw (true_in_true δ (fluent_of l), false_in_true δ (fluent_of l))
    (⊎_elim
    (λ q. either_left _ _ (sym (true_in_true δ (fluent_of l)) ∙ subst (λ (k : ℕ). true_in δ k ≡ true) q h))
    (λ q. either_right _ _ (sym (true_in_false δ (fluent_of l)) ∙ subst (λ (k : ℕ). true_in δ k ≡ true) q h))
    (one_of_two l))

literal_holds : (f : ℕ) (Z : List ℕ) → one_literal f Z ≡ true → (δ : Pair) → each_of (true_in δ) Z ≡ true → holds_in (knows_whether f) δ ≡ true
unfolding one_literal each_of
literal_holds f [] e δ h = absurd (false≢true e)
literal_holds f (l ∷ []) e δ h = subst (λ (g : ℕ). holds_in (knows_whether g) δ ≡ true) (eqb-true _ f e) (either_tells l δ (both_left _ _ h))
literal_holds f (l ∷ (k ∷ ls)) e δ h = absurd (false≢true e)

settled_holds : (Z Y : Conclusion) → settles Z Y ≡ true → (δ : Pair) → holds_in Z δ ≡ true → holds_in Y δ ≡ true
unfolding settles
settled_holds (knows Z) (knows_whether f) e δ h = literal_holds f Z e δ h
settled_holds (knows Z) (knows Y) e δ h = absurd (false≢true e)
settled_holds (knows_whether g) Y e δ h = absurd (false≢true e)

module _ (t : Table) where
  rule_1_holds : (X : List ℕ) (c : Sequence ℕ) (Y : Conclusion) → same_plan c done ≡ true → same_conclusion Y (knows X) ≡ true → Holds t X c Y
  unfolding same_plan
  rule_1_holds X done Y e q =
      subst (Holds t X done) (sym (same_conclusion_is Y (knows X) q))
      (record {
        runs = λ σ apart h z. state≢failed (sym z);
        ends = λ σ apart h δ z. let same = state_same z in (subst Disjoint (sym same) apart, rw same h);
      })
  rule_1_holds X (item i rest) Y e q = absurd (false≢true e)

  -- Rules 5 and 11. What the first line leads to is where the second starts.
  rule_5_holds : (l first second : Line) → Good t first → Good t second → rule_5 first second l ≡ true → Good t l
  unfolding rule_5
  rule_5_holds l first second f g e =
      record {
        runs = λ σ apart h z. fails_at σ apart h (joined σ failed z);
        ends = λ σ apart h δ z. ends_at σ apart h δ (joined σ (state δ) z);
      }
    where
      start : Holds t l.X first.c (knows second.X)
      start =
          subst (λ (X : List ℕ). Holds t X first.c (knows second.X)) (same_list_is first.X l.X (both_left _ _ (both_left _ _ e)))
          (subst (Holds t first.X first.c) (same_conclusion_is first.Y (knows second.X) (both_right _ _ (both_left _ _ e))) f)

      then : Holds t second.X second.c l.Y
      then = subst (Holds t second.X second.c) (same_conclusion_is second.Y l.Y (both_left _ _ (both_right _ _ e))) g

      joined : (σ : Pair) (x : Result) → Φ̂ t l.c σ x → Union (Φ̂ t first.c σ) (Φ̂ t second.c) x
      joined σ x z = join_leads t first.c second.c σ x (same_leads t (join first.c second.c) l.c (both_right _ _ (both_right _ _ e)) σ x z)

      fails_at : (σ : Pair) → Disjoint σ → each_of (true_in σ) l.X ≡ true → Union (Φ̂ t first.c σ) (Φ̂ t second.c) failed → ⊥
      fails_at σ apart h (inl w) = start.runs σ apart h w.0
      fails_at σ apart h (inr w) = let m = start.ends σ apart h w.0 w.1 in then.runs w.0 m.0 m.1 w.2

      ends_at : (σ : Pair) → Disjoint σ → each_of (true_in σ) l.X ≡ true → (δ : Pair) → Union (Φ̂ t first.c σ) (Φ̂ t second.c) (state δ) → Disjoint δ × (holds_in l.Y δ ≡ true)
      ends_at σ apart h δ (inl w) = absurd (state≢failed w.1)
      ends_at σ apart h δ (inr w) = let m = start.ends σ apart h w.0 w.1 in then.ends w.0 m.0 m.1 δ w.2

  rule_6_holds : (l cited : Line) → Good t cited → rule_6 cited l ≡ true → Good t l
  unfolding rule_6
  rule_6_holds l cited good e =
      weaker t l.X cited.X l.c cited.c l.Y cited.Y good (included_true cited.X l.X (both_left _ _ e)) (both_left _ _ (both_right _ _ e))
      (part_holds l.Y cited.Y (both_right _ _ (both_right _ _ e)))

  rule_8_holds : (l cited : Line) → Good t cited → rule_8 cited l ≡ true → Good t l
  unfolding rule_8
  rule_8_holds l cited good e =
      let x : cited.X ≡ l.X = same_list_is _ _ (both_left _ _ e) in
      weaker t l.X cited.X l.c cited.c l.Y cited.Y good (λ σ h. rw x h) (both_left _ _ (both_right _ _ e))
      (settled_holds cited.Y l.Y (both_right _ _ (both_right _ _ e)))

  -- Rules 4 and 12. The branch taken is the one whose condition is true.
  abbrev Taken : List ℕ → Branches ℕ → Sequence ℕ → Conclusion → Line → Pair → Type 0
  Taken X bs rest Y cited σ = (b : Sequence ℕ) × (says cited X (join b rest) Y ≡ true) × ((x : Result) → Φ̂_case t bs σ x → Φ̂ t b σ x) × (NoneTrue bs σ → ⊥)

  taken : (X : List ℕ) (bs : Branches ℕ) (rest : Sequence ℕ) (Y : Conclusion) (cited : Line) → takes_branch X bs rest Y cited ≡ true → all_exclusive (conditions_of bs) ≡ true
      → (σ : Pair) → Disjoint σ → each_of (true_in σ) X ≡ true → Taken X bs rest Y cited σ
  unfolding takes_branch conditions_of all_exclusive
  taken X none rest Y cited e apart σ d h = absurd (false≢true e)
  taken X (branch c b bs) rest Y cited e apart σ d h =
      ⊎_elim here (λ w. later (taken X bs rest Y cited w (both_right _ _ apart) σ d h)) (either_split _ _ e)
    where
      others : each_of (true_in σ) c ≡ true → NoneTrue bs σ
      others holds = others_false σ d c holds bs (both_left _ _ apart)

      here : both (included c X) (says cited X (join b rest) Y) ≡ true → Taken X (branch c b bs) rest Y cited σ
      here w =
          let holds = included_true c X (both_left _ _ w) σ h in
          (b, both_right _ _ w, λ x z. ⊎_elim (λ v. v.1) (λ v. absurd (none_chosen (Φ t) bs σ x (others holds) v)) z, λ n. clash holds n.0)

      later : Taken X bs rest Y cited σ → Taken X (branch c b bs) rest Y cited σ
      later m = (m.0, m.1, λ x z. ⊎_elim (λ v. absurd (m.3 (others v.0))) (m.2 x) z, λ n. m.3 n.1)

  rule_4_holds : (X : List ℕ) (p : ℕ) (bs : Branches ℕ) (rest : Sequence ℕ) (Y : Conclusion) (cited : Line) → Good t cited
      → takes_branch X bs rest Y cited ≡ true → all_exclusive (conditions_of bs) ≡ true → Holds t X (item (branching p bs) rest) Y
  unfolding says
  rule_4_holds X p bs rest Y cited good e apart =
      record { runs = λ σ d h z. (go σ d h).runs σ d h (led σ d h failed z); ends = λ σ d h δ z. (go σ d h).ends σ d h δ (led σ d h (state δ) z) }
    where
      at : (σ : Pair) → Disjoint σ → each_of (true_in σ) X ≡ true → Taken X bs rest Y cited σ
      at = taken X bs rest Y cited e apart

      go : (σ : Pair) (d : Disjoint σ) (h : each_of (true_in σ) X ≡ true) → Holds t X (join (at σ d h).0 rest) Y
      go σ d h = said t cited X _ Y (at σ d h).1 good

      led : (σ : Pair) (d : Disjoint σ) (h : each_of (true_in σ) X ≡ true) (x : Result) → Φ̂ t (item (branching p bs) rest) σ x → Φ̂ t (join (at σ d h).0 rest) σ x
      led σ d h x z = leads_joined t (at σ d h).0 rest σ x (in_branch z)
        where
          in_branch : Union (λ y. Φ̂_item t (branching p bs) σ y) (Φ̂ t rest) x → Union (Φ̂ t (at σ d h).0 σ) (Φ̂ t rest) x
          in_branch (inl w) = inl (⊎_elim ((at σ d h).2 failed) (λ v. absurd ((at σ d h).3 v.0)) w.0, w.1)
          in_branch (inr w) = inr (w.0, ⊎_elim ((at σ d h).2 (state w.0)) (λ v. absurd ((at σ d h).3 v.0)) w.1, w.2)

-- THE RULES over the table, whose lines are within the states.
-- Each reading has its line.
reading_cited : (rest : Sequence ℕ) (Y : Conclusion) (ss : List State) (ls : List Line) → each_reads rest Y ss ls ≡ true → (u : State) → Has ss u → (l : Line) × Has ls l × (says l (literals_of u) rest Y ≡ true)
unfolding each_reads
reading_cited rest Y [] [] e u h = absurd h
reading_cited rest Y [] (l ∷ ls) e u h = absurd h
reading_cited rest Y (s ∷ ss) [] e u h = absurd (false≢true e)
reading_cited rest Y (s ∷ ss) (l ∷ ls) e u h =
    ⊎_elim (λ q. (l, inl refl, rw q (both_left _ _ e))) (λ m. let w = reading_cited rest Y ss ls (both_right _ _ e) u m in (w.0, inr w.1, w.2)) h

module _ (lim : Limits) (t : Table) (effects_within : (e : Effect) → Has t.effects e → e.literal < 2 * lim.state) (knowledge_within : (k : Knowledge) → Has t.knowledge k → k.fluent < lim.state) where
  -- The state of X is below every a-state in which X is true.
  below : (X : List ℕ) → Clear lim X → (σ : Pair) → each_of (true_in σ) X ≡ true → pair_of (state_of lim X) ≼ σ
  unfolding pair_of among
  below X clear σ h = record { T = λ f e. sym (true_in_true σ f) ∙ there (says_true f) e; F = λ f e. sym (true_in_false σ f) ∙ there (says_false f) e }
    where
      there : (l : ℕ) → known (state_of lim X) l ≡ true → true_in σ l ≡ true
      there l e = let w = some_has (eqb l) X (sym (state_known lim X clear l) ∙ e) in rw (eqb-true l w.0 w.2) (each_has _ X w.0 h w.1)

  can_run : (X : List ℕ) → Clear lim X → (a : ℕ) → can_be_run t a (state_of lim X) ≡ true → (σ : Pair) → each_of (true_in σ) X ≡ true → executable t a σ ≡ true
  can_run X clear a run σ h = executable_grows t a (below X clear σ h) (runs_pair t a (state_of lim X) ∙ run)

  -- A single action: from every a-state in which X is true it can be run, and it leads only to a-states in which Y holds.
  action_holds : (X : List ℕ) (Y : Conclusion) → Clear lim X → (p a : ℕ) → can_be_run t a (state_of lim X) ≡ true
      → ((σ : Pair) → Disjoint σ → each_of (true_in σ) X ≡ true → (ρ : Pair) → Φ t a σ (state ρ) → Disjoint ρ × (holds_in Y ρ ≡ true)) → Holds t X (item (act p a) done) Y
  action_holds X Y clear p a run after =
      record {
        runs = λ σ d h z. ⊎_elim (λ w. clash (can_run X clear a run σ h) w.0) (λ w. state≢failed (sym w.2)) z;
        ends = λ σ d h δ z. ⊎_elim (λ w. absurd (state≢failed w.1)) (λ w. subst (λ (ρ : Pair). Disjoint ρ × (holds_in Y ρ ≡ true)) (sym (state_same w.2)) (after σ d h w.0 w.1)) z;
      }

  rule_2_holds : (X : List ℕ) (Y : Conclusion) → Clear lim X → (p a : ℕ) → sensing t a ≡ false → can_be_run t a (state_of lim X) ≡ true
      → same_conclusion Y (knows (literals_of (state_after t a (state_of lim X)))) ≡ true → Holds t X (item (act p a) done) Y
  rule_2_holds X Y clear p a plain run same = action_holds X Y clear p a run after
    where
      u : State
      u = state_after t a (state_of lim X)

      after : (σ : Pair) → Disjoint σ → each_of (true_in σ) X ≡ true → (ρ : Pair) → Φ t a σ (state ρ) → Disjoint ρ × (holds_in Y ρ ≡ true)
      after σ d h ρ z =
          ⊎_elim
          (λ w. rw w.1 (ResDisjoint t a σ d, rw (same_conclusion_is Y (knows (literals_of u)) same) (knows_true u (Res t a σ) (more σ h) (literals_of u) (literals_known u))))
          (λ w. clash (sym (sensing_pair t a) ∙ w.0) plain)
          z.1
        where
          more : (σ : Pair) → each_of (true_in σ) X ≡ true → pair_of u ≼ Res t a σ
          more σ h = rw (pair_after t a (state_of lim X) (λ n m. rw (state_length lim X) (effects_within n m))) (ResGrows t a (below X clear σ h))

  -- Rule 7. What an action determines is known after it, whatever was known before.
  rule_7_holds : (X : List ℕ) (Y : Conclusion) → Clear lim X → (p a : ℕ) → looks_for lim t Y a (state_of lim X) ≡ true → Holds t X (item (act p a) done) Y
  unfolding looks_for K sensing_action
  rule_7_holds X (knows Y) clear p a e = absurd (false≢true e)
  rule_7_holds X (knows_whether f) clear p a e =
      action_holds X (knows_whether f) clear p a (both_right _ _ e)
      (λ σ d h ρ z. ⊎_elim (λ w. clash looks w.0) (λ w. (w.1.disjoint, rw (true_in_true ρ f, false_in_true ρ f) (w.1.domain f ∙ either_right _ _ determined))) z.1)
    where
      determined : K t a f ≡ true
      determined = senses_pair t a f ∙ both_left _ _ e

      looks : sensing_action t a ≡ true
      looks = some_mono _ _ (λ k. both_left _ _) t.knowledge determined

  -- Rules 3 and 10. Each a-state that the action leads to is above some reading, and the line of that reading holds.
  rule_3_holds : (X : List ℕ) (Y : Conclusion) → Clear lim X → (p a : ℕ) (rest : Sequence ℕ) (cited : List Line) → sensing t a ≡ true → can_be_run t a (state_of lim X) ≡ true
      → each_reads rest Y (states_of (readings (unknown_sensed t a (state_of lim X)) (state_of lim X))) cited ≡ true
      → ((l : Line) → Has cited l → Good t l) → Holds t X (item (act p a) rest) Y
  rule_3_holds X Y clear p a rest cited senses run each good =
      record {
        runs = λ σ d h z. ⊎_elim (λ w. clash (can_run X clear a run σ h) w.0) (λ w. let m = after σ h w.0 w.1 in m.1.runs w.0 m.2 m.3 w.2) z;
        ends = λ σ d h δ z. ⊎_elim (λ w. absurd (state≢failed w.1)) (λ w. let m = after σ h w.0 w.1 in m.1.ends w.0 m.2 m.3 δ w.2) z;
      }
    where
      s : State
      s = state_of lim X

      after : (σ : Pair) → each_of (true_in σ) X ≡ true → (ρ : Pair) → Φ t a σ (state ρ) → (u : State) × Holds t (literals_of u) rest Y × Disjoint ρ × (each_of (true_in ρ) (literals_of u) ≡ true)
      after σ h ρ z = ⊎_elim (λ w. clash senses (sym (sensing_pair t a) ∙ w.0)) (λ w. read w.1) z.1
        where
          read : Sensed t a σ ρ → (u : State) × Holds t (literals_of u) rest Y × Disjoint ρ × (each_of (true_in ρ) (literals_of u) ≡ true)
          read seen =
              let v = reading_follows t a s (λ n m. rw (state_length lim X) (knowledge_within n m)) ρ (≼_trans (below X clear σ h) seen.extends) (λ f e. seen.domain f ∙ either_right _ _ e) in
              let c = reading_cited rest Y _ cited each v.0 (arrived (readings (unknown_sensed t a s) s) v.0 v.1) in
              (v.0, said t c.0 (literals_of v.0) rest Y c.2 (good c.0 c.1), seen.disjoint, knows_true v.0 ρ v.3 (literals_of v.0) (literals_known v.0))

  -- A line that follows from lines that hold, holds: its X is clear and its plan's conditions are exclusive.
  module _ (cited : List Line) (good : (l : Line) → Has cited l → Good t l) where
    acts_holds : (l : Line) → Clear lim l.X → (c : Sequence ℕ) → one_action lim t l c ≡ true → Holds t l.X c l.Y
    unfolding one_action acts
    acts_holds l clear done e = absurd (false≢true e)
    acts_holds l clear (item (act p a) done) e =
        rule_2_holds l.X l.Y clear p a (fails_true _ (both_left _ _ e)) (both_left _ _ (both_right _ _ e)) (both_right _ _ (both_right _ _ e))
    acts_holds l clear (item (act p a) (item i rest)) e = absurd (false≢true e)
    acts_holds l clear (item (branching p bs) rest) e = absurd (false≢true e)

    looks_holds : (l : Line) → Clear lim l.X → (c : Sequence ℕ) → one_look lim t l c ≡ true → Holds t l.X c l.Y
    unfolding one_look
    looks_holds l clear done e = absurd (false≢true e)
    looks_holds l clear (item (act p a) done) e = rule_7_holds l.X l.Y clear p a e
    looks_holds l clear (item (act p a) (item i rest)) e = absurd (false≢true e)
    looks_holds l clear (item (branching p bs) rest) e = absurd (false≢true e)

    senses_holds : (l : Line) → Clear lim l.X → (c : Sequence ℕ) → senses_first lim t cited l c ≡ true → Holds t l.X c l.Y
    unfolding senses_first reads
    senses_holds l clear done e = absurd (false≢true e)
    senses_holds l clear (item (act p a) rest) e =
        rule_3_holds l.X l.Y clear p a rest cited (both_left _ _ e) (both_left _ _ (both_right _ _ e))
        (pick-cases _ _ _ (both_right _ _ (both_right _ _ e)) (λ _ r. r) (λ _ r. absurd (false≢true r))) good
    senses_holds l clear (item (branching p bs) rest) e = absurd (false≢true e)

    branches_hold : (l k : Line) → Good t k → (c : Sequence ℕ) → Fit c → branches_first k l c ≡ true → Holds t l.X c l.Y
    unfolding branches_first
    branches_hold l k h done fit e = absurd (false≢true e)
    branches_hold l k h (item (act p a) rest) fit e = absurd (false≢true e)
    branches_hold l k h (item (branching p bs) rest) fit e = rule_4_holds t l.X p bs rest l.Y k h e fit.0.0

    one_cited : (test : Line → Bool) → of_one test cited ≡ true → (l : Line) × Good t l × (test l ≡ true)
    one_cited test e = let w = one_only test cited e in (w.0, good w.0 (subst (λ (xs : List Line). Has xs w.0) (sym w.1) (inl refl)), w.2)

    two_cited : (test : Line → Line → Bool) → of_two test cited ≡ true → (l k : Line) × Good t l × Good t k × (test l k ≡ true)
    two_cited test e =
        let w = two_only test cited e in
        let has : (x : Line) → Has (w.0 ∷ w.1 ∷ []) x → Has cited x = λ x. subst (λ (xs : List Line). Has xs x) (sym w.2) in
        (w.0, w.1, good w.0 (has w.0 (inl refl)), good w.1 (has w.1 (inr (inl refl))), w.3)

    -- Whatever rule is taken.
    given_holds : (rule : ℕ) (l : Line) → Clear lim l.X → Fit l.c → given_by lim t rule cited l ≡ true → Good t l
    unfolding given_by rule_1 rule_2 rule_3 rule_4 rule_7
    given_holds rule l clear fit e =
        pick-cases _ _ _ e (λ _ r. rule_1_holds t l.X l.c l.Y (both_left _ _ r) (both_right _ _ r)) λ _ e₂.
        pick-cases _ _ _ e₂ (λ _ r. acts_holds l clear l.c r) λ _ e₃.
        pick-cases _ _ _ e₃ (λ _ r. senses_holds l clear l.c r) λ _ e₄.
        pick-cases _ _ _ e₄ (λ _ r. let w = one_cited _ r in branches_hold l w.0 w.1 l.c fit w.2) λ _ e₅.
        pick-cases _ _ _ e₅ (λ _ r. let w = two_cited _ r in rule_5_holds t l w.0 w.1 w.2 w.3 w.4) λ _ e₆.
        pick-cases _ _ _ e₆ (λ _ r. let w = one_cited _ r in rule_6_holds t l w.0 w.1 w.2) λ _ e₇.
        pick-cases _ _ _ e₇ (λ _ r. looks_holds l clear l.c r) λ _ r.
        let w = one_cited _ r in rule_8_holds t l w.0 w.1 w.2

    line_holds : (l : Line) → Clear lim l.X → Fit l.c → follows lim t cited l ≡ true → Good t l
    unfolding follows
    line_holds l clear fit e = given_holds (for_lists l.rule) l clear fit e

  -- THE INDUCTION. `ls` are the lines from number i on; those before hold.
  cited_good : (lines : List Line) (i : ℕ) → ((k : ℕ) → k < i → (d : Line) → Good t (get_or lines k d)) → (l : Line) → each_of (λ (k : ℕ). ltb k i) l.cites ≡ true → (x : Line) → Has (cited_by lines l) x → Good t x
  unfolding cited_by
  cited_good lines i earlier l e x h =
      let w = map_has (λ (k : ℕ). get_or lines k l) l.cites x h in
      subst (Good t) (sym w.2) (earlier w.0 (ltb-true w.0 i (each_has _ l.cites w.0 e w.1)) l)

  lines_hold : (layout : Layout) (lines : List Line) (i : ℕ) (ls : List Line) → ((k : ℕ) → k < length ls → (d : Line) → get_or lines (i + k) d ≡ get_or ls k d)
      → ((k : ℕ) → k < i → (d : Line) → Good t (get_or lines k d))
      → AllPass lim layout t lines i ls → ((l : Line) → Has ls l → Clear lim l.X) → ((l : Line) → Has ls l → Fit l.c)
      → (l : Line) → Has ls l → Good t l
  lines_hold layout lines i [] at earlier all clear fits l h = absurd h
  lines_hold layout lines i (x ∷ xs) at earlier all clear fits l h =
      ⊎_elim (λ q. rw q here)
      (lines_hold layout lines (i + 1) xs (λ k lt d. ap (λ (j : ℕ). get_or lines j d) (omega arith) ∙ at (suc k) (omega arith) d) before all.1 (λ y m. clear y (inr m)) (λ y m. fits y (inr m)) l)
      h
    where
      here : Good t x
      here = line_holds (cited_by lines x) (cited_good lines i earlier x all.0.earlier) x (clear x (inl refl)) (fits x (inl refl)) all.0.gives

      before : (k : ℕ) → k < i + 1 → (d : Line) → Good t (get_or lines k d)
      before k lt d = elim (dec_lt k i) [ yes less ↦ earlier k less d | no not-less ↦ subst (Good t) (sym (ap (λ (j : ℕ). get_or lines j d) (omega arith) ∙ at 0 (omega arith) d)) here ]

-- WHAT WAS READ. The plan's conditions of each line are exclusive.
lines_fit : (lines : List Line) → overlap_in_lines lines ≡ nowhere → (l : Line) → Has lines l → Fit l.c
unfolding overlap_in_lines
lines_fit [] e l h = absurd h
lines_fit (x ∷ xs) e l h = let w = or_else_nowhere (overlap_in x.c) _ e in ⊎_elim (λ q. rw q (fit x.c w.0)) (lines_fit xs w.1 l) h

-- WHAT ANSWERS. For each thing asked some line asks for it: the last one, or one that the closing list names.
abbrev Asks : Request → List Line → Conclusion → Type 0
Asks r lines Y = (l : Line) × Has lines l × (asks_for r Y l ≡ true)

last_asks : (r : Request) (lines : List Line) → LastPasses r lines → Asks r lines (goals_of r)
last_asks r [] h = absurd h
last_asks r (l ∷ []) h = (l, inl refl, h)
last_asks r (l ∷ (k ∷ ls)) h = let w = last_asks r (k ∷ ls) h in (w.0, inr w.1, w.2)

named_asks : (r : Request) (lines : List Line) (k : ℕ) (Y : Conclusion) → names r lines k Y ≡ true → Asks r lines Y
unfolding names
named_asks r [] k Y e = absurd (false≢true e)
named_asks r (l ∷ ls) zero Y e = (l, inl refl, e)
named_asks r (l ∷ ls) (suc k) Y e = let w = named_asks r ls k Y e in (w.0, inr w.1, w.2)

all_named_ask : (r : Request) (lines : List Line) (Ys : List Conclusion) (ks : List ℕ) → EntriesPass r lines Ys ks → (Y : Conclusion) → Has Ys Y → Asks r lines Y
all_named_ask r lines [] ks all Y h = absurd h
all_named_ask r lines (Z ∷ Zs) [] all Y h = absurd all
all_named_ask r lines (Z ∷ Zs) (k ∷ ks) all Y h = ⊎_elim (λ q. rw q (named_asks r lines k Z all.0)) (all_named_ask r lines Zs ks all.1 Y) h

answered_asks : (layout : Layout) (r : Request) (d : Derivation) → EndPasses layout r d → (Y : Conclusion) → Has (all_asked r) Y → Asks r d.lines Y
unfolding all_asked
answered_asks Plain r d a Y h =
    ⊎_elim (λ q. rw q (last_asks r d.lines a.1))
    (λ k. absurd (subst (λ (ws : List Entry). Has (map (λ (w : Entry). knows_whether w.value) ws) Y) a.0 k)) h
answered_asks Closing r d a Y h = all_named_ask r d.lines (all_asked r) d.closing a Y h

-- THEOREMS 3.1 and 3.3. What an accepted derivation asks is entailed, and the walk verifies it without a budget.
module _ (lim : Limits) (room : lim.fluents ≤ lim.state) (layout : Layout) (request derivation : List ℕ) (a : Passed lim layout request derivation) where
  ranged : Ranged lim a.asks.table
  ranged = read_ranged lim request a.asks a.end (settled_is lim request a.asks a.end a.request_settled).reads

  asked_holds : (Y : Conclusion) → Has (all_asked a.asks) Y → Holds a.asks.table a.asks.table.facts a.asks.plan Y
  unfolding asks_for
  asked_holds Y h =
      let asking = answered_asks layout a.asks a.reads a.answered Y h in
      said a.asks.table asking.0 _ _ _ asking.2
      (lines_hold lim a.asks.table (λ e h. omega (arith, ranged.effects e h, ranged.fluents)) (λ k h. omega (arith, ranged.knowledge k h, ranged.fluents))
      layout a.reads.lines 0 a.reads.lines (λ k lt d. ap (λ (j : ℕ). get_or a.reads.lines j d) (omega arith)) (λ k lt d. absurd (omega arith)) a.all_follow
      (λ l h. (lines_read lim _ _ (omega (arith, ranged.fluents)) derivation layout a.reads a.derivation_end a.derivation_read l h).proper.XClear) (lines_fit a.reads.lines a.no_overlap)
      asking.0 asking.1)

  entails : (Y : Conclusion) → Has (all_asked a.asks) Y → Entails a.asks.table a.asks.plan (holds_in Y)
  entails Y h = let holds = asked_holds Y h in
      record { executable = λ σ i z. holds.runs σ i.disjoint i.facts z; true_after = λ σ i δ z. (holds.ends σ i.disjoint i.facts δ z).1 }

  asked_entailed : Entailed a.asks
  unfolding all_asked goals_of values
  asked_entailed = (
    entails (goals_of a.asks) (inl refl),
    λ f h. let w = map_has (λ (e : Entry). e.value) a.asks.whether f h in
        rw w.2 (entails (knows_whether w.0.value) (inr (has_map (λ (e : Entry). knows_whether e.value) a.asks.whether w.0 w.1))),
  )

  pub accepted_verified : Verified (walked a.asks (first_state lim a.asks.table))
  accepted_verified = entailed_fine lim room request a.asks a.end a.request_settled asked_entailed

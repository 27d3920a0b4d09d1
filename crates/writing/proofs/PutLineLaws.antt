-- A line as it is put, part after part: what is known, a plan, a conclusion and a rule with its citations. Assumes nothing.
use Prim.Native.Nat.{ℕ, suc, ◌+◌, ◌-◌, ◌≤◌, ◌<◌}
use native.Mathlib.Omega.{arith}
use mathlib.Core.Path.{◌≡◌, refl, sym, ◌∙◌, ap, ap₂}
use mathlib.Core.List.{List, [], ◌∷◌, ◌++◌, append_assoc}
use lib.ListN.{length, length-append, get_or, take, drop, set}
use lib.Seq.{sets}
use mir.Syntax.{w64}
use mir.Val.{Fits}
use Rattle.meaning.specs.declared.Layout.TheVariants.{Plain}
use Rattle.meaning.specs.Limits
use Rattle.meaning.specs.Limits.{format, all_literals}
use Rattle.meaning.specs.Requests.{Sequence, done, item, act}
use Rattle.meaning.specs.Reading.{literals}
use Rattle.meaning.specs.States.{State}
use Rattle.meaning.specs.Derivations.{Conclusion, knows, literals_of, goals_of}
use Rattle.meaning.specs.Layouts.{list_written, number_written, numbers_written, items_in, items_written, plan_written, conclusion_written, concluded_written, line_written}
use Rattle.meaning.specs.Schemes.{line_of}
use Rattle.meaning.proofs.MovedReads.{stands_length, list_copied}
use Rattle.meaning.proofs.ReadLines.{placed_values}
use Rattle.reading.specs.Noted.{goals_slot}
use Rattle.reading.specs.Listed.{listed, ListHere}
use Rattle.finding.specs.Branches.{sequence_place}
use Rattle.steps.specs.Held.{table_in, goals_in, whether_in, request_in}
use Rattle.steps.specs.AtHand.{AtHand}
use Rattle.steps.proofs.HandLaws.{goals_here, is_whether}
use Rattle.steps.proofs.StoreLaws.{stores_behind}
use Rattle.writing.proofs.ItemStands.{stands_taken}
use Rattle.meaning.specs.declared.Form.TheVariants.{Flags}

-- ONE PART behind another.
module _ (q p : ℕ) (xs ys : List ℕ) (at : p ≡ q + length xs) where
  pub put_behind : (room mid after : List ℕ) → mid ≡ sets room q xs → after ≡ sets mid p ys → after ≡ sets room q (xs ++ ys)
  put_behind room mid after first second = second ∙ ap₂ (λ (zs : List ℕ) (j : ℕ). sets zs j ys) first at ∙ sym (stores_behind xs ys room q)

  pub ends_behind : (end : ℕ) → end ≡ p + length ys → end ≡ q + length (xs ++ ys)
  ends_behind end is = let sum = length-append xs ys in omega (arith, at, is, sum)

-- A CONCLUSION by a rule that cites nothing.
module _ (q ruled rule : ℕ) (xs : List ℕ) (at : ruled ≡ q + length xs) where
  pub uncited_ends : ruled + 2 ≡ q + length (xs ++ (rule ∷ 0 ∷ []))
  uncited_ends = ends_behind q ruled xs (rule ∷ 0 ∷ []) at (ruled + 2) refl

  pub uncited_put : (byte : ℕ) → byte ≡ rule → (room known mid after : List ℕ) → known ≡ sets room q xs → mid ≡ set known ruled byte → after ≡ set mid (ruled + 1) 0 → after ≡ sets room q (xs ++ (rule ∷ 0 ∷ []))
  uncited_put byte is room known mid after first second third =
      let on : ruled + 1 ≡ suc ruled = omega arith in
      put_behind q ruled xs (rule ∷ 0 ∷ []) at room known after first (third ∙ ap₂ (λ (zs : List ℕ) (j : ℕ). set zs j 0) (second ∙ ap (set known ruled) is) on)

-- THE GOALS, which stand in the request from their count on.
module _ (s t : List ℕ) (here : AtHand Flags s t) (goals : ℕ) (slot : goals ≡ get_or t goals_slot 0) where
  pub goals_there : ListHere all_literals s goals
  goals_there = goals_here s t here goals slot

  module _ (end : ℕ) (ends : end ≡ sequence_place Flags s goals) where
    pub goals_order : goals ≤ end
    unfolding sequence_place
    goals_order = omega (arith, ends)

    pub goals_inside : end ≤ length s
    unfolding sequence_place
    goals_inside = let inside = goals_there.ends in omega (arith, ends, inside)

    goals_short : end - goals ≤ 256
    unfolding sequence_place
    goals_short = let byte = here.bytes goals in omega (arith, ends, byte)

    pub goals_fit : (q : ℕ) → q < 140737488355328 → Fits w64 (q + (end - goals))
    goals_fit q near = let short = goals_short in record { fits = omega (arith, near, short) }

    pub goals_within : (q : ℕ) → q + (end - goals) ≤ q + 256
    goals_within q = let short = goals_short in omega (arith, short)

    at_slot : goals ≡ goals_in t
    unfolding goals_in
    at_slot = slot

    goals_stand : (length (list_written (listed s goals)) ≡ end - goals) × (take (length (list_written (listed s goals))) (drop goals s) ≡ list_written (listed s goals))
    goals_stand =
        let st = ((list_copied literals (table_in Flags s).fluents s format.listed (goals_in t)).holds (listed s (goals_in t)) (whether_in Flags s t) here.goals).there in
        let long = stands_length s (goals_in t) (list_written (listed s (goals_in t))) (whether_in Flags s t) st in
        let last = is_whether s t here goals slot end ends in
        let at = at_slot in
        let order = goals_order in
        let same : length (list_written (listed s goals)) ≡ length (list_written (listed s (goals_in t))) = ap (λ (p : ℕ). length (list_written (listed s p))) at in
        (omega (arith, long, last, at, order, same), rw at (stands_taken s (goals_in t) (list_written (listed s (goals_in t))) (whether_in Flags s t) st))

    asked_are : conclusion_written (goals_of (request_in Flags s t)) ≡ list_written (listed s goals)
    unfolding conclusion_written goals_of request_in
    asked_are = rw at_slot (ap list_written (placed_values (goals_in t + 1) (listed s (goals_in t))))

    goals_part : take (end - goals) (drop goals s) ≡ conclusion_written (goals_of (request_in Flags s t))
    goals_part = ap (λ (n : ℕ). take n (drop goals s)) (sym goals_stand.0) ∙ goals_stand.1 ∙ sym asked_are

    pub goals_end : (q : ℕ) → q + (end - goals) ≡ q + length (conclusion_written (goals_of (request_in Flags s t)))
    goals_end q = ap (λ (n : ℕ). q + n) (sym goals_stand.0 ∙ ap length (sym asked_are))

    pub goals_put : (room after : List ℕ) (q : ℕ) → after ≡ sets room q (take (end - goals) (drop goals s)) → after ≡ sets room q (conclusion_written (goals_of (request_in Flags s t)))
    goals_put room after q put = put ∙ ap (λ (xs : List ℕ). sets room q xs) goals_part

-- THE PARTS of a line in the plain layout.
pub line_parts : (s : State) (c : Sequence ℕ) (Y : Conclusion) (rule : ℕ) (cites : List ℕ)
    → list_written (literals_of s) ++ (plan_written c ++ (conclusion_written Y ++ (rule ∷ length cites ∷ numbers_written cites))) ≡ line_written Plain (line_of s c Y rule cites)
unfolding line_written line_of concluded_written
line_parts s c Y rule cites =
    ap (λ (xs : List ℕ). list_written (literals_of s) ++ (plan_written c ++ xs)) (sym (append_assoc (conclusion_written Y) (rule ∷ []) (length cites ∷ numbers_written cites)))

-- A line from q on up to its end.
pub record LinePut (room : List ℕ) (q : ℕ) (s : State) (c : Sequence ℕ) (Y : Conclusion) (rule : ℕ) (cites : List ℕ) (after : List ℕ) (end : ℕ) : Type 0 where
  pub put : after ≡ sets room q (line_written Plain (line_of s c Y rule cites))
  pub ends : end ≡ q + length (line_written Plain (line_of s c Y rule cites))

module _ (s : State) (room first : List ℕ) (q plan : ℕ) (known : first ≡ sets room q (list_written (literals_of s))) (at : plan ≡ q + length (list_written (literals_of s))) where
  -- From its plan and what is behind it.
  line_from : (c : Sequence ℕ) (Y : Conclusion) (rule : ℕ) (cites : List ℕ) (after : List ℕ) (end : ℕ)
      → after ≡ sets first plan (plan_written c ++ (conclusion_written Y ++ (rule ∷ length cites ∷ numbers_written cites)))
      → end ≡ plan + length (plan_written c ++ (conclusion_written Y ++ (rule ∷ length cites ∷ numbers_written cites)))
      → LinePut room q s c Y rule cites after end
  line_from c Y rule cites after end put ends =
      let rest : List ℕ = plan_written c ++ (conclusion_written Y ++ (rule ∷ length cites ∷ numbers_written cites)) in
      let same = line_parts s c Y rule cites in
      record {
        put = put_behind q plan (list_written (literals_of s)) rest at room first after known put ∙ ap (λ (xs : List ℕ). sets room q xs) same;
        ends = ends_behind q plan (list_written (literals_of s)) rest at end ends ∙ ap (λ (xs : List ℕ). q + length xs) same;
      }

  -- The empty plan.
  pub empty_line : (mid after : List ℕ) (end : ℕ) → mid ≡ sets first plan (number_written 0) → after ≡ sets mid (plan + 2) (list_written (literals_of s) ++ (1 ∷ 0 ∷ [])) → end ≡ plan + 2 + length (list_written (literals_of s) ++ (1 ∷ 0 ∷ []))
      → LinePut room q s done (knows (literals_of s)) Limits.empty_rule [] after end
  unfolding plan_written items_in items_written number_written numbers_written conclusion_written
  empty_line mid after end second third ends =
      let rest : List ℕ = list_written (literals_of s) ++ (1 ∷ 0 ∷ []) in
      line_from done (knows (literals_of s)) Limits.empty_rule [] after end
      (put_behind plan (plan + 2) (0 ∷ 0 ∷ []) rest refl first mid after second third) (ends_behind plan (plan + 2) (0 ∷ 0 ∷ []) rest refl end ends)

  -- One action.
  pub action_line : (a : ℕ) (later : State) (counted mid after : List ℕ) (end : ℕ) → counted ≡ sets first plan (number_written 1) → mid ≡ set counted (plan + 2) a
      → after ≡ sets mid (plan + 3) (list_written (literals_of later) ++ (2 ∷ 0 ∷ [])) → end ≡ plan + 3 + length (list_written (literals_of later) ++ (2 ∷ 0 ∷ []))
      → LinePut room q s (item (act 0 a) done) (knows (literals_of later)) Limits.action_rule [] after end
  unfolding plan_written items_in items_written number_written numbers_written conclusion_written
  action_line a later counted mid after end second third fourth ends =
      let rest : List ℕ = list_written (literals_of later) ++ (2 ∷ 0 ∷ []) in
      let on : plan + 2 ≡ suc (suc plan) = omega arith in
      line_from (item (act 0 a) done) (knows (literals_of later)) Limits.action_rule [] after end
      (put_behind plan (plan + 3) (0 ∷ 1 ∷ a ∷ []) rest refl first mid after (third ∙ ap₂ (λ (zs : List ℕ) (j : ℕ). set zs j a) second on) fourth)
      (ends_behind plan (plan + 3) (0 ∷ 1 ∷ a ∷ []) rest refl end ends)

  -- Any plan, conclusion and rule.
  pub cited_line : (c : Sequence ℕ) (Y : Conclusion) (rule : ℕ) (cites : List ℕ) (second third fourth after : List ℕ) (concluded ruled end : ℕ)
      → second ≡ sets first plan (plan_written c) → concluded ≡ plan + length (plan_written c)
      → third ≡ sets second concluded (conclusion_written Y) → ruled ≡ concluded + length (conclusion_written Y)
      → (byte : ℕ) → byte ≡ rule → fourth ≡ set third ruled byte
      → after ≡ sets fourth (ruled + 1) (length cites ∷ numbers_written cites) → end ≡ ruled + 1 + (1 + length (numbers_written cites))
      → LinePut room q s c Y rule cites after end
  cited_line c Y rule cites second third fourth after concluded ruled end two at-two three at-three byte is four five ends =
      let last : List ℕ = rule ∷ length cites ∷ numbers_written cites in
      let on : ruled + 1 ≡ suc ruled = omega arith in
      let tail : after ≡ sets third ruled last = five ∙ ap₂ (λ (zs : List ℕ) (j : ℕ). sets zs j (length cites ∷ numbers_written cites)) (four ∙ ap (set third ruled) is) on in
      let far : end ≡ ruled + length last = omega (arith, ends) in
      line_from c Y rule cites after end
      (put_behind plan concluded (plan_written c) (conclusion_written Y ++ last) at-two first second after two
      (put_behind concluded ruled (conclusion_written Y) last at-three second third after three tail))
      (ends_behind plan concluded (plan_written c) (conclusion_written Y ++ last) at-two end (ends_behind concluded ruled (conclusion_written Y) last at-three end far))

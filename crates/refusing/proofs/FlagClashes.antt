-- Two effects of flags against each other, by the states of their bodies. Assumes nothing.
use Prim.Native.Nat.{ℕ, ◌+◌, ◌*◌, ◌/◌, ◌%◌}
use mathlib.Core.Path.{◌≡◌, refl, sym, ◌∙◌, ap, ap₂, fun_ext}
use mathlib.Core.Bool.{Bool, true, false}
use mathlib.Core.List.{List, [], ◌∷◌}
use native.Mathlib.Decide.{ℕ_discrete}
use mathlib.Core.Logic.{⊎_elim}
use lib.ListN.{get_or}
use lib.Dec.{eqb}
use borrow.Author.Tests.{eqb-true, eq-eqb, ne_eqb}
use Rattle.meaning.specs.Tests.{both, either, fails, some_of, each_of}
use Rattle.meaning.specs.Limits.{format}
use Rattle.meaning.specs.Literals.{complement, fluent_of, among, exclusive}
use Rattle.meaning.specs.Requests.{Effect, Executability, Table}
use Rattle.meaning.specs.Lines.{executability_of}
use Rattle.meaning.specs.States.{possible, state_of}
use Rattle.meaning.specs.Refusals.{clashing, runs_with, contradictory}
use Rattle.meaning.specs.declared.Form.TheVariants.{Flags}
use Rattle.meaning.proofs.TestLaws.{both_left, both_right}
use Rattle.meaning.proofs.LiteralLaws.{complement_other, fluent_complement, same_fluent}
use Rattle.meaning.proofs.RefusalLaws.{exclusive_sym}
use Rattle.meaning.proofs.ToldLaws.{Clear, state_known}
use Rattle.reading.specs.Listed.{listed, holds_as}
use Rattle.finding.specs.LinesHere.{effect_from, EffectHere}
use Rattle.finding.specs.TablesHere.{table_in}
use Rattle.finding.proofs.PlanHere.{listed_clear}
use Rattle.valuing.specs.Meets.{meets_as}
use Rattle.refusing.specs.Refusal16.{contradictory_as, agreeing, passing_lines, sets_apart, buckets, bucket_at}

pub both_moved : (a b c d : Bool) → both a (both (both b c) d) ≡ both (both a (both b c)) d
unfolding both
both_moved true b c d = refl
both_moved false b c d = refl

-- A body is clear.
body_clear : (s : List ℕ) (p : ℕ) → EffectHere Flags s p → Clear format (listed s (p + 2))
body_clear s p here = listed_clear s (p + 2) here.body here.apart

-- A body is excluded exactly where its state rules out a literal of the other.
fails_either : (x y : Bool) → both (fails x) (fails y) ≡ fails (either x y)
unfolding both either fails
fails_either true y = refl
fails_either false y = refl

possible_is : (b : List ℕ) → Clear format b → (l : ℕ) → possible (state_of format b) l ≡ fails (among (complement l) b)
unfolding possible
possible_is b clear l = ap fails (state_known format b clear (complement l))

pub possible_each : (b : List ℕ) → Clear format b → (c : List ℕ) → each_of (possible (state_of format b)) c ≡ fails (some_of (λ (l : ℕ). among (complement l) b) c)
unfolding each_of some_of fails
possible_each b clear [] = refl
possible_each b clear (l ∷ c) = rw (possible_each b clear c, possible_is b clear l) (fails_either (among (complement l) b) (some_of (λ (k : ℕ). among (complement k) b) c))

possible_exclusive : (b c : List ℕ) → Clear format b → each_of (possible (state_of format b)) c ≡ fails (exclusive b c)
unfolding exclusive
possible_exclusive b c clear = possible_each b clear c ∙ ap fails (exclusive_sym c b)

-- A literal is another's complement where the two are of one fluent and are not the same.
complement_is : (k l : ℕ) → eqb l (complement k) ≡ both (eqb (l / 2) (k / 2)) (fails (eqb k l))
unfolding both fails fluent_of
complement_is k l =
    elim (ℕ_discrete (l / 2) (k / 2)) [
      | yes e ↦ rw (eq-eqb (l / 2) (k / 2) e) (
          ⊎_elim
          (λ q. ne_eqb l (complement k) (λ z. complement_other k (sym z ∙ q)) ∙ sym (ap fails (eq-eqb k l (sym q))))
          (λ q. eq-eqb l (complement k) q ∙ sym (ap fails (ne_eqb k l (λ z. complement_other k (sym q ∙ sym z)))))
          (same_fluent l k e)
          )
      | no d ↦ rw (ne_eqb (l / 2) (k / 2) d) (ne_eqb l (complement k) (λ z. d (ap fluent_of z ∙ fluent_complement k)))
    ]

-- The lines that agree with two bodies.
lines_agree : (s : List ℕ) (t : Table) (a : ℕ) (b c : List ℕ) → Clear format b → Clear format c → passing_lines (agreeing (meets_as Flags) s b c) t a ≡ runs_with t a b c
unfolding passing_lines agreeing runs_with meets_as holds_as
lines_agree s t a b c clear-b clear-c =
    ap (λ (test : Executability → Bool). some_of test (executability_of t a))
    (fun_ext λ (x : Executability). ap₂ both (possible_exclusive b x.body clear-b) (possible_exclusive c x.body clear-c))

module _ (s : List ℕ) (p q : ℕ) where
  abbrev One : Effect
  One = effect_from Flags s p

  abbrev Other : Effect
  Other = effect_from Flags s q

  -- Effects that clash share their bucket.
  pub flags_bucket : contradictory_as Flags s One Other ≡ true → bucket_at Flags s q ≡ bucket_at Flags s p
  unfolding contradictory_as contradictory clashing effect_from bucket_at fluent_of
  flags_bucket h =
      let clashes = both_left _ _ h in
      let a : get_or s p 0 ≡ get_or s q 0 = eqb-true _ _ (both_left _ _ clashes) in
      let l : get_or s (q + 1) 0 ≡ complement (get_or s (p + 1) 0) = eqb-true _ _ (both_left _ _ (both_right _ _ clashes)) in
      let f : get_or s (q + 1) 0 / 2 ≡ get_or s (p + 1) 0 / 2 = ap fluent_of l ∙ fluent_complement (get_or s (p + 1) 0) in
      ap (λ (x : ℕ). x % buckets) (ap₂ (λ (x y : ℕ). format.fluents * x + y) (sym a) f)

  module _ (here : EffectHere Flags s p) (there : EffectHere Flags s q) where
    clashing_is : clashing One Other ≡ both (sets_apart Flags s p q) (meets_as Flags s (listed s (p + 2)) (listed s (q + 2)))
    unfolding clashing sets_apart meets_as holds_as effect_from
    clashing_is =
        rw (complement_is (get_or s (p + 1) 0) (get_or s (q + 1) 0), possible_exclusive (listed s (p + 2)) (listed s (q + 2)) (body_clear s p here))
        (both_moved (eqb (get_or s p 0) (get_or s q 0)) (eqb (get_or s (q + 1) 0 / 2) (get_or s (p + 1) 0 / 2)) (fails (eqb (get_or s (p + 1) 0) (get_or s (q + 1) 0)))
        (fails (exclusive (listed s (p + 2)) (listed s (q + 2)))))

    pub flags_clash : contradictory_as Flags s One Other
        ≡ both (both (sets_apart Flags s p q) (meets_as Flags s (listed s (p + 2)) (listed s (q + 2)))) (passing_lines (agreeing (meets_as Flags) s (listed s (p + 2)) (listed s (q + 2))) (table_in Flags s) (get_or s p 0))
    unfolding contradictory_as contradictory effect_from
    flags_clash = ap₂ both clashing_is (sym (lines_agree s (table_in Flags s) (get_or s p 0) (listed s (p + 2)) (listed s (q + 2)) (body_clear s p here) (body_clear s q there)))

-- What the lines say, by the bytes where they stand: each was read there, and reading keeps its place; and where sections 6 to 8 of a request stand.
-- Assumes nothing.
use Prim.Native.Nat.{ℕ, ◌+◌, ◌-◌, ◌≤◌, ◌<◌}
use native.Mathlib.Omega.{arith}
use mathlib.Core.Path.{◌≡◌, refl, sym, ◌∙◌, ap, subst}
use mathlib.Core.List.{List}
use lib.ListN.{length, get_or}
use Rattle.meaning.specs.Tests.{Has}
use Rattle.meaning.specs.Limits.{format}
use Rattle.meaning.specs.Requests.{Knowledge, Table, Request}
use Rattle.meaning.specs.Reading
use Rattle.meaning.specs.declared.Form.{Form}
use Rattle.meaning.specs.Reading.{Got, got, fault, below_at, list_at, literals_at, knowledge_at, placed, placed_as, plan_at, request_at}
use Rattle.meaning.proofs.SettledLaws.{got_same}
use Rattle.meaning.proofs.RangeLaws.{after_got, section_read}
use Rattle.reading.specs.Planned.{bytes_of}
use Rattle.reading.specs.Requested.{goals_place, plan_place}
use Rattle.parsing.specs.Masks.{Counted}
use Rattle.reading.specs.Listed.{span}
use Rattle.reading.proofs.SectionLaws.{number_got}
use Rattle.reading.proofs.PlanSizes.{sequence_read, literals_through}
use Rattle.reading.proofs.RequestLaws.{placed_as_length}
use Rattle.finding.proofs.HereLaws.{literals_length, literals_read}
use Rattle.finding.proofs.ReadLaws.{TableParts}

module _ {form : Form} (s : List ℕ) (t : Table) (p : ℕ) (whole : TableParts form s t p) where
  pub knowledge_small : (k : Knowledge) → Has t.knowledge k → k.fluent < format.fluents
  unfolding knowledge_at
  knowledge_small k has =
      let w = section_read (knowledge_at format t.fluents t.actions s) s whole.runs_end t.knowledge p whole.knowledge_read k has in
      after_got (below_at t.actions s w.0) _ w.2 λ a i ea e₁.
      after_got (below_at t.fluents s i) _ e₁ λ f j ef e₂.
      let small = (number_got t.fluents s i f j ef).3 in
      let few = whole.few in
      let is : f ≡ k.fluent = ap (λ (y : Knowledge). y.fluent) (got_same e₂) in
      omega arith

-- SECTIONS 6 TO 8 of a request, each from where it stands.
pub record SectionsRead (form : Form) (s : List ℕ) (x : Request) : Type 0 where
  pub items : ℕ
  pub plan : plan_at format form x.table.fluents x.table.actions s (plan_place form x) ≡ got (record { value = x.plan; items = items }) (goals_place form x)
  pub goals_list : List ℕ
  pub goals : literals_at form x.table.fluents format.listed s (goals_place form x) ≡ got goals_list x.whether_place
  pub goals_are : x.goals ≡ placed_as form (goals_place form x + 1) goals_list
  pub whether_list : List ℕ
  pub whether_end : ℕ
  pub whether : list_at Reading.fluents x.table.fluents format.listed s x.whether_place ≡ got whether_list whether_end
  pub whether_are : x.whether ≡ placed (x.whether_place + 1) whether_list

pub request_sections : (form : Form) (s : List ℕ) (t : Table) (p : ℕ) (y : Request) (q : ℕ) → request_at format form s t p ≡ got y q → SectionsRead form s y
unfolding request_at plan_place goals_place plan_at
request_sections form s t p y q e =
    after_got (plan_at format form t.fluents t.actions s p) _ e λ plan q₁ eplan v₁.
    after_got (literals_at form t.fluents format.listed s q₁) _ v₁ λ goals q₂ egoals v₂.
    after_got (list_at Reading.fluents t.fluents format.listed s q₂) _ v₂ λ whether q₃ ewhether v₃.
    let after = ((sequence_read form t.fluents t.actions s 8 p 0 (omega arith)).holds plan q₁ eplan).through.after in
    let ends = ((literals_through s form t.fluents format.listed q₁).holds goals q₂ egoals).after in
    let sized = placed_as_length form (q₁ + 1) goals in
    let at : q₂ - (1 + span form (length (placed_as form (q₁ + 1) goals))) ≡ q₁ = rw sized (omega arith) in
    let plan_stands : q₁ - (2 + bytes_of form plan.value) ≡ p = omega arith in
    subst on v₃ (record {
      items = plan.items;
      plan = rw (at, plan_stands) eplan;
      goals_list = goals;
      goals = rw at egoals;
      goals_are = ap (λ (i : ℕ). placed_as form (i + 1) goals) (sym at);
      whether_list = whether;
      whether_end = q₃;
      whether = ewhether;
      whether_are = refl;
    })
  where
    on : Got Request → Type 0
    on (got x i) = SectionsRead form s x
    on (fault n i) = Unit {0}

-- A list of literals that was read, and the place after it.
pub list_after : (form : Form) (n most : ℕ) (s : List ℕ) → n ≤ format.fluents → Counted form s → (p : ℕ) (xs : List ℕ) (q : ℕ) → literals_at form n most s p ≡ got xs q → q ≡ p + 1 + span form (get_or s p 0)
list_after form n most s few values p xs q e =
    let ends = ((literals_through s form n most p).holds xs q e).after in
    let sized : length xs ≡ get_or s p 0 = ap length (sym (literals_read form n most s few values p xs q e).is) ∙ literals_length form s p in
    rw (sym sized) (omega arith)

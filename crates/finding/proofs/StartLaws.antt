-- Where the parts of a request stand that come first: its counts, at the start and behind the numbers of values, and its facts behind them. A count takes one byte, and each
-- reader starts where the one before it ended. Assumes nothing.
use Prim.Native.Nat.{ℕ, ◌+◌, ◌≤◌, ◌<◌}
use native.Mathlib.Omega.{arith}
use mathlib.Core.Path.{◌≡◌, sym, ◌∙◌, ap, subst}
use mathlib.Core.List.{List}
use lib.ListN.{length, get_or}
use lib.Dec.{ltb}
use borrow.Author.Tests.{ltb-true}
use Rattle.meaning.specs.Limits.{format}
use Rattle.meaning.specs.Requests.{Table, Request}
use Rattle.meaning.specs.declared.Form.{Form}
use Rattle.meaning.specs.declared.Form.TheVariants.{Flags, Valued}
use Rattle.meaning.specs.Reading.{got, values_in, value_counts_at, count_at, literals_at, effect_at, executability_at, knowledge_at, section_at, table_at, request_at, read_request}
use Rattle.meaning.proofs.TestLaws.{by-test, pick_true, pick_false}
use Rattle.meaning.proofs.SettledLaws.{got_same}
use Rattle.meaning.proofs.RangeLaws.{not_refused, after_got, count_within}
use Rattle.reading.specs.Listed.{listed_as, LiteralsHere}
use Rattle.reading.proofs.SectionLaws.{count_got}
use Rattle.reading.proofs.ValueSizes.{counts_within}
use Rattle.reader.specs.Sections.{actions_place}
use Rattle.reader.proofs.WholeLaws.{Front, front, behind_values}
use Rattle.finding.specs.TablesHere.{table_in, facts_place, TableHere}
use Rattle.finding.proofs.HereLaws.{LiteralsRead, literals_read}
use Rattle.finding.proofs.ReadLaws.{table_parts, request_parts}

pub record Starts (form : Form) (s : List ℕ) (t : Table) : Type 0 where
  pub front : Front form s 0 t
  pub here : LiteralsHere form s (facts_place form s)
  pub facts : listed_as form s (facts_place form s) ≡ t.facts

-- Behind the actions' count.
behind_actions : (form : Form) (s : List ℕ) (n : ℕ) → get_or s 0 0 ≡ n → actions_place form 0 n + 1 ≡ facts_place form s
behind_actions Flags s n e = omega arith
behind_actions Valued s n e = omega (arith, e)

pub table_starts : (form : Form) (s : List ℕ) (t : Table) (p : ℕ) → table_at format form s 0 ≡ got t p → Starts form s t
unfolding table_at
table_starts form s t p e =
    after_got (count_at 1 format.fluents s 0) _ e λ n p₁ en u₁.
    after_got (count_at 1 format.actions s (actions_place form 0 n)) _ (behind_values s 0 n p₁ en form _ t p u₁) λ m p₂ em u₂.
    after_got (literals_at form n format.listed s p₂) _ u₂ λ facts p₃ ef u₃.
    after_got (section_at (effect_at format form n m s) s p₃) _ u₃ λ es p₄ _ u₄.
    after_got (section_at (executability_at format form n m s) s p₄) _ u₄ λ xs p₅ _ u₅.
    after_got (section_at (knowledge_at format n m s) s p₅) _ u₅ λ ks p₆ _ u₆.
    let few = count_within 1 format.fluents s 0 n p₁ en in
    let place : p₂ ≡ facts_place form s = sym (count_got 1 format.actions s (actions_place form 0 n) m p₂ em).2 ∙ behind_actions form s n (count_got 1 format.fluents s 0 n p₁ en).1 in
    let list = subst (λ (i : ℕ). LiteralsRead form s i facts) place (literals_read form n format.listed s few (table_parts form s t p e).values p₂ facts p₃ ef) in
    record {
      front = front form s 0 t p e;
      here = list.here;
      facts = list.is ∙ ap (λ (x : Table). x.facts) (got_same u₆);
    }

pub request_starts : (form : Form) (s : List ℕ) (x : Request) (e : ℕ) → read_request format form s ≡ got x e → Starts form s x.table
unfolding read_request
request_starts form s x e read =
    after_got (table_at format form s 0) _ (not_refused _ _ _ _ read).1 λ t p et e₁.
    after_got (request_at format form s t p) _ e₁ λ y q ey e₂.
    subst (λ (z : Request). Starts form s z.table) (got_same (not_refused _ _ _ _ e₂).1)
    (subst (Starts form s) (sym (request_parts form s t p y q ey).table) (table_starts form s t p et))

-- A table that the notes hold starts so too, with its counts.
module _ {form : Form} (s t : List ℕ) (here : TableHere form s t) where
  pub front_here : Front form s 0 (table_in form s)
  front_here = (table_starts form s (table_in form s) here.table_end here.table).front

  pub first_byte : 0 < length s
  first_byte = front_here.first

  pub second_byte : actions_place form 0 (table_in form s).fluents < length s
  second_byte = front_here.second

-- EACH FLUENT has two values at least, also a number that is no fluent of the request.
pub two_values : (s : List ℕ) (t : Table) (p : ℕ) → table_at format Valued s 0 ≡ got t p → (f : ℕ) → 2 ≤ values_in s f
unfolding table_at values_in
two_values s t p e f =
    after_got (count_at 1 format.fluents s 0) _ e λ n p₁ en u₁.
    after_got (value_counts_at n s p₁) _ u₁ λ cs p₂ ec _.
    let first = count_got 1 format.fluents s 0 n p₁ en in
    by-test (ltb f (get_or s 0 0))
    (λ near.
    let below = ltb-true f (get_or s 0 0) near in
    let least = (counts_within n s p₁ cs p₂ ec f (omega (arith, below, first.1))).0 in
    subst (λ (x : ℕ). 2 ≤ x) (sym (pick_true _ _ _ near ∙ ap (λ (i : ℕ). get_or s (i + f) 0) first.2)) least)
    (λ far. subst (λ (x : ℕ). 2 ≤ x) (sym (pick_false _ _ _ far)) (omega arith))

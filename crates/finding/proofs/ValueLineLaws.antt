-- The lines of a table of values that was read: each stands at its place. Assumes nothing.
use Prim.Native.Nat.{ℕ, ◌+◌, ◌*◌, ◌<◌}
use native.Mathlib.Omega.{arith}
use mathlib.Core.Path.{◌≡◌, sym, ap, subst}
use mathlib.Core.Bool.{true}
use mathlib.Core.List.{List}
use lib.ListN.{get_or}
use Rattle.meaning.specs.Tests.{Has}
use Rattle.meaning.specs.Literals.{positive}
use Rattle.meaning.specs.Requests.{Effect, Executability, Table}
use Rattle.meaning.specs.declared.Form.TheVariants.{Valued}
use Rattle.meaning.specs.Reading.{values_in}
use Rattle.finding.specs.LinesHere.{effect_from, EffectHere}
use Rattle.finding.specs.ValueLines.{ValueBody, ValueEffect}
use Rattle.finding.proofs.ReadLaws.{TableParts, effect_good, run_stands}

value_effect : (s : List ℕ) (e : Effect) → effect_from Valued s e.place ≡ e → EffectHere Valued s e.place → ValueEffect s e
unfolding effect_from
value_effect s e is here =
    let acts = ap (λ (y : Effect). y.action) is in
    let next : e.place + 1 + 1 ≡ e.place + 2 = omega arith in
    let literal = subst (λ (q : ℕ). get_or s (e.place + 1) 0 * 256 + get_or s q 0 ≡ e.literal) next (ap (λ (y : Effect). y.literal) is) in
    let body = ap (λ (y : Effect). y.body) is in
    record {
      action = acts;
      acts = rw (sym acts) here.action;
      literal = literal;
      fluent = here.literal.fluent;
      second = subst (λ (q : ℕ). get_or s q 0 < 2 * values_in s (get_or s (e.place + 1) 0)) next here.literal.second;
      says_is = subst (λ (l : ℕ). positive l ≡ true) (ap (λ (y : Effect). y.literal) is) here.literal.says_is;
      body = record { here = here.body; is = body; leaves = rw (sym body) here.apart };
    }

-- Of a table that was read.
module _ (s : List ℕ) (x : Table) (p : ℕ) (whole : TableParts Valued s x p) where
  pub effect_stands : (e : Effect) → Has x.effects e → ValueEffect s e
  effect_stands e has = let good = effect_good s x p whole e has in value_effect s e good.0 good.1

  pub body_stands : (y : Executability) → Has x.executability y → ValueBody s (y.place + 1) y.body
  body_stands y has = let stands = run_stands s x p whole y has in record { here = stands.1; is = stands.0; leaves = stands.2 }

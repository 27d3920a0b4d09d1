-- Effects that set nothing apart don't contradict; and a body agrees with what is held of another exactly where the two are not exclusive, an executability line's body too.
use Rattle.std.proofs.Common.{ℕ}
use mathlib.Core.Path.{sym, ◌∙◌}
use borrow.Author.Rules.{rules}
use Rattle.refusing.proofs.Clashes.{body_fits, clash_not, clash_apart, clash_together}
use Rattle.refusing.proofs.Laws16.{effect_there}
use Rattle.refusing.proofs.refusal_16.contradicts.Goals as goal
use Rattle.refusing.proofs.refusal_16.contradicts.Goals.{then-sets_apart, else-sets_apart}

pub overflow_add-body : goal.overflow_add-body
overflow_add-body g c = let at = g.met.H.Held.body_law c.args.q in rw c.BODY.ensures (search body_fits)

pub bounds-s-p : goal.bounds-s-p
bounds-s-p g c = search (rules, effect_there)

pub returns-then-agrees : goal.returns-then-agrees
returns-then-agrees g c =
    let asked = rw c.FORM.ensures at c.sets_apart.ensures in
    let at = rw (← c.BODY.ensures) at (g.met.H.Held.body_law c.args.q) in
    let law = λ (r : ℕ). g.met.H.Held.meets_law _ _ _ r c.requires.left c.requires.counted in
    let too = λ (r : ℕ). g.met.H.Held.meets_law _ _ _ r c.of.ensures c.requires.counted in
    elim c.if-sets_apart.branch [
      | then-sets_apart w ↦ let together = sym w.value-is ∙ c.if-agrees.true in search clash_together
      | else-sets_apart w ↦ (cc)
    ]

pub returns-else-agrees : goal.returns-else-agrees
returns-else-agrees g c =
    let asked = rw c.FORM.ensures at c.sets_apart.ensures in
    let at = rw (← c.BODY.ensures) at (g.met.H.Held.body_law c.args.q) in
    let law = λ (r : ℕ). g.met.H.Held.meets_law _ _ _ r c.requires.left c.requires.counted in
    rw c.if-agrees.false (
    elim c.if-sets_apart.branch [
      | then-sets_apart w ↦
          clash_apart g.H.Held.meets _ _ _ _ _ c.requires.counted c.requires.runs_here c.requires.effect_here c.requires.effect_here_2 _ asked _ law _ at _ w.agrees.ensures
          (sym w.value-is ∙ c.if-agrees.false) w.if-sets_apart.true
      | else-sets_apart w ↦ search clash_not
    ]
    )

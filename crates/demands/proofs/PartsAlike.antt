-- Requests read from parts that are alike say the same: what was read in one place and in another differs in its places alone, and the walk does not
-- look at these, nor at the facts once the first state is there. Assumes nothing.
use Prim.Native.Nat.{ℕ}
use native.Mathlib.Omega.{arith}
use mathlib.Core.Path.{◌≡◌, refl, sym, ◌∙◌, ap, ap₂, subst}
use mathlib.Core.List.{List, [], ◌∷◌, map}
use Rattle.meaning.specs.Tests.{Has}
use Rattle.meaning.specs.Requests.{Table, Sequence, done, item, Item, act, branching, Branches, none, branch, unplaced, unplaced_item, unplaced_branches, Entry, values, Request}
use Rattle.meaning.specs.Refusals.{Found, nowhere, at}
use Rattle.meaning.specs.Lines.{effects_of, executability_of, knowledge_of}
use Rattle.meaning.specs.States.{State}
use Rattle.meaning.specs.Walk.{End, fine, missed, stopped, Walked, missed_in, end_of, judged, walked}
use Rattle.meaning.specs.SameLines.{SameLinesOf, SameSet, SameEffect, SameExecutability, SameKnowledge, SameTables, SameButLines}
use Rattle.meaning.proofs.TestLaws.{has_map, map_has, each_has, has_each}
use Rattle.meaning.proofs.WalkLaws.{on_actions, unplaced_end}
use Rattle.meaning.proofs.LineSteps.{no_other_action's_line}
use Rattle.demands.proofs.LineLaws.{walked_same}
use Rattle.demands.proofs.ShiftedReads.{moved_effect, moved_executability, moved_knowledge, moved_plan, moved_item, moved_branches, moved_entry}
use Rattle.demands.proofs.PartReads.{knowing, moved_table, re_tabled}
use Rattle.meaning.proofs.ExactEnds.{met}
use Rattle.demands.proofs.MoreKnown.{Fine, Follows, whether_more}

-- LINES moved this far and that far.
moved_alike : {A : Type 0} (R : A → A → Type 0) (f g : A → A) → ((a : A) → R (f a) (g a)) → (xs : List A) → SameSet R (map f xs) (map g xs)
moved_alike R f g alike xs = record {
  there = λ x h. let w = map_has f xs x h in (g w.0, has_map g xs w.0 w.1, subst (λ y. R y (g w.0)) (sym w.2) (alike w.0));
  back = λ y h. let w = map_has g xs y h in (f w.0, has_map f xs w.0 w.1, subst (R (f w.0)) (sym w.2) (alike w.0));
}

pub tables_alike : (facts : List ℕ) (l : Table) (on far : ℕ) → SameTables (knowing facts (moved_table on l)) (knowing facts (moved_table far l))
tables_alike facts l on far = record {
  facts = refl;
  effects = moved_alike SameEffect (moved_effect on) (moved_effect far) (λ e. record { action = refl; literal = refl; body = refl }) l.effects;
  executability = moved_alike SameExecutability (moved_executability on) (moved_executability far) (λ x. record { action = refl; body = refl }) l.executability;
  knowledge = moved_alike SameKnowledge (moved_knowledge on) (moved_knowledge far) (λ k. record { action = refl; fluent = refl }) l.knowledge;
}

-- PLANS AND ENTRIES moved.
mutual
  pub unplaced_moved : (on : ℕ) (p : Sequence ℕ) → unplaced (moved_plan on p) ≡ unplaced p
  unplaced_moved on done = refl
  unplaced_moved on (item i rest) = ap₂ {C = Sequence ℕ} (λ j js. item j js) (unplaced_moved_item on i) (unplaced_moved on rest)

  unplaced_moved_item : (on : ℕ) (i : Item ℕ) → unplaced_item (moved_item on i) ≡ unplaced_item i
  unplaced_moved_item on (act p a) = refl
  unplaced_moved_item on (branching p bs) = ap {B = Item ℕ} (λ cs. branching 0 cs) (unplaced_moved_branches on bs)

  unplaced_moved_branches : (on : ℕ) (bs : Branches ℕ) → unplaced_branches (moved_branches on bs) ≡ unplaced_branches bs
  unplaced_moved_branches on none = refl
  unplaced_moved_branches on (branch c b bs) = ap₂ {C = Branches ℕ} (λ d ds. branch c d ds) (unplaced_moved on b) (unplaced_moved_branches on bs)

pub values_moved : (on : ℕ) (es : List Entry) → values (map (moved_entry on) es) ≡ values es
unfolding values
values_moved on [] = refl
values_moved on (e ∷ es) = ap {B = List ℕ} (λ xs. e.value ∷ xs) (values_moved on es)

-- THE WALK does not look at the facts,
pub facts_unread : (r : Request) (facts : List ℕ) (s : State) → walked (re_tabled (knowing facts r.table) r) s ≡ walked r s
unfolding walked judged missed_in effects_of executability_of knowledge_of
facts_unread r facts s =
    no_other_action's_line (knowing facts r.table) r.table r.plan
    (on_actions (SameLinesOf (knowing facts r.table) r.table) (λ a. record { effects = refl; executability = refl; knowledge = refl }) r.plan) (judged r) s

-- and not at places: what says the same is verified alike, with the same count.
unplaced_fine : (e : End State) → unplaced_end e ≡ fine → e ≡ fine
unplaced_fine fine q = refl
unplaced_fine (missed p s) q = absurd (subst Fine (sym q) tt)
unplaced_fine (stopped n p u) q = absurd (subst Fine (sym q) tt)

pub verified_alike : (r q : Request) → SameButLines r q → (s : State) → (walked r s).end ≡ fine → ((walked q s).end ≡ fine) × ((walked q s).count ≡ (walked r s).count)
verified_alike r q same s is_fine =
    let equal = walked_same r q same s in (
      unplaced_fine (walked q s).end (sym (ap (λ (w : Walked State). w.end) equal) ∙ ap unplaced_end is_fine),
      sym (ap (λ (w : Walked State). w.count) equal),
    )

-- WHAT IS ASKED. Where no more is asked in a state that knows more, nothing more is missed.
pub ended_fine : (f : Found) (s : State) → end_of f s ≡ fine → f ≡ nowhere
unfolding end_of
ended_fine nowhere s q = refl
ended_fine (at p) s q = absurd (subst Fine (sym q) tt)

pub judged_follows : (size : ℕ) (r q : Request) → ((l : ℕ) → Has (values q.goals) l → Has (values r.goals) l) → ((f : ℕ) → Has (values q.whether) f → Has (values r.whether) f)
    → Follows size (judged q) (judged r)
unfolding judged end_of
judged_follows size r q goals whether s u more is_fine =
    let asked = (met r s).0 (ended_fine _ s is_fine) in
    let nothing : missed_in q u ≡ nowhere = (met q u).1 (
      has_each _ _ (λ l h. more.more l (each_has _ _ l asked.0 (goals l h))),
      has_each _ _ (λ f h. whether_more s u more.more f (each_has _ _ f asked.1 (whether f h))),
    ) in
    (ap (λ (f : Found). end_of f u) nothing, omega arith)

-- Where effects meet: two whose literals are complements are contradictory exactly where there is a world in which their action may be run and both
-- bodies hold, so 16 refuses exactly the tables that have two such effects (FORMAT 7.33, 7.34). For three bodies without complements in or between
-- them hold together in the world of their literals. Assumes nothing.
use Prim.Native.Nat.{ℕ}
use mathlib.Core.Path.{◌≡◌, ◌∙◌, subst}
use mathlib.Core.Bool.{true, false}
use mathlib.Core.List.{List, [], ◌++◌}
use mathlib.Core.Logic.{⊎_elim}
use borrow.Author.Tests.{eqb-true}
use Rattle.meaning.specs.Tests.{fails, pick, Has}
use Rattle.meaning.specs.Limits.{Limits}
use Rattle.meaning.specs.Literals.{says_true, says_false, complement, among, exclusive}
use Rattle.meaning.specs.Requests.{Effect, Executability, Table, Request}
use Rattle.meaning.specs.Lines.{executability_of, allowed}
use Rattle.meaning.specs.declared.Form.TheVariants.{Flags}
use Rattle.meaning.specs.Reading.{got, read_request}
use Rattle.meaning.specs.Refusals.{nowhere, at, clashing, runs_with, contradictory, contradiction_in}
use Rattle.meaning.specs.Worlds.{World, holds, may_be_run, Meet}
use Rattle.meaning.proofs.TestLaws.{by-test, clash, both_left, both_right, fails_true, fails_false, some_has, has_some, has_each, has_left, has_right, has_split, those_has}
use Rattle.meaning.proofs.LiteralLaws.{positive_true, positive_false, fluent_true, fluent_false, complement_true, complement_false, complement_twice, by_literal, among_has, has_among}
use Rattle.meaning.proofs.RefusalLaws.{meeting, past_16, by_16}
use Rattle.meaning.proofs.RangeLaws.{Consistent, Ranged, read_ranged}

-- LITERALS IN A WORLD.
pub holds_true : (w : World) (f : ℕ) → holds w (says_true f) ≡ w f
unfolding holds pick
holds_true w f = rw (positive_true f, fluent_true f)

pub holds_false : (w : World) (f : ℕ) → holds w (says_false f) ≡ fails (w f)
unfolding holds pick
holds_false w f = rw (positive_false f, fluent_false f)

pub holds_apart : (w : World) (l : ℕ) → holds w l ≡ true → holds w (complement l) ≡ true → ⊥
holds_apart w =
    by_literal (λ l. holds w l ≡ true → holds w (complement l) ≡ true → ⊥)
    (λ f. rw (complement_true f, holds_true w f, holds_false w f) (λ p q. clash p (fails_true _ q)))
    (λ f. rw (complement_false f, holds_true w f, holds_false w f) (λ p q. clash q (fails_true _ p)))

-- THE WORLD OF A LIST of literals without complements: what the list says holds there.
world_of : List ℕ → World
world_of b f = among (says_true f) b

world_holds : (b : List ℕ) → Consistent b → (l : ℕ) → Has b l → holds (world_of b) l ≡ true
unfolding world_of
world_holds b fit =
    by_literal (λ l. Has b l → holds (world_of b) l ≡ true)
    (λ f h. holds_true (world_of b) f ∙ has_among (says_true f) b h)
    (λ f h. holds_false (world_of b) f ∙ fails_false _ (by-test _ (λ t. absurd (fit (says_true f) (among_has _ b t) (rw (complement_true f) h))) (λ u. u)))

-- Two lists without complements that do not exclude each other are one such list.
joined : (b c : List ℕ) → Consistent b → Consistent c → exclusive b c ≡ false → Consistent (b ++ c)
unfolding exclusive
joined b c fit-b fit-c apart l h k =
    ⊎_elim
    (λ hb. ⊎_elim (λ kb. fit-b l hb kb) (λ kc. clash (has_some _ b l hb (has_among (complement l) c kc)) apart) (has_split b c (complement l) k))
    (λ hc. ⊎_elim (λ kb. clash (has_some _ b (complement l) kb (has_among _ c (rw (complement_twice l) hc))) apart) (λ kc. fit-c l hc kc) (has_split b c (complement l) k))
    (has_split b c l h)

apart_from_both : (x b c : List ℕ) → exclusive x b ≡ false → exclusive x c ≡ false → exclusive x (b ++ c) ≡ false
unfolding exclusive
apart_from_both x b c from-b from-c =
    by-test _
    (λ t.
    let w = some_has _ x t in
    ⊎_elim (λ h. clash (has_some _ x w.0 w.1 (has_among _ b h)) from-b) (λ h. clash (has_some _ x w.0 w.1 (has_among _ c h)) from-c)
    (has_split b c (complement w.0) (among_has _ (b ++ c) w.2)))
    (λ f. f)

-- TWO EFFECTS.
module _ (t : Table) where
  -- An action without executability lines has no contradictory effects.
  pub no_lines_no_contradiction : (e g : Effect) → executability_of t e.action ≡ [] → contradictory t e g ≡ false
  unfolding contradictory runs_with
  no_lines_no_contradiction e g none =
      by-test _ (λ h. let x = some_has _ (executability_of t e.action) (both_right _ _ h) in absurd (subst (λ (xs : List Executability). Has xs x.0) none x.1)) (λ f. f)

  module _ (lim : Limits) (ranged : Ranged lim t) (e g : Effect) (he : Has t.effects e) (hg : Has t.effects g) where
    meet_somewhere : contradictory t e g ≡ true → (w : World) × Meet t e g w
    unfolding contradictory clashing runs_with may_be_run executability_of allowed
    meet_somewhere h =
        let line = some_has _ (executability_of t e.action) (both_right _ _ h) in
        let x = line.0 in
        let hx = (those_has _ t.executability x line.1).0 in
        let apart : exclusive e.body g.body ≡ false = fails_true _ (both_right _ _ (both_right _ _ (both_left _ _ h))) in
        let apart_e : exclusive e.body x.body ≡ false = fails_true _ (both_left _ _ line.2) in
        let apart_g : exclusive g.body x.body ≡ false = fails_true _ (both_right _ _ line.2) in
        let all : List ℕ = e.body ++ (g.body ++ x.body) in
        let fit : Consistent all =
        joined e.body (g.body ++ x.body) (ranged.effects_consistent e he)
        (joined g.body x.body (ranged.effects_consistent g hg) (ranged.lines_consistent x hx) apart_g)
        (apart_from_both e.body g.body x.body apart apart_e) in
        let holds_all : (l : ℕ) → Has all l → holds (world_of all) l ≡ true = world_holds all fit in (
          world_of all,
          record {
            runs = has_some _ (executability_of t e.action) x line.1
                (has_each _ x.body λ l m. holds_all l (has_right e.body (g.body ++ x.body) l (has_right g.body x.body l m)));
            one = has_each _ e.body λ l m. holds_all l (has_left e.body (g.body ++ x.body) l m);
            other = has_each _ g.body λ l m. holds_all l (has_right e.body (g.body ++ x.body) l (has_left g.body x.body l m));
          },
        )

  met : (e g : Effect) → e.action ≡ g.action → g.literal ≡ complement e.literal → (w : World) → Meet t e g w → contradictory t e g ≡ true
  unfolding may_be_run
  met e g a l w m = meeting t (holds w) (holds w) (holds_apart w) (λ _ h. h) e g a l m.runs m.one m.other

-- CONTRADICTORY EFFECTS ARE THOSE THAT MEET, in a request that was read.
module _ (lim : Limits) (b : List ℕ) (r : Request) (end : ℕ) (reads : read_request lim Flags b ≡ got r end) where
  pub contradictory_exactly : (e g : Effect) → Has r.table.effects e → Has r.table.effects g → e.action ≡ g.action → g.literal ≡ complement e.literal
      → (contradictory r.table e g ≡ true → (w : World) × Meet r.table e g w) × ((w : World) → Meet r.table e g w → contradictory r.table e g ≡ true)
  contradictory_exactly e g he hg a l = (meet_somewhere r.table lim (read_ranged lim b r end reads) e g he hg, met r.table e g a l)

  -- 16 refuses where two of them do, and passes where none do.
  pub refused_where_effects_meet : (p : ℕ) → contradiction_in r.table ≡ at p
      → (e g : Effect) × Has r.table.effects e × Has r.table.effects g × (e.action ≡ g.action) × (g.literal ≡ complement e.literal) × (w : World) × Meet r.table e g w
  unfolding contradictory clashing
  refused_where_effects_meet p q =
      let x = by_16 r.table p q in
      let clashes = both_left _ _ x.4 in
      let m = meet_somewhere r.table lim (read_ranged lim b r end reads) x.0 x.1 x.2 x.3 x.4 in
      (x.0, x.1, x.2, x.3, eqb-true _ _ (both_left _ _ clashes), eqb-true _ _ (both_left _ _ (both_right _ _ clashes)), m.0, m.1)

  pub passed_where_none_meet : contradiction_in r.table ≡ nowhere → (e g : Effect) → Has r.table.effects e → Has r.table.effects g → e.action ≡ g.action
      → g.literal ≡ complement e.literal → (w : World) → Meet r.table e g w → ⊥
  passed_where_none_meet q e g he hg a l w m = clash (met r.table e g a l w m) (past_16 r.table q e g he hg)

-- A plan that was read is written where it was read, and is read wherever it is written, its places aside: each reader passes on what its parts
-- give, and the items met are counted alike. Assumes nothing.
use Prim.Native.Nat.{ℕ, suc, ◌+◌}
use mathlib.Core.Path.{◌≡◌, refl, sym, ◌∙◌, ap, ap₂, subst}
use mathlib.Core.List.{List, ◌++◌}
use borrow.Author.Tests.{eqb-true}
use Rattle.meaning.specs.Limits
use Rattle.meaning.specs.Limits.{Limits}
use Rattle.meaning.specs.Requests.{Sequence, done, item, Item, act, branching, Branches, none, branch, unplaced, unplaced_item, unplaced_branches}
use Rattle.meaning.specs.Reading.{Flags, Got, got, literals, body_at, Met, Part, item_at, items_at, sequence_at, branches_at, branching_at, plan_at}
use Rattle.meaning.specs.Layouts.{Bytes, list_written, number_written, items_in, branches_in, items_written, item_written, branches_written, plan_written}
use Rattle.meaning.proofs.TestLaws.{pick_true, pick_false}
use Rattle.meaning.proofs.GotLaws.{On}
use Rattle.meaning.proofs.PlanReads.{Said, part, PassedOn, plan_on}
use Rattle.meaning.proofs.MovedReads.{next_is, Stands, stands_both, stands_parts, byte_copied, count_copied, list_copied, two_bytes_copied}

-- The part x up to f, its places aside.
pub record Moved {X : Type 0} (m : Got (Met X)) (unplace : X → X) (x : Met X) (f : ℕ) : Type 0 where
  pub value : X
  pub is : m ≡ got (record { value = value; items = x.items }) f
  pub alike : unplace value ≡ unplace x.value

pub record PartCopied {X : Type 0} (read : List ℕ → ℕ → Got (Met X)) (code : X → List ℕ) (unplace : X → X) (s : List ℕ) (p : ℕ) (x : Met X) (e : ℕ) : Type 0 where
  pub there : Stands s p (code x.value) e
  pub again : (u : List ℕ) (q f : ℕ) → Stands u q (code x.value) f → Moved (read u q) unplace x f

module _ (lim : Limits) (n m : ℕ) (s : List ℕ) (bytes : Bytes s) where
  abbrev one_item : (deep : ℕ) → List ℕ → Part (Item ℕ)
  one_item deep u = item_at lim Flags n m u (branching_at lim Flags n m u deep)

  abbrev one_sequence : (deep : ℕ) → List ℕ → Part (Sequence ℕ)
  one_sequence deep u = sequence_at lim Flags n m u (branching_at lim Flags n m u deep)

  -- As many items or branches as were to be read.
  abbrev plan_moved : Said
  plan_moved = record {
    item = λ deep p met. PartCopied (λ u q. one_item deep u q met) item_written unplaced_item s p;
    items = λ deep left p met x e. PartCopied (λ u q. items_at lim Flags n m u (one_item deep u) left q met) items_written unplaced s p x e × (items_in x.value ≡ left);
    sequence = λ deep p met. PartCopied (λ u q. one_sequence deep u q met) plan_written unplaced s p;
    branches = λ deep left p met x e. PartCopied (λ u q. branches_at lim Flags n m u (one_sequence deep u) left q met) branches_written unplaced_branches s p x e × (branches_in x.value ≡ left);
  }

  moved_passed : PassedOn lim n m s plan_moved
  unfolding item_at items_at sequence_at branches_at branching_at body_at items_in branches_in items_written item_written branches_written plan_written
  moved_passed = record {
    an_action = λ deep p met x q read few other within.
        let one = (byte_copied s p).holds x q read in
        record {
          there = one.there;
          again = λ u o f st.
              record {
                value = act o x;
                is = next_is _ _ _ _ (one.again u o f st) ∙ pick_false _ _ _ few ∙ pick_false _ _ _ other ∙ pick_false _ _ _ within;
                alike = refl;
              };
        };
    a_branching = λ deep p met x q c r bs e read few opening counted all.
        let one = (byte_copied s p).holds x q read in
        let count = (count_copied s 1 lim.branches (p + 1)).holds c r counted in
        let is = eqb-true x Limits.branching_byte opening in
        let code = branches_written bs.value in
        let here = count.there in
        record {
          there = (one.there.0, one.there.1 ∙ is, (here.0, here.1 ∙ sym all.1, subst (λ (o : ℕ). Stands s o code e) (sym here.2) all.0.there));
          again = λ u o f st.
              let more = all.0.again u (o + 1 + 1) f st.2.2 in
              record {
                value = branching o more.value;
                is = next_is _ _ _ _ (one.again u o (o + 1) (st.0, st.1 ∙ sym is, refl)) ∙ pick_false _ _ _ few ∙ pick_true _ _ _ opening
                    ∙ next_is _ _ _ _ (count.again u (o + 1) (o + 1 + 1) (st.2.0, st.2.1 ∙ all.1, refl)) ∙ next_is _ _ _ _ more.is;
                alike = ap {B = Item ℕ} (λ js. branching 0 js) more.alike;
              };
        };
    no_item = λ deep p met. (record { there = refl; again = λ u q f st. record { value = done; is = ap (λ (o : ℕ). got (part done met) o) st; alike = refl } }, refl);
    an_item = λ deep left p met i q rest e one more. (
      record {
        there = stands_both s p (item_written i.value) q (items_written rest.value) e one.there more.0.there;
        again = λ u o f st.
            let parts = stands_parts u o (item_written i.value) (items_written rest.value) f st in
            let first = one.again u o parts.0 parts.1 in
            let last = more.0.again u parts.0 f parts.2 in
            record {
              value = item first.value last.value;
              is = next_is _ _ _ _ first.is ∙ next_is _ _ _ _ last.is;
              alike = ap₂ {C = Sequence ℕ} (λ j js. item j js) first.alike last.alike;
            };
      },
      ap suc more.1,
    );
    a_sequence = λ deep p met c q x e read all.
        let two = (two_bytes_copied s bytes p).holds c q read in
        let size : c ≡ items_in x.value = sym all.1 in
        record {
          there = stands_both s p (number_written (items_in x.value)) q (items_written x.value) e (subst (λ (k : ℕ). Stands s p (number_written k) q) size two.there) all.0.there;
          again = λ u o f st.
              let parts = stands_parts u o (number_written (items_in x.value)) (items_written x.value) f st in
              let more = all.0.again u parts.0 f parts.2 in
              record {
                value = more.value;
                is = next_is _ _ _ _ (two.again u o parts.0 (subst (λ (k : ℕ). Stands u o (number_written k) parts.0) (sym size) parts.1)) ∙ more.is;
                alike = more.alike;
              };
        };
    no_branch = λ deep p met. (record { there = refl; again = λ u q f st. record { value = none; is = ap (λ (o : ℕ). got (part none met) o) st; alike = refl } }, refl);
    a_branch = λ deep left p met c q b r rest e read _ body more.
        let condition = (list_copied literals n s lim.body p).holds c q read in
        let later = branches_written rest.value in (
          record {
            there =
                stands_both s p (list_written c) q (plan_written b.value ++ later) e condition.there
                (stands_both s q (plan_written b.value) r later e body.there more.0.there);
            again = λ u o f st.
                let parts = stands_parts u o (list_written c) (plan_written b.value ++ later) f st in
                let others = stands_parts u parts.0 (plan_written b.value) later f parts.2 in
                let first = body.again u parts.0 others.0 others.1 in
                let last = more.0.again u others.0 f others.2 in
                record {
                  value = branch c first.value last.value;
                  is = next_is _ _ _ _ (condition.again u o parts.0 parts.1) ∙ next_is _ _ _ _ first.is ∙ next_is _ _ _ _ last.is;
                  alike = ap₂ {C = Branches ℕ} (λ j js. branch c j js) first.alike last.alike;
                };
          },
          ap suc more.1,
        );
  }

  -- THE PLAN.
  pub plan_copied : (p : ℕ) → On (plan_at lim Flags n m s p) (PartCopied (λ u q. plan_at lim Flags n m u q) plan_written unplaced s p)
  unfolding plan_at
  plan_copied p = plan_on lim n m s plan_moved moved_passed p

-- What can be read: lists of literals, plans and lines that pass each test of reading, wherever they are written. What was read is so, it stays so of the rest of a plan and of
-- plans that are joined, and what is so is read as it is written, its places aside, and is written in bytes. Assumes nothing.
use Prim.Native.Nat.{ℕ, zero, suc, ◌+◌, ◌*◌, ◌≤◌, ◌<◌}
use native.Mathlib.Omega.{arith}
use mathlib.Core.Path.{◌≡◌, refl, ◌∙◌, ap, ap₂}
use mathlib.Core.Bool.{false}
use mathlib.Core.List.{List, [], ◌∷◌, ◌++◌}
use lib.ListN.{length}
use lib.Dec.{ltb}
use borrow.Author.Tests.{leb-false, lt-leb, le-ltb, ne_eqb, eq-eqb}
use Rattle.meaning.specs.declared.Layout.TheVariants.{Plain}
use Rattle.meaning.specs.Tests.{either, Each}
use Rattle.meaning.specs.Limits
use Rattle.meaning.specs.Limits.{Limits, format}
use Rattle.meaning.specs.Requests.{Sequence, done, item, Item, act, branching, Branches, none, branch, unplaced, unplaced_item, unplaced_branches}
use Rattle.meaning.specs.declared.Form.TheVariants.{Flags}
use Rattle.meaning.specs.Reading.{Got, got, literals, bound_of, count_at, list_at, body_at, repeated, Met, Part, item_at, items_at, sequence_at, branches_at, branching_at, plan_at}
use Rattle.meaning.specs.Layouts.{Bytes, list_written, number_written, numbers_written, items_in, branches_in, items_written, item_written, branches_written, plan_written, conclusion_written, concluded_written, line_written, lines_written, closing_written, written}
use Rattle.meaning.specs.Derivations.{Conclusion, knows, knows_whether, Line, Derivation, join, list_concluded, concluded_at, closing_at, line_at, read_derivation}
use Rattle.meaning.proofs.TestLaws.{pick_true, pick_false}
use Rattle.meaning.proofs.RangeLaws.{count_least, count_within}
use Rattle.meaning.proofs.MovedReads.{next_is, Stands, stands_parts, whole_stands, byte_stands, number_stands, numbers_stand}
use Rattle.meaning.proofs.MovedPlans.{Moved}
use Rattle.meaning.proofs.ListReads.{InOrder, list_in_order, list_few, list_read}
use Rattle.meaning.proofs.PlanReads.{Said, part, PassedOn, plan_on}
use Rattle.demands.proofs.MovedLines.{LineMoved, LinesMoved, Rewritten}
use Rattle.demands.proofs.LayoutLaws.{Small, small_bytes, small_both}

-- THE ITEMS of a plan, those within its branchings among them.
abbrev mutual
  pub all_items : Sequence ℕ → ℕ
  all_items done = 0
  all_items (item i rest) = all_in i + all_items rest

  pub all_in : Item ℕ → ℕ
  all_in (act p a) = 1
  all_in (branching p bs) = 1 + all_below bs

  pub all_below : Branches ℕ → ℕ
  all_below none = 0
  all_below (branch c b bs) = all_items b + all_below bs

pub all_joined : (p q : Sequence ℕ) → all_items (join p q) ≡ all_items p + all_items q
unfolding join
all_joined done q = omega arith
all_joined (item i p) q = let more = all_joined p q in omega arith

-- A sequence counts no more items than it has in all.
items_counted : (c : Sequence ℕ) → items_in c ≤ all_items c
unfolding items_in
items_counted done = omega arith
items_counted (item (act p a) rest) = let more = items_counted rest in omega arith
items_counted (item (branching p bs) rest) = let more = items_counted rest in omega arith

-- WHAT CAN BE READ. A list of so many literals of n fluents at most.
pub record ListFits (n most : ℕ) (xs : List ℕ) : Type 0 where
  pub order : InOrder literals n 0 xs
  pub few : length xs ≤ most

-- With n fluents and m actions.
module _ (lim : Limits) (n m : ℕ) where
  -- Items, where so many branchings may stand one inside another.
  abbrev mutual
    pub ItemsFit : (deep : ℕ) → Sequence ℕ → Type 0
    ItemsFit deep done = Unit {0}
    ItemsFit deep (item i rest) = ItemFits deep i × ItemsFit deep rest

    pub ItemFits : (deep : ℕ) → Item ℕ → Type 0
    ItemFits deep (act p a) = a < m
    ItemFits zero (branching p bs) = ⊥
    ItemFits (suc deep) (branching p bs) = (1 ≤ branches_in bs) × (branches_in bs ≤ lim.branches) × BranchesFit deep bs

    pub BranchesFit : (deep : ℕ) → Branches ℕ → Type 0
    BranchesFit deep none = Unit {0}
    BranchesFit deep (branch c b bs) = ListFits n lim.body c × ItemsFit deep b × BranchesFit deep bs

  pub record PlanFits (c : Sequence ℕ) : Type 0 where
    pub items : ItemsFit lim.nested c
    pub few : all_items c ≤ lim.items

  -- IT STAYS SO where more may stand one inside another,
  mutual
    items_deeper : (deep : ℕ) (c : Sequence ℕ) → ItemsFit deep c → ItemsFit (suc deep) c
    items_deeper deep done fits = tt
    items_deeper deep (item i rest) fits = (item_deeper deep i fits.0, items_deeper deep rest fits.1)

    item_deeper : (deep : ℕ) (i : Item ℕ) → ItemFits deep i → ItemFits (suc deep) i
    item_deeper deep (act p a) fits = fits
    item_deeper zero (branching p bs) fits = absurd fits
    item_deeper (suc deep) (branching p bs) fits = (fits.0, fits.1, branches_deeper deep bs fits.2)

    branches_deeper : (deep : ℕ) (bs : Branches ℕ) → BranchesFit deep bs → BranchesFit (suc deep) bs
    branches_deeper deep none fits = tt
    branches_deeper deep (branch c b bs) fits = (fits.0, items_deeper deep b fits.1, branches_deeper deep bs fits.2)

  -- so also of branches that stand no longer in their branching,
  pub branches_out : (deep p : ℕ) (bs : Branches ℕ) → ItemFits deep (branching p bs) → BranchesFit deep bs
  branches_out zero p bs fits = absurd fits
  branches_out (suc deep) p bs fits = branches_deeper deep bs fits.2

  -- and of plans that are joined.
  pub items_joined : (deep : ℕ) (p q : Sequence ℕ) → ItemsFit deep p → ItemsFit deep q → ItemsFit deep (join p q)
  unfolding join
  items_joined deep done q one more = more
  items_joined deep (item i p) q one more = (one.0, items_joined deep p q one.1 more)

  -- READ WHEREVER IT IS WRITTEN. A count within its limits.
  count_again : (u : List ℕ) (least most q c f : ℕ) → least ≤ c → c ≤ most → Stands u q (c ∷ []) f → count_at least most u q ≡ got c f
  unfolding count_at either
  count_again u least most q c f enough few st =
      let fits : either (ltb c least) (ltb most c) ≡ false = rw (le-ltb c least enough) (le-ltb most c few) in
      next_is _ _ _ _ (byte_stands u q c f st) ∙ pick_false _ _ _ fits

  module _ (within : m ≤ Limits.branching_byte) (u : List ℕ) where
    abbrev one_item : (deep : ℕ) → Part (Item ℕ)
    one_item deep = item_at lim Flags n m u (branching_at lim Flags n m u deep)

    abbrev one_sequence : (deep : ℕ) → Part (Sequence ℕ)
    one_sequence deep = sequence_at lim Flags n m u (branching_at lim Flags n m u deep)

    abbrev ItemsAgain : (deep : ℕ) (c : Sequence ℕ) (met q f : ℕ) → Type 0
    ItemsAgain deep c met q f = Moved (items_at lim Flags n m u (one_item deep) (items_in c) q met) unplaced (part c (met + all_items c)) f

    -- A sequence is its count and its items.
    sequence_again : (deep : ℕ) (c : Sequence ℕ) (met q r f : ℕ) → Stands u q (number_written (items_in c)) r → ItemsAgain deep c met r f
        → Moved (one_sequence deep q met) unplaced (part c (met + all_items c)) f
    unfolding sequence_at
    sequence_again deep c met q r f st more = record {
      value = more.value;
      is = next_is _ _ _ _ (number_stands u q (items_in c) r st) ∙ more.is;
      alike = more.alike;
    }

    mutual
      unfolding item_at items_at branches_at branching_at body_at items_in branches_in items_written item_written branches_written

      items_again : (deep : ℕ) (c : Sequence ℕ) (met q f : ℕ) → ItemsFit deep c → met + all_items c ≤ lim.items → Stands u q (items_written c) f → ItemsAgain deep c met q f
      items_again deep done met q f fits few st =
          let same : met ≡ met + 0 = omega arith in
          record { value = done; is = ap₂ {C = Got (Met (Sequence ℕ))} (λ k o. got (part done k) o) same st; alike = refl }
      items_again deep (item i rest) met q f fits few st =
          let parts = stands_parts u q (item_written i) (items_written rest) f st in
          let first = item_again deep i met q parts.0 fits.0 (omega arith) parts.1 in
          let last = items_again deep rest (met + all_in i) parts.0 f fits.1 (omega arith) parts.2 in
          let same : met + all_in i + all_items rest ≡ met + (all_in i + all_items rest) = omega arith in
          record {
            value = item first.value last.value;
            is = next_is _ _ _ _ first.is ∙ next_is _ _ _ _ last.is ∙ ap (λ (k : ℕ). got (part (item first.value last.value) k) f) same;
            alike = ap₂ {C = Sequence ℕ} (λ j js. item j js) first.alike last.alike;
          }

      item_again : (deep : ℕ) (i : Item ℕ) (met q f : ℕ) → ItemFits deep i → met + all_in i ≤ lim.items → Stands u q (item_written i) f
          → Moved (one_item deep q met) unplaced_item (part i (met + all_in i)) f
      item_again deep (act p a) met q f fits few st = record {
        value = act q a;
        is = next_is _ _ _ _ (byte_stands u q a f st)
            ∙ pick_false _ _ _ (lt-leb lim.items met (omega arith))
            ∙ pick_false _ _ _ (ne_eqb a Limits.branching_byte (λ e. omega arith))
            ∙ pick_false _ _ _ (lt-leb m a fits);
        alike = refl;
      }
      item_again zero (branching p bs) met q f fits few st = absurd fits
      item_again (suc deep) (branching p bs) met q f fits few st =
          let more = branches_again deep bs (met + 1) (q + 1 + 1) f fits.2 (omega arith) st.2.2 in
          let same : met + 1 + all_below bs ≡ met + (1 + all_below bs) = omega arith in
          record {
            value = branching q more.value;
            is = next_is _ _ _ _ (byte_stands u q Limits.branching_byte (q + 1) (st.0, st.1, refl))
                ∙ pick_false _ _ _ (lt-leb lim.items met (omega arith))
                ∙ pick_true _ _ _ (eq-eqb Limits.branching_byte Limits.branching_byte refl)
                ∙ next_is _ _ _ _ (count_again u 1 lim.branches (q + 1) (branches_in bs) (q + 1 + 1) fits.0 fits.1 (st.2.0, st.2.1, refl))
                ∙ next_is _ _ _ _ more.is
                ∙ ap (λ (k : ℕ). got (part (branching q more.value) k) f) same;
            alike = ap {B = Item ℕ} (λ js. branching 0 js) more.alike;
          }

      branches_again : (deep : ℕ) (bs : Branches ℕ) (met q f : ℕ) → BranchesFit deep bs → met + all_below bs ≤ lim.items → Stands u q (branches_written bs) f
          → Moved (branches_at lim Flags n m u (one_sequence deep) (branches_in bs) q met) unplaced_branches (part bs (met + all_below bs)) f
      branches_again deep none met q f fits few st =
          let same : met ≡ met + 0 = omega arith in
          record { value = none; is = ap₂ {C = Got (Met (Branches ℕ))} (λ k o. got (part none k) o) same st; alike = refl }
      branches_again deep (branch c b bs) met q f fits few st =
          let a = stands_parts u q (list_written c) ((number_written (items_in b) ++ items_written b) ++ branches_written bs) f st in
          let d = stands_parts u a.0 (number_written (items_in b) ++ items_written b) (branches_written bs) f a.2 in
          let e = stands_parts u a.0 (number_written (items_in b)) (items_written b) d.0 d.1 in
          let first = sequence_again deep b met a.0 e.0 d.0 e.1 (items_again deep b met e.0 d.0 fits.1 (omega arith) e.2) in
          let last = branches_again deep bs (met + all_items b) d.0 f fits.2 (omega arith) d.2 in
          let same : met + all_items b + all_below bs ≡ met + (all_items b + all_below bs) = omega arith in
          record {
            value = branch c first.value last.value;
            is = next_is _ _ _ _ (list_read literals n lim.body u c q a.0 fits.0.order fits.0.few a.1)
                ∙ next_is _ _ _ _ first.is
                ∙ next_is _ _ _ _ last.is
                ∙ ap (λ (k : ℕ). got (part (branch c first.value last.value) k) f) same;
            alike = ap₂ {C = Branches ℕ} (λ j js. branch c j js) first.alike last.alike;
          }

    pub plan_again : (c : Sequence ℕ) (q f : ℕ) → PlanFits c → Stands u q (plan_written c) f → Moved (plan_at lim Flags n m u q) unplaced (part c (0 + all_items c)) f
    unfolding plan_at plan_written
    plan_again c q f fits st =
        let parts = stands_parts u q (number_written (items_in c)) (items_written c) f st in
        let few = fits.few in
        sequence_again lim.nested c 0 q parts.0 f parts.1 (items_again lim.nested c 0 parts.0 f fits.items (omega arith) parts.2)

  -- LINES of the plain layout.
  abbrev pub ConclusionFits : Conclusion → Type 0
  ConclusionFits (knows Y) = ListFits n lim.listed Y
  ConclusionFits (knows_whether f) = ⊥

  -- What a line says, and the line with its rule byte and its citations.
  pub record SayingFits (l : Line) : Type 0 where
    pub start : ListFits n lim.listed l.X
    pub plan : PlanFits l.c
    pub end : ConclusionFits l.Y

  pub record LineFits (l : Line) : Type 0 where
    pub saying : SayingFits l
    pub rule : l.rule < 256
    pub few : length l.cites ≤ lim.citations
    pub cites : Each (λ (k : ℕ). k < 65536) l.cites

  module _ (within : m ≤ Limits.branching_byte) (u : List ℕ) where
    concluded_again : (rule : ℕ) (Y : Conclusion) (q f : ℕ) → ConclusionFits Y → Stands u q (concluded_written Plain rule Y) f → concluded_at lim n u Plain q ≡ got (record { rule = rule; Y = Y }) f
    unfolding concluded_at concluded_written conclusion_written list_concluded
    concluded_again rule (knows Y) q f fits st =
        let parts = stands_parts u q (list_written Y) (rule ∷ []) f st in
        next_is _ _ _ _ (next_is _ _ _ _ (list_read literals n lim.listed u Y q parts.0 fits.order fits.few parts.1))
        ∙ next_is _ _ _ _ (byte_stands u parts.0 rule f parts.2)
    concluded_again rule (knows_whether g) q f fits st = absurd fits

    pub line_again : (l : Line) (q f : ℕ) → LineFits l → Stands u q (line_written Plain l) f → LineMoved (line_at lim n m u Plain q) l f
    unfolding line_at line_written
    line_again l q f fits st =
        let X = list_written l.X in
        let c = plan_written l.c in
        let Y = concluded_written Plain l.rule l.Y in
        let last : List ℕ = length l.cites ∷ numbers_written l.cites in
        let says = fits.saying in
        let a = stands_parts u q X (c ++ (Y ++ last)) f st in
        let b = stands_parts u a.0 c (Y ++ last) f a.2 in
        let d = stands_parts u b.0 Y last f b.2 in
        let moved = plan_again within u l.c a.0 b.0 says.plan b.1 in
        record {
          value = record { place = q; X = l.X; c = moved.value; Y = l.Y; rule = l.rule; cites = l.cites };
          is = next_is _ _ _ _ (list_read literals n lim.listed u l.X q a.0 says.start.order says.start.few a.1)
              ∙ next_is _ _ _ _ moved.is
              ∙ next_is _ _ _ _ (concluded_again l.rule l.Y b.0 d.0 says.end d.1)
              ∙ next_is _ _ _ _ (count_again u 0 lim.citations d.0 (length l.cites) (d.0 + 1) (omega arith) fits.few (d.2.0, d.2.1, refl))
              ∙ next_is _ _ _ _ (numbers_stand u (d.0 + 1) l.cites f d.2.2);
          alike = ap (λ (x : Sequence ℕ). record { place = 0; X = l.X; c = x; Y = l.Y; rule = l.rule; cites = l.cites }) moved.alike;
        }

    pub lines_again : (ls : List Line) (q f : ℕ) → Each LineFits ls → Stands u q (lines_written Plain ls) f → LinesMoved (repeated (line_at lim n m u Plain) (length ls) q) ls f
    unfolding repeated lines_written
    lines_again [] q f fits st = record { value = []; is = ap (λ (o : ℕ). got [] o) st; alike = refl }
    lines_again (l ∷ ls) q f fits st =
        let parts = stands_parts u q (line_written Plain l) (lines_written Plain ls) f st in
        let first = line_again l q parts.0 fits.0 parts.1 in
        let rest = lines_again ls parts.0 f fits.1 parts.2 in
        record {
          value = first.value ∷ rest.value;
          is = next_is _ _ _ _ first.is ∙ next_is _ _ _ _ rest.is;
          alike = ap₂ {C = List Line} (λ x xs. x ∷ xs) first.alike rest.alike;
        }

  -- A DERIVATION of such lines, so many of them and in so many bytes as there may be.
  pub derivation_again : m ≤ Limits.branching_byte → (d : Derivation) → Each LineFits d.lines → 0 < length d.lines → length d.lines ≤ lim.lines → length (written Plain d) ≤ lim.derivation
      → Rewritten lim n m d.lines Plain d.closing (written Plain d)
  unfolding read_derivation closing_at written closing_written either
  derivation_again within d fits some few short =
      let ls = d.lines in
      let u : List ℕ = written Plain d in
      let size = number_written (length ls) in
      let code : List ℕ = lines_written Plain ls ++ [] in
      let a = stands_parts u 0 size code (length u) (whole_stands u) in
      let b = stands_parts u a.0 (lines_written Plain ls) [] (length u) a.2 in
      let moved = lines_again within u ls a.0 b.0 fits b.1 in
      let counted : either (ltb (length ls) 1) (ltb lim.lines (length ls)) ≡ false = rw (le-ltb (length ls) 1 some) (le-ltb lim.lines (length ls) few) in
      let whole : b.0 ≡ length u = b.2 in
      record {
        value = record { lines = moved.value; closing = []; closing_place = b.0 };
        is = pick_false _ _ _ (le-ltb lim.derivation (length u) short)
            ∙ next_is _ _ _ _ (number_stands u 0 (length ls) a.0 a.1)
            ∙ pick_false _ _ _ counted
            ∙ next_is _ _ _ _ moved.is
            ∙ next_is (closing_at u Plain b.0) _ [] b.0 refl
            ∙ pick_false _ _ _ (le-ltb b.0 (length u) (omega arith))
            ∙ ap (λ (o : ℕ). got (record { lines = moved.value; closing = []; closing_place = b.0 }) o) whole;
        lines_alike = moved.alike;
        closing_is = refl;
      }

-- WHAT WAS READ can be read.
pub list_fits : (n most : ℕ) (s : List ℕ) (p : ℕ) (xs : List ℕ) (e : ℕ) → list_at literals n most s p ≡ got xs e → ListFits n most xs
list_fits n most s p xs e read = record { order = list_in_order literals n most s p xs e read; few = list_few literals n most s p xs e read }

-- The items met before a part and its own are those met behind it, and they are within their limit.
module _ (lim : Limits) (n m : ℕ) (s : List ℕ) where
  record MetIn (met own items : ℕ) : Type 0 where
    counted : items ≡ met + own
    most : items ≤ lim.items

  abbrev plan_fitting : Said
  plan_fitting = record {
    item = λ deep p met x e. ItemFits lim n m deep x.value × MetIn met (all_in x.value) x.items;
    items = λ deep left p met x e. met ≤ lim.items → ItemsFit lim n m deep x.value × MetIn met (all_items x.value) x.items;
    sequence = λ deep p met x e. met ≤ lim.items → ItemsFit lim n m deep x.value × MetIn met (all_items x.value) x.items;
    branches = λ deep left p met x e. met ≤ lim.items → BranchesFit lim n m deep x.value × MetIn met (all_below x.value) x.items × (branches_in x.value ≡ left);
  }

  fitting_passed : PassedOn lim n m s plan_fitting
  unfolding branches_in body_at
  fitting_passed = record {
    an_action = λ deep p met x q read few other below. let h = leb-false lim.items met few in (leb-false m x below, record { counted = refl; most = omega arith });
    a_branching = λ deep p met x q c r bs e read few opens count all.
        let h = leb-false lim.items met few in
        let w = all (omega arith) in
        let some = count_least 1 lim.branches s (p + 1) c r count in
        let most = count_within 1 lim.branches s (p + 1) c r count in
        let size = w.2 in
        let g = w.1.counted in
        ((omega arith, omega arith, w.0), record { counted = omega arith; most = w.1.most });
    no_item = λ deep p met few. (tt, record { counted = omega arith; most = few });
    an_item = λ deep left p met i q rest e one more few.
        let w = more one.1.most in
        let f = one.1.counted in let g = w.1.counted in
        ((one.0, w.0), record { counted = omega arith; most = w.1.most });
    a_sequence = λ deep p met c q b e read all. all;
    no_branch = λ deep p met few. (tt, record { counted = omega arith; most = few }, refl);
    a_branch = λ deep left p met c q b r rest e read body one more few.
        let v = one few in
        let w = more v.1.most in
        let f = v.1.counted in let g = w.1.counted in (
          (list_fits n lim.body s p c q read, v.0, w.0),
          record { counted = omega arith; most = w.1.most },
          ap suc w.2,
        );
  }

  pub plan_fits : (p : ℕ) (x : Met (Sequence ℕ)) (e : ℕ) → plan_at lim Flags n m s p ≡ got x e → PlanFits lim n m x.value
  plan_fits p x e reads =
      let w = (plan_on lim n m s plan_fitting fitting_passed p).holds x e reads (omega arith) in
      let f = w.1.counted in let g = w.1.most in
      record { items = w.0; few = omega arith }

-- IN BYTES, with the format's limits.
module _ (n m : ℕ) (few_fluents : n ≤ format.fluents) (few_actions : m ≤ format.actions) where
  order_small : (floor : ℕ) (xs : List ℕ) → InOrder literals n floor xs → Small xs
  unfolding bound_of
  order_small floor [] order = tt
  order_small floor (x ∷ xs) order = let below = leb-false (2 * n) x order.0 in (omega arith, order_small (x + 1) xs order.3)

  list_small : (most : ℕ) (xs : List ℕ) → most < 256 → ListFits n most xs → Small (list_written xs)
  unfolding list_written
  list_small most xs small fits = let few = fits.few in (omega arith, order_small 0 xs fits.order)

  number_small : (k : ℕ) → k < 65536 → Small (number_written k)
  unfolding number_written
  number_small k few = (omega arith, (omega arith, tt))

  numbers_small : (ks : List ℕ) → Each (λ (k : ℕ). k < 65536) ks → Small (numbers_written ks)
  unfolding numbers_written
  numbers_small [] few = tt
  numbers_small (k ∷ ks) few = small_both (number_written k) (numbers_written ks) (number_small k few.0) (numbers_small ks few.1)

  mutual
    unfolding items_written

    items_small : (deep : ℕ) (c : Sequence ℕ) → ItemsFit format n m deep c → all_items c ≤ format.items → Small (items_written c)
    items_small deep done fits few = tt
    items_small deep (item i rest) fits few = small_both (item_written i) (items_written rest) (item_small deep i fits.0 (omega arith)) (items_small deep rest fits.1 (omega arith))

    item_small : (deep : ℕ) (i : Item ℕ) → ItemFits format n m deep i → all_in i ≤ format.items → Small (item_written i)
    item_small deep (act p a) fits few = (omega arith, tt)
    item_small zero (branching p bs) fits few = absurd fits
    item_small (suc deep) (branching p bs) fits few = let most = fits.1 in (omega arith, (omega arith, branches_small deep bs fits.2 (omega arith)))

    branches_small : (deep : ℕ) (bs : Branches ℕ) → BranchesFit format n m deep bs → all_below bs ≤ format.items → Small (branches_written bs)
    branches_small deep none fits few = tt
    branches_small deep (branch c b bs) fits few =
        let least = items_counted b in
        small_both (list_written c) ((number_written (items_in b) ++ items_written b) ++ branches_written bs) (list_small format.body c (omega arith) fits.0)
        (small_both (number_written (items_in b) ++ items_written b) (branches_written bs)
        (small_both (number_written (items_in b)) (items_written b) (number_small (items_in b) (omega arith)) (items_small deep b fits.1 (omega arith)))
        (branches_small deep bs fits.2 (omega arith)))

  conclusion_small : (Y : Conclusion) → ConclusionFits format n m Y → Small (conclusion_written Y)
  unfolding conclusion_written
  conclusion_small (knows Y) fits = list_small format.listed Y (omega arith) fits
  conclusion_small (knows_whether f) fits = absurd fits

  line_small : (l : Line) → LineFits format n m l → Small (line_written Plain l)
  unfolding line_written plan_written concluded_written
  line_small l fits =
      let says = fits.saying in
      let whole = says.plan.few in
      let least = items_counted l.c in
      let few = fits.few in
      let code = items_written l.c in
      let last : List ℕ = length l.cites ∷ numbers_written l.cites in
      let end = conclusion_written l.Y ++ (l.rule ∷ []) in
      small_both (list_written l.X) ((number_written (items_in l.c) ++ code) ++ (end ++ last)) (list_small format.listed l.X (omega arith) says.start)
      (small_both (number_written (items_in l.c) ++ code) (end ++ last)
      (small_both (number_written (items_in l.c)) code (number_small (items_in l.c) (omega arith)) (items_small format.nested l.c says.plan.items whole))
      (small_both end last (small_both (conclusion_written l.Y) (l.rule ∷ []) (conclusion_small l.Y says.end) (fits.rule, tt)) (omega arith, numbers_small l.cites fits.cites)))

  lines_small : (ls : List Line) → Each (LineFits format n m) ls → Small (lines_written Plain ls)
  unfolding lines_written
  lines_small [] fits = tt
  lines_small (l ∷ ls) fits = small_both (line_written Plain l) (lines_written Plain ls) (line_small l fits.0) (lines_small ls fits.1)

  pub derivation_in_bytes : (d : Derivation) → Each (LineFits format n m) d.lines → length d.lines < 65536 → Bytes (written Plain d)
  unfolding written closing_written
  derivation_in_bytes d fits few =
      small_bytes (written Plain d)
      (small_both (number_written (length d.lines)) (lines_written Plain d.lines ++ []) (number_small (length d.lines) few)
      (small_both (lines_written Plain d.lines) [] (lines_small d.lines fits) tt))

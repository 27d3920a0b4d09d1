-- A derivation that was read is written in the input, and its lines are read from either layout where they are by rules 1 to 6: these
-- conclude lists in both. Assumes nothing.
use Prim.Native.Nat.{ℕ, zero, suc, ◌+◌, ◌≤◌}
use native.Mathlib.Omega.{arith}
use mathlib.Core.Path.{◌≡◌, refl, sym, ◌∙◌, ap, ap₂, subst}
use mathlib.Core.Bool.{true, false}
use mathlib.Core.List.{List, [], ◌∷◌, ◌++◌}
use lib.ListN.{length}
use borrow.Author.Tests.{leb-true, ltb-false, le-ltb, ne_eqb}
use Rattle.meaning.specs.declared.Layout.{Layout}
use Rattle.meaning.specs.declared.Layout.TheVariants.{Plain, Closing}
use Rattle.meaning.specs.Tests.{either, some_of, each_of}
use Rattle.meaning.specs.Limits.{Limits}
use Rattle.meaning.specs.Literals.{among}
use Rattle.meaning.specs.Requests.{Sequence}
use Rattle.meaning.specs.Reading.{Got, got, literals, two_bytes_at, repeated, section_at}
use Rattle.meaning.specs.Derivations.{Conclusion, Line, Derivation, Concluded, concludes_fluent, list_concluded, fluent_concluded, conclusion_at, concluded_at, line_at, closing_at, read_derivation, a_rule}
use Rattle.meaning.specs.Layouts.{Bytes, list_written, number_written, numbers_written, plan_written, conclusion_written, concluded_written, line_written, lines_written, closing_written, written, plain_rules}
use Rattle.meaning.proofs.TestLaws.{both_left, both_right, clash, pick_false}
use Rattle.meaning.proofs.GotLaws.{On, got_on, pick_on, refuse_on, next_on}
use Rattle.meaning.proofs.MovedReads.{next_is, Stands, stands_both, stands_parts, whole_stands, stands_whole, stands_inside, Copied, byte_stands, byte_copied, count_copied, below_copied, list_copied, numbers_stand, two_bytes_copied, numbers_copied}
use Rattle.meaning.proofs.MovedPlans.{plan_copied}
use Rattle.meaning.proofs.PlacelessLaws.{unplaced_line, unplaced_lines}

-- Rules 1 to 6 conclude lists.
plain_lists : (rule : ℕ) → a_rule Plain rule ≡ true → concludes_fluent rule ≡ false
unfolding a_rule concludes_fluent among some_of either
plain_lists rule h =
    let most = leb-true rule 6 (both_right _ _ h) in
    rw (ne_eqb rule 7 (λ e. omega arith), ne_eqb rule 8 (λ e. omega arith), ne_eqb rule 10 (λ e. omega arith), ne_eqb rule 11 (λ e. omega arith), ne_eqb rule 12 (λ e. omega arith)) refl

-- What is written for a closing list is read as it in the closing layout, and as none in the plain one.
abbrev pub closed_in : Layout → List ℕ → List ℕ
closed_in Plain ks = []
closed_in Closing ks = ks

-- A line up to f, its places aside; and lines.
pub record LineMoved (m : Got Line) (l : Line) (f : ℕ) : Type 0 where
  pub value : Line
  pub is : m ≡ got value f
  pub alike : unplaced_line value ≡ unplaced_line l

pub record LinesMoved (m : Got (List Line)) (ls : List Line) (f : ℕ) : Type 0 where
  pub value : List Line
  pub is : m ≡ got value f
  pub alike : unplaced_lines value ≡ unplaced_lines ls

-- A derivation that is read with these lines, their places aside, and that closing list.
pub record Rewritten (lim : Limits) (n m : ℕ) (ls : List Line) (other : Layout) (ks u : List ℕ) : Type 0 where
  pub value : Derivation
  pub is : read_derivation lim n m u other ≡ got value (length u)
  pub lines_alike : unplaced_lines value.lines ≡ unplaced_lines ls
  pub closing_is : value.closing ≡ closed_in other ks

module _ (lim : Limits) (n m : ℕ) where
  -- FROM EITHER LAYOUT. A rule byte and a list.
  concluded_again : (rule : ℕ) (Y : Conclusion) → concludes_fluent rule ≡ false
      → ((u : List ℕ) (q f : ℕ) → Stands u q (conclusion_written Y) f → list_concluded lim n u q ≡ got Y f)
      → (other : Layout) (u : List ℕ) (q f : ℕ) → Stands u q (concluded_written other rule Y) f → concluded_at lim n u other q ≡ got (record { rule = rule; Y = Y }) f
  unfolding concluded_at concluded_written conclusion_at
  concluded_again rule Y lists again Plain u q f st =
      let parts = stands_parts u q (conclusion_written Y) (rule ∷ []) f st in
      next_is _ _ _ _ (again u q parts.0 parts.1) ∙ next_is _ _ _ _ (byte_stands u parts.0 rule f parts.2)
  concluded_again rule Y lists again Closing u q f st =
      next_is _ _ _ _ (byte_stands u q rule (q + 1) (st.0, st.1, refl)) ∙ next_is _ _ _ _ (pick_false _ _ _ lists ∙ again u (q + 1) f st.2)

  closing_again : (other : Layout) (ks : List ℕ) (u : List ℕ) (q f : ℕ) → Stands u q (closing_written other ks) f → closing_at u other q ≡ got (closed_in other ks) f
  unfolding closing_at closing_written section_at
  closing_again Plain ks u q f st = ap (λ (o : ℕ). got [] o) st
  closing_again Closing ks u q f st = next_is _ _ _ _ (byte_stands u q (length ks) (q + 1) (st.0, st.1, refl)) ∙ numbers_stand u (q + 1) ks f st.2

  module _ (s : List ℕ) (bytes : Bytes s) where
    -- WHAT WAS READ.
    record ConcludedCopied (layout : Layout) (p : ℕ) (x : Concluded) (e : ℕ) : Type 0 where
      there : Stands s p (concluded_written layout x.rule x.Y) e
      again : concludes_fluent x.rule ≡ false → (other : Layout) (u : List ℕ) (q f : ℕ) → Stands u q (concluded_written other x.rule x.Y) f → concluded_at lim n u other q ≡ got x f

    list_there : (p : ℕ) → On (list_concluded lim n s p) (Copied (list_concluded lim n) conclusion_written s p)
    unfolding list_concluded conclusion_written
    list_there p =
        next_on _ _ (list_copied literals n s lim.listed p) λ Y e one.
        got_on _ _ (record { there = one.there; again = λ u q f st. next_is _ _ _ _ (one.again u q f st) })

    fluent_there : (p : ℕ) → On (fluent_concluded lim n s p) (λ Y e. Stands s p (conclusion_written Y) e)
    unfolding fluent_concluded conclusion_written
    fluent_there p = next_on _ _ (below_copied s n p) λ g e one. got_on _ _ one.there

    concluded_copied : (layout : Layout) (p : ℕ) → On (concluded_at lim n s layout p) (ConcludedCopied layout p)
    unfolding concluded_at concluded_written conclusion_at
    concluded_copied Plain p =
        next_on _ _ (list_there p) λ Y q one.
        next_on _ _ (byte_copied s q) λ rule e two.
        got_on _ _ (record {
          there = stands_both s p (conclusion_written Y) q (rule ∷ []) e one.there two.there;
          again = λ lists. concluded_again rule Y lists one.again;
        })
    concluded_copied Closing p =
        next_on _ _ (byte_copied s p) λ rule q one.
        next_on {P = λ Y e. Stands s q (conclusion_written Y) e × (concludes_fluent rule ≡ false → (u : List ℕ) (o f : ℕ) → Stands u o (conclusion_written Y) f → list_concluded lim n u o ≡ got Y f)} _ _
        (pick_on _ _ _
        (λ fluent. record { holds = λ Y e read. ((fluent_there q).holds Y e read, λ lists. clash fluent lists) })
        (λ _. record { holds = λ Y e read. let all = (list_there q).holds Y e read in (all.there, λ lists. all.again) })) λ Y e two.
        let here = one.there in
        got_on _ _ (record {
          there = (here.0, here.1, subst (λ (o : ℕ). Stands s o (conclusion_written Y) e) (sym here.2) two.0);
          again = λ lists. concluded_again rule Y lists (two.1 lists);
        })

    record LineCopied (layout : Layout) (p : ℕ) (l : Line) (e : ℕ) : Type 0 where
      there : Stands s p (line_written layout l) e
      again : concludes_fluent l.rule ≡ false → (other : Layout) (u : List ℕ) (q f : ℕ) → Stands u q (line_written other l) f → LineMoved (line_at lim n m u other q) l f

    line_copied : (layout : Layout) (p : ℕ) → On (line_at lim n m s layout p) (LineCopied layout p)
    unfolding line_at line_written
    line_copied layout p =
        next_on _ _ (list_copied literals n s lim.listed p) λ X q₁ start.
        next_on _ _ (plan_copied lim n m s bytes q₁) λ plan q₂ whole.
        next_on _ _ (concluded_copied layout q₂) λ end q₃ concludes.
        next_on _ _ (count_copied s 0 lim.citations q₃) λ k q₄ count.
        next_on _ _ (numbers_copied s bytes k q₄) λ cites e numbers.
        let after : Layout → List ℕ = λ other. concluded_written other end.rule end.Y in
        let last : List ℕ = length cites ∷ numbers_written cites in
        let here = count.there in
        got_on _ _ (record {
          there =
              stands_both s p (list_written X) q₁ (plan_written plan.value ++ (after layout ++ last)) e start.there
              (stands_both s q₁ (plan_written plan.value) q₂ (after layout ++ last) e whole.there
              (stands_both s q₂ (after layout) q₃ last e concludes.there
              (here.0, here.1 ∙ sym numbers.1, subst (λ (o : ℕ). Stands s o (numbers_written cites) e) (sym here.2) numbers.0)));
          again = λ lists other u o f st.
              let a = stands_parts u o (list_written X) (plan_written plan.value ++ (after other ++ last)) f st in
              let b = stands_parts u a.0 (plan_written plan.value) (after other ++ last) f a.2 in
              let c = stands_parts u b.0 (after other) last f b.2 in
              let moved = whole.again u a.0 b.0 b.1 in
              let size : k ≡ length cites = sym numbers.1 in
              let given : repeated (two_bytes_at u) k (c.0 + 1) ≡ got cites f = subst (λ (j : ℕ). repeated (two_bytes_at u) j (c.0 + 1) ≡ got cites f) (sym size) (numbers_stand u (c.0 + 1) cites f c.2.2) in
              record {
                value = record { place = o; X = X; c = moved.value; Y = end.Y; rule = end.rule; cites = cites };
                is =
                    next_is _ _ _ _ (start.again u o a.0 a.1)
                    ∙ next_is _ _ _ _ moved.is
                    ∙ next_is _ _ _ _ (concludes.again lists other u b.0 c.0 c.1)
                    ∙ next_is _ _ _ _ (count.again u c.0 (c.0 + 1) (c.2.0, c.2.1 ∙ sym size, refl))
                    ∙ next_is _ _ _ _ given;
                alike = ap (λ (x : Sequence ℕ). record { place = 0; X = X; c = x; Y = end.Y; rule = end.rule; cites = cites }) moved.alike;
              };
        })

    record LinesCopied (layout : Layout) (left p : ℕ) (ls : List Line) (e : ℕ) : Type 0 where
      there : Stands s p (lines_written layout ls) e
      size : length ls ≡ left
      again : plain_rules ls ≡ true → (other : Layout) (u : List ℕ) (q f : ℕ) → Stands u q (lines_written other ls) f → LinesMoved (repeated (line_at lim n m u other) left q) ls f

    lines_copied : (layout : Layout) (left p : ℕ) → On (repeated (line_at lim n m s layout) left p) (LinesCopied layout left p)
    unfolding repeated lines_written plain_rules each_of
    lines_copied layout zero p = got_on _ _ (record { there = refl; size = refl; again = λ lists other u q f st. record { value = []; is = ap (λ (o : ℕ). got [] o) st; alike = refl } })
    lines_copied layout (suc left) p =
        next_on _ _ (line_copied layout p) λ l q one.
        next_on _ _ (lines_copied layout left q) λ ls e more.
        got_on _ _ (record {
          there = stands_both s p (line_written layout l) q (lines_written layout ls) e one.there more.there;
          size = ap suc more.size;
          again = λ plain other u o f st.
              let parts = stands_parts u o (line_written other l) (lines_written other ls) f st in
              let first = one.again (plain_lists l.rule (both_left _ _ plain)) other u o parts.0 parts.1 in
              let rest = more.again (both_right _ _ plain) other u parts.0 f parts.2 in
              record {
                value = first.value ∷ rest.value;
                is = next_is _ _ _ _ first.is ∙ next_is _ _ _ _ rest.is;
                alike = ap₂ {C = List Line} (λ x xs. x ∷ xs) first.alike rest.alike;
              };
        })

    -- A DERIVATION.
    pub record DerivationCopied (layout : Layout) (d : Derivation) (e : ℕ) : Type 0 where
      pub same : written layout d ≡ s
      pub within : length s ≤ lim.derivation
      pub again : plain_rules d.lines ≡ true → (other : Layout) (ks : List ℕ) (place : ℕ)
          → length (written other (record { lines = d.lines; closing = ks; closing_place = place })) ≤ lim.derivation
          → Rewritten lim n m d.lines other ks (written other (record { lines = d.lines; closing = ks; closing_place = place }))

    closing_there : (layout : Layout) (p : ℕ) → On (closing_at s layout p) (λ ks e. Stands s p (closing_written layout ks) e)
    unfolding closing_at closing_written section_at
    closing_there Plain p = got_on _ _ refl
    closing_there Closing p =
        next_on _ _ (byte_copied s p) λ c q one.
        record {
          holds = λ ks e read.
              let numbers = (numbers_copied s bytes c q).holds ks e read in
              let here = one.there in
              (here.0, here.1 ∙ sym numbers.1, subst (λ (o : ℕ). Stands s o (numbers_written ks) e) (sym here.2) numbers.0);
        }

    pub derivation_copied : (layout : Layout) → On (read_derivation lim n m s layout) (DerivationCopied layout)
    unfolding read_derivation written
    derivation_copied layout =
        refuse_on _ _ _ _ λ short.
        next_on _ _ (two_bytes_copied s bytes 0) λ c p count.
        refuse_on _ _ _ _ λ counted.
        next_on _ _ (lines_copied layout c p) λ ls q lines.
        next_on _ _ (closing_there layout q) λ ks e closing.
        refuse_on _ _ _ _ λ nothing_after.
        let size : c ≡ length ls = sym lines.size in
        let code : Layout → List ℕ → List ℕ = λ other js. lines_written other ls ++ closing_written other js in
        let all : Stands s 0 (number_written (length ls) ++ code layout ks) e =
        stands_both s 0 (number_written (length ls)) p (code layout ks) e (subst (λ (k : ℕ). Stands s 0 (number_written k) p) size count.there)
        (stands_both s p (lines_written layout ls) q (closing_written layout ks) e lines.there closing)
        in
        let least = ltb-false e (length s) nothing_after in
        let most = stands_inside s 0 (number_written (length ls) ++ code layout ks) e (omega arith) all in
        let end : e ≡ length s = omega arith in
        got_on _ _ (record {
          same = stands_whole s _ (subst (λ (o : ℕ). Stands s 0 (number_written (length ls) ++ code layout ks) o) end all);
          within = ltb-false lim.derivation (length s) short;
          again = λ plain other js place fits.
              let u : List ℕ = number_written (length ls) ++ code other js in
              let a = stands_parts u 0 (number_written (length ls)) (code other js) (length u) (whole_stands u) in
              let b = stands_parts u a.0 (lines_written other ls) (closing_written other js) (length u) a.2 in
              let moved = lines.again plain other u a.0 b.0 b.1 in
              record {
                value = record { lines = moved.value; closing = closed_in other js; closing_place = b.0 };
                is =
                    pick_false _ _ _ (le-ltb lim.derivation (length u) fits)
                    ∙ next_is _ _ _ _ (count.again u 0 a.0 (subst (λ (k : ℕ). Stands u 0 (number_written k) a.0) (sym size) a.1))
                    ∙ pick_false _ _ _ counted
                    ∙ next_is _ _ _ _ moved.is
                    ∙ next_is _ _ _ _ (closing_again other js u b.0 (length u) b.2)
                    ∙ pick_false _ _ _ (le-ltb (length u) (length u) (omega arith));
                lines_alike = moved.alike;
                closing_is = refl;
              };
        })

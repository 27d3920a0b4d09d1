-- Two effects against each other, by what is held of the body of the one: a law for each way that their comparison returns. Assumes nothing.
use Prim.Native.Nat.{ℕ, ◌+◌, ◌/◌}
use native.Mathlib.Omega.{arith}
use mathlib.Core.Path.{◌≡◌, refl, sym, ◌∙◌, ap, ap₂, subst}
use mathlib.Core.Bool.{Bool, true, false, not}
use mathlib.Core.List.{List}
use lib.ListN.{length, get_or}
use lib.Dec.{eqb}
use borrow.Author.Tests.{eq-eqb, ne_eqb}
use mir.Syntax.{w64}
use mir.Val.{Fits}
use Rattle.meaning.specs.Tests.{both, fails}
use Rattle.meaning.specs.Requests.{Executability}
use Rattle.meaning.specs.Lines.{executability_of}
use Rattle.meaning.specs.declared.Form.{Form}
use Rattle.meaning.specs.declared.Form.TheVariants.{Flags, Valued}
use Rattle.meaning.proofs.TestLaws.{those_has}
use Rattle.parsing.specs.Masks.{Counted}
use Rattle.parsing.proofs.LineReaderLaws.{counted_values}
use Rattle.reading.specs.Listed.{listed_as, LiteralsHere}
use Rattle.finding.specs.LinesHere.{body_place, effect_from, EffectHere}
use Rattle.finding.specs.TablesHere.{table_in, RunsHere}
use Rattle.finding.proofs.ByBranch.{list_starts}
use Rattle.valuing.specs.Meets.{meets_as}
use Rattle.refusing.specs.Refusal16.{contradictory_as, agreeing, passing_lines, sets_apart}
use Rattle.refusing.proofs.FlagClashes.{flags_clash}
use Rattle.refusing.proofs.ValueClashes.{values_clash, some_alike}

-- THE BODY of an effect, at b.
module _ (form : Form) (s : List ℕ) (p b : ℕ) (here : EffectHere form s p) (at : body_place form p ≡ b) where
  pub body_here : LiteralsHere form s b
  body_here = subst (LiteralsHere form s) at here.body

  pub body_fits : Fits w64 (length s) → Fits w64 b
  body_fits room = let starts = list_starts form s b body_here in let most = room.fits in record { fits = omega arith }

-- WHAT THEY SET.
pub action_other : (form : Form) (s : List ℕ) (p q : ℕ) → (get_or s p 0 ≡ get_or s q 0 → ⊥) → false ≡ sets_apart form s p q
unfolding sets_apart both
action_other Flags s p q h = sym (rw (ne_eqb (get_or s p 0) (get_or s q 0) h))
action_other Valued s p q h = sym (rw (ne_eqb (get_or s p 0) (get_or s q 0) h))

module _ (form : Form) (s : List ℕ) (p q : ℕ) (same : get_or s p 0 ≡ get_or s q 0) where
  pub literals_told : form ≡ Flags → get_or s (p + 1) 0 / 2 ≡ get_or s (q + 1) 0 / 2 → not (eqb (get_or s (p + 1) 0) (get_or s (q + 1) 0)) ≡ sets_apart form s p q
  unfolding sets_apart both fails
  literals_told is e = rw (is, eq-eqb (get_or s p 0) (get_or s q 0) same, eq-eqb (get_or s (q + 1) 0 / 2) (get_or s (p + 1) 0 / 2) (sym e)) refl

  pub literals_other : form ≡ Flags → (get_or s (p + 1) 0 / 2 ≡ get_or s (q + 1) 0 / 2 → ⊥) → eqb (get_or s (p + 1) 0 / 2) (get_or s (q + 1) 0 / 2) ≡ sets_apart form s p q
  unfolding sets_apart both
  literals_other is h = rw (is, eq-eqb (get_or s p 0) (get_or s q 0) same, ne_eqb (get_or s (q + 1) 0 / 2) (get_or s (p + 1) 0 / 2) (λ e. h (sym e))) (ne_eqb _ _ h)

  pub values_told : form ≡ Valued → get_or s (p + 1) 0 ≡ get_or s (q + 1) 0 → not (eqb (get_or s (p + 2) 0 / 2) (get_or s (q + 2) 0 / 2)) ≡ sets_apart form s p q
  unfolding sets_apart both fails
  values_told is e = rw (is, eq-eqb (get_or s p 0) (get_or s q 0) same, eq-eqb (get_or s (q + 1) 0) (get_or s (p + 1) 0) (sym e)) refl

  pub values_other : form ≡ Valued → (get_or s (p + 1) 0 ≡ get_or s (q + 1) 0 → ⊥) → eqb (get_or s (p + 1) 0) (get_or s (q + 1) 0) ≡ sets_apart form s p q
  unfolding sets_apart both
  values_other is h = rw (is, eq-eqb (get_or s p 0) (get_or s q 0) same, ne_eqb (get_or s (q + 1) 0) (get_or s (p + 1) 0) (λ e. h (sym e))) (ne_eqb _ _ h)

-- WHETHER THEY CONTRADICT.
clash_is : (form : Form) (s t : List ℕ) (p q : ℕ) → Counted form s → RunsHere form s t → EffectHere form s p → EffectHere form s q
    → contradictory_as form s (effect_from form s p) (effect_from form s q)
    ≡ both (both (sets_apart form s p q) (meets_as form s (listed_as form s (body_place form p)) (listed_as form s (body_place form q))))
    (passing_lines (agreeing (meets_as form) s (listed_as form s (body_place form p)) (listed_as form s (body_place form q))) (table_in form s) (get_or s p 0))
clash_is Flags s t p q counted runs here there = flags_clash s p q here there
clash_is Valued s t p q counted runs here there = values_clash s p q (counted_values Valued s refl counted) here there t runs

pub clash_not : (form : Form) (s t : List ℕ) (p q : ℕ) → Counted form s → RunsHere form s t → EffectHere form s p → EffectHere form s q
    → (apart : Bool) → apart ≡ sets_apart form s p q → apart ≡ false → false ≡ contradictory_as form s (effect_from form s p) (effect_from form s q)
unfolding both
clash_not form s t p q counted runs here there apart asked e = sym (clash_is form s t p q counted runs here there ∙ rw (sym asked, e))

-- What is held of a list, of which the law says that it meets what the list does.
module _ {Held : Type 0} (meets : List ℕ → Held → List ℕ → Bool) (form : Form) (s : List ℕ) where
  abbrev Stands : Held → List ℕ → Type 0
  Stands held c = (p : ℕ) → LiteralsHere form s p → meets s held (listed_as form s p) ≡ meets_as form s c (listed_as form s p)

  -- The executability lines that agree with two lists, by what is held of them.
  lines_held : (t : List ℕ) (a : ℕ) (c d : List ℕ) (one other : Held) → RunsHere form s t → Stands one c → Stands other d
      → passing_lines (agreeing meets s one other) (table_in form s) a ≡ passing_lines (agreeing (meets_as form) s c d) (table_in form s) a
  unfolding passing_lines agreeing executability_of
  lines_held t a c d one other runs so too =
      some_alike _ _ (executability_of (table_in form s) a) λ x has.
      let stands = runs.line x (those_has _ (table_in form s).executability x has).0 in
      ap₂ both (line_held x stands.0 stands.1 one c so) (line_held x stands.0 stands.1 other d too)
    where
      line_held : (x : Executability) → listed_as form s (x.place + 1) ≡ x.body → LiteralsHere form s (x.place + 1) → (held : Held) (e : List ℕ) → Stands held e → meets s held x.body ≡ meets_as form s e x.body
      line_held x is here held e law = subst (λ (b : List ℕ). meets s held b ≡ meets_as form s e b) is (law (x.place + 1) here)

  module _ (t : List ℕ) (p q : ℕ) (counted : Counted form s) (runs : RunsHere form s t) (here : EffectHere form s p) (there : EffectHere form s q) (apart : Bool) (asked : apart ≡ sets_apart form s p q) where
    abbrev Contradict : Bool
    Contradict = contradictory_as form s (effect_from form s p) (effect_from form s q)

    module _ (held : Held) (law : Stands held (listed_as form s (body_place form p))) (b : ℕ) (at : body_place form q ≡ b) (together : Bool) (tested : together ≡ meets s held (listed_as form s b)) where
      together_is : Contradict ≡ both (both apart together) (passing_lines (agreeing (meets_as form) s (listed_as form s (body_place form p)) (listed_as form s (body_place form q))) (table_in form s) (get_or s p 0))
      together_is =
          let told = subst (λ (x : ℕ). together ≡ meets s held (listed_as form s x)) (sym at) tested in
          clash_is form s t p q counted runs here there ∙ rw (sym asked, sym (law (body_place form q) there.body), sym told)

      pub clash_apart : together ≡ false → apart ≡ true → false ≡ Contradict
      unfolding both
      clash_apart e f = sym (together_is ∙ rw (e, f))

      pub clash_together : together ≡ true → apart ≡ true → (a : ℕ) → a ≡ get_or s p 0 → (other : Held) → Stands other (listed_as form s b)
          → (r : Bool) → r ≡ passing_lines (agreeing meets s held other) (table_in form s) a → r ≡ Contradict
      unfolding both
      clash_together e f a acts other too r is =
          is
          ∙ lines_held t a (listed_as form s (body_place form p)) (listed_as form s (body_place form q)) held other runs law (subst (λ (x : ℕ). Stands other (listed_as form s x)) (sym at) too)
          ∙ ap (passing_lines (agreeing (meets_as form) s (listed_as form s (body_place form p)) (listed_as form s (body_place form q))) (table_in form s)) acts
          ∙ sym (together_is ∙ rw (e, f))

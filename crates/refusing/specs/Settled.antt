-- What is refused after reading: by the table alone, and by the request that was read.
use Rattle.std.specs.Prelude.{ℕ, List, []}
use Rattle.meaning.specs.Limits
use Rattle.meaning.specs.Requests.{Table, Request}
use Rattle.meaning.specs.Reading.{Got, got, next, literals_in}
use Rattle.meaning.specs.Refusals.{Found, first_against, contradiction_in, mixed_in, refuse}
use Rattle.meaning.specs.Values.{contradictory}
use Rattle.meaning.specs.declared.Form.{Form}
use Rattle.meaning.specs.declared.Form.TheVariants.{Flags, Valued}
use Rattle.reader.specs.Sections.{sections_as}
use Rattle.refusing.specs.Refusal18.{overlap_as}

-- The first effect that contradicts one before it, by what the form's literals say (FORMAT 4.37, 26.24).
abbrev pub contradiction_as : Form → List ℕ → Table → Found
contradiction_as Flags s x = contradiction_in x
contradiction_as Valued s x = first_against (contradictory (literals_in s) x) [] x.effects

-- 17 alone, and 16 before it, of a table that ends at e (FORMAT 5.16, 5.17).
unfoldable pub table_unmixed : Table → (e : ℕ) → Got Table
table_unmixed x e = refuse Limits.effect_and_knowledge (mixed_in x.effects x.knowledge) λ _. got x e

unfoldable pub table_settled : Table → (e : ℕ) → Got Table
table_settled x e = refuse Limits.contradictory_effects (contradiction_in x) λ _. table_unmixed x e

abbrev pub table_settled_as : Form → List ℕ → Table → (e : ℕ) → Got Table
table_settled_as Flags s x e = table_settled x e
table_settled_as Valued s x e = refuse Limits.contradictory_effects (contradiction_as Valued s x) λ _. table_unmixed x e

-- 16 to 18 of a request, and what was read of it.
abbrev pub past_as : {A : Type 0} → Form → List ℕ → Request → Got A → Got A
past_as form s x whole =
    refuse Limits.contradictory_effects (contradiction_as form s x.table) λ _.
    refuse Limits.effect_and_knowledge (mixed_in x.table.effects x.table.knowledge) λ _.
    refuse Limits.not_exclusive (overlap_as form s x.plan) λ _.
    whole

-- 18 alone, and 16 and 17 before it, of the request at the start of an input that was read up to e (FORMAT 5.16 to 5.19).
unfoldable pub past_18 : Form → List ℕ → (e : ℕ) → Got Request
past_18 form s e = next (sections_as form s 0) λ x _. refuse Limits.not_exclusive (overlap_as form s x.plan) λ _. got x e

unfoldable pub past_all : Form → List ℕ → (e : ℕ) → Got Request
past_all form s e = next (sections_as form s 0) λ x _. past_as form s x (got x e)

-- The proved cases of the walk call, without the line and with it, of the guarded call, of the call by cases, of the values call, of the index call and the indexed call, of the
-- derivation call, of the whether call, of the derive call and of the release call, one statement over one list. Its parts were computed where they are. Assumes nothing.
use Prim.Native.Nat.{ℕ}
use mathlib.Core.Path.{◌≡◌, refl, sym, ◌∙◌, ap, ap₂}
use mathlib.Core.List.{List, ◌++◌, map, map-map, map-append}
use Rattle.meaning.specs.declared.Answer.{Answer}
use Rattle.meaning.specs.declared.Layout.{Layout}
use Rattle.meaning.specs.Tests.{Has}
use Rattle.meaning.specs.Limits.{format}
use Rattle.meaning.specs.Judging.{Judgement, judge}
use Rattle.meaning.specs.Asking.{line}
use Rattle.meaning.specs.Guards.{judge_guarded, line_guarded}
use Rattle.meaning.specs.ByCases.{judge_by_cases, line_by_cases}
use Rattle.meaning.specs.Valued.{judge_values}
use Rattle.meaning.specs.Indexes.{Built, build, judge_indexed, line_indexed}
use Rattle.meaning.specs.Derivations.{check}
use Rattle.meaning.specs.Schemes.{derive}
use Rattle.meaning.specs.Releases.{Released, release}
use Rattle.meaning.proofs.TestLaws.{map_same, same_map}
use Rattle.meaning.proofs.Cases
use Rattle.meaning.proofs.Cases.{cases, cases_hold}
use Rattle.meaning.proofs.LineCases.{LineCase, line_cases, line_cases_hold, lines_hold}
use Rattle.meaning.proofs.GuardedCases.{guarded_cases, guarded_cases_hold, guarded_lines_hold}
use Rattle.meaning.proofs.CaseRows.{by_cases, by_cases_hold, by_cases_lines_hold}
use Rattle.meaning.proofs.ValueCases.{value_cases, value_cases_hold}
use Rattle.meaning.proofs.IndexCases.{BuildCase, building, building_holds, IndexedCase, indexed_cases, indexed_cases_hold, indexed_lines_hold}
use Rattle.meaning.proofs.SchemeCases.{DeriveCase, derive_cases, derive_cases_hold}
use Rattle.meaning.proofs.DerivationCases
use Rattle.meaning.proofs.DerivationCases.{derivations, derivations_hold}
use Rattle.meaning.proofs.WhetherCases.{whethers, whethers_hold}
use Rattle.meaning.proofs.ReleaseCases
use Rattle.meaning.proofs.ReleaseCases.{releases, releases_hold}
use Rattle.demands.proofs.MoreDerivations.{more_derivations, more_derivations_hold}
use Rattle.demands.proofs.MoreWhethers.{more_whethers, more_whethers_hold}
use Rattle.demands.proofs.MoreWritten.{more_written, more_written_hold}
use Rattle.demands.proofs.MoreValues.{more_values, more_values_hold}
use Rattle.demands.proofs.LongCases.{long_cases, long_cases_hold, long_derivations, long_derivations_hold, long_releases, long_releases_hold, long_written, long_written_hold}
use Rattle.demands.proofs.WideCases.{wide_cases, wide_cases_hold, wide_lines_hold}
use Rattle.demands.proofs.ReuseCases.{reuse_cases, reuse_cases_hold}

-- A call, and what it gives. A derivation in the plain layout is put to the derivation call, and one in the closing layout to the whether call.
pub data Call : Type 0 where
  judging : (request lent : List ℕ) → (budget : ℕ) → Call
  judging_line : (request lent : List ℕ) → (budget : ℕ) → Call
  guarding_line : (request lent : List ℕ) → (budget : ℕ) → Call
  by_cases_line : (request lent : List ℕ) → (budget : ℕ) → Call
  valuing : (request lent : List ℕ) → (budget : ℕ) → Call
  indexing : (request room : List ℕ) → Call
  indexed_line : (request index lent : List ℕ) → (budget : ℕ) → Call
  writing : (request room : List ℕ) → (budget : ℕ) → Call
  checking : Layout → (request derivation : List ℕ) → Call
  releasing : (file lent : List ℕ) → (budget : ℕ) → Call

pub data Given : Type 0 where
  judged : Judgement → Given
  judged_line : Judgement → (line : ℕ) → Given
  built : Built → Given
  answered : Answer → Given
  released : Released → Given

abbrev pub outcome_of : Call → Given
outcome_of (judging request lent budget) = judged (judge format request lent budget)
outcome_of (judging_line request lent budget) = judged_line (judge format request lent budget) (line format request lent budget)
outcome_of (guarding_line request lent budget) = judged_line (judge_guarded format request lent budget) (line_guarded format request lent budget)
outcome_of (by_cases_line request lent budget) = judged_line (judge_by_cases format request lent budget) (line_by_cases format request lent budget)
outcome_of (valuing request lent budget) = judged (judge_values format request lent budget)
outcome_of (indexing request room) = built (build format request room)
outcome_of (indexed_line request index lent budget) = judged_line (judge_indexed format request index lent budget) (line_indexed format request index lent budget)
outcome_of (writing request room budget) = built (derive format request room budget)
outcome_of (checking layout request derivation) = answered (check format layout request derivation)
outcome_of (releasing file lent budget) = released (release format file lent budget)

pub record Row : Type 0 where
  pub call : Call
  pub gives : Given

abbrev judging_row : Cases.Case → Row
judging_row c = record { call = judging c.request c.lent c.budget; gives = judged c.gives }

abbrev line_row : LineCase → Row
line_row c = record { call = judging_line c.request c.lent c.budget; gives = judged_line c.gives c.carries }

abbrev guarding_row : LineCase → Row
guarding_row c = record { call = guarding_line c.request c.lent c.budget; gives = judged_line c.gives c.carries }

abbrev by_cases_row : LineCase → Row
by_cases_row c = record { call = by_cases_line c.request c.lent c.budget; gives = judged_line c.gives c.carries }

abbrev valuing_row : Cases.Case → Row
valuing_row c = record { call = valuing c.request c.lent c.budget; gives = judged c.gives }

abbrev indexing_row : BuildCase → Row
indexing_row c = record { call = indexing c.request c.room; gives = built c.gives }

abbrev indexed_row : IndexedCase → Row
indexed_row c = record { call = indexed_line c.of.request c.index c.of.lent c.of.budget; gives = judged_line c.of.gives c.of.carries }

abbrev writing_row : DeriveCase → Row
writing_row c = record { call = writing c.request c.room c.budget; gives = built c.gives }

abbrev checking_row : DerivationCases.Case → Row
checking_row c = record { call = checking c.layout c.request c.derivation; gives = answered c.gives }

abbrev releasing_row : ReleaseCases.Case → Row
releasing_row c = record { call = releasing c.file c.lent c.budget; gives = released c.gives }

-- Each row's call gives what the row says.
abbrev Hold : List Row → Type 0
Hold rows = map (λ (r : Row). outcome_of r.call) rows ≡ map (λ (r : Row). r.gives) rows

-- ROWS THAT HOLD, and more of them behind.
record Held : Type 0 where
  rows : List Row
  hold : Hold rows

and_then : Held → Held → Held
and_then xs ys = record {
  rows = xs.rows ++ ys.rows;
  hold = map-append _ xs.rows ys.rows ∙ ap₂ {C = List Given} (λ gs hs. gs ++ hs) xs.hold ys.hold ∙ sym (map-append _ xs.rows ys.rows);
}

-- Those of a list of cases, each of which holds.
module _ {C : Type 0} (row : C → Row) (cs : List C) where
  each_row : ((c : C) → Has cs c → outcome_of (row c).call ≡ (row c).gives) → Held
  each_row each = record {
    rows = map row cs;
    hold = map-map _ row cs ∙ same_map (λ (c : C). outcome_of (row c).call) (λ (c : C). (row c).gives) cs each ∙ sym (map-map _ row cs);
  }

judgings : (cs : List Cases.Case) → map (λ (c : Cases.Case). judge format c.request c.lent c.budget) cs ≡ map (λ (c : Cases.Case). c.gives) cs → Held
judgings cs hold = each_row judging_row cs λ c has. ap judged (map_same _ (λ (c : Cases.Case). c.gives) cs c hold has)

valuings : (cs : List Cases.Case) → map (λ (c : Cases.Case). judge_values format c.request c.lent c.budget) cs ≡ map (λ (c : Cases.Case). c.gives) cs → Held
valuings cs hold = each_row valuing_row cs λ c has. ap judged (map_same _ (λ (c : Cases.Case). c.gives) cs c hold has)

checkings : (cs : List DerivationCases.Case) → map (λ (c : DerivationCases.Case). check format c.layout c.request c.derivation) cs ≡ map (λ (c : DerivationCases.Case). c.gives) cs → Held
checkings cs hold = each_row checking_row cs λ c has. ap answered (map_same _ (λ (c : DerivationCases.Case). c.gives) cs c hold has)

writings : (cs : List DeriveCase) → map (λ (c : DeriveCase). derive format c.request c.room c.budget) cs ≡ map (λ (c : DeriveCase). c.gives) cs → Held
writings cs hold = each_row writing_row cs λ c has. ap built (map_same _ (λ (c : DeriveCase). c.gives) cs c hold has)

releasings : (cs : List ReleaseCases.Case) → map (λ (c : ReleaseCases.Case). release format c.file c.lent c.budget) cs ≡ map (λ (c : ReleaseCases.Case). c.gives) cs → Held
releasings cs hold = each_row releasing_row cs λ c has. ap released (map_same _ (λ (c : ReleaseCases.Case). c.gives) cs c hold has)

-- Where two equations are over one list, for a call that gives a judgement and its line.
module _ {C : Type 0} (row : C → Row) (judges gives : C → Judgement) (tells carries : C → ℕ) (cs : List C) where
  lined : ((c : C) → (outcome_of (row c).call ≡ judged_line (judges c) (tells c)) × ((row c).gives ≡ judged_line (gives c) (carries c)))
      → map judges cs ≡ map gives cs → map tells cs ≡ map carries cs → Held
  lined says judged_so told_so =
      each_row row cs λ c has. (says c).0 ∙ ap₂ {C = Given} judged_line (map_same judges gives cs c judged_so has) (map_same tells carries cs c told_so has) ∙ sym (says c).1

-- Cases 1 to 13 and the rows beside them, those of the line, then case 14 and the rows beside it, then those of the closing layout, then those of
-- releases, those of reused verdicts, those of guarded plans, those by cases, those of fluents with values, those of indexes, those of derivations that are written, and last the long ones.
all_rows : Held
all_rows =
    and_then (judgings cases cases_hold)
    (and_then (lined line_row _ _ _ _ line_cases (λ _. (refl, refl)) line_cases_hold lines_hold)
    (and_then (checkings derivations derivations_hold)
    (and_then (checkings more_derivations more_derivations_hold)
    (and_then (checkings whethers whethers_hold)
    (and_then (checkings more_whethers more_whethers_hold)
    (and_then (releasings releases releases_hold)
    (and_then (judgings reuse_cases reuse_cases_hold)
    (and_then (lined guarding_row _ _ _ _ guarded_cases (λ _. (refl, refl)) guarded_cases_hold guarded_lines_hold)
    (and_then (lined by_cases_row _ _ _ _ by_cases (λ _. (refl, refl)) by_cases_hold by_cases_lines_hold)
    (and_then (lined by_cases_row _ _ _ _ wide_cases (λ _. (refl, refl)) wide_cases_hold wide_lines_hold)
    (and_then (valuings value_cases value_cases_hold)
    (and_then (valuings more_values more_values_hold)
    (and_then (each_row indexing_row building λ c has. ap built (map_same _ (λ (c : BuildCase). c.gives) building c building_holds has))
    (and_then (lined indexed_row _ _ _ _ indexed_cases (λ _. (refl, refl)) indexed_cases_hold indexed_lines_hold)
    (and_then (writings derive_cases derive_cases_hold)
    (and_then (writings more_written more_written_hold)
    (and_then (writings long_written long_written_hold)
    (and_then (judgings long_cases long_cases_hold)
    (and_then (checkings long_derivations long_derivations_hold) (releasings long_releases long_releases_hold))))))))))))))))))))

pub proved_cases : List Row
proved_cases = all_rows.rows

pub proved_cases_hold : map (λ (r : Row). outcome_of r.call) proved_cases ≡ map (λ (r : Row). r.gives) proved_cases
unfolding proved_cases
proved_cases_hold = all_rows.hold

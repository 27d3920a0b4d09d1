-- Rows that take long to compute, and that no edit of the definitions is refuted by: plans of as many items as there may be and of one more, a
-- step that senses seven fluents, a derivation that reaches further than a budget, and derivations of as many lines as there may be and of one more (FORMAT 24.51, 24.52). Assumes nothing.
use Prim.Native.Nat.{ℕ, zero, suc, ◌+◌, ◌*◌, ◌/◌, ◌%◌, ◌^◌}
use mathlib.Core.Path.{◌≡◌, refl}
use mathlib.Core.List.{List, [], ◌∷◌, ◌++◌, map}
use lib.ListN.{replicate}
use Rattle.meaning.specs.declared.Layout.TheVariants.{Plain}
use Rattle.meaning.specs.Limits.{format}
use Rattle.meaning.specs.Judging.{judge}
use Rattle.meaning.specs.Derivations.{check}
use Rattle.meaning.specs.Releases.{release}
use Rattle.meaning.specs.Schemes.{derive}
use Rattle.meaning.proofs.Compute.{all_open}
use Rattle.meaning.proofs.Cases.{Case, refused, no_lines, opening, copies}
use Rattle.meaning.proofs.DerivationCases
use Rattle.meaning.proofs.DerivationCases.{row_in, sensing_seven}
use Rattle.meaning.proofs.ReleaseCases
use Rattle.meaning.proofs.ReleaseCases.{judged, no_item}
use Rattle.meaning.proofs.SchemeCases.{DeriveCase}

pub long_cases : List Case
long_cases =
    -- D6, D7
    refused (no_lines ++ (4 ∷ 1 ∷ []) ++ replicate 1024 0 ++ (255 ∷ [])) 21 1032 ∷
    refused (no_lines ++ (4 ∷ 1 ∷ []) ++ replicate 1024 0) 11 1032 ∷
    -- The ninth branching inside one another is the 1,025th item: 21 goes before 19 (FORMAT 5.6). As the 1,024th item it is 19.
    refused (no_lines ++ copies 8 opening ++ (3 ∷ 249 ∷ []) ++ replicate 1016 0 ++ (255 ∷ [])) 21 1064 ∷
    refused (no_lines ++ copies 8 opening ++ (3 ∷ 249 ∷ []) ++ replicate 1015 0 ++ (255 ∷ [])) 19 1063 ∷
    []

pub long_cases_hold : map (λ (c : Case). judge format c.request c.lent c.budget) long_cases ≡ map (λ (c : Case). c.gives) long_cases
unfolding all_open no_lines opening copies long_cases
long_cases_hold = refl

-- The last plan of a release has an item too many: 21.
pub long_releases : List ReleaseCases.Case
long_releases =
    judged (ReleaseCases.no_lines 2 ++ no_item ++ (4 ∷ 1 ∷ []) ++ replicate 1025 0) 8 (0 ∷ 0 ∷ 1 ∷ 0 ∷ 21 ∷ 1037 ∷ 0 ∷ 1 ∷ []) ∷
    []

pub long_releases_hold : map (λ (c : ReleaseCases.Case). release format c.file c.lent c.budget) long_releases ≡ map (λ (c : ReleaseCases.Case). c.gives) long_releases
unfolding all_open no_item ReleaseCases.no_lines long_releases
long_releases_hold = refl

-- The literals of reading k, from fluent f on, and one line for each of a given number of readings, from k on: X the reading, nothing to do, nothing
-- wanted, by rule 6 from line 0.
reading : (left k f : ℕ) → List ℕ
reading zero k f = []
reading (suc left) k f = (2 * f + (k / 2 ^ left) % 2) ∷ reading left k (suc f)

reading_lines : (left k : ℕ) → List ℕ
reading_lines zero k = []
reading_lines (suc left) k = 7 ∷ reading 7 k 0 ++ (0 ∷ 0 ∷ 0 ∷ 6 ∷ 1 ∷ 0 ∷ 0 ∷ []) ++ reading_lines left (suc k)

cited_from : (left k : ℕ) → List ℕ
cited_from zero k = []
cited_from (suc left) k = 0 ∷ k ∷ cited_from left (suc k)

seven_readings : List ℕ
seven_readings = 0 ∷ 66 ∷ 0 ∷ 0 ∷ 0 ∷ 0 ∷ 1 ∷ 0 ∷ reading_lines 64 0 ++ (0 ∷ 0 ∷ 1 ∷ 0 ∷ 0 ∷ 3 ∷ 64 ∷ []) ++ cited_from 64 1

pub long_derivations : List DerivationCases.Case
long_derivations =
    -- A sensing step over seven unknown fluents, with the lines of the first 64 of its 128 readings (FORMAT 10.32).
    row_in Plain sensing_seven seven_readings 34 2 968 ∷
    []

pub long_derivations_hold : map (λ (c : DerivationCases.Case). check format c.layout c.request c.derivation) long_derivations ≡ map (λ (c : DerivationCases.Case). c.gives) long_derivations
unfolding all_open sensing_seven reading reading_lines cited_from seven_readings long_derivations
long_derivations_hold = refl

-- A DERIVATION REACHES FURTHER THAN A BUDGET. Three actions that sense a fluent each: five lines for each of them and two to put them
-- together, while the walk counts 15. With k such actions there are 6 k - 1 lines and the walk counts 2 ^ (k + 1) - 1, so from k = 32 on the
-- budget is spent whatever it is.
pub three_sensed : List ℕ
three_sensed = 4 ∷ 3 ∷ 1 ∷ 6 ∷ 0 ∷ 3 ∷ 0 ∷ 0 ∷ 1 ∷ 0 ∷ 2 ∷ 0 ∷ 3 ∷ 0 ∷ 0 ∷ 1 ∷ 1 ∷ 2 ∷ 2 ∷ 0 ∷ 3 ∷ 0 ∷ 1 ∷ 2 ∷ 1 ∷ 6 ∷ 0 ∷ []

pub three_derived : List ℕ
three_derived = 0 ∷ 17 ∷ 2 ∷ 0 ∷ 6 ∷ 0 ∷ 0 ∷ 2 ∷ 0 ∷ 6 ∷ 1 ∷ 0 ∷ 2 ∷ 0 ∷ 6 ∷ 0 ∷ 0 ∷ 1 ∷ 6 ∷ 6 ∷ 1 ∷ 0 ∷ 0 ∷ 2 ∷ 1 ∷ 6 ∷ 0 ∷ 0 ∷ 2 ∷ 1 ∷ 6 ∷ 1 ∷ 0 ∷ 2 ∷ 1 ∷ 6 ∷ 0 ∷ 0 ∷ 1 ∷ 6 ∷ 6 ∷ 1 ∷ 0 ∷ 2 ∷ 1 ∷ 6 ∷ 0 ∷ 1 ∷ 0 ∷ 1 ∷ 6 ∷ 3 ∷ 2 ∷ 0 ∷ 1 ∷ 0 ∷ 3 ∷ 2 ∷ 2 ∷ 6 ∷ 0 ∷ 0 ∷ 2 ∷ 2 ∷ 6 ∷ 1 ∷ 0 ∷ 2 ∷ 2 ∷ 6 ∷ 0 ∷ 0 ∷ 1 ∷ 6 ∷ 6 ∷ 1 ∷ 0 ∷ 5 ∷ 2 ∷ 3 ∷ 6 ∷ 0 ∷ 0 ∷ 2 ∷ 3 ∷ 6 ∷ 1 ∷ 0 ∷ 2 ∷ 3 ∷ 6 ∷ 0 ∷ 0 ∷ 1 ∷ 6 ∷ 6 ∷ 1 ∷ 0 ∷ 7 ∷ 1 ∷ 6 ∷ 0 ∷ 1 ∷ 1 ∷ 1 ∷ 6 ∷ 3 ∷ 2 ∷ 0 ∷ 6 ∷ 0 ∷ 8 ∷ 2 ∷ 4 ∷ 6 ∷ 0 ∷ 0 ∷ 2 ∷ 4 ∷ 6 ∷ 1 ∷ 0 ∷ 2 ∷ 4 ∷ 6 ∷ 0 ∷ 0 ∷ 1 ∷ 6 ∷ 6 ∷ 1 ∷ 0 ∷ 10 ∷ 2 ∷ 5 ∷ 6 ∷ 0 ∷ 0 ∷ 2 ∷ 5 ∷ 6 ∷ 1 ∷ 0 ∷ 2 ∷ 5 ∷ 6 ∷ 0 ∷ 0 ∷ 1 ∷ 6 ∷ 6 ∷ 1 ∷ 0 ∷ 12 ∷ 1 ∷ 6 ∷ 0 ∷ 1 ∷ 2 ∷ 1 ∷ 6 ∷ 3 ∷ 2 ∷ 0 ∷ 11 ∷ 0 ∷ 13 ∷ 1 ∷ 6 ∷ 0 ∷ 2 ∷ 0 ∷ 1 ∷ 1 ∷ 6 ∷ 5 ∷ 2 ∷ 0 ∷ 4 ∷ 0 ∷ 9 ∷ 1 ∷ 6 ∷ 0 ∷ 3 ∷ 0 ∷ 1 ∷ 2 ∷ 1 ∷ 6 ∷ 5 ∷ 2 ∷ 0 ∷ 15 ∷ 0 ∷ 14 ∷ []

pub beyond_a_budget : ((check format Plain three_sensed three_derived).number ≡ 0) × ((judge format three_sensed (replicate format.state 0) 14).answer.number ≡ 3) × ((judge format three_sensed (replicate format.state 0) 15).answer.number ≡ 0)
unfolding all_open three_sensed three_derived
beyond_a_budget = (refl, refl, refl)

-- Nine actions look at a fluent each, and the last fluent is known. A look at it is one line more, and the eight looks at what is unknown and a look behind them are 1,023.
looks : (plan : List ℕ) → List ℕ
looks plan = 9 ∷ 9 ∷ 1 ∷ 16 ∷ 0 ∷ 9 ∷ 0 ∷ 0 ∷ 1 ∷ 0 ∷ 2 ∷ 0 ∷ 3 ∷ 0 ∷ 4 ∷ 0 ∷ 5 ∷ 0 ∷ 6 ∷ 0 ∷ 7 ∷ 0 ∷ 8 ∷ 0 ∷ 9 ∷ 0 ∷ 0 ∷ 1 ∷ 1 ∷ 2 ∷ 2 ∷ 3 ∷ 3 ∷ 4 ∷ 4 ∷ 5 ∷ 5 ∷ 6 ∷ 6 ∷ 7 ∷ 7 ∷ 8 ∷ 8 ∷ plan ++ (0 ∷ 0 ∷ [])

abbrev without_room : (plan : List ℕ) → (number : ℕ) → DeriveCase
without_room plan number =
    record { request = looks plan; room = []; budget = 100000; gives = record { answer = record { number = number; input = 0; place = 0; count = 0 }; room = [] } }

pub long_written : List DeriveCase
long_written =
    -- 1,024 lines and no room: 39. One line more: 38.
    without_room (0 ∷ 10 ∷ 8 ∷ 0 ∷ 1 ∷ 2 ∷ 3 ∷ 4 ∷ 5 ∷ 6 ∷ 7 ∷ 0 ∷ []) 39 ∷
    without_room (0 ∷ 11 ∷ 8 ∷ 8 ∷ 0 ∷ 1 ∷ 2 ∷ 3 ∷ 4 ∷ 5 ∷ 6 ∷ 7 ∷ 0 ∷ []) 38 ∷
    []

pub long_written_hold : map (λ (c : DeriveCase). derive format c.request c.room c.budget) long_written ≡ map (λ (c : DeriveCase). c.gives) long_written
unfolding all_open looks long_written
long_written_hold = refl

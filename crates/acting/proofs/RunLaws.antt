-- The loop along an action's executability lines in file order: some line of all allows the action where one of those from line k on does. Assumes nothing.
use Prim.Native.Nat.{ℕ, ◌+◌, ◌≤◌, ◌<◌}
use native.Mathlib.Omega.{arith}
use mathlib.Core.Path.{◌≡◌, sym, ◌∙◌, ap, subst}
use mathlib.Core.Bool.{Bool, true, false}
use mathlib.Core.List.{List, map}
use lib.ListN.{length}
use mir.Syntax.{w64}
use mir.Val.{Fits}
use Rattle.meaning.specs.Tests.{either, some_of, each_of, Has}
use Rattle.meaning.specs.Limits.{format}
use Rattle.meaning.specs.declared.Form.TheVariants.{Valued}
use Rattle.meaning.specs.Requests.{Executability}
use Rattle.meaning.specs.Reading.{literals_in}
use Rattle.meaning.specs.Lines.{executability_of, allowed}
use Rattle.meaning.specs.States.{State}
use Rattle.meaning.specs.ValueStates.{known, can_be_run}
use Rattle.meaning.proofs.TestLaws.{those_has, map_has, some_mapped}
use Rattle.reading.specs.Noted.{run_lines, line_place, next_line, first_line}
use Rattle.reading.specs.Listed.{ValuesHere, listed_as}
use Rattle.reading.specs.Tables.{table_in}
use Rattle.finding.specs.ValueLines.{ValueBody, ValueRuns}
use Rattle.finding.proofs.AheadLaws.{Ahead, ahead_starts, ahead_none, ahead_first, line_others, line_rest, line_fit}

-- The body behind a line's place is known true.
abbrev allows : (s : List ℕ) (marks : State) → ℕ → Bool
allows s marks p = each_of (known (literals_in s) marks) (listed_as Valued s (p + 1))

pub record Running (s t : List ℕ) (a : ℕ) (marks : State) (k : ℕ) : Type 0 where
  pub ahead : Ahead (λ (p : ℕ). ValuesHere s (p + 1)) t run_lines k
  pub same : can_be_run (literals_in s) (table_in Valued s) a marks ≡ some_of (allows s marks) ahead.rest

module _ (s t : List ℕ) (here : ValueRuns s t) (a : ℕ) where
  stands : (x : Executability) → Has (executability_of (table_in Valued s) a) x → ValueBody s (x.place + 1) x.body
  unfolding executability_of
  stands x has = here.line x (those_has _ (table_in Valued s).executability x has).0

  pub running_starts : (k : ℕ) (marks : State) → a < format.actions → k ≡ first_line t run_lines a → Running s t a marks k
  unfolding ahead_starts can_be_run allowed
  running_starts k marks small at =
      let runs = executability_of (table_in Valued s) a in
      let places = map (λ (x : Executability). x.place) runs in
      record {
        ahead = ahead_starts (λ (p : ℕ). ValuesHere s (p + 1)) t run_lines a places (here.order a small)
            (λ p has. let w = map_has (λ (x : Executability). x.place) runs p has in subst (λ (q : ℕ). ValuesHere s (q + 1)) (sym w.2) (stands w.0 w.1).here)
            k at;
        same = sym (some_mapped (λ (x : Executability). x.place) (allows s marks) (λ (x : Executability). each_of (known (literals_in s) marks) x.body) runs
            (λ x has. ap (each_of (known (literals_in s) marks)) (stands x has).is));
      }

module _ (s t : List ℕ) (a : ℕ) (marks : State) (k : ℕ) (run : Running s t a marks k) where
  pub running_done : k ≤ 0 → false ≡ can_be_run (literals_in s) (table_in Valued s) a marks
  unfolding some_of
  running_done h = sym (run.same ∙ ap (some_of (allows s marks)) (ahead_none _ t run_lines k run.ahead h))

  module _ (more : 0 < k) (p : ℕ) (at : p ≡ line_place t run_lines k) where
    pub run_body : ValuesHere s (p + 1)
    run_body = line_fit (λ (q : ℕ). ValuesHere s (q + 1)) t run_lines k run.ahead more p at

    pub run_body_fits : Fits w64 (length s) → Fits w64 (p + 1)
    run_body_fits room = let ends = run_body.ends in let most = room.fits in record { fits = omega arith }

    others : List ℕ
    others = (ahead_first (λ (q : ℕ). ValuesHere s (q + 1)) t run_lines k run.ahead more).others

    module _ (b : Bool) (tested : b ≡ each_of (known (literals_in s) marks) (listed_as Valued s (p + 1))) where
      run_whole : can_be_run (literals_in s) (table_in Valued s) a marks ≡ either b (some_of (allows s marks) others)
      unfolding others some_of
      run_whole = run.same ∙ ap (some_of (allows s marks)) (line_rest _ t run_lines k run.ahead more p at) ∙ rw tested

      pub run_met : b ≡ true → true ≡ can_be_run (literals_in s) (table_in Valued s) a marks
      unfolding either
      run_met e = sym (run_whole ∙ rw e)

      pub run_next : (j : ℕ) → b ≡ false → j ≡ next_line t run_lines k → Running s t a marks j
      unfolding others line_others either
      run_next j e onward = record { ahead = line_others _ t run_lines k run.ahead more j onward; same = run_whole ∙ rw e }

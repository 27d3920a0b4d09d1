-- The executability lines of an action whose bodies pass a test, in file order: what all of them give is what those from line k on give. Assumes
-- nothing.
use Prim.Native.Nat.{ℕ, ◌+◌, ◌≤◌, ◌<◌}
use native.Mathlib.Omega.{arith}
use mathlib.Core.Path.{◌≡◌, sym, ◌∙◌, ap}
use mathlib.Core.Bool.{Bool, true, false}
use mathlib.Core.List.{List, map}
use lib.ListN.{length}
use mir.Syntax.{w64}
use mir.Val.{Fits}
use Rattle.meaning.specs.Tests.{both, either, some_of, Has}
use Rattle.meaning.specs.Limits.{format}
use Rattle.meaning.specs.Requests.{Executability}
use Rattle.meaning.specs.Lines.{executability_of}
use Rattle.meaning.specs.declared.Form.{Form}
use Rattle.meaning.proofs.TestLaws.{those_has, map_has, some_mapped}
use Rattle.reading.specs.Noted.{run_lines, line_place, next_line, first_line}
use Rattle.reading.specs.Listed.{listed_as, LiteralsHere}
use Rattle.finding.specs.TablesHere.{table_in, RunsHere}
use Rattle.finding.proofs.ByBranch.{list_starts}
use Rattle.finding.proofs.AheadLaws.{Ahead, ahead_starts, ahead_none, ahead_first, line_others, line_rest, line_fit}
use Rattle.refusing.specs.Refusal16.{agreeing, passing_lines}

-- ONE BODY against two.
module _ {Held : Type 0} (meets : List ℕ → Held → List ℕ → Bool) (s : List ℕ) (one other : Held) (b : List ℕ) (first : Bool) (tested : first ≡ meets s one b) where
  pub agreed : (r : Bool) → first ≡ true → r ≡ meets s other b → r ≡ agreeing meets s one other b
  unfolding agreeing both
  agreed r e is = is ∙ sym (rw (sym tested, e))

  pub not_agreed : first ≡ false → false ≡ agreeing meets s one other b
  unfolding agreeing both
  not_agreed e = sym (rw (sym tested, e))

-- ALL LINES.
module _ (form : Form) (s t : List ℕ) (test : List ℕ → Bool) where
  abbrev Fit : ℕ → Type 0
  Fit p = LiteralsHere form s (p + 1)

  abbrev passing_at : ℕ → Bool
  passing_at p = test (listed_as form s (p + 1))

  pub record Passing (whole : Bool) (k : ℕ) : Type 0 where
    pub ahead : Ahead Fit t run_lines k
    pub same : whole ≡ some_of passing_at ahead.rest

  pub passing_starts : (a k : ℕ) → RunsHere form s t → a < format.actions → k ≡ first_line t run_lines a → Passing (passing_lines test (table_in form s) a) k
  unfolding passing_lines ahead_starts executability_of
  passing_starts a k here small at =
      record {
        ahead = ahead_starts Fit t run_lines a (map (λ (x : Executability). x.place) (executability_of (table_in form s) a)) (here.order a small)
            (λ p has. let w = map_has (λ (x : Executability). x.place) (executability_of (table_in form s) a) p has in rw w.2 (line w.0 w.1).1) k at;
        same = sym (some_mapped (λ (x : Executability). x.place) passing_at (λ (x : Executability). test x.body) (executability_of (table_in form s) a)
            (λ x has. ap test (line x has).0));
      }
    where
      line : (x : Executability) → Has (executability_of (table_in form s) a) x → (listed_as form s (x.place + 1) ≡ x.body) × LiteralsHere form s (x.place + 1)
      line x has = let stands = here.line x (those_has _ (table_in form s).executability x has).0 in (stands.0, stands.1)

  module _ (whole : Bool) (k : ℕ) (run : Passing whole k) where
    pub passing_done : k ≤ 0 → false ≡ whole
    unfolding some_of
    passing_done h = sym (run.same ∙ ap (some_of passing_at) (ahead_none _ t run_lines k run.ahead h))

    module _ (more : 0 < k) (p : ℕ) (at : p ≡ line_place t run_lines k) where
      others : List ℕ
      others = (ahead_first Fit t run_lines k run.ahead more).others

      pub run_body : LiteralsHere form s (p + 1)
      run_body = line_fit Fit t run_lines k run.ahead more p at

      pub run_body_fits : Fits w64 (length s) → Fits w64 (p + 1)
      run_body_fits room = let starts = list_starts form s (p + 1) run_body in let most = room.fits in record { fits = omega arith }

      module _ (b : Bool) (tested : b ≡ test (listed_as form s (p + 1))) where
        run_whole : whole ≡ either b (some_of passing_at others)
        unfolding others some_of
        run_whole = run.same ∙ ap (some_of passing_at) (line_rest _ t run_lines k run.ahead more p at) ∙ rw tested

        pub passing_met : b ≡ true → true ≡ whole
        unfolding either
        passing_met e = sym (run_whole ∙ ap (λ (x : Bool). either x (some_of passing_at others)) e)

        pub passing_next : (j : ℕ) → b ≡ false → j ≡ next_line t run_lines k → Passing whole j
        unfolding others either line_others
        passing_next j e onward =
            record {
              ahead = line_others _ t run_lines k run.ahead more j onward;
              same = run_whole ∙ ap (λ (x : Bool). either x (some_of passing_at others)) e;
            }

-- Theorem 3.4 of Zhao and Shen, the completeness of the rules (FORMAT 24.28): where the walk of a settled request is verified and meets no sensing action that is too wide, the rules prove
-- its goals and each of its whether entries. The lines are those of the scheme for each, one block behind another. Assumes nothing.
use Prim.Native.Nat.{ℕ, ◌+◌, ◌-◌, ◌≤◌, ◌<◌}
use native.Mathlib.Omega.{arith}
use mathlib.Core.Path.{◌≡◌, refl, subst}
use mathlib.Core.Bool.{true}
use mathlib.Core.List.{List, [], ◌∷◌, map}
use mathlib.Core.Logic.{◌⊎◌, inl, inr, ⊎_elim}
use lib.ListN.{length, length-append, get_or}
use Rattle.meaning.specs.declared.Layout.TheVariants.{Closing}
use Rattle.meaning.specs.Tests.{each_of, Has}
use Rattle.meaning.specs.Limits
use Rattle.meaning.specs.Limits.{format}
use Rattle.meaning.specs.Literals.{says_true, fluent_of}
use Rattle.meaning.specs.Requests.{Table, done, Entry, Request, values}
use Rattle.meaning.specs.Reading.{got}
use Rattle.meaning.specs.Refusals.{settled}
use Rattle.meaning.specs.States.{State, known, known_whether, first_state}
use Rattle.meaning.specs.Walk.{no_state, fine, stopped, Verified}
use Rattle.meaning.specs.Judging.{walk_of}
use Rattle.meaning.specs.Derivations.{Conclusion, knows, knows_whether, Line, literals_of, says, goals_of, all_asked}
use Rattle.meaning.specs.Accepted.{AllNamed}
use Rattle.meaning.specs.Schemes.{line_of, empty_lines, and_cites, one_read, both_read, then_read, derivation_of, narrow_walk_of}
use Rattle.demands.specs.Completeness.{literal_known, whether_lines, lines_whether, entry_lines, asked_lines, ProvedByRules}
use Rattle.meaning.proofs.TestLaws.{clash, both_true, either_split, each_has, has_map}
use Rattle.meaning.proofs.PickLaws.{pick_has}
use Rattle.meaning.proofs.LiteralLaws.{fluent_true, fluent_false}
use Rattle.meaning.proofs.SettledLaws.{settled_is}
use Rattle.meaning.proofs.RangeLaws.{read_ranged}
use Rattle.meaning.proofs.SetLaws.{Ascending}
use Rattle.meaning.proofs.RulesExact.{ConclusionAscends, says_exactly}
use Rattle.meaning.proofs.ReadLines.{ReadLine, question_ascends}
use Rattle.meaning.proofs.AcceptedExactly.{line_there, line_has, all_follow, format_citations}
use Rattle.meaning.proofs.NarrowWalks.{narrow_or_wide}
use Rattle.demands.proofs.ListedStates.{Marked}
use Rattle.demands.proofs.SchemeRules.{Stands, stands_left, stands_right, stands_all, rule_8_for, closing_rules_for, AllRight, right_append, right_passes, right_read, literal_right}
use Rattle.demands.proofs.SchemeFollows.{Block, block_of, line_says, asked_known, empty_block, goals_ascend, plan_block, derivation_block}

-- For each conclusion a line of its number, which says the facts, the plan and it.
abbrev EachSaid : Request → (all : List Line) → List Conclusion → List ℕ → Type 0
EachSaid r all [] [] = Unit {0}
EachSaid r all [] (k ∷ ks) = ⊥
EachSaid r all (Y ∷ Ys) [] = ⊥
EachSaid r all (Y ∷ Ys) (k ∷ ks) = (k < length all) × ConclusionAscends Y × ((d : Line) → says (get_or all k d) r.table.facts r.plan Y ≡ true) × EachSaid r all Ys ks

each_named : (r : Request) → Ascending 0 r.table.facts → (all : List Line) → ((l : Line) → Has all l → ReadLine format Closing l) → (d : Line) (Ys : List Conclusion) (ks : List ℕ) → EachSaid r all Ys ks → AllNamed r all Ys ks
each_named r up all read d [] [] h = tt
each_named r up all read d [] (k ∷ ks) h = absurd h
each_named r up all read d (Y ∷ Ys) [] h = absurd h
each_named r up all read d (Y ∷ Ys) (k ∷ ks) h =
    let there = line_there all k d h.0 in
    ((get_or all k d, there, (says_exactly (get_or all k d) (read _ (line_has all k (get_or all k d) there)).proper r.table.facts r.plan Y up h.1).0 (h.2 d)), each_named r up all read d Ys ks h.3)

-- A WHETHER ENTRY. The literal that is known of a fluent that is known whether.
literal_is_known : (f : ℕ) (s : State) → known_whether s f ≡ true → (known s (literal_known f s) ≡ true) × (fluent_of (literal_known f s) ≡ f)
unfolding literal_known known_whether
literal_is_known f s e =
    pick_has (λ (l : ℕ). (known s l ≡ true) × (fluent_of l ≡ f)) (known s (says_true f)) _ _
    (λ t. (t, fluent_true f))
    (λ u. (⊎_elim (λ t. clash t u) (λ t. t) (either_split _ _ e), fluent_false f))

module _ (t : Table) (all : List Line) where
  whether_block : (f : ℕ) (s : State) → Marked format s → known_whether s f ≡ true → (n : ℕ) → Stands all n (whether_lines f s n)
      → Block Closing t all n (whether_lines f s n) (literals_of s) done (knows_whether f)
  unfolding whether_lines and_cites empty_lines each_of
  whether_block f s marked holds n stands =
      let l = literal_known f s in
      let is = literal_is_known f s holds in
      let ls = empty_lines (l ∷ []) s n in
      let block = empty_block Closing t all (l ∷ []) (omega arith, tt) s marked (both_true _ _ is.0 refl) n (stands.0, (stands.1.0, tt)) in
      block_of Closing t all n ls _ (literals_of s) done (knows_whether f) stands block.right
      (literal_right Closing t all s marked (n + length ls) f (rule_8_for f) l Limits.consequence_rule (n + length ls - 1) (n ∷ []) is.1 (omega arith)
      (subst (λ (i : ℕ). (d : Line) → get_or all i d ≡ line_of s done (knows (l ∷ [])) Limits.consequence_rule (n ∷ [])) (omega arith) stands.1.0))
      (line_says s done (knows_whether f) Limits.literal_rule ((n + length ls - 1) ∷ []))

-- THE LINES OF ALL THAT IS ASKED, of a settled request.
module _ (request : List ℕ) (r : Request) (e : ℕ) (past : settled format request ≡ got r e) (verified : (narrow_walk_of format r).end ≡ fine) where
  abbrev first : State
  first = first_state format r.table

  module _ (all : List Line) where
    -- Of whether entries of the request, from the number n on.
    entries_block : (ws : List Entry) → ((w : Entry) → Has ws w → Has r.whether w) → (n : ℕ) → Stands all n (entry_lines r first ws n).lines → n + length (entry_lines r first ws n).lines ≤ length all
        → AllRight Closing r.table all n (entry_lines r first ws n).lines × EachSaid r all (map (λ (w : Entry). knows_whether w.value) ws) (entry_lines r first ws n).lasts
    unfolding entry_lines then_read both_read one_read lines_whether values
    entries_block [] has n stands within = (tt, tt)
    entries_block (w ∷ ws) has n stands within =
        let f = w.value in
        let ls = lines_whether r f first n in
        let m = n + length ls in
        let more = (entry_lines r first ws m).lines in
        let size = length-append ls more in
        let block = plan_block request r e past verified Closing all (knows_whether f) (closing_rules_for (knows_whether f) tt) (whether_lines f)
        (λ s marked q k. whether_block r.table all f s marked (each_has _ _ f (asked_known r s q).1 (has_map (λ (x : Entry). x.value) r.whether w (has w (inl refl)))) k) n (stands_left all n ls more stands) in
        let some = block.some in
        let later = entries_block ws (λ v h. has v (inr h)) m (stands_right all n ls more stands) (omega (arith, within, size)) in
        (right_append Closing r.table all n ls more block.right later.0, (omega (arith, within, size, some), tt, block.last, later.1))

  -- THE THEOREM.
  pub complete : ProvedByRules r
  unfolding asked_lines then_read both_read one_read all_asked
  complete =
      let reads = (settled_is format request r e past).reads in
      let ranged = read_ranged format request r e reads in
      let up = goals_ascend request r e past in
      let x = asked_lines format r in
      let all = x.lines in
      let ls = derivation_of format r in
      let m = 0 + length ls in
      let more = (entry_lines r first r.whether m).lines in
      let size = length-append ls more in
      let stands = stands_all all in
      let block = derivation_block request r e past verified Closing all (closing_rules_for (goals_of r) up) (stands_left all 0 ls more stands) in
      let some = block.some in
      let entries = entries_block all r.whether (λ w h. h) m (stands_right all 0 ls more stands) (omega (arith, size)) in
      let right = right_append Closing r.table all 0 ls more block.right entries.0 in
      let read = right_read Closing r.table all 0 all right in
      record {
        lines = all;
        closing = x.lasts;
        all_follow = all_follow format format_citations r.table (λ y h. let below = ranged.effects y h in let few = ranged.fluents in omega (arith, below, few))
            (λ k h. let below = ranged.knowledge k h in let few = ranged.fluents in omega (arith, below, few)) Closing all read 0 all (omega arith) (λ l h. h) (right_passes Closing r.table all 0 all right);
        all_named = each_named r (question_ascends format request r e reads).0 all read (line_of first done (goals_of r) 0 []) (all_asked r) x.lasts (omega (arith, size, some), up, block.last, entries.1);
      }

-- So where a walk is verified, the rules prove what is asked, or the walk is stopped with 37 at a sensing action that is too wide (FORMAT 24.16; `NarrowWalks` has the two walks).
pub complete_or_wide : (request : List ℕ) (r : Request) (e : ℕ) → settled format request ≡ got r e → Verified (walk_of format r)
    → ProvedByRules r ⊎ ((p : ℕ) × ((narrow_walk_of format r).end ≡ stopped Limits.sensing_too_wide p no_state))
complete_or_wide request r e past verified = ⊎_elim (λ narrow. inl (complete request r e past narrow)) inr (narrow_or_wide r (first_state format r.table) verified).0

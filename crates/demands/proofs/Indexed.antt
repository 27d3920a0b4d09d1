-- The index call and the indexed call (FORMAT 23.21 to 23.26): what 0, 39 and 45 say, exactly; an index that was built has its request judged as by the walk call; and
-- with every other answer than 45 the demands on the walk call hold of the indexed call, since it gives the same. Assumes nothing.
use Prim.Native.Nat.{ℕ, ◌+◌, ◌≤◌, ◌<◌}
use native.Mathlib.Omega.{arith}
use mathlib.Core.Path.{◌≡◌, refl, sym, ◌∙◌, ap, ap₂, subst}
use mathlib.Core.Bool.{true}
use mathlib.Core.List.{List, []}
use mathlib.Core.Logic.{◌⊎◌, ◌↔◌, ⊎_elim}
use lib.ListN.{length, take, drop}
use lib.Seq.{take-append_seam}
use borrow.Author.Tests.{eq-eqb}
use Rattle.meaning.specs.Tests.{either, some_of}
use Rattle.meaning.specs.Limits
use Rattle.meaning.specs.Limits.{Limits, format, most_index}
use Rattle.meaning.specs.Literals.{among}
use Rattle.meaning.specs.Requests.{Item, act, Request}
use Rattle.meaning.specs.Reading.{got, fault}
use Rattle.meaning.specs.Refusals.{at, settled}
use Rattle.meaning.specs.States.{first_state}
use Rattle.meaning.specs.Walk.{table_step, missed_in}
use Rattle.meaning.specs.Lines.{executability_of}
use Rattle.meaning.specs.Judging.{Judgement, within, judge_got, walk_of, judge, count}
use Rattle.meaning.specs.Asking.{line}
use Rattle.meaning.specs.Indexes.{index_of, first_difference, Built, build, judge_indexed, line_indexed, AsWalked, IndexDiffers, IndexWritten}
use Rattle.meaning.specs.Approximation.{failed, Φ̂, least, Entailed}
use Rattle.meaning.specs.Paths.{paths, walked_along}
use Rattle.meaning.specs.Reported.{Misses, all_paths, MissedAt, ItemIn, item_place, StoppedAt, Nearest, item_line}
use Rattle.meaning.specs.Worlds.{CarriedOut}
use Rattle.meaning.specs.Layouts.{Bytes}
use Rattle.meaning.specs.Answers.{refusals}
use Rattle.meaning.proofs.TestLaws.{clash, pick_true}
use Rattle.meaning.proofs.SettledLaws.{fault≢got}
use Rattle.meaning.proofs.VerifiedLaws.{verified_so}
use Rattle.meaning.proofs.WalkSound.{walk_sound}
use Rattle.meaning.proofs.Exact.{in_order, spent_exactly, stuck_exactly, verified_exactly, missed_exactly}
use Rattle.meaning.proofs.ReportLaws.{missed_in_an_end_state, missed_there, stopped_there}
use Rattle.meaning.proofs.ReportedLine.{line_not, line_there, line_missing}
use Rattle.meaning.proofs.DifferenceLaws.{difference_cut, differs_apart, differs_there}
use Rattle.meaning.proofs.IndexLaws.{settled_index_most}
use Rattle.meaning.proofs.IndexBuilt.{by_building, index_built, index_short, index_refused, not_verified, not_short}
use Rattle.meaning.proofs.IndexAnswers.{right_index, refused_alike, other_judges, other_tells, another_index, differs_or_walked, differs_so, walked_otherwise}

-- THE INDEX CALL.
module _ (lim : Limits) (s room : List ℕ) where
  -- 0 exactly where the request is settled and the room is not shorter than its index (FORMAT 23.23).
  pub built_exactly : ((build lim s room).answer.number ≡ Limits.verified) ↔ ((r : Request) × (e : ℕ) × (settled lim s ≡ got r e) × (length (index_of r.table) ≤ length room))
  built_exactly = (
    by_building lim s room (λ b. b.answer.number ≡ Limits.verified → (r : Request) × (e : ℕ) × (settled lim s ≡ got r e) × (length (index_of r.table) ≤ length room))
        (λ r e past fits _. (r, e, past, fits)) (λ _ _ _ _ is. absurd (omega (arith, is))) (λ n _ _ held is. absurd (not_verified n held.number is)),
    λ w. ap (λ (b : Built). b.answer.number) (index_built lim s room w.0 w.1 w.2 w.3),
  )

  -- It has then written the index (FORMAT 23.9).
  pub index_written : (build lim s room).answer.number ≡ Limits.verified → IndexWritten lim s room
  index_written is =
      let w = built_exactly.0 is in
      let gives = index_built lim s room w.0 w.1 w.2 w.3 in
      record {
        says = w.0;
        end = w.1;
        settles = w.2;
        fits = w.3;
        counts = ap (λ (b : Built). b.answer.count) gives;
        leaves = ap (λ (b : Built). b.room) gives;
      }

  -- 39 exactly where it is settled and the room is shorter (FORMAT 23.8).
  pub short_exactly : ((build lim s room).answer.number ≡ Limits.room_short) ↔ ((r : Request) × (e : ℕ) × (settled lim s ≡ got r e) × (length room < length (index_of r.table)))
  short_exactly = (
    by_building lim s room (λ b. b.answer.number ≡ Limits.room_short → (r : Request) × (e : ℕ) × (settled lim s ≡ got r e) × (length room < length (index_of r.table)))
        (λ _ _ _ _ is. absurd (omega (arith, is))) (λ r e past short _. (r, e, past, short)) (λ n _ _ held is. absurd (not_short n held.number is)),
    λ w. ap (λ (b : Built). b.answer.number) (index_short lim s room w.0 w.1 w.2 w.3),
  )

  -- A refusal exactly where it is not settled, as the walk call gives it (FORMAT 23.7).
  pub refused_exactly : (among (build lim s room).answer.number refusals ≡ true) ↔ ((n p : ℕ) × (settled lim s ≡ fault n p))
  unfolding among refusals some_of either
  refused_exactly = (
    by_building lim s room (λ b. among b.answer.number refusals ≡ true → (n p : ℕ) × (settled lim s ≡ fault n p)) (λ _ _ _ _ is. clash is refl) (λ _ _ _ _ is. clash is refl) (λ n p past _ _. (n, p, past)),
    λ w. by_building lim s room (λ b. among b.answer.number refusals ≡ true) (λ _ _ past _. absurd (fault≢got (sym w.2 ∙ past))) (λ _ _ past _. absurd (fault≢got (sym w.2 ∙ past))) (λ _ _ _ held. held.number),
  )

  pub refused_as_judged : (n p : ℕ) → settled lim s ≡ fault n p → (lent : List ℕ) → length lent ≡ lim.state → (budget : ℕ) → (build lim s room).answer ≡ (judge lim s lent budget).answer
  unfolding judge judge_got
  refused_as_judged n p past lent sized budget =
      ap (λ (b : Built). b.answer) (index_refused lim s room n p past)
      ∙ sym (ap (λ (j : Judgement). j.answer) (pick_true _ _ _ (eq-eqb (length lent) lim.state sized) ∙ ap (judge_got (walk_of lim) lent budget) past))

  -- The room is as lent with every other answer than 0.
  pub room_as_lent : ((build lim s room).answer.number ≡ Limits.verified → ⊥) → (build lim s room).room ≡ room
  room_as_lent = by_building lim s room (λ b. (b.answer.number ≡ Limits.verified → ⊥) → b.room ≡ room) (λ _ _ _ _ other. absurd (other refl)) (λ _ _ _ _ _. refl) (λ _ _ _ _ _. refl)

-- BUILT, THEN JUDGED. With the index that the index call wrote the indexed call gives what the walk call gives, whatever state is lent and whatever the budget is
-- (FORMAT 23.24).
pub built_then_judged : (lim : Limits) (s room : List ℕ) → (build lim s room).answer.number ≡ Limits.verified
    → (lent : List ℕ) (budget : ℕ) → AsWalked lim s (take (build lim s room).answer.count (build lim s room).room) lent budget
built_then_judged lim s room is lent budget =
    let w = index_written lim s room is in
    let index : List ℕ = index_of w.says.table in
    let taken : take (build lim s room).answer.count (build lim s room).room ≡ index =
    ap₂ (λ (n : ℕ) (xs : List ℕ). take n xs) w.counts w.leaves ∙ take-append_seam index (drop (length index) room) in
    right_index lim s _ lent budget w.says w.end w.settles (sym taken)

-- THE INDEXED CALL. With the request's own index it gives what the walk call gives (FORMAT 23.13), and so with any index where the request is refused.
pub indexed_as_walked : (lim : Limits) (s : List ℕ) (r : Request) (e : ℕ) → settled lim s ≡ got r e → (lent : List ℕ) (budget : ℕ) → AsWalked lim s (index_of r.table) lent budget
indexed_as_walked lim s r e past lent budget = right_index lim s (index_of r.table) lent budget r e past refl

pub refused_as_walked : (lim : Limits) (s : List ℕ) (n p : ℕ) → settled lim s ≡ fault n p → (i lent : List ℕ) (budget : ℕ) → AsWalked lim s i lent budget
refused_as_walked lim s n p past i lent budget = refused_alike lim s i lent budget n p past

module _ (lim : Limits) (s i lent : List ℕ) (budget : ℕ) where
  abbrev number : ℕ
  number = (judge_indexed lim s i lent budget).answer.number

  -- 45 exactly where the state has its length, the request is settled, and the index is another than that of the request (FORMAT 23.25).
  pub differs_exactly : (number ≡ Limits.index_differs) ↔ ((length lent ≡ lim.state) × ((r : Request) × (e : ℕ) × (settled lim s ≡ got r e) × (index_of r.table ≡ i → ⊥)))
  differs_exactly = (
    λ is. let d = differs_so lim s i lent budget is in (d.sized, (d.says, d.end, d.settles, differs_apart _ _ d.place d.differs)),
    λ w. ap (λ (j : Judgement). j.answer.number) (another_index lim s i lent budget w.0 w.1.0 w.1.1 w.1.2 w.1.3).judges,
  )

  -- DEMAND 2 past 45 (FORMAT 23.26): what is so of the walk call's judgement and line is so of the indexed call's.
  module _ (other : number ≡ Limits.index_differs → ⊥) where
    pub walked_so : (P : Judgement → ℕ → Type 0) → P (judge lim s lent budget) (line lim s lent budget) → P (judge_indexed lim s i lent budget) (line_indexed lim s i lent budget)
    walked_so P h =
        let same = walked_otherwise lim s i lent budget other in
        subst (λ (j : Judgement). P j (line_indexed lim s i lent budget)) (sym same.judges) (subst (P (judge lim s lent budget)) (sym same.tells) h)

    module _ (room : lim.fluents ≤ lim.state) (r : Request) (e : ℕ) (lent_length : length lent ≡ lim.state) (past : settled lim s ≡ got r e) where
      -- The judgement is what the list of paths says.
      pub indexed_in_order : judge_indexed lim s i lent budget ≡ within lent budget (walked_along (missed_in r) (paths (table_step r.table) r.plan (first_state lim r.table)))
      indexed_in_order = walked_so (λ j _. j ≡ within lent budget (walked_along (missed_in r) (paths (table_step r.table) r.plan (first_state lim r.table)))) (in_order lim room s lent budget r e lent_length past)

      -- 3 where the walk counts more than the budget.
      pub indexed_spent_exactly : (number ≡ Limits.budget_spent) ↔ (budget < count lim r)
      indexed_spent_exactly = walked_so (λ j _. (j.answer.number ≡ Limits.budget_spent) ↔ (budget < count lim r)) (spent_exactly lim room s lent budget r e lent_length past)

      -- And else what the 0-approximation says.
      module _ (enough : count lim r ≤ budget) where
        pub indexed_stuck_exactly : (number ≡ Limits.not_executable) ↔ Φ̂ r.table r.plan (least r.table) failed
        indexed_stuck_exactly = walked_so (λ j _. (j.answer.number ≡ Limits.not_executable) ↔ Φ̂ r.table r.plan (least r.table) failed) (stuck_exactly lim room s lent budget r e lent_length past enough)

        pub indexed_verified_exactly : (number ≡ Limits.verified) ↔ Entailed r
        indexed_verified_exactly = walked_so (λ j _. (j.answer.number ≡ Limits.verified) ↔ Entailed r) (verified_exactly lim room s lent budget r e lent_length past enough)

        pub indexed_missed_exactly : (number ≡ Limits.goal_missed) ↔ ((Φ̂ r.table r.plan (least r.table) failed → ⊥) × (Entailed r → ⊥))
        indexed_missed_exactly =
            walked_so (λ j _. (j.answer.number ≡ Limits.goal_missed) ↔ ((Φ̂ r.table r.plan (least r.table) failed → ⊥) × (Entailed r → ⊥)))
            (missed_exactly lim room s lent budget r e lent_length past enough)

        pub indexed_missed_in_an_end_state : (number ≡ Limits.goal_missed) ↔ Misses r
        indexed_missed_in_an_end_state = walked_so (λ j _. (j.answer.number ≡ Limits.goal_missed) ↔ Misses r) (missed_in_an_end_state lim room s lent budget r e lent_length past enough)

  -- WHAT ANSWERS 1 AND 2 REPORT: neither is 45.
  module _ (room : lim.fluents ≤ lim.state) (r : Request) (e : ℕ) (lent_length : length lent ≡ lim.state) (past : settled lim s ≡ got r e) where
    pub indexed_missed_there : number ≡ Limits.goal_missed → MissedAt r (all_paths lim r) (judge_indexed lim s i lent budget).answer.place (judge_indexed lim s i lent budget).state
    indexed_missed_there is =
        walked_so (λ k. omega (arith, is, k)) (λ j _. j.answer.number ≡ Limits.goal_missed → MissedAt r (all_paths lim r) j.answer.place j.state) (missed_there lim room s lent budget r e lent_length past) is

    pub indexed_stopped_there : number ≡ Limits.not_executable → StoppedAt r (all_paths lim r) (judge_indexed lim s i lent budget).answer.place (judge_indexed lim s i lent budget).state
    indexed_stopped_there is =
        walked_so (λ k. omega (arith, is, k)) (λ j _. j.answer.number ≡ Limits.not_executable → StoppedAt r (all_paths lim r) j.answer.place j.state) (stopped_there lim room s lent budget r e lent_length past) is

    -- Where 2 is placed at an action, the line is 0 where the action has none; else none is short by fewer, and none before it by as few.
    pub indexed_line_missing : number ≡ Limits.not_executable → (a : ℕ) → ItemIn r.plan (act (judge_indexed lim s i lent budget).answer.place a)
        → ((executability_of r.table a ≡ []) × (line_indexed lim s i lent budget ≡ 0)) ⊎ Nearest (judge_indexed lim s i lent budget).state (executability_of r.table a) (line_indexed lim s i lent budget)
    indexed_line_missing is =
        walked_so (λ k. omega (arith, is, k)) (λ j l. j.answer.number ≡ Limits.not_executable → (a : ℕ) → ItemIn r.plan (act j.answer.place a) → ((executability_of r.table a ≡ []) × (l ≡ 0)) ⊎ Nearest j.state (executability_of r.table a) l)
        (line_missing lim room s lent budget r e lent_length past) is

  -- THE LINE of every other answer than 2 is 0, that of 45 too; and that of 2 is the line of the item at its place, in the state left.
  pub indexed_no_line : (number ≡ Limits.not_executable → ⊥) → line_indexed lim s i lent budget ≡ 0
  unfolding line_indexed
  indexed_no_line other = line_not _ s (judge_indexed lim s i lent budget) other (settled lim s)

  pub indexed_line_there : (r : Request) (e : ℕ) → settled lim s ≡ got r e → number ≡ Limits.not_executable → (x : Item ℕ) → ItemIn r.plan x → item_place x ≡ (judge_indexed lim s i lent budget).answer.place
      → line_indexed lim s i lent budget ≡ item_line r.table x (judge_indexed lim s i lent budget).state
  indexed_line_there r e past is =
      walked_so (λ k. omega (arith, is, k)) (λ j l. j.answer.number ≡ Limits.not_executable → (x : Item ℕ) → ItemIn r.plan x → item_place x ≡ j.answer.place → l ≡ item_line r.table x j.state)
      (line_there lim s lent budget r e past) is

  -- DEMAND 3 (FORMAT 23.26): a plan that is verified is carried out in every world with the initial facts.
  pub indexed_sound : number ≡ Limits.verified → (r : Request) × (e : ℕ) × (settled lim s ≡ got r e) × CarriedOut r
  indexed_sound is =
      let v = verified_so lim s lent budget (sym (ap (λ (j : Judgement). j.answer.number) (walked_otherwise lim s i lent budget (λ k. omega (arith, is, k))).judges) ∙ is) in
      (v.says, v.end, v.settles, walk_sound lim s v.says v.end v.settles v.fine)

-- AN INDEX CUT where no index of the request reaches: what stands behind changes no answer (FORMAT 23.20).
module _ (lim : Limits) (s : List ℕ) (n : ℕ) (reaches : (r : Request) (e : ℕ) → settled lim s ≡ got r e → length (index_of r.table) < n) (i lent : List ℕ) (budget : ℕ) where
  abbrev Alike : Type 0
  Alike = (judge_indexed lim s (take n i) lent budget ≡ judge_indexed lim s i lent budget) × (line_indexed lim s (take n i) lent budget ≡ line_indexed lim s i lent budget)

  -- Where the one differs, the other does at the same place.
  both_differ : (x y : List ℕ) → ((r : Request) → length (index_of r.table) < n → first_difference (index_of r.table) x ≡ first_difference (index_of r.table) y) → IndexDiffers lim s x lent budget
      → (judge_indexed lim s x lent budget ≡ judge_indexed lim s y lent budget) × (line_indexed lim s x lent budget ≡ line_indexed lim s y lent budget)
  both_differ x y same d =
      let r : Request = d.says in
      let found : first_difference (index_of r.table) y ≡ at d.place = sym (same r (reaches r d.end d.settles)) ∙ (differs_there (index_of r.table) x d.place).1 d.differs in (
        d.judges ∙ sym (other_judges lim s y lent budget d.sized r d.end d.settles d.place found),
        d.tells ∙ sym (other_tells lim s y lent budget d.sized r d.end d.settles d.place found),
      )

  pub cut_alike : Alike
  unfolding first_difference
  cut_alike =
      ⊎_elim (both_differ (take n i) i (λ r less. difference_cut n 0 (index_of r.table) i less))
      (λ w.
      ⊎_elim (λ d. let same = both_differ i (take n i) (λ r less. sym (difference_cut n 0 (index_of r.table) i less)) d in (sym same.0, sym same.1))
      (λ v. (w.judges ∙ sym v.judges, w.tells ∙ sym v.tells))
      (differs_or_walked lim s i lent budget))
      (differs_or_walked lim s (take n i) lent budget)

-- By the format's limits one byte more than an index may have is enough.
pub format_cut : (s : List ℕ) → Bytes s → (i lent : List ℕ) (budget : ℕ)
    → (judge_indexed format s (take (most_index + 1) i) lent budget ≡ judge_indexed format s i lent budget) × (line_indexed format s (take (most_index + 1) i) lent budget ≡ line_indexed format s i lent budget)
format_cut s bytes = cut_alike format s (most_index + 1) (λ r e past. let most = settled_index_most s bytes r e past in omega (arith, most))

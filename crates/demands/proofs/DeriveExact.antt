-- The derive call (FORMAT 24.12 to 24.19, 24.25): what each of its answers says, exactly. Before its walk a refusal is the walk call's, 30 is given where there is a whether entry,
-- and 1, 2 and 3 are the walk call's answers; behind it 37, 38, 39 and 0 go by what the walk meets and by the sizes of the derivation. So what is verified has a
-- derivation, with these sizes (24.27), and is proved by the rules, whatever its size (24.28). Assumes nothing.
use Prim.Native.Nat.{ℕ, ◌≤◌, ◌<◌}
use mathlib.Core.Path.{◌≡◌, refl, sym, ◌∙◌, ap, ap₂, subst}
use mathlib.Core.Bool.{true, false}
use mathlib.Core.List.{List, []}
use mathlib.Core.Logic.{◌⊎◌, inl, inr, ⊎_elim, ◌↔◌}
use lib.ListN.{length, drop, take}
use lib.Seq.{take-append_seam}
use lib.Dec.{eqb}
use borrow.Author.Tests.{eq-eqb, eqb-false, lt-ltb, le-ltb}
use Rattle.meaning.specs.Tests.{both, either, fails, some_of, each_of}
use Rattle.meaning.specs.declared.Answer.{Answer}
use Rattle.meaning.specs.declared.Layout.TheVariants.{Plain}
use Rattle.meaning.specs.Limits
use Rattle.meaning.specs.Limits.{Limits, format}
use Rattle.meaning.specs.Literals.{among}
use Rattle.meaning.specs.Requests.{act, Request}
use Rattle.meaning.specs.Reading.{got, fault}
use Rattle.meaning.specs.Refusals.{settled}
use Rattle.meaning.specs.States.{State}
use Rattle.meaning.specs.Walk.{no_state, stopped, Verified}
use Rattle.meaning.specs.Judging.{Judgement, within, judge_got, walk_of, judge, count}
use Rattle.meaning.specs.Derivations.{check}
use Rattle.meaning.specs.Indexes.{Built}
use Rattle.meaning.specs.Schemes.{derivation_of, too_wide, narrow_walk_of, unwritten, derive}
use Rattle.meaning.specs.DeriveReported.{AsksGoals, AsksWhether, unverified, WalkVerifies, WalkMeets, NoneWide, TooWideAt, Derives, bytes_of, SizesFit, BytesExceed, DerivationWritten}
use Rattle.meaning.specs.Answers.{refusals}
use Rattle.demands.specs.Completeness.{ProvedByRules}
use Rattle.meaning.proofs.TestLaws.{clash, either_false, pick_true, pick_false}
use Rattle.meaning.proofs.WithinLaws.{answered, within_number}
use Rattle.meaning.proofs.AnswerLaws.{NumberedIn, settled_numbered}
use Rattle.meaning.proofs.VerifiedLaws.{within_unread, so_verified}
use Rattle.meaning.proofs.IndexBuilt.{built, refused}
use Rattle.meaning.proofs.DeriveAnswers.{refusal_not, derive_refused, derive_asked, derive_walked, derive_wide, derive_many, derive_short, derive_written, by_deriving}
use Rattle.demands.proofs.NarrowMet.{wide_at, at_wide, narrow_exactly, stopped_wide}
use Rattle.demands.proofs.SchemeAccepted.{scheme_accepted}
use Rattle.demands.proofs.Complete.{complete}

module _ (lim : Limits) (s room : List ℕ) (budget : ℕ) where
  abbrev given : Built
  given = derive lim s room budget

  abbrev number : ℕ
  number = given.answer.number

  -- WHAT A NUMBER SAYS, where it is no refusal: of each of the other cases, that it is another number, or what follows.
  module _ (n : ℕ) (C : Type 0) where
    abbrev Or : ℕ → Type 0 → Type 0
    Or m X = (eqb m n ≡ false) ⊎ X

    by_number : among n refusals ≡ false
        → Or Limits.whether_asked ((r : Request) → AsksWhether lim s r → C)
        → Or Limits.sensing_too_wide ((r : Request) → WalkVerifies lim s budget r → (p : ℕ) → (narrow_walk_of lim r).end ≡ stopped Limits.sensing_too_wide p no_state → C)
        → Or Limits.too_many_lines ((r : Request) → WalkVerifies lim s budget r → Verified (narrow_walk_of lim r) → lim.lines < length (derivation_of lim r) → C)
        → Or Limits.room_short ((r : Request) → WalkVerifies lim s budget r → Verified (narrow_walk_of lim r) → BytesExceed lim room r → C)
        → Or Limits.verified ((r : Request) → WalkVerifies lim s budget r → Verified (narrow_walk_of lim r) → SizesFit lim room r → C)
        → among n unverified ≡ false → number ≡ n → C
    unfolding among unverified some_of
    by_number none asked wide many short written not-walk =
        let not_1 = either_false _ _ not-walk in
        let not_2 = either_false _ _ not_1.1 in
        let not_3 = either_false _ _ not_2.1 in
        by_deriving lim s room budget (λ b. b.answer.number ≡ n → C) (record {
          is_refused = λ m _ _ held q. clash held.number (subst (λ (k : ℕ). among k refusals ≡ false) (sym q) none);
          is_asked = λ r a _ q. ⊎_elim (λ f. absurd (eqb-false _ _ f q)) (λ k. k r a) asked;
          is_spent = λ _ _ _ q. absurd (eqb-false _ _ not_3.0 (sym q));
          is_missed = λ _ _ _ _ _ _ _ q. absurd (eqb-false _ _ not_1.0 (sym q));
          is_stuck = λ _ _ _ _ _ _ _ q. absurd (eqb-false _ _ not_2.0 (sym q));
          is_wide = λ r v p is _ q. ⊎_elim (λ f. absurd (eqb-false _ _ f q)) (λ k. k r v p is) wide;
          is_many = λ r v narrow more q. ⊎_elim (λ f. absurd (eqb-false _ _ f q)) (λ k. k r v narrow more) many;
          is_short = λ r v narrow exceed q. ⊎_elim (λ f. absurd (eqb-false _ _ f q)) (λ k. k r v narrow exceed) short;
          is_written = λ r v narrow sizes q. ⊎_elim (λ f. absurd (eqb-false _ _ f q)) (λ k. k r v narrow sizes) written;
        })

  -- 30 exactly where the request is settled and has a whether entry, with the place of the list's count byte (FORMAT 24.14).
  pub derive_asked_exactly : (number ≡ Limits.whether_asked) ↔ ((r : Request) × AsksWhether lim s r)
  unfolding among refusals unverified some_of either
  derive_asked_exactly = (
    by_number Limits.whether_asked ((r : Request) × AsksWhether lim s r) refl (inr (λ r a. (r, a))) (inl refl) (inl refl) (inl refl) (inl refl) refl,
    λ w. ap (λ (b : Built). b.answer.number) (derive_asked lim s room budget w.0 w.1),
  )

  pub derive_asked_there : (r : Request) → AsksWhether lim s r → given.answer.place ≡ r.whether_place
  derive_asked_there r a = ap (λ (b : Built). b.answer.place) (derive_asked lim s room budget r a)

  -- 37 exactly where the walk verifies the request within the budget and meets an action that is too wide (FORMAT 24.16).
  pub derive_wide_exactly : (number ≡ Limits.sensing_too_wide) ↔ ((r : Request) × WalkVerifies lim s budget r × ((p a : ℕ) × (u : State) × WalkMeets lim r (act p a) u × (too_wide r.table a u ≡ true)))
  unfolding among refusals unverified some_of either too_wide
  derive_wide_exactly = (
    by_number Limits.sensing_too_wide _ refl (inl refl)
        (inr (λ r v p is. let w = wide_at lim r p is in (r, v, (p, w.action, w.state, w.met, lt-ltb Limits.most_forked _ w.wide)))) (inl refl) (inl refl) (inl refl) refl,
    λ w.
        let stop = stopped_wide lim w.0 w.1.fine w.2.0 w.2.1 w.2.2 w.2.3 w.2.4 in
        ap (λ (b : Built). b.answer.number) (derive_wide lim s room budget w.0 w.1 stop.0 stop.1),
  )

  -- Its place is that of the first such item (FORMAT 24.16).
  pub derive_wide_there : number ≡ Limits.sensing_too_wide → (r : Request) × WalkVerifies lim s budget r × TooWideAt lim r given.answer.place
  unfolding among refusals unverified some_of either
  derive_wide_there =
      by_number Limits.sensing_too_wide _ refl (inl refl)
      (inr (λ r v p is. (r, v, subst (TooWideAt lim r) (sym (ap (λ (b : Built). b.answer.place) (derive_wide lim s room budget r v p is))) (wide_at lim r p is)))) (inl refl) (inl refl) (inl refl) refl

  pub derive_wide_at : (r : Request) → WalkVerifies lim s budget r → (p : ℕ) → TooWideAt lim r p → given ≡ refused room Limits.sensing_too_wide p
  derive_wide_at r v p w = derive_wide lim s room budget r v p (at_wide lim r p w)

  -- A request whose walk is verified and meets no action that is too wide, and back.
  has_derivation : (r : Request) (v : WalkVerifies lim s budget r) → Verified (narrow_walk_of lim r) → Derives lim s budget r
  has_derivation r v narrow = record { verifies = v; narrow = (narrow_exactly lim r v.fine).0 narrow }

  narrow_of : (r : Request) (d : Derives lim s budget r) → Verified (narrow_walk_of lim r)
  narrow_of r d = (narrow_exactly lim r d.verifies.fine).1 d.narrow

  -- 38 exactly where its derivation has too many lines (FORMAT 24.17).
  pub derive_many_exactly : (number ≡ Limits.too_many_lines) ↔ ((r : Request) × Derives lim s budget r × (lim.lines < length (derivation_of lim r)))
  unfolding among refusals unverified some_of either
  derive_many_exactly = (
    by_number Limits.too_many_lines _ refl (inl refl) (inl refl) (inr (λ r v narrow more. (r, has_derivation r v narrow, more))) (inl refl) (inl refl) refl,
    λ w. ap (λ (b : Built). b.answer.number) (derive_many lim s room budget w.0 w.1.verifies (narrow_of w.0 w.1) w.2),
  )

  -- 39 exactly where it has not, and has too many bytes, or more than the room (FORMAT 24.18).
  pub derive_short_exactly : (number ≡ Limits.room_short) ↔ ((r : Request) × Derives lim s budget r × BytesExceed lim room r)
  unfolding among refusals unverified some_of either
  derive_short_exactly = (
    by_number Limits.room_short _ refl (inl refl) (inl refl) (inl refl) (inr (λ r v narrow exceed. (r, has_derivation r v narrow, exceed))) (inl refl) refl,
    λ w. ap (λ (b : Built). b.answer.number) (derive_short lim s room budget w.0 w.1.verifies (narrow_of w.0 w.1) w.2.lines w.2.bytes),
  )

  -- 0 exactly where it has neither (FORMAT 24.25).
  pub derived_exactly : (number ≡ Limits.verified) ↔ ((r : Request) × Derives lim s budget r × SizesFit lim room r)
  unfolding among refusals unverified some_of either
  derived_exactly = (
    by_number Limits.verified _ refl (inl refl) (inl refl) (inl refl) (inl refl) (inr (λ r v narrow sizes. (r, has_derivation r v narrow, sizes))) refl,
    λ w. ap (λ (b : Built). b.answer.number) (gives w.0 w.1 w.2),
  )
    where
      gives : (r : Request) → Derives lim s budget r → SizesFit lim room r → given ≡ built room (bytes_of lim r)
      gives r d sizes = derive_written lim s room budget r d.verifies (narrow_of r d) sizes.lines sizes.bytes sizes.fits

  -- It has then written the bytes (FORMAT 24.19).
  pub derivation_written : number ≡ Limits.verified → (r : Request) × DerivationWritten lim s room budget r
  derivation_written is =
      let w = derived_exactly.0 is in
      let gives = derive_written lim s room budget w.0 w.1.verifies (narrow_of w.0 w.1) w.2.lines w.2.bytes w.2.fits in
      (w.0, record { derives = w.1; sizes = w.2; counts = ap (λ (b : Built). b.answer.count) gives; leaves = ap (λ (b : Built). b.room) gives })

  -- What was written, cut from the room by the answer's count.
  pub derivation_taken : number ≡ Limits.verified → (r : Request) × DerivationWritten lim s room budget r × (take given.answer.count given.room ≡ bytes_of lim r)
  derivation_taken is =
      let w = derivation_written is in
      (w.0, w.1, ap₂ (λ (n : ℕ) (xs : List ℕ). take n xs) w.1.counts w.1.leaves ∙ take-append_seam (bytes_of lim w.0) (drop (length (bytes_of lim w.0)) room))

  -- A refusal exactly where the request is not settled (FORMAT 24.13).
  pub derive_refused_exactly : (among number refusals ≡ true) ↔ ((n p : ℕ) × (settled lim s ≡ fault n p))
  unfolding among refusals some_of either
  derive_refused_exactly = (
    by_deriving lim s room budget (λ b. among b.answer.number refusals ≡ true → (n p : ℕ) × (settled lim s ≡ fault n p)) (record {
      is_refused = λ n p past _ _. (n, p, past);
      is_asked = λ _ _ _ t. clash t refl;
      is_spent = λ _ _ _ t. clash t refl;
      is_missed = λ _ _ _ _ _ _ _ t. clash t refl;
      is_stuck = λ _ _ _ _ _ _ _ t. clash t refl;
      is_wide = λ _ _ _ _ _ t. clash t refl;
      is_many = λ _ _ _ _ t. clash t refl;
      is_short = λ _ _ _ _ t. clash t refl;
      is_written = λ _ _ _ _ t. clash t refl;
    }),
    λ w. subst (λ (b : Built). among b.answer.number refusals ≡ true) (sym (derive_refused lim s room budget w.0 w.1 w.2)) (fault_among w.0 w.1 w.2),
  )
    where
      fault_among : (n p : ℕ) → settled lim s ≡ fault n p → among n refusals ≡ true
      fault_among n p past = subst (NumberedIn refusals) past (settled_numbered lim s)

  -- THE WALK CALL, with any lent state of its length.
  module _ (lent : List ℕ) (sized : length lent ≡ lim.state) where
    -- A refusal is the walk call's.
    pub derive_refused_as_judged : (n p : ℕ) → settled lim s ≡ fault n p → given.answer ≡ (judge lim s lent budget).answer
    unfolding judge judge_got
    derive_refused_as_judged n p past =
        ap (λ (b : Built). b.answer) (derive_refused lim s room budget n p past)
        ∙ sym (ap (λ (j : Judgement). j.answer) (pick_true _ _ _ (eq-eqb (length lent) lim.state sized) ∙ ap (judge_got (walk_of lim) lent budget) past))

    judged_walk : (r : Request) → AsksGoals lim s r → (judge lim s lent budget).answer ≡ (within [] budget (walk_of lim r)).answer
    unfolding judge judge_got
    judged_walk r a =
        ap (λ (j : Judgement). j.answer) (pick_true _ _ _ (eq-eqb (length lent) lim.state sized) ∙ ap (judge_got (walk_of lim) lent budget) a.settles)
        ∙ within_unread lent [] budget (walk_of lim r)

    -- Where there is no whether entry and the walk call does not answer 0, so is the answer.
    pub derive_as_judged : (r : Request) → AsksGoals lim s r → ((judge lim s lent budget).answer.number ≡ Limits.verified → ⊥) → given.answer ≡ (judge lim s lent budget).answer
    unfolding unwritten
    derive_as_judged r a not_0 =
        let same = judged_walk r a in
        ap (λ (b : Built). b.answer) (derive_walked lim s room budget r a (λ z. not_0 (ap (λ (x : Answer). x.number) same ∙ z))) ∙ sym same

    -- 1, 2 and 3 are so exactly where the walk call gives them, past 30; with its place, its input and its count (FORMAT 24.15).
    pub derive_walked_exactly : (n : ℕ) → among n unverified ≡ true → (number ≡ n) ↔ ((r : Request) × AsksGoals lim s r × ((judge lim s lent budget).answer.number ≡ n))
    unfolding among unverified refusals some_of either each_of both fails
    derive_walked_exactly n is = (
      λ q.
          let w = by_deriving lim s room budget (λ b. among b.answer.number unverified ≡ true → (r : Request) × AsksGoals lim s r × ((within [] budget (walk_of lim r)).answer.number ≡ b.answer.number)) (record {
            is_refused = λ m _ _ held t. clash t (refusal_not unverified refl m held.number);
            is_asked = λ _ _ _ t. clash t refl;
            is_spent = λ r a more _. (r, a, within_number [] budget (walk_of lim r) ∙ pick_true _ _ _ (lt-ltb budget (count lim r) more));
            is_missed = λ r a enough p u end _ _. (r, a, within_number [] budget (walk_of lim r) ∙ pick_false _ _ _ (le-ltb budget (count lim r) enough) ∙ ap answered end);
            is_stuck = λ r a enough p u end _ _. (r, a, within_number [] budget (walk_of lim r) ∙ pick_false _ _ _ (le-ltb budget (count lim r) enough) ∙ ap answered end);
            is_wide = λ _ _ _ _ _ t. clash t refl;
            is_many = λ _ _ _ _ t. clash t refl;
            is_short = λ _ _ _ _ t. clash t refl;
            is_written = λ _ _ _ _ t. clash t refl;
          }) (ap (λ (k : ℕ). among k unverified) q ∙ is) in
          (w.0, w.1, ap (λ (x : Answer). x.number) (judged_walk w.0 w.1) ∙ w.2 ∙ q),
      λ w.
          ap (λ (x : Answer). x.number) (derive_as_judged w.0 w.1 (λ z. clash is (ap (λ (k : ℕ). among k unverified) (sym w.2 ∙ z)))) ∙ w.2,
    )

    pub derive_walked_as_judged : among number unverified ≡ true → given.answer ≡ (judge lim s lent budget).answer
    unfolding among unverified some_of either
    derive_walked_as_judged is =
        let w = (derive_walked_exactly number is).0 refl in
        derive_as_judged w.0 w.1 (λ z. clash is (ap (λ (k : ℕ). among k unverified) (sym w.2 ∙ z)))

    -- What has a derivation the walk call verifies.
    pub derived_judged : (r : Request) → WalkVerifies lim s budget r → (judge lim s lent budget).answer.number ≡ Limits.verified
    derived_judged r v = (so_verified lim s lent budget sized r v.asks.end v.asks.settles v.fine v.enough).0

-- THEOREM 3.2 of Zhao and Shen, the completeness of rules 1 to 6, with the sizes of the format (FORMAT 24.27): where the request has no whether entry, its walk verifies it and meets no
-- action that is too wide, and its derivation has no more lines and bytes than a derivation may have, the derivation call accepts that derivation.
pub verified_derivable : (request : List ℕ) (r : Request) → AsksGoals format request r → Verified (walk_of format r) → NoneWide format r
    → length (derivation_of format r) ≤ format.lines → length (bytes_of format r) ≤ format.derivation → (check format Plain request (bytes_of format r)).number ≡ Limits.verified
verified_derivable request r a verified none few short = scheme_accepted request r a.end a.settles ((narrow_exactly format r verified).1 none) few short a.no_whether

-- Theorem 3.4, of goals and whether entries, whatever the number of lines (FORMAT 24.28).
pub verified_proved : (request : List ℕ) (r : Request) (e : ℕ) → settled format request ≡ got r e → Verified (walk_of format r) → NoneWide format r → ProvedByRules r
verified_proved request r e past verified none = complete request r e past ((narrow_exactly format r verified).1 none)

-- The derive call: what it gives of a request that is refused, of one that asks for whether entries, of one that its walk does not verify, and of one that it does. What is so of
-- each of these is so of the call; so its answer is one of its numbers, and input, place, count and room are what the number says (demand 1, FORMAT 24.24). By the cases of the
-- definition. Assumes nothing.
use Prim.Native.Nat.{ℕ, ◌≤◌, ◌<◌}
use native.Mathlib.Omega.{arith}
use mathlib.Core.Path.{◌≡◌, refl, sym, ◌∙◌, ap, ap₂, subst}
use mathlib.Core.Bool.{true, false}
use mathlib.Core.List.{List, [], ◌∷◌}
use mathlib.Core.Logic.{◌⊎◌, inl, inr, ⊎_elim}
use lib.ListN.{length, drop, length-append, length-drop}
use lib.Dec.{leb, ltb}
use borrow.Author.Tests.{leb-true, leb-false, le-leb, lt-leb, ltb-true, ltb-false, lt-ltb, le-ltb, eq-eqb, ne_eqb}
use Rattle.meaning.specs.declared.Layout.TheVariants.{Plain}
use Rattle.meaning.specs.Tests.{both, either, fails, some_of, each_of}
use Rattle.meaning.specs.Limits
use Rattle.meaning.specs.Limits.{Limits}
use Rattle.meaning.specs.Literals.{among}
use Rattle.meaning.specs.Requests.{Entry, Request}
use Rattle.meaning.specs.Reading.{Got, got, fault}
use Rattle.meaning.specs.Refusals.{settled}
use Rattle.meaning.specs.States.{State, first_state}
use Rattle.meaning.specs.Walk.{no_state, in_state, End, fine, missed, stopped, Walked, Verified}
use Rattle.meaning.specs.Judging.{Judgement, reported, count_told, ended, within, walk_of, count}
use Rattle.meaning.specs.Derivations.{answer, beyond}
use Rattle.meaning.specs.Indexes.{Built}
use Rattle.meaning.specs.Schemes.{derivation_of, narrow_walk_of, unwritten, write_bytes, write_lines, unless_refused, derive_got, derive}
use Rattle.meaning.specs.DeriveReported.{AsksGoals, AsksWhether, WalkVerifies, bytes_of, SizesFit, BytesExceed}
use Rattle.meaning.specs.Answers.{refusals, derive_answers}
use Rattle.meaning.specs.AnswerParts.{of_neither, at_start, of_walks, stated, of_sizes, of_derived, DeriveInput, DerivePlaced, DeriveCount}
use Rattle.meaning.proofs.TestLaws.{by-test, clash, fails_true, pick_true, pick_false}
use Rattle.meaning.proofs.LiteralLaws.{among_each}
use Rattle.meaning.proofs.KeptEnds.{Stuck, walked_stuck}
use Rattle.meaning.proofs.PlaceLaws.{walked_below, EndBelow, placed_start, placed_byte, FaultIn, RequestHeld, settled_held}
use Rattle.meaning.proofs.NarrowWalks.{narrow_or_wide, walked_narrow_below}
use Rattle.meaning.proofs.Passed.{no_entry}
use Rattle.meaning.proofs.IndexBuilt.{built, too_short, refused}

-- A walk within its budget, and one that is not.
within_ended : (lent : List ℕ) (budget : ℕ) (w : Walked State) → w.count ≤ budget → within lent budget w ≡ ended lent w.count w.end
unfolding within
within_ended lent budget w enough = pick_false _ _ _ (le-ltb budget w.count enough)

-- WHAT IT GIVES, beside what the index call gives: with the room as lent, 3, an answer of the walk, and 38.
module _ (room : List ℕ) where
  abbrev pub spent : (budget : ℕ) → Built
  spent budget = record { answer = record { number = Limits.budget_spent; input = Limits.neither_input; place = 0; count = budget }; room = room }

  abbrev pub walked_to : (number place count : ℕ) → Built
  walked_to n p c = record { answer = record { number = n; input = Limits.the_request; place = p; count = c }; room = room }

  abbrev pub too_many : Built
  too_many = record { answer = record { number = Limits.too_many_lines; input = Limits.neither_input; place = 0; count = 0 }; room = room }

module _ (lim : Limits) (s room : List ℕ) (budget : ℕ) where
  pub derive_refused : (n p : ℕ) → settled lim s ≡ fault n p → derive lim s room budget ≡ refused room n p
  unfolding derive derive_got unwritten answer
  derive_refused n p past = ap (derive_got lim room budget) past

  module _ (r : Request) where
    pub derive_asked : AsksWhether lim s r → derive lim s room budget ≡ refused room Limits.whether_asked r.whether_place
    unfolding derive derive_got unwritten answer beyond
    derive_asked a = ap (derive_got lim room budget) a.settles ∙ pick_true _ _ _ (by-test (beyond Plain r) (λ t. t) (λ f. absurd (a.some (no_entry r.whether f))))

    -- Past 30.
    pub past_asking : AsksGoals lim s r
        → derive lim s room budget ≡ unless_refused room (within [] budget (walk_of lim r)).answer λ _. unless_refused room (within [] budget (narrow_walk_of lim r)).answer λ _. write_lines lim room (derivation_of lim r)
    unfolding derive derive_got beyond some_of
    past_asking a = ap (derive_got lim room budget) a.settles ∙ pick_false _ _ _ (ap (some_of (λ (w : Entry). true)) a.no_whether)

    pub derive_walked : AsksGoals lim s r → ((within [] budget (walk_of lim r)).answer.number ≡ Limits.verified → ⊥) → derive lim s room budget ≡ unwritten room (within [] budget (walk_of lim r)).answer
    unfolding unless_refused
    derive_walked a not_0 = past_asking a ∙ pick_false _ _ _ (ne_eqb _ _ not_0)

    pub derive_spent : AsksGoals lim s r → budget < count lim r → derive lim s room budget ≡ spent room budget
    unfolding within unwritten
    derive_spent a more =
        let is = pick_true _ (λ _. record { answer = record { number = Limits.budget_spent; input = Limits.neither_input; place = 0; count = budget }; state = [] }) (λ _. ended [] (count lim r) (walk_of lim r).end) (lt-ltb budget (count lim r) more) in
        derive_walked a (λ z. let three : ◌≡◌ {A = ℕ} 3 0 = sym (ap (λ (j : Judgement). j.answer.number) is) ∙ z in omega (arith, three)) ∙ ap (λ (j : Judgement). unwritten room j.answer) is

    module _ (a : AsksGoals lim s r) (enough : count lim r ≤ budget) where
      ends : (e : End State) → (walk_of lim r).end ≡ e → within [] budget (walk_of lim r) ≡ ended [] (count lim r) e
      ends e is = within_ended [] budget (walk_of lim r) enough ∙ ap (ended [] (count lim r)) is

      pub derive_missed : (p : ℕ) (u : State) → (walk_of lim r).end ≡ missed p u → derive lim s room budget ≡ walked_to room Limits.goal_missed p (count lim r)
      unfolding ended reported unwritten
      derive_missed p u is =
          derive_walked a (λ z. let one : ◌≡◌ {A = ℕ} 1 0 = sym (ap (λ (j : Judgement). j.answer.number) (ends _ is)) ∙ z in omega (arith, one)) ∙ ap (λ (j : Judgement). unwritten room j.answer) (ends _ is)

      pub derive_stuck : (p : ℕ) (u : State) → (walk_of lim r).end ≡ stopped Limits.not_executable p (in_state u) → derive lim s room budget ≡ walked_to room Limits.not_executable p (count lim r)
      unfolding ended reported count_told unwritten
      derive_stuck p u is =
          derive_walked a (λ z. let two : ◌≡◌ {A = ℕ} 2 0 = sym (ap (λ (j : Judgement). j.answer.number) (ends _ is)) ∙ z in omega (arith, two)) ∙ ap (λ (j : Judgement). unwritten room j.answer) (ends _ is)

    -- Past 1, 2 and 3.
    module _ (v : WalkVerifies lim s budget r) where
      past_walking : derive lim s room budget ≡ unless_refused room (within [] budget (narrow_walk_of lim r)).answer λ _. write_lines lim room (derivation_of lim r)
      unfolding unless_refused ended
      past_walking = past_asking v.asks ∙ pick_true _ _ _ (eq-eqb _ _ (ap (λ (j : Judgement). j.answer.number) (ends v.asks v.enough fine v.fine)))

      narrow_ends : (e : End State) → (narrow_walk_of lim r).end ≡ e → within [] budget (narrow_walk_of lim r) ≡ ended [] (narrow_walk_of lim r).count e
      narrow_ends e is =
          let fewer = (narrow_or_wide r (first_state lim r.table) v.fine).1 in
          within_ended [] budget (narrow_walk_of lim r) (omega (arith, fewer, v.enough)) ∙ ap (ended [] (narrow_walk_of lim r).count) is

      pub derive_wide : (p : ℕ) → (narrow_walk_of lim r).end ≡ stopped Limits.sensing_too_wide p no_state → derive lim s room budget ≡ refused room Limits.sensing_too_wide p
      unfolding unless_refused ended reported count_told unwritten
      derive_wide p is =
          let number = ap (λ (j : Judgement). j.answer.number) (narrow_ends _ is) in
          past_walking ∙ pick_false _ _ _ (ne_eqb _ _ (λ z. let same : ◌≡◌ {A = ℕ} 37 0 = sym number ∙ z in omega (arith, same))) ∙ ap (λ (j : Judgement). unwritten room j.answer) (narrow_ends _ is)

      -- Past 37.
      module _ (narrow : Verified (narrow_walk_of lim r)) where
        past_wide : derive lim s room budget ≡ write_lines lim room (derivation_of lim r)
        unfolding unless_refused ended
        past_wide = past_walking ∙ pick_true _ _ _ (eq-eqb _ _ (ap (λ (j : Judgement). j.answer.number) (narrow_ends fine narrow)))

        pub derive_many : lim.lines < length (derivation_of lim r) → derive lim s room budget ≡ too_many room
        unfolding write_lines unwritten answer
        derive_many more = past_wide ∙ pick_true _ _ _ (lt-ltb _ _ more)

        module _ (few : length (derivation_of lim r) ≤ lim.lines) where
          past_lines : derive lim s room budget ≡ write_bytes lim room (bytes_of lim r)
          unfolding write_lines
          past_lines = past_wide ∙ pick_false _ _ _ (le-ltb _ _ few)

          pub derive_short : (lim.derivation < length (bytes_of lim r)) ⊎ (length room < length (bytes_of lim r)) → derive lim s room budget ≡ too_short room
          unfolding write_bytes unwritten answer
          derive_short exceeds =
              past_lines
              ∙ by-test (ltb lim.derivation (length (bytes_of lim r))) (λ t. pick_true _ _ _ t)
              (λ f.
              pick_false _ _ _ f
              ∙ pick_false _ _ _ (⊎_elim (λ more. clash (lt-ltb _ _ more) f) (λ short. lt-leb _ _ short) exceeds))

          pub derive_written : length (bytes_of lim r) ≤ lim.derivation → length (bytes_of lim r) ≤ length room → derive lim s room budget ≡ built room (bytes_of lim r)
          unfolding write_bytes
          derive_written small fits = past_lines ∙ pick_false _ _ _ (le-ltb _ _ small) ∙ pick_true _ _ _ (le-leb _ _ fits)

  -- A place is that of a byte of a request that is not too long.
  abbrev pub Byte : (place : ℕ) → Type 0
  Byte p = (p < length s) × (length s ≤ lim.request)

  -- EACH CASE of the definition.
  pub record EachDerived (P : Built → Type 0) : Type 0 where
    pub is_refused : (n p : ℕ) → settled lim s ≡ fault n p → FaultIn refusals lim.request (length s) n p → P (refused room n p)
    pub is_asked : (r : Request) → AsksWhether lim s r → Byte r.whether_place → P (refused room Limits.whether_asked r.whether_place)
    pub is_spent : (r : Request) → AsksGoals lim s r → budget < count lim r → P (spent room budget)
    pub is_missed : (r : Request) → AsksGoals lim s r → count lim r ≤ budget → (p : ℕ) (u : State) → (walk_of lim r).end ≡ missed p u → Byte p → P (walked_to room Limits.goal_missed p (count lim r))
    pub is_stuck : (r : Request) → AsksGoals lim s r → count lim r ≤ budget → (p : ℕ) (u : State) → (walk_of lim r).end ≡ stopped Limits.not_executable p (in_state u) → Byte p
        → P (walked_to room Limits.not_executable p (count lim r))
    pub is_wide : (r : Request) → WalkVerifies lim s budget r → (p : ℕ) → (narrow_walk_of lim r).end ≡ stopped Limits.sensing_too_wide p no_state → Byte p → P (refused room Limits.sensing_too_wide p)
    pub is_many : (r : Request) → WalkVerifies lim s budget r → Verified (narrow_walk_of lim r) → lim.lines < length (derivation_of lim r) → P (too_many room)
    pub is_short : (r : Request) → WalkVerifies lim s budget r → Verified (narrow_walk_of lim r) → BytesExceed lim room r → P (too_short room)
    pub is_written : (r : Request) → WalkVerifies lim s budget r → Verified (narrow_walk_of lim r) → SizesFit lim room r → P (built room (bytes_of lim r))

  -- What is so of each is so of the call.
  module _ (P : Built → Type 0) (each : EachDerived P) where
    by_sizes : (r : Request) → WalkVerifies lim s budget r → Verified (narrow_walk_of lim r) → P (derive lim s room budget)
    by_sizes r v narrow =
        let lines : ℕ = length (derivation_of lim r) in
        let bytes : ℕ = length (bytes_of lim r) in
        let short : (lines ≤ lim.lines) → (lim.derivation < bytes) ⊎ (length room < bytes) → P (derive lim s room budget) =
        λ few exceeds. subst P (sym (derive_short r v narrow few exceeds)) (each.is_short r v narrow (record { lines = few; bytes = exceeds })) in
        by-test (ltb lim.lines lines)
        (λ t. let more = ltb-true lim.lines lines t in subst P (sym (derive_many r v narrow more)) (each.is_many r v narrow more))
        (λ f.
        let few = ltb-false lim.lines lines f in
        by-test (ltb lim.derivation bytes) (λ t. short few (inl (ltb-true lim.derivation bytes t)))
        (λ g.
        let small = ltb-false lim.derivation bytes g in
        by-test (leb bytes (length room))
        (λ t. let fits = leb-true bytes (length room) t in subst P (sym (derive_written r v narrow few small fits)) (each.is_written r v narrow (record { lines = few; bytes = small; fits = fits })))
        (λ h. short few (inr (leb-false bytes (length room) h)))))

    module _ (r : Request) (short : length s ≤ lim.request) where
      by_width : WalkVerifies lim s budget r → EndBelow (length s) (narrow_walk_of lim r).end → P (derive lim s room budget)
      by_width v below =
          ⊎_elim (by_sizes r v)
          (λ stop. subst P (sym (derive_wide r v stop.0 stop.1)) (each.is_wide r v stop.0 stop.1 (subst (EndBelow (length s)) stop.1 below, short)))
          (narrow_or_wide r (first_state lim r.table) v.fine).0

      module _ (a : AsksGoals lim s r) (enough : count lim r ≤ budget) (narrow_below : EndBelow (length s) (narrow_walk_of lim r).end) where
        by_end : (e : End State) → (walk_of lim r).end ≡ e → EndBelow (length s) e → Stuck e → P (derive lim s room budget)
        by_end fine is below stuck = by_width (record { asks = a; fine = is; enough = enough }) narrow_below
        by_end (missed p u) is below stuck = subst P (sym (derive_missed r a enough p u is)) (each.is_missed r a enough p u is (below, short))
        by_end (stopped n p u) is below stuck =
            let same : (walk_of lim r).end ≡ stopped Limits.not_executable p (in_state stuck.1.0) = is ∙ ap₂ {C = End State} (λ m v. stopped m p v) stuck.0 stuck.1.1 in
            subst P (sym (derive_stuck r a enough p stuck.1.0 same)) (each.is_stuck r a enough p stuck.1.0 same (below, short))

      by_walk : AsksGoals lim s r → EndBelow (length s) (walk_of lim r).end → EndBelow (length s) (narrow_walk_of lim r).end → P (derive lim s room budget)
      by_walk a below narrow_below =
          by-test (ltb budget (count lim r))
          (λ t. let more = ltb-true budget (count lim r) t in subst P (sym (derive_spent r a more)) (each.is_spent r a more))
          (λ f. by_end a (ltb-false budget (count lim r) f) narrow_below (walk_of lim r).end refl below (walked_stuck r (first_state lim r.table)))

    by_read : (x : Got Request) → settled lim s ≡ x → RequestHeld lim s x → P (derive lim s room budget)
    unfolding beyond some_of either
    by_read (got r e) past held =
        by-test (beyond Plain r)
        (λ t.
        let a : AsksWhether lim s r = record { end = e; settles = past; some = λ none. clash t (ap (some_of (λ (w : Entry). true)) none) } in
        subst P (sym (derive_asked r a)) (each.is_asked r a (held.1.0.whether_place, held.1.1)))
        (λ f.
        by_walk r held.1.1 (record { end = e; settles = past; no_whether = no_entry r.whether f }) (walked_below (length s) r held.1.0 (first_state lim r.table))
        (walked_narrow_below (length s) r held.1.0 (first_state lim r.table)))
    by_read (fault n p) past held = subst P (sym (derive_refused n p past)) (each.is_refused n p past held)

    pub by_deriving : P (derive lim s room budget)
    by_deriving = by_read (settled lim s) refl (settled_held lim s)

-- DEMAND 1. A refusal is not one of these numbers, where none of them is a refusal.
pub refusal_not : (ns : List ℕ) → each_of (λ (m : ℕ). fails (among m ns)) refusals ≡ true → (n : ℕ) → among n refusals ≡ true → among n ns ≡ false
refusal_not ns none n is = fails_true _ (among_each (λ (m : ℕ). fails (among m ns)) refusals none n is)

among_more : (n : ℕ) → among n refusals ≡ true → among n derive_answers ≡ true
unfolding among derive_answers some_of refusals each_of both either
among_more n is = among_each (λ (m : ℕ). among m derive_answers) refusals refl n is

module _ (lim : Limits) (s room : List ℕ) (budget : ℕ) where
  -- The number is one of 0 to 3, 10 to 21, 30 and 37 to 39 (FORMAT 24.24).
  pub derive_numbered : among (derive lim s room budget).answer.number derive_answers ≡ true
  unfolding among derive_answers some_of either
  derive_numbered =
      by_deriving lim s room budget (λ b. among b.answer.number derive_answers ≡ true) (record {
        is_refused = λ n _ _ held. among_more n held.number;
        is_asked = λ _ _ _. refl;
        is_spent = λ _ _ _. refl;
        is_missed = λ _ _ _ _ _ _ _. refl;
        is_stuck = λ _ _ _ _ _ _ _. refl;
        is_wide = λ _ _ _ _ _. refl;
        is_many = λ _ _ _ _. refl;
        is_short = λ _ _ _ _. refl;
        is_written = λ _ _ _ _. refl;
      })

  -- Neither input is named exactly with 0, 3, 38 and 39, and the request with every other number.
  names_neither : (n c : ℕ) → among n of_derived ≡ true → DeriveInput (record { number = n; input = Limits.neither_input; place = 0; count = c })
  names_neither n c is = record { neither = (λ _. is, λ _. refl); request = λ f. clash is f }

  names_request : (n p c : ℕ) → among n of_derived ≡ false → DeriveInput (record { number = n; input = Limits.the_request; place = p; count = c })
  names_request n p c not = record { neither = (λ q. absurd (omega (arith, q)), λ t. clash t not); request = λ _. refl }

  pub derive_input : DeriveInput (derive lim s room budget).answer
  unfolding among refusals of_derived of_sizes some_of either each_of both fails
  derive_input =
      by_deriving lim s room budget (λ b. DeriveInput b.answer) (record {
        is_refused = λ n p _ held. names_request n p 0 (refusal_not of_derived refl n held.number);
        is_asked = λ _ _ _. names_request _ _ _ refl;
        is_spent = λ _ _ _. names_neither _ _ refl;
        is_missed = λ _ _ _ _ _ _ _. names_request _ _ _ refl;
        is_stuck = λ _ _ _ _ _ _ _. names_request _ _ _ refl;
        is_wide = λ _ _ _ _ _. names_request _ _ _ refl;
        is_many = λ _ _ _ _. names_neither _ _ refl;
        is_short = λ _ _ _ _. names_neither _ _ refl;
        is_written = λ _ _ _ _. names_neither _ _ refl;
      })

  -- The place is 0 with 0, 3, 10, 38 and 39, the request's length with 11, and that of a byte with every other number.
  at_byte : (n p : ℕ) → among n of_sizes ≡ false → among n (Limits.ends_too_soon ∷ at_start) ≡ false → p < length s → DerivePlaced (length s) n p
  at_byte n p not_late not_start less = record { sizes = λ t. clash t not_late; other = λ _. placed_byte (length s) n p not_start less }

  not_placed : (n : ℕ) → among n at_start ≡ true → DerivePlaced (length s) n 0
  not_placed n is = record { sizes = λ _. refl; other = λ _. placed_start (length s) n is }

  of_size : (n : ℕ) → among n of_sizes ≡ true → DerivePlaced (length s) n 0
  of_size n is = record { sizes = λ _. refl; other = λ f. clash is f }

  pub derive_place : DerivePlaced (length s) (derive lim s room budget).answer.number (derive lim s room budget).answer.place
  unfolding among refusals of_sizes at_start of_neither some_of either each_of both fails
  derive_place =
      by_deriving lim s room budget (λ b. DerivePlaced (length s) b.answer.number b.answer.place) (record {
        is_refused = λ n _ _ held. record { sizes = λ t. clash t (refusal_not of_sizes refl n held.number); other = λ _. held.placed };
        is_asked = λ _ _ byte. at_byte _ _ refl refl byte.0;
        is_spent = λ _ _ _. not_placed _ refl;
        is_missed = λ _ _ _ _ _ _ byte. at_byte _ _ refl refl byte.0;
        is_stuck = λ _ _ _ _ _ _ byte. at_byte _ _ refl refl byte.0;
        is_wide = λ _ _ _ _ byte. at_byte _ _ refl refl byte.0;
        is_many = λ _ _ _ _. of_size _ refl;
        is_short = λ _ _ _ _. of_size _ refl;
        is_written = λ _ _ _ _. not_placed _ refl;
      })

  -- So it is at most the request limit.
  pub derive_place_limited : (derive lim s room budget).answer.place ≤ lim.request
  derive_place_limited =
      by_deriving lim s room budget (λ b. b.answer.place ≤ lim.request) (record {
        is_refused = λ _ _ _ held. held.fits;
        is_asked = λ _ _ byte. omega (arith, byte.0, byte.1);
        is_spent = λ _ _ _. omega arith;
        is_missed = λ _ _ _ _ _ _ byte. omega (arith, byte.0, byte.1);
        is_stuck = λ _ _ _ _ _ _ byte. omega (arith, byte.0, byte.1);
        is_wide = λ _ _ _ _ byte. omega (arith, byte.0, byte.1);
        is_many = λ _ _ _ _. omega arith;
        is_short = λ _ _ _ _. omega arith;
        is_written = λ _ _ _ _. omega arith;
      })

  -- The count is that of the derivation's bytes with 0, that of the walk with 1 and 2, the budget with 3, and 0 with every other number.
  none_counted : (n i p : ℕ) → (n ≡ Limits.verified → ⊥) → among n stated ≡ false → (n ≡ Limits.budget_spent → ⊥) → DeriveCount lim s budget (record { number = n; input = i; place = p; count = 0 })
  none_counted n i p not_0 not-walk not_3 = record { written = λ q. absurd (not_0 q); walk = λ t. clash t not-walk; spent = λ q. absurd (not_3 q); other = λ _. refl }

  walk_counted : (n p : ℕ) (r : Request) → AsksGoals lim s r → (n ≡ Limits.verified → ⊥) → (n ≡ Limits.budget_spent → ⊥) → among n (Limits.budget_spent ∷ of_walks) ≡ true
      → DeriveCount lim s budget (record { number = n; input = Limits.the_request; place = p; count = count lim r })
  walk_counted n p r a not_0 not_3 is = record { written = λ q. absurd (not_0 q); walk = λ _. (r, a.end, a.settles, refl); spent = λ q. absurd (not_3 q); other = λ f. clash is f }

  pub derive_count : DeriveCount lim s budget (derive lim s room budget).answer
  unfolding among refusals stated of_walks some_of either each_of both fails
  derive_count =
      by_deriving lim s room budget (λ b. DeriveCount lim s budget b.answer) (record {
        is_refused = λ n p _ held.
            let none = refusal_not (Limits.budget_spent ∷ of_walks) refl n held.number in
            none_counted n _ p (λ q. clash (ap (λ (m : ℕ). among m (Limits.budget_spent ∷ of_walks)) q) none) (refusal_not stated refl n held.number)
            (λ q. clash (ap (λ (m : ℕ). among m (Limits.budget_spent ∷ of_walks)) q) none);
        is_asked = λ _ _ _. none_counted _ _ _ (λ q. omega (arith, q)) refl (λ q. omega (arith, q));
        is_spent = λ _ _ _. record { written = λ q. absurd (omega (arith, q)); walk = λ t. clash t refl; spent = λ _. refl; other = λ f. clash refl f };
        is_missed = λ r a _ p _ _ _. walk_counted _ p r a (λ q. omega (arith, q)) (λ q. omega (arith, q)) refl;
        is_stuck = λ r a _ p _ _ _. walk_counted _ p r a (λ q. omega (arith, q)) (λ q. omega (arith, q)) refl;
        is_wide = λ _ _ _ _ _. none_counted _ _ _ (λ q. omega (arith, q)) refl (λ q. omega (arith, q));
        is_many = λ _ _ _ _. none_counted _ _ _ (λ q. omega (arith, q)) refl (λ q. omega (arith, q));
        is_short = λ _ _ _ _. none_counted _ _ _ (λ q. omega (arith, q)) refl (λ q. omega (arith, q));
        is_written = λ r v _ _. record { written = λ _. (r, v.asks.end, v.asks.settles, refl); walk = λ t. clash t refl; spent = λ q. absurd (omega (arith, q)); other = λ f. clash refl f };
      })

  -- The room keeps its length, and is as lent with every other answer than 0 (FORMAT 24.12).
  pub derive_room_length : length (derive lim s room budget).room ≡ length room
  derive_room_length =
      by_deriving lim s room budget (λ b. length b.room ≡ length room) (record {
        is_refused = λ _ _ _ _. refl;
        is_asked = λ _ _ _. refl;
        is_spent = λ _ _ _. refl;
        is_missed = λ _ _ _ _ _ _ _. refl;
        is_stuck = λ _ _ _ _ _ _ _. refl;
        is_wide = λ _ _ _ _ _. refl;
        is_many = λ _ _ _ _. refl;
        is_short = λ _ _ _ _. refl;
        is_written = λ r _ _ sizes.
            let whole = length-append (bytes_of lim r) (drop (length (bytes_of lim r)) room) in
            let behind = length-drop (length (bytes_of lim r)) room in
            let fits = sizes.fits in
            omega (arith, fits, whole, behind);
      })

  pub derive_room_as_lent : ((derive lim s room budget).answer.number ≡ Limits.verified → ⊥) → (derive lim s room budget).room ≡ room
  derive_room_as_lent =
      by_deriving lim s room budget (λ b. (b.answer.number ≡ Limits.verified → ⊥) → b.room ≡ room) (record {
        is_refused = λ _ _ _ _ _. refl;
        is_asked = λ _ _ _ _. refl;
        is_spent = λ _ _ _ _. refl;
        is_missed = λ _ _ _ _ _ _ _ _. refl;
        is_stuck = λ _ _ _ _ _ _ _ _. refl;
        is_wide = λ _ _ _ _ _ _. refl;
        is_many = λ _ _ _ _ _. refl;
        is_short = λ _ _ _ _ _. refl;
        is_written = λ _ _ _ _ other. absurd (other refl);
      })

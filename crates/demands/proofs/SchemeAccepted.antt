-- The derivation of a request is read as it was written, and the derivation call accepts it (FORMAT 24.26): its lines can be read, they follow by their rules, 18 finds nothing in
-- their plans, and no rule asks where they stand. So what the derive call writes is accepted. Assumes nothing.
use Prim.Native.Nat.{ℕ, ◌+◌, ◌≤◌, ◌<◌}
use native.Mathlib.Omega.{arith}
use mathlib.Core.Path.{◌≡◌, refl, sym, ◌∙◌, subst}
use mathlib.Core.Bool.{true}
use mathlib.Core.List.{List, [], ◌∷◌}
use lib.ListN.{length, take, drop, length-append}
use lib.Seq.{take-append_seam}
use lib.Dec.{leb, ltb}
use borrow.Author.Tests.{leb-true, ltb-true}
use Rattle.meaning.specs.declared.Layout.TheVariants.{Plain}
use Rattle.meaning.specs.Tests.{both, each_of, Each}
use Rattle.meaning.specs.Limits
use Rattle.meaning.specs.Limits.{Limits, format}
use Rattle.meaning.specs.Literals.{among}
use Rattle.meaning.specs.Requests.{Table, Request, values}
use Rattle.meaning.specs.declared.Form.TheVariants.{Flags}
use Rattle.meaning.specs.Reading.{got, fluents, literals, list_at, plan_at, table_at, request_at, read_request}
use Rattle.meaning.specs.Refusals.{nowhere, settled, overlap_in}
use Rattle.meaning.specs.Derivations.{Line, overlap_in_lines, citations_taken, citations_of, a_rule, check}
use Rattle.meaning.specs.Layouts.{Bytes, number_written, lines_written, closing_written, written, InClosingLayout}
use Rattle.meaning.specs.Schemes
use Rattle.meaning.specs.Schemes.{derivation_of, narrow_walk_of, derive}
use Rattle.meaning.specs.DeriveReported.{bytes_of}
use Rattle.meaning.specs.Indexes.{Built}
use Rattle.meaning.specs.Walk.{Verified}
use Rattle.meaning.proofs.TestLaws.{both_left, both_right}
use Rattle.meaning.proofs.PickLaws.{pick_has}
use Rattle.meaning.proofs.LiteralLaws.{among_each}
use Rattle.meaning.proofs.SettledLaws.{got_same, settled_is}
use Rattle.meaning.proofs.RangeLaws.{not_refused, after_got, read_ranged}
use Rattle.meaning.proofs.TableLines.{settled_lines}
use Rattle.meaning.proofs.ReadLines.{placed_values}
use Rattle.meaning.proofs.PlacelessLaws.{nowhere_placeless}
use Rattle.meaning.proofs.Passed.{AllPass, LastPasses, passed_exactly}
use Rattle.meaning.proofs.IndexBuilt.{not_verified}
use Rattle.meaning.proofs.DeriveAnswers.{by_deriving}
use Rattle.demands.proofs.MovedLines.{Rewritten}
use Rattle.demands.proofs.LayoutLaws.{follow_plain, follow_carried, last_named, last_alike, plain_to_closing}
use Rattle.demands.proofs.SchemeFollows.{derivation_passes, derivation_asks}
use Rattle.demands.proofs.Readable.{ListFits, PlanFits, LineFits, plan_fits, list_fits, derivation_again, derivation_in_bytes}
use Rattle.demands.proofs.SchemeReadable.{Sayable, nowhere_both, derivation_says}

-- WHAT WAS READ of a request: its plan and its goals can be read.
abbrev AskedFits : Limits → Request → Type 0
AskedFits lim r = PlanFits lim r.table.fluents r.table.actions r.plan × ListFits r.table.fluents lim.listed (values r.goals)

request_fits : (lim : Limits) (b : List ℕ) (r : Request) (e : ℕ) → read_request lim Flags b ≡ got r e → AskedFits lim r
unfolding read_request request_at
request_fits lim b r e reads =
    after_got (table_at lim Flags b 0) _ (not_refused _ _ _ _ reads).1 λ t p₁ _ e₁.
    after_got (request_at lim Flags b t p₁) _ e₁ λ q p₂ eq e₂.
    after_got (plan_at lim Flags t.fluents t.actions b p₁) _ eq λ plan p₃ ep e₃.
    after_got (list_at literals t.fluents lim.listed b p₃) _ e₃ λ goals p₄ eg e₄.
    after_got (list_at fluents t.fluents lim.listed b p₄) _ e₄ λ whether p₅ _ same.
    subst (AskedFits lim) (got_same same ∙ got_same (not_refused _ _ _ _ e₂).1) (
      plan_fits lim t.fluents t.actions b p₁ plan p₃ ep,
      subst (ListFits t.fluents lim.listed) (sym (placed_values (p₃ + 1) goals)) (list_fits t.fluents lim.listed b p₃ goals p₄ eg),
    )

-- LINES THAT FOLLOW are by rules of one byte, and cite earlier lines, no more of them than a line may.
few_taken : (rule : ℕ) → each_of (λ (k : ℕ). leb k format.citations) (citations_taken rule) ≡ true
unfolding citations_taken each_of both
few_taken rule =
    let Few : List ℕ → Type 0 = λ ks. each_of (λ (k : ℕ). leb k format.citations) ks ≡ true in
    pick_has Few _ _ _ (λ _. refl) λ _.
    pick_has Few _ _ _ (λ _. refl) λ _.
    pick_has Few _ _ _ (λ _. refl) λ _.
    pick_has Few _ _ _ (λ _. refl) λ _.
    pick_has Few _ _ _ (λ _. refl) λ _.
    refl

few_cited : (rule count : ℕ) → among count (citations_of rule) ≡ true → count ≤ format.citations
unfolding citations_of
few_cited rule count takes = leb-true count format.citations (among_each (λ (k : ℕ). leb k format.citations) _ (few_taken _) count takes)

near_cited : (i : ℕ) (ks : List ℕ) → i ≤ 65536 → each_of (λ (k : ℕ). ltb k i) ks ≡ true → Each (λ (k : ℕ). k < 65536) ks
unfolding each_of
near_cited i [] most earlier = tt
near_cited i (k ∷ ks) most earlier = let less = ltb-true k i (both_left _ _ earlier) in (omega arith, near_cited i ks most (both_right _ _ earlier))

module _ (n m : ℕ) (t : Table) (lines : List Line) where
  follow_fit : (i : ℕ) (ls : List Line) → i + length ls ≤ 65536 → AllPass format Plain t lines i ls → Each (Sayable format n m) ls → Each (LineFits format n m) ls
  unfolding a_rule
  follow_fit i [] most all says = tt
  follow_fit i (l ∷ ls) most all says =
      let one = all.0 in
      let rule = leb-true l.rule Limits.consequence_rule (both_right _ _ one.rule) in (
        record { saying = says.0.saying; rule = omega arith; few = few_cited l.rule (length l.cites) one.takes; cites = near_cited i l.cites (omega arith) one.earlier },
        follow_fit (i + 1) ls (omega arith) all.1 says.1,
      )

nowhere_in_lines : (lim : Limits) (n m : ℕ) (ls : List Line) → Each (Sayable lim n m) ls → overlap_in_lines ls ≡ nowhere
unfolding overlap_in_lines
nowhere_in_lines lim n m [] says = refl
nowhere_in_lines lim n m (l ∷ ls) says = nowhere_both (overlap_in l.c) _ says.0.apart (nowhere_in_lines lim n m ls says.1)

some_line : (r : Request) (ls : List Line) → LastPasses r ls → 0 < length ls
some_line r [] last = absurd last
some_line r (l ∷ ls) last = omega arith

-- THE DERIVATION OF A SETTLED REQUEST.
module _ (request : List ℕ) (r : Request) (e : ℕ) (past : settled format request ≡ got r e) where
  abbrev ls : List Line
  ls = derivation_of format r

  abbrev n : ℕ
  n = r.table.fluents

  abbrev m : ℕ
  m = r.table.actions

  few_fluents : n ≤ format.fluents
  few_fluents = (read_ranged format request r e (settled_is format request r e past).reads).fluents

  few_actions : m ≤ format.actions
  few_actions = (settled_lines format request r e past).actions

  -- What each line says can be read, and 18 finds nothing in its plan.
  pub scheme_says : Each (Sayable format n m) ls
  scheme_says =
      let is = settled_is format request r e past in
      let asked = request_fits format request r e is.reads in
      derivation_says format (omega arith) (omega arith) r (read_ranged format request r e is.reads) (record { fits = asked.0; apart = is.no_overlap }) asked.1

  -- Its bytes are two for the number of its lines, and those of the lines.
  pub scheme_length : length (bytes_of format r) ≡ 2 + length (lines_written Plain ls)
  unfolding Schemes.derivation_bytes written closing_written number_written
  scheme_length = let whole = length-append (lines_written Plain ls) [] in omega arith

  -- Where its walk is verified and meets no sensing action that is too wide, there are lines.
  pub scheme_some : Verified (narrow_walk_of format r) → 0 < length ls
  scheme_some verified = some_line r ls (derivation_asks request r e past verified)

  -- And there are not too many.
  module _ (verified : Verified (narrow_walk_of format r)) (few : length ls ≤ format.lines) where
    -- Each line can be read.
    pub scheme_fits : Each (LineFits format n m) ls
    scheme_fits = follow_fit n m r.table ls 0 ls (omega arith) (derivation_passes request r e past verified) scheme_says

    -- What is written are bytes.
    pub scheme_bytes : Bytes (bytes_of format r)
    unfolding Schemes.derivation_bytes
    scheme_bytes = derivation_in_bytes n m few_fluents few_actions (record { lines = ls; closing = []; closing_place = 0 }) scheme_fits (omega arith)

    module _ (short : length (bytes_of format r) ≤ format.derivation) where
      -- They are read as these lines, their places aside.
      pub scheme_read : Rewritten format n m ls Plain [] (bytes_of format r)
      unfolding Schemes.derivation_bytes
      scheme_read =
          let less = few_actions in
          derivation_again format n m (omega arith) (record { lines = ls; closing = []; closing_place = 0 }) scheme_fits (scheme_some verified) few short

      -- The derivation call accepts them, where the request has no whether entries (FORMAT 24.27).
      pub scheme_accepted : r.whether ≡ [] → (check format Plain request (bytes_of format r)).number ≡ Limits.verified
      scheme_accepted none_asked =
          let read = scheme_read in
          let js = read.value.lines in
          let follows = derivation_passes request r e past verified in
          let plain = follow_plain format r.table ls 0 ls follows in
          (passed_exactly format Plain request (bytes_of format r)).1 (record {
            asks = r;
            end = e;
            request_settled = past;
            reads = read.value;
            derivation_end = length (bytes_of format r);
            derivation_read = read.is;
            no_overlap = nowhere_placeless ls js (sym read.lines_alike) (nowhere_in_lines format n m ls scheme_says);
            all_follow = follow_carried format Plain Plain r.table ls js read.lines_alike plain follows;
            answered = (none_asked, last_alike r ls js read.lines_alike (last_named r ls (derivation_asks request r e past verified)));
          })

-- THE DERIVE CALL.
module _ (request room : List ℕ) (budget : ℕ) where
  abbrev gives : Built
  gives = derive format request room budget

  abbrev wrote : List ℕ
  wrote = take gives.answer.count gives.room

  -- Where it answers 0, it wrote the derivation of the request.
  right : gives.answer.number ≡ Limits.verified → Bytes wrote × ((check format Plain request wrote).number ≡ Limits.verified)
  right =
      by_deriving format request room budget
      (λ b. b.answer.number ≡ Limits.verified → Bytes (take b.answer.count b.room) × ((check format Plain request (take b.answer.count b.room)).number ≡ Limits.verified))
      (record {
        is_refused = λ k _ _ held is. absurd (not_verified k held.number is);
        is_asked = λ _ _ _ is. absurd (omega (arith, is));
        is_spent = λ _ _ _ is. absurd (omega (arith, is));
        is_missed = λ _ _ _ _ _ _ _ is. absurd (omega (arith, is));
        is_stuck = λ _ _ _ _ _ _ _ is. absurd (omega (arith, is));
        is_wide = λ _ _ _ _ _ is. absurd (omega (arith, is));
        is_many = λ _ _ _ _ is. absurd (omega (arith, is));
        is_short = λ _ _ _ _ is. absurd (omega (arith, is));
        is_written = λ r verifies narrow sizes _.
            let asks = verifies.asks in
            let code = bytes_of format r in
            subst (λ (u : List ℕ). Bytes u × ((check format Plain request u).number ≡ Limits.verified)) (sym (take-append_seam code (drop (length code) room))) (
              scheme_bytes request r asks.end asks.settles narrow sizes.lines,
              scheme_accepted request r asks.end asks.settles narrow sizes.lines sizes.bytes asks.no_whether,
            );
      })

  module _ (is : gives.answer.number ≡ Limits.verified) where
    -- What it wrote are bytes, and the derivation call accepts them (FORMAT 24.26).
    pub derive_bytes : Bytes wrote
    derive_bytes = (right is).0

    pub derive_accepted : (check format Plain request wrote).number ≡ Limits.verified
    derive_accepted = (right is).1

    -- Written in the closing layout they are three bytes more, and the whether call accepts them where these are not too many (FORMAT 17.42).
    pub derive_closing : InClosingLayout format request wrote
    derive_closing = plain_to_closing format request wrote derive_bytes derive_accepted

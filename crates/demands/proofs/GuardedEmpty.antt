-- A guarded request without guards is answered as the walk call answers the bytes before its last one (FORMAT 21.17): these are read alike whatever
-- stands behind them, the byte 0 is the empty list, and a walk without guards is the plain walk. Assumes nothing.
use Prim.Native.Nat.{ℕ, ◌+◌, ◌≤◌, ◌<◌}
use native.Mathlib.Omega.{arith}
use mathlib.Core.Path.{◌≡◌, refl, sym, ◌∙◌, ap}
use mathlib.Core.List.{List, [], ◌∷◌, ◌++◌}
use lib.ListN.{length, length-append, get_or, get_or-append}
use lib.Dec.{ltb, eqb}
use borrow.Author.Tests.{ltb-false, le-ltb}
use Rattle.meaning.specs.Tests.{pick}
use Rattle.meaning.specs.Limits
use Rattle.meaning.specs.Limits.{Limits}
use Rattle.meaning.specs.Requests.{Table, Request}
use Rattle.meaning.specs.declared.Form.TheVariants.{Flags}
use Rattle.meaning.specs.Reading.{Got, got, fault, next, literals, list_at, placed, table_at, request_at, read_request}
use Rattle.meaning.specs.Refusals.{Found, nowhere, at, refuse, past_refusals, contradiction_in, mixed_in, overlap_in, settled}
use Rattle.meaning.specs.States.{first_state}
use Rattle.meaning.specs.Judging.{Judgement, within, judge_settled, judge, judge_got}
use Rattle.meaning.specs.Judging
use Rattle.meaning.specs.Guards.{GuardedRequest, read_guarded, settled_guarded, walk_of, judge_guarded}
use Rattle.meaning.specs.Layouts.{list_written}
use Rattle.meaning.proofs.TestLaws.{by-test, pick_true, pick_false}
use Rattle.meaning.proofs.PickLaws.{pick_has}
use Rattle.meaning.proofs.KeptEnds.{walked_unguarded}
use Rattle.meaning.proofs.MovedReads.{next_is, part_stands}
use Rattle.meaning.proofs.KeptReads.{kept_of, kept_fault, table_kept, request_kept}
use Rattle.meaning.proofs.ListReads.{list_read}

-- A request without guards.
abbrev without : Request → GuardedRequest
without r = record { request = r; guards = [] }

-- READ, with one byte 0 behind all bytes.
module _ (lim : Limits) (b : List ℕ) (short : length b < lim.request) where
  abbrev u : List ℕ
  u = b ++ (0 ∷ [])

  long : length u ≡ length b + 1
  long = length-append b (0 ∷ [])

  room : length b ≤ length u
  room = omega (arith, long)

  same : (p : ℕ) → p < length b → get_or u p 0 ≡ get_or b p 0
  same p less = get_or-append b (0 ∷ []) 0 p less

  -- What was read is read without guards, and a fault other than 11 and 20 is met there too.
  abbrev Empty : Got Request → Got GuardedRequest → Type 0
  Empty (got r e) h = h ≡ got (without r) (e + 1)
  Empty (fault n i) h = (n ≡ Limits.ends_too_soon → ⊥) → (n ≡ Limits.bytes_after → ⊥) → h ≡ fault n i

  no_guards : (n : ℕ) → list_at literals n Limits.most_guards u (length b) ≡ got [] (length b + 1)
  unfolding list_written
  no_guards n = list_read literals n Limits.most_guards u [] (length b) (length b + 1) tt (omega arith) (part_stands b (0 ∷ []) [])

  -- The end: where the eighth section is, the ninth is the byte 0.
  ninth : Table → Request → ℕ → Got GuardedRequest
  ninth t r q =
      next (list_at literals t.fluents Limits.most_guards u q) λ guards e.
      pick (ltb e (length u)) (λ _. fault Limits.bytes_after e) λ _.
      got (record { request = r; guards = placed (q + 1) guards }) e

  ends_empty : (t : Table) (r : Request) (q : ℕ) → q ≤ length b → Empty (pick (ltb q (length b)) (λ _. fault Limits.bytes_after q) (λ _. got r q)) (ninth t r q)
  unfolding ninth placed
  ends_empty t r q inside =
      pick_has (λ (x : Got Request). Empty x (ninth t r q)) (ltb q (length b)) _ _ (λ _ _ not. absurd (not refl)) λ f.
      let there : q ≡ length b = let least = ltb-false q (length b) f in omega (arith, inside, least) in
      next_is (list_at literals t.fluents Limits.most_guards u q) _ [] (q + 1) (rw there (no_guards t.fluents))
      ∙ pick_false _ _ _ (le-ltb (q + 1) (length u) (omega (arith, there, long)))

  request_empty : (t : Table) (p : ℕ) → p ≤ length b → (x : Got Request) → request_at lim Flags b t p ≡ x
      → Empty (next x λ r e. pick (ltb e (length b)) (λ _. fault Limits.bytes_after e) (λ _. got r e)) (next (request_at lim Flags u t p) λ r q. ninth t r q)
  unfolding next
  request_empty t p inside (got r q) read =
      let kept = kept_of b u (length b) room same p (request_at lim Flags b t p) (request_at lim Flags u t p) (request_kept b u (length b) room same lim t p) r q read in
      rw (kept.2 (kept.1 inside)) (ends_empty t r q (kept.1 inside))
  request_empty t p inside (fault n i) read = λ not-11 not-20.
      let kept = kept_fault b u (length b) room same p (request_at lim Flags b t p) (request_at lim Flags u t p) (request_kept b u (length b) room same lim t p) n i read in
      rw (kept inside (omega arith) not-11)

  table_empty : (x : Got Table) → table_at lim Flags b 0 ≡ x
      → Empty (next x λ t p. next (request_at lim Flags b t p) λ r e. pick (ltb e (length b)) (λ _. fault Limits.bytes_after e) (λ _. got r e)) (next (table_at lim Flags u 0) λ t p. next (request_at lim Flags u t p) λ r q. ninth t r q)
  unfolding next
  table_empty (got t p) read =
      let kept = kept_of b u (length b) room same 0 (table_at lim Flags b 0) (table_at lim Flags u 0) (table_kept b u (length b) room same lim 0) t p read in
      rw (kept.2 (kept.1 (omega arith))) (request_empty t p (kept.1 (omega arith)) (request_at lim Flags b t p) refl)
  table_empty (fault n i) read = λ not-11 not-20.
      let kept = kept_fault b u (length b) room same 0 (table_at lim Flags b 0) (table_at lim Flags u 0) (table_kept b u (length b) room same lim 0) n i read in
      rw (kept (omega arith) (omega arith) not-11)

  read_empty : Empty (read_request lim Flags b) (read_guarded lim u)
  unfolding read_request read_guarded ninth pick
  read_empty =
      rw (le-ltb lim.request (length b) (omega (arith, short)), le-ltb lim.request (length u) (omega (arith, short, long)))
      (table_empty (table_at lim Flags b 0) refl)

  -- SETTLED and judged.
  module _ (lent : List ℕ) (budget : ℕ) where
    abbrev Alike : Got Request → Got GuardedRequest → Type 0
    Alike x h = judge_got (walk_of lim) lent budget h ≡ judge_settled lim lent budget x

    refused_alike : (n : ℕ) (f : Found) (x : Got Request) (h : Got GuardedRequest) → Alike x h → Alike (refuse n f (λ _. x)) (refuse n f (λ _. h))
    unfolding refuse judge_got
    refused_alike n nowhere x h alike = alike
    refused_alike n (at p) x h alike = refl

    walked_alike : (r : Request) (e : ℕ) → Alike (got r e) (got (without r) (e + 1))
    unfolding judge_got walk_of
    walked_alike r e = ap (within lent budget) (walked_unguarded r (first_state lim r.table))

    by_read : (x : Got Request) (h : Got GuardedRequest) → Empty x h
        → ((judge_settled lim lent budget (next x λ r e. past_refusals r (got r e))).answer.number ≡ Limits.ends_too_soon → ⊥)
        → ((judge_settled lim lent budget (next x λ r e. past_refusals r (got r e))).answer.number ≡ Limits.bytes_after → ⊥)
        → Alike (next x λ r e. past_refusals r (got r e)) (next h λ g e. past_refusals g.request (got g e))
    unfolding next judge_got
    by_read (got r e) h is not-11 not-20 =
        rw is
        (refused_alike Limits.contradictory_effects (contradiction_in r.table) _ _
        (refused_alike Limits.effect_and_knowledge (mixed_in r.table.effects r.table.knowledge) _ _
        (refused_alike Limits.not_exclusive (overlap_in r.plan) (got r e) (got (without r) (e + 1)) (walked_alike r e))))
    by_read (fault n i) h is not-11 not-20 = rw (is not-11 not-20)

-- THE ANSWERS: with another number than 11 and 20 (and, the bytes being fewer than the limit, it is not 10).
module _ (lim : Limits) (b lent : List ℕ) (budget : ℕ) (short : length b < lim.request) where
  pub without_guards : (Judging.number lim b lent budget ≡ Limits.ends_too_soon → ⊥) → (Judging.number lim b lent budget ≡ Limits.bytes_after → ⊥)
      → judge_guarded lim (b ++ (0 ∷ [])) lent budget ≡ judge lim b lent budget
  unfolding judge judge_guarded settled settled_guarded
  without_guards not-11 not-20 =
      by-test (eqb (length lent) lim.state)
      (λ t.
      let plain = pick_true (eqb (length lent) lim.state) (λ _. judge_settled lim lent budget (settled lim b)) _ t in
      pick_true _ _ _ t
      ∙ by_read lim b short lent budget (read_request lim Flags b) (read_guarded lim (b ++ (0 ∷ []))) (read_empty lim b short)
      (λ q. not-11 (ap (λ (j : Judgement). j.answer.number) plain ∙ q)) (λ q. not-20 (ap (λ (j : Judgement). j.answer.number) plain ∙ q))
      ∙ sym plain)
      (λ f. pick_false _ _ _ f ∙ sym (pick_false _ _ _ f))

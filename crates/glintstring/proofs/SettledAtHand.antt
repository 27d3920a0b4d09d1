-- A settled request is at hand, with guards or without, and so is one with values: it was read from the start, into notes that held nothing, and 16 let it pass. Assumes nothing.
use Prim.Native.Nat.{ℕ}
use native.Mathlib.Omega.{arith}
use mathlib.Core.Path.{◌≡◌, refl, ◌∙◌, ap, subst}
use mathlib.Core.List.{List, []}
use lib.ListN.{length, get_or, set}
use mir.Syntax.{w8}
use mir.Val.{Fits}
use Rattle.std.specs.Prelude.{Ok}
use Rattle.parsing.specs.Read.{Passed}
use Rattle.meaning.specs.Limits.{format}
use Rattle.meaning.specs.Requests.{Request}
use Rattle.meaning.specs.Reading.{got, literals_in, read_request}
use Rattle.meaning.specs.Refusals.{nowhere, first_against, settled}
use Rattle.meaning.specs.Values.{contradictory}
use Rattle.meaning.specs.ValueStates as Value
use Rattle.meaning.specs.Valued.{settled_values, walk_of}
use Rattle.meaning.specs.States.{first_state}
use Rattle.meaning.specs.ByCases.{walked_by_cases}
use Rattle.meaning.specs.Guards.{GuardedRequest, settled_guarded}
use Rattle.meaning.proofs.SettledLaws.{got_same, refuse_got, next_got, Settled, settled_is}
use Rattle.meaning.proofs.GuardedReads.{guarded_past}
use Rattle.meaning.specs.declared.Form.TheVariants.{Flags, Valued}
use Rattle.reading.specs.Noted.{mode_slot, slots, noting, outcome}
use Rattle.reading.specs.Requested.{request_noted, guarded_noted}
use Rattle.reading.proofs.SectionLaws.{noting_got}
use Rattle.finding.specs.TablesHere.{blank, TableHere}
use Rattle.steps.specs.Held.{guards_in, request_in}
use Rattle.steps.specs.AtHand.{AtHand}
use Rattle.steps.specs.Steps.{mode_in, walk_held}
use Rattle.steps.proofs.ModeLaws.{held_cases, held_values}
use Rattle.steps.proofs.ModeHand.{table_mode, new_mode, same_request, same_guarded, hand_stays}
use Rattle.steps.proofs.JustRead.{plain_at_hand, plain_request, plain_table, plain_guards, guarded_at_hand, guarded_request, guarded_table, guarded_guards}

-- WITHOUT GUARDS.
module _ (s t u : List ℕ) (r : Passed) (settles : outcome r u ≡ noting (request_noted Flags) (settled format s) t) (e : ℕ) (passes : r ≡ Ok e) where
  pub settled_got : (x : Request) × (settled format s ≡ got x e) × (u ≡ request_noted Flags x t)
  settled_got = noting_got (request_noted Flags) (settled format s) r t u settles e passes

  module _ (bytes : (i : ℕ) → Fits w8 (get_or s i 0)) (empty : t ≡ blank) where
    past : Settled format s settled_got.0 e
    past = settled_is format s settled_got.0 e settled_got.1

    noted : u ≡ request_noted Flags settled_got.0 blank
    noted = settled_got.2 ∙ ap (request_noted Flags settled_got.0) empty

    pub settled_at_hand : AtHand Flags s u
    settled_at_hand = plain_at_hand Flags s (λ i. (bytes i).fits) u settled_got.0 e past.reads noted past.no_contradiction

    pub settled_held : request_in Flags s u ≡ settled_got.0
    settled_held = plain_request Flags s (λ i. (bytes i).fits) u settled_got.0 e past.reads noted

    pub settled_table : TableHere Flags s u
    settled_table = plain_table Flags s (λ i. (bytes i).fits) u settled_got.0 e past.reads noted

    pub settled_known : mode_in u ≡ 0
    settled_known = table_mode s u settled_table

    pub settled_sized : length u ≡ slots
    settled_sized = settled_table.sized

    pub settled_unguarded : guards_in s u ≡ []
    settled_unguarded = plain_guards Flags s (λ i. (bytes i).fits) u settled_got.0 e past.reads noted

-- WITH GUARDS.
module _ (s t u : List ℕ) (r : Passed) (settles : outcome r u ≡ noting guarded_noted (settled_guarded format s) t) (e : ℕ) (passes : r ≡ Ok e) where
  pub guarded_got : (g : GuardedRequest) × (settled_guarded format s ≡ got g e) × (u ≡ guarded_noted g t)
  guarded_got = noting_got guarded_noted (settled_guarded format s) r t u settles e passes

  module _ (bytes : (i : ℕ) → Fits w8 (get_or s i 0)) (empty : t ≡ blank) where
    noted_guarded : u ≡ guarded_noted guarded_got.0 blank
    noted_guarded = guarded_got.2 ∙ ap (guarded_noted guarded_got.0) empty

    pub guarded_hand : AtHand Flags s u
    guarded_hand =
        let read = guarded_past format s guarded_got.0 e guarded_got.1 in
        guarded_at_hand s (λ i. (bytes i).fits) u guarded_got.0 e read.0 noted_guarded read.1.no_contradiction

    pub guarded_held : request_in Flags s u ≡ guarded_got.0.request
    guarded_held = guarded_request s (λ i. (bytes i).fits) u guarded_got.0 e (guarded_past format s guarded_got.0 e guarded_got.1).0 noted_guarded

    pub guarded_known : mode_in u ≡ 0
    guarded_known = table_mode s u (guarded_table s (λ i. (bytes i).fits) u guarded_got.0 e (guarded_past format s guarded_got.0 e guarded_got.1).0 noted_guarded)

    pub guards_held : guards_in s u ≡ guarded_got.0.guards
    guards_held = guarded_guards s (λ i. (bytes i).fits) u guarded_got.0 e (guarded_past format s guarded_got.0 e guarded_got.1).0 noted_guarded

-- BY CASES it is the same request, with the mode put into the notes.
module _ (s t u : List ℕ) (r : Passed) (settles : outcome r u ≡ noting (request_noted Flags) (settled format s) t) (e : ℕ) (passes : r ≡ Ok e) (bytes : (i : ℕ) → Fits w8 (get_or s i 0)) (empty : t ≡ blank)
    (v : List ℕ) (put : v ≡ set u mode_slot 1) where
  pub cases_hand : AtHand Flags s v
  cases_hand = rw put (hand_stays Flags s u 1 (settled_at_hand s t u r settles e passes bytes empty))

  pub cases_walk : walk_held Flags s v ≡ walked_by_cases (settled_got s t u r settles e passes).0 (first_state format (settled_got s t u r settles e passes).0.table)
  unfolding request_in
  cases_walk =
      ap (walk_held Flags s) put
      ∙ held_cases s (set u mode_slot 1) (λ none. let one = new_mode Flags s u 1 (settled_sized s t u r settles e passes bytes empty) in omega (arith, none, one))
      (λ two. let one = new_mode Flags s u 1 (settled_sized s t u r settles e passes bytes empty) in omega (arith, two, one))
      (same_guarded Flags s u 1 ∙ settled_unguarded s t u r settles e passes bytes empty)
      ∙ ap (λ (x : Request). walked_by_cases x (first_state format x.table)) (same_request Flags s u 1 ∙ settled_held s t u r settles e passes bytes empty)

-- WITH VALUES, and the mode of such a walk put into the notes.
module _ (s t u : List ℕ) (r : Passed) (settles : outcome r u ≡ noting (request_noted Valued) (settled_values format s) t) (e : ℕ) (passes : r ≡ Ok e) where
  pub values_got : (x : Request) × (settled_values format s ≡ got x e) × (u ≡ request_noted Valued x t)
  values_got = noting_got (request_noted Valued) (settled_values format s) r t u settles e passes

  values_past : (read_request format Valued s ≡ got values_got.0 e) × (first_against (contradictory (literals_in s) values_got.0.table) [] values_got.0.table.effects ≡ nowhere)
  unfolding settled_values
  values_past =
      let n = next_got (read_request format Valued s) _ values_got.1 in
      let w = refuse_got _ _ _ n.3 in
      let last = refuse_got _ _ _ (refuse_got _ _ _ w.1).1 in
      let same : n.0 ≡ values_got.0 = got_same last.1 in
      (n.2 ∙ last.1, subst (λ (x : Request). first_against (contradictory (literals_in s) x.table) [] x.table.effects ≡ nowhere) same w.0)

  module _ (bytes : (i : ℕ) → Fits w8 (get_or s i 0)) (empty : t ≡ blank) (v : List ℕ) (put : v ≡ set u mode_slot 3) where
    noted_values : u ≡ request_noted Valued values_got.0 blank
    noted_values = values_got.2 ∙ ap (request_noted Valued values_got.0) empty

    pub values_hand : AtHand Valued s v
    values_hand = rw put (hand_stays Valued s u 3 (plain_at_hand Valued s (λ i. (bytes i).fits) u values_got.0 e values_past.0 noted_values values_past.1))

    pub values_walk : walk_held Valued s v ≡ walk_of format s values_got.0
    unfolding walk_of request_in
    values_walk =
        ap (walk_held Valued s) put
        ∙ held_values s (set u mode_slot 3)
        ∙ ap (λ (x : Request). Value.walked (literals_in s) x (Value.first_state (literals_in s) format x.table))
        (same_request Valued s u 3 ∙ plain_request Valued s (λ i. (bytes i).fits) u values_got.0 e values_past.0 noted_values)

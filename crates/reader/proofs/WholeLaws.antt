-- All eight sections from a place on, and a whole request, with guards or without: a law for each way that a reader returns. Assumes nothing.
use Prim.Native.Nat.{ℕ, ◌+◌, ◌≤◌, ◌<◌}
use native.Mathlib.Omega.{arith}
use mathlib.Core.Path.{◌≡◌, refl, sym, ◌∙◌, ap, subst}
use mathlib.Core.Bool.{Bool, true, false}
use mathlib.Core.List.{List}
use lib.ListN.{length, get_or, set}
use lib.Seq.{set-set}
use lib.Dec.{ltb}
use borrow.Author.Tests.{lt-ltb, le-ltb, ltb-false}
use Rattle.std.specs.Prelude.{Ok, Err}
use Rattle.parsing.specs.declared.faults.Fault.{Fault}
use Rattle.parsing.specs.declared.faults.Refusal.TheVariants.{TooLong, BytesAfter}
use Rattle.meaning.specs.Tests.{pick}
use Rattle.meaning.proofs.TestLaws.{pick_true, pick_false}
use Rattle.meaning.proofs.SettledLaws.{next_got, got_same}
use Rattle.meaning.specs.Limits.{format}
use Rattle.meaning.specs.Requests.{Table, Request}
use Rattle.meaning.specs.declared.Form.{Form}
use Rattle.meaning.specs.declared.Form.TheVariants.{Flags, Valued}
use Rattle.meaning.specs.Reading.{Got, got, fault, next, literals, fluents, count_at, list_at, literals_at, value_counts_at, past_values, section_at, effect_at, executability_at, knowledge_at, plan_at, placed, table_at, request_at, read_request}
use Rattle.meaning.specs.Guards.{GuardedRequest, read_guarded}
use Rattle.meaning.proofs.RangeLaws.{not_refused, after_got, count_within}
use Rattle.parsing.specs.declared.lists.Kind.TheVariants.{Literals}
use Rattle.parsing.specs.Masks.{Counted}
use Rattle.parsing.specs.Read.{Passed, over, passed, kind_of}
use Rattle.parsing.proofs.ListLaws.{passed_to, passed_stop}
use Rattle.reading.specs.Noted.{plan_slot, items_slot, goals_slot, guards_slot, table_noted, noting, outcome}
use Rattle.reading.specs.Requested.{Starts, plan_first, places_noted, tail_with, request_with, request_noted, guards_place, guarded_noted}
use Rattle.reading.proofs.SectionLaws.{count_got, noting_got, noting_fault}
use Rattle.reading.proofs.ValueSizes.{counts_far}
use Rattle.reading.proofs.PlanSizes.{list_through}
use Rattle.reading.proofs.RequestLaws.{table_counted, next_next, next_same, next_where, passed_outcome, placed_length, plan_whole}
use Rattle.reader.specs.Sections.{sections_as, sections_read, actions_place, up_to, guards_first}

-- THE SECTIONS. The two counts stand first.
pub record Front (form : Form) (s : List ℕ) (p : ℕ) (x : Table) : Type 0 where
  pub first : p < length s
  pub second : actions_place form p x.fluents < length s
  pub fluents_are : get_or s p 0 ≡ x.fluents
  pub actions_are : get_or s (actions_place form p x.fluents) 0 ≡ x.actions
  pub most : x.fluents ≤ format.fluents
  pub few : x.actions ≤ format.actions

-- Behind the fluents' count.
module _ (s : List ℕ) (p n q : ℕ) (en : count_at 1 format.fluents s p ≡ got n q) where
  pub behind_values : {A : Type 0} (form : Form) (k : ℕ → Got A) (x : A) (e : ℕ) → past_values form n s q k ≡ got x e → k (actions_place form p n) ≡ got x e
  behind_values Flags k x e is = subst (λ (i : ℕ). k i ≡ got x e) (sym (count_got 1 format.fluents s p n q en).2) is
  behind_values Valued k x e is =
      let w = next_got (value_counts_at n s q) _ is in
      subst (λ (i : ℕ). k i ≡ got x e) (counts_far n s q w.0 w.1 w.2 ∙ ap (λ (i : ℕ). i + n) (sym (count_got 1 format.fluents s p n q en).2)) w.3

pub front : (form : Form) (s : List ℕ) (p : ℕ) (x : Table) (e : ℕ) → table_at format form s p ≡ got x e → Front form s p x
unfolding table_at
front form s p x e is =
    after_got (count_at 1 format.fluents s p) _ is λ n q en e₁.
    after_got (count_at 1 format.actions s (actions_place form p n)) _ (behind_values s p n q en form _ x e e₁) λ m r em e₂.
    after_got (literals_at form n format.listed s r) _ e₂ λ facts i _ e₃.
    after_got (section_at (effect_at format form n m s) s i) _ e₃ λ es j _ e₄.
    after_got (section_at (executability_at format form n m s) s j) _ e₄ λ xs k _ e₅.
    after_got (section_at (knowledge_at format n m s) s k) _ e₅ λ ks l _ e₆.
    let same = got_same e₆ in
    let fluents = ap (λ (y : Table). y.fluents) same in
    let first = count_got 1 format.fluents s p n q en in
    let then = count_got 1 format.actions s (actions_place form p n) m r em in
    record {
      first = first.0;
      second = subst (λ (y : ℕ). actions_place form p y < length s) fluents then.0;
      fluents_are = first.1 ∙ fluents;
      actions_are = ap (λ (y : ℕ). get_or s (actions_place form p y) 0) (sym fluents) ∙ then.1 ∙ ap (λ (y : Table). y.actions) same;
      most = subst (λ (y : ℕ). y ≤ format.fluents) fluents (count_within 1 format.fluents s p n q en);
      few = subst (λ (y : ℕ). y ≤ format.actions) (ap (λ (y : Table). y.actions) same) (count_within 1 format.actions s (actions_place form p n) m r em);
    }

module _ (form : Form) (s : List ℕ) (p : ℕ) (t u : List ℕ) (first : Passed) (read : outcome first u ≡ noting table_noted (table_at format form s p) t) where
  pub sections_fault : (why : Fault) (v : List ℕ) → first ≡ Err why → outcome (Err why) v ≡ noting (request_noted form) (sections_as form s p) t
  unfolding sections_as noting next outcome
  sections_fault why v is = rw (noting_fault table_noted (table_at format form s p) first t u read why is)

  module _ (q : ℕ) (is : first ≡ Ok q) where
    table_got : (x : Table) × (table_at format form s p ≡ got x q) × (u ≡ table_noted x t)
    table_got = noting_got table_noted (table_at format form s p) first t u read q is

    stands_first : Front form s p table_got.0
    stands_first = front form s p table_got.0 q table_got.1

    pub first_there : p < length s
    first_there = stands_first.first

    pub place_small : length s ≤ format.request → p < 65536
    place_small h = let a = stands_first.first in omega arith

    pub second_there : (n r : ℕ) → n ≡ get_or s p 0 → r ≡ actions_place form p n → r < length s
    second_there n r e is = subst (λ (i : ℕ). i < length s) (sym (is ∙ ap (actions_place form p) (e ∙ stands_first.fluents_are))) stands_first.second

    pub fluents_small : (n : ℕ) → n ≡ get_or s p 0 → n < 65536
    fluents_small n e = let a = stands_first.fluents_are in let b = stands_first.most in omega arith

    pub sections_counted : Starts form p → Counted form s
    sections_counted starts = table_counted form s p table_got.0 q starts table_got.1

    pub fluents_most : (n : ℕ) → n ≡ get_or s p 0 → n ≤ format.fluents
    fluents_most n e = let a = stands_first.fluents_are in let b = stands_first.most in omega arith

    pub sections_there : (n at m : ℕ) (r : Passed) (w : List ℕ) → n ≡ get_or s p 0 → at ≡ actions_place form p n → m ≡ get_or s at 0 → outcome r w ≡ plan_first form n m s q u → outcome r w ≡ noting (request_noted form) (sections_as form s p) t
    unfolding sections_as next
    sections_there n at m r w en ea em e =
        let x = table_got.0 in
        let same : plan_first form n m s q u ≡ plan_first form x.fluents x.actions s q (table_noted x t) =
        ap (λ (y : ℕ). plan_first form y m s q u) (en ∙ stands_first.fluents_are)
        ∙ ap (λ (y : ℕ). plan_first form x.fluents y s q u) (em ∙ ap (λ (i : ℕ). get_or s i 0) (ea ∙ ap (actions_place form p) (en ∙ stands_first.fluents_are)) ∙ stands_first.actions_are)
        ∙ ap (plan_first form x.fluents x.actions s q) table_got.2 in
        rw table_got.1 (e ∙ same ∙ plan_whole form s x q t)

-- NOTHING AFTER.
module _ (s : List ℕ) (e : ℕ) where
  pub more_after : (why : Fault) → e < length s → why ≡ record { refusal = BytesAfter; place = e } → over (Err why) ≡ passed (up_to s e)
  unfolding up_to pick passed
  more_after why h is = rw (is, lt-ltb e (length s) h)

  pub none_after : length s ≤ e → over (Ok e) ≡ passed (up_to s e)
  unfolding up_to pick passed
  none_after h = rw (le-ltb e (length s) h)

-- What was read is noted where nothing stands after it.
module _ {A : Type 0} (note : A → List ℕ → List ℕ) (y : A) (e : ℕ) (t : List ℕ) where
  ended : (b : Bool) → noting note (pick b (λ _. fault 20 e) (λ _. got y e)) t ≡ next (pick b (λ _. fault 20 e) (λ _. got (tt {0}) e)) (λ _ i. got (note y t) i)
  unfolding noting next pick
  ended true = refl
  ended false = refl

-- THE GUARDS.
places_again : (plan items goals a b : ℕ) (t : List ℕ) → set (places_noted plan items goals a t) guards_slot b ≡ places_noted plan items goals b t
unfolding places_noted
places_again plan items goals a b t = set-set (set (set (set t plan_slot plan) items_slot items) goals_slot goals) guards_slot a b

module _ (s : List ℕ) (n q : ℕ) (is : n ≡ get_or s 0 0) (t : List ℕ) (guards : Passed) (read : over guards ≡ passed (list_at (kind_of Literals) n 64 s q)) where
  list_read : over guards ≡ passed (list_at literals (get_or s 0 0) 64 s q)
  unfolding kind_of
  list_read = read ∙ ap (λ (i : ℕ). passed (list_at literals i 64 s q)) is

  pub guards_fault : (why : Fault) (v : List ℕ) → guards ≡ Err why → outcome (Err why) v ≡ guards_first s q t
  unfolding guards_first next outcome
  guards_fault why v stops = rw (passed_stop (list_at literals (get_or s 0 0) 64 s q) why (sym list_read ∙ ap over stops))

  pub guards_there : (e : ℕ) (r : Passed) (u : List ℕ) → guards ≡ Ok e → u ≡ set t guards_slot q → over r ≡ passed (up_to s e) → outcome r u ≡ guards_first s q t
  unfolding guards_first next
  guards_there e r u goes noted ends =
      rw (passed_to (list_at literals (get_or s 0 0) 64 s q) e (sym list_read ∙ ap over goes)).1
      (passed_outcome (up_to s e) r u ends ∙ ap (λ (v : List ℕ). next (up_to s e) (λ _ i. got v i)) noted)

-- WHAT WAS READ of all eight sections: the table from the start, and the rest behind it, up to where guards stand if there are any.
record Behind (s : List ℕ) (x : Table) (y : Request) (q : ℕ) : Type 0 where
  pub table : y.table ≡ x
  pub ends : q ≡ guards_place y
  pub inside : q ≤ length s

behind : (form : Form) (s : List ℕ) (x : Table) (p : ℕ) (y : Request) (q : ℕ) → request_at format form s x p ≡ got y q → Behind s x y q
unfolding request_at guards_place
behind form s x p y q is =
    after_got (plan_at format form x.fluents x.actions s p) _ is λ plan i _ e₁.
    after_got (literals_at form x.fluents format.listed s i) _ e₁ λ goals j _ e₂.
    after_got (list_at fluents x.fluents format.listed s j) _ e₂ λ whether k e e₃.
    let through = (list_through s fluents x.fluents format.listed j).holds whether k e in
    subst on e₃ (record { table = refl; ends = rw (placed_length (j + 1) whether) through.after; inside = through.inside })
  where
    on : Got Request → Type 0
    on (got z i) = Behind s x z i
    on (fault n i) = Unit {0}

pub record Parts (form : Form) (s : List ℕ) (x : Request) (e : ℕ) : Type 0 where
  pub place : ℕ
  pub table_read : table_at format form s 0 ≡ got x.table place
  pub tail_read : request_at format form s x.table place ≡ got x e
  pub ends : e ≡ guards_place x
  pub inside : e ≤ length s

pub parts : (form : Form) (s : List ℕ) (x : Request) (e : ℕ) → sections_as form s 0 ≡ got x e → Parts form s x e
unfolding sections_as
parts form s x e is =
    after_got (table_at format form s 0) _ is λ t p et e₁.
    let so = behind form s t p x e e₁ in
    record {
      place = p;
      table_read = et ∙ ap (λ (z : Table). got z p) (sym so.table);
      tail_read = ap (λ (z : Table). request_at format form s z p) so.table ∙ e₁;
      ends = so.ends;
      inside = so.inside;
    }

-- A REQUEST, with guards or without. Within the limit the eight sections are read first.
module _ (form : Form) (s : List ℕ) where
  abbrev limited : {A : Type 0} → (Table → Request → ℕ → Got A) → Got A
  limited k = pick (ltb format.request (length s)) (λ _. fault 10 0) λ _. next (table_at format form s 0) λ x p. next (request_at format form s x p) λ r e. k x r e

  module _ {A : Type 0} (k : Table → Request → ℕ → Got A) where
    beyond_limit : format.request < length s → limited k ≡ fault 10 0
    beyond_limit h = pick_true _ _ _ (lt-ltb _ _ h)

    within_limit : length s ≤ format.request → limited k ≡ next (sections_as form s 0) (λ r e. k r.table r e)
    unfolding sections_as
    within_limit room =
        pick_false _ _ _ (le-ltb _ _ room)
        ∙ next_same (table_at format form s 0) (λ x p. next_where (request_at format form s x p) (λ r e is. ap (λ (z : Table). k z r e) (sym (behind form s x p r e is).table)))
        ∙ sym (next_next (table_at format form s 0) _ _)

  -- What was read of the sections, and where guards can be read.
  module _ (room : length s ≤ format.request) (t u : List ℕ) (all : Passed) (read : outcome all u ≡ noting (request_noted form) (sections_as form s 0) t) (e : ℕ) (is : all ≡ Ok e) where
    all_got : (x : Request) × (sections_as form s 0 ≡ got x e) × (u ≡ request_noted form x t)
    all_got = noting_got (request_noted form) (sections_as form s 0) all t u read e is

    there : Parts form s all_got.0 e
    there = parts form s all_got.0 e all_got.1

    first_two : Front form s 0 all_got.0.table
    first_two = front form s 0 all_got.0.table there.place there.table_read

    pub sections_fit : e < 65536
    sections_fit = let h = there.inside in omega arith

    pub first_in : 0 < length s
    first_in = first_two.first

    pub first_most : get_or s 0 0 ≤ format.fluents
    first_most = rw first_two.fluents_are first_two.most

  -- WITHOUT GUARDS nothing is left to read behind them.
  abbrev rest_plain : Request → ℕ → Got Request
  rest_plain r e = pick (ltb e (length s)) (λ _. fault 20 e) (λ _. got r e)

  module _ (t u : List ℕ) where
    pub request_long : (why : Fault) → format.request < length s → why ≡ record { refusal = TooLong; place = 0 } → outcome (Err why) u ≡ noting (request_noted form) (read_request format form s) t
    unfolding read_request outcome noting next
    request_long why h is = rw (is, beyond_limit (λ _. rest_plain) h)

  module _ (room : length s ≤ format.request) where
    plain_within : read_request format form s ≡ next (sections_as form s 0) rest_plain
    unfolding read_request
    plain_within = within_limit (λ _. rest_plain) room

    module _ (t u : List ℕ) (all : Passed) (read : outcome all u ≡ noting (request_noted form) (sections_as form s 0) t) where
      pub request_fault : (why : Fault) (v : List ℕ) → all ≡ Err why → outcome (Err why) v ≡ noting (request_noted form) (read_request format form s) t
      unfolding noting next outcome
      request_fault why v is = rw (plain_within, noting_fault (request_noted form) (sections_as form s 0) all t u read why is)

      pub request_there : (e : ℕ) (r : Passed) → all ≡ Ok e → over r ≡ passed (up_to s e) → outcome r u ≡ noting (request_noted form) (read_request format form s) t
      unfolding noting next up_to
      request_there e r is h =
          let got-it = all_got room t u all read e is in
          passed_outcome (up_to s e) r u h
          ∙ rw (plain_within, got-it.1) (ap (λ (v : List ℕ). next (up_to s e) (λ _ i. got v i)) got-it.2 ∙ sym (ended (request_noted form) got-it.0 e t (ltb e (length s))))

-- WITH GUARDS there is a list behind them. Only requests of flags have guards.
module _ (s : List ℕ) where
  abbrev rest_guarded : (n : ℕ) → Request → ℕ → Got GuardedRequest
  rest_guarded n r q = next (list_at literals n 64 s q) λ guards e. pick (ltb e (length s)) (λ _. fault 20 e) (λ _. got (record { request = r; guards = placed (q + 1) guards }) e)

  module _ (t u : List ℕ) where
    pub guarded_long : (why : Fault) → format.request < length s → why ≡ record { refusal = TooLong; place = 0 } → outcome (Err why) u ≡ noting guarded_noted (read_guarded format s) t
    unfolding read_guarded outcome noting next
    guarded_long why h is = rw (is, beyond_limit Flags s (λ x. rest_guarded x.fluents) h)

  module _ (room : length s ≤ format.request) where
    guarded_within : read_guarded format s ≡ next (sections_read s 0) (λ r q. rest_guarded r.table.fluents r q)
    unfolding read_guarded
    guarded_within = within_limit Flags s (λ x. rest_guarded x.fluents) room

    module _ (t u : List ℕ) (all : Passed) (read : outcome all u ≡ noting (request_noted Flags) (sections_read s 0) t) where
      pub guarded_fault : (why : Fault) (v : List ℕ) → all ≡ Err why → outcome (Err why) v ≡ noting guarded_noted (read_guarded format s) t
      unfolding noting next outcome
      guarded_fault why v is = rw (guarded_within, noting_fault (request_noted Flags) (sections_read s 0) all t u read why is)

      module _ (e : ℕ) (is : all ≡ Ok e) where
        abbrev x : Request
        x = (all_got Flags s room t u all read e is).0

        guards_set : set u guards_slot e ≡ request_with Flags (guards_place x) x t
        unfolding request_with tail_with
        guards_set = ap (λ (v : List ℕ). set v guards_slot e) (all_got Flags s room t u all read e is).2 ∙ places_again _ _ _ 0 e _ ∙ ap (λ (g : ℕ). request_with Flags g x t) (there Flags s room t u all read e is).ends

        pub guarded_there : (r : Passed) (w : List ℕ) → outcome r w ≡ guards_first s e u → outcome r w ≡ noting guarded_noted (read_guarded format s) t
        unfolding guards_first noting next up_to guarded_noted
        guarded_there r w h =
            h
            ∙ rw (guarded_within, (all_got Flags s room t u all read e is).1, (first_two Flags s room t u all read e is).fluents_are)
            (next_same (list_at literals x.table.fluents 64 s e) (λ guards i.
            ap (λ (v : List ℕ). next (up_to s i) (λ _ j. got v j)) guards_set
            ∙ sym (ended guarded_noted (record { request = x; guards = placed (e + 1) guards }) i t (ltb i (length s))))
            ∙ sym (next_next (list_at literals x.table.fluents 64 s e) _ _))

-- WHAT WAS READ of a whole request, without guards and with them.
module _ (s : List ℕ) where
  pub plain_read : (form : Form) (x : Request) (e : ℕ) → read_request format form s ≡ got x e → (length s ≤ format.request) × (sections_as form s 0 ≡ got x e)
  unfolding read_request
  plain_read form x e is =
      let short = ltb-false _ _ (not_refused _ _ _ _ is).0 in
      after_got (sections_as form s 0) _ (sym (plain_within form s short) ∙ is) λ r q reads e₁. (short, reads ∙ (not_refused _ _ _ _ e₁).1)

  pub record GuardsRead (g : GuardedRequest) (e : ℕ) : Type 0 where
    pub short : length s ≤ format.request
    pub reads : sections_read s 0 ≡ got g.request (guards_place g.request)
    pub literals_read : List ℕ
    pub guards : list_at literals g.request.table.fluents 64 s (guards_place g.request) ≡ got literals_read e
    pub guards_are : g.guards ≡ placed (guards_place g.request + 1) literals_read

  pub guarded_read : (g : GuardedRequest) (e : ℕ) → read_guarded format s ≡ got g e → GuardsRead g e
  unfolding read_guarded
  guarded_read g e is =
      let short = ltb-false _ _ (not_refused _ _ _ _ is).0 in
      after_got (sections_read s 0) _ (sym (guarded_within s short) ∙ is) λ r q reads e₁.
      after_got (list_at literals r.table.fluents 64 s q) _ e₁ λ xs i el e₂.
      let at = (parts Flags s r q reads).ends in
      subst on (not_refused _ _ _ _ e₂).1 (record {
        short = short;
        reads = reads ∙ ap (got r) at;
        literals_read = xs;
        guards = ap (list_at literals r.table.fluents 64 s) (sym at) ∙ el;
        guards_are = ap (λ (p : ℕ). placed (p + 1) xs) at;
      })
    where
      on : Got GuardedRequest → Type 0
      on (got h i) = GuardsRead h i
      on (fault n i) = Unit {0}

-- BY THE FORM.
abbrev is_valued : Form → Type 0
is_valued Flags = ⊥
is_valued Valued = Unit {0}

pub flags_start : (p : ℕ) → Starts Flags p
unfolding Starts
flags_start p e = absurd (subst is_valued (sym e) tt)

pub at_the_start : (form : Form) → Starts form 0
unfolding Starts
at_the_start form e = refl

pub reader_starts : (form : Form) (at : ℕ) → at ≡ 0 → Starts form at
unfolding Starts
reader_starts form at is e = is

-- Sections 3 to 5: what stands where a line was read, and how the loop over a section's lines goes on. Assumes nothing.
use Prim.Native.Nat.{ℕ, zero, suc, ◌+◌, ◌-◌, ◌*◌, ◌≤◌, ◌<◌}
use native.Mathlib.Omega.{arith}
use mathlib.Core.Path.{◌≡◌, refl, sym, ◌∙◌, ap, subst}
use mathlib.Core.List.{List, ◌∷◌}
use mathlib.Core.Logic.{◌⊎◌, inl, inr, ⊎_elim}
use lib.ListN.{length, get_or, set, replicate}
use mir.Syntax.{w64}
use mir.Val.{Fits}
use borrow.Author.Tests.{leb-false}
use Rattle.std.specs.Prelude.{Ok, Err}
use Rattle.parsing.specs.declared.faults.Fault.{Fault}
use Rattle.parsing.specs.declared.faults.Refusal.TheVariants.{EndsTooSoon}
use Rattle.meaning.specs.Limits.{format}
use Rattle.meaning.specs.Requests.{Effect, Executability, Knowledge}
use Rattle.meaning.specs.declared.Form.{Form}
use Rattle.meaning.specs.declared.Form.TheVariants.{Flags, Valued}
use Rattle.meaning.specs.Reading.{Got, got, fault, next, byte_at, count_at, below_at, list_at, body_at, effect_at, executability_at, knowledge_at, repeated, section_at, literal_at, literals_at, value_list_at, set_value_at, value_at}
use Rattle.meaning.proofs.SettledLaws.{got_same, next_got, fault≢got}
use Rattle.meaning.proofs.RangeLaws.{not_refused, after_got, repeated_length}
pub use Rattle.meaning.proofs.RangeLaws.{got_place, byte_got}
use Rattle.parsing.specs.Read.{Numbered, Passed, numbered, stopped, effect_read, executability_read, knowledge_read}
use Rattle.parsing.proofs.ByteLaws.{byte_none, byte_is}
use Rattle.reading.specs.Noted.{Section, effects, executability, knowledge, Line, line_at, line_read, line_noted, action_in, note_line, none_yet, lines_noted, count_slot, section_noted, three_sections, noting, outcome, slots}

-- WHAT STANDS where something was read.
pub number_got : (bound : ℕ) (s : List ℕ) (p x q : ℕ) → below_at bound s p ≡ got x q → (p < length s) × (get_or s p 0 ≡ x) × (p + 1 ≡ q) × (x < bound)
unfolding below_at
number_got bound s p x q e =
    after_got (byte_at s p) _ e λ d i ed e'.
    let u = not_refused _ _ _ _ e' in
    let w = byte_got s p d i ed in
    (w.0, w.1 ∙ got_same u.1, w.2 ∙ got_place u.1, subst (λ (y : ℕ). y < bound) (got_same u.1) (leb-false bound d u.0))

pub count_got : (least most : ℕ) (s : List ℕ) (p c q : ℕ) → count_at least most s p ≡ got c q → (p < length s) × (get_or s p 0 ≡ c) × (p + 1 ≡ q)
unfolding count_at
count_got least most s p c q e =
    after_got (byte_at s p) _ e λ d i ed e'.
    let u = not_refused _ _ _ _ e' in
    let w = byte_got s p d i ed in
    (w.0, w.1 ∙ got_same u.1, w.2 ∙ got_place u.1)

-- A fault before anything was built.
module _ {A B : Type 0} where
  pub fault_turned : {n i k q : ℕ} → ◌≡◌ {A = Got A} (fault n i) (fault k q) → ◌≡◌ {A = Got B} (fault n i) (fault k q)
  fault_turned e = ap turned e
    where
      turned : Got A → Got B
      turned (got x p) = fault 0 0
      turned (fault j p) = fault j p

module _ {A B : Type 0} where
  pub fault_first : (g : Got A) (build : A → B) (k q : ℕ) → next g (λ x p. got (build x) p) ≡ fault k q → g ≡ fault k q
  unfolding next
  fault_first (got x p) build k q e = absurd (fault≢got (sym e))
  fault_first (fault i p) build k q e = fault_turned e

-- What was read of something with a number.
module _ {A : Type 0} (number : A → ℕ) where
  got_by : (g : Got A) (a q : ℕ) → next g (λ x p. got (number x) p) ≡ got a q → (x : A) × (g ≡ got x q) × (number x ≡ a)
  got_by g a q e = let w = next_got g _ e in (w.0, w.2 ∙ ap (got w.0) (got_place w.3), got_same w.3)

-- A line of action a at place p, as what is noted of it.
record Stands (c : Section) (n m : ℕ) (s : List ℕ) (p a : ℕ) (l : Line c) : Type 0 where
  second : p + 1 < length s
  acts : a < m
  senses : c ≡ knowledge → get_or s (p + 1) 0 < n
  is_of : action_in c l ≡ a
  notes : (last k : ℕ) (t : List ℕ) → note_line c last k l t ≡ line_noted c last k p a (get_or s (p + 1) 0) t

senses_not : {c : Section} {X : Type 0} → (c ≡ effects) ⊎ (c ≡ executability) → c ≡ knowledge → X
senses_not {X = X} h e = ⊎_elim (λ f. absurd (subst Other (sym e ∙ f) tt)) (λ f. absurd (subst Other (sym e ∙ f) tt)) h
  where
    Other : Section → Type 0
    Other effects = ⊥
    Other executability = ⊥
    Other knowledge = Unit {0}

-- A byte stands where a literal was read, and where a list was.
literal_there : (form : Form) (n : ℕ) (s : List ℕ) (p l q : ℕ) → literal_at form n s p ≡ got l q → p < length s
unfolding set_value_at value_at
literal_there Flags n s p l q e = (number_got (2 * n) s p l q e).0
literal_there Valued n s p l q e =
    after_got (value_at n s p) _ e λ x i ex _.
    after_got (below_at n s p) _ ex λ f j ef _.
    (number_got n s p f j ef).0

literals_there : (form : Form) (n most : ℕ) (s : List ℕ) (p : ℕ) (xs : List ℕ) (q : ℕ) → literals_at form n most s p ≡ got xs q → p < length s
unfolding list_at value_list_at
literals_there Flags n most s p xs q e = after_got (count_at 0 most s p) _ e λ c i ec _. (count_got 0 most s p c i ec).0
literals_there Valued n most s p xs q e = after_got (count_at 0 most s p) _ e λ c i ec _. (count_got 0 most s p c i ec).0

module _ (form : Form) (n m : ℕ) (s : List ℕ) where
  effect_stands : (p a q : ℕ) (x : Effect) → effect_at format form n m s p ≡ got x q → x.action ≡ a → Stands effects n m s p a x
  unfolding effect_at action_in note_line line_noted
  effect_stands p a q x e same =
      after_got (below_at m s p) _ e λ b i eb e'.
      after_got (literal_at form n s i) _ e' λ l j el e''.
      after_got (body_at format form n s j) _ e'' λ bs r _ e'''.
      let is : record { place = p; action = b; literal = l; body = bs } ≡ x = got_same e''' in
      let first = number_got m s p b i eb in
      let then = literal_there form n s i l j el in
      let acts : b ≡ a = ap (λ (y : Effect). y.action) is ∙ same in
      record {
        second = subst (λ (y : ℕ). y < length s) (sym first.2) then;
        acts = subst (λ (y : ℕ). y < m) acts first.3;
        senses = senses_not (inl refl);
        is_of = same;
        notes = λ last k t. rw (sym (ap (λ (y : Effect). y.place) is), same);
      }

  executability_stands : (p a q : ℕ) (x : Executability) → executability_at format form n m s p ≡ got x q → x.action ≡ a → Stands executability n m s p a x
  unfolding executability_at action_in note_line line_noted body_at
  executability_stands p a q x e same =
      after_got (below_at m s p) _ e λ b i eb e'.
      after_got (body_at format form n s i) _ e' λ bs r ebs e''.
      let is : record { place = p; action = b; body = bs } ≡ x = got_same e'' in
      let first = number_got m s p b i eb in
      let acts : b ≡ a = ap (λ (y : Executability). y.action) is ∙ same in
      record {
        second = subst (λ (y : ℕ). y < length s) (sym first.2) (literals_there form n format.body s i bs r ebs);
        acts = subst (λ (y : ℕ). y < m) acts first.3;
        senses = senses_not (inr refl);
        is_of = same;
        notes = λ last k t. rw (sym (ap (λ (y : Executability). y.place) is), same);
      }

  knowledge_stands : (p a q : ℕ) (x : Knowledge) → knowledge_at format n m s p ≡ got x q → x.action ≡ a → Stands knowledge n m s p a x
  unfolding knowledge_at action_in note_line line_noted
  knowledge_stands p a q x e same =
      after_got (below_at m s p) _ e λ b i eb e'.
      after_got (below_at n s i) _ e' λ f j ef e''.
      let is : record { place = p; action = b; fluent = f } ≡ x = got_same e'' in
      let first = number_got m s p b i eb in
      let then = number_got n s i f j ef in
      let acts : b ≡ a = ap (λ (y : Knowledge). y.action) is ∙ same in
      let senses : get_or s (p + 1) 0 ≡ f = ap (λ (y : ℕ). get_or s y 0) first.2 ∙ then.1 in
      record {
        second = subst (λ (y : ℕ). y < length s) (sym first.2) then.0;
        acts = subst (λ (y : ℕ). y < m) acts first.3;
        senses = λ _. subst (λ (y : ℕ). y < n) (sym senses) then.3;
        is_of = same;
        notes = λ last k t. rw (sym (ap (λ (y : Knowledge). y.fluent) is), same, senses);
      }

  stands : (c : Section) (p a q : ℕ) → line_read c (line_at form c n m s p) ≡ got a q → (l : Line c) × (line_at form c n m s p ≡ got l q) × Stands c n m s p a l
  unfolding line_read line_at effect_read executability_read knowledge_read
  stands effects p a q e =
      let w = got_by (λ (x : Effect). x.action) (effect_at format form n m s p) a q e in
      (w.0, w.1, effect_stands p a q w.0 w.1 w.2)
  stands executability p a q e =
      let w = got_by (λ (x : Executability). x.action) (executability_at format form n m s p) a q e in
      (w.0, w.1, executability_stands p a q w.0 w.1 w.2)
  stands knowledge p a q e =
      let w = got_by (λ (x : Knowledge). x.action) (knowledge_at format n m s p) a q e in
      (w.0, w.1, knowledge_stands p a q w.0 w.1 w.2)

  stops : (c : Section) (p : ℕ) {k q : ℕ} → line_read c (line_at form c n m s p) ≡ fault k q → line_at form c n m s p ≡ fault k q
  unfolding line_read line_at effect_read executability_read knowledge_read
  stops effects p e = fault_first (effect_at format form n m s p) (λ (x : Effect). x.action) _ _ e
  stops executability p e = fault_first (executability_at format form n m s p) (λ (x : Executability). x.action) _ _ e
  stops knowledge p e = fault_first (knowledge_at format n m s p) (λ (x : Knowledge). x.action) _ _ e

-- THE LOOP. What is noted of a given number of lines from place p on, the first of which has number k + 1.
module _ (c : Section) where
  one_more : (k : ℕ) (last : List ℕ) (x : Line c) (g : Got (List (Line c))) (t : List ℕ)
      → noting (lines_noted c k last) (next g (λ rest r. got (x ∷ rest) r)) t ≡ noting (lines_noted c (k + 1) (set last (action_in c x) (k + 1))) g (note_line c (get_or last (action_in c x) 0) (k + 1) x t)
  unfolding noting next lines_noted
  one_more k last x (got xs p) t = refl
  one_more k last x (fault n p) t = refl

module _ (form : Form) (c : Section) (n m : ℕ) (s : List ℕ) where
  -- What is noted of a given number of lines from place p on, when k are noted and `last` has the last of each action.
  abbrev pub From : (left p k : ℕ) → (last t : List ℕ) → Got (List ℕ)
  From left p k last t = noting (lines_noted c k last) (repeated (line_at form c n m s) left p) t

  module _ (whole : Got (List ℕ)) (count p k : ℕ) (last t : List ℕ) (so_far : whole ≡ From (count - k) p k last t) where
    pub lines_done : count ≤ k → outcome (Ok p) t ≡ whole
    unfolding outcome noting next repeated lines_noted
    lines_done h = let none : count - k ≡ zero = omega arith in sym (so_far ∙ rw none)

    module _ (r : Numbered) (k<count : k < count) (read : numbered r ≡ line_read c (line_at form c n m s p)) where
      left_is : count - k ≡ suc (count - (k + 1))
      left_is = omega arith

      pub lines_fault : (why : Fault) → r ≡ Err why → outcome (Err why) t ≡ whole
      unfolding outcome noting next repeated
      lines_fault why is = sym (so_far ∙ rw (left_is, stops form n m s c p (sym read ∙ ap numbered is)))

      module _ (a e : ℕ) (is : r ≡ Ok (a, e)) where
        stood : (l : Line c) × (line_at form c n m s p ≡ got l e) × Stands c n m s p a l
        stood = stands form n m s c p a e (sym read ∙ ap numbered is)

        pub lines_next : (f : ℕ) (u : List ℕ) → f ≡ get_or s (p + 1) 0 → u ≡ line_noted c (get_or last a 0) (k + 1) p a f t → whole ≡ From (count - (k + 1)) e (k + 1) (set last a (k + 1)) u
        unfolding repeated next
        lines_next f u ef eu =
            so_far ∙ rw (left_is, stood.1) (
            one_more c k last stood.0 (repeated (line_at form c n m s) (count - (k + 1)) e) t
            ∙ rw stood.2.is_of (ap (From (count - (k + 1)) e (k + 1) (set last a (k + 1))) (stood.2.notes (get_or last a 0) (k + 1) t ∙ ap (λ (g : ℕ). line_noted c (get_or last a 0) (k + 1) p a g t) (sym ef) ∙ sym eu))
            )

  -- Room for what is noted of a line.
  module _ (p a e : ℕ) (r : Numbered) (read : numbered r ≡ line_read c (line_at form c n m s p)) (is : r ≡ Ok (a, e)) where
    here : Stands c n m s p a (stands form n m s c p a e (sym read ∙ ap numbered is)).0
    here = (stands form n m s c p a e (sym read ∙ ap numbered is)).2

    pub second_there : p + 1 < length s
    second_there = here.second

    pub second_fits : length s ≤ format.request → Fits w64 (p + 1)
    second_fits h = let there = second_there in omega arith

    pub place_fits : length s ≤ format.request → p < 65536
    place_fits h = let there = second_there in omega arith

    pub action_fits : m ≤ format.actions → a < format.actions
    action_fits h = let there = here.acts in omega arith

    pub fluent_fits : (f : ℕ) → n ≤ format.fluents → f ≡ get_or s (p + 1) 0 → c ≡ knowledge → f < format.fluents
    fluent_fits f h ef ec = let there = here.senses ec in omega arith

  -- THE COUNT BYTE.
  counted : (left p : ℕ) (t : List ℕ) (slot : ℕ) (g : Got (List (Line c))) → repeated (line_at form c n m s) left p ≡ g
      → noting (lines_noted c 0 none_yet) g (set t slot left) ≡ noting (λ (xs : List (Line c)) (u : List ℕ). lines_noted c 0 none_yet xs (set u slot (length xs))) g t
  unfolding noting next
  counted left p t slot (got xs q) e = rw (repeated_length (line_at form c n m s) left p xs q e)
  counted left p t slot (fault k q) e = refl

  pub section_none : (p : ℕ) (t u : List ℕ) (why : Fault) → length s ≤ p → why ≡ record { refusal = EndsTooSoon; place = length s } → outcome (Err why) u ≡ noting (section_noted c) (section_at (line_at form c n m s) s p) t
  unfolding section_at outcome noting next
  section_none p t u why h e = rw (e, byte_none s p h)

  pub section_starts : (p count slot : ℕ) (t u : List ℕ) → p < length s → count ≡ get_or s p 0 → slot ≡ count_slot c → u ≡ set t slot count
      → noting (section_noted c) (section_at (line_at form c n m s) s p) t ≡ From (count - 0) (p + 1) 0 (replicate format.actions 0) u
  unfolding section_at section_noted next none_yet
  section_starts p count slot t u h is at_slot put =
      let all : count ≡ count - 0 = omega arith in
      rw (byte_is s p h, sym is) (
      sym (counted count (p + 1) t (count_slot c) _ refl)
      ∙ ap (From count (p + 1) 0 none_yet) (ap (λ (i : ℕ). set t i count) (sym at_slot) ∙ sym put)
      ∙ ap (λ (left : ℕ). From left (p + 1) 0 none_yet u) all
      )

slot_most : (c : Section) → count_slot c < slots
unfolding count_slot
slot_most effects = omega arith
slot_most executability = omega arith
slot_most knowledge = omega arith

pub slot_there : (c : Section) (slot : ℕ) → slot ≡ count_slot c → slot < slots
slot_there c slot e = rw e (slot_most c)

-- WHAT WAS READ WITH THE TABLE, from what the reader answered.
module _ {A : Type 0} (note : A → List ℕ → List ℕ) (g : Got A) (r : Passed) (t u : List ℕ) (read : outcome r u ≡ noting note g t) where
  pub noting_got : (q : ℕ) → r ≡ Ok q → (x : A) × (g ≡ got x q) × (u ≡ note x t)
  unfolding noting outcome
  noting_got q is = let whole : noting note g t ≡ got u q = sym read ∙ rw is in let w = next_got g _ whole in (w.0, w.2 ∙ ap (got w.0) (got_place w.3), sym (got_same w.3))

  pub noting_fault : (why : Fault) → r ≡ Err why → g ≡ stopped why
  unfolding noting outcome
  noting_fault why is = fault_first g (λ x. note x t) _ _ (sym read ∙ rw is)

-- The three sections, one after another.
module _ (form : Form) (n m : ℕ) (s : List ℕ) (p : ℕ) (t u : List ℕ) (first : Passed) (read : outcome first u ≡ noting (section_noted effects) (section_at (line_at form effects n m s) s p) t) where
  pub three_first : (why : Fault) (v : List ℕ) → first ≡ Err why → outcome (Err why) v ≡ three_sections form n m s p t
  unfolding three_sections next outcome
  three_first why v is = rw (noting_fault (section_noted effects) (section_at (line_at form effects n m s) s p) first t u read why is)

  module _ (q : ℕ) (is : first ≡ Ok q) (then : Passed) (v : List ℕ) (read-too : outcome then v ≡ noting (section_noted executability) (section_at (line_at form executability n m s) s q) u) where
    first_got : (es : List Effect) × (section_at (line_at form effects n m s) s p ≡ got es q) × (u ≡ section_noted effects es t)
    first_got = noting_got (section_noted effects) (section_at (line_at form effects n m s) s p) first t u read q is

    pub three_second : (why : Fault) (w : List ℕ) → then ≡ Err why → outcome (Err why) w ≡ three_sections form n m s p t
    unfolding three_sections next outcome
    three_second why w e = rw (first_got.1, noting_fault (section_noted executability) (section_at (line_at form executability n m s) s q) then u v read-too why e)

    pub three_whole : (r : ℕ) (last : Passed) (w : List ℕ) → then ≡ Ok r → outcome last w ≡ noting (section_noted knowledge) (section_at (line_at form knowledge n m s) s r) v → outcome last w ≡ three_sections form n m s p t
    unfolding three_sections next noting
    three_whole r last w e read-last =
        let g = first_got in
        let h = noting_got (section_noted executability) (section_at (line_at form executability n m s) s q) then u v read-too r e in
        rw (g.1, h.1) (read-last ∙ ap (noting (section_noted knowledge) (section_at (line_at form knowledge n m s) s r)) (h.2 ∙ ap (section_noted executability h.0) g.2))

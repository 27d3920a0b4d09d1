-- The lines of a table that was read: each is what its reader finds at its place, its action is one of the table's, and its place is in the input. A reader that
-- gives a line gives the place at which it was asked. Assumes nothing.
use Prim.Native.Nat.{ℕ, ◌*◌, ◌≤◌, ◌<◌}
use mathlib.Core.Path.{◌≡◌, refl, sym, ◌∙◌, ap, subst}
use mathlib.Core.List.{List}
use lib.ListN.{length, get_or}
use borrow.Author.Tests.{ltb-false}
use Rattle.meaning.specs.Tests.{Has}
use Rattle.meaning.specs.Limits.{Limits}
use Rattle.meaning.specs.Requests.{Effect, Executability, Table, Request}
use Rattle.meaning.specs.Reading.{Flags, Got, got, byte_at, count_at, below_at, literals, fluents, list_at, section_at, body_at, effect_at, executability_at, knowledge_at, plan_at, table_at, request_at, read_request}
use Rattle.meaning.specs.Refusals.{settled}
use Rattle.meaning.proofs.SettledLaws.{got_same, settled_is}
use Rattle.meaning.proofs.GotLaws.{On, got_on, next_on}
use Rattle.meaning.proofs.RangeLaws.{not_refused, after_got, byte_got, count_within, below_bound, section_read, repeated_length}

-- THE TABLE of a request that was read is the one at its start.
pub request_table : (lim : Limits) (s : List ℕ) (t : Table) (p : ℕ) → On (request_at lim Flags s t p) (λ r e. r.table ≡ t)
unfolding request_at
request_table lim s t p =
    next_on {P = λ _ _. Unit {0}} (plan_at lim Flags t.fluents t.actions s p) _ (record { holds = λ _ _ _. tt }) λ plan q _.
    next_on {P = λ _ _. Unit {0}} (list_at literals t.fluents lim.listed s q) _ (record { holds = λ _ _ _. tt }) λ goals r _.
    next_on {P = λ _ _. Unit {0}} (list_at fluents t.fluents lim.listed s r) _ (record { holds = λ _ _ _. tt }) λ whether e _.
    got_on _ _ refl

pub read_table : (lim : Limits) (s : List ℕ) (r : Request) (e : ℕ) → read_request lim Flags s ≡ got r e → (q : ℕ) × (table_at lim Flags s 0 ≡ got r.table q)
unfolding read_request
read_table lim s r e reads =
    after_got (table_at lim Flags s 0) _ (not_refused _ _ _ _ reads).1 λ t p et e₁.
    after_got (request_at lim Flags s t p) _ e₁ λ x q ex e₂.
    let same : x ≡ r = got_same (not_refused _ _ _ _ e₂).1 in
    let its : x.table ≡ t = (request_table lim s t p).holds x q ex in
    (p, et ∙ ap (λ (u : Table). got u p) (sym its ∙ ap (λ (y : Request). y.table) same))

-- A request that was read is no longer than its limit.
pub read_short : (lim : Limits) (s : List ℕ) (r : Request) (e : ℕ) → read_request lim Flags s ≡ got r e → length s ≤ lim.request
unfolding read_request
read_short lim s r e reads = ltb-false lim.request (length s) (not_refused _ _ _ _ reads).0

-- A LINE stands where its place says, below the input's size and with one of so many actions.
pub record LineThere {A : Type 0} (line : ℕ → Got A) (place action : A → ℕ) (size actions : ℕ) (x : A) : Type 0 where
  pub end : ℕ
  pub reads : line (place x) ≡ got x end
  pub acts : action x < actions
  pub inside : place x < size

abbrev pub EffectThere : Limits → (fluents actions : ℕ) → List ℕ → Effect → Type 0
EffectThere lim n m s = LineThere (effect_at lim Flags n m s) (λ (x : Effect). x.place) (λ (x : Effect). x.action) (length s) m

abbrev pub RunThere : Limits → (fluents actions : ℕ) → List ℕ → Executability → Type 0
RunThere lim n m s = LineThere (executability_at lim Flags n m s) (λ (x : Executability). x.place) (λ (x : Executability). x.action) (length s) m

below_inside : (bound : ℕ) (s : List ℕ) (p x q : ℕ) → below_at bound s p ≡ got x q → p < length s
unfolding below_at
below_inside bound s p x q e = after_got (byte_at s p) _ e λ y r read _. (byte_got s p y r read).0

-- What a reader gives whose first part is the action byte.
module _ {A : Type 0} (line : ℕ → Got A) (place action : A → ℕ) (m : ℕ) (s : List ℕ) where
  read_there : (p a q : ℕ) (y x : A) (e f : ℕ) → line p ≡ got x e → below_at m s p ≡ got a q → got y f ≡ got x e → place y ≡ p → action y ≡ a → LineThere line place action (length s) m x
  read_there p a q y x e f reads first same here acts =
      let placed : p ≡ place x = sym here ∙ ap place (got_same same) in
      record {
        end = e;
        reads = ap line (sym placed) ∙ reads;
        acts = subst (λ (b : ℕ). b < m) (sym acts ∙ ap action (got_same same)) (below_bound m s p a q first);
        inside = subst (λ (i : ℕ). i < length s) placed (below_inside m s p a q first);
      }

module _ (lim : Limits) (n m : ℕ) (s : List ℕ) where
  effect_there : (p : ℕ) (x : Effect) (e : ℕ) → effect_at lim Flags n m s p ≡ got x e → EffectThere lim n m s x
  unfolding effect_at
  effect_there p x e reads =
      after_got (below_at m s p) _ reads λ a q ea e₁.
      after_got (below_at (2 * n) s q) _ e₁ λ l r _ e₂.
      after_got (body_at lim Flags n s r) _ e₂ λ b f _ same.
      read_there (effect_at lim Flags n m s) _ _ m s p a q _ x e f reads ea same refl refl

  run_there : (p : ℕ) (x : Executability) (e : ℕ) → executability_at lim Flags n m s p ≡ got x e → RunThere lim n m s x
  unfolding executability_at
  run_there p x e reads =
      after_got (below_at m s p) _ reads λ a q ea e₁.
      after_got (body_at lim Flags n s q) _ e₁ λ b f _ same.
      read_there (executability_at lim Flags n m s) _ _ m s p a q _ x e f reads ea same refl refl

-- A section has as many lines as a byte of the input says.
section_counted : {A : Type 0} (line : ℕ → Got A) (s : List ℕ) (p : ℕ) (xs : List A) (q : ℕ) → section_at line s p ≡ got xs q → length xs ≡ get_or s p 0
unfolding section_at
section_counted line s p xs q e = after_got (byte_at s p) _ e λ c i ec rest. repeated_length line c i xs q rest ∙ sym (byte_got s p c i ec).1

-- What is so of all the lines of a table, but those of knowledge.
pub record LinesThere (lim : Limits) (s : List ℕ) (t : Table) : Type 0 where
  pub actions : t.actions ≤ lim.actions
  pub effects : (x : Effect) → Has t.effects x → EffectThere lim t.fluents t.actions s x
  pub runs : (x : Executability) → Has t.executability x → RunThere lim t.fluents t.actions s x
  pub effects_at : ℕ
  pub effects_counted : length t.effects ≡ get_or s effects_at 0
  pub runs_at : ℕ
  pub runs_counted : length t.executability ≡ get_or s runs_at 0

pub table_lines : (lim : Limits) (s : List ℕ) (p : ℕ) (t : Table) (q : ℕ) → table_at lim Flags s p ≡ got t q → LinesThere lim s t
unfolding table_at
table_lines lim s p t q e =
    after_got (count_at 1 lim.fluents s p) _ e λ n p₁ _ e₁.
    after_got (count_at 1 lim.actions s p₁) _ e₁ λ m p₂ em e₂.
    after_got (list_at literals n lim.listed s p₂) _ e₂ λ facts p₃ _ e₃.
    after_got (section_at (effect_at lim Flags n m s) s p₃) _ e₃ λ effects p₄ ee e₄.
    after_got (section_at (executability_at lim Flags n m s) s p₄) _ e₄ λ executability p₅ ex e₅.
    after_got (section_at (knowledge_at lim n m s) s p₅) _ e₅ λ knowledge p₆ _ same.
    subst (LinesThere lim s) (got_same same)
    (record {
      actions = count_within 1 lim.actions s p₁ m p₂ em;
      effects = λ x h. let w = section_read (effect_at lim Flags n m s) s p₃ effects p₄ ee x h in effect_there lim n m s w.0 x w.1 w.2;
      runs = λ x h. let w = section_read (executability_at lim Flags n m s) s p₄ executability p₅ ex x h in run_there lim n m s w.0 x w.1 w.2;
      effects_at = p₃;
      effects_counted = section_counted (effect_at lim Flags n m s) s p₃ effects p₄ ee;
      runs_at = p₄;
      runs_counted = section_counted (executability_at lim Flags n m s) s p₄ executability p₅ ex;
    })

-- It is so of a settled request.
pub settled_lines : (lim : Limits) (s : List ℕ) (r : Request) (e : ℕ) → settled lim s ≡ got r e → LinesThere lim s r.table
settled_lines lim s r e past = let w = read_table lim s r e (settled_is lim s r e past).reads in table_lines lim s 0 r.table w.0 w.1

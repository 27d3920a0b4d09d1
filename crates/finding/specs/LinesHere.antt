-- Effects and knowledge lines as the notes find them.
use Rattle.std.specs.Prelude.{ℕ, zero, suc, ◌+◌, ◌*◌, ◌≤◌, ◌<◌, ◌≡◌, true, false, List, [], ◌∷◌, length, get_or, eqb, ltb}
use Rattle.meaning.specs.Tests.{some_of, each_of}
use Rattle.meaning.specs.Limits.{format, all_literals}
use Rattle.meaning.specs.Literals.{positive, exclusive}
use Rattle.meaning.specs.Requests.{Effect, Knowledge}
use Rattle.meaning.specs.declared.Form.{Form}
use Rattle.meaning.specs.declared.Form.TheVariants.{Flags, Valued}
use Rattle.meaning.specs.Reading.{values_in, leaves_one}
use Rattle.reading.specs.Listed.{listed_as, LiteralsHere}
use Rattle.reading.specs.Noted.{effect_lines, line_place, first_line}

-- AN EFFECT'S LITERAL at q as the form writes it, and where the body stands of the effect at p (FORMAT 2.14, 26.5, 26.8).
abbrev pub literal_from : Form → List ℕ → ℕ → ℕ
literal_from Flags s q = get_or s q 0
literal_from Valued s q = get_or s q 0 * 256 + get_or s (q + 1) 0

abbrev pub body_place : Form → ℕ → ℕ
body_place Flags p = p + 2
body_place Valued p = p + 3

-- A fluent and a value of it that an effect may set.
pub record ValueHere (s : List ℕ) (q : ℕ) : Type 0 where
  pub fluent : get_or s q 0 < format.fluents
  pub second : get_or s (q + 1) 0 < 2 * values_in s (get_or s q 0)
  pub says_is : positive (get_or s q 0 * 256 + get_or s (q + 1) 0) ≡ true

abbrev pub LiteralHere : Form → List ℕ → ℕ → Type 0
LiteralHere Flags s q = get_or s q 0 < all_literals
LiteralHere Valued s q = ValueHere s q

-- A list that was read: no literal has its complement there, or each leaves its fluent a value (FORMAT 4.13, 26.11).
abbrev pub Consistent : Form → List ℕ → List ℕ → Type 0
Consistent Flags s b = exclusive b b ≡ false
Consistent Valued s b = each_of (λ (l : ℕ). leaves_one s l b) b ≡ true

-- The effect whose line stands at p.
unfoldable pub effect_from : Form → List ℕ → ℕ → Effect
effect_from form s p = record { place = p; action = get_or s p 0; literal = literal_from form s (p + 1); body = listed_as form s (body_place form p) }

-- Its numbers are in range, and so are those of its body.
pub record EffectHere (form : Form) (s : List ℕ) (p : ℕ) : Type 0 where
  pub action : get_or s p 0 < format.actions
  pub literal : LiteralHere form s (p + 1)
  pub body : LiteralsHere form s (body_place form p)
  pub apart : Consistent form s (listed_as form s (body_place form p))

-- Where the line of effect j stands.
abbrev pub place_in : List ℕ → ℕ → ℕ
place_in t j = line_place t effect_lines j

-- A given number of effects from number k + 1 on, in file order.
unfoldable pub effects_in : Form → List ℕ → List ℕ → (k left : ℕ) → List Effect
effects_in form s t k zero = []
effects_in form s t k (suc left) = effect_from form s (place_in t (k + 1)) ∷ effects_in form s t (k + 1) left

-- Each of the first k effects is fit to be read.
pub record EffectsHere (form : Form) (s t : List ℕ) (k : ℕ) : Type 0 where
  pub line : (i : ℕ) → i < k → EffectHere form s (place_in t (i + 1))

-- The knowledge line that stands at p; a given number of them from number k on, two bytes each, where number 0 stands at the start.
unfoldable pub knowledge_from : List ℕ → ℕ → Knowledge
knowledge_from s p = record { place = p; action = get_or s p 0; fluent = get_or s (p + 1) 0 }

unfoldable pub knowledge_in : List ℕ → (start k left : ℕ) → List Knowledge
knowledge_in s start k zero = []
knowledge_in s start k (suc left) = knowledge_from s (start + 2 * k) ∷ knowledge_in s start (k + 1) left

pub record KnowledgeHere (s : List ℕ) (start count : ℕ) : Type 0 where
  pub ends : start + 2 * count ≤ length s
  pub acts : (k : ℕ) → k < count → get_or s (start + 2 * k) 0 < format.actions

-- The notes have a first effect of an action exactly where one of the effects is of that action.
pub record Acting (t : List ℕ) (es : List Effect) : Type 0 where
  pub slot : (a : ℕ) → a < format.actions → ltb 0 (first_line t effect_lines a) ≡ some_of (λ (e : Effect). eqb e.action a) es

-- A guide as the code holds it: its request is the start of its row, and its stage says which of the three it is. What a call makes of it is what the call of its parts gives.
-- Assumes nothing.
use Prim.Native.Nat.{ℕ, min, ◌≤◌}
use native.Mathlib.Omega.{arith}
use mathlib.Core.Path.{◌≡◌, refl, sym, ◌∙◌, ap, subst}
use mathlib.Core.List.{List, []}
use Rattle.std.specs.Prelude.{Option}
use lib.ListN.{length, take}
use lib.Seq.{length-take-le}
use Rattle.std.proofs.lemmas.List.{take_min}
use Rattle.meaning.specs.declared.Answer.{Answer}
use Rattle.meaning.specs.Limits.{format}
use Rattle.meaning.specs.States.{State}
use Rattle.guidance.specs.declared.Told.{Told}
use Rattle.guidance.specs.declared.Told.TheVariants.{Do, Done, Refused}
use Rattle.guidance.specs.Guides.{Guide, refusing, ended, next}
use Rattle.guidance.specs.Guided.{asked_for}
use Rattle.guide.specs.declared.going.Step.{Step}
use Rattle.guide.specs.declared.sensed.Fluents.{Fluents}
use Rattle.guide.specs.declared.guides.Stage.TheVariants.{Refusing, Going, Ended}
use Rattle.guide.specs.declared.guides.Guide as Held
use Rattle.guide.specs.GuideHeld.{fluents_of, guide_held, guide_after, turned, request_of, guide_at, guide_of, turn_of, KeptGuide}

-- A PART of the row ends with the row.
module _ (n e : ℕ) (row : List ℕ) (sized : length row ≡ format.request) (ends : e ≡ min n format.request) where
  end_within : e ≤ length row
  end_within = omega (arith, sized, ends)

  pub part_long : e ≡ length (take e row)
  part_long = sym (length-take-le e row end_within)

  same_part : take e row ≡ take n row
  same_part = ap (λ (m : ℕ). take m row) (ends ∙ ap (min n) (sym sized)) ∙ take_min n row

  module _ (a : Option ℕ) (at : ℕ) (marks : State) where
    pub part_called : (bytes : List ℕ) (x : Step) → turned (guide_held (take e row)) (guide_held (take e row) a at marks) x ≡ next format (guide_held (take e row) a at marks) bytes
        → turned (guide_held (take n row)) (guide_held (take n row) a at marks) x ≡ next format (guide_held (take n row) a at marks) bytes
    part_called bytes x is = subst (λ (l : List ℕ). turned (guide_held l) (guide_held l a at marks) x ≡ next format (guide_held l a at marks) bytes) same_part is

    pub part_asked : (x : Fluents) → x ≡ fluents_of (asked_for (guide_held (take e row) a at marks)) → x ≡ fluents_of (asked_for (guide_held (take n row) a at marks))
    part_asked x is = is ∙ ap (λ (l : List ℕ). fluents_of (asked_for (guide_held l a at marks))) same_part

-- A GUIDE by its stage.
module _ (g : Held.Guide) where
  pub kept_same : (told : Told) → KeptGuide g (record { guide = g; told = told })
  kept_same told = record { refused = λ x is. refl; request = refl }

  none_of : (h : Guide) → guide_of g ≡ h → asked_for h ≡ [] → (x : Fluents) → x ≡ fluents_of [] → x ≡ fluents_of (asked_for (guide_of g))
  none_of h is none x are = are ∙ ap fluents_of (sym (ap asked_for is ∙ none))

  -- It was refused.
  module _ (y : Answer) (stage : g.stage ≡ Refusing y) where
    is_refusing : guide_of g ≡ refusing y
    unfolding guide_of guide_at
    is_refusing = ap (guide_at g) stage

    pub next_refused : (bytes : List ℕ) → turn_of (record { guide = g; told = Refused y }) ≡ next format (guide_of g) bytes
    unfolding turn_of next
    next_refused bytes = ap (λ (h : Guide). record { guide = h; told = Refused y }) is_refusing ∙ ap (λ (h : Guide). next format h bytes) (sym is_refusing)

    pub asks_refused : (x : Fluents) → x ≡ fluents_of [] → x ≡ fluents_of (asked_for (guide_of g))
    unfolding asked_for
    asks_refused = none_of (refusing y) is_refusing refl

  -- It has come to the end.
  module _ (marks : State) (stage : g.stage ≡ Ended marks) where
    is_ended : guide_of g ≡ ended marks
    unfolding guide_of guide_at
    is_ended = ap (guide_at g) stage

    pub next_ended : (bytes : List ℕ) → turn_of (record { guide = g; told = Done }) ≡ next format (guide_of g) bytes
    unfolding turn_of next
    next_ended bytes = ap (λ (h : Guide). record { guide = h; told = Done }) is_ended ∙ ap (λ (h : Guide). next format h bytes) (sym is_ended)

    pub asks_ended : (x : Fluents) → x ≡ fluents_of [] → x ≡ fluents_of (asked_for (guide_of g))
    unfolding asked_for
    asks_ended = none_of (ended marks) is_ended refl

  -- It is on its way.
  module _ (a : Option ℕ) (at : ℕ) (marks : State) (stage : g.stage ≡ Going a at marks) where
    abbrev held : Guide
    held = guide_held (take g.length g.request) a at marks

    is_going : guide_of g ≡ held
    unfolding guide_of guide_at request_of
    is_going = ap (guide_at g) stage

    pub asks_going : (x : Fluents) → x ≡ fluents_of (asked_for held) → x ≡ fluents_of (asked_for (guide_of g))
    asks_going x is = is ∙ ap (λ (h : Guide). fluents_of (asked_for h)) (sym is_going)

    -- By what the call tells: the guide in that stage is what the definition makes of it.
    module _ (bytes : List ℕ) (x : Step) (calls : turned (guide_held (take g.length g.request)) held x ≡ next format held bytes) where
      moves_to : (h : Held.Guide) → guide_of h ≡ guide_after (guide_held (take g.length g.request)) held x x.told → turn_of (record { guide = h; told = x.told }) ≡ next format (guide_of g) bytes
      unfolding turn_of turned
      moves_to h is = ap (λ (k : Guide). record { guide = k; told = x.told }) is ∙ calls ∙ ap (λ (k : Guide). next format k bytes) (sym is_going)

      told_as : (told : Told) → x.told ≡ told → guide_after (guide_held (take g.length g.request)) held x x.told ≡ guide_after (guide_held (take g.length g.request)) held x told
      told_as told is = ap (guide_after (guide_held (take g.length g.request)) held x) is

      pub moves_on : (b : ℕ) → x.told ≡ Do b
          → turn_of (record { guide = record { request = g.request; length = g.length; stage = Going x.action x.at x.marks }; told = x.told }) ≡ next format (guide_of g) bytes
      unfolding guide_of guide_at request_of guide_after
      moves_on b is = moves_to _ (sym (told_as (Do b) is))

      pub moves_last : x.told ≡ Done → turn_of (record { guide = record { request = g.request; length = g.length; stage = Ended x.marks }; told = x.told }) ≡ next format (guide_of g) bytes
      unfolding guide_of guide_at guide_after
      moves_last is = moves_to _ (sym (told_as Done is))

      pub moves_not : (y : Answer) → x.told ≡ Refused y → turn_of (record { guide = g; told = x.told }) ≡ next format (guide_of g) bytes
      unfolding guide_after
      moves_not y is = moves_to g (is_going ∙ sym (told_as (Refused y) is))

-- WHAT A CALL KEEPS: the request, and where it refuses all of it.
module _ (g : Held.Guide) (x : Step) where
  pub kept_on : (b : ℕ) → x.told ≡ Do b → KeptGuide g (record { guide = record { request = g.request; length = g.length; stage = Going x.action x.at x.marks }; told = x.told })
  unfolding request_of
  kept_on b is = record { refused = λ y not. let z : ◌≡◌ {A = ℕ} 0 1 = cc in absurd (omega (arith, z)); request = refl }

  pub kept_last : x.told ≡ Done → KeptGuide g (record { guide = record { request = g.request; length = g.length; stage = Ended x.marks }; told = x.told })
  unfolding request_of
  kept_last is = record { refused = λ y not. let z : ◌≡◌ {A = ℕ} 0 1 = cc in absurd (omega (arith, z)); request = refl }

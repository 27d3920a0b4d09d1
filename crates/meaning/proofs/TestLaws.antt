-- The laws of the tests: what a test that came out true or false says of its parts. Assumes nothing.
use mathlib.Core.Path.{◌≡◌, refl, sym, ◌∙◌, ap, ap₂}
use mathlib.Core.Bool.{Bool, true, false, false≢true}
use mathlib.Core.List.{List, [], ◌∷◌, ◌++◌, map}
use mathlib.Core.Logic.{◌⊎◌, inl, inr, ⊎_elim}
use lib.ListN.{get_or, drop}
use Rattle.meaning.specs.Tests.{both, either, fails, pick, some_of, each_of, those_of, Has}

-- By the two values of a test, with the equation in hand.
pub by-test {ℓ} : {C : Type ℓ} (b : Bool) → (b ≡ true → C) → (b ≡ false → C) → C
by-test true f g = f refl
by-test false f g = g refl

pub clash {ℓ} : {C : Type ℓ} {b : Bool} → b ≡ true → b ≡ false → C
clash t f = absurd (false≢true (sym f ∙ t))

-- Two tests that are true together are equal.
pub same_test : (a b : Bool) → (a ≡ true → b ≡ true) → (b ≡ true → a ≡ true) → a ≡ b
same_test true b f g = sym (f refl)
same_test false true f g = g refl
same_test false false f g = refl

pub both_left : (a b : Bool) → both a b ≡ true → a ≡ true
unfolding both
both_left true b e = refl
both_left false b e = e

pub both_right : (a b : Bool) → both a b ≡ true → b ≡ true
unfolding both
both_right true b e = e
both_right false b e = clash e refl

pub both_true : (a b : Bool) → a ≡ true → b ≡ true → both a b ≡ true
unfolding both
both_true true b e f = f
both_true false b e f = e

pub both_none : (a : Bool) → both a false ≡ false
unfolding both
both_none true = refl
both_none false = refl

pub both_all : (a : Bool) → both a true ≡ a
unfolding both
both_all true = refl
both_all false = refl

pub both_same : (a : Bool) → both a a ≡ a
unfolding both
both_same true = refl
both_same false = refl

-- Of four tests in two pairs, the other two pairs.
pub both_crossed : (a b c d : Bool) → both (both a b) (both c d) ≡ both (both a c) (both b d)
unfolding both
both_crossed true true c d = refl
both_crossed true false c d = sym (both_none c)
both_crossed false b c d = refl

pub either_left : (a b : Bool) → a ≡ true → either a b ≡ true
unfolding either
either_left true b e = refl
either_left false b e = clash e refl

pub either_right : (a b : Bool) → b ≡ true → either a b ≡ true
unfolding either
either_right true b e = refl
either_right false b e = e

pub either_split : (a b : Bool) → either a b ≡ true → (a ≡ true) ⊎ (b ≡ true)
unfolding either
either_split true b e = inl refl
either_split false b e = inr e

pub either_false : (a b : Bool) → either a b ≡ false → (a ≡ false) × (b ≡ false)
unfolding either
either_false true b e = clash refl e
either_false false b e = (refl, e)

pub fails_true : (a : Bool) → fails a ≡ true → a ≡ false
unfolding fails
fails_true true e = sym e
fails_true false e = refl

pub fails_false : (a : Bool) → a ≡ false → fails a ≡ true
unfolding fails
fails_false true e = sym e
fails_false false e = refl

module _ {A : Type 0} where
  pub pick_true : (b : Bool) (f g : Unit {0} → A) → b ≡ true → pick b f g ≡ f tt
  unfolding pick
  pick_true true f g e = refl
  pick_true false f g e = clash e refl

  pub pick_false : (b : Bool) (f g : Unit {0} → A) → b ≡ false → pick b f g ≡ g tt
  unfolding pick
  pick_false true f g e = clash refl e
  pick_false false f g e = refl

  pub pick-cases {ℓ} : {C : Type ℓ} {x : A} (b : Bool) (f g : Unit {0} → A) → pick b f g ≡ x → (b ≡ true → f tt ≡ x → C) → (b ≡ false → g tt ≡ x → C) → C
  unfolding pick
  pick-cases true f g e t u = t refl e
  pick-cases false f g e t u = u refl e

-- A function goes through a choice.
module _ {A B : Type 0} where
  pub pick_map : (h : A → B) (b : Bool) (f g : Unit {0} → A) → h (pick b f g) ≡ pick b (λ _. h (f tt)) (λ _. h (g tt))
  unfolding pick
  pick_map h true f g = refl
  pick_map h false f g = refl

module _ {A : Type 0} where
  -- Some entry passes: here it is.
  pub some_has : (p : A → Bool) (xs : List A) → some_of p xs ≡ true → (x : A) × Has xs x × (p x ≡ true)
  unfolding some_of
  some_has p [] e = clash e refl
  some_has p (x ∷ xs) e = step (either_split _ _ e) (some_has p xs)
    where
      step : (p x ≡ true) ⊎ (some_of p xs ≡ true) → (some_of p xs ≡ true → (y : A) × Has xs y × (p y ≡ true)) → (y : A) × Has (x ∷ xs) y × (p y ≡ true)
      step (inl here) ih = (x, inl refl, here)
      step (inr later) ih = let t = ih later in (t.0, inr t.1, t.2)

  pub has_some : (p : A → Bool) (xs : List A) (x : A) → Has xs x → p x ≡ true → some_of p xs ≡ true
  unfolding some_of
  has_some p [] x h e = absurd h
  has_some p (y ∷ ys) x h e = step h (has_some p ys x)
    where
      step : (x ≡ y) ⊎ Has ys x → (Has ys x → p x ≡ true → some_of p ys ≡ true) → either (p y) (some_of p ys) ≡ true
      step (inl q) ih = either_left _ _ (rw q at e)
      step (inr h') ih = either_right _ _ (ih h' e)

  pub each_has : (p : A → Bool) (xs : List A) (x : A) → each_of p xs ≡ true → Has xs x → p x ≡ true
  unfolding each_of
  each_has p [] x e h = absurd h
  each_has p (y ∷ ys) x e h = step h (each_has p ys x)
    where
      step : (x ≡ y) ⊎ Has ys x → (each_of p ys ≡ true → Has ys x → p x ≡ true) → p x ≡ true
      step (inl q) ih = rw q (both_left _ _ e)
      step (inr h') ih = ih (both_right _ _ e) h'

  pub has_each : (p : A → Bool) (xs : List A) → ((x : A) → Has xs x → p x ≡ true) → each_of p xs ≡ true
  unfolding each_of
  has_each p [] f = refl
  has_each p (x ∷ xs) f = both_true _ _ (f x (inl refl)) (has_each p xs (λ y h. f y (inr h)))

  -- Not each passes: here is one that fails.
  pub not_each : (p : A → Bool) (xs : List A) → each_of p xs ≡ false → (x : A) × Has xs x × (p x ≡ false)
  unfolding each_of both
  not_each p [] e = clash refl e
  not_each p (x ∷ xs) e = by-test (p x) (λ t. let w = not_each p xs (rw t at e) in (w.0, inr w.1, w.2)) (λ f. (x, inl refl, f))

  pub each_append : (p : A → Bool) (xs ys : List A) → each_of p (xs ++ ys) ≡ both (each_of p xs) (each_of p ys)
  unfolding each_of both
  each_append p [] ys = refl
  each_append p (x ∷ xs) ys = step (p x) (each_append p xs ys)
    where
      step : (b : Bool) → each_of p (xs ++ ys) ≡ both (each_of p xs) (each_of p ys) → both b (each_of p (xs ++ ys)) ≡ both (both b (each_of p xs)) (each_of p ys)
      step true ih = ih
      step false ih = refl

  pub has_left : (xs ys : List A) (x : A) → Has xs x → Has (xs ++ ys) x
  has_left [] ys x h = absurd h
  has_left (z ∷ zs) ys x h = ⊎_elim inl (λ m. inr (has_left zs ys x m)) h

  pub has_right : (xs ys : List A) (x : A) → Has ys x → Has (xs ++ ys) x
  has_right [] ys x h = h
  has_right (z ∷ zs) ys x h = inr (has_right zs ys x h)

  pub has_split : (xs ys : List A) (x : A) → Has (xs ++ ys) x → Has xs x ⊎ Has ys x
  has_split [] ys x h = inr h
  has_split (z ∷ zs) ys x (inl q) = inl (inl q)
  has_split (z ∷ zs) ys x (inr h) = ⊎_elim (λ m. inl (inr m)) inr (has_split zs ys x h)

  -- A stronger test passes no more.
  pub some_mono : (p q : A → Bool) → ((x : A) → p x ≡ true → q x ≡ true) → (xs : List A) → some_of p xs ≡ true → some_of q xs ≡ true
  some_mono p q h xs e = let t = some_has p xs e in has_some q xs t.0 t.1 (h t.0 t.2)

  pub each_mono : (p q : A → Bool) → ((x : A) → p x ≡ true → q x ≡ true) → (xs : List A) → each_of p xs ≡ true → each_of q xs ≡ true
  each_mono p q h xs e = has_each q xs (λ x m. h x (each_has p xs x e m))

  -- The entries that pass a test are those of the list that do.
  pub those_has : (p : A → Bool) (xs : List A) (x : A) → Has (those_of p xs) x → Has xs x × (p x ≡ true)
  unfolding those_of pick
  those_has p [] x h = absurd h
  those_has p (y ∷ ys) x h = go (p y) refl h (those_has p ys x)
    where
      go : (b : Bool) → p y ≡ b → Has (pick b (λ _. y ∷ those_of p ys) (λ _. those_of p ys)) x → (Has (those_of p ys) x → Has ys x × (p x ≡ true)) → Has (y ∷ ys) x × (p x ≡ true)
      go true q (inl e) ih = (inl e, rw e q)
      go true q (inr m) ih = (inr (ih m).0, (ih m).1)
      go false q m ih = (inr (ih m).0, (ih m).1)

  pub has_those : (p : A → Bool) (xs : List A) (x : A) → Has xs x → p x ≡ true → Has (those_of p xs) x
  unfolding those_of pick
  has_those p [] x h e = absurd h
  has_those p (y ∷ ys) x h e = go (p y) refl h (λ m. has_those p ys x m e)
    where
      go : (b : Bool) → p y ≡ b → Has (y ∷ ys) x → (Has ys x → Has (those_of p ys) x) → Has (pick b (λ _. y ∷ those_of p ys) (λ _. those_of p ys)) x
      go true q (inl i) ih = inl i
      go true q (inr m) ih = inr (ih m)
      go false q (inl i) ih = clash (rw i at e) q
      go false q (inr m) ih = ih m

  -- Some entry of those that pass p passes q.
  pub some_those : (p q : A → Bool) (xs : List A) → some_of q (those_of p xs) ≡ some_of (λ (x : A). both (p x) (q x)) xs
  unfolding some_of those_of both pick either
  some_those p q [] = refl
  some_those p q (x ∷ xs) = step (p x) (some_those p q xs)
    where
      step : (b : Bool) → some_of q (those_of p xs) ≡ some_of (λ (y : A). both (p y) (q y)) xs
          → some_of q (pick b (λ _. x ∷ those_of p xs) (λ _. those_of p xs)) ≡ either (both b (q x)) (some_of (λ (y : A). both (p y) (q y)) xs)
      step true ih = rw ih
      step false ih = ih

-- The entries of a list under a function.
module _ {A B : Type 0} (g : A → B) where
  pub has_map : (xs : List A) (x : A) → Has xs x → Has (map g xs) (g x)
  has_map [] x h = absurd h
  has_map (y ∷ ys) x (inl q) = inl (ap g q)
  has_map (y ∷ ys) x (inr h) = inr (has_map ys x h)

  pub map_has : (xs : List A) (z : B) → Has (map g xs) z → (x : A) × Has xs x × (z ≡ g x)
  map_has [] z h = absurd h
  map_has (y ∷ ys) z (inl q) = (y, inl refl, q)
  map_has (y ∷ ys) z (inr h) = let w = map_has ys z h in (w.0, inr w.1, w.2)

-- Functions that are the same on a list are the same on each of its entries.
module _ {A B : Type 0} (g h : A → B) where
  pub map_same : (xs : List A) (x : A) → map g xs ≡ map h xs → Has xs x → g x ≡ h x
  map_same [] x e m = absurd m
  map_same (y ∷ ys) x e m = ⊎_elim (λ p. ap g p ∙ ap (λ (zs : List B). get_or zs 0 (g y)) e ∙ ap h (sym p)) (map_same ys x (ap (drop 1) e)) m

  pub same_map : (xs : List A) → ((x : A) → Has xs x → g x ≡ h x) → map g xs ≡ map h xs
  same_map [] same = refl
  same_map (x ∷ xs) same = ap₂ {C = List B} (λ y ys. y ∷ ys) (same x (inl refl)) (same_map xs (λ y m. same y (inr m)))

module _ {A B : Type 0} (g : A → B) where
  pub each_mapped : (test : B → Bool) (xs : List A) → each_of test (map g xs) ≡ each_of (λ (x : A). test (g x)) xs
  unfolding each_of
  each_mapped test [] = refl
  each_mapped test (x ∷ xs) = ap (both (test (g x))) (each_mapped test xs)

  -- Some entry of a mapped list passes a test where some entry passes the test that agrees with it.
  pub some_mapped : (test : B → Bool) (p : A → Bool) (xs : List A) → ((x : A) → Has xs x → test (g x) ≡ p x) → some_of test (map g xs) ≡ some_of p xs
  unfolding some_of
  some_mapped test p [] same = refl
  some_mapped test p (x ∷ xs) same = rw (same x (inl refl), some_mapped test p xs (λ z has. same z (inr has)))

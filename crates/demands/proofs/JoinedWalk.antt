-- The walk of two plans joined: it is the second walked at each end state of the first. Where the first is verified, and the second from each of its end
-- states with a count of d at most, the whole is verified, and counts the first's actions and d for each of its end states at most. By induction over
-- the first's paths. Assumes nothing.
use Prim.Native.Nat.{ℕ, ◌+◌, ◌-◌, ◌*◌, ◌≤◌}
use native.Mathlib.Omega.{arith}
use native.Mathlib.Nat.{add-mul, one-mul, le-mul_of_pos_right}
use mathlib.Core.Path.{◌≡◌, refl, sym, ◌∙◌, ap, fun_ext}
use mathlib.Core.List.{List, [], ◌∷◌}
use mathlib.Core.Logic.{inl, inr}
use Rattle.meaning.specs.Requests.{Sequence, done, item}
use Rattle.meaning.specs.Walk.{fine, Walked, counted, Steps, walk, walk_item}
use Rattle.meaning.specs.Paths.{Ending, arrives, stops, Path, count_of, count_in}
use Rattle.meaning.specs.Derivations.{join}
use Rattle.demands.specs.Reuse.{one_if_arrives, arriving}
use Rattle.meaning.proofs.PathLaws.{path_walk, each_path}
use Rattle.meaning.proofs.EndLaws.{Ends, Stops}
use Rattle.demands.proofs.MoreKnown.{both_fine}

-- A JOINED PLAN is walked as the second plan behind the first.
module _ {S L : Type 0} (step : Steps S L) where
  pub walk_joined : (p q : Sequence L) (k : S → Walked S) (s : S) → walk step (join p q) k s ≡ walk step p (walk step q k) s
  unfolding walk join
  walk_joined done q k s = refl
  walk_joined (item i p) q k s = ap (λ (j : S → Walked S). walk_item step i j s) (fun_ext (walk_joined p q k))

-- EACH PATH of a list that none stops, with k walked where it arrives.
module _ {S : Type 0} (k : S → Walked S) (d : ℕ) where
  -- From each end state k is verified, with a count of d at most.
  abbrev pub FineBehind : List (Path S) → Type 0
  FineBehind xs = (u : S) → Ends xs (arrives u) → ((k u).end ≡ fine) × ((k u).count ≤ d)

  -- The whole is verified, and its count is bounded.
  abbrev pub Bounded : List (Path S) → Type 0
  Bounded xs = ((each_path k xs).end ≡ fine) × ((each_path k xs).count + arriving xs ≤ count_in xs + arriving xs * d)

  one_path : (x : Path S) (xs : List (Path S)) → (u : S) → x.ending ≡ arrives u → ((k u).end ≡ fine) × ((k u).count ≤ d) → Bounded xs → Bounded (x ∷ xs)
  unfolding each_path path_walk counted arriving one_if_arrives count_in count_of
  one_path x xs u is here rest =
      let first = path_walk k x.ran (arrives u) in
      let w = both_fine first (λ _. each_path k xs) here.0 rest.0 in
      let more = add-mul 1 (arriving xs) d in
      let once = one-mul d in
      rw is (w.0, omega (arith, w.1, here.1, rest.1, more, once))

  pub paths_bounded : (xs : List (Path S)) → (Stops xs → ⊥) → FineBehind xs → Bounded xs
  unfolding each_path arriving count_in
  paths_bounded [] none behind = (refl, omega arith)
  paths_bounded (x ∷ xs) none behind = by_ending x.ending refl (paths_bounded xs (λ w. none (w.0, w.1, w.2, inr w.3)) (λ u h. behind u (inr h)))
    where
      by_ending : (e : Ending S) → e ≡ x.ending → Bounded xs → Bounded (x ∷ xs)
      by_ending (arrives u) q rest = one_path x xs u (sym q) (behind u (inl q)) rest
      by_ending (stops n p u) q rest = absurd (none (n, p, u, inl q))

-- No more end states than the count.
pub arriving_counted : {S : Type 0} (xs : List (Path S)) → (Stops xs → ⊥) → arriving xs ≤ count_in xs
unfolding arriving one_if_arrives count_in count_of
arriving_counted [] none = omega arith
arriving_counted {S} (x ∷ xs) none = by_ending x.ending refl (arriving_counted xs (λ w. none (w.0, w.1, w.2, inr w.3)))
  where
    by_ending : (e : Ending S) → e ≡ x.ending → arriving xs ≤ count_in xs → one_if_arrives e + arriving xs ≤ count_of x.ran e (count_in xs)
    by_ending (arrives u) q rest = omega (arith, rest)
    by_ending (stops n p u) q rest = absurd (none (n, p, u, inl q))

-- THE BOUNDS. With a count of c, e of it end states, and d behind each: (c - e) + e * d, and so c * d.
pub enough : (whole c e d : ℕ) → e ≤ c → whole + e ≤ c + e * d → whole ≤ c - e + e * d
enough whole c e d fits bounded = omega (arith, fits, bounded)

pub product_enough : (c e d : ℕ) → e ≤ c → 1 ≤ d → c - e + e * d ≤ c * d
product_enough c e d fits some =
    let split : (c - e + e) * d ≡ (c - e) * d + e * d = add-mul (c - e) e d in
    let whole : c - e + e ≡ c = omega (arith, fits) in
    let all : c * d ≡ (c - e) * d + e * d = ap (λ (k : ℕ). k * d) (sym whole) ∙ split in
    let each : c - e ≤ (c - e) * d = le-mul_of_pos_right (c - e) some in
    omega (arith, all, each)

-- An answer in one number, as the exported calls return it: where a call has given the definition's answer, its place has room, and what packs
-- it packs the definition's. Assumes nothing.
use Prim.Native.Nat.{ℕ, ◌+◌, ◌*◌, ◌≤◌, ◌<◌}
use native.Mathlib.Omega.{arith}
use mathlib.Core.Path.{◌≡◌, refl, sym, ◌∙◌, ap, subst}
use mathlib.Core.List.{List}
use lib.ListN.{get_or}
use mir.Syntax.{w8}
use mir.Val.{Fits}
use Rattle.meaning.specs.declared.Answer.{Answer}
use Rattle.meaning.specs.declared.Layout.{Layout}
use Rattle.meaning.specs.Limits.{format}
use Rattle.meaning.specs.Judging.{Judgement, judge}
use Rattle.meaning.specs.Guards.{judge_guarded}
use Rattle.meaning.specs.ByCases.{judge_by_cases}
use Rattle.meaning.specs.Indexes.{Built, build, judge_indexed}
use Rattle.meaning.specs.Valued.{judge_values}
use Rattle.meaning.specs.Derivations.{check}
use Rattle.meaning.specs.Schemes.{derive}
use Rattle.meaning.specs.Releases.{Released, release}
use Rattle.meaning.proofs.PickLaws.{pick_has}
use Rattle.meaning.proofs.PartLaws.{place_limited, limit_of, check_place_limited}
use Rattle.meaning.proofs.GuardedAnswers.{guarded_place_limited}
use Rattle.meaning.proofs.CaseAnswers.{cases_place_limited}
use Rattle.meaning.proofs.IndexBuilt.{index_place_limited}
use Rattle.meaning.proofs.IndexAnswers.{indexed_place_limited}
use Rattle.meaning.proofs.ValueAnswers.{values_place_limited}
use Rattle.meaning.proofs.DeriveAnswers.{derive_place_limited}
use Rattle.meaning.proofs.ReleaseLaws.{own_place_limited}
use Rattle.glintstring.specs.Packing.{packed}

-- PACKED.
pub packs : (a : Answer) → a.number + 256 * a.input + 65536 * a.place + 4294967296 * a.count ≡ packed a
unfolding packed
packs a = refl

-- A PLACE HAS ROOM.
pub place_small : (s lent : List ℕ) (budget : ℕ) → (judge format s lent budget).answer.place < 65536
place_small s lent budget = let most = place_limited format s lent budget in omega (arith, most)

pub guarded_place_small : (s lent : List ℕ) (budget : ℕ) → (judge_guarded format s lent budget).answer.place < 65536
guarded_place_small s lent budget = let most = guarded_place_limited format s lent budget in omega (arith, most)

pub cases_place_small : (s lent : List ℕ) (budget : ℕ) → (judge_by_cases format s lent budget).answer.place < 65536
cases_place_small s lent budget = let most = cases_place_limited format s lent budget in omega (arith, most)

pub check_place_small : (layout : Layout) (s d : List ℕ) → (check format layout s d).place < 65536
check_place_small layout s d =
    let most = check_place_limited format layout s d in
    let limit : limit_of format (check format layout s d) ≤ format.derivation = pick_has (λ (n : ℕ). n ≤ format.derivation) _ _ _ (λ _. omega arith) (λ _. omega arith) in
    omega (arith, most, limit)

pub own_place_small : (s lent : List ℕ) (budget : ℕ) → (release format s lent budget).answer.place < 65536
own_place_small s lent budget = let most = own_place_limited format s lent budget in omega (arith, most)

-- WHAT THE EXPORTED CALLS THAT WALK RETURN, where the call has given an answer and left these bytes.
module _ (a : Answer) (left : List ℕ) where
  pub judged_small : (s lent : List ℕ) (budget : ℕ) → record { answer = a; state = left } ≡ judge format s lent budget → a.place < 65536
  judged_small s lent budget judges = subst (λ (j : Judgement). j.answer.place < 65536) (sym judges) (place_small s lent budget)

  pub guarded_small : (s lent : List ℕ) (budget : ℕ) → record { answer = a; state = left } ≡ judge_guarded format s lent budget → a.place < 65536
  guarded_small s lent budget judges = subst (λ (j : Judgement). j.answer.place < 65536) (sym judges) (guarded_place_small s lent budget)

  pub cases_small : (s lent : List ℕ) (budget : ℕ) → record { answer = a; state = left } ≡ judge_by_cases format s lent budget → a.place < 65536
  cases_small s lent budget judges = subst (λ (j : Judgement). j.answer.place < 65536) (sym judges) (cases_place_small s lent budget)

  pub indexed_small : (s i lent : List ℕ) (budget : ℕ) → ((j : ℕ) → Fits w8 (get_or s j 0)) → record { answer = a; state = left } ≡ judge_indexed format s i lent budget → a.place < 65536
  indexed_small s i lent budget bytes judges =
      let most = indexed_place_limited s (λ j. (bytes j).fits) i lent budget in subst (λ (j : Judgement). j.answer.place < 65536) (sym judges) (omega (arith, most))

  pub values_small : (s lent : List ℕ) (budget : ℕ) → record { answer = a; state = left } ≡ judge_values format s lent budget → a.place < 65536
  values_small s lent budget judges = let most = values_place_limited format s lent budget in subst (λ (j : Judgement). j.answer.place < 65536) (sym judges) (omega (arith, most))

  module _ (judged : Judgement) (judges : record { answer = a; state = left } ≡ judged) where
    pub judged_packed : (r : ℕ) → r ≡ packed a → r ≡ packed judged.answer
    judged_packed r is = is ∙ ap (λ (j : Judgement). packed j.answer) judges

    pub judged_left : left ≡ judged.state
    judged_left = ap (λ (j : Judgement). j.state) judges

-- WHAT THE EXPORTED CALLS FOR DERIVATIONS RETURN, where the call for that layout has given an answer.
module _ (layout : Layout) (s d : List ℕ) (a : Answer) (checks : a ≡ check format layout s d) where
  pub checked_small : a.place < 65536
  checked_small = subst (λ (z : Answer). z.place < 65536) (sym checks) (check_place_small layout s d)

  pub checked_packed : (r : ℕ) → r ≡ packed a → r ≡ packed (check format layout s d)
  checked_packed r is = is ∙ ap packed checks

-- WHAT THE EXPORTED RELEASE CALL RETURNS, where the release call has given an answer of its own and left this row.
module _ (s lent : List ℕ) (budget : ℕ) (a : Answer) (left : List ℕ) (releases : record { answer = a; row = left } ≡ release format s lent budget) where
  pub released_small : a.place < 65536
  released_small = subst (λ (j : Released). j.answer.place < 65536) (sym releases) (own_place_small s lent budget)

  pub released_packed : (r : ℕ) → r ≡ packed a → r ≡ packed (release format s lent budget).answer
  released_packed r is = is ∙ ap (λ (j : Released). packed j.answer) releases

  pub released_left : left ≡ (release format s lent budget).row
  released_left = ap (λ (j : Released). j.row) releases

-- WHAT THE EXPORTED CALLS THAT WRITE TO A ROOM RETURN, where the call has given an answer and left this room.
module _ (a : Answer) (left : List ℕ) where
  pub built_small : (s room : List ℕ) → record { answer = a; room = left } ≡ build format s room → a.place < 65536
  built_small s room builds = let most = index_place_limited format s room in subst (λ (b : Built). b.answer.place < 65536) (sym builds) (omega (arith, most))

  pub derived_small : (s room : List ℕ) (budget : ℕ) → record { answer = a; room = left } ≡ derive format s room budget → a.place < 65536
  derived_small s room budget derives = let most = derive_place_limited format s room budget in subst (λ (b : Built). b.answer.place < 65536) (sym derives) (omega (arith, most))

  module _ (built : Built) (builds : record { answer = a; room = left } ≡ built) where
    pub built_packed : (r : ℕ) → r ≡ packed a → r ≡ packed built.answer
    built_packed r is = is ∙ ap (λ (b : Built). packed b.answer) builds

    pub built_left : left ≡ built.room
    built_left = ap (λ (b : Built). b.room) builds

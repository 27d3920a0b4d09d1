-- An answer in one number gives its parts back: each part is smaller than the room that it has, so division and remainder find it. Every answer
-- of the walk call, of the guarded call, of the call by cases, of the values call, of the indexed call, of the index call, of the derive call, of the derivation call and of the whether call and every own answer of the release call
-- is such an answer. Assumes nothing.
use Prim.Native.Nat.{ℕ, ◌/◌, ◌%◌, ◌<◌}
use native.Mathlib.Omega.{arith}
use mathlib.Core.Path.{◌≡◌, refl, ◌∙◌, ap}
use mathlib.Core.Bool.{true}
use mathlib.Core.List.{List}
use lib.Dec.{eqb, ltb}
use borrow.Author.Tests.{eqb-true, eqb-false, ltb-true}
use Rattle.meaning.specs.declared.Answer.{Answer}
use Rattle.meaning.specs.declared.Layout.{Layout}
use Rattle.meaning.specs.declared.Layout.TheVariants.{Plain, Closing}
use Rattle.meaning.specs.Tests.{both, each_of}
use Rattle.meaning.specs.Limits
use Rattle.meaning.specs.Limits.{format}
use Rattle.meaning.specs.Literals.{among}
use Rattle.meaning.specs.Judging.{judge}
use Rattle.meaning.specs.Derivations.{check}
use Rattle.meaning.specs.Guards.{judge_guarded}
use Rattle.meaning.specs.ByCases.{judge_by_cases}
use Rattle.meaning.specs.Valued.{judge_values}
use Rattle.meaning.specs.Indexes.{build, judge_indexed}
use Rattle.meaning.specs.Schemes.{derive}
use Rattle.meaning.specs.Layouts.{Bytes}
use Rattle.meaning.specs.Releases.{release}
use Rattle.meaning.specs.Answers.{refusals, answers, guarded_answers, cases_answers, values_answers, index_answers, indexed_answers, derive_answers, end_fault, faults, check_answers, release_refusals, release_answers}
use Rattle.meaning.specs.AnswerParts.{of_neither, WalkInput, of_rooms, IndexInput, IndexedInput, of_derived, DeriveInput, inputs_of}
use Rattle.meaning.proofs.TestLaws.{by-test}
use Rattle.meaning.proofs.LiteralLaws.{among_each}
use Rattle.meaning.proofs.PickLaws.{pick_has}
use Rattle.meaning.proofs.AnswerLaws.{every_answer_numbered}
use Rattle.meaning.proofs.Passed.{every_check_numbered}
use Rattle.meaning.proofs.PartLaws.{input_exactly, check_input_exactly}
use Rattle.meaning.proofs.GuardedAnswers.{guarded_numbered, guarded_input}
use Rattle.meaning.proofs.CaseAnswers.{cases_numbered, cases_input}
use Rattle.meaning.proofs.IndexBuilt.{index_numbered, index_input, index_place_limited}
use Rattle.meaning.proofs.DeriveAnswers.{derive_numbered, derive_input, derive_place_limited}
use Rattle.meaning.proofs.IndexAnswers.{indexed_numbered, indexed_input, indexed_place_limited}
use Rattle.meaning.proofs.ReleaseLaws.{own_numbered, own_input}
use Rattle.demands.proofs.Demands.{values_numbered, values_input, values_place_limited}
use Rattle.glintstring.specs.Packing.{packed, unpacked}
use Rattle.glintstring.proofs.PackingLaws.{place_small, guarded_place_small, cases_place_small, check_place_small, own_place_small}

-- An answer whose parts have room.
pub record Small (a : Answer) : Type 0 where
  pub number : a.number < 256
  pub input : a.input < 256
  pub place : a.place < 65536

-- ITS PARTS, BACK from the number.
module _ (a : Answer) (small : Small a) (n : ℕ) (packs : n ≡ packed a) where
  pub number_back : n % 256 ≡ a.number
  unfolding packed
  number_back = let k = small.number in omega (arith, k, packs)

  pub input_back : n / 256 % 256 ≡ a.input
  unfolding packed
  input_back = let k = small.number in let i = small.input in omega (arith, k, i, packs)

  pub place_back : n / 65536 % 65536 ≡ a.place
  unfolding packed
  place_back = let k = small.number in let i = small.input in let p = small.place in omega (arith, k, i, p, packs)

  pub count_back : n / 4294967296 ≡ a.count
  unfolding packed
  count_back = let k = small.number in let i = small.input in let p = small.place in omega (arith, k, i, p, packs)

  pub unpacks : unpacked n ≡ a
  unfolding unpacked
  unpacks =
      ap (λ (k : ℕ). record { number = k; input = n / 256 % 256; place = n / 65536 % 65536; count = n / 4294967296 }) number_back
      ∙ ap (λ (i : ℕ). record { number = a.number; input = i; place = n / 65536 % 65536; count = n / 4294967296 }) input_back
      ∙ ap (λ (p : ℕ). record { number = a.number; input = a.input; place = p; count = n / 4294967296 }) place_back
      ∙ ap (λ (c : ℕ). record { number = a.number; input = a.input; place = a.place; count = c }) count_back

-- An answer that names neither input or the request.
input_small : (a : Answer) → WalkInput a → a.input < 256
input_small a input =
    by-test (among a.number of_neither)
    (λ t. let is = input.neither.1 t in omega (arith, is))
    (λ f. let is = input.request f in omega (arith, is))

-- THE WALK CALL'S ANSWERS. Each number is one of a few.
number_small : (n : ℕ) → among n answers ≡ true → n < 256
unfolding answers refusals each_of both
number_small n is = ltb-true _ _ (among_each (λ (m : ℕ). ltb m 256) answers refl n is)

pub answer_small : (s lent : List ℕ) (budget : ℕ) → Small (judge format s lent budget).answer
answer_small s lent budget = record {
  number = number_small _ (every_answer_numbered format s lent budget);
  input = input_small _ (input_exactly format s lent budget);
  place = place_small s lent budget;
}

-- THE GUARDED CALL'S ANSWERS.
guarded_number_small : (n : ℕ) → among n guarded_answers ≡ true → n < 256
unfolding guarded_answers answers refusals each_of both
guarded_number_small n is = ltb-true _ _ (among_each (λ (m : ℕ). ltb m 256) guarded_answers refl n is)

pub guarded_answer_small : (s lent : List ℕ) (budget : ℕ) → Small (judge_guarded format s lent budget).answer
guarded_answer_small s lent budget = record {
  number = guarded_number_small _ (guarded_numbered format s lent budget);
  input = input_small _ (guarded_input format s lent budget);
  place = guarded_place_small s lent budget;
}

-- THE ANSWERS OF THE CALL BY CASES.
cases_number_small : (n : ℕ) → among n cases_answers ≡ true → n < 256
unfolding cases_answers answers refusals each_of both
cases_number_small n is = ltb-true _ _ (among_each (λ (m : ℕ). ltb m 256) cases_answers refl n is)

pub cases_answer_small : (s lent : List ℕ) (budget : ℕ) → Small (judge_by_cases format s lent budget).answer
cases_answer_small s lent budget = record {
  number = cases_number_small _ (cases_numbered format s lent budget);
  input = input_small _ (cases_input format s lent budget);
  place = cases_place_small s lent budget;
}

-- THE ANSWERS OF THE VALUES CALL.
values_number_small : (n : ℕ) → among n values_answers ≡ true → n < 256
unfolding values_answers answers refusals each_of both
values_number_small n is = ltb-true _ _ (among_each (λ (m : ℕ). ltb m 256) values_answers refl n is)

pub values_answer_small : (s lent : List ℕ) (budget : ℕ) → Small (judge_values format s lent budget).answer
values_answer_small s lent budget = record {
  number = values_number_small _ (values_numbered format s lent budget);
  input = input_small _ (values_input format s lent budget);
  place = let most = values_place_limited format s lent budget in omega (arith, most);
}

-- THE ANSWERS OF THE INDEXED CALL, of a request of bytes: with 45 the place is in an index, which is short.
indexed_number_small : (n : ℕ) → among n indexed_answers ≡ true → n < 256
unfolding indexed_answers answers refusals each_of both
indexed_number_small n is = ltb-true _ _ (among_each (λ (m : ℕ). ltb m 256) indexed_answers refl n is)

indexed_input_small : (a : Answer) → IndexedInput a → a.input < 256
indexed_input_small a input =
    by-test (eqb a.number Limits.index_differs)
    (λ t. let is = input.index.1 (eqb-true _ _ t) in omega (arith, is))
    (λ f. input_small a (input.other (eqb-false _ _ f)))

pub indexed_answer_small : (s : List ℕ) → Bytes s → (i lent : List ℕ) (budget : ℕ) → Small (judge_indexed format s i lent budget).answer
indexed_answer_small s bytes i lent budget = record {
  number = indexed_number_small _ (indexed_numbered format s i lent budget);
  input = indexed_input_small _ (indexed_input format s i lent budget);
  place = let most = indexed_place_limited s bytes i lent budget in omega (arith, most);
}

-- THE ANSWERS OF THE INDEX CALL.
index_number_small : (n : ℕ) → among n index_answers ≡ true → n < 256
unfolding index_answers refusals each_of both
index_number_small n is = ltb-true _ _ (among_each (λ (m : ℕ). ltb m 256) index_answers refl n is)

index_input_small : (a : Answer) → IndexInput a → a.input < 256
index_input_small a input =
    by-test (among a.number of_rooms)
    (λ t. let is = input.neither.1 t in omega (arith, is))
    (λ f. let is = input.request f in omega (arith, is))

pub index_answer_small : (s room : List ℕ) → Small (build format s room).answer
index_answer_small s room = record {
  number = index_number_small _ (index_numbered format s room);
  input = index_input_small _ (index_input format s room);
  place = let most = index_place_limited format s room in omega (arith, most);
}

-- THE ANSWERS OF THE DERIVE CALL.
derive_number_small : (n : ℕ) → among n derive_answers ≡ true → n < 256
unfolding derive_answers refusals each_of both
derive_number_small n is = ltb-true _ _ (among_each (λ (m : ℕ). ltb m 256) derive_answers refl n is)

derive_input_small : (a : Answer) → DeriveInput a → a.input < 256
derive_input_small a input =
    by-test (among a.number of_derived)
    (λ t. let is = input.neither.1 t in omega (arith, is))
    (λ f. let is = input.request f in omega (arith, is))

pub derive_answer_small : (s room : List ℕ) (budget : ℕ) → Small (derive format s room budget).answer
derive_answer_small s room budget = record {
  number = derive_number_small _ (derive_numbered format s room budget);
  input = derive_input_small _ (derive_input format s room budget);
  place = let most = derive_place_limited format s room budget in omega (arith, most);
}

-- THE OWN ANSWERS OF THE RELEASE CALL.
own_number_small : (n : ℕ) → among n release_answers ≡ true → n < 256
unfolding release_answers release_refusals each_of both
own_number_small n is = ltb-true _ _ (among_each (λ (m : ℕ). ltb m 256) release_answers refl n is)

pub own_small : (s lent : List ℕ) (budget : ℕ) → Small (release format s lent budget).answer
own_small s lent budget = record {
  number = own_number_small _ (own_numbered format s lent budget);
  input = input_small _ (own_input format s lent budget);
  place = own_place_small s lent budget;
}

-- THE ANSWERS OF THE DERIVATION CALL and of the whether call.
numbers_small : (layout : Layout) → each_of (λ (m : ℕ). ltb m 256) (check_answers layout) ≡ true
unfolding check_answers faults end_fault refusals each_of both
numbers_small Plain = refl
numbers_small Closing = refl

inputs_small : (n : ℕ) → each_of (λ (m : ℕ). ltb m 256) (inputs_of n) ≡ true
unfolding inputs_of each_of both
inputs_small n =
    pick_has EachSmall _ _ _ (λ _. refl) λ _.
    pick_has EachSmall _ _ _ (λ _. refl) λ _.
    pick_has EachSmall _ _ _ (λ _. refl) (λ _. refl)
  where
    EachSmall : List ℕ → Type 0
    EachSmall ns = each_of (λ (m : ℕ). ltb m 256) ns ≡ true

module _ (layout : Layout) where
  check_number_small : (n : ℕ) → among n (check_answers layout) ≡ true → n < 256
  check_number_small n is = ltb-true _ _ (among_each (λ (m : ℕ). ltb m 256) (check_answers layout) (numbers_small layout) n is)

  check_input_small : (s d : List ℕ) → (check format layout s d).input < 256
  check_input_small s d =
      let a = check format layout s d in
      ltb-true _ _ (among_each (λ (m : ℕ). ltb m 256) (inputs_of a.number) (inputs_small a.number) a.input (check_input_exactly format layout s d).allowed)

  pub check_small : (s d : List ℕ) → Small (check format layout s d)
  check_small s d = record {
    number = check_number_small _ (every_check_numbered format layout s d);
    input = check_input_small s d;
    place = check_place_small layout s d;
  }

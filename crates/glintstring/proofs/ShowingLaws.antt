-- A part from a place on has what is left there, and beyond the end nothing, at the end. Assumes nothing.
use Prim.Native.Nat.{ℕ, ◌+◌, ◌-◌, ◌/◌, ◌%◌, min}
use native.Mathlib.Omega.{arith}
use native.Mathlib.Decide.{dec_lt}
use mathlib.Core.Path.{◌≡◌, sym, ◌∙◌, ap}
use mathlib.Core.List.{List, []}
use lib.ListN.{length, drop, take, length-drop, drop_of_length-le}
use lib.Seq.{take_all}
use lib.Dec.{eqb}
use borrow.Author.Tests.{eq-eqb, ne_eqb}
use Rattle.meaning.specs.declared.Answer.{Answer}
use Rattle.meaning.specs.Showing.{Part, part_from, show}
use Rattle.meaning.proofs.TestLaws.{pick_true, pick_false}
use Rattle.glintstring.specs.Packing.{unpacked}
use Rattle.glintstring.specs.ShownPart.{chosen}

-- What is left from a place on, as the code takes it.
pub rest_bytes : (s : List ℕ) (place : ℕ) → take (length s - place) (drop place s) ≡ drop place s
rest_bytes s place = take_all (length s - place) (drop place s) (omega (arith, length-drop place s))

pub from_bytes : (s : List ℕ) (place m : ℕ) → m ≡ min place (length s) → take (length s - m) (drop m s) ≡ drop place s
from_bytes s place m least =
    rest_bytes s m
    ∙ elim (dec_lt (length s) place) [
      | yes far ↦ drop_of_length-le s {i = m} (omega arith) ∙ sym (drop_of_length-le s {i = place} (omega arith))
      | no near ↦ let same : m ≡ place = omega arith in ap (λ (k : ℕ). drop k s) same
    ]

-- THE ANSWER names the request, the derivation, or neither.
module _ (a : Answer) (request derivation : List ℕ) where
  named_request : a.input ≡ 1 → show a request derivation ≡ part_from 1 request a.place
  unfolding show
  named_request is = pick_true (eqb a.input 1) _ _ (eq-eqb _ _ is)

  named_derivation : a.input ≡ 2 → show a request derivation ≡ part_from 2 derivation a.place
  unfolding show
  named_derivation is = pick_false (eqb a.input 1) _ _ (ne_eqb a.input 1 (λ e. omega arith)) ∙ pick_true (eqb a.input 2) _ _ (eq-eqb _ _ is)

  named_neither : (a.input ≡ 1 → ⊥) → (a.input ≡ 2 → ⊥) → show a request derivation ≡ record { input = 1; start = 0; bytes = [] }
  unfolding show
  named_neither one two = pick_false (eqb a.input 1) _ _ (ne_eqb _ _ one) ∙ pick_false (eqb a.input 2) _ _ (ne_eqb _ _ two)

  pub shown_request : a.input ≡ 1 → (r : List ℕ) → r ≡ drop a.place request → r ≡ (show a request derivation).bytes
  unfolding part_from
  shown_request is r e = e ∙ sym (ap (λ (p : Part). p.bytes) (named_request is))

  pub shown_derivation : a.input ≡ 2 → (r : List ℕ) → r ≡ drop a.place derivation → r ≡ (show a request derivation).bytes
  unfolding part_from
  shown_derivation is r e = e ∙ sym (ap (λ (p : Part). p.bytes) (named_derivation is))

  pub shown_neither : (a.input ≡ 1 → ⊥) → (a.input ≡ 2 → ⊥) → (r : List ℕ) → r ≡ [] → r ≡ (show a request derivation).bytes
  shown_neither one two r e = e ∙ sym (ap (λ (p : Part). p.bytes) (named_neither one two))

  module _ {A : Type 0} (x y : A) where
    pub chosen_request : (a.input ≡ 2 → ⊥) → x ≡ chosen a x y
    unfolding chosen
    chosen_request other = sym (pick_false (eqb a.input 2) _ _ (ne_eqb _ _ other))

    pub chosen_derivation : a.input ≡ 2 → y ≡ chosen a x y
    unfolding chosen
    chosen_derivation is = sym (pick_true (eqb a.input 2) _ _ (eq-eqb _ _ is))

  pub block_request : a.input ≡ 1 → {A : Type 0} (x y r : A) → r ≡ x → r ≡ chosen a x y
  block_request is x y r e = e ∙ chosen_request x y (λ two. omega arith)

  pub block_derivation : a.input ≡ 2 → {A : Type 0} (x y r : A) → r ≡ y → r ≡ chosen a x y
  block_derivation is x y r e = e ∙ chosen_derivation x y is

  pub start_request : a.input ≡ 1 → (x y r : ℕ) → r ≡ x + min a.place (length request) → r ≡ chosen a x y + (show a request derivation).start
  unfolding part_from
  start_request is x y r e = e ∙ ap (λ (z : ℕ). z + min a.place (length request)) (chosen_request x y (λ two. omega arith)) ∙ ap (λ (z : ℕ). chosen a x y + z) (sym (ap (λ (p : Part). p.start) (named_request is)))

  pub start_derivation : a.input ≡ 2 → (x y r : ℕ) → r ≡ y + min a.place (length derivation) → r ≡ chosen a x y + (show a request derivation).start
  unfolding part_from
  start_derivation is x y r e = e ∙ ap (λ (z : ℕ). z + min a.place (length derivation)) (chosen_derivation x y is) ∙ ap (λ (z : ℕ). chosen a x y + z) (sym (ap (λ (p : Part). p.start) (named_derivation is)))

  pub block_neither : (a.input ≡ 1 → ⊥) → (a.input ≡ 2 → ⊥) → {A : Type 0} (x y r : A) → r ≡ x → r ≡ chosen a x y
  block_neither one two x y r e = e ∙ chosen_request x y two

  pub start_neither : (a.input ≡ 1 → ⊥) → (a.input ≡ 2 → ⊥) → (x y r : ℕ) → r ≡ x → r ≡ chosen a x y + (show a request derivation).start
  start_neither one two x y r e =
      let none : (show a request derivation).start ≡ 0 = ap (λ (p : Part). p.start) (named_neither one two) in
      let same : x ≡ chosen a x y = chosen_request x y two in
      omega arith

-- AN ANSWER IN ONE NUMBER.
module _ (n : ℕ) (request derivation : List ℕ) where
  pub starts_in_request : n / 256 % 256 ≡ 1 → (r : ℕ) → r ≡ min (n / 65536 % 65536) (length request) → r ≡ (show (unpacked n) request derivation).start
  unfolding unpacked part_from
  starts_in_request is r e = e ∙ sym (ap (λ (p : Part). p.start) (named_request (unpacked n) request derivation is))

  pub starts_in_derivation : n / 256 % 256 ≡ 2 → (r : ℕ) → r ≡ min (n / 65536 % 65536) (length derivation) → r ≡ (show (unpacked n) request derivation).start
  unfolding unpacked part_from
  starts_in_derivation is r e = e ∙ sym (ap (λ (p : Part). p.start) (named_derivation (unpacked n) request derivation is))

  pub starts_in_neither : (n / 256 % 256 ≡ 1 → ⊥) → (n / 256 % 256 ≡ 2 → ⊥) → 0 ≡ (show (unpacked n) request derivation).start
  unfolding unpacked
  starts_in_neither one two = sym (ap (λ (p : Part). p.start) (named_neither (unpacked n) request derivation one two))

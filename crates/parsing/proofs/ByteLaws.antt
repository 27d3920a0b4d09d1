-- Bytes, numbers and counts: a law for each way that a reader returns. Assumes nothing.
use Prim.Native.Nat.{ℕ, ◌+◌, ◌*◌, ◌≤◌, ◌<◌}
use mathlib.Core.Path.{◌≡◌, refl, sym, ◌∙◌, ap, subst}
use mathlib.Core.List.{List}
use lib.ListN.{length, get_or}
use borrow.Author.Tests.{le-leb, lt-leb, lt-ltb, le-ltb}
use Rattle.std.specs.Prelude.{Ok, Err}
use Rattle.meaning.specs.Tests.{either}
use Rattle.meaning.specs.Reading.{Got, got, fault, next, byte_at, two_bytes_at, count_at, below_at}
use mir.Syntax.{w8}
use mir.Val.{Fits}
use Rattle.meaning.proofs.SettledLaws.{got_same, fault≢got}
use Rattle.meaning.proofs.TestLaws.{pick-cases, pick_true, pick_false, either_left, either_right}
use Rattle.parsing.specs.declared.faults.Fault.{Fault}
use Rattle.parsing.specs.declared.faults.Refusal.TheVariants.{EndsTooSoon, CountOutside, TooLarge}
use Rattle.parsing.specs.Read.{Numbered, numbered, over, stopped}

pub byte_none : (s : List ℕ) (p : ℕ) → length s ≤ p → byte_at s p ≡ fault 11 (length s)
unfolding byte_at
byte_none s p h = pick_true _ _ _ (le-leb (length s) p h)

pub byte_is : (s : List ℕ) (p : ℕ) → p < length s → byte_at s p ≡ got (get_or s p 0) (p + 1)
unfolding byte_at
byte_is s p h = pick_false _ _ _ (lt-leb (length s) p h)

pub byte_missing : (s : List ℕ) (p : ℕ) (f : Fault) → length s ≤ p → f ≡ record { refusal = EndsTooSoon; place = length s } → numbered (Err f) ≡ byte_at s p
byte_missing s p f h e = rw (byte_none s p h, e)

pub byte_there : (s : List ℕ) (p x : ℕ) → p < length s → x ≡ get_or s p 0 → got x (p + 1) ≡ byte_at s p
byte_there s p x h e = rw (byte_is s p h, e)

-- WHAT A READER ANSWERED is what the definition gives, and a fault is that of whatever goes on from there.
abbrev pub failing : Fault → Got ℕ
failing f = numbered (Err f)

abbrev pub failed : Fault → Got (Unit {0})
failed f = over (Err f)

pub read_value : (m : Got ℕ) {x p : ℕ} → got x p ≡ m → m ≡ got x p
read_value m e = sym e

pub was_read : (m : Got ℕ) (r : Numbered) (x p : ℕ) → numbered r ≡ m → r ≡ Ok (x, p) → m ≡ got x p
was_read m r x p read is = sym read ∙ ap numbered is

pub was_stopped : (m : Got ℕ) (r : Numbered) (why : Fault) → numbered r ≡ m → r ≡ Err why → m ≡ stopped why
was_stopped m r why read is = sym read ∙ ap numbered is

module _ {A B : Type 0} where
  pub stops : (m : Got A) (rest : A → ℕ → Got B) {k q : ℕ} → fault k q ≡ m → fault k q ≡ next m rest
  unfolding next
  stops m rest e = rw⁻¹ e refl

-- A byte that was read fits one.
pub byte_fits : (s : List ℕ) (p x q : ℕ) → ((i : ℕ) → Fits w8 (get_or s i 0)) → got x q ≡ byte_at s p → x < 256
unfolding byte_at
byte_fits s p x q small e =
    pick-cases _ _ _ (read_value (byte_at s p) e) (λ _ f. absurd (fault≢got f)) λ _ g.
    subst (λ (y : ℕ). y < 256) (got_same g) ((small p).fits)

-- TWO BYTES.
module _ (s : List ℕ) (p : ℕ) where
  pub high_fault : {j e : ℕ} → fault j e ≡ byte_at s p → fault j e ≡ two_bytes_at s p
  unfolding two_bytes_at
  high_fault e = stops (byte_at s p) _ e

  module _ (x q : ℕ) (read : got x q ≡ byte_at s p) where
    pub low_fault : {j e : ℕ} → fault j e ≡ byte_at s q → fault j e ≡ two_bytes_at s p
    unfolding two_bytes_at next
    low_fault e = rw (read_value (byte_at s p) read) (stops (byte_at s q) _ e)

    pub two_bytes_there : (y r : ℕ) → got y r ≡ byte_at s q → got (x * 256 + y) r ≡ two_bytes_at s p
    unfolding two_bytes_at next
    two_bytes_there y r e = rw (read_value (byte_at s p) read, read_value (byte_at s q) e)

-- COUNTS.
module _ (least most : ℕ) (s : List ℕ) (p : ℕ) where
  pub count_fault : {j e : ℕ} → fault j e ≡ byte_at s p → fault j e ≡ count_at least most s p
  unfolding count_at
  count_fault e = stops (byte_at s p) _ e

  module _ (c q : ℕ) (read : got c q ≡ byte_at s p) where
    pub count_low : (f : Fault) → c < least → f ≡ record { refusal = CountOutside; place = p } → numbered (Err f) ≡ count_at least most s p
    unfolding count_at next
    count_low f h e = rw (read_value (byte_at s p) read, e) (sym (pick_true _ _ _ (either_left _ _ (lt-ltb c least h))))

    pub count_high : (f : Fault) → most < c → f ≡ record { refusal = CountOutside; place = p } → numbered (Err f) ≡ count_at least most s p
    unfolding count_at next
    count_high f h e = rw (read_value (byte_at s p) read, e) (sym (pick_true _ _ _ (either_right _ _ (lt-ltb most c h))))

    pub count_within : least ≤ c → c ≤ most → got c q ≡ count_at least most s p
    unfolding count_at next either
    count_within h k = rw (read_value (byte_at s p) read) (sym (pick_false _ _ _ (rw (le-ltb c least h) (le-ltb most c k))))

-- NUMBERS BELOW A BOUND.
module _ (bound : ℕ) (s : List ℕ) (p : ℕ) where
  pub below_fault : {j e : ℕ} → fault j e ≡ byte_at s p → fault j e ≡ below_at bound s p
  unfolding below_at
  below_fault e = stops (byte_at s p) _ e

  module _ (x q : ℕ) (read : got x q ≡ byte_at s p) where
    pub below_large : (f : Fault) → bound ≤ x → f ≡ record { refusal = TooLarge; place = p } → numbered (Err f) ≡ below_at bound s p
    unfolding below_at next
    below_large f h e = rw (read_value (byte_at s p) read, e) (sym (pick_true _ _ _ (le-leb bound x h)))

    pub below_good : x < bound → got x q ≡ below_at bound s p
    unfolding below_at next
    below_good h = rw (read_value (byte_at s p) read) (sym (pick_false _ _ _ (lt-leb bound x h)))

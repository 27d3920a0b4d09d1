-- What reading a derivation leaves behind, and the parts of a line one after another, without what they hold.
use Rattle.std.specs.Prelude.{ℕ, ◌+◌, ◌*◌, List, [], ◌∷◌, length, set}
use Rattle.meaning.specs.declared.Layout.{Layout}
use Rattle.meaning.specs.Limits
use Rattle.meaning.specs.Limits.{Limits, format}
use Rattle.meaning.specs.declared.Form.TheVariants.{Flags}
use Rattle.meaning.specs.Reading.{Got, got, next, two_bytes_at, count_at, repeated, plan_at}
use Rattle.meaning.specs.Refusals.{refuse}
use Rattle.meaning.specs.Derivations.{Line, Derivation, concluded_at, read_derivation, overlap_in_lines}
use Rattle.reading.specs.Planned.{bytes_of}

-- Where the plan of a line ends: after its list X and its two-byte item count.
unfoldable pub plan_end : Line → ℕ
plan_end l = l.place + 1 + length l.X + 2 + bytes_of Flags l.c

-- THE SLOTS. Slot k has the place of line k, slot `plan_ends_slot` + k the end of its plan, and slot `lines_end` the place where the lines end.
abbrev pub plan_ends_slot : ℕ
plan_ends_slot = format.lines

abbrev pub lines_end : ℕ
lines_end = 2 * format.lines

abbrev pub places_slots : ℕ
places_slots = lines_end + 1

-- The lines from number k on (FORMAT 10.2).
unfoldable pub places_noted : (k : ℕ) → List Line → List ℕ → List ℕ
places_noted k [] t = t
places_noted k (l ∷ ls) t = places_noted (k + 1) ls (set (set t k l.place) (plan_ends_slot + k) (plan_end l))

-- All lines, and the place where they end.
unfoldable pub derivation_noted : Derivation → List ℕ → List ℕ
derivation_noted d t = set (places_noted 0 d.lines t) lines_end d.closing_place

-- The citations (FORMAT 5.24, 10.3).
unfoldable pub citing : List ℕ → ℕ → Got (List ℕ)
citing s p =
    next (count_at 0 format.citations s p) λ k r.
    repeated (two_bytes_at s) k r

-- The conclusion and the rule byte, and what follows them.
unfoldable pub ending : Layout → (n : ℕ) → List ℕ → ℕ → Got (List ℕ)
ending layout n s p =
    next (concluded_at format n s layout p) λ end q.
    citing s q

-- Where the plan ends, and where what follows it ends.
unfoldable pub ended_at : (plan_end : ℕ) → Got (List ℕ) → Got ℕ
ended_at q g = next g λ cites e. got q e

unfoldable pub planned : Layout → (n m : ℕ) → List ℕ → ℕ → Got ℕ
planned layout n m s p =
    next (plan_at format Flags n m s p) λ plan q.
    ended_at q (ending layout n s q)

-- A line, told by the end of its plan and its own.
unfoldable pub lined : Got Line → Got ℕ
lined g = next g λ l e. got (plan_end l) e

-- A derivation settled: read without a fault, and past 18 over the plans of all lines (FORMAT 5.22 to 5.25).
unfoldable pub settled_derivation : Layout → (n m : ℕ) → List ℕ → Got Derivation
settled_derivation layout n m s =
    next (read_derivation format n m s layout) λ d e.
    refuse Limits.not_exclusive (overlap_in_lines d.lines) λ _.
    got d e

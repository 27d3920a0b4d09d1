-- 16: which effects share a bucket, as the search for contradictory ones finds them, and the executability lines that agree with two of them.
use Rattle.std.specs.Prelude.{ℕ, zero, suc, ◌+◌, ◌*◌, ◌/◌, ◌%◌, ◌≤◌, ◌<◌, ◌≡◌, Bool, List, [], ◌∷◌, length, get_or, set, eqb}
use Rattle.meaning.specs.Limits.{format}
use Rattle.meaning.specs.Tests.{both, fails, some_of}
use Rattle.meaning.specs.Requests.{Effect, Executability, Table}
use Rattle.meaning.specs.Lines.{executability_of}
use Rattle.meaning.specs.Refusals.{contradictory}
use Rattle.meaning.specs.Reading.{literals_in}
use Rattle.meaning.specs.Values
use Rattle.meaning.specs.declared.Form.{Form}
use Rattle.meaning.specs.declared.Form.TheVariants.{Flags, Valued}
use Rattle.reading.specs.Noted.{line_numbers}
use Rattle.finding.specs.LinesHere.{effect_from, place_in}
use Rattle.finding.specs.TablesHere.{table_in}

-- Two effects contradict each other, by what the form's literals say (FORMAT 7.31, 26.24).
unfoldable pub contradictory_as : Form → List ℕ → Effect → Effect → Bool
contradictory_as Flags s = contradictory (table_in Flags s)
contradictory_as Valued s = Values.contradictory (literals_in s) (table_in Valued s)

-- The first k effects, the last of them first.
unfoldable pub effects_before : Form → List ℕ → List ℕ → ℕ → List Effect
effects_before form s t zero = []
effects_before form s t (suc k) = effect_from form s (place_in t (k + 1)) ∷ effects_before form s t k

-- The body is possible beside both.
unfoldable pub agreeing : {Held : Type 0} → (meets : List ℕ → Held → List ℕ → Bool) → (s : List ℕ) → (one other : Held) → (body : List ℕ) → Bool
agreeing meets s one other b = both (meets s one b) (meets s other b)

-- The effects at p and q are of one action, and set two literals of one fluent, or two values of it.
unfoldable pub sets_apart : Form → (s : List ℕ) (p q : ℕ) → Bool
sets_apart Flags s p q =
    both (eqb (get_or s p 0) (get_or s q 0)) (both (eqb (get_or s (q + 1) 0 / 2) (get_or s (p + 1) 0 / 2)) (fails (eqb (get_or s (p + 1) 0) (get_or s (q + 1) 0))))
sets_apart Valued s p q =
    both (eqb (get_or s p 0) (get_or s q 0)) (both (eqb (get_or s (q + 1) 0) (get_or s (p + 1) 0)) (fails (eqb (get_or s (p + 2) 0 / 2) (get_or s (q + 2) 0 / 2))))

-- Some executability line of the action has a body that passes the test.
unfoldable pub passing_lines : (List ℕ → Bool) → Table → (a : ℕ) → Bool
passing_lines test t a = some_of (λ (x : Executability). test x.body) (executability_of t a)

-- The fluent of an effect by the byte behind its action (FORMAT 2.2, 26.5).
abbrev pub fluent_by : Form → ℕ → ℕ
fluent_by Flags byte = byte / 2
fluent_by Valued byte = byte

-- The bucket of the effect at p. Effects of one action and fluent share it; others may, too.
abbrev pub buckets : ℕ
buckets = 1024

unfoldable pub bucket_at : Form → List ℕ → ℕ → ℕ
bucket_at form s p = (format.fluents * get_or s p 0 + fluent_by form (get_or s (p + 1) 0)) % buckets

-- A slot for the number of each effect, and one for each bucket.
abbrev pub linked_slots : ℕ
linked_slots = line_numbers + buckets

module _ (form : Form) (s t : List ℕ) where
  -- The last of the first k effects in the bucket is effect j; there is none where j is 0.
  pub record Last (k bucket j : ℕ) : Type 0 where
    pub most : j ≤ k
    pub has : 0 < j → bucket_at form s (place_in t j) ≡ bucket
    pub none : (m : ℕ) → j < m → m ≤ k → bucket_at form s (place_in t m) ≡ bucket → ⊥

  -- Slot i + 1 has the last effect before effect i + 1 in its bucket, and a bucket's slot the last of all, where k are linked.
  pub record Linked (same : List ℕ) (k : ℕ) : Type 0 where
    pub sized : length same ≡ linked_slots
    pub line : (i : ℕ) → i < k → Last i (bucket_at form s (place_in t (i + 1))) (get_or same (i + 1) 0)
    pub last : (bucket : ℕ) → bucket < buckets → Last k bucket (get_or same (line_numbers + bucket) 0)

  -- Effect k + 1 contradicts one of the first j.
  unfoldable pub among : (k j : ℕ) → Bool
  among k j = some_of (contradictory_as form s (effect_from form s (place_in t (k + 1)))) (effects_before form s t j)

  -- What is left to be sought of the first k, from effect j on.
  pub record Sought (k j : ℕ) : Type 0 where
    pub most : j ≤ k
    pub has : 0 < j → bucket_at form s (place_in t j) ≡ bucket_at form s (place_in t (k + 1))
    pub rest : among k k ≡ among k j

-- Effect k goes in front of the effects of its bucket.
unfoldable pub bucket_linked : (bucket k : ℕ) → List ℕ → List ℕ
bucket_linked bucket k same = set (set same k (get_or same (line_numbers + bucket) 0)) (line_numbers + bucket) k

-- Rows of the derivation call over case 14 (FORMAT 13.40 to 13.51), those by which an edit of the definitions is refuted, and the rows of
-- showing, computed by the definitions. The other rows of the derivation call are in `MoreDerivations` of `demands`. Assumes nothing.
use Prim.Native.Nat.{ℕ}
use mathlib.Core.Path.{◌≡◌, refl}
use mathlib.Core.List.{List, [], ◌∷◌, ◌++◌, map}
use lib.ListN.{take}
use Rattle.meaning.specs.declared.Answer.{Answer}
use Rattle.meaning.specs.declared.Layout.{Layout}
use Rattle.meaning.specs.declared.Layout.TheVariants.{Plain}
use Rattle.meaning.specs.Limits.{format}
use Rattle.meaning.specs.Derivations.{check}
use Rattle.meaning.specs.Showing.{Part, show}
use Rattle.meaning.proofs.Compute.{all_open}
use Rattle.meaning.proofs.Cases.{table_A, file_A}

-- A request, a derivation in a layout, and what the call of that layout answers.
pub record Case : Type 0 where
  pub layout : Layout
  pub request : List ℕ
  pub derivation : List ℕ
  pub gives : Answer

abbrev pub row_in : Layout → (request derivation : List ℕ) → (number input place : ℕ) → Case
row_in layout request derivation number input place =
    record { layout = layout; request = request; derivation = derivation; gives = record { number = number; input = input; place = place; count = 0 } }

abbrev pub row : (request derivation : List ℕ) → (number input place : ℕ) → Case
row = row_in Plain

-- File A with an empty whether list, and its nine lines before the last one's citations.
unfoldable pub request_14 : List ℕ
request_14 = take 46 file_A ++ (0 ∷ [])

unfoldable pub lines_14 : List ℕ
lines_14 = 0 ∷ 9 ∷ 4 ∷ 0 ∷ 3 ∷ 5 ∷ 7 ∷ 0 ∷ 0 ∷ 4 ∷ 0 ∷ 3 ∷ 5 ∷ 7 ∷ 1 ∷ 0 ∷ 4 ∷ 0 ∷ 3 ∷ 5 ∷ 7 ∷ 0 ∷ 0 ∷ 1 ∷ 7 ∷ 6 ∷ 1 ∷ 0 ∷ 0 ∷ 4 ∷ 0 ∷ 3 ∷ 5 ∷ 7 ∷ 0 ∷ 1 ∷ 255 ∷ 2 ∷ 1 ∷ 1 ∷ 0 ∷ 2 ∷ 1 ∷ 2 ∷ 1 ∷ 0 ∷ 0 ∷ 0 ∷ 1 ∷ 7 ∷ 4 ∷ 1 ∷ 0 ∷ 1 ∷ 4 ∷ 1 ∷ 3 ∷ 5 ∷ 7 ∷ 0 ∷ 1 ∷ 1 ∷ 4 ∷ 1 ∷ 2 ∷ 5 ∷ 7 ∷ 2 ∷ 0 ∷ 4 ∷ 1 ∷ 2 ∷ 5 ∷ 7 ∷ 0 ∷ 1 ∷ 2 ∷ 4 ∷ 1 ∷ 2 ∷ 4 ∷ 7 ∷ 2 ∷ 0 ∷ 4 ∷ 1 ∷ 3 ∷ 5 ∷ 7 ∷ 0 ∷ 2 ∷ 1 ∷ 2 ∷ 4 ∷ 1 ∷ 2 ∷ 4 ∷ 7 ∷ 5 ∷ 2 ∷ 0 ∷ 3 ∷ 0 ∷ 4 ∷ 4 ∷ 1 ∷ 3 ∷ 5 ∷ 7 ∷ 0 ∷ 2 ∷ 1 ∷ 2 ∷ 1 ∷ 7 ∷ 6 ∷ 1 ∷ 0 ∷ 5 ∷ 4 ∷ 1 ∷ 3 ∷ 5 ∷ 7 ∷ 0 ∷ 1 ∷ 255 ∷ 2 ∷ 1 ∷ 1 ∷ 0 ∷ 2 ∷ 1 ∷ 2 ∷ 1 ∷ 0 ∷ 0 ∷ 0 ∷ 1 ∷ 7 ∷ 4 ∷ 1 ∷ 0 ∷ 6 ∷ 3 ∷ 3 ∷ 5 ∷ 7 ∷ 0 ∷ 2 ∷ 0 ∷ 255 ∷ 2 ∷ 1 ∷ 1 ∷ 0 ∷ 2 ∷ 1 ∷ 2 ∷ 1 ∷ 0 ∷ 0 ∷ 0 ∷ 1 ∷ 7 ∷ 3 ∷ []

-- One action that senses seven fluents, all unknown.
unfoldable pub sensing_seven : List ℕ
sensing_seven = 7 ∷ 1 ∷ 0 ∷ 0 ∷ 1 ∷ 0 ∷ 0 ∷ 7 ∷ 0 ∷ 0 ∷ 0 ∷ 1 ∷ 0 ∷ 2 ∷ 0 ∷ 3 ∷ 0 ∷ 4 ∷ 0 ∷ 5 ∷ 0 ∷ 6 ∷ 0 ∷ 1 ∷ 0 ∷ 0 ∷ 0 ∷ []

pub derivations : List Case
derivations =
    -- A line that cites itself (D33).
    row request_14 (0 ∷ 9 ∷ 4 ∷ 0 ∷ 3 ∷ 5 ∷ 7 ∷ 0 ∷ 0 ∷ 4 ∷ 0 ∷ 3 ∷ 5 ∷ 7 ∷ 1 ∷ 0 ∷ 4 ∷ 0 ∷ 3 ∷ 5 ∷ 7 ∷ 0 ∷ 0 ∷ 1 ∷ 7 ∷ 6 ∷ 1 ∷ 0 ∷ 1 ∷ 4 ∷ 0 ∷ 3 ∷ 5 ∷ 7 ∷ 0 ∷ 1 ∷ 255 ∷ 2 ∷ 1 ∷ 1 ∷ 0 ∷ 2 ∷ 1 ∷ 2 ∷ 1 ∷ 0 ∷ 0 ∷ 0 ∷ 1 ∷ 7 ∷ 4 ∷ 1 ∷ 0 ∷ 1 ∷ 4 ∷ 1 ∷ 3 ∷ 5 ∷ 7 ∷ 0 ∷ 1 ∷ 1 ∷ 4 ∷ 1 ∷ 2 ∷ 5 ∷ 7 ∷ 2 ∷ 0 ∷ 4 ∷ 1 ∷ 2 ∷ 5 ∷ 7 ∷ 0 ∷ 1 ∷ 2 ∷ 4 ∷ 1 ∷ 2 ∷ 4 ∷ 7 ∷ 2 ∷ 0 ∷ 4 ∷ 1 ∷ 3 ∷ 5 ∷ 7 ∷ 0 ∷ 2 ∷ 1 ∷ 2 ∷ 4 ∷ 1 ∷ 2 ∷ 4 ∷ 7 ∷ 5 ∷ 2 ∷ 0 ∷ 3 ∷ 0 ∷ 4 ∷ 4 ∷ 1 ∷ 3 ∷ 5 ∷ 7 ∷ 0 ∷ 2 ∷ 1 ∷ 2 ∷ 1 ∷ 7 ∷ 6 ∷ 1 ∷ 0 ∷ 5 ∷ 4 ∷ 1 ∷ 3 ∷ 5 ∷ 7 ∷ 0 ∷ 1 ∷ 255 ∷ 2 ∷ 1 ∷ 1 ∷ 0 ∷ 2 ∷ 1 ∷ 2 ∷ 1 ∷ 0 ∷ 0 ∷ 0 ∷ 1 ∷ 7 ∷ 4 ∷ 1 ∷ 0 ∷ 6 ∷ 3 ∷ 3 ∷ 5 ∷ 7 ∷ 0 ∷ 2 ∷ 0 ∷ 255 ∷ 2 ∷ 1 ∷ 1 ∷ 0 ∷ 2 ∷ 1 ∷ 2 ∷ 1 ∷ 0 ∷ 0 ∷ 0 ∷ 1 ∷ 7 ∷ 3 ∷ 2 ∷ 0 ∷ 2 ∷ 0 ∷ 7 ∷ []) 32 2 16 ∷
    -- Rule 2 with part of the state (D35).
    row request_14 (0 ∷ 9 ∷ 4 ∷ 0 ∷ 3 ∷ 5 ∷ 7 ∷ 0 ∷ 0 ∷ 4 ∷ 0 ∷ 3 ∷ 5 ∷ 7 ∷ 1 ∷ 0 ∷ 4 ∷ 0 ∷ 3 ∷ 5 ∷ 7 ∷ 0 ∷ 0 ∷ 1 ∷ 7 ∷ 6 ∷ 1 ∷ 0 ∷ 0 ∷ 4 ∷ 0 ∷ 3 ∷ 5 ∷ 7 ∷ 0 ∷ 1 ∷ 255 ∷ 2 ∷ 1 ∷ 1 ∷ 0 ∷ 2 ∷ 1 ∷ 2 ∷ 1 ∷ 0 ∷ 0 ∷ 0 ∷ 1 ∷ 7 ∷ 4 ∷ 1 ∷ 0 ∷ 1 ∷ 4 ∷ 1 ∷ 3 ∷ 5 ∷ 7 ∷ 0 ∷ 1 ∷ 1 ∷ 3 ∷ 2 ∷ 5 ∷ 7 ∷ 2 ∷ 0 ∷ 4 ∷ 1 ∷ 2 ∷ 5 ∷ 7 ∷ 0 ∷ 1 ∷ 2 ∷ 4 ∷ 1 ∷ 2 ∷ 4 ∷ 7 ∷ 2 ∷ 0 ∷ 4 ∷ 1 ∷ 3 ∷ 5 ∷ 7 ∷ 0 ∷ 2 ∷ 1 ∷ 2 ∷ 4 ∷ 1 ∷ 2 ∷ 4 ∷ 7 ∷ 5 ∷ 2 ∷ 0 ∷ 3 ∷ 0 ∷ 4 ∷ 4 ∷ 1 ∷ 3 ∷ 5 ∷ 7 ∷ 0 ∷ 2 ∷ 1 ∷ 2 ∷ 1 ∷ 7 ∷ 6 ∷ 1 ∷ 0 ∷ 5 ∷ 4 ∷ 1 ∷ 3 ∷ 5 ∷ 7 ∷ 0 ∷ 1 ∷ 255 ∷ 2 ∷ 1 ∷ 1 ∷ 0 ∷ 2 ∷ 1 ∷ 2 ∷ 1 ∷ 0 ∷ 0 ∷ 0 ∷ 1 ∷ 7 ∷ 4 ∷ 1 ∷ 0 ∷ 6 ∷ 3 ∷ 3 ∷ 5 ∷ 7 ∷ 0 ∷ 2 ∷ 0 ∷ 255 ∷ 2 ∷ 1 ∷ 1 ∷ 0 ∷ 2 ∷ 1 ∷ 2 ∷ 1 ∷ 0 ∷ 0 ∷ 0 ∷ 1 ∷ 7 ∷ 3 ∷ 2 ∷ 0 ∷ 2 ∷ 0 ∷ 7 ∷ []) 34 2 54 ∷
    -- Rule 3 with a line for the first reading alone (D32), and with the right line for the first reading alone (D36).
    row request_14 (lines_14 ++ (1 ∷ 0 ∷ 2 ∷ [])) 34 2 144 ∷
    row request_14 (lines_14 ++ (2 ∷ 0 ∷ 2 ∷ 0 ∷ 2 ∷ [])) 34 2 144 ∷
    -- Rule 4 with a condition that is possible and not within X (D37).
    row request_14 (0 ∷ 3 ∷ 3 ∷ 3 ∷ 5 ∷ 7 ∷ 0 ∷ 0 ∷ 3 ∷ 3 ∷ 5 ∷ 7 ∷ 1 ∷ 0 ∷ 3 ∷ 3 ∷ 5 ∷ 7 ∷ 0 ∷ 0 ∷ 1 ∷ 7 ∷ 6 ∷ 1 ∷ 0 ∷ 0 ∷ 3 ∷ 3 ∷ 5 ∷ 7 ∷ 0 ∷ 1 ∷ 255 ∷ 2 ∷ 1 ∷ 1 ∷ 0 ∷ 2 ∷ 1 ∷ 2 ∷ 1 ∷ 0 ∷ 0 ∷ 0 ∷ 1 ∷ 7 ∷ 4 ∷ 1 ∷ 0 ∷ 1 ∷ []) 34 2 26 ∷
    -- Rule 5 with a middle that is only contained (D38).
    row request_14 (0 ∷ 3 ∷ 3 ∷ 3 ∷ 5 ∷ 7 ∷ 0 ∷ 0 ∷ 3 ∷ 3 ∷ 5 ∷ 7 ∷ 1 ∷ 0 ∷ 2 ∷ 3 ∷ 5 ∷ 0 ∷ 0 ∷ 2 ∷ 3 ∷ 5 ∷ 1 ∷ 0 ∷ 3 ∷ 3 ∷ 5 ∷ 7 ∷ 0 ∷ 0 ∷ 2 ∷ 3 ∷ 5 ∷ 5 ∷ 2 ∷ 0 ∷ 0 ∷ 0 ∷ 1 ∷ []) 34 2 24 ∷
    -- Rule 6 from a line that starts from more (D39).
    row request_14 (0 ∷ 9 ∷ 4 ∷ 0 ∷ 3 ∷ 5 ∷ 7 ∷ 0 ∷ 0 ∷ 4 ∷ 0 ∷ 3 ∷ 5 ∷ 7 ∷ 1 ∷ 0 ∷ 3 ∷ 3 ∷ 5 ∷ 7 ∷ 0 ∷ 0 ∷ 1 ∷ 7 ∷ 6 ∷ 1 ∷ 0 ∷ 0 ∷ 4 ∷ 0 ∷ 3 ∷ 5 ∷ 7 ∷ 0 ∷ 1 ∷ 255 ∷ 2 ∷ 1 ∷ 1 ∷ 0 ∷ 2 ∷ 1 ∷ 2 ∷ 1 ∷ 0 ∷ 0 ∷ 0 ∷ 1 ∷ 7 ∷ 4 ∷ 1 ∷ 0 ∷ 1 ∷ 4 ∷ 1 ∷ 3 ∷ 5 ∷ 7 ∷ 0 ∷ 1 ∷ 1 ∷ 4 ∷ 1 ∷ 2 ∷ 5 ∷ 7 ∷ 2 ∷ 0 ∷ 4 ∷ 1 ∷ 2 ∷ 5 ∷ 7 ∷ 0 ∷ 1 ∷ 2 ∷ 4 ∷ 1 ∷ 2 ∷ 4 ∷ 7 ∷ 2 ∷ 0 ∷ 4 ∷ 1 ∷ 3 ∷ 5 ∷ 7 ∷ 0 ∷ 2 ∷ 1 ∷ 2 ∷ 4 ∷ 1 ∷ 2 ∷ 4 ∷ 7 ∷ 5 ∷ 2 ∷ 0 ∷ 3 ∷ 0 ∷ 4 ∷ 4 ∷ 1 ∷ 3 ∷ 5 ∷ 7 ∷ 0 ∷ 2 ∷ 1 ∷ 2 ∷ 1 ∷ 7 ∷ 6 ∷ 1 ∷ 0 ∷ 5 ∷ 4 ∷ 1 ∷ 3 ∷ 5 ∷ 7 ∷ 0 ∷ 1 ∷ 255 ∷ 2 ∷ 1 ∷ 1 ∷ 0 ∷ 2 ∷ 1 ∷ 2 ∷ 1 ∷ 0 ∷ 0 ∷ 0 ∷ 1 ∷ 7 ∷ 4 ∷ 1 ∷ 0 ∷ 6 ∷ 3 ∷ 3 ∷ 5 ∷ 7 ∷ 0 ∷ 2 ∷ 0 ∷ 255 ∷ 2 ∷ 1 ∷ 1 ∷ 0 ∷ 2 ∷ 1 ∷ 2 ∷ 1 ∷ 0 ∷ 0 ∷ 0 ∷ 1 ∷ 7 ∷ 3 ∷ 2 ∷ 0 ∷ 2 ∷ 0 ∷ 7 ∷ []) 34 2 16 ∷
    -- 34 goes before 35 (D30).
    row request_14 (0 ∷ 1 ∷ 0 ∷ 0 ∷ 0 ∷ 1 ∷ 7 ∷ 1 ∷ 0 ∷ []) 34 2 2 ∷
    []

-- SHOWING: an answer, both inputs, and the part that is shown.
pub record Shown : Type 0 where
  pub answer : Answer
  pub request : List ℕ
  pub derivation : List ℕ
  pub part : Part

abbrev shows : (input place : ℕ) → (part-input start : ℕ) → (bytes : List ℕ) → Shown
shows input place part-input start bytes = record {
  answer = record { number = 34; input = input; place = place; count = 0 };
  request = 5 ∷ 6 ∷ 7 ∷ [];
  derivation = 1 ∷ 2 ∷ [];
  part = record { input = part-input; start = start; bytes = bytes };
}

pub showings : List Shown
showings =
    shows 1 0 1 0 (5 ∷ 6 ∷ 7 ∷ []) ∷
    shows 1 2 1 2 (7 ∷ []) ∷
    shows 2 1 2 1 (2 ∷ []) ∷
    -- At the end and beyond it (FORMAT 6.4, 6.5).
    shows 1 3 1 3 [] ∷
    shows 1 4 1 3 [] ∷
    shows 2 9 2 2 [] ∷
    -- Neither (FORMAT 6.2, 6.3).
    shows 0 1 1 0 [] ∷
    shows 3 1 1 0 [] ∷
    shows 255 2 1 0 [] ∷
    []

pub showings_hold : map (λ (c : Shown). show c.answer c.request c.derivation) showings ≡ map (λ (c : Shown). c.part) showings
unfolding all_open showings
showings_hold = refl

-- Every derivation is answered as its row says.
pub derivations_hold : map (λ (c : Case). check format c.layout c.request c.derivation) derivations ≡ map (λ (c : Case). c.gives) derivations
unfolding all_open table_A file_A request_14 lines_14 derivations
derivations_hold = refl

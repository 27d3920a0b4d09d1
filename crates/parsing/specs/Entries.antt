-- Lists of whatever kind, entry by entry, and what their definitions say of the entries after those before.
use Rattle.std.specs.Prelude.{ℕ, zero, suc, ◌<◌, ◌≡◌, refl, List, [], ◌∷◌, Ok}
use Rattle.meaning.specs.Reading.{Got, got, next, floor_after, count_at, entry_at, entries_at, list_at, value_entry_at, value_entries_at, value_list_at}
use Rattle.parsing.specs.declared.lists.Kind.{Kind}
use Rattle.parsing.specs.Read.{Numbered, numbered, kind_of}

-- One entry was read after those before it, of which nothing is known but what was kept of them, and what is kept now is kept of it too.
pub record EntryRead (entry : List ℕ → Got ℕ) (old new : List ℕ → Type 0) (floor : ℕ) (r : Numbered) : Type 0 where
  pub is : (before : List ℕ) → old before → floor ≡ floor_after before → numbered r ≡ entry before
  pub keeps : (before : List ℕ) (x p : ℕ) → old before → floor ≡ floor_after before → r ≡ Ok (x, p) → new (x ∷ before)
  pub small : (x p : ℕ) → r ≡ Ok (x, p) → x < 32768

pub kind_none : (k : Kind) (n : ℕ) (s : List ℕ) (p : ℕ) (before : List ℕ) → entries_at (kind_of k) n s zero p (floor_after before) ≡ got [] p
unfolding entries_at
kind_none k n s p before = refl

pub kind_more : (k : Kind) (n : ℕ) (s : List ℕ) (left p : ℕ) (before : List ℕ) → entries_at (kind_of k) n s (suc left) p (floor_after before)
    ≡ next (entry_at (kind_of k) n s p (floor_after before)) (λ x q. next (entries_at (kind_of k) n s left q (floor_after (x ∷ before))) (λ xs r. got (x ∷ xs) r))
unfolding entries_at floor_after
kind_more k n s left p before = refl

pub kind_list : (k : Kind) (n most : ℕ) (s : List ℕ) (p : ℕ) → list_at (kind_of k) n most s p ≡ next (count_at 0 most s p) (λ c q. entries_at (kind_of k) n s c q (floor_after []))
unfolding list_at floor_after
kind_list k n most s p = refl

pub values_none : (n : ℕ) (s : List ℕ) (p : ℕ) (before : List ℕ) → value_entries_at n s zero p before ≡ got [] p
unfolding value_entries_at
values_none n s p before = refl

pub values_more : (n : ℕ) (s : List ℕ) (left p : ℕ) (before : List ℕ) → value_entries_at n s (suc left) p before
    ≡ next (value_entry_at n s p before) (λ x q. next (value_entries_at n s left q (x ∷ before)) (λ xs r. got (x ∷ xs) r))
unfolding value_entries_at
values_more n s left p before = refl

pub values_list : (n most : ℕ) (s : List ℕ) (p : ℕ) → value_list_at n most s p ≡ next (count_at 0 most s p) (λ c q. value_entries_at n s c q [])
unfolding value_list_at
values_list n most s p = refl

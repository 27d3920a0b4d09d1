-- The lines of a plan that is joined with another, and those of what is left of a plan, item by item. Assumes nothing.
use Prim.Native.Nat.{ℕ}
use mathlib.Core.Path.{◌≡◌, refl, sym, ◌∙◌, ap, fun_ext}
use Rattle.meaning.specs.Requests.{Table, Sequence, done, item, Item, Request}
use Rattle.meaning.specs.States.{State}
use Rattle.meaning.specs.Derivations.{Conclusion, join, goals_of}
use Rattle.meaning.specs.Schemes.{Writes, lines, item_lines, lines_from}

-- JOINING.
module _ {L : Type 0} where
  pub join_done : (p : Sequence L) → join p done ≡ p
  unfolding join
  join_done done = refl
  join_done (item i p) = ap (item i) (join_done p)

  pub join_join : (p q r : Sequence L) → join (join p q) r ≡ join p (join q r)
  unfolding join
  join_join done q r = refl
  join_join (item i p) q r = ap (item i) (join_join p q r)

-- Of two plans one after the other the second writes its lines where the first goes on.
module _ (t : Table) (Y : Conclusion) where
  pub lines_join : (p q rest : Sequence ℕ) (k : Writes) (s : State) (n : ℕ) → lines t Y (join p q) rest k s n ≡ lines t Y p (join q rest) (lines t Y q rest k) s n
  unfolding join lines
  lines_join done q rest k s n = refl
  lines_join (item i p) q rest k s n =
      ap (λ (r : Sequence ℕ). item_lines t Y i r (lines t Y (join p q) rest k) s n) (join_join p q rest)
      ∙ ap (λ (w : Writes). item_lines t Y i (join p (join q rest)) w s n) (fun_ext (λ (u : State). fun_ext (λ (m : ℕ). lines_join p q rest k u m)))

-- THE LINES OF WHAT IS LEFT: those of an item, where what follows it writes its own.
pub lines_item : (r : Request) (i : Item ℕ) (c : Sequence ℕ) (s : State) (n : ℕ) → lines_from r (item i c) s n ≡ item_lines r.table (goals_of r) i c (lines_from r c) s n
unfolding lines_from lines
lines_item r i c s n = ap (λ (rest : Sequence ℕ). item_lines r.table (goals_of r) i rest (lines_from r c) s n) (join_done c)

-- A branch that is chosen is joined with what follows.
pub lines_branch : (r : Request) (b c : Sequence ℕ) (s : State) (n : ℕ) → lines r.table (goals_of r) b c (lines_from r c) s n ≡ lines_from r (join b c) s n
unfolding lines_from
lines_branch r b c s n =
    sym (lines_join r.table (goals_of r) b c done _ s n
    ∙ ap (λ (rest : Sequence ℕ). lines r.table (goals_of r) b rest (lines_from r c) s n) (join_done c))

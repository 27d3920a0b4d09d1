-- What a walk adds to a standing: one walk after another adds first the one and then the other, so a count that is above the budget is
-- above it wherever the code finds out. Assumes nothing.
use Prim.Native.Nat.{ℕ, ◌+◌, ◌-◌, ◌≤◌, ◌<◌}
use native.Mathlib.Omega.{arith}
use mathlib.Core.Path.{◌≡◌, refl, sym, ◌∙◌, ap}
use mathlib.Core.Bool.{Bool, true, false}
use mathlib.Core.Logic.{◌⊎◌, ⊎_elim}
use lib.Dec.{eqb, ltb}
use borrow.Author.Tests.{eqb-false, eq-eqb, ne_eqb, ltb-true, ltb-false, lt-ltb, le-ltb}
use Rattle.meaning.specs.Tests.{both, either}
use Rattle.meaning.specs.Limits
use Rattle.meaning.specs.Refusals
use Rattle.meaning.specs.Refusals.{nowhere, at}
use Rattle.meaning.specs.States.{State}
use Rattle.meaning.specs.Walk.{Concerned, no_state, in_state, End, fine, missed, stopped, Walked, stopped_at, counted, keep_miss, after_miss, after_end, and_then, end_of}
use Rattle.meaning.proofs.TestLaws.{by-test, clash, pick_true, pick_false}
use Rattle.walking.specs.declared.tally.Tally.{Tally}
use Rattle.walking.specs.declared.tally.Course.{Course}
use Rattle.walking.specs.declared.tally.Course.TheVariants.{Fine, Missed, Stuck, Broken, Other, TooWide, TooMany, Spent}
use Rattle.walking.specs.Standing.{Standing, spent, so_far, spend, add, one, stands, standing, number_of, stateless, stateless_number, Notable, end_by, goes_on, Going}

-- SPENDING. A walk within what is left, or above it.
spend_within : (left : ℕ) (then : End State → End State) (w : Walked State) → w.count ≤ left → spend left then w ≡ so_far (left - w.count) (then w.end)
unfolding spend
spend_within left then w h = pick_false _ _ _ (le-ltb left w.count h)

spend_above : (left : ℕ) (then : End State → End State) (w : Walked State) → left < w.count → spend left then w ≡ spent
unfolding spend
spend_above left then w h = pick_true _ _ _ (lt-ltb left w.count h)

-- A walk that counts nothing.
spend_none : (left : ℕ) (then : End State → End State) (e : End State) → spend left then (record { count = 0; end = e }) ≡ so_far left (then e)
spend_none left then e = let same : left - 0 ≡ left = omega arith in spend_within left then (record { count = 0; end = e }) (omega arith) ∙ ap (λ (x : ℕ). so_far x (then e)) same

-- Two walks whose counts add up, the first within what is left.
spend_two : (left c : ℕ) (f g : End State → End State) (u v : Walked State) → u.count ≡ c + v.count → f u.end ≡ g v.end → c ≤ left → spend left f u ≡ spend (left - c) g v
spend_two left c f g u v counts ends h =
    by-test (ltb (left - c) v.count)
    (λ above.
    let a = ltb-true _ _ above in
    spend_above left f u (omega arith) ∙ sym (spend_above (left - c) g v a))
    (λ within.
    let a = ltb-false _ _ within in
    let same : left - u.count ≡ left - c - v.count = omega arith in
    spend_within left f u (omega arith)
    ∙ ap (λ (x : ℕ). so_far x (f u.end)) same
    ∙ ap (so_far (left - c - v.count)) ends
    ∙ sym (spend_within (left - c) g v a))

-- ADDING one walk after another.
keep_keep : (p q : ℕ) (s t : State) (e : End State) → keep_miss p s (keep_miss q t e) ≡ keep_miss p s e
unfolding keep_miss
keep_keep p q s t fine = refl
keep_keep p q s t (missed r u) = refl
keep_keep p q s t (stopped n r u) = refl

module _ (left c : ℕ) (more : Unit {0} → Walked State) where
  -- Above what is left with the first walk.
  spent_first : (then : End State → End State) (e : End State) → left < c → spend left then (after_end e c more) ≡ spent
  unfolding after_end counted after_miss
  spent_first then fine h = spend_above left then (counted c (more tt)) (omega arith)
  spent_first then (missed p s) h = spend_above left then (counted c (after_miss p s (more tt))) (omega arith)
  spent_first then (stopped n p u) h = spend_above left then (record { count = c; end = stopped n p u }) h

  fine_then : (e : End State) → c ≤ left → spend left (λ x. x) (after_end e c more) ≡ add (so_far (left - c) e) (more tt)
  unfolding after_end counted after_miss add
  fine_then fine h = spend_two left c (λ x. x) (λ x. x) (counted c (more tt)) (more tt) refl refl h
  fine_then (missed p s) h = spend_two left c (λ x. x) (keep_miss p s) (counted c (after_miss p s (more tt))) (more tt) refl refl h
  fine_then (stopped n p u) h = spend_within left (λ x. x) (record { count = c; end = stopped n p u }) h

  missed_then : (q : ℕ) (u : State) (e : End State) → c ≤ left → spend left (keep_miss q u) (after_end e c more) ≡ add (so_far (left - c) (keep_miss q u e)) (more tt)
  unfolding after_end counted after_miss add keep_miss
  missed_then q u fine h = spend_two left c (keep_miss q u) (keep_miss q u) (counted c (more tt)) (more tt) refl refl h
  missed_then q u (missed p s) h = spend_two left c (keep_miss q u) (keep_miss q u) (counted c (after_miss p s (more tt))) (more tt) refl (keep_keep q p u s (more tt).end) h
  missed_then q u (stopped n p s) h = spend_within left (keep_miss q u) (record { count = c; end = stopped n p s }) h

pub add_then : (a : Standing) (w : Walked State) (more : Unit {0} → Walked State) → add a (and_then w more) ≡ add (add a w) (more tt)
unfolding add and_then
add_then spent w more = refl
add_then (so_far left (stopped n p u)) w more = refl
add_then (so_far left fine) w more =
    by-test (ltb left w.count)
    (λ above. let h = ltb-true _ _ above in spent_first left w.count more (λ x. x) w.end h ∙ ap (λ (x : Standing). add x (more tt)) (sym (spend_above left (λ x. x) w h)))
    (λ within. let h = ltb-false _ _ within in fine_then left w.count more w.end h ∙ ap (λ (x : Standing). add x (more tt)) (sym (spend_within left (λ x. x) w h)))
add_then (so_far left (missed q u)) w more =
    by-test (ltb left w.count)
    (λ above. let h = ltb-true _ _ above in spent_first left w.count more (keep_miss q u) w.end h ∙ ap (λ (x : Standing). add x (more tt)) (sym (spend_above left (keep_miss q u) w h)))
    (λ within. let h = ltb-false _ _ within in missed_then left w.count more q u w.end h ∙ ap (λ (x : Standing). add x (more tt)) (sym (spend_within left (keep_miss q u) w h)))

-- One is counted, and then the rest is walked.
pub add_counted : (a : Standing) (w : Walked State) → add a (counted 1 w) ≡ add (add a one) w
unfolding and_then after_end one
add_counted a w = add_then a one (λ _. w)

-- THE TALLY. Where the walk does not go on, nothing is added.
stands_over : (c : Course) (left p : ℕ) (s : State) → goes_on c ≡ false → (w : Walked State) → stands c left p s ≡ add (stands c left p s) w
unfolding goes_on stands add
stands_over Fine left p s off w = clash refl off
stands_over Missed left p s off w = clash refl off
stands_over Stuck left p s off w = refl
stands_over Broken left p s off w = refl
stands_over (Other n) left p s off w = refl
stands_over TooWide left p s off w = refl
stands_over TooMany left p s off w = refl
stands_over Spent left p s off w = refl

pub add_over : (tally : Tally) → goes_on tally.course ≡ false → (w : Walked State) → standing tally ≡ add (standing tally) w
unfolding standing
add_over tally off w = stands_over tally.course tally.left tally.place tally.marks off w

-- WHERE IT GOES ON, it stands so far, and nothing has stopped it.
stands_on : (C : Standing → Type 0) (c : Course) (left p : ℕ) (s : State) → goes_on c ≡ true → C (so_far left fine) → ((q : ℕ) (u : State) → C (so_far left (missed q u))) → C (stands c left p s)
unfolding goes_on stands
stands_on C Fine left p s on f g = f
stands_on C Missed left p s on f g = g p s
stands_on C Stuck left p s on f g = clash on refl
stands_on C Broken left p s on f g = clash on refl
stands_on C (Other n) left p s on f g = clash on refl
stands_on C TooWide left p s on f g = clash on refl
stands_on C TooMany left p s on f g = clash on refl
stands_on C Spent left p s on f g = clash on refl

-- What stops it.
pub add_stopped : (tally : Tally) → Going tally → (n p : ℕ) (u : Concerned State) → so_far tally.left (stopped n p u) ≡ add (standing tally) (stopped_at n p u)
unfolding standing add stopped_at keep_miss
add_stopped tally going n p u =
    stands_on (λ a. so_far tally.left (stopped n p u) ≡ add a (stopped_at n p u)) tally.course tally.left tally.place tally.marks going.on
    (sym (spend_none tally.left (λ x. x) (stopped n p u)))
    (λ q s. sym (spend_none tally.left (keep_miss q s) (stopped n p u)))

-- What an end state adds once it is counted: where nothing was missed before, its end; else nothing.
pub stands_fine : (tally : Tally) → tally.course ≡ Fine → standing tally ≡ so_far tally.left fine
unfolding standing stands
stands_fine tally none = ap (λ (c : Course). stands c tally.left tally.place tally.marks) none

pub add_fine : (tally : Tally) → tally.course ≡ Fine → (e : End State) → add (standing tally) (record { count = 0; end = e }) ≡ so_far tally.left e
unfolding add
add_fine tally none e = ap (λ (a : Standing). add a (record { count = 0; end = e })) (stands_fine tally none) ∙ spend_none tally.left (λ x. x) e

module _ (left p : ℕ) (s : State) (f : Refusals.Found) (u : State) where
  kept_missed : spend left (keep_miss p s) (record { count = 0; end = end_of f u }) ≡ so_far left (missed p s)
  unfolding end_of keep_miss
  kept_missed = kept f
    where
      kept : (f : Refusals.Found) → spend left (keep_miss p s) (record { count = 0; end = end_of f u }) ≡ so_far left (missed p s)
      kept nowhere = spend_none left (keep_miss p s) fine
      kept (at q) = spend_none left (keep_miss p s) (missed q u)

  stands_kept : (c : Course) → (c ≡ Fine → ⊥) → stands c left p s ≡ add (stands c left p s) (record { count = 0; end = end_of f u })
  unfolding stands add
  stands_kept Fine some = absurd (some refl)
  stands_kept Missed some = sym kept_missed
  stands_kept Stuck some = refl
  stands_kept Broken some = refl
  stands_kept (Other n) some = refl
  stands_kept TooWide some = refl
  stands_kept TooMany some = refl
  stands_kept Spent some = refl

pub add_kept : (tally : Tally) → (tally.course ≡ Fine → ⊥) → (f : Refusals.Found) (u : State) → standing tally ≡ add (standing tally) (record { count = 0; end = end_of f u })
unfolding standing
add_kept tally some f u = stands_kept tally.left tally.place tally.marks f u tally.course some

-- ONE COUNTED, or the budget spent.
counted_on : (c : Course) (left p : ℕ) (s : State) → goes_on c ≡ true → 1 ≤ left → stands c (left - 1) p s ≡ add (stands c left p s) one
unfolding goes_on stands add one keep_miss
counted_on Fine left p s on some = sym (spend_within left (λ x. x) one some)
counted_on Missed left p s on some = sym (spend_within left (keep_miss p s) one some)
counted_on Stuck left p s on some = clash on refl
counted_on Broken left p s on some = clash on refl
counted_on (Other n) left p s on some = clash on refl
counted_on TooWide left p s on some = clash on refl
counted_on TooMany left p s on some = clash on refl
counted_on Spent left p s on some = clash on refl

module _ (tally : Tally) (going : Going tally) where
  pub count_spent : tally.left ≡ 0 → standing (record tally { course = Spent }) ≡ add (standing tally) one
  unfolding standing stands add one
  count_spent none =
      stands_on (λ a. spent ≡ add a one) tally.course tally.left tally.place tally.marks going.on
      (sym (spend_above tally.left (λ x. x) one (omega arith)))
      (λ q u. sym (spend_above tally.left (keep_miss q u) one (omega arith)))

  pub count_left : (tally.left ≡ 0 → ⊥) → standing (record tally { left = tally.left - 1 }) ≡ add (standing tally) one
  unfolding standing
  count_left some = counted_on tally.course tally.left tally.place tally.marks going.on (omega arith)

-- NOTED.
pub noted : (tally : Tally) (c : Course) (place : ℕ) (marks : State) → standing (record tally { course = c; place = place; marks = marks }) ≡ stands c tally.left place marks
unfolding standing
noted tally c place marks = refl

-- What may be noted by its number.
stateless_not : (number : ℕ) → eqb number Limits.sensing_too_wide ≡ false → eqb number Limits.too_many_cases ≡ false → stateless_number number ≡ false
unfolding stateless_number either
stateless_not number wide many = rw (wide, many) refl

pub notable : (number : ℕ) → 1 ≤ number → eqb number 3 ≡ false → eqb number Limits.sensing_too_wide ≡ false → eqb number Limits.too_many_cases ≡ false → Notable number
notable number least other wide many = record { some = least; within = eqb-false number 3 other; stated = stateless_not number wide many }

-- By a number: a miss, or what stops the walk.
pub by_missed : (number : ℕ) → number ≡ Limits.goal_missed → (left place : ℕ) (marks : State) → stands Missed left place marks ≡ so_far left (end_by number place marks)
unfolding stands end_by
by_missed number is left place marks = ap (so_far left) (sym (pick_true _ _ _ (eq-eqb number Limits.goal_missed is)))

by_stop : (number : ℕ) → (number ≡ Limits.goal_missed → ⊥) → (left place : ℕ) (marks : State) → so_far left (stopped number place (in_state marks)) ≡ so_far left (end_by number place marks)
unfolding end_by
by_stop number more left place marks = ap (so_far left) (sym (pick_false _ _ _ (ne_eqb number Limits.goal_missed more)))

pub by_stuck : (number : ℕ) → number ≡ Limits.not_executable → (left place : ℕ) (marks : State) → stands Stuck left place marks ≡ so_far left (end_by number place marks)
unfolding stands
by_stuck number is left place marks = ap (λ (n : ℕ). so_far left (stopped n place (in_state marks))) (sym is) ∙ by_stop number (λ e. omega (arith, e, is)) left place marks

pub by_broken : (number : ℕ) → number ≡ Limits.guard_broken → (left place : ℕ) (marks : State) → stands Broken left place marks ≡ so_far left (end_by number place marks)
unfolding stands
by_broken number is left place marks = ap (λ (n : ℕ). so_far left (stopped n place (in_state marks))) (sym is) ∙ by_stop number (λ e. omega (arith, e, is)) left place marks

pub by_other : (number : ℕ) → (number ≡ Limits.goal_missed → ⊥) → (left place : ℕ) (marks : State) → stands (Other number) left place marks ≡ so_far left (end_by number place marks)
unfolding stands
by_other number more left place marks = by_stop number more left place marks

-- Too many readings or cases.
gives_up : (c : Course) (left place : ℕ) (s : State) → stateless c ≡ true → stands c left place s ≡ so_far left (stopped (number_of c) place no_state)
unfolding stateless stands number_of
gives_up Fine left p s none = clash none refl
gives_up Missed left p s none = clash none refl
gives_up Stuck left p s none = clash none refl
gives_up Broken left p s none = clash none refl
gives_up (Other n) left place s none = clash none refl
gives_up TooWide left p s none = refl
gives_up TooMany left p s none = refl
gives_up Spent left p s none = clash none refl

pub given_up : (tally : Tally) (c : Course) (place : ℕ) → stateless c ≡ true → standing (record tally { course = c; place = place }) ≡ so_far tally.left (stopped (number_of c) place no_state)
unfolding standing
given_up tally c place none = gives_up c tally.left place tally.marks none

-- OPENED.
pub opens : (budget place : ℕ) (marks : State) → standing (record { left = budget; course = Fine; place = place; marks = marks }) ≡ so_far budget fine
unfolding standing stands
opens budget place marks = refl

pub opens_going : (budget place : ℕ) (marks : State) → Going (record { left = budget; course = Fine; place = place; marks = marks })
unfolding goes_on
opens_going budget place marks = record { on = refl }

-- WHETHER IT GOES ON.
pub on_fine : (c : Course) → (c ≡ Fine) ⊎ (c ≡ Missed) → true ≡ goes_on c
unfolding goes_on
on_fine c is = ⊎_elim (λ e. sym (ap goes_on e)) (λ e. sym (ap goes_on e)) is

pub on_other : (c : Course) → (c ≡ Fine → ⊥) → (c ≡ Missed → ⊥) → false ≡ goes_on c
unfolding goes_on
on_other Fine nothing something = absurd (nothing refl)
on_other Missed nothing something = absurd (something refl)
on_other Stuck nothing something = refl
on_other Broken nothing something = refl
on_other (Other n) nothing something = refl
on_other TooWide nothing something = refl
on_other TooMany nothing something = refl
on_other Spent nothing something = refl

-- WHETHER THERE IS MORE TO READ.
pub more_on : (on : Bool) (c : Course) → on ≡ goes_on c → on ≡ true → (wide m last v : ℕ) → wide ≡ m → last ≡ v → ltb wide last ≡ both (goes_on c) (ltb m v)
unfolding both
more_on on c says yes-on wide m last v is e = rw (sym says, yes-on, is, e)

pub more_over : (on : Bool) (c : Course) → on ≡ goes_on c → on ≡ false → (w : Bool) → on ≡ both (goes_on c) w
unfolding both
more_over on c says no-more w = rw (sym says, no-more)

-- Each literal that is known true leaves the first miss among those behind it.
use Rattle.valuing.proofs.TwosLaws.{count_there, first_fits}
use Rattle.steps.proofs.MissLaws.{values_start, values_over, values_on, values_here, number_fits, literal_fits, second_byte_fits, literal_inside, second_inside, value_near, value_second}
use borrow.Author.Rules.{rules}
use Rattle.steps.proofs.goals.first_value_missed.Goals as goal

pub bounds-s-p : goal.bounds-s-p
bounds-s-p c = search count_there

pub loop-k-init : goal.loop-k-init
loop-k-init c = search values_start

pub overflow_add-at : goal.overflow_add-at
overflow_add-at c = search first_fits

pub overflow_mul-at : goal.overflow_mul-at
overflow_mul-at c = search number_fits

pub overflow_add-at-in-loop-k : goal.overflow_add-at-in-loop-k
overflow_add-at-in-loop-k c = search literal_fits

pub overflow_add-at-in-loop-k-2 : goal.overflow_add-at-in-loop-k-2
overflow_add-at-in-loop-k-2 c = search second_byte_fits

pub bounds-s-at : goal.bounds-s-at
bounds-s-at c = search literal_inside

pub bounds-s-at-in-loop-k : goal.bounds-s-at-in-loop-k
bounds-s-at-in-loop-k c = search second_inside

pub known-requires : goal.known-requires
known-requires c = search (rules, value_near, value_second)

pub loop-k-preserved : goal.loop-k-preserved
loop-k-preserved c = search values_on

pub returns-then-not-known : goal.returns-then-not-known
returns-then-not-known c = search values_here

pub returns : goal.returns
returns c = search values_over

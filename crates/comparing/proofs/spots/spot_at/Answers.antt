-- Some line stands here, so each part that is passed over is there; the parts passed over are those of the definition.
use Rattle.comparing.proofs.SpotLaws.{plain_list, plain_rule, plain_cites, plain_spot, closing_rule, closing_there, closing_fits, fluent_fits, fluent_spot, closing_list, list_spot}
use Rattle.comparing.proofs.spots.spot_at.Goals as goal

pub sequence_of-at-requires : goal.sequence_of-at-requires
sequence_of-at-requires c = search plain_list

pub overflow_add-result : goal.overflow_add-result
overflow_add-result c = search plain_cites

pub bounds-d-at : goal.bounds-d-at
bounds-d-at c = search plain_rule

pub bounds-d-e : goal.bounds-d-e
bounds-d-e c = search closing_rule

pub overflow_add-conclusion : goal.overflow_add-conclusion
overflow_add-conclusion c = search closing_fits

pub bounds-d-e-then-gives_fluent : goal.bounds-d-e-then-gives_fluent
bounds-d-e-then-gives_fluent c = search closing_there

pub overflow_add-conclusion-then-gives_fluent : goal.overflow_add-conclusion-then-gives_fluent
overflow_add-conclusion-then-gives_fluent c = search fluent_fits

pub overflow_add-conclusion-else-gives_fluent : goal.overflow_add-conclusion-else-gives_fluent
overflow_add-conclusion-else-gives_fluent c = search closing_fits

pub overflow_add-e : goal.overflow_add-e
overflow_add-e c = search closing_fits

pub sequence_of-requires : goal.sequence_of-requires
sequence_of-requires c = search closing_list

pub returns-in-Plain : goal.returns-in-Plain
returns-in-Plain c = search plain_spot

pub returns-then-gives_fluent : goal.returns-then-gives_fluent
returns-then-gives_fluent c = search fluent_spot

pub returns-else-gives_fluent : goal.returns-else-gives_fluent
returns-else-gives_fluent c = search list_spot

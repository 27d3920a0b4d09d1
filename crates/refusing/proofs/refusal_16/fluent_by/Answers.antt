-- A literal of flags is its fluent's number twice, or one more; a literal of values begins with its fluent.
use Rattle.refusing.proofs.Laws16.{flags_fluent, values_fluent}
use Rattle.refusing.proofs.refusal_16.fluent_by.Goals as goal

pub returns-in-Flags : goal.returns-in-Flags
returns-in-Flags c = search flags_fluent

pub returns-in-Valued : goal.returns-in-Valued
returns-in-Valued c = search values_fluent

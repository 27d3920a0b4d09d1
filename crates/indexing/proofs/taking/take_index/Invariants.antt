-- At each turn the actions that are left give what all of them give, and their parts of the index stand from q on.
use Rattle.finding.specs.TablesHere.{table_in}
use Rattle.indexing.specs.IndexNotes.{index_taken}
use Rattle.indexing.proofs.TakeLaws.{Indexing}
use Rattle.meaning.specs.declared.Form.TheVariants.{Flags}
use Rattle.indexing.proofs.taking.take_index.Given as goal

abbrev pub invariant-loop-a : goal.invariant-loop-a
invariant-loop-a l = Indexing l.index (table_in Flags l.s) (index_taken l.index 0 (table_in Flags l.s).actions 0 0 0 l.initial.t) l.t l.actions l.q l.effects l.runs l.a

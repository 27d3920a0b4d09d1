-- One law for each way that a reader of items, sequences, branches and branchings returns, and for how its loop goes on.
use Rattle.std.proofs.Common.{rules}
use Rattle.reading.proofs.ItemLaws.{item_many, item_inside, item_fits, item_branching, item_large, item_act, item_fault}
use Rattle.reading.proofs.BranchLaws.{branch_whole, branch_fault, branching_none, branching_begins, branches_onward, branches_stopped, branches_over, branching_fault}
use Rattle.reading.proofs.SequenceLaws.{sequence_begins, item_was_below, item_most, items_onward, items_stopped, items_over, sequence_fault}
use Rattle.reading.proofs.plan.+branch_at_branching_at_item_at_sequence_at.Goals as goal

pub branch_at-returns-in_err-sequence : goal.branch_at-returns-in_err-sequence
branch_at-returns-in_err-sequence g t c = search (rules, branch_fault)

pub branch_at-returns : goal.branch_at-returns
branch_at-returns g t c = search (rules, branch_whole)

pub branching_at-returns-then-deep-eq0 : goal.branching_at-returns-then-deep-eq0
branching_at-returns-then-deep-eq0 g t c = search (rules, branching_none)

pub branching_at-returns-in_err-count : goal.branching_at-returns-in_err-count
branching_at-returns-in_err-count g t c = search (rules, branching_fault)

pub branching_at-loop-init : goal.branching_at-loop-init
branching_at-loop-init g t c = branching_begins _ _ _ _ _ _ _ _ c.count_at.ensures _ _ _ c.if-deep-eq0.false c.requires.i_lt_format c.in_ok-count.was

pub branching_at-returns-in_err-more : goal.branching_at-returns-in_err-more
branching_at-returns-in_err-more g t c = search (rules, branches_stopped)

pub branching_at-loop-preserved : goal.branching_at-loop-preserved
branching_at-loop-preserved g t c = branches_onward _ _ _ _ _ _ _ _ _ _ _ _ _ _ _ _ c.loop.invariant c.loop-test.true c.branch_at.ensures c.in_ok-more.was

pub branching_at-returns : goal.branching_at-returns
branching_at-returns g t c = search (rules, branches_over)

pub item_at-returns-in_err-x : goal.item_at-returns-in_err-x
item_at-returns-in_err-x g t c = search (rules, item_fault)

pub item_at-returns-then-met-ge-ITEMS : goal.item_at-returns-then-met-ge-ITEMS
item_at-returns-then-met-ge-ITEMS g t c = item_many _ _ _ _ _ _ _ c.args.t.now _ c.byte_at.ensures _ _ c.in_ok-x.was _ _ c.if-met-ge-ITEMS.true c.at.ensures

pub item_at-put-requires-clause-value_bound : goal.item_at-put-requires-clause-value_bound
item_at-put-requires-clause-value_bound g t c = search (rules, item_fits)

pub item_at-branching_at-requires : goal.item_at-branching_at-requires
item_at-branching_at-requires g t c = λ κs outlives. (search rules, (outlives, (c.requires.s_len_bound, (item_inside g.S.Shape.FORM c.args.input.now.fluents c.args.input.now.actions c.args.deep _ _ c.args.met c.args.t.now _ c.byte_at.ensures _ _ c.in_ok-x.was, search rules))))

pub item_at-returns-then-x-from : goal.item_at-returns-then-x-from
item_at-returns-then-x-from g t c = item_branching _ _ _ _ _ _ _ c.args.t.now _ c.byte_at.ensures _ _ c.in_ok-x.was _ _ _ c.if-met-ge-ITEMS.false (rw c.from.ensures at c.if-x-from.true) c.put.ensures c.branching_at.ensures

pub item_at-returns-then-input-x : goal.item_at-returns-then-input-x
item_at-returns-then-input-x g t c = item_large _ _ _ _ _ _ _ c.args.t.now _ c.byte_at.ensures _ _ c.in_ok-x.was _ _ c.if-met-ge-ITEMS.false (rw c.from.ensures at c.if-x-from.false) c.if-input-x.true c.at-then-input-x.ensures

pub item_at-put-requires-2-clause-value_bound : goal.item_at-put-requires-2-clause-value_bound
item_at-put-requires-2-clause-value_bound g t c = search (rules, item_fits)

pub item_at-returns : goal.item_at-returns
item_at-returns g t c = item_act _ _ _ _ _ _ _ c.args.t.now _ c.byte_at.ensures _ _ c.in_ok-x.was _ c.if-met-ge-ITEMS.false (rw c.from.ensures at c.if-x-from.false) c.if-input-x.false c.put-2.ensures

pub sequence_at-returns-in_err-count : goal.sequence_at-returns-in_err-count
sequence_at-returns-in_err-count g t c = search (rules, sequence_fault)

pub sequence_at-loop-i-init : goal.sequence_at-loop-i-init
sequence_at-loop-i-init g t c = sequence_begins _ _ _ _ _ _ _ _ _ _ c.two_bytes_at.ensures _ _ c.requires.before_le_format c.in_ok-count.was

pub sequence_at-returns-in_err-more : goal.sequence_at-returns-in_err-more
sequence_at-returns-in_err-more g t c = search (rules, items_stopped)

pub sequence_at-note_next-requires-clause-met_lt_format : goal.sequence_at-note_next-requires-clause-met_lt_format
sequence_at-note_next-requires-clause-met_lt_format g t c = search (rules, item_was_below)

pub sequence_at-note_next-requires-clause-more_le_format : goal.sequence_at-note_next-requires-clause-more_le_format
sequence_at-note_next-requires-clause-more_le_format g t c = search (rules, item_most)

pub sequence_at-loop-i-preserved : goal.sequence_at-loop-i-preserved
sequence_at-loop-i-preserved g t c = items_onward _ _ _ _ _ _ _ _ _ _ _ _ _ c.loop-i.invariant _ _ c.item_at.ensures c.loop-i-test.true _ _ _ c.in_ok-more.was c.note_next.ensures

pub sequence_at-returns : goal.sequence_at-returns
sequence_at-returns g t c = search (rules, items_over)

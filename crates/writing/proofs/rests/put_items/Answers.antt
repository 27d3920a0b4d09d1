-- A turn copies one item from where it stands; what is left from the position after it makes of the room what the whole makes of it.
use Rattle.writing.proofs.RestPutLaws.{items_start, item_less, slot_fits, slot_there, place_near, items_fit, part_order, part_inside, place_fits, items_next, items_less, items_end, items_within, items_counted, items_few, items_are}
use borrow.Author.Rules.{rules}
use Rattle.writing.proofs.rests.put_items.Goals as goal

pub loop-i-init : goal.loop-i-init
loop-i-init c = search items_start

pub overflow_add-i : goal.overflow_add-i
overflow_add-i c = search slot_fits

pub get-start-requires : goal.get-start-requires
get-start-requires c = search slot_there

pub item_end-end-requires : goal.item_end-end-requires
item_end-end-requires c = search (rules, item_less)

pub put_part-requires : goal.put_part-requires
put_part-requires c = search (rules, part_order, part_inside, place_near)

pub overflow_sub-p : goal.overflow_sub-p
overflow_sub-p c = search part_order

pub overflow_add-p : goal.overflow_add-p
overflow_add-p c = search place_fits

pub overflow_add-items : goal.overflow_add-items
overflow_add-items c = search items_fit

pub follow-i-requires : goal.follow-i-requires
follow-i-requires c = search (rules, item_less)

pub loop-i-smaller : goal.loop-i-smaller
loop-i-smaller c = search items_less

pub loop-i-preserved : goal.loop-i-preserved
loop-i-preserved c = search items_next

pub returns-clause-after : goal.returns-clause-after
returns-clause-after c = search items_end

pub returns-clause-within : goal.returns-clause-within
returns-clause-within c = search items_within

pub returns-clause-items : goal.returns-clause-items
returns-clause-items c = search items_counted

pub returns-clause-few : goal.returns-clause-few
returns-clause-few c = search items_few

pub returns-clause-written : goal.returns-clause-written
returns-clause-written c = search items_are

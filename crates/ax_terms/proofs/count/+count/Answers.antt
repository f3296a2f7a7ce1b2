use Rattle.ax_terms.proofs.CountLaws.{item_counted, items_counted, items_end, member_counted, members_counted, members_end}
use Rattle.ax_terms.proofs.count.+count.Goals as goal

pub count_items-loop-item-preserved : goal.count_items-loop-item-preserved
count_items-loop-item-preserved t c =
    item_counted c.behind_item.new.self c.loop-item.counter c.count_tree.new.counter
    c.in_ok-place.place _ c.as_slice-item-items.result.now c.loop-item.item-index c.item-item.result
    c.loop-item-test.true c.item-item.is c.in_ok-count_tree.ensures c.loop-item.invariant

pub count_items-returns : goal.count_items-returns
count_items-returns t c =
    items_counted c.args.counter.now c.behind_item.new.self c.loop-item.counter c.args.at
    c.in_ok-place.place c.as_slice-item-items.result.now c.args.items.now
    c.as_slice-item-items.ensures c.in_ok-place.ensures
    (c.loop-item.invariant c.loop-item.counter
    (items_end c.loop-item.counter c.in_ok-place.place c.as_slice-item-items.result.now
    c.loop-item.item-index c.loop-item-test.false))

pub count_members-loop-member-preserved : goal.count_members-loop-member-preserved
count_members-loop-member-preserved t c =
    member_counted c.args.counter.now c.loop-member.counter c.behind_name.new.self
    c.count_tree.new.counter c.args.at c.in_ok-place.place _ c.as_slice-member-items.result.now
    c.loop-member.member-index c.member-item.result c.loop-member-test.true c.member-item.is
    c.in_ok-place.ensures c.in_ok-count_tree.ensures c.loop-member.invariant

pub count_members-returns : goal.count_members-returns
count_members-returns t c =
    members_counted c.args.counter.now c.loop-member.counter c.args.at
    c.as_slice-member-items.result.now c.args.members.now c.as_slice-member-items.ensures.members
    (c.loop-member.invariant c.loop-member.counter
    (members_end c.loop-member.counter c.args.at c.as_slice-member-items.result.now
    c.loop-member.member-index c.loop-member-test.false))

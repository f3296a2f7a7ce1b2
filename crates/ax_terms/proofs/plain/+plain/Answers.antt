use Rattle.std.proofs.Common.{◌≡◌, arith, rules, sym, ◌∙◌}
use Rattle.std.proofs.lemmas.Grind.{common_steps}
use Rattle.ax_terms.proofs.Adding.{item_added, items_added, items_end, member_added, members_added, members_end}
use Rattle.ax_terms.proofs.plain.+plain.Goals as goal

pub append_items-loop-item-preserved : goal.append_items-loop-item-preserved
append_items-loop-item-preserved t c = record {
  front = c.in_ok-append_leaves.ensures.front ∙ c.loop-item.invariant.front;
  terms =
      item_added c.item-below.result c.append_step.new.out.items c.loop-item.front.items
      c.append_leaves.new.front.items _ c.as_slice-item-items.result.now c.loop-item.item-index
      c.item-item.result c.args.terms.now.items c.loop-item.terms.items
      c.append_leaves.new.terms.items c.loop-item-test.true c.item-item.is
      c.in_ok-append_leaves.ensures.front c.in_ok-append_leaves.ensures.terms
      c.loop-item.invariant.terms;
}

pub append_items-returns-clause-terms : goal.append_items-returns-clause-terms
append_items-returns-clause-terms t c =
    items_added c.args.walk c.item-below.result c.args.front.now.items c.append_step.new.out.items
    c.as_slice-item-items.result.now c.args.items.now c.args.terms.now.items c.loop-item.terms.items
    c.as_slice-item-items.ensures c.item-below.ensures c.in_ok-append_step.ensures.ok
    (c.loop-item.invariant.terms c.loop-item.terms.items
    (items_end c.item-below.result c.loop-item.front.items c.as_slice-item-items.result.now
    c.loop-item.item-index c.loop-item.terms.items c.loop-item-test.false))

pub append_members-loop-member-preserved : goal.append_members-loop-member-preserved
append_members-loop-member-preserved t c =
    let same : c.truncate.new.self.items ≡ c.args.front.now.items = first_of (search rules, grind (arith, common_steps)) in
    record {
      front = same;
      terms =
          member_added c.args.walk c.name_near-below.result c.args.front.now.items
          c.loop-member.front.items c.truncate.new.self.items c.append_name.new.out.items _
          c.as_slice-member-items.result.now c.loop-member.member-index c.member-item.result
          c.as_str.result.now c.args.terms.now.items c.loop-member.terms.items
          c.append_leaves.new.terms.items c.loop-member-test.true c.member-item.is
          c.as_str.ensures.text c.name_near-below.ensures c.in_ok-append_name.ensures.ok
          (same ∙ sym c.loop-member.invariant.front) c.in_ok-append_leaves.ensures.terms
          c.loop-member.invariant.terms;
    }

pub append_members-returns-clause-terms : goal.append_members-returns-clause-terms
append_members-returns-clause-terms t c =
    members_added c.args.walk c.args.front.now.items c.as_slice-member-items.result.now
    c.args.members.now c.args.terms.now.items c.loop-member.terms.items
    c.as_slice-member-items.ensures.members
    (c.loop-member.invariant.terms c.loop-member.terms.items
    (members_end c.args.walk c.loop-member.front.items c.as_slice-member-items.result.now
    c.loop-member.member-index c.loop-member.terms.items c.loop-member-test.false))

use Rattle.std.proofs.Common.{◌≡◌, ◌++◌, List, arith, rules, sym, ap, subst, refl, ◌∙◌}
use Rattle.std.proofs.lemmas.Grind.{common_steps}
use Rattle.std.proofs.lemmas.Result.{on_ok_weaker}
use Rattle.ax_mean.specs.declared.query.Step.TheVariants.{Name}
use Rattle.ax_term.specs.TermBytes.{step_bytes}
use Rattle.ax_tree.specs.Names.{HaveRisingNames}
use Rattle.ax_tree.specs.declared.members.Member.{Member}
use Rattle.ax_tree.specs.declared.tree.Tree.{Tree}
use Rattle.ax_terms.specs.Adding.{AddsAt}
use Rattle.ax_terms.specs.Leaves.{leaves_in, member_leaves}
use Rattle.ax_terms.proofs.Passing.{ahead_rises, all_turned, behind_rises, turn_down, turn_gone, turn_passed}
use Rattle.ax_terms.proofs.differing.+differing.Goals as goal

pub append_maps-loop-member-preserved-in_default : goal.append_maps-loop-member-preserved-in_default
append_maps-loop-member-preserved-in_default t c = record {
  len = c.loop-member.invariant.len;
  front = c.in_ok-append_member.ensures.front ∙ c.in_ok-ahead.ensures.front ∙ c.loop-member.invariant.front;
  rise =
      ahead_rises c.args.walk c.args.front.now.items c.loop-member.front.items c.as_str-name.result.now
      c.as_slice-member-items.result.now c.as_slice-others.result.now c.loop-member.others.now c.in_ok-ahead.ahead.now
      c.loop-member.member-index c.member-item.result c.args.gone.now.items c.args.come.now.items
      c.loop-member.gone.items c.loop-member.come.items c.append_before.new.terms.items c.loop-member-test.true
      c.member-item.is c.as_str-name.ensures.text
      (subst (λ (ms : List (Member Tree)). HaveRisingNames ms) (sym c.as_slice-member-items.ensures.members)
      c.as_slice-member-items.ensures.rising)
      c.loop-member.invariant.rise c.in_ok-ahead.ensures.terms c.in_ok-ahead.ensures.left
      c.loop-member.invariant.terms;
  terms =
      turn_gone c.args.walk c.args.front.now.items c.loop-member.front.items c.as_str-name.result.now
      c.as_slice-member-items.result.now c.as_slice-others.result.now c.loop-member.others.now c.in_ok-ahead.ahead.now
      c.loop-member.member-index c.member-item.result c.args.gone.now.items c.args.come.now.items
      c.loop-member.gone.items c.loop-member.come.items c.append_before.new.terms.items c.loop-member-test.true
      c.member-item.is c.as_str-name.ensures.text
      (subst (λ (ms : List (Member Tree)). HaveRisingNames ms) (sym c.as_slice-member-items.ensures.members)
      c.as_slice-member-items.ensures.rising)
      c.loop-member.invariant.rise c.in_ok-ahead.ensures.terms c.in_ok-ahead.ensures.left
      c.loop-member.invariant.terms
      c.append_member.new.front.items c.append_member.new.terms.items
      (c.in_ok-append_member.ensures.front ∙ c.in_ok-ahead.ensures.front) c.in_default.ensures
      (subst (λ f. AddsAt c.args.walk f (member_leaves (leaves_in c.member-item.result)) c.loop-member.gone.items
      c.append_member.new.terms.items) c.in_ok-ahead.ensures.front c.in_ok-append_member.ensures.terms);
}

pub append_maps-loop-member-preserved-then-is_passed : goal.append_maps-loop-member-preserved-then-is_passed
append_maps-loop-member-preserved-then-is_passed t c = record {
  len = c.loop-member.invariant.len;
  front = c.in_ok-ahead.ensures.front ∙ c.loop-member.invariant.front;
  rise =
      behind_rises c.args.walk c.args.front.now.items c.loop-member.front.items c.as_str-name.result.now
      c.as_slice-member-items.result.now c.as_slice-others.result.now c.loop-member.others.now c.in_ok-ahead.ahead.now
      c.loop-member.member-index c.member-item.result c.args.gone.now.items c.args.come.now.items
      c.loop-member.gone.items c.loop-member.come.items c.append_before.new.terms.items c.loop-member-test.true
      c.member-item.is c.as_str-name.ensures.text
      (subst (λ (ms : List (Member Tree)). HaveRisingNames ms) (sym c.as_slice-member-items.ensures.members)
      c.as_slice-member-items.ensures.rising)
      c.loop-member.invariant.rise c.in_ok-ahead.ensures.terms c.in_ok-ahead.ensures.left
      c.loop-member.invariant.terms
      c.in-Some.value.now c.in-Some.behind.now c.in-Some.ensures;
  terms =
      turn_passed c.args.walk c.args.front.now.items c.loop-member.front.items c.as_str-name.result.now
      c.as_slice-member-items.result.now c.as_slice-others.result.now c.loop-member.others.now c.in_ok-ahead.ahead.now
      c.loop-member.member-index c.member-item.result c.args.gone.now.items c.args.come.now.items
      c.loop-member.gone.items c.loop-member.come.items c.append_before.new.terms.items c.loop-member-test.true
      c.member-item.is c.as_str-name.ensures.text
      (subst (λ (ms : List (Member Tree)). HaveRisingNames ms) (sym c.as_slice-member-items.ensures.members)
      c.as_slice-member-items.ensures.rising)
      c.loop-member.invariant.rise c.in_ok-ahead.ensures.terms c.in_ok-ahead.ensures.left
      c.loop-member.invariant.terms
      c.in-Some.value.now c.in-Some.behind.now c.in-Some.ensures
      c.append_before.new.front.items c.in_ok-ahead.ensures.front (c.if-is_passed.ensures refl);
}

pub append_maps-loop-member-preserved : goal.append_maps-loop-member-preserved
append_maps-loop-member-preserved t c =
    let same : c.truncate.new.self.items ≡ c.args.front.now.items = first_of (search rules, grind (arith, common_steps)) in
    record {
      len = c.loop-member.invariant.len;
      front = same;
      rise =
          behind_rises c.args.walk c.args.front.now.items c.loop-member.front.items c.as_str-name.result.now
          c.as_slice-member-items.result.now c.as_slice-others.result.now c.loop-member.others.now c.in_ok-ahead.ahead.now
          c.loop-member.member-index c.member-item.result c.args.gone.now.items c.args.come.now.items
          c.loop-member.gone.items c.loop-member.come.items c.append_before.new.terms.items c.loop-member-test.true
          c.member-item.is c.as_str-name.ensures.text
          (subst (λ (ms : List (Member Tree)). HaveRisingNames ms) (sym c.as_slice-member-items.ensures.members)
          c.as_slice-member-items.ensures.rising)
          c.loop-member.invariant.rise c.in_ok-ahead.ensures.terms c.in_ok-ahead.ensures.left
          c.loop-member.invariant.terms
          c.in-Some.value.now c.in-Some.behind.now c.in-Some.ensures;
      terms =
          turn_down c.args.walk c.args.front.now.items c.loop-member.front.items c.as_str-name.result.now
          c.as_slice-member-items.result.now c.as_slice-others.result.now c.loop-member.others.now c.in_ok-ahead.ahead.now
          c.loop-member.member-index c.member-item.result c.args.gone.now.items c.args.come.now.items
          c.loop-member.gone.items c.loop-member.come.items c.append_before.new.terms.items c.loop-member-test.true
          c.member-item.is c.as_str-name.ensures.text
          (subst (λ (ms : List (Member Tree)). HaveRisingNames ms) (sym c.as_slice-member-items.ensures.members)
          c.as_slice-member-items.ensures.rising)
          c.loop-member.invariant.rise c.in_ok-ahead.ensures.terms c.in_ok-ahead.ensures.left
          c.loop-member.invariant.terms
          c.in-Some.value.now c.in-Some.behind.now c.in-Some.ensures
          c.name_near-below.result c.append_name.new.out.items c.truncate.new.self.items
          c.append_differing.new.gone.items c.append_differing.new.come.items
          (same ∙ sym c.loop-member.invariant.front) c.name_near-below.ensures
          (c.in_ok-append_name.ensures.ok
          ∙ ap (λ f. f ++ step_bytes (Name c.member-item.result.name)) c.in_ok-ahead.ensures.front)
          c.in_ok-append_differing.ensures.terms;
    }

pub append_maps-returns-clause-terms : goal.append_maps-returns-clause-terms
append_maps-returns-clause-terms t c =
    on_ok_weaker c.append_rest.result
    (λ adds.
    all_turned c.args.walk c.args.front.now.items c.loop-member.front.items c.as_slice-member-items.result.now
    c.args.old.now c.args.new.now c.as_slice-others.result.now c.loop-member.others.now c.loop-member.member-index
    c.args.gone.now.items c.args.come.now.items c.loop-member.gone.items c.loop-member.come.items
    c.append_rest.new.terms.items c.loop-member-test.false c.as_slice-member-items.ensures.members
    c.as_slice-others.ensures.members adds c.loop-member.invariant.terms)
    c.append_rest.ensures.terms

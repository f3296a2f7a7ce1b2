-- The closure compares a member's name with the name.
use Rattle.std.proofs.Common.{rules, arith}
use Rattle.std.specs.Cmp.Lexicographic.{slice_cmp}
use Rattle.std.specs.Ordering.{nat_cmp}
use Rattle.std.proofs.lemmas.Fn.{always_returns_same}
use Rattle.ax_tree.specs.declared.members.Member.{Member}
use Rattle.ax_policy.specs.declared.rule_tree.RuleTree.{RuleTree}
use Rattle.ax_policy.proofs.Searching.{same_from_Equal, no_fall}
use Rattle.ax_policy.proofs.name_places.place_of.Goals as goal

pub returns-in-Ok-clause-found : goal.returns-in-Ok-clause-found
returns-in-Ok-clause-found c = (
  c.in-Ok.ensures.bound,
  λ d. same_from_Equal _ c.args.name.now
      (c.in-Ok.ensures.position
      (λ (y : Member RuleTree). slice_cmp nat_cmp y.name c.args.name.now)
      (always_returns_same _ _ _ (λ a r f k. search rules)) d),
)

pub returns-in-Err-clause-absent : goal.returns-in-Err-clause-absent
returns-in-Err-clause-absent c rising =
    let sides = c.in-Err.ensures.position
    (λ (y : Member RuleTree). slice_cmp nat_cmp y.name c.args.name.now)
    (always_returns_same _ _ _ (λ a r f k. search rules)) (no_fall c.args.names.now c.args.name.now rising) in
    ((c.in-Err.ensures.bound, λ k d l. sides.0 k d (omega (arith, l, c.in-Err.ensures.bound)) l), sides.1)

-- The last of them comes before the name, and those before it come before it.
use Rattle.std.proofs.Common.{rules, ◌≡◌, ◌+◌, List, ℕ, sym, ap, ◌∙◌, subst}
use Rattle.std.specs.Cmp.Lexicographic.{slice_cmp}
use Rattle.std.specs.Ordering.{nat_cmp}
use Rattle.ax_tree.specs.declared.members.Member.{Member}
use Rattle.ax_policy.specs.declared.rule_tree.RuleTree.{RuleTree}
use Rattle.ax_policy.specs.RuleTrees.{AreBefore}
use Rattle.ax_policy.proofs.NamePlaces.{all_before}
use Rattle.ax_policy.proofs.Searching.{is_lt_Less}
use Rattle.ax_policy.proofs.name_places.is_before.Goals as goal

pub returns-in-Some-get : goal.returns-in-Some-get
returns-in-Some-get c less rising =
    let behind : c.in-Some.last + 1 ≡ c.args.near = search rules in
    subst (AreBefore c.args.name.now c.args.names.now) behind
    (all_before c.args.names.now c.args.name.now c.in-Some.last rising (
      c.in-Some-get.ensures.lookup.3.0,
      λ d. ap (λ (m : Member RuleTree). slice_cmp nat_cmp m.name c.args.name.now) (sym (c.in-Some-get.ensures.lookup.3.1 d))
          ∙ ap (λ (n : List ℕ). slice_cmp nat_cmp n c.args.name.now) (sym c.as_str.ensures.text)
          ∙ sym c.cmp.ensures ∙ is_lt_Less c.cmp.result (sym c.is_lt.ensures ∙ less),
    ))

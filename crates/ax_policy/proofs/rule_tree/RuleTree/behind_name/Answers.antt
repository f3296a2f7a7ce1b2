use Rattle.std.proofs.Common.{◌≡◌, ◌<◌, get_or, length, ap, ◌∙◌, subst}
use Rattle.std.specs.Str.{bytes_eq}
use Rattle.ax_tree.specs.declared.members.Member.{Member}
use Rattle.ax_policy.specs.declared.rule_tree.RuleTree.{RuleTree, out-RuleTree}
use Rattle.ax_policy.proofs.NamePlaces.{found_at}
use Rattle.ax_policy.proofs.rule_tree.RuleTree.behind_name.Goals as goal

pub returns-then-eq : goal.returns-then-eq
returns-then-eq c =
    found_at (out-RuleTree c.args.self.now).names c.args.name.now c.args.near.now c.in-Some.member.now
    c.as_slice-names.ensures.rising
    (subst (λ l. (c.args.near.now < length l) × ((d : Member RuleTree) → c.in-Some.member.now ≡ get_or l c.args.near.now d))
    c.as_slice-names.ensures.members c.in-Some.ensures.lookup.3)
    (c.if-eq.ensures ∙ ap (λ n. bytes_eq n c.args.name.now) c.as_str.ensures.text)

use Rattle.std.proofs.Common.{List, ℕ, sym, ap, ◌∙◌}
use Rattle.std.specs.Cmp.Lexicographic.{slice_cmp}
use Rattle.std.specs.Ordering.{nat_cmp}
use Rattle.ax_tree.specs.declared.members.Member.{Member}
use Rattle.ax_policy.specs.declared.rule_tree.RuleTree.{RuleTree}
use Rattle.ax_policy.proofs.NamePlaces.{room_here}
use Rattle.ax_policy.proofs.Searching.{same_from_Equal}
use Rattle.ax_policy.proofs.name_places.place_ahead.Goals as goal

pub returns-in-Equal-clause-found : goal.returns-in-Equal-clause-found
returns-in-Equal-clause-found c = (
  c.in-Some.ensures.lookup.3.0,
  λ d. ap (λ (m : Member RuleTree). m.name) (sym (c.in-Some.ensures.lookup.3.1 d))
      ∙ sym c.as_str.ensures.text
      ∙ same_from_Equal c.as_str.result.now c.args.name.now (sym c.cmp.ensures ∙ c.in-Equal.is),
)

pub returns-in-Greater-clause-absent : goal.returns-in-Greater-clause-absent
returns-in-Greater-clause-absent c rising =
    room_here c.args.names.now c.args.name.now c.loop.at rising (c.loop.invariant rising) (
      c.in-Some.ensures.lookup.3.0,
      λ d. ap (λ (m : Member RuleTree). slice_cmp nat_cmp m.name c.args.name.now) (sym (c.in-Some.ensures.lookup.3.1 d))
          ∙ ap (λ (n : List ℕ). slice_cmp nat_cmp n c.args.name.now) (sym c.as_str.ensures.text)
          ∙ sym c.cmp.ensures ∙ c.in-Greater.is,
    )

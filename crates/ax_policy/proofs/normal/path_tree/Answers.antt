-- The one member.
use Rattle.std.proofs.Common.{refl, ap, ◌∙◌}
use Rattle.ax_tree.specs.declared.tree.Tree.TheVariants as tree
use Rattle.ax_policy.specs.Normal.{text_tree}
use Rattle.ax_policy.proofs.NormalTrees.{one, rising}
use Rattle.ax_policy.proofs.normal.path_tree.Goals as goal

pub from_vec-requires : goal.from_vec-requires
from_vec-requires c = rising _ _ (one _ _ _ _ c.new.ensures.items c.in_ok-members.ensures) refl

pub returns : goal.returns
returns c =
    ap tree.Object (c.from_vec.ensures ∙ one _ _ _ _ c.new.ensures.items c.in_ok-members.ensures)
    ∙ ap text_tree c.as_str.ensures.text

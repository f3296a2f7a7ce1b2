-- The two members, whose names rise.
use Rattle.std.proofs.Common.{List, ℕ, refl, ap, ◌∙◌}
use Rattle.std.specs.Prelude.{codes}
use Rattle.ax_tree.specs.declared.tree.Tree.TheVariants as tree
use Rattle.ax_policy.specs.Paths.{steps_text}
use Rattle.ax_policy.proofs.NormalTrees.{two, two_of, rising}
use Rattle.ax_policy.proofs.normal.part_tree.Goals as goal

pub from_vec-requires : goal.from_vec-requires
from_vec-requires c =
    rising _ _ (two _ _ _ _ _ _ _ c.new.ensures.items c.in_ok-order.ensures c.in_ok-members.ensures)
    refl

pub returns : goal.returns
returns c =
    ap tree.Object
    (c.from_vec.ensures
    ∙ two _ _ _ _ _ _ _ c.new.ensures.items c.in_ok-order.ensures c.in_ok-members.ensures)
    ∙ ap (λ (w : List ℕ). tree.Object (two_of (codes "order") (tree.Text w) (codes "path")
    (tree.Text (steps_text c.args.part.now.path)))) c.order_word.ensures

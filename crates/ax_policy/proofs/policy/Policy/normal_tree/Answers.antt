-- The five members, whose names rise.
use Rattle.std.proofs.Common.{refl, ◌∙◌}
use Rattle.ax_policy.proofs.NormalTrees.{five, rising, made}
use Rattle.ax_policy.proofs.policy.Policy.normal_tree.Goals as goal

pub from_vec-requires : goal.from_vec-requires
from_vec-requires c =
    rising _ _ (five _ _ _ _ _ _ _ _ _ _ _ c.new.ensures.items c.in_ok-automatic.ensures
    c.in_ok-composites.ensures c.in_ok-excluded.ensures c.in_ok-included.ensures
    c.in_ok-members.ensures) refl

pub returns : goal.returns
returns c =
    made c.args.self.now _ _ _ _
    (c.from_vec.ensures
    ∙ five _ _ _ _ _ _ _ _ _ _ _ c.new.ensures.items c.in_ok-automatic.ensures
    c.in_ok-composites.ensures c.in_ok-excluded.ensures c.in_ok-included.ensures
    c.in_ok-members.ensures)
    c.as_slice-rules.ensures.rules c.as_slice.ensures c.mode_word.ensures

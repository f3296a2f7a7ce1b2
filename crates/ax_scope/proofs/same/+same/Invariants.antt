-- What is left is the same exactly where the whole is.
use Rattle.std.proofs.Common.{◌≡◌, drop, map}
use Rattle.ax_grammar.specs.SameExprs.{is_same_expr, all_pass, all_chained_pass, all_members_pass}
use Rattle.ax_scope.specs.EachPart.{chained_seen, member_seen}
use Rattle.ax_scope.proofs.same.+same.Given as goal

abbrev pub invariant-same_exprs-loop-at : goal.invariant-same_exprs-loop-at
invariant-same_exprs-loop-at l =
    all_pass (map is_same_expr (drop l.at l.left)) (drop l.at l.right)
    ≡ all_pass (map is_same_expr l.left) l.right

abbrev pub invariant-same_chains-loop-at : goal.invariant-same_chains-loop-at
invariant-same_chains-loop-at l =
    all_chained_pass (map (chained_seen is_same_expr) (drop l.at l.left)) (drop l.at l.right)
    ≡ all_chained_pass (map (chained_seen is_same_expr) l.left) l.right

abbrev pub invariant-same_members-loop-at : goal.invariant-same_members-loop-at
invariant-same_members-loop-at l =
    all_members_pass (map (member_seen is_same_expr) (drop l.at l.left)) (drop l.at l.right)
    ≡ all_members_pass (map (member_seen is_same_expr) l.left) l.right

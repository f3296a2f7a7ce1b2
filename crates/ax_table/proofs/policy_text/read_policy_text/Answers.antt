use Rattle.std.proofs.lemmas.Bool.{both_ways}
use Rattle.ax_table.proofs.PolicyTexts.{is_text_of, no_policy, not_normal}
use Rattle.ax_table.proofs.policy_text.read_policy_text.Goals as goal

pub returns-in-Err-clause-outside : goal.returns-in-Err-clause-outside
returns-in-Err-clause-outside c = λ is.
    no_policy c.in_ok-tree.tree c.args.text.now c.in_ok-tree.ensures.well_formed c.in_ok-tree.ensures.spelled (c.in-Err.ensures.outside is)

pub returns-in-Ok-true-clause-policy : goal.returns-in-Ok-true-clause-policy
returns-in-Ok-true-clause-policy c =
    is_text_of c.in_ok-tree.tree c.args.text.now c.in_ok-tree.ensures.well_formed c.in_ok-tree.ensures.spelled c.in-Ok.policy c.in-Ok.ensures.policy
    (c.in-Ok-true.ensures.yes c.in-Ok-true.field-0-test)

pub returns-in-Ok-false-clause-outside : goal.returns-in-Ok-false-clause-outside
returns-in-Ok-false-clause-outside c = λ is.
    not_normal c.in_ok-tree.tree c.args.text.now c.in_ok-tree.ensures.well_formed c.in_ok-tree.ensures.spelled c.in-Ok.policy c.in-Ok.ensures.policy
    (λ same. both_ways c.in-Ok-false.field-0 c.in-Ok-false.field-0-test (c.in-Ok-false.ensures.no same))

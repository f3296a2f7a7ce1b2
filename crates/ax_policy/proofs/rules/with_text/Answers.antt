-- The path of the text is told from others as the text is.
use Rattle.std.proofs.Common.{Some, sym, ◌∙◌}
use Rattle.std.proofs.lemmas.Result.{IfOk-weaker}
use Rattle.ax_policy.proofs.SamePaths.{text_added, not_none}
use Rattle.ax_policy.proofs.rules.with_text.Goals as goal

pub returns-in-Ok-Some : goal.returns-in-Ok-Some
returns-in-Ok-Some c =
    IfOk-weaker c.with_path.result _ _
    (λ more. text_added c.args.text.now c.in-Ok-Some.path c.args.included (Some c.args.tree) (Some more)
    c.requires (sym c.in-Ok-Some.field-0-is ∙ c.in-Ok-Some.ensures.path)) c.with_path.ensures

pub returns-in-Ok-None : goal.returns-in-Ok-None
returns-in-Ok-None c = not_none c.args.text.now c.requires (sym c.in-Ok-None.field-0-is ∙ c.in-Ok-None.ensures.path)

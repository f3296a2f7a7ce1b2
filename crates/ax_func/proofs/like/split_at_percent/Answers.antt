-- The text is cut where its first `%` stands.
use Rattle.std.proofs.Common.{◌∷◌, ◌++◌, List, ℕ, ap₂, sym, ◌∙◌, arith}
use Rattle.std.specs.Str.{chars}
use Rattle.ax_func.proofs.Pieces.{at_percent}
use Rattle.ax_func.proofs.like.split_at_percent.Goals as goal

pub returns-in-Some : goal.returns-in-Some
returns-in-Some c =
    let e = c.in-Some.ensures.cases in (
      at_percent c.args.pattern.now c.utf8.pattern e.0 e.1 e.2.1 (omega (arith, e.5, e.7))
          ∙ sym (ap₂ (λ (a b : List ℕ). chars a ++ 37 ∷ chars b) e.3 e.4),
      omega (arith, e.5, e.6, e.7, e.2.1.ends),
    )

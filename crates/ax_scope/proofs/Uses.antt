-- Which aliases the expressions of a query use.
use Rattle.std.proofs.Common.{◌≡◌, ℕ, List, Bool, ◌&&◌, ap, ◌∙◌}
use Rattle.std.specs.List.{list_all}
use Rattle.ax_grammar.specs.Parts.{are_declared}
use Rattle.ax_grammar.specs.Scope.{aliases_of, aliases_fit, exprs_picked, exprs_optional}
use Rattle.ax_grammar.specs.Written.{Written}

-- each alias in the expressions is one of these
abbrev pub uses_only : List (List ℕ) → Written → Bool
uses_only aliases w =
    list_all (are_declared aliases) (exprs_picked w.picked)
    && list_all (are_declared aliases) (exprs_optional w.condition)
    && list_all (are_declared aliases) w.groups

pub by_declared : (aliases : List (List ℕ)) (w : Written) (r : Bool) → aliases ≡ aliases_of w
    → r ≡ uses_only aliases w → r ≡ aliases_fit w
by_declared aliases w r declared uses = uses ∙ ap (λ names. uses_only names w) declared

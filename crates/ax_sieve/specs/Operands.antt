-- What expressions come to where an alias stands for the document.
use Rattle.std.specs.Prelude.{◌≡◌, ℕ, List, Bool}
use Rattle.std.specs.List.{list_all}
use Rattle.ax_tree.specs.declared.tree.Tree.{Tree}
use Rattle.ax_mean.specs.declared.expr.Expr.{Expr}
use Rattle.ax_mean.specs.declared.value.Value.TheVariants.{Defined}
use Rattle.ax_mean.specs.Meaning.{Env, bound, is_yes, meaning}
use Rattle.ax_mean.specs.Values.{truth_of}

-- the alias stands for the document
abbrev pub StandsFor : Env → List ℕ → Tree → Type 0
StandsFor env alias tree = bound env alias ≡ Defined tree

abbrev pub is_true : Env → Expr → Bool
is_true env expr = is_yes (truth_of (meaning env expr))

-- each of the expressions is true
abbrev pub are_true : Env → List Expr → Bool
are_true env = list_all (is_true env)

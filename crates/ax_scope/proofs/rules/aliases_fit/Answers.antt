-- The aliases that are given are those that are declared.
use Rattle.std.proofs.Common.{rules}
use Rattle.ax_scope.specs.AsWritten.{written_of}
use Rattle.ax_scope.proofs.Uses.{by_declared}
use Rattle.ax_scope.proofs.rules.aliases_fit.Goals as goal

pub returns-then-condition_declared : goal.returns-then-condition_declared
returns-then-condition_declared c =
    by_declared c.args.aliases.now (written_of c.args.written.now) _ c.requires (search rules)

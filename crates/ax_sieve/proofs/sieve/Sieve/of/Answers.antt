use Rattle.std.proofs.Common.{◌≡◌, Some, rules}
use Rattle.ax_sieve.proofs.Rows.{no_rows}
use Rattle.ax_sieve.proofs.sieve.Sieve.of.Goals as goal

pub returns-clause-sifts : goal.returns-clause-sifts
returns-clause-sifts c =
    no_rows c.args.query.now c.in-Some-Some.condition c.in-Some-Some.alias.now c.operands.result.now
    c.in_ok-conditions.conditions.items (search rules) c.in-Some-Some.ensures c.operands.ensures c.in_ok-conditions.ensures

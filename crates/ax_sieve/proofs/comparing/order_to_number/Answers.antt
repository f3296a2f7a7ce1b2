use Rattle.std.proofs.Common.{◌≡◌, rules}
use Rattle.ax_skim.specs.declared.scalar.Scalar.TheVariants as scalar
use Rattle.ax_sieve.specs.declared.found.Found.TheVariants as found
use Rattle.ax_sieve.proofs.Comparisons.{numbers_ordered}
use Rattle.ax_sieve.proofs.comparing.order_to_number.Goals as goal

pub returns-in-Scalar-Number : goal.returns-in-Scalar-Number
returns-in-Scalar-Number c =
    let same : c.args.found.now ≡ found.Scalar (scalar.Number c.in-Scalar-Number.own) = first_of (cc, search rules) in
    numbers_ordered c.args.found.now c.in-Scalar-Number.own c.args.number.now c.cmp.result same c.cmp.ensures

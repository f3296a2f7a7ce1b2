-- Where no place passes the test for a newline, no byte does.
use Rattle.std.proofs.Common.{arith}
use Rattle.ax_lines.proofs.Newlines.{none_in_front, nowhere_in}
use Rattle.ax_lines.proofs.script_lines.first_line.Goals as goal

pub returns-in-Some-clause-line : goal.returns-in-Some-clause-line
returns-in-Some-clause-line c =
    none_in_front _ c.args.bytes.now c.in-Some.at (omega (arith, c.in-Some.ensures.0.high))
    (λ k h. c.in-Some.ensures.0.before k (omega arith) h)

pub returns-in-None-clause-none : goal.returns-in-None-clause-none
returns-in-None-clause-none c =
    nowhere_in _ c.args.bytes.now (λ k h. c.in-None.ensures k (omega arith) h)

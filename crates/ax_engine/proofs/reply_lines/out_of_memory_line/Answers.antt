-- The digit of the refusal's number.
use Rattle.std.proofs.Common.{◌++◌, codes, sym, ap, arith}
use Rattle.std.proofs.lemmas.Fmt.{decimal_digit}
use Rattle.ax_lines.specs.ScriptLines.{with_newline}
use Rattle.ax_engine.proofs.reply_lines.out_of_memory_line.Goals as goal

pub returns : goal.returns
returns c =
    sym (ap (λ digits. with_newline (codes "err " ++ digits ++ codes " " ++ codes "memory"))
    (decimal_digit 9 (omega arith)))

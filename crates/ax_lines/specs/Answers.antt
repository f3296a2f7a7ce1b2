-- When a call answers what the definitions give for a line, `meant`: the value, or the refusal.
-- That memory ran out may be answered at any time.
use Rattle.std.specs.Prelude.{◌≡◌, Result, Ok, Err}
use Rattle.ax_lines.specs.declared.line.LineFault.{LineFault}
use Rattle.ax_lines.specs.declared.line.LineFault.TheVariants.{Refused, Memory}
use Rattle.ax_lines.specs.declared.refusal.Refusal.{Refusal}

abbrev pub IsRefusedBy : {A : Type 0} → LineFault → Result A Refusal → Type 0
IsRefusedBy (Refused why) meant = meant ≡ Err why
IsRefusedBy Memory meant = Unit {0}

-- the answer is what is meant
abbrev pub Answers : {A : Type 0} → Result A LineFault → Result A Refusal → Type 0
Answers (Ok found) meant = meant ≡ Ok found
Answers (Err fault) meant = IsRefusedBy fault meant

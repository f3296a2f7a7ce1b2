-- What was written first was written first, whatever comes of the rest.
use Rattle.std.proofs.Common.{List, ℕ, Option, Some, None, Result, IsOk, IfSome}
use Rattle.std.specs.Fmt.{DisplaysOnOk, IsPlainFormatter}
use Rattle.std.specs.declared.fmt.Error.{Error}
use Rattle.std.specs.declared.fmt.Formatter.{Formatter}
use Rattle.ax_files.specs.Lines.{HasBegun}

pub begins : {W : Type 0} (took : W → List ℕ → W → Type 0) (f g : Formatter W) (first : Result (Unit {0}) Error)
    (o : Option (List ℕ)) → IsPlainFormatter f → IsOk first → DisplaysOnOk took f first o g
    → IfSome o (λ text. HasBegun took f text)
begins took f g first None plain ok writes = tt
begins took f g first (Some text) plain ok writes = record { then_on = g; written = writes plain ok }

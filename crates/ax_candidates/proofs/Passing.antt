-- The bytes of slots that others have, over two calls that read.
use Rattle.std.proofs.Common.{◌≡◌, List, Bool, true, false, sym, ◌∙◌, subst}
use Rattle.std.specs.Prelude.{slice_index_or}
use Rattle.ax_pool.specs.Frames.{Frames}
use Rattle.ax_index.specs.Reads.{KeepsTaken}

pub keeps_then : (old mid new : Frames) → mid.taken ≡ old.taken → KeepsTaken old mid → KeepsTaken mid new → KeepsTaken old new
keeps_then old mid new same first second number is =
    second number (subst (λ (taken : List Bool). slice_index_or taken number false ≡ true) (sym same) is) ∙ first number is

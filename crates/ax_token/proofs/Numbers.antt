-- Each number of a list in memory is of its width.
use Rattle.std.proofs.Common.{ℕ, suc, ◌<◌, ◌^◌, List, [], ◌∷◌}
use Rattle.std.specs.Prelude.{slice_index}
use Rattle.std.specs.List.{AllByRecursion}
use Rattle.ax_token.specs.TokenBytes.{IsU32}

-- so each of them is, one by one
pub all_u32 : (xs : List ℕ) → ((i : ℕ) → slice_index xs i < 2 ^ 32) → AllByRecursion IsU32 xs
all_u32 [] each = tt
all_u32 (x ∷ xs) each = (each 0, all_u32 xs (λ i. each (suc i)))

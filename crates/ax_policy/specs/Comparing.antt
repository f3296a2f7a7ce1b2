-- Bytes compared with others that are told piece by piece: what is left of them behind a piece, or
-- that they differ from it, whatever follows. No public clause cites these words.
use Rattle.std.specs.Prelude.{◌≡◌, ℕ, List, ◌++◌}
use Rattle.std.specs.Cmp.Lexicographic.{slice_cmp}
use Rattle.std.specs.Ordering.{nat_cmp}
use Rattle.std.specs.declared.cmp.Ordering.{Ordering}
use Rattle.std.specs.declared.cmp.Ordering.TheVariants.{Equal}

-- behind the piece the rest decides
abbrev pub GoesOn : List ℕ → List ℕ → List ℕ → Type 0
GoesOn text piece rest =
    (follow : List ℕ) → slice_cmp nat_cmp text (piece ++ follow) ≡ slice_cmp nat_cmp rest follow

-- the piece decides
abbrev pub Ends : List ℕ → List ℕ → Ordering → Type 0
Ends text piece order =
    ((follow : List ℕ) → slice_cmp nat_cmp text (piece ++ follow) ≡ order)
    × (order ≡ Equal → ⊥)

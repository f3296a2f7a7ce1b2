-- Ranges of terms, by the bytes of terms. The store's own term format, docs/FORMAT.md.
use Rattle.std.specs.Prelude.{ℕ, List, Bool, ◌&&◌}
use Rattle.std.specs.Ordering.{is_le, is_lt}
use Rattle.ax_term.specs.TermOrder.{order_of_bytes}
use Rattle.ax_term.specs.declared.range.TermRange.{TermRange}

-- whether a term of these bytes is not before the range's first bytes, and before its last ones
abbrev pub is_in_range : TermRange → List ℕ → Bool
is_in_range range term =
    is_le (order_of_bytes range.from term) && is_lt (order_of_bytes term range.below)

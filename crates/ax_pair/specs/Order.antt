-- The order of pairs.
use Rattle.std.specs.Prelude.{◌≡◌, List, [], ◌∷◌}
use Rattle.std.specs.declared.cmp.Ordering.{Ordering}
use Rattle.std.specs.declared.cmp.Ordering.TheVariants.{Less}
use Rattle.std.specs.Ordering.{nat_cmp, ordering_then}
use Rattle.std.specs.Cmp.Lexicographic.{slice_cmp}
use Rattle.ax_pair.specs.declared.pair.Pair.{Pair}

-- by term, byte by byte, and then by number
abbrev pub pair_cmp : Pair → Pair → Ordering
pair_cmp p q = ordering_then (slice_cmp nat_cmp p.term q.term) (nat_cmp p.number q.number)

-- each pair is after the one before, and the first after p
abbrev pub RiseAfter : Pair → List Pair → Type 0
RiseAfter p [] = Unit {0}
RiseAfter p (q ∷ pairs) = (pair_cmp p q ≡ Less) × RiseAfter q pairs

abbrev pub Rise : List Pair → Type 0
Rise [] = Unit {0}
Rise (p ∷ pairs) = RiseAfter p pairs

-- The first pair is not before the low one. So, where they rise, none is.
abbrev pub BeginsFrom : Pair → List Pair → Type 0
BeginsFrom low [] = Unit {0}
BeginsFrom low (p ∷ pairs) = pair_cmp p low ≡ Less → ⊥

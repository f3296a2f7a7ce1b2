-- The order of bytes as the laws of comparisons want it.
use Rattle.std.proofs.Common.{◌≡◌, ℕ, List, sym, Some, nat_eq}
use Rattle.std.specs.Ordering.{nat_cmp, eq_by_cmp}
use Rattle.std.specs.Cmp.{IsPartialOrder, po}
use Rattle.std.specs.Cmp.Lexicographic.{slice_cmp, pointwise}
use Rattle.std.proofs.lemmas.Cmp.{nat_list_cmp_total}
use Rattle.std.proofs.lemmas.Map.Text.{is_eq-slice_cmp}

-- equal bytes are those that compare as equal
pub bytes_tie : (x y : List ℕ) → pointwise nat_eq x y ≡ eq_by_cmp (slice_cmp nat_cmp) x y
bytes_tie x y = sym (is_eq-slice_cmp x y)

-- the order of bytes is a partial order
pub bytes_po : IsPartialOrder (pointwise nat_eq) (λ x y. Some (slice_cmp nat_cmp x y))
bytes_po = po nat_list_cmp_total bytes_tie

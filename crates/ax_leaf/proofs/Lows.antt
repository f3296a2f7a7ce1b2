-- The payload of a base begins with its low pair.
use Rattle.std.proofs.Common.{◌≡◌, ℕ, List, [], ◌++◌, length, Some}
use Rattle.ax_gap.specs.Varint.{varint}
use Rattle.ax_pair.proofs.Lows.{low_again}
use Rattle.ax_pair.specs.Low.{low_in}
use Rattle.ax_pair.specs.declared.pair.Pair.{Pair}
use Rattle.ax_leaf.specs.Pairs.{Posting}
use Rattle.ax_leaf.specs.Payload.{list_after, IsLeaf}
use Rattle.ax_leaf.proofs.Whole.{leaf_parts}

pub leaf_low : (bytes : List ℕ) (low : Pair) (postings : List Posting) → IsLeaf bytes low postings → low_in bytes ≡ Some low
leaf_low bytes low postings is = low_again bytes low.term (varint (length postings) ++ list_after [] postings) low.number is.short is.number
    (leaf_parts bytes low postings is)

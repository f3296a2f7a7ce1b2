-- What the index can hold of a document: no encoded path of a leaf is too long, and its terms, where all its leaves
-- are covered, are not too many and have not too many bytes together. Each term counts once; that of the id and
-- those of composites do not count.
-- It is this project's own; it comes from no public document.
use Rattle.std.specs.Prelude.{ℕ, List, length, map, sum_by, Bool, ◌&&◌, nat_le}
use Rattle.ax_tree.specs.declared.tree.Tree.{Tree}
use Rattle.ax_tree.specs.Nesting.{greatest}
use Rattle.ax_terms.specs.Counts.{distinct_terms, path_size}
use Rattle.ax_terms.specs.Leaves.{leaves}

-- the most bytes that the encoded path of a leaf has, its end with them
abbrev pub most_path_bytes : ℕ
most_path_bytes = 1024

-- the most terms that a document has
abbrev pub most_terms : ℕ
most_terms = 4096

-- the most bytes that all these have
abbrev pub most_term_bytes : ℕ
most_term_bytes = 1048576

-- the terms of a document whose leaves are all covered, each once
abbrev pub all_terms : Tree → List (List ℕ)
all_terms tree = distinct_terms (leaves tree)

-- the bytes of the longest path
abbrev pub longest_path : Tree → ℕ
longest_path tree = greatest (map path_size (leaves tree))

-- the paths are short, there are so many terms at most, and these have so many bytes at most
abbrev pub fits_within : ℕ → ℕ → Tree → Bool
fits_within terms bytes tree =
    (nat_le (longest_path tree) most_path_bytes && nat_le (length (all_terms tree)) terms)
    && nat_le (sum_by length (all_terms tree)) bytes

abbrev pub fits_index : Tree → Bool
fits_index = fits_within most_terms most_term_bytes

-- How many terms a document has where all its leaves are covered, and how large they are.
use Rattle.std.specs.Prelude.{ℕ, ◌-◌, ◌^◌, List, map, min, length, sum_by}
use Rattle.std.specs.Set.{unique_keys}
use Rattle.std.specs.Str.{bytes_eq}
use Rattle.ax_tree.specs.declared.tree.Tree.{Tree}
use Rattle.ax_tree.specs.Nesting.{greatest}
use Rattle.ax_term.specs.TermBytes.{path_bytes}
use Rattle.ax_terms.specs.declared.term_count.TermCount.{TermCount}
use Rattle.ax_terms.specs.Leaves.{Leaf, leaves}
use Rattle.ax_terms.specs.TermsOf.{leaf_term}

-- the terms of leaves, each once
abbrev pub distinct_terms : List Leaf → List (List ℕ)
distinct_terms given = unique_keys bytes_eq (map leaf_term given)

-- the bytes of the encoded path of a leaf, its end with them
abbrev pub path_size : Leaf → ℕ
path_size leaf = length (path_bytes leaf.path)

-- the number, and 2^64 - 1 where it is more
abbrev pub capped : ℕ → ℕ
capped n = min n (2 ^ 64 - 1)

abbrev pub counts_of : List Leaf → TermCount
counts_of given =
    record {
      count = capped (length (distinct_terms given));
      bytes = capped (sum_by length (distinct_terms given));
      longest_path = capped (greatest (map path_size given));
    }

abbrev pub term_count : Tree → TermCount
term_count given = counts_of (leaves given)

-- Pairs that are put together by their terms: a term with the numbers that it has.
use Rattle.std.specs.Prelude.{ℕ, List, [], ◌∷◌, ◌++◌, if◌then◌else◌}
use Rattle.std.specs.Str.{bytes_eq}
use Rattle.ax_pair.specs.declared.pair.Pair.{Pair}

-- a term, and the numbers that it has
pub record Posting : Type 0 where
  pub term : List ℕ
  pub numbers : List ℕ

-- the pairs of a term with each of these numbers
abbrev pub pairs_with : List ℕ → List ℕ → List Pair
pairs_with term [] = []
pairs_with term (n ∷ numbers) = record { term = term; number = n } ∷ pairs_with term numbers

-- the pairs of postings, in order
abbrev pub pairs_of : List Posting → List Pair
pairs_of [] = []
pairs_of (posting ∷ postings) = pairs_with posting.term posting.numbers ++ pairs_of postings

-- the postings of pairs, where a term and the numbers of the pairs before stand ready
unfoldable pub postings_from : List ℕ → List ℕ → List Pair → List Posting
postings_from term numbers [] = record { term = term; numbers = numbers } ∷ []
postings_from term numbers (p ∷ pairs) =
    if bytes_eq p.term term
    then postings_from term (numbers ++ p.number ∷ []) pairs
    else record { term = term; numbers = numbers } ∷ postings_from p.term (p.number ∷ []) pairs

-- the postings of pairs: those of one term stand together
unfoldable pub postings_of : List Pair → List Posting
postings_of [] = []
postings_of (p ∷ pairs) = postings_from p.term (p.number ∷ []) pairs

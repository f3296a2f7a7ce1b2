-- Looking a term up among postings.
use Rattle.std.specs.Prelude.{◌≡◌, ℕ, ◌≤◌, List, [], ◌∷◌, Option, Some, None, length, if◌then◌else◌}
use Rattle.std.specs.Str.{bytes_eq}
use Rattle.std.specs.declared.cmp.Ordering.TheVariants.{Greater}
use Rattle.std.specs.Ordering.{nat_cmp}
use Rattle.std.specs.Cmp.Lexicographic.{slice_cmp}
use Rattle.ax_leaf.specs.Pairs.{Posting}
use Rattle.ax_leaf.specs.Payload.{common}
use Rattle.ax_leaf.specs.ShortTerm.{whole_term}

-- the numbers of the posting of this term, where there is one
abbrev pub numbers_under : List ℕ → List Posting → Option (List ℕ)
numbers_under term [] = None
numbers_under term (posting ∷ postings) =
    if bytes_eq posting.term term then Some posting.numbers else numbers_under term postings

-- the first is not after the second, by bytes
abbrev pub IsUpTo : List ℕ → List ℕ → Type 0
IsUpTo a b = slice_cmp nat_cmp a b ≡ Greater → ⊥

-- What a search knows of a term that is written after `last`: none of it and the term that is
-- sought is before `last`, which has so many bytes in common with the sought one.
pub record IsMet (last sought : List ℕ) (matched shared : ℕ) (rest : List ℕ) : Type 0 where
  pub within : shared ≤ length last
  pub longest : common last (whole_term last shared rest) ≡ shared
  pub rises : IsUpTo last (whole_term last shared rest)
  pub matches : common last sought ≡ matched
  pub below : IsUpTo last sought

-- How many pages the pairs of a page take when it is written anew.
-- It is this project's own; it comes from no public document.
use Rattle.std.specs.Prelude.{◌≡◌, ℕ, zero, suc, ◌+◌, ◌-◌, ◌<◌, ◌≤◌, ◌==◌, ◌&&◌, ◌⊎◌, nat_lt, if◌then◌else◌, List, [], ◌∷◌, length}
use Rattle.ax_leaf.specs.Payload.{common}
use Rattle.ax_pair.specs.declared.pair.Pair.{Pair}
use Rattle.ax_pages.specs.AfterPart.{most_term_pages}
use Rattle.ax_index.specs.DeltaSizes.{HasLongTerm}

-- how many bytes a number takes, seven bits a byte
abbrev pub number_bytes : ℕ → ℕ
number_bytes n =
    if nat_lt n 128 then 1 else (if nat_lt n 16384 then 2 else (if nat_lt n 2097152 then 3 else (if nat_lt n 268435456 then 4 else 5)))

-- as how many bytes a pair of a base is counted behind another
abbrev pub bytes_beside : Pair → Pair → ℕ
bytes_beside before pair =
    if (common before.term pair.term == length pair.term) && (common before.term pair.term == length before.term)
    then number_bytes (pair.number - before.number)
    else 4 + number_bytes pair.number + (length pair.term - common before.term pair.term)

-- as how many bytes pairs are counted behind another
abbrev pub bytes_behind : Pair → List Pair → ℕ
bytes_behind before [] = 0
bytes_behind before (pair ∷ pairs) = bytes_beside before pair + bytes_behind pair pairs

-- as how many bytes the pairs of a base are counted, without the term of the first
abbrev pub base_bytes : List Pair → ℕ
base_bytes [] = 0
base_bytes (pair ∷ pairs) = 25 + bytes_behind pair pairs

-- What a base leaves of the pairs behind one, where so many bytes are counted up to that one: nothing, where all
-- are 4,096 bytes at most; and else what is behind the last up to which there are 2,048 at most.
unfoldable pub rest_from : ℕ → Pair → List Pair → List Pair → List Pair
rest_from bytes before cut [] = []
rest_from bytes before cut (pair ∷ pairs) =
    if nat_lt 4096 (bytes + bytes_beside before pair) then cut
    else rest_from (bytes + bytes_beside before pair) pair
    (if nat_lt 2048 (bytes + bytes_beside before pair) then cut else pairs) pairs

-- what the base of a page leaves of rising pairs to new pages
unfoldable pub rest_of : List Pair → List Pair
rest_of [] = []
rest_of (pair ∷ pairs) = rest_from 25 pair pairs pairs

-- pairs take so many pages
abbrev pub TakePages : ℕ → List Pair → Type 0
TakePages zero pairs = pairs ≡ []
TakePages (suc count) pairs = (0 < length pairs) × TakePages count (rest_of pairs)

-- Where the next new page has this number, a page with these pairs can't be written anew: of the new pages that
-- what its base leaves takes, the last would have a number which no page may have.
abbrev pub NeedsTooMany : ℕ → List Pair → Type 0
NeedsTooMany next pairs = (count : ℕ) × TakePages count (rest_of pairs) × (most_term_pages < next + count)

-- and there are numbers for the pages that these pairs take
abbrev pub HasNumbers : ℕ → List Pair → Type 0
HasNumbers next pairs = (count : ℕ) × TakePages count pairs × (next + count ≤ most_term_pages)

-- Where the next new page has this number, a page of this low pair with these pairs is not written anew: it needs too
-- many new pages, or a term of it is too long.
abbrev pub AreStuck : ℕ → Pair → List Pair → Type 0
AreStuck next low pairs = NeedsTooMany next pairs ⊎ HasLongTerm low pairs

-- Changes of the pairs that a term page holds, one by one or put together by their terms, as a
-- payload has them.
use Rattle.std.specs.Prelude.{ℕ, List, [], ◌∷◌, ◌++◌, Bool, true, false, nat_lt, if◌then◌else◌}
use Rattle.std.specs.Str.{bytes_eq}
use Rattle.ax_pair.specs.declared.pair.Pair.{Pair}
use Rattle.ax_delta.specs.declared.change.Change.{Change}

-- a term, the numbers with which it is added, and those with which it is dropped
pub record TermChange : Type 0 where
  pub term : List ℕ
  pub added : List ℕ
  pub dropped : List ℕ

-- the pairs that are changed, in order
abbrev pub changed_pairs : List Change → List Pair
changed_pairs [] = []
changed_pairs (change ∷ changes) = change.pair ∷ changed_pairs changes

-- numbers with the number of one more change, where it is one that adds
abbrev pub with_added : List ℕ → Change → List ℕ
with_added added change = if change.add then added ++ change.pair.number ∷ [] else added

-- the same, where it is one that drops
abbrev pub with_dropped : List ℕ → Change → List ℕ
with_dropped dropped change = if change.add then dropped else dropped ++ change.pair.number ∷ []

-- changes by their terms, where a term and the numbers of the changes before stand ready
unfoldable pub term_changes_from : List ℕ → List ℕ → List ℕ → List Change → List TermChange
term_changes_from term added dropped [] = record { term = term; added = added; dropped = dropped } ∷ []
term_changes_from term added dropped (change ∷ changes) =
    if bytes_eq change.pair.term term
    then term_changes_from term (with_added added change) (with_dropped dropped change) changes
    else record { term = term; added = added; dropped = dropped }
    ∷ term_changes_from change.pair.term (with_added [] change) (with_dropped [] change) changes

-- changes by their terms: those of one term stand together
unfoldable pub term_changes_of : List Change → List TermChange
term_changes_of [] = []
term_changes_of (change ∷ changes) =
    term_changes_from change.pair.term (with_added [] change) (with_dropped [] change) changes

-- one change of a term
abbrev pub change_at : Bool → List ℕ → ℕ → Change
change_at add term number = record { add = add; pair = record { term = term; number = number } }

-- the changes that drop a term with each of these numbers
abbrev pub drops_with : List ℕ → List ℕ → List Change
drops_with term [] = []
drops_with term (n ∷ dropped) = change_at false term n ∷ drops_with term dropped

-- the change that adds a term with this number, put among those that drop it, behind those of
-- lower numbers; `others` gives what is behind it
abbrev pub add_among : List ℕ → ℕ → (List ℕ → List Change) → List ℕ → List Change
add_among term n others [] = change_at true term n ∷ others []
add_among term n others (d ∷ dropped) =
    if nat_lt d n
    then change_at false term d ∷ add_among term n others dropped
    else change_at true term n ∷ others (d ∷ dropped)

-- the changes of a term with these numbers, by number
unfoldable pub changes_with : List ℕ → List ℕ → List ℕ → List Change
changes_with term [] dropped = drops_with term dropped
changes_with term (n ∷ added) dropped = add_among term n (changes_with term added) dropped

-- the changes of all terms, in order
unfoldable pub changes_of : List TermChange → List Change
changes_of [] = []
changes_of (change ∷ changes) = changes_with change.term change.added change.dropped ++ changes_of changes

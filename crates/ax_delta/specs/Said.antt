-- What changes say of a pair: that it is added, that it is dropped, or nothing; and whether a list
-- has it.
use Rattle.std.specs.Prelude.{ℕ, ◌==◌, ◌&&◌, List, [], ◌∷◌, Bool, true, false, Option, Some, None, if◌then◌else◌}
use Rattle.std.specs.Option.{option_or}
use Rattle.std.specs.Str.{bytes_eq}
use Rattle.ax_pair.specs.declared.pair.Pair.{Pair}
use Rattle.ax_delta.specs.declared.change.Change.{Change}
use Rattle.ax_delta.specs.Changes.{TermChange}

-- whether the number is in the list
abbrev pub has_number : ℕ → List ℕ → Bool
has_number n [] = false
has_number n (m ∷ numbers) = if m == n then true else has_number n numbers

-- whether two pairs are the same
unfoldable pub is_same : Pair → Pair → Bool
is_same p q = bytes_eq p.term q.term && p.number == q.number

-- whether the pair is in the list
abbrev pub has : Pair → List Pair → Bool
has p [] = false
has p (q ∷ pairs) = if is_same q p then true else has p pairs

-- what the numbers of one term say of a number
abbrev pub said_in : ℕ → List ℕ → List ℕ → Option Bool
said_in n added dropped =
    if has_number n added then Some true else if has_number n dropped then Some false else None

-- What the changes of terms say of a pair: the first that is of its term does.
abbrev pub said_of : Pair → List TermChange → Option Bool
said_of p [] = None
said_of p (change ∷ changes) =
    if bytes_eq change.term p.term then said_in p.number change.added change.dropped else said_of p changes

-- what the change of this pair says, where there is one
abbrev pub said_by : Pair → List Change → Option Bool
said_by p [] = None
said_by p (change ∷ changes) = if is_same change.pair p then Some change.add else said_by p changes

-- what the newest says that says something, of the oldest to the newest
abbrev pub last_said : Pair → List (List TermChange) → Option Bool
last_said p [] = None
last_said p (changes ∷ newer) = option_or (last_said p newer) (said_of p changes)

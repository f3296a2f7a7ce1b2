-- The pass over two rising lists of pairs, as a function on lists. Only clauses of private functions
-- cite it: what comes of it, `Exchanges` says.
use Rattle.std.specs.Prelude.{List, [], ◌∷◌, Bool, true, false, Option, Some, None}
use Rattle.std.specs.declared.cmp.Ordering.{Ordering}
use Rattle.std.specs.declared.cmp.Ordering.TheVariants.{Less, Equal, Greater}
use Rattle.ax_pair.specs.declared.pair.Pair.{Pair}
use Rattle.ax_pair.specs.Order.{pair_cmp}
use Rattle.ax_delta.specs.declared.change.Change.{Change}

abbrev pub change_of : Bool → Pair → Change
change_of add p = record { add = add; pair = p }

-- each is added
abbrev pub adds : List Pair → List Change
adds [] = []
adds (p ∷ pairs) = change_of true p ∷ adds pairs

-- one of three, by an order
abbrev pub by_order : Ordering → List Change → List Change → List Change → List Change
by_order Less less equal greater = less
by_order Equal less equal greater = equal
by_order Greater less equal greater = greater

-- An old pair put among new ones: those before it are added, and it is dropped, unless it is there;
-- `others` gives what the new ones behind it and the old ones behind it come to.
abbrev pub drop_among : Pair → (List Pair → List Change) → List Pair → List Change
drop_among p others [] = change_of false p ∷ others []
drop_among p others (q ∷ new) =
    by_order (pair_cmp q p)
    (change_of true q ∷ drop_among p others new)
    (others new)
    (change_of false p ∷ others (q ∷ new))

unfoldable pub net : List Pair → List Pair → List Change
net [] new = adds new
net (p ∷ old) new = drop_among p (net old) new

-- how the first pair compares with a pair
abbrev pub first_cmp : List Pair → Pair → Option Ordering
first_cmp [] p = None
first_cmp (q ∷ pairs) p = Some (pair_cmp q p)

-- is a pair that is not before another the same; nothing where it is before it
abbrev pub met_by : Option Ordering → Option Bool
met_by None = Some false
met_by (Some Less) = None
met_by (Some Equal) = Some true
met_by (Some Greater) = Some false

-- what is said of a pair that is old or not, and new or not
abbrev pub net_said : Bool → Bool → Option Bool
net_said true true = None
net_said true false = Some false
net_said false true = Some true
net_said false false = None

-- the change that adds the first pair
abbrev pub added_first : List Pair → List Change
added_first [] = []
added_first (p ∷ pairs) = change_of true p ∷ []

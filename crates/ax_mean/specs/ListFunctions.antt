-- The functions of lists. Places count from 0.
use Rattle.std.specs.Prelude.{ℕ, ℤ, pos, negsuc, List, [], ◌∷◌, ◌++◌, length, take, drop, Bool, ◌-◌, ◌+◌, Option, Some, None, option_map, option_and_then}
use Rattle.std.specs.List.{list_any}
use Rattle.ax_tree.specs.declared.tree.Tree.{Tree}
use Rattle.ax_mean.specs.declared.value.Value.{Value}
use Rattle.ax_mean.specs.declared.value.Value.TheVariants.{Undefined, Defined}
use Rattle.ax_mean.specs.Sameness.{is_same}
use Rattle.ax_mean.specs.TextFunctions.{count_of}
use Rattle.ax_mean.specs.Values.{list_of, number_of}

-- ARRAY_LENGTH
abbrev pub list_length : List Tree → ℤ
list_length items = pos (length items)

-- ARRAY_CONTAINS: some element is the same
abbrev pub has_item : List Tree → Tree → Bool
has_item items tree = list_any (λ item. is_same item tree) items

abbrev pub contains_item : Value → Value → Option Bool
contains_item list Undefined = None
contains_item list (Defined tree) = option_map (λ items. has_item items tree) (list_of list)

-- ARRAY_CONCAT: the lists joined; none where one is no list
abbrev pub joined_lists : List Value → Option (List Tree)
joined_lists [] = Some []
joined_lists (value ∷ values) =
    option_and_then (λ items. option_map (λ rest. items ++ rest) (joined_lists values))
    (list_of value)

-- a place from the start, or from the end where it is negative, and then at least 0
abbrev pub place_from : List Tree → ℤ → ℕ
place_from items (pos n) = n
place_from items (negsuc n) = length items - (n + 1)

-- ARRAY_SLICE: the elements from a place on
abbrev pub slice_from : List Tree → ℤ → List Tree
slice_from items start = drop (place_from items start) items

-- ARRAY_SLICE with a length: at most so many
abbrev pub slice_of : List Tree → ℤ → ℤ → List Tree
slice_of items start count = take (count_of count) (slice_from items start)

-- Undefined where an argument is of another kind.
abbrev pub on_list_and_number : (List Tree → ℤ → List Tree) → Value → Value → Option (List Tree)
on_list_and_number f a b = option_and_then (λ items. option_map (f items) (number_of b)) (list_of a)

abbrev pub on_list_and_numbers : (List Tree → ℤ → ℤ → List Tree) → Value → Value → Value
    → Option (List Tree)
on_list_and_numbers f a b c =
    option_and_then
    (λ items. option_and_then (λ x. option_map (f items x) (number_of c)) (number_of b)) (list_of a)

-- The functions of texts. Lengths and places count characters, which are Unicode scalar values, from
-- 0. A text is seen as its bytes in UTF-8, and `chars` is the list of its characters.
use Rattle.std.specs.Prelude.{ℕ, ℤ, pos, negsuc, neg_ℤ, List, [], ◌∷◌, ◌++◌, nat_eq, length, take, drop, reverse, Bool, true, false, ◌||◌, ◌-◌, ◌+◌, Option, Some, None, option_map, option_and_then, if◌then◌else◌}
use Rattle.std.specs.List.{starts_with, ends_with}
use Rattle.std.specs.Option.{is_some}
use Rattle.std.specs.Str.{chars, encode_utf8_all}
use Rattle.ax_tree.specs.CanonicalText.{canonical_text}
use Rattle.ax_tree.specs.declared.tree.Tree.{Tree, out-Tree}
use Rattle.ax_tree.specs.declared.tree.Tree.TheOpen.{Tree-F}
use Rattle.ax_mean.specs.declared.value.Value.{Value}
use Rattle.ax_mean.specs.declared.value.Value.TheVariants.{Undefined, Defined}
use Rattle.ax_mean.specs.Values.{text_of, number_of}

-- a number of characters or elements: 0 where it is negative
abbrev pub count_of : ℤ → ℕ
count_of (pos n) = n
count_of (negsuc n) = 0

abbrev pub is_negative : ℤ → Bool
is_negative (pos n) = false
is_negative (negsuc n) = true

-- LENGTH: the number of characters
abbrev pub text_length : List ℕ → ℤ
text_length text = pos (length (chars text))

-- LEFT: the first n characters
abbrev pub left : List ℕ → ℤ → List ℕ
left text n = encode_utf8_all (take (count_of n) (chars text))

-- RIGHT: the last n characters
abbrev pub right : List ℕ → ℤ → List ℕ
right text n = encode_utf8_all (drop (length (chars text) - count_of n) (chars text))

-- SUBSTRING: the characters from a place on, at most so many; the empty text where a number is
-- negative
abbrev pub substring : List ℕ → ℤ → ℤ → List ℕ
substring text start count =
    if is_negative start || is_negative count then []
    else encode_utf8_all (take (count_of count) (drop (count_of start) (chars text)))

-- REVERSE: the characters from the last to the first
abbrev pub reversed : List ℕ → List ℕ
reversed text = encode_utf8_all (reverse (chars text))

-- STARTSWITH and ENDSWITH: the second text is a prefix, a suffix of the first
abbrev pub begins_with : List ℕ → List ℕ → Bool
begins_with = starts_with nat_eq

abbrev pub finishes_with : List ℕ → List ℕ → Bool
finishes_with = ends_with nat_eq

-- the least place of a list at which the other begins
abbrev pub place_in : List ℕ → List ℕ → Option ℕ
place_in part [] = if begins_with [] part then Some 0 else None
place_in part (c ∷ cs) =
    if begins_with (c ∷ cs) part then Some 0 else option_map (λ place. place + 1) (place_in part cs)

abbrev pub place_of : List ℕ → List ℕ → Option ℕ
place_of text part = place_in (chars part) (chars text)

-- CONTAINS: the second text begins somewhere in the first
abbrev pub contains_text : List ℕ → List ℕ → Bool
contains_text text part = is_some (place_of text part)

-- INDEX_OF: the least place where the second text begins in the first, and -1 where it does not
abbrev pub place_or_none : Option ℕ → ℤ
place_or_none None = neg_ℤ (pos 1)
place_or_none (Some place) = pos place

abbrev pub index_of : List ℕ → List ℕ → ℤ
index_of text part = place_or_none (place_of text part)

-- CONCAT: the texts joined; none where one is no text
abbrev pub joined_texts : List Value → Option (List ℕ)
joined_texts [] = Some []
joined_texts (value ∷ values) =
    option_and_then (λ text. option_map (λ rest. text ++ rest) (joined_texts values))
    (text_of value)

-- TOSTRING: a text itself, else the canonical text
abbrev pub shown_level : Tree → Tree-F Tree → List ℕ
shown_level tree Tree-F.Null = canonical_text tree
shown_level tree (Tree-F.Truth truth) = canonical_text tree
shown_level tree (Tree-F.Number number) = canonical_text tree
shown_level tree (Tree-F.Text text) = text
shown_level tree (Tree-F.List items) = canonical_text tree
shown_level tree (Tree-F.Object members) = canonical_text tree

abbrev pub shown_tree : Tree → List ℕ
shown_tree tree = shown_level tree (out-Tree tree)

abbrev pub as_string : Value → Option (List ℕ)
as_string Undefined = None
as_string (Defined tree) = Some (shown_tree tree)

-- A function of a text; of two texts; of a text and a number: undefined where an argument is of
-- another kind.
abbrev pub on_text : {X : Type 0} → (List ℕ → X) → Value → Option X
on_text f a = option_map f (text_of a)

abbrev pub on_texts : {X : Type 0} → (List ℕ → List ℕ → X) → Value → Value → Option X
on_texts f a b = option_and_then (λ s. option_map (f s) (text_of b)) (text_of a)

abbrev pub on_text_and_number : {X : Type 0} → (List ℕ → ℤ → X) → Value → Value → Option X
on_text_and_number f a b = option_and_then (λ s. option_map (f s) (number_of b)) (text_of a)

abbrev pub on_text_and_numbers : {X : Type 0} → (List ℕ → ℤ → ℤ → X) → Value → Value → Value
    → Option X
on_text_and_numbers f a b c =
    option_and_then (λ s. option_and_then (λ x. option_map (f s x) (number_of c)) (number_of b))
    (text_of a)

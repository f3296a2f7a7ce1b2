-- LIKE: `%` in the pattern stands for any characters, also none, and `_` for one; every other
-- character for itself. Characters are Unicode scalar values. With a pattern that has `[` it is
-- undefined.
use Rattle.std.specs.Prelude.{ℕ, List, [], ◌∷◌, Bool, true, false, ◌&&◌, ◌||◌, ◌==◌, Option, Some, None, option_and_then, if◌then◌else◌}
use Rattle.std.specs.List.{list_any}
use Rattle.std.specs.Str.{chars}
use Rattle.ax_mean.specs.declared.value.Value.{Value}
use Rattle.ax_mean.specs.Values.{text_of}

-- Tests of the characters of a text: that there are none, that the first passes one test and the rest
-- another, that some rest of the text passes.
abbrev pub is_end : List ℕ → Bool
is_end [] = true
is_end (c ∷ cs) = false

abbrev pub first_and_rest : (ℕ → Bool) → (List ℕ → Bool) → List ℕ → Bool
first_and_rest first rest [] = false
first_and_rest first rest (c ∷ cs) = first c && rest cs

abbrev pub some_rest : (List ℕ → Bool) → List ℕ → Bool
some_rest passes [] = passes []
some_rest passes (c ∷ cs) = passes (c ∷ cs) || some_rest passes cs

-- `_` is 95: any character fits it
abbrev pub fits : ℕ → ℕ → Bool
fits p c = (p == 95) || (p == c)

-- `%` is 37
abbrev pub matches : List ℕ → List ℕ → Bool
matches [] = is_end
matches (p ∷ ps) = if p == 37 then some_rest (matches ps) else first_and_rest (fits p) (matches ps)

-- `[` is 91
abbrev pub has_bracket : List ℕ → Bool
has_bracket = list_any (λ c. c == 91)

abbrev pub text_is_like : List ℕ → List ℕ → Option Bool
text_is_like text pattern =
    if has_bracket (chars pattern) then None else Some (matches (chars pattern) (chars text))

-- `text LIKE pattern`
abbrev pub is_like : Value → Value → Option Bool
is_like text pattern =
    option_and_then (λ t. option_and_then (text_is_like t) (text_of pattern)) (text_of text)

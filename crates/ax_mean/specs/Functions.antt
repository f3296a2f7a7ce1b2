-- What each function makes of its arguments' values, and how many it takes.
use Rattle.std.specs.Prelude.{ℕ, ℤ, pos, unsigned_abs, List, [], ◌∷◌, Bool, ◌&&◌, ◌||◌, nat_le, ◌==◌, Option, Some, None, option_map, if◌then◌else◌}
use Rattle.std.specs.Option.{is_some}
use Rattle.std.specs.Int.{int_signum}
use Rattle.ax_mean.specs.declared.operator.Func.{Func}
use Rattle.ax_mean.specs.declared.operator.Func.TheVariants as func
use Rattle.ax_mean.specs.declared.value.Value.{Value}
use Rattle.ax_mean.specs.declared.value.Value.TheVariants.{Undefined}
use Rattle.ax_mean.specs.Arithmetic.{in_64_bits, on_number}
use Rattle.ax_mean.specs.Comparison.{is_scalar}
use Rattle.ax_mean.specs.ListFunctions.{list_length, contains_item, joined_lists, slice_from, slice_of, on_list_and_number, on_list_and_numbers}
use Rattle.ax_mean.specs.TextFunctions.{text_length, left, right, substring, reversed, begins_with, finishes_with, contains_text, index_of, joined_texts, as_string, on_text, on_texts, on_text_and_number, on_text_and_numbers}
use Rattle.ax_mean.specs.Values.{kind, is_defined, of_truth, of_number, of_text, of_list, list_of}

-- IS_NULL and the like: whether the value is of that kind, which undefined is not
abbrev pub is_of_kind : ℕ → Value → Value
is_of_kind k value = of_truth (Some (kind value == k))

-- ABS: none for the least number
abbrev pub absolute : ℤ → Option ℤ
absolute z = in_64_bits (pos (unsigned_abs z))

-- SIGN: -1, 0 or 1
abbrev pub sign_of : ℤ → Option ℤ
sign_of z = Some (int_signum z)

-- The arguments, where there are so many.
abbrev pub only : List Value → Option Value
only [] = None
only (a ∷ []) = Some a
only (a ∷ b ∷ rest) = None

abbrev pub two : List Value → Option (Value × Value)
two [] = None
two (a ∷ []) = None
two (a ∷ b ∷ []) = Some (a, b)
two (a ∷ b ∷ c ∷ rest) = None

abbrev pub three : List Value → Option (Value × Value × Value)
three [] = None
three (a ∷ []) = None
three (a ∷ b ∷ []) = None
three (a ∷ b ∷ c ∷ []) = Some (a, b, c)
three (a ∷ b ∷ c ∷ d ∷ rest) = None

-- A function of so many arguments; of another number it is undefined.
abbrev pub given : {X : Type 0} → (X → Value) → Option X → Value
given f None = Undefined
given f (Some x) = f x

abbrev pub of_one : (Value → Value) → List Value → Value
of_one f args = given f (only args)

abbrev pub of_two : (Value → Value → Value) → List Value → Value
of_two f args = given (λ p. f p.0 p.1) (two args)

abbrev pub of_three : (Value → Value → Value → Value) → List Value → Value
of_three f args = given (λ p. f p.0 p.1 p.2) (three args)

-- ARRAY_SLICE has two arguments or three
abbrev pub array_slice : List Value → Value
array_slice args = if is_some (two args)
    then of_two (λ list start. of_list (on_list_and_number slice_from list start)) args
    else of_three (λ list start count. of_list (on_list_and_numbers slice_of list start count)) args

abbrev pub call : Func → List Value → Value
call func.IsDefined = of_one (λ a. of_truth (Some (is_defined a)))
call func.IsNull = of_one (is_of_kind 1)
call func.IsBool = of_one (is_of_kind 2)
call func.IsNumber = of_one (is_of_kind 3)
call func.IsString = of_one (is_of_kind 4)
call func.IsArray = of_one (is_of_kind 5)
call func.IsObject = of_one (is_of_kind 6)
call func.IsPrimitive = of_one (λ a. of_truth (Some (is_scalar a)))
call func.Abs = of_one (on_number absolute)
call func.Sign = of_one (on_number sign_of)
call func.Length = of_one (λ a. of_number (on_text text_length a))
call func.Concat = λ args. of_text (joined_texts args)
call func.StartsWith = of_two (λ a b. of_truth (on_texts begins_with a b))
call func.EndsWith = of_two (λ a b. of_truth (on_texts finishes_with a b))
call func.Contains = of_two (λ a b. of_truth (on_texts contains_text a b))
call func.IndexOf = of_two (λ a b. of_number (on_texts index_of a b))
call func.Left = of_two (λ a b. of_text (on_text_and_number left a b))
call func.Right = of_two (λ a b. of_text (on_text_and_number right a b))
call func.Substring = of_three (λ a b c. of_text (on_text_and_numbers substring a b c))
call func.Reverse = of_one (λ a. of_text (on_text reversed a))
call func.ToString = of_one (λ a. of_text (as_string a))
call func.ArrayLength = of_one (λ a. of_number (option_map list_length (list_of a)))
call func.ArrayContains = of_two (λ a b. of_truth (contains_item a b))
call func.ArrayConcat = λ args. of_list (joined_lists args)
call func.ArraySlice = array_slice

-- the function takes so many arguments
abbrev pub takes : Func → ℕ → Bool
takes func.IsDefined n = n == 1
takes func.IsNull n = n == 1
takes func.IsBool n = n == 1
takes func.IsNumber n = n == 1
takes func.IsString n = n == 1
takes func.IsArray n = n == 1
takes func.IsObject n = n == 1
takes func.IsPrimitive n = n == 1
takes func.Abs n = n == 1
takes func.Sign n = n == 1
takes func.Length n = n == 1
takes func.Concat n = nat_le 2 n && nat_le n 16
takes func.StartsWith n = n == 2
takes func.EndsWith n = n == 2
takes func.Contains n = n == 2
takes func.IndexOf n = n == 2
takes func.Left n = n == 2
takes func.Right n = n == 2
takes func.Substring n = n == 3
takes func.Reverse n = n == 1
takes func.ToString n = n == 1
takes func.ArrayLength n = n == 1
takes func.ArrayContains n = n == 2
takes func.ArrayConcat n = nat_le 2 n && nat_le n 16
takes func.ArraySlice n = (n == 2) || (n == 3)

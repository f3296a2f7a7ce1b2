-- Arithmetic on whole numbers: the exact result, and none where it does not fit 64 bits, where the
-- divisor is 0, or where a quotient is not whole. A remainder has the sign of the left operand.
use Rattle.std.specs.Prelude.{ℤ, pos, ◌+ℤ◌, ◌-ℤ◌, ◌*ℤ◌, neg_ℤ, int_div, int_rem, Option, Some, None, option_and_then, if◌then◌else◌}
use Rattle.std.specs.Ordering.{int_eq}
use Rattle.ax_tree.specs.WellFormed.{is_of_64_bits}
use Rattle.ax_mean.specs.declared.value.Value.{Value}
use Rattle.ax_mean.specs.Values.{number_of, of_number}

abbrev pub in_64_bits : ℤ → Option ℤ
in_64_bits z = if is_of_64_bits z then Some z else None

abbrev pub sum_of : ℤ → ℤ → Option ℤ
sum_of a b = in_64_bits (a +ℤ b)

abbrev pub difference_of : ℤ → ℤ → Option ℤ
difference_of a b = in_64_bits (a -ℤ b)

abbrev pub product_of : ℤ → ℤ → Option ℤ
product_of a b = in_64_bits (a *ℤ b)

abbrev pub quotient_of : ℤ → ℤ → Option ℤ
quotient_of a b =
    if int_eq b (pos 0) then None else if int_eq (int_rem a b) (pos 0) then in_64_bits (int_div a b)
    else None

abbrev pub remainder_of : ℤ → ℤ → Option ℤ
remainder_of a b = if int_eq b (pos 0) then None else Some (int_rem a b)

abbrev pub negative_of : ℤ → Option ℤ
negative_of a = in_64_bits (neg_ℤ a)

-- an operation on two numbers, undefined of other values
abbrev pub arithmetic : (ℤ → ℤ → Option ℤ) → Value → Value → Value
arithmetic operation a b =
    of_number (option_and_then (λ x. option_and_then (operation x) (number_of b)) (number_of a))

-- an operation on one number, undefined of another value
abbrev pub on_number : (ℤ → Option ℤ) → Value → Value
on_number operation a = of_number (option_and_then operation (number_of a))

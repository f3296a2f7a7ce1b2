-- A sum of numbers of 64 bits, with how many there are: so it fits 128 bits.
use Rattle.std.specs.Prelude.{ℕ, ℤ, pos, ◌+ℤ◌, neg_ℤ, ◌≤ℤ◌, ◌*◌, ◌≤◌, ◌+◌, nat_lt, Option, Some, None, if◌then◌else◌}
use Rattle.ax_result.specs.Totals.{greatest_number}

abbrev pub IsWithin : ℕ → ℤ → Type 0
IsWithin n z = (n ≤ 9223372036854775807) × (neg_ℤ (pos (n * 9223372036854775808)) ≤ℤ z)
    × (z ≤ℤ pos (n * 9223372036854775808))

-- one number more; none where there are as many as may be
abbrev pub sum_with : ℕ × ℤ → ℤ → Option (ℕ × ℤ)
sum_with s number =
    if nat_lt s.0 greatest_number then Some (s.0 + 1, s.1 +ℤ number) else None

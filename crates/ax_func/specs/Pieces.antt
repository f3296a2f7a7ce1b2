-- A piece of a LIKE pattern in which each character stands for itself: it has neither `%` nor `_`.
use Rattle.std.specs.Prelude.{ℕ, List, Bool, not, ◌&&◌, ◌==◌}
use Rattle.std.specs.List.{list_all}

abbrev pub is_plain : ℕ → Bool
is_plain c = not (c == 37) && not (c == 95)

abbrev pub all_plain : List ℕ → Bool
all_plain = list_all is_plain

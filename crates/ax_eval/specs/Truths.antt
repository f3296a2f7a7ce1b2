-- What AND, OR and IN make of many operands at once, whose values are taken for true, false or
-- undefined. A value that is no truth value counts as undefined.
use Rattle.std.specs.Prelude.{List, [], ◌∷◌, Bool, true, false, Option, Some}
use Rattle.ax_mean.specs.declared.value.Value.{Value}
use Rattle.ax_mean.specs.Comparison.{equality}
use Rattle.ax_mean.specs.Logic.{and_of, or_of}
use Rattle.ax_mean.specs.Values.{truth_of}

-- all of the values joined by AND
abbrev pub all_of : List Value → Option Bool
all_of [] = Some true
all_of (value ∷ values) = and_of (truth_of value) (all_of values)

-- all of the values joined by OR
abbrev pub some_of : List Value → Option Bool
some_of [] = Some false
some_of (value ∷ values) = or_of (truth_of value) (some_of values)

-- the comparisons of one value with each of some, joined by OR
abbrev pub some_equal : Value → List Value → Option Bool
some_equal left [] = Some false
some_equal left (value ∷ values) = or_of (equality left value) (some_equal left values)

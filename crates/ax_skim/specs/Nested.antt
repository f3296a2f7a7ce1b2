-- Where a byte stands, by whether a text goes on there.
use Rattle.std.specs.Prelude.{Bool, true, false}
use Rattle.ax_skim.specs.Skipping.{Place, outside, inside}

abbrev pub place_in : Bool → Place
place_in true = inside
place_in false = outside

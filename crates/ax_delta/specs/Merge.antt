-- What a merge makes of the pairs of a page: those that the delta adds are there, those that it
-- drops are not, and of all others it is as before.
use Rattle.std.specs.Prelude.{◌≡◌, List, [], ◌∷◌}
use Rattle.std.specs.Option.{unwrap_or}
use Rattle.ax_pair.specs.declared.pair.Pair.{Pair}
use Rattle.ax_pair.specs.Order.{Rise}
use Rattle.ax_delta.specs.Changes.{TermChange}
use Rattle.ax_delta.specs.Said.{has, said_of}

pub record IsMerge (before : List Pair) (changes : List TermChange) (after : List Pair) : Type 0 where
  pub rises : Rise after
  pub holds : (p : Pair) → has p after ≡ unwrap_or (said_of p changes) (has p before)

-- merged with one delta after another, the oldest first
abbrev pub AreMerged : List Pair → List (List TermChange) → List Pair → Type 0
AreMerged base [] after = base ≡ after
AreMerged base (changes ∷ newer) after = (between : List Pair) × IsMerge base changes between × AreMerged between newer after

-- What a base stands for, as callers of a leaf see it.
use Rattle.std.specs.Prelude.{List}
use Rattle.ax_pair.specs.declared.pair.Pair.{Pair}
use Rattle.ax_leaf.specs.Pairs.{Posting}

pub record Base : Type 0 where
  -- the least pair that its page may have
  pub low : Pair
  -- its terms, each with all its numbers, in order
  pub postings : List Posting

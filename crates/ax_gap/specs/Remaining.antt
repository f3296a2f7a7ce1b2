-- What a cursor over a gap list stands for, as its callers see it.
use Rattle.std.specs.Prelude.{ℕ, List}

pub record RemainingGaps : Type 0 where
  -- the numbers that it has still to give, in order
  pub numbers : List ℕ
  -- how many bytes the whole gap list takes, from its count on
  pub used : ℕ

-- The levels of expressions, from the outermost, `a ? b : c`, to the innermost, a single value or
-- what stands in brackets. A chain of one level has operands of the next.
use Rattle.std.specs.Prelude.{ℕ}

pub data Level : Type 0 where
  choice : Level
  coalesce : Level
  disjunction : Level
  conjunction : Level
  negation : Level
  comparison : Level
  concatenation : Level
  sum : Level
  product : Level
  sign : Level
  postfix : Level
  atom : Level

-- how far a level is from the innermost
abbrev pub distance : Level → ℕ
distance atom = 0
distance postfix = 1
distance sign = 2
distance product = 3
distance sum = 4
distance concatenation = 5
distance comparison = 6
distance negation = 7
distance conjunction = 8
distance disjunction = 9
distance coalesce = 10
distance choice = 11

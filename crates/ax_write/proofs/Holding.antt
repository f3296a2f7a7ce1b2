-- A document that is held has one part.
use Rattle.std.proofs.Common.{◌≡◌, ◌<◌, ℕ, List, Option, Some, None, length, arith}
use Rattle.std.specs.Prelude.{IsTrue, is_some, slice_get}
use Rattle.std.specs.Option.{option_to_list}

pub one_part : (part : Option (List ℕ)) → IsTrue (is_some part) → 0 < length (option_to_list part)
one_part None is = absurd cc
one_part (Some payload) is = omega arith

pub only_place : (offset : Option ℕ) (at : ℕ) → slice_get (option_to_list offset) 0 ≡ Some at → offset ≡ Some at
only_place None at is = absurd cc
only_place (Some other) at is = is

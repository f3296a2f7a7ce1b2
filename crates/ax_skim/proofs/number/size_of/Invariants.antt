-- What the digits left add to the number so far is what all of them write.
use Rattle.std.proofs.Common.{◌≡◌, drop, true}
use Rattle.std.specs.Char.{is_ascii_digit}
use Rattle.std.specs.List.{list_all}
use Rattle.ax_skim.proofs.Decimals.{read_on}
use Rattle.ax_skim.proofs.number.size_of.Given as goal

abbrev pub invariant-loop-digit : goal.invariant-loop-digit
invariant-loop-digit l =
    (read_on l.number (drop l.digit-index l.digits) ≡ read_on 0 l.digits)
    × (list_all is_ascii_digit (drop l.digit-index l.digits) ≡ true)

use Rattle.std.proofs.Common.{◌≡◌, drop, map}
use Rattle.ax_excerpt.specs.Plain.{plain_parts, plain_flag}
use Rattle.ax_excerpt.proofs.plain.+plain.Given as goal

abbrev pub invariant-have_plain_names-loop-part : goal.invariant-have_plain_names-loop-part
invariant-have_plain_names-loop-part l =
    plain_parts (map plain_flag (drop l.part-index l.part-items)) ≡ plain_parts (map plain_flag l.parts)

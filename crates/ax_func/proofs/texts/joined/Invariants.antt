-- What is joined, before what the values left give, is the whole.
use Rattle.std.proofs.Common.{◌≡◌, ◌++◌, drop, string_bytes, option_map}
use Rattle.ax_mean.specs.TextFunctions.{joined_texts}
use Rattle.ax_func.proofs.texts.joined.Given as goal

abbrev pub invariant-loop-value : goal.invariant-loop-value
invariant-loop-value l =
    option_map (λ r. string_bytes l.text ++ r)
    (joined_texts (drop l.value-index l.values)) ≡ joined_texts l.values

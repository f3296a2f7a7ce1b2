-- The text is the bytes, which are UTF-8.
use Rattle.std.proofs.Common.{◌≡◌, Some, option_and_then, sym, ap, ◌∙◌}
use Rattle.serde_json.specs.Read.{read}
use Rattle.ax_text.specs.Reading.{reading, Stands}
use Rattle.ax_text.specs.TreeOf.{tree_of}
use Rattle.ax_text.proofs.Readings.{reading-stands}
use Rattle.ax_text.proofs.Turns.{IfSome-weaker}
use Rattle.ax_text.proofs.direct.read_directly.Goals as goal

pub returns : goal.returns
returns c =
    IfSome-weaker c.read_text.result
    (λ tree. option_and_then tree_of (read c.in-Ok.text.now) ≡ Some tree)
    (λ tree. reading c.args.bytes.now ≡ Stands tree)
    (λ tree e. reading-stands c.args.bytes.now tree c.in-Ok.ensures.cases.1
    (ap (λ s. option_and_then tree_of (read s)) (sym c.in-Ok.ensures.cases.0) ∙ e))
    c.read_text.ensures

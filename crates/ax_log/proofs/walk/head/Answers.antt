use Rattle.std.proofs.Common.{length, refl, sym, ap, ◌∙◌, arith}
use Rattle.ax_disk.specs.model.Calls.{bytes_from}
use Rattle.ax_log.proofs.WalkSteps.{head_shown}
use Rattle.ax_log.proofs.walk.head.Goals as goal

pub returns : goal.returns
returns c = λ list shows.
    let window = c.args.window.now in
    let same = c.deref.ensures.value in
    c.copy_from_slice.ensures.after
    ∙ head_shown c.deref.result.now list window.start c.args.at _ _
    (same ∙ shows ∙ ap (λ n. bytes_from list window.start n) (ap length (sym same)))
    c.requires.0 (omega (arith, c.requires.1, ap length same)) refl (omega arith)

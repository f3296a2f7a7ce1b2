use Rattle.std.proofs.Common.{[], ap, ◌∙◌}
use Rattle.ax_delta.specs.Reading.{changes_in}
use Rattle.ax_delta.specs.Said.{said_of}
use Rattle.ax_delta.proofs.SamePair.{the_pair}
use Rattle.ax_delta.proofs.delta.Delta.look.Goals as goal

pub returns : goal.returns
returns c =
    c.look_in.ensures (changes_in c.self.inside.count [] c.self.inside.list.now) c.self.invariant
    ∙ ap (λ t. said_of (the_pair t c.args.pair.now.number) (changes_in c.self.inside.count [] c.self.inside.list.now)) c.as_slice.ensures
    ∙ ap (said_of c.args.pair.now) c.self.view_is

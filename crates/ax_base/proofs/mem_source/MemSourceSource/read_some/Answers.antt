-- The bytes in the prefix of the buffer are the next of those that remain.
use Rattle.std.proofs.Common.{ap}
use Rattle.ax_base.specs.Calls.{SourceState}
use Rattle.ax_base.proofs.BytesLemmas.{remaining_read}
use Rattle.ax_base.proofs.mem_source.MemSourceSource.read_some.Goals as goal

pub returns-clause-taken : goal.returns-clause-taken
returns-clause-taken c = remaining_read
    c.self.inside.at
    c.copy_prefix-count.result
    c.self.inside.bytes.items
    c.deref.result.now
    _
    c.args.self.now.remaining
    (ap (λ (s : SourceState). s.remaining) c.self.view_is)
    c.deref.ensures.value
    c.copy_prefix-count.ensures.copied

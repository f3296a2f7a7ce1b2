-- A name that is UTF-8 is written as UTF-8.
use Rattle.std.proofs.Common.{arith}
use Rattle.ax_policy.proofs.Utf8.{escaped_done}
use Rattle.ax_policy.proofs.path_text.escaped.Goals as goal

pub text_from-requires : goal.text_from-requires
text_from-requires c =
    escaped_done c.loop-byte.bytes.items c.as_bytes-byte-items.result.now c.loop-byte.byte-index (omega arith)
    c.loop-byte.invariant c.as_bytes-byte-items.ensures.utf8

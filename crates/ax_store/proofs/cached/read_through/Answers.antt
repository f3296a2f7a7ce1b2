use Rattle.std.proofs.Common.{◌+◌, ◌≤◌, length, subst}
use Rattle.ax_pages.specs.Area.{frames_bytes}
use Rattle.ax_store.proofs.CacheLemmas.{held_read}
use Rattle.ax_store.proofs.cached.read_through.Goals as goal

pub returns-clause-caches : goal.returns-clause-caches
returns-clause-caches g c = λ honest frames agrees key_is holds within.
    held_read _ _ _ _ c.args.key.offset (length c.args.buf.now) (frames_bytes frames) c.read_disk.new.buf c.args.key key_is c.keep.ensures holds
    (subst (λ n. c.args.key.offset + length c.args.buf.now ≤ n) agrees.end_is within) (c.in-Ok.ensures.read honest frames agrees within)

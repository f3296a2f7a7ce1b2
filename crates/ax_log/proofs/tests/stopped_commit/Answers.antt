use Rattle.std.proofs.Common.{List, ℕ, refl, sym, subst}
use Rattle.ax_disk.specs.declared.mem_disk.MemDisk.{MemDisk}
use Rattle.ax_disk.specs.mem_disk.MemDisk.{disk_history}
use Rattle.ax_log.specs.Agreement.{Agrees}
use Rattle.ax_log.specs.Commit.{IsCommitSpelling}
use Rattle.ax_log.proofs.tests.stopped_commit.Goals as goal

pub commit-requires-clause-agrees : goal.commit-requires-clause-agrees
commit-requires-clause-agrees c = λ honest.
    let log = c.in_ok-log.log in
    let frames = (c.in_ok-log.ensures.tells refl).frames in (
      frames,
      subst (λ (disk : MemDisk). Agrees log frames (disk_history disk))
          (sym c.make-fuse.ensures.inner) (c.in_ok-log.ensures.tells refl).agrees,
    )

pub commit-requires-clause-frame : goal.commit-requires-clause-frame
commit-requires-clause-frame c =
    let span = c.in_ok-text.ensures.0 in (
      span,
      subst (λ (text : List ℕ). IsCommitSpelling text span)
          (sym c.deref.ensures.value) c.in_ok-text.ensures.1,
    )

-- The engine works still.
use Rattle.std.specs.Prelude.{true}
use Rattle.ax_disk.specs.mem_disk.MemDisk.{disk_history}
use Rattle.ax_engine.specs.Engine.{Works}
use Rattle.ax_cache_rows_tests.proofs.tests.answering.serve_lines.Given as goal

abbrev pub invariant-lines : goal.invariant-lines
invariant-lines g l = Works g.C.PageCache.pages true l.engine (disk_history l.disk)

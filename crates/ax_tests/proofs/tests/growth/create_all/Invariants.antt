-- The engine works still.
use Rattle.std.specs.Prelude.{true}
use Rattle.ax_disk.specs.mem_disk.MemDisk.{disk_history}
use Rattle.ax_engine.specs.Engine.{Works}
use Rattle.ax_tests.proofs.tests.growth.create_all.Given as goal

abbrev pub invariant-numbers : goal.invariant-numbers
invariant-numbers g l = Works g.C.PageCache.pages true l.engine (disk_history l.disk)

-- A policy is made the one now by the commit of its parts, or nothing is changed.
use Rattle.std.proofs.Common.{Ok, Err, refl, arith}
use Rattle.ax_store.proofs.StoreLemmas.{agrees_says}
use Rattle.ax_store.specs.Store.{store_contents}
use Rattle.ax_transform.proofs.Landing.{parts_within, readable, small_setting, table_landed, tells_made, tells_unmade}
use Rattle.ax_transform.proofs.Leaving.{left_behind, still}
use Rattle.ax_transform.proofs.Short.{fits_part}
use Rattle.ax_transform.proofs.setting.set_under.Goals as goal

pub setting-requires : goal.setting-requires
setting-requires g c = fits_part c.args.policy c.requires.policy.is_policy

pub returns-in_default-clause-tells : goal.returns-in_default-clause-tells
returns-in_default-clause-tells g c = λ honest works before hold.
    (hold, still c.args.store.now before _ (agrees_says g.C.PageCache.pages c.args.store.now _ (c.requires.agrees honest works)) hold)

pub seal_and_commit-requires-clause-within : goal.seal_and_commit-requires-clause-within
seal_and_commit-requires-clause-within g c =
    parts_within _ c.args.table.now (store_contents c.args.store.now) c.requires.table refl c.args.policy c.requires.policy c.args.number
    c.meta-next.result.next (omega arith) c.requires.number _ c.in-Ok.ensures

pub returns-in-Ok-seal_and_commit-clause-tells : goal.returns-in-Ok-seal_and_commit-clause-tells
returns-in-Ok-seal_and_commit-clause-tells g c = λ honest works before hold.
    tells_made g.C.PageCache.pages _ c.args.store.now _ _ (g.met.D.Disk.reads_may_stay c.args.disk.now (g.D.Disk.attached c.args.disk.now))
    c.requires.agrees c.args.table.now c.requires.table c.args.policy c.requires.policy c.args.number c.meta-next.result.next (omega arith)
    c.requires.number _ c.in-Ok.ensures c.seal_and_commit.ensures.any_moment c.meta-next.ensures.next honest works before hold _
    c.in-Ok-seal_and_commit.ensures.ok

pub returns-in-Ok-seal_and_commit-clause-table : goal.returns-in-Ok-seal_and_commit-clause-table
returns-in-Ok-seal_and_commit-clause-table g c =
    table_landed _ c.args.table.now (store_contents c.args.store.now) c.requires.table refl c.args.policy c.requires.policy c.args.number
    c.meta-next.result.next (omega arith) c.requires.number _ c.in-Ok.ensures _ c.in-Ok-seal_and_commit.ensures.ok c.put_now.new.self
    c.put_now.ensures.now
    (c.policies_stay_apart.ensures c.args.policy c.args.table.now c.put_now.new.self c.put_now.ensures.now c.requires.table.apart)

pub returns-in-Ok-seal_and_commit-clause-small : goal.returns-in-Ok-seal_and_commit-clause-small
returns-in-Ok-seal_and_commit-clause-small g c =
    small_setting _ c.args.table.now c.args.store.now c.seal_and_commit.new.store c.requires.table c.args.policy c.requires.policy c.args.number
    c.meta-next.result.next (omega arith) c.requires.number _ c.in-Ok.ensures c.meta-next.ensures.next c.in-Ok-seal_and_commit.ensures.ok
    _ _ c.in-Ok-seal_and_commit.ensures.told

pub returns-in-Ok-seal_and_commit-clause-leaves : goal.returns-in-Ok-seal_and_commit-clause-leaves
returns-in-Ok-seal_and_commit-clause-leaves g c =
    left_behind g.C.PageCache.pages _ c.args.store.now c.seal_and_commit.new.store _ _ _ _ (Ok tt) tt
    (readable g.C.PageCache.pages _ c.args.store.now _ _ (g.met.D.Disk.reads_may_stay c.args.disk.now (g.D.Disk.attached c.args.disk.now))
    c.requires.agrees c.args.table.now c.requires.table c.args.policy c.requires.policy c.args.number c.meta-next.result.next (omega arith)
    c.requires.number _ c.in-Ok.ensures c.seal_and_commit.ensures.any_moment)
    c.in-Ok-seal_and_commit.ensures.untouched c.in-Ok-seal_and_commit.ensures.only c.in-Ok-seal_and_commit.ensures.fails
    c.seal_and_commit.ensures.agrees c.seal_and_commit.ensures.slots c.seal_and_commit.ensures.area
    c.in-Ok-seal_and_commit.ensures.cause c.seal_and_commit.ensures.never_falls

pub returns-in-Err-clause-tells : goal.returns-in-Err-clause-tells
returns-in-Err-clause-tells g c = λ honest works before hold.
    tells_unmade g.C.PageCache.pages _ c.args.store.now _ _ (g.met.D.Disk.reads_may_stay c.args.disk.now (g.D.Disk.attached c.args.disk.now))
    c.requires.agrees c.args.table.now c.requires.table c.args.policy c.requires.policy c.args.number c.meta-next.result.next (omega arith)
    c.requires.number _ c.in-Ok.ensures c.seal_and_commit.ensures.any_moment c.meta-next.ensures.next honest works before hold
    c.seal_and_commit.new.store c.in-Err.fault c.in-Err.ensures.kept c.in-Err.ensures.only (c.in-Err.ensures.untouched honest)

pub returns-in-Err-clause-leaves : goal.returns-in-Err-clause-leaves
returns-in-Err-clause-leaves g c =
    left_behind g.C.PageCache.pages _ c.args.store.now c.seal_and_commit.new.store _ _ _ _ (Err c.in-Err.fault) c.in-Err.ensures.kept
    (readable g.C.PageCache.pages _ c.args.store.now _ _ (g.met.D.Disk.reads_may_stay c.args.disk.now (g.D.Disk.attached c.args.disk.now))
    c.requires.agrees c.args.table.now c.requires.table c.args.policy c.requires.policy c.args.number c.meta-next.result.next (omega arith)
    c.requires.number _ c.in-Ok.ensures c.seal_and_commit.ensures.any_moment)
    c.in-Err.ensures.untouched c.in-Err.ensures.only c.in-Err.ensures.fails
    c.seal_and_commit.ensures.agrees c.seal_and_commit.ensures.slots c.seal_and_commit.ensures.area
    c.in-Err.ensures.cause c.seal_and_commit.ensures.never_falls

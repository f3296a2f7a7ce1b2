-- The next document that is behind was read, and its move added; or there is none.
use Rattle.std.proofs.Common.{true, subst}
use Rattle.std.specs.FinMap as map
use Rattle.ax_store.specs.Store.{store_contents}
use Rattle.ax_transform.proofs.Looking.{looks_memory, looks_ok, of_both, one_fetched}
use Rattle.ax_write.specs.Held.{HasPolicyOf, IsHeld}
use Rattle.ax_transform.specs.Moving.{IsFirstBehind}
use Rattle.ax_transform.proofs.gather.gather_next.Goals as goal

pub returns-in-Ok-clause-added : goal.returns-in-Ok-clause-added
returns-in-Ok-clause-added g c =
    let first = subst (λ now. IsFirstBehind (store_contents c.args.store.now) now c.args.moves.now.last c.in-Some.number)
    c.now.ensures.current c.in-Some.ensures in
    let found = map.get (store_contents c.args.store.now).documents c.in-Some.number in (
      c.in-Some.number,
      first,
      c.in-Ok.ensures (g.D.Disk.is_honest c.args.disk.now) (store_contents c.args.store.now) first.behind.stored first.behind.held
          (of_both HasPolicyOf found first.behind.stored _ c.in-Ok-Some.held first.behind.held c.in-Ok-Some.field-0-is
          c.in-Ok-Some.ensures.policy)
          (λ trusted. of_both IsHeld found first.behind.stored _ c.in-Ok-Some.held first.behind.held c.in-Ok-Some.field-0-is
          (c.in-Ok-Some.ensures.held trusted)),
    )

pub returns-in-Ok-clause-fetched : goal.returns-in-Ok-clause-fetched
returns-in-Ok-clause-fetched g c =
    one_fetched (store_contents c.args.store.now) _ _ c.now.ensures.current _ c.in-Some.number _ _ c.in-Some.ensures c.fetch_held.ensures.ticked

pub returns-in-Ok-clause-leaves : goal.returns-in-Ok-clause-leaves
returns-in-Ok-clause-leaves g c =
    looks_ok g.C.PageCache.pages _ _ _ _ _ _ _ c.fetch_held.ensures.reads c.fetch_held.ensures.slots c.in-Ok-Some.ensures.fails
    c.in-Ok-Some.field-0 c.in-Ok-Some.ensures.cause true

pub returns-in-Ok-Some-clause-fetched : goal.returns-in-Ok-Some-clause-fetched
returns-in-Ok-Some-clause-fetched g c =
    one_fetched (store_contents c.args.store.now) _ _ c.now.ensures.current _ c.in-Some.number _ _ c.in-Some.ensures c.fetch_held.ensures.ticked

pub returns-in-Ok-Some-clause-leaves : goal.returns-in-Ok-Some-clause-leaves
returns-in-Ok-Some-clause-leaves g c =
    looks_memory g.C.PageCache.pages _ _ _ _ _ _ _ c.fetch_held.ensures.reads c.fetch_held.ensures.slots c.in-Ok-Some.ensures.fails
    c.in-Ok-Some.field-0 c.in-Ok-Some.ensures.cause

pub returns-clause-fetched : goal.returns-clause-fetched
returns-clause-fetched g c =
    one_fetched (store_contents c.args.store.now) _ _ c.now.ensures.current _ c.in-Some.number _ _ c.in-Some.ensures c.fetch_held.ensures.ticked

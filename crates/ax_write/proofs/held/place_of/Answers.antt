-- A document that is held has one part.
use Rattle.std.proofs.Common.{sym, ◌∙◌}
use Rattle.ax_store.proofs.Saying.{held_alike}
use Rattle.ax_store.specs.Store.{store_parts}
use Rattle.ax_write.proofs.Holding.{one_part, only_place}
use Rattle.ax_write.proofs.held.place_of.Goals as goal

pub place-requires : goal.place-requires
place-requires g c = one_part _ (sym (held_alike (store_parts c.args.store.now) c.args.number) ∙ c.requires)

pub returns-clause-offset : goal.returns-clause-offset
returns-clause-offset g c = only_place _ _ c.place.ensures.offset

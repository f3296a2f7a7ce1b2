use Rattle.std.proofs.Common.{sym, ◌∙◌}
use Rattle.ax_pages.specs.declared.page.Page.TheVariants.{Document}
use Rattle.ax_store.proofs.Saying.{held_alike}
use Rattle.ax_store.specs.Store.{store_parts}
use Rattle.ax_table.proofs.TableLaws.{one_part}
use Rattle.ax_table.proofs.Telling.{placed_apart}
use Rattle.ax_table.proofs.documents.damaged_document.Goals as goal

pub damaged_at-requires : goal.damaged_at-requires
damaged_at-requires g c = one_part _ (sym (held_alike (store_parts c.args.store.now) c.args.number) ∙ c.requires)

pub returns : goal.returns
returns g c = placed_apart c.args.store.now (Document c.args.number) c.damaged_at.result c.damaged_at.ensures

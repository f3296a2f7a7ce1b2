use Rattle.ax_terms.proofs.AnyOrder.{any_items}
use Rattle.ax_terms.proofs.laws.items_in_any_order.Goals as goal

pub returns : goal.returns
returns c = any_items

use Rattle.ax_term.proofs.ByteOrder.{byte_order}
use Rattle.ax_term.proofs.laws.byte_order_is_term_order.Goals as goal

pub returns : goal.returns
returns c = byte_order

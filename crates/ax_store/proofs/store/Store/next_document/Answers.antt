use Rattle.ax_store.specs.Store.{store_parts}
use Rattle.ax_store.proofs.Saying.{next_says, none_says}
use Rattle.ax_store.proofs.store.Store.next_document.Goals as goal

pub returns-clause-found : goal.returns-clause-found
returns-clause-found g c = next_says (store_parts c.args.self.now) c.next_document.result c.args.after c.next_document.ensures.found

pub returns-clause-none : goal.returns-clause-none
returns-clause-none g c = none_says (store_parts c.args.self.now) c.next_document.result c.args.after c.next_document.ensures.none

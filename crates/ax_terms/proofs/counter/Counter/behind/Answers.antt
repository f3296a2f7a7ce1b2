use Rattle.std.proofs.Common.{refl}
use Rattle.ax_terms.proofs.CountLaws.{is_behind}
use Rattle.ax_terms.proofs.counter.Counter.behind.Goals as goal

pub returns : goal.returns
returns c =
    is_behind c.args.self.now _ c.args.at _ c.args.key c.size.result c.in_ok-number.ensures refl refl
    c.saturating_add-size.ensures c.size.ensures

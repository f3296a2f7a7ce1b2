use Rattle.std.proofs.Common.{rules, ◌≡◌, false}
use Rattle.ax_mean.specs.Aggregates.{is_total}
use Rattle.ax_group.specs.Walks.{asks_of}
use Rattle.ax_group.proofs.AskedParts.{parts_collected}
use Rattle.ax_group.proofs.Asking.{on_ok}
use Rattle.ax_group.proofs.asked.+collect.Goals as goal

pub collect_within-returns-in_default : goal.collect_within-returns-in_default
collect_within-returns-in_default t c =
    let apart : is_total c.args.expr.now ≡ false = search rules in
    on_ok c.collect_parts.result
    (parts_collected c.args.expr.now (asks_of c.args.asked.now.items)
    (asks_of c.collect_parts.new.asked.items) apart)
    c.collect_parts.ensures

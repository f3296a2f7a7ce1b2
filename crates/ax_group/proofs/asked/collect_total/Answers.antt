use Rattle.std.proofs.Common.{refl}
use Rattle.ax_group.proofs.Asking.{total_collected}
use Rattle.ax_group.proofs.asked.collect_total.Goals as goal

pub returns : goal.returns
returns c =
    total_collected c.args.which c.args.argument.now c.args.asked.now.items c.push.new.self.items _
    refl c.in_ok-push.ensures.items

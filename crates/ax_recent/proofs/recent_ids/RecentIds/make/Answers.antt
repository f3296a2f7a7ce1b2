-- All places are empty.
use Rattle.std.proofs.Common.{rules, ap, ◌∙◌}
use Rattle.ax_recent.specs.Table.{entries_of}
use Rattle.ax_recent.proofs.Places.{none_kept}
use Rattle.ax_recent.proofs.recent_ids.RecentIds.make.Goals as goal

pub returns : goal.returns
returns c = ap entries_of (c.in_ok-places.ensures.items_if_clones_equal (search rules)) ∙ none_kept c.args.places

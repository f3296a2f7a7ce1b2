use Rattle.std.proofs.lemmas.Bool.{le-leb, lt-leb}
use Rattle.ax_gap.proofs.Gathering.{gathered_with}
use Rattle.ax_gap.proofs.gaps.gather.Goals as goal

pub returns-clause-spelled : goal.returns-clause-spelled
returns-clause-spelled c =
    gathered_with c.args.gathered.now c.args.count c.args.gap c.from-more.result c.told-gathered c.requires.room c.requires.short
    (λ small. rw (lt-leb 128 c.args.gap small) at c.from-more.ensures)
    (λ long. rw (le-leb 128 c.args.gap long) at c.from-more.ensures)

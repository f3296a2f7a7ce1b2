use Rattle.ax_candidates.proofs.Shared.{shared_of}
use Rattle.ax_candidates.proofs.meeting.in_both.Goals as goal

pub returns-clause-both : goal.returns-clause-both
returns-clause-both c =
    shared_of c.in_ok-both.both.items c.from_vec.result c.as_slice.result.now c.args.found.now c.as_slice-2.result.now c.args.others.items
    c.from_vec.ensures c.as_slice.ensures c.as_slice-2.ensures.value c.in_ok-both.ensures.members

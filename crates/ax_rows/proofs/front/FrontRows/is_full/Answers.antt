-- Where there are as many rows as are wanted, all further ones are too many; and where OFFSET and LIMIT
-- have so many rows to choose among, there are as many.
use Rattle.std.proofs.Common.{rules}
use Rattle.ax_rows.proofs.FrontKept.{full_stays, full_when}
use Rattle.ax_rows.proofs.front.FrontRows.is_full.Goals as goal

pub returns-in-Some-clause-sound : goal.returns-in-Some-clause-sound
returns-in-Some-clause-sound c = λ full distinct skip limit rows more holds.
    full_stays c.args.self.now c.in-Some.limit distinct skip limit rows more (search rules)
    (c.has_rows.ensures.yes full) holds

pub returns-in-Some-clause-full : goal.returns-in-Some-clause-full
returns-in-Some-clause-full c = λ distinct skip most rows holds many.
    c.has_rows.ensures.found
    (full_when c.args.self.now c.in-Some.limit most distinct skip rows (search rules) holds many)

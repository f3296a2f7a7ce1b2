-- The rows kept are those that OFFSET and LIMIT choose, but for rows that are too many.
use Rattle.ax_rows.proofs.FrontKept.{chosen_of}
use Rattle.ax_rows.proofs.front.FrontRows.finish.Goals as goal

pub returns : goal.returns
returns c = λ distinct skip limit rows holds.
    chosen_of c.args.self distinct skip limit rows _ c.cut.ensures holds

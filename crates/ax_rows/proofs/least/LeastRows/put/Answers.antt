-- The row is kept behind the others, and then all may be put in order.
use Rattle.std.proofs.Common.{refl, [], ◌∷◌, ◌++◌}
use Rattle.ax_rows.specs.declared.least.LeastRows.{LeastRows}
use Rattle.ax_rows.proofs.LeastKept.{pushed, pushed_least, settled}
use Rattle.ax_rows.proofs.least.LeastRows.put.Goals as goal

pub returns-then-is_short : goal.returns-then-is_short
returns-then-is_short c = λ orders most rows shown holds is wanted.
    pushed c.args.self.now _ orders most rows c.args.row shown holds is wanted refl refl
    c.in_ok-push.ensures.items (c.if-is_short.ensures refl)

pub returns : goal.returns
returns c = λ orders most rows shown holds is wanted.
    let more : LeastRows = record {
      most = c.args.self.now.most;
      least = c.args.self.now.least;
      later = c.push.new.self;
    } in
    settled more _ orders most (rows ++ shown ∷ []) holds.count
    (pushed_least c.args.self.now more orders most rows c.args.row shown holds is refl
    c.in_ok-push.ensures.items)
    refl c.in_ok-settle.ensures.least c.in_ok-settle.ensures.later

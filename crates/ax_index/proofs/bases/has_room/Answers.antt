use Rattle.std.proofs.Common.{inl, inr, ⊎_elim}
use Rattle.ax_index.proofs.BaseSizes.{long_unless}
use Rattle.ax_index.proofs.bases.has_room.Goals as goal

pub returns-then-not-are_short-clause-stuck : goal.returns-then-not-are_short-clause-stuck
returns-then-not-are_short-clause-stuck c =
    inr (inr (long_unless c.are_short.result c.args.low.now c.args.pairs.now c.are_short.ensures c.if-not-are_short.true))

pub returns-clause-stuck : goal.returns-clause-stuck
returns-clause-stuck c = ⊎_elim (λ yes. inl yes) (λ many. inr (inl many)) c.has_numbers.ensures.many

use Rattle.std.proofs.Common.{sym, subst}
use Rattle.ax_pair.specs.Order.{BeginsFrom}
use Rattle.ax_leaf.proofs.Ordered.{ordered}
use Rattle.ax_leaf.proofs.SamePairs.{same_pairs}
use Rattle.ax_leaf.proofs.writing.encode.Goals as goal

pub returns : goal.returns
returns c = record {
  spelled = c.in_ok-payload.ensures.bytes;
  short = c.in_ok-payload.ensures.short;
  number = c.in_ok-payload.ensures.number;
  count = c.in_ok-payload.ensures.count;
  are = ordered c.args.pairs.now c.requires.rise c.in_ok-payload.ensures.good;
  begins = subst (BeginsFrom c.args.low.now) (sym (same_pairs c.args.pairs.now)) c.requires.begins;
}

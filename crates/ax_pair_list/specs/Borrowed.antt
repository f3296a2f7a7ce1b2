-- How the fields of a borrowed pair stand for what callers see.
use Rattle.ax_pair.specs.declared.pair.Pair.{Pair}
use Rattle.ax_pair_list.specs.declared.pair_ref.PairRef.TheInside.{Inside}

abbrev pub pair_seen : Inside → Pair
pair_seen borrowed = record { term = borrowed.term.now; number = borrowed.number }

use Rattle.std.proofs.Common.{◌<◌, arith}
use Rattle.std.proofs.lemmas.List.Elements.{All-from_get_or}
use Rattle.ax_leaf.proofs.writing.put_posting.Goals as goal

pub returns-clause-list : goal.returns-clause-list
returns-clause-list c = record {
  rising = c.requires.rising;
  numbers = All-from_get_or (λ n. n < 4294967296) c.args.numbers.now 0 (λ i _. omega (arith, c.type_inv.numbers i));
}

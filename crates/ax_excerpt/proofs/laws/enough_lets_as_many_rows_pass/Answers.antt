use Rattle.ax_excerpt.proofs.RowsAlike.{as_many_pass, none_passes}
use Rattle.ax_excerpt.proofs.laws.enough_lets_as_many_rows_pass.Goals as goal

pub returns : goal.returns
returns c = record {
  many = λ excerpt query tree h. as_many_pass excerpt query tree h;
  none = λ excerpt query tree h none. none_passes excerpt query tree h none;
}

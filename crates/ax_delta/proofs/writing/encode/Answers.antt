use Rattle.ax_delta.proofs.Grouping.{are_from, terms_of_rise, some_of}
use Rattle.ax_delta.specs.Changes.{term_changes_of}
use Rattle.ax_delta.proofs.writing.encode.Goals as goal

pub returns : goal.returns
returns c = record {
  spelled = c.in_ok-payload.ensures.bytes;
  some = some_of c.args.changes.now c.requires.some;
  count = c.in_ok-payload.ensures.count;
  are = are_from (term_changes_of c.args.changes.now) c.in_ok-payload.ensures.good (terms_of_rise c.args.changes.now c.requires.rise);
}

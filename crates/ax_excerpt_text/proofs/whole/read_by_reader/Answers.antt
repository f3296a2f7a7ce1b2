use Rattle.ax_excerpt_text.proofs.WholeLaws.{all_so, told_read}
use Rattle.ax_excerpt_text.proofs.whole.read_by_reader.Goals as goal

pub returns : goal.returns
returns c =
    let read = told_read c.read.result c.told.result c.args.text.now c.read.ensures.tree c.read.ensures.json
    c.read.ensures.number c.told.ensures.tree c.told.ensures.none c.told.ensures.memory in
    record { given = all_so c.told.result c.args.text.now read; read = read }

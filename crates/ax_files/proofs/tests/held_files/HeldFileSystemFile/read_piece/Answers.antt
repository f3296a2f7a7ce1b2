use Rattle.std.proofs.Common.{rules, ◌<◌, ℕ, length, sym, slice_index_or}
use Rattle.std.proofs.lemmas.Grind.{get_or_default_zero}
use Rattle.ax_files.proofs.Reading.{one_byte}
use Rattle.ax_files.proofs.tests.held_files.HeldFileSystemFile.read_piece.Goals as goal

pub returns-clause-piece : goal.returns-clause-piece
returns-clause-piece c = λ _.
    let some : 0 < length c.args.buf.now = search rules in
    let inside : c.args.at < length c.args.self.now.bytes.now = search rules in
    let byte : ℕ = slice_index_or c.args.self.now.bytes.now c.args.at 0 in
    one_byte c.args.buf.now c.args.self.now.bytes.now c.args.at byte some inside
    (sym (get_or_default_zero c.args.self.now.bytes.now c.args.at byte inside))

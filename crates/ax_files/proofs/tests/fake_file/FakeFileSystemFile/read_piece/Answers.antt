use Rattle.std.proofs.Common.{rules, ◌<◌, length}
use Rattle.ax_files.proofs.Reading.{one_byte}
use Rattle.ax_files.proofs.tests.fake_file.FakeFileSystemFile.read_piece.Goals as goal

pub returns-clause-piece : goal.returns-clause-piece
returns-clause-piece c = λ _.
    let some : 0 < length c.args.buf.now = search rules in
    let inside : c.args.at < length c.args.self.now.bytes.items = search rules in
    one_byte c.args.buf.now c.args.self.now.bytes.items c.args.at c.index.result.now some inside c.index.ensures

-- The outcome so far is what the function may answer.
use Rattle.std.proofs.Common.{◌≡◌, ◌≤◌, ◌<◌, length, take, drop, IsTrue, IsOk, IfOk, IfErr}
use Rattle.ax_files.specs.SystemCalls.{SystemCall}
use Rattle.ax_files.proofs.store_file.read_uninterrupted.Given as goal

abbrev pub invariant-loop : goal.invariant-loop
invariant-loop g l = record {
  bound : IfOk l.outcome (λ count. count ≤ length l.fn.buf);
  same : length l.buf ≡ length l.fn.buf;
  piece : IsTrue (g.F.SystemFile.is_honest l.fn.file)
      → IfOk l.outcome (λ count. take count l.buf ≡ take count (drop l.fn.at (g.F.SystemFile.content l.fn.file)));
  end : IsTrue (g.F.SystemFile.is_honest l.fn.file) → 0 < length l.fn.buf
      → IfOk l.outcome (λ count. count ≡ 0 → length (g.F.SystemFile.content l.fn.file) ≤ l.fn.at);
  error : IfErr l.outcome (λ error. g.F.SystemFile.fails_with l.fn.file SystemCall.ReadPiece error);
  works : IsTrue (g.F.SystemFile.is_working l.fn.file) → IsOk l.outcome;
}

use Rattle.std.proofs.Common.{◌≡◌, ◌≤◌, length, All, vec_capacity}
use Rattle.ax_pool.specs.Frames.{frame_size}
use Rattle.ax_pool.proofs.pool.empty_frames.Given as goal

abbrev pub invariant-loop : goal.invariant-loop
invariant-loop l = record {
  made : length l.frames.items ≡ l.counter;
  sizes : All (λ frame. length frame.items ≡ frame_size) l.frames.items;
  room : l.fn.n ≤ vec_capacity l.frames;
}

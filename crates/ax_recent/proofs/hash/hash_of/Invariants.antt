use Rattle.std.proofs.Common.{◌≡◌, take, fold}
use Rattle.ax_recent.specs.Hash.{with_byte}
use Rattle.ax_recent.proofs.hash.hash_of.Given as goal

-- the hash of the bytes so far
abbrev pub invariant-loop-byte : goal.invariant-loop-byte
invariant-loop-byte l = l.hash ≡ fold with_byte l.initial.hash (take l.byte-index l.bytes)

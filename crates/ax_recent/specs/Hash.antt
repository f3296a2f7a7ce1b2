-- The hash of an id, and with it the place at which it stands.
-- FNV-1a, of 64 bits.
use Rattle.std.specs.Prelude.{ℕ, ◌*◌, ◌%◌, ◌^◌, List, fold, bit_xor}

-- one byte is put into a hash: the bits in which they differ, times the prime
abbrev pub with_byte : ℕ → ℕ → ℕ
with_byte hash byte = (bit_xor hash byte * 0x100000001b3) % 2 ^ 64

-- the hash of bytes, one after another from the offset basis on
unfoldable pub hash_of : List ℕ → ℕ
hash_of bytes = fold with_byte 0xcbf29ce484222325 bytes

-- the place of an id among so many
unfoldable pub place_of : List ℕ → ℕ → ℕ
place_of id places = hash_of id % places

-- The frames of a pool as contracts see them: the bytes of each, by its number, and which are taken.
-- It is this project's own; it comes from no public document.
use Rattle.std.specs.Prelude.{◌≡◌, ℕ, ◌+◌, Bool, true, false, not, List, [], ◌++◌, length, take, drop, slice_index_or, slice_set, count_by, refl}
use Rattle.std.specs.Coded.{Coded, code_by, coded×, coded_list, coded_ℕ, coded_bool}

pub record Frames : Type 0 where
  pub bytes : List (List ℕ)
  pub taken : List Bool

abbrev pub frames_code : Coded Frames
frames_code = code_by (List (List ℕ) × List Bool) (coded× (coded_list (coded_list coded_ℕ)) (coded_list coded_bool))
    (λ frames. (frames.bytes, frames.taken)) (λ fields. record { bytes = fields.0; taken = fields.1 }) (λ _. refl)

-- how many bytes a frame has
abbrev pub frame_size : ℕ
frame_size = 65536

-- a frame of the pool has this number, and it is taken
abbrev pub IsTaken : Frames → ℕ → Type 0
IsTaken frames number = slice_index_or frames.taken number false ≡ true

-- a frame of the pool has this number, and it is free
abbrev pub IsFree : Frames → ℕ → Type 0
IsFree frames number = slice_index_or frames.taken number true ≡ false

abbrev pub bytes_at : Frames → ℕ → List ℕ
bytes_at frames number = slice_index_or frames.bytes number []

abbrev pub free_count : Frames → ℕ
free_count frames = count_by not frames.taken

abbrev pub taken_count : Frames → ℕ
taken_count frames = count_by (λ taken. taken) frames.taken

-- the frames that are free and those that are taken are all frames of the pool
abbrev pub AddUp : Frames → Type 0
AddUp frames = free_count frames + taken_count frames ≡ length frames.bytes

-- a frame, over whose front bytes were written
abbrev pub written_over : List ℕ → List ℕ → List ℕ
written_over bytes frame = take (length frame) (bytes ++ drop (length bytes) frame)

-- bytes were written over the front of the frame of this number, and all else is the same
abbrev pub with_front : Frames → ℕ → List ℕ → Frames
with_front frames number bytes =
    record frames { bytes = slice_set frames.bytes number (written_over bytes (bytes_at frames number)) }

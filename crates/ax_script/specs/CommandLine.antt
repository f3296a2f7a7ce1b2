-- The words of the command line, after the program's name: `run STORE`, where the name of the store is
-- not empty and does not begin with a dash.
use Rattle.std.specs.Prelude.{ℕ, List, [], ◌∷◌, Bool, false, not, ◌&&◌, ◌==◌, String, string_bytes}
use Rattle.std.specs.Prelude.{codes}
use Rattle.std.specs.declared.alloc.Global.{Global}
use Rattle.std.specs.Str.{bytes_eq}

abbrev pub is_store : List ℕ → Bool
is_store [] = false
is_store (first ∷ rest) = not (first == 45)

abbrev pub is_run : List (String Global) → Bool
is_run [] = false
is_run (command ∷ []) = false
is_run (command ∷ store ∷ []) =
    bytes_eq (string_bytes command) (codes "run") && is_store (string_bytes store)
is_run (command ∷ store ∷ more ∷ rest) = false

-- the name of the store, which is the second word
abbrev pub store_word : List (String Global) → List ℕ
store_word [] = []
store_word (command ∷ []) = []
store_word (command ∷ store ∷ rest) = string_bytes store

-- Laws of what a read gives.
use Rattle.std.proofs.Common.{◌≡◌, ◌⊎◌, ⊎_elim, ℕ, ◌+◌, ◌-◌, ◌<◌, ◌≤◌, List, ◌++◌, length, get_or, take, drop, sym, ◌∙◌, ap, arith, length-append}
use Rattle.std.proofs.Math.ListN.{replicate}
use Rattle.std.proofs.lemmas.List.{ext_get_or, length-take, length-drop, length-replicate, get_or-take, get_or-drop, get_or-replicate}
use Rattle.std.proofs.lemmas.List.{get_or_append_left, get_or-append_right, get_or_past, take-append-le}
use Rattle.ax_disk.specs.model.Calls.{bytes_from}

pub length-bytes_from : (list : List ℕ) (at size : ℕ) → length (bytes_from list at size) ≡ size
length-bytes_from list at size =
    omega (arith, length-take size (drop at list ++ replicate size 0), length-append (drop at list) (replicate size 0), length-replicate {A = ℕ} size 0)

in_list_or_past : (a b : ℕ) → (a < b) ⊎ (b ≤ a)
in_list_or_past a b = grind arith

-- each byte is the list's at its place, or 0 past the end
pub get_or-bytes_from : (list : List ℕ) (at size i : ℕ) → i < size → get_or (bytes_from list at size) i 0 ≡ get_or list (at + i) 0
get_or-bytes_from list at size i below =
    get_or-take size (drop at list ++ replicate size 0) i 0 below
    ∙ ⊎_elim
    (λ here. get_or_append_left (drop at list) (replicate size 0) 0 i here ∙ get_or-drop at list i 0)
    (λ past.
    let long = length-drop at list in
    get_or-append_right (drop at list) (replicate size 0) (length (drop at list)) i 0 (omega arith) past
    ∙ get_or-replicate size (i - length (drop at list)) 0 0 (omega arith)
    ∙ sym (get_or_past list (at + i) 0 (omega (arith, long, past))))
    (in_list_or_past i (length (drop at list)))

-- a read within the list gives those bytes of it
pub bytes_from-within : (list : List ℕ) (at size : ℕ) → at + size ≤ length list → bytes_from list at size ≡ take size (drop at list)
bytes_from-within list at size within = take-append-le size (drop at list) (replicate size 0) (omega (arith, length-drop at list))

-- a list of so many bytes that are the list's at their places, or 0 past its end, is what a read gives
pub is_bytes_from : (list : List ℕ) (at size : ℕ) (bytes : List ℕ) → length bytes ≡ size → ((i : ℕ) → i < size → get_or bytes i 0 ≡ get_or list (at + i) 0)
    → bytes ≡ bytes_from list at size
is_bytes_from list at size bytes long each =
    ext_get_or 0 bytes (bytes_from list at size) (long ∙ sym (length-bytes_from list at size))
    (λ i below. each i (omega arith) ∙ sym (get_or-bytes_from list at size i (omega arith)))

-- a read in two pieces is one read
pub bytes_from_pieces : (list : List ℕ) (at m n : ℕ) → bytes_from list at (m + n) ≡ bytes_from list at m ++ bytes_from list (at + m) n
bytes_from_pieces list at m n =
    let one = length-bytes_from list at m in
    let other = length-bytes_from list (at + m) n in
    let all = length-bytes_from list at (m + n) in
    ext_get_or 0 (bytes_from list at (m + n)) (bytes_from list at m ++ bytes_from list (at + m) n)
    (omega (arith, all, one, other, length-append (bytes_from list at m) (bytes_from list (at + m) n)))
    (λ i below.
    get_or-bytes_from list at (m + n) i (omega (arith, all))
    ∙ ⊎_elim
    (λ near. sym (get_or_append_left (bytes_from list at m) (bytes_from list (at + m) n) 0 i (omega (arith, one, near)) ∙ get_or-bytes_from list at m i near))
    (λ far.
    let place : at + m + (i - m) ≡ at + i = omega (arith, far) in
    sym
    (get_or-append_right (bytes_from list at m) (bytes_from list (at + m) n) m i 0 one far
    ∙ get_or-bytes_from list (at + m) n (i - m) (omega (arith, all, far, below))
    ∙ ap (λ (k : ℕ). get_or list k 0) place))
    (in_list_or_past i m))

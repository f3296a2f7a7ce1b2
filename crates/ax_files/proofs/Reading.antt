-- Bytes that are read piece by piece into a buffer, and zeros behind them.
use Rattle.std.proofs.Common.{◌≡◌, ◌⊎◌, ⊎_elim, ℕ, ◌+◌, ◌-◌, ◌<◌, ◌≤◌, List, [], ◌∷◌, ◌++◌, length, get_or, set, take, drop, sym, ◌∙◌, ap, arith, length-append}
use Rattle.std.proofs.Math.Seq.{take-add}
use Rattle.std.proofs.Math.ListN.{replicate}
use Rattle.std.proofs.lemmas.List.{length-take, length-take-le, length-drop, take_at, drop_at, take-append-le, drop-append-le, drop-drop, drop_all, take-replicate, append-nil, take_more_set, drop_more}
use Rattle.ax_disk.specs.model.Calls.{bytes_from}

-- a piece that was read behind those before it
pub piece_added : (content buffer piece rest : List ℕ) (at filled count : ℕ) → filled ≤ length buffer
    → count ≤ length piece → take filled buffer ≡ take filled (drop at content)
    → take count piece ≡ take count (drop (at + filled) content)
    → take (filled + count) (take filled buffer ++ (piece ++ rest)) ≡ take (filled + count) (drop at content)
piece_added content buffer piece rest at filled count within fits before piece_is =
    let whole = take filled buffer ++ (piece ++ rest) in
    let front : length (take filled buffer) ≡ filled = length-take-le filled buffer within in
    take-add filled count whole
    ∙ ap (λ (l : List ℕ). l ++ take count (drop filled whole)) (take_at (take filled buffer) (piece ++ rest) filled front)
    ∙ ap (λ (l : List ℕ). take filled buffer ++ take count l) (drop_at (take filled buffer) (piece ++ rest) filled front)
    ∙ ap (λ (l : List ℕ). take filled buffer ++ l) (take-append-le count piece rest fits)
    ∙ ap (λ (l : List ℕ). l ++ take count piece) before
    ∙ ap (λ (l : List ℕ). take filled (drop at content) ++ l) piece_is
    ∙ ap (λ (l : List ℕ). take filled (drop at content) ++ take count l) (sym (drop-drop filled at content))
    ∙ sym (take-add filled count (drop at content))

less_or_not : (a b : ℕ) → (a < b) ⊎ (b ≤ a)
less_or_not a b = grind arith

-- zeros behind what was read, where that is all that there is
pub zeros_behind : (content buffer zeros : List ℕ) (at filled : ℕ) → filled ≤ length buffer
    → take filled buffer ≡ take filled (drop at content)
    → (filled < length buffer → length content ≤ at + filled)
    → zeros ≡ replicate (length buffer - filled) 0
    → take filled buffer ++ zeros ≡ bytes_from content at (length buffer)
zeros_behind content buffer zeros at filled within read ended zeros_are =
    let size = length buffer in
    let rest = drop at content in
    let none : List ℕ = replicate size 0 in
    let long : filled ≤ length rest =
    omega (arith, ap length read, length-take filled buffer, length-take filled rest) in
    let parts : filled + (size - filled) ≡ size = omega (arith, within) in
    let tail : take (size - filled) (drop filled rest ++ none) ≡ replicate (size - filled) 0 =
    ⊎_elim
    (λ (less : filled < size).
    ap (λ (l : List ℕ). take (size - filled) (l ++ none))
    (drop_all filled rest (omega (arith, ended less, length-drop at content)))
    ∙ take-replicate (size - filled) size 0 (omega arith))
    (λ (all : size ≤ filled).
    let over : size - filled ≡ 0 = omega (arith, all) in
    ap (λ (k : ℕ). take k (drop filled rest ++ none)) over ∙ sym (ap (λ (k : ℕ). replicate k 0) over))
    (less_or_not filled size) in
    ap (λ (l : List ℕ). l ++ zeros) read
    ∙ ap (λ (l : List ℕ). take filled rest ++ l) (zeros_are ∙ sym tail)
    ∙ ap (λ (l : List ℕ). l ++ take (size - filled) (drop filled rest ++ none)) (sym (take-append-le filled rest none long))
    ∙ ap (λ (l : List ℕ). take filled (rest ++ none) ++ take (size - filled) l) (sym (drop-append-le filled rest none long))
    ∙ sym (take-add filled (size - filled) (rest ++ none))
    ∙ ap (λ (k : ℕ). take k (rest ++ none)) parts

-- The same, as a read into the front of a buffer and zeros in the rest of it leave it. Where the front is not all,
-- no byte is past it.
pub filled_behind : (content buffer read zeros : List ℕ) (at reachable filled : ℕ) → reachable ≤ length buffer
    → length read ≡ reachable → filled ≤ reachable → take filled read ≡ take filled (drop at content)
    → (filled < reachable → length content ≤ at + filled)
    → (reachable < length buffer → length content ≤ at + reachable)
    → zeros
    ≡ replicate
    (length
    (take (length (read ++ drop reachable buffer) - filled)
    (drop filled (read ++ drop reachable buffer)))) 0
    → take filled (read ++ drop reachable buffer)
    ++ (zeros
    ++ drop (length (read ++ drop reachable buffer) - filled)
    (drop filled (read ++ drop reachable buffer))) ≡ bytes_from content at (length buffer)
filled_behind content buffer read zeros at reachable filled within long fits read_is ended none_past zeros_are =
    let whole = read ++ drop reachable buffer in
    let size : length whole ≡ length buffer =
    omega (arith, within, long, length-append read (drop reachable buffer), length-drop reachable buffer) in
    let none : drop (length whole - filled) (drop filled whole) ≡ [] =
    drop_all (length whole - filled) (drop filled whole) (omega (arith, length-drop filled whole)) in
    let back : length (take (length whole - filled) (drop filled whole)) ≡ length whole - filled =
    omega (arith, length-take (length whole - filled) (drop filled whole), length-drop filled whole) in
    let front : take filled whole ≡ take filled (drop at content) =
    take-append-le filled read (drop reachable buffer) (omega (arith, fits, long)) ∙ read_is in
    ap (λ (l : List ℕ). take filled whole ++ (zeros ++ l)) none
    ∙ ap (λ (l : List ℕ). take filled whole ++ l) (append-nil zeros)
    ∙ zeros_behind content whole zeros at filled (omega (arith, fits, within, size)) front
    (λ (less : filled < length whole).
    ⊎_elim ended
    (λ (past : reachable ≤ filled).
    let over = none_past (omega (arith, less, past, fits, size)) in
    omega (arith, over, past))
    (less_or_not filled reachable))
    (zeros_are ∙ ap (λ (n : ℕ). replicate n 0) back)
    ∙ ap (λ (n : ℕ). bytes_from content at n) size

-- one byte of a list, set at the front of a buffer
pub one_byte : (buffer bytes : List ℕ) (at byte : ℕ) → 0 < length buffer → at < length bytes
    → byte ≡ get_or bytes at byte → take 1 (set buffer 0 byte) ≡ take 1 (drop at bytes)
one_byte buffer bytes at byte some inside byte_is =
    take_more_set buffer 0 byte some
    ∙ ap (λ (x : ℕ). x ∷ []) byte_is
    ∙ ap (λ (l : List ℕ). take 1 l) (sym (drop_more bytes at byte inside))

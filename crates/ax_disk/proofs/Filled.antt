-- Bytes of a list and zeros behind them.
use Rattle.std.proofs.Common.{◌≡◌, ◌⊎◌, ⊎_elim, ℕ, ◌+◌, ◌-◌, ◌<◌, ◌≤◌, min, List, [], ◌++◌, length, get_or, take, drop, sym, ◌∙◌, ap, arith, length-append}
use Rattle.std.proofs.Math.ListN.{replicate}
use Rattle.std.proofs.lemmas.List.{length-take, length-drop, length-replicate, get_or-take, get_or-drop, get_or-replicate, get_or_append_left}
use Rattle.std.proofs.lemmas.List.{get_or-append_right, get_or_past, take_at, drop_all, append-nil}
use Rattle.ax_disk.specs.model.Calls.{bytes_from}
use Rattle.ax_disk.specs.laws.ReadLaws.{is_bytes_from}

copied_or_not : (a b : ℕ) → (a < b) ⊎ (b ≤ a)
copied_or_not a b = grind arith

module _ (list copied zeros : List ℕ) (at start count size i : ℕ) (below : i < size)
    (start_is : start ≡ min at (length list)) (count_is : count ≡ min size (length list - start))
    (prefix : length copied ≡ count) where
  in_copied : copied ≡ take count (drop start list) → i < count
      → get_or (copied ++ zeros) i 0 ≡ get_or list (at + i) 0
  in_copied copied_is here =
      let same : start + i ≡ at + i = omega arith in
      get_or_append_left copied zeros 0 i (omega arith)
      ∙ ap (λ (l : List ℕ). get_or l i 0) copied_is
      ∙ get_or-take count (drop start list) i 0 here
      ∙ get_or-drop start list i 0
      ∙ ap (λ (k : ℕ). get_or list k 0) same

  in_zeros : zeros ≡ replicate (size - count) 0 → count ≤ i
      → get_or (copied ++ zeros) i 0 ≡ get_or list (at + i) 0
  in_zeros zeros_are past =
      get_or-append_right copied zeros count i 0 prefix past
      ∙ ap (λ (l : List ℕ). get_or l (i - count) 0) zeros_are
      ∙ get_or-replicate (size - count) (i - count) 0 0 (omega arith)
      ∙ sym (get_or_past list (at + i) 0 (omega arith))

filled : (list copied zeros : List ℕ) (at start count size : ℕ) → start ≡ min at (length list)
    → count ≡ min size (length list - start) → copied ≡ take count (drop start list)
    → zeros ≡ replicate (size - count) 0 → copied ++ zeros ≡ bytes_from list at size
filled list copied zeros at start count size start_is count_is copied_is zeros_are =
    let prefix : length copied ≡ count =
    omega
    (arith, ap length copied_is, length-take count (drop start list), length-drop start list) in
    let back : length zeros ≡ size - count = ap length zeros_are
    ∙ length-replicate {A = ℕ} (size - count) 0 in
    is_bytes_from list at size (copied ++ zeros) (omega (arith, length-append copied zeros))
    (λ i below. ⊎_elim
    (in_copied list copied zeros at start count size i below start_is count_is prefix copied_is)
    (in_zeros list copied zeros at start count size i below start_is count_is prefix zeros_are)
    (copied_or_not i count))

-- as two writes into a buffer leave it
pub filled_buffer : (list buffer copied zeros : List ℕ) (at start count : ℕ)
    → start ≡ min at (length list) → count ≡ min (length buffer) (length list - start)
    → copied ≡ take count (drop start list)
    → zeros
    ≡ replicate
    (length
    (take (length (copied ++ drop count buffer) - count)
    (drop count (copied ++ drop count buffer)))) 0
    → take count (copied ++ drop count buffer)
    ++ (zeros
    ++ drop (length (copied ++ drop count buffer) - count)
    (drop count (copied ++ drop count buffer))) ≡ bytes_from list at (length buffer)
filled_buffer list buffer copied zeros at start count start_is count_is copied_is zeros_are =
    let whole = copied ++ drop count buffer in
    let prefix : length copied ≡ count =
    omega
    (arith, ap length copied_is, length-take count (drop start list), length-drop start list) in
    let size : length whole ≡ length buffer =
    omega (arith, length-append copied (drop count buffer), length-drop count buffer) in
    let none : drop (length whole - count) (drop count whole) ≡ [] =
    drop_all (length whole - count) (drop count whole)
    (omega (arith, length-drop count whole)) in
    let back : length (take (length whole - count) (drop count whole)) ≡ length buffer - count =
    omega
    (arith, length-take (length whole - count) (drop count whole), length-drop count whole) in
    ap (λ (l : List ℕ). l ++ (zeros ++ drop (length whole - count) (drop count whole)))
    (take_at copied (drop count buffer) count prefix)
    ∙ ap (λ (l : List ℕ). copied ++ (zeros ++ l)) none
    ∙ ap (λ (l : List ℕ). copied ++ l) (append-nil zeros)
    ∙ filled list copied zeros at start count (length buffer) start_is count_is copied_is
    (zeros_are ∙ ap (λ (n : ℕ). replicate n 0) back)

-- Bytes of gaps that are gathered in an array.
use Rattle.std.proofs.Common.{◌≡◌, ℕ, ◌+◌, ◌*◌, ◌/◌, ◌%◌, ◌<◌, ◌≤◌, List, [], ◌∷◌, ◌++◌, length, take, drop, arith, ap, ◌∙◌, sym, ⊎_elim, slice_set}
use Rattle.std.proofs.lemmas.Bool.{cases_lt}
use Rattle.std.proofs.lemmas.List.{take-set, take_more_set, append_assoc, length-set, take-append-drop}
use Rattle.ax_gap.specs.Varint.{varint}
use Rattle.ax_gap.proofs.VarintLaws.{varint-small, varint-large, take-more_written}

-- one byte behind those that are gathered, and one more that does not count
one_byte : (g : List ℕ) (count gap y : ℕ) → count < length g → gap < 128 → take (count + 1) (slice_set (slice_set g count gap) (count + 1) y) ≡ take count g
    ++ varint gap
one_byte g count gap y room small =
    take-set (slice_set g count gap) (count + 1) y ∙ take_more_set g count gap room
    ∙ ap (λ (bs : List ℕ). take count g ++ bs) (sym (varint-small gap small))

-- two bytes behind those that are gathered
two_bytes : (g : List ℕ) (count gap : ℕ) → count + 1 < length g → 128 ≤ gap → gap < 16384
    → take (count + 1 + 1) (slice_set (slice_set g count (128 + gap % 128)) (count + 1) (gap / 128)) ≡ take count g ++ varint gap
two_bytes g count gap room long short =
    let x = 128 + gap % 128 in
    let l = slice_set g count x in
    take_more_set l (count + 1) (gap / 128) (omega (arith, length-set g count x))
    ∙ ap (λ (bs : List ℕ). bs ++ gap / 128 ∷ []) (take_more_set g count x (omega arith))
    ∙ append_assoc (take count g) (x ∷ []) (gap / 128 ∷ [])
    ∙ ap (λ (bs : List ℕ). take count g ++ (x ∷ bs)) (sym (varint-small (gap / 128) (omega arith)))
    ∙ ap (λ (bs : List ℕ). take count g ++ bs) (sym (varint-large gap long))

pub gathered_with : (g : List ℕ) (count gap more : ℕ) → length g ≡ 256 → count ≤ 254 → gap < 16384 → (gap < 128 → more ≡ 0) → (128 ≤ gap → more ≡ 1)
    → take (count + 1 + more) (slice_set (slice_set g count (gap % 128 + 128 * more)) (count + 1) (gap / 128)) ≡ take count g ++ varint gap
gathered_with g count gap more size room short none one =
    ⊎_elim
    (λ (small : gap < 128).
    let e : more ≡ 0 = none small in
    let number : gap % 128 + 128 * more ≡ gap = omega arith in
    let end : count + 1 + more ≡ count + 1 = omega arith in
    rw (number, end) (one_byte g count gap (gap / 128) (omega arith) small))
    (λ (long : 128 ≤ gap).
    let e : more ≡ 1 = one long in
    let number : gap % 128 + 128 * more ≡ 128 + gap % 128 = omega arith in
    rw (number, e) (two_bytes g count gap (omega arith) long short))
    (cases_lt gap 128)

-- what begins with bytes that begin with the old ones begins with the old ones
pub still_begins : (old out new : List ℕ) → take (length old) out ≡ old → take (length out) new ≡ out → take (length old) new ≡ old
still_begins old out new was now =
    let whole : new ≡ out ++ drop (length out) new = sym (take-append-drop (length out) new) ∙ ap (λ (bs : List ℕ). bs ++ drop (length out) new) now in
    ap (take (length old)) whole ∙ take-more_written old out (drop (length out) new) was

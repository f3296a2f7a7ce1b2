-- Reading a varint byte by byte: what the bytes so far and the rest give together.
use Rattle.std.proofs.Common.{◌≡◌, ℕ, ◌+◌, ◌-◌, ◌*◌, ◌<◌, ◌≤◌, ◌^◌, ◌&&◌, false, get_or, length, ◌==◌, List, ◌∷◌, Option, Some, None, zero, suc}
use Rattle.std.proofs.Common.{nat_lt, drop, if◌then◌else◌, arith, refl, ap, ◌∙◌, sym}
use Rattle.std.proofs.lemmas.Bool.{le-ltb, lt-ltb, lt-leb, ne_eqb, and_right}
use Rattle.std.proofs.lemmas.List.{at_drop_more}
use Rattle.std.proofs.lemmas.Nat.{mul-le}
use Rattle.ax_gap.specs.Reading.{first_varint, longer, at_most}

-- what is read where so many groups came before, which stand for `low`, and the next group counts
-- `scale`
abbrev pub placed : ℕ → ℕ → ℕ → Option (ℕ × List ℕ) → Option (ℕ × List ℕ)
placed low scale taken None = None
placed low scale taken (Some found) =
    if nat_lt 0 taken && (found.0 == 0) then None else Some (low + found.0 * scale, found.1)

pub record IsUnderWay (low scale taken : ℕ) (bytes : List ℕ) : Type 0 where
  pub reads : placed low scale taken (first_varint (drop taken bytes)) ≡ first_varint bytes
  pub below : low < scale
  pub scale_fits : scale ≤ 549755813888
  pub first : taken ≡ 0 → scale ≡ 1

pub placed_start : (r : Option (ℕ × List ℕ)) → placed 0 1 0 r ≡ r
placed_start None = refl
placed_start (Some found) = ap (λ (n : ℕ). Some (n, found.1)) (omega arith)

suc_not_zero : (n : ℕ) → (suc n == 0) ≡ false
suc_not_zero n = ne_eqb (suc n) 0 (λ e. omega arith)

scaled_over : (low scale n : ℕ) → 4294967296 < scale → 4294967296 < low + suc n * scale
scaled_over low scale n h = let e : suc n * scale ≡ scale + n * scale = omega arith in omega (arith, e)

pub placed_over : (low scale taken : ℕ) (r : Option (ℕ × List ℕ)) → 4294967296 < scale → 0 < taken → at_most (2 ^ 32) (placed low scale taken r) ≡ None
placed_over low scale taken None h t = refl
placed_over low scale taken (Some (zero, rest)) h t = rw (lt-ltb 0 taken t) refl
placed_over low scale taken (Some (suc n, rest)) h t =
    rw (suc_not_zero n, and_right (nat_lt 0 taken) false refl, lt-leb (low + suc n * scale) 4294967296 (scaled_over low scale n h)) refl

shifted : (low scale byte n : ℕ) → low + (byte - 128 + 128 * suc n) * scale ≡ low + (byte - 128) * scale + suc n * (scale * 128)
shifted low scale byte n = omega arith

pub placed_more : (low scale taken byte : ℕ) (r : Option (ℕ × List ℕ))
    → placed low scale taken (longer byte r) ≡ placed (low + (byte - 128) * scale) (scale * 128) (taken + 1) r
placed_more low scale taken byte None = refl
placed_more low scale taken byte (Some (zero, rest)) =
    rw (lt-ltb 0 (taken + 1) (omega arith)) refl
placed_more low scale taken byte (Some (suc n, rest)) =
    let some : (byte - 128 + 128 * suc n == 0) ≡ false = ne_eqb (byte - 128 + 128 * suc n) 0 (λ e. omega arith) in
    rw (suc_not_zero n, some, and_right (nat_lt 0 taken) false refl, and_right (nat_lt 0 (taken + 1)) false refl)
    (ap (λ (v : ℕ). Some (v, rest)) (shifted low scale byte n))

-- one more byte from 128 on, which is `byte`
pub more : (low scale taken byte : ℕ) (bytes : List ℕ) → IsUnderWay low scale taken bytes → taken < length bytes → byte ≡ get_or bytes taken 0 → 128 ≤ byte
    → byte < 256 → scale ≤ 4294967296 → IsUnderWay (low + (byte - 128) * scale) (scale * 128) (taken + 1) bytes
more low scale taken byte bytes was within at long small fits =
    let rest : List ℕ = drop (taken + 1) bytes in
    let here : first_varint (drop taken bytes) ≡ first_varint (get_or bytes taken 0 ∷ rest) = at_drop_more first_varint bytes taken 0 within in
    let named : first_varint (get_or bytes taken 0 ∷ rest) ≡ first_varint (byte ∷ rest) = ap (λ (b : ℕ). first_varint (b ∷ rest)) (sym at) in
    let goes_on : first_varint (byte ∷ rest) ≡ longer byte (first_varint rest) = rw (le-ltb byte 128 long) refl in
    let part : (byte - 128) * scale ≤ 127 * scale = mul-le (byte - 128) scale 127 scale (omega arith) (omega arith) in
    record {
      reads = sym (placed_more low scale taken byte (first_varint rest)) ∙ ap (placed low scale taken) (sym (here ∙ named ∙ goes_on)) ∙ was.reads;
      below = omega (arith, was.below, part);
      scale_fits = omega arith;
      first = λ e. absurd (omega arith);
    }

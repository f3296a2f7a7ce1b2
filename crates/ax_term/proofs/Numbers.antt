-- Numbers with the high bytes first decide as the numbers do.
use Rattle.std.proofs.Common.{◌≡◌, ℕ, ◌+◌, ◌-◌, ◌*◌, ◌/◌, ◌%◌, ◌^◌, ◌<◌, zero, suc, ℤ, pos, negsuc, [], ◌∷◌, true, refl, sym, ap, ◌∙◌, arith, inl, inr, ◌⊎◌}
use Rattle.std.proofs.lemmas.Bool.{cases_order}
use Rattle.std.proofs.lemmas.Bool.Decides.{nat_tests}
use Rattle.std.proofs.lemmas.Nat.{mul-add-lt}
use Rattle.std.proofs.Math.Arith.{mod-mul}
use Rattle.std.proofs.Math.Nat.{mod-one, mod-eq_of_lt, mod-lt, one-le-pow, pow-succ', div-one, mul_comm}
use Rattle.std.proofs.Math.Dec.{lit<}
use Rattle.std.proofs.lemmas.Bool.{ltb-true}
use Rattle.std.specs.Int.{w64, to_be_bytes, bytes_high_first, byte_at}
use Rattle.std.specs.Ordering.{ordering_then, nat_cmp, int_cmp}
use Rattle.ax_tree.specs.WellFormed.{is_of_64_bits}
use Rattle.ax_term.specs.TermBytes.{raised}
use Rattle.ax_term.proofs.Decided.{Decides, decides_as, decides_both, decides_byte, decides_none, less, greater, equal}

-- a number by its high digit, and then by the rest
below : (w a b c d : ℕ) → b < w → a < c → a * w + b < c * w + d
below w a b c d h p =
    let e : a * w + b < w * c = mul-add-lt a w b c p h in
    let f : w * c ≡ c * w = mul_comm w c in
    omega arith

digits_cmp : (w a b c d : ℕ) → b < w → d < w
    → nat_cmp (a * w + b) (c * w + d) ≡ ordering_then (nat_cmp a c) (nat_cmp b d)
digits_cmp w a b c d h k = by (cases_order a c)
  where
    by : (a ≡ c) ⊎ ((a < c) ⊎ (c < a))
        → nat_cmp (a * w + b) (c * w + d) ≡ ordering_then (nat_cmp a c) (nat_cmp b d)
    by (inl same) =
        ap (λ n. nat_cmp (n * w + b) (c * w + d)) same
        ∙ by_rest (cases_order b d)
        ∙ ap (λ o. ordering_then o (nat_cmp b d)) (sym (equal a c same))
      where
        by_rest : (b ≡ d) ⊎ ((b < d) ⊎ (d < b)) → nat_cmp (c * w + b) (c * w + d) ≡ nat_cmp b d
        by_rest (inl e) = equal (c * w + b) (c * w + d) (ap (λ n. c * w + n) e) ∙ sym (equal b d e)
        by_rest (inr (inl p)) = less (c * w + b) (c * w + d) (omega arith) ∙ sym (less b d p)
        by_rest (inr (inr p)) = greater (c * w + b) (c * w + d) (omega arith) ∙ sym (greater b d p)
    by (inr (inl p)) =
        less (a * w + b) (c * w + d) (below w a b c d h p) ∙ ap (λ o. ordering_then o (nat_cmp b d)) (sym (less a c p))
    by (inr (inr p)) =
        greater (a * w + b) (c * w + d) (below w c d a b k p)
        ∙ ap (λ o. ordering_then o (nat_cmp b d)) (sym (greater a c p))

is_byte : (i n : ℕ) → byte_at i n ≡ n / 256 ^ i % 256
is_byte zero n = ap (λ m. m % 256) (sym (div-one n))
is_byte (suc i) n = refl

some : (i : ℕ) → 0 < 256 ^ i
some i = one-le-pow i 256 (lit< tt)

first_digit : (i n : ℕ) → n % 256 ^ suc i ≡ byte_at i n * 256 ^ i + n % 256 ^ i
first_digit i n =
    ap (λ m. n % m) (pow-succ' 256 i) ∙ mod-mul n {m = 256} {c = 256 ^ i} (lit< tt) (some i)
    ∙ ap (λ m. m * 256 ^ i + n % 256 ^ i) (sym (is_byte i n))

decides_digits : (k n m : ℕ)
    → Decides (bytes_high_first k n) (bytes_high_first k m) (nat_cmp (n % 256 ^ k) (m % 256 ^ k))
decides_digits zero n m =
    decides_as _ _ _ _ (sym (equal (n % 1) (m % 1) (mod-one n ∙ sym (mod-one m)))) decides_none
decides_digits (suc k) n m =
    decides_as _ _ _ _
    (sym
    (digits_cmp (256 ^ k) (byte_at k n) (n % 256 ^ k) (byte_at k m) (m % 256 ^ k)
    (mod-lt n (some k)) (mod-lt m (some k)))
    ∙ ap (λ x. nat_cmp x (byte_at k m * 256 ^ k + m % 256 ^ k)) (sym (first_digit k n))
    ∙ ap (nat_cmp (n % 256 ^ suc k)) (sym (first_digit k m)))
    (decides_both (byte_at k n ∷ []) (byte_at k m ∷ []) _ (bytes_high_first k n)
    (bytes_high_first k m) _ (decides_byte (byte_at k n) (byte_at k m))
    (λ e. decides_digits k n m))

raised_fits : (z : ℤ) → is_of_64_bits z ≡ true → raised z < 2 ^ 64
raised_fits (pos n) h = let e : n < 2 ^ 63 = ltb-true _ _ h in omega arith
raised_fits (negsuc n) h = omega arith

raised_cmp : (a b : ℤ) → is_of_64_bits a ≡ true → is_of_64_bits b ≡ true
    → nat_cmp (raised a) (raised b) ≡ int_cmp a b
raised_cmp (pos m) (pos n) h k =
    let e : m < 2 ^ 63 = ltb-true _ _ h in
    let f : n < 2 ^ 63 = ltb-true _ _ k in
    grind (arith, nat_tests)
raised_cmp (pos m) (negsuc n) h k =
    let e : m < 2 ^ 63 = ltb-true _ _ h in
    let f : n < 2 ^ 63 = ltb-true _ _ k in
    greater (2 ^ 63 + m) (2 ^ 63 - 1 - n) (omega arith)
raised_cmp (negsuc m) (pos n) h k =
    let e : m < 2 ^ 63 = ltb-true _ _ h in
    let f : n < 2 ^ 63 = ltb-true _ _ k in
    less (2 ^ 63 - 1 - m) (2 ^ 63 + n) (omega arith)
raised_cmp (negsuc m) (negsuc n) h k =
    let e : m < 2 ^ 63 = ltb-true _ _ h in
    let f : n < 2 ^ 63 = ltb-true _ _ k in
    grind (arith, nat_tests)

pub decides_numbers : (a b : ℤ) → is_of_64_bits a ≡ true → is_of_64_bits b ≡ true
    → Decides (to_be_bytes w64 (raised a)) (to_be_bytes w64 (raised b)) (int_cmp a b)
decides_numbers a b h k =
    decides_as _ _ _ _
    (ap (λ x. nat_cmp x (raised b % 256 ^ 8)) (mod-eq_of_lt (raised_fits a h))
    ∙ ap (nat_cmp (raised a)) (mod-eq_of_lt (raised_fits b k))
    ∙ raised_cmp a b h k)
    (decides_digits 8 (raised a) (raised b))

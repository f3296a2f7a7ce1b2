-- The digits that write a number of the logic, which may be too large for its 64 digits: then there
-- are 64. Short digits are read back as the number.
use Rattle.std.proofs.Common.{◌≡◌, ℕ, zero, suc, ◌+◌, ◌-◌, ◌*◌, ◌/◌, ◌%◌, ◌^◌, ◌<◌, ◌≤◌, List, [], ◌∷◌, length, drop, get_or, Some, true, false, not, cond, ◌==◌, ◌&&◌, nat_le, decimal, ℤ, pos, negsuc, neg_ℤ, refl, sym, ap, ◌∙◌, ⊎_elim, arith, rules}
use Rattle.std.proofs.lemmas.Bool.{cases_lt, cond_both, eq-eqb, ne_eqb, and_from, and_parts, le-leb, leb-true, lt-ltb, ltb-true, false≢true}
use Rattle.std.proofs.lemmas.List.{at_drop_all}
use Rattle.std.proofs.lemmas.Fmt.{decimal_is_IsNumeral_wide, decimal-digits_value, decimal_nonempty, first_decimal, length-decimal-le_wide}
use Rattle.std.proofs.lemmas.Str.Parse.{IsNumeralModel, digits_value_short, numerals_by_fold}
use Rattle.std.specs.Fmt.{digits, digits_onto, digit_glyph, signed_decimal}
use Rattle.std.specs.List.{list_all}
use Rattle.std.specs.Str.{all_ascii_digits}
use Rattle.std.proofs.lemmas.Nat.{le-div}
use Rattle.std.proofs.Math.Nat.{pow-suc}
use Rattle.std.specs.Char.{is_ascii_digit}
use Rattle.ax_tree.specs.WellFormed.{is_of_64_bits}
use Rattle.ax_skim.specs.Numerals.{is_numeral, begins_well}

abbrev pub read_on : ℕ → List ℕ → ℕ
read_on n [] = n
read_on n (c ∷ cs) = read_on (n * 10 + (c - 48)) cs

own : IsNumeralModel (λ ds. all_ascii_digits ds ≡ true) (read_on 0)
own = numerals_by_fold _ (search rules) read_on (search rules)

read_decimal : (n : ℕ) → n < 10 ^ 64 → read_on 0 (decimal n) ≡ n
read_decimal n h =
    let two = decimal_is_IsNumeral_wide n h in own.same (decimal n) two.0.1 ∙ two.1

pow_some : (k : ℕ) → 0 < 10 ^ k
pow_some zero = omega arith
pow_some (suc k) = let some = pow_some k in omega (arith, some, pow-suc 10 k)

long_onto : (k n : ℕ) (acc : List ℕ) → 10 ^ k ≤ n → length (digits_onto k 10 false n acc) ≡ k + length acc
long_onto zero n acc h = omega arith
long_onto (suc k) n acc h =
    let tenth : 10 ^ k ≤ n / 10 = le-div (10 ^ k) n 10 (omega arith) (omega (arith, h, pow-suc 10 k)) in
    let some : 0 < 10 ^ k = pow_some k in
    let more : (n / 10 == 0) ≡ false = ne_eqb (n / 10) 0 (λ e. omega arith) in
    ap (λ b. length (cond b (digit_glyph false (n % 10) ∷ acc)
    (digits_onto k 10 false (n / 10) (digit_glyph false (n % 10) ∷ acc)))) more
    ∙ long_onto k (n / 10) (digit_glyph false (n % 10) ∷ acc) tenth ∙ omega arith

long_decimal : (n : ℕ) → 10 ^ 64 ≤ n → length (decimal n) ≡ 64
unfolding digits
long_decimal n h = long_onto 64 n [] h ∙ refl

pub reads_decimal : (n : ℕ) (ds : List ℕ) → ds ≡ decimal n → length ds ≤ 19 → read_on 0 ds ≡ n
reads_decimal n ds is short =
    ⊎_elim {C = read_on 0 ds ≡ n} (λ (small : n < 10 ^ 64). ap (read_on 0) is ∙ read_decimal n small)
    (λ (large : 10 ^ 64 ≤ n). absurd (let e = long_decimal n large in omega (arith, e, ap length is)))
    (cases_lt n (10 ^ 64))

glyph_is_digit : (n : ℕ) → is_ascii_digit (digit_glyph false (n % 10)) ≡ true
glyph_is_digit n =
    let small : n % 10 < 10 = omega arith in
    ap (λ b. is_ascii_digit (cond b (48 + n % 10) (87 + n % 10))) (lt-ltb (n % 10) 10 small)
    ∙ and_from _ _ (le-leb 48 (48 + n % 10) (omega arith)) (le-leb (48 + n % 10) 57 (omega arith))

digits_before : (k n : ℕ) (acc : List ℕ) → all_ascii_digits acc ≡ true
    → all_ascii_digits (digits_onto k 10 false n acc) ≡ true
digits_before zero n acc h = h
digits_before (suc k) n acc h =
    let more : all_ascii_digits (digit_glyph false (n % 10) ∷ acc) ≡ true =
    and_from _ _ (glyph_is_digit n) h in
    cond_both (n / 10 == 0) (digit_glyph false (n % 10) ∷ acc)
    (digits_onto k 10 false (n / 10) (digit_glyph false (n % 10) ∷ acc))
    (λ ds. all_ascii_digits ds ≡ true) (λ e. more)
    (λ e. digits_before k (n / 10) (digit_glyph false (n % 10) ∷ acc) more)

all_digits : (n : ℕ) → all_ascii_digits (decimal n) ≡ true
unfolding digits
all_digits n = digits_before 64 n [] refl

-- the first byte of a number without a sign
pub first_is_digit : (n byte : ℕ) (rest : List ℕ) → byte ∷ rest ≡ decimal n
    → is_ascii_digit byte ≡ true
first_is_digit n byte rest is =
    (and_parts (is_ascii_digit byte) (all_ascii_digits rest) (ap all_ascii_digits is ∙ all_digits n)).0

-- ---- digits as they are written

-- what is read so far is at most what all is
read_least : (n : ℕ) (ds : List ℕ) → n ≤ read_on n ds
read_least n [] = omega arith
read_least n (c ∷ cs) = omega (arith, read_least (n * 10 + (c - 48)) cs)

pub record IsWritten (ds : List ℕ) : Type 0 where
  pub digits : all_ascii_digits ds ≡ true
  pub some : 0 < length ds
  pub few : length ds ≤ 19
  pub first : get_or ds 0 0 ≡ 48 → length ds ≡ 1

digits_alike : (ds : List ℕ) → list_all is_ascii_digit ds ≡ all_ascii_digits ds
digits_alike [] = refl
digits_alike (d ∷ ds) = ap (λ b. is_ascii_digit d && b) (digits_alike ds)

pub is_written : (ds : List ℕ) → is_numeral ds ≡ true → IsWritten ds
is_written ds h =
    let outer = and_parts (nat_le (length ds) 19) (list_all is_ascii_digit ds && begins_well ds) h in
    let inner = and_parts (list_all is_ascii_digit ds) (begins_well ds) outer.1 in
    record {
      digits = sym (digits_alike ds) ∙ inner.0;
      some = there ds inner.1;
      few = leb-true (length ds) 19 outer.0;
      first = alone ds inner.1;
    }
  where
    there : (ds : List ℕ) → begins_well ds ≡ true → 0 < length ds
    there [] h = absurd (false≢true h)
    there (d ∷ ds) h = omega arith

    alone : (ds : List ℕ) → begins_well ds ≡ true → get_or ds 0 0 ≡ 48 → length ds ≡ 1
    alone [] h is = absurd (false≢true h)
    alone (d ∷ []) h is = refl
    alone (d ∷ e ∷ ds) h is = absurd (false≢true (ap not (sym (eq-eqb d 48 is)) ∙ h))

begins : (ds : List ℕ) → 0 < length ds → (get_or ds 0 0 ≡ 48 → length ds ≡ 1) → begins_well ds ≡ true
begins [] some first = absurd (omega (arith, some))
begins (d ∷ []) some first = refl
begins (d ∷ e ∷ ds) some first =
    ap not (ne_eqb d 48 (λ is. absurd (omega (arith, first is))))

written_is : (ds : List ℕ) → IsWritten ds → is_numeral ds ≡ true
written_is ds w =
    and_from (nat_le (length ds) 19) _ (le-leb (length ds) 19 w.few)
    (and_from (list_all is_ascii_digit ds) _ (digits_alike ds ∙ w.digits) (begins ds w.some w.first))

first_zero : (n : ℕ) → n < 2 ^ 64 → get_or (decimal n) 0 0 ≡ 48 → length (decimal n) ≡ 1
unfolding digits
first_zero zero small is = refl
first_zero (suc n) small is = absurd (omega (arith, is, first_decimal (suc n) (omega arith) small))

-- numbers are written so
decimal_written : (n : ℕ) → n < 10 ^ 19 → IsWritten (decimal n)
decimal_written n small = record {
  digits = all_digits n;
  some = decimal_nonempty n (omega (arith, small));
  few = length-decimal-le_wide 19 n (omega arith) small (omega (arith, small));
  first = first_zero n (omega (arith, small));
}

pub own_numeral : (n : ℕ) (ds : List ℕ) → n < 10 ^ 19 → ds ≡ decimal n → is_numeral ds ≡ true
own_numeral n ds small is = ap is_numeral is ∙ written_is (decimal n) (decimal_written n small)

-- and what is read of such digits is written so
pub read_is_written : (ds : List ℕ) (n : ℕ) → is_numeral ds ≡ true → n ≡ read_on 0 ds → ds ≡ decimal n
read_is_written ds n h is =
    let w = is_written ds h in
    let small = digits_value_short own ds 19 w.digits w.few in
    sym (ap decimal is ∙ decimal-digits_value own ds w.digits w.some w.first (omega (arith, small)))

pub read_is_small : (ds : List ℕ) → is_numeral ds ≡ true → read_on 0 ds < 10 ^ 19
read_is_small ds h = let w = is_written ds h in digits_value_short own ds 19 w.digits w.few

-- so the digits that are read so far, and one more, are no larger
pub never_too_large : (ds rest : List ℕ) (n digit : ℕ) → is_numeral ds ≡ true
    → read_on n (digit ∷ rest) ≡ read_on 0 ds → n * 10 + (digit - 48) < 10 ^ 19
never_too_large ds rest n digit h is =
    omega (arith, read_is_small ds h, read_least (n * 10 + (digit - 48)) rest, is)

-- so are they at each place
pub place_never_too_large : (ds : List ℕ) (n i : ℕ) → is_numeral ds ≡ true → i < length ds
    → read_on n (drop i ds) ≡ read_on 0 ds → n * 10 + (get_or ds i 0 - 48) < 10 ^ 19
place_never_too_large ds n i h within is =
    never_too_large ds (drop (suc i) ds) n (get_or ds i 0) h
    (ap (read_on n) (sym (from_place ds i within)) ∙ is)
  where
    from_place : (l : List ℕ) (k : ℕ) → k < length l → drop k l ≡ get_or l k 0 ∷ drop (suc k) l
    from_place [] k h = absurd (omega arith)
    from_place (x ∷ l) zero h = refl
    from_place (x ∷ l) (suc k) h = from_place l k (omega arith)

-- what a loop over the digits has read at its end
pub all_read : (n : ℕ) (ds : List ℕ) (i : ℕ) → length ds ≤ i → read_on n (drop i ds) ≡ read_on 0 ds
    → n ≡ read_on 0 ds
all_read n ds i past is = sym (at_drop_all (read_on n) ds i past) ∙ is

pub given_number : (n number : ℕ) (ds : List ℕ) → n ≡ read_on 0 ds → number < 10 ^ 19
    → ds ≡ decimal number → Some n ≡ Some number
given_number n number ds read small is =
    ap Some (read ∙ ap (read_on 0) is ∙ read_decimal number (omega (arith, small)))

-- behind a sign stand the digits of the number's size
pub negative_number : (number : ℤ) (text rest : List ℕ) (size : ℕ) → text ≡ 45 ∷ rest
    → text ≡ signed_decimal number → ((n : ℕ) → rest ≡ decimal n → size ≡ n)
    → neg_ℤ (pos size) ≡ number
negative_number (pos n) text rest size shape is found =
    absurd (false≢true (first_is_digit n 45 rest (sym shape ∙ is)))
negative_number (negsuc n) text rest size shape is found =
    let same : rest ≡ decimal (suc n) = cc in ap (λ m. neg_ℤ (pos m)) (found (suc n) same)

-- the first byte of a number of 64 bits is there
pub some_written : (number : ℤ) (text : List ℕ) → is_of_64_bits number ≡ true
    → text ≡ signed_decimal number → length text ≡ 0 → ⊥
some_written (pos n) text fits is none =
    let small : n < 2 ^ 63 = ltb-true n (2 ^ 63) fits in
    let some = decimal_nonempty n (omega (arith, small)) in omega (arith, some, none, ap length is)
some_written (negsuc n) text fits is none = omega (arith, none, ap length is)

-- the size of a number of 64 bits behind its sign
pub record IsNegative (number : ℤ) (rest : List ℕ) : Type 0 where
  pub size : ℕ
  pub stands : rest ≡ decimal size
  pub some : 1 ≤ size
  pub few : size ≤ 2 ^ 63
  pub same : neg_ℤ (pos size) ≡ number

pub negative_of : (number : ℤ) (text rest : List ℕ) → is_of_64_bits number ≡ true → text ≡ 45 ∷ rest
    → text ≡ signed_decimal number → IsNegative number rest
negative_of (pos n) text rest fits shape is =
    absurd (false≢true (first_is_digit n 45 rest (sym shape ∙ is)))
negative_of (negsuc n) text rest fits shape is =
    record { size = suc n; stands = cc; some = omega arith; few = ltb-true n (2 ^ 63) fits; same = refl }

-- A whole number of 64 bits is written as a number of JSON that reads back as it.
use Rattle.std.proofs.Common.{◌≡◌, ℕ, suc, ◌^◌, ◌<◌, ℤ, pos, negsuc, List, [], ◌∷◌, true, false, cond, Some, IsUtf8, decimal, refl, sym, ap, ◌∙◌, arith, ltb-true, ne_eqb, ◌==◌, drop, get_or, option_and_then}
use Rattle.std.proofs.lemmas.Fmt.{IsAscii-decimal, first_decimal}
use Rattle.std.proofs.lemmas.Str.{IsUtf8-append, IsUtf8-from_ascii}
use Rattle.json.specs.Print.{IsNumber}
use Rattle.json.specs.Word.{head, after_whole, after_fraction, after_exponent, after_number}
use Rattle.json.proofs.Printed.Decimals.{IsNumber-decimal}
use Rattle.json.proofs.Printed.Utf8.{IsUtf8-are_ascii}
use Rattle.serde_json.specs.Data.{Num}
use Rattle.serde_json.specs.Find.{of_integer, as_i64}
use Rattle.serde_json.specs.Read.{number_of}
use Rattle.serde_json.specs.Written.{number_text}
use Rattle.serde_json.proofs.Numbers.{number_of-decimal, number_of-negative}
use Rattle.ax_tree.specs.WellFormed.{is_of_64_bits}

pub record ReadsBack (n : Num) : Type 0 where
  pub value : number_of (number_text n) ≡ Some n
  pub number : IsNumber (number_text n)
  pub utf8 : IsUtf8 (number_text n)

not_minus : (ds : List ℕ) → 48 < get_or ds 0 0 → (head ds == 45) ≡ false
not_minus [] first = absurd (omega arith)
not_minus (d ∷ ds) first = ne_eqb d 45 (λ e. omega arith)

IsNumber-minus : (n : ℕ) → 0 < n → n < 2 ^ 64 → IsNumber (45 ∷ decimal n)
unfolding after_number
IsNumber-minus n some h =
    ap
    (λ b.
    option_and_then after_exponent
    (option_and_then after_fraction (after_whole (cond b (drop 1 (decimal n)) (decimal n)))))
    (sym (not_minus (decimal n) (first_decimal n some h)))
    ∙ IsNumber-decimal n h

IsUtf8-decimal : (n : ℕ) → n < 2 ^ 64 → IsUtf8 (decimal n)
IsUtf8-decimal n h = IsUtf8-from_ascii (decimal n) (IsAscii-decimal n h)

pub reads_back : (z : ℤ) → is_of_64_bits z ≡ true → ReadsBack (of_integer z)
reads_back (pos n) e =
    let h : n < 2 ^ 63 = ltb-true n (2 ^ 63) e in
    let wide : n < 2 ^ 64 = omega arith in
    record {
      value = number_of-decimal n wide;
      number = IsNumber-decimal n wide;
      utf8 = IsUtf8-decimal n wide;
    }
reads_back (negsuc n) e =
    let h : n < 2 ^ 63 = ltb-true n (2 ^ 63) e in
    let some : 0 < suc n = omega arith in
    let wide : suc n < 2 ^ 64 = omega arith in
    record {
      value = number_of-negative n h;
      number = IsNumber-minus (suc n) some wide;
      utf8 =
          IsUtf8-append (45 ∷ []) (decimal (suc n)) (IsUtf8-are_ascii (45 ∷ []) refl)
          (IsUtf8-decimal (suc n) wide);
    }

pub whole : (z : ℤ) → is_of_64_bits z ≡ true → as_i64 (of_integer z) ≡ Some z
whole (pos n) e = rw e
whole (negsuc n) e = refl

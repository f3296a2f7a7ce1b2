-- The low pair at the front of bytes: reading it and spelling it are the same.
use Rattle.std.proofs.Common.{◌≡◌, ◌↔◌, ℕ, ◌<◌, ◌≤◌, List, [], ◌∷◌, ◌++◌, length, take, drop, arith, refl, ap, ◌∙◌, sym, subst, Option, Some, None}
use Rattle.std.proofs.Common.{true, false, cond, nat_le, All, get_or}
use Rattle.std.specs.Prelude.{option_and_then, unwrap_or}
use Rattle.std.proofs.lemmas.Bool.{le-leb, leb-true}
use Rattle.std.proofs.lemmas.List.{append_assoc, length-append, take_at, drop_at, length-take-le, take-append-drop}
use Rattle.std.proofs.lemmas.List.Elements.{All-from_get_or, All-tail}
use Rattle.ax_gap.specs.Varint.{varint}
use Rattle.ax_gap.specs.Reading.{first_varint, at_most}
use Rattle.ax_gap.proofs.VarintLaws.{found, same_number, first_varint_again, first_varint_takes}
use Rattle.ax_pair.specs.declared.pair.Pair.{Pair}
use Rattle.ax_pair.proofs.PairOrder.{the_pair}
use Rattle.ax_pair.specs.Low.{BeginsWithLow, first_number, pair_of, pair_behind, low_in}

same_some : (p q : Pair) → Some p ≡ Some q → p ≡ q
same_some p q e = ap (λ (found : Option Pair). unwrap_or found p) e

abbrev AreBytes : List ℕ → Type 0
AreBytes bytes = All (λ b. b < 256) bytes

all_behind : (front bytes : List ℕ) → AreBytes (front ++ bytes) → AreBytes bytes
all_behind [] bytes all = all
all_behind (b ∷ front) bytes all = all_behind front bytes (All-tail (λ b. b < 256) b (front ++ bytes) all)

-- ---- a number at the front

-- what is spelled so is read
pub number_again : (bytes : List ℕ) (n : ℕ) (rest : List ℕ) → n < 4294967296 → bytes ≡ varint n ++ rest → first_number bytes ≡ found n rest
number_again bytes n rest h e =
    ap (λ bs. at_most 4294967295 (first_varint bs)) e ∙ ap (at_most 4294967295) (first_varint_again n rest) ∙ rw (le-leb n 4294967295 (omega arith)) refl

-- a number that was read, its spelling and its bound
pub record IsNumber (bytes : List ℕ) (n : ℕ) (rest : List ℕ) : Type 0 where
  pub spelled : bytes ≡ varint n ++ rest
  pub small : n < 4294967296

number_found : (bytes : List ℕ) (r : Option (ℕ × List ℕ)) (n : ℕ) (rest : List ℕ) → AreBytes bytes → first_varint bytes ≡ r
    → at_most 4294967295 r ≡ found n rest
    → IsNumber bytes n rest
number_found bytes None n rest all is e = absurd (cc)
number_found bytes (Some (m, after)) n rest all is e =
    elim (nat_le m 4294967295) as (λ b. nat_le m 4294967295 ≡ b → cond b (found m after) None ≡ found n rest → IsNumber bytes n rest) [
      | true ↦ λ within h. record {
        spelled = first_varint_takes bytes n rest all (is ∙ h);
        small = let same : m ≡ n = same_number m n after rest h in omega (arith, leb-true m 4294967295 within);
      }
      | false ↦ λ beyond h. absurd (cc)
    ] refl e

-- what is read is spelled so
pub number_takes : (bytes : List ℕ) (n : ℕ) (rest : List ℕ) → AreBytes bytes → first_number bytes ≡ found n rest → IsNumber bytes n rest
number_takes bytes n rest all e = number_found bytes (first_varint bytes) n rest all refl e

none_there : (bytes : List ℕ) (r : Option (ℕ × List ℕ)) → AreBytes bytes → ((n : ℕ) (rest : List ℕ) → n < 4294967296 → bytes ≡ varint n ++ rest → ⊥)
    → first_number bytes ≡ r → first_number bytes ≡ None
none_there bytes None all none e = e
none_there bytes (Some (n, rest)) all none e = let is = number_takes bytes n rest all e in absurd (none n rest is.small is.spelled)

pub number_none : (bytes : List ℕ) → ((i : ℕ) → get_or bytes i 0 < 256) → ((n : ℕ) (rest : List ℕ) → n < 4294967296 → bytes ≡ varint n ++ rest → ⊥)
    → None ≡ first_number bytes
number_none bytes fits none = sym (none_there bytes (first_number bytes) (All-from_get_or (λ b. b < 256) bytes 0 (λ i h. fits i)) none refl)

-- ---- the pair at the front

behind_term : (term rest : List ℕ) (number : ℕ) → number < 4294967296 → pair_of term (first_number (varint number ++ rest)) ≡ Some (the_pair term number)
behind_term term rest number h = ap (pair_of term) (number_again (varint number ++ rest) number rest h refl)

pub low_again : (bytes term rest : List ℕ) (number : ℕ) → length term < 4294967296 → number < 4294967296
    → bytes ≡ varint (length term) ++ (term ++ (varint number ++ rest)) → low_in bytes ≡ Some (the_pair term number)
low_again bytes term rest number short small e =
    let after : List ℕ = term ++ (varint number ++ rest) in
    let within : nat_le (length term) (length after) ≡ true = le-leb (length term) (length after) (omega (arith, length-append term (varint number ++ rest))) in
    ap (option_and_then pair_behind) (number_again bytes (length term) after short e)
    ∙ ap (λ b. cond b (pair_of (take (length term) after) (first_number (drop (length term) after))) None) within
    ∙ ap (λ (bs : List ℕ). pair_of bs (first_number (drop (length term) after))) (take_at term (varint number ++ rest) (length term) refl)
    ∙ ap (λ (bs : List ℕ). pair_of term (first_number bs)) (drop_at term (varint number ++ rest) (length term) refl)
    ∙ behind_term term rest number small

pub begins_again : (bytes : List ℕ) (low : Pair) → BeginsWithLow bytes low → low_in bytes ≡ Some low
begins_again bytes low is =
    low_again bytes low.term is.rest low.number is.short is.number
    (is.spelled ∙ append_assoc (varint (length low.term) ++ low.term) (varint low.number) is.rest
    ∙ append_assoc (varint (length low.term)) low.term (varint low.number ++ is.rest))

begins_so : (bytes after term behind rest : List ℕ) (size number : ℕ) → IsNumber bytes size after → size ≡ length term → after ≡ term ++ behind
    → IsNumber behind number rest
    → BeginsWithLow bytes (the_pair term number)
begins_so bytes after term behind rest size number first counted parts second = record {
  rest = rest;
  spelled = first.spelled ∙ ap (λ (n : ℕ). varint n ++ after) counted ∙ ap (λ (bs : List ℕ). varint (length term) ++ bs) parts
      ∙ ap (λ (bs : List ℕ). varint (length term) ++ (term ++ bs)) second.spelled
      ∙ sym (append_assoc (varint (length term)) term (varint number ++ rest))
      ∙ sym (append_assoc (varint (length term) ++ term) (varint number) rest);
  short = omega (arith, first.small);
  number = second.small;
}

found_behind : (bytes after : List ℕ) (size : ℕ) (low : Pair) (r : Option (ℕ × List ℕ)) → AreBytes (drop size after) → IsNumber bytes size after
    → size ≤ length after
    → first_number (drop size after) ≡ r → pair_of (take size after) r ≡ Some low → BeginsWithLow bytes low
found_behind bytes after size low None all first within is e = absurd (cc)
found_behind bytes after size low (Some (number, rest)) all first within is e =
    let so : BeginsWithLow bytes (the_pair (take size after) number) =
    begins_so bytes after (take size after) (drop size after) rest size number first (sym (length-take-le size after within))
    (sym (take-append-drop size after))
    (number_takes (drop size after) number rest all is)
    in subst (BeginsWithLow bytes) (same_some (the_pair (take size after) number) low e) so

found_low : (bytes : List ℕ) (low : Pair) (r : Option (ℕ × List ℕ)) → AreBytes bytes → first_number bytes ≡ r → option_and_then pair_behind r ≡ Some low
    → BeginsWithLow bytes low
found_low bytes low None all is e = absurd (cc)
found_low bytes low (Some (size, after)) all is e =
    let first : IsNumber bytes size after = number_takes bytes size after all is in
    let here : AreBytes after = all_behind (varint size) after (subst AreBytes first.spelled all) in
    let behind : AreBytes (drop size after) =
    all_behind (take size after) (drop size after) (subst AreBytes (sym (take-append-drop size after)) here)
    in
    elim (nat_le size (length after)) as (λ b. nat_le size (length after) ≡ b
    → cond b (pair_of (take size after) (first_number (drop size after))) None ≡ Some low → BeginsWithLow bytes low) [
      | true ↦ λ within h. found_behind bytes after size low (first_number (drop size after)) behind first (leb-true size (length after) within) refl h
      | false ↦ λ beyond h. absurd (cc)
    ] refl e

pub low_where : (bytes : List ℕ) (low : Pair) → All (λ byte. byte < 256) bytes → (low_in bytes ≡ Some low) ↔ BeginsWithLow bytes low
low_where bytes low all = (λ e. found_low bytes low (first_number bytes) all refl e, λ is. begins_again bytes low is)

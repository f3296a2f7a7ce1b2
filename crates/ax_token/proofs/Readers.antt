-- Readers that find what was spelled, whatever follows it, and nothing else.
use Rattle.std.proofs.Common.{◌≡◌, ℕ, zero, suc, ◌<◌, ◌≤◌, ◌^◌, List, [], ◌∷◌, ◌++◌, length, take, drop, Bool, true, false, if◌then◌else◌, Option, Some, None, refl, sym, ap, ◌∙◌, subst, arith}
use Rattle.std.specs.Prelude.{nat_le, IfSome}
use Rattle.std.specs.Int.{w32, w64, to_le_bytes, from_le_bytes}
use Rattle.std.specs.List.{flat_map, AllByRecursion}
use Rattle.std.specs.Option.{option_map, option_and_then}
use Rattle.std.proofs.lemmas.List.{append_assoc, take_at, drop_at, take-append-drop, length-append, length-take-le}
use Rattle.std.proofs.lemmas.Nat.{from_le_bytes-to_le_bytes_4, from_le_bytes-to_le_bytes_8, le_bytes_4, le_bytes_8}
use Rattle.base64.specs.GeneralPurpose.{IsBytes}
use Rattle.ax_token.specs.Reading.{First, both, first_bytes, first_sized, first_u32, first_u64, listed, many, told_by, optional}
use Rattle.ax_token.specs.TokenBytes.{IsU32, ListFits, TextFits, listed_bytes, optional_bytes, sized, u32_bytes}

pub record Reads {X : Type 0} (first : First X) (spell : X → List ℕ) (Fit : X → Type 0) : Type 0 where
  pub again : (x : X) (rest : List ℕ) → Fit x → first (spell x ++ rest) ≡ Some (x, rest)
  pub found : (bytes : List ℕ) (x : X) (rest : List ℕ) → IsBytes bytes → first bytes ≡ Some (x, rest)
      → (bytes ≡ spell x ++ rest) × Fit x

-- ---- options

some_of : {X : Type 0} (x y : X) → Some x ≡ Some y → x ≡ y
some_of x y e = cc

none_some : {X A : Type 0} (x : X) → None ≡ Some x → A
none_some x e = absurd (let f : ⊥ = cc in f)

pub map_found : {X Y : Type 0} (f : X → Y) (o : Option (X × List ℕ)) (y : Y) (rest : List ℕ)
    → option_map {U = Y × List ℕ} (λ x. (f x.0, x.1)) o ≡ Some (y, rest)
    → (x : X) × (o ≡ Some (x, rest)) × (f x ≡ y)
map_found f None y rest e = none_some (y, rest) e
map_found f (Some p) y rest e =
    let pair : (f p.0, p.1) ≡ (y, rest) = some_of (f p.0, p.1) (y, rest) e in
    (p.0, (λ i. Some (p.0, (pair i).1)), ap (λ q. q.0) pair)

pub then_found : {X Y : Type 0} (g : X → Option Y) (o : Option X) (y : Y)
    → option_and_then g o ≡ Some y → (x : X) × (o ≡ Some x) × (g x ≡ Some y)
then_found g None y e = none_some y e
then_found g (Some x) y e = (x, refl, e)

-- ---- bytes

pub bytes_behind : (a b : List ℕ) → IsBytes (a ++ b) → IsBytes b
bytes_behind [] b h = h
bytes_behind (x ∷ a) b h = bytes_behind a b (λ i. h (suc i))

pub bytes_before : (a b : List ℕ) → IsBytes (a ++ b) → IsBytes a
bytes_before [] b h i = omega arith
bytes_before (x ∷ a) b h zero = h 0
bytes_before (x ∷ a) b h (suc i) = bytes_before a b (λ k. h (suc k)) i

pub rest_bytes : (bytes a b : List ℕ) → IsBytes bytes → bytes ≡ a ++ b → IsBytes b
rest_bytes bytes a b h e = bytes_behind a b (subst IsBytes e h)

pub front_again : (n : ℕ) (a rest : List ℕ) → length a ≡ n → first_bytes n (a ++ rest) ≡ Some (a, rest)
front_again n a rest e =
    let long : nat_le n (length (a ++ rest)) ≡ true = grind (arith, length-append a rest) in
    ap (λ b. if b then Some (take n (a ++ rest), drop n (a ++ rest)) else None) long
    ∙ (λ i. Some (take_at a rest n e i, drop_at a rest n e i))

front_by : (n : ℕ) (bytes a rest : List ℕ) (b : Bool) → nat_le n (length bytes) ≡ b
    → (let cut : List ℕ × List ℕ = (take n bytes, drop n bytes) in if b then Some cut else None) ≡ Some (a, rest)
    → (bytes ≡ a ++ rest) × (length a ≡ n)
front_by n bytes a rest true is e =
    let low : n ≤ length bytes = grind arith in
    let pair : (take n bytes, drop n bytes) ≡ (a, rest) = some_of (take n bytes, drop n bytes) (a, rest) e in (
      sym (take-append-drop n bytes) ∙ (λ i. (pair i).0 ++ (pair i).1),
      ap length (sym (ap (λ q. q.0) pair)) ∙ length-take-le n bytes low,
    )
front_by n bytes a rest false is e = none_some (a, rest) e

pub front_found : (n : ℕ) (bytes a rest : List ℕ) → first_bytes n bytes ≡ Some (a, rest)
    → (bytes ≡ a ++ rest) × (length a ≡ n)
front_found n bytes a rest e = front_by n bytes a rest (nat_le n (length bytes)) refl e

-- ---- numbers

-- the worth of bytes is below what so many of them can be worth
fits_4 : (bs : List ℕ) (n : ℕ) → IsBytes bs → n ≡ from_le_bytes w32 bs → n < 2 ^ 32
fits_4 bs n are e = omega (arith, e, are 0, are 1, are 2, are 3)

fits_8 : (bs : List ℕ) (n : ℕ) → IsBytes bs → n ≡ from_le_bytes w64 bs → n < 2 ^ 64
fits_8 bs n are e =
    omega (arith, e, are 0, are 1, are 2, are 3, are 4, are 5, are 6, are 7)

pub u32_reads : Reads first_u32 u32_bytes IsU32
u32_reads = record {
  again = λ n rest fit.
      ap (option_map (λ (x : List ℕ × List ℕ). (from_le_bytes w32 x.0, x.1)))
      (front_again 4 (u32_bytes n) rest refl)
      ∙ ap (λ (m : ℕ). Some (m, rest)) (from_le_bytes-to_le_bytes_4 n fit);
  found = λ bytes n rest are e.
      let m = map_found (from_le_bytes w32) (first_bytes 4 bytes) n rest e in
      let f = front_found 4 bytes m.0 rest m.1 in
      let back : to_le_bytes w32 n ≡ m.0 =
      le_bytes_4 m.0 n f.1 (bytes_before m.0 rest (subst IsBytes f.0 are)) (sym m.2) in
      (f.0 ∙ ap (λ (a : List ℕ). a ++ rest) (sym back), fits_4 m.0 n (bytes_before m.0 rest (subst IsBytes f.0 are)) (sym m.2));
}

pub u64_reads : Reads first_u64 (to_le_bytes w64) (λ n. n < 2 ^ 64)
u64_reads = record {
  again = λ n rest fit.
      ap (option_map (λ (x : List ℕ × List ℕ). (from_le_bytes w64 x.0, x.1)))
      (front_again 8 (to_le_bytes w64 n) rest refl)
      ∙ ap (λ (m : ℕ). Some (m, rest)) (from_le_bytes-to_le_bytes_8 n fit);
  found = λ bytes n rest are e.
      let m = map_found (from_le_bytes w64) (first_bytes 8 bytes) n rest e in
      let f = front_found 8 bytes m.0 rest m.1 in
      let back : to_le_bytes w64 n ≡ m.0 =
      le_bytes_8 m.0 n f.1 (bytes_before m.0 rest (subst IsBytes f.0 are)) (sym m.2) in
      (f.0 ∙ ap (λ (a : List ℕ). a ++ rest) (sym back), fits_8 m.0 n (bytes_before m.0 rest (subst IsBytes f.0 are)) (sym m.2));
}

pub sized_reads : Reads first_sized sized TextFits
sized_reads = record {
  again = λ bytes rest fit.
      ap first_sized (append_assoc (u32_bytes (length bytes)) bytes rest)
      ∙ ap (option_and_then (λ (x : ℕ × List ℕ). first_bytes x.0 x.1))
      (u32_reads.again (length bytes) (bytes ++ rest) fit)
      ∙ front_again (length bytes) bytes rest refl;
  found = λ bytes text rest are e.
      let t = then_found (λ (x : ℕ × List ℕ). first_bytes x.0 x.1) (first_u32 bytes) (text, rest) e in
      let n = u32_reads.found bytes t.0.0 t.0.1 are t.1 in
      let f = front_found t.0.0 t.0.1 text rest t.2 in (
        n.0 ∙ (λ i. u32_bytes (sym f.1 i) ++ f.0 i) ∙ sym (append_assoc (u32_bytes (length text)) text rest),
        omega (arith, n.1, f.1),
      );
}

-- ---- one behind another, at most one, many

module _ {X Y : Type 0} (r : First X) (q : First Y) (s : X → List ℕ) (t : Y → List ℕ)
    (F : X → Type 0) (G : Y → Type 0) (a : Reads r s F) (b : Reads q t G) where
  pub both_reads : Reads (both r q) (λ p. s p.0 ++ t p.1) (λ p. F p.0 × G p.1)
  both_reads = record {
    again = λ p rest fit.
        ap (both r q) (append_assoc (s p.0) (t p.1) rest)
        ∙ ap (option_and_then (λ (x : X × List ℕ). option_map (λ (y : Y × List ℕ). ((x.0, y.0), y.1)) (q x.1)))
        (a.again p.0 (t p.1 ++ rest) fit.0)
        ∙ ap (option_map (λ (y : Y × List ℕ). ((p.0, y.0), y.1))) (b.again p.1 rest fit.1);
    found = λ bytes p rest are e.
        let first = then_found (λ (x : X × List ℕ). option_map (λ (y : Y × List ℕ). ((x.0, y.0), y.1)) (q x.1)) (r bytes) (p, rest) e in
        let second = map_found (λ (y : Y). (first.0.0, y)) (q first.0.1) p rest first.2 in
        let fa = a.found bytes first.0.0 first.0.1 are first.1 in
        let fb = b.found first.0.1 second.0 rest (rest_bytes bytes (s first.0.0) first.0.1 are fa.0) second.1 in
        let P : X × Y → Type 0 = λ p'. (bytes ≡ (s p'.0 ++ t p'.1) ++ rest) × (F p'.0 × G p'.1) in
        subst P second.2 (
          fa.0 ∙ ap (λ (m : List ℕ). s first.0.0 ++ m) fb.0 ∙ sym (append_assoc (s first.0.0) (t second.0) rest),
          (fa.1, fb.1),
        );
  }

module _ {X : Type 0} (r : First X) (s : X → List ℕ) (F : X → Type 0) (a : Reads r s F) where
  optional_again : (x : Option X) (rest : List ℕ) → IfSome x F
      → optional r (optional_bytes s x ++ rest) ≡ Some (x, rest)
  optional_again None rest fit = refl
  optional_again (Some x) rest fit =
      ap (option_map (λ (y : X × List ℕ). (Some y.0, y.1))) (a.again x rest fit)

  told_found : (mark : ℕ) (bytes : List ℕ) (x : Option X) (rest : List ℕ) → IsBytes bytes
      → told_by r mark bytes ≡ Some (x, rest)
      → (mark ∷ bytes ≡ optional_bytes s x ++ rest) × IfSome x F
  told_found zero bytes x rest are e =
      let here : Option X × List ℕ = (None, bytes) in
      let pair : here ≡ (x, rest) = some_of here (x, rest) e in
      let P : Option X × List ℕ → Type 0 = λ p. (0 ∷ bytes ≡ optional_bytes s p.0 ++ p.1) × IfSome p.0 F in
      subst P pair (refl, tt)
  told_found (suc zero) bytes x rest are e =
      let m = map_found (λ (y : X). Some y) (r bytes) x rest e in
      let f = a.found bytes m.0 rest are m.1 in
      let P : Option X → Type 0 = λ o. (1 ∷ bytes ≡ optional_bytes s o ++ rest) × IfSome o F in
      subst P m.2 (ap (λ (m : List ℕ). 1 ∷ m) f.0, f.1)
  told_found (suc (suc n)) bytes x rest are e = none_some (x, rest) e

  optional_found : (bytes : List ℕ) (x : Option X) (rest : List ℕ) → IsBytes bytes
      → optional r bytes ≡ Some (x, rest) → (bytes ≡ optional_bytes s x ++ rest) × IfSome x F
  optional_found [] x rest are e = none_some (x, rest) e
  optional_found (mark ∷ bytes) x rest are e =
      told_found mark bytes x rest (λ i. are (suc i)) e

  pub optional_reads : Reads (optional r) (optional_bytes s) (λ x. IfSome x F)
  optional_reads = record { again = optional_again; found = optional_found }

  many_again : (xs : List X) (rest : List ℕ) → AllByRecursion F xs
      → many r (length xs) (flat_map s xs ++ rest) ≡ Some (xs, rest)
  many_again [] rest fit = refl
  many_again (x ∷ xs) rest fit =
      let go : Option (X × List ℕ) → Option (List X × List ℕ) =
      option_and_then (λ (y : X × List ℕ). option_map (λ (l : List X × List ℕ). (y.0 ∷ l.0, l.1)) (many r (length xs) y.1)) in
      ap (λ (bs : List ℕ). go (r bs)) (append_assoc (s x) (flat_map s xs) rest)
      ∙ ap go (a.again x (flat_map s xs ++ rest) fit.0)
      ∙ ap (option_map (λ (l : List X × List ℕ). (x ∷ l.0, l.1))) (many_again xs rest fit.1)

  pub many_found : (n : ℕ) (bytes : List ℕ) (xs : List X) (rest : List ℕ) → IsBytes bytes
      → many r n bytes ≡ Some (xs, rest)
      → (bytes ≡ flat_map s xs ++ rest) × (length xs ≡ n) × AllByRecursion F xs
  many_found zero bytes xs rest are e =
      let here : List X × List ℕ = ([], bytes) in
      let pair : here ≡ (xs, rest) = some_of here (xs, rest) e in
      let P : List X × List ℕ → Type 0 = λ p. (bytes ≡ flat_map s p.0 ++ p.1) × (length p.0 ≡ 0) × AllByRecursion F p.0 in
      subst P pair (refl, refl, tt)
  many_found (suc n) bytes xs rest are e =
      let first = then_found (λ (y : X × List ℕ). option_map (λ (l : List X × List ℕ). (y.0 ∷ l.0, l.1)) (many r n y.1)) (r bytes) (xs, rest) e in
      let later = map_found (λ (l : List X). first.0.0 ∷ l) (many r n first.0.1) xs rest first.2 in
      let fa = a.found bytes first.0.0 first.0.1 are first.1 in
      let fl = many_found n first.0.1 later.0 rest (rest_bytes bytes (s first.0.0) first.0.1 are fa.0) later.1 in
      let P : List X → Type 0 = λ l. (bytes ≡ flat_map s l ++ rest) × (length l ≡ suc n) × AllByRecursion F l in
      subst P later.2 (
        fa.0 ∙ ap (λ (m : List ℕ). s first.0.0 ++ m) fl.0 ∙ sym (append_assoc (s first.0.0) (flat_map s later.0) rest),
        ap suc fl.1,
        (fa.1, fl.2),
      )

  listed_found : (bytes : List ℕ) (xs : List X) (rest : List ℕ) → IsBytes bytes
      → listed r bytes ≡ Some (xs, rest) → (bytes ≡ listed_bytes s xs ++ rest) × ListFits F xs
  listed_found [] xs rest are e = none_some (xs, rest) e
  listed_found (n ∷ bytes) xs rest are e =
      let f = many_found n bytes xs rest (λ i. are (suc i)) e in
      let small : n < 256 = are 0 in
      ((λ i. sym f.1 i ∷ f.0 i), (omega (arith, small, f.1), f.2))

  pub listed_reads : Reads (listed r) (listed_bytes s) (ListFits F)
  listed_reads = record {
    again = λ xs rest fit. many_again xs rest fit.1;
    found = listed_found;
  }

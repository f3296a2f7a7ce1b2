-- What the comparison of the name at the front tells.
use Rattle.std.proofs.Common.{◌≡◌, ℕ, ◌≤◌, Bool, true, false, cond, ◌==◌, nat_lt, List, [], ◌∷◌, ◌++◌, length, None, ◌⊎◌, inl, inr, refl, sym, ap, ap₂, ◌∙◌, ◌/◌, ◌%◌, subst, arith, append_assoc}
use Rattle.std.proofs.lemmas.Bool.{eqb-true, eq-eqb, ne_eqb, true≢false}
use Rattle.std.specs.Char.{digit_char}
use Rattle.json.specs.Print.{escape_letter, escape_byte, escape}
use Rattle.ax_tree.specs.Rising.{is_before}
use Rattle.ax_skim.specs.Members.{IsPlain, past_prefix}
use Rattle.ax_skim.proofs.Escapes.{escape-name}
use Rattle.ax_excerpt_text.specs.Fronts.{Front, same, before, past, ended_by, side_of, compared_inside, compared}

abbrev IsBare : List ℕ → Type 0
IsBare s = escape s ≡ s

-- what is written for a byte: an escape, or the byte
abbrev written : Bool → Bool → ℕ → ℕ → ℕ → ℕ → List ℕ
written b c letter x d e =
    cond b (92 ∷ letter ∷ []) (cond c (92 ∷ 117 ∷ 48 ∷ 48 ∷ d ∷ e ∷ []) (x ∷ []))

abbrev behind : List ℕ → List ℕ
behind [] = []
behind (x ∷ xs) = xs

abbrev front : List ℕ → ℕ
front [] = 0
front (x ∷ xs) = x

-- a byte that is not written longer, and so stands for itself
byte_no_longer : (b c : Bool) (letter x d e : ℕ) (s rest : List ℕ) → length s ≤ length rest
    → length (x ∷ s) ≤ length (written b c letter x d e ++ rest)
byte_no_longer true c letter x d e s rest within = omega (arith, within)
byte_no_longer false true letter x d e s rest within = omega (arith, within)
byte_no_longer false false letter x d e s rest within = omega (arith, within)

no_longer : (s : List ℕ) → length s ≤ length (escape s)
unfolding escape_byte
no_longer [] = omega arith
no_longer (x ∷ s) =
    byte_no_longer (nat_lt 0 (escape_letter x)) (nat_lt x 32) (escape_letter x) x
    (digit_char (x / 16)) (digit_char (x % 16)) s (escape s) (no_longer s)

bare_byte : (b c : Bool) (letter x d e : ℕ) (s rest : List ℕ) → length s ≤ length rest
    → written b c letter x d e ++ rest ≡ x ∷ s → (b ≡ false) × (c ≡ false) × (rest ≡ s)
bare_byte true c letter x d e s rest within is = absurd (omega (arith, within, ap length is))
bare_byte false true letter x d e s rest within is = absurd (omega (arith, within, ap length is))
bare_byte false false letter x d e s rest within is = (refl, refl, ap behind is)

bare_first : (x : ℕ) (s : List ℕ) → IsBare (x ∷ s)
    → (nat_lt 0 (escape_letter x) ≡ false) × (nat_lt x 32 ≡ false) × IsBare s
unfolding escape_byte
bare_first x s own =
    bare_byte (nat_lt 0 (escape_letter x)) (nat_lt x 32) (escape_letter x) x
    (digit_char (x / 16)) (digit_char (x % 16)) s (escape s) (no_longer s) own

apart_from : (y x : ℕ) → nat_lt 0 (escape_letter y) ≡ true → nat_lt 0 (escape_letter x) ≡ false
    → (y == x) ≡ false
apart_from y x is none =
    ne_eqb y x (λ same. true≢false (sym is ∙ ap (λ z. nat_lt 0 (escape_letter z)) same ∙ none))

flipped : (x y : ℕ) → (y == x) ≡ false → (x == y) ≡ false
flipped x y h = ne_eqb x y (λ same. true≢false (sym (eq-eqb y x (sym same)) ∙ h))

abbrev pub Compares : List ℕ → List ℕ → List ℕ → Front → Type 0
Compares name other more (same value) = (other ≡ name) × (value ≡ more)
Compares name other more before = (is_before other name ≡ true) ⊎ (IsBare other → ⊥)
Compares name other more past = is_before name other ≡ true

less_itself : (x : ℕ) → nat_lt x x ≡ false
less_itself x = grind arith

-- a byte more that both have
further : (n o : ℕ) (name other more : List ℕ) (f : Front) → o ≡ n
    → (IsBare (o ∷ other) → IsBare other)
    → Compares name other more f → Compares (n ∷ name) (o ∷ other) more f
further n o name other more (same value) is bare h = (ap₂ (λ (x : ℕ) xs. x ∷ xs) is h.0, h.1)
further n o name other more before is bare (inl h) =
    inl (rw (is, less_itself n, eq-eqb n n refl) h)
further n o name other more before is bare (inr h) = inr (λ own. h (bare own))
further n o name other more past is bare h = rw (is, less_itself n, eq-eqb n n refl) h

-- the first byte that differs
by_side : (n o : ℕ) (name other more : List ℕ) (less : Bool) → (o == n) ≡ false
    → nat_lt o n ≡ less → (o == 34) ≡ false → (o == 92) ≡ false
    → Compares (n ∷ name) (o ∷ other) more (side_of n o)
by_side n o name other more true apart less quote slash =
    let e : side_of n o ≡ before = rw (quote, slash, less) refl in
    let first : is_before (o ∷ other) (n ∷ name) ≡ true = rw less refl in
    subst (Compares (n ∷ name) (o ∷ other) more) (sym e) (inl first)
by_side n o name other more false apart less quote slash =
    let e : side_of n o ≡ past = rw (quote, slash, less) refl in
    subst (Compares (n ∷ name) (o ∷ other) more) (sym e) (greater (nat_lt n o) refl)
  where
    greater : (b : Bool) → nat_lt n o ≡ b → is_before (n ∷ name) (o ∷ other) ≡ true
    greater true is = rw is refl
    greater false is =
        let same : o ≡ n = grind (arith, is, less) in absurd (true≢false (sym (eq-eqb o n same) ∙ apart))

at_byte : (n o : ℕ) (name other more : List ℕ) (b c : Bool) (d e : ℕ)
    → nat_lt 0 (escape_letter o) ≡ b → nat_lt o 32 ≡ c → nat_lt 0 (escape_letter n) ≡ false
    → Compares name other more (compared_inside name (escape other ++ 34 ∷ 58 ∷ more))
    → Compares (n ∷ name) (o ∷ other) more
    (compared_inside (n ∷ name)
    (written b c (escape_letter o) o d e ++ (escape other ++ 34 ∷ 58 ∷ more)))
at_byte n o name other more true c d e letter control own h =
    subst (λ t. Compares (n ∷ name) (o ∷ other) more
    (cond t (compared_inside name (escape_letter o ∷ (escape other ++ 34 ∷ 58 ∷ more))) before))
    (sym (apart_from 92 n refl own))
    (inr (λ bare. true≢false (sym letter ∙ (bare_first o other bare).0)))
at_byte n o name other more false true d e letter control own h =
    subst (λ t. Compares (n ∷ name) (o ∷ other) more
    (cond t (compared_inside name (117 ∷ 48 ∷ 48 ∷ d ∷ e ∷ (escape other ++ 34 ∷ 58 ∷ more))) before))
    (sym (apart_from 92 n refl own))
    (inr (λ bare. true≢false (sym control ∙ (bare_first o other bare).1)))
at_byte n o name other more false false d e letter control own h = by (o == n) refl
  where
    by : (t : Bool) → (o == n) ≡ t → Compares (n ∷ name) (o ∷ other) more
        (cond (o == n) (compared_inside name (escape other ++ 34 ∷ 58 ∷ more)) (side_of n o))
    by true is =
        subst (λ t. Compares (n ∷ name) (o ∷ other) more
        (cond t (compared_inside name (escape other ++ 34 ∷ 58 ∷ more)) (side_of n o))) (sym is)
        (further n o name other more _ (eqb-true o n is) (λ bare. (bare_first o other bare).2) h)
    by false is =
        subst (λ t. Compares (n ∷ name) (o ∷ other) more
        (cond t (compared_inside name (escape other ++ 34 ∷ 58 ∷ more)) (side_of n o))) (sym is)
        (by_side n o name other more (nat_lt o n) is refl
        (flipped o 34 (apart_from 34 o refl letter)) (flipped o 92 (apart_from 92 o refl letter)))

longer : (o : ℕ) (other more : List ℕ) (b c : Bool) (d e : ℕ) → nat_lt 0 (escape_letter o) ≡ b
    → Compares [] (o ∷ other) more
    (compared_inside [] (written b c (escape_letter o) o d e ++ (escape other ++ 34 ∷ 58 ∷ more)))
longer o other more true c d e letter = refl
longer o other more false true d e letter = refl
longer o other more false false d e letter =
    subst (λ t. Compares [] (o ∷ other) more
    (ended_by (cond t (past_prefix (58 ∷ []) (escape other ++ 34 ∷ 58 ∷ more)) None)))
    (sym (apart_from 34 o refl letter)) refl

compares : (name other more : List ℕ) → IsBare name
    → Compares name other more (compared_inside name (escape other ++ 34 ∷ 58 ∷ more))
unfolding escape_byte
compares [] [] more own = (refl, refl)
compares [] (o ∷ other) more own =
    subst (λ l. Compares [] (o ∷ other) more (compared_inside [] l))
    (sym (append_assoc (escape_byte o) (escape other) (34 ∷ 58 ∷ more)))
    (longer o other more (nat_lt 0 (escape_letter o)) (nat_lt o 32) (digit_char (o / 16)) (digit_char (o % 16)) refl)
compares (n ∷ name) [] more own =
    subst (λ t. Compares (n ∷ name) [] more (cond t (compared_inside name (58 ∷ more)) before))
    (sym (apart_from 34 n refl (bare_first n name own).0)) (inl refl)
compares (n ∷ name) (o ∷ other) more own =
    subst (λ l. Compares (n ∷ name) (o ∷ other) more (compared_inside (n ∷ name) l))
    (sym (append_assoc (escape_byte o) (escape other) (34 ∷ 58 ∷ more)))
    (at_byte n o name other more (nat_lt 0 (escape_letter o)) (nat_lt o 32)
    (digit_char (o / 16)) (digit_char (o % 16)) refl refl (bare_first n name own).0
    (compares name other more (bare_first n name own).2))

-- the name at the front of a member, written in quotes and with its colon
pub compares_front : (name other more : List ℕ) → IsPlain name
    → Compares name other more (compared name (34 ∷ (escape other ++ 34 ∷ 58 ∷ more)))
compares_front name other more own = compares name other more (escape-name name own)

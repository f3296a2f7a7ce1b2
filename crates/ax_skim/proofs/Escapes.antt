-- A text is written without an escape where its bytes are plain, and only there: it stands as it is
-- between its quotes. A name of that kind is found by its bytes.
use Rattle.std.proofs.Common.{◌≡◌, ℕ, Bool, true, false, cond, not, ◌==◌, ◌&&◌, nat_lt, nat_le, List, [], ◌∷◌, ◌++◌, length, ◌≤◌, Some, refl, sym, ap, ap₂, ◌∙◌, ◌/◌, ◌%◌, arith}
use Rattle.std.proofs.lemmas.Bool.{and_from, and_parts, eqb-true, le-leb, le-ltb, leb-true, ltb-false, ne_eqb, not-true, true≢false}
use Rattle.std.proofs.lemmas.List.{append_cancel_right}
use Rattle.std.specs.Char.{digit_char}
use Rattle.std.specs.List.{list_all}
use Rattle.json.specs.Print.{escape_letter, escape_byte, escape, quoted}
use Rattle.json.specs.Text.{content, plain}
use Rattle.json.proofs.Printed.Strings.{content-escape}
use Rattle.ax_skim.specs.Members.{IsPlain, is_plain_byte}

abbrev behind : List ℕ → List ℕ
behind [] = []
behind (x ∷ xs) = xs

-- ---- a text without an escape is one of plain bytes

byte_no_longer : (b c : Bool) (letter x d e : ℕ) (s rest : List ℕ) → length s ≤ length rest
    → length (x ∷ s) ≤ length
    (cond b (92 ∷ letter ∷ []) (cond c (92 ∷ 117 ∷ 48 ∷ 48 ∷ d ∷ e ∷ []) (x ∷ [])) ++ rest)
byte_no_longer true c letter x d e s rest within = omega (arith, within)
byte_no_longer false true letter x d e s rest within = omega (arith, within)
byte_no_longer false false letter x d e s rest within = omega (arith, within)

-- no text is longer than what is written for it
no_longer : (s : List ℕ) → length s ≤ length (escape s)
unfolding escape_byte
no_longer [] = omega arith
no_longer (x ∷ s) =
    byte_no_longer (nat_lt 0 (escape_letter x)) (nat_lt x 32) (escape_letter x) x
    (digit_char (x / 16)) (digit_char (x % 16)) s (escape s) (no_longer s)

-- a byte that is not written longer is written as it is
same_byte : (b c : Bool) (letter x d e : ℕ) (s rest : List ℕ) → length s ≤ length rest
    → cond b (92 ∷ letter ∷ []) (cond c (92 ∷ 117 ∷ 48 ∷ 48 ∷ d ∷ e ∷ []) (x ∷ [])) ++ rest ≡ x ∷ s
    → (b ≡ false) × ((c ≡ false) × (rest ≡ s))
same_byte true c letter x d e s rest within is = absurd (omega (arith, within, ap length is))
same_byte false true letter x d e s rest within is = absurd (omega (arith, within, ap length is))
same_byte false false letter x d e s rest within is = (refl, (refl, ap behind is))

letter_of : (x : ℕ) (b : Bool) → (x == 34) ≡ b → nat_lt 0 (escape_letter x) ≡ false → b ≡ false
letter_of x true is none =
    let same : x ≡ 34 = eqb-true x 34 is in
    absurd (true≢false (ap (λ y. nat_lt 0 (escape_letter y)) (sym same) ∙ none))
letter_of x false is none = refl

backslash_apart : (x : ℕ) (b : Bool) → (x == 92) ≡ b → nat_lt 0 (escape_letter x) ≡ false → b ≡ false
backslash_apart x true is none =
    let same : x ≡ 92 = eqb-true x 92 is in
    absurd (true≢false (ap (λ y. nat_lt 0 (escape_letter y)) (sym same) ∙ none))
backslash_apart x false is none = refl

large_of : (x : ℕ) → nat_lt x 32 ≡ false → nat_le 32 x ≡ true
large_of x none = le-leb 32 x (ltb-false x 32 none)

byte_of : (x : ℕ) → nat_lt 0 (escape_letter x) ≡ false → nat_lt x 32 ≡ false → is_plain_byte x ≡ true
byte_of x letter control =
    rw (large_of x control, letter_of x (x == 34) refl letter, backslash_apart x (x == 92) refl letter) refl

plain_of : (s : List ℕ) → escape s ≡ s → list_all is_plain_byte s ≡ true
unfolding escape_byte
plain_of [] is = refl
plain_of (x ∷ s) is =
    let here = same_byte (nat_lt 0 (escape_letter x)) (nat_lt x 32) (escape_letter x) x
    (digit_char (x / 16)) (digit_char (x % 16)) s (escape s) (no_longer s) is in
    and_from (is_plain_byte x) (list_all is_plain_byte s) (byte_of x here.0 here.1.0) (plain_of s here.1.1)

-- ---- and one of plain bytes is written as it is

no_letter : (x : ℕ) → 32 ≤ x → ((x == 34) ≡ false) → ((x == 92) ≡ false) → escape_letter x ≡ 0
no_letter x large quote slash =
    let t8 : (x == 8) ≡ false = ne_eqb x 8 (λ e. omega arith) in
    let t12 : (x == 12) ≡ false = ne_eqb x 12 (λ e. omega arith) in
    let t10 : (x == 10) ≡ false = ne_eqb x 10 (λ e. omega arith) in
    let t13 : (x == 13) ≡ false = ne_eqb x 13 (λ e. omega arith) in
    let t9 : (x == 9) ≡ false = ne_eqb x 9 (λ e. omega arith) in
    rw (quote, slash, t8, t12, t10, t13, t9)

itself : (x : ℕ) → is_plain_byte x ≡ true → escape_byte x ≡ x ∷ []
unfolding escape_byte
itself x h =
    let outer = and_parts (nat_le 32 x) (not (x == 34) && not (x == 92)) h in
    let inner = and_parts (not (x == 34)) (not (x == 92)) outer.1 in
    let large : 32 ≤ x = leb-true 32 x outer.0 in
    let letter = no_letter x large (not-true (x == 34) inner.0) (not-true (x == 92) inner.1) in
    rw (letter, le-ltb x 32 large)

escaped : (s : List ℕ) → list_all is_plain_byte s ≡ true → escape s ≡ s
escaped [] h = refl
escaped (x ∷ s) h =
    let two = and_parts (is_plain_byte x) (list_all is_plain_byte s) h in
    ap₂ (λ a b. a ++ b) (itself x two.0) (escaped s two.1)

pub own_plain : (s : List ℕ) → list_all is_plain_byte s ≡ true → IsPlain s
own_plain s h = ap (λ t. 34 ∷ (t ++ 34 ∷ [])) (escaped s h)

pub written_plain : (value s : List ℕ) → value ≡ 34 ∷ s ++ 34 ∷ [] → list_all is_plain_byte s ≡ true
    → value ≡ quoted s
written_plain value s is h = is ∙ sym (own_plain s h)

-- ---- names

pub escape-name : (name : List ℕ) → IsPlain name → escape name ≡ name
escape-name name own = append_cancel_right (escape name) name (34 ∷ []) (ap behind own)

pub is_plain_text : (text : List ℕ) → IsPlain text → list_all is_plain_byte text ≡ true
is_plain_text text own = plain_of text (escape-name text own)

some_same : (a b : List ℕ) → Some a ≡ Some b → a ≡ b
some_same a b e = cc

pub same_name : (name other after more : List ℕ) → IsPlain name
    → escape other ++ 34 ∷ after ≡ name ++ 34 ∷ more → other ≡ name
same_name name other after more own is =
    some_same other name
    (sym (content-escape other after) ∙ ap (content plain) is
    ∙ ap (λ l. content plain (l ++ 34 ∷ more)) (sym (escape-name name own))
    ∙ content-escape name more)

-- what stands between the quotes of a text is the text, where it is plain
pub unescaped : (inside text : List ℕ) → list_all is_plain_byte inside ≡ true
    → 34 ∷ inside ++ 34 ∷ [] ≡ quoted text → inside ≡ text
unescaped inside text all is =
    sym (same_name inside text [] [] (own_plain inside all) (sym (ap behind is)))

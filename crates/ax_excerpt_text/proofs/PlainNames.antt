-- A plain name is written as it is.
use Rattle.std.proofs.Common.{◌≡◌, ℕ, ◌≤◌, List, [], ◌∷◌, ◌++◌, true, false, not, ◌&&◌, ◌==◌, nat_le, refl, ap, ap₂, arith}
use Rattle.std.proofs.lemmas.Bool.{and_parts, not-true, leb-true, le-ltb, ne_eqb}
use Rattle.json.specs.Print.{escape, escape_byte, escape_letter, quoted}
use Rattle.ax_excerpt.specs.Plain.{is_plain, is_plain_byte}

no_letter : (x : ℕ) → 32 ≤ x → ((x == 34) ≡ false) → ((x == 92) ≡ false) → escape_letter x ≡ 0
no_letter x large quote slash =
    let t8 : (x == 8) ≡ false = ne_eqb x 8 (λ e. omega arith) in
    let t12 : (x == 12) ≡ false = ne_eqb x 12 (λ e. omega arith) in
    let t10 : (x == 10) ≡ false = ne_eqb x 10 (λ e. omega arith) in
    let t13 : (x == 13) ≡ false = ne_eqb x 13 (λ e. omega arith) in
    let t9 : (x == 9) ≡ false = ne_eqb x 9 (λ e. omega arith) in
    rw (quote, slash, t8, t12, t10, t13, t9)

itself : (x : ℕ) → is_plain_byte x ≡ true → escape_byte x ≡ x ∷ []
unfolding escape_byte
itself x h =
    let outer = and_parts (nat_le 32 x && not (x == 34)) (not (x == 92)) h in
    let inner = and_parts (nat_le 32 x) (not (x == 34)) outer.0 in
    let large : 32 ≤ x = leb-true 32 x inner.0 in
    let letter = no_letter x large (not-true (x == 34) inner.1) (not-true (x == 92) outer.1) in
    rw (letter, le-ltb x 32 large)

escaped : (s : List ℕ) → is_plain s ≡ true → escape s ≡ s
escaped [] h = refl
escaped (x ∷ s) h =
    let two = and_parts (is_plain_byte x) (is_plain s) h in
    ap₂ (λ a b. a ++ b) (itself x two.0) (escaped s two.1)

pub plain_name : (s : List ℕ) → is_plain s ≡ true → quoted s ≡ 34 ∷ (s ++ 34 ∷ [])
plain_name s h = ap (λ t. 34 ∷ (t ++ 34 ∷ [])) (escaped s h)

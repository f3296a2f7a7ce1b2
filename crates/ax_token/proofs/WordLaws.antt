-- One token for a word, and no space in it.
use Rattle.std.proofs.Common.{◌≡◌, ℕ, zero, suc, ◌/◌, ◌%◌, ◌*◌, ◌+◌, List, [], ◌∷◌, get_or, Bool, true, false, ◌&&◌, Some, refl, sym, ap₂, ◌∙◌}
use Rattle.std.specs.Prelude.{not}
use Rattle.std.specs.Bool.{◌==◌}
use Rattle.std.specs.List.{list_all}
use Rattle.base64.specs.Rfc4648.{encode_symbols}
use Rattle.ax_token.specs.declared.page_token.PageToken.{PageToken}
use Rattle.ax_token.specs.TokenBytes.{token_bytes}
use Rattle.ax_token.specs.Words.{IsWordOf, letters}
use Rattle.ax_token.proofs.Words.{in_word}

some_of : (a b : PageToken) → Some a ≡ Some b → a ≡ b
some_of a b e = cc

-- a word is that of one token at most
pub one_of_word : (a b : PageToken) (word : List ℕ) → IsWordOf a word → IsWordOf b word → a ≡ b
one_of_word a b word of_a of_b =
    some_of a b (sym (in_word word (token_bytes a) a of_a.letters of_a) ∙ in_word word (token_bytes a) b of_a.letters of_b)

-- a byte that is no space
abbrev is_dense : ℕ → Bool
is_dense byte = not (byte == 32)

-- so is each of a list of such bytes, and nothing behind it is a space
at_any : (k : ℕ) (xs : List ℕ) → list_all is_dense xs ≡ true → is_dense (get_or xs k 0) ≡ true
at_any k [] all = refl
at_any zero (x ∷ xs) all = first (is_dense x) (list_all is_dense xs) all where
  first : (a b : Bool) → (a && b) ≡ true → a ≡ true
  first true b e = refl
  first false b e = e
at_any (suc k) (x ∷ xs) all = at_any k xs (second (is_dense x) (list_all is_dense xs) all) where
  second : (a b : Bool) → (a && b) ≡ true → b ≡ true
  second true b e = e
  second false b e = absurd (let f : ⊥ = cc in f)

-- a letter is no space
letter : (k : ℕ) → is_dense (get_or letters k 0) ≡ true
letter k = at_any k letters refl

-- bytes in letters hold no space
pub dense : (bytes : List ℕ) → list_all is_dense (encode_symbols letters bytes) ≡ true
unfolding encode_symbols
dense [] = refl
dense (a ∷ []) = ap₂ (λ p q. p && (q && true)) (letter (a / 4)) (letter (a % 4 * 16))
dense (a ∷ b ∷ []) =
    ap₂ (λ p q. p && q) (letter (a / 4))
    (ap₂ (λ p q. p && (q && true)) (letter (a % 4 * 16 + b / 16)) (letter (b % 16 * 4)))
dense (a ∷ b ∷ c ∷ rest) =
    ap₂ (λ p q. p && q) (letter (a / 4))
    (ap₂ (λ p q. p && q) (letter (a % 4 * 16 + b / 16))
    (ap₂ (λ p q. p && q) (letter (b % 16 * 4 + c / 64))
    (ap₂ (λ p q. p && q) (letter (c % 64)) (dense rest))))

-- The letters of the engine are those of the definition.
use Rattle.std.proofs.Common.{◌≡◌, ℕ, List, Result, Ok, Err, ◌↔◌, refl, sym, ap, ◌∙◌}
use Rattle.std.proofs.lemmas.List.{append-nil}
use Rattle.base64.proofs.EngineFacts.{decode_of-encode_of}
use Rattle.base64.specs.declared.decode.DecodeError.{DecodeError}
use Rattle.base64.specs.Engines.{url_safe_no_pad}
use Rattle.base64.specs.GeneralPurpose.{IsBytes, IsStrict, decode_of, encode_of}
use Rattle.ax_token.specs.Words.{IsWordOfBytes, in_letters}

-- the engine reads what it writes, and nothing else
pub strict : IsStrict url_safe_no_pad
strict = (refl, refl)

-- the engine writes the letters of the definition
pub encoded : (bytes : List ℕ) → encode_of url_safe_no_pad bytes ≡ in_letters bytes
encoded bytes = append-nil (in_letters bytes)

-- what the engine says of each bytes that a text may be the encoding of
abbrev pub Decides : List ℕ → Type 0
Decides word = (b : List ℕ) → IsBytes b
    → (decode_of url_safe_no_pad word ≡ Ok b) ↔ (word ≡ encode_of url_safe_no_pad b)

failed_is : (bytes : List ℕ) (d : DecodeError) (r : Result (List ℕ) DecodeError) → r ≡ Err d → r ≡ Ok bytes → ⊥
failed_is bytes d r e f = cc

-- a word that is not decoded is made of no bytes
pub no_bytes_told : (word : List ℕ) (d : DecodeError) → decode_of url_safe_no_pad word ≡ Err d
    → (IsStrict url_safe_no_pad → Decides word) → (b : List ℕ) → IsWordOfBytes b word → ⊥
no_bytes_told word d failed strictly b of_word =
    failed_is b d (decode_of url_safe_no_pad word) failed
    ((strictly strict b of_word.fit).1 (of_word.spelled ∙ sym (encoded b)))

ok_of : (a b : List ℕ) (r : Result (List ℕ) DecodeError) → r ≡ Ok a → r ≡ Ok b → a ≡ b
ok_of a b r e f = cc

-- a word is made of one list of bytes at most
pub one_of_letters : (a b : List ℕ) (word : List ℕ) → IsWordOfBytes a word → IsWordOfBytes b word → a ≡ b
one_of_letters a b word of_a of_b =
    ok_of a b (decode_of url_safe_no_pad (encode_of url_safe_no_pad a))
    (decode_of-encode_of url_safe_no_pad a refl of_a.fit)
    (ap (decode_of url_safe_no_pad) (encoded a ∙ sym of_a.spelled ∙ of_b.spelled ∙ sym (encoded b))
    ∙ decode_of-encode_of url_safe_no_pad b refl of_b.fit)

-- What a text says: what was read of its bytes up to their end, where that is UTF-8.
use Rattle.std.proofs.Common.{◌≡◌, ℕ, true, false, cond, List, [], ◌∷◌, length, Option, Some, None, refl, ap, sym, ◌∙◌, ⊎_elim, arith}
use Rattle.std.specs.Str.{IsUtf8, is_utf8}
use Rattle.std.proofs.lemmas.Bool.{cases_Bool}
use Rattle.std.proofs.lemmas.Str.{IsUtf8-from_is_utf8, is_utf8-from_IsUtf8}
use Rattle.ax_lex.specs.declared.class.ByteClass.TheVariants.{Space, Letter, Digit, Quote, At, Sign}
use Rattle.ax_lex.specs.declared.class.ByteClass.{ByteClass}
use Rattle.ax_lex.specs.Lexeme.Lexeme.{text}
use Rattle.ax_lex.specs.Tokens.{IsToken}
use Rattle.ax_lex.specs.Tokens.IsToken.{quoted}
use Rattle.ax_lex.specs.Bytes.{class_of}
use Rattle.ax_lex.specs.Lexemes.{text_of, text_in, whole_text}
use Rattle.ax_lex.specs.Reading.{read_inside}
use Rattle.ax_lex.proofs.Texts.{inside_found, inside_sound, inside_complete}
use Rattle.ax_lex.proofs.Options.{chosen}

abbrev pub value_found : List ℕ → Option (List ℕ)
value_found value = Some value

whole_end : (value after : List ℕ) → length after ≡ 0
    → whole_text (inside_found value after) ≡ cond (is_utf8 value) (value_found value) None
whole_end value [] e = refl
whole_end value (byte ∷ after) e = absurd (omega arith)

pub text_read : (quote : ℕ) (rest bytes value after : List ℕ) → bytes ≡ quote ∷ rest
    → Quote ≡ class_of quote → read_inside quote (length rest) rest ≡ inside_found value after
    → length after ≡ 0
    → text_of bytes ≡ cond (is_utf8 value) (value_found value) None
text_read quote rest bytes value after e c r h =
    let d : class_of quote ≡ Quote = sym c in
    rw (e, d, r) (whole_end value after h)

pub not_utf8 : (bytes : List ℕ) → (IsUtf8 bytes → ⊥) → is_utf8 bytes ≡ false
not_utf8 bytes n =
    ⊎_elim (λ (e : is_utf8 bytes ≡ true). absurd (n (IsUtf8-from_is_utf8 bytes e))) (λ
    (e : is_utf8 bytes ≡ false). e) (cases_Bool (is_utf8 bytes))

-- ---- what a text says is what the grammar has

whole_is : (o : Option (List ℕ × List ℕ)) (value : List ℕ) → whole_text o ≡ value_found value
    → (o ≡ inside_found value []) × (is_utf8 value ≡ true)
whole_is None value e = absurd (cc)
whole_is (Some (read, [])) value e =
    let c : (is_utf8 read ≡ true) × (read ≡ value) = chosen _ _ _ e in
    (ap (λ bs. inside_found bs []) c.1, rw (← c.1) c.0)
whole_is (Some (read, byte ∷ rest)) value e = absurd (cc)

text_at : (quote : ℕ) (rest value : List ℕ) (class : ByteClass) → class_of quote ≡ class
    → text_in class quote rest ≡ value_found value
    → IsToken (text value) (quote ∷ rest) [] × IsUtf8 value
text_at quote rest value Quote c e =
    let w : (read_inside quote (length rest) rest ≡ inside_found value []) ×
    (is_utf8 value ≡ true) = whole_is _ value e in (
      quoted c (inside_sound quote (length rest) rest (
        value,
        [],
      ) w.0),
      IsUtf8-from_is_utf8 value w.1,
    )
text_at quote rest value Space c e = absurd (cc)
text_at quote rest value Letter c e = absurd (cc)
text_at quote rest value Digit c e = absurd (cc)
text_at quote rest value At c e = absurd (cc)
text_at quote rest value Sign c e = absurd (cc)

pub text_sound : (bytes value : List ℕ) → text_of bytes ≡ value_found value
    → IsToken (text value) bytes [] × IsUtf8 value
text_sound [] value e = absurd (cc)
text_sound (quote ∷ rest) value e = text_at quote rest value (class_of quote) refl e

pub text_complete : (bytes value : List ℕ) → IsToken (text value) bytes [] → IsUtf8 value
    → text_of bytes ≡ value_found value
text_complete bytes value (quoted {quote} {before = before} c i) u =
    text_read quote before (quote ∷ before) value [] refl (sym c) (inside_complete quote i
    (length before) (omega arith)) refl ∙ rw (is_utf8-from_IsUtf8 value u) refl

-- The first character of a text, and texts with none.
use Rattle.std.proofs.Common.{◌≡◌, ℕ, ◌+◌, ◌-◌, ◌<◌, ◌≤◌, List, [], ◌∷◌, ◌++◌, length, drop, take, reverse, append-nil, false, ◌==◌, zero, suc, sym, ap, ◌∙◌, arith, subst, rules}
use Rattle.std.proofs.lemmas.Str.{chars_past_char, encodes-chars, chars-nil, length-encode, encodes-append, chars_from_encodes, IsCharBoundary-at_seam}
use Rattle.std.proofs.lemmas.List.{length-append, take-append-drop, drop-drop, drop_all, length-drop, reverse-append}
use Rattle.std.proofs.Math.Seq.{take-append_seam}
use Rattle.std.specs.Str.{chars, IsUtf8, IsCharBoundary, encode_utf8_all}
use Rattle.std.specs.Char.{encode_utf8}
use Rattle.ax_mean.specs.Like.{is_end}

pub length-encode_pos : (c : ℕ) → 1 ≤ length (encode_utf8 c)
length-encode_pos c = search (rules, length-encode c)

pub first_of : (text rest : List ℕ) (c : ℕ) → IsUtf8 text → text ≡ encode_utf8 c ++ rest
    → (chars text ≡ c ∷ chars rest) × (length rest < length text)
first_of text rest c u e = (
  chars_past_char text rest c u e,
  omega (arith, ap length e, length-append (encode_utf8 c) rest, length-encode_pos c),
)

not_zero : (n : ℕ) → 1 ≤ n → false ≡ (n == 0)
not_zero zero h = absurd (omega (arith, h))
not_zero (suc n) h = search rules

end_of : (text cs : List ℕ) → encode_utf8_all cs ≡ text → is_end cs ≡ (length text == 0)
end_of text [] e = ap (λ l. length l == 0) e
end_of text (c ∷ cs) e =
    not_zero (length text)
    (omega (
      arith,
      ap length e,
      length-append (encode_utf8 c) (encode_utf8_all cs),
      length-encode_pos c,
    ))

pub is_end-chars : (text : List ℕ) → IsUtf8 text → is_end (chars text) ≡ (length text == 0)
is_end-chars text u = end_of text (chars text) (encodes-chars text u)

-- a text is its first characters and then the rest
pub front_and_rest : (text rest : List ℕ) (n : ℕ) → IsUtf8 text → IsUtf8 rest
    → chars rest ≡ drop n (chars text) → text ≡ encode_utf8_all (take n (chars text)) ++ rest
front_and_rest text rest n u v e =
    let cs = chars text in
    sym (encodes-chars text u)
    ∙ ap encode_utf8_all (sym (take-append-drop n cs))
    ∙ encodes-append (take n cs) (drop n cs)
    ∙ ap (λ l. encode_utf8_all (take n cs) ++ encode_utf8_all l) (sym e)
    ∙ ap (λ l. encode_utf8_all (take n cs) ++ l) (encodes-chars rest v)

-- one character on
pub drop_next : (cs ds : List ℕ) (n c : ℕ) → c ∷ ds ≡ drop n cs → ds ≡ drop (n + 1) cs
drop_next cs ds n c e = ap (drop 1) e ∙ drop-drop 1 n cs

-- nothing is left later, where nothing is left
pub drop_past : (cs : List ℕ) (m n : ℕ) → [] ≡ drop m cs → m ≤ n → drop n cs ≡ []
drop_past cs m n e l = drop_all n cs (omega (arith, ap length e, length-drop m cs, l))

pub rest_is_short : (text front rest : List ℕ) → text ≡ front ++ rest → length rest ≤ length text
rest_is_short text front rest e = omega (arith, ap length e, length-append front rest)

front_length : (text front rest : List ℕ) → text ≡ front ++ rest
    → length front ≡ length text - length rest
front_length text front rest e = omega (arith, ap length e, length-append front rest)

pub cut_boundary : (text front rest : List ℕ) → IsUtf8 rest → text ≡ front ++ rest
    → IsCharBoundary text (length text - length rest)
cut_boundary text front rest v e =
    subst (IsCharBoundary text) (front_length text front rest e)
    (IsCharBoundary-at_seam text front rest e v)

pub cut_front : (text front rest : List ℕ) → text ≡ front ++ rest
    → take (length text - length rest) text ≡ front
cut_front text front rest e =
    ap (λ n. take n text) (sym (front_length text front rest e)) ∙ ap (take (length front)) e
    ∙ take-append_seam front rest

-- The last character of a text, and what comes before it.
pub last_of : (text rest : List ℕ) (c : ℕ) → IsUtf8 text → IsUtf8 rest
    → text ≡ rest ++ encode_utf8 c
    → (chars text ≡ chars rest ++ c ∷ []) × (length rest < length text)
last_of text rest c u v e =
    let spelt : encode_utf8_all (chars rest ++ c ∷ []) ≡ text =
    encodes-append (chars rest) (c ∷ [])
    ∙ ap (λ l. l ++ (encode_utf8 c ++ [])) (encodes-chars rest v)
    ∙ ap (λ l. rest ++ l) (append-nil (encode_utf8 c)) ∙ sym e in (
      sym (chars_from_encodes (chars rest ++ c ∷ []) text u spelt),
      omega (arith, ap length e, length-append rest (encode_utf8 c), length-encode_pos c),
    )

-- characters put down from the last on
pub put_last : (rest : List ℕ) (c : ℕ) (cs : List ℕ) → cs ≡ rest ++ c ∷ []
    → encode_utf8_all (reverse cs) ≡ encode_utf8 c ++ encode_utf8_all (reverse rest)
put_last rest c cs e = ap (λ l. encode_utf8_all (reverse l)) e
    ∙ ap encode_utf8_all (reverse-append rest (c ∷ []))

pub no_character : (text : List ℕ) → length text ≡ 0 → chars text ≡ []
no_character [] h = chars-nil
no_character (b ∷ bs) h = absurd (omega (arith, h))

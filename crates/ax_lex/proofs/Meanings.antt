-- What the tokens of a text say is what their bytes say.
use Rattle.std.proofs.Common.{◌≡◌, ℕ, ◌+◌, ◌-◌, true, List, [], ◌∷◌, ◌++◌, length, take, drop, Option, Some, None, refl, ap, subst, sym, ◌∙◌, arith, append_assoc, length-append}
use Rattle.std.proofs.Math.Seq.{take-append_seam, drop-append_seam}
use Rattle.std.specs.Prelude.{Result, IfOk, Ok, Err}
use Rattle.std.specs.Str.{IsUtf8, is_utf8}
use Rattle.std.proofs.lemmas.Str.{is_utf8-from_IsUtf8}
use Rattle.ax_lex.specs.declared.class.ByteClass.TheVariants.{Quote}
use Rattle.ax_lex.specs.declared.token.Token.{Token}
use Rattle.ax_lex.specs.declared.token.TokenKind.{TokenKind}
use Rattle.ax_lex.specs.declared.token.TokenKind.TheVariants as kind
use Rattle.ax_lex.specs.Bytes.{class_of}
use Rattle.ax_lex.specs.Inside.{IsInside}
use Rattle.ax_lex.specs.Keywords.{keyword_of}
use Rattle.ax_lex.specs.Symbols.{symbol_of}
use Rattle.ax_lex.specs.declared.keyword.Keyword.{Keyword}
use Rattle.ax_lex.specs.declared.symbol.Symbol.{Symbol}
use Rattle.ax_lex.specs.Lexeme.{Lexeme, kind_of}
use Rattle.ax_lex.specs.Lexeme.Lexeme.{text, number}
use Rattle.ax_lex.specs.Lexemes.{bytes_of, text_of, keyword_lexeme, text_lexeme, symbol_lexeme, lexeme_as, lexeme_of, lexemes_of}
use Rattle.ax_lex.specs.Tokens.{IsToken, Stands, HasTokens, AreTokens}
use Rattle.ax_lex.specs.Tokens.IsToken.{word_as_name, word_as_keyword, at_and_word, quoted, digits, two_signs, one_sign}
use Rattle.ax_lex.specs.Tokens.HasTokens.{ended, space, token}
use Rattle.ax_lex.proofs.Texts.{inside_complete, inside_front, InsideFront}
use Rattle.ax_lex.proofs.Utf8.{Parts, ascii_parts, inside_utf8, quote_ascii}
use Rattle.ax_lex.proofs.Values.{text_read, value_found}
use Rattle.ax_lex.proofs.Words.{stretch_front, word_front}

-- the bytes of a token, and what they say
record FrontIs (lexeme : Lexeme) (before after : List ℕ) : Type 0 where
  front : List ℕ
  whole : before ≡ front ++ after
  says : lexeme_as (kind_of lexeme) front ≡ lexeme

quoted_front : (quote : ℕ) {value before after : List ℕ} → class_of quote ≡ Quote
    → IsInside quote value before after → (early : List ℕ) → IsUtf8 (early ++ quote ∷ before)
    → FrontIs (text value) (quote ∷ before) after
quoted_front quote {value} {before} {after} c i early u =
    let f : InsideFront quote value before after = inside_front i in
    let p : Parts early before = ascii_parts early quote before (quote_ascii quote c) u in
    let good : is_utf8 value ≡ true = is_utf8-from_IsUtf8 value (inside_utf8 i
    (quote_ascii quote c) [] p.after) in
    let says : text_of (quote ∷ f.front) ≡ value_found value =
    text_read quote f.front (quote ∷ f.front) value [] refl (sym c)
    (inside_complete quote f.alone (length f.front) (omega arith)) refl ∙ rw good refl in
    record {
      front = quote ∷ f.front;
      whole = ap
          (λ bs. quote ∷ bs) f.whole;
      says = ap text_lexeme says;
    }

token_front : {lexeme : Lexeme} {before after : List ℕ} → IsToken lexeme before after
    → (early : List ℕ) → IsUtf8 (early ++ before) → FrontIs lexeme before after
token_front (word_as_name {word} w k) early u =
    record { front = word; whole = word_front w; says = refl }
token_front (word_as_keyword {which} {word} w k) early u =
    record { front = word; whole = word_front w; says = ap (keyword_lexeme word) k }
token_front (at_and_word {at} {word} c w) early u = record {
  front = at ∷ word;
  whole = ap
      (λ bs. at ∷ bs) (word_front w);
  says = refl;
}
token_front (quoted {quote} c i) early u = quoted_front quote c i early u
token_front (digits {first} {value} {stretch} c r s v) early u =
    record {
      front = first ∷ stretch;
      whole = ap (λ bs. first ∷ bs) (stretch_front r);
      says = ap number
          (sym v);
    }
token_front (two_signs {which} {sign} {next} c p) early u = record {
  front = sign ∷ next ∷
      [];
  whole = refl;
  says = ap symbol_lexeme p;
}
token_front (one_sign {which} {sign} c p s) early u = record {
  front = sign ∷
      [];
  whole = refl;
  says = ap symbol_lexeme s;
}

-- the bytes of a token, from what is before it and after it
bytes_between : (early front after : List ℕ) (start end : ℕ) → start ≡ length early
    → end ≡ length early + length front → take (end - start) (drop start (early ++
    (front ++ after))) ≡ front
bytes_between early front after start end s e =
    let n : end - start ≡ length front = omega arith in
    ap (λ k. take k (drop start (early ++ (front ++ after)))) n
    ∙ ap (λ k. take (length front) (drop k (early ++ (front ++ after)))) s
    ∙ ap (take (length front)) (drop-append_seam early (front ++ after))
    ∙ take-append_seam front after

says_so : {total : ℕ} {first : Token} {lexeme : Lexeme} {before after : List ℕ}
    → Stands total first lexeme before after → (f : FrontIs lexeme before after)
    → (early whole : List ℕ) → whole ≡ early ++ before → total ≡ length whole
    → lexeme_of whole first ≡ lexeme
says_so {total} {first} {lexeme} {before} {after} s f early whole e t =
    let parts : whole ≡ early ++ (f.front ++ after) = e ∙ ap (λ bs. early ++ bs) f.whole in
    let long : length whole ≡ length early + length before = ap length e
    ∙ length-append early before in
    let more : length before ≡ length f.front + length after = ap length f.whole
    ∙ length-append f.front after in
    let start : first.start ≡ length early = omega (arith, s.start) in
    let end : first.end ≡ length early + length f.front = omega (arith, s.end) in
    let bytes : bytes_of whole first ≡ f.front =
    ap (λ bs. bytes_of bs first) parts
    ∙ bytes_between early f.front after first.start first.end start end in
    ap (lexeme_as first.kind) bytes ∙ ap (λ k. lexeme_as k f.front) s.kind ∙ f.says

says_all : {total : ℕ} {before : List ℕ} {tokens : List Token} {lexemes : List Lexeme}
    → HasTokens total before tokens lexemes → (early whole : List ℕ) → whole ≡ early ++ before
    → total ≡ length whole → IsUtf8 whole → lexemes ≡ lexemes_of whole tokens
says_all ended early whole e t u = refl
says_all (space {byte} {before} c p) early whole e t u =
    says_all p (early ++ byte ∷ []) whole (e ∙ sym (append_assoc early (byte ∷ []) before)) t u
says_all (token {token = first} {lexeme = lexeme} {before = before} {after = after}
    {tokens = tokens} {lexemes = lexemes} s r) early whole e t u =
    let f : FrontIs lexeme before after = token_front s.reads early (rw e at u) in
    let one : lexeme_of whole first ≡ lexeme = says_so s f early whole e t in
    let rest : lexemes ≡ lexemes_of whole tokens =
    says_all r (early ++ f.front) whole (e ∙ ap (λ bs. early ++ bs) f.whole
    ∙ sym (append_assoc early f.front after)) t u in
    ap (λ x. x ∷ lexemes) (sym one) ∙ ap (λ xs. lexeme_of whole first ∷ xs) rest

pub lexemes_said : (whole : List ℕ) (tokens : List Token) (lexemes : List Lexeme)
    → AreTokens whole tokens lexemes → lexemes ≡ lexemes_of whole tokens
lexemes_said whole tokens lexemes h = says_all h.reads [] whole refl refl h.utf8

pub with_lexemes : (whole : List ℕ) (tokens : List Token) → IsUtf8 whole
    → (lexemes : List Lexeme) × HasTokens (length whole) whole tokens lexemes
    → AreTokens whole tokens (lexemes_of whole tokens)
with_lexemes whole tokens u h =
    subst (λ ls. AreTokens whole tokens ls) (says_all h.1 [] whole refl refl u)
    (record { utf8 = u; reads = h.1 })

-- what follows of what was answered
pub then_ok : {A E : Type 0} (P Q : A → Type 0) (r : Result A E) → ((x : A) → P x → Q x)
    → IfOk r P → IfOk r Q
then_ok P Q (Ok x) f h = f x h
then_ok P Q (Err e) f h = tt

-- what bytes say is of the kind that they are taken as
keyword_kind : (word : List ℕ) (o : Option Keyword)
    → kind_of (keyword_lexeme word o) ≡ kind.Keyword
keyword_kind word None = refl
keyword_kind word (Some which) = refl

text_kind : (o : Option (List ℕ)) → kind_of (text_lexeme o) ≡ kind.Text
text_kind None = refl
text_kind (Some value) = refl

symbol_kind : (o : Option Symbol) → kind_of (symbol_lexeme o) ≡ kind.Symbol
symbol_kind None = refl
symbol_kind (Some which) = refl

pub meaning_kind : (k : TokenKind) (bytes : List ℕ) → kind_of (lexeme_as k bytes) ≡ k
meaning_kind kind.Name bytes = refl
meaning_kind kind.Keyword bytes = keyword_kind bytes (keyword_of bytes)
meaning_kind kind.Parameter bytes = refl
meaning_kind kind.Text bytes = text_kind (text_of bytes)
meaning_kind kind.Number bytes = refl
meaning_kind kind.Symbol bytes = symbol_kind (symbol_of bytes)

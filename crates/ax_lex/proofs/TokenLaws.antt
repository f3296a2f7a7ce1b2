-- A token: what is read is what the grammar has, and that is one. A text has one list of tokens.
use Rattle.std.proofs.Common.{◌≡◌, ℕ, ◌-◌, ◌<◌, true, false, List, [], ◌∷◌, length, Option, Some, None, refl, ap, subst, sym, ◌∙◌, arith}
use Rattle.std.specs.Prelude.{is_some}
use Rattle.std.specs.Option.{option_map}
use Rattle.ax_lex.specs.declared.class.ByteClass.{ByteClass}
use Rattle.ax_lex.specs.declared.class.ByteClass.TheVariants.{Space, Letter, Digit, Quote, At, Sign}
use Rattle.ax_lex.specs.declared.keyword.Keyword.{Keyword}
use Rattle.ax_lex.specs.declared.symbol.Symbol.{Symbol}
use Rattle.ax_lex.specs.declared.token.Token.{Token}
use Rattle.ax_lex.specs.declared.token.TokenKind.{TokenKind}
use Rattle.ax_lex.specs.declared.token.TokenKind.TheVariants as kind
use Rattle.ax_lex.specs.Bytes.{class_of, is_letter_class, is_digit}
use Rattle.ax_lex.specs.Keywords.{keyword_of}
use Rattle.ax_lex.specs.Lexeme.{Lexeme, kind_of}
use Rattle.ax_lex.specs.Lexeme.Lexeme.{parameter, text, number, symbol}
use Rattle.ax_lex.specs.Reading.{stretch_of, after_stretch, read_word, read_inside, word_says, sign_or, read_symbol, read_number, read_by, read_token, with_kind}
use Rattle.ax_lex.specs.Symbols.{pair_symbol, single_symbol, begins_pair}
use Rattle.ax_lex.specs.Tokens.{IsWord, number_of, spoils_number, IsToken, Stands, HasTokens}
use Rattle.ax_lex.specs.Tokens.IsToken.{word_as_name, word_as_keyword, at_and_word, quoted, digits, two_signs, one_sign}
use Rattle.ax_lex.specs.Tokens.HasTokens.{ended, space, token}
use Rattle.ax_lex.proofs.Options.{else_chosen, MapFound, map_found}
use Rattle.ax_lex.proofs.Texts.{inside_sound, inside_complete, inside_shorter}
use Rattle.ax_lex.proofs.Words.{stretch_sound, StretchIs, stretch_complete, stretch_shorter, word_sound, word_complete, word_shorter, WordBegins, word_begins}

abbrev pub token_found : Lexeme → List ℕ → Option (Lexeme × List ℕ)
token_found lexeme after = Some (lexeme, after)

-- ---- what is read is a token

word_token : (word before after : List ℕ) → IsWord word before after → (o : Option Keyword)
    → keyword_of word ≡ o → IsToken (word_says o word) before after
word_token word before after w None e = word_as_name w e
word_token word before after w (Some which) e = word_as_keyword w e

letter_sound : (bytes : List ℕ) (found : Lexeme × List ℕ)
    → option_map (λ found. (word_says (keyword_of found.0) found.0, found.1))
    (read_word bytes) ≡ Some found → IsToken found.0 bytes found.1
letter_sound bytes found e =
    let m : MapFound (λ (found : List ℕ × List ℕ). (
      word_says
          (keyword_of found.0) found.0,
      found.1,
    )) (read_word bytes) found = map_found _
    (read_word bytes) found e in
    subst (λ (f : Lexeme × List ℕ). IsToken f.0 bytes f.1) m.then
    (word_token m.x.0 bytes m.x.1 (word_sound bytes m.x m.first) (keyword_of m.x.0) refl)

at_sound : (first : ℕ) (rest : List ℕ) (found : Lexeme × List ℕ) → class_of first ≡ At
    → option_map (λ found. (parameter found.0, found.1)) (read_word rest) ≡ Some found
    → IsToken found.0 (first ∷ rest) found.1
at_sound first rest found c e =
    let m : MapFound (λ (found : List ℕ × List ℕ). (parameter found.0, found.1))
    (read_word rest) found = map_found _ (read_word rest) found e in
    subst (λ (f : Lexeme × List ℕ). IsToken f.0 (first ∷ rest) f.1) m.then
    (at_and_word c (word_sound rest m.x m.first))

quote_sound : (first : ℕ) (rest : List ℕ) (found : Lexeme × List ℕ) → class_of first ≡ Quote
    → option_map (λ found. (text found.0, found.1)) (read_inside first
    (length rest) rest) ≡ Some found → IsToken found.0 (first ∷ rest) found.1
quote_sound first rest found c e =
    let m : MapFound (λ (found : List ℕ × List ℕ). (text found.0, found.1)) (read_inside first
    (length rest) rest) found = map_found _ (read_inside first (length rest) rest) found e in
    subst (λ (f : Lexeme × List ℕ). IsToken f.0 (first ∷ rest) f.1) m.then
    (quoted c (inside_sound first (length rest) rest m.x m.first))

digit_sound : (first : ℕ) (rest : List ℕ) (found : Lexeme × List ℕ) → class_of first ≡ Digit
    → read_number first rest ≡ Some found → IsToken found.0 (first ∷ rest) found.1
digit_sound first rest found c e =
    let m : (spoils_number (after_stretch is_digit rest) ≡ false) × ((
      number (number_of
          (first ∷ stretch_of is_digit rest)),
      after_stretch is_digit rest,
    ) ≡ found) = else_chosen _ _ _ e in
    subst (λ (f : Lexeme × List ℕ). IsToken f.0 (first ∷ rest) f.1) m.1
    (digits c (stretch_sound is_digit rest) m.0 refl)

single_sound : (first : ℕ) (rest : List ℕ) (found : Lexeme × List ℕ) → class_of first ≡ Sign
    → begins_pair first rest ≡ false → option_map (λ which. (symbol which, rest))
    (single_symbol first) ≡ Some found → IsToken found.0 (first ∷ rest) found.1
single_sound first rest found c p e =
    let m : MapFound (λ which. (symbol which, rest)) (single_symbol first) found = map_found _
    (single_symbol first) found e in
    subst (λ (f : Lexeme × List ℕ). IsToken f.0 (first ∷ rest) f.1) m.then (one_sign c p m.first)

pair_sound : (first next : ℕ) (rest : List ℕ) (found : Lexeme × List ℕ) → class_of first ≡ Sign
    → (o : Option Symbol) → pair_symbol first next ≡ o
    → sign_or o first (next ∷ rest) rest ≡ Some found
    → IsToken found.0 (first ∷ next ∷ rest) found.1
pair_sound first next rest found c (Some which) p e =
    let same : (symbol which, rest) ≡ found = cc in
    subst (λ (f : Lexeme × List ℕ). IsToken f.0 (first ∷ next ∷ rest) f.1) same (two_signs c p)
pair_sound first next rest found c None p e = single_sound first (next ∷ rest) found c (ap
    (λ o. is_some o) p) e

sign_sound : (first : ℕ) (rest : List ℕ) (found : Lexeme × List ℕ) → class_of first ≡ Sign
    → read_symbol first rest ≡ Some found → IsToken found.0 (first ∷ rest) found.1
sign_sound first [] found c e = single_sound first [] found c refl e
sign_sound first (next ∷ rest) found c e = pair_sound first next rest found c
    (pair_symbol first next) refl e

by_sound : (first : ℕ) (rest : List ℕ) (found : Lexeme × List ℕ) (class : ByteClass)
    → class_of first ≡ class → read_by class first rest ≡ Some found
    → IsToken found.0 (first ∷ rest) found.1
by_sound first rest found Space c e = absurd (cc)
by_sound first rest found Letter c e = letter_sound (first ∷ rest) found e
by_sound first rest found Digit c e = digit_sound first rest found c e
by_sound first rest found Quote c e = quote_sound first rest found c e
by_sound first rest found At c e = at_sound first rest found c e
by_sound first rest found Sign c e = sign_sound first rest found c e

-- what is read as a token is one
pub token_sound : (bytes : List ℕ) (found : Lexeme × List ℕ) → read_token bytes ≡ Some found
    → IsToken found.0 bytes found.1
unfolding read_token
token_sound [] found e = absurd (cc)
token_sound (first ∷ rest) found e = by_sound first rest found (class_of first) refl e

-- ---- a token is what is read

letter_class : (class : ByteClass) → is_letter_class class ≡ true → class ≡ Letter
letter_class Space e = absurd (cc)
letter_class Letter e = refl
letter_class Digit e = absurd (cc)
letter_class Quote e = absurd (cc)
letter_class At e = absurd (cc)
letter_class Sign e = absurd (cc)

reads_word : {word before after : List ℕ} → IsWord word before after
    → read_token before ≡ token_found (word_says (keyword_of word) word) after
unfolding read_token
reads_word {word} {before} {after} w =
    let b : WordBegins before = word_begins w in
    rw b.begins_so
    (rw (letter_class (class_of b.first) b.letter)
    (ap (option_map (λ (found : List ℕ × List ℕ). (
      word_says
          (keyword_of found.0) found.0,
      found.1,
    ))) (sym (ap read_word b.begins_so)
    ∙ word_complete w)))

single_complete : (sign : ℕ) (which : Symbol) (after : List ℕ) (o : Option Symbol)
    → is_some o ≡ false → single_symbol sign ≡ Some which → (rest : List ℕ)
    → sign_or o sign after rest ≡ token_found (symbol which) after
single_complete sign which after None p s rest = rw s refl
single_complete sign which after (Some other) p s rest = absurd (cc)

sign_complete : (sign : ℕ) (which : Symbol) (after : List ℕ) → begins_pair sign after ≡ false
    → single_symbol sign ≡ Some which → read_symbol sign after ≡ token_found (symbol which) after
sign_complete sign which [] p s = rw s refl
sign_complete sign which (next ∷ rest) p s = single_complete sign which (next ∷ rest)
    (pair_symbol sign next) p s rest

pub token_complete : {lexeme : Lexeme} {before after : List ℕ} → IsToken lexeme before after
    → read_token before ≡ token_found lexeme after
unfolding read_token
token_complete (word_as_name {word} {before} {after} w k) = reads_word w
    ∙ ap (λ o. token_found (word_says o word) after) k
token_complete (word_as_keyword {which} {word} {before} {after} w k) = reads_word w
    ∙ ap (λ o. token_found (word_says o word) after) k
token_complete (at_and_word {at} {word} {before} {after} c w) =
    rw c (ap (option_map (λ (found : List ℕ × List ℕ). (parameter found.0, found.1)))
    (word_complete w))
token_complete (quoted {quote} {value} {before} {after} c i) =
    rw c (ap (option_map (λ (found : List ℕ × List ℕ). (text found.0, found.1)))
    (inside_complete quote i (length before) (omega arith)))
token_complete (digits {first} {value} {stretch} {before} {after} c r s v) =
    let was : StretchIs is_digit stretch before after = stretch_complete is_digit r in
    rw (c, was.front, was.rest, s) (ap (λ n. token_found (number n) after) (sym v))
token_complete (two_signs {which} {sign} {next} {after} c p) = rw (c, p) refl
token_complete (one_sign {which} {sign} {after} c p s) = rw c (sign_complete sign which after p s)

pub token_shorter : {lexeme : Lexeme} {before after : List ℕ} → IsToken lexeme before after
    → length after < length before
token_shorter (word_as_name w k) = word_shorter w
token_shorter (word_as_keyword w k) = word_shorter w
token_shorter (at_and_word c w) = omega (arith, word_shorter w)
token_shorter (quoted c i) = omega (arith, inside_shorter i)
token_shorter (digits c r s v) = omega (arith, stretch_shorter r)
token_shorter (two_signs c p) = omega arith
token_shorter (one_sign c p s) = omega arith

-- no token begins with white space, and none stands at the end
pub no_token_at_space : {lexeme : Lexeme} {byte : ℕ} {rest after : List ℕ}
    → class_of byte ≡ Space → IsToken lexeme (byte ∷ rest) after → ⊥
unfolding read_token
no_token_at_space {lexeme} {byte} {rest} {after} c t =
    let none : read_token (byte ∷ rest) ≡ None = rw c refl in
    let some : read_token (byte ∷ rest) ≡ token_found lexeme after = token_complete t in
    cc

pub no_token_at_end : {lexeme : Lexeme} {after : List ℕ} → IsToken lexeme [] after → ⊥
unfolding read_token
no_token_at_end {lexeme} {after} t =
    let some : read_token [] ≡ token_found lexeme after = token_complete t in
    cc

pub record SameToken (lexeme other : Lexeme) (after rest : List ℕ) : Type 0 where
  pub says : lexeme ≡ other
  pub then : after ≡ rest

lexeme_in : Option (Lexeme × List ℕ) → Lexeme
lexeme_in None = parameter []
lexeme_in (Some found) = found.0

after_in : Option (Lexeme × List ℕ) → List ℕ
after_in None = []
after_in (Some found) = found.1

pub same_found : (lexeme other : Lexeme) (after rest : List ℕ)
    → token_found lexeme after ≡ token_found other rest → SameToken lexeme other after rest
unfolding lexeme_in after_in
same_found lexeme other after rest e = record { says = ap lexeme_in e; then = ap after_in e }

-- one token stands at a place
pub token_one : {lexeme other : Lexeme} {before after rest : List ℕ}
    → IsToken lexeme before after → IsToken other before rest → SameToken lexeme other after rest
token_one {lexeme} {other} {before} {after} {rest} s t = same_found lexeme other after rest (sym
    (token_complete s) ∙ token_complete t)

-- ---- lists of tokens

abbrev make : TokenKind → ℕ → ℕ → Token
make kind start end = record { kind = kind; start = start; end = end }

same_fields : (s t : Token) → s.kind ≡ t.kind → s.start ≡ t.start → s.end ≡ t.end → s ≡ t
same_fields s t k b e =
    ap (λ x. make x s.start s.end) k ∙ ap (λ x. make t.kind x s.end) b
    ∙ ap (λ x. make t.kind t.start x) e

pub token_placed : {total : ℕ} {s t : Token} {lexeme other : Lexeme}
    {before after rest : List ℕ} → Stands total s lexeme before after
    → Stands total t other before rest → s ≡ t
token_placed {total} {s} {t} {lexeme} {other} {before} {after} {rest} a b =
    let one : SameToken lexeme other after rest = token_one a.reads b.reads in
    same_fields s t
    (a.kind ∙ ap kind_of one.says ∙ sym b.kind)
    (a.start ∙ sym b.start)
    (a.end ∙ ap (λ bs. total - length bs) one.then ∙ sym b.end)

pub record SameList (a b : List Token) (x y : List Lexeme) : Type 0 where
  pub tokens : a ≡ b
  pub lexemes : x ≡ y

-- a text has one list of tokens
pub tokens_one : {total : ℕ} {before : List ℕ} {a b : List Token} {x y : List Lexeme}
    → HasTokens total before a x → HasTokens total before b y → SameList a b x y
tokens_one ended ended = record { tokens = refl; lexemes = refl }
tokens_one ended (token s r) = absurd (no_token_at_end s.reads)
tokens_one (space c p) (space d q) = tokens_one p q
tokens_one (space c p) (token s r) = absurd (no_token_at_space c s.reads)
tokens_one (token s r) ended = absurd (no_token_at_end s.reads)
tokens_one (token s r) (space c p) = absurd (no_token_at_space c s.reads)
tokens_one (token {token = s} {lexeme = l} {after = after} {tokens = ts} {lexemes = ls} p r)
    (token {token = t} {lexeme = m} {after = rest} {tokens = us} {lexemes = ms} q w) =
    let one : SameToken l m after rest = token_one p.reads q.reads in
    let placed : s ≡ t = token_placed p q in
    let rest_is : SameList ts us ls ms = tokens_one r (rw (← one.then) at w) in
    record {
      tokens = ap (λ x. x ∷ ts) placed ∙ ap (λ xs. t ∷ xs) rest_is.tokens;
      lexemes = ap (λ x. x ∷ ls) one.says ∙ ap (λ xs. m ∷ xs) rest_is.lexemes;
    }

abbrev pub kind_found : TokenKind → List ℕ → Option (TokenKind × List ℕ)
kind_found kind after = Some (kind, after)

abbrev sign_found : List ℕ → TokenKind × List ℕ
sign_found after = (kind.Symbol, after)

abbrev behind_sign : Option (Lexeme × List ℕ) → Option (List ℕ)
behind_sign o = option_map (λ found. found.1) o

single_kind : (rest : List ℕ) (o : Option Symbol)
    → with_kind (option_map (λ which. (symbol which, rest)) o) ≡ option_map sign_found
    (behind_sign (option_map (λ which. (symbol which, rest)) o))
single_kind rest None = refl
single_kind rest (Some which) = refl

pair_kind : (sign : ℕ) (rest after : List ℕ) (o : Option Symbol)
    → with_kind (sign_or o sign rest after) ≡ option_map sign_found (behind_sign
    (sign_or o sign rest after))
pair_kind sign rest after None = single_kind rest (single_symbol sign)
pair_kind sign rest after (Some which) = refl

symbol_kind : (sign : ℕ) (rest : List ℕ)
    → with_kind (read_symbol sign rest) ≡ option_map sign_found (behind_sign
    (read_symbol sign rest))
symbol_kind sign [] = single_kind [] (single_symbol sign)
symbol_kind sign (next ∷ rest) = pair_kind sign (next ∷ rest) rest (pair_symbol sign next)

-- a symbol as the code takes it off the front
pub sign_taken : (first : ℕ) (rest bytes after : List ℕ) → bytes ≡ first ∷ rest
    → Sign ≡ class_of first → Some after ≡ behind_sign (read_symbol first rest)
    → kind_found kind.Symbol after ≡ with_kind (read_token bytes)
unfolding read_token
sign_taken first rest bytes after e c a =
    let d : class_of first ≡ Sign = sym c in
    rw (e, d) (ap (option_map sign_found) a ∙ sym (symbol_kind first rest))

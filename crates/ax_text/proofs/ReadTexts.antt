-- The texts and names in the JSON that a UTF-8 text is are UTF-8.
use Rattle.std.proofs.Common.{◌≡◌, ℕ, zero, suc, Bool, true, false, cond, ◌==◌, List, [], ◌∷◌, ◌++◌, length, Option, Some, None, option_and_then, IsUtf8, refl, sym, subst, arith, append_assoc}
use Rattle.std.proofs.lemmas.Bool.{eqb-true}
use Rattle.std.specs.Option.{IfSome}
use Rattle.std.specs.Prelude.{⊤}
use Rattle.json.specs.Token.{Token, begin_object, end_object, begin_array, end_array, key, string, number, boolean, null, bad}
use Rattle.json.specs.Text.{content, plain}
use Rattle.json.specs.Word.{head, ends_word, after_number, number_before, is_operator, is_space, word}
use Rattle.json.specs.Lex.{Lexeme, token, comma, colon, Class, quote, backslash, operator, space, other, class, operator_lexeme, string_token, Mode, between, in_word, in_string, in_escape, lex_byte, lex}
use Rattle.json.specs.Lex.{Place, fresh, after_value, after_comma, after_key, begins_colon, may_begin, may_close, if_allowed, place_token, punctuate, tokens}
use Rattle.json.specs.Json as json
use Rattle.json.specs.Json.{Json, Items, Members, Parse, parse_map, after_end_array, read_key, items_step, members_step, items, members, value_with, value, if_last}
use Rattle.ax_text.proofs.StringTexts.{string_utf8, rest_utf8}

-- ---- tokens

-- the text of a string or a key is UTF-8
abbrev IsText : Token → Type 0
IsText begin_object = ⊤
IsText end_object = ⊤
IsText begin_array = ⊤
IsText end_array = ⊤
IsText (key s) = IsUtf8 s
IsText (string s) = IsUtf8 s
IsText (number s) = ⊤
IsText (boolean b) = ⊤
IsText null = ⊤
IsText bad = ⊤

abbrev AreTexts : List Token → Type 0
AreTexts [] = ⊤
AreTexts (t ∷ ts) = IsText t × AreTexts ts

abbrev IsTextLexeme : Lexeme → Type 0
IsTextLexeme (token t) = IsText t
IsTextLexeme comma = ⊤
IsTextLexeme colon = ⊤

abbrev AreTextLexemes : List Lexeme → Type 0
AreTextLexemes [] = ⊤
AreTextLexemes (l ∷ ls) = IsTextLexeme l × AreTextLexemes ls

one_of : (b : Bool) (x y : Token) → IsText x → IsText y → IsText (cond b x y)
one_of true x y p q = p
one_of false x y p q = q

mark : (b : Bool) (x y : Lexeme) → IsTextLexeme x → IsTextLexeme y → IsTextLexeme (cond b x y)
mark true x y p q = p
mark false x y p q = q

number_text : (t : List ℕ) (o : Option (List ℕ)) → IsText (number_before t o)
number_text t None = tt
number_text t (Some rest) = one_of (ends_word rest) (number _) bad tt tt

word_text : (t : List ℕ) → IsText (word t)
unfolding word
word_text t =
    one_of (head t == 116) _ _ (one_of _ (boolean true) bad tt tt)
    (one_of (head t == 102) _ _ (one_of _ (boolean false) bad tt tt)
    (one_of (head t == 110) _ _ (one_of _ null bad tt tt) (number_text t (after_number t))))

operator_text : (x : ℕ) → IsTextLexeme (operator_lexeme x)
operator_text x =
    mark (x == 123) (token begin_object) _ tt (mark (x == 125) (token end_object) _ tt
    (mark (x == 91) (token begin_array) _ tt
    (mark (x == 93) (token end_array) _ tt (mark (x == 44) comma colon tt tt))))

quoted_text : (o : Option (List ℕ)) → IfSome o IsUtf8 → IsText (string_token o)
quoted_text None h = tt
quoted_text (Some s) h = h

-- a quote is ASCII, so what follows it is a text
quote_class : (x : ℕ) (a b c d : Bool) → (x == 34) ≡ a
    → cond a quote (cond b backslash (cond c operator (cond d space other))) ≡ quote → x ≡ 34
quote_class x true b c d e is = eqb-true x 34 e
quote_class x false true c d e is = absurd (cc)
quote_class x false false true d e is = absurd (cc)
quote_class x false false false true e is = absurd (cc)
quote_class x false false false false e is = absurd (cc)

is_quote : (x : ℕ) → class x ≡ quote → x ≡ 34
is_quote x e = quote_class x (x == 34) (x == 92) (is_operator x) (is_space x) refl e

byte_text : (m : Mode) (c : Class) (x : ℕ) (xs : List ℕ) (k : Mode → List Lexeme)
    → (c ≡ quote → IsUtf8 xs)
    → ((n : Mode) → AreTextLexemes (k n)) → AreTextLexemes (lex_byte m c x xs k)
byte_text between quote x xs k utf8 h =
    (quoted_text (content plain xs) (string_utf8 xs (utf8 refl)), h in_string)
byte_text between backslash x xs k utf8 h = (tt, h in_word)
byte_text between operator x xs k utf8 h = (operator_text x, h between)
byte_text between space x xs k utf8 h = h between
byte_text between other x xs k utf8 h = (word_text (x ∷ xs), h in_word)
byte_text in_word quote x xs k utf8 h = h in_word
byte_text in_word backslash x xs k utf8 h = h in_word
byte_text in_word operator x xs k utf8 h = (operator_text x, h between)
byte_text in_word space x xs k utf8 h = h between
byte_text in_word other x xs k utf8 h = h in_word
byte_text in_string quote x xs k utf8 h = h between
byte_text in_string backslash x xs k utf8 h = h in_escape
byte_text in_string operator x xs k utf8 h = h in_string
byte_text in_string space x xs k utf8 h = h in_string
byte_text in_string other x xs k utf8 h = h in_string
byte_text in_escape c x xs k utf8 h = h in_string

lexemes_text : (xs prefix : List ℕ) (m : Mode) → IsUtf8 (prefix ++ xs) → AreTextLexemes (lex m xs)
unfolding lex
lexemes_text [] prefix m utf8 = tt
lexemes_text (x ∷ xs) prefix m utf8 =
    byte_text m (class x) x xs (λ n. lex n xs)
    (λ e. let is : x ≡ 34 = is_quote x e in rest_utf8 prefix xs x (omega arith) utf8)
    (λ n. lexemes_text xs (prefix ++ x ∷ []) n
    (subst IsUtf8 (sym (append_assoc prefix (x ∷ []) xs)) utf8))

allowed : (b : Bool) (t : Token) (k : Place → List Token) (next : Place) → IsText t
    → AreTexts (k next)
    → AreTexts (if_allowed b t k next)
allowed true t k next p q = (p, q)
allowed false t k next p q = (tt, tt)

placed : (p : Place) (t : Token) (b : Bool) (k : Place → List Token) → IsText t
    → ((n : Place) → AreTexts (k n))
    → AreTexts (place_token p t b k)
placed p begin_object b k q h = allowed (may_begin p) begin_object k fresh q (h fresh)
placed p end_object b k q h = allowed (may_close p) end_object k after_value q (h after_value)
placed p begin_array b k q h = allowed (may_begin p) begin_array k fresh q (h fresh)
placed p end_array b k q h = allowed (may_close p) end_array k after_value q (h after_value)
placed p (key s) b k q h = (tt, tt)
placed p (string s) true k q h = allowed (may_begin p) (key s) k after_key q (h after_key)
placed p (string s) false k q h = allowed (may_begin p) (string s) k after_value q (h after_value)
placed p (number s) b k q h = allowed (may_begin p) (number s) k after_value q (h after_value)
placed p (boolean v) b k q h = allowed (may_begin p) (boolean v) k after_value q (h after_value)
placed p null b k q h = allowed (may_begin p) null k after_value q (h after_value)
placed p bad b k q h = (tt, tt)

punctuated : (ls : List Lexeme) → AreTextLexemes ls → (p : Place) → AreTexts (punctuate p ls)
unfolding punctuate
punctuated [] h fresh = tt
punctuated [] h after_value = tt
punctuated [] h after_comma = (tt, tt)
punctuated [] h after_key = (tt, tt)
punctuated (token t ∷ ls) h p =
    placed p t (begins_colon ls) (λ n. punctuate n ls) h.0 (punctuated ls h.1)
punctuated (comma ∷ ls) h fresh = (tt, tt)
punctuated (comma ∷ ls) h after_value = punctuated ls h.1 after_comma
punctuated (comma ∷ ls) h after_comma = (tt, tt)
punctuated (comma ∷ ls) h after_key = (tt, tt)
punctuated (colon ∷ ls) h fresh = (tt, tt)
punctuated (colon ∷ ls) h after_value = (tt, tt)
punctuated (colon ∷ ls) h after_comma = (tt, tt)
punctuated (colon ∷ ls) h after_key = punctuated ls h.1 fresh

tokens_text : (text : List ℕ) → IsUtf8 text → AreTexts (tokens text)
tokens_text text utf8 = punctuated _ (lexemes_text text [] between utf8) fresh

-- ---- values

abbrev mutual
  pub HasTexts : Json → Type 0
  HasTexts json.null = ⊤
  HasTexts (json.boolean b) = ⊤
  HasTexts (json.number s) = ⊤
  HasTexts (json.string s) = IsUtf8 s
  HasTexts (json.array js) = ItemsHaveTexts js
  HasTexts (json.object ms) = MembersHaveTexts ms

  pub ItemsHaveTexts : Items → Type 0
  ItemsHaveTexts json.no_items = ⊤
  ItemsHaveTexts (json.item j js) = HasTexts j × ItemsHaveTexts js

  pub MembersHaveTexts : Members → Type 0
  MembersHaveTexts json.no_members = ⊤
  MembersHaveTexts (json.member k j ms) = IsUtf8 k × HasTexts j × MembersHaveTexts ms

abbrev Gives : {A : Type 0} → (A → Type 0) → Option (A × List Token) → Type 0
Gives Q None = ⊤
Gives Q (Some p) = Q p.0 × AreTexts p.1

abbrev Keeps : {A : Type 0} → (A → Type 0) → Parse A → Type 0
Keeps Q p = (ts : List Token) → AreTexts ts → Gives Q (p ts)

mapped : {A B : Type 0} (P : A → Type 0) (Q : B → Type 0) (f : A → B) → ((a : A) → P a → Q (f a))
    → (o : Option (A × List Token)) → Gives P o → Gives Q (parse_map f o)
mapped P Q f g None h = tt
mapped P Q f g (Some p) h = (g p.0 h.0, h.1)

and_more : {B : Type 0} (Q : B → Type 0) (f : Json → B → B)
    → ((j : Json) (b : B) → HasTexts j → Q b → Q (f j b))
    → (more : Parse B) → Keeps Q more
    → (o : Option (Json × List Token)) → Gives HasTexts o
    → Gives Q (option_and_then (λ q. parse_map (f q.0) (more q.1)) o)
and_more Q f g more keeps None h = tt
and_more Q f g more keeps (Some q) h = mapped Q Q (f q.0) (λ b. g q.0 b h.0) _ (keeps q.1 h.1)

abbrev Rest : Option (List Token) → Type 0
Rest None = ⊤
Rest (Some r) = AreTexts r

closing : (ts : List Token) → AreTexts ts → Rest (after_end_array ts)
closing [] h = tt
closing (begin_object ∷ ts) h = tt
closing (end_object ∷ ts) h = tt
closing (begin_array ∷ ts) h = tt
closing (end_array ∷ ts) h = h.1
closing (key s ∷ ts) h = tt
closing (string s ∷ ts) h = tt
closing (number s ∷ ts) h = tt
closing (boolean v ∷ ts) h = tt
closing (null ∷ ts) h = tt
closing (bad ∷ ts) h = tt

-- a name, where one was read
abbrev IsName : Option (List ℕ) → Type 0
IsName None = ⊤
IsName (Some name) = IsUtf8 name

naming : Keeps IsName read_key
naming [] h = tt
naming (begin_object ∷ ts) h = tt
naming (end_object ∷ ts) h = (tt, h.1)
naming (begin_array ∷ ts) h = tt
naming (end_array ∷ ts) h = tt
naming (key s ∷ ts) h = h
naming (string s ∷ ts) h = tt
naming (number s ∷ ts) h = tt
naming (boolean v ∷ ts) h = tt
naming (null ∷ ts) h = tt
naming (bad ∷ ts) h = tt

module _ (p : Parse Json) (keeps : Keeps HasTexts p) where
  item_turn : (more : Parse Items) → Keeps ItemsHaveTexts more → (ts : List Token) → AreTexts ts
      → (o : Option (List Token)) → Rest o → Gives ItemsHaveTexts (items_step p more ts o)
  item_turn more again ts h (Some r) q = (tt, q)
  item_turn more again ts h None q =
      and_more ItemsHaveTexts json.item (λ j b x y. (x, y)) more again (p ts) (keeps ts h)

  Keeps-items : (n : ℕ) → Keeps ItemsHaveTexts (items p n)
  unfolding items
  Keeps-items zero ts h = tt
  Keeps-items (suc n) ts h =
      item_turn (items p n) (Keeps-items n) ts h (after_end_array ts) (closing ts h)

  member_turn : (more : Parse Members) → Keeps MembersHaveTexts more
      → (o : Option (Option (List ℕ) × List Token)) → Gives IsName o
      → Gives MembersHaveTexts (option_and_then (λ q. members_step p more q.0 q.1) o)
  member_turn more again None h = tt
  member_turn more again (Some (None, s)) h = (tt, h.1)
  member_turn more again (Some (Some k, s)) h =
      and_more MembersHaveTexts (json.member k) (λ j b x y. (h.0, x, y)) more again (p s)
      (keeps s h.1)

  Keeps-members : (n : ℕ) → Keeps MembersHaveTexts (members p n)
  unfolding members
  Keeps-members zero ts h = tt
  Keeps-members (suc n) ts h =
      member_turn (members p n) (Keeps-members n) (read_key ts) (naming ts h)

Keeps-value_with : (a : Parse Items) (o : Parse Members) → Keeps ItemsHaveTexts a
    → Keeps MembersHaveTexts o
    → Keeps HasTexts (value_with a o)
Keeps-value_with a o p q [] h = tt
Keeps-value_with a o p q (begin_object ∷ ts) h =
    mapped MembersHaveTexts HasTexts json.object (λ m x. x) _ (q ts h.1)
Keeps-value_with a o p q (end_object ∷ ts) h = tt
Keeps-value_with a o p q (begin_array ∷ ts) h =
    mapped ItemsHaveTexts HasTexts json.array (λ m x. x) _ (p ts h.1)
Keeps-value_with a o p q (end_array ∷ ts) h = tt
Keeps-value_with a o p q (key s ∷ ts) h = tt
Keeps-value_with a o p q (string s ∷ ts) h = h
Keeps-value_with a o p q (number s ∷ ts) h = h
Keeps-value_with a o p q (boolean v ∷ ts) h = h
Keeps-value_with a o p q (null ∷ ts) h = h
Keeps-value_with a o p q (bad ∷ ts) h = tt

Keeps-value : (depth : ℕ) → Keeps HasTexts (value depth)
unfolding value
Keeps-value zero = Keeps-value_with (λ ts. None) (λ ts. None) (λ ts h. tt) (λ ts h. tt)
Keeps-value (suc d) =
    Keeps-value_with (λ ts. items (value d) (length ts) ts) (λ ts. members (value d) (length ts) ts)
    (λ ts. Keeps-items (value d) (Keeps-value d) (length ts) ts)
    (λ ts. Keeps-members (value d) (Keeps-value d) (length ts) ts)

last : (o : Option (Json × List Token)) → Gives HasTexts o
    → IfSome (option_and_then (λ p. if_last p.0 p.1) o) HasTexts
last None h = tt
last (Some (j, [])) h = h.0
last (Some (j, t ∷ ts)) h = tt

-- the JSON that a text is
pub json_texts : (depth : ℕ) (text : List ℕ) → IsUtf8 text
    → IfSome (option_and_then (λ p. if_last p.0 p.1) (value depth (tokens text))) HasTexts
json_texts depth text utf8 =
    last (value depth (tokens text)) (Keeps-value depth (tokens text) (tokens_text text utf8))

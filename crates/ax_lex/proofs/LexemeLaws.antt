-- The lexemes that are read of a whole text are those that the grammar has.
use Rattle.std.proofs.Common.{◌≡◌, ◌↔◌, ℕ, ◌-◌, ◌<◌, ◌≤◌, Bool, true, false, cond, zero, suc, List, [], ◌∷◌, length, Option, Some, None, refl, ap, subst, ◌∙◌, ⊎_elim, arith}
use Rattle.std.specs.Prelude.{option_and_then}
use Rattle.std.specs.Str.{is_utf8}
use Rattle.std.proofs.lemmas.Bool.{cases_Bool}
use Rattle.std.proofs.lemmas.Str.{IsUtf8-from_is_utf8, is_utf8-from_IsUtf8}
use Rattle.ax_lex.specs.declared.class.ByteClass.TheVariants.{Space}
use Rattle.ax_lex.specs.declared.token.Token.{Token}
use Rattle.ax_lex.specs.Bytes.{class_of}
use Rattle.ax_lex.specs.Lexeme.{Lexeme, kind_of}
use Rattle.ax_lex.specs.LexemesIn.{with_first, read_lexemes, lexemes_in}
use Rattle.ax_lex.specs.Reading.{is_space, read_token}
use Rattle.ax_lex.specs.Tokens.{IsToken, HasTokens, AreTokens}
use Rattle.ax_lex.specs.Tokens.HasTokens.{ended, space, token}
use Rattle.ax_lex.proofs.Lexing.{space_class}
use Rattle.ax_lex.proofs.Options.{ThenFound, then_found, MapFound, map_found}
use Rattle.ax_lex.proofs.TokenLaws.{token_found, token_sound, token_complete, token_shorter, no_token_at_space, no_token_at_end}

-- some tokens before these bytes say this
abbrev pub Says : ℕ → List ℕ → List Lexeme → Type 0
Says total before lexemes = (tokens : List Token) × HasTokens total before tokens lexemes

abbrev pub lexemes_found : List Lexeme → Option (List Lexeme)
lexemes_found lexemes = Some lexemes

-- the token that says this, from here up to there
abbrev placed : ℕ → Lexeme → List ℕ → List ℕ → Token
placed total lexeme before after = record {
  kind = kind_of lexeme;
  start = total - length before;
  end = total - length after;
}

one_more : {total : ℕ} {lexeme : Lexeme} {before after : List ℕ} {lexemes : List Lexeme}
    → IsToken lexeme before after → Says total after lexemes → Says total before (lexeme ∷ lexemes)
one_more {total} {lexeme} {before} {after} t s = (
  placed total lexeme before after ∷ s.0,
  token (record { reads = t; kind = refl; start = refl; end = refl }) s.1,
)

-- ---- what is read says so

-- from what is so of fewer turns
step_sound : (total more byte : ℕ) (rest : List ℕ) (lexemes : List Lexeme)
    → ((bytes : List ℕ) (lexemes : List Lexeme) → read_lexemes more bytes ≡ lexemes_found lexemes
    → Says total bytes lexemes)
    → (b : Bool) → is_space byte ≡ b → cond b (read_lexemes more rest) (option_and_then
    (λ found. with_first found.0 (read_lexemes more found.1)) (read_token
    (byte ∷ rest))) ≡ lexemes_found lexemes → Says total (byte ∷ rest) lexemes
step_sound total more byte rest lexemes was true b e =
    let s : Says total rest lexemes = was rest lexemes e in
    (s.0, space (space_class (class_of byte) b) s.1)
step_sound total more byte rest lexemes was false b e =
    let s : ThenFound (λ found. with_first found.0 (read_lexemes more found.1)) (read_token
    (byte ∷ rest)) lexemes = then_found _ (read_token (byte ∷ rest)) lexemes e in
    let m : MapFound (λ others. s.x.0 ∷ others) (read_lexemes more s.x.1) lexemes = map_found _
    (read_lexemes more s.x.1) lexemes s.then in
    subst (λ ls. Says total (byte ∷ rest) ls) m.then
    (one_more (token_sound (byte ∷ rest) s.x s.first) (was s.x.1 m.x m.first))

reads_sound : (total more : ℕ) (bytes : List ℕ) (lexemes : List Lexeme)
    → read_lexemes more bytes ≡ lexemes_found lexemes → Says total bytes lexemes
unfolding read_lexemes
reads_sound total zero [] lexemes e =
    let none : [] ≡ lexemes = cc in
    subst (λ ls. Says total [] ls) none ([], ended)
reads_sound total zero (byte ∷ rest) lexemes e = absurd (cc)
reads_sound total (suc more) [] lexemes e =
    let none : [] ≡ lexemes = cc in
    subst (λ ls. Says total [] ls) none ([], ended)
reads_sound total (suc more) (byte ∷ rest) lexemes e =
    step_sound total more byte rest lexemes (reads_sound total more) (is_space byte) refl e

-- ---- what says so is read, in as many turns as there are bytes, or more

reads_none : (more : ℕ) → read_lexemes more [] ≡ lexemes_found []
unfolding read_lexemes
reads_none zero = refl
reads_none (suc more) = refl

reads_past_space : (more byte : ℕ) (rest : List ℕ) → 0 < more → class_of byte ≡ Space
    → read_lexemes more (byte ∷ rest) ≡ read_lexemes (more - 1) rest
unfolding read_lexemes
reads_past_space zero byte rest h c = absurd (omega arith)
reads_past_space (suc more) byte rest h c =
    let one : suc more - 1 ≡ more = omega arith in
    rw (c, one) refl

not_space : {lexeme : Lexeme} {byte : ℕ} {rest after : List ℕ}
    → IsToken lexeme (byte ∷ rest) after → is_space byte ≡ false
not_space {lexeme} {byte} t =
    ⊎_elim (λ (e : is_space byte ≡ true). absurd (no_token_at_space
    (space_class (class_of byte) e) t)) (λ (e : is_space byte ≡ false). e) (cases_Bool
    (is_space byte))

reads_past_token : (more : ℕ) {lexeme : Lexeme} (before after : List ℕ) → 0 < more
    → IsToken lexeme before after
    → read_lexemes more before ≡ with_first lexeme (read_lexemes (more - 1) after)
unfolding read_lexemes
reads_past_token zero before after h t = absurd (omega arith)
reads_past_token (suc more) [] after h t = absurd (no_token_at_end t)
reads_past_token (suc more) {lexeme} (byte ∷ rest) after h t =
    let one : suc more - 1 ≡ more = omega arith in
    let some : read_token (byte ∷ rest) ≡ token_found lexeme after = token_complete t in
    rw (not_space t, some, one) refl

reads_complete : {total : ℕ} {before : List ℕ} {tokens : List Token} {lexemes : List Lexeme}
    → HasTokens total before tokens lexemes → (more : ℕ) → length before ≤ more
    → read_lexemes more before ≡ lexemes_found lexemes
reads_complete ended more h = reads_none more
reads_complete (space {byte} {before} c p) more h =
    reads_past_space more byte before (omega arith) c
    ∙ reads_complete p (more - 1) (omega arith)
reads_complete (token {lexeme = lexeme} {before = before} {after = after} s r) more h =
    reads_past_token more before after (omega (arith, h, token_shorter s.reads)) s.reads
    ∙ ap (with_first lexeme) (reads_complete r (more - 1) (omega
    (arith, h, token_shorter s.reads)))

-- ---- the whole

where_utf8 : (b : Bool) (o : Option (List Lexeme)) (lexemes : List Lexeme)
    → cond b o None ≡ lexemes_found lexemes → (b ≡ true) × (o ≡ lexemes_found lexemes)
where_utf8 true o lexemes e = (refl, e)
where_utf8 false o lexemes e = absurd (cc)

in_sound : (text : List ℕ) (lexemes : List Lexeme) → lexemes_in text ≡ lexemes_found lexemes
    → (tokens : List Token) × AreTokens text tokens lexemes
unfolding lexemes_in
in_sound text lexemes e =
    let w : (is_utf8 text ≡ true) × (read_lexemes (length text) text ≡ lexemes_found lexemes) =
    where_utf8 (is_utf8 text) _ lexemes e in
    let s : Says (length text) text lexemes = reads_sound (length text) (length text) text lexemes
    w.1 in
    (s.0, record { utf8 = IsUtf8-from_is_utf8 text w.0; reads = s.1 })

pub in_complete : (text : List ℕ) (tokens : List Token) (lexemes : List Lexeme)
    → AreTokens text tokens lexemes → lexemes_in text ≡ lexemes_found lexemes
unfolding lexemes_in
in_complete text tokens lexemes h =
    rw (is_utf8-from_IsUtf8 text h.utf8) (reads_complete h.reads (length text) (omega arith))

-- the lexemes in a text are those of its tokens
pub lexemes_exact : (text : List ℕ) (lexemes : List Lexeme)
    → (lexemes_in text ≡ Some lexemes) ↔ ((tokens : List Token) × AreTokens text tokens lexemes)
lexemes_exact text lexemes = (in_sound text lexemes, λ h. in_complete text h.0 lexemes h.1)

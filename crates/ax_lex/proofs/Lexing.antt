-- How far the tokens of a text have been read: what was read goes on with whatever is read of the
-- rest.
use Rattle.std.proofs.Common.{◌≡◌, ℕ, ◌-◌, ◌<◌, ◌≤◌, true, false, List, [], ◌∷◌, ◌++◌, length, Option, Some, None, refl, ap, subst, sym, ◌∙◌, arith, append_assoc, append-nil}
use Rattle.ax_lex.specs.declared.class.ByteClass.{ByteClass}
use Rattle.ax_lex.specs.declared.class.ByteClass.TheVariants.{Space, Letter, Digit, Quote, At, Sign}
use Rattle.ax_lex.specs.declared.token.Token.{Token}
use Rattle.ax_lex.specs.declared.token.TokenKind.{TokenKind}
use Rattle.ax_lex.specs.Bytes.{class_of}
use Rattle.ax_lex.specs.Lexeme.{Lexeme, kind_of}
use Rattle.ax_lex.specs.Reading.{is_space_class, is_space, read_token, with_kind}
use Rattle.ax_lex.specs.Tokens.{IsToken, HasTokens}
use Rattle.ax_lex.specs.Tokens.HasTokens.{ended, space, token}
use Rattle.ax_lex.proofs.TokenLaws.{token_found, token_sound, token_complete, token_shorter, no_token_at_space, kind_found, SameToken, same_found}

-- some tokens stand from here on
abbrev pub GoesOn : ℕ → List ℕ → Type 0
GoesOn total rest = (tokens : List Token) × (lexemes : List Lexeme)
    × HasTokens total rest tokens lexemes

pub record IsUnderWay (text rest : List ℕ) (done : List Token) : Type 0 where
  pub says : List Lexeme
  pub found : (tokens : List Token) (lexemes : List Lexeme)
      → HasTokens (length text) rest tokens lexemes
      → HasTokens (length text) text (done ++ tokens) (says ++ lexemes)
  pub only : GoesOn (length text) text → GoesOn (length text) rest
  pub within : length rest ≤ length text

pub begun : (text : List ℕ) (done : List Token) → done ≡ [] → IsUnderWay text text done
begun text done e = rw e (record {
  says = [];
  found = λ tokens lexemes h. h;
  only = λ h. h;
  within = omega arith;
})

pub space_class : (class : ByteClass) → is_space_class class ≡ true → class ≡ Space
space_class Space e = refl
space_class Letter e = absurd (cc)
space_class Digit e = absurd (cc)
space_class Quote e = absurd (cc)
space_class At e = absurd (cc)
space_class Sign e = absurd (cc)

-- the tokens behind white space
behind_space : {total byte : ℕ} {rest : List ℕ} {tokens : List Token} {lexemes : List Lexeme}
    → class_of byte ≡ Space → HasTokens total (byte ∷ rest) tokens lexemes
    → HasTokens total rest tokens lexemes
behind_space c (space d p) = p
behind_space c (token s r) = absurd (no_token_at_space c s.reads)

pub past_space : {text rest : List ℕ} {done : List Token} (byte : ℕ) (after : List ℕ)
    → IsUnderWay text rest done → rest ≡ byte ∷ after → is_space byte ≡ true
    → IsUnderWay text after done
past_space {text} {rest} {done} byte after h e s =
    let c : class_of byte ≡ Space = space_class (class_of byte) s in
    record {
      says = h.says;
      found = λ tokens lexemes p. h.found tokens lexemes (subst (λ bs. HasTokens
          (length text) bs tokens lexemes) (sym e) (space c p));
      only = λ g.
          let q : GoesOn (length text) rest = h.only g in
          (q.0, q.1, behind_space c (subst (λ bs. HasTokens (length text) bs q.0 q.1) e q.2));
      within = omega (arith, h.within, ap length e);
    }

-- what was read, from its kind
pub record KindRead (bytes : List ℕ) (kind : TokenKind) (after : List ℕ) : Type 0 where
  pub lexeme : Lexeme
  pub kinds : kind ≡ kind_of lexeme
  pub reads : read_token bytes ≡ token_found lexeme after

kind_in : Option (TokenKind × List ℕ) → TokenKind → TokenKind
kind_in None k = k
kind_in (Some found) k = found.0

rest_in : Option (TokenKind × List ℕ) → List ℕ
rest_in None = []
rest_in (Some found) = found.1

kind_read : (bytes : List ℕ) (kind : TokenKind) (after : List ℕ) (o : Option (Lexeme × List ℕ))
    → read_token bytes ≡ o → kind_found kind after ≡ with_kind o → KindRead bytes kind after
unfolding kind_in rest_in
kind_read bytes kind after None r e = absurd (cc)
kind_read bytes kind after (Some found) r e =
    let same : after ≡ found.1 = ap rest_in e in
    record {
      lexeme = found.0;
      kinds = ap (λ o. kind_in o kind) e;
      reads = r ∙ ap (λ bs. token_found found.0 bs) (sym same);
    }

pub token_read : (bytes : List ℕ) (kind : TokenKind) (after : List ℕ)
    → kind_found kind after ≡ with_kind (read_token bytes) → KindRead bytes kind after
token_read bytes kind after e = kind_read bytes kind after (read_token bytes) refl e

pub read_shorter : (bytes : List ℕ) (kind : TokenKind) (after : List ℕ)
    → kind_found kind after ≡ with_kind (read_token bytes) → length after < length bytes
read_shorter bytes kind after e =
    let r : KindRead bytes kind after = token_read bytes kind after e in
    token_shorter (token_sound bytes (r.lexeme, after) r.reads)

-- the tokens behind one
behind_token : {total : ℕ} {lexeme : Lexeme} {before after : List ℕ} {tokens : List Token}
    {lexemes : List Lexeme} → IsToken lexeme before after
    → HasTokens total before tokens lexemes → GoesOn total after
behind_token t (space c p) = absurd (no_token_at_space c t)
behind_token {total} {lexeme} {before} {after} t
    (token {lexeme = other} {after = rest} {tokens = ts} {lexemes = ls} s r) =
    let one : SameToken lexeme other after rest = same_found lexeme other after rest (sym
    (token_complete t) ∙ token_complete s.reads) in
    (ts, ls, subst (λ bs. HasTokens total bs ts ls) (sym one.then) r)
behind_token t ended = absurd (omega (arith, token_shorter t))

pub past_token : {text rest : List ℕ} {done : List Token} (now : List Token) (read : Token)
    (after : List ℕ) → IsUnderWay text rest done
    → kind_found read.kind after ≡ with_kind (read_token rest)
    → read.start ≡ length text - length rest → read.end ≡ length text - length after
    → now ≡ done ++ read ∷ [] → IsUnderWay text after now
past_token {text} {rest} {done} now read after h e b f n =
    let r : KindRead rest read.kind after = token_read rest read.kind after e in
    let t : IsToken r.lexeme rest after = token_sound rest (r.lexeme, after) r.reads in
    record {
      says = h.says ++ r.lexeme ∷ [];
      found = λ tokens lexemes p.
          rw (n, append_assoc done (read ∷ []) tokens, append_assoc h.says (r.lexeme ∷ []) lexemes)
          (h.found (read ∷ tokens) (r.lexeme ∷ lexemes) (token
          (record { reads = t; kind = r.kinds; start = b; end = f }) p));
      only = λ g.
          let q : GoesOn (length text) rest = h.only g in
          behind_token t q.2;
      within = omega (arith, h.within, token_shorter t);
    }

-- no tokens stand where none is read
none_read : {total byte : ℕ} {rest : List ℕ} {tokens : List Token} {lexemes : List Lexeme}
    (o : Option (Lexeme × List ℕ)) → read_token (byte ∷ rest) ≡ o → None ≡ with_kind o
    → is_space byte ≡ false → HasTokens total (byte ∷ rest) tokens lexemes → ⊥
none_read (Some found) r e s h = absurd (cc)
none_read {total} {byte} {rest} None r e s (space c p) =
    let yes : is_space byte ≡ true = rw c refl in
    cc
none_read {total} {byte} {rest} None r e s (token {lexeme = l} {after = after} t p) =
    let some : read_token (byte ∷ rest) ≡ token_found l after = token_complete t.reads in
    cc

pub refused : {text rest : List ℕ} {done : List Token} (byte : ℕ) (after : List ℕ)
    → IsUnderWay text rest done → rest ≡ byte ∷ after → is_space byte ≡ false
    → None ≡ with_kind (read_token rest)
    → (tokens : List Token) (lexemes : List Lexeme)
    → HasTokens (length text) text tokens lexemes → ⊥
refused {text} {rest} {done} byte after h e s r tokens lexemes p =
    let q : GoesOn (length text) rest = h.only (tokens, lexemes, p) in
    none_read (read_token (byte ∷ after)) refl (rw e at r) s (subst (λ bs. HasTokens
    (length text) bs q.0 q.1) e q.2)

pub at_end : (text rest : List ℕ) (done : List Token) → IsUnderWay text rest done
    → length rest ≡ 0 → (lexemes : List Lexeme) × HasTokens (length text) text done lexemes
at_end text [] done h e = (
  h.says,
  subst (λ xs. HasTokens (length text) text xs h.says) (append-nil done) (subst
      (λ ys. HasTokens (length text) text (done ++ []) ys) (append-nil h.says) (h.found []
      [] ended)),
)
at_end text (byte ∷ rest) done h e = absurd (omega arith)

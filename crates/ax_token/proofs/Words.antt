-- What the bytes of a word say of its token.
use Rattle.std.proofs.Common.{Global, Vec, ◌≡◌, ℕ, List, [], ◌++◌, Bool, true, false, if◌then◌else◌, Option, Some, None, Result, Ok, Err, refl, sym, ap, ◌∙◌, subst}
use Rattle.std.specs.Prelude.{IfOk, IfSome, IfNone}
use Rattle.base64.specs.GeneralPurpose.{IsBytes}
use Rattle.ax_token.specs.declared.out_of_memory.Memory.{Memory}
use Rattle.ax_token.specs.declared.page_token.PageToken.{PageToken}
use Rattle.ax_token.specs.declared.page_token.TokenKey.{TokenKey}
use Rattle.ax_token.specs.declared.page_token.TokenKey.TheVariants.{Place, Ordered, Count}
use Rattle.ax_token.specs.Reading.{has_query, token_in}
use Rattle.ax_token.specs.TokenBytes.{Fits, HasSpelling, KeyFits, KeyIsSpelled, token_bytes}
use Rattle.ax_token.specs.Words.{IsOfQuery, IsWordOf, IsWordOfBytes, in_letters}
use Rattle.ax_token.proofs.InLetters.{one_of_letters}
use Rattle.ax_token.proofs.Tokens.{IsSpelled, query_again, query_told, token_again, token_found}

-- the word of a token's bytes is the token's
of_spelled : (bytes word : List ℕ) (t : PageToken) → IsWordOfBytes bytes word → IsSpelled bytes t → IsWordOf t word
of_spelled bytes word t of_bytes s =
    record { spelling = s.spelling; letters = subst (λ (b : List ℕ). IsWordOfBytes b word) s.is of_bytes }

-- what was read of the bytes of a word is its token
found_by : (word bytes : List ℕ) (token : Option PageToken) → IsWordOfBytes bytes word → token ≡ token_in bytes
    → IfSome token (λ t. IsWordOf t word)
found_by word bytes None of_bytes is = tt
found_by word bytes (Some t) of_bytes is =
    of_spelled bytes word t of_bytes (token_found bytes t of_bytes.fit (sym is))

none_is : (t : PageToken) → None ≡ Some t → ⊥
none_is t e = cc

-- the bytes of a token's word are read as the token
pub in_word : (word bytes : List ℕ) (t : PageToken) → IsWordOfBytes bytes word → IsWordOf t word → token_in bytes ≡ Some t
in_word word bytes t of_bytes is =
    ap token_in (one_of_letters bytes (token_bytes t) word of_bytes is.letters) ∙ token_again t is.spelling

-- where nothing was read of the bytes of a word, it is no token's
none_by : (word bytes : List ℕ) (token : Option PageToken) → IsWordOfBytes bytes word → token ≡ token_in bytes
    → IfNone token ((t : PageToken) → IsWordOf t word → ⊥)
none_by word bytes (Some t) of_bytes is = tt
none_by word bytes None of_bytes is = λ t of_word. none_is t (is ∙ in_word word bytes t of_bytes of_word)

-- ---- the clauses of `read_token`

pub read_found : (word bytes slice : List ℕ) (r : Result (Option PageToken) Memory)
    → IsWordOfBytes bytes word → slice ≡ bytes
    → IfOk r (λ token. token ≡ token_in slice) → IfOk r (λ token. IfSome token (λ t. IsWordOf t word))
read_found word bytes slice (Ok token) of_bytes same is = found_by word bytes token of_bytes (is ∙ ap token_in same)
read_found word bytes slice (Err fault) of_bytes same is = tt

pub read_none : (word bytes slice : List ℕ) (r : Result (Option PageToken) Memory)
    → IsWordOfBytes bytes word → slice ≡ bytes
    → IfOk r (λ token. token ≡ token_in slice)
    → IfOk r (λ token. IfNone token ((t : PageToken) → IsWordOf t word → ⊥))
read_none word bytes slice (Ok token) of_bytes same is = none_by word bytes token of_bytes (is ∙ ap token_in same)
read_none word bytes slice (Err fault) of_bytes same is = tt

-- a word that is made of no bytes is no token's
pub no_token : (word : List ℕ) → ((b : List ℕ) → IsWordOfBytes b word → ⊥) → (t : PageToken) → IsWordOf t word → ⊥
no_token word none t is = none (token_bytes t) is.letters

key_fits : (key : TokenKey) → KeyIsSpelled key → KeyFits key
key_fits (Place number place) is = is.1.0
key_fits (Ordered values number place) is = (is.0, is.1.1.0)
key_fits (Count given) is = tt

-- a token that its bytes tell can be written
fits_of : (t : PageToken) → HasSpelling t → Fits t
fits_of t is = record { text = is.text; params = is.params; key = key_fits t.key is.key }

pub read_fits : (word : List ℕ) (r : Result (Option PageToken) Memory)
    → IfOk r (λ token. IfSome token (λ t. IsWordOf t word)) → IfOk r (λ token. IfSome token (λ t. Fits t))
read_fits word (Ok (Some t)) is = fits_of t is.spelling
read_fits word (Ok None) is = tt
read_fits word (Err fault) is = tt

-- ---- the clause of `write_token`

-- the word of the bytes of a token that fits
pub word_written : (t : PageToken) (slice bytes : List ℕ) (r : Result (Vec ℕ Global) Memory) → HasSpelling t
    → slice ≡ bytes → bytes ≡ [] ++ token_bytes t
    → IfOk r (λ word. word.items ≡ in_letters slice) → IfOk r (λ word. IsBytes slice)
    → IfOk r (λ word. IsWordOf t word.items)
word_written t slice bytes (Ok word) spelling same are spelled fit =
    record {
      spelling = spelling;
      letters = record { fit = subst IsBytes (same ∙ are) fit; spelled = spelled ∙ ap in_letters (same ∙ are) };
    }
word_written t slice bytes (Err fault) spelling same are spelled fit = tt

-- ---- the clauses of `read_token_of`

pub of_query_fits : (word text params : List ℕ) (r : Result (Option PageToken) Memory)
    → IfOk r (λ token. IfSome token (λ t. IsWordOf t word × IsOfQuery t text params))
    → IfOk r (λ token. IfSome token (λ t. Fits t))
of_query_fits word text params (Ok (Some t)) is = fits_of t is.0.spelling
of_query_fits word text params (Ok None) is = tt
of_query_fits word text params (Err fault) is = tt

-- the token, where the query is this one
abbrev pub if_of_query : List ℕ → List ℕ → List ℕ → Option PageToken
if_of_query text params bytes = if has_query text params bytes then token_in bytes else None

has_not : PageToken → false ≡ true → ⊥
has_not t e = cc

-- where the query of a token is the one asked for, it is so of its bytes, and the other way round
module _ (word bytes text params : List ℕ) (of_bytes : IsWordOfBytes bytes word) where
  found_of : (b : Bool) (token : Option PageToken) → has_query text params bytes ≡ b
      → token ≡ (if b then token_in bytes else None)
      → IfSome token (λ t. IsWordOf t word × IsOfQuery t text params)
  found_of false None is e = tt
  found_of false (Some t) is e = absurd (none_is t (sym e))
  found_of true None is e = tt
  found_of true (Some t) is e =
      let of_word = found_by word bytes (Some t) of_bytes e in
      let same = one_of_letters bytes (token_bytes t) word of_bytes of_word.letters in
      (of_word, query_again t text params of_word.spelling (ap (has_query text params) (sym same) ∙ is))

  none_of : (b : Bool) (token : Option PageToken) → has_query text params bytes ≡ b
      → token ≡ (if b then token_in bytes else None)
      → IfNone token ((t : PageToken) → IsWordOf t word → IsOfQuery t text params → ⊥)
  none_of b (Some t) is e = tt
  none_of true None is e = λ t of_word of_query. none_by word bytes None of_bytes e t of_word
  none_of false None is e = λ t of_word of_query.
      has_not t (sym is ∙ ap (has_query text params) (one_of_letters bytes (token_bytes t) word of_bytes of_word.letters)
      ∙ query_told t text params of_word.spelling of_query)

pub of_query_found : (word bytes slice text params : List ℕ) (r : Result (Option PageToken) Memory)
    → IsWordOfBytes bytes word → slice ≡ bytes
    → IfOk r (λ token. token ≡ if_of_query text params slice)
    → IfOk r (λ token. IfSome token (λ t. IsWordOf t word × IsOfQuery t text params))
of_query_found word bytes slice text params (Ok token) of_bytes same is =
    found_of word bytes text params of_bytes (has_query text params bytes) token refl (is ∙ ap (if_of_query text params) same)
of_query_found word bytes slice text params (Err fault) of_bytes same is = tt

pub of_query_none : (word bytes slice text params : List ℕ) (r : Result (Option PageToken) Memory)
    → IsWordOfBytes bytes word → slice ≡ bytes
    → IfOk r (λ token. token ≡ if_of_query text params slice)
    → IfOk r (λ token. IfNone token ((t : PageToken) → IsWordOf t word → IsOfQuery t text params → ⊥))
of_query_none word bytes slice text params (Ok token) of_bytes same is =
    none_of word bytes text params of_bytes (has_query text params bytes) token refl (is ∙ ap (if_of_query text params) same)
of_query_none word bytes slice text params (Err fault) of_bytes same is = tt

-- a word that is made of no bytes is that of no token of a query
pub no_token_of : (word text params : List ℕ) → ((b : List ℕ) → IsWordOfBytes b word → ⊥)
    → (t : PageToken) → IsWordOf t word → IsOfQuery t text params → ⊥
no_token_of word text params none t is of_query = no_token word none t is

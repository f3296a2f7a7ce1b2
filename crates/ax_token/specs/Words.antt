-- A page token as a word of a line: its bytes in the URL-safe letters of base64 (RFC 4648, section 5)
-- without padding.
use Rattle.std.specs.Prelude.{◌≡◌, ℕ, List, codes}
use Rattle.base64.specs.Rfc4648.{encode_symbols}
use Rattle.base64.specs.GeneralPurpose.{IsBytes}
use Rattle.ax_token.specs.declared.page_token.PageToken.{PageToken}
use Rattle.ax_token.specs.TokenBytes.{HasSpelling, token_bytes}

-- the letters, each of which stands for six bits, from 0 to 63
abbrev pub letters : List ℕ
letters = codes "ABCDEFGHIJKLMNOPQRSTUVWXYZabcdefghijklmnopqrstuvwxyz0123456789-_"

-- bytes in letters, with zero bits behind the last byte where it ends inside a letter
abbrev pub in_letters : List ℕ → List ℕ
in_letters = encode_symbols letters

-- the word of a token
abbrev pub token_word : PageToken → List ℕ
token_word token = in_letters (token_bytes token)

-- The word is made of these bytes.
pub record IsWordOfBytes (bytes word : List ℕ) : Type 0 where
  pub fit : IsBytes bytes
  pub spelled : word ≡ in_letters bytes

-- The word is this token's: the token is one that its bytes tell, and the word is made of them.
pub record IsWordOf (token : PageToken) (word : List ℕ) : Type 0 where
  pub spelling : HasSpelling token
  pub letters : IsWordOfBytes (token_bytes token) word

-- The token is one of the query with this text and these parameters, as its canonical text has them.
pub record IsOfQuery (token : PageToken) (text params : List ℕ) : Type 0 where
  pub same_text : token.text ≡ text
  pub same_params : token.params ≡ params

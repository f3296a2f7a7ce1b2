-- The bytes of a page token: a version, the kind of its key, the text and the parameters of the
-- query, what is left of OFFSET and of LIMIT, and the key. docs/FORMAT.md has them under "Page
-- tokens"; the format is this project's own.
use Rattle.std.specs.Prelude.{ℕ, ◌<◌, ◌^◌, List, [], ◌∷◌, ◌++◌, length, Option, Some, None, IfSome, ⊤}
use Rattle.std.specs.List.{flat_map, AllByRecursion}
use Rattle.std.specs.Int.{w32, w64, to_le_bytes}
use Rattle.ax_token.specs.declared.page_token.PageToken.{PageToken}
use Rattle.ax_token.specs.declared.page_token.TokenKey.{TokenKey}
use Rattle.ax_token.specs.declared.page_token.TokenKey.TheVariants.{Place, Ordered, Count}

-- a number of 32 bits in four bytes, the low one first
abbrev pub u32_bytes : ℕ → List ℕ
u32_bytes = to_le_bytes w32

-- a number of 64 bits in eight bytes, the low one first
abbrev pub u64_bytes : ℕ → List ℕ
u64_bytes = to_le_bytes w64

-- how many bytes there are, and the bytes
abbrev pub sized : List ℕ → List ℕ
sized bytes = u32_bytes (length bytes) ++ bytes

-- 0 where there is none, or 1 and what there is
abbrev pub optional_bytes : {X : Type 0} → (X → List ℕ) → Option X → List ℕ
optional_bytes spell None = 0 ∷ []
optional_bytes spell (Some x) = 1 ∷ spell x

-- how many there are, in one byte, and one after another
abbrev pub listed_bytes : {X : Type 0} → (X → List ℕ) → List X → List ℕ
listed_bytes spell xs = length xs ∷ flat_map spell xs

-- the text of an order value, and none of undefined
abbrev pub value_bytes : Option (List ℕ) → List ℕ
value_bytes = optional_bytes sized

-- the number of a document, and the place of a row in it
abbrev pub place_bytes : ℕ → List ℕ → List ℕ
place_bytes number place = u32_bytes number ++ listed_bytes u32_bytes place

-- the kind of a key: 0 the place of a row, 1 a place with order values, 2 a count of rows
abbrev pub kind_of : TokenKey → ℕ
kind_of (Place number place) = 0
kind_of (Ordered values number place) = 1
kind_of (Count given) = 2

-- what is written of a key behind its kind
abbrev pub key_bytes : TokenKey → List ℕ
key_bytes (Place number place) = place_bytes number place
key_bytes (Ordered values number place) =
    listed_bytes value_bytes values ++ place_bytes number place
key_bytes (Count given) = u64_bytes given

-- the bytes of a token, of which the first is the version
abbrev pub token_bytes : PageToken → List ℕ
token_bytes t =
    1 ∷ kind_of t.key ∷ (sized t.text ++ (sized t.params
    ++ (u32_bytes t.skip ++ (optional_bytes u32_bytes t.left ++ key_bytes t.key))))

-- ---- which tokens have such bytes

-- a number of 32 bits
abbrev pub IsU32 : ℕ → Type 0
IsU32 n = n < 2 ^ 32

-- a text whose length is a number of 32 bits
abbrev pub TextFits : List ℕ → Type 0
TextFits bytes = IsU32 (length bytes)

-- an order value that is undefined, or whose text fits
abbrev pub ValueFits : Option (List ℕ) → Type 0
ValueFits value = IfSome value TextFits

-- at most 255 elements, of which each fits
abbrev pub ListFits : {X : Type 0} → (X → Type 0) → List X → Type 0
ListFits Fit xs = (length xs < 256) × AllByRecursion Fit xs

-- at most 255 positions, and at most 255 order values whose texts fit
abbrev pub KeyFits : TokenKey → Type 0
KeyFits (Place number place) = length place < 256
KeyFits (Ordered values number place) = ListFits ValueFits values × (length place < 256)
KeyFits (Count given) = ⊤

-- A token can be written: its texts and lists have lengths that the format can say.
pub record Fits (t : PageToken) : Type 0 where
  pub text : TextFits t.text
  pub params : TextFits t.params
  pub key : KeyFits t.key

-- a number of 32 bits, and at most 255 positions of 32 bits
abbrev pub PlaceIsSpelled : ℕ → List ℕ → Type 0
PlaceIsSpelled number place = IsU32 number × ListFits IsU32 place

-- the key fits, and its numbers are of their width
abbrev pub KeyIsSpelled : TokenKey → Type 0
KeyIsSpelled (Place number place) = PlaceIsSpelled number place
KeyIsSpelled (Ordered values number place) = ListFits ValueFits values × PlaceIsSpelled number place
KeyIsSpelled (Count given) = given < 2 ^ 64

-- A token that its bytes tell: it fits, and its numbers are of 32 bits or, of a count, of 64, as
-- those of a token in memory always are.
pub record HasSpelling (t : PageToken) : Type 0 where
  pub text : TextFits t.text
  pub params : TextFits t.params
  pub skip : IsU32 t.skip
  pub left : IfSome t.left IsU32
  pub key : KeyIsSpelled t.key

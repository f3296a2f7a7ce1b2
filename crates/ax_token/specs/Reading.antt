-- What bytes begin with, and the bytes behind it, as functions on lists. Only the clauses of private
-- functions cite these: what a word says is `IsWordOf` of `Words`.
use Rattle.std.specs.Prelude.{ℕ, zero, suc, Bool, false, ◌&&◌, List, [], ◌∷◌, ◌++◌, length, take, drop, Option, Some, None, nat_le, if◌then◌else◌, option_map, option_and_then}
use Rattle.std.specs.Int.{w32, w64, from_le_bytes}
use Rattle.std.specs.Str.{bytes_eq}
use Rattle.ax_token.specs.declared.page_token.PageToken.{PageToken}
use Rattle.ax_token.specs.declared.page_token.TokenKey.{TokenKey}
use Rattle.ax_token.specs.declared.page_token.TokenKey.TheVariants.{Place, Ordered, Count}

-- what is first, where bytes begin with it, and the bytes behind it
abbrev pub First : Type 0 → Type 0
First X = List ℕ → Option (X × List ℕ)

-- one byte
abbrev pub first_byte : First ℕ
first_byte [] = None
first_byte (byte ∷ bytes) = Some (byte, bytes)

-- so many bytes
abbrev pub first_bytes : ℕ → First (List ℕ)
first_bytes n bytes =
    if nat_le n (length bytes) then Some (take n bytes, drop n bytes) else None

-- what is first, seen by a function
abbrev pub with : {X Y : Type 0} → (X → Y) → First X → First Y
with f first bytes = option_map (λ x. (f x.0, x.1)) (first bytes)

-- what is behind the first, which says how to read it
abbrev pub then_first : {X Y : Type 0} → First X → (X → First Y) → First Y
then_first first second bytes = option_and_then (λ x. second x.0 x.1) (first bytes)

-- one behind another
abbrev pub both : {X Y : Type 0} → First X → First Y → First (X × Y)
both first second = then_first first (λ x. with (λ y. (x, y)) second)

-- a number of 32 bits in four bytes, the low one first
abbrev pub first_u32 : First ℕ
first_u32 = with (from_le_bytes w32) (first_bytes 4)

-- a number of 64 bits in eight bytes, the low one first
abbrev pub first_u64 : First ℕ
first_u64 = with (from_le_bytes w64) (first_bytes 8)

-- bytes behind how many they are
abbrev pub first_sized : First (List ℕ)
first_sized = then_first first_u32 first_bytes

-- what a byte says of what follows: 0 that there is none, 1 that it is there
abbrev pub told_by : {X : Type 0} → First X → ℕ → First (Option X)
told_by first zero bytes = Some (None, bytes)
told_by first (suc zero) bytes = with (λ x. Some x) first bytes
told_by first (suc (suc n)) bytes = None

-- none, or one that is there
abbrev pub optional : {X : Type 0} → First X → First (Option X)
optional first = then_first first_byte (told_by first)

-- so many, one behind another
abbrev pub many : {X : Type 0} → First X → ℕ → First (List X)
many first zero bytes = Some ([], bytes)
many first (suc n) bytes =
    option_and_then (λ x. option_map (λ r. (x.0 ∷ r.0, r.1)) (many first n x.1)) (first bytes)

-- as many as the byte before them says
abbrev pub listed : {X : Type 0} → First X → First (List X)
listed first = then_first first_byte (many first)

-- these, and then those that were read
abbrev pub onto : {X : Type 0} → List X → Option (List X × List ℕ) → Option (List X × List ℕ)
onto xs = option_map (λ r. (xs ++ r.0, r.1))

-- the number of a document, and the place of a row in it
abbrev pub first_place : First (ℕ × List ℕ)
first_place = both first_u32 (listed first_u32)

-- the key of a place
abbrev pub placed : ℕ × List ℕ → TokenKey
placed x = Place x.0 x.1

-- the key of a place behind order values
abbrev pub in_order : List (Option (List ℕ)) × (ℕ × List ℕ) → TokenKey
in_order x = Ordered x.0 x.1.0 x.1.1

-- the key of a place, of these order values
abbrev pub in_order_of : List (Option (List ℕ)) → ℕ × List ℕ → TokenKey
in_order_of values x = Ordered values x.0 x.1

-- a key of this kind
abbrev pub first_key : ℕ → First TokenKey
first_key zero = with placed first_place
first_key (suc zero) = with in_order (both (listed (optional first_sized)) first_place)
first_key (suc (suc zero)) = with (λ given. Count given) first_u64
first_key (suc (suc (suc n))) = λ bytes. None

-- what stands behind the kind: text, parameters, OFFSET, LIMIT, key
abbrev pub Fields : Type 0
Fields = List ℕ × (List ℕ × (ℕ × (Option ℕ × TokenKey)))

-- the fields of a token whose key is of this kind
abbrev pub first_fields : ℕ → First Fields
first_fields kind =
    both first_sized (both first_sized (both first_u32 (both (optional first_u32) (first_key kind))))

-- the token that has these fields
abbrev pub token_of : Fields → PageToken
token_of x =
    record { text = x.0; params = x.1.0; skip = x.1.1.0; left = x.1.1.1.0; key = x.1.1.1.1 }

-- what stands behind the version, which is 1
abbrev pub first_versioned : ℕ → First Fields
first_versioned zero = λ bytes. None
first_versioned (suc zero) = then_first first_byte first_fields
first_versioned (suc (suc n)) = λ bytes. None

-- what was read, where nothing is left behind it
abbrev pub whole : {X : Type 0} → X → List ℕ → Option X
whole x [] = Some x
whole x (byte ∷ bytes) = None

-- the token whose bytes these are, and no others
abbrev pub token_in : List ℕ → Option PageToken
token_in bytes =
    option_and_then (λ x. whole (token_of x.0) x.1) (then_first first_byte first_versioned bytes)

-- the query that was read is this one
abbrev pub is_query : List ℕ → List ℕ → Option ((List ℕ × List ℕ) × List ℕ) → Bool
is_query text params None = false
is_query text params (Some x) = bytes_eq x.0.0 text && bytes_eq x.0.1 params

-- behind version and kind stand this text and these parameters
abbrev pub has_query : List ℕ → List ℕ → List ℕ → Bool
has_query text params [] = false
has_query text params (version ∷ []) = false
has_query text params (version ∷ kind ∷ bytes) = is_query text params (both first_sized first_sized bytes)

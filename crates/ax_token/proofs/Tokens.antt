-- The bytes of a token tell it, and no other bytes do.
use Rattle.std.proofs.Common.{◌≡◌, ℕ, zero, suc, List, [], ◌∷◌, ◌++◌, Bool, true, false, ◌&&◌, Option, Some, None, refl, sym, ap, ◌∙◌, subst}
use Rattle.std.specs.Prelude.{IfSome}
use Rattle.std.specs.Option.{option_map, option_and_then}
use Rattle.std.specs.Str.{bytes_eq}
use Rattle.std.proofs.lemmas.List.{append-nil, append_assoc}
use Rattle.std.proofs.lemmas.Slice.Eq.{bytes_eq-Decides}
use Rattle.base64.specs.GeneralPurpose.{IsBytes}
use Rattle.ax_token.specs.declared.page_token.PageToken.{PageToken}
use Rattle.ax_token.specs.declared.page_token.TokenKey.{TokenKey}
use Rattle.ax_token.specs.declared.page_token.TokenKey.TheVariants.{Place, Ordered, Count}
use Rattle.ax_token.specs.Reading.{Fields, both, first_fields, first_key, first_place, first_sized, first_u32, first_u64, first_versioned, has_query, in_order, is_query, listed, optional, placed, token_in, token_of, whole}
use Rattle.ax_token.specs.TokenBytes.{HasSpelling, IsU32, KeyIsSpelled, ListFits, PlaceIsSpelled, TextFits, ValueFits, key_bytes, kind_of, listed_bytes, optional_bytes, place_bytes, sized, token_bytes, u32_bytes, value_bytes}
use Rattle.ax_token.specs.Words.{IsOfQuery}
use Rattle.ax_token.proofs.Readers.{Reads, both_reads, listed_reads, map_found, optional_reads, sized_reads, then_found, u32_reads, u64_reads}

place_reads : Reads first_place (λ p. place_bytes p.0 p.1) (λ p. PlaceIsSpelled p.0 p.1)
place_reads =
    both_reads first_u32 (listed first_u32) u32_bytes (listed_bytes u32_bytes) IsU32 (ListFits IsU32)
    u32_reads (listed_reads first_u32 u32_bytes IsU32 u32_reads)

values_reads : Reads (listed (optional first_sized)) (listed_bytes value_bytes) (ListFits ValueFits)
values_reads =
    listed_reads (optional first_sized) value_bytes ValueFits
    (optional_reads first_sized sized TextFits sized_reads)

ordered_reads : Reads (both (listed (optional first_sized)) first_place)
    (λ p. listed_bytes value_bytes p.0 ++ place_bytes p.1.0 p.1.1)
    (λ p. ListFits ValueFits p.0 × PlaceIsSpelled p.1.0 p.1.1)
ordered_reads =
    both_reads (listed (optional first_sized)) first_place (listed_bytes value_bytes) (λ p. place_bytes p.0 p.1)
    (ListFits ValueFits) (λ p. PlaceIsSpelled p.0 p.1) values_reads place_reads

-- a key of the kind
abbrev IsOfKind : ℕ → TokenKey → Type 0
IsOfKind kind key = (kind ≡ kind_of key) × KeyIsSpelled key

key_again : (key : TokenKey) (rest : List ℕ) → KeyIsSpelled key
    → first_key (kind_of key) (key_bytes key ++ rest) ≡ Some (key, rest)
key_again (Place number place) rest fit =
    ap (option_map (λ (x : (ℕ × List ℕ) × List ℕ). (placed x.0, x.1))) (place_reads.again (number, place) rest fit)
key_again (Ordered values number place) rest fit =
    ap (option_map (λ (x : (List (Option (List ℕ)) × (ℕ × List ℕ)) × List ℕ). (in_order x.0, x.1)))
    (ordered_reads.again (values, (number, place)) rest fit)
key_again (Count given) rest fit =
    ap (option_map (λ (x : ℕ × List ℕ). (Count x.0, x.1))) (u64_reads.again given rest fit)

none_some : {X A : Type 0} (x : X) → None ≡ Some x → A
none_some x e = absurd (let f : ⊥ = cc in f)

abbrev IsKeyOf : ℕ → List ℕ → List ℕ → TokenKey → Type 0
IsKeyOf kind bytes rest key = (bytes ≡ key_bytes key ++ rest) × IsOfKind kind key

key_found : (kind : ℕ) (bytes : List ℕ) (key : TokenKey) (rest : List ℕ) → IsBytes bytes
    → first_key kind bytes ≡ Some (key, rest) → IsKeyOf kind bytes rest key
key_found zero bytes key rest are e =
    let m = map_found placed (first_place bytes) key rest e in
    let f = place_reads.found bytes m.0 rest are m.1 in
    subst (IsKeyOf 0 bytes rest) m.2 (f.0, (refl, f.1))
key_found (suc zero) bytes key rest are e =
    let m = map_found in_order (both (listed (optional first_sized)) first_place bytes) key rest e in
    let f = ordered_reads.found bytes m.0 rest are m.1 in
    subst (IsKeyOf 1 bytes rest) m.2 (f.0, (refl, f.1))
key_found (suc (suc zero)) bytes key rest are e =
    let m = map_found (λ (n : ℕ). Count n) (first_u64 bytes) key rest e in
    let f = u64_reads.found bytes m.0 rest are m.1 in
    subst (IsKeyOf 2 bytes rest) m.2 (f.0, (refl, f.1))
key_found (suc (suc (suc n))) bytes key rest are e = none_some (key, rest) e

key_reads : (kind : ℕ) → Reads (first_key kind) key_bytes (IsOfKind kind)
key_reads kind = record {
  again = λ key rest fit. ap (λ (k : ℕ). first_key k (key_bytes key ++ rest)) fit.0 ∙ key_again key rest fit.1;
  found = key_found kind;
}

abbrev fields_bytes : Fields → List ℕ
fields_bytes x =
    sized x.0 ++ (sized x.1.0 ++ (u32_bytes x.1.1.0 ++ (optional_bytes u32_bytes x.1.1.1.0 ++ key_bytes x.1.1.1.1)))

abbrev FieldsFit : ℕ → Fields → Type 0
FieldsFit kind x =
    TextFits x.0 × (TextFits x.1.0 × (IsU32 x.1.1.0 × (IfSome x.1.1.1.0 IsU32 × IsOfKind kind x.1.1.1.1)))

fields_reads : (kind : ℕ) → Reads (first_fields kind) fields_bytes (FieldsFit kind)
fields_reads kind =
    let last = both_reads (optional first_u32) (first_key kind) (optional_bytes u32_bytes) key_bytes
    (λ (o : Option ℕ). IfSome o IsU32) (IsOfKind kind)
    (optional_reads first_u32 u32_bytes IsU32 u32_reads) (key_reads kind) in
    let third = both_reads first_u32 _ u32_bytes _ IsU32 _ u32_reads last in
    let second = both_reads first_sized _ sized _ TextFits _ sized_reads third in
    both_reads first_sized _ sized _ TextFits _ sized_reads second

abbrev fields_of : PageToken → Fields
fields_of t = (t.text, (t.params, (t.skip, (t.left, t.key))))

abbrev token_where : Option (Fields × List ℕ) → Option PageToken
token_where = option_and_then (λ (x : Fields × List ℕ). whole (token_of x.0) x.1)

pub token_again : (t : PageToken) → HasSpelling t → token_in (token_bytes t) ≡ Some t
token_again t fit =
    ap (λ (bs : List ℕ). token_where (first_fields (kind_of t.key) bs)) (sym (append-nil (fields_bytes (fields_of t))))
    ∙ ap token_where ((fields_reads (kind_of t.key)).again (fields_of t) []
    (fit.text, (fit.params, (fit.skip, (fit.left, (refl, fit.key))))))

-- the bytes are those of the token, which fits
pub record IsSpelled (bytes : List ℕ) (t : PageToken) : Type 0 where
  pub spelling : HasSpelling t
  pub is : bytes ≡ token_bytes t

nothing_behind : {X : Type 0} (x y : X) (rest : List ℕ) → whole x rest ≡ Some y → (x ≡ y) × (rest ≡ [])
nothing_behind x y [] e = (let f : x ≡ y = cc in f, refl)
nothing_behind x y (b ∷ rest) e = none_some y e

versioned_found : (version kind : ℕ) (bytes : List ℕ) (t : PageToken) → IsBytes bytes
    → token_where (first_versioned version (kind ∷ bytes)) ≡ Some t → IsSpelled (version ∷ kind ∷ bytes) t
versioned_found zero kind bytes t are e = none_some t e
versioned_found (suc zero) kind bytes t are e =
    let first = then_found (λ (x : Fields × List ℕ). whole (token_of x.0) x.1) (first_fields kind bytes) t e in
    let end = nothing_behind (token_of first.0.0) t first.0.1 first.2 in
    let f = (fields_reads kind).found bytes first.0.0 first.0.1 are first.1 in
    let fit = f.1 in
    subst (IsSpelled (1 ∷ kind ∷ bytes)) end.0
    (record {
      spelling = record { text = fit.0; params = fit.1.0; skip = fit.1.1.0; left = fit.1.1.1.0; key = fit.1.1.1.1.1 };
      is = (λ i. 1 ∷ fit.1.1.1.1.0 i ∷ (f.0 ∙ ap (λ (m : List ℕ). fields_bytes first.0.0 ++ m) end.1 ∙ append-nil (fields_bytes first.0.0)) i);
    })
versioned_found (suc (suc n)) kind bytes t are e = none_some t e

pub token_found : (bytes : List ℕ) (t : PageToken) → IsBytes bytes → token_in bytes ≡ Some t → IsSpelled bytes t
token_found [] t are e = none_some t e
token_found (version ∷ []) t are e = only version t e where
  only : (version : ℕ) (t : PageToken) → token_in (version ∷ []) ≡ Some t → IsSpelled (version ∷ []) t
  only zero t e = none_some t e
  only (suc zero) t e = none_some t e
  only (suc (suc n)) t e = none_some t e
token_found (version ∷ kind ∷ bytes) t are e =
    versioned_found version kind bytes t (λ i. are (suc (suc i))) e

-- ---- the query of a token

-- what stands behind the query in a token's bytes
abbrev behind_query : PageToken → List ℕ
behind_query t = u32_bytes t.skip ++ (optional_bytes u32_bytes t.left ++ key_bytes t.key)

-- the query is read of a token's bytes, behind version and kind
query_read : (t : PageToken) → HasSpelling t
    → both first_sized first_sized (sized t.text ++ (sized t.params ++ behind_query t)) ≡ Some ((t.text, t.params), behind_query t)
query_read t fit =
    ap (both first_sized first_sized) (sym (append_assoc (sized t.text) (sized t.params) (behind_query t)))
    ∙ (both_reads first_sized first_sized sized sized TextFits TextFits sized_reads sized_reads).again
    (t.text, t.params) (behind_query t) (fit.text, fit.params)

both_true : (a b : Bool) → (a && b) ≡ true → (a ≡ true) × (b ≡ true)
both_true true b e = (refl, e)
both_true false b e = absurd (let f : ⊥ = cc in f)

-- where a token's bytes have a query, the token is one of it
pub query_again : (t : PageToken) (text params : List ℕ) → HasSpelling t
    → has_query text params (token_bytes t) ≡ true → IsOfQuery t text params
query_again t text params fit has =
    let both_are = both_true (bytes_eq t.text text) (bytes_eq t.params params)
    (sym (ap (is_query text params) (query_read t fit)) ∙ has) in
    record {
      same_text = (bytes_eq-Decides t.text text).0 both_are.0;
      same_params = (bytes_eq-Decides t.params params).0 both_are.1;
    }

-- the bytes of a token of a query have it
pub query_told : (t : PageToken) (text params : List ℕ) → HasSpelling t
    → IsOfQuery t text params → has_query text params (token_bytes t) ≡ true
query_told t text params fit of_query =
    ap (is_query text params) (query_read t fit)
    ∙ (λ i. (bytes_eq-Decides t.text text).1 of_query.same_text i && (bytes_eq-Decides t.params params).1 of_query.same_params i)

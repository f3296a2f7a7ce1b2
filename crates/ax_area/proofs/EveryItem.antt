-- An item stands first in bytes, or none does.
use Rattle.std.proofs.Common.{◌≡◌, ◌⊎◌, inl, inr, ⊎_elim, ℕ, zero, suc, ◌-◌, ◌≤◌, ◌^◌, ◌==◌}
use Rattle.std.proofs.Common.{nat_lt, nat_le, arith, Bool, true, false, List, [], ◌∷◌, ◌++◌, length}
use Rattle.std.proofs.Common.{refl, sym, ap, ◌∙◌, length-append}
use Rattle.std.specs.Prelude.{◌&&◌, min}
use Rattle.std.specs.Str.{bytes_eq}
use Rattle.std.proofs.lemmas.Bool.{and_parts, and_from, ltb-true, lt-ltb, leb-true, le-leb}
use Rattle.std.proofs.lemmas.Bool.{eqb-true, eq-eqb, cases_Bool}
use Rattle.std.proofs.lemmas.Slice.Eq.{bytes_eq-Decides}
use Rattle.ax_frame.specs.Part.{PartValue, part_bytes, BeginsWithPart, NoPart}
use Rattle.ax_frame.specs.View.{first_part}
use Rattle.ax_frame.proofs.Parts.{first_part_again}
use Rattle.ax_area.specs.Items.{Item, IsPiece, missing_behind, piece_bytes}
use Rattle.ax_area.specs.ItemTexts.{HasPieces, BeginsWithItem, IsPiecedTo}
use Rattle.ax_area.proofs.Pieces.{not_begun, none_missing, none_first, other_first, one_piece_more}
use Rattle.ax_area.proofs.Pieces.{item_found, item_refused, no_item}

-- ---- parts

is_part : PartValue → List ℕ → List ℕ → Bool
is_part p rest bytes =
    nat_lt p.key (2 ^ 32) && (nat_le (length p.payload) 65536 && bytes_eq bytes
    (part_bytes p ++ rest))

part_is : (p : PartValue) (rest bytes : List ℕ) → is_part p rest bytes ≡ true
    → BeginsWithPart bytes p rest
unfolding is_part
part_is p rest bytes e =
    let one = and_parts (nat_lt p.key (2 ^ 32)) _ e in
    let two = and_parts (nat_le (length p.payload) 65536) _ one.1 in
    record {
      fit = record {
        key_fits = ltb-true p.key (2 ^ 32) one.0;
        payload_fits = leb-true
            (length p.payload) 65536 two.0;
      };
      spelled = (bytes_eq-Decides bytes (part_bytes p ++ rest)).0 two.1;
    }

is_begun : (p : PartValue) (rest bytes : List ℕ) → BeginsWithPart bytes p rest
    → is_part p rest bytes ≡ true
unfolding is_part
is_begun p rest bytes is =
    and_from _ _ (lt-ltb p.key (2 ^ 32) is.fit.key_fits)
    (and_from _ _ (le-leb (length p.payload) 65536 is.fit.payload_fits)
    ((bytes_eq-Decides bytes (part_bytes p ++ rest)).1 is.spelled))

no_part : (bytes : List ℕ) → is_part (first_part bytes).0 (first_part bytes).1 bytes ≡ false
    → NoPart bytes
no_part bytes e p rest is =
    let same : first_part bytes ≡ (p, rest) = ap first_part is.spelled
    ∙ first_part_again p rest is.fit in
    let tests : is_part (first_part bytes).0 (first_part bytes).1 bytes
    ≡ is_part p rest bytes = ap (λ (f : PartValue × List ℕ). is_part f.0 f.1 bytes) same in
    cc (sym e ∙ tests ∙ is_begun p rest bytes is)

pub part_or_none : (bytes : List ℕ) → ((p : PartValue) × (rest : List ℕ)
    × BeginsWithPart bytes p rest) ⊎ NoPart bytes
part_or_none bytes =
    ⊎_elim
    (λ (e : is_part (first_part bytes).0 (first_part bytes).1 bytes ≡ true).
    let it : ((p : PartValue) × (rest : List ℕ) × BeginsWithPart bytes p rest)
    ⊎ NoPart bytes =
    inl ((first_part bytes).0, (first_part bytes).1, part_is _ _ bytes e) in it)
    (λ (e : is_part (first_part bytes).0 (first_part bytes).1 bytes ≡ false).
    let it : ((p : PartValue) × (rest : List ℕ) × BeginsWithPart bytes p rest)
    ⊎ NoPart bytes = inr (no_part bytes e) in it)
    (cases_Bool (is_part (first_part bytes).0 (first_part bytes).1 bytes))

-- ---- pieces

is_piece : ℕ → ℕ → PartValue → Bool
is_piece key missing p =
    nat_lt 0 missing && (p.kind == 10 && (p.key == key
    && length p.payload == min piece_bytes missing))

piece_is : (key missing : ℕ) (p : PartValue) → is_piece key missing p ≡ true → IsPiece key missing p
unfolding is_piece
piece_is key missing p e =
    let one = and_parts (nat_lt 0 missing) _ e in
    let two = and_parts (p.kind == 10) _ one.1 in
    let three = and_parts (p.key == key) _ two.1 in
    record {
      due = ltb-true 0 missing one.0;
      kind = eqb-true p.kind 10 two.0;
      key_is = eqb-true p.key key three.0;
      length_is = eqb-true (length p.payload)
          (min piece_bytes missing) three.1;
    }

is_pieced : (key missing : ℕ) (p : PartValue) → IsPiece key missing p → is_piece key missing p
    ≡ true
unfolding is_piece
is_pieced key missing p is =
    and_from _ _ (lt-ltb 0 missing is.due)
    (and_from _ _ (eq-eqb p.kind 10 is.kind) (and_from _ _ (eq-eqb p.key key is.key_is)
    (eq-eqb (length p.payload) (min piece_bytes missing) is.length_is)))

abbrev PiecesOrNone : List ℕ → ℕ → ℕ → Type 0
PiecesOrNone bytes key missing =
    ((rest : List ℕ) × HasPieces bytes key missing rest)
    ⊎ ((rest : List ℕ) → HasPieces bytes key missing rest → ⊥)

behind_one : (bytes behind : List ℕ) (key missing : ℕ)
    → IsPiecedTo bytes key missing behind (missing - piece_bytes)
    → PiecesOrNone behind key (missing - piece_bytes) → PiecesOrNone bytes key missing
behind_one bytes behind key missing to (inl has) = inl (has.0, to.on has.0 has.1)
behind_one bytes behind key missing to (inr none) = inr (λ rest has. none rest (to.back rest has))

pieces_within : (most : ℕ) (bytes : List ℕ) (key missing : ℕ) → length bytes ≤ most
    → PiecesOrNone bytes key missing
pieces_within zero [] key zero le = inl ([], none_missing key [] 0 refl)
pieces_within zero [] key (suc n) le =
    inr (λ rest has. none_first key [] (suc n) rest (omega arith)
    (λ p follows is. absurd (empty_part p follows is)) has)
  where
    empty_part : (p : PartValue) (follows : List ℕ) → BeginsWithPart [] p follows → ⊥
    empty_part p follows is = absurd (omega (arith, ap length is.spelled))
pieces_within zero (b ∷ bytes) key missing le = absurd (omega arith)
pieces_within (suc most) bytes key zero le = inl (bytes, none_missing key bytes 0 refl)
pieces_within (suc most) bytes key (suc n) le =
    ⊎_elim
    (λ (first : (p : PartValue) × (rest : List ℕ) × BeginsWithPart bytes p rest).
    ⊎_elim
    (λ (e : is_piece key (suc n) first.0 ≡ true).
    behind_one bytes first.1 key (suc n)
    (one_piece_more key bytes (suc n) first.0 first.1 first.2 (omega arith) bytes (suc n)
    (piece_is key (suc n) first.0 e) (not_begun bytes key (suc n)))
    (pieces_within most first.1 key (suc n - piece_bytes)
    (omega (arith, ap length first.2.spelled, length-append (part_bytes first.0) first.1))))
    (λ (e : is_piece key (suc n) first.0 ≡ false).
    let it : PiecesOrNone bytes key (suc n) =
    inr (λ rest has. other_first key bytes (suc n) first.0 first.1 first.2 (omega arith) rest
    (λ is. cc (sym e ∙ is_pieced key (suc n) first.0 is)) has) in it)
    (cases_Bool (is_piece key (suc n) first.0)))
    (λ (none : NoPart bytes). let it : PiecesOrNone bytes key (suc n) = inr
    (λ rest has. none_first key bytes (suc n) rest (omega arith) none has) in it)
    (part_or_none bytes)

-- ---- items

abbrev pub ItemOrNone : List ℕ → Type 0
ItemOrNone bytes =
    ((item : Item) × (rest : List ℕ) × BeginsWithItem bytes item rest)
    ⊎ ((item : Item) (rest : List ℕ) → BeginsWithItem bytes item rest → ⊥)

with_pieces : (bytes behind : List ℕ) (first : PartValue) → BeginsWithPart bytes first behind
    → PiecesOrNone behind first.key (missing_behind first) → ItemOrNone bytes
with_pieces bytes behind first begins (inl has) =
    let found = item_found bytes behind _ has.0 first begins has.1 has.1.spelled in
    inl (found.0, has.0, found.3)
with_pieces bytes behind first begins (inr none) = inr (item_refused bytes behind first begins none)

pub item_or_none : (bytes : List ℕ) → ItemOrNone bytes
item_or_none bytes =
    ⊎_elim
    (λ (first : (p : PartValue) × (rest : List ℕ) × BeginsWithPart bytes p rest).
    with_pieces bytes first.1 first.0 first.2
    (pieces_within (length first.1) first.1 first.0.key (missing_behind first.0) (omega arith)))
    (λ (none : NoPart bytes). let it : ItemOrNone bytes = inr (no_item bytes none) in it)
    (part_or_none bytes)

-- Where items stand in an area, and what stands at the places of their parts.
use Rattle.std.proofs.Common.{◌≡◌, ℕ, ◌+◌, ◌-◌, ◌==◌, nat_le, arith, Bool, true}
use Rattle.std.proofs.Common.{false, List, [], ◌∷◌, ◌++◌, map, Option, length, take, drop, refl}
use Rattle.std.proofs.Common.{sym, ap, subst, ◌∙◌, length-append}
use Rattle.std.specs.Prelude.{Some, None, find, ◌&&◌, if◌then◌else◌, option_and_then}
use Rattle.std.specs.List.{flat_map, AllByRecursion}
use Rattle.std.proofs.lemmas.List.{append_assoc, append-nil, take_at}
use Rattle.std.proofs.Math.Seq.{drop-append-add}
use Rattle.std.proofs.lemmas.Bool.{eqb-true}
use Rattle.ax_frame.specs.Part.{PartValue, part_bytes, parts_bytes}
use Rattle.ax_frame.specs.LogFrame.{open_head, open_frame}
use Rattle.ax_pages.specs.Area.{frames_bytes}
use Rattle.ax_area.specs.declared.kind.Kind.{Kind}
use Rattle.ax_area.specs.Kinds.{Row, kinds, known_in, kind_in}
use Rattle.ax_area.specs.declared.kind.Kind.TheVariants as kind
use Rattle.ax_area.specs.Items.{Item, IsItem, ArePieces, item_bytes}
use Rattle.ax_area.specs.Items.{number_at, first_bytes, piece_bytes}
use Rattle.ax_area.specs.Changes.{Change, change_by, change_of}
use Rattle.ax_area.specs.Changes as change
use Rattle.ax_area.specs.Places.{Place, places_from}
use Rattle.ax_area.specs.Placed.{payload_at, text_at}
use Rattle.ax_area.specs.Told.{Told, told_bytes, AreTold, TellOn}
use Rattle.ax_area.proofs.OneTelling.{same_some, some_or_none}

-- the item stands where it is said
pub record IsStanding (area : List ℕ) (t : Told) : Type 0 where
  pub before : List ℕ
  pub after : List ℕ
  pub place : t.at ≡ length before
  pub spelled : area ≡ before ++ (item_bytes t.item ++ after)

pub all_joined : {A : Type 0} (P : A → Type 0) (xs ys : List A) → AllByRecursion P xs
    → AllByRecursion P ys → AllByRecursion P (xs ++ ys)
all_joined P [] ys all others = others
all_joined P (x ∷ xs) ys all others = (all.0, all_joined P xs ys all.1 others)

pub stand_in : (version at : ℕ) (told : List Told) (area before rest : List ℕ)
    → AreTold version at told → at ≡ length before → area ≡ before ++ (told_bytes told ++ rest)
    → AllByRecursion (IsStanding area) told
stand_in version at [] area before rest are place spelled = tt
stand_in version at (t ∷ told) area before rest are place spelled =
    let split : area ≡ before ++ (item_bytes t.item ++ (told_bytes told ++ rest)) =
    spelled ∙ ap (λ (bs : List ℕ). before ++ bs)
    (append_assoc (item_bytes t.item) (told_bytes told) rest) in (
      record {
        before = before;
        after = told_bytes told ++ rest;
        place = are.0.at_is
            ∙ place;
        spelled = split;
      },
      stand_in version (at + length (item_bytes t.item)) told area
          (before ++ item_bytes t.item) rest are.1
          (omega (arith, place, length-append before (item_bytes t.item)))
          (split ∙ sym (append_assoc before (item_bytes t.item) (told_bytes told ++ rest))),
    )

pub stand_on : (version : ℕ) (frames : List (List ℕ)) (at : ℕ) (told : List Told)
    (area before rest : List ℕ) → TellOn version frames at told → at ≡ length before
    → area ≡ before ++ (frames_bytes frames ++ rest) → AllByRecursion (IsStanding area) told
stand_on version [] at told area before rest tell place spelled =
    subst (AllByRecursion (IsStanding area)) (sym tell) tt
stand_on version (frame ∷ frames) at told area before rest
    (first, others, is, begins, more) place spelled =
    let head : List ℕ = open_head (length frame) in
    let behind : List ℕ = frames_bytes frames ++ rest in
    let split : area ≡ before ++ ((head ++ frame) ++ behind) =
    spelled ∙ ap (λ (bs : List ℕ). before ++ bs)
    (append_assoc (open_frame frame) (frames_bytes frames) rest) in
    let body : frame ≡ told_bytes first = begins.spelled ∙ append-nil (told_bytes first) in
    let inside : area ≡ (before ++ head) ++ (told_bytes first ++ behind) =
    split ∙ ap (λ (bs : List ℕ). before ++ bs) (append_assoc head frame behind)
    ∙ sym (append_assoc before head (frame ++ behind))
    ∙ ap (λ (bs : List ℕ). (before ++ head) ++ (bs ++ behind)) body in
    let past : area ≡ (before ++ (head ++ frame)) ++ (frames_bytes frames ++ rest) = split
    ∙ sym (append_assoc before (head ++ frame) behind) in
    subst (AllByRecursion (IsStanding area)) (sym is)
    (all_joined (IsStanding area) first others
    (stand_in version (at + 9) first area (before ++ head) behind begins.are
    (omega (arith, place, length-append before head)) inside)
    (stand_on version frames (at + 9 + length frame) others area
    (before ++ (head ++ frame)) rest more
    (omega (arith, place, length-append before (head ++ frame))) past))

-- ---- the payloads of parts that stand one behind another

part_payload : (p : PartValue) (area before rest : List ℕ) → area ≡ before ++ (part_bytes p ++ rest)
    → payload_at area (record { at = length before; kind = p.kind; len = length p.payload })
    ≡ p.payload
part_payload p area before rest spelled =
    ap (λ (bs : List ℕ). take (length p.payload) (drop (length before + 9) bs)) spelled
    ∙ ap (take (length p.payload)) (drop-append-add before (part_bytes p ++ rest) 9)
    ∙ take_at p.payload rest (length p.payload) refl

pub parts_placed : (parts : List PartValue) (at : ℕ) (area before rest : List ℕ) → at
    ≡ length before → area ≡ before ++ (parts_bytes parts ++ rest)
    → map (payload_at area) (places_from at parts) ≡ map (λ (p : PartValue). p.payload) parts
parts_placed [] at area before rest place spelled = refl
parts_placed (p ∷ parts) at area before rest place spelled =
    let whole : parts_bytes (p ∷ parts) ++ rest
    ≡ part_bytes p ++ (parts_bytes parts ++ rest) =
    append_assoc (part_bytes p) (parts_bytes parts) rest in
    let split : area ≡ before ++ (part_bytes p ++ (parts_bytes parts ++ rest)) = spelled
    ∙ ap (λ (bs : List ℕ). before ++ bs) whole in
    let first : payload_at area (record { at = at; kind = p.kind; len = length p.payload })
    ≡ p.payload =
    ap (λ n. payload_at area (record { at = n; kind = p.kind; len = length p.payload })) place
    ∙ part_payload p area before (parts_bytes parts ++ rest) split in
    let others = parts_placed parts (at + length (part_bytes p)) area (before ++ part_bytes p) rest
    (omega (arith, place, length-append before (part_bytes p)))
    (split ∙ sym (append_assoc before (part_bytes p) (parts_bytes parts ++ rest))) in
    ap (λ x. x ∷ map (payload_at area) (places_from (at + length (part_bytes p)) parts)) first
    ∙ ap (λ xs. p.payload ∷ xs) others

-- ---- the kind of a number

abbrev pub number_of : Kind → ℕ
number_of kind.PlainMeta = 1
number_of kind.Policy = 2
number_of kind.PlainDocument = 3
number_of kind.Gone = 4
number_of kind.Base = 5
number_of kind.Delta = 6
number_of kind.Document = 7
number_of kind.Meta = 8
number_of kind.LongDocument = 9
number_of kind.Piece = 10

numbers_so : AllByRecursion (λ (r : Row). number_of r.kind ≡ r.number) kinds
numbers_so = (refl, (refl, (refl, (refl, (refl, (refl, (refl, (refl, (refl, (refl, tt))))))))))

found_so : (rows : List Row) (number : ℕ) (found : Row)
    → AllByRecursion (λ (r : Row). number_of r.kind ≡ r.number) rows
    → find (λ r. r.number == number) rows ≡ Some found
    → number_of found.kind ≡ number
found_so [] number found all e = absurd (some_or_none found e)
found_so (row ∷ rows) number found all e =
    by_test (row.number == number) refl (found_so rows number found all.1) e
  where
    by_test : (b : Bool) → (row.number == number) ≡ b
        → (find (λ r. r.number == number) rows ≡ Some found → number_of found.kind ≡ number)
        → (if b then Some row else find (λ r. r.number == number) rows) ≡ Some found
        → number_of found.kind ≡ number
    by_test true same later is =
        ap (λ (r : Row). number_of r.kind) (sym (same_some row found is)) ∙ all.0
        ∙ eqb-true row.number number same
    by_test false other later is = later is

pub kind_number : (version number : ℕ) (k : Kind) → kind_in version number ≡ Some k → number_of k
    ≡ number
kind_number version number k is = by_row (find (λ r. r.number == number) kinds) refl is
  where
    by_row : (found : Option Row) → find (λ r. r.number == number) kinds ≡ found
        → option_and_then (known_in version) found ≡ Some k → number_of k ≡ number
    by_row None e is = absurd (some_or_none k is)
    by_row (Some row) e is =
        ap number_of (sym (by_since (nat_le row.since version) is))
        ∙ found_so kinds number row numbers_so e
      where
        by_since : (b : Bool) → (if b then Some row.kind else None) ≡ Some k → row.kind ≡ k
        by_since true is = same_some row.kind k is
        by_since false is = absurd (some_or_none k is)

no_pieces : (key : ℕ) (pieces : List PartValue) → ArePieces key 0 pieces → pieces ≡ []
no_pieces key [] are = refl
no_pieces key (piece ∷ pieces) are = absurd (omega (arith, are.0.due))

-- only behind a long document are there pieces
pub single_alone : (item : Item) → IsItem item → (item.first.kind == 9) ≡ false → item.pieces ≡ []
single_alone item is other =
    no_pieces item.first.key item.pieces (subst (λ n. ArePieces item.first.key n item.pieces)
    (ap (λ b. if b
    && length item.first.payload == piece_bytes
    then number_at 9 item.first.payload - first_bytes else 0) other) is.pieces)

-- ---- what is told stands there

-- what a change says is at the places
abbrev pub IsAt : List ℕ → Change → List Place → Type 0
IsAt area (change.Meta numbers) at = Unit {0}
IsAt area (change.Policy number text) at = flat_map (payload_at area) at ≡ text
IsAt area (change.Document number written) at = text_at area at ≡ written.text
IsAt area (change.Gone number) at = Unit {0}
IsAt area (change.Base page payload) at = map (payload_at area) at ≡ payload ∷ []
IsAt area (change.Delta page payload) at = map (payload_at area) at ≡ payload ∷ []

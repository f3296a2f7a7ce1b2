-- What is written says what it was to say.
use Rattle.std.proofs.Common.{◌≡◌, ℕ, zero, suc, arith, ◌+◌, ◌-◌, ◌<◌, ◌≤◌, ◌^◌, ◌==◌}
use Rattle.std.proofs.Common.{nat_le, Bool, true, false, List, [], ◌∷◌, ◌++◌, length, take, drop}
use Rattle.std.proofs.Common.{refl, sym, ap, subst, ◌∙◌}
use Rattle.std.specs.Prelude.{◌&&◌, Some, None, Option, if◌then◌else◌}
use Rattle.std.specs.List.{flat_map, AllByRecursion}
use Rattle.std.specs.Int.{w32, w64, to_le_bytes}
use Rattle.std.proofs.lemmas.Bool.{lt-ltb, le-leb, and_from, leb-true, leb-false, eq-eqb}
use Rattle.std.proofs.lemmas.List.{length-take, length-drop, length-take-le, take-append-drop}
use Rattle.std.proofs.lemmas.List.{append-nil}
use Rattle.std.proofs.lemmas.Nat.{from_le_bytes-to_le_bytes_4, from_le_bytes-to_le_bytes_8}
use Rattle.ax_frame.specs.Part.{PartValue, AllFit}
use Rattle.ax_area.specs.declared.kind.Kind.{Kind}
use Rattle.ax_area.specs.declared.kind.Kind.TheVariants as kind
use Rattle.ax_area.specs.Items.{Item, IsItem, ArePieces, single, item_bytes}
use Rattle.ax_area.specs.Items.{first_bytes, piece_bytes, number_at, long_number_at}
use Rattle.ax_area.specs.Changes.{Change, Written, Numbers, most_short, change_by, change_of}
use Rattle.ax_area.specs.Changes as change
use Rattle.ax_area.specs.Told.{told_bytes, changes_of, AreTold, Begins}
use Rattle.ax_area.specs.Writing.{part, numbers_bytes, pieces_within, pieces_of, front, long_item}
use Rattle.ax_area.specs.Writing.{document_item, item_of, IsVersion, IsNumber, CanSay, CanBeLong}
use Rattle.ax_area.specs.Writing.{CanHave, CanWrite, written_bytes, told_from}

-- ---- pieces

are_pieces : (most key : ℕ) (text : List ℕ) → length text ≤ most
    → ArePieces key (length text) (pieces_within most key text)
are_pieces zero key [] within = refl
are_pieces zero key (byte ∷ text) within = absurd (omega arith)
are_pieces (suc most) key [] within = refl
are_pieces (suc most) key (byte ∷ text) within =
    let all : List ℕ = byte ∷ text in
    let less : length (drop piece_bytes all)
    ≡ length all - piece_bytes = length-drop piece_bytes all in (
      record {
        due = omega arith;
        kind = refl;
        key_is = refl;
        length_is = length-take piece_bytes all;
      },
      subst (λ n. ArePieces key n (pieces_within most key (drop piece_bytes all))) less
          (are_pieces most key (drop piece_bytes all) (omega (arith, less))),
    )

pieces_text : (most key : ℕ) (text : List ℕ) → length text ≤ most
    → flat_map (λ (piece : PartValue). piece.payload) (pieces_within most key text) ≡ text
pieces_text zero key [] within = refl
pieces_text zero key (byte ∷ text) within = absurd (omega arith)
pieces_text (suc most) key [] within = refl
pieces_text (suc most) key (byte ∷ text) within =
    let all : List ℕ = byte ∷ text in
    ap (λ (more : List ℕ). take piece_bytes all ++ more)
    (pieces_text most key (drop piece_bytes all) (omega (arith, length-drop piece_bytes all)))
    ∙ take-append-drop piece_bytes all

short_front : (n : ℕ) (text : List ℕ) → length (take n text) ≤ n
short_front n text = omega (arith, length-take n text)

pieces_fit : (most key : ℕ) (text : List ℕ) → key < 2 ^ 32 → AllFit (pieces_within most key text)
pieces_fit zero key text fits = tt
pieces_fit (suc most) key [] fits = tt
pieces_fit (suc most) key (byte ∷ text) fits = (
  record { key_fits = fits; payload_fits = short_front piece_bytes (byte ∷ text) },
  pieces_fit most key (drop piece_bytes (byte ∷ text)) fits,
)

-- ---- what is said

module _ (area : ℕ) (first : 1 ≤ area) where
  abbrev Says : Change → Type 0
  Says change = IsItem (item_of change) × (change_of area (item_of change) ≡ Some change)

  said : (test : Bool) (is wanted : Change) → test ≡ true → is ≡ wanted
      → (if test then Some is else None) ≡ Some wanted
  said test is wanted good same = ap (λ b. if b then Some is else None) good ∙ ap Some same

  -- a part of a kind that the area's version has says what its kind says
  known : (since : ℕ) (kind : Kind) (p : PartValue) (pieces : List PartValue) → since ≤ area
      → change_by (if nat_le since area then Some kind else None) p pieces
      ≡ change_by (Some kind) p pieces
  known since kind p pieces h =
      ap (λ b. change_by (if b then Some kind else None) p pieces) (le-leb since area h)

  alone : (p : PartValue) → p.key < 2 ^ 32 → length p.payload ≤ 65536 → (p.kind == 9) ≡ false
      → IsItem (single p)
  alone p key short other = record {
    fit = (record { key_fits = key; payload_fits = short }, tt);
    pieces = ap (λ b. if b && length p.payload == piece_bytes
        then number_at 9 p.payload - first_bytes else 0) other;
  }

  says_meta : (next policy : ℕ) (version : Option ℕ) → IsNumber next → policy < 2 ^ 32
      → CanSay area version
      → Says (change.Meta (record { next = next; policy = policy; version = version }))
  says_meta next policy None number small can =
      let payload : List ℕ = numbers_bytes next policy in
      let next_is : number_at 0 payload ≡ next = from_le_bytes-to_le_bytes_4 next number.fits in
      let policy_is : number_at 4 payload ≡ policy = from_le_bytes-to_le_bytes_4 policy small in (
        alone (part 1 0 payload) (omega arith) (omega arith) refl,
        known 1 kind.PlainMeta (part 1 0 payload) [] first
            ∙ said _ _ _
            (and_from _ _ refl (lt-ltb 0 (number_at 0 payload)
            (omega (arith, number.some, next_is))))
            (λ i. change.Meta (record { next = next_is i; policy = policy_is i; version = None })),
      )
  says_meta next policy (Some v) number small can =
      let payload : List ℕ = numbers_bytes next policy ++ to_le_bytes w64 v in
      let next_is : number_at 0 payload ≡ next = from_le_bytes-to_le_bytes_4 next number.fits in
      let policy_is : number_at 4 payload ≡ policy = from_le_bytes-to_le_bytes_4 policy small in
      let version_is : long_number_at 8 payload ≡ v = from_le_bytes-to_le_bytes_8 v can.fits in (
        alone (part 8 0 payload) (omega arith) (omega arith) refl,
        known 2 kind.Meta (part 8 0 payload) [] can.known
            ∙ said _ _ _
            (and_from _ _
            (and_from _ _ refl (lt-ltb 0 (number_at 0 payload)
            (omega (arith, number.some, next_is))))
            (lt-ltb 0 (long_number_at 8 payload) (omega (arith, can.some, version_is))))
            (λ i. change.Meta
            (record { next = next_is i; policy = policy_is i; version = Some (version_is i) })),
      )

  abbrev SaysDocument : ℕ → ℕ → Option ℕ → List ℕ → Item → Type 0
  SaysDocument number policy version text item =
      IsItem item × (change_of area item
      ≡ Some (change.Document number (record { policy = policy; version = version; text = text })))

  says_plain : (n policy : ℕ) (text : List ℕ) → IsNumber n → length text < piece_bytes
      → SaysDocument n policy None text (single (part 3 n (policy ∷ text)))
  says_plain n policy text number short =
      let payload : List ℕ = policy ∷ text in (
        alone (part 3 n payload) number.fits (omega (arith, short)) refl,
        known 1 kind.PlainDocument (part 3 n payload) [] first
            ∙ said _ _ _
            (and_from _ _ (lt-ltb 0 n number.some) (lt-ltb 0 (length payload) (omega arith)))
            (λ i. change.Document n
            (record { policy = policy; version = None; text = append-nil text i })),
      )

  says_short : (n policy v : ℕ) (text : List ℕ) → IsNumber n → IsVersion area v
      → length text ≤ most_short
      → SaysDocument n policy (Some v) text (single (part 7 n (front policy v ++ text)))
  says_short n policy v text number is short =
      let payload : List ℕ = front policy v ++ text in
      let version_is : long_number_at 1 payload ≡ v = from_le_bytes-to_le_bytes_8 v is.fits in (
        alone (part 7 n payload) number.fits (omega (arith, short)) refl,
        known 2 kind.Document (part 7 n payload) [] is.known
            ∙ said _ _ _
            (and_from _ _
            (and_from _ _ (lt-ltb 0 n number.some) (le-leb 9 (length payload) (omega arith)))
            (lt-ltb 0 (long_number_at 1 payload) (omega (arith, is.some, version_is))))
            (λ i. change.Document n
            (record { policy = policy; version = Some (version_is i); text = append-nil text i })),
      )

  says_long : (n policy v : ℕ) (text : List ℕ) → IsNumber n → IsVersion area v
      → most_short < length text → CanBeLong area (length text)
      → SaysDocument n policy (Some v) text (long_item n policy v text)
  says_long n policy v text number is long can =
      let payload : List ℕ =
      front policy v ++ to_le_bytes w32 (length text) ++ take first_bytes text in
      let version_is : long_number_at 1 payload ≡ v = from_le_bytes-to_le_bytes_8 v is.fits in
      let length_is : number_at 9 payload ≡ length text =
      from_le_bytes-to_le_bytes_4 (length text) can.fits in
      let behind : List ℕ = drop first_bytes text in
      let whole : length payload ≡ piece_bytes =
      omega (arith, length-take-le first_bytes text (omega (arith, long))) in
      let full : (length payload == piece_bytes) ≡ true =
      eq-eqb (length payload) piece_bytes whole in
      let missing : length behind
      ≡ (if length payload == piece_bytes then number_at 9 payload - first_bytes else 0) =
      length-drop first_bytes text ∙ ap (λ m. m - first_bytes) (sym length_is)
      ∙ ap (λ b. if b then number_at 9 payload - first_bytes else 0) (sym full) in
      let text_is : take first_bytes text
      ++ flat_map (λ (piece : PartValue). piece.payload) (pieces_of n behind) ≡ text =
      ap (λ (more : List ℕ). take first_bytes text ++ more)
      (pieces_text (length behind) n behind (omega arith)) ∙ take-append-drop first_bytes text in (
        record {
          fit = (
            record { key_fits = number.fits; payload_fits = omega (arith, whole) },
            pieces_fit (length behind) n behind number.fits,
          );
          pieces = subst (λ m. ArePieces n m (pieces_of n behind)) missing
              (are_pieces (length behind) n behind (omega arith));
        },
        known 3 kind.LongDocument (part 9 n payload) (pieces_of n behind) (can.known long)
            ∙ said _ _ _
            (and_from _ _
            (and_from _ _
            (and_from _ _ (lt-ltb 0 n number.some) (eq-eqb (length payload) piece_bytes whole))
            (lt-ltb 0 (long_number_at 1 payload) (omega (arith, is.some, version_is))))
            (lt-ltb most_short (number_at 9 payload) (omega (arith, long, length_is))))
            (λ i. change.Document n
            (record { policy = policy; version = Some (version_is i); text = text_is i })),
      )

  says_document : (n policy : ℕ) (version : Option ℕ) (text : List ℕ) → IsNumber n
      → CanSay area version → CanHave area version (length text)
      → SaysDocument n policy version text (document_item n policy version text)
  says_document n policy None text number is can = says_plain n policy text number can
  says_document n policy (Some v) text number is can =
      by_test (nat_le (length text) most_short) refl
    where
      by_test : (b : Bool) → nat_le (length text) most_short ≡ b
          → SaysDocument n policy (Some v) text
          (if b then single (part 7 n (front policy v ++ text)) else long_item n policy v text)
      by_test true short =
          says_short n policy v text number is (leb-true (length text) most_short short)
      by_test false long =
          says_long n policy v text number is (leb-false (length text) most_short long) can

  pub change_says : (change : Change) → CanWrite area change → Says change
  change_says (change.Meta numbers) can =
      says_meta numbers.next numbers.policy numbers.version can.0 can.1 can.2
  change_says (change.Policy number text) can = (
    alone (part 2 number text) (omega (arith, can.0)) can.1 refl,
    known 1 kind.Policy (part 2 number text) [] first
        ∙ said _ _ _ (le-leb number 8 can.0) refl,
  )
  change_says (change.Document number written) can =
      says_document number written.policy written.version written.text can.0 can.1 can.2
  change_says (change.Gone number) can = (
    alone (part 4 number []) can.fits (omega arith) refl,
    known 1 kind.Gone (part 4 number []) [] first
        ∙ said _ _ _ (and_from _ _ (lt-ltb 0 number can.some) refl) refl,
  )
  change_says (change.Base page payload) can = (
    alone (part 5 page payload) can.0 can.1 refl,
    known 1 kind.Base (part 5 page payload) [] first ∙ said _ _ _ can.2 refl,
  )
  change_says (change.Delta page payload) can = (
    alone (part 6 page payload) can.0 can.1 refl,
    known 1 kind.Delta (part 6 page payload) [] first,
  )

  -- ---- one behind another

  tells : (at : ℕ) (changes : List Change) → AllByRecursion (CanWrite area) changes
      → AreTold area at (told_from at changes)
  tells at [] all = tt
  tells at (change ∷ changes) all =
      let is = change_says change all.0 in (
        record { at_is = refl; item = is.0; says = is.1 },
        tells (at + length (item_bytes (item_of change))) changes all.1,
      )

same_bytes : (at : ℕ) (changes : List Change)
    → written_bytes changes ≡ told_bytes (told_from at changes)
same_bytes at [] = refl
same_bytes at (change ∷ changes) =
    ap (λ (more : List ℕ). item_bytes (item_of change) ++ more)
    (same_bytes (at + length (item_bytes (item_of change))) changes)

pub same_changes : (at : ℕ) (changes : List Change) → changes_of (told_from at changes) ≡ changes
same_changes at [] = refl
same_changes at (change ∷ changes) =
    ap (λ (more : List Change). change ∷ more)
    (same_changes (at + length (item_bytes (item_of change))) changes)

pub written_tells : (area at : ℕ) (changes : List Change) → 1 ≤ area
    → AllByRecursion (CanWrite area) changes
    → Begins area (written_bytes changes) at (told_from at changes) []
written_tells area at changes first all = record {
  are = tells area first at changes all;
  spelled = same_bytes at changes ∙ sym (append-nil (told_bytes (told_from at changes)));
}

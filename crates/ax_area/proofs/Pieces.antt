-- Pieces are read one after another.
use Rattle.std.proofs.Common.{◌≡◌, ℕ, ◌-◌, ◌<◌, arith, List, [], ◌∷◌, ◌++◌, length}
use Rattle.std.proofs.Common.{length-append, take, drop, refl, sym, ap, subst, ◌∙◌}
use Rattle.std.proofs.lemmas.List.{append_assoc, append_cancel_right, drop_at, take-append-drop}
use Rattle.ax_frame.specs.Part.{PartValue, part_bytes, parts_bytes, BeginsWithPart, NoPart, AllFit}
use Rattle.ax_frame.proofs.Parts.{one_part}
use Rattle.ax_area.specs.Items.{Item, IsPiece, ArePieces, piece_bytes, missing_behind}
use Rattle.ax_area.specs.ItemTexts.{HasPieces, BeginsWithItem, IsPiecedTo}

pub not_begun : (bytes : List ℕ) (key missing : ℕ) → IsPiecedTo bytes key missing bytes missing
not_begun bytes key missing = record { on = λ follows has. has; back = λ follows has. has }

module _ (key : ℕ) (rest : List ℕ) (left : ℕ) where
  -- nothing is missing
  pub none_missing : left ≡ 0 → HasPieces rest key left rest
  none_missing none = record { pieces = []; fit = tt; are = none; spelled = refl }

  -- where something is missing, a part stands first, and it is a piece
  record FirstPiece (follows : List ℕ) : Type 0 where
    piece : PartValue
    behind : List ℕ
    begins : BeginsWithPart rest piece behind
    is : IsPiece key left piece
    more : HasPieces behind key (left - piece_bytes) follows

  first_piece_of : (pieces : List PartValue) (follows : List ℕ) → 0 < left → AllFit pieces
      → ArePieces key left pieces → rest ≡ parts_bytes pieces ++ follows → FirstPiece follows
  first_piece_of [] follows some fit are spelled = absurd (omega (arith, some, are))
  first_piece_of (p ∷ ps) follows some fit are spelled = record {
    piece = p;
    behind = parts_bytes ps ++ follows;
    begins = record {
      fit = fit.0;
      spelled = spelled
          ∙ append_assoc (part_bytes p) (parts_bytes ps) follows;
    };
    is = are.0;
    more = record { pieces = ps; fit = fit.1; are = are.1; spelled = refl };
  }

  first_piece : (follows : List ℕ) → 0 < left → HasPieces rest key left follows → FirstPiece follows
  first_piece follows some has = first_piece_of has.pieces follows some has.fit has.are has.spelled

  pub none_first : (follows : List ℕ) → 0 < left → NoPart rest → HasPieces rest key left follows → ⊥
  none_first follows some none has =
      let first = first_piece follows some has in none first.piece first.behind first.begins

  module _ (part : PartValue) (behind : List ℕ) (begins : BeginsWithPart rest part behind)
      (some : 0 < left) where
    same_first : (follows : List ℕ) (has : HasPieces rest key left follows)
        → (part ≡ (first_piece follows some has).piece)
        × (behind ≡ (first_piece follows some has).behind)
    same_first follows has =
        let first = first_piece follows some has in
        one_part part first.piece behind first.behind begins.fit first.begins.fit
        (sym begins.spelled ∙ first.begins.spelled)

    pub other_first : (follows : List ℕ) → (IsPiece key left part → ⊥)
        → HasPieces rest key left follows → ⊥
    other_first follows other has =
        other (subst (IsPiece key left) (sym (same_first follows has).0)
        (first_piece follows some has).is)

    pub one_piece_more : (bytes : List ℕ) (missing : ℕ) → IsPiece key left part
        → IsPiecedTo bytes key missing rest left
        → IsPiecedTo bytes key missing behind (left - piece_bytes)
    one_piece_more bytes missing is to = record {
      on = λ follows has. to.on follows (record {
        pieces = part ∷ has.pieces;
        fit = (begins.fit, has.fit);
        are = (is, has.are);
        spelled = begins.spelled ∙ ap (λ more. part_bytes part ++ more) has.spelled
            ∙ sym (append_assoc (part_bytes part) (parts_bytes has.pieces) follows);
      });
      back = λ follows has.
          let there = to.back follows has in
          subst (λ b. HasPieces b key (left - piece_bytes) follows)
          (sym (same_first follows there).1) (first_piece follows some there).more;
    }

-- ---- an item

pub item_found : (bytes behind pieces rest : List ℕ) (first : PartValue)
    → BeginsWithPart bytes first behind → HasPieces behind first.key (missing_behind first) rest
    → behind ≡ pieces ++ rest
    → (item : Item) × (first ≡ item.first) × (pieces ≡ parts_bytes item.pieces)
    × BeginsWithItem bytes item rest
item_found bytes behind pieces rest first begins has split = (
  record { first = first; pieces = has.pieces },
  refl,
  append_cancel_right pieces (parts_bytes has.pieces) rest (sym split ∙ has.spelled),
  record {
    is = record { fit = (begins.fit, has.fit); pieces = has.are };
    spelled = begins.spelled ∙ ap (λ more. part_bytes first ++ more) has.spelled
        ∙ sym (append_assoc (part_bytes first) (parts_bytes has.pieces) rest);
  },
)

pub item_refused : (bytes behind : List ℕ) (first : PartValue) → BeginsWithPart bytes first behind
    → ((rest : List ℕ) → HasPieces behind first.key (missing_behind first) rest → ⊥)
    → (item : Item) (rest : List ℕ) → BeginsWithItem bytes item rest → ⊥
item_refused bytes behind first begins none item rest is =
    let one = one_part first item.first behind
    (parts_bytes item.pieces ++ rest) begins.fit is.is.fit.0
    (sym begins.spelled ∙ is.spelled ∙ append_assoc (part_bytes item.first)
    (parts_bytes item.pieces) rest) in
    none rest (record {
      pieces = item.pieces;
      fit = is.is.fit.1;
      are = subst (λ (p : PartValue). ArePieces p.key (missing_behind p) item.pieces)
          (sym one.0) is.is.pieces;
      spelled = one.1;
    })

pub no_item : (bytes : List ℕ) → NoPart bytes → (item : Item) (rest : List ℕ)
    → BeginsWithItem bytes item rest → ⊥
no_item bytes none item rest is =
    none item.first (parts_bytes item.pieces ++ rest)
    (record {
      fit = is.is.fit.0;
      spelled = is.spelled
          ∙ append_assoc (part_bytes item.first) (parts_bytes item.pieces) rest;
    })

pub rest_is : (behind front rest : List ℕ) → behind ≡ front ++ rest
    → drop (length behind - length rest) behind ≡ rest
rest_is behind front rest e =
    let long : length behind - length rest ≡ length front = omega
    (arith, ap length e, length-append front rest) in
    ap (λ n. drop n behind) long ∙ ap (drop (length front)) e
    ∙ drop_at front rest (length front) refl

pub whole_is : (behind front rest : List ℕ) (n : ℕ) → front ≡ take n behind → rest ≡ drop n behind
    → behind ≡ front ++ rest
whole_is behind front rest n f r =
    sym (take-append-drop n behind) ∙ ap (λ x. x ++ drop n behind) (sym f)
    ∙ ap (λ x. front ++ x) (sym r)

-- One spelling for each item, and one place where items are refused.
use Rattle.std.proofs.Common.{◌≡◌, ℕ, ◌-◌, List, [], ◌∷◌, ◌++◌, refl, sym, ap, subst}
use Rattle.std.proofs.Common.{◌∙◌, arith}
use Rattle.std.proofs.lemmas.List.{append_assoc}
use Rattle.ax_frame.specs.Part.{PartValue, AllFit, part_bytes, parts_bytes}
use Rattle.ax_frame.proofs.Parts.{one_part}
use Rattle.ax_area.specs.Items.{Item, IsItem, ArePieces, item_bytes, missing_behind, piece_bytes}

one_pieces : (key missing : ℕ) (ps qs : List PartValue) (x y : List ℕ) → AllFit ps → AllFit qs
    → ArePieces key missing ps → ArePieces key missing qs
    → parts_bytes ps ++ x ≡ parts_bytes qs ++ y → (ps ≡ qs) × (x ≡ y)
one_pieces key missing [] [] x y fp fq ip iq e = (refl, e)
one_pieces key missing [] (q ∷ qs) x y fp fq ip iq e = absurd (omega (arith, ip, iq.0.due))
one_pieces key missing (p ∷ ps) [] x y fp fq ip iq e = absurd (omega (arith, iq, ip.0.due))
one_pieces key missing (p ∷ ps) (q ∷ qs) x y fp fq ip iq e =
    let first = one_part p q (parts_bytes ps ++ x) (parts_bytes qs ++ y) fp.0 fq.0
    (sym (append_assoc (part_bytes p) (parts_bytes ps) x) ∙ e
    ∙ append_assoc (part_bytes q) (parts_bytes qs) y) in
    let later = one_pieces key (missing - piece_bytes) ps qs x y fp.1 fq.1 ip.1 iq.1 first.1 in
    (ap (λ (r : PartValue). r ∷ ps) first.0 ∙ ap (λ (rs : List PartValue). q ∷ rs) later.0, later.1)

-- two items with which the same bytes begin are the same, and so is what follows
pub one_item : (i j : Item) (x y : List ℕ) → IsItem i → IsItem j → item_bytes i ++ x
    ≡ item_bytes j ++ y → (i ≡ j) × (x ≡ y)
one_item i j x y ii ij e =
    let first = one_part i.first j.first (parts_bytes i.pieces ++ x)
    (parts_bytes j.pieces ++ y) ii.fit.0 ij.fit.0
    (sym (append_assoc (part_bytes i.first) (parts_bytes i.pieces) x) ∙ e
    ∙ append_assoc (part_bytes j.first) (parts_bytes j.pieces) y) in
    let same : ArePieces i.first.key (missing_behind i.first) j.pieces =
    subst (λ (p : PartValue). ArePieces p.key (missing_behind p) j.pieces)
    (sym first.0) ij.pieces in
    let later = one_pieces i.first.key
    (missing_behind i.first) i.pieces j.pieces x y ii.fit.1 ij.fit.1 ii.pieces same first.1 in
    (λ k. record { first = first.0 k; pieces = later.0 k }, later.1)

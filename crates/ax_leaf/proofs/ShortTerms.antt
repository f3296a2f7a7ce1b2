-- The parts of a term that is written after another, with which bytes begin.
use Rattle.std.proofs.Common.{◌≡◌, ℕ, ◌<◌, List, ◌++◌, length, take, drop, arith, ap, ◌∙◌, sym}
use Rattle.std.proofs.lemmas.List.{append_assoc, length-append, take_at, drop_at, take-append-drop}
use Rattle.ax_gap.specs.Varint.{varint}
use Rattle.ax_leaf.specs.ShortTerm.{short_term}

-- a spelling, part by part
pub three : (a b c d : List ℕ) → a ++ b ++ c ++ d ≡ a ++ (b ++ (c ++ d))
three a b c d = append_assoc (a ++ b) c d ∙ append_assoc a b (c ++ d)

pub short_parts : (bytes : List ℕ) (shared : ℕ) (part rest : List ℕ) → bytes ≡ short_term shared part ++ rest
    → bytes ≡ varint shared ++ (varint (length part) ++ (part ++ rest))
unfolding short_term
short_parts bytes shared part rest e = e ∙ three (varint shared) (varint (length part)) part rest

-- the bytes that were taken are the part, and those left are the rest
pub record IsPart (part rest front back : List ℕ) : Type 0 where
  pub taken : front ≡ part
  pub left : back ≡ rest

pub part_taken : (bytes part rest front back : List ℕ) (size : ℕ) → bytes ≡ part ++ rest → size ≡ length part
    → front ≡ take size bytes → back ≡ drop size bytes → IsPart part rest front back
part_taken bytes part rest front back size e s f g = record {
  taken = f ∙ ap (take size) e ∙ take_at part rest size (sym s);
  left = g ∙ ap (drop size) e ∙ drop_at part rest size (sym s);
}

pub part_fits : (bytes part rest : List ℕ) (size : ℕ) → bytes ≡ part ++ rest → size ≡ length part → length bytes < size → ⊥
part_fits bytes part rest size e s h = omega (arith, ap length e, length-append part rest)

-- the spelling from what was split off
pub short_from : (bytes after behind part rest : List ℕ) (shared size : ℕ) → bytes ≡ varint shared ++ after → after ≡ varint size ++ behind
    → part ≡ take size behind → rest ≡ drop size behind → length part ≡ size
    → bytes ≡ short_term shared part ++ rest
unfolding short_term
short_from bytes after behind part rest shared size e f p r s =
    let whole : part ++ rest ≡ behind = ap (λ bs. bs ++ rest) p ∙ ap (λ bs. take size behind ++ bs) r ∙ take-append-drop size behind in
    e ∙ ap (λ bs. varint shared ++ bs) f
    ∙ ap (λ bs. varint shared ++ (varint size ++ bs)) (sym whole)
    ∙ ap (λ (n : ℕ). varint shared ++ (varint n ++ (part ++ rest))) (sym s)
    ∙ sym (three (varint shared) (varint (length part)) part rest)

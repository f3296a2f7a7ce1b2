-- A document that a store can hold breaks no limit, and one that breaks none can be held.
use Rattle.std.proofs.Common.{◌≡◌, Bool, true, false, not, ◌||◌, refl, ap, ap₂, true≢false, length}
use Rattle.std.proofs.lemmas.Bool.{le-ltb, ltb-false}
use Rattle.ax_tree.specs.declared.tree.Tree.{Tree}
use Rattle.ax_tree.specs.CanonicalText.{canonical_text}
use Rattle.ax_tree.specs.Nesting.{nesting}
use Rattle.ax_tree.specs.WellFormed.{IsWellFormed}
use Rattle.ax_storable.specs.IndexLimits.{fits_index}
use Rattle.ax_storable.specs.ShortNames.{has_short_names}
use Rattle.ax_storable.specs.Storable.{deepest, has_no_id, is_too_large, most_bytes, IsStorable}

pub with_id : (tree : Tree) → IsStorable tree → has_no_id tree ≡ false
with_id tree storable = ap not storable.document

pub not_too_large : (tree : Tree) → IsStorable tree → is_too_large tree ≡ false
not_too_large tree storable =
    ap₂ (λ a b. a || b) (le-ltb deepest (nesting tree) storable.shallow)
    (ap₂ (λ a b. not a || b) storable.named
    (ap₂ (λ a b. a || not b) (le-ltb most_bytes (length (canonical_text tree)) storable.small) storable.fits))

neither : (a b : Bool) → (a || b) ≡ false → (a ≡ false) × (b ≡ false)
neither true b is = absurd (true≢false is)
neither false b is = (refl, is)

is_so : (b : Bool) → not b ≡ false → b ≡ true
is_so true is = refl
is_so false is = absurd (true≢false is)

pub within_limits : (tree : Tree) → IsWellFormed tree → has_no_id tree ≡ false → is_too_large tree ≡ false → IsStorable tree
within_limits tree formed id small =
    let depth = neither _ _ small in
    let names = neither _ _ depth.1 in
    let size = neither _ _ names.1 in
    record {
      document = is_so _ id;
      well_formed = formed;
      shallow = ltb-false deepest (nesting tree) depth.0;
      named = is_so (has_short_names tree) names.0;
      small = ltb-false most_bytes (length (canonical_text tree)) size.0;
      fits = is_so (fits_index tree) size.1;
    }

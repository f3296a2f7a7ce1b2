-- A text that is not read as a document is that of none.
use Rattle.std.proofs.Common.{◌≡◌, ◌≢◌, ℕ, List, true, false, refl, sym, subst, ◌∙◌, true≢false}
use Rattle.ax_tree.specs.declared.tree.Tree.{Tree}
use Rattle.ax_tree.specs.CanonicalText.{canonical_text}
use Rattle.ax_tree.specs.WellFormed.{IsWellFormed}
use Rattle.ax_tree.proofs.OneText.{one_text}
use Rattle.ax_tree.proofs.Fitting.{numbers_fit-well_formed}
use Rattle.ax_storable.specs.Storable.{has_no_id, is_too_large, IsStorable}
use Rattle.ax_storable.specs.StoredTexts.{IsStoredText}
use Rattle.ax_storable.specs.declared.limits.Unstorable.{Unstorable}
use Rattle.ax_storable.specs.declared.limits.Unstorable.TheVariants as why
use Rattle.ax_storable.proofs.Within.{with_id, not_too_large}

-- a fault that is told of a tree tells that no store can hold it
pub not_storable : (given : Tree) (fault : Unstorable) → fault ≢ why.Memory
    → (fault ≡ why.Id → has_no_id given ≡ true) → (fault ≡ why.Large → (has_no_id given ≡ false) × (is_too_large given ≡ true))
    → IsStorable given → ⊥
not_storable given why.Id told id large storable = true≢false (sym (id refl) ∙ with_id given storable)
not_storable given why.Large told id large storable = true≢false (sym (large refl).1 ∙ not_too_large given storable)
not_storable given why.Memory told id large storable = absurd (told refl)

-- a tree of this text that is refused is none that a store can hold
pub not_stored : (text : List ℕ) (given : Tree) → IsWellFormed given → text ≡ canonical_text given
    → (IsStorable given → ⊥) → (tree : Tree) → IsStoredText text tree → ⊥
not_stored text given fine spelled not tree stored =
    let same : given ≡ tree = one_text given tree (numbers_fit-well_formed given fine) (numbers_fit-well_formed tree stored.storable.well_formed)
    (sym spelled ∙ stored.spelled) in
    not (subst IsStorable (sym same) stored.storable)

-- An image in the grammar is outside it nowhere.
use Rattle.std.proofs.Common.{◌≡◌, ℕ, zero, suc, arith, List, [], ◌∷◌, inl, inr}
use Rattle.std.proofs.Common.{sym, subst}
use Rattle.std.specs.List.{AllByRecursion, Contains}
use Rattle.ax_disk.specs.declared.extent.Extent.{Extent}
use Rattle.ax_disk.specs.model.Image.{Image}
use Rattle.ax_area.specs.Contents.{Contents}
use Rattle.ax_area.specs.Told.{Told}
use Rattle.ax_area.proofs.OneOutcome.{one_told, one_contents, says_not_damaged}
use Rattle.ax_image_grammar.specs.Payloads.{IsReadable}
use Rattle.ax_image_grammar.specs.Table.{AreApart}
use Rattle.ax_image_grammar.specs.Grammar.{AreReadable, IsGrammatical, IsOutside}

one_of : (P : Told → Type 0) (told : List Told) (t : Told) → AllByRecursion P told → Contains told t
    → P t
one_of P [] t all (k, within, is) = absurd (omega arith)
one_of P (s ∷ told) t all (zero, within, is) = subst P is all.0
one_of P (s ∷ told) t all (suc k, within, is) = one_of P told t all.1 (k, omega arith, is)

of_told : (newest : ℕ) (told : List Told) → AreReadable newest told
    → AllByRecursion (λ t. IsReadable newest t.change) told
of_told newest [] all = tt
of_told newest (t ∷ told) all = (all.0, of_told newest told all.1)

pub not_in_and_outside : (newest : ℕ) (version : ℕ) (told : List Told) (contents : Contents)
    (area : Extent) (at : ℕ) (image : Image)
    → IsGrammatical newest version told contents image → IsOutside newest area at image → ⊥
not_in_and_outside newest version told contents area at image is (inl damaged) =
    says_not_damaged newest image version told contents area at is.says damaged
not_in_and_outside newest version told contents area at image is (inr (inl bad)) =
    let same : bad.told
    ≡ told = one_told newest image bad.version version bad.told told bad.contents contents
    (inr bad.live) is.says in
    bad.bad (one_of (λ t. IsReadable newest t.change) told bad.one (of_told newest told is.readable)
    (subst (λ all. Contains all bad.one) same bad.is_told))
not_in_and_outside newest version told contents area at image is (inr (inr twins)) =
    let same : twins.contents
    ≡ contents = one_contents newest image twins.version version twins.told told twins.contents
    contents (inr twins.live) is.says in
    twins.two (subst AreApart
    (sym same) is.apart twins.a twins.b twins.taken twins.taken_too twins.same)

-- Documents that agree number by number are one map, are listed alike, and are as many.
use Rattle.std.proofs.Common.{◌≡◌, ℕ, suc, true, false, List, [], ◌∷◌, length, map, refl}
use Rattle.std.proofs.Common.{sym, ap, subst, ◌∙◌}
use Rattle.std.specs.Prelude.{Some, T, ◌&&◌, if◌then◌else◌}
use Rattle.std.specs.Option.{option_map}
use Rattle.std.specs.Ordering.{nat_cmp, eq_by_cmp, is_lt}
use Rattle.std.specs.Cmp.{nat_cmp_total}
use Rattle.std.specs.FinMap as finite
use Rattle.std.specs.FinMap.{find, is_sorted}
use Rattle.std.specs.FinMap.Entries.{below_all}
use Rattle.ax_pages.specs.Contents.{Numbered}
use Rattle.ax_pages.proofs.LastPart.{tie}
use Rattle.ax_area.specs.Contents.{Stored}
use Rattle.ax_area_laws.specs.Agree.{shown_by, with_document}
use Rattle.ax_area_laws.specs.Risen.{risen_documents}

below_same : (x : ℕ) (pages : List (ℕ × List ℕ))
    → below_all nat_cmp x (map with_document pages) ≡ below_all nat_cmp x pages
below_same x [] = refl
below_same x (page ∷ pages) = ap (λ b. is_lt (nat_cmp x page.0) && b) (below_same x pages)

sorted_same : (pages : List (ℕ × List ℕ))
    → is_sorted nat_cmp (map with_document pages) ≡ is_sorted nat_cmp pages
sorted_same [] = refl
sorted_same (page ∷ pages) =
    λ i. below_same page.0 pages i && sorted_same pages i

found_same : (number : ℕ) (pages : List (ℕ × List ℕ))
    → find nat_cmp number (map with_document pages)
    ≡ option_map (shown_by number) (find nat_cmp number pages)
found_same number [] = refl
found_same number (page ∷ pages) =
    elim (eq_by_cmp nat_cmp number page.0) as (λ b. eq_by_cmp nat_cmp number page.0 ≡ b
    → (if b then Some (shown_by page.0 page.1) else find nat_cmp number (map with_document pages))
    ≡ option_map (shown_by number) (if b then Some page.1 else find nat_cmp number pages)) [
      | true ↦ λ e. ap (λ n. Some (shown_by n page.1))
          (sym (finite.nat_cmp-IsAntisymmetric number page.0 (tie (nat_cmp number page.0) e)))
      | false ↦ λ e. found_same number pages
    ] refl

-- what a map shows is in the order of its numbers
in_order : (old : Numbered) → T (is_sorted nat_cmp (map with_document (finite.entries old)))
in_order old = subst T (sym (sorted_same (finite.entries old))) (finite.entries_sorted old)

as_long : (pages : List (ℕ × List ℕ)) → length (map with_document pages) ≡ length pages
as_long [] = refl
as_long (page ∷ pages) = ap suc (as_long pages)

-- the documents that stand for pages are those that the pages show
pub risen_shown : (old : Numbered) (number : ℕ)
    → finite.get (risen_documents old) number ≡ option_map (shown_by number) (finite.get old number)
risen_shown old number =
    finite.get-from_sorted nat_cmp (map with_document (finite.entries old)) number (in_order old)
    ∙ found_same number (finite.entries old)
    ∙ sym (ap (option_map (shown_by number)) (finite.get-entries old number))

module _ (old : Numbered) (new : finite.FinMap nat_cmp Stored)
    (same : (number : ℕ) → finite.get new number
    ≡ option_map (shown_by number) (finite.get old number)) where
  pub are_risen : new ≡ risen_documents old
  are_risen =
      finite.same_map nat_cmp_total finite.nat_cmp-IsAntisymmetric new (risen_documents old)
      (λ number. same number ∙ sym (risen_shown old number))

  pub listed_alike : finite.entries new ≡ map with_document (finite.entries old)
  listed_alike =
      ap finite.entries are_risen
      ∙ finite.entries-from_sorted nat_cmp (map with_document (finite.entries old)) (in_order old)

  pub as_many : finite.len new ≡ finite.len old
  as_many =
      finite.len-entries new ∙ ap length listed_alike ∙ as_long (finite.entries old)
      ∙ sym (finite.len-entries old)

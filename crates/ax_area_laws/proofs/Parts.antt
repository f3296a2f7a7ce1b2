-- What is told in the one version that is known is parts, one behind another: each item is one part.
use Rattle.std.proofs.Common.{◌≡◌, ℕ, ◌+◌, List, [], ◌∷◌, ◌++◌, length, map, refl, ap, ◌∙◌}
use Rattle.std.proofs.lemmas.List.{append-nil}
use Rattle.ax_frame.specs.Part.{PartValue, AllFit, part_bytes, parts_bytes}
use Rattle.ax_pages.specs.declared.numbers.TheConstants.{NEWEST_VERSION}
use Rattle.ax_area.specs.Items.{item_bytes, single}
use Rattle.ax_area.specs.Told.{Told, IsTold, AreTold, told_bytes}
use Rattle.ax_area_laws.proofs.Refusing.{said_alone}

pub one_part_told : (t : Told) (at : ℕ) → IsTold NEWEST_VERSION at t → t.item ≡ single t.item.first
one_part_told t at is = said_alone t.item t.change is.item is.says

abbrev pub parts_told : List Told → List PartValue
parts_told told = map (λ (t : Told). t.item.first) told

pub record AreParts (told : List Told) : Type 0 where
  pub fit : AllFit (parts_told told)
  pub spelled : told_bytes told ≡ parts_bytes (parts_told told)

pub are_parts : (told : List Told) (at : ℕ) → AreTold NEWEST_VERSION at told → AreParts told
are_parts [] at are = record { fit = tt; spelled = refl }
are_parts (t ∷ told) at are =
    let others = are_parts told (at + length (item_bytes t.item)) are.1 in record {
      fit = (are.0.item.fit.0, others.fit);
      spelled = λ i. (ap item_bytes (one_part_told t at are.0) ∙ append-nil (part_bytes t.item.first)) i
          ++ others.spelled i;
    }

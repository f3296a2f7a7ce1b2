-- An image stands for a container where it has its documents, and all that it tells can be read.
use Rattle.std.proofs.Common.{ℕ, List, subst}
use Rattle.ax_disk.specs.declared.extent.Extent.{Extent}
use Rattle.ax_disk.specs.declared.extent.Extent.TheVariants.{A}
use Rattle.ax_disk.specs.model.Image.{Image}
use Rattle.ax_container.specs.Container.{Container}
use Rattle.ax_area.specs.Contents.{Contents}
use Rattle.ax_area.specs.Told.{Told, changes_of}
use Rattle.ax_area.proofs.MadeWell.{made_well}
use Rattle.ax_area.proofs.OneOutcome.{lead_of, one_contents, one_told}
use Rattle.ax_image_grammar.specs.Grammar.{AreReadable, IsGrammatical, IsOutside}
use Rattle.ax_image_grammar.specs.Rows.{text_row, policy_row, delta_row, superseded_row}
use Rattle.ax_image_grammar.proofs.NotBoth.{not_in_and_outside}
use Rattle.ax_image_grammar.proofs.RowsSay.{text_outside, policy_outside, delta_outside}
use Rattle.ax_image_grammar.proofs.RowsSay.{superseded_outside}
use Rattle.ax_image.specs.Readable.{newest, SaysReadable}
use Rattle.ax_image.specs.Documents.{HasDocuments}
use Rattle.ax_image.specs.StandsFor.{ContentsShow, StandsFor}

pub stands : (image : Image) (container : Container) → HasDocuments container image
    → SaysReadable image → StandsFor image container
stands image container documents readable = record {
  version = documents.version;
  told = documents.told;
  contents = documents.contents;
  grammatical = record {
    says = documents.says;
    readable = readable documents.version documents.told documents.contents documents.says;
    apart = documents.hold.apart;
  };
  show = documents.hold.show;
}

pub documents_back : (image : Image) (container : Container) → StandsFor image container
    → HasDocuments container image
documents_back image container stand =
    let well = made_well (changes_of stand.told) stand.contents
    (lead_of newest image stand.version stand.told stand.contents stand.grammatical.says) in
    record {
      version = stand.version;
      told = stand.told;
      contents = stand.contents;
      says = stand.grammatical.says;
      hold = record { show = stand.show; given = well.now; apart = stand.grammatical.apart };
    }

pub readable_back : (image : Image) (container : Container) → StandsFor image container
    → SaysReadable image
readable_back image container stand version told contents says =
    subst (AreReadable newest)
    (one_told newest image stand.version version stand.told told stand.contents contents
    stand.grammatical.says says)
    stand.grammatical.readable

-- an image in the grammar that has the documents of a container stands for it
pub stands_by_grammar : (image : Image) (container : Container) (version : ℕ) (told : List Told)
    (contents : Contents) → IsGrammatical newest version told contents image
    → HasDocuments container image → StandsFor image container
stands_by_grammar image container version told contents grammatical documents = record {
  version = version;
  told = told;
  contents = contents;
  grammatical = grammatical;
  show = subst (λ (contents : Contents). ContentsShow contents container)
      (one_contents newest image documents.version version documents.told told documents.contents contents
      documents.says grammatical.says)
      documents.hold.show;
}

pub outside_nowhere : (image : Image) (container : Container) (area : Extent) (at : ℕ)
    → StandsFor image container → IsOutside newest area at image → ⊥
outside_nowhere image container area at stand outside =
    not_in_and_outside newest stand.version stand.told stand.contents area at image stand.grammatical outside

pub text_row_stands_not : (container : Container) → StandsFor text_row container → ⊥
text_row_stands_not container stands = outside_nowhere text_row container A 9 stands text_outside

pub policy_row_stands_not : (container : Container) → StandsFor policy_row container → ⊥
policy_row_stands_not container stands =
    outside_nowhere policy_row container A 9 stands policy_outside

pub delta_row_stands_not : (container : Container) → StandsFor delta_row container → ⊥
delta_row_stands_not container stands =
    outside_nowhere delta_row container A 9 stands delta_outside

pub superseded_row_stands_not : (container : Container) → StandsFor superseded_row container → ⊥
superseded_row_stands_not container stands =
    outside_nowhere superseded_row container A 9 stands superseded_outside

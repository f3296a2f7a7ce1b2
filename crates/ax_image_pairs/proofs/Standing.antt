-- What an image stands for with its index, beside what it stands for without; and the image of a fresh store.
use Rattle.std.proofs.Common.{◌≡◌, ℕ, List, [], subst, false}
use Rattle.ax_disk.specs.model.Image.{Image}
use Rattle.ax_area.specs.Contents.{Contents, no_contents}
use Rattle.ax_area.specs.Image.{IsFresh}
use Rattle.ax_area.specs.Told.{Told}
use Rattle.ax_area.proofs.OneOutcome.{one_contents}
use Rattle.ax_container.specs.Container.{Container, fresh}
use Rattle.ax_image.specs.Documents.{ContentsHold, HasDocuments}
use Rattle.ax_image.specs.Readable.{newest, SaysReadable}
use Rattle.ax_image.specs.StandsFor.{StandsFor}
use Rattle.ax_image.proofs.InGrammar.{documents_back, readable_back}
use Rattle.ax_image.proofs.OneContainer.{fresh_files, one_container}
use Rattle.ax_image_grammar.specs.Grammar.{IsGrammatical}
use Rattle.ax_image_grammar.proofs.Fresh.{fresh_is}
use Rattle.ax_image_pairs.specs.Indexed.{ContentsHoldAll, HasAll, HoldPairs, StandsForAll}
use Rattle.ax_pairs.proofs.Sets.{nothing_held}

-- ---- with the index and without

pub without_index : (image : Image) (container : Container) → StandsForAll image container → StandsFor image container
without_index image container stands = record {
  version = stands.version;
  told = stands.told;
  contents = stands.contents;
  grammatical = stands.grammatical;
  show = stands.hold.documents.show;
}

pub one_with_index : (image : Image) (x y : Container) → StandsForAll image x → StandsForAll image y → x ≡ y
one_with_index image x y one other = one_container image x y (without_index image x one) (without_index image y other)

pub documents_of_all : (image : Image) (container : Container) → HasAll container image → HasDocuments container image
documents_of_all image container has = record {
  version = has.version;
  told = has.told;
  contents = has.contents;
  says = has.says;
  hold = has.hold.documents;
}

pub stands_with_index : (image : Image) (container : Container) → HasAll container image → SaysReadable image
    → StandsForAll image container
stands_with_index image container has readable = record {
  version = has.version;
  told = has.told;
  contents = has.contents;
  grammatical = record {
    says = has.says;
    readable = readable has.version has.told has.contents has.says;
    apart = has.hold.documents.apart;
  };
  hold = has.hold;
}

pub all_back : (image : Image) (container : Container) → StandsForAll image container → HasAll container image
all_back image container stands = record {
  version = stands.version;
  told = stands.told;
  contents = stands.contents;
  says = stands.grammatical.says;
  hold = stands.hold;
}

pub readable_with_index : (image : Image) (container : Container) → StandsForAll image container → SaysReadable image
readable_with_index image container stands = readable_back image container (without_index image container stands)

-- an image in the grammar that has the documents of a container with its index stands for it
pub stands_by_grammar_with_index : (image : Image) (container : Container) (version : ℕ) (told : List Told)
    (contents : Contents) → IsGrammatical newest version told contents image
    → HasAll container image → StandsForAll image container
stands_by_grammar_with_index image container version told contents grammatical has = record {
  version = version;
  told = told;
  contents = contents;
  grammatical = grammatical;
  hold = subst (λ (contents : Contents). ContentsHoldAll contents container)
      (one_contents newest image has.version version has.told told has.contents contents has.says grammatical.says)
      has.hold;
}

-- ---- the image of a fresh store

no_pairs : HoldPairs no_contents.terms fresh
no_pairs = record {
  set = λ pair. false;
  is = nothing_held;
  exact = λ pair. ((λ h. absurd (cc)), (λ h. absurd h));
}

pub fresh_with_index : (image : Image) → IsFresh image → StandsForAll image fresh
fresh_with_index image is =
    let grammatical : IsGrammatical newest newest [] no_contents image = fresh_is newest image is in
    let documents : HasDocuments fresh image = documents_back image fresh (fresh_files image is) in
    let hold : ContentsHold no_contents fresh =
    subst (λ (contents : Contents). ContentsHold contents fresh)
    (one_contents newest image documents.version newest documents.told [] documents.contents no_contents
    documents.says grammatical.says)
    documents.hold in
    record {
      version = newest;
      told = [];
      contents = no_contents;
      grammatical = grammatical;
      hold = record { documents = hold; pairs = no_pairs };
    }

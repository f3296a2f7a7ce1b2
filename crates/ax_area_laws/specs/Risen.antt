-- What stands for the contents of a store, which has one version of the format, in the words of all
-- versions. From the store's own file format (docs/FORMAT.md, "Parts");
-- no other document has it.
use Rattle.std.specs.Prelude.{false, map}
use Rattle.std.specs.FinMap as finite
use Rattle.std.specs.Ordering.{nat_cmp}
use Rattle.ax_pages.specs.Contents as log
use Rattle.ax_area.specs.Contents.{Contents, Stored}
use Rattle.ax_area_laws.specs.Agree.{with_document}

-- the documents that pages show, under the same numbers
abbrev pub risen_documents : log.Numbered → finite.FinMap nat_cmp Stored
risen_documents pages = finite.from_sorted (map with_document (finite.entries pages))

abbrev pub risen : log.Contents → Contents
risen old = record {
  next_number = log.next_number old;
  policy_now = log.policy_now old;
  next_version = log.next_number old;
  policies = old.policies;
  documents = risen_documents old.documents;
  terms = old.terms;
  versioned = false;
}

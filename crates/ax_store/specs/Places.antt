-- Where the parts of a page stand in the bytes of an area.
-- From the store's own file format (docs/FORMAT.md, "Parts"); no other document has it.
use Rattle.std.specs.Prelude.{◌≡◌, ℕ, ◌==◌, ◌&&◌, if◌then◌else◌, is_some, List, ◌++◌, drop}
use Rattle.ax_frame.specs.Part.{PartValue, part_bytes}
use Rattle.ax_pages.specs.declared.numbers.TheConstants.{PLAIN_META, POLICY, PLAIN_DOCUMENT, BASE, DELTA}
use Rattle.ax_pages.specs.declared.page.Page.{Page}
use Rattle.ax_pages.specs.declared.page.Page.TheVariants.{Meta, Policy, Document, Term}
use Rattle.ax_pages.specs.Contents.{Contents, TermPage, term_page}
use Rattle.ax_store.specs.Slots.{part_at}

-- the kind of a part of a term page: the first is a base, where there is a base, and the others are deltas
abbrev pub kind_in : TermPage → ℕ → ℕ
kind_in page i = if (i == 0) && is_some page.base then BASE else DELTA

-- the part of that position by which a page has its payload
abbrev pub part_of_page : Page → ℕ → Contents → PartValue
part_of_page Meta i contents = record { kind = PLAIN_META; key = 0; payload = part_at Meta i contents }
part_of_page (Policy number) i contents = record { kind = POLICY; key = number; payload = part_at (Policy number) i contents }
part_of_page (Document number) i contents = record { kind = PLAIN_DOCUMENT; key = number; payload = part_at (Document number) i contents }
part_of_page (Term number) i contents =
    record { kind = kind_in (term_page number contents.terms) i; key = number; payload = part_at (Term number) i contents }

-- at the offset the bytes have the spelling of the part: its kind, key, length and payload
pub record StandsAt (part : PartValue) (bytes : List ℕ) (at : ℕ) : Type 0 where
  pub rest : List ℕ
  pub spelled : drop at bytes ≡ part_bytes part ++ rest

-- Parts of term pages: what their changes make of the pages, whatever else a store has.
-- From the store's own file format (docs/FORMAT.md, "Parts"); no other document has it.
use Rattle.std.specs.Prelude.{◌≡◌, ℕ, ◌+◌, nat_lt, if◌then◌else◌, List, [], ◌∷◌, Some, Option}
use Rattle.ax_frame.specs.Part.{PartValue}
use Rattle.ax_pages.specs.declared.page.Kind.{Kind}
use Rattle.ax_pages.specs.declared.page.Kind.TheVariants as kind
use Rattle.ax_pages.specs.Contents.{TermPage}
use Rattle.ax_pages.specs.AfterPart.{kind_of}
use Rattle.ax_area.specs.Contents.{Contents}
use Rattle.ax_area.specs.Parts.{after_parts}

-- The parts change these term pages to those and nothing else, in each store that has these.
pub record LeadTo (parts : List PartValue) (before after : List TermPage) : Type 0 where
  pub lead : (contents : Contents) → contents.terms ≡ before
      → after_parts parts contents ≡ Some (record contents { terms = after })

-- how many bases of pages below a number a part of this kind is: one or none
abbrev pub bases_by_kind : Option Kind → ℕ → ℕ → ℕ
bases_by_kind (Some kind.Base) key count = if nat_lt key count then 1 else 0
bases_by_kind _ key count = 0

-- how many of the parts are bases of pages with numbers below this one
abbrev pub bases_below : ℕ → List PartValue → ℕ
bases_below count [] = 0
bases_below count (part ∷ parts) = bases_by_kind (kind_of part.kind) part.key count + bases_below count parts

-- The kinds of parts: their numbers, the first version in which each is known, and what it does.
-- From the store's own file format (docs/FORMAT.md, "Parts"); no other document has it.
use Rattle.std.specs.Prelude.{ℕ, ◌==◌, nat_le, if◌then◌else◌, List, [], ◌∷◌, find}
use Rattle.std.specs.Prelude.{Option, Some, None, option_and_then}
use Rattle.ax_area.specs.declared.kind.Kind.{Kind}
use Rattle.ax_area.specs.declared.kind.Kind.TheVariants as kind
use Rattle.ax_pages.specs.declared.numbers.TheConstants.{PLAIN_META, POLICY, PLAIN_DOCUMENT, GONE}
use Rattle.ax_pages.specs.declared.numbers.TheConstants.{BASE, DELTA, DOCUMENT, META}
use Rattle.ax_pages.specs.declared.numbers.TheConstants.{LONG_DOCUMENT, PIECE}
use Rattle.ax_pages.specs.declared.numbers.TheConstants.{VERSIONS_SINCE, PIECES_SINCE}

pub record Row : Type 0 where
  pub number : ℕ
  pub since : ℕ
  pub kind : Kind

abbrev pub row : ℕ → ℕ → Kind → Row
row number since kind = record { number = number; since = since; kind = kind }

-- all kinds that there are
abbrev pub kinds : List Row
kinds =
    row PLAIN_META 1 kind.PlainMeta
    ∷ row POLICY 1 kind.Policy
    ∷ row PLAIN_DOCUMENT 1 kind.PlainDocument
    ∷ row GONE 1 kind.Gone
    ∷ row BASE 1 kind.Base
    ∷ row DELTA 1 kind.Delta
    ∷ row DOCUMENT VERSIONS_SINCE kind.Document
    ∷ row META VERSIONS_SINCE kind.Meta
    ∷ row LONG_DOCUMENT PIECES_SINCE kind.LongDocument
    ∷ row PIECE PIECES_SINCE kind.Piece
    ∷ []

-- the kind of a row, where the version has it
abbrev pub known_in : ℕ → Row → Option Kind
known_in version row = if nat_le row.since version then Some row.kind else None

-- the kind of that number, where the version has it
abbrev pub kind_in : ℕ → ℕ → Option Kind
kind_in version number =
    option_and_then (known_in version) (find (λ row. row.number == number) kinds)

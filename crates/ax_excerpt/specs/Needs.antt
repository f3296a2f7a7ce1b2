-- The paths along which a query looks at a document, and when no part of the document is enough for it.
use Rattle.std.specs.Prelude.{◌≡◌, List, [], ◌∷◌, Bool, true, false}
use Rattle.std.specs.Borrow.{Bor}
use Rattle.std.specs.List.{list_all}
use Rattle.ax_mean.specs.declared.expr.QueryStep.{QueryStep}
use Rattle.ax_mean.specs.declared.expr.QueryStep.TheVariants as step
use Rattle.ax_mean.specs.declared.query.Order.{Order}
use Rattle.ax_mean.specs.declared.query.Query.{Query}
use Rattle.ax_excerpt.specs.declared.excerpt.Excerpt.{Excerpt}
use Rattle.ax_excerpt.specs.declared.excerpt.Excerpt.TheVariants.{Whole}
use Rattle.ax_excerpt.specs.Enough.{is_enough}
use Rattle.ax_excerpt.specs.Excerpts.{keeps, names_before}
use Rattle.ax_excerpt.specs.Plain.{are_plain, is_plain}

abbrev pub keeps_all : Excerpt → List (Bor (List QueryStep)) → Bool
keeps_all excerpt = list_all (λ path. keeps excerpt path.now)

-- a part of a document may keep what the steps lead to: they begin with a name that JSON writes without
-- an escape, or with a position, where a document, which is a map, has nothing
abbrev pub is_told : List QueryStep → Bool
is_told [] = false
is_told (step.Member name ∷ steps) = is_plain name
is_told (step.Position at ∷ steps) = true

abbrev pub are_told : List (Bor (List QueryStep)) → Bool
are_told = list_all (λ path. is_told path.now)

abbrev pub orders_told : List Order → Bool
orders_told = list_all (λ order. is_told (names_before order.path))

-- No part of a document is enough for the query: it looks at all of it, or at a name in it that JSON
-- writes with an escape.
abbrev pub NeedsAll : Query → Type 0
NeedsAll query =
    (excerpt : Excerpt) → are_plain excerpt ≡ true → is_enough excerpt query ≡ true → excerpt ≡ Whole

-- an excerpt that keeps what another one does
abbrev pub IsMore : Excerpt → Excerpt → Type 0
IsMore old new = (s : List QueryStep) → keeps old s ≡ true → keeps new s ≡ true

-- an excerpt that keeps what another one does, and also what the steps lead to
pub record Grows (old : Excerpt) (steps : List QueryStep) (new : Excerpt) : Type 0 where
  pub kept : keeps new steps ≡ true
  pub more : IsMore old new
  pub plain : are_plain old ≡ true → are_plain new ≡ true

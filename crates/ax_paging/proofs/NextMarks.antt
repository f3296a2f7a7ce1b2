-- With which mark a page ends, and where it ends with none.
use Rattle.std.proofs.Common.{◌≡◌, ◌↔◌, ℕ, ◌+◌, ◌≤◌, List, [], ◌∷◌, length, take, drop, Bool, true, false, Option, Some, None, if◌then◌else◌, refl, sym, ap, ◌∙◌, subst}
use Rattle.std.specs.Option.{option_map}
use Rattle.ax_tree.specs.declared.tree.Tree.{Tree}
use Rattle.ax_mean.specs.declared.query.KeyedRow.{KeyedRow}
use Rattle.ax_mean.specs.declared.query.Query.{Query}
use Rattle.ax_paging.specs.Marks.{IsMarkOf, Mark, Count, is_counted, remaining}
use Rattle.ax_paging.specs.Pages.{behind_row, given_at, last, mark_behind, next_where, page}
use Rattle.ax_paging.proofs.Splits.{IsCut, cut}

-- the mark behind the rows given, where the query counts them or not
abbrev mark_where : Query → Mark → List KeyedRow → Bool → Option Mark
mark_where query mark given counted =
    if counted then Some (Count (given_at mark + length given))
    else option_map (behind_row query mark (length given)) (last given)

no_mark : {X : Type 0} (x : X) → Some x ≡ None → ⊥
no_mark x e = cc

-- behind rows of which one is the last there is a mark
some_mark : (query : Query) (mark : Mark) (given : List KeyedRow) (row : KeyedRow) (b : Bool) → last given ≡ Some row
    → mark_where query mark given b ≡ None → ⊥
some_mark query mark given row true ends e = no_mark (Count (given_at mark + length given)) e
some_mark query mark given row false ends e =
    no_mark (behind_row query mark (length given) row)
    (sym (ap (option_map (behind_row query mark (length given))) ends) ∙ e)

module _ (query : Query) (entries : List (ℕ × Tree)) (mark : Mark) (count : ℕ) where
  abbrev rows : List KeyedRow
  rows = remaining query entries mark

  none_follows : 1 ≤ count → (rest : List KeyedRow) → drop count rows ≡ rest
      → next_where rest (mark_behind query mark (take count rows)) ≡ None → rest ≡ []
  none_follows low [] is none = refl
  none_follows low (row ∷ rest) is none =
      let c : IsCut count rows (row ∷ rest) = cut count rows row rest low is in
      absurd (some_mark query mark (take count rows) c.at (is_counted query) c.ends none)

  pub next_where_follows : 1 ≤ count → (page query entries mark count).next ≡ None ↔ drop count rows ≡ []
  next_where_follows low = (
    λ none. none_follows low (drop count rows) refl none,
    λ ends. ap (λ (rest : List KeyedRow). next_where rest (mark_behind query mark (take count rows))) ends,
  )

some_is : {X : Type 0} (x y : X) → Some x ≡ Some y → x ≡ y
some_is x y e = cc

none_some : {X A : Type 0} (x : X) → None ≡ Some x → A
none_some x e = absurd (let f : ⊥ = cc in f)

-- a mark behind rows is one of the query
behind_is : (query : Query) (mark next : Mark) (given : List KeyedRow) (b : Bool) → is_counted query ≡ b
    → mark_where query mark given b ≡ Some next → IsMarkOf query next
behind_is query mark next given true counted e =
    subst (IsMarkOf query) (some_is (Count (given_at mark + length given)) next e) counted
behind_is query mark next given false plain e = by (last given) e where
  by : (o : Option KeyedRow)
      → option_map (behind_row query mark (length given)) o ≡ Some next
      → IsMarkOf query next
  by None f = none_some next f
  by (Some row) f =
      subst (IsMarkOf query)
      (some_is (behind_row query mark (length given) row) next f) plain

pub next_of_query : (query : Query) (entries : List (ℕ × Tree)) (mark next : Mark) (count : ℕ)
    → (page query entries mark count).next ≡ Some next → IsMarkOf query next
next_of_query query entries mark next count is =
    by (drop count (remaining query entries mark)) is where
      by : (rest : List KeyedRow)
          → next_where rest (mark_behind query mark (take count (remaining query entries mark))) ≡ Some next → IsMarkOf query next
      by [] e = none_some next e
      by (row ∷ rest) e =
          behind_is query mark next (take count (remaining query entries mark)) (is_counted query) refl e

-- Pages of one size come to an end, from each mark of the query.
use Rattle.std.proofs.Common.{◌≡◌, ℕ, zero, suc, ◌-◌, ◌≤◌, List, [], ◌∷◌, ◌++◌, length, take, drop, Option, Some, length-drop, refl, sym, ap, ◌∙◌, subst, arith}
use Rattle.std.specs.Prelude.{replicate}
use Rattle.ax_tree.specs.declared.tree.Tree.{Tree}
use Rattle.ax_mean.specs.declared.query.KeyedRow.{KeyedRow}
use Rattle.ax_mean.specs.declared.query.Query.{Query}
use Rattle.ax_paging.specs.Marks.{IsMarkOf, Mark, ordered_rows, remaining}
use Rattle.ax_paging.specs.Pages.{mark_behind, next_where}
use Rattle.ax_paging.specs.Joined.{AreJoined}
use Rattle.ax_paging.proofs.Joining.{IsNext, Rising, next_of}

module _ (query : Query) (entries : List (ℕ × Tree)) (rise : Rising query.orders (ordered_rows query entries))
    (count : ℕ) (low : 1 ≤ count) where
  -- so many pages of this size, from the mark on, have these rows
  pub record Ends (mark : Mark) : Type 0 where
    pub pages : ℕ
    pub rows : List KeyedRow
    pub are : AreJoined query entries (Some mark) (replicate pages count) rows

  abbrev next_behind : Mark → List KeyedRow → Option Mark
  next_behind mark rest = next_where rest (mark_behind query mark (take count (remaining query entries mark)))

  fewer : (mark : Mark) (row : KeyedRow) (rest : List KeyedRow) → drop count (remaining query entries mark) ≡ row ∷ rest
      → length (row ∷ rest) ≡ length (remaining query entries mark) - count
  fewer mark row rest is = ap length (sym is) ∙ length-drop count (remaining query entries mark)

  ends_by : (fuel : ℕ) (mark : Mark) → IsMarkOf query mark → (rest : List KeyedRow)
      → drop count (remaining query entries mark) ≡ rest → length (remaining query entries mark) ≤ fuel → Ends mark
  ends_by fuel mark of_query [] is long = record {
    pages = 1;
    rows = take count (remaining query entries mark) ++ [];
    are = (low, ([], refl, subst (λ (m : Option Mark). AreJoined query entries m [] []) (sym (ap (next_behind mark) is)) refl));
  }
  ends_by zero mark of_query (row ∷ rest) is long = absurd (omega (arith, long, fewer mark row rest is))
  ends_by (suc fuel) mark of_query (row ∷ rest) is long =
      let n : IsNext query entries mark (take count (remaining query entries mark)) (row ∷ rest) =
      next_of query entries rise mark of_query count row rest low is in
      let less : length (row ∷ rest) ≡ length (remaining query entries mark) - count = fewer mark row rest is in
      let left : length (remaining query entries n.next) ≡ length (row ∷ rest) = ap length n.left in
      let short : length (remaining query entries n.next) ≤ fuel = omega (arith, left, less, low, long) in
      let later : Ends n.next =
      ends_by fuel n.next n.of_query (drop count (remaining query entries n.next)) refl short in
      record {
        pages = suc later.pages;
        rows = take count (remaining query entries mark) ++ later.rows;
        are = (
          low,
          (
            later.rows,
            refl,
            subst (λ (m : Option Mark). AreJoined query entries m (replicate later.pages count) later.rows)
                (sym (ap (next_behind mark) is ∙ n.is)) later.are,
          ),
        );
      }

  pub pages_end : (mark : Mark) → IsMarkOf query mark
      → (pages : ℕ) × (rows : List KeyedRow) × AreJoined query entries (Some mark) (replicate pages count) rows
  pages_end mark of_query =
      let e : Ends mark =
      ends_by (length (remaining query entries mark)) mark of_query (drop count (remaining query entries mark)) refl (omega arith) in
      (e.pages, e.rows, e.are)

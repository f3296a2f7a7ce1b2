-- The least rows behind a mark make its page, whatever the order in which the rows were found.
use Rattle.std.proofs.Common.{◌≡◌, ℕ, zero, suc, ◌+◌, List, [], ◌∷◌, take, drop, Bool, true, false, cond, Option, Some, None, refl, sym, ap, ◌∙◌, arith}
use Rattle.std.specs.declared.cmp.Ordering.{Ordering}
use Rattle.std.specs.Ordering.{is_lt}
use Rattle.std.specs.Cmp.{IsStrictWeakOrder}
use Rattle.std.specs.List.{filter}
use Rattle.std.specs.List.Sorted.{ties}
use Rattle.std.proofs.lemmas.List.{drop-take, take-take}
use Rattle.ax_tree.specs.declared.tree.Tree.{Tree}
use Rattle.ax_mean.specs.declared.query.KeyedRow.{KeyedRow}
use Rattle.ax_mean.specs.declared.query.Query.{Query}
use Rattle.ax_mean.specs.Answer.{all_rows, limited, sorted}
use Rattle.ax_mean.specs.RowOrder.{key_cmp}
use Rattle.ax_paging.specs.RowKeys.{is_behind, rows_behind}
use Rattle.ax_paging.specs.Marks.{IsMarkOf, Mark, Beginning, Behind, Count, is_counted, ordered_rows}
use Rattle.ax_paging.specs.Pages.{mark_behind, next_where, page, page_from}
use Rattle.ax_paging.specs.LeastRows.{page_of_least}
use Rattle.ax_paging.proofs.Joining.{plain_answer}
use Rattle.ax_rows.proofs.RowSort.{key_ranks}
use Rattle.ax_rows.proofs.StableSort.{NoneBelow, Rises, rises_sorted, same, stable_sorted}

-- ---- a filter goes through a sort

filters_swap : {X : Type 0} (p q : X → Bool) (xs : List X) → filter p (filter q xs) ≡ filter q (filter p xs)
filters_swap p q [] = refl
filters_swap p q (x ∷ xs) = by (p x) (q x) refl refl (filters_swap p q xs) where
  by : (a b : Bool) → p x ≡ a → q x ≡ b → filter p (filter q xs) ≡ filter q (filter p xs)
      → filter p (cond b (x ∷ filter q xs) (filter q xs)) ≡ filter q (cond a (x ∷ filter p xs) (filter p xs))
  by true true e f h =
      ap (λ c. cond c (x ∷ filter p (filter q xs)) (filter p (filter q xs))) e ∙ ap (λ zs. x ∷ zs) h
      ∙ sym (ap (λ c. cond c (x ∷ filter q (filter p xs)) (filter q (filter p xs))) f)
  by true false e f h =
      h ∙ sym (ap (λ c. cond c (x ∷ filter q (filter p xs)) (filter q (filter p xs))) f)
  by false true e f h =
      ap (λ c. cond c (x ∷ filter p (filter q xs)) (filter p (filter q xs))) e ∙ h
  by false false e f h = h

module _ {X : Type 0} (cmp : X → X → Ordering) (o : IsStrictWeakOrder (λ x y. is_lt (cmp x y))) where
  abbrev lt : X → X → Bool
  lt x y = is_lt (cmp x y)

  none_filtered : (p : X → Bool) (x : X) (ys : List X) → NoneBelow cmp o x ys → NoneBelow cmp o x (filter p ys)
  none_filtered p x [] n = tt
  none_filtered p x (y ∷ ys) n =
      elim (p y) as (λ b. NoneBelow cmp o x (cond b (y ∷ filter p ys) (filter p ys)))
      [ true ↦ (n.0, none_filtered p x ys n.1) | false ↦ none_filtered p x ys n.1 ]

  rises_filtered : (p : X → Bool) (xs : List X) → Rises cmp o xs → Rises cmp o (filter p xs)
  rises_filtered p [] r = tt
  rises_filtered p (x ∷ xs) r =
      elim (p x) as (λ b. Rises cmp o (cond b (x ∷ filter p xs) (filter p xs)))
      [ true ↦ (none_filtered p x xs r.0, rises_filtered p xs r.1) | false ↦ rises_filtered p xs r.1 ]

  pub sorted_filter : (p : X → Bool) (xs : List X) → filter p (sorted cmp xs) ≡ sorted cmp (filter p xs)
  sorted_filter p xs =
      same cmp o (filter p (sorted cmp xs)) (sorted cmp (filter p xs))
      (rises_filtered p (sorted cmp xs) (rises_sorted cmp o xs)) (rises_sorted cmp o (filter p xs))
      (λ w. filters_swap (ties lt w) p (sorted cmp xs)
      ∙ ap (filter p) (stable_sorted cmp o w xs)
      ∙ filters_swap p (ties lt w) xs
      ∙ sym (stable_sorted cmp o w (filter p xs)))

-- ---- a page rests on one row more than it gives

limit_front : {X : Type 0} (m limit : ℕ) (xs : List X) → take m (take limit (take m xs)) ≡ take m (take limit xs)
limit_front zero limit xs = refl
limit_front (suc m) zero xs = refl
limit_front (suc m) (suc limit) [] = refl
limit_front (suc m) (suc limit) (x ∷ xs) = ap (λ ys. x ∷ ys) (limit_front m limit xs)

limited_front : {X : Type 0} (m : ℕ) (left : Option ℕ) (xs : List X)
    → take m (limited left (take m xs)) ≡ take m (limited left xs)
limited_front m None xs = take-take m m xs (omega arith)
limited_front m (Some limit) xs = limit_front m limit xs

next_front : (n : ℕ) (rows : List KeyedRow) (mark : Option Mark)
    → next_where (drop n (take (suc n) rows)) mark ≡ next_where (drop n rows) mark
next_front zero [] mark = refl
next_front zero (row ∷ rows) mark = refl
next_front (suc n) [] mark = refl
next_front (suc n) (row ∷ rows) mark = next_front n rows mark

page_front : (query : Query) (mark : Mark) (n : ℕ) (rows : List KeyedRow)
    → page_from query mark n (take (n + 1) rows) ≡ page_from query mark n rows
page_front query mark n rows =
    let one : n + 1 ≡ suc n = omega arith in
    let given : take n (take (n + 1) rows) ≡ take n rows = take-take n (n + 1) rows (omega arith) in
    (λ i. record {
      rows = given i;
      next = next_where (drop n (take (n + 1) rows)) (mark_behind query mark (given i));
    })
    ∙ (λ i. record {
      rows = take n rows;
      next = next_where (drop n (take (one i) rows)) (mark_behind query mark (take n rows));
    })
    ∙ ap (λ (next : Option Mark). record { rows = take n rows; next = next })
    (next_front n rows (mark_behind query mark (take n rows)))

page_of_front : (query : Query) (mark : Mark) (skip : ℕ) (left : Option ℕ) (n : ℕ) (rows : List KeyedRow)
    → page_from query mark n (limited left (drop skip (take (skip + (n + 1)) rows)))
    ≡ page_from query mark n (limited left (drop skip rows))
page_of_front query mark skip left n rows =
    sym (page_front query mark n (limited left (drop skip (take (skip + (n + 1)) rows))))
    ∙ ap (λ (rs : List KeyedRow). page_from query mark n (take (n + 1) (limited left rs))) (drop-take skip (n + 1) rows)
    ∙ ap (page_from query mark n) (limited_front (n + 1) left (drop skip rows))
    ∙ page_front query mark n (limited left (drop skip rows))

pub least_page : (query : Query) (entries : List (ℕ × Tree)) (mark : Mark) (count : ℕ)
    → is_counted query ≡ false → IsMarkOf query mark
    → page_of_least query mark count (all_rows query entries) ≡ page query entries mark count
least_page query entries Beginning count plain of_query =
    page_of_front query Beginning query.skip query.limit count (ordered_rows query entries)
    ∙ sym (ap (page_from query Beginning count) (plain_answer query entries plain))
least_page query entries (Behind key skip left) count plain of_query =
    page_of_front query (Behind key skip left) skip left count
    (sorted (key_cmp query.orders) (rows_behind query.orders key (all_rows query entries)))
    ∙ ap (λ (rows : List KeyedRow). page_from query (Behind key skip left) count (limited left (drop skip rows)))
    (sym (sorted_filter (key_cmp query.orders) (key_ranks query.orders) (is_behind query.orders key) (all_rows query entries)))
least_page query entries (Count given) count plain counted =
    absurd (let e : false ≡ true = sym plain ∙ counted in let f : ⊥ = cc in f)

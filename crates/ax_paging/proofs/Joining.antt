-- What is left from the mark behind a page on is what is left behind its rows.
use Rattle.std.proofs.Common.{◌≡◌, ℕ, ◌+◌, ◌≤◌, List, [], ◌∷◌, ◌++◌, length, take, drop, Bool, true, false, Option, Some, None, ◌||◌, if◌then◌else◌, refl, sym, ap, ◌∙◌, subst}
use Rattle.std.specs.Option.{option_map}
use Rattle.std.specs.List.Sorted.{IsStrictlySortedBy}
use Rattle.std.proofs.lemmas.List.{take-append-drop, drop-drop}
use Rattle.ax_tree.specs.declared.tree.Tree.{Tree}
use Rattle.ax_mean.specs.declared.query.KeyedRow.{KeyedRow}
use Rattle.ax_mean.specs.declared.query.Order.{Order}
use Rattle.ax_mean.specs.declared.query.Query.{Query}
use Rattle.ax_mean.specs.Aggregates.{has_groups}
use Rattle.ax_mean.specs.Answer.{all_rows, answer, distinct_where, limited, sorted}
use Rattle.ax_mean.specs.RowOrder.{key_cmp}
use Rattle.ax_result.specs.Answers.{answer_of}
use Rattle.ax_result.specs.Groups.{group_answer}
use Rattle.ax_paging.proofs.KeyOrder.{keys_total}
use Rattle.ax_paging.specs.RowKeys.{key_of, keys_cmp, rows_behind}
use Rattle.ax_paging.specs.Marks.{IsMarkOf, Mark, Beginning, Behind, Count, is_counted, ordered_rows, remaining}
use Rattle.ax_paging.specs.Pages.{behind_row, given_at, last, less_given, limit_at, mark_behind, next_where}
use Rattle.ax_paging.specs.Joined.{AreJoined}
use Rattle.ax_paging.proofs.Behind.{Ascends, follows, follows_behind}
use Rattle.ax_paging.proofs.Splits.{IsCut, IsLeft, all_taken, cut, dropped_before, left_behind}

abbrev pub Rising : List Order → List KeyedRow → Type 0
Rising orders rows = Ascends key_of (keys_cmp orders) (keys_total orders) rows

pub rising_so : (orders : List Order) (rows : List KeyedRow) → IsStrictlySortedBy (key_cmp orders) rows
    → Rising orders rows
unfolding IsStrictlySortedBy
rising_so orders [] a = tt
rising_so orders (row ∷ rows) a = (a.0, rising_so orders rows a.1)

none_of : (a b : Bool) → (a || b) ≡ false → (a ≡ false) × (b ≡ false)
none_of true b e = absurd (let f : ⊥ = cc in f)
none_of false b e = (refl, e)

-- the answer of a query whose pages do not count
pub plain_answer : (query : Query) (entries : List (ℕ × Tree)) → is_counted query ≡ false
    → answer_of query entries ≡ limited query.limit (drop query.skip (ordered_rows query entries))
plain_answer query entries plain =
    let both = none_of query.distinct (has_groups query) plain in
    ap (λ b. if b then group_answer query entries else answer query entries) both.1
    ∙ ap (λ b. limited query.limit (drop query.skip (distinct_where query.distinct
    (if b then all_rows query entries else sorted (key_cmp query.orders) (all_rows query entries))))) both.1
    ∙ ap (λ b. limited query.limit (drop query.skip (distinct_where b (ordered_rows query entries)))) both.0

pub nothing : (query : Query) (entries : List (ℕ × Tree)) (counts : List ℕ) (rows : List KeyedRow) → AreJoined query entries None counts rows → rows ≡ []
nothing query entries [] rows h = h
nothing query entries (count ∷ counts) rows h = absurd h

-- ---- one page

-- the mark behind a page of the rows that are left from another on
pub record IsNext (query : Query) (entries : List (ℕ × Tree)) (mark : Mark) (given rest : List KeyedRow) : Type 0 where
  pub next : Mark
  pub is : mark_behind query mark given ≡ Some next
  pub of_query : IsMarkOf query next
  pub left : remaining query entries next ≡ rest

module _ (query : Query) (entries : List (ℕ × Tree)) where
  -- rows that a query orders, cut by OFFSET and LIMIT, where those behind one of them are known
  plain_next : (mark : Mark) (skip : ℕ) (left : Option ℕ) (rows : List KeyedRow) (count : ℕ)
      (row : KeyedRow) (rest : List KeyedRow)
      → is_counted query ≡ false → limit_at query mark ≡ left
      → ((fs : List KeyedRow) (x : KeyedRow) (bs : List KeyedRow) → rows ≡ fs ++ x ∷ bs
      → rows_behind query.orders (key_of x) (ordered_rows query entries) ≡ bs)
      → 1 ≤ count → drop count (limited left (drop skip rows)) ≡ row ∷ rest
      → IsNext query entries mark (take count (limited left (drop skip rows))) (row ∷ rest)
  plain_next mark skip left rows count row rest plain limit known low e =
      let kept = limited left (drop skip rows) in
      let c : IsCut count kept (row ∷ rest) = cut count kept row rest low e in
      let l : IsLeft left c.front c.at (row ∷ rest) (drop skip rows) =
      left_behind left c.front c.at (row ∷ rest) (drop skip rows) c.whole in
      let behind : rows_behind query.orders (key_of c.at) (ordered_rows query entries) ≡ l.rest =
      known (take skip rows ++ c.front) c.at l.rest (dropped_before skip rows c.front c.at l.rest l.whole) in
      record {
        next = Behind (key_of c.at) 0 (less_given left (length c.front + 1));
        is =
            ap (λ b. if b then Some (Count (given_at mark + length (take count kept)))
            else option_map (behind_row query mark (length (take count kept))) (last (take count kept))) plain
            ∙ ap (λ (o : Option KeyedRow). option_map (behind_row query mark (length (take count kept))) o) c.ends
            ∙ ap (λ (o : Option ℕ). Some (Behind (key_of c.at) 0 (less_given o (length (take count kept))))) limit
            ∙ ap (λ (n : ℕ). Some (Behind (key_of c.at) 0 (less_given left n))) (c.given ∙ sym c.size);
        of_query = plain;
        left = ap (λ (rs : List KeyedRow). limited (less_given left (length c.front + 1)) rs) behind ∙ l.cut;
      }

  counted_next : (mark : Mark) (given count : ℕ) (row : KeyedRow) (rest : List KeyedRow)
      → is_counted query ≡ true → given_at mark ≡ given
      → 1 ≤ count → drop count (drop given (answer_of query entries)) ≡ row ∷ rest
      → IsNext query entries mark (take count (drop given (answer_of query entries))) (row ∷ rest)
  counted_next mark given count row rest counted at low e =
      let kept = drop given (answer_of query entries) in
      let c : IsCut count kept (row ∷ rest) = cut count kept row rest low e in
      record {
        next = Count (given + count);
        is =
            ap (λ b. if b then Some (Count (given_at mark + length (take count kept)))
            else option_map (behind_row query mark (length (take count kept))) (last (take count kept))) counted
            ∙ ap (λ (n : ℕ). Some (Count (n + length (take count kept)))) at
            ∙ ap (λ (n : ℕ). Some (Count (given + n))) c.given;
        of_query = counted;
        left = sym (drop-drop count given (answer_of query entries)) ∙ e;
      }

  module _ (rise : Rising query.orders (ordered_rows query entries)) where
    from_beginning : (b : Bool) → is_counted query ≡ b → (count : ℕ) (row : KeyedRow) (rest : List KeyedRow)
        → 1 ≤ count → drop count (answer_of query entries) ≡ row ∷ rest
        → IsNext query entries Beginning (take count (answer_of query entries)) (row ∷ rest)
    from_beginning true counted count row rest low e =
        counted_next Beginning 0 count row rest counted refl low e
    from_beginning false plain count row rest low e =
        let is : limited query.limit (drop query.skip (ordered_rows query entries)) ≡ answer_of query entries =
        sym (plain_answer query entries plain) in
        subst (λ (rs : List KeyedRow). IsNext query entries Beginning (take count rs) (row ∷ rest)) is
        (plain_next Beginning query.skip query.limit (ordered_rows query entries) count row rest plain refl
        (λ fs x bs whole.
        ap (rows_behind query.orders (key_of x)) whole
        ∙ follows key_of (keys_cmp query.orders) (keys_total query.orders) fs x bs
        (subst (Rising query.orders) whole rise))
        low (ap (drop count) is ∙ e))

    pub next_of : (mark : Mark) → IsMarkOf query mark → (count : ℕ) (row : KeyedRow) (rest : List KeyedRow)
        → 1 ≤ count → drop count (remaining query entries mark) ≡ row ∷ rest
        → IsNext query entries mark (take count (remaining query entries mark)) (row ∷ rest)
    next_of Beginning of_query count row rest low e =
        from_beginning (is_counted query) refl count row rest low e
    next_of (Behind key skip left) plain count row rest low e =
        plain_next (Behind key skip left) skip left (rows_behind query.orders key (ordered_rows query entries))
        count row rest plain refl
        (λ fs x bs whole.
        follows_behind key_of (keys_cmp query.orders) (keys_total query.orders) key
        (ordered_rows query entries) fs x bs rise whole)
        low e
    next_of (Count given) counted count row rest low e =
        counted_next (Count given) given count row rest counted refl low e

    -- ---- pages one behind another

    -- the pages behind one page, where what is joined from its mark on is known
    joined_by : (mark : Mark) → IsMarkOf query mark → (count : ℕ) (counts : List ℕ)
        (rows later rest : List KeyedRow)
        → ((m : Mark) → IsMarkOf query m → AreJoined query entries (Some m) counts later
        → later ≡ remaining query entries m)
        → 1 ≤ count → rows ≡ take count (remaining query entries mark) ++ later
        → drop count (remaining query entries mark) ≡ rest
        → AreJoined query entries
        (next_where rest (mark_behind query mark (take count (remaining query entries mark)))) counts later
        → rows ≡ remaining query entries mark
    joined_by mark of_query count counts rows later [] on low whole e joined =
        let none : later ≡ [] = nothing query entries counts later joined in
        whole ∙ ap (λ (rs : List KeyedRow). take count (remaining query entries mark) ++ rs) none
        ∙ sym (all_taken count (remaining query entries mark) e)
    joined_by mark of_query count counts rows later (row ∷ rest) on low whole e joined =
        let n : IsNext query entries mark (take count (remaining query entries mark)) (row ∷ rest) =
        next_of mark of_query count row rest low e in
        let all : later ≡ remaining query entries n.next =
        on n.next n.of_query
        (subst (λ (m : Option Mark). AreJoined query entries m counts later) n.is joined) in
        whole ∙ ap (λ (rs : List KeyedRow). take count (remaining query entries mark) ++ rs) (all ∙ n.left ∙ sym e)
        ∙ take-append-drop count (remaining query entries mark)

    pub joined_from : (mark : Mark) → IsMarkOf query mark → (counts : List ℕ) (rows : List KeyedRow)
        → AreJoined query entries (Some mark) counts rows → rows ≡ remaining query entries mark
    joined_from mark of_query [] rows joined = absurd joined
    joined_from mark of_query (count ∷ counts) rows joined =
        joined_by mark of_query count counts rows joined.1.0 (drop count (remaining query entries mark))
        (λ m ok are. joined_from m ok counts joined.1.0 are)
        joined.0 joined.1.1 refl joined.1.2

-- What a search by halves among rising rows finds.
use Rattle.std.proofs.Common.{◌≡◌, ℕ, ◌≤◌, List, length, Result, Ok, Err, IfOk, IfErr, sym, ap, arith}
use Rattle.std.specs.List.Sorted.{IsSearchInRange, IsBinarySearchResult, IsNonDecreasingBy}
use Rattle.std.specs.Ordering.{nat_cmp, ordering_index}
use Rattle.std.proofs.lemmas.Cmp.{ranked}
use Rattle.std.proofs.lemmas.List.Sorted.{IsNonDecreasingBy-from_default}
use Rattle.std.proofs.lemmas.Bool.Decides.{nat_tests}
use Rattle.ax_store.specs.declared.row.Row.{Row}
use Rattle.ax_store.specs.Rows.{no_row, number_at, AreRising, IsAt, IsGapFor}

module _ (rows : List Row) (rising : AreRising rows) (k : ℕ) where
  comparisons_rise : IsNonDecreasingBy (λ row. ordering_index (nat_cmp row.number k)) rows
  comparisons_rise = IsNonDecreasingBy-from_default (λ row. ordering_index (nat_cmp row.number k)) rows no_row (λ i j le in_range.
      let numbers_rise : number_at rows i ≤ number_at rows j = grind (arith, rising i j, λ (same : i ≡ j). ap (number_at rows) same) in
      grind (arith, nat_tests))

  pub searched : (r : Result ℕ ℕ) → IsSearchInRange r (length rows) → IsBinarySearchResult (λ row. nat_cmp row.number k) rows r
      → record { found : IfOk r (IsAt rows k); absent : IfErr r (IsGapFor rows k) }
  searched (Ok at) in_range equal = record { found = record { in_range = in_range; has = ranked _ k _ (sym (equal no_row)) }; absent = tt }
  searched (Err at) in_range parted = record {
    found = tt;
    absent = record {
      in_range = in_range;
      before = λ j lt. ranked _ k _ (sym ((parted comparisons_rise).0 j no_row (omega arith) lt));
      behind = λ j le lt. ranked _ k _ (sym ((parted comparisons_rise).1 j no_row le lt));
    };
  }

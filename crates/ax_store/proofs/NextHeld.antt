-- The least number above another that rows hold.
use Rattle.std.proofs.Common.{◌≡◌, ℕ, suc, ◌+◌, ◌<◌, ◌≤◌, true, List, [], ◌∷◌, length, get_or, None, is_some, refl, ap, ◌∙◌, inl, inr, arith}
use Rattle.std.specs.Prelude.{◌⊎◌}
use Rattle.std.specs.FinMap as map
use Rattle.std.proofs.lemmas.Bool.{cases_lt}
use Rattle.ax_store.specs.declared.row.Row.{Row}
use Rattle.ax_store.specs.Rows.{row_at, number_at, AreRising, IsAt, IsGapFor, IsFirstAbove, map_of, payload_kept}
use Rattle.ax_store.specs.Listed.{IsNextAfter}
use Rattle.ax_store.proofs.RowMaps.{found, found_cons_none, got, held_at, row_is}

-- a number of which no row has a part is not found
pub found_nowhere : (rows : List Row) (q : ℕ) → ((j : ℕ) → j < length rows → number_at rows j ≡ q → (row_at rows j).part ≡ None)
    → found payload_kept q rows ≡ None
found_nowhere [] q none = refl
found_nowhere (row ∷ rows) q none =
    found_cons_none payload_kept row rows q (λ e. none 0 (omega arith) e) (found_nowhere rows q (λ j lt e. none (suc j) (omega arith) e))

pub above_at : (rows : List Row) (after i : ℕ) → AreRising rows → IsAt rows after i → IsFirstAbove rows after (i + 1)
above_at rows after i rising at = record {
  in_range = omega (arith, at.in_range);
  before = λ j lt. up_to j lt (cases_lt j i);
  behind = λ j le lt. omega (arith, rising i j (omega arith) lt, at.has);
}
  where
    up_to : (j : ℕ) → j < i + 1 → (j < i) ⊎ (i ≤ j) → number_at rows j ≤ after
    up_to j lt (inl below) = omega (arith, rising j i below at.in_range, at.has)
    up_to j lt (inr from) = let same : j ≡ i = omega arith in omega (arith, ap (number_at rows) same, at.has)

pub above_gap : (rows : List Row) (after i : ℕ) → IsGapFor rows after i → IsFirstAbove rows after i
above_gap rows after i gap = record {
  in_range = gap.in_range;
  before = λ j lt. omega (arith, gap.before j lt);
  behind = λ j le lt. gap.behind j le lt;
}

-- from the position on up to another, no row has a part
abbrev pub NonePart : List Row → ℕ → ℕ → Type 0
NonePart rows from at = (j : ℕ) → from ≤ j → j < at → (row_at rows j).part ≡ None

module _ (rows : List Row) (rising : AreRising rows) (after from : ℕ) (above : IsFirstAbove rows after from) where
  -- between, nothing is found
  none_between : (at q : ℕ) → NonePart rows from at → after < q → ((j : ℕ) → j < length rows → number_at rows j ≡ q → j < at)
      → map.get (map_of payload_kept rows) q ≡ None
  none_between at q none lt before =
      got payload_kept rows q
      ∙ found_nowhere rows q (λ j in_range e. none j (from_on j e (cases_lt j from)) (before j in_range e))
    where
      from_on : (j : ℕ) → number_at rows j ≡ q → (j < from) ⊎ (from ≤ j) → from ≤ j
      from_on j e (inl below) = absurd (omega (arith, above.before j below, e, lt))
      from_on j e (inr le) = le

  pub none_above : (at : ℕ) → NonePart rows from at → length rows ≤ at → (q : ℕ) → after < q → map.get (map_of payload_kept rows) q ≡ None
  none_above at none le q lt = none_between at q none lt (λ j in_range e. omega (arith, in_range, le))

  pub first_found : (at : ℕ) (row : Row) → NonePart rows from at → from ≤ at → at < length rows → row ≡ get_or rows at row
      → is_some row.part ≡ true → IsNextAfter (map_of payload_kept rows) after row.number
  first_found at row none le lt is held =
      let here : row_at rows at ≡ row = row_is rows at row lt is in
      let number : number_at rows at ≡ row.number = ap (λ (r : Row). r.number) here in
      let there : IsAt rows row.number at = record { in_range = lt; has = number } in record {
        above = omega (arith, above.behind at le lt, number);
        held = held_at payload_kept rows rising row.number at there ∙ ap (λ (r : Row). is_some r.part) here ∙ held;
        least = λ between more less. none_between at between none more (λ j in_range e. before_at between j number in_range e less (cases_lt j at));
      }
    where
      behind : (between j : ℕ) → number_at rows at ≡ row.number → j < length rows → number_at rows j ≡ between → between < row.number
          → at ≤ j → (at < j) ⊎ (j ≤ at) → j < at
      behind between j number in_range e less from_at (inl more) = absurd (omega (arith, rising at j more in_range, number, e, less))
      behind between j number in_range e less from_at (inr le) =
          let same : at ≡ j = omega arith in absurd (omega (arith, ap (number_at rows) same, number, e, less))

      before_at : (between j : ℕ) → number_at rows at ≡ row.number → j < length rows → number_at rows j ≡ between → between < row.number
          → (j < at) ⊎ (at ≤ j) → j < at
      before_at between j number in_range e less (inl below) = below
      before_at between j number in_range e less (inr from_at) = behind between j number in_range e less from_at (cases_lt at j)

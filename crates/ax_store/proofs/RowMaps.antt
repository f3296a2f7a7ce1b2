-- What a change of one row makes of the map that rows show.
use Rattle.std.proofs.Common.{◌≡◌, ℕ, zero, suc, ◌+◌, ◌-◌, ◌<◌, ◌≤◌, Bool, true, false, List, [], ◌∷◌, length, get_or, set, Option, Some, None}
use Rattle.std.proofs.Common.{is_some, refl, sym, ap, subst, ◌∙◌, arith}
use Rattle.std.specs.Prelude.{◌≢◌, option_map, if◌then◌else◌}
use Rattle.std.specs.List.{insert}
use Rattle.std.specs.Option.{option_copied}
use Rattle.std.specs.Borrow.{Bor}
use Rattle.std.specs.Ordering.{nat_cmp, eq_by_cmp}
use Rattle.std.specs.Cmp.{nat_cmp_total}
use Rattle.std.specs.FinMap as map
use Rattle.std.proofs.lemmas.List.Edits.{length-insert, get_or-insert_below, get_or-insert_at, get_or-insert_above}
use Rattle.std.proofs.lemmas.List.{get_or_default}
use Rattle.std.proofs.lemmas.Grind.{common_steps}
use Rattle.ax_pages.proofs.LastPart.{same_number, other_number, tie}
use Rattle.ax_store.specs.declared.row.Row.{Row}
use Rattle.ax_store.specs.declared.kept_part.KeptPart.{KeptPart}
use Rattle.ax_store.specs.Rows.{no_row, row_at, number_at, AreRising, add_entry, entries_of, map_of, IsAt, IsGapFor}

abbrev NotBefore : List Row → ℕ → ℕ → Type 0
NotBefore rows k i = (j : ℕ) → j < i → number_at rows j ≢ k

abbrev NotBehind : List Row → ℕ → ℕ → Type 0
NotBehind rows k i = (j : ℕ) → i < j → j < length rows → number_at rows j ≢ k

not_before_tail : (row : Row) (rows : List Row) (k i : ℕ) → NotBefore (row ∷ rows) k (suc i) → NotBefore rows k i
not_before_tail row rows k i none j lt = none (suc j) (omega arith)

not_behind_tail : (row : Row) (rows : List Row) (k i : ℕ) → NotBehind (row ∷ rows) k (suc i) → NotBehind rows k i
not_behind_tail row rows k i none j lt in_range = none (suc j) (omega arith) (omega arith)

shadowed : {A : Type 0} (b : Bool) (x y z : A) → (if b then x else z) ≡ (if b then x else (if b then y else z))
shadowed true x y z = refl
shadowed false x y z = refl

equal_numbers : (m n : ℕ) → eq_by_cmp nat_cmp m n ≡ true → m ≡ n
equal_numbers m n is = map.nat_cmp-IsAntisymmetric m n (tie (nat_cmp m n) is)

is_some-option_map : {X Y : Type 0} (f : X → Y) (o : Option X) → is_some (option_map f o) ≡ is_some o
is_some-option_map f None = refl
is_some-option_map f (Some x) = refl

module _ {X : Type 0} where
  -- what is found after x is put over a number
  abbrev pub put_over : ℕ → ℕ → Option X → Option X → Option X
  put_over q k x before = if eq_by_cmp nat_cmp q k then x else before

  abbrev look : ℕ → List (ℕ × X) → Option X
  look q es = map.find nat_cmp q es

  abbrev add : ℕ → Option X → List (ℕ × X) → List (ℕ × X)
  add number None es = es
  add number (Some x) es = (number, x) ∷ es

  -- an entry of the same number is hidden by what is put over it
  over_same : (number k q : ℕ) (o x : Option X) (es : List (ℕ × X)) → number ≡ k
      → put_over q k x (look q es) ≡ put_over q k x (look q (add number o es))
  over_same number k q None x es e = refl
  over_same number k q (Some y) x es e =
      shadowed (eq_by_cmp nat_cmp q k) x (Some y) (look q es)
      ∙ ap (λ n. put_over q k x (if eq_by_cmp nat_cmp q n then Some y else look q es)) (sym e)

  -- an entry of another number stays in front
  over_other : (number k q : ℕ) (o x : Option X) (es fs : List (ℕ × X)) → number ≢ k
      → look q es ≡ put_over q k x (look q fs) → look q (add number o es) ≡ put_over q k x (look q (add number o fs))
  over_other number k q None x es fs apart e = e
  over_other number k q (Some y) x es fs apart e =
      elim (eq_by_cmp nat_cmp q number) as
      (λ b. eq_by_cmp nat_cmp q number ≡ b → (if b then Some y else look q es) ≡ put_over q k x (if b then Some y else look q fs)) [
        | true ↦ λ is.
            let differs : eq_by_cmp nat_cmp q k ≡ false = ap (λ n. eq_by_cmp nat_cmp n k) (equal_numbers q number is) ∙ other_number number k apart in
            ap (λ b. if b then x else Some y) (sym differs)
        | false ↦ λ is. e
      ] refl

  -- where the number is not found, putting nothing over it changes nothing
  over_nothing : (k q : ℕ) (es : List (ℕ × X)) → look k es ≡ None → look q es ≡ put_over q k None (look q es)
  over_nothing k q es none =
      elim (eq_by_cmp nat_cmp q k) as (λ b. eq_by_cmp nat_cmp q k ≡ b → look q es ≡ (if b then None else look q es)) [
        | true ↦ λ is. ap (λ n. look n es) (equal_numbers q k is) ∙ none
        | false ↦ λ is. refl
      ] refl

  look_other : (number k : ℕ) (o : Option X) (es : List (ℕ × X)) → number ≢ k → look k (add number o es) ≡ look k es
  look_other number k None es apart = refl
  look_other number k (Some x) es apart = ap (λ b. if b then Some x else look k es) (other_number k number (λ e. apart (sym e)))

  look_same : (number k : ℕ) (o : Option X) (es : List (ℕ × X)) → number ≡ k → look k es ≡ None → look k (add number o es) ≡ o
  look_same number k None es e none = none
  look_same number k (Some x) es e none =
      ap (λ n. if eq_by_cmp nat_cmp k n then Some x else look k es) e ∙ ap (λ b. if b then Some x else look k es) (same_number k)

none_is_some : {A : Type 0} (x : A) → None ≡ Some x → ⊥
none_is_some x e = cc

module _ {X : Type 0} (shown : KeptPart → X) where
  abbrev pub found : ℕ → List Row → Option X
  found q rows = map.find nat_cmp q (entries_of shown rows)

  abbrev shown_of : Row → Option X
  shown_of row = option_map shown row.part

  added : (row : Row) (es : List (ℕ × X)) → add_entry shown row.number (shown_of row) es ≡ add row.number (shown_of row) es
  added row es = elim (shown_of row) as (λ o. add_entry shown row.number o es ≡ add row.number o es) [ None ↦ refl | Some x ↦ refl ]

  -- what is looked up of a row and those behind it
  looked : (q : ℕ) (row : Row) (rows : List Row) → found q (row ∷ rows) ≡ look q (add row.number (shown_of row) (entries_of shown rows))
  looked q row rows = ap (map.find nat_cmp q) (added row (entries_of shown rows))

  found_none : (rows : List Row) (k : ℕ) → ((j : ℕ) → j < length rows → number_at rows j ≢ k) → found k rows ≡ None
  found_none [] k none = refl
  found_none (row ∷ rows) k none =
      looked k row rows ∙ look_other row.number k (shown_of row) (entries_of shown rows) (none 0 (omega arith))
      ∙ found_none rows k (λ j lt. none (suc j) (omega arith))

  -- a row of another number, or with no part, is passed over
  passed : (row : Row) (q : ℕ) (o : Option X) (es : List (ℕ × X)) → shown_of row ≡ o → (row.number ≡ q → row.part ≡ None) → look q es ≡ None
      → look q (add row.number o es) ≡ None
  passed row q None es is none rest = rest
  passed row q (Some x) es is none rest =
      elim (eq_by_cmp nat_cmp q row.number) as (λ b. eq_by_cmp nat_cmp q row.number ≡ b → (if b then Some x else look q es) ≡ None) [
        | true ↦ λ same. absurd (none_is_some x (sym (ap (option_map shown) (none (sym (equal_numbers q row.number same)))) ∙ is))
        | false ↦ λ other. rest
      ] refl

  pub found_cons_none : (row : Row) (rows : List Row) (q : ℕ) → (row.number ≡ q → row.part ≡ None) → found q rows ≡ None → found q (row ∷ rows) ≡ None
  found_cons_none row rows q none rest = looked q row rows ∙ passed row q (shown_of row) (entries_of shown rows) refl none rest

  found_at : (rows : List Row) (i k : ℕ) → i < length rows → number_at rows i ≡ k → NotBefore rows k i → NotBehind rows k i
      → found k rows ≡ shown_of (row_at rows i)
  found_at [] i k lt at none behind = absurd (omega arith)
  found_at (row ∷ rows) zero k lt at none behind =
      looked k row rows
      ∙ look_same row.number k (shown_of row) (entries_of shown rows) at (found_none rows k (λ j below. behind (suc j) (omega arith) (omega arith)))
  found_at (row ∷ rows) (suc i) k lt at none behind =
      looked k row rows ∙ look_other row.number k (shown_of row) (entries_of shown rows) (none 0 (omega arith))
      ∙ found_at rows i k (omega arith) at (not_before_tail row rows k i none) (not_behind_tail row rows k i behind)

  -- a row of the number is given a part
  found_set : (rows : List Row) (i k q : ℕ) (new : Row) (x : X) → i < length rows → number_at rows i ≡ k → new.number ≡ k
      → shown_of new ≡ Some x → NotBefore rows k i
      → found q (set rows i new) ≡ put_over q k (Some x) (found q rows)
  found_set [] i k q new x lt at is part none = absurd (omega arith)
  found_set (row ∷ rows) zero k q new x lt at is part none =
      looked q new rows
      ∙ ap (λ o. look q (add new.number o (entries_of shown rows))) part
      ∙ ap (λ n. if eq_by_cmp nat_cmp q n then Some x else look q (entries_of shown rows)) is
      ∙ over_same row.number k q (shown_of row) (Some x) (entries_of shown rows) at
      ∙ ap (put_over q k (Some x)) (sym (looked q row rows))
  found_set (row ∷ rows) (suc i) k q new x lt at is part none =
      looked q row (set rows i new)
      ∙ over_other row.number k q (shown_of row) (Some x) (entries_of shown (set rows i new)) (entries_of shown rows) (none 0 (omega arith))
      (found_set rows i k q new x (omega arith) at is part (not_before_tail row rows k i none))
      ∙ ap (put_over q k (Some x)) (sym (looked q row rows))

  -- a row of the number loses its part
  found_clear : (rows : List Row) (i k q : ℕ) (new : Row) → i < length rows → number_at rows i ≡ k → shown_of new ≡ None
      → NotBefore rows k i → NotBehind rows k i
      → found q (set rows i new) ≡ put_over q k None (found q rows)
  found_clear [] i k q new lt at part none behind = absurd (omega arith)
  found_clear (row ∷ rows) zero k q new lt at part none behind =
      looked q new rows
      ∙ ap (λ o. look q (add new.number o (entries_of shown rows))) part
      ∙ over_nothing k q (entries_of shown rows) (found_none rows k (λ j below. behind (suc j) (omega arith) (omega arith)))
      ∙ over_same row.number k q (shown_of row) None (entries_of shown rows) at
      ∙ ap (put_over q k None) (sym (looked q row rows))
  found_clear (row ∷ rows) (suc i) k q new lt at part none behind =
      looked q row (set rows i new)
      ∙ over_other row.number k q (shown_of row) None (entries_of shown (set rows i new)) (entries_of shown rows) (none 0 (omega arith))
      (found_clear rows i k q new (omega arith) at part (not_before_tail row rows k i none) (not_behind_tail row rows k i behind))
      ∙ ap (put_over q k None) (sym (looked q row rows))

  -- a row is put in
  found_insert : (rows : List Row) (i k q : ℕ) (new : Row) (x : X) → i ≤ length rows → new.number ≡ k → shown_of new ≡ Some x → NotBefore rows k i
      → found q (insert rows i new) ≡ put_over q k (Some x) (found q rows)
  found_insert rows zero k q new x le is part none =
      looked q new rows
      ∙ ap (λ o. look q (add new.number o (entries_of shown rows))) part
      ∙ ap (λ n. if eq_by_cmp nat_cmp q n then Some x else look q (entries_of shown rows)) is
  found_insert [] (suc i) k q new x le is part none = absurd (omega arith)
  found_insert (row ∷ rows) (suc i) k q new x le is part none =
      looked q row (insert rows i new)
      ∙ over_other row.number k q (shown_of row) (Some x) (entries_of shown (insert rows i new)) (entries_of shown rows) (none 0 (omega arith))
      (found_insert rows i k q new x (omega arith) is part (not_before_tail row rows k i none))
      ∙ ap (put_over q k (Some x)) (sym (looked q row rows))

  -- ---- the same of maps

  pub got : (rows : List Row) (q : ℕ) → map.get (map_of shown rows) q ≡ found q rows
  got rows q = map.get-from_entries nat_cmp_total (entries_of shown rows) q

  map_put : (rows new : List Row) (k : ℕ) (x : X) → ((q : ℕ) → found q new ≡ put_over q k (Some x) (found q rows))
      → map_of shown new ≡ map.insert (map_of shown rows) k x
  map_put rows new k x is =
      map.same_map nat_cmp_total map.nat_cmp-IsAntisymmetric _ _ (λ q.
      got new q ∙ is q ∙ ap (put_over q k (Some x)) (sym (got rows q)) ∙ sym (map.get-insert nat_cmp_total (map_of shown rows) k x q))

  map_cleared : (rows new : List Row) (k : ℕ) → ((q : ℕ) → found q new ≡ put_over q k None (found q rows)) → map_of shown new ≡ map.remove (map_of shown rows) k
  map_cleared rows new k is =
      map.same_map nat_cmp_total map.nat_cmp-IsAntisymmetric _ _ (λ q.
      got new q ∙ is q ∙ ap (put_over q k None) (sym (got rows q)) ∙ sym (map.get-remove nat_cmp_total (map_of shown rows) k q))

  module _ (rows : List Row) (rising : AreRising rows) (k i : ℕ) (at : IsAt rows k i) where
    not_before : NotBefore rows k i
    not_before j lt e = omega (arith, rising j i lt at.in_range, at.has, e)

    not_behind : NotBehind rows k i
    not_behind j lt in_range e = omega (arith, rising i j lt in_range, at.has, e)

    pub get_at : map.get (map_of shown rows) k ≡ option_map shown (row_at rows i).part
    get_at = got rows k ∙ found_at rows i k at.in_range at.has not_before not_behind

    pub held_at : map.contains_key (map_of shown rows) k ≡ is_some (row_at rows i).part
    held_at = ap is_some get_at ∙ is_some-option_map shown (row_at rows i).part

    pub map_set : (new : Row) (x : X) → new.number ≡ k → option_map shown new.part ≡ Some x → map_of shown (set rows i new) ≡ map.insert (map_of shown rows) k x
    map_set new x is part = map_put rows (set rows i new) k x (λ q. found_set rows i k q new x at.in_range at.has is part not_before)

    pub map_clear : (new : Row) → option_map shown new.part ≡ None → map_of shown (set rows i new) ≡ map.remove (map_of shown rows) k
    map_clear new part = map_cleared rows (set rows i new) k (λ q. found_clear rows i k q new at.in_range at.has part not_before not_behind)

  module _ (rows : List Row) (k i : ℕ) (gap : IsGapFor rows k i) where
    nowhere : (j : ℕ) → j < length rows → number_at rows j ≢ k
    nowhere j lt e = grind (arith, gap.before j, gap.behind j)

    pub get_in_gap : map.get (map_of shown rows) k ≡ None
    get_in_gap = got rows k ∙ found_none rows k nowhere

    pub held_in_gap : map.contains_key (map_of shown rows) k ≡ false
    held_in_gap = ap is_some get_in_gap

    pub map_inserted : (new : Row) (x : X) → new.number ≡ k → option_map shown new.part ≡ Some x
        → map_of shown (insert rows i new) ≡ map.insert (map_of shown rows) k x
    map_inserted new x is part =
        map_put rows (insert rows i new) k x
        (λ q. found_insert rows i k q new x gap.in_range is part (λ j lt. nowhere j (omega (arith, gap.in_range))))

    -- nothing was there to take away
    pub map_unchanged : map_of shown rows ≡ map.remove (map_of shown rows) k
    map_unchanged = map_cleared rows rows k (λ q. over_nothing k q (entries_of shown rows) (found_none rows k nowhere))

-- ---- order

pub rising_set : (rows : List Row) (i k : ℕ) (new : Row) → AreRising rows → IsAt rows k i → new.number ≡ k → AreRising (set rows i new)
rising_set rows i k new rising at is a b lt in_range = grind (arith, common_steps, rising a b, rising a i, rising i b, at.in_range, at.has)

pub rising_insert : (rows : List Row) (i k : ℕ) (new : Row) → AreRising rows → IsGapFor rows k i → new.number ≡ k → AreRising (insert rows i new)
rising_insert rows i k new rising gap is a b lt in_range =
    let longer = insert rows i new in
    let number = λ (row : Row). row.number in
    let length_new = length-insert rows i new gap.in_range in
    let below : (j : ℕ) → j < i → number_at longer j ≡ number_at rows j = λ j lt. ap number (get_or-insert_below rows i new no_row j lt gap.in_range) in
    let here : (j : ℕ) → j ≡ i → number_at longer j ≡ k = λ j e. rw e (ap number (get_or-insert_at rows i new no_row gap.in_range) ∙ is) in
    let above : (j : ℕ) → i < j → number_at longer j ≡ number_at rows (j - 1) =
    λ j lt. subst (λ q. number_at longer q ≡ number_at rows (j - 1)) {x = j - 1 + 1} (omega arith)
    (ap number (get_or-insert_above rows i new no_row (j - 1) (omega arith) gap.in_range)) in
    grind (arith, below a, here a, above a, below b, here b, above b, rising a b, rising a (b - 1), rising (a - 1) (b - 1), gap.before a, gap.behind (b - 1))

-- the row that a read or a write by position meets
pub row_is : (rows : List Row) (i : ℕ) (row : Row) → i < length rows → row ≡ get_or rows i row → row_at rows i ≡ row
row_is rows i row lt is = get_or_default rows i no_row row lt ∙ sym is

pub number_is : (rows : List Row) (k i : ℕ) (row : Row) → IsAt rows k i → row ≡ get_or rows i row → row.number ≡ k
number_is rows k i row at is = ap (λ (r : Row). r.number) (sym (row_is rows i row at.in_range is)) ∙ at.has

pub is_some_is : (rows : List Row) (k i : ℕ) (row : Row) (b : Bool) → IsAt rows k i → row ≡ get_or rows i row → b ≡ is_some row.part
    → b ≡ is_some (row_at rows i).part
is_some_is rows k i row b at is e = e ∙ ap (λ (r : Row). is_some r.part) (sym (row_is rows i row at.in_range is))

shown_copied : {X : Type 0} (shown : KeptPart → X) (part : Option (Bor KeptPart))
    → option_map (λ (p : Bor KeptPart). shown p.now) part ≡ option_map shown (option_copied part)
shown_copied shown None = refl
shown_copied shown (Some part) = refl

-- what is shown of the part that was read
pub shown_at : {X : Type 0} (shown : KeptPart → X) (rows : List Row) (rising : AreRising rows) (k i : ℕ) (row : Row) (part : Option (Bor KeptPart))
    → IsAt rows k i → row ≡ get_or rows i row → option_copied part ≡ row.part
    → option_map (λ (p : Bor KeptPart). shown p.now) part ≡ map.get (map_of shown rows) k
shown_at shown rows rising k i row part at is copied =
    shown_copied shown part ∙ ap (option_map shown) (copied ∙ ap (λ (r : Row). r.part) (sym (row_is rows i row at.in_range is)))
    ∙ sym (get_at shown rows rising k i at)

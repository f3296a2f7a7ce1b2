-- Of numbers that rise the documents are the same, in the same order, fetched number by number or chosen from all.
use Rattle.std.proofs.Common.{◌≡◌, ℕ, ◌+◌, ◌<◌, ◌≤◌, List, [], ◌∷◌, ◌++◌, map, Bool, true, cond, Option, Some, None}
use Rattle.std.proofs.Common.{option_map, refl, sym, ap, ap₂, ◌∙◌, arith, ⊎_elim}
use Rattle.std.proofs.lemmas.Bool.{cases_order, eq-eqb}
use Rattle.std.proofs.lemmas.List.{append-nil}
use Rattle.std.proofs.lemmas.List.Elements.{filter_map-append}
use Rattle.std.specs.List.{filter, filter_map, cons_option}
use Rattle.ax_tree.specs.declared.tree.Tree.{Tree}
use Rattle.ax_gap.specs.Gaps.{IsRisingList}
use Rattle.ax_gap.proofs.Rising.{RisesFrom, rises}
use Rattle.ax_delta.specs.Said.{has_number}
use Rattle.ax_delta.proofs.Numbers.{below_all}
use Rattle.ax_container.specs.Container.{Container, Entry, IsSound, NumbersRise, entry_at}
use Rattle.ax_container.proofs.ByNumber.{below_apart, none_up_to}
use Rattle.ax_skips.specs.Chosen.{chosen, document_at, fetched}

abbrev pub document : Entry → ℕ × Tree
document entry = (entry.number, entry.tree)

-- the document has one of the numbers
abbrev pub is_in : List ℕ → ℕ × Tree → Bool
is_in numbers given = has_number given.0 numbers

-- what is fetched for a number
abbrev pub found : List Entry → ℕ → Option (ℕ × Tree)
found entries number = option_map (λ (entry : Entry). (number, entry.tree)) (entry_at number entries)

abbrev Same : List Entry → List ℕ → Type 0
Same entries numbers = filter (is_in numbers) (map document entries) ≡ filter_map (found entries) numbers

none_found : (numbers : List ℕ) → filter_map (found []) numbers ≡ []
none_found [] = refl
none_found (n ∷ numbers) = none_found numbers

none_chosen : (documents : List (ℕ × Tree)) → filter (is_in []) documents ≡ []
none_chosen [] = refl
none_chosen (d ∷ documents) = none_chosen documents

-- an entry before all of the numbers is not fetched
later : (e : Entry) (es : List Entry) (numbers : List ℕ) (least : ℕ) → e.number < least → RisesFrom least numbers
    → filter_map (found (e ∷ es)) numbers ≡ filter_map (found es) numbers
later e es [] least low rise = refl
later e es (n ∷ numbers) least low rise =
    ap₂ (λ (o : Option (ℕ × Tree)) rest. cons_option o rest)
    (ap (λ b. option_map (λ (entry : Entry). (n, entry.tree)) (cond b (Some e) (entry_at n es)))
    (below_apart e.number n (omega (arith, low, rise.0))))
    (later e es numbers (n + 1) (omega (arith, low, rise.0)) rise.2)

-- a number before all entries chooses none
without_first : (n : ℕ) (numbers : List ℕ) (es : List Entry) (before next : ℕ) → NumbersRise before es next → n ≤ before
    → filter (is_in (n ∷ numbers)) (map document es) ≡ filter (is_in numbers) (map document es)
without_first n numbers [] before next rise less = refl
without_first n numbers (e ∷ es) before next rise less =
    ap₂ (λ (b : Bool) (rest : List (ℕ × Tree)). cond b (document e ∷ rest) rest)
    (ap (λ b. cond b true (has_number e.number numbers)) (below_apart n e.number (omega (arith, rise.0, less))))
    (without_first n numbers es e.number next rise.1 (omega (arith, rise.0, less)))

module _ (e : Entry) (es : List Entry) (before next : ℕ) (rise : NumbersRise before (e ∷ es) next)
    (rest : (numbers : List ℕ) (least : ℕ) → RisesFrom least numbers → Same es numbers) where
  -- the first number is that of the first entry
  both : (n : ℕ) (numbers : List ℕ) → e.number ≡ n → RisesFrom (n + 1) numbers → Same (e ∷ es) (n ∷ numbers)
  both n numbers same up =
      let others : List (ℕ × Tree) = filter (is_in (n ∷ numbers)) (map document es) in
      let fetches : List (ℕ × Tree) = filter_map (found (e ∷ es)) numbers in
      let chooses : has_number e.number (n ∷ numbers) ≡ true =
      ap (λ b. cond b true (has_number e.number numbers)) (eq-eqb n e.number (sym same)) in
      let finds : found (e ∷ es) n ≡ Some (n, e.tree) =
      ap (λ b. option_map (λ (entry : Entry). (n, entry.tree)) (cond b (Some e) (entry_at n es))) (eq-eqb e.number n same) in
      ap (λ b. cond b (document e ∷ others) others) chooses
      ∙ ap (λ ds. document e ∷ ds) (without_first n numbers es e.number next rise.1 (omega (arith, same))
      ∙ rest numbers (n + 1) up
      ∙ sym (later e es numbers (n + 1) (omega (arith, same)) up))
      ∙ ap (λ m. (m, e.tree) ∷ fetches) same
      ∙ ap (λ o. cons_option o fetches) (sym finds)

  -- the first entry is before all numbers
  entry_alone : (n : ℕ) (numbers : List ℕ) → e.number < n → RisesFrom n (n ∷ numbers) → Same (e ∷ es) (n ∷ numbers)
  entry_alone n numbers low up =
      let others : List (ℕ × Tree) = filter (is_in (n ∷ numbers)) (map document es) in
      ap (λ b. cond b (document e ∷ others) others) (below_all e.number n (n ∷ numbers) up low)
      ∙ rest (n ∷ numbers) n up
      ∙ sym (later e es (n ∷ numbers) n low up)

  -- the first number is before all entries
  number_alone : (n : ℕ) (numbers : List ℕ) → n < e.number → Same (e ∷ es) numbers → Same (e ∷ es) (n ∷ numbers)
  number_alone n numbers low same =
      let above : NumbersRise n (e ∷ es) next = (low, rise.1) in
      let finds : found (e ∷ es) n ≡ None =
      ap (option_map (λ (entry : Entry). (n, entry.tree))) (none_up_to (e ∷ es) n next n above (omega arith)) in
      without_first n numbers (e ∷ es) n next above (omega arith)
      ∙ same
      ∙ ap (λ o. cons_option o (filter_map (found (e ∷ es)) numbers)) (sym finds)

  one_more : (numbers : List ℕ) (least : ℕ) → RisesFrom least numbers → Same (e ∷ es) numbers
  one_more [] least up = none_chosen (map document (e ∷ es))
  one_more (n ∷ numbers) least up =
      ⊎_elim {C = Same (e ∷ es) (n ∷ numbers)}
      (λ (same : e.number ≡ n). both n numbers same up.2)
      (⊎_elim {C = Same (e ∷ es) (n ∷ numbers)}
      (λ (low : e.number < n). entry_alone n numbers low (omega arith, up.1, up.2))
      (λ (low : n < e.number). number_alone n numbers low (one_more numbers (n + 1) up.2)))
      (cases_order e.number n)

fetches : (es : List Entry) (before next : ℕ) → NumbersRise before es next → (numbers : List ℕ) (least : ℕ)
    → RisesFrom least numbers → Same es numbers
fetches [] before next rise numbers least up = sym (none_found numbers)
fetches (e ∷ es) before next rise numbers least up =
    one_more e es before next rise (fetches es e.number next rise.1) numbers least up

pub fetched_are_chosen : (container : Container) (numbers : List ℕ) → IsSound container → IsRisingList numbers
    → fetched numbers container ≡ chosen numbers container
fetched_are_chosen container numbers sound rising =
    sym (fetches container.entries 0 container.next_number sound.numbers numbers 0 (rises numbers rising))

-- ---- number by number

module _ (container : Container) (numbers : List ℕ) where
  pub fetched_more : (others : List ℕ) → fetched (numbers ++ others) container ≡ fetched numbers container ++ fetched others container
  fetched_more others = filter_map-append (document_at container) numbers others

  one_fetched : (number : ℕ) (o : Option (ℕ × Tree)) → document_at container number ≡ o
      → fetched (numbers ++ number ∷ []) container ≡ fetched numbers container ++ cons_option o []
  one_fetched number o is =
      fetched_more (number ∷ []) ∙ ap (λ (x : Option (ℕ × Tree)). fetched numbers container ++ cons_option x []) is

  pub fetched_one : (number : ℕ) (tree : Tree) → document_at container number ≡ Some (number, tree)
      → fetched (numbers ++ number ∷ []) container ≡ fetched numbers container ++ (number, tree) ∷ []
  fetched_one number tree is = one_fetched number (Some (number, tree)) is

  pub fetched_none : (number : ℕ) → document_at container number ≡ None
      → fetched (numbers ++ number ∷ []) container ≡ fetched numbers container
  fetched_none number is = one_fetched number None is ∙ append-nil (fetched numbers container)

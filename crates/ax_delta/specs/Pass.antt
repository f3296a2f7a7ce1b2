-- A merge of rising pairs with rising changes as a function on lists. Only clauses of private functions
-- cite it: what a merge is, `IsMerge` says.
use Rattle.std.specs.Prelude.{◌≡◌, ◌≤◌, ℕ, List, [], ◌∷◌, ◌++◌, length, take, drop, slice_get, IfSome, Bool, true, false, Option, Some, None, if◌then◌else◌}
use Rattle.std.specs.declared.cmp.Ordering.{Ordering}
use Rattle.std.specs.declared.cmp.Ordering.TheVariants.{Less, Equal, Greater}
use Rattle.ax_pair.specs.declared.pair.Pair.{Pair}
use Rattle.ax_pair.specs.Order.{pair_cmp, Rise}
use Rattle.ax_delta.specs.declared.change.Change.{Change}

abbrev pub put_where : Bool → Pair → List Pair → List Pair
put_where add p pairs = if add then p ∷ pairs else pairs

-- the pairs that changes add where there are no others
abbrev pub added_by : List Change → List Pair
added_by [] = []
added_by (change ∷ changes) = put_where change.add change.pair (added_by changes)

-- one of three, by an order
abbrev pub by_order : Ordering → List Pair → List Pair → List Pair → List Pair
by_order Less less equal greater = less
by_order Equal less equal greater = equal
by_order Greater less equal greater = greater

-- a pair put among changes; `others` gives what the changes behind it make of the pairs behind it
abbrev pub put_among : Pair → (List Change → List Pair) → List Change → List Pair
put_among p others [] = p ∷ others []
put_among p others (change ∷ changes) =
    by_order (pair_cmp change.pair p)
    (put_where change.add change.pair (put_among p others changes))
    (put_where change.add p (others changes))
    (p ∷ others (change ∷ changes))

-- how the pair of the first change compares with a pair
abbrev pub first_cmp : List Change → Pair → Option Ordering
first_cmp [] p = None
first_cmp (change ∷ changes) p = Some (pair_cmp change.pair p)

unfoldable pub merged : List Pair → List Change → List Pair
merged [] changes = added_by changes
merged (p ∷ pairs) changes = put_among p (merged pairs) changes

-- the pairs before a place as they are, and those from it on with the changes
abbrev pub merged_from : ℕ → List Pair → List Change → List Pair
merged_from at pairs changes = take at pairs ++ merged (drop at pairs) changes

-- the pair is not before that of the first change
abbrev pub IsNotPassed : List Change → Pair → Type 0
IsNotPassed changes p = first_cmp changes p ≡ Some Greater → ⊥

-- the place of a pair among rising ones: it is there, or the one there is greater
abbrev pub IsPlaceOf : Bool → ℕ → Pair → List Pair → Type 0
IsPlaceOf true at p pairs = slice_get pairs at ≡ Some p
IsPlaceOf false at p pairs = IfSome (slice_get pairs at) (λ q. pair_cmp p q ≡ Less)

-- A change of a pair is made at its place: with those from the next place on, others make what all make.
pub record IsMadeAt (add : Bool) (at : ℕ) (p : Pair) (before : List Pair) (next : ℕ) (after : List Pair) : Type 0 where
  pub within : next ≤ length after
  pub rise : Rise (drop next after)
  pub made : (others : List Change) → merged_from next after others ≡ merged_from at before (record { add = add; pair = p } ∷ others)

-- The changes of moves, one behind another, exchange the pairs of all their documents.
use Rattle.std.proofs.Common.{ℕ, ◌<◌, ◌≤◌, List, [], ◌∷◌, length, get_or, Bool, Option, Some, ◌⊎◌, ⊎_elim, arith}
use Rattle.std.proofs.lemmas.List.Elements.{All-append, All-contains, All-nil, Contains-get_or}
use Rattle.std.specs.List.{AllByRecursion, Contains}
use Rattle.std.specs.Prelude.{◌↔◌}
use Rattle.ax_area.specs.Contents.{Contents}
use Rattle.ax_pair.specs.Order.{Rise}
use Rattle.ax_pair.specs.declared.pair.Pair.{Pair}
use Rattle.ax_delta.specs.Changes.{changed_pairs}
use Rattle.ax_delta.specs.declared.change.Change.{Change}
use Rattle.ax_policy.specs.Table.{Table}
use Rattle.ax_policy.specs.declared.policy.Policy.{Policy}
use Rattle.ax_tree.specs.declared.tree.Tree.{Tree}
use Rattle.ax_index.specs.DeltaSizes.{HaveShortTerms, most_term_bytes}
use Rattle.ax_keep.specs.Exchanges.{Exchanges}
use Rattle.ax_keep.specs.Owned.{Owns}
use Rattle.ax_transform.proofs.Trades.{Trades, are_netted, both_trade, exchanges_of, no_trades, same_trades, trades_of}
use Rattle.ax_transform.specs.Gathering.{AreNetted}
use Rattle.ax_transform.specs.Moving.{AreNext, IsMove, Move, all_changes, numbers_of}

-- the pairs of the documents as they were, and as they are to be
abbrev pub OldOf : (honest : Bool) (table : Table) (contents : Contents) (moves : List Move)
    → AllByRecursion (IsMove honest table contents) moves → Pair → Type 0
OldOf honest table contents [] are pair = ⊥
OldOf honest table contents (move ∷ moves) are pair =
    Owns move.number are.0.exchanged.old_under (Some move.tree) pair ⊎ OldOf honest table contents moves are.1 pair

abbrev pub NewOf : (honest : Bool) (table : Table) (contents : Contents) (moves : List Move)
    → AllByRecursion (IsMove honest table contents) moves → Pair → Type 0
NewOf honest table contents [] are pair = ⊥
NewOf honest table contents (move ∷ moves) are pair =
    Owns move.number are.0.exchanged.new_under (Some move.tree) pair ⊎ NewOf honest table contents moves are.1 pair

-- ---- terms that are not too long

pub short : (honest : Bool) (table : Table) (contents : Contents) (moves : List Move)
    → AllByRecursion (IsMove honest table contents) moves → HaveShortTerms (all_changes moves)
short honest table contents [] are = All-nil _
short honest table contents (move ∷ moves) are =
    All-append (λ (change : Change). length change.pair.term ≤ most_term_bytes) move.changes (all_changes moves) are.0.exchanged.short
    (short honest table contents moves are.1)

pub same_short : (changes others : List Change) → ((change : Change) → Contains others change ↔ Contains changes change)
    → HaveShortTerms changes → HaveShortTerms others
same_short changes others same short k d low =
    All-contains (λ (change : Change). length change.pair.term ≤ most_term_bytes) changes (get_or others k d) short
    ((same (get_or others k d)).0 (Contains-get_or others k d low))

-- ---- documents of other numbers

module _ (honest : Bool) (table : Table) (contents : Contents) where
  old_above : (now after : ℕ) (moves : List Move) (are : AllByRecursion (IsMove honest table contents) moves)
      → AreNext contents now after (numbers_of moves) → (pair : Pair) → OldOf honest table contents moves are pair → after < pair.number
  old_above now after [] are next pair old = absurd old
  old_above now after (move ∷ moves) are next pair old =
      let above : after < move.number = next.0.above in
      ⊎_elim
      (λ (own : Owns move.number are.0.exchanged.old_under (Some move.tree) pair). omega (arith, above, own.0))
      (λ (later : OldOf honest table contents moves are.1 pair).
      omega (arith, above, old_above now move.number moves are.1 next.1 pair later)) old

  new_above : (now after : ℕ) (moves : List Move) (are : AllByRecursion (IsMove honest table contents) moves)
      → AreNext contents now after (numbers_of moves) → (pair : Pair) → NewOf honest table contents moves are pair → after < pair.number
  new_above now after [] are next pair new = absurd new
  new_above now after (move ∷ moves) are next pair new =
      let above : after < move.number = next.0.above in
      ⊎_elim
      (λ (own : Owns move.number are.0.exchanged.new_under (Some move.tree) pair). omega (arith, above, own.0))
      (λ (later : NewOf honest table contents moves are.1 pair).
      omega (arith, above, new_above now move.number moves are.1 next.1 pair later)) new

  pub apart : (now after : ℕ) (move : Move) (moves : List Move) (are : AllByRecursion (IsMove honest table contents) moves)
      → AreNext contents now after (numbers_of (move ∷ moves)) → (policy : Policy) (document : Option Tree) (pair : Pair)
      → Owns move.number policy document pair
      → OldOf honest table contents moves are pair ⊎ NewOf honest table contents moves are pair → ⊥
  apart now after move moves are next policy document pair own other =
      ⊎_elim
      (λ (old : OldOf honest table contents moves are pair). omega (arith, own.0, old_above now move.number moves are next.1 pair old))
      (λ (new : NewOf honest table contents moves are pair). omega (arith, own.0, new_above now move.number moves are next.1 pair new)) other

  -- ---- the exchange

  pub trades : (now after : ℕ) (moves : List Move) (are : AllByRecursion (IsMove honest table contents) moves)
      → AreNext contents now after (numbers_of moves)
      → Trades (OldOf honest table contents moves are) (NewOf honest table contents moves are) (all_changes moves)
  trades now after [] are next = no_trades
  trades now after (move ∷ moves) are next =
      let is = are.0.exchanged in
      let Old : Pair → Type 0 = Owns move.number is.old_under (Some move.tree) in
      let New : Pair → Type 0 = Owns move.number is.new_under (Some move.tree) in
      both_trade Old New (OldOf honest table contents moves are.1) (NewOf honest table contents moves are.1)
      (λ pair own other.
      ⊎_elim (λ (old : Old pair). apart now after move moves are.1 next is.old_under (Some move.tree) pair old other)
      (λ (new : New pair). apart now after move moves are.1 next is.new_under (Some move.tree) pair new other) own)
      move.changes (all_changes moves) (trades_of Old New move.changes is.exchanges)
      (trades now move.number moves are.1 next.1)

  pub netted : (now after : ℕ) (moves : List Move) (are : AllByRecursion (IsMove honest table contents) moves)
      → AreNext contents now after (numbers_of moves) → AreNetted (all_changes moves)
  netted now after moves are next =
      are_netted (OldOf honest table contents moves are) (NewOf honest table contents moves are) (all_changes moves)
      (trades now after moves are next)

  pub exchanges : (now after : ℕ) (moves : List Move) (are : AllByRecursion (IsMove honest table contents) moves)
      → AreNext contents now after (numbers_of moves)
      → (sorted : List Change) → Rise (changed_pairs sorted)
      → ((change : Change) → Contains sorted change ↔ Contains (all_changes moves) change)
      → Exchanges (OldOf honest table contents moves are) (NewOf honest table contents moves are) sorted
  exchanges now after moves are next sorted rise same =
      exchanges_of (OldOf honest table contents moves are) (NewOf honest table contents moves are) sorted rise
      (same_trades (OldOf honest table contents moves are) (NewOf honest table contents moves are) (all_changes moves) sorted same
      (trades now after moves are next))

-- How the terms of a document are counted: each path that is met has a number, and a leaf is told
-- from the others by the number of its path and by its value. No public clause cites these words.
use Rattle.std.specs.Prelude.{◌≡◌, ℕ, ◌<◌, ◌≤◌, List, [], ◌∷◌, ◌++◌, map, length, reverse, Bool, Option, Some, option_and_then}
use Rattle.std.specs.BTreeMap.{BTreeMap, btree_map_len}
use Rattle.std.specs.BTreeMap as tree_map
use Rattle.std.specs.BTreeSet as tree_set
use Rattle.std.specs.Cmp.Lexicographic.{slice_cmp}
use Rattle.std.specs.List.{flat_map}
use Rattle.std.specs.Option.{unwrap_or}
use Rattle.std.specs.Ordering.{nat_cmp}
use Rattle.std.specs.Set.{is_member}
use Rattle.std.specs.Str.{bytes_eq}
use Rattle.ax_mean.specs.declared.query.Step.{Step}
use Rattle.ax_mean.specs.declared.value.Value.TheVariants.{Defined}
use Rattle.ax_term.specs.CutValues.{cut_of}
use Rattle.ax_term.specs.TermBytes.{step_bytes, value_bytes}
use Rattle.ax_terms.specs.declared.counter.Counter.{Counter}
use Rattle.ax_terms.specs.declared.counter.Place.{Place}
use Rattle.ax_terms.specs.Counts.{capped, counts_of}
use Rattle.ax_terms.specs.Leaves.{Leaf, below}

-- the number of a path, found by the number of the path above it and the bytes of its last step
abbrev pub Numbers : Type 0
Numbers = List ℕ → Option ℕ

-- the number of the path of these steps, the last one first
abbrev pub number_back : Numbers → List Step → Option ℕ
number_back numbers [] = Some 0
number_back numbers (step ∷ above) =
    option_and_then (λ n. numbers (n ∷ step_bytes step)) (number_back numbers above)

abbrev pub number_of : Numbers → List Step → Option ℕ
number_of numbers path = number_back numbers (reverse path)

-- each number is above 0 and not above the last that was given, and of one path alone
pub record AreNumbers (numbers : Numbers) (last : ℕ) : Type 0 where
  pub above : (key : List ℕ) (n : ℕ) → numbers key ≡ Some n → 0 < n
  pub within : (key : List ℕ) (n : ℕ) → numbers key ≡ Some n → n ≤ last
  pub one : (a b : List ℕ) (n : ℕ) → numbers a ≡ Some n → numbers b ≡ Some n → a ≡ b

-- what had a number has it still
abbrev pub Keeps : Numbers → Numbers → Type 0
Keeps old new = (key : List ℕ) (n : ℕ) → old key ≡ Some n → new key ≡ Some n

-- the number of a leaf's path, and its value behind it
abbrev pub key_of : Numbers → Leaf → List ℕ
key_of numbers leaf =
    unwrap_or (number_of numbers leaf.path) 0 ∷ value_bytes (cut_of (Defined leaf.tree))

abbrev pub HasNumber : Numbers → Leaf → Type 0
HasNumber numbers leaf = (n : ℕ) × (number_of numbers leaf.path ≡ Some n)

-- the path of each leaf has a number
abbrev pub AreNumbered : Numbers → List Leaf → Type 0
AreNumbered numbers [] = Unit {0}
AreNumbered numbers (leaf ∷ rest) = HasNumber numbers leaf × AreNumbered numbers rest

-- the path of that key has this number, given to it now if it had none; what had a number keeps it
pub record Gives (old : BTreeMap (List ℕ) ℕ) (key : List ℕ) (number : ℕ) (new : BTreeMap (List ℕ) ℕ) : Type 0 where
  pub given : tree_map.get (slice_cmp nat_cmp) new key ≡ Some number
  pub keeps : Keeps (tree_map.get (slice_cmp nat_cmp) old) (tree_map.get (slice_cmp nat_cmp) new)
  pub numbers : AreNumbers (tree_map.get (slice_cmp nat_cmp) old) (btree_map_len old)
      → AreNumbers (tree_map.get (slice_cmp nat_cmp) new) (btree_map_len new)

-- ---- what is counted so far

abbrev pub numbers_in : Counter → Numbers
numbers_in counter = tree_map.get (slice_cmp nat_cmp) counter.numbers

abbrev pub has : Counter → List ℕ → Bool
has counter key = tree_set.contains (slice_cmp nat_cmp) counter.seen key

-- these leaves are counted, and no others
pub record Counts (counter : Counter) (done : List Leaf) : Type 0 where
  pub numbers : AreNumbers (numbers_in counter) (btree_map_len counter.numbers)
  pub numbered : AreNumbered (numbers_in counter) done
  pub seen : (key : List ℕ) → has counter key ≡ is_member bytes_eq (map (key_of (numbers_in counter)) done) key
  pub counts : counter.counts ≡ counts_of done

-- the place stands for the path
pub record IsAt (counter : Counter) (path : List Step) (at : Place) : Type 0 where
  pub number : number_of (numbers_in counter) path ≡ Some at.number
  pub size : at.size ≡ capped (length (flat_map step_bytes path))

-- the new place is one step behind the old one
pub record IsStepTo (old : Counter) (at : Place) (step : Step) (place : Place) (new : Counter) : Type 0 where
  pub keeps : Keeps (numbers_in old) (numbers_in new)
  pub leads : (path : List Step) → IsAt old path at → IsAt new (path ++ step ∷ []) place
  pub counts : (done : List Leaf) → Counts old done → Counts new done

-- besides what was counted, the leaves of a tree at the place are
pub record Counted (old : Counter) (at : Place) (leaves : List Leaf) (new : Counter) : Type 0 where
  pub keeps : Keeps (numbers_in old) (numbers_in new)
  pub counts : (path : List Step) (done : List Leaf) → IsAt old path at → Counts old done
      → Counts new (done ++ map (below path) leaves)

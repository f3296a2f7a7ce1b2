-- The terms by which two documents differ under one policy. What is equal in both and reached by names
-- alone may be left out of both lists, since no name stands twice in a map: so a term that the one list
-- leaves out is a term of both documents, and the other list leaves it out too. Whoever nets the two lists
-- has just the terms that go and those that come.
-- It is this project's own; it comes from no public document.
use Rattle.std.specs.Prelude.{◌≡◌, ◌⊎◌, ℕ, List, [], ◌∷◌, ◌++◌, map, Option, Some, None, if◌then◌else◌, true}
use Rattle.std.specs.List.{Contains, flat_map}
use Rattle.std.specs.Str.{bytes_eq}
use Rattle.ax_tree.specs.declared.members.Member.{Member}
use Rattle.ax_tree.specs.declared.tree.Tree.{Tree}
use Rattle.ax_tree.specs.Rising.{is_before}
use Rattle.ax_mean.specs.declared.query.Step.{Step}
use Rattle.ax_policy.specs.declared.policy.Policy.{Policy}
use Rattle.ax_policy.specs.declared.walk.RuleWalk.{RuleWalk}
use Rattle.ax_terms.specs.Adding.{AddsAt}
use Rattle.ax_terms.specs.Leaves.{Leaf, leaves_in, member_leaves}
use Rattle.ax_terms.specs.TermsOf.{HasPlain, HasTerm}

-- the first list has terms of the old document, the second of the new one; each other term of the one is
-- a term of the other, and in neither list
pub record AreDiffering (policy : Policy) (old new : Tree) (gone come : List (List ℕ)) : Type 0 where
  pub gone_are : (bytes : List ℕ) → Contains gone bytes → HasTerm policy old bytes
  pub come_are : (bytes : List ℕ) → Contains come bytes → HasTerm policy new bytes
  pub old_stay : (bytes : List ℕ) → HasTerm policy old bytes → (Contains gone bytes → ⊥)
      → HasTerm policy new bytes × (Contains come bytes → ⊥)
  pub new_stay : (bytes : List ℕ) → HasTerm policy new bytes → (Contains come bytes → ⊥)
      → HasTerm policy old bytes × (Contains gone bytes → ⊥)

-- ---- no public clause cites what follows

-- the same of the terms of leaves alone
pub record ArePlainDiffering (policy : Policy) (old new : Tree) (gone come : List (List ℕ)) : Type 0 where
  pub gone_are : (bytes : List ℕ) → Contains gone bytes → HasPlain policy old bytes
  pub come_are : (bytes : List ℕ) → Contains come bytes → HasPlain policy new bytes
  pub old_stay : (bytes : List ℕ) → HasPlain policy old bytes → (Contains gone bytes → ⊥)
      → HasPlain policy new bytes × (Contains come bytes → ⊥)
  pub new_stay : (bytes : List ℕ) → HasPlain policy new bytes → (Contains come bytes → ⊥)
      → HasPlain policy old bytes × (Contains gone bytes → ⊥)

-- none of these leaves is at that path
abbrev pub IsFree : List Step → List Leaf → Type 0
IsFree path leaves = (leaf : Leaf) → Contains leaves leaf → leaf.path ≡ path → ⊥

-- of the leaves of two trees some go and some come; each other one is a leaf of both, and at its path none
-- goes or comes
pub record ArePassed (old new going coming : List Leaf) : Type 0 where
  pub going_are : (leaf : Leaf) → Contains going leaf → Contains old leaf
  pub coming_are : (leaf : Leaf) → Contains coming leaf → Contains new leaf
  pub old_stay : (leaf : Leaf) → Contains old leaf
      → Contains going leaf ⊎ (Contains new leaf × IsFree leaf.path coming)
  pub new_stay : (leaf : Leaf) → Contains new leaf
      → Contains coming leaf ⊎ (Contains old leaf × IsFree leaf.path going)

-- the terms of such leaves are added to two lists, wherever the walk and the front of its terms are
pub record DiffersAt (walk : RuleWalk) (front : List ℕ) (old new : List Leaf)
    (gone gone_after come come_after : List (List ℕ)) : Type 0 where
  pub going : List Leaf
  pub coming : List Leaf
  pub gone_more : AddsAt walk front going gone gone_after
  pub come_more : AddsAt walk front coming come come_after
  pub passed : ArePassed old new going coming

-- the leaves of members, seen from the map
abbrev pub leaves_of : List (Member Tree) → List Leaf
leaves_of members = flat_map member_leaves (map leaves_in members)

-- the first member and those behind it, where its name is before that one
abbrev pub first_before : List ℕ → List (Member Tree) → Option (Member Tree × List (Member Tree))
first_before name [] = None
first_before name (m ∷ members) = if is_before m.name name then Some (m, members) else None

-- the first member's value and those behind it, where it has that name
abbrev pub first_named : List ℕ → List (Member Tree) → Option (Tree × List (Member Tree))
first_named name [] = None
first_named name (m ∷ members) = if bytes_eq m.name name then Some (m.value, members) else None

-- the members before that name are taken off, and the terms of their leaves added
pub record TakesBefore (walk : RuleWalk) (front name : List ℕ) (members left : List (Member Tree))
    (terms terms_after : List (List ℕ)) : Type 0 where
  pub taken : List (Member Tree)
  pub whole : members ≡ taken ++ left
  pub before : (m : Member Tree) → Contains taken m → is_before m.name name ≡ true
  pub more : AddsAt walk front (leaves_of taken) terms terms_after

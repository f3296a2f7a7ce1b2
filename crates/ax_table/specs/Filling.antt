-- How a table is filled from the parts of a store: policy by policy, and document by document. Only clauses of private
-- functions cite this. It is this project's own; it comes from no public document.
use Rattle.std.specs.Prelude.{◌≡◌, ◌+◌, ◌<◌, ◌≤◌, ◌==◌, ℕ, List, Bool, true, cond, if◌then◌else◌, IsSome, IsTrue, Option, Some, None, option_map}
use Rattle.std.specs.FinMap as map
use Rattle.std.specs.Ordering.{nat_cmp}
use Rattle.ax_area.specs.Contents.{Contents, is_given}
use Rattle.ax_image_grammar.specs.Payloads.{IsTextOf}
use Rattle.ax_image_grammar.specs.Table.{IsTaken, IsUsed, policy_text}
use Rattle.ax_pages.specs.AfterPart.{last_policy, most_documents}
use Rattle.ax_policy.specs.declared.policy.Policy.{Policy}
use Rattle.ax_policy.specs.Normal.{normal_text, normal_tree}
use Rattle.ax_policy.specs.Policies.{policy_of}
use Rattle.ax_policy.specs.Table.{PutsPolicy, Table, count_at, is_taken, policy_at}
use Rattle.ax_pages.specs.Area.{extent_number}
use Rattle.ax_store.specs.declared.store.Store.{Store}
use Rattle.ax_store.specs.declared.fault.StoreFault.{StoreFault}
use Rattle.ax_store.specs.declared.fault.StoreFault.TheVariants.{Disk, Damaged, Newer, Memory}
use Rattle.ax_store.specs.Store.{store_area}
use Rattle.ax_table.specs.TableAgrees.{documents_under}

-- a part gave a policy this number, or it is number 0, which needs none; and a table can have it
pub record IsGivenNumber (number : ℕ) (contents : Contents) : Type 0 where
  pub few : number ≤ last_policy
  pub given : is_given number contents ≡ true

-- the policy is that of the number: it was read from a tree, and where the disk is to be trusted that is its text
pub record IsPolicyOf (honest : Bool) (number : ℕ) (contents : Contents) (policy : Policy) : Type 0 where
  pub is : policy_of (normal_tree policy) ≡ Some policy
  pub text : IsTrue honest → IsTextOf (policy_text number contents) policy

-- each number that has a policy in the table was given
abbrev pub AreNumbersGiven : Table → Contents → Type 0
AreNumbersGiven table contents =
    (number : ℕ) (policy : Policy) → policy_at table number ≡ Some policy → IsGivenNumber number contents

-- and each policy of the table is that of its number
pub record AreGiven (honest : Bool) (table : Table) (contents : Contents) : Type 0 where
  pub policies : (number : ℕ) (policy : Policy) → policy_at table number ≡ Some policy → IsPolicyOf honest number contents policy
  pub numbers : AreNumbersGiven table contents

-- the policy of the number is put under it
pub record PutsGiven (honest : Bool) (number : ℕ) (contents : Contents) (old new : Table) : Type 0 where
  pub policy : Policy
  pub is : IsPolicyOf honest number contents policy
  pub puts : PutsPolicy number policy old new

-- the number has a policy; what had one has one still, and counts, the number now and the mark are as they were
pub record Gives (honest : Bool) (number : ℕ) (contents : Contents) (old new : Table) : Type 0 where
  pub there : IsSome (policy_at new number)
  pub still : (other : ℕ) → IsSome (policy_at old other) → IsSome (policy_at new other)
  pub counts : (other : ℕ) → count_at new other ≡ count_at old other
  pub current : new.current ≡ old.current
  pub moved : new.moved ≡ old.moved
  pub given : AreGiven honest old contents → AreGiven honest new contents

-- and one document more is under the policy of that number
pub record TakesIn (honest : Bool) (number : ℕ) (contents : Contents) (old new : Table) : Type 0 where
  pub there : IsSome (policy_at new number)
  pub still : (other : ℕ) → IsSome (policy_at old other) → IsSome (policy_at new other)
  pub counts : (other : ℕ) → count_at new other ≡ count_at old other + cond (number == other) 1 0
  pub current : new.current ≡ old.current
  pub moved : new.moved ≡ old.moved
  pub given : AreGiven honest old contents → AreGiven honest new contents

-- no document is under a policy of the table yet
pub record IsBegun (honest : Bool) (table : Table) (contents : Contents) : Type 0 where
  pub none : (number : ℕ) → count_at table number ≡ 0
  pub given : AreGiven honest table contents

-- and the policy now is that of the contents, of which it is not known that a document is under it
pub record IsStarted (honest : Bool) (table : Table) (contents : Contents) : Type 0 where
  pub begun : IsBegun honest table contents
  pub now : table.current ≡ contents.policy_now
  pub moved : table.moved ≡ 0
  pub there : IsSome (policy_at table contents.policy_now)

-- the least number that is held, and none where none is
abbrev pub IsFirst : {A : Type 0} → map.FinMap nat_cmp A → Option ℕ → Type 0
IsFirst held_by (Some number) =
    IsTrue (map.contains_key held_by number) × ((before : ℕ) → before < number → map.get held_by before ≡ None)
IsFirst held_by None = (number : ℕ) → map.get held_by number ≡ None

-- all documents are under their policies
pub record IsFilled (honest : Bool) (table : Table) (contents : Contents) : Type 0 where
  pub now : table.current ≡ contents.policy_now
  pub moved : table.moved ≡ 0
  pub known : (number : ℕ) → IsTaken number contents → IsSome (policy_at table number)
  pub given : AreGiven honest table contents
  pub counts : (number : ℕ) → count_at table number ≡ documents_under number contents
  pub used : (number : ℕ) → 0 < count_at table number → IsUsed number contents
  pub few : map.len contents.documents ≤ most_documents

-- ---- twins

-- the normal text of the policy of a number that is in use or now
abbrev pub taken_text : Table → ℕ → Option (List ℕ)
taken_text table number = if is_taken table number then option_map normal_text (policy_at table number) else None

-- a number below another that is in use or now has a policy of this normal text
pub record HasBelow (table : Table) (text : List ℕ) (number : ℕ) : Type 0 where
  pub other : ℕ
  pub less : other < number
  pub there : taken_text table other ≡ Some text

-- none has
abbrev pub HasNoneBelow : Table → List ℕ → ℕ → Type 0
HasNoneBelow table text number = (other : ℕ) → other < number → taken_text table other ≡ Some text → ⊥

-- a lesser number that is in use or now has a policy of the normal text of this one, which is so, too
pub record IsTwin (table : Table) (number : ℕ) : Type 0 where
  pub few : number ≤ last_policy
  pub text : List ℕ
  pub here : taken_text table number ≡ Some text
  pub below : HasBelow table text number

-- of the numbers below this one none is such
abbrev pub AreApartBelow : Table → ℕ → Type 0
AreApartBelow table number =
    (other : ℕ) (text : List ℕ) → other < number → taken_text table other ≡ Some text → HasNoneBelow table text other

-- what a fault says of looking for twins
abbrev pub TellsTwins : {C : Type 0} → Store C → Table → StoreFault → Type 0
TellsTwins store table Disk = ⊥
TellsTwins store table (Damaged extent at) = (extent ≡ extent_number (store_area store)) × (at ≡ 0) × ((number : ℕ) × IsTwin table number)
TellsTwins store table (Newer version) = ⊥
TellsTwins store table Memory = Unit {0}

-- Policies by number, from 0 to 8, each with the count of the documents that are under it, which of
-- them is the policy now, and a number below which each document is under it. A new policy takes the number that is in use or now under the same
-- normal text, and else the least that is neither, whatever policy that had before.
use Rattle.std.specs.Prelude.{◌≡◌, ◌≢◌, ◌<◌, ◌≤◌, ℕ, List, [], ◌∷◌, length, replicate, if◌then◌else◌, sum_by, count_by, find, slice_index_or}
use Rattle.std.specs.Prelude.{Bool, true, false, not, ◌&&◌, ◌||◌, ◌==◌, nat_lt, Option, Some, None, IsSome}
use Rattle.std.specs.Str.{bytes_eq}
use Rattle.ax_policy.specs.declared.policy.Policy.{Policy}
use Rattle.ax_policy.specs.declared.slot.Slot.{Slot}
use Rattle.ax_policy.specs.Default.{default_policy}
use Rattle.ax_policy.specs.Normal.{normal_text}
use Rattle.ax_policy.specs.Paths.{either}

pub record Table : Type 0 where
  pub slots : List Slot
  pub current : ℕ
  -- every document of a lesser number is under the policy now; that it is so is the caller's to keep
  pub moved : ℕ

-- the numbers that policies have
unfoldable pub numbers : List ℕ
numbers = 0 ∷ 1 ∷ 2 ∷ 3 ∷ 4 ∷ 5 ∷ 6 ∷ 7 ∷ 8 ∷ []

-- the most documents that are under one
abbrev pub most_documents : ℕ
most_documents = 1048576

-- what a number has that no policy was given
abbrev pub no_slot : Slot
no_slot = record { policy = None; count = 0 }

abbrev pub slot_at : Table → ℕ → Slot
slot_at table number = slice_index_or table.slots number no_slot

abbrev pub policy_at : Table → ℕ → Option Policy
policy_at table number = (slot_at table number).policy

abbrev pub count_at : Table → ℕ → ℕ
count_at table number = (slot_at table number).count

-- what holds of every table
pub record IsTable (table : Table) : Type 0 where
  pub nine : length table.slots ≡ 9
  pub given : IsSome (policy_at table table.current)
  pub none : (number : ℕ) → policy_at table number ≡ None → count_at table number ≡ 0
  pub most : (number : ℕ) → count_at table number ≤ most_documents

-- the policy has number 0 and is now, no other number has one, and no document is known to be under it
abbrev pub begun : Policy → Table
begun policy = record { slots = record { policy = Some policy; count = 0 } ∷ replicate 8 no_slot; current = 0; moved = 0 }

-- that of a new store
abbrev pub fresh : Table
fresh = begun default_policy

-- ---- what is in use

abbrev pub is_used : Table → ℕ → Bool
is_used table number = nat_lt 0 (count_at table number)

-- in use or now
abbrev pub is_taken : Table → ℕ → Bool
is_taken table number = is_used table number || (number == table.current)

abbrev pub is_free : Table → ℕ → Bool
is_free table number = not (is_taken table number)

-- the documents under the policy of that number, unless it is the one now
abbrev pub count_unless_now : Table → ℕ → ℕ
count_unless_now table number = if number == table.current then 0 else count_at table number

-- the documents that are not under the policy now
abbrev pub left : Table → ℕ
left table = sum_by (count_unless_now table) numbers

-- ---- which number a policy has

abbrev pub is_text_of : List ℕ → Option Policy → Bool
is_text_of text None = false
is_text_of text (Some policy) = bytes_eq (normal_text policy) text

-- in use or now under a policy of that normal text
abbrev pub is_same : List ℕ → Table → ℕ → Bool
is_same text table number = is_taken table number && is_text_of text (policy_at table number)

-- in use under a policy of another normal text
abbrev pub is_other : List ℕ → Table → ℕ → Bool
is_other text table number = is_used table number && not (is_text_of text (policy_at table number))

abbrev pub others_in_use : Policy → Table → ℕ
others_in_use policy table = count_by (is_other (normal_text policy) table) numbers

-- so many other policies in use leave no number for a new one
abbrev pub most_others : ℕ
most_others = 8

-- the least number in use or now under the same normal text, else the least that is neither
abbrev pub number_for : Policy → Table → Option ℕ
number_for policy table =
    either (find (is_same (normal_text policy) table) numbers) (find (is_free table) numbers)

-- the policy is given this number; none, just where too many others are in use
abbrev pub IsGiven : Policy → Table → Option ℕ → Type 0
IsGiven policy table None = most_others ≤ others_in_use policy table
IsGiven policy table (Some number) =
    (number_for policy table ≡ Some number) × (number ≤ 8) × (others_in_use policy table < most_others)

-- ---- changes

-- the policy stands under the number, and all else stays
pub record PutsPolicy (number : ℕ) (policy : Policy) (old new : Table) : Type 0 where
  pub stands : policy_at new number ≡ Some policy
  pub others : (other : ℕ) → other ≢ number → policy_at new other ≡ policy_at old other
  pub counts : (other : ℕ) → count_at new other ≡ count_at old other
  pub current : new.current ≡ old.current
  pub moved : new.moved ≡ old.moved

-- the number has that count, and all else stays
pub record SetsCount (number count : ℕ) (old new : Table) : Type 0 where
  pub changed : count_at new number ≡ count
  pub others : (other : ℕ) → other ≢ number → count_at new other ≡ count_at old other
  pub policies : (other : ℕ) → policy_at new other ≡ policy_at old other
  pub current : new.current ≡ old.current
  pub moved : new.moved ≡ old.moved

-- the policy stands under the number that it is to have, which is now, no document is known to be
-- under it, and all else stays
pub record SetsNow (policy : Policy) (old new : Table) : Type 0 where
  pub number : number_for policy old ≡ Some new.current
  pub stands : policy_at new new.current ≡ Some policy
  pub others : (other : ℕ) → other ≢ new.current → policy_at new other ≡ policy_at old other
  pub counts : (other : ℕ) → count_at new other ≡ count_at old other
  pub moved : new.moved ≡ 0

-- no two numbers in use or now have policies of one normal text
abbrev pub AreApart : Table → Type 0
AreApart table =
    (a b : ℕ) (policy other : Policy) → a ≤ 8 → b ≤ 8
    → is_taken table a ≡ true → is_taken table b ≡ true
    → policy_at table a ≡ Some policy → policy_at table b ≡ Some other
    → normal_text policy ≡ normal_text other → a ≡ b

-- Usable conditions as a plan is made of them, by their paths. No public clause cites these words.
use Rattle.std.specs.Prelude.{◌≡◌, ℕ, List, [], ◌∷◌, Bool, true, false, All, Some, None}
use Rattle.ax_mean.specs.declared.query.Step.{Step}
use Rattle.ax_term.specs.declared.range.TermRange.{TermRange}
use Rattle.ax_policy.specs.declared.policy.Policy.{Policy}
use Rattle.ax_policy.specs.Covering.{Covers, CoversAll}
use Rattle.ax_policy.specs.Table.{Table, is_taken, policy_at}
use Rattle.ax_atoms.specs.declared.conjunct.Conjunct.{Conjunct}
use Rattle.ax_plan.specs.Taken.{HoldsOfTaken}
use Rattle.ax_plan.specs.declared.sought.Sought.{Sought}

-- the leaf at the path is covered, or every leaf there and below
abbrev pub CoversPath : Bool → List Step → Policy → Type 0
CoversPath false path policy = Covers policy path
CoversPath true path policy = CoversAll policy path

-- this holds of the policy of that number, where it is in use or now
abbrev pub HoldsAt : Table → (Policy → Type 0) → ℕ → Type 0
HoldsAt table P number =
    (policy : Policy) → is_taken table number ≡ true → policy_at table number ≡ Some policy → P policy

-- each policy that is in use or now covers each of these paths
abbrev pub AreCovered : Table → Bool → List (List Step) → Type 0
AreCovered table whole paths = All (λ path. HoldsOfTaken table (CoversPath whole path)) paths

-- what is sought for a conjunct that has these ranges
abbrev pub sought_in : Conjunct → List TermRange → Sought
sought_in conjunct ranges = record { paths = conjunct.paths; whole = conjunct.whole; ranges = ranges }

-- of conjuncts those of which that is so, what is sought for each
pub data AreOfConjuncts (table : Table) : List Conjunct → List Sought → Type 0 where
  empty : AreOfConjuncts table [] []
  without_ranges : (conjunct : Conjunct) (conjuncts : List Conjunct) (sought : List Sought)
      → conjunct.ranges ≡ None → AreOfConjuncts table conjuncts sought → AreOfConjuncts table (conjunct ∷ conjuncts) sought
  uncovered : (conjunct : Conjunct) (conjuncts : List Conjunct) (sought : List Sought)
      → (AreCovered table conjunct.whole conjunct.paths → ⊥) → AreOfConjuncts table conjuncts sought
      → AreOfConjuncts table (conjunct ∷ conjuncts) sought
  covered : (conjunct : Conjunct) (ranges : List TermRange) (conjuncts : List Conjunct) (sought : List Sought)
      → conjunct.ranges ≡ Some ranges → AreCovered table conjunct.whole conjunct.paths
      → AreOfConjuncts table conjuncts sought → AreOfConjuncts table (conjunct ∷ conjuncts) (sought_in conjunct ranges ∷ sought)

-- Which leaves an indexing policy covers, from the indexing-policy manual of Azure Cosmos DB for
-- NoSQL: of the rules that match the path of a leaf, the one with most steps decides, and of equal
-- steps the one with `/?`. A leaf that no rule matches is not covered, and none is under mode `none`
-- or where `automatic` is false.
use Rattle.std.specs.Prelude.{◌≡◌, ◌<◌, List, ◌++◌, length, Bool, true, false, ◌&&◌, Some, ◌⊎◌}
use Rattle.ax_mean.specs.declared.query.Step.{Step}
use Rattle.ax_policy.specs.declared.mode.Mode.{Mode}
use Rattle.ax_policy.specs.declared.mode.Mode.TheVariants.{Consistent, None as Off}
use Rattle.ax_policy.specs.declared.policy.Policy.{Policy}
use Rattle.ax_policy.specs.Paths.{rule_text}
use Rattle.ax_policy.specs.Rules.{under}

-- A rule: the steps of its path, whether this ends in `/*`, and whether it is an included one.
pub record Rule : Type 0 where
  pub steps : List Step
  pub all : Bool
  pub included : Bool

abbrev pub IsRuleOf : Policy → Rule → Type 0
IsRuleOf policy rule = under (rule_text rule.steps rule.all) policy.rules ≡ Some rule.included

-- `/?` stands for the leaf there, `/*` for every leaf there and below
abbrev pub Reaches : Bool → List Step → List Step → Type 0
Reaches true steps path = (more : List Step) × (path ≡ steps ++ more)
Reaches false steps path = path ≡ steps

abbrev pub Matches : Rule → List Step → Type 0
Matches rule path = Reaches rule.all rule.steps path

-- the first rule goes before the second: it has more steps, or as many and no `/*` where the other
-- has none
abbrev pub GoesBefore : Rule → Rule → Type 0
GoesBefore rule other =
    (length other.steps < length rule.steps)
    ⊎ ((length other.steps ≡ length rule.steps) × (rule.all ≡ true → other.all ≡ true))

-- of the rules that match the path, this one decides
pub record Decides (policy : Policy) (path : List Step) (rule : Rule) : Type 0 where
  pub is_rule : IsRuleOf policy rule
  pub matches : Matches rule path
  pub before : (other : Rule) → IsRuleOf policy other → Matches other path
      → GoesBefore rule other

abbrev pub is_on : Mode → Bool
is_on Consistent = true
is_on Off = false

-- the policy indexes at all
abbrev pub indexes : Policy → Bool
indexes policy = is_on policy.mode && policy.automatic

abbrev pub Covers : Policy → List Step → Type 0
Covers policy path =
    (indexes policy ≡ true)
    × ((rule : Rule) × Decides policy path rule × (rule.included ≡ true))

-- every leaf whose path begins with that path is covered
abbrev pub CoversAll : Policy → List Step → Type 0
CoversAll policy path = (more : List Step) → Covers policy (path ++ more)

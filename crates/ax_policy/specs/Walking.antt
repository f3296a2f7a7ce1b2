-- Where a walk down a document stands among the rules of an indexing policy, from the
-- indexing-policy manual of Azure Cosmos DB for NoSQL: of the rules that match a leaf the one with
-- most steps decides, and of equal steps the one with `/?`. So a walk keeps what the longest rule
-- with `/*` on its way says, and the rules that begin with its path: those for the leaf there, and
-- those that go deeper.
use Rattle.std.specs.Prelude.{◌≡◌, List, [], ◌++◌, length, Bool, true, Option, option_map}
use Rattle.ax_mean.specs.declared.query.Step.{Step}
use Rattle.ax_policy.specs.declared.policy.Policy.{Policy}
use Rattle.ax_policy.specs.declared.rule_tree.RuleTree.{RuleTree}
use Rattle.ax_policy.specs.declared.walk.RuleWalk.{RuleWalk}
use Rattle.ax_policy.specs.Covering.{indexes}
use Rattle.ax_policy.specs.Deciding.{longest}
use Rattle.ax_policy.specs.Paths.{rule_text, either}
use Rattle.ax_policy.specs.Rules.{under}
use Rattle.ax_policy.specs.RuleTrees.{says}

-- the rules that are left
abbrev pub rules_at : RuleWalk → Option RuleTree
rules_at walk = option_map (λ rules. rules.now) walk.rules

-- the walk came by this path down the rules of this policy
pub record IsAt (walk : RuleWalk) (policy : Policy) (path : List Step) : Type 0 where
  pub on : walk.on ≡ indexes policy
  pub decided : walk.decided ≡ longest policy.rules path (length path)
  pub left : (more : List Step) (all : Bool)
      → says (rules_at walk) more all ≡ under (rule_text (path ++ more) all) policy.rules

-- ---- no public clause cites what follows

-- one step further, where these rules are left
pub record StepsTo (walk : RuleWalk) (rules : Option RuleTree) (next : RuleWalk) : Type 0 where
  pub on : next.on ≡ walk.on
  pub left : rules_at next ≡ rules
  pub decided : next.decided ≡ either (says rules [] true) walk.decided

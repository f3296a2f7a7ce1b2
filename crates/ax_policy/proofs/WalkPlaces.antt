-- Where a walk stands, and what a step makes of it.
use Rattle.std.proofs.Common.{◌≡◌, ℕ, ◌≤◌, zero, suc, List, [], ◌∷◌, ◌++◌, length, take, Bool, true, Option, Some, None, refl, sym, ap, ◌∙◌, arith, append_assoc, append-nil}
use Rattle.std.proofs.lemmas.List.{take-append-le}
use Rattle.ax_mean.specs.declared.query.Step.{Step}
use Rattle.ax_mean.specs.declared.query.Step.TheVariants.{Name, Item}
use Rattle.ax_tree.specs.declared.members.Member.{Member}
use Rattle.ax_policy.specs.declared.policy.Policy.{Policy}
use Rattle.ax_policy.specs.declared.rule_tree.RuleTree.{RuleTree}
use Rattle.ax_policy.specs.declared.walk.RuleWalk.{RuleWalk}
use Rattle.ax_policy.specs.Covering.{indexes}
use Rattle.ax_policy.specs.Deciding.{longest}
use Rattle.ax_policy.specs.Paths.{rule_text, either}
use Rattle.ax_policy.specs.Rules.{under}
use Rattle.ax_policy.specs.RuleTrees.{says, own, behind, IsTreeOf}
use Rattle.ax_policy.specs.Walking.{IsAt, StepsTo, rules_at}

-- ---- the longest rule with `/*`

longest_before : (rules : List (Member Bool)) (path : List Step) (step : Step) (most : ℕ)
    → most ≤ length path → longest rules (path ++ step ∷ []) most ≡ longest rules path most
longest_before rules path step zero h = refl
longest_before rules path step (suc most) h =
    ap (λ o. either o (longest rules (path ++ step ∷ []) most))
    (ap (λ l. under (rule_text l true) rules) (take-append-le (suc most) path (step ∷ []) h))
    ∙ ap (either (under (rule_text (take (suc most) path) true) rules))
    (longest_before rules path step most (omega arith))

take_whole : (path : List Step) → take (length path) path ≡ path
take_whole [] = refl
take_whole (step ∷ path) = ap (λ l. step ∷ l) (take_whole path)

one_more : (path : List Step) (step : Step) → length (path ++ step ∷ []) ≡ suc (length path)
one_more [] step = refl
one_more (first ∷ path) step = ap suc (one_more path step)

longest_further : (rules : List (Member Bool)) (path : List Step) (step : Step)
    → longest rules (path ++ step ∷ []) (length (path ++ step ∷ []))
    ≡ either (under (rule_text (path ++ step ∷ []) true) rules) (longest rules path (length path))
longest_further rules path step =
    ap (longest rules (path ++ step ∷ [])) (one_more path step)
    ∙ ap (λ l. either (under (rule_text l true) rules) (longest rules (path ++ step ∷ []) (length path)))
    (ap (λ n. take n (path ++ step ∷ [])) (sym (one_more path step)) ∙ take_whole (path ++ step ∷ []))
    ∙ ap (either (under (rule_text (path ++ step ∷ []) true) rules))
    (longest_before rules path step (length path) (omega arith))

-- ---- a step

-- the rules behind a step, where there may be none
abbrev pub behind_in : Step → Option RuleTree → Option RuleTree
behind_in step None = None
behind_in step (Some rules) = behind step rules

says_behind : (rules : Option RuleTree) (step : Step) (steps : List Step) (all : Bool)
    → says (behind_in step rules) steps all ≡ says rules (step ∷ steps) all
says_behind None step steps all = refl
says_behind (Some rules) Item steps all = refl
says_behind (Some rules) (Name name) steps all = refl

-- a walk at the rules behind a step is at that step
pub stepped : (walk next : RuleWalk) (policy : Policy) (path : List Step) (step : Step) (rules : Option RuleTree)
    → IsAt walk policy path → rules ≡ behind_in step (rules_at walk) → StepsTo walk rules next
    → IsAt next policy (path ++ step ∷ [])
stepped walk next policy path step rules a are s =
    let left : (more : List Step) (all : Bool)
    → says rules more all ≡ under (rule_text ((path ++ step ∷ []) ++ more) all) policy.rules =
    λ more all. ap (λ o. says o more all) are ∙ says_behind (rules_at walk) step more all
    ∙ a.left (step ∷ more) all
    ∙ ap (λ l. under (rule_text l all) policy.rules) (sym (append_assoc path (step ∷ []) more)) in
    record {
      on = s.on ∙ a.on;
      decided = s.decided
          ∙ ap (λ o. either o walk.decided) (left [] true)
          ∙ ap (λ l. either (under (rule_text l true) policy.rules) walk.decided) (append-nil (path ++ step ∷ []))
          ∙ ap (either (under (rule_text (path ++ step ∷ []) true) policy.rules)) a.decided
          ∙ sym (longest_further policy.rules path step);
      left = λ more all. ap (λ o. says o more all) s.left ∙ left more all;
    }

-- where no rule is left, a walk stays as it is
pub stays : (walk : RuleWalk) (policy : Policy) (path : List Step) (step : Step)
    → IsAt walk policy path → rules_at walk ≡ None → IsAt walk policy (path ++ step ∷ [])
stays walk policy path step a none =
    stepped walk walk policy path step None a (sym (ap (behind_in step) none))
    (record { on = refl; left = none; decided = refl })

-- ---- at the top

pub at_top : (walk : RuleWalk) (policy : Policy) (rules : RuleTree) → walk.on ≡ indexes policy
    → walk.decided ≡ own true rules → rules_at walk ≡ Some rules → IsTreeOf (Some rules) policy.rules
    → IsAt walk policy []
at_top walk policy rules on decided there tree = record {
  on = on;
  decided = decided ∙ tree [] true;
  left = λ more all. ap (λ o. says o more all) there ∙ tree more all;
}

-- The rules of an indexing policy as a tree of their steps: what it says of the path of a rule. Public
-- clauses reach `says` alone, by where a walk stands.
use Rattle.std.specs.Prelude.{◌≡◌, ℕ, ◌<◌, ◌≤◌, List, [], ◌∷◌, ◌++◌, length, take, drop, get_or, Bool, true, false, ◌&&◌, if◌then◌else◌, Option, Some, None}
use Rattle.std.specs.Cmp.Lexicographic.{slice_cmp}
use Rattle.std.specs.Ordering.{nat_cmp}
use Rattle.std.specs.Str.{bytes_eq}
use Rattle.std.specs.declared.cmp.Ordering.TheVariants.{Less, Greater}
use Rattle.ax_mean.specs.declared.query.Step.{Step}
use Rattle.ax_mean.specs.declared.query.Step.TheVariants.{Name, Item}
use Rattle.ax_tree.specs.Names.{HaveRisingNames}
use Rattle.ax_tree.specs.declared.members.Member.{Member}
use Rattle.ax_policy.specs.declared.rule_path.RulePath.{RulePath}
use Rattle.ax_policy.specs.declared.rule_tree.RuleTree.{RuleTree, out-RuleTree}
use Rattle.ax_policy.specs.Paths.{rule_text, either}
use Rattle.ax_policy.specs.Rules.{under}

-- ---- what a tree says

-- whether the rule that ends at the top of the tree is an included one
abbrev pub own : Bool → RuleTree → Option Bool
own true rules = (out-RuleTree rules).below
own false rules = (out-RuleTree rules).leaf

-- whether the rule with these steps is an included one
abbrev pub says : Option RuleTree → List Step → Bool → Option Bool
says None steps all = None
says (Some rules) [] all = own all rules
says (Some rules) (Item ∷ steps) all = says (out-RuleTree rules).item steps all
says (Some rules) (Name name ∷ steps) all = says (under name (out-RuleTree rules).names) steps all

-- both say the same
abbrev pub SaySame : Option RuleTree → Option RuleTree → Type 0
SaySame rules others = (steps : List Step) (all : Bool) → says rules steps all ≡ says others steps all

-- the rules behind a step
abbrev pub behind : Step → RuleTree → Option RuleTree
behind Item rules = (out-RuleTree rules).item
behind (Name name) rules = under name (out-RuleTree rules).names

-- the tree says of every path what the rules say of its text
abbrev pub IsTreeOf : Option RuleTree → List (Member Bool) → Type 0
IsTreeOf tree rules =
    (steps : List Step) (all : Bool) → says tree steps all ≡ under (rule_text steps all) rules

-- ---- a rule more

abbrev pub same_step : Step → Step → Bool
same_step Item Item = true
same_step (Name name) (Name other) = bytes_eq name other
same_step Item (Name other) = false
same_step (Name name) Item = false

abbrev pub same_mark : Bool → Bool → Bool
same_mark true all = all
same_mark false true = false
same_mark false false = true

abbrev pub same_path : List Step → Bool → List Step → Bool → Bool
same_path [] all [] other_all = same_mark all other_all
same_path [] all (other ∷ others) other_all = false
same_path (step ∷ steps) all [] other_all = false
same_path (step ∷ steps) all (other ∷ others) other_all =
    same_step step other && same_path steps all others other_all

-- what a rule says of the path with these steps
abbrev pub rule_says : RulePath → Bool → List Step → Bool → Option Bool
rule_says path included steps all =
    if same_path steps all path.steps path.all then Some included else None

-- the tree with one rule more, which counts where there was none with its path
abbrev pub IsWith : Option RuleTree → RulePath → Bool → Option RuleTree → Type 0
IsWith old path included new =
    (steps : List Step) (all : Bool)
    → says new steps all ≡ either (says old steps all) (rule_says path included steps all)

-- the same where the rule is that of a text
abbrev pub TextAdded : Option RuleTree → List ℕ → Bool → Option RuleTree → Type 0
TextAdded old text included new =
    (steps : List Step) (all : Bool)
    → says new steps all
    ≡ either (says old steps all) (if bytes_eq (rule_text steps all) text then Some included else None)

-- ---- parts of a tree

pub record HasParts (leaf below : Option Bool) (item : Option RuleTree) (names : List (Member RuleTree)) (rules : RuleTree) : Type 0 where
  pub leaf_is : (out-RuleTree rules).leaf ≡ leaf
  pub below_is : (out-RuleTree rules).below ≡ below
  pub item_is : (out-RuleTree rules).item ≡ item
  pub names_are : (out-RuleTree rules).names ≡ names

-- the member at that place has the name
abbrev pub IsFound : List ℕ → List (Member RuleTree) → ℕ → Type 0
IsFound name members at =
    (at < length members) × ((d : Member RuleTree) → (get_or members at d).name ≡ name)

-- so many members come before the name
abbrev pub AreBefore : List ℕ → List (Member RuleTree) → ℕ → Type 0
AreBefore name members at =
    (at ≤ length members)
    × ((k : ℕ) (d : Member RuleTree) → k < at → slice_cmp nat_cmp (get_or members k d).name name ≡ Less)

-- the names before that place come before the name, and those from it on behind it
abbrev pub IsRoom : List ℕ → List (Member RuleTree) → ℕ → Type 0
IsRoom name members at =
    AreBefore name members at
    × ((k : ℕ) (d : Member RuleTree) → at ≤ k → k < length members
    → slice_cmp nat_cmp (get_or members k d).name name ≡ Greater)

-- the members with one of that name and value at that place
abbrev pub put_at : ℕ → List ℕ → RuleTree → List (Member RuleTree) → List (Member RuleTree)
put_at at name rules members = take at members ++ record { name = name; value = rules } ∷ drop at members

-- the members without the one of that name, its place, and what it said
pub record IsOpened (whole : List (Member RuleTree)) (name : List ℕ) (members : List (Member RuleTree)) (at : ℕ) (own_name : List ℕ) (rules : RuleTree) : Type 0 where
  pub named : own_name ≡ name
  pub bound : at ≤ length members
  pub rise : (put : RuleTree) → HaveRisingNames (put_at at name put members)
  pub put_there : (put : RuleTree) (key : List ℕ)
      → under key (put_at at name put members) ≡ (if bytes_eq key name then Some put else under key whole)
  pub said : SaySame (Some rules) (under name whole)

-- the names with one rule more behind this one
abbrev pub AreNamesWith : List (Member RuleTree) → List ℕ → RulePath → Bool → List (Member RuleTree) → Type 0
AreNamesWith old name path included new =
    (key : List ℕ) (steps : List Step) (all : Bool)
    → says (under key new) steps all
    ≡ either (says (under key old) steps all)
    (if bytes_eq key name then rule_says path included steps all else None)

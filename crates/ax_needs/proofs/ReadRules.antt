-- The rules of a policy that was read: their texts rise, and each text is that of a path.
use Rattle.std.proofs.Common.{◌≡◌, ℕ, List, [], ◌∷◌, Bool, true, false, cond, ◌&&◌, not, Option, Some, None}
use Rattle.std.proofs.Common.{Ordering, Less, Equal, Greater, refl, ap, ◌∙◌, subst}
use Rattle.std.specs.Prelude.{IfSome, codes, nat_le, option_and_then, length}
use Rattle.std.specs.Cmp.Lexicographic.{slice_cmp}
use Rattle.std.specs.List.{AllByRecursion, fold}
use Rattle.std.specs.Ordering.{match_ordering, nat_cmp, ordering_reverse}
use Rattle.std.proofs.lemmas.Cmp.{nat_list_cmp_total}
use Rattle.ax_mean.specs.declared.query.Order.{Order}
use Rattle.ax_mean.specs.declared.query.Step.{Step}
use Rattle.ax_tree.specs.Document.{member, text_member}
use Rattle.ax_tree.specs.declared.members.Member.{Member}
use Rattle.ax_tree.specs.declared.tree.Tree.{Tree}
use Rattle.ax_policy.specs.declared.mode.Mode.{Mode}
use Rattle.ax_policy.specs.declared.policy.Policy.{Policy}
use Rattle.ax_policy.specs.Composites.{composites_of}
use Rattle.ax_policy.specs.Limits.{is_short_path, most_policy_bytes}
use Rattle.ax_policy.specs.Normal.{normal_text}
use Rattle.ax_policy.specs.Paths.{rule_path, rule_text}
use Rattle.ax_policy.specs.Policies.{has_no_others, if_short_text, is_map, mode_of, policy_in, policy_of, policy_with, truth_of}
use Rattle.ax_policy.specs.Reading.{both as both_of, read_all, trees_of}
use Rattle.ax_policy.specs.Rules.{flagged, if_allowed, item_text, path_text, rules_from, rules_of, says_of_all, share, texts_of, with_rule}

-- ---- texts that rise

abbrev pub cmp : List ℕ → List ℕ → Ordering
cmp = slice_cmp nat_cmp

-- the text is before those of all rules
abbrev pub IsBefore : List ℕ → List (Member Bool) → Type 0
IsBefore text rules = AllByRecursion (λ (m : Member Bool). cmp text m.name ≡ Less) rules

abbrev pub Rises : List (Member Bool) → Type 0
Rises [] = Unit {0}
Rises (first ∷ rest) = IsBefore first.name rest × Rises rest

sooner : (a b : List ℕ) (rules : List (Member Bool)) → cmp a b ≡ Less → IsBefore b rules → IsBefore a rules
sooner a b [] less before = tt
sooner a b (m ∷ rules) less before = (nat_list_cmp_total.trans a b m.name less before.0, sooner a b rules less before.1)

turned_back : (a b : List ℕ) → cmp a b ≡ Greater → cmp b a ≡ Less
turned_back a b greater = nat_list_cmp_total.antisymm b a ∙ ap ordering_reverse greater

put_before : (text : List ℕ) (rules : List (Member Bool)) (m : Member Bool) → IsBefore text rules
    → cmp text m.name ≡ Less → IsBefore text (with_rule rules m)
put_before text [] m before less = (less, tt)
put_before text (first ∷ rest) m before less =
    by_order (cmp m.name first.name) (put_before text rest m before.1 less)
  where
    by_order : (o : Ordering) → IsBefore text (with_rule rest m)
        → IsBefore text (match_ordering o (m ∷ first ∷ rest)
        (record { name = first.name; value = m.value } ∷ rest) (first ∷ with_rule rest m))
    by_order Less later = (less, before)
    by_order Equal later = before
    by_order Greater later = (before.0, later)

put_rises : (rules : List (Member Bool)) (m : Member Bool) → Rises rules → Rises (with_rule rules m)
put_rises [] m rises = (tt, tt)
put_rises (first ∷ rest) m rises =
    by_order (cmp m.name first.name) refl (put_rises rest m rises.1)
  where
    by_order : (o : Ordering) → cmp m.name first.name ≡ o → Rises (with_rule rest m)
        → Rises (match_ordering o (m ∷ first ∷ rest)
        (record { name = first.name; value = m.value } ∷ rest) (first ∷ with_rule rest m))
    by_order Less is later = ((is, sooner m.name first.name rest is rises.0), rises)
    by_order Equal is later = rises
    by_order Greater is later = (put_before first.name rest m rises.0 (turned_back m.name first.name is), later)

-- ---- texts of paths

-- the text is that of a path
pub record IsSpelled (text : List ℕ) : Type 0 where
  pub steps : List Step
  pub all : Bool
  pub is : rule_text steps all ≡ text

abbrev pub AreSpelled : List (Member Bool) → Type 0
AreSpelled rules = AllByRecursion (λ (m : Member Bool). IsSpelled m.name) rules

put_spelled : (rules : List (Member Bool)) (m : Member Bool) → AreSpelled rules → IsSpelled m.name
    → AreSpelled (with_rule rules m)
put_spelled [] m spelled own = (own, tt)
put_spelled (first ∷ rest) m spelled own =
    by_order (cmp m.name first.name) (put_spelled rest m spelled.1 own)
  where
    by_order : (o : Ordering) → AreSpelled (with_rule rest m)
        → AreSpelled (match_ordering o (m ∷ first ∷ rest)
        (record { name = first.name; value = m.value } ∷ rest) (first ∷ with_rule rest m))
    by_order Less later = (own, spelled)
    by_order Equal later = spelled
    by_order Greater later = (spelled.0, later)

-- ---- both

-- the texts rise, and are those of paths
pub record AreInOrder (rules : List (Member Bool)) : Type 0 where
  pub rise : Rises rules
  pub spelled : AreSpelled rules

put_all : (flag : Bool) (texts : List (List ℕ)) (rules : List (Member Bool)) → AllByRecursion IsSpelled texts
    → AreInOrder rules → AreInOrder (fold with_rule rules (flagged flag texts))
put_all flag [] rules own ordered = ordered
put_all flag (text ∷ texts) rules own ordered =
    let m : Member Bool = record { name = text; value = flag } in
    put_all flag texts (with_rule rules m) own.1
    (record { rise = put_rises rules m ordered.rise; spelled = put_spelled rules m ordered.spelled own.0 })

from_texts : (included excluded : List (List ℕ)) → AllByRecursion IsSpelled included
    → AllByRecursion IsSpelled excluded → AreInOrder (rules_from included excluded)
from_texts included excluded i e =
    put_all false excluded (fold with_rule [] (flagged true included)) e
    (put_all true included [] i (record { rise = tt; spelled = tt }))

-- ---- what holds of a value that is there

and_then_holds : {A B : Type 0} (P : A → Type 0) (Q : B → Type 0) (f : A → Option B) (o : Option A)
    → IfSome o P → ((a : A) → P a → IfSome (f a) Q) → IfSome (option_and_then f o) Q
and_then_holds P Q f None holds step = tt
and_then_holds P Q f (Some a) holds step = step a holds

holds_anyway : {A : Type 0} (o : Option A) → IfSome o (λ _. Unit {0})
holds_anyway None = tt
holds_anyway (Some a) = tt

both_hold : {B : Type 0} (P : B → Type 0) (one : Option B) (more : Option (List B)) → IfSome one P
    → IfSome more (AllByRecursion P) → IfSome (both_of one more) (AllByRecursion P)
both_hold P None more h hs = tt
both_hold P (Some b) None h hs = tt
both_hold P (Some b) (Some l) h hs = (h, hs)

all_read : {A B : Type 0} (P : B → Type 0) (read : A → Option B) (items : List A)
    → ((a : A) → IfSome (read a) P) → IfSome (read_all read items) (AllByRecursion P)
all_read P read [] holds = tt
all_read P read (first ∷ rest) holds =
    both_hold P (read first) (read_all read rest) (holds first) (all_read P read rest holds)

-- ---- a policy that was read

abbrev some_text : List ℕ → Option (List ℕ)
some_text text = Some text

path_spelled : (steps : List Step) (all : Bool)
    → IfSome (cond (is_short_path steps) (some_text (rule_text steps all)) None) IsSpelled
path_spelled steps all = by_test (is_short_path steps)
  where
    by_test : (b : Bool) → IfSome (cond b (some_text (rule_text steps all)) None) IsSpelled
    by_test true = record { steps = steps; all = all; is = refl }
    by_test false = tt

item_spelled : (item : Tree) → IfSome (item_text item) IsSpelled
item_spelled item =
    and_then_holds (λ _. Unit {0}) IsSpelled path_text
    (option_and_then rule_path (text_member (codes "path") item))
    (holds_anyway (option_and_then rule_path (text_member (codes "path") item))) (λ path _. path_spelled path.steps path.all)

texts_spelled : (given : Option Tree) → IfSome (texts_of given) (AllByRecursion IsSpelled)
texts_spelled given =
    and_then_holds (λ _. Unit {0}) (AllByRecursion IsSpelled) (read_all item_text) (trees_of given)
    (holds_anyway (trees_of given)) (λ items _. all_read IsSpelled item_text items item_spelled)

abbrev some_rules : List (Member Bool) → Option (List (Member Bool))
some_rules rules = Some rules

allowed : (mode : Mode) (included excluded : List (List ℕ)) → AllByRecursion IsSpelled included
    → AllByRecursion IsSpelled excluded → IfSome (if_allowed mode included excluded) AreInOrder
allowed mode included excluded i e =
    by_test (says_of_all mode included excluded && not (share included excluded))
  where
    by_test : (b : Bool) → IfSome (cond b (some_rules (rules_from included excluded)) None) AreInOrder
    by_test true = from_texts included excluded i e
    by_test false = tt

rules_hold : (mode : Mode) (included excluded : Option Tree) → IfSome (rules_of mode included excluded) AreInOrder
rules_hold mode included excluded =
    and_then_holds (AllByRecursion IsSpelled) AreInOrder
    (λ ins. option_and_then (if_allowed mode ins) (texts_of excluded)) (texts_of included) (texts_spelled included)
    (λ ins i. and_then_holds (AllByRecursion IsSpelled) AreInOrder (if_allowed mode ins) (texts_of excluded)
    (texts_spelled excluded) (λ outs o. allowed mode ins outs i o))

abbrev HasOrdered : Policy → Type 0
HasOrdered policy = AreInOrder policy.rules

abbrev some_policy : Policy → Option Policy
some_policy policy = Some policy

abbrev policy_from : Mode → Bool → List (Member Bool) → List (List Order) → Policy
policy_from mode automatic rules composites =
    record { mode = mode; automatic = automatic; rules = rules; composites = composites }

short_holds : (policy : Policy) → HasOrdered policy → IfSome (if_short_text policy) HasOrdered
short_holds policy ordered = by_test (nat_le (length (normal_text policy)) most_policy_bytes)
  where
    by_test : (b : Bool) → IfSome (cond b (some_policy policy) None) HasOrdered
    by_test true = ordered
    by_test false = tt

with_holds : (given : Tree) (mode : Mode) (automatic : Bool) → IfSome (policy_with given mode automatic) HasOrdered
with_holds given mode automatic =
    and_then_holds AreInOrder HasOrdered
    (λ rules. option_and_then (λ composites. if_short_text (policy_from mode automatic rules composites))
    (composites_of (member (codes "compositeIndexes") given)))
    (rules_of mode (member (codes "includedPaths") given) (member (codes "excludedPaths") given))
    (rules_hold mode (member (codes "includedPaths") given) (member (codes "excludedPaths") given))
    (λ rules r. and_then_holds (λ _. Unit {0}) HasOrdered
    (λ composites. if_short_text (policy_from mode automatic rules composites))
    (composites_of (member (codes "compositeIndexes") given))
    (holds_anyway (composites_of (member (codes "compositeIndexes") given)))
    (λ composites _. short_holds (policy_from mode automatic rules composites) r))

in_holds : (given : Tree) → IfSome (policy_in given) HasOrdered
in_holds given =
    and_then_holds (λ _. Unit {0}) HasOrdered
    (λ mode. option_and_then (policy_with given mode) (truth_of (member (codes "automatic") given)))
    (mode_of (member (codes "indexingMode") given)) (holds_anyway (mode_of (member (codes "indexingMode") given)))
    (λ mode _. and_then_holds (λ _. Unit {0}) HasOrdered (policy_with given mode)
    (truth_of (member (codes "automatic") given)) (holds_anyway (truth_of (member (codes "automatic") given)))
    (λ automatic _. with_holds given mode automatic))

of_holds : (given : Tree) → IfSome (policy_of given) HasOrdered
of_holds given = by_test (is_map given && has_no_others given)
  where
    by_test : (b : Bool) → IfSome (cond b (policy_in given) None) HasOrdered
    by_test true = in_holds given
    by_test false = tt

pub read_in_order : (given : Tree) (policy : Policy) → policy_of given ≡ Some policy → AreInOrder policy.rules
read_in_order given policy is = subst (λ o. IfSome o HasOrdered) is (of_holds given)

-- The rules of a policy that was read, read again from the two lists that its normal tree has of them:
-- every path is one that is read as it stands, the rules rise, and what was allowed is allowed again.
use Rattle.std.proofs.Common.{◌≡◌, ℕ, List, [], ◌∷◌, map, Bool, true, false, cond, not, ◌&&◌, ◌||◌, Option, Some, None, Ordering, Less, Equal, Greater, refl, sym, ap, ◌∙◌}
use Rattle.std.specs.Prelude.{IfSome, option_and_then, codes}
use Rattle.std.specs.Cmp.Lexicographic.{slice_cmp}
use Rattle.std.specs.List.{fold, AllByRecursion}
use Rattle.std.specs.Ordering.{nat_cmp, is_eq, match_ordering, ordering_reverse}
use Rattle.std.specs.Str.{bytes_eq}
use Rattle.std.proofs.lemmas.Cmp.{nat_list_cmp_total}
use Rattle.std.proofs.lemmas.Map.Text.{is_eq-slice_cmp}
use Rattle.ax_mean.specs.declared.query.Step.{Step}
use Rattle.ax_tree.specs.Document.{text_member, text_value, member_level}
use Rattle.ax_tree.specs.declared.members.Member.{Member}
use Rattle.ax_tree.specs.declared.tree.Tree as tree
use Rattle.ax_tree.specs.declared.tree.Tree.{Tree}
use Rattle.ax_tree.specs.declared.tree.Tree.TheVariants as trees
use Rattle.ax_policy.specs.declared.mode.Mode.{Mode}
use Rattle.ax_policy.specs.declared.rule_path.RulePath.{RulePath}
use Rattle.ax_policy.specs.Limits.{is_short_path}
use Rattle.ax_policy.specs.Normal.{is_flagged, path_tree, path_trees, rules_with, text_tree}
use Rattle.ax_policy.specs.Paths.{either, is_empty, marked_path, rule_path, rule_path_of, rule_text, steps_of, before_mark}
use Rattle.ax_policy.specs.Reading.{both as both_of, list_value_level, read_all, trees_of}
use Rattle.ax_policy.specs.Rules.{with_rule, flagged, is_in, share, says_of_all, holds_all, if_allowed, rules_from, rules_of, texts_of, item_text, path_text}
use Rattle.ax_policy.specs.Written.{is_path}
use Rattle.ax_policy.proofs.Insertion.{Puts, IsBefore, Rises, all_rise, all_before, put_first, stays_first}
use Rattle.ax_policy.proofs.PathTexts.{path_again}
use Rattle.ax_policy.proofs.RuleLaws.{says}
use Rattle.ax_policy.proofs.TreeLooks.{out_list, out_object}

-- ---- what holds of a value that is there

pub and_then_holds : {A B : Type 0} (P : A → Type 0) (Q : B → Type 0) (f : A → Option B) (o : Option A)
    → IfSome o P → ((a : A) → P a → IfSome (f a) Q) → IfSome (option_and_then f o) Q
and_then_holds P Q f None holds step = tt
and_then_holds P Q f (Some a) holds step = step a holds

pub holds_anyway : {A : Type 0} (o : Option A) → IfSome o (λ _. Unit {0})
holds_anyway None = tt
holds_anyway (Some a) = tt

both_hold : {B : Type 0} (P : B → Type 0) (one : Option B) (more : Option (List B)) → IfSome one P
    → IfSome more (AllByRecursion P) → IfSome (both_of one more) (AllByRecursion P)
both_hold P None more h hs = tt
both_hold P (Some b) None h hs = tt
both_hold P (Some b) (Some l) h hs = (h, hs)

-- what holds of each item that is read holds of all
pub all_read : {A B : Type 0} (P : B → Type 0) (read : A → Option B) (items : List A)
    → ((a : A) → IfSome (read a) P) → IfSome (read_all read items) (AllByRecursion P)
all_read P read [] holds = tt
all_read P read (first ∷ rest) holds =
    both_hold P (read first) (read_all read rest) (holds first) (all_read P read rest holds)

-- ---- paths that are read as they stand

abbrev some_text : List ℕ → Option (List ℕ)
some_text text = Some text

abbrev pub IsReadAgain : List ℕ → Type 0
IsReadAgain text = item_text (text_tree text) ≡ some_text text

path_of_tree : (text : List ℕ) → text_member (codes "path") (text_tree text) ≡ some_text text
unfolding tree.out-Tree denote.Hole.Carrier.out
path_of_tree text =
    ap (λ y. option_and_then text_value (member_level (codes "path") y))
    (out_object (record { name = codes "path"; value = trees.Text text } ∷ []))

is_marked : (all : Bool) (text : List ℕ) → IfSome (marked_path all text) (λ p. is_path p ≡ true)
is_marked all text =
    and_then_holds (λ _. Unit {0}) (λ p. is_path p ≡ true) (rule_path_of all)
    (option_and_then steps_of (before_mark all text))
    (holds_anyway (option_and_then steps_of (before_mark all text)))
    (λ steps _. made steps (is_empty steps && not all) refl)
  where
    made : (steps : List Step) (b : Bool) → (is_empty steps && not all) ≡ b
        → IfSome (cond b None (Some (record { steps = steps; all = all }))) (λ p. is_path p ≡ true)
    made steps true e = tt
    made steps false e = ap not e

either_holds : {A : Type 0} (P : A → Type 0) (one other : Option A) → IfSome one P → IfSome other P
    → IfSome (either one other) P
either_holds P None other h g = g
either_holds P (Some a) other h g = h

is_rule_path : (text : List ℕ) → IfSome (rule_path text) (λ p. is_path p ≡ true)
is_rule_path text =
    either_holds (λ p. is_path p ≡ true) (marked_path true text) (marked_path false text)
    (is_marked true text) (is_marked false text)

short_again : (p : RulePath) → is_path p ≡ true → IfSome (path_text p) IsReadAgain
short_again p h = by_test (is_short_path p.steps) refl
  where
    by_test : (b : Bool) → is_short_path p.steps ≡ b
        → IfSome (cond b (some_text (rule_text p.steps p.all)) None) IsReadAgain
    by_test true e =
        ap (λ o. option_and_then path_text (option_and_then rule_path o)) (path_of_tree (rule_text p.steps p.all))
        ∙ ap (option_and_then path_text) (path_again p.steps p.all h)
        ∙ ap (λ b. cond b (some_text (rule_text p.steps p.all)) None) e
    by_test false e = tt

read_again : (item : Tree) → IfSome (item_text item) IsReadAgain
read_again item =
    and_then_holds (λ p. is_path p ≡ true) IsReadAgain path_text
    (option_and_then rule_path (text_member (codes "path") item))
    (and_then_holds (λ _. Unit {0}) (λ p. is_path p ≡ true) rule_path (text_member (codes "path") item)
    (holds_anyway (text_member (codes "path") item)) (λ text _. is_rule_path text))
    short_again

-- ---- rules put among others

abbrev pub name_of : Member Bool → List ℕ
name_of m = m.name

pub rule_puts : Puts (Member Bool) name_of with_rule
rule_puts = record {
  alone = λ x. refl;
  before = λ first rest x e.
      ap (λ o. match_ordering o (x ∷ first ∷ rest) (record { name = first.name; value = x.value } ∷ rest) (first ∷ with_rule rest x)) e;
  equal = λ first rest x e. record {
    one = record { name = first.name; value = x.value };
    is = ap (λ o. match_ordering o (x ∷ first ∷ rest) (record { name = first.name; value = x.value } ∷ rest) (first ∷ with_rule rest x)) e;
    same = refl;
  };
  behind = λ first rest x e.
      ap (λ o. match_ordering o (x ∷ first ∷ rest) (record { name = first.name; value = x.value } ∷ rest) (first ∷ with_rule rest x)) e;
}

abbrev pub AllAgain : List (Member Bool) → Type 0
AllAgain rules = AllByRecursion (λ m. IsReadAgain m.name) rules

put_again : (rules : List (Member Bool)) (m : Member Bool) → AllAgain rules → IsReadAgain m.name
    → AllAgain (with_rule rules m)
put_again [] m h g = (g, tt)
put_again (first ∷ rest) m h g =
    by_order (slice_cmp nat_cmp m.name first.name) (put_again rest m h.1 g)
  where
    by_order : (o : Ordering) → AllAgain (with_rule rest m)
        → AllAgain (match_ordering o (m ∷ first ∷ rest)
        (record { name = first.name; value = m.value } ∷ rest) (first ∷ with_rule rest m))
    by_order Less later = (g, h)
    by_order Equal later = h
    by_order Greater later = (h.0, later)

all_put_again : (flag : Bool) (texts : List (List ℕ)) (rules : List (Member Bool)) → AllAgain rules
    → AllByRecursion IsReadAgain texts → AllAgain (fold with_rule rules (flagged flag texts))
all_put_again flag [] rules h g = h
all_put_again flag (text ∷ texts) rules h g =
    all_put_again flag texts (with_rule rules (record { name = text; value = flag }))
    (put_again rules (record { name = text; value = flag }) h g.0) g.1

-- ---- the texts of a list

-- the texts of the rules that are included, or of those that are not
abbrev pub texts : Bool → List (Member Bool) → List (List ℕ)
texts included rules = map (λ m. m.name) (rules_with included rules)

abbrev some_texts : List (List ℕ) → Option (List (List ℕ))
some_texts all = Some all

all_texts : (included : Bool) (rules : List (Member Bool)) → AllAgain rules
    → read_all item_text (path_trees included rules) ≡ some_texts (texts included rules)
all_texts included [] h = refl
all_texts included (m ∷ rules) h =
    by_test (is_flagged included m) (all_texts included rules h.1)
  where
    by_test : (b : Bool) → read_all item_text (path_trees included rules) ≡ some_texts (texts included rules)
        → read_all item_text (map path_tree (cond b (m ∷ rules_with included rules) (rules_with included rules)))
        ≡ some_texts (map (λ m. m.name) (cond b (m ∷ rules_with included rules) (rules_with included rules)))
    by_test true later =
        ap (λ o. both_of o (read_all item_text (path_trees included rules))) h.0
        ∙ ap (both_of (some_text m.name)) later
    by_test false later = later

list_of_tree : (items : List Tree) → trees_of (Some (trees.List items)) ≡ Some items
list_of_tree items = ap list_value_level (out_list items)

pub texts_again : (included : Bool) (rules : List (Member Bool)) → AllAgain rules
    → texts_of (Some (trees.List (path_trees included rules))) ≡ some_texts (texts included rules)
texts_again included rules h =
    ap (option_and_then (read_all item_text)) (list_of_tree (path_trees included rules))
    ∙ all_texts included rules h

-- ---- the rules are made of them again

abbrev RulesBefore : List ℕ → List (Member Bool) → Type 0
RulesBefore = IsBefore name_of

before_texts : (text : List ℕ) (included flag : Bool) (rules : List (Member Bool)) → RulesBefore text rules
    → RulesBefore text (flagged flag (texts included rules))
before_texts text included flag [] h = tt
before_texts text included flag (m ∷ rules) h =
    by_test (is_flagged included m) (before_texts text included flag rules h.1)
  where
    by_test : (b : Bool) → RulesBefore text (flagged flag (texts included rules))
        → RulesBefore text (flagged flag (map (λ m. m.name) (cond b (m ∷ rules_with included rules) (rules_with included rules))))
    by_test true later = (h.0, later)
    by_test false later = later

-- a rule before all others is the first that is made, in whichever list it stands
first_in : (m : Member Bool) (rules ins outs : List (Member Bool)) → RulesBefore m.name ins
    → RulesBefore m.name outs → fold with_rule (fold with_rule [] ins) outs ≡ rules
    → fold with_rule (fold with_rule [] (m ∷ ins)) outs ≡ m ∷ rules
first_in m rules ins outs i o e =
    ap (λ l. fold with_rule l outs) (stays_first name_of with_rule rule_puts m [] ins i)
    ∙ stays_first name_of with_rule rule_puts m (fold with_rule [] ins) outs o
    ∙ ap (λ l. m ∷ l) e

first_out : (m : Member Bool) (rules ins outs : List (Member Bool)) → RulesBefore m.name ins
    → RulesBefore m.name outs → fold with_rule (fold with_rule [] ins) outs ≡ rules
    → fold with_rule (fold with_rule [] ins) (m ∷ outs) ≡ m ∷ rules
first_out m rules ins outs i o e =
    ap (λ l. fold with_rule l outs)
    (put_first name_of with_rule rule_puts (fold with_rule [] ins) m
    (all_before name_of with_rule rule_puts m.name [] ins tt i))
    ∙ stays_first name_of with_rule rule_puts m (fold with_rule [] ins) outs o
    ∙ ap (λ l. m ∷ l) e

-- a rule of that name
abbrev rule : List ℕ → Bool → Member Bool
rule name value = record { name = name; value = value }

pub made_again : (rules : List (Member Bool)) → Rises name_of rules
    → rules_from (texts true rules) (texts false rules) ≡ rules
made_again [] h = refl
made_again (m ∷ rules) h =
    by_test m.value refl (made_again rules h.1) (before_texts m.name true true rules h.0)
    (before_texts m.name false false rules h.0)
  where
    by_test : (b : Bool) → m.value ≡ b → rules_from (texts true rules) (texts false rules) ≡ rules
        → RulesBefore m.name (flagged true (texts true rules))
        → RulesBefore m.name (flagged false (texts false rules))
        → rules_from (map (λ m. m.name) (cond b (m ∷ rules_with true rules) (rules_with true rules)))
        (map (λ m. m.name) (cond (not b) (m ∷ rules_with false rules) (rules_with false rules)))
        ≡ m ∷ rules
    by_test true e later i o =
        first_in (rule m.name true) rules (flagged true (texts true rules)) (flagged false (texts false rules)) i o later
        ∙ ap (λ v. rule m.name v ∷ rules) (sym e)
    by_test false e later i o =
        first_out (rule m.name false) rules (flagged true (texts true rules)) (flagged false (texts false rules)) i o later
        ∙ ap (λ v. rule m.name v ∷ rules) (sym e)

-- ---- no text is in both lists

differ : (a b : List ℕ) → slice_cmp nat_cmp a b ≡ Less → bytes_eq a b ≡ false
differ a b e = sym (is_eq-slice_cmp a b) ∙ ap is_eq e

differ_back : (a b : List ℕ) → slice_cmp nat_cmp a b ≡ Less → bytes_eq b a ≡ false
differ_back a b e =
    sym (is_eq-slice_cmp b a) ∙ ap is_eq (nat_list_cmp_total.antisymm b a ∙ ap ordering_reverse e)

or_none : (a b : Bool) → a ≡ false → b ≡ false → (a || b) ≡ false
or_none true b e f = e
or_none false b e f = f

not_in : (text : List ℕ) (included : Bool) (rules : List (Member Bool)) → RulesBefore text rules
    → is_in text (texts included rules) ≡ false
not_in text included [] h = refl
not_in text included (m ∷ rules) h =
    by_test (is_flagged included m) (not_in text included rules h.1)
  where
    by_test : (b : Bool) → is_in text (texts included rules) ≡ false
        → is_in text (map (λ m. m.name) (cond b (m ∷ rules_with included rules) (rules_with included rules))) ≡ false
    by_test true later =
        or_none (bytes_eq text m.name) (is_in text (texts included rules)) (differ text m.name h.0) later
    by_test false later = later

-- a text before all that are left out
passed : (text : List ℕ) (ins : List (List ℕ)) (included : Bool) (rules : List (Member Bool))
    → RulesBefore text rules
    → share (text ∷ ins) (texts included rules) ≡ share ins (texts included rules)
passed text ins included [] h = refl
passed text ins included (m ∷ rules) h =
    by_test (is_flagged included m) (passed text ins included rules h.1)
  where
    by_test : (b : Bool) → share (text ∷ ins) (texts included rules) ≡ share ins (texts included rules)
        → share (text ∷ ins) (map (λ m. m.name) (cond b (m ∷ rules_with included rules) (rules_with included rules)))
        ≡ share ins (map (λ m. m.name) (cond b (m ∷ rules_with included rules) (rules_with included rules)))
    by_test true later =
        ap (λ b. (b || is_in m.name ins) || share (text ∷ ins) (texts included rules)) (differ_back text m.name h.0)
        ∙ ap (λ b. is_in m.name ins || b) later
    by_test false later = later

not_shared : (rules : List (Member Bool)) → Rises name_of rules
    → share (texts true rules) (texts false rules) ≡ false
not_shared [] h = refl
not_shared (m ∷ rules) h =
    by_test m.value (not_shared rules h.1)
  where
    by_test : (b : Bool) → share (texts true rules) (texts false rules) ≡ false
        → share (map (λ m. m.name) (cond b (m ∷ rules_with true rules) (rules_with true rules)))
        (map (λ m. m.name) (cond (not b) (m ∷ rules_with false rules) (rules_with false rules))) ≡ false
    by_test true later = passed m.name (texts true rules) false rules h.0 ∙ later
    by_test false later =
        or_none (is_in m.name (texts true rules)) (share (texts true rules) (texts false rules))
        (not_in m.name true rules h.0) later

-- ---- what was allowed is allowed again

abbrev pub some_rules : List (Member Bool) → Option (List (Member Bool))
some_rules rules = Some rules

-- what a policy's rules have that makes their lists readable
pub record AreReadAgain (mode : Mode) (rules : List (Member Bool)) : Type 0 where
  pub again : AllAgain rules
  pub rise : Rises name_of rules
  pub says : holds_all mode rules ≡ true

allowed_holds : (mode : Mode) (included excluded : List (List ℕ)) → AllByRecursion IsReadAgain included
    → AllByRecursion IsReadAgain excluded → IfSome (if_allowed mode included excluded) (AreReadAgain mode)
allowed_holds mode included excluded i e =
    by_test (says_of_all mode included excluded) (not (share included excluded)) (says mode included excluded)
  where
    by_test : (a b : Bool) → holds_all mode (rules_from included excluded) ≡ a
        → IfSome (cond (a && b) (some_rules (rules_from included excluded)) None) (AreReadAgain mode)
    by_test true true h = record {
      again = all_put_again false excluded (fold with_rule [] (flagged true included))
          (all_put_again true included [] tt i) e;
      rise = all_rise name_of with_rule rule_puts (fold with_rule [] (flagged true included)) (flagged false excluded)
          (all_rise name_of with_rule rule_puts [] (flagged true included) tt);
      says = h;
    }
    by_test true false h = tt
    by_test false b h = tt

abbrev made : List (Member Bool) → Option (List (Member Bool))
made rules = some_rules (rules_from (texts true rules) (texts false rules))

allowed_again : (mode : Mode) (rules : List (Member Bool)) → AreReadAgain mode rules
    → if_allowed mode (texts true rules) (texts false rules) ≡ some_rules rules
allowed_again mode rules are =
    ap (λ b. cond (b && not (share (texts true rules) (texts false rules))) (made rules) None)
    (sym (says mode (texts true rules) (texts false rules)) ∙ ap (holds_all mode) (made_again rules are.rise) ∙ are.says)
    ∙ ap (λ b. cond (not b) (made rules) None) (not_shared rules are.rise)
    ∙ ap some_rules (made_again rules are.rise)

-- ---- both lists

texts_hold : (given : Option Tree) → IfSome (texts_of given) (AllByRecursion IsReadAgain)
texts_hold given =
    and_then_holds (λ _. Unit {0}) (AllByRecursion IsReadAgain) (read_all item_text) (trees_of given)
    (holds_anyway (trees_of given)) (λ items _. all_read IsReadAgain item_text items read_again)

pub rules_hold : (mode : Mode) (included excluded : Option Tree)
    → IfSome (rules_of mode included excluded) (AreReadAgain mode)
rules_hold mode included excluded =
    and_then_holds (AllByRecursion IsReadAgain) (AreReadAgain mode)
    (λ ins. option_and_then (if_allowed mode ins) (texts_of excluded)) (texts_of included)
    (texts_hold included)
    (λ ins i. and_then_holds (AllByRecursion IsReadAgain) (AreReadAgain mode) (if_allowed mode ins)
    (texts_of excluded) (texts_hold excluded) (λ outs o. allowed_holds mode ins outs i o))

pub rules_again : (mode : Mode) (rules : List (Member Bool)) → AreReadAgain mode rules
    → rules_of mode (Some (trees.List (path_trees true rules))) (Some (trees.List (path_trees false rules)))
    ≡ some_rules rules
rules_again mode rules are =
    ap (λ o. option_and_then (λ ins. option_and_then (if_allowed mode ins)
    (texts_of (Some (trees.List (path_trees false rules))))) o) (texts_again true rules are.again)
    ∙ ap (option_and_then (if_allowed mode (texts true rules))) (texts_again false rules are.again)
    ∙ allowed_again mode rules are

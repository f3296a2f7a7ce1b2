-- The composites of a policy that was read, read again from those of its normal tree: every path is
-- one that is read as it stands, and the composites stand in order without repeats.
use Rattle.std.proofs.Common.{◌≡◌, ℕ, ◌+◌, ◌-◌, ◌≤◌, List, [], ◌∷◌, ◌++◌, length, get_or, map, Bool, true, false, cond, not, ◌&&◌, Option, Some, None, Ordering, Less, Equal, Greater, refl, sym, ap, ◌∙◌, subst, arith, append_assoc, append-nil}
use Rattle.std.specs.Prelude.{IfSome, option_map, option_and_then, codes, nat_le, unwrap_or}
use Rattle.std.specs.Cmp.Lexicographic.{slice_cmp}
use Rattle.std.specs.List.{fold, list_all, AllByRecursion}
use Rattle.std.specs.Ordering.{nat_cmp, match_ordering}
use Rattle.std.specs.Str.{bytes_eq}
use Rattle.std.proofs.Math.Seq.{get_or-append_seam}
use Rattle.std.proofs.lemmas.Bool.{leb-true, le-leb}
use Rattle.std.proofs.lemmas.List.{get_or-drop, length-append, length-map}
use Rattle.ax_mean.specs.declared.query.Order.{Order}
use Rattle.ax_mean.specs.declared.query.Step.{Step}
use Rattle.ax_mean.specs.declared.query.Step.TheVariants.{Name, Item}
use Rattle.ax_tree.specs.Document.{member, member_level, text_member, text_value}
use Rattle.ax_tree.specs.declared.members.Member.{Member}
use Rattle.ax_tree.specs.declared.tree.Tree as tree
use Rattle.ax_tree.specs.declared.tree.Tree.{Tree}
use Rattle.ax_tree.specs.declared.tree.Tree.TheVariants as trees
use Rattle.ax_policy.specs.Composites.{order_word, part_tree, composite_tree, composite_text, direction_of, directed, part_of, is_composite, if_composite, composite_of, with_composite, by_text, if_few, composites_of}
use Rattle.ax_policy.specs.Limits.{is_short_path}
use Rattle.ax_policy.specs.Paths.{quote, escaped, name_text, steps_text, before_mark, beginning, ending, mark_text, composite_path, if_names, is_empty, is_name, steps_of}
use Rattle.ax_policy.specs.Reading.{both as both_of, list_value, list_value_level, read_all, trees_of}
use Rattle.ax_policy.proofs.Insertion.{Puts, Rises, all_rise, made_again}
use Rattle.ax_policy.proofs.PathTexts.{steps_again}
use Rattle.ax_policy.proofs.RulesAgain.{and_then_holds, holds_anyway, all_read}
use Rattle.ax_policy.proofs.Searching.{same_bytes}
use Rattle.ax_policy.proofs.TreeLooks.{out_list, out_object}

-- ---- paths of names

abbrev pub are_names : List Step → Bool
are_names steps = not (is_empty steps) && list_all is_name steps

-- a text that ends in a quote, and has more before it
record Quoted (text : List ℕ) : Type 0 where
  front : List ℕ
  is : text ≡ front ++ quote ∷ []
  more : 1 ≤ length front

quoted_name : (name : List ℕ) → Quoted (name_text name)
quoted_name name = record {
  front = 47 ∷ quote ∷ escaped name;
  is = refl;
  more = omega arith;
}

longer : (front text : List ℕ) → Quoted text → Quoted (front ++ text)
longer front text q = record {
  front = front ++ q.front;
  is = ap (λ l. front ++ l) q.is ∙ sym (append_assoc front q.front (quote ∷ []));
  more = omega (arith, length-append front q.front, q.more);
}

quoted_steps : (steps : List Step) → are_names steps ≡ true → Quoted (steps_text steps)
quoted_steps [] h = absurd (cc)
quoted_steps (Item ∷ steps) h = absurd (cc)
quoted_steps (Name name ∷ []) h = subst Quoted (sym (append-nil (name_text name))) (quoted_name name)
quoted_steps (Name name ∷ next ∷ rest) h =
    longer (name_text name) (steps_text (next ∷ rest)) (quoted_steps (next ∷ rest) h)

no_quote : (byte : ℕ) → byte ≡ quote → byte ≡ 63 → ⊥
no_quote byte e f = omega arith

-- such a text does not end in `/?`
no_mark : (text : List ℕ) → Quoted text → before_mark false text ≡ None
no_mark text q = by_test (bytes_eq (ending text) (mark_text false)) refl
  where
    by_test : (b : Bool) → bytes_eq (ending text) (mark_text false) ≡ b
        → cond b (Some (beginning text)) None ≡ None
    by_test true e =
        let same : ending text ≡ mark_text false = same_bytes (ending text) (mark_text false) e in
        let size : length text ≡ length q.front + 1 =
        ap length q.is ∙ length-append q.front (quote ∷ []) in
        let place : length text - 2 + 1 ≡ length q.front = omega (arith, size, q.more) in
        absurd (no_quote (get_or text (length q.front) 0)
        (ap (λ l. get_or l (length q.front) 0) q.is ∙ get_or-append_seam q.front quote [] 0)
        (ap (λ i. get_or text i 0) (sym place)
        ∙ sym (get_or-drop (length text - 2) text 1 0)
        ∙ ap (λ l. get_or l 1 0) same))
    by_test false e = refl

abbrev some_steps : List Step → Option (List Step)
some_steps steps = Some steps

names_again : (steps : List Step) → are_names steps ≡ true
    → composite_path (steps_text steps) ≡ some_steps steps
names_again steps h =
    ap (λ o. option_and_then if_names (steps_of (unwrap_or o (steps_text steps)))) (no_mark (steps_text steps) (quoted_steps steps h))
    ∙ ap (option_and_then if_names) (steps_again steps)
    ∙ ap (λ b. cond b (some_steps steps) None) h

names_hold : (text : List ℕ) → IfSome (composite_path text) (λ steps. are_names steps ≡ true)
names_hold text =
    and_then_holds (λ _. Unit {0}) (λ steps. are_names steps ≡ true) if_names
    (steps_of (unwrap_or (before_mark false text) text))
    (holds_anyway (steps_of (unwrap_or (before_mark false text) text)))
    (λ steps _. by_test steps (are_names steps) refl)
  where
    by_test : (steps : List Step) (b : Bool) → are_names steps ≡ b
        → IfSome (cond b (some_steps steps) None) (λ steps. are_names steps ≡ true)
    by_test steps true e = e
    by_test steps false e = tt

-- ---- one path with its direction

abbrev some_part : Order → Option Order
some_part part = Some part

abbrev pub IsPartAgain : Order → Type 0
IsPartAgain part = part_of (part_tree part) ≡ some_part part

abbrev part_members : Order → List (Member Tree)
part_members part =
    record { name = codes "order"; value = trees.Text (order_word part.down) }
    ∷ record { name = codes "path"; value = trees.Text (steps_text part.path) } ∷ []

path_of_tree : (part : Order) → text_member (codes "path") (part_tree part) ≡ Some (steps_text part.path)
unfolding tree.out-Tree denote.Hole.Carrier.out
path_of_tree part =
    ap (λ y. option_and_then text_value (member_level (codes "path") y)) (out_object (part_members part))

order_of_tree : (part : Order) → member (codes "order") (part_tree part) ≡ Some (trees.Text (order_word part.down))
order_of_tree part = ap (member_level (codes "order")) (out_object (part_members part))

abbrev some_truth : Bool → Option Bool
some_truth b = Some b

direction_again : (down : Bool) → direction_of (Some (trees.Text (order_word down))) ≡ some_truth down
unfolding tree.out-Tree denote.Hole.Carrier.out
direction_again false = refl
direction_again true = refl

abbrev with_path : List Step → Bool → Order
with_path path down = record { path = path; down = down }

part_again : (part : Order) → are_names part.path ≡ true → is_short_path part.path ≡ true
    → IsPartAgain part
part_again part names short =
    ap (λ o. option_and_then (directed (member (codes "order") (part_tree part))) (option_and_then composite_path o)) (path_of_tree part)
    ∙ ap (option_and_then (directed (member (codes "order") (part_tree part)))) (names_again part.path names)
    ∙ ap (λ o. directed o part.path) (order_of_tree part)
    ∙ ap (λ b. cond b (option_map (with_path part.path) (direction_of (Some (trees.Text (order_word part.down))))) None) short
    ∙ ap (option_map (with_path part.path)) (direction_again part.down)

part_holds : (given : Tree) → IfSome (part_of given) IsPartAgain
part_holds given =
    and_then_holds (λ steps. are_names steps ≡ true) IsPartAgain (directed (member (codes "order") given))
    (option_and_then composite_path (text_member (codes "path") given))
    (and_then_holds (λ _. Unit {0}) (λ steps. are_names steps ≡ true) composite_path
    (text_member (codes "path") given) (holds_anyway (text_member (codes "path") given))
    (λ text _. names_hold text))
    (λ path names. by_test path names (is_short_path path) refl (direction_of (member (codes "order") given)))
  where
    by_test : (path : List Step) → are_names path ≡ true → (b : Bool) → is_short_path path ≡ b
        → (down : Option Bool)
        → IfSome (cond b (option_map (with_path path) down) None) IsPartAgain
    by_test path names true e None = tt
    by_test path names true e (Some down) = part_again (with_path path down) names e
    by_test path names false e down = tt

-- ---- composites

abbrev some_parts : List Order → Option (List Order)
some_parts parts = Some parts

abbrev pub IsCompositeAgain : List Order → Type 0
IsCompositeAgain composite = composite_of (composite_tree composite) ≡ some_parts composite

parts_again : (parts : List Order) → AllByRecursion IsPartAgain parts
    → read_all part_of (map part_tree parts) ≡ some_parts parts
parts_again [] h = refl
parts_again (part ∷ parts) h =
    ap (λ o. both_of o (read_all part_of (map part_tree parts))) h.0
    ∙ ap (both_of (some_part part)) (parts_again parts h.1)

list_of_tree : (items : List Tree) → list_value (trees.List items) ≡ Some items
list_of_tree items = ap list_value_level (out_list items)

composite_again : (parts : List Order) → AllByRecursion IsPartAgain parts → is_composite parts ≡ true
    → IsCompositeAgain parts
composite_again parts h is =
    ap (λ o. option_and_then if_composite (option_and_then (read_all part_of) o)) (list_of_tree (map part_tree parts))
    ∙ ap (option_and_then if_composite) (parts_again parts h)
    ∙ ap (λ b. cond b (some_parts parts) None) is

composite_holds : (given : Tree) → IfSome (composite_of given) IsCompositeAgain
composite_holds given =
    and_then_holds (AllByRecursion IsPartAgain) IsCompositeAgain if_composite
    (option_and_then (read_all part_of) (list_value given))
    (and_then_holds (λ _. Unit {0}) (AllByRecursion IsPartAgain) (read_all part_of) (list_value given)
    (holds_anyway (list_value given)) (λ items _. all_read IsPartAgain part_of items part_holds))
    (λ parts h. by_test parts h (is_composite parts) refl)
  where
    by_test : (parts : List Order) → AllByRecursion IsPartAgain parts → (b : Bool) → is_composite parts ≡ b
        → IfSome (cond b (some_parts parts) None) IsCompositeAgain
    by_test parts h true e = composite_again parts h e
    by_test parts h false e = tt

-- ---- those of a policy, put among others

pub composite_puts : Puts (List Order) composite_text with_composite
composite_puts = record {
  alone = λ x. refl;
  before = λ first rest x e.
      ap (λ o. match_ordering o (x ∷ first ∷ rest) (first ∷ rest) (first ∷ with_composite rest x)) e;
  equal = λ first rest x e. record {
    one = first;
    is = ap (λ o. match_ordering o (x ∷ first ∷ rest) (first ∷ rest) (first ∷ with_composite rest x)) e;
    same = refl;
  };
  behind = λ first rest x e.
      ap (λ o. match_ordering o (x ∷ first ∷ rest) (first ∷ rest) (first ∷ with_composite rest x)) e;
}

-- those that were put, and how many they are at most
record ArePut (composites : List (List Order)) (most : ℕ) : Type 0 where
  again : AllByRecursion IsCompositeAgain composites
  few : length composites ≤ most

put_one : (composites : List (List Order)) (most : ℕ) (composite : List Order) → ArePut composites most
    → IsCompositeAgain composite → ArePut (with_composite composites composite) (most + 1)
put_one [] most composite are g = record { again = (g, tt); few = omega arith }
put_one (first ∷ rest) most composite are g =
    by_order (slice_cmp nat_cmp (composite_text composite) (composite_text first))
    (put_one rest (length rest) composite (record { again = are.again.1; few = omega arith }) g)
  where
    by_order : (o : Ordering) → ArePut (with_composite rest composite) (length rest + 1)
        → ArePut (match_ordering o (composite ∷ first ∷ rest) (first ∷ rest) (first ∷ with_composite rest composite)) (most + 1)
    by_order Less later = record { again = (g, are.again); few = omega (arith, are.few) }
    by_order Equal later = record { again = are.again; few = omega (arith, are.few) }
    by_order Greater later = record { again = (are.again.0, later.again); few = omega (arith, are.few, later.few) }

put_all : (composites : List (List Order)) (most : ℕ) (more : List (List Order)) → ArePut composites most
    → AllByRecursion IsCompositeAgain more → ArePut (fold with_composite composites more) (most + length more)
put_all composites most [] are g = record { again = are.again; few = omega (arith, are.few) }
put_all composites most (one ∷ more) are g =
    let later = put_all (with_composite composites one) (most + 1) more (put_one composites most one are g.0) g.1 in
    record { again = later.again; few = omega (arith, later.few) }

-- what a policy's composites have that makes their list readable
pub record AreCompositesAgain (composites : List (List Order)) : Type 0 where
  pub again : AllByRecursion IsCompositeAgain composites
  pub rise : Rises composite_text composites
  pub few : length composites ≤ 8

by_text_again : (composites : List (List Order)) → AllByRecursion IsCompositeAgain composites
    → length composites ≤ 8 → AreCompositesAgain (by_text composites)
by_text_again composites h few =
    let put = put_all [] 0 composites (record { again = tt; few = omega arith }) h in
    record {
      again = put.again;
      rise = all_rise composite_text with_composite composite_puts [] composites tt;
      few = omega (arith, put.few);
    }

-- ---- the list of a policy

abbrev some_composites : List (List Order) → Option (List (List Order))
some_composites composites = Some composites

abbrev some_items : List Tree → Option (List Tree)
some_items items = Some items

both_few : {A B : Type 0} (one : Option B) (more : Option (List B)) (first : A) (rest : List A)
    → IfSome more (λ l. length l ≡ length rest)
    → IfSome (both_of one more) (λ l. length l ≡ length (first ∷ rest))
both_few None more first rest h = tt
both_few (Some b) None first rest h = tt
both_few (Some b) (Some l) first rest h = omega arith

-- what is read of few items is few
read_few : {A B : Type 0} (read : A → Option B) (items : List A)
    → IfSome (read_all read items) (λ l. length l ≡ length items)
read_few read [] = refl
read_few read (first ∷ rest) = both_few (read first) (read_all read rest) first rest (read_few read rest)

both_hold : {A : Type 0} (P Q : A → Type 0) (o : Option A) → IfSome o P → IfSome o Q
    → IfSome o (λ a. P a × Q a)
both_hold P Q None h g = tt
both_hold P Q (Some a) h g = (h, g)

map_holds : {A B : Type 0} (P : A → Type 0) (Q : B → Type 0) (f : A → B) (o : Option A) → IfSome o P
    → ((a : A) → P a → Q (f a)) → IfSome (option_map f o) Q
map_holds P Q f None h step = tt
map_holds P Q f (Some a) h step = step a h

few_hold : (items : List Tree) → IfSome (if_few items) (λ few. length few ≤ 8)
few_hold items = by_test (nat_le (length items) 8) refl
  where
    by_test : (b : Bool) → nat_le (length items) 8 ≡ b
        → IfSome (cond b (some_items items) None) (λ few. length few ≤ 8)
    by_test true e = leb-true (length items) 8 e
    by_test false e = tt

pub composites_hold : (given : Option Tree) → IfSome (composites_of given) AreCompositesAgain
composites_hold given =
    map_holds (λ l. AllByRecursion IsCompositeAgain l × (length l ≤ 8)) AreCompositesAgain by_text
    (option_and_then (read_all composite_of) (option_and_then if_few (trees_of given)))
    (and_then_holds (λ few. length few ≤ 8) (λ l. AllByRecursion IsCompositeAgain l × (length l ≤ 8))
    (read_all composite_of) (option_and_then if_few (trees_of given))
    (and_then_holds (λ _. Unit {0}) (λ few. length few ≤ 8) if_few (trees_of given)
    (holds_anyway (trees_of given)) (λ items _. few_hold items))
    (λ items few. both_hold (AllByRecursion IsCompositeAgain) (λ l. length l ≤ 8) (read_all composite_of items)
    (all_read IsCompositeAgain composite_of items composite_holds)
    (shorter (read_all composite_of items) items few (read_few composite_of items))))
    (λ l h. by_text_again l h.0 h.1)
  where
    shorter : (o : Option (List (List Order))) (items : List Tree) → length items ≤ 8
        → IfSome o (λ l. length l ≡ length items) → IfSome o (λ l. length l ≤ 8)
    shorter None items few h = tt
    shorter (Some l) items few h = omega arith

trees_of_list : (items : List Tree) → trees_of (Some (trees.List items)) ≡ some_items items
trees_of_list items = ap list_value_level (out_list items)

all_composites : (composites : List (List Order)) → AllByRecursion IsCompositeAgain composites
    → read_all composite_of (map composite_tree composites) ≡ some_composites composites
all_composites [] h = refl
all_composites (one ∷ composites) h =
    ap (λ o. both_of o (read_all composite_of (map composite_tree composites))) h.0
    ∙ ap (both_of (some_parts one)) (all_composites composites h.1)

pub composites_again : (composites : List (List Order)) → AreCompositesAgain composites
    → composites_of (Some (trees.List (map composite_tree composites))) ≡ some_composites composites
composites_again composites are =
    let few : length (map composite_tree composites) ≤ 8 = omega (arith, are.few, length-map composites composite_tree) in
    ap (λ o. option_map by_text (option_and_then (read_all composite_of) (option_and_then if_few o)))
    (trees_of_list (map composite_tree composites))
    ∙ ap (λ b. option_map by_text (option_and_then (read_all composite_of) (cond b (some_items (map composite_tree composites)) None)))
    (le-leb (length (map composite_tree composites)) 8 few)
    ∙ ap (option_map by_text) (all_composites composites are.again)
    ∙ ap some_composites (made_again composite_text with_composite composite_puts composites are.rise)

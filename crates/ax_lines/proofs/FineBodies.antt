-- The body that a fine tree is can be answered: its parameters are well formed under names that
-- rise, and nest less deep than the tree.
use Rattle.std.proofs.Common.{◌≡◌, ◌≤◌, ◌+◌, ℕ, suc, List, [], ◌∷◌, length, Bool}
use Rattle.std.proofs.Common.{true, false, ◌&&◌, nat_le, nat_lt, cond}
use Rattle.std.proofs.Common.{Option, Some, None, codes, Ordering, Less, Equal, Greater}
use Rattle.std.proofs.Common.{refl, sym, ap, ap₂, ◌∙◌, subst, arith}
use Rattle.std.specs.Cmp.Lexicographic.{slice_cmp}
use Rattle.std.specs.List.{list_all, fold, AllByRecursion}
use Rattle.std.specs.Option.{IfSome, option_map}
use Rattle.std.specs.Ordering.{nat_cmp, is_lt, match_ordering, ordering_reverse}
use Rattle.std.specs.Str.{is_utf8}
use Rattle.std.proofs.lemmas.Bool.{leb-true, ltb-false}
use Rattle.std.proofs.lemmas.Cmp.{nat_list_cmp_total}
use Rattle.ax_tree.specs.CanonicalText.{canonical_text}
use Rattle.ax_tree.specs.Document.{member, text_member}
use Rattle.ax_tree.specs.Names.{names, HaveRisingNames}
use Rattle.ax_tree.specs.Nesting.{nesting}
use Rattle.ax_tree.specs.Rising.{is_before, is_rising}
use Rattle.ax_tree.specs.WellFormed.{IsWellFormed}
use Rattle.ax_tree.specs.declared.members.Member.{Member}
use Rattle.ax_tree.specs.declared.tree.Tree as tree
use Rattle.ax_text.proofs.DataDepth.{of_both}
use Rattle.ax_text.proofs.Formed.{is_good_member, object-formed}
use Rattle.ax_text.proofs.Levels.{deepest, nesting_object}
use Rattle.ax_text.proofs.RisingNames.{and_first, and_second}
use Rattle.ax_lines.specs.Asked.{IsAnswerable}
use Rattle.ax_lines.specs.Bodies as spec
use Rattle.ax_lines.specs.declared.body.Body.{Body}
use Rattle.ax_lines.proofs.FineTrees.{IsFine, IsUtf8Text, and_then_holds, map_holds}
use Rattle.ax_lines.proofs.FineTrees.{member_fine, text_fine, items_fine}

-- a parameter whose value nests no deeper than that
record IsGiven (most : ℕ) (m : Member tree.Tree) : Type 0 where
  utf8 : is_utf8 m.name ≡ true
  named : spec.is_parameter_name m.name ≡ true
  value : IsFine most m.value

-- ---- what is written

record IsName (name : List ℕ) : Type 0 where
  utf8 : is_utf8 name ≡ true
  named : spec.is_parameter_name name ≡ true

if_named : (name : List ℕ) (b : Bool) → spec.is_parameter_name name ≡ b → is_utf8 name ≡ true
    → IfSome (cond b (Some name) None) IsName
if_named name true is utf8 = record { utf8 = utf8; named = is }
if_named name false is utf8 = tt

name_given : (most : ℕ) (t : tree.Tree) → IsFine (suc most) t
    → IfSome (spec.parameter_name t) IsName
name_given most t fine =
    and_then_holds IsUtf8Text IsName
    (λ name. cond (spec.is_parameter_name name) (Some name) None) (text_member (codes "name") t)
    (text_fine most (codes "name") t fine)
    (λ name utf8. if_named name (spec.is_parameter_name name) refl utf8)

parameter_given : (most : ℕ) (t : tree.Tree) → IsFine (suc most) t
    → IfSome (spec.parameter t) (IsGiven most)
parameter_given most t fine =
    and_then_holds IsName (IsGiven most)
    (λ name. option_map (λ value. record { name = name; value = value }) (member (codes "value") t))
    (spec.parameter_name t) (name_given most t fine)
    (λ name is. map_holds (IsFine most) (IsGiven most)
    (λ value. record { name = name; value = value }) (member (codes "value") t)
    (member_fine most (codes "value") t fine)
    (λ value own. record { utf8 = is.utf8; named = is.named; value = own }))

all_given : (most : ℕ) (ts : List tree.Tree) → AllByRecursion (IsFine (suc most)) ts
    → IfSome (spec.parameters ts) (AllByRecursion (IsGiven most))
all_given most [] fine = tt
all_given most (t ∷ ts) fine =
    of_both (spec.parameter t) (spec.parameters ts) (IsGiven most)
    (AllByRecursion (IsGiven most)) (AllByRecursion (IsGiven most)) (λ m ms p q. (p, q))
    (parameter_given most t fine.0) (all_given most ts fine.1)

written_given : (most : ℕ) (o : Option tree.Tree) → IfSome o (IsFine (suc (suc most)))
    → IfSome (spec.written_parameters o) (AllByRecursion (IsGiven most))
written_given most None fine = tt
written_given most (Some t) fine =
    and_then_holds (AllByRecursion (IsFine (suc most))) (AllByRecursion (IsGiven most))
    spec.parameters (spec.list_value t) (items_fine (suc most) t fine)
    (λ ts own. all_given most ts own)

-- ---- by name

with_given : (most : ℕ) (ms : List (Member tree.Tree)) (m : Member tree.Tree)
    → AllByRecursion (IsGiven most) ms → IsGiven most m
    → AllByRecursion (IsGiven most) (spec.with_parameter ms m)
with_given most [] m all one = (one, tt)
with_given most (first ∷ rest) m all one =
    by_order (slice_cmp nat_cmp m.name first.name) (with_given most rest m all.1 one)
  where
    by_order : (o : Ordering) → AllByRecursion (IsGiven most) (spec.with_parameter rest m)
        → AllByRecursion (IsGiven most) (match_ordering o (m ∷ first ∷ rest)
        (record { name = first.name; value = m.value } ∷ rest) (first ∷ spec.with_parameter rest m))
    by_order Less later = (one, all)
    by_order Equal later =
        (record { utf8 = all.0.utf8; named = all.0.named; value = one.value }, all.1)
    by_order Greater later = (all.0, later)

by_name_given : (most : ℕ) (done written : List (Member tree.Tree))
    → AllByRecursion (IsGiven most) done → AllByRecursion (IsGiven most) written
    → AllByRecursion (IsGiven most) (fold spec.with_parameter done written)
by_name_given most done [] before later = before
by_name_given most done (m ∷ written) before later =
    by_name_given most (spec.with_parameter done m) written (with_given most done m before later.0)
    later.1

before_from_Greater : (m n : List ℕ) → slice_cmp nat_cmp m n ≡ Greater → is_before n m ≡ true
before_from_Greater m n e =
    ap is_lt (nat_list_cmp_total.antisymm n m ∙ ap ordering_reverse e)

-- one more member keeps the names rising, behind a name that is before both
under : (n : List ℕ) (ms : List (Member tree.Tree)) (m : Member tree.Tree)
    → is_rising (n ∷ names ms) ≡ true → is_before n m.name ≡ true
    → is_rising (n ∷ names (spec.with_parameter ms m)) ≡ true
under n [] m rising before = ap (λ b. b && true) before
under n (first ∷ rest) m rising before =
    by_order (slice_cmp nat_cmp m.name first.name) refl
    (λ greater. under first.name rest m (and_second (is_before n first.name) _ rising)
    (before_from_Greater m.name first.name greater))
  where
    by_order : (o : Ordering) → slice_cmp nat_cmp m.name first.name ≡ o
        → (o ≡ Greater → is_rising (first.name ∷ names (spec.with_parameter rest m)) ≡ true)
        → is_rising (n ∷ names (match_ordering o (m ∷ first ∷ rest)
        (record { name = first.name; value = m.value } ∷ rest) (first ∷ spec.with_parameter rest m)))
        ≡ true
    by_order Less is later =
        ap₂ (λ a b. a && b) before (ap₂ (λ a b. a && b) (ap is_lt is)
        (and_second (is_before n first.name) _ rising))
    by_order Equal is later = rising
    by_order Greater is later =
        ap₂ (λ a b. a && b) (and_first (is_before n first.name) _ rising) (later refl)

with_rising : (ms : List (Member tree.Tree)) (m : Member tree.Tree) → HaveRisingNames ms
    → HaveRisingNames (spec.with_parameter ms m)
with_rising [] m rising = refl
with_rising (first ∷ rest) m rising = by_order (slice_cmp nat_cmp m.name first.name) refl
  where
    by_order : (o : Ordering) → slice_cmp nat_cmp m.name first.name ≡ o
        → HaveRisingNames (match_ordering o (m ∷ first ∷ rest)
        (record { name = first.name; value = m.value } ∷ rest) (first ∷ spec.with_parameter rest m))
    by_order Less is = ap₂ (λ a b. a && b) (ap is_lt is) rising
    by_order Equal is = rising
    by_order Greater is = under first.name rest m rising (before_from_Greater m.name first.name is)

pub by_name_rising : (done written : List (Member tree.Tree)) → HaveRisingNames done
    → HaveRisingNames (fold spec.with_parameter done written)
by_name_rising done [] rising = rising
by_name_rising done (m ∷ written) rising =
    by_name_rising (spec.with_parameter done m) written (with_rising done m rising)

-- ---- the map of them

are_good : (most : ℕ) (ms : List (Member tree.Tree)) → AllByRecursion (IsGiven most) ms
    → list_all is_good_member ms ≡ true
are_good most [] all = refl
are_good most (m ∷ ms) all =
    ap₂ (λ a b. a && b) (ap₂ (λ a b. a && b) all.0.utf8 all.0.value.formed) (are_good most ms all.1)

are_named : (most : ℕ) (ms : List (Member tree.Tree)) → AllByRecursion (IsGiven most) ms
    → list_all spec.is_parameter_name (names ms) ≡ true
are_named most [] all = refl
are_named most (m ∷ ms) all = ap₂ (λ a b. a && b) all.0.named (are_named most ms all.1)

are_shallow : (most : ℕ) (ms : List (Member tree.Tree)) → AllByRecursion (IsGiven most) ms
    → deepest ms ≤ most
are_shallow most [] all = omega arith
are_shallow most (m ∷ ms) all =
    let here : nesting m.value ≤ most = all.0.value.shallow in
    let there : deepest ms ≤ most = are_shallow most ms all.1 in
    omega (arith, here, there)

-- the parameters of a body
record AreParams (most : ℕ) (params : List (Member tree.Tree)) : Type 0 where
  named : list_all spec.is_parameter_name (names params) ≡ true
  object : IsFine (suc most) (tree.Object params)
  small : length (canonical_text (tree.Object params)) ≤ spec.most_params_bytes

small_params : (most : ℕ) (written : List (Member tree.Tree)) (b : Bool)
    → nat_le (length (canonical_text (tree.Object (spec.by_name written)))) spec.most_params_bytes
    ≡ b
    → AllByRecursion (IsGiven most) written
    → IfSome (cond b (Some (spec.by_name written)) None) (AreParams most)
small_params most written true is given =
    let all = by_name_given most [] written tt given in
    let low : deepest (spec.by_name written) ≤ most = are_shallow most _ all in
    let nests : nesting (tree.Object (spec.by_name written)) ≡ deepest (spec.by_name written) + 1 =
    nesting_object (spec.by_name written) in
    let shallow : nesting (tree.Object (spec.by_name written)) ≤ suc most =
    omega (arith, low, nests) in
    record {
      named = are_named most _ all;
      object = record {
        formed =
            object-formed (spec.by_name written) (by_name_rising [] written refl)
            (are_good most _ all);
        shallow = shallow;
      };
      small = leb-true _ _ is;
    }
small_params most written false is given = tt

params_given : (most : ℕ) (o : Option tree.Tree) → IfSome o (IsFine (suc (suc most)))
    → IfSome (spec.params_of o) (AreParams most)
params_given most o fine =
    and_then_holds (AllByRecursion (IsGiven most)) (AreParams most)
    (λ written. spec.if_small (spec.by_name written)) (spec.written_parameters o)
    (written_given most o fine)
    (λ written given. small_params most written _ refl given)

body_answerable : (t : tree.Tree) → IsFine 100 t → IfSome (spec.body_of t) IsAnswerable
body_answerable t fine =
    and_then_holds IsUtf8Text IsAnswerable
    (λ text. option_map (λ params. record { text = text; params = params })
    (spec.params_of (member (codes "parameters") t)))
    (text_member (codes "query") t) (text_fine 99 (codes "query") t fine)
    (λ text utf8. map_holds (AreParams 97) IsAnswerable
    (λ params. record { text = text; params = params })
    (spec.params_of (member (codes "parameters") t))
    (params_given 97 (member (codes "parameters") t) (member_fine 99 (codes "parameters") t fine))
    (λ params are. record {
      text = utf8;
      named = are.named;
      well_formed = are.object.formed;
      shallow = omega (arith, are.object.shallow);
      small = are.small;
    }))

pub answerable : (t : tree.Tree) (body : Body) → IsWellFormed t → nesting t ≤ 100
    → Some body ≡ spec.body_of t → IsAnswerable body
answerable t body formed shallow is =
    subst (λ o. IfSome o IsAnswerable) (sym is)
    (body_answerable t (record { formed = formed; shallow = shallow }))

pub not_deeper : (n : ℕ) → nat_lt 100 n ≡ false → n ≤ 100
not_deeper n e = ltb-false 100 n e

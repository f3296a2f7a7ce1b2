-- A map that is written has under each name the value that was written last there.
use Rattle.std.proofs.Common.{◌≡◌, ℕ, List, [], ◌∷◌, Bool, true, false, ◌&&◌, Some, refl, sym, ap, ◌∙◌, subst, if◌then◌else◌}
use Rattle.std.proofs.lemmas.Bool.{and_parts, false≢true}
use Rattle.std.proofs.lemmas.Slice.Eq.{bytes_eq-Decides}
use Rattle.std.proofs.lemmas.Cmp.{nat_list_cmp_total}
use Rattle.std.specs.Prelude.{find, option_map}
use Rattle.std.specs.Str.{bytes_eq}
use Rattle.std.specs.declared.cmp.Ordering.{Ordering}
use Rattle.std.specs.declared.cmp.Ordering.TheVariants.{Less, Equal, Greater}
use Rattle.std.specs.Ordering.{nat_cmp, is_lt, ordering_reverse}
use Rattle.std.specs.Cmp.Lexicographic.{slice_cmp}
use Rattle.ax_tree.specs.Document.{value_of}
use Rattle.ax_tree.specs.Names.{names, HaveRisingNames}
use Rattle.ax_tree.specs.Rising.{is_before, is_rising}
use Rattle.ax_tree.specs.declared.members.Member.{Member}
use Rattle.ax_tree.specs.declared.tree.Tree.{Tree}
use Rattle.ax_mean.specs.declared.value.Value.{Value}
use Rattle.ax_mean.specs.declared.value.Value.TheVariants.{Undefined, Defined}
use Rattle.ax_mean.specs.Building.{with_member, without_member, with_value, all_put, members_of}
use Rattle.ax_mean.specs.Values.{of_tree}
use Rattle.ax_eval.proofs.Rising.{value_rises}
use Rattle.ax_answer.specs.Written.{last_from, last_written}

abbrev under : List ℕ → List (Member Tree) → Value
under name ms = of_tree (value_of name ms)

under_cons : (name : List ℕ) (m : Member Tree) (ms : List (Member Tree))
    → under name (m ∷ ms) ≡ (if bytes_eq m.name name then Defined m.value else under name ms)
under_cons name m ms = by (bytes_eq m.name name)
  where
    by : (b : Bool)
        → of_tree (option_map (λ m. m.value)
        (if b then Some m else find (λ m. bytes_eq m.name name) ms))
        ≡ (if b then Defined m.value else under name ms)
    by true = refl
    by false = refl

-- ---- a name before others is none of them

is_lt_Less : (o : Ordering) → is_lt o ≡ true → o ≡ Less
is_lt_Less Less e = refl
is_lt_Less Equal e = cc
is_lt_Less Greater e = cc

not_before_itself : (a : List ℕ) → is_before a a ≡ true → ⊥
not_before_itself a h =
    let less : slice_cmp nat_cmp a a ≡ Less = is_lt_Less _ h in
    let turned : Less ≡ Greater =
    sym less ∙ nat_list_cmp_total.antisymm a a ∙ ap ordering_reverse less in
    let e : ⊥ = cc turned in e

before_differs : (a b : List ℕ) → is_before a b ≡ true → bytes_eq b a ≡ false
before_differs a b h = by (bytes_eq b a) refl
  where
    by : (c : Bool) → bytes_eq b a ≡ c → bytes_eq b a ≡ false
    by false is = is
    by true is =
        absurd (not_before_itself a
        (subst (λ k. is_before a k ≡ true) ((bytes_eq-Decides b a).0 is) h))

abbrev is_before_all : List ℕ → List (List ℕ) → Bool
is_before_all name [] = true
is_before_all name (next ∷ rest) = is_before name next && is_before_all name rest

before_again : (a b c : List ℕ) → is_before a b ≡ true → is_before b c ≡ true
    → is_before a c ≡ true
before_again a b c first second =
    ap is_lt (nat_list_cmp_total.trans a b c (is_lt_Less _ first) (is_lt_Less _ second))

all_again : (a b : List ℕ) (rest : List (List ℕ)) → is_before a b ≡ true
    → is_before_all b rest ≡ true → is_before_all a rest ≡ true
all_again a b [] first all = refl
all_again a b (c ∷ rest) first all =
    let both = and_parts (is_before b c) _ all in
    both_true (before_again a b c first both.0) (all_again a b rest first both.1)
  where
    both_true : {p q : Bool} → p ≡ true → q ≡ true → p && q ≡ true
    both_true {p} {q} i j = ap (λ x. x && q) i ∙ j

first_before_all : (name : List ℕ) (rest : List (List ℕ)) → is_rising (name ∷ rest) ≡ true
    → is_before_all name rest ≡ true
first_before_all name [] rise = refl
first_before_all name (next ∷ rest) rise =
    let both = and_parts (is_before name next) _ rise in
    ap (λ b. b && is_before_all name rest) both.0
    ∙ all_again name next rest both.0 (first_before_all next rest both.1)

none_under : (name : List ℕ) (ms : List (Member Tree)) → is_before_all name (names ms) ≡ true
    → under name ms ≡ Undefined
none_under name [] before = refl
none_under name (m ∷ ms) before =
    let both = and_parts (is_before name m.name) _ before in
    under_cons name m ms
    ∙ ap (λ b. if b then Defined m.value else under name ms) (before_differs name m.name both.0)
    ∙ none_under name ms both.1

rest_rises : (name : List ℕ) (rest : List (List ℕ)) → is_rising (name ∷ rest) ≡ true
    → is_rising rest ≡ true
rest_rises name [] rise = refl
rest_rises name (next ∷ rest) rise = (and_parts (is_before name next) _ rise).1

-- ---- one value more

-- the first of two values that were written under one name is no matter
over : (b : Bool) (x y z : Value)
    → (if b then x else z) ≡ (if b then x else if b then y else z)
over true x y z = refl
over false x y z = refl

-- two names that differ are not both the one that is looked for
apart : (a b : Bool) (x y z : Value) → (a ≡ true → b ≡ true → ⊥)
    → (if a then x else if b then y else z) ≡ (if b then y else if a then x else z)
apart true true x y z both = absurd (both refl refl)
apart true false x y z both = refl
apart false b x y z both = refl

not_both : (name n k : List ℕ) → bytes_eq n k ≡ false → bytes_eq k name ≡ true
    → bytes_eq n name ≡ true → ⊥
not_both name n k differ is_k is_n =
    false≢true (sym differ
    ∙ (bytes_eq-Decides n k).1
    ((bytes_eq-Decides n name).0 is_n ∙ sym ((bytes_eq-Decides k name).0 is_k)))

-- what is under a name behind a member of another name, where what follows changes under one name
behind : (name n : List ℕ) (v : Value) (m : Member Tree) (ms changed : List (Member Tree))
    → bytes_eq n m.name ≡ false
    → under name changed ≡ (if bytes_eq n name then v else under name ms)
    → under name (m ∷ changed) ≡ (if bytes_eq n name then v else under name (m ∷ ms))
behind name n v m ms changed differ so =
    under_cons name m changed
    ∙ ap (λ w. if bytes_eq m.name name then Defined m.value else w) so
    ∙ apart (bytes_eq m.name name) (bytes_eq n name) (Defined m.value) v (under name ms)
    (not_both name n m.name differ)
    ∙ ap (λ w. if bytes_eq n name then v else w) (sym (under_cons name m ms))

-- the same at a member of that name, which goes
instead : (name n : List ℕ) (v : Value) (m : Member Tree) (ms : List (Member Tree))
    → bytes_eq n m.name ≡ true
    → (if bytes_eq n name then v else under name ms)
    ≡ (if bytes_eq n name then v else under name (m ∷ ms))
instead name n v m ms same =
    over (bytes_eq n name) v (Defined m.value) (under name ms)
    ∙ ap (λ w. if bytes_eq n name then v else w)
    (ap (λ k. if bytes_eq k name then Defined m.value else under name ms)
    ((bytes_eq-Decides n m.name).0 same) ∙ sym (under_cons name m ms))

put_by : (name n : List ℕ) (t : Tree) (m : Member Tree) (ms : List (Member Tree))
    (same before : Bool) → bytes_eq n m.name ≡ same
    → under name (with_member n t ms) ≡ (if bytes_eq n name then Defined t else under name ms)
    → under name (if same then record { name = n; value = t } ∷ ms
    else if before then record { name = n; value = t } ∷ m ∷ ms
    else m ∷ with_member n t ms)
    ≡ (if bytes_eq n name then Defined t else under name (m ∷ ms))
put_by name n t m ms true before is so =
    under_cons name (record { name = n; value = t }) ms ∙ instead name n (Defined t) m ms is
put_by name n t m ms false true is so =
    under_cons name (record { name = n; value = t }) (m ∷ ms)
put_by name n t m ms false false is so =
    behind name n (Defined t) m ms (with_member n t ms) is so

put_under : (name n : List ℕ) (t : Tree) (found : List (Member Tree))
    → under name (with_member n t found) ≡ (if bytes_eq n name then Defined t else under name found)
put_under name n t [] = under_cons name (record { name = n; value = t }) []
put_under name n t (m ∷ ms) =
    put_by name n t m ms (bytes_eq n m.name) (is_before n m.name) refl (put_under name n t ms)

nothing_either : (b : Bool) → Undefined ≡ (if b then Undefined else Undefined)
nothing_either true = refl
nothing_either false = refl

removed_here : (name n : List ℕ) (ms : List (Member Tree)) (b : Bool) → bytes_eq n name ≡ b
    → is_before_all n (names ms) ≡ true
    → under name ms ≡ (if b then Undefined else under name ms)
removed_here name n ms true is before =
    none_under name ms
    (subst (λ k. is_before_all k (names ms) ≡ true) ((bytes_eq-Decides n name).0 is) before)
removed_here name n ms false is before = refl

removed_by : (name n : List ℕ) (m : Member Tree) (ms : List (Member Tree)) (same : Bool)
    → bytes_eq n m.name ≡ same → HaveRisingNames (m ∷ ms)
    → under name (without_member n ms) ≡ (if bytes_eq n name then Undefined else under name ms)
    → under name (if same then ms else m ∷ without_member n ms)
    ≡ (if bytes_eq n name then Undefined else under name (m ∷ ms))
removed_by name n m ms true is rise so =
    removed_here name n ms (bytes_eq n name) refl
    (subst (λ k. is_before_all k (names ms) ≡ true) (sym ((bytes_eq-Decides n m.name).0 is))
    (first_before_all m.name (names ms) rise))
    ∙ instead name n Undefined m ms is
removed_by name n m ms false is rise so =
    behind name n Undefined m ms (without_member n ms) is so

removed_under : (name n : List ℕ) (found : List (Member Tree)) → HaveRisingNames found
    → under name (without_member n found)
    ≡ (if bytes_eq n name then Undefined else under name found)
removed_under name n [] rise = nothing_either (bytes_eq n name)
removed_under name n (m ∷ ms) rise =
    removed_by name n m ms (bytes_eq n m.name) refl rise
    (removed_under name n ms (rest_rises m.name (names ms) rise))

value_under : (name n : List ℕ) (v : Value) (found : List (Member Tree)) → HaveRisingNames found
    → under name (with_value n v found) ≡ (if bytes_eq n name then v else under name found)
value_under name n Undefined found rise = removed_under name n found rise
value_under name n (Defined t) found rise = put_under name n t found

-- ---- all of them

all_under : (name : List ℕ) (found : List (Member Tree)) (ms : List (Member Value))
    → HaveRisingNames found
    → under name (all_put found ms) ≡ last_from name (under name found) ms
all_under name found [] rise = refl
all_under name found (m ∷ ms) rise =
    all_under name (with_value m.name m.value found) ms (value_rises m.name m.value found rise)
    ∙ ap (λ v. last_from name v ms) (value_under name m.name m.value found rise)

pub last_counts : (name : List ℕ) (members : List (Member Value))
    → of_tree (value_of name (members_of members)) ≡ last_written name members
last_counts name members = all_under name [] members refl

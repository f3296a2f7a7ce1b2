-- The names of the members of a map that is being made rise.
use Rattle.std.proofs.Common.{◌≡◌, ℕ, List, [], ◌∷◌, Bool, true, false, ◌&&◌, refl, sym, ap, ap₂, ◌∙◌, subst, if◌then◌else◌}
use Rattle.std.proofs.lemmas.Bool.{and_parts}
use Rattle.std.proofs.lemmas.Slice.Eq.{bytes_eq-Decides}
use Rattle.std.proofs.lemmas.Cmp.{nat_list_cmp_total}
use Rattle.std.specs.Str.{bytes_eq}
use Rattle.std.specs.declared.cmp.Ordering.{Ordering}
use Rattle.std.specs.declared.cmp.Ordering.TheVariants.{Less, Equal, Greater}
use Rattle.std.specs.FinMap.{slice_cmp-IsAntisymmetric, nat_cmp-IsAntisymmetric}
use Rattle.std.specs.Ordering.{nat_cmp, is_lt, ordering_reverse}
use Rattle.std.specs.Cmp.Lexicographic.{slice_cmp}
use Rattle.ax_tree.specs.Names.{names, HaveRisingNames}
use Rattle.ax_tree.specs.Rising.{is_before, is_rising}
use Rattle.ax_tree.specs.declared.members.Member.{Member}
use Rattle.ax_tree.specs.declared.tree.Tree.{Tree}
use Rattle.ax_mean.specs.declared.value.Value.{Value}
use Rattle.ax_mean.specs.declared.value.Value.TheVariants.{Undefined, Defined}
use Rattle.ax_mean.specs.Building.{with_member, without_member, with_value, all_put, members_of}

-- the name is before the first of some
abbrev is_before_first : List ℕ → List (List ℕ) → Bool
is_before_first name [] = true
is_before_first name (next ∷ rest) = is_before name next

rises_from : (name : List ℕ) (rest : List (List ℕ)) → is_before_first name rest ≡ true
    → is_rising rest ≡ true → is_rising (name ∷ rest) ≡ true
rises_from name [] first rise = refl
rises_from name (next ∷ rest) first rise = ap₂ (λ a b. a && b) first rise

parts : (name : List ℕ) (rest : List (List ℕ)) → is_rising (name ∷ rest) ≡ true
    → (is_before_first name rest ≡ true) × (is_rising rest ≡ true)
parts name [] rise = (refl, refl)
parts name (next ∷ rest) rise = and_parts (is_before name next) _ rise

is_lt_Less : (o : Ordering) → is_lt o ≡ true → o ≡ Less
is_lt_Less Less e = refl
is_lt_Less Equal e = cc
is_lt_Less Greater e = cc

before_again : (a b c : List ℕ) → is_before a b ≡ true → is_before b c ≡ true
    → is_before a c ≡ true
before_again a b c first second =
    ap is_lt (nat_list_cmp_total.trans a b c (is_lt_Less _ first) (is_lt_Less _ second))

before_first_again : (a b : List ℕ) (rest : List (List ℕ)) → is_before a b ≡ true
    → is_before_first b rest ≡ true → is_before_first a rest ≡ true
before_first_again a b [] first second = refl
before_first_again a b (c ∷ rest) first second = before_again a b c first second

-- of two texts that differ, where the one is not before the other, that is before the one
turned : (o : Ordering) → (o ≡ Equal → false ≡ true) → is_lt o ≡ false
    → ordering_reverse o ≡ Less
turned Less apart after = cc
turned Equal apart after = absurd (let e : ⊥ = cc (apart refl) in e)
turned Greater apart after = refl

after_before : (a b : List ℕ) → bytes_eq a b ≡ false → is_before a b ≡ false
    → is_before b a ≡ true
after_before a b differ after =
    ap is_lt
    (nat_list_cmp_total.antisymm b a
    ∙ turned (slice_cmp nat_cmp a b)
    (λ same. sym differ
    ∙ (bytes_eq-Decides a b).1 (slice_cmp-IsAntisymmetric nat_cmp-IsAntisymmetric a b same))
    after)

-- the members with one put at its name, by the two tests
abbrev put_at : List ℕ → Tree → Member Tree → List (Member Tree) → Bool → Bool → List (Member Tree)
put_at name value m ms same before =
    if same then record { name = name; value = value } ∷ ms
    else if before then record { name = name; value = value } ∷ m ∷ ms
    else m ∷ with_member name value ms

abbrev removed_at : List ℕ → Member Tree → List (Member Tree) → Bool → List (Member Tree)
removed_at name m ms same = if same then ms else m ∷ without_member name ms

put_first : (a name : List ℕ) (value : Tree) (m : Member Tree) (ms : List (Member Tree))
    (same before : Bool) → is_before a name ≡ true → is_before a m.name ≡ true
    → is_before_first a (names (put_at name value m ms same before)) ≡ true
put_first a name value m ms true before first second = first
put_first a name value m ms false true first second = first
put_first a name value m ms false false first second = second

put_after : (a name : List ℕ) (value : Tree) (ms : List (Member Tree)) → is_before a name ≡ true
    → is_before_first a (names ms) ≡ true
    → is_before_first a (names (with_member name value ms)) ≡ true
put_after a name value [] first second = first
put_after a name value (m ∷ ms) first second =
    put_first a name value m ms (bytes_eq name m.name) (is_before name m.name) first second

put_rises : (name : List ℕ) (value : Tree) (m : Member Tree) (ms : List (Member Tree))
    (same before : Bool) → bytes_eq name m.name ≡ same → is_before name m.name ≡ before
    → HaveRisingNames (m ∷ ms) → HaveRisingNames (with_member name value ms)
    → HaveRisingNames (put_at name value m ms same before)
put_rises name value m ms true before is b rise rest =
    subst (λ n. is_rising (n ∷ names ms) ≡ true) (sym ((bytes_eq-Decides name m.name).0 is)) rise
put_rises name value m ms false true is b rise rest =
    rises_from name (names (m ∷ ms)) b rise
put_rises name value m ms false false is b rise rest =
    rises_from m.name (names (with_member name value ms))
    (put_after m.name name value ms (after_before name m.name is b)
    (parts m.name (names ms) rise).0) rest

pub with_member_rises : (name : List ℕ) (value : Tree) (ms : List (Member Tree))
    → HaveRisingNames ms → HaveRisingNames (with_member name value ms)
with_member_rises name value [] rise = refl
with_member_rises name value (m ∷ ms) rise =
    put_rises name value m ms (bytes_eq name m.name) (is_before name m.name) refl refl rise
    (with_member_rises name value ms (parts m.name (names ms) rise).1)

removed_first : (a name : List ℕ) (m : Member Tree) (ms : List (Member Tree)) (same : Bool)
    → is_before a m.name ≡ true → is_rising (m.name ∷ names ms) ≡ true
    → is_before_first a (names (removed_at name m ms same)) ≡ true
removed_first a name m ms true first rise =
    before_first_again a m.name (names ms) first (parts m.name (names ms) rise).0
removed_first a name m ms false first rise = first

removed_after : (a name : List ℕ) (ms : List (Member Tree)) → is_before_first a (names ms) ≡ true
    → HaveRisingNames ms → is_before_first a (names (without_member name ms)) ≡ true
removed_after a name [] first rise = refl
removed_after a name (m ∷ ms) first rise =
    removed_first a name m ms (bytes_eq name m.name) first rise

removed_rises : (name : List ℕ) (m : Member Tree) (ms : List (Member Tree)) (same : Bool)
    → HaveRisingNames (m ∷ ms) → HaveRisingNames (without_member name ms)
    → HaveRisingNames (removed_at name m ms same)
removed_rises name m ms true rise rest = (parts m.name (names ms) rise).1
removed_rises name m ms false rise rest =
    let p = parts m.name (names ms) rise in
    rises_from m.name (names (without_member name ms)) (removed_after m.name name ms p.0 p.1) rest

pub without_member_rises : (name : List ℕ) (ms : List (Member Tree)) → HaveRisingNames ms
    → HaveRisingNames (without_member name ms)
without_member_rises name [] rise = refl
without_member_rises name (m ∷ ms) rise =
    removed_rises name m ms (bytes_eq name m.name) rise
    (without_member_rises name ms (parts m.name (names ms) rise).1)

pub value_rises : (name : List ℕ) (value : Value) (ms : List (Member Tree)) → HaveRisingNames ms
    → HaveRisingNames (with_value name value ms)
value_rises name Undefined ms rise = without_member_rises name ms rise
value_rises name (Defined tree) ms rise = with_member_rises name tree ms rise

all_rise : (found : List (Member Tree)) (ms : List (Member Value)) → HaveRisingNames found
    → HaveRisingNames (all_put found ms)
all_rise found [] rise = rise
all_rise found (m ∷ ms) rise =
    all_rise (with_value m.name m.value found) ms (value_rises m.name m.value found rise)

pub members_rise : (ms : List (Member Value)) → HaveRisingNames (members_of ms)
members_rise ms = all_rise [] ms refl

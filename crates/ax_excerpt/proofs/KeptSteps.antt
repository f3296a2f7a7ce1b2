-- Steps that an excerpt keeps lead to the same value in what it leaves of a tree.
use Rattle.std.proofs.Common.{◌≡◌, ℕ, List, [], ◌∷◌, map, cond, Bool, true, false, Option, Some, None, refl, sym, ap, ◌∙◌, subst, rules}
use Rattle.std.specs.Prelude.{find, option_map, option_and_then, slice_get}
use Rattle.std.specs.Str.{bytes_eq}
use Rattle.std.proofs.lemmas.Bool.{false≢true}
use Rattle.std.proofs.lemmas.Slice.Eq.{bytes_eq-Decides}
use Rattle.ax_tree.specs.declared.members.Member.{Member}
use Rattle.ax_tree.specs.declared.tree.Tree as tree
use Rattle.ax_tree.specs.declared.tree.Tree.{Tree, out-Tree}
use Rattle.ax_tree.specs.declared.tree.Tree.TheOpen.{Tree-F}
use Rattle.ax_tree.specs.Document.{value_of, member_level, member}
use Rattle.ax_mean.specs.declared.expr.QueryStep.{QueryStep}
use Rattle.ax_mean.specs.declared.expr.QueryStep.TheVariants as step
use Rattle.ax_mean.specs.declared.query.Step.{Step}
use Rattle.ax_mean.specs.declared.query.Step.TheVariants.{Name, Item}
use Rattle.ax_mean.specs.declared.value.Value.{Value}
use Rattle.ax_mean.specs.declared.value.Value.TheVariants.{Undefined, Defined}
use Rattle.ax_mean.specs.Rows.{along_path}
use Rattle.ax_mean.specs.Steps.{steps_from}
use Rattle.ax_mean.specs.Values.{list_of, list_level, of_tree}
use Rattle.ax_excerpt.specs.declared.excerpt.Excerpt.{Excerpt}
use Rattle.ax_excerpt.specs.declared.excerpt.Excerpt as excerpt
use Rattle.ax_excerpt.specs.declared.excerpt.Excerpt.TheOpen.{Excerpt-F}
use Rattle.ax_excerpt.specs.declared.excerpt.Excerpt.TheViews.{roll-Excerpt}
use Rattle.ax_excerpt.specs.declared.excerpt.Excerpt.TheFolds.{map-Excerpt, fold-roll-Excerpt, ind-Excerpt}
use Rattle.ax_excerpt.specs.Excerpts.{under, with_part, chosen, part_level, excerpt_level, excerpt_of, kept_in, keeps_level, keeps, names_before, keeps_path, part_named}

-- ---- what is looked up in what was chosen

pub value_first : (name : List ℕ) (m : Member Tree) (ms : List (Member Tree)) (b : Bool)
    → bytes_eq m.name name ≡ b → value_of name (m ∷ ms) ≡ cond b (Some m.value) (value_of name ms)
value_first name m ms true is =
    ap (λ c. option_map (λ (m : Member Tree). m.value) (cond c (Some m) (find (λ n. bytes_eq n.name name) ms))) is
value_first name m ms false is =
    ap (λ c. option_map (λ (m : Member Tree). m.value) (cond c (Some m) (find (λ n. bytes_eq n.name name) ms))) is

pub under_first : {X : Type 0} (name : List ℕ) (m : Member X) (ms : List (Member X)) (b : Bool)
    → bytes_eq m.name name ≡ b → under name (m ∷ ms) ≡ cond b (Some m.value) (under name ms)
under_first {X} name m ms true is =
    ap (λ c. option_map (λ (m : Member X). m.value) (cond c (Some m) (find (λ (n : Member X). bytes_eq n.name name) ms))) is
under_first {X} name m ms false is =
    ap (λ c. option_map (λ (m : Member X). m.value) (cond c (Some m) (find (λ (n : Member X). bytes_eq n.name name) ms))) is

pub none_some : {A : Type 0} {a : A} → None ≡ Some a → ⊥
none_some e = cc

-- what is not there is not chosen
none_chosen : (name : List ℕ) (parts : List (Member (Tree → Tree))) (ms : List (Member Tree))
    → value_of name ms ≡ None → value_of name (chosen parts ms) ≡ None
none_chosen name [] ms none = refl
none_chosen name (p ∷ ps) ms none =
    by (value_of p.name ms) refl (none_chosen name ps ms none)
  where
    first : (t : Tree) (b : Bool) → value_of p.name ms ≡ Some t → bytes_eq p.name name ≡ b
        → value_of name (chosen ps ms) ≡ None
        → value_of name (record { name = p.name; value = p.value t } ∷ chosen ps ms) ≡ None
    first t true is same others =
        absurd (none_some (sym none
        ∙ ap (λ n. value_of n ms) (sym ((bytes_eq-Decides p.name name).0 same)) ∙ is))
    first t false is apart others =
        value_first name (record { name = p.name; value = p.value t }) (chosen ps ms) false apart
        ∙ others

    by : (v : Option Tree) → value_of p.name ms ≡ v → value_of name (chosen ps ms) ≡ None
        → value_of name (with_part p v (chosen ps ms)) ≡ None
    by None is others = others
    by (Some t) is others = first t (bytes_eq p.name name) is refl others

member_of_object : (name : List ℕ) (ms : List (Member Tree))
    → member name (tree.Object ms) ≡ value_of name ms
member_of_object name ms = search (rules, tree.the_lemmas)

list_of_object : (ms : List (Member Tree)) → list_of (Defined (tree.Object ms)) ≡ None
list_of_object ms = search (rules, tree.the_lemmas)

abbrev IsKept : Excerpt → Type 0
IsKept e = (steps : List QueryStep) (t : Tree) → keeps e steps ≡ true
    → steps_from (Defined (excerpt_of e t)) steps ≡ steps_from (Defined t) steps

abbrev Kept : Type 0
Kept = (e : Excerpt) × IsKept e

abbrev part_of : Member Kept → Member Excerpt
part_of m = record { name = m.name; value = m.value.0 }

abbrev pub leaving : Member Excerpt → Member (Tree → Tree)
leaving m = record { name = m.name; value = excerpt_of m.value }

abbrev keeping : Member Excerpt → Member (List QueryStep → Bool)
keeping m = record { name = m.name; value = keeps m.value }

abbrev others_of : List (Member Kept) → List (Member Tree) → List (Member Tree)
others_of ps ms = chosen (map leaving (map part_of ps)) ms

-- the first member of that name is looked up in both
looked_up : (name : List ℕ) (ps : List (Member Kept)) (ms : List (Member Tree)) (steps : List QueryStep)
    → kept_in (under name (map keeping (map part_of ps))) steps ≡ true
    → steps_from (of_tree (value_of name (chosen (map leaving (map part_of ps)) ms))) steps
    ≡ steps_from (of_tree (value_of name ms)) steps
looked_up name [] ms steps h = absurd (false≢true h)
looked_up name (p ∷ ps) ms steps h =
    by (bytes_eq p.name name) refl (looked_up name ps ms steps)
  where
    here : (v : Option Tree) → value_of p.name ms ≡ v → p.name ≡ name
        → bytes_eq p.name name ≡ true → keeps p.value.0 steps ≡ true
        → steps_from (of_tree (value_of name (with_part (leaving (part_of p)) v (others_of ps ms)))) steps
        ≡ steps_from (of_tree (value_of name ms)) steps
    here None is same found own =
        let none : value_of name ms ≡ None = ap (λ n. value_of n ms) (sym same) ∙ is in
        ap (λ v. steps_from (of_tree v) steps)
        (none_chosen name (map leaving (map part_of ps)) ms none ∙ sym none)
    here (Some t) is same found own =
        ap (λ v. steps_from (of_tree v) steps)
        (value_first name (record { name = p.name; value = excerpt_of p.value.0 t }) (others_of ps ms) true found)
        ∙ p.value.1 steps t own
        ∙ ap (λ v. steps_from (of_tree v) steps) (sym is ∙ ap (λ n. value_of n ms) same)

    behind : (v : Option Tree) → bytes_eq p.name name ≡ false
        → value_of name (with_part (leaving (part_of p)) v (others_of ps ms)) ≡ value_of name (others_of ps ms)
    behind None apart = refl
    behind (Some t) apart =
        value_first name (record { name = p.name; value = excerpt_of p.value.0 t }) (others_of ps ms) false apart

    by : (b : Bool) → bytes_eq p.name name ≡ b
        → (kept_in (under name (map keeping (map part_of ps))) steps ≡ true
        → steps_from (of_tree (value_of name (others_of ps ms))) steps
        ≡ steps_from (of_tree (value_of name ms)) steps)
        → steps_from (of_tree (value_of name (chosen (map leaving (map part_of (p ∷ ps))) ms))) steps
        ≡ steps_from (of_tree (value_of name ms)) steps
    by true found later =
        here (value_of p.name ms) refl ((bytes_eq-Decides p.name name).0 found) found
        (ap (λ k. kept_in k steps)
        (sym (under_first name (keeping (part_of p)) (map keeping (map part_of ps)) true found)) ∙ h)
    by false apart later =
        ap (λ v. steps_from (of_tree v) steps) (behind (value_of p.name ms) apart)
        ∙ later
        (ap (λ k. kept_in k steps)
        (sym (under_first name (keeping (part_of p)) (map keeping (map part_of ps)) false apart)) ∙ h)

-- ---- one level

member_kept : (name : List ℕ) (ps : List (Member Kept)) (steps : List QueryStep) (t : Tree)
    (y : Tree-F Tree) → out-Tree t ≡ y
    → kept_in (under name (map keeping (map part_of ps))) steps ≡ true
    → steps_from (of_tree (member name (part_level (map leaving (map part_of ps)) t y))) steps
    ≡ steps_from (of_tree (member_level name y)) steps
member_kept name ps steps t (Tree-F.Object ms) is h =
    ap (λ v. steps_from (of_tree v) steps)
    (member_of_object name (chosen (map leaving (map part_of ps)) ms))
    ∙ looked_up name ps ms steps h
member_kept name ps steps t Tree-F.Null is h = ap (λ z. steps_from (of_tree (member_level name z)) steps) is
member_kept name ps steps t (Tree-F.Truth b) is h =
    ap (λ z. steps_from (of_tree (member_level name z)) steps) is
member_kept name ps steps t (Tree-F.Number n) is h =
    ap (λ z. steps_from (of_tree (member_level name z)) steps) is
member_kept name ps steps t (Tree-F.Text s) is h =
    ap (λ z. steps_from (of_tree (member_level name z)) steps) is
member_kept name ps steps t (Tree-F.List es) is h =
    ap (λ z. steps_from (of_tree (member_level name z)) steps) is

-- of a map there is no list, and a list is left whole
list_kept : (parts : List (Member (Tree → Tree))) (t : Tree) (y : Tree-F Tree) → out-Tree t ≡ y
    → list_of (Defined (part_level parts t y)) ≡ list_level y
list_kept parts t (Tree-F.Object ms) is = list_of_object (chosen parts ms)
list_kept parts t Tree-F.Null is = ap list_level is
list_kept parts t (Tree-F.Truth b) is = ap list_level is
list_kept parts t (Tree-F.Number n) is = ap list_level is
list_kept parts t (Tree-F.Text s) is = ap list_level is
list_kept parts t (Tree-F.List es) is = ap list_level is

abbrev level_of : Excerpt-F Kept → Excerpt-F Excerpt
level_of y = map-Excerpt Kept Excerpt (λ e. e.0) y

level : (y : Excerpt-F Kept) (steps : List QueryStep) (t : Tree)
    → keeps_level (map-Excerpt Excerpt (List QueryStep → Bool) keeps (level_of y)) steps ≡ true
    → steps_from (Defined (excerpt_level (map-Excerpt Excerpt (Tree → Tree) excerpt_of (level_of y)) t)) steps
    ≡ steps_from (Defined t) steps
level Excerpt-F.Whole steps t h = refl
level (Excerpt-F.Part ps) [] t h = absurd (false≢true h)
level (Excerpt-F.Part ps) (step.Member name ∷ steps) t h =
    member_kept name ps steps t (out-Tree t) refl h
level (Excerpt-F.Part ps) (step.Position at ∷ steps) t h =
    ap (λ l. steps_from (of_tree (option_and_then (λ items. slice_get items at) l)) steps)
    (list_kept (map leaving (map part_of ps)) t (out-Tree t) refl)

excerpt_roll : (x : Excerpt-F Excerpt)
    → excerpt_of (roll-Excerpt x) ≡ excerpt_level (map-Excerpt Excerpt (Tree → Tree) excerpt_of x)
excerpt_roll = fold-roll-Excerpt (Tree → Tree) excerpt_level

keeps_roll : (x : Excerpt-F Excerpt)
    → keeps (roll-Excerpt x) ≡ keeps_level (map-Excerpt Excerpt (List QueryStep → Bool) keeps x)
keeps_roll = fold-roll-Excerpt (List QueryStep → Bool) keeps_level

kept_level : (y : Excerpt-F Kept) → IsKept (roll-Excerpt (level_of y))
kept_level y steps t h =
    ap (λ (f : Tree → Tree). steps_from (Defined (f t)) steps) (excerpt_roll (level_of y))
    ∙ level y steps t (ap (λ (k : List QueryStep → Bool). k steps) (sym (keeps_roll (level_of y))) ∙ h)

pub kept_steps : (e : Excerpt) (steps : List QueryStep) (t : Tree) → keeps e steps ≡ true
    → steps_from (Defined (excerpt_of e t)) steps ≡ steps_from (Defined t) steps
kept_steps = ind-Excerpt IsKept (λ x y is. subst (λ z. IsKept (roll-Excerpt z)) is (kept_level y))

-- ---- paths

abbrev has_item : List Step → Bool
has_item [] = false
has_item (Name name ∷ path) = has_item path
has_item (Item ∷ path) = true

undefined_stays : (path : List Step) → along_path Undefined path ≡ Undefined
undefined_stays [] = refl
undefined_stays (s ∷ path) = undefined_stays path

undefined_along : (steps : List QueryStep) → steps_from Undefined steps ≡ Undefined
undefined_along [] = refl
undefined_along (s ∷ steps) = undefined_along steps

either_undefined : (b : Bool) (steps : List QueryStep)
    → Undefined ≡ cond b Undefined (steps_from Undefined steps)
either_undefined true steps = refl
either_undefined false steps = sym (undefined_along steps)

along_names : (path : List Step) (value : Value)
    → along_path value path ≡ cond (has_item path) Undefined (steps_from value (names_before path))
along_names [] value = refl
along_names (Name name ∷ path) Undefined =
    undefined_stays path ∙ either_undefined (has_item path) (names_before path)
along_names (Name name ∷ path) (Defined t) = along_names path (of_tree (member name t))
along_names (Item ∷ path) Undefined = undefined_stays path
along_names (Item ∷ path) (Defined t) = undefined_stays path

pub kept_path : (e : Excerpt) (path : List Step) (t : Tree) → keeps_path e path ≡ true
    → along_path (Defined (excerpt_of e t)) path ≡ along_path (Defined t) path
kept_path e path t h =
    along_names path (Defined (excerpt_of e t))
    ∙ ap (λ v. cond (has_item path) Undefined v) (kept_steps e (names_before path) t h)
    ∙ sym (along_names path (Defined t))

-- ---- the walk of an excerpt along steps

under_map : (name : List ℕ) (parts : List (Member Excerpt))
    → under name (map keeping parts) ≡ option_map keeps (under name parts)
under_map name [] = refl
under_map name (p ∷ ps) = by (bytes_eq p.name name) refl (under_map name ps)
  where
    by : (b : Bool) → bytes_eq p.name name ≡ b
        → under name (map keeping ps) ≡ option_map keeps (under name ps)
        → under name (map keeping (p ∷ ps)) ≡ option_map keeps (under name (p ∷ ps))
    by true is later =
        under_first name (keeping p) (map keeping ps) true is
        ∙ ap (option_map keeps) (sym (under_first name p ps true is))
    by false is later =
        under_first name (keeping p) (map keeping ps) false is ∙ later
        ∙ ap (option_map keeps) (sym (under_first name p ps false is))

pub keeps_whole : (steps : List QueryStep) → keeps excerpt.Whole steps ≡ true
keeps_whole steps = search (rules, excerpt.the_lemmas)

pub keeps_position : (parts : List (Member Excerpt)) (at : ℕ) (steps : List QueryStep)
    → keeps (excerpt.Part parts) (step.Position at ∷ steps) ≡ true
keeps_position parts at steps = search (rules, excerpt.the_lemmas)

pub keeps_part : (parts : List (Member Excerpt)) (name : List ℕ) (steps : List QueryStep)
    → keeps (excerpt.Part parts) (step.Member name ∷ steps) ≡ kept_in (under name (map keeping parts)) steps
keeps_part parts name steps = search (rules, excerpt.the_lemmas)

pub keeps_member : (parts : List (Member Excerpt)) (name : List ℕ) (found : Option Excerpt)
    (steps : List QueryStep) → found ≡ part_named name parts
    → keeps (excerpt.Part parts) (step.Member name ∷ steps) ≡ kept_in (option_map keeps found) steps
keeps_member parts name found steps is =
    keeps_part parts name steps
    ∙ ap (λ k. kept_in k steps) (under_map name parts ∙ ap (option_map keeps) (sym is))

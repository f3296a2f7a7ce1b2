-- What passing over equal parts of two trees comes to.
use Rattle.std.proofs.Common.{◌≡◌, ℕ, ◌+◌, ◌<◌, ◌≤◌, zero, suc, List, [], ◌∷◌, ◌++◌, Bool, true, false, map, drop, length, get_or, refl, sym, ap, ◌∙◌, subst, inl, inr, ⊎_elim}
use Rattle.std.proofs.Common.{Option, Some, None}
use Rattle.std.proofs.Math.ListN.{drop_of_length-le}
use Rattle.std.proofs.lemmas.Bool.{and_parts, eq-eqb, false≢true}
use Rattle.std.proofs.lemmas.Cmp.{tied_itself, nat_list_cmp_total}
use Rattle.std.proofs.lemmas.List.{map-append}
use Rattle.std.proofs.lemmas.List.Concat.{flat_map-append}
use Rattle.std.proofs.lemmas.List.Elements.{Contains-append_left, Contains-append_right, Contains-append_cases}
use Rattle.std.proofs.lemmas.Slice.Eq.{bytes_eq-Decides}
use Rattle.std.specs.Cmp.Lexicographic.{slice_cmp}
use Rattle.std.specs.FinMap.{nat_cmp-IsAntisymmetric, slice_cmp-IsAntisymmetric}
use Rattle.std.specs.List.{Contains, flat_map}
use Rattle.std.specs.Ordering.{nat_cmp, is_lt, ordering_reverse}
use Rattle.std.specs.Prelude.{◌⊎◌, if◌then◌else◌}
use Rattle.std.specs.Str.{bytes_eq}
use Rattle.std.specs.declared.cmp.Ordering.{Ordering}
use Rattle.std.specs.declared.cmp.Ordering.TheVariants.{Less, Equal, Greater}
use Rattle.ax_tree.specs.declared.members.Member.{Member}
use Rattle.ax_tree.specs.declared.tree.Tree.{Tree}
use Rattle.ax_tree.specs.Names.{HaveRisingNames}
use Rattle.ax_tree.specs.Rising.{is_before}
use Rattle.ax_text.proofs.RisingNames.{is_before_trans}
use Rattle.ax_mean.proofs.SameTrees.{same_trees, same_along}
use Rattle.ax_mean.specs.Comparison.{equality}
use Rattle.ax_mean.specs.Sameness.{is_same}
use Rattle.ax_mean.specs.Values.{are_of_one_kind, tree_kind}
use Rattle.ax_mean.specs.declared.value.Value.TheVariants.{Defined}
use Rattle.std.specs.Option.{unwrap_or}
use Rattle.ax_mean.specs.declared.query.Step.{Step}
use Rattle.ax_mean.specs.declared.query.Step.TheVariants.{Item, Name}
use Rattle.ax_term.specs.TermBytes.{step_bytes}
use Rattle.ax_policy.specs.declared.walk.RuleWalk.{RuleWalk}
use Rattle.ax_terms.specs.Adding.{AddsAt}
use Rattle.ax_terms.specs.Differing.{ArePassed, DiffersAt, IsFree, TakesBefore, first_before, first_named, leaves_of}
use Rattle.ax_terms.specs.Leaves.{Leaf, behind, leaves, leaves_in, member_leaves}
use Rattle.ax_terms.proofs.Adding.{Leads, adds_behind, adds_both, adds_none}
use Rattle.ax_terms.proofs.Sequences.{contains_map, from_flat_map, from_map, next, none_in_nil, only_one}

-- ---- leaves that are passed over

passed_all : (leaves : List Leaf) → ArePassed leaves leaves [] []
passed_all leaves = record {
  going_are = λ leaf h. absurd (none_in_nil leaf h);
  coming_are = λ leaf h. absurd (none_in_nil leaf h);
  old_stay = λ leaf h. inr (h, (λ m k e. none_in_nil m k));
  new_stay = λ leaf h. inr (h, (λ m k e. none_in_nil m k));
}

passed_none : (old new : List Leaf) → ArePassed old new old new
passed_none old new = record {
  going_are = λ leaf h. h;
  coming_are = λ leaf h. h;
  old_stay = λ leaf h. inl h;
  new_stay = λ leaf h. inl h;
}

-- no leaf of the one list is at the path of one of the other
abbrev AreApart : List Leaf → List Leaf → Type 0
AreApart xs ys = (x y : Leaf) → Contains xs x → Contains ys y → x.path ≡ y.path → ⊥

nothing_apart : (ys : List Leaf) → AreApart [] ys
nothing_apart ys x y h k e = none_in_nil x h

-- one side of two pieces: what stays of the first or of the second
stays_left : (leaf : Leaf) (g h new more come come_more : List Leaf)
    → ((m : Leaf) → Contains come_more m → m.path ≡ leaf.path → ⊥)
    → Contains g leaf ⊎ (Contains new leaf × IsFree leaf.path come)
    → Contains (g ++ h) leaf ⊎ (Contains (new ++ more) leaf × IsFree leaf.path (come ++ come_more))
stays_left leaf g h new more come come_more apart stays =
    ⊎_elim (λ k. inl (Contains-append_left g h leaf k))
    (λ k.
    inr (
      Contains-append_left new more leaf k.0,
      (λ m there e.
          ⊎_elim (λ a. k.1 m a e) (λ b. apart m b e)
          (Contains-append_cases come come_more m there)),
    ))
    stays

stays_right : (leaf : Leaf) (g h new more come come_more : List Leaf)
    → ((m : Leaf) → Contains come m → m.path ≡ leaf.path → ⊥)
    → Contains h leaf ⊎ (Contains more leaf × IsFree leaf.path come_more)
    → Contains (g ++ h) leaf ⊎ (Contains (new ++ more) leaf × IsFree leaf.path (come ++ come_more))
stays_right leaf g h new more come come_more apart stays =
    ⊎_elim (λ k. inl (Contains-append_right g h leaf k))
    (λ k.
    inr (
      Contains-append_right new more leaf k.0,
      (λ m there e.
          ⊎_elim (λ a. apart m a e) (λ b. k.1 m b e)
          (Contains-append_cases come come_more m there)),
    ))
    stays

module _ (xs ys more_xs more_ys going coming more_going more_coming : List Leaf) where
  passed_both : AreApart xs more_ys → AreApart ys more_xs → ArePassed xs ys going coming
      → ArePassed more_xs more_ys more_going more_coming
      → ArePassed (xs ++ more_xs) (ys ++ more_ys) (going ++ more_going) (coming ++ more_coming)
  passed_both old_apart new_apart one two = record {
    going_are = λ leaf h.
        ⊎_elim (λ k. Contains-append_left xs more_xs leaf (one.going_are leaf k))
        (λ k. Contains-append_right xs more_xs leaf (two.going_are leaf k))
        (Contains-append_cases going more_going leaf h);
    coming_are = λ leaf h.
        ⊎_elim (λ k. Contains-append_left ys more_ys leaf (one.coming_are leaf k))
        (λ k. Contains-append_right ys more_ys leaf (two.coming_are leaf k))
        (Contains-append_cases coming more_coming leaf h);
    old_stay = λ leaf h.
        ⊎_elim
        (λ k.
        stays_left leaf going more_going ys more_ys coming more_coming
        (λ m there e. old_apart leaf m k (two.coming_are m there) (sym e)) (one.old_stay leaf k))
        (λ k.
        stays_right leaf going more_going ys more_ys coming more_coming
        (λ m there e. new_apart m leaf (one.coming_are m there) k e) (two.old_stay leaf k))
        (Contains-append_cases xs more_xs leaf h);
    new_stay = λ leaf h.
        ⊎_elim
        (λ k.
        stays_left leaf coming more_coming xs more_xs going more_going
        (λ m there e. new_apart leaf m k (two.going_are m there) (sym e)) (one.new_stay leaf k))
        (λ k.
        stays_right leaf coming more_coming xs more_xs going more_going
        (λ m there e. old_apart m leaf (one.going_are m there) k e) (two.new_stay leaf k))
        (Contains-append_cases ys more_ys leaf h);
  }

-- ---- one step above

abbrev Stays : List Leaf → List Leaf → List Leaf → Leaf → Type 0
Stays going new coming leaf = Contains going leaf ⊎ (Contains new leaf × IsFree leaf.path coming)

free_behind : (step : Step) (x : Leaf) (coming : List Leaf) → IsFree x.path coming
    → IsFree (behind step x).path (map (behind step) coming)
free_behind step x coming free m there e =
    let y = from_map (behind step) coming m there in
    free y.0 y.1 (ap (drop 1) (ap (λ (l : Leaf). l.path) y.2 ∙ e))

stays_behind : (step : Step) (going new coming : List Leaf) (x : Leaf) → Stays going new coming x
    → Stays (map (behind step) going) (map (behind step) new) (map (behind step) coming) (behind step x)
stays_behind step going new coming x stays =
    ⊎_elim (λ k. inl (contains_map (behind step) going x k))
    (λ k. inr (contains_map (behind step) new x k.0, free_behind step x coming k.1)) stays

are_behind : (step : Step) (going old : List Leaf) → ((leaf : Leaf) → Contains going leaf → Contains old leaf)
    → (leaf : Leaf) → Contains (map (behind step) going) leaf → Contains (map (behind step) old) leaf
are_behind step going old are leaf h =
    let x = from_map (behind step) going leaf h in
    subst (Contains (map (behind step) old)) x.2 (contains_map (behind step) old x.0 (are x.0 x.1))

stay_behind : (step : Step) (old going new coming : List Leaf)
    → ((leaf : Leaf) → Contains old leaf → Stays going new coming leaf)
    → (leaf : Leaf) → Contains (map (behind step) old) leaf
    → Stays (map (behind step) going) (map (behind step) new) (map (behind step) coming) leaf
stay_behind step old going new coming stay leaf h =
    let x = from_map (behind step) old leaf h in
    subst (Stays (map (behind step) going) (map (behind step) new) (map (behind step) coming)) x.2
    (stays_behind step going new coming x.0 (stay x.0 x.1))

passed_behind : (step : Step) (old new going coming : List Leaf) → ArePassed old new going coming
    → ArePassed (map (behind step) old) (map (behind step) new) (map (behind step) going) (map (behind step) coming)
passed_behind step old new going coming passed = record {
  going_are = are_behind step going old passed.going_are;
  coming_are = are_behind step coming new passed.coming_are;
  old_stay = stay_behind step old going new coming passed.old_stay;
  new_stay = stay_behind step new coming old going passed.new_stay;
}

-- ---- the same of the lists of terms

pub nothing_differs : (walk : RuleWalk) (front : List ℕ) (leaves : List Leaf) (gone come : List (List ℕ))
    → DiffersAt walk front leaves leaves gone gone come come
nothing_differs walk front leaves gone come = record {
  going = [];
  coming = [];
  gone_more = adds_none walk front gone;
  come_more = adds_none walk front come;
  passed = passed_all leaves;
}

pub all_differs : (walk : RuleWalk) (front : List ℕ) (old new : List Leaf) (gone gone_after come come_after : List (List ℕ))
    → AddsAt walk front old gone gone_after → AddsAt walk front new come come_after
    → DiffersAt walk front old new gone gone_after come come_after
all_differs walk front old new gone gone_after come come_after one two = record {
  going = old;
  coming = new;
  gone_more = one;
  come_more = two;
  passed = passed_none old new;
}

differs_both : (walk : RuleWalk) (front : List ℕ) (xs ys more_xs more_ys : List Leaf)
    (gone gone_then gone_end come come_then come_end : List (List ℕ))
    → AreApart xs more_ys → AreApart ys more_xs
    → DiffersAt walk front xs ys gone gone_then come come_then
    → DiffersAt walk front more_xs more_ys gone_then gone_end come_then come_end
    → DiffersAt walk front (xs ++ more_xs) (ys ++ more_ys) gone gone_end come come_end
differs_both walk front xs ys more_xs more_ys gone gone_then gone_end come come_then come_end old_apart new_apart one two = record {
  going = one.going ++ two.going;
  coming = one.coming ++ two.coming;
  gone_more = adds_both walk front one.going two.going gone gone_then gone_end one.gone_more two.gone_more;
  come_more = adds_both walk front one.coming two.coming come come_then come_end one.come_more two.come_more;
  passed =
      passed_both xs ys more_xs more_ys one.going one.coming two.going two.coming old_apart new_apart one.passed
      two.passed;
}

differs_behind : (walk next_walk : RuleWalk) (front next_front : List ℕ) (step : Step) (old new : List Leaf)
    (gone gone_after come come_after : List (List ℕ)) → Leads walk step next_walk
    → next_front ≡ front ++ step_bytes step
    → DiffersAt next_walk next_front old new gone gone_after come come_after
    → DiffersAt walk front (map (behind step) old) (map (behind step) new) gone gone_after come come_after
differs_behind walk next_walk front next_front step old new gone gone_after come come_after leads more differs = record {
  going = map (behind step) differs.going;
  coming = map (behind step) differs.coming;
  gone_more = adds_behind walk next_walk front next_front step differs.going gone gone_after leads more differs.gone_more;
  come_more = adds_behind walk next_walk front next_front step differs.coming come come_after leads more differs.come_more;
  passed = passed_behind step old new differs.going differs.coming differs.passed;
}

-- ---- members of other names

abbrev first_name : List Step → List ℕ
first_name [] = []
first_name (Item ∷ path) = []
first_name (Name name ∷ path) = name

-- the path of a member's leaf begins with its name
name_first : (m : Member Tree) (x : Leaf) → Contains (member_leaves (leaves_in m)) x → first_name x.path ≡ m.name
name_first m x h =
    let y = from_map (behind (Name m.name)) (leaves m.value) x h in
    sym (ap (λ (l : Leaf). first_name l.path) y.2)

-- and that of a leaf of members with the name of one of them
one_of_names : (members : List (Member Tree)) (x : Leaf) → Contains (leaves_of members) x
    → (m : Member Tree) × Contains members m × (first_name x.path ≡ m.name)
one_of_names members x h =
    let found = from_flat_map member_leaves (map leaves_in members) x h in
    let m = from_map leaves_in members found.0 found.1 in
    (m.0, m.1, name_first m.0 x (subst (λ (k : Member (List Leaf)). Contains (member_leaves k) x) (sym m.2) found.2))

-- no member has that name
abbrev IsNameless : List (Member Tree) → List ℕ → Type 0
IsNameless members name = (m : Member Tree) → Contains members m → m.name ≡ name → ⊥

apart_by_names : (members others : List (Member Tree))
    → ((m n : Member Tree) → Contains members m → Contains others n → m.name ≡ n.name → ⊥)
    → AreApart (leaves_of members) (leaves_of others)
apart_by_names members others other x y h k e =
    let m = one_of_names members x h in
    let n = one_of_names others y k in
    other m.0 n.0 m.1 n.1 (sym m.2 ∙ ap first_name e ∙ n.2)

apart_from_one : (m : Member Tree) (others : List (Member Tree)) → IsNameless others m.name
    → AreApart (member_leaves (leaves_in m)) (leaves_of others)
apart_from_one m others none x y h k e =
    let n = one_of_names others y k in
    none n.0 n.1 (sym n.2 ∙ ap first_name (sym e) ∙ name_first m x h)

first_or_later : {A : Type 0} (x : A) (xs : List A) (y : A) → Contains (x ∷ xs) y → (x ≡ y) ⊎ Contains xs y
first_or_later x xs y h = ⊎_elim (λ k. inl (only_one x y k)) (λ k. inr k) (Contains-append_cases (x ∷ []) xs y h)

-- ---- names that rise

not_itself : (name : List ℕ) → is_before name name ≡ true → ⊥
not_itself name h = false≢true (sym (ap is_lt (tied_itself nat_list_cmp_total name)) ∙ h)

not_same : (a b : List ℕ) → is_before a b ≡ true → a ≡ b → ⊥
not_same a b h e = not_itself b (subst (λ n. is_before n b ≡ true) e h)

not_behind : (a b : List ℕ) → is_before a b ≡ true → b ≡ a → ⊥
not_behind a b h e = not_same a b h (sym e)

-- of two names that differ one is before the other
other_way : (a b : List ℕ) → is_before a b ≡ false → (a ≡ b → ⊥) → is_before b a ≡ true
other_way a b h apart = by_order (slice_cmp nat_cmp a b) refl h
  where
    by_order : (o : Ordering) → slice_cmp nat_cmp a b ≡ o → is_lt o ≡ false → is_before b a ≡ true
    by_order Less e low = absurd (let f : ⊥ = cc in f)
    by_order Equal e low = absurd (apart (slice_cmp-IsAntisymmetric nat_cmp-IsAntisymmetric a b e))
    by_order Greater e low = ap is_lt (nat_list_cmp_total.antisymm b a ∙ ap ordering_reverse e)

rest_rises : (m : Member Tree) (members : List (Member Tree)) → HaveRisingNames (m ∷ members) → HaveRisingNames members
rest_rises m [] rise = refl
rest_rises m (n ∷ members) rise = (and_parts (is_before m.name n.name) _ rise).1

-- each later name is behind the first
behind_first : (m : Member Tree) (members : List (Member Tree)) → HaveRisingNames (m ∷ members)
    → (n : Member Tree) → Contains members n → is_before m.name n.name ≡ true
behind_first m [] rise n there = absurd (none_in_nil n there)
behind_first m (first ∷ members) rise n there =
    let parts = and_parts (is_before m.name first.name) _ rise in
    ⊎_elim (λ (e : first ≡ n). subst (λ (k : Member Tree). is_before m.name k.name ≡ true) e parts.0)
    (λ (later : Contains members n).
    is_before_trans m.name first.name n.name parts.0 (behind_first first members parts.1 n later))
    (first_or_later first members n there)

rises_behind : (taken left : List (Member Tree)) → HaveRisingNames (taken ++ left) → HaveRisingNames left
rises_behind [] left rise = rise
rises_behind (m ∷ taken) left rise = rises_behind taken left (rest_rises m (taken ++ left) rise)

rises_from : (members : List (Member Tree)) (i : ℕ) → HaveRisingNames members → HaveRisingNames (drop i members)
rises_from members zero rise = rise
rises_from [] (suc i) rise = rise
rises_from (m ∷ members) (suc i) rise = rises_from members i (rest_rises m members rise)

none_behind : (m : Member Tree) (members : List (Member Tree)) → HaveRisingNames (m ∷ members)
    → IsNameless members m.name
none_behind m members rise n there e = not_behind m.name n.name (behind_first m members rise n there) e

-- ---- a turn of the loop

leaves_of-append : (taken left : List (Member Tree)) → leaves_of (taken ++ left) ≡ leaves_of taken ++ leaves_of left
leaves_of-append taken left =
    ap (flat_map member_leaves) (map-append leaves_in taken left)
    ∙ flat_map-append member_leaves (map leaves_in taken) (map leaves_in left)

-- members that the new tree alone has
module _ (walk : RuleWalk) (front : List ℕ) (olds taken left : List (Member Tree))
    (gone gone_end come come_then come_end : List (List ℕ)) where
  new_first : ((m n : Member Tree) → Contains taken m → Contains olds n → m.name ≡ n.name → ⊥)
      → AddsAt walk front (leaves_of taken) come come_then
      → DiffersAt walk front (leaves_of olds) (leaves_of left) gone gone_end come_then come_end
      → DiffersAt walk front (leaves_of olds) (leaves_of (taken ++ left)) gone gone_end come come_end
  new_first other adds rest =
      subst (λ ls. DiffersAt walk front (leaves_of olds) ls gone gone_end come come_end)
      (sym (leaves_of-append taken left))
      (differs_both walk front [] (leaves_of taken) (leaves_of olds) (leaves_of left) gone gone gone_end come
      come_then come_end (nothing_apart (leaves_of left)) (apart_by_names taken olds other)
      (all_differs walk front [] (leaves_of taken) gone gone come come_then (adds_none walk front gone) adds) rest)

-- a member that the old tree alone has
old_first : (walk : RuleWalk) (front : List ℕ) (m : Member Tree) (olds news : List (Member Tree))
    (gone gone_then gone_end come come_end : List (List ℕ)) → IsNameless news m.name
    → AddsAt walk front (member_leaves (leaves_in m)) gone gone_then
    → DiffersAt walk front (leaves_of olds) (leaves_of news) gone_then gone_end come come_end
    → DiffersAt walk front (leaves_of (m ∷ olds)) (leaves_of news) gone gone_end come come_end
old_first walk front m olds news gone gone_then gone_end come come_end none adds rest =
    differs_both walk front (member_leaves (leaves_in m)) [] (leaves_of olds) (leaves_of news) gone gone_then gone_end
    come come come_end (apart_from_one m news none) (nothing_apart (leaves_of olds))
    (all_differs walk front (member_leaves (leaves_in m)) [] gone gone_then come come adds (adds_none walk front come)) rest

-- a name that both have
module _ (walk : RuleWalk) (front name : List ℕ) (old new : Tree) (olds news : List (Member Tree))
    (gone gone_then gone_end come come_then come_end : List (List ℕ)) where
  both_first : IsNameless olds name → IsNameless news name
      → DiffersAt walk front (map (behind (Name name)) (leaves old)) (map (behind (Name name)) (leaves new)) gone
      gone_then come come_then
      → DiffersAt walk front (leaves_of olds) (leaves_of news) gone_then gone_end come_then come_end
      → DiffersAt walk front (map (behind (Name name)) (leaves old) ++ leaves_of olds)
      (map (behind (Name name)) (leaves new) ++ leaves_of news) gone gone_end come come_end
  both_first no_old no_new one rest =
      differs_both walk front (map (behind (Name name)) (leaves old)) (map (behind (Name name)) (leaves new))
      (leaves_of olds) (leaves_of news) gone gone_then gone_end come come_then come_end
      (apart_from_one (record { name = name; value = old }) news no_new)
      (apart_from_one (record { name = name; value = new }) olds no_old) one rest

-- ---- the first member

abbrev found : {A : Type 0} → A → List (Member Tree) → Option (A × List (Member Tree))
found x members = Some (x, members)

abbrev found_first : {A : Type 0} → A → Option (A × List (Member Tree)) → A
found_first other None = other
found_first other (Some pair) = pair.0

abbrev found_rest : {A : Type 0} → Option (A × List (Member Tree)) → List (Member Tree)
found_rest None = []
found_rest (Some pair) = pair.1

not_found : {A B : Type 0} (x : A) (members : List (Member Tree)) → found x members ≡ None → B
not_found x members e = absurd (let f : ⊥ = cc in f)

abbrev if_found : {A : Type 0} → Bool → A → List (Member Tree) → Option (A × List (Member Tree))
if_found there x members = if there then Some (x, members) else None

record IsBeforeFirst (name : List ℕ) (members : List (Member Tree)) (m : Member Tree) (later : List (Member Tree)) : Type 0 where
  whole : members ≡ m ∷ later
  before : is_before m.name name ≡ true

before_first : (name : List ℕ) (members : List (Member Tree)) (m : Member Tree) (later : List (Member Tree))
    → found m later ≡ first_before name members → IsBeforeFirst name members m later
before_first name [] m later e = not_found m later e
before_first name (f ∷ members) m later e = by_test (is_before f.name name) refl e
  where
    by_test : (b : Bool) → is_before f.name name ≡ b → found m later ≡ (if b then Some (f, members) else None)
        → IsBeforeFirst name (f ∷ members) m later
    by_test true is e =
        let first : m ≡ f = ap (found_first m) e in
        record {
          whole = λ i. sym first i ∷ sym (ap found_rest e) i;
          before = ap (λ (k : Member Tree). is_before k.name name) first ∙ is;
        }
    by_test false is e = not_found m later e

record IsNamedFirst (name : List ℕ) (members : List (Member Tree)) (value : Tree) (later : List (Member Tree)) : Type 0 where
  first : Member Tree
  whole : members ≡ first ∷ later
  named : first.name ≡ name
  value_is : first.value ≡ value

named_first : (name : List ℕ) (members : List (Member Tree)) (value : Tree) (later : List (Member Tree))
    → found value later ≡ first_named name members → IsNamedFirst name members value later
named_first name [] value later e = not_found value later e
named_first name (f ∷ members) value later e = by_test (bytes_eq f.name name) refl e
  where
    by_test : (b : Bool) → bytes_eq f.name name ≡ b → found value later ≡ (if b then Some (f.value, members) else None)
        → IsNamedFirst name (f ∷ members) value later
    by_test true is e = record {
      first = f;
      whole = ap (λ ms. f ∷ ms) (sym (ap found_rest e));
      named = (bytes_eq-Decides f.name name).0 is;
      value_is = sym (ap (found_first value) e);
    }
    by_test false is e = not_found value later e

-- where the first of rising members is neither before a name nor has it, none has it
unnamed : (name : List ℕ) (members : List (Member Tree)) → HaveRisingNames members → first_before name members ≡ None
    → None ≡ first_named name members → IsNameless members name
unnamed name [] rise before named = λ m there e. none_in_nil m there
unnamed name (f ∷ members) rise before named =
    by_before (is_before f.name name) refl before
  where
    by_name : (c : Bool) → bytes_eq f.name name ≡ c → None ≡ if_found c f.value members
        → is_before f.name name ≡ false → IsNameless (f ∷ members) name
    by_name true same named is = not_found f.value members (sym named)
    by_name false same named is =
        let first : is_before name f.name ≡ true =
        other_way f.name name is (λ k. false≢true (sym same ∙ (bytes_eq-Decides f.name name).1 k)) in
        λ m there e.
        ⊎_elim (λ (k : f ≡ m). not_behind name f.name first (ap (λ (n : Member Tree). n.name) k ∙ e))
        (λ (k : Contains members m).
        not_behind name m.name (is_before_trans name f.name m.name first (behind_first f members rise m k)) e)
        (first_or_later f members m there)

    by_before : (b : Bool) → is_before f.name name ≡ b → if_found b f members ≡ None
        → IsNameless (f ∷ members) name
    by_before true is before = not_found f members before
    by_before false is before = by_name (bytes_eq f.name name) refl named is

-- ---- members taken off the front

pub none_taken : (walk : RuleWalk) (front name : List ℕ) (members : List (Member Tree)) (terms : List (List ℕ))
    → TakesBefore walk front name members members terms terms
none_taken walk front name members terms = record {
  taken = [];
  whole = refl;
  before = λ m there. absurd (none_in_nil m there);
  more = adds_none walk front terms;
}

pub one_taken : (walk : RuleWalk) (front after_front name : List ℕ) (m : Member Tree)
    (members later left : List (Member Tree)) (terms mid end : List (List ℕ))
    → found m later ≡ first_before name members → after_front ≡ front
    → AddsAt walk front (member_leaves (leaves_in m)) terms mid
    → TakesBefore walk after_front name later left mid end → TakesBefore walk front name members left terms end
one_taken walk front after_front name m members later left terms mid end e same adds rest =
    let first : IsBeforeFirst name members m later = before_first name members m later e in
    record {
      taken = m ∷ rest.taken;
      whole = first.whole ∙ ap (λ ms. m ∷ ms) rest.whole;
      before = λ n there.
          ⊎_elim (λ (k : m ≡ n). subst (λ (x : Member Tree). is_before x.name name ≡ true) k first.before)
          (λ k. rest.before n k) (first_or_later m rest.taken n there);
      more = adds_both walk front (member_leaves (leaves_in m)) (leaves_of rest.taken) terms mid end adds
          (subst (λ f. AddsAt walk f (leaves_of rest.taken) mid end) same rest.more);
    }

-- ---- all members that are left

pub rest_end : (walk : RuleWalk) (front : List ℕ) (members : List (Member Tree)) (i : ℕ) (terms : List (List ℕ))
    → length members ≤ i → AddsAt walk front (leaves_of (drop i members)) terms terms
rest_end walk front members i terms high =
    subst (λ ms. AddsAt walk front (leaves_of ms) terms terms) (sym (drop_of_length-le members high))
    (adds_none walk front terms)

pub rest_added : (walk : RuleWalk) (top front after_front : List ℕ) (members : List (Member Tree)) (i : ℕ)
    (m : Member Tree) (first terms mid : List (List ℕ)) → i < length members → m ≡ get_or members i m
    → after_front ≡ front → AddsAt walk front (member_leaves (leaves_in m)) terms mid
    → ((end : List (List ℕ)) → AddsAt walk front (leaves_of (drop i members)) terms end
    → AddsAt walk top (leaves_of members) first end)
    → (end : List (List ℕ)) → AddsAt walk after_front (leaves_of (drop (i + 1) members)) mid end
    → AddsAt walk top (leaves_of members) first end
rest_added walk top front after_front members i m first terms mid low is same adds goes end rest =
    goes end
    (subst (λ ms. AddsAt walk front (leaves_of ms) terms end) (sym (next members i m low is))
    (adds_both walk front (member_leaves (leaves_in m)) (leaves_of (drop (i + 1) members)) terms mid end adds
    (subst (λ f. AddsAt walk f (leaves_of (drop (i + 1) members)) mid end) same rest)))

-- ---- what the functions make

pub member_alone : (walk below_walk : RuleWalk) (front below_front name : List ℕ) (m : Member Tree)
    (terms terms_after : List (List ℕ)) → name ≡ m.name → Leads walk (Name name) below_walk
    → below_front ≡ front ++ step_bytes (Name m.name)
    → AddsAt below_walk below_front (leaves m.value) terms terms_after
    → AddsAt walk front (member_leaves (leaves_in m)) terms terms_after
member_alone walk below_walk front below_front name m terms terms_after named leads more adds =
    adds_behind walk below_walk front below_front (Name m.name) (leaves m.value) terms terms_after
    (subst (λ n. Leads walk (Name n) below_walk) named leads) more adds

pub equality_so : (a b : Tree) → unwrap_or (equality (Defined a) (Defined b)) false ≡ true → a ≡ b
equality_so a b e = by_kind (are_of_one_kind (Defined a) (Defined b)) e
  where
    by_kind : (k : Bool) → unwrap_or (if k then Some (is_same a b) else None) false ≡ true → a ≡ b
    by_kind true e = same_trees a b e
    by_kind false e = absurd (false≢true e)

pub equality_is : (a b : Tree) → a ≡ b → unwrap_or (equality (Defined a) (Defined b)) false ≡ true
equality_is a b e =
    ap (λ t. unwrap_or (equality (Defined a) (Defined t)) false) (sym e)
    ∙ ap (λ k. unwrap_or (if k then Some (is_same a a) else None) false) (eq-eqb (tree_kind a) (tree_kind a) refl)
    ∙ same_along a a refl

pub ruleset equality_told = (equality_so, equality_is)

pub same_passed : (walk : RuleWalk) (front : List ℕ) (old new : Tree) (gone come : List (List ℕ))
    → old ≡ new → DiffersAt walk front (leaves old) (leaves new) gone gone come come
same_passed walk front old new gone come e =
    subst (λ t. DiffersAt walk front (leaves old) (leaves t) gone gone come come) e
    (nothing_differs walk front (leaves old) gone come)

pub unlike_added : (walk : RuleWalk) (front front_then : List ℕ) (old new : Tree)
    (gone gone_after come come_after : List (List ℕ)) → front_then ≡ front
    → AddsAt walk front (leaves old) gone gone_after → AddsAt walk front_then (leaves new) come come_after
    → DiffersAt walk front (leaves old) (leaves new) gone gone_after come come_after
unlike_added walk front front_then old new gone gone_after come come_after same one two =
    all_differs walk front (leaves old) (leaves new) gone gone_after come come_after one
    (subst (λ f. AddsAt walk f (leaves new) come come_after) same two)

pub ruleset unlike = (same_passed, unlike_added)

-- ---- a turn of the loop over the members of the old map

-- whatever takes what is left from here has taken all
abbrev pub Goes : RuleWalk → List ℕ → List ℕ → List (Member Tree) → List (Member Tree) → List (Member Tree)
    → List (Member Tree) → List (List ℕ) → List (List ℕ) → List (List ℕ) → List (List ℕ) → Type 0
Goes walk top front all_old all_new olds news gone_first come_first gone come =
    (gone_end come_end : List (List ℕ))
    → DiffersAt walk front (leaves_of olds) (leaves_of news) gone gone_end come come_end
    → DiffersAt walk top (leaves_of all_old) (leaves_of all_new) gone_first gone_end come_first come_end

module _ (walk : RuleWalk) (top front name : List ℕ) (members all_new news ahead : List (Member Tree)) (i : ℕ)
    (m : Member Tree) (gone_first come_first gone come come_then : List (List ℕ)) (low : i < length members)
    (is : m ≡ get_or members i m) (named : name ≡ m.name) (rise : HaveRisingNames members)
    (news_rise : HaveRisingNames news) (takes : TakesBefore walk front name news ahead come come_then)
    (stops : first_before name ahead ≡ None)
    (goes : Goes walk top front members all_new (drop i members) news gone_first come_first gone come) where
  abbrev olds : List (Member Tree)
  olds = drop (i + 1) members

  here_rises : HaveRisingNames (m ∷ olds)
  here_rises = subst (λ (ms : List (Member Tree)). HaveRisingNames ms) (next members i m low is) (rises_from members i rise)

  pub ahead_rises : HaveRisingNames ahead
  ahead_rises = rises_behind takes.taken ahead (subst (λ (ms : List (Member Tree)). HaveRisingNames ms) takes.whole news_rise)

  before_here : (t n : Member Tree) → Contains takes.taken t → Contains (m ∷ olds) n → t.name ≡ n.name → ⊥
  before_here t n there k e =
      let before : is_before t.name m.name ≡ true =
      subst (λ b. is_before t.name b ≡ true) named (takes.before t there) in
      ⊎_elim (λ (h : m ≡ n). not_same t.name m.name before (e ∙ sym (ap (λ (x : Member Tree). x.name) h)))
      (λ (h : Contains olds n).
      not_same t.name n.name
      (is_before_trans t.name m.name n.name before (behind_first m olds here_rises n h)) e)
      (first_or_later m olds n k)

  goes_ahead : Goes walk top front members all_new (m ∷ olds) ahead gone_first come_first gone come_then
  goes_ahead gone_end come_end rest =
      goes gone_end come_end
      (subst (λ ms. DiffersAt walk front (leaves_of ms) (leaves_of news) gone gone_end come come_end)
      (sym (next members i m low is))
      (subst (λ ms. DiffersAt walk front (leaves_of (m ∷ olds)) (leaves_of ms) gone gone_end come come_end)
      (sym takes.whole)
      (new_first walk front (m ∷ olds) takes.taken ahead gone gone_end come come_then come_end before_here takes.more
      rest)))

  -- no member of the new map has the name
  pub turn_gone : (left : List ℕ) (gone_then : List (List ℕ)) → left ≡ front → None ≡ first_named name ahead
      → AddsAt walk front (member_leaves (leaves_in m)) gone gone_then
      → Goes walk top left members all_new olds ahead gone_first come_first gone_then come_then
  turn_gone left gone_then same none adds gone_end come_end rest =
      goes_ahead gone_end come_end
      (old_first walk front m olds ahead gone gone_then gone_end come_then come_end
      (subst (IsNameless ahead) named (unnamed name ahead ahead_rises stops none)) adds
      (subst (λ f. DiffersAt walk f (leaves_of olds) (leaves_of ahead) gone_then gone_end come_then come_end) same rest))

  -- one has it
  module _ (value : Tree) (behind_it : List (Member Tree)) (is_named : found value behind_it ≡ first_named name ahead) where
    that : IsNamedFirst name ahead value behind_it
    that = named_first name ahead value behind_it is_named

    pub behind_rises : HaveRisingNames behind_it
    behind_rises =
        rest_rises that.first behind_it
        (subst (λ (ms : List (Member Tree)). HaveRisingNames ms) that.whole ahead_rises)

    no_new : IsNameless behind_it m.name
    no_new =
        subst (IsNameless behind_it) (that.named ∙ named)
        (none_behind that.first behind_it
        (subst (λ (ms : List (Member Tree)). HaveRisingNames ms) that.whole ahead_rises))

    -- the leaves of the member of the new map, and of those behind it
    leaves_ahead : leaves_of ahead ≡ map (behind (Name m.name)) (leaves value) ++ leaves_of behind_it
    leaves_ahead =
        ap (λ (ms : List (Member Tree)). leaves_of ms) that.whole
        ∙ ap (λ n. map (behind (Name n)) (leaves that.first.value) ++ leaves_of behind_it) (that.named ∙ named)
        ∙ ap (λ t. map (behind (Name m.name)) (leaves t) ++ leaves_of behind_it) that.value_is

    turn_both : (left : List ℕ) (gone_then come_after : List (List ℕ)) → left ≡ front
        → DiffersAt walk front (map (behind (Name m.name)) (leaves m.value)) (map (behind (Name m.name)) (leaves value))
        gone gone_then come_then come_after
        → Goes walk top left members all_new olds behind_it gone_first come_first gone_then come_after
    turn_both left gone_then come_after same one gone_end come_end rest =
        goes_ahead gone_end come_end
        (subst (λ ls. DiffersAt walk front (leaves_of (m ∷ olds)) ls gone gone_end come_then come_end) (sym leaves_ahead)
        (both_first walk front m.name m.value value olds behind_it gone gone_then gone_end come_then come_after come_end
        (none_behind m olds here_rises) no_new one
        (subst (λ f. DiffersAt walk f (leaves_of olds) (leaves_of behind_it) gone_then gone_end come_after come_end)
        same rest)))

    -- their values are equal
    pub turn_passed : (left : List ℕ) → left ≡ front → m.value ≡ value
        → Goes walk top left members all_new olds behind_it gone_first come_first gone come_then
    turn_passed left same e =
        turn_both left gone come_then same
        (subst (λ t. DiffersAt walk front (map (behind (Name m.name)) (leaves m.value))
        (map (behind (Name m.name)) (leaves t)) gone gone come_then come_then) e
        (nothing_differs walk front (map (behind (Name m.name)) (leaves m.value)) gone come_then))

    -- or both are gone down
    pub turn_down : (below_walk : RuleWalk) (below_front left : List ℕ) (gone_then come_after : List (List ℕ))
        → left ≡ front → Leads walk (Name name) below_walk → below_front ≡ front ++ step_bytes (Name m.name)
        → DiffersAt below_walk below_front (leaves m.value) (leaves value) gone gone_then come_then come_after
        → Goes walk top left members all_new olds behind_it gone_first come_first gone_then come_after
    turn_down below_walk below_front left gone_then come_after same leads more differs =
        turn_both left gone_then come_after same
        (differs_behind walk below_walk front below_front (Name m.name) (leaves m.value) (leaves value) gone gone_then
        come_then come_after (subst (λ n. Leads walk (Name n) below_walk) named leads) more differs)

-- behind the loop
pub all_turned : (walk : RuleWalk) (top front : List ℕ) (members old new all_new others : List (Member Tree)) (i : ℕ)
    (gone_first come_first gone come come_end : List (List ℕ)) → length members ≤ i → members ≡ old → all_new ≡ new
    → AddsAt walk front (leaves_of others) come come_end
    → Goes walk top front members all_new (drop i members) others gone_first come_first gone come
    → DiffersAt walk top (leaves_of old) (leaves_of new) gone_first gone come_first come_end
all_turned walk top front members old new all_new others i gone_first come_first gone come come_end high e f adds goes =
    subst (λ ms. DiffersAt walk top (leaves_of ms) (leaves_of new) gone_first gone come_first come_end) e
    (subst (λ ms. DiffersAt walk top (leaves_of members) (leaves_of ms) gone_first gone come_first come_end) f
    (goes gone come_end
    (subst (λ ms. DiffersAt walk front (leaves_of ms) (leaves_of others) gone gone come come_end)
    (sym (drop_of_length-le members high))
    (all_differs walk front [] (leaves_of others) gone gone come come_end (adds_none walk front gone) adds))))

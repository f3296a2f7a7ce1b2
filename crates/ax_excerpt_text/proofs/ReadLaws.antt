-- Parts of an excerpt read one after another.
use Rattle.std.proofs.Math.Seq.{drop-cons}
use Rattle.std.proofs.Common.{◌≡◌, ◌≤◌, ◌<◌, ◌+◌, ℕ, suc, length, get_or, drop, Bool, true, false, ◌&&◌, max, List, [], ◌∷◌, ◌++◌, map, Option, Some, None, refl, sym, ap, ap₂, ◌∙◌, subst, arith, append_assoc, rules}
use Rattle.std.specs.Prelude.{option_map, ⊤}
use Rattle.std.specs.List.{list_all}
use Rattle.std.specs.Str.{bytes_eq, is_utf8}
use Rattle.std.proofs.lemmas.Bool.{and_parts, and_from}
use Rattle.std.proofs.lemmas.List.{map-append}
use Rattle.ax_tree.specs.declared.members.Member.{Member}
use Rattle.ax_tree.specs.declared.tree.Tree.{Tree, out-Tree}
use Rattle.ax_tree.specs.declared.tree.Tree as tree
use Rattle.ax_tree.specs.declared.tree.Tree.TheOpen.{Tree-F}
use Rattle.ax_tree.specs.declared.tree.Tree.TheViews.{roll-Tree, roll-out-Tree}
use Rattle.ax_tree.specs.declared.tree.Tree.TheFolds.{map-Tree, fold-roll-Tree}
use Rattle.ax_tree.specs.CanonicalText.{canonical_text}
use Rattle.ax_tree.specs.Document.{value_of}
use Rattle.ax_tree.specs.Names.{names, HaveRisingNames}
use Rattle.ax_tree.specs.Nesting.{greatest, nesting, nesting_level}
use Rattle.ax_tree.specs.Rising.{is_before, is_rising}
use Rattle.ax_tree.specs.WellFormed.{is_well_formed, well_formed_level}
use Rattle.ax_skim.specs.Members.{IsPlain, members_text}
use Rattle.ax_skim.proofs.Maps.{level_text, past_bracket, text_of_level, at_truth, others_begin}
use Rattle.ax_skim.proofs.Passing.{signed_other}
use Rattle.ax_text.proofs.RisingNames.{is_before_trans}
use Rattle.ax_excerpt.specs.declared.excerpt.Excerpt.{Excerpt}
use Rattle.ax_excerpt.specs.declared.excerpt.Excerpt as excerpt
use Rattle.ax_excerpt.specs.Excerpts.{with_part, chosen, part_level, excerpt_of}
use Rattle.ax_excerpt.proofs.KeptSteps.{value_first}
use Rattle.ax_excerpt_text.specs.Left.{IsReadable, AreReadable, IsBehind}
use Rattle.ax_excerpt.specs.Plain.{is_plain, are_plain, plain_parts, plain_flag, leaving}
use Rattle.ax_excerpt_text.proofs.PlainNames.{plain_name}

-- ---- names that rise, with one left out

first_rises : (a : List ℕ) (ys : List (List ℕ)) → is_rising (a ∷ ys) ≡ true → is_rising ys ≡ true
first_rises a [] h = refl
first_rises a (y ∷ ys) h = (and_parts (is_before a y) _ h).1

pub one_out : (xs : List (List ℕ)) (a : List ℕ) (ys : List (List ℕ))
    → is_rising (xs ++ a ∷ ys) ≡ true → is_rising (xs ++ ys) ≡ true
one_out [] a ys h = first_rises a ys h
one_out (x ∷ []) a [] h = refl
one_out (x ∷ []) a (y ∷ ys) h =
    let one = and_parts (is_before x a) _ h in
    let two = and_parts (is_before a y) _ one.1 in
    and_from _ _ (is_before_trans x a y one.0 two.0) two.1
one_out (x ∷ z ∷ xs) a ys h =
    let one = and_parts (is_before x z) _ h in and_from _ _ one.0 (one_out (z ∷ xs) a ys one.1)

-- each of the names is behind one
abbrev pub AreBehind : List ℕ → List (List ℕ) → Type 0
AreBehind a [] = ⊤
AreBehind a (y ∷ ys) = (is_before a y ≡ true) × AreBehind a ys

behind_on : (a y : List ℕ) (ys : List (List ℕ)) → is_before a y ≡ true → AreBehind y ys → AreBehind a ys
behind_on a y [] h all = tt
behind_on a y (z ∷ zs) h all = (is_before_trans a y z h all.0, behind_on a y zs h all.1)

behind_first : (a : List ℕ) (ys : List (List ℕ)) → is_rising (a ∷ ys) ≡ true → AreBehind a ys
behind_first a [] h = tt
behind_first a (y ∷ ys) h =
    let one = and_parts (is_before a y) _ h in
    (one.0, behind_on a y ys one.0 (behind_first y ys one.1))

pub behind_later : (xs : List (List ℕ)) (a : List ℕ) (ys : List (List ℕ))
    → is_rising (xs ++ a ∷ ys) ≡ true → AreBehind a ys
behind_later [] a ys h = behind_first a ys h
behind_later (x ∷ xs) a ys h = behind_later xs a ys (first_rises x (xs ++ a ∷ ys) h)

-- the name of the last moves over
pub name_over : (found : List (Member Tree)) (m : Member Tree) (ys : List (List ℕ))
    → names (found ++ m ∷ []) ++ ys ≡ names found ++ m.name ∷ ys
name_over found m ys =
    ap (λ l. l ++ ys) (map-append (λ (m : Member Tree). m.name) found (m ∷ []))
    ∙ append_assoc (names found) (m.name ∷ []) ys

-- ---- what is chosen of members that are left

pub chosen_behind : (name rest : List ℕ) (left : List (Member Tree)) (ps : List (Member Excerpt))
    (is : IsBehind name rest left) → AreBehind name (names ps) → plain_parts (map plain_flag ps) ≡ true
    → chosen (map leaving ps) is.left ≡ chosen (map leaving ps) left
chosen_behind name rest left [] is behind plain = refl
chosen_behind name rest left (p ∷ ps) is behind plain =
    let one = and_parts (is_plain p.name && are_plain p.value) _ plain in
    let own = and_parts (is_plain p.name) _ one.0 in
    ap₂ (λ v (ms : List (Member Tree)). with_part (leaving p) v ms)
    (is.same p.name (plain_name p.name own.0) behind.0)
    (chosen_behind name rest left ps is behind.1 one.1)

value_readable : (name : List ℕ) (ms : List (Member Tree)) (t : Tree) → AreReadable ms
    → value_of name ms ≡ Some t → IsReadable t
value_readable name [] t all is = absurd (none_some is)
  where
    none_some : None ≡ Some t → ⊥
    none_some e = cc
value_readable name (m ∷ ms) t all is =
    by (bytes_eq m.name name) refl (λ later. value_readable name ms t all.1 later)
  where
    some_same : (a b : Tree) → Some a ≡ Some b → a ≡ b
    some_same a b e = cc

    by : (b : Bool) → bytes_eq m.name name ≡ b → (value_of name ms ≡ Some t → IsReadable t) → IsReadable t
    by true found later =
        subst IsReadable (some_same m.value t (sym (value_first name m ms true found) ∙ is)) all.0
    by false apart later = later (sym (value_first name m ms false apart) ∙ is)

-- where a walk over the parts stands: what was found, and what will be, make the whole
pub record IsGoing (rest : List ℕ) (parts : List (Member Excerpt)) (found whole : List (Member Tree)) : Type 0 where
  pub left : List (Member Tree)
  pub stands : rest ≡ members_text left
  pub rising : HaveRisingNames left
  pub readable : AreReadable left
  pub same : found ++ chosen (map leaving parts) left ≡ whole

pub going_first : (rest : List ℕ) (parts : List (Member Excerpt)) (those : List (Member Tree))
    → rest ≡ members_text those → HaveRisingNames those → AreReadable those
    → IsGoing rest parts [] (chosen (map leaving parts) those)
going_first rest parts those is rising readable =
    record { left = those; stands = is; rising = rising; readable = readable; same = refl }

abbrev Looked : List ℕ → Option (List ℕ) → List ℕ → List (Member Tree) → Type 0
Looked name v more those =
    (v ≡ option_map canonical_text (value_of name those)) × IsBehind name more those

none_value : (v : Option Tree) → None ≡ option_map canonical_text v → v ≡ None
none_value None h = refl
none_value (Some t) h = absurd (let e : ⊥ = cc in e)

module _ (rest more : List ℕ) (p : Member Excerpt) (ps : List (Member Excerpt)) (found whole : List (Member Tree))
    (xs : List (List ℕ)) (rises : is_rising (xs ++ p.name ∷ names ps) ≡ true)
    (plain : plain_parts (map plain_flag (p ∷ ps)) ≡ true) (going : IsGoing rest (p ∷ ps) found whole) where
  later_plain : plain_parts (map plain_flag ps) ≡ true
  later_plain = (and_parts (is_plain p.name && are_plain p.value) _ plain).1

  -- the part is not there
  pub going_past : Looked p.name None more going.left → IsGoing more ps found whole
  going_past looked =
      let none = none_value (value_of p.name going.left) looked.0 in
      record {
        left = looked.1.left;
        stands = looked.1.stands;
        rising = looked.1.rising;
        readable = looked.1.readable;
        same = ap (λ ms. found ++ ms)
            (chosen_behind p.name more going.left ps looked.1 (behind_later xs p.name (names ps) rises) later_plain
            ∙ ap (λ v. with_part (leaving p) v (chosen (map leaving ps) going.left)) (sym none))
            ∙ going.same;
      }

  -- it is there, and was read
  pub going_on : (text : List ℕ) (value : Tree) (m : Member Tree) → Looked p.name (Some text) more going.left
      → ((t : Tree) → text ≡ canonical_text t → IsReadable t → value ≡ excerpt_of p.value t)
      → m ≡ record { name = p.name; value = value } → IsGoing more ps (found ++ m ∷ []) whole
  going_on text value m looked read is = by (value_of p.name going.left) refl looked.0
    where
      some_same : (a b : List ℕ) → Some a ≡ Some b → a ≡ b
      some_same a b e = cc

      some_none : Some text ≡ None → ⊥
      some_none e = cc

      by : (v : Option Tree) → value_of p.name going.left ≡ v → Some text ≡ option_map canonical_text v
          → IsGoing more ps (found ++ m ∷ []) whole
      by None here told = absurd (some_none told)
      by (Some t) here told =
          let made : value ≡ excerpt_of p.value t =
          read t (some_same text (canonical_text t) told) (value_readable p.name going.left t going.readable here) in
          record {
            left = looked.1.left;
            stands = looked.1.stands;
            rising = looked.1.rising;
            readable = looked.1.readable;
            same = append_assoc found (m ∷ []) (chosen (map leaving ps) looked.1.left)
                ∙ ap₂ (λ (k : Member Tree) (ms : List (Member Tree)). found ++ k ∷ ms)
                (is ∙ ap (λ (u : Tree). record { name = p.name; value = u }) made)
                (chosen_behind p.name more going.left ps looked.1 (behind_later xs p.name (names ps) rises) later_plain)
                ∙ ap (λ v. found ++ with_part (leaving p) v (chosen (map leaving ps) going.left)) (sym here)
                ∙ going.same;
          }

-- ---- a map and its members

flagged : (ms : List (Member Tree)) → List (Member Bool)
flagged ms = map (λ (m : Member Tree). record { name = m.name; value = is_well_formed m.value }) ms

flag_names : (ms : List (Member Tree))
    → names (map (λ (m : Member Tree). record { name = m.name; value = is_well_formed m.value }) ms) ≡ names ms
flag_names [] = refl
flag_names (m ∷ ms) = ap (λ l. m.name ∷ l) (flag_names ms)

left_max : (a b k : ℕ) → max a b ≤ k → a ≤ k
left_max a b k h = omega (arith, h)

right_max : (a b k : ℕ) → max a b ≤ k → b ≤ k
right_max a b k h = omega (arith, h)

all_readable : (ms : List (Member Tree))
    → list_all (λ (m : Member Bool). is_utf8 m.name && m.value)
    (map (λ (m : Member Tree). record { name = m.name; value = is_well_formed m.value }) ms) ≡ true
    → greatest (map (λ (m : Member ℕ). m.value)
    (map (λ (m : Member Tree). record { name = m.name; value = nesting m.value }) ms)) ≤ 127
    → AreReadable ms
all_readable [] formed deep = tt
all_readable (m ∷ ms) formed deep =
    let one = and_parts (is_utf8 m.name && is_well_formed m.value) _ formed in (
      (
        (and_parts (is_utf8 m.name) (is_well_formed m.value) one.0).1,
        left_max (nesting m.value) _ 127 deep,
      ),
      all_readable ms one.1 (right_max (nesting m.value) _ 127 deep),
    )

readable_members : (t : Tree) (ms : List (Member Tree)) → out-Tree t ≡ Tree-F.Object ms → IsReadable t
    → HaveRisingNames ms × AreReadable ms
readable_members t ms is readable =
    let formed : well_formed_level (map-Tree Tree Bool is_well_formed (Tree-F.Object ms)) ≡ true =
    sym (fold-roll-Tree Bool well_formed_level (Tree-F.Object ms))
    ∙ ap is_well_formed (ap roll-Tree (sym is) ∙ roll-out-Tree t) ∙ readable.0 in
    let deep : nesting_level (map-Tree Tree ℕ nesting (Tree-F.Object ms)) ≤ 127 =
    subst (λ n. n ≤ 127) (ap nesting (sym (roll-out-Tree t) ∙ ap roll-Tree is)
    ∙ fold-roll-Tree ℕ nesting_level (Tree-F.Object ms)) readable.1 in
    let two = and_parts (is_rising (names (map (λ (m : Member Tree). record { name = m.name; value = is_well_formed m.value }) ms))) _ formed in
    (ap is_rising (sym (flag_names ms)) ∙ two.0, all_readable ms two.1 (omega (arith, deep)))

excerpt_part : (parts : List (Member Excerpt)) (t : Tree)
    → excerpt_of (excerpt.Part parts) t ≡ part_level (map leaving parts) t (out-Tree t)
excerpt_part parts t = search (rules, excerpt.the_lemmas)

abbrev Reads : List ℕ → List (Member Excerpt) → Option (List (Member Tree)) → Type 0
Reads members parts found = (those : List (Member Tree)) → members ≡ members_text those
    → HaveRisingNames those → AreReadable those → found ≡ Some (chosen (map leaving parts) those)

some_none : {A B : Type 0} {a : A} → Some a ≡ None → B
some_none h = absurd (let e : ⊥ = cc in e)

some_same : (a b : List ℕ) → Some a ≡ Some b → a ≡ b
some_same a b e = cc

-- what begins with the bracket of a map is a map's text
pub map_read : (text members : List ℕ) (parts : List (Member Excerpt))
    (found : Option (List (Member Tree))) (t : Tree) → Some members ≡ past_bracket text
    → text ≡ canonical_text t → IsReadable t → Reads members parts found
    → option_map (λ ms. tree.Object ms) found ≡ Some (excerpt_of (excerpt.Part parts) t)
map_read text members parts found t begins is readable read =
    by (out-Tree t) refl (begins ∙ ap past_bracket (is ∙ text_of_level t))
    ∙ ap Some (sym (excerpt_part parts t))
  where
    by : (y : Tree-F Tree) → out-Tree t ≡ y → Some members ≡ past_bracket (level_text y)
        → option_map (λ ms. tree.Object ms) found ≡ Some (part_level (map leaving parts) t y)
    by (Tree-F.Object ms) own h =
        let parts_of = readable_members t ms own readable in
        ap (option_map (λ ms. tree.Object ms))
        (read ms (some_same members (members_text ms) h) parts_of.0 parts_of.1)
    by Tree-F.Null own h = some_none h
    by (Tree-F.Truth b) own h = some_none (h ∙ at_truth b)
    by (Tree-F.Number z) own h = some_none (h ∙ others_begin _ (signed_other z))
    by (Tree-F.Text s) own h = some_none h
    by (Tree-F.List es) own h = some_none h

-- what begins otherwise is no map's text
pub other_read : (text : List ℕ) (parts : List (Member Excerpt)) (t : Tree) → None ≡ past_bracket text
    → text ≡ canonical_text t → t ≡ excerpt_of (excerpt.Part parts) t
other_read text parts t begins is =
    by (out-Tree t) (begins ∙ ap past_bracket (is ∙ text_of_level t)) ∙ sym (excerpt_part parts t)
  where
    none_some : {A : Type 0} {a : List ℕ} → None ≡ Some a → A
    none_some h = absurd (let e : ⊥ = cc in e)

    by : (y : Tree-F Tree) → None ≡ past_bracket (level_text y) → t ≡ part_level (map leaving parts) t y
    by (Tree-F.Object ms) h = none_some h
    by Tree-F.Null h = refl
    by (Tree-F.Truth b) h = refl
    by (Tree-F.Number z) h = refl
    by (Tree-F.Text s) h = refl
    by (Tree-F.List es) h = refl

-- ---- the loop over the parts

pub part_here : (at : ℕ) (ps : List (Member Excerpt)) (p : Member Excerpt) → at < length ps
    → p ≡ get_or ps at p → drop at ps ≡ p ∷ drop (at + 1) ps
part_here at ps p low is =
    let next : suc at ≡ at + 1 = omega arith in
    drop-cons ps at p low ∙ ap (λ (q : Member Excerpt). q ∷ drop (suc at) ps) (sym is)
    ∙ ap (λ (n : ℕ). p ∷ drop n ps) next

abbrev pub IsSoFar : List ℕ → List ℕ → List (Member Excerpt) → List (Member Excerpt) → List (Member Tree) → Type 0
IsSoFar members rest all ps found =
    (is_rising (names found ++ names ps) ≡ true)
    × (plain_parts (map plain_flag ps) ≡ true)
    × ((those : List (Member Tree)) → members ≡ members_text those → HaveRisingNames those
    → AreReadable those → IsGoing rest ps found (chosen (map leaving all) those))

abbrev LooksUp : List ℕ → List ℕ → Option (List ℕ) → List ℕ → Type 0
LooksUp rest name v more = (left : List (Member Tree)) → rest ≡ members_text left
    → HaveRisingNames left → AreReadable left → Looked name v more left

pub plain_first : (ps : List (Member Excerpt)) (p : Member Excerpt) (others : List (Member Excerpt))
    → ps ≡ p ∷ others → plain_parts (map plain_flag ps) ≡ true → IsPlain p.name
plain_first ps p others is plain =
    let own = subst (λ (qs : List (Member Excerpt)). plain_parts (map plain_flag qs) ≡ true) is plain in
    plain_name p.name (and_parts (is_plain p.name) _
    (and_parts (is_plain p.name && are_plain p.value) _ own).0).0

module _ (members rest more : List ℕ) (all D ps : List (Member Excerpt)) (p : Member Excerpt)
    (found : List (Member Tree)) (here : D ≡ p ∷ ps) (so_far : IsSoFar members rest all D found) where
  abbrev Here : Type 0
  Here = IsSoFar members rest all (p ∷ ps) found

  moved : Here
  moved = subst (λ (qs : List (Member Excerpt)). IsSoFar members rest all qs found) here so_far

  pub loop_past : (v : Option (List ℕ)) (name : List ℕ) (after : List (Member Tree)) → v ≡ None
      → name ≡ p.name → LooksUp rest name v more → after ≡ found → IsSoFar members more all ps after
  loop_past v name after none named looks grown =
      subst (λ (ms : List (Member Tree)). IsSoFar members more all ps ms) (sym grown) (
        one_out (names found) p.name (names ps) moved.0,
        (and_parts (is_plain p.name && are_plain p.value) _ moved.1).1,
        λ those is rising readable.
            let going = moved.2 those is rising readable in
            going_past rest more p ps found _ (names found) moved.0 moved.1 going
            (subst (λ (u : Option (List ℕ)). Looked p.name u more going.left) none
            (subst (λ (n : List ℕ). Looked n v more going.left) named
            (looks going.left going.stands going.rising going.readable))),
      )

  same_tree : (a b : Tree) → Some a ≡ Some b → a ≡ b
  same_tree a b e = cc

  pub loop_on : (v : Option (List ℕ)) (name text : List ℕ) (value : Tree) (m : Member Tree)
      (after : List (Member Tree)) → v ≡ Some text → name ≡ p.name → LooksUp rest name v more
      → ((t : Tree) → text ≡ canonical_text t → IsReadable t → Some value ≡ Some (excerpt_of p.value t))
      → m ≡ record { name = p.name; value = value } → after ≡ found ++ m ∷ []
      → IsSoFar members more all ps after
  loop_on v name text value m after some named looks read is grown =
      subst (λ (ms : List (Member Tree)). IsSoFar members more all ps ms) (sym grown) (
        ap is_rising (name_over found m (names ps) ∙ ap (λ (k : Member Tree). names found ++ k.name ∷ names ps) is)
            ∙ moved.0,
        (and_parts (is_plain p.name && are_plain p.value) _ moved.1).1,
        λ those at rising readable.
            let going = moved.2 those at rising readable in
            going_on rest more p ps found _ (names found) moved.0 moved.1 going text value m
            (subst (λ (u : Option (List ℕ)). Looked p.name u more going.left) some
            (subst (λ (n : List ℕ). Looked n v more going.left) named
            (looks going.left going.stands going.rising going.readable)))
            (λ t text_is own. same_tree value (excerpt_of p.value t) (read t text_is own)) is,
      )

  -- the value of a part that is there is read
  pub never_none : (v : Option (List ℕ)) (name text : List ℕ) → v ≡ Some text → name ≡ p.name
      → LooksUp rest name v more
      → ((t : Tree) → text ≡ canonical_text t → IsReadable t → None ≡ Some (excerpt_of p.value t))
      → (those : List (Member Tree)) → members ≡ members_text those → HaveRisingNames those
      → AreReadable those → ⊥
  never_none v name text some named looks read those is rising readable =
      let going = moved.2 those is rising readable in
      let looked = looks going.left going.stands going.rising going.readable in
      by going.left going.readable (value_of p.name going.left) refl
      (sym some ∙ looked.0 ∙ ap (λ n. option_map canonical_text (value_of n going.left)) named)
    where
      text_same : (a b : List ℕ) → Some a ≡ Some b → a ≡ b
      text_same a b e = cc

      tree_none : (t : Tree) → None ≡ Some t → ⊥
      tree_none t e = cc

      text_none : Some text ≡ None → ⊥
      text_none e = cc

      by : (left : List (Member Tree)) → AreReadable left → (u : Option Tree) → value_of p.name left ≡ u
          → Some text ≡ option_map canonical_text u → ⊥
      by left own None here told = text_none told
      by left own (Some t) here told =
          tree_none (excerpt_of p.value t)
          (read t (text_same text (canonical_text t) told) (value_readable p.name left t own here))

pub plain_named : (name own : List ℕ) → name ≡ own → IsPlain own → IsPlain name
plain_named name own is plain = subst IsPlain (sym is) plain

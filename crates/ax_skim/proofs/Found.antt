-- The member of a name among the texts of members, one member after another.
use Rattle.std.proofs.Common.{◌≡◌, ℕ, Bool, true, false, cond, find, List, [], ◌∷◌, ◌++◌, Option, Some, None, refl, sym, ap, ◌∙◌, append_assoc}
use Rattle.std.specs.Option.{option_map, option_and_then}
use Rattle.std.specs.Str.{bytes_eq}
use Rattle.std.proofs.lemmas.Bool.{false≢true}
use Rattle.std.proofs.lemmas.Slice.Eq.{bytes_eq-Decides}
use Rattle.json.specs.Print.{escape, quoted}
use Rattle.ax_tree.specs.declared.members.Member.{Member}
use Rattle.ax_tree.specs.declared.tree.Tree.{Tree}
use Rattle.ax_tree.specs.CanonicalText.{comma, member_text, canonical_text}
use Rattle.ax_tree.specs.Document.{value_of}
use Rattle.ax_skim.specs.Roles.{role_of}
use Rattle.ax_skim.specs.Members.{IsPlain, with_text, members_text, past_prefix, past_name, after_comma, past_member}
use Rattle.ax_skim.specs.Skipping.{past_value}
use Rattle.ax_skim.proofs.Escapes.{escape-name, same_name}
use Rattle.ax_skim.proofs.Passing.{member_passed, tree_passed}
use Rattle.ax_skim.proofs.Prefixes.{past_prefix-append, past_prefix-found}

-- what stands behind a member, with these after it
abbrev pub tail : List (Member Tree) → List ℕ
tail [] = 125 ∷ []
tail (m ∷ ms) = comma ∷ members_text (m ∷ ms)

pub first_member : (m : Member Tree) (ms : List (Member Tree))
    → members_text (m ∷ ms) ≡ member_text (with_text m) ++ tail ms
first_member m [] = refl
first_member m (n ∷ ms) = append_assoc (member_text (with_text m)) _ (125 ∷ [])

pub tail_ends : (ms : List (Member Tree)) → past_value (tail ms) ≡ Some (tail ms)
unfolding role_of
tail_ends [] = refl
tail_ends (m ∷ ms) = refl

pub passed : (m : Member Tree) (ms : List (Member Tree)) → past_value (members_text (m ∷ ms)) ≡ Some (tail ms)
passed m ms =
    ap past_value (first_member m ms)
    ∙ member_passed m.name (canonical_text m.value) (tree_passed m.value) 0 (tail ms) ∙ tail_ends ms

none_behind : past_member (members_text []) ≡ None
unfolding role_of
none_behind = refl

pub value_ends : (t : Tree) (ms : List (Member Tree))
    → past_value (canonical_text t ++ tail ms) ≡ Some (tail ms)
value_ends t ms = tree_passed t 0 (tail ms) ∙ tail_ends ms

-- ---- the front of a member

-- a member's text, by its name and its value
named_text : (name value more : List ℕ) → member_text (record { name = name; value = value }) ++ more
    ≡ 34 ∷ (escape name ++ 34 ∷ 58 ∷ (value ++ more))
named_text name value more =
    append_assoc (quoted name) (58 ∷ value) more
    ∙ ap (λ l. 34 ∷ l) (append_assoc (escape name) (34 ∷ []) (58 ∷ (value ++ more)))

-- the front of a member of that name, and of one of another
name_there : (name more : List ℕ) → IsPlain name
    → past_name name (34 ∷ (escape name ++ 34 ∷ 58 ∷ more)) ≡ Some more
name_there name more own =
    ap (λ l. option_and_then (past_prefix (34 ∷ 58 ∷ [])) (past_prefix name (l ++ 34 ∷ 58 ∷ more)))
    (escape-name name own)
    ∙ ap (option_and_then (past_prefix (34 ∷ 58 ∷ []))) (past_prefix-append name (34 ∷ 58 ∷ more))

none_or : (name inside : List ℕ) (behind : Option (List ℕ)) → past_prefix name inside ≡ behind
    → ((after : List ℕ) → inside ≡ name ++ 34 ∷ 58 ∷ after → ⊥)
    → option_and_then (past_prefix (34 ∷ 58 ∷ [])) behind ≡ None
none_or name inside None is apart = refl
none_or name inside (Some rest) is apart =
    ends (past_prefix (34 ∷ 58 ∷ []) rest) refl
  where
    ends : (after : Option (List ℕ)) → past_prefix (34 ∷ 58 ∷ []) rest ≡ after → after ≡ None
    ends None own = refl
    ends (Some after) own =
        absurd (apart after (past_prefix-found name inside rest is
        ∙ ap (λ l. name ++ l) (past_prefix-found (34 ∷ 58 ∷ []) rest after own)))

name_else : (name other more : List ℕ) → IsPlain name → (other ≡ name → ⊥)
    → past_name name (34 ∷ (escape other ++ 34 ∷ 58 ∷ more)) ≡ None
name_else name other more own apart =
    none_or name (escape other ++ 34 ∷ 58 ∷ more) (past_prefix name (escape other ++ 34 ∷ 58 ∷ more)) refl
    (λ after is. apart (same_name name other (58 ∷ more) (58 ∷ after) own is))

-- ---- one member after another

-- where the member at the front has the name, its value is found; else none is, and the look-up
-- goes on behind it
record AtFront (name : List ℕ) (m : Member Tree) (ms : List (Member Tree)) (has : Bool) : Type 0 where
  front : past_name name (members_text (m ∷ ms)) ≡ cond has (Some (canonical_text m.value ++ tail ms)) None
  value : value_of name (m ∷ ms) ≡ cond has (Some m.value) (value_of name ms)

value_by : (has : Bool) (m : Member Tree) (rest : Option (Member Tree))
    → option_map (λ (n : Member Tree). n.value) (cond has (Some m) rest)
    ≡ cond has (Some m.value) (option_map (λ (n : Member Tree). n.value) rest)
value_by true m rest = refl
value_by false m rest = refl

pub front_of : (m : Member Tree) (ms : List (Member Tree))
    → members_text (m ∷ ms) ≡ 34 ∷ (escape m.name ++ 34 ∷ 58 ∷ (canonical_text m.value ++ tail ms))
front_of m ms = first_member m ms ∙ named_text m.name (canonical_text m.value) (tail ms)

at_front : (name : List ℕ) (m : Member Tree) (ms : List (Member Tree)) → IsPlain name
    → AtFront name m ms (bytes_eq m.name name)
at_front name m ms own =
    record {
      front = ap (past_name name) (front_of m ms) ∙ by (bytes_eq m.name name) refl;
      value = value_by (bytes_eq m.name name) m (find (λ n. bytes_eq n.name name) ms);
    }
  where
    more : List ℕ
    more = canonical_text m.value ++ tail ms

    by : (has : Bool) → bytes_eq m.name name ≡ has
        → past_name name (34 ∷ (escape m.name ++ 34 ∷ 58 ∷ (canonical_text m.value ++ tail ms)))
        ≡ cond has (Some (canonical_text m.value ++ tail ms)) None
    by true is =
        let same = (bytes_eq-Decides m.name name).0 is in
        ap (λ n. past_name name (34 ∷ (escape n ++ 34 ∷ 58 ∷ (canonical_text m.value ++ tail ms)))) same
        ∙ name_there name (canonical_text m.value ++ tail ms) own
    by false is =
        name_else name m.name (canonical_text m.value ++ tail ms) own
        (λ same. false≢true (sym is ∙ (bytes_eq-Decides m.name name).1 same))

-- the rest is the text of members, among which the name is looked up in place of all
pub record IsLeft (name rest : List ℕ) (those : List (Member Tree)) : Type 0 where
  left : List (Member Tree)
  stands : rest ≡ members_text left
  same : value_of name left ≡ value_of name those

pub at_first : (name rest : List ℕ) (those : List (Member Tree)) → rest ≡ members_text those
    → IsLeft name rest those
at_first name rest those is = record { left = those; stands = is; same = refl }

pub member_behind : (m : Member Tree) (ms : List (Member Tree))
    → past_member (members_text (m ∷ ms)) ≡ after_comma (tail ms)
member_behind m ms = ap (option_and_then after_comma) (passed m ms)

some_same : (a b : List ℕ) → Some a ≡ Some b → a ≡ b
some_same a b e = cc

found_at : (name value : List ℕ) (r : Option (List ℕ)) (m : Member Tree) (ms : List (Member Tree))
    (has : Bool) → AtFront name m ms has → Some value ≡ past_name name (members_text (m ∷ ms))
    → ((front after : List ℕ) → value ≡ front ++ after → past_value value ≡ Some after → r ≡ Some front)
    → r ≡ option_map canonical_text (value_of name (m ∷ ms))
found_at name value r m ms true at is ends =
    let same = some_same value (canonical_text m.value ++ tail ms) (is ∙ at.front) in
    ends (canonical_text m.value) (tail ms) same (ap past_value same ∙ value_ends m.value ms)
    ∙ ap (option_map canonical_text) (sym at.value)
found_at name value r m ms false at is ends = absurd (some_none value (is ∙ at.front))
  where
    some_none : (a : List ℕ) → Some a ≡ None → ⊥
    some_none a e = cc

-- the value of that name is found
pub found : (name rest value : List ℕ) (those : List (Member Tree)) (r : Option (List ℕ))
    → IsPlain name → IsLeft name rest those → Some value ≡ past_name name rest
    → ((front after : List ℕ) → value ≡ front ++ after → past_value value ≡ Some after → r ≡ Some front)
    → r ≡ option_map canonical_text (value_of name those)
found name rest value those r own at is ends =
    by at.left (is ∙ ap (past_name name) at.stands) ∙ ap (option_map canonical_text) at.same
  where
    by : (left : List (Member Tree)) → Some value ≡ past_name name (members_text left)
        → r ≡ option_map canonical_text (value_of name left)
    by [] is = absurd (cc)
    by (m ∷ ms) is = found_at name value r m ms (bytes_eq m.name name) (at_front name m ms own) is ends

ended_at : (name : List ℕ) (m : Member Tree) (ms : List (Member Tree)) (has : Bool)
    → AtFront name m ms has → None ≡ past_name name (members_text (m ∷ ms))
    → None ≡ past_member (members_text (m ∷ ms)) → value_of name (m ∷ ms) ≡ None
ended_at name m ms true at absent last = absurd (none_some (absent ∙ at.front))
  where
    none_some : {a : List ℕ} → None ≡ Some a → ⊥
    none_some e = cc
ended_at name m [] false at absent last = at.value
ended_at name m (n ∷ ms) false at absent last = absurd (none_some (last ∙ member_behind m (n ∷ ms)))
  where
    none_some : {a : List ℕ} → None ≡ Some a → ⊥
    none_some e = cc

-- no member of that name is found, and none follows
pub ended : (name rest : List ℕ) (those : List (Member Tree)) → IsPlain name → IsLeft name rest those
    → None ≡ past_name name rest → None ≡ past_member rest
    → None ≡ option_map canonical_text (value_of name those)
ended name rest those own at absent last =
    ap (option_map canonical_text)
    (sym (by at.left (absent ∙ ap (past_name name) at.stands) (last ∙ ap past_member at.stands)) ∙ at.same)
  where
    by : (left : List (Member Tree)) → None ≡ past_name name (members_text left)
        → None ≡ past_member (members_text left) → value_of name left ≡ None
    by [] absent last = refl
    by (m ∷ ms) absent last =
        ended_at name m ms (bytes_eq m.name name) (at_front name m ms own) absent last

next_at : (name next : List ℕ) (those : List (Member Tree)) (m : Member Tree)
    (ms : List (Member Tree)) (has : Bool) → AtFront name m ms has
    → value_of name (m ∷ ms) ≡ value_of name those
    → None ≡ past_name name (members_text (m ∷ ms)) → Some next ≡ past_member (members_text (m ∷ ms))
    → IsLeft name next those
next_at name next those m ms true at same absent is = absurd (none_some (absent ∙ at.front))
  where
    none_some : {a : List ℕ} → None ≡ Some a → ⊥
    none_some e = cc
next_at name next those m [] false at same absent is = absurd (some_none (is ∙ member_behind m []))
  where
    some_none : Some next ≡ None → ⊥
    some_none e = cc
next_at name next those m (n ∷ ms) false at same absent is =
    record {
      left = n ∷ ms;
      stands = some_same next (members_text (n ∷ ms)) (is ∙ member_behind m (n ∷ ms));
      same = sym at.value ∙ same;
    }

-- no member of that name is found, and it is looked for behind the comma
pub next_left : (name rest next : List ℕ) (those : List (Member Tree)) → IsPlain name
    → IsLeft name rest those → None ≡ past_name name rest → Some next ≡ past_member rest
    → IsLeft name next those
next_left name rest next those own at absent is =
    by at.left at.same (absent ∙ ap (past_name name) at.stands) (is ∙ ap past_member at.stands)
  where
    by : (left : List (Member Tree)) → value_of name left ≡ value_of name those
        → None ≡ past_name name (members_text left) → Some next ≡ past_member (members_text left)
        → IsLeft name next those
    by [] same absent is = absurd (some_none (is ∙ none_behind))
      where
        some_none : Some next ≡ None → ⊥
        some_none e = cc
    by (m ∷ ms) same absent is =
        next_at name next those m ms (bytes_eq m.name name) (at_front name m ms own) same absent is

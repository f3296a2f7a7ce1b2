-- A tree by its canonical text: whether it is a map, and what its id is.
use Rattle.std.proofs.Common.{◌≡◌, ℕ, Bool, true, false, cond, ◌==◌, List, [], ◌∷◌, Option, Some, None, if◌then◌else◌, codes, refl, sym, ap, ◌∙◌, subst, arith}
use Rattle.std.specs.Option.{option_map, option_and_then}
use Rattle.std.specs.Fmt.{signed_decimal}
use Rattle.json.specs.Print.{quoted}
use Rattle.ax_tree.specs.declared.members.Member.{Member}
use Rattle.ax_tree.specs.declared.tree.Tree.{Tree, out-Tree}
use Rattle.ax_tree.specs.declared.tree.Tree.TheOpen.{Tree-F}
use Rattle.ax_tree.specs.declared.tree.Tree.TheViews.{roll-out-Tree}
use Rattle.ax_tree.specs.declared.tree.Tree.TheFolds.{map-Tree}
use Rattle.ax_tree.specs.CanonicalText.{text_level, canonical_text}
use Rattle.ax_tree.specs.Document.{value_of, member_level, member, text_value_level, text_value, is_id, document_id}
use Rattle.ax_skim.specs.declared.role.ByteRole.TheVariants.{Opening, Other}
use Rattle.ax_skim.specs.Roles.{role_of}
use Rattle.ax_skim.specs.Members.{members_text, past_prefix}
use Rattle.ax_skim.proofs.Passing.{AreOther, signed_other, text-roll}

-- one level of a tree, whose children are seen as their texts
abbrev pub level_text : Tree-F Tree → List ℕ
level_text y = text_level (map-Tree Tree (List ℕ) canonical_text y)

pub text_of_level : (t : Tree) → canonical_text t ≡ level_text (out-Tree t)
text_of_level t = ap canonical_text (sym (roll-out-Tree t)) ∙ text-roll (out-Tree t)

abbrev pub past_bracket : List ℕ → Option (List ℕ)
past_bracket = past_prefix (123 ∷ [])

no_opening : (x : ℕ) (b : Bool) (text : List ℕ) → (123 == x) ≡ b → role_of x ≡ Other
    → cond b (Some text) None ≡ None
unfolding role_of
no_opening x true text is other =
    let same : 123 ≡ x = grind (arith, is) in absurd (apart (ap role_of same ∙ other))
  where
    apart : Opening ≡ Other → ⊥
    apart e = cc
no_opening x false text is other = refl

pub others_begin : (text : List ℕ) → AreOther text → past_bracket text ≡ None
others_begin [] all = refl
others_begin (x ∷ text) all = no_opening x (123 == x) text refl all.0

-- what begins with the bracket of a map is the text of its members
record AtBracket (name : List ℕ) (y : Tree-F Tree) (behind : Option (List ℕ)) : Type 0 where
  none : None ≡ behind → None ≡ option_map canonical_text (member_level name y)
  some : (members : List ℕ) (r : Option (List ℕ)) → Some members ≡ behind
      → ((those : List (Member Tree)) → members ≡ members_text those
      → r ≡ option_map canonical_text (value_of name those))
      → r ≡ option_map canonical_text (member_level name y)

some_same : (a b : List ℕ) → Some a ≡ Some b → a ≡ b
some_same a b e = cc

some_none : (a : List ℕ) → Some a ≡ None → ⊥
some_none a e = cc

none_some : (a : List ℕ) → None ≡ Some a → ⊥
none_some a e = cc

at_map : (name : List ℕ) (ms : List (Member Tree))
    → AtBracket name (Tree-F.Object ms) (Some (members_text ms))
at_map name ms =
    record {
      none = λ is. absurd (none_some (members_text ms) is);
      some = λ members r is looked. looked ms (some_same members (members_text ms) is);
    }

at_other : (name : List ℕ) (y : Tree-F Tree) → member_level name y ≡ None → AtBracket name y None
at_other name y none =
    record {
      none = λ is. ap (option_map canonical_text) (sym none);
      some = λ members r is looked. absurd (some_none members is);
    }

pub at_truth : (b : Bool) → past_bracket (level_text (Tree-F.Truth b)) ≡ None
at_truth true = refl
at_truth false = refl

at_level : (name : List ℕ) (y : Tree-F Tree) → AtBracket name y (past_bracket (level_text y))
at_level name (Tree-F.Object ms) = at_map name ms
at_level name Tree-F.Null = at_other name Tree-F.Null refl
at_level name (Tree-F.Truth b) =
    subst (AtBracket name (Tree-F.Truth b)) (sym (at_truth b)) (at_other name (Tree-F.Truth b) refl)
at_level name (Tree-F.Number z) =
    subst (AtBracket name (Tree-F.Number z)) (sym (others_begin (signed_decimal z) (signed_other z)))
    (at_other name (Tree-F.Number z) refl)
at_level name (Tree-F.Text s) = at_other name (Tree-F.Text s) refl
at_level name (Tree-F.List ts) = at_other name (Tree-F.List ts) refl

pub no_map : (name text : List ℕ) (t : Tree) → None ≡ past_prefix (123 ∷ []) text → text ≡ canonical_text t
    → None ≡ option_map canonical_text (member name t)
no_map name text t absent is =
    (at_level name (out-Tree t)).none (absent ∙ ap past_bracket (is ∙ text_of_level t))

pub in_map : (name text members : List ℕ) (t : Tree) (r : Option (List ℕ))
    → Some members ≡ past_prefix (123 ∷ []) text
    → ((those : List (Member Tree)) → members ≡ members_text those
    → r ≡ option_map canonical_text (value_of name those))
    → text ≡ canonical_text t → r ≡ option_map canonical_text (member name t)
in_map name text members t r begins looked is =
    (at_level name (out-Tree t)).some members r (begins ∙ ap past_bracket (is ∙ text_of_level t)) looked

-- ---- ids

id_by : (b : Bool) (s id : List ℕ) → cond b (Some s) None ≡ Some id → quoted s ≡ quoted id
id_by true s id is = ap quoted (some_same s id is)
id_by false s id is = absurd (none_some id is)

abbrev id_in : Option (List ℕ) → Option (List ℕ)
id_in = option_and_then (λ id. if is_id id then Some id else None)

id_of_level : (y : Tree-F Tree) (id : List ℕ) → id_in (text_value_level y) ≡ Some id
    → level_text y ≡ quoted id
id_of_level (Tree-F.Text s) id is = id_by (is_id s) s id is
id_of_level Tree-F.Null id is = absurd (none_some id is)
id_of_level (Tree-F.Truth b) id is = absurd (none_some id is)
id_of_level (Tree-F.Number z) id is = absurd (none_some id is)
id_of_level (Tree-F.List ts) id is = absurd (none_some id is)
id_of_level (Tree-F.Object ms) id is = absurd (none_some id is)

id_of_value : (value : Option Tree) (id : List ℕ) → id_in (option_and_then text_value value) ≡ Some id
    → option_map canonical_text value ≡ Some (quoted id)
id_of_value None id is = absurd (none_some id is)
id_of_value (Some t) id is = ap Some (text_of_level t ∙ id_of_level (out-Tree t) id is)

-- the id stands in quotes, as the text of its member
pub id_text : (text value id : List ℕ) (t : Tree)
    → ((tree : Tree) → text ≡ canonical_text tree
    → Some value ≡ option_map canonical_text (member (codes "id") tree))
    → text ≡ canonical_text t → document_id t ≡ Some id → value ≡ quoted id
id_text text value id t looked is named =
    some_same value (quoted id) (looked t is ∙ id_of_value (member (codes "id") t) id named)

-- a document has a member for its id
pub id_there : (text id : List ℕ) (t : Tree)
    → ((tree : Tree) → text ≡ canonical_text tree
    → None ≡ option_map canonical_text (member (codes "id") tree))
    → text ≡ canonical_text t → document_id t ≡ Some id → ⊥
id_there text id t looked is named =
    none_some (quoted id) (looked t is ∙ id_of_value (member (codes "id") t) id named)

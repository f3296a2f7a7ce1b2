-- What adding the terms of leaves comes to.
use Rattle.std.proofs.Common.{◌≡◌, ℕ, ◌+◌, ◌<◌, ◌≤◌, List, [], ◌∷◌, ◌++◌, Bool, true, false, map, drop, length, get_or, refl, sym, ap, ◌∙◌, subst, inl, inr, ⊎_elim, append_assoc, if◌then◌else◌}
use Rattle.std.proofs.Math.ListN.{drop_of_length-le}
use Rattle.std.proofs.lemmas.Bool.{false≢true}
use Rattle.std.proofs.lemmas.List.{append-nil}
use Rattle.std.proofs.lemmas.List.Concat.{flat_map-append}
use Rattle.std.proofs.lemmas.List.Elements.{Contains-append_left, Contains-append_right, Contains-append_cases, Contains-push, Contains-push_cases}
use Rattle.std.specs.List.{Contains, flat_map}
use Rattle.std.specs.Prelude.{◌↔◌, ◌⊎◌, IsTrue}
use Rattle.ax_tree.specs.declared.members.Member.{Member}
use Rattle.ax_tree.specs.declared.tree.Tree.{Tree}
use Rattle.ax_mean.specs.declared.query.Step.{Step}
use Rattle.ax_mean.specs.declared.query.Step.TheVariants.{Item, Name}
use Rattle.ax_mean.specs.declared.value.Value.TheVariants.{Defined}
use Rattle.ax_term.specs.CutValues.{cut_of}
use Rattle.ax_term.specs.TermBytes.{step_bytes, path_bytes, value_bytes}
use Rattle.ax_policy.specs.declared.policy.Policy.{Policy}
use Rattle.ax_policy.specs.declared.walk.RuleWalk.{RuleWalk}
use Rattle.ax_policy.specs.Covering.{Covers}
use Rattle.ax_policy.specs.Walking.{IsAt}
use Rattle.ax_terms.specs.Adding.{AddsAt, HasCovered, front_of, term_from}
use Rattle.ax_terms.specs.Leaves.{Leaf, alone, behind, below, item_leaves, leaves, leaves_in, member_leaves}
use Rattle.ax_terms.specs.TermsOf.{leaf_term}
use Rattle.ax_terms.proofs.Sequences.{contains_first, contains_map, from_map, items_behind, next, none_in_nil, only_one}

-- ---- one list of leaves after another

nothing_covered : (policy : Policy) (path : List Step) (bytes : List ℕ) → HasCovered policy path [] bytes → ⊥
nothing_covered policy path bytes h = none_in_nil h.0 h.1

pub adds_none : (walk : RuleWalk) (front : List ℕ) (old : List (List ℕ)) → AddsAt walk front [] old old
adds_none walk front old = record {
  so = λ policy path is f bytes. (
    inl,
    (λ h. ⊎_elim (λ k. k) (λ k. absurd (nothing_covered policy path bytes k)) h),
  );
}

wider_left : (policy : Policy) (path : List Step) (xs ys : List Leaf) (bytes : List ℕ)
    → HasCovered policy path xs bytes → HasCovered policy path (xs ++ ys) bytes
wider_left policy path xs ys bytes h = (h.0, Contains-append_left xs ys h.0 h.1, h.2, h.3)

wider_right : (policy : Policy) (path : List Step) (xs ys : List Leaf) (bytes : List ℕ)
    → HasCovered policy path ys bytes → HasCovered policy path (xs ++ ys) bytes
wider_right policy path xs ys bytes h = (h.0, Contains-append_right xs ys h.0 h.1, h.2, h.3)

parted : (policy : Policy) (path : List Step) (xs ys : List Leaf) (bytes : List ℕ)
    → HasCovered policy path (xs ++ ys) bytes
    → HasCovered policy path xs bytes ⊎ HasCovered policy path ys bytes
parted policy path xs ys bytes h =
    ⊎_elim (λ k. inl (h.0, k, h.2, h.3)) (λ k. inr (h.0, k, h.2, h.3))
    (Contains-append_cases xs ys h.0 h.1)

pub adds_both : (walk : RuleWalk) (front : List ℕ) (xs ys : List Leaf) (a b c : List (List ℕ))
    → AddsAt walk front xs a b → AddsAt walk front ys b c → AddsAt walk front (xs ++ ys) a c
adds_both walk front xs ys a b c one two = record {
  so = λ policy path is f bytes.
      let p = one.so policy path is f bytes in
      let q = two.so policy path is f bytes in (
        (λ h.
            ⊎_elim (λ k. ⊎_elim inl (λ m. inr (wider_left policy path xs ys bytes m)) (p.0 k))
            (λ k. inr (wider_right policy path xs ys bytes k)) (q.0 h)),
        (λ h.
            ⊎_elim (λ k. q.1 (inl (p.1 (inl k))))
            (λ k. ⊎_elim (λ m. q.1 (inl (p.1 (inr m)))) (λ m. q.1 (inr m)) (parted policy path xs ys bytes k))
            h),
      );
}

-- ---- one step above

abbrev pub Leads : RuleWalk → Step → RuleWalk → Type 0
Leads walk step next_walk =
    (policy : Policy) (path : List Step) → IsAt walk policy path → IsAt next_walk policy (path ++ step ∷ [])

one_path : (path : List Step) (step : Step) (leaf : Leaf)
    → (path ++ step ∷ []) ++ leaf.path ≡ path ++ (behind step leaf).path
one_path path step leaf = append_assoc path (step ∷ []) leaf.path

one_leaf : (path : List Step) (step : Step) (leaf : Leaf)
    → below (path ++ step ∷ []) leaf ≡ below path (behind step leaf)
one_leaf path step leaf = ap (λ p. record { path = p; tree = leaf.tree }) (one_path path step leaf)

from_below : (policy : Policy) (path : List Step) (step : Step) (xs : List Leaf) (bytes : List ℕ)
    → HasCovered policy (path ++ step ∷ []) xs bytes → HasCovered policy path (map (behind step) xs) bytes
from_below policy path step xs bytes h = (
  behind step h.0,
  contains_map (behind step) xs h.0 h.1,
  subst (Covers policy) (one_path path step h.0) h.2,
  h.3 ∙ ap leaf_term (one_leaf path step h.0),
)

from_above : (policy : Policy) (path : List Step) (step : Step) (xs : List Leaf) (bytes : List ℕ)
    → HasCovered policy path (map (behind step) xs) bytes → HasCovered policy (path ++ step ∷ []) xs bytes
from_above policy path step xs bytes h =
    let x = from_map (behind step) xs h.0 h.1 in (
      x.0,
      x.1,
      subst (Covers policy) (ap (λ l. path ++ l.path) (sym x.2) ∙ sym (one_path path step x.0)) h.2,
      h.3 ∙ ap (λ l. leaf_term (below path l)) (sym x.2) ∙ sym (ap leaf_term (one_leaf path step x.0)),
    )

front_more : (path : List Step) (step : Step) → front_of path ++ step_bytes step ≡ front_of (path ++ step ∷ [])
front_more path step =
    ap (λ bs. 2 ∷ bs)
    (sym (flat_map-append step_bytes path (step ∷ [])
    ∙ ap (λ bs. flat_map step_bytes path ++ bs) (append-nil (step_bytes step))))

pub adds_behind : (walk next_walk : RuleWalk) (front next_front : List ℕ) (step : Step) (xs : List Leaf)
    (a b : List (List ℕ)) → Leads walk step next_walk → next_front ≡ front ++ step_bytes step
    → AddsAt next_walk next_front xs a b → AddsAt walk front (map (behind step) xs) a b
adds_behind walk next_walk front next_front step xs a b leads more adds = record {
  so = λ policy path is f bytes.
      let p = adds.so policy (path ++ step ∷ []) (leads policy path is)
      (more ∙ ap (λ bs. bs ++ step_bytes step) f ∙ front_more path step) bytes in (
        (λ h. ⊎_elim inl (λ k. inr (from_below policy path step xs bytes k)) (p.0 h)),
        (λ h. ⊎_elim (λ k. p.1 (inl k)) (λ k. p.1 (inr (from_above policy path step xs bytes k))) h),
      );
}

-- ---- one leaf

path_from_front : (path : List Step) (v : List ℕ) → front_of path ++ 1 ∷ v ≡ 2 ∷ (path_bytes path ++ v)
path_from_front path v = ap (λ bs. 2 ∷ bs) (ended path) where
  ended : (path : List Step) → flat_map step_bytes path ++ 1 ∷ v ≡ path_bytes path ++ v
  ended [] = refl
  ended (step ∷ path) =
      append_assoc (step_bytes step) (flat_map step_bytes path) (1 ∷ v)
      ∙ ap (λ bs. step_bytes step ++ bs) (ended path)
      ∙ sym (append_assoc (step_bytes step) (path_bytes path) v)

abbrev leaf_at : List Step → Tree → Leaf
leaf_at path given = record { path = path; tree = given }

only_leaf : (policy : Policy) (path : List Step) (given : Tree) (bytes : List ℕ)
    → HasCovered policy path (alone given) bytes
    → Covers policy path × (bytes ≡ leaf_term (leaf_at path given))
only_leaf policy path given bytes h =
    let is : leaf_at [] given ≡ h.0 = only_one (leaf_at [] given) h.0 h.1 in (
      subst (Covers policy) (ap (λ l. path ++ l.path) (sym is) ∙ append-nil path) h.2,
      h.3 ∙ ap (λ l. leaf_term (below path l)) (sym is)
          ∙ ap (λ p. leaf_term (leaf_at p given)) (append-nil path),
    )

is_leaf : (policy : Policy) (path : List Step) (given : Tree) (bytes : List ℕ) → Covers policy path
    → bytes ≡ leaf_term (leaf_at path given) → HasCovered policy path (alone given) bytes
is_leaf policy path given bytes covered is = (
  leaf_at [] given,
  contains_first (leaf_at [] given) [],
  subst (Covers policy) (sym (append-nil path)) covered,
  is ∙ ap (λ p. leaf_term (leaf_at p given)) (sym (append-nil path)),
)

leaf_added : (walk : RuleWalk) (front : List ℕ) (given : Tree) (old new : List (List ℕ)) (term : List ℕ)
    (covered : Bool)
    → ((policy : Policy) (path : List Step) → IsAt walk policy path → IsTrue covered ↔ Covers policy path)
    → covered ≡ true → term ≡ front ++ 1 ∷ value_bytes (cut_of (Defined given))
    → new ≡ old ++ term ∷ [] → AddsAt walk front (alone given) old new
leaf_added walk front given old new term covered covers is_so is n = record {
  so = λ policy path at f bytes.
      let the_term : term ≡ leaf_term (leaf_at path given) =
      is ∙ ap (λ bs. bs ++ 1 ∷ value_bytes (cut_of (Defined given))) f
      ∙ path_from_front path (value_bytes (cut_of (Defined given))) in (
        (λ h.
            ⊎_elim inl
            (λ e. inr (is_leaf policy path given bytes ((covers policy path at).0 is_so) (sym e ∙ the_term)))
            (Contains-push_cases old term bytes (subst (λ ts. Contains ts bytes) n h))),
        (λ h.
            subst (λ ts. Contains ts bytes) (sym n)
            (⊎_elim (λ k. Contains-append_left old (term ∷ []) bytes k)
            (λ k. subst (Contains (old ++ term ∷ [])) (the_term ∙ sym (only_leaf policy path given bytes k).1)
            (Contains-push old term))
            h)),
      );
}

leaf_passed : (walk : RuleWalk) (front : List ℕ) (given : Tree) (old : List (List ℕ)) (covered : Bool)
    → ((policy : Policy) (path : List Step) → IsAt walk policy path → IsTrue covered ↔ Covers policy path)
    → covered ≡ false → AddsAt walk front (alone given) old old
leaf_passed walk front given old covered covers is_not = record {
  so = λ policy path at f bytes. (
    inl,
    (λ h.
        ⊎_elim (λ k. k)
        (λ k. absurd (false≢true (sym is_not ∙ (covers policy path at).1 (only_leaf policy path given bytes k).0)))
        h),
  );
}

-- where the leaf's term is added just if it is covered
pub leaf_told : (walk : RuleWalk) (front : List ℕ) (given : Tree) (old new : List (List ℕ)) (covered : Bool)
    → ((policy : Policy) (path : List Step) → IsAt walk policy path → IsTrue covered ↔ Covers policy path)
    → new ≡ old ++ (if covered then term_from front given ∷ [] else [])
    → AddsAt walk front (alone given) old new
leaf_told walk front given old new true covers n =
    leaf_added walk front given old new (term_from front given) true covers refl refl n
leaf_told walk front given old new false covers n =
    subst (AddsAt walk front (alone given) old) (sym (n ∙ append-nil old))
    (leaf_passed walk front given old false covers refl)

-- ---- the trees of a list, and those of a map

pub item_added : (walk : RuleWalk) (top front left : List ℕ) (whole : List Leaf) (items : List Tree) (i : ℕ)
    (item : Tree) (first before after : List (List ℕ)) → i < length items → item ≡ get_or items i item
    → left ≡ front → AddsAt walk front (leaves item) before after
    → ((end : List (List ℕ)) → AddsAt walk front (flat_map leaves (drop i items)) before end
    → AddsAt walk top whole first end)
    → (end : List (List ℕ)) → AddsAt walk left (flat_map leaves (drop (i + 1) items)) after end
    → AddsAt walk top whole first end
item_added walk top front left whole items i item first before after low is same one goes end rest =
    let later : AddsAt walk front (flat_map leaves (drop (i + 1) items)) after end =
    subst (λ f. AddsAt walk f (flat_map leaves (drop (i + 1) items)) after end) same rest in
    goes end
    (subst (λ ts. AddsAt walk front (flat_map leaves ts) before end) (sym (next items i item low is))
    (adds_both walk front (leaves item) (flat_map leaves (drop (i + 1) items)) before after end one later))

pub items_end : (walk : RuleWalk) (front : List ℕ) (items : List Tree) (i : ℕ) (terms : List (List ℕ))
    → length items ≤ i → AddsAt walk front (flat_map leaves (drop i items)) terms terms
items_end walk front items i terms high =
    subst (λ ts. AddsAt walk front (flat_map leaves ts) terms terms) (sym (drop_of_length-le items high))
    (adds_none walk front terms)

pub items_added : (walk below_walk : RuleWalk) (front below_front : List ℕ) (items all : List Tree)
    (a b : List (List ℕ)) → items ≡ all → Leads walk Item below_walk → below_front ≡ front ++ step_bytes Item
    → AddsAt below_walk below_front (flat_map leaves items) a b
    → AddsAt walk front (flat_map item_leaves (map leaves all)) a b
items_added walk below_walk front below_front items all a b e leads more adds =
    subst (λ ls. AddsAt walk front ls a b)
    (items_behind items ∙ ap (λ ts. flat_map item_leaves (map leaves ts)) e)
    (adds_behind walk below_walk front below_front Item (flat_map leaves items) a b leads more adds)

pub member_added : (walk below_walk : RuleWalk) (top front left below_front : List ℕ) (whole : List Leaf)
    (members : List (Member Tree)) (i : ℕ) (m : Member Tree) (name : List ℕ)
    (first before after : List (List ℕ))
    → i < length members → m ≡ get_or members i m → name ≡ m.name → Leads walk (Name name) below_walk
    → below_front ≡ front ++ step_bytes (Name m.name) → left ≡ front
    → AddsAt below_walk below_front (leaves m.value) before after
    → ((end : List (List ℕ))
    → AddsAt walk front (flat_map member_leaves (map leaves_in (drop i members))) before end
    → AddsAt walk top whole first end)
    → (end : List (List ℕ))
    → AddsAt walk left (flat_map member_leaves (map leaves_in (drop (i + 1) members))) after end
    → AddsAt walk top whole first end
member_added walk below_walk top front left below_front whole members i m name first before after low is named leads more same one goes end rest =
    let later : AddsAt walk front (flat_map member_leaves (map leaves_in (drop (i + 1) members))) after end =
    subst (λ f. AddsAt walk f (flat_map member_leaves (map leaves_in (drop (i + 1) members))) after end) same rest in
    goes end
    (subst (λ ms. AddsAt walk front (flat_map member_leaves (map leaves_in ms)) before end)
    (sym (next members i m low is))
    (adds_both walk front (member_leaves (leaves_in m)) _ before after end
    (adds_behind walk below_walk front below_front (Name m.name) (leaves m.value) before after
    (subst (λ n. Leads walk (Name n) below_walk) named leads) more one) later))

pub members_end : (walk : RuleWalk) (front : List ℕ) (members : List (Member Tree)) (i : ℕ)
    (terms : List (List ℕ)) → length members ≤ i
    → AddsAt walk front (flat_map member_leaves (map leaves_in (drop i members))) terms terms
members_end walk front members i terms high =
    subst (λ ms. AddsAt walk front (flat_map member_leaves (map leaves_in ms)) terms terms)
    (sym (drop_of_length-le members high)) (adds_none walk front terms)

pub members_added : (walk : RuleWalk) (front : List ℕ) (members all : List (Member Tree)) (a b : List (List ℕ))
    → members ≡ all → AddsAt walk front (flat_map member_leaves (map leaves_in members)) a b
    → AddsAt walk front (flat_map member_leaves (map leaves_in all)) a b
members_added walk front members all a b e adds =
    subst (λ ms. AddsAt walk front (flat_map member_leaves (map leaves_in ms)) a b) e adds

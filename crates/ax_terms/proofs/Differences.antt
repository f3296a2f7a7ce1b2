-- From what differs of the leaves of two documents to what differs of their terms.
use Rattle.std.proofs.Common.{◌≡◌, ℕ, List, [], ◌∷◌, ◌++◌, map, sym, ap, ◌∙◌, subst, inl, inr, ⊎_elim}
use Rattle.std.proofs.lemmas.Cmp.{tied_itself, nat_list_cmp_total}
use Rattle.std.proofs.lemmas.List.Elements.{Contains-append_left, Contains-append_right, Contains-append_cases}
use Rattle.std.specs.List.{Contains}
use Rattle.std.specs.Prelude.{◌↔◌, ◌⊎◌}
use Rattle.std.specs.declared.cmp.Ordering.TheVariants.{Equal}
use Rattle.ax_tree.specs.declared.tree.Tree.{Tree}
use Rattle.ax_mean.specs.declared.query.Order.{Order}
use Rattle.ax_mean.specs.declared.value.Value.TheVariants.{Defined}
use Rattle.ax_term.specs.CutValues.{cut_of}
use Rattle.ax_term.specs.TermBytes.{path_bytes, value_bytes}
use Rattle.ax_term.specs.TermOrder.{order_of_bytes, order_of_paths}
use Rattle.ax_term.proofs.InOrder.{decides_paths}
use Rattle.ax_term.proofs.OneTerm.{both_equal, one_path}
use Rattle.ax_policy.specs.declared.policy.Policy.{Policy}
use Rattle.ax_policy.specs.declared.walk.RuleWalk.{RuleWalk}
use Rattle.ax_policy.specs.Ordering.{offered}
use Rattle.ax_policy.specs.Walking.{IsAt}
use Rattle.ax_terms.specs.Adding.{AddsAt, HasCovered}
use Rattle.ax_terms.specs.Differing.{AreDiffering, ArePlainDiffering, DiffersAt, IsFree}
use Rattle.ax_terms.specs.Leaves.{Leaf, leaves}
use Rattle.ax_terms.specs.TermsOf.{HasComposite, HasPlain, HasTerm, composite_term_of, leaf_term}
use Rattle.ax_terms.proofs.Sequences.{contains_map, from_map, none_in_nil}

-- ---- leaves of one term have one path

pub one_leaf_path : (a b : Leaf) → leaf_term a ≡ leaf_term b → a.path ≡ b.path
one_leaf_path a b e =
    let v : List ℕ = value_bytes (cut_of (Defined a.tree)) in
    let w : List ℕ = value_bytes (cut_of (Defined b.tree)) in
    let level : order_of_bytes (path_bytes a.path ++ v) (path_bytes b.path ++ w) ≡ Equal =
    ap (order_of_bytes (leaf_term a)) (sym e) ∙ tied_itself nat_list_cmp_total (leaf_term a) in
    one_path a.path b.path
    (both_equal (order_of_paths a.path b.path) (order_of_bytes v w)
    (sym ((decides_paths a.path b.path).so v w) ∙ level)).0

-- ---- the terms of leaves

-- at the top, where no terms were before
abbrev IsJust : Policy → List Leaf → List (List ℕ) → Type 0
IsJust policy given terms = (bytes : List ℕ) → Contains terms bytes ↔ HasCovered policy [] given bytes

just : (walk : RuleWalk) (policy : Policy) (front : List ℕ) (given : List Leaf) (terms : List (List ℕ))
    → IsAt walk policy [] → front ≡ 2 ∷ [] → AddsAt walk front given [] terms → IsJust policy given terms
just walk policy front given terms at f adds bytes =
    let p = adds.so policy [] at f bytes in (
      (λ h. ⊎_elim (λ k. absurd (none_in_nil bytes k)) (λ k. k) (p.0 h)),
      (λ h. p.1 (inr h)),
    )

has_plain : (policy : Policy) (given : Tree) (some : List Leaf) (terms : List (List ℕ))
    → ((leaf : Leaf) → Contains some leaf → Contains (leaves given) leaf) → IsJust policy some terms
    → (bytes : List ℕ) → Contains terms bytes → HasPlain policy given bytes
has_plain policy given some terms are is bytes h =
    let k = (is bytes).0 h in (k.0, are k.0 k.1, k.2, k.3)

stays_plain : (policy : Policy) (old new : Tree) (going coming : List Leaf) (gone come : List (List ℕ))
    → ((leaf : Leaf) → Contains (leaves old) leaf
    → Contains going leaf ⊎ (Contains (leaves new) leaf × IsFree leaf.path coming))
    → IsJust policy going gone → IsJust policy coming come
    → (bytes : List ℕ) → HasPlain policy old bytes → (Contains gone bytes → ⊥)
    → HasPlain policy new bytes × (Contains come bytes → ⊥)
stays_plain policy old new going coming gone come stay is_gone is_come bytes h none =
    ⊎_elim
    (λ (k : Contains going h.0). absurd (none ((is_gone bytes).1 (h.0, k, h.2, h.3))))
    (λ (k : Contains (leaves new) h.0 × IsFree h.0.path coming). (
      (h.0, k.0, h.2, h.3),
      (λ (there : Contains come bytes).
          let m = (is_come bytes).0 there in
          k.1 m.0 m.1 (one_leaf_path m.0 h.0 (sym m.3 ∙ h.3))),
    ))
    (stay h.0 h.1)

pub plain_differ : (walk : RuleWalk) (policy : Policy) (old new : Tree) (front front_before : List ℕ)
    (gone gone_before come come_before : List (List ℕ)) → IsAt walk policy [] → front ≡ front_before ++ 2 ∷ []
    → front_before ≡ []
    → gone_before ≡ [] → come_before ≡ []
    → DiffersAt walk front (leaves old) (leaves new) gone_before gone come_before come
    → ArePlainDiffering policy old new gone come
plain_differ walk policy old new front front_before gone gone_before come come_before at put no_front no_gone no_come differs =
    let f : front ≡ 2 ∷ [] = put ∙ ap (λ bs. bs ++ 2 ∷ []) no_front in
    let is_gone : IsJust policy differs.going gone =
    just walk policy front differs.going gone at f
    (subst (λ ts. AddsAt walk front differs.going ts gone) no_gone differs.gone_more) in
    let is_come : IsJust policy differs.coming come =
    just walk policy front differs.coming come at f
    (subst (λ ts. AddsAt walk front differs.coming ts come) no_come differs.come_more) in
    record {
      gone_are = has_plain policy old differs.going gone differs.passed.going_are is_gone;
      come_are = has_plain policy new differs.coming come differs.passed.coming_are is_come;
      old_stay =
          stays_plain policy old new differs.going differs.coming gone come differs.passed.old_stay is_gone is_come;
      new_stay =
          stays_plain policy new old differs.coming differs.going come gone differs.passed.new_stay is_come is_gone;
    }

-- ---- the terms of composites behind them

has_all : (policy : Policy) (given : Tree) (plain all : List (List ℕ))
    → ((bytes : List ℕ) → Contains plain bytes → HasPlain policy given bytes)
    → all ≡ plain ++ map (composite_term_of given) (offered policy)
    → (bytes : List ℕ) → Contains all bytes → HasTerm policy given bytes
has_all policy given plain all are e bytes h =
    ⊎_elim (λ k. inl (are bytes k))
    (λ k. let x = from_map (composite_term_of given) (offered policy) bytes k in inr (x.0, x.1, sym x.2))
    (Contains-append_cases plain _ bytes (subst (λ ts. Contains ts bytes) e h))

-- no leaf has the term of a composite
other_family : (policy : Policy) (given : Tree) (leaf : Leaf) (composite : List Order)
    → leaf_term leaf ≡ composite_term_of given composite → ⊥
other_family policy given leaf composite e = absurd (let f : ⊥ = cc in f)

stays_all : (policy : Policy) (old new : Tree) (gone gone_all come come_all : List (List ℕ))
    → ((bytes : List ℕ) → HasPlain policy old bytes → (Contains gone bytes → ⊥)
    → HasPlain policy new bytes × (Contains come bytes → ⊥))
    → gone_all ≡ gone ++ map (composite_term_of old) (offered policy)
    → come_all ≡ come ++ map (composite_term_of new) (offered policy)
    → (bytes : List ℕ) → HasTerm policy old bytes → (Contains gone_all bytes → ⊥)
    → HasTerm policy new bytes × (Contains come_all bytes → ⊥)
stays_all policy old new gone gone_all come come_all stay e f bytes h none =
    ⊎_elim
    (λ (plain : HasPlain policy old bytes).
    let stays = stay bytes plain (λ k. none (subst (λ ts. Contains ts bytes) (sym e) (Contains-append_left gone _ bytes k))) in (
      inl stays.0,
      (λ (there : Contains come_all bytes).
          ⊎_elim (λ k. stays.1 k)
          (λ k.
          let x = from_map (composite_term_of new) (offered policy) bytes k in
          other_family policy new plain.0 x.0 (sym plain.3 ∙ sym x.2))
          (Contains-append_cases come _ bytes (subst (λ ts. Contains ts bytes) f there))),
    ))
    (λ (composite : HasComposite policy old bytes).
    absurd (none (subst (λ ts. Contains ts bytes) (sym e)
    (Contains-append_right gone _ bytes
    (subst (Contains (map (composite_term_of old) (offered policy))) (sym composite.2)
    (contains_map (composite_term_of old) (offered policy) composite.0 composite.1))))))
    h

pub all_differ : (policy : Policy) (old new : Tree) (gone gone_all come come_all : List (List ℕ))
    → ArePlainDiffering policy old new gone come
    → gone_all ≡ gone ++ map (composite_term_of old) (offered policy)
    → come_all ≡ come ++ map (composite_term_of new) (offered policy)
    → AreDiffering policy old new gone_all come_all
all_differ policy old new gone gone_all come come_all plain e f = record {
  gone_are = has_all policy old gone gone_all plain.gone_are e;
  come_are = has_all policy new come come_all plain.come_are f;
  old_stay = stays_all policy old new gone gone_all come come_all plain.old_stay e f;
  new_stay = stays_all policy new old come come_all gone gone_all plain.new_stay f e;
}

-- ---- in another order

pub still_differ : (gone gone_new come come_new : List (List ℕ))
    → ((bytes : List ℕ) → Contains gone_new bytes ↔ Contains gone bytes)
    → ((bytes : List ℕ) → Contains come_new bytes ↔ Contains come bytes)
    → (policy : Policy) (old new : Tree) → AreDiffering policy old new gone come
    → AreDiffering policy old new gone_new come_new
still_differ gone gone_new come come_new same_gone same_come policy old new are = record {
  gone_are = λ bytes h. are.gone_are bytes ((same_gone bytes).0 h);
  come_are = λ bytes h. are.come_are bytes ((same_come bytes).0 h);
  old_stay = λ bytes h none.
      let stays = are.old_stay bytes h (λ k. none ((same_gone bytes).1 k)) in
      (stays.0, (λ k. stays.1 ((same_come bytes).0 k)));
  new_stay = λ bytes h none.
      let stays = are.new_stay bytes h (λ k. none ((same_come bytes).1 k)) in
      (stays.0, (λ k. stays.1 ((same_gone bytes).0 k)));
}

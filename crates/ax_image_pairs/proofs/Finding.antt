-- Which pairs of a container's index have a number, and which have the term of an id.
use Rattle.std.proofs.Common.{◌≡◌, ℕ, zero, suc, ◌<◌, List, [], ◌∷◌, true, false, cond, Option, Some, None, find, refl, sym, ap}
use Rattle.std.proofs.Common.{subst, ◌∙◌, ◌⊎◌, inl, inr, ⊎_elim, nat_eq, arith}
use Rattle.std.specs.Prelude.{◌↔◌, option_map}
use Rattle.std.specs.List.{AllByRecursion, Contains}
use Rattle.std.proofs.lemmas.Bool.{eq-eqb, eqb-true}
use Rattle.ax_tree.specs.declared.tree.Tree.{Tree}
use Rattle.ax_pair.specs.declared.pair.Pair.{Pair}
use Rattle.ax_policy.specs.declared.policy.Policy.{Policy}
use Rattle.ax_term.specs.TermBytes.{term_bytes}
use Rattle.ax_term.specs.Terms.{Term}
use Rattle.ax_terms.specs.TermsOf.{HasTerm}
use Rattle.ax_area.specs.Contents.{Contents}
use Rattle.ax_pages.specs.Contents.{TermPage}
use Rattle.ax_pairs.specs.Index.{IsIndex}
use Rattle.ax_pairs.specs.PairSets.{PairSet}
use Rattle.ax_pairs.proofs.Sets.{one_set}
use Rattle.ax_container.specs.Container.{Container, Entry, IsSound, IsStored, NumbersRise, entry_at, entry_of, has_id, has_number}
use Rattle.ax_container.proofs.ByNumber.{AreById, below_apart, by_number, number_is, same_some}
use Rattle.ax_container.proofs.Ids.{bytes_eq-self, same_from_eq}
use Rattle.ax_container.proofs.Writing.{entry_there}
use Rattle.ax_keep.specs.Owned.{HasIndexTerm, Owns}
use Rattle.ax_image_pairs.specs.Pairs.{HasPair, HasTermOf}
use Rattle.ax_image_pairs.specs.Indexed.{ContentsHoldAll, HoldPairs}
use Rattle.ax_image_pairs.specs.Found.{HasNumber, id_pair, number_in}

-- whatever set the pages hold has the pairs of the container
pub pairs_held : (pages : List TermPage) (container : Container) (set : PairSet) → HoldPairs pages container
    → IsIndex pages set → (pair : Pair) → (set pair ≡ true) ↔ HasPair container pair
pairs_held pages container set holds is pair =
    let same : holds.set pair ≡ set pair = one_set pages holds.set set holds.is is pair in
    ((λ h. (holds.exact pair).0 (same ∙ h)), (λ h. sym same ∙ (holds.exact pair).1 h))

-- ---- entries of a list, and of a number

first_or_rest : (x : Entry) (es : List Entry) (e : Entry) → Contains (x ∷ es) e → (x ≡ e) ⊎ Contains es e
first_or_rest x es e (zero, less, is) = inl is
first_or_rest x es e (suc k, less, is) = inr (k, omega (arith, less), is)

above : (es : List Entry) (before next : ℕ) (e : Entry) → NumbersRise before es next → Contains es e → before < e.number
above [] before next e rise (k, less, is) = absurd (omega (arith, less))
above (x ∷ es) before next e rise there =
    ⊎_elim
    (λ (same : x ≡ e). subst (λ (y : Entry). before < y.number) same rise.0)
    (λ (later : Contains es e). let more : x.number < e.number = above es x.number next e rise.1 later in omega (arith, rise.0))
    (first_or_rest x es e there)

found_at : (es : List Entry) (before next : ℕ) (e : Entry) → NumbersRise before es next → Contains es e
    → entry_at e.number es ≡ Some e
found_at [] before next e rise (k, less, is) = absurd (omega (arith, less))
found_at (x ∷ es) before next e rise there =
    ⊎_elim
    (λ (same : x ≡ e).
    ap (λ b. cond b (Some x) (entry_at e.number es)) (eq-eqb x.number e.number (ap (λ (y : Entry). y.number) same))
    ∙ ap (λ (y : Entry). Some y) same)
    (λ (later : Contains es e).
    ap (λ b. cond b (Some x) (entry_at e.number es)) (below_apart x.number e.number (above es x.number next e rise.1 later))
    ∙ found_at es x.number next e rise.1 later)
    (first_or_rest x es e there)

there_by_number : (n : ℕ) (es : List Entry) (e : Entry) → entry_at n es ≡ Some e → Contains es e
there_by_number n [] e is = absurd (cc)
there_by_number n (x ∷ es) e is =
    elim (nat_eq x.number n) as (λ c. cond c (Some x) (entry_at n es) ≡ Some e → Contains (x ∷ es) e) [
      | true ↦ λ at. (zero, omega arith, same_some x e at)
      | false ↦ λ at. let later : Contains es e = there_by_number n es e at in
          (suc later.0, omega (arith, later.1), later.2)
    ] is

-- ---- the pairs of all documents

module _ (container : Container) (set : PairSet) (exact : (pair : Pair) → (set pair ≡ true) ↔ HasPair container pair) where
  pub every_there : IsSound container → (entry : Entry) (pair : Pair) → Contains container.entries entry
      → Owns entry.number entry.indexed_by (Some entry.tree) pair → set pair ≡ true
  every_there sound entry pair there owned =
      let at : entry_at pair.number container.entries ≡ Some entry =
      ap (λ n. entry_at n container.entries) owned.0
      ∙ found_at container.entries 0 container.next_number entry sound.numbers there in
      (exact pair).1 (subst (λ o. HasTermOf o pair.term) (sym at) owned.1)

  owner_of : (pair : Pair) (o : Option Entry) → entry_at pair.number container.entries ≡ o → HasTermOf o pair.term
      → (entry : Entry) × Contains container.entries entry × Owns entry.number entry.indexed_by (Some entry.tree) pair
  owner_of pair None is has = absurd has
  owner_of pair (Some entry) is has = (
    entry,
    there_by_number pair.number container.entries entry is,
    (sym (number_is pair.number container.entries entry is), has),
  )

  pub owner : (pair : Pair) → set pair ≡ true
      → (entry : Entry) × Contains container.entries entry × Owns entry.number entry.indexed_by (Some entry.tree) pair
  owner pair there = owner_of pair (entry_at pair.number container.entries) refl ((exact pair).0 there)

-- ---- the pairs of a number

module _ (container : Container) (set : PairSet) (exact : (pair : Pair) → (set pair ≡ true) ↔ HasPair container pair)
    (number : ℕ) where
  pub pairs_of_entry : (entry : Entry) → entry_at number container.entries ≡ Some entry → (pair : Pair)
      → ((set pair ≡ true) × (pair.number ≡ number)) ↔ Owns number entry.indexed_by (Some entry.tree) pair
  pairs_of_entry entry is pair = (
    (λ h.
        let at : entry_at pair.number container.entries ≡ Some entry =
        ap (λ n. entry_at n container.entries) h.1 ∙ is in
        (h.1, subst (λ o. HasTermOf o pair.term) at ((exact pair).0 h.0))),
    (λ h.
        let at : entry_at pair.number container.entries ≡ Some entry =
        ap (λ n. entry_at n container.entries) h.0 ∙ is in
        ((exact pair).1 (subst (λ o. HasTermOf o pair.term) (sym at) h.1), h.0)),
  )

  pub pairs_of_none : entry_at number container.entries ≡ None → (pair : Pair) → set pair ≡ true → pair.number ≡ number → ⊥
  pairs_of_none is pair there same =
      let at : entry_at pair.number container.entries ≡ None = ap (λ n. entry_at n container.entries) same ∙ is in
      subst (λ o. HasTermOf o pair.term) at ((exact pair).0 there)

-- ---- the term of an id is no other term, and of no other id

same_id : (a b : List ℕ) → term_bytes (Term.Id a) ≡ term_bytes (Term.Id b) → a ≡ b
same_id a b e = cc

no_other : (policy : Policy) (given : Tree) (id : List ℕ) → HasTerm policy given (term_bytes (Term.Id id)) → ⊥
no_other policy given id (inl (leaf, there, covers, is)) = absurd (cc)
no_other policy given id (inr (composite, there, is)) = absurd (cc)

of_entry : (entry : Entry) (id : List ℕ) → IsStored entry
    → HasIndexTerm entry.indexed_by entry.tree (term_bytes (Term.Id id)) → entry.id ≡ id
of_entry entry id stored (inl is) =
    same_some entry.id is.id (sym stored.own_id ∙ is.own) ∙ sym (same_id id is.id is.is)
of_entry entry id stored (inr other) = absurd (no_other entry.indexed_by entry.tree id other)

-- ---- entries by number and by id

all_at : (P : Entry → Type 0) (n : ℕ) (es : List Entry) (found : Entry) → entry_at n es ≡ Some found
    → AllByRecursion P es → P found
all_at P n [] found is all = absurd (cc)
all_at P n (e ∷ es) found is all =
    elim (nat_eq e.number n) as (λ c. cond c (Some e) (entry_at n es) ≡ Some found → P found) [
      | true ↦ λ at. subst P (same_some e found at) all.0
      | false ↦ λ at. all_at P n es found at all.1
    ] is

found_has : (id : List ℕ) (es : List Entry) (found : Entry) → find (has_id id) es ≡ Some found → has_id id found ≡ true
found_has id [] found is = absurd (cc)
found_has id (e ∷ es) found is =
    elim (has_id id e) as (λ c. has_id id e ≡ c → cond c (Some e) (find (has_id id) es) ≡ Some found → has_id id found ≡ true) [
      | true ↦ λ own at. ap (has_id id) (sym (same_some e found at)) ∙ own
      | false ↦ λ other at. found_has id es found at
    ] refl is

-- where an entry of a number has the id, an entry of the id is found
of_id : (id : List ℕ) (n : ℕ) (es : List Entry) (found : Entry) → entry_at n es ≡ Some found → found.id ≡ id
    → (e : Entry) × (find (has_id id) es ≡ Some e)
of_id id n [] found is own = absurd (cc)
of_id id n (e ∷ es) found is own =
    elim (has_id id e) as (λ c. has_id id e ≡ c → (x : Entry) × (cond c (Some e) (find (has_id id) es) ≡ Some x)) [
      | true ↦ λ _. (e, refl)
      | false ↦ λ differs.
          elim (nat_eq e.number n) as
          (λ c. cond c (Some e) (entry_at n es) ≡ Some found → (x : Entry) × (find (has_id id) es ≡ Some x)) [
            | true ↦ λ at.
                let same : e.id ≡ id = ap (λ (x : Entry). x.id) (same_some e found at) ∙ own in
                let is_own : has_id id e ≡ true = ap (λ i. has_id i e) (sym same) ∙ bytes_eq-self e.id in
                absurd (cc)
            | false ↦ λ at. of_id id n es found at own
          ] is
    ] refl

-- ---- the pairs of an id's term

module _ (container : Container) (sound : IsSound container) (set : PairSet)
    (exact : (pair : Pair) → (set pair ≡ true) ↔ HasPair container pair) (id : List ℕ) where
  abbrev id_term : List ℕ
  id_term = term_bytes (Term.Id id)

  with_id : (n : ℕ) (o : Option Entry) → entry_at n container.entries ≡ o → HasTermOf o id_term
      → (e : Entry) × (entry_at n container.entries ≡ Some e) × (e.id ≡ id)
  with_id n None is has = absurd has
  with_id n (Some e) is has = (e, is, of_entry e id (all_at IsStored n container.entries e is sound.stored) has)

  -- a number of a pair with the term is that of an entry of the id
  entry_of_pair : (n : ℕ) → set (id_pair id n) ≡ true → (e : Entry) × (entry_of id container ≡ Some e) × (e.number ≡ n)
  entry_of_pair n there =
      let at = with_id n (entry_at n container.entries) refl ((exact (id_pair id n)).0 there) in
      let found = of_id id n container.entries at.0 at.1 at.2 in
      let by : AreById id found.0.number container.entries =
      by_number id container.entries 0 container.next_number found.0 sound.numbers sound.distinct found.1 in
      let own : has_id id at.0 ≡ true = ap (λ i. has_id i at.0) (sym at.2) ∙ bytes_eq-self at.0.id in
      let alike : has_id id at.0 ≡ has_number found.0.number at.0 =
      all_at (λ (x : Entry). has_id id x ≡ has_number found.0.number x) n container.entries at.0 at.1 by in
      let same : at.0.number ≡ found.0.number = eqb-true at.0.number found.0.number (sym alike ∙ own) in
      (found.0, found.1, sym same ∙ number_is n container.entries at.0 at.1)

  pair_of_entry : (e : Entry) → entry_of id container ≡ Some e → set (id_pair id e.number) ≡ true
  pair_of_entry e is =
      let here : entry_at e.number container.entries ≡ Some e = entry_there container id e sound is in
      let stored : IsStored e = all_at IsStored e.number container.entries e here sound.stored in
      let same : e.id ≡ id = same_from_eq e.id id (found_has id container.entries e is) in
      let has : HasIndexTerm e.indexed_by e.tree id_term =
      inl (record { id = id; own = stored.own_id ∙ ap (λ i. Some i) same; is = refl }) in
      (exact (id_pair id e.number)).1 (subst (λ o. HasTermOf o id_term) (sym here) has)

  by_entry : (n : ℕ) (o : Option Entry) → entry_of id container ≡ o
      → option_map (λ (entry : Entry). entry.number) o ≡ Some n → set (id_pair id n) ≡ true
  by_entry n None is at = absurd (cc)
  by_entry n (Some e) is at =
      subst (λ m. set (id_pair id m) ≡ true) (same_some e.number n at) (pair_of_entry e is)

  pub number_exact : (n : ℕ) → (set (id_pair id n) ≡ true) ↔ (number_in id container ≡ Some n)
  number_exact n = (
    (λ there.
        let of = entry_of_pair n there in
        ap (option_map (λ (entry : Entry). entry.number)) of.1 ∙ ap (λ m. Some m) of.2),
    (λ at. by_entry n (entry_of id container) refl at),
  )

  none_found : (o : Option Entry) → entry_of id container ≡ o → ((n : ℕ) → set (id_pair id n) ≡ false)
      → None ≡ option_map (λ (entry : Entry). entry.number) o
  none_found None is none = refl
  none_found (Some e) is none =
      let there : set (id_pair id e.number) ≡ true = pair_of_entry e is in
      let gone : set (id_pair id e.number) ≡ false = none e.number in
      absurd (cc)

  pub number_found : (found : Option ℕ) → HasNumber set id found → found ≡ number_in id container
  number_found None none = none_found (entry_of id container) refl none
  number_found (Some n) there = sym ((number_exact n).0 there)

-- the same of contents that hold the container
pub number_by_contents : (contents : Contents) (container : Container) (set : PairSet) (id : List ℕ) (found : Option ℕ)
    → ContentsHoldAll contents container → IsIndex contents.terms set → HasNumber set id found → found ≡ number_in id container
number_by_contents contents container set id found hold is =
    number_found container hold.documents.show.sound set (pairs_held contents.terms container set hold.pairs is) id found

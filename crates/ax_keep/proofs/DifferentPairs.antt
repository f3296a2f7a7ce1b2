-- The pairs by which two documents with one number differ, from the terms by which they do.
use Rattle.std.proofs.Common.{◌≡◌, ℕ, List, [], ◌∷◌, ◌++◌, refl, ap, ◌∙◌, sym, subst, Bool, true, false, ⊎_elim, ◌⊎◌, inl, inr, Option, Some, None}
use Rattle.std.specs.Prelude.{IsSome}
use Rattle.std.specs.List.{Contains}
use Rattle.ax_tree.specs.Rising.{is_rising}
use Rattle.ax_tree.specs.declared.tree.Tree.{Tree}
use Rattle.ax_tree.specs.Document.{document_id}
use Rattle.ax_pair.specs.declared.pair.Pair.{Pair}
use Rattle.ax_pair.specs.Order.{Rise}
use Rattle.ax_delta.specs.declared.change.Change.{Change}
use Rattle.ax_delta.specs.Said.{has}
use Rattle.ax_delta.proofs.SamePair.{the_pair, true_or_false}
use Rattle.ax_policy.specs.declared.policy.Policy.{Policy}
use Rattle.ax_term.specs.TermBytes.{term_bytes}
use Rattle.ax_term.specs.Terms.{Term}
use Rattle.ax_terms.specs.Differing.{AreDiffering}
use Rattle.ax_terms.specs.TermsOf.{HasTerm}
use Rattle.ax_terms.proofs.TermLists.{term_list, are_terms}
use Rattle.ax_keep.specs.Different.{AreDifferent, id_pairs}
use Rattle.ax_keep.specs.Exchanges.{IsIn, IsNetted, Exchanges}
use Rattle.ax_keep.specs.Owned.{IsIdTerm, Owns, with_number}
use Rattle.ax_keep.proofs.Owning.{begins_later, document_owns, document_pairs, has_cases, has_first, has_later, rises_behind, rises_on, with_number_has}

-- ---- a pair of a document, or none

owns_or_not : (number : ℕ) (policy : Policy) (given : Tree) → IsSome (document_id given) → (pair : Pair)
    → Owns number policy (Some given) pair ⊎ (Owns number policy (Some given) pair → ⊥)
owns_or_not number policy given is pair = by_id (document_id given) refl is
  where
    by_id : (o : Option (List ℕ)) → document_id given ≡ o → IsSome o
        → Owns number policy (Some given) pair ⊎ (Owns number policy (Some given) pair → ⊥)
    by_id None own h = absurd (cc)
    by_id (Some id) own h =
        let told = document_owns policy given number id (term_list policy given) own (are_terms policy given) pair in
        ⊎_elim (λ k. inl (told.0 k))
        (λ k. inr (λ owns. absurd (let t : has pair (document_pairs number id (term_list policy given)) ≡ true = told.1 owns in let f : ⊥ = cc in f)))
        (true_or_false (has pair (document_pairs number id (term_list policy given))))

-- ---- the lists

-- the term of an id is none of a document's others
no_id : (policy : Policy) (given : Tree) (bytes id : List ℕ) → HasTerm policy given bytes → bytes ≡ term_bytes (Term.Id id) → ⊥
no_id policy given bytes id (inl (leaf, there, covers, is)) e = absurd (let f : ⊥ = cc in f)
no_id policy given bytes id (inr (composite, there, is)) e = absurd (let f : ⊥ = cc in f)

numbers_rise : (number : ℕ) (terms : List (List ℕ)) → is_rising terms ≡ true → Rise (with_number number terms)
numbers_rise number [] h = tt
numbers_rise number (t ∷ terms) h = rises_on t number terms h

pairs_rise : (number : ℕ) (policy : Policy) (given : Tree) (id : List ℕ) (same : Bool) (terms : List (List ℕ))
    → ((bytes : List ℕ) → Contains terms bytes → HasTerm policy given bytes) → is_rising terms ≡ true
    → Rise (id_pairs same id number ++ with_number number terms)
pairs_rise number policy given id true terms are h = numbers_rise number terms h
pairs_rise number policy given id false terms are h =
    rises_behind (term_bytes (Term.Id id)) number terms (λ t there. begins_later policy given t id (are t there)) h

terms_are : (number : ℕ) (policy : Policy) (given : Tree) (terms : List (List ℕ))
    → ((bytes : List ℕ) → Contains terms bytes → HasTerm policy given bytes)
    → (x : Pair) → IsIn (with_number number terms) x → Owns number policy (Some given) x
terms_are number policy given terms are x h =
    let k = (with_number_has number terms x).0 h in (k.0, inr (are x.term k.1))

pairs_are : (number : ℕ) (policy : Policy) (given : Tree) (id : List ℕ) (same : Bool) (terms : List (List ℕ))
    → document_id given ≡ Some id → ((bytes : List ℕ) → Contains terms bytes → HasTerm policy given bytes)
    → (x : Pair) → IsIn (id_pairs same id number ++ with_number number terms) x → Owns number policy (Some given) x
pairs_are number policy given id true terms own are x h = terms_are number policy given terms are x h
pairs_are number policy given id false terms own are x h =
    ⊎_elim
    (λ (e : the_pair (term_bytes (Term.Id id)) number ≡ x).
    (ap (λ (p : Pair). p.number) (sym e), inl (record { id = id; own = own; is = ap (λ (p : Pair). p.term) (sym e) })))
    (λ (k : has x (with_number number terms) ≡ true). terms_are number policy given terms are x k)
    (has_cases (the_pair (term_bytes (Term.Id id)) number) x (with_number number terms) h)

-- a pair of a term is in the list where the term is in the terms, whatever becomes of the id
term_there : (number : ℕ) (id : List ℕ) (same : Bool) (terms : List (List ℕ)) (x : Pair) → x.number ≡ number
    → Contains terms x.term → IsIn (id_pairs same id number ++ with_number number terms) x
term_there number id true terms x e there = (with_number_has number terms x).1 (e, there)
term_there number id false terms x e there =
    has_later (the_pair (term_bytes (Term.Id id)) number) x (with_number number terms) ((with_number_has number terms x).1 (e, there))

-- and only there, where the term is none of an id
term_in : (number : ℕ) (policy : Policy) (given : Tree) (id : List ℕ) (same : Bool) (terms : List (List ℕ)) (x : Pair)
    → HasTerm policy given x.term → IsIn (id_pairs same id number ++ with_number number terms) x → Contains terms x.term
term_in number policy given id true terms x has_it h = ((with_number_has number terms x).0 h).1
term_in number policy given id false terms x has_it h =
    ⊎_elim
    (λ (e : the_pair (term_bytes (Term.Id id)) number ≡ x).
    absurd (no_id policy given x.term id has_it (ap (λ (p : Pair). p.term) (sym e))))
    (λ (k : has x (with_number number terms) ≡ true). ((with_number_has number terms x).0 k).1)
    (has_cases (the_pair (term_bytes (Term.Id id)) number) x (with_number number terms) h)

module _ (number : ℕ) (policy : Policy) (old new : Tree) (old_id new_id : List ℕ) (same : Bool)
    (gone come : List (List ℕ)) (old_own : document_id old ≡ Some old_id) (new_own : document_id new ≡ Some new_id)
    (alike : same ≡ true → document_id old ≡ document_id new)
    (stay : (bytes : List ℕ) → HasTerm policy old bytes → (Contains gone bytes → ⊥) → HasTerm policy new bytes × (Contains come bytes → ⊥))
    (come_are : (bytes : List ℕ) → Contains come bytes → HasTerm policy new bytes) where
  abbrev old_pairs : List Pair
  old_pairs = id_pairs same old_id number ++ with_number number gone

  abbrev new_pairs : List Pair
  new_pairs = id_pairs same new_id number ++ with_number number come

  -- the pair of the id stays where both documents have one id
  id_stays : (b : Bool) → same ≡ b → (x : Pair) → x.number ≡ number → IsIdTerm old x.term
      → (IsIn (id_pairs b old_id number ++ with_number number gone) x → ⊥)
      → Owns number policy (Some new) x × (IsIn (id_pairs b new_id number ++ with_number number come) x → ⊥)
  id_stays true is x e id none = (
    (e, inl (record { id = id.id; own = sym (alike is) ∙ id.own; is = id.is })),
    (λ there. no_id policy new x.term id.id (come_are x.term ((with_number_has number come x).0 there).1) id.is),
  )
  id_stays false is x e id none =
      absurd (none
      (has_first (the_pair (term_bytes (Term.Id old_id)) number) x (with_number number gone)
      (λ i. record {
        term = (ap (λ i. term_bytes (Term.Id i)) (same_some old_id id.id (sym old_own ∙ id.own)) ∙ sym id.is) i;
        number = sym e i;
      })))
    where
      same_some : (x y : List ℕ) → Some x ≡ Some y → x ≡ y
      same_some x y e = cc

  pairs_stay : (x : Pair) → Owns number policy (Some old) x → (IsIn old_pairs x → ⊥)
      → Owns number policy (Some new) x × (IsIn new_pairs x → ⊥)
  pairs_stay x owns none =
      ⊎_elim
      (λ (id : IsIdTerm old x.term). id_stays same refl x owns.0 id none)
      (λ (term : HasTerm policy old x.term).
      let stays = stay x.term term (λ k. none (term_there number old_id same gone x owns.0 k)) in
      ((owns.0, inr stays.0), (λ there. stays.1 (term_in number policy new new_id same come x stays.0 there))))
      owns.1

pub are_different : (number : ℕ) (policy : Policy) (old new : Tree) (same : Bool) (gone come : List (List ℕ)) (before after : List Pair)
    → IsSome (document_id old) → IsSome (document_id new) → (same ≡ true → document_id old ≡ document_id new)
    → is_rising gone ≡ true → is_rising come ≡ true → AreDiffering policy old new gone come
    → ((id : List ℕ) → document_id old ≡ Some id → before ≡ id_pairs same id number ++ with_number number gone)
    → ((id : List ℕ) → document_id new ≡ Some id → after ≡ id_pairs same id number ++ with_number number come)
    → AreDifferent number policy old new before after
are_different number policy old new same gone come before after old_is new_is alike gone_rise come_rise differ made_before made_after =
    by_ids (document_id old) (document_id new) refl refl old_is new_is
  where
    by_ids : (o p : Option (List ℕ)) → document_id old ≡ o → document_id new ≡ p → IsSome o → IsSome p
        → AreDifferent number policy old new before after
    by_ids None p own own_new h k = absurd (cc)
    by_ids (Some id) None own own_new h k = absurd (cc)
    by_ids (Some id) (Some new_id) own own_new h k =
        subst (λ bs. AreDifferent number policy old new bs after) (sym (made_before id own))
        (subst (λ as_made. AreDifferent number policy old new (id_pairs same id number ++ with_number number gone) as_made)
        (sym (made_after new_id own_new))
        (record {
          before_rise = pairs_rise number policy old id same gone differ.gone_are gone_rise;
          after_rise = pairs_rise number policy new new_id same come differ.come_are come_rise;
          before_are = pairs_are number policy old id same gone own differ.gone_are;
          after_are = pairs_are number policy new new_id same come own_new differ.come_are;
          old_stay = pairs_stay number policy old new id new_id same gone come own own_new alike differ.old_stay differ.come_are;
          new_stay = pairs_stay number policy new old new_id id same come gone own_new own (λ e. sym (alike e)) differ.new_stay differ.gone_are;
        }))

-- ---- what exchanges these pairs exchanges all

netted_of_all : (Old New : Pair → Type 0) (before after : List Pair)
    → ((p : Pair) → IsIn before p → Old p) → ((p : Pair) → IsIn after p → New p)
    → ((p : Pair) → Old p → (IsIn before p → ⊥) → New p × (IsIn after p → ⊥))
    → ((p : Pair) → New p → (IsIn after p → ⊥) → Old p × (IsIn before p → ⊥))
    → (add : Bool) (p : Pair) → IsNetted (IsIn before) (IsIn after) add p → IsNetted Old New add p
netted_of_all Old New before after before_are after_are old_stay new_stay true p h =
    (after_are p h.0, (λ o. (old_stay p o h.1).1 h.0))
netted_of_all Old New before after before_are after_are old_stay new_stay false p h =
    (before_are p h.0, (λ n. (new_stay p n h.1).1 h.0))

exchanges_all : (Old New : Pair → Type 0) (before after : List Pair) (changes : List Change)
    → ((p : Pair) → Old p ⊎ (Old p → ⊥))
    → ((p : Pair) → IsIn before p → Old p) → ((p : Pair) → IsIn after p → New p)
    → ((p : Pair) → Old p → (IsIn before p → ⊥) → New p × (IsIn after p → ⊥))
    → ((p : Pair) → New p → (IsIn after p → ⊥) → Old p × (IsIn before p → ⊥))
    → Exchanges (IsIn before) (IsIn after) changes → Exchanges Old New changes
exchanges_all Old New before after changes old_or_not before_are after_are old_stay new_stay e = record {
  rise = e.rise;
  made = λ set has_old p.
      let by = e.made set (λ q is. has_old q (before_are q is)) p in (
        (λ h.
            ⊎_elim (λ (n : IsIn after p). inl (after_are p n))
            (λ (k : (set p ≡ true) × (IsIn before p → ⊥)).
            ⊎_elim (λ (o : Old p). inl (old_stay p o k.1).0) (λ (no : Old p → ⊥). inr (k.0, no)) (old_or_not p))
            (by.0 h)),
        (λ h.
            by.1
            (⊎_elim
            (λ (n : New p).
            ⊎_elim (λ (there : has p after ≡ true). inl there)
            (λ (not_there : has p after ≡ false).
            let stays = new_stay p n (λ there. absurd (let f : ⊥ = cc in f)) in inr (has_old p stays.0, stays.1))
            (true_or_false (has p after)))
            (λ (k : (set p ≡ true) × (Old p → ⊥)). inr (k.0, (λ b. k.1 (before_are p b)))) h)),
      );
  netted = λ change there.
      netted_of_all Old New before after before_are after_are old_stay new_stay change.add change.pair
      (e.netted change there);
}

pub exchanges_documents : (number : ℕ) (policy : Policy) (old new : Tree) (before after : List Pair) (changes : List Change)
    → IsSome (document_id old) → AreDifferent number policy old new before after
    → Exchanges (IsIn before) (IsIn after) changes
    → Exchanges (Owns number policy (Some old)) (Owns number policy (Some new)) changes
exchanges_documents number policy old new before after changes is are e =
    exchanges_all (Owns number policy (Some old)) (Owns number policy (Some new)) before after changes
    (owns_or_not number policy old is) are.before_are are.after_are are.old_stay are.new_stay e

-- What term changes say of a pair is what their changes say.
use Rattle.std.proofs.Common.{◌≡◌, ℕ, List, [], ◌∷◌, ◌++◌, refl, ap, ◌∙◌, sym, Bool, true, false, cond, nat_eq, nat_lt, ⊎_elim, Option, Some, None}
use Rattle.std.proofs.lemmas.Cmp.{nat_list_cmp_total}
use Rattle.std.proofs.lemmas.Slice.Eq.{bytes_eq-Decides}
use Rattle.std.specs.Cmp.Lexicographic.{slice_cmp}
use Rattle.std.specs.Option.{option_or}
use Rattle.std.specs.Ordering.{nat_cmp}
use Rattle.std.specs.Str.{bytes_eq}
use Rattle.std.specs.declared.cmp.Ordering.TheVariants.{Less}
use Rattle.ax_pair.specs.declared.pair.Pair.{Pair}
use Rattle.ax_leaf.proofs.Searching.{apart_terms}
use Rattle.ax_leaf.proofs.Ordered.{differ}
use Rattle.ax_delta.specs.declared.change.Change.{Change}
use Rattle.ax_delta.specs.Changes.{TermChange, change_at, drops_with, add_among, changes_with, changes_of}
use Rattle.ax_delta.specs.Payload.{AreDisjoint, AreAfter, AreTermChanges}
use Rattle.ax_delta.specs.Said.{has_number, said_in, said_of, said_by}
use Rattle.ax_delta.proofs.Numbers.{no_longer_first, no_longer_second, not_in_first}
use Rattle.ax_delta.proofs.SamePair.{true_or_false, same_by_term, other_by_term}

-- ---- changes of another term say nothing

drops_of_other : (term drops : List ℕ) (more : List Change) (q : Pair) → (term ≡ q.term → ⊥) → said_by q (drops_with term drops ++ more) ≡ said_by q more
drops_of_other term [] more q h = refl
drops_of_other term (d ∷ drops) more q h = rw (other_by_term term d q h) (drops_of_other term drops more q h)

add_of_other : (term : List ℕ) (n : ℕ) (others : List ℕ → List Change) (drops : List ℕ) (more : List Change) (q : Pair) → (term ≡ q.term → ⊥)
    → ((ds : List ℕ) → said_by q (others ds ++ more) ≡ said_by q more) → said_by q (add_among term n others drops ++ more) ≡ said_by q more
add_of_other term n others [] more q h k = rw (other_by_term term n q h) (k [])
add_of_other term n others (d ∷ drops) more q h k =
    elim (nat_lt d n) as
    (λ b. said_by q (cond b (change_at false term d ∷ add_among term n others drops) (change_at true term n ∷ others (d ∷ drops)) ++ more) ≡ said_by q more) [
      | true ↦ rw (other_by_term term d q h) (add_of_other term n others drops more q h k)
      | false ↦ rw (other_by_term term n q h) (k (d ∷ drops))
    ]

pub with_other : (term adds drops : List ℕ) (more : List Change) (q : Pair) → (term ≡ q.term → ⊥)
    → said_by q (changes_with term adds drops ++ more) ≡ said_by q more
unfolding changes_with
with_other term [] drops more q h = drops_of_other term drops more q h
with_other term (n ∷ adds) drops more q h =
    add_of_other term n (changes_with term adds) drops more q h (λ ds. with_other term adds ds more q h)

-- ---- those of the same term say what its numbers say

drops_say : (term drops : List ℕ) (more : List Change) (q : Pair) → term ≡ q.term
    → said_by q (drops_with term drops ++ more) ≡ option_or (said_in q.number [] drops) (said_by q more)
drops_say term [] more q e = refl
drops_say term (d ∷ drops) more q e =
    rw (same_by_term term d q e)
    (elim (nat_eq d q.number) as
    (λ b. cond b (Some false) (said_by q (drops_with term drops ++ more))
    ≡ option_or (cond (cond b true (has_number q.number drops)) (Some false) None) (said_by q more)) [
      | true ↦ refl
      | false ↦ drops_say term drops more q e
    ])

-- a number that is dropped, and not added
dropped_here : (n m d : ℕ) (adds drops : List ℕ) → AreDisjoint (n ∷ adds) (d ∷ drops) → nat_eq d m ≡ true → said_in m (n ∷ adds) (d ∷ drops) ≡ Some false
dropped_here n m d adds drops h s =
    let there : has_number m (d ∷ drops) ≡ true = rw s refl in
    let none : has_number m (n ∷ adds) ≡ false = not_in_first m (n ∷ adds) (d ∷ drops) h there in
    rw (none, there) refl

dropped_later : (n m d : ℕ) (adds drops : List ℕ) → nat_eq d m ≡ false → said_in m (n ∷ adds) (d ∷ drops) ≡ said_in m (n ∷ adds) drops
dropped_later n m d adds drops s = rw s refl

add_says : (term : List ℕ) (n : ℕ) (adds : List ℕ) (others : List ℕ → List Change) (drops : List ℕ) (more : List Change) (q : Pair) → term ≡ q.term
    → AreDisjoint (n ∷ adds) drops
    → ((ds : List ℕ) → AreDisjoint adds ds → said_by q (others ds ++ more) ≡ option_or (said_in q.number adds ds) (said_by q more))
    → said_by q (add_among term n others drops ++ more) ≡ option_or (said_in q.number (n ∷ adds) drops) (said_by q more)
add_says term n adds others [] more q e h k =
    rw (same_by_term term n q e)
    (elim (nat_eq n q.number) as
    (λ b. cond b (Some true) (said_by q (others [] ++ more))
    ≡ option_or (cond (cond b true (has_number q.number adds)) (Some true) None) (said_by q more)) [
      | true ↦ refl
      | false ↦ k [] (no_longer_first n adds [] h)
    ])
add_says term n adds others (d ∷ drops) more q e h k =
    elim (nat_lt d n) as
    (λ b. said_by q (cond b (change_at false term d ∷ add_among term n others drops) (change_at true term n ∷ others (d ∷ drops)) ++ more)
    ≡ option_or (said_in q.number (n ∷ adds) (d ∷ drops)) (said_by q more)) [
      | true ↦ rw (same_by_term term d q e)
          (⊎_elim
          (λ (s : nat_eq d q.number ≡ true).
          ap (λ (b : Bool). cond b (Some false) (said_by q (add_among term n others drops ++ more))) s
          ∙ ap (λ (o : Option Bool). option_or o (said_by q more)) (sym (dropped_here n q.number d adds drops h s)))
          (λ (s : nat_eq d q.number ≡ false).
          ap (λ (b : Bool). cond b (Some false) (said_by q (add_among term n others drops ++ more))) s
          ∙ add_says term n adds others drops more q e (no_longer_second d (n ∷ adds) drops h) k
          ∙ ap (λ (o : Option Bool). option_or o (said_by q more)) (sym (dropped_later n q.number d adds drops s)))
          (true_or_false (nat_eq d q.number)))
      | false ↦ rw (same_by_term term n q e)
          (elim (nat_eq n q.number) as
          (λ b. cond b (Some true) (said_by q (others (d ∷ drops) ++ more))
          ≡ option_or (cond (cond b true (has_number q.number adds)) (Some true) (cond (has_number q.number (d ∷ drops)) (Some false) None)) (said_by q more)) [
            | true ↦ refl
            | false ↦ k (d ∷ drops) (no_longer_first n adds (d ∷ drops) h)
          ])
    ]

pub with_says : (term adds drops : List ℕ) (more : List Change) (q : Pair) → term ≡ q.term → AreDisjoint adds drops
    → said_by q (changes_with term adds drops ++ more) ≡ option_or (said_in q.number adds drops) (said_by q more)
unfolding changes_with
with_says term [] drops more q e h = drops_say term drops more q e
with_says term (n ∷ adds) drops more q e h =
    add_says term n adds (changes_with term adds) drops more q e h (λ ds k. with_says term adds ds more q e k)

-- ---- all terms

-- the terms rise, the first behind `last`
abbrev pub Ascend : List ℕ → List TermChange → Type 0
Ascend last [] = Unit {0}
Ascend last (c ∷ changes) = (slice_cmp nat_cmp last c.term ≡ Less) × Ascend c.term changes

abbrev pub TermsRise : List TermChange → Type 0
TermsRise [] = Unit {0}
TermsRise (c ∷ changes) = Ascend c.term changes

abbrev pub AreApart : List TermChange → Type 0
AreApart [] = Unit {0}
AreApart (c ∷ changes) = AreDisjoint c.added c.dropped × AreApart changes

pub ascend_from : (low last : List ℕ) (changes : List TermChange) → slice_cmp nat_cmp low last ≡ Less → Ascend last changes → Ascend low changes
ascend_from low last [] h k = tt
ascend_from low last (c ∷ changes) h k = (nat_list_cmp_total.trans low last c.term h k.0, k.1)

pub ascend_alone : (last : List ℕ) (changes : List TermChange) → Ascend last changes → TermsRise changes
ascend_alone last [] h = tt
ascend_alone last (c ∷ changes) h = h.1

none_behind : (q : Pair) (changes : List TermChange) → Ascend q.term changes → said_by q (changes_of changes) ≡ None
unfolding changes_of
none_behind q [] h = refl
none_behind q (c ∷ changes) h =
    with_other c.term c.added c.dropped (changes_of changes) q (λ e. apart_terms q.term c.term h.0 (sym e))
    ∙ none_behind q changes (ascend_from q.term c.term changes h.0 h.1)

or_none : (o : Option Bool) → option_or o None ≡ o
or_none None = refl
or_none (Some b) = refl

pub same_said : (q : Pair) (changes : List TermChange) → AreApart changes → TermsRise changes → said_of q changes ≡ said_by q (changes_of changes)
unfolding changes_of
same_said q [] h k = refl
same_said q (c ∷ changes) h k =
    elim (bytes_eq c.term q.term) as
    (λ b. bytes_eq c.term q.term ≡ b → cond b (said_in q.number c.added c.dropped) (said_of q changes)
    ≡ said_by q (changes_with c.term c.added c.dropped ++ changes_of changes)) [
      | true ↦ λ s.
          let e : c.term ≡ q.term = (bytes_eq-Decides c.term q.term).0 s in
          let none : said_by q (changes_of changes) ≡ None = none_behind q changes (rw (sym e) k) in
          sym (with_says c.term c.added c.dropped (changes_of changes) q e h.0
          ∙ ap (option_or (said_in q.number c.added c.dropped)) none ∙ or_none (said_in q.number c.added c.dropped))
      | false ↦ λ s.
          same_said q changes h.1 (ascend_alone c.term changes k)
          ∙ sym (with_other c.term c.added c.dropped (changes_of changes) q (differ c.term q.term s))
    ] refl

-- ---- what can be a list of term changes

ascend_of : (last : List ℕ) (changes : List TermChange) → AreAfter last changes → Ascend last changes
ascend_of last [] h = tt
ascend_of last (c ∷ changes) h = (h.0, ascend_of c.term changes h.2)

apart_of : (last : List ℕ) (changes : List TermChange) → AreAfter last changes → AreApart changes
apart_of last [] h = tt
apart_of last (c ∷ changes) h = (h.1.disjoint, apart_of c.term changes h.2)

pub are_rising : (changes : List TermChange) → AreTermChanges changes → TermsRise changes
are_rising [] h = tt
are_rising (c ∷ changes) h = ascend_of c.term changes h.1

pub are_apart : (changes : List TermChange) → AreTermChanges changes → AreApart changes
are_apart [] h = tt
are_apart (c ∷ changes) h = (h.0.disjoint, apart_of c.term changes h.1)

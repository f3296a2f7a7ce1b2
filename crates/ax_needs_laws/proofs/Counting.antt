-- The numbers of the candidates are as many as the entries that have a term in each union.
use Rattle.std.proofs.Common.{◌≡◌, ℕ, ◌<◌, zero, suc, List, [], ◌∷◌, map, length, Bool, true, false, cond, Option, Some, None}
use Rattle.std.proofs.Common.{◌⊎◌, inl, inr, ⊎_elim, nat_eq, option_map, refl, sym, ap, subst, ◌∙◌, arith}
use Rattle.std.proofs.lemmas.Bool.{eq-eqb, false≢true}
use Rattle.std.specs.Bool.{one_answer}
use Rattle.std.specs.List.{Contains, cons_option, filter, filter_map}
use Rattle.ax_tree.specs.declared.tree.Tree.{Tree}
use Rattle.ax_mean.specs.declared.query.Query.{Query}
use Rattle.ax_delta.specs.Said.{has_number}
use Rattle.ax_pair.specs.declared.pair.Pair.{Pair}
use Rattle.ax_pairs.specs.PairSets.{PairSet}
use Rattle.ax_term.specs.Ranges.{is_in_range}
use Rattle.ax_term.specs.declared.range.TermRange.{TermRange}
use Rattle.ax_policy.specs.Table.{Table}
use Rattle.ax_container.specs.Container.{Container, Entry, NumbersRise, entry_at}
use Rattle.ax_container.proofs.ByNumber.{below_apart}
use Rattle.ax_keep.specs.Owned.{HasIndexTerm, IsIdTerm}
use Rattle.ax_terms.specs.TermsOf.{HasTerm}
use Rattle.ax_image_pairs.specs.Pairs.{HasTermOf}
use Rattle.ax_image_pairs.proofs.Finding.{every_there}
use Rattle.ax_index.specs.Wanted.{HasInSome}
use Rattle.ax_candidates.specs.Candidates.{AreCandidates}
use Rattle.ax_atoms.specs.Conjuncts.{atoms}
use Rattle.ax_atoms.specs.Spans.{is_in_some, ranges_of}
use Rattle.ax_terms.proofs.Sequences.{contains_first, contains_later}
use Rattle.ax_skips.specs.Chosen.{chosen, document_at, fetched}
use Rattle.ax_skips.specs.Planned.{IsPlannedOver}
use Rattle.ax_skips.proofs.Fetching.{document, fetched_are_chosen, is_in}
use Rattle.ax_skips.proofs.Silence.{held_where_in_some}
use Rattle.ax_needs.specs.Needs.{candidates_of, is_candidate, need_of_query, unions_of}
use Rattle.ax_needs.proofs.Lists.{one_passes, some_pass}
use Rattle.ax_needs.proofs.Terms.{HasTermIn, candidate_told, is_candidate_where}
use Rattle.ax_plan.proofs.Passing.{of_usable}
use Rattle.ax_needs_laws.proofs.IdTerms.{no_id_in}

-- ---- entries by their numbers

above : (es : List Entry) (before next : ℕ) (e : Entry) → NumbersRise before es next → Contains es e → before < e.number
above [] before next e rise (k, low, is) = absurd (omega (arith, low))
above (x ∷ es) before next e rise (zero, low, is) = subst (λ (y : Entry). before < y.number) is rise.0
above (x ∷ es) before next e rise (suc k, low, is) =
    let more : x.number < e.number = above es x.number next e rise.1 (k, omega (arith, low), is) in
    omega (arith, rise.0)

entry_is : (es : List Entry) (before next : ℕ) (e : Entry) → NumbersRise before es next → Contains es e
    → entry_at e.number es ≡ Some e
entry_is [] before next e rise (k, low, is) = absurd (omega (arith, low))
entry_is (x ∷ es) before next e rise (zero, low, is) =
    ap (λ b. cond b (Some x) (entry_at e.number es)) (eq-eqb x.number e.number (ap (λ (y : Entry). y.number) is))
    ∙ ap (λ (y : Entry). Some y) is
entry_is (x ∷ es) before next e rise (suc k, low, is) =
    let later : Contains es e = (k, omega (arith, low), is) in
    ap (λ b. cond b (Some x) (entry_at e.number es)) (below_apart x.number e.number (above es x.number next e rise.1 later))
    ∙ entry_is es x.number next e rise.1 later

-- ---- tests that agree, and how many pass

as_many_more : {A B : Type 0} (test : Bool) (a : A) (left : List A) (b : B) (right : List B) → length left ≡ length right
    → length (cond test (a ∷ left) left) ≡ length (cond test (b ∷ right) right)
as_many_more true a left b right same = ap suc same
as_many_more false a left b right same = same

as_many_chosen : (unions : List (List TermRange)) (numbers : List ℕ) (es : List Entry)
    → ((e : Entry) → Contains es e → has_number e.number numbers ≡ is_candidate unions e)
    → length (filter (is_in numbers) (map document es)) ≡ length (filter (is_candidate unions) es)
as_many_chosen unions numbers [] each = refl
as_many_chosen unions numbers (e ∷ es) each =
    let rest : List (ℕ × Tree) = filter (is_in numbers) (map document es) in
    ap (λ b. length (cond b (document e ∷ rest) rest)) (each e (contains_first e es))
    ∙ as_many_more (is_candidate unions e) (document e) rest e (filter (is_candidate unions) es)
    (as_many_chosen unions numbers es (λ x there. each x (contains_later e es x there)))

as_many_pass : (f g : Entry → Bool) (es : List Entry) → ((e : Entry) → Contains es e → f e ≡ g e)
    → length (filter f es) ≡ length (filter g es)
as_many_pass f g [] each = refl
as_many_pass f g (e ∷ es) each =
    let rest : List Entry = filter f es in
    ap (λ b. length (cond b (e ∷ rest) rest)) (each e (contains_first e es))
    ∙ as_many_more (g e) e rest e (filter g es) (as_many_pass f g es (λ x there. each x (contains_later e es x there)))

-- where there is no union all entries are candidates
pub all_are : (es : List Entry) → length (filter (is_candidate []) es) ≡ length es
all_are [] = refl
all_are (e ∷ es) = ap suc (all_are es)

-- ---- numbers that are all held

true_anyway : (a b : Bool) → b ≡ true → cond a true b ≡ true
true_anyway true b is = refl
true_anyway false b is = is

module _ (container : Container) where
  as_many_fetched : (numbers : List ℕ)
      → ((n : ℕ) → has_number n numbers ≡ true → (e : Entry) × (entry_at n container.entries ≡ Some e))
      → length (fetched numbers container) ≡ length numbers
  as_many_fetched [] held = refl
  as_many_fetched (n ∷ numbers) held =
      let own = held n (ap (λ b. cond b true (has_number n numbers)) (eq-eqb n n refl)) in
      ap (λ (o : Option Entry). length (cons_option (option_map (λ (entry : Entry). (n, entry.tree)) o) (fetched numbers container)))
      own.1
      ∙ ap suc (as_many_fetched numbers (λ m there. held m (true_anyway (nat_eq n m) (has_number m numbers) there)))

one_union : (unions : List (List TermRange)) → 0 < length unions → (ranges : List TermRange) × Contains unions ranges
one_union [] some = absurd (omega (arith, some))
one_union (ranges ∷ unions) some = (ranges, contains_first ranges unions)

-- ---- the candidates of a plan

module _ (query : Query) (table : Table) (unions : List (List TermRange)) (container : Container) (set : PairSet)
    (over : IsPlannedOver query table unions container set)
    (same : (entry : Entry) → Contains container.entries entry
    → is_candidate unions entry ≡ is_candidate (unions_of container (atoms query)) entry) where
  module _ (entry : Entry) (there : Contains container.entries entry) where
    -- the term of its id is in no union
    not_by_id : (ranges : List TermRange) → Contains unions ranges → (bytes : List ℕ) → is_in_some ranges bytes ≡ true
        → IsIdTerm entry.tree bytes → ⊥
    not_by_id ranges one bytes within id =
        let of = of_usable table (atoms query) unions over.planned ranges one in
        false≢true
        (sym (no_id_in of.atom id.id) ∙ ap (is_in_some (ranges_of of.atom)) (sym id.is) ∙ of.within bytes within)

    term_in : (ranges : List TermRange) → Contains unions ranges → HasInSome ranges set entry.number
        → HasTermIn entry.indexed_by entry.tree ranges
    term_in ranges one has =
        let bytes : List ℕ = has.2.0 in
        let pair : Pair = record { term = bytes; number = entry.number } in
        let within : is_in_some ranges bytes ≡ true =
        some_pass (λ range. is_in_range range bytes) ranges has.0 has.1 has.2.1 in
        let own : HasIndexTerm entry.indexed_by entry.tree bytes =
        subst (λ o. HasTermOf o bytes)
        (entry_is container.entries 0 container.next_number entry over.sound.numbers there) ((over.pairs pair).0 has.2.2) in
        ⊎_elim {C = HasTermIn entry.indexed_by entry.tree ranges}
        (λ (id : IsIdTerm entry.tree bytes). absurd (not_by_id ranges one bytes within id))
        (λ (term : HasTerm entry.indexed_by entry.tree bytes). (bytes, term, within))
        own

    number_in : (ranges : List TermRange) → HasTermIn entry.indexed_by entry.tree ranges → HasInSome ranges set entry.number
    number_in ranges has =
        let bytes : List ℕ = has.0 in
        let found = one_passes (λ range. is_in_range range bytes) ranges has.2 in
        let pair : Pair = record { term = bytes; number = entry.number } in
        (found.0, found.1, (bytes, found.2, every_there container set over.pairs over.sound entry pair there (refl, inr has.1)))

  module _ (numbers : List ℕ) (are : AreCandidates unions set numbers) where
    tests_agree : (entry : Entry) → Contains container.entries entry
        → has_number entry.number numbers ≡ is_candidate unions entry
    tests_agree entry there =
        one_answer (has_number entry.number numbers) (is_candidate unions entry) (
          λ given. is_candidate_where unions entry
              (λ ranges one. term_in entry there ranges one ((are.are entry.number).0 given ranges one)),
          λ told. (are.are entry.number).1
              (λ ranges one. number_in entry there ranges (candidate_told unions entry told ranges one)),
        )
        (λ told. told, λ told. told)

    pub as_many : 0 < length unions → length numbers ≡ need_of_query query container
    as_many some =
        let one = one_union unions some in
        sym (as_many_fetched container numbers (λ n given.
        held_where_in_some query table unions container set over one.0 n ((are.are n).0 given one.0 one.1)))
        ∙ ap length (fetched_are_chosen container numbers over.sound are.rising)
        ∙ as_many_chosen unions numbers container.entries tests_agree
        ∙ as_many_pass (is_candidate unions) (is_candidate (unions_of container (atoms query))) container.entries same

  pub all_needed : unions ≡ [] → need_of_query query container ≡ length container.entries
  all_needed none =
      sym (as_many_pass (is_candidate unions) (is_candidate (unions_of container (atoms query))) container.entries same)
      ∙ ap (λ us. length (filter (is_candidate us) container.entries)) none
      ∙ all_are container.entries

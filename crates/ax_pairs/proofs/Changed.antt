-- One page put in the place of another of the same low pair: what the set is then. A delta makes its changes.
use Rattle.std.proofs.Common.{◌≡◌, ◌≢◌, ℕ, ◌<◌, List, [], ◌∷◌, length, slice_set, arith, refl, sym, ap, ◌∙◌, subst, Bool, true, false, cond, nat_eq}
use Rattle.std.proofs.Common.{Option, Some, None, ⊎_elim}
use Rattle.std.specs.Option.{unwrap_or}
use Rattle.std.proofs.lemmas.Bool.{cases_eq, eq-eqb, ne_eqb}
use Rattle.std.proofs.lemmas.List.{get_or-set_same, length-set}
use Rattle.ax_pair.specs.declared.pair.Pair.{Pair}
use Rattle.ax_pair.specs.Order.{Rise}
use Rattle.ax_delta.specs.declared.change.Change.{Change}
use Rattle.ax_delta.specs.Changes.{changed_pairs, term_changes_of}
use Rattle.ax_delta.specs.Pass.{merged}
use Rattle.ax_delta.specs.Payload.{IsDelta}
use Rattle.ax_delta.specs.Said.{is_same, has, said_by}
use Rattle.ax_delta.proofs.Passing.{merged_has}
use Rattle.ax_delta.proofs.SamePair.{true_or_false}
use Rattle.ax_pages.specs.Contents.{TermPage, no_term_page, term_page, low_of}
use Rattle.ax_pages.specs.AfterPart.{with_delta, after_delta}
use Rattle.ax_pages.specs.TermPages.{AreApart, IsPageOf, low_pair}
use Rattle.ax_pages.proofs.TermLists.{set_other}
use Rattle.ax_pairs.specs.Index.{AllBelong, IsIndex}
use Rattle.ax_pairs.specs.PagePairs.{HasPairs}
use Rattle.ax_pairs.specs.PairSets.{PairSet, with_changes}
use Rattle.ax_pairs.proofs.Belonging.{HaveSameLows, same_lows_back, belongs_still, apart_still, one_page}
use Rattle.ax_pairs.proofs.PageLists.{list_rises, is_merged, with_one_more, one_page_list}
use Rattle.ax_pairs.proofs.Sets.{changes_say}

-- a page in the place of another
pub set_lows : (number : ℕ) (page : TermPage) (pages : List TermPage) → number < length pages → low_of page ≡ low_pair number pages
    → HaveSameLows pages (slice_set pages number page)
set_lows number page pages there same = record {
  many = length-set pages number page;
  low = λ n.
      ⊎_elim
      (λ (e : n ≡ number).
      ap (λ (k : ℕ). low_pair k (slice_set pages number page)) e ∙ ap low_of (get_or-set_same pages number page no_term_page there) ∙ same
      ∙ ap (λ (k : ℕ). low_pair k pages) (sym e))
      (λ (apart : n ≡ number → ⊥). ap low_of (set_other number page pages n apart))
      (cases_eq n number);
}

-- one of two by number
abbrev pub at_number : {A : Type 0} → ℕ → ℕ → A → A → A
at_number number n there other = cond (nat_eq n number) there other

pub at_same : {A : Type 0} (number n : ℕ) (there other : A) → n ≡ number → at_number number n there other ≡ there
at_same number n there other e = ap (λ (b : Bool). cond b there other) (eq-eqb n number e)

pub at_other : {A : Type 0} (number n : ℕ) (there other : A) → n ≢ number → at_number number n there other ≡ other
at_other number n there other apart = ap (λ (b : Bool). cond b there other) (ne_eqb n number apart)

pub has_alike : (page other : TermPage) (list another : List Pair) → page ≡ other → list ≡ another → HasPairs other another → HasPairs page list
has_alike page other list another same alike h =
    subst (λ (p : TermPage). HasPairs p list) (sym same) (subst (HasPairs other) (sym alike) h)

module _ (pages : List TermPage) (number : ℕ) (page : TermPage) (there : number < length pages) (low : low_of page ≡ low_pair number pages) where
  abbrev pub put : List TermPage
  put = slice_set pages number page

  same_lows : HaveSameLows pages put
  same_lows = set_lows number page pages there low

  pub put_at : (set after : PairSet) (list : List Pair) → IsIndex pages set → HasPairs page list → AllBelong list number pages
      → ((p : Pair) → IsPageOf p number pages → has p list ≡ after p)
      → ((p : Pair) (m : ℕ) → m ≢ number → IsPageOf p m pages → set p ≡ after p) → IsIndex put after
  put_at set after list is has_list belong here others = record {
    apart = apart_still pages put same_lows is.apart;
    pairs = λ n. at_number number n list (is.pairs n);
    have = λ n h.
        ⊎_elim
        (λ (e : n ≡ number).
        has_alike (term_page n put) page (at_number number n list (is.pairs n)) list
        (ap (λ (k : ℕ). term_page k put) e ∙ get_or-set_same pages number page no_term_page there) (at_same number n list (is.pairs n) e) has_list)
        (λ (apart : n ≡ number → ⊥).
        has_alike (term_page n put) (term_page n pages) (at_number number n list (is.pairs n)) (is.pairs n)
        (set_other number page pages n apart) (at_other number n list (is.pairs n) apart) (is.have n (omega (arith, same_lows.many))))
        (cases_eq n number);
    belong = λ n h p in_list.
        belongs_still pages put p n same_lows
        (⊎_elim
        (λ (e : n ≡ number).
        subst (λ (k : ℕ). IsPageOf p k pages) (sym e) (belong p (sym (ap (has p) (at_same number n list (is.pairs n) e)) ∙ in_list)))
        (λ (apart : n ≡ number → ⊥).
        is.belong n (omega (arith, same_lows.many)) p (sym (ap (has p) (at_other number n list (is.pairs n) apart)) ∙ in_list))
        (cases_eq n number));
    all = λ n p of.
        let before : IsPageOf p n pages = belongs_still put pages p n (same_lows_back pages put same_lows) of in
        ⊎_elim
        (λ (e : n ≡ number). ap (has p) (at_same number n list (is.pairs n) e) ∙ here p (subst (λ (k : ℕ). IsPageOf p k pages) e before))
        (λ (apart : n ≡ number → ⊥). ap (has p) (at_other number n list (is.pairs n) apart) ∙ is.all n p before ∙ others p n apart before)
        (cases_eq n number);
  }

-- ---- changes of one page

-- of a pair that none of the changes is of they say nothing
pub unsaid : (changes : List Change) (p : Pair) → has p (changed_pairs changes) ≡ false → said_by p changes ≡ None
unsaid [] p none = refl
unsaid (change ∷ changes) p none =
    ⊎_elim
    (λ (same : is_same change.pair p ≡ true).
    let has_it : has p (changed_pairs (change ∷ changes)) ≡ true = ap (λ (b : Bool). cond b true (has p (changed_pairs changes))) same in
    absurd (cc))
    (λ (other : is_same change.pair p ≡ false).
    ap (λ (b : Bool). cond b (Some change.add) (said_by p changes)) other
    ∙ unsaid changes p (sym (ap (λ (b : Bool). cond b true (has p (changed_pairs changes))) other) ∙ none))
    (true_or_false (is_same change.pair p))

-- changes of one page leave the pairs of the others
pub others_same : (pages : List TermPage) (set : PairSet) (number : ℕ) (changes : List Change) → AreApart pages → Rise (changed_pairs changes)
    → AllBelong (changed_pairs changes) number pages → (p : Pair) (m : ℕ) → m ≢ number → IsPageOf p m pages → set p ≡ with_changes changes set p
others_same pages set number changes are up belong p m apart of =
    ⊎_elim
    (λ (in_them : has p (changed_pairs changes) ≡ true). absurd (apart (one_page pages p m number are of (belong p in_them))))
    (λ (none : has p (changed_pairs changes) ≡ false).
    sym (changes_say changes set p up ∙ ap (λ (said : Option Bool). unwrap_or said (set p)) (unsaid changes p none)))
    (true_or_false (has p (changed_pairs changes)))

-- of the pairs of the page the set has those that the changes make of the page's
pub here_merged : (pages : List TermPage) (set : PairSet) (number : ℕ) (changes : List Change) (pairs after : List Pair) → IsIndex pages set
    → Rise (changed_pairs changes) → HasPairs (term_page number pages) pairs → ((p : Pair) → has p after ≡ unwrap_or (said_by p changes) (has p pairs))
    → (p : Pair) → IsPageOf p number pages → has p after ≡ with_changes changes set p
here_merged pages set number changes pairs after is up has_pairs made p of =
    made p ∙ ap (unwrap_or (said_by p changes)) (ap (has p) (one_page_list (term_page number pages) pairs (is.pairs number) has_pairs
    (is.have number of.there)) ∙ is.all number p of)
    ∙ sym (changes_say changes set p up)

-- what a merge has is of the page, where all that is merged is
pub merged_belong : (pages : List TermPage) (number : ℕ) (changes : List Change) (pairs after : List Pair) → AllBelong pairs number pages
    → AllBelong (changed_pairs changes) number pages → ((p : Pair) → has p after ≡ unwrap_or (said_by p changes) (has p pairs)) → AllBelong after number pages
merged_belong pages number changes pairs after belong changed made p in_after =
    ⊎_elim
    (λ (in_them : has p (changed_pairs changes) ≡ true). changed p in_them)
    (λ (none : has p (changed_pairs changes) ≡ false).
    belong p (sym (ap (λ (said : Option Bool). unwrap_or said (has p pairs)) (unsaid changes p none)) ∙ sym (made p) ∙ in_after))
    (true_or_false (has p (changed_pairs changes)))

pub delta_set : (pages : List TermPage) (set : PairSet) (number : ℕ) (payload : List ℕ) (changes : List Change) → IsIndex pages set → number < length pages
    → Rise (changed_pairs changes) → IsDelta payload (term_changes_of changes) → AllBelong (changed_pairs changes) number pages
    → IsIndex (after_delta number payload pages) (with_changes changes set)
delta_set pages set number payload changes is there up spelled belong =
    let pairs : List Pair = is.pairs number in
    let rise : Rise pairs = list_rises (term_page number pages) pairs (is.have number there) in
    let made : (p : Pair) → has p (merged pairs changes) ≡ unwrap_or (said_by p changes) (has p pairs) = λ p. merged_has p pairs changes rise up in
    put_at pages number (with_delta payload (term_page number pages)) there refl set (with_changes changes set) (merged pairs changes) is
    (with_one_more (term_page number pages) pairs (merged pairs changes) payload (term_changes_of changes) (is.have number there) spelled
    (is_merged pairs changes rise up))
    (merged_belong pages number changes pairs (merged pairs changes) (is.belong number there) belong made)
    (here_merged pages set number changes pairs (merged pairs changes) is up (is.have number there) made)
    (others_same pages set number changes is.apart up belong)

-- Merging pages, one after another in their order: how many have deltas, and which are stuck.
use Rattle.std.proofs.Common.{◌≡◌, ◌≢◌, ℕ, zero, suc, ◌+◌, ◌-◌, ◌<◌, ◌≤◌, List, [], ◌++◌, length}
use Rattle.std.proofs.Common.{take, arith, refl, sym, ap, ◌∙◌, subst, Bool, true, false}
use Rattle.std.proofs.Common.{append_assoc, append-nil, ⊎_elim, ◌⊎◌, inl, inr, Option, Some, None}
use Rattle.std.proofs.Common.{Result, Ok, Err}
use Rattle.std.specs.List.{count_by}
use Rattle.std.proofs.lemmas.Bool.{cases_eq, cases_lt}
use Rattle.std.proofs.lemmas.List.{take_all}
use Rattle.std.proofs.lemmas.List.Sums.{count_by_more_no, count_by_more_yes}
use Rattle.std.specs.declared.cmp.Ordering.TheVariants.{Less}
use Rattle.std.specs.Prelude.{IfOk, IfSome, IfNone, IsTrue, OnOk}
use Rattle.ax_store.specs.declared.fault.StoreFault.{StoreFault}
use Rattle.ax_index.specs.Rewriting.{IsRewritten}
use Rattle.ax_index.proofs.CallLemmas.{planned_by_bases}
use Rattle.ax_index.proofs.PageWalk.{fewer_behind, steps_left}
use Rattle.ax_frame.specs.Part.{PartValue}
use Rattle.ax_pair.specs.declared.pair.Pair.{Pair}
use Rattle.ax_pair.specs.Low.{first_pair}
use Rattle.ax_pair.specs.Order.{pair_cmp}
use Rattle.ax_delta.specs.Said.{has}
use Rattle.ax_delta.proofs.SamePair.{true_or_false, less_apart}
use Rattle.ax_delta.proofs.OneList.{one_list}
use Rattle.ax_pair.specs.Order.{Rise}
use Rattle.ax_pages.specs.Contents.{TermPage, no_term_page, term_page}
use Rattle.ax_pages.specs.TermPages.{IsPageOf, IsLastPage, IsNextPage, low_pair}
use Rattle.ax_pairs.specs.Index.{AllBelong, IsIndex}
use Rattle.ax_pairs.specs.PagePairs.{HasPairs}
use Rattle.ax_pairs.specs.PairSets.{PairSet}
use Rattle.ax_pairs.proofs.Belonging.{first_not_after}
use Rattle.ax_pairs.proofs.PageLists.{list_rises}
use Rattle.ax_pairs.proofs.PairOrder.{NotAfter, both_ways, not_after_then, not_both, order_cases, same_not_after}
use Rattle.ax_pairs.proofs.Leading.{lead_nothing, lead_then}
use Rattle.ax_store.specs.Kept.{deltas_of}
use Rattle.ax_index.specs.Bare.{has_deltas, with_deltas}
use Rattle.ax_index.specs.Carried.{HasLowPair, HasSome, bases_put}
use Rattle.ax_index.specs.Grammar.{IsInGrammar}
use Rattle.ax_index.specs.Merging.{IsStuck, IsMergePlan, IsPassed, IsReady, IsBehind, IsMergedTo, bases_due}
use Rattle.ax_index.specs.PageSizes.{AreStuck, NeedsTooMany}
use Rattle.ax_index.specs.Planning.{IsUpTo, IsPageDone, IsPagePlanned}
use Rattle.ax_index.proofs.CarriedLemmas.{later_bases, same_bases}
use Rattle.ax_index.proofs.DeltaRunLemmas.{carry_nothing}
use Rattle.ax_index.proofs.Lists.{deltas_more}
use Rattle.ax_index.proofs.PlanningLemmas.{as_number, done_by_deltas, of_now, up_behind}

-- ---- how many

abbrev count_below : ℕ → (ℕ → Bool) → ℕ
count_below zero f = 0
count_below (suc n) f = count_below n f + as_number (f n)

same_below : (k : ℕ) (f g : ℕ → Bool) → ((n : ℕ) → n < k → f n ≡ g n) → count_below k f ≡ count_below k g
same_below zero f g same = refl
same_below (suc k) f g same =
    let rest : count_below k f ≡ count_below k g = same_below k f g (λ n h. same n (omega arith)) in
    let last : as_number (f k) ≡ as_number (g k) = ap as_number (same k (omega arith)) in
    omega (arith, rest, last)

one_less : (k p : ℕ) (f g : ℕ → Bool) → p < k → f p ≡ true → g p ≡ false → ((n : ℕ) → n < k → n ≢ p → f n ≡ g n) → count_below k g + 1 ≡ count_below k f
one_less zero p f g below was is others = absurd (omega arith)
one_less (suc k) p f g below was is others =
    ⊎_elim
    (λ (e : k ≡ p).
    let rest : count_below k f ≡ count_below k g = same_below k f g (λ n h. others n (omega arith) (λ same. omega (arith, same, e))) in
    let mine : as_number (f k) ≡ 1 = ap as_number (ap f e ∙ was) in
    let now : as_number (g k) ≡ 0 = ap as_number (ap g e ∙ is) in
    omega (arith, rest, mine, now))
    (λ (apart : k ≡ p → ⊥).
    let less : p < k = ⊎_elim (λ (h : p < k). h) (λ (h : k ≤ p). absurd (apart (omega arith))) (cases_lt p k) in
    let rest : count_below k g + 1 ≡ count_below k f = one_less k p f g less was is (λ n h. others n (omega arith)) in
    let last : as_number (f k) ≡ as_number (g k) = ap as_number (others k (omega arith) apart) in
    omega (arith, rest, last))
    (cases_eq k p)

none_more : (k j : ℕ) (g : ℕ → Bool) → ((n : ℕ) → k ≤ n → n < k + j → g n ≡ false) → count_below (k + j) g ≡ count_below k g
none_more k zero g none = ap (λ (n : ℕ). count_below n g) (omega arith)
none_more k (suc j) g none =
    let rest : count_below (k + j) g ≡ count_below k g = none_more k j g (λ n from h. none n from (omega arith)) in
    let last : as_number (g (k + j)) ≡ 0 = ap as_number (none (k + j) (omega arith) (omega arith)) in
    let step : k + suc j ≡ suc (k + j) = omega arith in
    ap (λ (n : ℕ). count_below n g) step ∙ omega (arith, rest, last)

counted_to : (pages : List TermPage) (k : ℕ) → k ≤ length pages → count_by has_deltas (take k pages) ≡ count_below k (λ n. has_deltas (term_page n pages))
counted_to pages zero h = refl
counted_to pages (suc k) h =
    let rest : count_by has_deltas (take k pages) ≡ count_below k (λ n. has_deltas (term_page n pages)) = counted_to pages k (omega arith) in
    let step : suc k ≡ k + 1 = omega arith in
    ap (λ (n : ℕ). count_by has_deltas (take n pages)) step
    ∙ ⊎_elim
    (λ (so : has_deltas (term_page k pages) ≡ true).
    let one : as_number (has_deltas (term_page k pages)) ≡ 1 = ap as_number so in
    omega (arith, count_by_more_yes has_deltas pages k no_term_page (omega arith) so, rest, one))
    (λ (not_so : has_deltas (term_page k pages) ≡ false).
    let none : as_number (has_deltas (term_page k pages)) ≡ 0 = ap as_number not_so in
    omega (arith, count_by_more_no has_deltas pages k no_term_page (omega arith) not_so, rest, none))
    (true_or_false (has_deltas (term_page k pages)))

counted : (pages : List TermPage) → with_deltas pages ≡ count_below (length pages) (λ n. has_deltas (term_page n pages))
counted pages = ap (count_by has_deltas) (sym (take_all (length pages) pages (omega arith))) ∙ counted_to pages (length pages) (omega arith)

pub one_fewer : (page : ℕ) (now after : List TermPage) → page < length now → length now ≤ length after → has_deltas (term_page page now) ≡ true
    → has_deltas (term_page page after) ≡ false
    → ((n : ℕ) → n < length now → n ≢ page → term_page n after ≡ term_page n now)
    → ((n : ℕ) → length now ≤ n → n < length after → has_deltas (term_page n after) ≡ false)
    → with_deltas after + 1 ≡ with_deltas now
one_fewer page now after there longer was is same none =
    let f : ℕ → Bool = λ n. has_deltas (term_page n now) in
    let g : ℕ → Bool = λ n. has_deltas (term_page n after) in
    let more : (j : ℕ) × (length now + j ≡ length after) = (length after - length now, omega arith) in
    let tail : count_below (length after) g ≡ count_below (length now) g =
    ap (λ (n : ℕ). count_below n g) (sym more.1) ∙ none_more (length now) more.0 g (λ n from h. none n from (omega (arith, more.1)))
    in
    let less : count_below (length now) g + 1 ≡ count_below (length now) f =
    one_less (length now) page f g there was is (λ n h apart. sym (ap has_deltas (same n h apart)))
    in
    omega (arith, counted after, counted now, tail, less)

-- ---- which pages are passed

passed_or_here : (page : ℕ) (at : Option ℕ) (pages : List TermPage) (n : ℕ) → IsBehind page at pages → n < length pages → IsPassed at n pages
    → (pair_cmp (low_pair n pages) (low_pair page pages) ≡ Less) ⊎ (low_pair n pages ≡ low_pair page pages)
passed_or_here page at pages n behind h passed =
    ⊎_elim
    (λ (up : NotAfter (low_pair page pages) (low_pair n pages)).
    inr (both_ways (low_pair n pages) (low_pair page pages) (not_behind at behind passed) up))
    (λ (less : pair_cmp (low_pair n pages) (low_pair page pages) ≡ Less). inl less)
    (order_cases (low_pair page pages) (low_pair n pages))
  where
    not_behind : (at : Option ℕ) → IsBehind page at pages → IsPassed at n pages → NotAfter (low_pair n pages) (low_pair page pages)
    not_behind None last passed =
        ⊎_elim
        (λ (up : NotAfter (low_pair n pages) (low_pair page pages)). up)
        (λ (less : pair_cmp (low_pair page pages) (low_pair n pages) ≡ Less). absurd (last n h less))
        (order_cases (low_pair n pages) (low_pair page pages))
    not_behind (Some next) is passed =
        ⊎_elim
        (λ (up : NotAfter (low_pair n pages) (low_pair page pages)). up)
        (λ (less : pair_cmp (low_pair page pages) (low_pair n pages) ≡ Less). absurd (is.least n h less passed))
        (order_cases (low_pair n pages) (low_pair page pages))

stuck_still : {honest : Bool} (n : ℕ) (before now after : List TermPage) → term_page n after ≡ term_page n now → length now ≤ length after
    → IsStuck honest n before now → IsStuck honest n before after
stuck_still n before now after same longer stuck told set index deltas pairs has_pairs =
    ⊎_elim
    (λ (many : NeedsTooMany (length now) pairs). inl (many.0, many.1, omega (arith, many.2, longer)))
    (λ long. inr long)
    (stuck told set index (ap has_deltas (sym same) ∙ deltas) pairs has_pairs)

stuck_by_number : {honest : Bool} (n page : ℕ) (before after : List TermPage) → n < length before → page < length before
    → low_pair n before ≡ low_pair page before → IsStuck honest page before after → IsStuck honest n before after
stuck_by_number n page before after h there same stuck told set index =
    let one : n ≡ page = index.apart.apart n page h there same in
    subst
    (λ (k : ℕ). has_deltas (term_page k after) ≡ true → (pairs : List Pair) → HasPairs (term_page k before) pairs
    → AreStuck (length after) (low_pair k before) pairs)
    (sym one) (stuck told set index)

-- ---- a page is merged, or left

ready_by : {honest : Bool} (page : ℕ) (at : Option ℕ) (before now after : List TermPage) (parts more : List PartValue) (merged : Bool)
    → IsBehind page at before → IsUpTo (low_pair page before) before now parts
    → IsPageDone honest page [] before now more after merged → IsReady at before after (parts ++ more)
ready_by page None before now after parts more merged behind up done = tt
ready_by page (Some next) before now after parts more merged behind up done = (
  behind.there,
  up_behind page next next [] before now after parts more merged up done behind (same_not_after (low_pair next before) (low_pair next before) refl),
)

pub merged_one : {honest : Bool} (page : ℕ) (at : Option ℕ) (before : List TermPage) (merged next later : ℕ) (old here new : List PartValue)
    → IsBehind page at before → IsMergedTo honest (Some page) before merged next old here
    → has_deltas (term_page page before) ≡ true
    → ((now : List TermPage) (earlier : List PartValue) → IsUpTo (low_pair page before) before now earlier → next ≡ length now
    → IsPagePlanned honest page [] before now true later (λ number. 0) here new)
    → (IsTrue honest → IsInGrammar (term_page page before))
    → IsMergedTo honest at before (merged + 1) later old new
merged_one {honest = honest} page at before merged next later old here new behind is deltas planned_by met =
    let up : IsUpTo (low_pair page before) before is.now is.parts = is.ready.1 in
    let there : page < length before = is.ready.0 in
    let planned : IsPagePlanned honest page [] before is.now true later (λ number. 0) here new = planned_by is.now is.parts up is.next_is in
    let same : term_page page is.now ≡ term_page page before =
    up.same page there (λ less. less_apart (low_pair page before) (low_pair page before) less refl)
    in
    record {
      parts = is.parts ++ planned.parts;
      added = planned.added ∙ ap (λ (ps : List PartValue). ps ++ planned.parts) is.added ∙ append_assoc old is.parts planned.parts;
      now = planned.after;
      lead = lead_then is.parts planned.parts before is.now planned.after is.lead planned.done.lead;
      longer = omega (arith, is.longer, planned.done.longer);
      holds = λ told set index. planned.done.holds told set (is.holds told set index);
      no_deltas = λ number. omega (arith, deltas_more number is.parts planned.parts, is.no_deltas number, none_of planned number);
      fewer = omega (
        arith,
        is.fewer,
        one_fewer page is.now planned.after (omega (arith, is.longer, there)) planned.done.longer (ap has_deltas same ∙ deltas)
            (planned.done.bare refl) planned.done.same planned.done.new_bare,
      );
      next_is = planned.next_is;
      each = λ n h.
          ⊎_elim
          (λ (e : n ≡ page).
          subst
          (λ (k : ℕ). length (bases_put k (is.parts ++ planned.parts))
          ≡ bases_due (has_deltas (term_page k before)) (has_deltas (term_page k planned.after)))
          (sym e) (here_due up planned there))
          (λ (apart : n ≡ page → ⊥).
          ap (λ (ps : List (List ℕ)). length ps)
          (same_bases n is.parts planned.parts (planned.done.elsewhere n (omega (arith, h, is.longer)) apart))
          ∙ is.each n h
          ∙ ap (λ (t : TermPage). bases_due (has_deltas (term_page n before)) (has_deltas t))
          (sym (planned.done.same n (omega (arith, h, is.longer)) apart)))
          (cases_eq n page);
      new_once = λ n from below.
          ⊎_elim
          (λ (l : n < length is.now).
          ap (λ (ps : List (List ℕ)). length ps)
          (same_bases n is.parts planned.parts (planned.done.elsewhere n l (λ e. omega (arith, e, from, there))))
          ∙ is.new_once n from l)
          (λ (l : length is.now ≤ n).
          ap (λ (ps : List (List ℕ)). length ps) (later_bases n is.parts planned.parts (is.none_beyond n l))
          ∙ planned.done.new_once n l below)
          (cases_lt n (length is.now));
      none_beyond = λ n past.
          later_bases n is.parts planned.parts (is.none_beyond n (omega (arith, past, planned.done.longer)))
          ∙ planned.done.none_beyond n past;
      new_with = λ n from below.
          ⊎_elim
          (λ (l : n < length is.now).
          subst HasLowPair (sym (planned.done.same n l (λ e. omega (arith, e, from, there)))) (is.new_with n from l))
          (λ (l : length is.now ≤ n). planned.done.new_with n l below)
          (cases_lt n (length is.now));
      filled = λ told set index n h based p of member.
          ⊎_elim
          (λ (e : n ≡ page).
          subst (λ (k : ℕ). HasSome (term_page k planned.after)) (sym e)
          (planned.done.filled refl told set (is.holds told set index) p
          (of_now (low_pair page before) before is.now is.parts p page up (same_not_after (low_pair page before) (low_pair page before) refl)
          (subst (λ (k : ℕ). IsPageOf p k before) e of))
          member))
          (λ (apart : n ≡ page → ⊥).
          subst HasSome (sym (planned.done.same n (omega (arith, h, is.longer)) apart))
          (is.filled told set index n h
          (omega (
            arith,
            based,
            ap (λ (ps : List (List ℕ)). length ps)
                (same_bases n is.parts planned.parts (planned.done.elsewhere n (omega (arith, h, is.longer)) apart)),
          ))
          p of member))
          (cases_eq n page);
      met = λ told n h based.
          ⊎_elim
          (λ (e : n ≡ page). subst (λ (k : ℕ). IsInGrammar (term_page k before)) (sym e) (met told))
          (λ (apart : n ≡ page → ⊥).
          is.met told n h
          (omega (
            arith,
            based,
            ap (λ (ps : List (List ℕ)). length ps)
                (same_bases n is.parts planned.parts (planned.done.elsewhere n (omega (arith, h, is.longer)) apart)),
          )))
          (cases_eq n page);
      ready = ready_by page at before is.now planned.after is.parts planned.parts true behind up planned.done;
      stuck = λ n h passed.
          ⊎_elim
          (λ (less : pair_cmp (low_pair n before) (low_pair page before) ≡ Less).
          stuck_still n before is.now planned.after
          (planned.done.same n (omega (arith, is.longer))
          (λ e. less_apart (low_pair n before) (low_pair page before) less (ap (λ (k : ℕ). low_pair k before) (sym e))))
          planned.done.longer (is.stuck n h less))
          (λ (low : low_pair n before ≡ low_pair page before).
          stuck_by_number n page before planned.after h there low (λ told set index still. absurd (not_still (planned.done.bare refl) still)))
          (passed_or_here page at before n behind h passed);
    }
  where
    none_of : (planned : IsPagePlanned honest page [] before is.now true later (λ number. 0) here new) → (number : ℕ) → deltas_of number planned.parts ≡ 0
    none_of planned number =
        ⊎_elim
        (λ (e : number ≡ page). subst (λ (n : ℕ). deltas_of n planned.parts ≡ 0) (sym e) (omega (arith, planned.enough)))
        (λ (apart : number ≡ page → ⊥). planned.done.deltas number apart)
        (cases_eq number page)

    -- of the page that is merged: one base, and no deltas then
    here_due : (up : IsUpTo (low_pair page before) before is.now is.parts)
        → (planned : IsPagePlanned honest page [] before is.now true later (λ number. 0) here new) → page < length before
        → length (bases_put page (is.parts ++ planned.parts)) ≡ bases_due (has_deltas (term_page page before)) (has_deltas (term_page page planned.after))
    here_due up planned there =
        ap (λ (ps : List (List ℕ)). length ps)
        (later_bases page is.parts planned.parts
        (up.no_bases page there (λ less. less_apart (low_pair page before) (low_pair page before) less refl)))
        ∙ planned.done.put.0
        ∙ sym (ap (λ (b : Bool). bases_due b (has_deltas (term_page page planned.after))) deltas ∙ ap (bases_due true) (planned.done.bare refl))

    not_still : {b : Bool} → b ≡ false → b ≡ true → ⊥
    not_still none so = absurd (cc)

pub left_one : {honest : Bool} (page : ℕ) (at : Option ℕ) (before : List TermPage) (merged next : ℕ) (old here : List PartValue)
    → IsBehind page at before → IsMergedTo honest (Some page) before merged next old here
    → ((now : List TermPage) → next ≡ length now → has_deltas (term_page page now) ≡ has_deltas (term_page page before)
    → IsStuck honest page before now) → IsMergedTo honest at before merged next old here
left_one {honest = honest} page at before merged next old here behind is stuck_here =
    let up : IsUpTo (low_pair page before) before is.now is.parts = is.ready.1 in
    let there : page < length before = is.ready.0 in
    let same : term_page page is.now ≡ term_page page before =
    up.same page there (λ less. less_apart (low_pair page before) (low_pair page before) less refl)
    in
    record {
      parts = is.parts;
      added = is.added;
      now = is.now;
      lead = is.lead;
      longer = is.longer;
      holds = is.holds;
      no_deltas = is.no_deltas;
      fewer = is.fewer;
      next_is = is.next_is;
      each = is.each;
      new_once = is.new_once;
      none_beyond = is.none_beyond;
      new_with = is.new_with;
      filled = is.filled;
      met = is.met;
      ready = subst (λ (ps : List PartValue). IsReady at before is.now ps) (append-nil is.parts)
          (ready_by page at before is.now is.now is.parts [] false behind up
          (done_by_deltas {honest = true} page [] before is.now is.now [] (λ p h. absurd (cc)) there (carry_nothing page is.now)
          (λ more. absurd (omega (arith, more)))));
      stuck = λ n h passed.
          ⊎_elim
          (λ (less : pair_cmp (low_pair n before) (low_pair page before) ≡ Less). is.stuck n h less)
          (λ (low : low_pair n before ≡ low_pair page before).
          stuck_by_number n page before is.now h there low (stuck_here is.now is.next_is (ap has_deltas same)))
          (passed_or_here page at before n behind h passed);
    }

-- ---- at the beginning and at the end

-- a page that is as it was is due no base
none_due : (b : Bool) → 0 ≡ bases_due b b
none_due true = refl
none_due false = refl

pub merged_none : {honest : Bool} (page : ℕ) (before : List TermPage) (next : ℕ) (old : List PartValue) → IsPageOf first_pair page before
    → next ≡ length before → IsMergedTo honest (Some page) before 0 next old old
merged_none page before next old of next_is = record {
  parts = [];
  added = sym (append-nil old);
  now = before;
  lead = lead_nothing before;
  longer = omega arith;
  holds = λ told set is. is;
  no_deltas = λ number. refl;
  fewer = omega arith;
  next_is = next_is;
  each = λ n h. none_due (has_deltas (term_page n before));
  new_once = λ n from below. absurd (omega arith);
  none_beyond = λ n past. refl;
  new_with = λ n from below. absurd (omega arith);
  filled = λ told set index n h some p of member. absurd (omega (arith, some));
  met = λ told n h some. absurd (omega (arith, some));
  ready = (
    of.there,
    record {
      longer = omega arith;
      lows = λ n h. refl;
      fresh = λ n from below. absurd (omega arith);
      same = λ n h from. refl;
      none = λ n h from. refl;
      no_bases = λ n h from. refl;
    },
  );
  stuck = λ n h passed.
      absurd (not_both (low_pair n before) (low_pair page before) passed
      (not_after_then (low_pair page before) first_pair (low_pair n before) of.below (first_not_after (low_pair n before))));
}

pub merged_all : {honest : Bool} (before : List TermPage) (asked merged next : ℕ) (old new : List PartValue)
    → IsMergedTo honest None before merged next old new → merged ≤ asked → IsMergePlan honest asked merged old new before
merged_all before asked merged next old new is most = record {
  parts = is.parts;
  added = is.added;
  after = is.now;
  lead = is.lead;
  holds = is.holds;
  no_deltas = is.no_deltas;
  fewer = is.fewer;
  at_most = most;
  finished = λ less number h. is.stuck number h tt;
  each = is.each;
  new_once = is.new_once;
  none_beyond = is.none_beyond;
  new_with = is.new_with;
  filled = is.filled;
  met = is.met;
}

-- ---- a page that can't be merged

-- its pairs, as they were read, are those that it has
pub its_pairs : (page : TermPage) (pairs some : List Pair) → Rise pairs → HasPairs page some → ((p : Pair) → has p pairs ≡ has p some) → pairs ≡ some
its_pairs page pairs some rise has_some same = one_list pairs some rise (list_rises page some has_some) same

pub all_of_page : (pages : List TermPage) (set : PairSet) (page : ℕ) (pairs : List Pair) → IsIndex pages set → page < length pages
    → ((some : List Pair) → HasPairs (term_page page pages) some → (p : Pair) → has p pairs ≡ has p some) → AllBelong pairs page pages
all_of_page pages set page pairs index there same p h =
    index.belong page there p (sym (same (index.pairs page) (index.have page there) p) ∙ h)

-- ---- steps of the walk

pub behind_by : (page : ℕ) (at : Option ℕ) (pages : List TermPage) → IfSome at (λ next. IsNextPage page next pages)
    → IfNone at (IsLastPage page pages) → IsBehind page at pages
behind_by page None pages found none = none
behind_by page (Some next) pages found none = found

merge_step : {honest : Bool} (page : ℕ) (here at : Option ℕ) (before loop after : List TermPage) (merged next later extra : ℕ) (done : Bool)
    (old mid new : List PartValue) → here ≡ Some page → loop ≡ before → after ≡ before
    → extra ≡ as_number done
    → ((count : ℕ) (first : List PartValue) (to : Option ℕ) → IsBehind page to loop → IsMergedTo honest (Some page) loop count next first mid
    → IsMergedTo honest to loop (count + as_number done) later first new)
    → IfSome at (λ behind. IsNextPage page behind after) → IfNone at (IsLastPage page after) → IsMergedTo honest here before merged next old mid
    → IsMergedTo honest at before (merged + extra) later old new
merge_step {honest = honest} page here at before loop after merged next later extra done old mid new here_is same again extra_is step found none is =
    let behind : IsBehind page at loop = subst (IsBehind page at) (again ∙ sym same) (behind_by page at after found none) in
    let mine : IsMergedTo honest (Some page) loop merged next old mid =
    subst (λ (ts : List TermPage). IsMergedTo honest (Some page) ts merged next old mid) (sym same)
    (subst (λ (o : Option ℕ). IsMergedTo honest o before merged next old mid) here_is is)
    in
    subst (λ (n : ℕ). IsMergedTo honest at before (merged + n) later old new) (sym extra_is)
    (subst (λ (ts : List TermPage). IsMergedTo honest at ts (merged + as_number done) later old new) same (step merged old at behind mine))

-- the same of a later moment of one honesty
pub merge_step_on : (now then : Bool) (page : ℕ) (here at : Option ℕ) (before loop after : List TermPage) (merged next later extra : ℕ) (done : Bool)
    (old mid new : List PartValue)
    → now ≡ then → here ≡ Some page → loop ≡ before → after ≡ before → extra ≡ as_number done
    → ((count : ℕ) (first : List PartValue) (to : Option ℕ) → IsBehind page to loop → IsMergedTo now (Some page) loop count next first mid
    → IsMergedTo now to loop (count + as_number done) later first new)
    → IfSome at (λ behind. IsNextPage page behind after) → IfNone at (IsLastPage page after) → IsMergedTo then here before merged next old mid
    → IsMergedTo then at before (merged + extra) later old new
merge_step_on now then page here at before loop after merged next later extra done old mid new alike here_is same again extra_is step found none =
    subst
    (λ (told : Bool). IsMergedTo told here before merged next old mid → IsMergedTo told at before (merged + extra) later old new)
    alike
    (merge_step page here at before loop after merged next later extra done old mid new here_is same again extra_is step found none)

pub merged_end : {honest : Bool} (at : Option ℕ) (before : List TermPage) (asked merged next : ℕ) (old new : List PartValue) → at ≡ None
    → IsMergedTo honest at before merged next old new → merged ≤ asked
    → IsMergePlan honest asked merged old new before
merged_end {honest = honest} at before asked merged next old new none is most =
    merged_all before asked merged next old new (subst (λ (o : Option ℕ). IsMergedTo honest o before merged next old new) none is) most

-- what a page's merging answers, as a step
pub step_done : {honest : Bool} (page : ℕ) (at : Option ℕ) (before : List TermPage) (merged next later : ℕ) (old here new : List PartValue)
    (done : Bool) → IsBehind page at before
    → IsMergedTo honest (Some page) before merged next old here → has_deltas (term_page page before) ≡ true
    → ((now : List TermPage) (earlier : List PartValue) → IsUpTo (low_pair page before) before now earlier → next ≡ length now
    → done ≡ true → IsPagePlanned honest page [] before now true later (λ number. 0) here new)
    → (done ≡ false → (new ≡ here) × (later ≡ next))
    → (IsTrue honest → (set : PairSet) → IsIndex before set → done ≡ false → (pairs : List Pair) → HasPairs (term_page page before) pairs
    → AreStuck next (low_pair page before) pairs)
    → (IsTrue honest → IsInGrammar (term_page page before))
    → IsMergedTo honest at before (merged + as_number done) later old new
step_done {honest = honest} page at before merged next later old here new true behind is deltas planned left stuck met =
    merged_one page at before merged next later old here new behind is deltas (λ now earlier up next_is. planned now earlier up next_is refl) met
step_done {honest = honest} page at before merged next later old here new false behind is deltas planned left stuck met =
    let same = left refl in
    let kept : IsMergedTo honest at before merged next old here =
    left_one page at before merged next old here behind is
    (λ now next_is alike told set index still pairs has_pairs.
    subst (λ (n : ℕ). AreStuck n (low_pair page before) pairs) next_is (stuck told set index refl pairs has_pairs))
    in
    subst (λ (n : ℕ). IsMergedTo honest at before n later old new) (omega arith)
    (subst (λ (n : ℕ). IsMergedTo honest at before merged n old new) (sym same.1)
    (subst (λ (ps : List PartValue). IsMergedTo honest at before merged next old ps) (sym same.0) kept))

pub step_none : {honest : Bool} (page : ℕ) (at : Option ℕ) (before : List TermPage) (merged next : ℕ) (old here : List PartValue) → IsBehind page at before
    → IsMergedTo honest (Some page) before merged next old here → has_deltas (term_page page before) ≡ false
    → IsMergedTo honest at before (merged + as_number false) next old here
step_none {honest = honest} page at before merged next old here behind is none =
    subst (λ (n : ℕ). IsMergedTo honest at before n next old here) (omega arith)
    (left_one page at before merged next old here behind is
    (λ now next_is alike told set index still pairs has_pairs. absurd (not_still none (sym alike ∙ still))))
  where
    not_still : {b : Bool} → b ≡ false → b ≡ true → ⊥
    not_still first so = absurd (cc)

-- ---- a whole page

pub whole_planned : {honest : Bool} (page : ℕ) (before here now : List TermPage) (earlier old new : List PartValue) (next later : ℕ)
    (pairs list : List Pair) → page < length before
    → IsUpTo (low_pair page before) before now earlier → next ≡ length now → here ≡ before → list ≡ pairs
    → (IsTrue honest → (some : List Pair) → HasPairs (term_page page before) some → (p : Pair) → has p pairs ≡ has p some) → AllBelong list page here
    → (page < length now → low_pair page now ≡ low_pair page here → AllBelong list page now → IsRewritten page list now later old new)
    → IsPagePlanned honest page [] before now true later (λ number. 0) old new
whole_planned page before here now earlier old new next later pairs list there up next_is same list_is has_pairs belong rewritten =
    planned_by_bases page [] before now earlier old new next later pairs list there up next_is tt (λ p h. absurd (cc))
    (subst (λ (ts : List TermPage). AllBelong list page ts) same belong) has_pairs (λ p. ap (has p) list_is)
    (subst (λ (ts : List TermPage). page < length now → low_pair page now ≡ low_pair page ts → AllBelong list page now
    → IsRewritten page list now later old new)
    same rewritten)

pub stuck_whole : (before here : List TermPage) (set : PairSet) (page next : ℕ) (pairs list some : List Pair) → IsIndex before set
    → page < length before → here ≡ before → list ≡ pairs → Rise pairs
    → ((any : List Pair) → HasPairs (term_page page before) any → (p : Pair) → has p pairs ≡ has p any) → HasPairs (term_page page before) some
    → (AllBelong list page here → AreStuck next (low_pair page here) list) → AreStuck next (low_pair page before) some
stuck_whole before here set page next pairs list some index there same list_is rise has_pairs has_some full =
    let all : AllBelong list page before =
    subst (λ (ps : List Pair). AllBelong ps page before) (sym list_is) (all_of_page before set page pairs index there has_pairs)
    in
    let they : pairs ≡ some = its_pairs (term_page page before) pairs some rise has_some (has_pairs some has_some) in
    subst (λ (ts : List TermPage). AreStuck next (low_pair page ts) some) same
    (subst (AreStuck next (low_pair page here)) (list_is ∙ they) (full (subst (λ (ts : List TermPage). AllBelong list page ts) (sym same) all)))

-- ---- a step, by what merging answers

pub step_by : {honest : Bool} (result : Result Bool StoreFault) (page : ℕ) (at : Option ℕ) (before : List TermPage) (merged next later : ℕ)
    (old here new : List PartValue) → IsBehind page at before
    → IsMergedTo honest (Some page) before merged next old here → has_deltas (term_page page before) ≡ true
    → ((now : List TermPage) (earlier : List PartValue) → IsUpTo (low_pair page before) before now earlier → next ≡ length now
    → IfOk result (λ done. done ≡ true → IsPagePlanned honest page [] before now true later (λ number. 0) here new))
    → IfOk result (λ done. done ≡ false → (new ≡ here) × (later ≡ next))
    → (IsTrue honest → (set : PairSet) → IsIndex before set
    → IfOk result (λ done. done ≡ false → (pairs : List Pair) → HasPairs (term_page page before) pairs → AreStuck next (low_pair page before) pairs))
    → (IsTrue honest → OnOk result (IsInGrammar (term_page page before)))
    → IfOk result (λ done. IsMergedTo honest at before (merged + as_number done) later old new)
step_by (Ok done) page at before merged next later old here new behind is deltas planned left stuck met =
    step_done page at before merged next later old here new done behind is deltas planned left stuck met
step_by (Err fault) page at before merged next later old here new behind is deltas planned left stuck met = tt

-- ---- the walk ends

pub walk_shorter : (at : Option ℕ) (next : Option ℕ) (page : ℕ) (before after : List TermPage) → at ≡ Some page → after ≡ before
    → IfSome next (λ behind. IsNextPage page behind after)
    → steps_left next before < steps_left at before
walk_shorter at next page before after is same found =
    subst (λ (o : Option ℕ). steps_left next before < steps_left o before) (sym is)
    (by_next next (subst (λ (ts : List TermPage). IfSome next (λ behind. IsNextPage page behind ts)) same found))
  where
    by_next : (o : Option ℕ) → IfSome o (λ behind. IsNextPage page behind before) → steps_left o before < steps_left (Some page) before
    by_next None found = omega arith
    by_next (Some behind) found = omega (arith, fewer_behind page behind before found)

pub number_small : (done : Bool) → as_number done ≤ 1
number_small true = omega arith
number_small false = omega arith

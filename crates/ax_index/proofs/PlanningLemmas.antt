-- A plan, page by page.
use Rattle.std.proofs.Common.{◌≡◌, ◌≢◌, ℕ, ◌+◌, ◌<◌, ◌≤◌, List, [], ◌∷◌, ◌++◌, length, arith, refl}
use Rattle.std.proofs.Common.{sym, ap, ◌∙◌, subst, Bool, true, false, cond, append_assoc}
use Rattle.std.proofs.Common.{append-nil, ⊎_elim, inl, inr}
use Rattle.std.specs.Option.{unwrap_or}
use Rattle.std.specs.Prelude.{IsTrue}
use Rattle.std.specs.declared.cmp.Ordering.TheVariants.{Less}
use Rattle.std.proofs.lemmas.Bool.{cases_eq, cases_lt}
use Rattle.ax_frame.specs.Part.{PartValue}
use Rattle.ax_pair.specs.declared.pair.Pair.{Pair}
use Rattle.ax_pair.specs.Order.{pair_cmp, Rise, RiseAfter}
use Rattle.ax_pair.proofs.PairOrder.{pair_cmp_total}
use Rattle.ax_delta.specs.declared.change.Change.{Change}
use Rattle.ax_delta.specs.Changes.{changed_pairs}
use Rattle.ax_delta.specs.Said.{has, said_by}
use Rattle.ax_delta.proofs.SamePair.{less_apart, true_or_false}
use Rattle.ax_pages.specs.Contents.{TermPage, term_page}
use Rattle.ax_pages.specs.TermPages.{AreApart, IsLastPage, IsNextPage, IsPageOf, low_pair}
use Rattle.ax_pairs.specs.Index.{AllBelong, IsIndex}
use Rattle.ax_pairs.specs.PagePairs.{HasPairs}
use Rattle.ax_pairs.specs.PairSets.{PairSet, with_changes}
use Rattle.ax_pairs.proofs.PairOrder.{NotAfter, order_cases, same_not_after, less_not_after, not_both, less_then, then_less, not_after_then}
use Rattle.ax_pairs.proofs.Changed.{here_merged, others_same}
use Rattle.ax_pairs.proofs.Leading.{lead_nothing, lead_then}
use Rattle.ax_pairs.proofs.Sets.{changed_twice, same_set}
use Rattle.ax_store.specs.Kept.{deltas_of}
use Rattle.ax_index.specs.Carried.{HasLowPair, HasSome, IsSettled, bases_put, deltas_put}
use Rattle.ax_index.specs.DeltaRuns.{AreFew, CarryChanges}
use Rattle.ax_index.specs.Grammar.{IsInGrammar}
use Rattle.ax_index.specs.Planning.{AreBefore, IsPartedAt, IsUpTo, IsPageDone, IsPagePlanned, IsFirstOf, IsPlannedTo}
use Rattle.ax_index.specs.Plans.{IsPlan, most_merged}
use Rattle.ax_index.specs.Rewriting.{Rewrites}
use Rattle.ax_index.proofs.CarriedLemmas.{bases_put_more, later_bases, many_deltas, no_bases_put}
use Rattle.ax_index.proofs.CarriedLemmas.{no_deltas_put, same_bases, settled_here, settled_none}
use Rattle.ax_index.proofs.CarriedLemmas.{settled_other, some_in, was_merged}
use Rattle.ax_index.proofs.Lists.{deltas_more, bases_more, changed_more, first_least, not_in_first}
use Rattle.ax_index.proofs.RewritingLemmas.{finished}

-- ---- where a page ends

-- a pair from the low pair of a page on that is before the next page is of the page
pub within_page : (pages : List TermPage) (page next : ℕ) (p : Pair) → page < length pages → IsNextPage page next pages → NotAfter (low_pair page pages) p
    → pair_cmp p (low_pair next pages) ≡ Less → IsPageOf p page pages
within_page pages page next p there is from before = record {
  there = there;
  below = from;
  greatest = λ other h not_after.
      ⊎_elim
      (λ (up : NotAfter (low_pair other pages) (low_pair page pages)). up)
      (λ (behind : pair_cmp (low_pair page pages) (low_pair other pages) ≡ Less).
      absurd (is.least other h behind (then_less (low_pair other pages) p (low_pair next pages) not_after before)))
      (order_cases (low_pair other pages) (low_pair page pages));
}

pub within_last : (pages : List TermPage) (page : ℕ) (p : Pair) → page < length pages → IsLastPage page pages → NotAfter (low_pair page pages) p
    → IsPageOf p page pages
within_last pages page p there last from = record {
  there = there;
  below = from;
  greatest = λ other h not_after.
      ⊎_elim
      (λ (up : NotAfter (low_pair other pages) (low_pair page pages)). up)
      (λ (behind : pair_cmp (low_pair page pages) (low_pair other pages) ≡ Less). absurd (last other h behind))
      (order_cases (low_pair other pages) (low_pair page pages));
}

-- and a pair of the page is before the next one
pub before_next : (pages : List TermPage) (page next : ℕ) (p : Pair) → IsNextPage page next pages → IsPageOf p page pages
    → pair_cmp p (low_pair next pages) ≡ Less
before_next pages page next p is of =
    ⊎_elim
    (λ (not_after : NotAfter (low_pair next pages) p).
    absurd (not_both (low_pair page pages) (low_pair next pages) is.after (of.greatest next is.there not_after)))
    (λ (less : pair_cmp p (low_pair next pages) ≡ Less). less)
    (order_cases (low_pair next pages) p)

-- pairs between two of one page are of it
pub between : (pages : List TermPage) (page : ℕ) (first p last : Pair) → IsPageOf first page pages → IsPageOf last page pages → NotAfter first p
    → NotAfter p last → IsPageOf p page pages
between pages page first p last of_first of_last from to = record {
  there = of_first.there;
  below = not_after_then (low_pair page pages) first p of_first.below from;
  greatest = λ other h not_after. of_last.greatest other h (not_after_then (low_pair other pages) p last not_after to);
}

-- the changes up to the end of the page of the first are of it
pub run_belongs : (pages : List TermPage) (page : ℕ) (change : Change) (run behind : List Change) → IsPageOf change.pair page pages
    → RiseAfter change.pair (changed_pairs run)
    → IsPartedAt page (change ∷ run) behind pages → AllBelong (changed_pairs (change ∷ run)) page pages
run_belongs pages page change run behind of rise parted p h =
    let from : NotAfter (low_pair page pages) p =
    not_after_then (low_pair page pages) change.pair p of.below (first_least change.pair p (changed_pairs run) rise h)
    in
    by_end from parted
  where
    by_end : NotAfter (low_pair page pages) p → IsPartedAt page (change ∷ run) behind pages → IsPageOf p page pages
    by_end from (inl (next, is, ends)) = within_page pages page next p of.there is from (ends.are_before p h)
    by_end from (inr (last, none)) = within_last pages page p of.there last from

-- ---- the pages from a bound on

pub of_now : (bound : Pair) (before now : List TermPage) (parts : List PartValue) (p : Pair) (page : ℕ) → IsUpTo bound before now parts
    → NotAfter bound (low_pair page before) → IsPageOf p page before → IsPageOf p page now
of_now bound before now parts p page is from of = record {
  there = omega (arith, of.there, is.longer);
  below = subst (λ (l : Pair). NotAfter l p) (sym (is.lows page of.there)) of.below;
  greatest = λ other h not_after.
      subst (λ (l : Pair). NotAfter (low_pair other now) l) (sym (is.lows page of.there))
      (⊎_elim
      (λ (old : other < length before).
      subst (λ (l : Pair). NotAfter l (low_pair page before)) (sym (is.lows other old))
      (of.greatest other old (subst (λ (l : Pair). NotAfter l p) (is.lows other old) not_after)))
      (λ (new : length before ≤ other).
      less_not_after (low_pair other now) (low_pair page before)
      (less_then (low_pair other now) bound (low_pair page before) (is.fresh other new h) from))
      (cases_lt other (length before)));
}

pub all_now : (before now : List TermPage) (parts : List PartValue) (pairs : List Pair) (page : ℕ) → IsUpTo (low_pair page before) before now parts
    → AllBelong pairs page before → AllBelong pairs page now
all_now before now parts pairs page is belong p h =
    of_now (low_pair page before) before now parts p page is (same_not_after (low_pair page before) (low_pair page before) refl) (belong p h)

-- ---- one page

pub done_by_deltas : {honest : Bool} (page : ℕ) (changes : List Change) (before now after : List TermPage) (parts : List PartValue)
    → AllBelong (changed_pairs changes) page now
    → page < length before → CarryChanges page changes now parts after → AreFew changes (deltas_of page parts)
    → IsPageDone honest page changes before now parts after false
done_by_deltas page changes before now after parts belong there carry few = record {
  lead = carry.lead;
  longer = omega (arith, carry.lows.many);
  lows = λ n h. carry.lows.low n;
  fresh = λ n from below. absurd (omega (arith, carry.lows.many));
  same = λ n h apart. carry.same n apart;
  deltas = carry.deltas;
  bases = carry.no_bases (length before);
  elsewhere = λ n h apart. none_put n;
  new_once = λ n from below. absurd (omega (arith, carry.lows.many));
  none_beyond = λ n past. none_put n;
  put = (
    no_bases_put page (length before) parts there (carry.no_bases (length before)),
    record { are = carry.are; one = λ more. few (omega (arith, more, many_deltas page parts)) },
  );
  new_with = λ n from below. absurd (omega (arith, carry.lows.many));
  filled = λ merged. absurd (cc);
  bare = λ merged. absurd (cc);
  new_bare = λ n from below. absurd (omega (arith, carry.lows.many));
  holds = λ told set is. carry.holds set is belong;
}
  where
    none_put : (n : ℕ) → bases_put n parts ≡ []
    none_put n = no_bases_put n (n + 1) parts (omega arith) (carry.no_bases (n + 1))

pub done_by_bases : {honest : Bool} (page : ℕ) (changes : List Change) (before now after : List TermPage) (parts earlier : List PartValue)
    (pairs list : List Pair)
    → page < length before → IsUpTo (low_pair page before) before now earlier → Rise (changed_pairs changes) → AllBelong (changed_pairs changes) page now
    → AllBelong list page before → (IsTrue honest → (some : List Pair) → HasPairs (term_page page before) some → (p : Pair) → has p pairs ≡ has p some)
    → ((p : Pair) → has p list ≡ unwrap_or (said_by p changes) (has p pairs))
    → Rewrites page list [] now parts after → IsPageDone honest page changes before now parts after true
done_by_bases {honest = honest} page changes before now after parts earlier pairs list there up rise belong of_page has_pairs made is = record {
  lead = is.lead;
  longer = is.longer;
  lows = is.lows;
  fresh = λ n from below next behind. before_next before page next (low_pair n after) behind (of_page (low_pair n after) (is.fresh n from below));
  same = is.same;
  deltas = λ n apart. is.no_deltas n;
  bases = is.one_base (length before) there up.longer;
  elsewhere = is.elsewhere;
  new_once = is.new_once;
  none_beyond = is.none_beyond;
  put = (is.own, no_deltas_put page parts (is.no_deltas page));
  new_with = is.new_with;
  filled = λ merged told set index p of member.
      is.filled
      (some_in p list
      (here_merged now set page changes (index.pairs page) list index rise (index.have page (now_there up)) (made_now told set index) p of ∙ member));
  bare = λ merged. is.bare;
  new_bare = is.new_bare;
  holds = λ told set index.
      finished page list now parts after is set (with_changes changes set) index
      (record {
        here = here_merged now set page changes (index.pairs page) list index rise (index.have page (now_there up)) (made_now told set index);
        others = others_same now set page changes index.apart rise belong;
      });
}
  where
    now_there : IsUpTo (low_pair page before) before now earlier → page < length now
    now_there is_up = omega (arith, there, is_up.longer)

    made_now : IsTrue honest → (set : PairSet) (index : IsIndex now set) → (p : Pair) → has p list ≡ unwrap_or (said_by p changes) (has p (index.pairs page))
    made_now told set index p =
        let same : term_page page now ≡ term_page page before =
        up.same page there (λ less. less_apart (low_pair page before) (low_pair page before) less refl)
        in
        let mine : HasPairs (term_page page now) (index.pairs page) = index.have page (now_there up) in
        let was : HasPairs (term_page page before) (index.pairs page) = subst (λ (x : TermPage). HasPairs x (index.pairs page)) same mine in
        made p ∙ ap (unwrap_or (said_by p changes)) (has_pairs told (index.pairs page) was p)

-- ---- all pages

pub planned_none : {honest : Bool} (changes : List Change) (before : List TermPage) (room : ℕ → ℕ) (old : List PartValue)
    → IsPlannedTo honest changes changes before 0 (length before) room old old
planned_none changes before room old = record {
  parts = [];
  added = sym (append-nil old);
  done = [];
  whole = refl;
  now = before;
  lead = lead_nothing before;
  holds = λ told set is. is;
  merges = refl;
  next_is = refl;
  ready = λ page first. record {
    longer = omega arith;
    lows = λ n h. refl;
    fresh = λ n from below. absurd (omega arith);
    same = λ n h from. refl;
    none = λ n h from. refl;
    no_bases = λ n h from. refl;
  };
  enough = λ number. omega arith;
  passed = λ page first p h. absurd (cc);
  each = λ apart number h. settled_none number before;
  longer = omega arith;
  new_without = λ number from. refl;
  new_once = λ number from below. absurd (omega arith);
  none_beyond = λ number past. refl;
  new_with = λ number from below. absurd (omega arith);
  filled = λ told set index number h some p of member. absurd (omega (arith, some));
  met = λ told number h some. absurd (omega (arith, some));
}

-- from the page behind one that is done on, pages are as they were
pub up_behind : {honest : Bool} (page after other : ℕ) (changes : List Change) (before now new : List TermPage) (parts more : List PartValue)
    (merged : Bool) → IsUpTo (low_pair page before) before now parts
    → IsPageDone honest page changes before now more new merged → IsNextPage page after before → NotAfter (low_pair after before) (low_pair other before)
    → IsUpTo (low_pair other before) before new (parts ++ more)
up_behind page after other changes before now new parts more merged up done behind_it up_to =
    let less : pair_cmp (low_pair page before) (low_pair other before) ≡ Less =
    less_then (low_pair page before) (low_pair after before) (low_pair other before) behind_it.after up_to
    in
    let lower : (n : ℕ) → (pair_cmp (low_pair n before) (low_pair other before) ≡ Less → ⊥) → pair_cmp (low_pair n before) (low_pair page before) ≡ Less → ⊥ =
    λ n from before_page. from (pair_cmp_total.trans (low_pair n before) (low_pair page before) (low_pair other before) before_page less)
    in
    let apart : (n : ℕ) → (pair_cmp (low_pair n before) (low_pair other before) ≡ Less → ⊥) → n ≢ page =
    λ n from e. from (subst (λ (k : ℕ). pair_cmp (low_pair k before) (low_pair other before) ≡ Less) (sym e) less)
    in
    record {
      longer = omega (arith, up.longer, done.longer);
      lows = λ n h. done.lows n (omega (arith, up.longer)) ∙ up.lows n h;
      fresh = λ n from below.
          ⊎_elim
          (λ (was : n < length now).
          subst (λ (l : Pair). pair_cmp l (low_pair other before) ≡ Less) (sym (done.lows n was))
          (pair_cmp_total.trans (low_pair n now) (low_pair page before) (low_pair other before) (up.fresh n from was) less))
          (λ (new_one : length now ≤ n).
          less_then (low_pair n new) (low_pair after before) (low_pair other before) (done.fresh n new_one below after behind_it) up_to)
          (cases_lt n (length now));
      same = λ n h from. done.same n (omega (arith, up.longer)) (apart n from) ∙ up.same n h (lower n from);
      none = λ n h from. omega (arith, deltas_more n parts more, up.none n h (lower n from), done.deltas n (apart n from));
      no_bases = λ n h from.
          bases_put_more n parts more
          ∙ ap (λ (ps : List (List ℕ)). ps ++ bases_put n more) (up.no_bases n h (lower n from))
          ∙ done.elsewhere n (omega (arith, h, up.longer)) (apart n from);
    }

abbrev pub as_number : Bool → ℕ
as_number merged = cond merged 1 0

module _ {honest : Bool} (changes run behind : List Change) (before : List TermPage) (merged next : ℕ) (room more : ℕ → ℕ)
    (old here new : List PartValue) (page : ℕ) (is_merged : Bool) (later : ℕ)
    (is : IsPlannedTo honest changes (run ++ behind) before merged next room old here) (up : IsUpTo (low_pair page before) before is.now is.parts)
    (there : page < length before) (first_here : IsFirstOf (run ++ behind) page before) (some : 0 < length run)
    (belong : AllBelong (changed_pairs run) page before) (rise : Rise (changed_pairs run))
    (parted : IsPartedAt page run behind before) (planned : IsPagePlanned honest page run before is.now is_merged later more here new)
    (never_less : (number : ℕ) → room number ≤ more number) (met : is_merged ≡ true → IsTrue honest → IsInGrammar (term_page page before)) where
  -- the page of what is behind is behind
  past : (other : ℕ) → IsFirstOf behind other before → (after : ℕ) × IsNextPage page after before × NotAfter (low_pair after before) (low_pair other before)
  past other first = by_changes behind first parted
    where
      by_changes : (left : List Change) → IsFirstOf left other before → IsPartedAt page run left before
          → (after : ℕ) × IsNextPage page after before × NotAfter (low_pair after before) (low_pair other before)
      by_changes [] first parted = absurd first
      by_changes (change ∷ left) first (inl (after, behind_it, ends)) = (
        after,
        behind_it,
        first.greatest after behind_it.there
            (λ greater.
            ⊎_elim
            (λ (not_after : NotAfter (low_pair after before) change.pair). not_after greater)
            (λ (less : pair_cmp change.pair (low_pair after before) ≡ Less). ends.starts less)
            (order_cases (low_pair after before) change.pair)),
      )
      by_changes (change ∷ left) first (inr (last, none)) = absurd (cc)

  ready_behind : (other : ℕ) → IsFirstOf behind other before → IsUpTo (low_pair other before) before planned.after (is.parts ++ planned.parts)
  ready_behind other first =
      let (after, behind_it, up_to) = past other first in
      up_behind page after other run before is.now planned.after is.parts planned.parts is_merged up planned.done behind_it up_to

  room_behind : (number : ℕ) → deltas_of number (is.parts ++ planned.parts) ≤ more number
  room_behind number =
      ⊎_elim
      (λ (e : number ≡ page).
      let none : deltas_of page is.parts ≡ 0 = up.none page there (λ less. less_apart (low_pair page before) (low_pair page before) less refl) in
      subst (λ (n : ℕ). deltas_of n (is.parts ++ planned.parts) ≤ more n) (sym e)
      (omega (arith, deltas_more page is.parts planned.parts, none, planned.enough)))
      (λ (apart : number ≡ page → ⊥).
      omega (arith, deltas_more number is.parts planned.parts, planned.done.deltas number apart, is.enough number, never_less number))
      (cases_eq number page)

  passed_behind : (other : ℕ) → IsFirstOf behind other before → AreBefore (changed_pairs (is.done ++ run)) (low_pair other before)
  passed_behind other first p h =
      let (after, behind_it, up_to) = past other first in
      let parted_there : has p (changed_pairs is.done ++ changed_pairs run) ≡ true = sym (ap (has p) (changed_more is.done run)) ∙ h in
      ⊎_elim
      (λ (earlier : has p (changed_pairs is.done) ≡ true).
      pair_cmp_total.trans p (low_pair page before) (low_pair other before) (is.passed page first_here p earlier)
      (less_then (low_pair page before) (low_pair after before) (low_pair other before) behind_it.after up_to))
      (λ (not_in : has p (changed_pairs is.done) ≡ false).
      less_then p (low_pair after before) (low_pair other before)
      (before_next before page after p behind_it (belong p (sym (not_in_first p (changed_pairs is.done) (changed_pairs run) not_in) ∙ parted_there))) up_to)
      (true_or_false (has p (changed_pairs is.done)))

  same_page : pair_cmp (low_pair page before) (low_pair page before) ≡ Less → ⊥
  same_page less = less_apart (low_pair page before) (low_pair page before) less refl

  each_now : AreApart before → (number : ℕ) → number < length before → IsSettled number before (is.done ++ run) (is.parts ++ planned.parts)
  each_now are number h =
      ⊎_elim
      (λ (e : number ≡ page).
      subst (λ (n : ℕ). IsSettled n before (is.done ++ run) (is.parts ++ planned.parts)) (sym e)
      (settled_here page before is.done run is.parts planned.parts belong is_merged some (is.passed page first_here)
      (up.no_bases page there same_page) (no_deltas_put page is.parts (up.none page there same_page)) planned.done.put))
      (λ (apart : number ≡ page → ⊥).
      settled_other page before is.done run is.parts planned.parts belong number are apart
      (planned.done.elsewhere number (omega (arith, h, up.longer)) apart)
      (no_deltas_put number planned.parts (planned.done.deltas number apart)) (is.each are number h))
      (cases_eq number page)

  filled_now : IsTrue honest → (set : PairSet) → IsIndex before set → (number : ℕ) → number < length before
      → 0 < length (bases_put number (is.parts ++ planned.parts)) → (p : Pair) → IsPageOf p number before → with_changes (is.done ++ run) set p ≡ true
      → HasSome (term_page number planned.after)
  filled_now told set index number h based p of member =
      let twice : with_changes run (with_changes is.done set) p ≡ true = sym (changed_twice is.done run set p) ∙ member in
      ⊎_elim
      (λ (e : number ≡ page).
      let bases : bases_put number (is.parts ++ planned.parts) ≡ bases_put page planned.parts =
      ap (λ (n : ℕ). bases_put n (is.parts ++ planned.parts)) e ∙ later_bases page is.parts planned.parts (up.no_bases page there same_page)
      in
      subst (λ (n : ℕ). HasSome (term_page n planned.after)) (sym e)
      (planned.done.filled
      (was_merged is_merged run (bases_put page planned.parts) (deltas_put page planned.parts) planned.done.put
      (omega (arith, based, ap (λ (ps : List (List ℕ)). length ps) bases)))
      told (with_changes is.done set) (is.holds told set index) p
      (of_now (low_pair page before) before is.now is.parts p page up (same_not_after (low_pair page before) (low_pair page before) refl)
      (subst (λ (n : ℕ). IsPageOf p n before) e of))
      twice))
      (λ (apart : number ≡ page → ⊥).
      let bases : bases_put number (is.parts ++ planned.parts) ≡ bases_put number is.parts =
      same_bases number is.parts planned.parts (planned.done.elsewhere number (omega (arith, h, up.longer)) apart)
      in
      subst HasSome (sym (planned.done.same number (omega (arith, h, up.longer)) apart))
      (is.filled told set index number h (omega (arith, based, ap (λ (ps : List (List ℕ)). length ps) bases)) p of
      (others_same before (with_changes is.done set) page run index.apart rise belong p number apart of ∙ twice)))
      (cases_eq number page)

  met_now : IsTrue honest → (number : ℕ) → number < length before → 0 < length (bases_put number (is.parts ++ planned.parts))
      → IsInGrammar (term_page number before)
  met_now told number h based =
      ⊎_elim
      (λ (e : number ≡ page).
      let bases : bases_put number (is.parts ++ planned.parts) ≡ bases_put page planned.parts =
      ap (λ (n : ℕ). bases_put n (is.parts ++ planned.parts)) e ∙ later_bases page is.parts planned.parts (up.no_bases page there same_page)
      in
      subst (λ (n : ℕ). IsInGrammar (term_page n before)) (sym e)
      (met
      (was_merged is_merged run (bases_put page planned.parts) (deltas_put page planned.parts) planned.done.put
      (omega (arith, based, ap (λ (ps : List (List ℕ)). length ps) bases)))
      told))
      (λ (apart : number ≡ page → ⊥).
      let bases : bases_put number (is.parts ++ planned.parts) ≡ bases_put number is.parts =
      same_bases number is.parts planned.parts (planned.done.elsewhere number (omega (arith, h, up.longer)) apart)
      in
      is.met told number h (omega (arith, based, ap (λ (ps : List (List ℕ)). length ps) bases)))
      (cases_eq number page)

  not_page : (number : ℕ) → length before ≤ number → number ≢ page
  not_page number from e = omega (arith, e, from, there)

  -- a new page has one base: of the parts that were put before, or of these
  new_once_now : (number : ℕ) → length before ≤ number → number < length planned.after → length (bases_put number (is.parts ++ planned.parts)) ≡ 1
  new_once_now number from below =
      ⊎_elim
      (λ (l : number < length is.now).
      ap (λ (ps : List (List ℕ)). length ps)
      (same_bases number is.parts planned.parts (planned.done.elsewhere number l (not_page number from)))
      ∙ is.new_once number from l)
      (λ (l : length is.now ≤ number).
      ap (λ (ps : List (List ℕ)). length ps) (later_bases number is.parts planned.parts (is.none_beyond number l))
      ∙ planned.done.new_once number l below)
      (cases_lt number (length is.now))

  pub planned_more : IsPlannedTo honest changes behind before (merged + as_number is_merged) later more old new
  planned_more = record {
    parts = is.parts ++ planned.parts;
    added = planned.added ∙ ap (λ (ps : List PartValue). ps ++ planned.parts) is.added ∙ append_assoc old is.parts planned.parts;
    done = is.done ++ run;
    whole = is.whole ∙ sym (append_assoc is.done run behind);
    now = planned.after;
    lead = lead_then is.parts planned.parts before is.now planned.after is.lead planned.done.lead;
    holds = λ told set index.
        same_set planned.after (with_changes run (with_changes is.done set)) (with_changes (is.done ++ run) set)
        (λ p. sym (changed_twice is.done run set p))
        (planned.done.holds told (with_changes is.done set) (is.holds told set index));
    merges = omega (arith, bases_more (length before) is.parts planned.parts, is.merges, planned.done.bases);
    next_is = planned.next_is;
    ready = ready_behind;
    enough = room_behind;
    passed = passed_behind;
    each = each_now;
    filled = filled_now;
    met = met_now;
    longer = omega (arith, is.longer, planned.done.longer);
    new_once = new_once_now;
    none_beyond = λ number past.
        later_bases number is.parts planned.parts (is.none_beyond number (omega (arith, past, planned.done.longer)))
        ∙ planned.done.none_beyond number past;
    new_without = λ number from.
        omega (arith, deltas_more number is.parts planned.parts, is.new_without number from, planned.done.deltas number (not_page number from));
    new_with = λ number from below.
        ⊎_elim
        (λ (l : number < length is.now).
        subst HasLowPair (sym (planned.done.same number l (not_page number from))) (is.new_with number from l))
        (λ (l : length is.now ≤ number). planned.done.new_with number l below)
        (cases_lt number (length is.now));
  }

pub planned_all : {honest : Bool} (changes : List Change) (before : List TermPage) (merged next : ℕ) (room : ℕ → ℕ) (old new : List PartValue)
    → IsPlannedTo honest changes [] before merged next room old new → merged ≤ most_merged → IsPlan honest changes merged old new before
planned_all changes before merged next room old new is few = record {
  parts = is.parts;
  added = is.added;
  after = is.now;
  lead = is.lead;
  holds = λ told set index.
      subst (λ (made : List Change). IsIndex is.now (with_changes made set)) (sym (is.whole ∙ append-nil is.done)) (is.holds told set index);
  merges = is.merges;
  few = few;
  each = λ apart number h.
      subst (λ (made : List Change). IsSettled number before made is.parts) (sym (is.whole ∙ append-nil is.done)) (is.each apart number h);
  new_without = λ number from. no_deltas_put number is.parts (is.new_without number from);
  new_once = is.new_once;
  none_beyond = is.none_beyond;
  new_with = is.new_with;
  filled = λ told set index number h some p of member.
      is.filled told set index number h some p of (subst (λ (made : List Change). with_changes made set p ≡ true) (is.whole ∙ append-nil is.done) member);
  met = is.met;
}

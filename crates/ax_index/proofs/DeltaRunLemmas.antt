-- Deltas of one page, one after another.
use Rattle.std.proofs.Common.{◌≡◌, ◌≢◌, ℕ, ◌+◌, ◌<◌, List, [], ◌∷◌, ◌++◌, length, arith, refl, sym, ap, ◌∙◌, subst, Bool, cond}
use Rattle.std.proofs.lemmas.Bool.{eq-eqb, ne_eqb}
use Rattle.ax_frame.specs.Part.{PartValue}
use Rattle.ax_pair.specs.Order.{Rise}
use Rattle.ax_delta.specs.declared.change.Change.{Change}
use Rattle.ax_delta.specs.Changes.{changed_pairs, term_changes_of}
use Rattle.ax_delta.specs.Payload.{IsDelta}
use Rattle.ax_delta.specs.Said.{has}
use Rattle.ax_pages.specs.Contents.{TermPage, term_page}
use Rattle.ax_pages.specs.AfterPart.{after_delta, with_delta}
use Rattle.ax_pages.proofs.TermLists.{set_other}
use Rattle.ax_pairs.specs.Index.{AllBelong}
use Rattle.ax_pairs.specs.PairSets.{with_changes}
use Rattle.ax_pairs.proofs.Belonging.{HaveSameLows, belongs_still}
use Rattle.ax_pairs.proofs.Changed.{set_lows, delta_set}
use Rattle.ax_pairs.proofs.Leading.{lead_nothing, lead_then, lead_delta, delta_part}
use Rattle.ax_pairs.proofs.Sets.{changed_twice, same_set}
use Rattle.ax_store.specs.Kept.{deltas_of}
use Rattle.ax_index.specs.Carried.{AreDeltasOf, deltas_put}
use Rattle.ax_index.specs.DeltaRuns.{KeepLows, CarryChanges}
use Rattle.ax_index.proofs.CarriedLemmas.{carried_one, carried_then, deltas_put_more}
use Rattle.ax_index.proofs.Lists.{deltas_more, bases_more, changed_more, in_first, in_second}

pub as_same_lows : (before after : List TermPage) → KeepLows before after → HaveSameLows before after
as_same_lows before after keep = record { many = keep.many; low = keep.low }

pub keep_lows : (before after : List TermPage) → HaveSameLows before after → KeepLows before after
keep_lows before after same = record { many = same.many; low = same.low }

pub carry_nothing : (page : ℕ) (now : List TermPage) → CarryChanges page [] now [] now
carry_nothing page now = record {
  lead = lead_nothing now;
  lows = record { many = refl; low = λ n. refl };
  same = λ n apart. refl;
  deltas = λ n apart. refl;
  no_bases = λ count. refl;
  are = refl;
  holds = λ set is belong. is;
}

no_delta_of : (page n : ℕ) (payload : List ℕ) → n ≢ page → deltas_of n (delta_part page payload ∷ []) ≡ 0
no_delta_of page n payload apart = ap (λ (b : Bool). cond b 1 0 + 0) (ne_eqb page n (λ e. apart (sym e)))

pub one_delta_of : (page : ℕ) (payload : List ℕ) → deltas_of page (delta_part page payload ∷ []) ≡ 1
one_delta_of page payload = ap (λ (b : Bool). cond b 1 0 + 0) (eq-eqb page page refl)

pub carry_one : (page : ℕ) (changes : List Change) (now : List TermPage) (payload : List ℕ) → page < length now → Rise (changed_pairs changes)
    → IsDelta payload (term_changes_of changes) → CarryChanges page changes now (delta_part page payload ∷ []) (after_delta page payload now)
carry_one page changes now payload there up spelled = record {
  lead = lead_delta now page payload there;
  lows = keep_lows now (after_delta page payload now) (set_lows page (with_delta payload (term_page page now)) now there refl);
  same = λ n apart. set_other page (with_delta payload (term_page page now)) now n apart;
  deltas = λ n apart. no_delta_of page n payload apart;
  no_bases = λ count. refl;
  are = carried_one page changes payload spelled;
  holds = λ set is belong. delta_set now set page payload changes is there up spelled belong;
}

pub carry_then : (page : ℕ) (first second : List Change) (now between after : List TermPage) (a b : List PartValue)
    → CarryChanges page first now a between → CarryChanges page second between b after → CarryChanges page (first ++ second) now (a ++ b) after
carry_then page first second now between after a b one other = record {
  lead = lead_then a b now between after one.lead other.lead;
  lows = record { many = other.lows.many ∙ one.lows.many; low = λ n. other.lows.low n ∙ one.lows.low n };
  same = λ n apart. other.same n apart ∙ one.same n apart;
  deltas = λ n apart. omega (arith, deltas_more n a b, one.deltas n apart, other.deltas n apart);
  no_bases = λ count. omega (arith, bases_more count a b, one.no_bases count, other.no_bases count);
  are = subst (AreDeltasOf (first ++ second)) (sym (deltas_put_more page a b))
      (carried_then (deltas_put page a) (deltas_put page b) first second one.are other.are);
  holds = λ set is belong.
      let pairs : changed_pairs (first ++ second) ≡ changed_pairs first ++ changed_pairs second = changed_more first second in
      let of_first : AllBelong (changed_pairs first) page now =
      λ p h. belong p (ap (has p) pairs ∙ in_first p (changed_pairs first) (changed_pairs second) h)
      in
      let of_second : AllBelong (changed_pairs second) page between =
      λ p h. belongs_still now between p page (as_same_lows now between one.lows)
      (belong p (ap (has p) pairs ∙ in_second p (changed_pairs first) (changed_pairs second) h))
      in
      same_set after (with_changes second (with_changes first set)) (with_changes (first ++ second) set)
      (λ p. sym (changed_twice first second set p))
      (other.holds (with_changes first set) (one.holds set is of_first) of_second);
}

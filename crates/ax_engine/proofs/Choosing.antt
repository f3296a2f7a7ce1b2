-- What the candidates that were found are to a query: of its plan, all documents that have rows in it, and as many as the
-- index leaves.
use Rattle.std.proofs.Common.{◌≡◌, ◌⊎◌, ◌≤◌, ◌+◌, ◌*◌, ◌==◌, ℕ, zero, suc, List, [], ◌∷◌, length, true, false, Contains, Some, Result, Ok}
use Rattle.std.proofs.Common.{Err, refl, sym, ap, subst, arith, inl, inr, ⊎_elim}
use Rattle.std.proofs.lemmas.Bool.{eq-eqb}
use Rattle.std.specs.Prelude.{IfOk, OnOk}
use Rattle.std.specs.Option.{unwrap_or}
use Rattle.ax_answer_text.specs.Parts.{IsKept}
use Rattle.ax_area.specs.Contents.{Contents}
use Rattle.ax_atoms.specs.Conjuncts.{atoms}
use Rattle.ax_candidates.proofs.Shared.{contains_from_has, has_from_contains}
use Rattle.ax_candidates.specs.Candidates.{AreAllInGrammar, AreCandidates, AreOfAsked}
use Rattle.ax_container.specs.Container.{Container, Entry}
use Rattle.ax_delta.specs.Said.{has_number}
use Rattle.ax_gap.proofs.Members.{same_members}
use Rattle.ax_image_pairs.specs.Indexed.{ContentsHoldAll}
use Rattle.ax_mean.specs.declared.query.Query.{Query}
use Rattle.ax_pages.specs.Contents.{TermPage}
use Rattle.ax_pairs.specs.PairSets.{PairSet}
use Rattle.ax_plan.specs.Ordered.{IsOrdered}
use Rattle.ax_plan.specs.Usable.{AreUnions}
use Rattle.ax_plan.proofs.OneList.{same_unions}
use Rattle.ax_policy.proofs.Orders.{orderable}
use Rattle.ax_policy.specs.Default.{default_policy}
use Rattle.ax_policy.specs.Sameness.{is_orderable}
use Rattle.ax_policy.specs.Table.{Table, policy_at}
use Rattle.ax_policy.specs.declared.policy.Policy.{Policy}
use Rattle.ax_needs.specs.Needs.{is_candidate, need_of_query, unions_of}
use Rattle.ax_needs_laws.proofs.Counting.{all_needed, as_many as needs_as_many}
use Rattle.ax_needs_laws.proofs.SameCandidates.{same_candidates}
use Rattle.ax_skips.specs.Planned.{AreInUse, IsPlannedOver}
use Rattle.ax_store.specs.declared.fault.StoreFault.{StoreFault}
use Rattle.ax_term.specs.declared.range.TermRange.{TermRange}
use Rattle.ax_excerpt.specs.ShownDocuments.{without_pick}
use Rattle.ax_engine.specs.Candidates.{AreFound, AreNone, AreOfUnions, AreRising, CountsTwoEach, HasAllOf, HasJustPolicies, IsAmong}
use Rattle.ax_engine.specs.Damage.{AreRowsOfNone, CountsLeft, CountsPlanned, IsReadWhole, MeetsDocuments, MeetsLeft, MeetsPlanned, StandsInAll}
use Rattle.ax_engine.specs.PolicyNow.{policy_now}
use Rattle.ax_engine.proofs.Walking.{over_fewer}
use Rattle.ax_engine.specs.declared.candidates.Candidates.{Candidates}
use Rattle.ax_engine.specs.declared.candidates.Candidates.TheVariants.{All, Numbers}
use Rattle.ax_engine.specs.declared.rows.Rows.{Rows}

-- ---- the plan

now_is : (table : Table) (policy : Policy) → policy_at table table.current ≡ Some policy → policy_now table ≡ policy
now_is table policy at = ap (λ found. unwrap_or found default_policy) at

-- for whose order the policy now keeps an index, that query has a plan
pub never_unordered : (table : Table) (query : Query) → is_orderable (policy_now table) query.orders ≡ true
    → (IsOrdered table query → ⊥) → ⊥
never_unordered table query kept never =
    never (λ policy at. orderable policy query.orders
    (subst (λ now. is_orderable now query.orders ≡ true) (now_is table policy at) kept))

-- what was found for these unions was found for the query
pub found_by : (table : Table) (query : Query) (pages : List TermPage) (unions : List (List TermRange)) → AreUnions table (atoms query) unions
    → (result : Result Candidates StoreFault) → IfOk result (AreOfUnions unions pages) → IfOk result (AreFound table query pages)
found_by table query pages unions planned (Ok found) are = record { unions = unions; planned = planned; found = are }
found_by table query pages unions planned (Err why) are = tt

-- ---- what was met of the index

first_there : (n : ℕ) (numbers : List ℕ) → has_number n (n ∷ numbers) ≡ true
first_there n numbers = rw (eq-eqb n n refl) refl

-- a list that is not empty has one
pub some_of : (n : ℕ) → false ≡ (n == 0) → 1 ≤ n
some_of zero is = absurd (cc)
some_of (suc n) is = omega arith

-- the pages of all unions, or there is no number
pub all_or_none : (unions : List (List TermRange)) (pages : List TermPage) (numbers : List ℕ)
    → ((number : ℕ) → has_number number numbers ≡ true → AreAllInGrammar unions pages) → AreAllInGrammar unions pages ⊎ (numbers ≡ [])
all_or_none unions pages [] met = inr refl
all_or_none unions pages (n ∷ numbers) met = inl (met n (first_there n numbers))

no_union : (unions : List (List TermRange)) (pages : List TermPage) → unions ≡ [] → AreAllInGrammar unions pages
no_union unions pages none = record {
  each = λ ranges there.
      let inside : Contains [] ranges = subst (λ (us : List (List TermRange)). Contains us ranges) none there in
      absurd (omega (arith, inside.1));
}

index_met : (unions : List (List TermRange)) (pages : List TermPage) (query : Query) (rows : Rows) (found : Candidates)
    → AreOfUnions unions pages found → (AreNone found → AreRowsOfNone query rows)
    → AreAllInGrammar unions pages ⊎ (AreRowsOfNone query rows × AreOfAsked unions pages [])
index_met unions pages query rows All are none = inl (no_union unions pages are)
index_met unions pages query rows (Numbers numbers) are none =
    ⊎_elim {C = AreAllInGrammar unions pages ⊎ (AreRowsOfNone query rows × AreOfAsked unions pages [])}
    (λ (all : AreAllInGrammar unions pages). inl all)
    (λ (no : numbers.items ≡ []). inr (none no, subst (λ (ns : List ℕ). AreOfAsked unions pages ns) no are.asked))
    are.met

-- among the documents at which it looked are those that the index leaves
left_met : (unions : List (List TermRange)) (query : Query) (contents : Contents) (found : Candidates)
    → AreOfUnions unions contents.terms found → MeetsDocuments (IsAmong found) query contents → MeetsLeft unions query contents
left_met [] query contents All are met = met
left_met [] query contents (Numbers numbers) are met = absurd (omega (arith, are.some))
left_met (ranges ∷ unions) query contents All are met = absurd (cc)
left_met (ranges ∷ unions) query contents (Numbers numbers) are met = λ apart.
    over_fewer (λ number. has_number number numbers.items ≡ true) (StandsInAll (ranges ∷ unions) contents.terms)
    (λ text. IsReadWhole query text × IsKept query text) query contents
    (λ number stands. are.asked.all apart number (λ asked there. stands asked (are.asked.among asked there))) met

-- where they are numbers, these rise
pub found_rise : (table : Table) (query : Query) (pages : List TermPage) (found : Candidates) → AreFound table query pages found
    → AreRising found
found_rise table query pages All are = tt
found_rise table query pages (Numbers numbers) are = are.found.rising.rising

-- what a query has met that looked at these documents
pub planned_met : (table : Table) (query : Query) (contents : Contents) (found : Candidates) (rows : Rows)
    → AreFound table query contents.terms found → MeetsDocuments (IsAmong found) query contents
    → (AreNone found → AreRowsOfNone query rows) → MeetsPlanned table query contents rows
planned_met table query contents found rows are met none = record {
  unions = are.unions;
  planned = are.planned;
  index = index_met are.unions contents.terms query rows found are.found none;
  documents = left_met are.unions query contents found are.found met;
}

pub planned_met_by : (table : Table) (query : Query) (contents : Contents) (found : Candidates) (result : Result Rows StoreFault)
    → AreFound table query contents.terms found → (AreRising found → OnOk result (MeetsDocuments (IsAmong found) query contents))
    → (AreNone found → IfOk result (AreRowsOfNone query)) → IfOk result (MeetsPlanned table query contents)
planned_met_by table query contents found (Ok rows) are met none =
    planned_met table query contents found rows are (met (found_rise table query contents.terms found are)) none
planned_met_by table query contents found (Err why) are met none = tt

-- ---- all that have rows

pub has_all : (table : Table) (query : Query) (contents : Contents) (found : Candidates) (container : Container)
    → ContentsHoldAll contents container → AreInUse table container → AreFound table query contents.terms found
    → HasAllOf query found container
has_all table query contents All container hold used are = tt
has_all table query contents (Numbers numbers) container hold used are = record {
  table = table;
  unions = are.unions;
  set = hold.pairs.set;
  planned = record {
    sound = hold.documents.show.sound;
    pairs = hold.pairs.exact;
    used = used;
    planned = are.planned;
  };
  all = λ number candidate. ((are.found.are hold.pairs.set hold.pairs.is).are number).1 candidate;
  rising = are.found.rising;
}

-- the query for the keys of the rows has the same conditions
pub for_keys : (query keys : Query) (found : Candidates) (container : Container) → keys ≡ without_pick query
    → HasAllOf query found container → HasAllOf keys found container
for_keys query keys found container these all = subst (λ (q : Query). HasAllOf q found container) (sym these) (of_keys found all)
  where
    of_keys : (found : Candidates) → HasAllOf query found container → HasAllOf (without_pick query) found container
    of_keys All all = tt
    of_keys (Numbers numbers) all = record {
      table = all.table;
      unions = all.unions;
      set = all.set;
      planned = record {
        sound = all.planned.sound;
        pairs = all.planned.pairs;
        used = all.planned.used;
        planned = all.planned.planned;
      };
      all = all.all;
      rising = all.rising;
    }

-- ---- how many

-- the candidates of a set are as many in each list
as_many : (unions : List (List TermRange)) (set : PairSet) (a b : List ℕ) → AreCandidates unions set a → AreCandidates unions set b
    → length a ≡ length b
as_many unions set a b one other =
    ap length (same_members a b one.rising other.rising (λ n. (
      λ there. contains_from_has b n ((other.are n).1 ((one.are n).0 (has_from_contains a n there))),
      λ there. contains_from_has a n ((one.are n).1 ((other.are n).0 (has_from_contains b n there))),
    )))

counts_left : (unions : List (List TermRange)) (contents : Contents) (found : Candidates) (old new : ℕ)
    → AreOfUnions unions contents.terms found → CountsTwoEach found contents old new → CountsLeft unions contents old new
counts_left [] contents All old new are two = two
counts_left [] contents (Numbers numbers) old new are two = absurd (omega (arith, are.some))
counts_left (ranges ∷ unions) contents All old new are two = absurd (cc)
counts_left (ranges ∷ unions) contents (Numbers numbers) old new are two = λ set is others candidates.
    omega (arith, two, as_many (ranges ∷ unions) set numbers.items others (are.are set is) candidates)

pub counts_planned : (table : Table) (query : Query) (contents : Contents) (found : Candidates) (old new : ℕ)
    → AreFound table query contents.terms found → CountsTwoEach found contents old new → CountsPlanned table query contents old new
counts_planned table query contents found old new are two = λ unions planned.
    subst (λ (us : List (List TermRange)). CountsLeft us contents old new)
    (same_unions table (atoms query) are.unions unions are.planned planned)
    (counts_left are.unions contents found old new are.found two)

-- a call that counts none
none_left : (unions : List (List TermRange)) (contents : Contents) (old new : ℕ) → new ≡ old → CountsLeft unions contents old new
none_left [] contents old new same = λ container hold. omega (arith, same)
none_left (ranges ∷ unions) contents old new same = λ set is numbers candidates. omega (arith, same)

pub none_counted : (table : Table) (query : Query) (contents : Contents) (old new : ℕ) → new ≡ old → CountsPlanned table query contents old new
none_counted table query contents old new same = λ unions planned. none_left unions contents old new same

-- at most two for each document that the query needs
pub within_need : (table : Table) (query : Query) (contents : Contents) (found : Candidates) (container : Container) (old new : ℕ)
    → ContentsHoldAll contents container → HasJustPolicies table container → AreFound table query contents.terms found
    → CountsTwoEach found contents old new → new ≤ old + 2 * need_of_query query container
within_need table query contents found container old new hold just are two = by found are.found two
  where
    over : IsPlannedOver query table are.unions container hold.pairs.set
    over = record { sound = hold.documents.show.sound; pairs = hold.pairs.exact; used = just.used; planned = are.planned }

    same : (entry : Entry) → Contains container.entries entry
        → is_candidate are.unions entry ≡ is_candidate (unions_of container (atoms query)) entry
    same = same_candidates table container just.policies just.used just.just just.now query are.unions are.planned
        hold.documents.show.sound

    by : (found : Candidates) → AreOfUnions are.unions contents.terms found → CountsTwoEach found contents old new
        → new ≤ old + 2 * need_of_query query container
    by All none two =
        omega (
          arith,
          two container hold.documents,
          all_needed query table are.unions container hold.pairs.set over same none,
        )
    by (Numbers numbers) own two =
        omega (
          arith,
          two,
          needs_as_many query table are.unions container hold.pairs.set over same numbers.items
              (own.are hold.pairs.set hold.pairs.is) own.some,
        )

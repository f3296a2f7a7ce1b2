-- Parts that were read and are in their grammar, put together to pages that have pairs.
use Rattle.std.proofs.Common.{◌≡◌, ℕ, suc, ◌+◌, ◌-◌, ◌<◌, ◌≤◌, List, [], ◌∷◌, ◌++◌, length, get_or}
use Rattle.std.proofs.Common.{arith, refl, ap, ◌∙◌, sym, subst, Bool, true, false, ◌⊎◌, inl, inr}
use Rattle.std.proofs.Common.{⊎_elim, Option, Some, None}
use Rattle.std.proofs.lemmas.Bool.{cases_lt}
use Rattle.std.specs.Option.{option_to_list, unwrap_or}
use Rattle.std.specs.Prelude.{is_some, IfOk, OnOk, Result, Ok, Err}
use Rattle.std.specs.declared.cmp.Ordering.TheVariants.{Less}
use Rattle.ax_pair.specs.declared.pair.Pair.{Pair}
use Rattle.ax_pair.specs.Order.{Rise, pair_cmp}
use Rattle.ax_leaf.specs.Pairs.{Posting, pairs_of}
use Rattle.ax_leaf.specs.Payload.{IsLeaf}
use Rattle.ax_leaf.proofs.FromLow.{pairs_rise}
use Rattle.ax_delta.specs.Changes.{TermChange, changes_of}
use Rattle.ax_delta.specs.Merge.{AreMerged, IsMerge}
use Rattle.ax_delta.specs.Pass.{merged}
use Rattle.ax_delta.specs.Payload.{IsDelta}
use Rattle.ax_delta.specs.Said.{has, last_said, said_of}
use Rattle.ax_delta.proofs.Ascending.{merged_is}
use Rattle.ax_delta.proofs.OneList.{newest_counts}
use Rattle.ax_pages.specs.Contents.{TermPage, term_parts, term_page}
use Rattle.ax_pages.specs.TermPages.{AreApart, IsPageOf, low_pair}
use Rattle.ax_store.specs.Slots.{term_part}
use Rattle.ax_store.specs.declared.fault.StoreFault.{StoreFault}
use Rattle.ax_term.specs.declared.range.TermRange.{TermRange}
use Rattle.ax_pairs.specs.PagePairs.{AreDeltas, AreOfBase, HasPairs, IsBase}
use Rattle.ax_pairs.proofs.PairOrder.{NotAfter, order_cases, both_ways}
use Rattle.ax_index.specs.Bare.{has_deltas}
use Rattle.ax_index.specs.Grammar.{AreDeltasFrom, AreInGrammar, IsDeltaAt, IsInGrammar, IsLookedAt, IsLookedBack}
use Rattle.ax_index.specs.Reading.{IsAhead, first_delta}
use Rattle.ax_index.specs.Wanted.{is_in_some}
use Rattle.ax_index.proofs.BarePages.{none_there}
use Rattle.ax_index.proofs.DeltaParts.{count_parts, delta_part}

-- ---- a base

front_back : (base : Option (List ℕ)) (deltas : List (List ℕ)) (pairs : List Pair) → is_some base ≡ true
    → IsBase (get_or (option_to_list base ++ deltas) 0 []) pairs → AreOfBase base pairs
front_back None deltas pairs there is = absurd (cc)
front_back (Some b) deltas pairs there is = is

pub leaf_base : (payload : List ℕ) (low : Pair) (postings : List Posting) → IsLeaf payload low postings → (pairs : List Pair) × IsBase payload pairs
leaf_base payload low postings is = (pairs_of postings, record { low = low; postings = postings; is = is; have = refl })

pub no_base : (base : Option (List ℕ)) → is_some base ≡ false → (pairs : List Pair) × AreOfBase base pairs
no_base None none = ([], refl)
no_base (Some b) none = absurd (cc)

-- of a page whose base was read
pub met_base : (pages : List TermPage) (number : ℕ) (payload : List ℕ) → is_some (term_page number pages).base ≡ true
    → payload ≡ term_part number 0 pages → (pairs : List Pair) × IsBase payload pairs
    → (pairs : List Pair) × AreOfBase (term_page number pages).base pairs
met_base pages number payload there same (pairs, is) = (
  pairs,
  front_back (term_page number pages).base (term_page number pages).deltas pairs there
      (subst (λ (bytes : List ℕ). IsBase bytes pairs) same is),
)

base_rise : (base : Option (List ℕ)) (pairs : List Pair) → AreOfBase base pairs → Rise pairs
base_rise None pairs e = subst Rise (sym e) tt
base_rise (Some payload) pairs is = subst Rise (sym is.have) (pairs_rise is.postings is.is.are)

-- ---- deltas

-- of a page whose delta was read
pub met_delta : (pages : List TermPage) (number i : ℕ) (payload : List ℕ) → payload ≡ term_part number i pages
    → (changes : List TermChange) × IsDelta payload changes → (changes : List TermChange) × IsDelta (term_part number i pages) changes
met_delta pages number i payload same (changes, is) = (changes, subst (λ (bytes : List ℕ). IsDelta bytes changes) same is)

all_deltas : (payloads : List (List ℕ)) → ((k : ℕ) → k < length payloads → (changes : List TermChange) × IsDelta (get_or payloads k []) changes)
    → (deltas : List (List TermChange)) × AreDeltas payloads deltas
all_deltas [] met = ([], tt)
all_deltas (payload ∷ payloads) met =
    let (changes, is) = met 0 (omega arith) in
    let (deltas, are) = all_deltas payloads (λ k l. met (suc k) (omega (arith, l))) in
    (changes ∷ deltas, (is, are))

page_deltas : (page : TermPage) → AreDeltasFrom page (first_delta page) → (deltas : List (List TermChange)) × AreDeltas page.deltas deltas
page_deltas page met = all_deltas page.deltas (λ k l. at k l)
  where
    at : (k : ℕ) → k < length page.deltas → (changes : List TermChange) × IsDelta (get_or page.deltas k []) changes
    at k l =
        let from : first_delta page ≤ first_delta page + k = omega arith in
        let there : first_delta page + k < length (term_parts page) = omega (arith, l, count_parts page) in
        let (changes, is) = met (first_delta page + k) from there in
        let back : first_delta page + k - first_delta page ≡ k = omega arith in (
          changes,
          subst (λ (bytes : List ℕ). IsDelta bytes changes)
              (delta_part page (first_delta page + k) from ∙ ap (λ (j : ℕ). get_or page.deltas j []) back) is,
        )

merge_met : (base : List Pair) (payloads : List (List ℕ)) (deltas : List (List TermChange)) → Rise base → AreDeltas payloads deltas
    → (pairs : List Pair) × AreMerged base deltas pairs
merge_met base [] [] up are = (base, refl)
merge_met base [] (changes ∷ deltas) up are = absurd are
merge_met base (payload ∷ payloads) [] up are = absurd are
merge_met base (payload ∷ payloads) (changes ∷ deltas) up are =
    let between : List Pair = merged base (changes_of changes) in
    let is : IsMerge base changes between = merged_is base between changes up are.0.are refl in
    let (pairs, rest) = merge_met between payloads deltas is.rises are.1 in
    (pairs, (between, is, rest))

-- ---- pages

-- a page whose parts are in their grammar has pairs
page_pairs : (page : TermPage) (base : List Pair) (deltas : List (List TermChange)) → AreOfBase page.base base → AreDeltas page.deltas deltas
    → (pairs : List Pair) × AreMerged base deltas pairs
page_pairs page base deltas of are = merge_met base page.deltas deltas (base_rise page.base base of) are

pub in_grammar : (page : TermPage) → (base : List Pair) × AreOfBase page.base base → AreDeltasFrom page (first_delta page) → IsInGrammar page
in_grammar page (base, of) met =
    let (deltas, are) = page_deltas page met in
    let (pairs, rest) = page_pairs page base deltas of are in
    (pairs, record { base = base; of_base = of; deltas = deltas; are_deltas = are; merged = rest })

bare_in_grammar : (page : TermPage) → has_deltas page ≡ false → (base : List Pair) × AreOfBase page.base base → IsInGrammar page
bare_in_grammar page bare based =
    let none : length page.deltas ≡ 0 = ap (λ (ps : List (List ℕ)). length ps) (none_there page.deltas bare) in
    in_grammar page based (λ i from there. absurd (omega (arith, none, from, there, count_parts page)))

pub bare_met : {T : Type 0} (result : Result T StoreFault) (page : TermPage) → has_deltas page ≡ false
    → OnOk result ((base : List Pair) × AreOfBase page.base base) → OnOk result (IsInGrammar page)
bare_met (Ok value) page bare based = bare_in_grammar page bare based
bare_met (Err fault) page bare based = tt

-- ---- the deltas of a page, one after another

abbrev pub AreDeltasUpTo : TermPage → ℕ → Type 0
AreDeltasUpTo page to = (i : ℕ) → first_delta page ≤ i → i < to → (changes : List TermChange) × IsDeltaAt page i changes

pub up_to_start : (page : TermPage) (i : ℕ) → i ≡ first_delta page → AreDeltasUpTo page i
up_to_start page i e n from below = absurd (omega (arith, e, from, below))

at_position : (pages now : List TermPage) (number i : ℕ) → now ≡ pages → (changes : List TermChange) × IsDelta (term_part number i now) changes
    → (changes : List TermChange) × IsDeltaAt (term_page number pages) i changes
at_position pages now number i same (changes, is) = (changes, subst (λ (k : List TermPage). IsDelta (term_part number i k) changes) same is)

pub up_to_step : (pages now : List TermPage) (number i j : ℕ) → now ≡ pages → j ≡ i + 1
    → (changes : List TermChange) × IsDelta (term_part number i now) changes → AreDeltasUpTo (term_page number pages) i
    → AreDeltasUpTo (term_page number pages) j
up_to_step pages now number i j same e met was n from below =
    ⊎_elim
    (λ (l : n < i). was n from l)
    (λ (l : i ≤ n).
    let one : i ≡ n = omega (arith, l, below, e) in
    subst (λ (k : ℕ). (changes : List TermChange) × IsDeltaAt (term_page number pages) k changes) one
    (at_position pages now number i same met))
    (cases_lt n i)

pub from_end : (page : TermPage) (i : ℕ) → i ≡ length (term_parts page) → AreDeltasFrom page i
from_end page i e n from there = absurd (omega (arith, e, from, there))

pub from_step : (pages now : List TermPage) (number i j : ℕ) → now ≡ pages → j ≡ i + 1
    → (changes : List TermChange) × IsDelta (term_part number i now) changes → AreDeltasFrom (term_page number pages) j
    → AreDeltasFrom (term_page number pages) i
from_step pages now number i j same e met was n from there =
    ⊎_elim
    (λ (l : i < n). was n (omega (arith, l, e)) there)
    (λ (l : n ≤ i).
    let one : i ≡ n = omega (arith, l, from) in
    subst (λ (k : ℕ). (changes : List TermChange) × IsDeltaAt (term_page number pages) k changes) one
    (at_position pages now number i same met))
    (cases_lt i n)

pub from_less : (page : TermPage) (i j : ℕ) → i ≤ j → AreDeltasFrom page i → AreDeltasFrom page j
from_less page i j l met n from there = met n (omega (arith, l, from)) there

-- ---- looking for a pair

said_there : (p : Pair) (said : Option Bool) (page : TermPage) (i : ℕ) (changes : List TermChange) → first_delta page ≤ i → i < length (term_parts page)
    → IsDeltaAt page i changes → said ≡ said_of p changes → AreDeltasFrom page i → is_some said ≡ true → IsLookedBack p said page
said_there p None page i changes from there is says met some = absurd (cc)
said_there p (Some added) page i changes from there is says met some =
    record { i = i; from = from; there = there; changes = changes; is = is; says = sym says; met = met }

-- a delta says something
pub looked_to : (pages now : List TermPage) (number i : ℕ) (p : Pair) (said : Option Bool) → now ≡ pages
    → first_delta (term_page number pages) ≤ i → i < length (term_parts (term_page number pages))
    → (changes : List TermChange) × IsDelta (term_part number i now) changes
    → ((changes : List TermChange) → IsDelta (term_part number i now) changes → said ≡ said_of p changes)
    → AreDeltasFrom (term_page number pages) i → is_some said ≡ true → IsLookedBack p said (term_page number pages)
looked_to pages now number i p said same from there (changes, is) says met some =
    said_there p said (term_page number pages) i changes from there
    (subst (λ (k : List TermPage). IsDelta (term_part number i k) changes) same is) (says changes is) met some

pub looked_by_delta : (pages : List TermPage) (number : ℕ) (p : Pair) (said : Option Bool) (added : Bool) → IsPageOf p number pages → said ≡ Some added
    → IsLookedBack p said (term_page number pages) → (page : ℕ) × IsPageOf p page pages × IsLookedAt p added (term_page page pages)
looked_by_delta pages number p said added of e back =
    (number, of, inl (subst (λ (o : Option Bool). IsLookedBack p o (term_page number pages)) e back))

-- no delta says something
base_says : (page : TermPage) (p : Pair) (found : Bool) → AreDeltasFrom page (first_delta page)
    → ((deltas : List (List TermChange)) → AreDeltas page.deltas deltas → None ≡ last_said p deltas)
    → (base : List Pair) × AreOfBase page.base base → ((base : List Pair) → AreOfBase page.base base → found ≡ has p base)
    → (pairs : List Pair) × HasPairs page pairs × (has p pairs ≡ found)
base_says page p found met quiet (base, of) says =
    let (deltas, are) = page_deltas page met in
    let (pairs, rest) = page_pairs page base deltas of are in (
      pairs,
      record { base = base; of_base = of; deltas = deltas; are_deltas = are; merged = rest },
      newest_counts base pairs deltas p rest
          ∙ ap (λ (o : Option Bool). unwrap_or o (has p base)) (sym (quiet deltas are))
          ∙ sym (says base of),
    )

pub looked_by_base : (result : Result Bool StoreFault) (pages now : List TermPage) (number : ℕ) (p : Pair) (said : Option Bool) → IsPageOf p number pages
    → said ≡ None → now ≡ pages → IsLookedBack p said (term_page number pages)
    → ((deltas : List (List TermChange)) → AreDeltas (term_page number pages).deltas deltas → said ≡ last_said p deltas)
    → OnOk result ((base : List Pair) × AreOfBase (term_page number now).base base)
    → ((base : List Pair) → AreOfBase (term_page number now).base base → IfOk result (λ found. found ≡ has p base))
    → IfOk result (λ found. (page : ℕ) × IsPageOf p page pages × IsLookedAt p found (term_page page pages))
looked_by_base (Err fault) pages now number p said of e same back quiet based says = tt
looked_by_base (Ok found) pages now number p said of e same back quiet based says =
    let P : List TermPage → Type 0 = λ ts. (base : List Pair) × AreOfBase (term_page number ts).base base in
    let Q : List TermPage → Type 0 = λ ts. (base : List Pair) → AreOfBase (term_page number ts).base base → found ≡ has p base in (
      number,
      of,
      inr (base_says (term_page number pages) p found (subst (λ (o : Option Bool). IsLookedBack p o (term_page number pages)) e back)
          (λ deltas are. sym e ∙ quiet deltas are) (subst P same based) (subst Q same says)),
    )

-- ---- the walk over pages

-- each page to which a pair of the ranges belongs was met, or is ahead of a walk that comes to this page next
abbrev pub AreMetTo : List TermRange → List TermPage → Option ℕ → Type 0
AreMetTo ranges pages next =
    (p : Pair) (number : ℕ) → is_in_some ranges p.term ≡ true → IsPageOf p number pages → IsInGrammar (term_page number pages) ⊎ IsAhead next p pages

pub met_start : (ranges : List TermRange) (pages : List TermPage) (next : Option ℕ)
    → ((p : Pair) → is_in_some ranges p.term ≡ true → IsAhead next p pages) → AreMetTo ranges pages next
met_start ranges pages next reaches p number within of = inr (reaches p within)

pub met_end : (ranges : List TermRange) (pages : List TermPage) (next : Option ℕ) → next ≡ None → AreMetTo ranges pages next
    → (p : Pair) (number : ℕ) → is_in_some ranges p.term ≡ true → IsPageOf p number pages → IsInGrammar (term_page number pages)
met_end ranges pages None e met p number within of =
    ⊎_elim (λ (is : IsInGrammar (term_page number pages)). is) (λ (ahead : ⊥). absurd ahead) (met p number within of)
met_end ranges pages (Some page) e met p number within of = absurd (cc)

pub met_step : (ranges : List TermRange) (pages now after : List TermPage) (page : ℕ) (next : Option ℕ) → now ≡ pages → after ≡ pages
    → IsInGrammar (term_page page now)
    → ((p : Pair) (other : ℕ) → is_in_some ranges p.term ≡ true → other < length after
    → pair_cmp (low_pair page after) (low_pair other after) ≡ Less → NotAfter (low_pair other after) p → IsAhead next p after)
    → page < length pages → AreApart pages → AreMetTo ranges pages (Some page) → AreMetTo ranges pages next
met_step ranges pages now after page next e f here reaches there apart was p number within of =
    ⊎_elim
    (λ (is : IsInGrammar (term_page number pages)). inl is)
    (λ (ahead : (page < length pages) × NotAfter (low_pair page pages) p).
    ⊎_elim
    (λ (up : NotAfter (low_pair number pages) (low_pair page pages)).
    let same : page ≡ number =
    apart.apart page number there of.there
    (both_ways (low_pair page pages) (low_pair number pages) (of.greatest page there ahead.1) up)
    in
    inl
    (subst (λ (k : ℕ). IsInGrammar (term_page k pages)) same (subst (λ (ts : List TermPage). IsInGrammar (term_page page ts)) e here)))
    (λ (less : pair_cmp (low_pair page pages) (low_pair number pages) ≡ Less).
    inr
    (subst
    (λ (ts : List TermPage). (q : Pair) (other : ℕ) → is_in_some ranges q.term ≡ true → other < length ts
    → pair_cmp (low_pair page ts) (low_pair other ts) ≡ Less → NotAfter (low_pair other ts) q → IsAhead next q ts)
    f reaches p number within of.there less of.below))
    (order_cases (low_pair number pages) (low_pair page pages)))
    (was p number within of)

pub met_by_one : {V : Type 0} (result : Result V StoreFault) (ranges : List TermRange) (range : TermRange) (pages : List TermPage) → ranges ≡ range ∷ []
    → OnOk result (AreInGrammar ranges pages) → OnOk result (AreInGrammar (range ∷ []) pages)
met_by_one result ranges range pages one met = subst (λ (rs : List TermRange). OnOk result (AreInGrammar rs pages)) one met

-- ---- merging

-- a page that was not merged need not be
pub none_met : (P : Type 0) (result : Result Bool StoreFault) → IfOk result (λ merged. merged ≡ false) → IfOk result (λ merged. merged ≡ true → P)
none_met P (Ok done) none = λ so. absurd (cc)
none_met P (Err fault) none = tt

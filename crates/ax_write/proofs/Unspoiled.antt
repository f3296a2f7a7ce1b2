-- Of term pages that hold a set no part is outside its grammar.
use Rattle.std.proofs.Common.{◌≡◌, ℕ, zero, suc, ◌<◌, ◌≤◌, ◌==◌, Bool, true, false, List, [], ◌∷◌, ◌++◌, length, Option, Some, None, refl, sym, ap, subst}
use Rattle.std.proofs.Common.{arith, ⊎_elim}
use Rattle.std.specs.Prelude.{◌&&◌, is_some, slice_index_or}
use Rattle.std.specs.Option.{option_to_list}
use Rattle.std.proofs.lemmas.Bool.{cases_lt, eqb-true, false_from_ne_true}
use Rattle.ax_delta.specs.Changes.{TermChange}
use Rattle.ax_pair.specs.declared.pair.Pair.{Pair}
use Rattle.ax_pages.specs.Contents.{TermPage, no_term_page, term_page, term_parts}
use Rattle.ax_pairs.specs.Index.{IsIndex}
use Rattle.ax_pairs.specs.PagePairs.{AreDeltas, AreOfBase}
use Rattle.ax_pairs.specs.PairSets.{PairSet}
use Rattle.ax_index.specs.Damage.{IsPayload, IsSpoiledPart}
use Rattle.ax_store.specs.Store.{store_contents}
use Rattle.ax_store.specs.declared.fault.StoreFault.{StoreFault}
use Rattle.ax_store.specs.declared.store.Store.{Store}

-- each delta is in its grammar
delta_at : (payloads : List (List ℕ)) (deltas : List (List TermChange)) (i : ℕ) → AreDeltas payloads deltas → i < length payloads
    → IsPayload false (slice_index_or payloads i [])
delta_at [] deltas i are there = absurd (omega (arith, there))
delta_at (payload ∷ payloads) [] i are there = absurd are
delta_at (payload ∷ payloads) (delta ∷ deltas) zero are there = (delta, are.0)
delta_at (payload ∷ payloads) (delta ∷ deltas) (suc i) are there = delta_at payloads deltas i are.1 (omega (arith, there))

not_first : (i : ℕ) → (suc i == 0) ≡ false
not_first i = false_from_ne_true (suc i == 0) (λ e. absurd (omega (arith, eqb-true (suc i) 0 e)))

never : (b : Bool) → (b && false) ≡ false
never true = refl
never false = refl

part_at : (base : Option (List ℕ)) (payloads : List (List ℕ)) (pairs : List Pair) (deltas : List (List TermChange)) (i : ℕ)
    → AreOfBase base pairs → AreDeltas payloads deltas → i < length (option_to_list base ++ payloads)
    → IsPayload ((i == 0) && is_some base) (slice_index_or (option_to_list base ++ payloads) i [])
part_at None payloads pairs deltas i of are there =
    subst (λ b. IsPayload b (slice_index_or payloads i [])) (sym (never (i == 0))) (delta_at payloads deltas i are there)
part_at (Some payload) payloads pairs deltas zero of are there = (pairs, of)
part_at (Some payload) payloads pairs deltas (suc i) of are there =
    subst (λ b. IsPayload (b && true) (slice_index_or payloads i [])) (sym (not_first i)) (delta_at payloads deltas i are (omega (arith, there)))

-- of a page that there is not there is no part
none_beyond : (pages : List TermPage) (page : ℕ) → length pages ≤ page → term_page page pages ≡ no_term_page
none_beyond [] page beyond = refl
none_beyond (first ∷ pages) zero beyond = absurd (omega (arith, beyond))
none_beyond (first ∷ pages) (suc page) beyond = none_beyond pages page (omega (arith, beyond))

pub never_spoiled : {C : Type 0} (store : Store C) (set : PairSet) (fault : StoreFault) → IsIndex (store_contents store).terms set
    → IsSpoiledPart store fault → ⊥
never_spoiled store set fault index part =
    let pages : List TermPage = (store_contents store).terms in
    ⊎_elim
    (λ (there : part.page < length pages).
    let has = index.have part.page there in
    part.spoiled (part_at (term_page part.page pages).base (term_page part.page pages).deltas has.base has.deltas part.i
    has.of_base has.are_deltas part.there))
    (λ (beyond : length pages ≤ part.page).
    let none : length (term_parts (term_page part.page pages)) ≡ 0 = ap (λ p. length (term_parts p)) (none_beyond pages part.page beyond) in
    absurd (omega (arith, part.there, none)))
    (cases_lt part.page (length pages))

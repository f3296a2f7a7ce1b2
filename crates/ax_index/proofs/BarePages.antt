-- The pairs of a page that has no deltas are those of its base.
use Rattle.std.proofs.Common.{◌≡◌, ℕ, List, [], ◌∷◌, ◌++◌, length, arith, refl, ap, true, false, nat_lt}
use Rattle.std.proofs.lemmas.Bool.{lt-ltb}
use Rattle.std.specs.Prelude.{OnOk, Result, Ok, Err}
use Rattle.ax_pair.specs.declared.pair.Pair.{Pair}
use Rattle.ax_delta.specs.Changes.{TermChange}
use Rattle.ax_delta.specs.Merge.{AreMerged}
use Rattle.ax_delta.specs.Said.{has}
use Rattle.ax_pages.specs.Contents.{TermPage}
use Rattle.ax_pairs.specs.PagePairs.{AreDeltas, AreOfBase, HasPairs}
use Rattle.ax_store.specs.declared.fault.StoreFault.{StoreFault}
use Rattle.ax_term.specs.declared.range.TermRange.{TermRange}
use Rattle.ax_index.specs.Bare.{has_deltas}
use Rattle.ax_index.specs.Reading.{Gathers, numbers_of}
use Rattle.ax_index.proofs.NumberLists.{gathers}

pub none_there : (payloads : List (List ℕ)) → nat_lt 0 (length payloads) ≡ false → payloads ≡ []
none_there [] h = refl
none_there (payload ∷ payloads) h =
    let some : nat_lt 0 (length (payload ∷ payloads)) ≡ true = lt-ltb 0 (length (payload ∷ payloads)) (omega arith) in absurd (cc)

by_base : (payloads : List (List ℕ)) (deltas : List (List TermChange)) (base pairs : List Pair) → payloads ≡ [] → AreDeltas payloads deltas
    → AreMerged base deltas pairs → base ≡ pairs
by_base [] [] base pairs e are merged = merged
by_base [] (changes ∷ deltas) base pairs e are merged = absurd are
by_base (payload ∷ payloads) deltas base pairs e are merged = absurd (cc)

pub bare_gathers : {T : Type 0} (result : Result T StoreFault) (page : TermPage) (ranges : List TermRange) (pairs : List Pair) (old new : List ℕ)
    → has_deltas page ≡ false → HasPairs page pairs
    → ((base : List Pair) → AreOfBase page.base base → OnOk result (new ≡ old ++ numbers_of ranges base))
    → OnOk result (Gathers ranges pairs old new)
bare_gathers (Ok value) page ranges pairs old new bare of put =
    let same : of.base ≡ pairs =
    by_base page.deltas of.deltas of.base pairs (none_there page.deltas bare) of.are_deltas of.merged
    in
    gathers ranges pairs of.base old new (λ p within. ap (has p) same) (put of.base of.of_base)
bare_gathers (Err fault) page ranges pairs old new bare of put = tt

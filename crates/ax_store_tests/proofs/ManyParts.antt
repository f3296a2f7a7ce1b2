-- Parts that give policy 1 its text again and again: so many may follow any contents, and none is a delta.
use Rattle.std.proofs.Common.{◌≡◌, ℕ, List, [], ◌∷◌, ◌++◌, refl, sym, subst, ap, arith}
use Rattle.std.specs.FinMap as map
use Rattle.ax_frame.specs.Part.{PartValue, Fits, AllFit}
use Rattle.ax_pages.specs.Contents.{Contents}
use Rattle.ax_pages.specs.AfterPart.{kind_of}
use Rattle.ax_store.specs.Kept.{Kept, deltas_by_kind, deltas_of}
use Rattle.ax_store.specs.Putting.{AreWithin, CanTake}

abbrev pub one : PartValue
one = record { kind = 2; key = 1; payload = 7 ∷ [] }

abbrev pub AreMany : List PartValue → Type 0
AreMany [] = Unit {0}
AreMany (part ∷ parts) = (part ≡ one) × AreMany parts

pub one_more : (parts : List PartValue) → AreMany parts → AreMany (parts ++ one ∷ [])
one_more [] are = (refl, tt)
one_more (part ∷ parts) are = (are.0, one_more parts are.1)

one_fits : Fits one
one_fits = record { key_fits = omega arith; payload_fits = omega arith }

pub many_fit : (parts : List PartValue) → AreMany parts → AllFit parts
many_fit [] are = tt
many_fit (part ∷ parts) are = (subst (λ (p : PartValue). Fits p) (sym are.0) one_fits, many_fit parts are.1)

abbrev with_one : Contents → Contents
with_one contents = record contents { policies = map.insert contents.policies 1 (7 ∷ []) }

pub many_within : (parts : List PartValue) (contents : Contents) → AreMany parts → AreWithin parts contents
many_within [] contents are = (contents, refl)
many_within (part ∷ parts) contents are =
    subst (λ (p : PartValue). AreWithin (p ∷ parts) contents) (sym are.0) (many_within parts (with_one contents) are.1)

no_deltas : (parts : List PartValue) (number : ℕ) → AreMany parts → deltas_of number parts ≡ 0
no_deltas [] number are = refl
no_deltas (part ∷ parts) number are =
    let none : deltas_by_kind (kind_of part.kind) part.key number ≡ 0 =
    ap (λ (p : PartValue). deltas_by_kind (kind_of p.kind) p.key number) are.0 in
    omega (arith, none, no_deltas parts number are.1)

pub many_taken : (parts : List PartValue) (kept : Kept) → AreMany parts → CanTake parts kept
many_taken parts kept are = λ number. omega (arith, no_deltas parts number are)

-- The test of parts that can be a log frame, and what it says.
use Rattle.std.proofs.Common.{◌≡◌, ◌<◌, ◌^◌, Bool, true, false, List, [], ◌∷◌, length, refl, ap, arith}
use Rattle.std.specs.Prelude.{◌&&◌}
use Rattle.std.specs.List.{list_all}
use Rattle.std.proofs.lemmas.Bool.{lt-ltb, ltb-true, le-leb, leb-true}
use Rattle.ax_frame.specs.Part.{PartValue, Fits, AllFit, parts_bytes}
use Rattle.ax_frame.specs.LogFrame.{CanFrame}
use Rattle.ax_frame.proofs.Frames.{parts_take_bytes}
use Rattle.ax_store.specs.Change.{fits, can_frame}

both : (a b : Bool) → a ≡ true → b ≡ true → (a && b) ≡ true
both a b x y = λ i. x i && y i

one : (a b : Bool) → (a && b) ≡ true → a ≡ true
one true b e = refl
one false b e = e

other : (a b : Bool) → (a && b) ≡ true → b ≡ true
other true b e = e
other false b e = absurd cc

fits_of : (part : PartValue) → Fits part → fits part ≡ true
fits_of part fit = both _ _ (lt-ltb part.key (2 ^ 32) fit.key_fits) (le-leb (length part.payload) 65536 fit.payload_fits)

fit_from : (part : PartValue) → fits part ≡ true → Fits part
fit_from part e = record { key_fits = ltb-true part.key (2 ^ 32) (one _ _ e); payload_fits = leb-true (length part.payload) 65536 (other _ _ e) }

all_fits : (parts : List PartValue) → AllFit parts → list_all fits parts ≡ true
all_fits [] all = refl
all_fits (part ∷ parts) all = both _ _ (fits_of part all.0) (all_fits parts all.1)

all_fit : (parts : List PartValue) → list_all fits parts ≡ true → AllFit parts
all_fit [] e = tt
all_fit (part ∷ parts) e = (fit_from part (one _ _ e), all_fit parts (other _ _ e))

pub can_frame_of : (parts : List PartValue) → CanFrame parts → can_frame parts ≡ true
can_frame_of parts can =
    both _ _
    (both _ _ (lt-ltb 0 (length (parts_bytes parts)) (parts_take_bytes parts can.some)) (lt-ltb (length (parts_bytes parts)) (2 ^ 64) can.length_fits))
    (all_fits parts can.fit)

pub can_from : (parts : List PartValue) → can_frame parts ≡ true → CanFrame parts
can_from parts e = record {
  some = λ none. not_below (ltb-true 0 (length (parts_bytes parts)) (one _ _ (one _ _ e))) (ap (λ ps. length (parts_bytes ps)) none);
  fit = all_fit parts (other _ _ e);
  length_fits = ltb-true (length (parts_bytes parts)) (2 ^ 64) (other _ _ (one _ _ e));
}
  where
    not_below : 0 < length (parts_bytes parts) → length (parts_bytes parts) ≡ 0 → ⊥
    not_below lt is = omega (arith, lt, is)

-- The parts of a frame are taken from a window, one after another.
use Rattle.std.proofs.Common.{◌≡◌, ℕ, ◌+◌, ◌-◌, ◌<◌, ◌≤◌, min, List, [], ◌∷◌, ◌++◌, length, take, drop, Err, refl, sym, ap, subst, ◌∙◌, length-append, arith}
use Rattle.std.proofs.lemmas.List.{append_assoc, take-append-drop, drop_at, drop-take, drop-drop, take-take, length-take-le, length-drop}
use Rattle.std.proofs.Math.Seq.{take-append-add}
use Rattle.ax_disk.specs.declared.extent.Extent.{Extent}
use Rattle.ax_frame.specs.Part.{PartValue, part_bytes, head_bytes, BeginsWithPart}
use Rattle.ax_pages.specs.Leads.{IsRefused}
use Rattle.ax_pages.specs.Area.{extent_number}
use Rattle.ax_store.specs.declared.fault.StoreFault.{StoreFault}
use Rattle.ax_store.specs.declared.fault.StoreFault.TheVariants.{Disk, Damaged, Newer, Memory}
use Rattle.ax_store.specs.Kept.{Kept, Takes}
use Rattle.ax_store.specs.Taking.{IsFrontTaken, IsTakenTo}
use Rattle.ax_store.specs.Loading.{TellsNext, TellsSpan}
use Rattle.ax_store.proofs.TakingLemmas.{not_begun, all_taken, one_more_here}

part_len : (part : PartValue) → length (part_bytes part) ≡ 9 + length part.payload
part_len part = omega (arith, length-append (head_bytes part.kind part.key (length part.payload)) part.payload, head)
  where
    head : length (head_bytes part.kind part.key (length part.payload)) ≡ 9
    head = refl

-- ---- so many bytes at the front tell what stands there

module _ (rest : List ℕ) (n : ℕ) (n_is : n ≡ min (length rest) 65545) where
  begins_more : (part : PartValue) (after : List ℕ) → BeginsWithPart (take n rest) part after → BeginsWithPart rest part (after ++ drop n rest)
  begins_more part after begins = record {
    fit = begins.fit;
    spelled = sym (take-append-drop n rest) ∙ ap (λ front. front ++ drop n rest) begins.spelled ∙ append_assoc (part_bytes part) after (drop n rest);
  }

  begins_less : (part : PartValue) (after : List ℕ) → BeginsWithPart rest part after
      → BeginsWithPart (take n rest) part (take (n - length (part_bytes part)) after)
  begins_less part after begins =
      let more : ℕ = n - length (part_bytes part) in
      let long : n ≡ length (part_bytes part) + more =
      omega (arith, n_is, part_len part, begins.fit.payload_fits, ap length begins.spelled, length-append (part_bytes part) after) in
      record {
        fit = begins.fit;
        spelled = ap (take n) begins.spelled ∙ ap (λ k. take k (part_bytes part ++ after)) long ∙ take-append-add (part_bytes part) after more;
      }

  pub front_taken : (size at : ℕ) (old new : Kept) → IsFrontTaken size (take n rest) at old new → IsFrontTaken size rest at old new
  front_taken size at old new taken = record {
    part = taken.part;
    after = taken.after ++ drop n rest;
    begins = begins_more taken.part taken.after taken.begins;
    takes = taken.takes;
    size_is = taken.size_is;
  }

  pub front_refused : (old : Kept) → IsRefused (take n rest) old.contents → IsRefused rest old.contents
  front_refused old refused = λ part follows begins. refused part (take (n - length (part_bytes part)) follows) (begins_less part follows begins)

pub front_size : (size : ℕ) (bytes : List ℕ) (at : ℕ) (old new : Kept) → IsFrontTaken size bytes at old new → (0 < size) × (size ≤ length bytes)
front_size size bytes at old new taken = (
  omega (arith, taken.size_is, part_len taken.part),
  omega (arith, taken.size_is, ap length taken.begins.spelled, length-append (part_bytes taken.part) taken.after),
)

-- ---- along the text of the frames

module _ (text : List ℕ) (at len here : ℕ) (old now : Kept) (before : at ≤ here) (within : here ≤ at + len) (there : at + len ≤ length text) where
  abbrev left : List ℕ
  left = take (at + len - here) (drop here text)

  left_len : length left ≡ at + len - here
  left_len = length-take-le (at + len - here) (drop here text) (omega (arith, before, within, there, length-drop here text))

  whole_len : length (take len (drop at text)) ≡ len
  whole_len = length-take-le len (drop at text) (omega (arith, there, length-drop at text))

  place_is : here ≡ at + (length (take len (drop at text)) - length left)
  place_is = omega (arith, left_len, whole_len, before, within)

  pub step : (taken : IsTakenTo (take len (drop at text)) at old now left) (size : ℕ) (new : Kept) → IsFrontTaken size left here now new
      → IsTakenTo (take len (drop at text)) at old new (take (at + len - (here + size)) (drop (here + size) text))
  step taken size new front =
      let few : size ≤ at + len - here = omega (arith, (front_size size left here now new front).1, left_len) in
      let more : ℕ = at + len - (here + size) in
      let split : at + len - here ≡ size + more = omega (arith, few, before, within) in
      let behind : front.after ≡ take more (drop (here + size) text) =
      sym (drop_at (part_bytes front.part) front.after size (sym front.size_is))
      ∙ ap (drop size) (sym front.begins.spelled)
      ∙ ap (λ k. drop size (take k (drop here text))) split
      ∙ drop-take size more (drop here text)
      ∙ ap (take more) (drop-drop size here text) in
      subst (IsTakenTo (take len (drop at text)) at old new) behind
      (one_more_here (take len (drop at text)) at here old now left taken front.part front.after front.begins new place_is front.takes)

  pub done : IsTakenTo (take len (drop at text)) at old now left → at + len ≤ here → Takes (take len (drop at text)) at old now
  done taken end = all_taken (take len (drop at text)) at old now left taken none
    where
      no_bytes : (bytes : List ℕ) → length bytes ≡ 0 → bytes ≡ []
      no_bytes [] e = refl
      no_bytes (x ∷ bytes) e = absurd (omega (arith, e))

      none : left ≡ []
      none = no_bytes left (omega (arith, left_len, end))

  pub refused : (fault : StoreFault) (area : Extent) (next : Kept) (taken : IsTakenTo (take len (drop at text)) at old now left) → here < at + len
      → TellsNext (Err fault) area left here now next → TellsSpan (Err fault) area (take len (drop at text)) at old next
  refused Disk area next taken some tells = tt
  refused (Damaged extent place) area next taken some tells = (
    tells.0,
    (
      taken.done + 0,
      taken.spoiled 0 (record {
        parts = [];
        fit = tt;
        reached = now.contents;
        lead = refl;
        rest = left;
        some = λ none. not_none (ap length none);
        spelled = refl;
        refused = tells.2;
        offset = refl;
      }),
      omega (arith, tells.1, place_is, taken.len),
    ),
  )
    where
      not_none : length left ≡ 0 → ⊥
      not_none e = absurd (omega (arith, e, left_len, some))
  refused (Newer version) area next taken some tells = absurd tells
  refused Memory area next taken some tells = tt

-- ---- what stands at an offset, by the bytes that were looked at

module _ (text : List ℕ) (here end most : ℕ) (bytes : List ℕ) (some : here < end) (there : end ≤ length text)
    (most_is : most ≡ min (end - here) 65545) (looked : bytes ≡ take most (drop here text)) where
  same_front : bytes ≡ take most (take (end - here) (drop here text))
  same_front = looked ∙ sym (take-take most (end - here) (drop here text) (omega (arith, most_is)))

  most_here : most ≡ min (length (take (end - here) (drop here text))) 65545
  most_here = omega (arith, most_is, length-take-le (end - here) (drop here text) (omega (arith, some, there, length-drop here text)))

  pub looked_taken : (size : ℕ) (old new : Kept) → IsFrontTaken size bytes here old new → IsFrontTaken size (take (end - here) (drop here text)) here old new
  looked_taken size old new taken =
      front_taken (take (end - here) (drop here text)) most most_here size here old new
      (subst (λ front. IsFrontTaken size front here old new) same_front taken)

  pub looked_refused : (area : Extent) (place : ℕ) (old new : Kept) → (place ≡ here) × IsRefused bytes old.contents
      → TellsNext (Err (Damaged (extent_number area) place)) area (take (end - here) (drop here text)) here old new
  looked_refused area place old new (is, refused) =
      (refl, is, front_refused (take (end - here) (drop here text)) most most_here old (subst (λ front. IsRefused front old.contents) same_front refused))

pub nothing_taken : (text : List ℕ) (at len : ℕ) (old : Kept) → IsTakenTo (take len (drop at text)) at old old (take (at + len - at) (drop at text))
nothing_taken text at len old =
    subst (λ n. IsTakenTo (take len (drop at text)) at old old (take n (drop at text))) {x = len} (omega arith) (not_begun (take len (drop at text)) at old)

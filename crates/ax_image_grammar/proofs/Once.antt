-- At an offset of an area something is told once: what is told rises.
use Rattle.std.proofs.Common.{◌≡◌, ℕ, zero, suc, ◌+◌, ◌<◌, ◌≤◌, arith, List, [], ◌∷◌, ◌++◌, length}
use Rattle.std.proofs.Common.{drop, refl, sym, ap, subst, ◌∙◌, length-append}
use Rattle.std.specs.List.{Contains}
use Rattle.std.proofs.lemmas.List.{append-nil}
use Rattle.ax_area.specs.Items.{Item, item_bytes}
use Rattle.ax_area.specs.Told.{Told, told_bytes, AreTold, TellOn}

-- each stands behind the one before, and the first at an offset or behind it
abbrev pub Rise : ℕ → List Told → Type 0
Rise at [] = Unit {0}
Rise at (t ∷ told) = (at ≤ t.at) × Rise (t.at + 1) told

rise_lower : (at from : ℕ) (told : List Told) → at ≤ from → Rise from told → Rise at told
rise_lower at from [] h rise = tt
rise_lower at from (t ∷ told) h rise = (omega (arith, h, rise.0), rise.1)

some_in : (bytes : List ℕ) (first : ℕ) → bytes ≡ first ∷ drop 1 bytes → 0 < length bytes
some_in bytes first is = omega (arith, ap length is)

some_bytes : (item : Item) → 0 < length (item_bytes item)
some_bytes item = some_in (item_bytes item) item.first.kind refl

-- items one behind another, and what is told behind them
items_rise : (version at : ℕ) (first others : List Told) → AreTold version at first
    → Rise (at + length (told_bytes first)) others → Rise at (first ++ others)
items_rise version at [] others are rise = rise_lower at (at + 0) others (omega arith) rise
items_rise version at (t ∷ first) others are rise =
    let long = length-append (item_bytes t.item) (told_bytes first) in
    let next : ℕ = at + length (item_bytes t.item) in (
      omega (arith, are.0.at_is),
      rise_lower (t.at + 1) next (first ++ others)
          (omega (arith, are.0.at_is, some_bytes t.item))
          (items_rise version next first others are.1
          (rise_lower (next + length (told_bytes first)) (at + length (told_bytes (t ∷ first)))
          others (omega (arith, long)) rise)),
    )

pub tells_rise : (version : ℕ) (frames : List (List ℕ)) (at : ℕ) (told : List Told)
    → TellOn version frames at told → Rise at told
tells_rise version [] at told tell = subst (Rise at) (sym tell) tt
tells_rise version (frame ∷ frames) at told (first, others, is, begins, more) =
    let long : length frame ≡ length (told_bytes first) =
    ap length (begins.spelled ∙ append-nil (told_bytes first)) in
    subst (Rise at) (sym is) (rise_lower at (at + 9) (first ++ others) (omega arith)
    (items_rise version (at + 9) first others begins.are
    (rise_lower (at + 9 + length (told_bytes first)) (at + 9 + length frame) others
    (omega (arith, long)) (tells_rise version frames (at + 9 + length frame) others more))))

none_before : (at : ℕ) (told : List Told) (t : Told) → Rise at told → Contains told t → at ≤ t.at
none_before at [] t rise (k, within, is) = absurd (omega arith)
none_before at (s ∷ told) t rise (zero, within, is) =
    omega (arith, rise.0, ap (λ (u : Told). u.at) is)
none_before at (s ∷ told) t rise (suc k, within, is) =
    omega (arith, rise.0, none_before (s.at + 1) told t rise.1 (k, omega arith, is))

pub told_once : (at : ℕ) (told : List Told) (s t : Told) → Rise at told → Contains told s
    → Contains told t → s.at ≡ t.at → s ≡ t
told_once at [] s t rise (k, within, is) other same = absurd (omega arith)
told_once at (u ∷ told) s t rise (zero, within, is) (zero, there, too) same = sym is ∙ too
told_once at (u ∷ told) s t rise (zero, within, is) (suc k, there, too) same =
    absurd (omega (
      arith,
      same,
      ap (λ (v : Told). v.at) is,
      none_before (u.at + 1) told t rise.1 (k, omega arith, too),
    ))
told_once at (u ∷ told) s t rise (suc j, within, is) (zero, there, too) same =
    absurd (omega (
      arith,
      same,
      ap (λ (v : Told). v.at) too,
      none_before (u.at + 1) told s rise.1 (j, omega arith, is),
    ))
told_once at (u ∷ told) s t rise (suc j, within, is) (suc k, there, too) same =
    told_once (u.at + 1) told s t rise.1 (j, omega arith, is) (k, omega arith, too) same

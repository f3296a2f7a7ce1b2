-- What the files of a store hold, where they tell: the bytes that reads give.
use Rattle.std.specs.Prelude.{◌≡◌, ℕ, List, Bool, [], Option, Some, None, IsTrue, unwrap_or}
use Rattle.ax_disk.specs.declared.extent.Extent.{Extent}
use Rattle.ax_disk.specs.declared.extent.Extent.TheVariants.{Root, A, B}

-- of three, the one of that extent
abbrev pub at_extent : {X : Type 0} → Extent → X → X → X → X
at_extent Root root a b = root
at_extent A root a b = a
at_extent B root a b = b

-- What was found where this is held: a file that tells, and holds just that, or no file where there is none.
abbrev pub IsFound : {F : Type 0} → (F → Bool) → (F → List ℕ) → Option F → Option (List ℕ) → Type 0
IsFound is_honest content None held = held ≡ None
IsFound is_honest content (Some file) held = IsTrue (is_honest file) × (held ≡ Some (content file))

-- a file that tells, and holds what was held where there was a file, or nothing
abbrev pub Holds : {F : Type 0} → (F → Bool) → (F → List ℕ) → F → Option (List ℕ) → Type 0
Holds is_honest content file held = IsTrue (is_honest file) × (content file ≡ unwrap_or held [])

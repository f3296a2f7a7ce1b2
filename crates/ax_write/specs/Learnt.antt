-- What a call leaves in the table of ids lately found, whatever the store holds.
-- It is this project's own; it comes from no public document.
use Rattle.std.specs.Prelude.{◌≡◌, ◌≢◌, ◌≤◌, ◌⊎◌, ℕ, Bool, List, length, Some, Result, Ok, Err, IsTrue}
use Rattle.std.specs.List.{Contains}
use Rattle.ax_area.specs.Contents.{Contents}
use Rattle.ax_write.specs.LookedUp.{TellsIndex}
use Rattle.ax_write.specs.Writes.{FindsHeld, FindsNone}
use Rattle.ax_write.specs.declared.fault.WriteFault.{WriteFault}

-- the entry stood in the table before; or it is of the id, under the number that the index told where the disk is honest
abbrev pub IsLearnt : Bool → List ℕ → Contents → List (List ℕ × ℕ) → List ℕ × ℕ → Type 0
IsLearnt honest id contents old entry =
    Contains old entry ⊎ ((entry.0 ≡ id) × (IsTrue honest → TellsIndex id contents (Some entry.1)))

-- each entry is so
abbrev pub Learns : Bool → List ℕ → Contents → List (List ℕ × ℕ) → List (List ℕ × ℕ) → Type 0
Learns honest id contents old new = (entry : List ℕ × ℕ) → Contains new entry → IsLearnt honest id contents old entry

-- an id that the table keeps is there with this number
abbrev pub HasPut : List ℕ → ℕ → List (List ℕ × ℕ) → Type 0
HasPut id number new = length id ≤ 30 → Contains new (id, number)

-- It is there; and each entry is it with this number, or is of another id, and stood in the table before.
abbrev pub Puts : List ℕ → ℕ → List (List ℕ × ℕ) → List (List ℕ × ℕ) → Type 0
Puts id number old new =
    HasPut id number new
    × ((entry : List ℕ × ℕ) → Contains new entry → (entry ≡ (id, number)) ⊎ (Contains old entry × (entry.0 ≢ id)))

-- each entry is of another id, and stood in the table before
abbrev pub Forgets : List ℕ → List (List ℕ × ℕ) → List (List ℕ × ℕ) → Type 0
Forgets id old new = (entry : List ℕ × ℕ) → Contains new entry → Contains old entry × (entry.0 ≢ id)

-- ---- by what a write answers

-- where it is made the id is put with the number, else nothing is
abbrev pub PutsIfMade : Result (Unit {0}) WriteFault → List ℕ → ℕ → List (List ℕ × ℕ) → List (List ℕ × ℕ) → Type 0
PutsIfMade (Ok done) id number old new = Puts id number old new
PutsIfMade (Err why) id number old new = new ≡ old

-- where it is made the id is taken out, else nothing is
abbrev pub ForgetsIfMade : Result (Unit {0}) WriteFault → List ℕ → List (List ℕ × ℕ) → List (List ℕ × ℕ) → Type 0
ForgetsIfMade (Ok done) id old new = Forgets id old new
ForgetsIfMade (Err why) id old new = new ≡ old

-- a creation that is made puts the id with the next number
abbrev pub LearnsOfCreation : Result (Unit {0}) WriteFault → Bool → List ℕ → Contents → List (List ℕ × ℕ) → List (List ℕ × ℕ) → Type 0
LearnsOfCreation (Ok done) honest id contents old new = Puts id contents.next_number old new
LearnsOfCreation (Err why) honest id contents old new = Learns honest id contents old new

-- so does an upsert where none was found for the id; else one was found that is held
abbrev pub LearnsOfUpsert : Result (Unit {0}) WriteFault → Bool → List ℕ → Contents → List (List ℕ × ℕ) → List (List ℕ × ℕ) → Type 0
LearnsOfUpsert (Ok done) honest id contents old new =
    ((IsTrue honest → FindsNone old id contents) × Puts id contents.next_number old new)
    ⊎ ((IsTrue honest → FindsHeld old id contents) × Learns honest id contents old new)
LearnsOfUpsert (Err why) honest id contents old new = Learns honest id contents old new

-- a deletion that is made takes the id out
abbrev pub LearnsOfDeletion : Result (Unit {0}) WriteFault → Bool → List ℕ → Contents → List (List ℕ × ℕ) → List (List ℕ × ℕ) → Type 0
LearnsOfDeletion (Ok done) honest id contents old new = Forgets id old new
LearnsOfDeletion (Err why) honest id contents old new = Learns honest id contents old new

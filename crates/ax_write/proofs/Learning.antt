-- What a look-up leaves in the table of ids lately found, and what a write behind it does.
use Rattle.std.proofs.Common.{◌≡◌, ℕ, Bool, List, Some, Result, Ok, Err, ◌⊎◌, inl, inr, sym, ap, subst}
use Rattle.std.specs.Prelude.{◌≢◌, ◌↔◌, IsTrue}
use Rattle.std.specs.List.{Contains}
use Rattle.ax_area.specs.Contents.{Contents}
use Rattle.ax_write.specs.Learnt.{Forgets, ForgetsIfMade, IsLearnt, Learns, LearnsOfCreation, LearnsOfDeletion, LearnsOfUpsert, Puts}
use Rattle.ax_write.specs.Learnt.{PutsIfMade}
use Rattle.ax_write.specs.LookedUp.{TellsIndex}
use Rattle.ax_write.specs.Writes.{FindsHeld, FindsNone}
use Rattle.ax_write.specs.declared.fault.WriteFault.{WriteFault}

abbrev id_of : List ℕ × ℕ → List ℕ
id_of entry = entry.0

abbrev at_of : List ℕ × ℕ → ℕ
at_of entry = entry.1

-- ---- one call

-- the number was put that the index told
pub learns_put : (honest : Bool) (id : List ℕ) (contents : Contents) (number : ℕ) (old new : List (List ℕ × ℕ))
    → (IsTrue honest → TellsIndex id contents (Some number)) → Puts id number old new → Learns honest id contents old new
learns_put honest id contents number old new told puts = λ entry there. by entry (puts.1 entry there)
  where
    by : (entry : List ℕ × ℕ) → (entry ≡ (id, number)) ⊎ (Contains old entry × (entry.0 ≢ id)) → IsLearnt honest id contents old entry
    by entry (inl same) =
        inr (ap id_of same, λ trusted. subst (λ (n : ℕ). TellsIndex id contents (Some n)) (sym (ap at_of same)) (told trusted))
    by entry (inr was) = inl was.0

-- the id was taken out
pub forgets : (id : List ℕ) (old new : List (List ℕ × ℕ)) → ((number : ℕ) → Contains new (id, number) → ⊥)
    → ((entry : List ℕ × ℕ) → entry.0 ≢ id → Contains new entry ↔ Contains old entry) → Forgets id old new
forgets id old new gone others = λ entry there.
    let apart : entry.0 ≢ id = λ same. gone entry.1 (subst (λ (i : List ℕ). Contains new (i, entry.1)) same there) in
    ((others entry apart).0 there, apart)

-- ---- a write behind a look-up

module _ (honest : Bool) (id : List ℕ) (contents : Contents) (old between new : List (List ℕ × ℕ)) (learns : Learns honest id contents old between)
  where
    -- what is of another id stood in the table before both
    stood : (entry : List ℕ × ℕ) → IsLearnt honest id contents old entry → entry.0 ≢ id → Contains old entry
    stood entry (inl was) apart = was
    stood entry (inr is) apart = absurd (apart is.0)

    puts_behind : (number : ℕ) → Puts id number between new → Puts id number old new
    puts_behind number puts = (puts.0, λ entry there. by entry (puts.1 entry there))
      where
        by : (entry : List ℕ × ℕ) → (entry ≡ (id, number)) ⊎ (Contains between entry × (entry.0 ≢ id))
            → (entry ≡ (id, number)) ⊎ (Contains old entry × (entry.0 ≢ id))
        by entry (inl same) = inl same
        by entry (inr was) = inr (stood entry (learns entry was.0) was.1, was.1)

    forgets_behind : Forgets id between new → Forgets id old new
    forgets_behind gone = λ entry there.
        let was = gone entry there in
        (stood entry (learns entry was.0) was.1, was.1)

    still : new ≡ between → Learns honest id contents old new
    still kept = subst (λ (ids : List (List ℕ × ℕ)). Learns honest id contents old ids) (sym kept) learns

    pub learns_created : (result : Result (Unit {0}) WriteFault) → PutsIfMade result id contents.next_number between new
        → LearnsOfCreation result honest id contents old new
    learns_created (Ok done) puts = puts_behind contents.next_number puts
    learns_created (Err why) kept = still kept

    pub learns_upserted : (IsTrue honest → FindsNone old id contents) → (result : Result (Unit {0}) WriteFault)
        → PutsIfMade result id contents.next_number between new → LearnsOfUpsert result honest id contents old new
    learns_upserted none (Ok done) puts = inl (none, puts_behind contents.next_number puts)
    learns_upserted none (Err why) kept = still kept

    pub learns_deleted : (result : Result (Unit {0}) WriteFault) → ForgetsIfMade result id between new
        → LearnsOfDeletion result honest id contents old new
    learns_deleted (Ok done) gone = forgets_behind gone
    learns_deleted (Err why) kept = still kept

-- a replacement puts nothing
pub learns_exchanged : (honest : Bool) (id : List ℕ) (contents : Contents) (old new : List (List ℕ × ℕ))
    → (IsTrue honest → FindsHeld old id contents) → Learns honest id contents old new
    → (result : Result (Unit {0}) WriteFault) → LearnsOfUpsert result honest id contents old new
learns_exchanged honest id contents old new held learns (Ok done) = inr (held, learns)
learns_exchanged honest id contents old new held learns (Err why) = learns

-- ---- an id as its bytes were taken, and contents that a look-up left as they were

pub created_at : (own id : List ℕ) → own ≡ id → (honest : Bool) (contents : Contents) (old new : List (List ℕ × ℕ))
    (result : Result (Unit {0}) WriteFault) → LearnsOfCreation result honest own contents old new
    → LearnsOfCreation result honest id contents old new
created_at own id same honest contents old new result = subst (λ (i : List ℕ). LearnsOfCreation result honest i contents old new) same

pub upserted_at : (own id : List ℕ) → own ≡ id → (honest : Bool) (contents : Contents) (old new : List (List ℕ × ℕ))
    (result : Result (Unit {0}) WriteFault) → LearnsOfUpsert result honest own contents old new → LearnsOfUpsert result honest id contents old new
upserted_at own id same honest contents old new result = subst (λ (i : List ℕ). LearnsOfUpsert result honest i contents old new) same

pub learns_at : (own id : List ℕ) → own ≡ id → (honest : Bool) (contents : Contents) (old new : List (List ℕ × ℕ))
    → Learns honest own contents old new → Learns honest id contents old new
learns_at own id same honest contents old new = subst (λ (i : List ℕ). Learns honest i contents old new) same

pub puts_over : (before mid : Contents) → mid ≡ before → (id : List ℕ) (old new : List (List ℕ × ℕ)) (result : Result (Unit {0}) WriteFault)
    → PutsIfMade result id mid.next_number old new → PutsIfMade result id before.next_number old new
puts_over before mid same id old new result =
    subst (λ (c : Contents). PutsIfMade result id c.next_number old new) same

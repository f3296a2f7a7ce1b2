-- Calls that look something up, and what they leave one behind another.
use Rattle.std.proofs.Common.{◌≡◌, ℕ, ◌+◌, [], ◌∷◌, Bool, false, Option, Some, Ok, Err, ap, subst}
use Rattle.ax_area.specs.Contents.{Contents, Stored}
use Rattle.ax_cache.specs.Pages.{CachedPages}
use Rattle.ax_disk.specs.model.Moments.{History}
use Rattle.ax_index.proofs.ReadsLaws.{of_honest, read_then}
use Rattle.ax_index.specs.Reads.{Reads}
use Rattle.ax_pool.specs.Frames.{Frames, bytes_at}
use Rattle.ax_store.specs.Faults.{HasDiskCause}
use Rattle.ax_store.specs.Reads.{ReadsStore}
use Rattle.ax_store.specs.Store.{store_failed, store_slots}
use Rattle.ax_store.specs.declared.fault.StoreFault.{StoreFault}
use Rattle.ax_store.specs.declared.fault.StoreFault.TheVariants.{Memory}
use Rattle.ax_store.specs.declared.store.Store.{Store}
use Rattle.ax_write.proofs.Passing.{leaves_conflict, leaves_failed, leaves_then}
use Rattle.ax_transform.specs.Moving.{IsFirstBehind}
use Rattle.ax_transform.specs.Steps.{Fetches}
use Rattle.ax_write.specs.Writes.{Looks}
use Rattle.ax_write.specs.declared.fault.WriteFault.TheVariants as fault
use Rattle.ax_write.specs.declared.held.HeldDocument.{HeldDocument}

-- ---- a document that was read

-- what is so of what is held and of what was read
pub of_both : (P : Option Stored → Option HeldDocument → Type 0) (found : Option Stored) (stored : Stored) (read : Option HeldDocument) (held : HeldDocument)
    → found ≡ Some stored → read ≡ Some held → P found read → P (Some stored) (Some held)
of_both P found stored read held there is so = subst (λ it. P it (Some held)) there (subst (P found) is so)

-- one document is fetched, the next that is behind
pub one_fetched : (contents : Contents) (given now : ℕ) → given ≡ now → (after number earlier later : ℕ) → IsFirstBehind contents given after number
    → later ≡ earlier + 1 → Fetches contents now after earlier later
one_fetched contents given now same after number earlier later first counted = record {
  numbers = number ∷ [];
  next = (subst (λ n. IsFirstBehind contents n after number) same first, tt);
  counted = counted;
}

-- ---- what it leaves that a text was read

module _ {C : Type 0} (pages : C → CachedPages) (honest : Bool) (old new : Store C) (before after : History) (earlier later : ℕ)
    (reads : ReadsStore pages honest old new before after earlier later) (slots : store_slots new ≡ store_slots old)
    (still : store_failed new ≡ store_failed old) {A : Type 0} (value : A)
    (cause : store_failed old ≡ false → HasDiskCause {T = A} (Ok value) earlier later) where
  pub looks_ok : {T : Type 0} (other : T) → Looks {T = T} pages honest (Ok other) old new before after earlier later
  looks_ok other = record {
    told = λ trusted. tt;
    reads = record {
      same = record { same = reads.same; taken = ap (λ (frames : Frames). frames.taken) slots };
      agrees = reads.agrees;
      lists = reads.lists;
      never_falls = reads.never_falls;
    };
    others = λ number taken. ap (λ frames. bytes_at frames number) slots;
    fails = still;
    cause = λ works. record { never_falls = (cause works).never_falls; failed = λ none. absurd none; uncounted = (cause works).uncounted };
  }

  pub looks_memory : {T : Type 0} → Looks {T = T} pages honest (Err Memory) old new before after earlier later
  looks_memory = record {
    told = λ trusted. tt;
    reads = (looks_ok value).reads;
    others = (looks_ok value).others;
    fails = still;
    cause = λ works. record { never_falls = (cause works).never_falls; failed = λ none. absurd none; uncounted = (cause works).uncounted };
  }

-- ---- two calls that look something up

module _ {C : Type 0} (pages : C → CachedPages) (honest then : Bool) (same : then ≡ honest) (old mid new : Store C)
    (before between after : History) (earlier middle later : ℕ) {A : Type 0} (value : A)
    (first : Looks pages honest (Ok value) old mid before between earlier middle) where
  reads_both : Reads pages then mid new between after middle later → Reads pages honest old new before after earlier later
  reads_both second =
      read_then pages honest old mid new before between after earlier middle later first.reads
      (of_honest pages then honest same mid new between after middle later second)

  pub looks_on : {T E : Type 0} (other : T) (answer : E) → Looks pages then (Ok other) mid new between after middle later
      → Looks pages honest (Ok answer) old new before after earlier later
  looks_on other answer second =
      let both = leaves_then pages honest value then same (Err fault.Conflict) old mid new before between after earlier middle later first
      (leaves_conflict pages then mid new between after middle later other second) in
      record {
        told = λ trusted. tt;
        reads = reads_both second.reads;
        others = both.others;
        fails = both.fails;
        cause = λ works. record {
          never_falls = (both.cause works).never_falls;
          failed = λ none. absurd none;
          uncounted = (both.cause works).uncounted;
        };
      }

  pub looks_failed : {T E : Type 0} (why : StoreFault) → Looks {T = T} pages then (Err why) mid new between after middle later
      → Looks {T = E} pages honest (Err why) old new before after earlier later
  looks_failed why second =
      let both = leaves_then pages honest value then same (Err (fault.Store why)) old mid new before between after earlier middle later first
      (leaves_failed pages then mid new between after middle later why second) in
      record {
        told = both.told;
        reads = reads_both second.reads;
        others = both.others;
        fails = both.fails;
        cause = λ works. record {
          never_falls = (both.cause works).never_falls;
          failed = (both.cause works).failed;
          uncounted = (both.cause works).uncounted;
        };
      }

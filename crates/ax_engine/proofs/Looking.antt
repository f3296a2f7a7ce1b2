-- What a query leaves that looks into the index and then reads texts, in the words of calls that look something up.
use Rattle.std.proofs.Common.{◌≡◌, ◌≤◌, ℕ, Bool, false, refl, Result, Ok, Err, sym, ap, subst, ◌∙◌, arith, inl, inr}
use Rattle.std.proofs.lemmas.Bool.{false≢true}
use Rattle.std.specs.Prelude.{IfErr, IsTrue}
use Rattle.ax_cache.specs.Pages.{CachedPages}
use Rattle.ax_disk.specs.laws.StaysLaws.{idles_join}
use Rattle.ax_disk.specs.model.Calls.{Idles}
use Rattle.ax_disk.specs.model.Moments.{History}
use Rattle.ax_area.specs.Contents.{Stored}
use Rattle.ax_faults.specs.Faults.{Rose}
use Rattle.ax_index.proofs.ReadsLaws.{nothing_read}
use Rattle.ax_index.specs.Damage.{FailsBy, TellsPart}
use Rattle.ax_index.specs.Reads.{KeepsTaken, Reads}
use Rattle.ax_image.specs.Readable.{newest}
use Rattle.ax_image_grammar.specs.Payloads.{IsDocumentText}
use Rattle.ax_log.specs.Log.{log_area}
use Rattle.ax_pages.specs.Area.{extent_number}
use Rattle.ax_pool.specs.Frames.{Frames, bytes_at}
use Rattle.ax_store.specs.Faults.{HasDiskCause}
use Rattle.ax_store.specs.Kept.{Kept}
use Rattle.ax_store.specs.ReadAhead.{IsNothingAhead}
use Rattle.ax_store.proofs.AheadLemmas.{ahead_of_nothing}
use Rattle.ax_store.specs.Store.{AgreesUnlessFailed, SameButReads, store_failed, store_slots}
use Rattle.ax_store.specs.declared.fault.StoreFault.{StoreFault}
use Rattle.ax_store.specs.declared.fault.StoreFault.TheVariants as fault
use Rattle.ax_store.specs.declared.read_ahead.ReadAhead.{ReadAhead}
use Rattle.ax_store.specs.declared.store.Store.{Store}
use Rattle.ax_write.specs.Held.{HasNone, IsOfNone}
use Rattle.ax_write.specs.Writes.{Looks, TellsDamage}
use Rattle.ax_engine.specs.InPages.{HasOutside, IsOutsideAt}
use Rattle.ax_engine.specs.Scans.{IsReady, ReadFailed, Scanned, Scans}
use Rattle.ax_engine.proofs.Damaging.{of_document}

-- ---- the index

-- nothing was read
pub nothing_looked : {C T : Type 0} (pages : C → CachedPages) (honest : Bool) (value : T) (store : Store C) (history : History) (faults : ℕ)
    → AgreesUnlessFailed pages honest store history → Looks pages honest (Ok value) store store history history faults faults
nothing_looked pages honest value store history faults agrees = record {
  told = λ h. tt;
  reads = nothing_read pages honest store history faults agrees;
  others = λ number taken. refl;
  fails = refl;
  cause = λ works. record { never_falls = omega arith; failed = λ no. absurd no; uncounted = refl };
}

-- nothing was read, and memory ran out
pub nothing_wanted : {C T : Type 0} (pages : C → CachedPages) (honest : Bool) (store : Store C) (history : History) (faults : ℕ)
    → AgreesUnlessFailed pages honest store history → Looks {T = T} pages honest (Err fault.Memory) store store history history faults faults
nothing_wanted pages honest store history faults agrees = record {
  told = λ h. tt;
  reads = nothing_read pages honest store history faults agrees;
  others = λ number taken. refl;
  fails = refl;
  cause = λ works. record { never_falls = omega arith; failed = λ no. absurd no; uncounted = refl };
}

part_told : {C : Type 0} (store : Store C) (why : StoreFault) → TellsPart store why → TellsDamage store why
part_told store fault.Disk told = tt
part_told store (fault.Damaged extent at) told = inr told
part_told store (fault.Newer version) told = told
part_told store fault.Memory told = tt

module _ {C T U : Type 0} (pages : C → CachedPages) (honest : Bool) (old new : Store C) (before after : History) (l m : ℕ)
    (reads : Reads pages honest old new before after l m) (others : KeepsTaken (store_slots old) (store_slots new)) where
  -- numbers were found
  pub found_looked : (numbers : T) (value : U) → store_failed new ≡ store_failed old
      → (store_failed old ≡ false → HasDiskCause {T = T} (Ok numbers) l m) → Looks pages honest (Ok value) old new before after l m
  found_looked numbers value fails cause = record {
    told = λ h. tt;
    reads = reads;
    others = others;
    fails = fails;
    cause = λ works.
        let own = cause works in
        record { never_falls = own.never_falls; failed = λ no. absurd no; uncounted = own.uncounted };
  }

  cause_of : (why : StoreFault) → HasDiskCause {T = T} (Err why) l m → HasDiskCause {T = U} (Err why) l m
  cause_of why own = record { never_falls = own.never_falls; failed = own.failed; uncounted = own.uncounted }

  -- a fault was told
  pub fault_looked : (why : StoreFault) → (IsTrue honest → TellsPart old why) → FailsBy {T = T} (Err why) (store_failed old) (store_failed new)
      → (store_failed old ≡ false → HasDiskCause {T = T} (Err why) l m) → Looks {T = U} pages honest (Err why) old new before after l m
  fault_looked why told fails cause = record {
    told = λ h. part_told old why (told h);
    reads = reads;
    others = others;
    fails = fails;
    cause = λ works. cause_of why (cause works);
  }

-- ---- texts that are read behind it

-- over a store that works, to which nothing was read ahead yet
pub ready_behind : {C T : Type 0} (pages : C → CachedPages) (honest then : Bool) → then ≡ honest → (value : T) (old mid : Store C) (ahead : ReadAhead)
    (before between : History) (l m : ℕ) → store_failed old ≡ false → IsNothingAhead ahead
    → Looks pages honest (Ok value) old mid before between l m → IsReady pages then mid ahead between
ready_behind pages honest then same value old mid ahead before between l m works none looks =
    let still : store_failed mid ≡ false = looks.fails ∙ works in
    record {
      works = still;
      agrees = λ h. ahead_of_nothing pages mid between (looks.reads.agrees (subst IsTrue same h) still) ahead none;
    }

outside_none : (held : Stored) → (IsDocumentText newest held.text → ⊥) → IsOfNone held.text
outside_none held outside tree stored = outside (of_document held.text (tree, stored))

module _ {C T : Type 0} (pages : C → CachedPages) (honest then : Bool) (same : then ≡ honest) (value : T) (old mid new : Store C) (ahead : ReadAhead)
    (before between after : History) (l m n : ℕ) (works : store_failed old ≡ false)
    (looks : Looks pages honest (Ok value) old mid before between l m) where
  was : store_failed mid ≡ false
  was = looks.fails ∙ works

  -- the text of a document that is none
  spoiled : (extent at : ℕ) → SameButReads mid new → IsOutsideAt new extent at → TellsDamage old (fault.Damaged extent at)
  spoiled extent at reads (is, outside) =
      let kept : new.pages ≡ old.pages = reads.pages ∙ looks.reads.same.same.pages in
      let there : HasOutside old.pages at = subst (λ (pages : Kept). HasOutside pages at) kept outside in
      inl (record {
        number = there.number;
        placed = (is ∙ ap (λ log. extent_number (log_area log)) (reads.logged ∙ looks.reads.same.same.logged), there.placed);
        none = subst HasNone (sym there.held) (outside_none there.document there.outside);
      })

  read_on : SameButReads mid new → store_slots new ≡ store_slots mid → (IsTrue honest → Idles between after) → m ≤ n
      → AgreesUnlessFailed pages honest new after → Reads pages honest old new before after l n
  read_on reads slots lists rises agrees = record {
    same = record {
      same = record {
        logged = reads.logged ∙ looks.reads.same.same.logged;
        pages = reads.pages ∙ looks.reads.same.same.pages;
      };
      taken = ap (λ (frames : Frames). frames.taken) slots ∙ looks.reads.same.taken;
    };
    agrees = agrees;
    lists = λ h. idles_join before between after (looks.reads.lists h) (lists h);
    never_falls = omega (arith, looks.reads.never_falls, rises);
  }

  others_on : store_slots new ≡ store_slots mid → KeepsTaken (store_slots old) (store_slots new)
  others_on slots = λ number taken. ap (λ (frames : Frames). bytes_at frames number) slots ∙ looks.others number taken

  steady : m ≡ l
  steady = (looks.cause works).uncounted

  scanned_reads : Scanned pages then mid new ahead between after m n → Reads pages honest old new before after l n
  scanned_reads scanned =
      read_on scanned.same scanned.slots (λ h. scanned.lists (subst IsTrue (sym same) h)) (omega (arith, scanned.uncounted))
      (λ h still. (scanned.ready.agrees (subst IsTrue (sym same) h)).agrees)

  failed_reads : ReadFailed then mid new between after m n → Reads pages honest old new before after l n
  failed_reads failed =
      read_on failed.same failed.slots (λ h. failed.lists (subst IsTrue (sym same) h)) failed.never_falls
      (λ h still. absurd (false≢true (sym still ∙ failed.failed)))

  still_works : Scanned pages then mid new ahead between after m n → store_failed new ≡ store_failed old
  still_works scanned = scanned.ready.works ∙ sym works

  uncounted : n ≡ l → l ≤ n
  uncounted is = omega (arith, is)

  module _ {U : Type 0} where
    -- nothing failed
    ended : (end : Result U StoreFault) → Scanned pages then mid new ahead between after m n → (IsTrue honest → IfErr end (TellsDamage old))
        → FailsBy end (store_failed old) (store_failed new) → (n ≡ l → HasDiskCause end l n)
        → Looks pages honest end old new before after l n
    ended end scanned told fails cause = record {
      told = told;
      reads = scanned_reads scanned;
      others = others_on scanned.slots;
      fails = fails;
      cause = λ _. cause (scanned.uncounted ∙ steady);
    }

    pub scan_behind : (end : Result U StoreFault) → Scans pages then end mid new ahead between after m n
        → Looks pages honest end old new before after l n
    scan_behind (Ok done) scanned =
        ended (Ok done) scanned (λ h. tt) (still_works scanned)
        (λ is. record { never_falls = uncounted is; failed = λ no. absurd no; uncounted = is })
    scan_behind (Err fault.Disk) failed = record {
      told = λ h. tt;
      reads = failed_reads failed;
      others = others_on failed.slots;
      fails = failed.failed;
      cause = λ _. record {
        never_falls = omega (arith, looks.reads.never_falls, failed.never_falls);
        failed = λ is. subst (λ start. Rose start n) steady failed.rose;
        uncounted = tt;
      };
    }
    scan_behind (Err (fault.Damaged extent at)) (scanned, outside) =
        ended (Err (fault.Damaged extent at)) scanned (λ h. spoiled extent at scanned.same (outside (subst IsTrue (sym same) h)))
        (still_works scanned) (λ is. record { never_falls = uncounted is; failed = λ no. absurd no; uncounted = is })
    scan_behind (Err (fault.Newer version)) scans = absurd scans
    scan_behind (Err fault.Memory) scanned =
        ended (Err fault.Memory) scanned (λ h. tt) (still_works scanned)
        (λ is. record { never_falls = uncounted is; failed = λ no. absurd no; uncounted = is })

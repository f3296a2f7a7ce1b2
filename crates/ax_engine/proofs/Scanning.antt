-- Calls that read texts of documents, one after another.
use Rattle.std.proofs.Common.{◌≡◌, ◌⊎◌, inl, inr, ℕ, Bool, true, false, Result, Ok, Err, OnOk, refl, sym, subst, ◌∙◌, arith}
use Rattle.std.specs.Prelude.{IsTrue, IfErr}
use Rattle.ax_cache.specs.Pages.{CachedPages}
use Rattle.ax_disk.specs.laws.StaysLaws.{idles_start, idles_join}
use Rattle.ax_disk.specs.model.Calls.{Idles}
use Rattle.ax_disk.specs.model.Moments.{History}
use Rattle.ax_faults.specs.FaultLaws.{rose_since}
use Rattle.ax_store.specs.Faults.{HasDiskCause}
use Rattle.ax_store.specs.ReadAhead.{AgreesAheadUnlessFailed}
use Rattle.ax_store.specs.Store.{SameButReads, store_failed, store_slots}
use Rattle.ax_store.specs.declared.fault.StoreFault.{StoreFault}
use Rattle.ax_store.specs.declared.fault.StoreFault.TheVariants as fault
use Rattle.ax_store.specs.declared.read_ahead.ReadAhead.{ReadAhead}
use Rattle.ax_store.specs.declared.store.Store.{Store}
use Rattle.ax_engine.specs.Scans.{IsReady, ScanFails, Scanned, Scans}

unread : {C : Type 0} (store : Store C) → SameButReads store store
unread store = record { logged = refl; pages = refl }

reads_on : {C : Type 0} (a b c : Store C) → SameButReads a b → SameButReads b c → SameButReads a c
reads_on a b c first second = record { logged = second.logged ∙ first.logged; pages = second.pages ∙ first.pages }

pub nothing_scanned : {C : Type 0} (pages : C → CachedPages) (honest : Bool) (store : Store C) (ahead : ReadAhead) (history : History)
    (faults : ℕ) → IsReady pages honest store ahead history → Scanned pages honest store store ahead history history faults faults
nothing_scanned pages honest store ahead history faults ready = record {
  same = unread store;
  slots = refl;
  ready = ready;
  lists = λ _. idles_start history;
  uncounted = refl;
}

-- told of the same honesty
pub ready_now : {C : Type 0} (pages : C → CachedPages) (now then : Bool) (store : Store C) (ahead : ReadAhead) (history : History)
    → now ≡ then → IsReady pages then store ahead history → IsReady pages now store ahead history
ready_now pages now then store ahead history same ready =
    subst (λ h. IsReady pages h store ahead history) (sym same) ready

module _ {C : Type 0} (pages : C → CachedPages) (now then : Bool) (a b c : Store C) (ahead later : ReadAhead) (x y z : History) (l m n : ℕ)
    (same : now ≡ then) (first : Scanned pages then a b ahead x y l m) where
  on : Scanned pages then b c later y z m n → Scanned pages then a c later x z l n
  on second = record {
    same = reads_on a b c first.same second.same;
    slots = second.slots ∙ first.slots;
    ready = second.ready;
    lists = λ h. idles_join x y z (first.lists h) (second.lists h);
    uncounted = second.uncounted ∙ first.uncounted;
  }

  fails : (why : StoreFault) → ScanFails pages then why b c later y z m n → ScanFails pages then why a c later x z l n
  fails fault.Disk failed = record {
    same = reads_on a b c first.same failed.same;
    slots = failed.slots ∙ first.slots;
    failed = failed.failed;
    lists = λ h. idles_join x y z (first.lists h) (failed.lists h);
    never_falls = omega (arith, first.uncounted, failed.never_falls);
    rose = rose_since l m n n (omega (arith, first.uncounted)) (omega arith) failed.rose;
  }
  fails (fault.Damaged extent at) failed = (on failed.0, failed.1)
  fails (fault.Newer version) failed = absurd failed
  fails fault.Memory failed = on failed

  pub scanned_on : Scanned pages now b c later y z m n → Scanned pages then a c later x z l n
  scanned_on second = on (subst (λ h. Scanned pages h b c later y z m n) same second)

  pub fails_on : (why : StoreFault) → ScanFails pages now why b c later y z m n → ScanFails pages then why a c later x z l n
  fails_on why failed = fails why (subst (λ h. ScanFails pages h why b c later y z m n) same failed)

  pub scans_on : {T : Type 0} → (result : Result T StoreFault) → Scans pages now result b c later y z m n
      → Scans pages then result a c later x z l n
  scans_on (Ok value) second = scanned_on second
  scans_on (Err why) second = fails_on why second

-- what the store's call answers
pub scans_of : {T C : Type 0} (pages : C → CachedPages) (honest : Bool) (result : Result T StoreFault) (old new : Store C)
    (ahead : ReadAhead) (before after : History) (earlier later : ℕ) → store_failed old ≡ false → SameButReads old new
    → store_slots new ≡ store_slots old → AgreesAheadUnlessFailed pages honest new ahead after → OnOk result (store_failed new ≡ false)
    → (result ≡ Err fault.Disk → store_failed new ≡ true) → (result ≡ Err fault.Memory → store_failed new ≡ store_failed old)
    → IfErr result (λ why. (why ≡ fault.Disk) ⊎ (why ≡ fault.Memory)) → (IsTrue honest → Idles before after)
    → (store_failed old ≡ false → HasDiskCause result earlier later) → Scans pages honest result old new ahead before after earlier later
scans_of pages honest (Ok value) old new ahead before after earlier later works same slots agrees ok disk memory only lists cause = record {
  same = same;
  slots = slots;
  ready = record { works = ok; agrees = λ h. agrees h ok };
  lists = lists;
  uncounted = (cause works).uncounted;
}
scans_of pages honest (Err fault.Disk) old new ahead before after earlier later works same slots agrees ok disk memory only lists cause = record {
  same = same;
  slots = slots;
  failed = disk refl;
  lists = lists;
  never_falls = (cause works).never_falls;
  rose = (cause works).failed tt;
}
scans_of pages honest (Err (fault.Damaged extent at)) old new ahead before after earlier later works same slots agrees ok disk memory (inl is) lists cause =
    absurd cc
scans_of pages honest (Err (fault.Damaged extent at)) old new ahead before after earlier later works same slots agrees ok disk memory (inr is) lists cause =
    absurd cc
scans_of pages honest (Err (fault.Newer version)) old new ahead before after earlier later works same slots agrees ok disk memory (inl is) lists cause =
    absurd cc
scans_of pages honest (Err (fault.Newer version)) old new ahead before after earlier later works same slots agrees ok disk memory (inr is) lists cause =
    absurd cc
scans_of pages honest (Err fault.Memory) old new ahead before after earlier later works same slots agrees ok disk memory only lists cause =
    let still : store_failed new ≡ false = memory refl ∙ works in
    record {
      same = same;
      slots = slots;
      ready = record { works = still; agrees = λ h. agrees h still };
      lists = lists;
      uncounted = (cause works).uncounted;
    }

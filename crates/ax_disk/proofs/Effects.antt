-- What a operation, or none, does to the history of an log, in the words of a disk's calls.
use Rattle.std.proofs.Common.{◌≡◌, inl, inr, ℕ, ◌≤◌, Bool, true, false, if◌then◌else◌, List, length, take, Ok, Err, refl, sym, ap, subst}
use Rattle.ax_disk.specs.declared.extent.Extent.{Extent}
use Rattle.ax_disk.specs.model.Image.{Image, list_of, with_list}
use Rattle.ax_disk.specs.model.Pending.{AreBytes, MayLeave, all_settled, after_write, after_cut}
use Rattle.ax_disk.specs.laws.PendingLaws.{all_settled_only, all_settled_leaves, after_write_leaves, after_write_allows, after_cut_leaves, after_cut_allows}
use Rattle.ax_disk.specs.laws.MomentLaws.{elapses_start}
use Rattle.ax_disk.specs.model.Calls.{Idles, Writes, Cuts, Syncs}
use Rattle.ax_disk.specs.mem_disk.OperationLog.{Operation, wrote, cut, synced, State, synced_state, after_operation, OperationLog, with_operation}
use Rattle.ax_disk.specs.mem_disk.OperationLog.{state_of, history_of}
use Rattle.ax_disk.specs.mem_disk.OperationLogLaws.{after_one_more, operation_elapses}

-- an image as read may be left
abbrev pub StaysReadable : OperationLog → Type 0
StaysReadable log = MayLeave (state_of log).unsynced (state_of log).reads

step : (operation : Operation) (log : OperationLog)
    → state_of (with_operation operation log) ≡ after_operation operation (state_of log)
step operation log = after_one_more (synced_state log.first) log.operations operation

pub idles_same : (old new : OperationLog) → new ≡ old → Idles (history_of old) (history_of new)
idles_same old new same =
    subst (λ (a : OperationLog). Idles (history_of old) (history_of a)) (sym same)
    (record {
      reads = refl;
      unsynced = refl;
      time =
          elapses_start (history_of old) (λ _ image. MayLeave (history_of old).unsynced image);
    })

-- a cut that failed leaves what it may, whether reads tell it or not
cut_or_not : (ext : Extent) (len : ℕ) (done : Bool) (state : State)
    → MayLeave state.unsynced state.reads
    → MayLeave (after_cut ext len (all_settled state.reads))
    (if done then with_list ext
    (take len (list_of ext state.reads)) state.reads else state.reads)
cut_or_not ext len true state may =
    after_cut_leaves ext (all_settled state.reads) state.reads len
    (all_settled_leaves state.unsynced state.reads may)
cut_or_not ext len false state may =
    after_cut_allows ext (all_settled state.reads) len state.reads
    (all_settled_leaves state.unsynced state.reads may)

module _ {T E : Type 0} where
  pub writes_refused : (ext : Extent) (at : ℕ) (bytes : List ℕ) (error : E)
      (old new : OperationLog) → new ≡ old → StaysReadable old
      → Writes {T = T} ext at bytes (Err error) (history_of old) (history_of new)
  writes_refused ext at bytes error old new same may =
      subst
      (λ (a : OperationLog). Writes {T = T} ext at bytes (Err error) (history_of old)
      (history_of a)) (sym same)
      (record {
        done = tt;
        unsynced = tt;
        torn = after_write_allows ext (all_settled (state_of old).reads) at (length bytes)
            (state_of old).reads
            (all_settled_leaves (state_of old).unsynced (state_of old).reads may);
        unsynced_torn = inl refl;
        time = elapses_start (history_of old)
            (λ _ image. MayLeave
            (after_write ext at (length bytes) (history_of old).unsynced) image);
      })

  pub writes_done : (ext : Extent) (at : ℕ) (bytes : List ℕ) (value : T) (old new : OperationLog)
      → new ≡ with_operation (wrote ext at (length bytes) bytes) old
      → Writes {E = E} ext at bytes (Ok value) (history_of old) (history_of new)
  writes_done ext at bytes value old new is =
      let operation = wrote ext at (length bytes) bytes in
      subst
      (λ (a : OperationLog). Writes {E = E} ext at bytes (Ok value) (history_of old)
      (history_of a)) (sym is)
      (record {
        done = ap (λ (s : State). s.reads) (step operation old);
        unsynced = ap (λ (s : State). s.unsynced) (step operation old);
        torn = tt;
        unsynced_torn = tt;
        time = operation_elapses old operation
            (λ _ image. MayLeave
            (after_write ext at (length bytes) (history_of old).unsynced) image) (λ image may. may);
      })

  pub writes_failed : (ext : Extent) (at : ℕ) (bytes part : List ℕ) (error : E)
      (old new : OperationLog) → new ≡ with_operation (wrote ext at (length bytes) part) old
      → StaysReadable old
      → at ≤ length (list_of ext (state_of old).reads) → length part ≤ length bytes → AreBytes part
      → Writes {T = T} ext at bytes (Err error) (history_of old) (history_of new)
  writes_failed ext at bytes part error old new is may within short fit =
      let operation = wrote ext at (length bytes) part in
      let reads = ap (λ (s : State). s.reads) (step operation old) in
      subst
      (λ (a : OperationLog). Writes {T = T} ext at bytes (Err error) (history_of old)
      (history_of a)) (sym is)
      (record {
        done = tt;
        unsynced = tt;
        torn = subst
            (λ (image : Image). MayLeave
            (after_write ext at (length bytes) (all_settled (state_of old).reads)) image)
            (sym reads)
            (after_write_leaves ext (all_settled (state_of old).reads) (state_of old).reads at part
            (length bytes)
            (all_settled_leaves (state_of old).unsynced
            (state_of old).reads may) within short fit);
        unsynced_torn = inr (ap (λ (s : State). s.unsynced) (step operation old));
        time = operation_elapses old operation
            (λ _ image. MayLeave
            (after_write ext at (length bytes) (history_of old).unsynced) image)
            (λ image left. left);
      })

  pub cuts_refused : (ext : Extent) (len : ℕ) (error : E) (old new : OperationLog) → new ≡ old
      → StaysReadable old → Cuts {T = T} ext len (Err error) (history_of old) (history_of new)
  cuts_refused ext len error old new same may =
      subst
      (λ (a : OperationLog). Cuts {T = T} ext len (Err error) (history_of old) (history_of a))
      (sym same)
      (record {
        done = tt;
        unsynced = tt;
        torn = after_cut_allows ext (all_settled (state_of old).reads) len (state_of old).reads
            (all_settled_leaves (state_of old).unsynced (state_of old).reads may);
        unsynced_torn = inl refl;
        time = elapses_start (history_of old)
            (λ _ image. MayLeave (after_cut ext len (history_of old).unsynced) image);
      })

  pub cuts_done : (ext : Extent) (len : ℕ) (value : T) (old new : OperationLog)
      → new ≡ with_operation (cut ext len true) old
      → Cuts {E = E} ext len (Ok value) (history_of old) (history_of new)
  cuts_done ext len value old new is =
      let operation = cut ext len true in
      subst (λ (a : OperationLog). Cuts {E = E} ext len (Ok value) (history_of old) (history_of a))
      (sym is)
      (record {
        done = ap (λ (s : State). s.reads) (step operation old);
        unsynced = ap (λ (s : State). s.unsynced) (step operation old);
        torn = tt;
        unsynced_torn = tt;
        time = operation_elapses old operation
            (λ _ image. MayLeave (after_cut ext len (history_of old).unsynced) image)
            (λ image left. left);
      })

  pub cuts_failed : (ext : Extent) (len : ℕ) (done : Bool) (error : E) (old new : OperationLog)
      → new ≡ with_operation (cut ext len done) old → StaysReadable old
      → Cuts {T = T} ext len (Err error) (history_of old) (history_of new)
  cuts_failed ext len done error old new is may =
      let operation = cut ext len done in
      let reads = ap (λ (s : State). s.reads) (step operation old) in
      subst
      (λ (a : OperationLog). Cuts {T = T} ext len (Err error) (history_of old) (history_of a))
      (sym is)
      (record {
        done = tt;
        unsynced = tt;
        torn = subst
            (λ (image : Image). MayLeave
            (after_cut ext len (all_settled (state_of old).reads)) image) (sym reads)
            (cut_or_not ext len done (state_of old) may);
        unsynced_torn = inr (ap (λ (s : State). s.unsynced) (step operation old));
        time = operation_elapses old operation
            (λ _ image. MayLeave (after_cut ext len (history_of old).unsynced) image)
            (λ image left. left);
      })

  pub syncs_failed : (error : E) (old new : OperationLog) → new ≡ old
      → Syncs {T = T} (Err error) (history_of old) (history_of new)
  syncs_failed error old new same =
      subst (λ (a : OperationLog). Syncs {T = T} (Err error) (history_of old) (history_of a))
      (sym same)
      (record {
        reads = refl;
        settled = tt;
        unsynced = refl;
        time =
            elapses_start (history_of old) (λ _ image. MayLeave (history_of old).unsynced image);
      })

  pub syncs_done : (value : T) (old new : OperationLog) → new ≡ with_operation synced old
      → StaysReadable old → Syncs {E = E} (Ok value) (history_of old) (history_of new)
  syncs_done value old new is may =
      subst (λ (a : OperationLog). Syncs {E = E} (Ok value) (history_of old) (history_of a))
      (sym is)
      (record {
        reads = ap (λ (s : State). s.reads) (step synced old);
        settled = ap (λ (s : State). s.unsynced) (step synced old);
        unsynced = tt;
        time = operation_elapses old synced (λ _ image. MayLeave (history_of old).unsynced image)
            (λ image left. subst (λ (i : Image). MayLeave (history_of old).unsynced i)
            (sym (all_settled_only (state_of old).reads image left)) may);
      })

-- Laws of a log's agreement with a disk, for the layers above it: all images have its frames, it
-- has one list of frames, a call that changes no list keeps it, and what a read of the frames
-- gives.
use Rattle.std.proofs.Common.{◌≡◌, inr, ℕ, ◌+◌, ◌≤◌, List, length, take, drop, Result, Ok, Err, OnOk, sym, ◌∙◌, ap, subst, arith, length-append}
use Rattle.std.proofs.lemmas.List.{drop-append-le, take-append-le, length-drop}
use Rattle.ax_disk.specs.model.Image.{Image, list_of}
use Rattle.ax_disk.specs.model.Pending.{MayLeave}
use Rattle.ax_disk.specs.model.Moments.{History}
use Rattle.ax_disk.specs.model.Calls.{Idles, bytes_from}
use Rattle.ax_disk.specs.model.Stays.{Rests}
use Rattle.ax_disk.specs.laws.ReadLaws.{bytes_from-within}
use Rattle.ax_disk.specs.laws.StaysLaws.{idles_rest}
use Rattle.ax_pages.specs.Area.{frames_bytes}
use Rattle.ax_pages.specs.declared.numbers.TheConstants.{NEWEST_VERSION}
use Rattle.ax_pages.specs.laws.AreaLaws.{one_area}
use Rattle.ax_area.specs.declared.root.RootChoice.TheVariants.{Counts}
use Rattle.ax_area.specs.Root.{IsRoot}
use Rattle.ax_area.specs.Image.{IsLive, HasFrames}
use Rattle.ax_log.specs.declared.log.Log.{Log}
use Rattle.ax_log.specs.Log.{log_slot, log_area, log_end}
use Rattle.ax_log.specs.Agreement.{HasLog, Agrees}

-- a call that changes no list keeps agreement
pub agrees_idles : (log : Log) (frames : List (List ℕ)) (old new : History) → Agrees log frames old
    → Idles old new
    → Agrees log frames new
agrees_idles log frames old new agrees idle = record {
  counts = subst (λ (i : Image). IsRoot i.root (Counts (log_slot log))) (sym idle.reads) agrees.counts;
  known = agrees.known;
  end_is = agrees.end_is;
  rests = subst (λ (i : Image). Rests new (HasLog i.root (log_area log) frames)) (sym idle.reads)
      (idles_rest old new (HasLog old.reads.root (log_area log) frames) agrees.rests idle);
}

-- each image that a crash now may leave is live with the log's slot and frames
pub agrees_live : (log : Log) (frames : List (List ℕ)) (history : History)
    → Agrees log frames history
    → Rests history (IsLive NEWEST_VERSION (log_slot log) frames)
agrees_live log frames history agrees = record {
  each = λ image may.
      let has = agrees.rests.each image may in
      record {
        counts = subst (λ (r : List ℕ). IsRoot r (Counts (log_slot log))) (sym has.root_is) agrees.counts;
        known = agrees.known;
        has = has.has;
      };
}

-- so it has these frames
pub agrees_rests : (log : Log) (frames : List (List ℕ)) (history : History)
    → Agrees log frames history
    → Rests history (HasFrames NEWEST_VERSION frames)
agrees_rests log frames history agrees = record {
  each = λ image may. inr (
    log_slot log,
    (agrees_live log frames history agrees).each image may,
  );
}

-- a log agrees by one list of frames
pub one_agreement : (log : Log) (one other : List (List ℕ)) (history : History)
    → MayLeave history.unsynced history.reads
    → Agrees log one history → Agrees log other history → one ≡ other
one_agreement log one other history may a b =
    one_area (list_of (log_area log) history.reads) one other (a.rests.each history.reads may).has
    (b.rests.each history.reads may).has

-- what a read within the frames gives
pub frames_read : (log : Log) (frames : List (List ℕ)) (history : History) (at size : ℕ)
    → MayLeave history.unsynced history.reads
    → Agrees log frames history → at + size ≤ log_end log
    → bytes_from (list_of (log_area log) history.reads) at size ≡ take size
    (drop at (frames_bytes frames))
frames_read log frames history at size may agrees within =
    let list = list_of (log_area log) history.reads in
    let text = frames_bytes frames in
    let area = (agrees.rests.each history.reads may).has in
    let end = agrees.end_is in
    bytes_from-within list at size (omega (
      arith,
      end,
      ap length area.spelled,
      length-append text area.rest,
    ))
    ∙ ap (λ (l : List ℕ). take size (drop at l)) area.spelled
    ∙ ap (take size) (drop-append-le at text area.rest (omega (arith, end)))
    ∙ take-append-le size (drop at text) area.rest (omega (arith, end, length-drop at text))

-- of a call that may fail
pub frames_read_at_ok : {E : Type 0} (log : Log) (frames : List (List ℕ)) (history : History)
    (at size : ℕ) (bytes : List ℕ) (result : Result (Unit {0}) E)
    → MayLeave history.unsynced history.reads → Agrees log frames history → at + size ≤ log_end log
    → OnOk result (bytes ≡ bytes_from (list_of (log_area log) history.reads) at size)
    → OnOk result (bytes ≡ take size (drop at (frames_bytes frames)))
frames_read_at_ok log frames history at size bytes (Ok value) may agrees within is = is
    ∙ frames_read log frames history at size may agrees within
frames_read_at_ok log frames history at size bytes (Err error) may agrees within is = tt

-- What each half of a commit leaves, as lists, and then of all images.
use Rattle.std.proofs.Common.{◌≡◌, ◌≢◌, ◌⊎◌, inl, inr, ⊎_elim, ℕ, ◌+◌, ◌<◌, List, [], ◌∷◌, ◌++◌, length, get_or, take, drop, Result, Ok, Err, OnOk}
use Rattle.std.proofs.Common.{sym, ◌∙◌, ap, subst, arith, append_assoc, length-append}
use Rattle.std.proofs.lemmas.List.{take_at, drop_at, take_more, get_or-append-add}
use Rattle.ax_disk.specs.declared.extent.Extent.{Extent}
use Rattle.ax_disk.specs.declared.extent.Extent.TheVariants.{Root}
use Rattle.ax_disk.specs.model.Image.{Image, list_of}
use Rattle.ax_disk.specs.model.Pending.{MayHold, written, settled, Unsynced, MayLeave, pending_of, all_settled, after_write}
use Rattle.ax_disk.specs.model.Moments.{History}
use Rattle.ax_disk.specs.model.Calls.{overwritten, Writes, Syncs}
use Rattle.ax_disk.specs.model.Stays.{Rests, Stays, Turns}
use Rattle.ax_disk.specs.laws.PendingLaws.{all_settled_only}
use Rattle.ax_disk.specs.laws.ExtentLaws.{list_of-same, list_of-other, pending_of-settled}
use Rattle.ax_disk.specs.laws.TornLaws.{one_byte_written}
use Rattle.ax_disk.specs.laws.WriteLaws.{WriteFrom, written_list, common_list_stays}
use Rattle.ax_disk.specs.laws.StaysLaws.{stays_join, stays_turn, stays_weaken, turns_weaken, writes_stay, writes_keep, syncs_stay, synced_rests}
use Rattle.ax_frame.specs.LogFrame.{open_frame}
use Rattle.ax_pages.specs.Area.{frames_bytes, IsArea}
use Rattle.ax_pages.specs.declared.numbers.TheConstants.{NEWEST_VERSION}
use Rattle.ax_pages.specs.laws.AreaLaws.{area_by_prefix, gate_within, frames_push, spans_push}
use Rattle.ax_area.specs.declared.root.Counting.{Counting}
use Rattle.ax_area.specs.declared.root.RootChoice.TheVariants.{Counts}
use Rattle.ax_area.specs.Root.{IsRoot, IsKnown}
use Rattle.ax_area.specs.Image.{IsLive}
use Rattle.ax_area.proofs.OneRoot.{counts_named}
use Rattle.ax_log.specs.declared.log.Log.{Log}
use Rattle.ax_log.specs.Log.{log_slot, log_end}
use Rattle.ax_log.specs.Agreement.{HasLog, Agrees}
use Rattle.ax_log.specs.Commit.{IsCommitSpelling, IsStaged, IsReady}

-- ---- lists

-- behind a closed gate stands what was written there
pub staged_ready : (bytes : List ℕ) (frames : List (List ℕ)) (end : ℕ) (text span : List ℕ)
    → end ≡ length (frames_bytes frames) → IsArea bytes frames → IsCommitSpelling text span
    → IsReady (overwritten bytes (end + 1) text) frames span
staged_ready bytes frames end text span end-is area frame =
    let within : end < length bytes = omega (arith, gate_within bytes frames area) in
    let gate = get_or bytes end 0 in
    let more = drop (end + 1 + length text) bytes in
    let before : take end bytes ≡ frames_bytes frames = ap (take end) area.spelled
    ∙ take_at (frames_bytes frames) area.rest end (sym end-is) in
    let prefix : take (end + 1) bytes ≡ frames_bytes frames ++ gate ∷ [] =
    take_more bytes end 0 within ∙ ap (λ (b : List ℕ). b ++ gate ∷ []) before in
    let place : end ≡ length (frames_bytes frames) + 0 = omega (arith, end-is) in
    let gate-is : gate ≡ get_or area.rest 0 0 =
    ap (λ (b : List ℕ). get_or b end 0) area.spelled
    ∙ ap (λ (k : ℕ). get_or (frames_bytes frames ++ area.rest) k 0) place
    ∙ get_or-append-add (frames_bytes frames) area.rest 0 0 in
    record {
      spans = area.spans;
      fits = frame.fits;
      text = text;
      text_is = frame.spelled;
      gate = gate;
      closed = λ is. area.closed.1 (sym gate-is ∙ is);
      more = more;
      spelled = ap (λ (b : List ℕ). b ++ text ++ more) prefix
          ∙ ap (λ (b : List ℕ). b ++ more) (append_assoc (frames_bytes frames) (gate ∷ []) text);
    }

-- some byte at the gate
module _ (bytes : List ℕ) (frames : List (List ℕ)) (end : ℕ) (span : List ℕ)
    (end-is : end ≡ length (frames_bytes frames)) (ready : IsReady bytes frames span) where
  ready_rest : List ℕ
  ready_rest = ready.text ++ ready.more

  ready-is : bytes ≡ frames_bytes frames ++ ready.gate ∷ ready_rest
  unfolding ready_rest
  ready-is = ready.spelled ∙ append_assoc (frames_bytes frames) (ready.gate ∷ ready.text) ready.more

  ready_prefix : take end bytes ≡ frames_bytes frames
  ready_prefix = ap (take end) ready-is ∙ take_at (frames_bytes frames)
      (ready.gate ∷ ready_rest) end (sym end-is)

  ready_back : drop (end + 1) bytes ≡ ready_rest
  ready_back =
      ap (drop (end + 1)) (ready-is ∙ sym (append_assoc (frames_bytes frames)
      (ready.gate ∷ []) ready_rest))
      ∙ drop_at (frames_bytes frames ++ ready.gate ∷ []) ready_rest (end + 1)
      (omega (arith, end-is, length-append (frames_bytes frames) (ready.gate ∷ [])))

  pub ready_within : end < length bytes
  ready_within = omega (
    arith,
    end-is,
    ap length ready-is,
    length-append (frames_bytes frames)
        (ready.gate ∷ ready_rest),
  )

  with_byte : (byte : ℕ)
      → take end bytes ++ byte ∷ drop (end + 1) bytes ≡ frames_bytes frames ++ byte ∷ ready_rest
  with_byte byte = ap (λ (b : List ℕ). b ++ byte ∷ drop (end + 1) bytes) ready_prefix
      ∙ ap (λ (b : List ℕ). frames_bytes frames ++ byte ∷ b) ready_back

  closed_area : (others : List ℕ) (byte : ℕ) → byte ≢ 1
      → others ≡ take end bytes ++ byte ∷ drop (end + 1) bytes → IsArea others frames
  closed_area others byte closed is = record {
    spans = ready.spans;
    rest = byte ∷ ready_rest;
    spelled = is ∙ with_byte byte;
    closed = (omega arith, closed);
  }

  frame_stands : 1 ∷ ready_rest ≡ open_frame span ++ 0 ∷ ready.more
  unfolding ready_rest
  frame_stands = ap (λ (b : List ℕ). b ++ ready.more) ready.text_is
      ∙ append_assoc (open_frame span) (0 ∷ []) ready.more

  opened_area : (others : List ℕ) → others ≡ take end bytes ++ 1 ∷ drop (end + 1) bytes
      → IsArea others (frames ++ span ∷ [])
  opened_area others is = record {
    spans = spans_push frames span ready.spans ready.fits;
    rest = 0 ∷ ready.more;
    spelled = is ∙ with_byte 1 ∙ ap (λ (b : List ℕ). frames_bytes frames ++ b) frame_stands
        ∙ sym (append_assoc (frames_bytes frames) (open_frame span) (0 ∷ ready.more))
        ∙ ap (λ (b : List ℕ). b ++ 0 ∷ ready.more) (sym (frames_push frames span));
    closed = (omega arith, λ e. omega (arith, e));
  }

  one_or_not : (byte : ℕ) → (byte ≡ 1) ⊎ (byte ≢ 1)
  one_or_not byte = grind arith

  -- the frames before, or with the one more
  some_byte : (others : List ℕ) (byte : ℕ) → others ≡ take end bytes ++ byte ∷ drop (end + 1) bytes
      → IsArea others frames ⊎ IsArea others (frames ++ span ∷ [])
  some_byte others byte is =
      ⊎_elim
      (λ (one : byte ≡ 1). inr (opened_area others
      (is ∙ ap (λ (b : ℕ). take end bytes ++ b ∷ drop (end + 1) bytes) one)))
      (λ (not : byte ≢ 1). inl (closed_area others byte not is))
      (one_or_not byte)

-- ---- the first half, of all images

module _ (root : List ℕ) (area : Extent) (frames : List (List ℕ)) (end : ℕ) (apart : area ≢ Root)
    (end-is : end ≡ length (frames_bytes frames)) where
  kept_behind : (unsynced : Unsynced) (image : Image)
      → (from : WriteFrom area (end + 1) unsynced image) → HasLog root area frames from.before
      → HasLog root area frames image
  kept_behind unsynced image from has = record {
    root_is = from.others Root (λ e. apart (sym e)) ∙ has.root_is;
    has = area_by_prefix (list_of area image) (list_of area from.before) frames (end + 1)
        (omega (arith, end-is)) from.prefix has.has;
  }

  module _ {T E : Type 0} (text : List ℕ) (old mid : History)
      (stays : MayLeave old.unsynced old.reads) (within : end < length (list_of area old.reads))
      (rests : Rests old (HasLog root area frames)) where
    pub written_behind : (result : Result T E) → Writes area (end + 1) text result old mid
        → Stays old mid (HasLog root area frames)
    written_behind result write =
        writes_keep area (end + 1) text result old mid (HasLog root area frames)
        (HasLog root area frames) stays (omega (arith, within)) rests
        (kept_behind old.unsynced) write

    pub synced_behind : (new : History) (value : T) (result : Result T E)
        → MayLeave mid.unsynced mid.reads → Writes {E = E} area (end + 1) text (Ok value) old mid
        → Syncs result mid new
        → Stays old new (HasLog root area frames)
    synced_behind new value result stays_mid write sync =
        let first = written_behind (Ok value) write in
        stays_join old mid new (HasLog root area frames) first
        (syncs_stay result mid new (HasLog root area frames) first.rests stays_mid sync)

-- ---- the second half, of all images

module _ (area : Extent) (frames : List (List ℕ)) (end : ℕ) (span : List ℕ) (apart : area ≢ Root)
    (end-is : end ≡ length (frames_bytes frames)) (old : History)
    (ready : IsReady (list_of area old.reads) frames span) where
  abbrev Either : Image → Type 0
  Either image = HasLog old.reads.root area frames image ⊎ HasLog old.reads.root area
      (frames ++ span ∷ []) image

  root_stays : old.unsynced ≡ all_settled old.reads → MayLeave old.unsynced old.reads
      → (image : Image) → MayLeave (after_write area end 1 old.unsynced) image
      → image.root ≡ old.reads.root
  root_stays settled stays image may =
      common_list_stays area Root old.unsynced old.reads end 1 (λ (l : List ℕ). l ≡ old.reads.root)
      (λ e. apart (sym e)) stays
      (λ left may_left. ap (λ (i : Image). i.root)
      (all_settled_only old.reads left (subst
      (λ (u : Unsynced). MayLeave u left) settled may_left)))
      image may

  gate_leaves : old.unsynced ≡ all_settled old.reads → MayLeave old.unsynced old.reads
      → (image : Image) → MayLeave (after_write area end 1 old.unsynced) image → Either image
  gate_leaves is_settled stays image may =
      let held : MayHold (written end 1 (settled (list_of area old.reads))) (list_of area image) =
      subst (λ p. MayHold (written end 1 p) (list_of area image))
      (ap (pending_of area) is_settled ∙ pending_of-settled area old.reads)
      (written_list area old.unsynced end 1 image may) in
      let one = one_byte_written (list_of area old.reads) end (list_of area image)
      (ready_within (list_of area old.reads) frames end span end-is ready) held in
      let root = root_stays is_settled stays image may in
      ⊎_elim
      (λ has. inl (record { root_is = root; has = has }))
      (λ has. inr (record { root_is = root; has = has }))
      (some_byte (list_of area old.reads) frames end span end-is ready
      (list_of area image) one.byte one.is)

  module _ {T E : Type 0} (is_settled : old.unsynced ≡ all_settled old.reads)
      (stays : MayLeave old.unsynced old.reads) (mid : History) where
    pub gate_written : (result : Result T E) → Writes area end (1 ∷ []) result old mid
        → Stays old mid Either
    gate_written result write = writes_stay area end (1 ∷ []) result old mid Either
        (gate_leaves is_settled stays) write

    pub gate_synced : (new : History) (value : T) (result : Result T E)
        → MayLeave mid.unsynced mid.reads → Writes {E = E} area end (1 ∷ []) (Ok value) old mid
        → Syncs result mid new → Stays old new Either
    gate_synced new value result stays_mid write sync =
        let first = gate_written (Ok value) write in
        stays_join old mid new Either first (syncs_stay result mid new Either first.rests stays_mid
        sync)

  module _ {T E : Type 0} (mid new : History) (one : T)
      (write : Writes {E = E} area end (1 ∷ []) (Ok one) old mid) where
    gate_list : list_of area mid.reads ≡ take end (list_of area old.reads) ++ 1 ∷ drop (end + 1)
        (list_of area old.reads)
    gate_list =
        ap (list_of area) write.done ∙ list_of-same area
        (overwritten (list_of area old.reads) end (1 ∷ [])) old.reads
        ∙ append_assoc (take end (list_of area old.reads)) (1 ∷ [])
        (drop (end + 1) (list_of area old.reads))

    mid_root : mid.reads.root ≡ old.reads.root
    mid_root = ap (λ (i : Image). i.root) write.done
        ∙ list_of-other area Root (overwritten (list_of area old.reads) end (1 ∷ [])) old.reads
        (λ e. apart (sym e))

    pub gate_opened : (result : Result T E) → Syncs result mid new
        → OnOk result (Rests new (HasLog old.reads.root area (frames ++ span ∷ [])))
    gate_opened (Ok other) sync =
        synced_rests other mid new (HasLog old.reads.root area (frames ++ span ∷ []))
        (record {
          root_is = mid_root;
          has = opened_area
              (list_of area old.reads) frames end span end-is ready
              (list_of area mid.reads) gate_list;
        })
        sync
    gate_opened (Err error) sync = tt

-- ---- the whole commit

module _ (slot : Counting) (end : ℕ) (frames : List (List ℕ)) (text span : List ℕ)
    (old : History) (counts : IsRoot old.reads.root (Counts slot)) (known : IsKnown NEWEST_VERSION slot)
    (end-is : end ≡ length (frames_bytes frames))
    (rests : Rests old (HasLog old.reads.root slot.area frames))
    (frame : IsCommitSpelling text span) where
  abbrev area : Extent
  area = slot.area

  pub apart_root : area ≢ Root
  apart_root = (counts_named old.reads.root slot counts).1

  abbrev Live : List (List ℕ) → Image → Type 0
  Live fs image = IsLive NEWEST_VERSION slot fs image

  pub is_live : (fs : List (List ℕ)) (image : Image) → HasLog old.reads.root area fs image → Live fs image
  is_live fs image has = record {
    counts = subst (λ (r : List ℕ). IsRoot r (Counts slot)) (sym has.root_is) counts;
    known = known;
    has = has.has;
  }

  -- the first half failed, or only it was done
  pub half_turns : (new : History) → Stays old new (HasLog old.reads.root area frames)
      → Turns old new (Live frames) (Live (frames ++ span ∷ []))
  half_turns new stays = stays_turn old new (Live frames) (Live (frames ++ span ∷ []))
      (stays_weaken old new (HasLog old.reads.root area frames) (Live frames)
      (is_live frames) stays)

  module _ (mid : History) (staged : IsStaged area end text old mid)
      (stays : MayLeave old.unsynced old.reads) where
    staged_list : list_of area mid.reads ≡ overwritten (list_of area old.reads) (end + 1) text
    staged_list = ap (list_of area) staged.reads
        ∙ list_of-same area (overwritten (list_of area old.reads) (end + 1) text) old.reads

    pub staged_root : mid.reads.root ≡ old.reads.root
    staged_root = ap (λ (i : Image). i.root) staged.reads
        ∙ list_of-other area Root (overwritten (list_of area old.reads) (end + 1) text) old.reads
        (λ e. apart_root (sym e))

    pub ready_now : IsReady (list_of area mid.reads) frames span
    ready_now =
        subst (λ (l : List ℕ). IsReady l frames span) (sym staged_list)
        (staged_ready (list_of area old.reads) frames end text span end-is
        (rests.each old.reads stays).has frame)

    pub both_turn : (new : History) → Stays old mid (HasLog old.reads.root area frames)
        → Turns mid new (HasLog mid.reads.root area frames)
        (HasLog mid.reads.root area (frames ++ span ∷ []))
        → Turns old new (Live frames) (Live (frames ++ span ∷ []))
    both_turn new first second =
        let one = half_turns mid first in
        let other = turns_weaken mid new (HasLog mid.reads.root area frames) (Live frames)
        (HasLog mid.reads.root area (frames ++ span ∷ [])) (Live (frames ++ span ∷ []))
        (λ image has. is_live frames image
        (subst (λ (r : List ℕ). HasLog r area frames image) staged_root has))
        (λ image has. is_live (frames ++ span ∷ []) image
        (subst (λ (r : List ℕ). HasLog r area (frames ++ span ∷ []) image) staged_root has))
        second in
        stays_join old mid new (λ image. Live frames image ⊎ Live (frames ++ span ∷ []) image) one other

  end_after : end + length text ≡ length (frames_bytes (frames ++ span ∷ []))
  end_after =
      omega (
        arith,
        end-is,
        ap length frame.spelled,
        length-append (open_frame span) (0 ∷ []),
        ap length (frames_push frames span),
        length-append (frames_bytes frames)
            (open_frame span),
      )

  pub agrees_after : (log : Log) (mid new : History) → log_slot log ≡ slot
      → log_end log ≡ end + length text
      → mid.reads.root ≡ old.reads.root → new.reads.root ≡ mid.reads.root
      → Rests new (HasLog mid.reads.root area (frames ++ span ∷ []))
      → Agrees log (frames ++ span ∷ []) new
  agrees_after log mid new slot-is log_end-is mid-is new-is now = record {
    counts = subst (λ (s : Counting). IsRoot new.reads.root (Counts s)) (sym slot-is)
        (subst (λ (r : List ℕ). IsRoot r (Counts slot)) (sym (new-is ∙ mid-is)) counts);
    known = subst (λ (s : Counting). IsKnown NEWEST_VERSION s) (sym slot-is) known;
    end_is = log_end-is ∙ end_after;
    rests = subst (λ (s : Counting). Rests new (HasLog new.reads.root s.area (frames ++ span ∷ [])))
        (sym slot-is)
        (subst (λ (r : List ℕ). Rests new (HasLog r area (frames ++ span ∷ []))) (sym new-is) now);
  }

-- Committing: parts that are allowed by what they say are within the format, and what their frame tells is told
-- behind the rest.
use Rattle.std.proofs.Common.{◌≡◌, inr, ℕ, ◌+◌, List, [], ◌∷◌, ◌++◌, length, Option, Some, None, refl, sym, ap, subst, ◌∙◌}
use Rattle.std.proofs.Common.{length-append, arith}
use Rattle.std.specs.Prelude.{option_and_then}
use Rattle.std.specs.Option.{option_map}
use Rattle.std.proofs.lemmas.List.{append-nil}
use Rattle.ax_disk.specs.model.Image.{Image}
use Rattle.ax_disk.specs.model.Pending.{MayLeave}
use Rattle.ax_disk.specs.model.Moments.{History}
use Rattle.ax_disk.specs.model.Stays.{Rests, Turns}
use Rattle.ax_disk.specs.laws.StaysLaws.{rests_weaken, turns_weaken}
use Rattle.ax_frame.specs.Part.{PartValue, AllFit, parts_bytes}
use Rattle.ax_frame.specs.LogFrame.{frame_bytes, CanFrame}
use Rattle.ax_frame.proofs.Frames.{parts_take_bytes}
use Rattle.ax_frame.proofs.Parts.{one_list}
use Rattle.ax_area.specs.Changes.{Change, change_of}
use Rattle.ax_area.specs.Contents as area
use Rattle.ax_area.specs.Image.{HasFrames, IsLive, Says}
use Rattle.ax_area.specs.Items.{item_bytes}
use Rattle.ax_area.specs.Parts as said
use Rattle.ax_area.specs.Parts.{changes_said}
use Rattle.ax_area.specs.Told.{Told, AreTold, Begins, changes_of, told_bytes}
use Rattle.ax_area.proofs.OneMore.{lead_on, tell_more}
use Rattle.ax_area.proofs.OneTelling.{same_some, some_or_none}
use Rattle.ax_area_laws.proofs.Parts.{are_parts, one_part_told, parts_told}
use Rattle.ax_area_laws.proofs.Rising.{parts_alike, risen_agrees}
use Rattle.ax_area_laws.proofs.Telling.{tells}
use Rattle.ax_area_laws.specs.Risen.{risen}
use Rattle.ax_cache.specs.Pages.{CachedPages}
use Rattle.ax_pages.specs.AfterPart.{after_parts}
use Rattle.ax_pages.specs.Area.{IsSpan, frames_bytes}
use Rattle.ax_pages.specs.Contents.{Contents}
use Rattle.ax_pages.specs.declared.numbers.TheConstants.{NEWEST_VERSION}
use Rattle.ax_log.specs.declared.log.Log.{Log}
use Rattle.ax_log.specs.Log.{log_slot, log_area, log_generation, log_end}
use Rattle.ax_log.specs.Agreement as log
use Rattle.ax_log.specs.AgreementLaws.{agrees_rests}
use Rattle.ax_log.specs.Commit.{IsCommitSpelling}
use Rattle.ax_area.specs.declared.root.Counting.{Counting}
use Rattle.ax_store.specs.Batch.{AreAllowed}
use Rattle.ax_store.specs.Cached.{HoldsParts}
use Rattle.ax_store.specs.Change.{IsFrameOf}
use Rattle.ax_store.specs.declared.store.Store.{Store}
use Rattle.ax_store.specs.Kept.{Kept, Takes}
use Rattle.ax_store.specs.Loading.{nothing_kept}
use Rattle.ax_store.specs.Putting.{AreWithin, Puts}
use Rattle.ax_store.specs.Store.{Agrees, SaysMore, store_contents, store_parts}
use Rattle.ax_store.proofs.CacheLemmas.{held_on}
use Rattle.ax_store.proofs.FramesSay.{Tell, says_by, told_by}
use Rattle.ax_store.proofs.LoadLemmas.{one_frame_more}

-- ---- what the parts say may follow what the store's parts say, and the other way round

module _ (parts : List PartValue) (old : Contents) (fit : AllFit parts) where
  pub allowed_within : AreAllowed parts (risen old) → AreWithin parts old
  allowed_within (new, leads) = by_parts (after_parts parts old) refl
    where
      by_parts : (found : Option Contents) → after_parts parts old ≡ found → AreWithin parts old
      by_parts None none = absurd (some_or_none new (sym (parts_alike parts old fit ∙ ap (option_map risen) none) ∙ leads))
      by_parts (Some after) is = (after, is)

  pub parts_say : (new : Contents) → after_parts parts old ≡ Some new → said.after_parts parts (risen old) ≡ Some (risen new)
  parts_say new leads = parts_alike parts old fit ∙ ap (option_map risen) leads

  pub within_allowed : AreWithin parts old → AreAllowed parts (risen old)
  within_allowed (new, leads) = (risen new, parts_say new leads)

-- ---- what their frame tells

-- items of one part each say the changes of their parts
said_by : (told : List Told) (at : ℕ) → AreTold NEWEST_VERSION at told
    → changes_said (parts_told told) ≡ Some (changes_of told)
said_by [] at are = refl
said_by (t ∷ told) at are =
    ap (option_and_then (λ change. option_map (λ changes. change ∷ changes) (changes_said (parts_told told))))
    (ap (change_of NEWEST_VERSION) (sym (one_part_told t at are.0)) ∙ are.0.says)
    ∙ ap (option_map (λ changes. t.change ∷ changes)) (said_by told (at + length (item_bytes t.item)) are.1)

-- the parts of a frame are told, at an offset, and say these changes
record TellsParts (parts : List PartValue) (at : ℕ) (changes : List Change) : Type 0 where
  told : List Told
  begins : Begins NEWEST_VERSION (parts_bytes parts) at told []
  says : changes_of told ≡ changes

tells_parts : (parts : List PartValue) (at : ℕ) (old new : Contents) (changes : List Change) → AllFit parts
    → after_parts parts old ≡ Some new → changes_said parts ≡ Some changes → TellsParts parts at changes
tells_parts parts at old new changes fit leads are_said =
    let on = tells parts at old new (risen old) fit leads (risen_agrees old) in
    let are = are_parts on.told at on.are in
    let same : parts ≡ parts_told on.told = one_list parts (parts_told on.told) fit are.fit (on.spelled ∙ are.spelled) in
    record {
      told = on.told;
      begins = record { are = on.are; spelled = on.spelled ∙ sym (append-nil (told_bytes on.told)) };
      says = sym (same_some changes (changes_of on.told) (sym are_said ∙ ap changes_said same ∙ said_by on.told at on.are));
    }

-- ---- the frame

pub span_fits : (parts : List PartValue) → CanFrame parts → IsSpan (parts_bytes parts)
span_fits parts can = record { some = parts_take_bytes parts can.some; fits = can.length_fits }

pub text_of : (bytes : List ℕ) (parts : List PartValue) → CanFrame parts → IsFrameOf bytes parts → IsCommitSpelling bytes (parts_bytes parts)
text_of bytes parts can spelled = record { fits = span_fits parts can; spelled = spelled }

pub text_len : (bytes : List ℕ) (parts : List PartValue) → IsFrameOf bytes parts → length bytes ≡ 9 + length (parts_bytes parts)
text_len bytes parts spelled = omega (arith, ap length spelled, length-append (frame_bytes parts) (0 ∷ []))

takes_of : (parts : List PartValue) (at : ℕ) (old new : Kept) → CanFrame parts → Puts parts at old new → Takes (parts_bytes parts) at old new
takes_of parts at old new can puts = record { parts = parts; fit = can.fit; spelled = refl; lead = puts.lead; offsets = puts.offsets }

module _ {C : Type 0} (pages : C → CachedPages) (store : Store C) (old : History) (agrees : Agrees pages store old) (parts : List PartValue)
    (can : CanFrame parts) where
  abbrev frames_then : List (List ℕ)
  frames_then = agrees.frames ++ parts_bytes parts ∷ []

  pub committed : (new : Store C) (history : History) → log.Agrees new.log (agrees.frames ++ parts_bytes parts ∷ []) history
      → Puts parts (log_end store.log + 9) store.pages new.pages
      → log_slot new.log ≡ log_slot store.log → new.cache ≡ store.cache → Agrees pages new history
  committed new history logged puts slot cache = record {
    frames = frames_then;
    logged = logged;
    takes = one_frame_more agrees.frames (parts_bytes parts) 0 (log_end store.log) nothing_kept store.pages new.pages agrees.takes
        (omega (arith, agrees.logged.end_is))
        (takes_of parts (log_end store.log + 9) store.pages new.pages can puts);
    caches =
        subst (λ c. HoldsParts (pages c) (log_area new.log) (log_generation new.log) (frames_bytes frames_then)) (sym cache)
        (subst (λ (s : Counting). HoldsParts (pages store.cache) s.area s.generation (frames_bytes frames_then)) (sym slot)
        (held_on (pages store.cache) (log_area store.log) (log_generation store.log) agrees.frames (parts_bytes parts ∷ []) agrees.caches));
  }

  module _ (history : History) (may : MayLeave old.unsynced old.reads) (allowed : AreAllowed parts (store_contents store))
      (turn : Turns old history (IsLive NEWEST_VERSION (log_slot store.log) agrees.frames) (IsLive NEWEST_VERSION (log_slot store.log) frames_then))
      (version : ℕ) (told : List Told) (changes : List Change) (new : area.Contents)
      (says : Says NEWEST_VERSION version told (store_contents store) old.reads) (are_said : changes_said parts ≡ Some changes)
      (leads : area.after_changes changes (store_contents store) ≡ Some new) where
    tell : Tell agrees.frames version told (store_contents store)
    tell =
        told_by agrees.frames version told (store_contents store) old.reads
        ((agrees_rests store.log agrees.frames old agrees.logged).each old.reads may) says

    more : TellsParts parts (length (frames_bytes agrees.frames) + 9) changes
    more =
        let within = allowed_within parts (store_parts store) can.fit allowed in
        tells_parts parts (length (frames_bytes agrees.frames) + 9) (store_parts store) within.0 changes can.fit within.1 are_said

    tell_then : Tell frames_then version (told ++ more.told) new
    tell_then = record {
      version_is = tell.version_is;
      tell = tell_more NEWEST_VERSION agrees.frames (parts_bytes parts) 0 (length (frames_bytes agrees.frames)) told more.told
          (omega arith) tell.tell more.begins;
      lead = lead_on told more.told area.no_contents (store_contents store) new tell.lead
          (ap (λ list. area.after_changes list (store_contents store)) more.says ∙ leads);
    }

    -- an image that has the frame more says the changes behind the rest
    says_then : (image : Image) → HasFrames NEWEST_VERSION frames_then image → SaysMore version told changes new image
    says_then image has = (more.told, more.says, says_by frames_then version (told ++ more.told) new tell_then image has)

    pub turns : Turns old history (Says NEWEST_VERSION version told (store_contents store)) (SaysMore version told changes new)
    turns =
        turns_weaken old history (IsLive NEWEST_VERSION (log_slot store.log) agrees.frames) (Says NEWEST_VERSION version told (store_contents store))
        (IsLive NEWEST_VERSION (log_slot store.log) frames_then) (SaysMore version told changes new)
        (λ image live. says_by agrees.frames version told (store_contents store) tell image (inr (log_slot store.log, live)))
        (λ image live. says_then image (inr (log_slot store.log, live))) turn

    -- so it is once each image has the frame more
    pub rests_then : (now : Log) → log.Agrees now frames_then history → Rests history (SaysMore version told changes new)
    rests_then now logged =
        rests_weaken history (HasFrames NEWEST_VERSION frames_then) (SaysMore version told changes new) says_then
        (agrees_rests now frames_then history logged)

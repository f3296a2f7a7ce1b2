-- The frames of an area are read and taken, one after another.
use Rattle.std.proofs.Common.{◌≡◌, ℕ, ◌+◌, ◌<◌, ◌≤◌, List, [], ◌∷◌, ◌++◌, length, take, drop, Err, refl, sym, ap, subst, ◌∙◌, length-append, arith}
use Rattle.std.proofs.lemmas.List.{take_at, drop_at, append_assoc, append-nil}
use Rattle.std.proofs.lemmas.List.Concat.{flat_map-append}
use Rattle.ax_disk.specs.declared.extent.Extent.{Extent}
use Rattle.ax_disk.specs.model.Pending.{MayLeave}
use Rattle.ax_disk.specs.model.Moments.{History}
use Rattle.ax_frame.specs.LogFrame.{open_frame, open_head, IsFrameHead}
use Rattle.ax_frame.specs.declared.log_frame.FrameHead.{FrameHead}
use Rattle.ax_frame.specs.declared.log_frame.FrameHead.TheVariants.{Closed, Frame, Bad}
use Rattle.ax_pages.specs.Area.{IsSpan, AreSpans, frames_bytes}
use Rattle.ax_pages.specs.Contents.{no_contents}
use Rattle.ax_pages.specs.Leads.{Leads, IsSpoiled, LeadOn, AreSpoiled}
use Rattle.ax_log.specs.declared.log.Log.{Log}
use Rattle.ax_log.specs.Agreement.{Agrees}
use Rattle.ax_store.specs.declared.fault.StoreFault.{StoreFault}
use Rattle.ax_store.specs.declared.fault.StoreFault.TheVariants.{Disk, Damaged, Newer, Memory}
use Rattle.ax_pages.specs.AfterPart.{after_parts}
use Rattle.ax_store.specs.Kept.{Kept, Takes, no_offsets, offsets_after_parts}
use Rattle.ax_store.specs.Loading.{nothing_kept, TakesOn, IsLoadedTo, TellsLen, TellsSpan, TellsFrame, TellsLoad}
use Rattle.ax_store.specs.Window.{TellsReach, Shows}
use Rattle.ax_store.specs.declared.window.Window.{Window}

-- ---- bytes

module _ (first rest : List (List ℕ)) (span : List ℕ) where
  pub frame_at : (at : ℕ) → at ≡ length (frames_bytes first) → drop at (frames_bytes (first ++ span ∷ rest)) ≡ open_frame span ++ frames_bytes rest
  frame_at at place =
      ap (drop at) (flat_map-append open_frame first (span ∷ rest))
      ∙ drop_at (frames_bytes first) (open_frame span ++ frames_bytes rest) at (sym place)

  pub head_at : (at : ℕ) → at ≡ length (frames_bytes first) → take 9 (drop at (frames_bytes (first ++ span ∷ rest))) ≡ open_head (length span)
  head_at at place = ap (take 9) (frame_at at place)

  pub span_at : (at len : ℕ) → at ≡ length (frames_bytes first) → len ≡ length span → take len (drop (at + 9) (frames_bytes (first ++ span ∷ rest))) ≡ span
  span_at at len place is =
      let before : List ℕ = frames_bytes first ++ open_head (length span) in
      let whole : frames_bytes (first ++ span ∷ rest) ≡ before ++ (span ++ frames_bytes rest) =
      flat_map-append open_frame first (span ∷ rest) ∙ sym (append_assoc (frames_bytes first) (open_head (length span)) (span ++ frames_bytes rest)) in
      let place_behind : length before ≡ at + 9 = length-append (frames_bytes first) (open_head (length span)) ∙ ap (λ n. n + 9) (sym place) in
      ap (take len) (ap (drop (at + 9)) whole ∙ drop_at before (span ++ frames_bytes rest) (at + 9) place_behind)
      ∙ take_at span (frames_bytes rest) len (sym is)

  pub frames_long : length (frames_bytes (first ++ span ∷ rest)) ≡ length (frames_bytes first) + 9 + length span + length (frames_bytes rest)
  frames_long =
      omega (
        arith,
        ap length (flat_map-append open_frame first (span ∷ rest)),
        length-append (frames_bytes first) (open_frame span ++ frames_bytes rest),
        length-append span (frames_bytes rest),
      )

-- ---- spans

spans_in : (first rest : List (List ℕ)) (span : List ℕ) → AreSpans (first ++ span ∷ rest) → IsSpan span
spans_in [] rest span all = all.0
spans_in (frame ∷ first) rest span all = spans_in first rest span all.1

pub span_of : (log : Log) (first rest : List (List ℕ)) (span : List ℕ) (history : History) → Agrees log (first ++ span ∷ rest) history
    → MayLeave history.unsynced history.reads → IsSpan span
span_of log first rest span history agrees may = spans_in first rest span (agrees.rests.each history.reads may).has.spans

pub head_of_span : (bytes span : List ℕ) → IsSpan span → bytes ≡ open_head (length span) → IsFrameHead bytes (Frame (length span))
head_of_span bytes span fits is = (fits.some, fits.fits, is)

pub same_len : (m n : ℕ) → Frame m ≡ Frame n → n ≡ m
same_len m n e = cc

pub not_closed : (head : FrameHead) (n : ℕ) → Frame n ≡ head → head ≡ Closed → ⊥
not_closed head n e is = cc

pub not_bad : (head : FrameHead) (n : ℕ) → Frame n ≡ head → head ≡ Bad → ⊥
not_bad head n e is = cc

-- ---- what is taken

same_before : (bytes : List ℕ) (at : ℕ) (old mid new : Kept) → mid.contents ≡ old.contents → mid.offsets ≡ old.offsets
    → Takes bytes at mid new → Takes bytes at old new
same_before bytes at old mid new contents offsets takes = record {
  parts = takes.parts;
  fit = takes.fit;
  spelled = takes.spelled;
  lead = ap (λ c. after_parts takes.parts c) (sym contents) ∙ takes.lead;
  offsets = takes.offsets ∙ ap (λ o. offsets_after_parts takes.parts at o) offsets;
}

pub one_frame_more : (frames : List (List ℕ)) (span : List ℕ) (at there : ℕ) (old mid new : Kept) → TakesOn frames at old mid
    → there ≡ at + length (frames_bytes frames) → Takes span (there + 9) mid new → TakesOn (frames ++ span ∷ []) at old new
one_frame_more [] span at there old mid new on place takes =
    (new, subst (λ n. Takes span (n + 9) old new) {x = there} (omega (arith, place)) (same_before span (there + 9) old mid new on.0 on.1 takes), (refl, refl))
one_frame_more (frame ∷ frames) span at there old mid new (between, first, others) place takes = (
  between,
  first,
  one_frame_more frames span (at + 9 + length frame) there between mid new others (omega (arith, place, length-append frame (frames_bytes frames))) takes,
)

pub lead_of : (bytes : List ℕ) (at : ℕ) (old new : Kept) → Takes bytes at old new → Leads bytes old.contents new.contents
lead_of bytes at old new takes = record { parts = takes.parts; fit = takes.fit; spelled = takes.spelled; lead = takes.lead }

pub lead_on_of : (frames : List (List ℕ)) (at : ℕ) (old new : Kept) → TakesOn frames at old new → LeadOn frames old.contents new.contents
lead_on_of [] at old new on = sym on.0
lead_on_of (frame ∷ frames) at old new (between, first, others) =
    (between.contents, lead_of frame (at + 9) old between first, lead_on_of frames (at + 9 + length frame) between new others)

-- the same pages in other room
pub last_same : (frames : List (List ℕ)) (at : ℕ) (old mid new : Kept) → TakesOn frames at old mid → new.contents ≡ mid.contents
    → new.offsets ≡ mid.offsets → TakesOn frames at old new
last_same [] at old mid new on contents offsets = (contents ∙ on.0, offsets ∙ on.1)
last_same (frame ∷ frames) at old mid new (between, first, others) contents offsets =
    (between, first, last_same frames (at + 9 + length frame) between mid new others contents offsets)

-- ---- one frame more

pub nothing_loaded : (frames : List (List ℕ)) (pages : Kept) → pages.contents ≡ no_contents → pages.offsets ≡ no_offsets → IsLoadedTo frames 0 pages
nothing_loaded frames pages contents offsets = record { first = []; rest = frames; are = refl; place = refl; takes = (contents, offsets) }

pub record HasNext (frames : List (List ℕ)) (at : ℕ) (now : Kept) : Type 0 where
  pub first : List (List ℕ)
  pub span : List ℕ
  pub rest : List (List ℕ)
  pub are : frames ≡ first ++ span ∷ rest
  pub place : at ≡ length (frames_bytes first)
  pub takes : TakesOn first 0 nothing_kept now

has_next : (frames first rest : List (List ℕ)) (at : ℕ) (now : Kept) → frames ≡ first ++ rest → at ≡ length (frames_bytes first)
    → TakesOn first 0 nothing_kept now → at < length (frames_bytes frames) → HasNext frames at now
has_next frames first [] at now are place takes lt =
    absurd (omega (arith, lt, place, ap (λ fs. length (frames_bytes fs)) (are ∙ append-nil first)))
has_next frames first (span ∷ rest) at now are place takes lt = record { first = first; span = span; rest = rest; are = are; place = place; takes = takes }

pub next_frame : (frames : List (List ℕ)) (at : ℕ) (now : Kept) → IsLoadedTo frames at now → at < length (frames_bytes frames) → HasNext frames at now
next_frame frames at now loaded lt = has_next frames loaded.first loaded.rest at now loaded.are loaded.place loaded.takes lt

module _ (frames : List (List ℕ)) (at : ℕ) (now : Kept) (next : HasNext frames at now) where
  pub loaded_more : (new : Kept) (there : ℕ) → there ≡ at + 9 + length next.span → Takes next.span (at + 9) now new → IsLoadedTo frames there new
  loaded_more new there place takes = record {
    first = next.first ++ next.span ∷ [];
    rest = next.rest;
    are = next.are ∙ sym (append_assoc next.first (next.span ∷ []) next.rest);
    place = omega (arith, place, next.place, frames_long next.first [] next.span);
    takes = one_frame_more next.first next.span 0 at nothing_kept now new next.takes (omega (arith, next.place)) takes;
  }

  pub spoiled_there : (within place : ℕ) → IsSpoiled next.span now.contents within → place ≡ at + 9 + within → AreSpoiled frames no_contents place
  spoiled_there within place spoiled is = record {
    first = next.first;
    reached = now.contents;
    lead = lead_on_of next.first 0 nothing_kept now next.takes;
    frame = next.span;
    others = next.rest;
    are = next.are;
    within = within;
    spoiled = spoiled;
    offset = omega (arith, is, next.place);
  }

  pub refused_span : (fault : StoreFault) (area : Extent) (bytes : List ℕ) (new : Kept) → bytes ≡ next.span
      → TellsSpan (Err fault) area bytes (at + 9) now new → TellsFrame (Err fault) area frames new
  refused_span Disk area bytes new same tells = tt
  refused_span (Damaged extent place) area bytes new same tells =
      let within = tells.1.0 in
      (tells.0, spoiled_there within place (subst (λ span. IsSpoiled span now.contents within) same tells.1.1) tells.1.2)
  refused_span (Newer version) area bytes new same tells = absurd tells
  refused_span Memory area bytes new same tells = tt

none_left : (frames first rest : List (List ℕ)) (at : ℕ) (now : Kept) → frames ≡ first ++ rest → at ≡ length (frames_bytes first)
    → TakesOn first 0 nothing_kept now → length (frames_bytes frames) ≤ at → TakesOn frames 0 nothing_kept now
none_left frames first [] at now are place takes le = subst (λ fs. TakesOn fs 0 nothing_kept now) (sym (are ∙ append-nil first)) takes
none_left frames first (span ∷ rest) at now are place takes le =
    absurd (omega (arith, le, place, frames_long first rest span, ap (λ fs. length (frames_bytes fs)) are))

-- all frames are taken
pub all_loaded : (frames : List (List ℕ)) (at : ℕ) (now : Kept) → IsLoadedTo frames at now → length (frames_bytes frames) ≤ at
    → TakesOn frames 0 nothing_kept now
all_loaded frames at now loaded le = none_left frames loaded.first loaded.rest at now loaded.are loaded.place loaded.takes le

-- ---- answers

pub refused_len : (fault : StoreFault) (len : ℕ) → TellsReach (Err fault) → TellsLen (Err fault) len
refused_len Disk len tells = tt
refused_len (Damaged extent at) len tells = absurd tells
refused_len (Newer version) len tells = absurd tells
refused_len Memory len tells = tt

pub refused_frame : (fault : StoreFault) (len : ℕ) (area : Extent) (frames : List (List ℕ)) (now : Kept) → TellsLen (Err fault) len
    → TellsFrame (Err fault) area frames now
refused_frame Disk len area frames now tells = tt
refused_frame (Damaged extent at) len area frames now tells = absurd tells
refused_frame (Newer version) len area frames now tells = absurd tells
refused_frame Memory len area frames now tells = tt

pub refused_load : (fault : StoreFault) (area : Extent) (frames : List (List ℕ)) (now : Kept) → TellsFrame (Err fault) area frames now
    → TellsLoad (Err fault) area frames
refused_load Disk area frames now tells = tt
refused_load (Damaged extent at) area frames now tells = tells
refused_load (Newer version) area frames now tells = tells
refused_load Memory area frames now tells = tt

pub agrees_next : (log : Log) (frames : List (List ℕ)) (at : ℕ) (now : Kept) (next : HasNext frames at now) (history : History)
    → Agrees log frames history → Agrees log (next.first ++ next.span ∷ next.rest) history
agrees_next log frames at now next history agrees = subst (λ fs. Agrees log fs history) next.are agrees

pub shows_next : (frames : List (List ℕ)) (at : ℕ) (now : Kept) (next : HasNext frames at now) (window : Window) → Shows window frames
    → Shows window (next.first ++ next.span ∷ next.rest)
shows_next frames at now next window shows = subst (λ fs. Shows window fs) next.are shows

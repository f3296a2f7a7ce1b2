-- A frame more at the end of an area: what it tells is told behind the rest.
use Rattle.std.proofs.Common.{◌≡◌, ℕ, ◌+◌, arith, List, [], ◌∷◌, ◌++◌, length, inr, refl, sym, ap}
use Rattle.std.proofs.Common.{subst, ◌∙◌, length-append}
use Rattle.std.specs.Prelude.{option_and_then, unwrap_or}
use Rattle.std.proofs.lemmas.List.{append_assoc, append-nil}
use Rattle.ax_disk.specs.model.Image.{Image}
use Rattle.ax_frame.specs.LogFrame.{open_frame}
use Rattle.ax_pages.specs.Area.{frames_bytes}
use Rattle.ax_area.specs.declared.root.Counting.{Counting}
use Rattle.ax_area.specs.Contents.{Contents, no_contents, after_changes}
use Rattle.ax_area.specs.Told.{Told, changes_of, Begins, TellOn, Lead}
use Rattle.ax_area.specs.Image.{IsLive, Says}
use Rattle.ax_area.proofs.OneTelling.{first_step}

pub lead_on : (told more : List Told) (before between after : Contents) → Lead told before between
    → Lead more between after → Lead (told ++ more) before after
lead_on [] more before between after first others =
    ap (after_changes (changes_of more)) (ap (λ found. unwrap_or found before) first) ∙ others
lead_on (t ∷ told) more before between after first others =
    let step = first_step t.change (changes_of told) before between first in
    ap (option_and_then (after_changes (changes_of (told ++ more)))) step.first
    ∙ lead_on told more step.between between after step.others others

pub tell_more : (version : ℕ) (frames : List (List ℕ)) (frame : List ℕ) (at end : ℕ)
    (told more : List Told) → end ≡ at + length (frames_bytes frames)
    → TellOn version frames at told
    → Begins version frame (end + 9) more [] → TellOn version (frames ++ frame ∷ []) at
    (told ++ more)
tell_more version [] frame at end told more end_is tell begins = (
  more,
  [],
  ap (λ t. t ++ more) tell ∙ sym (append-nil more),
  subst
      (λ n. Begins version frame n more []) (omega (arith, end_is)) begins,
  refl,
)
tell_more version (f ∷ frames) frame at end told more end_is (first, others, is, one, rest) begins =
    let later = tell_more version frames frame (at + 9 + length f) end others more
    (omega (arith, end_is, length-append (open_frame f) (frames_bytes frames))) rest begins in
    (first, others ++ more, ap (λ t. t ++ more) is ∙ append_assoc first others more, one, later)

pub one_frame_more : (newest : ℕ) (slot : Counting) (frames : List (List ℕ)) (span : List ℕ)
    (told more : List Told) (before after : Contents) (new : Image)
    → TellOn slot.version frames 0 told → Lead told no_contents before
    → Begins slot.version span (length (frames_bytes frames) + 9) more [] → Lead more before after
    → IsLive newest slot (frames ++ span ∷ []) new
    → Says newest slot.version (told ++ more) after new
one_frame_more newest slot frames span told more before after new tell lead begins leads live =
    inr (record {
      slot = slot;
      version_is = refl;
      frames = frames ++ span ∷ [];
      live = live;
      tell = tell_more slot.version frames span 0 (length (frames_bytes frames)) told more
          (omega arith) tell begins;
      lead = lead_on told more no_contents before after lead leads;
    })

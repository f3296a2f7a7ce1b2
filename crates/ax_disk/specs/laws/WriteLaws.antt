-- What `TornLaws` says of one list, of the three lists: what a crash may leave after a write or a cut, in terms of what it
-- might have left before. What all images have of a prefix, or of a list that is not written, they
-- have after the call.
use Rattle.std.proofs.Common.{◌≡◌, ◌≢◌, ℕ, ◌+◌, ◌≤◌, List, length, take, sym, ◌∙◌, ap, subst}
use Rattle.ax_disk.specs.declared.extent.Extent.{Extent}
use Rattle.ax_disk.specs.declared.extent.Extent.TheVariants.{Root, A, B}
use Rattle.ax_disk.specs.model.Image.{Image, list_of, with_list}
use Rattle.ax_disk.specs.model.Pending.{MayHold, written, shortened, Unsynced, pending_of, MayLeave, after_write, after_cut}
use Rattle.ax_disk.specs.laws.PendingLaws.{held_of}
use Rattle.ax_disk.specs.laws.ExtentLaws.{list_of-same, list_of-other}
use Rattle.ax_disk.specs.laws.TornLaws.{prefix_from_before, list_prefix_stays, prefix_of_before, OnlyRange, list_only_stays}

-- an image with one list exchanged for another that may be left is an image
pub one_list_else : (ext : Extent) (unsynced : Unsynced) (image : Image) (bytes : List ℕ)
    → MayLeave unsynced image → MayHold (pending_of ext unsynced) bytes
    → MayLeave unsynced (with_list ext bytes image)
one_list_else Root unsynced image bytes may held = record { root = held; a = may.a; b = may.b }
one_list_else A unsynced image bytes may held = record { root = may.root; a = held; b = may.b }
one_list_else B unsynced image bytes may held = record { root = may.root; a = may.a; b = held }

-- the other two lists of what is left after a call on one
written_with : (ext : Extent) (unsynced : Unsynced) (at size : ℕ) (image : Image) (bytes : List ℕ)
    → MayLeave (after_write ext at size unsynced) image
    → MayHold (pending_of ext unsynced) bytes → MayLeave unsynced (with_list ext bytes image)
written_with Root unsynced at size image bytes may held =
    record { root = held; a = may.a; b = may.b }
written_with A unsynced at size image bytes may held =
    record { root = may.root; a = held; b = may.b }
written_with B unsynced at size image bytes may held =
    record { root = may.root; a = may.a; b = held }

cut_with : (ext : Extent) (unsynced : Unsynced) (len : ℕ) (image : Image) (bytes : List ℕ)
    → MayLeave (after_cut ext len unsynced) image
    → MayHold (pending_of ext unsynced) bytes → MayLeave unsynced (with_list ext bytes image)
cut_with Root unsynced len image bytes may held = record { root = held; a = may.a; b = may.b }
cut_with A unsynced len image bytes may held = record { root = may.root; a = held; b = may.b }
cut_with B unsynced len image bytes may held = record { root = may.root; a = may.a; b = held }

pub written_list : (ext : Extent) (unsynced : Unsynced) (at size : ℕ) (image : Image)
    → MayLeave (after_write ext at size unsynced) image
    → MayHold (written at size (pending_of ext unsynced)) (list_of ext image)
written_list Root unsynced at size image may = may.root
written_list A unsynced at size image may = may.a
written_list B unsynced at size image may = may.b

pub cut_list : (ext : Extent) (unsynced : Unsynced) (len : ℕ) (image : Image)
    → MayLeave (after_cut ext len unsynced) image
    → MayHold (shortened len (pending_of ext unsynced)) (list_of ext image)
cut_list Root unsynced len image may = may.root
cut_list A unsynced len image may = may.a
cut_list B unsynced len image may = may.b

-- An image that a crash might have left before a write: up to its place the same list, and the same
-- other lists.
pub record WriteFrom (ext : Extent) (at : ℕ) (unsynced : Unsynced) (image : Image) : Type 0 where
  pub before : Image
  pub may : MayLeave unsynced before
  pub prefix : take at (list_of ext image) ≡ take at (list_of ext before)
  pub others : (other : Extent) → other ≢ ext → list_of other image ≡ list_of other before

-- The law on which commits rest: what a crash leaves after a write is, up to its place, what it
-- might have left before.
pub write_from_before : (ext : Extent) (unsynced : Unsynced) (reads : Image) (at size : ℕ)
    → MayLeave unsynced reads → at ≤ length (list_of ext reads)
    → (image : Image) → MayLeave (after_write ext at size unsynced) image
    → WriteFrom ext at unsynced image
write_from_before ext unsynced reads at size stays within image may =
    let from = prefix_from_before (pending_of ext unsynced) at size (list_of ext reads)
    (list_of ext image) (held_of ext unsynced reads stays) within
    (written_list ext unsynced at size image may) in
    record {
      before = with_list ext from.before image;
      may = written_with ext unsynced at size image from.before may from.held;
      prefix = from.prefix ∙ ap (take at) (sym (list_of-same ext from.before image));
      others = λ other apart. sym (list_of-other ext other from.before image apart);
    }

-- An image that a crash might have left before a cut: the list is a prefix of its list, the other
-- lists are the same.
pub record CutImageFrom (ext : Extent) (unsynced : Unsynced) (image : Image) : Type 0 where
  pub before : Image
  pub may : MayLeave unsynced before
  pub prefix : list_of ext image ≡ take (length (list_of ext image)) (list_of ext before)
  pub others : (other : Extent) → other ≢ ext → list_of other image ≡ list_of other before

pub cut_from_before : (ext : Extent) (unsynced : Unsynced) (reads : Image) (len : ℕ)
    → MayLeave unsynced reads
    → (image : Image) → MayLeave (after_cut ext len unsynced) image
    → CutImageFrom ext unsynced image
cut_from_before ext unsynced reads len stays image may =
    let from = prefix_of_before (pending_of ext unsynced) len (list_of ext reads)
    (list_of ext image) (held_of ext unsynced reads stays)
    (cut_list ext unsynced len image may) in
    record {
      before = with_list ext from.before image;
      may = cut_with ext unsynced len image from.before may from.held;
      prefix = from.prefix ∙ ap (take (length (list_of ext image)))
          (sym (list_of-same ext from.before image));
      others = λ other apart. sym (list_of-other ext other from.before image apart);
    }

-- A prefix that all images have stays, where the write begins behind it.
pub common_prefix_stays : (ext : Extent) (unsynced : Unsynced) (reads : Image) (at size : ℕ)
    (prefix : List ℕ) → MayLeave unsynced reads
    → at ≤ length (list_of ext reads) → length prefix ≤ at
    → ((image : Image) → MayLeave unsynced image
    → take (length prefix) (list_of ext image) ≡ prefix)
    → (image : Image) → MayLeave (after_write ext at size unsynced) image
    → take (length prefix) (list_of ext image) ≡ prefix
common_prefix_stays ext unsynced reads at size prefix stays within behind all image may =
    list_prefix_stays (pending_of ext unsynced) at size (list_of ext reads) prefix
    (held_of ext unsynced reads stays) within behind
    (λ bytes held. ap (take (length prefix)) (sym (list_of-same ext bytes reads))
    ∙ all (with_list ext bytes reads) (one_list_else ext unsynced reads bytes stays held))
    (list_of ext image) (written_list ext unsynced at size image may)

-- What all images have of another list stays.
pub common_list_stays : (ext other : Extent) (unsynced : Unsynced) (reads : Image) (at size : ℕ)
    (Q : List ℕ → Type 0) → other ≢ ext → MayLeave unsynced reads
    → ((image : Image) → MayLeave unsynced image → Q (list_of other image))
    → (image : Image) → MayLeave (after_write ext at size unsynced) image → Q (list_of other image)
common_list_stays ext other unsynced reads at size Q apart stays all image may =
    let bytes = list_of ext reads in
    subst Q (list_of-other ext other bytes image apart)
    (all (with_list ext bytes image) (written_with ext unsynced at size image bytes may
    (held_of ext unsynced reads stays)))

-- A list that all images have: after a write within it each has the same length, and the same bytes
-- outside the range.
pub only_stays : (ext : Extent) (unsynced : Unsynced) (reads : Image) (at size : ℕ) (list : List ℕ)
    → MayLeave unsynced reads → at + size ≤ length list
    → ((image : Image) → MayLeave unsynced image → list_of ext image ≡ list)
    → (image : Image) → MayLeave (after_write ext at size unsynced) image
    → OnlyRange at size list (list_of ext image)
only_stays ext unsynced reads at size list stays within all image may =
    let only : (bytes : List ℕ) → MayHold (pending_of ext unsynced) bytes → bytes ≡ list =
    λ bytes held. sym (list_of-same ext bytes reads)
    ∙ all (with_list ext bytes reads) (one_list_else ext unsynced reads bytes stays held) in
    list_only_stays (pending_of ext unsynced) at size list
    (subst (λ (l : List ℕ). MayHold (pending_of ext unsynced) l) (all reads stays)
    (held_of ext unsynced reads stays)) within only
    (list_of ext image) (written_list ext unsynced at size image may)

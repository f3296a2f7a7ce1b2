-- Laws of what a crash may leave: a settled list is left as it is, writes and cuts only add to what may be left,
-- and what a read gives stays among it.
use Rattle.std.proofs.Common.{◌≡◌, ◌⊎◌, inl, inr, ⊎_elim, ℕ, ◌+◌, ◌-◌, ◌<◌, ◌≤◌, max, List, ◌++◌, length, get_or, take, drop, refl, sym, ◌∙◌, ap}
use Rattle.std.proofs.Common.{subst, arith, length-append}
use Rattle.std.proofs.lemmas.List.{ext_get_or, length-take, length-drop, get_or-take, get_or-drop, get_or_append_left, get_or-append_right}
use Rattle.ax_disk.specs.declared.extent.Extent.{Extent}
use Rattle.ax_disk.specs.declared.extent.Extent.TheVariants.{Root, A, B}
use Rattle.ax_disk.specs.model.Image.{Image, list_of, with_list}
use Rattle.ax_disk.specs.model.Pending.{IsOutside, IsUntouched, AreBytes, Pending, MayHold, settled, written, shortened, Unsynced, pending_of}
use Rattle.ax_disk.specs.model.Pending.{with_pending, MayLeave, all_settled, after_write, after_cut}
use Rattle.ax_disk.specs.model.Calls.{overwritten}

-- a crash leaves a settled list as it is
pub settled_only : (list bytes : List ℕ) → MayHold (settled list) bytes → bytes ≡ list
settled_only list bytes held =
    let same : length bytes ≡ length list = omega (arith, held.no_shorter, held.no_longer) in
    ext_get_or 0 bytes list same (λ i below. held.kept i (omega arith) below tt)

pub settled_holds : (list : List ℕ) → AreBytes list → MayHold (settled list) list
settled_holds list fit = record { no_shorter = omega arith; no_longer = omega arith; kept = λ i _ _ _. refl; fit = fit }

pub length-overwritten : (list : List ℕ) (at : ℕ) (bytes : List ℕ) → at ≤ length list
    → length (overwritten list at bytes) ≡ max (length list) (at + length bytes)
length-overwritten list at bytes within =
    omega (
      arith,
      length-append (take at list ++ bytes) (drop (at + length bytes) list),
      length-append (take at list) bytes,
      length-take at list,
      length-drop
          (at + length bytes) list,
    )

pub overwritten_before : (list : List ℕ) (at : ℕ) (bytes : List ℕ) (i : ℕ) → at ≤ length list → i < at
    → get_or (overwritten list at bytes) i 0 ≡ get_or list i 0
overwritten_before list at bytes i within before =
    get_or_append_left (take at list ++ bytes) (drop (at + length bytes) list) 0 i (omega (arith, length-append (take at list) bytes, length-take at list))
    ∙ get_or_append_left (take at list) bytes 0 i (omega (arith, length-take at list))
    ∙ get_or-take at list i 0 before

pub overwritten_after : (list : List ℕ) (at : ℕ) (bytes : List ℕ) (i : ℕ) → at ≤ length list → at + length bytes ≤ i
    → get_or (overwritten list at bytes) i 0 ≡ get_or list i 0
overwritten_after list at bytes i within after =
    let n = at + length bytes in
    let front : length (take at list ++ bytes) ≡ n = omega (arith, length-append (take at list) bytes, length-take at list) in
    let back : n + (i - n) ≡ i = omega arith in
    get_or-append_right (take at list ++ bytes) (drop n list) n i 0 front after
    ∙ get_or-drop n list (i - n) 0
    ∙ ap (λ (k : ℕ). get_or list k 0) back

pub overwritten_inside : (list : List ℕ) (at : ℕ) (bytes : List ℕ) (i : ℕ) → at ≤ length list → at ≤ i → i < at + length bytes
    → get_or (overwritten list at bytes) i 0 ≡ get_or bytes (i - at) 0
overwritten_inside list at bytes i within from below =
    let n = at + length bytes in
    get_or_append_left (take at list ++ bytes) (drop n list) 0 i (omega (arith, length-append (take at list) bytes, length-take at list))
    ∙ get_or-append_right (take at list) bytes at i 0 (omega (arith, length-take at list)) from

-- outside its range a write changes nothing
pub overwritten_outside : (list : List ℕ) (at : ℕ) (bytes : List ℕ) (size i : ℕ) → at ≤ length list → length bytes ≤ size
    → IsOutside i (record { at = at; size = size }) → get_or (overwritten list at bytes) i 0 ≡ get_or list i 0
overwritten_outside list at bytes size i within short (inl before) = overwritten_before list at bytes i within before
overwritten_outside list at bytes size i within short (inr after) = overwritten_after list at bytes i within (omega arith)

outside_is_below : (list : List ℕ) (at size n i : ℕ) → at ≤ length list → n ≤ size → i < max (length list) (at + n)
    → IsOutside i (record { at = at; size = size }) → i < length list
outside_is_below list at size n i within short below (inl before) = omega arith
outside_is_below list at size n i within short below (inr after) = omega arith

three : (i at n : ℕ) → (i < at) ⊎ ((at + n ≤ i) ⊎ ((at ≤ i) × (i < at + n)))
three i at n = grind arith

overwritten_fit : (list : List ℕ) (at : ℕ) (bytes : List ℕ) → at ≤ length list → AreBytes list → AreBytes bytes → AreBytes (overwritten list at bytes)
overwritten_fit list at bytes within fit new i below =
    let long = length-overwritten list at bytes within in
    ⊎_elim
    (λ before. subst (λ (b : ℕ). b < 256) (sym (overwritten_before list at bytes i within before)) (fit i (omega arith)))
    (λ rest. ⊎_elim
    (λ after. subst (λ (b : ℕ). b < 256) (sym (overwritten_after list at bytes i within after)) (fit i (omega (arith, long))))
    (λ inside. subst (λ (b : ℕ). b < 256) (sym (overwritten_inside list at bytes i within inside.0 inside.1))
    (new (i - at) (omega (arith, inside.0, inside.1))))
    rest)
    (three i at (length bytes))

-- What a write leaves to a read is one of what a crash may leave after it, though only the first of `size` bytes were written.
pub written_holds : (pending : Pending) (list : List ℕ) (at : ℕ) (bytes : List ℕ) (size : ℕ) → MayHold pending list → at ≤ length list → length bytes ≤ size
    → AreBytes bytes → MayHold (written at size pending) (overwritten list at bytes)
written_holds pending list at bytes size held within short fit =
    let long = length-overwritten list at bytes within in
    record {
      no_shorter = omega (arith, long, held.no_shorter);
      no_longer = omega (arith, long, held.no_longer);
      kept = λ i stable below untouched.
          overwritten_outside list at bytes size i within short untouched.0
          ∙ held.kept i stable (outside_is_below list at size (length bytes) i within short (omega (arith, long)) untouched.0) untouched.1;
      fit = overwritten_fit list at bytes within held.fit fit;
    }

-- what a cut leaves to a read is one of what a crash may leave after it
pub shortened_holds : (pending : Pending) (list : List ℕ) (len : ℕ) → MayHold pending list → MayHold (shortened len pending) (take len list)
shortened_holds pending list len held =
    let long = length-take len list in
    record {
      no_shorter = omega (arith, long, held.no_shorter);
      no_longer = omega (arith, long, held.no_longer);
      kept = λ i stable below untouched. get_or-take len list i 0 (omega (arith, long)) ∙ held.kept i stable (omega (arith, long)) untouched;
      fit = λ i below. subst (λ (b : ℕ). b < 256) (sym (get_or-take len list i 0 (omega (arith, long)))) (held.fit i (omega (arith, long)));
    }

-- a write takes away nothing of what a crash may leave
pub written_allows : (pending : Pending) (at size : ℕ) (bytes : List ℕ) → MayHold pending bytes → MayHold (written at size pending) bytes
written_allows pending at size bytes held = record {
  no_shorter = held.no_shorter;
  no_longer = omega (arith, held.no_longer);
  kept = λ i stable below untouched. held.kept i stable below untouched.1;
  fit = held.fit;
}

-- nor does a cut
pub shortened_allows : (pending : Pending) (len : ℕ) (bytes : List ℕ) → MayHold pending bytes → MayHold (shortened len pending) bytes
shortened_allows pending len bytes held = record {
  no_shorter = omega (arith, held.no_shorter);
  no_longer = held.no_longer;
  kept = held.kept;
  fit = held.fit;
}

-- of one list
pub held_of : (ext : Extent) (unsynced : Unsynced) (image : Image) → MayLeave unsynced image → MayHold (pending_of ext unsynced) (list_of ext image)
held_of Root unsynced image left = left.root
held_of A unsynced image left = left.a
held_of B unsynced image left = left.b

with_held : (ext : Extent) (unsynced : Unsynced) (image : Image) (pending : Pending) (bytes : List ℕ) → MayLeave unsynced image → MayHold pending bytes
    → MayLeave (with_pending ext pending unsynced) (with_list ext bytes image)
with_held Root unsynced image pending bytes left held = record { root = held; a = left.a; b = left.b }
with_held A unsynced image pending bytes left held = record { root = left.root; a = held; b = left.b }
with_held B unsynced image pending bytes left held = record { root = left.root; a = left.a; b = held }

with_more : (ext : Extent) (unsynced : Unsynced) (image : Image) (pending : Pending) → MayLeave unsynced image → MayHold pending (list_of ext image)
    → MayLeave (with_pending ext pending unsynced) image
with_more Root unsynced image pending left held = record { root = held; a = left.a; b = left.b }
with_more A unsynced image pending left held = record { root = left.root; a = held; b = left.b }
with_more B unsynced image pending left held = record { root = left.root; a = left.a; b = held }

abbrev image_with : List ℕ → List ℕ → List ℕ → Image
image_with root a b = record { root = root; a = a; b = b }

same_image : (root root' a a' b b' : List ℕ) → root ≡ root' → a ≡ a' → b ≡ b' → image_with root a b ≡ image_with root' a' b'
same_image root root' a a' b b' p q r = cc

-- three lists that are all settled are left as they are
pub all_settled_only : (image left : Image) → MayLeave (all_settled image) left → left ≡ image
all_settled_only image left may =
    let root = settled_only image.root left.root may.root in
    let a = settled_only image.a left.a may.a in
    let b = settled_only image.b left.b may.b in
    same_image left.root image.root left.a image.a left.b image.b root a b

-- a sync leaves what a read gives
pub all_settled_leaves : (unsynced : Unsynced) (image : Image) → MayLeave unsynced image → MayLeave (all_settled image) image
all_settled_leaves unsynced image may = record {
  root = settled_holds image.root may.root.fit;
  a = settled_holds image.a may.a.fit;
  b = settled_holds image.b may.b.fit;
}

pub after_write_leaves : (ext : Extent) (unsynced : Unsynced) (image : Image) (at : ℕ) (bytes : List ℕ) (size : ℕ) → MayLeave unsynced image
    → at ≤ length (list_of ext image) → length bytes ≤ size → AreBytes bytes
    → MayLeave (after_write ext at size unsynced) (with_list ext (overwritten (list_of ext image) at bytes) image)
after_write_leaves ext unsynced image at bytes size may within short fit =
    with_held ext unsynced image (written at size (pending_of ext unsynced)) (overwritten (list_of ext image) at bytes) may
    (written_holds (pending_of ext unsynced) (list_of ext image) at bytes size (held_of ext unsynced image may) within short fit)

pub after_cut_leaves : (ext : Extent) (unsynced : Unsynced) (image : Image) (len : ℕ) → MayLeave unsynced image
    → MayLeave (after_cut ext len unsynced) (with_list ext (take len (list_of ext image)) image)
after_cut_leaves ext unsynced image len may =
    with_held ext unsynced image (shortened len (pending_of ext unsynced)) (take len (list_of ext image)) may
    (shortened_holds (pending_of ext unsynced) (list_of ext image) len (held_of ext unsynced image may))

-- what a crash may leave before a write it may leave after it
pub after_write_allows : (ext : Extent) (unsynced : Unsynced) (at size : ℕ) (image : Image) → MayLeave unsynced image
    → MayLeave (after_write ext at size unsynced) image
after_write_allows ext unsynced at size image may =
    with_more ext unsynced image (written at size (pending_of ext unsynced)) may
    (written_allows (pending_of ext unsynced) at size (list_of ext image) (held_of ext unsynced image may))

-- and so with a cut
pub after_cut_allows : (ext : Extent) (unsynced : Unsynced) (len : ℕ) (image : Image) → MayLeave unsynced image → MayLeave (after_cut ext len unsynced) image
after_cut_allows ext unsynced len image may =
    with_more ext unsynced image (shortened len (pending_of ext unsynced)) may
    (shortened_allows (pending_of ext unsynced) len (list_of ext image) (held_of ext unsynced image may))

-- the front of a list that wasn't written is left as it was
pub kept_front : (pending : Pending) (bytes : List ℕ) (k : ℕ) → MayHold pending bytes → k ≤ pending.least → k ≤ length pending.stable
    → ((i : ℕ) → i < k → IsUntouched i pending.ranges) → take k bytes ≡ take k pending.stable
kept_front pending bytes k held least stable untouched =
    let long = length-take k bytes in
    ext_get_or 0 (take k bytes) (take k pending.stable) (omega (arith, long, length-take k pending.stable, held.no_shorter))
    (λ i below.
    let near : i < k = omega (arith, long) in
    get_or-take k bytes i 0 near ∙ held.kept i (omega arith) (omega (arith, held.no_shorter)) (untouched i near) ∙ sym (get_or-take k pending.stable i 0 near))

-- and so is the back, where the length is certain
pub kept_back : (pending : Pending) (bytes : List ℕ) (k : ℕ) → MayHold pending bytes → pending.least ≡ length pending.stable
    → pending.greatest ≡ length pending.stable → ((i : ℕ) → k ≤ i → IsUntouched i pending.ranges) → drop k bytes ≡ drop k pending.stable
kept_back pending bytes k held least greatest untouched =
    let same : length bytes ≡ length pending.stable = omega (arith, held.no_shorter, held.no_longer) in
    ext_get_or 0 (drop k bytes) (drop k pending.stable) (omega (arith, length-drop k bytes, length-drop k pending.stable))
    (λ i below.
    let near : k + i < length bytes = omega (arith, length-drop k bytes) in
    get_or-drop k bytes i 0 ∙ held.kept (k + i) (omega arith) near (untouched (k + i) (omega arith)) ∙ sym (get_or-drop k pending.stable i 0))

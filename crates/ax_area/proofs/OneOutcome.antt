-- Opening finds one thing alone of an image.
use Rattle.std.proofs.Common.{◌≡◌, ℕ, ◌<◌, ◌≤◌, ◌⊎◌, List, inl, inr, refl, sym, ap, subst, ◌∙◌}
use Rattle.std.proofs.Common.{arith}
use Rattle.std.specs.Prelude.{Some}
use Rattle.ax_disk.specs.declared.extent.Extent.{Extent}
use Rattle.ax_disk.specs.declared.extent.Extent.TheVariants.{Root, A, B}
use Rattle.ax_disk.specs.model.Image.{Image, list_of}
use Rattle.ax_pages.specs.Area.{IsArea}
use Rattle.ax_pages.specs.laws.AreaLaws.{one_area, area_not_broken, one_broken_place}
use Rattle.ax_area.specs.declared.root.Counting.{Counting}
use Rattle.ax_area.specs.declared.root.RootChoice.TheVariants.{Counts, Damaged}
use Rattle.ax_area.specs.Root.{IsRoot, slot_offset}
use Rattle.ax_area.specs.Contents.{Contents, no_contents, after_changes}
use Rattle.ax_area.specs.Told.{Told, changes_of, TellOn, Lead, AreSpoiled}
use Rattle.ax_area.specs.Image.{IsLive, Says, IsNewer, IsWorn}
use Rattle.ax_area.specs.Image.{IsBrokenArea, IsSpoiledArea, IsDamaged}
use Rattle.ax_area.specs.Root.{last_generation, IsKnown}
use Rattle.ax_area.proofs.OneRoot.{one_slot_counts, one_damaged_slot, fresh_counts, fresh_damaged}
use Rattle.ax_area.proofs.OneRoot.{counts_damaged}
use Rattle.ax_area.proofs.OneTelling.{same_some, one_telling_on, one_place_on, tell_or_spoiled}

module _ (newest : ℕ) (image : Image) where
  abbrev slot_same : (s t : Counting) → IsRoot image.root (Counts s) → IsRoot image.root (Counts t)
      → s ≡ t
  slot_same = one_slot_counts image.root

  -- ---- good

  pub one_version : (v w : ℕ) (s t : List Told) (x y : Contents) → Says newest v s x image
      → Says newest w t y image → v ≡ w
  one_version v w s t x y (inl a) (inl b) = a.version_is ∙ sym b.version_is
  one_version v w s t x y (inl a) (inr b) =
      absurd (fresh_counts image.root b.slot a.fresh b.live.counts)
  one_version v w s t x y (inr a) (inl b) =
      absurd (fresh_counts image.root a.slot b.fresh a.live.counts)
  one_version v w s t x y (inr a) (inr b) =
      sym a.version_is ∙ ap (λ (slot : Counting). slot.version)
      (slot_same a.slot b.slot a.live.counts b.live.counts) ∙ b.version_is

  -- the frames of an area are those of the same slot
  pub same_frames : (s t : Counting) (xs ys : List (List ℕ)) → IsLive newest s xs image
      → IsLive newest t ys image → xs ≡ ys
  same_frames s t xs ys a b =
      one_area (list_of s.area image) xs ys a.has
      (subst (λ (slot : Counting). IsArea (list_of slot.area image) ys)
      (sym (slot_same s t a.counts b.counts)) b.has)

  pub one_told : (v w : ℕ) (s t : List Told) (x y : Contents) → Says newest v s x image
      → Says newest w t y image → s ≡ t
  one_told v w s t x y (inl a) (inl b) = a.told_is ∙ sym b.told_is
  one_told v w s t x y (inl a) (inr b) =
      absurd (fresh_counts image.root b.slot a.fresh b.live.counts)
  one_told v w s t x y (inr a) (inl b) =
      absurd (fresh_counts image.root a.slot b.fresh a.live.counts)
  one_told v w s t x y (inr a) (inr b) =
      let version : w ≡ v = sym (one_version v w s t x y (inr a) (inr b)) in
      let frames : b.frames
      ≡ a.frames = sym (same_frames a.slot b.slot a.frames b.frames a.live b.live) in
      one_telling_on v a.frames 0 s t a.tell (subst (λ fs. TellOn v fs 0 t) frames
      (subst (λ n. TellOn n b.frames 0 t) version b.tell))

  pub lead_of : (v : ℕ) (s : List Told) (x : Contents) → Says newest v s x image
      → Lead s no_contents x
  lead_of v s x (inl a) =
      ap (λ told. after_changes (changes_of told) no_contents) a.told_is
      ∙ ap Some (sym a.contents_is)
  lead_of v s x (inr a) = a.lead

  pub one_contents : (v w : ℕ) (s t : List Told) (x y : Contents) → Says newest v s x image
      → Says newest w t y image → x ≡ y
  one_contents v w s t x y a b =
      same_some x y (sym (lead_of v s x a) ∙ ap
      (λ told. after_changes (changes_of told) no_contents) (one_told v w s t x y a b)
      ∙ lead_of w t y b)

  -- ---- damaged

  known_not_worn : (s t : Counting) → IsRoot image.root (Counts s) → IsKnown newest s
      → IsRoot image.root (Counts t) → t.version < newest → last_generation ≤ t.generation → ⊥
  known_not_worn s t cs known ct older last =
      let same = slot_same s t cs ct in
      let version : s.version ≡ t.version = ap (λ (slot : Counting). slot.version) same in
      let generation : s.generation ≡ t.generation = ap
      (λ (slot : Counting). slot.generation) same in
      let below : s.generation < last_generation = known.rises (omega (arith, version, older)) in
      omega (arith, below, generation, last)

  pub root_and_area : (i : ℕ) (s : Counting) → (IsRoot image.root (Damaged i)) ⊎ IsWorn newest i image
      → IsRoot image.root (Counts s) → IsKnown newest s → ⊥
  root_and_area i s (inl damaged) counts known = counts_damaged image.root s i counts damaged
  root_and_area i s (inr worn) counts known =
      known_not_worn s worn.slot counts known worn.counts worn.older worn.last

  worn_place : (i j : ℕ) → IsWorn newest i image → IsWorn newest j image → i ≡ j
  worn_place i j a b =
      sym a.at_is ∙ ap (λ (slot : Counting). slot_offset slot.which)
      (slot_same a.slot b.slot a.counts b.counts) ∙ b.at_is

  root_place : (i j : ℕ) → IsRoot image.root (Damaged i) ⊎ IsWorn newest i image
      → IsRoot image.root (Damaged j) ⊎ IsWorn newest j image → i ≡ j
  root_place i j (inl a) (inl b) = one_damaged_slot image.root i j a b
  root_place i j (inl a) (inr b) = absurd (counts_damaged image.root b.slot i b.counts a)
  root_place i j (inr a) (inl b) = absurd (counts_damaged image.root a.slot j a.counts b)
  root_place i j (inr a) (inr b) = worn_place i j a b

  abbrev InArea : Extent → ℕ → Type 0
  InArea area at = IsBrokenArea newest area at image ⊎ IsSpoiledArea newest area at image

  -- the slot by which an area is damaged
  record BySlot (area : Extent) : Type 0 where
    slot : Counting
    area_is : slot.area ≡ area
    counts : IsRoot image.root (Counts slot)
    known : IsKnown newest slot

  by_slot : (area : Extent) (at : ℕ) → InArea area at → BySlot area
  by_slot area at (inl a) =
      record { slot = a.slot; area_is = a.area_is; counts = a.counts; known = a.known }
  by_slot area at (inr a) =
      record { slot = a.slot; area_is = a.area_is; counts = a.live.counts; known = a.live.known }

  same_areas : (a b : Extent) (i j : ℕ) → InArea a i → InArea b j → a ≡ b
  same_areas a b i j da db =
      let x = by_slot a i da in
      let y = by_slot b j db in
      sym x.area_is ∙ ap (λ (slot : Counting). slot.area)
      (slot_same x.slot y.slot x.counts y.counts) ∙ y.area_is

  pub live_not_broken : (s : Counting) (frames : List (List ℕ)) (area : Extent) (i : ℕ)
      → IsLive newest s frames image → IsBrokenArea newest area i image → ⊥
  live_not_broken s frames area i live broken =
      let area_is : s.area ≡ area = ap (λ (slot : Counting). slot.area)
      (slot_same s broken.slot live.counts broken.counts) ∙ broken.area_is in
      area_not_broken (list_of area image) frames i
      (subst (λ e. IsArea (list_of e image) frames) area_is live.has) broken.broken

  area_place : (area : Extent) (i j : ℕ) → InArea area i → InArea area j → i ≡ j
  area_place area i j (inl a) (inl b) = one_broken_place (list_of area image) i j a.broken b.broken
  area_place area i j (inl a) (inr b) = absurd (live_not_broken b.slot b.frames area i b.live a)
  area_place area i j (inr a) (inl b) = absurd (live_not_broken a.slot a.frames area j a.live b)
  area_place area i j (inr a) (inr b) =
      let frames : b.frames
      ≡ a.frames = sym (same_frames a.slot b.slot a.frames b.frames a.live b.live) in
      let version : b.slot.version ≡ a.slot.version = sym
      (ap (λ (slot : Counting). slot.version)
      (slot_same a.slot b.slot a.live.counts b.live.counts)) in
      one_place_on a.slot.version a.frames 0 no_contents i j a.spoiled
      (subst (λ fs. AreSpoiled a.slot.version fs 0 no_contents j) frames
      (subst (λ v. AreSpoiled v b.frames 0 no_contents j) version b.spoiled))

  root_not_area : (area : Extent) (i j : ℕ) → IsRoot image.root (Damaged i) ⊎ IsWorn newest i image
      → InArea area j → ⊥
  root_not_area area i j root there =
      let by = by_slot area j there in root_and_area i by.slot root by.counts by.known

  pub one_extent : (a b : Extent) (i j : ℕ) → IsDamaged newest image a i
      → IsDamaged newest image b j → a ≡ b
  one_extent Root Root i j da db = refl
  one_extent Root A i j da db = absurd (root_not_area A i j da db)
  one_extent Root B i j da db = absurd (root_not_area B i j da db)
  one_extent A Root i j da db = absurd (root_not_area A j i db da)
  one_extent A A i j da db = refl
  one_extent A B i j da db = same_areas A B i j da db
  one_extent B Root i j da db = absurd (root_not_area B j i db da)
  one_extent B A i j da db = same_areas B A i j da db
  one_extent B B i j da db = refl

  same_place : (a : Extent) (i j : ℕ) → IsDamaged newest image a i → IsDamaged newest image a j → i
      ≡ j
  same_place Root i j da db = root_place i j da db
  same_place A i j da db = area_place A i j da db
  same_place B i j da db = area_place B i j da db

  pub one_place : (a b : Extent) (i j : ℕ) → IsDamaged newest image a i → IsDamaged newest image b j
      → i ≡ j
  one_place a b i j da db =
      same_place a i j da (subst (λ e. IsDamaged newest image e j)
      (sym (one_extent a b i j da db)) db)

  -- ---- good or damaged

  says_not_area : (v : ℕ) (s : List Told) (x : Contents) (area : Extent) (i : ℕ)
      → Says newest v s x image → InArea area i → ⊥
  says_not_area v s x area i (inl a) there =
      let by = by_slot area i there in fresh_counts image.root by.slot a.fresh by.counts
  says_not_area v s x area i (inr a) (inl broken) =
      live_not_broken a.slot a.frames area i a.live broken
  says_not_area v s x area i (inr a) (inr b) =
      let frames : b.frames
      ≡ a.frames = sym (same_frames a.slot b.slot a.frames b.frames a.live b.live) in
      let version : b.slot.version ≡ v = sym (ap (λ (slot : Counting). slot.version)
      (slot_same a.slot b.slot a.live.counts b.live.counts)) ∙ a.version_is in
      tell_or_spoiled v a.frames 0 s no_contents x i a.tell a.lead
      (subst (λ fs. AreSpoiled v fs 0 no_contents i) frames
      (subst (λ w. AreSpoiled w b.frames 0 no_contents i) version b.spoiled))

  says_not_root : (v : ℕ) (s : List Told) (x : Contents) (i : ℕ) → Says newest v s x image
      → IsRoot image.root (Damaged i) ⊎ IsWorn newest i image → ⊥
  says_not_root v s x i (inl a) (inl damaged) = fresh_damaged image.root i a.fresh damaged
  says_not_root v s x i (inl a) (inr worn) = fresh_counts image.root worn.slot a.fresh worn.counts
  says_not_root v s x i (inr a) root = root_and_area i a.slot root a.live.counts a.live.known

  pub says_not_damaged : (v : ℕ) (s : List Told) (x : Contents) (a : Extent) (i : ℕ)
      → Says newest v s x image → IsDamaged newest image a i → ⊥
  says_not_damaged v s x Root i says damaged = says_not_root v s x i says damaged
  says_not_damaged v s x A i says damaged = says_not_area v s x A i says damaged
  says_not_damaged v s x B i says damaged = says_not_area v s x B i says damaged

  -- ---- a later version

  pub newer_not_known : (w : ℕ) (s : Counting) → IsNewer newest w image → IsRoot image.root (Counts s)
      → s.version ≤ newest → ⊥
  newer_not_known w s newer counts known =
      omega (
        arith,
        known,
        newer.later,
        newer.version_is,
        ap (λ (slot : Counting). slot.version)
            (slot_same s newer.slot counts newer.counts),
      )

  area_not_newer : (area : Extent) (i w : ℕ) → InArea area i → IsNewer newest w image → ⊥
  area_not_newer area i w there newer =
      let by = by_slot area i there in newer_not_known w by.slot newer by.counts by.known.known

  pub damaged_not_newer : (w : ℕ) (a : Extent) (i : ℕ) → IsDamaged newest image a i
      → IsNewer newest w image → ⊥
  damaged_not_newer w Root i (inl damaged) newer =
      counts_damaged image.root newer.slot i newer.counts damaged
  damaged_not_newer w Root i (inr worn) newer =
      newer_not_known w worn.slot newer worn.counts (omega (arith, worn.older))
  damaged_not_newer w A i damaged newer = area_not_newer A i w damaged newer
  damaged_not_newer w B i damaged newer = area_not_newer B i w damaged newer

-- What each call of the forming of a fresh store leaves.
use Rattle.std.proofs.Common.{◌≡◌, ◌⊎◌, inl, inr, ⊎_elim, ℕ, ◌≤◌, List, [], ◌∷◌, length, take, Result, Ok, Err, OnOk, refl, sym, ◌∙◌, ap, subst, arith}
use Rattle.ax_disk.specs.declared.extent.Extent.{Extent}
use Rattle.ax_disk.specs.declared.extent.Extent.TheVariants.{Root, A, B}
use Rattle.ax_disk.specs.model.Image.{Image, with_list}
use Rattle.ax_disk.specs.model.Pending.{written, settled, Unsynced, MayLeave, all_settled, after_write}
use Rattle.ax_disk.specs.model.Moments.{History}
use Rattle.ax_disk.specs.model.Calls.{overwritten, Writes, Cuts, Syncs}
use Rattle.ax_disk.specs.model.Stays.{Rests, Stays}
use Rattle.ax_disk.specs.laws.PendingLaws.{settled_only}
use Rattle.ax_disk.specs.laws.TornLaws.{kept_up_to}
use Rattle.ax_disk.specs.laws.WriteLaws.{CutImageFrom}
use Rattle.ax_disk.specs.laws.StaysLaws.{stays_join, stays_weaken, writes_stay, cuts_keep, syncs_stay, synced_settled, settled_rests}
use Rattle.ax_frame.specs.RootSlot.{CanName}
use Rattle.ax_frame.specs.declared.root_slot.RootSlot.TheVariants.{Closed, Live}
use Rattle.ax_pages.specs.Area.{IsArea}
use Rattle.ax_pages.specs.declared.numbers.TheConstants.{NEWEST_VERSION}
use Rattle.ax_area.specs.declared.root.Counting.{Counting}
use Rattle.ax_area.specs.declared.root.RootChoice.TheVariants.{Fresh, Counts}
use Rattle.ax_area.specs.Root.{IsRoot, IsWholeRoot}
use Rattle.ax_area.specs.Image.{IsFresh}
use Rattle.ax_area.proofs.OneRoot.{newest_known}
use Rattle.ax_area.proofs.RootPrefix.{fresh_prefix, whole_by_prefix}
use Rattle.ax_log.specs.declared.log.Log.{Log}
use Rattle.ax_log.specs.Log.{log_slot, log_end}
use Rattle.ax_log.specs.Agreement.{HasLog, Agrees}
use Rattle.ax_log.specs.Forming.{empty_image, formed_slot, fresh_slots, laid_image, formed_image, IsForming, IsSettledAt}

-- ---- the lists are emptied

root_of : Image → List ℕ
root_of image = image.root

-- a cut of any list leaves a fresh root fresh
cut_fresh : (ext : Extent) (unsynced : Unsynced) (image : Image)
    → (from : CutImageFrom ext unsynced image) → IsFresh from.before → IsFresh image
cut_fresh Root unsynced image from fresh = fresh_prefix from.before.root image.root from.prefix
    fresh
cut_fresh A unsynced image from fresh = subst (λ (r : List ℕ). IsRoot r Fresh)
    (sym (from.others Root (λ e. absurd cc))) fresh
cut_fresh B unsynced image from fresh = subst (λ (r : List ℕ). IsRoot r Fresh)
    (sym (from.others Root (λ e. absurd cc))) fresh

module _ {T E : Type 0} where
  pub cut_stays_fresh : (ext : Extent) (len : ℕ) (result : Result T E) (old new : History)
      → MayLeave old.unsynced old.reads → Rests old IsFresh → Cuts ext len result old new
      → Stays old new IsFresh
  cut_stays_fresh ext len result old new stays rests cut =
      cuts_keep ext len result old new IsFresh IsFresh stays rests (cut_fresh ext old.unsynced) cut

  -- four calls, one after another
  module _ (h0 : History) (is_settled : h0.unsynced ≡ all_settled h0.reads)
      (fresh : IsFresh h0.reads) (may0 : MayLeave h0.unsynced h0.reads) (h1 : History) where
    pub clear_1 : (r1 : Result T E) → Cuts Root 0 r1 h0 h1 → Stays h0 h1 IsFresh
    clear_1 r1 cut = cut_stays_fresh Root 0 r1 h0 h1 may0
        (settled_rests h0 IsFresh is_settled fresh) cut

    module _ (v1 : T) (cut1 : Cuts {E = E} Root 0 (Ok v1) h0 h1)
        (may1 : MayLeave h1.unsynced h1.reads) (h2 : History) where
      pub clear_2 : (r2 : Result T E) → Cuts A 0 r2 h1 h2 → Stays h0 h2 IsFresh
      clear_2 r2 cut = let first = clear_1 (Ok v1) cut1 in stays_join h0 h1 h2 IsFresh first
          (cut_stays_fresh A 0 r2 h1 h2 may1 first.rests cut)

      module _ (v2 : T) (cut2 : Cuts {E = E} A 0 (Ok v2) h1 h2)
          (may2 : MayLeave h2.unsynced h2.reads) (h3 : History) where
        pub clear_3 : (r3 : Result T E) → Cuts B 0 r3 h2 h3 → Stays h0 h3 IsFresh
        clear_3 r3 cut = let first = clear_2 (Ok v2) cut2 in stays_join h0 h2 h3 IsFresh first
            (cut_stays_fresh B 0 r3 h2 h3 may2 first.rests cut)

        module _ (v3 : T) (cut3 : Cuts {E = E} B 0 (Ok v3) h2 h3)
            (may3 : MayLeave h3.unsynced h3.reads) (h4 : History) where
          pub clear_4 : (r4 : Result T E) → Syncs r4 h3 h4 → Stays h0 h4 IsFresh
          clear_4 r4 sync = let first = clear_3 (Ok v3) cut3 in stays_join h0 h3 h4 IsFresh first
              (syncs_stay r4 h3 h4 IsFresh first.rests may3 sync)

          empty_reads : h3.reads ≡ empty_image
          empty_reads = cut3.done ∙ ap (with_list B []) (cut2.done ∙ ap (with_list A []) cut1.done)

          pub cleared : (r4 : Result T E) → Syncs r4 h3 h4 → OnOk r4 (IsSettledAt empty_image h4)
          cleared (Ok v4) sync = record {
            reads = sync.reads ∙ empty_reads;
            settled = synced_settled v4 h3 h4 sync;
          }
          cleared (Err e) sync = tt

-- ---- the gate and the slots

-- a root of no more than 32 bytes is that of a fresh store
short_fresh : (root : List ℕ) → length root ≤ 32 → IsRoot root Fresh
short_fresh root short = inl (omega arith, refl)

module _ (slots : List ℕ) (short : length slots ≡ 32) (h0 : History)
    (empty : IsSettledAt empty_image h0) where
  unsynced_empty : h0.unsynced ≡ all_settled empty_image
  unsynced_empty = empty.settled ∙ ap all_settled empty.reads

  gate_fresh : (image : Image) → MayLeave (after_write A 0 1 h0.unsynced) image → IsFresh image
  gate_fresh image may =
      let left = subst (λ (u : Unsynced). MayLeave (after_write A 0 1 u) image) unsynced_empty may
      in
      short_fresh image.root (omega (arith, left.root.no_longer))

  module _ {T E : Type 0} (h1 : History) where
    pub laid_1 : (r1 : Result T E) → Writes A 0 (0 ∷ []) r1 h0 h1 → Stays h0 h1 IsFresh
    laid_1 r1 write = writes_stay A 0 (0 ∷ []) r1 h0 h1 IsFresh gate_fresh write

    module _ (v1 : T) (write1 : Writes {E = E} A 0 (0 ∷ []) (Ok v1) h0 h1) (h2 : History) where
      unsynced_gate : h1.unsynced ≡ after_write A 0 1 (all_settled empty_image)
      unsynced_gate = write1.unsynced ∙ ap (after_write A 0 1) unsynced_empty

      slots_fresh : (image : Image) → MayLeave (after_write Root 0 (length slots) h1.unsynced) image
          → IsFresh image
      slots_fresh image may =
          let left = subst (λ (u : Unsynced). MayLeave (after_write Root 0 (length slots) u) image)
          unsynced_gate may in
          short_fresh image.root (omega (arith, left.root.no_longer, short))

      pub laid_2 : (r2 : Result T E) → Writes Root 0 slots r2 h1 h2 → Stays h0 h2 IsFresh
      laid_2 r2 write = stays_join h0 h1 h2 IsFresh (laid_1 (Ok v1) write1)
          (writes_stay Root 0 slots r2 h1 h2 IsFresh slots_fresh write)

      module _ (v2 : T) (write2 : Writes {E = E} Root 0 slots (Ok v2) h1 h2)
          (may2 : MayLeave h2.unsynced h2.reads) (h3 : History) where
        pub laid_3 : (r3 : Result T E) → Syncs r3 h2 h3 → Stays h0 h3 IsFresh
        laid_3 r3 sync = let first = laid_2 (Ok v2) write2 in stays_join h0 h2 h3 IsFresh first
            (syncs_stay r3 h2 h3 IsFresh first.rests may2 sync)

        laid_reads : slots ≡ fresh_slots → h2.reads ≡ laid_image
        laid_reads is =
            write2.done ∙ ap (λ (i : Image). with_list Root (overwritten i.root 0 slots) i)
            (write1.done ∙ ap (λ (i : Image). with_list A (overwritten i.a 0 (0 ∷ [])) i)
            empty.reads)
            ∙ ap (λ (l : List ℕ). with_list Root (overwritten [] 0 l)
            (with_list A (0 ∷ []) empty_image)) is

        pub laid : slots ≡ fresh_slots → (r3 : Result T E) → Syncs r3 h2 h3
            → OnOk r3 (IsSettledAt laid_image h3)
        laid is (Ok v3) sync = record {
          reads = sync.reads ∙ laid_reads is;
          settled = synced_settled v3 h2 h3 sync;
        }
        laid is (Err e) sync = tt

-- ---- the last byte of the root

-- the newest version is one of those that a slot can name, from 1 on
can_name : CanName NEWEST_VERSION 1 1
can_name = record {
  version_from = omega arith;
  version_fits = omega arith;
  one_of_two = inl refl;
  generation_fits = omega arith;
}

-- by computing with the number of the newest version, whatever it is
formed_whole : IsWholeRoot formed_image.root (Counts formed_slot)
formed_whole = record {
  first = Live NEWEST_VERSION 1 1;
  second = Closed;
  whole = omega arith;
  first_slot = (can_name, refl);
  second_slot = λ e. omega (arith, e);
  choice_is = refl;
}

no_frames : IsArea (0 ∷ []) []
no_frames = record {
  spans = tt;
  rest = 0 ∷ [];
  spelled = refl;
  closed = (omega arith, λ e. omega (arith, e));
}

whole_has_none : (image : Image) → IsRoot image.root (Counts formed_slot) → image.a ≡ 0 ∷ [] → IsForming image
whole_has_none image counts is = inr (record {
  counts = counts;
  known = newest_known NEWEST_VERSION formed_slot refl;
  has = subst (λ (l : List ℕ). IsArea l []) (sym is) no_frames;
})

short_or_whole : (n : ℕ) → (n ≤ 32) ⊎ (33 ≤ n)
short_or_whole n = grind arith

module _ (h0 : History) (laid_out : IsSettledAt laid_image h0) where
  unsynced_laid : h0.unsynced ≡ all_settled laid_image
  unsynced_laid = laid_out.settled ∙ ap all_settled laid_out.reads

  last_byte : (image : Image) → MayLeave (after_write Root 32 1 h0.unsynced) image
      → IsForming image
  last_byte image may =
      let left = subst (λ (u : Unsynced). MayLeave (after_write Root 32 1 u) image) unsynced_laid
      may in
      ⊎_elim
      (λ short. inl (short_fresh image.root short))
      (λ long.
      let same : take 32 image.root ≡ take 32 fresh_slots = kept_up_to
      (written 32 1 (settled fresh_slots)) image.root 32 left.root (omega (arith, long))
      (omega arith) (λ i below. (inl below, tt)) in
      whole_has_none image (inr (whole_by_prefix image.root formed_image.root
      (Counts formed_slot) long same formed_whole)) (settled_only (0 ∷ []) image.a left.a))
      (short_or_whole (length image.root))

  module _ {T E : Type 0} (h1 : History) where
    pub formed_1 : (r1 : Result T E) → Writes Root 32 (69 ∷ []) r1 h0 h1
        → Stays h0 h1 IsForming
    formed_1 r1 write = writes_stay Root 32 (69 ∷ []) r1 h0 h1 IsForming last_byte write

    module _ (v1 : T) (write1 : Writes {E = E} Root 32 (69 ∷ []) (Ok v1) h0 h1)
        (may1 : MayLeave h1.unsynced h1.reads) (h2 : History) where
      pub formed_2 : (r2 : Result T E) → Syncs r2 h1 h2 → Stays h0 h2 IsForming
      formed_2 r2 sync = let first = formed_1 (Ok v1) write1 in stays_join h0 h1 h2
          IsForming first (syncs_stay r2 h1 h2 IsForming first.rests may1 sync)

      formed_reads : h1.reads ≡ formed_image
      formed_reads = write1.done ∙ ap (λ (i : Image). with_list Root
          (overwritten i.root 32 (69 ∷ [])) i) laid_out.reads

      pub formed : (r2 : Result T E) → Syncs r2 h1 h2 → OnOk r2 (IsSettledAt formed_image h2)
      formed (Ok v2) sync = record {
        reads = sync.reads ∙ formed_reads;
        settled = synced_settled v2 h1 h2 sync;
      }
      formed (Err e) sync = tt

-- ---- all three steps

pub fresh_has_none : (image : Image) → IsFresh image → IsForming image
fresh_has_none image fresh = inl fresh

pub fresh_stays : (old new : History) → Stays old new IsFresh → Stays old new IsForming
fresh_stays old new stays = stays_weaken old new IsFresh IsForming fresh_has_none stays

pub formed_agrees : (log : Log) (history : History) → IsSettledAt formed_image history
    → log_slot log ≡ formed_slot → log_end log ≡ 0 → Agrees log [] history
formed_agrees log history done slot_is end-is =
    let counts : IsRoot history.reads.root (Counts formed_slot) = subst
    (λ (i : Image). IsRoot i.root (Counts formed_slot)) (sym done.reads) (inr formed_whole) in
    let has : HasLog history.reads.root A [] history.reads =
    record { root_is = refl; has = subst (λ (i : Image). IsArea i.a []) (sym done.reads) no_frames }
    in
    record {
      counts = subst (λ (s : Counting). IsRoot history.reads.root (Counts s)) (sym slot_is) counts;
      known = newest_known NEWEST_VERSION (log_slot log) (ap (λ (s : Counting). s.version) slot_is);
      end_is = end-is;
      rests = subst (λ (s : Counting). Rests history (HasLog history.reads.root s.area [])) (sym slot_is)
          (settled_rests history (HasLog history.reads.root A []) done.settled has);
    }

module _ (h0 h1 : History) (first : Stays h0 h1 IsFresh) where
  pub form_2 : (h2 : History) → Stays h1 h2 IsFresh → Stays h0 h2 IsForming
  form_2 h2 second = fresh_stays h0 h2 (stays_join h0 h1 h2 IsFresh first second)

  pub form_3 : (h2 h3 : History) → Stays h1 h2 IsFresh → Stays h2 h3 IsForming
      → Stays h0 h3 IsForming
  form_3 h2 h3 second third = stays_join h0 h2 h3 IsForming (form_2 h2 second) third

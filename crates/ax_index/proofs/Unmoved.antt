-- Calls that read: what they leave, one after another, and what their faults say.
use Rattle.std.proofs.Common.{◌≡◌, ◌<◌, ℕ, Bool, true, false, List, [], length, refl, sym, ap, ◌∙◌, subst, slice_get, slice_set, zero, suc, ◌∷◌}
use Rattle.std.specs.Prelude.{slice_index_or, is_some}
use Rattle.ax_pair.specs.declared.pair.Pair.{Pair}
use Rattle.ax_delta.specs.Changes.{TermChange}
use Rattle.ax_delta.specs.Payload.{IsDelta}
use Rattle.ax_pairs.specs.PagePairs.{IsBase}
use Rattle.ax_area_laws.specs.Risen.{risen}
use Rattle.ax_pages.specs.Contents.{TermPage, term_page, term_parts}
use Rattle.ax_pages.specs.Area.{extent_number}
use Rattle.ax_pages.specs.declared.page.Page.TheVariants.{Term}
use Rattle.ax_pool.specs.Frames.{Frames}
use Rattle.ax_pool.specs.declared.slot.Slot.{Slot}
use Rattle.ax_store.specs.declared.store.StoreFrames.{StoreFrames}
use Rattle.ax_log.specs.Log.{log_area}
use Rattle.ax_store.specs.Kept.{Kept, PageOffsets, offsets_of}
use Rattle.ax_store.specs.Slots.{IsRead, IsSlotOf, term_part}
use Rattle.ax_store.specs.Store.{SameButReads, store_contents, store_offsets, store_area}
use Rattle.ax_store.specs.declared.fault.StoreFault.{StoreFault}
use Rattle.ax_store.specs.declared.fault.StoreFault.TheVariants.{Disk, Damaged, Newer, Memory}
use Rattle.ax_store.specs.declared.store.Store.{Store}
use Rattle.ax_index.specs.Damage.{IsPayload, IsPlacedAt, TellsPart, is_base_at}
use Rattle.ax_index.specs.Reading.{SameButBytes}
use Rattle.ax_index.proofs.DeltaParts.{base_at, base_there}

module _ {C : Type 0} where
  pub unmoved : (store : Store C) → SameButBytes store store
  unmoved store = record { same = record { logged = refl; pages = refl }; taken = refl }

  pub slots_then : (old mid new : Store C) → SameButReads old mid → SameButReads mid new → SameButReads old new
  slots_then old mid new first second = record {
    logged = second.logged ∙ first.logged;
    pages = second.pages ∙ first.pages;
  }

  pub unmoved_then : (old mid new : Store C) → SameButBytes old mid → SameButBytes mid new → SameButBytes old new
  unmoved_then old mid new first second = record {
    same = slots_then old mid new first.same second.same;
    taken = second.taken ∙ first.taken;
  }

  pub same_contents : (old new : Store C) → SameButReads old new → store_contents new ≡ store_contents old
  same_contents old new same = ap (λ (kept : Kept). risen kept.contents) same.pages

  pub same_terms : (old new : Store C) → SameButReads old new → (store_contents new).terms ≡ (store_contents old).terms
  same_terms old new same = ap (λ (kept : Kept). kept.contents.terms) same.pages

  pub same_offsets : (old new : Store C) → SameButReads old new → store_offsets new ≡ store_offsets old
  same_offsets old new same = ap (λ (kept : Kept). kept.offsets) same.pages

  same_area : (old new : Store C) → SameButReads old new → store_area new ≡ store_area old
  same_area old new same = ap log_area same.logged

  pub still_taken : (old new : Store C) (slot : Slot StoreFrames) → SameButBytes old new → IsSlotOf old slot → IsSlotOf new slot
  still_taken old new slot same is = subst (λ (taken : List Bool). slice_index_or taken slot.number false ≡ true) (sym same.taken) is

  -- ---- faults

  pub told_from : (old new : Store C) (fault : StoreFault) → (store_contents new).terms ≡ (store_contents old).terms → store_offsets new ≡ store_offsets old
      → store_area new ≡ store_area old
      → TellsPart new fault → TellsPart old fault
  told_from old new Disk terms offsets area h = tt
  told_from old new (Damaged extent at) terms offsets area h = record {
    page = h.page;
    i = h.i;
    there = subst (λ (k : List TermPage). h.i < length (term_parts (term_page h.page k))) terms h.there;
    placed = (
      h.placed.0 ∙ ap extent_number area,
      ap (λ (o : PageOffsets). slice_get (offsets_of (Term h.page) o) h.i) (sym offsets) ∙ h.placed.1,
    );
    spoiled = subst (λ (k : List TermPage). IsPayload (is_base_at (term_page h.page k) h.i) (term_part h.page h.i k) → ⊥) terms h.spoiled;
  }
  told_from old new (Newer version) terms offsets area h = h
  told_from old new Memory terms offsets area h = tt

  pub told_back : (old new : Store C) (fault : StoreFault) → SameButReads old new → TellsPart new fault → TellsPart old fault
  told_back old new fault same =
      told_from old new fault (same_terms old new same) (same_offsets old new same) (same_area old new same)

  pub told_disk : (store : Store C) (fault : StoreFault) → fault ≡ Disk → TellsPart store fault
  told_disk store fault e = let P : StoreFault → Type 0 = λ f. TellsPart store f in subst P (sym e) tt

  told_spoiled : (store : Store C) (page i : ℕ) (fault : StoreFault) → i < length (term_parts (term_page page (store_contents store).terms))
      → (IsPayload (is_base_at (term_page page (store_contents store).terms) i) (term_part page i (store_contents store).terms) → ⊥)
      → IsPlacedAt store page i fault → TellsPart store fault
  told_spoiled store page i Disk there spoiled placed = tt
  told_spoiled store page i (Damaged extent at) there spoiled placed = record { page = page; i = i; there = there; placed = placed; spoiled = spoiled }
  told_spoiled store page i (Newer version) there spoiled placed = placed
  told_spoiled store page i Memory there spoiled placed = tt

  -- the fault of a part that was read and is no payload
  pub told_read : (old new : Store C) (page i : ℕ) (fault : StoreFault) → SameButReads old new
      → i < length (term_parts (term_page page (store_contents old).terms))
      → (IsPayload (is_base_at (term_page page (store_contents old).terms) i) (term_part page i (store_contents old).terms) → ⊥)
      → IsPlacedAt new page i fault → TellsPart old fault
  told_read old new page i fault same there spoiled placed =
      let terms = same_terms old new same in
      told_back old new fault same
      (told_spoiled new page i fault
      (subst (λ (k : List TermPage). i < length (term_parts (term_page page k))) (sym terms) there)
      (subst (λ (k : List TermPage). IsPayload (is_base_at (term_page page k) i) (term_part page i k) → ⊥) (sym terms) spoiled)
      placed)

  pub placed_apart : (store : Store C) (page i : ℕ) (fault : StoreFault) → IsPlacedAt store page i fault → fault ≡ Memory → ⊥
  placed_apart store page i Disk placed e = placed
  placed_apart store page i (Damaged extent at) placed e = absurd (cc)
  placed_apart store page i (Newer version) placed e = placed
  placed_apart store page i Memory placed e = placed

-- ---- a slot that was taken and is given back

pub given_back : (taken : List Bool) (n : ℕ) → slice_index_or taken n true ≡ false → slice_set (slice_set taken n true) n false ≡ taken
given_back [] n h = absurd (cc)
given_back (x ∷ taken) zero h = ap (λ (b : Bool). b ∷ taken) (sym h)
given_back (x ∷ taken) (suc n) h = ap (λ (bs : List Bool). x ∷ bs) (given_back taken n h)

module _ {C : Type 0} where
  -- the fault of a base that was read and is none
  pub told_base : (old new : Store C) (page : ℕ) (fault : StoreFault) (payload : List ℕ) → SameButReads old new
      → is_some (term_page page (store_contents old).terms).base ≡ true → payload ≡ term_part page 0 (store_contents old).terms
      → ((pairs : List Pair) × IsBase payload pairs → ⊥) → IsPlacedAt new page 0 fault → TellsPart old fault
  told_base old new page fault payload same there is none placed =
      told_read old new page 0 fault same (base_there (term_page page (store_contents old).terms) there)
      (subst (λ (b : Bool). IsPayload b (term_part page 0 (store_contents old).terms) → ⊥) (sym (base_at (term_page page (store_contents old).terms) there))
      (subst (λ (bytes : List ℕ). (pairs : List Pair) × IsBase bytes pairs → ⊥) is none))
      placed

  -- the same of a delta
  pub told_delta : (old new : Store C) (page i : ℕ) (fault : StoreFault) (payload : List ℕ) → SameButReads old new
      → i < length (term_parts (term_page page (store_contents old).terms))
      → is_base_at (term_page page (store_contents old).terms) i ≡ false → payload ≡ term_part page i (store_contents old).terms
      → ((changes : List TermChange) × IsDelta payload changes → ⊥) → IsPlacedAt new page i fault → TellsPart old fault
  told_delta old new page i fault payload same there delta is none placed =
      told_read old new page i fault same there
      (subst (λ (b : Bool). IsPayload b (term_part page i (store_contents old).terms) → ⊥) (sym delta)
      (subst (λ (bytes : List ℕ). (changes : List TermChange) × IsDelta bytes changes → ⊥) is none))
      placed

-- ---- slots

pub slots_back : (old took left new : List Bool) (n m : ℕ) → slice_index_or old n true ≡ false → took ≡ slice_set old n true → left ≡ took → m ≡ n
    → new ≡ slice_set left m false → new ≡ old
slots_back old took left new n m free e f same g =
    g ∙ ap (λ (k : ℕ). slice_set left k false) same ∙ ap (λ (taken : List Bool). slice_set taken n false) (f ∙ e) ∙ given_back old n free

pub read_still : (payload : List ℕ) (frames : Frames) (old new : Slot StoreFrames) (len : ℕ) → new ≡ old → IsRead payload frames old.number len
    → IsRead payload frames new.number len
read_still payload frames old new len same is = subst (λ (slot : Slot StoreFrames). IsRead payload frames slot.number len) (sym same) is

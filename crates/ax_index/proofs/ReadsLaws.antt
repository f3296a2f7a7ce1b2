-- Calls that read, one after another.
use Rattle.std.proofs.Common.{◌≡◌, ℕ, zero, suc, Bool, true, false, refl, sym, ap, ◌∙◌, subst, List, [], ◌∷◌, arith}
use Rattle.std.specs.Prelude.{IsTrue, slice_index_or}
use Rattle.ax_disk.specs.laws.StaysLaws.{idles_start, idles_join}
use Rattle.ax_disk.specs.model.Moments.{History}
use Rattle.ax_cache.specs.Pages.{CachedPages}
use Rattle.ax_area_laws.specs.Risen.{risen}
use Rattle.ax_store.specs.Kept.{Kept}
use Rattle.ax_store.specs.declared.store.Store.{Store}
use Rattle.ax_store.specs.Store.{AgreesUnlessFailed, SameButRoom, SameButSlots, store_slots}
use Rattle.ax_store.proofs.StoreLemmas.{agrees_same, agrees_slots}
use Rattle.ax_pool.specs.Frames.{Frames, IsFree}
use Rattle.ax_store.specs.Slots.{AreOthersSame}
use Rattle.ax_index.specs.Plans.{SameButRoomAndBytes}
use Rattle.ax_index.specs.Reading.{SameButBytes}
use Rattle.ax_index.specs.Reads.{KeepsTaken, Reads, Reserves}
use Rattle.ax_index.proofs.CallLemmas.{same_itself, same_then}
use Rattle.ax_index.proofs.Unmoved.{same_contents, same_offsets, unmoved, unmoved_then}

module _ {C : Type 0} (pages : C → CachedPages) (honest : Bool) where
  pub nothing_read : (store : Store C) (history : History) (faults : ℕ) → AgreesUnlessFailed pages honest store history
      → Reads pages honest store store history history faults faults
  nothing_read store history faults agrees = record {
    same = unmoved store;
    agrees = agrees;
    lists = λ _. idles_start history;
    never_falls = omega arith;
  }

  pub read_then : (a b c : Store C) (x y z : History) (l m n : ℕ) → Reads pages honest a b x y l m → Reads pages honest b c y z m n
      → Reads pages honest a c x z l n
  read_then a b c x y z l m n first second = record {
    same = unmoved_then a b c first.same second.same;
    agrees = second.agrees;
    lists = λ is. idles_join x y z (first.lists is) (second.lists is);
    never_falls = omega (arith, first.never_falls, second.never_falls);
  }

  -- ---- with room

  pub nothing_reserved : (store : Store C) (history : History) (faults : ℕ) → AgreesUnlessFailed pages honest store history
      → Reserves pages honest store store history history faults faults
  nothing_reserved store history faults agrees = record {
    same = same_itself store;
    agrees = agrees;
    lists = λ _. idles_start history;
    never_falls = omega arith;
  }

  pub reserve_then : (a b c : Store C) (x y z : History) (l m n : ℕ) → Reserves pages honest a b x y l m → Reserves pages honest b c y z m n
      → Reserves pages honest a c x z l n
  reserve_then a b c x y z l m n first second = record {
    same = same_then a b c first.same second.same;
    agrees = second.agrees;
    lists = λ is. idles_join x y z (first.lists is) (second.lists is);
    never_falls = omega (arith, first.never_falls, second.never_falls);
  }

  by_bytes : (old new : Store C) → SameButBytes old new → SameButRoomAndBytes old new
  by_bytes old new same = record {
    logged = same.same.logged;
    contents = same_contents old new same.same;
    offsets = same_offsets old new same.same;
    taken = same.taken;
  }

  by_room : (old new : Store C) → SameButRoom old new → SameButRoomAndBytes old new
  by_room old new same = record {
    logged = same.logged;
    contents = ap risen same.contents;
    offsets = same.offsets;
    taken = ap (λ (frames : Frames). frames.taken) same.slots;
  }

  pub reads_only : (a b : Store C) (x y : History) (l m : ℕ) → Reads pages honest a b x y l m → Reserves pages honest a b x y l m
  reads_only a b x y l m reads = record {
    same = by_bytes a b reads.same;
    agrees = reads.agrees;
    lists = reads.lists;
    never_falls = reads.never_falls;
  }

  agrees_roomy : (old new : Store C) (history : History) → SameButRoom old new → AgreesUnlessFailed pages honest old history
      → AgreesUnlessFailed pages honest new history
  agrees_roomy old new history same agrees = λ is works. agrees_same pages old new history same (agrees is (sym same.failed ∙ works))

  -- a call that reads nothing and makes room
  pub room_alone : (a b : Store C) (x : History) (l : ℕ) → AgreesUnlessFailed pages honest a x → SameButRoom a b → Reserves pages honest a b x x l l
  room_alone a b x l agrees same = record {
    same = by_room a b same;
    agrees = agrees_roomy a b x same agrees;
    lists = λ _. idles_start x;
    never_falls = omega arith;
  }

  -- and one behind calls that read
  pub room_behind : (a b c : Store C) (x y : History) (l m : ℕ) → Reserves pages honest a b x y l m → SameButRoom b c → Reserves pages honest a c x y l m
  room_behind a b c x y l m first same = record {
    same = same_then a b c first.same (by_room b c same);
    agrees = agrees_roomy b c y same first.agrees;
    lists = first.lists;
    never_falls = first.never_falls;
  }

  -- ---- between a slot that is taken and given back

  pub agrees_taken : (old took : Store C) (history : History) → SameButSlots old took → AgreesUnlessFailed pages honest old history
      → AgreesUnlessFailed pages honest took history
  agrees_taken old took history same agrees = λ is works. agrees_slots pages old took history same (agrees is (sym same.failed ∙ works))

  pub read_around : (old took read new : Store C) (x y : History) (l m : ℕ) → SameButSlots old took → Reads pages honest took read x y l m
      → SameButSlots read new
      → (store_slots new).taken ≡ (store_slots old).taken → Reads pages honest old new x y l m
  read_around old took read new x y l m first reads last taken = record {
    same = record {
      same = record { logged = last.logged ∙ reads.same.same.logged ∙ first.logged; pages = last.pages ∙ reads.same.same.pages ∙ first.pages };
      taken = taken;
    };
    agrees = agrees_taken read new y last reads.agrees;
    lists = reads.lists;
    never_falls = reads.never_falls;
  }

  pub reserve_around : (old took planned new : Store C) (x y : History) (l m : ℕ) → SameButSlots old took → Reserves pages honest took planned x y l m
      → SameButSlots planned new
      → (store_slots new).taken ≡ (store_slots old).taken → Reserves pages honest old new x y l m
  reserve_around old took planned new x y l m first planned_so last taken = record {
    same = record {
      logged = last.logged ∙ planned_so.same.logged ∙ first.logged;
      contents = ap (λ (kept : Kept). risen kept.contents) last.pages ∙ planned_so.same.contents ∙ ap (λ (kept : Kept). risen kept.contents) first.pages;
      offsets = ap (λ (kept : Kept). kept.offsets) last.pages ∙ planned_so.same.offsets ∙ ap (λ (kept : Kept). kept.offsets) first.pages;
      taken = taken;
    };
    agrees = agrees_taken planned new y last planned_so.agrees;
    lists = planned_so.lists;
    never_falls = planned_so.never_falls;
  }

-- ---- the bytes of other slots

pub others_itself : (number : ℕ) (frames : Frames) → AreOthersSame number frames frames
others_itself number frames = record { taken = refl; count = refl; bytes = λ other apart. refl }

pub others_then : (number here : ℕ) (old mid new : Frames) → here ≡ number → AreOthersSame number old mid → AreOthersSame here mid new
    → AreOthersSame number old new
others_then number here old mid new same first second = record {
  taken = second.taken ∙ first.taken;
  count = second.count ∙ first.count;
  bytes = λ other apart. second.bytes other (λ e. apart (e ∙ same)) ∙ first.bytes other apart;
}

pub others_still : (number : ℕ) (old mid new : Frames) → new ≡ mid → AreOthersSame number old mid → AreOthersSame number old new
others_still number old mid new same others = subst (AreOthersSame number old) (sym same) others

not_both : (taken : List Bool) (n : ℕ) → slice_index_or taken n false ≡ true → slice_index_or taken n true ≡ false → ⊥
not_both [] n is free = absurd (cc)
not_both (x ∷ taken) zero is free = absurd (cc)
not_both (x ∷ taken) (suc n) is free = not_both taken n is free

-- between a slot that is taken and given back
pub keeps_around : (number : ℕ) (old took read new : Frames) → IsFree old number → took.bytes ≡ old.bytes → AreOthersSame number took read
    → new.bytes ≡ read.bytes → KeepsTaken old new
keeps_around number old took read new free first others last other taken =
    ap (λ (frames : List (List ℕ)). slice_index_or frames other []) last
    ∙ others.bytes other
    (λ e. not_both old.taken number (subst (λ (n : ℕ). slice_index_or old.taken n false ≡ true) e taken) free)
    ∙ ap (λ (frames : List (List ℕ)). slice_index_or frames other []) first

-- told of the same honesty
module _ {C : Type 0} (pages : C → CachedPages) (now then : Bool) (same : now ≡ then) where
  pub of_honest : (b c : Store C) (y z : History) (m n : ℕ) → Reads pages now b c y z m n → Reads pages then b c y z m n
  of_honest b c y z m n reads = subst (λ h. Reads pages h b c y z m n) same reads

  pub of_honest_too : (b c : Store C) (y z : History) (m n : ℕ) → Reserves pages now b c y z m n → Reserves pages then b c y z m n
  of_honest_too b c y z m n planned = subst (λ h. Reserves pages h b c y z m n) same planned

  pub agrees_told : (store : Store C) (history : History) → AgreesUnlessFailed pages then store history → AgreesUnlessFailed pages now store history
  agrees_told store history agrees = λ is works. agrees (subst IsTrue same is) works

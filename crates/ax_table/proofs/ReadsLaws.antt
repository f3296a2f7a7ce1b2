-- Calls that read, one after another, and what they leave by their answers.
use Rattle.std.proofs.Common.{◌≡◌, ℕ, zero, suc, Bool, true, false, List, [], ◌∷◌, Result, Ok, Err, refl, sym, ap, subst, ◌∙◌, arith}
use Rattle.std.specs.Prelude.{IsTrue, slice_index_or, slice_set}
use Rattle.ax_disk.specs.laws.StaysLaws.{idles_start, idles_join}
use Rattle.ax_disk.specs.model.Moments.{History}
use Rattle.ax_cache.specs.Pages.{CachedPages}
use Rattle.ax_pool.specs.Frames.{Frames, IsFree}
use Rattle.ax_store.proofs.StoreLemmas.{agrees_slots}
use Rattle.ax_store.specs.declared.fault.StoreFault.{StoreFault}
use Rattle.ax_store.specs.declared.fault.StoreFault.TheVariants.{Disk, Damaged, Newer, Memory}
use Rattle.ax_store.specs.declared.store.Store.{Store}
use Rattle.ax_store.specs.Faults.{FailsByDisk, HasDiskCause, UnlessDisk}
use Rattle.ax_store.specs.Reads.{FailsAlone, ReadsStore}
use Rattle.ax_store.specs.Slots.{AreOthersSame}
use Rattle.ax_store.specs.Store.{AgreesUnlessFailed, SameButReads, SameButSlots, store_failed, store_slots}
use Rattle.ax_table.specs.Reads.{FailsBy, KeepsTaken, ReadsBy}

-- ---- the bytes of other slots

others_itself : (number : ℕ) (frames : Frames) → AreOthersSame number frames frames
others_itself number frames = record { taken = refl; count = refl; bytes = λ other apart. refl }

others_then : (number : ℕ) (old mid new : Frames) → AreOthersSame number old mid → AreOthersSame number mid new → AreOthersSame number old new
others_then number old mid new first second = record {
  taken = second.taken ∙ first.taken;
  count = second.count ∙ first.count;
  bytes = λ other apart. second.bytes other apart ∙ first.bytes other apart;
}

not_both : (taken : List Bool) (n : ℕ) → slice_index_or taken n false ≡ true → slice_index_or taken n true ≡ false → ⊥
not_both [] n is free = absurd cc
not_both (x ∷ taken) zero is free = absurd cc
not_both (x ∷ taken) (suc n) is free = not_both taken n is free

given_back : (taken : List Bool) (n : ℕ) → slice_index_or taken n true ≡ false → slice_set (slice_set taken n true) n false ≡ taken
given_back [] n h = absurd cc
given_back (x ∷ taken) zero h = ap (λ (b : Bool). b ∷ taken) (sym h)
given_back (x ∷ taken) (suc n) h = ap (λ (bs : List Bool). x ∷ bs) (given_back taken n h)

-- ---- faults that are not of the disk

stays : {T : Type 0} (result : Result T StoreFault) (failed : Bool) → (FailsByDisk result → ⊥) → FailsBy result failed failed
stays (Ok value) failed apart = refl
stays (Err Disk) failed apart = absurd (apart tt)
stays (Err (Damaged extent at)) failed apart = refl
stays (Err (Newer version)) failed apart = refl
stays (Err Memory) failed apart = refl

uncounted : {T : Type 0} (result : Result T StoreFault) (count : ℕ) → UnlessDisk result (count ≡ count)
uncounted (Ok value) count = refl
uncounted (Err Disk) count = tt
uncounted (Err (Damaged extent at)) count = refl
uncounted (Err (Newer version)) count = refl
uncounted (Err Memory) count = refl

no_cause : {T : Type 0} (result : Result T StoreFault) (count : ℕ) → (FailsByDisk result → ⊥) → HasDiskCause result count count
no_cause result count apart = record {
  never_falls = omega arith;
  failed = λ fails. absurd (apart fails);
  uncounted = uncounted result count;
}

-- ---- one call after another

module _ {C : Type 0} (pages : C → CachedPages) (honest : Bool) (slot : ℕ) where
  -- nothing was read
  pub nothing_read : {T : Type 0} (result : Result T StoreFault) (store : Store C) (history : History) (faults : ℕ)
      → AgreesUnlessFailed pages honest store history → (FailsByDisk result → ⊥)
      → ReadsBy pages honest result slot store store history history faults faults
  nothing_read result store history faults agrees apart = record {
    reads = record {
      same = record { logged = refl; pages = refl };
      agrees = agrees;
      lists = λ _. idles_start history;
      never_falls = omega arith;
    };
    others = others_itself slot (store_slots store);
    fails = stays result (store_failed store) apart;
    cause = λ works. no_cause result faults apart;
  }

  same_then : (a b c : Store C) → SameButReads a b → SameButReads b c → SameButReads a c
  same_then a b c first second = record { logged = second.logged ∙ first.logged; pages = second.pages ∙ first.pages }

  reads_then : (a b c : Store C) (x y z : History) (l m n : ℕ) → ReadsStore pages honest a b x y l m → ReadsStore pages honest b c y z m n
      → ReadsStore pages honest a c x z l n
  reads_then a b c x y z l m n first second = record {
    same = same_then a b c first.same second.same;
    agrees = second.agrees;
    lists = λ is. idles_join x y z (first.lists is) (second.lists is);
    never_falls = omega (arith, first.never_falls, second.never_falls);
  }

  -- the count was the same and the store had failed as much when the first call was done
  fails_later : {T : Type 0} (result : Result T StoreFault) (before mid after : Bool) → mid ≡ before → FailsBy result mid after → FailsBy result before after
  fails_later result before mid after same fails = subst (λ (b : Bool). FailsBy result b after) same fails

  cause_later : {T : Type 0} (result : Result T StoreFault) (before mid now : ℕ) → mid ≡ before → HasDiskCause result mid now → HasDiskCause result before now
  cause_later result before mid now same cause = subst (λ (n : ℕ). HasDiskCause result n now) same cause

  pub read_then : {T U : Type 0} (value : U) (result : Result T StoreFault) (a b c : Store C) (x y z : History) (l m n : ℕ)
      → ReadsBy {T = U} pages honest (Ok value) slot a b x y l m → ReadsBy pages honest result slot b c y z m n
      → ReadsBy pages honest result slot a c x z l n
  read_then value result a b c x y z l m n first second = record {
    reads = reads_then a b c x y z l m n first.reads second.reads;
    others = others_then slot (store_slots a) (store_slots b) (store_slots c) first.others second.others;
    fails = fails_later result (store_failed a) (store_failed b) (store_failed c) first.fails second.fails;
    cause = λ works. cause_later result l m n (first.cause works).uncounted (second.cause (first.fails ∙ works));
  }

  -- a call that reads nothing behind one that reads
  pub read_only : {T U : Type 0} (value : U) (result : Result T StoreFault) (a b : Store C) (x y : History) (l m : ℕ)
      → ReadsBy {T = U} pages honest (Ok value) slot a b x y l m → (FailsByDisk result → ⊥) → ReadsBy pages honest result slot a b x y l m
  read_only value result a b x y l m first apart =
      read_then value result a b b x y y l m m first (nothing_read result b y m first.reads.agrees apart)

  -- the same fault, of a call with another answer
  pub same_fault : {T U : Type 0} (fault : StoreFault) (a b : Store C) (x y : History) (l m : ℕ) → ReadsBy {T = T} pages honest (Err fault) slot a b x y l m
      → ReadsBy {T = U} pages honest (Err fault) slot a b x y l m
  same_fault fault a b x y l m reads = record {
    reads = reads.reads;
    others = reads.others;
    fails = reads.fails;
    cause = λ works. record {
      never_falls = (reads.cause works).never_falls;
      failed = (reads.cause works).failed;
      uncounted = (reads.cause works).uncounted;
    };
  }

  -- and one that is Ok
  pub same_ok : {T U : Type 0} (value : T) (other : U) (a b : Store C) (x y : History) (l m : ℕ)
      → ReadsBy {T = T} pages honest (Ok value) slot a b x y l m → ReadsBy {T = U} pages honest (Ok other) slot a b x y l m
  same_ok value other a b x y l m reads = read_only value (Ok other) a b x y l m reads (λ fails. fails)

  -- ---- a part that was read

  fails_by : {T : Type 0} (result : Result T StoreFault) (old new : Bool) (l m : ℕ) → FailsAlone result old new l m → FailsBy result old new
  fails_by (Ok value) true new l m fails = absurd (not_failed (fails.failed_before refl))
    where
      not_failed : {T : Type 0} {value : T} → Ok value ≡ Err Disk → ⊥
      not_failed e = cc
  fails_by (Ok value) false new l m fails = fails.works
  fails_by (Err Disk) old new l m fails = fails.fails
  fails_by (Err (Damaged extent at)) old new l m fails = absurd (not_disk fails.disk_alone)
    where
      not_disk : Damaged extent at ≡ Disk → ⊥
      not_disk e = cc
  fails_by (Err (Newer version)) old new l m fails = absurd (not_disk fails.disk_alone)
    where
      not_disk : Newer version ≡ Disk → ⊥
      not_disk e = cc
  fails_by (Err Memory) old new l m fails = absurd (not_disk fails.disk_alone)
    where
      not_disk : Memory ≡ Disk → ⊥
      not_disk e = cc

  pub by_part : {T : Type 0} (result : Result T StoreFault) (a b : Store C) (x y : History) (l m : ℕ) → ReadsStore pages honest a b x y l m
      → AreOthersSame slot (store_slots a) (store_slots b) → FailsAlone result (store_failed a) (store_failed b) l m
      → ReadsBy pages honest result slot a b x y l m
  by_part result a b x y l m reads others fails = record {
    reads = reads;
    others = others;
    fails = fails_by result (store_failed a) (store_failed b) l m fails;
    cause = fails.cause;
  }

-- told of the same honesty and the same slot
module _ {C : Type 0} (pages : C → CachedPages) (now then : Bool) (same : now ≡ then) (here there : ℕ) (at : here ≡ there) where
  pub agrees_told : (store : Store C) (history : History) → AgreesUnlessFailed pages then store history → AgreesUnlessFailed pages now store history
  agrees_told store history agrees = λ is works. agrees (subst IsTrue same is) works

  told_so : {T : Type 0} (result : Result T StoreFault) (b c : Store C) (y z : History) (m n : ℕ) → ReadsBy pages now result here b c y z m n
      → ReadsBy pages then result there b c y z m n
  told_so result b c y z m n reads =
      subst (λ slot. ReadsBy pages then result slot b c y z m n) at (subst (λ honest. ReadsBy pages honest result here b c y z m n) same reads)

  pub read_on : {T U : Type 0} (value : U) (result : Result T StoreFault) (a b c : Store C) (x y z : History) (l m n : ℕ)
      → ReadsBy {T = U} pages then (Ok value) there a b x y l m → ReadsBy pages now result here b c y z m n
      → ReadsBy pages then result there a c x z l n
  read_on value result a b c x y z l m n first second =
      read_then pages then there value result a b c x y z l m n first (told_so result b c y z m n second)

-- ---- between a slot that is taken and given back

module _ {C : Type 0} (pages : C → CachedPages) (honest : Bool) where
  pub agrees_taken : (old took : Store C) (history : History) → SameButSlots old took → AgreesUnlessFailed pages honest old history
      → AgreesUnlessFailed pages honest took history
  agrees_taken old took history same agrees = λ is works. agrees_slots pages old took history same (agrees is (sym same.failed ∙ works))

  module _ {T : Type 0} (result : Result T StoreFault) (slot : ℕ) (old took left new : Store C) (x y : History) (l m : ℕ) (first : SameButSlots old took)
      (reads : ReadsBy pages honest result slot took left x y l m) (last : SameButSlots left new) where
    pub reads_around : ReadsStore pages honest old new x y l m
    reads_around = record {
      same = record {
        logged = last.logged ∙ reads.reads.same.logged ∙ first.logged;
        pages = last.pages ∙ reads.reads.same.pages ∙ first.pages;
      };
      agrees = agrees_taken left new y last reads.reads.agrees;
      lists = reads.reads.lists;
      never_falls = reads.reads.never_falls;
    }

    pub fails_around : FailsBy result (store_failed old) (store_failed new)
    fails_around =
        subst (λ (b : Bool). FailsBy result b (store_failed new)) first.failed
        (subst (λ (b : Bool). FailsBy result (store_failed took) b) (sym last.failed) reads.fails)

    pub cause_around : store_failed old ≡ false → HasDiskCause result l m
    cause_around works = reads.cause (first.failed ∙ works)

    pub keeps_around : IsFree (store_slots old) slot → (store_slots took).taken ≡ slice_set (store_slots old).taken slot true
        → (store_slots took).bytes ≡ (store_slots old).bytes → (store_slots new).taken ≡ slice_set (store_slots left).taken slot false
        → (store_slots new).bytes ≡ (store_slots left).bytes → KeepsTaken (store_slots old) (store_slots new)
    keeps_around free took_is took_bytes new_is new_bytes = record {
      taken =
          new_is ∙ ap (λ (taken : List Bool). slice_set taken slot false) (reads.others.taken ∙ took_is)
          ∙ given_back (store_slots old).taken slot free;
      bytes = λ other taken.
          ap (λ (frames : List (List ℕ)). slice_index_or frames other []) new_bytes
          ∙ reads.others.bytes other (λ e. not_both (store_slots old).taken slot (subst (λ (n : ℕ). slice_index_or (store_slots old).taken n false ≡ true) e
          taken) free)
          ∙ ap (λ (frames : List (List ℕ)). slice_index_or frames other []) took_bytes;
    }

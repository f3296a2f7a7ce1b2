-- Calls one after another: what each answer says of both.
use Rattle.std.proofs.Common.{◌≡◌, ℕ, Bool, true, false, List, [], ◌∷◌, ◌++◌, Result, Ok, Err, refl, sym, ap, subst, ◌∙◌}
use Rattle.std.specs.Prelude.{◌≢◌, IfErr, OnErr, OnOk}
use Rattle.ax_index.specs.Damage.{FailsBy, FailsWith, TellsPart}
use Rattle.ax_index.specs.Reads.{KeepsTaken}
use Rattle.ax_pool.specs.Frames.{Frames, bytes_at}
use Rattle.ax_store.specs.Faults.{HasDiskCause}
use Rattle.ax_store.specs.declared.fault.StoreFault.{StoreFault}
use Rattle.ax_store.specs.declared.fault.StoreFault.TheVariants.{Disk, Damaged, Newer, Memory}
use Rattle.ax_store.specs.declared.store.Store.{Store}
use Rattle.ax_write.specs.Committed.{IsBrief}

module _ {T E A B : Type 0} where
  pub on_ok : (result : Result T E) → (A → B) → OnOk result A → OnOk result B
  on_ok (Ok value) weaker is = weaker is
  on_ok (Err fault) weaker is = tt

  pub on_err : (result : Result T E) → (A → B) → OnErr result A → OnErr result B
  on_err (Ok value) weaker is = tt
  on_err (Err fault) weaker is = weaker is

-- what is so at Ok is so of a store that has not failed, where each error has it fail
pub unless_failed : {T E A : Type 0} (result : Result T E) (failed : Bool) → OnOk result A → OnErr result (failed ≡ true) → failed ≡ false → A
unless_failed (Ok value) failed ok err works = ok
unless_failed (Err fault) failed ok err works = let both : true ≡ false = sym err ∙ works in absurd cc

-- ---- why a commit fails

pub brief : {T : Type 0} (result : Result T StoreFault) → IfErr result (λ fault. fault ≡ Disk) → IfErr result IsBrief
brief (Ok value) only = tt
brief (Err fault) only = subst IsBrief (sym only) tt

brief_told : {C : Type 0} (store : Store C) (fault : StoreFault) → IsBrief fault → TellsPart store fault
brief_told store Disk is = tt
brief_told store (Damaged extent at) is = absurd is
brief_told store (Newer version) is = absurd is
brief_told store Memory is = tt

pub told_briefly : {T C : Type 0} (store : Store C) (result : Result T StoreFault) → IfErr result IsBrief → IfErr result (TellsPart store)
told_briefly store (Ok value) only = tt
told_briefly store (Err fault) only = brief_told store fault only

not_ok : {T : Type 0} (value : T) (fault : StoreFault) → Ok value ≡ Err fault → ⊥
not_ok value fault e = absurd cc

pub fails_alone : {T : Type 0} (result : Result T StoreFault) (old new : Bool) → OnOk result (new ≡ false) → OnErr result (new ≡ true)
    → (old ≡ true → result ≡ Err Disk) → IfErr result (λ fault. fault ≡ Disk) → FailsBy result old new
fails_alone (Ok value) old new works fails before only = by_old old before
  where
    by_old : (was : Bool) → (was ≡ true → Ok value ≡ Err Disk) → new ≡ was
    by_old true failed = absurd (not_ok value Disk (failed refl))
    by_old false failed = works
fails_alone (Err fault) old new works fails before only = subst (λ f. FailsWith f old new) (sym only) fails

-- ---- two calls

pub fails_then : {T : Type 0} (result : Result T StoreFault) (old mid new : Bool) → mid ≡ old → FailsBy result mid new → FailsBy result old new
fails_then result old mid new same fails = subst (λ was. FailsBy result was new) same fails

pub cause_then : {T : Type 0} (result : Result T StoreFault) (earlier mid later : ℕ) → mid ≡ earlier → HasDiskCause result mid later
    → HasDiskCause result earlier later
cause_then result earlier mid later same cause = subst (λ count. HasDiskCause result count later) same cause

pub keeps_still : (old mid new : Frames) → new ≡ mid → KeepsTaken old mid → KeepsTaken old new
keeps_still old mid new same keeps number taken = ap (λ frames. bytes_at frames number) same ∙ keeps number taken

pub some_more : {A : Type 0} (old parts new : List A) → new ≡ old ++ parts → old ≢ [] → new ≢ []
some_more [] parts new added some = absurd (some refl)
some_more (x ∷ old) parts new added some = λ none. let e : [] ≡ x ∷ (old ++ parts) = sym none ∙ added in absurd cc

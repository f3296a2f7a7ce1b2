-- Why a file was not found, or files were not judged, is why a store is not opened.
use Rattle.std.proofs.Common.{◌≡◌, Bool, Option, Some, None, Result, Ok, Err, IfErr, IsErrAnd, IsSomeAnd, IsTrue, option_copied, Bor, refl, sym, subst}
use Rattle.std.specs.Option.{ForSome}
use Rattle.std.specs.declared.fs.TryLockError.{TryLockError}
use Rattle.std.specs.declared.fs.TryLockError.TheVariants.{WouldBlock}
use Rattle.std.specs.declared.io.Error.{Error}
use Rattle.ax_disk.specs.declared.extent.Extent.{Extent}
use Rattle.ax_disk.specs.declared.extent.Extent.TheVariants.{Root, A, B}
use Rattle.ax_files.specs.Content.{at_extent}
use Rattle.ax_files.specs.Faults.{HasOpeningCause, IsFindingErrorOf, IsOfFinding, IsOpeningErrorOf, IsSoOfSome}
use Rattle.ax_files.specs.SystemCalls.{SystemCall}
use Rattle.ax_files.specs.declared.file_fault.FileCall.{FileCall}
use Rattle.ax_files.specs.declared.file_fault.FileCall.TheVariants.{Open, Lock, Length, Read, Write, Cut, Sync}
use Rattle.ax_files.specs.declared.file_fault.FileFault.{FileFault}
use Rattle.ax_files.specs.declared.file_fault.FileFault.TheVariants.{
  Call,
  Folder,
  Locked,
  Rootless,
  Foreign,
  Arealess,
  Bound,
  Detached,
  Stopped,
}

finding_error : (opens : Error → Type 0) (locks : TryLockError → Type 0) (fails : SystemCall → Error → Type 0)
    (call : FileCall) (error : Error) → IsFindingErrorOf opens locks call error → IsOpeningErrorOf opens locks fails call error
finding_error opens locks fails Open error is = is
finding_error opens locks fails Lock error is = is
finding_error opens locks fails Length error is = absurd is
finding_error opens locks fails Read error is = absurd is
finding_error opens locks fails Write error is = absurd is
finding_error opens locks fails Cut error is = absurd is
finding_error opens locks fails Sync error is = absurd is

pub cause_of_finding : (opens : Extent → Error → Type 0) (locks : Extent → TryLockError → Type 0)
    (fails : Extent → SystemCall → Error → Type 0) (syncs : Error → Type 0) (extent : Extent) (fault : FileFault)
    → IsOfFinding extent (opens extent) (locks extent) fault → HasOpeningCause opens locks fails syncs fault
cause_of_finding opens locks fails syncs extent (Call of call error) is =
    finding_error (opens of) (locks of) (fails of) call error
    (subst (λ (e : Extent). IsFindingErrorOf (opens e) (locks e) call error) (sym is.0) is.1)
cause_of_finding opens locks fails syncs extent (Folder error) is = absurd is
cause_of_finding opens locks fails syncs extent (Locked of) is =
    subst (λ (e : Extent). locks e WouldBlock) (sym is.0) is.1
cause_of_finding opens locks fails syncs extent (Rootless root area) is = tt
cause_of_finding opens locks fails syncs extent Foreign is = tt
cause_of_finding opens locks fails syncs extent (Arealess area) is = tt
cause_of_finding opens locks fails syncs extent (Bound of) is = absurd is
cause_of_finding opens locks fails syncs extent Detached is = absurd is
cause_of_finding opens locks fails syncs extent Stopped is = absurd is

judging_error : (opens : Error → Type 0) (locks : TryLockError → Type 0) (some all : SystemCall → Error → Type 0)
    → ((system_call : SystemCall) (error : Error) → some system_call error → all system_call error)
    → (call : FileCall) (error : Error) → IsOpeningErrorOf (λ _. ⊥) (λ _. ⊥) some call error
    → IsOpeningErrorOf opens locks all call error
judging_error opens locks some all along Open error is = absurd is
judging_error opens locks some all along Lock error is = absurd is
judging_error opens locks some all along Length error is = along SystemCall.Size error is
judging_error opens locks some all along Read error is = along SystemCall.ReadPiece error is
judging_error opens locks some all along Write error is = absurd is
judging_error opens locks some all along Cut error is = absurd is
judging_error opens locks some all along Sync error is = absurd is

cause_of_judging : (opens : Extent → Error → Type 0) (locks : Extent → TryLockError → Type 0)
    (some all : Extent → SystemCall → Error → Type 0) (syncs : Error → Type 0)
    → ((call : SystemCall) (error : Error) → some Root call error → all Root call error)
    → ((call : SystemCall) (error : Error) → some A call error → all A call error)
    → ((call : SystemCall) (error : Error) → some B call error → all B call error)
    → (fault : FileFault) → HasOpeningCause (λ _ _. ⊥) (λ _ _. ⊥) some (λ _. ⊥) fault
    → HasOpeningCause opens locks all syncs fault
cause_of_judging opens locks some all syncs root a b (Call Root call error) is =
    judging_error (opens Root) (locks Root) (some Root) (all Root) root call error is
cause_of_judging opens locks some all syncs root a b (Call A call error) is =
    judging_error (opens A) (locks A) (some A) (all A) a call error is
cause_of_judging opens locks some all syncs root a b (Call B call error) is =
    judging_error (opens B) (locks B) (some B) (all B) b call error is
cause_of_judging opens locks some all syncs root a b (Folder error) is = absurd is
cause_of_judging opens locks some all syncs root a b (Locked of) is = absurd is
cause_of_judging opens locks some all syncs root a b (Rootless state area) is = tt
cause_of_judging opens locks some all syncs root a b Foreign is = tt
cause_of_judging opens locks some all syncs root a b (Arealess area) is = tt
cause_of_judging opens locks some all syncs root a b (Bound of) is = absurd is
cause_of_judging opens locks some all syncs root a b Detached is = absurd is
cause_of_judging opens locks some all syncs root a b Stopped is = absurd is

-- a file that was found, and is seen by a reference, fails a call
found_fails : {F : Type 0} (IsOne : F → Type 0) (is_locked : F → Bool) (Fails : F → Type 0) (found : Option F)
    (seen : Option (Bor F)) → option_copied seen ≡ found → ForSome found (λ f. IsOne f × IsTrue (is_locked f))
    → IsSomeAnd seen (λ f. Fails f.now) → IsSoOfSome (λ f. IsOne f × IsTrue (is_locked f) × Fails f)
found_fails IsOne is_locked Fails found None same such fails = absurd fails
found_fails IsOne is_locked Fails found (Some file) same such fails =
    let is = such file.now (sym same) in record { file = file.now; is_so = (is.0, is.1, fails) }

-- why files that were found are not judged is why their store is not opened
pub cause_of_found : {F : Type 0} (opens : Extent → Error → Type 0) (locks : Extent → TryLockError → Type 0)
    (syncs : Error → Type 0) (is_of : F → Extent → Type 0) (is_locked : F → Bool)
    (fails : F → SystemCall → Error → Type 0) (root a b : Option F) (see_root see_a see_b : Option (Bor F))
    (fault : FileFault) → option_copied see_root ≡ root → option_copied see_a ≡ a → option_copied see_b ≡ b
    → ForSome root (λ f. is_of f Root × IsTrue (is_locked f)) → ForSome a (λ f. is_of f A × IsTrue (is_locked f))
    → ForSome b (λ f. is_of f B × IsTrue (is_locked f))
    → HasOpeningCause (λ _ _. ⊥) (λ _ _. ⊥)
    (λ extent call error. IsSomeAnd (at_extent extent see_root see_a see_b) (λ f. fails f.now call error)) (λ _. ⊥)
    fault
    → HasOpeningCause opens locks
    (λ extent call error. IsSoOfSome (λ f. is_of f extent × IsTrue (is_locked f) × fails f call error)) syncs fault
cause_of_found opens locks syncs is_of is_locked fails root a b see_root see_a see_b fault same_root same_a same_b root_is
    a_is b_is is =
    cause_of_judging opens locks
    (λ extent call error. IsSomeAnd (at_extent extent see_root see_a see_b) (λ f. fails f.now call error))
    (λ extent call error. IsSoOfSome (λ f. is_of f extent × IsTrue (is_locked f) × fails f call error)) syncs
    (λ call error.
    found_fails (λ f. is_of f Root) is_locked (λ f. fails f call error) root see_root same_root root_is)
    (λ call error. found_fails (λ f. is_of f A) is_locked (λ f. fails f call error) a see_a same_a a_is)
    (λ call error. found_fails (λ f. is_of f B) is_locked (λ f. fails f call error) b see_b same_b b_is) fault
    is

seen_is : {F : Type 0} (IsOne : F → Type 0) (file : Bor F) → IsOne file.now → ForSome (Some file.now) IsOne
seen_is {F} IsOne file is = λ f same.
    let own : file.now ≡ f = cc in subst IsOne own is

-- the same of files that are there
pub cause_of_made : {F : Type 0} (opens : Extent → Error → Type 0) (locks : Extent → TryLockError → Type 0)
    (syncs : Error → Type 0) (is_of : F → Extent → Type 0) (is_locked : F → Bool)
    (fails : F → SystemCall → Error → Type 0) (root a b : Bor F) (fault : FileFault)
    → is_of root.now Root × IsTrue (is_locked root.now) → is_of a.now A × IsTrue (is_locked a.now)
    → is_of b.now B × IsTrue (is_locked b.now)
    → HasOpeningCause (λ _ _. ⊥) (λ _ _. ⊥)
    (λ extent call error. IsSomeAnd (at_extent extent (Some root) (Some a) (Some b)) (λ f. fails f.now call error))
    (λ _. ⊥) fault
    → HasOpeningCause opens locks
    (λ extent call error. IsSoOfSome (λ f. is_of f extent × IsTrue (is_locked f) × fails f call error)) syncs fault
cause_of_made opens locks syncs is_of is_locked fails root a b fault root_is a_is b_is is =
    cause_of_found opens locks syncs is_of is_locked fails (Some root.now) (Some a.now) (Some b.now) (Some root) (Some a)
    (Some b) fault refl refl refl (seen_is (λ f. is_of f Root × IsTrue (is_locked f)) root root_is)
    (seen_is (λ f. is_of f A × IsTrue (is_locked f)) a a_is) (seen_is (λ f. is_of f B × IsTrue (is_locked f)) b b_is) is

-- what `?` passes on is the fault that it was given
pub passed_on : {T E : Type 0} (P : E → Type 0) (result : Result T E) (fault : E)
    → IsErrAnd result (λ passed. passed ≡ fault) → P fault → IfErr result P
passed_on P (Ok value) fault is so = absurd is
passed_on P (Err passed) fault is so = subst P (sym is) so

-- why files are not judged is why their store is not opened
pub judged_cause : (opens : Extent → Error → Type 0) (locks : Extent → TryLockError → Type 0)
    (fails : Extent → SystemCall → Error → Type 0) (syncs : Error → Type 0) (fault : FileFault)
    → HasOpeningCause (λ _ _. ⊥) (λ _ _. ⊥) fails (λ _. ⊥) fault → HasOpeningCause opens locks fails syncs fault
judged_cause opens locks fails syncs fault is =
    cause_of_judging opens locks fails fails syncs (λ call error is. is) (λ call error is. is) (λ call error is. is) fault is

pub judged_result : {T : Type 0} (opens : Extent → Error → Type 0) (locks : Extent → TryLockError → Type 0)
    (fails : Extent → SystemCall → Error → Type 0) (syncs : Error → Type 0) (result : Result T FileFault)
    → IfErr result (λ fault. HasOpeningCause (λ _ _. ⊥) (λ _ _. ⊥) fails (λ _. ⊥) fault)
    → IfErr result (λ fault. HasOpeningCause opens locks fails syncs fault)
judged_result opens locks fails syncs (Ok value) is = tt
judged_result opens locks fails syncs (Err fault) is = judged_cause opens locks fails syncs fault is

-- Files that were opened, and are attached, are such as opening says.
use Rattle.std.proofs.Common.{◌≡◌, Result, Ok, Err, OnOk, IfOk, IsOkAnd, sym, subst}
use Rattle.ax_files.specs.CountedFiles.{HasFilesThat}
use Rattle.ax_files.specs.declared.counted_files.State.{State}
use Rattle.ax_files.specs.declared.counted_files.State.TheVariants.{Attached}
use Rattle.ax_files.specs.declared.store_files.StoreFiles.{StoreFiles}

pub attached_that : {F : Type 0} {B : _} {T E D : Type 0} (AreSuch : StoreFiles F B → Type 0) (result : Result T D)
    (opened : Result (StoreFiles F B) E) (state : State F B)
    → OnOk result (IsOkAnd opened (λ files. state ≡ Attached files)) → IfOk opened AreSuch
    → OnOk result (HasFilesThat AreSuch state)
attached_that AreSuch (Ok done) (Ok files) state attached told = subst (HasFilesThat AreSuch) (sym attached) told
attached_that AreSuch (Ok done) (Err fault) state attached told = absurd attached
attached_that AreSuch (Err failed) opened state attached told = tt

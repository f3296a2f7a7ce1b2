-- One operation more in a log.
use Rattle.std.proofs.Common.{◌≡◌, ℕ, ◌+◌, Bool, true, false, IsTrue, if◌then◌else◌, List, [], ◌∷◌, ◌++◌, length, drop, refl, sym, ◌∙◌, ap, arith}
use Rattle.std.proofs.lemmas.Bool.{false≢true}
use Rattle.std.proofs.lemmas.List.{take-append-le, drop-append-le, length-drop, append-nil}
use Rattle.ax_disk.specs.declared.operation_head.OperationHead.{OperationHead}
use Rattle.ax_disk.specs.declared.operation_head.OperationHead.TheVariants.{Wrote, Cut, Synced}
use Rattle.ax_disk.specs.mem_disk.OperationHeads.{written_size, operations_of}
use Rattle.ax_disk.specs.mem_disk.OperationLog.{Operation, cut, synced}

pub written_size-append : (heads : List OperationHead) (operation : OperationHead)
    → written_size (heads ++ operation ∷ []) ≡ written_size heads + written_size (operation ∷ [])
written_size-append [] operation = omega arith
written_size-append (Wrote ext at size done ∷ heads) operation =
    omega (arith, written_size-append heads operation)
written_size-append (Cut ext len done ∷ heads) operation = written_size-append heads operation
written_size-append (Synced ∷ heads) operation = written_size-append heads operation

pub operations_of-append : (heads : List OperationHead) (operation : OperationHead)
    (bytes more : List ℕ) → written_size heads ≡ length bytes
    → operations_of (heads ++ operation ∷ []) (bytes ++ more) ≡ operations_of heads bytes
    ++ operations_of (operation ∷ []) more
operations_of-append [] operation [] more whole = refl
operations_of-append [] operation (b ∷ bytes) more whole = absurd (omega arith)
operations_of-append (Wrote ext at size done ∷ heads) operation bytes more whole =
    let prefix = take-append-le done bytes more (omega arith) in
    let back = drop-append-le done bytes more (omega arith) in
    let rest : written_size heads ≡ length (drop done bytes) =
    omega (arith, length-drop done bytes) in
    let tail = operations_of-append heads operation (drop done bytes) more rest in
    rw (prefix, back, tail) refl
operations_of-append (Cut ext len done ∷ heads) operation bytes more whole =
    ap (λ (operations : List Operation). cut ext len done ∷ operations)
    (operations_of-append heads operation bytes more whole)
operations_of-append (Synced ∷ heads) operation bytes more whole =
    ap (λ (operations : List Operation). synced ∷ operations)
    (operations_of-append heads operation bytes more whole)

-- a operation that writes no bytes
pub operations_of-push : (heads : List OperationHead) (operation : OperationHead) (bytes : List ℕ)
    → written_size heads ≡ length bytes
    → operations_of (heads ++ operation ∷ []) bytes ≡ operations_of heads bytes
    ++ operations_of (operation ∷ []) []
operations_of-push heads operation bytes whole =
    ap (λ (b : List ℕ). operations_of (heads ++ operation ∷ []) b) (sym (append-nil bytes))
    ∙ operations_of-append heads operation bytes [] whole

-- what was appended where there was room
pub with_room : (ok : Bool) (long short : List ℕ) → IsTrue ok → (if ok then long else short) ≡ long
with_room true long short is = refl
with_room false long short is = absurd (false≢true is)

-- What one operation more does to a history.
use Rattle.std.proofs.Common.{◌≡◌, ℕ, ◌+◌, List, [], ◌∷◌, ◌++◌, length, refl, sym, subst, arith, length-append}
use Rattle.std.proofs.lemmas.List.{take-append-le, take_all}
use Rattle.ax_disk.specs.model.Image.{Image}
use Rattle.ax_disk.specs.model.Pending.{Unsynced, MayLeave}
use Rattle.ax_disk.specs.model.Moments.{Elapses, IsCurrent}
use Rattle.ax_disk.specs.mem_disk.OperationLog.{Operation, State, synced_state, after_operation, after_operations, OperationLog, with_operation}
use Rattle.ax_disk.specs.mem_disk.OperationLog.{state_of, history_of}

pub after_one_more : (state : State) (operations : List Operation) (operation : Operation)
    → after_operations state (operations ++ operation ∷ [])
    ≡ after_operation operation (after_operations state operations)
after_one_more state [] operation = refl
after_one_more state (first ∷ operations) operation =
    after_one_more (after_operation first state) operations operation

abbrev unsynced_after : Image → List Operation → Unsynced
unsynced_after first operations = (after_operations (synced_state first) operations).unsynced

-- the images of the current moment are those that a crash now may leave
pub history_is_current : (log : OperationLog) → IsCurrent (history_of log)
history_is_current log image =
    let whole = take_all (length log.operations) log.operations (omega arith) in (
      λ left. subst
          (λ (d : List Operation). MayLeave (unsynced_after log.first d) image) whole left,
      λ may. subst (λ (d : List Operation). MayLeave (unsynced_after log.first d) image)
          (sym whole) may,
    )

-- one operation more is one moment more, which leaves what may be left after the operation
pub operation_elapses : (log : OperationLog) (operation : Operation) (P : ℕ → Image → Type 0)
    → ((image : Image) → MayLeave (after_operation operation (state_of log)).unsynced image
    → P (length log.operations + 1) image)
    → Elapses (history_of log) (history_of (with_operation operation log)) P
operation_elapses log operation P here =
    let operations = log.operations in
    let longer : length (operations ++ operation ∷ []) ≡ length operations + 1 =
    length-append operations (operation ∷ []) in
    record {
      later = omega (arith, longer);
      past = λ t image to.
          let same = take-append-le t operations (operation ∷ []) to in (
            λ left. subst
                (λ (d : List Operation). MayLeave (unsynced_after log.first d) image) same left,
            λ left. subst (λ (d : List Operation). MayLeave (unsynced_after log.first d) image)
                (sym same) left,
          );
      during = λ t image after to left.
          let last : length operations + 1 ≡ t = omega (arith, longer) in
          let whole = take_all t (operations ++ operation ∷ []) (omega (arith, longer)) in
          let all =
          subst
          (λ (d : List Operation). MayLeave (unsynced_after log.first d) image) whole left in
          let done =
          subst (λ (s : State). MayLeave s.unsynced image)
          (after_one_more (synced_state log.first) operations operation) all in
          subst (λ (n : ℕ). P n image) last (here image done);
    }

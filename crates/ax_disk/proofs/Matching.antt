-- What each operation keeps of a logged.
use Rattle.std.proofs.Common.{◌≡◌, ℕ, ◌+◌, ◌≤◌, true, false, List, [], length, take, refl, sym, ◌∙◌, ap, subst, arith}
use Rattle.std.proofs.lemmas.List.{length-take}
use Rattle.ax_disk.specs.declared.extent.Extent.{Extent}
use Rattle.ax_disk.specs.declared.extent.Extent.TheVariants.{Root, A, B}
use Rattle.ax_disk.specs.model.Image.{Image, list_of, with_list}
use Rattle.ax_disk.specs.model.Pending.{AreBytes, Unsynced, MayLeave, all_settled, after_write, after_cut}
use Rattle.ax_disk.specs.laws.PendingLaws.{settled_holds, all_settled_leaves, after_write_leaves, after_write_allows, after_cut_leaves}
use Rattle.ax_disk.specs.laws.PendingLaws.{after_cut_allows, length-overwritten}
use Rattle.ax_disk.specs.model.Calls.{overwritten}
use Rattle.ax_disk.specs.mem_disk.OperationLog.{Operation, wrote, cut, synced, State, synced_state, after_operation, OperationLog, with_operation, state_of}
use Rattle.ax_disk.specs.mem_disk.OperationLogLaws.{after_one_more}
use Rattle.ax_disk.specs.mem_disk.Lists.{IsOfBytes, greatest_length}
use Rattle.ax_disk.specs.mem_disk.ListsMatch.{last_synced, ListsMatch}

-- at first
match_new : (image : Image) → IsOfBytes image → ListsMatch (synced_state image) image image
match_new image fit =
    let may : MayLeave (all_settled image) image =
    record {
      root = settled_holds image.root fit.root;
      a = settled_holds image.a fit.a;
      b =
          settled_holds image.b fit.b;
    } in
    record { reads = refl; last_sync = refl; may_keep = may; may_lose = may }

last_synced_write : (ext : Extent) (at size : ℕ) (unsynced : Unsynced)
    → last_synced (after_write ext at size unsynced) ≡ last_synced unsynced
last_synced_write Root at size unsynced = refl
last_synced_write A at size unsynced = refl
last_synced_write B at size unsynced = refl

last_synced_cut : (ext : Extent) (len : ℕ) (unsynced : Unsynced)
    → last_synced (after_cut ext len unsynced) ≡ last_synced unsynced
last_synced_cut Root len unsynced = refl
last_synced_cut A len unsynced = refl
last_synced_cut B len unsynced = refl

added : (log : OperationLog) (operation : Operation) (current stable : Image)
    → ListsMatch (after_operation operation (state_of log)) current stable
    → ListsMatch (state_of (with_operation operation log)) current stable
added log operation current stable is =
    subst (λ (s : State). ListsMatch s current stable)
    (sym (after_one_more (synced_state log.first) log.operations operation)) is

pub match_write : (log : OperationLog) (current stable : Image) (ext : Extent) (at size : ℕ)
    (bytes : List ℕ) → ListsMatch (state_of log) current stable → at ≤ length (list_of ext current)
    → length bytes ≤ size → AreBytes bytes
    → ListsMatch (state_of (with_operation (wrote ext at size bytes) log))
    (with_list ext (overwritten (list_of ext current) at bytes) current) stable
match_write log current stable ext at size bytes was within short fit =
    added log (wrote ext at size bytes)
    (with_list ext (overwritten (list_of ext current) at bytes) current) stable (record {
      reads =
          ap (λ (image : Image). with_list ext
          (overwritten (list_of ext image) at bytes) image) was.reads;
      last_sync = last_synced_write ext at size (state_of log).unsynced ∙ was.last_sync;
      may_keep =
          after_write_leaves ext
          (state_of log).unsynced current at bytes size was.may_keep within short fit;
      may_lose = after_write_allows ext (state_of log).unsynced at size stable was.may_lose;
    })

pub match_cut : (log : OperationLog) (current stable : Image) (ext : Extent) (len : ℕ)
    → ListsMatch (state_of log) current stable
    → ListsMatch (state_of (with_operation (cut ext len true) log))
    (with_list ext (take len (list_of ext current)) current) stable
match_cut log current stable ext len was =
    added log (cut ext len true) (with_list ext (take len (list_of ext current)) current) stable
    (record {
      reads = ap (λ (image : Image). with_list ext (take len (list_of ext image)) image) was.reads;
      last_sync = last_synced_cut ext len (state_of log).unsynced ∙ was.last_sync;
      may_keep = after_cut_leaves ext (state_of log).unsynced current len was.may_keep;
      may_lose = after_cut_allows ext (state_of log).unsynced len stable was.may_lose;
    })

-- a cut that failed
pub match_no_cut : (log : OperationLog) (current stable : Image) (ext : Extent) (len : ℕ)
    → ListsMatch (state_of log) current stable
    → ListsMatch (state_of (with_operation (cut ext len false) log)) current stable
match_no_cut log current stable ext len was =
    added log (cut ext len false) current stable (record {
      reads = was.reads;
      last_sync = last_synced_cut ext len (state_of log).unsynced ∙ was.last_sync;
      may_keep = after_cut_allows ext (state_of log).unsynced len current was.may_keep;
      may_lose = after_cut_allows ext (state_of log).unsynced len stable was.may_lose;
    })

pub match_sync : (log : OperationLog) (current stable : Image)
    → ListsMatch (state_of log) current stable
    → ListsMatch (state_of (with_operation synced log)) current current
match_sync log current stable was =
    let may : MayLeave (all_settled (state_of log).reads) current =
    subst (λ (image : Image). MayLeave (all_settled image) current) (sym was.reads)
    (all_settled_leaves (state_of log).unsynced current was.may_keep) in
    added log synced current current
    (record { reads = was.reads; last_sync = was.reads; may_keep = may; may_lose = may })

-- how long the lists are after a write
pub longest_after_write : (ext : Extent) (image : Image) (at : ℕ) (bytes : List ℕ) (size : ℕ)
    → at ≤ length (list_of ext image) → length bytes ≤ size
    → greatest_length
    (with_list ext (overwritten (list_of ext image) at bytes) image) ≤ greatest_length image + size
longest_after_write Root image at bytes size within short =
    omega (arith, length-overwritten image.root at bytes within)
longest_after_write A image at bytes size within short =
    omega (arith, length-overwritten image.a at bytes within)
longest_after_write B image at bytes size within short =
    omega (arith, length-overwritten image.b at bytes within)

pub list_not_longer : (ext : Extent) (image : Image)
    → length (list_of ext image) ≤ greatest_length image
list_not_longer Root image = omega arith
list_not_longer A image = omega arith
list_not_longer B image = omega arith

-- a cut makes no list longer
pub longest_after_cut : (ext : Extent) (image : Image) (len : ℕ)
    → greatest_length (with_list ext (take len (list_of ext image)) image) ≤ greatest_length image
longest_after_cut Root image len = omega (arith, length-take len image.root)
longest_after_cut A image len = omega (arith, length-take len image.a)
longest_after_cut B image len = omega (arith, length-take len image.b)

-- the same facts of equal values
pub match_as : (first : Image) (operations operations' : List Operation)
    (current current' stable stable' : Image) → operations ≡ operations' → current ≡ current'
    → stable ≡ stable'
    → ListsMatch (state_of (record { first = first; operations = operations' })) current' stable'
    → ListsMatch (state_of (record { first = first; operations = operations })) current stable
match_as first operations operations' current current' stable stable' d c s is =
    subst
    (λ (l : List Operation). ListsMatch
    (state_of (record { first = first; operations = l })) current stable) (sym d)
    (subst
    (λ (i : Image). ListsMatch
    (state_of (record { first = first; operations = operations' })) i stable) (sym c)
    (subst
    (λ (i : Image). ListsMatch
    (state_of (record { first = first; operations = operations' })) current' i) (sym s) is))

-- lists that are all synced, with nothing done to them
pub match_anew : (image first current stable : Image) (operations : List Operation)
    → IsOfBytes image → operations ≡ [] → first ≡ image → current ≡ image → stable ≡ image
    → ListsMatch (state_of (record { first = first; operations = operations })) current stable
match_anew image first current stable operations fit d f c s =
    match_as first operations [] current image stable image d c s
    (subst (λ (i : Image). ListsMatch (synced_state i) image image) (sym f) (match_new image fit))

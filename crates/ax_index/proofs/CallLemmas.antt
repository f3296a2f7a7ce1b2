-- What calls of a plan answer, told of plans.
use Rattle.std.proofs.Common.{◌≡◌, ℕ, ◌+◌, ◌<◌, ◌≤◌, List, [], ◌∷◌, ◌++◌, length, take, drop, arith}
use Rattle.std.proofs.Common.{refl, sym, ap, ◌∙◌, subst, Bool, true, false, Option, Result, Ok, Err}
use Rattle.std.specs.Option.{unwrap_or}
use Rattle.ax_faults.specs.Faults.{Rose}
use Rattle.ax_frame.specs.Part.{PartValue}
use Rattle.ax_pair.specs.declared.pair.Pair.{Pair}
use Rattle.ax_pair.specs.Order.{Rise}
use Rattle.ax_delta.specs.declared.change.Change.{Change}
use Rattle.ax_delta.specs.Changes.{TermChange, changed_pairs, term_changes_of}
use Rattle.ax_delta.specs.Merge.{IsMerge}
use Rattle.ax_delta.specs.Payload.{IsDelta}
use Rattle.ax_delta.specs.Said.{has, said_by, said_of}
use Rattle.ax_delta.proofs.OneList.{one_delta}
use Rattle.ax_delta.proofs.SameChanges.{said_alike}
use Rattle.ax_area.specs.Contents.{Contents}
use Rattle.ax_pages.specs.Contents.{TermPage, term_page}
use Rattle.ax_pages.specs.TermPages.{low_pair}
use Rattle.ax_pairs.specs.Index.{AllBelong}
use Rattle.ax_pairs.specs.PagePairs.{HasPairs}
use Rattle.std.specs.Prelude.{IfErr, IfOk, OnOk, IsTrue}
use Rattle.ax_store.specs.declared.fault.StoreFault.{StoreFault}
use Rattle.ax_store.specs.declared.fault.StoreFault.TheVariants.{Memory}
use Rattle.ax_store.specs.Faults.{IsDiskFault, FailsByDisk, UnlessDisk, unless_disk, HasDiskCause}
use Rattle.ax_store.specs.declared.store.Store.{Store}
use Rattle.ax_store.specs.Kept.{deltas_of}
use Rattle.ax_index.specs.DeltaRuns.{AreCarried}
use Rattle.ax_index.specs.Grammar.{IsInGrammar}
use Rattle.ax_index.specs.Planning.{IsFirstOf, IsPartedAt, IsPlannedTo, IsUpTo, IsPagePlanned}
use Rattle.ax_index.specs.Plans.{HasNoDeltas, SameButRoomAndBytes}
use Rattle.ax_index.specs.Rewriting.{IsRewritten}
use Rattle.ax_index.specs.Damage.{FailsBy, FailsWith, TellsPart}
use Rattle.ax_index.proofs.Lists.{deltas_more}
use Rattle.ax_index.proofs.Unmoved.{told_from}
use Rattle.ax_log.specs.Log.{log_area}
use Rattle.ax_index.proofs.PutLemmas.{rise_parted}
use Rattle.ax_index.proofs.PlanningLemmas.{all_now, as_number, done_by_bases, done_by_deltas, planned_more, planned_none, run_belongs}

-- ---- merging changes

pub merged_said : (pairs after : List Pair) (changes : List Change) (delta : List TermChange) (bytes payload : List ℕ) → IsMerge pairs delta after
    → IsDelta bytes delta
    → IsDelta payload (term_changes_of changes) → bytes ≡ payload → Rise (changed_pairs changes) → (p : Pair)
    → has p after ≡ unwrap_or (said_by p changes) (has p pairs)
merged_said pairs after changes delta bytes payload is of_bytes of_changes same up p =
    let one : delta ≡ term_changes_of changes = one_delta payload delta (term_changes_of changes)
    (subst (λ (bs : List ℕ). IsDelta bs delta) same of_bytes) of_changes in
    is.holds p ∙ ap (λ (changed : List TermChange). unwrap_or (said_of p changed) (has p pairs)) one
    ∙ ap (λ (said : Option Bool). unwrap_or said (has p pairs)) (said_alike changes p up)

-- ---- one page

pub planned_by_bases : {honest : Bool} (page : ℕ) (changes : List Change) (before now : List TermPage) (earlier old new : List PartValue)
    (next later : ℕ) (pairs list : List Pair) → page < length before
    → IsUpTo (low_pair page before) before now earlier → next ≡ length now → Rise (changed_pairs changes) → AllBelong (changed_pairs changes) page before
    → AllBelong list page before → (IsTrue honest → (some : List Pair) → HasPairs (term_page page before) some → (p : Pair) → has p pairs ≡ has p some)
    → ((p : Pair) → has p list ≡ unwrap_or (said_by p changes) (has p pairs))
    → (page < length now → low_pair page now ≡ low_pair page before → AllBelong list page now → IsRewritten page list now later old new)
    → IsPagePlanned honest page changes before now true later (λ number. 0) old new
planned_by_bases page changes before now earlier old new next later pairs list there up next_is rise belong of_page has_pairs made rewritten =
    let is : IsRewritten page list now later old new = rewritten (omega (arith, up.longer)) (up.lows page there)
    (all_now before now earlier list page up of_page) in
    record {
      parts = is.parts;
      added = is.added;
      after = is.after;
      done = done_by_bases page changes before now is.after is.parts earlier pairs list there up rise
          (all_now before now earlier (changed_pairs changes) page up belong) of_page has_pairs
          made is.rewrites;
      next_is = is.next_is;
      enough = omega (arith, is.rewrites.no_deltas page);
    }

pub planned_by_deltas : {honest : Bool} (page : ℕ) (changes : List Change) (before now : List TermPage) (earlier old new : List PartValue)
    (next least : ℕ) (room : ℕ → ℕ) → page < length before
    → IsUpTo (low_pair page before) before now earlier → next ≡ length now → AllBelong (changed_pairs changes) page before → least ≡ room page
    → (page < length now → AreCarried page changes now least old new) → IsPagePlanned honest page changes before now false next room old new
planned_by_deltas page changes before now earlier old new next least room there up next_is belong room_is carried =
    let is : AreCarried page changes now least old new = carried (omega (arith, up.longer)) in
    record {
      parts = is.put.parts;
      added = is.put.added;
      after = is.put.after;
      done = done_by_deltas page changes before now is.put.after is.put.parts
          (all_now before now earlier (changed_pairs changes) page up belong) there is.put.carry
          (λ more. is.few (omega (arith, more, is.put.counted)));
      next_is = next_is ∙ sym is.put.carry.lows.many;
      enough = omega (arith, is.enough, is.put.counted, room_is);
    }

pub with_room : {honest : Bool} (page : ℕ) (changes : List Change) (before now : List TermPage) (merged : Bool) (next : ℕ) (old new : List PartValue)
    (room : ℕ → ℕ)
    → IsPagePlanned honest page changes before now merged next (λ number. 0) old new → IsPagePlanned honest page changes before now merged next room old new
with_room page changes before now merged next old new room is = record {
  parts = is.parts;
  added = is.added;
  after = is.after;
  done = is.done;
  next_is = is.next_is;
  enough = omega (arith, is.enough);
}

-- what is planned over the term pages of one store is so over the same pages of another
pub planned_there : {honest : Bool} (page : ℕ) (changes : List Change) (now : List TermPage) (earlier old new : List PartValue) (next later : ℕ)
    (pairs : List Pair) (here there : List TermPage) → here ≡ there
    → (IsUpTo (low_pair page here) here now earlier → next ≡ length now → AllBelong (changed_pairs changes) page here
    → (IsTrue honest → (some : List Pair) → HasPairs (term_page page here) some → (p : Pair) → has p pairs ≡ has p some)
    → IsPagePlanned honest page changes here now true later (λ number. 0) old new)
    → IsUpTo (low_pair page there) there now earlier → next ≡ length now → AllBelong (changed_pairs changes) page there
    → (IsTrue honest → (some : List Pair) → HasPairs (term_page page there) some → (p : Pair) → has p pairs ≡ has p some)
    → IsPagePlanned honest page changes there now true later (λ number. 0) old new
planned_there {honest = honest} page changes now earlier old new next later pairs here there same planned =
    subst
    (λ (terms : List TermPage). IsUpTo (low_pair page terms) terms now earlier → next ≡ length now → AllBelong (changed_pairs changes) page terms
    → (IsTrue honest → (some : List Pair) → HasPairs (term_page page terms) some → (p : Pair) → has p pairs ≡ has p some)
    → IsPagePlanned honest page changes terms now true later (λ number. 0) old new)
    same planned

pub deltas_planned : (honest : Bool) (result : Result Bool StoreFault) (page : ℕ) (changes : List Change) (before now : List TermPage)
    (earlier old here new : List PartValue) (next later least : ℕ) (room : ℕ → ℕ)
    → page < length before → IsUpTo (low_pair page before) before now earlier → next ≡ length now → AllBelong (changed_pairs changes) page before
    → here ≡ old → later ≡ next
    → least ≡ room page → (page < length now → OnOk result (AreCarried page changes now least here new)) → IfOk result (λ merged. merged ≡ false)
    → IfOk result (λ merged. IsPagePlanned honest page changes before now merged later room old new)
deltas_planned honest
    (Ok merged) page changes before now earlier old here new next later least room there up next_is belong same later_is room_is carried none =
    subst (λ (m : Bool). IsPagePlanned honest page changes before now m later room old new) (sym none)
    (subst (λ (n : ℕ). IsPagePlanned honest page changes before now false n room old new) (sym later_is)
    (subst (λ (ps : List PartValue). IsPagePlanned honest page changes before now false next room ps new) same
    (planned_by_deltas page changes before now earlier here new next least room there up next_is belong room_is carried)))
deltas_planned honest
    (Err fault) page changes before now earlier old here new next later least room there up next_is belong same later_is room_is carried none = tt

-- want of memory is no failure of the disk
not_by_disk : {T : Type 0} (result : Result T StoreFault) → IfErr result (λ fault. fault ≡ Memory) → FailsByDisk result → ⊥
not_by_disk (Ok value) is fails = fails
not_by_disk (Err fault) is fails = subst IsDiskFault is fails

unless_memory : {T : Type 0} (result : Result T StoreFault) (before now : ℕ) → IfErr result (λ fault. fault ≡ Memory) → now ≡ before
    → UnlessDisk result (now ≡ before)
unless_memory (Ok value) before now is same = same
unless_memory (Err fault) before now is same = subst (λ (f : StoreFault). unless_disk f (now ≡ before)) (sym is) same

pub no_disk_fault : {T U : Type 0} (result : Result T StoreFault) (earlier : U) (before now : ℕ) → IfErr result (λ fault. fault ≡ Memory)
    → HasDiskCause {T = U} (Ok earlier) before now → HasDiskCause result before now
no_disk_fault result earlier before now memory cause = record {
  never_falls = cause.never_falls;
  failed = λ fails. absurd (not_by_disk result memory fails);
  uncounted = unless_memory result before now memory cause.uncounted;
}

-- and leaves the store as it was
pub no_failure : {T : Type 0} (result : Result T StoreFault) (before after : Bool) → IfErr result (λ fault. fault ≡ Memory) → after ≡ before
    → FailsBy result before after
no_failure (Ok value) before after memory same = same
no_failure (Err fault) before after memory same = let P : StoreFault → Type 0 = λ f. FailsWith f before after in subst P (sym memory) same

-- the same fault, of a call that began earlier, when the count was the same
pub cause_later : {T U : Type 0} (fault : StoreFault) (before mid now : ℕ) → mid ≡ before → HasDiskCause {T = T} (Err fault) mid now
    → HasDiskCause {T = U} (Err fault) before now
cause_later fault before mid now same cause = record {
  never_falls = subst (λ (n : ℕ). n ≤ now) same cause.never_falls;
  failed = λ fails. subst (λ (n : ℕ). Rose n now) same (cause.failed fails);
  uncounted = subst (λ (n : ℕ). unless_disk fault (now ≡ n)) same cause.uncounted;
}

-- what a fault does to the store, told of a store that had failed as much
pub fails_as : (fault : StoreFault) (before mid after : Bool) → mid ≡ before → FailsWith fault mid after → FailsWith fault before after
fails_as fault before mid after same fails = subst (λ (b : Bool). FailsWith fault b after) same fails

-- ---- the first page of those that changes are of

pub parted_there : (page n : ℕ) (changes run behind : List Change) (pages : List TermPage) → run ≡ take n changes → behind ≡ drop n changes
    → IsPartedAt page (take n changes) (drop n changes) pages → IsPartedAt page run behind pages
parted_there page n changes run behind pages front back parted =
    subst (λ (r : List Change). IsPartedAt page r behind pages) (sym front)
    (subst (λ (b : List Change). IsPartedAt page (take n changes) b pages) (sym back) parted)

pub first_there : (changes : List Change) (page : ℕ) (pages : List TermPage) → IsFirstOf changes page pages → page < length pages
first_there [] page pages first = absurd first
first_there (change ∷ changes) page pages first = first.there

run_all_belong : (pages : List TermPage) (page : ℕ) (changes run behind : List Change) → changes ≡ run ++ behind → 0 < length run → IsFirstOf changes page pages
    → Rise (changed_pairs changes) → IsPartedAt page run behind pages → AllBelong (changed_pairs run) page pages
run_all_belong pages page changes [] behind whole some first rise parted = absurd (omega arith)
run_all_belong pages page changes (change ∷ run) behind whole some first rise parted =
    run_belongs pages page change run behind (subst (λ (all : List Change). IsFirstOf all page pages) whole first)
    (rise_parted changes (change ∷ run) behind whole rise).0 parted

pub first_planned : {honest : Bool} (all changes run behind : List Change) (before : List TermPage) (merged next later extra : ℕ) (room more : ℕ → ℕ)
    (old here new : List PartValue) (page : ℕ) (is_merged : Bool)
    → changes ≡ run ++ behind → 0 < length run → Rise (changed_pairs changes) → IsFirstOf changes page before → IsPartedAt page run behind before
    → extra ≡ as_number is_merged → IsPlannedTo honest all changes before merged next room old here → ((number : ℕ) → room number ≤ more number)
    → (is_merged ≡ true → IsTrue honest → IsInGrammar (term_page page before))
    → ((now : List TermPage) (earlier : List PartValue) → IsUpTo (low_pair page before) before now earlier → next ≡ length now
    → AllBelong (changed_pairs run) page before
    → IsPagePlanned honest page run before now is_merged later more here new)
    → IsPlannedTo honest all behind before (merged + extra) later more old new
first_planned {honest = honest} all changes run behind before merged next later extra room more old here new page is_merged whole some rise first parted
    extra_is is never_less met planned =
    let mine : IsPlannedTo honest all (run ++ behind) before merged next room old here =
    subst (λ (left : List Change). IsPlannedTo honest all left before merged next room old here) whole is
    in
    let up : IsUpTo (low_pair page before) before mine.now mine.parts =
    mine.ready page (subst (λ (left : List Change). IsFirstOf left page before) whole first) in
    subst (λ (n : ℕ). IsPlannedTo honest all behind before (merged + n) later more old new) (sym extra_is)
    (planned_more all run behind before merged next room more old here new page is_merged later mine up (first_there changes page before first)
    (subst (λ (left : List Change). IsFirstOf left page before) whole first) some
    (run_all_belong before page changes run behind whole some first rise parted) (rise_parted changes run behind whole rise).0 parted
    (planned mine.now mine.parts up mine.next_is (run_all_belong before page changes run behind whole some first rise parted)) never_less met)

-- ---- stores

pub same_then : {C : Type 0} (old mid new : Store C) → SameButRoomAndBytes old mid → SameButRoomAndBytes mid new → SameButRoomAndBytes old new
same_then old mid new one other = record {
  logged = other.logged ∙ one.logged;
  contents = other.contents ∙ one.contents;
  offsets = other.offsets ∙ one.offsets;
  taken = other.taken ∙ one.taken;
}

-- the room that parts need that stand behind those with no deltas
pub room_for_all : (old parts new : List PartValue) (room : ℕ → ℕ) → HasNoDeltas old → new ≡ old ++ parts → ((n : ℕ) → deltas_of n parts ≤ room n)
    → (n : ℕ) → deltas_of n new ≤ room n
room_for_all old parts new room none added enough n =
    subst (λ (all : List PartValue). deltas_of n all ≤ room n) (sym added) (omega (arith, deltas_more n old parts, none n, enough n))

pub same_itself : {C : Type 0} (store : Store C) → SameButRoomAndBytes store store
same_itself store = record { logged = refl; contents = refl; offsets = refl; taken = refl }

pub told_planned : {C : Type 0} (old new : Store C) (fault : StoreFault) → SameButRoomAndBytes old new → TellsPart new fault → TellsPart old fault
told_planned old new fault same = told_from old new fault (ap (λ (contents : Contents). contents.terms) same.contents) same.offsets (ap log_area same.logged)

-- ---- the loop over pages

pub planned_begin : {honest : Bool} (changes : List Change) (before : List TermPage) (next : ℕ) (room : ℕ → ℕ) (old : List PartValue) → next ≡ length before
    → IsPlannedTo honest changes changes before 0 next room old old
planned_begin {honest = honest} changes before next room old next_is =
    subst (λ (n : ℕ). IsPlannedTo honest changes changes before 0 n room old old) (sym next_is) (planned_none changes before room old)

pub planned_on : (now then : Bool) (changes rest behind : List Change) (here there : List TermPage) (merged more next later : ℕ) (room grown : ℕ → ℕ)
    (old mid new : List PartValue)
    → now ≡ then → here ≡ there
    → (IsPlannedTo now changes rest here merged next room old mid → IsPlannedTo now changes behind here more later grown old new)
    → IsPlannedTo then changes rest there merged next room old mid → IsPlannedTo then changes behind there more later grown old new
planned_on now then changes rest behind here there merged more next later room grown old mid new alike same step =
    subst
    (λ (told : Bool). IsPlannedTo told changes rest there merged next room old mid → IsPlannedTo told changes behind there more later grown old new)
    alike
    (subst
    (λ (terms : List TermPage). IsPlannedTo now changes rest terms merged next room old mid → IsPlannedTo now changes behind terms more later grown old new)
    same step)

pub planned_end : {honest : Bool} (changes rest : List Change) (before : List TermPage) (merged next : ℕ) (room : ℕ → ℕ) (old new : List PartValue)
    → IsPlannedTo honest changes rest before merged next room old new
    → length rest ≤ 0 → IsPlannedTo honest changes [] before merged next room old new
planned_end changes [] before merged next room old new is none = is
planned_end changes (change ∷ rest) before merged next room old new is none = absurd (omega arith)

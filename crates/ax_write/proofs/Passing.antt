-- One call after another: a look-up and then one more call leave what the two leave together, since the look-up only reads.
use Rattle.std.proofs.Common.{◌≡◌, ◌⊎◌, inl, inr, ℕ, Bool, false, true, List, Some, Result, Ok, Err, sym, ap, subst, ◌∙◌, arith}
use Rattle.std.specs.Prelude.{IfErr, IsTrue, slice_index_or}
use Rattle.std.specs.FinMap as finite
use Rattle.ax_area.specs.Contents.{Contents}
use Rattle.ax_area.specs.Image.{Says}
use Rattle.ax_cache.specs.Pages.{CachedPages}
use Rattle.ax_container.specs.Container.{Container}
use Rattle.ax_container.specs.Writes.{WriteRefusal}
use Rattle.ax_disk.specs.laws.StaysLaws.{idles_rest, idles_stay, rests_weaken, stays_join, stays_turn}
use Rattle.ax_disk.specs.model.Calls.{Idles}
use Rattle.ax_disk.specs.model.Moments.{History}
use Rattle.ax_disk.specs.model.Stays.{Rests, Stays, Turns}
use Rattle.ax_image.specs.Readable.{SaysReadable, newest}
use Rattle.ax_image_pairs.specs.Indexed.{ContentsHoldAll, HasAll}
use Rattle.ax_index.proofs.Unmoved.{same_contents, same_offsets, told_back}
use Rattle.ax_index.specs.Damage.{FailsBy}
use Rattle.ax_index.specs.Reads.{KeepsTaken, Reads}
use Rattle.ax_log.specs.Log.{log_area}
use Rattle.ax_pages.specs.Area.{extent_number}
use Rattle.ax_pairs.specs.Index.{IsIndex}
use Rattle.ax_pool.specs.Frames.{Frames}
use Rattle.ax_store.proofs.StoreLemmas.{agrees_says}
use Rattle.ax_store.specs.Faults.{HasDiskCause}
use Rattle.ax_store.specs.Kept.{PageOffsets}
use Rattle.ax_store.specs.Store.{Agrees, SameButReads, store_area, store_contents, store_failed, store_offsets, store_slots}
use Rattle.ax_store.specs.declared.fault.StoreFault.{StoreFault}
use Rattle.ax_store.specs.declared.fault.StoreFault.TheVariants as store_fault
use Rattle.ax_store.specs.declared.store.Store.{Store}
use Rattle.ax_write.proofs.Calls.{on_err}
use Rattle.ax_write.proofs.FoundNumbers.{undamaged}
use Rattle.ax_write.proofs.Idling.{idles_behind, idles_of}
use Rattle.ax_write.specs.Held.{HasNone}
use Rattle.ax_write.specs.Writes.{HoldsAll, IsKept, Looks, TellsDamage, TellsWrite, WriteLeaves, left_by, of_store}
use Rattle.ax_write.specs.declared.fault.WriteFault.{WriteFault}
use Rattle.ax_write.specs.declared.fault.WriteFault.TheVariants as fault

-- ---- faults of one call and another

-- why a call of another kind failed alike
cause_alike : {A B : Type 0} (why : StoreFault) (earlier later : ℕ) → HasDiskCause {T = A} (Err why) earlier later
    → HasDiskCause {T = B} (Err why) earlier later
cause_alike why earlier later cause = record { never_falls = cause.never_falls; failed = cause.failed; uncounted = cause.uncounted }

-- a call that did not fail counted none
none_counted : {A B : Type 0} (value : A) (other : B) (earlier later : ℕ) → HasDiskCause {T = A} (Ok value) earlier later
    → HasDiskCause {T = B} (Ok other) earlier later
none_counted value other earlier later cause =
    record { never_falls = cause.never_falls; failed = λ none. absurd none; uncounted = cause.uncounted }

cause_behind : {A B : Type 0} (value : A) (result : Result B StoreFault) (earlier mid later : ℕ) → HasDiskCause {T = A} (Ok value) earlier mid
    → HasDiskCause result mid later → HasDiskCause result earlier later
cause_behind value result earlier mid later first second =
    subst (λ count. HasDiskCause result count later) first.uncounted second

-- ---- what is damaged before is so behind a call that reads

module _ {C : Type 0} (old new : Store C) (same : SameButReads old new) where
  same_area : store_area new ≡ store_area old
  same_area = ap log_area same.logged

  placed_back : (number extent at : ℕ)
      → (extent ≡ extent_number (store_area new)) × (finite.get (store_offsets new).documents number ≡ Some at)
      → (extent ≡ extent_number (store_area old)) × (finite.get (store_offsets old).documents number ≡ Some at)
  placed_back number extent at placed = (
    placed.0 ∙ ap extent_number same_area,
    subst (λ (offsets : PageOffsets). finite.get offsets.documents number ≡ Some at) (same_offsets old new same) placed.1,
  )

  none_back : (number : ℕ) → HasNone (finite.get (store_contents new).documents number)
      → HasNone (finite.get (store_contents old).documents number)
  none_back number none =
      subst (λ (contents : Contents). HasNone (finite.get contents.documents number)) (same_contents old new same) none

  damage_back : (why : StoreFault) → TellsDamage new why → TellsDamage old why
  damage_back store_fault.Disk told = tt
  damage_back (store_fault.Damaged extent at) (inl text) = inl (record {
    number = text.number;
    placed = placed_back text.number extent at text.placed;
    none = none_back text.number text.none;
  })
  damage_back (store_fault.Damaged extent at) (inr part) = inr (told_back old new (store_fault.Damaged extent at) same part)
  damage_back (store_fault.Newer version) told = told
  damage_back store_fault.Memory told = tt

  errors_back : {T : Type 0} (result : Result T StoreFault) → IfErr result (TellsDamage new) → IfErr result (TellsDamage old)
  errors_back (Ok value) told = tt
  errors_back (Err why) told = damage_back why told

-- the bytes of slots that others have
keeps_then : (old mid new : Frames) → mid.taken ≡ old.taken → KeepsTaken old mid → KeepsTaken mid new → KeepsTaken old new
keeps_then old mid new same first second number taken =
    second number (subst (λ (t : List Bool). slice_index_or t number false ≡ true) (sym same) taken) ∙ first number taken

-- ---- a write, and the look-up before it

module _ {C : Type 0} (pages : C → CachedPages) (honest : Bool) where
  -- it ends with the look-up
  module _ (old new : Store C) (before after : History) (earlier later : ℕ) where
    reads_readable : Reads pages honest old new before after earlier later → IsTrue honest → Rests before SaysReadable
        → Stays before after SaysReadable
    reads_readable reads trusted rests = idles_stay before after SaysReadable rests (reads.lists trusted)

    pub leaves_failed : {T : Type 0} (why : StoreFault) → Looks {T = T} pages honest (Err why) old new before after earlier later
        → WriteLeaves pages honest (Err (fault.Store why)) old new before after earlier later
    leaves_failed why looks = record {
      told = looks.told;
      kept = same_contents old new looks.reads.same.same;
      idle = λ trusted. idles_of before after (looks.reads.lists trusted) why;
      readable = λ trusted works set index rests. reads_readable looks.reads trusted rests;
      fails = looks.fails;
      agrees = looks.reads.agrees;
      slots = looks.reads.same.taken;
      others = looks.others;
      area = same_area old new looks.reads.same.same;
      cause = λ works. cause_alike why earlier later (looks.cause works);
      never_falls = looks.reads.never_falls;
    }

    -- it is refused by what was found
    module _ {T : Type 0} (value : T) (looks : Looks pages honest (Ok value) old new before after earlier later) where
      pub leaves_conflict : WriteLeaves pages honest (Err fault.Conflict) old new before after earlier later
      leaves_conflict = record {
        told = λ trusted. tt;
        kept = same_contents old new looks.reads.same.same;
        idle = looks.reads.lists;
        readable = λ trusted works set index rests. reads_readable looks.reads trusted rests;
        fails = looks.fails;
        agrees = looks.reads.agrees;
        slots = looks.reads.same.taken;
        others = looks.others;
        area = same_area old new looks.reads.same.same;
        cause = λ works. none_counted value tt earlier later (looks.cause works);
        never_falls = looks.reads.never_falls;
      }

      pub leaves_absent : WriteLeaves pages honest (Err fault.Absent) old new before after earlier later
      leaves_absent = record {
        told = λ trusted. tt;
        kept = same_contents old new looks.reads.same.same;
        idle = looks.reads.lists;
        readable = λ trusted works set index rests. reads_readable looks.reads trusted rests;
        fails = looks.fails;
        agrees = looks.reads.agrees;
        slots = looks.reads.same.taken;
        others = looks.others;
        area = same_area old new looks.reads.same.same;
        cause = λ works. none_counted value tt earlier later (looks.cause works);
        never_falls = looks.reads.never_falls;
      }

  -- it goes on behind it
  pub leaves_then : {T : Type 0} (value : T) (then : Bool) (same : then ≡ honest) (result : Result (Unit {0}) WriteFault) (old mid new : Store C)
      (before between after : History) (earlier middle later : ℕ)
      → Looks pages honest (Ok value) old mid before between earlier middle
      → WriteLeaves pages then result mid new between after middle later → WriteLeaves pages honest result old new before after earlier later
  leaves_then value then same result old mid new before between after earlier middle later looks leaves =
      let contents : store_contents mid ≡ store_contents old = same_contents old mid looks.reads.same.same in
      record {
        told = λ trusted. errors_back old mid looks.reads.same.same (of_store result) (leaves.told (subst IsTrue (sym same) trusted));
        kept = on_err result (λ kept. kept ∙ contents) leaves.kept;
        idle = λ trusted.
            idles_behind before between after (looks.reads.lists trusted) result (leaves.idle (subst IsTrue (sym same) trusted));
        readable = λ trusted works set index rests.
            stays_join before between after SaysReadable (idles_stay before between SaysReadable rests (looks.reads.lists trusted))
            (leaves.readable (subst IsTrue (sym same) trusted) (looks.fails ∙ works) set
            (subst (λ (c : Contents). IsIndex c.terms set) (sym contents) index)
            (idles_rest before between SaysReadable rests (looks.reads.lists trusted)));
        fails = subst (λ was. FailsBy (of_store result) was (store_failed new)) looks.fails leaves.fails;
        agrees = λ trusted. leaves.agrees (subst IsTrue (sym same) trusted);
        slots = leaves.slots ∙ looks.reads.same.taken;
        others = keeps_then (store_slots old) (store_slots mid) (store_slots new) looks.reads.same.taken looks.others leaves.others;
        area = leaves.area ∙ same_area old mid looks.reads.same.same;
        cause = λ works. cause_behind value (of_store result) earlier middle later (looks.cause works) (leaves.cause (looks.fails ∙ works));
        never_falls = omega (arith, looks.reads.never_falls, leaves.never_falls);
      }

-- ---- what a crash leaves of the container

-- behind a look-up over a store that holds the container
module _ {C : Type 0} (pages : C → CachedPages) (old : Store C) (start mid : History) (before : Container) (agrees : Agrees pages old start)
    (hold : ContentsHoldAll (store_contents old) before) (idles : Idles start mid) where
  -- each image says what the store has
  rests : Rests start (HasAll before)
  rests =
      let of = agrees_says pages old start agrees in
      rests_weaken start (Says newest of.version of.told (store_contents old)) (HasAll before)
      (λ image says. record { version = of.version; told = of.told; contents = store_contents old; says = says; hold = hold }) of.says

  still : (after : Container) → Turns start mid (HasAll before) (HasAll after)
  still after = stays_turn start mid (HasAll before) (HasAll after) (idles_stay start mid (HasAll before) rests idles)

  -- the container is as it was
  pub kept_by_look : (store : Store C) (ids : List (List ℕ × ℕ)) → HoldsAll store ids before → IsKept before store ids start mid
  kept_by_look store ids holds = (holds, still before)

  -- the look-up failed
  pub tells_failed : (made : Result Container WriteRefusal) (new : Store C) (ids : List (List ℕ × ℕ)) (why : StoreFault) → HoldsAll new ids before
      → TellsDamage old why → TellsWrite before made (Err (fault.Store why)) new ids start mid
  tells_failed made new ids store_fault.Disk holds told = still (left_by before made)
  tells_failed made new ids (store_fault.Damaged extent at) holds told = undamaged old before extent at hold told
  tells_failed made new ids (store_fault.Newer version) holds told = told
  tells_failed made new ids store_fault.Memory holds told = kept_by_look new ids holds

  -- what a write answers behind it, it answers of both
  module _ (end : History) where
    turns_then : (after : Container) → Turns mid end (HasAll before) (HasAll after) → Turns start end (HasAll before) (HasAll after)
    turns_then after turns = stays_join start mid end (λ image. HasAll before image ⊎ HasAll after image) (still after) turns

    kept_then : (store : Store C) (ids : List (List ℕ × ℕ)) → IsKept before store ids mid end → IsKept before store ids start end
    kept_then store ids kept = (kept.0, turns_then before kept.1)

    of_both : (made : Result Container WriteRefusal) (result : Result (Unit {0}) WriteFault) (store : Store C) (ids : List (List ℕ × ℕ))
        → TellsWrite before made result store ids mid end → TellsWrite before made result store ids start end
    of_both made (Ok done) store ids told = (told.0, told.1, told.2, turns_then told.0 told.3)
    of_both made (Err fault.Conflict) store ids told = (told.0, kept_then store ids told.1)
    of_both made (Err fault.Absent) store ids told = (told.0, kept_then store ids told.1)
    of_both made (Err fault.Full) store ids told = (told.0, kept_then store ids told.1)
    of_both made (Err (fault.Store store_fault.Disk)) store ids told = turns_then (left_by before made) told
    of_both made (Err (fault.Store (store_fault.Damaged extent at))) store ids told = told
    of_both made (Err (fault.Store (store_fault.Newer version))) store ids told = told
    of_both made (Err (fault.Store store_fault.Memory)) store ids told = kept_then store ids told

    pub tells_then : (made other : Result Container WriteRefusal) (result : Result (Unit {0}) WriteFault) (store : Store C) (ids : List (List ℕ × ℕ))
        → other ≡ made → TellsWrite before other result store ids mid end → TellsWrite before made result store ids start end
    tells_then made other result store ids same told =
        of_both made result store ids (subst (λ m. TellsWrite before m result store ids mid end) same told)

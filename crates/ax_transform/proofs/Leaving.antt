-- What a change of the policy tells and leaves, by the commit of its batch; and what one does that committed nothing.
use Rattle.std.proofs.Common.{◌≡◌, ◌≤◌, ℕ, Bool, true, false, List, ◌++◌, Result, Ok, Err, refl, sym, ap, subst}
use Rattle.std.specs.List.{AllByRecursion}
use Rattle.std.specs.Prelude.{IsTrue, IfErr, OnErr}
use Rattle.ax_area.specs.Changes.{Change}
use Rattle.ax_area.specs.Contents.{Contents}
use Rattle.ax_area.specs.Image.{Says}
use Rattle.ax_area.specs.Told.{Told}
use Rattle.ax_cache.specs.Pages.{CachedPages}
use Rattle.ax_container.specs.Container.{Container}
use Rattle.ax_container.specs.Reindexing.{PolicyRefusal}
use Rattle.ax_disk.specs.laws.StaysLaws.{idles_stay, rests_weaken, stays_start, stays_turn, turns_weaken}
use Rattle.ax_disk.specs.model.Calls.{Idles}
use Rattle.ax_disk.specs.model.Image.{Image}
use Rattle.ax_disk.specs.model.Moments.{History}
use Rattle.ax_disk.specs.model.Pending.{MayLeave}
use Rattle.ax_disk.specs.model.Stays.{Rests, Stays, Turns}
use Rattle.ax_image.specs.Readable.{SaysReadable, newest}
use Rattle.ax_image_grammar.specs.Payloads.{IsReadable, IsTextOf}
use Rattle.ax_image_pairs.specs.Indexed.{ContentsHoldAll, HasAll}
use Rattle.ax_index.specs.Damage.{FailsBy}
use Rattle.ax_policy.specs.Normal.{normal_text}
use Rattle.ax_policy.specs.declared.policy.Policy.{Policy}
use Rattle.ax_pool.specs.Frames.{Frames, bytes_at}
use Rattle.ax_store.specs.Faults.{HasDiskCause}
use Rattle.ax_store.specs.Store.{AgreesUnlessFailed, SaysMore, SaysOf, store_area, store_contents, store_failed, store_slots}
use Rattle.ax_store.specs.declared.fault.StoreFault.{StoreFault}
use Rattle.ax_store.specs.declared.fault.StoreFault.TheVariants as store_fault
use Rattle.ax_store.specs.declared.store.Store.{Store}
use Rattle.ax_transform.specs.Parts.{changes_unless}
use Rattle.ax_transform.specs.Settings.{ChangeLeaves, IdlesUnlessMade, TellsChange, left_by, of_store}
use Rattle.ax_transform.specs.declared.fault.TransformFault.{TransformFault}
use Rattle.ax_transform.specs.declared.fault.TransformFault.TheVariants as fault
use Rattle.ax_write.proofs.StayReadable.{readable_by}
use Rattle.ax_write.specs.Committed.{IsBrief}
use Rattle.ax_write.specs.Writes.{TellsDamage}

abbrev pub failing : StoreFault → Result (Unit {0}) StoreFault
failing why = Err why

-- ---- what is told

has_said : (version : ℕ) (told : List Told) (contents : Contents) (container : Container) → ContentsHoldAll contents container
    → (image : Image) → Says newest version told contents image → HasAll container image
has_said version told contents container hold image says =
    record { version = version; told = told; contents = contents; says = says; hold = hold }

has_more : (version : ℕ) (told : List Told) (changes : List Change) (contents : Contents) (container : Container)
    → ContentsHoldAll contents container → (image : Image) → SaysMore version told changes contents image → HasAll container image
has_more version told changes contents container hold image more =
    record { version = version; told = told ++ more.0; contents = contents; says = more.2; hold = hold }

module _ {C : Type 0} (old : Store C) (before : Container) (earlier : History) (of : SaysOf old earlier)
    (hold : ContentsHoldAll (store_contents old) before) where
  rested : Rests earlier (HasAll before)
  rested =
      rests_weaken earlier (Says newest of.version of.told (store_contents old)) (HasAll before)
      (has_said of.version of.told (store_contents old) before hold) of.says

  -- nothing has happened
  pub still : Turns earlier earlier (HasAll before) (HasAll before)
  still = stays_turn earlier earlier (HasAll before) (HasAll before) (stays_start earlier (HasAll before) rested)

  module _ (later : History) where
    idle : Idles earlier later → Turns earlier later (HasAll before) (HasAll before)
    idle idles = stays_turn earlier later (HasAll before) (HasAll before) (idles_stay earlier later (HasAll before) rested idles)

    module _ (after : Container) (changes : List Change) (new : Contents) (held : ContentsHoldAll new after)
        (turns : Turns earlier later (Says newest of.version of.told (store_contents old)) (SaysMore of.version of.told changes new)) where
      -- the changes are told or not
      pub turned : Turns earlier later (HasAll before) (HasAll after)
      turned =
          turns_weaken earlier later (Says newest of.version of.told (store_contents old)) (HasAll before)
          (SaysMore of.version of.told changes new) (HasAll after)
          (has_said of.version of.told (store_contents old) before hold)
          (has_more of.version of.told changes new after held) turns

      pub told_unmade : (now : Store C) (made : Result Container PolicyRefusal) → made ≡ Ok after → (why : StoreFault)
          → store_contents now ≡ store_contents old → IsBrief why → (failing why ≡ failing store_fault.Memory → Idles earlier later)
          → TellsChange before made (Err (fault.Store why)) (store_contents now) earlier later
      told_unmade now made is store_fault.Disk kept only idles =
          subst (λ (m : Result Container PolicyRefusal). Turns earlier later (HasAll before) (HasAll (left_by before m))) (sym is) turned
      told_unmade now made is (store_fault.Damaged extent at) kept only idles = absurd only
      told_unmade now made is (store_fault.Newer version) kept only idles = absurd only
      told_unmade now made is store_fault.Memory kept only idles =
          (subst (λ contents. ContentsHoldAll contents before) (sym kept) hold, idle (idles refl))

-- ---- what is left

-- the answer of a change by that of its commit
abbrev pub answered : Result (Unit {0}) StoreFault → Result (Unit {0}) TransformFault
answered (Ok done) = Ok done
answered (Err why) = Err (fault.Store why)

same_answer : (result : Result (Unit {0}) StoreFault) → result ≡ of_store (answered result)
same_answer (Ok done) = refl
same_answer (Err why) = refl

told_brief : {C : Type 0} (store : Store C) (why : StoreFault) → IsBrief why → TellsDamage store why
told_brief store store_fault.Disk only = tt
told_brief store (store_fault.Damaged extent at) only = absurd only
told_brief store (store_fault.Newer version) only = absurd only
told_brief store store_fault.Memory only = tt

told_by : {C : Type 0} (store : Store C) (result : Result (Unit {0}) StoreFault) → IfErr result IsBrief
    → IfErr (of_store (answered result)) (TellsDamage store)
told_by store (Ok done) only = tt
told_by store (Err why) only = told_brief store why only

kept_by : (P : Type 0) (result : Result (Unit {0}) StoreFault) → OnErr result P → OnErr (answered result) P
kept_by P (Ok done) kept = tt
kept_by P (Err why) kept = kept

idle_by : (before after : History) (result : Result (Unit {0}) StoreFault) → IfErr result IsBrief
    → (result ≡ Err store_fault.Memory → Idles before after) → IdlesUnlessMade (answered result) before after
idle_by before after (Ok done) only idles = tt
idle_by before after (Err store_fault.Disk) only idles = tt
idle_by before after (Err (store_fault.Damaged extent at)) only idles = absurd only
idle_by before after (Err (store_fault.Newer version)) only idles = absurd only
idle_by before after (Err store_fault.Memory) only idles = idles refl

-- what is put can be read
put_readable : (has : Bool) (next number : ℕ) (policy : Policy) → IsTextOf (normal_text policy) policy
    → AllByRecursion (IsReadable newest) (changes_unless has next number policy)
put_readable true next number policy of = (tt, tt)
put_readable false next number policy of = (record { policy = policy; is = of }, (tt, tt))

module _ {C : Type 0} (pages : C → CachedPages) (honest : Bool) (old new : Store C) (earlier later : History) (first last : ℕ) where
  pub left_behind : (result : Result (Unit {0}) StoreFault) → OnErr result (store_contents new ≡ store_contents old)
      → (IsTrue honest → store_failed old ≡ false → Rests earlier SaysReadable → Stays earlier later SaysReadable)
      → (IsTrue honest → result ≡ Err store_fault.Memory → Idles earlier later)
      → IfErr result IsBrief
      → FailsBy result (store_failed old) (store_failed new)
      → AgreesUnlessFailed pages honest new later
      → store_slots new ≡ store_slots old
      → store_area new ≡ store_area old
      → (store_failed old ≡ false → HasDiskCause result first last)
      → first ≤ last
      → ChangeLeaves pages honest (answered result) old new earlier later first last
  left_behind result kept readable idles only fails agrees slots area cause never_falls = record {
    told = λ trusted. told_by old result only;
    kept = kept_by (store_contents new ≡ store_contents old) result kept;
    idle = λ trusted. idle_by earlier later result only (idles trusted);
    readable = λ trusted works set index rests. readable trusted works rests;
    fails = subst (λ r. FailsBy r (store_failed old) (store_failed new)) (same_answer result) fails;
    agrees = agrees;
    slots = ap (λ (frames : Frames). frames.taken) slots;
    others = λ number taken. ap (λ frames. bytes_at frames number) slots;
    area = area;
    cause = λ works. subst (λ r. HasDiskCause r first last) (same_answer result) (cause works);
    never_falls = never_falls;
  }

-- all that is told can be read before and after
pub stays_readable : (earlier later : History) (version : ℕ) (told : List Told) (contents new : Contents) (has : Bool) (next number : ℕ)
    (policy : Policy) → IsTextOf (normal_text policy) policy → MayLeave earlier.unsynced earlier.reads
    → Says newest version told contents earlier.reads
    → Turns earlier later (Says newest version told contents) (SaysMore version told (changes_unless has next number policy) new)
    → Rests earlier SaysReadable → Stays earlier later SaysReadable
stays_readable earlier later version told contents new has next number policy of may says turns rests =
    readable_by earlier later version told contents new (changes_unless has next number policy) (put_readable has next number policy of)
    rests may says turns

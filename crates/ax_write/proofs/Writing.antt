-- What a write of a document tells, by the commit of its changes with those of the index behind them; and what one tells
-- that committed nothing.
use Rattle.std.proofs.Common.{◌≡◌, ◌≤◌, ℕ, Bool, true, false, List, ◌++◌, Result, Ok, Err, refl, sym, subst, ◌∙◌, inr, arith}
use Rattle.std.specs.Prelude.{IsTrue, IfErr, OnErr, Some}
use Rattle.std.specs.List.{Contains}
use Rattle.ax_area.proofs.OneTelling.{same_some}
use Rattle.ax_area.specs.Changes.{Change}
use Rattle.ax_area.specs.Contents.{Contents}
use Rattle.ax_area.specs.Image.{Says}
use Rattle.ax_area.specs.Told.{Told}
use Rattle.ax_cache.specs.Pages.{CachedPages}
use Rattle.ax_container.specs.Container.{Container}
use Rattle.ax_container.specs.Writes.{WriteRefusal}
use Rattle.ax_delta.specs.declared.change.Change.{Change as PairChange}
use Rattle.ax_disk.specs.laws.StaysLaws.{idles_start, idles_stay, rests_weaken, stays_start, stays_turn, turns_weaken}
use Rattle.ax_disk.specs.model.Calls.{Idles}
use Rattle.ax_disk.specs.model.Image.{Image}
use Rattle.ax_disk.specs.model.Moments.{History}
use Rattle.ax_disk.specs.model.Stays.{Rests, Stays, Turns}
use Rattle.ax_image.specs.Readable.{SaysReadable, newest}
use Rattle.ax_image_pairs.specs.Carrying.{Carries}
use Rattle.ax_image_pairs.specs.Found.{number_in}
use Rattle.ax_image_pairs.specs.Indexed.{ContentsHoldAll, HasAll}
use Rattle.ax_index.specs.Damage.{FailsBy, TellsPart}
use Rattle.ax_index.specs.Reads.{KeepsTaken}
use Rattle.ax_pairs.specs.Index.{IsIndex}
use Rattle.ax_pairs.specs.PairSets.{PairSet}
use Rattle.ax_store.specs.Faults.{HasDiskCause}
use Rattle.ax_store.specs.Store.{AgreesUnlessFailed, SaysOf, store_area, store_contents, store_failed, store_slots}
use Rattle.ax_store.specs.declared.fault.StoreFault.{StoreFault}
use Rattle.ax_store.specs.declared.fault.StoreFault.TheVariants as store_fault
use Rattle.ax_store.specs.declared.store.Store.{Store}
use Rattle.ax_write.specs.Committed.{IdlesUnlessDisk, LeadWith, SaysWith}
use Rattle.ax_write.specs.Writes.{IdlesUnlessMade, TellsDamage, TellsWrite, WriteLeaves, left_by, of_store}
use Rattle.ax_write.specs.declared.fault.WriteFault.{WriteFault}
use Rattle.ax_write.specs.declared.fault.WriteFault.TheVariants as fault
use Rattle.ax_write.proofs.Idling.{idles_made}
use Rattle.ax_write.proofs.Unspoiled.{never_spoiled}

-- ---- where changes lead that carry their pairs

led : (honest : Bool) (old new : Contents) (pairs : List PairChange) (front : List Change) (after : Container) → IsTrue honest
    → Carries old front pairs after → LeadWith honest pairs front old new → ContentsHoldAll new after
led honest old new pairs front after trusted carries lead =
    let to = carries.carry lead.behind (lead.make trusted) in
    subst (λ contents. ContentsHoldAll contents after) (same_some to.new new (sym to.lead ∙ lead.lead)) to.hold

has_said : (version : ℕ) (told : List Told) (contents : Contents) (container : Container) → ContentsHoldAll contents container
    → (image : Image) → Says newest version told contents image → HasAll container image
has_said version told contents container hold image says =
    record { version = version; told = told; contents = contents; says = says; hold = hold }

has_with : (version : ℕ) (told : List Told) (pairs : List PairChange) (front : List Change) (old : Contents) (after : Container)
    → Carries old front pairs after → (image : Image) → SaysWith version told pairs front old image → HasAll after image
has_with version told pairs front old after carries image with_all = record {
  version = version;
  told = told ++ with_all.says.0;
  contents = with_all.new;
  says = with_all.says.2;
  hold = led true old with_all.new pairs front after refl carries with_all.lead;
}

-- ---- what is told

module _ {C : Type 0} (old : Store C) (before : Container) (earlier : History) (of : SaysOf old earlier)
    (hold : ContentsHoldAll (store_contents old) before) where
  rested : Rests earlier (HasAll before)
  rested =
      rests_weaken earlier (Says newest of.version of.told (store_contents old)) (HasAll before)
      (has_said of.version of.told (store_contents old) before hold) of.says

  -- nothing has happened
  pub still : Turns earlier earlier (HasAll before) (HasAll before)
  still = stays_turn earlier earlier (HasAll before) (HasAll before) (stays_start earlier (HasAll before) rested)

  module _ (later : History) where
    idle : Idles earlier later → Turns earlier later (HasAll before) (HasAll before)
    idle idles = stays_turn earlier later (HasAll before) (HasAll before) (idles_stay earlier later (HasAll before) rested idles)

    module _ (after : Container) (pairs : List PairChange) (front : List Change) (carries : Carries (store_contents old) front pairs after)
        (turns : Turns earlier later (Says newest of.version of.told (store_contents old))
        (SaysWith of.version of.told pairs front (store_contents old))) where
      turned : Turns earlier later (HasAll before) (HasAll after)
      turned =
          turns_weaken earlier later (Says newest of.version of.told (store_contents old)) (HasAll before)
          (SaysWith of.version of.told pairs front (store_contents old)) (HasAll after)
          (has_said of.version of.told (store_contents old) before hold)
          (has_with of.version of.told pairs front (store_contents old) after carries) turns

      module _ (new : Store C) (made : Result Container WriteRefusal) (is : made ≡ Ok after) (ids : List (List ℕ × ℕ)) where
        -- the changes were committed
        pub told_made : (honest : Bool) → IsTrue honest → LeadWith honest pairs front (store_contents old) (store_contents new)
            → ((id : List ℕ) (number : ℕ) → Contains ids (id, number) → number_in id after ≡ Some number)
            → TellsWrite before made (Ok tt) new ids earlier later
        told_made honest trusted lead recent = (
          after,
          is,
          record { contents = led honest (store_contents old) (store_contents new) pairs front after trusted carries lead; recent = recent },
          turned,
        )

        -- or they were not
        pub told_unmade : (why : StoreFault) → store_contents new ≡ store_contents old → TellsPart old why
            → IdlesUnlessDisk why earlier later
            → ((id : List ℕ) (number : ℕ) → Contains ids (id, number) → number_in id before ≡ Some number)
            → TellsWrite before made (Err (fault.Store why)) new ids earlier later
        told_unmade store_fault.Disk kept damage idles recent =
            subst (λ (m : Result Container WriteRefusal). Turns earlier later (HasAll before) (HasAll (left_by before m))) (sym is) turned
        told_unmade (store_fault.Damaged extent at) kept damage idles recent =
            never_spoiled old hold.pairs.set (store_fault.Damaged extent at) hold.pairs.is damage
        told_unmade (store_fault.Newer version) kept damage idles recent = damage
        told_unmade store_fault.Memory kept damage idles recent = (
          record { contents = subst (λ contents. ContentsHoldAll contents before) (sym kept) hold; recent = recent },
          idle idles,
        )

-- ---- what is left

-- the answer of a write by that of its commit
abbrev pub written : Result (Unit {0}) StoreFault → Result (Unit {0}) WriteFault
written (Ok done) = Ok done
written (Err why) = Err (fault.Store why)

same_answer : (result : Result (Unit {0}) StoreFault) → result ≡ of_store (written result)
same_answer (Ok done) = refl
same_answer (Err why) = refl

damage_told : {C : Type 0} (store : Store C) (why : StoreFault) → TellsPart store why → TellsDamage store why
damage_told store store_fault.Disk is = tt
damage_told store (store_fault.Damaged extent at) is = inr is
damage_told store (store_fault.Newer version) is = is
damage_told store store_fault.Memory is = tt

told_damage : {C : Type 0} (store : Store C) (result : Result (Unit {0}) StoreFault) → IfErr result (TellsPart store)
    → IfErr (of_store (written result)) (TellsDamage store)
told_damage store (Ok done) is = tt
told_damage store (Err why) is = damage_told store why is

kept_by : (P : Type 0) (result : Result (Unit {0}) StoreFault) → OnErr result P → OnErr (written result) P
kept_by P (Ok done) kept = tt
kept_by P (Err why) kept = kept

idle_by : (before after : History) (result : Result (Unit {0}) StoreFault) → IfErr result (λ why. IdlesUnlessDisk why before after)
    → IdlesUnlessMade (written result) before after
idle_by before after (Ok done) idles = tt
idle_by before after (Err why) idles = idles

module _ {C : Type 0} (pages : C → CachedPages) (honest : Bool) (old new : Store C) (earlier later : History) (first last : ℕ) where
  pub left_behind : (result : Result (Unit {0}) StoreFault) → OnErr result (store_contents new ≡ store_contents old)
      → (IsTrue honest → store_failed old ≡ false → (set : PairSet) → IsIndex (store_contents old).terms set
      → Rests earlier SaysReadable → Stays earlier later SaysReadable)
      → (IsTrue honest → IfErr result (λ why. IdlesUnlessDisk why earlier later))
      → (IsTrue honest → IfErr result (TellsPart old))
      → FailsBy result (store_failed old) (store_failed new)
      → AgreesUnlessFailed pages honest new later
      → (store_slots new).taken ≡ (store_slots old).taken
      → KeepsTaken (store_slots old) (store_slots new)
      → store_area new ≡ store_area old
      → (store_failed old ≡ false → HasDiskCause result first last)
      → first ≤ last
      → WriteLeaves pages honest (written result) old new earlier later first last
  left_behind result kept readable idles damage fails agrees slots others area cause never_falls = record {
    told = λ trusted. told_damage old result (damage trusted);
    kept = kept_by (store_contents new ≡ store_contents old) result kept;
    idle = λ trusted. idle_by earlier later result (idles trusted);
    readable = readable;
    fails = subst (λ r. FailsBy r (store_failed old) (store_failed new)) (same_answer result) fails;
    agrees = agrees;
    slots = slots;
    others = others;
    area = area;
    cause = λ works. subst (λ r. HasDiskCause r first last) (same_answer result) (cause works);
    never_falls = never_falls;
  }

-- nothing was done
module _ {C : Type 0} (pages : C → CachedPages) (honest : Bool) (store : Store C) (history : History) (count : ℕ)
    (agrees : AgreesUnlessFailed pages honest store history) where
  pub nothing_left : (result : Result (Unit {0}) WriteFault) → IfErr (of_store result) (TellsDamage store)
      → OnErr result (store_contents store ≡ store_contents store)
      → FailsBy (of_store result) (store_failed store) (store_failed store)
      → HasDiskCause (of_store result) count count
      → WriteLeaves pages honest result store store history history count count
  nothing_left result told kept fails cause = record {
    told = λ trusted. told;
    kept = kept;
    idle = λ trusted. idles_made history history (idles_start history) result;
    readable = λ trusted works set index rests. stays_start history SaysReadable rests;
    fails = fails;
    agrees = agrees;
    slots = refl;
    others = λ number taken. refl;
    area = refl;
    cause = λ works. cause;
    never_falls = omega arith;
  }

  pub memory_left : WriteLeaves pages honest (Err (fault.Store store_fault.Memory)) store store history history count count
  memory_left =
      nothing_left (Err (fault.Store store_fault.Memory)) tt refl refl
      (record { never_falls = omega arith; failed = λ is. absurd is; uncounted = refl })

  pub full_left : WriteLeaves pages honest (Err fault.Full) store store history history count count
  full_left =
      nothing_left (Err fault.Full) tt refl refl
      (record { never_falls = omega arith; failed = λ is. absurd is; uncounted = refl })

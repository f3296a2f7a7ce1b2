-- What a store that was opened stands for with its index, and which table of policies it has.
use Rattle.std.proofs.Common.{◌≡◌, ◌⊎◌, inl, inr, refl, ℕ, Bool, List, [], Result, Ok, Err, Option, Some, None, IsSome, IsTrue, sym, ap, subst, arith}
use Rattle.std.specs.List.{Contains}
use Rattle.ax_area.proofs.OneOutcome.{one_contents}
use Rattle.ax_area.specs.Contents.{Contents}
use Rattle.ax_area.specs.Image.{Says}
use Rattle.ax_area.specs.Told.{Told}
use Rattle.ax_area_laws.specs.Risen.{risen}
use Rattle.ax_cache.specs.PageLaws.{no_pages}
use Rattle.ax_cache.specs.declared.no_pages.NoPages.{NoPages}
use Rattle.ax_container.specs.Container.{Container}
use Rattle.ax_disk.specs.laws.StageLaws.{barrier_goes_on}
use Rattle.ax_disk.specs.laws.StaysLaws.{idles_rest, idles_stay, rests_weaken}
use Rattle.ax_disk.specs.model.Calls.{Idles}
use Rattle.ax_disk.specs.model.Image.{Image}
use Rattle.ax_disk.specs.model.Moments.{History}
use Rattle.ax_disk.specs.model.Stays.{Rests, SinceBarrier}
use Rattle.ax_image.specs.Readable.{SaysReadable, newest}
use Rattle.ax_image_grammar.specs.Payloads.{IsPolicyText}
use Rattle.ax_image_grammar.specs.Table.{AreApart, IsTaken, policy_text}
use Rattle.ax_image_pairs.proofs.Standing.{all_back, readable_with_index}
use Rattle.ax_image_pairs.specs.Indexed.{ContentsHoldAll, StandsForAll}
use Rattle.ax_log.specs.Opening.{Keeps}
use Rattle.ax_policy.specs.Table.{Table, policy_at}
use Rattle.ax_policy.specs.declared.policy.Policy.{Policy}
use Rattle.ax_store.proofs.StoreLemmas.{barrier_weaken}
use Rattle.ax_store.specs.Faults.{IsRefused}
use Rattle.ax_store.specs.Kept.{Kept}
use Rattle.ax_store.specs.Store.{Has, IsOpened, TellsFault, store_contents}
use Rattle.ax_store.specs.declared.fault.StoreFault.{StoreFault}
use Rattle.ax_store.specs.declared.fault.StoreFault.TheVariants as fault
use Rattle.ax_store.specs.declared.store.Store.{Store}
use Rattle.ax_table.specs.TableAgrees.{TableAgrees}
use Rattle.ax_write.specs.Writes.{HoldsAll}
use Rattle.ax_documents.specs.Opening.{HaveTable, IsAnswerUnlessDisk, IsImageOf, IsStore, IsWithin, RefusesBy}

-- an image that says what one says that stands for a container stands for it too
image_by : (image : Image) (container : Container) (stand : StandsForAll image container)
    → (other : Image) → Says newest stand.version stand.told stand.contents other → IsImageOf container other
image_by image container stand other says = record {
  version = stand.version;
  told = stand.told;
  contents = stand.contents;
  grammatical = record {
    says = says;
    readable = stand.grammatical.readable;
    apart = stand.grammatical.apart;
  };
  hold = stand.hold;
}

-- an image that says contents which have a table is within the format
pub within_by : {contents : Contents} {image : Image} → Has contents image → HaveTable contents → IsWithin image
within_by {contents} (version, told, says) have = (version, told, contents, says, have)

some_policy : (found : Option Policy) → IsSome found → (policy : Policy) × (found ≡ Some policy)
some_policy None some = absurd cc
some_policy (Some policy) some = (policy, refl)

-- contents with which a table agrees that was read over an honest disk have one
pub have_table : (honest : Bool) (table : Table) (contents : Contents) → IsTrue honest → TableAgrees honest table contents
    → AreApart contents → HaveTable contents
have_table honest table contents h agrees apart = record {
  texts = λ number taken.
      let there = some_policy (policy_at table number) (agrees.known number taken) in
      record { policy = there.0; is = agrees.texts h number there.0 there.1 };
  apart = apart;
}

module _ (old mid : History) where
  pub since_opening : (before : Container) → IsStore before old
      → ((version : ℕ) (told : List Told) (contents : Contents) → Says newest version told contents old.reads
      → SinceBarrier old mid (Says newest version told contents))
      → SinceBarrier old mid (IsImageOf before)
  since_opening before store since =
      let stand = store.reads in
      barrier_weaken old mid (Says newest stand.version stand.told stand.contents) (IsImageOf before)
      (image_by old.reads before stand) (since stand.version stand.told stand.contents stand.grammatical.says)

  -- after the opening a crash leaves what was told there
  pub opened_rests : (before : Container) → IsStore before old
      → ((version : ℕ) (told : List Told) (contents : Contents) → Says newest version told contents old.reads
      → Rests mid (Says newest version told contents))
      → Rests mid (IsImageOf before)
  opened_rests before store kept =
      let stand = store.reads in
      rests_weaken mid (Says newest stand.version stand.told stand.contents) (IsImageOf before)
      (image_by old.reads before stand) (kept stand.version stand.told stand.contents stand.grammatical.says)

  -- calls that read came behind it
  pub since_reading : (before : Container) (new : History) → Rests mid (IsImageOf before)
      → SinceBarrier old mid (IsImageOf before) → Idles mid new → SinceBarrier old new (IsImageOf before)
  since_reading before new rests since idles =
      barrier_goes_on old mid new (IsImageOf before) since rests (idles_stay mid new (IsImageOf before) rests idles)

  pub readable_still : (before : Container) (new : History) → Rests mid (IsImageOf before) → Idles mid new
      → Rests new SaysReadable
  readable_still before new rests idles =
      rests_weaken new (IsImageOf before) SaysReadable (λ image stand. readable_with_index image before stand)
      (idles_rest mid new (IsImageOf before) rests idles)

  pub refuses_by : (why : StoreFault) → TellsFault why old.reads
      → (IsRefused {T = Unit {0}} (Err why) → Keeps old mid) → RefusesBy why old mid
  refuses_by (fault.Damaged extent at) (list, is, damaged) keeps = ((list, is, inl damaged), keeps tt)
  refuses_by (fault.Newer version) tells keeps = (tells, keeps tt)
  refuses_by fault.Disk tells keeps = tt
  refuses_by fault.Memory tells keeps = tt

  module _ (store : Store NoPages) (before : Container) (was : IsStore before old)
      (opened : IsOpened (λ _. no_pages) store old.reads mid) where
    -- the contents that the store was opened by are those of the container
    opened_hold : ContentsHoldAll (store_contents store) before
    opened_hold =
        let all = all_back old.reads before was.reads in
        subst (λ (contents : Contents). ContentsHoldAll contents before)
        (one_contents newest old.reads all.version opened.has.0 all.told opened.has.1 all.contents
        (store_contents store) all.says opened.has.2)
        all.hold

    -- and of those that were lately found there are none
    pub holds_opened : (now : Store NoPages) → now.pages ≡ store.pages → (ids : List (List ℕ × ℕ)) → ids ≡ []
        → HoldsAll now ids before
    holds_opened now same ids none = record {
      contents = subst (λ (kept : Kept). ContentsHoldAll (risen kept.contents) before) (sym same) opened_hold;
      recent = λ id number is.
          let there = subst (λ l. Contains l (id, number)) none is in
          let not : ⊥ = omega (arith, there.1) in
          absurd not;
    }

-- ---- what refuses a store is no answer of a call that was Ok, and is passed on by who answers that fault

abbrev refusal : {T : Type 0} → StoreFault → Result T StoreFault
refusal why = Err why

ok_is : {T : Type 0} (value : T) (why : StoreFault) → Ok value ≡ refusal why → ⊥
ok_is value why is = cc

same_fault : {T : Type 0} (x y : StoreFault) → refusal {T = T} x ≡ refusal y → x ≡ y
same_fault x y is = cc

pub never_answered : {S T : Type 0} (value : S) (why : StoreFault) (result : Result T StoreFault)
    → (Ok value ≡ refusal why) ⊎ (Ok value ≡ refusal fault.Disk) → IsAnswerUnlessDisk why result
never_answered value why result (inl is) = absurd (ok_is value why is)
never_answered value why result (inr is) = absurd (ok_is value fault.Disk is)

pub passed_on : {S T : Type 0} (x why : StoreFault)
    → (refusal {T = S} x ≡ refusal why) ⊎ (refusal {T = S} x ≡ refusal fault.Disk)
    → IsAnswerUnlessDisk {T = T} why (Err x)
passed_on {S = S} x why (inl is) = inl (ap Err (same_fault {T = S} x why is))
passed_on {S = S} x why (inr is) = inr (ap Err (same_fault {T = S} x fault.Disk is))

-- Where the parts lead by which a policy becomes the one now, once they are committed.
use Rattle.std.proofs.Common.{◌≡◌, ℕ, ◌<◌, ◌^◌, Bool, true, false, List, Ok, Err, Some, refl, sym, ap, subst, ◌∙◌}
use Rattle.std.specs.Prelude.{IsTrue}
use Rattle.ax_area.proofs.OneTelling.{same_some}
use Rattle.ax_area.specs.Changes.{Change}
use Rattle.ax_area.specs.Contents.{Contents, after_changes, is_given}
use Rattle.ax_area.specs.Parts.{after_parts, changes_said}
use Rattle.ax_area.specs.Image.{Says}
use Rattle.ax_cache.specs.Pages.{CachedPages}
use Rattle.ax_container.specs.Container.{Container}
use Rattle.ax_container.specs.Reindexing.{repoliced, with_policy}
use Rattle.ax_disk.specs.model.Calls.{Idles}
use Rattle.ax_disk.specs.model.Moments.{History}
use Rattle.ax_disk.specs.model.Pending.{MayLeave}
use Rattle.ax_disk.specs.model.Stays.{Rests, Stays, Turns}
use Rattle.ax_frame.specs.Part.{PartValue}
use Rattle.ax_image.specs.Readable.{SaysReadable, newest}
use Rattle.ax_image_grammar.specs.Payloads.{IsTextOf}
use Rattle.ax_image_pairs.specs.Indexed.{ContentsHoldAll}
use Rattle.ax_policy.specs.Normal.{normal_text}
use Rattle.ax_policy.specs.Table.{AreApart, IsGiven, SetsNow, Table}
use Rattle.ax_policy.specs.declared.policy.Policy.{Policy}
use Rattle.ax_store.specs.Batch.{AreAllowed}
use Rattle.ax_store.proofs.StoreLemmas.{agrees_says}
use Rattle.ax_store.specs.Store.{AgreesUnlessFailed, SaysMore, SaysOf, store_contents, store_failed}
use Rattle.ax_store.specs.declared.fault.StoreFault.{StoreFault}
use Rattle.ax_store.specs.declared.fault.StoreFault.TheVariants as store_fault
use Rattle.ax_store.specs.declared.store.Store.{Store}
use Rattle.ax_table.specs.TableAgrees.{TableAgrees}
use Rattle.ax_transform.specs.Parts.{is_written, next_told, setting_changes, setting_parts}
use Rattle.ax_transform.specs.Settings.{IsSetting, TellsChange}
use Rattle.ax_transform.specs.declared.fault.TransformFault.TheVariants as fault
use Rattle.ax_write.specs.Committed.{IsBrief}
use Rattle.ax_transform.proofs.Committing.{AnyMoment, TellsMore}
use Rattle.ax_transform.proofs.Crowds.{spacious}
use Rattle.ax_transform.proofs.FewNumbers.{HasFewNumbers, few_numbers}
use Rattle.ax_transform.proofs.Holding.{holds_with}
use Rattle.ax_transform.proofs.Leaving.{failing, stays_readable, told_unmade, turned}
use Rattle.ax_transform.proofs.Said.{fits_told, parts_allowed, parts_lead, set_in, some_told, unless_leads, unless_said}
use Rattle.ax_transform.proofs.Tables.{table_set, written_given}

module _ (honest : Bool) (table : Table) (contents : Contents) (agrees : TableAgrees honest table contents) (plain : contents.versioned ≡ false)
    (policy : Policy) (of : IsTextOf (normal_text policy) policy) (number next : ℕ) (fits : next < 2 ^ 32)
    (given : IsGiven policy table (Some number)) (parts : List PartValue) (are : parts ≡ setting_parts next number policy table) where
  abbrev has : Bool
  has = is_written policy table number

  abbrev changes : List Change
  changes = setting_changes next number policy table

  abbrev after : Contents
  after = set_in has (next_told next) number policy contents

  was_given : has ≡ true → is_given number contents ≡ true
  was_given = written_given honest table contents agrees policy of number next

  pub parts_within : AreAllowed parts contents
  parts_within =
      subst (λ p. AreAllowed p contents) (sym are)
      (parts_allowed (next_told next) number policy contents (some_told next) (fits_told next fits) given.1 plain has was_given)

  pub parts_said : changes_said parts ≡ Some changes
  parts_said = ap changes_said are ∙ unless_said (next_told next) number policy (some_told next) (fits_told next fits) given.1 has

  pub changes_lead : after_changes changes contents ≡ Some after
  changes_lead = unless_leads (next_told next) number policy contents plain has was_given

  module _ (new : Contents) (lead : after_parts parts contents ≡ Some new) where
    -- what was committed
    pub landed : new ≡ after
    landed =
        same_some new after
        (sym lead ∙ ap (λ p. after_parts p contents) are
        ∙ parts_lead (next_told next) number policy contents (some_told next) (fits_told next fits) given.1 plain has was_given)

    pub table_landed : (now : Table) → SetsNow policy table now → AreApart now → TableAgrees honest now new
    table_landed now sets apart =
        subst (TableAgrees honest now) (sym landed)
        (table_set honest table contents agrees policy of number (next_told next) has refl now sets given.0 apart)

-- ---- what is told and left once they are committed, or not

module _ {C : Type 0} (pages : C → CachedPages) (honest : Bool) (store : Store C) (earlier later : History)
    (may : IsTrue honest → MayLeave earlier.unsynced earlier.reads) (agree : AgreesUnlessFailed pages honest store earlier)
    (table : Table) (agrees : TableAgrees honest table (store_contents store)) (policy : Policy) (of : IsTextOf (normal_text policy) policy)
    (number next : ℕ) (fits : next < 2 ^ 32) (given : IsGiven policy table (Some number)) (parts : List PartValue)
    (are : parts ≡ setting_parts next number policy table)
    (moments : IsTrue honest → store_failed store ≡ false → AnyMoment earlier later parts (store_contents store)) where
  abbrev old : Contents
  old = store_contents store

  abbrev made : Contents
  made = set_in (is_written policy table number) (next_told next) number policy old

  said_of : IsTrue honest → store_failed store ≡ false → SaysOf store earlier
  said_of trusted works = agrees_says pages store earlier (agree trusted works)

  turns : (trusted : IsTrue honest) (works : store_failed store ≡ false)
      → Turns earlier later (Says newest (said_of trusted works).version (said_of trusted works).told old)
      (SaysMore (said_of trusted works).version (said_of trusted works).told (setting_changes next number policy table) made)
  turns trusted works =
      let said = said_of trusted works in
      moments trusted works said.version said.told (setting_changes next number policy table) made
      (said.says.each earlier.reads (may trusted))
      (parts_said honest table old agrees refl policy of number next fits given parts are)
      (changes_lead honest table old agrees refl policy of number next fits given parts are)

  -- all that is told can be read
  pub readable : IsTrue honest → store_failed store ≡ false → Rests earlier SaysReadable → Stays earlier later SaysReadable
  readable trusted works rests =
      let said = said_of trusted works in
      stays_readable earlier later said.version said.told old made (is_written policy table number) (next_told next) number policy of
      (may trusted) (said.says.each earlier.reads (may trusted)) (turns trusted works) rests

  module _ (next_is : next ≡ (store_contents store).next_number) (trusted : IsTrue honest) (works : store_failed store ≡ false)
      (before : Container) (hold : ContentsHoldAll (store_contents store) before) where
    few : HasFewNumbers table
    few = few_numbers pages store earlier honest table (agree trusted works) agrees

    held : ContentsHoldAll made (with_policy policy before)
    held = holds_with honest trusted table old few agrees policy of number next given.0 next_is before hold

    is_made : repoliced policy before ≡ Ok (with_policy policy before)
    is_made = spacious honest trusted table old few agrees policy before hold.documents.show.under given.2

    pub tells_made : (new : Contents) → after_parts parts (store_contents store) ≡ Some new
        → TellsChange before (repoliced policy before) (Ok tt) new earlier later
    tells_made new lead = (
      with_policy policy before,
      is_made,
      subst (λ contents. ContentsHoldAll contents (with_policy policy before))
          (sym (landed honest table old agrees refl policy of number next fits given parts are new lead)) held,
      turned store before earlier (said_of trusted works) hold later (with_policy policy before)
          (setting_changes next number policy table) made held (turns trusted works),
    )

    pub tells_unmade : (now : Store C) (why : StoreFault) → store_contents now ≡ store_contents store → IsBrief why
        → (failing why ≡ failing store_fault.Memory → Idles earlier later)
        → TellsChange before (repoliced policy before) (Err (fault.Store why)) (store_contents now) earlier later
    tells_unmade now why kept only idles =
        told_unmade store before earlier (said_of trusted works) hold later (with_policy policy before)
        (setting_changes next number policy table) made held (turns trusted works) now (repoliced policy before) is_made why kept only idles

-- ---- what is written

module _ {C : Type 0} (honest : Bool) (table : Table) (old new : Store C) (agrees : TableAgrees honest table (store_contents old))
    (policy : Policy) (of : IsTextOf (normal_text policy) policy) (number next : ℕ) (fits : next < 2 ^ 32)
    (given : IsGiven policy table (Some number)) (parts : List PartValue) (are : parts ≡ setting_parts next number policy table)
    (next_is : next ≡ (store_contents old).next_number) (lead : after_parts parts (store_contents old) ≡ Some (store_contents new)) where
  pub small_setting : (before after : History)
      → (IsTrue honest → store_failed old ≡ false → TellsMore before after (Ok tt) parts (store_contents old))
      → IsSetting honest policy table old new before after
  small_setting before after tells = record {
    number = number;
    given = given.0;
    committed =
        subst (λ n. after_parts (setting_parts n number policy table) (store_contents old) ≡ Some (store_contents new)) next_is
        (subst (λ p. after_parts p (store_contents old) ≡ Some (store_contents new)) are lead);
    told = λ trusted works version told says.
        subst (λ n. Rests after (SaysMore version told (setting_changes n number policy table) (store_contents new))) next_is
        (tells trusted works version told (setting_changes next number policy table) (store_contents new) says
        (parts_said honest table (store_contents old) agrees refl policy of number next fits given parts are)
        (changes_lead honest table (store_contents old) agrees refl policy of number next fits given parts are
        ∙ ap (λ c. Some c) (sym (landed honest table (store_contents old) agrees refl policy of number next fits given parts are
        (store_contents new) lead))));
  }

-- What calls answer, told as the calls above them answer it.
use Rattle.std.proofs.Common.{◌≡◌, ℕ, ◌<◌, ◌≤◌, Bool, true, false, List, [], length, Option, Some, None, Result, Ok, Err}
use Rattle.std.proofs.Common.{refl, sym, ap, subst, ◌∙◌, arith}
use Rattle.std.specs.Prelude.{IfErr, IfNone, IfOk, IfSome, IsTrue, OnOk, is_some, option_map, slice_index_or}
use Rattle.std.specs.Option.{option_to_list, unwrap_or}
use Rattle.std.specs.FinMap as map
use Rattle.std.specs.Ordering.{nat_cmp}
use Rattle.std.proofs.lemmas.Result.{IfErr-weaker}
use Rattle.ax_area.proofs.OneTelling.{same_some, some_or_none}
use Rattle.ax_area.specs.Contents.{Contents, Stored}
use Rattle.ax_area_laws.specs.Risen.{risen}
use Rattle.ax_cache.specs.Pages.{CachedPages}
use Rattle.ax_disk.specs.model.Moments.{History}
use Rattle.ax_image_grammar.proofs.DefaultReads.{default_fine, default_reads}
use Rattle.ax_image_grammar.specs.Payloads.{IsTextOf}
use Rattle.ax_image_grammar.specs.Table.{AreApart, IsUsed, policy_text}
use Rattle.ax_pages.specs.AfterPart.{most_documents}
use Rattle.ax_pages.specs.Contents as log
use Rattle.ax_policy.specs.declared.policy.Policy.{Policy}
use Rattle.ax_policy.specs.Default.{default_policy}
use Rattle.ax_policy.specs.Normal.{normal_text, normal_tree}
use Rattle.ax_policy.specs.Policies.{policy_of}
use Rattle.ax_policy.specs.Table.{Table, count_at}
use Rattle.ax_pool.specs.Frames.{Frames}
use Rattle.ax_pool.specs.declared.slot.Slot.{Slot}
use Rattle.ax_store.specs.declared.fault.StoreFault.{StoreFault}
use Rattle.ax_store.specs.declared.fault.StoreFault.TheVariants.{Memory}
use Rattle.ax_store.specs.declared.store.Store.{Store}
use Rattle.ax_store.specs.declared.store.StoreFrames.{StoreFrames}
use Rattle.ax_store.specs.Faults.{FailsByDisk, IsDiskFault}
use Rattle.ax_store.specs.Slots.{AreOthersSame, IsRead, IsSlotOf}
use Rattle.ax_store.specs.Store.{AgreesUnlessFailed, SameButReads, SameButSlots, store_contents, store_failed, store_slots}
use Rattle.ax_table.specs.Damage.{HaveTwins, TellsPolicy, TellsTable}
use Rattle.ax_store.specs.Listed.{IsNextAfter}
use Rattle.ax_table.specs.Filling.{Gives, HasBelow, HasNoneBelow, IsFilled, IsFirst, IsGivenNumber, IsPolicyOf, IsStarted, IsTwin}
use Rattle.ax_table.specs.Filling.{TakesIn, TellsTwins, taken_text}
use Rattle.ax_table.specs.TableAgrees.{TableAgrees}
use Rattle.ax_table.proofs.Fitting.{IsFitting, document_given, few_documents, fitting, now_given}
use Rattle.ax_table.proofs.Passing.{IsPassed, ahead_count, fewer_left, has_room, pass_one}
use Rattle.ax_table.proofs.TableLaws.{have_twins}
use Rattle.ax_table.proofs.Telling.{memory_alone, same_contents, table_back, twins_apart, twins_told}

-- ---- answers with no fault of the disk

pub no_fault : {T : Type 0} (result : Result T StoreFault) → IfErr result (λ fault. IsDiskFault fault → ⊥) → FailsByDisk result → ⊥
no_fault (Ok value) apart fails = fails
no_fault (Err fault) apart fails = apart fails

pub memory_result : {T : Type 0} (result : Result T StoreFault) → IfErr result (λ fault. fault ≡ Memory) → FailsByDisk result → ⊥
memory_result (Ok value) memory fails = fails
memory_result (Err fault) memory fails = memory_alone fault memory fails

pub memory_answer : {C T : Type 0} (number : ℕ) (store : Store C) (result : Result T StoreFault) → IfErr result (λ fault. fault ≡ Memory)
    → IfErr result (TellsPolicy number store)
memory_answer number store (Ok value) memory = tt
memory_answer number store (Err fault) memory = let P : StoreFault → Type 0 = λ f. TellsPolicy number store f in subst P (sym memory) tt

pub twins_result : {C T : Type 0} (store : Store C) (table : Table) (result : Result T StoreFault) → IfErr result (TellsTwins store table)
    → FailsByDisk result → ⊥
twins_result store table (Ok value) told fails = fails
twins_result store table (Err fault) told fails = twins_apart store table fault told fails

-- ---- slots

pub still_slot : {C : Type 0} (old new : Store C) (number : ℕ) (slot left : Slot StoreFrames) → AreOthersSame number (store_slots old) (store_slots new)
    → left ≡ slot → IsSlotOf old slot → IsSlotOf new left
still_slot old new number slot left others same is =
    subst (λ (s : Slot StoreFrames). IsSlotOf new s) (sym same)
    (subst (λ (taken : List Bool). slice_index_or taken slot.number false ≡ true) (sym others.taken) is)

pub read_still : (text : List ℕ) (frames : Frames) (slot left : Slot StoreFrames) (len : ℕ) → left ≡ slot → IsRead text frames slot.number len
    → IsRead text frames left.number len
read_still text frames slot left len same is = subst (λ (s : Slot StoreFrames). IsRead text frames s.number len) (sym same) is

-- ---- the policy of a number

pub text_held : (found : Option (List ℕ)) (other : List ℕ) → is_some found ≡ true → found ≡ Some (unwrap_or found other)
text_held None other there = absurd cc
text_held (Some text) other there = refl

pub part_is : (found : Option (List ℕ)) (other : List ℕ) → is_some found ≡ true → slice_index_or (option_to_list found) 0 [] ≡ unwrap_or found other
part_is None other there = absurd cc
part_is (Some text) other there = refl

none_of : (found : Option (List ℕ)) → is_some found ≡ false → found ≡ None
none_of None is = refl
none_of (Some text) is = absurd cc

pub by_default : (honest : Bool) (number : ℕ) (contents : Contents) (result : Result Policy StoreFault) → map.contains_key contents.policies number ≡ false
    → IfOk result (λ policy. policy ≡ default_policy) → IfOk result (IsPolicyOf honest number contents)
by_default honest number contents (Err fault) none is = tt
by_default honest number contents (Ok policy) none is =
    subst (IsPolicyOf honest number contents) (sym is)
    (record {
      is = default_reads;
      text = λ h. record {
        well_formed = default_fine;
        is_policy = default_reads;
        spelled = ap (λ (found : Option (List ℕ)). unwrap_or found (normal_text default_policy)) (none_of (map.get contents.policies number) none);
      };
    })

pub by_text : (honest : Bool) (number : ℕ) (contents : Contents) (result : Result Policy StoreFault)
    → IfOk result (λ policy. policy_of (normal_tree policy) ≡ Some policy) → (IsTrue honest → IfOk result (IsTextOf (policy_text number contents)))
    → IfOk result (IsPolicyOf honest number contents)
by_text honest number contents (Err fault) is text = tt
by_text honest number contents (Ok policy) is text = record { is = is; text = text }

-- ---- contents of a store that was read

module _ {C : Type 0} (now then : Bool) (same : now ≡ then) (old new : Store C) (still : SameButReads old new) where
  contents_are : store_contents new ≡ store_contents old
  contents_are = same_contents old new still

  pub gives_told : (number : ℕ) (before after : Table) → Gives now number (store_contents new) before after
      → Gives then number (store_contents old) before after
  gives_told number before after gives =
      subst (λ c. Gives then number c before after) contents_are (subst (λ h. Gives h number (store_contents new) before after) same gives)

  pub started_told : (table : Table) → IsStarted then table (store_contents old) → IsStarted now table (store_contents new)
  started_told table started =
      subst (IsStarted now table) (sym contents_are) (subst (λ h. IsStarted h table (store_contents old)) (sym same) started)

  pub filled_told : (table : Table) → IsFilled now table (store_contents new) → IsFilled then table (store_contents old)
  filled_told table filled = subst (IsFilled then table) contents_are (subst (λ h. IsFilled h table (store_contents new)) same filled)

pub given_told : {C : Type 0} (old new : Store C) (number : ℕ) → SameButReads old new → IsGivenNumber number (store_contents old)
    → IsGivenNumber number (store_contents new)
given_told old new number still of = subst (IsGivenNumber number) (sym (same_contents old new still)) of

-- ---- what can't be over an honest disk

module _ {C : Type 0} (pages : C → CachedPages) (honest : Bool) (store : Store C) (history : History)
    (agrees : AgreesUnlessFailed pages honest store history) (h : IsTrue honest) (works : store_failed store ≡ false) where
  fits : IsFitting (store_contents store)
  fits = fitting pages store history (agrees h works)

  pub now_refuted : (now : ℕ) → now ≡ (store_contents store).policy_now → (IsGivenNumber now (store_contents store) → ⊥) → ⊥
  now_refuted now is none = none (subst (λ n. IsGivenNumber n (store_contents store)) (sym is) (now_given (store_contents store) fits))

  pub document_refuted : (number policy : ℕ)
      → Some policy ≡ option_map (λ (document : Stored). document.policy) (map.get (store_contents store).documents number)
      → (IsGivenNumber policy (store_contents store) → ⊥) → ⊥
  document_refuted number policy head none = by_found (map.get (store_contents store).documents number) refl head
    where
      by_found : (found : Option Stored) → map.get (store_contents store).documents number ≡ found
          → Some policy ≡ option_map (λ (document : Stored). document.policy) found → ⊥
      by_found None is head = some_or_none policy (sym head)
      by_found (Some document) is head =
          none (subst (λ n. IsGivenNumber n (store_contents store)) (sym (same_some policy document.policy head))
          (document_given (store_contents store) fits number document is))

  pub count_refuted : most_documents < map.len (store_contents store).documents → ⊥
  count_refuted many = omega (arith, many, few_documents (store_contents store) fits)

-- ---- heads

module _ (documents : map.FinMap nat_cmp Stored) (number policy : ℕ)
    (head : Some policy ≡ option_map (λ (document : Stored). document.policy) (map.get documents number)) where
  pub head_of : (document : Stored) → map.get documents number ≡ Some document → policy ≡ document.policy
  head_of document is = same_some policy document.policy (head ∙ ap (option_map (λ (document : Stored). document.policy)) is)

  pub head_document : (document : Stored) × (map.get documents number ≡ Some document)
  head_document = by_found (map.get documents number) head
    where
      by_found : (found : Option Stored) → Some policy ≡ option_map (λ (document : Stored). document.policy) found
          → (document : Stored) × (found ≡ Some document)
      by_found None head = absurd (some_or_none policy (sym head))
      by_found (Some document) head = (document, refl)

pub head_used : (contents : Contents) (number policy : ℕ)
    → Some policy ≡ option_map (λ (document : Stored). document.policy) (map.get contents.documents number) → IsUsed policy contents
head_used contents number policy head =
    let held = head_document contents.documents number policy head in
    record { number = number; document = held.0; held = held.1; indexed_by = sym (head_of contents.documents number policy head held.0 held.1) }

-- the meta has a part where the policy now is not number 0
pub meta_there : (parts : log.Contents) (now : ℕ) → now ≡ log.policy_now parts → (IsGivenNumber now (risen parts) → ⊥)
    → 0 < length (option_to_list parts.meta)
meta_there parts now is none = by_meta parts.meta refl
  where
    zero_given : (n : ℕ) → n ≡ 0 → IsGivenNumber n (risen parts)
    zero_given n is = subst (λ m. IsGivenNumber m (risen parts)) (sym is) (record { few = omega arith; given = refl })

    by_meta : (meta : Option (List ℕ)) → parts.meta ≡ meta → 0 < length (option_to_list meta)
    by_meta None e = absurd (none (zero_given now (is ∙ ap log.now_of e)))
    by_meta (Some payload) e = omega arith

-- ---- twins

pub twin_by : {E : Type 0} (table : Table) (number : ℕ) (text : List ℕ) (result : Result Bool E) → number ≤ 8 → Some text ≡ taken_text table number
    → IfOk result (λ has. has ≡ true → HasBelow table text number) → IfOk result (λ yes. yes ≡ true → IsTwin table number)
twin_by table number text (Ok found) few is has = λ e. record { few = few; text = text; here = sym is; below = has e }
twin_by table number text (Err error) few is has = tt

pub none_by : {E : Type 0} (table : Table) (number : ℕ) (text : List ℕ) (result : Result Bool E) → Some text ≡ taken_text table number
    → IfOk result (λ has. has ≡ false → HasNoneBelow table text number)
    → IfOk result (λ yes. yes ≡ false → (other : List ℕ) → taken_text table number ≡ Some other → HasNoneBelow table other number)
none_by table number text (Ok found) is none =
    λ e other there. subst (λ t. HasNoneBelow table t number) (same_some text other (is ∙ there)) (none e)
none_by table number text (Err error) is none = tt

pub told_twins : {C T : Type 0} (honest : Bool) (table : Table) (old new : Store C) (result : Result T StoreFault) → SameButReads old new
    → IsFilled honest table (store_contents old) → IsTrue honest → IfErr result (TellsTwins new table) → IfErr result (TellsTable old)
told_twins honest table old new (Ok value) still filled h told = tt
told_twins honest table old new (Err fault) still filled h told =
    table_back old new fault still
    (twins_told new table fault
    (λ number twin. subst HaveTwins (sym (same_contents old new still)) (have_twins honest table (store_contents old) filled h number twin)) told)

-- ---- one document after another

pub first_held : (all : map.FinMap nat_cmp Stored) (next : Option ℕ) → IsFirst all next → IfSome next (λ number. IsTrue (map.contains_key all number))
first_held all None first = tt
first_held all (Some number) first = first.0

module _ {C : Type 0} (now then : Bool) (same : now ≡ then) (old here new : Store C) (still : SameButReads old here) (after : SameButReads here new) where
  new_is : store_contents new ≡ store_contents old
  new_is = same_contents here new after ∙ same_contents old here still

  pub next_held : (number : ℕ) (next : Option ℕ) → IfSome next (IsNextAfter (store_contents new).documents number)
      → IfSome next (λ other. IsTrue (map.contains_key (store_contents old).documents other))
  next_held number None found = tt
  next_held number (Some other) found = subst (λ (c : Contents). IsTrue (map.contains_key c.documents other)) new_is found.held

  pub next_less : (number : ℕ) (next before : Option ℕ) → before ≡ Some number
      → IfSome next (IsNextAfter (store_contents new).documents number)
      → IfNone next ((other : ℕ) → number < other → map.get (store_contents new).documents other ≡ None)
      → IfSome before (λ other. IsTrue (map.contains_key (store_contents old).documents other))
      → ahead_count next (store_contents old).documents < ahead_count before (store_contents old).documents
  next_less number next before is found none held =
      subst (λ (o : Option ℕ). ahead_count next (store_contents old).documents < ahead_count o (store_contents old).documents) (sym is)
      (fewer_left (store_contents old).documents number next
      (subst (λ (c : Contents). IfSome next (IsNextAfter c.documents number)) new_is found)
      (subst (λ (c : Contents). IfNone next ((other : ℕ) → number < other → map.get c.documents other ≡ None)) new_is none)
      (subst (λ (o : Option ℕ). IfSome o (λ other. IsTrue (map.contains_key (store_contents old).documents other))) is held))

  pub pass_on : (number : ℕ) (table more : Table) (next before : Option ℕ) → before ≡ Some number
      → IfSome before (λ other. IsTrue (map.contains_key (store_contents old).documents other))
      → IsPassed then (store_contents old) before table
      → ((document : Stored) → map.get (store_contents here).documents number ≡ Some document
      → TakesIn now document.policy (store_contents here) table more)
      → IfSome next (IsNextAfter (store_contents new).documents number)
      → IfNone next ((other : ℕ) → number < other → map.get (store_contents new).documents other ≡ None)
      → IsPassed then (store_contents old) next more
  pass_on number table more next before is held passed takes found none =
      let there = held_document (map.get (store_contents old).documents number)
      (subst (λ (o : Option ℕ). IfSome o (λ other. IsTrue (map.contains_key (store_contents old).documents other))) is held) in
      let here_is : store_contents here ≡ store_contents old = same_contents old here still in
      let taken : TakesIn then there.0.policy (store_contents old) table more =
      subst (λ c. TakesIn then there.0.policy c table more) here_is
      (subst (λ h. TakesIn h there.0.policy (store_contents here) table more) same
      (takes there.0 (ap (λ (c : Contents). map.get c.documents number) here_is ∙ there.1))) in
      pass_one then (store_contents old) number there.0 table there.1 (subst (λ (o : Option ℕ). IsPassed then (store_contents old) o table) is passed) more
      taken
      next (subst (λ (c : Contents). IfSome next (IsNextAfter c.documents number)) new_is found)
      (subst (λ (c : Contents). IfNone next ((other : ℕ) → number < other → map.get c.documents other ≡ None)) new_is none)
    where
      held_document : (found : Option Stored) → IsTrue (is_some found) → (document : Stored) × (found ≡ Some document)
      held_document None there = absurd cc
      held_document (Some document) there = (document, refl)

module _ {C : Type 0} (honest : Bool) (old here : Store C) (still : SameButReads old here) (number : ℕ) (before : Option ℕ) (is : before ≡ Some number) where
  pub held_here : IfSome before (λ other. IsTrue (map.contains_key (store_contents old).documents other))
      → IsTrue (map.contains_key (store_contents here).documents number)
  held_here held =
      subst (λ (c : Contents). IsTrue (map.contains_key c.documents number)) (sym (same_contents old here still))
      (subst (λ (o : Option ℕ). IfSome o (λ other. IsTrue (map.contains_key (store_contents old).documents other))) is held)

  pub room_here : (table : Table) → IsPassed honest (store_contents old) before table → map.len (store_contents old).documents ≤ most_documents
      → (document : Stored) → map.get (store_contents here).documents number ≡ Some document → count_at table document.policy < most_documents
  room_here table passed few document held =
      has_room honest (store_contents old) number document table
      (ap (λ (c : Contents). map.get c.documents number) (sym (same_contents old here still)) ∙ held)
      (subst (λ (o : Option ℕ). IsPassed honest (store_contents old) o table) is passed) few

-- ---- a store of which a slot was taken

module _ {C : Type 0} (old took : Store C) (first : SameButSlots old took) where
  took_reads : SameButReads old took
  took_reads = record { logged = first.logged; pages = first.pages }

  pub took_table : (honest : Bool) (result : Result Table StoreFault) → IfOk result (λ table. TableAgrees honest table (store_contents took))
      → IfOk result (λ table. TableAgrees honest table (store_contents old))
  took_table honest result agrees =
      subst (λ (c : Contents). IfOk result (λ table. TableAgrees honest table c)) (same_contents old took took_reads) agrees

  pub took_apart : {T : Type 0} (result : Result T StoreFault) → OnOk result (AreApart (store_contents took)) → OnOk result (AreApart (store_contents old))
  took_apart result apart = subst (λ (c : Contents). OnOk result (AreApart c)) (same_contents old took took_reads) apart

  pub took_told : {T : Type 0} (result : Result T StoreFault) → IfErr result (TellsTable took) → IfErr result (TellsTable old)
  took_told result told =
      IfErr-weaker result (TellsTable took) (TellsTable old) (λ fault. table_back old took fault took_reads) told

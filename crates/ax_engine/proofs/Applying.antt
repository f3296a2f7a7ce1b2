-- What an engine answers to a line, from what its documents tell.
use Rattle.std.proofs.Common.{◌≡◌, ℕ, ◌≤◌, ◌+◌, Bool, true, false, List, Option, Some, None, option_map, Result, Ok, Err, OnOk, inl, inr, refl, sym, ap}
use Rattle.std.proofs.Common.{subst, ◌∙◌, arith}
use Rattle.std.specs.Prelude.{IfOk, IfErr, IsSome, IsTrue, if◌then◌else◌}
use Rattle.std.proofs.lemmas.Bool.{false≢true}
use Rattle.std.specs.declared.alloc.Global.{Global}
use Rattle.std.specs.declared.vec.Vec.{Vec}
use Rattle.ax_area.specs.Contents.{Contents}
use Rattle.ax_area.specs.Image.{Says}
use Rattle.ax_area.specs.Told.{Told}
use Rattle.ax_cache.specs.Pages.{CachedPages}
use Rattle.ax_container.specs.Container.{Container, contains, tree_of}
use Rattle.ax_container.specs.Writes.{WriteRefusal, Conflict, Absent, Full, exchanged, inserted, upserted}
use Rattle.ax_disk.specs.laws.StaysLaws.{stays_start, stays_turn}
use Rattle.ax_disk.specs.model.Image.{Image}
use Rattle.ax_disk.specs.model.Moments.{History}
use Rattle.ax_disk.specs.model.Stays.{Rests, Stays, Turns}
use Rattle.ax_grammar.specs.Query.{query_in}
use Rattle.ax_image.specs.Readable.{SaysReadable, newest}
use Rattle.ax_image_grammar.proofs.MetThere.{nothing_met}
use Rattle.ax_image_pairs.specs.Indexed.{ContentsHoldAll, HasAll}
use Rattle.ax_lines.specs.Asked.{IsAsked}
use Rattle.ax_lines.specs.declared.body.Body.{Body}
use Rattle.ax_lines.specs.declared.line.Line.{Line}
use Rattle.ax_lines.specs.declared.line.Line.TheVariants as line
use Rattle.ax_lines.specs.declared.refusal.Refusal.TheVariants as refusal
use Rattle.ax_machine.specs.Needs.{held_need}
use Rattle.ax_machine.specs.Querying.{query_reply}
use Rattle.ax_machine.specs.Reply as reply
use Rattle.ax_machine.specs.Run.{OutOfMemory, Served}
use Rattle.ax_machine.specs.Step.{doc_reply, served, write_by, write_refusal, written}
use Rattle.ax_mean.specs.declared.query.Query.{Query}
use Rattle.ax_policy.specs.declared.policy.Policy.{Policy}
use Rattle.ax_store.specs.Faults.{HasDiskCause}
use Rattle.ax_store.specs.Store.{store_contents, store_failed}
use Rattle.ax_store.specs.declared.fault.StoreFault.{StoreFault}
use Rattle.ax_store.specs.declared.fault.StoreFault.TheVariants as store_fault
use Rattle.ax_store.specs.declared.store.Store.{Store}
use Rattle.ax_table.specs.TableAgrees.{TableAgrees}
use Rattle.ax_tree.specs.CanonicalText.{canonical_text}
use Rattle.ax_tree.specs.Document.{document_id}
use Rattle.ax_tree.specs.declared.tree.Tree.{Tree}
use Rattle.ax_write.proofs.FoundNumbers.{undamaged}
use Rattle.ax_index.proofs.Unmoved.{same_contents}
use Rattle.ax_index.specs.Reads.{Reads}
use Rattle.ax_policy.specs.Table.{Table}
use Rattle.ax_write.specs.Writes.{IdlesUnlessMade, IsKept, Looks, TellsDamage, TellsWrite, left_by, of_store}
use Rattle.ax_write.specs.declared.fault.WriteFault.{WriteFault}
use Rattle.ax_write.specs.declared.fault.WriteFault.TheVariants as write
use Rattle.ax_documents.specs.Damage.{IsMetIn, MeetsBy}
use Rattle.ax_documents.specs.Documents.{DocumentsHold, DocumentsWork, IsReadOf, WorkUnlessDisk}
use Rattle.ax_documents.specs.Opening.{IsImageOf}
use Rattle.ax_documents.specs.declared.documents.Documents.{Documents}
use Rattle.ax_engine.specs.Damage.{IfRows, Meets, MeetsPlanned, PassesOverNone}
use Rattle.ax_engine.specs.Engine.{Applies, CountsAnswer, HoldsOver, IdlesUnlessDone, IsWrite, MayFail, Tells, Works, by_document, made_by, made_of}
use Rattle.ax_engine.specs.Judging.{Judges, MeetsLine}
use Rattle.ax_engine.specs.Replies.{FitsRead, FitsRefusal, IsReply, MayReply, look_up_answer, own_refusal, read_answer, write_answer}
use Rattle.ax_engine.specs.declared.engine.Engine.{Engine}
use Rattle.ax_engine.specs.declared.engine.Fault.{Fault}
use Rattle.ax_engine.specs.declared.engine.Fault.TheVariants as fault
use Rattle.ax_engine.specs.declared.reply.Reply.{Reply}
use Rattle.ax_engine.specs.declared.reply.Reply.TheVariants as given
use Rattle.ax_engine.proofs.Damaging.{if_rows}
use Rattle.ax_engine.proofs.Holding.{holds_read, idled, image_of, images_rest, images_turn, rests_of}

-- ---- a write

by_id : (write : List ℕ → Tree → Container → Result Container WriteRefusal) (id : Option (List ℕ)) (tree : Tree)
    (before : Container) → IsSome id → write_by write id tree before ≡ written before (by_document write id tree before)
by_id write (Some id) tree before some = refl
by_id write None tree before some = absurd (false≢true some)

-- the step of a write is what it makes of the container, or why that refuses it
pub write_is : (asked : Line) (before : Container) → IsWrite asked → IsAsked asked
    → served before (Ok asked) ≡ written before (made_of asked before)
write_is (line.Create tree) before write storable = by_id inserted (document_id tree) tree before storable.document
write_is (line.Upsert tree) before write storable = by_id upserted (document_id tree) tree before storable.document
write_is (line.Replace tree) before write storable = by_id exchanged (document_id tree) tree before storable.document
write_is (line.Delete id) before write asked = refl
write_is (line.Read id) before write asked = absurd write
write_is (line.Query body) before write asked = absurd write

-- the container behind a write is the one that was made of it, or the one before
left_is : (before : Container) (made : Result Container WriteRefusal) → (written before made).0 ≡ left_by before made
left_is before (Ok after) = refl
left_is before (Err why) = refl

module _ {C : Type 0} (honest : Type 0) (before : Container) (asked : Line) (made : Result Container WriteRefusal)
    (is : served before (Ok asked) ≡ written before made) (documents : Documents C) (old new : History) where
  -- the step ends so
  ends : (end : Result Container WriteRefusal) → made ≡ end → served before (Ok asked) ≡ written before end
  ends end same = is ∙ ap (written before) same

  tells_made : TellsWrite before made (Ok tt) documents.store documents.ids old new
      → Tells honest before asked (Ok given.Ok) documents old new
  tells_made told =
      let same : served before (Ok asked) ≡ (told.0, reply.Ok) = ends (Ok told.0) told.1 in (
        Served,
        ap (λ (m : Container × reply.Reply). m.1) same,
        subst (λ (m : Container × reply.Reply). DocumentsHold documents m.0) (sym same) told.2,
        λ h. subst (λ (m : Container × reply.Reply). Turns old new (HasAll before) (HasAll m.0)) (sym same) told.3,
      )

  tells_refused : (why : WriteRefusal) → made ≡ Err why → IsKept before documents.store documents.ids old new
      → Tells honest before asked (Ok (given.Refused (write_refusal why))) documents old new
  tells_refused why at kept =
      let same : served before (Ok asked) ≡ (before, reply.Refused (write_refusal why)) = ends (Err why) at in (
        Served,
        ap (λ (m : Container × reply.Reply). m.1) same,
        subst (λ (m : Container × reply.Reply). DocumentsHold documents m.0) (sym same) kept.0,
        λ h. subst (λ (m : Container × reply.Reply). Turns old new (HasAll before) (HasAll m.0)) (sym same) kept.1,
      )

  tells_disk : Turns old new (HasAll before) (HasAll (left_by before made)) → Turns old new (HasAll before) (HasAll (served before (Ok asked)).0)
  tells_disk turns =
      subst (λ (c : Container). Turns old new (HasAll before) (HasAll c))
      (sym (ap (λ (m : Container × reply.Reply). m.0) is ∙ left_is before made)) turns

  -- by what the write came to
  pub tells_written : (result : Result (Unit {0}) WriteFault) → TellsWrite before made result documents.store documents.ids old new
      → Tells honest before asked (write_answer result) documents old new
  tells_written (Ok done) told = tells_made told
  tells_written (Err write.Conflict) told = tells_refused Conflict told.0 told.1
  tells_written (Err write.Absent) told = tells_refused Absent told.0 told.1
  tells_written (Err write.Full) told = tells_refused Full told.0 told.1
  tells_written (Err (write.Store store_fault.Disk)) told = λ h. tells_disk told
  tells_written (Err (write.Store (store_fault.Damaged extent at))) told = told
  tells_written (Err (write.Store (store_fault.Newer version))) told = absurd told
  -- want of memory changes nothing
  tells_written (Err (write.Store store_fault.Memory)) told = (OutOfMemory, refl, told.0, λ h. told.1)

pub works_written : {C : Type 0} (pages : C → CachedPages) (honest : Bool) (documents : Documents C) (new : History)
    (result : Result (Unit {0}) WriteFault) → WorkUnlessDisk pages honest (of_store result) documents new
    → OnOk (write_answer result) (DocumentsWork pages honest documents new)
works_written pages honest documents new (Ok done) works = works
works_written pages honest documents new (Err write.Conflict) works = works
works_written pages honest documents new (Err write.Absent) works = works
works_written pages honest documents new (Err write.Full) works = works
works_written pages honest documents new (Err (write.Store store_fault.Disk)) works = tt
works_written pages honest documents new (Err (write.Store (store_fault.Damaged extent at))) works = tt
works_written pages honest documents new (Err (write.Store (store_fault.Newer version))) works = works
works_written pages honest documents new (Err (write.Store store_fault.Memory)) works = works

pub counted_written : (result : Result (Unit {0}) WriteFault) (l m : ℕ) → HasDiskCause (of_store result) l m
    → CountsAnswer (write_answer result) l m
counted_written (Ok done) l m cause = cause.uncounted
counted_written (Err write.Conflict) l m cause = cause.uncounted
counted_written (Err write.Absent) l m cause = cause.uncounted
counted_written (Err write.Full) l m cause = cause.uncounted
counted_written (Err (write.Store store_fault.Disk)) l m cause = cause.failed tt
counted_written (Err (write.Store (store_fault.Damaged extent at))) l m cause = cause.uncounted
counted_written (Err (write.Store (store_fault.Newer version))) l m cause = cause.uncounted
counted_written (Err (write.Store store_fault.Memory)) l m cause = cause.uncounted

pub met_written : (result : Result (Unit {0}) WriteFault) (image : Image) → IfErr (of_store result) (λ why. MeetsBy why image)
    → IfErr (write_answer result) (λ why. Meets why image)
met_written (Ok done) image met = tt
met_written (Err write.Conflict) image met = tt
met_written (Err write.Absent) image met = tt
met_written (Err write.Full) image met = tt
met_written (Err (write.Store store_fault.Disk)) image met = tt
met_written (Err (write.Store (store_fault.Damaged extent at))) image met = met
met_written (Err (write.Store (store_fault.Newer version))) image met = tt
met_written (Err (write.Store store_fault.Memory)) image met = tt

pub idle_written : (result : Result (Unit {0}) WriteFault) (old new : History) → IdlesUnlessMade result old new
    → IdlesUnlessDone (write_answer result) old new
idle_written (Ok done) old new idle = tt
idle_written (Err write.Conflict) old new idle = idle
idle_written (Err write.Absent) old new idle = idle
idle_written (Err write.Full) old new idle = idle
idle_written (Err (write.Store store_fault.Disk)) old new idle = tt
idle_written (Err (write.Store (store_fault.Damaged extent at))) old new idle = idle
idle_written (Err (write.Store (store_fault.Newer version))) old new idle = idle
idle_written (Err (write.Store store_fault.Memory)) old new idle = idle

may_want : (policy : Policy) (asked : Line) → IsWrite asked → MayReply policy asked (given.Refused refusal.Memory)
may_want policy (line.Create tree) is = inr (inr refl)
may_want policy (line.Upsert tree) is = inr refl
may_want policy (line.Replace tree) is = inr refl
may_want policy (line.Delete id) is = inr refl
may_want policy (line.Read id) is = absurd is
may_want policy (line.Query body) is = absurd is

may_store : (policy : Policy) (asked : Line) (why : StoreFault) → IsWrite asked
    → IfOk (write_answer (Err (write.Store why))) (λ reply. MayReply policy asked reply)
may_store policy asked store_fault.Disk is = tt
may_store policy asked (store_fault.Damaged extent at) is = tt
may_store policy asked (store_fault.Newer version) is = may_want policy asked is
may_store policy asked store_fault.Memory is = may_want policy asked is

may_refuse : (policy : Policy) (asked : Line) (why : WriteFault) → IsWrite asked → MayFail asked why
    → IfOk (write_answer (Err why)) (λ reply. MayReply policy asked reply)
may_refuse policy asked (write.Store why) is may = may_store policy asked why is
may_refuse policy (line.Create tree) write.Conflict is may = inl refl
may_refuse policy (line.Create tree) write.Absent is may = absurd may
may_refuse policy (line.Create tree) write.Full is may = inr (inl refl)
may_refuse policy (line.Upsert tree) write.Conflict is may = absurd may
may_refuse policy (line.Upsert tree) write.Absent is may = absurd may
may_refuse policy (line.Upsert tree) write.Full is may = inl refl
may_refuse policy (line.Replace tree) write.Conflict is may = absurd may
may_refuse policy (line.Replace tree) write.Absent is may = inl refl
may_refuse policy (line.Replace tree) write.Full is may = absurd may
may_refuse policy (line.Delete id) write.Conflict is may = absurd may
may_refuse policy (line.Delete id) write.Absent is may = inl refl
may_refuse policy (line.Delete id) write.Full is may = absurd may
may_refuse policy (line.Read id) why is may = absurd is
may_refuse policy (line.Query body) why is may = absurd is

may_be_made : (policy : Policy) (asked : Line) → IsWrite asked → MayReply policy asked given.Ok
may_be_made policy (line.Create tree) is = tt
may_be_made policy (line.Upsert tree) is = tt
may_be_made policy (line.Replace tree) is = tt
may_be_made policy (line.Delete id) is = tt
may_be_made policy (line.Read id) is = absurd is
may_be_made policy (line.Query body) is = absurd is

pub may_write : (policy : Policy) (asked : Line) (result : Result (Unit {0}) WriteFault) → IsWrite asked → IfErr result (MayFail asked)
    → IfOk (write_answer result) (λ reply. MayReply policy asked reply)
may_write policy asked (Ok done) is may = may_be_made policy asked is
may_write policy asked (Err why) is may = may_refuse policy asked why is may

-- ---- what a line has met that is answered

pub if_ok : (answer : Result Reply Fault) (Is : Reply → Type 0) → ((reply : Reply) → answer ≡ Ok reply → Is reply) → IfOk answer Is
if_ok (Ok reply) Is by = by reply refl
if_ok (Err why) Is by = tt

pub judges_written : (asked : Line) (made : Result (Unit {0}) WriteFault) (ids : List (List ℕ × ℕ)) (contents : Contents) → IsWrite asked
    → MeetsLine asked made ids contents → IfOk (write_answer made) (Judges asked ids contents)
judges_written (line.Create tree) made ids contents is met =
    if_ok (write_answer made) (Judges (line.Create tree) ids contents) (λ reply same. record { made = made; answer = same; met = met })
judges_written (line.Upsert tree) made ids contents is met =
    if_ok (write_answer made) (Judges (line.Upsert tree) ids contents) (λ reply same. record { made = made; answer = same; met = met })
judges_written (line.Replace tree) made ids contents is met =
    if_ok (write_answer made) (Judges (line.Replace tree) ids contents) (λ reply same. record { made = made; answer = same; met = met })
judges_written (line.Delete id) made ids contents is met =
    if_ok (write_answer made) (Judges (line.Delete id) ids contents) (λ reply same. record { made = made; answer = same; met = met })
judges_written (line.Read id) made ids contents is met = absurd is
judges_written (line.Query body) made ids contents is met = absurd is

-- ---- the steps of a line for an id

pub steps_of_held : (id : List ℕ) (before : Container) (steps now : ℕ) → now ≤ steps + 1 → (contains id before ≡ false → now ≡ steps)
    → now ≤ steps + held_need (Some id) before
steps_of_held id before steps now one none = by (contains id before) none
  where
    by : (is : Bool) → (is ≡ false → now ≡ steps) → now ≤ steps + (if is then 1 else 0)
    by true none = one
    by false none = omega (arith, none refl)

-- the same of a line for a document with its id
pub steps_of_document : (id : Option (List ℕ)) (before : Container) (steps now : ℕ) → IsSome id → now ≤ steps + 1
    → ((own : List ℕ) → id ≡ Some own → contains own before ≡ false → now ≡ steps)
    → now ≤ steps + held_need id before
steps_of_document (Some id) before steps now some one none = steps_of_held id before steps now one (none id refl)
steps_of_document None before steps now some one none = absurd (false≢true some)

-- ---- the id of a line

pub some_id : (o : Option (List ℕ)) → IsSome o → (id : List ℕ) × (o ≡ Some id)
some_id (Some id) is = (id, refl)
some_id None is = absurd (false≢true is)

-- what is made by the document's own id
pub made_by_id : (write : List ℕ → Tree → Container → Result Container WriteRefusal) (tree : Tree) (before : Container) (id : List ℕ)
    → document_id tree ≡ Some id → write id tree before ≡ by_document write (document_id tree) tree before
made_by_id write tree before id is = sym (ap (λ own. by_document write own tree before) is)

-- of an image that has a container, all of which can be read, nothing is outside its grammar
pub none_met : (image : Image) (container : Container) (extent at : ℕ) → HasAll container image → SaysReadable image
    → IsMetIn image extent at → ⊥
none_met image container extent at has readable (area, is, met) =
    let stand = image_of container image has readable in
    nothing_met newest stand.version stand.told stand.contents area at image stand.grammatical met

-- ---- a read changes nothing

found_reply : (text : List ℕ) (tree : Option Tree) → Some text ≡ option_map canonical_text tree → doc_reply tree ≡ reply.Doc text
found_reply text (Some tree) is = let same : canonical_text tree ≡ text = cc in ap reply.Doc same
found_reply text None is = absurd cc

none_reply : (tree : Option Tree) → None ≡ option_map canonical_text tree → doc_reply tree ≡ reply.Refused refusal.Absent
none_reply (Some tree) is = absurd cc
none_reply None is = refl

abbrev pub LookedUp : Type 0
LookedUp = Result (Option (Vec ℕ Global)) StoreFault

pub works_looked : {C : Type 0} (pages : C → CachedPages) (honest : Bool) (documents : Documents C) (new : History)
    (found : LookedUp) → WorkUnlessDisk pages honest found documents new
    → OnOk (look_up_answer found) (DocumentsWork pages honest documents new)
works_looked pages honest documents new (Ok (Some text)) works = works
works_looked pages honest documents new (Ok None) works = works
works_looked pages honest documents new (Err store_fault.Disk) works = tt
works_looked pages honest documents new (Err (store_fault.Damaged extent at)) works = tt
works_looked pages honest documents new (Err (store_fault.Newer version)) works = works
works_looked pages honest documents new (Err store_fault.Memory) works = works

pub counted_looked : (found : LookedUp) (l m : ℕ) → HasDiskCause found l m → CountsAnswer (look_up_answer found) l m
counted_looked (Ok (Some text)) l m cause = cause.uncounted
counted_looked (Ok None) l m cause = cause.uncounted
counted_looked (Err store_fault.Disk) l m cause = cause.failed tt
counted_looked (Err (store_fault.Damaged extent at)) l m cause = cause.uncounted
counted_looked (Err (store_fault.Newer version)) l m cause = cause.uncounted
counted_looked (Err store_fault.Memory) l m cause = cause.uncounted

pub met_looked : (found : LookedUp) (image : Image) → IfErr found (λ why. MeetsBy why image) → IfErr (look_up_answer found) (λ why. Meets why image)
met_looked (Ok (Some text)) image met = tt
met_looked (Ok None) image met = tt
met_looked (Err store_fault.Disk) image met = tt
met_looked (Err (store_fault.Damaged extent at)) image met = met
met_looked (Err (store_fault.Newer version)) image met = tt
met_looked (Err store_fault.Memory) image met = tt

pub may_look : (found : LookedUp) → IfOk (look_up_answer found) FitsRead
may_look (Ok (Some text)) = tt
may_look (Ok None) = inl refl
may_look (Err store_fault.Disk) = tt
may_look (Err (store_fault.Damaged extent at)) = tt
may_look (Err (store_fault.Newer version)) = inr refl
may_look (Err store_fault.Memory) = inr refl

pub judges_looked : (id bytes : List ℕ) (found : LookedUp) (ids : List (List ℕ × ℕ)) (contents : Contents) → bytes ≡ id
    → IfOk found (IsReadOf ids bytes contents) → IfOk (look_up_answer found) (Judges (line.Read id) ids contents)
judges_looked id bytes (Ok text) ids contents same met =
    if_ok (look_up_answer (Ok text)) (Judges (line.Read id) ids contents)
    (λ reply is. inl (record { found = text; answer = is; met = subst (λ i. IsReadOf ids i contents text) same met }))
judges_looked id bytes (Err store_fault.Disk) ids contents same met = tt
judges_looked id bytes (Err (store_fault.Damaged extent at)) ids contents same met = tt
judges_looked id bytes (Err (store_fault.Newer version)) ids contents same met = inr refl
judges_looked id bytes (Err store_fault.Memory) ids contents same met = inr refl

pub tells_looked : {C : Type 0} (honest : Type 0) (was : Store C) (documents : Documents C) (old new : History) (before : Container)
    (id bytes : List ℕ) (found : LookedUp) → bytes ≡ id → ContentsHoldAll (store_contents was) before
    → DocumentsHold documents before → Turns old new (HasAll before) (HasAll before) → IfErr found (TellsDamage was)
    → IfOk found (λ found. option_map (λ (text : Vec ℕ Global). text.items) found ≡ option_map canonical_text (tree_of bytes before))
    → Tells honest before (line.Read id) (look_up_answer found) documents old new
tells_looked honest was documents old new before id bytes (Ok (Some text)) same hold holds turns told is =
    (Served, found_reply text.items (tree_of id before) (is ∙ of_id), holds, λ h. turns)
  where
    of_id : option_map canonical_text (tree_of bytes before) ≡ option_map canonical_text (tree_of id before)
    of_id = ap (λ i. option_map canonical_text (tree_of i before)) same
tells_looked honest was documents old new before id bytes (Ok None) same hold holds turns told is =
    (Served, none_reply (tree_of id before) (is ∙ of_id), holds, λ h. turns)
  where
    of_id : option_map canonical_text (tree_of bytes before) ≡ option_map canonical_text (tree_of id before)
    of_id = ap (λ i. option_map canonical_text (tree_of i before)) same
tells_looked honest was documents old new before id bytes (Err store_fault.Disk) same hold holds turns told is = λ h. turns
tells_looked honest was documents old new before id bytes (Err (store_fault.Damaged extent at)) same hold holds turns told is =
    undamaged was before extent at hold told
tells_looked honest was documents old new before id bytes (Err (store_fault.Newer version)) same hold holds turns told is = absurd told
tells_looked honest was documents old new before id bytes (Err store_fault.Memory) same hold holds turns told is =
    (OutOfMemory, refl, holds, λ h. turns)

-- ---- a query changes nothing

-- what it left, and answered
module _ {C : Type 0} (pages : C → CachedPages) (honest : Bool) (documents : Documents C) (store : Store C)
    (old new : History) (l m : ℕ) (works : DocumentsWork pages honest documents old) where
  abbrev after : Documents C
  after = record documents { store = store }

  -- the store has not failed
  works_looked_on : Reads pages honest documents.store store old new l m → store_failed store ≡ store_failed documents.store
      → DocumentsWork pages honest after new
  works_looked_on reads still = record {
    unfailed = still ∙ works.unfailed;
    agrees = λ h. reads.agrees h (still ∙ works.unfailed);
    table = subst (λ (contents : Contents). TableAgrees honest documents.table contents)
        (sym (same_contents documents.store store reads.same.same)) works.table;
    free = reads.same.taken ∙ works.free;
  }

  pub works_read : (read : Result Reply StoreFault) → Looks pages honest read documents.store store old new l m
      → OnOk (read_answer read) (DocumentsWork pages honest after new)
  works_read (Ok reply) looks = works_looked_on looks.reads looks.fails
  works_read (Err store_fault.Disk) looks = tt
  works_read (Err (store_fault.Damaged extent at)) looks = tt
  works_read (Err (store_fault.Newer version)) looks = works_looked_on looks.reads looks.fails
  works_read (Err store_fault.Memory) looks = works_looked_on looks.reads looks.fails

  pub counted_read : (read : Result Reply StoreFault) → Looks pages honest read documents.store store old new l m
      → CountsAnswer (read_answer read) l m
  counted_read (Ok reply) looks = (looks.cause works.unfailed).uncounted
  counted_read (Err store_fault.Disk) looks = (looks.cause works.unfailed).failed tt
  counted_read (Err (store_fault.Damaged extent at)) looks = (looks.cause works.unfailed).uncounted
  counted_read (Err (store_fault.Newer version)) looks = (looks.cause works.unfailed).uncounted
  counted_read (Err store_fault.Memory) looks = (looks.cause works.unfailed).uncounted

  module _ (before : Container) (body : Body) (holds : DocumentsHold documents before) where
    stands_looked : Reads pages honest documents.store store old new l m → DocumentsHold after before
    stands_looked reads = holds_read documents store before reads.same.same holds

    pub tells_read : (read : Result Reply StoreFault) → Looks pages honest read documents.store store old new l m
        → IfOk read (λ reply. IsReply reply (query_reply body before)) → IsTrue honest
        → Tells (IsTrue honest) before (line.Query body) (read_answer read) after old new
    tells_read (Ok made) looks is h =
        (Served, is, stands_looked looks.reads, λ t. idled pages honest documents old before works holds new (looks.reads.lists h) h)
    tells_read (Err store_fault.Disk) looks is h =
        λ t. idled pages honest documents old before works holds new (looks.reads.lists h) h
    tells_read (Err (store_fault.Damaged extent at)) looks is h =
        undamaged documents.store before extent at holds.contents (looks.told h)
    tells_read (Err (store_fault.Newer version)) looks is h = absurd (looks.told h)
    tells_read (Err store_fault.Memory) looks is h =
        (OutOfMemory, refl, stands_looked looks.reads, λ t. idled pages honest documents old before works holds new (looks.reads.lists h) h)

pub met_read : (read : Result Reply StoreFault) (image : Image) → IfErr read (λ why. MeetsBy why image)
    → IfErr (read_answer read) (λ why. Meets why image)
met_read (Ok reply) image met = tt
met_read (Err store_fault.Disk) image met = tt
met_read (Err (store_fault.Damaged extent at)) image met = met
met_read (Err (store_fault.Newer version)) image met = tt
met_read (Err store_fault.Memory) image met = tt

-- what a query has met over the contents is so over the image that says them
pub passes_read : (table : Table) (version : ℕ) (told : List Told) (contents : Contents) (body : Body) (image : Image)
    → Says newest version told contents image
    → (read : Result Reply StoreFault)
    → ((query : Query) → query_in body.params body.text ≡ Some query
    → IfOk read (λ reply. IfRows reply (MeetsPlanned table query contents)))
    → IfOk (read_answer read) (λ reply. PassesOverNone table (line.Query body) reply image)
passes_read table version told contents body image says (Ok reply) met = λ query is.
    if_rows reply (MeetsPlanned table query contents) _ (λ rows met. (version, told, contents, says, met)) (met query is)
passes_read table version told contents body image says (Err store_fault.Disk) met = tt
passes_read table version told contents body image says (Err (store_fault.Damaged extent at)) met = tt
passes_read table version told contents body image says (Err (store_fault.Newer later)) met = λ query is. tt
passes_read table version told contents body image says (Err store_fault.Memory) met = λ query is. tt

-- what fits the own refusal of the query may be its reply, and so may want of memory
pub may_read : (policy : Policy) (body : Body) (read : Result Reply StoreFault)
    → IfOk read (λ reply. FitsRefusal (own_refusal policy (query_in body.params body.text)) reply)
    → IfOk (read_answer read) (λ reply. MayReply policy (line.Query body) reply)
may_read policy body (Ok made) fits = inl fits
may_read policy body (Err store_fault.Disk) fits = tt
may_read policy body (Err (store_fault.Damaged extent at)) fits = tt
may_read policy body (Err (store_fault.Newer version)) fits = inr refl
may_read policy body (Err store_fault.Memory) fits = inr refl

-- ---- an engine

pub rests_over : {C : Type 0} (pages : C → CachedPages) (honest : Bool) (engine : Engine C) (history : History) (before : Container)
    → Works pages honest engine history → HoldsOver engine history before → IsTrue honest → Rests history (IsImageOf before)
rests_over pages honest engine history before works over h =
    images_rest history before
    (rests_of pages honest engine.documents history before (works.documents over.holds.unfaulted) over.holds.documents h)
    over.readable

-- nothing has happened
pub still_over : {C : Type 0} (pages : C → CachedPages) (honest : Bool) (engine : Engine C) (history : History) (before other : Container)
    → Works pages honest engine history → HoldsOver engine history before
    → IsTrue honest → Turns history history (IsImageOf before) (IsImageOf other)
still_over pages honest engine history before other works over h =
    stays_turn history history (IsImageOf before) (IsImageOf other)
    (stays_start history (IsImageOf before) (rests_over pages honest engine history before works over h))

none_kept : (kept : Option Fault) (why : Fault) → kept ≡ Some why → kept ≡ None → ⊥
none_kept kept why some none = let both : Some why ≡ None = sym some ∙ none in absurd cc

-- what is so unless a fault is answered is so where none is kept
pub works_unless : (answered : Result Reply Fault) (kept : Option Fault) (Is : Type 0) → OnOk answered Is
    → IfErr answered (λ why. kept ≡ Some why) → kept ≡ None → Is
works_unless (Ok reply) kept Is works fault none = works
works_unless (Err why) kept Is works fault none = absurd (none_kept kept why fault none)

-- the documents' answer as the engine's
pub applies_told : {C : Type 0} (honest : Type 0) (before : Container) (asked : Line) (result : Result Reply Fault) (engine : Engine C)
    (old new : History) → OnOk result (engine.fault ≡ None) → Tells honest before asked result engine.documents old new
    → Stays old new SaysReadable → Applies honest before asked result engine old new
applies_told honest before asked (Ok reply) engine old new none told stays = (
  told.0,
  told.1,
  record {
    holds = record { unfaulted = none; documents = told.2 };
    readable = stays.rests;
  },
  λ h. images_turn old new before (made_by before asked told.0).0 (told.3 h) stays,
)
applies_told honest before asked (Err fault.Disk) engine old new none told stays =
    λ h. images_turn old new before (served before (Ok asked)).0 (told h) stays
applies_told honest before asked (Err (fault.Damaged extent at)) engine old new none told stays = told
applies_told honest before asked (Err fault.Sink) engine old new none told stays = told

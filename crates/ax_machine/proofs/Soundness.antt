-- A step keeps what holds of every container: only a write changes it, and only by a document that a store can
-- hold.
use Rattle.std.proofs.Common.{◌≡◌, ℕ, List, [], ◌∷◌, Bool, true, false, cond, Option, Some}
use Rattle.std.proofs.Common.{None, Result, Ok, Err, IfOk, refl, sym, ap, ◌∙◌}
use Rattle.ax_tree.specs.declared.tree.Tree.{Tree}
use Rattle.ax_tree.specs.Document.{document_id}
use Rattle.ax_text.specs.Reading.{Reading, Stands, NotJson, NotWhole, reading}
use Rattle.ax_text.proofs.ReadTrees.{IsStanding, stands}
use Rattle.ax_container.specs.Container.{Container, IsSound}
use Rattle.ax_container.specs.Writes.{WriteRefusal, inserted, exchanged, removed, upserted}
use Rattle.ax_container.proofs.Soundness.{MayBe}
use Rattle.ax_container.proofs.Upserts.{upsert_keeps_soundness}
use Rattle.ax_container.proofs.Refusing.{insertion_keeps_soundness, exchange_keeps_soundness, removal_keeps_soundness}
use Rattle.ax_storable.specs.Storable.{has_no_id, is_too_large, IsStorable}
use Rattle.ax_storable.proofs.Within.{within_limits}
use Rattle.ax_lines.specs.declared.body.Body.{Body}
use Rattle.ax_lines.specs.declared.document_form.DocumentForm.{DocumentForm}
use Rattle.ax_lines.specs.declared.document_form.DocumentForm.TheVariants as document
use Rattle.ax_lines.specs.declared.line.Line.{Line}
use Rattle.ax_lines.specs.declared.line.Line.TheVariants as line
use Rattle.ax_lines.specs.declared.refusal.Refusal.{Refusal}
use Rattle.ax_lines.specs.declared.refusal.Refusal.TheVariants as refusal
use Rattle.ax_lines.specs.Bodies.{body_of}
use Rattle.ax_lines.specs.Causes.{Cause, unless}
use Rattle.ax_lines.specs.Lines.{Form, Document, Delete, Read, Query, form_of, without_return, with_tree_of}
use Rattle.ax_lines.specs.Lines.{line_causes, document_causes, id_causes, query_causes, query_from, line_with, of_form}
use Rattle.ax_lines.specs.Lines.{line_of}
use Rattle.ax_machine.specs.Step.{written, write_by, served, step}
use Rattle.ax_machine.specs.Run.{Exchange, Outcome, Served, OutOfMemory, after_line, after}

-- the document of a line is one that a store can hold
abbrev AsksForRead : Line → Type 0
AsksForRead (line.Create tree) = IsStorable tree
AsksForRead (line.Upsert tree) = IsStorable tree
AsksForRead (line.Replace tree) = IsStorable tree
AsksForRead (line.Delete id) = Unit {0}
AsksForRead (line.Read id) = Unit {0}
AsksForRead (line.Query body) = Unit {0}

-- ---- what a line asks for

unless_case : {A : Type 0} (P : A → Type 0) (applies : Bool) (why : Refusal)
    (later : Result A Refusal)
    → IfOk later P → IfOk (cond applies (Err why) later) P
unless_case P true why later holds = tt
unless_case P false why later holds = holds

unless_holds : {A : Type 0} (P : A → Type 0) (causes : List Cause) (answer : Result A Refusal)
    → IfOk answer P → IfOk (unless causes answer) P
unless_holds P [] answer holds = holds
unless_holds P (cause ∷ causes) answer holds =
    unless_case P cause.applies cause.refusal (unless causes answer)
    (unless_holds P causes answer holds)

query_asks : (body : Option Body) → IfOk (query_from body) AsksForRead
query_asks (Some body) = tt
query_asks None = tt

with_tree_holds : (bytes : List ℕ) (found : Reading) (ask : Tree → Result Line Refusal)
    → reading bytes ≡ found
    → ((tree : Tree) → IsStanding tree → IfOk (ask tree) AsksForRead)
    → IfOk (with_tree_of found ask) AsksForRead
with_tree_holds bytes (Stands tree) ask is asks = asks tree (stands bytes tree is)
with_tree_holds bytes NotJson ask is asks = tt
with_tree_holds bytes NotWhole ask is asks = tt

with_form : (form : DocumentForm) (tree : Tree) → IsStorable tree → AsksForRead (line_with form tree)
with_form document.Create tree allowed = allowed
with_form document.Upsert tree allowed = allowed
with_form document.Replace tree allowed = allowed

document_asks : (form : DocumentForm) (tree : Tree) → IsStanding tree
    → IfOk (unless (document_causes tree) (Ok (line_with form tree))) AsksForRead
document_asks form tree good = by_id (has_no_id tree) refl
  where
    answer : Result Line Refusal
    answer = Ok (line_with form tree)

    by_size : (large : Bool) → is_too_large tree ≡ large → has_no_id tree ≡ false
        → IfOk (cond large (Err refusal.Large) answer) AsksForRead
    by_size true is id = tt
    by_size false is id = with_form form tree (within_limits tree good.formed id is)

    by_id : (missing : Bool) → has_no_id tree ≡ missing
        → IfOk (cond missing (Err refusal.Id) (cond (is_too_large tree) (Err refusal.Large) answer)) AsksForRead
    by_id true is = tt
    by_id false is = by_size (is_too_large tree) refl is

form_asks : (form : Option Form) → IfOk (of_form form) AsksForRead
form_asks None = tt
form_asks (Some (Document form text)) =
    with_tree_holds text (reading text)
    (λ tree. unless (document_causes tree) (Ok (line_with form tree))) refl
    (λ tree good. document_asks form tree good)
form_asks (Some (Delete id)) = unless_holds AsksForRead (id_causes id) (Ok (line.Delete id)) tt
form_asks (Some (Read id)) = unless_holds AsksForRead (id_causes id) (Ok (line.Read id)) tt
form_asks (Some (Query text)) =
    with_tree_holds text (reading text)
    (λ tree. unless (query_causes tree) (query_from (body_of tree))) refl
    (λ tree good. unless_holds AsksForRead (query_causes tree) (query_from (body_of tree))
    (query_asks (body_of tree)))

line_asks : (bytes : List ℕ) → IfOk (line_of bytes) AsksForRead
line_asks bytes =
    unless_holds AsksForRead (line_causes bytes) (of_form (form_of (without_return bytes)))
    (form_asks (form_of (without_return bytes)))

-- ---- what the line makes of a container

written_sound : (before : Container) (made : Result Container WriteRefusal)
    → ((now : Container) → made ≡ Ok now → IsSound now)
    → IsSound before → IsSound (written before made).0
written_sound before (Ok now) keeps sound = keeps now refl
written_sound before (Err why) keeps sound = sound

-- the document of a line, under its id
may_be : (before : Container) (id : List ℕ) (tree : Tree) → document_id tree ≡ Some id → IsStorable tree
    → MayBe id tree before.policy
may_be before id tree doc storable = λ number own same. record {
  own_id = doc ∙ ap Some (sym same);
  storable = storable;
}

-- a write that keeps a container sound, of a document of that id
abbrev Keeps : (List ℕ → Tree → Container → Result Container WriteRefusal) → Type 0
Keeps write = (before after : Container) (id : List ℕ) (tree : Tree) → MayBe id tree before.policy
    → IsSound before → write id tree before ≡ Ok after → IsSound after

write_sound : (write : List ℕ → Tree → Container → Result Container WriteRefusal) → Keeps write
    → (before : Container) (tree : Tree) (id : Option (List ℕ)) → document_id tree ≡ id
    → IsStorable tree
    → IsSound before → IsSound (write_by write id tree before).0
write_sound write keeps before tree None doc good sound = sound
write_sound write keeps before tree (Some id) doc good sound =
    written_sound before (write id tree before)
    (λ now made. keeps before now id tree (may_be before id tree doc good) sound made) sound

served_sound : (before : Container) (asked : Result Line Refusal) → IfOk asked AsksForRead
    → IsSound before → IsSound (served before asked).0
served_sound before (Ok (line.Create tree)) good sound =
    write_sound inserted insertion_keeps_soundness before tree (document_id tree) refl good sound
served_sound before (Ok (line.Upsert tree)) good sound =
    write_sound upserted upsert_keeps_soundness before tree (document_id tree) refl good sound
served_sound before (Ok (line.Replace tree)) good sound =
    write_sound exchanged exchange_keeps_soundness before tree (document_id tree) refl good sound
served_sound before (Ok (line.Delete id)) good sound =
    written_sound before (removed id before) (λ now made. removal_keeps_soundness before now id sound made) sound
served_sound before (Ok (line.Read id)) good sound = sound
served_sound before (Ok (line.Query body)) good sound = sound
served_sound before (Err why) good sound = sound

pub step_sound : (before : Container) (bytes : List ℕ) → IsSound before
    → IsSound (step before bytes).0
step_sound before bytes sound = served_sound before (line_of bytes) (line_asks bytes) sound

line_sound : (before : Container) (bytes : List ℕ) (outcome : Outcome) → IsSound before
    → IsSound (after_line before bytes outcome)
line_sound before bytes Served sound = step_sound before bytes sound
line_sound before bytes OutOfMemory sound = sound

pub run_sound : (before : Container) (run : List Exchange) → IsSound before
    → IsSound (after before run)
run_sound before [] sound = sound
run_sound before (exchange ∷ run) sound =
    run_sound (after_line before exchange.line exchange.outcome) run
    (line_sound before exchange.line exchange.outcome sound)

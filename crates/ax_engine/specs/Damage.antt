-- What damage a line tells; what a query has met of the index and of documents before it answers rows, and how much work that is.
-- It is this project's own; it comes from no public document.
use Rattle.std.specs.Prelude.{◌≡◌, ◌⊎◌, ℕ, ◌≤◌, ◌+◌, ◌*◌, List, [], ◌∷◌, Contains, length, map, Some}
use Rattle.ax_answer_text.specs.Parts.{IsKept}
use Rattle.ax_area.specs.Contents.{Contents}
use Rattle.ax_area.specs.Image.{Says}
use Rattle.ax_area.specs.Told.{Told}
use Rattle.ax_atoms.specs.Conjuncts.{atoms}
use Rattle.ax_candidates.specs.Candidates.{AreAllInGrammar, AreCandidates, AreOfAsked}
use Rattle.ax_container.specs.Container.{Container}
use Rattle.ax_disk.specs.model.Image.{Image}
use Rattle.ax_documents.specs.Damage.{IsMetIn}
use Rattle.ax_excerpt.specs.Needs.{NeedsAll}
use Rattle.ax_excerpt_text.specs.Wholes.{IsNoMap}
use Rattle.ax_grammar.specs.Query.{query_in}
use Rattle.ax_image.specs.Documents.{ContentsHold}
use Rattle.ax_image.specs.Readable.{newest}
use Rattle.ax_lines.specs.declared.line.Line.{Line}
use Rattle.ax_lines.specs.declared.line.Line.TheVariants as line
use Rattle.ax_lines.specs.declared.refusal.Refusal.{Refusal}
use Rattle.ax_mean.specs.declared.query.Query.{Query}
use Rattle.ax_index.specs.Grammar.{StandsIn}
use Rattle.ax_pages.specs.Contents.{TermPage}
use Rattle.ax_pages.specs.TermPages.{AreApart}
use Rattle.ax_pairs.specs.Index.{IsIndex}
use Rattle.ax_pairs.specs.PairSets.{PairSet}
use Rattle.ax_plan.specs.Usable.{AreUnions}
use Rattle.ax_policy.specs.Table.{Table}
use Rattle.ax_result.specs.Answers.{answer_of}
use Rattle.ax_term.specs.declared.range.TermRange.{TermRange}
use Rattle.ax_tree.specs.CanonicalText.{canonical_text}
use Rattle.ax_engine.specs.PolicyNow.{policy_now}
use Rattle.ax_engine.specs.Printing.{IsPrinted}
use Rattle.ax_engine.specs.Replies.{AreRows, own_refusal}
use Rattle.ax_engine.specs.Walks.{Walks}
use Rattle.ax_engine.specs.declared.engine.Fault.{Fault}
use Rattle.ax_engine.specs.declared.engine.Fault.TheVariants as fault
use Rattle.ax_engine.specs.declared.reply.Reply.{Reply}
use Rattle.ax_engine.specs.declared.reply.Reply.TheVariants as given
use Rattle.ax_engine.specs.declared.rows.Rows.{Rows}

-- ---- damage, and its place

-- where a fault is damage, there stands what is outside its grammar: the text of a document, or a part of a term page
abbrev pub Meets : Fault → Image → Type 0
Meets fault.Disk image = Unit {0}
Meets (fault.Damaged extent at) image = IsMetIn image extent at
Meets fault.Sink image = Unit {0}

-- ---- what a query has met

-- The text is read whole for the rows of the query: it does not begin as that of a map, or no part of a
-- document is enough for the query, and it does not print documents as they are stored.
abbrev pub IsReadWhole : Query → List ℕ → Type 0
IsReadWhole query text = IsNoMap text ⊎ (NeedsAll query × (IsPrinted query → ⊥))

-- Among the documents of these numbers a query meets none whose text is that of no document, of those that it reads whole and
-- does not pass over: among all, where it does not end before with a limit.
abbrev pub MeetsDocuments : (ℕ → Type 0) → Query → Contents → Type 0
MeetsDocuments IsOne query contents = Walks IsOne (λ text. IsReadWhole query text × IsKept query text) query contents

-- the rows are those of the query over no document at all
abbrev pub AreRowsOfNone : Query → Rows → Type 0
AreRowsOfNone query rows = AreRows rows (map (λ row. canonical_text row.shown) (answer_of query []))

-- the pages have the number with a term in each of the unions, whatever else they hold
abbrev pub StandsInAll : List (List TermRange) → List TermPage → ℕ → Type 0
StandsInAll unions pages number = (ranges : List TermRange) → Contains unions ranges → StandsIn ranges pages number

-- Among the documents that the index leaves, where it is asked for terms in each of these unions: those of the numbers that its
-- pages have with a term in each, where no two of them have one low pair. Without a union it leaves all.
abbrev pub MeetsLeft : List (List TermRange) → Query → Contents → Type 0
MeetsLeft [] query contents = MeetsDocuments (λ number. Unit {0}) query contents
MeetsLeft (ranges ∷ unions) query contents =
    AreApart contents.terms → MeetsDocuments (StandsInAll (ranges ∷ unions) contents.terms) query contents

-- What a query has met that is answered these rows, over these contents. The unions of terms in which the index is asked are
-- those of its plan under the policies of the table. The pages of the index with terms in them are in their grammar: those of all
-- unions; or those of some, where the pages have no number with a term in each of these, and the rows are those over no document.
-- And it has met no text that is none of a document, among the documents that the index leaves.
pub record MeetsPlanned (table : Table) (query : Query) (contents : Contents) (rows : Rows) : Type 0 where
  pub unions : List (List TermRange)
  pub planned : AreUnions table (atoms query) unions
  pub index : AreAllInGrammar unions contents.terms ⊎ (AreRowsOfNone query rows × AreOfAsked unions contents.terms [])
  pub documents : MeetsLeft unions query contents

-- where the reply is rows, this is so of them
abbrev pub IfRows : Reply → (Rows → Type 0) → Type 0
IfRows given.Ok Is = Unit {0}
IfRows (given.Doc text) Is = Unit {0}
IfRows (given.Rows rows) Is = Is rows
IfRows (given.Refused why) Is = Unit {0}

-- Rows are the reply to a query only where it meets no damage in the image at which it looks: none is passed over.
abbrev pub PassesOverNone : Table → Line → Reply → Image → Type 0
PassesOverNone table (line.Create tree) reply image = Unit {0}
PassesOverNone table (line.Upsert tree) reply image = Unit {0}
PassesOverNone table (line.Replace tree) reply image = Unit {0}
PassesOverNone table (line.Delete id) reply image = Unit {0}
PassesOverNone table (line.Read id) reply image = Unit {0}
PassesOverNone table (line.Query body) reply image =
    (query : Query) → query_in body.params body.text ≡ Some query
    → IfRows reply (λ rows. (version : ℕ) × (told : List Told) × (contents : Contents)
    × Says newest version told contents image × MeetsPlanned table query contents rows)

-- ---- how much work that is

-- At most two steps for each document that the index leaves: for each number with a term in each of these unions, of the set
-- that the pages hold. Without a union, for each document.
abbrev pub CountsLeft : List (List TermRange) → Contents → ℕ → ℕ → Type 0
CountsLeft [] contents old new =
    (container : Container) → ContentsHold contents container → new ≤ old + 2 * length container.entries
CountsLeft (ranges ∷ unions) contents old new =
    (set : PairSet) → IsIndex contents.terms set
    → (numbers : List ℕ) → AreCandidates (ranges ∷ unions) set numbers → new ≤ old + 2 * length numbers

-- the unions are those of the query's plan
abbrev pub CountsPlanned : Table → Query → Contents → ℕ → ℕ → Type 0
CountsPlanned table query contents old new =
    (unions : List (List TermRange)) → AreUnions table (atoms query) unions → CountsLeft unions contents old new

-- The steps of a query. One that has a refusal of its own counts none.
abbrev pub CountsFew : Table → Line → Contents → ℕ → ℕ → Type 0
CountsFew table (line.Create tree) contents old new = Unit {0}
CountsFew table (line.Upsert tree) contents old new = Unit {0}
CountsFew table (line.Replace tree) contents old new = Unit {0}
CountsFew table (line.Delete id) contents old new = Unit {0}
CountsFew table (line.Read id) contents old new = Unit {0}
CountsFew table (line.Query body) contents old new =
    ((query : Query) → query_in body.params body.text ≡ Some query → CountsPlanned table query contents old new)
    × ((why : Refusal) → own_refusal (policy_now table) (query_in body.params body.text) ≡ Some why → new ≡ old)

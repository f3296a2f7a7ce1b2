-- How a part changes what the pages have, and which parts are outside the format after the parts
-- before them: the grammar of parts.
-- From the store's own file format (docs/FORMAT.md, "Parts"); no other document has it.
use Rattle.std.specs.Prelude.{ℕ, Bool, not, ◌==◌, ◌&&◌, ◌||◌, nat_lt, nat_le, if◌then◌else◌, List, [], ◌∷◌, ◌++◌, length, Option, Some, None, is_some}
use Rattle.std.specs.Prelude.{slice_index, slice_set, option_and_then, unwrap_or}
use Rattle.std.specs.FinMap as map
use Rattle.std.specs.List.{list_any}
use Rattle.std.specs.Str.{bytes_eq}
use Rattle.ax_pair.specs.declared.pair.Pair.{Pair}
use Rattle.ax_pair.specs.Low.{low_in, first_pair}
use Rattle.ax_frame.specs.Part.{PartValue}
use Rattle.ax_pages.specs.declared.numbers.TheConstants.{PLAIN_META, POLICY, PLAIN_DOCUMENT, GONE, BASE, DELTA}
use Rattle.ax_pages.specs.declared.page.Page.{Page}
use Rattle.ax_pages.specs.declared.page.Page.TheVariants.{Meta, Policy, Document, Term}
use Rattle.ax_pages.specs.declared.page.Kind.{Kind}
use Rattle.ax_pages.specs.declared.page.Kind.TheVariants as kind
use Rattle.ax_pages.specs.Contents.{Contents, TermPage, next_in, now_in, is_given, low_of, term_page}

-- the kinds of parts by their numbers
abbrev pub kind_of : ℕ → Option Kind
kind_of number =
    if number == PLAIN_META then Some kind.Meta else (if number == POLICY then Some kind.Policy else
    (if number == PLAIN_DOCUMENT then Some kind.Document else (if number == GONE then Some kind.Gone else
    (if number == BASE then Some kind.Base else (if number == DELTA then Some kind.Delta else None)))))

-- the greatest number of a policy
abbrev pub last_policy : ℕ
last_policy = 8

-- the most documents that are held
abbrev pub most_documents : ℕ
most_documents = 1048576

-- a payload of the meta: the next number, at least 1, and the number of the policy now, which was given
abbrev pub is_meta : ℕ → List ℕ → Contents → Bool
is_meta key payload contents =
    key == 0 && length payload == 8 && nat_lt 0 (next_in payload) && is_given (now_in payload) contents

-- the document is held, or one more may be
abbrev pub has_room : ℕ → Contents → Bool
has_room number contents = map.contains_key contents.documents number || nat_lt (map.len contents.documents) most_documents

-- a payload of a document: the number of a policy that was given, and a text
abbrev pub is_document : ℕ → List ℕ → Contents → Bool
is_document key payload contents =
    nat_lt 0 key && nat_lt 0 (length payload) && is_given (slice_index payload 0) contents && has_room key contents

-- what says that a document is gone: no payload
abbrev pub is_gone : ℕ → List ℕ → Bool
is_gone key payload = nat_lt 0 key && length payload == 0

-- the most term pages
abbrev pub most_term_pages : ℕ
most_term_pages = 2147483648

abbrev pub is_same : Pair → Pair → Bool
is_same p q = bytes_eq p.term q.term && (p.number == q.number)

-- the low pair with which a payload begins
abbrev pub low_at_front : List ℕ → Pair
low_at_front payload = unwrap_or (low_in payload) first_pair

-- a term page has this low pair
abbrev pub is_taken : Pair → List TermPage → Bool
is_taken low pages = list_any (λ page. is_same low (low_of page)) pages

-- a base of a page that exists has the low pair of that page
abbrev pub is_own : ℕ → Pair → List TermPage → Bool
is_own key low pages = nat_lt key (length pages) && is_same low (low_of (term_page key pages))

-- The first base of a page gives it the next number, and a low pair that no page has.
abbrev pub is_new : ℕ → Pair → List TermPage → Bool
is_new key low pages = (key == length pages) && nat_lt key most_term_pages && not (is_taken low pages)

-- a payload of a base: it begins with a low pair
abbrev pub is_base : ℕ → List ℕ → List TermPage → Bool
is_base key payload pages =
    is_some (low_in payload) && (is_own key (low_at_front payload) pages || is_new key (low_at_front payload) pages)

-- a delta is of a page that exists
abbrev pub is_delta : ℕ → List TermPage → Bool
is_delta key pages = nat_lt key (length pages)

abbrev pub with_base : List ℕ → TermPage
with_base payload = record { base = Some payload; deltas = [] }

abbrev pub with_delta : List ℕ → TermPage → TermPage
with_delta payload page = record page { deltas = page.deltas ++ payload ∷ [] }

-- the term pages after a base: it takes the place of a page, or is the last one
abbrev pub after_base : ℕ → List ℕ → List TermPage → List TermPage
after_base key payload pages =
    if nat_lt key (length pages) then slice_set pages key (with_base payload) else pages ++ with_base payload ∷ []

abbrev pub after_delta : ℕ → List ℕ → List TermPage → List TermPage
after_delta key payload pages = slice_set pages key (with_delta payload (term_page key pages))

-- the contents after a part of this kind, or none where it is outside the format
abbrev pub after_kind : Option Kind → ℕ → List ℕ → Contents → Option Contents
after_kind (Some kind.Meta) key payload contents =
    if is_meta key payload contents then Some (record contents { meta = Some payload }) else None
after_kind (Some kind.Policy) key payload contents =
    if nat_le key last_policy then Some (record contents { policies = map.insert contents.policies key payload }) else None
after_kind (Some kind.Document) key payload contents =
    if is_document key payload contents then Some (record contents { documents = map.insert contents.documents key payload }) else None
after_kind (Some kind.Gone) key payload contents =
    if is_gone key payload then Some (record contents { documents = map.remove contents.documents key }) else None
after_kind (Some kind.Base) key payload contents =
    if is_base key payload contents.terms then Some (record contents { terms = after_base key payload contents.terms }) else None
after_kind (Some kind.Delta) key payload contents =
    if is_delta key contents.terms then Some (record contents { terms = after_delta key payload contents.terms }) else None
after_kind None key payload contents = None

abbrev pub after_part : PartValue → Contents → Option Contents
after_part part contents = after_kind (kind_of part.kind) part.key part.payload contents

-- the contents after parts, from the first on, or none where one of them is outside the format
abbrev pub after_parts : List PartValue → Contents → Option Contents
after_parts [] contents = Some contents
after_parts (part ∷ parts) contents = option_and_then (after_parts parts) (after_part part contents)

-- the page that a part is of
abbrev pub page_of_kind : Option Kind → ℕ → Option Page
page_of_kind (Some kind.Meta) key = Some Meta
page_of_kind (Some kind.Policy) key = Some (Policy key)
page_of_kind (Some kind.Document) key = Some (Document key)
page_of_kind (Some kind.Gone) key = Some (Document key)
page_of_kind (Some kind.Base) key = Some (Term key)
page_of_kind (Some kind.Delta) key = Some (Term key)
page_of_kind None key = None

abbrev pub page_of : PartValue → Option Page
page_of part = page_of_kind (kind_of part.kind) part.key

-- What a part makes of the parts of its page: nothing is left where it says that a document is gone, a
-- delta stands behind the others, and any other part alone.
abbrev pub after_kind_in_page : Option Kind → List ℕ → List (List ℕ) → List (List ℕ)
after_kind_in_page (Some kind.Gone) payload parts = []
after_kind_in_page (Some kind.Delta) payload parts = parts ++ payload ∷ []
after_kind_in_page _ payload parts = payload ∷ []

abbrev pub after_in_page : PartValue → List (List ℕ) → List (List ℕ)
after_in_page part parts = after_kind_in_page (kind_of part.kind) part.payload parts

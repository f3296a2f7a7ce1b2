-- What a plan puts for each page: which changes its deltas carry, and that no page it makes is empty.
-- It is this project's own; it comes from no public document.
use Rattle.std.specs.Prelude.{◌≡◌, ◌⊎◌, ℕ, ◌<◌, ◌==◌, ◌&&◌, if◌then◌else◌, Bool, true, false, List, [], ◌∷◌, ◌++◌, length, Option, Some}
use Rattle.ax_delta.specs.declared.change.Change.{Change}
use Rattle.ax_delta.specs.Changes.{changed_pairs, term_changes_of}
use Rattle.ax_delta.specs.Payload.{IsDelta, delta}
use Rattle.ax_delta.specs.Said.{has}
use Rattle.ax_frame.specs.Part.{PartValue}
use Rattle.ax_pair.specs.declared.pair.Pair.{Pair}
use Rattle.ax_pages.specs.declared.page.Kind.{Kind}
use Rattle.ax_pages.specs.declared.page.Kind.TheVariants as kind
use Rattle.ax_pages.specs.AfterPart.{kind_of}
use Rattle.ax_pages.specs.Contents.{TermPage, low_of}
use Rattle.ax_pages.specs.TermPages.{IsPageOf}
use Rattle.ax_pairs.specs.Index.{AllBelong}
use Rattle.ax_pairs.specs.PagePairs.{HasPairs}

-- the most bytes of a part's payload
abbrev pub most_payload : ℕ
most_payload = 65536

abbrev pub is_delta_kind : Option Kind → Bool
is_delta_kind (Some kind.Delta) = true
is_delta_kind _ = false

abbrev pub is_base_kind : Option Kind → Bool
is_base_kind (Some kind.Base) = true
is_base_kind _ = false

-- the payloads of the deltas of a term page among parts, in order
abbrev pub deltas_put : ℕ → List PartValue → List (List ℕ)
deltas_put number [] = []
deltas_put number (part ∷ parts) =
    if is_delta_kind (kind_of part.kind) && part.key == number then part.payload ∷ deltas_put number parts else deltas_put number parts

-- the payloads of its bases
abbrev pub bases_put : ℕ → List PartValue → List (List ℕ)
bases_put number [] = []
bases_put number (part ∷ parts) =
    if is_base_kind (kind_of part.kind) && part.key == number then part.payload ∷ bases_put number parts else bases_put number parts

-- the payloads are those of deltas that carry the changes, each change once and in order
abbrev pub AreDeltasOf : List Change → List (List ℕ) → Type 0
AreDeltasOf changes [] = changes ≡ []
AreDeltasOf changes (payload ∷ payloads) =
    (first : List Change) × (rest : List Change) × (changes ≡ first ++ rest)
    × IsDelta payload (term_changes_of first) × AreDeltasOf rest payloads

-- It is one delta, or none where there is no change. They are more only where one would be longer than a part may be.
pub record AreCarriedBy (changes : List Change) (payloads : List (List ℕ)) : Type 0 where
  pub are : AreDeltasOf changes payloads
  pub one : 1 < length payloads → most_payload < length (delta (term_changes_of changes))

-- no pair belongs to the page
abbrev pub NoneBelong : List Pair → ℕ → List TermPage → Type 0
NoneBelong pairs number pages = (p : Pair) → has p pairs ≡ true → IsPageOf p number pages → ⊥

-- Of a list whose pairs rise, these are the changes whose pairs belong to the page: they stand together in it.
pub record AreChangesOf (number : ℕ) (pages : List TermPage) (all changes : List Change) : Type 0 where
  pub front : List Change
  pub back : List Change
  pub whole : all ≡ front ++ changes ++ back
  pub belong : AllBelong (changed_pairs changes) number pages
  pub none_before : NoneBelong (changed_pairs front) number pages
  pub none_behind : NoneBelong (changed_pairs back) number pages

-- a page that is changed is merged, by one base and no delta; or deltas carry the changes, and there is no base
abbrev pub IsPut : List Change → List (List ℕ) → List (List ℕ) → Type 0
IsPut changes bases deltas =
    ((0 < length changes) × (length bases ≡ 1) × (deltas ≡ [])) ⊎ ((bases ≡ []) × AreCarriedBy changes deltas)

-- what is put for a page, by the changes of the list that are of it
pub record IsSettled (number : ℕ) (pages : List TermPage) (all : List Change) (parts : List PartValue) : Type 0 where
  pub changes : List Change
  pub of_page : AreChangesOf number pages all changes
  pub put : IsPut changes (bases_put number parts) (deltas_put number parts)

-- a page has pairs
abbrev pub HasSome : TermPage → Type 0
HasSome page = (pairs : List Pair) × HasPairs page pairs × (0 < length pairs)

-- and its low pair among them
abbrev pub HasLowPair : TermPage → Type 0
HasLowPair page = (pairs : List Pair) × HasPairs page pairs × (has (low_of page) pairs ≡ true)

-- What a store's pages have: for the meta, each policy and each document, the payload that counts;
-- for each term page the payloads of its last base and of the deltas behind that.
-- From the store's own file format (docs/FORMAT.md, "Parts"); no other document has it.
use Rattle.std.specs.Prelude.{ℕ, Bool, ◌==◌, ◌||◌, List, [], ◌∷◌, ◌++◌, Option, None, take, drop, slice_index_or, option_and_then, unwrap_or}
use Rattle.std.specs.Int.{w32, from_le_bytes, to_le_bytes}
use Rattle.std.specs.Ordering.{nat_cmp}
use Rattle.std.specs.FinMap as map
use Rattle.std.specs.Option.{option_map_or, option_to_list}
use Rattle.ax_pair.specs.declared.pair.Pair.{Pair}
use Rattle.ax_pair.specs.Low.{low_in, first_pair}
use Rattle.ax_pages.specs.declared.page.Page.{Page}
use Rattle.ax_pages.specs.declared.page.Page.TheVariants.{Meta, Policy, Document, Term}

-- pages of one kind, each with its payload, by number
abbrev pub Numbered : Type 0
Numbered = map.FinMap nat_cmp (List ℕ)

-- a term page
pub record TermPage : Type 0 where
  -- the payload of its last base; none before the first
  pub base : Option (List ℕ)
  -- the payloads of the deltas behind that base, in order
  pub deltas : List (List ℕ)

-- a page of which there is no part
abbrev pub no_term_page : TermPage
no_term_page = record { base = None; deltas = [] }

pub record Contents : Type 0 where
  -- none before the first part of the meta
  pub meta : Option (List ℕ)
  pub policies : Numbered
  pub documents : Numbered
  -- by number, from 0 on
  pub terms : List TermPage

-- No page has anything. One term page exists from the start.
abbrev pub no_contents : Contents
no_contents = record { meta = None; policies = map.empty; documents = map.empty; terms = no_term_page ∷ [] }

-- the term page of a number
abbrev pub term_page : ℕ → List TermPage → TermPage
term_page number pages = slice_index_or pages number no_term_page

-- the parts of a term page: its base, and the deltas behind it
abbrev pub term_parts : TermPage → List (List ℕ)
term_parts page = option_to_list page.base ++ page.deltas

-- The least pair that a term page may have: the one in its base. The page that exists from the start
-- may have each pair, also before its first base.
abbrev pub low_of : TermPage → Pair
low_of page = unwrap_or (option_and_then low_in page.base) first_pair

-- the parts of a page: of the meta, of a policy and of a document the one that counts, where there is one
abbrev pub parts_of : Page → Contents → List (List ℕ)
parts_of Meta contents = option_to_list contents.meta
parts_of (Policy number) contents = option_to_list (map.get contents.policies number)
parts_of (Document number) contents = option_to_list (map.get contents.documents number)
parts_of (Term number) contents = term_parts (term_page number contents.terms)

-- the two numbers in a payload of the meta, low bytes first: the next number, and the policy now
abbrev pub next_in : List ℕ → ℕ
next_in payload = from_le_bytes w32 (take 4 payload)

abbrev pub now_in : List ℕ → ℕ
now_in payload = from_le_bytes w32 (take 4 (drop 4 payload))

-- the payload that says these two numbers
abbrev pub meta_bytes : ℕ → ℕ → List ℕ
meta_bytes next now = to_le_bytes w32 next ++ to_le_bytes w32 now

-- the same of the meta, which may have nothing yet
abbrev pub next_of : Option (List ℕ) → ℕ
next_of meta = option_map_or next_in meta 1

abbrev pub now_of : Option (List ℕ) → ℕ
now_of meta = option_map_or now_in meta 0

-- the number that the next creation takes
abbrev pub next_number : Contents → ℕ
next_number contents = next_of contents.meta

-- the number of the policy now
abbrev pub policy_now : Contents → ℕ
policy_now contents = now_of contents.meta

-- a part gave a policy this number, or it is number 0, which needs none
abbrev pub is_given : ℕ → Contents → Bool
is_given policy contents = policy == 0 || map.contains_key contents.policies policy

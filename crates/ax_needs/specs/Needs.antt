-- Which documents a query needs: those that have a term in the ranges of each condition that an index answers and that
-- the policies of the container cover, the policy now and all by which documents are indexed. Where there is no such
-- condition these are all documents.
-- It is this project's own; it comes from no public document.
use Rattle.std.specs.Prelude.{ℕ, List, ◌∷◌, length, map, Bool, ◌&&◌, ◌||◌, Option, Some, None, if◌then◌else◌}
use Rattle.std.specs.List.{filter, filter_map, list_all, list_any}
use Rattle.ax_tree.specs.declared.tree.Tree.{Tree}
use Rattle.ax_mean.specs.declared.query.Order.{Order}
use Rattle.ax_mean.specs.declared.query.Query.{Query}
use Rattle.ax_term.specs.declared.range.TermRange.{TermRange}
use Rattle.ax_policy.specs.declared.policy.Policy.{Policy}
use Rattle.ax_policy.specs.Deciding.{is_all_covered, is_covered}
use Rattle.ax_policy.specs.Ordering.{offered}
use Rattle.ax_terms.specs.Leaves.{Leaf, leaves}
use Rattle.ax_terms.specs.TermsOf.{composite_term_of, leaf_term}
use Rattle.ax_atoms.specs.Atoms.{Atom, rests_at, rests_on_all}
use Rattle.ax_atoms.specs.Conjuncts.{atoms}
use Rattle.ax_atoms.specs.Spans.{is_in_some, ranges_of}
use Rattle.ax_container.specs.Container.{Container, Entry}

-- ---- which conditions are usable

-- the policy covers each leaf on which the condition rests
abbrev pub covers_all_of : Policy → Atom → Bool
covers_all_of policy atom =
    if rests_on_all atom then is_all_covered policy (rests_at atom) else is_covered policy (rests_at atom)

-- the policy now, and that by which each document is indexed
abbrev pub policies_of : Container → List Policy
policies_of container = container.policy ∷ map (λ entry. entry.indexed_by) container.entries

-- each of them covers each leaf on which the condition rests
abbrev pub is_usable : Container → Atom → Bool
is_usable container atom = list_all (λ policy. covers_all_of policy atom) (policies_of container)

-- the ranges of a condition, where it is usable
abbrev pub union_of : Container → Option Atom → Option (List TermRange)
union_of container None = None
union_of container (Some atom) = if is_usable container atom then Some (ranges_of atom) else None

-- those of each usable condition, in the order of the conditions
abbrev pub unions_of : Container → List (Option Atom) → List (List TermRange)
unions_of container atoms = filter_map (union_of container) atoms

-- ---- which documents have a term in each

-- the leaf is covered, and its term is in one of the ranges
abbrev pub is_leaf_in : Policy → List TermRange → Leaf → Bool
is_leaf_in policy ranges leaf = is_covered policy leaf.path && is_in_some ranges (leaf_term leaf)

-- the term that the document has for the composite is in one of the ranges
abbrev pub is_composite_in : Tree → List TermRange → List Order → Bool
is_composite_in given ranges composite = is_in_some ranges (composite_term_of given composite)

-- the document has, under the policy, a term in one of the ranges: that of a leaf, or of a composite that is offered
abbrev pub has_term_in : Policy → Tree → List TermRange → Bool
has_term_in policy given ranges =
    list_any (is_leaf_in policy ranges) (leaves given)
    || list_any (is_composite_in given ranges) (offered policy)

-- the document of the entry has a term in each union of ranges, under the policy by which it is indexed
abbrev pub is_candidate : List (List TermRange) → Entry → Bool
is_candidate unions entry = list_all (has_term_in entry.indexed_by entry.tree) unions

-- ---- what a query needs

-- the documents that it needs
abbrev pub candidates_of : Query → Container → List Entry
candidates_of query container = filter (is_candidate (unions_of container (atoms query))) container.entries

-- how many these are
abbrev pub need_of_query : Query → Container → ℕ
need_of_query query container = length (candidates_of query container)

-- The composites of an indexing policy: two to eight paths of names with a direction each, of which
-- none equals or begins another. Those of a policy stand in byte order of their canonical texts,
-- without repeats.
use Rattle.std.specs.Prelude.{ℕ, List, [], ◌∷◌, length, map, sum_by, Bool, true, false, not, ◌&&◌, nat_le}
use Rattle.std.specs.Prelude.{if◌then◌else◌, Option, Some, None, option_map, option_and_then, codes}
use Rattle.std.specs.Cmp.Lexicographic.{slice_cmp}
use Rattle.std.specs.List.{list_any, fold, insert}
use Rattle.std.specs.Ordering.{nat_cmp, match_ordering}
use Rattle.std.specs.Str.{bytes_eq}
use Rattle.ax_mean.specs.declared.query.Order.{Order}
use Rattle.ax_mean.specs.declared.query.Step.{Step}
use Rattle.ax_mean.specs.declared.query.Step.TheVariants.{Name, Item}
use Rattle.ax_tree.specs.CanonicalText.{canonical_text}
use Rattle.ax_tree.specs.Document.{member, text_value, text_member}
use Rattle.ax_tree.specs.declared.tree.Tree.{Tree}
use Rattle.ax_tree.specs.declared.tree.Tree.TheVariants as tree
use Rattle.ax_policy.specs.Limits.{most_composites, least_paths, most_paths, most_path_bytes, path_size, is_short_path}
use Rattle.ax_policy.specs.Paths.{composite_path, steps_text}
use Rattle.ax_policy.specs.Reading.{read_all, list_value, trees_of}

-- ---- how composites are written

abbrev pub order_word : Bool → List ℕ
order_word false = codes "ascending"
order_word true = codes "descending"

-- a column: one path of a composite, with its direction
abbrev pub part_tree : Order → Tree
part_tree part =
    tree.Object
    (record { name = codes "order"; value = tree.Text (order_word part.down) } ∷
    record { name = codes "path"; value = tree.Text (steps_text part.path) } ∷ [])

abbrev pub composite_tree : List Order → Tree
composite_tree composite = tree.List (map part_tree composite)

abbrev pub composite_text : List Order → List ℕ
composite_text composite = canonical_text (composite_tree composite)

-- ---- how composites are read

-- the direction that a word is, and ascending where there is none
abbrev pub direction_in : List ℕ → Option Bool
direction_in word =
    if bytes_eq word (codes "ascending") then Some false
    else if bytes_eq word (codes "descending") then Some true else None

abbrev pub direction_of : Option Tree → Option Bool
direction_of None = Some false
direction_of (Some given) = option_and_then direction_in (text_value given)

-- a path that is not too long, with the direction that this member gives
abbrev pub directed : Option Tree → List Step → Option Order
directed given path =
    if is_short_path path
    then option_map (λ down. record { path = path; down = down }) (direction_of given)
    else None

-- a column: one path of a composite, with its direction
abbrev pub part_of : Tree → Option Order
part_of given =
    option_and_then (directed (member (codes "order") given))
    (option_and_then composite_path (text_member (codes "path") given))

abbrev pub same_step : Step → Step → Bool
same_step (Name a) (Name b) = bytes_eq a b
same_step Item Item = true
same_step (Name a) Item = false
same_step Item (Name b) = false

-- one path equals or begins the other
abbrev pub overlap : List Step → List Step → Bool
overlap [] others = true
overlap (step ∷ steps) [] = true
overlap (step ∷ steps) (other ∷ others) = same_step step other && overlap steps others

-- no path equals or begins another
abbrev pub are_apart : List Order → Bool
are_apart [] = true
are_apart (part ∷ parts) =
    not (list_any (λ other. overlap part.path other.path) parts) && are_apart parts

-- the bytes of the encoded paths together
abbrev pub parts_size : List Order → ℕ
parts_size parts = sum_by (λ part. path_size part.path) parts

-- the parts may stand in one composite
abbrev pub is_composite : List Order → Bool
is_composite parts =
    nat_le least_paths (length parts) && nat_le (length parts) most_paths && are_apart parts
    && nat_le (parts_size parts) most_path_bytes

abbrev pub if_composite : List Order → Option (List Order)
if_composite parts = if is_composite parts then Some parts else None

abbrev pub composite_of : Tree → Option (List Order)
composite_of given =
    option_and_then if_composite (option_and_then (read_all part_of) (list_value given))

-- ---- those of a policy

-- a composite among others, in byte order of the canonical texts
abbrev pub with_composite : List (List Order) → List Order → List (List Order)
with_composite [] composite = composite ∷ []
with_composite (first ∷ rest) composite =
    match_ordering (slice_cmp nat_cmp (composite_text composite) (composite_text first))
    (composite ∷ first ∷ rest)
    (first ∷ rest)
    (first ∷ with_composite rest composite)

-- a composite put at this position, or nothing; no public clause cites it
abbrev pub placed : Option ℕ → List (List Order) → List Order → List (List Order)
placed None composites composite = composites
placed (Some at) composites composite = insert composites at composite

abbrev pub by_text : List (List Order) → List (List Order)
by_text composites = fold with_composite [] composites

-- at most eight as they are written, repeats counted
abbrev pub if_few : List Tree → Option (List Tree)
if_few items = if nat_le (length items) most_composites then Some items else None

-- the composites of a policy with this member for them
abbrev pub composites_of : Option Tree → Option (List (List Order))
composites_of given =
    option_map by_text
    (option_and_then (read_all composite_of) (option_and_then if_few (trees_of given)))

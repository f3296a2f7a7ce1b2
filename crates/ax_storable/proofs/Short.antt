-- Whether the names of a tree are short, one level at a time.
use Rattle.std.proofs.Common.{rules, Bool, ◌&&◌, ◌≡◌, ◌∙◌, ap, List, [], ◌∷◌, map, refl}
use Rattle.std.specs.List.{list_all}
use Rattle.ax_tree.specs.declared.members.Member.{Member}
use Rattle.ax_tree.specs.declared.tree.Tree as tree
use Rattle.ax_storable.specs.ShortNames.{is_short_name, has_short_names}

-- a name beside whether the names in its value are short
abbrev judged : Member tree.Tree → Member Bool
judged m = record { name = m.name; value = has_short_names m.value }

abbrev is_short_member : Member tree.Tree → Bool
is_short_member m = is_short_name m.name && has_short_names m.value

list-mapped : (ts : List tree.Tree)
    → has_short_names (tree.List ts) ≡ list_all (λ item. item) (map has_short_names ts)
list-mapped ts = search (rules, tree.the_lemmas)

object-judged : (ms : List (Member tree.Tree)) → has_short_names (tree.Object ms)
    ≡ list_all (λ m. is_short_name m.name && m.value) (map judged ms)
object-judged ms = search (rules, tree.the_lemmas)

all-mapped : (ts : List tree.Tree)
    → list_all (λ item. item) (map has_short_names ts) ≡ list_all has_short_names ts
all-mapped [] = refl
all-mapped (t ∷ ts) = ap (λ b. has_short_names t && b) (all-mapped ts)

all-judged : (ms : List (Member tree.Tree))
    → list_all (λ m. is_short_name m.name && m.value) (map judged ms) ≡ list_all is_short_member ms
all-judged [] = refl
all-judged (m ∷ ms) = ap (λ b. is_short_member m && b) (all-judged ms)

pub short_list : (ts : List tree.Tree)
    → has_short_names (tree.List ts) ≡ list_all has_short_names ts
short_list ts = list-mapped ts ∙ all-mapped ts

pub short_object : (ms : List (Member tree.Tree)) → has_short_names (tree.Object ms)
    ≡ list_all (λ m. is_short_name m.name && has_short_names m.value) ms
short_object ms = object-judged ms ∙ all-judged ms

-- Conditions on one property, answered together. A document has one value there, where names alone lead to it, and so one
-- term, which is in the ranges of each of them: the terms in the ranges of all are sought. Behind a step to an element a
-- document has many values; of which of them a condition speaks terms do not tell, so such conditions stay apart.
-- It is this project's own; it comes from no public document.
use Rattle.std.specs.Prelude.{ℕ, List, [], ◌∷◌, map, length, Bool, true, false, ◌&&◌, ◌||◌, nat_le, Option, Some, None, if◌then◌else◌}
use Rattle.std.specs.List.{filter, flat_map, list_all}
use Rattle.std.specs.Ordering.{is_le, is_lt}
use Rattle.ax_mean.specs.declared.query.Step.{Step}
use Rattle.ax_mean.specs.declared.query.Step.TheVariants.{Name, Item}
use Rattle.ax_term.specs.TermOrder.{order_of_bytes}
use Rattle.ax_term.specs.declared.range.TermRange.{TermRange}
use Rattle.ax_policy.specs.Sameness.{same_path}
use Rattle.ax_atoms.specs.Atoms.{Atom, rests_at, rests_on_all}
use Rattle.ax_atoms.specs.Spans.{ranges_of}
use Rattle.ax_plan.specs.declared.sought.Sought.{Sought}

-- ---- properties

-- the step is one by a name
abbrev pub is_by_name : Step → Bool
is_by_name (Name name) = true
is_by_name Item = false

abbrev pub where_named : List Step → Bool → Option (List Step)
where_named path true = Some path
where_named path false = None

-- the path of one leaf, where names alone lead to it
abbrev pub one_property : Bool → List (List Step) → Option (List Step)
one_property true paths = None
one_property false [] = None
one_property false (path ∷ []) = where_named path (list_all is_by_name path)
one_property false (path ∷ other ∷ paths) = None

-- the property on which it rests, where it is on one
abbrev pub property_of : Sought → Option (List Step)
property_of sought = one_property sought.whole sought.paths

abbrev pub same_property : Option (List Step) → Option (List Step) → Bool
same_property (Some path) (Some other) = same_path path other
same_property (Some path) None = false
same_property None other = false

-- ---- ranges

-- of two terms the one that is not before the other, and the one that is not behind it
abbrev pub later : List ℕ → List ℕ → List ℕ
later bytes others = if is_le (order_of_bytes bytes others) then others else bytes

abbrev pub earlier : List ℕ → List ℕ → List ℕ
earlier bytes others = if is_le (order_of_bytes bytes others) then bytes else others

-- what two ranges share, which may be nothing
abbrev pub shared_part : TermRange → TermRange → TermRange
shared_part range other = record { from = later range.from other.from; below = earlier range.below other.below }

-- a term may be in the range
abbrev pub has_room : TermRange → Bool
has_room range = is_lt (order_of_bytes range.from range.below)

-- what each of the others shares with the range, where that is something
abbrev pub parts_within : TermRange → List TermRange → List TermRange
parts_within range others = filter has_room (map (shared_part range) others)

-- what each of the ranges shares with each of the others
abbrev pub shared : List TermRange → List TermRange → List TermRange
shared ranges others = flat_map (λ range. parts_within range others) ranges

-- ---- what is sought, combined

-- what is sought for one condition
abbrev pub sought_by : Atom → Sought
sought_by atom =
    record {
      paths = rests_at atom ∷ [];
      whole = rests_on_all atom;
      ranges = ranges_of atom;
    }

-- it has one range, or none
abbrev pub has_one_range_at_most : Sought → Bool
has_one_range_at_most sought = nat_le (length sought.ranges) 1

-- They are on one property, and one of them has one range at most: together they have no more ranges than the other.
abbrev pub are_combined : Sought → Sought → Bool
are_combined old new =
    same_property (property_of old) (property_of new) && (has_one_range_at_most old || has_one_range_at_most new)

abbrev pub combine : Sought → Sought → Sought
combine old new = record { paths = old.paths; whole = old.whole; ranges = shared old.ranges new.ranges }

-- one more: combined with each with which it can be, and behind the others
abbrev pub put : Sought → List Sought → List Sought
put new [] = new ∷ []
put new (old ∷ rest) = if are_combined old new then put (combine old new) rest else old ∷ put new rest

-- one after another
abbrev pub put_all : List Sought → List Sought → List Sought
put_all done [] = done
put_all done (new ∷ rest) = put_all (put new done) rest

-- the ranges of each that is left
abbrev pub combined_unions : List Sought → List (List TermRange)
combined_unions sought = map (λ one. one.ranges) (put_all [] sought)

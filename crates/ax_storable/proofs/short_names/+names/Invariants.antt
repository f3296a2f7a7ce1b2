-- What is left decides the whole: all names so far are short.
use Rattle.std.proofs.Common.{◌≡◌, ◌&&◌, drop}
use Rattle.std.specs.List.{list_all}
use Rattle.ax_storable.specs.ShortNames.{is_short_name, has_short_names}
use Rattle.ax_storable.proofs.short_names.+names.Given as goal

abbrev pub invariant-items_have_short_names-loop-item
    : goal.invariant-items_have_short_names-loop-item
invariant-items_have_short_names-loop-item l =
    list_all has_short_names (drop l.item-index l.item-items)
    ≡ list_all has_short_names l.item-items

abbrev pub invariant-members_have_short_names-loop-member
    : goal.invariant-members_have_short_names-loop-member
invariant-members_have_short_names-loop-member l =
    list_all (λ m. is_short_name m.name && has_short_names m.value)
    (drop l.member-index l.member-items) ≡ list_all
    (λ m. is_short_name m.name && has_short_names m.value) l.member-items

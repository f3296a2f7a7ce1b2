-- What parts say that stand one behind another, each an item by itself, in the newest version: their changes, and
-- the contents to which these lead. Who writes has these words.
-- From the store's own file format (docs/FORMAT.md, "Parts"); no other document has it.
use Rattle.std.specs.Prelude.{List, [], ◌∷◌, Option, Some, option_and_then}
use Rattle.std.specs.Option.{option_map}
use Rattle.ax_frame.specs.Part.{PartValue}
use Rattle.ax_pages.specs.declared.numbers.TheConstants.{NEWEST_VERSION}
use Rattle.ax_area.specs.Changes.{Change, change_of}
use Rattle.ax_area.specs.Contents.{Contents, after_change}
use Rattle.ax_area.specs.Items.{single}

-- the change that a part says by itself, or none
abbrev pub change_said : PartValue → Option Change
change_said part = change_of NEWEST_VERSION (single part)

-- the changes that parts say, or none where one of them says nothing
abbrev pub changes_said : List PartValue → Option (List Change)
changes_said [] = Some []
changes_said (part ∷ parts) =
    option_and_then (λ change. option_map (λ changes. change ∷ changes) (changes_said parts)) (change_said part)

-- the contents after a part, or none where it says nothing, or what may not follow
abbrev pub after_part : PartValue → Contents → Option Contents
after_part part contents = option_and_then (λ change. after_change change contents) (change_said part)

-- the contents after parts, from the first on
abbrev pub after_parts : List PartValue → Contents → Option Contents
after_parts [] contents = Some contents
after_parts (part ∷ parts) contents = option_and_then (after_parts parts) (after_part part contents)

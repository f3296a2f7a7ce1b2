-- The paths of an indexing policy, from the indexing-policy manual of Azure Cosmos DB for NoSQL. A
-- step is `/` and then `[]`, a quoted name, or a plain name. A rule's path is any steps and then
-- `/?` for the leaf there, or `/*` for every leaf there and below; `/?` alone is none. In a quoted
-- name `"` and `\` stand behind a `\`; a plain name is not empty, has no `/` and no `"`, and is
-- none of `[]`, `*` and `?`.
use Rattle.std.specs.Prelude.{ℕ, ◌-◌, List, [], ◌∷◌, ◌++◌, length, take, drop, Bool, true, false}
use Rattle.std.specs.Prelude.{not, ◌&&◌, ◌||◌, ◌==◌, if◌then◌else◌, codes}
use Rattle.std.specs.Prelude.{zero, suc, Option, Some, None, option_map, option_and_then}
use Rattle.std.specs.Option.{unwrap_or}
use Rattle.std.specs.List.{list_all, list_any, flat_map}
use Rattle.std.specs.Str.{bytes_eq}
use Rattle.ax_mean.specs.declared.query.Step.{Step}
use Rattle.ax_mean.specs.declared.query.Step.TheVariants.{Name, Item}
use Rattle.ax_policy.specs.declared.rule_path.RulePath.{RulePath}
use Rattle.ax_policy.specs.declared.quoted.QuotedByte.{QuotedByte}
use Rattle.ax_policy.specs.declared.quoted.QuotedByte.TheVariants.{Stands, Escapes, Closes, Wrong}

abbrev pub slash : ℕ
slash = 47

abbrev pub quote : ℕ
quote = 34

abbrev pub backslash : ℕ
backslash = 92

-- ---- how paths are written, every name quoted

-- a byte that stands behind a backslash in a quoted name
abbrev pub is_escaped : ℕ → Bool
is_escaped byte = byte == quote || (byte == backslash)

abbrev pub escaped_byte : ℕ → List ℕ
escaped_byte byte = if is_escaped byte then backslash ∷ byte ∷ [] else byte ∷ []

-- a name as it stands between its quotes
abbrev pub escaped : List ℕ → List ℕ
escaped name = flat_map escaped_byte name

abbrev pub name_text : List ℕ → List ℕ
name_text name = slash ∷ quote ∷ escaped name ++ quote ∷ []

abbrev pub step_text : Step → List ℕ
step_text (Name name) = name_text name
step_text Item = codes "/[]"

abbrev pub steps_text : List Step → List ℕ
steps_text steps = flat_map step_text steps

abbrev pub mark_text : Bool → List ℕ
mark_text true = codes "/*"
mark_text false = codes "/?"

-- the path of a rule
abbrev pub rule_text : List Step → Bool → List ℕ
rule_text steps all = steps_text steps ++ mark_text all

-- ---- how paths are read

-- a byte between quotes, by whether a backslash stands before it
abbrev pub role_of : Bool → ℕ → QuotedByte
role_of true byte = if is_escaped byte then Stands else Wrong
role_of false byte = if byte == quote then Closes else if byte == backslash then Escapes else Stands

abbrev pub by_role : {A : Type 0} → QuotedByte → A → A → A → A → A
by_role Stands stands escapes closes wrong = stands
by_role Escapes stands escapes closes wrong = escapes
by_role Closes stands escapes closes wrong = closes
by_role Wrong stands escapes closes wrong = wrong

-- the byte, where it is one of the name
abbrev pub standing : QuotedByte → ℕ → List ℕ
standing role byte = by_role role (byte ∷ []) [] [] []

abbrev pub escapes : QuotedByte → Bool
escapes role = by_role role false true false false

-- a byte more before what was read
abbrev pub put : ℕ → Option (List ℕ × List ℕ) → Option (List ℕ × List ℕ)
put byte found = option_map (λ (f : List ℕ × List ℕ). (byte ∷ f.0, f.1)) found

-- the name up to the quote that closes it, and what follows
abbrev pub quoted : Bool → List ℕ → Option (List ℕ × List ℕ)
quoted escaping [] = None
quoted escaping (byte ∷ rest) =
    by_role (role_of escaping byte) (put byte (quoted false rest)) (quoted true rest)
    (Some ([], rest)) None

-- the bytes before the first slash, and those from it on
abbrev pub until_slash : List ℕ → List ℕ
until_slash [] = []
until_slash (byte ∷ rest) = if byte == slash then [] else byte ∷ until_slash rest

abbrev pub from_slash : List ℕ → List ℕ
from_slash [] = []
from_slash (byte ∷ rest) = if byte == slash then byte ∷ rest else from_slash rest

abbrev pub is_empty : {A : Type 0} → List A → Bool
is_empty [] = true
is_empty (first ∷ rest) = false

abbrev pub is_plain : List ℕ → Bool
is_plain name =
    not (is_empty name) && not (list_any (λ byte. byte == quote) name)
    && not (bytes_eq name (codes "*")) && not (bytes_eq name (codes "?"))

-- the step that stands with no quotes
abbrev pub plain_step : List ℕ → Option Step
plain_step text = if bytes_eq text (codes "[]") then Some Item else if is_plain text then Some (Name text) else None

abbrev pub step_and : List ℕ → Step → Step × List ℕ
step_and rest step = (step, rest)

-- the step behind a slash and a quote, and what follows it
abbrev pub quoted_front : List ℕ → Option (Step × List ℕ)
quoted_front rest = option_map (λ (f : List ℕ × List ℕ). step_and f.1 (Name f.0)) (quoted false rest)

-- the step with no quotes behind a slash, and what follows it
abbrev pub plain_front : List ℕ → Option (Step × List ℕ)
plain_front bytes = option_map (step_and (from_slash bytes)) (plain_step (until_slash bytes))

-- the step behind a slash, and what follows it
abbrev pub step_front : List ℕ → Option (Step × List ℕ)
step_front [] = None
step_front (byte ∷ rest) = if byte == quote then quoted_front rest else plain_front (byte ∷ rest)

-- a step before those that were read
abbrev pub put_step : Step → Option (List Step) → Option (List Step)
put_step step found = option_map (λ steps. step ∷ steps) found

-- at most so many steps, which take the whole text
unfoldable pub steps_in : ℕ → List ℕ → Option (List Step)
steps_in zero [] = Some []
steps_in zero (byte ∷ rest) = None
steps_in (suc most) [] = Some []
steps_in (suc most) (byte ∷ rest) =
    if byte == slash then option_and_then (λ (f : Step × List ℕ). put_step f.0 (steps_in most f.1)) (step_front rest)
    else None

-- the steps that a text is
abbrev pub steps_of : List ℕ → Option (List Step)
steps_of text = steps_in (length text) text

-- the last two bytes, and those before
abbrev pub ending : List ℕ → List ℕ
ending text = drop (length text - 2) text

abbrev pub beginning : List ℕ → List ℕ
beginning text = take (length text - 2) text

-- `/?` alone is no path
abbrev pub rule_path_of : Bool → List Step → Option RulePath
rule_path_of all steps =
    if is_empty steps && not all then None else Some (record { steps = steps; all = all })

-- what stands before the mark, where it ends the text
abbrev pub before_mark : Bool → List ℕ → Option (List ℕ)
before_mark all text = if bytes_eq (ending text) (mark_text all) then Some (beginning text) else None

-- the one that is there, else the other
abbrev pub either : {A : Type 0} → Option A → Option A → Option A
either None other = other
either (Some a) other = Some a

abbrev pub marked_path : Bool → List ℕ → Option RulePath
marked_path all text = option_and_then (rule_path_of all) (option_and_then steps_of (before_mark all text))

-- the path of a rule, from its text
abbrev pub rule_path : List ℕ → Option RulePath
rule_path text = either (marked_path true text) (marked_path false text)

abbrev pub is_name : Step → Bool
is_name (Name name) = true
is_name Item = false

-- one or more names
abbrev pub if_names : List Step → Option (List Step)
if_names steps = if not (is_empty steps) && list_all is_name steps then Some steps else None

-- the path of a composite, from its text, which may end in `/?`
abbrev pub composite_path : List ℕ → Option (List Step)
composite_path text =
    option_and_then if_names (steps_of (unwrap_or (before_mark false text) text))

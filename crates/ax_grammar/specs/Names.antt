-- The names that items and sources have where none is written.
use Rattle.std.specs.Prelude.{ℕ, ◌+◌, List, [], ◌∷◌, map, Bool, ◌&&◌, Option, Some, None, is_none, if◌then◌else◌}
use Rattle.std.specs.Fmt.{decimal}
use Rattle.ax_lex.specs.Keywords.{keyword_of}
use Rattle.ax_lex.specs.Tokens.{is_word}
use Rattle.ax_mean.specs.declared.expr.Expr.{Expr, out-Expr}
use Rattle.ax_mean.specs.declared.expr.Expr.TheOpen.{Expr-F}
use Rattle.ax_mean.specs.declared.expr.QueryStep.{QueryStep}
use Rattle.ax_mean.specs.declared.expr.QueryStep.TheVariants.{Member, Position}
use Rattle.ax_mean.specs.declared.query.Named.{Named}
use Rattle.ax_grammar.specs.Written.{Item, Source}

-- a word that is no keyword
abbrev pub is_name : List ℕ → Bool
is_name text = is_word text && is_none (keyword_of text)

-- the name of the last step, where it is one to a member
abbrev pub last_name : List QueryStep → Option (List ℕ)
last_name [] = None
last_name (Member name ∷ []) = Some name
last_name (Position at ∷ []) = None
last_name (step ∷ next ∷ steps) = last_name (next ∷ steps)

abbrev pub as_name : Option (List ℕ) → Option (List ℕ)
as_name None = None
as_name (Some text) = if is_name text then Some text else None

-- the alias of a source for which none is written: the container without steps, else the last
-- step's name, where it is a name
abbrev pub default_alias : List ℕ → List QueryStep → Option (List ℕ)
default_alias container [] = Some container
default_alias container (step ∷ steps) = as_name (last_name (step ∷ steps))

abbrev pub written_or : Option (List ℕ) → Option (List ℕ) → Option (List ℕ)
written_or (Some name) other = Some name
written_or None other = other

-- the alias of the first source, where it has one
abbrev pub alias_of : Source → Option (List ℕ)
alias_of source = written_or source.alias (default_alias source.container source.steps)

-- the last property of a property expression, or an alias that stands alone
abbrev pub own_name_level : Expr-F Expr → Option (List ℕ)
own_name_level (Expr-F.Steps x steps) = last_name steps
own_name_level (Expr-F.Alias name) = Some name
own_name_level _ = None

abbrev pub own_name : Expr → Option (List ℕ)
own_name x = own_name_level (out-Expr x)

abbrev pub name_of : Item → Option (List ℕ)
name_of item = written_or item.name (own_name item.expr)

-- `$1`, `$2` and so on
abbrev pub numbered_name : ℕ → List ℕ
numbered_name n = 36 ∷ decimal n

abbrev pub name_or_number : ℕ → Option (List ℕ) → List ℕ
name_or_number n (Some name) = name
name_or_number n None = numbered_name n

-- the number of the next item that has no name
abbrev pub number_behind : ℕ → Option (List ℕ) → ℕ
number_behind n (Some name) = n
number_behind n None = n + 1

-- items with their names, where the next one without a name has this number
abbrev pub named_from : ℕ → List Item → List Named
named_from n [] = []
named_from n (item ∷ items) =
    record { name = name_or_number n (name_of item); expr = item.expr } ∷
    named_from (number_behind n (name_of item)) items

abbrev pub named_items : List Item → List Named
named_items = named_from 1

abbrev pub item_names : List Item → List (List ℕ)
item_names items = map (λ item. item.name) (named_items items)

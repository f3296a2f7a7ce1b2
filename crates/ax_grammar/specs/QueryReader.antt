-- Reading a query from a list of lexemes.
use Rattle.std.specs.Prelude.{ℕ, nat_le, List, [], ◌∷◌, Bool, true, false, Option, Some, None, option_map}
use Rattle.ax_lex.specs.declared.keyword.Keyword.{Keyword}
use Rattle.ax_lex.specs.declared.keyword.Keyword.TheVariants as keyword
use Rattle.ax_lex.specs.declared.symbol.Symbol.TheVariants as symbol
use Rattle.ax_lex.specs.Lexeme.{Lexeme}
use Rattle.ax_tree.specs.declared.members.Member.{Member}
use Rattle.ax_tree.specs.declared.tree.Tree.{Tree}
use Rattle.ax_mean.specs.declared.expr.Expr.{Expr}
use Rattle.ax_grammar.specs.ExprReader.{read_expr}
use Rattle.ax_grammar.specs.Reading.{Reader, and_then, provided, changed, at_once, where_marked, behind_mark, take_name, marked, all_turns, parted}
use Rattle.ax_grammar.specs.StepReader.{read_steps, read_name_steps}
use Rattle.ax_grammar.specs.Tables.{greatest_u32, parameter_of, count_of}
use Rattle.ax_grammar.specs.Takes.Mark.{the_symbol, the_keyword}
use Rattle.ax_grammar.specs.Written.{Item, Picked, Source, Joined, Ordered, Window, Written}
use Rattle.ax_grammar.specs.Written.Picked.{the_star, the_value, the_items}

-- a phrase behind its keyword, or its absence
abbrev pub read_optional : {X : Type 0} → Keyword → X → Reader X → Reader X
read_optional which absent phrase = where_marked (the_keyword which) phrase (at_once absent)

abbrev pub read_count : List (Member Tree) → Reader ℕ
read_count params (Lexeme.number n ∷ rest) = provided (nat_le n greatest_u32) (Some (n, rest))
read_count params (Lexeme.parameter word ∷ rest) =
    option_map (λ n. (n, rest)) (and_then (parameter_of params word) count_of)
read_count params _ = None

abbrev pub read_distinct : Reader Bool
read_distinct = read_optional keyword.Distinct false (at_once true)

abbrev pub read_top : List (Member Tree) → Reader (Option ℕ)
read_top params =
    read_optional keyword.Top None (λ lexemes. changed Some (read_count params lexemes))

-- a name that may stand here
abbrev pub may_name : Reader (Option (List ℕ))
may_name (Lexeme.name word ∷ rest) = Some (Some word, rest)
may_name lexemes = Some (None, lexemes)

abbrev pub read_naming : Reader (Option (List ℕ))
read_naming =
    where_marked (the_keyword keyword.As) (λ lexemes. changed Some (take_name lexemes)) may_name

abbrev pub read_item : List (Member Tree) → Reader Item
read_item params lexemes =
    and_then (read_expr params lexemes) (λ x. changed
    (λ given. record { expr = x.0; name = given }) (read_naming x.1))

abbrev pub read_pick : List (Member Tree) → Reader Picked
read_pick params =
    where_marked (the_symbol symbol.Star) (at_once the_star)
    (where_marked (the_keyword keyword.Value)
    (λ lexemes. changed the_value (read_expr params lexemes))
    (λ lexemes. changed the_items (parted (the_symbol symbol.Comma) (read_item params) lexemes)))

-- what stands behind `alias IN`
abbrev pub read_elements : List ℕ → Reader Source
read_elements alias lexemes =
    and_then (take_name lexemes) (λ container. changed
    (λ steps. record { container = container.0; each = true; steps = steps; alias = Some alias })
    (read_steps container.1))

-- what stands behind the container, where it is no IN
abbrev pub read_whole : List ℕ → Reader Source
read_whole container lexemes =
    and_then (read_steps lexemes) (λ steps. changed
    (λ alias. record { container = container; each = false; steps = steps.0; alias = alias })
    (read_naming steps.1))

abbrev pub read_source : Reader Source
read_source lexemes =
    and_then (take_name lexemes) (λ first.
    where_marked (the_keyword keyword.In) (read_elements first.0) (read_whole first.0) first.1)

-- what stands behind JOIN
abbrev pub read_join : Reader Joined
read_join lexemes =
    and_then (take_name lexemes) (λ alias.
    and_then (behind_mark (the_keyword keyword.In) take_name alias.1) (λ base. changed
    (λ steps. record { alias = alias.0; base = base.0; steps = steps }) (read_steps base.1)))

abbrev pub read_joins : Reader (List Joined)
read_joins = all_turns (marked (the_keyword keyword.Join) read_join)

abbrev pub read_condition : List (Member Tree) → Reader (Option Expr)
read_condition params =
    read_optional keyword.Where None (λ lexemes. changed Some (read_expr params lexemes))

abbrev pub read_groups : List (Member Tree) → Reader (List Expr)
read_groups params =
    read_optional keyword.Group []
    (behind_mark (the_keyword keyword.By) (parted (the_symbol symbol.Comma) (read_expr params)))

abbrev pub read_direction : Reader Bool
read_direction =
    where_marked (the_keyword keyword.Asc) (at_once false)
    (where_marked (the_keyword keyword.Desc) (at_once true) (at_once false))

-- the names of a path, of which there has to be one
abbrev pub some_names : Option (List (List ℕ) × List Lexeme) → Option (List (List ℕ) × List Lexeme)
some_names None = None
some_names (Some ([], rest)) = None
some_names (Some (name ∷ names, rest)) = Some (name ∷ names, rest)

abbrev pub read_order : Reader Ordered
read_order lexemes =
    and_then (take_name lexemes) (λ alias.
    and_then (some_names (read_name_steps alias.1)) (λ path. changed
    (λ down. record { alias = alias.0; path = path.0; down = down }) (read_direction path.1)))

abbrev pub read_orders : Reader (List Ordered)
read_orders =
    read_optional keyword.Order []
    (behind_mark (the_keyword keyword.By) (parted (the_symbol symbol.Comma) read_order))

-- what stands behind OFFSET
abbrev pub read_numbers : List (Member Tree) → Reader (Option Window)
read_numbers params lexemes =
    and_then (read_count params lexemes) (λ offset. changed
    (λ limit. Some (record { offset = offset.0; limit = limit }))
    (behind_mark (the_keyword keyword.Limit) (read_count params) offset.1))

abbrev pub read_window : List (Member Tree) → Reader (Option Window)
read_window params = read_optional keyword.Offset None (read_numbers params)

-- what was read, where nothing is left
abbrev pub whole_of : {X : Type 0} → Option (X × List Lexeme) → Option X
whole_of None = None
whole_of (Some (x, [])) = Some x
whole_of (Some (x, first ∷ rest)) = None

-- a query from SELECT up to its source, with its joins
pub record Head : Type 0 where
  pub distinct : Bool
  pub top : Option ℕ
  pub picked : Picked
  pub source : Source
  pub joins : List Joined

-- what stands behind SELECT, up to the last join
abbrev pub read_head : List (Member Tree) → Reader Head
read_head params lexemes =
    and_then (read_distinct lexemes) (λ distinct.
    and_then (read_top params distinct.1) (λ top.
    and_then (read_pick params top.1) (λ picked.
    and_then (behind_mark (the_keyword keyword.From) read_source picked.1) (λ source. changed
    (λ joins. record {
      distinct = distinct.0;
      top = top.0;
      picked = picked.0;
      source = source.0;
      joins = joins;
    })
    (read_joins source.1)))))

-- the rest of the query
abbrev pub read_tail : List (Member Tree) → Head → Reader Written
read_tail params head lexemes =
    and_then (read_condition params lexemes) (λ condition.
    and_then (read_groups params condition.1) (λ groups.
    and_then (read_orders groups.1) (λ orders. changed
    (λ window. record {
      distinct = head.distinct;
      top = head.top;
      picked = head.picked;
      source = head.source;
      joins = head.joins;
      condition = condition.0;
      groups = groups.0;
      orders = orders.0;
      window = window;
    })
    (read_window params orders.1))))

-- the query that the whole list writes
abbrev pub read_written : List (Member Tree) → List Lexeme → Option Written
read_written params lexemes =
    whole_of (and_then (behind_mark (the_keyword keyword.Select) (read_head params) lexemes)
    (λ head. read_tail params head.0 head.1))

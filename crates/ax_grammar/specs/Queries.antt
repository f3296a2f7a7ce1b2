-- The grammar of queries: what a list of lexemes writes. A phrase that may be absent is read where
-- its first lexeme stands.
-- A list of lexemes is named by what stands first in it: mark, word and name are the lists from
-- there on.
use Rattle.std.specs.Prelude.{◌≡◌, ℕ, ◌≤◌, List, [], ◌∷◌, Bool, true, false, Option, Some, None}
use Rattle.ax_lex.specs.declared.keyword.Keyword.TheVariants as keyword
use Rattle.ax_lex.specs.declared.symbol.Symbol.TheVariants as symbol
use Rattle.ax_lex.specs.Lexeme.{Lexeme}
use Rattle.ax_tree.specs.declared.members.Member.{Member}
use Rattle.ax_tree.specs.declared.tree.Tree.{Tree}
use Rattle.ax_mean.specs.declared.expr.Expr.{Expr}
use Rattle.ax_mean.specs.declared.expr.QueryStep.{QueryStep}
use Rattle.ax_grammar.specs.Expressions.{Follow, IsWholeExpr}
use Rattle.ax_grammar.specs.Fronts.{begins_keyword, begins_name}
use Rattle.ax_grammar.specs.Levels.Level.{choice}
use Rattle.ax_grammar.specs.Steps.{IsNameStep, AreSteps}
use Rattle.ax_grammar.specs.Tables.{most_nesting, greatest_u32, parameter_of, count_of}
use Rattle.ax_grammar.specs.Takes.{TakesSymbol, TakesKeyword, TakesName, TakesNumber, TakesParameter}
use Rattle.ax_grammar.specs.Takes.Mark.{the_symbol}
use Rattle.ax_grammar.specs.Written.{Item, Picked, Source, Joined, Ordered, Window, Written}
use Rattle.ax_grammar.specs.Written.Picked.{the_star, the_value, the_items}

-- count: a number, or a parameter whose value is one
pub data IsCount (params : List (Member Tree)) : (count : ℕ) (before after : List Lexeme)
    → Type 0 where
  written_count : {count : ℕ} {before after : List Lexeme} → TakesNumber count before after
      → count ≤ greatest_u32 → IsCount params count before after
  given_count : {count : ℕ} {word : List ℕ} {value : Tree} {before after : List Lexeme}
      → TakesParameter word before after → parameter_of params word ≡ Some value
      → count_of value ≡ Some count → IsCount params count before after

-- [DISTINCT]
pub data IsDistinct : (distinct : Bool) (before after : List Lexeme) → Type 0 where
  all_rows : {after : List Lexeme} → begins_keyword keyword.Distinct after ≡ false
      → IsDistinct false after after
  distinct_rows : {before after : List Lexeme} → TakesKeyword keyword.Distinct before after
      → IsDistinct true before after

-- [TOP count]
pub data IsTop (params : List (Member Tree)) : (top : Option ℕ) (before after : List Lexeme)
    → Type 0 where
  no_top : {after : List Lexeme} → begins_keyword keyword.Top after ≡ false
      → IsTop params None after after
  topped : {count : ℕ} {before between after : List Lexeme}
      → TakesKeyword keyword.Top before between → IsCount params count between after
      → IsTop params (Some count) before after

-- [[AS] name]
pub data IsNaming : (given : Option (List ℕ)) (before after : List Lexeme) → Type 0 where
  unnamed : {after : List Lexeme} → begins_keyword keyword.As after ≡ false
      → begins_name after ≡ false → IsNaming None after after
  named_at_once : {word : List ℕ} {before after : List Lexeme} → TakesName word before after
      → IsNaming (Some word) before after
  named_by_as : {word : List ℕ} {before between after : List Lexeme}
      → TakesKeyword keyword.As before between → TakesName word between after
      → IsNaming (Some word) before after

-- item = expr [[AS] name]
pub record IsItem (params : List (Member Tree)) (before : List Lexeme) (item : Item)
    (after : List Lexeme) : Type 0 where
  pub between : List Lexeme
  pub expr : IsWholeExpr params before item.expr between
  pub naming : IsNaming item.name between after

-- {"," item}
pub data ItemsFollow (params : List (Member Tree)) : (before : List Lexeme) (items : List Item)
    (after : List Lexeme) → Type 0 where
  no_item_follows : {after : List Lexeme} → ItemsFollow params after [] after
  item_follows : {item : Item} {items : List Item} {before between next after : List Lexeme}
      → TakesSymbol symbol.Comma before between → IsItem params between item next
      → ItemsFollow params next items after → ItemsFollow params before (item ∷ items) after

pub data IsPick (params : List (Member Tree)) : (before : List Lexeme) (picked : Picked)
    (after : List Lexeme) → Type 0 where
  -- pick = "*"
  star : {before after : List Lexeme} → TakesSymbol symbol.Star before after
      → IsPick params before the_star after
  -- pick = VALUE expr
  value : {x : Expr} {before between after : List Lexeme}
      → TakesKeyword keyword.Value before between → IsWholeExpr params between x after
      → IsPick params before (the_value x) after
  -- pick = item {"," item}
  items : {item : Item} {more : List Item} {before between after : List Lexeme}
      → IsItem params before item between → ItemsFollow params between more after
      → IsPick params before (the_items (item ∷ more)) after

pub data IsSource : (before : List Lexeme) (source : Source) (after : List Lexeme)
    → Type 0 where
  -- from = name IN name {step}
  each_element : {alias container : List ℕ} {steps : List QueryStep}
      {before word behind path after : List Lexeme}
      → TakesName alias before word → TakesKeyword keyword.In word behind
      → TakesName container behind path → AreSteps steps path after
      → IsSource before (record {
        container = container;
        each = true;
        steps = steps;
        alias = Some alias;
      }) after
  -- from = name {step} [[AS] name], where no IN follows the name
  whole : {container : List ℕ} {alias : Option (List ℕ)} {steps : List QueryStep}
      {before path naming after : List Lexeme}
      → TakesName container before path → begins_keyword keyword.In path ≡ false
      → AreSteps steps path naming → IsNaming alias naming after
      → IsSource before (record {
        container = container;
        each = false;
        steps = steps;
        alias = alias;
      }) after

-- join = JOIN name IN name {step}
pub record IsJoin (before : List Lexeme) (joined : Joined) (after : List Lexeme) : Type 0 where
  pub name : List Lexeme
  pub word : List Lexeme
  pub behind : List Lexeme
  pub path : List Lexeme
  pub join : TakesKeyword keyword.Join before name
  pub alias : TakesName joined.alias name word
  pub each : TakesKeyword keyword.In word behind
  pub base : TakesName joined.base behind path
  pub steps : AreSteps joined.steps path after

-- {join}
pub data AreJoins : (before : List Lexeme) (joins : List Joined) (after : List Lexeme)
    → Type 0 where
  joins_ended : {after : List Lexeme} → AreJoins after [] after
  more_joins : {joined : Joined} {joins : List Joined} {before between after : List Lexeme}
      → IsJoin before joined between → AreJoins between joins after
      → AreJoins before (joined ∷ joins) after

-- [WHERE expr]
pub data IsCondition (params : List (Member Tree)) : (before : List Lexeme)
    (condition : Option Expr) (after : List Lexeme) → Type 0 where
  no_condition : {after : List Lexeme} → begins_keyword keyword.Where after ≡ false
      → IsCondition params after None after
  conditioned : {x : Expr} {before between after : List Lexeme}
      → TakesKeyword keyword.Where before between → IsWholeExpr params between x after
      → IsCondition params before (Some x) after

-- [GROUP BY expr {"," expr}]
pub data AreGroups (params : List (Member Tree)) : (before : List Lexeme)
    (groups : List Expr) (after : List Lexeme) → Type 0 where
  no_groups : {after : List Lexeme} → begins_keyword keyword.Group after ≡ false
      → AreGroups params after [] after
  grouped : {x : Expr} {xs : List Expr} {before word first more after : List Lexeme}
      → TakesKeyword keyword.Group before word → TakesKeyword keyword.By word first
      → IsWholeExpr params first x more
      → Follow params most_nesting choice (the_symbol symbol.Comma) more xs after
      → AreGroups params before (x ∷ xs) after

-- {nstep}
pub data AreNameSteps : (names : List (List ℕ)) (before after : List Lexeme) → Type 0 where
  names_ended : {after : List Lexeme} → AreNameSteps [] after after
  more_names : {name : List ℕ} {names : List (List ℕ)} {before between after : List Lexeme}
      → IsNameStep name before between → AreNameSteps names between after
      → AreNameSteps (name ∷ names) before after

-- [ASC | DESC]
pub data IsDirection : (down : Bool) (before after : List Lexeme) → Type 0 where
  no_direction : {after : List Lexeme} → begins_keyword keyword.Asc after ≡ false
      → begins_keyword keyword.Desc after ≡ false → IsDirection false after after
  ascending : {before after : List Lexeme} → TakesKeyword keyword.Asc before after
      → IsDirection false before after
  descending : {before after : List Lexeme} → TakesKeyword keyword.Desc before after
      → IsDirection true before after

-- order = name nstep {nstep} [ASC | DESC]
pub data IsOrder : (before : List Lexeme) (ordered : Ordered) (after : List Lexeme)
    → Type 0 where
  ordered_by : {alias name : List ℕ} {names : List (List ℕ)} {down : Bool}
      {before path direction after : List Lexeme}
      → TakesName alias before path → AreNameSteps (name ∷ names) path direction
      → IsDirection down direction after
      → IsOrder before (record { alias = alias; path = name ∷ names; down = down }) after

-- {"," order}
pub data OrdersFollow : (before : List Lexeme) (orders : List Ordered) (after : List Lexeme)
    → Type 0 where
  no_order_follows : {after : List Lexeme} → OrdersFollow after [] after
  order_follows : {ordered : Ordered} {orders : List Ordered}
      {before between next after : List Lexeme}
      → TakesSymbol symbol.Comma before between → IsOrder between ordered next
      → OrdersFollow next orders after → OrdersFollow before (ordered ∷ orders) after

-- [ORDER BY order {"," order}]
pub data AreOrders : (before : List Lexeme) (orders : List Ordered) (after : List Lexeme)
    → Type 0 where
  no_orders : {after : List Lexeme} → begins_keyword keyword.Order after ≡ false
      → AreOrders after [] after
  in_order : {ordered : Ordered} {orders : List Ordered}
      {before word first more after : List Lexeme}
      → TakesKeyword keyword.Order before word → TakesKeyword keyword.By word first
      → IsOrder first ordered more → OrdersFollow more orders after
      → AreOrders before (ordered ∷ orders) after

-- [OFFSET count LIMIT count]
pub data IsWindow (params : List (Member Tree)) : (before : List Lexeme)
    (window : Option Window) (after : List Lexeme) → Type 0 where
  no_window : {after : List Lexeme} → begins_keyword keyword.Offset after ≡ false
      → IsWindow params after None after
  windowed : {offset limit : ℕ} {before first word second after : List Lexeme}
      → TakesKeyword keyword.Offset before first → IsCount params offset first word
      → TakesKeyword keyword.Limit word second → IsCount params limit second after
      → IsWindow params before (Some (record { offset = offset; limit = limit })) after

-- query = SELECT [DISTINCT] [TOP count] pick FROM from {join}
--         [WHERE expr] [GROUP BY expr {"," expr}]
--         [ORDER BY order {"," order}] [OFFSET count LIMIT count]
-- The whole list is read, and nothing is left.
pub record IsWritten (params : List (Member Tree)) (lexemes : List Lexeme) (written : Written)
    : Type 0 where
  pub behind_select : List Lexeme
  pub behind_distinct : List Lexeme
  pub behind_top : List Lexeme
  pub behind_pick : List Lexeme
  -- what is behind FROM
  pub behind_word : List Lexeme
  pub behind_source : List Lexeme
  pub behind_joins : List Lexeme
  pub behind_condition : List Lexeme
  pub behind_groups : List Lexeme
  pub behind_orders : List Lexeme
  pub select : TakesKeyword keyword.Select lexemes behind_select
  pub distinct : IsDistinct written.distinct behind_select behind_distinct
  pub top : IsTop params written.top behind_distinct behind_top
  pub pick : IsPick params behind_top written.picked behind_pick
  -- FROM
  pub word : TakesKeyword keyword.From behind_pick behind_word
  pub source : IsSource behind_word written.source behind_source
  pub joins : AreJoins behind_source written.joins behind_joins
  pub condition : IsCondition params behind_joins written.condition behind_condition
  pub groups : AreGroups params behind_condition written.groups behind_groups
  pub orders : AreOrders behind_groups written.orders behind_orders
  pub window : IsWindow params behind_orders written.window []

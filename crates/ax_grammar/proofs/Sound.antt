-- The query that is read is one that the whole list of lexemes writes.
use Rattle.std.proofs.Common.{◌≡◌, ℕ, Bool, true, false, List, [], ◌∷◌, Option, Some, None, refl, subst}
use Rattle.ax_lex.specs.declared.keyword.Keyword.TheVariants as keyword
use Rattle.ax_lex.specs.declared.symbol.Symbol.TheVariants as symbol
use Rattle.ax_lex.specs.Lexeme.{Lexeme}
use Rattle.ax_tree.specs.declared.members.Member.{Member}
use Rattle.ax_tree.specs.declared.tree.Tree.{Tree}
use Rattle.ax_mean.specs.declared.expr.Expr.{Expr}
use Rattle.ax_grammar.specs.Expressions.{IsExpr, Follow}
use Rattle.ax_grammar.specs.ExprReader.{read_level, read_expr}
use Rattle.ax_grammar.specs.Levels.{Level}
use Rattle.ax_grammar.specs.Queries.{IsDistinct, IsTop, IsPick, IsSource, AreJoins, IsCondition, AreGroups, AreNameSteps, IsDirection, IsOrder, OrdersFollow, AreOrders, IsWindow, IsWritten}
use Rattle.ax_grammar.specs.Queries.IsCondition.{no_condition, conditioned}
use Rattle.ax_grammar.specs.Queries.AreGroups.{no_groups, grouped}
use Rattle.ax_grammar.specs.Queries.IsDirection.{no_direction, ascending, descending}
use Rattle.ax_grammar.specs.Queries.IsOrder.{ordered_by}
use Rattle.ax_grammar.specs.Queries.OrdersFollow.{no_order_follows, order_follows}
use Rattle.ax_grammar.specs.Queries.AreOrders.{no_orders, in_order}
use Rattle.ax_grammar.specs.Queries.IsWindow.{no_window, windowed}
use Rattle.ax_grammar.specs.QueryReader.{Head, read_count, read_condition, read_groups, read_direction, some_names, read_order, read_orders, read_numbers, read_window, whole_of, read_head, read_tail, read_written, read_source}
use Rattle.ax_grammar.specs.Reading.{and_then, at_once, behind_mark}
use Rattle.ax_grammar.specs.Tables.{most_nesting}
use Rattle.ax_grammar.specs.Takes.{TakesKeyword, TakesName}
use Rattle.ax_grammar.specs.Takes.Mark.{the_symbol, the_keyword}
use Rattle.ax_grammar.specs.Written.{Ordered, Written}
use Rattle.ax_grammar.proofs.SoundClauses.{count_sound, distinct_sound, top_sound, pick_sound, source_sound, joins_sound}
use Rattle.ax_grammar.proofs.SoundLevels.{level_sound, expr_sound}
use Rattle.ax_grammar.proofs.SoundMarks.{IsBehind, AreParted, gives_where, behind_sound, parted_sound}
use Rattle.ax_grammar.proofs.SoundMarks.AreParted.{are_parted}
use Rattle.ax_grammar.proofs.SoundParts.{exprs_sound}
use Rattle.ax_grammar.proofs.SoundReading.{Gives, IsSound, IsRepetition, given, gives_changed, gives_then, gives_with}
use Rattle.ax_grammar.proofs.SoundReading.Gives.{gives_none, gives}
use Rattle.ax_grammar.proofs.SoundSteps.{name_sound, name_steps_sound}

module _ (params : List (Member Tree)) where
  condition_sound : IsSound (IsCondition params) (read_condition params)
  condition_sound lexemes =
      gives_where (the_keyword keyword.Where) _ (at_once None) lexemes
      (λ rest t. gives_changed Some (expr_sound params rest) (λ x after h. conditioned t h))
      (λ e. gives (no_condition e))

  grouped_by : {lexemes word first after : List Lexeme} {xs : List Expr}
      → TakesKeyword keyword.Group lexemes word → TakesKeyword keyword.By word first
      → AreParted (IsExpr params most_nesting Level.choice)
      (Follow params most_nesting Level.choice (the_symbol symbol.Comma)) first xs after
      → AreGroups params lexemes xs after
  grouped_by t b (are_parted h m) = grouped t b h m

  groups_sound : IsSound (AreGroups params) (read_groups params)
  groups_sound lexemes =
      gives_where (the_keyword keyword.Group) _ (at_once []) lexemes
      (λ word t.
      gives_with
      (behind_sound (the_keyword keyword.By) _
      (exprs_sound params most_nesting Level.choice (the_symbol symbol.Comma)
      (read_expr params) (expr_sound params)) word)
      (λ xs after h. grouped_by t h.first h.phrase))
      (λ e. gives (no_groups e))

  numbers_gives : (lexemes first : List Lexeme) → TakesKeyword keyword.Offset lexemes first
      → Gives (IsWindow params lexemes) (read_numbers params first)
  numbers_gives lexemes first t =
      gives_then _ (count_sound params first) (λ offset word h.
      gives_changed _
      (behind_sound (the_keyword keyword.Limit) (read_count params) (count_sound params) word)
      (λ limit after k. windowed t h k.first k.phrase))

  window_sound : IsSound (IsWindow params) (read_window params)
  window_sound lexemes =
      gives_where (the_keyword keyword.Offset) (read_numbers params) (at_once None) lexemes
      (λ first t. numbers_gives lexemes first t) (λ e. gives (no_window e))

direction_sound : IsSound (λ before down after. IsDirection down before after) read_direction
direction_sound lexemes =
    gives_where (the_keyword keyword.Asc) (at_once false) _ lexemes
    (λ rest t. gives (ascending t)) (λ e.
    gives_where (the_keyword keyword.Desc) (at_once true) (at_once false) lexemes
    (λ rest t. gives (descending t)) (λ f. gives (no_direction e f)))

-- the names of a path, of which there is one
data AreSomeNames (before : List Lexeme) : (names : List (List ℕ)) (after : List Lexeme)
    → Type 0 where
  are_some : {name : List ℕ} {names : List (List ℕ)} {after : List Lexeme}
      → AreNameSteps (name ∷ names) before after → AreSomeNames before (name ∷ names) after

some_of : {before : List Lexeme} (names : List (List ℕ)) (after : List Lexeme)
    → AreNameSteps names before after
    → Gives (AreSomeNames before) (some_names (Some (names, after)))
some_of [] after h = gives_none
some_of (name ∷ names) after h = gives (are_some h)

some_names_gives : {before : List Lexeme} {o : Option (List (List ℕ) × List Lexeme)}
    → Gives (λ names after. AreNameSteps names before after) o
    → Gives (AreSomeNames before) (some_names o)
some_names_gives gives_none = gives_none
some_names_gives (gives {found} h) = some_of found.0 found.1 h

is_ordered : {alias : List ℕ} {path : List (List ℕ)} {down : Bool}
    {before names direction after : List Lexeme} → TakesName alias before names
    → AreSomeNames names path direction → IsDirection down direction after
    → IsOrder before (record { alias = alias; path = path; down = down }) after
is_ordered t (are_some h) d = ordered_by t h d

order_sound : IsSound IsOrder read_order
order_sound lexemes =
    gives_then _ (name_sound lexemes) (λ alias names t.
    gives_then _ (some_names_gives (name_steps_sound names)) (λ path direction h.
    gives_changed _ (direction_sound direction) (λ down after d. is_ordered t h d)))

orders_repeat : IsRepetition (IsBehind (the_symbol symbol.Comma) IsOrder) OrdersFollow
orders_repeat = record {
  none = λ lexemes. no_order_follows;
  more = λ before between after ordered orders h m. order_follows h.first h.phrase m;
}

are_in_order : {lexemes word first after : List Lexeme} {orders : List Ordered}
    → TakesKeyword keyword.Order lexemes word → TakesKeyword keyword.By word first
    → AreParted IsOrder OrdersFollow first orders after → AreOrders lexemes orders after
are_in_order t b (are_parted h m) = in_order t b h m

orders_sound : IsSound AreOrders read_orders
orders_sound lexemes =
    gives_where (the_keyword keyword.Order) _ (at_once []) lexemes
    (λ word t.
    gives_with
    (behind_sound (the_keyword keyword.By) _
    (parted_sound (the_symbol symbol.Comma) read_order orders_repeat order_sound) word)
    (λ orders after h. are_in_order t h.first h.phrase))
    (λ e. gives (no_orders e))

-- a query from behind SELECT up to its joins
record IsHead (params : List (Member Tree)) (behind_select : List Lexeme) (head : Head)
    (behind_joins : List Lexeme) : Type 0 where
  behind_distinct : List Lexeme
  behind_top : List Lexeme
  behind_pick : List Lexeme
  behind_word : List Lexeme
  behind_source : List Lexeme
  distinct : IsDistinct head.distinct behind_select behind_distinct
  top : IsTop params head.top behind_distinct behind_top
  pick : IsPick params behind_top head.picked behind_pick
  word : TakesKeyword keyword.From behind_pick behind_word
  source : IsSource behind_word head.source behind_source
  joins : AreJoins behind_source head.joins behind_joins

head_sound : (params : List (Member Tree)) → IsSound (IsHead params) (read_head params)
head_sound params lexemes =
    gives_then _ (distinct_sound lexemes) (λ distinct behind_distinct d.
    gives_then _ (top_sound params behind_distinct) (λ top behind_top t.
    gives_then _ (pick_sound params behind_top) (λ picked behind_pick p.
    gives_then _ (behind_sound (the_keyword keyword.From) read_source source_sound behind_pick)
    (λ source behind_source s.
    gives_changed _ (joins_sound behind_source) (λ joins behind_joins j. record {
      behind_distinct = behind_distinct;
      behind_top = behind_top;
      behind_pick = behind_pick;
      behind_word = s.between;
      behind_source = behind_source;
      distinct = d;
      top = t;
      pick = p;
      word = s.first;
      source = s.phrase;
      joins = j;
    })))))

-- the rest of a query, where nothing is left behind it
tail_gives : (params : List (Member Tree)) (lexemes behind_select behind_joins : List Lexeme)
    (head : Head) → TakesKeyword keyword.Select lexemes behind_select
    → IsHead params behind_select head behind_joins
    → Gives (λ written after. after ≡ [] → IsWritten params lexemes written)
    (read_tail params head behind_joins)
tail_gives params lexemes behind_select behind_joins head s h =
    gives_then _ (condition_sound params behind_joins) (λ condition behind_condition c.
    gives_then _ (groups_sound params behind_condition) (λ groups behind_groups g.
    gives_then _ (orders_sound behind_groups) (λ orders behind_orders o.
    gives_changed _ (window_sound params behind_orders) (λ window after w end. record {
      behind_select = behind_select;
      behind_distinct = h.behind_distinct;
      behind_top = h.behind_top;
      behind_pick = h.behind_pick;
      behind_word = h.behind_word;
      behind_source = h.behind_source;
      behind_joins = behind_joins;
      behind_condition = behind_condition;
      behind_groups = behind_groups;
      behind_orders = behind_orders;
      select = s;
      distinct = h.distinct;
      top = h.top;
      pick = h.pick;
      word = h.word;
      source = h.source;
      joins = h.joins;
      condition = c;
      groups = g;
      orders = o;
      window = subst (λ rest. IsWindow params behind_orders window rest) end w;
    }))))

whole_is : {X : Type 0} (P : X → List Lexeme → Type 0) {x : X} (found : X) (rest : List Lexeme)
    → P found rest → whole_of (Some (found, rest)) ≡ Some x → P x []
whole_is P {x} found [] h e =
    let same : found ≡ x = cc in
    subst (λ y. P y []) same h
whole_is P found (first ∷ rest) h e = absurd (cc)

whole_given : {X : Type 0} {P : X → List Lexeme → Type 0} {x : X}
    {o : Option (X × List Lexeme)} → Gives P o → whole_of o ≡ Some x → P x []
whole_given gives_none e = absurd (cc)
whole_given {P = P} (gives {found} h) e = whole_is P found.0 found.1 h e

query_gives : (params : List (Member Tree)) (lexemes : List Lexeme)
    → Gives (λ written after. after ≡ [] → IsWritten params lexemes written)
    (and_then (behind_mark (the_keyword keyword.Select) (read_head params) lexemes)
    (λ head. read_tail params head.0 head.1))
query_gives params lexemes =
    gives_then _
    (behind_sound (the_keyword keyword.Select) (read_head params) (head_sound params) lexemes)
    (λ head behind_joins h.
    tail_gives params lexemes h.between behind_joins head h.first h.phrase)

-- What an expression is read as at a level is one there.
pub read_level_sound : (params : List (Member Tree)) (n : ℕ) (level : Level)
    (lexemes rest : List Lexeme) (x : Expr) → read_level params n level lexemes ≡ Some (x, rest)
    → IsExpr params n level lexemes x rest
read_level_sound params n level lexemes rest x e = given (level_sound params n level lexemes) e

-- The query that is read is written.
pub read_written_sound : (params : List (Member Tree)) (lexemes : List Lexeme)
    (written : Written) → read_written params lexemes ≡ Some written
    → IsWritten params lexemes written
read_written_sound params lexemes written e = whole_given (query_gives params lexemes) e refl

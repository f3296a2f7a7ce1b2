-- The clauses behind the sources of a query: what is written is read.
use Rattle.std.proofs.Common.{◌≡◌, ℕ, ◌≤◌, ◌<◌, Bool, false, List, [], length, Option, Some, None, refl, arith}
use Rattle.ax_lex.specs.declared.keyword.Keyword.TheVariants as keyword
use Rattle.ax_lex.specs.declared.symbol.Symbol.TheVariants as symbol
use Rattle.ax_lex.specs.Lexeme.{Lexeme}
use Rattle.ax_mean.specs.declared.expr.Expr.{Expr}
use Rattle.ax_tree.specs.declared.members.Member.{Member}
use Rattle.ax_tree.specs.declared.tree.Tree.{Tree}
use Rattle.ax_grammar.specs.ExprReader.{read_expr}
use Rattle.ax_grammar.specs.Fronts.{begins_step, extends}
use Rattle.ax_grammar.specs.Levels.{Level}
use Rattle.ax_grammar.specs.Queries.{IsCondition, AreGroups, AreNameSteps, IsDirection, IsOrder, OrdersFollow, AreOrders, IsWindow}
use Rattle.ax_grammar.specs.Queries.IsCondition.{no_condition, conditioned}
use Rattle.ax_grammar.specs.Queries.AreGroups.{no_groups, grouped}
use Rattle.ax_grammar.specs.Queries.AreNameSteps.{names_ended, more_names}
use Rattle.ax_grammar.specs.Queries.IsDirection.{no_direction, ascending, descending}
use Rattle.ax_grammar.specs.Queries.IsOrder.{ordered_by}
use Rattle.ax_grammar.specs.Queries.OrdersFollow.{no_order_follows, order_follows}
use Rattle.ax_grammar.specs.Queries.AreOrders.{no_orders, in_order}
use Rattle.ax_grammar.specs.Queries.IsWindow.{no_window, windowed}
use Rattle.ax_grammar.specs.QueryReader.{read_condition, read_groups, read_direction, read_order, read_orders, read_numbers, read_window}
use Rattle.ax_grammar.specs.Reading.{Reader, changed, take, behind_mark, marked, parted}
use Rattle.ax_grammar.specs.Takes.{Mark, Takes}
use Rattle.ax_grammar.specs.Takes.Mark.{the_symbol, the_keyword}
use Rattle.ax_grammar.specs.Takes.Takes.{symbol_first, keyword_first}
use Rattle.ax_grammar.specs.Takes.TakesName.{name_first}
use Rattle.ax_grammar.specs.Written.{Ordered, Window}
use Rattle.ax_grammar.proofs.CompleteExpr.{expr_read, follow_front, follow_turns}
use Rattle.ax_grammar.proofs.CompletePicks.{absent_read, present_read, changed_read, count_read}
use Rattle.ax_grammar.proofs.CompleteSteps.{names_read}
use Rattle.ax_grammar.proofs.CompleteTurns.{Reads, Turns, no_marked_turn, marked_turn, parted_read}
use Rattle.ax_grammar.proofs.CompleteTurns.Turns.{no_turn, one_turn}
use Rattle.ax_grammar.proofs.FrontsClauses.{IsAtClause, at_clause, at_later, clause_no_expr, no_step_after, clause_no_comma}
use Rattle.ax_grammar.proofs.FrontsLengths.{mark_shorter, name_shorter, name_step_shorter}
use Rattle.ax_grammar.proofs.FrontsMarks.{not_taken}
use Rattle.ax_grammar.proofs.Marks.{take_complete}

behind_read : {X : Type 0} {phrase : Reader X} {mark : Mark} {before between : List Lexeme}
    {x : X} {after : List Lexeme} → Takes mark before between → Reads phrase between x after
    → Reads (behind_mark mark phrase) before x after
behind_read m r = record { so = rw (take_complete m, r.so) refl }

-- ---- WHERE

pub condition_begins : {params : List (Member Tree)} {before : List Lexeme}
    {condition : Option Expr} {after : List Lexeme} → IsCondition params before condition after
    → IsAtClause 3 after → IsAtClause 4 before
condition_begins (no_condition {after} w) e = at_later 3 4 after refl e
condition_begins (conditioned m x) e = at_clause 4 m refl

pub condition_read : {params : List (Member Tree)} {before : List Lexeme}
    {condition : Option Expr} {after : List Lexeme} → IsCondition params before condition after
    → IsAtClause 3 after → Reads (read_condition params) before condition after
condition_read {params} (no_condition {after} w) e =
    absent_read keyword.Where None (λ lexemes. changed Some (read_expr params lexemes)) after w
condition_read (conditioned {after = after} m x) e =
    present_read keyword.Where None m (changed_read Some
    (expr_read x (clause_no_expr after (at_later 3 6 after refl e))))

-- ---- GROUP BY

pub groups_begin : {params : List (Member Tree)} {before : List Lexeme} {groups : List Expr}
    {after : List Lexeme} → AreGroups params before groups after → IsAtClause 2 after
    → IsAtClause 3 before
groups_begin (no_groups {after} g) e = at_later 2 3 after refl e
groups_begin (grouped m b x f) e = at_clause 3 m refl

pub groups_read : {params : List (Member Tree)} {before : List Lexeme} {groups : List Expr}
    {after : List Lexeme} → AreGroups params before groups after → IsAtClause 2 after
    → Reads (read_groups params) before groups after
groups_read {params} (no_groups {after} g) e =
    absent_read keyword.Group []
    (behind_mark (the_keyword keyword.By) (parted (the_symbol symbol.Comma) (read_expr params)))
    after g
groups_read (grouped {after = after} m b x f) e =
    let later : IsAtClause 6 after = at_later 2 6 after refl e in
    let outside : extends Level.choice after ≡ false = clause_no_expr after later in
    present_read keyword.Group [] m (behind_read b (parted_read (the_symbol symbol.Comma)
    (expr_read x (follow_front f refl outside))
    (follow_turns f refl (clause_no_comma after later) outside)))

-- ---- ORDER BY

direction_read : {down : Bool} {before after : List Lexeme} → IsDirection down before after
    → Reads read_direction before down after
direction_read (no_direction {after} a d) =
    record {
      so = rw (
        not_taken (the_keyword keyword.Asc) after a,
        not_taken (the_keyword keyword.Desc) after d,
      ) refl;
    }
direction_read (ascending keyword_first) = record { so = refl }
direction_read (descending keyword_first) = record { so = refl }

direction_front : {down : Bool} {before after : List Lexeme} → IsDirection down before after
    → begins_step after ≡ false → begins_step before ≡ false
direction_front (no_direction a d) e = e
direction_front (ascending keyword_first) e = refl
direction_front (descending keyword_first) e = refl

direction_no_longer : {down : Bool} {before after : List Lexeme}
    → IsDirection down before after → length after ≤ length before
direction_no_longer (no_direction a d) = omega arith
direction_no_longer (ascending m) = omega (arith, mark_shorter m)
direction_no_longer (descending m) = omega (arith, mark_shorter m)

names_no_longer : {names : List (List ℕ)} {before after : List Lexeme}
    → AreNameSteps names before after → length after ≤ length before
names_no_longer names_ended = omega arith
names_no_longer (more_names s ss) = omega (arith, name_step_shorter s, names_no_longer ss)

order_read : {before : List Lexeme} {ordered : Ordered} {after : List Lexeme}
    → IsOrder before ordered after → begins_step after ≡ false
    → Reads read_order before ordered after
order_read (ordered_by name_first ns d) e =
    record { so = rw ((names_read ns (direction_front d e)).so, (direction_read d).so) refl }

order_shorter : {before : List Lexeme} {ordered : Ordered} {after : List Lexeme}
    → IsOrder before ordered after → length after < length before
order_shorter (ordered_by n ns d) =
    omega (arith, name_shorter n, names_no_longer ns, direction_no_longer d)

orders_front : {before : List Lexeme} {orders : List Ordered} {after : List Lexeme}
    → OrdersFollow before orders after → begins_step after ≡ false → begins_step before ≡ false
orders_front no_order_follows e = e
orders_front (order_follows symbol_first o f) e = refl

orders_turns : {before : List Lexeme} {orders : List Ordered} {after : List Lexeme}
    → OrdersFollow before orders after → take (the_symbol symbol.Comma) after ≡ None
    → begins_step after ≡ false
    → Turns (marked (the_symbol symbol.Comma) read_order) before orders after
orders_turns (no_order_follows {after}) t e =
    no_turn (no_marked_turn read_order (the_symbol symbol.Comma) after t)
orders_turns (order_follows m o f) t e =
    one_turn (marked_turn m (order_read o (orders_front f e)))
    (omega (arith, mark_shorter m, order_shorter o)) (orders_turns f t e)

pub orders_begin : {before : List Lexeme} {orders : List Ordered} {after : List Lexeme}
    → AreOrders before orders after → IsAtClause 1 after → IsAtClause 2 before
orders_begin (no_orders {after} o) e = at_later 1 2 after refl e
orders_begin (in_order m b o f) e = at_clause 2 m refl

pub orders_read : {before : List Lexeme} {orders : List Ordered} {after : List Lexeme}
    → AreOrders before orders after → IsAtClause 1 after → Reads read_orders before orders after
orders_read (no_orders {after} o) e =
    absent_read keyword.Order []
    (behind_mark (the_keyword keyword.By) (parted (the_symbol symbol.Comma) read_order)) after o
orders_read (in_order {after = after} m b o f) e =
    let later : IsAtClause 6 after = at_later 1 6 after refl e in
    let no_step : begins_step after ≡ false =
    no_step_after after (clause_no_expr after later) in
    present_read keyword.Order [] m (behind_read b (parted_read (the_symbol symbol.Comma)
    (order_read o (orders_front f no_step))
    (orders_turns f (clause_no_comma after later) no_step)))

-- ---- OFFSET and LIMIT

pub window_begins : {params : List (Member Tree)} {before : List Lexeme} {window : Option Window}
    → IsWindow params before window [] → IsAtClause 1 before
window_begins (no_window o) = refl
window_begins (windowed m o l n) = at_clause 1 m refl

pub window_read : {params : List (Member Tree)} {before : List Lexeme} {window : Option Window}
    {after : List Lexeme} → IsWindow params before window after
    → Reads (read_window params) before window after
window_read {params} (no_window {after} o) =
    absent_read keyword.Offset None (read_numbers params) after o
window_read {params} (windowed m o l n) =
    present_read {phrase = read_numbers params} keyword.Offset None m
    (record { so = rw ((count_read o).so, take_complete l, (count_read n).so) refl })

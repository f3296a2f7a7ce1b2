-- A query that is written is read as it is; so a list of lexemes writes one query at most.
use Rattle.std.proofs.Common.{◌≡◌, List, [], Some, refl}
use Rattle.ax_lex.specs.Lexeme.{Lexeme}
use Rattle.ax_tree.specs.declared.members.Member.{Member}
use Rattle.ax_tree.specs.declared.tree.Tree.{Tree}
use Rattle.ax_grammar.specs.Queries.{IsWritten}
use Rattle.ax_grammar.specs.QueryReader.{Head, read_head, read_tail, read_written}
use Rattle.ax_grammar.specs.Written.{Written}
use Rattle.ax_grammar.proofs.CompleteClauses.{condition_begins, condition_read, groups_begin, groups_read, orders_begin, orders_read, window_begins, window_read}
use Rattle.ax_grammar.proofs.CompletePicks.{distinct_read, top_read, pick_read, source_read, joins_begin, joins_read}
use Rattle.ax_grammar.proofs.CompleteTurns.{Reads}
use Rattle.ax_grammar.proofs.FrontsClauses.{IsAtClause, at_clause}
use Rattle.ax_grammar.proofs.Marks.{take_complete}

-- the part of a query up to its last join
abbrev head_of : Written → Head
head_of written =
    record {
      distinct = written.distinct;
      top = written.top;
      picked = written.picked;
      source = written.source;
      joins = written.joins;
    }

module _ (params : List (Member Tree)) (lexemes : List Lexeme) (written : Written)
    (w : IsWritten params lexemes written) where
  orders_place : IsAtClause 1 w.behind_orders
  orders_place = window_begins w.window

  groups_place : IsAtClause 2 w.behind_groups
  groups_place = orders_begin w.orders orders_place

  condition_place : IsAtClause 3 w.behind_condition
  condition_place = groups_begin w.groups groups_place

  joins_place : IsAtClause 4 w.behind_joins
  joins_place = condition_begins w.condition condition_place

  source_place : IsAtClause 5 w.behind_source
  source_place = joins_begin w.joins joins_place

  pick_place : IsAtClause 6 w.behind_pick
  pick_place = at_clause 6 w.word refl

  head_read : Reads (read_head params) w.behind_select (head_of written) w.behind_joins
  head_read =
      record {
        so = rw (
          (distinct_read w.distinct).so,
          (top_read w.top).so,
          (pick_read w.pick pick_place).so,
          take_complete w.word,
          (source_read w.source source_place).so,
          (joins_read w.joins joins_place).so,
        ) refl;
      }

  tail_read : Reads (read_tail params (head_of written)) w.behind_joins written []
  tail_read =
      record {
        so = rw (
          (condition_read w.condition condition_place).so,
          (groups_read w.groups groups_place).so,
          (orders_read w.orders orders_place).so,
          (window_read w.window).so,
        ) refl;
      }

-- the reader reads a query that is written
pub read_written_complete : {params : List (Member Tree)} {lexemes : List Lexeme} {written : Written}
    → IsWritten params lexemes written → read_written params lexemes ≡ Some written
read_written_complete {params} {lexemes} {written} w =
    rw (
      take_complete w.select,
      (head_read params lexemes written w).so,
      (tail_read params lexemes written w).so,
    ) refl

-- a list of lexemes writes one query at most
pub written_one : {params : List (Member Tree)} {lexemes : List Lexeme} {a b : Written}
    → IsWritten params lexemes a → IsWritten params lexemes b → a ≡ b
written_one {params} {lexemes} {a} {b} x y =
    let one : read_written params lexemes ≡ Some a = read_written_complete x in
    let other : read_written params lexemes ≡ Some b = read_written_complete y in
    cc

-- What a call that reads a phrase gives, where what it made is seen as what the grammar writes. Out of
-- memory it gives nothing, and nothing is said.
use Rattle.std.specs.Prelude.{◌≡◌, List, map, Option, Some, None, Result, Ok, Err}
use Rattle.ax_lex.specs.Lexeme.{Lexeme}
use Rattle.ax_grammar.specs.QueryReader as grammar
use Rattle.ax_grammar.specs.Reading.{Turn}
use Rattle.ax_grammar.specs.Reading.Turn.{ended, failed, went_on}
use Rattle.ax_grammar.specs.Written.{Written}
use Rattle.ax_scope.specs.AsWritten.{picked_of, source_of, joined_of, ordered_of, optional_window}
use Rattle.ax_parse.specs.declared.fault.ParseFault.{ParseFault}
use Rattle.ax_parse.specs.declared.fault.ParseFault.TheVariants as parse
use Rattle.ax_parse.specs.declared.head.Head.{Head}
use Rattle.ax_parse.specs.declared.lexeme.Rest.{Rest}
use Rattle.ax_parse.specs.declared.tail.Tail.{Tail}
use Rattle.ax_parse.specs.Said.{rest_said}

-- the value that was read and the rest, or that there is none
abbrev pub ReadsAs : {X Y : Type 0} → (X → Y) → Result (X × Rest) ParseFault
    → Option (Y × List Lexeme) → Type 0
ReadsAs view (Ok read) found = found ≡ Some (view read.0, rest_said read.1)
ReadsAs view (Err fault) found = fault ≡ parse.Text → found ≡ None

-- one turn of a repetition
abbrev pub TurnsAs : {X Y : Type 0} → (X → Y) → Result (Option (X × Rest)) ParseFault → Turn Y
    → Type 0
TurnsAs view (Ok (Some read)) turn = turn ≡ went_on (view read.0) (rest_said read.1)
TurnsAs view (Ok None) turn = turn ≡ ended
TurnsAs view (Err fault) turn = fault ≡ parse.Text → turn ≡ failed

-- the value that there is, or that there is none
abbrev pub IsValueAs : {X Y : Type 0} → (X → Y) → Result X ParseFault → Option Y → Type 0
IsValueAs view (Ok value) found = found ≡ Some (view value)
IsValueAs view (Err fault) found = fault ≡ parse.Text → found ≡ None

-- a query from SELECT up to its last join
abbrev pub head_of : Head → grammar.Head
head_of head =
    record {
      distinct = head.distinct;
      top = head.top;
      picked = picked_of head.picked;
      source = source_of head.source;
      joins = map joined_of head.joins;
    }

-- what a query writes whose part up to its last join is the head
abbrev pub behind_head : grammar.Head → Tail → Written
behind_head head tail =
    record {
      distinct = head.distinct;
      top = head.top;
      picked = head.picked;
      source = head.source;
      joins = head.joins;
      condition = tail.condition;
      groups = tail.groups;
      orders = map ordered_of tail.orders;
      window = optional_window tail.window;
    }

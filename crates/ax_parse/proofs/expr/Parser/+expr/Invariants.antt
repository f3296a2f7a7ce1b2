-- What is still to be read stands further in: a function calls those of a lower place, or goes one
-- deeper.
use Rattle.std.proofs.Common.{◌≡◌, ◌+◌, ◌*◌, ◌-◌}
use Rattle.ax_lex.specs.declared.symbol.Symbol.TheVariants.{Comma}
use Rattle.ax_grammar.specs.ExprReader.{read_member, turn_chained}
use Rattle.ax_grammar.specs.Levels as grammar
use Rattle.ax_grammar.specs.Reading.{repeated, all_turns, marked}
use Rattle.ax_grammar.specs.Takes.Mark.{the_symbol}
use Rattle.ax_parse.specs.Levels.{chain_operand, level_of, operated_operand, read_at}
use Rattle.ax_parse.specs.Marks.{mark_of}
use Rattle.ax_parse.specs.Said.{rest_said}
use Rattle.ax_parse.proofs.Levels.{place}
use Rattle.ax_parse.proofs.Turning.{before}
use Rattle.ax_parse.proofs.expr.Parser.+expr.Given as goal

abbrev pub decreases-level : goal.decreases-level
decreases-level l = 70 * l.depth + place l.level + 1

abbrev pub decreases-by_level : goal.decreases-by_level
decreases-by_level l = 70 * l.depth + place l.level

abbrev pub decreases-choice : goal.decreases-choice
decreases-choice l = 70 * l.depth + 1

abbrev pub decreases-chosen : goal.decreases-chosen
decreases-chosen l = 70 * l.depth + 65

abbrev pub decreases-branches : goal.decreases-branches
decreases-branches l = 70 * l.depth + 6

abbrev pub decreases-chain : goal.decreases-chain
decreases-chain l = 70 * l.depth + place (chain_operand l.chain) + 4

abbrev pub decreases-parts : goal.decreases-parts
decreases-parts l = 70 * l.depth + place l.level + 3

abbrev pub decreases-part : goal.decreases-part
decreases-part l = 70 * l.depth + place l.level + 2

abbrev pub decreases-negation : goal.decreases-negation
decreases-negation l = 70 * l.depth + 45

abbrev pub decreases-denied : goal.decreases-denied
decreases-denied l = 70 * l.depth + 1

abbrev pub decreases-denied_inside : goal.decreases-denied_inside
decreases-denied_inside l = 70 * l.depth + 65

abbrev pub decreases-comparison : goal.decreases-comparison
decreases-comparison l = 70 * l.depth + 42

abbrev pub decreases-compared : goal.decreases-compared
decreases-compared l = 70 * l.depth + 41

abbrev pub decreases-predicate : goal.decreases-predicate
decreases-predicate l = 70 * l.depth + 40

abbrev pub decreases-compare : goal.decreases-compare
decreases-compare l = 70 * l.depth + 38

abbrev pub decreases-among : goal.decreases-among
decreases-among l = 70 * l.depth + 38

abbrev pub decreases-between : goal.decreases-between
decreases-between l = 70 * l.depth + 39

abbrev pub decreases-like : goal.decreases-like
decreases-like l = 70 * l.depth + 38

abbrev pub decreases-operated : goal.decreases-operated
decreases-operated l = 70 * l.depth + place (operated_operand l.chain) + 4

abbrev pub decreases-operands : goal.decreases-operands
decreases-operands l = 70 * l.depth + place (operated_operand l.chain) + 3

abbrev pub decreases-operand : goal.decreases-operand
decreases-operand l = 70 * l.depth + place (operated_operand l.chain) + 2

abbrev pub decreases-sign : goal.decreases-sign
decreases-sign l = 70 * l.depth + 19

abbrev pub decreases-signed : goal.decreases-signed
decreases-signed l = 70 * l.depth + 1

abbrev pub decreases-signed_inside : goal.decreases-signed_inside
decreases-signed_inside l = 70 * l.depth + 65

abbrev pub decreases-postfix : goal.decreases-postfix
decreases-postfix l = 70 * l.depth + 16

abbrev pub decreases-atom : goal.decreases-atom
decreases-atom l = 70 * l.depth + 13

abbrev pub decreases-named : goal.decreases-named
decreases-named l = 70 * l.depth + 12

abbrev pub decreases-call : goal.decreases-call
decreases-call l = 70 * l.depth + 11

abbrev pub decreases-bracketed : goal.decreases-bracketed
decreases-bracketed l = 70 * l.depth + 11

abbrev pub decreases-list : goal.decreases-list
decreases-list l = 70 * l.depth + 8

abbrev pub decreases-expressions : goal.decreases-expressions
decreases-expressions l = 70 * l.depth + 7

abbrev pub decreases-members : goal.decreases-members
decreases-members l = 70 * l.depth + 9

abbrev pub decreases-some_members : goal.decreases-some_members
decreases-some_members l = 70 * l.depth + 8

abbrev pub decreases-more_members : goal.decreases-more_members
decreases-more_members l = 70 * l.depth + 7

abbrev pub decreases-next_member : goal.decreases-next_member
decreases-next_member l = 70 * l.depth + 6

abbrev pub decreases-member : goal.decreases-member
decreases-member l = 70 * l.depth + 5

abbrev pub decreases-second : goal.decreases-second
decreases-second l = 70 * l.depth + 5

abbrev pub decreases-among_items : goal.decreases-among_items
decreases-among_items l = 70 * l.depth + 10

abbrev pub decreases-closed_items : goal.decreases-closed_items
decreases-closed_items l = 70 * l.depth + 9

abbrev pub decreases-high : goal.decreases-high
decreases-high l = 70 * l.depth + 38

abbrev pub decreases-after : goal.decreases-after
decreases-after l = 70 * l.depth + place l.level + 2

abbrev pub decreases-closed_choice : goal.decreases-closed_choice
decreases-closed_choice l = 70 * l.depth + 8

abbrev pub invariant-parts-loop-turn : goal.invariant-parts-loop-turn
invariant-parts-loop-turn l =
    let turn = marked (mark_of l.mark) (read_at l.self.params.now l.depth (level_of l.level)) in
    before l.found (repeated turn (l._turn-end - l._turn) (rest_said l.rest))
    ≡ all_turns turn (rest_said l.lexemes)

abbrev pub invariant-operands-loop-turn : goal.invariant-operands-loop-turn
invariant-operands-loop-turn l =
    let turn = turn_chained (level_of (operated_operand l.chain))
    (read_at l.self.params.now l.depth (level_of (operated_operand l.chain))) in
    before l.found (repeated turn (l._turn-end - l._turn) (rest_said l.rest))
    ≡ all_turns turn (rest_said l.lexemes)

abbrev pub invariant-more_members-loop-turn : goal.invariant-more_members-loop-turn
invariant-more_members-loop-turn l =
    let turn = marked (the_symbol Comma)
    (read_member (read_at l.self.params.now l.depth grammar.Level.choice)) in
    before l.found (repeated turn (l._turn-end - l._turn) (rest_said l.rest))
    ≡ all_turns turn (rest_said l.lexemes)

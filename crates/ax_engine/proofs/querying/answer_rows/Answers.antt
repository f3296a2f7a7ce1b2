-- The documents were taken in the order of their numbers.
use Rattle.std.proofs.Common.{[]}
use Rattle.ax_machine.specs.Querying.{numbered}
use Rattle.ax_engine.proofs.Numbers.{none_rise, numbers_rise}
use Rattle.ax_engine.proofs.Stopping.{none_fetched}
use Rattle.ax_engine.proofs.querying.answer_rows.Goals as goal

pub returns-in-Ok-finish-clause-rows : goal.returns-in-Ok-finish-clause-rows
returns-in-Ok-finish-clause-rows g c = λ honest container hold all.
    c.in-Ok-finish.ensures c.args.query.now (numbered container)
    (c.in_default-add_candidates.ensures.added honest container hold c.args.query.now all c.in-Ok.ensures)
    (numbers_rise container hold.show.sound)

pub returns-in-Ok-finish-clause-none : goal.returns-in-Ok-finish-clause-none
returns-in-Ok-finish-clause-none g c = λ none.
    c.in-Ok-finish.ensures c.args.query.now []
    (c.in_default-add_candidates.ensures.none none c.args.query.now c.in-Ok.ensures) none_rise

pub returns-in-Ok-finish-clause-met : goal.returns-in-Ok-finish-clause-met
returns-in-Ok-finish-clause-met g c = λ honest rising.
    c.in_default-add_candidates.ensures.met honest c.args.query.now c.in-Ok.ensures rising

pub returns-in-Ok-finish-clause-fetched : goal.returns-in-Ok-finish-clause-fetched
returns-in-Ok-finish-clause-fetched g c = λ unlimited.
    c.in_default-add_candidates.ensures.fetched c.args.query.now c.in-Ok.ensures.asked unlimited

pub returns-in_default-clause-stops : goal.returns-in_default-clause-stops
returns-in_default-clause-stops g c = λ honest container hold. none_fetched c.args.candidates.now c.args.query.now container c.args.steps.now

pub returns-in-Ok-finish-clause-stops : goal.returns-in-Ok-finish-clause-stops
returns-in-Ok-finish-clause-stops g c = λ honest container hold.
    c.in_default-add_candidates.ensures.stops honest container hold c.args.query.now c.in-Ok.ensures

use Rattle.std.proofs.Common.{sym, ◌∙◌}
use Rattle.ax_pages.specs.Contents.{term_page}
use Rattle.ax_store.specs.Store.{store_contents}
use Rattle.ax_index.proofs.BarePages.{bare_gathers}
use Rattle.ax_index.proofs.NumberLists.{gathers}
use Rattle.ax_index.proofs.GrammarLemmas.{bare_met}
use Rattle.ax_index.proofs.numbers.gather.Goals as goal

pub returns-in-Ok-put_numbers-clause-numbers : goal.returns-in-Ok-put_numbers-clause-numbers
returns-in-Ok-put_numbers-clause-numbers g c = λ told pairs of.
    gathers c.args.ranges.now pairs c.in-Ok.pairs c.args.numbers.now.items c.put_numbers.new.numbers.items (c.in-Ok.ensures.has told pairs of).same
    c.in-Ok-put_numbers.ensures

pub returns-then-not-has_deltas-clause-numbers : goal.returns-then-not-has_deltas-clause-numbers
returns-then-not-has_deltas-clause-numbers g c = λ told pairs of.
    bare_gathers c.gather_base.result (term_page c.args.page (store_contents c.args.store.now).terms) c.args.ranges.now pairs c.args.numbers.now.items
    c.gather_base.new.numbers.items (sym c.has_deltas.ensures ∙ c.if-not-has_deltas.true) of (c.gather_base.ensures.numbers told)

pub returns-then-not-has_deltas-clause-met : goal.returns-then-not-has_deltas-clause-met
returns-then-not-has_deltas-clause-met g c = λ honest.
    bare_met c.gather_base.result (term_page c.args.page (store_contents c.args.store.now).terms) (sym c.has_deltas.ensures ∙ c.if-not-has_deltas.true)
    (c.gather_base.ensures.met honest)

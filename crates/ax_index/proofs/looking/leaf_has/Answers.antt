use Rattle.std.proofs.Common.{ap, ◌∙◌, sym, Bool, Some, None}
use Rattle.ax_index.proofs.Postings.{base_has, under_rises}
use Rattle.ax_index.proofs.GrammarLemmas.{leaf_base}
use Rattle.ax_index.proofs.looking.leaf_has.Goals as goal

pub has_one-requires : goal.has_one-requires
has_one-requires c = under_rises _ _ c.in_ok-leaf.leaf.postings c.in_ok-leaf.ensures.found.are (sym c.in-Some.ensures)

pub returns-in-Some-clause-found : goal.returns-in-Some-clause-found
returns-in-Some-clause-found c = λ pairs base.
    ap (λ (b : Bool). Some b)
    (c.has_one.ensures
    ∙ base_has _ _ c.in_ok-leaf.leaf.postings c.args.pair.now.term c.as_slice.result.now c.args.pair.now.number (Some c.in-Some.numbers.numbers) pairs
    c.in_ok-leaf.ensures.found c.as_slice.ensures c.in-Some.ensures base)

pub returns-in-None-clause-found : goal.returns-in-None-clause-found
returns-in-None-clause-found c = λ pairs base.
    ap (λ (b : Bool). Some b)
    (base_has _ _ c.in_ok-leaf.leaf.postings c.args.pair.now.term c.as_slice.result.now c.args.pair.now.number None pairs
    c.in_ok-leaf.ensures.found c.as_slice.ensures c.in-None.ensures base)

pub returns-in-Some-clause-met : goal.returns-in-Some-clause-met
returns-in-Some-clause-met c = leaf_base c.args.payload.now _ _ c.in_ok-leaf.ensures.found

pub returns-in-None-clause-met : goal.returns-in-None-clause-met
returns-in-None-clause-met c = leaf_base c.args.payload.now _ _ c.in_ok-leaf.ensures.found

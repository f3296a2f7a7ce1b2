use Rattle.std.proofs.Common.{ap, sym, subst, ◌∙◌}
use Rattle.ax_pair.specs.Order.{Rise}
use Rattle.ax_leaf.specs.Pairs.{pairs_of}
use Rattle.ax_leaf.proofs.FromLow.{pairs_rise}
use Rattle.ax_index.specs.Reading.{wanted_of}
use Rattle.ax_index.proofs.FoldedPairs.{wanted_rise}
use Rattle.ax_index.proofs.GrammarLemmas.{leaf_base}
use Rattle.ax_index.proofs.folding.leaf_pairs.Goals as goal

pub returns-clause-rise : goal.returns-clause-rise
returns-clause-rise c =
    let postings = c.in-Some.leaf.postings in
    subst Rise (sym (c.in_ok-pairs.ensures ∙ ap (wanted_of c.args.wanted.now) c.cursor.ensures))
    (wanted_rise c.args.wanted.now (pairs_of postings) (pairs_rise postings c.in-Some.ensures.found.are))

pub returns-clause-met : goal.returns-clause-met
returns-clause-met c = leaf_base c.args.payload.now _ _ c.in-Some.ensures.found

-- The laws of a taker: nothing is taken of nothing, and one row after another is taken.
use Rattle.std.proofs.Common.{◌+◌, List, ap, subst, ◌∙◌, refl, rules}
use Rattle.ax_tree.specs.declared.tree.Tree.{Tree}
use Rattle.ax_mean.specs.Meaning.{bound}
use Rattle.ax_mean.specs.Rows.{Bound}
use Rattle.ax_rows.proofs.Nowhere.{no_rows}
use Rattle.ax_rows.proofs.Walking.{goes_on, goes_out, rows_after}
use Rattle.ax_rows.proofs.walk.Walk.+walk.Goals as goal

pub rows-returns-in-None-clause-took : goal.rows-returns-in-None-clause-took
rows-returns-in-None-clause-took g t c =
    subst (λ (rows : List Bound). g.T.Taker.Took c.args.self.now.taker rows c.args.self.now.taker)
    (no_rows c.args.items.now c.in-Some.rest.now c.in-Some.item.now
    (record { env = c.args.self.now.scope; place = c.args.self.now.place.items })
    (search rules) (c.in-None.ensures ∙ ap (bound c.args.self.now.scope) c.as_str.ensures.text))
    (g.met.T.Taker.none c.args.self.now.taker)

pub bind_each-returns-clause-took : goal.bind_each-returns-clause-took
bind_each-returns-clause-took g t c =
    subst (λ (trees : List Tree). g.T.Taker.Took c.args.self.now.taker
    (rows_after c.args.rest.now c.args.alias.now c.args.self.now.scope c.args.self.now.place.items
    0 trees) c.loop-at.self.taker)
    c.as_slice-tree-items.ensures
    (c.loop-at.invariant.goes c.loop-at.self.taker
    (goes_out g.T.Taker.Took g.met.T.Taker.none c.args.rest.now c.args.alias.now
    c.args.self.now.scope c.args.self.now.place.items c.as_slice-tree-items.result.now
    c.loop-at.at c.loop-at.self.taker c.loop-at-test.false))

pub bind_each-loop-at-preserved : goal.bind_each-loop-at-preserved
bind_each-loop-at-preserved g t c = record {
  scope = search rules;
  place = search rules;
  wants = c.in_ok-flow.ensures.more (c.if-is_enough.ensures.no refl);
  goes = λ after others.
      c.loop-at.invariant.goes after
      (goes_on g.T.Taker.Took g.met.T.Taker.both c.args.rest.now c.args.alias.now
      c.args.self.now.scope c.loop-at.self.scope c.args.self.now.place.items
      c.loop-at.self.place.items c.as_slice-tree-items.result.now c.tree-item.result c.loop-at.at
      c.loop-at.self.taker c.bind_at.new.self.taker after c.loop-at.invariant.scope
      c.loop-at.invariant.place c.loop-at-test.true c.tree-item.is c.in_ok-flow.ensures.took
      others);
}

pub bind_each-returns-then-is_enough-clause-took : goal.bind_each-returns-then-is_enough-clause-took
bind_each-returns-then-is_enough-clause-took g t c =
    subst (λ (trees : List Tree). g.T.Taker.Took c.args.self.now.taker
    (rows_after c.args.rest.now c.args.alias.now c.args.self.now.scope c.args.self.now.place.items
    0 trees) c.bind_at.new.self.taker)
    c.as_slice-tree-items.ensures
    (c.loop-at.invariant.goes c.bind_at.new.self.taker
    (goes_on g.T.Taker.Took g.met.T.Taker.both c.args.rest.now c.args.alias.now
    c.args.self.now.scope c.loop-at.self.scope c.args.self.now.place.items
    c.loop-at.self.place.items c.as_slice-tree-items.result.now c.tree-item.result c.loop-at.at
    c.loop-at.self.taker c.bind_at.new.self.taker c.bind_at.new.self.taker c.loop-at.invariant.scope
    c.loop-at.invariant.place c.loop-at-test.true c.tree-item.is c.in_ok-flow.ensures.took
    (c.in_ok-flow.ensures.enough (c.if-is_enough.ensures.yes refl)
    (rows_after c.args.rest.now c.args.alias.now c.args.self.now.scope c.args.self.now.place.items
    (c.loop-at.at + 1) c.as_slice-tree-items.result.now))))

use Rattle.std.proofs.Common.{◌∙◌, ◌++◌, List, ℕ, length, arith, ap, sym, rules, ◌-◌}
use Rattle.ax_delta.specs.declared.change.Change.{Change}
use Rattle.ax_delta.specs.Changes.{changes_with, changes_of}
use Rattle.ax_delta.specs.Reading.{changes_in}
use Rattle.ax_delta.proofs.Taking.{Goes, goes_on, has_first, nothing_with, none_first}
use Rattle.ax_delta.proofs.changes_left.ChangesLeft.reach.Goals as goal
use Rattle.ax_delta.proofs.changes_left.ChangesLeft.reach.Goals.{In_ok-extend_from_slice}

pub returns-in_default-clause-ready : goal.returns-in_default-clause-ready
returns-in_default-clause-ready c =
    absurd (has_first c.args.self.now.term.items c.args.self.now.rest.now c.args.self.now.count c.requires c.if-self-eq0.false c.in_default.ensures.only)

gone : (c : In_ok-extend_from_slice) → Goes c.args.self.now.term.items c.args.self.now.rest.now c.extend_from_slice.new.self.items
    c.in-Some.change.added.numbers c.in-Some.change.dropped.numbers c.in-Some.after.now c.args.self.now.count
gone c =
    goes_on c.args.self.now.term.items c.args.self.now.rest.now _ _ _ _ _ c.extend_from_slice.new.self.items c.args.self.now.count c.requires
    c.if-self-eq0.false
    (record {
      spelled = c.in-Some.ensures.found;
      some = c.in-Some.ensures.some;
      additions = c.in-Some.ensures.additions;
      removals =
          c.in-Some.ensures.removals;
    })
    (c.in_ok-extend_from_slice.ensures.items ∙ ap (λ (bs : List ℕ). bs ++ c.in-Some.change.term.rest.now) c.truncate.ensures.items)

pub returns-clause-ready : goal.returns-clause-ready
returns-clause-ready c = record {
  spells = (gone (goal.at.returns-clause-ready c).In_ok-extend_from_slice).is;
  reached = λ e f. absurd (omega (arith, c.in-Some.ensures.some, ap length (sym c.of-self.ensures ∙ e), ap length (sym c.of-self-2.ensures ∙ f)));
}

pub returns-clause-same : goal.returns-clause-same
returns-clause-same c =
    let more : List Change = changes_of (changes_in (c.args.self.now.count - 1) c.extend_from_slice.new.self.items c.in-Some.after.now) in
    ap (λ (ns : List ℕ). changes_with c.extend_from_slice.new.self.items ns c.of-self-2.result ++ more) c.of-self.ensures
    ∙ ap (λ (ns : List ℕ). changes_with c.extend_from_slice.new.self.items c.in-Some.change.added.numbers ns ++ more) c.of-self-2.ensures
    ∙ (gone (goal.at.returns-clause-same c).In_ok-extend_from_slice).same
    ∙ sym (nothing_with c.args.self.now.term.items c.args.self.now.added c.args.self.now.dropped _
    (none_first c.args.self.now.added c.args.self.now.dropped (search rules)))

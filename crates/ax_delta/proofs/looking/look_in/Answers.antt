use Rattle.std.proofs.Common.{ℕ, ◌-◌, List, arith, sym, subst, ◌∙◌}
use Rattle.ax_leaf.proofs.Meeting.{met_up_to}
use Rattle.ax_delta.specs.Changes.{TermChange}
use Rattle.ax_delta.specs.ChangeList.{IsChangeList}
use Rattle.ax_delta.proofs.Searching.{IsSearch, IsNext, next_is, found_here, behind_here, search_goes_on, search_has_first}
use Rattle.ax_delta.proofs.looking.look_in.Goals as goal
use Rattle.ax_delta.proofs.looking.look_in.Goals.{In_ok-change}

pub returns-in_err-change : goal.returns-in_err-change
returns-in_err-change c changes is =
    absurd (search_has_first c.args.sought.now c.loop-k.rest.now c.args.number _ c.loop-k.matched changes (c.loop-k.invariant changes is)
    (omega arith) c.in_err-change.ensures.only)

next : (c : In_ok-change) (changes : List TermChange) → (is : IsChangeList c.args.count c.args.list.now changes)
    → IsNext c.args.sought.now (c.loop-k.invariant changes is).last c.loop-k.rest.now c.args.number
    (c.args.count - c.loop-k._k) c.loop-k.matched c.in_ok-change.change.term.shared c.in_ok-change.change.term.rest.now
    c.in_ok-change.change.added.numbers c.in_ok-change.change.dropped.numbers c.in_ok-change.after.now changes
next c changes is =
    next_is c.args.sought.now c.loop-k.rest.now c.args.number (c.args.count - c.loop-k._k) c.loop-k.matched _ _ _ _ _ changes (c.loop-k.invariant changes is)
    (omega arith)
    (record {
      spelled = c.in_ok-change.ensures.found;
      some = c.in_ok-change.ensures.some;
      additions = c.in_ok-change.ensures.additions;
      removals =
          c.in_ok-change.ensures.removals;
    })

pub returns-in-Equal : goal.returns-in-Equal
returns-in-Equal c changes is =
    let comes = next (goal.at.returns-in-Equal c).In_ok-change changes is in
    c.said_here.ensures
    ∙ sym (found_here c.args.sought.now (c.loop-k.invariant changes is).last c.loop-k.rest.now c.args.number _ c.loop-k.matched _ _ _ _ _ changes comes
    (sym (c.in-Equal.ensures (c.loop-k.invariant changes is).last comes.met)))

pub returns-in-Greater : goal.returns-in-Greater
returns-in-Greater c changes is =
    let comes = next (goal.at.returns-in-Greater c).In_ok-change changes is in
    behind_here c.args.sought.now (c.loop-k.invariant changes is).last c.loop-k.rest.now c.args.number _ c.loop-k.matched _ _ _ _ _ changes comes
    (sym (c.in-Greater.ensures (c.loop-k.invariant changes is).last comes.met))

pub loop-k-preserved : goal.loop-k-preserved
loop-k-preserved c changes is =
    let comes = next (goal.at.loop-k-preserved c).In_ok-change changes is in
    let last : List ℕ = (c.loop-k.invariant changes is).last in
    let less = sym (c.in-Less.ensures last comes.met) in
    let after = search_goes_on c.args.sought.now last c.loop-k.rest.now c.args.number
    (c.args.count - c.loop-k._k) c.loop-k.matched _ _ _ _ _ changes comes c.matched_by-matched.result less
    (c.matched_by-matched.ensures last comes.met (met_up_to last c.args.sought.now c.loop-k.matched _ _ comes.met less))
    in
    subst (λ (n : ℕ). IsSearch c.args.sought.now c.in_ok-change.after.now c.args.number n c.matched_by-matched.result changes) (omega arith) after

use Rattle.std.proofs.Common.{ℕ, ◌-◌, List, arith, sym, subst}
use Rattle.ax_leaf.specs.Pairs.{Posting}
use Rattle.ax_leaf.specs.TermList.{IsTermList}
use Rattle.ax_leaf.proofs.Meeting.{met_up_to}
use Rattle.ax_leaf.proofs.Searching.{IsSearch, IsNext, next_is, found_here, behind_here, search_goes_on, search_has_first}
use Rattle.ax_leaf.proofs.finding.find_in.Goals as goal
use Rattle.ax_leaf.proofs.finding.find_in.Goals.{In_ok-posting}

pub returns-in_err-posting : goal.returns-in_err-posting
returns-in_err-posting c postings is =
    absurd (search_has_first c.args.sought.now c.loop-k.rest.now _ c.loop-k.matched postings (c.loop-k.invariant postings is)
    (omega arith) c.in_err-posting.ensures.only)

next : (c : In_ok-posting) (postings : List Posting) → (is : IsTermList c.args.count c.args.list.now postings)
    → IsNext c.args.sought.now (c.loop-k.invariant postings is).last c.loop-k.rest.now
    (c.args.count - c.loop-k._k) c.loop-k.matched c.in_ok-posting.posting.term.shared c.in_ok-posting.posting.term.rest.now
    c.in_ok-posting.posting.numbers.numbers c.in_ok-posting.after.now postings
next c postings is =
    next_is c.args.sought.now c.loop-k.rest.now (c.args.count - c.loop-k._k) c.loop-k.matched _ _ _ _ postings (c.loop-k.invariant postings is) (omega arith)
    (record { spelled = c.in_ok-posting.ensures.found; some = c.in_ok-posting.ensures.some; rising = c.in_ok-posting.ensures.rising })

pub returns-in-Equal : goal.returns-in-Equal
returns-in-Equal c postings is =
    let comes = next (goal.at.returns-in-Equal c).In_ok-posting postings is in
    sym (found_here c.args.sought.now (c.loop-k.invariant postings is).last c.loop-k.rest.now _ c.loop-k.matched _ _ _ _ postings comes
    (sym (c.in-Equal.ensures (c.loop-k.invariant postings is).last comes.met)))

pub returns-in-Greater : goal.returns-in-Greater
returns-in-Greater c postings is =
    let comes = next (goal.at.returns-in-Greater c).In_ok-posting postings is in
    behind_here c.args.sought.now (c.loop-k.invariant postings is).last c.loop-k.rest.now _ c.loop-k.matched _ _ _ _ postings comes
    (sym (c.in-Greater.ensures (c.loop-k.invariant postings is).last comes.met))

pub loop-k-preserved : goal.loop-k-preserved
loop-k-preserved c postings is =
    let comes = next (goal.at.loop-k-preserved c).In_ok-posting postings is in
    let last : List ℕ = (c.loop-k.invariant postings is).last in
    let less = sym (c.in-Less.ensures last comes.met) in
    let after = search_goes_on c.args.sought.now last c.loop-k.rest.now
    (c.args.count - c.loop-k._k) c.loop-k.matched _ _ _ _ postings comes c.matched_by-matched.result less
    (c.matched_by-matched.ensures last comes.met (met_up_to last c.args.sought.now c.loop-k.matched _ _ comes.met less))
    in
    subst (λ (n : ℕ). IsSearch c.args.sought.now c.in_ok-posting.after.now n c.matched_by-matched.result postings) (omega arith) after

use Rattle.std.proofs.Common.{◌≡◌, ◌∙◌, [], ◌++◌, ap, sym}
use Rattle.ax_leaf.specs.Pairs.{pairs_with, pairs_of}
use Rattle.ax_leaf.specs.Reading.{postings_in}
use Rattle.ax_leaf.specs.View.{numbers_left}
use Rattle.ax_leaf.proofs.Going.{Goes, goes_on, has_first}
use Rattle.ax_leaf.proofs.remaining.Remaining.reach.Goals as goal
use Rattle.ax_leaf.proofs.remaining.Remaining.reach.Goals.{In_ok-change_behind}

pub returns-in_default-clause-reached : goal.returns-in_default-clause-reached
returns-in_default-clause-reached c =
    absurd (has_first c.args.self.now.term.items c.args.self.now.rest.now c.args.self.now.count c.requires c.if-self-eq0.false c.in_default.ensures.only)

gone : (c : In_ok-change_behind) → Goes c.args.self.now.term.items c.args.self.now.rest.now c.change_behind.new.bytes.items c.in-Some.posting.numbers.numbers
    c.in-Some.after.now c.args.self.now.count
gone c =
    goes_on c.args.self.now.term.items c.args.self.now.rest.now _ _ _ _ c.change_behind.new.bytes.items c.args.self.now.count c.requires c.if-self-eq0.false
    (record { spelled = c.in-Some.ensures.found; some = c.in-Some.ensures.some; rising = c.in-Some.ensures.rising })
    c.in_ok-change_behind.ensures.ok

pub returns-clause-is : goal.returns-clause-is
returns-clause-is c = (gone (goal.at.returns-clause-is c).In_ok-change_behind).is

pub returns-clause-same : goal.returns-clause-same
returns-clause-same c =
    let spent : numbers_left c.args.self.now.numbers ≡ [] = c.is_spent.ensures.0 c.if-not-is_spent.false in
    (gone (goal.at.returns-clause-same c).In_ok-change_behind).same
    ∙ ap (λ ns. pairs_with c.args.self.now.term.items ns ++ pairs_of (postings_in c.args.self.now.count c.args.self.now.term.items c.args.self.now.rest.now))
    (sym spent)

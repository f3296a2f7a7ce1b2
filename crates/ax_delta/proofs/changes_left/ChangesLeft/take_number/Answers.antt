use Rattle.std.proofs.Common.{◌≡◌, ◌∙◌, ◌++◌, List, ℕ, [], drop, ap, sym, subst, true, false, Bool}
use Rattle.ax_delta.specs.Changes.{changes_with, changes_of}
use Rattle.ax_delta.specs.Reading.{changes_in}
use Rattle.ax_delta.specs.View.{changes_left, first_number}
use Rattle.ax_delta.proofs.Taking.{first_is, at_end, took}
use Rattle.ax_delta.proofs.changes_left.ChangesLeft.take_number.Goals as goal

pub returns-in_default-clause-rest : goal.returns-in_default-clause-rest
returns-in_default-clause-rest c =
    let none : changes_left c.args.self.now ≡ [] = at_end c.args.self.now c.requires c.in_default.ensures in none ∙ sym (ap (drop 1) none)

pub returns-then-add-clause-rest : goal.returns-then-add-clause-rest
returns-then-add-clause-rest c =
    ap (λ (ns : List ℕ). changes_with c.args.self.now.term.items ns c.args.self.now.dropped
    ++ changes_of (changes_in c.args.self.now.count c.args.self.now.term.items c.args.self.now.rest.now)) c.pass.ensures
    ∙ took c.args.self.now true c.in-Some.field-0-1 (subst (λ (b : Bool). first_is b c.in-Some.field-0-1
    ≡ first_number c.args.self.now.added c.args.self.now.dropped) c.if-add.true c.in-Some.ensures)

pub returns-else-add-clause-rest : goal.returns-else-add-clause-rest
returns-else-add-clause-rest c =
    ap (λ (ns : List ℕ). changes_with c.args.self.now.term.items c.args.self.now.added ns
    ++ changes_of (changes_in c.args.self.now.count c.args.self.now.term.items c.args.self.now.rest.now)) c.pass-else-add.ensures
    ∙ took c.args.self.now false c.in-Some.field-0-1 (subst (λ (b : Bool). first_is b c.in-Some.field-0-1
    ≡ first_number c.args.self.now.added c.args.self.now.dropped) c.if-add.false c.in-Some.ensures)

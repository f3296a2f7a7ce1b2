use Rattle.std.proofs.Common.{◌≡◌, ◌∙◌, drop, ap, sym, List, [], ◌∷◌}
use Rattle.ax_delta.specs.declared.change.Change.{Change}
use Rattle.ax_delta.specs.Changes.{change_at}
use Rattle.ax_delta.specs.Pass.{merged_from}
use Rattle.ax_delta.specs.View.{changes_left}
use Rattle.ax_delta.proofs.Placing.{is_place}
use Rattle.ax_delta.proofs.Taking.{at_end, behind_first, next_is}
use Rattle.ax_delta.proofs.merging.make_first.Goals as goal

pub returns-in_default-clause-rest : goal.returns-in_default-clause-rest
returns-in_default-clause-rest c =
    let none : changes_left c.args.changes.now ≡ [] = at_end c.args.changes.now c.requires.ready c.in_default.ensures in
    none ∙ sym (ap (drop 1) none)

pub make_at-requires-clause-place : goal.make_at-requires-clause-place
make_at-requires-clause-place c =
    is_place c.is_met-met.result c.args.at c.args.pairs.now (changes_left c.args.changes.now) (behind_first c.args.changes.now c.in-Some.add)
    (change_at c.in-Some.add c.as_slice.result.now c.in-Some.number)
    (next_is c.args.changes.now c.in-Some.add c.in-Some.number c.in-Some.ensures
    ∙ ap (λ t. change_at c.in-Some.add t c.in-Some.number ∷ behind_first c.args.changes.now c.in-Some.add) (sym c.as_slice.ensures.value))
    c.requires.not_passed c.is_met-met.ensures.within c.is_met-met.ensures.met

pub returns-clause-made : goal.returns-clause-made
returns-clause-made c =
    let next : changes_left c.args.changes.now ≡ change_at c.in-Some.add c.as_slice.result.now c.in-Some.number ∷ behind_first c.args.changes.now c.in-Some.add =
    next_is c.args.changes.now c.in-Some.add c.in-Some.number c.in-Some.ensures
    ∙ ap (λ t. change_at c.in-Some.add t c.in-Some.number ∷ behind_first c.args.changes.now c.in-Some.add) (sym c.as_slice.ensures.value)
    in
    ap (λ (cs : List Change). merged_from c.in_ok-place.place c.make_at.new.pairs cs) (c.in_ok-take.ensures.rest ∙ ap (drop 1) next)
    ∙ c.in_ok-place.ensures.made (behind_first c.args.changes.now c.in-Some.add)
    ∙ ap (λ (cs : List Change). merged_from c.args.at c.args.pairs.now cs) (sym next)

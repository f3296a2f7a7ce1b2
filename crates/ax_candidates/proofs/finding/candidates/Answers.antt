use Rattle.std.proofs.Common.{◌≡◌, ℕ, List, Option, sym, ap, subst, ◌∙◌}
use Rattle.std.specs.Prelude.{IfSome, IsTrue}
use Rattle.ax_gap.specs.Gaps.{IsRisingList}
use Rattle.ax_delta.specs.Said.{has_number}
use Rattle.ax_pages.specs.Contents.{TermPage}
use Rattle.ax_pairs.specs.Index.{IsIndex}
use Rattle.ax_store.specs.Store.{store_contents}
use Rattle.ax_index.proofs.Unmoved.{same_terms}
use Rattle.ax_candidates.specs.Candidates.{AreCandidates, AreOfAsked}
use Rattle.ax_candidates.specs.Meeting.{AreMetWith, AreOfKindInGrammar, IsBegun, IsLeft}
use Rattle.ax_candidates.specs.declared.points.Kind.TheVariants.{Points, Ranges}
use Rattle.ax_candidates.proofs.OfKind.{are_all_met, are_candidates}
use Rattle.ax_candidates.proofs.finding.candidates.Goals as goal

pub returns-clause-numbers : goal.returns-clause-numbers
returns-clause-numbers g c = λ told set is.
    let unions = c.args.unions.now in
    let points = c.in-Ok-met_with.ensures in
    let others = c.in-Ok-met_with-2.ensures in
    let once : (store_contents c.met_with.new.store).terms ≡ (store_contents c.args.store.now).terms = same_terms _ _ c.in-Ok.ensures.reads.same.same in
    let twice : (store_contents c.met_with-2.new.store).terms ≡ (store_contents c.args.store.now).terms =
    same_terms _ _ points.reads.same.same ∙ once in
    subst (AreCandidates unions set) (sym c.into_vec.ensures)
    (are_candidates unions set c.in-Ok.found c.in-Ok-met_with.found c.in-Some.numbers
    (subst (λ (left : Option (List ℕ)). IfSome left IsRisingList) c.in-Some.is others.rising)
    (c.in-Ok.ensures.numbers told set is)
    (points.numbers (subst IsTrue (sym c.in-Ok.ensures.honest) told) set (subst (λ (ts : List TermPage). IsIndex ts set) (sym once) is))
    (subst (AreMetWith Ranges unions c.in-Ok-met_with.found set) c.in-Some.is
    (others.numbers (subst IsTrue (sym (points.honest ∙ c.in-Ok.ensures.honest)) told) set (subst (λ (ts : List TermPage). IsIndex ts set) (sym twice) is))))

pub returns-clause-met : goal.returns-clause-met
returns-clause-met g c = λ told number found.
    let unions = c.args.unions.now in
    let points = c.in-Ok-met_with.ensures in
    let others = c.in-Ok-met_with-2.ensures in
    let once : (store_contents c.met_with.new.store).terms ≡ (store_contents c.args.store.now).terms = same_terms _ _ c.in-Ok.ensures.reads.same.same in
    let twice : (store_contents c.met_with-2.new.store).terms ≡ (store_contents c.args.store.now).terms =
    same_terms _ _ points.reads.same.same ∙ once in
    let left : IsLeft c.in-Ok-met_with-2.left number =
    subst (λ (left : Option (List ℕ)). IsLeft left number) (sym c.in-Some.is) (sym (ap (has_number number) c.into_vec.ensures) ∙ found) in
    let before = others.fewer number left in
    are_all_met unions (store_contents c.args.store.now).terms (c.in-Ok.ensures.met told number (points.fewer number before))
    (subst (AreOfKindInGrammar Points unions) once (points.met (subst IsTrue (sym c.in-Ok.ensures.honest) told) number before))
    (subst (AreOfKindInGrammar Ranges unions) twice (others.met (subst IsTrue (sym (points.honest ∙ c.in-Ok.ensures.honest)) told) number left))

pub returns-clause-asked : goal.returns-clause-asked
returns-clause-asked g c = λ told.
    let unions = c.args.unions.now in
    let points = c.in-Ok-met_with.ensures in
    let others = c.in-Ok-met_with-2.ensures in
    let terms = (store_contents c.args.store.now).terms in
    let once : (store_contents c.met_with.new.store).terms ≡ terms = same_terms _ _ c.in-Ok.ensures.reads.same.same in
    let twice : (store_contents c.met_with-2.new.store).terms ≡ terms = same_terms _ _ points.reads.same.same ∙ once in
    let first : IsBegun c.in-Ok.found unions terms = c.in-Ok.ensures.begun told tt in
    let second : IsBegun c.in-Ok-met_with.found unions terms =
    subst (IsBegun c.in-Ok-met_with.found unions) once
    (points.begun (subst IsTrue (sym c.in-Ok.ensures.honest) told) (subst (IsBegun c.in-Ok.found unions) (sym once) first)) in
    let third : IsBegun c.in-Ok-met_with-2.left unions terms =
    subst (IsBegun c.in-Ok-met_with-2.left unions) twice
    (others.begun (subst IsTrue (sym (points.honest ∙ c.in-Ok.ensures.honest)) told)
    (subst (IsBegun c.in-Ok-met_with.found unions) (sym twice) second)) in
    subst (AreOfAsked unions terms) (sym c.into_vec.ensures)
    (subst (λ (left : Option (List ℕ)). IsBegun left unions terms) c.in-Some.is third)

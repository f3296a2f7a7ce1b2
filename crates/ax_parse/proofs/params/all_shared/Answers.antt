-- One more parameter is kept, and one less is left.
use Rattle.std.proofs.Common.{◌≡◌, ◌+◌, ◌∷◌, ◌++◌, drop, sym, ap, ◌∙◌, arith}
use Rattle.std.proofs.lemmas.List.{drop_more}
use Rattle.ax_parse.specs.Params.{given}
use Rattle.ax_parse.proofs.Given.{given_more}
use Rattle.ax_parse.proofs.params.all_shared.Goals as goal

pub loop-member-preserved : goal.loop-member-preserved
loop-member-preserved c =
    let l = c.loop-member in
    let params = c.args.params.now in
    let behind = drop (l.member-index + 1) params in
    let left : drop l.member-index params ≡ c.member-item.result ∷ behind =
    drop_more params l.member-index c.member-item.result
    (omega (arith, c.loop-member-test.true, l.auto.member-index-end))
    ∙ ap (λ p. p ∷ behind) (sym c.member-item.is) in
    ap (λ members. given members ++ behind) c.in_ok-push.ensures.items
    ∙ given_more l.members.items c.in_ok-shared.field-0 c.member-item.result behind params
    c.in_ok-shared.ensures.name c.in_ok-shared.ensures.value
    (ap (λ rest. given l.members.items ++ rest) (sym left) ∙ l.invariant)

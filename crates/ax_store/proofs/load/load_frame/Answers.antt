use Rattle.std.proofs.Common.{sym, subst, ◌+◌, ◌++◌, ◌∷◌, length, arith}
use Rattle.std.specs.Prelude.{IsTrue}
use Rattle.ax_store.specs.Kept.{Takes}
use Rattle.ax_store.proofs.LoadLemmas.{next_frame, span_at, agrees_next, shows_next, refused_frame, refused_span, loaded_more}
use Rattle.ax_store.proofs.load.load_frame.Goals as goal

pub returns-in-Err-clause-tells : goal.returns-in-Err-clause-tells
returns-in-Err-clause-tells g c = λ honest frames agrees shows loaded.
    let next = next_frame frames c.args.at c.args.pages.now loaded (omega (arith, c.requires, agrees.end_is)) in
    let tells = c.in-Err.ensures.tells honest next.first next.rest next.span (agrees_next c.args.log.now frames c.args.at c.args.pages.now next _ agrees)
    (shows_next frames c.args.at c.args.pages.now next c.args.window.now shows) next.place in
    refused_frame c.in-Err.fault (length next.span) _ frames c.args.pages.now tells

pub returns-in-Ok-take_span-clause-tells : goal.returns-in-Ok-take_span-clause-tells
returns-in-Ok-take_span-clause-tells g c = λ honest frames agrees shows loaded.
    let next = next_frame frames c.args.at c.args.pages.now loaded (omega (arith, c.requires, agrees.end_is)) in
    let agrees_here = agrees_next c.args.log.now frames c.args.at c.args.pages.now next _ agrees in
    let shows_here = shows_next frames c.args.at c.args.pages.now next c.args.window.now shows in
    let len = c.in-Ok.ensures.tells honest next.first next.rest next.span agrees_here shows_here next.place in
    let still = subst IsTrue (sym c.read_len.ensures.honest) honest in
    let takes =
    c.in-Ok-take_span.ensures.tells still (next.first ++ next.span ∷ next.rest) (c.in-Ok.ensures.agrees honest _ agrees_here)
    (c.in-Ok.ensures.shows honest _ agrees_here shows_here) in
    loaded_more frames c.args.at c.args.pages.now next c.take_span.new.pages _ (omega (arith, len))
    (subst (λ bytes. Takes bytes (c.args.at + 9) c.args.pages.now c.take_span.new.pages)
    (span_at next.first next.rest next.span c.args.at c.in-Ok.len next.place len) takes)

pub returns-in-Err-take_span-clause-tells : goal.returns-in-Err-take_span-clause-tells
returns-in-Err-take_span-clause-tells g c = λ honest frames agrees shows loaded.
    let next = next_frame frames c.args.at c.args.pages.now loaded (omega (arith, c.requires, agrees.end_is)) in
    let agrees_here = agrees_next c.args.log.now frames c.args.at c.args.pages.now next _ agrees in
    let shows_here = shows_next frames c.args.at c.args.pages.now next c.args.window.now shows in
    let len = c.in-Ok.ensures.tells honest next.first next.rest next.span agrees_here shows_here next.place in
    let still = subst IsTrue (sym c.read_len.ensures.honest) honest in
    refused_span frames c.args.at c.args.pages.now next c.in-Err-take_span.fault _ _ c.take_span.new.pages
    (span_at next.first next.rest next.span c.args.at c.in-Ok.len next.place len)
    (c.in-Err-take_span.ensures.tells still (next.first ++ next.span ∷ next.rest) (c.in-Ok.ensures.agrees honest _ agrees_here)
    (c.in-Ok.ensures.shows honest _ agrees_here shows_here))

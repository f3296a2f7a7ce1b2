-- The engine over its cache has the same documents; or no memory was left for the cache.
use Rattle.std.proofs.Common.{ap, subst, ◌∙◌}
use Rattle.ax_cache.specs.Held.{held}
use Rattle.ax_cache.specs.PageLaws.{no_pages}
use Rattle.ax_engine.proofs.Applying.{rests_over}
use Rattle.ax_engine.proofs.Recaching.{over_still, standing_still, works_still}
use Rattle.ax_engine.specs.Course.{Standing, standing_of}
use Rattle.ax_script.specs.Answered.{TellsAnswered}
use Rattle.ax_script.proofs.AnsweredLines.{memory_answered}
use Rattle.ax_script.proofs.Endings.{ends_without_memory, streams}
use Rattle.ax_script.proofs.script_run.serve_opened.Goals as goal

pub returns-in_default-clause-script : goal.returns-in_default-clause-script
returns-in_default-clause-script g c = λ honest before holds.
    ends_without_memory _ before _ _ (rests_over (λ _. no_pages) _ c.args.engine _ before c.requires.works holds)

pub serve_cached-requires-clause-works : goal.serve_cached-requires-clause-works
serve_cached-requires-clause-works g c =
    works_still c.args.engine c.with_cache-engine.result c.with_cache-engine.ensures.fault c.with_cache-engine.ensures.documents
    (λ _. no_pages) held _ _ (ap held c.with_cache-engine.ensures.cache ∙ c.in-Ok.ensures.pages) c.requires.works

pub returns-clause-script : goal.returns-clause-script
returns-clause-script g c = λ honest before holds.
    c.serve_cached.ensures.script honest before
    (over_still c.args.engine c.with_cache-engine.result c.with_cache-engine.ensures.fault
    c.with_cache-engine.ensures.documents _ before holds)

pub returns-clause-sound : goal.returns-clause-sound
returns-clause-sound g c = λ honest before holds.
    c.serve_cached.ensures.sound honest before
    (over_still c.args.engine c.with_cache-engine.result c.with_cache-engine.ensures.fault
    c.with_cache-engine.ensures.documents _ before holds)

pub returns-clause-answered : goal.returns-clause-answered
returns-clause-answered g c =
    subst (λ (was : Standing). TellsAnswered (g.D.Disk.is_honest c.args.disk.now) was
    (g.D.Disk.history c.serve_cached.new.disk (g.D.Disk.attached c.serve_cached.new.disk)) c.serve_cached.result
    (streams (g.S.Source.rest c.args.source.now) (g.K.Sink.written c.args.sink.now) c.args.steps.now)
    (streams (g.S.Source.rest c.serve_cached.new.source) (g.K.Sink.written c.serve_cached.new.sink) c.serve_cached.new.steps))
    (standing_still c.args.engine.documents c.with_cache-engine.result.documents c.with_cache-engine.ensures.documents)
    c.serve_cached.ensures.answered

pub returns-in_default-clause-answered : goal.returns-in_default-clause-answered
returns-in_default-clause-answered g c = memory_answered (g.D.Disk.is_honest c.args.disk.now) (standing_of c.args.engine.documents)
    (g.D.Disk.history c.args.disk.now (g.D.Disk.attached c.args.disk.now)) _ _ _ _

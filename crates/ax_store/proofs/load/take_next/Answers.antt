use Rattle.std.proofs.Common.{◌∙◌, ap, sym, subst, ◌-◌, ◌≤◌, take, drop, Err}
use Rattle.ax_pages.specs.Area.{frames_bytes}
use Rattle.ax_pages.specs.Area.{extent_number}
use Rattle.ax_log.specs.Log.{log_area}
use Rattle.ax_store.specs.Loading.{TellsNext}
use Rattle.ax_store.specs.declared.fault.StoreFault.TheVariants.{Damaged}
use Rattle.ax_store.proofs.SpanLemmas.{looked_taken, looked_refused}
use Rattle.ax_store.proofs.load.take_next.Goals as goal

pub returns-in-Ok-take_front-clause-tells : goal.returns-in-Ok-take_front-clause-tells
returns-in-Ok-take_front-clause-tells g c = λ honest frames agrees shows.
    looked_taken (frames_bytes frames) c.args.here c.args.end c.min-most.result c.bytes_at-bytes.result.now c.requires.here
    (subst (λ n. c.args.end ≤ n) agrees.end_is c.requires.end) c.min-most.ensures
    (c.bytes_at-bytes.ensures.is frames (c.in-Ok.ensures.shows honest frames agrees shows)) c.in-Ok-take_front.size c.args.pages.now
    c.take_front.new.pages c.in-Ok-take_front.ensures

pub returns-in-Err-Spoiled-clause-tells : goal.returns-in-Err-Spoiled-clause-tells
returns-in-Err-Spoiled-clause-tells g c = λ honest frames agrees shows.
    let spoiled = rw c.in-Err-Spoiled.field-0-is at c.in-Err-Spoiled.ensures in
    subst (λ fault. TellsNext (Err fault) (log_area c.args.log.now)
    (take (c.args.end - c.args.here) (drop c.args.here (frames_bytes frames))) c.args.here c.args.pages.now c.take_front.new.pages)
    (sym (c.damaged.ensures ∙ ap (λ area. Damaged (extent_number area) c.in-Err-Spoiled.at) c.area.ensures))
    (looked_refused (frames_bytes frames) c.args.here c.args.end c.min-most.result c.bytes_at-bytes.result.now c.requires.here
    (subst (λ n. c.args.end ≤ n) agrees.end_is c.requires.end) c.min-most.ensures
    (c.bytes_at-bytes.ensures.is frames (c.in-Ok.ensures.shows honest frames agrees shows)) (log_area c.args.log.now) c.in-Err-Spoiled.at
    c.args.pages.now c.take_front.new.pages spoiled)

use Rattle.std.proofs.Common.{refl, sym, subst, ◌∙◌, ◌+◌, ◌≤◌, arith}
use Rattle.std.specs.Prelude.{IsTrue}
use Rattle.ax_disk.specs.laws.StaysLaws.{idles_start, idles_join}
use Rattle.ax_pages.specs.Area.{frames_bytes}
use Rattle.ax_store.proofs.SpanLemmas.{nothing_taken, step, refused}
use Rattle.ax_store.proofs.load.take_span.Goals as goal

pub loop-here-init : goal.loop-here-init
loop-here-init g c = record {
  taken = λ honest frames agrees shows. nothing_taken (frames_bytes frames) c.args.at c.args.len c.args.pages.now;
  shows = λ honest frames agrees shows. shows;
  agrees = λ honest frames agrees. agrees;
  idles = λ honest. idles_start _;
  before = omega arith;
  within = omega arith;
  count = refl;
  attached = refl;
  honest = refl;
}

pub loop-here-preserved : goal.loop-here-preserved
loop-here-preserved g c =
    let inv = c.loop-here.invariant in
    let more = c.in-Ok.ensures in
    record {
      taken = λ honest frames agrees shows.
          step (frames_bytes frames) c.args.at c.args.len c.loop-here.here c.args.pages.now c.loop-here.pages inv.before inv.within
          (subst (λ n. c.args.at + c.args.len ≤ n) agrees.end_is c.requires)
          (inv.taken honest frames agrees shows) c.in-Ok.size c.take_next.new.pages
          (more.tells (subst IsTrue (sym inv.honest) honest) frames (inv.agrees honest frames agrees) (inv.shows honest frames agrees shows));
      shows = λ honest frames agrees shows.
          more.shows (subst IsTrue (sym inv.honest) honest) frames (inv.agrees honest frames agrees) (inv.shows honest frames agrees shows);
      agrees = λ honest frames agrees. more.agrees (subst IsTrue (sym inv.honest) honest) frames (inv.agrees honest frames agrees);
      idles = λ honest. idles_join _ _ _ (inv.idles honest) (more.lists (subst IsTrue (sym inv.honest) honest));
      before = omega (arith, inv.before);
      within = more.within.1;
      count = more.cause.uncounted ∙ inv.count;
      attached = more.attached ∙ inv.attached;
      honest = more.honest ∙ inv.honest;
    }

pub returns-in-Err-clause-tells : goal.returns-in-Err-clause-tells
returns-in-Err-clause-tells g c = λ honest frames agrees shows.
    let inv = c.loop-here.invariant in
    refused (frames_bytes frames) c.args.at c.args.len c.loop-here.here c.args.pages.now c.loop-here.pages inv.before inv.within
    (subst (λ n. c.args.at + c.args.len ≤ n) agrees.end_is c.requires)
    c.in-Err.fault _ c.take_next.new.pages (inv.taken honest frames agrees shows) c.loop-here-test.true
    (c.in-Err.ensures.tells (subst IsTrue (sym inv.honest) honest) frames (inv.agrees honest frames agrees) (inv.shows honest frames agrees shows))

use Rattle.std.proofs.Common.{sym, subst, ◌∙◌, arith}
use Rattle.std.specs.Prelude.{IsTrue}
use Rattle.ax_disk.specs.laws.StaysLaws.{idles_join}
use Rattle.ax_store.specs.Loading.{nothing_kept}
use Rattle.ax_store.proofs.LoadLemmas.{all_loaded, last_same, refused_load}
use Rattle.ax_store.proofs.load.load.Goals as goal

pub loop-at-preserved : goal.loop-at-preserved
loop-at-preserved g c =
    let inv = c.loop-at.invariant in
    let more = c.in-Ok-load_frame.ensures in
    record {
      loaded = λ honest frames agrees.
          more.tells (subst IsTrue (sym inv.honest) honest) frames (inv.agrees honest frames agrees) (inv.shows honest frames agrees)
          (inv.loaded honest frames agrees);
      shows = λ honest frames agrees.
          more.shows (subst IsTrue (sym inv.honest) honest) frames (inv.agrees honest frames agrees) (inv.shows honest frames agrees);
      agrees = λ honest frames agrees. more.agrees (subst IsTrue (sym inv.honest) honest) frames (inv.agrees honest frames agrees);
      idles = λ honest. idles_join _ _ _ (inv.idles honest) (more.lists (subst IsTrue (sym inv.honest) honest));
      within = more.within.1;
      count = more.cause.uncounted ∙ inv.count;
      attached = more.attached ∙ inv.attached;
      honest = more.honest ∙ inv.honest;
    }

pub returns-in-Err-clause-tells : goal.returns-in-Err-clause-tells
returns-in-Err-clause-tells g c = λ honest frames agrees.
    let inv = c.loop-at.invariant in
    refused_load c.in-Err.fault _ frames _
    (c.in-Err.ensures.tells (subst IsTrue (sym inv.honest) honest) frames (inv.agrees honest frames agrees)
    (inv.shows honest frames agrees) (inv.loaded honest frames agrees))

pub returns-in-Err-clause-lists : goal.returns-in-Err-clause-lists
returns-in-Err-clause-lists g c = λ honest.
    let inv = c.loop-at.invariant in
    idles_join _ _ _ (inv.idles honest) (c.in-Err.ensures.lists (subst IsTrue (sym inv.honest) honest))

pub returns-clause-tells : goal.returns-clause-tells
returns-clause-tells g c = λ honest frames agrees.
    last_same frames 0 nothing_kept c.loop-at.pages c.drop_cleared.new.self
    (all_loaded frames c.loop-at.at c.loop-at.pages (c.loop-at.invariant.loaded honest frames agrees)
    (omega (arith, c.loop-at-test.false, c.end.ensures, agrees.end_is)))
    c.drop_cleared.ensures.contents c.drop_cleared.ensures.offsets

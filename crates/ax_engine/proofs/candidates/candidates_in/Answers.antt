-- What the index tells, as what a query looks at.
use Rattle.std.proofs.Common.{◌≤◌, length, sym, subst, ◌∙◌}
use Rattle.ax_store.specs.Store.{store_contents}
use Rattle.ax_engine.specs.Candidates.{AreNumbersOf}
use Rattle.ax_engine.proofs.Choosing.{all_or_none, some_of}
use Rattle.ax_engine.proofs.Looking.{fault_looked, found_looked, nothing_looked}
use Rattle.ax_engine.proofs.candidates.candidates_in.Goals as goal

pub returns-then-is_empty-clause-looks : goal.returns-then-is_empty-clause-looks
returns-then-is_empty-clause-looks g c = nothing_looked g.C.PageCache.pages _ _ c.args.store.now _ _ c.requires.agrees

pub returns-in-Ok-clause-looks : goal.returns-in-Ok-clause-looks
returns-in-Ok-clause-looks g c =
    found_looked g.C.PageCache.pages _ _ _ _ _ _ _ c.in-Ok.ensures.reads c.in-Ok.ensures.others c.in-Ok.numbers _ c.in-Ok.ensures.fails c.in-Ok.ensures.cause

pub returns-in-Err-clause-looks : goal.returns-in-Err-clause-looks
returns-in-Err-clause-looks g c =
    fault_looked g.C.PageCache.pages _ _ _ _ _ _ _ c.in-Err.ensures.reads c.in-Err.ensures.others c.in-Err.fault c.in-Err.ensures.told
    c.in-Err.ensures.fails c.in-Err.ensures.cause

pub returns-in-Ok-clause-found : goal.returns-in-Ok-clause-found
returns-in-Ok-clause-found g c = λ honest.
    let pages = (store_contents c.args.store.now).terms in
    subst (λ unions. AreNumbersOf unions pages c.in-Ok.numbers.items) c.as_slice-2.ensures (record {
      some = subst (λ unions. 1 ≤ length unions) (c.as_slice.ensures ∙ sym c.as_slice-2.ensures) (some_of _ c.if-is_empty.ensures);
      rising = c.in-Ok.ensures.rising;
      are = c.in-Ok.ensures.numbers honest;
      asked = c.in-Ok.ensures.asked honest;
      met = all_or_none c.as_slice-2.result.now pages c.in-Ok.numbers.items (c.in-Ok.ensures.met honest);
    })

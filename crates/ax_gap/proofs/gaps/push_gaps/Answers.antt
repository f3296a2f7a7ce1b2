use Rattle.std.proofs.Common.{◌<◌, ◌+◌, ◌++◌, ap, ◌∙◌, sym, arith, refl, get_or, drop, take}
use Rattle.std.proofs.lemmas.List.{take_all, append_assoc, append-nil}
use Rattle.std.proofs.lemmas.List.Elements.{All-from_get_or}
use Rattle.ax_gap.specs.Gaps.{gaps_from}
use Rattle.ax_gap.proofs.Rising.{rises}
use Rattle.ax_gap.proofs.GapLaws.{gaps_from-more, gaps_from-all, rises-more}
use Rattle.ax_gap.proofs.Gathering.{still_begins}
use Rattle.ax_gap.proofs.gaps.push_gaps.Goals as goal

pub loop-n-init : goal.loop-n-init
loop-n-init c = record {
  written = ap (λ bs. bs ++ gaps_from 0 c.args.list.now) (append-nil c.args.out.now.items);
  prefix = take_all _ c.args.out.now.items (omega arith);
  rises = rises c.args.list.now (record {
    rising = c.requires;
    numbers =
        All-from_get_or (λ n. n < 4294967296) c.args.list.now 0 (λ i _. omega (arith, c.type_inv.list i));
  });
  within = omega arith;
}

pub loop-n-preserved : goal.loop-n-preserved
loop-n-preserved c =
    let up = rises-more c.args.list.now c.loop-n.n-index c.loop-n.least _ (omega arith) refl c.loop-n.invariant.rises in
    let gap = gaps_from-more c.args.list.now c.loop-n.n-index c.loop-n.least _ (omega arith) refl in
    record {
      written = ap (λ bs. bs ++ gaps_from (get_or c.args.list.now c.loop-n.n-index 0 + 1) (drop (c.loop-n.n-index + 1) c.args.list.now))
          c.in_ok-count.ensures.ok.1
          ∙ append_assoc (c.loop-n.out.items ++ take c.loop-n.count c.loop-n.gathered) _ _
          ∙ ap (λ bs. c.loop-n.out.items ++ take c.loop-n.count c.loop-n.gathered ++ bs) (sym gap)
          ∙ c.loop-n.invariant.written;
      prefix = still_begins c.args.out.now.items c.loop-n.out.items _ c.loop-n.invariant.prefix c.in_ok-count.ensures.prefix;
      rises = up.2;
      within = c.in_ok-count.ensures.ok.0;
    }

pub returns-clause-ok : goal.returns-clause-ok
returns-clause-ok c =
    c.in_ok-extend_from_slice.ensures.items
    ∙ sym (append-nil (c.loop-n.out.items ++ take c.loop-n.count c.loop-n.gathered))
    ∙ ap (λ bs. c.loop-n.out.items ++ take c.loop-n.count c.loop-n.gathered ++ bs)
    (sym (gaps_from-all c.args.list.now c.loop-n.n-index c.loop-n.least (omega arith)))
    ∙ c.loop-n.invariant.written

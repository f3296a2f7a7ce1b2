-- The last byte is raised, or falls away.
use Rattle.std.proofs.Common.{◌≡◌, ◌≤◌, ◌+◌, length, ◌∙◌, arith}
use Rattle.std.proofs.lemmas.Result.{IfOk-weaker}
use Rattle.ax_atoms.specs.Spans.{next_bytes}
use Rattle.ax_atoms.proofs.Nexts.{dropped, raised}
use Rattle.ax_atoms.proofs.next.next_bytes.Goals as goal

pub returns-then-last-lt255-clause-next : goal.returns-then-last-lt255-clause-next
returns-then-last-lt255-clause-next c =
    IfOk-weaker c.raised.result _ (λ next. next.items ≡ next_bytes c.args.front.now)
    (λ next is. is ∙ raised c.loop-last.left.now c.in-Some.before.now c.args.front.now c.in-Some.last.now
    c.in-Some.ensures.cases.0 c.if-last-lt255.true c.loop-last.invariant.all) c.raised.ensures

pub loop-last-preserved : goal.loop-last-preserved
loop-last-preserved c =
    let e : length c.in-Some.before.now + 1 ≡ length c.loop-last.left.now = c.in-Some.ensures.cases.1 in
    let short : length c.loop-last.left.now ≤ length c.args.front.now = c.loop-last.invariant.short in
    record {
      all = dropped c.loop-last.left.now c.in-Some.before.now c.args.front.now c.in-Some.last.now
          c.in-Some.ensures.cases.0 c.if-last-lt255.false c.loop-last.invariant.all;
      short = omega (arith, e, short);
    }

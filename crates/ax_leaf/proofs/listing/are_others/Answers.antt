use Rattle.std.proofs.Common.{◌≡◌, ◌∙◌, [], arith, refl, sym, true, false}
use Rattle.std.proofs.lemmas.Bool.{false≢true}
use Rattle.ax_leaf.proofs.InListing.{set_out, no_more_there, no_step, goes_on, is_done}
use Rattle.ax_leaf.proofs.listing.are_others.Goals as goal

pub loop-k-init : goal.loop-k-init
loop-k-init g c =
    set_out g.L.Listed.Begins c.args.list.now c.args.first.rest.now c.args.behind.now c.keep_front.new.front c.args.count c.args.first.shared _
    c.requires.begins c.requires.none refl
    (c.keep_front.ensures [] (λ k in_front in_term. absurd (omega (arith, in_term))) (omega (arith, c.requires.none)))

pub returns-in_default : goal.returns-in_default
returns-in_default g c = (
  λ h. absurd (false≢true h),
  λ h. absurd (no_more_there g.L.Listed.Begins c.args.list.now c.args.first.rest.now c.args.behind.now c.loop-k.rest.now c.loop-k.front c.args.count c.loop-k.k
      c.loop-k.size c.loop-k.invariant (omega arith) c.in_default.ensures.only h),
)

pub returns-then-not-follows : goal.returns-then-not-follows
returns-then-not-follows g c = (
  λ h. absurd (false≢true h),
  λ h. absurd (no_step g.L.Listed.Begins c.args.list.now c.args.first.rest.now c.args.behind.now c.loop-k.rest.now c.loop-k.front c.args.count c.loop-k.k
      c.loop-k.size c.loop-k.invariant (omega arith) c.in-Some.term.shared c.in-Some.term.rest.now c.in-Some.after.now c.in-Some.ensures.found
      c.in-Some.ensures.only
      (λ f.
      let t : c.follows.result ≡ true =
      (c.follows.ensures c.loop-k.invariant.last c.loop-k.rest.now c.loop-k.invariant.reaches c.loop-k.invariant.sized c.loop-k.invariant.has).1 f
      in
      let e : c.follows.result ≡ false = c.if-not-follows.true in false≢true (sym e ∙ t))
      h),
)

pub loop-k-preserved : goal.loop-k-preserved
loop-k-preserved g c =
    let inv = c.loop-k.invariant in
    let follows = (c.follows.ensures inv.last c.loop-k.rest.now inv.reaches inv.sized inv.has).0 c.if-not-follows.false in
    goes_on g.L.Listed.Begins c.args.list.now c.args.first.rest.now c.args.behind.now c.loop-k.rest.now c.loop-k.front c.args.count c.loop-k.k c.loop-k.size
    inv (omega arith) c.in-Some.term.shared c.in-Some.term.rest.now c.in-Some.after.now c.in-Some.ensures.found c.in-Some.ensures.only
    c.keep_front-in-loop-k.new.front follows c.keep_front-in-loop-k.ensures

pub returns : goal.returns
returns g c =
    let done =
    is_done g.L.Listed.Begins c.args.list.now c.args.first.rest.now c.args.behind.now c.loop-k.rest.now c.loop-k.front c.args.count c.loop-k.k c.loop-k.size
    c.loop-k.invariant (omega arith)
    in
    (λ h. done.0 (c.is_end.ensures.0 h), λ h. c.is_end.ensures.1 (done.1 h))

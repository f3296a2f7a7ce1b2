use Rattle.std.proofs.Common.{◌∙◌, arith, sym}
use Rattle.std.proofs.lemmas.Bool.{false≢true}
use Rattle.ax_leaf.proofs.Following.{follows_where}
use Rattle.ax_leaf.proofs.listing.follows.Goals as goal

pub returns-then-not-fits_behind : goal.returns-then-not-fits_behind
returns-then-not-fits_behind g c = λ last rest there sized front. (
  λ h. absurd (false≢true h),
  λ h. absurd (false≢true (sym c.if-not-fits_behind.true ∙ c.fits_behind.ensures.1 (omega (arith, sized, h.within), h.short))),
)

pub returns : goal.returns
returns g c = λ last rest there sized front.
    let fits = c.fits_behind.ensures.0 c.if-not-fits_behind.false in
    let both = follows_where last c.args.term.shared c.args.term.rest.now c.byte_behind-byte.result
    (c.byte_behind-byte.ensures last rest there sized front) (omega (arith, sized, fits.0)) fits.1 in
    (λ h. both.0 (c.exceeds.ensures.0 h), λ h. c.exceeds.ensures.1 (both.1 h))

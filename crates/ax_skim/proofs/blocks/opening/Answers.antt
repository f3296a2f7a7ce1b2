use Rattle.std.proofs.lemmas.Simd.{zip2_splat}
use lib.Bits.{bit_or}
use Rattle.ax_skim.proofs.BitLanes.{equal, classified}
use Rattle.ax_skim.specs.Blocks.{is_opening}
use Rattle.ax_skim.proofs.blocks.opening.Goals as goal

pub returns : goal.returns
returns c =
    let v = c.args.v in
    classified _ is_opening v _ c.fits-v
    (equal (λ x. bit_or x 32) 123 v c.fits-v.0 (zip2_splat bit_or v 64 32 c.fits-v.0)) tt

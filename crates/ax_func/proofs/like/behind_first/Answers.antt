-- The piece stands where its bytes are found first.
use Rattle.std.proofs.Common.{ap, sym, ◌∙◌, ◌++◌, take}
use Rattle.std.specs.Str.{chars}
use Rattle.ax_func.proofs.PlaceLemmas.{place_of-none, place_of-some, parts_of-some}
use Rattle.ax_func.proofs.like.behind_first.Goals as goal

pub returns-in_err-rest : goal.returns-in_err-rest
returns-in_err-rest c =
    rw c.from_residual.ensures
    (place_of-none c.args.text.now c.args.piece.now c.utf8.text c.utf8.piece c.in_err-rest.ensures.cases)

pub returns : goal.returns
returns c =
    let found = c.in_ok-rest.ensures.cases in (
      chars (take found.0 c.args.text.now),
      place_of-some c.args.text.now c.args.piece.now c.utf8.text c.utf8.piece found.0 found.1 found.2,
      parts_of-some c.args.text.now c.args.piece.now c.utf8.text c.utf8.piece found.0 found.1 found.2
          ∙ ap (λ rest. chars (take found.0 c.args.text.now) ++ (chars c.args.piece.now ++ chars rest))
          (sym found.4),
    )

use Rattle.std.proofs.Common.{ap, subst, sym}
use Rattle.std.specs.Prelude.{IfOk}
use Rattle.std.specs.Option.{option_copied}
use Rattle.ax_keep.specs.Owned.{AreOwned}
use Rattle.ax_keep.proofs.owned.pairs_of.Goals as goal

pub returns-in-Some : goal.returns-in-Some
returns-in-Some c =
    subst (λ d. IfOk c.document_pairs.result (λ pairs. AreOwned c.args.number c.args.under.now d pairs.items))
    (sym (ap option_copied c.in-Some.is)) c.document_pairs.ensures

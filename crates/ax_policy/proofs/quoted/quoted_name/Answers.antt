-- The name and what follows it are UTF-8, as the whole is.
use Rattle.ax_policy.proofs.Utf8.{quoted_found}
use Rattle.ax_policy.proofs.quoted.quoted_name.Goals as goal

pub text_from-requires : goal.text_from-requires
text_from-requires c =
    (quoted_found c.args.bytes.now _ _ c.requires (rw c.in-Some.is at c.in_ok-found.ensures)).before

pub returns-in-Some-clause-utf8 : goal.returns-in-Some-clause-utf8
returns-in-Some-clause-utf8 c =
    (quoted_found c.args.bytes.now _ _ c.requires (rw c.in-Some.is at c.in_ok-found.ensures)).after

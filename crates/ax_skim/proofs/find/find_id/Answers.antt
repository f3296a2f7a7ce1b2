use Rattle.ax_skim.proofs.Maps.{id_text, id_there}
use Rattle.ax_skim.proofs.find.find_id.Goals as goal

pub returns-clause-found : goal.returns-clause-found
returns-clause-found c =
    λ tree id is named. c.plain_text.ensures.found id
    (id_text c.args.text.now c.in_ok-find_member.field-0.now id tree c.in_ok-find_member.ensures is named)

pub returns-clause-given : goal.returns-clause-given
returns-clause-given c =
    λ tree id is named own. c.plain_text.ensures.given id own
    (id_text c.args.text.now c.in_ok-find_member.field-0.now id tree c.in_ok-find_member.ensures is named)

pub returns-in_err-find_member-clause-given : goal.returns-in_err-find_member-clause-given
returns-in_err-find_member-clause-given c =
    λ tree id is named own. absurd (id_there c.args.text.now id tree c.in_err-find_member.ensures is named)

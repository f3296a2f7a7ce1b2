use Rattle.ax_container.proofs.Refusing.{conflicts, full_insertion, full_upsert, insertion_made, upsert_made}
use Rattle.ax_container.proofs.Refusing.{exchange_absent, exchange_made, upsert_exchanges, removal_absent, removal_made}
use Rattle.ax_container.proofs.laws.a_write_is_refused_for_a_cause.Goals as goal

pub returns-clause-conflict : goal.returns-clause-conflict
returns-clause-conflict c = λ before tree id there. conflicts id tree before there

pub returns-clause-full : goal.returns-clause-full
returns-clause-full c = λ before tree id absent full.
    (full_insertion id tree before absent full, full_upsert id tree before absent full)

pub returns-clause-created : goal.returns-clause-created
returns-clause-created c = λ before tree id absent space.
    (insertion_made id tree before absent space, upsert_made id tree before absent space)

pub returns-clause-absent : goal.returns-clause-absent
returns-clause-absent c = λ before tree id absent.
    (exchange_absent id tree before absent, removal_absent id before absent)

pub returns-clause-held : goal.returns-clause-held
returns-clause-held c = λ before tree id there.
    (exchange_made id tree before there, upsert_exchanges id tree before there, removal_made id before there)

use Rattle.ax_container.proofs.Upserts.{upsert_sets_one}
use Rattle.ax_container.proofs.laws.an_upsert_sets_one_document.Goals as goal

pub returns-clause-one : goal.returns-clause-one
returns-clause-one c = λ before after tree id done. (upsert_sets_one before after id tree done).one

pub returns-clause-indexed : goal.returns-clause-indexed
returns-clause-indexed c =
    λ before after tree id done. (upsert_sets_one before after id tree done).indexed

pub returns-clause-number : goal.returns-clause-number
returns-clause-number c =
    λ before after tree id done. (upsert_sets_one before after id tree done).number

pub returns-clause-others : goal.returns-clause-others
returns-clause-others c =
    λ before after tree id other done. (upsert_sets_one before after id tree done).others other

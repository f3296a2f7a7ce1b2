use Rattle.ax_skips.proofs.Alike.{same_answer}
use Rattle.ax_skips.proofs.Fetching.{fetched_are_chosen}
use Rattle.ax_skips.proofs.HeldAnswers.{answers_all}
use Rattle.ax_skips.proofs.Silence.{skips_to_candidates}
use Rattle.std.proofs.Common.{subst}
use Rattle.ax_answer_text.specs.TextAnswers.{Answers}
use Rattle.ax_machine.specs.Querying.{numbered}
use Rattle.ax_skips.specs.Chosen.{chosen}
use Rattle.ax_skips.proofs.laws.candidates_have_the_answer.Goals as goal

pub returns-clause-skips : goal.returns-clause-skips
returns-clause-skips c = λ query table unions container set numbers over all.
    skips_to_candidates query table unions container set numbers
    c.a_document_without_a_term_in_each_union_has_no_rows.ensures over all

pub returns-clause-answer : goal.returns-clause-answer
returns-clause-answer c = λ query table unions container set numbers over all.
    same_answer query (numbered container) (chosen numbers container)
    (skips_to_candidates query table unions container set numbers
    c.a_document_without_a_term_in_each_union_has_no_rows.ensures over all)

pub returns-clause-fetched : goal.returns-clause-fetched
returns-clause-fetched c = fetched_are_chosen

pub returns-clause-taken : goal.returns-clause-taken
returns-clause-taken c = λ answer query table unions container set numbers over all rising answers.
    answers_all answer query (numbered container) (chosen numbers container)
    (skips_to_candidates query table unions container set numbers
    c.a_document_without_a_term_in_each_union_has_no_rows.ensures over all)
    (subst (Answers answer query) (fetched_are_chosen container numbers over.sound rising) answers)

-- Whichever documents they are, the answer over them is that over all.
use Rattle.std.proofs.Common.{◌≡◌, ℕ, List, OnOk, subst, sym, true, ◌∙◌}
use Rattle.std.specs.List.Sorted.{IsStrictlyIncreasing}
use Rattle.ax_answer_text.specs.Parts.{IsTakenWhole}
use Rattle.ax_answer_text.specs.TextAnswers.{Answers}
use Rattle.ax_delta.specs.Said.{has_number}
use Rattle.ax_machine.specs.Querying.{numbered}
use Rattle.ax_skips.specs.Chosen.{fetched}
use Rattle.ax_store.specs.Store.{store_contents}
use Rattle.ax_engine.specs.Candidates.{AreRising, CountsOneEach, HasAllOf, IsAmong}
use Rattle.ax_engine.specs.Walks.{Walks}
use Rattle.ax_engine.specs.Stopping.{StopsAtEnough, StopsInNumbers}
use Rattle.ax_engine.proofs.ByNumbers.{all_by_law, counts_each, nil_of, on_ok_by}
use Rattle.ax_engine.proofs.Stopping.{none_fetched}
use Rattle.ax_engine.proofs.Walking.{none_walked}
use Rattle.ax_engine.proofs.querying.add_candidates.Goals as goal

pub returns-then-is_empty-clause-added : goal.returns-then-is_empty-clause-added
returns-then-is_empty-clause-added g c = λ honest container hold query all answers.
    let numbers = c.in-Numbers.numbers.items in
    all_by_law c.candidates_have_the_answer.ensures.taken c.args.answer.now query container numbers
    (subst (λ found. HasAllOf query found container) c.in-Numbers.is all)
    (subst (λ (list : List ℕ). Answers c.args.answer.now query (fetched list container))
    (sym (sym c.as_slice.ensures.value ∙ nil_of c.as_slice.result.now c.if-is_empty.ensures)) answers)

pub returns-in-All-clause-met : goal.returns-in-All-clause-met
returns-in-All-clause-met g c = λ honest query answers rising.
    subst (λ found. OnOk c.add_documents.result
    (Walks (IsAmong found) (IsTakenWhole query) query (store_contents c.args.store.now))) (sym c.in-All.is)
    (c.add_documents.ensures.met honest query answers)

pub returns-in-All-clause-fetched : goal.returns-in-All-clause-fetched
returns-in-All-clause-fetched g c = λ query asked unlimited.
    subst (λ found. OnOk c.add_documents.result
    (CountsOneEach found (store_contents c.args.store.now) c.args.steps.now c.add_documents.new.steps)) (sym c.in-All.is)
    (counts_each c.add_documents.result (store_contents c.args.store.now) _ _
    (λ container hold. c.add_documents.ensures.fetched container hold query asked unlimited))

pub returns-else-is_empty-clause-added : goal.returns-else-is_empty-clause-added
returns-else-is_empty-clause-added g c = λ honest container hold query all answers.
    on_ok_by c.add_numbered.result (Answers c.add_numbered.new.answer query (fetched c.as_slice-in-Numbers.result.now container))
    (Answers c.add_numbered.new.answer query (numbered container))
    (λ taken. all_by_law c.candidates_have_the_answer.ensures.taken c.add_numbered.new.answer query container c.in-Numbers.numbers.items
    (subst (λ found. HasAllOf query found container) c.in-Numbers.is all)
    (subst (λ (list : List ℕ). Answers c.add_numbered.new.answer query (fetched list container)) c.as_slice-in-Numbers.ensures.value taken))
    (c.add_numbered.ensures.added honest container hold query answers)

pub returns-then-is_empty-clause-met : goal.returns-then-is_empty-clause-met
returns-then-is_empty-clause-met g c = λ honest query answers rising.
    subst (λ found. Walks (IsAmong found) (IsTakenWhole query) query (store_contents c.args.store.now)) (sym c.in-Numbers.is)
    (none_walked c.in-Numbers.numbers.items (IsTakenWhole query) query (store_contents c.args.store.now)
    (sym c.as_slice.ensures.value ∙ nil_of c.as_slice.result.now c.if-is_empty.ensures))

pub returns-else-is_empty-clause-met : goal.returns-else-is_empty-clause-met
returns-else-is_empty-clause-met g c = λ honest query answers rising.
    let contents = store_contents c.args.store.now in
    let rise = subst AreRising c.in-Numbers.is rising in
    subst (λ found. OnOk c.add_numbered.result (Walks (IsAmong found) (IsTakenWhole query) query contents)) (sym c.in-Numbers.is)
    (subst (λ (list : List ℕ). OnOk c.add_numbered.result
    (Walks (λ number. has_number number list ≡ true) (IsTakenWhole query) query contents)) c.as_slice-in-Numbers.ensures.value
    (c.add_numbered.ensures.met honest query answers
    (subst (λ (list : List ℕ). IsStrictlyIncreasing list) (sym c.as_slice-in-Numbers.ensures.value) rise)))

pub returns-then-is_empty-clause-stops : goal.returns-then-is_empty-clause-stops
returns-then-is_empty-clause-stops g c = λ honest container hold query answers.
    none_fetched c.args.candidates.now query container c.args.steps.now

pub returns-in-All-clause-stops : goal.returns-in-All-clause-stops
returns-in-All-clause-stops g c = λ honest container hold query answers.
    subst (λ found. StopsAtEnough found query container c.args.steps.now c.add_documents.new.steps) (sym c.in-All.is)
    (c.add_documents.ensures.stops honest container hold query answers)

pub returns-else-is_empty-clause-stops : goal.returns-else-is_empty-clause-stops
returns-else-is_empty-clause-stops g c = λ honest container hold query answers.
    subst (λ found. StopsAtEnough found query container c.args.steps.now c.add_numbered.new.steps) (sym c.in-Numbers.is)
    (subst (λ (list : List ℕ). StopsInNumbers list query container c.args.steps.now c.add_numbered.new.steps)
    c.as_slice-in-Numbers.ensures.value (c.add_numbered.ensures.stops honest container hold query answers))

-- Each turn takes in the document of the next number, for one step or two.
use Rattle.std.proofs.Common.{◌≡◌, ◌+◌, ◌∙◌, ℕ, None, [], true, inl, sym, subst, arith, refl, drop, take, get_or}
use Rattle.std.proofs.lemmas.Bool.{false≢true}
use Rattle.std.specs.FinMap as finite
use Rattle.std.specs.Prelude.{IsTrue}
use Rattle.ax_answer_text.specs.Parts.{IsTakenWhole}
use Rattle.ax_answer_text.specs.TextAnswers.{Answers}
use Rattle.ax_delta.specs.Said.{has_number}
use Rattle.ax_skips.specs.Chosen.{fetched}
use Rattle.ax_store.specs.Kept.{Kept}
use Rattle.ax_store.specs.Store.{store_contents}
use Rattle.ax_engine.specs.StoreSays.{kept_says}
use Rattle.ax_engine.specs.Walks.{AreTexts}
use Rattle.ax_engine.proofs.ByNumbers.{AreDocumentsOf, all_taken, in_two, longer, none_yet, one_more, one_taken}
use Rattle.ax_engine.proofs.InOrder.{text_same}
use Rattle.ax_engine.proofs.Scanning.{fails_on, nothing_scanned, ready_now, scanned_on}
use Rattle.ax_engine.proofs.Stopping.{one_number_on, stops_in_numbers}
use Rattle.ax_engine.proofs.Walking.{ends_early, first_numbers, texts_taken}
use Rattle.ax_engine.proofs.querying.add_numbered.Goals as goal

pub loop-number-init : goal.loop-number-init
loop-number-init g c = record {
  added = λ honest container hold query answers. answers;
  asked = λ query asked. asked;
  met = λ honest query asked. none_yet c.args.numbers.now (IsTakenWhole query) (store_contents c.args.store.now);
  texts = λ honest query answers entries none. subst (Answers c.args.answer.now query) (sym none) answers;
  fetched = omega arith;
  bound = omega arith;
  within = λ honest container hold query answers front back is enough. omega arith;
  none_wanted = λ query answers none. (refl, answers);
  scans = nothing_scanned g.C.PageCache.pages _ c.args.store.now _ _ _ c.requires.ready;
  attached = refl;
  honest = refl;
}

pub loop-number-preserved : goal.loop-number-preserved
loop-number-preserved g c =
    let inv = c.loop-number.invariant in
    let contents = store_contents c.args.store.now in
    let numbers = c.args.numbers.now in
    let i = c.loop-number.number-index in
    let here : ℕ = get_or numbers i 0 in
    let low = c.loop-number-test.true in
    let more = c.in-Ok.ensures in
    record {
      added = λ honest container hold query answers.
          subst (λ list. Answers c.add_document.new.answer query (fetched list container)) (sym (longer numbers i low))
          (one_taken contents container hold query c.loop-number.answer c.add_document.new.answer (take i numbers) here
          (record {
            held = λ tree is storable entries before. more.added (subst IsTrue (sym inv.honest) honest) tree
                (text_same c.args.store.now c.loop-number.store here _ inv.scans.same is) storable query entries before;
            unheld = λ none entries before. more.unheld
                (subst (λ (kept : Kept). finite.get (kept_says kept).documents here ≡ None) (sym inv.scans.same.pages) none) query entries before;
          })
          (inv.added honest container hold query answers));
      asked = λ query asked. more.asked query (inv.asked query asked);
      met = λ honest query asked.
          one_more numbers i low contents (IsTakenWhole query) (inv.met honest query asked)
          (λ text is taken. more.outside (subst IsTrue (sym inv.honest) honest) text
          (text_same c.args.store.now c.loop-number.store here text inv.scans.same is) query (inv.asked query asked) taken);
      texts = λ honest query answers entries texts.
          texts_taken contents query c.loop-number.answer c.add_document.new.answer (take i numbers) here
          (record {
            held = λ tree is storable entries before. more.added (subst IsTrue (sym inv.honest) honest) tree
                (text_same c.args.store.now c.loop-number.store here _ inv.scans.same is) storable query entries before;
            unheld = λ none entries before. more.unheld
                (subst (λ (kept : Kept). finite.get (kept_says kept).documents here ≡ None) (sym inv.scans.same.pages) none) query entries before;
          })
          (inv.texts honest query answers) entries
          (subst (λ list. AreTexts contents list entries) (longer numbers i low) texts);
      fetched = omega (arith, inv.fetched, more.fetched);
      bound = omega (arith, inv.bound, more.two);
      within = λ honest container hold query answers.
          one_number_on numbers query container i c.loop-number.answer c.is_done.result low
          (inv.added honest container hold query answers) (c.is_done.ensures.enough query) c.if-is_done.false
          (inv.within honest container hold query answers);
      none_wanted = λ query answers none.
          absurd (false≢true (sym c.if-is_done.false
          ∙ c.is_done.ensures.none_wanted query [] (inv.none_wanted query answers none).1 none));
      scans = scanned_on g.C.PageCache.pages _ _ _ _ _ _ _ _ _ _ _ _ _ inv.honest inv.scans more.scans;
      attached = more.attached ∙ inv.attached;
      honest = more.honest ∙ inv.honest;
    }

pub add_document-requires : goal.add_document-requires
add_document-requires g c = record {
  ready = ready_now g.C.PageCache.pages _ _ c.loop-number.store _ _ c.loop-number.invariant.honest c.loop-number.invariant.scans.ready;
}

pub returns-then-is_done-clause-added : goal.returns-then-is_done-clause-added
returns-then-is_done-clause-added g c = λ honest container hold query answers.
    subst (Answers c.loop-number.answer query) (in_two container c.args.numbers.now c.loop-number.number-index)
    (c.is_done.ensures.sound c.if-is_done.true query (fetched (take c.loop-number.number-index c.args.numbers.now) container)
    (fetched (drop c.loop-number.number-index c.args.numbers.now) container)
    (c.loop-number.invariant.added honest container hold query answers))

pub returns-then-is_done-clause-met : goal.returns-then-is_done-clause-met
returns-then-is_done-clause-met g c = λ honest query answers rising.
    let inv = c.loop-number.invariant in
    let contents = store_contents c.args.store.now in
    let numbers = c.args.numbers.now in
    let i = c.loop-number.number-index in
    ends_early (λ number. has_number number numbers ≡ true) (IsTakenWhole query) query contents c.loop-number.answer (take i numbers)
    (first_numbers contents numbers i rising (omega (arith, c.loop-number-test.true)))
    (inv.met honest query answers.asked)
    (λ unlimited. false≢true (sym (c.is_done.ensures.unlimited query (inv.asked query answers.asked) unlimited) ∙ c.if-is_done.true))
    (inv.texts honest query answers) (c.is_done.ensures.only c.if-is_done.true query)

pub returns-then-is_done-clause-fetched : goal.returns-then-is_done-clause-fetched
returns-then-is_done-clause-fetched g c = λ query asked unlimited.
    absurd (false≢true (sym (c.is_done.ensures.unlimited query (c.loop-number.invariant.asked query asked) unlimited)
    ∙ c.if-is_done.true))

pub returns-then-is_done-clause-stops : goal.returns-then-is_done-clause-stops
returns-then-is_done-clause-stops g c = λ honest container hold query answers.
    stops_in_numbers c.args.numbers.now query container c.loop-number.number-index _ _
    (c.loop-number.invariant.within honest container hold query answers) c.loop-number.invariant.bound

pub returns-in-Err-clause-stops : goal.returns-in-Err-clause-stops
returns-in-Err-clause-stops g c = λ honest container hold query answers.
    let inv = c.loop-number.invariant in
    let i = c.loop-number.number-index in
    stops_in_numbers c.args.numbers.now query container (i + 1) _ _
    (one_number_on c.args.numbers.now query container i c.loop-number.answer c.is_done.result c.loop-number-test.true
    (inv.added honest container hold query answers) (c.is_done.ensures.enough query) c.if-is_done.false
    (inv.within honest container hold query answers))
    (omega (arith, inv.bound, c.in-Err.ensures.two))

pub returns-in-Err-clause-none_wanted : goal.returns-in-Err-clause-none_wanted
returns-in-Err-clause-none_wanted g c = λ query answers none.
    absurd (false≢true (sym c.if-is_done.false
    ∙ c.is_done.ensures.none_wanted query [] (c.loop-number.invariant.none_wanted query answers none).1 none))

pub returns-in-Err-clause-scans : goal.returns-in-Err-clause-scans
returns-in-Err-clause-scans g c =
    fails_on g.C.PageCache.pages _ _ _ _ _ _ _ _ _ _ _ _ _ c.loop-number.invariant.honest c.loop-number.invariant.scans c.in-Err.fault c.in-Err.ensures.scans

pub returns-clause-added : goal.returns-clause-added
returns-clause-added g c = λ honest container hold query answers.
    subst (λ list. Answers c.loop-number.answer query (fetched list container))
    (all_taken c.args.numbers.now c.loop-number.number-index (omega (arith, c.loop-number-test.false)))
    (c.loop-number.invariant.added honest container hold query answers)

pub returns-clause-stops : goal.returns-clause-stops
returns-clause-stops g c = λ honest container hold query answers.
    stops_in_numbers c.args.numbers.now query container c.loop-number.number-index _ _
    (c.loop-number.invariant.within honest container hold query answers) c.loop-number.invariant.bound

pub returns-clause-met : goal.returns-clause-met
returns-clause-met g c = λ honest query answers rising.
    inl (subst (λ list. AreDocumentsOf list (IsTakenWhole query) (store_contents c.args.store.now))
    (all_taken c.args.numbers.now c.loop-number.number-index (omega (arith, c.loop-number-test.false)))
    (c.loop-number.invariant.met honest query answers.asked))

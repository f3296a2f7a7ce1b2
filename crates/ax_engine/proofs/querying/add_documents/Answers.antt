-- Each turn takes in the next document, for one step or two.
use Rattle.std.proofs.Common.{◌≡◌, ◌++◌, ◌∙◌, [], None, inl, ap, sym, subst, arith, length, refl}
use Rattle.std.proofs.lemmas.Bool.{false≢true}
use Rattle.std.proofs.lemmas.List.{append-nil}
use Rattle.std.specs.FinMap as finite
use Rattle.std.specs.Prelude.{IsTrue}
use Rattle.ax_answer_text.specs.TextAnswers.{Answers}
use Rattle.ax_store.specs.Kept.{Kept}
use Rattle.ax_store.specs.Store.{store_contents}
use Rattle.ax_answer_text.specs.Parts.{IsTakenWhole}
use Rattle.ax_engine.proofs.Damaging.{all_documents, no_documents, one_document_more}
use Rattle.ax_engine.proofs.InOrder.{above, pairs, next_entry, next_same, stored_here, text_here, taken_on}
use Rattle.ax_engine.proofs.InOrder.{one_less, at_the_end, at_the_start, none_same, text_same}
use Rattle.ax_engine.proofs.Scanning.{fails_on, nothing_scanned, ready_now, scanned_on}
use Rattle.ax_engine.proofs.Stopping.{nothing_within, one_document_on, stops_in_all}
use Rattle.ax_engine.proofs.Walking.{ends_early, first_held, held_met, none_walked_yet, one_walked_more}
use Rattle.ax_engine.specs.StoreSays.{kept_says}
use Rattle.ax_engine.proofs.querying.add_documents.Goals as goal

pub texts-init : goal.texts-init
texts-init g c = record {
  added = λ honest container hold query answers.
      ([], ap pairs (at_the_start (store_contents c.args.store.now) container hold), answers);
  asked = λ query asked. asked;
  met = λ honest query asked. no_documents (store_contents c.args.store.now) (IsTakenWhole query);
  walked = λ honest query answers. none_walked_yet (store_contents c.args.store.now) query c.args.answer.now answers;
  fetched = λ container hold.
      omega (arith, ap length (at_the_start (store_contents c.args.store.now) container hold));
  bound = λ container hold.
      omega (arith, ap length (at_the_start (store_contents c.args.store.now) container hold));
  within = λ honest container hold query answers.
      nothing_within query container (at_the_start (store_contents c.args.store.now) container hold);
  none_wanted = λ query answers none. (refl, answers);
  never_falls = omega arith;
  scans = nothing_scanned g.C.PageCache.pages _ c.args.store.now _ _ _ c.requires.ready;
  attached = refl;
  honest = refl;
}

pub texts-preserved : goal.texts-preserved
texts-preserved g c =
    let inv = c.texts.invariant in
    let contents = store_contents c.args.store.now in
    let found = next_same c.args.store.now c.texts.store c.texts.number c.in-Some.next inv.scans.same c.in-Some.ensures.found in
    record {
      added = λ honest container hold query answers.
          let next = next_entry contents container hold c.texts.number c.in-Some.next found in
          let stored = stored_here contents container hold c.texts.number c.in-Some.next next in
          let before = inv.added honest container hold query answers in (
            _,
            taken_on contents container hold c.texts.number c.in-Some.next before.0 next before.1,
            c.in-Ok.ensures.added (subst IsTrue (sym inv.honest) honest) next.entry.tree
                (text_same c.args.store.now c.texts.store c.in-Some.next _ inv.scans.same
                (text_here contents container hold c.texts.number c.in-Some.next next))
                stored.storable query before.0 before.2,
          );
      asked = λ query asked. c.in-Ok.ensures.asked query (inv.asked query asked);
      met = λ honest query asked.
          one_document_more contents (IsTakenWhole query) c.texts.number (inv.met honest query asked) c.in-Some.next found
          (λ text is taken. c.in-Ok.ensures.outside (subst IsTrue (sym inv.honest) honest) text
          (text_same c.args.store.now c.texts.store c.in-Some.next text inv.scans.same is)
          query (inv.asked query asked) taken);
      walked = λ honest query answers.
          one_walked_more contents query c.texts.answer c.add_document.new.answer c.texts.number c.in-Some.next found
          (record {
            held = λ tree is storable entries before. c.in-Ok.ensures.added (subst IsTrue (sym inv.honest) honest) tree
                (text_same c.args.store.now c.texts.store c.in-Some.next _ inv.scans.same is) storable query entries before;
            unheld = λ none entries before. c.in-Ok.ensures.unheld
                (subst (λ (kept : Kept). finite.get (kept_says kept).documents c.in-Some.next ≡ None) (sym inv.scans.same.pages) none)
                query entries before;
          })
          (inv.walked honest query answers);
      fetched = λ container hold.
          let next = next_entry contents container hold c.texts.number c.in-Some.next found in
          omega (
            arith,
            inv.fetched container hold,
            c.in-Ok.ensures.fetched,
            one_less contents container hold c.texts.number c.in-Some.next next,
          );
      bound = λ container hold.
          let next = next_entry contents container hold c.texts.number c.in-Some.next found in
          omega (
            arith,
            inv.bound container hold,
            c.in-Ok.ensures.two,
            one_less contents container hold c.texts.number c.in-Some.next next,
          );
      within = λ honest container hold query answers.
          let next = next_entry contents container hold c.texts.number c.in-Some.next found in
          let before = inv.added honest container hold query answers in
          one_document_on query container c.texts.number c.in-Some.next c.texts.answer c.is_done.result
          (one_less contents container hold c.texts.number c.in-Some.next next) before.0 before.1 before.2
          (c.is_done.ensures.enough query) c.if-is_done.false (inv.within honest container hold query answers);
      none_wanted = λ query answers none.
          absurd (false≢true (sym c.if-is_done.false
          ∙ c.is_done.ensures.none_wanted query [] (inv.none_wanted query answers none).1 none));
      never_falls = omega (arith, inv.never_falls, c.in-Ok.ensures.fetched);
      scans = scanned_on g.C.PageCache.pages _ _ _ _ _ _ _ _ _ _ _ _ _ inv.honest inv.scans c.in-Ok.ensures.scans;
      attached = c.in-Ok.ensures.attached ∙ inv.attached;
      honest = c.in-Ok.ensures.honest ∙ inv.honest;
    }

pub add_document-requires : goal.add_document-requires
add_document-requires g c = record {
  ready = ready_now g.C.PageCache.pages _ _ c.texts.store _ _ c.texts.invariant.honest c.texts.invariant.scans.ready;
}

pub returns-then-is_done-clause-added : goal.returns-then-is_done-clause-added
returns-then-is_done-clause-added g c = λ honest container hold query answers.
    let all = c.texts.invariant.added honest container hold query answers in
    subst (Answers c.texts.answer query) all.1
    (c.is_done.ensures.sound c.if-is_done.true query all.0
    (pairs (above c.texts.number container.entries)) all.2)

pub returns-then-is_done-clause-met : goal.returns-then-is_done-clause-met
returns-then-is_done-clause-met g c = λ honest query answers.
    let inv = c.texts.invariant in
    let contents = store_contents c.args.store.now in
    let walked = inv.walked honest query answers in
    ends_early (λ number. Unit {0}) (IsTakenWhole query) query contents c.texts.answer walked.numbers
    (first_held contents c.texts.number walked.numbers walked.held)
    (held_met contents c.texts.number walked.numbers walked.held (IsTakenWhole query) (inv.met honest query answers.asked))
    (λ unlimited. false≢true (sym (c.is_done.ensures.unlimited query (inv.asked query answers.asked) unlimited) ∙ c.if-is_done.true))
    walked.taken (c.is_done.ensures.only c.if-is_done.true query)

pub returns-then-is_done-clause-fetched : goal.returns-then-is_done-clause-fetched
returns-then-is_done-clause-fetched g c = λ container hold query asked unlimited.
    absurd (false≢true (sym (c.is_done.ensures.unlimited query (c.texts.invariant.asked query asked) unlimited)
    ∙ c.if-is_done.true))

pub returns-then-is_done-clause-stops : goal.returns-then-is_done-clause-stops
returns-then-is_done-clause-stops g c = λ honest container hold query answers.
    stops_in_all query container c.texts.number _ _ (c.texts.invariant.within honest container hold query answers)
    (c.texts.invariant.bound container hold)

pub returns-in-Err-clause-stops : goal.returns-in-Err-clause-stops
returns-in-Err-clause-stops g c = λ honest container hold query answers.
    let inv = c.texts.invariant in
    let contents = store_contents c.args.store.now in
    let found = next_same c.args.store.now c.texts.store c.texts.number c.in-Some.next inv.scans.same c.in-Some.ensures.found in
    let next = next_entry contents container hold c.texts.number c.in-Some.next found in
    let one = one_less contents container hold c.texts.number c.in-Some.next next in
    let before = inv.added honest container hold query answers in
    stops_in_all query container c.in-Some.next _ _
    (one_document_on query container c.texts.number c.in-Some.next c.texts.answer c.is_done.result one before.0 before.1 before.2
    (c.is_done.ensures.enough query) c.if-is_done.false (inv.within honest container hold query answers))
    (omega (arith, inv.bound container hold, c.in-Err.ensures.two, one))

pub returns-in-Err-clause-none_wanted : goal.returns-in-Err-clause-none_wanted
returns-in-Err-clause-none_wanted g c = λ query answers none.
    absurd (false≢true (sym c.if-is_done.false
    ∙ c.is_done.ensures.none_wanted query [] (c.texts.invariant.none_wanted query answers none).1 none))

pub returns-in-Err-clause-bound : goal.returns-in-Err-clause-bound
returns-in-Err-clause-bound g c = λ container hold.
    let inv = c.texts.invariant in
    let found = next_same c.args.store.now c.texts.store c.texts.number c.in-Some.next inv.scans.same c.in-Some.ensures.found in
    let contents = store_contents c.args.store.now in
    let next = next_entry contents container hold c.texts.number c.in-Some.next found in
    omega (
      arith,
      inv.bound container hold,
      c.in-Err.ensures.two,
      one_less contents container hold c.texts.number c.in-Some.next next,
    )

pub returns-in-Err-clause-scans : goal.returns-in-Err-clause-scans
returns-in-Err-clause-scans g c =
    fails_on g.C.PageCache.pages _ _ _ _ _ _ _ _ _ _ _ _ _ c.texts.invariant.honest c.texts.invariant.scans c.in-Err.fault c.in-Err.ensures.scans

pub returns-clause-stops : goal.returns-clause-stops
returns-clause-stops g c = λ honest container hold query answers.
    stops_in_all query container c.texts.number _ _ (c.texts.invariant.within honest container hold query answers)
    (c.texts.invariant.bound container hold)

pub returns-clause-fetched : goal.returns-clause-fetched
returns-clause-fetched g c = λ container hold query asked unlimited.
    let inv = c.texts.invariant in
    let end = at_the_end (store_contents c.args.store.now) container hold c.texts.number
    (none_same c.args.store.now c.texts.store c.texts.number inv.scans.same c.in_default.ensures.none) in
    omega (arith, inv.fetched container hold, ap length end)

pub returns-clause-added : goal.returns-clause-added
returns-clause-added g c = λ honest container hold query answers.
    let inv = c.texts.invariant in
    let end = at_the_end (store_contents c.args.store.now) container hold c.texts.number
    (none_same c.args.store.now c.texts.store c.texts.number inv.scans.same c.in_default.ensures.none) in
    let all = inv.added honest container hold query answers in
    subst (λ entries. Answers c.texts.answer query entries)
    (sym (append-nil all.0) ∙ ap (λ es. all.0 ++ pairs es) (sym end) ∙ all.1) all.2

pub returns-clause-met : goal.returns-clause-met
returns-clause-met g c = λ honest query answers.
    let inv = c.texts.invariant in
    inl (all_documents (store_contents c.args.store.now) (IsTakenWhole query) c.texts.number (inv.met honest query answers.asked)
    (none_same c.args.store.now c.texts.store c.texts.number inv.scans.same c.in_default.ensures.none))

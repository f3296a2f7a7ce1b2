use Rattle.std.proofs.Common.{◌≡◌, ℕ, ◌+◌, List, [], ◌∷◌, ◌++◌, length, drop, arith, refl, ap, ◌∙◌, sym, true, false, subst, ◌≤◌}
use Rattle.std.proofs.lemmas.List.{drop_more, length-drop}
use Rattle.std.specs.List.Sorted.{IsStrictlyIncreasing}
use Rattle.std.specs.Str.{bytes_eq}
use Rattle.ax_gap.specs.Gaps.{gaps}
use Rattle.ax_leaf.specs.Payload.{term_after}
use Rattle.ax_delta.specs.declared.change.Change.{Change}
use Rattle.ax_delta.specs.Changes.{term_changes_from, term_changes_of, with_added, with_dropped}
use Rattle.ax_delta.specs.Payload.{AreGood, list_after}
use Rattle.ax_delta.proofs.Grouping.{AreFit, IsFit, fit}
use Rattle.ax_delta.proofs.Listed.{change_with}
use Rattle.ax_delta.proofs.Steps.{IsUnderWay, start, from_parts, fit_first, same_step, other_step, last_step, with_change, change_from, at_end}
use Rattle.ax_delta.proofs.Steps.{nothing, nothing_written}
use Rattle.ax_delta.proofs.writing.put_list.Goals as goal
use Rattle.ax_delta.proofs.writing.put_list.Goals.{After-as_slice-in-loop-i-2, After-as_slice-3}

nil_from : (changes : List Change) → length changes ≡ 0 → changes ≡ []
nil_from [] h = refl
nil_from (p ∷ changes) h = absurd (omega arith)

past_end : (changes : List Change) (i : ℕ) → length changes ≤ i → drop i changes ≡ []
past_end changes i h = nil_from (drop i changes) (omega (arith, length-drop i changes))

pub returns-then-changes-eq0-clause-count : goal.returns-then-changes-eq0-clause-count
returns-then-changes-eq0-clause-count c = ap length (sym (nothing c.args.changes.now (nil_from c.args.changes.now (omega arith))))

pub returns-then-changes-eq0-clause-good : goal.returns-then-changes-eq0-clause-good
returns-then-changes-eq0-clause-good c = subst AreGood (sym (nothing c.args.changes.now (nil_from c.args.changes.now (omega arith)))) tt

pub returns-then-changes-eq0-clause-written : goal.returns-then-changes-eq0-clause-written
returns-then-changes-eq0-clause-written c = nothing_written c.args.out.now.items c.args.changes.now (nil_from c.args.changes.now (omega arith))

pub loop-i-init : goal.loop-i-init
loop-i-init c =
    let p : Change = c.index-changes-0.result in
    let rest : List Change = drop 1 c.args.changes.now in
    let split : c.args.changes.now ≡ p ∷ rest =
    drop_more c.args.changes.now 0 p (omega arith) ∙ ap (λ (q : Change). q ∷ rest) (sym c.index-changes-0.is)
    in
    let adds : c.put_number.new.added.items ≡ with_added [] p = c.in_ok-put_number.ensures.added ∙ ap (λ ns. with_added ns p) c.new-added.ensures.items in
    let drops : c.put_number.new.dropped.items ≡ with_dropped [] p = c.in_ok-put_number.ensures.dropped
    ∙ ap (λ ns. with_dropped ns p) c.new-dropped.ensures.items in
    let e : term_changes_of c.args.changes.now ≡ term_changes_from c.as_slice-term.result.now c.put_number.new.added.items c.put_number.new.dropped.items rest =
    start p c.args.changes.now rest split ∙ from_parts _ _ _ _ _ _ rest (sym c.as_slice-term.ensures) (sym adds) (sym drops)
    in (
      record {
        written = ap (λ es. c.args.out.now.items ++ list_after [] es) (sym e);
        counted = omega (arith, ap length e);
        fit = subst AreFit e (fit c.args.changes.now c.requires);
        good = λ g. subst AreGood (sym e) g;
      },
      omega arith,
    )

pub loop-i-preserved-then-eq : goal.loop-i-preserved-then-eq
loop-i-preserved-then-eq c =
    let p : Change = c.index-changes-i.result in
    let rest : List Change = drop (c.loop-i.i + 1) c.args.changes.now in
    let next : drop c.loop-i.i c.args.changes.now ≡ p ∷ rest =
    drop_more c.args.changes.now c.loop-i.i p (omega arith) ∙ ap (λ (q : Change). q ∷ rest) (sym c.index-changes-i.is)
    in
    let test : bytes_eq p.pair.term c.loop-i.term.now ≡ true =
    ap (λ bs. bytes_eq bs c.loop-i.term.now) (sym c.as_slice.ensures) ∙ sym c.eq.ensures ∙ c.if-eq.true
    in
    let e : term_changes_from c.loop-i.term.now c.loop-i.added.items c.loop-i.dropped.items (drop c.loop-i.i c.args.changes.now)
    ≡ term_changes_from c.loop-i.term.now c.put_number-then-eq.new.added.items c.put_number-then-eq.new.dropped.items rest =
    same_step c.loop-i.term.now c.loop-i.added.items c.loop-i.dropped.items p _ rest next test
    ∙ from_parts _ _ _ _ _ _ rest refl (sym c.in_ok-put_number-2.ensures.added) (sym c.in_ok-put_number-2.ensures.dropped)
    in (
      subst (λ es. IsUnderWay c.args.out.now.items c.loop-i.out.items c.loop-i.last.now es (term_changes_of c.args.changes.now) c.loop-i.count) e
          c.loop-i.invariant.0,
      omega (arith, c.loop-i.invariant.1),
    )

fit_here : (c : After-as_slice-in-loop-i-2) → IsFit (change_with c.loop-i.term.now c.loop-i.added.items c.loop-i.dropped.items)
fit_here c =
    let p : Change = c.index-changes-i.result in
    let rest : List Change = drop (c.loop-i.i + 1) c.args.changes.now in
    let next : drop c.loop-i.i c.args.changes.now ≡ p ∷ rest =
    drop_more c.args.changes.now c.loop-i.i p (omega arith) ∙ ap (λ (q : Change). q ∷ rest) (sym c.index-changes-i.is)
    in
    let test : bytes_eq p.pair.term c.loop-i.term.now ≡ false =
    ap (λ bs. bytes_eq bs c.loop-i.term.now) (sym c.as_slice.ensures) ∙ sym c.eq.ensures ∙ c.if-eq.false
    in
    fit_first c.loop-i.term.now c.loop-i.added.items c.loop-i.dropped.items _ _
    (other_step c.loop-i.term.now c.loop-i.added.items c.loop-i.dropped.items p _ rest next test) c.loop-i.invariant.0.fit

pub put_change-requires-clause-additions : goal.put_change-requires-clause-additions
put_change-requires-clause-additions c = subst IsStrictlyIncreasing (sym c.as_slice-in-loop-i.ensures.value) (fit_here c).ups

pub put_change-requires-clause-removals : goal.put_change-requires-clause-removals
put_change-requires-clause-removals c = subst IsStrictlyIncreasing (sym c.as_slice-in-loop-i-2.ensures.value) (fit_here c).downs

same_written : (out last term adds more drops less new : List ℕ) → new ≡ out ++ term_after last term ++ gaps adds ++ gaps drops → adds ≡ more → drops ≡ less
    → new ≡ out ++ term_after last term ++ gaps more ++ gaps less
same_written out last term adds more drops less new e f g = e ∙ rw (f, g) refl

pub loop-i-preserved : goal.loop-i-preserved
loop-i-preserved c =
    let p : Change = c.index-changes-i.result in
    let rest : List Change = drop (c.loop-i.i + 1) c.args.changes.now in
    let next : drop c.loop-i.i c.args.changes.now ≡ p ∷ rest =
    drop_more c.args.changes.now c.loop-i.i p (omega arith) ∙ ap (λ (q : Change). q ∷ rest) (sym c.index-changes-i.is)
    in
    let test : bytes_eq p.pair.term c.loop-i.term.now ≡ false =
    ap (λ bs. bytes_eq bs c.loop-i.term.now) (sym c.as_slice.ensures) ∙ sym c.eq.ensures ∙ c.if-eq.false
    in
    let adds : c.put_number-in-loop-i.new.added.items ≡ with_added [] p = c.in_ok-put_number-3.ensures.added
    ∙ ap (λ ns. with_added ns p) c.clear.ensures.items in
    let drops : c.put_number-in-loop-i.new.dropped.items ≡ with_dropped [] p = c.in_ok-put_number-3.ensures.dropped
    ∙ ap (λ ns. with_dropped ns p) c.clear-in-loop-i.ensures.items in
    let e : term_changes_from c.loop-i.term.now c.loop-i.added.items c.loop-i.dropped.items (drop c.loop-i.i c.args.changes.now)
    ≡ change_with c.loop-i.term.now c.loop-i.added.items c.loop-i.dropped.items
    ∷ term_changes_from c.as_slice-term-in-loop-i.result.now c.put_number-in-loop-i.new.added.items c.put_number-in-loop-i.new.dropped.items rest =
    other_step c.loop-i.term.now c.loop-i.added.items c.loop-i.dropped.items p _ rest next test
    ∙ ap (λ es. change_with c.loop-i.term.now c.loop-i.added.items c.loop-i.dropped.items ∷ es)
    (from_parts _ _ _ _ _ _ rest (sym c.as_slice-term-in-loop-i.ensures) (sym adds) (sym drops))
    in
    let was : IsUnderWay c.args.out.now.items c.loop-i.out.items c.loop-i.last.now
    (change_with c.loop-i.term.now c.loop-i.added.items c.loop-i.dropped.items
    ∷ term_changes_from c.as_slice-term-in-loop-i.result.now c.put_number-in-loop-i.new.added.items c.put_number-in-loop-i.new.dropped.items rest)
    (term_changes_of c.args.changes.now) c.loop-i.count =
    subst (λ es. IsUnderWay c.args.out.now.items c.loop-i.out.items c.loop-i.last.now es (term_changes_of c.args.changes.now) c.loop-i.count) e
    c.loop-i.invariant.0
    in (
      with_change c.args.out.now.items c.loop-i.out.items _ c.loop-i.last.now c.loop-i.term.now c.loop-i.added.items c.loop-i.dropped.items _ _ _
          (same_written _ _ _ _ _ _ _ _ c.in_ok-put_change.ensures.written c.as_slice-in-loop-i.ensures.value c.as_slice-in-loop-i-2.ensures.value)
          (change_from c.loop-i.term.now c.loop-i.added.items c.loop-i.dropped.items _ _ c.as_slice-in-loop-i.ensures.value c.as_slice-in-loop-i-2.ensures.value
          c.in_ok-put_change.ensures.short c.in_ok-put_change.ensures.additions c.in_ok-put_change.ensures.removals was.fit.0)
          was,
      omega (arith, c.loop-i.invariant.1),
    )

last_here : (c : After-as_slice-3) → IsUnderWay c.args.out.now.items c.loop-i.out.items c.loop-i.last.now
    (change_with c.loop-i.term.now c.loop-i.added.items c.loop-i.dropped.items ∷ []) (term_changes_of c.args.changes.now) c.loop-i.count
last_here c =
    let none : drop c.loop-i.i c.args.changes.now ≡ [] = past_end c.args.changes.now c.loop-i.i (omega arith) in
    subst (λ es. IsUnderWay c.args.out.now.items c.loop-i.out.items c.loop-i.last.now es (term_changes_of c.args.changes.now) c.loop-i.count)
    (last_step c.loop-i.term.now c.loop-i.added.items c.loop-i.dropped.items _ none) c.loop-i.invariant.0

pub put_change-requires-2-clause-additions : goal.put_change-requires-2-clause-additions
put_change-requires-2-clause-additions c = subst IsStrictlyIncreasing (sym c.as_slice-2.ensures.value) (last_here c).fit.0.ups

pub put_change-requires-2-clause-removals : goal.put_change-requires-2-clause-removals
put_change-requires-2-clause-removals c = subst IsStrictlyIncreasing (sym c.as_slice-3.ensures.value) (last_here c).fit.0.downs

at_exit : (c : goal.After-drop-added-2) → IsUnderWay c.args.out.now.items c.put_change-2.new.out.items c.loop-i.term.now []
    (term_changes_of c.args.changes.now) (c.loop-i.count + 1)
at_exit c =
    let none : drop c.loop-i.i c.args.changes.now ≡ [] = past_end c.args.changes.now c.loop-i.i (omega arith) in
    let was : IsUnderWay c.args.out.now.items c.loop-i.out.items c.loop-i.last.now
    (change_with c.loop-i.term.now c.loop-i.added.items c.loop-i.dropped.items ∷ []) (term_changes_of c.args.changes.now) c.loop-i.count =
    subst (λ es. IsUnderWay c.args.out.now.items c.loop-i.out.items c.loop-i.last.now es (term_changes_of c.args.changes.now) c.loop-i.count)
    (last_step c.loop-i.term.now c.loop-i.added.items c.loop-i.dropped.items _ none) c.loop-i.invariant.0
    in
    with_change c.args.out.now.items c.loop-i.out.items _ c.loop-i.last.now c.loop-i.term.now c.loop-i.added.items c.loop-i.dropped.items _ _ _
    (same_written _ _ _ _ _ _ _ _ c.in_ok-put_change-2.ensures.written c.as_slice-2.ensures.value c.as_slice-3.ensures.value)
    (change_from c.loop-i.term.now c.loop-i.added.items c.loop-i.dropped.items _ _ c.as_slice-2.ensures.value c.as_slice-3.ensures.value
    c.in_ok-put_change-2.ensures.short c.in_ok-put_change-2.ensures.additions c.in_ok-put_change-2.ensures.removals was.fit.0)
    was

pub returns-clause-count : goal.returns-clause-count
returns-clause-count c = omega (arith, (at_exit c).counted)

pub returns-clause-written : goal.returns-clause-written
returns-clause-written c = at_end _ _ _ _ _ (at_exit c)

pub returns-clause-good : goal.returns-clause-good
returns-clause-good c = (at_exit c).good tt

use Rattle.std.proofs.Common.{◌≡◌, ℕ, ◌+◌, ◌<◌, List, [], ◌∷◌, ◌++◌, length, drop, arith, refl, ap, ◌∙◌, sym, true, false, subst, ◌≤◌}
use Rattle.std.proofs.lemmas.List.{drop_more, length-drop}
use Rattle.std.specs.List.Sorted.{IsStrictlyIncreasing}
use Rattle.std.specs.Str.{bytes_eq}
use Rattle.ax_pair.specs.declared.pair.Pair.{Pair}
use Rattle.ax_leaf.specs.Pairs.{postings_from, postings_of}
use Rattle.ax_leaf.specs.Payload.{AreGood, list_after, term_after}
use Rattle.ax_gap.specs.Gaps.{gaps}
use Rattle.ax_leaf.proofs.Grouping.{AreFit, fit}
use Rattle.ax_leaf.proofs.Steps.{IsUnderWay, start, from_parts, fit_first, same_step, other_step, last_step, with_posting, posting_from, at_end}
use Rattle.ax_leaf.proofs.Steps.{nothing, nothing_written}
use Rattle.ax_leaf.proofs.writing.put_list.Goals as goal
use Rattle.ax_leaf.proofs.writing.put_list.Goals.{After-as_slice, After-as_slice-2}

nil_from : (pairs : List Pair) → length pairs ≡ 0 → pairs ≡ []
nil_from [] h = refl
nil_from (p ∷ pairs) h = absurd (omega arith)

past_end : (pairs : List Pair) (i : ℕ) → length pairs ≤ i → drop i pairs ≡ []
past_end pairs i h = nil_from (drop i pairs) (omega (arith, length-drop i pairs))

pub returns-then-pairs-eq0-clause-count : goal.returns-then-pairs-eq0-clause-count
returns-then-pairs-eq0-clause-count c = ap length (sym (nothing c.args.pairs.now (nil_from c.args.pairs.now (omega arith))))

pub returns-then-pairs-eq0-clause-good : goal.returns-then-pairs-eq0-clause-good
returns-then-pairs-eq0-clause-good c = subst AreGood (sym (nothing c.args.pairs.now (nil_from c.args.pairs.now (omega arith)))) tt

pub returns-then-pairs-eq0-clause-written : goal.returns-then-pairs-eq0-clause-written
returns-then-pairs-eq0-clause-written c = nothing_written c.args.out.now.items c.args.pairs.now (nil_from c.args.pairs.now (omega arith))

pub loop-i-init : goal.loop-i-init
loop-i-init c =
    let p : Pair = c.index-pairs-0.result in
    let split : c.args.pairs.now ≡ p ∷ drop 1 c.args.pairs.now =
    drop_more c.args.pairs.now 0 p (omega arith) ∙ ap (λ (q : Pair). q ∷ drop 1 c.args.pairs.now) (sym c.index-pairs-0.is)
    in
    let numbers : c.push.new.self.items ≡ p.number ∷ [] =
    c.in_ok-push.ensures.items ∙ ap (λ (ns : List ℕ). ns ++ c.number.result ∷ []) c.new-numbers.ensures.items
    ∙ ap (λ (n : ℕ). n ∷ []) c.number.ensures
    in
    let e : postings_of c.args.pairs.now ≡ postings_from c.term-term.result.now c.push.new.self.items (drop 1 c.args.pairs.now) =
    start p c.args.pairs.now (drop 1 c.args.pairs.now) split
    ∙ from_parts _ _ _ _ (drop 1 c.args.pairs.now) (sym c.term-term.ensures) (sym numbers)
    in (
      record {
        written = ap (λ es. c.args.out.now.items ++ list_after [] es) (sym e);
        counted = omega (arith, ap length e);
        fit = subst AreFit e (fit c.args.pairs.now c.requires);
        good = λ g. subst AreGood (sym e) g;
      },
      omega arith,
    )

pub loop-i-preserved-then-eq : goal.loop-i-preserved-then-eq
loop-i-preserved-then-eq c =
    let p : Pair = c.index-pairs-i.result in
    let rest : List Pair = drop (c.loop-i.i + 1) c.args.pairs.now in
    let next : drop c.loop-i.i c.args.pairs.now ≡ p ∷ rest =
    drop_more c.args.pairs.now c.loop-i.i p (omega arith) ∙ ap (λ (q : Pair). q ∷ rest) (sym c.index-pairs-i.is)
    in
    let test : bytes_eq p.term c.loop-i.term.now ≡ true =
    ap (λ bs. bytes_eq bs c.loop-i.term.now) (sym c.term.ensures) ∙ sym c.eq.ensures ∙ c.if-eq.true
    in
    let e : postings_from c.loop-i.term.now c.loop-i.numbers.items (drop c.loop-i.i c.args.pairs.now)
    ≡ postings_from c.loop-i.term.now c.push-then-eq.new.self.items rest =
    same_step c.loop-i.term.now c.loop-i.numbers.items p _ rest next test
    ∙ from_parts _ _ _ _ rest refl
    (sym (c.in_ok-push-2.ensures.items ∙ ap (λ (n : ℕ). c.loop-i.numbers.items ++ n ∷ []) c.number-then-eq.ensures))
    in (
      subst (λ es. IsUnderWay c.args.out.now.items c.loop-i.out.items c.loop-i.last.now es (postings_of c.args.pairs.now) c.loop-i.count) e
          c.loop-i.invariant.0,
      omega (arith, c.loop-i.invariant.1),
    )

fit_here : (c : After-as_slice) → IsStrictlyIncreasing c.loop-i.numbers.items × (0 < length c.loop-i.numbers.items)
fit_here c =
    let p : Pair = c.index-pairs-i.result in
    let rest : List Pair = drop (c.loop-i.i + 1) c.args.pairs.now in
    let next : drop c.loop-i.i c.args.pairs.now ≡ p ∷ rest =
    drop_more c.args.pairs.now c.loop-i.i p (omega arith) ∙ ap (λ (q : Pair). q ∷ rest) (sym c.index-pairs-i.is)
    in
    let test : bytes_eq p.term c.loop-i.term.now ≡ false =
    ap (λ bs. bytes_eq bs c.loop-i.term.now) (sym c.term.ensures) ∙ sym c.eq.ensures ∙ c.if-eq.false
    in
    fit_first c.loop-i.term.now c.loop-i.numbers.items _ _ (other_step c.loop-i.term.now c.loop-i.numbers.items p _ rest next test) c.loop-i.invariant.0.fit

pub put_posting-requires-clause-rising : goal.put_posting-requires-clause-rising
put_posting-requires-clause-rising c = subst IsStrictlyIncreasing (sym c.as_slice.ensures.value) (fit_here c).0

pub put_posting-requires-clause-some : goal.put_posting-requires-clause-some
put_posting-requires-clause-some c = let f = fit_here c in omega (arith, f.1, ap length c.as_slice.ensures.value)

pub loop-i-preserved : goal.loop-i-preserved
loop-i-preserved c =
    let p : Pair = c.index-pairs-i.result in
    let rest : List Pair = drop (c.loop-i.i + 1) c.args.pairs.now in
    let next : drop c.loop-i.i c.args.pairs.now ≡ p ∷ rest =
    drop_more c.args.pairs.now c.loop-i.i p (omega arith) ∙ ap (λ (q : Pair). q ∷ rest) (sym c.index-pairs-i.is)
    in
    let test : bytes_eq p.term c.loop-i.term.now ≡ false =
    ap (λ bs. bytes_eq bs c.loop-i.term.now) (sym c.term.ensures) ∙ sym c.eq.ensures ∙ c.if-eq.false
    in
    let numbers : c.push-in-loop-i.new.self.items ≡ p.number ∷ [] =
    c.in_ok-push-3.ensures.items ∙ ap (λ (ns : List ℕ). ns ++ c.number-in-loop-i.result ∷ []) c.clear.ensures.items
    ∙ ap (λ (n : ℕ). n ∷ []) c.number-in-loop-i.ensures
    in
    let e : postings_from c.loop-i.term.now c.loop-i.numbers.items (drop c.loop-i.i c.args.pairs.now)
    ≡ record { term = c.loop-i.term.now; numbers = c.loop-i.numbers.items }
    ∷ postings_from c.term-term-in-loop-i.result.now c.push-in-loop-i.new.self.items rest =
    other_step c.loop-i.term.now c.loop-i.numbers.items p _ rest next test
    ∙ ap (λ es. record { term = c.loop-i.term.now; numbers = c.loop-i.numbers.items } ∷ es)
    (from_parts _ _ _ _ rest (sym c.term-term-in-loop-i.ensures) (sym numbers))
    in (
      with_posting c.args.out.now.items c.loop-i.out.items _ c.loop-i.last.now c.loop-i.term.now c.loop-i.numbers.items _ _ _
          (c.in_ok-put_posting.ensures.written ∙ ap (λ ns. c.loop-i.out.items ++ term_after c.loop-i.last.now c.loop-i.term.now ++ gaps ns)
          c.as_slice.ensures.value)
          (posting_from c.loop-i.term.now c.loop-i.numbers.items _ c.as_slice.ensures.value c.in_ok-put_posting.ensures.short
          c.in_ok-put_posting.ensures.some c.in_ok-put_posting.ensures.list)
          (subst (λ es. IsUnderWay c.args.out.now.items c.loop-i.out.items c.loop-i.last.now es (postings_of c.args.pairs.now) c.loop-i.count) e
          c.loop-i.invariant.0),
      omega (arith, c.loop-i.invariant.1),
    )

fit_last : (c : After-as_slice-2) → IsStrictlyIncreasing c.loop-i.numbers.items × (0 < length c.loop-i.numbers.items)
fit_last c =
    let none : drop c.loop-i.i c.args.pairs.now ≡ [] = past_end c.args.pairs.now c.loop-i.i (omega arith) in
    fit_first c.loop-i.term.now c.loop-i.numbers.items _ _ (last_step c.loop-i.term.now c.loop-i.numbers.items _ none) c.loop-i.invariant.0.fit

pub put_posting-requires-2-clause-rising : goal.put_posting-requires-2-clause-rising
put_posting-requires-2-clause-rising c = subst IsStrictlyIncreasing (sym c.as_slice-2.ensures.value) (fit_last c).0

pub put_posting-requires-2-clause-some : goal.put_posting-requires-2-clause-some
put_posting-requires-2-clause-some c = let f = fit_last c in omega (arith, f.1, ap length c.as_slice-2.ensures.value)

at_exit : (c : goal.After-drop-numbers-2) → IsUnderWay c.args.out.now.items c.put_posting-2.new.out.items c.loop-i.term.now [] (postings_of c.args.pairs.now)
    (c.loop-i.count + 1)
at_exit c =
    let none : drop c.loop-i.i c.args.pairs.now ≡ [] = past_end c.args.pairs.now c.loop-i.i (omega arith) in
    with_posting c.args.out.now.items c.loop-i.out.items _ c.loop-i.last.now c.loop-i.term.now c.loop-i.numbers.items _ _ _
    (c.in_ok-put_posting-2.ensures.written ∙ ap (λ ns. c.loop-i.out.items ++ term_after c.loop-i.last.now c.loop-i.term.now ++ gaps ns)
    c.as_slice-2.ensures.value)
    (posting_from c.loop-i.term.now c.loop-i.numbers.items _ c.as_slice-2.ensures.value c.in_ok-put_posting-2.ensures.short c.in_ok-put_posting-2.ensures.some
    c.in_ok-put_posting-2.ensures.list)
    (subst (λ es. IsUnderWay c.args.out.now.items c.loop-i.out.items c.loop-i.last.now es (postings_of c.args.pairs.now) c.loop-i.count)
    (last_step c.loop-i.term.now c.loop-i.numbers.items _ none) c.loop-i.invariant.0)

pub returns-clause-count : goal.returns-clause-count
returns-clause-count c = omega (arith, (at_exit c).counted)

pub returns-clause-written : goal.returns-clause-written
returns-clause-written c = at_end _ _ _ _ _ (at_exit c)

pub returns-clause-good : goal.returns-clause-good
returns-clause-good c = (at_exit c).good tt

use Rattle.std.proofs.Common.{◌≡◌, ℕ, ◌-◌, List, [], drop, slice_get, arith, refl, ap, ◌∙◌, sym}
use Rattle.ax_gap.specs.Remaining.{RemainingGaps}
use Rattle.ax_gap.specs.Reading.{first_gaps}
use Rattle.ax_gap.proofs.CursorLaws.{numbers-none, first_gaps_past, none_is_some, ReadsOn, reads_on}
use Rattle.ax_gap.proofs.cursor.GapCursor.next.Goals as goal

none-here : (n : List ℕ) → n ≡ [] → n ≡ drop 1 n
none-here n e = rw e refl

pub returns-then-self-eq0-clause-number : goal.returns-then-self-eq0-clause-number
returns-then-self-eq0-clause-number c =
    let e : c.args.self.now.numbers ≡ [] =
    ap (λ (v : RemainingGaps). v.numbers) (sym c.self.view_is) ∙ numbers-none c.self.inside.least c.self.inside.count c.self.inside.bytes.now (omega arith)
    in rw e refl

pub returns-then-self-eq0-clause-remaining : goal.returns-then-self-eq0-clause-remaining
returns-then-self-eq0-clause-remaining c =
    none-here c.args.self.now.numbers
    (ap (λ (v : RemainingGaps). v.numbers) (sym c.self.view_is) ∙ numbers-none c.self.inside.least c.self.inside.count c.self.inside.bytes.now (omega arith))

pub returns-in_err-number-clause-number : goal.returns-in_err-number-clause-number
returns-in_err-number-clause-number c =
    absurd (none_is_some (first_gaps c.self.inside.least c.self.inside.count c.self.inside.bytes.now)
    (first_gaps_past c.self.inside.least c.self.inside.count (c.self.inside.count - 1) c.self.inside.bytes.now (omega arith) c.in_err-number.ensures)
    c.self.invariant.reads)

pub returns-in_err-number-clause-remaining : goal.returns-in_err-number-clause-remaining
returns-in_err-number-clause-remaining c =
    absurd (none_is_some (first_gaps c.self.inside.least c.self.inside.count c.self.inside.bytes.now)
    (first_gaps_past c.self.inside.least c.self.inside.count (c.self.inside.count - 1) c.self.inside.bytes.now (omega arith) c.in_err-number.ensures)
    c.self.invariant.reads)

pub overflow_cast-result : goal.overflow_cast-result
overflow_cast-result c =
    let on : ReadsOn c.self.inside.least c.self.inside.count c.in_ok-number.number c.self.inside.bytes.now c.in_ok-number.rest.now =
    reads_on _ _ _ c.self.inside.bytes.now c.in_ok-number.rest.now (omega arith) c.in_ok-number.ensures c.self.invariant.reads
    in omega (arith, on.small)

pub invariant_of-self : goal.invariant_of-self
invariant_of-self c =
    let on : ReadsOn c.self.inside.least c.self.inside.count c.in_ok-number.number c.self.inside.bytes.now c.in_ok-number.rest.now =
    reads_on _ _ _ c.self.inside.bytes.now c.in_ok-number.rest.now (omega arith) c.in_ok-number.ensures c.self.invariant.reads
    in record { reads = on.reads; fits = omega (arith, on.small) }

pub returns-clause-number : goal.returns-clause-number
returns-clause-number c =
    let on : ReadsOn c.self.inside.least c.self.inside.count c.in_ok-number.number c.self.inside.bytes.now c.in_ok-number.rest.now =
    reads_on _ _ _ c.self.inside.bytes.now c.in_ok-number.rest.now (omega arith) c.in_ok-number.ensures c.self.invariant.reads
    in ap (λ (n : List ℕ). slice_get n 0) (sym on.numbers ∙ ap (λ (v : RemainingGaps). v.numbers) c.self.view_is)

pub returns-clause-remaining : goal.returns-clause-remaining
returns-clause-remaining c =
    let on : ReadsOn c.self.inside.least c.self.inside.count c.in_ok-number.number c.self.inside.bytes.now c.in_ok-number.rest.now =
    reads_on _ _ _ c.self.inside.bytes.now c.in_ok-number.rest.now (omega arith) c.in_ok-number.ensures c.self.invariant.reads
    in ap (λ (n : List ℕ). drop 1 n) (sym on.numbers ∙ ap (λ (v : RemainingGaps). v.numbers) c.self.view_is)

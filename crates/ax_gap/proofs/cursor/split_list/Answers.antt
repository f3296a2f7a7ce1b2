use Rattle.std.proofs.Common.{◌≡◌, ◌++◌, length, arith, ap, ◌∙◌}
use Rattle.ax_gap.specs.Gaps.{gaps_from}
use Rattle.ax_gap.specs.Reading.{first_gaps}
use Rattle.ax_gap.specs.Cursor.{numbers_of}
use Rattle.ax_gap.proofs.VarintLaws.{same_number, same_after}
use Rattle.ax_gap.proofs.GapLaws.{given}
use Rattle.ax_gap.proofs.CursorLaws.{IsWhole, whole_again, IsTaken, whole_takes, none_or_end, some_end}
use Rattle.ax_gap.proofs.cursor.split_list.Goals as goal

pub returns-in_err-count-clause-only : goal.returns-in_err-count-clause-only
returns-in_err-count-clause-only c list rest up e =
    let whole : IsWhole c.args.bytes.now list rest = whole_again c.args.bytes.now list rest up e in
    absurd (cc (c.in_err-count.ensures, whole.count))

pub returns-then-count-first-clause-only : goal.returns-then-count-first-clause-only
returns-then-count-first-clause-only c list rest up e =
    let whole : IsWhole c.args.bytes.now list rest = whole_again c.args.bytes.now list rest up e in
    let count : c.in_ok-count.count ≡ length list = same_number _ _ _ _ (c.in_ok-count.ensures ∙ whole.count) in
    let after : c.in_ok-count.first.now ≡ gaps_from 0 list ++ rest = same_after _ _ _ _ (c.in_ok-count.ensures ∙ whole.count) in
    absurd (omega (arith, whole.fits, ap length after))

pub returns-in_err-after-clause-only : goal.returns-in_err-after-clause-only
returns-in_err-after-clause-only c list rest up e =
    let whole : IsWhole c.args.bytes.now list rest = whole_again c.args.bytes.now list rest up e in
    let count : c.in_ok-count.count ≡ length list = same_number _ _ _ _ (c.in_ok-count.ensures ∙ whole.count) in
    let after : c.in_ok-count.first.now ≡ gaps_from 0 list ++ rest = same_after _ _ _ _ (c.in_ok-count.ensures ∙ whole.count) in
    let reads : first_gaps 0 c.in_ok-count.count c.in_ok-count.first.now ≡ given list rest = rw (count, after) whole.reads in
    absurd (none_or_end (first_gaps 0 c.in_ok-count.count c.in_ok-count.first.now) list rest reads c.in_err-after.ensures)

pub returns-clause-found : goal.returns-clause-found
returns-clause-found c =
    let taken : IsTaken c.args.bytes.now (numbers_of (first_gaps 0 c.in_ok-count.count c.in_ok-count.first.now)) c.in_ok-after.after.now =
    whole_takes _ _ _ _ (λ i. omega (arith, c.type_inv.bytes i)) c.in_ok-count.ensures c.in_ok-after.ensures
    in taken.whole

pub returns-clause-rising : goal.returns-clause-rising
returns-clause-rising c =
    let taken : IsTaken c.args.bytes.now (numbers_of (first_gaps 0 c.in_ok-count.count c.in_ok-count.first.now)) c.in_ok-after.after.now =
    whole_takes _ _ _ _ (λ i. omega (arith, c.type_inv.bytes i)) c.in_ok-count.ensures c.in_ok-after.ensures
    in taken.rising

pub returns-clause-reads : goal.returns-clause-reads
returns-clause-reads c = some_end (first_gaps 0 c.in_ok-count.count c.in_ok-count.first.now) c.in_ok-after.after.now c.in_ok-after.ensures

pub returns-clause-only : goal.returns-clause-only
returns-clause-only c list rest up e =
    let whole : IsWhole c.args.bytes.now list rest = whole_again c.args.bytes.now list rest up e in
    let count : c.in_ok-count.count ≡ length list = same_number _ _ _ _ (c.in_ok-count.ensures ∙ whole.count) in
    let after : c.in_ok-count.first.now ≡ gaps_from 0 list ++ rest = same_after _ _ _ _ (c.in_ok-count.ensures ∙ whole.count) in
    rw (count, after) whole.reads

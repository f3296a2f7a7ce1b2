use Rattle.std.proofs.Common.{◌≡◌, ◌∙◌, ◌++◌, List, [], length, sym, subst}
use Rattle.std.proofs.lemmas.Bool.{false≢true}
use Rattle.ax_gap.specs.Varint.{varint}
use Rattle.ax_pair.specs.declared.pair.Pair.{Pair}
use Rattle.ax_pair.specs.Order.{BeginsFrom}
use Rattle.ax_leaf.specs.Pairs.{Posting, pairs_of}
use Rattle.ax_leaf.specs.Payload.{list_after, IsLeaf}
use Rattle.ax_leaf.specs.TermList.{IsTermList}
use Rattle.ax_pair.proofs.PairOrder.{the_pair}
use Rattle.ax_leaf.proofs.Whole.{leaf_parts, term_list_of, whole_leaf, listed, listed_seen}
use Rattle.ax_pair.proofs.PairOrder.{same_pair}
use Rattle.ax_leaf.proofs.leaf.check.Goals as goal
use Rattle.ax_leaf.proofs.leaf.check.Goals.{In_ok-term, In_ok-count}

pub returns-in_err-term-clause-only : goal.returns-in_err-term-clause-only
returns-in_err-term-clause-only c low postings is =
    absurd (c.in_err-term.ensures.only low.term (varint (length postings) ++ list_after [] postings) low.number is.short is.number
    (leaf_parts c.args.payload.now low postings is))

front : (c : In_ok-term) (low : Pair) (postings : List Posting) → IsLeaf c.args.payload.now low postings
    → (c.in_ok-term.term.now ≡ low.term) × (c.in_ok-term.number ≡ low.number) × (c.in_ok-term.after.now ≡ varint (length postings) ++ list_after [] postings)
front c low postings is =
    c.in_ok-term.ensures.only low.term (varint (length postings) ++ list_after [] postings) low.number is.short is.number
    (leaf_parts c.args.payload.now low postings is)

pub returns-in_err-count-clause-only : goal.returns-in_err-count-clause-only
returns-in_err-count-clause-only c low postings is =
    absurd (c.in_err-count.ensures.only (length postings) (list_after [] postings) is.count
    (front (goal.at.returns-in_err-count-clause-only c).In_ok-term low postings is).2)

behind : (c : In_ok-count) (low : Pair) (postings : List Posting) → IsLeaf c.args.payload.now low postings
    → (c.in_ok-term.term.now ≡ low.term) × (c.in_ok-term.number ≡ low.number) × IsTermList c.in_ok-count.count c.in_ok-count.list.now postings
behind c low postings is =
    let first = c.in_ok-term.ensures.only low.term (varint (length postings) ++ list_after [] postings) low.number is.short is.number
    (leaf_parts c.args.payload.now low postings is)
    in
    let same = c.in_ok-count.ensures.only (length postings) (list_after [] postings) is.count first.2 in
    (first.0, first.1, term_list_of c.args.payload.now c.in_ok-count.list.now c.in_ok-count.count low postings is same.0 same.1)

pub returns-then-not-is_term_list-clause-only : goal.returns-then-not-is_term_list-clause-only
returns-then-not-is_term_list-clause-only c low postings is =
    let list = behind (goal.at.returns-then-not-is_term_list-clause-only c).In_ok-count low postings is in
    absurd (false≢true (sym c.if-not-is_term_list.true ∙ c.is_term_list.ensures.1 (postings, list.2)))

pub returns-then-not-begins_from-clause-only : goal.returns-then-not-begins_from-clause-only
returns-then-not-begins_from-clause-only c low postings is =
    let list = behind (goal.at.returns-then-not-begins_from-clause-only c).In_ok-count low postings is in
    let low_is : low ≡ the_pair c.in_ok-term.term.now c.in_ok-term.number = same_pair _ _ _ _ (sym list.0) (sym list.1) in
    absurd (false≢true (sym c.if-not-begins_from.true ∙ (c.begins_from.ensures postings list.2).1
    (subst (λ (p : Pair). BeginsFrom p (pairs_of postings)) low_is is.begins)))

pub invariant_of-result : goal.invariant_of-result
invariant_of-result c = listed c.in_ok-count.count c.in_ok-count.list.now (c.is_term_list.ensures.0 c.if-not-is_term_list.false)

pub returns-clause-found : goal.returns-clause-found
returns-clause-found c =
    let list = listed c.in_ok-count.count c.in_ok-count.list.now (c.is_term_list.ensures.0 c.if-not-is_term_list.false) in
    whole_leaf c.args.payload.now c.in_ok-term.after.now c.in_ok-count.list.now c.in_ok-term.term.now c.in_ok-term.number c.in_ok-count.count _
    c.in_ok-term.ensures.found c.in_ok-count.ensures.found c.in_ok-term.ensures.fits.0 c.in_ok-term.ensures.fits.1 c.in_ok-count.ensures.fits
    list ((c.begins_from.ensures _ list).0 c.if-not-begins_from.false)

pub returns-clause-only : goal.returns-clause-only
returns-clause-only c low postings is =
    let list = behind (goal.at.returns-clause-only c).In_ok-count low postings is in
    (same_pair _ _ _ _ list.0 list.1, listed_seen c.in_ok-count.count c.in_ok-count.list.now postings list.2)

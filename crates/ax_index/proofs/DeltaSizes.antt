-- How many bytes a delta takes at most.
use Rattle.std.proofs.Common.{◌≡◌, ℕ, ◌+◌, ◌-◌, ◌*◌, ◌<◌, ◌≤◌, ◌^◌, List, [], ◌∷◌, ◌++◌, length}
use Rattle.std.proofs.Common.{take, drop, get_or, ◌∙◌, arith, ap, sym, subst, Bool, true, false}
use Rattle.std.proofs.Common.{cond}
use Rattle.std.specs.Prelude.{nat_eq}
use Rattle.std.specs.Str.{bytes_eq}
use Rattle.std.proofs.lemmas.List.{length-append, length-drop, take_more}
use Rattle.std.proofs.lemmas.List.Elements.{All-drop, All-get_or, All-take}
use Rattle.std.proofs.lemmas.List.Sums.{common_prefix_len-le}
use Rattle.ax_gap.specs.Gaps.{gaps}
use Rattle.ax_gap.specs.Varint.{varint}
use Rattle.ax_gap.proofs.Lengths.{five_groups, list_within}
use Rattle.ax_leaf.specs.Payload.{common, term_after}
use Rattle.ax_delta.specs.declared.change.Change.{Change}
use Rattle.ax_delta.specs.Changes.{TermChange, term_changes_from, term_changes_of, with_added, with_dropped}
use Rattle.ax_delta.specs.Payload.{AreAfter, AreTermChanges, IsDelta, IsTermChange, delta, list_after}
use Rattle.ax_index.specs.DeltaSizes.{HaveShortTerms, counted_bytes, most_term_bytes}

-- ---- by terms

abbrev cost : TermChange → ℕ
cost change = 20 + length change.term + 5 * (length change.added + length change.dropped)

abbrev costs : List TermChange → ℕ
costs [] = 0
costs (change ∷ changes) = cost change + costs changes

term_fits : (last term : List ℕ) → length term < 2 ^ 32 → length (term_after last term) ≤ 10 + length term
unfolding term_after
term_fits last term short =
    let shared : ℕ = common last term in
    let within : shared ≤ length term = (common_prefix_len-le nat_eq last term).1 in
    omega (
      arith,
      length-append (varint shared ++ varint (length term - shared)) (drop shared term),
      length-append (varint shared) (varint (length term - shared)),
      length-drop shared term,
      five_groups shared (omega arith),
      five_groups (length term - shared) (omega arith),
    )

change_fits : (last : List ℕ) (change : TermChange) (rest : List ℕ) → IsTermChange change
    → length (term_after last change.term ++ gaps change.added ++ gaps change.dropped ++ rest) ≤ cost change + length rest
change_fits last change rest is =
    omega (
      arith,
      length-append (term_after last change.term ++ gaps change.added ++ gaps change.dropped) rest,
      length-append (term_after last change.term ++ gaps change.added) (gaps change.dropped),
      length-append (term_after last change.term) (gaps change.added),
      term_fits last change.term is.short,
      list_within change.added is.additions,
      list_within change.dropped is.removals,
    )

list_fits : (last : List ℕ) (changes : List TermChange) → AreAfter last changes → length (list_after last changes) ≤ costs changes
unfolding list_after
list_fits last [] are = omega arith
list_fits last (change ∷ changes) are =
    omega (arith, change_fits last change (list_after change.term changes) are.1, list_fits change.term changes are.2)

terms_fit : (changes : List TermChange) → AreTermChanges changes → length (list_after [] changes) ≤ costs changes
unfolding list_after
terms_fit [] are = omega arith
terms_fit (change ∷ changes) are =
    omega (arith, change_fits [] change (list_after change.term changes) are.0, list_fits change.term changes are.1)

-- ---- by changes

one_number : (added dropped : List ℕ) (change : Change) → length (with_added added change) + length
    (with_dropped dropped change) ≡ length added + length dropped + 1
one_number added dropped change = by_test change.add
  where
    by_test : (add : Bool) → length (cond add (added ++ change.pair.number ∷ []) added) + length (cond add dropped (dropped ++ change.pair.number ∷ []))
        ≡ length added + length dropped + 1
    by_test true = omega (arith, length-append added (change.pair.number ∷ []))
    by_test false = omega (arith, length-append dropped (change.pair.number ∷ []))

costs_from : (term added dropped : List ℕ) (changes : List Change)
    → costs (term_changes_from term added dropped changes) ≤ 20 + length term + 5 * (length added + length dropped) + counted_bytes changes
unfolding term_changes_from
costs_from term added dropped [] = omega arith
costs_from term added dropped (change ∷ changes) =
    by_test (bytes_eq change.pair.term term)
    (costs_from term (with_added added change) (with_dropped dropped change) changes)
    (costs_from change.pair.term (with_added [] change) (with_dropped [] change) changes)
  where
    by_test : (b : Bool)
        → costs (term_changes_from term (with_added added change) (with_dropped dropped change) changes)
        ≤ 20 + length term + 5 * (length (with_added added change) + length (with_dropped dropped change)) + counted_bytes changes
        → costs (term_changes_from change.pair.term (with_added [] change) (with_dropped [] change) changes)
        ≤ 20 + length change.pair.term + 5 * (length (with_added [] change) + length (with_dropped [] change)) + counted_bytes changes
        → costs (cond b (term_changes_from term (with_added added change) (with_dropped dropped change) changes)
        (record { term = term; added = added; dropped = dropped } ∷ term_changes_from change.pair.term (with_added [] change) (with_dropped [] change) changes))
        ≤ 20 + length term + 5 * (length added + length dropped) + (25 + length change.pair.term + counted_bytes changes)
    by_test true same other = omega (arith, same, one_number added dropped change)
    by_test false same other = omega (arith, other, one_number [] [] change)

costs_of : (changes : List Change) → costs (term_changes_of changes) ≤ counted_bytes changes
unfolding term_changes_of
costs_of [] = omega arith
costs_of (change ∷ changes) = omega (arith, costs_from change.pair.term (with_added [] change) (with_dropped [] change) changes, one_number [] [] change)

-- ---- a payload

spelled_fits : (changes : List TermChange) → length changes < 2 ^ 32 → AreTermChanges changes → length (delta changes) ≤ 5 + costs changes
unfolding delta
spelled_fits changes few are =
    omega (arith, length-append (varint (length changes)) (list_after [] changes), five_groups (length changes) (omega arith), terms_fit changes are)

pub delta_fits : (payload : List ℕ) (changes : List Change) → IsDelta payload (term_changes_of changes) → length payload ≤ 5 + counted_bytes changes
delta_fits payload changes is =
    omega (arith, ap length is.spelled, spelled_fits (term_changes_of changes) is.count is.are, costs_of changes)

-- ---- one change more

counted_behind : (changes : List Change) (change : Change) → counted_bytes (changes ++ change ∷ []) ≡ counted_bytes changes + (25 + length change.pair.term)
counted_behind [] change = omega arith
counted_behind (first ∷ changes) change = omega (arith, counted_behind changes change)

pub counted_more : (changes : List Change) (i : ℕ) (change : Change) → i < length changes → change ≡ get_or changes i change
    → counted_bytes (take (i + 1) changes) ≡ counted_bytes (take i changes) + (25 + length change.pair.term)
counted_more changes i change there is =
    ap counted_bytes (take_more changes i change there ∙ ap (λ (c : Change). take i changes ++ c ∷ []) (sym is))
    ∙ counted_behind (take i changes) change

-- ---- short terms

pub short_back : (n : ℕ) (changes behind : List Change) → behind ≡ drop n changes → HaveShortTerms changes → HaveShortTerms behind
short_back n changes behind back short = subst HaveShortTerms (sym back) (All-drop (λ change. length change.pair.term ≤ most_term_bytes) n changes short)

pub short_front : (n : ℕ) (changes front : List Change) → front ≡ take n changes → HaveShortTerms changes → HaveShortTerms front
short_front n changes front is short = subst HaveShortTerms (sym is) (All-take (λ change. length change.pair.term ≤ most_term_bytes) n changes short)

pub short_at : (changes : List Change) (i : ℕ) (change : Change) → i < length changes → change ≡ get_or changes i change → HaveShortTerms changes
    → length change.pair.term ≤ most_term_bytes
short_at changes i change there is short =
    subst (λ (c : Change). length c.pair.term ≤ most_term_bytes) (sym is)
    (All-get_or (λ change. length change.pair.term ≤ most_term_bytes) changes i change there short)

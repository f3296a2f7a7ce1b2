-- The numbers of documents stand in strict order, and the answers over them.
use Rattle.std.proofs.Common.{◌≡◌, ℕ, ◌<◌, ◌≤◌, List, [], ◌∷◌, map, refl, sym, ap, ◌∙◌, arith}
use Rattle.std.specs.Cmp.{nat_cmp_is}
use Rattle.std.specs.List.{AllByRecursion}
use Rattle.std.specs.List.Sorted.{IsStrictlySortedBy}
use Rattle.std.specs.Ordering.{nat_cmp}
use Rattle.std.specs.declared.cmp.Ordering.TheVariants.{Less}
use Rattle.ax_tree.specs.CanonicalText.{canonical_text}
use Rattle.ax_tree.specs.declared.tree.Tree.{Tree}
use Rattle.ax_mean.specs.declared.query.KeyedRow.{KeyedRow}
use Rattle.ax_mean.specs.declared.query.Query.{Query}
use Rattle.ax_container.specs.Container.{Container, Entry, IsSound, NumbersRise}
use Rattle.ax_excerpt.specs.Excerpts.{excerpts}
use Rattle.ax_excerpt.specs.ShownDocuments.{ShowsDocument, showing, tree_numbered, without_pick}
use Rattle.ax_excerpt.proofs.GroupsAlike.{same_answer}
use Rattle.ax_excerpt.proofs.ShownAnswers.{shown_answer}
use Rattle.ax_excerpt.specs.declared.excerpt.Excerpt as excerpt
use Rattle.ax_machine.specs.Querying.{numbered, rows_of}
use Rattle.ax_result.specs.Answers.{answer_of}
use Rattle.ax_engine.proofs.InOrder.{pairs}
use Rattle.ax_engine.proofs.WholeEnough.{whole_is_enough}

all_above : (n before next : ℕ) (entries : List Entry) → n ≤ before → NumbersRise before entries next
    → AllByRecursion (λ m. nat_cmp n m ≡ Less) (map (λ (e : ℕ × Tree). e.0) (pairs entries))
all_above n before next [] below rise = tt
all_above n before next (entry ∷ entries) below rise =
    let less : n < entry.number = omega (arith, below, rise.0) in
    let later : n ≤ entry.number = omega (arith, less) in (
      sym (nat_cmp_is n entry.number Less less),
      all_above n entry.number next entries later rise.1,
    )

in_order : (before next : ℕ) (entries : List Entry) → NumbersRise before entries next
    → IsStrictlySortedBy nat_cmp (map (λ (e : ℕ × Tree). e.0) (pairs entries))
unfolding IsStrictlySortedBy
in_order before next [] rise = tt
in_order before next (entry ∷ entries) rise =
    let same : entry.number ≤ entry.number = omega arith in (
      all_above entry.number entry.number next entries same rise.1,
      in_order entry.number next entries rise.1,
    )

-- of none
pub none_rise : IsStrictlySortedBy nat_cmp []
unfolding IsStrictlySortedBy
none_rise = tt

-- those of a container
pub numbers_rise : (container : Container) → IsSound container
    → IsStrictlySortedBy nat_cmp (map (λ (e : ℕ × Tree). e.0) (numbered container))
numbers_rise container sound = in_order 0 container.next_number container.entries sound.numbers

-- ---- documents as rows

same_texts : (entries : List (ℕ × Tree)) (rows : List KeyedRow)
    → map (λ (row : KeyedRow). canonical_text row.shown)
    (map (λ (row : KeyedRow). showing (tree_numbered row.number entries) row) rows)
    ≡ map (λ (row : KeyedRow). canonical_text (tree_numbered row.number entries)) rows
same_texts entries [] = refl
same_texts entries (row ∷ rows) =
    ap (λ rest. canonical_text (tree_numbered row.number entries) ∷ rest) (same_texts entries rows)

-- the texts of the rows are those of the documents of the rows' keys
pub shown_rows : (query : Query) (container : Container) → ShowsDocument query → IsSound container
    → (rows : List KeyedRow) → rows ≡ answer_of (without_pick query) (numbered container)
    → map (λ (row : KeyedRow). canonical_text (tree_numbered row.number (numbered container))) rows
    ≡ rows_of query container
shown_rows query container is sound rows these =
    let entries = numbered container in
    let all = whole_is_enough (without_pick query) in
    let whole : answer_of query entries
    ≡ map (λ (row : KeyedRow). showing (tree_numbered row.number entries) row)
    (answer_of (without_pick query) (excerpts excerpt.Whole entries)) =
    shown_answer excerpt.Whole query entries is all (numbers_rise container sound) in
    let same : answer_of (without_pick query) (excerpts excerpt.Whole entries)
    ≡ answer_of (without_pick query) entries =
    same_answer excerpt.Whole (without_pick query) entries all in
    sym (ap (map (λ (row : KeyedRow). canonical_text row.shown))
    (whole ∙ ap (map (λ (row : KeyedRow). showing (tree_numbered row.number entries) row))
    (same ∙ sym these))
    ∙ same_texts entries rows)

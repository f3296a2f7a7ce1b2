-- DISTINCT keeps of each text the first row that shows it, and no other.
use Rattle.std.proofs.Common.{◌≡◌, ℕ, List, [], ◌∷◌, ◌++◌, map, Bool, true, false, ◌||◌, cond, refl, sym, ap, ◌∙◌}
use Rattle.std.proofs.lemmas.Bool.{or_parts}
use Rattle.std.proofs.lemmas.Slice.Eq.{bytes_eq-Decides}
use Rattle.std.specs.List.{AllByRecursion, IsDistinct}
use Rattle.std.specs.Str.{bytes_eq}
use Rattle.ax_mean.specs.declared.query.KeyedRow.{KeyedRow}
use Rattle.ax_mean.specs.Answer.{unseen}
use Rattle.ax_result.specs.Sorting.{text_of, shows}

abbrev Seen : Type 0
Seen = List ℕ → Bool

abbrev and_seen : KeyedRow → Seen → Seen
and_seen row seen text = bytes_eq (text_of row) text || seen text

abbrev AreNew : Seen → List (List ℕ) → Type 0
AreNew seen texts = AllByRecursion (λ text. seen text ≡ false) texts

still_new : (row : KeyedRow) (seen : Seen) (texts : List (List ℕ)) → AreNew (and_seen row seen) texts
    → AreNew seen texts
still_new row seen [] h = tt
still_new row seen (text ∷ texts) h =
    ((or_parts (bytes_eq (text_of row) text) (seen text) h.0).1, still_new row seen texts h.1)

apart : (row : KeyedRow) (seen : Seen) (texts : List (List ℕ)) → AreNew (and_seen row seen) texts
    → AllByRecursion (λ text. bytes_eq (text_of row) text ≡ false) texts
apart row seen [] h = tt
apart row seen (text ∷ texts) h =
    ((or_parts (bytes_eq (text_of row) text) (seen text) h.0).0, apart row seen texts h.1)

kept_are_new : (seen : Seen) (rows : List KeyedRow) → AreNew seen (map text_of (unseen seen rows))
kept_are_new seen [] = tt
kept_are_new seen (row ∷ rows) =
    by (seen (text_of row)) refl (kept_are_new seen rows) (kept_are_new (and_seen row seen) rows)
  where
    by : (b : Bool) → seen (text_of row) ≡ b → AreNew seen (map text_of (unseen seen rows))
        → AreNew (and_seen row seen) (map text_of (unseen (and_seen row seen) rows))
        → AreNew seen
        (map text_of (cond b (unseen seen rows) (row ∷ unseen (and_seen row seen) rows)))
    by true h same more = same
    by false h same more =
        (h, still_new row seen (map text_of (unseen (and_seen row seen) rows)) more)

kept_distinct : (seen : Seen) (rows : List KeyedRow)
    → IsDistinct bytes_eq (map text_of (unseen seen rows))
unfolding IsDistinct
kept_distinct seen [] = tt
kept_distinct seen (row ∷ rows) =
    by (seen (text_of row)) (kept_distinct seen rows) (kept_distinct (and_seen row seen) rows)
  where
    by : (b : Bool) → IsDistinct bytes_eq (map text_of (unseen seen rows))
        → IsDistinct bytes_eq (map text_of (unseen (and_seen row seen) rows))
        → IsDistinct bytes_eq
        (map text_of (cond b (unseen seen rows) (row ∷ unseen (and_seen row seen) rows)))
    by true same more = same
    by false same more = (
      apart row seen (map text_of (unseen (and_seen row seen) rows))
          (kept_are_new (and_seen row seen) rows),
      more,
    )

-- of rows that show one text the first is kept, and no text is lost
pub texts_are_distinct : (rows : List KeyedRow)
    → IsDistinct bytes_eq (map text_of (unseen (λ text. false) rows))
texts_are_distinct rows = kept_distinct (λ text. false) rows

exchanged : (a b c : Bool) → ((a || b) || c) ≡ (b || (a || c))
exchanged true true c = refl
exchanged true false c = refl
exchanged false b c = refl

shown_before : (seen : Seen) (first row : KeyedRow) (b : Bool) (rest : Bool)
    → seen (text_of first) ≡ true → bytes_eq (text_of first) (text_of row) ≡ b
    → (seen (text_of row) || rest) ≡ (seen (text_of row) || (b || rest))
shown_before seen first row false rest h e = refl
shown_before seen first row true rest h e =
    let same = (bytes_eq-Decides (text_of first) (text_of row)).0 e in
    ap (λ b. b || rest) (ap seen (sym same) ∙ h) ∙ sym (ap (λ b. b || true) (ap seen (sym same) ∙ h))

one_more : (seen : Seen) (rows : List KeyedRow) (row : KeyedRow)
    → unseen seen (rows ++ row ∷ []) ≡ cond (seen (text_of row) || shows (text_of row) rows)
    (unseen seen rows) (unseen seen rows ++ row ∷ [])
one_more seen [] row = by (seen (text_of row))
  where
    none : List KeyedRow
    none = []

    by : (b : Bool) → cond b [] (row ∷ []) ≡ cond (b || false) [] (row ∷ [])
    by true = refl
    by false = refl
one_more seen (first ∷ rows) row =
    by (seen (text_of first)) refl (one_more seen rows row) (one_more (and_seen first seen) rows row)
  where
    out : (b : Bool) (more : List KeyedRow)
        → first ∷ cond b more (more ++ row ∷ [])
        ≡ cond b (first ∷ more) (first ∷ more ++ row ∷ [])
    out true more = refl
    out false more = refl

    by : (b : Bool) → seen (text_of first) ≡ b
        → unseen seen (rows ++ row ∷ []) ≡ cond (seen (text_of row) || shows (text_of row) rows)
        (unseen seen rows) (unseen seen rows ++ row ∷ [])
        → unseen (and_seen first seen) (rows ++ row ∷ [])
        ≡ cond (and_seen first seen (text_of row) || shows (text_of row) rows)
        (unseen (and_seen first seen) rows) (unseen (and_seen first seen) rows ++ row ∷ [])
        → cond b (unseen seen (rows ++ row ∷ []))
        (first ∷ unseen (and_seen first seen) (rows ++ row ∷ []))
        ≡ cond (seen (text_of row) || shows (text_of row) (first ∷ rows))
        (cond b (unseen seen rows) (first ∷ unseen (and_seen first seen) rows))
        (cond b (unseen seen rows) (first ∷ unseen (and_seen first seen) rows) ++ row ∷ [])
    by true h same more =
        same
        ∙ ap (λ b. cond b (unseen seen rows) (unseen seen rows ++ row ∷ []))
        (shown_before seen first row (bytes_eq (text_of first) (text_of row))
        (shows (text_of row) rows) h refl)
    by false h same more =
        let kept = unseen (and_seen first seen) rows in
        ap (λ others. first ∷ others) more
        ∙ out (and_seen first seen (text_of row) || shows (text_of row) rows) kept
        ∙ ap (λ b. cond b (first ∷ kept) (first ∷ kept ++ row ∷ []))
        (exchanged (bytes_eq (text_of first) (text_of row)) (seen (text_of row))
        (shows (text_of row) rows))

pub kept_where_first : (rows : List KeyedRow) (row : KeyedRow)
    → unseen (λ text. false) (rows ++ row ∷ []) ≡ cond (shows (text_of row) rows)
    (unseen (λ text. false) rows) (unseen (λ text. false) rows ++ row ∷ [])
kept_where_first rows row = one_more (λ text. false) rows row

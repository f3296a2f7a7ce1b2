-- The texts that a set has are those that were seen.
use Rattle.std.proofs.Common.{◌≡◌, ℕ, List, [], ◌∷◌, ◌++◌, Bool, true, false, not, cond, refl, sym, ap, ◌∙◌, subst, append_assoc}
use Rattle.std.specs.Prelude.{◌||◌}
use Rattle.std.specs.BTreeSet.{BTreeSet, Updates, contains}
use Rattle.std.specs.Cmp.Lexicographic.{slice_cmp}
use Rattle.std.specs.Ordering.{nat_cmp, is_eq}
use Rattle.std.specs.Str.{bytes_eq}
use Rattle.std.proofs.lemmas.Map.Text.{is_eq-slice_cmp}
use Rattle.ax_tree.specs.CanonicalText.{canonical_text}
use Rattle.ax_mean.specs.declared.query.KeyedRow.{KeyedRow}
use Rattle.ax_mean.specs.Answer.{unseen}

abbrev pub has : BTreeSet (List ℕ) → List ℕ → Bool
has set text = contains (slice_cmp nat_cmp) set text

or_by : (a b : Bool) → cond a true b ≡ (a || b)
or_by true b = refl
or_by false b = refl

pub has_more : (old new : BTreeSet (List ℕ)) (text other : List ℕ)
    → Updates (slice_cmp nat_cmp) old new text true → has new other ≡ (bytes_eq text other || has old other)
has_more old new text other u =
    u.0 other ∙ or_by (is_eq (slice_cmp nat_cmp text other)) (has old other)
    ∙ ap (λ b. b || has old other) (is_eq-slice_cmp text other)

first_unseen : (b : Bool) (row : KeyedRow) (rest others : List KeyedRow) → true ≡ not b
    → cond b others (row ∷ rest) ≡ row ∷ rest
first_unseen true row rest others e = absurd (cc)
first_unseen false row rest others e = refl

kept_one : (kept rows whole : List KeyedRow) (row : KeyedRow) (old new : BTreeSet (List ℕ))
    → Updates (slice_cmp nat_cmp) old new (canonical_text row.shown) true
    → true ≡ not (has old (canonical_text row.shown))
    → kept ++ unseen (has old) (row ∷ rows) ≡ whole
    → (kept ++ row ∷ []) ++ unseen (has new) rows ≡ whole
kept_one kept rows whole row old new u e h =
    let more : has new ≡ (λ other. bytes_eq (canonical_text row.shown) other || has old other) = λ i other.
    has_more old new (canonical_text row.shown) other u i in
    append_assoc kept (row ∷ []) (unseen (has new) rows)
    ∙ ap (λ (seen : List ℕ → Bool). kept ++ (row ∷ unseen seen rows)) more
    ∙ sym (ap (λ rest. kept ++ rest) (first_unseen (has old (canonical_text row.shown)) row _ _ e))
    ∙ h

-- a row that was not seen is kept
pub kept_more : (kept pushed rows left whole : List KeyedRow) (row : KeyedRow) (text : List ℕ)
    (old new : BTreeSet (List ℕ)) (added : Bool)
    → Updates (slice_cmp nat_cmp) old new text true
    → added ≡ not (has old text) → added ≡ true → text ≡ canonical_text row.shown
    → left ≡ row ∷ rows → pushed ≡ kept ++ row ∷ []
    → kept ++ unseen (has old) left ≡ whole → pushed ++ unseen (has new) rows ≡ whole
kept_more kept pushed rows left whole row text old new added u a t e l p h =
    let updates : Updates (slice_cmp nat_cmp) old new (canonical_text row.shown) true =
    subst (λ (x : List ℕ). Updates (slice_cmp nat_cmp) old new x true) e u in
    let fresh : true ≡ not (has old (canonical_text row.shown)) =
    sym t ∙ a ∙ ap (λ x. not (has old x)) e in
    ap (λ xs. xs ++ unseen (has new) rows) p
    ∙ kept_one kept rows whole row old new updates fresh (ap (λ xs. kept ++ unseen (has old) xs) (sym l) ∙ h)

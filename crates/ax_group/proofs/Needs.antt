-- A value in the place of another that makes the same of its tally.
use Rattle.std.proofs.Common.{◌≡◌, ℕ, List, [], ◌∷◌, ◌++◌, length, Some, None, slice_get, refl, sym, ap, ◌∙◌, append_assoc}
use Rattle.ax_mean.specs.declared.value.Value.{Value}
use Rattle.ax_group.specs.declared.tally.Tally.{Tally}
use Rattle.ax_group.specs.Tallies.{tally_with}
use Rattle.ax_group.specs.States.{tallies_with}

-- the value at that place may be either one
abbrev pub AreOne : List Tally → ℕ → Value → Value → Type 0
AreOne ts at v w = (before after : List Value) → length before ≡ at
    → tallies_with ts (before ++ v ∷ after) ≡ tallies_with ts (before ++ w ∷ after)

none_at : (before after : List Value) (v w : Value) (ts : List Tally)
    → slice_get ts (length before) ≡ None
    → tallies_with ts (before ++ v ∷ after) ≡ tallies_with ts (before ++ w ∷ after)
none_at before after v w [] none = refl
none_at [] after v w (t ∷ ts) none = absurd (let e : ⊥ = cc none in e)
none_at (b ∷ before) after v w (t ∷ ts) none =
    ap (λ us. tally_with t b ∷ us) (none_at before after v w ts none)

one_at : (before after : List Value) (v w : Value) (t : Tally) (ts : List Tally)
    → slice_get ts (length before) ≡ Some t → tally_with t v ≡ tally_with t w
    → tallies_with ts (before ++ v ∷ after) ≡ tallies_with ts (before ++ w ∷ after)
one_at before after v w t [] is e = refl
one_at [] after v w t (u ∷ ts) is e =
    let same : u ≡ t = cc is in
    ap (λ x. tally_with x v ∷ tallies_with ts after) same
    ∙ ap (λ x. x ∷ tallies_with ts after) e
    ∙ ap (λ x. tally_with x w ∷ tallies_with ts after) (sym same)
one_at (b ∷ before) after v w t (u ∷ ts) is e =
    ap (λ us. tally_with u b ∷ us) (one_at before after v w t ts is e)

pub replaced : (ts : List Tally) (at : ℕ) (t : Tally) (v w : Value) → slice_get ts at ≡ Some t
    → tally_with t v ≡ tally_with t w → AreOne ts at v w
replaced ts at t v w is e before after long =
    one_at before after v w t ts (ap (slice_get ts) long ∙ is) e

pub behind_all : (ts : List Tally) (at : ℕ) (v w : Value) → slice_get ts at ≡ None
    → AreOne ts at v w
behind_all ts at v w none before after long =
    none_at before after v w ts (ap (slice_get ts) long ∙ none)

-- one value more is made
pub one_more : (ts : List Tally) (made : List Value) (v w : Value) (rest : List Value)
    (whole : List Tally) → AreOne ts (length made) v w
    → tallies_with ts (made ++ w ∷ rest) ≡ whole
    → tallies_with ts ((made ++ v ∷ []) ++ rest) ≡ whole
one_more ts made v w rest whole one e =
    ap (tallies_with ts) (append_assoc made (v ∷ []) rest) ∙ one made rest refl ∙ e

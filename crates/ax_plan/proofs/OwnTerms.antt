-- The terms that a document has in the ranges of a condition on one leaf are those of that leaf: none of a composite is
-- there, and none of another path.
use Rattle.std.proofs.Common.{◌≡◌, ℕ, List, [], ◌∷◌, ◌++◌, map, take, true, false, ◌&&◌, ◌==◌, ⊎_elim, refl, sym}
use Rattle.std.proofs.lemmas.Bool.{false≢true, and_parts, or_cases}
use Rattle.ax_mean.specs.declared.query.Order.{Order}
use Rattle.ax_mean.specs.declared.query.Step.{Step}
use Rattle.ax_mean.specs.declared.query.Step.TheVariants.{Item}
use Rattle.ax_mean.specs.declared.value.Value.{Value}
use Rattle.ax_mean.specs.Values.{kind}
use Rattle.ax_term.specs.CutTexts.{CutText}
use Rattle.ax_term.specs.CutValues.{CutValue, cut_of}
use Rattle.ax_term.specs.Ranges.{is_in_range}
use Rattle.ax_term.specs.TermBytes.{term_bytes}
use Rattle.ax_term.specs.Terms.{Term}
use Rattle.ax_term.specs.declared.range.TermRange.{TermRange}
use Rattle.ax_atoms.specs.Atoms.{Atom, rests_at, rests_on_all}
use Rattle.ax_atoms.specs.Recognised.{are_single, is_bound, is_single}
use Rattle.ax_atoms.specs.Spans.{before, behind_texts, is_in_some, least_of_kind, next_bytes, next_kind, only, ranges_of, up_to}
use Rattle.ax_atoms.proofs.Between.{IsFit}
use Rattle.ax_atoms.proofs.Exact.{from_before, from_up_to}
use Rattle.ax_atoms.proofs.OneKind.{IsBoundCut, bound_cut, bound_fit, least_fit, next_fit, single_fit}
use Rattle.ax_atoms.proofs.Table.{IsOfTable}

-- ---- composites

no_composite_among : (path : List Step) (ks : List Value) (columns : List Order) (values : List CutValue)
    → is_in_some (map (only path) ks) (term_bytes (Term.Composite columns values)) ≡ false
no_composite_among path [] columns values = refl
no_composite_among path (k ∷ ks) columns values = no_composite_among path ks columns values

pub no_composite_in : (atom : Atom) (columns : List Order) (values : List CutValue)
    → is_in_some (ranges_of atom) (term_bytes (Term.Composite columns values)) ≡ false
no_composite_in (Atom.Equals path k) columns values = refl
no_composite_in (Atom.AtMost path k) columns values = refl
no_composite_in (Atom.AtLeast path k) columns values = refl
no_composite_in (Atom.Within path k m) columns values = refl
no_composite_in (Atom.OneOf path ks) columns values = no_composite_among path ks columns values
no_composite_in (Atom.Exists path) columns values = refl
no_composite_in (Atom.Begins path k) columns values = refl
no_composite_in (Atom.Holds path k) columns values = refl

-- ---- paths

in_one : (range : TermRange) (bytes : List ℕ) → is_in_some (range ∷ []) bytes ≡ true → is_in_range range bytes ≡ true
in_one range bytes h =
    ⊎_elim {C = is_in_range range bytes ≡ true} (λ (e : is_in_range range bytes ≡ true). e)
    (λ (e : false ≡ true). absurd (false≢true e)) (or_cases (is_in_range range bytes) false h)

behind_fit : (bytes : List ℕ) → IsFit (behind_texts bytes)
behind_fit [] = tt
behind_fit (byte ∷ bytes) = tt

module _ (q : List Step) (v : CutValue) (fit : IsFit v) where
  abbrev own : List ℕ
  own = term_bytes (Term.Plain q v)

  path_of_only : (path : List Step) (k : Value) → is_single k ≡ true → is_in_range (only path k) own ≡ true → q ≡ path
  path_of_only path k single h =
      (from_up_to path q (cut_of k) (cut_of k) v (single_fit k single) (single_fit k single) fit h).path

  path_among : (path : List Step) (ks : List Value) → are_single ks ≡ true → is_in_some (map (only path) ks) own ≡ true → q ≡ path
  path_among path [] single h = absurd (false≢true h)
  path_among path (k ∷ ks) single h =
      let p = and_parts (is_single k) (are_single ks) single in
      ⊎_elim {C = q ≡ path}
      (λ (e : is_in_range (only path k) own ≡ true). path_of_only path k p.0 e)
      (λ (e : is_in_some (map (only path) ks) own ≡ true). path_among path ks p.1 e)
      (or_cases (is_in_range (only path k) own) (is_in_some (map (only path) ks) own) h)

  pub own_path : (atom : Atom) → IsOfTable atom → rests_on_all atom ≡ false → is_in_some (ranges_of atom) own ≡ true
      → q ≡ rests_at atom
  own_path (Atom.Equals path k) is one h = path_of_only path k is.constants (in_one (only path k) own h)
  own_path (Atom.AtMost path k) is one h =
      let c : CutValue = cut_of k in
      let b : IsBoundCut c = bound_cut k is.constants in
      (from_up_to path q (least_of_kind c) c v (least_fit c b) (bound_fit c b) fit
      (in_one (up_to (Term.Plain path (least_of_kind c)) (Term.Plain path c)) own h)).path
  own_path (Atom.AtLeast path k) is one h =
      let c : CutValue = cut_of k in
      let b : IsBoundCut c = bound_cut k is.constants in
      (from_before path q c (next_kind c) v (bound_fit c b) (next_fit c b) fit
      (in_one (before (Term.Plain path c) (Term.Plain path (next_kind c))) own h)).path
  own_path (Atom.Within path k m) is one h =
      let bounds = and_parts (is_bound k) (is_bound m) (and_parts (is_bound k && is_bound m) (kind k == kind m) is.constants).0 in
      (from_up_to path q (cut_of k) (cut_of m) v (bound_fit (cut_of k) (bound_cut k bounds.0))
      (bound_fit (cut_of m) (bound_cut m bounds.1)) fit
      (in_one (up_to (Term.Plain path (cut_of k)) (Term.Plain path (cut_of m))) own h)).path
  own_path (Atom.OneOf path ks) is one h = path_among path ks is.constants h
  own_path (Atom.Exists path) is one h = absurd (false≢true (sym one))
  own_path (Atom.Begins path k) is one h =
      let text : CutText = record { front = take 128 k; is_cut = false } in
      let behind : CutValue = behind_texts (next_bytes (take 128 k)) in
      (from_before path q (CutValue.Text text) behind v tt (behind_fit (next_bytes (take 128 k))) fit
      (in_one (before (Term.Plain path (CutValue.Text text)) (Term.Plain path behind)) own h)).path
  own_path (Atom.Holds path k) is one h =
      path_of_only (path ++ Item ∷ []) k is.constants (in_one (only (path ++ Item ∷ []) k) own h)

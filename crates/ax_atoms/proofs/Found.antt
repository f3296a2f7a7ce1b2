-- A document of which a recognised condition is true has a leaf that the condition rests on, with a
-- term in its ranges.
use Rattle.std.proofs.Common.{◌≡◌, ℕ, List, [], ◌∷◌, map, Bool, true, false, Some, None, refl, sym, ap, ◌∙◌, subst}
use Rattle.std.proofs.lemmas.Bool.{false≢true, and_parts, or_left}
use Rattle.std.proofs.lemmas.List.{append-nil}
use Rattle.std.proofs.lemmas.Option.{same_Some, none-some}
use Rattle.std.specs.Ordering.{is_ge, is_gt, is_le, is_lt}
use Rattle.std.specs.List.{Contains}
use Rattle.ax_tree.specs.declared.tree.Tree as tree
use Rattle.ax_tree.specs.declared.tree.Tree.{Tree}
use Rattle.ax_mean.specs.declared.expr.QueryStep.{QueryStep}
use Rattle.ax_mean.specs.declared.operator.BinaryOp.{BinaryOp}
use Rattle.ax_mean.specs.declared.operator.BinaryOp.TheVariants as op
use Rattle.ax_mean.specs.declared.query.Step.{Step}
use Rattle.ax_mean.specs.declared.value.Value.{Value}
use Rattle.ax_mean.specs.declared.value.Value.TheVariants.{Undefined, Defined}
use Rattle.ax_mean.specs.Comparison.{is_scalar}
use Rattle.ax_mean.specs.Meaning.{is_yes}
use Rattle.ax_mean.specs.Operators.{binary}
use Rattle.ax_mean.specs.Steps.{steps_from}
use Rattle.ax_mean.specs.ValueOrder.{value_cmp}
use Rattle.ax_mean.specs.Values.{are_of_one_kind, truth_of}
use Rattle.ax_term.specs.CutValues.{cut_of}
use Rattle.ax_term.specs.Ranges.{is_in_range}
use Rattle.ax_term.specs.TermBytes.{term_bytes}
use Rattle.ax_term.specs.Terms.{Term}
use Rattle.ax_term.specs.declared.range.TermRange.{TermRange}
use Rattle.ax_term.proofs.Cutting.{cutting}
use Rattle.ax_terms.specs.Leaves.{Leaf, leaves}
use Rattle.ax_atoms.specs.Atoms.{Atom, rests_at, rests_on_all}
use Rattle.ax_atoms.specs.Passing.{HasLeaf, IsAtOrBelow}
use Rattle.ax_atoms.specs.Recognised.{compared_with, fits, is_bound, is_single, step_of, turned, where_so}
use Rattle.ax_atoms.specs.Spans.{is_in_some, least_of_kind, next_kind, before, only, ranges_of, up_to}
use Rattle.ax_atoms.proofs.Parts.{scalar_leaf}
use Rattle.ax_atoms.proofs.Between.{IsFit, at_path, in_before, in_only, in_up_to}
use Rattle.ax_atoms.proofs.Values.{Alike, alike, alike_scalar, bound_fits, compared_true, equal_true, ge_le, gt_le, kind_before, kind_from}
use Rattle.ax_atoms.proofs.Values.{kinds_turned, least_fits, lt_le, next_fits}

-- the numbers of all leaves fit
abbrev pub LeavesFit : Tree → Type 0
LeavesFit given = (leaf : Leaf) → Contains (leaves given) leaf → IsFit (cut_of (Defined leaf.tree))

abbrev pub yes_of : Value → Bool
yes_of v = is_yes (truth_of v)

-- ---- a scalar at a path

leaf_there : (given : Tree) (steps : List QueryStep) (v : Tree) → steps_from (Defined given) steps ≡ Defined v
    → is_scalar (Defined v) ≡ true
    → Contains (leaves given) (record { path = map step_of steps; tree = v })
leaf_there given steps v h scalar =
    subst (λ path. Contains (leaves given) (record { path = path; tree = v })) (append-nil (map step_of steps))
    (scalar_leaf steps given v h scalar)

-- one range, in which a term is
abbrev pub term_at : List Step → Value → List ℕ
term_at path v = term_bytes (Term.Plain path (cut_of v))

pub one_range : (range : TermRange) (bytes : List ℕ) → is_in_range range bytes ≡ true
    → is_in_some (range ∷ []) bytes ≡ true
one_range range bytes h = or_left (is_in_range range bytes) false h

-- a condition whose ranges have the term of the scalar at its path
pub by_scalar : (atom : Atom) (given : Tree) (steps : List QueryStep) (v : Value)
    → IsAtOrBelow (rests_on_all atom) (rests_at atom) (map step_of steps)
    → steps_from (Defined given) steps ≡ v → is_scalar v ≡ true
    → (IsFit (cut_of v) → is_in_some (ranges_of atom) (term_at (map step_of steps) v) ≡ true)
    → LeavesFit given → HasLeaf atom given
by_scalar atom given steps Undefined at h scalar there fit = absurd (false≢true scalar)
by_scalar atom given steps (Defined v) at h scalar there fit =
    let is = leaf_there given steps v h scalar in
    record {
      leaf = record { path = map step_of steps; tree = v };
      is = is;
      at = at;
      in_ranges = there (fit (record { path = map step_of steps; tree = v }) is);
    }

-- the term of a value is in the range of that value alone
pub in_own : (path : List Step) (v k : Value) → v ≡ k → is_in_range (only path k) (term_at path v) ≡ true
in_own path v k e =
    subst (λ w. is_in_range (only path k) (term_at path w) ≡ true) (sym e) (in_only (term_at path k))

equals : (given : Tree) (steps : List QueryStep) (v k : Value) → steps_from (Defined given) steps ≡ v
    → v ≡ k → is_scalar k ≡ true → LeavesFit given → HasLeaf (Atom.Equals (map step_of steps) k) given
equals given steps v k h e scalar fit =
    by_scalar (Atom.Equals (map step_of steps) k) given steps v refl h (ap is_scalar e ∙ scalar)
    (λ own. one_range (only (map step_of steps) k) (term_at (map step_of steps) v)
    (in_own (map step_of steps) v k e)) fit

at_most : (given : Tree) (steps : List QueryStep) (v k : Value) → steps_from (Defined given) steps ≡ v
    → Alike v k → is_bound k ≡ true → is_le (value_cmp v k) ≡ true → LeavesFit given
    → HasLeaf (Atom.AtMost (map step_of steps) k) given
at_most given steps v k h like b le fit =
    let p : List Step = map step_of steps in
    by_scalar (Atom.AtMost p k) given steps v refl h (alike_scalar v k like)
    (λ own. one_range (up_to (Term.Plain p (least_of_kind (cut_of k))) (Term.Plain p (cut_of k))) (term_at p v)
    (in_up_to (term_bytes (Term.Plain p (least_of_kind (cut_of k)))) (term_at p k) (term_at p v)
    (ap is_le (at_path p (least_of_kind (cut_of k)) (cut_of v) (least_fits v k like) own)
    ∙ kind_from v k like own)
    (ap is_le (at_path p (cut_of v) (cut_of k) own (bound_fits v k like b)) ∙ cutting v k le))) fit

at_least : (given : Tree) (steps : List QueryStep) (v k : Value) → steps_from (Defined given) steps ≡ v
    → Alike v k → is_bound k ≡ true → is_le (value_cmp k v) ≡ true → LeavesFit given
    → HasLeaf (Atom.AtLeast (map step_of steps) k) given
at_least given steps v k h like b le fit =
    let p : List Step = map step_of steps in
    by_scalar (Atom.AtLeast p k) given steps v refl h (alike_scalar v k like)
    (λ own. one_range (before (Term.Plain p (cut_of k)) (Term.Plain p (next_kind (cut_of k)))) (term_at p v)
    (in_before (term_at p k) (term_bytes (Term.Plain p (next_kind (cut_of k)))) (term_at p v)
    (ap is_le (at_path p (cut_of k) (cut_of v) (bound_fits v k like b) own) ∙ cutting k v le)
    (ap is_lt (at_path p (cut_of v) (next_kind (cut_of k)) own (next_fits v k like))
    ∙ kind_before v k like))) fit

pub within : (given : Tree) (steps : List QueryStep) (v k m : Value) → steps_from (Defined given) steps ≡ v
    → Alike v k → Alike v m → is_bound k ≡ true → is_bound m ≡ true → is_le (value_cmp k v) ≡ true
    → is_le (value_cmp v m) ≡ true → LeavesFit given
    → HasLeaf (Atom.Within (map step_of steps) k m) given
within given steps v k m h like too b c low high fit =
    let p : List Step = map step_of steps in
    by_scalar (Atom.Within p k m) given steps v refl h (alike_scalar v k like)
    (λ own. one_range (up_to (Term.Plain p (cut_of k)) (Term.Plain p (cut_of m))) (term_at p v)
    (in_up_to (term_at p k) (term_at p m) (term_at p v)
    (ap is_le (at_path p (cut_of k) (cut_of v) (bound_fits v k like b) own) ∙ cutting k v low)
    (ap is_le (at_path p (cut_of v) (cut_of m) own (bound_fits v m too c)) ∙ cutting v m high))) fit

-- ---- comparisons

pub where_is_so : (b : Bool) (given atom : Atom) → where_so b given ≡ Some atom → (b ≡ true) × (given ≡ atom)
where_is_so true given atom h = (refl, same_Some given atom h)
where_is_so false given atom h = absurd (none-some atom h)

pub no_atom : {A : Type 0} (atom : Atom) → None ≡ Some atom → A
no_atom atom h = absurd (none-some atom h)

pub single_scalar : (k : Value) → is_single k ≡ true → is_scalar k ≡ true
single_scalar k h = (and_parts (is_scalar k) (fits k) h).0

abbrev pub Found : Tree → Atom → Type 0
Found given atom = LeavesFit given → HasLeaf atom given

-- the condition is found where its constant fits
fitting : (b : Bool) (own atom : Atom) (given : Tree) → where_so b own ≡ Some atom
    → (b ≡ true → Found given own) → Found given atom
fitting b own atom given h found =
    let p = where_is_so b own atom h in subst (Found given) p.1 (found p.0)

le_side : (given : Tree) (steps : List QueryStep) (v k : Value) → steps_from (Defined given) steps ≡ v
    → are_of_one_kind v k ≡ true → is_le (value_cmp v k) ≡ true → is_bound k ≡ true
    → Found given (Atom.AtMost (map step_of steps) k)
le_side given steps v k h kinds le b = at_most given steps v k h (alike v k kinds b) b le

ge_side : (given : Tree) (steps : List QueryStep) (v k : Value) → steps_from (Defined given) steps ≡ v
    → are_of_one_kind v k ≡ true → is_le (value_cmp k v) ≡ true → is_bound k ≡ true
    → Found given (Atom.AtLeast (map step_of steps) k)
ge_side given steps v k h kinds le b = at_least given steps v k h (alike v k kinds b) b le

module _ (given : Tree) (steps : List QueryStep) (v k : Value) (h : steps_from (Defined given) steps ≡ v) (atom : Atom) where
  abbrev p : List Step
  p = map step_of steps

  pub compared_with_found : (operator : BinaryOp) → compared_with operator p k ≡ Some atom
      → yes_of (binary operator v k) ≡ true → Found given atom
  compared_with_found op.Equal s t =
      fitting (is_single k) (Atom.Equals p k) atom given s
      (λ b. equals given steps v k h (equal_true v k t) (single_scalar k b))
  compared_with_found op.Less s t =
      let c = compared_true is_lt v k t in
      fitting (is_bound k) (Atom.AtMost p k) atom given s
      (le_side given steps v k h c.0 (lt_le (value_cmp v k) c.2))
  compared_with_found op.LessEqual s t =
      let c = compared_true is_le v k t in
      fitting (is_bound k) (Atom.AtMost p k) atom given s (le_side given steps v k h c.0 c.2)
  compared_with_found op.Greater s t =
      let c = compared_true is_gt v k t in
      fitting (is_bound k) (Atom.AtLeast p k) atom given s
      (ge_side given steps v k h c.0 (gt_le v k c.2))
  compared_with_found op.GreaterEqual s t =
      let c = compared_true is_ge v k t in
      fitting (is_bound k) (Atom.AtLeast p k) atom given s
      (ge_side given steps v k h c.0 (ge_le v k c.2))
  compared_with_found _ s t = no_atom atom s

  pub turned_found : (operator : BinaryOp) → compared_with (turned operator) p k ≡ Some atom
      → yes_of (binary operator k v) ≡ true → Found given atom
  turned_found op.Equal s t =
      fitting (is_single k) (Atom.Equals p k) atom given s
      (λ b. equals given steps v k h (sym (equal_true k v t)) (single_scalar k b))
  turned_found op.Less s t =
      let c = compared_true is_lt k v t in
      fitting (is_bound k) (Atom.AtLeast p k) atom given s
      (ge_side given steps v k h (kinds_turned k v c.0 c.1) (lt_le (value_cmp k v) c.2))
  turned_found op.LessEqual s t =
      let c = compared_true is_le k v t in
      fitting (is_bound k) (Atom.AtLeast p k) atom given s
      (ge_side given steps v k h (kinds_turned k v c.0 c.1) c.2)
  turned_found op.Greater s t =
      let c = compared_true is_gt k v t in
      fitting (is_bound k) (Atom.AtMost p k) atom given s
      (le_side given steps v k h (kinds_turned k v c.0 c.1) (gt_le k v c.2))
  turned_found op.GreaterEqual s t =
      let c = compared_true is_ge k v t in
      fitting (is_bound k) (Atom.AtMost p k) atom given s
      (le_side given steps v k h (kinds_turned k v c.0 c.1) (ge_le k v c.2))
  turned_found _ s t = no_atom atom s

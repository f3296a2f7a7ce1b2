-- The values of one kind: what is between the least of a kind and a bound, and between a bound and what is
-- behind the kind.
use Rattle.std.proofs.Common.{◌≡◌, ℕ, ℤ, ◌==◌, List, [], ◌∷◌, Bool, true, false, ◌&&◌, nat_le, refl, sym, ap, ◌∙◌}
use Rattle.std.proofs.lemmas.Bool.{false≢true, and_parts}
use Rattle.std.specs.Ordering.{bool_cmp, is_le, is_lt, ordering_then}
use Rattle.ax_tree.specs.WellFormed.{is_of_64_bits}
use Rattle.ax_tree.specs.declared.tree.Tree.{Tree, out-Tree}
use Rattle.ax_tree.specs.declared.tree.Tree.TheOpen.{Tree-F}
use Rattle.ax_mean.specs.declared.value.Value.{Value}
use Rattle.ax_mean.specs.declared.value.Value.TheVariants.{Undefined, Defined}
use Rattle.ax_mean.specs.Comparison.{is_scalar}
use Rattle.ax_mean.specs.Values.{kind_level}
use Rattle.ax_term.specs.CutTexts.{CutText, cut}
use Rattle.ax_term.specs.CutValues.{CutValue, cut_level, cut_of}
use Rattle.ax_term.specs.TermOrder.{order_of_bytes, order_of_texts, order_of_values, rank}
use Rattle.ax_atoms.specs.Recognised.{fits, fits_level, is_bound, is_single}
use Rattle.ax_atoms.specs.Spans.{least_of_kind, next_kind, no_bytes}
use Rattle.ax_atoms.proofs.Between.{IsFit, least_front}
use Rattle.ax_atoms.proofs.Values.{least_number}

-- a number of 64 bits, or a text
pub data IsBoundCut : CutValue → Type 0 where
  number : (n : ℤ) → is_of_64_bits n ≡ true → IsBoundCut (CutValue.Number n)
  text : (t : CutText) → IsBoundCut (CutValue.Text t)

bound_level : (t : Tree) (x : Tree-F Tree)
    → (nat_le 3 (kind_level x) && nat_le (kind_level x) 4 && fits_level x) ≡ true → IsBoundCut (cut_level t x)
bound_level t (Tree-F.Number n) h = number n h
bound_level t (Tree-F.Text s) h = text (cut s)
bound_level t x h = absurd (false≢true h)

pub bound_cut : (k : Value) → is_bound k ≡ true → IsBoundCut (cut_of k)
bound_cut Undefined h = absurd (false≢true h)
bound_cut (Defined t) h = bound_level t (out-Tree t) h

-- a constant alone fits
fit_level : (t : Tree) (x : Tree-F Tree) → fits_level x ≡ true → IsFit (cut_level t x)
fit_level t (Tree-F.Number n) h = h
fit_level t Tree-F.Null h = tt
fit_level t (Tree-F.Truth true) h = tt
fit_level t (Tree-F.Truth false) h = tt
fit_level t (Tree-F.Text s) h = tt
fit_level t (Tree-F.List items) h = tt
fit_level t (Tree-F.Object members) h = tt

fit_value : (k : Value) → fits k ≡ true → IsFit (cut_of k)
fit_value Undefined h = tt
fit_value (Defined t) h = fit_level t (out-Tree t) h

pub single_fit : (k : Value) → is_single k ≡ true → IsFit (cut_of k)
single_fit k h = fit_value k (and_parts (is_scalar k) (fits k) h).1

pub bound_fit : (c : CutValue) → IsBoundCut c → IsFit c
bound_fit _ (number n f) = f
bound_fit _ (text t) = tt

pub least_fit : (c : CutValue) → IsBoundCut c → IsFit (least_of_kind c)
least_fit _ (number n f) = refl
least_fit _ (text t) = tt

pub next_fit : (c : CutValue) → IsBoundCut c → IsFit (next_kind c)
next_fit _ (number n f) = tt
next_fit _ (text t) = tt

-- ---- up to a bound

pub kind_up_to : (c v : CutValue) → IsBoundCut c → is_le (order_of_values (least_of_kind c) v) ≡ true
    → is_le (order_of_values v c) ≡ true → rank v ≡ rank c
kind_up_to _ CutValue.Undefined (number n f) h k = absurd (false≢true h)
kind_up_to _ CutValue.Null (number n f) h k = absurd (false≢true h)
kind_up_to _ CutValue.False (number n f) h k = absurd (false≢true h)
kind_up_to _ CutValue.True (number n f) h k = absurd (false≢true h)
kind_up_to _ (CutValue.Number m) (number n f) h k = refl
kind_up_to _ (CutValue.Text s) (number n f) h k = absurd (false≢true k)
kind_up_to _ (CutValue.List s) (number n f) h k = absurd (false≢true k)
kind_up_to _ (CutValue.Object s) (number n f) h k = absurd (false≢true k)
kind_up_to _ CutValue.Undefined (text t) h k = absurd (false≢true h)
kind_up_to _ CutValue.Null (text t) h k = absurd (false≢true h)
kind_up_to _ CutValue.False (text t) h k = absurd (false≢true h)
kind_up_to _ CutValue.True (text t) h k = absurd (false≢true h)
kind_up_to _ (CutValue.Number m) (text t) h k = absurd (false≢true h)
kind_up_to _ (CutValue.Text s) (text t) h k = refl
kind_up_to _ (CutValue.List s) (text t) h k = absurd (false≢true k)
kind_up_to _ (CutValue.Object s) (text t) h k = absurd (false≢true k)

pub from_least : (c v : CutValue) → IsBoundCut c → IsFit v → rank v ≡ rank c
    → is_le (order_of_values (least_of_kind c) v) ≡ true
from_least _ CutValue.Undefined (number n f) fit h = absurd (false≢true (ap (λ r. r == 4) h))
from_least _ CutValue.Null (number n f) fit h = absurd (false≢true (ap (λ r. r == 4) h))
from_least _ CutValue.False (number n f) fit h = absurd (false≢true (ap (λ r. r == 4) h))
from_least _ CutValue.True (number n f) fit h = absurd (false≢true (ap (λ r. r == 4) h))
from_least _ (CutValue.Number m) (number n f) fit h = least_number m fit
from_least _ (CutValue.Text s) (number n f) fit h = refl
from_least _ (CutValue.List s) (number n f) fit h = refl
from_least _ (CutValue.Object s) (number n f) fit h = refl
from_least _ CutValue.Undefined (text t) fit h = absurd (false≢true (ap (λ r. r == 5) h))
from_least _ CutValue.Null (text t) fit h = absurd (false≢true (ap (λ r. r == 5) h))
from_least _ CutValue.False (text t) fit h = absurd (false≢true (ap (λ r. r == 5) h))
from_least _ CutValue.True (text t) fit h = absurd (false≢true (ap (λ r. r == 5) h))
from_least _ (CutValue.Number m) (text t) fit h = absurd (false≢true (ap (λ r. r == 5) h))
from_least _ (CutValue.Text s) (text t) fit h = least_front s.front s.is_cut
from_least _ (CutValue.List s) (text t) fit h = refl
from_least _ (CutValue.Object s) (text t) fit h = refl

-- ---- from a bound on

least_text : (front : List ℕ) (c : Bool) → is_lt (ordering_then (order_of_bytes front []) (bool_cmp c false)) ≡ false
least_text [] true = refl
least_text [] false = refl
least_text (x ∷ front) c = refl

-- no text is before the empty one
pub none_before_least : {A : Type 0} (t : CutText) → is_lt (order_of_texts t no_bytes) ≡ true → A
none_before_least t h = absurd (false≢true (sym (least_text t.front t.is_cut) ∙ h))

pub kind_before_next : (c v : CutValue) → IsBoundCut c → is_le (order_of_values c v) ≡ true
    → is_lt (order_of_values v (next_kind c)) ≡ true → rank v ≡ rank c
kind_before_next _ CutValue.Undefined (number n f) h k = absurd (false≢true h)
kind_before_next _ CutValue.Null (number n f) h k = absurd (false≢true h)
kind_before_next _ CutValue.False (number n f) h k = absurd (false≢true h)
kind_before_next _ CutValue.True (number n f) h k = absurd (false≢true h)
kind_before_next _ (CutValue.Number m) (number n f) h k = refl
kind_before_next _ (CutValue.Text s) (number n f) h k = none_before_least s k
kind_before_next _ (CutValue.List s) (number n f) h k = absurd (false≢true k)
kind_before_next _ (CutValue.Object s) (number n f) h k = absurd (false≢true k)
kind_before_next _ CutValue.Undefined (text t) h k = absurd (false≢true h)
kind_before_next _ CutValue.Null (text t) h k = absurd (false≢true h)
kind_before_next _ CutValue.False (text t) h k = absurd (false≢true h)
kind_before_next _ CutValue.True (text t) h k = absurd (false≢true h)
kind_before_next _ (CutValue.Number m) (text t) h k = absurd (false≢true h)
kind_before_next _ (CutValue.Text s) (text t) h k = refl
kind_before_next _ (CutValue.List s) (text t) h k = none_before_least s k
kind_before_next _ (CutValue.Object s) (text t) h k = absurd (false≢true k)

pub before_next : (c v : CutValue) → IsBoundCut c → rank v ≡ rank c
    → is_lt (order_of_values v (next_kind c)) ≡ true
before_next _ CutValue.Undefined (number n f) h = refl
before_next _ CutValue.Null (number n f) h = refl
before_next _ CutValue.False (number n f) h = refl
before_next _ CutValue.True (number n f) h = refl
before_next _ (CutValue.Number m) (number n f) h = refl
before_next _ (CutValue.Text s) (number n f) h = absurd (false≢true (ap (λ r. r == 4) h))
before_next _ (CutValue.List s) (number n f) h = absurd (false≢true (ap (λ r. r == 4) h))
before_next _ (CutValue.Object s) (number n f) h = absurd (false≢true (ap (λ r. r == 4) h))
before_next _ CutValue.Undefined (text t) h = refl
before_next _ CutValue.Null (text t) h = refl
before_next _ CutValue.False (text t) h = refl
before_next _ CutValue.True (text t) h = refl
before_next _ (CutValue.Number m) (text t) h = refl
before_next _ (CutValue.Text s) (text t) h = refl
before_next _ (CutValue.List s) (text t) h = absurd (false≢true (ap (λ r. r == 5) h))
before_next _ (CutValue.Object s) (text t) h = absurd (false≢true (ap (λ r. r == 5) h))

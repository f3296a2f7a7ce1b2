-- Values of one kind are the same where they are equal, and others only where both are undefined.
use Rattle.std.proofs.Common.{◌≡◌, ℕ, Bool, true, false, ◌==◌, Some, None, refl, sym, ap, ◌∙◌, if◌then◌else◌}
use Rattle.std.proofs.lemmas.Bool.{false≢true}
use Rattle.std.proofs.lemmas.Bool.Decides.{Decides-eqb}
use Rattle.ax_tree.specs.declared.tree.Tree.{Tree}
use Rattle.ax_mean.proofs.SameTrees.{same_trees}
use Rattle.ax_mean.specs.Comparison.{equality, is_same_value}
use Rattle.ax_mean.specs.Sameness.{is_same}
use Rattle.ax_mean.specs.Values.{kind, are_of_one_kind}
use Rattle.ax_mean.specs.declared.value.Value.{Value}
use Rattle.ax_mean.specs.declared.value.Value.TheVariants.{Undefined, Defined}
use Rattle.ax_scope.specs.SameOrBoth.{same_or_both}

itself : (n : ℕ) → (n == n) ≡ true
itself n = (Decides-eqb n n).1 refl

differ : (a b : Tree) (s : Bool) → is_same a b ≡ s
    → are_of_one_kind (Defined a) (Defined b) ≡ false → s ≡ false
differ a b false e h = refl
differ a b true e h =
    absurd
    (false≢true
    (sym h ∙ ap (λ t. are_of_one_kind (Defined a) (Defined t)) (sym (same_trees a b e))
    ∙ itself (kind (Defined a))))

by_kind : (a b : Tree) (t : Bool) → are_of_one_kind (Defined a) (Defined b) ≡ t
    → is_same a b
    ≡ same_or_both (Defined a) (Defined b) (if t then Some (is_same a b) else None)
by_kind a b true h = refl
by_kind a b false h = differ a b (is_same a b) refl h

one_undefined : (a : Tree) (t : Bool)
    → false ≡ same_or_both (Defined a) Undefined (if t then Some false else None)
one_undefined a true = refl
one_undefined a false = refl

pub equal_or_both : (a b : Value) → is_same_value a b ≡ same_or_both a b (equality a b)
equal_or_both Undefined Undefined = refl
equal_or_both Undefined (Defined b) = refl
equal_or_both (Defined a) Undefined = one_undefined a _
equal_or_both (Defined a) (Defined b) = by_kind a b _ refl

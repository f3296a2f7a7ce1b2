-- What the order of a scalar and a literal tells of their comparisons.
use Rattle.std.proofs.Common.{◌≡◌, ℕ, ℤ, List, Bool, true, false, cond, Option, Some, None, refl, sym, ap, ap₂, ◌∙◌, subst, rules}
use Rattle.std.proofs.lemmas.Bool.{true≢false}
use Rattle.std.specs.Bool.{beq}
use Rattle.std.specs.Str.{bytes_eq}
use Rattle.std.specs.declared.cmp.Ordering.{Ordering}
use Rattle.std.specs.declared.cmp.Ordering.TheVariants.{Less, Equal, Greater}
use Rattle.std.proofs.lemmas.Map.Text.{is_eq-slice_cmp}
use Rattle.std.specs.Ordering.{is_eq, ordering_then, int_eq, int_cmp}
use Rattle.ax_tree.specs.declared.tree.Tree as tree
use Rattle.ax_tree.specs.declared.tree.Tree.{Tree}
use Rattle.ax_tree.specs.declared.tree.Tree.TheOpen.{Tree-F}
use Rattle.ax_tree.specs.declared.tree.Tree.TheViews.{roll-Tree}
use Rattle.ax_tree.specs.declared.tree.Tree.TheFolds.{ind-Tree}
use Rattle.ax_tree.specs.declared.tree.Tree.TheVariants.{rolls-Null, rolls-Truth, rolls-Number, rolls-Text, rolls-List, rolls-Object}
use Rattle.ax_mean.specs.declared.expr.Expr as expr
use Rattle.ax_mean.specs.declared.expr.Expr.{Expr}
use Rattle.ax_mean.specs.declared.expr.QueryStep.{QueryStep}
use Rattle.ax_mean.specs.declared.operator.BinaryOp.{BinaryOp}
use Rattle.ax_mean.specs.declared.operator.BinaryOp.TheVariants as op
use Rattle.ax_mean.specs.declared.value.Value.{Value}
use Rattle.ax_mean.specs.declared.value.Value.TheVariants.{Undefined, Defined}
use Rattle.ax_mean.specs.Comparison.{comparison, equality}
use Rattle.ax_mean.specs.Meaning.{Env, is_yes, meaning}
use Rattle.ax_mean.specs.Operators.{binary}
use Rattle.ax_mean.specs.Sameness.{is_same}
use Rattle.ax_mean.specs.ValueOrder.{value_cmp}
use Rattle.ax_mean.specs.Steps.{steps_from}
use Rattle.ax_mean.specs.Values.{truth_of, of_truth}
use Rattle.ax_sieve.specs.declared.literal.Literal.{Literal}
use Rattle.ax_skim.specs.declared.scalar.Scalar.TheVariants as scalar
use Rattle.ax_sieve.specs.declared.found.Found.{Found}
use Rattle.ax_sieve.specs.declared.found.Found.TheVariants as found
use Rattle.ax_sieve.specs.Comparing.{scalar_order, passes, is_met}
use Rattle.ax_sieve.specs.Literals.{literal_value}
use Rattle.ax_sieve.specs.Operands.{StandsFor}
use Rattle.ax_sieve.specs.FoundValues.{value_of}

then_same : (o : Ordering) → ordering_then o Equal ≡ o
then_same Less = refl
then_same Equal = refl
then_same Greater = refl

pub numbers_ordered : (s : Found) (a b : ℤ) (o : Ordering) → s ≡ found.Scalar (scalar.Number a) → o ≡ int_cmp a b
    → Some o ≡ scalar_order (value_of s) (Defined (tree.Number b))
unfolding tree.out-Tree denote.Hole.Carrier.out
numbers_ordered s a b o is told =
    ap Some (told ∙ sym (then_same (int_cmp a b)))
    ∙ ap (λ t. scalar_order (value_of t) (Defined (tree.Number b))) (sym is)

pub of_two_kinds : (s : Found) (n : ℤ) → ((m : ℤ) → s ≡ found.Scalar (scalar.Number m) → ⊥)
    → None ≡ scalar_order (value_of s) (Defined (tree.Number n))
unfolding tree.out-Tree denote.Hole.Carrier.out
of_two_kinds (found.Scalar (scalar.Number m)) n apart = absurd (apart m refl)
of_two_kinds found.Undefined n apart = refl
of_two_kinds (found.Scalar scalar.Null) n apart = refl
of_two_kinds (found.Scalar (scalar.Truth b)) n apart = refl
of_two_kinds (found.Scalar (scalar.Text text)) n apart = refl

compare_means : (env : Env) (op : BinaryOp) (left right : Expr)
    → meaning env (expr.Compare op left right) ≡ binary op (meaning env left) (meaning env right)
compare_means env op left right = search (rules, expr.the_lemmas)

pub steps_compared : (alias : List ℕ) (steps : List QueryStep) (op : BinaryOp) (x left right : Expr)
    (b : Literal) → x ≡ expr.Compare op left right
    → ((env : Env) (tree : Tree) → StandsFor env alias tree → meaning env left ≡ steps_from (Defined tree) steps)
    → ((env : Env) → meaning env right ≡ literal_value b)
    → (env : Env) (tree : Tree) → StandsFor env alias tree
    → meaning env x ≡ binary op (steps_from (Defined tree) steps) (literal_value b)
steps_compared alias steps op x left right b is first second env tree stands =
    ap (meaning env) is ∙ compare_means env op left right
    ∙ ap₂ (binary op) (first env tree stands) (second env)

truth_again : (t : Option Bool) → truth_of (of_truth t) ≡ t
unfolding tree.out-Tree denote.Hole.Carrier.out
truth_again None = refl
truth_again (Some b) = refl

order_tested : (test : Ordering → Bool) (both : Bool) (order : Ordering)
    → is_yes (cond both (Some (test order)) None) ≡ passes test (cond both (Some order) None)
order_tested test true order = refl
order_tested test false order = refl

compared : (test : Ordering → Bool) (a b : Value)
    → is_yes (truth_of (of_truth (comparison test a b))) ≡ passes test (scalar_order a b)
compared test a b =
    ap is_yes (truth_again (comparison test a b)) ∙ order_tested test _ (value_cmp a b)

abbrev IsTold : Found → Value → Type 0
IsTold s b = is_yes (equality (value_of s) b) ≡ passes is_eq (scalar_order (value_of s) b)

-- the tree of a level
abbrev tree_at : Tree-F Tree → Tree
tree_at Tree-F.Null = tree.Null
tree_at (Tree-F.Truth b) = tree.Truth b
tree_at (Tree-F.Number n) = tree.Number n
tree_at (Tree-F.Text text) = tree.Text text
tree_at (Tree-F.List items) = tree.List items
tree_at (Tree-F.Object members) = tree.Object members

rolls : (x : Tree-F Tree) → tree_at x ≡ roll-Tree x
rolls Tree-F.Null = sym rolls-Null
rolls (Tree-F.Truth b) = sym (rolls-Truth b)
rolls (Tree-F.Number n) = sym (rolls-Number n)
rolls (Tree-F.Text text) = sym (rolls-Text text)
rolls (Tree-F.List items) = sym (rolls-List items)
rolls (Tree-F.Object members) = sym (rolls-Object members)

same_nulls : is_same tree.Null tree.Null ≡ true
same_nulls = search (rules, tree.the_lemmas)

same_truths : (a b : Bool) → is_same (tree.Truth a) (tree.Truth b) ≡ beq a b
same_truths a b = search (rules, tree.the_lemmas)

same_numbers : (a b : ℤ) → is_same (tree.Number a) (tree.Number b) ≡ int_eq a b
same_numbers a b = search (rules, tree.the_lemmas)

same_texts : (a b : List ℕ) → is_same (tree.Text a) (tree.Text b) ≡ bytes_eq a b
same_texts a b = search (rules, tree.the_lemmas)

equal_truths : (a b : Bool) → IsTold (found.Scalar (scalar.Truth a)) (Defined (tree.Truth b))
unfolding tree.out-Tree denote.Hole.Carrier.out
equal_truths true true = same_truths true true
equal_truths true false = same_truths true false
equal_truths false true = same_truths false true
equal_truths false false = same_truths false false

then_equal : (o : Ordering) → is_eq o ≡ is_eq (ordering_then o Equal)
then_equal o = ap is_eq (sym (then_same o))

equal_at : (s : Found) (x : Tree-F Tree) → IsTold s (Defined (tree_at x))
unfolding tree.out-Tree denote.Hole.Carrier.out
equal_at (found.Scalar scalar.Null) Tree-F.Null = same_nulls
equal_at (found.Scalar (scalar.Truth a)) (Tree-F.Truth b) = equal_truths a b
equal_at (found.Scalar (scalar.Number a)) (Tree-F.Number b) = same_numbers a b ∙ then_equal (int_cmp a b)
equal_at (found.Scalar (scalar.Text a)) (Tree-F.Text b) = same_texts a.now b ∙ sym (is_eq-slice_cmp a.now b)
equal_at _ _ = refl

equal_undefined : (s : Found) → IsTold s Undefined
unfolding tree.out-Tree denote.Hole.Carrier.out
equal_undefined found.Undefined = refl
equal_undefined (found.Scalar scalar.Null) = refl
equal_undefined (found.Scalar (scalar.Truth a)) = refl
equal_undefined (found.Scalar (scalar.Number a)) = refl
equal_undefined (found.Scalar (scalar.Text a)) = refl

equal : (s : Found) (b : Value) → IsTold s b
equal s Undefined = equal_undefined s
equal s (Defined t) =
    ind-Tree (λ t. IsTold s (Defined t))
    (λ x y is. subst (λ t. IsTold s (Defined t)) (rolls x) (equal_at s x)) t

pub not_met : (op : BinaryOp) (s : Found) (b : Value)
    → is_met op (scalar_order (value_of s) b) ≡ false
    → is_yes (truth_of (binary op (value_of s) b)) ≡ false
not_met op.Equal s b h =
    ap is_yes (truth_again (equality (value_of s) b)) ∙ equal s b ∙ h
not_met op.NotEqual s b h = compared _ (value_of s) b ∙ h
not_met op.Less s b h = compared _ (value_of s) b ∙ h
not_met op.LessEqual s b h = compared _ (value_of s) b ∙ h
not_met op.Greater s b h = compared _ (value_of s) b ∙ h
not_met op.GreaterEqual s b h = compared _ (value_of s) b ∙ h
not_met op.Add s b h = absurd (true≢false h)
not_met op.Subtract s b h = absurd (true≢false h)
not_met op.Multiply s b h = absurd (true≢false h)
not_met op.Divide s b h = absurd (true≢false h)
not_met op.Remainder s b h = absurd (true≢false h)
not_met op.Join s b h = absurd (true≢false h)
not_met op.And s b h = absurd (true≢false h)
not_met op.Or s b h = absurd (true≢false h)
not_met op.Coalesce s b h = absurd (true≢false h)
not_met op.Like s b h = absurd (true≢false h)

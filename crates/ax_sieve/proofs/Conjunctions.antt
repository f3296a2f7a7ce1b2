-- An AND is true only where each of its operands is, and not where a condition that one of them is fails.
use Rattle.std.proofs.Common.{◌≡◌, ℕ, ◌<◌, List, [], ◌∷◌, ◌++◌, length, get_or, map, Bool, true, false, not, ◌||◌, Option, Some, None, ⊎_elim, refl, sym, ap, ◌∙◌, rules}
use Rattle.std.specs.List.{list_any}
use Rattle.std.proofs.lemmas.Bool.{and_from, or_cases, false≢true, not-true}
use Rattle.std.proofs.lemmas.List.Folds.{list_any-append, list_all_at}
use Rattle.ax_tree.specs.declared.tree.Tree as tree
use Rattle.ax_tree.specs.declared.tree.Tree.{Tree}
use Rattle.ax_mean.specs.declared.expr.Expr as expr
use Rattle.ax_mean.specs.declared.expr.Expr.{Expr}
use Rattle.ax_mean.specs.declared.value.Value.{Value}
use Rattle.ax_mean.specs.Logic.{and_of}
use Rattle.ax_mean.specs.Meaning.{Env, along, chain, is_yes, meaning}
use Rattle.ax_mean.specs.Operators.{conjunction}
use Rattle.ax_mean.specs.Values.{truth_of, of_truth}
use Rattle.ax_sieve.specs.declared.condition.Condition.{Condition}
use Rattle.ax_sieve.specs.Conditions.{holds, one_fails, value}
use Rattle.ax_sieve.specs.Operands.{StandsFor, are_true, is_true}

truth_again : (t : Option Bool) → truth_of (of_truth t) ≡ t
unfolding tree.out-Tree denote.Hole.Carrier.out
truth_again None = refl
truth_again (Some b) = refl

both_yes : (a b : Option Bool) → is_yes (and_of a b) ≡ true → (is_yes a ≡ true) × (is_yes b ≡ true)
both_yes (Some true) (Some true) h = (refl, refl)
both_yes (Some true) (Some false) h = absurd (false≢true h)
both_yes (Some true) None h = absurd (false≢true h)
both_yes (Some false) b h = absurd (false≢true h)
both_yes None (Some true) h = absurd (false≢true h)
both_yes None (Some false) h = absurd (false≢true h)
both_yes None None h = absurd (false≢true h)

operands_yes : (env : Env) (first : Value) (xs : List Expr)
    → is_yes (truth_of (along conjunction first (map (meaning env) xs))) ≡ true
    → (is_yes (truth_of first) ≡ true) × (are_true env xs ≡ true)
operands_yes env first [] h = (h, refl)
operands_yes env first (x ∷ xs) h =
    let rest = operands_yes env (conjunction first (meaning env x)) xs h in
    let two = both_yes (truth_of first) (truth_of (meaning env x))
    (ap is_yes (sym (truth_again (and_of (truth_of first) (truth_of (meaning env x))))) ∙ rest.0) in
    (two.0, and_from _ _ two.1 rest.1)

chain_yes : (env : Env) (xs : List Expr)
    → is_yes (truth_of (chain conjunction (map (meaning env) xs))) ≡ true → are_true env xs ≡ true
chain_yes env [] h = refl
chain_yes env (x ∷ xs) h =
    let all = operands_yes env (meaning env x) xs h in and_from _ _ all.0 all.1

and_means : (env : Env) (xs : List Expr)
    → meaning env (expr.And xs) ≡ chain conjunction (map (meaning env) xs)
and_means env xs = search (rules, expr.the_lemmas)

pub and_is_true : (env : Env) (xs : List Expr) → is_true env (expr.And xs) ≡ true
    → are_true env xs ≡ true
and_is_true env xs h = chain_yes env xs (ap (λ v. is_yes (truth_of v)) (sym (and_means env xs)) ∙ h)

-- where a condition is what an expression is, and fails, the expression is not true
not_true : (env : Env) (tree : Tree) (x : Expr) (c : Condition)
    → meaning env x ≡ value c tree → not (holds c tree) ≡ true → is_true env x ≡ false
not_true env tree x c is fails = ap (λ v. is_yes (truth_of v)) is ∙ not-true (holds c tree) fails

-- where a condition fails and the alias stands for the document, one of the expressions is not true
abbrev pub Tells : List ℕ → List Expr → List Condition → Type 0
Tells alias xs cs =
    (env : Env) (tree : Tree) → StandsFor env alias tree → one_fails cs tree ≡ true
    → are_true env xs ≡ false

-- one condition more, that of one of the expressions
pub one_more : (alias : List ℕ) (xs : List Expr) (i : ℕ) (x : Expr) (cs : List Condition) (c : Condition)
    → Tells alias xs cs
    → ((env : Env) (tree : Tree) → StandsFor env alias tree → meaning env x ≡ value c tree)
    → i < length xs → x ≡ get_or xs i x → Tells alias xs (cs ++ c ∷ [])
one_more alias xs i x cs c before is within at env tree stands h =
    let fails : Condition → Bool = λ c. not (holds c tree) in
    let two = or_cases (list_any fails cs) _ (sym (list_any-append fails cs (c ∷ [])) ∙ h) in
    let P : Type 0 = are_true env xs ≡ false in
    ⊎_elim {C = P} (before env tree stands)
    (λ (last : (fails c || false) ≡ true). ⊎_elim {C = P}
    (λ (e : fails c ≡ true). list_all_at (is_true env) xs i x within
    (ap (is_true env) (sym at) ∙ not_true env tree x c (is env tree stands) e))
    (λ (e : false ≡ true). absurd (false≢true e))
    (or_cases (fails c) false last))
    two

-- the same of equal conditions
pub along_items : (alias : List ℕ) (xs : List Expr) (new old : List Condition) → new ≡ old
    → Tells alias xs old → Tells alias xs new
along_items alias xs new old e before env tree stands h =
    before env tree stands (ap (λ cs. one_fails cs tree) (sym e) ∙ h)

-- A condition is true exactly where each of its operands is.
use Rattle.std.proofs.Common.{◌≡◌, List, [], ◌∷◌, ◌++◌, map, Bool, true, false, ◌&&◌, Option, Some, None, refl, sym, ap, ap₂, ◌∙◌, subst}
use Rattle.std.proofs.lemmas.List.Folds.{list_all-append}
use Rattle.std.specs.List.{flat_map}
use Rattle.ax_tree.specs.declared.tree.Tree as tree
use Rattle.ax_mean.specs.declared.expr.Expr.{Expr}
use Rattle.ax_mean.specs.declared.expr.Expr.TheOpen.{Expr-F}
use Rattle.ax_mean.specs.declared.expr.Expr.TheViews.{roll-Expr}
use Rattle.ax_mean.specs.declared.expr.Expr.TheFolds.{map-Expr, ind-Expr}
use Rattle.ax_mean.specs.declared.value.Value.{Value}
use Rattle.ax_mean.specs.Logic.{and_of}
use Rattle.ax_mean.specs.Meaning.{Env, along, is_yes, meaning}
use Rattle.ax_mean.specs.Operators.{conjunction}
use Rattle.ax_mean.specs.Values.{truth_of, of_truth}
use Rattle.ax_result.specs.Totals.{as_it_is, pair_by}
use Rattle.ax_result.proofs.Wholes.{as_is, comes_to}
use Rattle.ax_atoms.proofs.Constants.{meaning-roll}
use Rattle.ax_atoms.specs.Operands.{operands, operands_level}
use Rattle.ax_atoms.specs.Passing.{is_true, are_true}

pub truth_again : (t : Option Bool) → truth_of (of_truth t) ≡ t
unfolding tree.out-Tree denote.Hole.Carrier.out
truth_again None = refl
truth_again (Some b) = refl

and_yes : (a : Bool) → (a && true) ≡ a
and_yes true = refl
and_yes false = refl

and_and : (a b c : Bool) → ((a && b) && c) ≡ (a && (b && c))
and_and true b c = refl
and_and false b c = refl

pub both_yes : (a b : Option Bool) → is_yes (and_of a b) ≡ (is_yes a && is_yes b)
both_yes (Some true) b = refl
both_yes (Some false) b = refl
both_yes None (Some true) = refl
both_yes None (Some false) = refl
both_yes None None = refl

pub conjunction_yes : (a b : Value)
    → is_yes (truth_of (conjunction a b)) ≡ (is_yes (truth_of a) && is_yes (truth_of b))
conjunction_yes a b =
    ap is_yes (truth_again (and_of (truth_of a) (truth_of b))) ∙ both_yes (truth_of a) (truth_of b)

along_yes : (env : Env) (first : Value) (xs : List Expr)
    → is_yes (truth_of (along conjunction first (map (meaning env) xs)))
    ≡ (is_yes (truth_of first) && are_true env xs)
along_yes env first [] = sym (and_yes (is_yes (truth_of first)))
along_yes env first (x ∷ xs) =
    along_yes env (conjunction first (meaning env x)) xs
    ∙ ap (λ b. b && are_true env xs) (conjunction_yes first (meaning env x))
    ∙ and_and (is_yes (truth_of first)) (is_true env x) (are_true env xs)

and_true : (env : Env) (x : Expr) (xs : List Expr)
    → is_true env (roll-Expr (Expr-F.And (x ∷ xs))) ≡ are_true env (x ∷ xs)
and_true env x xs =
    ap (λ v. is_yes (truth_of v)) (meaning-roll env (Expr-F.And (x ∷ xs)))
    ∙ along_yes env (meaning env x) xs

-- ---- what a level falls into

abbrev parted : Expr → Expr × List Expr
parted = pair_by operands_level

joined : (xs : List Expr) → flat_map (λ (part : Expr × List Expr). part.1) (map parted xs) ≡ flat_map operands xs
joined [] = refl
joined (x ∷ xs) = ap (λ ys. operands x ++ ys) (joined xs)

pub operands_and : (x : Expr) (xs : List Expr)
    → operands (roll-Expr (Expr-F.And (x ∷ xs))) ≡ flat_map operands (x ∷ xs)
operands_and x xs = comes_to operands_level (Expr-F.And (x ∷ xs)) ∙ joined (x ∷ xs)

pub operands_other : (z : Expr-F Expr)
    → operands_level (map-Expr Expr (Expr × List Expr) parted z)
    ≡ as_it_is (map-Expr Expr (Expr × List Expr) parted z) ∷ []
    → operands (roll-Expr z) ≡ roll-Expr z ∷ []
operands_other z alone = comes_to operands_level z ∙ alone ∙ ap (λ x. x ∷ []) (as_is operands_level z)

-- ---- the law

pub record IsSplit (x : Expr) : Type 0 where
  pub so : (env : Env) → is_true env x ≡ are_true env (operands x)

abbrev Kept : Type 0
Kept = (x : Expr) × IsSplit x

abbrev expr_of : Kept → Expr
expr_of e = e.0

abbrev level_of : Expr-F Kept → Expr-F Expr
level_of y = map-Expr Kept Expr expr_of y

all_split : (env : Env) (es : List Kept)
    → are_true env (map expr_of es) ≡ are_true env (flat_map operands (map expr_of es))
all_split env [] = refl
all_split env (e ∷ es) =
    ap₂ (λ a b. a && b) (e.1.so env) (all_split env es)
    ∙ sym (list_all-append (is_true env) (operands e.0) (flat_map operands (map expr_of es)))

alone : (z : Expr-F Expr) → operands (roll-Expr z) ≡ roll-Expr z ∷ [] → IsSplit (roll-Expr z)
alone z is =
    record {
      so = λ env.
          sym (and_yes (is_true env (roll-Expr z))) ∙ sym (ap (are_true env) is);
    }

split_level : (y : Expr-F Kept) → IsSplit (roll-Expr (level_of y))
split_level (Expr-F.And (e ∷ es)) =
    record {
      so = λ env.
          and_true env e.0 (map expr_of es) ∙ all_split env (e ∷ es)
          ∙ sym (ap (are_true env) (operands_and e.0 (map expr_of es)));
    }
split_level y = alone (level_of y) (operands_other (level_of y) refl)

pub split : (x : Expr) → IsSplit x
split = ind-Expr IsSplit (λ x y is. subst (λ z. IsSplit (roll-Expr z)) is (split_level y))

pub true_where_operands_are : (env : Env) (x : Expr) → is_true env x ≡ are_true env (operands x)
true_where_operands_are env x = (split x).so env

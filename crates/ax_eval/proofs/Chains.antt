-- What a chain of one operator comes to, where its value is decided early or its parts are joined at
-- once.
use Rattle.std.proofs.Common.{◌≡◌, ℕ, ◌≤◌, List, [], ◌∷◌, ◌++◌, length, map, Bool, true, false, Option, Some, None, option_map, option_and_then, refl, sym, ap, ◌∙◌, append_assoc, append-nil, arith}
use Rattle.ax_tree.specs.declared.tree.Tree as tree
use Rattle.ax_mean.specs.declared.expr.Expr.{Expr}
use Rattle.ax_mean.specs.declared.operator.BinaryOp.TheVariants as op
use Rattle.ax_mean.specs.declared.operator.Func.TheVariants as func
use Rattle.ax_mean.specs.declared.value.Value.{Value}
use Rattle.ax_mean.specs.declared.value.Value.TheVariants.{Undefined, Defined}
use Rattle.ax_mean.specs.Comparison.{equality}
use Rattle.ax_mean.specs.Functions.{call}
use Rattle.ax_mean.specs.Logic.{and_of, or_of}
use Rattle.ax_mean.specs.Meaning.{along, chain, among}
use Rattle.ax_mean.specs.Operators.{binary, first_defined, conjunction, disjunction, joined}
use Rattle.ax_mean.specs.TextFunctions.{joined_texts}
use Rattle.ax_mean.specs.Values.{is_defined, truth_of, of_truth, text_of, of_text}
use Rattle.ax_eval.specs.Truths.{all_of, some_of, some_equal}

truth_again : (t : Option Bool) → truth_of (of_truth t) ≡ t
unfolding tree.out-Tree denote.Hole.Carrier.out
truth_again None = refl
truth_again (Some b) = refl

text_again : (t : Option (List ℕ)) → text_of (of_text t) ≡ t
unfolding tree.out-Tree denote.Hole.Carrier.out
text_again None = refl
text_again (Some s) = refl

pub and_again : (a b c : Option Bool) → and_of (and_of a b) c ≡ and_of a (and_of b c)
and_again (Some false) b c = refl
and_again (Some true) b c = refl
and_again None (Some false) c = refl
and_again None (Some true) c = refl
and_again None None None = refl
and_again None None (Some false) = refl
and_again None None (Some true) = refl

pub and_end : (a : Option Bool) → and_of a (Some true) ≡ a
and_end None = refl
and_end (Some false) = refl
and_end (Some true) = refl

pub or_again : (a b c : Option Bool) → or_of (or_of a b) c ≡ or_of a (or_of b c)
or_again (Some true) b c = refl
or_again (Some false) b c = refl
or_again None (Some true) c = refl
or_again None (Some false) c = refl
or_again None None None = refl
or_again None None (Some false) = refl
or_again None None (Some true) = refl

pub or_end : (a : Option Bool) → or_of a (Some false) ≡ a
or_end None = refl
or_end (Some false) = refl
or_end (Some true) = refl

along_and : (t : Option Bool) (vs : List Value)
    → along conjunction (of_truth t) vs ≡ of_truth (and_of t (all_of vs))
along_and t [] = ap of_truth (sym (and_end t))
along_and t (v ∷ vs) =
    ap (λ s. along conjunction (of_truth (and_of s (truth_of v))) vs) (truth_again t)
    ∙ along_and (and_of t (truth_of v)) vs ∙ ap of_truth (and_again t (truth_of v) (all_of vs))

along_or : (t : Option Bool) (vs : List Value)
    → along disjunction (of_truth t) vs ≡ of_truth (or_of t (some_of vs))
along_or t [] = ap of_truth (sym (or_end t))
along_or t (v ∷ vs) =
    ap (λ s. along disjunction (of_truth (or_of s (truth_of v))) vs) (truth_again t)
    ∙ along_or (or_of t (truth_of v)) vs ∙ ap of_truth (or_again t (truth_of v) (some_of vs))

pub and_chain : (m : Expr → Value) (xs : List Expr) → 2 ≤ length xs
    → chain conjunction (map m xs) ≡ of_truth (all_of (map m xs))
and_chain m [] h = absurd (let e : ⊥ = omega arith in e)
and_chain m (x ∷ []) h = absurd (let e : ⊥ = omega arith in e)
and_chain m (x ∷ y ∷ xs) h =
    along_and (and_of (truth_of (m x)) (truth_of (m y))) (map m xs)
    ∙ ap of_truth (and_again (truth_of (m x)) (truth_of (m y)) (all_of (map m xs)))

pub or_chain : (m : Expr → Value) (xs : List Expr) → 2 ≤ length xs
    → chain disjunction (map m xs) ≡ of_truth (some_of (map m xs))
or_chain m [] h = absurd (let e : ⊥ = omega arith in e)
or_chain m (x ∷ []) h = absurd (let e : ⊥ = omega arith in e)
or_chain m (x ∷ y ∷ xs) h =
    along_or (or_of (truth_of (m x)) (truth_of (m y))) (map m xs)
    ∙ ap of_truth (or_again (truth_of (m x)) (truth_of (m y)) (some_of (map m xs)))

along_equal : (t : Option Bool) (left : Value) (vs : List Value)
    → along disjunction (of_truth t) (map (λ item. binary op.Equal left item) vs)
    ≡ of_truth (or_of t (some_equal left vs))
along_equal t left [] = ap of_truth (sym (or_end t))
along_equal t left (v ∷ vs) =
    let rest = map (λ item. binary op.Equal left item) vs in
    ap (λ s. along disjunction (of_truth (or_of s (truth_of (of_truth (equality left v))))) rest)
    (truth_again t)
    ∙ ap (λ s. along disjunction (of_truth (or_of t s)) rest) (truth_again (equality left v))
    ∙ along_equal (or_of t (equality left v)) left vs
    ∙ ap of_truth (or_again t (equality left v) (some_equal left vs))

pub among_chain : (m : Expr → Value) (left : Value) (xs : List Expr) → 1 ≤ length xs
    → among left (map m xs) ≡ of_truth (some_equal left (map m xs))
among_chain m left [] h = absurd (let e : ⊥ = omega arith in e)
among_chain m left (x ∷ xs) h = along_equal (equality left (m x)) left (map m xs)

-- one text before the other, where both are texts
abbrev both : Option (List ℕ) → Option (List ℕ) → Option (List ℕ)
both s t = option_and_then (λ x. option_map (λ y. x ++ y) t) s

both_again : (a b c : Option (List ℕ)) → both (both a b) c ≡ both a (both b c)
both_again None b c = refl
both_again (Some a) None c = refl
both_again (Some a) (Some b) None = refl
both_again (Some a) (Some b) (Some c) = ap Some (append_assoc a b c)

both_end : (a : Option (List ℕ)) → both a (Some []) ≡ a
both_end None = refl
both_end (Some a) = ap Some (append-nil a)

along_join : (t : Option (List ℕ)) (vs : List Value)
    → along joined (of_text t) vs ≡ of_text (both t (joined_texts vs))
along_join t [] = ap of_text (sym (both_end t))
along_join t (v ∷ vs) =
    ap (λ s. along joined (of_text (both s (text_of v))) vs) (text_again t)
    ∙ along_join (both t (text_of v)) vs ∙ ap of_text (both_again t (text_of v) (joined_texts vs))

pub join_chain : (m : Expr → Value) (xs : List Expr) → 2 ≤ length xs
    → chain joined (map m xs) ≡ call func.Concat (map m xs)
join_chain m [] h = absurd (let e : ⊥ = omega arith in e)
join_chain m (x ∷ []) h = absurd (let e : ⊥ = omega arith in e)
join_chain m (x ∷ y ∷ xs) h =
    along_join (both (text_of (m x)) (text_of (m y))) (map m xs)
    ∙ ap of_text (both_again (text_of (m x)) (text_of (m y)) (joined_texts (map m xs)))

pub first_taken : (v : Value) (vs : List Value) → is_defined v ≡ true
    → along first_defined v vs ≡ v
first_taken Undefined vs h = absurd (let e : ⊥ = cc in e)
first_taken (Defined t) [] h = refl
first_taken (Defined t) (v ∷ vs) h = first_taken (Defined t) vs h

pub undefined_skipped : (vs : List Value)
    → along first_defined Undefined vs ≡ chain first_defined vs
undefined_skipped [] = refl
undefined_skipped (v ∷ vs) = refl

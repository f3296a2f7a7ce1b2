-- Two lists compared element by element: a turn of the loop, and lists that are not as long.
use Rattle.std.proofs.Common.{◌≡◌, ◌≢◌, ℕ, ◌+◌, ◌<◌, List, [], ◌∷◌, map, length, drop, suc, subst, Bool, true, false, ◌&&◌, get_or, refl, sym, ap, ap₂, ◌∙◌}
use Rattle.std.proofs.lemmas.List.{drop_more}
use Rattle.ax_tree.specs.declared.members.Member.{Member}
use Rattle.ax_mean.specs.declared.expr.Chained.{Chained}
use Rattle.ax_mean.specs.declared.expr.Expr.{Expr}
use Rattle.ax_mean.specs.declared.expr.QueryStep.{QueryStep}
use Rattle.ax_grammar.specs.SameExprs.{all_fit, all_pass, all_chained_pass, all_members_pass, all_steps_same, is_same_step, is_same_expr}
use Rattle.ax_scope.specs.EachPart.{chained_seen, member_seen}

left_at : {X : Type 0} (xs : List X) (i : ℕ) (x : X) → i < length xs → x ≡ get_or xs i x
    → drop i xs ≡ x ∷ drop (i + 1) xs
left_at xs i x l e = drop_more xs i x l ∙ ap (λ y. y ∷ drop (i + 1) xs) (sym e)

and_false : (b : Bool) {c : Bool} → c ≡ false → (b && c) ≡ false
and_false true e = e
and_false false e = refl

pub uneven : {X Y Z : Type 0} (fits : Y → Z → Bool) (seen : X → Y) (xs : List X) (ys : List Z)
    → length xs ≢ length ys → all_fit fits (map seen xs) ys ≡ false
uneven fits seen [] [] h = absurd (h refl)
uneven fits seen [] (y ∷ ys) h = refl
uneven fits seen (x ∷ xs) [] h = refl
uneven fits seen (x ∷ xs) (y ∷ ys) h =
    and_false (fits (seen x) y) (uneven fits seen xs ys (λ e. h (ap suc e)))

-- a test of two lists, of what is left of them at a place
pub turn : {X Y Z : Type 0} (test : List X → List Y → Z) (xs : List X) (ys : List Y) (i : ℕ)
    (x : X) (y : Y) → i < length xs → length xs ≡ length ys → x ≡ get_or xs i x
    → y ≡ get_or ys i y
    → test (drop i xs) (drop i ys) ≡ test (x ∷ drop (i + 1) xs) (y ∷ drop (i + 1) ys)
turn test xs ys i x y l even e f =
    ap₂ test (left_at xs i x l e) (left_at ys i y (subst (λ n. i < n) even l) f)

abbrev pub exprs_pass : List Expr → List Expr → Bool
exprs_pass xs ys = all_pass (map is_same_expr xs) ys

abbrev pub chains_pass : List (Chained Expr) → List (Chained Expr) → Bool
chains_pass cs ds = all_chained_pass (map (chained_seen is_same_expr) cs) ds

abbrev pub members_pass : List (Member Expr) → List (Member Expr) → Bool
members_pass ms ns = all_members_pass (map (member_seen is_same_expr) ms) ns

pub exprs_uneven : (xs ys : List Expr) → length xs ≢ length ys → exprs_pass xs ys ≡ false
exprs_uneven xs ys h = uneven (λ test x. test x) is_same_expr xs ys h

pub chains_uneven : (cs ds : List (Chained Expr)) → length cs ≢ length ds
    → chains_pass cs ds ≡ false
chains_uneven cs ds h = uneven _ (chained_seen is_same_expr) cs ds h

pub members_uneven : (ms ns : List (Member Expr)) → length ms ≢ length ns
    → members_pass ms ns ≡ false
members_uneven ms ns h = uneven _ (member_seen is_same_expr) ms ns h

pub steps_uneven : (xs ys : List QueryStep) → length xs ≢ length ys
    → all_steps_same xs ys ≡ false
steps_uneven [] [] h = absurd (h refl)
steps_uneven [] (y ∷ ys) h = refl
steps_uneven (x ∷ xs) [] h = refl
steps_uneven (x ∷ xs) (y ∷ ys) h =
    and_false (is_same_step x y) (steps_uneven xs ys (λ e. h (ap suc e)))

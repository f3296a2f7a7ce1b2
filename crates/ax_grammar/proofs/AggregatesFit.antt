-- Aggregates in an expression, by its parts: which are allowed in each, and that exactly the
-- expressions without one fit where none is allowed.
use Rattle.std.proofs.Common.{◌≡◌, List, [], ◌∷◌, Bool, true, false, ◌&&◌, ◌||◌, not, map, refl, sym, ap, ap₂, ◌∙◌, subst}
use Rattle.std.specs.Bool.{⊤}
use Rattle.std.specs.List.{list_all, list_any}
use Rattle.ax_mean.specs.declared.expr.Expr.{Expr, out-Expr}
use Rattle.ax_mean.specs.declared.expr.Expr.TheOpen.{Expr-F}
use Rattle.ax_mean.specs.declared.expr.Expr.TheFolds.{map-Expr, ind-Expr}
use Rattle.ax_mean.specs.declared.expr.Expr.TheViews.{roll-Expr, out-roll-Expr}
use Rattle.ax_mean.specs.Aggregates.{has_aggregate, is_total, is_total_level}
use Rattle.ax_mean.specs.Parts.{level_parts, parts_of}
use Rattle.ax_mean.proofs.AggregateParts.{aggregate_by_parts}
use Rattle.ax_mean.proofs.ByParts.{where_by_parts}
use Rattle.ax_grammar.specs.Parts.{aggregates_level, aggregates_fit}
use Rattle.ax_grammar.proofs.PartsMapped.{parts_mapped}

and_true : (a : Bool) → a ≡ a && true
and_true true = refl
and_true false = refl

-- ---- by the parts

all_passed : {X : Type 0} (test : X → Bool → Bool) (b : Bool) (xs : List X)
    → list_all (λ part. part b) (map test xs) ≡ list_all (λ x. test x b) xs
all_passed test b [] = refl
all_passed test b (x ∷ xs) = ap (λ rest. test x b && rest) (all_passed test b xs)

no_total : (allowed : Bool) (y : Expr-F (Bool → Bool)) → is_total_level y ≡ false
    → aggregates_level y allowed ≡ list_all (λ part. part allowed) (level_parts y)
no_total allowed (Expr-F.Total aggregate x) h = absurd (let e : ⊥ = cc in e)
no_total allowed _ h = refl

a_total : (allowed : Bool) (y : Expr-F (Bool → Bool)) → not (is_total_level y) ≡ false
    → aggregates_level y allowed ≡ allowed && list_all (λ part. part false) (level_parts y)
a_total allowed (Expr-F.Total aggregate x) h = ap (λ b. allowed && b) (and_true (x false))
a_total allowed _ h = absurd (let e : ⊥ = cc in e)

total_mapped : (y : Expr-F Expr)
    → is_total_level (map-Expr Expr (Bool → Bool) aggregates_fit y) ≡ is_total_level y
total_mapped (Expr-F.Total aggregate x) = refl
total_mapped _ = refl

none_inside : (allowed : Bool) (all : Bool → Bool)
    → (allowed && all false) ≡ (allowed && all (allowed && false))
none_inside true all = refl
none_inside false all = refl

by_form : (e : Expr) (allowed total : Bool) → is_total e ≡ total
    → aggregates_fit e allowed
    ≡ ((not total || allowed)
    && list_all (λ part. aggregates_fit part (allowed && not total)) (parts_of e))
by_form e allowed true h =
    where_by_parts aggregates_level (λ y. not (is_total_level y)) (λ fits. fits allowed)
    (λ parts. allowed && list_all (λ part. part false) parts) (a_total allowed) e
    (ap not (total_mapped (out-Expr e) ∙ h))
    ∙ ap (λ b. allowed && b) (all_passed aggregates_fit false (parts_of e))
    ∙ none_inside allowed (λ b. list_all (λ part. aggregates_fit part b) (parts_of e))
by_form e allowed false h =
    where_by_parts aggregates_level is_total_level (λ fits. fits allowed)
    (list_all (λ part. part allowed)) (no_total allowed) e (total_mapped (out-Expr e) ∙ h)
    ∙ all_passed aggregates_fit allowed (parts_of e)
    ∙ ap (λ b. list_all (λ part. aggregates_fit part b) (parts_of e)) (and_true allowed)

-- an aggregate has to be allowed, and allows none inside it
pub fit_by_parts : (e : Expr) (allowed : Bool)
    → aggregates_fit e allowed
    ≡ ((not (is_total e) || allowed)
    && list_all (λ part. aggregates_fit part (allowed && not (is_total e))) (parts_of e))
fit_by_parts e allowed = by_form e allowed (is_total e) refl

-- ---- what holds of an expression where it holds of each part

module _ (P : Expr → Type 0) where
  abbrev pub Each : List Expr → Type 0
  Each [] = ⊤
  Each (x ∷ xs) = P x × Each xs

  abbrev Kept : Type 0
  Kept = (x : Expr) × P x

  abbrev expr_of : Kept → Expr
  expr_of e = e.0

  kept : (es : List Kept) → Each (map expr_of es)
  kept [] = tt
  kept (e ∷ es) = (e.1, kept es)

  at_level : ((x : Expr) → Each (parts_of x) → P x) → (y : Expr-F Kept)
      → P (roll-Expr (map-Expr Kept Expr expr_of y))
  at_level step y =
      step (roll-Expr (map-Expr Kept Expr expr_of y))
      (subst Each
      (sym
      (ap level_parts (out-roll-Expr (map-Expr Kept Expr expr_of y)) ∙ parts_mapped expr_of y))
      (kept (level_parts y)))

  pub ind_by_parts : ((x : Expr) → Each (parts_of x) → P x) → (x : Expr) → P x
  ind_by_parts step =
      ind-Expr P (λ x y is. subst (λ z. P (roll-Expr z)) is (at_level step y))

-- ---- where none is allowed

abbrev HasNone : Expr → Type 0
HasNone e = aggregates_fit e false ≡ not (has_aggregate e)

either_not : (a b c : Bool) → c ≡ not b → ((not a || false) && c) ≡ not (a || b)
either_not true b c h = refl
either_not false b c h = h

pub all_have_none : (es : List Expr) → Each HasNone es
    → list_all (λ part. aggregates_fit part false) es ≡ not (list_any has_aggregate es)
all_have_none [] each = refl
all_have_none (e ∷ es) each =
    ap₂ (λ a b. a && b) each.0 (all_have_none es each.1)
    ∙ neither (has_aggregate e) (list_any has_aggregate es)
  where
    neither : (a b : Bool) → (not a && not b) ≡ not (a || b)
    neither true b = refl
    neither false b = refl

pub none_fits : (e : Expr) → HasNone e
none_fits =
    ind_by_parts HasNone
    (λ e each. fit_by_parts e false
    ∙ either_not (is_total e) (list_any has_aggregate (parts_of e)) _
    (all_have_none (parts_of e) each)
    ∙ ap not (sym (aggregate_by_parts e)))

each_none : (es : List Expr) → Each HasNone es
each_none [] = tt
each_none (e ∷ es) = (none_fits e, each_none es)

pub none_fit : (es : List Expr)
    → list_all (λ part. aggregates_fit part false) es ≡ not (list_any has_aggregate es)
none_fit es = all_have_none es (each_none es)

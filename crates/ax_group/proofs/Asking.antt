-- What an expression asks for, and what it becomes: as a whole or by its children.
use Rattle.std.proofs.Common.{◌≡◌, List, [], ◌∷◌, ◌++◌, true, false, Result, Ok, Err, IfOk, OnOk, OnErr, sym, ap, ◌∙◌, subst}
use Rattle.std.proofs.lemmas.List.{map-append}
use Rattle.ax_mean.specs.declared.expr.Expr.{Expr, out-Expr}
use Rattle.ax_mean.specs.declared.expr.Expr.TheFolds.{map-Expr}
use Rattle.ax_mean.specs.declared.expr.Expr.TheOpen.{Expr-F}
use Rattle.ax_mean.specs.declared.expr.Expr.TheVariants as expr
use Rattle.ax_mean.specs.declared.expr.Expr.TheVariants.{rolls-Total}
use Rattle.ax_mean.specs.declared.expr.Expr.TheViews.{roll-Expr, roll-out-Expr}
use Rattle.ax_mean.specs.declared.operator.Aggregate.{Aggregate}
use Rattle.ax_mean.specs.declared.value.Value.{Value}
use Rattle.ax_mean.specs.RowOrder.{first_value, later_values}
use Rattle.ax_group.specs.declared.asked.Asked.{Asked}
use Rattle.ax_group.specs.Walks.{Ask, TotalOf, PartOf, Asks, Child, Fill, Fills, ask_of, asks_of, asks_where, asked_level, asks_level, asked_in, asked_within, asked_pair, is_part, fill, fill_within, fill_pair, fill_level, fills_level, filled_where}
use Rattle.ax_result.proofs.Wholes.{whole, as_is, comes_to}

pub on_ok : {T E A B : Type 0} (r : Result T E) → (A → B) → OnOk r A → OnOk r B
on_ok (Ok x) f a = f a
on_ok (Err e) f a = a

pub on_err : {T E A B : Type 0} (r : Result T E) → (A → B) → OnErr r A → OnErr r B
on_err (Ok x) f a = a
on_err (Err e) f a = f a

pub if_ok : {T E : Type 0} {P Q : T → Type 0} (r : Result T E) → ((x : T) → P x → Q x) → IfOk r P
    → IfOk r Q
if_ok (Ok x) f p = f x p
if_ok (Err e) f p = p

within_at : (x : Expr-F Expr)
    → asked_within (roll-Expr x) ≡ asked_level (map-Expr Expr (Expr × Asks) asked_pair x)
within_at x = ap (λ (a : Asks). a.within) (comes_to asks_level x)

-- an expression asks for itself, or for what its children ask for
abbrev IsSplit : Expr → Type 0
IsSplit x = asked_in x ≡ asks_where (is_part x) x (asked_within x)

split_at : (x : Expr-F Expr) → IsSplit (roll-Expr x)
split_at x =
    ap (λ (a : Asks). a.whole) (comes_to asks_level x)
    ∙ ap (λ z. asks_where (is_part z) z
    (asked_level (map-Expr Expr (Expr × Asks) asked_pair x))) (as_is asks_level x)
    ∙ ap (asks_where (is_part (roll-Expr x)) (roll-Expr x)) (sym (within_at x))

asked_splits : (x : Expr) → IsSplit x
asked_splits x = subst IsSplit (roll-out-Expr x) (split_at (out-Expr x))

pub part_collected : (x : Expr) (old new : List Asked) (asked : Asked) → is_part x ≡ true
    → ask_of asked ≡ PartOf x → new ≡ old ++ asked ∷ [] → asks_of new ≡ asks_of old ++ asked_in x
part_collected x old new asked h p e =
    ap asks_of e ∙ map-append ask_of old (asked ∷ [])
    ∙ ap (λ ask. asks_of old ++ ask ∷ []) p
    ∙ ap (λ asks. asks_of old ++ asks)
    (sym (asked_splits x ∙ ap (λ b. asks_where b x (asked_within x)) h))

pub within_collected : (x : Expr) (old new : List Ask) → is_part x ≡ false
    → new ≡ old ++ asked_within x → new ≡ old ++ asked_in x
within_collected x old new h e =
    e ∙ ap (λ asks. old ++ asks)
    (sym (asked_splits x ∙ ap (λ b. asks_where b x (asked_within x)) h))

-- an expression becomes the literal of a value, or what its children become
abbrev IsFillSplit : Expr → Type 0
IsFillSplit x = fill x ≡ filled_where (is_part x) (fill_within x)

fill_split_at : (x : Expr-F Expr) → IsFillSplit (roll-Expr x)
fill_split_at x =
    ap (λ (f : Fills). f.whole) (comes_to fills_level x)
    ∙ ap (λ z. filled_where (is_part z) (fill_level (map-Expr Expr Child fill_pair x)))
    (as_is fills_level x)
    ∙ ap (filled_where (is_part (roll-Expr x)))
    (sym (ap (λ (f : Fills). f.within) (comes_to fills_level x)))

pub fill_splits : (x : Expr) → fill x ≡ filled_where (is_part x) (fill_within x)
fill_splits x = subst IsFillSplit (roll-out-Expr x) (fill_split_at (out-Expr x))

pub part_filled : (x : Expr) (values : List Value) → is_part x ≡ true
    → fill x values ≡ (expr.Literal (first_value values), later_values values)
part_filled x values h =
    ap (λ (f : Fill). f values) (fill_splits x ∙ ap (λ b. filled_where b (fill_within x)) h)

pub within_filled : (x : Expr) (values : List Value) → is_part x ≡ false
    → fill x values ≡ fill_within x values
within_filled x values h =
    ap (λ (f : Fill). f values) (fill_splits x ∙ ap (λ b. filled_where b (fill_within x)) h)

asked_of_total : (which : Aggregate) (argument : Expr)
    → asked_within (expr.Total which argument) ≡ TotalOf which argument ∷ []
asked_of_total which argument =
    ap asked_within (sym (rolls-Total which argument)) ∙ within_at (Expr-F.Total which argument)
    ∙ ap (λ x. TotalOf which x ∷ []) (whole asks_level argument)

pub total_collected : (which : Aggregate) (argument : Expr) (old new : List Asked) (asked : Asked)
    → ask_of asked ≡ TotalOf which argument → new ≡ old ++ asked ∷ []
    → asks_of new ≡ asks_of old ++ asked_within (expr.Total which argument)
total_collected which argument old new asked t e =
    ap asks_of e ∙ map-append ask_of old (asked ∷ [])
    ∙ ap (λ ask. asks_of old ++ ask ∷ []) t
    ∙ ap (λ asks. asks_of old ++ asks) (sym (asked_of_total which argument))

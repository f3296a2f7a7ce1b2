-- The order of tuples is total, and a row put into groups whose tuples rise leaves them rising.
use Rattle.std.proofs.Common.{◌≡◌, List, [], ◌∷◌, refl, sym, ap, ◌∙◌}
use Rattle.std.specs.declared.cmp.Ordering.{Ordering}
use Rattle.std.specs.declared.cmp.Ordering.TheVariants.{Less, Equal, Greater}
use Rattle.std.specs.Cmp.{IsTotalOrder}
use Rattle.std.specs.List.{AllByRecursion}
use Rattle.std.specs.List.Sorted.{IsStrictlySortedBy}
use Rattle.std.specs.Ordering.{ordering_reverse}
use Rattle.std.proofs.lemmas.Cmp.{then_total, on_total, lists_total, nat_cmp_total, int_cmp_total, nat_list_cmp_total}
use Rattle.ax_mean.specs.declared.expr.Expr.{Expr}
use Rattle.ax_mean.specs.declared.value.Value.{Value}
use Rattle.ax_mean.specs.Meaning.{Env}
use Rattle.ax_mean.specs.ValueOrder.{rank, number_key, bytes_key, value_cmp}
use Rattle.ax_result.specs.Groups.{Group, group_values, values_cmp, tuples, placed, with_row, groups_before, with_rows, groups_of}

value_total : IsTotalOrder value_cmp
value_total =
    then_total (on_total rank nat_cmp_total)
    (then_total (on_total number_key int_cmp_total) (on_total bytes_key nat_list_cmp_total))

pub values_total : IsTotalOrder values_cmp
values_total = lists_total value_total

pub turned : (a b : List Value) (o : Ordering) → values_cmp a b ≡ o
    → values_cmp b a ≡ ordering_reverse o
turned a b o h = values_total.antisymm b a ∙ ap ordering_reverse h

pub same_right : (v a b : List Value) → values_cmp a b ≡ Equal → values_cmp v a ≡ values_cmp v b
same_right v a b h =
    values_total.antisymm v a ∙ ap ordering_reverse (values_total.congr a b v h)
    ∙ sym (values_total.antisymm v b)

abbrev pub IsBelow : List Value → List Group → Type 0
IsBelow v groups = AllByRecursion (λ tuple. values_cmp v tuple ≡ Less) (tuples groups)

abbrev pub Rise : List Group → Type 0
Rise groups = IsStrictlySortedBy values_cmp (tuples groups)

pub further_below : (v w : List Value) (groups : List Group) → values_cmp v w ≡ Less
    → IsBelow w groups → IsBelow v groups
further_below v w [] h below = tt
further_below v w (group ∷ groups) h below =
    (values_total.trans v w group.values h below.0, further_below v w groups h below.1)

below_with : (v w : List Value) (env : Env) (groups : List Group) → values_cmp v w ≡ Less
    → IsBelow v groups → IsBelow v (with_row w env groups)
below_with v w env [] h below = (h, tt)
below_with v w env (group ∷ groups) h below =
    by (values_cmp w group.values) (below_with v w env groups h below.1)
  where
    by : (o : Ordering) → IsBelow v (with_row w env groups)
        → IsBelow v (placed o w env group groups (with_row w env groups))
    by Less further = (h, below)
    by Equal further = below
    by Greater further = (below.0, further)

pub rise_with : (w : List Value) (env : Env) (groups : List Group) → Rise groups
    → Rise (with_row w env groups)
unfolding IsStrictlySortedBy
rise_with w env [] rise = (tt, tt)
rise_with w env (group ∷ groups) rise =
    by (values_cmp w group.values) refl (rise_with w env groups rise.1)
  where
    by : (o : Ordering) → values_cmp w group.values ≡ o → Rise (with_row w env groups)
        → Rise (placed o w env group groups (with_row w env groups))
    by Less h further = ((h, further_below w group.values groups h rise.0), rise)
    by Equal h further = rise
    by Greater h further =
        (below_with group.values w env groups (turned w group.values Greater h) rise.0, further)

pub rise_with_rows : (exprs : List Expr) (groups : List Group) (envs : List Env) → Rise groups
    → Rise (with_rows exprs groups envs)
rise_with_rows exprs groups [] rise = rise
rise_with_rows exprs groups (env ∷ envs) rise =
    rise_with_rows exprs (with_row (group_values exprs env) env groups) envs
    (rise_with (group_values exprs env) env groups rise)

pub rise_before : (exprs : List Expr) → Rise (groups_before exprs)
unfolding IsStrictlySortedBy
rise_before [] = (tt, tt)
rise_before (expr ∷ exprs) = tt

-- the tuples of groups rise
pub groups_rise : (exprs : List Expr) (envs : List Env)
    → IsStrictlySortedBy values_cmp (tuples (groups_of exprs envs))
groups_rise exprs envs = rise_with_rows exprs (groups_before exprs) envs (rise_before exprs)

-- the first tuple is below those behind it, which rise
pub rise_parts : (group : Group) (groups : List Group) → Rise (group ∷ groups)
    → IsBelow group.values groups × Rise groups
unfolding IsStrictlySortedBy
rise_parts group groups rise = rise

-- What is kept of rows tells the least of them.
use Rattle.std.proofs.Common.{◌≡◌, ℕ, zero, suc, ◌<◌, ◌≤◌, List, [], ◌∷◌, ◌++◌, length, map, take, drop, Bool, true, false, cond, Option, Some, None, refl, sym, ap, ◌∙◌, subst, append_assoc, arith}
use Rattle.std.specs.declared.cmp.Ordering.{Ordering}
use Rattle.std.specs.Cmp.{IsStrictWeakOrder}
use Rattle.std.specs.List.{AllByRecursion, cons_option, filter_map, slice_get}
use Rattle.std.specs.Ordering.{is_lt}
use Rattle.std.proofs.lemmas.List.{append-nil, length-append, length-take, map-append, take-map}
use Rattle.std.proofs.lemmas.Option.{slice_get_within}
use Rattle.ax_tree.specs.declared.tree.Tree.{Tree}
use Rattle.ax_mean.specs.declared.query.KeyedRow.{KeyedRow}
use Rattle.ax_mean.specs.declared.query.Order.{Order}
use Rattle.ax_mean.specs.declared.query.Query.{Query}
use Rattle.ax_mean.specs.declared.value.Value.{Value}
use Rattle.ax_mean.specs.declared.value.Value.TheVariants.{Undefined, Defined}
use Rattle.ax_mean.specs.Answer.{limited, sorted}
use Rattle.ax_mean.specs.RowOrder.{key_cmp}
use Rattle.ax_mean.specs.Rows.{Bound, keyed, keyed_rows, keyed_where, order_values, passes, rows_of_tree, shown}
use Rattle.ax_rows.specs.declared.least.LeastRows.{LeastRows}
use Rattle.ax_rows.specs.declared.least.LeastTaker.{LeastTaker}
use Rattle.ax_rows.specs.declared.ranked.Ranked.{Ranked}
use Rattle.ax_rows.specs.Front.{room_of}
use Rattle.ax_rows.specs.KeyOrder.{directed_cmp}
use Rattle.ax_rows.specs.Least.{HoldsLeast, LeastAsked, TakesLeast, bound_at, is_below, is_wanted, kept_rows, least_keeps}
use Rattle.ax_rows.specs.SortKeys.{keys_of, ranked, ranked_cmp}
use Rattle.ax_rows.specs.Taking.{Gains}
use Rattle.ax_rows.proofs.DirectedKeys.{key_order_total, same_order}
use Rattle.ax_rows.proofs.LeastOf.{least_again, least_more, one_less}
use Rattle.ax_rows.proofs.RowSort.{ranked_ranks, rows_sorted}
use Rattle.ax_rows.proofs.StableSort.{NoneBelow, Rises, rises_sorted}
use Rattle.ax_rows.proofs.Windows.{chosen_among}

abbrev order : Ranked → Ranked → Ordering
order = ranked_cmp directed_cmp

abbrev ranks : IsStrictWeakOrder (λ x y. is_lt (order x y))
ranks = ranked_ranks directed_cmp key_order_total

abbrev AllBehind : Ranked → List Ranked → Type 0
AllBehind row rows = AllByRecursion (λ other. is_lt (order row other) ≡ false) rows

-- ---- no row yet

none_bound : (most : ℕ) → bound_at most [] ≡ None
none_bound zero = refl
none_bound (suc last) = refl

none_long : (rows : List Ranked) (n : ℕ) → rows ≡ [] → length rows ≤ n
none_long rows n e = let none : length rows ≡ 0 = ap length e in omega (arith, none)

pub begins : (held : LeastRows) (orders : List Order) (most : ℕ) → held.most ≡ most
    → held.least.items ≡ [] → held.later.items ≡ [] → HoldsLeast held orders most []
begins held orders most count none later = record {
  count = count;
  few_least = none_long held.least.items most none;
  few_later = none_long held.later.items most later;
  behind = λ row e.
      let wanted : is_wanted held row ≡ true =
      ap (is_below row.keys row.row.number row.row.place)
      (ap (bound_at held.most) none ∙ none_bound held.most) in
      absurd (cc);
  least = λ i. take most (sorted order (none i ++ later i));
}

-- ---- one row more

wanted_behind : (bound : Option Ranked) (row other : Ranked)
    → is_below row.keys row.row.number row.row.place bound ≡ false
    → is_below other.keys other.row.number other.row.place bound ≡ true
    → is_lt (order row other) ≡ false
wanted_behind None row other e f = absurd (cc)
wanted_behind (Some bound) row other e f = ranks.chain row bound other e (ranks.one_way other bound f)

one_behind : (row other : Ranked) (rows : List Ranked) → AllBehind row rows
    → is_lt (order row other) ≡ false → AllBehind row (rows ++ other ∷ [])
one_behind row other [] all e = (e, tt)
one_behind row other (r ∷ rows) all e = (all.0, one_behind row other rows all.1 e)

one_longer : (rows : List Ranked) (row : Ranked) (n : ℕ) → n ≤ length rows
    → n ≤ length (rows ++ row ∷ [])
one_longer rows row n low = let e = length-append rows (row ∷ []) in omega (arith, e, low)

with_one : (orders : List Order) (rows : List KeyedRow) (row : Ranked) (shown : KeyedRow)
    → row ≡ ranked orders shown
    → map (ranked orders) rows ++ row ∷ [] ≡ map (ranked orders) (rows ++ shown ∷ [])
with_one orders rows row shown is =
    ap (λ r. map (ranked orders) rows ++ r ∷ []) is ∙ sym (map-append (ranked orders) rows (shown ∷ []))

with_pushed : (old new : LeastRows) (row : Ranked) → new.least.items ≡ old.least.items
    → new.later.items ≡ old.later.items ++ row ∷ [] → kept_rows new ≡ kept_rows old ++ row ∷ []
with_pushed old new row least later =
    (λ i. least i ++ later i) ∙ sym (append_assoc old.least.items old.later.items (row ∷ []))

pub pushed_least : (old new : LeastRows) (orders : List Order) (most : ℕ) (rows : List KeyedRow)
    (row : Ranked) (shown : KeyedRow) → HoldsLeast old orders most rows
    → row ≡ ranked orders shown → new.least.items ≡ old.least.items
    → new.later.items ≡ old.later.items ++ row ∷ []
    → take most (sorted order (kept_rows new))
    ≡ take most (sorted order (map (ranked orders) (rows ++ shown ∷ [])))
pushed_least old new orders most rows row shown holds is least later =
    ap (λ (rs : List Ranked). take most (sorted order rs)) (with_pushed old new row least later)
    ∙ least_more order ranks most (kept_rows old) (map (ranked orders) rows) (row ∷ []) holds.least
    ∙ ap (λ (rs : List Ranked). take most (sorted order rs)) (with_one orders rows row shown is)

pub pushed : (old new : LeastRows) (orders : List Order) (most : ℕ) (rows : List KeyedRow)
    (row : Ranked) (shown : KeyedRow) → HoldsLeast old orders most rows
    → row ≡ ranked orders shown → is_wanted old row ≡ true
    → new.most ≡ old.most → new.least.items ≡ old.least.items
    → new.later.items ≡ old.later.items ++ row ∷ [] → length new.later.items < new.most
    → HoldsLeast new orders most (rows ++ shown ∷ [])
pushed old new orders most rows row shown holds is wanted count least later short =
    let all : kept_rows new ≡ kept_rows old ++ row ∷ [] = with_pushed old new row least later in
    let same : new.most ≡ most = count ∙ holds.count in
    record {
      count = same;
      few_least = subst (λ (rs : List Ranked). length rs ≤ most) (sym least) holds.few_least;
      few_later = omega (arith, same, short);
      behind = λ other e.
          let before : is_wanted old other ≡ false =
          (λ i. is_below other.keys other.row.number other.row.place
          (bound_at (sym count i) (sym least i))) ∙ e in
          let known = holds.behind other before in (
            subst (λ (rs : List Ranked). most ≤ length rs) (sym all)
                (one_longer (kept_rows old) row most known.0),
            subst (AllBehind other) (sym all)
                (one_behind other row (kept_rows old) known.1
                (wanted_behind (bound_at old.most old.least.items) other row before wanted)),
          );
      least = pushed_least old new orders most rows row shown holds is least later;
    }

-- a row that is not wanted changes nothing
pub passed_by : (held : LeastRows) (orders : List Order) (most : ℕ) (rows : List KeyedRow)
    (shown : KeyedRow) → HoldsLeast held orders most rows
    → is_wanted held (ranked orders shown) ≡ false
    → HoldsLeast held orders most (rows ++ shown ∷ [])
passed_by held orders most rows shown holds e =
    let row : Ranked = ranked orders shown in
    let known = holds.behind row e in
    record {
      count = holds.count;
      few_least = holds.few_least;
      few_later = holds.few_later;
      behind = holds.behind;
      least = ap (λ (rs : List Ranked). take most (sorted order rs)) (sym (append-nil (kept_rows held)))
          ∙ sym (one_less order ranks most row (kept_rows held) [] known.1 known.0)
          ∙ least_more order ranks most (kept_rows held) (map (ranked orders) rows) (row ∷ []) holds.least
          ∙ ap (λ (rs : List Ranked). take most (sorted order rs)) (with_one orders rows row shown refl);
    }

-- ---- rows put in order

none_below_taken : (row : Ranked) (n : ℕ) (rows : List Ranked) → NoneBelow order ranks row rows
    → NoneBelow order ranks row (take n rows)
none_below_taken row zero rows none = tt
none_below_taken row (suc n) [] none = tt
none_below_taken row (suc n) (r ∷ rows) none = (none.0, none_below_taken row n rows none.1)

rises_taken : (n : ℕ) (rows : List Ranked) → Rises order ranks rows → Rises order ranks (take n rows)
rises_taken zero rows r = tt
rises_taken (suc n) [] r = tt
rises_taken (suc n) (row ∷ rows) r = (none_below_taken row n rows r.0, rises_taken n rows r.1)

none_below_at : (row last : Ranked) (n : ℕ) (rows : List Ranked) → NoneBelow order ranks row rows
    → slice_get rows n ≡ Some last → is_lt (order last row) ≡ false
none_below_at row last n [] none e = absurd (cc)
none_below_at row last zero (r ∷ rows) none e =
    let same : r ≡ last = cc in subst (λ x. is_lt (order x row) ≡ false) same none.0
none_below_at row last (suc n) (r ∷ rows) none e = none_below_at row last n rows none.1 e

last_behind : (row last : Ranked) (n : ℕ) (rows : List Ranked) → Rises order ranks rows
    → length rows ≤ suc n → slice_get rows n ≡ Some last → is_lt (order row last) ≡ false
    → AllBehind row rows
last_behind row last n [] rises low e f = tt
last_behind row last zero (r ∷ []) rises low e f =
    let same : r ≡ last = cc in (subst (λ x. is_lt (order row x) ≡ false) (sym same) f, tt)
last_behind row last zero (r ∷ s ∷ rows) rises low e f = absurd (omega (arith, low))
last_behind row last (suc n) (r ∷ rows) rises low e f = (
  ranks.chain row last r f (none_below_at r last n rows rises.0 e),
  last_behind row last n rows rises.1 (omega (arith, low)) e f,
)

behind_by : (last : ℕ) (rows : List Ranked) (row : Ranked) (bound : Option Ranked)
    → slice_get rows last ≡ bound → Rises order ranks rows → length rows ≤ suc last
    → is_below row.keys row.row.number row.row.place bound ≡ false
    → (suc last ≤ length rows) × AllBehind row rows
behind_by last rows row None at rises low e = absurd (cc)
behind_by last rows row (Some bound) at rises low e =
    let within : last < length rows = slice_get_within rows last bound at in
    (omega (arith, within), last_behind row bound last rows rises low at e)

bound_behind : (most : ℕ) (rows : List Ranked) (row : Ranked) → Rises order ranks rows
    → length rows ≤ most
    → is_below row.keys row.row.number row.row.place (bound_at most rows) ≡ false
    → (most ≤ length rows) × AllBehind row rows
bound_behind zero rows row rises low e = absurd (cc)
bound_behind (suc last) rows row rises low e =
    behind_by last rows row (slice_get rows last) refl rises low e

taken_short : (n : ℕ) (rows : List Ranked) → length (take n rows) ≤ n
taken_short n rows = let e = length-take n rows in omega (arith, e)

pub settled : (old new : LeastRows) (orders : List Order) (most : ℕ) (rows : List KeyedRow)
    → old.most ≡ most
    → take most (sorted order (kept_rows old)) ≡ take most (sorted order (map (ranked orders) rows))
    → new.most ≡ old.most
    → new.least.items ≡ take old.most (sorted order (kept_rows old)) → new.later.items ≡ []
    → HoldsLeast new orders most rows
settled old new orders most rows own known_least count least later =
    let kept : List Ranked = take most (sorted order (kept_rows old)) in
    let is : new.least.items ≡ kept = least ∙ ap (λ (n : ℕ). take n (sorted order (kept_rows old))) own in
    let all : kept_rows new ≡ kept = (λ i. is i ++ later i) ∙ append-nil kept in
    let rises : Rises order ranks kept =
    rises_taken most (sorted order (kept_rows old)) (rises_sorted order ranks (kept_rows old)) in
    record {
      count = count ∙ own;
      few_least = subst (λ (rs : List Ranked). length rs ≤ most) (sym is)
          (taken_short most (sorted order (kept_rows old)));
      few_later = none_long new.later.items most later;
      behind = λ row e.
          let so : is_below row.keys row.row.number row.row.place (bound_at most kept) ≡ false =
          (λ i. is_below row.keys row.row.number row.row.place
          (bound_at (sym (count ∙ own) i) (sym is i))) ∙ e in
          let known = bound_behind most kept row rises (taken_short most (sorted order (kept_rows old))) so in (
            subst (λ (rs : List Ranked). most ≤ length rs) (sym all) known.0,
            subst (AllBehind row) (sym all) known.1,
          );
      least = ap (λ (rs : List Ranked). take most (sorted order rs)) all
          ∙ least_again order ranks most (kept_rows old) ∙ known_least;
    }

pub least_of : (held : LeastRows) (orders : List Order) (most : ℕ) (rows : List KeyedRow)
    (last : List Ranked) → HoldsLeast held orders most rows
    → last ≡ take held.most (sorted order (kept_rows held))
    → last ≡ take most (sorted order (map (ranked orders) rows))
least_of held orders most rows last holds is =
    is ∙ ap (λ (n : ℕ). take n (sorted order (kept_rows held))) holds.count ∙ holds.least

pub chosen_of : (orders : List Order) (most skip : ℕ) (limit : Option ℕ) (rows made found : List KeyedRow)
    (last : List Ranked) → room_of skip limit ≡ Some most
    → last ≡ take most (sorted order (map (ranked orders) rows))
    → made ≡ map (λ (r : Ranked). r.row) last → found ≡ limited limit (drop skip made)
    → found ≡ limited limit (drop skip (sorted (key_cmp orders) rows))
chosen_of orders most skip limit rows made found last room is rows_are chosen =
    let least : made ≡ limited (room_of skip limit) (sorted (key_cmp orders) rows) =
    rows_are ∙ ap (map (λ (r : Ranked). r.row)) is
    ∙ sym (take-map (λ (r : Ranked). r.row) most (sorted order (map (ranked orders) rows)))
    ∙ ap (take most) (rows_sorted directed_cmp same_order orders rows)
    ∙ ap (λ (o : Option ℕ). limited o (sorted (key_cmp orders) rows)) (sym room) in
    chosen ∙ ap (λ (rs : List KeyedRow). limited limit (drop skip rs)) least
    ∙ chosen_among skip limit (sorted (key_cmp orders) rows)

-- ---- a taker

-- the keys of a row are those of its document
record IsRowOf (values : List Value) (number : ℕ) (place : List ℕ) (row : KeyedRow) : Type 0 where
  values_are : row.values ≡ values
  number_is : row.number ≡ number
  place_is : row.place ≡ place

row_keyed : (values : List Value) (number : ℕ) (place : List ℕ) (value : Value) (row : KeyedRow)
    → keyed values number place value ≡ Some row → IsRowOf values number place row
row_keyed values number place Undefined row e = absurd (cc)
row_keyed values number place (Defined tree) row e =
    let same : record { values = values; number = number; place = place; shown = tree } ≡ row = cc in
    record {
      values_are = ap (λ (r : KeyedRow). r.values) (sym same);
      number_is = ap (λ (r : KeyedRow). r.number) (sym same);
      place_is = ap (λ (r : KeyedRow). r.place) (sym same);
    }

row_where : (b : Bool) (found : Option KeyedRow) (row : KeyedRow)
    → cond b found None ≡ Some row → found ≡ Some row
row_where true found row e = e
row_where false found row e = absurd (cc)

row_kept : (query : Query) (number : ℕ) (values : List Value) (bound : Bound) (row : KeyedRow)
    → keyed_where query number values bound ≡ Some row → IsRowOf values number bound.place row
row_kept query number values bound row e =
    row_keyed values number bound.place (shown query.pick bound.env) row
    (row_where (passes query.condition bound.env) _ row e)

abbrev bound_of : LeastTaker → Option Ranked
bound_of taker = bound_at taker.least.most taker.least.least.items

wanted_as : (taker : LeastTaker) (asked : LeastAsked) (rows : List KeyedRow) (bound : Bound)
    (row : KeyedRow) → TakesLeast taker asked rows → least_keeps asked bound ≡ Some row
    → is_wanted taker.least (ranked asked.query.orders row)
    ≡ is_below taker.keys taker.number bound.place (bound_of taker)
wanted_as taker asked rows bound row takes e =
    let of_row = row_kept asked.query asked.number (order_values asked.query asked.tree) bound row e in
    λ i. is_below
    ((ap (keys_of asked.query.orders) of_row.values_are ∙ sym takes.keys) i)
    ((of_row.number_is ∙ sym takes.under) i) (of_row.place_is i) (bound_of taker)

kept_by : (taker : LeastTaker) (asked : LeastAsked) (rows : List KeyedRow) (bound : Bound)
    → TakesLeast taker asked rows
    → least_keeps asked bound
    ≡ keyed_where taker.query.now taker.number (order_values taker.query.now taker.tree.now) bound
kept_by taker asked rows bound takes = λ i.
    keyed_where (sym takes.by i) (sym takes.under i) (order_values (sym takes.by i) (sym takes.within i)) bound

passed_in : (taker : LeastTaker) (asked : LeastAsked) (rows : List KeyedRow) (bound : Bound)
    (found : Option KeyedRow) → least_keeps asked bound ≡ found → TakesLeast taker asked rows
    → is_below taker.keys taker.number bound.place (bound_of taker) ≡ false
    → TakesLeast taker asked (rows ++ cons_option found [])
passed_in taker asked rows bound None is takes e =
    subst (TakesLeast taker asked) (sym (append-nil rows)) takes
passed_in taker asked rows bound (Some row) is takes e = record {
  by = takes.by;
  under = takes.under;
  within = takes.within;
  keys = takes.keys;
  least =
      passed_by taker.least asked.query.orders asked.most rows row takes.least
      (wanted_as taker asked rows bound row takes is ∙ e);
}

-- a row that is not below the bound is not looked at further
pub gains_passed : (taker : LeastTaker) (bound : Bound)
    → is_below taker.keys taker.number bound.place (bound_at taker.least.most taker.least.least.items) ≡ false
    → Gains TakesLeast least_keeps taker (bound ∷ []) taker
gains_passed taker bound e asked rows takes =
    passed_in taker asked rows bound (least_keeps asked bound) refl takes e

abbrev pub KeepsWanted : LeastTaker → Bound → LeastTaker → Type 0
KeepsWanted old bound new = (asked : LeastAsked) (rows : List KeyedRow) → TakesLeast old asked rows
    → is_below old.keys old.number bound.place (bound_at old.least.most old.least.least.items) ≡ true
    → TakesLeast new asked (rows ++ filter_map (least_keeps asked) (bound ∷ []))

pub gains_wanted : (old new : LeastTaker) (bound : Bound) → KeepsWanted old bound new
    → is_below old.keys old.number bound.place (bound_at old.least.most old.least.least.items) ≡ true
    → Gains TakesLeast least_keeps old (bound ∷ []) new
gains_wanted old new bound kept e asked rows takes = kept asked rows takes e

pub no_row_kept : (taker : LeastTaker) (bound : Bound) (found : Option KeyedRow)
    → found ≡ keyed_where taker.query.now taker.number (order_values taker.query.now taker.tree.now) bound
    → found ≡ None → KeepsWanted taker bound taker
no_row_kept taker bound found is none asked rows takes e =
    subst (λ (o : Option KeyedRow). TakesLeast taker asked (rows ++ cons_option o []))
    (sym (kept_by taker asked rows bound takes ∙ sym is ∙ none))
    (subst (TakesLeast taker asked) (sym (append-nil rows)) takes)

pub row_kept_so : (old new : LeastTaker) (bound : Bound) (found : Option KeyedRow) (row : KeyedRow)
    (made : Ranked)
    → found ≡ keyed_where old.query.now old.number (order_values old.query.now old.tree.now) bound
    → found ≡ Some row → made ≡ ranked old.query.now.orders row
    → new.query.now ≡ old.query.now → new.number ≡ old.number → new.tree.now ≡ old.tree.now
    → new.keys ≡ old.keys
    → ((orders : List Order) (most : ℕ) (rows : List KeyedRow) (shown : KeyedRow)
    → HoldsLeast old.least orders most rows → made ≡ ranked orders shown
    → is_wanted old.least made ≡ true → HoldsLeast new.least orders most (rows ++ shown ∷ []))
    → KeepsWanted old bound new
row_kept_so old new bound found row made is some made_is by under within keys put asked rows takes e =
    let one : least_keeps asked bound ≡ Some row = kept_by old asked rows bound takes ∙ sym is ∙ some in
    let so : made ≡ ranked asked.query.orders row =
    made_is ∙ ap (λ (q : Query). ranked q.orders row) takes.by in
    let wanted : is_wanted old.least made ≡ true =
    ap (is_wanted old.least) so ∙ wanted_as old asked rows bound row takes one ∙ e in
    subst (λ (o : Option KeyedRow). TakesLeast new asked (rows ++ cons_option o [])) (sym one)
    (record {
      by = by ∙ takes.by;
      under = under ∙ takes.under;
      within = within ∙ takes.within;
      keys = keys ∙ takes.keys;
      least = put asked.query.orders asked.most rows row takes.least so wanted;
    })

-- all rows of a document
pub of_document : (old new : LeastTaker) (query : Query) (number : ℕ) (tree : Tree)
    → old.query.now ≡ query → old.number ≡ number → old.tree.now ≡ tree
    → old.keys ≡ keys_of query.orders (order_values query tree)
    → Gains TakesLeast least_keeps old (rows_of_tree query.froms tree) new
    → (most : ℕ) (rows : List KeyedRow) → HoldsLeast old.least query.orders most rows
    → HoldsLeast new.least query.orders most (rows ++ keyed_rows query number tree)
of_document old new query number tree by under within keys gains most rows holds =
    (gains (record { query = query; number = number; tree = tree; most = most }) rows
    (record { by = by; under = under; within = within; keys = keys; least = holds })).least

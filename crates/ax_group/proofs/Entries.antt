-- The entries of the map are the groups, in their order: a row more, and a group more.
use Rattle.std.proofs.Common.{◌≡◌, List, [], ◌∷◌, ◌++◌, map, filter_map, Bool, true, cond, Some, None, refl, sym, ap, ap₂, ◌∙◌, subst}
use Rattle.std.proofs.lemmas.Bool.{false≢true}
use Rattle.std.proofs.lemmas.List.{map-append}
use Rattle.std.proofs.lemmas.Map.{lookup-none}
use Rattle.std.proofs.lemmas.Map.Entries.{none_below_head}
use Rattle.std.proofs.lemmas.Map.Keys.{sorted_tail}
use Rattle.std.specs.declared.cmp.Ordering.{Ordering}
use Rattle.std.specs.declared.cmp.Ordering.TheVariants.{Less, Equal, Greater}
use Rattle.std.specs.declared.cmp.Ord as ord
use Rattle.std.specs.BTreeMap.{insert_entry, is_at}
use Rattle.std.specs.Cmp.{IsTotalOrder}
use Rattle.std.specs.Cmp.Lexicographic.{slice_cmp}
use Rattle.std.specs.List.{cons_option}
use Rattle.std.specs.List.Sorted.{IsStrictlySortedBy}
use Rattle.std.specs.Map.{keys_of, lookup, set_value}
use Rattle.std.specs.Ordering.{is_eq, match_ordering, nat_cmp, int_cmp, on, then_cmp, ordering_then}
use denote.Param as param
use Rattle.ax_mean.specs.declared.expr.Expr.{Expr}
use Rattle.ax_mean.specs.declared.query.Pick.{Pick}
use Rattle.ax_mean.specs.declared.value.Value.{Value}
use Rattle.ax_mean.specs.Meaning.{Env, meaning}
use Rattle.ax_mean.specs.declared.value.Value.TheVariants.{Undefined}
use Rattle.ax_mean.specs.Aggregates.{has_some}
use Rattle.ax_mean.specs.Rows.{first_bound, keyed}
use Rattle.ax_mean.specs.ValueOrder.{value_cmp}
use Rattle.ax_group.specs.contracts.key.GroupKeyOrd.TheImpl as group_order
use Rattle.ax_group.specs.contracts.key.GroupKeyOrd.TheImpl.Laws.{total-law}
use Rattle.ax_group.specs.contracts.key.SortKeyOrd.TheImpl as sort_order
use Rattle.ax_group.specs.declared.key.GroupKey.{GroupKey}
use Rattle.ax_group.specs.declared.key.SortKey.{SortKey}
use Rattle.ax_group.specs.declared.state.State.{State}
use Rattle.ax_group.specs.declared.tally.Tally.{Tally}
use Rattle.ax_group.specs.declared.tally.Tally.TheVariants as tally
use Rattle.ax_result.specs.Groups.{Group, group_values, values_cmp, alone, and_row, placed, with_row, groups_before, with_rows, groups_of, first_env, group_row}
use Rattle.ax_group.specs.Keys.{Key, value_key, seen_key, seen_keys}
use Rattle.ax_group.specs.States.{argument_in, arguments_in, start_in, started, tally_over, tallies_of, tallies_with, IsState, AreEntries, state_row}
use Rattle.ax_group.specs.Tallies.{tally_with, tally_from, value_of}
use Rattle.ax_group.specs.Walks.{Ask, TotalOf, PartOf, FirstAlias, answer_over, answers_over, asked_by, shown_by}
use Rattle.ax_group.proofs.Filling.{picked}
use Rattle.ax_group.proofs.TallyLaws.{tally_is_aggregate}

-- ---- the order of keys is that of the values

abbrev pub key_order : GroupKey → GroupKey → Ordering
key_order = param.read (ord.Ghosts.cmp {X-1 = GroupKey}) group_order.ghosts

abbrev single_order : SortKey → SortKey → Ordering
single_order = param.read (ord.Ghosts.cmp {X-1 = SortKey}) sort_order.ghosts

pub key_order_total : IsTotalOrder key_order
key_order_total = total-law

abbrev seen_cmp : Key → Key → Ordering
seen_cmp =
    then_cmp (on (λ (k : Key). k.0) nat_cmp)
    (then_cmp (on (λ (k : Key). k.1) int_cmp) (on (λ (k : Key). k.2) (slice_cmp nat_cmp)))

single_seen : (x y : SortKey) → single_order x y ≡ seen_cmp (seen_key x) (seen_key y)
single_seen x y = refl

keys_seen : (xs ys : List SortKey)
    → slice_cmp single_order xs ys ≡ slice_cmp seen_cmp (map seen_key xs) (map seen_key ys)
keys_seen [] [] = refl
keys_seen [] (y ∷ ys) = refl
keys_seen (x ∷ xs) [] = refl
keys_seen (x ∷ xs) (y ∷ ys) = λ i. ordering_then (single_seen x y i) (keys_seen xs ys i)

values_seen : (vs ws : List Value)
    → slice_cmp seen_cmp (map value_key vs) (map value_key ws) ≡ values_cmp vs ws
values_seen [] [] = refl
values_seen [] (w ∷ ws) = refl
values_seen (v ∷ vs) [] = refl
values_seen (v ∷ vs) (w ∷ ws) = ap (ordering_then (value_cmp v w)) (values_seen vs ws)

order_seen : (a b : GroupKey) → key_order a b ≡ slice_cmp seen_cmp (seen_keys a) (seen_keys b)
order_seen a b = keys_seen a.keys.items b.keys.items

order_of_values : (a b : GroupKey) (vs ws : List Value) → seen_keys a ≡ map value_key vs
    → seen_keys b ≡ map value_key ws → key_order a b ≡ values_cmp vs ws
order_of_values a b vs ws p q =
    order_seen a b ∙ ap (λ ks. slice_cmp seen_cmp ks (seen_keys b)) p
    ∙ ap (slice_cmp seen_cmp (map value_key vs)) q ∙ values_seen vs ws

-- ---- a state with a row more

tally_more : (t : Tally) (vs : List Value) (v : Value)
    → tally_with (tally_from t vs) v ≡ tally_from t (vs ++ v ∷ [])
tally_more t [] v = refl
tally_more t (w ∷ vs) v = tally_more (tally_with t w) vs v

-- the first row stays the first
first_stays : (envs : List Env) (env : Env) → has_some envs ≡ true
    → first_env (envs ++ env ∷ []) ≡ first_env envs
first_stays [] env h = absurd (false≢true h)
first_stays (e ∷ envs) env h = refl

one_more : (envs : List Env) (env : Env) (ask : Ask) → has_some envs ≡ true
    → tally_with (tally_over envs ask) (argument_in env ask) ≡ tally_over (envs ++ env ∷ []) ask
one_more envs env ask h =
    let values : Env → Value = λ e. argument_in e ask in
    tally_more (start_in (first_env envs) ask) (map values envs) (values env)
    ∙ ap (tally_from (start_in (first_env envs) ask)) (sym (map-append values envs (env ∷ [])))
    ∙ ap (λ e. tally_from (start_in e ask) (map values (envs ++ env ∷ [])))
    (sym (first_stays envs env h))

tallies_more : (asks : List Ask) (envs : List Env) (env : Env) → has_some envs ≡ true
    → tallies_with (tallies_of asks envs) (arguments_in asks env) ≡ tallies_of asks (envs ++ env ∷ [])
tallies_more [] envs env h = refl
tallies_more (ask ∷ asks) envs env h =
    ap₂ (λ t ts. t ∷ ts) (one_more envs env ask h) (tallies_more asks envs env h)

tallies_begin : (asks : List Ask) (env : Env)
    → tallies_with (started asks env) (arguments_in asks env) ≡ tallies_of asks (env ∷ [])
tallies_begin [] env = refl
tallies_begin (ask ∷ asks) env =
    ap (λ ts. tally_over (env ∷ []) ask ∷ ts) (tallies_begin asks env)

more_has_some : (envs : List Env) (env : Env) → has_some (envs ++ env ∷ []) ≡ true
more_has_some [] env = refl
more_has_some (e ∷ envs) env = refl

-- what a state is after a row
pub record IsAfter (old : State) (arguments : List Value) (new : State) : Type 0 where
  pub values : new.values ≡ old.values
  pub tallies : new.tallies.items ≡ tallies_with old.tallies.items arguments

state_more : (asks : List Ask) (group : Group) (env : Env) (arguments : List Value) (old new : State)
    → arguments ≡ arguments_in asks env → IsAfter old arguments new → IsState asks group old
    → IsState asks (and_row group env) new
state_more asks group env arguments old new e after h = (
  after.values ∙ h.0,
  more_has_some group.envs env,
  after.tallies ∙ ap (λ ts. tallies_with ts arguments) h.2
      ∙ ap (tallies_with (tallies_of asks group.envs)) e ∙ tallies_more asks group.envs env h.1,
)

-- the state of a group with one row
pub alone_state : (asks : List Ask) (values : List Value) (env : Env) (arguments : List Value)
    (state : State) → arguments ≡ arguments_in asks env → state.values ≡ values
    → state.tallies.items ≡ tallies_with (started asks env) arguments
    → IsState asks (alone values env) state
alone_state asks values env arguments state e v t =
    (v, refl, t ∙ ap (tallies_with (started asks env)) e ∙ tallies_begin asks env)

-- ---- a row in its group

some_is_not : {X : Type 0} {A : Type 0} (x : X) → Some x ≡ None → A
some_is_not x h = absurd (let e : ⊥ = cc in e)

none_is_not : {X : Type 0} {A : Type 0} (x : X) → None ≡ Some x → A
none_is_not x h = absurd (let e : ⊥ = cc in e)

some_same : {X : Type 0} (x y : X) → Some x ≡ Some y → x ≡ y
some_same x y h = cc

module _ (asks : List Ask) (values : List Value) (env : Env) (key : GroupKey)
    (is : seen_keys key ≡ map value_key values) where
  abbrev Entry : Type 0
  Entry = GroupKey × State

  abbrev here : GroupKey → Bool
  here = is_at (key_order key)

  -- no group has these values yet
  pub new_group : (groups : List Group) (entries : List Entry) (state : State)
      → IsState asks (alone values env) state → AreEntries asks groups entries
      → lookup here entries ≡ None
      → AreEntries asks (with_row values env groups) (insert_entry key_order entries key state)
  new_group [] [] state h are none = ((is, h), tt)
  new_group [] (entry ∷ entries) state h are none = absurd are
  new_group (group ∷ groups) [] state h are none = absurd are
  new_group (group ∷ groups) (entry ∷ entries) state h are none =
      subst (λ (o : Ordering). AreEntries asks
      (placed o values env group groups (with_row values env groups))
      (match_ordering (key_order key entry.0) ((key, state) ∷ entry ∷ entries)
      ((entry.0, state) ∷ entries) (entry ∷ insert_entry key_order entries key state)))
      (order_of_values key entry.0 values group.values is are.0.0)
      (by (key_order key entry.0) none (new_group groups entries state h are.1))
    where
      by : (o : Ordering) → cond (is_eq o) (Some entry.1) (lookup here entries) ≡ None
          → (lookup here entries ≡ None → AreEntries asks (with_row values env groups)
          (insert_entry key_order entries key state))
          → AreEntries asks (placed o values env group groups (with_row values env groups))
          (match_ordering o ((key, state) ∷ entry ∷ entries)
          ((entry.0, state) ∷ entries) (entry ∷ insert_entry key_order entries key state))
      by Less n rest = ((is, h), are)
      by Equal n rest = some_is_not entry.1 n
      by Greater n rest = (are.0, rest n)

  -- the group of these values is there
  pub same_group : (groups : List Group) (entries : List Entry) (arguments : List Value)
      (old new : State) → arguments ≡ arguments_in asks env → IsAfter old arguments new
      → IsStrictlySortedBy key_order (keys_of entries) → AreEntries asks groups entries
      → lookup here entries ≡ Some old
      → AreEntries asks (with_row values env groups) (set_value here entries new)
  same_group [] [] arguments old new e after up are found = none_is_not old found
  same_group [] (entry ∷ entries) arguments old new e after up are found = absurd are
  same_group (group ∷ groups) [] arguments old new e after up are found = absurd are
  same_group (group ∷ groups) (entry ∷ entries) arguments old new e after up are found =
      subst (λ (o : Ordering). AreEntries asks
      (placed o values env group groups (with_row values env groups))
      (cond (is_eq (key_order key entry.0)) ((entry.0, new) ∷ entries)
      (entry ∷ set_value here entries new)))
      (order_of_values key entry.0 values group.values is are.0.0)
      (by (key_order key entry.0) refl found
      (same_group groups entries arguments old new e after (sorted_tail key_order entry.0 (keys_of entries) up)
      are.1))
    where
      by : (o : Ordering) → key_order key entry.0 ≡ o
          → cond (is_eq o) (Some entry.1) (lookup here entries) ≡ Some old
          → (lookup here entries ≡ Some old → AreEntries asks (with_row values env groups)
          (set_value here entries new))
          → AreEntries asks (placed o values env group groups (with_row values env groups))
          (cond (is_eq o) ((entry.0, new) ∷ entries) (entry ∷ set_value here entries new))
      by Less o f rest =
          none_is_not old
          (sym (lookup-none here entries (none_below_head key_order_total key entry entries up o).1) ∙ f)
      by Equal o f rest = (
        (
          are.0.0,
          state_more asks group env arguments entry.1 new e
              (subst (λ (s : State). IsAfter s arguments new) (sym (some_same entry.1 old f)) after)
              are.0.1,
        ),
        are.1,
      )
      by Greater o f rest = (are.0, rest f)

-- ---- the rows

-- what stays a value of the first row
first_holds : (value : Value) (envs : List Env)
    → tally_from (tally.First value) (map (λ (env : Env). Undefined) envs) ≡ tally.First value
first_holds value [] = refl
first_holds value (env ∷ envs) = first_holds value envs

answer_comes : (ask : Ask) (envs : List Env)
    → value_of (tally_over envs ask) ≡ answer_over envs ask
answer_comes (TotalOf which argument) envs =
    tally_is_aggregate which (map (λ env. meaning env argument) envs)
answer_comes (PartOf part) envs =
    ap value_of (first_holds (meaning (first_env envs) part) envs)
answer_comes FirstAlias envs = ap value_of (first_holds (first_bound (first_env envs)) envs)

answers_come : (asks : List Ask) (envs : List Env)
    → map value_of (tallies_of asks envs) ≡ answers_over envs asks
answers_come [] envs = refl
answers_come (ask ∷ asks) envs =
    ap₂ (λ v vs. v ∷ vs) (answer_comes ask envs) (answers_come asks envs)

-- what a group shows by its tallies
row_by_tallies : (pick : Pick) (group : Group) (state : State) → state.values ≡ group.values
    → state.tallies.items ≡ tallies_of (asked_by pick) group.envs
    → state_row pick state ≡ group_row pick group
row_by_tallies pick group state v t =
    ap (λ vs. keyed vs 0 [] (shown_by pick (map value_of state.tallies.items))) v
    ∙ ap (λ ts. keyed group.values 0 [] (shown_by pick (map value_of ts))) t
    ∙ ap (λ vs. keyed group.values 0 [] (shown_by pick vs))
    (answers_come (asked_by pick) group.envs)
    ∙ ap (keyed group.values 0 []) (picked group.envs pick)

row_of_state : (pick : Pick) (group : Group) (state : State) → IsState (asked_by pick) group state
    → state_row pick state ≡ group_row pick group
row_of_state pick group state h = row_by_tallies pick group state h.0 h.2

tallies_of_none : (asks : List Ask) → started asks [] ≡ tallies_of asks []
tallies_of_none [] = refl
tallies_of_none (ask ∷ asks) = ap (λ ts. start_in [] ask ∷ ts) (tallies_of_none asks)

-- what the group of all rows shows, where there is no row
pub row_of_none : (pick : Pick) (state : State) → state.values ≡ []
    → state.tallies.items ≡ started (asked_by pick) []
    → filter_map (group_row pick) (groups_before []) ≡ cons_option (state_row pick state) []
row_of_none pick state v t =
    ap (λ row. cons_option row [])
    (sym (row_by_tallies pick (record { values = []; envs = [] }) state v
    (t ∙ tallies_of_none (asked_by pick))))

pub rows_of_entries : (pick : Pick) (groups : List Group) (entries : List (GroupKey × State))
    → AreEntries (asked_by pick) groups entries
    → filter_map (λ (entry : GroupKey × State). state_row pick entry.1) entries
    ≡ filter_map (group_row pick) groups
rows_of_entries pick [] [] are = refl
rows_of_entries pick [] (entry ∷ entries) are = absurd are
rows_of_entries pick (group ∷ groups) [] are = absurd are
rows_of_entries pick (group ∷ groups) (entry ∷ entries) are =
    λ i. cons_option (row_of_state pick group entry.1 are.0.1 i) (rows_of_entries pick groups entries are.1 i)

-- ---- one row after another

rows_then_one : (exprs : List Expr) (groups : List Group) (envs : List Env) (env : Env)
    → with_rows exprs groups (envs ++ env ∷ [])
    ≡ with_row (group_values exprs env) env (with_rows exprs groups envs)
rows_then_one exprs groups [] env = refl
rows_then_one exprs groups (e ∷ envs) env =
    rows_then_one exprs (with_row (group_values exprs e) e groups) envs env

pub groups_more : (exprs : List Expr) (envs : List Env) (env : Env)
    → with_rows exprs [] (envs ++ env ∷ [])
    ≡ with_row (group_values exprs env) env (with_rows exprs [] envs)
groups_more exprs envs env = rows_then_one exprs [] envs env

-- with GROUP BY, and where there is a row, all groups are those that rows make
pub groups_by_rows : (expr : Expr) (exprs : List Expr) (envs : List Env)
    → groups_of (expr ∷ exprs) envs ≡ with_rows (expr ∷ exprs) [] envs
groups_by_rows expr exprs envs = refl

pub groups_of_some : (exprs : List Expr) (env : Env) (envs : List Env)
    → groups_of exprs (env ∷ envs) ≡ with_rows exprs [] (env ∷ envs)
groups_of_some [] env envs = refl
groups_of_some (expr ∷ exprs) env envs = refl

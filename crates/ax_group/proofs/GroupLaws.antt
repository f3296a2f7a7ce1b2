-- What each call of `Groups` does to the groups that it holds.
use Rattle.std.proofs.Common.{◌≡◌, List, [], ◌∷◌, ◌++◌, map, filter_map, true, false, ◌||◌, BTreeMap, MutBor, Option, Some, None, refl, sym, ap, ◌∙◌, subst}
use Rattle.std.proofs.lemmas.Bool.{or_parts, false≢true}
use Rattle.std.proofs.lemmas.Map.Steps.{set_value_same}
use Rattle.std.specs.declared.cmp.Ordering.{Ordering}
use Rattle.std.specs.declared.cmp.Ordering.TheVariants.{Less, Equal, Greater}
use Rattle.std.specs.BTreeMap.{get_by, is_at, insert_entry, IsOrdered}
use Rattle.std.specs.List.{cons_option}
use Rattle.std.specs.Map.{lookup, set_value}
use Rattle.std.specs.Option.{option_copied_mut}
use Rattle.ax_mean.specs.declared.expr.Expr.{Expr}
use Rattle.ax_mean.specs.declared.query.KeyedRow.{KeyedRow}
use Rattle.ax_mean.specs.declared.query.Pick.{Pick}
use Rattle.ax_mean.specs.declared.query.Query.{Query}
use Rattle.ax_mean.specs.declared.value.Value.{Value}
use Rattle.ax_mean.specs.Aggregates.{has_some}
use Rattle.ax_mean.specs.Meaning.{Env}
use Rattle.ax_group.specs.declared.asked.Asked.{Asked}
use Rattle.ax_group.specs.declared.groups.Groups.{Groups}
use Rattle.ax_group.specs.declared.key.GroupKey.{GroupKey}
use Rattle.ax_group.specs.declared.state.State.{State}
use Rattle.ax_result.specs.Groups.{Group, group_row, group_rows, group_values, groups_before, groups_of, placed, values_cmp, with_row, with_rows}
use Rattle.ax_group.specs.Keys.{seen_keys, value_key}
use Rattle.ax_group.specs.States.{AreEntries, Holds, arguments_in, started, tallies_with, state_row}
use Rattle.ax_group.specs.Walks.{Ask, asks_of, asked_by}
use Rattle.ax_group.proofs.Entries.{key_order, alone_state, new_group, same_group, groups_more, groups_of_some, row_of_none, rows_of_entries}

abbrev Entries : Type 0
Entries = List (GroupKey × State)

-- what putting a row into its group does, for all groups
abbrev Puts : List Ask → List Value → Env → Entries → Entries → Type 0
Puts asks values env old new = (groups : List Group) → AreEntries asks groups old
    → AreEntries asks (with_row values env groups) new

pub begins : (held : Groups) (query : Query) (asks : List Ask) (entries : Entries)
    → held.query.now ≡ query → asks_of held.asked.items ≡ asks → asks ≡ asked_by query.pick
    → held.states.entries ≡ entries → entries ≡ [] → Holds held query []
begins held query asks entries q a p s none = (
  q,
  a ∙ p,
  subst (λ (es : Entries). AreEntries (asked_by query.pick) [] es) (sym (s ∙ none)) tt,
)

pub adds : (old new : Groups) (env : Env) (values : List Value)
    → new.query.now ≡ old.query.now → new.asked.items ≡ old.asked.items
    → values ≡ group_values old.query.now.groups env
    → Puts (asks_of old.asked.items) values env old.states.entries new.states.entries
    → (query : Query) (envs : List Env) → Holds old query envs → Holds new query (envs ++ env ∷ [])
adds old new env values q a v puts query envs h = (
  q ∙ h.0,
  ap asks_of a ∙ h.1,
  subst (λ (groups : List Group). AreEntries (asked_by query.pick) groups new.states.entries)
      (sym (groups_more query.groups envs env))
      (subst (λ (vs : List Value). AreEntries (asked_by query.pick)
      (with_row vs env (with_rows query.groups [] envs)) new.states.entries)
      (v ∙ ap (λ (held : Query). group_values held.groups env) h.0)
      (subst (λ (asks : List Ask). Puts asks values env old.states.entries new.states.entries) h.1 puts
      (with_rows query.groups [] envs) h.2)),
)

-- the same, where the aggregates are looked at twice
pub added : (old new : Groups) (env : Env) (key : GroupKey) (values arguments : List Value)
    (first second : List Asked) → first ≡ old.asked.items → second ≡ old.asked.items
    → new.query.now ≡ old.query.now → new.asked.items ≡ old.asked.items
    → seen_keys key ≡ map value_key (group_values old.query.now.groups env)
    → values ≡ group_values old.query.now.groups env → arguments ≡ arguments_in (asks_of first) env
    → ((groups : List Group) → AreEntries (asks_of second) groups old.states.entries
    → seen_keys key ≡ map value_key values → arguments ≡ arguments_in (asks_of second) env
    → AreEntries (asks_of second) (with_row values env groups) new.states.entries)
    → (query : Query) (envs : List Env) → Holds old query envs → Holds new query (envs ++ env ∷ [])
added old new env key values arguments first second e f q a k v u puts =
    let same : first ≡ second = e ∙ sym f in
    let given : Puts (asks_of second) values env old.states.entries new.states.entries = λ groups are.
    puts groups are (k ∙ ap (map value_key) (sym v))
    (u ∙ ap (λ (xs : List Asked). arguments_in (asks_of xs) env) same) in
    adds old new env values q a v
    (subst (λ (xs : List Asked). Puts (asks_of xs) values env old.states.entries new.states.entries)
    f given)

-- the groups that rows make are all, where a row or GROUP BY is there
all_groups : (held : Groups) (query : Query) (envs : List Env) → Holds held query envs
    → (has_some held.query.now.groups || has_some held.states.entries) ≡ true
    → with_rows query.groups [] envs ≡ groups_of query.groups envs
all_groups held query (env ∷ envs) h some = sym (groups_of_some query.groups env envs)
all_groups held query [] h some =
    by query.groups held.states.entries h.2
    (ap (λ (q : Query). has_some q.groups || has_some held.states.entries) (sym h.0) ∙ some)
  where
    by : (exprs : List Expr) (entries : Entries)
        → AreEntries (asked_by query.pick) (with_rows exprs [] []) entries
        → (has_some exprs || has_some entries) ≡ true
        → with_rows exprs [] [] ≡ groups_of exprs []
    by (x ∷ exprs) entries are e = refl
    by [] [] are e = absurd (false≢true e)
    by [] (entry ∷ entries) are e = absurd are

pub finishes : (held : Groups) (rows : List KeyedRow)
    → (has_some held.query.now.groups || has_some held.states.entries) ≡ true
    → rows ≡ filter_map (λ (entry : GroupKey × State). state_row held.query.now.pick entry.1)
    held.states.entries
    → (query : Query) (envs : List Env) → Holds held query envs → rows ≡ group_rows query envs
finishes held rows some e query envs h =
    e
    ∙ ap (λ (q : Query). filter_map (λ (entry : GroupKey × State). state_row q.pick entry.1)
    held.states.entries) h.0
    ∙ rows_of_entries query.pick (with_rows query.groups [] envs) held.states.entries h.2
    ∙ ap (filter_map (group_row query.pick)) (all_groups held query envs h some)

-- ---- no row

placed_some : (o : Ordering) (values : List Value) (env : Env) (group : Group)
    (groups rest : List Group) → has_some (placed o values env group groups rest) ≡ true
placed_some Less values env group groups rest = refl
placed_some Equal values env group groups rest = refl
placed_some Greater values env group groups rest = refl

row_some : (values : List Value) (env : Env) (groups : List Group)
    → has_some (with_row values env groups) ≡ true
row_some values env [] = refl
row_some values env (group ∷ groups) =
    placed_some (values_cmp values group.values) values env group groups
    (with_row values env groups)

rows_some : (exprs : List Expr) (groups : List Group) (envs : List Env)
    → has_some groups ≡ true → has_some (with_rows exprs groups envs) ≡ true
rows_some exprs groups [] h = h
rows_some exprs groups (env ∷ envs) h =
    rows_some exprs (with_row (group_values exprs env) env groups) envs
    (row_some (group_values exprs env) env groups)

no_entries : (asks : List Ask) (groups : List Group) → AreEntries asks groups []
    → has_some groups ≡ false
no_entries asks [] are = refl
no_entries asks (group ∷ groups) are = absurd are

no_rows : (asks : List Ask) (exprs : List Expr) (envs : List Env)
    → AreEntries asks (with_rows exprs [] envs) [] → envs ≡ []
no_rows asks exprs [] are = refl
no_rows asks exprs (env ∷ envs) are =
    absurd (false≢true
    (sym (no_entries asks (with_rows exprs [] (env ∷ envs)) are)
    ∙ rows_some exprs (with_row (group_values exprs env) env []) envs
    (row_some (group_values exprs env) env [])))

no_entry : (entries : Entries) → has_some entries ≡ false → entries ≡ []
no_entry [] h = refl
no_entry (entry ∷ entries) h = absurd (false≢true (sym h))

no_expr : (exprs : List Expr) → has_some exprs ≡ false → exprs ≡ []
no_expr [] h = refl
no_expr (x ∷ xs) h = absurd (false≢true (sym h))

-- the one group of all rows, where there is no row
pub ends_without_rows : (held : Groups) (rows : List KeyedRow)
    → (has_some held.query.now.groups || has_some held.states.entries) ≡ false
    → (asks_of held.asked.items ≡ asked_by held.query.now.pick
    → rows ≡ filter_map (group_row held.query.now.pick) (groups_before []))
    → (query : Query) (envs : List Env) → Holds held query envs → rows ≡ group_rows query envs
ends_without_rows held rows none shows query envs h =
    let parts = or_parts (has_some held.query.now.groups) (has_some held.states.entries) none in
    let entries = no_entry held.states.entries parts.1 in
    let exprs = ap (λ (q : Query). q.groups) (sym h.0) ∙ no_expr held.query.now.groups parts.0 in
    let envs_none = no_rows (asked_by query.pick) query.groups envs
    (subst (λ (es : Entries). AreEntries (asked_by query.pick) (with_rows query.groups [] envs) es)
    entries h.2) in
    shows (h.1 ∙ ap (λ (q : Query). asked_by q.pick) (sym h.0))
    ∙ ap (λ (q : Query). filter_map (group_row q.pick) (groups_before [])) h.0
    ∙ ap (filter_map (group_row query.pick))
    (ap groups_before (sym exprs) ∙ ap (groups_of query.groups) (sym envs_none))

-- what that group shows
pub shows_without_rows : (pick : Pick) (asks : List Ask) (state : State) (rows : List KeyedRow)
    → state.values ≡ [] → state.tallies.items ≡ started asks []
    → rows ≡ cons_option (state_row pick state) [] → asks ≡ asked_by pick
    → rows ≡ filter_map (group_row pick) (groups_before [])
shows_without_rows pick asks state rows v t e a =
    e ∙ sym (row_of_none pick state v (t ∙ ap (λ xs. started xs []) a))

-- ---- a row put into the map

abbrev States : Type 0
States = BTreeMap GroupKey State

pub puts_there : (asks : List Ask) (values arguments : List Value) (env : Env) (key : GroupKey)
    (old new : States) (r : Option (MutBor State)) (slot : MutBor State) (w : State) → r ≡ Some slot
    → option_copied_mut r ≡ get_by (key_order key) old → IsOrdered key_order old
    → w.values ≡ slot.now.values → w.tallies.items ≡ tallies_with slot.now.tallies.items arguments
    → new.entries ≡ set_value (is_at (key_order key)) old.entries w → (groups : List Group)
    → AreEntries asks groups old.entries → seen_keys key ≡ map value_key values
    → arguments ≡ arguments_in asks env → AreEntries asks (with_row values env groups) new.entries
puts_there asks values arguments env key old new r slot w is value up v t written groups are k a =
    subst (λ (es : Entries). AreEntries asks (with_row values env groups) es) (sym written)
    (same_group asks values env key k groups old.entries arguments slot.now w a
    (record { values = v; tallies = t }) up are
    (sym value ∙ ap option_copied_mut is))

-- a state that is left as it was leaves the map as it was
pub stays_there : (key : GroupKey) (old new : States) (r : Option (MutBor State)) (slot : MutBor State)
    (w : State) → r ≡ Some slot → option_copied_mut r ≡ get_by (key_order key) old → w ≡ slot.now
    → new.entries ≡ set_value (is_at (key_order key)) old.entries w → new.entries ≡ old.entries
stays_there key old new r slot w is value same written =
    written
    ∙ set_value_same (is_at (key_order key)) old.entries w
    (sym value ∙ ap option_copied_mut is ∙ ap (λ (state : State). Some state) (sym same))

pub not_there : (key : GroupKey) (old : States) (r : Option (MutBor State)) → r ≡ None
    → option_copied_mut r ≡ get_by (key_order key) old
    → lookup (is_at (key_order key)) old.entries ≡ None
not_there key old r is value = sym value ∙ ap option_copied_mut is

pub puts_new : (asks : List Ask) (values arguments : List Value) (env : Env) (key : GroupKey)
    (state : State) (old new : Entries) → state.values ≡ values
    → state.tallies.items ≡ tallies_with (started asks env) arguments
    → new ≡ insert_entry key_order old key state → (groups : List Group)
    → AreEntries asks groups old → lookup (is_at (key_order key)) old ≡ None
    → seen_keys key ≡ map value_key values → arguments ≡ arguments_in asks env
    → AreEntries asks (with_row values env groups) new
puts_new asks values arguments env key state old new v t written groups are none k a =
    subst (λ (es : Entries). AreEntries asks (with_row values env groups) es) (sym written)
    (new_group asks values env key k groups old state
    (alone_state asks values env arguments state a v t) are none)

-- where the entries stay, what is held stays
pub stays : (old new : Groups) → new.query.now ≡ old.query.now → new.asked.items ≡ old.asked.items
    → new.states.entries ≡ old.states.entries → (query : Query) (envs : List Env)
    → Holds old query envs → Holds new query envs
stays old new q a s query envs h = (
  q ∙ h.0,
  ap asks_of a ∙ h.1,
  subst (λ (es : Entries). AreEntries (asked_by query.pick) (with_rows query.groups [] envs) es) (sym s)
      h.2,
)

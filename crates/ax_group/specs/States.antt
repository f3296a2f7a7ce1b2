-- What is kept of a group, and what is kept of all groups.
use Rattle.std.specs.Prelude.{◌≡◌, ⊤, ℕ, zero, suc, List, [], ◌∷◌, map, true, Option}
use Rattle.ax_mean.specs.declared.query.KeyedRow.{KeyedRow}
use Rattle.ax_mean.specs.declared.query.Pick.{Pick}
use Rattle.ax_mean.specs.declared.query.Query.{Query}
use Rattle.ax_mean.specs.declared.value.Value.{Value}
use Rattle.ax_mean.specs.declared.value.Value.TheVariants.{Undefined}
use Rattle.ax_mean.specs.Aggregates.{has_some}
use Rattle.ax_mean.specs.Meaning.{Env, meaning}
use Rattle.ax_mean.specs.Rows.{first_bound, keyed}
use Rattle.ax_group.specs.declared.groups.Groups as groups
use Rattle.ax_group.specs.declared.key.GroupKey.{GroupKey}
use Rattle.ax_group.specs.declared.state.State.{State}
use Rattle.ax_group.specs.declared.tally.Tally.{Tally}
use Rattle.ax_group.specs.declared.tally.Tally.TheVariants as tally
use Rattle.ax_result.specs.Groups.{Group, first_env, with_rows}
use Rattle.ax_group.specs.Keys.{seen_keys, value_key}
use Rattle.ax_group.specs.Tallies.{tally_from, tally_with, value_of, start}
use Rattle.ax_group.specs.Walks.{Ask, TotalOf, PartOf, FirstAlias, asks_of, asked_by, shown_by}

-- a row's value for what is asked for, by which its tally goes on
abbrev pub argument_in : Env → Ask → Value
argument_in env (TotalOf which argument) = meaning env argument
argument_in env (PartOf part) = Undefined
argument_in env FirstAlias = Undefined

abbrev pub arguments_in : List Ask → Env → List Value
arguments_in asks env = map (argument_in env) asks

-- the tally that a group begins with, by its first row
abbrev pub start_in : Env → Ask → Tally
start_in env (TotalOf which argument) = start which
start_in env (PartOf part) = tally.First (meaning env part)
start_in env FirstAlias = tally.First (first_bound env)

abbrev pub started : List Ask → Env → List Tally
started asks env = map (start_in env) asks

abbrev pub tally_over : List Env → Ask → Tally
tally_over envs ask =
    tally_from (start_in (first_env envs) ask) (map (λ env. argument_in env ask) envs)

-- a tally for each thing asked for
abbrev pub tallies_of : List Ask → List Env → List Tally
tallies_of asks envs = map (tally_over envs) asks

-- one value more for each tally
abbrev pub tallies_with : List Tally → List Value → List Tally
tallies_with [] values = []
tallies_with (t ∷ ts) [] = t ∷ ts
tallies_with (t ∷ ts) (value ∷ values) = tally_with t value ∷ tallies_with ts values

-- a group that has a row
abbrev pub IsState : List Ask → Group → State → Type 0
IsState asks group state = (state.values ≡ group.values) × (has_some group.envs ≡ true)
    × (state.tallies.items ≡ tallies_of asks group.envs)

abbrev pub IsEntry : List Ask → Group → GroupKey × State → Type 0
IsEntry asks group entry =
    (seen_keys entry.0 ≡ map value_key group.values) × IsState asks group entry.1

-- the entries are those of the groups, in their order
abbrev pub AreEntries : List Ask → List Group → List (GroupKey × State) → Type 0
AreEntries asks [] [] = ⊤
AreEntries asks [] (entry ∷ entries) = ⊥
AreEntries asks (group ∷ groups) [] = ⊥
AreEntries asks (group ∷ groups) (entry ∷ entries) =
    IsEntry asks group entry × AreEntries asks groups entries

-- `held` are the groups of a query after these rows, without the one that there is where no row is
abbrev pub Holds : groups.Groups → Query → List Env → Type 0
Holds held query envs = (held.query.now ≡ query) × (asks_of held.asked.items ≡ asked_by query.pick)
    × AreEntries (asked_by query.pick) (with_rows query.groups [] envs) held.states.entries

-- the row that a state shows
abbrev pub state_row : Pick → State → Option KeyedRow
state_row picked state =
    keyed state.values 0 [] (shown_by picked (map value_of state.tallies.items))

-- one value more for the tally at that position
abbrev pub with_one : ℕ → Value → List Tally → List Tally
with_one n value [] = []
with_one zero value (t ∷ ts) = tally_with t value ∷ ts
with_one (suc n) value (t ∷ ts) = t ∷ with_one n value ts

-- Conditions on members of a document, and what they tell of a query: a document of which one does
-- not hold has no rows in it.
use Rattle.std.specs.Prelude.{◌≡◌, ℕ, List, [], Bool, true, not}
use Rattle.std.specs.List.{list_any}
use Rattle.ax_tree.specs.declared.tree.Tree.{Tree}
use Rattle.ax_mean.specs.declared.query.Query.{Query}
use Rattle.ax_mean.specs.declared.value.Value.{Value}
use Rattle.ax_mean.specs.Meaning.{is_yes}
use Rattle.ax_mean.specs.Operators.{binary}
use Rattle.ax_mean.specs.Rows.{envs_of_tree, keyed_rows}
use Rattle.ax_mean.specs.Steps.{steps_from}
use Rattle.ax_mean.specs.Values.{truth_of}
use Rattle.ax_mean.specs.declared.value.Value.TheVariants.{Defined}
use Rattle.ax_sieve.specs.declared.condition.Condition.{Condition}
use Rattle.ax_sieve.specs.declared.sieve.Sieve.{Sieve}
use Rattle.ax_sieve.specs.Literals.{literal_value}

-- the value of the comparison, in a document
abbrev pub value : Condition → Tree → Value
value condition tree =
    binary condition.op (steps_from (Defined tree) condition.steps.now) (literal_value condition.literal)

abbrev pub holds : Condition → Tree → Bool
holds condition tree = is_yes (truth_of (value condition tree))

abbrev pub one_fails : List Condition → Tree → Bool
one_fails conditions tree = list_any (λ condition. not (holds condition tree)) conditions

-- one of the conditions does not hold
abbrev pub is_dropped : Sieve → Tree → Bool
is_dropped sieve = one_fails sieve.conditions.items

-- a document that is dropped has no rows, neither to be grouped nor to be shown
abbrev pub IsSieve : Sieve → Query → Type 0
IsSieve sieve query =
    (tree : Tree) → is_dropped sieve tree ≡ true
    → (envs_of_tree query tree ≡ []) × ((number : ℕ) → keyed_rows query number tree ≡ [])

-- there is no condition
abbrev pub DropsNothing : Sieve → Type 0
DropsNothing sieve = sieve.conditions.items ≡ []

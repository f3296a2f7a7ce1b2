-- What a pick asks of the rows of a group, in the order of a walk over it: the aggregates, and of the
-- first row the values of the greatest parts without one; and the pick in which each of these is the
-- literal of a value that was computed for it. As GROUP BY of Azure Cosmos DB for NoSQL.
use Rattle.std.specs.Prelude.{List, [], ◌∷◌, ◌++◌, map, Bool, true, false, ◌&&◌, not}
use Rattle.ax_tree.specs.declared.members.Member.{Member}
use Rattle.ax_tree.specs.declared.tree.Tree as tree
use Rattle.ax_mean.specs.declared.expr.Chained.{Chained}
use Rattle.ax_mean.specs.declared.expr.Expr.{Expr, fold-Expr}
use Rattle.ax_mean.specs.declared.expr.Expr.TheOpen.{Expr-F}
use Rattle.ax_mean.specs.declared.expr.Expr.TheVariants as expr
use Rattle.ax_mean.specs.declared.operator.Aggregate.{Aggregate}
use Rattle.ax_mean.specs.declared.query.Named.{Named}
use Rattle.ax_mean.specs.declared.query.Pick.{Pick}
use Rattle.ax_mean.specs.declared.query.Pick.TheVariants as pick
use Rattle.ax_mean.specs.declared.value.Value.{Value}
use Rattle.ax_mean.specs.declared.value.Value.TheVariants.{Defined}
use Rattle.ax_mean.specs.Aggregates.{has_aggregate}
use Rattle.ax_mean.specs.Building.{members_of}
use Rattle.ax_mean.specs.Meaning.{Env, meaning}
use Rattle.ax_mean.specs.RowOrder.{first_value, later_values}
use Rattle.ax_mean.specs.Rows.{first_bound, named_member}
use Rattle.ax_group.specs.declared.asked.Asked.{Asked}
use Rattle.ax_group.specs.declared.asked.Asked.TheVariants as asked
use Rattle.ax_result.specs.Groups.{first_env}
use Rattle.ax_result.specs.Totals.{as_it_is, pair_by, total_over}

-- an aggregate of an expression over the rows; a part's value in the first row; the value of the first
-- alias there
pub data Ask : Type 0 where
  TotalOf : Aggregate → Expr → Ask
  PartOf : Expr → Ask
  FirstAlias : Ask

abbrev pub ask_of : Asked → Ask
ask_of (asked.Total which argument) = TotalOf which argument.now
ask_of (asked.Part part) = PartOf part.now
ask_of asked.FirstAlias = FirstAlias

abbrev pub asks_of : List Asked → List Ask
asks_of = map ask_of

-- the value of what is asked for over the rows of a group
abbrev pub answer_over : List Env → Ask → Value
answer_over envs (TotalOf which argument) = total_over envs which argument
answer_over envs (PartOf part) = meaning (first_env envs) part
answer_over envs FirstAlias = first_bound (first_env envs)

abbrev pub answers_over : List Env → List Ask → List Value
answers_over envs = map (answer_over envs)

abbrev pub literal_level : Expr-F Bool → Bool
literal_level (Expr-F.Literal value) = true
literal_level other = false

abbrev pub is_literal : Expr → Bool
is_literal = fold-Expr Bool literal_level

-- A part is asked for as a whole where it has no aggregate; a literal is not asked for.
abbrev pub is_part : Expr → Bool
is_part x = not (is_literal x) && not (has_aggregate x)

-- What an expression asks for: as a whole, and by its children where it is not asked for as a whole.
pub record Asks : Type 0 where
  pub whole : List Ask
  pub within : List Ask

-- what several children ask for, one after another
abbrev pub all_asked : List (Expr × Asks) → List Ask
all_asked [] = []
all_asked (child ∷ children) = child.1.whole ++ all_asked children

abbrev pub operands_asked : List (Chained (Expr × Asks)) → List Ask
operands_asked [] = []
operands_asked (c ∷ cs) = c.operand.1.whole ++ operands_asked cs

abbrev pub members_asked : List (Member (Expr × Asks)) → List Ask
members_asked [] = []
members_asked (m ∷ ms) = m.value.1.whole ++ members_asked ms

-- An aggregate inside another's argument is not asked for: it is undefined there.
abbrev pub asked_level : Expr-F (Expr × Asks) → List Ask
asked_level (Expr-F.Literal value) = []
asked_level (Expr-F.Alias name) = []
asked_level (Expr-F.Steps base steps) = base.1.whole
asked_level (Expr-F.Choice test a b) = test.1.whole ++ (a.1.whole ++ b.1.whole)
asked_level (Expr-F.Coalesce items) = all_asked items
asked_level (Expr-F.Or items) = all_asked items
asked_level (Expr-F.And items) = all_asked items
asked_level (Expr-F.Not a) = a.1.whole
asked_level (Expr-F.Compare operator a b) = a.1.whole ++ b.1.whole
asked_level (Expr-F.Among negated left items) = left.1.whole ++ all_asked items
asked_level (Expr-F.Between negated left low high) =
    left.1.whole ++ (low.1.whole ++ high.1.whole)
asked_level (Expr-F.Like negated left other) = left.1.whole ++ other.1.whole
asked_level (Expr-F.Join items) = all_asked items
asked_level (Expr-F.Sum first rest) = first.1.whole ++ operands_asked rest
asked_level (Expr-F.Product first rest) = first.1.whole ++ operands_asked rest
asked_level (Expr-F.Sign operator a) = a.1.whole
asked_level (Expr-F.Call func args) = all_asked args
asked_level (Expr-F.Total which argument) = TotalOf which argument.0 ∷ []
asked_level (Expr-F.List items) = all_asked items
asked_level (Expr-F.Object members) = members_asked members

abbrev pub asks_where : Bool → Expr → List Ask → List Ask
asks_where true part within = PartOf part ∷ []
asks_where false part within = within

abbrev pub asks_level : Expr-F (Expr × Asks) → Asks
asks_level level =
    record {
      whole = asks_where (is_part (as_it_is level)) (as_it_is level) (asked_level level);
      within = asked_level level;
    }

-- an expression beside what it asks for
abbrev pub asked_pair : Expr → Expr × Asks
asked_pair = pair_by asks_level

abbrev pub asked_in : Expr → List Ask
asked_in x = (asked_pair x).1.whole

abbrev pub asked_within : Expr → List Ask
asked_within x = (asked_pair x).1.within

-- an operand and a member with an expression beside what it asks for
abbrev pub operand_pair : Chained Expr → Chained (Expr × Asks)
operand_pair c = record { op = c.op; operand = asked_pair c.operand }

abbrev pub member_pair : Member Expr → Member (Expr × Asks)
member_pair m = record { name = m.name; value = asked_pair m.value }

abbrev pub items_asked : List Named → List Ask
items_asked [] = []
items_asked (item ∷ items) = asked_in item.expr ++ items_asked items

abbrev pub asked_by : Pick → List Ask
asked_by pick.Star = FirstAlias ∷ []
asked_by (pick.Value x) = asked_in x
asked_by (pick.Named items) = items_asked items

-- What an expression becomes by the values of what it asks for, which come first among these, and the
-- values behind them.
abbrev pub Fill : Type 0
Fill = List Value → Expr × List Value

-- as a whole, and where its children become what they do
pub record Fills : Type 0 where
  pub whole : Fill
  pub within : Fill

-- a child beside what it becomes
abbrev pub Child : Type 0
Child = Expr × Fills

abbrev pub one : (Expr → Expr) → Child → Fill
one f a values = (f (a.1.whole values).0, (a.1.whole values).1)

abbrev pub two : (Expr → Expr → Expr) → Child → Child → Fill
two f a b values = (f (a.1.whole values).0 (b.1.whole (a.1.whole values).1).0, (b.1.whole (a.1.whole values).1).1)

abbrev pub three : (Expr → Expr → Expr → Expr) → Child → Child → Child → Fill
three f a b c values =
    (f (a.1.whole values).0 (b.1.whole (a.1.whole values).1).0 (c.1.whole (b.1.whole (a.1.whole values).1).1).0, (c.1.whole (b.1.whole (a.1.whole values).1).1).1)

abbrev pub all_filled : List Child → List Value → List Expr × List Value
all_filled [] values = ([], values)
all_filled (a ∷ others) values =
    ((a.1.whole values).0 ∷ (all_filled others (a.1.whole values).1).0, (all_filled others (a.1.whole values).1).1)

abbrev pub operands_filled : List (Chained Child) → List Value → List (Chained Expr) × List Value
operands_filled [] values = ([], values)
operands_filled (c ∷ cs) values = (
  record { op = c.op; operand = (c.operand.1.whole values).0 }
      ∷ (operands_filled cs (c.operand.1.whole values).1).0,
  (operands_filled cs (c.operand.1.whole values).1).1,
)

abbrev pub members_filled : List (Member Child) → List Value → List (Member Expr) × List Value
members_filled [] values = ([], values)
members_filled (m ∷ ms) values = (
  record { name = m.name; value = (m.value.1.whole values).0 } ∷ (members_filled ms (m.value.1.whole values).1).0,
  (members_filled ms (m.value.1.whole values).1).1,
)

abbrev pub listed : (List Expr → Expr) → List Child → Fill
listed f items values = (f (all_filled items values).0, (all_filled items values).1)

abbrev pub with_list : (Expr → List Expr → Expr) → Child → List Child → Fill
with_list f a items values =
    (f (a.1.whole values).0 (all_filled items (a.1.whole values).1).0, (all_filled items (a.1.whole values).1).1)

abbrev pub with_chain : (Expr → List (Chained Expr) → Expr) → Child → List (Chained Child) → Fill
with_chain f a cs values =
    (f (a.1.whole values).0 (operands_filled cs (a.1.whole values).1).0, (operands_filled cs (a.1.whole values).1).1)

abbrev pub fill_level : Expr-F Child → Fill
fill_level (Expr-F.Literal value) values = (expr.Literal value, values)
fill_level (Expr-F.Alias name) values = (expr.Alias name, values)
fill_level (Expr-F.Steps base steps) values = one (λ x. expr.Steps x steps) base values
fill_level (Expr-F.Choice test a b) values = three (λ x y z. expr.Choice x y z) test a b values
fill_level (Expr-F.Coalesce items) values = listed (λ xs. expr.Coalesce xs) items values
fill_level (Expr-F.Or items) values = listed (λ xs. expr.Or xs) items values
fill_level (Expr-F.And items) values = listed (λ xs. expr.And xs) items values
fill_level (Expr-F.Not a) values = one (λ x. expr.Not x) a values
fill_level (Expr-F.Compare operator a b) values =
    two (λ x y. expr.Compare operator x y) a b values
fill_level (Expr-F.Among negated left items) values =
    with_list (λ x xs. expr.Among negated x xs) left items values
fill_level (Expr-F.Between negated left low high) values =
    three (λ x y z. expr.Between negated x y z) left low high values
fill_level (Expr-F.Like negated left other) values =
    two (λ x y. expr.Like negated x y) left other values
fill_level (Expr-F.Join items) values = listed (λ xs. expr.Join xs) items values
fill_level (Expr-F.Sum first rest) values = with_chain (λ x xs. expr.Sum x xs) first rest values
fill_level (Expr-F.Product first rest) values =
    with_chain (λ x xs. expr.Product x xs) first rest values
fill_level (Expr-F.Sign operator a) values = one (λ x. expr.Sign operator x) a values
fill_level (Expr-F.Call func args) values = listed (λ xs. expr.Call func xs) args values
fill_level (Expr-F.Total which argument) values =
    (expr.Literal (first_value values), later_values values)
fill_level (Expr-F.List items) values = listed (λ xs. expr.List xs) items values
fill_level (Expr-F.Object members) values =
    (expr.Object (members_filled members values).0, (members_filled members values).1)

abbrev pub filled_where : Bool → Fill → Fill
filled_where true within values = (expr.Literal (first_value values), later_values values)
filled_where false within values = within values

abbrev pub fills_level : Expr-F Child → Fills
fills_level level =
    record {
      whole = filled_where (is_part (as_it_is level)) (fill_level level);
      within = fill_level level;
    }

abbrev pub fill_pair : Expr → Child
fill_pair = pair_by fills_level

abbrev pub fill : Expr → Fill
fill x = (fill_pair x).1.whole

abbrev pub fill_within : Expr → Fill
fill_within x = (fill_pair x).1.within

abbrev pub operand_fill : Chained Expr → Chained Child
operand_fill c = record { op = c.op; operand = fill_pair c.operand }

abbrev pub member_fill : Member Expr → Member Child
member_fill m = record { name = m.name; value = fill_pair m.value }

abbrev pub items_filled : List Named → List Value → List Named
items_filled [] values = []
items_filled (item ∷ items) values =
    record { name = item.name; expr = (fill item.expr values).0 }
    ∷ items_filled items (fill item.expr values).1

-- what a pick shows by the values of what it asks for
abbrev pub shown_by : Pick → List Value → Value
shown_by pick.Star values = first_value values
shown_by (pick.Value x) values = meaning [] (fill x values).0
shown_by (pick.Named items) values =
    Defined (tree.Object (members_of (map (named_member []) (items_filled items values))))

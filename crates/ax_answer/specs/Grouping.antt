-- What taking rows one at a time does to the groups of a query. As GROUP BY of Azure Cosmos DB for
-- NoSQL.
use Rattle.std.specs.Prelude.{◌≡◌, List, Option}
use Rattle.ax_mean.specs.declared.expr.Expr.{Expr}
use Rattle.ax_mean.specs.declared.query.Query.{Query}
use Rattle.ax_mean.specs.Meaning.{Env}
use Rattle.ax_mean.specs.Rows.{Bound, env_where}
use Rattle.ax_group.specs.States.{Holds}
use Rattle.ax_answer.specs.declared.group_rows.GroupTaker.{GroupTaker}

-- the query whose groups they are, and what a row has to pass
pub record GroupsAsked : Type 0 where
  pub query : Query
  pub condition : Option Expr

abbrev pub group_keeps : GroupsAsked → Bound → Option Env
group_keeps asked = env_where asked.condition

pub record TakesGroups (taker : GroupTaker) (asked : GroupsAsked) (envs : List Env) : Type 0 where
  pub by : taker.condition.now ≡ asked.condition
  pub groups : Holds taker.groups asked.query envs

-- What a query writes, before its sources and items have their names.
use Rattle.std.specs.Prelude.{ℕ, List, Bool, Option}
use Rattle.ax_mean.specs.declared.expr.Expr.{Expr}
use Rattle.ax_mean.specs.declared.expr.QueryStep.{QueryStep}

-- a picked expression, and the name that is written behind it
pub record Item : Type 0 where
  pub expr : Expr
  pub name : Option (List ℕ)

pub data Picked : Type 0 where
  -- `SELECT *`
  the_star : Picked
  -- `SELECT VALUE e`
  the_value : Expr → Picked
  -- `SELECT a, b AS c`
  the_items : List Item → Picked

-- the source after FROM: the steps from a container, bound as a whole or each element of them, and
-- the alias that is written
pub record Source : Type 0 where
  pub container : List ℕ
  pub each : Bool
  pub steps : List QueryStep
  pub alias : Option (List ℕ)

-- a source after JOIN: the alias that is bound to each element, and the steps from another alias
pub record Joined : Type 0 where
  pub alias : List ℕ
  pub base : List ℕ
  pub steps : List QueryStep

-- an item of ORDER BY: an alias, the names of a path from it, and whether DESC is written
pub record Ordered : Type 0 where
  pub alias : List ℕ
  pub path : List (List ℕ)
  pub down : Bool

-- the numbers after OFFSET and LIMIT
pub record Window : Type 0 where
  pub offset : ℕ
  pub limit : ℕ

pub record Written : Type 0 where
  pub distinct : Bool
  -- the number after TOP
  pub top : Option ℕ
  pub picked : Picked
  pub source : Source
  pub joins : List Joined
  pub condition : Option Expr
  pub groups : List Expr
  pub orders : List Ordered
  pub window : Option Window

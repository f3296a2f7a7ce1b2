-- The meaning of each form of expression.
use Rattle.std.proofs.Common.{◌≡◌, ℕ, List, map, Bool, rules}
use Rattle.ax_tree.specs.declared.members.Member.{Member}
use Rattle.ax_tree.specs.declared.tree.Tree as tree
use Rattle.ax_mean.specs.declared.expr.Chained.{Chained}
use Rattle.ax_mean.specs.declared.expr.Expr.{Expr}
use Rattle.ax_mean.specs.declared.expr.Expr as expr
use Rattle.ax_mean.specs.declared.expr.QueryStep.{QueryStep}
use Rattle.ax_mean.specs.declared.operator.BinaryOp.{BinaryOp}
use Rattle.ax_mean.specs.declared.operator.BinaryOp.TheVariants as op
use Rattle.ax_mean.specs.declared.operator.UnaryOp.{UnaryOp}
use Rattle.ax_mean.specs.declared.operator.Func.{Func}
use Rattle.ax_mean.specs.declared.value.Value.{Value}
use Rattle.ax_mean.specs.declared.value.Value.TheVariants.{Defined}
use Rattle.ax_mean.specs.Building.{defined_of, members_of}
use Rattle.ax_mean.specs.Functions.{call}
use Rattle.ax_mean.specs.Meaning.{Env, bound, chosen, chain, operated, among, between, negated_where, meaning}
use Rattle.ax_mean.specs.Operators.{binary, unary, joined, first_defined, conjunction, disjunction, negation}
use Rattle.ax_mean.specs.Steps.{steps_from}

pub means_Steps : (env : Env) (x : Expr) (steps : List QueryStep)
    → meaning env (expr.Steps x steps) ≡ steps_from (meaning env x) steps
means_Steps env x steps = search (rules, expr.the_lemmas)

pub means_Choice : (env : Env) (x y z : Expr)
    → meaning env (expr.Choice x y z) ≡ chosen (meaning env x) (meaning env y) (meaning env z)
means_Choice env x y z = search (rules, expr.the_lemmas)

pub means_Coalesce : (env : Env) (xs : List Expr)
    → meaning env (expr.Coalesce xs) ≡ chain first_defined (map (meaning env) xs)
means_Coalesce env xs = search (rules, expr.the_lemmas)

pub means_Or : (env : Env) (xs : List Expr)
    → meaning env (expr.Or xs) ≡ chain disjunction (map (meaning env) xs)
means_Or env xs = search (rules, expr.the_lemmas)

pub means_And : (env : Env) (xs : List Expr)
    → meaning env (expr.And xs) ≡ chain conjunction (map (meaning env) xs)
means_And env xs = search (rules, expr.the_lemmas)

pub means_Not : (env : Env) (x : Expr) → meaning env (expr.Not x) ≡ negation (meaning env x)
means_Not env x = search (rules, expr.the_lemmas)

pub means_Compare : (env : Env) (operator : BinaryOp) (x y : Expr)
    → meaning env (expr.Compare operator x y) ≡ binary operator (meaning env x) (meaning env y)
means_Compare env operator x y = search (rules, expr.the_lemmas)

pub means_Among : (env : Env) (negated : Bool) (x : Expr) (xs : List Expr)
    → meaning env (expr.Among negated x xs)
    ≡ negated_where negated (among (meaning env x) (map (meaning env) xs))
means_Among env negated x xs = search (rules, expr.the_lemmas)

pub means_Between : (env : Env) (negated : Bool) (x y z : Expr)
    → meaning env (expr.Between negated x y z)
    ≡ negated_where negated (between (meaning env x) (meaning env y) (meaning env z))
means_Between env negated x y z = search (rules, expr.the_lemmas)

pub means_Like : (env : Env) (negated : Bool) (x y : Expr)
    → meaning env (expr.Like negated x y)
    ≡ negated_where negated (binary op.Like (meaning env x) (meaning env y))
means_Like env negated x y = search (rules, expr.the_lemmas)

pub means_Join : (env : Env) (xs : List Expr)
    → meaning env (expr.Join xs) ≡ chain joined (map (meaning env) xs)
means_Join env xs = search (rules, expr.the_lemmas)

abbrev pub operand_in : Env → Chained Expr → Chained Value
operand_in env c = record { op = c.op; operand = meaning env c.operand }

abbrev pub member_in : Env → Member Expr → Member Value
member_in env m = record { name = m.name; value = meaning env m.value }

pub means_Sum : (env : Env) (x : Expr) (cs : List (Chained Expr))
    → meaning env (expr.Sum x cs) ≡ operated (meaning env x) (map (operand_in env) cs)
means_Sum env x cs = search (rules, expr.the_lemmas)

pub means_Product : (env : Env) (x : Expr) (cs : List (Chained Expr))
    → meaning env (expr.Product x cs) ≡ operated (meaning env x) (map (operand_in env) cs)
means_Product env x cs = search (rules, expr.the_lemmas)

pub means_Sign : (env : Env) (operator : UnaryOp) (x : Expr)
    → meaning env (expr.Sign operator x) ≡ unary operator (meaning env x)
means_Sign env operator x = search (rules, expr.the_lemmas)

pub means_Call : (env : Env) (func : Func) (xs : List Expr)
    → meaning env (expr.Call func xs) ≡ call func (map (meaning env) xs)
means_Call env func xs = search (rules, expr.the_lemmas)

pub means_List : (env : Env) (xs : List Expr)
    → meaning env (expr.List xs) ≡ Defined (tree.List (defined_of (map (meaning env) xs)))
means_List env xs = search (rules, expr.the_lemmas)

pub means_Object : (env : Env) (ms : List (Member Expr))
    → meaning env (expr.Object ms) ≡ Defined (tree.Object (members_of (map (member_in env) ms)))
means_Object env ms = search (rules, expr.the_lemmas)

pub means_Literal : (env : Env) (v : Value) → meaning env (expr.Literal v) ≡ v
means_Literal env v = search (rules, expr.the_lemmas)

pub means_Alias : (env : Env) (name : List ℕ) → meaning env (expr.Alias name) ≡ bound env name
means_Alias env name = search (rules, expr.the_lemmas)

-- Which expressions are conditions that an index answers, where an alias stands for the document: a
-- property of the document that is compared with constants, or asked for by a function. A constant is
-- a literal, or a minus before a number literal; a parameter is the literal of its value.
use Rattle.std.specs.Prelude.{ℕ, List, [], ◌∷◌, map, Bool, true, false, ◌&&◌, ◌==◌, nat_le, Option, Some, None, if◌then◌else◌}
use Rattle.std.specs.List.{list_all}
use Rattle.std.specs.Str.{bytes_eq}
use Rattle.ax_tree.specs.declared.tree.Tree.{Tree, out-Tree}
use Rattle.ax_tree.specs.declared.tree.Tree.TheOpen.{Tree-F}
use Rattle.ax_tree.specs.WellFormed.{is_of_64_bits}
use Rattle.ax_mean.specs.declared.expr.Expr.{Expr, out-Expr}
use Rattle.ax_mean.specs.declared.expr.Expr.TheOpen.{Expr-F}
use Rattle.ax_mean.specs.declared.expr.QueryStep.{QueryStep}
use Rattle.ax_mean.specs.declared.expr.QueryStep.TheVariants.{Member, Position}
use Rattle.ax_mean.specs.declared.operator.BinaryOp.{BinaryOp}
use Rattle.ax_mean.specs.declared.operator.BinaryOp.TheVariants as op
use Rattle.ax_mean.specs.declared.operator.UnaryOp.{UnaryOp}
use Rattle.ax_mean.specs.declared.operator.UnaryOp.TheVariants as unary_op
use Rattle.ax_mean.specs.declared.operator.Func.{Func}
use Rattle.ax_mean.specs.declared.operator.Func.TheVariants as func
use Rattle.ax_mean.specs.declared.query.Step.{Step}
use Rattle.ax_mean.specs.declared.query.Step.TheVariants.{Name, Item}
use Rattle.ax_mean.specs.declared.value.Value.{Value}
use Rattle.ax_mean.specs.declared.value.Value.TheVariants.{Undefined, Defined}
use Rattle.ax_mean.specs.Comparison.{is_scalar}
use Rattle.ax_mean.specs.Operators.{unary}
use Rattle.ax_mean.specs.Values.{kind, text_of}
use Rattle.ax_atoms.specs.Atoms.{Atom}

-- ---- paths of properties

-- the step of a path in documents: a position is a step to any element
abbrev pub step_of : QueryStep → Step
step_of (Member name) = Name name
step_of (Position at) = Item

-- the path of these steps, of which there is at least one
abbrev pub path_of : List QueryStep → Option (List Step)
path_of [] = None
path_of (step ∷ steps) = Some (map step_of (step ∷ steps))

-- the path of the steps, where they begin at the alias
abbrev pub from_alias : List ℕ → List QueryStep → Expr-F Expr → Option (List Step)
from_alias alias steps (Expr-F.Alias name) = if bytes_eq alias name then path_of steps else None
from_alias alias steps _ = None

-- the path of an expression by its level
abbrev pub path_level : List ℕ → Expr-F Expr → Option (List Step)
path_level alias (Expr-F.Steps base steps) = from_alias alias steps (out-Expr base)
path_level alias _ = None

-- the path of the property that an expression is: steps from the alias on
abbrev pub property_path : List ℕ → Expr → Option (List Step)
property_path alias x = path_level alias (out-Expr x)

-- ---- constants

-- what a minus makes of a literal: undefined where that is no number
abbrev pub negative_level : Expr-F Expr → Value
negative_level (Expr-F.Literal value) = unary unary_op.Minus value
negative_level _ = Undefined

-- of the signs only the minus makes a constant
abbrev pub signed_level : UnaryOp → Expr-F Expr → Value
signed_level unary_op.Minus x = negative_level x
signed_level _ x = Undefined

-- the value of a constant by its level
abbrev pub constant_level : Expr-F Expr → Value
constant_level (Expr-F.Literal value) = value
constant_level (Expr-F.Sign operator a) = signed_level operator (out-Expr a)
constant_level _ = Undefined

-- the value of a constant; undefined of another expression
abbrev pub constant : Expr → Value
constant x = constant_level (out-Expr x)

-- a number is of 64 bits: in memory each is, and the logic does not know it
abbrev pub fits_level : Tree-F Tree → Bool
fits_level (Tree-F.Number number) = is_of_64_bits number
fits_level _ = true

-- the same of a value
abbrev pub fits : Value → Bool
fits Undefined = true
fits (Defined tree) = fits_level (out-Tree tree)

-- null, a truth value, a number or a text
abbrev pub is_single : Value → Bool
is_single k = is_scalar k && fits k

-- each of them is
abbrev pub are_single : List Value → Bool
are_single = list_all is_single

-- a number or a text: what may bound a range
abbrev pub is_bound : Value → Bool
is_bound k = nat_le 3 (kind k) && nat_le (kind k) 4 && fits k

-- two numbers, or two texts
abbrev pub are_bounds : Value → Value → Bool
are_bounds k m = is_bound k && is_bound m && (kind k == kind m)

-- the constants are such as the condition may have
abbrev pub is_answered : Atom → Bool
is_answered (Atom.Equals path k) = is_single k
is_answered (Atom.AtMost path k) = is_bound k
is_answered (Atom.AtLeast path k) = is_bound k
is_answered (Atom.Within path k m) = are_bounds k m
is_answered (Atom.OneOf path ks) = are_single ks
is_answered (Atom.Exists path) = true
is_answered (Atom.Begins path k) = true
is_answered (Atom.Holds path k) = is_single k

-- ---- conditions

-- the condition, where that is so
abbrev pub where_so : Bool → Atom → Option Atom
where_so true atom = Some atom
where_so false atom = None

-- the condition, where its constants are such as it may have
abbrev pub answered : Atom → Option Atom
answered atom = where_so (is_answered atom) atom

-- the comparison of the property at the path with a constant
abbrev pub compared_with : BinaryOp → List Step → Value → Option Atom
compared_with op.Equal path k = answered (Atom.Equals path k)
compared_with op.Less path k = answered (Atom.AtMost path k)
compared_with op.LessEqual path k = answered (Atom.AtMost path k)
compared_with op.Greater path k = answered (Atom.AtLeast path k)
compared_with op.GreaterEqual path k = answered (Atom.AtLeast path k)
compared_with _ path k = None

-- the condition on the path, where there is one
abbrev pub with_path : (List Step → Option Atom) → Option (List Step) → Option Atom
with_path f None = None
with_path f (Some path) = f path

-- the operator when its operands are exchanged
abbrev pub turned : BinaryOp → BinaryOp
turned op.Less = op.Greater
turned op.LessEqual = op.GreaterEqual
turned op.Greater = op.Less
turned op.GreaterEqual = op.LessEqual
turned other = other

-- the condition on the path on the left, else the one on the right
abbrev pub on_side : (List Step → Option Atom) → Option (List Step) → Option Atom → Option Atom
on_side f None other = other
on_side f (Some path) other = f path

-- a comparison, the constant on either side
abbrev pub compared : List ℕ → BinaryOp → Expr → Expr → Option Atom
compared alias operator a b =
    on_side (λ path. compared_with operator path (constant b)) (property_path alias a)
    (with_path (λ path. compared_with (turned operator) path (constant a)) (property_path alias b))

-- a property IN a list of constants
abbrev pub among : List ℕ → Expr → List Expr → Option Atom
among alias left items =
    with_path (λ path. answered (Atom.OneOf path (map constant items))) (property_path alias left)

-- a property BETWEEN two constants
abbrev pub between : List ℕ → Expr → Expr → Expr → Option Atom
between alias left low high =
    with_path (λ path. answered (Atom.Within path (constant low) (constant high)))
    (property_path alias left)

-- IS_DEFINED of a property
abbrev pub defined_in : List ℕ → List Expr → Option Atom
defined_in alias (a ∷ []) = with_path (λ path. answered (Atom.Exists path)) (property_path alias a)
defined_in alias _ = None

-- that the property at the path begins with the text, where the constant is one
abbrev pub beginning : List Step → Option (List ℕ) → Option Atom
beginning path None = None
beginning path (Some text) = answered (Atom.Begins path text)

-- STARTSWITH of a property and a constant
abbrev pub begins_in : List ℕ → List Expr → Option Atom
begins_in alias (a ∷ b ∷ []) =
    with_path (λ path. beginning path (text_of (constant b))) (property_path alias a)
begins_in alias _ = None

-- ARRAY_CONTAINS of a property and a constant
abbrev pub holds_in : List ℕ → List Expr → Option Atom
holds_in alias (a ∷ b ∷ []) =
    with_path (λ path. answered (Atom.Holds path (constant b))) (property_path alias a)
holds_in alias _ = None

-- a call of one of these functions
abbrev pub called : List ℕ → Func → List Expr → Option Atom
called alias func.IsDefined args = defined_in alias args
called alias func.StartsWith args = begins_in alias args
called alias func.ArrayContains args = holds_in alias args
called alias _ args = None

-- the condition, unless NOT is written before its operator
abbrev pub unless_negated : Bool → Option Atom → Option Atom
unless_negated true atom = None
unless_negated false atom = atom

-- the condition that an expression is, by its level
abbrev pub recognised_level : List ℕ → Expr-F Expr → Option Atom
recognised_level alias (Expr-F.Compare operator a b) = compared alias operator a b
recognised_level alias (Expr-F.Among negated left items) =
    unless_negated negated (among alias left items)
recognised_level alias (Expr-F.Between negated left low high) =
    unless_negated negated (between alias left low high)
recognised_level alias (Expr-F.Call function args) = called alias function args
recognised_level alias _ = None

-- the condition that an expression is, where the alias stands for the document
abbrev pub recognised : List ℕ → Expr → Option Atom
recognised alias x = recognised_level alias (out-Expr x)

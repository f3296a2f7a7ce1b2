-- Values that terms keep whole, as they do all but texts of more than 128 bytes, and which of them pass a
-- condition: of these the ranges have the terms, and of no others.
use Rattle.std.specs.Prelude.{◌≤◌, [], ◌∷◌, All, Bool, true, IfSome, length}
use Rattle.ax_tree.specs.declared.tree.Tree as tree
use Rattle.ax_mean.specs.declared.operator.BinaryOp.TheVariants as op
use Rattle.ax_mean.specs.declared.operator.Func.TheVariants as func
use Rattle.ax_mean.specs.declared.value.Value.{Value}
use Rattle.ax_mean.specs.declared.value.Value.TheVariants.{Defined}
use Rattle.ax_mean.specs.Functions.{call}
use Rattle.ax_mean.specs.Meaning.{among, between, is_yes}
use Rattle.ax_mean.specs.Operators.{binary}
use Rattle.ax_mean.specs.Values.{text_of, truth_of}
use Rattle.ax_atoms.specs.Atoms.{Atom}

-- a text of at most 128 bytes, or no text
abbrev pub IsKeptWhole : Value → Type 0
IsKeptWhole value = IfSome (text_of value) (λ text. length text ≤ 128)

-- so are the constants of a condition
abbrev pub HasKeptWhole : Atom → Type 0
HasKeptWhole (Atom.Equals path k) = IsKeptWhole k
HasKeptWhole (Atom.AtMost path k) = IsKeptWhole k
HasKeptWhole (Atom.AtLeast path k) = IsKeptWhole k
HasKeptWhole (Atom.Within path k m) = IsKeptWhole k × IsKeptWhole m
HasKeptWhole (Atom.OneOf path ks) = All IsKeptWhole ks
HasKeptWhole (Atom.Exists path) = Unit {0}
HasKeptWhole (Atom.Begins path k) = length k ≤ 128
HasKeptWhole (Atom.Holds path k) = IsKeptWhole k

-- the value is true
abbrev pub is_yes_of : Value → Bool
is_yes_of value = is_yes (truth_of value)

-- whether the condition is true of a value at a leaf on which it rests, its own bounds counted in
abbrev pub passes : Atom → Value → Bool
passes (Atom.Equals path k) v = is_yes_of (binary op.Equal v k)
passes (Atom.AtMost path k) v = is_yes_of (binary op.LessEqual v k)
passes (Atom.AtLeast path k) v = is_yes_of (binary op.GreaterEqual v k)
passes (Atom.Within path k m) v = is_yes_of (between v k m)
passes (Atom.OneOf path ks) v = is_yes_of (among v ks)
passes (Atom.Exists path) v = true
passes (Atom.Begins path k) v = is_yes_of (call func.StartsWith (v ∷ Defined (tree.Text k) ∷ []))
passes (Atom.Holds path k) v = is_yes_of (binary op.Equal v k)

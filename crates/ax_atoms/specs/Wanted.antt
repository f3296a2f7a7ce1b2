-- Which terms a condition asks for, by the order of terms: the ranges of a condition have these and no
-- others.
use Rattle.std.specs.Prelude.{◌≡◌, ℕ, List, [], ◌∷◌, ◌++◌, take, true}
use Rattle.std.specs.List.{Contains}
use Rattle.std.specs.Ordering.{is_le}
use Rattle.ax_mean.specs.declared.query.Step.{Step}
use Rattle.ax_mean.specs.declared.query.Step.TheVariants.{Item}
use Rattle.ax_mean.specs.declared.value.Value.{Value}
use Rattle.ax_term.specs.CutTexts.{CutText}
use Rattle.ax_term.specs.CutValues.{CutValue, cut_of}
use Rattle.ax_term.specs.TermOrder.{order_of_values, rank}
use Rattle.ax_atoms.specs.Atoms.{Atom}

-- the first of two values is not behind the second
abbrev pub IsUpTo : CutValue → CutValue → Type 0
IsUpTo a b = is_le (order_of_values a b) ≡ true

-- two values are of one kind
abbrev pub AreOfOneKind : CutValue → CutValue → Type 0
AreOfOneKind a b = rank a ≡ rank b

-- a text of which these bytes were kept at the front
abbrev pub BeginsWith : List ℕ → CutValue → Type 0
BeginsWith front value =
    (text : CutText) × (value ≡ CutValue.Text text)
    × (more : List ℕ) × (text.front ≡ front ++ more)

-- the value is one of these in terms
abbrev pub IsOneOf : List Value → CutValue → Type 0
IsOneOf ks value = (k : Value) × Contains ks k × (value ≡ cut_of k)

-- the condition asks for the term of that value at that path:
--   P = k                    the term of k at P
--   P <= k, P < k            those at P of k's kind up to k's own, and with it
--   P >= k, P > k            those at P of k's kind from k's own on
--   P BETWEEN k AND m        those at P from k's to m's
--   P IN (k, ..)             the term of each at P
--   IS_DEFINED(P)            every term at P or below it
--   STARTSWITH(P, k)         those at P of texts that begin with the first 128 bytes of k
--   ARRAY_CONTAINS(P, k)     the term of k at any element of P
abbrev pub IsWanted : Atom → List Step → CutValue → Type 0
IsWanted (Atom.Equals path k) at value = (at ≡ path) × (value ≡ cut_of k)
IsWanted (Atom.AtMost path k) at value =
    (at ≡ path) × AreOfOneKind value (cut_of k) × IsUpTo value (cut_of k)
IsWanted (Atom.AtLeast path k) at value =
    (at ≡ path) × AreOfOneKind value (cut_of k) × IsUpTo (cut_of k) value
IsWanted (Atom.Within path k m) at value =
    (at ≡ path) × IsUpTo (cut_of k) value × IsUpTo value (cut_of m)
IsWanted (Atom.OneOf path ks) at value = (at ≡ path) × IsOneOf ks value
IsWanted (Atom.Exists path) at value = (more : List Step) × (at ≡ path ++ more)
IsWanted (Atom.Begins path k) at value = (at ≡ path) × BeginsWith (take 128 k) value
IsWanted (Atom.Holds path k) at value = (at ≡ path ++ Item ∷ []) × (value ≡ cut_of k)

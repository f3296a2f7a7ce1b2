-- The conjuncts of a query: one for each operand of the outermost ANDs of its WHERE, which has ranges
-- where it is a condition that an index answers.
use Rattle.std.specs.Prelude.{ℕ, List, [], ◌∷◌, map, Bool, false, Option, Some, None, option_and_then}
use Rattle.ax_mean.specs.declared.expr.Expr.{Expr}
use Rattle.ax_mean.specs.declared.expr.QueryStep.{QueryStep}
use Rattle.ax_mean.specs.declared.query.FromItem.{FromItem}
use Rattle.ax_mean.specs.declared.query.Query.{Query}
use Rattle.ax_atoms.specs.Atoms.{Atom, rests_at, rests_on_all}
use Rattle.ax_atoms.specs.Operands.{operands}
use Rattle.ax_atoms.specs.Recognised.{recognised}
use Rattle.ax_atoms.specs.Spans.{ranges_of}
use Rattle.ax_atoms.specs.declared.conjunct.Conjunct.{Conjunct}

-- the alias, where no IN and no steps stand behind FROM
abbrev pub where_whole : List ℕ → Bool → List QueryStep → Option (List ℕ)
where_whole alias false [] = Some alias
where_whole alias _ _ = None

-- the alias of the first source, where it stands for the document; of further sources nothing is asked
abbrev pub document_alias : List FromItem → Option (List ℕ)
document_alias [] = None
document_alias (item ∷ items) = where_whole item.alias item.each item.steps

-- the condition that an operand is
abbrev pub atom_of : Option (List ℕ) → Expr → Option Atom
atom_of alias x = option_and_then (λ name. recognised name x) alias

-- for each operand of a condition the one that it is
abbrev pub atoms_in : Option (List ℕ) → Option Expr → List (Option Atom)
atoms_in alias None = []
atoms_in alias (Some condition) = map (atom_of alias) (operands condition)

-- the same of a query: none without WHERE
abbrev pub atoms : Query → List (Option Atom)
atoms query = atoms_in (document_alias query.froms) query.condition

-- the conjunct of a condition, and the one of an operand that is none
abbrev pub conjunct_of : Option Atom → Conjunct
conjunct_of None = record { paths = []; whole = false; ranges = None }
conjunct_of (Some atom) =
    record {
      paths = rests_at atom ∷ [];
      whole = rests_on_all atom;
      ranges = Some (ranges_of atom);
    }

-- the conjuncts of a query, in the order of the text
abbrev pub conjuncts_of : Query → List Conjunct
conjuncts_of query = map conjunct_of (atoms query)

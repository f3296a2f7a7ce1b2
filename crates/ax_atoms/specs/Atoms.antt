-- The conditions that an index answers, each with the path of the document that it speaks of and the
-- constants that it speaks of there. Of all conditions of a query only these have ranges of terms.
use Rattle.std.specs.Prelude.{ℕ, List, [], ◌∷◌, ◌++◌, Bool, true, false}
use Rattle.ax_mean.specs.declared.query.Step.{Step}
use Rattle.ax_mean.specs.declared.query.Step.TheVariants.{Item}
use Rattle.ax_mean.specs.declared.value.Value.{Value}

pub data Atom : Type 0 where
  -- P = k
  Equals : List Step → Value → Atom
  -- P < k, P <= k
  AtMost : List Step → Value → Atom
  -- P > k, P >= k
  AtLeast : List Step → Value → Atom
  -- P BETWEEN k AND m
  Within : List Step → Value → Value → Atom
  -- P IN (k, ..)
  OneOf : List Step → List Value → Atom
  -- IS_DEFINED(P)
  Exists : List Step → Atom
  -- STARTSWITH(P, k)
  Begins : List Step → List ℕ → Atom
  -- ARRAY_CONTAINS(P, k)
  Holds : List Step → Value → Atom

-- the path of the leaves on which it rests, or at and below which they are
abbrev pub rests_at : Atom → List Step
rests_at (Atom.Equals path k) = path
rests_at (Atom.AtMost path k) = path
rests_at (Atom.AtLeast path k) = path
rests_at (Atom.Within path k m) = path
rests_at (Atom.OneOf path ks) = path
rests_at (Atom.Exists path) = path
rests_at (Atom.Begins path k) = path
rests_at (Atom.Holds path k) = path ++ Item ∷ []

-- whether it rests on every leaf at the path and below it
abbrev pub rests_on_all : Atom → Bool
rests_on_all (Atom.Exists path) = true
rests_on_all _ = false

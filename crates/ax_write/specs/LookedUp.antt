-- What the index tells of an id, where it answers over an honest disk.
-- It is this project's own; it comes from no public document.
use Rattle.std.specs.Prelude.{ℕ, List, [], ◌∷◌, Option}
use Rattle.ax_area.specs.Contents.{Contents}
use Rattle.ax_index.specs.ById.{IsNumberOf, id_range}
use Rattle.ax_index.specs.Grammar.{AreInGrammar}
use Rattle.ax_pairs.specs.Index.{IsIndex}
use Rattle.ax_pairs.specs.PairSets.{PairSet}

-- The parts of the pages to which the id's term can belong are in their grammar, and where the pages hold a set, this is
-- the number that it has for the id.
pub record TellsIndex (id : List ℕ) (contents : Contents) (found : Option ℕ) : Type 0 where
  pub met : AreInGrammar (id_range id ∷ []) contents.terms
  pub number : (set : PairSet) → IsIndex contents.terms set → IsNumberOf id set found

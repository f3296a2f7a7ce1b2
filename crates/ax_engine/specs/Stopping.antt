-- Where a walk over documents stops: behind the first of them that are enough for the query none is fetched, since no further
-- one can change its answer. As OFFSET and LIMIT of Azure Cosmos DB for NoSQL.
-- It is this project's own; it comes from no public document.
use Rattle.std.specs.Prelude.{◌≡◌, ◌≤◌, ◌+◌, ◌*◌, ℕ, List, ◌++◌, length}
use Rattle.ax_answer.specs.Gathering.{HasEnough}
use Rattle.ax_container.specs.Container.{Container}
use Rattle.ax_machine.specs.Querying.{numbered}
use Rattle.ax_mean.specs.declared.query.Query.{Query}
use Rattle.ax_skips.specs.Chosen.{fetched}
use Rattle.ax_tree.specs.declared.tree.Tree.{Tree}
use Rattle.ax_engine.specs.declared.candidates.Candidates.{Candidates}
use Rattle.ax_engine.specs.declared.candidates.Candidates.TheVariants.{All, Numbers}

-- over all documents: at most two steps for each of the first that are enough
abbrev pub StopsInAll : Query → Container → ℕ → ℕ → Type 0
StopsInAll query container old new =
    (front back : List (ℕ × Tree)) → numbered container ≡ front ++ back → HasEnough query front → new ≤ old + 2 * length front

-- over these numbers: at most two steps for each of the first whose documents are enough
abbrev pub StopsInNumbers : List ℕ → Query → Container → ℕ → ℕ → Type 0
StopsInNumbers numbers query container old new =
    (front back : List ℕ) → numbers ≡ front ++ back → HasEnough query (fetched front container) → new ≤ old + 2 * length front

-- over the documents at which a query looks
abbrev pub StopsAtEnough : Candidates → Query → Container → ℕ → ℕ → Type 0
StopsAtEnough All query container old new = StopsInAll query container old new
StopsAtEnough (Numbers numbers) query container old new = StopsInNumbers numbers.items query container old new

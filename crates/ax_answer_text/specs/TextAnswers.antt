-- What is kept of documents whose texts were added: the answer over what the query looks at of them.
use Rattle.std.specs.Prelude.{◌≡◌, ℕ, List, None, is_some}
use Rattle.ax_tree.specs.declared.tree.Tree.{Tree}
use Rattle.ax_mean.specs.declared.query.Query.{Query}
use Rattle.ax_sieve.specs.Conditions.{IsSieve, DropsNothing}
use Rattle.ax_answer.specs.Gathering.{Gathers}
use Rattle.ax_answer_text.specs.Parts.{Suffices, parts_of}
use Rattle.ax_answer_text.specs.declared.text_answer.TextAnswer.{TextAnswer}

-- The answer is one to that query, whatever it has taken in: its sieve and its excerpt are the query's,
-- and it knows whether that has a limit.
pub record IsTo (held : TextAnswer) (query : Query) : Type 0 where
  pub sifts : IsSieve held.sieve query
  pub nothing : query.condition ≡ None → DropsNothing held.sieve
  pub enough : Suffices held.excerpt query
  pub limited : held.is_limited ≡ is_some query.limit

-- the answer to that query has taken in these documents, each a number and a tree
pub record Answers (held : TextAnswer) (query : Query) (entries : List (ℕ × Tree)) : Type 0 where
  pub asked : IsTo held query
  pub gathers : Gathers held.answer query (parts_of held.excerpt entries)

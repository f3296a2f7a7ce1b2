-- What the answer to a query reads whole and does not pass over, told by the query.
use Rattle.std.proofs.Common.{◌≡◌, ◌≢◌, ℕ, Bool, true, false, List, [], Option, Some, None, inl, inr, refl}
use Rattle.ax_tree.specs.CanonicalText.{canonical_text}
use Rattle.ax_tree.specs.declared.tree.Tree.{Tree}
use Rattle.ax_mean.specs.declared.query.Query.{Query}
use Rattle.ax_mean.specs.Rows.{envs_of_tree}
use Rattle.ax_excerpt.specs.declared.excerpt.Excerpt.{Excerpt}
use Rattle.ax_sieve.specs.Conditions.{DropsNothing, IsSieve, is_dropped}
use Rattle.ax_sieve.specs.declared.sieve.Sieve.{Sieve}
use Rattle.ax_answer_text.specs.declared.text_answer.TextAnswer.{TextAnswer}
use Rattle.ax_answer_text.specs.Parts.{AreReadWhole, AreReadWholeFor, IsOfDocument, IsTakenWhole, Suffices, is_plain}
use Rattle.ax_answer_text.specs.TextAnswers.{IsTo}

whole_by : (excerpt : Option Excerpt) (query : Query) (text : List ℕ) → is_plain excerpt ≡ true
    → Suffices excerpt query → AreReadWholeFor query text → AreReadWhole excerpt text
whole_by None query text plain enough whole = tt
whole_by (Some excerpt) query text plain enough (inl all) = inl (all excerpt plain enough)
whole_by (Some excerpt) query text plain enough (inr none) = inr none

-- what is read whole for a query is read whole by the answer to it
read_whole : (answer : TextAnswer) (query : Query) (text : List ℕ) → IsTo answer query
    → AreReadWholeFor query text → AreReadWhole answer.excerpt text
read_whole answer query text asked whole =
    whole_by answer.excerpt query text answer.plain asked.enough whole

-- no condition rules out a tree that has rows
not_ruled_out : (sieve : Sieve) (query : Query) (tree : Tree) → IsSieve sieve query → envs_of_tree query tree ≢ []
    → is_dropped sieve tree ≡ false
not_ruled_out sieve query tree sifts rows = by (is_dropped sieve tree) refl
  where
    by : (dropped : Bool) → is_dropped sieve tree ≡ dropped → dropped ≡ false
    by true is = absurd (rows (sifts tree is).0)
    by false is = refl

-- what was taken in whole is a document's text
pub taken_whole : (answer : TextAnswer) (query : Query) (text : List ℕ) → IsTo answer query
    → (DropsNothing answer.sieve → AreReadWhole answer.excerpt text → IsOfDocument text)
    → ((tree : Tree) → text ≡ canonical_text tree → is_dropped answer.sieve tree ≡ false
    → AreReadWhole answer.excerpt text → IsOfDocument text)
    → IsTakenWhole query text → IsOfDocument text
taken_whole answer query text asked undropped kept (whole, inl none) =
    undropped (asked.nothing none) (read_whole answer query text asked whole)
taken_whole answer query text asked undropped kept (whole, inr has) =
    kept has.tree has.spelled (not_ruled_out answer.sieve query has.tree asked.sifts has.rows)
    (read_whole answer query text asked whole)

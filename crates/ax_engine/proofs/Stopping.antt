-- Walks that stop where the documents that they took in are enough.
use Rattle.std.proofs.Common.{◌≡◌, ℕ, ◌+◌, ◌*◌, ◌<◌, ◌≤◌, List, [], ◌∷◌, ◌++◌, length, take, drop, Bool, true, false, ◌||◌}
use Rattle.std.proofs.Common.{refl, sym, ap, ap₂, subst, ◌∙◌, inl, inr, arith, rules}
use Rattle.std.proofs.Math.Seq.{take-append_seam}
use Rattle.std.proofs.lemmas.Bool.{cases_lt, false≢true}
use Rattle.std.proofs.lemmas.List.{length-append, length-map, length-take-le, take-append-drop}
use Rattle.ax_answer.specs.Gathering.{HasEnough}
use Rattle.ax_answer_text.specs.TextAnswers.{Answers}
use Rattle.ax_answer_text.specs.declared.text_answer.TextAnswer.{TextAnswer}
use Rattle.ax_container.specs.Container.{Container}
use Rattle.ax_excerpt.proofs.SameRows.{same_rows}
use Rattle.ax_excerpt.proofs.ShownRows.{shown_rows}
use Rattle.ax_excerpt.specs.Enough.{is_enough}
use Rattle.ax_excerpt.specs.Excerpts.{excerpt_of}
use Rattle.ax_excerpt.specs.ShownDocuments.{PicksAlias, ShowsDocument, ShowsFrom, showing, without_pick}
use Rattle.ax_excerpt.specs.declared.excerpt.Excerpt as excerpt
use Rattle.ax_machine.specs.Querying.{numbered}
use Rattle.ax_mean.specs.Aggregates.{has_aggregate, has_some, picks_aggregate}
use Rattle.ax_mean.specs.Answer.{all_rows, distinct_where}
use Rattle.ax_mean.specs.Rows.{keyed_rows}
use Rattle.ax_mean.specs.declared.expr.Expr as expr
use Rattle.ax_mean.specs.declared.query.FromItem.{FromItem}
use Rattle.ax_mean.specs.declared.query.Pick.{Pick}
use Rattle.ax_mean.specs.declared.query.Pick.TheVariants as pick
use Rattle.ax_mean.specs.declared.query.Query.{Query}
use Rattle.ax_mean.specs.declared.value.Value.TheVariants.{Defined}
use Rattle.ax_skips.specs.Chosen.{fetched}
use Rattle.ax_tree.specs.declared.tree.Tree as tree
use Rattle.ax_tree.specs.declared.tree.Tree.{Tree}
use Rattle.ax_engine.specs.Stopping.{StopsAtEnough, StopsInAll, StopsInNumbers}
use Rattle.ax_engine.specs.declared.candidates.Candidates.{Candidates}
use Rattle.ax_engine.specs.declared.candidates.Candidates.TheVariants.{All, Numbers}
use Rattle.ax_engine.proofs.InOrder.{above, pairs}
use Rattle.ax_engine.proofs.WholeEnough.{whole_is_enough}

-- two fronts of one list that are as long are the same
same_front : {A : Type 0} (front back other rest : List A) → front ++ back ≡ other ++ rest → length front ≡ length other
    → front ≡ other
same_front front back other rest is long =
    sym (take-append_seam front back) ∙ ap₂ (λ n all. take n all) long is ∙ take-append_seam other rest

-- Of an answer that would be done with enough, and is not: what it took in is less than what is enough.
module _ {A : Type 0} (documents : List A → List (ℕ × Tree)) (query : Query) (done : Bool) (taken rest : List A)
    (would : HasEnough query (documents taken) → done ≡ true) (on : done ≡ false) where
  less_than_enough : (front back : List A) → taken ++ rest ≡ front ++ back → HasEnough query (documents front)
      → length taken ≤ length front → length taken < length front
  less_than_enough front back is enough within =
      elim (cases_lt (length taken) (length front)) as (λ _. length taken < length front) [
        | inl less ↦ less
        | inr no_less ↦
            let same : taken ≡ front = same_front taken rest front back is (omega (arith, within, no_less)) in
            absurd (false≢true (sym on ∙ would (subst (λ (list : List A). HasEnough query (documents list)) (sym same) enough)))
      ]

-- ---- over numbers

-- so many were taken, and no more than are enough
abbrev pub IsWithinNumbers : List ℕ → Query → Container → ℕ → Type 0
IsWithinNumbers numbers query container i =
    (front back : List ℕ) → numbers ≡ front ++ back → HasEnough query (fetched front container) → i ≤ length front

module _ (numbers : List ℕ) (query : Query) (container : Container) (i : ℕ) where
  -- one more is taken where the answer is not done
  pub one_number_on : (answer : TextAnswer) (done : Bool) → i < length numbers
      → Answers answer query (fetched (take i numbers) container)
      → ((entries : List (ℕ × Tree)) → Answers answer query entries → HasEnough query entries → done ≡ true) → done ≡ false
      → IsWithinNumbers numbers query container i → IsWithinNumbers numbers query container (i + 1)
  one_number_on answer done low answers would on within front back is enough =
      let many : length (take i numbers) ≡ i = length-take-le i numbers (omega (arith, low)) in
      let before : i ≤ length front = within front back is enough in
      let less = less_than_enough (λ (list : List ℕ). fetched list container) query done (take i numbers) (drop i numbers)
      (would (fetched (take i numbers) container) answers) on front back (take-append-drop i numbers ∙ is) enough
      (omega (arith, many, before)) in
      omega (arith, many, less)

  -- two steps for each
  pub stops_in_numbers : (old new : ℕ) → IsWithinNumbers numbers query container i → new ≤ old + 2 * i
      → StopsInNumbers numbers query container old new
  stops_in_numbers old new within two front back is enough =
      let before : i ≤ length front = within front back is enough in
      omega (arith, before, two)

-- ---- over all documents

-- those up to the number were taken, and no more than are enough
abbrev pub IsWithinAll : Query → Container → ℕ → Type 0
IsWithinAll query container number =
    (front back : List (ℕ × Tree)) → numbered container ≡ front ++ back → HasEnough query front
    → length container.entries ≤ length front + length (above number container.entries)

-- of none
pub nothing_within : (query : Query) (container : Container) → above 0 container.entries ≡ container.entries
    → IsWithinAll query container 0
nothing_within query container all front back is enough = omega (arith, ap length all)

module _ (query : Query) (container : Container) (number : ℕ) where
  -- the next one is taken where the answer is not done
  pub one_document_on : (next : ℕ) (answer : TextAnswer) (done : Bool)
      → length (above number container.entries) ≡ length (above next container.entries) + 1
      → (taken : List (ℕ × Tree)) → taken ++ pairs (above number container.entries) ≡ pairs container.entries
      → Answers answer query taken
      → ((entries : List (ℕ × Tree)) → Answers answer query entries → HasEnough query entries → done ≡ true) → done ≡ false
      → IsWithinAll query container number → IsWithinAll query container next
  one_document_on next answer done one taken known answers would on within front back is enough =
      let rest : List (ℕ × Tree) = pairs (above number container.entries) in
      let many : length taken + length (above number container.entries) ≡ length container.entries =
      ap (λ n. length taken + n) (sym (length-map (above number container.entries) _))
      ∙ sym (length-append taken rest) ∙ ap length known ∙ length-map container.entries _ in
      let before = within front back is enough in
      let less = less_than_enough (λ (list : List (ℕ × Tree)). list) query done taken rest (would taken answers) on front back
      (known ∙ is) enough (omega (arith, many, before)) in
      omega (arith, one, many, less)

  -- two steps for each
  pub stops_in_all : (old new : ℕ) → IsWithinAll query container number
      → new + 2 * length (above number container.entries) ≤ old + 2 * length container.entries → StopsInAll query container old new
  stops_in_all old new within two front back is enough =
      let before = within front back is enough in
      omega (arith, before, two)

-- ---- over candidates

pub none_fetched : (candidates : Candidates) (query : Query) (container : Container) (steps : ℕ)
    → StopsAtEnough candidates query container steps steps
none_fetched All query container steps = λ front back is enough. omega arith
none_fetched (Numbers numbers) query container steps = λ front back is enough. omega arith

-- ---- for the keys of documents that are printed

no_null_aggregate : has_aggregate (expr.Literal (Defined tree.Null)) ≡ false
no_null_aggregate = search (rules, expr.the_lemmas)

module _ (query : Query) (is : ShowsDocument query) where
  whole : is_enough excerpt.Whole (without_pick query) ≡ true
  whole = whole_is_enough (without_pick query)

  as_many_each : (number : ℕ) (t : Tree) → length (keyed_rows query number t) ≡ length (keyed_rows (without_pick query) number t)
  as_many_each number t =
      ap length (shown_rows excerpt.Whole query number t is whole)
      ∙ length-map (keyed_rows (without_pick query) number (excerpt_of excerpt.Whole t)) (showing t)
      ∙ ap length (same_rows excerpt.Whole (without_pick query) number t whole)

  -- there are as many keys as rows
  as_many : (entries : List (ℕ × Tree)) → length (all_rows query entries) ≡ length (all_rows (without_pick query) entries)
  as_many [] = refl
  as_many (entry ∷ entries) =
      length-append (keyed_rows query entry.0 entry.1) (all_rows query entries)
      ∙ ap₂ (λ m n. m + n) (as_many_each entry.0 entry.1) (as_many entries)
      ∙ sym (length-append (keyed_rows (without_pick query) entry.0 entry.1) (all_rows (without_pick query) entries))

  -- enough for the rows is enough for their keys
  enough_keys : (entries : List (ℕ × Tree)) → HasEnough query entries → HasEnough (without_pick query) entries
  enough_keys entries enough = record {
    no_groups = ap₂ (λ (a b : Bool). a || b) (ap has_some is.1) no_null_aggregate;
    no_orders = enough.no_orders;
    limit = enough.limit;
    limited = enough.limited;
    many = subst (λ n. query.skip + enough.limit ≤ n)
        (ap (λ distinct. length (distinct_where distinct (all_rows query entries))) is.0
        ∙ as_many entries
        ∙ ap (λ distinct. length (distinct_where distinct (all_rows (without_pick query) entries))) (sym is.0))
        enough.many;
  }

  no_total : picks_aggregate query.pick ≡ false
  no_total = by query.pick query.froms is.2
    where
      of_pick : (alias : List ℕ) (picked : Pick) → PicksAlias alias picked → picks_aggregate picked ≡ false
      of_pick alias pick.Star picks = refl
      of_pick alias (pick.Value x) picks = ap has_aggregate picks ∙ search (rules, expr.the_lemmas)
      of_pick alias (pick.Named items) picks = absurd picks

      by : (picked : Pick) (froms : List FromItem) → ShowsFrom picked froms → picks_aggregate picked ≡ false
      by picked [] shows = absurd shows
      by picked (item ∷ []) shows = of_pick item.alias picked shows.1
      by picked (item ∷ next ∷ items) shows = absurd shows

  -- enough for the keys is enough for the rows
  pub enough_rows : (entries : List (ℕ × Tree)) → HasEnough (without_pick query) entries → HasEnough query entries
  enough_rows entries enough = record {
    no_groups = ap₂ (λ (a b : Bool). a || b) (ap has_some is.1) no_total;
    no_orders = enough.no_orders;
    limit = enough.limit;
    limited = enough.limited;
    many = subst (λ n. query.skip + enough.limit ≤ n)
        (ap (λ distinct. length (distinct_where distinct (all_rows (without_pick query) entries))) is.0
        ∙ sym (as_many entries)
        ∙ ap (λ distinct. length (distinct_where distinct (all_rows query entries))) (sym is.0))
        enough.many;
  }

  pub stops_for_keys : (keys : Query) (candidates : Candidates) (container : Container) (old new : ℕ)
      → keys ≡ without_pick query → StopsAtEnough candidates keys container old new
      → StopsAtEnough candidates query container old new
  stops_for_keys keys candidates container old new these stops =
      by candidates (subst (λ (q : Query). StopsAtEnough candidates q container old new) these stops)
    where
      by : (candidates : Candidates) → StopsAtEnough candidates (without_pick query) container old new
          → StopsAtEnough candidates query container old new
      by All stops = λ front back is enough. stops front back is (enough_keys front enough)
      by (Numbers numbers) stops = λ front back is enough. stops front back is (enough_keys (fetched front container) enough)

-- One document more, the end of a walk, and the answer.
use Rattle.std.proofs.Common.{◌≡◌, ◌⊎◌, ◌≤◌, ◌+◌, ℕ, List, [], ◌∷◌, ◌++◌, length, map, Bool, true, false, Option, Some, None, inl, inr, refl, sym, ap, subst}
use Rattle.std.proofs.Common.{◌∙◌}
use Rattle.std.proofs.lemmas.Bool.{false≢true}
use Rattle.std.specs.Option.{IfSome}
use Rattle.std.specs.List.Sorted.{IsStrictlySortedBy}
use Rattle.std.specs.Ordering.{nat_cmp}
use Rattle.ax_tree.specs.declared.tree.Tree.{Tree}
use Rattle.ax_mean.specs.declared.query.KeyedRow.{KeyedRow}
use Rattle.ax_mean.specs.declared.query.Query.{Query}
use Rattle.ax_mean.specs.Answer.{distinct_where}
use Rattle.ax_excerpt.specs.declared.excerpt.Excerpt.{Excerpt}
use Rattle.ax_excerpt.specs.Enough.{is_enough}
use Rattle.ax_excerpt.specs.Plain.{are_plain}
use Rattle.ax_sieve.specs.Conditions.{is_dropped, DropsNothing}
use Rattle.ax_result.specs.Answers.{answer_of}
use Rattle.ax_answer.proofs.Rowless.{nothing_added}
use Rattle.ax_answer.specs.Gathering.{Gathers, HasEnough}
use Rattle.ax_answer_text.specs.declared.text_answer.TextAnswer.{TextAnswer}
use Rattle.ax_answer_text.specs.Parts.{Suffices, IsOfDocument, is_plain, part_of, parts_of}
use Rattle.ax_answer_text.specs.TextAnswers.{Answers, IsTo}
use Rattle.ax_answer_text.proofs.SameParts.{all_the_same, and_parts, no_envs, no_rows, same_answer, same_numbers}

pub found_suffices : (found : Option Excerpt) (query : Query)
    → IfSome found (λ excerpt. (is_enough excerpt query ≡ true) × (are_plain excerpt ≡ true))
    → Suffices found query
found_suffices None query given = tt
found_suffices (Some excerpt) query given = given.0

pub found_is_plain : (found : Option Excerpt) (query : Query)
    → IfSome found (λ excerpt. (is_enough excerpt query ≡ true) × (are_plain excerpt ≡ true))
    → is_plain found ≡ true
found_is_plain None query given = refl
found_is_plain (Some excerpt) query given = given.1

-- a document that is dropped adds nothing
pub dropped : (held : TextAnswer) (query : Query) (entries : List (ℕ × Tree)) (number : ℕ) (tree : Tree)
    → is_dropped held.sieve tree ≡ true → Answers held query entries
    → Answers held query (entries ++ (number, tree) ∷ [])
dropped held query entries number tree is answers =
    let none = answers.asked.sifts tree is in
    record {
      asked = answers.asked;
      gathers = subst (Gathers held.answer query)
          (sym (and_parts held.excerpt entries ((number, tree) ∷ [])))
          (nothing_added query (parts_of held.excerpt entries) number (part_of held.excerpt tree)
          (no_envs held.excerpt query tree answers.asked.enough none.0)
          (no_rows held.excerpt query number tree answers.asked.enough (none.1 number))
          held.answer answers.gathers);
    }

-- it is one to the same query
pub asked_still : (old new : TextAnswer) → new.sieve ≡ old.sieve → new.excerpt ≡ old.excerpt
    → new.is_limited ≡ old.is_limited → (query : Query) → IsTo old query → IsTo new query
asked_still old new sieve excerpt limit query asked = record {
  sifts = λ t dropped. asked.sifts t (ap (λ s. is_dropped s t) (sym sieve) ∙ dropped);
  nothing = λ none. subst DropsNothing (sym sieve) (asked.nothing none);
  enough = subst (λ e. Suffices e query) (sym excerpt) asked.enough;
  limited = limit ∙ asked.limited;
}

-- what is read of a document is taken in
pub taken : (old new : TextAnswer) (number : ℕ) (tree part : Tree) → new.sieve ≡ old.sieve
    → new.excerpt ≡ old.excerpt → new.is_limited ≡ old.is_limited → part ≡ part_of old.excerpt tree
    → ((query : Query) (entries : List (ℕ × Tree)) → Gathers old.answer query entries
    → Gathers new.answer query (entries ++ (number, part) ∷ []))
    → (query : Query) (entries : List (ℕ × Tree)) → Answers old query entries
    → Answers new query (entries ++ (number, tree) ∷ [])
taken old new number tree part sieve excerpt limit is added query entries answers = record {
  asked = asked_still old new sieve excerpt limit query answers.asked;
  gathers = subst (Gathers new.answer query)
      (ap (λ p. parts_of old.excerpt entries ++ (number, p) ∷ []) is
      ∙ sym (and_parts old.excerpt entries ((number, tree) ∷ []))
      ∙ ap (λ e. parts_of e (entries ++ (number, tree) ∷ [])) (sym excerpt))
      (added query (parts_of old.excerpt entries) answers.gathers);
}

-- no further document changes the answer
pub done : (held : TextAnswer)
    → ((query : Query) (entries more : List (ℕ × Tree)) → Gathers held.answer query entries
    → Gathers held.answer query (entries ++ more))
    → (query : Query) (entries more : List (ℕ × Tree)) → Answers held query entries
    → Answers held query (entries ++ more)
done held sound query entries more answers = record {
  asked = answers.asked;
  gathers = subst (Gathers held.answer query) (sym (and_parts held.excerpt entries more))
      (sound query (parts_of held.excerpt entries) (parts_of held.excerpt more) answers.gathers);
}

-- as many rows as OFFSET and LIMIT choose among, of documents and of what is read of them
pub enough_is_told : (held : TextAnswer) (done : Bool)
    → ((query : Query) (entries : List (ℕ × Tree)) → Gathers held.answer query entries
    → HasEnough query entries → done ≡ true)
    → (query : Query) (entries : List (ℕ × Tree)) → Answers held query entries
    → HasEnough query entries → done ≡ true
enough_is_told held done told query entries answers enough =
    told query (parts_of held.excerpt entries) answers.gathers (record {
      no_groups = enough.no_groups;
      no_orders = enough.no_orders;
      limit = enough.limit;
      limited = enough.limited;
      many = subst (λ (rows : List KeyedRow). query.skip + enough.limit
          ≤ length (distinct_where query.distinct rows))
          (sym (all_the_same held.excerpt query entries answers.asked.enough)) enough.many;
    })

-- an answer that is done has enough, or no row is wanted
pub done_with_enough : (held : TextAnswer)
    → ((query : Query) (entries : List (ℕ × Tree)) → Gathers held.answer query entries → (query.limit ≡ Some 0) ⊎ HasEnough query entries)
    → (query : Query) (entries : List (ℕ × Tree)) → Answers held query entries → (query.limit ≡ Some 0) ⊎ HasEnough query entries
done_with_enough held told query entries answers =
    elim (told query (parts_of held.excerpt entries) answers.gathers) as (λ _. (query.limit ≡ Some 0) ⊎ HasEnough query entries) [
      | inl none ↦ inl none
      | inr enough ↦ inr (record {
        no_groups = enough.no_groups;
        no_orders = enough.no_orders;
        limit = enough.limit;
        limited = enough.limited;
        many = subst (λ (rows : List KeyedRow). query.skip + enough.limit ≤ length (distinct_where query.distinct rows))
            (all_the_same held.excerpt query entries answers.asked.enough) enough.many;
      })
    ]

pub none_wanted_is_told : (held : TextAnswer) (done : Bool)
    → ((query : Query) (entries : List (ℕ × Tree)) → Gathers held.answer query entries
    → query.limit ≡ Some 0 → done ≡ true)
    → (query : Query) (entries : List (ℕ × Tree)) → Answers held query entries
    → query.limit ≡ Some 0 → done ≡ true
none_wanted_is_told held done told query entries answers limited =
    told query (parts_of held.excerpt entries) answers.gathers limited

pub finished : (held : TextAnswer) (rows : List KeyedRow)
    → ((query : Query) (entries : List (ℕ × Tree)) → Gathers held.answer query entries
    → IsStrictlySortedBy nat_cmp (map (λ (e : ℕ × Tree). e.0) entries) → rows ≡ answer_of query entries)
    → (query : Query) (entries : List (ℕ × Tree)) → Answers held query entries
    → IsStrictlySortedBy nat_cmp (map (λ (e : ℕ × Tree). e.0) entries)
    → rows ≡ answer_of query entries
finished held rows gives query entries answers rise =
    gives query (parts_of held.excerpt entries) answers.gathers
    (subst (IsStrictlySortedBy nat_cmp) (sym (same_numbers held.excerpt entries)) rise)
    ∙ same_answer held.excerpt query entries answers.asked.enough

-- bytes that are no document's are not dropped, where nothing is
pub none_passed_over : (held : TextAnswer) (text : List ℕ) (drops : Bool) → drops ≡ true
    → (DropsNothing held.sieve → drops ≡ false) → DropsNothing held.sieve → IsOfDocument text
none_passed_over held text drops is nothing none = absurd (false≢true (sym (nothing none) ∙ is))

-- nor are those of a tree that no condition rules out
pub not_passed_over : (held : TextAnswer) (text : List ℕ) (tree : Tree) → is_dropped held.sieve tree ≡ true
    → is_dropped held.sieve tree ≡ false → IsOfDocument text
not_passed_over held text tree dropped kept = absurd (false≢true (sym kept ∙ dropped))

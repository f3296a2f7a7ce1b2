-- How far walks over documents went: the first of the numbers, their texts, and where they end with a limit.
use Rattle.std.proofs.Common.{◌≡◌, ◌⊎◌, ℕ, zero, suc, ◌+◌, ◌<◌, ◌≤◌, List, [], ◌∷◌, ◌++◌, length, take, get_or, true, Option, Some, None}
use Rattle.std.proofs.Common.{refl, sym, ap, subst, ◌∙◌, ⊎_elim, inl, inr, arith}
use Rattle.std.specs.FinMap as finite
use Rattle.std.specs.List.Sorted.{IsStrictlyIncreasing}
use Rattle.std.specs.Prelude.{IsSome}
use Rattle.std.proofs.Math.ListN.{get_or-append}
use Rattle.std.proofs.Math.Seq.{get_or-append_seam}
use Rattle.std.proofs.lemmas.Bool.{cases_lt}
use Rattle.std.proofs.lemmas.List.{append-nil, get_or-take, get_or_default, length-append, length-take-le}
use Rattle.ax_answer.specs.Gathering.{HasEnough}
use Rattle.ax_answer_text.specs.Parts.{IsKept, IsTakenWhole}
use Rattle.ax_answer_text.specs.TextAnswers.{Answers}
use Rattle.ax_answer_text.specs.declared.text_answer.TextAnswer.{TextAnswer}
use Rattle.ax_area.specs.Contents.{Contents, Stored}
use Rattle.ax_candidates.proofs.Shared.{contains_from_has, has_from_contains}
use Rattle.ax_delta.specs.Said.{has_number}
use Rattle.ax_excerpt.specs.ShownDocuments.{without_pick}
use Rattle.ax_mean.specs.declared.query.Query.{Query}
use Rattle.ax_store.specs.Listed.{IsNextAfter}
use Rattle.ax_tree.specs.declared.tree.Tree.{Tree}
use Rattle.ax_engine.specs.Damage.{IsReadWhole, MeetsDocuments}
use Rattle.ax_engine.specs.Printing.{IsPrinted}
use Rattle.ax_engine.specs.StoreSays.{text_of}
use Rattle.ax_engine.specs.Walks.{AreDocuments, AreFirst, AreTexts, BeginsWith, Walks}
use Rattle.ax_engine.proofs.ByNumbers.{TakesOne}
use Rattle.ax_engine.proofs.Damaging.{AreDocumentsTo}
use Rattle.ax_engine.proofs.Stopping.{enough_rows}

-- ---- the texts of numbers

-- what is behind the last of them
record Split (contents : Contents) (numbers : List ℕ) (number : ℕ) (entries : List (ℕ × Tree)) : Type 0 where
  front : List (ℕ × Tree)
  last : List (ℕ × Tree)
  before : AreTexts contents numbers front
  here : BeginsWith (finite.get contents.documents number) number last (λ rest. rest ≡ [])
  both : entries ≡ front ++ last

split_on : (contents : Contents) (held : Option Stored) (first : ℕ) (numbers : List ℕ) (number : ℕ) (entries : List (ℕ × Tree))
    → ((rest : List (ℕ × Tree)) → AreTexts contents (numbers ++ number ∷ []) rest → Split contents numbers number rest)
    → finite.get contents.documents first ≡ held
    → BeginsWith held first entries (AreTexts contents (numbers ++ number ∷ [])) → Split contents (first ∷ numbers) number entries
split_on contents None first numbers number entries further is begins =
    let split = further entries begins in
    record {
      front = split.front;
      last = split.last;
      before = subst (λ held. BeginsWith held first split.front (AreTexts contents numbers)) (sym is) split.before;
      here = split.here;
      both = split.both;
    }
split_on contents (Some stored) first numbers number entries further is begins =
    let (tree, rest, stored_text, list, more) = begins in
    let split = further rest more in
    record {
      front = (first, tree) ∷ split.front;
      last = split.last;
      before = subst (λ held. BeginsWith held first ((first, tree) ∷ split.front) (AreTexts contents numbers)) (sym is)
          (tree, split.front, stored_text, refl, split.before);
      here = split.here;
      both = list ∙ ap (λ es. (first, tree) ∷ es) split.both;
    }

split_texts : (contents : Contents) (numbers : List ℕ) (number : ℕ) (entries : List (ℕ × Tree))
    → AreTexts contents (numbers ++ number ∷ []) entries → Split contents numbers number entries
split_texts contents [] number entries texts = record { front = []; last = entries; before = refl; here = texts; both = refl }
split_texts contents (first ∷ numbers) number entries texts =
    split_on contents (finite.get contents.documents first) first numbers number entries
    (λ rest more. split_texts contents numbers number rest more) refl texts

-- an answer that has taken in the texts so far, and one number more
module _ (contents : Contents) (query : Query) (old new : TextAnswer) (numbers : List ℕ) (number : ℕ)
    (takes : TakesOne contents query old new number)
    (before : (entries : List (ℕ × Tree)) → AreTexts contents numbers entries → Answers old query entries) where
  by_held : (held : Option Stored) → finite.get contents.documents number ≡ held → (front last : List (ℕ × Tree))
      → AreTexts contents numbers front → BeginsWith held number last (λ rest. rest ≡ []) → Answers new query (front ++ last)
  by_held None is front last texts begins =
      subst (λ (es : List (ℕ × Tree)). Answers new query es) (sym (append-nil front) ∙ ap (λ es. front ++ es) (sym begins))
      (takes.unheld is front (before front texts))
  by_held (Some stored) is front last texts begins =
      let (tree, rest, stored_text, list, none) = begins in
      subst (λ (es : List (ℕ × Tree)). Answers new query (front ++ es)) (sym (list ∙ ap (λ es. (number, tree) ∷ es) none))
      (takes.held tree (ap text_of is ∙ ap (λ text. Some text) stored_text.spelled) stored_text.storable front (before front texts))

  pub texts_taken : (entries : List (ℕ × Tree)) → AreTexts contents (numbers ++ number ∷ []) entries → Answers new query entries
  texts_taken entries texts =
      let split = split_texts contents numbers number entries texts in
      subst (λ (es : List (ℕ × Tree)). Answers new query es) (sym split.both)
      (by_held (finite.get contents.documents number) refl split.front split.last split.before split.here)

-- ---- where a walk ends

-- an answer that is done has enough, or no row is wanted
abbrev pub TellsDone : TextAnswer → Query → Type 0
TellsDone answer query =
    (entries : List (ℕ × Tree)) → Answers answer query entries → (query.limit ≡ Some 0) ⊎ HasEnough query entries

module _ (IsOne : ℕ → Type 0) (IsRead : List ℕ → Type 0) (query : Query) (contents : Contents) (answer : TextAnswer) (numbers : List ℕ)
    (first : AreFirst IsOne contents numbers) (met : AreDocuments (λ number. has_number number numbers ≡ true) IsRead contents)
    (limited : query.limit ≡ None → ⊥) (taken : (entries : List (ℕ × Tree)) → AreTexts contents numbers entries → Answers answer query entries)
    (done : TellsDone answer query) where
  enough : (limit : Option ℕ) → query.limit ≡ limit
      → (query.limit ≡ Some 0) ⊎ ((entries : List (ℕ × Tree)) → AreTexts contents numbers entries → HasEnough query entries)
  enough None is = absurd (limited is)
  enough (Some zero) is = inl is
  enough (Some (suc n)) is =
      inr (λ entries texts. ⊎_elim {C = HasEnough query entries}
      (λ (zero_is : query.limit ≡ Some 0). let no : Some 0 ≡ Some (suc n) = sym zero_is ∙ is in absurd cc)
      (λ (has : HasEnough query entries). has)
      (done entries (taken entries texts)))

  pub ends_early : Walks IsOne IsRead query contents
  ends_early = inr (record { numbers = numbers; first = first; met = met; limited = limited; enough = enough query.limit refl })

-- ---- places in lists

-- a number of a list stands at a place
placed : (numbers : List ℕ) (number : ℕ) → has_number number numbers ≡ true → (k : ℕ) × (k < length numbers) × (get_or numbers k 0 ≡ number)
placed numbers number there =
    let (k, low, is) = contains_from_has numbers number there in
    (k, low, get_or_default numbers k 0 number low ∙ is)

has_placed : (numbers : List ℕ) (number k : ℕ) → k < length numbers → get_or numbers k 0 ≡ number → has_number number numbers ≡ true
has_placed numbers number k low is = has_from_contains numbers number (k, low, get_or_default numbers k number 0 low ∙ is)

-- ---- the first of rising numbers

module _ (numbers : List ℕ) (rising : IsStrictlyIncreasing numbers) where
  -- places rise as the numbers do
  below_at : (i j : ℕ) → i < j → j < length numbers → get_or numbers i 0 < get_or numbers j 0
  below_at i zero less low = absurd (omega (arith, less))
  below_at i (suc j) less low =
      let on : j + 1 ≡ suc j = omega arith in
      let next : get_or numbers j 0 < get_or numbers (j + 1) 0 = rising j (omega (arith, low)) in
      ⊎_elim {C = get_or numbers i 0 < get_or numbers (suc j) 0}
      (λ (l : i < j). omega (arith, below_at i j l (omega (arith, low)), next, ap (λ (k : ℕ). get_or numbers k 0) on))
      (λ (l : j ≤ i).
      let same : i ≡ j = omega (arith, less, l) in
      omega (arith, ap (λ (k : ℕ). get_or numbers k 0) same, next, ap (λ (k : ℕ). get_or numbers k 0) on))
      (cases_lt i j)

module _ (contents : Contents) (numbers : List ℕ) (i : ℕ) (rising : IsStrictlyIncreasing numbers) (within : i ≤ length numbers) where
  abbrev front : List ℕ
  front = take i numbers

  long : length front ≡ i
  long = length-take-le i numbers within

  at : (k : ℕ) → k < i → get_or front k 0 ≡ get_or numbers k 0
  at k low = get_or-take i numbers k 0 low

  pub front_rises : IsStrictlyIncreasing front
  front_rises k low =
      let less : k + 1 < i = omega (arith, low, long) in
      omega (arith, at k (omega (arith, less)), at (k + 1) less, rising k (omega (arith, less, within)))

  before_last : (number last : ℕ) → number ≤ last → has_number last front ≡ true → has_number number numbers ≡ true
      → has_number number front ≡ true
  before_last number last up there one =
      let (k, low, is) = placed front last there in
      let (j, high, at_j) = placed numbers number one in
      let less : k < i = omega (arith, low, long) in
      ⊎_elim {C = has_number number front ≡ true}
      (λ (l : k < j).
      let above = below_at numbers rising k j l high in
      absurd (omega (arith, above, up, at k less, is, at_j)))
      (λ (l : j ≤ k).
      let near : j < i = omega (arith, l, less) in
      has_placed front number j (omega (arith, near, long)) (at j near ∙ at_j))
      (cases_lt k j)

  pub first_numbers : AreFirst (λ number. has_number number numbers ≡ true) contents front
  first_numbers = record {
    rising = front_rises;
    all = λ number last low up there one held. before_last number last up there one;
  }

-- ---- the first of all that are held

-- these are all numbers up to that one under which documents are held
pub record AreHeldTo (last : ℕ) (contents : Contents) (numbers : List ℕ) : Type 0 where
  pub rising : IsStrictlyIncreasing numbers
  pub within : (k : ℕ) → k < length numbers → get_or numbers k 0 ≤ last
  pub all : (number : ℕ) → 0 < number → number ≤ last → IsSome (finite.get contents.documents number) → has_number number numbers ≡ true

pub none_held : (contents : Contents) → AreHeldTo 0 contents []
none_held contents = record {
  rising = λ k low. absurd (omega (arith, low));
  within = λ k low. absurd (omega (arith, low));
  all = λ number low high held. absurd (omega (arith, low, high));
}

not_held : (held : Option Stored) → IsSome held → held ≡ None → ⊥
not_held None is none = absurd cc
not_held (Some stored) is none = absurd cc

module _ (contents : Contents) (n k : ℕ) (numbers : List ℕ) (before : AreHeldTo n contents numbers) (next : IsNextAfter contents.documents n k) where
  abbrev more : List ℕ
  more = numbers ++ k ∷ []

  pub one_held_more : AreHeldTo k contents (numbers ++ k ∷ [])
  one_held_more = record {
    rising = λ j low.
        let whole : length more ≡ length numbers + 1 = length-append numbers (k ∷ []) in
        ⊎_elim {C = get_or more j 0 < get_or more (j + 1) 0}
        (λ (l : j + 1 < length numbers). omega (
          arith,
          before.rising j l,
          get_or-append numbers (k ∷ []) 0 j (omega arith),
          get_or-append numbers (k ∷ []) 0 (j + 1) l,
        ))
        (λ (l : length numbers ≤ j + 1).
        let at : j + 1 ≡ length numbers = omega (arith, l, low, whole) in
        let last : get_or more (j + 1) 0 ≡ k = ap (λ (i : ℕ). get_or more i 0) at ∙ get_or-append_seam numbers k [] 0 in
        omega (arith, before.within j (omega (arith, at)), next.above, last, get_or-append numbers (k ∷ []) 0 j (omega (arith, at))))
        (cases_lt (j + 1) (length numbers));
    within = λ j low.
        let whole : length more ≡ length numbers + 1 = length-append numbers (k ∷ []) in
        ⊎_elim {C = get_or more j 0 ≤ k}
        (λ (l : j < length numbers). omega (arith, before.within j l, next.above, get_or-append numbers (k ∷ []) 0 j l))
        (λ (l : length numbers ≤ j).
        let at : j ≡ length numbers = omega (arith, l, low, whole) in
        omega (arith, ap (λ (i : ℕ). get_or more i 0) at ∙ get_or-append_seam numbers k [] 0))
        (cases_lt j (length numbers));
    all = λ number low high held.
        ⊎_elim {C = has_number number more ≡ true}
        (λ (l : n < number).
        ⊎_elim {C = has_number number more ≡ true}
        (λ (less : number < k). absurd (not_held (finite.get contents.documents number) held (next.least number l less)))
        (λ (le : k ≤ number).
        let same : k ≡ number = omega (arith, le, high) in
        has_placed more number (length numbers) (omega (arith, length-append numbers (k ∷ []))) (get_or-append_seam numbers k [] 0 ∙ same))
        (cases_lt number k))
        (λ (l : number ≤ n).
        let (j, j_low, is) = placed numbers number (before.all number low l held) in
        has_placed more number j (omega (arith, j_low, length-append numbers (k ∷ []))) (get_or-append numbers (k ∷ []) 0 j j_low ∙ is))
        (cases_lt n number);
  }

module _ (contents : Contents) (n : ℕ) (numbers : List ℕ) (held : AreHeldTo n contents numbers) where
  below_last : (number : ℕ) → has_number number numbers ≡ true → number ≤ n
  below_last number there =
      let (k, low, is) = placed numbers number there in
      omega (arith, held.within k low, is)

  pub first_held : AreFirst (λ number. Unit {0}) contents numbers
  first_held = record {
    rising = held.rising;
    all = λ number last low up there one some. held.all number low (omega (arith, up, below_last last there)) some;
  }

  -- the texts up to the last one are met
  pub held_met : (IsRead : List ℕ → Type 0) → AreDocumentsTo n IsRead contents
      → AreDocuments (λ number. has_number number numbers ≡ true) IsRead contents
  held_met IsRead met number document low there is read = met number document low (below_last number there) is read

-- the answer has taken in the texts of all that are held up to that number
pub record HasWalkedTo (last : ℕ) (contents : Contents) (query : Query) (answer : TextAnswer) : Type 0 where
  pub numbers : List ℕ
  pub held : AreHeldTo last contents numbers
  pub taken : (entries : List (ℕ × Tree)) → AreTexts contents numbers entries → Answers answer query entries

-- of none
pub none_walked_yet : (contents : Contents) (query : Query) (answer : TextAnswer) → Answers answer query [] → HasWalkedTo 0 contents query answer
none_walked_yet contents query answer answers = record {
  numbers = [];
  held = none_held contents;
  taken = λ entries none. subst (λ (es : List (ℕ × Tree)). Answers answer query es) (sym none) answers;
}

-- and of the next one
pub one_walked_more : (contents : Contents) (query : Query) (old new : TextAnswer) (n k : ℕ) → IsNextAfter contents.documents n k
    → TakesOne contents query old new k → HasWalkedTo n contents query old → HasWalkedTo k contents query new
one_walked_more contents query old new n k next takes before = record {
  numbers = before.numbers ++ k ∷ [];
  held = one_held_more contents n k before.numbers before.held next;
  taken = texts_taken contents query old new before.numbers k takes before.taken;
}

-- ---- walks over the same documents

-- over no number
pub none_walked : (numbers : List ℕ) (IsRead : List ℕ → Type 0) (query : Query) (contents : Contents) → numbers ≡ []
    → Walks (λ number. has_number number numbers ≡ true) IsRead query contents
none_walked numbers IsRead query contents none = inl (λ number document low there is read.
    let no : has_number number [] ≡ true = ap (λ (list : List ℕ). has_number number list) (sym none) ∙ there in
    absurd cc)

-- over some of the numbers
pub over_fewer : (One Other : ℕ → Type 0) (IsRead : List ℕ → Type 0) (query : Query) (contents : Contents)
    → ((number : ℕ) → Other number → One number) → Walks One IsRead query contents → Walks Other IsRead query contents
over_fewer One Other IsRead query contents to (inl met) =
    inl (λ number document low one is read. met number document low (to number one) is read)
over_fewer One Other IsRead query contents to (inr early) = inr (record {
  numbers = early.numbers;
  first = record {
    rising = early.first.rising;
    all = λ number last low up there one some. early.first.all number last low up there (to number one) some;
  };
  met = early.met;
  limited = early.limited;
  enough = early.enough;
})

-- for another query of the same limit, whose texts that are read the first reads too, and that has enough where that has
pub for_other : (IsOne : ℕ → Type 0) (IsRead IsReadToo : List ℕ → Type 0) (query other : Query) (contents : Contents)
    → other.limit ≡ query.limit → ((text : List ℕ) → IsReadToo text → IsRead text)
    → ((entries : List (ℕ × Tree)) → HasEnough query entries → HasEnough other entries)
    → Walks IsOne IsRead query contents → Walks IsOne IsReadToo other contents
for_other IsOne IsRead IsReadToo query other contents same reads enough (inl met) =
    inl (λ number document low one is read. met number document low one is (reads document.text read))
for_other IsOne IsRead IsReadToo query other contents same reads enough (inr early) = inr (record {
  numbers = early.numbers;
  first = early.first;
  met = λ number document low one is read. early.met number document low one is (reads document.text read);
  limited = λ none. early.limited (sym same ∙ none);
  enough = ⊎_elim {C = (other.limit ≡ Some 0) ⊎ ((entries : List (ℕ × Tree)) → AreTexts contents early.numbers entries → HasEnough other entries)}
      (λ (is : query.limit ≡ Some 0). inl (same ∙ is))
      (λ (has : (entries : List (ℕ × Tree)) → AreTexts contents early.numbers entries → HasEnough query entries).
      inr (λ entries texts. enough entries (has entries texts)))
      early.enough;
})

-- rows that are written
pub rows_met : (IsOne : ℕ → Type 0) (query : Query) (contents : Contents)
    → Walks IsOne (IsTakenWhole query) query contents → MeetsDocuments IsOne query contents
rows_met IsOne query contents walks =
    for_other IsOne (IsTakenWhole query) (λ text. IsReadWhole query text × IsKept query text) query query contents refl read
    (λ entries has. has) walks
  where
    read : (text : List ℕ) → IsReadWhole query text × IsKept query text → IsTakenWhole query text
    read text (inl none, kept) = (inr none, kept)
    read text (inr (all, printed), kept) = (inl all, kept)

-- what has rows in a query has rows in that for the keys of its rows
kept_for_keys : (query : Query) (text : List ℕ) → IsKept query text → IsKept (without_pick query) text
kept_for_keys query text (inl none) = inl none
kept_for_keys query text (inr has) = inr (record { tree = has.tree; spelled = has.spelled; rows = has.rows })

-- rows that are printed as they are stored, found by their keys
pub keys_met : (IsOne : ℕ → Type 0) (query keys : Query) (contents : Contents) → keys ≡ without_pick query → IsPrinted query
    → Walks IsOne (IsTakenWhole keys) keys contents → MeetsDocuments IsOne query contents
keys_met IsOne query keys contents these printed walks =
    for_other IsOne (IsTakenWhole (without_pick query)) (λ text. IsReadWhole query text × IsKept query text) (without_pick query) query
    contents refl read (enough_rows query printed.0)
    (subst (λ (q : Query). Walks IsOne (IsTakenWhole q) q contents) these walks)
  where
    read : (text : List ℕ) → IsReadWhole query text × IsKept query text → IsTakenWhole (without_pick query) text
    read text (inl none, kept) = (inr none, kept_for_keys query text kept)
    read text (inr (all, other), kept) = absurd (other printed)

-- What the parts of a store say: what it answers of its parts, in the words of all versions.
use Rattle.std.proofs.Common.{◌≡◌, ℕ, ◌<◌, true, false, List, length, drop, Option, Some, None, refl, sym, ap, subst, ◌∙◌}
use Rattle.std.specs.Prelude.{is_some, slice_index, IfSome, IfNone}
use Rattle.std.specs.FinMap as finite
use Rattle.std.specs.Option.{option_map}
use Rattle.ax_area.specs.Contents.{Stored}
use Rattle.ax_area_laws.proofs.Documents.{risen_shown, as_many}
use Rattle.ax_area_laws.specs.Agree.{shown_by}
use Rattle.ax_area_laws.specs.Risen.{risen}
use Rattle.ax_pages.specs.Contents as parts
use Rattle.ax_pool.specs.Frames.{Frames}
use Rattle.ax_store.specs.Listed.{IsNextAfter}
use Rattle.ax_store.specs.ReadAhead.{IsAhead}
use Rattle.ax_store.specs.Slots.{IsFetched, IsRead}

-- ---- documents, number by number

some_shown : (number : ℕ) (found : Option (List ℕ))
    → is_some (option_map (shown_by number) found) ≡ is_some found
some_shown number None = refl
some_shown number (Some payload) = refl

-- a number is held alike
pub held_alike : (old : parts.Contents) (number : ℕ)
    → finite.contains_key (risen old).documents number ≡ finite.contains_key old.documents number
held_alike old number =
    ap is_some (risen_shown old.documents number) ∙ some_shown number (finite.get old.documents number)

pub many_alike : (old : parts.Contents) → finite.len (risen old).documents ≡ finite.len old.documents
many_alike old = as_many old.documents (risen old).documents (risen_shown old.documents)

-- the document that a payload shows, or none where there is no payload
pub shown_there : (old : parts.Contents) (number : ℕ) (payload : Option (List ℕ)) → payload ≡ finite.get old.documents number
    → option_map (shown_by number) payload ≡ finite.get (risen old).documents number
shown_there old number payload held =
    ap (option_map (shown_by number)) held ∙ sym (risen_shown old.documents number)

-- ---- what is made of a document is what is made of its payload

made_of : {A : Type 0} (number : ℕ) (of : Stored → A) (found : Option (List ℕ))
    → option_map of (option_map (shown_by number) found) ≡ option_map (λ payload. of (shown_by number payload)) found
made_of number of None = refl
made_of number of (Some payload) = refl

made_there : {A : Type 0} (old : parts.Contents) (number : ℕ) (of : Stored → A)
    → option_map (λ payload. of (shown_by number payload)) (finite.get old.documents number)
    ≡ option_map of (finite.get (risen old).documents number)
made_there old number of =
    sym (ap (option_map of) (risen_shown old.documents number) ∙ made_of number of (finite.get old.documents number))

pub policy_says : (old : parts.Contents) (number : ℕ)
    → option_map (λ payload. slice_index payload 0) (finite.get old.documents number)
    ≡ option_map (λ (document : Stored). document.policy) (finite.get (risen old).documents number)
policy_says old number = made_there old number (λ document. document.policy)

pub text_says : (old : parts.Contents) (number : ℕ)
    → option_map (λ payload. drop 1 payload) (finite.get old.documents number)
    ≡ option_map (λ (document : Stored). document.text) (finite.get (risen old).documents number)
text_says old number = made_there old number (λ document. document.text)

len_says : (old : parts.Contents) (number : ℕ)
    → option_map (λ payload. length (drop 1 payload)) (finite.get old.documents number)
    ≡ option_map (λ (document : Stored). length document.text) (finite.get (risen old).documents number)
len_says old number = made_there old number (λ document. length document.text)

-- so many bytes as a payload has behind its first
pub len_by : (old : parts.Contents) (number : ℕ) (len : Option ℕ)
    → len ≡ option_map (λ payload. length (drop 1 payload)) (finite.get old.documents number)
    → len ≡ option_map (λ (document : Stored). length document.text) (finite.get (risen old).documents number)
len_by old number len is = is ∙ len_says old number

-- ---- the next number

pub next_says : (old : parts.Contents) (result : Option ℕ) (after : ℕ)
    → IfSome result (IsNextAfter old.documents after) → IfSome result (IsNextAfter (risen old).documents after)
next_says old None after next = tt
next_says old (Some number) after next = record {
  above = next.above;
  held = held_alike old number ∙ next.held;
  least = λ b low high. risen_shown old.documents b ∙ ap (option_map (shown_by b)) (next.least b low high);
}

pub none_says : (old : parts.Contents) (result : Option ℕ) (after : ℕ)
    → IfNone result ((number : ℕ) → after < number → finite.get old.documents number ≡ None)
    → IfNone result ((number : ℕ) → after < number → finite.get (risen old).documents number ≡ None)
none_says old None after none = λ number above.
    risen_shown old.documents number ∙ ap (option_map (shown_by number)) (none number above)
none_says old (Some found) after none = tt

-- ---- texts that were read

module _ (old : parts.Contents) (number : ℕ) where
  pub fetched_says : (payload : List ℕ) → Some payload ≡ finite.get old.documents number → (frames : Frames) (slot len : ℕ)
      → IsRead (drop 1 payload) frames slot len → IsFetched (finite.get (risen old).documents number) frames slot (Some len)
  fetched_says payload held frames slot len read =
      subst (λ document. IsFetched document frames slot (Some len)) (shown_there old number (Some payload) held) read

  pub none_fetched : None ≡ finite.get old.documents number → (frames : Frames) (slot : ℕ)
      → IsFetched (finite.get (risen old).documents number) frames slot None
  none_fetched none frames slot =
      subst (λ document. IsFetched document frames slot None) (shown_there old number None none) tt

  pub ahead_says : (payload text : List ℕ) → Some payload ≡ finite.get old.documents number → text ≡ drop 1 payload
      → IsAhead (finite.get (risen old).documents number) true text
  ahead_says payload text held is =
      subst (λ document. IsAhead document true text) (shown_there old number (Some payload) held) (refl, is)

  pub none_ahead : (text : List ℕ) → None ≡ finite.get old.documents number
      → IsAhead (finite.get (risen old).documents number) false text
  none_ahead text none =
      subst (λ document. IsAhead document false text) (shown_there old number None none) refl

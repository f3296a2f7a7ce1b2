-- A term page has one list of pairs, and it rises.
use Rattle.std.proofs.Common.{◌≡◌, ℕ, List, [], ◌∷◌, ◌++◌, refl, sym, ap, ◌∙◌, subst, Option, Some, None, Bool}
use Rattle.ax_pair.specs.declared.pair.Pair.{Pair}
use Rattle.ax_pair.specs.Order.{Rise}
use Rattle.ax_leaf.specs.Pairs.{pairs_of, postings_of}
use Rattle.ax_leaf.specs.Payload.{IsLeaf}
use Rattle.ax_leaf.proofs.FromLow.{pairs_rise}
use Rattle.ax_leaf.proofs.OneSpelling.{one_leaf}
use Rattle.ax_leaf.proofs.SamePairs.{same_pairs}
use Rattle.ax_delta.specs.declared.change.Change.{Change}
use Rattle.ax_delta.specs.Changes.{TermChange, changed_pairs, term_changes_of}
use Rattle.ax_delta.specs.Merge.{IsMerge, AreMerged}
use Rattle.ax_delta.specs.Pass.{merged}
use Rattle.ax_delta.specs.Payload.{IsDelta}
use Rattle.ax_delta.specs.Said.{has}
use Rattle.ax_delta.proofs.OneList.{one_delta, one_list, all_rise}
use Rattle.ax_delta.proofs.Passing.{merged_rises, merged_has}
use Rattle.ax_delta.proofs.SameChanges.{said_alike}
use Rattle.std.specs.Option.{unwrap_or}
use Rattle.ax_pages.specs.Contents.{TermPage}
use Rattle.ax_pages.specs.AfterPart.{with_base, with_delta}
use Rattle.ax_pairs.specs.PagePairs.{AreOfBase, AreDeltas, HasPairs}

-- ---- they rise

base_rises : (base : Option (List ℕ)) (pairs : List Pair) → AreOfBase base pairs → Rise pairs
base_rises None pairs none = subst Rise (sym none) tt
base_rises (Some payload) pairs is = subst Rise (sym is.have) (pairs_rise is.postings is.is.are)

pub list_rises : (page : TermPage) (pairs : List Pair) → HasPairs page pairs → Rise pairs
list_rises page pairs has = all_rise has.base pairs has.deltas (base_rises page.base has.base has.of_base) has.merged

-- ---- there is one

one_base : (base : Option (List ℕ)) (a b : List Pair) → AreOfBase base a → AreOfBase base b → a ≡ b
one_base None a b h k = h ∙ sym k
one_base (Some payload) a b h k =
    h.have ∙ ap pairs_of (one_leaf payload h.low k.low h.postings k.postings h.is k.is).1 ∙ sym k.have

same_deltas : (payloads : List (List ℕ)) (a b : List (List TermChange)) → AreDeltas payloads a → AreDeltas payloads b → a ≡ b
same_deltas [] [] [] h k = refl
same_deltas [] [] (y ∷ b) h k = absurd k
same_deltas [] (x ∷ a) b h k = absurd h
same_deltas (payload ∷ payloads) [] b h k = absurd h
same_deltas (payload ∷ payloads) (x ∷ a) [] h k = absurd k
same_deltas (payload ∷ payloads) (x ∷ a) (y ∷ b) h k =
    ap (λ (c : List TermChange). c ∷ a) (one_delta payload x y h.0 k.0)
    ∙ ap (λ (cs : List (List TermChange)). y ∷ cs) (same_deltas payloads a b h.1 k.1)

one_merge : (before a b : List Pair) (changes : List TermChange) → IsMerge before changes a → IsMerge before changes b → a ≡ b
one_merge before a b changes h k = one_list a b h.rises k.rises (λ p. h.holds p ∙ sym (k.holds p))

all_merged : (base a b : List Pair) (deltas : List (List TermChange)) → AreMerged base deltas a → AreMerged base deltas b → a ≡ b
all_merged base a b [] h k = sym h ∙ k
all_merged base a b (changes ∷ newer) (x, first, h) (y, second, k) =
    all_merged y a b newer (subst (λ (between : List Pair). AreMerged between newer a) (one_merge base x y changes first second) h) k

pub one_page_list : (page : TermPage) (a b : List Pair) → HasPairs page a → HasPairs page b → a ≡ b
one_page_list page a b h k =
    all_merged k.base a b k.deltas
    (subst (λ (deltas : List (List TermChange)). AreMerged k.base deltas a)
    (same_deltas page.deltas h.deltas k.deltas h.are_deltas k.are_deltas)
    (subst (λ (base : List Pair). AreMerged base h.deltas a) (one_base page.base h.base k.base h.of_base k.of_base) h.merged))
    k.merged

-- ---- a base alone

pub of_payload : (payload : List ℕ) (low : Pair) (pairs : List Pair) → IsLeaf payload low (postings_of pairs) → HasPairs (with_base payload) pairs
of_payload payload low pairs is = record {
  base = pairs;
  of_base = record { low = low; postings = postings_of pairs; is = is; have = sym (same_pairs pairs) };
  deltas = [];
  are_deltas = tt;
  merged = refl;
}

-- ---- one delta more

more_deltas : (payloads : List (List ℕ)) (deltas : List (List TermChange)) (payload : List ℕ) (changes : List TermChange) → AreDeltas payloads deltas
    → IsDelta payload changes
    → AreDeltas (payloads ++ payload ∷ []) (deltas ++ changes ∷ [])
more_deltas [] [] payload changes h is = (is, tt)
more_deltas [] (x ∷ deltas) payload changes h is = absurd h
more_deltas (y ∷ payloads) [] payload changes h is = absurd h
more_deltas (y ∷ payloads) (x ∷ deltas) payload changes h is = (h.0, more_deltas payloads deltas payload changes h.1 is)

more_merged : (base pairs after : List Pair) (deltas : List (List TermChange)) (changes : List TermChange) → AreMerged base deltas pairs
    → IsMerge pairs changes after
    → AreMerged base (deltas ++ changes ∷ []) after
more_merged base pairs after [] changes h is = (after, subst (λ (before : List Pair). IsMerge before changes after) (sym h) is, refl)
more_merged base pairs after (first ∷ newer) changes (between, one, h) is = (between, one, more_merged between pairs after newer changes h is)

pub with_one_more : (page : TermPage) (pairs after : List Pair) (payload : List ℕ) (changes : List TermChange) → HasPairs page pairs → IsDelta payload changes
    → IsMerge pairs changes after → HasPairs (with_delta payload page) after
with_one_more page pairs after payload changes has is merge = record {
  base = has.base;
  of_base = has.of_base;
  deltas = has.deltas ++ changes ∷ [];
  are_deltas = more_deltas page.deltas has.deltas payload changes has.are_deltas is;
  merged = more_merged has.base pairs after has.deltas changes has.merged merge;
}

-- what the changes make of the pairs
pub is_merged : (pairs : List Pair) (changes : List Change) → Rise pairs → Rise (changed_pairs changes)
    → IsMerge pairs (term_changes_of changes) (merged pairs changes)
is_merged pairs changes rise up = record {
  rises = merged_rises pairs changes None rise up;
  holds = λ p. merged_has p pairs changes rise up ∙ ap (λ (said : Option Bool). unwrap_or said (has p pairs)) (sym (said_alike changes p up));
}

-- What rising changes make of a set; sets that have the same pairs.
use Rattle.std.proofs.Common.{◌≡◌, ℕ, zero, suc, List, [], ◌∷◌, ◌++◌, refl, sym, ap, ◌∙◌, Bool, true, false, cond, arith, Option, Some, None, ⊎_elim}
use Rattle.std.specs.Option.{unwrap_or}
use Rattle.ax_pair.specs.declared.pair.Pair.{Pair}
use Rattle.ax_pair.specs.Order.{Rise}
use Rattle.ax_delta.specs.declared.change.Change.{Change}
use Rattle.ax_delta.specs.Changes.{changed_pairs}
use Rattle.ax_delta.specs.Said.{is_same, has, said_by}
use Rattle.ax_delta.proofs.SamePair.{true_or_false, same_from, rises_alone, none_said}
use Rattle.ax_pages.specs.Contents.{TermPage, no_term_page, term_page}
use Rattle.ax_pages.specs.TermPages.{AreApart, IsPageOf}
use Rattle.ax_pairs.specs.Index.{IsIndex}
use Rattle.ax_pairs.specs.PagePairs.{HasPairs}
use Rattle.ax_pairs.specs.PairSets.{PairSet, with_change, with_changes}
use Rattle.ax_pairs.proofs.Belonging.{somewhere}
use Rattle.ax_pairs.proofs.PageLists.{one_page_list}

-- ---- sets

pub changed_alike : (changes : List Change) (a b : PairSet) → ((p : Pair) → a p ≡ b p) → (p : Pair) → with_changes changes a p ≡ with_changes changes b p
changed_alike [] a b same p = same p
changed_alike (change ∷ changes) a b same p =
    changed_alike changes (with_change change a) (with_change change b) (λ q. ap (λ (x : Bool). cond (is_same change.pair q) change.add x) (same q)) p

pub changed_twice : (first second : List Change) (set : PairSet) (p : Pair)
    → with_changes (first ++ second) set p ≡ with_changes second (with_changes first set) p
changed_twice [] second set p = refl
changed_twice (change ∷ first) second set p = changed_twice first second (with_change change set) p

said_or : (change : Change) (changes : List Change) (set : PairSet) (p : Pair) → Rise (changed_pairs (change ∷ changes))
    → unwrap_or (said_by p changes) (with_change change set p) ≡ unwrap_or (said_by p (change ∷ changes)) (set p)
said_or change changes set p up =
    ⊎_elim
    (λ (same : is_same change.pair p ≡ true).
    let none : said_by p changes ≡ None =
    ap (λ (q : Pair). said_by q changes) (sym (same_from change.pair p same)) ∙ none_said change.pair changes up
    in
    ap (λ (said : Option Bool). unwrap_or said (with_change change set p)) none
    ∙ ap (λ (b : Bool). cond b change.add (set p)) same
    ∙ sym (ap (λ (b : Bool). unwrap_or (cond b (Some change.add) (said_by p changes)) (set p)) same))
    (λ (other : is_same change.pair p ≡ false).
    ap (λ (b : Bool). unwrap_or (said_by p changes) (cond b change.add (set p))) other
    ∙ sym (ap (λ (b : Bool). unwrap_or (cond b (Some change.add) (said_by p changes)) (set p)) other))
    (true_or_false (is_same change.pair p))

pub changes_say : (changes : List Change) (set : PairSet) (p : Pair) → Rise (changed_pairs changes)
    → with_changes changes set p ≡ unwrap_or (said_by p changes) (set p)
changes_say [] set p up = refl
changes_say (change ∷ changes) set p up =
    changes_say changes (with_change change set) p (rises_alone change.pair (changed_pairs changes) up) ∙ said_or change changes set p up

-- ---- the set of pages

pub same_set : (pages : List TermPage) (a b : PairSet) → ((p : Pair) → a p ≡ b p) → IsIndex pages a → IsIndex pages b
same_set pages a b same is = record {
  apart = is.apart;
  pairs = is.pairs;
  have = is.have;
  belong = is.belong;
  all = λ number p of. is.all number p of ∙ same p;
}

pub one_set : (pages : List TermPage) (a b : PairSet) → IsIndex pages a → IsIndex pages b → (p : Pair) → a p ≡ b p
one_set pages a b first second p = at_page (somewhere pages p first.apart)
  where
    at_page : (number : ℕ) × IsPageOf p number pages → a p ≡ b p
    at_page (number, of) =
        sym (first.all number p of)
        ∙ ap (has p) (one_page_list _ (first.pairs number) (second.pairs number) (first.have number of.there) (second.have number of.there))
        ∙ second.all number p of

first_has : (number : ℕ) → HasPairs (term_page number (no_term_page ∷ [])) []
first_has zero = record { base = []; of_base = refl; deltas = []; are_deltas = tt; merged = refl }
first_has (suc number) = record { base = []; of_base = refl; deltas = []; are_deltas = tt; merged = refl }

alone : AreApart (no_term_page ∷ [])
alone = record { some = omega arith; first = refl; apart = λ m n h k e. omega arith }

pub nothing_held : IsIndex (no_term_page ∷ []) (λ p. false)
nothing_held = record {
  apart = alone;
  pairs = λ number. [];
  have = λ number there. first_has number;
  belong = λ number there p h. absurd (cc);
  all = λ number p of. refl;
}

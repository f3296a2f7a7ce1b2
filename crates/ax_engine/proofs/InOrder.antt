-- The documents in the order of their numbers: those that are still to come behind a number.
use Rattle.std.proofs.Common.{◌≡◌, ℕ, ◌+◌, ◌<◌, ◌≤◌, true, false, List, [], ◌∷◌, ◌++◌, map, length}
use Rattle.std.proofs.Common.{Option, Some, None, is_some, refl, sym, ap, subst, ◌∙◌}
use Rattle.std.proofs.Common.{inl, inr, arith}
use Rattle.std.proofs.Common.{append_assoc}
use Rattle.std.specs.Prelude.{◌≢◌, nat_lt, if◌then◌else◌}
use Rattle.std.specs.List.{AllByRecursion}
use Rattle.std.specs.Ordering.{nat_cmp, eq_by_cmp}
use Rattle.std.specs.FinMap as finite
use Rattle.std.proofs.lemmas.Bool.{cases_lt, lt-ltb, le-ltb}
use Rattle.ax_tree.specs.CanonicalText.{canonical_text}
use Rattle.ax_container.specs.Container.{Entry, Container, IsStored, NumbersRise}
use Rattle.ax_area.specs.Contents.{Contents, Stored}
use Rattle.ax_pages.proofs.LastPart.{same_number, other_number}
use Rattle.ax_image.specs.Documents.{ContentsHold}
use Rattle.ax_image.specs.StandsFor.{ShowEntries}
use Rattle.ax_tree.specs.declared.tree.Tree.{Tree}
use Rattle.ax_store.specs.Kept.{Kept}
use Rattle.ax_store.specs.Store.{SameButReads, store_contents}
use Rattle.ax_store.specs.declared.store.Store.{Store}
use Rattle.ax_store.specs.Listed.{IsNextAfter}
use Rattle.ax_engine.specs.StoreSays.{kept_says, text_of}

-- the entries from the first on whose number is above
abbrev pub above : ℕ → List Entry → List Entry
above n [] = []
above n (e ∷ es) = if nat_lt n e.number then e ∷ es else above n es

stops : (n : ℕ) (e : Entry) (es : List Entry) → n < e.number → above n (e ∷ es) ≡ e ∷ es
stops n e es lt = ap (λ b. if b then e ∷ es else above n es) (lt-ltb n e.number lt)

skips : (n : ℕ) (e : Entry) (es : List Entry) → e.number ≤ n → above n (e ∷ es) ≡ above n es
skips n e es le = ap (λ b. if b then e ∷ es else above n es) (le-ltb n e.number le)

all_above : (n before next : ℕ) (es : List Entry) → n ≤ before → NumbersRise before es next
    → above n es ≡ es
all_above n before next [] le rise = refl
all_above n before next (e ∷ es) le rise = stops n e es (omega (arith, rise.0))

-- ---- pages

pub found_here : (k : ℕ) (p : ℕ × Stored) (ps : List (ℕ × Stored)) → k ≡ p.0
    → finite.find nat_cmp k (p ∷ ps) ≡ Some p.1
found_here k p ps e = ap (λ b. if b then Some p.1 else finite.find nat_cmp k ps)
    (ap (eq_by_cmp nat_cmp k) (sym e) ∙ same_number k)

pub found_later : (k : ℕ) (p : ℕ × Stored) (ps : List (ℕ × Stored)) → k ≢ p.0
    → finite.find nat_cmp k (p ∷ ps) ≡ finite.find nat_cmp k ps
found_later k p ps apart = ap (λ b. if b then Some p.1 else finite.find nat_cmp k ps)
    (other_number k p.0 apart)

none_below : (k before next : ℕ) (pages : List (ℕ × Stored)) (entries : List Entry) → k ≤ before
    → NumbersRise before entries next → ShowEntries pages entries → finite.find nat_cmp k pages ≡ None
none_below k before next [] [] le rise shown = refl
none_below k before next [] (e ∷ es) le rise shown = absurd shown
none_below k before next (p ∷ ps) [] le rise shown = absurd shown
none_below k before next (p ∷ ps) (e ∷ es) le rise shown =
    let apart : k ≢ p.0 = omega (arith, rise.0, shown.0.number_is) in
    found_later k p ps apart
    ∙ none_below k e.number next ps es (omega (arith, rise.0)) rise.1 shown.1

not_none : (o : Option Stored) → is_some o ≡ true → o ≡ None → ⊥
not_none None is e = absurd cc
not_none (Some x) is e = cc

-- the next number, its entry, what comes behind it, and its page
pub record Next (n k : ℕ) (pages : List (ℕ × Stored)) (entries : List Entry) : Type 0 where
  pub entry : Entry
  pub later : List Entry
  pub number_is : k ≡ entry.number
  pub here : above n entries ≡ entry ∷ later
  pub left : above k entries ≡ later
  pub document : Stored
  pub found : finite.find nat_cmp k pages ≡ Some document
  pub text_is : document.text ≡ canonical_text entry.tree

behind : (n k : ℕ) (p : ℕ × Stored) (ps : List (ℕ × Stored)) (e : Entry) (es : List Entry)
    → e.number ≤ n → n < k → p.0 ≡ e.number → Next n k ps es → Next n k (p ∷ ps) (e ∷ es)
behind n k p ps e es le lt same found =
    let apart : k ≢ p.0 = omega arith in
    record {
      entry = found.entry;
      later = found.later;
      number_is = found.number_is;
      here = skips n e es le ∙ found.here;
      left = skips k e es (omega arith) ∙ found.left;
      document = found.document;
      found = found_later k p ps apart ∙ found.found;
      text_is = found.text_is;
    }

module _ (n k next : ℕ) (p : ℕ × Stored) (ps : List (ℕ × Stored)) (e : Entry) (es : List Entry)
    (rise : NumbersRise e.number es next) (shown : ShowEntries (p ∷ ps) (e ∷ es))
    (below : n < e.number) (lt : n < k) (held : is_some (finite.find nat_cmp k (p ∷ ps)) ≡ true)
    (least : (b : ℕ) → n < b → b < k → finite.find nat_cmp b (p ∷ ps) ≡ None) where
  not_above : k ≤ e.number
  not_above = elim (cases_lt e.number k) as (λ _. k ≤ e.number) [
    | inl less ↦ absurd (not_none (finite.find nat_cmp e.number (p ∷ ps))
        (ap is_some (found_here e.number p ps (sym shown.0.number_is))) (least e.number below less))
    | inr le ↦ le
  ]

  not_below : e.number ≤ k
  not_below = elim (cases_lt k e.number) as (λ _. e.number ≤ k) [
    | inl less ↦ absurd (not_none (finite.find nat_cmp k (p ∷ ps)) held
        (none_below k k next (p ∷ ps) (e ∷ es) (omega arith) (less, rise) shown))
    | inr le ↦ le
  ]

  first : Next n k (p ∷ ps) (e ∷ es)
  first =
      let a : k ≤ e.number = not_above in
      let b : e.number ≤ k = not_below in
      record {
        entry = e;
        later = es;
        number_is = omega arith;
        here = stops n e es below;
        left = skips k e es b ∙ all_above k e.number next es a rise;
        document = p.1;
        found = found_here k p ps (omega (arith, shown.0.number_is));
        text_is = shown.0.text_is;
      }

next_of : (n k before next : ℕ) (pages : List (ℕ × Stored)) (entries : List Entry)
    → NumbersRise before entries next → ShowEntries pages entries → n < k
    → is_some (finite.find nat_cmp k pages) ≡ true
    → ((b : ℕ) → n < b → b < k → finite.find nat_cmp b pages ≡ None) → Next n k pages entries
next_of n k before next [] [] rise shown lt held least = absurd cc
next_of n k before next [] (e ∷ es) rise shown lt held least = absurd shown
next_of n k before next (p ∷ ps) [] rise shown lt held least = absurd shown
next_of n k before next (p ∷ ps) (e ∷ es) rise shown lt held least =
    elim (cases_lt n e.number) as (λ _. Next n k (p ∷ ps) (e ∷ es)) [
      | inl below ↦ first n k next p ps e es rise.1 shown below lt held least
      | inr le ↦
          let apart : k ≢ p.0 = omega (arith, shown.0.number_is) in
          behind n k p ps e es le lt shown.0.number_is
          (next_of n k e.number next ps es rise.1 shown.1 lt
          (ap is_some (sym (found_later k p ps apart)) ∙ held)
          (λ b low high.
          let other : b ≢ p.0 = omega (arith, shown.0.number_is) in
          sym (found_later b p ps other) ∙ least b low high))
    ]

none_above : (n : ℕ) (pages : List (ℕ × Stored)) (entries : List Entry) → ShowEntries pages entries
    → ((b : ℕ) → n < b → finite.find nat_cmp b pages ≡ None) → above n entries ≡ []
none_above n [] [] shown none = refl
none_above n [] (e ∷ es) shown none = absurd shown
none_above n (p ∷ ps) [] shown none = absurd shown
none_above n (p ∷ ps) (e ∷ es) shown none =
    elim (cases_lt n e.number) as (λ _. above n (e ∷ es) ≡ []) [
      | inl below ↦ absurd (not_none (finite.find nat_cmp e.number (p ∷ ps))
          (ap is_some (found_here e.number p ps (sym shown.0.number_is))) (none e.number below))
      | inr le ↦ skips n e es le ∙ none_above n ps es shown.1
          (λ b low.
          let other : b ≢ p.0 = omega (arith, shown.0.number_is) in
          sym (found_later b p ps other) ∙ none b low)
    ]

-- ---- what was taken in

-- the entries that are still to come, each its number and its tree
abbrev pub pairs : List Entry → List (ℕ × Tree)
pairs = map (λ (entry : Entry). (entry.number, entry.tree))

-- ---- documents that are stored

stored_above : (n : ℕ) (es : List Entry) → AllByRecursion IsStored es
    → AllByRecursion IsStored (above n es)
stored_above n [] stored = tt
stored_above n (e ∷ es) stored =
    elim (nat_lt n e.number) as (λ b. AllByRecursion IsStored (if b then e ∷ es else above n es)) [
      | true ↦ stored
      | false ↦ stored_above n es stored.1
    ]

-- ---- of what holds a container

module _ (contents : Contents) (container : Container)
    (hold : ContentsHold contents container) where
  abbrev pages : List (ℕ × Stored)
  pages = finite.entries contents.documents

  pub next_entry : (n k : ℕ) → IsNextAfter contents.documents n k → Next n k pages container.entries
  next_entry n k next = next_of n k 0 container.next_number pages container.entries
      hold.show.sound.numbers hold.show.shown next.above
      (ap is_some (sym (finite.get-entries contents.documents k)) ∙ next.held)
      (λ b low high. sym (finite.get-entries contents.documents b) ∙ next.least b low high)

  pub at_the_end : (n : ℕ) → ((b : ℕ) → n < b → finite.get contents.documents b ≡ None)
      → above n container.entries ≡ []
  at_the_end n none = none_above n pages container.entries hold.show.shown
      (λ b low. sym (finite.get-entries contents.documents b) ∙ none b low)

  pub at_the_start : above 0 container.entries ≡ container.entries
  at_the_start = all_above 0 0 container.next_number container.entries (omega arith)
      hold.show.sound.numbers

  -- the text that the next document's page has
  pub text_here : (n k : ℕ) (next : Next n k pages container.entries)
      → text_of (finite.get contents.documents k) ≡ Some (canonical_text next.entry.tree)
  text_here n k next =
      ap text_of (finite.get-entries contents.documents k ∙ next.found) ∙ ap Some next.text_is

  -- the next document is one that is stored
  pub stored_here : (n k : ℕ) (next : Next n k pages container.entries) → IsStored next.entry
  stored_here n k next = (subst (AllByRecursion IsStored) next.here
      (stored_above n container.entries hold.show.sound.stored)).0

  -- one document more was taken in
  pub taken_on : (n k : ℕ) (done : List (ℕ × Tree)) (next : Next n k pages container.entries)
      → done ++ pairs (above n container.entries) ≡ pairs container.entries
      → (done ++ (k, next.entry.tree) ∷ []) ++ pairs (above k container.entries)
      ≡ pairs container.entries
  taken_on n k done next known =
      append_assoc done ((k, next.entry.tree) ∷ []) (pairs (above k container.entries))
      ∙ (λ i. done ++ (next.number_is i, next.entry.tree) ∷ pairs (next.left i))
      ∙ ap (λ es. done ++ pairs es) (sym next.here)
      ∙ known

  -- one document less is to come
  pub one_less : (n k : ℕ) (next : Next n k pages container.entries)
      → length (above n container.entries) ≡ length (above k container.entries) + 1
  one_less n k next = omega (arith, ap length next.here, ap length next.left)

-- ---- over calls that read

pub next_same : {C : Type 0} (old new : Store C) (n k : ℕ) → SameButReads old new
    → IsNextAfter (store_contents new).documents n k → IsNextAfter (store_contents old).documents n k
next_same old new n k same next = subst (λ (kept : Kept). IsNextAfter (kept_says kept).documents n k) same.pages next

pub none_same : {C : Type 0} (old new : Store C) (n : ℕ) → SameButReads old new
    → ((b : ℕ) → n < b → finite.get (store_contents new).documents b ≡ None)
    → (b : ℕ) → n < b → finite.get (store_contents old).documents b ≡ None
none_same old new n same none =
    subst (λ (kept : Kept). (b : ℕ) → n < b → finite.get (kept_says kept).documents b ≡ None) same.pages none

pub text_same : {C : Type 0} (old new : Store C) (k : ℕ) (text : List ℕ) → SameButReads old new
    → text_of (finite.get (store_contents old).documents k) ≡ Some text
    → text_of (finite.get (store_contents new).documents k) ≡ Some text
text_same old new k text same is =
    subst (λ (kept : Kept). text_of (finite.get (kept_says kept).documents k) ≡ Some text)
    (sym same.pages) is

-- Bases of term pages: which are within the format, and that one keeps the low pair of its page.
use Rattle.std.proofs.Common.{◌≡◌, ℕ, suc, ◌<◌, ◌≤◌, List, [], ◌∷◌, ◌++◌, length, set, Bool, true, false, ◌&&◌, ◌||◌, not, ◌==◌, refl, sym, ap, ◌∙◌}
use Rattle.std.proofs.Common.{arith, ◌⊎◌, inl, inr, is_some, Ordering, Less, Equal, Greater, nat_lt}
use Rattle.std.specs.List.{insert}
use Rattle.std.specs.Str.{bytes_eq}
use Rattle.std.proofs.lemmas.Bool.{cases_eq, eqb-true, eq-eqb, ltb-true}
use Rattle.std.proofs.lemmas.List.{get_or-set_same, get_or-set_other, length-set}
use Rattle.std.proofs.lemmas.List.Folds.{list_any_at}
use Rattle.std.proofs.lemmas.Slice.Eq.{bytes_eq-Decides}
use Rattle.ax_pair.specs.declared.pair.Pair.{Pair}
use Rattle.ax_pair.specs.Low.{low_in}
use Rattle.ax_pair.specs.Order.{pair_cmp}
use Rattle.ax_pages.specs.AfterPart.{is_same, is_taken, is_own, is_new, is_base, low_at_front, with_base, with_delta, most_term_pages}
use Rattle.ax_pages.specs.Contents.{TermPage, no_term_page, low_of, term_page}
use Rattle.ax_pages.specs.TermPages.{IsPageOf, low_pair}
use Rattle.ax_store.specs.TermRows.{IsOrderOf, IsCountUpTo}
use Rattle.ax_store.proofs.TermOrder.{of_parts, same_pair, itself, flipped, equal_not_greater, order_kept, order_inserted}

both_true : (a b : Bool) → (a && b) ≡ true → (a ≡ true) × (b ≡ true)
both_true true b e = (refl, e)
both_true false b e = absurd (cc)

pub same_is : (p q : Pair) → is_same p q ≡ true → p ≡ q
same_is p q e =
    let both : (bytes_eq p.term q.term ≡ true) × ((p.number == q.number) ≡ true) = both_true (bytes_eq p.term q.term) (p.number == q.number) e in
    of_parts p q ((bytes_eq-Decides p.term q.term).0 both.0) (eqb-true p.number q.number both.1)

pub is_same_itself : (p q : Pair) → p ≡ q → is_same p q ≡ true
is_same_itself p q e =
    ap (is_same p) (sym e) ∙ ap (λ (b : Bool). b && (p.number == p.number)) ((bytes_eq-Decides p.term p.term).1 refl) ∙ eq-eqb p.number p.number refl

-- ---- a low pair that a page has

not_taken : (low : Pair) (pages : List TermPage) → is_taken low pages ≡ false → (number : ℕ) → number < length pages → low_pair number pages ≡ low → ⊥
not_taken low pages none number h e =
    let taken : is_taken low pages ≡ true =
    list_any_at (λ (page : TermPage). is_same low (low_of page)) pages number no_term_page h (is_same_itself low (low_pair number pages) (sym e))
    in cc

-- a page that has it
abbrev HasLow : Pair → List TermPage → Type 0
HasLow low pages = (number : ℕ) × (number < length pages) × (low_pair number pages ≡ low)

taken_at : (low : Pair) (pages : List TermPage) → is_taken low pages ≡ true → HasLow low pages
taken_at low [] e = absurd (cc)
taken_at low (page ∷ pages) e = by_first (is_same low (low_of page)) (λ h. taken_at low pages h) refl e
  where
    by_first : (b : Bool) → (is_taken low pages ≡ true → HasLow low pages) → is_same low (low_of page) ≡ b → (b || is_taken low pages) ≡ true
        → HasLow low (page ∷ pages)
    by_first true later is e = (0, omega arith, sym (same_is low (low_of page) is))
    by_first false later is e = let at : HasLow low pages = later e in (suc at.0, omega (arith, at.1), at.2)

-- a pair that is the low pair of a page is that of the page to which it belongs
pub taken_where : (pair : Pair) (number : ℕ) (pages : List TermPage) → IsPageOf pair number pages → is_same pair (low_pair number pages) ≡ is_taken pair pages
taken_where pair number pages is = by_taken (is_taken pair pages) refl
  where
    by_taken : (b : Bool) → is_taken pair pages ≡ b → is_same pair (low_pair number pages) ≡ is_taken pair pages
    by_taken false none = by_same (is_same pair (low_pair number pages)) refl
      where
        by_same : (b : Bool) → is_same pair (low_pair number pages) ≡ b → is_same pair (low_pair number pages) ≡ is_taken pair pages
        by_same true same = absurd (not_taken pair pages none number is.there (sym (same_is pair (low_pair number pages) same)))
        by_same false other = other ∙ sym none
    by_taken true taken = let at = taken_at pair pages taken in is_same_itself pair (low_pair number pages) (sym (the_low at.0 at.1 at.2)) ∙ sym taken
      where
        the_low : (other : ℕ) → other < length pages → low_pair other pages ≡ pair → low_pair number pages ≡ pair
        the_low other h e = same_pair (low_pair number pages) pair (between (pair_cmp (low_pair number pages) pair) refl)
          where
            between : (o : Ordering) → pair_cmp (low_pair number pages) pair ≡ o → pair_cmp (low_pair number pages) pair ≡ Equal
            between Less less =
                absurd (is.greatest other h (λ greater. equal_not_greater (pair_cmp (low_pair other pages) pair) (itself (low_pair other pages) pair e) greater)
                (ap (λ (p : Pair). pair_cmp p (low_pair number pages)) e ∙ flipped (low_pair number pages) pair less))
            between Equal equal = equal
            between Greater greater = absurd (is.below greater)

-- ---- bases

either_true : (a b : Bool) → (a || b) ≡ true → (a ≡ true) ⊎ (b ≡ true)
either_true true b e = inl refl
either_true false b e = inr e

not_true : (b : Bool) → not b ≡ true → b ≡ false
not_true true e = absurd (cc)
not_true false e = refl

-- a base of a page that is there has the page's low pair
own_low : (key : ℕ) (payload : List ℕ) (pages : List TermPage) → key < length pages → is_base key payload pages ≡ true
    → low_at_front payload ≡ low_pair key pages
own_low key payload pages h e =
    by_kind (either_true (is_own key low pages) (is_new key low pages)
    (both_true (is_some (low_in payload)) (is_own key low pages || is_new key low pages) e).1)
  where
    low : Pair
    low = low_at_front payload

    by_kind : (is_own key low pages ≡ true) ⊎ (is_new key low pages ≡ true) → low_at_front payload ≡ low_pair key pages
    by_kind (inl own) = same_is low (low_pair key pages) (both_true (nat_lt key (length pages)) (is_same low (low_pair key pages)) own).1
    by_kind (inr new) =
        let last : key ≡ length pages = eqb-true key (length pages)
        (both_true (key == length pages) (nat_lt key most_term_pages)
        (both_true ((key == length pages) && nat_lt key most_term_pages) (not (is_taken low pages)) new).0).0
        in absurd (omega (arith, last, h))

-- the first base of a page has a low pair that no page has
pub record IsFirstBase (payload : List ℕ) (pages : List TermPage) : Type 0 where
  pub some : is_some (low_in payload) ≡ true
  pub few : length pages < most_term_pages
  pub other : is_taken (low_at_front payload) pages ≡ false

pub first_base : (key : ℕ) (payload : List ℕ) (pages : List TermPage) → length pages ≤ key → is_base key payload pages ≡ true
    → (key ≡ length pages) × IsFirstBase payload pages
first_base key payload pages h e = by_kind (either_true (is_own key low pages) (is_new key low pages) parts.1)
  where
    low : Pair
    low = low_at_front payload

    parts : (is_some (low_in payload) ≡ true) × ((is_own key low pages || is_new key low pages) ≡ true)
    parts = both_true (is_some (low_in payload)) (is_own key low pages || is_new key low pages) e

    by_kind : (is_own key low pages ≡ true) ⊎ (is_new key low pages ≡ true) → (key ≡ length pages) × IsFirstBase payload pages
    by_kind (inl own) =
        let there : key < length pages = ltb-true key (length pages) (both_true (nat_lt key (length pages)) (is_same low (low_pair key pages)) own).0 in
        absurd (omega (arith, there, h))
    by_kind (inr new) =
        let front : (((key == length pages) && nat_lt key most_term_pages) ≡ true) × (not (is_taken low pages) ≡ true) =
        both_true ((key == length pages) && nat_lt key most_term_pages) (not (is_taken low pages)) new
        in
        let numbers : ((key == length pages) ≡ true) × (nat_lt key most_term_pages ≡ true) =
        both_true (key == length pages) (nat_lt key most_term_pages) front.0 in
        let same : key ≡ length pages = eqb-true key (length pages) numbers.0 in
        let few : key < most_term_pages = ltb-true key most_term_pages numbers.1 in
        (same, record { some = parts.0; few = omega (arith, same, few); other = not_true (is_taken low pages) front.1 })

-- ---- the order behind a part

base_keeps : (key : ℕ) (payload : List ℕ) (pages : List TermPage) → key < length pages → is_base key payload pages ≡ true
    → (number : ℕ) → (number ≡ key) ⊎ (number ≡ key → ⊥) → low_pair number (set pages key (with_base payload)) ≡ low_pair number pages
base_keeps key payload pages h e number (inl same) =
    ap (λ (n : ℕ). low_pair n (set pages key (with_base payload))) same
    ∙ ap low_of (get_or-set_same pages key (with_base payload) no_term_page h) ∙ own_low key payload pages h e
    ∙ ap (λ (n : ℕ). low_pair n pages) (sym same)
base_keeps key payload pages h e number (inr apart) = ap low_of (get_or-set_other pages key number (with_base payload) no_term_page apart)

pub order_with_base : (order : List ℕ) (pages : List TermPage) (key : ℕ) (payload : List ℕ) → IsOrderOf order pages → key < length pages
    → is_base key payload pages ≡ true → IsOrderOf order (set pages key (with_base payload))
order_with_base order pages key payload is h e =
    order_kept order pages (set pages key (with_base payload)) is (length-set pages key (with_base payload))
    (λ number. base_keeps key payload pages h e number (cases_eq number key))

delta_keeps : (key : ℕ) (page : TermPage) (pages : List TermPage) → key < length pages → low_of page ≡ low_pair key pages
    → (number : ℕ) → (number ≡ key) ⊎ (number ≡ key → ⊥) → low_pair number (set pages key page) ≡ low_pair number pages
delta_keeps key page pages h e number (inl same) =
    ap (λ (n : ℕ). low_pair n (set pages key page)) same
    ∙ ap low_of (get_or-set_same pages key page no_term_page h) ∙ e
    ∙ ap (λ (n : ℕ). low_pair n pages) (sym same)
delta_keeps key page pages h e number (inr apart) = ap low_of (get_or-set_other pages key number page no_term_page apart)

pub order_with_delta : (order : List ℕ) (pages : List TermPage) (key : ℕ) (payload : List ℕ) → IsOrderOf order pages → key < length pages
    → IsOrderOf order (set pages key (with_delta payload (term_page key pages)))
order_with_delta order pages key payload is h =
    order_kept order pages (set pages key (with_delta payload (term_page key pages))) is (length-set pages key (with_delta payload (term_page key pages)))
    (λ number. delta_keeps key (with_delta payload (term_page key pages)) pages h refl number (cases_eq number key))

pub order_with_page : (order : List ℕ) (pages : List TermPage) (at : ℕ) (payload : List ℕ) → IsOrderOf order pages
    → IsFirstBase payload pages → IsCountUpTo (low_at_front payload) at order pages
    → IsOrderOf (insert order at (length pages)) (pages ++ with_base payload ∷ [])
order_with_page order pages at payload is first place =
    order_inserted order pages is (with_base payload) at place (λ number h e. not_taken (low_at_front payload) pages first.other number h e) first.few

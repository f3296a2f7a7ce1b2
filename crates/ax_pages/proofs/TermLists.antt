-- Term pages by number: a base takes the place of one or stands behind the last, a delta changes one.
use Rattle.std.proofs.Common.{◌≡◌, ℕ, ◌<◌, ◌≤◌, ◌==◌, nat_lt, true, false, not, ◌&&◌, List, [], ◌∷◌, ◌++◌, length, get_or, slice_set, arith, ap, ◌∙◌}
use Rattle.std.proofs.Common.{sym, ◌⊎◌, inl, inr, ⊎_elim}
use Rattle.std.specs.Prelude.{◌≢◌, is_some, if◌then◌else◌}
use Rattle.std.specs.Str.{bytes_eq}
use Rattle.std.proofs.lemmas.Bool.{and_parts, or_cases, eqb-true, ltb-true, lt-ltb, le-ltb, not-true, cond-true, cond-false, cases_lt, cases_order}
use Rattle.std.proofs.lemmas.List.{get_or-set_same, get_or-set_other, get_or_append_left, get_or_past, length-append}
use Rattle.std.proofs.lemmas.Slice.Eq.{bytes_eq-Decides}
use Rattle.std.proofs.Math.Seq.{get_or-append_seam}
use Rattle.ax_pair.specs.declared.pair.Pair.{Pair}
use Rattle.ax_pair.specs.Low.{low_in}
use Rattle.ax_pair.proofs.PairOrder.{same_pair}
use Rattle.ax_pages.specs.Contents.{TermPage, no_term_page}
use Rattle.ax_pages.specs.AfterPart.{is_same, low_at_front, is_taken, is_own, is_new, is_base, most_term_pages}
use Rattle.ax_pages.specs.TermPages.{low_pair}

-- ---- what the test of a base says

pub are_same : (p q : Pair) → is_same p q ≡ true → p ≡ q
are_same p q e =
    let parts = and_parts (bytes_eq p.term q.term) (p.number == q.number) e in
    same_pair p.term q.term p.number q.number ((bytes_eq-Decides p.term q.term).0 parts.0) (eqb-true p.number q.number parts.1)

-- the base is one of a page that exists
pub record IsOwn (key : ℕ) (payload : List ℕ) (pages : List TermPage) : Type 0 where
  pub there : key < length pages
  pub same : low_at_front payload ≡ low_pair key pages

-- the base is the first one of the next page
pub record IsNext (key : ℕ) (payload : List ℕ) (pages : List TermPage) : Type 0 where
  pub next : key ≡ length pages
  pub apart : is_taken (low_at_front payload) pages ≡ false

own_where : (key : ℕ) (payload : List ℕ) (pages : List TermPage) → is_own key (low_at_front payload) pages ≡ true → IsOwn key payload pages
own_where key payload pages e =
    let parts = and_parts (nat_lt key (length pages)) (is_same (low_at_front payload) (low_pair key pages)) e in
    record { there = ltb-true key (length pages) parts.0; same = are_same (low_at_front payload) (low_pair key pages) parts.1 }

next_where : (key : ℕ) (payload : List ℕ) (pages : List TermPage) → is_new key (low_at_front payload) pages ≡ true → IsNext key payload pages
next_where key payload pages e =
    let parts = and_parts ((key == length pages) && nat_lt key most_term_pages) (not (is_taken (low_at_front payload) pages)) e in
    let first = and_parts (key == length pages) (nat_lt key most_term_pages) parts.0 in
    record { next = eqb-true key (length pages) first.0; apart = not-true (is_taken (low_at_front payload) pages) parts.1 }

pub base_where : (key : ℕ) (payload : List ℕ) (pages : List TermPage) → is_base key payload pages ≡ true → IsOwn key payload pages ⊎ IsNext key payload pages
base_where key payload pages e =
    let parts = and_parts (is_some (low_in payload)) _ e in
    ⊎_elim (λ (own : is_own key (low_at_front payload) pages ≡ true). inl (own_where key payload pages own))
    (λ (next : is_new key (low_at_front payload) pages ≡ true). inr (next_where key payload pages next))
    (or_cases (is_own key (low_at_front payload) pages) (is_new key (low_at_front payload) pages) parts.1)

-- ---- a page put in

-- in the place of a page, or behind the last
abbrev pub put_page : ℕ → TermPage → List TermPage → List TermPage
put_page key page pages = if nat_lt key (length pages) then slice_set pages key page else pages ++ page ∷ []

pub put_within : (key : ℕ) (page : TermPage) (pages : List TermPage) → key < length pages → put_page key page pages ≡ slice_set pages key page
put_within key page pages h = cond-true (nat_lt key (length pages)) (slice_set pages key page) (pages ++ page ∷ []) (lt-ltb key (length pages) h)

pub put_behind : (key : ℕ) (page : TermPage) (pages : List TermPage) → key ≡ length pages → put_page key page pages ≡ pages ++ page ∷ []
put_behind key page pages e = cond-false (nat_lt key (length pages)) (slice_set pages key page) (pages ++ page ∷ []) (le-ltb key (length pages) (omega arith))

abbrev pub page_at : List TermPage → ℕ → TermPage
page_at pages n = get_or pages n no_term_page

pub at_behind : (page : TermPage) (pages : List TermPage) (n : ℕ) → n ≡ length pages → page_at (pages ++ page ∷ []) n ≡ page
at_behind page pages n e = ap (page_at (pages ++ page ∷ [])) e ∙ get_or-append_seam pages page [] no_term_page

pub put_there : (key : ℕ) (page : TermPage) (pages : List TermPage) → (key < length pages) ⊎ (key ≡ length pages) → page_at (put_page key page pages) key ≡ page
put_there key page pages where_it_is =
    ⊎_elim
    (λ (h : key < length pages). ap (λ ps. page_at ps key) (put_within key page pages h) ∙ get_or-set_same pages key page no_term_page h)
    (λ (e : key ≡ length pages). ap (λ ps. page_at ps key) (put_behind key page pages e) ∙ at_behind page pages key e)
    where_it_is

-- another page stays
pub set_other : (key : ℕ) (page : TermPage) (pages : List TermPage) (n : ℕ) → n ≢ key → page_at (slice_set pages key page) n ≡ page_at pages n
set_other key page pages n apart = get_or-set_other pages key n page no_term_page apart

behind_other : (page : TermPage) (pages : List TermPage) (n : ℕ) → n ≢ length pages → page_at (pages ++ page ∷ []) n ≡ page_at pages n
behind_other page pages n apart =
    ⊎_elim
    (λ (h : n < length pages). get_or_append_left pages (page ∷ []) no_term_page n h)
    (λ (h : length pages ≤ n). beyond (past h))
    (cases_lt n (length pages))
  where
    past : length pages ≤ n → length pages < n
    past h = ⊎_elim (λ (e : n ≡ length pages). absurd (apart e))
        (λ (o : (n < length pages) ⊎ (length pages < n)). ⊎_elim (λ (l : n < length pages). omega arith) (λ (l : length pages < n). l) o)
        (cases_order n (length pages))

    beyond : length pages < n → page_at (pages ++ page ∷ []) n ≡ page_at pages n
    beyond l = get_or_past (pages ++ page ∷ []) n no_term_page (omega (arith, length-append pages (page ∷ [])))
        ∙ sym (get_or_past pages n no_term_page (omega arith))

pub put_other : (key : ℕ) (page : TermPage) (pages : List TermPage) (n : ℕ) → (key < length pages) ⊎ (key ≡ length pages) → n ≢ key
    → page_at (put_page key page pages) n ≡ page_at pages n
put_other key page pages n where_it_is apart =
    ⊎_elim
    (λ (h : key < length pages). ap (λ ps. page_at ps n) (put_within key page pages h) ∙ set_other key page pages n apart)
    (λ (e : key ≡ length pages). ap (λ ps. page_at ps n) (put_behind key page pages e) ∙ behind_other page pages n (λ same. apart (same ∙ sym e)))
    where_it_is

-- where a base is put
pub base_place : (key : ℕ) (payload : List ℕ) (pages : List TermPage) → is_base key payload pages ≡ true → (key < length pages) ⊎ (key ≡ length pages)
base_place key payload pages e =
    ⊎_elim (λ (own : IsOwn key payload pages). inl own.there) (λ (next : IsNext key payload pages). inr next.next) (base_where key payload pages e)

-- Term pages, as parts make them, keep their low pairs and are told apart by them.
use Rattle.std.proofs.Common.{◌≡◌, ℕ, ◌+◌, ◌<◌, ◌≤◌, ◌==◌, true, List, [], ◌∷◌, ◌++◌, length, slice_set, arith, refl, ap, subst, ◌∙◌, sym, ◌⊎◌, inl}
use Rattle.std.proofs.Common.{inr, ⊎_elim, Option}
use Rattle.std.specs.Prelude.{Some, None}
use Rattle.std.specs.Str.{bytes_eq}
use Rattle.std.proofs.lemmas.Bool.{and_from, eq-eqb, cases_eq, cases_lt, both_ways, ltb-true}
use Rattle.std.proofs.lemmas.List.{get_or-set_same, get_or_append_left, length-set, length-append}
use Rattle.std.proofs.lemmas.List.Folds.{list_any_at}
use Rattle.std.proofs.lemmas.Slice.Eq.{bytes_eq-Decides}
use Rattle.ax_frame.specs.Part.{PartValue}
use Rattle.ax_pair.specs.declared.pair.Pair.{Pair}
use Rattle.ax_pages.specs.declared.page.Kind.{Kind}
use Rattle.ax_pages.specs.declared.page.Kind.TheVariants as kind
use Rattle.ax_pages.specs.Contents.{Contents, TermPage, no_term_page, no_contents, term_page, low_of}
use Rattle.ax_pages.specs.AfterPart.{kind_of, after_kind, after_parts, is_same, is_taken, is_base, is_delta, with_base, with_delta, low_at_front}
use Rattle.ax_pages.specs.AfterPart.{after_base, after_delta}
use Rattle.ax_pages.specs.TermPages.{low_pair, AreApart, KeepsLow}
use Rattle.ax_pages.proofs.OneContents.{same_some, first_step}
use Rattle.ax_pages.proofs.TermLists.{put_within, put_behind, at_behind, set_other, base_where, IsOwn, IsNext}
use Rattle.ax_pages.proofs.LastPart.{passed, held}

abbrev pub low_at : List TermPage → ℕ → Pair
low_at pages n = low_pair n pages

-- as many pages, each with its low pair
pub record AreSame (old new : List TermPage) : Type 0 where
  pub many : length new ≡ length old
  pub low : (n : ℕ) → low_at new n ≡ low_at old n

-- one page more, with a low pair that none had
pub record AreMore (old new : List TermPage) : Type 0 where
  pub many : length new ≡ length old + 1
  pub low : (n : ℕ) → n < length old → low_at new n ≡ low_at old n
  pub fresh : (n : ℕ) → n < length old → low_at new (length old) ≡ low_at old n → ⊥

abbrev pub GoOn : List TermPage → List TermPage → Type 0
GoOn old new = AreSame old new ⊎ AreMore old new

-- ---- what one part does

pub same_pages : (pages : List TermPage) → GoOn pages pages
same_pages pages = inl (record { many = refl; low = λ n. refl })

set_same : (key : ℕ) (page : TermPage) (pages : List TermPage) → key < length pages → low_of page ≡ low_at pages key → AreSame pages (slice_set pages key page)
set_same key page pages h same = record {
  many = length-set pages key page;
  low = λ n. ⊎_elim
      (λ (e : n ≡ key).
      ap (low_at (slice_set pages key page)) e ∙ ap low_of (get_or-set_same pages key page no_term_page h) ∙ same ∙ ap (low_at pages) (sym e))
      (λ (apart : n ≡ key → ⊥). ap low_of (set_other key page pages n apart))
      (cases_eq n key);
}

same_from : (p q : Pair) → p ≡ q → is_same p q ≡ true
same_from p q e =
    and_from (bytes_eq p.term q.term) (p.number == q.number)
    ((bytes_eq-Decides p.term q.term).1 (ap (λ (pair : Pair). pair.term) e))
    (eq-eqb p.number q.number (ap (λ (pair : Pair). pair.number) e))

behind_more : (key : ℕ) (payload : List ℕ) (pages : List TermPage) → IsNext key payload pages → AreMore pages (pages ++ with_base payload ∷ [])
behind_more key payload pages is = record {
  many = length-append pages (with_base payload ∷ []);
  low = λ n h. ap low_of (get_or_append_left pages (with_base payload ∷ []) no_term_page n h);
  fresh = λ n h e.
      let low : low_at_front payload ≡ low_at pages n =
      ap low_of (sym (at_behind (with_base payload) pages (length pages) refl)) ∙ e
      in
      both_ways (is_taken (low_at_front payload) pages) is.apart
      (list_any_at (λ page. is_same (low_at_front payload) (low_of page)) pages n no_term_page h (same_from (low_at_front payload) (low_at pages n) low));
}

pub base_goes_on : (key : ℕ) (payload : List ℕ) (before : List TermPage) → is_base key payload before ≡ true → GoOn before (after_base key payload before)
base_goes_on key payload before e =
    ⊎_elim
    (λ (own : IsOwn key payload before).
    subst (GoOn before) (sym (put_within key (with_base payload) before own.there))
    (inl (set_same key (with_base payload) before own.there own.same)))
    (λ (next : IsNext key payload before).
    subst (GoOn before) (sym (put_behind key (with_base payload) before next.next))
    (inr (behind_more key payload before next)))
    (base_where key payload before e)

pub delta_goes_on : (key : ℕ) (payload : List ℕ) (before : List TermPage) → is_delta key before ≡ true → GoOn before (after_delta key payload before)
delta_goes_on key payload before e =
    inl (set_same key (with_delta payload (term_page key before)) before (ltb-true key (length before) e) refl)

goes_to : (before x y : Contents) → y ≡ x → GoOn before.terms x.terms → GoOn before.terms y.terms
goes_to before x y are step = subst (λ (contents : Contents). GoOn before.terms contents.terms) (sym are) step

kind_goes_on : (k : Option Kind) (key : ℕ) (payload : List ℕ) (before after : Contents) → after_kind k key payload before ≡ Some after
    → GoOn before.terms after.terms
kind_goes_on (Some kind.Meta) key payload before after lead = goes_to before _ after (passed _ _ after lead) (same_pages before.terms)
kind_goes_on (Some kind.Policy) key payload before after lead = goes_to before _ after (passed _ _ after lead) (same_pages before.terms)
kind_goes_on (Some kind.Document) key payload before after lead = goes_to before _ after (passed _ _ after lead) (same_pages before.terms)
kind_goes_on (Some kind.Gone) key payload before after lead = goes_to before _ after (passed _ _ after lead) (same_pages before.terms)
kind_goes_on (Some kind.Base) key payload before after lead =
    goes_to before _ after (passed _ _ after lead) (base_goes_on key payload before.terms (held _ after lead))
kind_goes_on (Some kind.Delta) key payload before after lead =
    goes_to before _ after (passed _ _ after lead) (delta_goes_on key payload before.terms (held _ after lead))
kind_goes_on None key payload before after lead = absurd cc

-- ---- pages that are told apart

apart_same : (old new : List TermPage) → AreSame old new → AreApart old → AreApart new
apart_same old new is was = record {
  some = omega (arith, is.many, was.some);
  first = is.low 0 ∙ was.first;
  apart = λ m n h k e. was.apart m n (omega (arith, is.many)) (omega (arith, is.many)) (sym (is.low m) ∙ e ∙ is.low n);
}

told : (old new : List TermPage) → AreMore old new → AreApart old → (m n : ℕ) → m < length old + 1 → n < length old + 1 → low_at new m ≡ low_at new n → m ≡ n
told old new is was m n h k e =
    ⊎_elim
    (λ (last : m ≡ length old).
    ⊎_elim
    (λ (too : n ≡ length old). last ∙ sym too)
    (λ (apart : n ≡ length old → ⊥).
    let within : n < length old = below n k apart in
    absurd (is.fresh n within (ap (low_at new) (sym last) ∙ e ∙ is.low n within)))
    (cases_eq n (length old)))
    (λ (apart : m ≡ length old → ⊥).
    let within : m < length old = below m h apart in
    ⊎_elim
    (λ (last : n ≡ length old). absurd (is.fresh m within (ap (low_at new) (sym last) ∙ sym e ∙ is.low m within)))
    (λ (other : n ≡ length old → ⊥).
    let too : n < length old = below n k other in
    was.apart m n within too (sym (is.low m within) ∙ e ∙ is.low n too))
    (cases_eq n (length old)))
    (cases_eq m (length old))
  where
    below : (i : ℕ) → i < length old + 1 → (i ≡ length old → ⊥) → i < length old
    below i l apart = ⊎_elim (λ (b : i < length old). b) (λ (b : length old ≤ i). absurd (apart (omega arith))) (cases_lt i (length old))

apart_more : (old new : List TermPage) → AreMore old new → AreApart old → AreApart new
apart_more old new is was = record {
  some = omega (arith, is.many);
  first = is.low 0 was.some ∙ was.first;
  apart = λ m n h k e. told old new is was m n (omega (arith, is.many)) (omega (arith, is.many)) e;
}

pub apart_after : (old new : List TermPage) → GoOn old new → AreApart old → AreApart new
apart_after old new step was =
    ⊎_elim (λ (is : AreSame old new). apart_same old new is was) (λ (is : AreMore old new). apart_more old new is was) step

pub keeps_after : (old new : List TermPage) (n : ℕ) → GoOn old new → n < length old → KeepsLow n old new
keeps_after old new n step h =
    ⊎_elim (λ (is : AreSame old new). same_keeps is) (λ (is : AreMore old new). more_keeps is) step
  where
    same_keeps : AreSame old new → KeepsLow n old new
    same_keeps is = record { there = omega (arith, is.many); same = is.low n }

    more_keeps : AreMore old new → KeepsLow n old new
    more_keeps is = record { there = omega (arith, is.many); same = is.low n h }

-- ---- parts one after another

all_apart : (parts : List PartValue) (before after : Contents) → after_parts parts before ≡ Some after → AreApart before.terms → AreApart after.terms
all_apart [] before after lead was = subst (λ (contents : Contents). AreApart contents.terms) (same_some before after lead) was
all_apart (part ∷ parts) before after lead was =
    let step = first_step part parts before after lead in
    all_apart parts step.between after step.others
    (apart_after before.terms step.between.terms (kind_goes_on (kind_of part.kind) part.key part.payload before step.between step.first) was)

pub at_first : AreApart (no_term_page ∷ [])
at_first = record { some = omega arith; first = refl; apart = λ m n h k e. omega arith }

pub told_apart : (parts : List PartValue) (contents : Contents) → after_parts parts no_contents ≡ Some contents → AreApart contents.terms
told_apart parts contents lead = all_apart parts no_contents contents lead at_first

pub lows_kept : (parts : List PartValue) (before after : Contents) (n : ℕ) → after_parts parts before ≡ Some after → n < length before.terms
    → KeepsLow n before.terms after.terms
lows_kept [] before after n lead h =
    subst (λ (contents : Contents). KeepsLow n before.terms contents.terms) (same_some before after lead) (record { there = h; same = refl })
lows_kept (part ∷ parts) before after n lead h =
    let step = first_step part parts before after lead in
    let first : KeepsLow n before.terms step.between.terms =
    keeps_after before.terms step.between.terms n (kind_goes_on (kind_of part.kind) part.key part.payload before step.between step.first) h
    in
    let others : KeepsLow n step.between.terms after.terms = lows_kept parts step.between after n step.others first.there in
    record { there = others.there; same = others.same ∙ first.same }

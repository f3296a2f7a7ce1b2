-- What holds of each change that is told holds of what the contents have.
use Rattle.std.proofs.Common.{◌≡◌, ℕ, zero, suc, arith, Bool, true, false, List, [], ◌∷◌, ◌++◌}
use Rattle.std.proofs.Common.{length, refl, sym, ap, subst, ◌∙◌, ⊎_elim}
use Rattle.std.specs.Prelude.{◌≢◌, Some, None, if◌then◌else◌}
use Rattle.std.proofs.lemmas.Bool.{cases_eq, ltb-true}
use Rattle.std.proofs.lemmas.List.{get_or-set_same, get_or_past, append_assoc}
use Rattle.std.specs.List.{AllByRecursion, Contains}
use Rattle.std.proofs.lemmas.List.Elements.{Contains-append_right}
use Rattle.std.specs.Ordering.{nat_cmp}
use Rattle.std.specs.FinMap as map
use Rattle.ax_pages.specs.Contents.{TermPage, no_term_page, term_page}
use Rattle.ax_pages.specs.AfterPart.{with_base, with_delta, after_base}
use Rattle.ax_pages.specs.AfterPart.{after_delta}
use Rattle.ax_pages.proofs.TermLists.{put_there, put_other, set_other, base_place}
use Rattle.ax_pages.proofs.LastPart.{get_inserted, get_not_inserted, get_removed, get_not_removed}
use Rattle.ax_area.specs.Changes.{Change, Written, Numbers}
use Rattle.ax_area.specs.Changes as change
use Rattle.ax_area.specs.Contents.{Contents, stored, no_contents, is_allowed, with_change}
use Rattle.ax_area.specs.Contents.{after_change, after_changes}
use Rattle.ax_area.specs.Kept.{IsWritten, HoldsOfAll}
use Rattle.ax_area.proofs.OneTelling.{same_some, some_or_none, first_step}

-- what a change that may be made leads to
pub record IsMade (change : Change) (before after : Contents) : Type 0 where
  pub allowed : is_allowed change before ≡ true
  pub is : after ≡ with_change change before

pub made : (change : Change) (before after : Contents) → after_change change before ≡ Some after
    → IsMade change before after
made change before after lead = by_test (is_allowed change before) refl lead
  where
    by_test : (b : Bool) → is_allowed change before ≡ b
        → (if b then Some (with_change change before) else None) ≡ Some after
        → IsMade change before after
    by_test true allowed e =
        record { allowed = allowed; is = sym (same_some (with_change change before) after e) }
    by_test false allowed e = absurd (some_or_none after e)

pub all_push : {A : Type 0} (P : A → Type 0) (xs : List A) (x : A) → AllByRecursion P xs → P x
    → AllByRecursion P (xs ++ x ∷ [])
all_push P [] x all one = (one, tt)
all_push P (y ∷ xs) x all one = (all.0, all_push P xs x all.1 one)

module _ (P : Change → Type 0) where
  -- a map with one more
  in_map : {X : Type 0} (pages : map.FinMap nat_cmp X) (key : ℕ) (x : X) (Q : ℕ → X → Type 0)
      → ((n : ℕ) (y : X) → map.get pages n ≡ Some y → Q n y) → Q key x
      → (n : ℕ) (y : X) → map.get (map.insert pages key x) n ≡ Some y → Q n y
  in_map pages key x Q before one n y found =
      ⊎_elim
      (λ (same : n ≡ key).
      let is : x ≡ y = same_some x y (sym (get_inserted pages key x)
      ∙ ap (map.get (map.insert pages key x)) (sym same) ∙ found) in
      subst (λ m. Q m y) (sym same) (subst (Q key) is one))
      (λ (apart : n ≡ key → ⊥). before n y (sym (get_not_inserted pages key n x apart) ∙ found))
      (cases_eq n key)

  -- or one less
  out_of_map : {X : Type 0} (pages : map.FinMap nat_cmp X) (key : ℕ) (Q : ℕ → X → Type 0)
      → ((n : ℕ) (y : X) → map.get pages n ≡ Some y → Q n y)
      → (n : ℕ) (y : X) → map.get (map.remove pages key) n ≡ Some y → Q n y
  out_of_map pages key Q before n y found =
      ⊎_elim
      (λ (same : n ≡ key). absurd (some_or_none y
      (sym (get_removed pages key) ∙ ap (map.get (map.remove pages key)) (sym same) ∙ found)))
      (λ (apart : n ≡ key → ⊥). before n y (sym (get_not_removed pages key n apart) ∙ found))
      (cases_eq n key)

  -- what holds of a term page
  record PageSo (number : ℕ) (page : TermPage) : Type 0 where
    base : (payload : List ℕ) → page.base ≡ Some payload → P (change.Base number payload)
    deltas : AllByRecursion (λ payload. P (change.Delta number payload)) page.deltas

  page_so : (contents : Contents) → HoldsOfAll P contents → (number : ℕ)
      → PageSo number (term_page number contents.terms)
  page_so contents holds number = record { base = holds.bases number; deltas = holds.deltas number }

  -- pages of which one is another
  pages_so : (pages new : List TermPage) (key : ℕ) → ((n : ℕ) → PageSo n (term_page n pages))
      → PageSo key (term_page key new)
      → ((n : ℕ) → n ≢ key → term_page n new ≡ term_page n pages) → (n : ℕ)
      → PageSo n (term_page n new)
  pages_so pages new key before one others n =
      ⊎_elim
      (λ (same : n ≡ key). subst (λ m. PageSo m (term_page m new)) (sym same) one)
      (λ (apart : n ≡ key → ⊥). subst (PageSo n) (sym (others n apart)) (before n))
      (cases_eq n key)

  with_terms : (contents : Contents) (terms : List TermPage) → HoldsOfAll P contents
      → ((n : ℕ) → PageSo n (term_page n terms)) → HoldsOfAll P (record contents { terms = terms })
  with_terms contents terms holds pages =
      record {
        policies = holds.policies;
        documents = holds.documents;
        bases = λ n. (pages n).base;
        deltas = λ n. (pages n).deltas;
      }

  one_more : (change : Change) (before : Contents) → is_allowed change before ≡ true → P change
      → HoldsOfAll P before → HoldsOfAll P (with_change change before)
  one_more (change.Meta numbers) before allowed so holds =
      record {
        policies = holds.policies;
        documents = holds.documents;
        bases = holds.bases;
        deltas = holds.deltas;
      }
  one_more (change.Policy number text) before allowed so holds =
      record {
        policies = in_map before.policies number text
            (λ n t. P (change.Policy n t)) holds.policies so;
        documents = holds.documents;
        bases = holds.bases;
        deltas = holds.deltas;
      }
  one_more (change.Document number written) before allowed so holds =
      record {
        policies = holds.policies;
        documents = in_map before.documents number (stored number written)
            (λ n d. IsWritten P n d) holds.documents
            (record { written = written; is = refl; so = so });
        bases = holds.bases;
        deltas = holds.deltas;
      }
  one_more (change.Gone number) before allowed so holds =
      record {
        policies = holds.policies;
        documents = out_of_map before.documents number
            (λ n d. IsWritten P n d) holds.documents;
        bases = holds.bases;
        deltas = holds.deltas;
      }
  one_more (change.Base page payload) before allowed so holds =
      let place = base_place page payload before.terms allowed in
      let there : term_page page (after_base page payload before.terms)
      ≡ with_base payload = put_there page (with_base payload) before.terms place in
      with_terms before (after_base page payload before.terms) holds
      (pages_so before.terms (after_base page payload before.terms) page (page_so before holds)
      (subst (PageSo page) (sym there) (record {
        base = λ other is. subst
            (λ p. P (change.Base page p)) (same_some payload other is) so;
        deltas = tt;
      }))
      (λ n apart. put_other page (with_base payload) before.terms n place apart))
  one_more (change.Delta page payload) before allowed so holds =
      let old : TermPage = term_page page before.terms in
      let there : term_page page (after_delta page payload before.terms) ≡ with_delta payload old =
      get_or-set_same before.terms page (with_delta payload old) no_term_page
      (ltb-true page (length before.terms) allowed) in
      with_terms before (after_delta page payload before.terms) holds
      (pages_so before.terms (after_delta page payload before.terms) page (page_so before holds)
      (subst (PageSo page) (sym there) (record {
        base = holds.bases page;
        deltas = all_push (λ p. P (change.Delta page p)) old.deltas payload (holds.deltas page) so;
      }))
      (λ n apart. set_other page (with_delta payload old) before.terms n apart))

  pub kept_so : (changes : List Change) (before after : Contents) → after_changes changes before
      ≡ Some after → AllByRecursion P changes → HoldsOfAll P before → HoldsOfAll P after
  kept_so [] before after lead all holds = subst (HoldsOfAll P) (same_some before after lead) holds
  kept_so (change ∷ changes) before after lead all holds =
      let step = first_step change changes before after lead in
      let is = made change before step.between step.first in
      kept_so changes step.between after step.others all.1
      (subst (HoldsOfAll P) (sym is.is) (one_more change before is.allowed all.0 holds))

  only_page : (n : ℕ) → term_page n no_contents.terms ≡ no_term_page
  only_page zero = refl
  only_page (suc n) = get_or_past (no_term_page ∷ []) (suc n) no_term_page (omega arith)

  nothing_so : HoldsOfAll P no_contents
  nothing_so = record {
    policies = λ n text found. absurd (some_or_none text (sym (map.get-empty nat_cmp n) ∙ found));
    documents = λ n document found. absurd (some_or_none document
        (sym (map.get-empty nat_cmp n) ∙ found));
    bases = λ n payload found. absurd (some_or_none payload
        (sym (ap (λ (page : TermPage). page.base) (only_page n)) ∙ found));
    deltas = λ n. subst (λ (page : TermPage). AllByRecursion
        (λ payload. P (change.Delta n payload)) page.deltas) (sym (only_page n)) tt;
  }

  pub told_so : (changes : List Change) (contents : Contents) → after_changes changes no_contents
      ≡ Some contents → AllByRecursion P changes → HoldsOfAll P contents
  told_so changes contents lead all = kept_so changes no_contents contents lead all nothing_so

-- each is one of them
each_in : {A : Type 0} (front xs : List A) → AllByRecursion (Contains (front ++ xs)) xs
each_in front [] = tt
each_in front (x ∷ xs) = (
  Contains-append_right front (x ∷ xs) x (0, omega arith, refl),
  subst (λ all. AllByRecursion (Contains all) xs) (append_assoc front (x ∷ []) xs)
      (each_in (front ++ x ∷ []) xs),
)

pub told_in : (changes : List Change) (contents : Contents) → after_changes changes no_contents
    ≡ Some contents → HoldsOfAll (Contains changes) contents
told_in changes contents lead =
    told_so (Contains changes) changes contents lead (each_in [] changes)

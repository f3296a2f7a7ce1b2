-- What parts of term pages make of the pages: one after another, a delta, a base of a page that is there, the
-- first base of the next page.
use Rattle.std.proofs.Common.{◌≡◌, ℕ, ◌<◌, nat_lt, nat_eq, not, ◌&&◌, ◌||◌, List, [], ◌∷◌, ◌++◌, length, arith, refl, sym, ap, ◌∙◌, subst, Bool, true}
use Rattle.std.proofs.Common.{false, cond, Option, Some, None, suc}
use Rattle.std.specs.Prelude.{is_some}
use Rattle.std.specs.Option.{option_and_then, unwrap_or}
use Rattle.std.proofs.lemmas.Bool.{lt-ltb, eq-eqb}
use Rattle.std.proofs.lemmas.Slice.Eq.{bytes_eq-Decides}
use Rattle.std.specs.Str.{bytes_eq}
use Rattle.ax_frame.specs.Part.{PartValue}
use Rattle.ax_pair.specs.declared.pair.Pair.{Pair}
use Rattle.ax_pair.specs.Low.{low_in, first_pair}
use Rattle.ax_pages.specs.Contents.{TermPage, low_of, term_page}
use Rattle.ax_pages.specs.AfterPart.{after_base, after_delta, with_base, is_base, is_own, is_new, is_same, is_taken}
use Rattle.ax_pages.specs.AfterPart.{low_at_front, most_term_pages}
use Rattle.ax_pages.specs.TermPages.{low_pair}
use Rattle.ax_pages.proofs.TermLists.{are_same, put_behind}
use Rattle.ax_area.specs.Changes.{Change, Base, Delta}
use Rattle.ax_area.specs.Contents.{Contents, after_change, after_changes}
use Rattle.ax_area.specs.Leading as leading
use Rattle.ax_area.specs.Parts.{change_said, after_part, after_parts}
use Rattle.ax_area.proofs.Leading as changes
use Rattle.ax_pairs.specs.TermParts.{LeadTo}

pub lead_nothing : (pages : List TermPage) → LeadTo [] pages pages
lead_nothing pages = record { lead = λ contents same. ap (λ (terms : List TermPage). Some (record contents { terms = terms })) same }

more_parts : (first second : List PartValue) (contents : Contents)
    → after_parts (first ++ second) contents ≡ option_and_then (after_parts second) (after_parts first contents)
more_parts [] second contents = refl
more_parts (part ∷ first) second contents = by_step (after_part part contents) (λ between. more_parts first second between)
  where
    by_step : (step : Option Contents)
        → ((between : Contents) → after_parts (first ++ second) between ≡ option_and_then (after_parts second) (after_parts first between))
        → option_and_then (after_parts (first ++ second)) step ≡ option_and_then (after_parts second) (option_and_then (after_parts first) step)
    by_step None more = refl
    by_step (Some between) more = more between

pub lead_then : (first second : List PartValue) (before between after : List TermPage) → LeadTo first before between → LeadTo second between after
    → LeadTo (first ++ second) before after
lead_then first second before between after one other = record {
  lead = λ contents same.
      more_parts first second contents
      ∙ ap (option_and_then (after_parts second)) (one.lead contents same)
      ∙ other.lead (record contents { terms = between }) refl;
}

both : (a b : Bool) → a ≡ true → b ≡ true → (a && b) ≡ true
both true b e f = f
both false b e f = absurd (cc)

same_from : (p q : Pair) → p ≡ q → is_same p q ≡ true
same_from p q e =
    both (bytes_eq p.term q.term) (nat_eq p.number q.number)
    ((bytes_eq-Decides p.term q.term).1 (ap (λ (pair : Pair). pair.term) e))
    (eq-eqb p.number q.number (ap (λ (pair : Pair). pair.number) e))

-- ---- one part

-- a part leads where the change that it says does
by_change : (part : PartValue) (change : Change) (before after : List TermPage) → change_said part ≡ Some change
    → leading.LeadTo (change ∷ []) before after → LeadTo (part ∷ []) before after
by_change part change before after said lead = record {
  lead = λ contents same.
      ap (λ (c : Option Change). option_and_then (after_parts []) (option_and_then (λ c. after_change c contents) c)) said
      ∙ last_step (after_change change contents)
      ∙ lead.lead contents same;
}
  where
    last_step : (step : Option Contents) → option_and_then (after_parts []) step ≡ option_and_then (after_changes []) step
    last_step None = refl
    last_step (Some contents) = refl

abbrev pub delta_part : ℕ → List ℕ → PartValue
delta_part number payload = record { kind = 6; key = number; payload = payload }

abbrev pub base_part : ℕ → List ℕ → PartValue
base_part number payload = record { kind = 5; key = number; payload = payload }

pub lead_delta : (pages : List TermPage) (number : ℕ) (payload : List ℕ) → number < length pages
    → LeadTo (delta_part number payload ∷ []) pages (after_delta number payload pages)
lead_delta pages number payload there =
    by_change (delta_part number payload) (Delta number payload) pages (after_delta number payload pages) refl
    (changes.lead_delta pages number payload there)

base_led : (pages : List TermPage) (number : ℕ) (payload : List ℕ) → is_some (low_in payload) ≡ true → is_base number payload pages ≡ true
    → LeadTo (base_part number payload ∷ []) pages (after_base number payload pages)
base_led pages number payload low within =
    by_change (base_part number payload) (Base number payload) pages (after_base number payload pages)
    (ap (λ (b : Bool). cond b (Some (Base number payload)) None) low)
    (changes.base_led pages number payload within)

all_three : (a b c : Bool) → a ≡ true → b ≡ true → (a && (b || c)) ≡ true
all_three true true c e f = refl
all_three true false c e f = absurd (cc)
all_three false b c e f = absurd (cc)

all_other : (a b c : Bool) → a ≡ true → c ≡ true → (a && (b || c)) ≡ true
all_other true true c e f = refl
all_other true false c e f = f
all_other false b c e f = absurd (cc)

front_of : (payload : List ℕ) (low : Pair) → low_in payload ≡ Some low → low_at_front payload ≡ low
front_of payload low found = ap (λ (o : Option Pair). unwrap_or o first_pair) found

some_found : (payload : List ℕ) (low : Pair) → low_in payload ≡ Some low → is_some (low_in payload) ≡ true
some_found payload low found = ap is_some found

pub lead_base : (pages : List TermPage) (number : ℕ) (payload : List ℕ) → number < length pages → low_in payload ≡ Some (low_pair number pages)
    → LeadTo (base_part number payload ∷ []) pages (after_base number payload pages)
lead_base pages number payload there found =
    base_led pages number payload (some_found payload (low_pair number pages) found)
    (all_three (is_some (low_in payload)) (is_own number (low_at_front payload) pages) (is_new number (low_at_front payload) pages)
    (some_found payload (low_pair number pages) found)
    (both (nat_lt number (length pages)) (is_same (low_at_front payload) (low_of (term_page number pages)))
    (lt-ltb number (length pages) there)
    (same_from (low_at_front payload) (low_pair number pages) (front_of payload (low_pair number pages) found))))

-- a low pair that no page has is taken by none
not_taken : (low : Pair) (pages : List TermPage) → ((n : ℕ) → n < length pages → low_pair n pages ≡ low → ⊥) → is_taken low pages ≡ false
not_taken low [] fresh = refl
not_taken low (page ∷ pages) fresh =
    by_test (is_same low (low_of page)) refl (not_taken low pages (λ n h e. fresh (suc n) (omega arith) e))
  where
    by_test : (b : Bool) → is_same low (low_of page) ≡ b → is_taken low pages ≡ false → (b || is_taken low pages) ≡ false
    by_test true e rest = absurd (fresh 0 (omega arith) (sym (are_same low (low_of page) e)))
    by_test false e rest = rest

pub lead_new : (pages : List TermPage) (number : ℕ) (payload : List ℕ) (low : Pair) → number ≡ length pages → number < most_term_pages
    → low_in payload ≡ Some low
    → ((n : ℕ) → n < length pages → low_pair n pages ≡ low → ⊥)
    → LeadTo (base_part number payload ∷ []) pages (pages ++ with_base payload ∷ [])
lead_new pages number payload low next few found fresh =
    subst (λ (after : List TermPage). LeadTo (base_part number payload ∷ []) pages after) (put_behind number (with_base payload) pages next)
    (base_led pages number payload (some_found payload low found)
    (all_other (is_some (low_in payload)) (is_own number (low_at_front payload) pages) (is_new number (low_at_front payload) pages)
    (some_found payload low found)
    (both (nat_eq number (length pages) && nat_lt number most_term_pages) (not (is_taken (low_at_front payload) pages))
    (both (nat_eq number (length pages)) (nat_lt number most_term_pages) (eq-eqb number (length pages) next) (lt-ltb number most_term_pages few))
    (ap (λ (l : Pair). not (is_taken l pages)) (front_of payload low found)
    ∙ ap not (not_taken low pages fresh)))))

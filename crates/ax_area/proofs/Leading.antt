-- What changes of term pages make of the pages.
use Rattle.std.proofs.Common.{◌≡◌, ℕ, ◌<◌, nat_lt, Bool, true, List, [], ◌∷◌, ◌++◌, length, Option}
use Rattle.std.proofs.Common.{refl, ap, ◌∙◌}
use Rattle.std.specs.Prelude.{Some, None, if◌then◌else◌, option_and_then}
use Rattle.std.proofs.lemmas.Bool.{lt-ltb}
use Rattle.ax_pages.specs.Contents.{TermPage}
use Rattle.ax_pages.specs.AfterPart.{is_base, after_base, after_delta}
use Rattle.ax_area.specs.Changes.{Change, Base, Delta}
use Rattle.ax_area.specs.Contents.{Contents, after_change, after_changes}
use Rattle.ax_area.specs.Leading.{LeadTo}

pub lead_nothing : (pages : List TermPage) → LeadTo [] pages pages
lead_nothing pages =
    record {
      lead = λ contents same. ap (λ (terms : List TermPage). Some
          (record contents { terms = terms })) same;
    }

pub more_changes : (first second : List Change) (contents : Contents)
    → after_changes (first ++ second) contents
    ≡ option_and_then (after_changes second) (after_changes first contents)
more_changes [] second contents = refl
more_changes (change ∷ first) second contents =
    by_step (after_change change contents) (λ between. more_changes first second between)
  where
    by_step : (step : Option Contents)
        → ((between : Contents) → after_changes (first ++ second) between
        ≡ option_and_then (after_changes second) (after_changes first between))
        → option_and_then (after_changes (first ++ second)) step
        ≡ option_and_then (after_changes second) (option_and_then (after_changes first) step)
    by_step None more = refl
    by_step (Some between) more = more between

pub lead_then : (first second : List Change) (before between after : List TermPage)
    → LeadTo first before between → LeadTo second between after
    → LeadTo (first ++ second) before after
lead_then first second before between after one other = record {
  lead = λ contents same.
      more_changes first second contents
      ∙ ap (option_and_then (after_changes second)) (one.lead contents same)
      ∙ other.lead (record contents { terms = between }) refl;
}

step_taken : (test : Bool) (some : Contents) → test ≡ true
    → option_and_then (after_changes []) (if test then Some some else None) ≡ Some some
step_taken test some e =
    ap (λ (b : Bool). option_and_then (after_changes []) (if b then Some some else None)) e

pub lead_delta : (pages : List TermPage) (number : ℕ) (payload : List ℕ) → number < length pages
    → LeadTo (Delta number payload ∷ []) pages (after_delta number payload pages)
lead_delta pages number payload there = record {
  lead = λ contents same.
      step_taken (nat_lt number (length contents.terms))
      (record contents { terms = after_delta number payload contents.terms })
      (ap (λ (terms : List TermPage). nat_lt number (length terms)) same
      ∙ lt-ltb number (length pages) there)
      ∙ ap (λ (terms : List TermPage). Some
      (record contents { terms = after_delta number payload terms })) same;
}

pub base_led : (pages : List TermPage) (number : ℕ) (payload : List ℕ)
    → is_base number payload pages ≡ true
    → LeadTo (Base number payload ∷ []) pages (after_base number payload pages)
base_led pages number payload within = record {
  lead = λ contents same.
      step_taken (is_base number payload contents.terms)
      (record contents { terms = after_base number payload contents.terms })
      (ap (λ (terms : List TermPage). is_base number payload terms) same ∙ within)
      ∙ ap (λ (terms : List TermPage). Some
      (record contents { terms = after_base number payload terms })) same;
}

-- Changes lead from well made contents to well made ones.
use Rattle.std.proofs.Common.{◌≡◌, ℕ, arith, ◌+◌, ◌-◌, ◌≤◌, nat_lt, Bool, true}
use Rattle.std.proofs.Common.{false, List, [], ◌∷◌, refl, sym, ap, subst, ◌∙◌}
use Rattle.std.proofs.Common.{⊎_elim}
use Rattle.std.specs.Prelude.{Some, ◌||◌, ◌&&◌, ◌==◌, if◌then◌else◌, is_some}
use Rattle.std.proofs.lemmas.Bool.{cases_eq, ltb-true, and_parts, or_cases}
use Rattle.std.specs.Ordering.{nat_cmp}
use Rattle.std.specs.Cmp.{nat_cmp_total}
use Rattle.std.specs.FinMap as map
use Rattle.ax_pages.specs.AfterPart.{most_documents, after_base, after_delta}
use Rattle.ax_pages.proofs.ToldApart.{base_goes_on, delta_goes_on, apart_after, at_first}
use Rattle.ax_pages.proofs.LastPart.{get_inserted, get_not_inserted, get_removed, get_not_removed}
use Rattle.ax_area.specs.Changes.{Change, Written, Numbers}
use Rattle.ax_area.specs.Changes as change
use Rattle.ax_area.specs.Contents.{Contents, Stored, stored, no_contents, is_given, has_room}
use Rattle.ax_area.specs.Contents.{may_follow, is_allowed, with_change, after_changes}
use Rattle.ax_area.specs.WellMade.{IsWellMade}
use Rattle.ax_area.proofs.OneTelling.{same_some, some_or_none, first_step}
use Rattle.ax_area.proofs.KeptSo.{made}

-- a policy that was given stays so
still_given : (policy number : ℕ) (text : List ℕ) (before : Contents) → is_given policy before
    ≡ true → is_given policy (record before { policies = map.insert before.policies number text })
    ≡ true
still_given policy number text before given =
    ⊎_elim
    (λ (zero_is : (policy == 0) ≡ true). ap (λ b. b || map.contains_key
    (map.insert before.policies number text) policy) zero_is)
    (λ (there : map.contains_key before.policies policy ≡ true).
    ⊎_elim
    (λ (same : policy ≡ number). second (policy == 0) _
    (ap is_some (ap (map.get (map.insert before.policies number text)) same
    ∙ get_inserted before.policies number text)))
    (λ (apart : policy ≡ number → ⊥). second (policy == 0) _
    (ap is_some (get_not_inserted before.policies number policy text apart) ∙ there))
    (cases_eq policy number))
    (or_cases (policy == 0) (map.contains_key before.policies policy) given)
  where
    second : (a b : Bool) → b ≡ true → (a || b) ≡ true
    second true b e = refl
    second false b e = e

few_inserted : (documents : map.FinMap nat_cmp Stored) (number : ℕ) (document : Stored)
    → (map.contains_key documents number || nat_lt (map.len documents) most_documents) ≡ true
    → map.len documents ≤ most_documents
    → map.len (map.insert documents number document) ≤ most_documents
few_inserted documents number document room few =
    by_test (map.contains_key documents number) room
    (map.len-insert nat_cmp_total documents number document)
  where
    by_test : (b : Bool) → (b || nat_lt (map.len documents) most_documents) ≡ true
        → map.len (map.insert documents number document)
        ≡ (if b then map.len documents else map.len documents + 1)
        → map.len (map.insert documents number document) ≤ most_documents
    by_test true room is = omega (arith, is, few)
    by_test false room is = omega (arith, is, ltb-true (map.len documents) most_documents room)

few_removed : (documents : map.FinMap nat_cmp Stored) (number : ℕ)
    → map.len documents ≤ most_documents → map.len (map.remove documents number) ≤ most_documents
few_removed documents number few =
    by_test (map.contains_key documents number) (map.len-remove nat_cmp_total documents number)
  where
    by_test : (b : Bool) → map.len (map.remove documents number)
        ≡ (if b then map.len documents - 1 else map.len documents)
        → map.len (map.remove documents number) ≤ most_documents
    by_test true is = omega (arith, is, few)
    by_test false is = omega (arith, is, few)

one_more : (change : Change) (before : Contents) → is_allowed change before ≡ true
    → IsWellMade before → IsWellMade (with_change change before)
one_more (change.Meta numbers) before allowed well = record {
  now = (and_parts (is_given numbers.policy before) (may_follow numbers.version before) allowed).0;
  given = well.given;
  few = well.few;
  apart = well.apart;
}
one_more (change.Policy number text) before allowed well = record {
  now = still_given before.policy_now number text before well.now;
  given = λ n document found. still_given document.policy number text before
      (well.given n document found);
  few = well.few;
  apart = well.apart;
}
one_more (change.Document number written) before allowed well =
    let given = and_parts (is_given written.policy before)
    (has_room number before && may_follow written.version before) allowed in
    let room = and_parts (has_room number before) (may_follow written.version before) given.1 in
    let new : Stored = stored number written in
    record {
      now = well.now;
      given = λ n document found.
          ⊎_elim
          (λ (same : n ≡ number).
          let is : new ≡ document = same_some new document
          (sym (get_inserted before.documents number new)
          ∙ ap (map.get (map.insert before.documents number new)) (sym same) ∙ found) in
          subst (λ (d : Stored). is_given d.policy before ≡ true) is given.0)
          (λ (apart : n ≡ number → ⊥). well.given n document
          (sym (get_not_inserted before.documents number n new apart) ∙ found))
          (cases_eq n number);
      few = few_inserted before.documents number new room.0 well.few;
      apart = well.apart;
    }
one_more (change.Gone number) before allowed well = record {
  now = well.now;
  given = λ n document found.
      ⊎_elim
      (λ (same : n ≡ number). absurd (some_or_none document
      (sym (get_removed before.documents number)
      ∙ ap (map.get (map.remove before.documents number)) (sym same) ∙ found)))
      (λ (apart : n ≡ number → ⊥). well.given n document
      (sym (get_not_removed before.documents number n apart) ∙ found))
      (cases_eq n number);
  few = few_removed before.documents number well.few;
  apart = well.apart;
}
one_more (change.Base page payload) before allowed well = record {
  now = well.now;
  given = well.given;
  few = well.few;
  apart = apart_after before.terms (after_base page payload before.terms)
      (base_goes_on page payload before.terms allowed) well.apart;
}
one_more (change.Delta page payload) before allowed well = record {
  now = well.now;
  given = well.given;
  few = well.few;
  apart = apart_after before.terms (after_delta page payload before.terms)
      (delta_goes_on page payload before.terms allowed) well.apart;
}

pub well_after : (changes : List Change) (before after : Contents) → after_changes changes before
    ≡ Some after → IsWellMade before → IsWellMade after
well_after [] before after lead well = subst IsWellMade (same_some before after lead) well
well_after (change ∷ changes) before after lead well =
    let step = first_step change changes before after lead in
    let is = made change before step.between step.first in
    well_after changes step.between after step.others
    (subst IsWellMade (sym is.is) (one_more change before is.allowed well))

nothing_well : IsWellMade no_contents
nothing_well = record {
  now = refl;
  given = λ n document found. absurd (some_or_none document
      (sym (map.get-empty nat_cmp n) ∙ found));
  few = omega (arith, map.len-empty nat_cmp Stored);
  apart = at_first;
}

pub made_well : (changes : List Change) (contents : Contents) → after_changes changes no_contents
    ≡ Some contents → IsWellMade contents
made_well changes contents lead = well_after changes no_contents contents lead nothing_well

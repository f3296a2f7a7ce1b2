-- Changes that turn term pages alone, whatever else a store has, say no policy and no document: the last change of a
-- document would be seen in a store that has it, or in one that has it not.
use Rattle.std.proofs.Common.{◌≡◌, ℕ, ◌==◌, Bool, true, false, List, [], ◌∷◌, Option, Some, None, refl, sym, ap, ◌∙◌}
use Rattle.std.specs.Prelude.{if◌then◌else◌, is_some}
use Rattle.std.specs.List.{AllByRecursion}
use Rattle.std.specs.Option.{unwrap_or}
use Rattle.std.proofs.lemmas.Bool.{eq-eqb, eqb-true}
use Rattle.std.specs.FinMap as finite
use Rattle.std.specs.Ordering.{nat_cmp}
use Rattle.ax_area.proofs.OneTelling.{first_step, same_some, some_or_none}
use Rattle.ax_area.specs.Changes.{Change, Numbers, Written}
use Rattle.ax_area.specs.Changes as change
use Rattle.ax_area.specs.Contents.{Contents, Stored, after_change, after_changes, is_allowed, no_contents, stored, with_change}
use Rattle.ax_area.specs.Leading.{LeadTo}
use Rattle.ax_pages.proofs.LastPart.{get_inserted, get_not_inserted, get_not_removed, get_removed}
use Rattle.ax_pages.specs.Contents.{TermPage}

passed : (test : Bool) (x y : Contents) → (if test then Some x else None) ≡ Some y → y ≡ x
passed true x y e = sym (same_some x y e)
passed false x y e = absurd (some_or_none y e)

-- what a change leads to
pub stepped : (c : Change) (a b : Contents) → after_change c a ≡ Some b → b ≡ with_change c a
stepped c a b e = passed (is_allowed c a) (with_change c a) b e

-- ---- what the last change says of something that is looked up

module _ {X : Type 0} (look : Contents → Option X) (one : Change → Option (Option X))
    (step : (c : Change) (a : Contents) → look (with_change c a) ≡ unwrap_or (one c) (look a)) where
  -- what the changes say of it, or none
  abbrev last : List Change → Option (Option X)
  last [] = None
  last (c ∷ changes) = if is_some (last changes) then last changes else one c

  behind : (said : Option (Option X)) (first : Option (Option X)) (before : Option X)
      → unwrap_or said (unwrap_or first before) ≡ unwrap_or (if is_some said then said else first) before
  behind None first before = refl
  behind (Some x) first before = refl

  looks : (changes : List Change) (a b : Contents) → after_changes changes a ≡ Some b
      → look b ≡ unwrap_or (last changes) (look a)
  looks [] a b e = ap look (sym (same_some a b e))
  looks (c ∷ changes) a b e =
      let by = first_step c changes a b e in
      looks changes by.between b by.others
      ∙ ap (λ x. unwrap_or (last changes) (look x)) (stepped c a by.between by.first)
      ∙ ap (unwrap_or (last changes)) (step c a)
      ∙ behind (last changes) (one c) (look a)

  -- of what is there in one store and not in another, they say nothing
  nothing_said : (changes : List Change) (with_it without : Contents) (x : X)
      → look with_it ≡ Some x → look without ≡ None
      → Some x ≡ unwrap_or (last changes) (look with_it) → None ≡ unwrap_or (last changes) (look without)
      → last changes ≡ None
  nothing_said changes with_it without x there absent one_way other = by_last (last changes) one_way other
    where
      by_last : (said : Option (Option X)) → Some x ≡ unwrap_or said (look with_it) → None ≡ unwrap_or said (look without) → said ≡ None
      by_last None e f = refl
      by_last (Some said) e f = absurd (some_or_none x (f ∙ sym e))

  first_none : (c : Change) (changes : List Change) → last (c ∷ changes) ≡ None → (one c ≡ None) × (last changes ≡ None)
  first_none c changes e = by_last (last changes) e
    where
      by_last : (said : Option (Option X)) → (if is_some said then said else one c) ≡ None → (one c ≡ None) × (said ≡ None)
      by_last None f = (f, refl)
      by_last (Some x) f = absurd (some_or_none x (sym f))

-- ---- of a document, and of a policy

abbrev document_at : ℕ → Contents → Option Stored
document_at n contents = finite.get contents.documents n

abbrev document_said : ℕ → Change → Option (Option Stored)
document_said n (change.Meta numbers) = None
document_said n (change.Policy number text) = None
document_said n (change.Document number written) = if number == n then Some (Some (stored number written)) else None
document_said n (change.Gone number) = if number == n then Some None else None
document_said n (change.Base page payload) = None
document_said n (change.Delta page payload) = None

document_step : (n : ℕ) (c : Change) (a : Contents)
    → document_at n (with_change c a) ≡ unwrap_or (document_said n c) (document_at n a)
document_step n (change.Meta numbers) a = refl
document_step n (change.Policy number text) a = refl
document_step n (change.Document number written) a =
    elim (number == n) as (λ b. (number == n) ≡ b → finite.get (finite.insert a.documents number (stored number written)) n
    ≡ unwrap_or (if b then Some (Some (stored number written)) else None) (document_at n a)) [
      | true ↦ λ e. ap (finite.get (finite.insert a.documents number (stored number written))) (sym (eqb-true number n e))
          ∙ get_inserted a.documents number (stored number written)
      | false ↦ λ e. get_not_inserted a.documents number n (stored number written) (λ same. not_same number n e same)
    ] refl
  where
    not_same : (m n : ℕ) → (m == n) ≡ false → n ≡ m → ⊥
    not_same m n e same = let is : (m == n) ≡ true = eq-eqb m n (sym same) in absurd cc
document_step n (change.Gone number) a =
    elim (number == n) as (λ b. (number == n) ≡ b → finite.get (finite.remove a.documents number) n
    ≡ unwrap_or (if b then Some None else None) (document_at n a)) [
      | true ↦ λ e. ap (finite.get (finite.remove a.documents number)) (sym (eqb-true number n e)) ∙ get_removed a.documents number
      | false ↦ λ e. get_not_removed a.documents number n (λ same. not_same number n e same)
    ] refl
  where
    not_same : (m n : ℕ) → (m == n) ≡ false → n ≡ m → ⊥
    not_same m n e same = let is : (m == n) ≡ true = eq-eqb m n (sym same) in absurd cc
document_step n (change.Base page payload) a = refl
document_step n (change.Delta page payload) a = refl

abbrev policy_at : ℕ → Contents → Option (List ℕ)
policy_at n contents = finite.get contents.policies n

abbrev policy_said : ℕ → Change → Option (Option (List ℕ))
policy_said n (change.Meta numbers) = None
policy_said n (change.Policy number text) = if number == n then Some (Some text) else None
policy_said n (change.Document number written) = None
policy_said n (change.Gone number) = None
policy_said n (change.Base page payload) = None
policy_said n (change.Delta page payload) = None

policy_step : (n : ℕ) (c : Change) (a : Contents)
    → policy_at n (with_change c a) ≡ unwrap_or (policy_said n c) (policy_at n a)
policy_step n (change.Meta numbers) a = refl
policy_step n (change.Policy number text) a =
    elim (number == n) as (λ b. (number == n) ≡ b → finite.get (finite.insert a.policies number text) n
    ≡ unwrap_or (if b then Some (Some text) else None) (policy_at n a)) [
      | true ↦ λ e. ap (finite.get (finite.insert a.policies number text)) (sym (eqb-true number n e)) ∙ get_inserted a.policies number text
      | false ↦ λ e. get_not_inserted a.policies number n text (λ same. not_same number n e same)
    ] refl
  where
    not_same : (m n : ℕ) → (m == n) ≡ false → n ≡ m → ⊥
    not_same m n e same = let is : (m == n) ≡ true = eq-eqb m n (sym same) in absurd cc
policy_step n (change.Document number written) a = refl
policy_step n (change.Gone number) a = refl
policy_step n (change.Base page payload) a = refl
policy_step n (change.Delta page payload) a = refl

-- ---- none is said

-- no policy and no document
abbrev pub IsBeside : Change → Type 0
IsBeside (change.Meta numbers) = Unit {0}
IsBeside (change.Policy number text) = ⊥
IsBeside (change.Document number written) = ⊥
IsBeside (change.Gone number) = Unit {0}
IsBeside (change.Base page payload) = Unit {0}
IsBeside (change.Delta page payload) = Unit {0}

some_said : {X : Type 0} (n : ℕ) (x : Option X) → (if n == n then Some x else None) ≡ None → ⊥
some_said n x e = some_or_none x (sym e ∙ ap (λ (b : Bool). if b then Some x else None) (eq-eqb n n refl))

one_beside : (c : Change) → ((n : ℕ) → document_said n c ≡ None) → ((n : ℕ) → policy_said n c ≡ None) → IsBeside c
one_beside (change.Meta numbers) documents policies = tt
one_beside (change.Policy number text) documents policies = some_said number (Some text) (policies number)
one_beside (change.Document number written) documents policies = some_said number (Some (stored number written)) (documents number)
one_beside (change.Gone number) documents policies = tt
one_beside (change.Base page payload) documents policies = tt
one_beside (change.Delta page payload) documents policies = tt

all_beside : (changes : List Change)
    → ((n : ℕ) → last (document_at n) (document_said n) (document_step n) changes ≡ None)
    → ((n : ℕ) → last (policy_at n) (policy_said n) (policy_step n) changes ≡ None)
    → AllByRecursion IsBeside changes
all_beside [] documents policies = tt
all_beside (c ∷ changes) documents policies = (
  one_beside c
      (λ n. (first_none (document_at n) (document_said n) (document_step n) c changes (documents n)).0)
      (λ n. (first_none (policy_at n) (policy_said n) (policy_step n) c changes (policies n)).0),
  all_beside changes
      (λ n. (first_none (document_at n) (document_said n) (document_step n) c changes (documents n)).1)
      (λ n. (first_none (policy_at n) (policy_said n) (policy_step n) c changes (policies n)).1),
)

module _ (changes : List Change) (before after : List TermPage) (lead : LeadTo changes before after) where
  abbrev nothing : Contents
  nothing = record no_contents { terms = before }

  abbrev some_document : Stored
  some_document = record { policy = 0; version = 0; text = [] }

  abbrev with_document : ℕ → Contents
  with_document n = record nothing { documents = finite.insert nothing.documents n some_document }

  abbrev with_policy : ℕ → Contents
  with_policy n = record nothing { policies = finite.insert nothing.policies n [] }

  no_documents : (n : ℕ) → last (document_at n) (document_said n) (document_step n) changes ≡ None
  no_documents n =
      let there : document_at n (with_document n) ≡ Some some_document = get_inserted nothing.documents n some_document in
      nothing_said (document_at n) (document_said n) (document_step n) changes (with_document n) nothing some_document there (finite.get-empty nat_cmp n)
      (sym there ∙ looks (document_at n) (document_said n) (document_step n) changes (with_document n)
      (record (with_document n) { terms = after }) (lead.lead (with_document n) refl))
      (sym (finite.get-empty nat_cmp n)
      ∙ looks (document_at n) (document_said n) (document_step n) changes nothing (record nothing { terms = after }) (lead.lead nothing refl))

  no_policies : (n : ℕ) → last (policy_at n) (policy_said n) (policy_step n) changes ≡ None
  no_policies n =
      let there : policy_at n (with_policy n) ≡ Some [] = get_inserted nothing.policies n [] in
      nothing_said (policy_at n) (policy_said n) (policy_step n) changes (with_policy n) nothing [] there (finite.get-empty nat_cmp n)
      (sym there ∙ looks (policy_at n) (policy_said n) (policy_step n) changes (with_policy n)
      (record (with_policy n) { terms = after }) (lead.lead (with_policy n) refl))
      (sym (finite.get-empty nat_cmp n)
      ∙ looks (policy_at n) (policy_said n) (policy_step n) changes nothing (record nothing { terms = after }) (lead.lead nothing refl))

  pub are_beside : AllByRecursion IsBeside changes
  are_beside = all_beside changes no_documents no_policies

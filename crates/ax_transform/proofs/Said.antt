-- The changes that the parts say by which a policy becomes the one now, and the contents to which they lead.
use Rattle.std.proofs.Common.{◌≡◌, ℕ, zero, suc, ◌<◌, ◌≤◌, ◌^◌, Bool, true, false, List, [], ◌∷◌, Option, Some, None, refl, ap, ◌∙◌, arith}
use Rattle.std.specs.Prelude.{◌≢◌, ◌&&◌, ◌||◌, ◌==◌, not, is_some, if◌then◌else◌, option_and_then}
use Rattle.std.specs.Option.{option_map}
use Rattle.std.proofs.lemmas.Bool.{eqb-true, le-leb, lt-ltb}
use Rattle.std.proofs.lemmas.Nat.{from_le_bytes-to_le_bytes_4}
use Rattle.ax_area.specs.Changes.{Change}
use Rattle.ax_area.specs.Changes as change
use Rattle.ax_area.specs.Contents.{Contents, after_changes, is_given, may_follow, with_change}
use Rattle.ax_area.specs.Items.{number_at}
use Rattle.ax_area.specs.Parts.{after_parts, change_said, changes_said}
use Rattle.ax_frame.specs.Part.{PartValue}
use Rattle.ax_image.specs.WriteChanges.{meta_change}
use Rattle.ax_pages.proofs.LastPart.{get_inserted}
use Rattle.ax_pages.specs.AfterPart.{last_policy}
use Rattle.ax_pages.specs.Contents as log
use Rattle.ax_policy.specs.Normal.{normal_text}
use Rattle.ax_policy.specs.declared.policy.Policy.{Policy}
use Rattle.ax_store.specs.Batch.{AreAllowed}
use Rattle.ax_store.specs.Kept.{deltas_of}
use Rattle.ax_transform.specs.Parts.{changes_unless, next_told, parts_unless, text_part}
use Rattle.ax_write.proofs.PartsSaid.{said_leads}
use Rattle.ax_write.specs.Batches.{meta_part}

both : (a b : Bool) → a ≡ true → b ≡ true → (a && b) ≡ true
both a b x y = λ i. x i && y i

second_or : (a b : Bool) → b ≡ true → (a || b) ≡ true
second_or true b x = refl
second_or false b x = x

-- ---- what parts say

meta_said : (next policy : ℕ) → 0 < next → next < 2 ^ 32 → policy < 2 ^ 32
    → change_said (meta_part next policy) ≡ Some (meta_change next policy)
meta_said next policy some fits small =
    let bytes = log.meta_bytes next policy in
    let next_is : number_at 0 bytes ≡ next = from_le_bytes-to_le_bytes_4 next fits in
    let policy_is : number_at 4 bytes ≡ policy = from_le_bytes-to_le_bytes_4 policy small in
    ap (λ test. if test then Some (change.Meta (record { next = number_at 0 bytes; policy = number_at 4 bytes; version = None })) else None)
    (both _ _ refl (lt-ltb 0 (number_at 0 bytes) (omega (arith, some, next_is))))
    ∙ (λ i. Some (change.Meta (record { next = next_is i; policy = policy_is i; version = None })))

text_said : (number : ℕ) (text : List ℕ) → number ≤ last_policy → change_said (text_part number text) ≡ Some (change.Policy number text)
text_said number text few = ap (λ test. if test then Some (change.Policy number text) else None) (le-leb number last_policy few)

abbrev with_others : List PartValue → Option Change → Option (List Change)
with_others parts first =
    option_and_then (λ change. option_map (λ changes. change ∷ changes) (changes_said parts)) first

module _ (next number : ℕ) (policy : Policy) (some : 0 < next) (fits : next < 2 ^ 32) (few : number ≤ last_policy) where
  alone_said : changes_said (meta_part next number ∷ []) ≡ Some (meta_change next number ∷ [])
  alone_said = ap (with_others []) (meta_said next number some fits (omega (arith, few)))

  pub unless_said : (has : Bool) → changes_said (parts_unless has next number policy) ≡ Some (changes_unless has next number policy)
  unless_said true = alone_said
  unless_said false =
      ap (with_others (meta_part next number ∷ [])) (text_said number (normal_text policy) few)
      ∙ ap (option_map (λ changes. change.Policy number (normal_text policy) ∷ changes)) alone_said

-- ---- where they lead

-- the contents with the policy under that number, which is now
abbrev pub set_in : Bool → ℕ → ℕ → Policy → Contents → Contents
set_in true next number policy contents = with_change (meta_change next number) contents
set_in false next number policy contents =
    with_change (meta_change next number) (with_change (change.Policy number (normal_text policy)) contents)

plain_follows : (contents : Contents) → contents.versioned ≡ false → may_follow None contents ≡ true
plain_follows contents plain = ap not plain

meta_leads : (next number : ℕ) (contents : Contents) → contents.versioned ≡ false → is_given number contents ≡ true
    → after_changes (meta_change next number ∷ []) contents ≡ Some (with_change (meta_change next number) contents)
meta_leads next number contents plain given =
    ap (λ b. option_and_then (after_changes []) (if b then Some (with_change (meta_change next number) contents) else None))
    (both _ _ given (plain_follows contents plain))

-- a part gives the number
pub given_by : (number : ℕ) (text : List ℕ) (contents : Contents) → is_given number (with_change (change.Policy number text) contents) ≡ true
given_by number text contents = second_or (number == 0) _ (ap is_some (get_inserted contents.policies number text))

pub unless_leads : (next number : ℕ) (policy : Policy) (contents : Contents) → contents.versioned ≡ false
    → (has : Bool) → (has ≡ true → is_given number contents ≡ true)
    → after_changes (changes_unless has next number policy) contents ≡ Some (set_in has next number policy contents)
unless_leads next number policy contents plain true given = meta_leads next number contents plain (given refl)
unless_leads next number policy contents plain false given =
    meta_leads next number (with_change (change.Policy number (normal_text policy)) contents) plain
    (given_by number (normal_text policy) contents)

module _ (next number : ℕ) (policy : Policy) (contents : Contents) (some : 0 < next) (fits : next < 2 ^ 32) (few : number ≤ last_policy)
    (plain : contents.versioned ≡ false) (has : Bool) (given : has ≡ true → is_given number contents ≡ true) where
  pub parts_lead : after_parts (parts_unless has next number policy) contents ≡ Some (set_in has next number policy contents)
  parts_lead =
      said_leads (parts_unless has next number policy) (changes_unless has next number policy) contents
      (unless_said next number policy some fits few has)
      ∙ unless_leads next number policy contents plain has given

  pub parts_allowed : AreAllowed (parts_unless has next number policy) contents
  parts_allowed = (set_in has next number policy contents, parts_lead)

-- ---- the batch

pub not_empty : (has : Bool) (next number : ℕ) (policy : Policy) → parts_unless has next number policy ≢ []
not_empty true next number policy = λ e. absurd cc
not_empty false next number policy = λ e. absurd cc

pub no_deltas : (has : Bool) (next number : ℕ) (policy : Policy) (page : ℕ) → deltas_of page (parts_unless has next number policy) ≡ 0
no_deltas true next number policy page = refl
no_deltas false next number policy page = refl

-- ---- the next number

not_zero : (n : ℕ) → (n == 0) ≡ false → 0 < n
not_zero zero is = absurd cc
not_zero (suc n) is = omega arith

pub some_told : (next : ℕ) → 0 < next_told next
some_told next = by_test (next == 0) refl
  where
    by_test : (b : Bool) → (next == 0) ≡ b → 0 < (if b then 1 else next)
    by_test true is = omega arith
    by_test false is = not_zero next is

pub fits_told : (next : ℕ) → next < 2 ^ 32 → next_told next < 2 ^ 32
fits_told next fits = by_test (next == 0)
  where
    by_test : (b : Bool) → (if b then 1 else next) < 2 ^ 32
    by_test true = omega arith
    by_test false = fits

pub same_told : (next : ℕ) → 0 < next → next_told next ≡ next
same_told next some = by_test (next == 0) refl
  where
    by_test : (b : Bool) → (next == 0) ≡ b → (if b then 1 else next) ≡ next
    by_test true is = let zero : next ≡ 0 = eqb-true next 0 is in omega arith
    by_test false is = refl

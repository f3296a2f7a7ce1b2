use Rattle.std.proofs.Common.{◌≡◌, ℕ, zero, suc, ◌≤◌, Bool, true, false, List, [], ◌∷◌, ◌++◌, length, Option, Some, None, sym, subst, ap, refl, ◌∙◌, arith}
use Rattle.std.specs.Prelude.{◌==◌, if◌then◌else◌, is_some, option_and_then}
use Rattle.std.proofs.lemmas.Bool.{eqb-true}
use Rattle.ax_frame.specs.Part.{PartValue, AllFit}
use Rattle.ax_pages.specs.Contents.{Contents, TermPage, term_page}
use Rattle.ax_pages.specs.AfterPart.{kind_of, after_parts, after_base, is_base}
use Rattle.ax_store.specs.Kept.{Kept, deltas_by_kind, room_of}
use Rattle.ax_store.specs.Batch.{AreAllowed}
use Rattle.ax_store.specs.Putting.{AreWithin, CanTake}
use Rattle.ax_store.specs.Store.{store_contents, store_parts}
use Rattle.ax_store.proofs.CommitLemmas.{within_allowed}
use Rattle.ax_store.proofs.StoreLemmas.{agrees_same}
use Rattle.ax_store_tests.proofs.tests.commit_term_pages.Goals as goal

abbrev first_base : List ℕ
first_base = 0 ∷ 0 ∷ 7 ∷ []

abbrev second_base : List ℕ
second_base = 1 ∷ 98 ∷ 5 ∷ 8 ∷ []

abbrev three : List PartValue
three =
    record { kind = 5; key = 1; payload = second_base } ∷ record { kind = 6; key = 0; payload = 9 ∷ [] }
    ∷ record { kind = 6; key = 0; payload = 10 ∷ 11 ∷ [] } ∷ []

abbrev four : List PartValue
four = record { kind = 5; key = 0; payload = first_base } ∷ three

four_fit : AllFit four
four_fit = (
  record { key_fits = omega arith; payload_fits = omega arith },
  (
    record { key_fits = omega arith; payload_fits = omega arith },
    (record { key_fits = omega arith; payload_fits = omega arith }, (record { key_fits = omega arith; payload_fits = omega arith }, tt)),
  ),
)

-- a page without a base may have each pair
base_fits : (base : Option (List ℕ)) (deltas : List (List ℕ)) → is_some base ≡ false
    → is_base 0 first_base (record { base = base; deltas = deltas } ∷ []) ≡ true
base_fits None deltas none = refl
base_fits (Some payload) deltas none = absurd cc

within_one : (contents : Contents) (page : TermPage) → contents.terms ≡ page ∷ [] → is_some page.base ≡ false → AreWithin four contents
within_one contents page is none =
    let new : Contents = record contents {
      terms =
          record { base = Some first_base; deltas = (9 ∷ []) ∷ (10 ∷ 11 ∷ []) ∷ [] } ∷ record { base = Some second_base; deltas = [] } ∷ [];
    } in (
      new,
      ap
          (λ (terms : List TermPage). option_and_then (after_parts three)
          (if is_base 0 first_base terms then Some (record contents { terms = after_base 0 first_base terms }) else None))
          is
          ∙ ap
          (λ (b : Bool). option_and_then (after_parts three) (if b then Some (record contents { terms = after_base 0 first_base (page ∷ []) }) else None))
          (base_fits page.base page.deltas none),
    )

abbrev base_of : TermPage → Option (List ℕ)
base_of page = page.base

within : (contents : Contents) (terms : List TermPage) → contents.terms ≡ terms → length terms ≡ 1
    → is_some (base_of (term_page 0 terms)) ≡ false → AreWithin four contents
within contents [] is len none = absurd (omega (arith, len))
within contents (page ∷ []) is len none = within_one contents page is none
within contents (page ∷ other ∷ rest) is len none = absurd (omega (arith, len))

zero_apart : (n : ℕ) → (0 == suc n) ≡ false
zero_apart n = either (0 == suc n) refl
  where
    either : (b : Bool) → (0 == suc n) ≡ b → b ≡ false
    either true e = absurd (omega (arith, eqb-true 0 (suc n) e))
    either false e = refl

none_of_others : (n : ℕ) → deltas_by_kind (kind_of 6) 0 (suc n) ≡ 0
none_of_others n = ap (λ (b : Bool). if b then 1 else 0) (zero_apart n)

can_take : (kept : Kept) → 2 ≤ room_of 0 kept → CanTake four kept
can_take kept room zero = room
can_take kept room (suc n) = omega (arith, none_of_others n)

pub commit-requires-clause-within : goal.commit-requires-clause-within
commit-requires-clause-within g c =
    let first = c.in-Ok.ensures.ok ∙ (λ i. c.begin-batch.ensures.parts i ++ c.term_part-first_base.ensures i ∷ []) in
    let second = c.in-Ok-add.ensures.ok ∙ (λ i. first i ++ c.term_part-second_base.ensures i ∷ []) in
    let third = c.in-Ok-add-2.ensures.ok ∙ (λ i. second i ++ c.term_part-first_delta.ensures i ∷ []) in
    let fourth = c.in-Ok-add-3.ensures.ok ∙ (λ i. third i ++ c.term_part-second_delta.ensures i ∷ []) in
    subst (λ parts. AreAllowed parts (store_contents c.reserve_deltas.new.self)) (sym (c.in-Ok-seal.ensures.parts ∙ fourth))
    (within_allowed four (store_parts c.reserve_deltas.new.self) four_fit
    (within (store_parts c.reserve_deltas.new.self) c.args.store.now.pages.contents.terms
    (ap (λ (contents : Contents). contents.terms) (c.reserve_deltas.ensures.same.contents ∙ c.reserve.ensures.same.contents))
    (omega (arith, c.if-pages-ne1.false, c.pages.ensures))
    (sym c.has_base.ensures ∙ c.if-has_base.false)))

pub commit-requires-clause-deltas : goal.commit-requires-clause-deltas
commit-requires-clause-deltas g c =
    let first = c.in-Ok.ensures.ok ∙ (λ i. c.begin-batch.ensures.parts i ++ c.term_part-first_base.ensures i ∷ []) in
    let second = c.in-Ok-add.ensures.ok ∙ (λ i. first i ++ c.term_part-second_base.ensures i ∷ []) in
    let third = c.in-Ok-add-2.ensures.ok ∙ (λ i. second i ++ c.term_part-first_delta.ensures i ∷ []) in
    let fourth = c.in-Ok-add-3.ensures.ok ∙ (λ i. third i ++ c.term_part-second_delta.ensures i ∷ []) in
    subst (λ parts. CanTake parts c.reserve_deltas.new.self.pages) (sym (c.in-Ok-seal.ensures.parts ∙ fourth))
    (can_take c.reserve_deltas.new.self.pages c.in-Ok-reserve_deltas.ensures.room)

pub commit-requires-clause-agrees : goal.commit-requires-clause-agrees
commit-requires-clause-agrees g c = λ honest works.
    agrees_same g.C.PageCache.pages c.reserve.new.self c.reserve_deltas.new.self _ c.reserve_deltas.ensures.same
    (agrees_same g.C.PageCache.pages c.args.store.now c.reserve.new.self _ c.reserve.ensures.same (c.requires.agrees honest))

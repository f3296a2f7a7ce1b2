-- A payload is a count and the term changes.
use Rattle.std.proofs.Common.{◌≡◌, ℕ, ◌<◌, List, [], ◌∷◌, ◌++◌, length, arith, ap, ◌∙◌, sym, subst}
use Rattle.ax_gap.specs.Varint.{varint}
use Rattle.ax_delta.specs.Changes.{TermChange}
use Rattle.ax_delta.specs.ChangeList.{IsChangeList, HasChangeList}
use Rattle.ax_delta.specs.Payload.{list_after, delta, IsDelta, AreGood, AreAfter, AreTermChanges}
use Rattle.ax_delta.specs.Reading.{changes_in}
use Rattle.ax_delta.proofs.Read.{seen_as}

good_after : (last : List ℕ) (changes : List TermChange) → AreAfter last changes → AreGood changes
good_after last [] h = tt
good_after last (change ∷ changes) h = (h.1, good_after change.term changes h.2)

pub good : (changes : List TermChange) → AreTermChanges changes → AreGood changes
good [] h = tt
good (change ∷ changes) h = (h.0, good_after change.term changes h.1)

pub listed_seen : (count : ℕ) (bytes : List ℕ) (changes : List TermChange) → IsChangeList count bytes changes → changes_in count [] bytes ≡ changes
listed_seen count bytes changes is = seen_as [] bytes count changes (good changes is.are) is.counted is.spelled

pub listed : (count : ℕ) (bytes : List ℕ) → HasChangeList count bytes → IsChangeList count bytes (changes_in count [] bytes)
listed count bytes (changes, is) = subst (IsChangeList count bytes) (sym (listed_seen count bytes changes is)) is

-- ---- the parts of a payload

pub delta_parts : (bytes : List ℕ) (changes : List TermChange) → IsDelta bytes changes → bytes ≡ varint (length changes) ++ list_after [] changes
unfolding delta
delta_parts bytes changes is = is.spelled

pub list_of : (bytes list : List ℕ) (count : ℕ) (changes : List TermChange) → IsDelta bytes changes → count ≡ length changes → list ≡ list_after [] changes
    → IsChangeList count list changes
list_of bytes list count changes is e f = record { spelled = f; counted = sym e; are = is.are }

pub whole_delta : (bytes list : List ℕ) (count : ℕ) (changes : List TermChange) → bytes ≡ varint count ++ list → 0 < count → count < 4294967296
    → IsChangeList count list changes → IsDelta bytes changes
unfolding delta
whole_delta bytes list count changes e some few is = record {
  spelled = e ∙ ap (λ bs. varint count ++ bs) is.spelled ∙ ap (λ (n : ℕ). varint n ++ list_after [] changes) (sym is.counted);
  some = omega (arith, is.counted);
  count = omega (arith, is.counted);
  are = is.are;
}

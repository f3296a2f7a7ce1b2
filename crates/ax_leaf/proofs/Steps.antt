-- The postings of pairs are written one after another.
use Rattle.std.proofs.Common.{◌≡◌, ℕ, ◌+◌, ◌<◌, List, [], ◌∷◌, ◌++◌, length, arith, refl, ap, ◌∙◌, sym, true, false, subst}
use Rattle.std.proofs.lemmas.List.{append_assoc, append-nil}
use Rattle.std.specs.Str.{bytes_eq}
use Rattle.std.specs.List.Sorted.{IsStrictlyIncreasing}
use Rattle.ax_gap.specs.Gaps.{IsRisingList, gaps}
use Rattle.ax_pair.specs.declared.pair.Pair.{Pair}
use Rattle.ax_leaf.specs.Pairs.{Posting, postings_from, postings_of}
use Rattle.ax_leaf.specs.Payload.{IsPosting, AreGood, term_after, list_after}
use Rattle.ax_leaf.proofs.Grouping.{AreFit}

-- what is written, and the postings that are left, make the whole list
pub record IsUnderWay (old out last : List ℕ) (postings whole : List Posting) (count : ℕ) : Type 0 where
  pub written : out ++ list_after last postings ≡ old ++ list_after [] whole
  pub counted : count + length postings ≡ length whole
  pub fit : AreFit postings
  pub good : AreGood postings → AreGood whole

pub start : (p : Pair) (pairs rest : List Pair) → pairs ≡ p ∷ rest → postings_of pairs ≡ postings_from p.term (p.number ∷ []) rest
unfolding postings_of
start p pairs rest e = ap postings_of e

pub same_step : (term ns : List ℕ) (p : Pair) (pairs rest : List Pair) → pairs ≡ p ∷ rest → bytes_eq p.term term ≡ true
    → postings_from term ns pairs ≡ postings_from term (ns ++ p.number ∷ []) rest
unfolding postings_from
same_step term ns p pairs rest e h = ap (postings_from term ns) e ∙ rw h refl

pub other_step : (term ns : List ℕ) (p : Pair) (pairs rest : List Pair) → pairs ≡ p ∷ rest → bytes_eq p.term term ≡ false
    → postings_from term ns pairs ≡ record { term = term; numbers = ns } ∷ postings_from p.term (p.number ∷ []) rest
unfolding postings_from
other_step term ns p pairs rest e h = ap (postings_from term ns) e ∙ rw h refl

pub last_step : (term ns : List ℕ) (pairs : List Pair) → pairs ≡ [] → postings_from term ns pairs ≡ record { term = term; numbers = ns } ∷ []
unfolding postings_from
last_step term ns pairs e = ap (postings_from term ns) e

pub with_posting : (old out new last term ns : List ℕ) (postings whole : List Posting) (count : ℕ)
    → new ≡ out ++ term_after last term ++ gaps ns
    → IsPosting (record { term = term; numbers = ns })
    → IsUnderWay old out last (record { term = term; numbers = ns } ∷ postings) whole count
    → IsUnderWay old new term postings whole (count + 1)
unfolding list_after
with_posting old out new last term ns postings whole count e is was = record {
  written = ap (λ (bs : List ℕ). bs ++ list_after term postings) e
      ∙ append_assoc (out ++ term_after last term) (gaps ns) (list_after term postings)
      ∙ append_assoc out (term_after last term) (gaps ns ++ list_after term postings)
      ∙ again
      ∙ was.written;
  counted = omega (arith, was.counted);
  fit = was.fit.2;
  good = λ more. was.good (is, more);
}
  where
    again : out ++ (term_after last term ++ (gaps ns ++ list_after term postings)) ≡ out ++ list_after last (record { term = term; numbers = ns } ∷ postings)
    again = ap (λ (bs : List ℕ). out ++ bs) (sym (append_assoc (term_after last term) (gaps ns) (list_after term postings)))

pub at_end : (old out last : List ℕ) (whole : List Posting) (count : ℕ) → IsUnderWay old out last [] whole count → out ≡ old ++ list_after [] whole
unfolding list_after
at_end old out last whole count was = sym (append-nil out) ∙ was.written

pub nothing : (pairs : List Pair) → pairs ≡ [] → postings_of pairs ≡ []
unfolding postings_of
nothing pairs e = ap postings_of e

pub nothing_written : (old : List ℕ) (pairs : List Pair) → pairs ≡ [] → old ≡ old ++ list_after [] (postings_of pairs)
unfolding list_after
nothing_written old pairs e = sym (append-nil old) ∙ ap (λ es. old ++ list_after [] es) (sym (nothing pairs e))

-- the same, with the parts under other names
pub from_parts : (term other ns more : List ℕ) (rest : List Pair) → term ≡ other → ns ≡ more → postings_from term ns rest ≡ postings_from other more rest
from_parts term other ns more rest e f = rw (e, f) refl

pub fit_first : (term ns : List ℕ) (postings others : List Posting) → postings ≡ record { term = term; numbers = ns } ∷ others → AreFit postings
    → IsStrictlyIncreasing ns × (0 < length ns)
fit_first term ns postings others e h = let whole = subst AreFit e h in (whole.0, whole.1)

pub posting_from : (term ns slice : List ℕ) → slice ≡ ns → length term < 4294967296 → 0 < length slice → IsRisingList slice
    → IsPosting (record { term = term; numbers = ns })
posting_from term ns slice e short some rising = record { short = short; some = omega (arith, some, ap length e); rising = subst IsRisingList e rising }

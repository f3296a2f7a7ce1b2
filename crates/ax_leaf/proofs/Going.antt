-- A cursor goes from one posting to the next.
use Rattle.std.proofs.Common.{◌≡◌, ℕ, ◌-◌, ◌<◌, List, [], ◌∷◌, ◌++◌, length, arith, refl, ap, ◌∙◌, sym, subst}
use Rattle.ax_leaf.specs.Pairs.{Posting, pairs_with, pairs_of}
use Rattle.ax_leaf.specs.Payload.{list_after, AreGood}
use Rattle.ax_leaf.specs.Reading.{postings_in}
use Rattle.ax_leaf.specs.ShortTerm.{whole_term}
use Rattle.ax_leaf.specs.TermList.{Spells, Begins, IsTermList}
use Rattle.ax_leaf.proofs.Listed.{IsFirst, first_of, HasNoFirst, fits_first}
use Rattle.ax_leaf.proofs.Read.{seen_as, spells}
use Rattle.ax_leaf.proofs.Whole.{good}

-- behind the next posting, of this term
pub record Goes (last bytes term ns after : List ℕ) (count : ℕ) : Type 0 where
  pub is : Spells term (count - 1) after
  pub same : pairs_with term ns ++ pairs_of (postings_in (count - 1) term after) ≡ pairs_of (postings_in count last bytes)

goes : (last bytes : List ℕ) (shared : ℕ) (part ns after term : List ℕ) (count : ℕ) (postings : List Posting) → postings_in count last bytes ≡ postings
    → bytes ≡ list_after last postings → length postings ≡ count → AreGood postings → 0 < count
    → Begins bytes shared part ns after → term ≡ whole_term last shared part → Goes last bytes term ns after count
goes last bytes shared part ns after term count [] seen spelled counted are some begins e = absurd (omega arith)
goes last bytes shared part ns after term count (posting ∷ postings) seen spelled counted are some begins e =
    let first : IsFirst last shared part ns after posting postings = first_of last bytes shared part ns after posting postings begins are.0 spelled in
    let same : posting.term ≡ term = sym (e ∙ first.is) in
    let after_is : after ≡ list_after term postings = first.leaves ∙ ap (λ (t : List ℕ). list_after t postings) same in
    let others : postings_in (count - 1) term after ≡ postings = seen_as term after (count - 1) postings are.1 (omega arith) after_is in
    record {
      is = spells term after (count - 1) postings are.1 (omega arith) after_is;
      same = ap (λ (ps : List Posting). pairs_with term ns ++ pairs_of ps) others
          ∙ ap (λ (t : List ℕ). pairs_with t ns ++ pairs_of postings) (sym same)
          ∙ ap (λ (ms : List ℕ). pairs_with posting.term ms ++ pairs_of postings) first.has
          ∙ ap pairs_of (sym seen);
    }

pub goes_on : (last bytes : List ℕ) (shared : ℕ) (part ns after term : List ℕ) (count : ℕ) → Spells last count bytes → (count ≡ 0 → ⊥)
    → Begins bytes shared part ns after → term ≡ whole_term last shared part → Goes last bytes term ns after count
goes_on last bytes shared part ns after term count is some begins e =
    goes last bytes shared part ns after term count (postings_in count last bytes) refl is.spelled is.counted is.good (omega arith) begins e

-- a posting stands there
pub has_first : (last bytes : List ℕ) (count : ℕ) → Spells last count bytes → (count ≡ 0 → ⊥) → HasNoFirst bytes → ⊥
has_first last bytes count is some none = has (postings_in count last bytes) is.spelled is.counted is.good
  where
    has : (postings : List Posting) → bytes ≡ list_after last postings → length postings ≡ count → AreGood postings → ⊥
    has [] spelled counted are = some (sym counted)
    has (posting ∷ postings) spelled counted are = fits_first last bytes posting postings are.0 spelled none

pub spells_list : (last bytes : List ℕ) (count : ℕ) → last ≡ [] → IsTermList count bytes (postings_in count [] bytes) → Spells last count bytes
spells_list last bytes count e is =
    subst (λ (t : List ℕ). Spells t count bytes) (sym e)
    (record { spelled = is.spelled; counted = is.counted; good = good (postings_in count [] bytes) is.are })

-- The first change that is left, and what is left behind it.
use Rattle.std.proofs.Common.{◌≡◌, ℕ, ◌-◌, ◌<◌, List, [], ◌∷◌, ◌++◌, length, drop, arith, refl, ap, ◌∙◌, sym, subst, Bool, true, false, cond, nat_lt}
use Rattle.std.proofs.Common.{Option, Some, None}
use Rattle.std.specs.declared.cmp.Ordering.{Ordering}
use Rattle.ax_pair.specs.declared.pair.Pair.{Pair}
use Rattle.ax_pair.specs.Order.{pair_cmp}
use Rattle.ax_leaf.specs.ShortTerm.{whole_term}
use Rattle.ax_delta.specs.declared.change.Change.{Change}
use Rattle.ax_delta.specs.declared.changes_left.ChangesLeft.{ChangesLeft}
use Rattle.ax_delta.specs.Changes.{TermChange, change_at, add_among, changes_with, changes_of}
use Rattle.ax_delta.specs.ChangeList.{Begins, IsChangeList, Spells}
use Rattle.ax_delta.specs.Pass.{first_cmp}
use Rattle.ax_delta.specs.Payload.{list_after, AreGood}
use Rattle.ax_delta.specs.Reading.{changes_in}
use Rattle.ax_delta.specs.View.{changes_left, IsReady, first_number}
use Rattle.ax_delta.proofs.Listed.{IsFirst, first_of, HasNoFirst, fits_first}
use Rattle.ax_delta.proofs.Read.{seen_as, spells}
use Rattle.ax_delta.proofs.SamePair.{the_pair}
use Rattle.ax_delta.proofs.Whole.{good}

abbrev pub first_is : Bool → ℕ → Option (Bool × ℕ)
first_is add n = Some (add, n)

abbrev add_in : Option (Bool × ℕ) → Bool
add_in (Some x) = x.0
add_in _ = false

abbrev number_in : Option (Bool × ℕ) → ℕ
number_in (Some x) = x.1
number_in _ = 0

-- the numbers that are added without the first change, and those that are dropped
abbrev pub less_added : Bool → List ℕ → List ℕ
less_added true adds = drop 1 adds
less_added false adds = adds

abbrev pub less_dropped : Bool → List ℕ → List ℕ
less_dropped true drops = drops
less_dropped false drops = drop 1 drops

same_change : (term : List ℕ) (add other : Bool) (n m : ℕ) (rest more : List Change) → add ≡ other → n ≡ m → rest ≡ more
    → change_at other term m ∷ more ≡ change_at add term n ∷ rest
same_change term add other n m rest more e f g = rw (e, f, g) refl

pub with_first : (term adds drops : List ℕ) (add : Bool) (n : ℕ) → first_is add n ≡ first_number adds drops
    → changes_with term adds drops ≡ change_at add term n ∷ changes_with term (less_added add adds) (less_dropped add drops)
unfolding changes_with
with_first term [] [] add n e = absurd (cc)
with_first term [] (d ∷ drops) add n e =
    same_change term add false n d _ _ (ap add_in e) (ap number_in e)
    (ap (λ b. changes_with term (less_added b []) (less_dropped b (d ∷ drops))) (ap add_in e))
with_first term (m ∷ adds) [] add n e =
    same_change term add true n m _ _ (ap add_in e) (ap number_in e)
    (ap (λ b. changes_with term (less_added b (m ∷ adds)) (less_dropped b [])) (ap add_in e))
with_first term (m ∷ adds) (d ∷ drops) add n e =
    elim (nat_lt d m) as
    (λ b. first_is add n ≡ cond b (first_is false d) (first_is true m)
    → cond b (change_at false term d ∷ add_among term m (changes_with term adds) drops) (change_at true term m ∷ changes_with term adds (d ∷ drops))
    ≡ change_at add term n ∷ changes_with term (less_added add (m ∷ adds)) (less_dropped add (d ∷ drops))) [
      | true ↦ λ h.
          same_change term add false n d _ _ (ap add_in h) (ap number_in h)
          (ap (λ b. changes_with term (less_added b (m ∷ adds)) (less_dropped b (d ∷ drops))) (ap add_in h))
      | false ↦ λ h.
          same_change term add true n m _ _ (ap add_in h) (ap number_in h)
          (ap (λ b. changes_with term (less_added b (m ∷ adds)) (less_dropped b (d ∷ drops))) (ap add_in h))
    ] e

-- no numbers
pub record AreNone (adds drops : List ℕ) : Type 0 where
  pub first : adds ≡ []
  pub second : drops ≡ []

pub none_first : (adds drops : List ℕ) → None ≡ first_number adds drops → AreNone adds drops
none_first [] [] e = record { first = refl; second = refl }
none_first [] (d ∷ drops) e = absurd (cc)
none_first (n ∷ adds) [] e = absurd (cc)
none_first (n ∷ adds) (d ∷ drops) e =
    elim (nat_lt d n) as (λ b. None ≡ cond b (first_is false d) (first_is true n) → AreNone (n ∷ adds) (d ∷ drops))
    [ true ↦ λ h. absurd (cc) | false ↦ λ h. absurd (cc) ] e

pub nothing_with : (term adds drops : List ℕ) (more : List Change) → AreNone adds drops → changes_with term adds drops ++ more ≡ more
unfolding changes_with
nothing_with term adds drops more none = rw (none.first, none.second) refl

nothing_in : (count : ℕ) (last bytes : List ℕ) → count ≡ 0 → changes_of (changes_in count last bytes) ≡ []
unfolding changes_of changes_in
nothing_in count last bytes e = rw e refl

pub at_end : (c : ChangesLeft) → IsReady c → None ≡ first_number c.added c.dropped → changes_left c ≡ []
at_end c ready e =
    let none : AreNone c.added c.dropped = none_first c.added c.dropped e in
    nothing_with c.term.items c.added c.dropped (changes_of (changes_in c.count c.term.items c.rest.now)) none
    ∙ nothing_in c.count c.term.items c.rest.now (ready.reached none.first none.second)

-- the changes behind the first, which is of this kind and number
abbrev pub behind_first : ChangesLeft → Bool → List Change
behind_first c add =
    changes_with c.term.items (less_added add c.added) (less_dropped add c.dropped) ++ changes_of (changes_in c.count c.term.items c.rest.now)

pub next_is : (c : ChangesLeft) (add : Bool) (n : ℕ) → first_is add n ≡ first_number c.added c.dropped
    → changes_left c ≡ change_at add c.term.items n ∷ behind_first c add
next_is c add n e =
    ap (λ (cs : List Change). cs ++ changes_of (changes_in c.count c.term.items c.rest.now)) (with_first c.term.items c.added c.dropped add n e)

pub not_end : (c : ChangesLeft) (add : Bool) (n : ℕ) → first_is add n ≡ first_number c.added c.dropped → changes_left c ≡ [] → ⊥
not_end c add n e h =
    let next : changes_left c ≡ change_at add c.term.items n ∷ behind_first c add = next_is c add n e in
    let some : [] ≡ change_at add c.term.items n ∷ behind_first c add = sym h ∙ next in cc

pub took : (c : ChangesLeft) (add : Bool) (n : ℕ) → first_is add n ≡ first_number c.added c.dropped → behind_first c add ≡ drop 1 (changes_left c)
took c add n e = sym (ap (drop 1) (next_is c add n e))

pub cmp_it : (c : ChangesLeft) (add : Bool) (n : ℕ) (p : Pair) (o : Ordering) → first_is add n ≡ first_number c.added c.dropped
    → o ≡ pair_cmp (the_pair c.term.items n) p → Some o ≡ first_cmp (changes_left c) p
cmp_it c add n p o e f = ap (λ (r : Ordering). Some r) f ∙ sym (ap (λ cs. first_cmp cs p) (next_is c add n e))

-- ---- the next term

-- behind the next term change, of this term
pub record Goes (last bytes term adds drops after : List ℕ) (count : ℕ) : Type 0 where
  pub is : Spells term (count - 1) after
  pub same : changes_with term adds drops ++ changes_of (changes_in (count - 1) term after) ≡ changes_of (changes_in count last bytes)

same_with : (term other adds more drops less : List ℕ) (rest : List Change) → term ≡ other → adds ≡ more → drops ≡ less
    → changes_with term adds drops ++ rest ≡ changes_with other more less ++ rest
same_with term other adds more drops less rest e f g = rw (e, f, g) refl

goes : (last bytes : List ℕ) (shared : ℕ) (part adds drops after term : List ℕ) (count : ℕ) (changes : List TermChange) → changes_in count last bytes ≡ changes
    → bytes ≡ list_after last changes → length changes ≡ count → AreGood changes → 0 < count
    → Begins bytes shared part adds drops after → term ≡ whole_term last shared part → Goes last bytes term adds drops after count
unfolding changes_of
goes last bytes shared part adds drops after term count [] seen spelled counted are some begins e = absurd (omega arith)
goes last bytes shared part adds drops after term count (change ∷ changes) seen spelled counted are some begins e =
    let first : IsFirst last shared part adds drops after change changes =
    first_of last bytes shared part adds drops after change changes begins are.0 spelled in
    let same : change.term ≡ term = sym (e ∙ first.is) in
    let after_is : after ≡ list_after term changes = first.leaves ∙ ap (λ (t : List ℕ). list_after t changes) same in
    let others : changes_in (count - 1) term after ≡ changes = seen_as term after (count - 1) changes are.1 (omega arith) after_is in
    record {
      is = spells term after (count - 1) changes are.1 (omega arith) after_is;
      same = ap (λ (cs : List TermChange). changes_with term adds drops ++ changes_of cs) others
          ∙ same_with term change.term adds change.added drops change.dropped (changes_of changes) (sym same) first.has_added first.has_dropped
          ∙ ap changes_of (sym seen);
    }

pub goes_on : (last bytes : List ℕ) (shared : ℕ) (part adds drops after term : List ℕ) (count : ℕ) → Spells last count bytes → (count ≡ 0 → ⊥)
    → Begins bytes shared part adds drops after → term ≡ whole_term last shared part → Goes last bytes term adds drops after count
goes_on last bytes shared part adds drops after term count is some begins e =
    goes last bytes shared part adds drops after term count (changes_in count last bytes) refl is.spelled is.counted is.good (omega arith) begins e

-- a term change stands there
pub has_first : (last bytes : List ℕ) (count : ℕ) → Spells last count bytes → (count ≡ 0 → ⊥) → HasNoFirst bytes → ⊥
has_first last bytes count is some none = has (changes_in count last bytes) is.spelled is.counted is.good
  where
    has : (changes : List TermChange) → bytes ≡ list_after last changes → length changes ≡ count → AreGood changes → ⊥
    has [] spelled counted are = some (sym counted)
    has (change ∷ changes) spelled counted are = fits_first last bytes change changes are.0 spelled none

pub spells_list : (last bytes : List ℕ) (count : ℕ) → last ≡ [] → IsChangeList count bytes (changes_in count [] bytes) → Spells last count bytes
spells_list last bytes count e is =
    subst (λ (t : List ℕ). Spells t count bytes) (sym e)
    (record { spelled = is.spelled; counted = is.counted; good = good (changes_in count [] bytes) is.are })

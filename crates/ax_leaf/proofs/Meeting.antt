-- A term that a search meets, against the one that is sought: what each has in common with the term
-- before decides, and where that is as much, the bytes behind it.
use Rattle.std.proofs.Common.{◌≡◌, ℕ, ◌+◌, ◌<◌, ◌≤◌, List, [], ◌∷◌, ◌++◌, length, take, drop, arith, refl, ap, ◌∙◌, sym, cond, nat_eq, ⊎_elim, ◌⊎◌, cond}
use Rattle.std.proofs.lemmas.Bool.{eq-eqb, ne_eqb, cases_eq, cases_order, cases_lt}
use Rattle.std.proofs.lemmas.List.{length-take-le}
use Rattle.std.specs.Cmp.{nat_cmp_is}
use Rattle.std.specs.Cmp.Lexicographic.{slice_cmp}
use Rattle.std.specs.Ordering.{nat_cmp, ordering_reverse}
use Rattle.std.proofs.lemmas.Cmp.{nat_list_cmp_total, ranked}
use Rattle.std.specs.declared.cmp.Ordering.{Ordering}
use Rattle.std.specs.declared.cmp.Ordering.TheVariants.{Less, Equal, Greater}
use Rattle.ax_leaf.specs.Lookup.{IsUpTo, IsMet}
use Rattle.ax_leaf.specs.Payload.{common}
use Rattle.ax_leaf.specs.ShortTerm.{whole_term}
use Rattle.ax_leaf.proofs.Following.{cmp_behind, common_behind}
use Rattle.ax_leaf.proofs.OneSpelling as one

-- a term that has more in common with `last` than another has: it is before that other, which is
-- not before `last`
pub record IsBefore (last first other : List ℕ) : Type 0 where
  pub less : slice_cmp nat_cmp first other ≡ Less
  pub alike : common first other ≡ common last other

apart_at : (x z : ℕ) (last other : List ℕ) → (x ≡ z → ⊥) → IsUpTo (x ∷ last) (z ∷ other) → nat_cmp x z ≡ Less
apart_at x z last other apart up =
    ⊎_elim
    (λ (e : x ≡ z). absurd (apart e))
    (λ (o : (x < z) ⊎ (z < x)).
    ⊎_elim (λ (l : x < z). sym (nat_cmp_is x z Less l))
    (λ (l : z < x). absurd (up (rw (sym (nat_cmp_is x z Greater l)) refl)))
    o)
    (cases_order x z)

pub shares_more : (last first other : List ℕ) → common last other < common last first → IsUpTo last other → IsBefore last first other
shares_more [] first other l up = absurd (omega arith)
shares_more (x ∷ last) [] other l up = absurd (omega arith)
shares_more (x ∷ last) (y ∷ first) [] l up = absurd (up refl)
shares_more (x ∷ last) (y ∷ first) (z ∷ other) l up =
    ⊎_elim
    (λ (e : x ≡ y).
    ⊎_elim
    (λ (f : x ≡ z).
    let few : 1 + common last other < 1 + common last first = rw (eq-eqb x z f, eq-eqb x y e) at l in
    let more : IsBefore last first other = shares_more last first other (omega arith) (λ g. up (rw (sym (nat_cmp_is x z Equal f)) g)) in
    let same : y ≡ z = sym e ∙ f in
    let is : IsBefore (x ∷ last) (y ∷ first) (z ∷ other) = record {
      less = rw (sym (nat_cmp_is y z Equal same)) more.less;
      alike = rw (eq-eqb y z same, eq-eqb x z f) (ap (λ (n : ℕ). 1 + n) more.alike);
    }
    in is)
    (λ (f : x ≡ z → ⊥).
    let is : IsBefore (x ∷ last) (y ∷ first) (z ∷ other) = record {
      less = rw (ap (λ (n : ℕ). nat_cmp n z) (sym e) ∙ apart_at x z last other f up) refl;
      alike = rw (ne_eqb y z (λ g. f (e ∙ g)), ne_eqb x z f) refl;
    }
    in is)
    (cases_eq x z))
    (λ (e : x ≡ y → ⊥).
    let none : cond (nat_eq x z) (1 + common last other) 0 < 0 = rw (ne_eqb x y e) at l in
    absurd (omega arith))
    (cases_eq x y)

-- as much in common: the bytes behind it decide
pub same_front : (last sought : List ℕ) (matched : ℕ) → matched ≤ length last → common last sought ≡ matched → sought ≡ take matched last ++ drop matched sought
same_front last sought matched l e = one.whole_term last sought ∙ ap (λ (n : ℕ). take n last ++ drop n sought) e

module _ (last sought : List ℕ) (matched shared : ℕ) (rest : List ℕ) (met : IsMet last sought matched shared rest) where
  pub met_before : matched < shared → IsBefore last (whole_term last shared rest) sought
  met_before l = shares_more last (whole_term last shared rest) sought (omega (arith, met.matches, met.longest)) met.below

  pub met_behind : shared < matched → slice_cmp nat_cmp sought (whole_term last shared rest) ≡ Less
  met_behind l = (shares_more last sought (whole_term last shared rest) (omega (arith, met.matches, met.longest)) met.rises).less

  pub met_alike : matched ≡ shared → slice_cmp nat_cmp (whole_term last shared rest) sought ≡ slice_cmp nat_cmp rest (drop matched sought)
  met_alike e =
      ap (slice_cmp nat_cmp (whole_term last shared rest)) (same_front last sought matched (omega (arith, met.within)) met.matches)
      ∙ ap (λ (n : ℕ). slice_cmp nat_cmp (whole_term last n rest) (take matched last ++ drop matched sought)) (sym e)
      ∙ cmp_behind (take matched last) rest (drop matched sought)

  pub met_common : matched ≡ shared → common (whole_term last shared rest) sought ≡ matched + common rest (drop matched sought)
  met_common e =
      ap (common (whole_term last shared rest)) (same_front last sought matched (omega (arith, met.within)) met.matches)
      ∙ ap (λ (n : ℕ). common (whole_term last n rest) (take matched last ++ drop matched sought)) (sym e)
      ∙ common_behind (take matched last) rest (drop matched sought)
      ∙ ap (λ (n : ℕ). n + common rest (drop matched sought)) (length-take-le matched last (omega (arith, met.within)))

-- the comparison the other way round
pub after_from : (a b : List ℕ) → slice_cmp nat_cmp b a ≡ Less → slice_cmp nat_cmp a b ≡ Greater
after_from a b h = nat_list_cmp_total.antisymm a b ∙ ap ordering_reverse h

-- a term that is before the one that is sought shares no fewer bytes than that has
pub met_up_to : (last sought : List ℕ) (matched shared : ℕ) (rest : List ℕ) → IsMet last sought matched shared rest
    → slice_cmp nat_cmp (whole_term last shared rest) sought ≡ Less → matched ≤ shared
met_up_to last sought matched shared rest met less =
    ⊎_elim
    (λ (l : shared < matched).
    let greater : slice_cmp nat_cmp (whole_term last shared rest) sought ≡ Greater =
    after_from (whole_term last shared rest) sought (met_behind last sought matched shared rest met l) in
    absurd (cc))
    (λ (l : matched ≤ shared). l)
    (cases_lt shared matched)

-- the same, by how the two numbers compare
pub met_less : (last sought : List ℕ) (matched shared : ℕ) (rest : List ℕ) → IsMet last sought matched shared rest → Less ≡ nat_cmp matched shared
    → Less ≡ slice_cmp nat_cmp (whole_term last shared rest) sought
met_less last sought matched shared rest met e = sym (met_before last sought matched shared rest met (ranked matched shared Less e)).less

pub met_equal : (last sought : List ℕ) (matched shared : ℕ) (rest behind : List ℕ) (r : Ordering) → IsMet last sought matched shared rest
    → Equal ≡ nat_cmp matched shared
    → behind ≡ drop matched sought → r ≡ slice_cmp nat_cmp rest behind → r ≡ slice_cmp nat_cmp (whole_term last shared rest) sought
met_equal last sought matched shared rest behind r met e f g =
    g ∙ ap (slice_cmp nat_cmp rest) f ∙ sym (met_alike last sought matched shared rest met (ranked matched shared Equal e))

pub met_greater : (last sought : List ℕ) (matched shared : ℕ) (rest : List ℕ) → IsMet last sought matched shared rest → Greater ≡ nat_cmp matched shared
    → Greater ≡ slice_cmp nat_cmp (whole_term last shared rest) sought
met_greater last sought matched shared rest met e =
    sym (after_from (whole_term last shared rest) sought (met_behind last sought matched shared rest met (ranked matched shared Greater e)))

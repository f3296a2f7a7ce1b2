-- What is reached in a listing behind one entry more, and whether the rest is a listing where the whole is one.
use Rattle.std.proofs.Common.{◌≡◌, ◌↔◌, ℕ, ◌+◌, ◌-◌, ◌<◌, ◌≤◌, List, [], length, get_or, take, arith, refl, ap, ◌∙◌, sym, subst, zero, suc, add-one, cond}
use Rattle.std.proofs.Common.{nat_lt, ⊎_elim}
use Rattle.std.proofs.lemmas.Bool.{cases_lt, lt-ltb, le-ltb}
use Rattle.std.proofs.lemmas.List.{length-append, length-take-le, get_or_append_left, get_or-append_right, get_or-take}
use Rattle.ax_leaf.specs.Listing.{Beginning, IsNext, AreListed, IsFirst, IsListing, IsBehind, Reaches}
use Rattle.ax_leaf.specs.ShortTerm.{whole_term, Follows, HasFront}

-- the bytes begin with this entry alone
abbrev pub IsOnly : Beginning → List ℕ → ℕ → List ℕ → List ℕ → Type 0
IsOnly Begins bytes shared part after = (s : ℕ) (p a : List ℕ) → Begins bytes s p a → (shared ≡ s) × (part ≡ p) × (after ≡ a)

-- the bytes begin with none
abbrev pub HasNone : Beginning → List ℕ → Type 0
HasNone Begins bytes = (s : ℕ) (p a : List ℕ) → Begins bytes s p a → ⊥

-- a byte of a term that is written after another
byte_of_whole : (last : List ℕ) (shared position byte : ℕ) (part : List ℕ) → shared ≤ length last → byte ≡ get_or last position 0
    → cond (nat_lt position shared) byte (get_or part (position - shared) 0) ≡ get_or (whole_term last shared part) position 0
byte_of_whole last shared position byte part within e =
    let size : length (take shared last) ≡ shared = length-take-le shared last within in
    ⊎_elim
    (λ (l : position < shared). rw (lt-ltb position shared l)
    (e ∙ sym (get_or-take shared last position 0 l) ∙ sym (get_or_append_left (take shared last) part 0 position (omega arith))))
    (λ (l : shared ≤ position). rw (le-ltb position shared l) (sym (get_or-append_right (take shared last) part shared position 0 size l)))
    (cases_lt position shared)

-- ---- going over entries from the first on

-- the walk went over so many, and has the byte of the last term
abbrev pub IsWalked : Beginning → List ℕ → ℕ → List ℕ → ℕ → ℕ → Type 0
IsWalked Begins list k rest byte position =
    (term bytes : List ℕ) → Reaches Begins list k term bytes → (bytes ≡ rest) × (byte ≡ get_or term position 0)

pub walk_start : (Begins : Beginning) (list : List ℕ) (position : ℕ) → IsWalked Begins list 0 list 0 position
unfolding Reaches
walk_start Begins list position term bytes h = (h.1, ap (λ (t : List ℕ). get_or t position 0) (sym h.0))

pub walk_step : (Begins : Beginning) (list rest : List ℕ) (k byte position shared : ℕ) (part after : List ℕ) (new : ℕ)
    → IsWalked Begins list k rest byte position → IsOnly Begins rest shared part after
    → new ≡ cond (nat_lt position shared) byte (get_or part (position - shared) 0) → IsWalked Begins list (k + 1) after new position
unfolding Reaches
walk_step Begins list rest k byte position shared part after new was only e term bytes h =
    let there : IsBehind Begins (Reaches Begins list k) term bytes = subst (λ (n : ℕ). Reaches Begins list n term bytes) (add-one k) h in
    let before = was there.last there.from there.others in
    let one = only there.shared there.part bytes (subst (λ (bs : List ℕ). Begins bs there.shared there.part bytes) before.0 there.begins) in (
      sym one.2,
      e
          ∙ byte_of_whole there.last shared position byte part (omega (arith, there.within, one.0)) before.1
          ∙ ap (λ (n : ℕ). get_or (whole_term there.last n part) position 0) one.0
          ∙ ap (λ (p : List ℕ). get_or (whole_term there.last there.shared p) position 0) one.1
          ∙ ap (λ (t : List ℕ). get_or t position 0) (sym there.is),
    )

-- what is reached is reached behind fewer
reached_before : (Begins : Beginning) (list : List ℕ) (count k : ℕ) (term bytes : List ℕ) → k < count → Reaches Begins list count term bytes
    → (t : List ℕ) × (b : List ℕ) × IsBehind Begins (Reaches Begins list k) t b
unfolding Reaches
reached_before Begins list zero k term bytes l h = absurd (omega (arith, l))
reached_before Begins list (suc count) k term bytes l h =
    ⊎_elim
    (λ (less : k < count). reached_before Begins list count k h.last h.from less h.others)
    (λ (same : count ≤ k).
    let e : count ≡ k = omega (arith, l, same) in
    (term, bytes, subst (λ (n : ℕ). IsBehind Begins (Reaches Begins list n) term bytes) e h))
    (cases_lt k count)

pub walk_cut : (Begins : Beginning) (list rest : List ℕ) (k byte position count : ℕ) → IsWalked Begins list k rest byte position → HasNone Begins rest
    → k < count → (term bytes : List ℕ) → Reaches Begins list count term bytes → ⊥
walk_cut Begins list rest k byte position count was none l term bytes h =
    let (t, b, there) = reached_before Begins list count k term bytes l h in
    none there.shared there.part b
    (subst (λ (bs : List ℕ). Begins bs there.shared there.part b) (was there.last there.from there.others).0 there.begins)

-- ---- a listing, entry by entry

-- so many entries stand there, and the rest is a listing behind them where the whole is one
pub record IsUnderWay (Begins : Beginning) (list first behind rest front : List ℕ) (count k size : ℕ) : Type 0 where
  pub last : List ℕ
  pub reaches : Reaches Begins list k last rest
  pub sized : size ≡ length last
  pub has : HasFront front last
  pub same : AreListed Begins (count - k) last rest ↔ AreListed Begins (count - 1) first behind

pub set_out : (Begins : Beginning) (list first behind front : List ℕ) (count shared size : ℕ) → Begins list 0 first behind → shared ≡ 0
    → size ≡ length first → HasFront front (whole_term [] shared first) → IsUnderWay Begins list first behind behind front count 1 size
unfolding Reaches
set_out Begins list first behind front count shared size begins none sized has = record {
  last = first;
  reaches = record { last = []; from = list; shared = 0; part = first; others = (refl, refl); begins = begins; within = omega arith; is = refl };
  sized = sized;
  has = subst (λ (n : ℕ). HasFront front (whole_term [] n first)) none has;
  same = (λ h. h, λ h. h);
}

module _ (Begins : Beginning) (list first behind rest front : List ℕ) (count k size : ℕ)
    (was : IsUnderWay Begins list first behind rest front count k size) (l : k < count) where
  next_of : AreListed Begins (count - 1) first behind → IsNext Begins (AreListed Begins (count - (k + 1))) was.last rest
  unfolding AreListed
  next_of h =
      let one : count - k ≡ suc (count - (k + 1)) = omega (arith, l) in
      subst (λ (n : ℕ). AreListed Begins n was.last rest) one (was.same.1 h)

  pub no_more_there : HasNone Begins rest → AreListed Begins (count - 1) first behind → ⊥
  no_more_there none h = let next = next_of h in none next.shared next.part next.after next.begins

  module _ (shared : ℕ) (part after : List ℕ) (begins : Begins rest shared part after) (only : IsOnly Begins rest shared part after) where
    follows_of : IsNext Begins (AreListed Begins (count - (k + 1))) was.last rest → Follows was.last shared part
    follows_of next =
        let one = only next.shared next.part next.after next.begins in
        subst (λ (n : ℕ). Follows was.last n part) (sym one.0) (subst (λ (p : List ℕ). Follows was.last next.shared p) (sym one.1) next.follows)

    others_of : IsNext Begins (AreListed Begins (count - (k + 1))) was.last rest
        → AreListed Begins (count - (k + 1)) (whole_term was.last shared part) after
    others_of next =
        let one = only next.shared next.part next.after next.begins in
        subst (λ (n : ℕ). AreListed Begins (count - (k + 1)) (whole_term was.last n part) after) (sym one.0)
        (subst (λ (p : List ℕ). AreListed Begins (count - (k + 1)) (whole_term was.last next.shared p) after) (sym one.1)
        (subst (λ (a : List ℕ). AreListed Begins (count - (k + 1)) (whole_term was.last next.shared next.part) a) (sym one.2) next.others))

    pub no_step : (Follows was.last shared part → ⊥) → AreListed Begins (count - 1) first behind → ⊥
    no_step not h = not (follows_of (next_of h))

    pub goes_on : (new : List ℕ) → Follows was.last shared part
        → ((last : List ℕ) → HasFront front last → shared ≤ length last → HasFront new (whole_term last shared part))
        → IsUnderWay Begins list first behind after new count (k + 1) (shared + length part)
    unfolding Reaches AreListed
    goes_on new follows kept =
        let there : Reaches Begins list (suc k) (whole_term was.last shared part) after = record {
          last = was.last;
          from = rest;
          shared = shared;
          part = part;
          others = was.reaches;
          begins = begins;
          within = follows.within;
          is = refl;
        }
        in
        let more : suc (count - (k + 1)) ≡ count - k = omega (arith, l) in
        record {
          last = whole_term was.last shared part;
          reaches = subst (λ (n : ℕ). Reaches Begins list n (whole_term was.last shared part) after) (sym (add-one k)) there;
          sized = omega (arith, length-append (take shared was.last) part, length-take-le shared was.last follows.within);
          has = kept was.last was.has follows.within;
          same = (
            λ h.
                let next : AreListed Begins (suc (count - (k + 1))) was.last rest =
                record { shared = shared; part = part; after = after; begins = begins; follows = follows; others = h }
                in was.same.0 (subst (λ (n : ℕ). AreListed Begins n was.last rest) more next),
            λ h. others_of (next_of h),
          );
        }

pub is_done : (Begins : Beginning) (list first behind rest front : List ℕ) (count k size : ℕ)
    → IsUnderWay Begins list first behind rest front count k size → count ≤ k → (rest ≡ []) ↔ AreListed Begins (count - 1) first behind
unfolding AreListed
is_done Begins list first behind rest front count k size was l =
    let none : count - k ≡ 0 = omega (arith, l) in (
      λ e. was.same.0 (subst (λ (n : ℕ). AreListed Begins n was.last rest) (sym none) e),
      λ h. subst (λ (n : ℕ). AreListed Begins n was.last rest) none (was.same.1 h),
    )

-- ---- the first

first_of : (Begins : Beginning) (count : ℕ) (list : List ℕ) → 0 < count → IsListing Begins count list → IsFirst Begins (count - 1) list
unfolding IsListing
first_of Begins count list some h =
    let one : count ≡ suc (count - 1) = omega (arith, some) in
    subst (λ (n : ℕ). IsListing Begins n list) one h

pub listed_none : (Begins : Beginning) (count : ℕ) (list : List ℕ) → count ≡ 0 → (list ≡ []) ↔ IsListing Begins count list
unfolding IsListing
listed_none Begins count list none = (
  λ e. subst (λ (n : ℕ). IsListing Begins n list) (sym none) e,
  λ h. subst (λ (n : ℕ). IsListing Begins n list) none h,
)

pub no_first : (Begins : Beginning) (count : ℕ) (list : List ℕ) → 0 < count → HasNone Begins list → IsListing Begins count list → ⊥
no_first Begins count list some none h = let first = first_of Begins count list some h in none 0 first.part first.after first.begins

pub first_shares : (Begins : Beginning) (count : ℕ) (list : List ℕ) (shared : ℕ) (part after : List ℕ) → 0 < count → IsOnly Begins list shared part after
    → IsListing Begins count list → shared ≡ 0
first_shares Begins count list shared part after some only h =
    let first = first_of Begins count list some h in (only 0 first.part first.after first.begins).0

pub listed_behind : (Begins : Beginning) (count : ℕ) (list : List ℕ) (shared : ℕ) (part after : List ℕ) → 0 < count → shared ≡ 0
    → Begins list shared part after → IsOnly Begins list shared part after → AreListed Begins (count - 1) part after ↔ IsListing Begins count list
unfolding IsListing
listed_behind Begins count list shared part after some none begins only =
    let more : suc (count - 1) ≡ count = omega (arith, some) in (
      λ h.
          let first : IsListing Begins (suc (count - 1)) list =
          record { part = part; after = after; begins = subst (λ (n : ℕ). Begins list n part after) none begins; others = h }
          in subst (λ (n : ℕ). IsListing Begins n list) more first,
      λ h.
          let first = first_of Begins count list some h in
          let one = only 0 first.part first.after first.begins in
          subst (λ (p : List ℕ). AreListed Begins (count - 1) p after) (sym one.1)
          (subst (λ (a : List ℕ). AreListed Begins (count - 1) first.part a) (sym one.2) first.others),
    )

-- Whether a term that is written after another comes after it: one byte decides.
use Rattle.std.proofs.Common.{◌≡◌, ◌↔◌, ℕ, ◌+◌, ◌<◌, ◌≤◌, List, [], ◌∷◌, ◌++◌, length, take, drop, arith, refl, ap, ◌∙◌, sym, subst, Option}
use Rattle.std.proofs.Common.{slice_get, zero, suc, ⊎_elim, ◌⊎◌}
use Rattle.std.proofs.lemmas.Bool.{eq-eqb, ne_eqb, cases_order}
use Rattle.std.proofs.lemmas.List.{length-take-le, take-append-drop}
use Rattle.std.specs.Cmp.{nat_cmp_is}
use Rattle.std.specs.Cmp.Lexicographic.{slice_cmp}
use Rattle.std.specs.Ordering.{nat_cmp}
use Rattle.std.specs.declared.cmp.Ordering.TheVariants.{Less, Equal, Greater}
use Rattle.ax_leaf.specs.Payload.{common}
use Rattle.ax_leaf.specs.ShortTerm.{whole_term, Exceeds, Follows}

-- ---- bytes that both have in front decide nothing

pub cmp_behind : (front xs ys : List ℕ) → slice_cmp nat_cmp (front ++ xs) (front ++ ys) ≡ slice_cmp nat_cmp xs ys
cmp_behind [] xs ys = refl
cmp_behind (x ∷ front) xs ys = rw (sym (nat_cmp_is x x Equal refl)) (cmp_behind front xs ys)

pub common_behind : (front xs ys : List ℕ) → common (front ++ xs) (front ++ ys) ≡ length front + common xs ys
common_behind [] xs ys = omega arith
common_behind (x ∷ front) xs ys = rw (eq-eqb x x refl) (omega (arith, common_behind front xs ys))

cmp_whole : (last : List ℕ) (shared : ℕ) (rest : List ℕ) → slice_cmp nat_cmp last (whole_term last shared rest) ≡ slice_cmp nat_cmp (drop shared last) rest
cmp_whole last shared rest =
    ap (λ (bs : List ℕ). slice_cmp nat_cmp bs (whole_term last shared rest)) (sym (take-append-drop shared last))
    ∙ cmp_behind (take shared last) (drop shared last) rest

common_whole : (last : List ℕ) (shared : ℕ) (rest : List ℕ) → shared ≤ length last
    → common last (whole_term last shared rest) ≡ shared + common (drop shared last) rest
common_whole last shared rest h =
    ap (λ (bs : List ℕ). common bs (whole_term last shared rest)) (sym (take-append-drop shared last))
    ∙ common_behind (take shared last) (drop shared last) rest
    ∙ ap (λ (n : ℕ). n + common (drop shared last) rest) (length-take-le shared last h)

-- ---- the byte behind what is shared

-- the rest comes after what is behind the shared bytes, by its first byte
abbrev Beats : List ℕ → List ℕ → Type 0
Beats xs rest = Exceeds rest (slice_get xs 0)

beats : (xs rest : List ℕ) → Beats xs rest → (slice_cmp nat_cmp xs rest ≡ Less) × (common xs rest ≡ 0)
beats xs [] h = absurd h
beats [] (b ∷ rest) h = (refl, refl)
beats (x ∷ xs) (b ∷ rest) h = (
  rw (sym (nat_cmp_is x b Less h)) refl,
  rw (ne_eqb x b (λ e. omega arith)) refl,
)

beaten : (xs rest : List ℕ) → slice_cmp nat_cmp xs rest ≡ Less → common xs rest ≡ 0 → Beats xs rest
beaten [] [] h k = absurd (cc)
beaten (x ∷ xs) [] h k = absurd (cc)
beaten [] (b ∷ rest) h k = tt
beaten (x ∷ xs) (b ∷ rest) h k =
    ⊎_elim
    (λ (e : x ≡ b). let one : 1 + common xs rest ≡ 0 = rw (eq-eqb x b e) at k in absurd (omega arith))
    (λ (o : (x < b) ⊎ (b < x)).
    ⊎_elim (λ (l : x < b). l)
    (λ (l : b < x).
    let other : Greater ≡ nat_cmp x b = nat_cmp_is x b Greater l in
    let greater : Greater ≡ Less = rw (sym other) at h in absurd (cc))
    o)
    (cases_order x b)

-- the byte of `last` behind the shared ones
first_behind : (last : List ℕ) (shared : ℕ) → slice_get (drop shared last) 0 ≡ slice_get last shared
first_behind last zero = refl
first_behind [] (suc shared) = refl
first_behind (x ∷ last) (suc shared) = first_behind last shared

-- ---- the test of the code

pub follows_where : (last : List ℕ) (shared : ℕ) (rest : List ℕ) (byte : Option ℕ) → byte ≡ slice_get last shared → shared ≤ length last
    → shared + length rest < 4294967296
    → Exceeds rest byte ↔ Follows last shared rest
follows_where last shared rest byte e within short =
    let same : byte ≡ slice_get (drop shared last) 0 = e ∙ sym (first_behind last shared) in (
      λ h.
          let both = beats (drop shared last) rest (subst (Exceeds rest) same h) in
          let is : Follows last shared rest = record {
            within = within;
            short = short;
            after = cmp_whole last shared rest ∙ both.0;
            longest = common_whole last shared rest within ∙ omega (arith, both.1);
          }
          in is,
      λ h. subst (Exceeds rest) (sym same)
          (beaten (drop shared last) rest (sym (cmp_whole last shared rest) ∙ h.after) (omega (arith, common_whole last shared rest h.within, h.longest))),
    )

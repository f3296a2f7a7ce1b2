-- The postings of rising pairs have terms that rise.
use Rattle.std.proofs.Common.{◌≡◌, ℕ, List, [], ◌∷◌, ◌++◌, refl, ap, ◌∙◌, sym, true, false, cond}
use Rattle.std.proofs.lemmas.Slice.Eq.{bytes_eq-Decides}
use Rattle.std.specs.FinMap.{slice_cmp-IsAntisymmetric, nat_cmp-IsAntisymmetric}
use Rattle.std.specs.Str.{bytes_eq}
use Rattle.std.specs.declared.cmp.Ordering.{Ordering}
use Rattle.std.specs.declared.cmp.Ordering.TheVariants.{Less, Equal, Greater}
use Rattle.std.specs.Ordering.{nat_cmp, ordering_then}
use Rattle.std.specs.Cmp.Lexicographic.{slice_cmp}
use Rattle.ax_pair.specs.declared.pair.Pair.{Pair}
use Rattle.ax_pair.specs.Order.{pair_cmp, Rise, RiseAfter}
use Rattle.ax_leaf.specs.Pairs.{Posting, postings_from, postings_of}
use Rattle.ax_leaf.specs.Payload.{AreGood, AreAfter, ArePostings}

pub first_decides : (o r : Ordering) → (o ≡ Equal → ⊥) → ordering_then o r ≡ Less → o ≡ Less
first_decides Less r apart h = refl
first_decides Equal r apart h = absurd (apart refl)
first_decides Greater r apart h = absurd (cc)

pub differ : (a b : List ℕ) → bytes_eq a b ≡ false → a ≡ b → ⊥
differ a b h e = let k : bytes_eq a b ≡ true = (bytes_eq-Decides a b).1 e in absurd (cc)

pub terms_rise : (term : List ℕ) (p q : Pair) → p.term ≡ term → bytes_eq q.term term ≡ false → pair_cmp p q ≡ Less → slice_cmp nat_cmp term q.term ≡ Less
terms_rise term p q e h less =
    ap (λ (bs : List ℕ). slice_cmp nat_cmp bs q.term) (sym e)
    ∙ first_decides (slice_cmp nat_cmp p.term q.term) (nat_cmp p.number q.number)
    (λ same. differ q.term term h (sym (slice_cmp-IsAntisymmetric nat_cmp-IsAntisymmetric p.term q.term same) ∙ e))
    less

-- the first of the terms is after `last`
abbrev Heads : List ℕ → List Posting → Type 0
Heads last [] = Unit {0}
Heads last (posting ∷ postings) = slice_cmp nat_cmp last posting.term ≡ Less

heads_from : (last term ns : List ℕ) (pairs : List Pair) → slice_cmp nat_cmp last term ≡ Less → Heads last (postings_from term ns pairs)
unfolding postings_from
heads_from last term ns [] h = h
heads_from last term ns (q ∷ pairs) h =
    elim (bytes_eq q.term term) as
    (λ b. Heads last (cond b (postings_from term (ns ++ q.number ∷ []) pairs)
    (record { term = term; numbers = ns } ∷ postings_from q.term (q.number ∷ []) pairs)))
    [ true ↦ heads_from last term (ns ++ q.number ∷ []) pairs h | false ↦ h ]

after_of : (last : List ℕ) (postings : List Posting) → Heads last postings → ArePostings postings → AreAfter last postings
after_of last [] h k = tt
after_of last (posting ∷ postings) h k = (h, k.0, k.1)

ordered_from : (term ns : List ℕ) (p : Pair) (pairs : List Pair) → p.term ≡ term → RiseAfter p pairs → AreGood (postings_from term ns pairs)
    → ArePostings (postings_from term ns pairs)
unfolding postings_from
ordered_from term ns p [] e rise good = (good.0, tt)
ordered_from term ns p (q ∷ pairs) e rise good =
    elim (bytes_eq q.term term) as
    (λ b. bytes_eq q.term term ≡ b
    → AreGood (cond b (postings_from term (ns ++ q.number ∷ []) pairs) (record { term = term; numbers = ns } ∷ postings_from q.term (q.number ∷ []) pairs))
    → ArePostings (cond b (postings_from term (ns ++ q.number ∷ []) pairs)
    (record { term = term; numbers = ns } ∷ postings_from q.term (q.number ∷ []) pairs))) [
      | true ↦ λ h g. ordered_from term (ns ++ q.number ∷ []) q pairs ((bytes_eq-Decides q.term term).0 h) rise.1 g
      | false ↦ λ h g. (
        g.0,
        after_of term (postings_from q.term (q.number ∷ []) pairs)
            (heads_from term q.term (q.number ∷ []) pairs (terms_rise term p q e h rise.0))
            (ordered_from q.term (q.number ∷ []) q pairs refl rise.1 g.1),
      )
    ] refl good

pub ordered : (pairs : List Pair) → Rise pairs → AreGood (postings_of pairs) → ArePostings (postings_of pairs)
unfolding postings_of
ordered [] rise good = tt
ordered (p ∷ pairs) rise good = ordered_from p.term (p.number ∷ []) p pairs refl rise good

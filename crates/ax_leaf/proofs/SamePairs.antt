-- The postings of pairs hold these pairs, in order.
use Rattle.std.proofs.Common.{◌≡◌, ℕ, List, [], ◌∷◌, ◌++◌, refl, ap, ◌∙◌, sym, true, false, cond}
use Rattle.std.proofs.lemmas.List.{append_assoc}
use Rattle.std.proofs.lemmas.Slice.Eq.{bytes_eq-Decides}
use Rattle.std.specs.Str.{bytes_eq}
use Rattle.ax_pair.specs.declared.pair.Pair.{Pair}
use Rattle.ax_leaf.specs.Pairs.{pairs_with, pairs_of, postings_from, postings_of}

with_more : (term ns : List ℕ) (p : Pair) → p.term ≡ term → pairs_with term (ns ++ p.number ∷ []) ≡ pairs_with term ns ++ p ∷ []
with_more term [] p e = ap (λ (bs : List ℕ). pairs_with bs (p.number ∷ [])) (sym e)
with_more term (n ∷ ns) p e = ap (λ (ps : List Pair). record { term = term; number = n } ∷ ps) (with_more term ns p e)

made_from : (term ns : List ℕ) (pairs : List Pair) → pairs_of (postings_from term ns pairs) ≡ pairs_with term ns ++ pairs
unfolding postings_from
made_from term ns [] = refl
made_from term ns (p ∷ pairs) =
    elim (bytes_eq p.term term) as
    (λ b. bytes_eq p.term term ≡ b → pairs_of (cond b (postings_from term (ns ++ p.number ∷ []) pairs)
    (record { term = term; numbers = ns } ∷ postings_from p.term (p.number ∷ []) pairs)) ≡ pairs_with term ns ++ p ∷ pairs) [
      | true ↦ λ h.
          made_from term (ns ++ p.number ∷ []) pairs
          ∙ ap (λ (ps : List Pair). ps ++ pairs) (with_more term ns p ((bytes_eq-Decides p.term term).0 h))
          ∙ append_assoc (pairs_with term ns) (p ∷ []) pairs
      | false ↦ λ h. ap (λ (ps : List Pair). pairs_with term ns ++ ps) (made_from p.term (p.number ∷ []) pairs)
    ] refl

pub same_pairs : (pairs : List Pair) → pairs_of (postings_of pairs) ≡ pairs
unfolding postings_of
same_pairs [] = refl
same_pairs (p ∷ pairs) = made_from p.term (p.number ∷ []) pairs

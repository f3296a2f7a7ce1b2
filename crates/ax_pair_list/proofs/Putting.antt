-- A pair put at the end of a list: the pairs before it stay, whatever bytes come behind theirs.
use Rattle.std.proofs.Common.{◌≡◌, ℕ, ◌-◌, ◌≤◌, List, [], ◌∷◌, ◌++◌, length, take, drop, All, arith, refl, ap, ◌∙◌}
use Rattle.std.proofs.lemmas.List.{length-append, take-append-le, drop-append-le, length-drop, take_all, drop_at, map-append}
use Rattle.std.proofs.lemmas.List.Elements.{All-head, All-tail}
use Rattle.ax_pair.specs.declared.pair.Pair.{Pair}
use Rattle.ax_pair.proofs.PairOrder.{the_pair}
use Rattle.ax_pair_list.specs.declared.pair_list.Entry.{Entry}
use Rattle.ax_pair_list.specs.View.{bytes_between, pair_of, pairs_of, IsWithin}

-- bytes that come behind do not change what stands between two places before them
same_between : (start end : ℕ) (terms more : List ℕ) → start ≤ end → end ≤ length terms
    → bytes_between start end (terms ++ more) ≡ bytes_between start end terms
same_between start end terms more h k =
    ap (take (end - start)) (drop-append-le start terms more (omega (arith, h, k)))
    ∙ take-append-le (end - start) (drop start terms) more (omega (arith, h, k, length-drop start terms))

pub same_pairs : (terms more : List ℕ) (entries : List Entry) → All (IsWithin (length terms)) entries
    → pairs_of (terms ++ more) entries ≡ pairs_of terms entries
same_pairs terms more [] all = refl
same_pairs terms more (e ∷ entries) all =
    let within : IsWithin (length terms) e = All-head (IsWithin (length terms)) e entries all in
    rw (same_between e.start e.end terms more within.0 within.1, same_pairs terms more entries (All-tail (IsWithin (length terms)) e entries all)) refl

-- what was put at the end stands there
pub put_between : (terms term : List ℕ) → bytes_between (length terms) (length (terms ++ term)) (terms ++ term) ≡ term
put_between terms term =
    ap (take (length (terms ++ term) - length terms)) (drop_at terms term (length terms) refl)
    ∙ ap (λ (n : ℕ). take n term) (omega (arith, length-append terms term)) ∙ take_all (length term) term (omega arith)

pub pairs_put : (terms term new : List ℕ) (entries : List Entry) (start end number : ℕ) → All (IsWithin (length terms)) entries
    → new ≡ terms ++ term → start ≡ length terms → end ≡ length new
    → pairs_of new (entries ++ record { start = start; end = end; number = number } ∷ []) ≡ pairs_of terms entries ++ the_pair term number ∷ []
pairs_put terms term new entries start end number all is first last =
    let put : Entry = record { start = start; end = end; number = number } in
    map-append (pair_of new) entries (put ∷ [])
    ∙ ap (λ (ps : List Pair). ps ++ pair_of new put ∷ []) (ap (λ (bs : List ℕ). pairs_of bs entries) is ∙ same_pairs terms term entries all)
    ∙ ap (λ (bs : List ℕ). pairs_of terms entries ++ the_pair bs number ∷ [])
    (ap (λ (n : ℕ). bytes_between n end new) first ∙ ap (λ (n : ℕ). bytes_between (length terms) n new) last
    ∙ ap (λ (bs : List ℕ). bytes_between (length terms) (length bs) bs) is ∙ put_between terms term)

-- A pair put between others, and one taken out: the others stay, whatever bytes come behind theirs.
use Rattle.std.proofs.Common.{◌≡◌, ℕ, suc, List, ◌∷◌, ◌++◌, length, take, drop, All, ap, ◌∙◌, sym}
use Rattle.std.specs.List.{insert, remove}
use Rattle.std.proofs.lemmas.List.{map-append, take-map, drop-map}
use Rattle.std.proofs.lemmas.List.Elements.{All-append, All-take, All-drop}
use Rattle.ax_pair.specs.declared.pair.Pair.{Pair}
use Rattle.ax_pair.proofs.PairOrder.{the_pair}
use Rattle.ax_pair_list.specs.declared.pair_list.Entry.{Entry}
use Rattle.ax_pair_list.specs.View.{bytes_between, pair_of, pairs_of, IsWithin}
use Rattle.ax_pair_list.proofs.Putting.{same_pairs, put_between}

pub pairs_inserted : (terms term new : List ℕ) (entries : List Entry) (start end number at : ℕ) → All (IsWithin (length terms)) entries
    → new ≡ terms ++ term → start ≡ length terms → end ≡ length new
    → pairs_of new (insert entries at (record { start = start; end = end; number = number })) ≡ insert (pairs_of terms entries) at (the_pair term number)
pairs_inserted terms term new entries start end number at all is first last =
    let put : Entry = record { start = start; end = end; number = number } in
    let same : pairs_of new entries ≡ pairs_of terms entries = ap (λ (bs : List ℕ). pairs_of bs entries) is ∙ same_pairs terms term entries all in
    map-append (pair_of new) (take at entries) (put ∷ drop at entries)
    ∙ ap (λ (ps : List Pair). ps ++ pair_of new put ∷ pairs_of new (drop at entries)) (sym (take-map (pair_of new) at entries))
    ∙ ap (λ (ps : List Pair). take at (pairs_of new entries) ++ pair_of new put ∷ ps) (sym (drop-map (pair_of new) at entries))
    ∙ ap (λ (ps : List Pair). insert ps at (pair_of new put)) same
    ∙ ap (λ (bs : List ℕ). insert (pairs_of terms entries) at (the_pair bs number))
    (ap (λ (n : ℕ). bytes_between n end new) first ∙ ap (λ (n : ℕ). bytes_between (length terms) n new) last
    ∙ ap (λ (bs : List ℕ). bytes_between (length terms) (length bs) bs) is ∙ put_between terms term)

pub pairs_removed : (terms : List ℕ) (entries : List Entry) (at : ℕ) → pairs_of terms (remove entries at) ≡ remove (pairs_of terms entries) at
pairs_removed terms entries at =
    map-append (pair_of terms) (take at entries) (drop (suc at) entries)
    ∙ ap (λ (ps : List Pair). ps ++ pairs_of terms (drop (suc at) entries)) (sym (take-map (pair_of terms) at entries))
    ∙ ap (λ (ps : List Pair). take at (pairs_of terms entries) ++ ps) (sym (drop-map (pair_of terms) (suc at) entries))

pub all_but_one : (size at : ℕ) (entries : List Entry) → All (IsWithin size) entries → All (IsWithin size) (remove entries at)
all_but_one size at entries all =
    All-append (IsWithin size) (take at entries) (drop (suc at) entries) (All-take (IsWithin size) at entries all) (All-drop (IsWithin size) (suc at) entries all)

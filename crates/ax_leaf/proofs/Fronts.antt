-- The first bytes of a term that is written after another, put over those of that one.
use Rattle.std.proofs.Common.{◌≡◌, ℕ, ◌+◌, ◌-◌, ◌<◌, ◌≤◌, List, ◌++◌, length, get_or, take, min, arith, ap, ◌∙◌, sym, ⊎_elim, Some, None, slice_get}
use Rattle.std.proofs.lemmas.Bool.{cases_lt}
use Rattle.std.proofs.lemmas.List.{length-append, length-take-le, get_or-take, get_or_append_left, get_or-append_right}
use Rattle.std.proofs.lemmas.Option.{slice_get_past, slice_get-get_or}
use Rattle.ax_leaf.specs.ShortTerm.{whole_term, HasFront}

pub front_stays : (front last : List ℕ) (shared : ℕ) (rest : List ℕ) → length front ≤ shared → HasFront front last → shared ≤ length last
    → HasFront front (whole_term last shared rest)
front_stays front last shared rest far has within k h l =
    let size : length (take shared last) ≡ shared = length-take-le shared last within in
    has k h (omega arith) ∙ sym (get_or-take shared last k 0 (omega arith)) ∙ sym (get_or_append_left (take shared last) rest 0 k (omega arith))

pub front_kept : (front new last : List ℕ) (shared kept : ℕ) (rest : List ℕ) → shared < length front → kept ≡ min (length rest) (length front - shared)
    → length new ≡ length front
    → take (shared + kept) new ≡ take shared front ++ take kept rest → HasFront front last → shared ≤ length last → HasFront new (whole_term last shared rest)
front_kept front new last shared kept rest near many size e has within k h l =
    let first : length (take shared last) ≡ shared = length-take-le shared last within in
    let over : length (take shared front) ≡ shared = length-take-le shared front (omega arith) in
    let there : k < shared + kept = omega (arith, length-append (take shared last) rest) in
    let new_is : get_or new k 0 ≡ get_or (take shared front ++ take kept rest) k 0 =
    sym (get_or-take (shared + kept) new k 0 there) ∙ ap (λ (bs : List ℕ). get_or bs k 0) e
    in
    ⊎_elim
    (λ (b : k < shared).
    new_is ∙ get_or_append_left (take shared front) (take kept rest) 0 k (omega arith) ∙ get_or-take shared front k 0 b
    ∙ has k (omega arith) (omega arith)
    ∙ sym (get_or-take shared last k 0 b) ∙ sym (get_or_append_left (take shared last) rest 0 k (omega arith)))
    (λ (b : shared ≤ k).
    new_is ∙ get_or-append_right (take shared front) (take kept rest) shared k 0 over b ∙ get_or-take kept rest (k - shared) 0 (omega arith)
    ∙ sym (get_or-append_right (take shared last) rest shared k 0 first b))
    (cases_lt k shared)

-- ---- a byte of the term

pub none_there : (term : List ℕ) (position : ℕ) → length term ≤ position → slice_get term position ≡ None
none_there = slice_get_past

pub some_there : (term : List ℕ) (position byte : ℕ) → position < length term → byte ≡ get_or term position 0 → slice_get term position ≡ Some byte
some_there term position byte h e = slice_get-get_or term position 0 h ∙ ap (λ (b : ℕ). Some b) (sym e)

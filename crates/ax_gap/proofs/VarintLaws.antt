-- Varints: the grammar, the spelling and the reading of one are the same.
use Rattle.std.proofs.Common.{◌≡◌, ℕ, ◌+◌, ◌-◌, ◌*◌, ◌/◌, ◌%◌, ◌<◌, ◌≤◌, ◌==◌, true, false, length, List, [], ◌∷◌, ◌++◌, Option, Some, None, zero}
use Rattle.std.proofs.Common.{suc, nat_lt, arith, refl, ap, ◌∙◌, sym, ⊎_elim, All, nat_le, cond, get_or, drop, take, min}
use Rattle.std.proofs.lemmas.Bool.{le-ltb, lt-ltb, ne_eqb, cases_lt, le-leb}
use Rattle.std.proofs.lemmas.List.{length-append, length-take, drop_at, take-append-le, append_assoc}
use Rattle.std.proofs.lemmas.List.Elements.{All-head, All-tail, All-from_get_or}
use Rattle.ax_gap.specs.Varint.{IsVarint, groups, varint}
use Rattle.ax_gap.specs.Reading.{first_varint, longer, at_most}

below_self : (n k : ℕ) → n ≤ suc k → 128 ≤ n → n / 128 ≤ k
below_self n k h l = omega arith

-- more groups than a number needs change nothing
groups_enough : (k j n : ℕ) → n ≤ k → n ≤ j → groups k n ≡ groups j n
unfolding groups
groups_enough zero zero n a b = refl
groups_enough zero (suc j) n a b = let s : nat_lt n 128 ≡ true = lt-ltb n 128 (omega arith) in rw s refl
groups_enough (suc k) zero n a b = let s : nat_lt n 128 ≡ true = lt-ltb n 128 (omega arith) in rw s refl
groups_enough (suc k) (suc j) n a b =
    ⊎_elim
    (λ h. let s : nat_lt n 128 ≡ true = lt-ltb n 128 h in rw s refl)
    (λ h. let s : nat_lt n 128 ≡ false = le-ltb n 128 h in
    rw s (ap (λ bs. (128 + n % 128) ∷ bs) (groups_enough k j (n / 128) (below_self n k a h) (below_self n j b h))))
    (cases_lt n 128)

pub varint-small : (n : ℕ) → n < 128 → varint n ≡ n ∷ []
unfolding varint groups
varint-small zero h = refl
varint-small (suc n) h = let s : nat_lt (suc n) 128 ≡ true = lt-ltb (suc n) 128 h in rw s refl

pub varint-large : (n : ℕ) → 128 ≤ n → varint n ≡ (128 + n % 128) ∷ varint (n / 128)
unfolding varint groups
varint-large zero h = absurd (omega arith)
varint-large (suc n) h =
    let s : nat_lt (suc n) 128 ≡ false = le-ltb (suc n) 128 h in
    rw s (ap (λ bs. (128 + suc n % 128) ∷ bs) (groups_enough n (suc n / 128) (suc n / 128) (below_self (suc n) n (omega arith) h) (omega arith)))

-- a fact of every number, from its groups: what holds below 128 and goes up from n / 128 to n
upward : (P : ℕ → Type 0) → ((n : ℕ) → n < 128 → P n) → ((n : ℕ) → 128 ≤ n → P (n / 128) → P n) → (k n : ℕ) → n ≤ k → P n
upward P small large zero n h = small n (omega arith)
upward P small large (suc k) n h =
    ⊎_elim (small n) (λ l. large n l (upward P small large k (n / 128) (below_self n k h l))) (cases_lt n 128)

pub by_groups : (P : ℕ → Type 0) → ((n : ℕ) → n < 128 → P n) → ((n : ℕ) → 128 ≤ n → P (n / 128) → P n) → (n : ℕ) → P n
by_groups P small large n = upward P small large n n (omega arith)

longer_found : (byte m : ℕ) (rest : List ℕ) → 0 < m → longer byte (Some (m, rest)) ≡ Some (byte - 128 + 128 * m, rest)
longer_found byte m rest h = let s : (m == 0) ≡ false = ne_eqb m 0 (λ e. omega arith) in rw s refl

-- what is spelled so is read
pub first_varint_again : (n : ℕ) (rest : List ℕ) → first_varint (varint n ++ rest) ≡ Some (n, rest)
first_varint_again n rest =
    by_groups (λ n. first_varint (varint n ++ rest) ≡ Some (n, rest))
    (λ n h. let s : nat_lt n 128 ≡ true = lt-ltb n 128 h in rw (varint-small n h, s) refl)
    (λ n h was.
    let s : nat_lt (128 + n % 128) 128 ≡ false = le-ltb (128 + n % 128) 128 (omega arith) in
    let whole : 128 + n % 128 - 128 + 128 * (n / 128) ≡ n = omega arith in
    rw (varint-large n h, s, was, longer_found (128 + n % 128) (n / 128) rest (omega arith), whole) refl)
    n

-- no varint is empty
varint-cons : (n : ℕ) → (byte : ℕ) × (rest : List ℕ) × (varint n ≡ byte ∷ rest)
varint-cons n =
    ⊎_elim (λ h. (n, [], varint-small n h)) (λ h. (128 + n % 128, varint (n / 128), varint-large n h)) (cases_lt n 128)

pub length-varint : (n : ℕ) → 0 < length (varint n)
length-varint n = let c : (byte : ℕ) × (rest : List ℕ) × (varint n ≡ byte ∷ rest) = varint-cons n in rw c.2 (omega arith)

abbrev pub spelled : ℕ → ℕ → Option (ℕ × ℕ)
spelled n used = Some (n, used)

abbrev pub found : ℕ → List ℕ → Option (ℕ × List ℕ)
found n rest = Some (n, rest)

number_of : Option (ℕ × List ℕ) → ℕ
number_of None = 0
number_of (Some x) = x.0

after_of : Option (ℕ × List ℕ) → List ℕ
after_of None = []
after_of (Some x) = x.1

pub same_number : (m n : ℕ) (x y : List ℕ) → found m x ≡ found n y → m ≡ n
unfolding number_of
same_number m n x y e = ap number_of e

pub same_after : (m n : ℕ) (x y : List ℕ) → found m x ≡ found n y → x ≡ y
unfolding after_of
same_after m n x y e = ap after_of e

large_again : (byte m n : ℕ) (bytes rest : List ℕ) → byte < 256 → 128 ≤ byte → 0 < m → byte - 128 + 128 * m ≡ n → bytes ≡ varint m ++ rest → byte
    ∷ bytes ≡ varint n ++ rest
large_again byte m n bytes rest s l p e was =
    let high : n / 128 ≡ m = omega arith in
    let low : 128 + n % 128 ≡ byte = omega arith in
    rw (varint-large n (omega arith), low, high, was) refl

takes_longer : (byte : ℕ) (bytes : List ℕ) (r : Option (ℕ × List ℕ)) (n : ℕ) (rest : List ℕ) → byte < 256 → 128 ≤ byte
    → ((m : ℕ) → r ≡ Some (m, rest) → bytes ≡ varint m ++ rest) → longer byte r ≡ Some (n, rest) → byte ∷ bytes ≡ varint n ++ rest
takes_longer byte bytes None n rest s l was e = absurd (cc)
takes_longer byte bytes (Some (zero, r)) n rest s l was e = absurd (cc)
takes_longer byte bytes (Some (suc m, r)) n rest s l was e =
    let f : found (byte - 128 + 128 * suc m) r ≡ found n rest = sym (longer_found byte (suc m) r (omega arith)) ∙ e in
    let number : byte - 128 + 128 * suc m ≡ n = same_number _ _ r rest f in
    let after : r ≡ rest = same_after _ _ r rest f in
    large_again byte (suc m) n bytes rest s l (omega arith) number (was (suc m) (ap (λ (x : List ℕ). Some (suc m, x)) after))

-- what is read is spelled so
pub first_varint_takes : (bytes : List ℕ) (n : ℕ) (rest : List ℕ) → All (λ b. b < 256) bytes → first_varint bytes ≡ Some (n, rest) → bytes ≡ varint n ++ rest
first_varint_takes [] n rest all e = absurd (cc)
first_varint_takes (byte ∷ bytes) n rest all e =
    ⊎_elim
    (λ h.
    let s : nat_lt byte 128 ≡ true = lt-ltb byte 128 h in
    let f : found byte bytes ≡ found n rest = rw s at e in
    let number : byte ≡ n = same_number byte n bytes rest f in
    let after : bytes ≡ rest = same_after byte n bytes rest f in
    rw (← number, varint-small byte h, after) refl)
    (λ h.
    let s : nat_lt byte 128 ≡ false = le-ltb byte 128 h in
    let f : longer byte (first_varint bytes) ≡ Some (n, rest) = rw s at e in
    takes_longer byte bytes (first_varint bytes) n rest (All-head (λ b. b < 256) byte bytes all) h
    (λ m was. first_varint_takes bytes m rest (All-tail (λ b. b < 256) byte bytes all) was) f)
    (cases_lt byte 128)

-- the grammar
pub grammar_spells : (bytes : List ℕ) (n : ℕ) → IsVarint bytes n → bytes ≡ varint n
grammar_spells [] n h = absurd h
grammar_spells (byte ∷ []) n h = ap (λ (b : ℕ). b ∷ []) h.1 ∙ sym (varint-small n (omega (arith, h.0, h.1)))
grammar_spells (byte ∷ next ∷ rest) n h = ap (λ b. b ∷ next ∷ rest) h.1 ∙ ap (λ bs. (128 + n % 128) ∷ bs) (grammar_spells (next ∷ rest) (n / 128) h.2)
    ∙ sym (varint-large n h.0)

grammar_longer : (n : ℕ) (bytes : List ℕ) → (byte : ℕ) × (rest : List ℕ) × (bytes ≡ byte ∷ rest) → 128 ≤ n → IsVarint bytes (n / 128)
    → IsVarint ((128 + n % 128) ∷ bytes) n
grammar_longer n [] c h was = absurd was
grammar_longer n (byte ∷ rest) c h was = (h, refl, was)

pub spells_grammar : (n : ℕ) → IsVarint (varint n) n
spells_grammar =
    by_groups (λ n. IsVarint (varint n) n)
    (λ n h. rw (varint-small n h) (h, refl))
    (λ n h was. rw (varint-large n h) (grammar_longer n (varint (n / 128)) (varint-cons (n / 128)) h was))

-- ---- what the code takes off the beginning

pub most_found : (most : ℕ) (r : Option (ℕ × List ℕ)) (n : ℕ) (rest : List ℕ) → found n rest ≡ at_most most r → found n rest ≡ r
most_found most None n rest e = e
most_found most (Some x) n rest e =
    elim (nat_le x.0 most) as (λ b. found n rest ≡ cond b (Some x) None → found n rest ≡ Some x) [ true ↦ λ h. h | false ↦ λ h. absurd (cc) ] e

-- what is taken off is spelled so
pub split_takes : (bytes : List ℕ) (n : ℕ) (rest : List ℕ) → ((i : ℕ) → get_or bytes i 0 < 256) → found n rest ≡ at_most 4294967296 (first_varint bytes)
    → bytes ≡ varint n ++ rest
split_takes bytes n rest fits e =
    first_varint_takes bytes n rest (All-from_get_or (λ b. b < 256) bytes 0 (λ i h. fits i)) (sym (most_found 4294967296 (first_varint bytes) n rest e))

-- what is spelled so is taken off
pub split_again : (bytes : List ℕ) (n : ℕ) (rest : List ℕ) → n ≤ 4294967296 → bytes ≡ varint n ++ rest → at_most 4294967296 (first_varint bytes) ≡ found n rest
split_again bytes n rest h e =
    ap (λ bs. at_most 4294967296 (first_varint bs)) e ∙ ap (at_most 4294967296) (first_varint_again n rest) ∙ rw (le-leb n 4294967296 h) refl

pub length-split : (bytes : List ℕ) (n : ℕ) (rest : List ℕ) → bytes ≡ varint n ++ rest → length bytes ≡ length (varint n) + length rest
length-split bytes n rest e = ap length e ∙ length-append (varint n) rest

pub drop-split : (bytes : List ℕ) (n : ℕ) (rest : List ℕ) → bytes ≡ varint n ++ rest → drop (length bytes - length rest) bytes ≡ rest
drop-split bytes n rest e =
    let l : length bytes ≡ length (varint n) + length rest = length-split bytes n rest e in
    let k : length (varint n) ≡ length bytes - length rest = omega arith in
    ap (λ bs. drop (length bytes - length rest) bs) e ∙ drop_at (varint n) rest (length bytes - length rest) k

pub same_used : (m n : ℕ) (used : ℕ) → m ≡ n → used ≡ length (varint m) → spelled m used ≡ spelled n (length (varint n))
same_used m n used e h = rw (h, e) refl

-- ---- what the code writes at the end

pub push-large : (bytes : List ℕ) (n : ℕ) → 128 ≤ n → bytes ++ (128 + n % 128) ∷ [] ++ varint (n / 128) ≡ bytes ++ varint n
push-large bytes n h = append_assoc bytes ((128 + n % 128) ∷ []) (varint (n / 128)) ∙ ap (λ bs. bytes ++ bs) (sym (varint-large n h))

-- bytes begin with what they began with before more was written
pub take-more_written : (old new more : List ℕ) → take (length old) new ≡ old → take (length old) (new ++ more) ≡ old
take-more_written old new more e =
    let l : min (length old) (length new) ≡ length old = sym (length-take (length old) new) ∙ ap length e in
    let within : length old ≤ length new = omega arith in
    take-append-le (length old) new more within ∙ e

-- ---- no varint begins another

pub one_form : (s t x y : List ℕ) (m n : ℕ) → IsVarint s m → IsVarint t n → s ++ x ≡ t ++ y → (m ≡ n) × (s ≡ t) × (x ≡ y)
one_form s t x y m n h k e =
    let first : s ≡ varint m = grammar_spells s m h in
    let second : t ≡ varint n = grammar_spells t n k in
    let read : found m x ≡ found n y =
    sym (first_varint_again m x) ∙ ap (λ bs. first_varint (bs ++ x)) (sym first) ∙ ap first_varint e ∙ ap (λ bs. first_varint (bs ++ y)) second
    ∙ first_varint_again n y
    in
    let same : m ≡ n = same_number m n x y read in
    (same, first ∙ ap varint same ∙ sym second, same_after m n x y read)

-- Equal payloads are of the same low pair and the same postings.
use Rattle.std.proofs.Common.{◌≡◌, ℕ, ◌+◌, ◌-◌, List, [], ◌∷◌, ◌++◌, length, take, drop, arith, refl, ap, ◌∙◌, sym, true, false, cond, nat_eq, suc}
use Rattle.std.proofs.lemmas.List.{append_assoc, length-drop}
use Rattle.std.proofs.lemmas.List.Sums.{common_prefix_len-le}
use Rattle.std.proofs.lemmas.Bool.{eqb-true}
use Rattle.ax_gap.specs.Gaps.{IsRisingList, gaps}
use Rattle.ax_gap.specs.Varint.{varint}
use Rattle.ax_gap.specs.Reading.{first_varint}
use Rattle.ax_gap.proofs.VarintLaws.{found, same_number, same_after, first_varint_again}
use Rattle.ax_gap.proofs.GapLaws.{spells_list_grammar}
use Rattle.ax_gap.proofs.CursorLaws.{one_list_form}
use Rattle.ax_pair.specs.declared.pair.Pair.{Pair}
use Rattle.ax_pair.proofs.PairOrder.{same_pair}
use Rattle.ax_leaf.specs.Pairs.{Posting}
use Rattle.ax_leaf.specs.Payload.{common, term_after, list_after, leaf, IsLeaf, AreAfter, ArePostings}

pub varint_parts : (m n : ℕ) (x y : List ℕ) → varint m ++ x ≡ varint n ++ y → (m ≡ n) × (x ≡ y)
varint_parts m n x y e =
    let read : found m x ≡ found n y = sym (first_varint_again m x) ∙ ap first_varint e ∙ first_varint_again n y in
    (same_number m n x y read, same_after m n x y read)

pub gaps_parts : (a b x y : List ℕ) → IsRisingList a → IsRisingList b → gaps a ++ x ≡ gaps b ++ y → (a ≡ b) × (x ≡ y)
gaps_parts a b x y h k e =
    let (same, bytes, rest) = one_list_form (gaps a) (gaps b) x y a b (spells_list_grammar a h) (spells_list_grammar b k) e in (same, rest)

cons_parts : (a b : ℕ) (s t x y : List ℕ) → a ≡ b → (s ≡ t) × (x ≡ y) → (a ∷ s ≡ b ∷ t) × (x ≡ y)
cons_parts a b s t x y e h = (rw (e, h.0) refl, h.1)

pub append_parts : (s t x y : List ℕ) → length s ≡ length t → s ++ x ≡ t ++ y → (s ≡ t) × (x ≡ y)
append_parts [] [] x y l e = (refl, e)
append_parts [] (b ∷ t) x y l e = absurd (omega arith)
append_parts (a ∷ s) [] x y l e = absurd (omega arith)
append_parts (a ∷ s) (b ∷ t) x y l e = cons_parts a b s t x y (cc) (append_parts s t x y (omega arith) (cc))

one_more : (x y m k : ℕ) (last s : List ℕ) → m ≡ suc k → x ≡ y → s ≡ take k last ++ drop k s → y ∷ s ≡ take m (x ∷ last) ++ drop m (y ∷ s)
one_more x y m k last s e f h = rw (e, f) (ap (λ (bs : List ℕ). y ∷ bs) h)

pub whole_term : (last s : List ℕ) → s ≡ take (common last s) last ++ drop (common last s) s
whole_term [] s = refl
whole_term (x ∷ last) [] = refl
whole_term (x ∷ last) (y ∷ s) =
    elim (nat_eq x y) as (λ b. nat_eq x y ≡ b → y ∷ s ≡ take (cond b (1 + common last s) 0) (x ∷ last) ++ drop (cond b (1 + common last s) 0) (y ∷ s)) [
      | true ↦ λ h. one_more x y (1 + common last s) (common last s) last s (omega arith) (eqb-true x y h) (whole_term last s)
      | false ↦ λ h. refl
    ] refl

pub term_parts : (last s t x y : List ℕ) → term_after last s ++ x ≡ term_after last t ++ y → (s ≡ t) × (x ≡ y)
unfolding term_after
term_parts last s t x y e =
    let c : ℕ = common last s in
    let d : ℕ = common last t in
    let shorter = common_prefix_len-le nat_eq last s in
    let shorter_too = common_prefix_len-le nat_eq last t in
    let split : varint c ++ (varint (length s - c) ++ (drop c s ++ x)) ≡ varint d ++ (varint (length t - d) ++ (drop d t ++ y)) =
    sym (three (varint c) (varint (length s - c)) (drop c s) x) ∙ e ∙ three (varint d) (varint (length t - d)) (drop d t) y
    in
    let (prefix, after) = varint_parts c d _ _ split in
    let (more, rests) = varint_parts (length s - c) (length t - d) _ _ after in
    let (rest, end) = append_parts (drop c s) (drop d t) x y (length-drop c s ∙ more ∙ sym (length-drop d t)) rests in
    (whole_term last s ∙ ap (λ (k : ℕ). take k last ++ drop c s) prefix ∙ ap (λ (bs : List ℕ). take d last ++ bs) rest ∙ sym (whole_term last t), end)
  where
    three : (a b c d : List ℕ) → a ++ b ++ c ++ d ≡ a ++ (b ++ (c ++ d))
    three a b c d = append_assoc (a ++ b) c d ∙ append_assoc a b (c ++ d)

-- the numbers of each posting are what a gap list can hold
abbrev pub AreLists : List Posting → Type 0
AreLists [] = Unit {0}
AreLists (posting ∷ postings) = IsRisingList posting.numbers × AreLists postings

lists_after : (last : List ℕ) (postings : List Posting) → AreAfter last postings → AreLists postings
lists_after last [] h = tt
lists_after last (posting ∷ postings) h = (h.1.rising, lists_after posting.term postings h.2)

lists : (postings : List Posting) → ArePostings postings → AreLists postings
lists [] h = tt
lists (posting ∷ postings) h = (h.0.rising, lists_after posting.term postings h.1)

same_posting : (s t ns ms : List ℕ) (a b : List Posting) → s ≡ t → ns ≡ ms → a ≡ b
    → record { term = s; numbers = ns } ∷ a ≡ record { term = t; numbers = ms } ∷ b
same_posting s t ns ms a b e f g = rw (e, f, g) refl

list_parts : (last : List ℕ) (a b : List Posting) → length a ≡ length b → AreLists a → AreLists b → list_after last a ≡ list_after last b → a ≡ b
unfolding list_after
list_parts last [] [] l h k e = refl
list_parts last [] (f ∷ b) l h k e = absurd (omega arith)
list_parts last (d ∷ a) [] l h k e = absurd (omega arith)
list_parts last (d ∷ a) (f ∷ b) l h k e =
    let split : term_after last d.term ++ (gaps d.numbers ++ list_after d.term a) ≡ term_after last f.term ++ (gaps f.numbers ++ list_after f.term b) =
    sym (append_assoc (term_after last d.term) (gaps d.numbers) (list_after d.term a)) ∙ e
    ∙ append_assoc (term_after last f.term) (gaps f.numbers) (list_after f.term b)
    in
    let (term, after) = term_parts last d.term f.term _ _ split in
    let (numbers, rest) = gaps_parts d.numbers f.numbers _ _ h.0 k.0 after in
    same_posting d.term f.term d.numbers f.numbers a b term numbers
    (list_parts f.term a b (omega arith) h.1 k.1 (ap (λ (t : List ℕ). list_after t a) (sym term) ∙ rest))

pub one_leaf : (bytes : List ℕ) (low other : Pair) (a b : List Posting) → IsLeaf bytes low a → IsLeaf bytes other b → (low ≡ other) × (a ≡ b)
unfolding leaf
one_leaf bytes low other a b h k =
    let split : varint (length low.term) ++ (low.term ++ (varint low.number ++ (varint (length a) ++ list_after [] a)))
    ≡ varint (length other.term) ++ (other.term ++ (varint other.number ++ (varint (length b) ++ list_after [] b))) =
    sym (five (varint (length low.term)) low.term (varint low.number) (varint (length a)) (list_after [] a)) ∙ sym h.spelled ∙ k.spelled
    ∙ five (varint (length other.term)) other.term (varint other.number) (varint (length b)) (list_after [] b)
    in
    let (size, second) = varint_parts _ _ _ _ split in
    let (term, third) = append_parts _ _ _ _ size second in
    let (number, fourth) = varint_parts _ _ _ _ third in
    let (count, fifth) = varint_parts _ _ _ _ fourth in
    (same_pair low.term other.term low.number other.number term number, list_parts [] a b count (lists a h.are) (lists b k.are) fifth)
  where
    five : (a b c d e : List ℕ) → a ++ b ++ c ++ d ++ e ≡ a ++ (b ++ (c ++ (d ++ e)))
    five a b c d e = append_assoc (a ++ b ++ c) d e ∙ append_assoc (a ++ b) c (d ++ e) ∙ append_assoc a b (c ++ (d ++ e))

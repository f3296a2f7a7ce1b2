-- Gap lists: the grammar, the spelling and the reading of one are the same.
use Rattle.std.proofs.Common.{◌≡◌, ℕ, ◌+◌, ◌-◌, ◌<◌, ◌≤◌, List, [], ◌∷◌, ◌++◌, length, get_or, drop, arith, refl, ap, ◌∙◌, sym, Option, Some, None}
use Rattle.std.proofs.Common.{Bool, true, false, cond, nat_lt, zero, suc, option_and_then, All, subst}
use Rattle.std.proofs.lemmas.List.{at_drop_more, at_drop_all, drop_more, append_assoc, drop_at, length-append}
use Rattle.std.proofs.lemmas.List.Elements.{All-same, All-drop}
use Rattle.std.proofs.lemmas.Bool.{lt-ltb, ltb-true}
use Rattle.ax_gap.specs.Varint.{varint}
use Rattle.ax_gap.specs.Gaps.{gaps, gaps_from, AreGaps, IsGapList, IsRisingList}
use Rattle.ax_gap.specs.Reading.{first_varint, first_number, before, first_gaps}
use Rattle.ax_gap.proofs.Rising.{RisesFrom, rises, rising_list}
use Rattle.ax_gap.proofs.VarintLaws.{grammar_spells, spells_grammar, first_varint_again, first_varint_takes, found, same_number, same_after, length-varint}

-- ---- what is written

pub gaps_from-more : (list : List ℕ) (index least n : ℕ) → index < length list → n ≡ get_or list index 0
    → gaps_from least (drop index list) ≡ varint (n - least) ++ gaps_from (n + 1) (drop (index + 1) list)
unfolding gaps_from
gaps_from-more list index least n h e =
    at_drop_more (gaps_from least) list index 0 h ∙ ap (λ (m : ℕ). varint (m - least) ++ gaps_from (m + 1) (drop (index + 1) list)) (sym e)

pub gaps_from-all : (list : List ℕ) (index least : ℕ) → length list ≤ index → gaps_from least (drop index list) ≡ []
unfolding gaps_from
gaps_from-all list index least h = at_drop_all (gaps_from least) list index h

pub rises-more : (list : List ℕ) (index least n : ℕ) → index < length list → n ≡ get_or list index 0 → RisesFrom least (drop index list) → (least ≤ n)
    × (n < 4294967296) × RisesFrom (n + 1) (drop (index + 1) list)
rises-more list index least n h e up =
    let split : drop index list ≡ n ∷ drop (index + 1) list =
    drop_more list index 0 h ∙ ap (λ (m : ℕ). m ∷ drop (index + 1) list) (sym e)
    in rw split at up

pub gaps-parts : (list : List ℕ) → gaps list ≡ varint (length list) ++ gaps_from 0 list
unfolding gaps
gaps-parts list = refl

-- ---- the grammar

pub gap_grammar_spells : (list : List ℕ) (least : ℕ) (bytes : List ℕ) → AreGaps least list bytes → RisesFrom least list × (bytes ≡ gaps_from least list)
unfolding gaps_from
gap_grammar_spells [] least bytes h = (tt, h)
gap_grammar_spells (n ∷ list) least bytes (low, small, gap, rest, split, is_gap, more) =
    let later : RisesFrom (n + 1) list × (rest ≡ gaps_from (n + 1) list) = gap_grammar_spells list (n + 1) rest more in
    let first : gap ≡ varint (n - least) = grammar_spells gap (n - least) is_gap in
    ((low, small, later.0), rw (split, first, later.1) refl)

pub spells_gap_grammar : (list : List ℕ) (least : ℕ) → RisesFrom least list → AreGaps least list (gaps_from least list)
unfolding gaps_from
spells_gap_grammar [] least h = refl
spells_gap_grammar (n ∷ list) least h =
    (h.0, h.1, varint (n - least), gaps_from (n + 1) list, refl, spells_grammar (n - least), spells_gap_grammar list (n + 1) h.2)

pub list_grammar_spells : (bytes list : List ℕ) → IsGapList bytes list → IsRisingList list × (bytes ≡ gaps list)
unfolding gaps
list_grammar_spells bytes list (count, rest, split, is_count, are_gaps) =
    let later : RisesFrom 0 list × (rest ≡ gaps_from 0 list) = gap_grammar_spells list 0 rest are_gaps in
    let first : count ≡ varint (length list) = grammar_spells count (length list) is_count in
    (rising_list 0 list later.0, rw (split, first, later.1) refl)

pub spells_list_grammar : (list : List ℕ) → IsRisingList list → IsGapList (gaps list) list
unfolding gaps
spells_list_grammar list h =
    (varint (length list), gaps_from 0 list, refl, spells_grammar (length list), spells_gap_grammar list 0 (rises list h))

-- ---- what is spelled so is read

abbrev pub given : List ℕ → List ℕ → Option (List ℕ × List ℕ)
given list rest = Some (list, rest)

pub first_gaps_again : (list : List ℕ) (least : ℕ) (rest : List ℕ) → RisesFrom least list
    → first_gaps least (length list) (gaps_from least list ++ rest) ≡ given list rest
unfolding gaps_from first_gaps
first_gaps_again [] least rest h = refl
first_gaps_again (n ∷ list) least rest h =
    let split : varint (n - least) ++ gaps_from (n + 1) list ++ rest ≡ varint (n - least) ++ (gaps_from (n + 1) list ++ rest) =
    append_assoc (varint (n - least)) (gaps_from (n + 1) list) rest
    in
    let number : least + (n - least) ≡ n = omega (arith, h.0) in
    let small : nat_lt n 4294967296 ≡ true = lt-ltb n 4294967296 h.1 in
    rw (split, first_varint_again (n - least) (gaps_from (n + 1) list ++ rest), number, small, first_gaps_again list (n + 1) rest h.2) refl

-- ---- what is read is spelled so

list_of : Option (List ℕ × List ℕ) → List ℕ
list_of None = []
list_of (Some x) = x.0

after_of : Option (List ℕ × List ℕ) → List ℕ
after_of None = []
after_of (Some x) = x.1

pub same_list : (list other x y : List ℕ) → given list x ≡ given other y → list ≡ other
unfolding list_of
same_list list other x y e = ap list_of e

pub same_end : (list other x y : List ℕ) → given list x ≡ given other y → x ≡ y
unfolding after_of
same_end list other x y e = ap after_of e

before_found : (n : ℕ) (r : Option (List ℕ × List ℕ)) (list rest : List ℕ) → before n r ≡ given list rest → (ns : List ℕ) × (r ≡ given ns rest)
    × (n ∷ ns ≡ list)
before_found n None list rest e = absurd (cc)
before_found n (Some (ns, after)) list rest e =
    (ns, ap (given ns) (same_end (n ∷ ns) list after rest e), same_list (n ∷ ns) list after rest e)

number_before : (r : Option (ℕ × List ℕ)) (f : ℕ × List ℕ → Option (List ℕ × List ℕ)) (list rest : List ℕ) → option_and_then f r ≡ given list rest → (gap : ℕ)
    × (after : List ℕ) × (r ≡ found gap after) × (f (gap, after) ≡ given list rest)
number_before None f list rest e = absurd (cc)
number_before (Some (gap, after)) f list rest e = (gap, after, refl, e)

pub all_after : (bytes : List ℕ) (gap : ℕ) (after : List ℕ) → All (λ b. b < 256) bytes → bytes ≡ varint gap ++ after → All (λ b. b < 256) after
all_after bytes gap after all e =
    let k : drop (length (varint gap)) bytes ≡ after =
    ap (λ bs. drop (length (varint gap)) bs) e ∙ drop_at (varint gap) after (length (varint gap)) refl
    in All-same (λ b. b < 256) after (drop (length (varint gap)) bytes) (sym k) (All-drop (λ b. b < 256) (length (varint gap)) bytes all)

-- `list` is read from `bytes` as `count` numbers, and `rest` follows
pub record IsReadAs (least count : ℕ) (bytes list rest : List ℕ) : Type 0 where
  pub spelled : bytes ≡ gaps_from least list ++ rest
  pub rises : RisesFrom least list
  pub counted : length list ≡ count

-- a number that comes first is `least` with a gap
pub record NumberTaken (least number : ℕ) (bytes after : List ℕ) : Type 0 where
  pub gap : ℕ
  pub first : first_varint bytes ≡ found gap after
  pub is : least + gap ≡ number
  pub fits : number < 4294967296

number_kept : (b : Bool) (m n : ℕ) (x y : List ℕ) → cond b (found m x) None ≡ found n y → (b ≡ true) × (m ≡ n) × (x ≡ y)
number_kept true m n x y e = (refl, same_number m n x y e, same_after m n x y e)
number_kept false m n x y e = absurd (cc)

number_from_taken : (least number : ℕ) (bytes after : List ℕ) (r : Option (ℕ × List ℕ)) → first_varint bytes ≡ r
    → option_and_then (λ gap. cond (nat_lt (least + gap.0) 4294967296) (found (least + gap.0) gap.1) None) r ≡ found number after
    → NumberTaken least number bytes after
number_from_taken least number bytes after None was e = absurd (cc)
number_from_taken least number bytes after (Some (gap, rest)) was e =
    let kept = number_kept (nat_lt (least + gap) 4294967296) (least + gap) number rest after e in
    let under : least + gap < 4294967296 = ltb-true (least + gap) 4294967296 kept.0 in
    record { gap = gap; first = was ∙ ap (found gap) kept.2; is = kept.1; fits = omega (arith, kept.1, under) }

pub number_taken : (least number : ℕ) (bytes after : List ℕ) → first_number least bytes ≡ found number after → NumberTaken least number bytes after
number_taken least number bytes after e = number_from_taken least number bytes after (first_varint bytes) refl e

read_more : (least count number gap : ℕ) (bytes after ns list rest : List ℕ) → bytes ≡ varint gap ++ after → least + gap ≡ number → number < 4294967296
    → number ∷ ns ≡ list → IsReadAs (number + 1) count after ns rest → IsReadAs least (suc count) bytes list rest
unfolding gaps_from
read_more least count number gap bytes after ns list rest first sums small is later =
    let this : number - least ≡ gap = omega arith in
    let whole : bytes ≡ gaps_from least (number ∷ ns) ++ rest =
    first ∙ ap (λ bs. varint gap ++ bs) later.spelled
    ∙ sym (append_assoc (varint gap) (gaps_from (number + 1) ns) rest)
    ∙ ap (λ (m : ℕ). varint m ++ gaps_from (number + 1) ns ++ rest) (sym this)
    in
    let up : RisesFrom least (number ∷ ns) = (omega arith, small, later.rises) in
    record {
      spelled = whole ∙ ap (λ l. gaps_from least l ++ rest) is;
      rises = subst (RisesFrom least) is up;
      counted = sym (ap length is) ∙ omega (arith, later.counted);
    }

pub first_gaps_takes : (count least : ℕ) (bytes list rest : List ℕ) → All (λ b. b < 256) bytes → first_gaps least count bytes ≡ given list rest
    → IsReadAs least count bytes list rest
unfolding gaps_from first_gaps
first_gaps_takes zero least bytes list rest all e =
    let none : [] ≡ list = same_list [] list bytes rest e in
    let same : bytes ≡ rest = same_end [] list bytes rest e in
    record { spelled = rw (← none) same; rises = rw (← none) tt; counted = rw (← none) refl }
first_gaps_takes (suc count) least bytes list rest all e =
    let (number, after, first, more) = number_before (first_number least bytes) _ list rest e in
    let taken = number_taken least number bytes after first in
    let (ns, later, is) = before_found number _ list rest more in
    let split : bytes ≡ varint taken.gap ++ after = first_varint_takes bytes taken.gap after all taken.first in
    read_more least count number taken.gap bytes after ns list rest split taken.is taken.fits is
    (first_gaps_takes count (number + 1) after ns rest (all_after bytes taken.gap after all split) later)

pub first_gaps_counts : (count least : ℕ) (bytes list rest : List ℕ) → first_gaps least count bytes ≡ given list rest → length list ≡ count
unfolding first_gaps
first_gaps_counts zero least bytes list rest e = ap length (sym (same_list [] list bytes rest e))
first_gaps_counts (suc count) least bytes list rest e =
    let (number, after, first, more) = number_before (first_number least bytes) _ list rest e in
    let (ns, later, is) = before_found number _ list rest more in
    sym (ap length is) ∙ ap suc (first_gaps_counts count (number + 1) after ns rest later)

-- each number takes a byte at least
pub length-gaps_from : (list : List ℕ) (least : ℕ) → length list ≤ length (gaps_from least list)
unfolding gaps_from
length-gaps_from [] least = omega arith
length-gaps_from (n ∷ list) least =
    let later : length list ≤ length (gaps_from (n + 1) list) = length-gaps_from list (n + 1) in
    let one : 0 < length (varint (n - least)) = length-varint (n - least) in
    let both : length (varint (n - least) ++ gaps_from (n + 1) list) ≡ length (varint (n - least)) + length (gaps_from (n + 1) list) =
    length-append (varint (n - least)) (gaps_from (n + 1) list)
    in omega arith

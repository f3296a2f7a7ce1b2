-- Reading one gap more, and reading a whole gap list.
use Rattle.std.proofs.Common.{◌≡◌, ℕ, ◌+◌, ◌-◌, ◌<◌, ◌≤◌, List, [], ◌∷◌, ◌++◌, length, get_or, drop, arith, refl, ap, ◌∙◌, sym, Option, Some, None}
use Rattle.std.proofs.Common.{IsSome, Bool, true, false, cond, nat_lt, nat_le, suc, option_and_then, All}
use Rattle.std.specs.Option.{option_map}
use Rattle.std.proofs.lemmas.List.{append_assoc, length-append, drop_at}
use Rattle.std.proofs.lemmas.List.Elements.{All-from_get_or}
use Rattle.std.proofs.lemmas.Bool.{lt-ltb, le-ltb, leb-false}
use Rattle.ax_gap.specs.Varint.{varint}
use Rattle.ax_gap.specs.Gaps.{gaps, gaps_from, IsRisingList, IsGapList}
use Rattle.ax_gap.specs.Reading.{first_varint, first_number, at_most, before, first_gaps}
use Rattle.ax_gap.specs.Cursor.{numbers_of}
use Rattle.ax_gap.proofs.Rising.{RisesFrom, rises, rising_list, length_rises}
use Rattle.ax_gap.proofs.VarintLaws.{found, split_takes, split_again, same_number, same_after, most_found}
use Rattle.ax_gap.proofs.GapLaws.{given, IsReadAs, number_taken, first_gaps_takes, first_gaps_again, first_gaps_counts, all_after, length-gaps_from}
use Rattle.ax_gap.proofs.GapLaws.{list_grammar_spells, same_list, same_end}

-- ---- one number more

none_past : (b : Bool) (x : ℕ × List ℕ) → None ≡ cond b (Some x) None → b ≡ false
none_past true x e = absurd (cc)
none_past false x e = refl

-- the number that a gap above `least` gives, or none
abbrev number_from : ℕ → Option (ℕ × List ℕ) → Option (ℕ × List ℕ)
number_from least r = option_and_then (λ gap. cond (nat_lt (least + gap.0) 4294967296) (Some (least + gap.0, gap.1)) None) r

past_from : (least : ℕ) (r : Option (ℕ × List ℕ)) → None ≡ at_most 4294967296 r → number_from least r ≡ None
past_from least None e = refl
past_from least (Some gap) e =
    let high : nat_le gap.0 4294967296 ≡ false = none_past (nat_le gap.0 4294967296) gap e in
    let over : nat_lt (least + gap.0) 4294967296 ≡ false = le-ltb (least + gap.0) 4294967296 (omega (arith, leb-false gap.0 4294967296 high)) in
    rw over refl

-- no gap of a number that fits comes first: no number does
pub number_past : (least : ℕ) (bytes : List ℕ) → None ≡ at_most 4294967296 (first_varint bytes) → first_number least bytes ≡ None
number_past least bytes h = past_from least (first_varint bytes) h

pub number_high : (least gap : ℕ) (bytes after : List ℕ) → found gap after ≡ at_most 4294967296 (first_varint bytes) → 4294967296 ≤ least + gap
    → first_number least bytes ≡ None
number_high least gap bytes after h over =
    let s : nat_lt (least + gap) 4294967296 ≡ false = le-ltb (least + gap) 4294967296 over in
    ap (number_from least) (sym (most_found 4294967296 (first_varint bytes) gap after h)) ∙ rw s refl

pub number_found : (least gap : ℕ) (bytes after : List ℕ) → found gap after ≡ at_most 4294967296 (first_varint bytes) → least + gap < 4294967296
    → first_number least bytes ≡ found (least + gap) after
number_found least gap bytes after h under =
    let s : nat_lt (least + gap) 4294967296 ≡ true = lt-ltb (least + gap) 4294967296 under in
    ap (number_from least) (sym (most_found 4294967296 (first_varint bytes) gap after h)) ∙ rw s refl

-- what follows a number that was read, or not
abbrev next_gaps : ℕ → Option (ℕ × List ℕ) → Option (List ℕ × List ℕ)
next_gaps count r = option_and_then (λ found. before found.0 (first_gaps (found.0 + 1) count found.1)) r

first_gaps_suc : (least many count : ℕ) (bytes : List ℕ) → many ≡ suc count → first_gaps least many bytes ≡ next_gaps count (first_number least bytes)
unfolding first_gaps
first_gaps_suc least many count bytes e = rw e refl

pub first_gaps_past : (least many count : ℕ) (bytes : List ℕ) → many ≡ suc count → None ≡ first_number least bytes → first_gaps least many bytes ≡ None
first_gaps_past least many count bytes e h = first_gaps_suc least many count bytes e ∙ ap (next_gaps count) (sym h)

pub first_gaps_more : (least many count number : ℕ) (bytes after : List ℕ) → many ≡ suc count → found number after ≡ first_number least bytes
    → first_gaps least many bytes ≡ before number (first_gaps (number + 1) count after)
first_gaps_more least many count number bytes after e h = first_gaps_suc least many count bytes e ∙ ap (next_gaps count) (sym h)

pub number_fits : (least number : ℕ) (bytes after : List ℕ) → found number after ≡ first_number least bytes → number < 4294967296
number_fits least number bytes after h = (number_taken least number bytes after (sym h)).fits

pub end_before : (n : ℕ) (r : Option (List ℕ × List ℕ)) → option_map (λ x. x.1) (before n r) ≡ option_map (λ x. x.1) r
end_before n None = refl
end_before n (Some x) = refl

-- ---- a cursor

some_before : (n : ℕ) (r : Option (List ℕ × List ℕ)) → IsSome (before n r) → (IsSome r) × (numbers_of (before n r) ≡ n ∷ numbers_of r)
some_before n None h = absurd (cc)
some_before n (Some x) h = (refl, refl)

pub none_is_some : (r : Option (List ℕ × List ℕ)) → r ≡ None → IsSome r → ⊥
none_is_some r e some = cc

pub record ReadsOn (least many number : ℕ) (bytes after : List ℕ) : Type 0 where
  pub small : number < 4294967296
  pub reads : IsSome (first_gaps (number + 1) (many - 1) after)
  pub numbers : numbers_of (first_gaps least many bytes) ≡ number ∷ numbers_of (first_gaps (number + 1) (many - 1) after)

pub reads_on : (least many number : ℕ) (bytes after : List ℕ) → 0 < many → found number after ≡ first_number least bytes
    → IsSome (first_gaps least many bytes) → ReadsOn least many number bytes after
reads_on least many number bytes after l h some =
    let one : many ≡ suc (many - 1) = omega arith in
    let e : first_gaps least many bytes ≡ before number (first_gaps (number + 1) (many - 1) after) =
    first_gaps_more least many (many - 1) number bytes after one h
    in
    let parts : (IsSome (first_gaps (number + 1) (many - 1) after))
    × (numbers_of (before number (first_gaps (number + 1) (many - 1) after)) ≡ number ∷ numbers_of (first_gaps (number + 1) (many - 1) after)) =
    some_before number (first_gaps (number + 1) (many - 1) after) (rw e at some)
    in record { small = number_fits least number bytes after h; reads = parts.0; numbers = ap numbers_of e ∙ parts.1 }

pub first_gaps_done : (least many : ℕ) (bytes : List ℕ) → many ≡ 0 → first_gaps least many bytes ≡ given [] bytes
unfolding first_gaps
first_gaps_done least many bytes e = rw e refl

pub numbers-none : (least many : ℕ) (bytes : List ℕ) → many ≡ 0 → numbers_of (first_gaps least many bytes) ≡ []
unfolding first_gaps
numbers-none least many bytes e = rw e refl

some_given : (r : Option (List ℕ × List ℕ)) → IsSome r → (tail : List ℕ) × (r ≡ given (numbers_of r) tail)
some_given None h = absurd (cc)
some_given (Some x) h = (x.1, refl)

pub counted : (count least : ℕ) (bytes : List ℕ) → IsSome (first_gaps least count bytes) → count ≡ length (numbers_of (first_gaps least count bytes))
counted count least bytes h =
    let (tail, e) = some_given (first_gaps least count bytes) h in
    sym (first_gaps_counts count least bytes (numbers_of (first_gaps least count bytes)) tail e)

-- ---- a whole gap list

pub record IsWhole (bytes list tail : List ℕ) : Type 0 where
  pub count : at_most 4294967296 (first_varint bytes) ≡ found (length list) (gaps_from 0 list ++ tail)
  pub fits : length list ≤ length (gaps_from 0 list ++ tail)
  pub reads : first_gaps 0 (length list) (gaps_from 0 list ++ tail) ≡ given list tail

pub whole_again : (bytes list tail : List ℕ) → IsRisingList list → bytes ≡ gaps list ++ tail → IsWhole bytes list tail
unfolding gaps
whole_again bytes list tail h e =
    let up : RisesFrom 0 list = rises list h in
    let rest : List ℕ = gaps_from 0 list ++ tail in
    let split : bytes ≡ varint (length list) ++ rest = e ∙ append_assoc (varint (length list)) (gaps_from 0 list) tail in
    let most : length list ≤ 4294967296 = omega (arith, length_rises 0 list (omega arith) up) in
    record {
      count = split_again bytes (length list) rest most split;
      fits = omega (arith, length-gaps_from list 0, length-append (gaps_from 0 list) tail);
      reads = first_gaps_again list 0 tail up;
    }

pub record IsTaken (bytes list tail : List ℕ) : Type 0 where
  pub whole : bytes ≡ gaps list ++ tail
  pub rising : IsRisingList list

end_found : (r : Option (List ℕ × List ℕ)) (tail : List ℕ) → Some tail ≡ option_map (λ x. x.1) r → r ≡ given (numbers_of r) tail
end_found None tail e = absurd (cc)
end_found (Some x) tail e = let same : tail ≡ x.1 = cc in ap (given x.0) (sym same)

pub some_end : (r : Option (List ℕ × List ℕ)) (tail : List ℕ) → Some tail ≡ option_map (λ x. x.1) r → IsSome r
some_end None tail e = absurd (cc)
some_end (Some x) tail e = refl

pub none_or_end : (r : Option (List ℕ × List ℕ)) (list tail : List ℕ) → r ≡ given list tail → None ≡ option_map (λ x. x.1) r → ⊥
none_or_end None list tail e h = absurd (cc)
none_or_end (Some x) list tail e h = absurd (cc)

pub whole_takes : (bytes rest tail : List ℕ) (count : ℕ) → ((i : ℕ) → get_or bytes i 0 < 256) → found count rest ≡ at_most 4294967296 (first_varint bytes)
    → Some tail ≡ option_map (λ x. x.1) (first_gaps 0 count rest) → IsTaken bytes (numbers_of (first_gaps 0 count rest)) tail
unfolding gaps
whole_takes bytes rest tail count fits h e =
    let list : List ℕ = numbers_of (first_gaps 0 count rest) in
    let first : bytes ≡ varint count ++ rest = split_takes bytes count rest fits h in
    let all : All (λ b. b < 256) bytes = All-from_get_or (λ b. b < 256) bytes 0 (λ i _. fits i) in
    let later : IsReadAs 0 count rest list tail =
    first_gaps_takes count 0 rest list tail (all_after bytes count rest all first) (end_found (first_gaps 0 count rest) tail e)
    in
    let whole : bytes ≡ varint (length list) ++ gaps_from 0 list ++ tail =
    first ∙ ap (λ bs. varint count ++ bs) later.spelled ∙ sym (append_assoc (varint count) (gaps_from 0 list) tail)
    ∙ ap (λ (k : ℕ). varint k ++ gaps_from 0 list ++ tail) (sym later.counted)
    in
    record { whole = whole; rising = rising_list 0 list later.rises }

-- bytes with which a list's gaps end
pub whole_length : (bytes list tail : List ℕ) → bytes ≡ gaps list ++ tail → length bytes ≡ length (gaps list) + length tail
whole_length bytes list tail e = ap length e ∙ length-append (gaps list) tail

pub whole_drops : (bytes list tail : List ℕ) → bytes ≡ gaps list ++ tail → bytes ≡ gaps list ++ drop (length bytes - length tail) bytes
whole_drops bytes list tail e =
    let both : length bytes ≡ length (gaps list) + length tail = whole_length bytes list tail e in
    let rest : drop (length bytes - length tail) bytes ≡ tail =
    ap (λ bs. drop (length bytes - length tail) bs) e ∙ drop_at (gaps list) tail (length bytes - length tail) (omega arith)
    in e ∙ ap (λ bs. gaps list ++ bs) (sym rest)

-- ---- no gap list begins another

one_spelling : (x y a b : List ℕ) → IsRisingList a → IsRisingList b → gaps a ++ x ≡ gaps b ++ y → given a x ≡ given b y
one_spelling x y a b up vp e =
    let first : IsWhole (gaps a ++ x) a x = whole_again (gaps a ++ x) a x up refl in
    let second : IsWhole (gaps a ++ x) b y = whole_again (gaps a ++ x) b y vp e in
    let count : length a ≡ length b = same_number _ _ _ _ (sym first.count ∙ second.count) in
    let after : gaps_from 0 a ++ x ≡ gaps_from 0 b ++ y = same_after _ _ _ _ (sym first.count ∙ second.count) in
    sym first.reads ∙ ap (λ (k : ℕ). first_gaps 0 k (gaps_from 0 a ++ x)) count ∙ ap (first_gaps 0 (length b)) after ∙ second.reads

pub one_list_form : (s t x y a b : List ℕ) → IsGapList s a → IsGapList t b → s ++ x ≡ t ++ y → (a ≡ b) × (s ≡ t) × (x ≡ y)
one_list_form s t x y a b h k e =
    let first : IsRisingList a × (s ≡ gaps a) = list_grammar_spells s a h in
    let second : IsRisingList b × (t ≡ gaps b) = list_grammar_spells t b k in
    let whole : gaps a ++ x ≡ gaps b ++ y = ap (λ bs. bs ++ x) (sym first.1) ∙ e ∙ ap (λ bs. bs ++ y) second.1 in
    let read : given a x ≡ given b y = one_spelling x y a b first.0 second.0 whole in
    let same : a ≡ b = same_list a b x y read in
    (same, first.1 ∙ ap gaps same ∙ sym second.1, same_end a b x y read)

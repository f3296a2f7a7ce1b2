-- What is spelled as a posting, or as postings, is read so.
use Rattle.std.proofs.Common.{◌≡◌, ℕ, ◌-◌, ◌<◌, List, [], ◌∷◌, ◌++◌, length, take, drop, refl, ap, ◌∙◌, sym, subst, Option, Some}
use Rattle.std.proofs.lemmas.List.{append_assoc, append-nil, take_at, drop_at, length-drop}
use Rattle.ax_gap.specs.Gaps.{IsRisingList, gaps, gaps_from}
use Rattle.ax_gap.specs.Varint.{varint}
use Rattle.ax_gap.proofs.GapLaws.{given, gaps-parts, first_gaps_again}
use Rattle.ax_gap.proofs.Rising.{rises}
use Rattle.ax_gap.proofs.VarintLaws.{first_varint_again}
use Rattle.ax_leaf.specs.Pairs.{Posting}
use Rattle.ax_leaf.specs.Payload.{common, term_after, list_after, AreGood}
use Rattle.ax_leaf.specs.Reading.{first_list, first_posting, put_before, postings_in}
use Rattle.ax_leaf.specs.ShortTerm.{short_term, whole_term}
use Rattle.ax_leaf.specs.TermList.{Begins, Spells}
use Rattle.ax_leaf.proofs.OneSpelling as one
use Rattle.ax_leaf.proofs.ShortTerms.{short_parts}

abbrev pub found : Posting → List ℕ → Option (Posting × List ℕ)
found posting rest = Some (posting, rest)

pub list_again : (ns rest : List ℕ) → IsRisingList ns → first_list (gaps ns ++ rest) ≡ given ns rest
list_again ns rest h =
    let split : gaps ns ++ rest ≡ varint (length ns) ++ (gaps_from 0 ns ++ rest) =
    ap (λ (bs : List ℕ). bs ++ rest) (gaps-parts ns) ∙ append_assoc (varint (length ns)) (gaps_from 0 ns) rest
    in
    rw (split, first_varint_again (length ns) (gaps_from 0 ns ++ rest)) (first_gaps_again ns 0 rest (rises ns h))

-- a posting of these parts is read, whatever follows it
pub first_read : (last bytes : List ℕ) (shared : ℕ) (part ns after : List ℕ) → Begins bytes shared part ns after
    → first_posting last bytes ≡ found (record { term = whole_term last shared part; numbers = ns }) after
unfolding first_posting
first_read last bytes shared part ns after h =
    let rest : List ℕ = gaps ns ++ after in
    let split : bytes ≡ varint shared ++ (varint (length part) ++ (part ++ rest)) = short_parts bytes shared part rest h.spelled in
    let taken : take (length part) (part ++ rest) ≡ part = take_at part rest (length part) refl in
    let left : drop (length part) (part ++ rest) ≡ rest = drop_at part rest (length part) refl in
    rw (
      split,
      first_varint_again shared (varint (length part) ++ (part ++ rest)),
      first_varint_again (length part)
          (part ++ rest),
      taken,
      left,
      list_again ns after h.rising,
    ) refl

-- a spelled list begins with its first posting
pub list_begins : (last rest : List ℕ) (posting : Posting) (postings : List Posting) → IsRisingList posting.numbers → 0 < length posting.numbers
    → Begins (list_after last (posting ∷ postings) ++ rest) (common last posting.term) (drop (common last posting.term) posting.term) posting.numbers
    (list_after posting.term postings ++ rest)
unfolding list_after term_after short_term
list_begins last rest posting postings rising some =
    let c : ℕ = common last posting.term in
    let part : List ℕ = drop c posting.term in
    let more : List ℕ = list_after posting.term postings in
    let size : varint c ++ varint (length posting.term - c) ++ part ≡ varint c ++ varint (length part) ++ part =
    ap (λ (n : ℕ). varint c ++ varint n ++ part) (sym (length-drop c posting.term))
    in
    record {
      spelled = append_assoc (varint c ++ varint (length posting.term - c) ++ part ++ gaps posting.numbers) more rest
          ∙ append_assoc (varint c ++ varint (length posting.term - c) ++ part) (gaps posting.numbers) (more ++ rest)
          ∙ ap (λ (bs : List ℕ). bs ++ (gaps posting.numbers ++ (more ++ rest))) size;
      some = some;
      rising = rising;
    }

one_posting : (last : List ℕ) (posting : Posting) → (record {
  term =
      whole_term last (common last posting.term) (drop (common last posting.term) posting.term);
  numbers = posting.numbers;
}) ≡ posting
one_posting last posting = ap (λ (t : List ℕ). record { term = t; numbers = posting.numbers }) (sym (one.whole_term last posting.term))

pub list_read : (last rest : List ℕ) (posting : Posting) (postings : List Posting) → IsRisingList posting.numbers → 0 < length posting.numbers
    → first_posting last (list_after last (posting ∷ postings) ++ rest) ≡ found posting (list_after posting.term postings ++ rest)
list_read last rest posting postings rising some =
    first_read last _ _ _ _ _ (list_begins last rest posting postings rising some)
    ∙ ap (λ (p : Posting). found p (list_after posting.term postings ++ rest)) (one_posting last posting)

-- spelled postings are read, and no others
read_again : (postings : List Posting) (last rest : List ℕ) → AreGood postings
    → postings_in (length postings) last (list_after last postings ++ rest) ≡ postings
unfolding postings_in
read_again [] last rest h = refl
read_again (posting ∷ postings) last rest h =
    ap (put_before (postings_in (length postings))) (list_read last rest posting postings h.0.rising h.0.some)
    ∙ ap (λ (ps : List Posting). posting ∷ ps) (read_again postings posting.term rest h.1)

pub seen_as : (last bytes : List ℕ) (count : ℕ) (postings : List Posting) → AreGood postings → length postings ≡ count → bytes ≡ list_after last postings
    → postings_in count last bytes ≡ postings
seen_as last bytes count postings good counted spelled =
    ap (λ (n : ℕ). postings_in n last bytes) (sym counted)
    ∙ ap (postings_in (length postings) last) (spelled ∙ sym (append-nil (list_after last postings)))
    ∙ read_again postings last [] good

pub spells : (last bytes : List ℕ) (count : ℕ) (postings : List Posting) → AreGood postings → length postings ≡ count → bytes ≡ list_after last postings
    → Spells last count bytes
spells last bytes count postings good counted spelled =
    let same : postings ≡ postings_in count last bytes = sym (seen_as last bytes count postings good counted spelled) in
    record {
      spelled = spelled ∙ ap (list_after last) same;
      counted = sym (ap length same) ∙ counted;
      good = subst AreGood same good;
    }

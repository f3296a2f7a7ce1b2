-- A list of postings is its first and a list of those behind it.
use Rattle.std.proofs.Common.{◌≡◌, ℕ, ◌+◌, ◌<◌, ◌≤◌, List, [], ◌∷◌, ◌++◌, length, take, drop, arith, refl, ap, ◌∙◌, sym, subst, zero, suc, Option, Some, nat_eq}
use Rattle.std.proofs.lemmas.List.{append-nil, length-append, length-take-le, drop_at, length-drop}
use Rattle.std.proofs.lemmas.List.Sums.{common_prefix_len-le}
use Rattle.std.specs.Cmp.Lexicographic.{slice_cmp}
use Rattle.std.specs.Ordering.{nat_cmp}
use Rattle.std.specs.declared.cmp.Ordering.TheVariants.{Less}
use Rattle.ax_gap.specs.Gaps.{IsRisingList, gaps}
use Rattle.ax_leaf.specs.Listing.{AreListed, IsListing}
use Rattle.ax_leaf.specs.Pairs.{Posting}
use Rattle.ax_leaf.specs.Payload.{common, list_after, IsPosting, AreAfter}
use Rattle.ax_leaf.specs.Reading.{first_posting}
use Rattle.ax_leaf.specs.ShortTerm.{short_term, whole_term, Follows}
use Rattle.ax_leaf.specs.TermList.{HasListAfter, HasTermList, Begins, BeginsPosting}
use Rattle.ax_leaf.proofs.OneSpelling.{varint_parts}
use Rattle.ax_leaf.proofs.Read.{found, first_read, list_read, list_begins}
use Rattle.ax_leaf.proofs.ShortTerms.{short_parts}

abbrev term_found : Option (Posting × List ℕ) → List ℕ
term_found (Some x) = x.0.term
term_found _ = []

abbrev numbers_found : Option (Posting × List ℕ) → List ℕ
numbers_found (Some x) = x.0.numbers
numbers_found _ = []

abbrev rest_found : Option (Posting × List ℕ) → List ℕ
rest_found (Some x) = x.1
rest_found _ = []

-- bytes that begin with these parts, and are spelled as postings
pub record IsFirst (last : List ℕ) (shared : ℕ) (part numbers after : List ℕ) (posting : Posting) (postings : List Posting) : Type 0 where
  pub shares : shared ≡ common last posting.term
  pub is : whole_term last shared part ≡ posting.term
  pub has : numbers ≡ posting.numbers
  pub leaves : after ≡ list_after posting.term postings

pub first_of : (last bytes : List ℕ) (shared : ℕ) (part ns after : List ℕ) (posting : Posting) (postings : List Posting) → Begins bytes shared part ns after
    → IsPosting posting → bytes ≡ list_after last (posting ∷ postings) → IsFirst last shared part ns after posting postings
first_of last bytes shared part ns after posting postings h is e =
    let rest : List ℕ = list_after posting.term postings in
    let whole : bytes ≡ list_after last (posting ∷ postings) ++ [] = e ∙ sym (append-nil (list_after last (posting ∷ postings))) in
    let begins = list_begins last [] posting postings is.rising is.some in
    let number = varint_parts shared (common last posting.term) _ _
    (sym (short_parts bytes shared part (gaps ns ++ after) h.spelled) ∙ whole
    ∙ short_parts (list_after last (posting ∷ postings) ++ []) (common last posting.term) (drop (common last posting.term) posting.term)
    (gaps posting.numbers ++ (rest ++ [])) begins.spelled)
    in
    let read : found (record { term = whole_term last shared part; numbers = ns }) after ≡ found posting (rest ++ []) =
    sym (first_read last bytes shared part ns after h) ∙ ap (first_posting last) whole ∙ list_read last [] posting postings is.rising is.some
    in
    record {
      shares = number.0;
      is = ap term_found read;
      has = ap numbers_found read;
      leaves = ap rest_found read ∙ append-nil rest;
    }

pub record IsStep (last : List ℕ) (shared : ℕ) (part after : List ℕ) (count : ℕ) : Type 0 where
  pub follows : Follows last shared part
  pub more : HasListAfter (whole_term last shared part) count after

follows_of : (last : List ℕ) (shared : ℕ) (part ns after : List ℕ) (posting : Posting) (postings : List Posting)
    → IsFirst last shared part ns after posting postings
    → IsPosting posting → slice_cmp nat_cmp last posting.term ≡ Less → Follows last shared part
follows_of last shared part ns after posting postings first is less =
    let within = common_prefix_len-le nat_eq last posting.term in
    let short : length (take shared last ++ part) ≡ shared + length part =
    length-append (take shared last) part ∙ ap (λ (n : ℕ). n + length part) (length-take-le shared last (omega (arith, first.shares, within.0)))
    in
    record {
      within = omega (arith, first.shares, within.0);
      short = omega (arith, short, ap length first.is, is.short);
      after = ap (slice_cmp nat_cmp last) first.is ∙ less;
      longest = ap (common last) first.is ∙ sym first.shares;
    }

pub one_less : (last bytes : List ℕ) (shared : ℕ) (part ns after : List ℕ) (count : ℕ) → Begins bytes shared part ns after
    → HasListAfter last (suc count) bytes → IsStep last shared part after count
one_less last bytes shared part ns after count h ([], is) = absurd (omega (arith, is.counted))
one_less last bytes shared part ns after count h (posting ∷ postings, is) =
    let first : IsFirst last shared part ns after posting postings = first_of last bytes shared part ns after posting postings h is.are.1 is.spelled in
    record {
      follows = follows_of last shared part ns after posting postings first is.are.1 is.are.0;
      more = (
        postings,
        record {
          spelled = first.leaves ∙ ap (λ (t : List ℕ). list_after t postings) (sym first.is);
          counted = omega (arith, is.counted);
          are = subst (λ (t : List ℕ). AreAfter t postings) (sym first.is) is.are.2;
        },
      );
    }

-- the spelling of a list from that of its first posting and of the others
pub list_from : (last bytes : List ℕ) (shared : ℕ) (part ns after : List ℕ) (postings : List Posting) → Begins bytes shared part ns after
    → shared ≤ length last → common last (whole_term last shared part) ≡ shared → after ≡ list_after (whole_term last shared part) postings
    → bytes ≡ list_after last (record { term = whole_term last shared part; numbers = ns } ∷ postings)
list_from last bytes shared part ns after postings h within longest e =
    let whole : List ℕ = whole_term last shared part in
    let list : List ℕ = list_after last (record { term = whole; numbers = ns } ∷ postings) in
    let begins = list_begins last [] (record { term = whole; numbers = ns }) postings h.rising h.some in
    let rest : drop shared whole ≡ part = drop_at (take shared last) part shared (length-take-le shared last within) in
    h.spelled ∙ ap (λ (bs : List ℕ). short_term shared part ++ (gaps ns ++ bs)) (e ∙ sym (append-nil (list_after whole postings)))
    ∙ ap (λ (bs : List ℕ). short_term shared bs ++ (gaps ns ++ (list_after whole postings ++ []))) (sym rest)
    ∙ ap (λ (n : ℕ). short_term n (drop n whole) ++ (gaps ns ++ (list_after whole postings ++ []))) (sym longest)
    ∙ sym begins.spelled ∙ append-nil list

posting_is : (last : List ℕ) (shared : ℕ) (part ns : List ℕ) → Follows last shared part → 0 < length ns → IsRisingList ns
    → IsPosting (record { term = whole_term last shared part; numbers = ns })
posting_is last shared part ns h some rising = record {
  short = omega (arith, length-append (take shared last) part, length-take-le shared last h.within, h.short);
  some = some;
  rising = rising;
}

pub one_more : (last bytes : List ℕ) (shared : ℕ) (part ns after : List ℕ) (count : ℕ) → Begins bytes shared part ns after
    → IsStep last shared part after count → HasListAfter last (suc count) bytes
one_more last bytes shared part ns after count h step =
    let (postings, is) = step.more in (
      record { term = whole_term last shared part; numbers = ns } ∷ postings,
      record {
        spelled = list_from last bytes shared part ns after postings h step.follows.within step.follows.longest is.spelled;
        counted = omega (arith, is.counted);
        are = (step.follows.after, posting_is last shared part ns step.follows h.some h.rising, is.are);
      },
    )

-- ---- the first of a list

pub record IsStart (shared : ℕ) (part after : List ℕ) (count : ℕ) : Type 0 where
  pub shares : shared ≡ 0
  pub more : HasListAfter part count after

pub first_less : (bytes : List ℕ) (shared : ℕ) (part ns after : List ℕ) (count : ℕ) → Begins bytes shared part ns after
    → HasTermList (suc count) bytes → IsStart shared part after count
first_less bytes shared part ns after count h ([], is) = absurd (omega (arith, is.counted))
first_less bytes shared part ns after count h (posting ∷ postings, is) =
    let first : IsFirst [] shared part ns after posting postings = first_of [] bytes shared part ns after posting postings h is.are.0 is.spelled in
    let none : shared ≡ 0 = first.shares in
    let term : part ≡ posting.term = ap (λ (n : ℕ). take n [] ++ part) (sym none) ∙ first.is in
    record {
      shares = none;
      more = (
        postings,
        record {
          spelled = first.leaves ∙ ap (λ (t : List ℕ). list_after t postings) (sym term);
          counted = omega (arith, is.counted);
          are = subst (λ (t : List ℕ). AreAfter t postings) (sym term) is.are.1;
        },
      );
    }

pub first_more : (bytes : List ℕ) (shared : ℕ) (part ns after : List ℕ) (count : ℕ) → Begins bytes shared part ns after → length part < 4294967296
    → IsStart shared part after count → HasTermList (suc count) bytes
first_more bytes shared part ns after count h fits start =
    let (postings, is) = start.more in
    let begins : Begins bytes 0 part ns after = subst (λ (n : ℕ). Begins bytes n part ns after) start.shares h in (
      record { term = part; numbers = ns } ∷ postings,
      record {
        spelled = list_from [] bytes 0 part ns after postings begins (omega arith) refl is.spelled;
        counted = omega (arith, is.counted);
        are = (record { short = fits; some = h.some; rising = h.rising }, is.are);
      },
    )

-- ---- the end of a list

pub none_left : (last bytes : List ℕ) → HasListAfter last 0 bytes → bytes ≡ []
unfolding list_after
none_left last bytes ([], is) = is.spelled
none_left last bytes (posting ∷ postings, is) = absurd (omega (arith, is.counted))

pub end_after : (last bytes : List ℕ) (count : ℕ) → count ≡ 0 → bytes ≡ [] → HasListAfter last count bytes
unfolding list_after
end_after last bytes count z e = ([], record { spelled = e; counted = sym z; are = tt })

pub none_listed : (bytes : List ℕ) → HasTermList 0 bytes → bytes ≡ []
unfolding list_after
none_listed bytes ([], is) = is.spelled
none_listed bytes (posting ∷ postings, is) = absurd (omega (arith, is.counted))

pub empty_list : (bytes : List ℕ) (count : ℕ) → count ≡ 0 → bytes ≡ [] → HasTermList count bytes
unfolding list_after
empty_list bytes count z e = ([], record { spelled = e; counted = sym z; are = tt })

-- ---- what a list begins with

-- nothing that is a posting stands at the beginning of these bytes
abbrev pub HasNoFirst : List ℕ → Type 0
HasNoFirst bytes = (shared : ℕ) (part numbers after : List ℕ) → shared < 4294967296 → length part < 4294967296
    → IsRisingList numbers → 0 < length numbers → bytes ≡ short_term shared part ++ (gaps numbers ++ after) → ⊥

-- a spelled list begins with its first posting
first_there : (last bytes : List ℕ) (posting : Posting) (postings : List Posting) → IsPosting posting → bytes ≡ list_after last (posting ∷ postings)
    → BeginsPosting bytes (common last posting.term) (drop (common last posting.term) posting.term) (list_after posting.term postings ++ [])
first_there last bytes posting postings is e =
    let begins = list_begins last [] posting postings is.rising is.some in
    let shorter = common_prefix_len-le nat_eq last posting.term in
    record {
      numbers = posting.numbers;
      begins = record {
        spelled = e ∙ sym (append-nil (list_after last (posting ∷ postings))) ∙ begins.spelled;
        some = is.some;
        rising = is.rising;
      };
      few = omega (arith, shorter.1, is.short);
      short = omega (arith, length-drop (common last posting.term) posting.term, is.short);
    }

pub fits_first : (last bytes : List ℕ) (posting : Posting) (postings : List Posting) → IsPosting posting → bytes ≡ list_after last (posting ∷ postings)
    → HasNoFirst bytes → ⊥
fits_first last bytes posting postings is e none =
    let first = first_there last bytes posting postings is e in
    none _ _ first.numbers _ first.few first.short first.begins.rising first.begins.some first.begins.spelled

pub no_first : (bytes : List ℕ) (count : ℕ) → HasNoFirst bytes → HasTermList (suc count) bytes → ⊥
no_first bytes count none ([], is) = omega (arith, is.counted)
no_first bytes count none (posting ∷ postings, is) = fits_first [] bytes posting postings is.are.0 is.spelled none

-- ---- postings as they are listed

begins_after : (last bytes : List ℕ) (count : ℕ) → HasListAfter last (suc count) bytes
    → (shared : ℕ) × (part : List ℕ) × (after : List ℕ) × BeginsPosting bytes shared part after
begins_after last bytes count ([], is) = absurd (omega (arith, is.counted))
begins_after last bytes count (posting ∷ postings, is) = (
  common last posting.term,
  drop (common last posting.term) posting.term,
  list_after posting.term postings ++ [],
  first_there last bytes posting postings is.are.1 is.spelled,
)

begins_list : (bytes : List ℕ) (count : ℕ) → HasTermList (suc count) bytes → (part : List ℕ) × (after : List ℕ) × BeginsPosting bytes 0 part after
begins_list bytes count ([], is) = absurd (omega (arith, is.counted))
begins_list bytes count (posting ∷ postings, is) =
    (posting.term, list_after posting.term postings ++ [], first_there [] bytes posting postings is.are.0 is.spelled)

list_behind : (count : ℕ) (last bytes : List ℕ) → AreListed BeginsPosting count last bytes → HasListAfter last count bytes
unfolding AreListed
list_behind zero last bytes e = end_after last bytes 0 refl e
list_behind (suc count) last bytes next =
    one_more last bytes next.shared next.part next.begins.numbers next.after count next.begins.begins
    (record { follows = next.follows; more = list_behind count (whole_term last next.shared next.part) next.after next.others })

listed_behind : (count : ℕ) (last bytes : List ℕ) → HasListAfter last count bytes → AreListed BeginsPosting count last bytes
unfolding AreListed
listed_behind zero last bytes h = none_left last bytes h
listed_behind (suc count) last bytes h =
    let (shared, part, after, begins) = begins_after last bytes count h in
    let step = one_less last bytes shared part begins.numbers after count begins.begins h in
    record {
      shared = shared;
      part = part;
      after = after;
      begins = begins;
      follows = step.follows;
      others = listed_behind count (whole_term last shared part) after step.more;
    }

pub list_of : (count : ℕ) (bytes : List ℕ) → IsListing BeginsPosting count bytes → HasTermList count bytes
unfolding IsListing
list_of zero bytes e = empty_list bytes 0 refl e
list_of (suc count) bytes first =
    first_more bytes 0 first.part first.begins.numbers first.after count first.begins.begins first.begins.short
    (record { shares = refl; more = list_behind count first.part first.after first.others })

pub listing_of : (count : ℕ) (bytes : List ℕ) → HasTermList count bytes → IsListing BeginsPosting count bytes
unfolding IsListing
listing_of zero bytes h = none_listed bytes h
listing_of (suc count) bytes h =
    let (part, after, begins) = begins_list bytes count h in
    let start = first_less bytes 0 part begins.numbers after count begins.begins h in
    record { part = part; after = after; begins = begins; others = listed_behind count part after start.more }

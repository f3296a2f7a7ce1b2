-- A list of term changes is its first and a list of those behind it.
use Rattle.std.proofs.Common.{◌≡◌, ℕ, ◌+◌, ◌<◌, ◌≤◌, List, [], ◌∷◌, ◌++◌, length, take, drop, arith, refl, ap, ◌∙◌, sym, subst, zero, suc, Option, Some, nat_eq}
use Rattle.std.proofs.lemmas.List.{append-nil, length-append, length-take-le, drop_at, length-drop}
use Rattle.std.proofs.lemmas.List.Sums.{common_prefix_len-le}
use Rattle.std.specs.Cmp.Lexicographic.{slice_cmp}
use Rattle.std.specs.Ordering.{nat_cmp}
use Rattle.std.specs.declared.cmp.Ordering.TheVariants.{Less}
use Rattle.ax_gap.specs.Gaps.{IsRisingList, gaps}
use Rattle.ax_leaf.specs.Listing.{AreListed, IsListing}
use Rattle.ax_leaf.specs.Payload.{common}
use Rattle.ax_leaf.specs.ShortTerm.{short_term, whole_term, Follows}
use Rattle.ax_leaf.proofs.OneSpelling.{varint_parts}
use Rattle.ax_leaf.proofs.ShortTerms.{short_parts}
use Rattle.ax_delta.specs.Changes.{TermChange}
use Rattle.ax_delta.specs.Payload.{list_after, AreDisjoint, IsTermChange, AreAfter}
use Rattle.ax_delta.specs.Reading.{first_change}
use Rattle.ax_delta.specs.ChangeList.{HasListAfter, HasChangeList, Begins, BeginsChange}
use Rattle.ax_delta.proofs.Read.{found, first_read, list_read, list_begins}

abbrev term_found : Option (TermChange × List ℕ) → List ℕ
term_found (Some x) = x.0.term
term_found _ = []

abbrev added_found : Option (TermChange × List ℕ) → List ℕ
added_found (Some x) = x.0.added
added_found _ = []

abbrev dropped_found : Option (TermChange × List ℕ) → List ℕ
dropped_found (Some x) = x.0.dropped
dropped_found _ = []

abbrev rest_found : Option (TermChange × List ℕ) → List ℕ
rest_found (Some x) = x.1
rest_found _ = []

-- bytes that begin with these parts, and are spelled as term changes
pub record IsFirst (last : List ℕ) (shared : ℕ) (part adds drops after : List ℕ) (change : TermChange) (changes : List TermChange) : Type 0 where
  pub shares : shared ≡ common last change.term
  pub is : whole_term last shared part ≡ change.term
  pub has_added : adds ≡ change.added
  pub has_dropped : drops ≡ change.dropped
  pub leaves : after ≡ list_after change.term changes

pub first_of : (last bytes : List ℕ) (shared : ℕ) (part adds drops after : List ℕ) (change : TermChange) (changes : List TermChange)
    → Begins bytes shared part adds drops after
    → IsTermChange change → bytes ≡ list_after last (change ∷ changes) → IsFirst last shared part adds drops after change changes
first_of last bytes shared part adds drops after change changes h is e =
    let rest : List ℕ = list_after change.term changes in
    let whole : bytes ≡ list_after last (change ∷ changes) ++ [] = e ∙ sym (append-nil (list_after last (change ∷ changes))) in
    let begins = list_begins last [] change changes is in
    let number = varint_parts shared (common last change.term) _ _
    (sym (short_parts bytes shared part (gaps adds ++ (gaps drops ++ after)) h.spelled) ∙ whole
    ∙ short_parts (list_after last (change ∷ changes) ++ []) (common last change.term) (drop (common last change.term) change.term)
    (gaps change.added ++ (gaps change.dropped ++ (rest ++ []))) begins.spelled)
    in
    let read : found (record { term = whole_term last shared part; added = adds; dropped = drops }) after ≡ found change (rest ++ []) =
    sym (first_read last bytes shared part adds drops after h) ∙ ap (first_change last) whole ∙ list_read last [] change changes is
    in
    record {
      shares = number.0;
      is = ap term_found read;
      has_added = ap added_found read;
      has_dropped = ap dropped_found read;
      leaves = ap rest_found read ∙ append-nil rest;
    }

pub record IsStep (last : List ℕ) (shared : ℕ) (part adds drops after : List ℕ) (count : ℕ) : Type 0 where
  pub follows : Follows last shared part
  pub disjoint : AreDisjoint adds drops
  pub more : HasListAfter (whole_term last shared part) count after

follows_of : (last : List ℕ) (shared : ℕ) (part adds drops after : List ℕ) (change : TermChange) (changes : List TermChange)
    → IsFirst last shared part adds drops after change changes
    → IsTermChange change → slice_cmp nat_cmp last change.term ≡ Less → Follows last shared part
follows_of last shared part adds drops after change changes first is less =
    let within = common_prefix_len-le nat_eq last change.term in
    let short : length (take shared last ++ part) ≡ shared + length part =
    length-append (take shared last) part ∙ ap (λ (n : ℕ). n + length part) (length-take-le shared last (omega (arith, first.shares, within.0)))
    in
    record {
      within = omega (arith, first.shares, within.0);
      short = omega (arith, short, ap length first.is, is.short);
      after = ap (slice_cmp nat_cmp last) first.is ∙ less;
      longest = ap (common last) first.is ∙ sym first.shares;
    }

disjoint_of : (adds drops : List ℕ) (change : TermChange) → IsTermChange change → adds ≡ change.added → drops ≡ change.dropped → AreDisjoint adds drops
disjoint_of adds drops change is e f = subst (λ (xs : List ℕ). AreDisjoint xs drops) (sym e)
    (subst (λ (xs : List ℕ). AreDisjoint change.added xs) (sym f) is.disjoint)

pub one_less : (last bytes : List ℕ) (shared : ℕ) (part adds drops after : List ℕ) (count : ℕ) → Begins bytes shared part adds drops after
    → HasListAfter last (suc count) bytes → IsStep last shared part adds drops after count
one_less last bytes shared part adds drops after count h ([], is) = absurd (omega (arith, is.counted))
one_less last bytes shared part adds drops after count h (change ∷ changes, is) =
    let first : IsFirst last shared part adds drops after change changes =
    first_of last bytes shared part adds drops after change changes h is.are.1 is.spelled in
    record {
      follows = follows_of last shared part adds drops after change changes first is.are.1 is.are.0;
      disjoint = disjoint_of adds drops change is.are.1 first.has_added first.has_dropped;
      more = (
        changes,
        record {
          spelled = first.leaves ∙ ap (λ (t : List ℕ). list_after t changes) (sym first.is);
          counted = omega (arith, is.counted);
          are = subst (λ (t : List ℕ). AreAfter t changes) (sym first.is) is.are.2;
        },
      );
    }

-- the term change of these parts
abbrev pub change_with : List ℕ → List ℕ → List ℕ → TermChange
change_with term adds drops = record { term = term; added = adds; dropped = drops }

pub change_is : (last : List ℕ) (bytes : List ℕ) (shared : ℕ) (part adds drops after : List ℕ) → Begins bytes shared part adds drops after
    → shared ≤ length last → shared + length part < 4294967296 → AreDisjoint adds drops → IsTermChange (change_with (whole_term last shared part) adds drops)
change_is last bytes shared part adds drops after h within short disjoint = record {
  short = omega (arith, length-append (take shared last) part, length-take-le shared last within, short);
  some = h.some;
  additions = h.additions;
  removals = h.removals;
  disjoint = disjoint;
}

-- the spelling of a list from that of its first term change and of the others
pub list_from : (last bytes : List ℕ) (shared : ℕ) (part adds drops after : List ℕ) (changes : List TermChange) → Begins bytes shared part adds drops after
    → IsTermChange (change_with (whole_term last shared part) adds drops)
    → shared ≤ length last → common last (whole_term last shared part) ≡ shared → after ≡ list_after (whole_term last shared part) changes
    → bytes ≡ list_after last (change_with (whole_term last shared part) adds drops ∷ changes)
list_from last bytes shared part adds drops after changes h is within longest e =
    let whole : List ℕ = whole_term last shared part in
    let list : List ℕ = list_after last (change_with whole adds drops ∷ changes) in
    let begins = list_begins last [] (change_with whole adds drops) changes is in
    let rest : drop shared whole ≡ part = drop_at (take shared last) part shared (length-take-le shared last within) in
    h.spelled ∙ ap (λ (bs : List ℕ). short_term shared part ++ (gaps adds ++ (gaps drops ++ bs))) (e ∙ sym (append-nil (list_after whole changes)))
    ∙ ap (λ (bs : List ℕ). short_term shared bs ++ (gaps adds ++ (gaps drops ++ (list_after whole changes ++ [])))) (sym rest)
    ∙ ap (λ (n : ℕ). short_term n (drop n whole) ++ (gaps adds ++ (gaps drops ++ (list_after whole changes ++ [])))) (sym longest)
    ∙ sym begins.spelled ∙ append-nil list

pub one_more : (last bytes : List ℕ) (shared : ℕ) (part adds drops after : List ℕ) (count : ℕ) → Begins bytes shared part adds drops after
    → IsStep last shared part adds drops after count → HasListAfter last (suc count) bytes
one_more last bytes shared part adds drops after count h step =
    let (changes, is) = step.more in
    let change : IsTermChange (change_with (whole_term last shared part) adds drops) =
    change_is last bytes shared part adds drops after h step.follows.within step.follows.short step.disjoint in (
      change_with (whole_term last shared part) adds drops ∷ changes,
      record {
        spelled = list_from last bytes shared part adds drops after changes h change step.follows.within step.follows.longest is.spelled;
        counted = omega (arith, is.counted);
        are = (step.follows.after, change, is.are);
      },
    )

-- ---- the first of a list

pub record IsStart (shared : ℕ) (part adds drops after : List ℕ) (count : ℕ) : Type 0 where
  pub shares : shared ≡ 0
  pub disjoint : AreDisjoint adds drops
  pub more : HasListAfter part count after

pub first_less : (bytes : List ℕ) (shared : ℕ) (part adds drops after : List ℕ) (count : ℕ) → Begins bytes shared part adds drops after
    → HasChangeList (suc count) bytes → IsStart shared part adds drops after count
first_less bytes shared part adds drops after count h ([], is) = absurd (omega (arith, is.counted))
first_less bytes shared part adds drops after count h (change ∷ changes, is) =
    let first : IsFirst [] shared part adds drops after change changes = first_of [] bytes shared part adds drops after change changes h is.are.0 is.spelled in
    let none : shared ≡ 0 = first.shares in
    let term : part ≡ change.term = ap (λ (n : ℕ). take n [] ++ part) (sym none) ∙ first.is in
    record {
      shares = none;
      disjoint = disjoint_of adds drops change is.are.0 first.has_added first.has_dropped;
      more = (
        changes,
        record {
          spelled = first.leaves ∙ ap (λ (t : List ℕ). list_after t changes) (sym term);
          counted = omega (arith, is.counted);
          are = subst (λ (t : List ℕ). AreAfter t changes) (sym term) is.are.1;
        },
      );
    }

pub first_more : (bytes : List ℕ) (shared : ℕ) (part adds drops after : List ℕ) (count : ℕ) → Begins bytes shared part adds drops after
    → length part < 4294967296
    → IsStart shared part adds drops after count → HasChangeList (suc count) bytes
first_more bytes shared part adds drops after count h fits start =
    let (changes, is) = start.more in
    let begins : Begins bytes 0 part adds drops after = subst (λ (n : ℕ). Begins bytes n part adds drops after) start.shares h in
    let change : IsTermChange (change_with part adds drops) =
    change_is [] bytes 0 part adds drops after begins (omega arith) (omega (arith, fits)) start.disjoint in (
      change_with part adds drops ∷ changes,
      record {
        spelled = list_from [] bytes 0 part adds drops after changes begins change (omega arith) refl is.spelled;
        counted = omega (arith, is.counted);
        are = (change, is.are);
      },
    )

-- ---- the end of a list

pub none_left : (last bytes : List ℕ) → HasListAfter last 0 bytes → bytes ≡ []
unfolding list_after
none_left last bytes ([], is) = is.spelled
none_left last bytes (change ∷ changes, is) = absurd (omega (arith, is.counted))

pub end_after : (last bytes : List ℕ) (count : ℕ) → count ≡ 0 → bytes ≡ [] → HasListAfter last count bytes
unfolding list_after
end_after last bytes count z e = ([], record { spelled = e; counted = sym z; are = tt })

-- ---- what a list begins with

-- nothing that is a term change stands at the beginning of these bytes
abbrev pub HasNoFirst : List ℕ → Type 0
HasNoFirst bytes = (shared : ℕ) (part added dropped after : List ℕ) → shared < 4294967296 → length part < 4294967296
    → IsRisingList added → IsRisingList dropped → 0 < length added + length dropped
    → bytes ≡ short_term shared part ++ (gaps added ++ (gaps dropped ++ after)) → ⊥

-- a spelled list begins with its first term change
first_there : (last bytes : List ℕ) (change : TermChange) (changes : List TermChange) → IsTermChange change → bytes ≡ list_after last (change ∷ changes)
    → BeginsChange bytes (common last change.term) (drop (common last change.term) change.term) (list_after change.term changes ++ [])
first_there last bytes change changes is e =
    let begins = list_begins last [] change changes is in
    let shorter = common_prefix_len-le nat_eq last change.term in
    record {
      added = change.added;
      dropped = change.dropped;
      begins = record {
        spelled = e ∙ sym (append-nil (list_after last (change ∷ changes))) ∙ begins.spelled;
        some = is.some;
        additions = is.additions;
        removals = is.removals;
      };
      disjoint = is.disjoint;
      few = omega (arith, shorter.1, is.short);
      short = omega (arith, length-drop (common last change.term) change.term, is.short);
    }

pub fits_first : (last bytes : List ℕ) (change : TermChange) (changes : List TermChange) → IsTermChange change → bytes ≡ list_after last (change ∷ changes)
    → HasNoFirst bytes → ⊥
fits_first last bytes change changes is e none =
    let first = first_there last bytes change changes is e in
    none _ _ first.added first.dropped _ first.few first.short first.begins.additions first.begins.removals first.begins.some first.begins.spelled

-- ---- term changes as they are listed

begins_after : (last bytes : List ℕ) (count : ℕ) → HasListAfter last (suc count) bytes
    → (shared : ℕ) × (part : List ℕ) × (after : List ℕ) × BeginsChange bytes shared part after
begins_after last bytes count ([], is) = absurd (omega (arith, is.counted))
begins_after last bytes count (change ∷ changes, is) = (
  common last change.term,
  drop (common last change.term) change.term,
  list_after change.term changes ++ [],
  first_there last bytes change changes is.are.1 is.spelled,
)

begins_list : (bytes : List ℕ) (count : ℕ) → HasChangeList (suc count) bytes → (part : List ℕ) × (after : List ℕ) × BeginsChange bytes 0 part after
begins_list bytes count ([], is) = absurd (omega (arith, is.counted))
begins_list bytes count (change ∷ changes, is) =
    (change.term, list_after change.term changes ++ [], first_there [] bytes change changes is.are.0 is.spelled)

list_behind : (count : ℕ) (last bytes : List ℕ) → AreListed BeginsChange count last bytes → HasListAfter last count bytes
unfolding AreListed
list_behind zero last bytes e = end_after last bytes 0 refl e
list_behind (suc count) last bytes next =
    let first = next.begins in
    one_more last bytes next.shared next.part first.added first.dropped next.after count first.begins
    (record {
      follows = next.follows;
      disjoint = first.disjoint;
      more = list_behind count (whole_term last next.shared next.part) next.after next.others;
    })

listed_behind : (count : ℕ) (last bytes : List ℕ) → HasListAfter last count bytes → AreListed BeginsChange count last bytes
unfolding AreListed
listed_behind zero last bytes h = none_left last bytes h
listed_behind (suc count) last bytes h =
    let (shared, part, after, begins) = begins_after last bytes count h in
    let step = one_less last bytes shared part begins.added begins.dropped after count begins.begins h in
    record {
      shared = shared;
      part = part;
      after = after;
      begins = begins;
      follows = step.follows;
      others = listed_behind count (whole_term last shared part) after step.more;
    }

pub list_of : (count : ℕ) (bytes : List ℕ) → 0 < count → IsListing BeginsChange count bytes → HasChangeList count bytes
unfolding IsListing
list_of zero bytes some e = absurd (omega (arith, some))
list_of (suc count) bytes some first =
    first_more bytes 0 first.part first.begins.added first.begins.dropped first.after count first.begins.begins first.begins.short
    (record { shares = refl; disjoint = first.begins.disjoint; more = list_behind count first.part first.after first.others })

pub listing_of : (count : ℕ) (bytes : List ℕ) → 0 < count → HasChangeList count bytes → IsListing BeginsChange count bytes
unfolding IsListing
listing_of zero bytes some h = absurd (omega (arith, some))
listing_of (suc count) bytes some h =
    let (part, after, begins) = begins_list bytes count h in
    let start = first_less bytes 0 part begins.added begins.dropped after count begins.begins h in
    record { part = part; after = after; begins = begins; others = listed_behind count part after start.more }

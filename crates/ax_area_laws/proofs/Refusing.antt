-- What is refused in the words of the store is refused in those of all versions, and the other way
-- round: a part by itself, and an item that begins with it.
use Rattle.std.proofs.Common.{◌≡◌, ℕ, ◌==◌, Bool, true, false, List, [], ◌∷◌, ◌++◌, Option}
use Rattle.std.proofs.Common.{refl, sym, ap, subst, ◌∙◌, arith}
use Rattle.std.specs.Prelude.{Some, None, ◌&&◌, ◌-◌, nat_lt, nat_le, if◌then◌else◌, length, drop}
use Rattle.std.specs.Prelude.{option_and_then, slice_index}
use Rattle.std.proofs.lemmas.Bool.{and_from, eqb-true}
use Rattle.ax_frame.specs.Part.{PartValue, Fits}
use Rattle.ax_pages.specs.declared.page.Kind.{Kind}
use Rattle.ax_pages.specs.declared.page.Kind.TheVariants as log_kind
use Rattle.ax_pages.specs.Contents as log
use Rattle.ax_pages.specs.AfterPart as log_after
use Rattle.ax_pages.specs.AfterPart.{kind_of, after_kind, after_part, last_policy, is_base, is_delta}
use Rattle.ax_pages.specs.declared.numbers.TheConstants.{NEWEST_VERSION}
use Rattle.ax_area.specs.declared.kind.Kind.TheVariants as kind
use Rattle.ax_area.specs.Kinds.{Row, row, known_in, kind_in}
use Rattle.ax_area.specs.Items.{Item, IsItem, ArePieces, single, number_at, first_bytes, piece_bytes}
use Rattle.ax_area.specs.Items.{missing_behind}
use Rattle.ax_area.specs.Changes.{Change, Written, Numbers, change_by, change_of}
use Rattle.ax_area.specs.Changes as change
use Rattle.ax_area.specs.Contents.{Contents, has_room, may_follow, is_allowed}
use Rattle.ax_area.specs.Contents.{with_change, after_change}
use Rattle.ax_area.proofs.OneTelling.{same_some, some_or_none}
use Rattle.ax_area_laws.specs.Agree.{Agree}
use Rattle.ax_area_laws.proofs.Stepping.{step, kind_number, said_as}
use Rattle.ax_area_laws.proofs.Stepping.{given_same, room_same}

-- ---- kinds that the first version has not

-- by the tests of the ten rows, in order
abbrev found_by : Bool → Bool → Bool → Bool → Bool → Bool → Bool → Bool → Bool → Bool → Option Row
found_by a b c d e f g h i j =
    if a then Some (row 1 1 kind.PlainMeta) else (if b then Some (row 2 1 kind.Policy)
    else (if c then Some (row 3 1 kind.PlainDocument) else (if d then Some (row 4 1 kind.Gone)
    else (if e then Some (row 5 1 kind.Base) else (if f then Some (row 6 1 kind.Delta)
    else (if g then Some (row 7 2 kind.Document) else (if h then Some (row 8 2 kind.Meta)
    else (if i then Some (row 9 3 kind.LongDocument) else (if j then Some (row 10 3 kind.Piece)
    else None)))))))))

later_kinds : (g h i j : Bool)
    → option_and_then (known_in NEWEST_VERSION) (found_by false false false false false false g h i j) ≡ None
later_kinds true h i j = refl
later_kinds false true i j = refl
later_kinds false false true j = refl
later_kinds false false false true = refl
later_kinds false false false false = refl

-- the number of a kind is none that has no kind
apart_from : (m : ℕ) (k : Kind) → kind_of m ≡ Some k → (n : ℕ) → kind_of n ≡ None
    → (m == n) ≡ false
apart_from m k is n none = by_test (m == n) refl
  where
    by_test : (b : Bool) → (m == n) ≡ b → b ≡ false
    by_test true same =
        absurd (some_or_none k (sym none ∙ ap kind_of (sym (eqb-true m n same)) ∙ is))
    by_test false same = refl

pub no_kind : (n : ℕ) → kind_of n ≡ None → kind_in NEWEST_VERSION n ≡ None
no_kind n none =
    let one = apart_from 1 log_kind.Meta refl n none in
    let two = apart_from 2 log_kind.Policy refl n none in
    let three = apart_from 3 log_kind.Document refl n none in
    let four = apart_from 4 log_kind.Gone refl n none in
    let five = apart_from 5 log_kind.Base refl n none in
    let six = apart_from 6 log_kind.Delta refl n none in
    (λ t. option_and_then (known_in NEWEST_VERSION) (found_by (one t) (two t) (three t) (four t) (five t)
    (six t) (7 == n) (8 == n) (9 == n) (10 == n))) ∙ later_kinds (7 == n) (8 == n) (9 == n) (10 == n)

-- ---- an item of the first version is one part

-- what an item says may not follow, or it says nothing
abbrev pub said_next : Contents → Item → Option Contents
said_next contents item =
    option_and_then (λ change. after_change change contents) (change_of NEWEST_VERSION item)

no_pieces : (key missing : ℕ) (pieces : List PartValue) → missing ≡ 0
    → ArePieces key missing pieces → pieces ≡ []
no_pieces key missing [] none are = refl
no_pieces key missing (piece ∷ pieces) none are = absurd (omega (arith, none, are.0.due))

pub by_itself : (item : Item) → IsItem item → (item.first.kind == 9) ≡ false
    → item ≡ single item.first
by_itself item is other =
    let missing : missing_behind item.first ≡ 0 =
    ap (λ b. if b && length item.first.payload == piece_bytes
    then number_at 9 item.first.payload - first_bytes else 0) other in
    let none = no_pieces item.first.key (missing_behind item.first) item.pieces missing is.pieces in
    λ t. record { first = item.first; pieces = none t }

-- what says a change is no first part of a long document, and so it is one part
pub not_long : (item : Item) (change : Change) → change_of NEWEST_VERSION item ≡ Some change
    → (item.first.kind == 9) ≡ false
not_long item change says = by_test (item.first.kind == 9) refl
  where
    by_test : (b : Bool) → (item.first.kind == 9) ≡ b → b ≡ false
    by_test true nine =
        absurd (some_or_none change (sym (ap (λ n. change_by (kind_in NEWEST_VERSION n) item.first item.pieces)
        (eqb-true item.first.kind 9 nine)) ∙ says))
    by_test false other = refl

pub said_alone : (item : Item) (change : Change) → IsItem item → change_of NEWEST_VERSION item ≡ Some change
    → item ≡ single item.first
said_alone item change is says = by_itself item is (not_long item change says)

-- a part of a known kind is no first part of a long document
pub known_alone : (k : Kind) (n : ℕ) → kind_of n ≡ Some k → (n == 9) ≡ false
known_alone k n is = by_test (n == 9) refl
  where
    by_test : (b : Bool) → (n == 9) ≡ b → b ≡ false
    by_test true same = absurd (some_or_none k (sym (ap kind_of (eqb-true n 9 same)) ∙ is))
    by_test false same = refl

-- ---- one part that is refused

refused_test : (test : Bool) (x : log.Contents) → (if test then Some x else None) ≡ None
    → test ≡ false
refused_test true x e = absurd (some_or_none x (sym e))
refused_test false x e = refl

never : (test : Bool) → test ≡ true → test ≡ false → ⊥
never test is not = true_or_false (sym is ∙ not)
  where
    true_or_false : true ≡ false → ⊥
    true_or_false e = cc

module _ (part : PartValue) (old : log.Contents) (new : Contents) (fits : Fits part)
    (agree : Agree old new) where
  abbrev Refused : Type 0
  Refused = said_next new (single part) ≡ None

  says_none : (n : ℕ) → part.kind ≡ n
      → option_and_then (λ change. after_change change new) (change_by (kind_in NEWEST_VERSION n) part []) ≡ None
      → Refused
  says_none n is none =
      ap (option_and_then (λ change. after_change change new))
      (said_as part old new fits agree n is) ∙ none

  not_next : (test : Bool) (change : Change) → (test ≡ true → is_allowed change new ≡ false)
      → option_and_then (λ change. after_change change new) (if test then Some change else None) ≡ None
  not_next true change refuses =
      ap (λ b. if b then Some (with_change change new) else None) (refuses refl)
  not_next false change refuses = refl

  -- what a meta says
  abbrev numbers : Numbers
  numbers = record {
    next = number_at 0 part.payload;
    policy = number_at 4 part.payload;
    version = None;
  }

  meta : part.kind ≡ 1 → log_after.is_meta part.key part.payload old ≡ false → Refused
  meta is_kind refused =
      says_none 1 is_kind (not_next _ (change.Meta numbers)
      (λ says. by_given says (log.is_given (number_at 4 part.payload) old) refl))
    where
      by_given : (part.key == 0 && length part.payload == 8
          && nat_lt 0 (number_at 0 part.payload)) ≡ true
          → (b : Bool) → log.is_given (number_at 4 part.payload) old ≡ b
          → is_allowed (change.Meta numbers) new ≡ false
      by_given says true given =
          absurd (never _ (and_from _ _ says given) refused)
      by_given says false not_given =
          ap (λ b. b && may_follow None new) (given_same part old new fits agree (number_at 4 part.payload) ∙ not_given)

  policy : part.kind ≡ 2 → nat_le part.key last_policy ≡ false → Refused
  policy is_kind refused =
      says_none 2 is_kind (not_next _ (change.Policy part.key part.payload)
      (λ says. absurd (never _ says refused)))

  -- what a document says
  abbrev written : Written
  written = record {
    policy = slice_index part.payload 0;
    version = None;
    text = drop 1 part.payload ++ [];
  }

  document : part.kind ≡ 3 → log_after.is_document part.key part.payload old ≡ false → Refused
  document is_kind refused =
      says_none 3 is_kind (not_next _ (change.Document part.key written)
      (λ says. by_tests says (log.is_given (slice_index part.payload 0) old)
      (log_after.has_room part.key old) refl refl))
    where
      by_tests : (nat_lt 0 part.key && nat_lt 0 (length part.payload)) ≡ true → (b c : Bool)
          → log.is_given (slice_index part.payload 0) old ≡ b
          → log_after.has_room part.key old ≡ c
          → is_allowed (change.Document part.key written) new ≡ false
      by_tests says true true given room =
          absurd (never _ (and_from _ _ (and_from _ _ says given) room) refused)
      by_tests says true false given full =
          (λ t. (given_same part old new fits agree (slice_index part.payload 0) ∙ given) t
          && ((room_same part old new fits agree part.key ∙ full) t && may_follow None new))
      by_tests says false c not_given room =
          ap (λ b. b && (has_room part.key new && may_follow None new))
          (given_same part old new fits agree (slice_index part.payload 0) ∙ not_given)

  gone : part.kind ≡ 4 → log_after.is_gone part.key part.payload ≡ false → Refused
  gone is_kind refused =
      says_none 4 is_kind (not_next _ (change.Gone part.key)
      (λ says. absurd (never _ says refused)))

  base : part.kind ≡ 5 → is_base part.key part.payload old.terms ≡ false → Refused
  base is_kind refused =
      says_none 5 is_kind (not_next _ (change.Base part.key part.payload)
      (λ says. ap (is_base part.key part.payload) agree.terms ∙ refused))

  delta : part.kind ≡ 6 → is_delta part.key old.terms ≡ false → Refused
  delta is_kind refused =
      says_none 6 is_kind (ap (λ b. if b then Some (with_change (change.Delta part.key part.payload) new) else None)
      (ap (is_delta part.key) agree.terms ∙ refused))

  -- whatever kind it is of

  pub refused : after_part part old ≡ None → Refused
  refused none = by_kind (kind_of part.kind) refl none
    where
      by_kind : (found : Option Kind) → kind_of part.kind ≡ found
          → after_kind found part.key part.payload old ≡ None → Refused
      by_kind None is e =
          ap (λ k. option_and_then (λ change. after_change change new) (change_by k part []))
          (no_kind part.kind is)
      by_kind (Some log_kind.Meta) is e =
          meta (kind_number part.kind log_kind.Meta is) (refused_test _ _ e)
      by_kind (Some log_kind.Policy) is e =
          policy (kind_number part.kind log_kind.Policy is) (refused_test _ _ e)
      by_kind (Some log_kind.Document) is e =
          document (kind_number part.kind log_kind.Document is) (refused_test _ _ e)
      by_kind (Some log_kind.Gone) is e =
          gone (kind_number part.kind log_kind.Gone is) (refused_test _ _ e)
      by_kind (Some log_kind.Base) is e =
          base (kind_number part.kind log_kind.Base is) (refused_test _ _ e)
      by_kind (Some log_kind.Delta) is e =
          delta (kind_number part.kind log_kind.Delta is) (refused_test _ _ e)

-- ---- an item, and the part with which it begins

-- an item whose first part is refused is refused
pub refused_item : (item : Item) (old : log.Contents) (new : Contents) → IsItem item → Agree old new
    → after_part item.first old ≡ None → said_next new item ≡ None
refused_item item old new is agree none = by_test (item.first.kind == 9) refl
  where
    by_test : (b : Bool) → (item.first.kind == 9) ≡ b → said_next new item ≡ None
    by_test true nine =
        ap (λ k. option_and_then (λ change. after_change change new) (change_by k item.first item.pieces))
        (ap (kind_in NEWEST_VERSION) (eqb-true item.first.kind 9 nine))
    by_test false other =
        ap (said_next new) (by_itself item is other)
        ∙ refused item.first old new is.fit.0 agree none

-- an item that says what leads on is one part, which leads on to contents that agree
pub record LeadsToo (item : Item) (change : Change) (old : log.Contents) (reached : Contents) : Type 0 where
  pub single_is : item ≡ single item.first
  pub after : log.Contents
  pub leads : after_part item.first old ≡ Some after
  pub agree : Agree after reached

pub leads_too : (item : Item) (change : Change) (old : log.Contents) (new reached : Contents) → IsItem item
    → Agree old new → change_of NEWEST_VERSION item ≡ Some change
    → after_change change new ≡ Some reached → LeadsToo item change old reached
leads_too item change old new reached is agree says leads = by_part (after_part item.first old) refl
  where
    next_is : said_next new item ≡ Some reached
    next_is = ap (option_and_then (λ change. after_change change new)) says ∙ leads

    by_kind : (after : log.Contents) → after_part item.first old ≡ Some after → (found : Option Kind)
        → kind_of item.first.kind ≡ found → LeadsToo item change old reached
    by_kind after e None none =
        absurd (some_or_none after (sym (ap (λ k. after_kind k item.first.key item.first.payload old) none) ∙ e))
    by_kind after e (Some k) found =
        let one = by_itself item is (known_alone k item.first.kind found) in
        let steps = step item.first old new is.fit.0 agree after e in
        let same : Some steps.reached ≡ Some reached =
        sym (ap (option_and_then (λ change. after_change change new)) steps.says ∙ steps.leads)
        ∙ sym (ap (said_next new) one) ∙ next_is in
        record {
          single_is = one;
          after = after;
          leads = e;
          agree = subst (Agree after) (same_some steps.reached reached same) steps.agree;
        }

    by_part : (found : Option log.Contents) → after_part item.first old ≡ found
        → LeadsToo item change old reached
    by_part None none =
        absurd (some_or_none reached (sym (refused_item item old new is agree none) ∙ next_is))
    by_part (Some after) e = by_kind after e (kind_of item.first.kind) refl

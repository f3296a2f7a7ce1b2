-- A part that leads from contents to contents in the words of the log is an item that says a change,
-- and the change leads on to contents that agree.
use Rattle.std.proofs.Common.{◌≡◌, ℕ, ◌==◌, Bool, true, false, List, [], ◌++◌}
use Rattle.std.proofs.Common.{Option, length, drop, refl, sym, ap, subst, ◌∙◌, ⊎_elim}
use Rattle.std.specs.Prelude.{Some, None, not, ◌&&◌, ◌||◌, ◌-◌, nat_lt, nat_le, if◌then◌else◌, is_some}
use Rattle.std.specs.Prelude.{slice_index}
use Rattle.std.specs.Option.{unwrap_or, option_map}
use Rattle.std.proofs.lemmas.Bool.{and_from, cases_eq, eqb-true}
use Rattle.std.proofs.lemmas.List.{append-nil}
use Rattle.std.specs.FinMap as finite
use Rattle.ax_frame.specs.Part.{PartValue, Fits}
use Rattle.ax_pages.specs.declared.page.Kind.{Kind}
use Rattle.ax_pages.specs.declared.page.Kind.TheVariants as log_kind
use Rattle.ax_pages.specs.Contents as log
use Rattle.ax_pages.specs.AfterPart as log_after
use Rattle.ax_pages.specs.AfterPart.{kind_of, after_kind, after_part, most_documents, last_policy}
use Rattle.ax_pages.specs.AfterPart.{is_base, is_delta, after_base, after_delta}
use Rattle.ax_pages.proofs.LastPart.{passed, held, get_inserted, get_not_inserted, get_removed}
use Rattle.ax_pages.proofs.LastPart.{get_not_removed}
use Rattle.ax_pages.specs.declared.numbers.TheConstants.{NEWEST_VERSION}
use Rattle.ax_area.specs.Kinds.{kind_in}
use Rattle.ax_area.specs.Items.{IsItem, single, number_at, first_bytes, piece_bytes}
use Rattle.ax_area.specs.Changes.{Change, Written, Numbers, change_by, change_of}
use Rattle.ax_area.specs.Changes as change
use Rattle.ax_area.specs.Contents.{Contents, Stored, stored, is_given, has_room, may_follow}
use Rattle.ax_area.specs.Contents.{is_allowed, with_change, after_change}
use Rattle.ax_area.proofs.OneTelling.{some_or_none}
use Rattle.ax_area_laws.specs.Agree.{shown_by, Agree}
use Rattle.ax_area_laws.proofs.Documents.{as_many}

-- ---- kinds

abbrev number_of : Kind → ℕ
number_of log_kind.Meta = 1
number_of log_kind.Policy = 2
number_of log_kind.Document = 3
number_of log_kind.Gone = 4
number_of log_kind.Base = 5
number_of log_kind.Delta = 6

same_kind : (one other : Kind) → Some one ≡ Some other → number_of one ≡ number_of other
same_kind one other e = ap (λ found. number_of (unwrap_or found one)) e

-- a kind is found by its own number, or among the others
by_number : (one : Kind) (n : ℕ) (k : Kind) (others : Option Kind)
    → (others ≡ Some k → n ≡ number_of k)
    → (if n == number_of one then Some one else others) ≡ Some k → n ≡ number_of k
by_number one n k others later e =
    elim (n == number_of one) as (λ b. (n == number_of one) ≡ b
    → (if b then Some one else others) ≡ Some k → n ≡ number_of k) [
      | true ↦ λ is found. eqb-true n (number_of one) is ∙ same_kind one k found
      | false ↦ λ other found. later found
    ] refl e

pub kind_number : (n : ℕ) (k : Kind) → kind_of n ≡ Some k → n ≡ number_of k
kind_number n k =
    by_number log_kind.Meta n k _ (by_number log_kind.Policy n k _
    (by_number log_kind.Document n k _ (by_number log_kind.Gone n k _
    (by_number log_kind.Base n k _ (by_number log_kind.Delta n k None
    (λ none. absurd (some_or_none k none)))))))

-- ---- tests

pub both_of : (a b : Bool) → (a && b) ≡ true → (a ≡ true) × (b ≡ true)
both_of true b e = (refl, e)
both_of false b e = absurd (cc e)

said : (test : Bool) (change : Change) → test ≡ true
    → (if test then Some change else None) ≡ Some change
said test change is = ap (λ b. if b then Some change else None) is

there_alike : (number : ℕ) (found : Option (List ℕ))
    → is_some (option_map (shown_by number) found) ≡ is_some found
there_alike number None = refl
there_alike number (Some payload) = refl

-- ---- one part

-- the part by itself says a change, which leads to contents that agree
pub record Steps (part : PartValue) (after : log.Contents) (new : Contents) : Type 0 where
  pub change : Change
  pub item : IsItem (single part)
  pub says : change_of NEWEST_VERSION (single part) ≡ Some change
  pub reached : Contents
  pub leads : after_change change new ≡ Some reached
  pub agree : Agree after reached

module _ (part : PartValue) (old : log.Contents) (new : Contents) (fits : Fits part)
    (agree : Agree old new) where
  -- a part of a kind that has no pieces
  pub alone : (n : ℕ) → part.kind ≡ n → (n == 9) ≡ false → IsItem (single part)
  alone n is other = record {
    fit = (fits, tt);
    pieces = ap (λ n. if n == 9 && length part.payload == piece_bytes
        then number_at 9 part.payload - first_bytes else 0) is
        ∙ ap (λ b. if b && length part.payload == piece_bytes
        then number_at 9 part.payload - first_bytes else 0) other;
  }

  pub said_as : (n : ℕ) → part.kind ≡ n
      → change_of NEWEST_VERSION (single part) ≡ change_by (kind_in NEWEST_VERSION n) part []
  said_as n is = ap (λ n. change_by (kind_in NEWEST_VERSION n) part []) is

  leads_to : (change : Change) → is_allowed change new ≡ true
      → after_change change new ≡ Some (with_change change new)
  leads_to change allowed = ap (λ b. if b then Some (with_change change new) else None) allowed

  pub given_same : (policy : ℕ) → is_given policy new ≡ log.is_given policy old
  given_same policy =
      ap (λ (policies : log.Numbered). policy == 0 || finite.contains_key policies policy)
      agree.policies

  given_too : (policy : ℕ) → log.is_given policy old ≡ true → is_given policy new ≡ true
  given_too policy is = given_same policy ∙ is

  pub plain : may_follow None new ≡ true
  plain = ap not agree.versioned

  pub room_same : (number : ℕ) → has_room number new ≡ log_after.has_room number old
  room_same number =
      let there : finite.contains_key new.documents number
      ≡ finite.contains_key old.documents number =
      ap is_some (agree.documents number) ∙ there_alike number (finite.get old.documents number) in
      let many : finite.len new.documents ≡ finite.len old.documents =
      as_many old.documents new.documents agree.documents in
      λ i. there i || nat_lt (many i) most_documents

  room_too : (number : ℕ) → log_after.has_room number old ≡ true → has_room number new ≡ true
  room_too number is = room_same number ∙ is

  -- ---- each kind

  meta : part.kind ≡ 1 → log_after.is_meta part.key part.payload old ≡ true
      → Steps part (record old { meta = Some part.payload }) new
  meta is_kind is =
      let front = both_of _ _ is in
      let numbers : Numbers = record {
        next = number_at 0 part.payload;
        policy = number_at 4 part.payload;
        version = None;
      } in
      record {
        change = change.Meta numbers;
        item = alone 1 is_kind refl;
        says = said_as 1 is_kind ∙ said _ (change.Meta numbers) front.0;
        reached = with_change (change.Meta numbers) new;
        leads = leads_to (change.Meta numbers)
            (and_from _ _ (given_too (number_at 4 part.payload) front.1) plain);
        agree = record {
          next_number = refl;
          next_version = refl;
          policy_now = refl;
          policies = agree.policies;
          documents = agree.documents;
          terms = agree.terms;
          versioned = agree.versioned;
        };
      }

  policy : part.kind ≡ 2 → nat_le part.key last_policy ≡ true
      → Steps part (record old { policies = finite.insert old.policies part.key part.payload }) new
  policy is_kind is = record {
    change = change.Policy part.key part.payload;
    item = alone 2 is_kind refl;
    says = said_as 2 is_kind ∙ said _ (change.Policy part.key part.payload) is;
    reached = with_change (change.Policy part.key part.payload) new;
    leads = leads_to (change.Policy part.key part.payload) refl;
    agree = record {
      next_number = agree.next_number;
      next_version = agree.next_version;
      policy_now = agree.policy_now;
      policies = ap (λ (policies : log.Numbered). finite.insert policies part.key part.payload)
          agree.policies;
      documents = agree.documents;
      terms = agree.terms;
      versioned = agree.versioned;
    };
  }

  document : part.kind ≡ 3 → log_after.is_document part.key part.payload old ≡ true
      → Steps part (record old { documents = finite.insert old.documents part.key part.payload })
      new
  document is_kind is =
      let room = both_of _ _ is in
      let given = both_of _ _ room.0 in
      let written : Written = record {
        policy = slice_index part.payload 0;
        version = None;
        text = drop 1 part.payload ++ [];
      } in
      record {
        change = change.Document part.key written;
        item = alone 3 is_kind refl;
        says = said_as 3 is_kind ∙ said _ (change.Document part.key written) given.0;
        reached = with_change (change.Document part.key written) new;
        leads = leads_to (change.Document part.key written)
            (and_from _ _ (given_too (slice_index part.payload 0) given.1)
            (and_from _ _ (room_too part.key room.1) plain));
        agree = record {
          next_number = agree.next_number;
          next_version = agree.next_version;
          policy_now = agree.policy_now;
          policies = agree.policies;
          documents = with_it (stored part.key written)
              (λ i. record {
                policy = slice_index part.payload 0;
                version = part.key;
                text = append-nil (drop 1 part.payload) i;
              });
          terms = agree.terms;
          versioned = agree.versioned;
        };
      }
    where
      with_it : (document : Stored) → document ≡ shown_by part.key part.payload → (number : ℕ)
          → finite.get (finite.insert new.documents part.key document) number
          ≡ option_map (shown_by number)
          (finite.get (finite.insert old.documents part.key part.payload) number)
      with_it document is number =
          ⊎_elim
          (λ (same : number ≡ part.key).
          subst (λ n. finite.get (finite.insert new.documents part.key document) n
          ≡ option_map (shown_by n)
          (finite.get (finite.insert old.documents part.key part.payload) n)) (sym same)
          (get_inserted new.documents part.key document ∙ ap Some is
          ∙ sym (ap (option_map (shown_by part.key))
          (get_inserted old.documents part.key part.payload))))
          (λ (apart : number ≡ part.key → ⊥).
          get_not_inserted new.documents part.key number document apart ∙ agree.documents number
          ∙ sym (ap (option_map (shown_by number))
          (get_not_inserted old.documents part.key number part.payload apart)))
          (cases_eq number part.key)

  gone : part.kind ≡ 4 → log_after.is_gone part.key part.payload ≡ true
      → Steps part (record old { documents = finite.remove old.documents part.key }) new
  gone is_kind is = record {
    change = change.Gone part.key;
    item = alone 4 is_kind refl;
    says = said_as 4 is_kind ∙ said _ (change.Gone part.key) is;
    reached = with_change (change.Gone part.key) new;
    leads = leads_to (change.Gone part.key) refl;
    agree = record {
      next_number = agree.next_number;
      next_version = agree.next_version;
      policy_now = agree.policy_now;
      policies = agree.policies;
      documents = without;
      terms = agree.terms;
      versioned = agree.versioned;
    };
  }
    where
      without : (number : ℕ) → finite.get (finite.remove new.documents part.key) number
          ≡ option_map (shown_by number) (finite.get (finite.remove old.documents part.key) number)
      without number =
          ⊎_elim
          (λ (same : number ≡ part.key).
          subst (λ n. finite.get (finite.remove new.documents part.key) n
          ≡ option_map (shown_by n) (finite.get (finite.remove old.documents part.key) n))
          (sym same)
          (get_removed new.documents part.key
          ∙ sym (ap (option_map (shown_by part.key)) (get_removed old.documents part.key))))
          (λ (apart : number ≡ part.key → ⊥).
          get_not_removed new.documents part.key number apart ∙ agree.documents number
          ∙ sym (ap (option_map (shown_by number))
          (get_not_removed old.documents part.key number apart)))
          (cases_eq number part.key)

  base : part.kind ≡ 5 → is_base part.key part.payload old.terms ≡ true
      → Steps part (record old { terms = after_base part.key part.payload old.terms }) new
  base is_kind is =
      let low = both_of _ _ is in
      record {
        change = change.Base part.key part.payload;
        item = alone 5 is_kind refl;
        says = said_as 5 is_kind ∙ said _ (change.Base part.key part.payload) low.0;
        reached = with_change (change.Base part.key part.payload) new;
        leads = leads_to (change.Base part.key part.payload)
            (ap (is_base part.key part.payload) agree.terms ∙ is);
        agree = record {
          next_number = agree.next_number;
          next_version = agree.next_version;
          policy_now = agree.policy_now;
          policies = agree.policies;
          documents = agree.documents;
          terms = ap (after_base part.key part.payload) agree.terms;
          versioned = agree.versioned;
        };
      }

  delta : part.kind ≡ 6 → is_delta part.key old.terms ≡ true
      → Steps part (record old { terms = after_delta part.key part.payload old.terms }) new
  delta is_kind is = record {
    change = change.Delta part.key part.payload;
    item = alone 6 is_kind refl;
    says = said_as 6 is_kind;
    reached = with_change (change.Delta part.key part.payload) new;
    leads = leads_to (change.Delta part.key part.payload)
        (ap (is_delta part.key) agree.terms ∙ is);
    agree = record {
      next_number = agree.next_number;
      next_version = agree.next_version;
      policy_now = agree.policy_now;
      policies = agree.policies;
      documents = agree.documents;
      terms = ap (after_delta part.key part.payload) agree.terms;
      versioned = agree.versioned;
    };
  }

  -- ---- whatever kind it is of

  pub step : (after : log.Contents) → after_part part old ≡ Some after → Steps part after new
  step after leads = by_kind (kind_of part.kind) refl leads
    where
      by_kind : (found : Option Kind) → kind_of part.kind ≡ found
          → after_kind found part.key part.payload old ≡ Some after → Steps part after new
      by_kind None is e = absurd (some_or_none after e)
      by_kind (Some log_kind.Meta) is e =
          subst (λ c. Steps part c new) (sym (passed _ _ after e))
          (meta (kind_number part.kind log_kind.Meta is) (held _ after e))
      by_kind (Some log_kind.Policy) is e =
          subst (λ c. Steps part c new) (sym (passed _ _ after e))
          (policy (kind_number part.kind log_kind.Policy is) (held _ after e))
      by_kind (Some log_kind.Document) is e =
          subst (λ c. Steps part c new) (sym (passed _ _ after e))
          (document (kind_number part.kind log_kind.Document is) (held _ after e))
      by_kind (Some log_kind.Gone) is e =
          subst (λ c. Steps part c new) (sym (passed _ _ after e))
          (gone (kind_number part.kind log_kind.Gone is) (held _ after e))
      by_kind (Some log_kind.Base) is e =
          subst (λ c. Steps part c new) (sym (passed _ _ after e))
          (base (kind_number part.kind log_kind.Base is) (held _ after e))
      by_kind (Some log_kind.Delta) is e =
          subst (λ c. Steps part c new) (sym (passed _ _ after e))
          (delta (kind_number part.kind log_kind.Delta is) (held _ after e))

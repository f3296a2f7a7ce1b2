-- What moves make of contents, one after another: where their changes lead, and that a table which counts them agrees.
use Rattle.std.proofs.Common.{◌≡◌, ◌-◌, ◌<◌, ◌≤◌, ℕ, Bool, true, false, List, [], ◌∷◌, map, Some, None, refl, sym, ap, subst, ◌∙◌, arith, ⊎_elim}
use Rattle.std.specs.Prelude.{◌≢◌, ◌&&◌, ◌||◌, is_some, not, if◌then◌else◌, option_and_then}
use Rattle.std.specs.FinMap as finite
use Rattle.std.specs.List.{AllByRecursion}
use Rattle.std.proofs.lemmas.Bool.{cases_eq, cases_lt}
use Rattle.ax_area.specs.Changes.{Change}
use Rattle.ax_area.specs.Contents.{Contents, Stored, after_change, after_changes, is_given, stored, with_change}
use Rattle.ax_area.specs.Parts.{changes_said}
use Rattle.ax_container.proofs.ByNumber.{same_some}
use Rattle.ax_image.proofs.ReadableWrites.{replacing_readable}
use Rattle.ax_image.specs.Readable.{newest}
use Rattle.ax_image.specs.WriteChanges.{document_change}
use Rattle.ax_image_grammar.specs.Payloads.{IsReadable}
use Rattle.ax_image_grammar.specs.Table.{IsTaken}
use Rattle.ax_image_pairs.proofs.Beside.{IsBeside}
use Rattle.ax_index.specs.Plans.{HasNoDeltas}
use Rattle.ax_pages.proofs.LastPart.{get_inserted, get_not_inserted}
use Rattle.ax_policy.specs.Table.{SetsCount, Table, count_at}
use Rattle.ax_store.specs.Kept.{deltas_of}
use Rattle.ax_table.proofs.Agreeing.{agrees_replaced, is_counted, is_taken, room_replaced}
use Rattle.ax_table.specs.TableAgrees.{TableAgrees}
use Rattle.ax_tree.specs.CanonicalText.{canonical_text}
use Rattle.ax_transform.specs.Gathering.{CountAllMoved, CountsMoved, MayAllBeMoved, MayBeMoved}
use Rattle.ax_transform.specs.Moving.{AreNext, IsFirstBehind, IsMove, Move, last_of, moved_part, moved_parts, numbers_of, policies_of}
use Rattle.ax_write.proofs.PartsSaid.{more_said, said_leads}
use Rattle.ax_write.proofs.Saying.{replacing_said}
use Rattle.ax_write.specs.Committed.{LeaveTerms}

-- ---- one move

abbrev pub moved_change : ℕ → Move → Change
moved_change now move = document_change move.number now move.tree

abbrev pub moved_changes : ℕ → List Move → List Change
moved_changes now moves = map (moved_change now) moves

-- the contents behind it
abbrev pub moved_in : ℕ → Move → Contents → Contents
moved_in now move contents = with_change (moved_change now move) contents

-- the document that is written
abbrev made_of : ℕ → Move → Stored
made_of now move = stored move.number (record { policy = now; version = None; text = canonical_text move.tree })

both : (a b : Bool) → a ≡ true → b ≡ true → (a && b) ≡ true
both a b x y = λ i. x i && y i

either : (a b : Bool) → a ≡ true → (a || b) ≡ true
either a b x = ap (λ c. c || b) x

pub move_leads : (now : ℕ) (move : Move) (contents : Contents) (held : Stored) → contents.versioned ≡ false → is_given now contents ≡ true
    → finite.get contents.documents move.number ≡ Some held → after_change (moved_change now move) contents ≡ Some (moved_in now move contents)
move_leads now move contents held plain given is =
    ap (λ b. if b then Some (moved_in now move contents) else None) (both _ _ given (both _ _ (either _ _ (ap is_some is)) (ap not plain)))

-- ---- what is so of contents between the first and the last

-- Those that moves up to a number have led to: later documents are as they were, and those up to it are under the policy now.
pub record IsMid (now after : ℕ) (contents mid : Contents) : Type 0 where
  pub plain : mid.versioned ≡ false
  pub given : is_given now mid ≡ true
  pub policy_now : mid.policy_now ≡ contents.policy_now
  pub policies : mid.policies ≡ contents.policies
  pub terms : mid.terms ≡ contents.terms
  pub later : (n : ℕ) → after < n → finite.get mid.documents n ≡ finite.get contents.documents n
  pub under : (n : ℕ) (document : Stored) → 0 < n → n ≤ after → finite.get mid.documents n ≡ Some document → document.policy ≡ now
  pub zero : finite.get mid.documents 0 ≡ finite.get contents.documents 0

module _ (honest : Bool) (table : Table) (contents : Contents) where
  abbrev now : ℕ
  now = table.current

  pub record IsLed (after : ℕ) (mid : Contents) (moves : List Move) : Type 0 where
    pub new : Contents
    pub lead : after_changes (moved_changes now moves) mid ≡ Some new
    pub is : IsMid now (last_of after (numbers_of moves)) contents new

  -- the document of a number above those that were moved is as it was
  pub held_in : (after : ℕ) (mid : Contents) (move : Move) → IsMid now after contents mid → after < move.number
      → (is : IsMove honest table contents move) → finite.get mid.documents move.number ≡ Some is.stored
  held_in after mid move of above is = of.later move.number above ∙ is.held

  pub mid_next : (after : ℕ) (mid : Contents) (move : Move) → IsMid now after contents mid → IsFirstBehind contents now after move.number
      → IsMid now move.number contents (moved_in now move mid)
  mid_next after mid move of first =
      let number : ℕ = move.number in
      let made : Stored = made_of now move in
      let other : (n : ℕ) → n ≢ number → finite.get (moved_in now move mid).documents n ≡ finite.get mid.documents n =
      λ n apart. get_not_inserted mid.documents number n made apart in
      record {
        plain = of.plain;
        given = of.given;
        policy_now = of.policy_now;
        policies = of.policies;
        terms = of.terms;
        later = λ n above.
            other n (λ same. absurd (omega (arith, above, same))) ∙ of.later n (omega (arith, above, first.above));
        under = λ n document some less held.
            ⊎_elim
            (λ (same : n ≡ number).
            let is : made ≡ document =
            same_some made document (sym (get_inserted mid.documents number made) ∙ ap (finite.get (moved_in now move mid).documents) (sym same) ∙ held) in
            ap (λ (d : Stored). d.policy) (sym is))
            (λ (apart : n ≡ number → ⊥).
            let before : finite.get mid.documents n ≡ Some document = sym (other n apart) ∙ held in
            ⊎_elim
            (λ (between : after < n).
            first.between n document between (omega (arith, less, apart)) (sym (of.later n between) ∙ before))
            (λ (up_to : n ≤ after). of.under n document some up_to before)
            (cases_lt after n))
            (cases_eq n number);
        zero = other 0 (λ same. absurd (omega (arith, same, first.above))) ∙ of.zero;
      }

  -- where the changes of moves lead
  pub leads : (moves : List Move) (after : ℕ) (mid : Contents) → IsMid now after contents mid → AreNext contents now after (numbers_of moves)
      → AllByRecursion (IsMove honest table contents) moves → IsLed after mid moves
  leads [] after mid of next are = record { new = mid; lead = refl; is = of }
  leads (move ∷ moves) after mid of next are =
      let rest = leads moves move.number (moved_in now move mid) (mid_next after mid move of next.0) next.1 are.1 in
      record {
        new = rest.new;
        lead = ap (option_and_then (after_changes (moved_changes now moves)))
            (move_leads now move mid are.0.stored of.plain of.given (held_in after mid move of next.0.above are.0)) ∙ rest.lead;
        is = rest.is;
      }

  -- ---- a table that counts the moves

  module _ (after : ℕ) (mid : Contents) (move : Move) (of : IsMid now after contents mid) (first : IsFirstBehind contents now after move.number)
      (is : IsMove honest table contents move) (tb : Table) (agrees : TableAgrees honest tb mid) (current : tb.current ≡ now) where
    abbrev held : finite.get mid.documents move.number ≡ Some is.stored
    held = held_in after mid move of first.above is

    out_of : (out : Table) → SetsCount move.policy (count_at tb move.policy - 1) tb out
        → SetsCount is.stored.policy (count_at tb is.stored.policy - 1) tb out
    out_of out less = subst (λ n. SetsCount n (count_at tb n - 1) tb out) is.policy less

    may_be : MayBeMoved move.policy tb
    may_be = record {
      known = agrees.known move.policy
          (subst (λ n. IsTaken n mid) (sym is.policy) (is_taken honest tb mid agrees move.number is.stored held));
      used = subst (λ n. 0 < count_at tb n) (sym is.policy) (is_counted honest tb mid agrees move.number is.stored held);
      room = λ out less. room_replaced honest tb mid agrees out move.number is.stored held (out_of out less) tb.current;
    }

    now_in : (next : Table) → CountsMoved move.policy tb next → next.current ≡ now
    now_in next counts = counts.more.current ∙ counts.less.current ∙ current

    agrees_in : (next : Table) → CountsMoved move.policy tb next → TableAgrees honest next (moved_in now move mid)
    agrees_in next counts =
        agrees_replaced honest tb mid (moved_in now move mid) agrees refl refl counts.out next move.number is.stored (made_of now move) held refl
        (sym current ∙ agrees.now) (out_of counts.out counts.less) counts.more

  pub may_all : (moves : List Move) (after : ℕ) (mid : Contents) → IsMid now after contents mid → AreNext contents now after (numbers_of moves)
      → AllByRecursion (IsMove honest table contents) moves → (tb : Table) → TableAgrees honest tb mid → tb.current ≡ now
      → MayAllBeMoved (policies_of moves) tb
  may_all [] after mid of next are tb agrees current = tt
  may_all (move ∷ moves) after mid of next are tb agrees current = (
    may_be after mid move of next.0 are.0 tb agrees current,
    λ more counts.
        may_all moves move.number (moved_in now move mid) (mid_next after mid move of next.0) next.1 are.1 more
        (agrees_in after mid move of next.0 are.0 tb agrees current more counts)
        (now_in after mid move of next.0 are.0 tb agrees current more counts),
  )

  pub agrees_all : (moves : List Move) (after : ℕ) (mid : Contents) → IsMid now after contents mid → AreNext contents now after (numbers_of moves)
      → AllByRecursion (IsMove honest table contents) moves → (tb later : Table) → TableAgrees honest tb mid → tb.current ≡ now
      → CountAllMoved (policies_of moves) tb later → (new : Contents) → after_changes (moved_changes now moves) mid ≡ Some new
      → TableAgrees honest later new
  agrees_all [] after mid of next are tb later agrees current same new lead =
      subst (λ (c : Contents). TableAgrees honest later c) (same_some mid new lead) (subst (λ t. TableAgrees honest t mid) (sym same) agrees)
  agrees_all (move ∷ moves) after mid of next are tb later agrees current counts new lead =
      let one = may_be after mid move of next.0 are.0 tb agrees current in
      agrees_all moves move.number (moved_in now move mid) (mid_next after mid move of next.0) next.1 are.1 counts.0 later
      (agrees_in after mid move of next.0 are.0 tb agrees current counts.0 counts.1)
      (now_in after mid move of next.0 are.0 tb agrees current counts.0 counts.1) counts.2 new
      (sym (ap (option_and_then (after_changes (moved_changes now moves)))
      (move_leads now move mid are.0.stored of.plain of.given (held_in after mid move of next.0.above are.0))) ∙ lead)

  -- ---- the parts of moves

  pub parts_said : (moves : List Move) (after : ℕ) → AreNext contents now after (numbers_of moves)
      → changes_said (moved_parts now moves) ≡ Some (moved_changes now moves)
  parts_said [] after next = refl
  parts_said (move ∷ moves) after next =
      more_said (moved_part now move ∷ []) (moved_parts now moves) (moved_change now move ∷ []) (moved_changes now moves)
      (replacing_said move.number now move.tree (omega (arith, next.0.above))) (parts_said moves move.number next.1)

  pub parts_leave : (moves : List Move) (after : ℕ) → IsMid now after contents contents → AreNext contents now after (numbers_of moves)
      → AllByRecursion (IsMove honest table contents) moves → LeaveTerms (moved_parts now moves) contents
  parts_leave moves after of next are =
      let led = leads moves after contents of next are in
      record {
        new = led.new;
        lead = said_leads (moved_parts now moves) (moved_changes now moves) contents (parts_said moves after next) ∙ led.lead;
        same = led.is.terms;
      }

  pub all_readable : (moves : List Move) → AllByRecursion (IsMove honest table contents) moves
      → AllByRecursion (IsReadable newest) (moved_changes now moves)
  all_readable [] are = tt
  all_readable (move ∷ moves) are = ((replacing_readable move.number now move.tree are.0.storable).0, all_readable moves are.1)

pub all_beside : (current : ℕ) (moves : List Move) → AllByRecursion IsBeside (moved_changes current moves)
all_beside current [] = tt
all_beside current (move ∷ moves) = ((λ contents. refl), all_beside current moves)

pub no_deltas : (current : ℕ) (moves : List Move) → HasNoDeltas (moved_parts current moves)
no_deltas current [] number = refl
no_deltas current (move ∷ moves) number =
    let rest : deltas_of number (moved_parts current moves) ≡ 0 = no_deltas current moves number in
    omega (arith, rest)

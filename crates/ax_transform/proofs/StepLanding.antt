-- What a step tells, writes and leaves, by the moves that were gathered and the commit of their batch.
use Rattle.std.proofs.Common.{◌≡◌, ◌⊎◌, inl, inr, ◌<◌, ◌≤◌, ℕ, Bool, false, List, [], ◌∷◌, Some, None, refl, sym, ap, subst, ◌∙◌, arith, ⊎_elim}
use Rattle.std.specs.Prelude.{◌↔◌, ◌≢◌, option_and_then}
use Rattle.std.specs.FinMap as finite
use Rattle.std.specs.List.{Contains}
use Rattle.std.proofs.lemmas.Bool.{cases_eq, cases_lt}
use Rattle.ax_area.proofs.Leading.{more_changes}
use Rattle.ax_area.specs.Changes.{Change}
use Rattle.ax_area.specs.Contents.{Contents, Stored, after_changes}
use Rattle.ax_area.specs.Parts.{changes_said}
use Rattle.ax_container.proofs.ByNumber.{same_some}
use Rattle.ax_delta.specs.declared.change.Change.{Change as PairChange}
use Rattle.ax_frame.specs.Part.{PartValue}
use Rattle.ax_image_grammar.specs.Table.{IsTaken, IsUsed}
use Rattle.ax_index.specs.DeltaSizes.{HaveShortTerms}
use Rattle.ax_index.specs.Plans.{HasNoDeltas}
use Rattle.ax_pages.specs.Contents.{TermPage}
use Rattle.ax_policy.specs.Table.{Table, policy_at}
use Rattle.ax_store.specs.Batch.{batch_parts}
use Rattle.ax_table.specs.TableAgrees.{TableAgrees}
use Rattle.ax_transform.proofs.Mids.{IsLed, IsMid, agrees_all, leads, may_all, moved_changes, no_deltas, parts_leave, parts_said}
use Rattle.ax_transform.proofs.Stepped.{begun}
use Rattle.ax_transform.proofs.Trading.{netted, same_short, short}
use Rattle.ax_transform.specs.Gathering.{AreNetted, CountAllMoved, GathersEnough, MayAllBeMoved, start_of}
use Rattle.ax_transform.specs.Moving.{AreNext, IsNoneBehind, Move, all_changes, last_of, moved_parts, numbers_of, policies_of}
use Rattle.ax_transform.specs.Steps.{AreEnough, IsSmallStep, IsWritten, KeepsPolicies}
use Rattle.ax_transform.specs.declared.moves.Moves.{Moves}
use Rattle.ax_write.specs.Committed.{LeadWith, LeaveTerms}
use Rattle.ax_write.specs.Small.{IsPlanned}

abbrev with_mark : ℕ → Table → Table
with_mark mark table = record table { moved = mark }

-- ---- other term pages

-- a table agrees whatever the term pages
module _ (honest : Bool) (table : Table) (contents : Contents) (pages : List TermPage) (agrees : TableAgrees honest table contents) where
  abbrev with_pages : Contents
  with_pages = record contents { terms = pages }

  taken_too : (n : ℕ) → IsTaken n with_pages → IsTaken n contents
  taken_too n (inl is) = inl is
  taken_too n (inr used) = let used : IsUsed n with_pages = used in
      inr (record { number = used.number; document = used.document; held = used.held; indexed_by = used.indexed_by })

  -- and another mark, where the documents below it are under the policy now
  marked_too : (mark : ℕ) → ((n : ℕ) (document : Stored) → n < mark → finite.get contents.documents n ≡ Some document
      → document.policy ≡ table.current) → TableAgrees honest (record table { moved = mark }) with_pages
  marked_too mark below = record {
    now = agrees.now;
    given = agrees.given;
    known = λ n taken. agrees.known n (taken_too n taken);
    policies = agrees.policies;
    apart = agrees.apart;
    only_given = agrees.only_given;
    texts = agrees.texts;
    counts = agrees.counts;
    moved = below;
    few = agrees.few;
  }

-- the contents after changes of documents, with other term pages
after_terms : (honest : Bool) (pairs : List PairChange) (front : List Change) (old mid new : Contents) → after_changes front old ≡ Some mid
    → mid.terms ≡ old.terms → (lead : LeadWith honest pairs front old new) → new ≡ record mid { terms = lead.after }
after_terms honest pairs front old mid new first same lead =
    same_some new (record mid { terms = lead.after })
    (sym lead.lead ∙ more_changes front lead.behind old ∙ ap (option_and_then (after_changes lead.behind)) first ∙ lead.turn.lead mid same)

-- ---- policies that are counted stay

pub counted_policies : (policies : List ℕ) (old new : Table) → CountAllMoved policies old new
    → ((n : ℕ) → policy_at new n ≡ policy_at old n) × (new.current ≡ old.current) × (new.moved ≡ old.moved)
counted_policies [] old new same = ((λ n. ap (λ t. policy_at t n) same), ap (λ (t : Table). t.current) same, ap (λ (t : Table). t.moved) same)
counted_policies (policy ∷ policies) old new counts =
    let rest = counted_policies policies counts.0 new counts.2 in
    let one = counts.1 in (
      (λ n. rest.0 n ∙ one.more.policies n ∙ one.less.policies n),
      rest.1 ∙ one.more.current ∙ one.less.current,
      rest.2 ∙ one.more.moved ∙ one.less.moved,
    )

pub keeps_moved : (policies : List ℕ) (old counted later : Table) → CountAllMoved policies old counted
    → later ≡ record counted { moved = later.moved } → counted.moved ≤ later.moved → KeepsPolicies old later
keeps_moved policies old counted later counts same rises =
    let keeps = counted_policies policies old counted counts in
    record {
      policies = λ n. ap (λ t. policy_at t n) same ∙ keeps.0 n;
      current = ap (λ (t : Table). t.current) same ∙ keeps.1;
      moved = omega (arith, rises, keeps.2);
    }

module _ (honest : Bool) (table : Table) (contents : Contents) (agrees : TableAgrees honest table contents) (plain : contents.versioned ≡ false)
    (found : Moves) where
  abbrev now : ℕ
  now = table.current

  abbrev start : ℕ
  start = start_of table

  abbrev mid : IsMid now start contents contents
  mid = begun honest table contents agrees plain

  -- ---- what a commit asks for

  module _ (count : ℕ) (gathered : GathersEnough honest count table contents start found) where
    abbrev moves : List Move
    moves = gathered.moves

    pub netted_found : AreNetted found.changes.items
    netted_found =
        subst AreNetted (sym gathered.gathers.changes) (netted honest table contents now start moves gathered.gathers.are gathered.gathers.next)

    pub same_found : (sorted : List PairChange) → ((change : PairChange) → Contains sorted change ↔ Contains found.changes.items change)
        → (change : PairChange) → Contains sorted change ↔ Contains (all_changes moves) change
    same_found sorted same change = subst (λ (all : List PairChange). Contains sorted change ↔ Contains all change) gathered.gathers.changes (same change)

    pub short_found : (sorted : List PairChange) → ((change : PairChange) → Contains sorted change ↔ Contains found.changes.items change)
        → HaveShortTerms sorted
    short_found sorted same =
        same_short (all_changes moves) sorted (same_found sorted same) (short honest table contents moves gathered.gathers.are)

    some_parts : (these : List Move) → policies_of these ≢ [] → moved_parts now these ≢ []
    some_parts [] some none = some refl
    some_parts (move ∷ these) some none = absurd cc

    pub parts_there : found.policies.items ≢ [] → batch_parts found.batch ≢ []
    parts_there some none =
        some_parts moves (λ (e : policies_of moves ≡ []). some (gathered.gathers.policies ∙ e)) (sym gathered.gathers.parts ∙ none)

    pub no_deltas_found : HasNoDeltas (batch_parts found.batch)
    no_deltas_found = subst HasNoDeltas (sym gathered.gathers.parts) (no_deltas now moves)

    pub leave_found : LeaveTerms (batch_parts found.batch) contents
    leave_found =
        subst (λ parts. LeaveTerms parts contents) (sym gathered.gathers.parts)
        (parts_leave honest table contents moves start mid gathered.gathers.next gathered.gathers.are)

    pub said_found : changes_said (batch_parts found.batch) ≡ Some (moved_changes now moves)
    said_found = ap changes_said gathered.gathers.parts ∙ parts_said honest table contents moves start gathered.gathers.next

    pub may_found : MayAllBeMoved found.policies.items table
    may_found =
        subst (λ ps. MayAllBeMoved ps table) (sym gathered.gathers.policies)
        (may_all honest table contents moves start contents mid gathered.gathers.next gathered.gathers.are table agrees refl)

    led : IsLed honest table contents start contents moves
    led = leads honest table contents moves start contents mid gathered.gathers.next gathered.gathers.are

    -- ---- the table

    -- the documents below the number that was reached are under the policy now
    below_reached : (mark : ℕ) → mark ≤ found.last → (0 < mark → finite.get contents.documents 0 ≡ None) → (n : ℕ) (document : Stored) → n < mark
        → finite.get led.new.documents n ≡ Some document → document.policy ≡ now
    below_reached mark most none n document below held =
        ⊎_elim
        (λ (zero : n ≡ 0).
        let gone : None ≡ Some document =
        sym (none (omega (arith, below, zero))) ∙ sym led.is.zero ∙ sym (ap (finite.get led.new.documents) zero) ∙ held in
        absurd cc)
        (λ (some : n ≡ 0 → ⊥).
        ⊎_elim
        (λ (above : last_of start (numbers_of moves) < n).
        gathered.past n document above (omega (arith, below, most)) (sym (led.is.later n above) ∙ held))
        (λ (up_to : n ≤ last_of start (numbers_of moves)). led.is.under n document (omega (arith, some)) up_to held)
        (cases_lt (last_of start (numbers_of moves)) n))
        (cases_eq n 0)

    module _ (mark : ℕ) (most : mark ≤ found.last) (none : 0 < mark → finite.get contents.documents 0 ≡ None) (counted later : Table)
        (same : later ≡ record counted { moved = later.moved }) (either : (later.moved ≡ counted.moved) ⊎ (later.moved ≡ mark)) where
      -- where nothing was moved
      pub table_kept : moves ≡ [] → counted ≡ table → TableAgrees honest later contents
      table_kept empty still =
          subst (λ t. TableAgrees honest t contents) (sym (same ∙ ap (with_mark later.moved) still))
          (marked_too honest table contents contents.terms agrees later.moved (λ n document below held.
          ⊎_elim
          (λ (old : later.moved ≡ counted.moved).
          agrees.moved n document (omega (arith, below, old, ap (λ (t : Table). t.moved) still)) held)
          (λ (new : later.moved ≡ mark).
          below_reached mark most none n document (omega (arith, below, new))
          (sym (ap (λ (c : Contents). finite.get c.documents n) led_is) ∙ held))
          either))
        where
          led_is : contents ≡ led.new
          led_is =
              same_some contents led.new (ap (λ (ms : List Move). after_changes (moved_changes now ms) contents) (sym empty) ∙ led.lead)

      -- where these were
      pub table_moved : CountAllMoved found.policies.items table counted → (pairs : List PairChange) (new : Contents)
          → LeadWith honest pairs (moved_changes now moves) contents new → TableAgrees honest later new
      table_moved counts pairs new lead =
          let own : CountAllMoved (policies_of moves) table counted = subst (λ ps. CountAllMoved ps table counted) gathered.gathers.policies counts in
          let keeps = counted_policies (policies_of moves) table counted own in
          let agree : TableAgrees honest counted led.new =
          agrees_all honest table contents moves start contents mid gathered.gathers.next gathered.gathers.are table counted agrees refl own led.new led.lead in
          let at : new ≡ record led.new { terms = lead.after } =
          after_terms honest pairs (moved_changes now moves) contents led.new new led.lead led.is.terms lead in
          subst (λ t. TableAgrees honest t new) (sym same)
          (subst (TableAgrees honest (record counted { moved = later.moved })) (sym at)
          (marked_too honest counted led.new lead.after agree later.moved (λ n document below held.
          ⊎_elim
          (λ (old : later.moved ≡ counted.moved). agree.moved n document (omega (arith, below, old)) held)
          (λ (reached : later.moved ≡ mark). below_reached mark most none n document (omega (arith, below, reached)) held ∙ sym keeps.1)
          either)))

    -- ---- what was written

    widen : (numbers : List ℕ) → AreNext contents now start numbers → AreNext contents now 0 numbers
    widen [] next = tt
    widen (n ∷ numbers) next = (
      record {
        above = omega (arith, next.0.above);
        behind = next.0.behind;
        between = λ m document some less held.
            ⊎_elim (λ (above : start < m). next.0.between m document above less held)
            (λ (up_to : m ≤ start). agrees.moved m document (omega (arith, some, up_to)) held)
            (cases_lt start m);
      },
      next.1,
    )

    none_wide : (numbers : List ℕ) → IsNoneBehind contents now (last_of start numbers) → IsNoneBehind contents now (last_of 0 numbers)
    none_wide [] none = λ m document some held.
        ⊎_elim (λ (above : start < m). none m document above held)
        (λ (up_to : m ≤ start). agrees.moved m document (omega (arith, some, up_to)) held)
        (cases_lt start m)
    none_wide (n ∷ numbers) none = none

    enough_wide : (numbers : List ℕ) → AreEnough count contents now start numbers → AreEnough count contents now 0 numbers
    enough_wide numbers (inl all) = inl all
    enough_wide numbers (inr none) = inr (none.0, none_wide numbers none.1)

    last_wide : (numbers : List ℕ) → last_of 0 numbers ≤ last_of start numbers
    last_wide [] = omega arith
    last_wide (n ∷ numbers) = omega arith

    pub small_found : (later : Table) (after : Contents) (sorted : List PairChange)
        → (finite.get contents.documents 0 ≡ None → found.last ≤ later.moved)
        → ((change : PairChange) → Contains sorted change ↔ Contains found.changes.items change)
        → IsWritten honest sorted (moved_parts now moves) contents after → IsSmallStep honest count table later contents after
    small_found later after sorted marked same written = record {
      moves = moves;
      next = widen (numbers_of moves) gathered.gathers.next;
      enough = enough_wide (numbers_of moves) gathered.enough;
      marked = λ none. omega (arith, marked none, gathered.reaches, last_wide (numbers_of moves));
      are = gathered.gathers.are;
      changes = sorted;
      same = same_found sorted same;
      written = written;
    }

    written_of : (these : List Move) (sorted : List PairChange) (after : Contents) → policies_of these ≢ []
        → IsPlanned honest sorted (moved_parts now these) contents after → IsWritten honest sorted (moved_parts now these) contents after
    written_of [] sorted after some planned = absurd (some refl)
    written_of (move ∷ these) sorted after some planned = planned

    pub written_found : (sorted : List PairChange) (after : Contents) → found.policies.items ≢ []
        → IsPlanned honest sorted (batch_parts found.batch) contents after → IsWritten honest sorted (moved_parts now moves) contents after
    written_found sorted after some planned =
        written_of moves sorted after (λ e. some (gathered.gathers.policies ∙ e))
        (subst (λ (p : List PartValue). IsPlanned honest sorted p contents after) gathered.gathers.parts planned)

    -- where there are none nothing was written
    pub written_none : (sorted : List PairChange) → moves ≡ [] → IsWritten honest sorted (moved_parts now moves) contents contents
    written_none sorted empty = subst (λ (ms : List Move). IsWritten honest sorted (moved_parts now ms) contents contents) (sym empty) refl

    none_of : (these : List Move) → policies_of these ≡ [] → these ≡ []
    none_of [] none = refl
    none_of (move ∷ these) none = absurd cc

    pub moves_none : found.policies.items ≡ [] → moves ≡ []
    moves_none none = none_of moves (sym gathered.gathers.policies ∙ none)

-- Documents that are gathered one after another: the list of the next ones grows at its end.
use Rattle.std.proofs.Common.{◌≡◌, ℕ, ◌+◌, ◌-◌, ◌≤◌, zero, suc, List, [], ◌∷◌, ◌++◌, length, take, Bool, true, false, inl, inr}
use Rattle.std.proofs.Common.{refl, sym, ap, subst, ◌∙◌, arith}
use Rattle.std.specs.List.{AllByRecursion}
use Rattle.std.proofs.lemmas.List.{append_assoc, append-nil, length-append, length-map, length-take-le, map-append}
use Rattle.ax_area.specs.Contents.{Contents}
use Rattle.ax_policy.specs.Table.{Table}
use Rattle.ax_transform.specs.Gathering.{AddsMove, AddsNext, Gathers, GathersEnough, start_of}
use Rattle.ax_transform.specs.Moving.{AreNext, IsFirstBehind, IsMove, IsNoneBehind, Move, all_changes, last_of, moved_part, numbers_of}
use Rattle.ax_transform.specs.Steps.{Fetches}
use Rattle.ax_transform.specs.declared.moves.Moves.{Moves}

-- ---- lists of the next ones

module _ (contents : Contents) (now : ℕ) where
  pub next_then : (after : ℕ) (numbers more : List ℕ) → AreNext contents now after numbers → AreNext contents now (last_of after numbers) more
      → AreNext contents now after (numbers ++ more)
  next_then after [] more first second = second
  next_then after (number ∷ numbers) more first second = (first.0, next_then number numbers more first.1 second)

  next_front : (after count : ℕ) (numbers : List ℕ) → AreNext contents now after numbers → AreNext contents now after (take count numbers)
  next_front after zero numbers next = tt
  next_front after (suc count) [] next = tt
  next_front after (suc count) (number ∷ numbers) next = (next.0, next_front number count numbers next.1)

  -- so many of them were fetched
  pub fetches_some : (after earlier later : ℕ) (numbers : List ℕ) → AreNext contents now after numbers → earlier ≤ later
      → later ≤ earlier + length numbers → Fetches contents now after earlier later
  fetches_some after earlier later numbers next some few = record {
    numbers = take (later - earlier) numbers;
    next = next_front after (later - earlier) numbers next;
    counted =
        let as_many : length (take (later - earlier) numbers) ≡ later - earlier = length-take-le (later - earlier) numbers (omega (arith, some, few)) in
        omega (arith, as_many, some);
  }

pub last_more : (after : ℕ) (numbers : List ℕ) (number : ℕ) → last_of after (numbers ++ number ∷ []) ≡ number
last_more after [] number = refl
last_more after (first ∷ numbers) number = last_more first numbers number

-- ---- what one move more comes to

all_more : {A : Type 0} (P : A → Type 0) (xs : List A) (x : A) → AllByRecursion P xs → P x → AllByRecursion P (xs ++ x ∷ [])
all_more P [] x all one = (one, tt)
all_more P (y ∷ xs) x all one = (all.0, all_more P xs x all.1 one)

changes_more : (moves : List Move) (move : Move) → all_changes (moves ++ move ∷ []) ≡ all_changes moves ++ move.changes
changes_more [] move = append-nil move.changes
changes_more (first ∷ moves) move =
    ap (λ all. first.changes ++ all) (changes_more moves move) ∙ sym (append_assoc first.changes (all_changes moves) move.changes)

module _ (honest : Bool) (table : Table) (contents : Contents) (start : ℕ) where
  pub gathers_more : (moves : List Move) (old new : Moves) → Gathers honest table contents start moves old
      → old.last ≡ last_of start (numbers_of moves) → (number : ℕ) → IsFirstBehind contents table.current old.last number
      → (adds : AddsMove honest table contents number old new) → Gathers honest table contents start (moves ++ adds.move ∷ []) new
  gathers_more moves old new gathers last number first adds =
      let numbers : numbers_of (moves ++ adds.move ∷ []) ≡ numbers_of moves ++ number ∷ [] =
      map-append (λ (m : Move). m.number) moves (adds.move ∷ []) ∙ ap (λ n. numbers_of moves ++ n ∷ []) adds.number_is in
      let behind : IsFirstBehind contents table.current (last_of start (numbers_of moves)) number =
      subst (λ after. IsFirstBehind contents table.current after number) last first in
      record {
        next = subst (AreNext contents table.current start) (sym numbers)
            (next_then contents table.current start (numbers_of moves) (number ∷ []) gathers.next (behind, tt));
        are = all_more (IsMove honest table contents) moves adds.move gathers.are adds.is;
        parts = adds.parts ∙ ap (λ parts. parts ++ moved_part table.current adds.move ∷ []) gathers.parts
            ∙ sym (map-append (moved_part table.current) moves (adds.move ∷ []));
        changes = adds.changes ∙ ap (λ changes. changes ++ adds.move.changes) gathers.changes ∙ sym (changes_more moves adds.move);
        policies = adds.policies
            ∙ ap (λ policies. policies ++ adds.move.policy ∷ []) gathers.policies
            ∙ sym (map-append (λ (m : Move). m.policy) moves (adds.move ∷ []));
      }

-- ---- the loop

-- what a turn added, told of the first contents
pub added_to : (table : Table) (old new : Moves) (then honest : Bool) → then ≡ honest → (here contents : Contents) → here ≡ contents → (more is : Bool)
    → more ≡ is → AddsNext then table here more old new → AddsNext honest table contents is old new
added_to table old new then honest trusted here contents same more is answer adds =
    subst (λ b. AddsNext honest table contents b old new) answer
    (subst (λ c. AddsNext honest table c more old new) same (subst (λ h. AddsNext h table here more old new) trusted adds))

-- what is known at each turn: so many moves are still wanted, and no more steps were counted than moves
pub record HasGathered (honest : Bool) (table : Table) (contents : Contents) (count left earlier later : ℕ) (found : Moves) : Type 0 where
  pub moves : List Move
  pub gathers : Gathers honest table contents (start_of table) moves found
  pub last : found.last ≡ last_of (start_of table) (numbers_of moves)
  pub as_many : length moves + left ≡ count
  pub never_falls : earlier ≤ later
  pub counted : later ≤ earlier + length moves

module _ (honest : Bool) (table : Table) (contents : Contents) (count : ℕ) where
  module _ (left earlier later : ℕ) (found : Moves) (has : HasGathered honest table contents count left earlier later found) where
    pub fetched_so_far : Fetches contents table.current (start_of table) earlier later
    fetched_so_far =
        fetches_some contents table.current (start_of table) earlier later (numbers_of has.moves) has.gathers.next has.never_falls
        (omega (arith, has.counted, length-map has.moves (λ (m : Move). m.number)))

    -- one document more
    pub one_gathered : (new : Moves) (less more : ℕ) → AddsNext honest table contents true found new → less + 1 ≡ left → later ≤ more → more ≤ later + 1
        → HasGathered honest table contents count less earlier more new
    one_gathered new less more adds one some few = record {
      moves = has.moves ++ adds.2.move ∷ [];
      gathers = gathers_more honest table contents (start_of table) has.moves found new has.gathers has.last adds.0 adds.1 adds.2;
      last = adds.2.last
          ∙ sym (ap (last_of (start_of table))
          (map-append (λ (m : Move). m.number) has.moves (adds.2.move ∷ []) ∙ ap (λ n. numbers_of has.moves ++ n ∷ []) adds.2.number_is)
          ∙ last_more (start_of table) (numbers_of has.moves) adds.0);
      as_many = omega (arith, length-append has.moves (adds.2.move ∷ []), has.as_many, one);
      never_falls = omega (arith, has.never_falls, some);
      counted = omega (arith, length-append has.moves (adds.2.move ∷ []), has.counted, few);
    }

    -- all that there are
    pub rest_gathered : (new : Moves) → AddsNext honest table contents false found new → GathersEnough honest count table contents (start_of table) new
    rest_gathered new none =
        let behind : IsNoneBehind contents table.current (last_of (start_of table) (numbers_of has.moves)) =
        subst (IsNoneBehind contents table.current) has.last none.0 in
        record {
          moves = has.moves;
          gathers = record {
            next = has.gathers.next;
            are = has.gathers.are;
            parts = none.1 ∙ has.gathers.parts;
            changes = none.2 ∙ has.gathers.changes;
            policies = none.3 ∙ has.gathers.policies;
          };
          enough = inr (omega (arith, length-map has.moves (λ (m : Move). m.number), has.as_many), behind);
          reaches = omega (arith, has.last, none.4);
          past = λ number stored above below held. behind number stored above held;
        }

    -- as many as were asked for
    pub all_gathered : left ≡ 0 → GathersEnough honest count table contents (start_of table) found
    all_gathered none = record {
      moves = has.moves;
      gathers = has.gathers;
      enough = inl (omega (arith, length-map has.moves (λ (m : Move). m.number), has.as_many, none));
      reaches = omega (arith, has.last);
      past = λ number stored above below held. absurd (omega (arith, above, below, has.last));
    }

    -- what was fetched, and what the next turn fetches
    pub fetched_then : (more : ℕ) → Fetches contents table.current found.last later more → Fetches contents table.current (start_of table) earlier more
    fetched_then more fetches =
        let next : AreNext contents table.current (last_of (start_of table) (numbers_of has.moves)) fetches.numbers =
        subst (λ after. AreNext contents table.current after fetches.numbers) has.last fetches.next in
        fetches_some contents table.current (start_of table) earlier more (numbers_of has.moves ++ fetches.numbers)
        (next_then contents table.current (start_of table) (numbers_of has.moves) fetches.numbers has.gathers.next next)
        (omega (arith, has.never_falls, fetches.counted))
        (omega
        (arith, has.counted, fetches.counted, length-append (numbers_of has.moves) fetches.numbers, length-map has.moves (λ (m : Move). m.number)))

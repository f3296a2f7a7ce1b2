-- What a step makes of a container: the moves that were gathered lead to it, with the changes of the index in order; which numbers
-- ids have behind it; and that no more is fetched than is left.
use Rattle.std.proofs.Common.{◌≡◌, inl, inr, ◌<◌, ◌≤◌, ◌+◌, ℕ, Bool, true, false, cond, List, []}
use Rattle.std.proofs.Common.{◌∷◌, find, length, map, Option, Some, refl, sym, ap, subst, ◌∙◌, arith, ⊎_elim}
use Rattle.std.specs.Prelude.{◌↔◌, IsTrue, option_map}
use Rattle.std.specs.FinMap as finite
use Rattle.std.specs.List.{AllByRecursion, Contains, filter, list_any}
use Rattle.std.specs.Str.{bytes_eq}
use Rattle.std.proofs.lemmas.Bool.{cases_eq, cases_lt}
use Rattle.std.proofs.lemmas.List.{length-map}
use Rattle.std.proofs.lemmas.List.Sums.{length-filter}
use Rattle.ax_area.specs.Contents.{Contents, is_given}
use Rattle.ax_container.specs.Container.{Container, Entry, has_id}
use Rattle.ax_container.specs.Reindexing.{but_policy, is_behind, left, stepped}
use Rattle.ax_container.proofs.Moving.{bare_after_step}
use Rattle.ax_delta.specs.Changes.{changed_pairs}
use Rattle.ax_delta.specs.declared.change.Change.{Change}
use Rattle.ax_image.specs.Documents.{ContentsHold}
use Rattle.ax_image_pairs.proofs.Carried.{carried}
use Rattle.ax_image_pairs.specs.Carrying.{Carries}
use Rattle.ax_image_pairs.specs.Found.{number_in}
use Rattle.ax_image_pairs.specs.Indexed.{ContentsHoldAll}
use Rattle.ax_pair.specs.Order.{Rise}
use Rattle.ax_policy.specs.Table.{Table}
use Rattle.ax_table.specs.TableAgrees.{TableAgrees}
use Rattle.ax_transform.proofs.Chain.{chain}
use Rattle.ax_transform.proofs.FirstMoved.{step_all}
use Rattle.ax_transform.proofs.FirstShown.{behind_of, none_of, zero_none}
use Rattle.ax_transform.proofs.Lists.{In, NoTwice, in_filter, no_more}
use Rattle.ax_transform.proofs.Mids.{IsLed, IsMid, all_beside, leads, moved_changes}
use Rattle.ax_transform.proofs.Trading.{NewOf, OldOf, exchanges}
use Rattle.ax_store.specs.Store.{store_contents}
use Rattle.ax_store.specs.declared.store.Store.{Store}
use Rattle.ax_transform.specs.Gathering.{GathersEnough, start_of}
use Rattle.ax_transform.specs.declared.moves.Moves.{Moves}
use Rattle.ax_write.specs.Writes.{HoldsAll}
use Rattle.ax_transform.specs.Moving.{AreNext, IsMove, IsNoneBehind, Move, all_changes, last_of, numbers_of}
use Rattle.ax_transform.specs.Steps.{AreEnough, Fetches}

-- ---- ids

abbrev number_of : Option Entry → Option ℕ
number_of o = option_map (λ (e : Entry). e.number) o

same_numbers : (id : List ℕ) (xs ys : List Entry) → map but_policy xs ≡ map but_policy ys
    → number_of (find (has_id id) xs) ≡ number_of (find (has_id id) ys)
same_numbers id [] [] same = refl
same_numbers id [] (y ∷ ys) same = absurd cc
same_numbers id (x ∷ xs) [] same = absurd cc
same_numbers id (x ∷ xs) (y ∷ ys) same =
    let first : but_policy x ≡ but_policy y = head_same (but_policy x) (but_policy y) (map but_policy xs) (map but_policy ys) same in
    let rest = same_numbers id xs ys (tail_same (but_policy x) (but_policy y) (map but_policy xs) (map but_policy ys) same) in
    ap (λ b. number_of (cond b (Some x) (find (has_id id) xs))) (ap (λ p. bytes_eq p.1.0 id) first)
    ∙ elim (has_id id y) as
    (λ b. number_of (cond b (Some x) (find (has_id id) xs)) ≡ number_of (cond b (Some y) (find (has_id id) ys))) [
      | true ↦ ap (λ p. Some p.0) first
      | false ↦ rest
    ]
  where
    head_same : {A : Type 0} (a b : A) (xs ys : List A) → a ∷ xs ≡ b ∷ ys → a ≡ b
    head_same a b xs ys e = cc

    tail_same : {A : Type 0} (a b : A) (xs ys : List A) → a ∷ xs ≡ b ∷ ys → xs ≡ ys
    tail_same a b xs ys e = cc

-- each id has the number that it had
pub numbers_stepped : (id : List ℕ) (count : ℕ) (c : Container) → number_in id (stepped count c) ≡ number_in id c
numbers_stepped id count c = same_numbers id (stepped count c).entries c.entries (bare_after_step c count)

pub recent_stepped : (ids : List (List ℕ × ℕ)) (count : ℕ) (c : Container)
    → ((id : List ℕ) (number : ℕ) → Contains ids (id, number) → number_in id c ≡ Some number)
    → (id : List ℕ) (number : ℕ) → Contains ids (id, number) → number_in id (stepped count c) ≡ Some number
recent_stepped ids count c recent id number there = numbers_stepped id count c ∙ recent id number there

-- ---- where a walk begins

-- contents are what they are before the first move
pub begun : (honest : Bool) (table : Table) (contents : Contents) → TableAgrees honest table contents → contents.versioned ≡ false
    → IsMid table.current (start_of table) contents contents
begun honest table contents agrees plain = record {
  plain = plain;
  given = subst (λ n. is_given n contents ≡ true) (sym agrees.now) agrees.given;
  policy_now = refl;
  policies = refl;
  terms = refl;
  later = λ n above. refl;
  under = λ n document some less held. agrees.moved n document (omega (arith, some, less)) held;
  zero = refl;
}

-- a store that was only read holds the container as before
pub holds_still : {C : Type 0} (old new : Store C) (ids : List (List ℕ × ℕ)) (before : Container)
    → store_contents new ≡ store_contents old → HoldsAll old ids before → HoldsAll new ids before
holds_still old new ids before same holds = record {
  contents = subst (λ (contents : Contents). ContentsHoldAll contents before) (sym same) holds.contents;
  recent = holds.recent;
}

-- what was gathered over the same contents
pub gathered_over : (honest there : Bool) (count : ℕ) (table : Table) (contents here : Contents) (start : ℕ) (found : Moves)
    → there ≡ honest → here ≡ contents → GathersEnough honest count table contents start found
    → GathersEnough there count table here start found
gathered_over honest there count table contents here start found trusted same gathered =
    subst (λ h. GathersEnough h count table here start found) (sym trusted)
    (subst (λ (c : Contents). GathersEnough honest count table c start found) (sym same) gathered)

-- ---- over contents that hold a container

module _ (honest : Bool) (trusted : IsTrue honest) (table : Table) (contents : Contents) (agrees : TableAgrees honest table contents)
    (plain : contents.versioned ≡ false) (before : Container) (hold : ContentsHold contents before) where
  abbrev start : ℕ
  start = start_of table

  abbrev now : ℕ
  now = table.current

  abbrev mid : IsMid now start contents contents
  mid = begun honest table contents agrees plain

  -- the document that is the next one behind them is an entry that is behind
  none_behind : (moves : List Move) (led : IsLed honest table contents start contents moves) (after : Container) → ContentsHold led.new after
      → IsNoneBehind contents now (last_of start (numbers_of moves)) → list_any (is_behind after.policy) after.entries ≡ false
  none_behind moves led after held none =
      let now_is : now ≡ led.new.policy_now = agrees.now ∙ sym led.is.policy_now in
      none_of led.new after held (λ m document there.
      ⊎_elim
      (λ (above : last_of start (numbers_of moves) < m). none m document above (sym (led.is.later m above) ∙ there) ∙ now_is)
      (λ (up_to : m ≤ last_of start (numbers_of moves)).
      ⊎_elim
      (λ (zero : m ≡ 0). absurd (zero_none led.new after held document (sym (ap (finite.get led.new.documents) zero) ∙ there)))
      (λ (some : m ≡ 0 → ⊥). led.is.under m document (omega (arith, some)) up_to there ∙ now_is)
      (cases_eq m 0))
      (cases_lt (last_of start (numbers_of moves)) m))

  module _ (moves : List Move) (next : AreNext contents now start (numbers_of moves)) (are : AllByRecursion (IsMove honest table contents) moves) where
    led : IsLed honest table contents start contents moves
    led = leads honest table contents moves start contents mid next are

    held_after : ContentsHold led.new (stepped (length moves) before)
    held_after =
        (chain honest trusted table contents agrees moves start contents before mid hold next are).documents led.new led.lead

    enough_is : (count : ℕ) → AreEnough count contents now start (numbers_of moves) → stepped count before ≡ stepped (length moves) before
    enough_is count (inl all) = ap (λ n. stepped n before) (sym all ∙ length-map moves (λ (m : Move). m.number))
    enough_is count (inr none) =
        step_all (length moves) count before (subst (λ n. n ≤ count) (length-map moves (λ (m : Move). m.number)) none.0)
        (none_behind moves led (stepped (length moves) before) held_after none.1)

  -- the moves carry their pairs, put in order
  pub carries_all : (pairs : ContentsHoldAll contents before) (count : ℕ) (moves : List Move) → AreNext contents now start (numbers_of moves)
      → AllByRecursion (IsMove honest table contents) moves → AreEnough count contents now start (numbers_of moves) → (sorted : List Change)
      → Rise (changed_pairs sorted) → ((change : Change) → Contains sorted change ↔ Contains (all_changes moves) change)
      → Carries contents (moved_changes now moves) sorted (stepped count before)
  carries_all pairs count moves next are enough sorted rise same =
      let by = chain honest trusted table contents agrees moves start contents before mid hold next are in
      let to = led moves next are in
      subst (λ (x : Container). Carries contents (moved_changes now moves) sorted x) (sym (enough_is moves next are count enough))
      (carried contents before (stepped (length moves) before) (OldOf honest table contents moves are) (NewOf honest table contents moves are)
      sorted (moved_changes now moves) pairs.pairs
      (record { new = to.new; lead = to.lead; hold = by.documents to.new to.lead }) (all_beside now moves) by.exchanged
      (exchanges honest table contents now start moves are next sorted rise same))

  -- where none was gathered nothing changes
  pub none_stepped : (count : ℕ) → AreEnough count contents now start [] → stepped count before ≡ before
  none_stepped count enough = enough_is [] tt tt count enough

  -- ---- what is fetched

  -- the numbers rise, so none stands twice
  above_all : (after : ℕ) (numbers : List ℕ) → AreNext contents now after numbers → (n : ℕ) → In n numbers → after < n
  above_all after [] next n there = absurd there
  above_all after (m ∷ numbers) next n (inl same) = omega (arith, next.0.above, same)
  above_all after (m ∷ numbers) next n (inr later) = omega (arith, next.0.above, above_all m numbers next.1 n later)

  never_twice : (after : ℕ) (numbers : List ℕ) → AreNext contents now after numbers → NoTwice numbers
  never_twice after [] next = tt
  never_twice after (m ∷ numbers) next =
      ((λ there. absurd (omega (arith, above_all m numbers next.1 m there))), never_twice m numbers next.1)

  abbrev behind_now : List Entry
  behind_now = filter (is_behind before.policy) before.entries

  each_behind : (after : ℕ) (numbers : List ℕ) → AreNext contents now after numbers → (n : ℕ) → In n numbers
      → (e : Entry) × In e behind_now × (e.number ≡ n)
  each_behind after [] next n there = absurd there
  each_behind after (m ∷ numbers) next n (inl same) =
      let is = next.0.behind in
      let it = behind_of contents before hold m is.stored is.held (λ e. is.other (e ∙ sym agrees.now)) in
      (it.0, in_filter (is_behind before.policy) before.entries it.0 it.1 it.2, it.3 ∙ sym same)
  each_behind after (m ∷ numbers) next n (inr later) = each_behind m numbers next.1 n later

  -- no more are fetched than are left
  pub fetched_few : (earlier later : ℕ) → Fetches contents now start earlier later → later ≤ earlier + left before
  fetched_few earlier later fetched =
      let few : length fetched.numbers ≤ length behind_now =
      no_more (λ (n : ℕ) (e : Entry). e.number ≡ n) fetched.numbers behind_now (never_twice start fetched.numbers fetched.next)
      (each_behind start fetched.numbers fetched.next) (λ n m e tn tm one two. sym one ∙ two) in
      omega (arith, few, fetched.counted, length-filter (is_behind before.policy) before.entries)

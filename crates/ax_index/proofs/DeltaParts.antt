-- The parts of a term page by their positions, and what its deltas say, from the newest back.
use Rattle.std.proofs.Common.{◌≡◌, ℕ, zero, suc, ◌+◌, ◌-◌, ◌<◌, ◌≤◌, List, [], ◌∷◌, ◌++◌, length}
use Rattle.std.proofs.Common.{get_or, drop, arith, refl, ap, ◌∙◌, sym, subst, Bool, true, false}
use Rattle.std.proofs.Common.{◌&&◌, ◌==◌, Option, Some, None}
use Rattle.std.proofs.lemmas.Bool.{ne_eqb}
use Rattle.std.specs.Option.{option_or, option_to_list}
use Rattle.std.specs.Prelude.{is_some, if◌then◌else◌}
use Rattle.ax_pair.specs.declared.pair.Pair.{Pair}
use Rattle.ax_delta.specs.Changes.{TermChange}
use Rattle.ax_delta.specs.Payload.{IsDelta}
use Rattle.ax_delta.specs.Said.{last_said, said_of}
use Rattle.ax_pages.specs.Contents.{TermPage, term_parts, term_page}
use Rattle.ax_store.specs.Slots.{term_part}
use Rattle.ax_pairs.specs.PagePairs.{AreDeltas, AreOfBase, IsBase}
use Rattle.ax_index.specs.Damage.{is_base_at}
use Rattle.ax_index.specs.Reading.{first_delta}

-- ---- positions

abbrev first_behind : Option (List ℕ) → ℕ
first_behind base = if is_some base then 1 else 0

part_behind : (base : Option (List ℕ)) (deltas : List (List ℕ)) (i : ℕ) → first_behind base ≤ i
    → get_or (option_to_list base ++ deltas) i [] ≡ get_or deltas (i - first_behind base) []
part_behind None deltas i h = let e : i ≡ i - 0 = omega arith in ap (λ (k : ℕ). get_or deltas k []) e
part_behind (Some b) deltas zero h = absurd (omega arith)
part_behind (Some b) deltas (suc i) h = let e : i ≡ suc i - 1 = omega arith in ap (λ (k : ℕ). get_or deltas k []) e

count_behind : (base : Option (List ℕ)) (deltas : List (List ℕ)) → length (option_to_list base ++ deltas) ≡ first_behind base + length deltas
count_behind None deltas = omega arith
count_behind (Some b) deltas = omega arith

none_behind : (base : Option (List ℕ)) (i : ℕ) → first_behind base ≤ i → ((i == 0) && is_some base) ≡ false
none_behind None zero h = refl
none_behind None (suc i) h = rw (ne_eqb (suc i) 0 (λ e. omega arith)) refl
none_behind (Some b) i h = rw (ne_eqb i 0 (λ e. omega arith)) refl

pub count_parts : (page : TermPage) → length (term_parts page) ≡ first_delta page + length page.deltas
count_parts page = count_behind page.base page.deltas

pub delta_part : (page : TermPage) (i : ℕ) → first_delta page ≤ i → get_or (term_parts page) i [] ≡ get_or page.deltas (i - first_delta page) []
delta_part page i h = part_behind page.base page.deltas i h

-- ---- the base

base_front : (base : Option (List ℕ)) (deltas : List (List ℕ)) (pairs : List Pair) → is_some base ≡ true → AreOfBase base pairs
    → IsBase (get_or (option_to_list base ++ deltas) 0 []) pairs
base_front None deltas pairs there is = absurd (cc)
base_front (Some b) deltas pairs there is = is

front_there : (base : Option (List ℕ)) (deltas : List (List ℕ)) → is_some base ≡ true → 0 < length (option_to_list base ++ deltas)
front_there None deltas there = absurd (cc)
front_there (Some b) deltas there = omega arith

pub base_part : (page : TermPage) (pairs : List Pair) → is_some page.base ≡ true → AreOfBase page.base pairs → IsBase (get_or (term_parts page) 0 []) pairs
base_part page pairs there is = base_front page.base page.deltas pairs there is

pub base_there : (page : TermPage) → is_some page.base ≡ true → 0 < length (term_parts page)
base_there page there = front_there page.base page.deltas there

pub base_at : (page : TermPage) → is_some page.base ≡ true → is_base_at page 0 ≡ true
base_at page there = there

-- ---- deltas

pub same_count : (payloads : List (List ℕ)) (deltas : List (List TermChange)) → AreDeltas payloads deltas → length payloads ≡ length deltas
same_count [] [] h = refl
same_count [] (y ∷ deltas) h = absurd h
same_count (x ∷ payloads) [] h = absurd h
same_count (x ∷ payloads) (y ∷ deltas) h = ap suc (same_count payloads deltas h.1)

delta_at : (payloads : List (List ℕ)) (deltas : List (List TermChange)) (k : ℕ) → AreDeltas payloads deltas → k < length payloads
    → IsDelta (get_or payloads k []) (get_or deltas k [])
delta_at [] [] k h l = absurd (omega arith)
delta_at [] (y ∷ deltas) k h l = absurd h
delta_at (x ∷ payloads) [] k h l = absurd h
delta_at (x ∷ payloads) (y ∷ deltas) zero h l = h.0
delta_at (x ∷ payloads) (y ∷ deltas) (suc k) h l = delta_at payloads deltas k h.1 (omega arith)

last_at : (p : Pair) (deltas : List (List TermChange)) (k : ℕ) → k < length deltas
    → last_said p (drop k deltas) ≡ option_or (last_said p (drop (suc k) deltas)) (said_of p (get_or deltas k []))
last_at p [] k l = absurd (omega arith)
last_at p (y ∷ deltas) zero l = refl
last_at p (y ∷ deltas) (suc k) l = last_at p deltas k (omega arith)

newest_stays : (p : Pair) (deltas : List (List TermChange)) (k : ℕ) (b : Bool) → last_said p (drop k deltas) ≡ Some b → last_said p deltas ≡ Some b
newest_stays p deltas zero b h = h
newest_stays p [] (suc k) b h = h
newest_stays p (y ∷ deltas) (suc k) b h = ap (λ (o : Option Bool). option_or o (said_of p y)) (newest_stays p deltas k b h)

none_past : (p : Pair) (deltas : List (List TermChange)) (k : ℕ) → k ≡ length deltas → last_said p (drop k deltas) ≡ None
none_past p [] zero e = refl
none_past p [] (suc k) e = refl
none_past p (y ∷ deltas) zero e = absurd (omega arith)
none_past p (y ∷ deltas) (suc k) e = none_past p deltas k (omega arith)

-- ---- at a position

module _ (page : TermPage) (deltas : List (List TermChange)) (are : AreDeltas page.deltas deltas) where
  -- the changes of the part at a position
  abbrev pub changes_at : ℕ → List TermChange
  changes_at i = get_or deltas (i - first_delta page) []

  pub part_is : (i : ℕ) → first_delta page ≤ i → i < length (term_parts page) → IsDelta (get_or (term_parts page) i []) (changes_at i)
  part_is i h l =
      subst (λ (payload : List ℕ). IsDelta payload (changes_at i)) (sym (delta_part page i h))
      (delta_at page.deltas deltas (i - first_delta page) are (omega (arith, count_parts page)))

  pub says_from : (p : Pair) (i j : ℕ) → first_delta page ≤ i → i < length (term_parts page) → j ≡ i + 1
      → last_said p (drop (i - first_delta page) deltas) ≡ option_or (last_said p (drop (j - first_delta page) deltas)) (said_of p (changes_at i))
  says_from p i j h l e =
      let next : suc (i - first_delta page) ≡ j - first_delta page = omega arith in
      last_at p deltas (i - first_delta page) (omega (arith, count_parts page, same_count page.deltas deltas are))
      ∙ ap (λ (k : ℕ). option_or (last_said p (drop k deltas)) (said_of p (changes_at i))) next

  pub quiet_end : (p : Pair) (i : ℕ) → i ≡ length (term_parts page) → last_said p (drop (i - first_delta page) deltas) ≡ None
  quiet_end p i e = none_past p deltas (i - first_delta page) (omega (arith, count_parts page, same_count page.deltas deltas are))

  -- the part before says as little as those behind it
  pub quiet_before : (p : Pair) (i j : ℕ) (said : Option Bool) → first_delta page ≤ i → i < length (term_parts page) → j ≡ i + 1
      → last_said p (drop (j - first_delta page) deltas) ≡ None → said ≡ said_of p (changes_at i) → is_some said ≡ false
      → last_said p (drop (i - first_delta page) deltas) ≡ None
  quiet_before p i j said h l e quiet says none =
      says_from p i j h l e
      ∙ ap (λ (o : Option Bool). option_or o (said_of p (changes_at i))) quiet
      ∙ sym says ∙ nothing said none
    where
      nothing : (o : Option Bool) → is_some o ≡ false → o ≡ None
      nothing None h = refl
      nothing (Some b) h = absurd (cc)

  -- the part before says something, and those behind it nothing
  pub newest_says : (p : Pair) (i j : ℕ) (said : Option Bool) → first_delta page ≤ i → i < length (term_parts page) → j ≡ i + 1
      → last_said p (drop (j - first_delta page) deltas) ≡ None → said ≡ said_of p (changes_at i) → is_some said ≡ true
      → said ≡ last_said p deltas
  newest_says p i j None h l e quiet says there = absurd (cc)
  newest_says p i j (Some b) h l e quiet says there =
      sym
      (newest_stays p deltas (i - first_delta page) b
      (says_from p i j h l e
      ∙ ap (λ (o : Option Bool). option_or o (said_of p (changes_at i))) quiet
      ∙ sym says))

  pub quiet_all : (p : Pair) (i : ℕ) → i ≡ first_delta page → last_said p (drop (i - first_delta page) deltas) ≡ None → None ≡ last_said p deltas
  quiet_all p i e quiet =
      let zero_left : 0 ≡ i - first_delta page = omega arith in
      sym (ap (λ (k : ℕ). last_said p (drop k deltas)) zero_left ∙ quiet)

-- the same of a page of a store that was read since
pub delta_there : (pages now : List TermPage) (number : ℕ) (deltas : List (List TermChange)) → now ≡ pages
    → AreDeltas (term_page number pages).deltas deltas → (i : ℕ) → first_delta (term_page number pages) ≤ i
    → i < length (term_parts (term_page number pages))
    → IsDelta (term_part number i now) (get_or deltas (i - first_delta (term_page number pages)) [])
delta_there pages now number deltas same are i h l =
    subst (λ (k : List TermPage). IsDelta (term_part number i k) (get_or deltas (i - first_delta (term_page number pages)) [])) (sym same)
    (part_is (term_page number pages) deltas are i h l)

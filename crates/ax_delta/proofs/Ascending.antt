-- The changes of term changes rise, and so what the pass of a merge makes is a merge.
use Rattle.std.proofs.Common.{◌≡◌, ℕ, ◌+◌, ◌<◌, ◌≤◌, List, [], ◌∷◌, ◌++◌, arith, refl, ap, ◌∙◌, sym, subst, Bool, Option, Some, None, ⊎_elim}
use Rattle.std.proofs.lemmas.Bool.{cases_lt, lt-ltb, le-ltb}
use Rattle.std.proofs.lemmas.Cmp.{nat_list_cmp_total}
use Rattle.std.specs.Cmp.Lexicographic.{slice_cmp}
use Rattle.std.specs.Option.{unwrap_or}
use Rattle.std.specs.Ordering.{nat_cmp}
use Rattle.std.specs.declared.cmp.Ordering.TheVariants.{Less}
use Rattle.ax_gap.proofs.Rising.{RisesFrom, rises}
use Rattle.ax_pair.specs.declared.pair.Pair.{Pair}
use Rattle.ax_pair.specs.Order.{Rise, RiseAfter}
use Rattle.ax_leaf.proofs.FromLow.{by_number, by_term}
use Rattle.ax_delta.specs.declared.change.Change.{Change}
use Rattle.ax_delta.specs.Changes.{TermChange, changed_pairs, drops_with, add_among, changes_with, changes_of}
use Rattle.ax_delta.specs.Merge.{IsMerge}
use Rattle.ax_delta.specs.Pass.{merged}
use Rattle.ax_delta.specs.Payload.{AreDisjoint, AreAfter, AreTermChanges}
use Rattle.ax_delta.specs.Said.{has}
use Rattle.ax_delta.proofs.Numbers.{one_in_both, no_longer_first, no_longer_second}
use Rattle.ax_delta.proofs.Passing.{merged_rises, merged_has}
use Rattle.ax_delta.proofs.SamePair.{the_pair, IsAbove, RisesOver, put_over, rises_alone}
use Rattle.ax_delta.proofs.Saying.{same_said, are_apart, are_rising}

-- each pair of the term with a number from m on is above the low one
abbrev IsBelow : Option Pair → List ℕ → ℕ → Type 0
IsBelow low term m = (n : ℕ) → m ≤ n → IsAbove low (the_pair term n)

-- what is behind all pairs of the term
abbrev IsBehind : List ℕ → List Change → Type 0
IsBehind term more = (n : ℕ) → RiseAfter (the_pair term n) (changed_pairs more)

from_number : (term : List ℕ) (n : ℕ) → IsBelow (Some (the_pair term n)) term (n + 1)
from_number term n m l = by_number term n m (omega arith)

drops_rise : (low : Option Pair) (term drops : List ℕ) (more : List Change) (m : ℕ) → IsBelow low term m → RisesFrom m drops → IsBehind term more
    → RisesOver low (changed_pairs more) → RisesOver low (changed_pairs (drops_with term drops ++ more))
drops_rise low term [] more m below h behind over = over
drops_rise low term (d ∷ drops) more m below h behind over =
    put_over low (the_pair term d) (changed_pairs (drops_with term drops ++ more)) (below d h.0)
    (drops_rise (Some (the_pair term d)) term drops more (d + 1) (from_number term d) h.2 behind (behind d))

apart_heads : (n d : ℕ) (adds drops : List ℕ) → AreDisjoint (n ∷ adds) (d ∷ drops) → n ≡ d → ⊥
apart_heads n d adds drops h e = one_in_both (n ∷ adds) (d ∷ drops) n d refl refl e h

add_rises : (low : Option Pair) (term : List ℕ) (n : ℕ) (adds : List ℕ) (others : List ℕ → List Change) (drops : List ℕ) (more : List Change) (m : ℕ)
    → IsBelow low term m → m ≤ n → RisesFrom m drops → AreDisjoint (n ∷ adds) drops
    → ((ds : List ℕ) → RisesFrom (n + 1) ds → AreDisjoint adds ds → RiseAfter (the_pair term n) (changed_pairs (others ds ++ more)))
    → RisesOver low (changed_pairs (add_among term n others drops ++ more))
add_rises low term n adds others [] more m below l h apart k =
    put_over low (the_pair term n) (changed_pairs (others [] ++ more)) (below n l) (k [] tt (no_longer_first n adds [] apart))
add_rises low term n adds others (d ∷ drops) more m below l h apart k =
    ⊎_elim
    (λ (i : d < n).
    rw (lt-ltb d n i)
    (put_over low (the_pair term d) (changed_pairs (add_among term n others drops ++ more)) (below d h.0)
    (add_rises (Some (the_pair term d)) term n adds others drops more (d + 1) (from_number term d) (omega arith) h.2
    (no_longer_second d (n ∷ adds) drops apart) k)))
    (λ (i : n ≤ d).
    let not : n ≡ d → ⊥ = apart_heads n d adds drops apart in
    rw (le-ltb d n i)
    (put_over low (the_pair term n) (changed_pairs (others (d ∷ drops) ++ more)) (below n l)
    (k (d ∷ drops) (omega (arith, not), h.1, h.2) (no_longer_first n adds (d ∷ drops) apart))))
    (cases_lt d n)

with_rises : (low : Option Pair) (term adds drops : List ℕ) (more : List Change) (m : ℕ) → IsBelow low term m → RisesFrom m adds → RisesFrom m drops
    → AreDisjoint adds drops → IsBehind term more → RisesOver low (changed_pairs more) → RisesOver low (changed_pairs (changes_with term adds drops ++ more))
unfolding changes_with
with_rises low term [] drops more m below h k apart behind over = drops_rise low term drops more m below k behind over
with_rises low term (n ∷ adds) drops more m below h k apart behind over =
    add_rises low term n adds (changes_with term adds) drops more m below h.0 k apart
    (λ ds r d. with_rises (Some (the_pair term n)) term adds ds more (n + 1) (from_number term n) h.2 r d behind (behind n))

after_from : (low last : List ℕ) (changes : List TermChange) → slice_cmp nat_cmp low last ≡ Less → AreAfter last changes → AreAfter low changes
after_from low last [] l h = tt
after_from low last (c ∷ changes) l h = (nat_list_cmp_total.trans low last c.term l h.0, h.1, h.2)

after_rises : (last : List ℕ) (n : ℕ) (changes : List TermChange) → AreAfter last changes → RiseAfter (the_pair last n) (changed_pairs (changes_of changes))
unfolding changes_of
after_rises last n [] h = tt
after_rises last n (c ∷ changes) h =
    with_rises (Some (the_pair last n)) c.term c.added c.dropped (changes_of changes) 0 (λ m _. by_term last c.term n m h.0)
    (rises c.added h.1.additions) (rises c.dropped h.1.removals) h.1.disjoint (λ m. after_rises c.term m changes h.2)
    (after_rises last n changes (after_from last c.term changes h.0 h.2))

pub changes_rise : (changes : List TermChange) → AreTermChanges changes → Rise (changed_pairs (changes_of changes))
unfolding changes_of
changes_rise [] h = tt
changes_rise (c ∷ changes) h =
    with_rises None c.term c.added c.dropped (changes_of changes) 0 (λ m _. tt)
    (rises c.added h.0.additions) (rises c.dropped h.0.removals) h.0.disjoint (λ m. after_rises c.term m changes h.1)
    (rises_alone (the_pair c.term 0) (changed_pairs (changes_of changes)) (after_rises c.term 0 changes h.1))

pub merged_is : (pairs after : List Pair) (changes : List TermChange) → Rise pairs → AreTermChanges changes → after ≡ merged pairs (changes_of changes)
    → IsMerge pairs changes after
merged_is pairs after changes h are e =
    let up : Rise (changed_pairs (changes_of changes)) = changes_rise changes are in
    record {
      rises = subst Rise (sym e) (merged_rises pairs (changes_of changes) None h up);
      holds = λ p.
          ap (has p) e ∙ merged_has p pairs (changes_of changes) h up
          ∙ ap (λ (o : Option Bool). unwrap_or o (has p pairs)) (sym (same_said p changes (are_apart changes are) (are_rising changes are)));
    }

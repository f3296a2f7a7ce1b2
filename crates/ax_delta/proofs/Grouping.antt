-- The term changes of rising changes: the numbers of each rise, and none is both added and dropped.
use Rattle.std.proofs.Common.{◌≡◌, ℕ, ◌+◌, ◌<◌, ◌≤◌, List, [], ◌∷◌, ◌++◌, length, get_or, arith, refl, ap, ◌∙◌, sym, Bool, true, false, cond, nat_eq}
use Rattle.std.proofs.Common.{⊎_elim, suc}
use Rattle.std.proofs.lemmas.Bool.{ne_eqb, eqb-true}
use Rattle.std.proofs.lemmas.List.{length-append}
use Rattle.std.proofs.lemmas.Slice.Eq.{bytes_eq-Decides}
use Rattle.std.specs.List.Sorted.{IsStrictlyIncreasing}
use Rattle.std.specs.Str.{bytes_eq}
use Rattle.ax_pair.specs.Order.{Rise, RiseAfter}
use Rattle.ax_leaf.proofs.Grouping.{increasing_with, below_with, numbers_rise, one_increases, one_below}
use Rattle.ax_leaf.proofs.Ordered.{terms_rise}
use Rattle.ax_delta.specs.declared.change.Change.{Change}
use Rattle.ax_delta.specs.Changes.{TermChange, changed_pairs, with_added, with_dropped, term_changes_from, term_changes_of}
use Rattle.ax_delta.specs.Payload.{AreDisjoint, AreGood, AreAfter, AreTermChanges}
use Rattle.ax_delta.specs.Said.{has_number}
use Rattle.ax_delta.proofs.SamePair.{true_or_false}
use Rattle.ax_delta.proofs.Saying.{Ascend, TermsRise, AreApart}

-- what a term change is, but for the bounds of its numbers and its term
pub record IsFit (change : TermChange) : Type 0 where
  pub ups : IsStrictlyIncreasing change.added
  pub downs : IsStrictlyIncreasing change.dropped
  pub some : 0 < length change.added + length change.dropped
  pub disjoint : AreDisjoint change.added change.dropped

abbrev pub AreFit : List TermChange → Type 0
AreFit [] = Unit {0}
AreFit (c ∷ changes) = IsFit c × AreFit changes

-- numbers that stand ready, none above n
pub record IsUpTo (adds drops : List ℕ) (n : ℕ) : Type 0 where
  pub ups : IsStrictlyIncreasing adds
  pub downs : IsStrictlyIncreasing drops
  pub some : 0 < length adds + length drops
  pub disjoint : AreDisjoint adds drops
  pub below : (k : ℕ) → k < length adds → get_or adds k 0 ≤ n
  pub under : (k : ℕ) → k < length drops → get_or drops k 0 ≤ n

-- ---- one number more

none_below : (list : List ℕ) (m n : ℕ) → ((k : ℕ) → k < length list → get_or list k 0 ≤ m) → m < n → has_number n list ≡ false
none_below [] m n h l = refl
none_below (x ∷ list) m n h l =
    let first : x ≤ m = h 0 (omega arith) in
    rw (ne_eqb x n (λ e. omega arith)) (none_below list m n (λ k i. h (suc k) (omega arith)) l)

only_true : (b : Bool) → cond b true false ≡ b
only_true true = refl
only_true false = refl

has_at_end : (n m : ℕ) (list : List ℕ) → has_number n (list ++ m ∷ []) ≡ cond (has_number n list) true (nat_eq m n)
has_at_end n m [] = only_true (nat_eq m n)
has_at_end n m (x ∷ list) =
    elim (nat_eq x n) as (λ b. cond b true (has_number n (list ++ m ∷ [])) ≡ cond (cond b true (has_number n list)) true (nat_eq m n)) [
      | true ↦ refl
      | false ↦ has_at_end n m list
    ]

disjoint_with_add : (adds drops : List ℕ) (n : ℕ) → AreDisjoint adds drops → has_number n drops ≡ false → AreDisjoint (adds ++ n ∷ []) drops
unfolding AreDisjoint
disjoint_with_add adds drops n h none m k =
    ⊎_elim
    (λ (t : has_number m adds ≡ true). h m t)
    (λ (f : has_number m adds ≡ false).
    let same : nat_eq n m ≡ true = ap (λ (b : Bool). cond b true (nat_eq n m)) (sym f) ∙ sym (has_at_end m n adds) ∙ k in
    ap (λ (i : ℕ). has_number i drops) (sym (eqb-true n m same)) ∙ none)
    (true_or_false (has_number m adds))

disjoint_with_drop : (adds drops : List ℕ) (n : ℕ) → AreDisjoint adds drops → has_number n adds ≡ false → AreDisjoint adds (drops ++ n ∷ [])
unfolding AreDisjoint
disjoint_with_drop adds drops n h none m k =
    has_at_end m n drops ∙ ap (λ (b : Bool). cond b true (nat_eq n m)) (h m k)
    ∙ ne_eqb n m (λ e. let not : has_number m adds ≡ false = ap (λ (i : ℕ). has_number i adds) (sym e) ∙ none in absurd (cc))

pub more : (add : Bool) (adds drops : List ℕ) (m n : ℕ) → IsUpTo adds drops m → m < n
    → IsUpTo (cond add (adds ++ n ∷ []) adds) (cond add drops (drops ++ n ∷ [])) n
more true adds drops m n up l = record {
  ups = increasing_with adds n up.ups (λ k i. omega (arith, up.below k i));
  downs = up.downs;
  some = omega (arith, length-append adds (n ∷ []));
  disjoint = disjoint_with_add adds drops n up.disjoint (none_below drops m n up.under l);
  below = below_with adds m n up.below l;
  under = λ k i. omega (arith, up.under k i);
}
more false adds drops m n up l = record {
  ups = up.ups;
  downs = increasing_with drops n up.downs (λ k i. omega (arith, up.under k i));
  some = omega (arith, length-append drops (n ∷ []));
  disjoint = disjoint_with_drop adds drops n up.disjoint (none_below adds m n up.below l);
  below = λ k i. omega (arith, up.below k i);
  under = below_with drops m n up.under l;
}

none_increases : IsStrictlyIncreasing []
none_increases k h = absurd (omega arith)

one_apart : (n : ℕ) → AreDisjoint (n ∷ []) []
unfolding AreDisjoint
one_apart n m k = refl

one_apart_from : (n : ℕ) → AreDisjoint [] (n ∷ [])
unfolding AreDisjoint
one_apart_from n m k = absurd (cc)

pub one : (add : Bool) (n : ℕ) → IsUpTo (cond add (n ∷ []) []) (cond add [] (n ∷ [])) n
one true n = record {
  ups = one_increases n;
  downs = none_increases;
  some = omega arith;
  disjoint = one_apart n;
  below = one_below n;
  under = λ k h. absurd (omega arith);
}
one false n = record {
  ups = none_increases;
  downs = one_increases n;
  some = omega arith;
  disjoint = one_apart_from n;
  below = λ k h. absurd (omega arith);
  under = one_below n;
}

fit_of : (term adds drops : List ℕ) (n : ℕ) → IsUpTo adds drops n → IsFit (record { term = term; added = adds; dropped = drops })
fit_of term adds drops n up = record { ups = up.ups; downs = up.downs; some = up.some; disjoint = up.disjoint }

fit_from : (term adds drops : List ℕ) (p : Change) (changes : List Change) → IsUpTo adds drops p.pair.number → p.pair.term ≡ term
    → RiseAfter p.pair (changed_pairs changes)
    → AreFit (term_changes_from term adds drops changes)
unfolding term_changes_from
fit_from term adds drops p [] up e rise = (fit_of term adds drops p.pair.number up, tt)
fit_from term adds drops p (q ∷ changes) up e rise =
    elim (bytes_eq q.pair.term term) as
    (λ b. bytes_eq q.pair.term term ≡ b
    → AreFit (cond b (term_changes_from term (with_added adds q) (with_dropped drops q) changes)
    (record { term = term; added = adds; dropped = drops } ∷ term_changes_from q.pair.term (with_added [] q) (with_dropped [] q) changes))) [
      | true ↦ λ h.
          let same : q.pair.term ≡ term = (bytes_eq-Decides q.pair.term term).0 h in
          fit_from term (with_added adds q) (with_dropped drops q) q changes
          (more q.add adds drops p.pair.number q.pair.number up (numbers_rise p.pair q.pair (same ∙ sym e) rise.0)) same rise.1
      | false ↦ λ h. (
        fit_of term adds drops p.pair.number up,
        fit_from q.pair.term (with_added [] q) (with_dropped [] q) q changes (one q.add q.pair.number) refl rise.1,
      )
    ] refl

pub fit : (changes : List Change) → Rise (changed_pairs changes) → AreFit (term_changes_of changes)
unfolding term_changes_of
fit [] rise = tt
fit (p ∷ changes) rise = fit_from p.pair.term (with_added [] p) (with_dropped [] p) p changes (one p.add p.pair.number) refl rise

-- ---- the terms rise

ascend_changes : (last term adds drops : List ℕ) (p : Change) (changes : List Change) → Ascend last (record { term = term; added = adds; dropped = drops } ∷ [])
    → p.pair.term ≡ term → RiseAfter p.pair (changed_pairs changes) → Ascend last (term_changes_from term adds drops changes)
unfolding term_changes_from
ascend_changes last term adds drops p [] less e rise = less
ascend_changes last term adds drops p (q ∷ changes) less e rise =
    elim (bytes_eq q.pair.term term) as
    (λ b. bytes_eq q.pair.term term ≡ b
    → Ascend last (cond b (term_changes_from term (with_added adds q) (with_dropped drops q) changes)
    (record { term = term; added = adds; dropped = drops } ∷ term_changes_from q.pair.term (with_added [] q) (with_dropped [] q) changes))) [
      | true ↦ λ h. ascend_changes last term (with_added adds q) (with_dropped drops q) q changes less ((bytes_eq-Decides q.pair.term term).0 h) rise.1
      | false ↦ λ h. (
        less.0,
        ascend_changes term q.pair.term (with_added [] q) (with_dropped [] q) q changes (terms_rise term p.pair q.pair e h rise.0, tt) refl rise.1,
      )
    ] refl

rise_from : (term adds drops : List ℕ) (p : Change) (changes : List Change) → p.pair.term ≡ term → RiseAfter p.pair (changed_pairs changes)
    → TermsRise (term_changes_from term adds drops changes)
unfolding term_changes_from
rise_from term adds drops p [] e rise = tt
rise_from term adds drops p (q ∷ changes) e rise =
    elim (bytes_eq q.pair.term term) as
    (λ b. bytes_eq q.pair.term term ≡ b
    → TermsRise (cond b (term_changes_from term (with_added adds q) (with_dropped drops q) changes)
    (record { term = term; added = adds; dropped = drops } ∷ term_changes_from q.pair.term (with_added [] q) (with_dropped [] q) changes))) [
      | true ↦ λ h. rise_from term (with_added adds q) (with_dropped drops q) q changes ((bytes_eq-Decides q.pair.term term).0 h) rise.1
      | false ↦ λ h. ascend_changes term q.pair.term (with_added [] q) (with_dropped [] q) q changes (terms_rise term p.pair q.pair e h rise.0, tt) refl rise.1
    ] refl

pub terms_of_rise : (changes : List Change) → Rise (changed_pairs changes) → TermsRise (term_changes_of changes)
unfolding term_changes_of
terms_of_rise [] rise = tt
terms_of_rise (p ∷ changes) rise = rise_from p.pair.term (with_added [] p) (with_dropped [] p) p changes refl rise

pub apart_from : (changes : List TermChange) → AreFit changes → AreApart changes
apart_from [] h = tt
apart_from (c ∷ changes) h = (h.0.disjoint, apart_from changes h.1)

good_after : (last : List ℕ) (changes : List TermChange) → AreGood changes → Ascend last changes → AreAfter last changes
good_after last [] g h = tt
good_after last (c ∷ changes) g h = (h.0, g.0, good_after c.term changes g.1 h.1)

pub are_from : (changes : List TermChange) → AreGood changes → TermsRise changes → AreTermChanges changes
are_from [] g h = tt
are_from (c ∷ changes) g h = (g.0, good_after c.term changes g.1 h)

-- ---- at least one

some_from : (term adds drops : List ℕ) (changes : List Change) → 0 < length (term_changes_from term adds drops changes)
unfolding term_changes_from
some_from term adds drops [] = omega arith
some_from term adds drops (q ∷ changes) =
    elim (bytes_eq q.pair.term term) as
    (λ b. 0 < length (cond b (term_changes_from term (with_added adds q) (with_dropped drops q) changes)
    (record { term = term; added = adds; dropped = drops } ∷ term_changes_from q.pair.term (with_added [] q) (with_dropped [] q) changes))) [
      | true ↦ some_from term (with_added adds q) (with_dropped drops q) changes
      | false ↦ omega arith
    ]

pub some_of : (changes : List Change) → 0 < length changes → 0 < length (term_changes_of changes)
unfolding term_changes_of
some_of [] h = absurd (omega arith)
some_of (p ∷ changes) h = some_from p.pair.term (with_added [] p) (with_dropped [] p) changes

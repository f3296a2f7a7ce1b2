-- The changes of a merge, made one after another among rising pairs, each at its place.
use Rattle.std.proofs.Common.{◌≡◌, ◌<◌, ◌≤◌, ◌-◌, ◌+◌, ℕ, zero, suc, List, [], ◌∷◌, ◌++◌, length, take, drop, slice_get, arith, refl, ap, ◌∙◌, sym, subst, Bool, true, false}
use Rattle.std.proofs.Common.{Option, Some, None, IfSome, IsTrue, ◌↔◌, get_or}
use Rattle.std.specs.List.{insert, remove}
use Rattle.std.proofs.lemmas.List.{append_assoc, take-append-drop, take-take, drop-take, drop-drop, take_at, drop_at, length-append, length-take-le}
use Rattle.std.proofs.lemmas.Option.{slice_get_within, slice_get_past, slice_get-get_or}
use Rattle.std.proofs.lemmas.Cmp.{tied_itself}
use Rattle.std.specs.Ordering.{ordering_reverse}
use Rattle.std.specs.declared.cmp.Ordering.{Ordering}
use Rattle.std.specs.declared.cmp.Ordering.TheVariants.{Less, Equal, Greater}
use Rattle.ax_pair.specs.declared.pair.Pair.{Pair}
use Rattle.ax_pair.specs.Order.{pair_cmp, Rise, RiseAfter}
use Rattle.ax_pair.proofs.PairOrder.{pair_cmp_total}
use Rattle.ax_pair_list.proofs.Reading.{take_one, drop_one}
use Rattle.ax_delta.specs.declared.change.Change.{Change}
use Rattle.ax_delta.specs.Pass.{put_where, put_among, first_cmp, merged, merged_from, IsMadeAt, IsNotPassed, IsPlaceOf}
use Rattle.ax_delta.proofs.SamePair.{less_from, equal_same, later, rises_alone}

-- ---- pairs that are passed by

-- a pair is below all behind it
below : (y : Pair) (xs : List Pair) (x : Pair) (ys : List Pair) → RiseAfter y (xs ++ x ∷ ys) → pair_cmp y x ≡ Less
below y [] x ys h = h.0
below y (z ∷ xs) x ys h = below y xs x ys (later (Some y) z (xs ++ x ∷ ys) h.0 h.1)

-- a pair below one that is passed is passed
passed_below : (changes : List Change) (y x : Pair) → pair_cmp y x ≡ Less → first_cmp changes x ≡ Some Greater → first_cmp changes y ≡ Some Greater
passed_below [] y x less e = absurd (cc)
passed_below (c ∷ changes) y x less e =
    let greater : pair_cmp c.pair x ≡ Greater = cc in
    let above : pair_cmp x c.pair ≡ Less = less_from x c.pair greater in
    ap (λ (o : Ordering). Some o) (pair_cmp_total.antisymm c.pair y ∙ ap ordering_reverse (pair_cmp_total.trans y x c.pair less above))

among_passed : (changes : List Change) (p : Pair) (others : List Change → List Pair) → first_cmp changes p ≡ Some Greater
    → put_among p others changes ≡ p ∷ others changes
among_passed [] p others e = refl
among_passed (c ∷ changes) p others e = let greater : pair_cmp c.pair p ≡ Greater = cc in rw greater refl

-- the changes come behind pairs that are passed
passed_over : (changes : List Change) (xs : List Pair) (x : Pair) (ys : List Pair) → Rise (xs ++ x ∷ ys) → first_cmp changes x ≡ Some Greater
    → merged (xs ++ x ∷ ys) changes ≡ xs ++ x ∷ merged ys changes
unfolding merged
passed_over changes [] x ys h e = among_passed changes x (merged ys) e
passed_over changes (y ∷ xs) x ys h e =
    among_passed changes y (merged (xs ++ x ∷ ys)) (passed_below changes y x (below y xs x ys h) e)
    ∙ ap (λ (ps : List Pair). y ∷ ps) (passed_over changes xs x ys (rises_alone y (xs ++ x ∷ ys) h) e)

rises_behind : (xs : List Pair) (x : Pair) (ys : List Pair) → Rise (xs ++ x ∷ ys) → Rise ys
rises_behind [] x ys h = rises_alone x ys h
rises_behind (y ∷ xs) x ys h = rises_behind xs x ys (rises_alone y (xs ++ x ∷ ys) h)

-- the pairs between two places, and those before the second
between : (pairs : List Pair) (low high : ℕ) → low ≤ high → take high pairs ≡ take low pairs ++ take (high - low) (drop low pairs)
between pairs low high le =
    let far : low + (high - low) ≡ high = omega (arith, le) in
    sym (take-append-drop low (take high pairs))
    ∙ ap (λ (ps : List Pair). ps ++ drop low (take high pairs)) (take-take low high pairs le)
    ∙ ap (λ (ps : List Pair). take low pairs ++ ps)
    (ap (λ (n : ℕ). drop low (take n pairs)) (sym far) ∙ drop-take low (high - low) pairs)

behind : (pairs : List Pair) (low high : ℕ) → low ≤ high → drop low pairs ≡ take (high - low) (drop low pairs) ++ drop high pairs
behind pairs low high le =
    let far : low + (high - low) ≡ high = omega (arith, le) in
    sym (take-append-drop (high - low) (drop low pairs))
    ∙ ap (λ (ps : List Pair). take (high - low) (drop low pairs) ++ ps) (drop-drop (high - low) low pairs ∙ ap (λ (n : ℕ). drop n pairs) far)

-- from behind a pair that is passed
pub record IsPast (pairs : List Pair) (changes : List Change) (low high : ℕ) : Type 0 where
  pub rise : Rise (drop high pairs)
  pub same : merged_from high pairs changes ≡ merged_from low pairs changes

pub past : (pairs : List Pair) (changes : List Change) (low middle : ℕ) (x : Pair) → low ≤ middle → Rise (drop low pairs) → slice_get pairs middle ≡ Some x
    → first_cmp changes x ≡ Some Greater → IsPast pairs changes low (middle + 1)
past pairs changes low middle x le rise at e =
    let xs : List Pair = take (middle - low) (drop low pairs) in
    let ys : List Pair = drop (middle + 1) pairs in
    let split : drop low pairs ≡ xs ++ x ∷ ys =
    behind pairs low middle le ∙ ap (λ (ps : List Pair). take (middle - low) (drop low pairs) ++ ps) (drop_one pairs middle x at)
    in
    let rises : Rise (xs ++ x ∷ ys) = subst Rise split rise in
    record {
      rise = rises_behind xs x ys rises;
      same = ap (λ (ps : List Pair). ps ++ merged ys changes) (take_one pairs middle x at ∙ ap (λ (ps : List Pair). ps ++ x ∷ []) (between pairs low middle le))
          ∙ append_assoc (take low pairs ++ xs) (x ∷ []) (merged ys changes)
          ∙ append_assoc (take low pairs) xs (x ∷ merged ys changes)
          ∙ ap (λ (ps : List Pair). take low pairs ++ ps) (sym (passed_over changes xs x ys rises e))
          ∙ ap (λ (ps : List Pair). take low pairs ++ merged ps changes) (sym split);
    }

-- ---- a change at its place

abbrev the_change : Bool → Pair → Change
the_change add p = record { add = add; pair = p }

-- a change of a pair that is there
here : (add : Bool) (p : Pair) (ys : List Pair) (others : List Change) → merged (p ∷ ys) (the_change add p ∷ others) ≡ put_where add p (merged ys others)
unfolding merged
here add p ys others = rw (tied_itself pair_cmp_total p) refl

-- a change of one that is not
away : (add : Bool) (p : Pair) (rest : List Pair) (others : List Change) → IfSome (slice_get rest 0) (λ q. pair_cmp p q ≡ Less)
    → merged rest (the_change add p ∷ others) ≡ put_where add p (merged rest others)
unfolding merged
away add p [] others h = refl
away add p (q ∷ rest) others h = rw h refl

first_behind : (pairs : List Pair) (at : ℕ) → slice_get (drop at pairs) 0 ≡ slice_get pairs at
first_behind [] zero = refl
first_behind [] (suc at) = refl
first_behind (p ∷ pairs) zero = refl
first_behind (p ∷ pairs) (suc at) = first_behind pairs at

pub stays : (at : ℕ) (p : Pair) (pairs : List Pair) → Rise (drop at pairs) → slice_get pairs at ≡ Some p → IsMadeAt true at p pairs (at + 1) pairs
stays at p pairs rise is =
    let split : drop at pairs ≡ p ∷ drop (at + 1) pairs = drop_one pairs at p is in
    record {
      within = omega (arith, slice_get_within pairs at p is);
      rise = rises_alone p (drop (at + 1) pairs) (subst Rise split rise);
      made = λ others.
          ap (λ (ps : List Pair). ps ++ merged (drop (at + 1) pairs) others) (take_one pairs at p is)
          ∙ append_assoc (take at pairs) (p ∷ []) (merged (drop (at + 1) pairs) others)
          ∙ ap (λ (ps : List Pair). take at pairs ++ ps) (sym (here true p (drop (at + 1) pairs) others))
          ∙ ap (λ (ps : List Pair). take at pairs ++ merged ps (the_change true p ∷ others)) (sym split);
    }

pub taken_out : (at : ℕ) (p : Pair) (pairs new : List Pair) → Rise (drop at pairs) → slice_get pairs at ≡ Some p → new ≡ remove pairs at
    → IsMadeAt false at p pairs at new
taken_out at p pairs new rise is e =
    let within : at < length pairs = slice_get_within pairs at p is in
    let long : length (take at pairs) ≡ at = length-take-le at pairs (omega (arith, within)) in
    let next : at + 1 ≡ suc at = omega arith in
    let split : drop at pairs ≡ p ∷ drop (suc at) pairs = drop_one pairs at p is ∙ ap (λ (n : ℕ). p ∷ drop n pairs) next in
    let before : take at new ≡ take at pairs = ap (take at) e ∙ take_at (take at pairs) (drop (suc at) pairs) at long in
    let after : drop at new ≡ drop (suc at) pairs = ap (drop at) e ∙ drop_at (take at pairs) (drop (suc at) pairs) at long in
    record {
      within = subst (λ (ps : List Pair). at ≤ length ps) (sym e) (omega (arith, long, length-append (take at pairs) (drop (suc at) pairs)));
      rise = subst Rise (sym after) (rises_alone p (drop (suc at) pairs) (subst Rise split rise));
      made = λ others.
          ap (λ (ps : List Pair). ps ++ merged (drop at new) others) before
          ∙ ap (λ (ps : List Pair). take at pairs ++ merged ps others) after
          ∙ ap (λ (ps : List Pair). take at pairs ++ ps) (sym (here false p (drop (suc at) pairs) others))
          ∙ ap (λ (ps : List Pair). take at pairs ++ merged ps (the_change false p ∷ others)) (sym split);
    }

pub stays_away : (at : ℕ) (p : Pair) (pairs : List Pair) → at ≤ length pairs → Rise (drop at pairs) → IfSome (slice_get pairs at) (λ q. pair_cmp p q ≡ Less)
    → IsMadeAt false at p pairs at pairs
stays_away at p pairs within rise is = record {
  within = within;
  rise = rise;
  made = λ others.
      ap (λ (ps : List Pair). take at pairs ++ ps)
      (sym (away false p (drop at pairs) others (subst (λ o. IfSome o (λ q. pair_cmp p q ≡ Less)) (sym (first_behind pairs at)) is)));
}

pub put_in : (at : ℕ) (p : Pair) (pairs new : List Pair) → at ≤ length pairs → Rise (drop at pairs) → IfSome (slice_get pairs at) (λ q. pair_cmp p q ≡ Less)
    → new ≡ insert pairs at p → IsMadeAt true at p pairs (at + 1) new
put_in at p pairs new within rise is e =
    let long : length (take at pairs) ≡ at = length-take-le at pairs within in
    let longer : length (take at pairs ++ p ∷ []) ≡ at + 1 = omega (arith, long, length-append (take at pairs) (p ∷ [])) in
    let split : new ≡ (take at pairs ++ p ∷ []) ++ drop at pairs = e ∙ sym (append_assoc (take at pairs) (p ∷ []) (drop at pairs)) in
    let before : take (at + 1) new ≡ take at pairs ++ p ∷ [] = ap (take (at + 1)) split ∙ take_at (take at pairs ++ p ∷ []) (drop at pairs) (at + 1) longer in
    let after : drop (at + 1) new ≡ drop at pairs = ap (drop (at + 1)) split ∙ drop_at (take at pairs ++ p ∷ []) (drop at pairs) (at + 1) longer in
    record {
      within = subst (λ (ps : List Pair). at + 1 ≤ length ps) (sym split)
          (omega (arith, longer, length-append (take at pairs ++ p ∷ []) (drop at pairs)));
      rise = subst Rise (sym after) rise;
      made = λ others.
          ap (λ (ps : List Pair). ps ++ merged (drop (at + 1) new) others) before
          ∙ ap (λ (ps : List Pair). (take at pairs ++ p ∷ []) ++ merged ps others) after
          ∙ append_assoc (take at pairs) (p ∷ []) (merged (drop at pairs) others)
          ∙ ap (λ (ps : List Pair). take at pairs ++ ps)
          (sym (away true p (drop at pairs) others (subst (λ o. IfSome o (λ q. pair_cmp p q ≡ Less)) (sym (first_behind pairs at)) is)));
    }

pub there : (met : Bool) (at : ℕ) (p : Pair) (pairs : List Pair) → IsPlaceOf met at p pairs → met ≡ true → at < length pairs
there true at p pairs h e = slice_get_within pairs at p h
there false at p pairs h e = absurd (cc)

pub longer : (at : ℕ) (p : Pair) (pairs : List Pair) → at ≤ length pairs → at < length (insert pairs at p)
longer at p pairs within =
    omega (arith, length-append (take at pairs) (p ∷ drop at pairs), length-take-le at pairs within)

-- ---- what is found at a place

no_pair : Pair
no_pair = record { term = []; number = 0 }

pub past_there : (pairs : List Pair) (changes : List Change) (low middle : ℕ) → low ≤ middle → middle < length pairs → Rise (drop low pairs)
    → IfSome (slice_get pairs middle) (λ pair. IsTrue true ↔ (first_cmp changes pair ≡ Some Greater)) → IsPast pairs changes low (middle + 1)
past_there pairs changes low middle le within rise h =
    let at : slice_get pairs middle ≡ Some (get_or pairs middle no_pair) = slice_get-get_or pairs middle no_pair within in
    past pairs changes low middle (get_or pairs middle no_pair) le rise at
    ((subst (λ o. IfSome o (λ pair. IsTrue true ↔ (first_cmp changes pair ≡ Some Greater))) at h).0 refl)

pub not_passed_there : (changes : List Change) (o : Option Pair) → IfSome o (λ pair. IsTrue false ↔ (first_cmp changes pair ≡ Some Greater))
    → IfSome o (IsNotPassed changes)
not_passed_there changes None h = tt
not_passed_there changes (Some pair) h = λ e. let no : false ≡ true = h.1 e in absurd (cc)

pub nothing_passed : (changes : List Change) (pairs : List Pair) (at : ℕ) → length pairs ≤ at → IfSome (slice_get pairs at) (IsNotPassed changes)
nothing_passed changes pairs at h = subst (λ o. IfSome o (IsNotPassed changes)) (sym (slice_get_past pairs at h)) tt

-- a pair that is neither passed nor met is greater
pub place_of_other : (changes others : List Change) (change : Change) (o : Option Pair) → changes ≡ change ∷ others → IfSome o (IsNotPassed changes)
    → IfSome o (λ q. first_cmp changes q ≡ Some Equal → ⊥) → IfSome o (λ q. pair_cmp change.pair q ≡ Less)
place_of_other changes others change None e h k = tt
place_of_other changes others change (Some q) e h k =
    by_cases (pair_cmp change.pair q) (λ f. h (ap (λ (cs : List Change). first_cmp cs q) e ∙ ap (λ (o : Ordering). Some o) f))
    (λ f. k (ap (λ (cs : List Change). first_cmp cs q) e ∙ ap (λ (o : Ordering). Some o) f))
  where
    by_cases : (o : Ordering) → (o ≡ Greater → ⊥) → (o ≡ Equal → ⊥) → o ≡ Less
    by_cases Less f g = refl
    by_cases Equal f g = absurd (g refl)
    by_cases Greater f g = absurd (f refl)

pub place_of_same : (changes others : List Change) (change : Change) (p : Pair) → changes ≡ change ∷ others → first_cmp changes p ≡ Some Equal
    → p ≡ change.pair
place_of_same changes others change p e h =
    let at : Some (pair_cmp change.pair p) ≡ Some Equal = sym (ap (λ (cs : List Change). first_cmp cs p) e) ∙ h in
    let same : pair_cmp change.pair p ≡ Equal = cc in
    sym (equal_same change.pair p same)

pub is_place : (met : Bool) (at : ℕ) (pairs : List Pair) (changes others : List Change) (change : Change) → changes ≡ change ∷ others
    → IfSome (slice_get pairs at) (IsNotPassed changes) → (met ≡ true → at < length pairs)
    → IfSome (slice_get pairs at) (λ pair. IsTrue met ↔ (first_cmp changes pair ≡ Some Equal)) → IsPlaceOf met at change.pair pairs
is_place true at pairs changes others change e not_passed within h =
    let is : slice_get pairs at ≡ Some (get_or pairs at no_pair) = slice_get-get_or pairs at no_pair (within refl) in
    is ∙ ap (λ (p : Pair). Some p) (place_of_same changes others change (get_or pairs at no_pair) e
    ((subst (λ o. IfSome o (λ pair. IsTrue true ↔ (first_cmp changes pair ≡ Some Equal))) is h).0 refl))
is_place false at pairs changes others change e not_passed within h =
    place_of_other changes others change (slice_get pairs at) e not_passed (not_met (slice_get pairs at) h)
  where
    not_met : (o : Option Pair) → IfSome o (λ pair. IsTrue false ↔ (first_cmp changes pair ≡ Some Equal)) → IfSome o (λ pair. first_cmp changes pair ≡ Some Equal → ⊥)
    not_met None k = tt
    not_met (Some pair) k = λ f. let no : false ≡ true = k.1 f in absurd (cc)

-- ---- all changes

merged_with_none : (ps : List Pair) → merged ps [] ≡ ps
unfolding merged
merged_with_none [] = refl
merged_with_none (p ∷ ps) = ap (λ (qs : List Pair). p ∷ qs) (merged_with_none ps)

pub all_made : (pairs whole : List Pair) (changes : List Change) (at : ℕ) → changes ≡ [] → merged_from at pairs changes ≡ whole → pairs ≡ whole
all_made pairs whole changes at none is =
    sym (take-append-drop at pairs)
    ∙ ap (λ (ps : List Pair). take at pairs ++ ps) (sym (merged_with_none (drop at pairs)))
    ∙ ap (λ (cs : List Change). merged_from at pairs cs) (sym none) ∙ is

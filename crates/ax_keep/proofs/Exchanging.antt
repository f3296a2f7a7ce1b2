-- What the pass makes exchanges the one pairs for the others.
use Rattle.std.proofs.Common.{◌≡◌, zero, suc, List, [], ◌∷◌, refl, ap, ◌∙◌, sym, subst, Bool, true, false, cond, ⊎_elim, ◌⊎◌, inl}
use Rattle.std.proofs.Common.{inr, Option, Some, None, arith}
use Rattle.std.specs.Prelude.{◌↔◌}
use Rattle.std.specs.List.{Contains}
use Rattle.std.specs.Option.{unwrap_or}
use Rattle.ax_pair.specs.declared.pair.Pair.{Pair}
use Rattle.ax_pair.specs.Order.{Rise}
use Rattle.ax_delta.specs.declared.change.Change.{Change}
use Rattle.ax_delta.specs.Changes.{changed_pairs}
use Rattle.ax_delta.specs.Said.{is_same, has, said_by}
use Rattle.ax_delta.proofs.SamePair.{true_or_false, same_from, same_itself, rises_alone, none_said}
use Rattle.ax_keep.specs.Exchanges.{IsIn, IsNetted, Exchanges, is_there_after}
use Rattle.ax_keep.specs.Net.{net, net_said}
use Rattle.ax_keep.proofs.NetLaws.{net_rises, net_says}

-- an element is the first or one of the rest
pub first_or_rest : {A : Type 0} (x : A) (xs : List A) (y : A) → Contains (x ∷ xs) y → (x ≡ y) ⊎ Contains xs y
first_or_rest x xs y (zero, less, is) = inl is
first_or_rest x xs y (suc k, less, is) = inr (k, omega (arith, less), is)

pub none_there : {A : Type 0} (y : A) → Contains [] y → ⊥
none_there y (k, less, is) = omega (arith, less)

pub in_first : {A : Type 0} (x : A) (xs : List A) (y : A) → x ≡ y → Contains (x ∷ xs) y
in_first x xs y e = (zero, omega arith, e)

pub in_rest : {A : Type 0} (x : A) (xs : List A) (y : A) → Contains xs y → Contains (x ∷ xs) y
in_rest x xs y (k, less, is) = (suc k, omega (arith, less), is)

-- a change among rising ones says what is said of its pair
says_itself : (changes : List Change) (change : Change) → Rise (changed_pairs changes) → Contains changes change → said_by change.pair changes ≡ Some change.add
says_itself [] change up there = absurd (none_there change there)
says_itself (first ∷ changes) change up there =
    ⊎_elim
    (λ (e : first ≡ change).
    ap (λ (c : Change). said_by c.pair (first ∷ changes)) (sym e)
    ∙ ap (λ b. cond b (Some first.add) (said_by first.pair changes)) (same_itself first.pair)
    ∙ ap (λ (c : Change). Some c.add) e)
    (λ (later : Contains changes change).
    let said : said_by change.pair changes ≡ Some change.add = says_itself changes change (rises_alone first.pair (changed_pairs changes) up) later in
    ⊎_elim
    (λ (s : is_same first.pair change.pair ≡ true).
    let none : said_by change.pair changes ≡ None =
    ap (λ (q : Pair). said_by q changes) (sym (same_from first.pair change.pair s)) ∙ none_said first.pair changes up in
    absurd (cc))
    (λ (s : is_same first.pair change.pair ≡ false).
    ap (λ b. cond b (Some first.add) (said_by change.pair changes)) s ∙ said)
    (true_or_false (is_same first.pair change.pair)))
    (first_or_rest first changes change there)

made_at : (there o n : Bool) → (o ≡ true → there ≡ true)
    → (unwrap_or (net_said o n) there ≡ true) ↔ ((n ≡ true) ⊎ ((there ≡ true) × (o ≡ true → ⊥)))
made_at there true true has_old = ((λ h. inl refl), (λ h. has_old refl))
made_at there true false has_old = (
  (λ h. absurd cc),
  (λ h. ⊎_elim (λ (is : false ≡ true). absurd (cc)) (λ (k : (there ≡ true) × (true ≡ true → ⊥)). absurd (k.1 refl)) h),
)
made_at there false true has_old = ((λ h. inl refl), (λ h. refl))
made_at there false false has_old = (
  (λ h. inr (h, (λ is. absurd cc))),
  (λ h. ⊎_elim (λ (is : false ≡ true). absurd (cc)) (λ (k : (there ≡ true) × (false ≡ true → ⊥)). k.0) h),
)

netted_at : (old new : List Pair) (add : Bool) (p : Pair) (o n : Bool) → has p old ≡ o → has p new ≡ n → net_said o n ≡ Some add
    → IsNetted (IsIn old) (IsIn new) add p
netted_at old new add p true true eo en said = absurd cc
netted_at old new true p true false eo en said = absurd cc
netted_at old new false p true false eo en said = (eo, (λ is. absurd (cc)))
netted_at old new true p false true eo en said = (en, (λ is. absurd (cc)))
netted_at old new false p false true eo en said = absurd cc
netted_at old new add p false false eo en said = absurd cc

pub exchanges : (old new : List Pair) (changes : List Change) → Rise old → Rise new → changes ≡ net old new
    → Exchanges (IsIn old) (IsIn new) changes
exchanges old new changes up_old up_new are =
    let up : Rise (changed_pairs changes) =
    subst (λ (cs : List Change). Rise (changed_pairs cs)) (sym are) (net_rises old new None up_old up_new) in
    let says : (p : Pair) → said_by p changes ≡ net_said (has p old) (has p new) =
    λ p. ap (said_by p) are ∙ net_says p old new up_old up_new in
    record {
      rise = up;
      made = λ set has_old p.
          let is : is_there_after changes set p ≡ unwrap_or (net_said (has p old) (has p new)) (set p) =
          ap (λ (said : Option Bool). unwrap_or said (set p)) (says p) in
          let both = made_at (set p) (has p old) (has p new) (has_old p) in
          ((λ h. both.0 (sym is ∙ h)), (λ h. is ∙ both.1 h));
      netted = λ change there.
          netted_at old new change.add change.pair (has change.pair old) (has change.pair new) refl refl
          (sym (says change.pair) ∙ says_itself changes change up there);
    }

-- ---- pairs of lists told in other words

netted_alike : (A B C D : Pair → Type 0) → ((p : Pair) → A p ↔ C p) → ((p : Pair) → B p ↔ D p)
    → (add : Bool) (p : Pair) → IsNetted A B add p → IsNetted C D add p
netted_alike A B C D a b true p h = ((b p).0 h.0, (λ c. h.1 ((a p).1 c)))
netted_alike A B C D a b false p h = ((a p).0 h.0, (λ d. h.1 ((b p).1 d)))

pub told_as : (Old New : Pair → Type 0) (old new : List Pair) (changes : List Change)
    → ((p : Pair) → (has p old ≡ true) ↔ Old p) → ((p : Pair) → (has p new ≡ true) ↔ New p)
    → Exchanges (IsIn old) (IsIn new) changes → Exchanges Old New changes
told_as Old New old new changes a b e = record {
  rise = e.rise;
  made = λ set has_old p.
      let by = e.made set (λ q is. has_old q ((a q).0 is)) p in (
        (λ h.
            ⊎_elim (λ (n : IsIn new p). inl ((b p).0 n))
            (λ (k : (set p ≡ true) × (IsIn old p → ⊥)). inr (k.0, (λ o. k.1 ((a p).1 o)))) (by.0 h)),
        (λ h.
            by.1
            (⊎_elim (λ (n : New p). inl ((b p).1 n))
            (λ (k : (set p ≡ true) × (Old p → ⊥)). inr (k.0, (λ o. k.1 ((a p).0 o)))) h)),
      );
  netted = λ change there.
      netted_alike (IsIn old) (IsIn new) Old New a b change.add change.pair (e.netted change there);
}

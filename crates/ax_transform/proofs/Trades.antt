-- Changes that exchange pairs of a set for others, told without an order of them: so told they can be joined, and put in order.
use Rattle.std.proofs.Common.{◌≡◌, List, [], ◌∷◌, ◌++◌, Bool, true, false, cond, Option, Some, None, ◌⊎◌, inl, inr, ⊎_elim, refl, sym, ap, ◌∙◌, subst}
use Rattle.std.proofs.lemmas.List.Elements.{Contains-append_cases, Contains-append_left, Contains-append_right}
use Rattle.std.specs.List.{Contains}
use Rattle.std.specs.Option.{unwrap_or}
use Rattle.std.specs.Prelude.{◌↔◌, not}
use Rattle.ax_pair.specs.Order.{Rise}
use Rattle.ax_pair.specs.declared.pair.Pair.{Pair}
use Rattle.ax_delta.proofs.SamePair.{differs, same_from, same_itself, same_to}
use Rattle.ax_delta.specs.Changes.{changed_pairs}
use Rattle.ax_delta.specs.Said.{is_same, said_by}
use Rattle.ax_delta.specs.declared.change.Change.{Change}
use Rattle.ax_terms.proofs.Sequences.{contains_first, contains_later, none_in_nil, only_one}
use Rattle.ax_keep.specs.Exchanges.{Exchanges, IsNetted, is_there_after}
use Rattle.ax_transform.specs.Gathering.{AreNetted}

-- no change is of the pair
abbrev pub IsUnsaid : Pair → List Change → Type 0
IsUnsaid pair changes = (change : Change) → Contains changes change → change.pair ≡ pair → ⊥

-- An added pair is new and not old, a dropped one old and not new. Of a pair that no change is of: it is new or not old, and
-- not new without being old.
pub record Trades (Old New : Pair → Type 0) (changes : List Change) : Type 0 where
  pub netted : (change : Change) → Contains changes change → IsNetted Old New change.add change.pair
  pub kept : (pair : Pair) → IsUnsaid pair changes → New pair ⊎ (Old pair → ⊥)
  pub old : (pair : Pair) → IsUnsaid pair changes → New pair → (Old pair → ⊥) → ⊥

-- the same changes, in any order and each any number of times
abbrev pub AreSame : List Change → List Change → Type 0
AreSame changes others = (change : Change) → Contains changes change ↔ Contains others change

-- ---- what changes say of a pair

-- a change is of the pair, and does this with it
record Says (pair : Pair) (add : Bool) (changes : List Change) : Type 0 where
  pub change : Change
  pub there : Contains changes change
  pub pair_is : change.pair ≡ pair
  pub add_is : change.add ≡ add

some_says : (pair : Pair) (changes : List Change) (add : Bool) → said_by pair changes ≡ Some add → Says pair add changes
some_says pair [] add is = absurd cc
some_says pair (first ∷ changes) add is = by_test (is_same first.pair pair) refl is (some_says pair changes add)
  where
    by_test : (b : Bool) → is_same first.pair pair ≡ b → cond b (Some first.add) (said_by pair changes) ≡ Some add
        → (said_by pair changes ≡ Some add → Says pair add changes) → Says pair add (first ∷ changes)
    by_test true same here rest =
        let add_is : first.add ≡ add = cc in
        record { change = first; there = contains_first first changes; pair_is = same_from first.pair pair same; add_is = add_is }
    by_test false other later rest =
        let its = rest later in
        record { change = its.change; there = contains_later first changes its.change its.there; pair_is = its.pair_is; add_is = its.add_is }

unsaid_none : (pair : Pair) (changes : List Change) → IsUnsaid pair changes → said_by pair changes ≡ None
unsaid_none pair changes unsaid = by_said (said_by pair changes) refl
  where
    by_said : (said : Option Bool) → said_by pair changes ≡ said → said ≡ None
    by_said None is = refl
    by_said (Some add) is = let its = some_says pair changes add is in absurd (unsaid its.change its.there its.pair_is)

none_unsaid : (pair : Pair) (changes : List Change) → said_by pair changes ≡ None → IsUnsaid pair changes
none_unsaid pair [] none change there same = none_in_nil change there
none_unsaid pair (first ∷ changes) none change there same = by_test (is_same first.pair pair) refl none (none_unsaid pair changes)
  where
    by_test : (b : Bool) → is_same first.pair pair ≡ b → cond b (Some first.add) (said_by pair changes) ≡ None
        → (said_by pair changes ≡ None → IsUnsaid pair changes) → ⊥
    by_test true is here rest = cc
    by_test false is later rest =
        ⊎_elim
        (λ (one : Contains (first ∷ []) change).
        let pair_is : first.pair ≡ pair = ap (λ (c : Change). c.pair) (only_one first change one) ∙ same in
        let yes : is_same first.pair pair ≡ true = same_to first.pair pair pair_is in cc)
        (λ (more : Contains changes change). rest later change more same)
        (Contains-append_cases (first ∷ []) changes change there)

-- ---- from what exchanges

unsaid_there : (pair : Pair) (changes : List Change) (set : Pair → Bool) → IsUnsaid pair changes
    → is_there_after changes set pair ≡ set pair
unsaid_there pair changes set unsaid = ap (λ (said : Option Bool). unwrap_or said (set pair)) (unsaid_none pair changes unsaid)

pub trades_of : (Old New : Pair → Type 0) (changes : List Change) → Exchanges Old New changes → Trades Old New changes
trades_of Old New changes exchanges = record {
  netted = exchanges.netted;
  kept = λ pair unsaid.
      ⊎_elim (λ (new : New pair). inl new) (λ (left : (true ≡ true) × (Old pair → ⊥)). inr left.1)
      ((exchanges.made (λ p. true) (λ p old. refl) pair).0 (unsaid_there pair changes (λ p. true) unsaid));
  old = λ pair unsaid new none.
      let others : Pair → Bool = λ (p : Pair). not (is_same p pair) in
      let has : (p : Pair) → Old p → others p ≡ true =
      λ (p : Pair) (is : Old p). ap not (differs p pair (λ (same : p ≡ pair). none (subst Old same is))) in
      let there : others pair ≡ true =
      sym (unsaid_there pair changes others unsaid) ∙ (exchanges.made others has pair).1 (inl new) in
      let gone : others pair ≡ false = ap not (same_itself pair) in
      cc;
}

-- ---- to what exchanges

module _ (Old New : Pair → Type 0) (changes : List Change) (rise : Rise (changed_pairs changes)) (trades : Trades Old New changes) where
  added : (pair : Pair) → said_by pair changes ≡ Some true → New pair × (Old pair → ⊥)
  added pair is =
      let its = some_says pair changes true is in
      subst (λ (p : Pair). New p × (Old p → ⊥)) its.pair_is
      (subst (λ (b : Bool). IsNetted Old New b its.change.pair) its.add_is (trades.netted its.change its.there))

  dropped : (pair : Pair) → said_by pair changes ≡ Some false → Old pair × (New pair → ⊥)
  dropped pair is =
      let its = some_says pair changes false is in
      subst (λ (p : Pair). Old p × (New p → ⊥)) its.pair_is
      (subst (λ (b : Bool). IsNetted Old New b its.change.pair) its.add_is (trades.netted its.change its.there))

  made_at : (set : Pair → Bool) (pair : Pair) → (Old pair → set pair ≡ true) → (said : Option Bool) → said_by pair changes ≡ said
      → (unwrap_or said (set pair) ≡ true) ↔ (New pair ⊎ ((set pair ≡ true) × (Old pair → ⊥)))
  made_at set pair has (Some true) is = ((λ h. inl (added pair is).0), (λ h. refl))
  made_at set pair has (Some false) is = (
    (λ h. absurd cc),
    (λ h.
        ⊎_elim (λ (new : New pair). absurd ((dropped pair is).1 new))
        (λ (left : (set pair ≡ true) × (Old pair → ⊥)). absurd (left.1 (dropped pair is).0)) h),
  )
  made_at set pair has None is = (
    (λ h.
        ⊎_elim (λ (new : New pair). inl new) (λ (none : Old pair → ⊥). inr (h, none))
        (trades.kept pair (none_unsaid pair changes is))),
    (λ h.
        ⊎_elim (λ (new : New pair). still new (set pair) refl) (λ (left : (set pair ≡ true) × (Old pair → ⊥)). left.0) h),
  )
    where
      still : New pair → (b : Bool) → set pair ≡ b → set pair ≡ true
      still new true there = there
      still new false gone =
          absurd (trades.old pair (none_unsaid pair changes is) new (λ (old : Old pair). let there : set pair ≡ true = has old in cc))

  pub exchanges_of : Exchanges Old New changes
  exchanges_of = record {
    rise = rise;
    made = λ set has pair. made_at set pair (has pair) (said_by pair changes) refl;
    netted = trades.netted;
  }

-- ---- joined, and in any order

pub same_trades : (Old New : Pair → Type 0) (changes others : List Change) → AreSame others changes → Trades Old New changes
    → Trades Old New others
same_trades Old New changes others same trades = record {
  netted = λ change there. trades.netted change ((same change).0 there);
  kept = λ pair unsaid. trades.kept pair (λ change there. unsaid change ((same change).1 there));
  old = λ pair unsaid. trades.old pair (λ change there. unsaid change ((same change).1 there));
}

pub no_trades : Trades (λ pair. ⊥) (λ pair. ⊥) []
no_trades = record {
  netted = λ change there. absurd (none_in_nil change there);
  kept = λ pair unsaid. inr (λ none. none);
  old = λ pair unsaid none. absurd none;
}

abbrev Either : (Pair → Type 0) → (Pair → Type 0) → Pair → Type 0
Either First Second pair = First pair ⊎ Second pair

module _ (Old New OldOther NewOther : Pair → Type 0)
    (apart : (pair : Pair) → Either Old New pair → Either OldOther NewOther pair → ⊥) where
  first_netted : (add : Bool) (pair : Pair) → IsNetted Old New add pair → IsNetted (Either Old OldOther) (Either New NewOther) add pair
  first_netted true pair (new, none) =
      (inl new, (λ old. ⊎_elim none (λ (other : OldOther pair). apart pair (inr new) (inl other)) old))
  first_netted false pair (old, none) =
      (inl old, (λ new. ⊎_elim none (λ (other : NewOther pair). apart pair (inl old) (inr other)) new))

  second_netted : (add : Bool) (pair : Pair) → IsNetted OldOther NewOther add pair
      → IsNetted (Either Old OldOther) (Either New NewOther) add pair
  second_netted true pair (new, none) =
      (inr new, (λ old. ⊎_elim (λ (other : Old pair). apart pair (inl other) (inr new)) none old))
  second_netted false pair (old, none) =
      (inr old, (λ new. ⊎_elim (λ (other : New pair). apart pair (inr other) (inl old)) none new))

  module _ (changes others : List Change) (trades : Trades Old New changes) (more : Trades OldOther NewOther others) where
    first_unsaid : (pair : Pair) → IsUnsaid pair (changes ++ others) → IsUnsaid pair changes
    first_unsaid pair unsaid change there = unsaid change (Contains-append_left changes others change there)

    second_unsaid : (pair : Pair) → IsUnsaid pair (changes ++ others) → IsUnsaid pair others
    second_unsaid pair unsaid change there = unsaid change (Contains-append_right changes others change there)

    pub both_trade : Trades (λ pair. Old pair ⊎ OldOther pair) (λ pair. New pair ⊎ NewOther pair) (changes ++ others)
    both_trade = record {
      netted = λ change there.
          ⊎_elim (λ (one : Contains changes change). first_netted change.add change.pair (trades.netted change one))
          (λ (one : Contains others change). second_netted change.add change.pair (more.netted change one))
          (Contains-append_cases changes others change there);
      kept = λ pair unsaid.
          ⊎_elim (λ (new : New pair). inl (inl new))
          (λ (none : Old pair → ⊥).
          ⊎_elim (λ (new : NewOther pair). inl (inr new)) (λ (no_other : OldOther pair → ⊥). inr (λ old. ⊎_elim none no_other old))
          (more.kept pair (second_unsaid pair unsaid)))
          (trades.kept pair (first_unsaid pair unsaid));
      old = λ pair unsaid new none.
          ⊎_elim (λ (one : New pair). trades.old pair (first_unsaid pair unsaid) one (λ old. none (inl old)))
          (λ (one : NewOther pair). more.old pair (second_unsaid pair unsaid) one (λ old. none (inr old))) new;
    }

-- ---- no pair is both added and dropped

one_way : (Old New : Pair → Type 0) (add other : Bool) (pair : Pair) → IsNetted Old New add pair → IsNetted Old New other pair
    → add ≡ other
one_way Old New true true pair h k = refl
one_way Old New true false pair h k = absurd (h.1 k.0)
one_way Old New false true pair h k = absurd (k.1 h.0)
one_way Old New false false pair h k = refl

pub are_netted : (Old New : Pair → Type 0) (changes : List Change) → Trades Old New changes → AreNetted changes
are_netted Old New changes trades one other in_one in_other same =
    one_way Old New one.add other.add other.pair
    (subst (λ (p : Pair). IsNetted Old New one.add p) same (trades.netted one in_one)) (trades.netted other in_other)

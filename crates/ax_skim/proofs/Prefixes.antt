-- What follows a prefix, by the clause of `strip_prefix`.
use Rattle.std.proofs.Common.{◌≡◌, ℕ, ◌+◌, Bool, true, false, ◌==◌, cond, List, [], ◌∷◌, ◌++◌, length, take, drop, nat_eq, Option, Some, None, refl, sym, ap, ◌∙◌, arith, Bor}
use Rattle.std.specs.Option.{MatchOption, option_map}
use Rattle.std.specs.Cmp.Lexicographic.{pointwise}
use Rattle.std.proofs.lemmas.Bool.{eq-eqb}
use Rattle.std.proofs.lemmas.Bool.Decides.{Decides-eqb}
use Rattle.std.proofs.lemmas.Slice.Eq.{strip_prefix_is}
use Rattle.ax_skim.specs.Members.{past_prefix}

pub past_prefix-append : (prefix rest : List ℕ) → past_prefix prefix (prefix ++ rest) ≡ Some rest
past_prefix-append [] rest = refl
past_prefix-append (x ∷ prefix) rest = rw (eq-eqb x x refl) (past_prefix-append prefix rest)

same_head : (x y : ℕ) (prefix text rest : List ℕ) (b : Bool) → (x == y) ≡ b
    → (past_prefix prefix text ≡ Some rest → text ≡ prefix ++ rest)
    → cond b (past_prefix prefix text) None ≡ Some rest → y ∷ text ≡ x ∷ (prefix ++ rest)
same_head x y prefix text rest true is ih found =
    let same : x ≡ y = grind (arith, is) in
    ap (λ z. z ∷ text) (sym same) ∙ ap (λ l. x ∷ l) (ih found)
same_head x y prefix text rest false is ih found = cc

pub past_prefix-found : (prefix text rest : List ℕ) → past_prefix prefix text ≡ Some rest
    → text ≡ prefix ++ rest
past_prefix-found [] text rest found = some_same text rest found
  where
    some_same : (a b : List ℕ) → Some a ≡ Some b → a ≡ b
    some_same a b e = cc
past_prefix-found (x ∷ prefix) [] rest found = cc
past_prefix-found (x ∷ prefix) (y ∷ text) rest found =
    same_head x y prefix text rest (x == y) refl (past_prefix-found prefix text rest) found

none_else : (prefix text : List ℕ) (found : Option (List ℕ)) → past_prefix prefix text ≡ found
    → ((rest : List ℕ) → text ≡ prefix ++ rest → ⊥) → None ≡ found
none_else prefix text None is apart = refl
none_else prefix text (Some rest) is apart =
    absurd (apart rest (past_prefix-found prefix text rest is))

by_cases : (text prefix : List ℕ) (r : Option (Bor (List ℕ)))
    → MatchOption r ((rest : List ℕ) → text ≡ prefix ++ rest → ⊥) (λ x. text ≡ prefix ++ x.now)
    → option_map (λ x. x.now) r ≡ past_prefix prefix text
by_cases text prefix None apart = none_else prefix text (past_prefix prefix text) refl apart
by_cases text prefix (Some x) same =
    sym (ap (past_prefix prefix) same ∙ past_prefix-append prefix x.now)

pub stripped : (text prefix : List ℕ) (r : Option (Bor (List ℕ)))
    → MatchOption r (pointwise nat_eq (take (length prefix) text) prefix ≡ false)
    (λ x. (pointwise nat_eq (take (length prefix) text) prefix ≡ true)
    × (x.now ≡ drop (length prefix) text) × (length x.now + length prefix ≡ length text))
    → option_map (λ x. x.now) r ≡ past_prefix prefix text
stripped text prefix r cases =
    by_cases text prefix r (strip_prefix_is Decides-eqb text prefix r cases)

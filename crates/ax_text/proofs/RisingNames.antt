-- Names that rise by neighbours rise altogether.
use Rattle.std.proofs.Common.{◌≡◌, ℕ, List, [], ◌∷◌, ◌++◌, Bool, true, false, ◌&&◌, refl, ap, ◌∙◌}
use Rattle.std.specs.declared.cmp.Ordering.{Ordering}
use Rattle.std.specs.declared.cmp.Ordering.TheVariants.{Less, Equal, Greater}
use Rattle.std.specs.Ordering.{nat_cmp, is_lt, ordering_reverse}
use Rattle.std.specs.Cmp.Lexicographic.{slice_cmp}
use Rattle.std.proofs.lemmas.Cmp.{nat_list_cmp_total}
use Rattle.ax_tree.specs.Rising.{is_before, is_rising}

pub is_lt_Less : (o : Ordering) → is_lt o ≡ true → o ≡ Less
is_lt_Less Less e = refl
is_lt_Less Equal e = cc
is_lt_Less Greater e = cc

pub and_first : (a b : Bool) → (a && b) ≡ true → a ≡ true
and_first true b e = refl
and_first false b e = e

pub and_second : (a b : Bool) → (a && b) ≡ true → b ≡ true
and_second true b e = e
and_second false b e = cc

pub is_before_trans : (a b c : List ℕ) → is_before a b ≡ true → is_before b c ≡ true
    → is_before a c ≡ true
is_before_trans a b c first second =
    ap is_lt (nat_list_cmp_total.trans a b c (is_lt_Less _ first) (is_lt_Less _ second))

-- what is before k is, seen from k, behind it
pub is_before_Greater : (a k : List ℕ) → is_before a k ≡ true → slice_cmp nat_cmp k a ≡ Greater
is_before_Greater a k e = nat_list_cmp_total.antisymm k a ∙ ap ordering_reverse (is_lt_Less _ e)

-- each name is before k
abbrev pub AreBefore : List (List ℕ) → List ℕ → Type 0
AreBefore [] k = Unit {0}
AreBefore (name ∷ rest) k = (is_before name k ≡ true) × AreBefore rest k

-- where names rise, those in prefix are before each later one
pub rising_before : (prefix : List (List ℕ)) (k : List ℕ) (rest : List (List ℕ))
    → is_rising (prefix ++ k ∷ rest) ≡ true → AreBefore prefix k
rising_before [] k rest e = tt
rising_before (a ∷ []) k rest e = (and_first _ _ e, tt)
rising_before (a ∷ b ∷ prefix) k rest e =
    let later : AreBefore (b ∷ prefix) k = rising_before (b ∷ prefix) k rest (and_second _ _ e) in
    (is_before_trans a b k (and_first _ _ e) later.0, later)

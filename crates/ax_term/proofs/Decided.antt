-- What two lists of bytes decide of every two that begin with them: the order that they give, and of
-- equal ones what follows them.
use Rattle.std.proofs.Common.{◌≡◌, ℕ, ◌<◌, List, [], ◌∷◌, ◌++◌, refl, sym, ap, subst, ◌∙◌, append_assoc, arith}
use Rattle.std.proofs.lemmas.List.{append-nil}
use Rattle.std.proofs.lemmas.Bool.Decides.{nat_tests}
use Rattle.std.specs.declared.cmp.Ordering.{Ordering}
use Rattle.std.specs.declared.cmp.Ordering.TheVariants.{Less, Equal, Greater}
use Rattle.std.specs.Ordering.{ordering_then, nat_cmp}
use Rattle.ax_term.specs.TermOrder.{order_of_bytes}

pub record Decides (a b : List ℕ) (r : Ordering) : Type 0 where
  pub so : (s t : List ℕ) → order_of_bytes (a ++ s) (b ++ t) ≡ ordering_then r (order_of_bytes s t)

-- one decided after another is decided by both
pub then_then : (o p q : Ordering) → ordering_then (ordering_then o p) q ≡ ordering_then o (ordering_then p q)
then_then Less p q = refl
then_then Equal p q = refl
then_then Greater p q = refl

-- what comes first decides, and where it is equal what comes next
under : (o p q : Ordering) → (o ≡ Equal → p ≡ q) → ordering_then o p ≡ ordering_then o q
under Less p q same = refl
under Equal p q same = same refl
under Greater p q same = refl

pub decides_none : Decides [] [] Equal
decides_none = record { so = λ s t. refl }

pub decides_both : (a b : List ℕ) (r : Ordering) (c d : List ℕ) (q : Ordering) → Decides a b r
    → (r ≡ Equal → Decides c d q) → Decides (a ++ c) (b ++ d) (ordering_then r q)
decides_both a b r c d q first next =
    record {
      so = λ s t.
          simp (append_assoc)
          (first.so (c ++ s) (d ++ t)
          ∙ under r _ _ (λ e. (next e).so s t) ∙ sym (then_then r q (order_of_bytes s t)));
    }

-- a byte by its number
pub decides_byte : (x y : ℕ) → Decides (x ∷ []) (y ∷ []) (nat_cmp x y)
decides_byte x y = record { so = λ s t. refl }

-- the same decision, told another way
pub decides_as : (a b : List ℕ) (r q : Ordering) → r ≡ q → Decides a b r → Decides a b q
decides_as a b r q e d = subst (Decides a b) e d

pub then_equal : (o : Ordering) → ordering_then o Equal ≡ o
then_equal Less = refl
then_equal Equal = refl
then_equal Greater = refl

-- alone, they are in the order that they decide
pub alone : (a b : List ℕ) (r : Ordering) → Decides a b r → order_of_bytes a b ≡ r
alone a b r decides =
    let e : order_of_bytes (a ++ []) (b ++ []) ≡ ordering_then r Equal = decides.so [] [] in
    simp (append-nil, then_equal) at e

-- the three answers of a comparison of numbers
pub less : (x y : ℕ) → x < y → nat_cmp x y ≡ Less
less x y h = grind (arith, nat_tests)

pub greater : (x y : ℕ) → y < x → nat_cmp x y ≡ Greater
greater x y h = grind (arith, nat_tests)

pub equal : (x y : ℕ) → x ≡ y → nat_cmp x y ≡ Equal
equal x y h = grind (arith, nat_tests)

-- the first byte decides where it differs
pub decides_less : (x y : ℕ) (a b : List ℕ) → x < y → Decides (x ∷ a) (y ∷ b) Less
decides_less x y a b h = record { so = λ s t. ap (λ o. ordering_then o (order_of_bytes (a ++ s) (b ++ t))) (less x y h) }

pub decides_greater : (x y : ℕ) (a b : List ℕ) → y < x → Decides (x ∷ a) (y ∷ b) Greater
decides_greater x y a b h = record { so = λ s t. ap (λ o. ordering_then o (order_of_bytes (a ++ s) (b ++ t))) (greater x y h) }

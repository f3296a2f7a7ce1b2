-- Cutting keeps the order of values.
use Rattle.std.proofs.Common.{◌≡◌, ℕ, zero, suc, pos, List, [], ◌∷◌, Bool, true, false, length, take, nat_lt, refl, sym, ap, ◌∙◌, arith}
use Rattle.std.proofs.lemmas.Bool.Decides.{nat_tests}
use Rattle.std.specs.declared.cmp.Ordering.{Ordering}
use Rattle.std.specs.declared.cmp.Ordering.TheVariants.{Less, Equal, Greater}
use Rattle.std.specs.Ordering.{ordering_then, nat_cmp, int_cmp, bool_cmp, is_le}
use Rattle.ax_tree.specs.CanonicalText.{canonical_text}
use Rattle.ax_tree.specs.declared.tree.Tree.{Tree, out-Tree}
use Rattle.ax_tree.specs.declared.tree.Tree.TheOpen.{Tree-F}
use Rattle.ax_mean.specs.declared.value.Value.{Value}
use Rattle.ax_mean.specs.ValueOrder.{rank_level, number_key_level, bytes_key_level, value_cmp}
use Rattle.ax_term.specs.CutTexts.{cut}
use Rattle.ax_term.specs.CutValues.{CutValue, cut_level, cut_of}
use Rattle.ax_term.specs.TermOrder.{order_of_bytes, order_of_texts, order_of_values}
use Rattle.ax_term.proofs.Decided.{then_equal}

itself : (b : Bool) → is_le (bool_cmp b b) ≡ true
itself true = refl
itself false = refl

false_first : (b : Bool) → is_le (bool_cmp false b) ≡ true
false_first true = refl
false_first false = refl

-- texts with so many bytes kept
abbrev kept_cmp : ℕ → List ℕ → List ℕ → Ordering
kept_cmp n x y =
    ordering_then (order_of_bytes (take n x) (take n y))
    (bool_cmp (nat_lt n (length x)) (nat_lt n (length y)))

one_less : (n : ℕ) (x : ℕ) (xs : List ℕ) → nat_lt (suc n) (length (x ∷ xs)) ≡ nat_lt n (length xs)
one_less n x xs = grind (arith, nat_tests)

some_left : (x : ℕ) (xs : List ℕ) → nat_lt 0 (length (x ∷ xs)) ≡ true
some_left x xs = grind (arith, nat_tests)

-- the first of two decides, or the second where it is equal
le_then : (o p q : Ordering) → (is_le p ≡ true → is_le q ≡ true) → is_le (ordering_then o p) ≡ true
    → is_le (ordering_then o q) ≡ true
le_then Less p q next h = refl
le_then Equal p q next h = next h
le_then Greater p q next h = h

then_then : (o p q : Ordering) → ordering_then (ordering_then o p) q ≡ ordering_then o (ordering_then p q)
then_then Less p q = refl
then_then Equal p q = refl
then_then Greater p q = refl

le_kept : (n : ℕ) (x y : List ℕ) → is_le (order_of_bytes x y) ≡ true → is_le (kept_cmp n x y) ≡ true
le_kept zero [] y h = false_first (nat_lt 0 (length y))
le_kept zero (x ∷ xs) [] h = absurd (let e : ⊥ = cc in e)
le_kept zero (x ∷ xs) (y ∷ ys) h =
    ap (λ b. is_le (bool_cmp b (nat_lt 0 (length (y ∷ ys))))) (some_left x xs)
    ∙ ap (λ b. is_le (bool_cmp true b)) (some_left y ys)
le_kept (suc n) [] [] h = itself (nat_lt (suc n) 0)
le_kept (suc n) [] (y ∷ ys) h = refl
le_kept (suc n) (x ∷ xs) [] h = h
le_kept (suc n) (x ∷ xs) (y ∷ ys) h =
    ap is_le (then_then (nat_cmp x y) (order_of_bytes (take n xs) (take n ys)) (bool_cmp (nat_lt (suc n) (length (x ∷ xs))) (nat_lt (suc n) (length (y ∷ ys)))))
    ∙ le_then (nat_cmp x y) (order_of_bytes xs ys)
    (ordering_then (order_of_bytes (take n xs) (take n ys))
    (bool_cmp (nat_lt (suc n) (length (x ∷ xs))) (nat_lt (suc n) (length (y ∷ ys)))))
    (λ e.
    ap (λ b. is_le (ordering_then (order_of_bytes (take n xs) (take n ys))
    (bool_cmp b (nat_lt (suc n) (length (y ∷ ys)))))) (one_less n x xs)
    ∙ ap (λ b. is_le (ordering_then (order_of_bytes (take n xs) (take n ys))
    (bool_cmp (nat_lt n (length xs)) b))) (one_less n y ys)
    ∙ le_kept n xs ys e)
    h

le_texts : (x y : List ℕ) → is_le (order_of_bytes x y) ≡ true
    → is_le (order_of_texts (cut x) (cut y)) ≡ true
le_texts = le_kept 128

abbrev level_cmp : Tree → Tree → Tree-F Tree → Tree-F Tree → Ordering
level_cmp s t x y =
    ordering_then (nat_cmp (rank_level x) (rank_level y))
    (ordering_then (int_cmp (number_key_level x) (number_key_level y))
    (order_of_bytes (bytes_key_level s x) (bytes_key_level t y)))

le_levels : (s t : Tree) (x y : Tree-F Tree) → is_le (level_cmp s t x y) ≡ true
    → is_le (order_of_values (cut_level s x) (cut_level t y)) ≡ true
le_levels s t Tree-F.Null Tree-F.Null h = refl
le_levels s t (Tree-F.Truth false) (Tree-F.Truth false) h = refl
le_levels s t (Tree-F.Truth false) (Tree-F.Truth true) h = refl
le_levels s t (Tree-F.Truth true) (Tree-F.Truth false) h = h
le_levels s t (Tree-F.Truth true) (Tree-F.Truth true) h = refl
le_levels s t (Tree-F.Number a) (Tree-F.Number b) h =
    ap is_le (sym (then_equal (int_cmp a b))) ∙ h
le_levels s t (Tree-F.Text a) (Tree-F.Text b) h = le_texts a b h
le_levels s t (Tree-F.List a) (Tree-F.List b) h = le_texts (canonical_text s) (canonical_text t) h
le_levels s t (Tree-F.Object a) (Tree-F.Object b) h = le_texts (canonical_text s) (canonical_text t) h
le_levels s t (Tree-F.Truth false) y h = h
le_levels s t (Tree-F.Truth true) y h = h
le_levels s t x (Tree-F.Truth false) h = h
le_levels s t x (Tree-F.Truth true) h = h
le_levels s t x y h = h

undefined_first : (t : Tree) (y : Tree-F Tree)
    → is_le (order_of_values CutValue.Undefined (cut_level t y)) ≡ true
undefined_first t Tree-F.Null = refl
undefined_first t (Tree-F.Truth false) = refl
undefined_first t (Tree-F.Truth true) = refl
undefined_first t (Tree-F.Number a) = refl
undefined_first t (Tree-F.Text a) = refl
undefined_first t (Tree-F.List a) = refl
undefined_first t (Tree-F.Object a) = refl

abbrev before_undefined : Tree → Tree-F Tree → Ordering
before_undefined s x =
    ordering_then (nat_cmp (rank_level x) 0)
    (ordering_then (int_cmp (number_key_level x) (pos 0)) (order_of_bytes (bytes_key_level s x) []))

defined_last : (s : Tree) (x : Tree-F Tree) → is_le (before_undefined s x) ≡ true
    → is_le (order_of_values (cut_level s x) CutValue.Undefined) ≡ true
defined_last s Tree-F.Null h = h
defined_last s (Tree-F.Truth false) h = h
defined_last s (Tree-F.Truth true) h = h
defined_last s (Tree-F.Number a) h = h
defined_last s (Tree-F.Text a) h = h
defined_last s (Tree-F.List a) h = h
defined_last s (Tree-F.Object a) h = h

pub cutting : (a b : Value) → is_le (value_cmp a b) ≡ true
    → is_le (order_of_values (cut_of a) (cut_of b)) ≡ true
cutting Value.Undefined Value.Undefined h = refl
cutting Value.Undefined (Value.Defined t) h = undefined_first t (out-Tree t)
cutting (Value.Defined s) Value.Undefined h = defined_last s (out-Tree s) h
cutting (Value.Defined s) (Value.Defined t) h = le_levels s t (out-Tree s) (out-Tree t) h

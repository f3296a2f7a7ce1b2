-- Complemented bytes decide the other way round.
use Rattle.std.proofs.Common.{◌≡◌, ℕ, ◌+◌, ◌-◌, ◌<◌, List, [], ◌∷◌, ◌++◌, refl, sym, ap, ◌∙◌, add-one, arith, inl, inr, ◌⊎◌, zero, suc, length, take, drop, slice_set, slice_index_or}
use Rattle.std.proofs.lemmas.Bool.{cases_order}
use Rattle.std.proofs.lemmas.List.Elements.{All-head, All-tail}
use Rattle.std.specs.declared.cmp.Ordering.{Ordering}
use Rattle.std.specs.declared.cmp.Ordering.TheVariants.{Less, Equal, Greater}
use Rattle.std.specs.Ordering.{ordering_then, nat_cmp}
use Rattle.ax_term.specs.Fitting.{AreBytes}
use Rattle.ax_term.specs.TermBytes.{complemented}
use Rattle.ax_term.specs.TermOrder.{order_of_bytes}
use Rattle.ax_term.proofs.Decided.{Decides, decides_as, decides_both, decides_byte, decides_none, decides_less, decides_greater, then_equal, less, greater, equal}

-- what is decided is the order of the two alone
decided : (a b : List ℕ) (r : Ordering) → Decides a b r → order_of_bytes (a ++ []) (b ++ []) ≡ r
decided a b r d = d.so [] [] ∙ then_equal r

not_both : {A : Type 0} → Less ≡ Greater → A
not_both e = absurd (let f : ⊥ = cc in f)

-- nothing decides against something: a greater byte may follow nothing
nothing_first : {A : Type 0} (y : ℕ) (b : List ℕ) (r : Ordering) → Decides [] (y ∷ b) r → A
nothing_first y b r d =
    not_both
    (ap (λ o. ordering_then o Greater) (decided [] (y ∷ b) r d)
    ∙ sym (d.so ((y + 1) ∷ []) [])
    ∙ ap (λ o. ordering_then o (order_of_bytes [] (b ++ []))) (greater (y + 1) y (omega arith)))

nothing_second : {A : Type 0} (x : ℕ) (a : List ℕ) (r : Ordering) → Decides (x ∷ a) [] r → A
nothing_second x a r d =
    not_both
    (sym (ap (λ o. ordering_then o (order_of_bytes (a ++ []) [])) (less x (x + 1) (omega arith)))
    ∙ d.so [] ((x + 1) ∷ [])
    ∙ sym (ap (λ o. ordering_then o Less) (decided (x ∷ a) [] r d)))

abbrev IsByte : ℕ → Type 0
IsByte byte = byte < 256

-- behind one same byte the rest decides
same_first : (x y : ℕ) (a b : List ℕ) (r : Ordering) → x ≡ y → Decides (x ∷ a) (y ∷ b) r
    → Decides a b r
same_first x y a b r e d =
    record {
      so = λ s t.
          ap (λ o. ordering_then o (order_of_bytes (a ++ s) (b ++ t))) (sym (equal x y e)) ∙ d.so s t;
    }

pub decides_complemented : (a b : List ℕ) (r : Ordering) → AreBytes a → AreBytes b → Decides b a r
    → Decides (complemented a) (complemented b) r
decides_complemented [] [] r h k d = decides_as [] [] Equal r (decided [] [] r d) decides_none
decides_complemented [] (y ∷ b) r h k d = nothing_second y b r d
decides_complemented (x ∷ a) [] r h k d = nothing_first x a r d
decides_complemented (x ∷ a) (y ∷ b) r h k d =
    by (All-head IsByte x a h) (All-head IsByte y b k) (cases_order x y)
    (λ e. decides_complemented a b r (All-tail IsByte x a h) (All-tail IsByte y b k)
    (same_first y x b a r (sym e) d))
  where
    by : x < 256 → y < 256 → (x ≡ y) ⊎ ((x < y) ⊎ (y < x))
        → (x ≡ y → Decides (complemented a) (complemented b) r)
        → Decides (complemented (x ∷ a)) (complemented (y ∷ b)) r
    by p q (inl same) rest =
        decides_both ((255 - x) ∷ []) ((255 - y) ∷ []) Equal (complemented a) (complemented b) r
        (decides_as ((255 - x) ∷ []) ((255 - y) ∷ []) (nat_cmp (255 - x) (255 - y)) Equal
        (equal (255 - x) (255 - y) (ap (λ n. 255 - n) same)) (decides_byte (255 - x) (255 - y)))
        (λ e. rest same)
    by p q (inr (inl below)) rest =
        decides_as (complemented (x ∷ a)) (complemented (y ∷ b)) Greater r
        (ap (λ o. ordering_then o (order_of_bytes (b ++ []) (a ++ []))) (sym (greater y x below))
        ∙ decided (y ∷ b) (x ∷ a) r d)
        (decides_greater (255 - x) (255 - y) (complemented a) (complemented b) (omega arith))
    by p q (inr (inr above)) rest =
        decides_as (complemented (x ∷ a)) (complemented (y ∷ b)) Less r
        (ap (λ o. ordering_then o (order_of_bytes (b ++ []) (a ++ []))) (sym (less y x above))
        ∙ decided (y ∷ b) (x ∷ a) r d)
        (decides_less (255 - x) (255 - y) (complemented a) (complemented b) (omega arith))

-- one byte more, where those before it are complemented
more : (xs : List ℕ) (i : ℕ) → i < length xs
    → slice_set (complemented (take i xs) ++ drop i xs) i
    (255 - slice_index_or (complemented (take i xs) ++ drop i xs) i 0)
    ≡ complemented (take (suc i) xs) ++ drop (suc i) xs
more [] i h = absurd (omega arith)
more (x ∷ xs) zero h = refl
more (x ∷ xs) (suc i) h = ap (λ rest. (255 - x) ∷ rest) (more xs i (omega arith))

pub one_more : (xs ys : List ℕ) (i : ℕ) → i < length xs
    → ys ≡ complemented (take i xs) ++ drop i xs
    → slice_set ys i (255 - slice_index_or ys i 0)
    ≡ complemented (take (i + 1) xs) ++ drop (i + 1) xs
one_more xs ys i h e =
    rw (e, add-one) (more xs i h)

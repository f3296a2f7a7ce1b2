-- An escaped text with its end decides as the text does, and then its end; whatever bytes it has.
use Rattle.std.proofs.Common.{◌≡◌, ℕ, ◌≤◌, zero, suc, List, [], ◌∷◌, ◌++◌, Bool, true, false, refl, sym, ap, ◌∙◌, arith, length, take, nat_lt, if◌then◌else◌}
use Rattle.std.proofs.lemmas.List.{take_all}
use Rattle.std.proofs.lemmas.Bool.Decides.{nat_tests}
use Rattle.std.specs.declared.cmp.Ordering.TheVariants.{Less, Greater}
use Rattle.std.specs.Ordering.{ordering_then, nat_cmp, bool_cmp}
use Rattle.ax_term.specs.CutTexts.{CutText, cut}
use Rattle.ax_term.specs.TermBytes.{escaped, text_bytes}
use Rattle.ax_term.specs.TermOrder.{order_of_bytes, order_of_texts}
use Rattle.ax_term.proofs.Decided.{Decides, decides_as, decides_both, decides_byte, decides_less, decides_greater, then_then, less, greater}

abbrev end : Bool → ℕ
end is_cut = if is_cut then 2 else 1

abbrev ended : List ℕ → Bool → List ℕ
ended text is_cut = escaped text ++ 0 ∷ end is_cut ∷ []

ends : (c d : Bool) → Decides (ended [] c) (ended [] d) (bool_cmp c d)
ends false false = record { so = λ s t. refl }
ends false true = record { so = λ s t. refl }
ends true false = record { so = λ s t. refl }
ends true true = record { so = λ s t. refl }

ends_before_zero : (c : Bool) (d : List ℕ) → Decides (ended [] c) (0 ∷ 255 ∷ d) Less
ends_before_zero false d = record { so = λ s t. refl }
ends_before_zero true d = record { so = λ s t. refl }

zero_after_end : (c : List ℕ) (d : Bool) → Decides (0 ∷ 255 ∷ c) (ended [] d) Greater
zero_after_end c false = record { so = λ s t. refl }
zero_after_end c true = record { so = λ s t. refl }

pub decides_ended : (a b : List ℕ) (c d : Bool)
    → Decides (ended a c) (ended b d) (ordering_then (order_of_bytes a b) (bool_cmp c d))
decides_ended [] [] c d = ends c d
decides_ended [] (zero ∷ b) c d = ends_before_zero c (ended b d)
decides_ended [] (suc y ∷ b) c d = decides_less 0 (suc y) _ _ (omega arith)
decides_ended (zero ∷ a) [] c d = zero_after_end (ended a c) d
decides_ended (suc x ∷ a) [] c d = decides_greater (suc x) 0 _ _ (omega arith)
decides_ended (zero ∷ a) (zero ∷ b) c d = record { so = λ s t. (decides_ended a b c d).so s t }
decides_ended (zero ∷ a) (suc y ∷ b) c d =
    decides_as _ _ _ _
    (ap (λ o. ordering_then (ordering_then o (order_of_bytes a b)) (bool_cmp c d))
    (sym (less 0 (suc y) (omega arith))))
    (decides_less 0 (suc y) _ _ (omega arith))
decides_ended (suc x ∷ a) (zero ∷ b) c d =
    decides_as _ _ _ _
    (ap (λ o. ordering_then (ordering_then o (order_of_bytes a b)) (bool_cmp c d))
    (sym (greater (suc x) 0 (omega arith))))
    (decides_greater (suc x) 0 _ _ (omega arith))
decides_ended (suc x ∷ a) (suc y ∷ b) c d =
    decides_as _ _ _ _ (sym (then_then (nat_cmp (suc x) (suc y)) (order_of_bytes a b) (bool_cmp c d)))
    (decides_both (suc x ∷ []) (suc y ∷ []) _ (ended a c) (ended b d) _ (decides_byte (suc x) (suc y))
    (λ e. decides_ended a b c d))

pub decides_texts : (a b : CutText) → Decides (text_bytes a) (text_bytes b) (order_of_texts a b)
decides_texts a b = decides_ended a.front b.front a.is_cut b.is_cut

-- the first byte is escaped by itself
pub first_escaped : (x : ℕ) (xs : List ℕ) → escaped (x ∷ xs) ≡ escaped (x ∷ []) ++ escaped xs
first_escaped zero xs = refl
first_escaped (suc x) xs = refl

-- a short text is kept whole
pub uncut : (text : List ℕ) → length text ≤ 128
    → text_bytes (cut text) ≡ escaped text ++ 0 ∷ 1 ∷ []
uncut text h =
    let whole : take 128 text ≡ text = take_all 128 text h in
    let short : nat_lt 128 (length text) ≡ false = grind (arith, nat_tests) in
    ap (λ t. ended t (nat_lt 128 (length text))) whole ∙ ap (ended text) short

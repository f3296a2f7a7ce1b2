-- Laws of payloads, of lists that rise, and of several deltas.
use Rattle.std.proofs.Common.{◌≡◌, ℕ, List, [], ◌∷◌, length, refl, ap, ◌∙◌, sym, subst, Bool, true, false, ⊎_elim, Option, Some, None}
use Rattle.std.specs.Option.{option_or, unwrap_or}
use Rattle.std.specs.declared.cmp.Ordering.TheVariants.{Less}
use Rattle.ax_pair.specs.declared.pair.Pair.{Pair}
use Rattle.ax_pair.specs.Order.{pair_cmp, Rise, RiseAfter}
use Rattle.ax_pair.proofs.PairOrder.{pair_cmp_total}
use Rattle.ax_leaf.proofs.OneSpelling.{varint_parts}
use Rattle.ax_delta.specs.Changes.{TermChange}
use Rattle.ax_delta.specs.ChangeList.{IsChangeList}
use Rattle.ax_delta.specs.Merge.{AreMerged}
use Rattle.ax_delta.specs.Payload.{list_after, IsDelta}
use Rattle.ax_delta.specs.Said.{is_same, has, said_of, last_said}
use Rattle.ax_delta.proofs.SamePair.{true_or_false, same_from, same_to, less_apart, later, rises_alone, none_above}
use Rattle.ax_delta.proofs.Whole.{delta_parts, listed_seen}

pub one_delta : (bytes : List ℕ) (a b : List TermChange) → IsDelta bytes a → IsDelta bytes b → a ≡ b
one_delta bytes a b h k =
    let (count, list) = varint_parts (length a) (length b) (list_after [] a) (list_after [] b) (sym (delta_parts bytes a h) ∙ delta_parts bytes b k) in
    let first : IsChangeList (length a) (list_after [] a) a = record { spelled = refl; counted = refl; are = h.are } in
    let second : IsChangeList (length a) (list_after [] a) b = record { spelled = list; counted = sym count; are = k.are } in
    sym (listed_seen (length a) (list_after [] a) a first) ∙ listed_seen (length a) (list_after [] a) b second

-- ---- lists that rise

-- a pair of a list that rises after q is after q
is_after : (q p : Pair) (pairs : List Pair) → RiseAfter q pairs → has p pairs ≡ true → pair_cmp q p ≡ Less
is_after q p [] h k = absurd (cc)
is_after q p (x ∷ pairs) h k =
    ⊎_elim
    (λ (s : is_same x p ≡ true). ap (pair_cmp q) (sym (same_from x p s)) ∙ h.0)
    (λ (s : is_same x p ≡ false).
    let rest : has p pairs ≡ true = rw s at k in
    is_after q p pairs (later (Some q) x pairs h.0 h.1) rest)
    (true_or_false (is_same x p))

here : (p : Pair) (pairs : List Pair) → has p (p ∷ pairs) ≡ true
here p pairs = rw (same_to p p refl) refl

past : (x p : Pair) (pairs : List Pair) → is_same x p ≡ false → has p (x ∷ pairs) ≡ has p pairs
past x p pairs s = rw s refl

same_heads : (x y : Pair) (xs ys : List Pair) → RiseAfter x xs → RiseAfter y ys → has y (x ∷ xs) ≡ true → has x (y ∷ ys) ≡ true → x ≡ y
same_heads x y xs ys h k first second =
    ⊎_elim
    (λ (s : is_same x y ≡ true). same_from x y s)
    (λ (s : is_same x y ≡ false).
    let less : pair_cmp x y ≡ Less = is_after x y xs h (sym (past x y xs s) ∙ first) in
    ⊎_elim
    (λ (t : is_same y x ≡ true). sym (same_from y x t))
    (λ (t : is_same y x ≡ false).
    let more : pair_cmp y x ≡ Less = is_after y x ys k (sym (past y x ys t) ∙ second) in
    absurd (less_apart x x (pair_cmp_total.trans x y x less more) refl))
    (true_or_false (is_same y x)))
    (true_or_false (is_same x y))

same_tails : (x : Pair) (xs ys : List Pair) → RiseAfter x xs → RiseAfter x ys → ((p : Pair) → has p (x ∷ xs) ≡ has p (x ∷ ys)) → (p : Pair)
    → has p xs ≡ has p ys
same_tails x xs ys h k alike p =
    ⊎_elim
    (λ (s : is_same x p ≡ true).
    let e : x ≡ p = same_from x p s in
    ap (λ (q : Pair). has q xs) (sym e) ∙ none_above x xs h ∙ sym (none_above x ys k) ∙ ap (λ (q : Pair). has q ys) e)
    (λ (s : is_same x p ≡ false). sym (past x p xs s) ∙ alike p ∙ past x p ys s)
    (true_or_false (is_same x p))

pub one_list : (a b : List Pair) → Rise a → Rise b → ((p : Pair) → has p a ≡ has p b) → a ≡ b
one_list [] [] h k alike = refl
one_list [] (y ∷ ys) h k alike = let none : false ≡ true = alike y ∙ here y ys in absurd (cc)
one_list (x ∷ xs) [] h k alike = let none : true ≡ false = sym (here x xs) ∙ alike x in absurd (cc)
one_list (x ∷ xs) (y ∷ ys) h k alike =
    let e : x ≡ y = same_heads x y xs ys h k (alike y ∙ here y ys) (sym (alike x) ∙ here x xs) in
    let up : RiseAfter x ys = subst (λ (q : Pair). RiseAfter q ys) (sym e) k in
    let same : (p : Pair) → has p (x ∷ xs) ≡ has p (x ∷ ys) = λ p. alike p ∙ ap (λ (q : Pair). has p (q ∷ ys)) (sym e) in
    ap (λ (ps : List Pair). x ∷ ps) (one_list xs ys (rises_alone x xs h) (rises_alone x ys up) (same_tails x xs ys h up same))
    ∙ ap (λ (q : Pair). q ∷ ys) e

-- ---- several deltas

or_else : (last : Option Bool) (said : Option Bool) (b : Bool) → unwrap_or last (unwrap_or said b) ≡ unwrap_or (option_or last said) b
or_else None said b = refl
or_else (Some x) said b = refl

pub newest_counts : (base after : List Pair) (deltas : List (List TermChange)) (p : Pair) → AreMerged base deltas after
    → has p after ≡ unwrap_or (last_said p deltas) (has p base)
newest_counts base after [] p h = ap (has p) (sym h)
newest_counts base after (changes ∷ newer) p (between, is, rest) =
    newest_counts between after newer p rest
    ∙ ap (unwrap_or (last_said p newer)) (is.holds p)
    ∙ or_else (last_said p newer) (said_of p changes) (has p base)

pub all_rise : (base after : List Pair) (deltas : List (List TermChange)) → Rise base → AreMerged base deltas after → Rise after
all_rise base after [] h e = subst Rise e h
all_rise base after (changes ∷ newer) h (between, is, rest) = all_rise between after newer is.rises rest

-- The pass over two rising lists: what it makes rises, and says of each pair what it has to.
use Rattle.std.proofs.Common.{◌≡◌, List, [], ◌∷◌, refl, ap, ◌∙◌, sym, subst, Bool, true, false, cond, ⊎_elim, Option, Some}
use Rattle.std.specs.declared.cmp.Ordering.TheVariants.{Less, Equal, Greater}
use Rattle.ax_pair.specs.declared.pair.Pair.{Pair}
use Rattle.ax_pair.specs.Order.{pair_cmp, Rise, RiseAfter}
use Rattle.ax_delta.specs.declared.change.Change.{Change}
use Rattle.ax_delta.specs.Changes.{changed_pairs}
use Rattle.ax_delta.specs.Said.{is_same, has, said_by}
use Rattle.ax_delta.proofs.SamePair.{true_or_false, same_from, same_to, equal_same, less_from, IsAbove, RisesOver, put_over, first_above, rest_rises}
use Rattle.ax_delta.proofs.SamePair.{later, rises_alone, none_above, nothing_over}
use Rattle.ax_keep.specs.Net.{change_of, adds, by_order, drop_among, net, net_said}

-- ---- it rises

rises_adds : (new : List Pair) (low : Option Pair) → RisesOver low new → RisesOver low (changed_pairs (adds new))
rises_adds [] low h = nothing_over low
rises_adds (q ∷ new) low h =
    put_over low q (changed_pairs (adds new)) (first_above low q new h) (rises_adds new (Some q) (rest_rises low q new h))

abbrev IsBehind : Pair → (List Pair → List Change) → Type 0
IsBehind p others = (new : List Pair) → RiseAfter p new → RiseAfter p (changed_pairs (others new))

rises_among : (p : Pair) (others : List Pair → List Change) → IsBehind p others → (new : List Pair) (low : Option Pair) → IsAbove low p
    → RisesOver low new → RisesOver low (changed_pairs (drop_among p others new))
rises_among p others k [] low above h = put_over low p (changed_pairs (others [])) above (k [] tt)
rises_among p others k (q ∷ new) low above h =
    let first : IsAbove low q = first_above low q new h in
    let rest : RiseAfter q new = rest_rises low q new h in
    elim (pair_cmp q p) as
    (λ o. pair_cmp q p ≡ o → RisesOver low (changed_pairs (by_order o (change_of true q ∷ drop_among p others new) (others new)
    (change_of false p ∷ others (q ∷ new))))) [
      | Less ↦ λ e. put_over low q (changed_pairs (drop_among p others new)) first (rises_among p others k new (Some q) e rest)
      | Equal ↦ λ e.
          let behind : RiseAfter p (changed_pairs (others new)) = k new (subst (λ (x : Pair). RiseAfter x new) (equal_same q p e) rest) in
          later low p (changed_pairs (others new)) above behind
      | Greater ↦ λ e. put_over low p (changed_pairs (others (q ∷ new))) above (k (q ∷ new) (less_from p q e, rest))
    ] refl

pub net_rises : (old new : List Pair) (low : Option Pair) → RisesOver low old → RisesOver low new → RisesOver low (changed_pairs (net old new))
unfolding net
net_rises [] new low h k = rises_adds new low k
net_rises (p ∷ old) new low h k =
    let rest : RiseAfter p old = rest_rises low p old h in
    rises_among p (net old) (λ ns r. net_rises old ns (Some p) rest r) new low (first_above low p old h) k

-- ---- what it says

none_in : (p x : Pair) (pairs : List Pair) → p ≡ x → RiseAfter p pairs → has x pairs ≡ false
none_in p x pairs e h = ap (λ (y : Pair). has y pairs) (sym e) ∙ none_above p pairs h

has_here : (p x : Pair) (pairs : List Pair) → is_same p x ≡ true → has x (p ∷ pairs) ≡ true
has_here p x pairs s = ap (λ b. cond b true (has x pairs)) s

has_other : (p x : Pair) (pairs : List Pair) → is_same p x ≡ false → has x (p ∷ pairs) ≡ has x pairs
has_other p x pairs s = ap (λ b. cond b true (has x pairs)) s

said_here : (add : Bool) (p x : Pair) (changes : List Change) → is_same p x ≡ true → said_by x (change_of add p ∷ changes) ≡ Some add
said_here add p x changes s = ap (λ b. cond b (Some add) (said_by x changes)) s

said_other : (add : Bool) (p x : Pair) (changes : List Change) → is_same p x ≡ false → said_by x (change_of add p ∷ changes) ≡ said_by x changes
said_other add p x changes s = ap (λ b. cond b (Some add) (said_by x changes)) s

two : (a b c d : Bool) → a ≡ c → b ≡ d → net_said a b ≡ net_said c d
two a b c d p q = λ i. net_said (p i) (q i)

says_adds : (x : Pair) (new : List Pair) → said_by x (adds new) ≡ net_said false (has x new)
says_adds x [] = refl
says_adds x (q ∷ new) =
    ⊎_elim
    (λ (s : is_same q x ≡ true). said_here true q x (adds new) s ∙ sym (two false (has x (q ∷ new)) false true refl (has_here q x new s)))
    (λ (s : is_same q x ≡ false). said_other true q x (adds new) s ∙ says_adds x new
    ∙ sym (two false (has x (q ∷ new)) false (has x new) refl (has_other q x new s)))
    (true_or_false (is_same q x))

abbrev Says : Pair → Pair → List Pair → (List Pair → List Change) → Type 0
Says x p old others = (new : List Pair) → RiseAfter p new → said_by x (others new) ≡ net_said (has x old) (has x new)

says_among : (x p : Pair) (old : List Pair) (others : List Pair → List Change) → RiseAfter p old → Says x p old others
    → (new : List Pair) → Rise new → said_by x (drop_among p others new) ≡ net_said (has x (p ∷ old)) (has x new)
says_among x p old others up k [] h =
    ⊎_elim
    (λ (s : is_same p x ≡ true). said_here false p x (others []) s ∙ sym (two (has x (p ∷ old)) false true false (has_here p x old s) refl))
    (λ (s : is_same p x ≡ false). said_other false p x (others []) s ∙ k [] tt ∙ sym (two (has x (p ∷ old)) false (has x old) false (has_other p x old s) refl))
    (true_or_false (is_same p x))
says_among x p old others up k (q ∷ new) h =
    let last : said_by x (drop_among p others new) ≡ net_said (has x (p ∷ old)) (has x new) =
    says_among x p old others up k new (rises_alone q new h)
    in
    elim (pair_cmp q p) as
    (λ o. pair_cmp q p ≡ o
    → said_by x (by_order o (change_of true q ∷ drop_among p others new) (others new) (change_of false p ∷ others (q ∷ new)))
    ≡ net_said (has x (p ∷ old)) (has x (q ∷ new))) [
      | Less ↦ λ e.
          ⊎_elim
          (λ (s : is_same q x ≡ true).
          said_here true q x (drop_among p others new) s
          ∙ sym (two (has x (p ∷ old)) (has x (q ∷ new)) false true (none_in q x (p ∷ old) (same_from q x s) (e, up)) (has_here q x new s)))
          (λ (s : is_same q x ≡ false).
          said_other true q x (drop_among p others new) s ∙ last
          ∙ sym (two (has x (p ∷ old)) (has x (q ∷ new)) (has x (p ∷ old)) (has x new) refl (has_other q x new s)))
          (true_or_false (is_same q x))
      | Equal ↦ λ e.
          let at : q ≡ p = equal_same q p e in
          let rest : RiseAfter p new = subst (λ (y : Pair). RiseAfter y new) at h in
          ⊎_elim
          (λ (s : is_same q x ≡ true).
          let same : q ≡ x = same_from q x s in
          k new rest
          ∙ two (has x old) (has x new) false false (none_in p x old (sym at ∙ same) up) (none_in p x new (sym at ∙ same) rest)
          ∙ sym (two (has x (p ∷ old)) (has x (q ∷ new)) true true (has_here p x old (same_to p x (sym at ∙ same))) (has_here q x new s)))
          (λ (s : is_same q x ≡ false).
          let other : is_same p x ≡ false = ap (λ (y : Pair). is_same y x) (sym at) ∙ s in
          k new rest
          ∙ sym (two (has x (p ∷ old)) (has x (q ∷ new)) (has x old) (has x new) (has_other p x old other) (has_other q x new s)))
          (true_or_false (is_same q x))
      | Greater ↦ λ e.
          let behind : RiseAfter p (q ∷ new) = (less_from p q e, h) in
          ⊎_elim
          (λ (s : is_same p x ≡ true).
          said_here false p x (others (q ∷ new)) s
          ∙ sym (two (has x (p ∷ old)) (has x (q ∷ new)) true false (has_here p x old s) (none_in p x (q ∷ new) (same_from p x s) behind)))
          (λ (s : is_same p x ≡ false).
          said_other false p x (others (q ∷ new)) s ∙ k (q ∷ new) behind
          ∙ sym (two (has x (p ∷ old)) (has x (q ∷ new)) (has x old) (has x (q ∷ new)) (has_other p x old s) refl))
          (true_or_false (is_same p x))
    ] refl

pub net_says : (x : Pair) (old new : List Pair) → Rise old → Rise new → said_by x (net old new) ≡ net_said (has x old) (has x new)
unfolding net
net_says x [] new h k = says_adds x new
net_says x (p ∷ old) new h k =
    says_among x p old (net old) h (λ ns r. net_says x old ns (rises_alone p old h) (rises_alone p ns r)) new k

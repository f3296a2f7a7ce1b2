-- The pass of a merge: what it makes rises, and has what the changes and the pairs say.
use Rattle.std.proofs.Common.{◌≡◌, List, [], ◌∷◌, refl, ap, ◌∙◌, sym, subst, Bool, true, false, cond, ⊎_elim, Option, Some, None}
use Rattle.std.specs.Option.{unwrap_or}
use Rattle.std.specs.declared.cmp.Ordering.TheVariants.{Less, Equal, Greater}
use Rattle.ax_pair.specs.declared.pair.Pair.{Pair}
use Rattle.ax_pair.specs.Order.{pair_cmp, Rise, RiseAfter}
use Rattle.ax_delta.specs.declared.change.Change.{Change}
use Rattle.ax_delta.specs.Changes.{changed_pairs}
use Rattle.ax_delta.specs.Pass.{put_where, added_by, by_order, put_among, merged}
use Rattle.ax_delta.specs.Said.{is_same, has, said_by}
use Rattle.ax_delta.proofs.SamePair.{true_or_false, same_from, same_to, equal_same, less_from, IsAbove, RisesOver, put_over, first_above, rest_rises}
use Rattle.ax_delta.proofs.SamePair.{later, rises_alone, none_above, none_said, nothing_over}

-- ---- it rises

where_put : (add : Bool) (low : Option Pair) (p : Pair) (pairs : List Pair) → IsAbove low p → RiseAfter p pairs → RisesOver low pairs
    → RisesOver low (put_where add p pairs)
where_put true low p pairs h k r = put_over low p pairs h k
where_put false low p pairs h k r = r

rises_added : (changes : List Change) (low : Option Pair) → RisesOver low (changed_pairs changes) → RisesOver low (added_by changes)
rises_added [] low h = nothing_over low
rises_added (c ∷ changes) low h =
    let above : IsAbove low c.pair = first_above low c.pair (changed_pairs changes) h in
    let rest : RiseAfter c.pair (changed_pairs changes) = rest_rises low c.pair (changed_pairs changes) h in
    where_put c.add low c.pair (added_by changes) above (rises_added changes (Some c.pair) rest)
    (rises_added changes low (later low c.pair (changed_pairs changes) above rest))

-- what is made of the pairs behind p rises behind it
abbrev IsBehind : Pair → (List Change → List Pair) → Type 0
IsBehind p others = (changes : List Change) → RiseAfter p (changed_pairs changes) → RiseAfter p (others changes)

rises_among : (p : Pair) (others : List Change → List Pair) → IsBehind p others → (changes : List Change) (low : Option Pair) → IsAbove low p
    → RisesOver low (changed_pairs changes) → RisesOver low (put_among p others changes)
rises_among p others k [] low above h = put_over low p (others []) above (k [] tt)
rises_among p others k (c ∷ changes) low above h =
    let first : IsAbove low c.pair = first_above low c.pair (changed_pairs changes) h in
    let rest : RiseAfter c.pair (changed_pairs changes) = rest_rises low c.pair (changed_pairs changes) h in
    elim (pair_cmp c.pair p) as
    (λ o. pair_cmp c.pair p ≡ o → RisesOver low (by_order o (put_where c.add c.pair (put_among p others changes)) (put_where c.add p (others changes))
    (p ∷ others (c ∷ changes)))) [
      | Less ↦ λ e.
          where_put c.add low c.pair (put_among p others changes) first (rises_among p others k changes (Some c.pair) e rest)
          (rises_among p others k changes low above (later low c.pair (changed_pairs changes) first rest))
      | Equal ↦ λ e.
          let behind : RiseAfter p (others changes) = k changes (subst (λ (q : Pair). RiseAfter q (changed_pairs changes)) (equal_same c.pair p e) rest) in
          where_put c.add low p (others changes) above behind (later low p (others changes) above behind)
      | Greater ↦ λ e. put_over low p (others (c ∷ changes)) above (k (c ∷ changes) (less_from p c.pair e, rest))
    ] refl

pub merged_rises : (pairs : List Pair) (changes : List Change) (low : Option Pair) → RisesOver low pairs → RisesOver low (changed_pairs changes)
    → RisesOver low (merged pairs changes)
unfolding merged
merged_rises [] changes low h k = rises_added changes low k
merged_rises (p ∷ pairs) changes low h k =
    let rest : RiseAfter p pairs = rest_rises low p pairs h in
    rises_among p (merged pairs) (λ cs r. merged_rises pairs cs (Some p) rest r) changes low (first_above low p pairs h) k

-- ---- what it has

put_here : (add : Bool) (p q : Pair) (pairs : List Pair) → is_same p q ≡ true → has q pairs ≡ false → has q (put_where add p pairs) ≡ add
put_here true p q pairs s h = rw s refl
put_here false p q pairs s h = h

put_other : (add : Bool) (p q : Pair) (pairs : List Pair) → is_same p q ≡ false → has q (put_where add p pairs) ≡ has q pairs
put_other true p q pairs s = rw s refl
put_other false p q pairs s = refl

said_here : (c : Change) (changes : List Change) (q : Pair) (b : Bool) → is_same c.pair q ≡ true → unwrap_or (said_by q (c ∷ changes)) b ≡ c.add
said_here c changes q b s = rw s refl

said_other : (c : Change) (changes : List Change) (q : Pair) → is_same c.pair q ≡ false → said_by q (c ∷ changes) ≡ said_by q changes
said_other c changes q s = rw s refl

has_other : (p q : Pair) (pairs : List Pair) → is_same p q ≡ false → has q (p ∷ pairs) ≡ has q pairs
has_other p q pairs s = rw s refl

has_here : (p q : Pair) (pairs : List Pair) → is_same p q ≡ true → has q (p ∷ pairs) ≡ true
has_here p q pairs s = rw s refl

-- what changes say where they say nothing of the pair
else_as : (o : Option Bool) (b : Bool) → o ≡ None → unwrap_or o b ≡ b
else_as None b h = refl
else_as (Some x) b h = absurd (cc)

none_of : (p q : Pair) (changes : List Change) → p ≡ q → RiseAfter p (changed_pairs changes) → said_by q changes ≡ None
none_of p q changes e h = ap (λ (x : Pair). said_by x changes) (sym e) ∙ none_said p changes h

none_in : (p q : Pair) (pairs : List Pair) → p ≡ q → RiseAfter p pairs → has q pairs ≡ false
none_in p q pairs e h = ap (λ (x : Pair). has x pairs) (sym e) ∙ none_above p pairs h

has_added : (q : Pair) (changes : List Change) → Rise (changed_pairs changes) → has q (added_by changes) ≡ unwrap_or (said_by q changes) false
has_added q [] h = refl
has_added q (c ∷ changes) h =
    let rest : has q (added_by changes) ≡ unwrap_or (said_by q changes) false = has_added q changes (rises_alone c.pair (changed_pairs changes) h) in
    ⊎_elim
    (λ (s : is_same c.pair q ≡ true).
    put_here c.add c.pair q (added_by changes) s (rest ∙ else_as (said_by q changes) false (none_of c.pair q changes (same_from c.pair q s) h))
    ∙ sym (said_here c changes q false s))
    (λ (s : is_same c.pair q ≡ false).
    put_other c.add c.pair q (added_by changes) s ∙ rest ∙ ap (λ (o : Option Bool). unwrap_or o false) (sym (said_other c changes q s)))
    (true_or_false (is_same c.pair q))

-- what is made of the pairs behind p has what the changes and they say
abbrev Says : Pair → Pair → List Pair → (List Change → List Pair) → Type 0
Says q p pairs others = (changes : List Change) → RiseAfter p (changed_pairs changes) → has q (others changes) ≡ unwrap_or (said_by q changes) (has q pairs)

has_among : (q p : Pair) (pairs : List Pair) (others : List Change → List Pair) → RiseAfter p pairs → Says q p pairs others
    → (changes : List Change) → Rise (changed_pairs changes) → has q (put_among p others changes) ≡ unwrap_or (said_by q changes) (has q (p ∷ pairs))
has_among q p pairs others up k [] h = ap (λ (b : Bool). cond (is_same p q) true b) (k [] tt)
has_among q p pairs others up k (c ∷ changes) h =
    let last : has q (put_among p others changes) ≡ unwrap_or (said_by q changes) (has q (p ∷ pairs)) =
    has_among q p pairs others up k changes (rises_alone c.pair (changed_pairs changes) h)
    in
    elim (pair_cmp c.pair p) as
    (λ o. pair_cmp c.pair p ≡ o
    → has q (by_order o (put_where c.add c.pair (put_among p others changes)) (put_where c.add p (others changes)) (p ∷ others (c ∷ changes)))
    ≡ unwrap_or (said_by q (c ∷ changes)) (has q (p ∷ pairs))) [
      | Less ↦ λ e.
          ⊎_elim
          (λ (s : is_same c.pair q ≡ true).
          let same : c.pair ≡ q = same_from c.pair q s in
          put_here c.add c.pair q (put_among p others changes) s
          (last ∙ else_as (said_by q changes) (has q (p ∷ pairs)) (none_of c.pair q changes same h) ∙ none_in c.pair q (p ∷ pairs) same (e, up))
          ∙ sym (said_here c changes q (has q (p ∷ pairs)) s))
          (λ (s : is_same c.pair q ≡ false).
          put_other c.add c.pair q (put_among p others changes) s ∙ last
          ∙ ap (λ (o : Option Bool). unwrap_or o (has q (p ∷ pairs))) (sym (said_other c changes q s)))
          (true_or_false (is_same c.pair q))
      | Equal ↦ λ e.
          let at : c.pair ≡ p = equal_same c.pair p e in
          let rest : RiseAfter p (changed_pairs changes) = subst (λ (x : Pair). RiseAfter x (changed_pairs changes)) at h in
          ⊎_elim
          (λ (s : is_same c.pair q ≡ true).
          let same : p ≡ q = sym at ∙ same_from c.pair q s in
          put_here c.add p q (others changes) (same_to p q same)
          (k changes rest ∙ else_as (said_by q changes) (has q pairs) (none_of p q changes same rest) ∙ none_in p q pairs same up)
          ∙ sym (said_here c changes q (has q (p ∷ pairs)) s))
          (λ (s : is_same c.pair q ≡ false).
          let other : is_same p q ≡ false = ap (λ (x : Pair). is_same x q) (sym at) ∙ s in
          put_other c.add p q (others changes) other ∙ k changes rest
          ∙ ap (unwrap_or (said_by q changes)) (sym (has_other p q pairs other))
          ∙ ap (λ (o : Option Bool). unwrap_or o (has q (p ∷ pairs))) (sym (said_other c changes q s)))
          (true_or_false (is_same c.pair q))
      | Greater ↦ λ e.
          let behind : RiseAfter p (changed_pairs (c ∷ changes)) = (less_from p c.pair e, h) in
          ⊎_elim
          (λ (s : is_same p q ≡ true).
          has_here p q (others (c ∷ changes)) s
          ∙ sym (else_as (said_by q (c ∷ changes)) (has q (p ∷ pairs)) (none_of p q (c ∷ changes) (same_from p q s) behind) ∙ has_here p q pairs s))
          (λ (s : is_same p q ≡ false).
          has_other p q (others (c ∷ changes)) s ∙ k (c ∷ changes) behind ∙ ap (unwrap_or (said_by q (c ∷ changes))) (sym (has_other p q pairs s)))
          (true_or_false (is_same p q))
    ] refl

pub merged_has : (q : Pair) (pairs : List Pair) (changes : List Change) → Rise pairs → Rise (changed_pairs changes)
    → has q (merged pairs changes) ≡ unwrap_or (said_by q changes) (has q pairs)
unfolding merged
merged_has q [] changes h k = has_added q changes k
merged_has q (p ∷ pairs) changes h k =
    has_among q p pairs (merged pairs) h
    (λ cs r. merged_has q pairs cs (rises_alone p pairs h) (rises_alone p (changed_pairs cs) r)) changes k

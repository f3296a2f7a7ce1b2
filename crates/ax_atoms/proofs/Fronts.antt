-- What is not before some bytes, and before the least that are behind all that begin with them, begins
-- with them; and a path that is not before another, and before the least behind all that begin with it,
-- begins with it.
use Rattle.std.proofs.Common.{◌≡◌, ℕ, ◌+◌, ◌<◌, ◌≤◌, List, [], ◌∷◌, ◌++◌, Bool, true, false, cond, nat_lt, ◌⊎◌, inl, inr, ⊎_elim, refl, sym, ap, ap₂}
use Rattle.std.proofs.Common.{◌∙◌, arith}
use Rattle.std.proofs.lemmas.Bool.{false≢true, ltb-false}
use Rattle.std.proofs.lemmas.Cmp.{by_ranked, ranked}
use Rattle.std.proofs.lemmas.List.Elements.{All-head, All-tail}
use Rattle.std.specs.declared.cmp.Ordering.{Ordering}
use Rattle.std.specs.declared.cmp.Ordering.TheVariants.{Less, Equal, Greater}
use Rattle.std.specs.Ordering.{ordering_then, nat_cmp, bool_cmp, is_le, is_lt}
use Rattle.ax_mean.specs.declared.query.Step.{Step}
use Rattle.ax_mean.specs.declared.query.Step.TheVariants as step
use Rattle.ax_term.specs.CutTexts.{CutText}
use Rattle.ax_term.specs.CutValues.{CutValue}
use Rattle.ax_term.specs.Fitting.{AreBytes, IsValue}
use Rattle.ax_term.specs.TermOrder.{order_of_bytes, order_of_paths, order_of_steps, order_of_values}
use Rattle.ax_term.proofs.Decided.{then_then}
use Rattle.ax_term.proofs.OneTerm.{one_list}
use Rattle.ax_atoms.specs.Spans.{behind_texts, next_bytes, next_path, next_step, raised_front}
use Rattle.ax_atoms.specs.Wanted.{BeginsWith}
use Rattle.ax_atoms.proofs.Between.{AreBehind, none_before}
use Rattle.ax_atoms.proofs.Exact.{both_ways, closed, first_le, lt_is_le, second_le, steps_back}
use Rattle.ax_atoms.proofs.OneKind.{none_before_least}

-- ---- two bytes

greater_is_not : {A : Type 0} → Greater ≡ Less → A
greater_is_not h = absurd (let e : ⊥ = cc in e)

-- bytes that are before others by their first, or by what follows it
then_less : (x y : ℕ) (r : Ordering) → ordering_then (nat_cmp x y) r ≡ Less → (x < y) ⊎ ((x ≡ y) × (r ≡ Less))
then_less x y r h =
    by_ranked (x < y) (x ≡ y) (y < x) {G = (x < y) ⊎ ((x ≡ y) × (r ≡ Less))} (nat_cmp x y) (ranked x y (nat_cmp x y) refl)
    (λ e p. inl p)
    (λ e p. inr (p, sym (ap (λ o. ordering_then o r) e) ∙ h))
    (λ e p. greater_is_not (sym (ap (λ o. ordering_then o r) e) ∙ h))

then_le : (x y : ℕ) (r : Ordering) → is_le (ordering_then (nat_cmp x y) r) ≡ true
    → (x < y) ⊎ ((x ≡ y) × (is_le r ≡ true))
then_le x y r h =
    by_ranked (x < y) (x ≡ y) (y < x) {G = (x < y) ⊎ ((x ≡ y) × (is_le r ≡ true))} (nat_cmp x y) (ranked x y (nat_cmp x y) refl)
    (λ e p. inl p)
    (λ e p. inr (p, sym (ap (λ o. is_le (ordering_then o r)) e) ∙ h))
    (λ e p. absurd (false≢true (sym (ap (λ o. is_le (ordering_then o r)) e) ∙ h)))

at_most : (x y : ℕ) (R : Type 0) → (x < y) ⊎ ((x ≡ y) × R) → x ≤ y
at_most x y R (inl h) = omega (arith, h)
at_most x y R (inr h) = let e : x ≡ y = h.0 in omega (arith, e)

-- ---- bytes that begin so

abbrev Follows : ℕ → ℕ → List ℕ → List ℕ → Type 0
Follows x y v next = (y ≡ x) × AreBehind v next

no_list : {A : Type 0} (x : ℕ) (xs : List ℕ) → x ∷ xs ≡ [] → A
no_list x xs h = absurd (let e : ⊥ = cc in e)

raised_follows : (x y : ℕ) (v : List ℕ) (can : Bool) → nat_lt x 255 ≡ can → y < 256 → x ≤ y
    → AreBehind (y ∷ v) (cond can ((x + 1) ∷ []) []) → Follows x y v []
raised_follows x y v true is byte low (inl h) = no_list (x + 1) [] h
raised_follows x y v true is byte low (inr h) =
    ⊎_elim {C = Follows x y v []}
    (λ (p : y < x + 1). ((omega (arith, p, low)), inl refl))
    (λ (p : (y ≡ x + 1) × (order_of_bytes v [] ≡ Less)). none_before v p.1)
    (then_less y (x + 1) (order_of_bytes v []) h)
raised_follows x y v false is byte low h =
    let high : 255 ≤ x = ltb-false x 255 is in ((omega (arith, byte, low, high)), inl refl)

byte_follows : (x y : ℕ) (v next : List ℕ) → y < 256 → x ≤ y → AreBehind (y ∷ v) (raised_front x next)
    → Follows x y v next
byte_follows x y v [] byte low h = raised_follows x y v (nat_lt x 255) refl byte low h
byte_follows x y v (n ∷ next) byte low (inl h) = no_list x (n ∷ next) h
byte_follows x y v (n ∷ next) byte low (inr h) =
    ⊎_elim {C = Follows x y v (n ∷ next)}
    (λ (p : y < x). absurd (let e : ⊥ = omega (arith, p, low) in e))
    (λ (p : (y ≡ x) × (order_of_bytes v (n ∷ next) ≡ Less)). (p.0, inr p.1))
    (then_less y x (order_of_bytes v (n ∷ next)) h)

abbrev Begins : List ℕ → List ℕ → Type 0
Begins front bytes = (more : List ℕ) × (bytes ≡ front ++ more)

pub begins : (front bytes : List ℕ) → AreBytes bytes → is_le (order_of_bytes front bytes) ≡ true
    → AreBehind bytes (next_bytes front) → Begins front bytes
begins [] bytes are low high = (bytes, refl)
begins (x ∷ front) [] are low high = absurd (false≢true low)
begins (x ∷ front) (y ∷ bytes) are low high =
    let first = then_le x y (order_of_bytes front bytes) low in
    let follows = byte_follows x y bytes (next_bytes front) (All-head (λ byte. byte < 256) y bytes are)
    (at_most x y (is_le (order_of_bytes front bytes) ≡ true) first) high in
    let same : y ≡ x = follows.0 in
    ⊎_elim {C = Begins (x ∷ front) (y ∷ bytes)}
    (λ (p : x < y). absurd (let e : ⊥ = omega (arith, p, same) in e))
    (λ (p : (x ≡ y) × (is_le (order_of_bytes front bytes) ≡ true)).
    let rest = begins front bytes (All-tail (λ byte. byte < 256) y bytes are) p.1 follows.1 in
    (rest.0, ap₂ (λ b bs. b ∷ bs) same rest.1))
    first

lt_less : (o : Ordering) → is_lt o ≡ true → o ≡ Less
lt_less Less h = refl
lt_less Equal h = absurd (false≢true h)
lt_less Greater h = absurd (false≢true h)

uncut_last : (o : Ordering) (c : Bool) → is_lt (ordering_then o (bool_cmp c false)) ≡ true → o ≡ Less
uncut_last Less c h = refl
uncut_last Equal true h = absurd (false≢true h)
uncut_last Equal false h = absurd (false≢true h)
uncut_last Greater c h = absurd (false≢true h)

text_behind : (next front : List ℕ) (c : Bool)
    → is_lt (order_of_values (CutValue.Text (record { front = front; is_cut = c })) (behind_texts next)) ≡ true
    → AreBehind front next
text_behind [] front c h = inl refl
text_behind (n ∷ next) front c h = inr (uncut_last (order_of_bytes front (n ∷ next)) c h)

list_is_not : {A : Type 0} (next : List ℕ) (t : CutText) → is_lt (order_of_values (CutValue.List t) (behind_texts next)) ≡ true → A
list_is_not [] t h = none_before_least t h
list_is_not (n ∷ next) t h = absurd (false≢true h)

object_is_not : {A : Type 0} (next : List ℕ) (t : CutText) → is_lt (order_of_values (CutValue.Object t) (behind_texts next)) ≡ true → A
object_is_not [] t h = absurd (false≢true h)
object_is_not (n ∷ next) t h = absurd (false≢true h)

pub texts_begin : (front : List ℕ) (v : CutValue) → IsValue v
    → is_le (order_of_values (CutValue.Text (record { front = front; is_cut = false })) v) ≡ true
    → is_lt (order_of_values v (behind_texts (next_bytes front))) ≡ true → BeginsWith front v
texts_begin front CutValue.Undefined are h k = absurd (false≢true h)
texts_begin front CutValue.Null are h k = absurd (false≢true h)
texts_begin front CutValue.False are h k = absurd (false≢true h)
texts_begin front CutValue.True are h k = absurd (false≢true h)
texts_begin front (CutValue.Number n) are h k = absurd (false≢true h)
texts_begin front (CutValue.Text t) are h k =
    let found = begins front t.front are (first_le (order_of_bytes front t.front) (bool_cmp false t.is_cut) h)
    (text_behind (next_bytes front) t.front t.is_cut k) in
    (t, refl, found.0, found.1)
texts_begin front (CutValue.List t) are h k = list_is_not (next_bytes front) t k
texts_begin front (CutValue.Object t) are h k = object_is_not (next_bytes front) t k

-- ---- paths that begin so

same_step : (s t : Step) → order_of_steps s t ≡ Equal → s ≡ t
same_step step.Item step.Item e = refl
same_step step.Item (step.Name b) e = absurd (let f : ⊥ = cc in f)
same_step (step.Name a) step.Item e = absurd (let f : ⊥ = cc in f)
same_step (step.Name a) (step.Name b) e = ap step.Name (one_list a b e)

nothing_before : {A : Type 0} (xs : List ℕ) → is_lt (order_of_bytes xs []) ≡ true → A
nothing_before [] h = absurd (false≢true h)
nothing_before (x ∷ xs) h = absurd (false≢true h)

-- there is no step between one and the next
step_is : (s t : Step) → is_le (order_of_steps s t) ≡ true → is_lt (order_of_steps t (next_step s)) ≡ true → t ≡ s
step_is step.Item step.Item h k = refl
step_is step.Item (step.Name b) h k = nothing_before b k
step_is (step.Name a) step.Item h k = absurd (false≢true h)
step_is (step.Name a) (step.Name b) h k =
    let back : is_le (order_of_steps (step.Name b) (step.Name a)) ≡ true = sym (closed b a) ∙ k in
    sym (same_step (step.Name a) (step.Name b)
    (both_ways (order_of_bytes a b) (order_of_bytes b a) (steps_back (step.Name a) (step.Name b)) h back))

-- no value is before undefined
undefined_first : (v : CutValue) → is_lt (order_of_values v CutValue.Undefined) ≡ false
undefined_first CutValue.Undefined = refl
undefined_first CutValue.Null = refl
undefined_first CutValue.False = refl
undefined_first CutValue.True = refl
undefined_first (CutValue.Number n) = refl
undefined_first (CutValue.Text t) = refl
undefined_first (CutValue.List t) = refl
undefined_first (CutValue.Object t) = refl

first_only : (o r : Ordering) → is_lt r ≡ false → is_lt (ordering_then o r) ≡ true → is_lt o ≡ true
first_only Less r e h = refl
first_only Equal r e h = absurd (false≢true (sym e ∙ h))
first_only Greater r e h = absurd (false≢true h)

no_path_before : (q : List Step) (v : CutValue)
    → is_lt (ordering_then (order_of_paths q []) (order_of_values v CutValue.Undefined)) ≡ false
no_path_before [] v = undefined_first v
no_path_before (t ∷ q) v = refl

abbrev BeginsPath : List Step → List Step → Type 0
BeginsPath path other = (more : List Step) × (other ≡ path ++ more)

abbrev least_value : CutValue → Ordering
least_value v = order_of_values CutValue.Undefined v

abbrev from_value : CutValue → Ordering
from_value v = order_of_values v CutValue.Undefined

pub paths_begin : (s : Step) (p q : List Step) (v : CutValue)
    → is_le (ordering_then (order_of_paths (s ∷ p) q) (least_value v)) ≡ true
    → is_lt (ordering_then (order_of_paths q (next_path (s ∷ p))) (from_value v)) ≡ true
    → BeginsPath (s ∷ p) q
paths_begin s [] [] v h k = absurd (false≢true h)
paths_begin s (r ∷ p) [] v h k = absurd (false≢true h)
paths_begin s [] (t ∷ q) v h k =
    let low = first_le (order_of_steps s t) (order_of_paths [] q)
    (first_le (order_of_paths (s ∷ []) (t ∷ q)) (least_value v) h) in
    let high = first_only (order_of_steps t (next_step s)) (ordering_then (order_of_paths q []) (from_value v))
    (no_path_before q v)
    (sym (ap is_lt (then_then (order_of_steps t (next_step s)) (order_of_paths q []) (from_value v))) ∙ k) in
    (q, ap (λ u. u ∷ q) (step_is s t low high))
paths_begin s (r ∷ p) (t ∷ q) v h k =
    let hh : is_le (ordering_then (order_of_steps s t) (ordering_then (order_of_paths (r ∷ p) q) (least_value v))) ≡ true =
    sym (ap is_le (then_then (order_of_steps s t) (order_of_paths (r ∷ p) q) (least_value v))) ∙ h in
    let kk : is_lt (ordering_then (order_of_steps t s) (ordering_then (order_of_paths q (next_path (r ∷ p))) (from_value v))) ≡ true =
    sym (ap is_lt (then_then (order_of_steps t s) (order_of_paths q (next_path (r ∷ p))) (from_value v))) ∙ k in
    let low = first_le (order_of_steps s t) (ordering_then (order_of_paths (r ∷ p) q) (least_value v)) hh in
    let high = first_le (order_of_steps t s) (ordering_then (order_of_paths q (next_path (r ∷ p))) (from_value v))
    (lt_is_le _ kk) in
    let e : order_of_steps s t ≡ Equal = both_ways (order_of_steps s t) (order_of_steps t s) (steps_back s t) low high in
    let f : order_of_steps t s ≡ Equal = both_ways (order_of_steps t s) (order_of_steps s t) (steps_back t s) high low in
    let rest = paths_begin r p q v
    (sym (ap is_le (second_le (order_of_steps s t) (ordering_then (order_of_paths (r ∷ p) q) (least_value v)) e)) ∙ hh)
    (sym (ap is_lt (second_le (order_of_steps t s) (ordering_then (order_of_paths q (next_path (r ∷ p))) (from_value v)) f)) ∙ kk) in
    (rest.0, ap₂ (λ u us. u ∷ us) (sym (same_step s t e)) rest.1)

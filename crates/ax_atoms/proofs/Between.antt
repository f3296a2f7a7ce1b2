-- Plain terms are in the order of their paths and values, and what lies between two terms is in the
-- range from the one to the other.
use Rattle.std.proofs.Common.{◌≡◌, ℕ, zero, suc, ◌+◌, List, [], ◌∷◌, ◌++◌, Bool, true, false, cond, take, nat_lt, ◌⊎◌, inl, inr, refl, ap, ◌∙◌, arith}
use Rattle.std.proofs.lemmas.Bool.{false≢true, and_from}
use Rattle.std.proofs.lemmas.Cmp.{tied_itself, nat_list_cmp_total}
use Rattle.std.specs.Int.{w64, to_be_bytes}
use Rattle.std.specs.declared.cmp.Ordering.{Ordering}
use Rattle.std.specs.declared.cmp.Ordering.TheVariants.{Less, Equal, Greater}
use Rattle.std.specs.Ordering.{ordering_then, nat_cmp, int_cmp, bool_cmp, is_le, is_lt}
use Rattle.ax_tree.specs.WellFormed.{is_of_64_bits}
use Rattle.ax_mean.specs.declared.query.Step.{Step}
use Rattle.ax_mean.specs.declared.query.Step.TheVariants as step
use Rattle.ax_term.specs.CutValues.{CutValue}
use Rattle.ax_term.specs.Ranges.{is_in_range}
use Rattle.ax_term.specs.TermBytes.{path_bytes, raised, term_bytes, text_bytes, value_bytes}
use Rattle.ax_term.specs.TermOrder.{order_of_bytes, order_of_paths, order_of_steps, order_of_texts, order_of_values}
use Rattle.ax_term.specs.Terms.{Term}
use Rattle.ax_term.proofs.Decided.{Decides, decides_both, alone, equal, less}
use Rattle.ax_term.proofs.Escaped.{decides_texts}
use Rattle.ax_term.proofs.InOrder.{decides_paths}
use Rattle.ax_term.proofs.Numbers.{decides_numbers}
use Rattle.ax_atoms.specs.Spans.{behind_texts, next_bytes, next_path, next_step, raised_front}

-- ---- the order of plain terms: only their numbers have to fit

-- a number is of 64 bits
abbrev pub IsFit : CutValue → Type 0
IsFit (CutValue.Number number) = is_of_64_bits number ≡ true
IsFit _ = Unit {0}

behind : (x : ℕ) (a b : List ℕ) (r : Ordering) → Decides (x ∷ []) (x ∷ []) Equal → Decides a b r
    → Decides (x ∷ a) (x ∷ b) r
behind x a b r same d = decides_both (x ∷ []) (x ∷ []) Equal a b r same (λ e. d)

decides_values : (a b : CutValue) → IsFit a → IsFit b
    → Decides (value_bytes a) (value_bytes b) (order_of_values a b)
decides_values (CutValue.Number a) (CutValue.Number b) h k =
    behind 20 (to_be_bytes w64 (raised a)) (to_be_bytes w64 (raised b)) (int_cmp a b)
    (record { so = λ s t. refl }) (decides_numbers a b h k)
decides_values (CutValue.Text a) (CutValue.Text b) h k =
    behind 21 (text_bytes a) (text_bytes b) (order_of_texts a b) (record { so = λ s t. refl })
    (decides_texts a b)
decides_values (CutValue.List a) (CutValue.List b) h k =
    behind 22 (text_bytes a) (text_bytes b) (order_of_texts a b) (record { so = λ s t. refl })
    (decides_texts a b)
decides_values (CutValue.Object a) (CutValue.Object b) h k =
    behind 23 (text_bytes a) (text_bytes b) (order_of_texts a b) (record { so = λ s t. refl })
    (decides_texts a b)
decides_values CutValue.Undefined CutValue.Undefined h k = record { so = λ s t. refl }
decides_values CutValue.Null CutValue.Null h k = record { so = λ s t. refl }
decides_values CutValue.False CutValue.False h k = record { so = λ s t. refl }
decides_values CutValue.True CutValue.True h k = record { so = λ s t. refl }
decides_values a b h k = record { so = λ s t. refl }

pub plain_order : (p q : List Step) (a b : CutValue) → IsFit a → IsFit b
    → order_of_bytes (term_bytes (Term.Plain p a)) (term_bytes (Term.Plain q b))
    ≡ ordering_then (order_of_paths p q) (order_of_values a b)
plain_order p q a b h k =
    alone (path_bytes p ++ value_bytes a) (path_bytes q ++ value_bytes b)
    (ordering_then (order_of_paths p q) (order_of_values a b))
    (decides_both (path_bytes p) (path_bytes q) (order_of_paths p q) (value_bytes a) (value_bytes b)
    (order_of_values a b) (decides_paths p q) (λ e. decides_values a b h k))

steps_same : (s : Step) → order_of_steps s s ≡ Equal
steps_same step.Item = refl
steps_same (step.Name a) = tied_itself nat_list_cmp_total a

paths_same : (p : List Step) → order_of_paths p p ≡ Equal
paths_same [] = refl
paths_same (s ∷ p) = ap (λ o. ordering_then o (order_of_paths p p)) (steps_same s) ∙ paths_same p

pub at_path : (p : List Step) (a b : CutValue) → IsFit a → IsFit b
    → order_of_bytes (term_bytes (Term.Plain p a)) (term_bytes (Term.Plain p b)) ≡ order_of_values a b
at_path p a b h k =
    plain_order p p a b h k ∙ ap (λ o. ordering_then o (order_of_values a b)) (paths_same p)

-- ---- ranges

lt_then : (o p q : Ordering) → (is_le p ≡ true → is_lt q ≡ true) → is_le (ordering_then o p) ≡ true
    → is_lt (ordering_then o q) ≡ true
lt_then Less p q next h = refl
lt_then Equal p q next h = next h
lt_then Greater p q next h = absurd (false≢true h)

up_to_it : (t l : List ℕ) → is_le (order_of_bytes t l) ≡ true
    → is_lt (order_of_bytes t (l ++ 0 ∷ [])) ≡ true
up_to_it [] [] h = refl
up_to_it [] (y ∷ l) h = refl
up_to_it (x ∷ t) [] h = absurd (false≢true h)
up_to_it (x ∷ t) (y ∷ l) h =
    lt_then (nat_cmp x y) (order_of_bytes t l) (order_of_bytes t (l ++ 0 ∷ [])) (up_to_it t l) h

pub in_up_to : (f l t : List ℕ) → is_le (order_of_bytes f t) ≡ true → is_le (order_of_bytes t l) ≡ true
    → is_in_range (record { from = f; below = l ++ 0 ∷ [] }) t ≡ true
in_up_to f l t h k = and_from _ _ h (up_to_it t l k)

pub in_before : (f n t : List ℕ) → is_le (order_of_bytes f t) ≡ true → is_lt (order_of_bytes t n) ≡ true
    → is_in_range (record { from = f; below = n }) t ≡ true
in_before f n t h k = and_from _ _ h k

pub in_only : (t : List ℕ) → is_in_range (record { from = t; below = t ++ 0 ∷ [] }) t ≡ true
in_only t =
    let same : is_le (order_of_bytes t t) ≡ true = ap is_le (tied_itself nat_list_cmp_total t) in
    in_up_to t t t same same

-- ---- every term at a path or below it

undefined_least : (a : CutValue) → is_le (order_of_values CutValue.Undefined a) ≡ true
undefined_least CutValue.Undefined = refl
undefined_least CutValue.Null = refl
undefined_least CutValue.False = refl
undefined_least CutValue.True = refl
undefined_least (CutValue.Number n) = refl
undefined_least (CutValue.Text t) = refl
undefined_least (CutValue.List t) = refl
undefined_least (CutValue.Object t) = refl

path_front : (p more : List Step) → order_of_paths p (p ++ more) ≡ order_of_paths [] more
path_front [] more = refl
path_front (s ∷ p) more =
    ap (λ o. ordering_then o (order_of_paths p (p ++ more))) (steps_same s) ∙ path_front p more

bytes_longer : (a : List ℕ) → order_of_bytes a (a ++ 0 ∷ []) ≡ Less
bytes_longer [] = refl
bytes_longer (x ∷ a) =
    ap (λ o. ordering_then o (order_of_bytes a (a ++ 0 ∷ []))) (equal x x refl) ∙ bytes_longer a

step_next : (s : Step) → order_of_steps s (next_step s) ≡ Less
step_next step.Item = refl
step_next (step.Name a) = bytes_longer a

path_next : (s : Step) (p more : List Step)
    → order_of_paths (s ∷ (p ++ more)) (next_path (s ∷ p)) ≡ Less
path_next s [] more = ap (λ o. ordering_then o (order_of_paths more [])) (step_next s)
path_next s (t ∷ p) more =
    ap (λ o. ordering_then o (order_of_paths (t ∷ (p ++ more)) (next_path (t ∷ p)))) (steps_same s)
    ∙ path_next t p more

least_below : (more : List Step) (a : CutValue)
    → is_le (ordering_then (order_of_paths [] more) (order_of_values CutValue.Undefined a)) ≡ true
least_below [] a = undefined_least a
least_below (s ∷ more) a = refl

pub in_below : (s : Step) (p more : List Step) (a : CutValue) → IsFit a
    → is_in_range (record {
      from = term_bytes (Term.Plain (s ∷ p) CutValue.Undefined);
      below = term_bytes (Term.Plain (next_path (s ∷ p)) CutValue.Undefined);
    }) (term_bytes (Term.Plain ((s ∷ p) ++ more) a)) ≡ true
in_below s p more a fit =
    in_before (term_bytes (Term.Plain (s ∷ p) CutValue.Undefined))
    (term_bytes (Term.Plain (next_path (s ∷ p)) CutValue.Undefined))
    (term_bytes (Term.Plain ((s ∷ p) ++ more) a))
    (ap is_le (plain_order (s ∷ p) ((s ∷ p) ++ more) CutValue.Undefined a tt fit)
    ∙ ap (λ o. is_le (ordering_then o (order_of_values CutValue.Undefined a))) (path_front (s ∷ p) more)
    ∙ least_below more a)
    (ap is_lt (plain_order ((s ∷ p) ++ more) (next_path (s ∷ p)) a CutValue.Undefined fit tt)
    ∙ ap (λ o. is_lt (ordering_then o (order_of_values a CutValue.Undefined))) (path_next s p more))

-- ---- texts that begin with a text

bytes_front : (p more : List ℕ) → order_of_bytes p (p ++ more) ≡ order_of_bytes [] more
bytes_front [] more = refl
bytes_front (x ∷ p) more =
    ap (λ o. ordering_then o (order_of_bytes p (p ++ more))) (equal x x refl) ∙ bytes_front p more

false_first : (b : Bool) → is_le (bool_cmp false b) ≡ true
false_first true = refl
false_first false = refl

pub least_front : (more : List ℕ) (c : Bool)
    → is_le (ordering_then (order_of_bytes [] more) (bool_cmp false c)) ≡ true
least_front [] c = false_first c
least_front (x ∷ more) c = refl

pub front_least : (p more : List ℕ) (c : Bool)
    → is_le (order_of_values (CutValue.Text (record { front = p; is_cut = false }))
    (CutValue.Text (record { front = p ++ more; is_cut = c }))) ≡ true
front_least p more c =
    ap (λ o. is_le (ordering_then o (bool_cmp false c))) (bytes_front p more) ∙ least_front more c

-- no bytes are behind, or they are behind all that begin so
abbrev pub AreBehind : List ℕ → List ℕ → Type 0
AreBehind text next = (next ≡ []) ⊎ (order_of_bytes text next ≡ Less)

pub none_before : {A : Type 0} (xs : List ℕ) → order_of_bytes xs [] ≡ Less → A
none_before [] h = absurd (let e : ⊥ = cc in e)
none_before (x ∷ xs) h = absurd (let e : ⊥ = cc in e)

raised_behind : (b : ℕ) (text : List ℕ) (can : Bool)
    → AreBehind (b ∷ text) (cond can ((b + 1) ∷ []) [])
raised_behind b text true =
    inr (ap (λ o. ordering_then o (order_of_bytes text [])) (less b (b + 1) (omega arith)))
raised_behind b text false = inl refl

front_behind : (b : ℕ) (text next : List ℕ) → AreBehind text next
    → AreBehind (b ∷ text) (raised_front b next)
front_behind b text [] h = raised_behind b text (nat_lt b 255)
front_behind b text (n ∷ next) (inl h) = absurd (let e : ⊥ = cc in e)
front_behind b text (n ∷ next) (inr h) =
    inr (ap (λ o. ordering_then o (order_of_bytes text (n ∷ next))) (equal b b refl) ∙ h)

pub all_behind : (p more : List ℕ) → AreBehind (p ++ more) (next_bytes p)
all_behind [] more = inl refl
all_behind (b ∷ p) more = front_behind b (p ++ more) (next_bytes p) (all_behind p more)

pub texts_behind : (text next : List ℕ) (c : Bool) → AreBehind text next
    → is_lt (order_of_values (CutValue.Text (record { front = text; is_cut = c })) (behind_texts next)) ≡ true
texts_behind text [] c h = refl
texts_behind text (n ∷ next) c (inl h) = absurd (let e : ⊥ = cc in e)
texts_behind text (n ∷ next) c (inr h) =
    ap (λ o. is_lt (ordering_then o (bool_cmp c false))) h

pub front_taken : (n : ℕ) (k rest : List ℕ) → (more : List ℕ) × (take n (k ++ rest) ≡ take n k ++ more)
front_taken zero k rest = ([], refl)
front_taken (suc n) [] rest = (take (suc n) rest, refl)
front_taken (suc n) (x ∷ k) rest =
    let found = front_taken n k rest in (found.0, ap (λ xs. x ∷ xs) found.1)

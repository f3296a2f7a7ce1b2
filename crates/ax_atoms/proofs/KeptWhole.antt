-- Of values that terms keep whole, those are in a condition's ranges that pass it.
use Rattle.std.proofs.Common.{◌≡◌, ℕ, ℤ, ◌<◌, ◌≤◌, ◌==◌, zero, suc, List, [], ◌∷◌, ◌++◌, map, take, drop, length, get_or, All, Bool, true, false}
use Rattle.std.proofs.Common.{◌&&◌, cond, nat_le, Option, Some, None, option_map, option_and_then, IfSome, ◌⊎◌, ⊎_elim, refl, sym, ap, ap₂, ◌∙◌}
use Rattle.std.proofs.Common.{subst, arith}
use Rattle.std.proofs.lemmas.Bool.{false≢true, and_parts, and_from, or_left, or_right, or_cases, eq-eqb}
use Rattle.std.proofs.lemmas.Bool.Decides.{Decides-eqb, nat_tests}
use Rattle.std.proofs.lemmas.List.{take_all}
use Rattle.std.proofs.lemmas.List.Elements.{All-head, All-tail}
use Rattle.std.proofs.lemmas.Slice.Eq.{starts_is}
use Rattle.std.specs.List.{list_any}
use Rattle.std.specs.declared.cmp.Ordering.{Ordering}
use Rattle.std.specs.declared.cmp.Ordering.TheVariants.{Less, Equal, Greater}
use Rattle.std.specs.Ordering.{int_cmp, is_ge, is_le, nat_cmp, ordering_reverse}
use Rattle.ax_tree.specs.declared.tree.Tree as tree
use Rattle.ax_tree.specs.declared.tree.Tree.{Tree, out-Tree}
use Rattle.ax_tree.specs.declared.tree.Tree.TheOpen.{Tree-F}
use Rattle.ax_tree.specs.declared.tree.Tree.TheViews.{roll-Tree, roll-out-Tree}
use Rattle.ax_tree.specs.declared.tree.Tree.TheVariants.{rolls-Null, rolls-Truth, rolls-Number, rolls-Text}
use Rattle.ax_mean.specs.declared.expr.Expr.{Expr}
use Rattle.ax_mean.specs.declared.operator.BinaryOp.TheVariants as op
use Rattle.ax_mean.specs.declared.operator.Func.TheVariants as func
use Rattle.ax_mean.specs.declared.query.Step.{Step}
use Rattle.ax_mean.specs.declared.query.Step.TheVariants.{Item}
use Rattle.ax_mean.specs.declared.value.Value.{Value}
use Rattle.ax_mean.specs.declared.value.Value.TheVariants.{Undefined, Defined}
use Rattle.ax_mean.specs.Comparison.{comparison, is_same_value, is_scalar}
use Rattle.ax_mean.specs.Functions.{call}
use Rattle.ax_mean.specs.Meaning.{is_yes}
use Rattle.ax_mean.specs.Operators.{binary}
use Rattle.ax_mean.specs.TextFunctions.{begins_with, on_texts}
use Rattle.ax_mean.specs.ValueOrder.{value_cmp}
use Rattle.ax_mean.specs.Values.{are_of_one_kind, is_defined, kind, kind_level, of_truth, text_level, text_of}
use Rattle.ax_mean.proofs.SameTrees.{same_along}
use Rattle.ax_term.specs.CutTexts.{CutText, cut}
use Rattle.ax_term.specs.CutValues.{CutValue, cut_level, cut_of}
use Rattle.ax_term.specs.TermOrder.{order_of_bytes, order_of_texts, order_of_values, rank}
use Rattle.ax_term.proofs.Decided.{then_equal}
use Rattle.ax_atoms.specs.Atoms.{Atom}
use Rattle.ax_atoms.specs.Constants.{are_alike}
use Rattle.ax_atoms.specs.KeptWhole.{HasKeptWhole, IsKeptWhole, is_yes_of, passes}
use Rattle.ax_atoms.specs.Passing.{RestsOn}
use Rattle.ax_atoms.specs.Recognised.{are_bounds, are_single, fits, is_bound, is_single, recognised}
use Rattle.ax_atoms.specs.Wanted.{BeginsWith, IsOneOf, IsWanted}
use Rattle.ax_atoms.proofs.Asked.{chain_or, text_cut, text_is}
use Rattle.ax_atoms.proofs.Bounds.{two_so}
use Rattle.ax_atoms.proofs.Exact.{values_back}
use Rattle.ax_atoms.proofs.Found.{single_scalar}
use Rattle.ax_atoms.proofs.OneKind.{IsBoundCut, bound_cut, number, text}
use Rattle.ax_atoms.proofs.Nexts.{short_cut}
use Rattle.ax_terms.proofs.Sequences.{contains_first, contains_later}
use Rattle.ax_atoms.proofs.Split.{conjunction_yes, truth_again}
use Rattle.ax_atoms.proofs.Table.{IsOfTable, recognised_of_table}
use Rattle.ax_atoms.proofs.Values.{Alike, alike, compared_true, equal_true, ge_le, numbers, texts, value_total}

-- ---- a value that is kept whole is told by its term

-- the value of a term that keeps it whole; undefined of what is no scalar
abbrev uncut : CutValue → Value
uncut CutValue.Null = Defined tree.Null
uncut CutValue.False = Defined (tree.Truth false)
uncut CutValue.True = Defined (tree.Truth true)
uncut (CutValue.Number n) = Defined (tree.Number n)
uncut (CutValue.Text t) = Defined (tree.Text t.front)
uncut _ = Undefined

uncut_level : (t : Tree) (x : Tree-F Tree) → (nat_le 1 (kind_level x) && nat_le (kind_level x) 4) ≡ true
    → IfSome (text_level x) (λ s. length s ≤ 128) → uncut (cut_level t x) ≡ Defined (roll-Tree x)
uncut_level t Tree-F.Null h k = ap Defined (sym rolls-Null)
uncut_level t (Tree-F.Truth true) h k = ap Defined (sym (rolls-Truth true))
uncut_level t (Tree-F.Truth false) h k = ap Defined (sym (rolls-Truth false))
uncut_level t (Tree-F.Number n) h k = ap Defined (sym (rolls-Number n))
uncut_level t (Tree-F.Text s) h k = ap (λ xs. Defined (tree.Text xs)) (take_all 128 s k) ∙ ap Defined (sym (rolls-Text s))
uncut_level t (Tree-F.List items) h k = absurd (false≢true h)
uncut_level t (Tree-F.Object members) h k = absurd (false≢true h)

uncut_is : (v : Value) → is_scalar v ≡ true → IsKeptWhole v → uncut (cut_of v) ≡ v
uncut_is Undefined h k = absurd (false≢true h)
uncut_is (Defined t) h k = uncut_level t (out-Tree t) h k ∙ ap Defined (roll-out-Tree t)

abbrev is_scalar_cut : CutValue → Bool
is_scalar_cut c = nat_le 1 (rank c) && nat_le (rank c) 5

scalar_level : (t : Tree) (x : Tree-F Tree) → (nat_le 1 (kind_level x) && nat_le (kind_level x) 4) ≡ is_scalar_cut (cut_level t x)
scalar_level t Tree-F.Null = refl
scalar_level t (Tree-F.Truth true) = refl
scalar_level t (Tree-F.Truth false) = refl
scalar_level t (Tree-F.Number n) = refl
scalar_level t (Tree-F.Text s) = refl
scalar_level t (Tree-F.List items) = refl
scalar_level t (Tree-F.Object members) = refl

scalar_cut : (v : Value) → is_scalar v ≡ is_scalar_cut (cut_of v)
scalar_cut Undefined = refl
scalar_cut (Defined t) = scalar_level t (out-Tree t)

one_term : (v k : Value) → IsKeptWhole v → IsKeptWhole k → is_scalar k ≡ true → cut_of v ≡ cut_of k → v ≡ k
one_term v k kept whole scalar e =
    let own : is_scalar v ≡ true = scalar_cut v ∙ ap is_scalar_cut e ∙ sym (scalar_cut k) ∙ scalar in
    sym (uncut_is v own kept) ∙ ap uncut e ∙ uncut_is k scalar whole

-- ---- equality

scalar_defined : (k : Value) → is_scalar k ≡ true → is_defined k ≡ true
scalar_defined Undefined h = absurd (false≢true h)
scalar_defined (Defined t) h = refl

same_itself : (k : Value) → is_same_value k k ≡ true
same_itself Undefined = refl
same_itself (Defined t) = same_along t t refl

kind_itself : (k : Value) → is_scalar k ≡ true → are_of_one_kind k k ≡ true
kind_itself k h = and_from (is_defined k) (kind k == kind k) (scalar_defined k h) (eq-eqb (kind k) (kind k) refl)

some_yes : (c b : Bool) → c ≡ true → b ≡ true → is_yes_of (of_truth (cond c (Some b) None)) ≡ true
some_yes true b h k = ap is_yes (truth_again (Some b)) ∙ k
some_yes false b h k = absurd (false≢true h)

equal_itself : (k : Value) → is_scalar k ≡ true → is_yes_of (binary op.Equal k k) ≡ true
equal_itself k h = some_yes (are_of_one_kind k k) (is_same_value k k) (kind_itself k h) (same_itself k)

equal_yes : (v k : Value) → is_scalar k ≡ true → v ≡ k → is_yes_of (binary op.Equal v k) ≡ true
equal_yes v k h e = ap (λ w. is_yes_of (binary op.Equal w k)) e ∙ equal_itself k h

-- ---- order

text_kept : (s : List ℕ) → IsKeptWhole (Defined (tree.Text s)) → length s ≤ 128
unfolding tree.out-Tree denote.Hole.Carrier.out
text_kept s h = h

texts_order : (a b : List ℕ) → length a ≤ 128 → length b ≤ 128
    → order_of_texts (cut a) (cut b) ≡ order_of_bytes a b
texts_order a b h k =
    ap₂ order_of_texts (short_cut a h) (short_cut b k) ∙ then_equal (order_of_bytes a b)

numbers_cmp : (a b : ℤ) → order_of_values (CutValue.Number a) (CutValue.Number b)
    ≡ value_cmp (Defined (tree.Number a)) (Defined (tree.Number b))
unfolding tree.out-Tree denote.Hole.Carrier.out
numbers_cmp a b = sym (then_equal (int_cmp a b))

texts_cmp : (a b : List ℕ) → order_of_bytes a b ≡ value_cmp (Defined (tree.Text a)) (Defined (tree.Text b))
unfolding tree.out-Tree denote.Hole.Carrier.out
texts_cmp a b = refl

number_cut : (n : ℤ) → cut_of (Defined (tree.Number n)) ≡ CutValue.Number n
unfolding tree.out-Tree denote.Hole.Carrier.out
number_cut n = refl

-- the order of values that are kept whole is the order of their terms
order_is : (v k : Value) → Alike v k → IsKeptWhole v → IsKeptWhole k
    → order_of_values (cut_of v) (cut_of k) ≡ value_cmp v k
order_is _ _ (numbers a b) h k = ap₂ order_of_values (number_cut a) (number_cut b) ∙ numbers_cmp a b
order_is _ _ (texts a b) h k =
    ap₂ order_of_values (text_cut a) (text_cut b) ∙ texts_order a b (text_kept a h) (text_kept b k) ∙ texts_cmp a b

alike_rank : (v k : Value) → Alike v k → rank (cut_of v) ≡ rank (cut_of k)
unfolding tree.out-Tree denote.Hole.Carrier.out
alike_rank _ _ (numbers a b) = refl
alike_rank _ _ (texts a b) = refl

kind_of_rank : (t s : Tree) (x y : Tree-F Tree) → (nat_le 3 (kind_level y) && nat_le (kind_level y) 4) ≡ true
    → rank (cut_level t x) ≡ rank (cut_level s y) → (kind_level x == kind_level y) ≡ true
kind_of_rank t s (Tree-F.Number a) (Tree-F.Number b) h e = refl
kind_of_rank t s (Tree-F.Text a) (Tree-F.Text b) h e = refl
kind_of_rank t s Tree-F.Null (Tree-F.Number b) h e = absurd (false≢true (ap (λ r. r == 4) e))
kind_of_rank t s (Tree-F.Truth true) (Tree-F.Number b) h e = absurd (false≢true (ap (λ r. r == 4) e))
kind_of_rank t s (Tree-F.Truth false) (Tree-F.Number b) h e = absurd (false≢true (ap (λ r. r == 4) e))
kind_of_rank t s (Tree-F.Text a) (Tree-F.Number b) h e = absurd (false≢true (ap (λ r. r == 4) e))
kind_of_rank t s (Tree-F.List a) (Tree-F.Number b) h e = absurd (false≢true (ap (λ r. r == 4) e))
kind_of_rank t s (Tree-F.Object a) (Tree-F.Number b) h e = absurd (false≢true (ap (λ r. r == 4) e))
kind_of_rank t s Tree-F.Null (Tree-F.Text b) h e = absurd (false≢true (ap (λ r. r == 5) e))
kind_of_rank t s (Tree-F.Truth true) (Tree-F.Text b) h e = absurd (false≢true (ap (λ r. r == 5) e))
kind_of_rank t s (Tree-F.Truth false) (Tree-F.Text b) h e = absurd (false≢true (ap (λ r. r == 5) e))
kind_of_rank t s (Tree-F.Number a) (Tree-F.Text b) h e = absurd (false≢true (ap (λ r. r == 5) e))
kind_of_rank t s (Tree-F.List a) (Tree-F.Text b) h e = absurd (false≢true (ap (λ r. r == 5) e))
kind_of_rank t s (Tree-F.Object a) (Tree-F.Text b) h e = absurd (false≢true (ap (λ r. r == 5) e))
kind_of_rank t s x Tree-F.Null h e = absurd (false≢true h)
kind_of_rank t s x (Tree-F.Truth b) h e = absurd (false≢true h)
kind_of_rank t s x (Tree-F.List b) h e = absurd (false≢true h)
kind_of_rank t s x (Tree-F.Object b) h e = absurd (false≢true h)

-- undefined is of no bound's kind
no_rank : {A : Type 0} (s : Tree) (y : Tree-F Tree) → (nat_le 3 (kind_level y) && nat_le (kind_level y) 4) ≡ true
    → 0 ≡ rank (cut_level s y) → A
no_rank s (Tree-F.Number b) h e = absurd (false≢true (ap (λ r. r == 4) e))
no_rank s (Tree-F.Text b) h e = absurd (false≢true (ap (λ r. r == 5) e))
no_rank s y h e = absurd (false≢true h)

rank_alike : (v k : Value) → is_bound k ≡ true → rank (cut_of v) ≡ rank (cut_of k) → Alike v k
rank_alike v Undefined h e = absurd (false≢true h)
rank_alike Undefined (Defined s) h e =
    no_rank s (out-Tree s) (and_parts (nat_le 3 (kind (Defined s)) && nat_le (kind (Defined s)) 4) (fits (Defined s)) h).0 e
rank_alike (Defined t) (Defined s) h e =
    let bounds = (and_parts (nat_le 3 (kind (Defined s)) && nat_le (kind (Defined s)) 4) (fits (Defined s)) h).0 in
    alike (Defined t) (Defined s) (kind_of_rank t s (out-Tree t) (out-Tree s) bounds e) h

scalars : (v k : Value) → Alike v k → (are_of_one_kind v k && is_scalar v) ≡ true
unfolding tree.out-Tree denote.Hole.Carrier.out
scalars _ _ (numbers a b) = refl
scalars _ _ (texts a b) = refl

compared_yes : (test : Ordering → Bool) (v k : Value) → Alike v k → test (value_cmp v k) ≡ true
    → is_yes_of (of_truth (comparison test v k)) ≡ true
compared_yes test v k like h =
    some_yes (are_of_one_kind v k && is_scalar v) (test (value_cmp v k)) (scalars v k like) h

le_turned : (a b : Value) → is_le (value_cmp b a) ≡ true → is_ge (value_cmp a b) ≡ true
le_turned a b h = turned (value_cmp b a) (value_cmp a b) (value_total.antisymm a b) h
  where
    turned : (o r : Ordering) → r ≡ ordering_reverse o → is_le o ≡ true → is_ge r ≡ true
    turned Less r e h = ap is_ge e
    turned Equal r e h = ap is_ge e
    turned Greater r e h = absurd (false≢true h)

-- ---- between two bounds

le_numbers : (x y : ℕ) → is_le (nat_cmp x y) ≡ true → x ≤ y
le_numbers x y h = grind (arith, nat_tests)

le_ranks : (a b : CutValue) → is_le (order_of_values a b) ≡ true → rank a ≤ rank b
le_ranks (CutValue.Number a) (CutValue.Number b) h = omega arith
le_ranks (CutValue.Text a) (CutValue.Text b) h = omega arith
le_ranks (CutValue.List a) (CutValue.List b) h = omega arith
le_ranks (CutValue.Object a) (CutValue.Object b) h = omega arith
le_ranks CutValue.Undefined CutValue.Undefined h = omega arith
le_ranks CutValue.Null CutValue.Null h = omega arith
le_ranks CutValue.False CutValue.False h = omega arith
le_ranks CutValue.True CutValue.True h = omega arith
le_ranks a b h = le_numbers (rank a) (rank b) h

bounds_rank : (c d : CutValue) → IsBoundCut c → IsBoundCut d → are_alike c d ≡ true → rank c ≡ rank d
bounds_rank _ _ (number n f) (number m g) h = refl
bounds_rank _ _ (number n f) (text t) h = absurd (false≢true h)
bounds_rank _ _ (text t) (number m g) h = absurd (false≢true h)
bounds_rank _ _ (text t) (text s) h = refl

-- ---- what a condition asks for is what passes it

pub record IsPassed (atom : Atom) (q : List Step) (v : Value) : Type 0 where
  pub sound : IsWanted atom q (cut_of v) → RestsOn atom q × (passes atom v ≡ true)
  pub whole : RestsOn atom q × (passes atom v ≡ true) → IsWanted atom q (cut_of v)

module _ (path q : List Step) (v : Value) (kept : IsKeptWhole v) where
  equals_passed : (k : Value) → is_single k ≡ true → IsKeptWhole k → IsPassed (Atom.Equals path k) q v
  equals_passed k is whole =
      record {
        sound = λ h. (h.0, equal_yes v k (single_scalar k is) (one_term v k kept whole (single_scalar k is) h.1));
        whole = λ h. (h.0, ap cut_of (equal_true v k h.1));
      }

  at_most_passed : (k : Value) → is_bound k ≡ true → IsKeptWhole k → IsPassed (Atom.AtMost path k) q v
  at_most_passed k is whole =
      record {
        sound = λ h.
            let like = rank_alike v k is h.1 in
            (h.0, compared_yes is_le v k like (sym (ap is_le (order_is v k like kept whole)) ∙ h.2));
        whole = λ h.
            let c = compared_true is_le v k h.1 in let like = alike v k c.0 is in
            (h.0, alike_rank v k like, ap is_le (order_is v k like kept whole) ∙ c.2);
      }

  back_order : (k : Value) → Alike v k → IsKeptWhole k → order_of_values (cut_of k) (cut_of v) ≡ value_cmp k v
  back_order k like whole =
      values_back (cut_of v) (cut_of k) ∙ ap ordering_reverse (order_is v k like kept whole)
      ∙ sym (value_total.antisymm k v)

  at_least_passed : (k : Value) → is_bound k ≡ true → IsKeptWhole k → IsPassed (Atom.AtLeast path k) q v
  at_least_passed k is whole =
      record {
        sound = λ h.
            let like = rank_alike v k is h.1 in
            (h.0, compared_yes is_ge v k like (le_turned v k (sym (ap is_le (back_order k like whole)) ∙ h.2)));
        whole = λ h.
            let c = compared_true is_ge v k h.1 in let like = alike v k c.0 is in
            (h.0, alike_rank v k like, ap is_le (back_order k like whole) ∙ ge_le v k c.2);
      }

  within_passed : (k m : Value) → are_bounds k m ≡ true → IsKeptWhole k → IsKeptWhole m
      → IsPassed (Atom.Within path k m) q v
  within_passed k m is low high =
      let two = and_parts (is_bound k) (is_bound m) (and_parts (is_bound k && is_bound m) (kind k == kind m) is).0 in
      let same : rank (cut_of k) ≡ rank (cut_of m) =
      bounds_rank (cut_of k) (cut_of m) (bound_cut k two.0) (bound_cut m two.1)
      (two_so k m two.0 two.1 ∙ (and_parts (is_bound k && is_bound m) (kind k == kind m) is).1) in
      record {
        sound = λ h.
            let a : rank (cut_of k) ≤ rank (cut_of v) = le_ranks (cut_of k) (cut_of v) h.1 in
            let b : rank (cut_of v) ≤ rank (cut_of m) = le_ranks (cut_of v) (cut_of m) h.2 in
            let e : rank (cut_of v) ≡ rank (cut_of k) = omega (arith, a, b, same) in
            let like = rank_alike v k two.0 e in
            let too = rank_alike v m two.1 (e ∙ same) in (
              h.0,
              conjunction_yes (binary op.GreaterEqual v k) (binary op.LessEqual v m)
                  ∙ and_from (is_yes_of (binary op.GreaterEqual v k)) (is_yes_of (binary op.LessEqual v m))
                  (compared_yes is_ge v k like (le_turned v k (sym (ap is_le (back_order k like low)) ∙ h.1)))
                  (compared_yes is_le v m too (sym (ap is_le (order_is v m too kept high)) ∙ h.2)),
            );
        whole = λ h.
            let both = and_parts (is_yes_of (binary op.GreaterEqual v k)) (is_yes_of (binary op.LessEqual v m))
            (sym (conjunction_yes (binary op.GreaterEqual v k) (binary op.LessEqual v m)) ∙ h.1) in
            let a = compared_true is_ge v k both.0 in let b = compared_true is_le v m both.1 in
            let like = alike v k a.0 two.0 in let too = alike v m b.0 two.1 in
            (h.0, ap is_le (back_order k like low) ∙ ge_le v k a.2, ap is_le (order_is v m too kept high) ∙ b.2);
      }

  any_equal : (ks : List Value) → list_any is_yes_of (map (λ k. binary op.Equal v k) ks) ≡ true → IsOneOf ks (cut_of v)
  any_equal [] h = absurd (false≢true h)
  any_equal (k ∷ ks) h =
      ⊎_elim {C = IsOneOf (k ∷ ks) (cut_of v)}
      (λ (e : is_yes_of (binary op.Equal v k) ≡ true). (k, contains_first k ks, ap cut_of (equal_true v k e)))
      (λ (e : list_any is_yes_of (map (λ k. binary op.Equal v k) ks) ≡ true).
      let found = any_equal ks e in (found.0, contains_later k ks found.0 found.1, found.2))
      (or_cases (is_yes_of (binary op.Equal v k)) (list_any is_yes_of (map (λ k. binary op.Equal v k) ks)) h)

  equal_at : (ks : List Value) (k : Value) (i : ℕ) → i < length ks → get_or ks i k ≡ k → are_single ks ≡ true
      → All IsKeptWhole ks → cut_of v ≡ cut_of k
      → list_any is_yes_of (map (λ k. binary op.Equal v k) ks) ≡ true
  equal_at [] k i low at is whole e = absurd (let f : ⊥ = omega (arith, low) in f)
  equal_at (x ∷ ks) k zero low at is whole e =
      let each = and_parts (is_single x) (are_single ks) is in
      or_left (is_yes_of (binary op.Equal v x)) _
      (equal_yes v x (single_scalar x each.0)
      (one_term v x kept (All-head IsKeptWhole x ks whole) (single_scalar x each.0) (e ∙ ap cut_of (sym at))))
  equal_at (x ∷ ks) k (suc i) low at is whole e =
      let each = and_parts (is_single x) (are_single ks) is in
      or_right (is_yes_of (binary op.Equal v x)) _
      (equal_at ks k i (omega (arith, low)) at each.1 (All-tail IsKeptWhole x ks whole) e)

  one_of_passed : (ks : List Value) → are_single ks ≡ true → All IsKeptWhole ks → IsPassed (Atom.OneOf path ks) q v
  one_of_passed ks is whole =
      record {
        sound = λ h. (
          h.0,
          chain_or (map (λ k. binary op.Equal v k) ks) ∙ equal_at ks h.1.0 h.1.1.0 h.1.1.1 h.1.1.2 is whole h.1.2,
        );
        whole = λ h. (h.0, any_equal ks (sym (chain_or (map (λ k. binary op.Equal v k) ks)) ∙ h.1));
      }

-- ---- texts that begin so

text_in : (k : List ℕ) → text_of (Defined (tree.Text k)) ≡ Some k
unfolding tree.out-Tree denote.Hole.Carrier.out
text_in k = refl

begins_truth : (v : Value) (k : List ℕ)
    → is_yes_of (call func.StartsWith (v ∷ Defined (tree.Text k) ∷ []))
    ≡ is_yes (option_and_then (λ s. option_map (begins_with s) (Some k)) (text_of v))
begins_truth v k =
    ap is_yes (truth_again (on_texts begins_with v (Defined (tree.Text k))))
    ∙ ap (λ o. is_yes (option_and_then (λ s. option_map (begins_with s) o) (text_of v))) (text_in k)

-- a text that was cut to that
record CutFrom (own : Option (List ℕ)) (t : CutText) : Type 0 where
  s : List ℕ
  is : own ≡ Some s
  cut_is : cut s ≡ t

-- what is kept of a text
abbrev front_in : CutValue → CutText
front_in (CutValue.Text t) = t
front_in _ = cut []

cut_from_level : (t : CutText) (u : Tree) (x : Tree-F Tree) → cut_level u x ≡ CutValue.Text t → CutFrom (text_level x) t
cut_from_level t u (Tree-F.Text s) e = record { s = s; is = refl; cut_is = ap front_in e }
cut_from_level t u Tree-F.Null e = absurd (false≢true (ap (λ c. rank c == 5) e))
cut_from_level t u (Tree-F.Truth true) e = absurd (false≢true (ap (λ c. rank c == 5) e))
cut_from_level t u (Tree-F.Truth false) e = absurd (false≢true (ap (λ c. rank c == 5) e))
cut_from_level t u (Tree-F.Number n) e = absurd (false≢true (ap (λ c. rank c == 5) e))
cut_from_level t u (Tree-F.List items) e = absurd (false≢true (ap (λ c. rank c == 5) e))
cut_from_level t u (Tree-F.Object members) e = absurd (false≢true (ap (λ c. rank c == 5) e))

cut_from : (v : Value) (t : CutText) → cut_of v ≡ CutValue.Text t → CutFrom (text_of v) t
cut_from Undefined t e = absurd (false≢true (ap (λ c. rank c == 5) e))
cut_from (Defined u) t e = cut_from_level t u (out-Tree u) e

abbrev YesWhere : List ℕ → Option (List ℕ) → Type 0
YesWhere k own = is_yes (option_and_then (λ s. option_map (begins_with s) (Some k)) own) ≡ true

begins_yes : (s k more : List ℕ) → s ≡ k ++ more → begins_with s k ≡ true
begins_yes s k more e = (starts_is Decides-eqb s k (begins_with s k) refl).1 more e

yes_begins : (s k : List ℕ) → begins_with s k ≡ true → s ≡ k ++ drop (length k) s
yes_begins s k h = (starts_is Decides-eqb s k (begins_with s k) refl).0 h

begins_sound : (v : Value) (k : List ℕ) → IsKeptWhole v → length k ≤ 128 → BeginsWith (take 128 k) (cut_of v)
    → YesWhere k (text_of v)
begins_sound v k kept short h =
    let c = cut_from v h.0 h.1 in
    let own : length c.s ≤ 128 = subst (λ o. IfSome o (λ (s : List ℕ). length s ≤ 128)) c.is kept in
    let e : c.s ≡ k ++ h.2 =
    sym (take_all 128 c.s own) ∙ ap (λ (t : CutText). t.front) c.cut_is ∙ h.3 ∙ ap (λ xs. xs ++ h.2) (take_all 128 k short) in
    subst (YesWhere k) (sym c.is) (begins_yes c.s k h.2 e)

begins_whole : (v : Value) (k : List ℕ) (own : Option (List ℕ)) → text_of v ≡ own → IsKeptWhole v → length k ≤ 128
    → YesWhere k own → BeginsWith (take 128 k) (cut_of v)
begins_whole v k None is kept short h = absurd (false≢true h)
begins_whole v k (Some s) is kept short h =
    let own : length s ≤ 128 = subst (λ o. IfSome o (λ (x : List ℕ). length x ≤ 128)) is kept in (
      cut s,
      ap cut_of (text_is v s is) ∙ text_cut s,
      drop (length k) s,
      take_all 128 s own ∙ yes_begins s k h ∙ ap (λ xs. xs ++ drop (length k) s) (sym (take_all 128 k short)),
    )

begins_passed : (path q : List Step) (v : Value) (k : List ℕ) → IsKeptWhole v → length k ≤ 128
    → IsPassed (Atom.Begins path k) q v
begins_passed path q v k kept short =
    record {
      sound = λ h. (h.0, begins_truth v k ∙ begins_sound v k kept short h.1);
      whole = λ h. (h.0, begins_whole v k (text_of v) refl kept short (sym (begins_truth v k) ∙ h.1));
    }

exists_passed : (path q : List Step) (v : Value) → IsPassed (Atom.Exists path) q v
exists_passed path q v = record { sound = λ h. (h, refl); whole = λ h. h.0 }

-- ---- all of them

passed_where : (atom : Atom) (q : List Step) (v : Value) → IsOfTable atom → IsKeptWhole v → HasKeptWhole atom
    → IsPassed atom q v
passed_where (Atom.Equals path k) q v is kept whole = equals_passed path q v kept k is.constants whole
passed_where (Atom.AtMost path k) q v is kept whole = at_most_passed path q v kept k is.constants whole
passed_where (Atom.AtLeast path k) q v is kept whole = at_least_passed path q v kept k is.constants whole
passed_where (Atom.Within path k m) q v is kept whole = within_passed path q v kept k m is.constants whole.0 whole.1
passed_where (Atom.OneOf path ks) q v is kept whole = one_of_passed path q v kept ks is.constants whole
passed_where (Atom.Exists path) q v is kept whole = exists_passed path q v
passed_where (Atom.Begins path k) q v is kept whole = begins_passed path q v k kept whole
passed_where (Atom.Holds path k) q v is kept whole =
    let e = equals_passed (path ++ Item ∷ []) q v kept k is.constants whole in
    record { sound = λ h. e.sound h; whole = λ h. e.whole h }

pub passed : (alias : List ℕ) (x : Expr) (atom : Atom) → recognised alias x ≡ Some atom → HasKeptWhole atom
    → (q : List Step) (v : Value) → IsKeptWhole v → IsPassed atom q v
passed alias x atom h whole q v kept = passed_where atom q v (recognised_of_table alias x atom h) kept whole

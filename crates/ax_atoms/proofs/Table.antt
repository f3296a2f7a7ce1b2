-- The ranges of a recognised condition have exactly the terms that it asks for.
use Rattle.std.proofs.Common.{◌≡◌, ℕ, ◌<◌, ◌==◌, zero, suc, List, [], ◌∷◌, ◌++◌, map, take, length, get_or, true, false, ◌&&◌, Option, Some, None}
use Rattle.std.proofs.Common.{◌⊎◌, ⊎_elim, refl, sym, ap, ◌∙◌, subst, arith}
use Rattle.std.proofs.lemmas.Bool.{false≢true, and_parts, or_left, or_right, or_cases}
use Rattle.std.proofs.lemmas.Option.{same_Some, none-some}
use Rattle.std.specs.Ordering.{is_le, is_lt}
use Rattle.ax_mean.specs.declared.expr.Expr.{Expr, out-Expr}
use Rattle.ax_mean.specs.declared.expr.Expr.TheOpen.{Expr-F}
use Rattle.ax_mean.specs.declared.expr.QueryStep.{QueryStep}
use Rattle.ax_mean.specs.declared.operator.BinaryOp.{BinaryOp}
use Rattle.ax_mean.specs.declared.operator.BinaryOp.TheVariants as op
use Rattle.ax_mean.specs.declared.operator.Func.{Func}
use Rattle.ax_mean.specs.declared.operator.Func.TheVariants as func
use Rattle.ax_mean.specs.declared.query.Step.{Step}
use Rattle.ax_mean.specs.declared.query.Step.TheVariants.{Item}
use Rattle.ax_mean.specs.declared.value.Value.{Value}
use Rattle.ax_mean.specs.Values.{kind, text_of}
use Rattle.ax_term.specs.CutTexts.{CutText}
use Rattle.ax_term.specs.CutValues.{CutValue, cut_of}
use Rattle.ax_term.specs.Fitting.{IsValue}
use Rattle.ax_term.specs.Ranges.{is_in_range}
use Rattle.ax_term.specs.TermBytes.{term_bytes}
use Rattle.ax_term.specs.TermOrder.{order_of_bytes, order_of_values}
use Rattle.ax_term.specs.Terms.{Term}
use Rattle.ax_term.specs.declared.range.TermRange.{TermRange}
use Rattle.ax_atoms.specs.Atoms.{Atom}
use Rattle.ax_atoms.specs.Recognised as spec
use Rattle.ax_atoms.specs.Recognised.{answered, are_bounds, are_single, constant, is_answered, is_bound, is_single, property_path, recognised}
use Rattle.ax_atoms.specs.Recognised.{recognised_level, step_of, turned, with_path}
use Rattle.ax_atoms.specs.Spans.{before, behind_texts, is_in_some, least_of_kind, next_bytes, next_kind, next_path, only, ranges_of, up_to}
use Rattle.ax_atoms.specs.Wanted.{IsOneOf, IsWanted}
use Rattle.ax_atoms.proofs.Between.{IsFit, all_behind, front_least, in_below, plain_order, texts_behind}
use Rattle.ax_atoms.proofs.Constants.{path_means}
use Rattle.ax_atoms.proofs.Exact.{alone_is, from_before, from_up_to, itself, to_before, to_up_to}
use Rattle.ax_atoms.proofs.Found.{no_atom, one_range, where_is_so}
use Rattle.ax_atoms.proofs.Fronts.{paths_begin, texts_begin}
use Rattle.ax_atoms.proofs.OneKind.{IsBoundCut, before_next, bound_cut, bound_fit, from_least, kind_before_next, kind_up_to, least_fit, next_fit, single_fit}
use Rattle.ax_atoms.proofs.Passes.{plain_only, side_cases}
use Rattle.ax_terms.proofs.Sequences.{contains_first, contains_later}

abbrev bytes_of : List Step → CutValue → List ℕ
bytes_of path value = term_bytes (Term.Plain path value)

-- a term is in the ranges exactly where the condition asks for it
pub record IsExact (atom : Atom) (path : List Step) (value : CutValue) : Type 0 where
  pub sound : is_in_some (ranges_of atom) (bytes_of path value) ≡ true → IsWanted atom path value
  pub whole : IsWanted atom path value → is_in_some (ranges_of atom) (bytes_of path value) ≡ true

value_fits : (v : CutValue) → IsValue v → IsFit v
value_fits CutValue.Undefined h = tt
value_fits CutValue.Null h = tt
value_fits CutValue.False h = tt
value_fits CutValue.True h = tt
value_fits (CutValue.Number n) h = h
value_fits (CutValue.Text t) h = tt
value_fits (CutValue.List t) h = tt
value_fits (CutValue.Object t) h = tt

-- what is in one range alone is in it
in_one : (range : TermRange) (bytes : List ℕ) → is_in_some (range ∷ []) bytes ≡ true
    → is_in_range range bytes ≡ true
in_one range bytes h =
    ⊎_elim {C = is_in_range range bytes ≡ true} (λ (e : is_in_range range bytes ≡ true). e)
    (λ (e : false ≡ true). absurd (false≢true e)) (or_cases (is_in_range range bytes) false h)

module _ (path q : List Step) (v : CutValue) (value : IsValue v) where
  fit : IsFit v
  fit = value_fits v value

  -- the term of a constant alone
  is_only : (k : Value) → is_single k ≡ true → is_in_range (only path k) (bytes_of q v) ≡ true
      → (q ≡ path) × (v ≡ cut_of k)
  is_only k is h =
      let b = from_up_to path q (cut_of k) (cut_of k) v (single_fit k is) (single_fit k is) fit h in
      (b.path, alone_is (cut_of k) v b.low b.high)

  only_is : (k : Value) → is_single k ≡ true → (q ≡ path) × (v ≡ cut_of k)
      → is_in_range (only path k) (bytes_of q v) ≡ true
  only_is k is h =
      to_up_to path q (cut_of k) (cut_of k) v (single_fit k is) (single_fit k is) fit
      (record {
        path = h.0;
        low = ap (λ w. is_le (order_of_values (cut_of k) w)) h.1 ∙ itself (cut_of k);
        high = ap (λ w. is_le (order_of_values w (cut_of k))) h.1 ∙ itself (cut_of k);
      })

  pub equals_exact : (k : Value) → is_single k ≡ true → IsExact (Atom.Equals path k) q v
  equals_exact k is =
      record {
        sound = λ h. is_only k is (in_one (only path k) (bytes_of q v) h);
        whole = λ h. one_range (only path k) (bytes_of q v) (only_is k is h);
      }

  pub at_most_exact : (k : Value) → is_bound k ≡ true → IsExact (Atom.AtMost path k) q v
  at_most_exact k is =
      let c : CutValue = cut_of k in
      let own : IsBoundCut c = bound_cut k is in
      let range : TermRange = up_to (Term.Plain path (least_of_kind c)) (Term.Plain path c) in
      record {
        sound = λ h.
            let b = from_up_to path q (least_of_kind c) c v (least_fit c own) (bound_fit c own) fit (in_one range (bytes_of q v) h) in
            (b.path, kind_up_to c v own b.low b.high, b.high);
        whole = λ h.
            one_range range (bytes_of q v)
            (to_up_to path q (least_of_kind c) c v (least_fit c own) (bound_fit c own) fit
            (record { path = h.0; low = from_least c v own fit h.1; high = h.2 }));
      }

  pub at_least_exact : (k : Value) → is_bound k ≡ true → IsExact (Atom.AtLeast path k) q v
  at_least_exact k is =
      let c : CutValue = cut_of k in
      let own : IsBoundCut c = bound_cut k is in
      let range : TermRange = before (Term.Plain path c) (Term.Plain path (next_kind c)) in
      record {
        sound = λ h.
            let b = from_before path q c (next_kind c) v (bound_fit c own) (next_fit c own) fit (in_one range (bytes_of q v) h) in
            (b.path, kind_before_next c v own b.low b.high, b.low);
        whole = λ h.
            one_range range (bytes_of q v)
            (to_before path q c (next_kind c) v (bound_fit c own) (next_fit c own) fit
            (record { path = h.0; low = h.2; high = before_next c v own h.1 }));
      }

  pub within_exact : (k m : Value) → are_bounds k m ≡ true → IsExact (Atom.Within path k m) q v
  within_exact k m is =
      let two = and_parts (is_bound k) (is_bound m) (and_parts (is_bound k && is_bound m) (kind k == kind m) is).0 in
      let low : IsFit (cut_of k) = bound_fit (cut_of k) (bound_cut k two.0) in
      let high : IsFit (cut_of m) = bound_fit (cut_of m) (bound_cut m two.1) in
      let range : TermRange = up_to (Term.Plain path (cut_of k)) (Term.Plain path (cut_of m)) in
      record {
        sound = λ h.
            let b = from_up_to path q (cut_of k) (cut_of m) v low high fit (in_one range (bytes_of q v) h) in
            (b.path, b.low, b.high);
        whole = λ h.
            one_range range (bytes_of q v)
            (to_up_to path q (cut_of k) (cut_of m) v low high fit (record { path = h.0; low = h.1; high = h.2 }));
      }

  is_one_of : (ks : List Value) → are_single ks ≡ true
      → is_in_some (map (only path) ks) (bytes_of q v) ≡ true → (q ≡ path) × IsOneOf ks v
  is_one_of [] is h = absurd (false≢true h)
  is_one_of (k ∷ ks) is h =
      let each = and_parts (is_single k) (are_single ks) is in
      ⊎_elim {C = (q ≡ path) × IsOneOf (k ∷ ks) v}
      (λ (e : is_in_range (only path k) (bytes_of q v) ≡ true).
      let found = is_only k each.0 e in (found.0, (k, contains_first k ks, found.1)))
      (λ (e : is_in_some (map (only path) ks) (bytes_of q v) ≡ true).
      let found = is_one_of ks each.1 e in
      (found.0, (found.1.0, contains_later k ks found.1.0 found.1.1, found.1.2)))
      (or_cases (is_in_range (only path k) (bytes_of q v)) (is_in_some (map (only path) ks) (bytes_of q v)) h)

  one_at : (ks : List Value) (k : Value) (i : ℕ) → i < length ks → get_or ks i k ≡ k → are_single ks ≡ true
      → (q ≡ path) × (v ≡ cut_of k) → is_in_some (map (only path) ks) (bytes_of q v) ≡ true
  one_at [] k i low at is h = absurd (let e : ⊥ = omega (arith, low) in e)
  one_at (x ∷ ks) k zero low at is h =
      let each = and_parts (is_single x) (are_single ks) is in
      or_left (is_in_range (only path x) (bytes_of q v)) (is_in_some (map (only path) ks) (bytes_of q v))
      (only_is x each.0 (h.0, h.1 ∙ ap cut_of (sym at)))
  one_at (x ∷ ks) k (suc i) low at is h =
      let each = and_parts (is_single x) (are_single ks) is in
      or_right (is_in_range (only path x) (bytes_of q v)) (is_in_some (map (only path) ks) (bytes_of q v))
      (one_at ks k i (omega (arith, low)) at each.1 h)

  pub one_of_exact : (ks : List Value) → are_single ks ≡ true → IsExact (Atom.OneOf path ks) q v
  one_of_exact ks is =
      record {
        sound = is_one_of ks is;
        whole = λ h. one_at ks h.1.0 h.1.1.0 h.1.1.1 h.1.1.2 is (h.0, h.1.2);
      }

  texts_fit : (next : List ℕ) → IsFit (behind_texts next)
  texts_fit [] = tt
  texts_fit (n ∷ next) = tt

  pub begins_exact : (k : List ℕ) → IsExact (Atom.Begins path k) q v
  begins_exact k =
      let front : List ℕ = take 128 k in
      let low : CutValue = CutValue.Text (record { front = front; is_cut = false }) in
      let high : CutValue = behind_texts (next_bytes front) in
      let range : TermRange = before (Term.Plain path low) (Term.Plain path high) in
      record {
        sound = λ h.
            let b = from_before path q low high v tt (texts_fit (next_bytes front)) fit (in_one range (bytes_of q v) h) in
            (b.path, texts_begin front v value b.low b.high);
        whole = λ h.
            let t : CutText = h.1.0 in
            let more : List ℕ = h.1.2 in
            let is : v ≡ CutValue.Text (record { front = front ++ more; is_cut = t.is_cut }) =
            h.1.1 ∙ ap (λ xs. CutValue.Text (record { front = xs; is_cut = t.is_cut })) h.1.3 in
            one_range range (bytes_of q v)
            (to_before path q low high v tt (texts_fit (next_bytes front)) fit
            (record {
              path = h.0;
              low = ap (λ w. is_le (order_of_values low w)) is ∙ front_least front more t.is_cut;
              high = ap (λ w. is_lt (order_of_values w high)) is
                  ∙ texts_behind (front ++ more) (next_bytes front) t.is_cut (all_behind front more);
            }));
      }

below_range : Step → List Step → TermRange
below_range s p =
    before (Term.Plain (s ∷ p) CutValue.Undefined) (Term.Plain (next_path (s ∷ p)) CutValue.Undefined)

pub exists_exact : (s : Step) (p q : List Step) (v : CutValue) → IsValue v → IsExact (Atom.Exists (s ∷ p)) q v
exists_exact s p q v value =
    let fit : IsFit v = value_fits v value in
    let first : List ℕ = bytes_of (s ∷ p) CutValue.Undefined in
    let next : List ℕ = bytes_of (next_path (s ∷ p)) CutValue.Undefined in
    let range : TermRange = record { from = first; below = next } in
    record {
      sound = λ h.
          let parts = and_parts (is_le (order_of_bytes first (bytes_of q v))) (is_lt (order_of_bytes (bytes_of q v) next))
          (in_one range (bytes_of q v) h) in
          paths_begin s p q v
          (ap is_le (sym (plain_order (s ∷ p) q CutValue.Undefined v tt fit)) ∙ parts.0)
          (ap is_lt (sym (plain_order q (next_path (s ∷ p)) v CutValue.Undefined fit tt)) ∙ parts.1);
      whole = λ h.
          one_range range (bytes_of q v)
          (subst (λ r. is_in_range range (bytes_of r v) ≡ true) (sym h.1) (in_below s p h.0 v fit));
    }

pub holds_exact : (path q : List Step) (v : CutValue) (k : Value) → IsValue v → is_single k ≡ true
    → IsExact (Atom.Holds path k) q v
holds_exact path q v k value is =
    let e = equals_exact (path ++ Item ∷ []) q v value k is in record { sound = e.sound; whole = e.whole }

-- ---- recognised conditions are such as the table has

abbrev IsSome : List Step → Type 0
IsSome path = (s : Step) × (rest : List Step) × (path ≡ s ∷ rest)

-- what is asked to be there has a path of at least one step
abbrev IsLong : Atom → Type 0
IsLong (Atom.Exists path) = IsSome path
IsLong _ = Unit {0}

pub record IsOfTable (atom : Atom) : Type 0 where
  pub constants : is_answered atom ≡ true
  pub long : IsLong atom

taken : (own atom : Atom) → answered own ≡ Some atom → IsLong own → IsOfTable atom
taken own atom h long =
    let p = where_is_so (is_answered own) own atom h in
    subst IsOfTable p.1 (record { constants = p.0; long = long })

some_steps : (steps : List QueryStep) (path : List Step) → spec.path_of steps ≡ Some path → IsSome path
some_steps [] path h = absurd (none-some path h)
some_steps (step ∷ steps) path h =
    (step_of step, map step_of steps, sym (same_Some (map step_of (step ∷ steps)) path h))

path_is_some : (alias : List ℕ) (x : Expr) (path : List Step) → property_path alias x ≡ Some path → IsSome path
path_is_some alias x path h = let p = path_means [] alias x path h in some_steps p.steps path p.some

on_path : (alias : List ℕ) (x : Expr) (f : List Step → Option Atom) (atom : Atom)
    → ((path : List Step) → IsSome path → f path ≡ Some atom → IsOfTable atom)
    → with_path f (property_path alias x) ≡ Some atom → IsOfTable atom
on_path alias x f atom next h = by_path (property_path alias x) refl h
  where
    by_path : (path : Option (List Step)) → property_path alias x ≡ path → with_path f path ≡ Some atom
        → IsOfTable atom
    by_path None is h = no_atom atom h
    by_path (Some path) is h = next path (path_is_some alias x path is) h

compared_taken : (operator : BinaryOp) (path : List Step) (k : Value) (atom : Atom)
    → spec.compared_with operator path k ≡ Some atom → IsOfTable atom
compared_taken op.Equal path k atom h = taken (Atom.Equals path k) atom h tt
compared_taken op.Less path k atom h = taken (Atom.AtMost path k) atom h tt
compared_taken op.LessEqual path k atom h = taken (Atom.AtMost path k) atom h tt
compared_taken op.Greater path k atom h = taken (Atom.AtLeast path k) atom h tt
compared_taken op.GreaterEqual path k atom h = taken (Atom.AtLeast path k) atom h tt
compared_taken _ path k atom h = no_atom atom h

beginning_taken : (path : List Step) (text : Option (List ℕ)) (atom : Atom)
    → spec.beginning path text ≡ Some atom → IsOfTable atom
beginning_taken path None atom h = no_atom atom h
beginning_taken path (Some text) atom h = taken (Atom.Begins path text) atom h tt

called_taken : (alias : List ℕ) (function : Func) (args : List Expr) (atom : Atom)
    → spec.called alias function args ≡ Some atom → IsOfTable atom
called_taken alias func.IsDefined (a ∷ []) atom h =
    on_path alias a _ atom (λ path some s. taken (Atom.Exists path) atom s some) h
called_taken alias func.IsDefined [] atom h = no_atom atom h
called_taken alias func.IsDefined (a ∷ b ∷ args) atom h = no_atom atom h
called_taken alias func.StartsWith (a ∷ b ∷ []) atom h =
    on_path alias a _ atom (λ path some s. beginning_taken path (text_of (constant b)) atom s) h
called_taken alias func.StartsWith [] atom h = no_atom atom h
called_taken alias func.StartsWith (a ∷ []) atom h = no_atom atom h
called_taken alias func.StartsWith (a ∷ b ∷ c ∷ args) atom h = no_atom atom h
called_taken alias func.ArrayContains (a ∷ b ∷ []) atom h =
    on_path alias a _ atom (λ path some s. taken (Atom.Holds path (constant b)) atom s tt) h
called_taken alias func.ArrayContains [] atom h = no_atom atom h
called_taken alias func.ArrayContains (a ∷ []) atom h = no_atom atom h
called_taken alias func.ArrayContains (a ∷ b ∷ c ∷ args) atom h = no_atom atom h
called_taken alias _ args atom h = no_atom atom h

level_taken : (alias : List ℕ) (z : Expr-F Expr) (atom : Atom) → recognised_level alias z ≡ Some atom → IsOfTable atom
level_taken alias (Expr-F.Compare operator a b) atom h =
    ⊎_elim {C = IsOfTable atom}
    (on_path alias a (λ path. spec.compared_with operator path (constant b)) atom
    (λ path some s. compared_taken operator path (constant b) atom s))
    (on_path alias b (λ path. spec.compared_with (turned operator) path (constant a)) atom
    (λ path some s. compared_taken (turned operator) path (constant a) atom s))
    (side_cases (λ path. spec.compared_with operator path (constant b)) (property_path alias a) _ atom h)
level_taken alias (Expr-F.Among negated left items) atom h =
    on_path alias left _ atom (λ path some s. taken (Atom.OneOf path (map constant items)) atom s tt)
    (plain_only negated (spec.among alias left items) atom h).1
level_taken alias (Expr-F.Between negated left low high) atom h =
    on_path alias left _ atom (λ path some s. taken (Atom.Within path (constant low) (constant high)) atom s tt)
    (plain_only negated (spec.between alias left low high) atom h).1
level_taken alias (Expr-F.Call function args) atom h = called_taken alias function args atom h
level_taken alias _ atom h = no_atom atom h

-- ---- all of them

exists_at : (path q : List Step) (v : CutValue) → IsValue v → IsSome path → IsExact (Atom.Exists path) q v
exists_at path q v value some =
    subst (λ p. IsExact (Atom.Exists p) q v) (sym some.2) (exists_exact some.0 some.1 q v value)

exact_where : (atom : Atom) (q : List Step) (v : CutValue) → IsValue v → IsOfTable atom → IsExact atom q v
exact_where (Atom.Equals path k) q v value is = equals_exact path q v value k is.constants
exact_where (Atom.AtMost path k) q v value is = at_most_exact path q v value k is.constants
exact_where (Atom.AtLeast path k) q v value is = at_least_exact path q v value k is.constants
exact_where (Atom.Within path k m) q v value is = within_exact path q v value k m is.constants
exact_where (Atom.OneOf path ks) q v value is = one_of_exact path q v value ks is.constants
exact_where (Atom.Exists path) q v value is = exists_at path q v value is.long
exact_where (Atom.Begins path k) q v value is = begins_exact path q v value k
exact_where (Atom.Holds path k) q v value is = holds_exact path q v k value is.constants

pub recognised_of_table : (alias : List ℕ) (x : Expr) (atom : Atom) → recognised alias x ≡ Some atom → IsOfTable atom
recognised_of_table alias x atom h = level_taken alias (out-Expr x) atom h

pub exact : (alias : List ℕ) (x : Expr) (atom : Atom) → recognised alias x ≡ Some atom
    → (q : List Step) (v : CutValue) → IsValue v → IsExact atom q v
exact alias x atom h q v value = exact_where atom q v value (recognised_of_table alias x atom h)

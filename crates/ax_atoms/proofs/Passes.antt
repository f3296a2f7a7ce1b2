-- A document of which a recognised condition is true has a leaf that the condition rests on, with a
-- term in its ranges.
use Rattle.std.proofs.Common.{◌≡◌, ℕ, List, [], ◌∷◌, map, Bool, true, false, ◌&&◌, Option, Some, None, option_map, option_and_then, ◌⊎◌, inl, inr}
use Rattle.std.proofs.Common.{⊎_elim, refl, sym, ap, ap₂, ◌∙◌, subst}
use Rattle.std.proofs.lemmas.Bool.{false≢true, and_parts}
use Rattle.std.proofs.lemmas.Option.{same_Some, none-some}
use Rattle.ax_tree.specs.declared.tree.Tree.{Tree}
use Rattle.ax_mean.specs.declared.expr.Expr.{Expr, out-Expr}
use Rattle.ax_mean.specs.declared.expr.Expr.TheOpen.{Expr-F}
use Rattle.ax_mean.specs.declared.expr.Expr.TheFolds.{map-Expr}
use Rattle.ax_mean.specs.declared.expr.QueryStep.{QueryStep}
use Rattle.ax_mean.specs.declared.operator.BinaryOp.{BinaryOp}
use Rattle.ax_mean.specs.declared.operator.BinaryOp.TheVariants as op
use Rattle.ax_mean.specs.declared.operator.Func.{Func}
use Rattle.ax_mean.specs.declared.operator.Func.TheVariants as func
use Rattle.ax_mean.specs.declared.query.Step.{Step}
use Rattle.ax_mean.specs.declared.value.Value.{Value}
use Rattle.ax_mean.specs.declared.value.Value.TheVariants.{Undefined, Defined}
use Rattle.ax_mean.specs.Comparison.{is_scalar}
use Rattle.ax_mean.specs.Functions.{call}
use Rattle.ax_mean.specs.ListFunctions.{contains_item, has_item}
use Rattle.ax_mean.specs.Meaning as means
use Rattle.ax_mean.specs.Meaning.{Env, bound, is_yes, meaning, meaning_level, negated_where}
use Rattle.ax_mean.specs.Operators.{binary}
use Rattle.ax_mean.specs.Steps.{steps_from}
use Rattle.ax_mean.specs.TextFunctions.{begins_with, on_texts}
use Rattle.ax_mean.specs.Values.{is_defined, list_of, of_truth, text_of}
use Rattle.ax_atoms.specs.Atoms.{Atom}
use Rattle.ax_atoms.specs.Passing.{is_true}
use Rattle.ax_atoms.specs.Recognised as spec
use Rattle.ax_atoms.specs.Recognised.{are_bounds, are_single, constant, on_side, is_bound, is_single, property_path, recognised, recognised_level}
use Rattle.ax_atoms.specs.Recognised.{compared_with, step_of, turned, where_so, unless_negated, with_path}
use Rattle.ax_atoms.proofs.Asked.{begins_found, exists_found, holds_found, list_is, one_of_found, text_is, within_found}
use Rattle.ax_atoms.proofs.Constants.{IsPathOf, constant_means, meaning-out, path_means}
use Rattle.ax_atoms.proofs.Found.{Found, compared_with_found, no_atom, single_scalar, turned_found, where_is_so, yes_of}
use Rattle.ax_atoms.proofs.Split.{truth_again}

pub side_cases : (f : List Step → Option Atom) (path : Option (List Step)) (other : Option Atom) (atom : Atom)
    → on_side f path other ≡ Some atom → (with_path f path ≡ Some atom) ⊎ (other ≡ Some atom)
side_cases f (Some path) other atom h = inl h
side_cases f None other atom h = inr h

pub plain_only : (negated : Bool) (own : Option Atom) (atom : Atom) → unless_negated negated own ≡ Some atom
    → (negated ≡ false) × (own ≡ Some atom)
plain_only true own atom h = no_atom atom h
plain_only false own atom h = (refl, h)

single_defined : (k : Value) → is_single k ≡ true → is_defined k ≡ true
single_defined Undefined h = absurd (false≢true h)
single_defined (Defined t) h = refl

bound_defined : (k : Value) → is_bound k ≡ true → is_defined k ≡ true
bound_defined Undefined h = absurd (false≢true h)
bound_defined (Defined t) h = refl

text_defined : (k : Value) (text : List ℕ) → text_of k ≡ Some text → is_defined k ≡ true
text_defined Undefined text h = absurd (none-some text h)
text_defined (Defined t) text h = refl

defined_where : (b : Bool) (own atom : Atom) (k : Value) → where_so b own ≡ Some atom
    → (b ≡ true → is_defined k ≡ true) → is_defined k ≡ true
defined_where b own atom k h f = f (where_is_so b own atom h).0

compared_with_defined : (operator : BinaryOp) (path : List Step) (k : Value) (atom : Atom)
    → compared_with operator path k ≡ Some atom → is_defined k ≡ true
compared_with_defined op.Equal path k atom h = defined_where (is_single k) (Atom.Equals path k) atom k h (single_defined k)
compared_with_defined op.Less path k atom h = defined_where (is_bound k) (Atom.AtMost path k) atom k h (bound_defined k)
compared_with_defined op.LessEqual path k atom h = defined_where (is_bound k) (Atom.AtMost path k) atom k h (bound_defined k)
compared_with_defined op.Greater path k atom h = defined_where (is_bound k) (Atom.AtLeast path k) atom k h (bound_defined k)
compared_with_defined op.GreaterEqual path k atom h = defined_where (is_bound k) (Atom.AtLeast path k) atom k h (bound_defined k)
compared_with_defined _ path k atom h = no_atom atom h

-- what is true of a constant list
singles_mean : (env : Env) (xs : List Expr) → are_single (map constant xs) ≡ true
    → map (meaning env) xs ≡ map constant xs
singles_mean env [] h = refl
singles_mean env (x ∷ xs) h =
    let p = and_parts (is_single (constant x)) (are_single (map constant xs)) h in
    ap₂ (λ v vs. v ∷ vs) (constant_means env x (single_defined (constant x) p.0)) (singles_mean env xs p.1)

module _ (env : Env) (alias : List ℕ) (given : Tree) (bound_is : bound env alias ≡ Defined given) (atom : Atom) where
  -- what follows for the part at some steps follows for the path
  by_path : (x : Expr) (f : List Step → Option Atom)
      → ((steps : List QueryStep) → spec.path_of steps ≡ Some (map step_of steps)
      → steps_from (Defined given) steps ≡ meaning env x → f (map step_of steps) ≡ Some atom → Found given atom)
      → with_path f (property_path alias x) ≡ Some atom → Found given atom
  by_path x f next h = on_path (property_path alias x) refl h
    where
      at_path : (path : List Step) → property_path alias x ≡ Some path → f path ≡ Some atom
          → IsPathOf env alias (meaning env x) path → Found given atom
      at_path path is h pm =
          next pm.steps (pm.some ∙ ap Some pm.path_is)
          (ap (λ v. steps_from v pm.steps) (sym bound_is) ∙ sym pm.value)
          (ap f (sym pm.path_is) ∙ h)

      on_path : (path : Option (List Step)) → property_path alias x ≡ path
          → with_path f path ≡ Some atom → Found given atom
      on_path None is h = no_atom atom h
      on_path (Some path) is h = at_path path is h (path_means env alias x path is)

  compared_found : (operator : BinaryOp) (a b : Expr) → spec.compared alias operator a b ≡ Some atom
      → yes_of (binary operator (meaning env a) (meaning env b)) ≡ true → Found given atom
  compared_found operator a b h t =
      ⊎_elim {C = Found given atom}
      (by_path a (λ path. compared_with operator path (constant b)) (λ steps some is s.
      compared_with_found given steps (meaning env a) (constant b) is atom operator s
      (ap (λ k. yes_of (binary operator (meaning env a) k))
      (sym (constant_means env b (compared_with_defined operator (map step_of steps) (constant b) atom s))) ∙ t)))
      (by_path b (λ path. compared_with (turned operator) path (constant a)) (λ steps some is s.
      turned_found given steps (meaning env b) (constant a) is atom operator s
      (ap (λ k. yes_of (binary operator k (meaning env b)))
      (sym (constant_means env a (compared_with_defined (turned operator) (map step_of steps) (constant a) atom s))) ∙ t)))
      (side_cases (λ path. compared_with operator path (constant b)) (property_path alias a) _ atom h)

  among_found : (left : Expr) (items : List Expr) → spec.among alias left items ≡ Some atom
      → yes_of (means.among (meaning env left) (map (meaning env) items)) ≡ true → Found given atom
  among_found left items h t =
      by_path left _ (λ steps some is s.
      let p = where_is_so (are_single (map constant items)) (Atom.OneOf (map step_of steps) (map constant items)) atom s in
      subst (Found given) p.1
      (one_of_found given steps (meaning env left) (map constant items) is
      (ap (λ ks. yes_of (means.among (meaning env left) ks)) (sym (singles_mean env items p.0)) ∙ t) p.0)) h

  between_found : (left low high : Expr) → spec.between alias left low high ≡ Some atom
      → yes_of (means.between (meaning env left) (meaning env low) (meaning env high)) ≡ true → Found given atom
  between_found left low high h t =
      by_path left _ (λ steps some is s.
      let p = where_is_so (are_bounds (constant low) (constant high)) (Atom.Within (map step_of steps) (constant low) (constant high)) atom s in
      let two = and_parts (is_bound (constant low)) (is_bound (constant high)) (and_parts (is_bound (constant low) && is_bound (constant high)) _ p.0).0 in
      subst (Found given) p.1
      (within_found given steps (meaning env left) (constant low) (constant high) is
      (ap₂ (λ k m. yes_of (means.between (meaning env left) k m))
      (sym (constant_means env low (bound_defined (constant low) two.0)))
      (sym (constant_means env high (bound_defined (constant high) two.1))) ∙ t) p.0)) h

  exists_at : (steps : List QueryStep) (x : Expr) → spec.path_of steps ≡ Some (map step_of steps)
      → steps_from (Defined given) steps ≡ meaning env x → yes_of (call func.IsDefined (meaning env x ∷ [])) ≡ true
      → Some (Atom.Exists (map step_of steps)) ≡ Some atom → Found given atom
  exists_at [] x some is t h = absurd (none-some [] some)
  exists_at (step ∷ steps) x some is t h =
      subst (Found given) (same_Some (Atom.Exists (map step_of (step ∷ steps))) atom h)
      (exists_found given step steps (meaning env x) is t)

  defined_found : (args : List Expr) → spec.defined_in alias args ≡ Some atom
      → yes_of (call func.IsDefined (map (meaning env) args)) ≡ true → Found given atom
  defined_found [] h t = no_atom atom h
  defined_found (a ∷ []) h t = by_path a _ (λ steps some is s. exists_at steps a some is t s) h
  defined_found (a ∷ b ∷ args) h t = no_atom atom h

  -- a text that begins with another
  begins_texts : (steps : List QueryStep) (v k : Value) (text : List ℕ) (own : Option (List ℕ))
      → text_of k ≡ Some text → text_of v ≡ own → steps_from (Defined given) steps ≡ v
      → is_yes (option_and_then (λ s. option_map (begins_with s) (text_of k)) own) ≡ true
      → Found given (Atom.Begins (map step_of steps) text)
  begins_texts steps v k text None is own at t = absurd (false≢true t)
  begins_texts steps v k text (Some s) is own at t =
      begins_found given steps s text (at ∙ text_is v s own)
      (ap (λ o. is_yes (option_map (begins_with s) o)) (sym is) ∙ t)

  begins_at : (steps : List QueryStep) (v k : Value) (text : Option (List ℕ)) → text_of k ≡ text
      → steps_from (Defined given) steps ≡ v → yes_of (of_truth (on_texts begins_with v k)) ≡ true
      → spec.beginning (map step_of steps) text ≡ Some atom → Found given atom
  begins_at steps v k None is at t h = no_atom atom h
  begins_at steps v k (Some text) is at t h =
      subst (Found given) (same_Some (Atom.Begins (map step_of steps) text) atom h)
      (begins_texts steps v k text (text_of v) is refl at
      (sym (ap is_yes (truth_again (on_texts begins_with v k))) ∙ t))

  beginning_defined : (path : List Step) (k : Value) (text : Option (List ℕ)) → text_of k ≡ text
      → spec.beginning path text ≡ Some atom → is_defined k ≡ true
  beginning_defined path k None is h = no_atom atom h
  beginning_defined path k (Some text) is h = text_defined k text is

  starts_found : (args : List Expr) → spec.begins_in alias args ≡ Some atom
      → yes_of (call func.StartsWith (map (meaning env) args)) ≡ true → Found given atom
  starts_found [] h t = no_atom atom h
  starts_found (a ∷ []) h t = no_atom atom h
  starts_found (a ∷ b ∷ []) h t =
      by_path a _ (λ steps some is s.
      begins_at steps (meaning env a) (constant b) (text_of (constant b)) refl is
      (ap (λ k. yes_of (of_truth (on_texts begins_with (meaning env a) k)))
      (sym (constant_means env b (beginning_defined (map step_of steps) (constant b) (text_of (constant b)) refl s))) ∙ t)
      s) h
  starts_found (a ∷ b ∷ c ∷ args) h t = no_atom atom h

  -- a list that has an element
  holds_items : (steps : List QueryStep) (v : Value) (k : Tree) (items : Option (List Tree))
      → is_scalar (Defined k) ≡ true → list_of v ≡ items → steps_from (Defined given) steps ≡ v
      → is_yes (option_map (λ items. has_item items k) items) ≡ true
      → Found given (Atom.Holds (map step_of steps) (Defined k))
  holds_items steps v k None scalar own at t = absurd (false≢true t)
  holds_items steps Undefined k (Some items) scalar own at t = absurd (none-some items own)
  holds_items steps (Defined u) k (Some items) scalar own at t =
      holds_found given steps items k (at ∙ ap Defined (list_is u items own)) t scalar

  holds_at : (steps : List QueryStep) (v k : Value) → is_single k ≡ true
      → steps_from (Defined given) steps ≡ v → yes_of (of_truth (contains_item v k)) ≡ true
      → Found given (Atom.Holds (map step_of steps) k)
  holds_at steps v Undefined key at t = absurd (false≢true key)
  holds_at steps v (Defined k) key at t =
      holds_items steps v k (list_of v) (single_scalar (Defined k) key) refl at (sym (ap is_yes (truth_again (contains_item v (Defined k)))) ∙ t)

  contains_found : (args : List Expr) → spec.holds_in alias args ≡ Some atom
      → yes_of (call func.ArrayContains (map (meaning env) args)) ≡ true → Found given atom
  contains_found [] h t = no_atom atom h
  contains_found (a ∷ []) h t = no_atom atom h
  contains_found (a ∷ b ∷ []) h t =
      by_path a _ (λ steps some is s.
      let p = where_is_so (is_single (constant b)) (Atom.Holds (map step_of steps) (constant b)) atom s in
      subst (Found given) p.1
      (holds_at steps (meaning env a) (constant b) p.0 is
      (ap (λ k. yes_of (of_truth (contains_item (meaning env a) k)))
      (sym (constant_means env b (single_defined (constant b) p.0))) ∙ t))) h
  contains_found (a ∷ b ∷ c ∷ args) h t = no_atom atom h

  called_found : (function : Func) (args : List Expr) → spec.called alias function args ≡ Some atom
      → yes_of (call function (map (meaning env) args)) ≡ true → Found given atom
  called_found func.IsDefined args h t = defined_found args h t
  called_found func.StartsWith args h t = starts_found args h t
  called_found func.ArrayContains args h t = contains_found args h t
  called_found _ args h t = no_atom atom h

  plain_meaning : (negated : Bool) (v : Value) → negated ≡ false → yes_of (negated_where negated v) ≡ true
      → yes_of v ≡ true
  plain_meaning true v e t = absurd (let f : ⊥ = cc in f)
  plain_meaning false v e t = t

  level_found : (z : Expr-F Expr) → recognised_level alias z ≡ Some atom
      → yes_of (meaning_level env (map-Expr Expr Value (meaning env) z)) ≡ true → Found given atom
  level_found (Expr-F.Compare operator a b) h t = compared_found operator a b h t
  level_found (Expr-F.Among negated left items) h t =
      let p = plain_only negated (spec.among alias left items) atom h in
      among_found left items p.1 (plain_meaning negated _ p.0 t)
  level_found (Expr-F.Between negated left low high) h t =
      let p = plain_only negated (spec.between alias left low high) atom h in
      between_found left low high p.1 (plain_meaning negated _ p.0 t)
  level_found (Expr-F.Call function args) h t = called_found function args h t
  level_found _ h t = no_atom atom h

  pub recognised_found : (x : Expr) → recognised alias x ≡ Some atom → is_true env x ≡ true → Found given atom
  recognised_found x h t = level_found (out-Expr x) h (sym (ap yes_of (meaning-out env x)) ∙ t)

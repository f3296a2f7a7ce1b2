-- A document that has no leaf for one of a query's conditions has no rows in it.
use Rattle.std.proofs.Common.{◌≡◌, ℕ, List, [], ◌∷◌, ◌++◌, Bool, true, false, cond, Option, Some, None, refl, sym, ap, ◌∙◌, subst, append_assoc}
use Rattle.std.proofs.lemmas.Bool.{false_from_ne_true, cond-true}
use Rattle.std.proofs.lemmas.List.{append-nil}
use Rattle.std.proofs.lemmas.Option.{same_Some, none-some}
use Rattle.std.proofs.lemmas.Slice.Eq.{bytes_eq-Decides}
use Rattle.std.specs.List.{Contains, filter_map}
use Rattle.std.specs.Str.{bytes_eq}
use Rattle.std.proofs.lemmas.List.Sums.{AllPass-from_list_all}
use Rattle.std.proofs.lemmas.List.Elements.{All-contains}
use Rattle.std.specs.List.{cons_option}
use Rattle.ax_tree.specs.WellFormed.{NumbersFit}
use Rattle.ax_tree.specs.declared.tree.Tree.{Tree}
use Rattle.ax_mean.specs.declared.expr.Expr.{Expr}
use Rattle.ax_mean.specs.declared.expr.QueryStep.{QueryStep}
use Rattle.ax_mean.specs.declared.query.FromItem.{FromItem}
use Rattle.ax_mean.specs.declared.query.Query.{Query}
use Rattle.ax_mean.specs.declared.value.Value.{Value}
use Rattle.ax_mean.specs.declared.value.Value.TheVariants.{Defined}
use Rattle.ax_mean.specs.Meaning.{Env, bound}
use Rattle.ax_mean.specs.Rows.{Bound, Choice, choices, env_where, keyed, keyed_where, nothing_bound, order_values, passes, rows_from, rows_of_tree}
use Rattle.ax_mean.specs.Rows.{shown, with_choice}
use Rattle.ax_mean.specs.Steps.{steps_from}
use Rattle.ax_atoms.specs.Atoms.{Atom}
use Rattle.ax_atoms.specs.Conjuncts.{atom_of, atoms_in, atoms, document_alias, where_whole}
use Rattle.ax_atoms.specs.Operands.{operands}
use Rattle.ax_atoms.specs.Passing.{HasLeaf, are_true, is_true}
use Rattle.ax_atoms.specs.Recognised.{recognised}
use Rattle.ax_atoms.specs.Silent.{IsSilent}
use Rattle.ax_atoms.proofs.FitLeaves.{leaves_fit}
use Rattle.ax_atoms.proofs.Passes.{recognised_found}
use Rattle.ax_terms.proofs.Sequences.{contains_first, contains_later, from_flat_map, from_map, none_in_nil, only_one}
use Rattle.ax_atoms.proofs.Split.{true_where_operands_are}

-- ---- what a row binds first stays bound

record Keeps (env : Env) (row : Bound) : Type 0 where
  more : Env
  is : row.env ≡ env ++ more

rows_keep : (items : List FromItem) (row found : Bound) → Contains (rows_from items row) found
    → Keeps row.env found
rows_keep [] row found h =
    record {
      more = [];
      is = ap (λ r. r.env) (sym (only_one row found h)) ∙ sym (append-nil row.env);
    }
rows_keep (item ∷ items) row found h =
    let part = from_flat_map (λ choice. rows_from items (with_choice item.alias row choice))
    (choices item.each (steps_from (bound row.env item.base) item.steps)) found h in
    let later = rows_keep items (with_choice item.alias row part.0) found part.2 in
    record {
      more = (item.alias, Defined part.0.tree) ∷ later.more;
      is = later.is ∙ append_assoc row.env ((item.alias, Defined part.0.tree) ∷ []) later.more;
    }

abbrev only_choice : Tree → List Choice
only_choice given = record { positions = []; tree = given } ∷ []

whole_choice : (each : Bool) (steps : List QueryStep) (own alias : List ℕ) (given : Tree)
    → where_whole own each steps ≡ Some alias
    → (own ≡ alias) × (choices each (steps_from (Defined given) steps) ≡ only_choice given)
whole_choice false [] own alias given h = (same_Some own alias h, refl)
whole_choice false (step ∷ steps) own alias given h = absurd (none-some alias h)
whole_choice true [] own alias given h = absurd (none-some alias h)
whole_choice true (step ∷ steps) own alias given h = absurd (none-some alias h)

bound_first : (own alias : List ℕ) (v : Value) (env : Env) → own ≡ alias
    → bound ((own, v) ∷ env) alias ≡ v
bound_first own alias v env e = cond-true (bytes_eq own alias) v (bound env alias) ((bytes_eq-Decides own alias).1 e)

-- the alias stands for the document in each of its rows
alias_bound : (items : List FromItem) (alias : List ℕ) (given : Tree) (row : Bound)
    → document_alias items ≡ Some alias → Contains (rows_of_tree items given) row
    → bound row.env alias ≡ Defined given
alias_bound [] alias given row h there = absurd (none-some alias h)
alias_bound (item ∷ items) alias given row h there =
    let start = whole_choice item.each item.steps item.alias alias given h in
    let part = from_flat_map (λ choice. rows_from items (with_choice item.alias nothing_bound choice))
    (choices item.each (steps_from (Defined given) item.steps)) row there in
    let choice : record_of given ≡ part.0 = only_one (record_of given) part.0
    (subst (λ cs. Contains cs part.0) start.1 part.1) in
    let keeps = rows_keep items (with_choice item.alias nothing_bound part.0) row part.2 in
    ap (λ env. bound env alias) keeps.is
    ∙ bound_first item.alias alias (Defined part.0.tree) keeps.more start.0
    ∙ ap (λ c. Defined c.tree) (sym choice)
  where
    record_of : Tree → Choice
    record_of given = record { positions = []; tree = given }

-- ---- a row that passes has a leaf for each condition

true_at : (env : Env) (xs : List Expr) (x : Expr) → are_true env xs ≡ true → Contains xs x
    → is_true env x ≡ true
true_at env xs x h there =
    All-contains (λ y. is_true env y ≡ true) xs x (AllPass-from_list_all (is_true env) xs h) there

passing_leaf : (alias : List ℕ) (given : Tree) (condition x : Expr) (atom : Atom) (env : Env)
    → bound env alias ≡ Defined given → NumbersFit given → Contains (operands condition) x
    → recognised alias x ≡ Some atom → is_true env condition ≡ true → HasLeaf atom given
passing_leaf alias given condition x atom env own fits there is h =
    recognised_found env alias given own atom x is
    (true_at env (operands condition) x (sym (true_where_operands_are env condition) ∙ h) there)
    (leaves_fit given fits)

-- ---- no rows

none_kept : {A B : Type 0} (f : A → Option B) (xs : List A)
    → ((x : A) → Contains xs x → f x ≡ None) → filter_map f xs ≡ []
none_kept f [] none = refl
none_kept f (x ∷ xs) none =
    ap (λ o. cons_option o (filter_map f xs)) (none x (contains_first x xs))
    ∙ none_kept f xs (λ y there. none y (contains_later x xs y there))

silent_where : (query : Query) (given : Tree)
    → ((row : Bound) → Contains (rows_of_tree query.froms given) row → passes query.condition row.env ≡ false)
    → IsSilent query given
silent_where query given none = (
  none_kept (env_where query.condition) (rows_of_tree query.froms given)
      (λ row there. ap (λ b. cond b (Some row.env) None) (none row there)),
  (λ number. none_kept (keyed_where query number (order_values query given)) (rows_of_tree query.froms given)
      (λ row there. ap (λ b. cond b (keyed (order_values query given) number row.place (shown query.pick row.env)) None)
      (none row there))),
)

-- all conditions of the query have such a leaf
abbrev pub HasAll : List (Option Atom) → Tree → Type 0
HasAll atoms given = (atom : Atom) → Contains atoms (Some atom) → HasLeaf atom given

passing_all : (query : Query) (given : Tree) (alias : Option (List ℕ)) (condition : Option Expr)
    → document_alias query.froms ≡ alias → NumbersFit given → (row : Bound)
    → Contains (rows_of_tree query.froms given) row → passes condition row.env ≡ true
    → HasAll (atoms_in alias condition) given
passing_all query given alias None own fits row at h atom there = absurd (none_in_nil (Some atom) there)
passing_all query given None (Some condition) own fits row at h atom there =
    let found = from_map (atom_of None) (operands condition) (Some atom) there in
    absurd (none-some atom found.2)
passing_all query given (Some alias) (Some condition) own fits row at h atom there =
    let found = from_map (atom_of (Some alias)) (operands condition) (Some atom) there in
    passing_leaf alias given condition found.0 atom row.env
    (alias_bound query.froms alias given row own at) fits found.1 found.2 h

pub silent : (query : Query) (given : Tree) → NumbersFit given → (HasAll (atoms query) given → ⊥)
    → IsSilent query given
silent query given fits without =
    silent_where query given (λ row at.
    false_from_ne_true (passes query.condition row.env)
    (λ h. without (passing_all query given (document_alias query.froms) query.condition refl fits row at h)))

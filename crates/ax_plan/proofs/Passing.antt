-- A document has a term in each union exactly where it has one in the ranges of each usable condition, and a document that
-- passes has one there, under each policy that is in use or now.
use Rattle.std.proofs.Common.{◌≡◌, ℕ, List, [], ◌∷◌, map, Bool, true, false, ◌||◌, Option, Some, None}
use Rattle.std.proofs.Common.{inl, ⊎_elim, refl, sym, ap, ◌∙◌, subst}
use Rattle.std.proofs.lemmas.Bool.{false≢true, and_from, and_parts}
use Rattle.std.proofs.lemmas.List.Elements.{All-contains}
use Rattle.std.proofs.lemmas.List.Sums.{AllPass-from_list_all}
use Rattle.std.proofs.lemmas.Option.{same_Some, none-some}
use Rattle.std.specs.List.{AllByRecursion, Contains, list_all}
use Rattle.ax_tree.specs.WellFormed.{IsWellFormed}
use Rattle.ax_tree.proofs.Fitting.{numbers_fit-well_formed}
use Rattle.ax_tree.specs.declared.tree.Tree.{Tree}
use Rattle.ax_mean.specs.declared.expr.Expr.{Expr}
use Rattle.ax_mean.specs.declared.query.Query.{Query}
use Rattle.ax_mean.specs.declared.query.Step.{Step}
use Rattle.ax_mean.specs.declared.value.Value.TheVariants.{Defined}
use Rattle.ax_mean.specs.Meaning.{Env, bound}
use Rattle.ax_mean.specs.Rows.{passes}
use Rattle.ax_term.specs.CutValues.{cut_of}
use Rattle.ax_term.specs.declared.range.TermRange.{TermRange}
use Rattle.ax_policy.specs.Covering.{Covers}
use Rattle.ax_policy.specs.Sameness.{same_path}
use Rattle.ax_policy.specs.Table.{Table}
use Rattle.ax_policy.specs.declared.policy.Policy.{Policy}
use Rattle.ax_policy.proofs.Orders.{path_is}
use Rattle.ax_terms.specs.Leaves.{Leaf, leaves}
use Rattle.ax_terms.specs.TermsOf.{HasComposite, HasPlain, HasTerm, leaf_term, value_at}
use Rattle.ax_atoms.specs.Atoms.{Atom, rests_at, rests_on_all}
use Rattle.ax_atoms.specs.Conjuncts.{atom_of, atoms, atoms_in, document_alias}
use Rattle.ax_atoms.specs.Operands.{operands}
use Rattle.ax_atoms.specs.Passing.{HasLeaf, IsCovered, are_true, is_true}
use Rattle.ax_atoms.specs.Silent.{IsSilent}
use Rattle.ax_atoms.specs.Spans.{is_in_some, ranges_of}
use Rattle.ax_atoms.proofs.FitLeaves.{leaves_fit}
use Rattle.ax_atoms.proofs.Passes.{recognised_found}
use Rattle.ax_atoms.proofs.Rows.{silent}
use Rattle.ax_atoms.proofs.Split.{true_where_operands_are}
use Rattle.ax_atoms.proofs.Table.{IsOfTable, recognised_of_table}
use Rattle.ax_terms.proofs.Sequences.{contains_first, contains_later, contains_map, from_map, none_in_nil}
use Rattle.ax_plan.specs.Combining.{are_combined, combine, has_one_range_at_most, is_by_name, one_property, property_of, put_all}
use Rattle.ax_plan.specs.Combining.{same_property, shared, sought_by, where_named}
use Rattle.ax_plan.specs.Taken.{IsTaken}
use Rattle.ax_plan.specs.Terms.{HasTermForEach, HasTermInEach, HasTermInUnion, HasUnion, IsOfUsable}
use Rattle.ax_plan.specs.Usable.{AreUnions, IsUsable}
use Rattle.ax_plan.specs.declared.sought.Sought.{Sought}
use Rattle.ax_plan.proofs.Combined.{all_there, each_found, put_all_keeps, put_all_splits}
use Rattle.ax_plan.proofs.OneLeaf.{one_leaf}
use Rattle.ax_plan.proofs.OwnTerms.{no_composite_in, own_path}
use Rattle.ax_plan.proofs.SharedRanges.{shared_is}
use Rattle.ax_plan.proofs.Unions.{each_sought, is_sought}

-- ---- which unions there are

abbrev ranges_in : Sought → List TermRange
ranges_in s = s.ranges

module _ (table : Table) (list : List (Option Atom)) (unions : List (List TermRange)) (are : AreUnions table list unions) where
  abbrev combined : List Sought
  combined = put_all [] are.sought

  abbrev IsOne : Sought → Type 0
  IsOne s = IsOfUsable table list s.ranges

  combined_one : (a b : Sought) → are_combined a b ≡ true → IsOne a → IsOne b → IsOne (combine a b)
  combined_one a b e one other =
      record {
        atom = one.atom;
        is = one.is;
        usable = one.usable;
        within = λ bytes h.
            one.within bytes
            (and_parts (is_in_some a.ranges bytes) (is_in_some b.ranges bytes) (sym (shared_is a.ranges b.ranges bytes) ∙ h)).0;
      }

  pub of_usable : (ranges : List TermRange) → Contains unions ranges → IsOfUsable table list ranges
  of_usable ranges there =
      let own = from_map ranges_in combined ranges (subst (λ (us : List (List TermRange)). Contains us ranges) are.combined there) in
      subst (IsOfUsable table list) own.2
      (all_there IsOne combined own.0
      (put_all_keeps IsOne combined_one [] are.sought tt
      (each_sought IsOne table list are.sought are.of_usable
      (λ atom is usable. record { atom = atom; is = is; usable = usable; within = λ bytes h. h })))
      own.1)

  pub has_union : (atom : Atom) → Contains list (Some atom) → IsUsable table atom → HasUnion unions atom
  has_union atom is usable =
      let found = each_found [] are.sought (sought_by atom) (is_sought table list are.sought are.of_usable atom is usable) in
      record {
        ranges = found.0.ranges;
        is = subst (λ (us : List (List TermRange)). Contains us found.0.ranges) (sym are.combined)
            (contains_map ranges_in combined found.0 found.1);
        within = found.2;
      }

-- ---- what is sought, and unions

module _ (policy : Policy) (given : Tree) where
  abbrev HasIt : Sought → Type 0
  HasIt s = HasTermInUnion policy given s.ranges

  in_each_from : (xs : List Sought) → AllByRecursion HasIt xs → HasTermInEach policy given (map ranges_in xs)
  in_each_from xs all ranges there =
      let own = from_map ranges_in xs ranges there in
      subst (HasTermInUnion policy given) own.2 (all_there HasIt xs own.0 all own.1)

  all_from : (xs : List Sought) → HasTermInEach policy given (map ranges_in xs) → AllByRecursion HasIt xs
  all_from [] has = tt
  all_from (x ∷ xs) has = (
    has x.ranges (contains_first x.ranges (map ranges_in xs)),
    all_from xs (λ ranges there. has ranges (contains_later x.ranges (map ranges_in xs) ranges there)),
  )

  splits : (a b : Sought) → HasIt (combine a b) → HasIt a × HasIt b
  splits a b has =
      let p = and_parts (is_in_some a.ranges has.0) (is_in_some b.ranges has.0) (sym (shared_is a.ranges b.ranges has.0) ∙ has.2) in
      ((has.0, has.1, p.0), (has.0, has.1, p.1))

  -- ---- one leaf for all conditions on a property

  -- the leaf at that path is covered, and its term is in one of the ranges
  record HasAt (path : List Step) (ranges : List TermRange) : Type 0 where
    leaf : Leaf
    is : Contains (leaves given) leaf
    at : leaf.path ≡ path
    covers : Covers policy leaf.path
    in_ranges : is_in_some ranges (leaf_term leaf) ≡ true

  abbrev HasBy : Option (List Step) → List TermRange → Type 0
  HasBy None ranges = HasTermInUnion policy given ranges
  HasBy (Some path) ranges = HasAt path ranges

  abbrev HasOwn : Sought → Type 0
  HasOwn s = HasBy (property_of s) s.ranges

  has_it : (o : Option (List Step)) (ranges : List TermRange) → HasBy o ranges → HasTermInUnion policy given ranges
  has_it None ranges has = has
  has_it (Some path) ranges has =
      (leaf_term has.leaf, inl (has.leaf, has.is, has.covers, refl), has.in_ranges)

  all_have : (xs : List Sought) → AllByRecursion HasOwn xs → AllByRecursion HasIt xs
  all_have [] all = tt
  all_have (x ∷ xs) all = (has_it (property_of x) x.ranges all.0, all_have xs all.1)

  named_where : (path p : List Step) (b : Bool) → list_all is_by_name path ≡ b → where_named path b ≡ Some p
      → list_all is_by_name p ≡ true
  named_where path p true is e = subst (λ q. list_all is_by_name q ≡ true) (same_Some path p e) is
  named_where path p false is e = absurd (none-some p e)

  named : (whole : Bool) (paths : List (List Step)) (p : List Step) → one_property whole paths ≡ Some p
      → list_all is_by_name p ≡ true
  named true paths p e = absurd (none-some p e)
  named false [] p e = absurd (none-some p e)
  named false (path ∷ []) p e = named_where path p (list_all is_by_name path) refl e
  named false (path ∷ other ∷ paths) p e = absurd (none-some p e)

  module _ (well : IsWellFormed given) where
    one_term : (p q : List Step) (a b : List TermRange) → list_all is_by_name p ≡ true → same_path p q ≡ true
        → HasAt p a → HasAt q b → HasAt p (shared a b)
    one_term p q a b names same x y =
        let paths : p ≡ q = path_is p q same in
        let leaf_is : x.leaf ≡ y.leaf =
        one_leaf given well x.leaf y.leaf x.is y.is (x.at ∙ paths ∙ sym y.at)
        (ap (list_all is_by_name) x.at ∙ names) in
        record {
          leaf = x.leaf;
          is = x.is;
          at = x.at;
          covers = x.covers;
          in_ranges = shared_is a b (leaf_term x.leaf)
              ∙ and_from (is_in_some a (leaf_term x.leaf)) (is_in_some b (leaf_term x.leaf)) x.in_ranges
              (ap (λ (l : Leaf). is_in_some b (leaf_term l)) leaf_is ∙ y.in_ranges);
        }

    combined_by : (o p : Option (List Step)) (a b : List TermRange)
        → ((path : List Step) → o ≡ Some path → list_all is_by_name path ≡ true)
        → same_property o p ≡ true → HasBy o a → HasBy p b → HasBy o (shared a b)
    combined_by None p a b names same x y = absurd (false≢true same)
    combined_by (Some path) None a b names same x y = absurd (false≢true same)
    combined_by (Some path) (Some other) a b names same x y = one_term path other a b (names path refl) same x y

    combines : (a b : Sought) → are_combined a b ≡ true → HasOwn a → HasOwn b → HasOwn (combine a b)
    combines a b e x y =
        combined_by (property_of a) (property_of b) a.ranges b.ranges (λ path is. named a.whole a.paths path is)
        (and_parts (same_property (property_of a) (property_of b)) (has_one_range_at_most a || has_one_range_at_most b) e).0 x y

    -- ---- a term in a condition's ranges is that of the leaf on which it rests

    at_leaf : (atom : Atom) → IsOfTable atom → (path : List Step) → rests_on_all atom ≡ false → rests_at atom ≡ path
        → (bytes : List ℕ) → is_in_some (ranges_of atom) bytes ≡ true → HasTerm policy given bytes → HasAt path (ranges_of atom)
    at_leaf atom is path one at bytes within term =
        ⊎_elim {C = HasAt path (ranges_of atom)}
        (λ (own : HasPlain policy given bytes).
        let leaf : Leaf = own.0 in
        let here : is_in_some (ranges_of atom) (leaf_term leaf) ≡ true = ap (is_in_some (ranges_of atom)) (sym own.3) ∙ within in
        record {
          leaf = leaf;
          is = own.1;
          at = own_path leaf.path (cut_of (Defined leaf.tree)) (leaves_fit given (numbers_fit-well_formed given well) leaf own.1)
              atom is one here ∙ at;
          covers = own.2;
          in_ranges = here;
        })
        (λ (own : HasComposite policy given bytes).
        absurd (false≢true (sym (no_composite_in atom own.0 (map (value_at given) own.0))
        ∙ ap (is_in_some (ranges_of atom)) (sym own.2) ∙ within)))
        term

    by_property : (atom : Atom) → IsOfTable atom → (whole b : Bool) → rests_on_all atom ≡ whole
        → list_all is_by_name (rests_at atom) ≡ b → HasTermInUnion policy given (ranges_of atom)
        → HasBy (one_property whole (rests_at atom ∷ [])) (ranges_of atom)
    by_property atom is true b own names has = has
    by_property atom is false true own names has =
        subst (λ c. HasBy (where_named (rests_at atom) c) (ranges_of atom)) (sym names)
        (at_leaf atom is (rests_at atom) own refl has.0 has.2 has.1)
    by_property atom is false false own names has =
        subst (λ c. HasBy (where_named (rests_at atom) c) (ranges_of atom)) (sym names) has

    has_own : (atom : Atom) → IsOfTable atom → HasTermInUnion policy given (ranges_of atom) → HasOwn (sought_by atom)
    has_own atom is has =
        by_property atom is (rests_on_all atom) (list_all is_by_name (rests_at atom)) refl refl has

-- ---- the conditions of a query

table_of_operand : (own : Option (List ℕ)) (x : Expr) (atom : Atom) → atom_of own x ≡ Some atom → IsOfTable atom
table_of_operand None x atom e = absurd (none-some atom e)
table_of_operand (Some alias) x atom e = recognised_of_table alias x atom e

table_of_condition : (own : Option (List ℕ)) (condition : Option Expr) (atom : Atom)
    → Contains (atoms_in own condition) (Some atom) → IsOfTable atom
table_of_condition own None atom there = absurd (none_in_nil (Some atom) there)
table_of_condition own (Some condition) atom there =
    let found = from_map (atom_of own) (operands condition) (Some atom) there in
    table_of_operand own found.0 atom found.2

true_at : (env : Env) (xs : List Expr) (x : Expr) → are_true env xs ≡ true → Contains xs x → is_true env x ≡ true
true_at env xs x h there = All-contains (λ y. is_true env y ≡ true) xs x (AllPass-from_list_all (is_true env) xs h) there

module _ (alias : List ℕ) (env : Env) (given : Tree) (well : IsWellFormed given) (is : bound env alias ≡ Defined given) where
  leaf_for : (atom : Atom) (own : Option (List ℕ)) (condition : Option Expr) → own ≡ Some alias
      → passes condition env ≡ true → Contains (atoms_in own condition) (Some atom) → HasLeaf atom given
  leaf_for atom own None first h there = absurd (none_in_nil (Some atom) there)
  leaf_for atom own (Some condition) first h there =
      let found = from_map (atom_of own) (operands condition) (Some atom) there in
      recognised_found env alias given is atom found.0
      (sym (ap (λ (o : Option (List ℕ)). atom_of o found.0) first) ∙ found.2)
      (true_at env (operands condition) found.0 (sym (true_where_operands_are env condition) ∙ h) found.1)
      (leaves_fit given (numbers_fit-well_formed given well))

-- the leaf has a term, where it is covered
term_of_leaf : (policy : Policy) (atom : Atom) (given : Tree) → IsCovered policy atom → HasLeaf atom given
    → HasTermInUnion policy given (ranges_of atom)
term_of_leaf policy atom given covered has = (
  leaf_term has.leaf,
  inl (has.leaf, has.is, covered has.leaf.path has.at, refl),
  has.in_ranges,
)

module _ (query : Query) (table : Table) (unions : List (List TermRange)) (policy : Policy) (given : Tree)
    (are : AreUnions table (atoms query) unions) where
  -- from the unions to the conditions
  pub for_each : HasTermInEach policy given unions → HasTermForEach table (atoms query) policy given
  for_each has atom there usable =
      all_there (HasIt policy given) are.sought (sought_by atom)
      (put_all_splits (HasIt policy given) (splits policy given) [] are.sought
      (all_from policy given (put_all [] are.sought)
      (subst (λ (us : List (List TermRange)). HasTermInEach policy given us) are.combined has))).1
      (is_sought table (atoms query) are.sought are.of_usable atom there usable)

  module _ (well : IsWellFormed given) where
    -- and from the conditions to the unions
    pub in_each : HasTermForEach table (atoms query) policy given → HasTermInEach policy given unions
    in_each each =
        subst (λ (us : List (List TermRange)). HasTermInEach policy given us) (sym are.combined)
        (in_each_from policy given (put_all [] are.sought)
        (all_have policy given (put_all [] are.sought)
        (put_all_keeps (HasOwn policy given) (combines policy given well) [] are.sought tt
        (each_sought (HasOwn policy given) table (atoms query) are.sought are.of_usable
        (λ atom there usable.
        has_own policy given well atom (table_of_condition (document_alias query.froms) query.condition atom there)
        (each atom there usable))))))

    -- where there is a leaf for each condition, there is a term in each union
    by_leaves : IsTaken table policy → ((atom : Atom) → Contains (atoms query) (Some atom) → HasLeaf atom given)
        → HasTermInEach policy given unions
    by_leaves used leaves =
        in_each (λ atom there usable. term_of_leaf policy atom given (usable policy used) (leaves atom there))

    pub passing_in_each : IsTaken table policy → (alias : List ℕ) (env : Env) → document_alias query.froms ≡ Some alias
        → bound env alias ≡ Defined given → passes query.condition env ≡ true → HasTermInEach policy given unions
    passing_in_each used alias env first is h =
        by_leaves used
        (λ atom there. leaf_for alias env given well is atom (document_alias query.froms) query.condition first h there)

    pub silent_without : IsTaken table policy → (HasTermInEach policy given unions → ⊥) → IsSilent query given
    silent_without used without =
        silent query given (numbers_fit-well_formed given well) (λ leaves. without (by_leaves used leaves))

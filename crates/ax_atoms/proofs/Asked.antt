-- The same of IN, BETWEEN and the functions.
use Rattle.std.proofs.Common.{◌≡◌, ℕ, ◌==◌, List, [], ◌∷◌, ◌++◌, map, Bool, true, false, ◌&&◌, ◌||◌, take, drop, length, Option, Some, None, ◌⊎◌}
use Rattle.std.proofs.Common.{⊎_elim, refl, sym, ap, ◌∙◌, subst}
use Rattle.std.proofs.lemmas.Bool.{false≢true, and_parts, or_left, or_right, or_cases}
use Rattle.std.proofs.lemmas.Bool.Decides.{Decides-eqb}
use Rattle.std.proofs.lemmas.Option.{same_Some, none-some}
use Rattle.std.proofs.lemmas.Slice.Eq.{starts_is}
use Rattle.std.specs.List.{Contains, list_any}
use Rattle.std.specs.Ordering.{is_ge, is_le, is_lt}
use Rattle.ax_tree.specs.declared.tree.Tree as tree
use Rattle.ax_tree.specs.declared.tree.Tree.{Tree, out-Tree}
use Rattle.ax_tree.specs.declared.tree.Tree.TheOpen.{Tree-F}
use Rattle.ax_tree.specs.declared.tree.Tree.TheViews.{roll-Tree, roll-out-Tree}
use Rattle.ax_tree.specs.declared.tree.Tree.TheVariants.{rolls-Text}
use Rattle.ax_mean.specs.declared.expr.QueryStep.{QueryStep}
use Rattle.ax_mean.specs.declared.operator.BinaryOp.TheVariants as op
use Rattle.ax_mean.specs.declared.operator.Func.TheVariants as func
use Rattle.ax_mean.specs.declared.query.Step.{Step}
use Rattle.ax_mean.specs.declared.query.Step.TheVariants.{Item}
use Rattle.ax_mean.specs.declared.value.Value.{Value}
use Rattle.ax_mean.specs.declared.value.Value.TheVariants.{Undefined, Defined}
use Rattle.ax_mean.specs.Comparison.{is_scalar}
use Rattle.ax_mean.specs.Functions.{call}
use Rattle.ax_mean.specs.ListFunctions.{has_item}
use Rattle.ax_mean.specs.Logic.{or_of}
use Rattle.ax_mean.specs.Meaning.{along, among, between, chain, is_yes}
use Rattle.ax_mean.specs.Operators.{binary, disjunction}
use Rattle.ax_mean.specs.Sameness.{is_same}
use Rattle.ax_mean.specs.Steps.{steps_from}
use Rattle.ax_mean.specs.TextFunctions.{begins_with}
use Rattle.ax_mean.specs.Values.{kind, list_level, list_of, text_level, text_of, truth_of}
use Rattle.ax_mean.proofs.SameTrees.{same_trees}
use Rattle.ax_term.specs.CutTexts.{cut}
use Rattle.ax_term.specs.CutValues.{CutValue, cut_of}
use Rattle.ax_term.specs.Ranges.{is_in_range}
use Rattle.ax_term.specs.TermBytes.{term_bytes}
use Rattle.ax_term.specs.Terms.{Term}
use Rattle.ax_terms.specs.Leaves.{Leaf, below, behind, leaves}
use Rattle.ax_atoms.specs.Atoms.{Atom}
use Rattle.ax_terms.specs.TermsOf.{leaf_term}
use Rattle.ax_atoms.specs.Recognised.{are_bounds, are_single, is_bound, is_single, step_of}
use Rattle.ax_atoms.specs.Spans.{before, behind_texts, is_in_some, next_bytes, next_path, only}
use Rattle.ax_atoms.proofs.Found.{Found, single_scalar, by_scalar, in_own, one_range, term_at, within, yes_of}
use Rattle.ax_atoms.proofs.Parts.{leaf_at, leaf_of_item, scalar_leaves, some_leaf}
use Rattle.ax_atoms.proofs.Between.{IsFit, all_behind, at_path, front_least, front_taken, in_before, in_below, texts_behind}
use Rattle.ax_terms.proofs.Sequences.{contains_first, contains_later}
use Rattle.ax_atoms.proofs.Split.{conjunction_yes, truth_again}
use Rattle.ax_atoms.proofs.Values.{alike, compared_true, equal_true, ge_le}

-- ---- IN

or_yes : (a b : Option Bool) → is_yes (or_of a b) ≡ (is_yes a || is_yes b)
or_yes (Some true) b = refl
or_yes (Some false) b = refl
or_yes None (Some true) = refl
or_yes None (Some false) = refl
or_yes None None = refl

or_or : (a b c : Bool) → ((a || b) || c) ≡ (a || (b || c))
or_or true b c = refl
or_or false b c = refl

or_no : (a : Bool) → a ≡ (a || false)
or_no true = refl
or_no false = refl

along_or : (first : Value) (vs : List Value)
    → yes_of (along disjunction first vs) ≡ (yes_of first || list_any yes_of vs)
along_or first [] = or_no (yes_of first)
along_or first (v ∷ vs) =
    along_or (disjunction first v) vs
    ∙ ap (λ b. b || list_any yes_of vs)
    (ap is_yes (truth_again (or_of (truth_of first) (truth_of v))) ∙ or_yes (truth_of first) (truth_of v))
    ∙ or_or (yes_of first) (yes_of v) (list_any yes_of vs)

pub chain_or : (vs : List Value) → yes_of (chain disjunction vs) ≡ list_any yes_of vs
chain_or [] = refl
chain_or (v ∷ vs) = along_or v vs

abbrev Among : List Step → Value → List Value → Type 0
Among path v ks = (is_scalar v ≡ true) × (is_in_some (map (only path) ks) (term_at path v) ≡ true)

one_of : (path : List Step) (v : Value) (ks : List Value)
    → list_any yes_of (map (λ k. binary op.Equal v k) ks) ≡ true → are_single ks ≡ true → Among path v ks
one_of path v [] h keys = absurd (false≢true h)
one_of path v (k ∷ ks) h keys =
    let q = and_parts (is_single k) (are_single ks) keys in
    ⊎_elim {C = Among path v (k ∷ ks)}
    (λ (e : yes_of (binary op.Equal v k) ≡ true).
    let same : v ≡ k = equal_true v k e in (
      ap is_scalar same ∙ single_scalar k q.0,
      or_left (is_in_range (only path k) (term_at path v)) _ (in_own path v k same),
    ))
    (λ (e : list_any yes_of (map (λ k. binary op.Equal v k) ks) ≡ true).
    let rest = one_of path v ks e q.1 in (
      rest.0,
      or_right (is_in_range (only path k) (term_at path v)) _ rest.1,
    ))
    (or_cases (yes_of (binary op.Equal v k)) _ h)

pub one_of_found : (given : Tree) (steps : List QueryStep) (v : Value) (ks : List Value)
    → steps_from (Defined given) steps ≡ v → yes_of (among v ks) ≡ true → are_single ks ≡ true
    → Found given (Atom.OneOf (map step_of steps) ks)
one_of_found given steps v ks h t keys fit =
    let p : List Step = map step_of steps in
    let found = one_of p v ks (sym (chain_or (map (λ k. binary op.Equal v k) ks)) ∙ t) keys in
    by_scalar (Atom.OneOf p ks) given steps v refl h found.0 (λ own. found.1) fit

-- ---- BETWEEN

pub within_found : (given : Tree) (steps : List QueryStep) (v k m : Value)
    → steps_from (Defined given) steps ≡ v → yes_of (between v k m) ≡ true → are_bounds k m ≡ true
    → Found given (Atom.Within (map step_of steps) k m)
within_found given steps v k m h t bounds fit =
    let both = and_parts (yes_of (binary op.GreaterEqual v k)) (yes_of (binary op.LessEqual v m))
    (sym (conjunction_yes (binary op.GreaterEqual v k) (binary op.LessEqual v m)) ∙ t) in
    let low = compared_true is_ge v k both.0 in
    let high = compared_true is_le v m both.1 in
    let fits = and_parts (is_bound k) (is_bound m) (and_parts (is_bound k && is_bound m) (kind k == kind m) bounds).0 in
    within given steps v k m h (alike v k low.0 fits.0) (alike v m high.0 fits.1) fits.0 fits.1
    (ge_le v k low.2) high.2 fit

-- ---- IS_DEFINED

exists_below : (given : Tree) (step : QueryStep) (steps : List QueryStep) (t : Tree)
    → steps_from (Defined given) (step ∷ steps) ≡ Defined t
    → Found given (Atom.Exists (map step_of (step ∷ steps)))
exists_below given step steps t h fit =
    let some = some_leaf t in
    let is = leaf_at (step ∷ steps) t some.leaf some.is given h in
    record {
      leaf = below (map step_of (step ∷ steps)) some.leaf;
      is = is;
      at = (some.leaf.path, refl);
      in_ranges = one_range
          (before (Term.Plain (map step_of (step ∷ steps)) CutValue.Undefined)
          (Term.Plain (next_path (map step_of (step ∷ steps))) CutValue.Undefined))
          (leaf_term (below (map step_of (step ∷ steps)) some.leaf))
          (in_below (step_of step) (map step_of steps) some.leaf.path (cut_of (Defined some.leaf.tree))
          (fit (below (map step_of (step ∷ steps)) some.leaf) is));
    }

pub exists_found : (given : Tree) (step : QueryStep) (steps : List QueryStep) (v : Value)
    → steps_from (Defined given) (step ∷ steps) ≡ v → yes_of (call func.IsDefined (v ∷ [])) ≡ true
    → Found given (Atom.Exists (map step_of (step ∷ steps)))
exists_found given step steps Undefined h t = absurd (false≢true (sym (truth_no) ∙ t))
  where
    truth_no : yes_of (call func.IsDefined (Undefined ∷ [])) ≡ false
    truth_no = ap is_yes (truth_again (Some false))
exists_found given step steps (Defined u) h t = exists_below given step steps u h

-- ---- STARTSWITH

record IsText (v : Value) (text : List ℕ) : Type 0 where
  is : v ≡ Defined (tree.Text text)

text_by_level : (x : Tree-F Tree) (text : List ℕ) → text_level x ≡ Some text
    → Defined (roll-Tree x) ≡ Defined (tree.Text text)
text_by_level (Tree-F.Text s) text h =
    ap Defined (rolls-Text s) ∙ ap (λ t. Defined (tree.Text t)) (same_Some s text h)
text_by_level x text h = absurd (none-some text h)

pub text_is : (v : Value) (text : List ℕ) → text_of v ≡ Some text → v ≡ Defined (tree.Text text)
text_is Undefined text h = absurd (none-some text h)
text_is (Defined t) text h = ap Defined (sym (roll-out-Tree t)) ∙ text_by_level (out-Tree t) text h

text_scalar : (text : List ℕ) → is_scalar (Defined (tree.Text text)) ≡ true
unfolding tree.out-Tree denote.Hole.Carrier.out
text_scalar text = refl

pub text_cut : (text : List ℕ) → cut_of (Defined (tree.Text text)) ≡ CutValue.Text (cut text)
unfolding tree.out-Tree denote.Hole.Carrier.out
text_cut text = refl

pub begins_found : (given : Tree) (steps : List QueryStep) (text k : List ℕ)
    → steps_from (Defined given) steps ≡ Defined (tree.Text text) → begins_with text k ≡ true
    → Found given (Atom.Begins (map step_of steps) k)
begins_found given steps text k h begins fit =
    let p : List Step = map step_of steps in
    let e : text ≡ k ++ drop (length k) text = (starts_is Decides-eqb text k (begins_with text k) refl).0 begins in
    let front = front_taken 128 k (drop (length k) text) in
    let f : take 128 text ≡ take 128 k ++ front.0 = ap (take 128) e ∙ front.1 in
    let value : CutValue = CutValue.Text (record { front = take 128 k ++ front.0; is_cut = (cut text).is_cut }) in
    let is : cut_of (Defined (tree.Text text)) ≡ value =
    text_cut text ∙ ap (λ xs. CutValue.Text (record { front = xs; is_cut = (cut text).is_cut })) f in
    let low : CutValue = CutValue.Text (record { front = take 128 k; is_cut = false }) in
    let high : CutValue = behind_texts (next_bytes (take 128 k)) in
    by_scalar (Atom.Begins p k) given steps (Defined (tree.Text text)) refl h (text_scalar text)
    (λ own. one_range (before (Term.Plain p low) (Term.Plain p high)) (term_at p (Defined (tree.Text text)))
    (subst (λ v. is_in_range (record { from = term_bytes (Term.Plain p low); below = term_bytes (Term.Plain p high) })
    (term_bytes (Term.Plain p v)) ≡ true) (sym is)
    (in_before (term_bytes (Term.Plain p low)) (term_bytes (Term.Plain p high)) (term_bytes (Term.Plain p value))
    (ap is_le (at_path p low value tt tt) ∙ front_least (take 128 k) front.0 (cut text).is_cut)
    (ap is_lt (at_path p value high tt (behind_fits (next_bytes (take 128 k))))
    ∙ texts_behind (take 128 k ++ front.0) (next_bytes (take 128 k)) (cut text).is_cut
    (all_behind (take 128 k) front.0))))) fit
  where
    behind_fits : (next : List ℕ) → IsFit (behind_texts next)
    behind_fits [] = tt
    behind_fits (n ∷ next) = tt

-- ---- ARRAY_CONTAINS

list_by_level : (x : Tree-F Tree) (items : List Tree) → list_level x ≡ Some items
    → roll-Tree x ≡ roll-Tree (Tree-F.List items)
list_by_level (Tree-F.List own) items h = ap (λ ts. roll-Tree (Tree-F.List ts)) (same_Some own items h)
list_by_level x items h = absurd (none-some items h)

pub list_is : (t : Tree) (items : List Tree) → list_of (Defined t) ≡ Some items
    → t ≡ roll-Tree (Tree-F.List items)
list_is t items h = sym (roll-out-Tree t) ∙ list_by_level (out-Tree t) items h

item_there : (items : List Tree) (k : Tree) → has_item items k ≡ true → Contains items k
item_there [] k h = absurd (false≢true h)
item_there (item ∷ items) k h =
    ⊎_elim {C = Contains (item ∷ items) k}
    (λ (e : is_same item k ≡ true).
    subst (Contains (item ∷ items)) (same_trees item k e) (contains_first item items))
    (λ (e : has_item items k ≡ true). contains_later item items k (item_there items k e))
    (or_cases (is_same item k) (has_item items k) h)

pub holds_found : (given : Tree) (steps : List QueryStep) (items : List Tree) (k : Tree)
    → steps_from (Defined given) steps ≡ Defined (roll-Tree (Tree-F.List items)) → has_item items k ≡ true
    → is_scalar (Defined k) ≡ true
    → Found given (Atom.Holds (map step_of steps) (Defined k))
holds_found given steps items k h has scalar fit =
    let own : Leaf = record { path = []; tree = k } in
    let in_item : Contains (leaves k) own =
    subst (λ ls. Contains ls own) (sym (scalar_leaves k scalar)) (contains_first own []) in
    let in_list : Contains (leaves (roll-Tree (Tree-F.List items))) (behind Item own) =
    leaf_of_item items k own (item_there items k has) in_item in
    let bytes : List ℕ = term_at (map step_of steps ++ Item ∷ []) (Defined k) in
    record {
      leaf = below (map step_of steps) (behind Item own);
      is = leaf_at steps (roll-Tree (Tree-F.List items)) (behind Item own) in_list given h;
      at = refl;
      in_ranges = one_range (only (map step_of steps ++ Item ∷ []) (Defined k)) bytes (in_own (map step_of steps ++ Item ∷ []) (Defined k) (Defined k) refl);
    }

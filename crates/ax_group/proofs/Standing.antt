-- An expression in which what it asks for is the literal of its value means, where nothing is bound,
-- what the expression with its totals means in the first row.
use Rattle.std.proofs.Common.{◌≡◌, ℕ, List, [], ◌∷◌, map, Bool, false, true, not, ◌&&◌, refl, sym, ap, ap₂, ◌∙◌, subst}
use Rattle.std.proofs.lemmas.Bool.{and_parts, false≢true}
use Rattle.ax_tree.specs.declared.members.Member.{Member}
use Rattle.ax_tree.specs.declared.tree.Tree as tree
use Rattle.ax_mean.specs.declared.expr.Chained.{Chained}
use Rattle.ax_mean.specs.declared.expr.Expr.{Expr}
use Rattle.ax_mean.specs.declared.expr.Expr.TheOpen.{Expr-F}
use Rattle.ax_mean.specs.declared.expr.Expr.TheVariants as expr
use Rattle.ax_mean.specs.declared.expr.Expr.TheViews.{roll-Expr}
use Rattle.ax_mean.specs.declared.expr.Expr.TheFolds.{map-Expr, fold-roll-Expr, ind-Expr}
use Rattle.ax_mean.specs.declared.operator.BinaryOp.TheVariants as op
use Rattle.ax_mean.specs.declared.value.Value.{Value}
use Rattle.ax_mean.specs.declared.value.Value.TheVariants.{Defined}
use Rattle.ax_mean.specs.Aggregates.{has_aggregate}
use Rattle.ax_mean.specs.Building.{defined_of, members_of}
use Rattle.ax_mean.specs.Functions.{call}
use Rattle.ax_mean.specs.Meaning.{Env, meaning, meaning_level, chosen, chain, operated, among, between, negated_where}
use Rattle.ax_mean.specs.Operators.{binary, unary, joined, first_defined, conjunction, disjunction, negation}
use Rattle.ax_mean.specs.Steps.{steps_from}
use Rattle.ax_result.specs.Groups.{first_env}
use Rattle.ax_result.specs.Totals.{as_it_is, pair_by, as_it_becomes, with_totals, total_over, become, operands_become, members_become}
use Rattle.ax_group.specs.Walks.{is_literal, literal_level, is_part}
use Rattle.ax_group.proofs.Unaggregated.{has_roll, stays}
use Rattle.ax_result.proofs.Wholes.{chained, member, whole, as_is, comes_to}

three : {A : Type 0} (f : Value → Value → Value → A) {a b c x y z : Value}
    → a ≡ x → b ≡ y → c ≡ z → f a b c ≡ f x y z
three {A} f p q r = ap₂ (λ (k : Value → A) c. k c) (ap₂ f p q) r

not_true : (a : Bool) → not a ≡ true → a ≡ false
not_true true h = absurd (false≢true h)
not_true false h = refl

part_has_none : (x : Expr) → is_part x ≡ true → has_aggregate x ≡ false
part_has_none x h =
    not_true (has_aggregate x) (and_parts (not (is_literal x)) (not (has_aggregate x)) h).1

literal_roll : (x : Expr-F Expr)
    → is_literal (roll-Expr x) ≡ literal_level (map-Expr Expr Bool is_literal x)
literal_roll = fold-roll-Expr Bool literal_level

alias_is_part : (name : List ℕ) → is_part (roll-Expr (Expr-F.Alias name)) ≡ true
alias_is_part name =
    ap₂ (λ a b. not a && not b) (literal_roll (Expr-F.Alias name)) (has_roll (Expr-F.Alias name))

means : (env : Env) (x : Expr-F Expr)
    → meaning env (roll-Expr x) ≡ meaning_level env (map-Expr Expr Value (meaning env) x)
means env = fold-roll-Expr Value (meaning_level env)

pub means_literal : (env : Env) (value : Value) → meaning env (expr.Literal value) ≡ value
means_literal env value =
    ap (meaning env) (sym (expr.rolls-Literal value)) ∙ means env (Expr-F.Literal value)

-- the literal of a value, or an expression
abbrev pub stands_where : Bool → Value → Expr → Expr
stands_where true value x = expr.Literal value
stands_where false value x = x

module _ (envs : List Env) where
  abbrev first : Env
  first = first_env envs

  abbrev pub stood_level : Expr-F (Expr × Expr) → Expr
  stood_level level =
      stands_where (is_part (as_it_is level)) (meaning first (as_it_is level))
      (as_it_becomes envs level)

  abbrev pub stood : Expr → Expr × Expr
  stood = pair_by stood_level

  -- the expression in which what it asks for is the literal of its value
  abbrev pub standing : Expr → Expr
  standing x = (stood x).1

  abbrev becomes : Expr → Expr × Expr
  becomes = pair_by (as_it_becomes envs)

  abbrev operand_by : (Expr → Expr × Expr) → Chained Expr → Chained (Expr × Expr)
  operand_by f c = record { op = c.op; operand = f c.operand }

  abbrev member_by : (Expr → Expr × Expr) → Member Expr → Member (Expr × Expr)
  member_by f m = record { name = m.name; value = f m.value }

  pub stood_at : (x : Expr-F Expr)
      → standing (roll-Expr x) ≡ stands_where (is_part (roll-Expr x)) (meaning first (roll-Expr x))
      (as_it_becomes envs (map-Expr Expr (Expr × Expr) stood x))
  stood_at x =
      comes_to stood_level x
      ∙ ap (λ z. stands_where (is_part z) (meaning first z)
      (as_it_becomes envs (map-Expr Expr (Expr × Expr) stood x))) (as_is stood_level x)

  abbrev IsSame : Expr → Type 0
  IsSame x = meaning [] (standing x) ≡ meaning first (with_totals envs x)

  abbrev Kept : Type 0
  Kept = (x : Expr) × IsSame x

  abbrev expr_of : Kept → Expr
  expr_of e = e.0

  abbrev chained_of : Chained Kept → Chained Expr
  chained_of c = record { op = c.op; operand = expr_of c.operand }

  abbrev member_of : Member Kept → Member Expr
  member_of m = record { name = m.name; value = expr_of m.value }

  lists : (es : List Kept) → map (meaning []) (become (map stood (map expr_of es)))
      ≡ map (meaning first) (become (map becomes (map expr_of es)))
  lists [] = refl
  lists (e ∷ es) = ap₂ (λ x xs. x ∷ xs) e.1 (lists es)

  chains : (cs : List (Chained Kept))
      → map (λ (c : Chained Expr). chained {X = Value} c.op (meaning [] c.operand))
      (operands_become (map (operand_by stood) (map chained_of cs)))
      ≡ map (λ (c : Chained Expr). chained {X = Value} c.op (meaning first c.operand))
      (operands_become (map (operand_by becomes) (map chained_of cs)))
  chains [] = refl
  chains (c ∷ cs) = ap₂ (λ x xs. x ∷ xs) (ap (chained {X = Value} c.op) c.operand.1) (chains cs)

  members : (ms : List (Member Kept))
      → map (λ (m : Member Expr). member {X = Value} m.name (meaning [] m.value))
      (members_become (map (member_by stood) (map member_of ms)))
      ≡ map (λ (m : Member Expr). member {X = Value} m.name (meaning first m.value))
      (members_become (map (member_by becomes) (map member_of ms)))
  members [] = refl
  members (m ∷ ms) = ap₂ (λ x xs. x ∷ xs) (ap (member {X = Value} m.name) m.value.1) (members ms)

  abbrev level_of : Expr-F Kept → Expr-F Expr
  level_of y = map-Expr Kept Expr expr_of y

  -- two expressions, by their levels
  by_levels : {s t : Expr} (x y : Expr-F Expr) → roll-Expr x ≡ s → roll-Expr y ≡ t
      → meaning_level [] (map-Expr Expr Value (meaning []) x)
      ≡ meaning_level first (map-Expr Expr Value (meaning first) y)
      → meaning [] s ≡ meaning first t
  by_levels x y p q e =
      ap (meaning []) (sym p) ∙ means [] x ∙ e ∙ sym (means first y) ∙ ap (meaning first) q

  abbrev stood_list : List Kept → List Expr
  stood_list es = become (map stood (map expr_of es))

  abbrev become_list : List Kept → List Expr
  become_list es = become (map becomes (map expr_of es))

  abbrev stood_chain : List (Chained Kept) → List (Chained Expr)
  stood_chain cs = operands_become (map (operand_by stood) (map chained_of cs))

  abbrev become_chain : List (Chained Kept) → List (Chained Expr)
  become_chain cs = operands_become (map (operand_by becomes) (map chained_of cs))

  abbrev stood_members : List (Member Kept) → List (Member Expr)
  stood_members ms = members_become (map (member_by stood) (map member_of ms))

  abbrev become_members : List (Member Kept) → List (Member Expr)
  become_members ms = members_become (map (member_by becomes) (map member_of ms))

  abbrev s : Kept → Expr
  s e = standing e.0

  abbrev t : Kept → Expr
  t e = with_totals envs e.0

  level : (y : Expr-F Kept) → is_part (roll-Expr (level_of y)) ≡ false
      → meaning [] (as_it_becomes envs (map-Expr Expr (Expr × Expr) stood (level_of y)))
      ≡ meaning first (as_it_becomes envs (map-Expr Expr (Expr × Expr) becomes (level_of y)))
  level (Expr-F.Literal value) h = means_literal [] value ∙ sym (means_literal first value)
  level (Expr-F.Alias name) h = absurd (false≢true (sym h ∙ alias_is_part name))
  level (Expr-F.Steps e steps) h =
      by_levels (Expr-F.Steps (s e) steps) (Expr-F.Steps (t e) steps)
      (expr.rolls-Steps (s e) steps) (expr.rolls-Steps (t e) steps)
      (ap (λ v. steps_from v steps) e.1)
  level (Expr-F.Choice e f g) h =
      by_levels (Expr-F.Choice (s e) (s f) (s g)) (Expr-F.Choice (t e) (t f) (t g))
      (expr.rolls-Choice (s e) (s f) (s g)) (expr.rolls-Choice (t e) (t f) (t g))
      (three chosen e.1 f.1 g.1)
  level (Expr-F.Coalesce es) h =
      by_levels (Expr-F.Coalesce (stood_list es)) (Expr-F.Coalesce (become_list es))
      (expr.rolls-Coalesce (stood_list es)) (expr.rolls-Coalesce (become_list es))
      (ap (chain first_defined) (lists es))
  level (Expr-F.Or es) h =
      by_levels (Expr-F.Or (stood_list es)) (Expr-F.Or (become_list es))
      (expr.rolls-Or (stood_list es)) (expr.rolls-Or (become_list es))
      (ap (chain disjunction) (lists es))
  level (Expr-F.And es) h =
      by_levels (Expr-F.And (stood_list es)) (Expr-F.And (become_list es))
      (expr.rolls-And (stood_list es)) (expr.rolls-And (become_list es))
      (ap (chain conjunction) (lists es))
  level (Expr-F.Not e) h =
      by_levels (Expr-F.Not (s e)) (Expr-F.Not (t e)) (expr.rolls-Not (s e))
      (expr.rolls-Not (t e)) (ap negation e.1)
  level (Expr-F.Compare operator e f) h =
      by_levels (Expr-F.Compare operator (s e) (s f)) (Expr-F.Compare operator (t e) (t f))
      (expr.rolls-Compare operator (s e) (s f)) (expr.rolls-Compare operator (t e) (t f))
      (ap₂ (binary operator) e.1 f.1)
  level (Expr-F.Among negated e es) h =
      by_levels (Expr-F.Among negated (s e) (stood_list es))
      (Expr-F.Among negated (t e) (become_list es))
      (expr.rolls-Among negated (s e) (stood_list es))
      (expr.rolls-Among negated (t e) (become_list es))
      (ap₂ (λ v vs. negated_where negated (among v vs)) e.1 (lists es))
  level (Expr-F.Between negated e f g) h =
      by_levels (Expr-F.Between negated (s e) (s f) (s g))
      (Expr-F.Between negated (t e) (t f) (t g))
      (expr.rolls-Between negated (s e) (s f) (s g))
      (expr.rolls-Between negated (t e) (t f) (t g))
      (three (λ u v w. negated_where negated (between u v w)) e.1 f.1 g.1)
  level (Expr-F.Like negated e f) h =
      by_levels (Expr-F.Like negated (s e) (s f)) (Expr-F.Like negated (t e) (t f))
      (expr.rolls-Like negated (s e) (s f)) (expr.rolls-Like negated (t e) (t f))
      (ap₂ (λ v w. negated_where negated (binary op.Like v w)) e.1 f.1)
  level (Expr-F.Join es) h =
      by_levels (Expr-F.Join (stood_list es)) (Expr-F.Join (become_list es))
      (expr.rolls-Join (stood_list es)) (expr.rolls-Join (become_list es))
      (ap (chain joined) (lists es))
  level (Expr-F.Sum e cs) h =
      by_levels (Expr-F.Sum (s e) (stood_chain cs)) (Expr-F.Sum (t e) (become_chain cs))
      (expr.rolls-Sum (s e) (stood_chain cs)) (expr.rolls-Sum (t e) (become_chain cs))
      (ap₂ operated e.1 (chains cs))
  level (Expr-F.Product e cs) h =
      by_levels (Expr-F.Product (s e) (stood_chain cs)) (Expr-F.Product (t e) (become_chain cs))
      (expr.rolls-Product (s e) (stood_chain cs)) (expr.rolls-Product (t e) (become_chain cs))
      (ap₂ operated e.1 (chains cs))
  level (Expr-F.Sign operator e) h =
      by_levels (Expr-F.Sign operator (s e)) (Expr-F.Sign operator (t e))
      (expr.rolls-Sign operator (s e)) (expr.rolls-Sign operator (t e)) (ap (unary operator) e.1)
  level (Expr-F.Call func es) h =
      by_levels (Expr-F.Call func (stood_list es)) (Expr-F.Call func (become_list es))
      (expr.rolls-Call func (stood_list es)) (expr.rolls-Call func (become_list es))
      (ap (call func) (lists es))
  level (Expr-F.Total which e) h =
      means_literal [] _ ∙ ap (total_over envs which)
      (whole stood_level e.0 ∙ sym (whole (as_it_becomes envs) e.0))
      ∙ sym (means_literal first _)
  level (Expr-F.List es) h =
      by_levels (Expr-F.List (stood_list es)) (Expr-F.List (become_list es))
      (expr.rolls-List (stood_list es)) (expr.rolls-List (become_list es))
      (ap (λ vs. Defined (tree.List (defined_of vs))) (lists es))
  level (Expr-F.Object ms) h =
      by_levels (Expr-F.Object (stood_members ms)) (Expr-F.Object (become_members ms))
      (expr.rolls-Object (stood_members ms)) (expr.rolls-Object (become_members ms))
      (ap (λ vs. Defined (tree.Object (members_of vs))) (members ms))

  same_level : (y : Expr-F Kept) → IsSame (roll-Expr (level_of y))
  same_level y =
      let x = level_of y in
      ap (meaning []) (stood_at x) ∙ by (is_part (roll-Expr x)) refl
    where
      by : (b : Bool) → is_part (roll-Expr (level_of y)) ≡ b
          → meaning [] (stands_where b (meaning first (roll-Expr (level_of y)))
          (as_it_becomes envs (map-Expr Expr (Expr × Expr) stood (level_of y))))
          ≡ meaning first (with_totals envs (roll-Expr (level_of y)))
      by true h =
          means_literal [] _
          ∙ ap (meaning first)
          (sym (stays envs (roll-Expr (level_of y)) (part_has_none (roll-Expr (level_of y)) h)))
      by false h =
          level y h ∙ ap (meaning first) (sym (comes_to (as_it_becomes envs) (level_of y)))

  pub same : (x : Expr) → IsSame x
  same = ind-Expr IsSame (λ x y is. subst (λ z. IsSame (roll-Expr z)) is (same_level y))

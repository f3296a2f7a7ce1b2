-- What an expression means depends only on what the steps behind its aliases lead to.
use Rattle.std.proofs.Common.{◌≡◌, ℕ, List, [], ◌∷◌, ◌++◌, map, cond, Bool, true, false, refl, sym, ap, ap₂, ◌∙◌, subst}
use Rattle.std.specs.Prelude.{⊤}
use Rattle.std.specs.Str.{bytes_eq}
use Rattle.std.proofs.lemmas.Bool.{and_parts}
use Rattle.std.proofs.lemmas.Slice.Eq.{bytes_eq-Decides}
use Rattle.ax_tree.specs.declared.members.Member.{Member}
use Rattle.ax_tree.specs.declared.tree.Tree as tree
use Rattle.ax_mean.specs.declared.expr.Chained.{Chained}
use Rattle.ax_mean.specs.declared.expr.Expr.{Expr}
use Rattle.ax_mean.specs.declared.expr.Expr.TheOpen.{Expr-F}
use Rattle.ax_mean.specs.declared.expr.Expr.TheViews.{roll-Expr}
use Rattle.ax_mean.specs.declared.expr.Expr.TheFolds.{map-Expr, fold-roll-Expr, ind-Expr}
use Rattle.ax_mean.specs.declared.expr.QueryStep.{QueryStep}
use Rattle.ax_mean.specs.declared.operator.BinaryOp.TheVariants as op
use Rattle.ax_mean.specs.declared.value.Value.{Value}
use Rattle.ax_mean.specs.declared.value.Value.TheVariants.{Defined}
use Rattle.ax_mean.specs.Building.{defined_of, members_of}
use Rattle.ax_mean.specs.Functions.{call}
use Rattle.ax_mean.specs.Meaning.{Env, bound, chosen, chain, operated, among, between, negated_where, meaning_level, meaning}
use Rattle.ax_mean.specs.Operators.{binary, unary, joined, first_defined, conjunction, disjunction, negation}
use Rattle.ax_mean.specs.Steps.{steps_from}
use Rattle.ax_excerpt.specs.Uses.{Uses, Test, all_alone, operands_alone, members_alone, uses_level, uses_in, is_within}

-- ---- environments

-- steps that are allowed behind the name lead from the values to the same
abbrev pub LeadAlike : Uses → List ℕ → Value → Value → Type 0
LeadAlike uses name v w = (steps : List QueryStep) → uses name steps ≡ true
    → steps_from v steps ≡ steps_from w steps

-- the same aliases, and values from which allowed steps lead to the same
abbrev pub AreAlike : Uses → Env → Env → Type 0
AreAlike uses [] [] = ⊤
AreAlike uses [] (p ∷ ps) = ⊥
AreAlike uses (p ∷ ps) [] = ⊥
AreAlike uses ((a, v) ∷ env) ((b, w) ∷ other) =
    (a ≡ b) × LeadAlike uses a v w × AreAlike uses env other

pub alike_itself : (uses : Uses) (env : Env) → AreAlike uses env env
alike_itself uses [] = tt
alike_itself uses ((a, v) ∷ env) = (refl, λ steps h. refl, alike_itself uses env)

pub one_more : (uses : Uses) (old new : Env) (a : List ℕ) (v : Value) → AreAlike uses old new
    → AreAlike uses (old ++ (a, v) ∷ []) (new ++ (a, v) ∷ [])
one_more uses [] [] a v alike = (refl, λ steps h. refl, tt)
one_more uses [] (p ∷ ps) a v alike = absurd alike
one_more uses (p ∷ ps) [] a v alike = absurd alike
one_more uses ((b, x) ∷ old) ((c, y) ∷ new) a v alike =
    (alike.0, alike.1, one_more uses old new a v alike.2)

pub bound_alike : (uses : Uses) (old new : Env) (name : List ℕ) → AreAlike uses old new
    → LeadAlike uses name (bound old name) (bound new name)
bound_alike uses [] [] name alike steps h = refl
bound_alike uses [] (p ∷ ps) name alike steps h = absurd alike
bound_alike uses (p ∷ ps) [] name alike steps h = absurd alike
bound_alike uses ((a, v) ∷ old) ((b, w) ∷ new) name alike steps h =
    by (bytes_eq a name) refl (bound_alike uses old new name alike.2 steps h)
    ∙ ap (λ c. steps_from (cond (bytes_eq c name) w (bound new name)) steps) alike.0
  where
    by : (f : Bool) → bytes_eq a name ≡ f
        → steps_from (bound old name) steps ≡ steps_from (bound new name) steps
        → steps_from (cond (bytes_eq a name) v (bound old name)) steps
        ≡ steps_from (cond (bytes_eq a name) w (bound new name)) steps
    by true is later =
        ap (λ f. steps_from (cond f v (bound old name)) steps) is
        ∙ alike.1 steps (ap (λ n. uses n steps) ((bytes_eq-Decides a name).0 is) ∙ h)
        ∙ ap (λ f. steps_from (cond f w (bound new name)) steps) (sym is)
    by false is later =
        ap (λ f. steps_from (cond f v (bound old name)) steps) is ∙ later
        ∙ ap (λ f. steps_from (cond f w (bound new name)) steps) (sym is)

pub three : {A B C D : Type 0} (f : A → B → C → D) {a x : A} {b y : B} {c z : C}
    → a ≡ x → b ≡ y → c ≡ z → f a b c ≡ f x y z
three {A} {B} {C} {D} f p q r = ap₂ (λ (k : C → D) c. k c) (ap₂ f p q) r

-- ---- expressions

module _ (uses : Uses) (old new : Env) (alike : AreAlike uses old new) where
  abbrev IsSame : Expr → Type 0
  IsSame x = (steps : List QueryStep) → uses_in uses x steps ≡ true
      → steps_from (meaning old x) steps ≡ steps_from (meaning new x) steps

  abbrev Kept : Type 0
  Kept = (x : Expr) × IsSame x

  abbrev expr_of : Kept → Expr
  expr_of e = e.0

  abbrev chained_of : Chained Kept → Chained Expr
  chained_of c = record { op = c.op; operand = expr_of c.operand }

  abbrev member_of : Member Kept → Member Expr
  member_of m = record { name = m.name; value = expr_of m.value }

  abbrev operand_test : Chained Expr → Chained Test
  operand_test c = record { op = c.op; operand = uses_in uses c.operand }

  abbrev member_test : Member Expr → Member Test
  member_test m = record { name = m.name; value = uses_in uses m.value }

  abbrev operand_in : Env → Chained Expr → Chained Value
  operand_in env c = record { op = c.op; operand = meaning env c.operand }

  abbrev member_in : Env → Member Expr → Member Value
  member_in env m = record { name = m.name; value = meaning env m.value }

  lists : (es : List Kept) → all_alone (map (uses_in uses) (map expr_of es)) ≡ true
      → map (meaning old) (map expr_of es) ≡ map (meaning new) (map expr_of es)
  lists [] h = refl
  lists (e ∷ es) h =
      let both = and_parts (uses_in uses e.0 []) _ h in
      ap₂ (λ (v : Value) vs. v ∷ vs) (e.1 [] both.0) (lists es both.1)

  chains : (cs : List (Chained Kept))
      → operands_alone (map operand_test (map chained_of cs)) ≡ true
      → map (operand_in old) (map chained_of cs) ≡ map (operand_in new) (map chained_of cs)
  chains [] h = refl
  chains (c ∷ cs) h =
      let both = and_parts (uses_in uses c.operand.0 []) _ h in
      ap₂ (λ (v : Chained Value) vs. v ∷ vs)
      (ap (λ (v : Value). record { op = c.op; operand = v }) (c.operand.1 [] both.0)) (chains cs both.1)

  members : (ms : List (Member Kept))
      → members_alone (map member_test (map member_of ms)) ≡ true
      → map (member_in old) (map member_of ms) ≡ map (member_in new) (map member_of ms)
  members [] h = refl
  members (m ∷ ms) h =
      let both = and_parts (uses_in uses m.value.0 []) _ h in
      ap₂ (λ (v : Member Value) vs. v ∷ vs)
      (ap (λ (v : Value). record { name = m.name; value = v }) (m.value.1 [] both.0)) (members ms both.1)

  abbrev level_of : Expr-F Kept → Expr-F Expr
  level_of y = map-Expr Kept Expr expr_of y

  abbrev after : List QueryStep → Value → Value
  after steps v = steps_from v steps

  level : (y : Expr-F Kept) (steps : List QueryStep)
      → uses_level uses (map-Expr Expr Test (uses_in uses) (level_of y)) steps ≡ true
      → steps_from (meaning_level old (map-Expr Expr Value (meaning old) (level_of y))) steps
      ≡ steps_from (meaning_level new (map-Expr Expr Value (meaning new) (level_of y))) steps
  level (Expr-F.Literal value) steps h = refl
  level (Expr-F.Alias name) steps h = bound_alike uses old new name alike steps h
  level (Expr-F.Steps e more) steps h = ap (after steps) (e.1 more h)
  level (Expr-F.Choice e f g) steps h =
      let a = and_parts (uses_in uses e.0 []) _ h in
      let b = and_parts (uses_in uses f.0 []) (uses_in uses g.0 []) a.1 in
      ap (after steps) (three chosen (e.1 [] a.0) (f.1 [] b.0) (g.1 [] b.1))
  level (Expr-F.Coalesce es) steps h = ap (λ vs. after steps (chain first_defined vs)) (lists es h)
  level (Expr-F.Or es) steps h = ap (λ vs. after steps (chain disjunction vs)) (lists es h)
  level (Expr-F.And es) steps h = ap (λ vs. after steps (chain conjunction vs)) (lists es h)
  level (Expr-F.Not e) steps h = ap (λ v. after steps (negation v)) (e.1 [] h)
  level (Expr-F.Compare operator e f) steps h =
      let a = and_parts (uses_in uses e.0 []) (uses_in uses f.0 []) h in
      ap (after steps) (ap₂ (binary operator) (e.1 [] a.0) (f.1 [] a.1))
  level (Expr-F.Among negated e es) steps h =
      let a = and_parts (uses_in uses e.0 []) _ h in
      ap (λ v. after steps (negated_where negated v)) (ap₂ among (e.1 [] a.0) (lists es a.1))
  level (Expr-F.Between negated e f g) steps h =
      let a = and_parts (uses_in uses e.0 []) _ h in
      let b = and_parts (uses_in uses f.0 []) (uses_in uses g.0 []) a.1 in
      ap (λ v. after steps (negated_where negated v)) (three between (e.1 [] a.0) (f.1 [] b.0) (g.1 [] b.1))
  level (Expr-F.Like negated e f) steps h =
      let a = and_parts (uses_in uses e.0 []) (uses_in uses f.0 []) h in
      ap (λ v. after steps (negated_where negated v)) (ap₂ (binary op.Like) (e.1 [] a.0) (f.1 [] a.1))
  level (Expr-F.Join es) steps h = ap (λ vs. after steps (chain joined vs)) (lists es h)
  level (Expr-F.Sum e cs) steps h =
      let a = and_parts (uses_in uses e.0 []) _ h in
      ap (after steps) (ap₂ operated (e.1 [] a.0) (chains cs a.1))
  level (Expr-F.Product e cs) steps h =
      let a = and_parts (uses_in uses e.0 []) _ h in
      ap (after steps) (ap₂ operated (e.1 [] a.0) (chains cs a.1))
  level (Expr-F.Sign operator e) steps h = ap (λ v. after steps (unary operator v)) (e.1 [] h)
  level (Expr-F.Call func es) steps h = ap (λ vs. after steps (call func vs)) (lists es h)
  level (Expr-F.Total which e) steps h = refl
  level (Expr-F.List es) steps h =
      ap (λ vs. after steps (Defined (tree.List (defined_of vs)))) (lists es h)
  level (Expr-F.Object ms) steps h =
      ap (λ vs. after steps (Defined (tree.Object (members_of vs)))) (members ms h)

  uses_roll : (x : Expr-F Expr)
      → uses_in uses (roll-Expr x) ≡ uses_level uses (map-Expr Expr Test (uses_in uses) x)
  uses_roll = fold-roll-Expr Test (uses_level uses)

  meaning_roll : (env : Env) (x : Expr-F Expr)
      → meaning env (roll-Expr x) ≡ meaning_level env (map-Expr Expr Value (meaning env) x)
  meaning_roll env = fold-roll-Expr Value (meaning_level env)

  same_level : (y : Expr-F Kept) → IsSame (roll-Expr (level_of y))
  same_level y steps h =
      ap (after steps) (meaning_roll old (level_of y))
      ∙ level y steps (ap (λ (t : Test). t steps) (sym (uses_roll (level_of y))) ∙ h)
      ∙ ap (after steps) (sym (meaning_roll new (level_of y)))

  pub same_behind : (x : Expr) (steps : List QueryStep) → uses_in uses x steps ≡ true
      → steps_from (meaning old x) steps ≡ steps_from (meaning new x) steps
  same_behind = ind-Expr IsSame (λ x y is. subst (λ z. IsSame (roll-Expr z)) is (same_level y))

  pub same_meaning : (x : Expr) → is_within uses x ≡ true → meaning old x ≡ meaning new x
  same_meaning x h = same_behind x [] h

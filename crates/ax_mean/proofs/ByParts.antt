-- Definitions by fold over the forms of expressions come from the parts: where a level says something of
-- the form itself, joined with what it says of the level's parts, so does the fold.
use Rattle.std.proofs.Common.{◌≡◌, ℕ, ◌+◌, ◌<◌, List, [], ◌∷◌, Bool, false, ◌||◌, ◌&&◌, map, sum, refl, ap, ◌∙◌, arith}
use Rattle.std.specs.List.{list_any, list_all}
use Rattle.ax_tree.specs.declared.members.Member.{Member}
use Rattle.ax_mean.specs.declared.expr.Chained.{Chained}
use Rattle.ax_mean.specs.declared.expr.Expr.{Expr, fold-Expr, out-Expr}
use Rattle.ax_mean.specs.declared.expr.Expr.TheOpen.{Expr-F}
use Rattle.ax_mean.specs.declared.expr.Expr.TheFolds.{map-Expr, fold_out-Expr}
use Rattle.ax_mean.specs.Parts.{level_parts, parts_of, size}

module _ {X A : Type 0} (h : X → A) where
  operands_mapped : (chain : List (Chained X))
      → map (λ (c : Chained A). c.operand)
      (map (λ c. record { op = c.op; operand = h c.operand }) chain)
      ≡ map h (map (λ c. c.operand) chain)
  operands_mapped [] = refl
  operands_mapped (c ∷ chain) = ap (λ rest. h c.operand ∷ rest) (operands_mapped chain)

  values_mapped : (ms : List (Member X))
      → map (λ (m : Member A). m.value)
      (map (λ m. record { name = m.name; value = h m.value }) ms)
      ≡ map h (map (λ m. m.value) ms)
  values_mapped [] = refl
  values_mapped (m ∷ ms) = ap (λ rest. h m.value ∷ rest) (values_mapped ms)

  parts_mapped : (y : Expr-F X) → level_parts (map-Expr X A h y) ≡ map h (level_parts y)
  parts_mapped (Expr-F.Sum first rest) = ap (λ parts. h first ∷ parts) (operands_mapped rest)
  parts_mapped (Expr-F.Product first rest) = ap (λ parts. h first ∷ parts) (operands_mapped rest)
  parts_mapped (Expr-F.Object members) = values_mapped members
  parts_mapped _ = refl

module _ {A : Type 0} (level : Expr-F A → A) where
  abbrev whole : Expr → A
  whole = fold-Expr A level

  -- an expression's level, with what the definition says of each part in its place
  abbrev pub level_of : Expr → Expr-F A
  level_of e = map-Expr Expr A whole (out-Expr e)

  pub fold_by_parts : {B : Type 0} (form : Expr-F A → B) (join : B → List A → A)
      → ((y : Expr-F A) → level y ≡ join (form y) (level_parts y))
      → (e : Expr) → whole e ≡ join (form (level_of e)) (map whole (parts_of e))
  fold_by_parts form join says e =
      fold_out-Expr A level e ∙ says (level_of e)
      ∙ ap (join (form (level_of e))) (parts_mapped whole (out-Expr e))

  -- the same where the level says it of some forms only, and of what is read of the result
  pub where_by_parts : {B : Type 0} (apart : Expr-F A → Bool) (read : A → B) (join : List A → B)
      → ((y : Expr-F A) → apart y ≡ false → read (level y) ≡ join (level_parts y))
      → (e : Expr) → apart (level_of e) ≡ false → read (whole e) ≡ join (map whole (parts_of e))
  where_by_parts apart read join says e h =
      ap read (fold_out-Expr A level e) ∙ says (level_of e) h
      ∙ ap join (parts_mapped whole (out-Expr e))

any_mapped : {X : Type 0} (test : X → Bool) (xs : List X)
    → list_any (λ flag. flag) (map test xs) ≡ list_any test xs
any_mapped test [] = refl
any_mapped test (x ∷ xs) = ap (λ rest. test x || rest) (any_mapped test xs)

all_mapped : {X : Type 0} (test : X → Bool) (xs : List X)
    → list_all (λ flag. flag) (map test xs) ≡ list_all test xs
all_mapped test [] = refl
all_mapped test (x ∷ xs) = ap (λ rest. test x && rest) (all_mapped test xs)

-- what an expression has where its form has it, or one of its parts
pub any_by_parts : (level form : Expr-F Bool → Bool)
    → ((y : Expr-F Bool) → level y ≡ form y || list_any (λ flag. flag) (level_parts y))
    → (e : Expr)
    → fold-Expr Bool level e
    ≡ form (level_of level e) || list_any (fold-Expr Bool level) (parts_of e)
any_by_parts level form says e =
    fold_by_parts level form (λ here flags. here || list_any (λ flag. flag) flags) says e
    ∙ ap (λ rest. form (level_of level e) || rest) (any_mapped (fold-Expr Bool level) (parts_of e))

-- what an expression passes where its form passes it, and each of its parts
pub all_by_parts : (level form : Expr-F Bool → Bool)
    → ((y : Expr-F Bool) → level y ≡ form y && list_all (λ flag. flag) (level_parts y))
    → (e : Expr)
    → fold-Expr Bool level e
    ≡ form (level_of level e) && list_all (fold-Expr Bool level) (parts_of e)
all_by_parts level form says e =
    fold_by_parts level form (λ here flags. here && list_all (λ flag. flag) flags) says e
    ∙ ap (λ rest. form (level_of level e) && rest) (all_mapped (fold-Expr Bool level) (parts_of e))

pub size_by_parts : (e : Expr) → size e ≡ sum (map size (parts_of e)) + 1
size_by_parts =
    fold_by_parts (λ level. sum (level_parts level) + 1) {B = ℕ} (λ _. 0) (λ _ sizes. sum sizes + 1)
    (λ y. refl)

pub parts_smaller : (e : Expr) → sum (map size (parts_of e)) < size e
parts_smaller e = omega (arith, size_by_parts e)

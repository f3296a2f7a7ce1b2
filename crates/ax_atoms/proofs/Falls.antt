-- What an expression falls into, by its variant.
use Rattle.std.proofs.Common.{◌≡◌, List, [], ◌∷◌, length, refl, sym, ap, ◌∙◌}
use Rattle.std.specs.List.{flat_map}
use Rattle.ax_mean.specs.declared.expr.Expr as expr
use Rattle.ax_mean.specs.declared.expr.Expr.{Expr, out-Expr}
use Rattle.ax_mean.specs.declared.expr.Expr.TheOpen.{Expr-F}
use Rattle.ax_mean.specs.declared.expr.Expr.TheViews.{roll-Expr, roll-out-Expr}
use Rattle.ax_mean.specs.declared.expr.Expr.TheVariants.{rolls-And}
use Rattle.ax_atoms.specs.Operands.{operands}
use Rattle.ax_atoms.proofs.Split.{operands_and, operands_other}

no_items : {A : Type 0} → (length {A = Expr} [] ≡ 0 → ⊥) → A
no_items h = absurd (h refl)

and_joined : (items : List Expr) → (length items ≡ 0 → ⊥)
    → operands (roll-Expr (Expr-F.And items)) ≡ flat_map operands items
and_joined [] h = no_items h
and_joined (x ∷ xs) h = operands_and x xs

pub and_falls : (x : Expr) (items : List Expr) → x ≡ expr.And items → (length items ≡ 0 → ⊥)
    → operands x ≡ flat_map operands items
and_falls x items is some = ap operands (is ∙ sym (rolls-And items)) ∙ and_joined items some

and_alone : (items : List Expr) → length items ≡ 0
    → operands (roll-Expr (Expr-F.And items)) ≡ roll-Expr (Expr-F.And items) ∷ []
and_alone [] h = operands_other (Expr-F.And []) refl
and_alone (x ∷ xs) h = absurd (let e : ⊥ = cc in e)

pub empty_falls : (x : Expr) (items : List Expr) → x ≡ expr.And items → length items ≡ 0
    → operands x ≡ x ∷ []
empty_falls x items is none =
    let e : x ≡ roll-Expr (Expr-F.And items) = is ∙ sym (rolls-And items) in
    ap operands e ∙ and_alone items none ∙ ap (λ y. y ∷ []) (sym e)

level_falls : (z : Expr-F Expr) → ((items : List Expr) → z ≡ Expr-F.And items → ⊥)
    → operands (roll-Expr z) ≡ roll-Expr z ∷ []
level_falls (Expr-F.And items) apart = absurd (apart items refl)
level_falls z apart = operands_other z refl

pub other_falls : (x : Expr) → ((items : List Expr) → x ≡ expr.And items → ⊥) → operands x ≡ x ∷ []
other_falls x apart =
    ap operands (sym (roll-out-Expr x))
    ∙ level_falls (out-Expr x) (λ items e. apart items (sym (roll-out-Expr x) ∙ ap roll-Expr e ∙ rolls-And items))
    ∙ ap (λ y. y ∷ []) (roll-out-Expr x)

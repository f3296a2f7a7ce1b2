-- An expression that is no aggregate asks for what its parts ask for, one after another.
use Rattle.std.proofs.Common.{◌≡◌, List, [], ◌∷◌, ◌++◌, false, map, refl, sym, ap, ◌∙◌}
use Rattle.ax_tree.specs.declared.members.Member.{Member}
use Rattle.ax_mean.specs.declared.expr.Chained.{Chained}
use Rattle.ax_mean.specs.declared.expr.Expr.{Expr, out-Expr}
use Rattle.ax_mean.specs.declared.expr.Expr.TheFolds.{map-Expr}
use Rattle.ax_mean.specs.declared.expr.Expr.TheOpen.{Expr-F}
use Rattle.ax_mean.specs.Aggregates.{is_total, is_total_level}
use Rattle.ax_mean.specs.Parts.{level_parts, parts_of}
use Rattle.ax_mean.proofs.ByParts.{where_by_parts}
use Rattle.ax_result.specs.Totals.{beside}
use Rattle.ax_group.specs.Walks.{Ask, Asks, all_asked, operands_asked, members_asked, asked_level, asks_level, asked_within, asked_pair}

nothing_behind : (xs : List Ask) → xs ≡ xs ++ []
nothing_behind [] = refl
nothing_behind (x ∷ xs) = ap (λ rest. x ∷ rest) (nothing_behind xs)

two : (a b : List Ask) → a ++ b ≡ a ++ (b ++ [])
two a b = ap (λ c. a ++ c) (nothing_behind b)

three : (a b c : List Ask) → a ++ (b ++ c) ≡ a ++ (b ++ (c ++ []))
three a b c = ap (λ d. a ++ d) (two b c)

operands : (chain : List (Chained (Expr × Asks)))
    → operands_asked chain ≡ all_asked (map (λ c. c.operand) chain)
operands [] = refl
operands (c ∷ chain) = ap (λ rest. c.operand.1.whole ++ rest) (operands chain)

values : (ms : List (Member (Expr × Asks)))
    → members_asked ms ≡ all_asked (map (λ m. m.value) ms)
values [] = refl
values (m ∷ ms) = ap (λ rest. m.value.1.whole ++ rest) (values ms)

by_level : (y : Expr-F (Expr × Asks)) → is_total_level y ≡ false
    → asked_level y ≡ all_asked (level_parts y)
by_level (Expr-F.Steps base steps) h = nothing_behind base.1.whole
by_level (Expr-F.Choice test a b) h = three test.1.whole a.1.whole b.1.whole
by_level (Expr-F.Not a) h = nothing_behind a.1.whole
by_level (Expr-F.Compare operator a b) h = two a.1.whole b.1.whole
by_level (Expr-F.Between negated left low high) h = three left.1.whole low.1.whole high.1.whole
by_level (Expr-F.Like negated left pattern) h = two left.1.whole pattern.1.whole
by_level (Expr-F.Sum first rest) h = ap (λ asks. first.1.whole ++ asks) (operands rest)
by_level (Expr-F.Product first rest) h = ap (λ asks. first.1.whole ++ asks) (operands rest)
by_level (Expr-F.Sign operator a) h = nothing_behind a.1.whole
by_level (Expr-F.Total which argument) h = absurd (let e : ⊥ = cc in e)
by_level (Expr-F.Object members) h = values members
by_level _ h = refl

total_mapped : (y : Expr-F Expr)
    → is_total_level (map-Expr Expr (Expr × Asks) asked_pair y) ≡ is_total_level y
total_mapped (Expr-F.Total which argument) = refl
total_mapped _ = refl

asked_by_parts : (x : Expr) → is_total x ≡ false
    → asked_within x ≡ all_asked (map asked_pair (parts_of x))
asked_by_parts x h =
    where_by_parts (beside asks_level) is_total_level (λ (p : Expr × Asks). p.1.within) all_asked
    by_level x (total_mapped (out-Expr x) ∙ h)

pub parts_collected : (x : Expr) (old new : List Ask) → is_total x ≡ false
    → new ≡ old ++ all_asked (map asked_pair (parts_of x)) → new ≡ old ++ asked_within x
parts_collected x old new h e = e ∙ ap (λ asks. old ++ asks) (sym (asked_by_parts x h))

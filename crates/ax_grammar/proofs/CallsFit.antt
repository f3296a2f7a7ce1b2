-- In an expression that is written by the grammar each function has as many arguments as it takes.
use Rattle.std.proofs.Common.{◌≡◌, ℕ, List, [], ◌∷◌, Bool, true, ◌&&◌, map, refl, sym, ap, ap₂, ◌∙◌}
use Rattle.std.specs.List.{list_all}
use Rattle.std.proofs.lemmas.List.{length-map}
use Rattle.ax_lex.specs.Lexeme.{Lexeme}
use Rattle.ax_tree.specs.declared.members.Member.{Member}
use Rattle.ax_tree.specs.declared.tree.Tree.{Tree}
use Rattle.ax_mean.specs.declared.expr.Chained.{Chained}
use Rattle.ax_mean.specs.declared.expr.Expr.{Expr}
use Rattle.ax_mean.specs.declared.expr.Expr.TheOpen.{Expr-F}
use Rattle.ax_mean.specs.declared.expr.Expr.TheVariants as expr
use Rattle.ax_mean.specs.declared.expr.Expr.TheFolds.{map-Expr, fold-roll-Expr}
use Rattle.ax_mean.specs.declared.expr.Expr.TheViews.{roll-Expr}
use Rattle.ax_mean.specs.declared.value.Value.{Value}
use Rattle.ax_mean.specs.Functions.{takes}
use Rattle.ax_grammar.specs.Expressions.{IsExpr, Follow, AreChained, AreListed, IsMember, MembersFollow, AreMembers}
use Rattle.ax_grammar.specs.Expressions.IsExpr.{plain_choice, chosen, plain_coalesce, coalesced, plain_disjunction, disjoined, plain_conjunction, conjoined, plain_negation, denied, plain_comparison, compared, among, ranged, like, plain_concatenation, concatenated, plain_sum, summed, plain_product, multiplied, plain_sign, signed, least, plain_postfix, stepped, null, true_value, false_value, undefined, number_value, text_value, parameter_value, called, totalled, alias, bracketed, listed, mapped}
use Rattle.ax_grammar.specs.Expressions.Follow.{followed_by_none, followed_by}
use Rattle.ax_grammar.specs.Expressions.AreChained.{chain_ended, chain_goes_on}
use Rattle.ax_grammar.specs.Expressions.AreListed.{empty_list, full_list}
use Rattle.ax_grammar.specs.Expressions.IsMember.{labelled}
use Rattle.ax_grammar.specs.Expressions.MembersFollow.{no_member_follows, member_follows}
use Rattle.ax_grammar.specs.Expressions.AreMembers.{empty_map, full_map}
use Rattle.ax_grammar.specs.Levels.{Level}
use Rattle.ax_grammar.specs.Takes.{Mark}
use Rattle.ax_grammar.specs.Parts.{calls_level, calls_fit}

and : {a b : Bool} → a ≡ true → b ≡ true → (a && b) ≡ true
and p q = ap₂ (λ a b. a && b) p q

calls_at : (y : Expr-F Expr)
    → calls_fit (roll-Expr y) ≡ calls_level (map-Expr Expr Bool calls_fit y)
calls_at = fold-roll-Expr Bool calls_level

-- an expression by its form
at : {x : Expr} (y : Expr-F Expr) → roll-Expr y ≡ x
    → calls_level (map-Expr Expr Bool calls_fit y) ≡ true → calls_fit x ≡ true
at y is fits = ap calls_fit (sym is) ∙ calls_at y ∙ fits

literal_fits : (value : Value) → calls_fit (expr.Literal value) ≡ true
literal_fits value = at (Expr-F.Literal value) (expr.rolls-Literal value) refl

abbrev chained_seen : Chained Expr → Chained Bool
chained_seen c = record { op = c.op; operand = calls_fit c.operand }

abbrev member_seen : Member Expr → Member Bool
member_seen m = record { name = m.name; value = calls_fit m.value }

abbrev AllFit : List Expr → Type 0
AllFit xs = list_all (λ part. part) (map calls_fit xs) ≡ true

abbrev OperandsFit : List (Chained Expr) → Type 0
OperandsFit cs = list_all (λ part. part) (map (λ c. c.operand) (map chained_seen cs)) ≡ true

abbrev ValuesFit : List (Member Expr) → Type 0
ValuesFit ms = list_all (λ part. part) (map (λ m. m.value) (map member_seen ms)) ≡ true

mutual
  pub expr_fits : {params : List (Member Tree)} {n : ℕ} {level : Level} {before : List Lexeme}
      {x : Expr} {after : List Lexeme} → IsExpr params n level before x after
      → calls_fit x ≡ true
  expr_fits (plain_choice a) = expr_fits a
  expr_fits (chosen a m b c d) =
      at _ (expr.rolls-Choice _ _ _)
      (and (expr_fits a) (and (expr_fits b) (and (expr_fits d) refl)))
  expr_fits (plain_coalesce a) = expr_fits a
  expr_fits (coalesced a f) = at _ (expr.rolls-Coalesce _) (and (expr_fits a) (follow_fits f))
  expr_fits (plain_disjunction a) = expr_fits a
  expr_fits (disjoined a f) = at _ (expr.rolls-Or _) (and (expr_fits a) (follow_fits f))
  expr_fits (plain_conjunction a) = expr_fits a
  expr_fits (conjoined a f) = at _ (expr.rolls-And _) (and (expr_fits a) (follow_fits f))
  expr_fits (plain_negation a) = expr_fits a
  expr_fits (denied m a) = at _ (expr.rolls-Not _) (and (expr_fits a) refl)
  expr_fits (plain_comparison a) = expr_fits a
  expr_fits (compared a m t b) =
      at _ (expr.rolls-Compare _ _ _) (and (expr_fits a) (and (expr_fits b) refl))
  expr_fits (among a g m o b f l c) =
      at _ (expr.rolls-Among _ _ _) (and (expr_fits a) (and (expr_fits b) (follow_fits f)))
  expr_fits (ranged a g m b w c) =
      at _ (expr.rolls-Between _ _ _ _)
      (and (expr_fits a) (and (expr_fits b) (and (expr_fits c) refl)))
  expr_fits (like a g m b) =
      at _ (expr.rolls-Like _ _ _) (and (expr_fits a) (and (expr_fits b) refl))
  expr_fits (plain_concatenation a) = expr_fits a
  expr_fits (concatenated a f) = at _ (expr.rolls-Join _) (and (expr_fits a) (follow_fits f))
  expr_fits (plain_sum a) = expr_fits a
  expr_fits (summed a f) = at _ (expr.rolls-Sum _ _) (and (expr_fits a) (chain_fits f))
  expr_fits (plain_product a) = expr_fits a
  expr_fits (multiplied a f) = at _ (expr.rolls-Product _ _) (and (expr_fits a) (chain_fits f))
  expr_fits (plain_sign a) = expr_fits a
  expr_fits (signed m t a) = at _ (expr.rolls-Sign _ _) (and (expr_fits a) refl)
  expr_fits (least m v e h) = literal_fits _
  expr_fits (plain_postfix a) = expr_fits a
  expr_fits (stepped a s) = at _ (expr.rolls-Steps _ _) (and (expr_fits a) refl)
  expr_fits (null m) = literal_fits _
  expr_fits (true_value m) = literal_fits _
  expr_fits (false_value m) = literal_fits _
  expr_fits (undefined m) = literal_fits _
  expr_fits (number_value m l) = literal_fits _
  expr_fits (text_value m) = literal_fits _
  expr_fits (parameter_value m e) = literal_fits _
  expr_fits (called {func = func} {args = args} m t o a h) =
      at _ (expr.rolls-Call _ _)
      (and (ap (takes func) (length-map args calls_fit) ∙ h) (list_fits a))
  expr_fits (totalled m t o a c) = at _ (expr.rolls-Total _ _) (and (expr_fits a) refl)
  expr_fits (alias m h) = at _ (expr.rolls-Alias _) refl
  expr_fits (bracketed o a c) = expr_fits a
  expr_fits (listed o a l) = at _ (expr.rolls-List _) (list_fits a)
  expr_fits (mapped o a l) = at _ (expr.rolls-Object _) (members_fit a)

  pub follow_fits : {params : List (Member Tree)} {n : ℕ} {operand : Level} {mark : Mark}
      {before : List Lexeme} {xs : List Expr} {after : List Lexeme}
      → Follow params n operand mark before xs after → AllFit xs
  follow_fits followed_by_none = refl
  follow_fits (followed_by m a f) = and (expr_fits a) (follow_fits f)

  chain_fits : {params : List (Member Tree)} {n : ℕ} {operand : Level} {before : List Lexeme}
      {cs : List (Chained Expr)} {after : List Lexeme}
      → AreChained params n operand before cs after → OperandsFit cs
  chain_fits chain_ended = refl
  chain_fits (chain_goes_on m t a f) = and (expr_fits a) (chain_fits f)

  list_fits : {params : List (Member Tree)} {n : ℕ} {close : Mark} {before : List Lexeme}
      {xs : List Expr} {after : List Lexeme} → AreListed params n close before xs after
      → AllFit xs
  list_fits (empty_list c) = refl
  list_fits (full_list a f c) = and (expr_fits a) (follow_fits f)

  member_fits : {params : List (Member Tree)} {n : ℕ} {before : List Lexeme} {m : Member Expr}
      {after : List Lexeme} → IsMember params n before m after → calls_fit m.value ≡ true
  member_fits (labelled l c a) = expr_fits a

  behind_fit : {params : List (Member Tree)} {n : ℕ} {before : List Lexeme}
      {ms : List (Member Expr)} {after : List Lexeme}
      → MembersFollow params n before ms after → ValuesFit ms
  behind_fit no_member_follows = refl
  behind_fit (member_follows c a f) = and (member_fits a) (behind_fit f)

  members_fit : {params : List (Member Tree)} {n : ℕ} {before : List Lexeme}
      {ms : List (Member Expr)} {after : List Lexeme} → AreMembers params n before ms after
      → ValuesFit ms
  members_fit (empty_map c) = refl
  members_fit (full_map a f c) = and (member_fits a) (behind_fit f)

pub as_parts : (xs : List Expr) → AllFit xs → list_all calls_fit xs ≡ true
as_parts xs fits = sym (unmapped xs) ∙ fits
  where
    unmapped : (es : List Expr)
        → list_all (λ part. part) (map calls_fit es) ≡ list_all calls_fit es
    unmapped [] = refl
    unmapped (e ∷ es) = ap (λ rest. calls_fit e && rest) (unmapped es)

-- Each level of expressions that is read is the level of the grammar: the levels over what may
-- stand inside, and then by recursion on how much may.
use Rattle.std.proofs.Common.{◌≡◌, ℕ, zero, suc, ◌≤◌, Bool, true, false, List, length, Option, Some}
use Rattle.ax_lex.specs.declared.keyword.Keyword.TheVariants as keyword
use Rattle.ax_lex.specs.declared.symbol.Symbol.{Symbol}
use Rattle.ax_lex.specs.declared.symbol.Symbol.TheVariants as symbol
use Rattle.ax_lex.specs.Lexeme.{Lexeme}
use Rattle.ax_tree.specs.declared.members.Member.{Member}
use Rattle.ax_tree.specs.declared.tree.Tree.{Tree}
use Rattle.ax_mean.specs.declared.expr.Expr.{Expr}
use Rattle.ax_mean.specs.declared.expr.Expr.TheVariants as expr
use Rattle.ax_mean.specs.declared.operator.BinaryOp.{BinaryOp}
use Rattle.ax_mean.specs.declared.operator.UnaryOp.{UnaryOp}
use Rattle.ax_grammar.specs.Expressions.{MayBeNegated, IsExpr, Follow}
use Rattle.ax_grammar.specs.Expressions.MayBeNegated.{plain, negated}
use Rattle.ax_grammar.specs.Expressions.IsExpr.{plain_choice, chosen, plain_coalesce, coalesced, plain_disjunction, disjoined, plain_conjunction, conjoined, plain_negation, denied, plain_comparison, compared, among, ranged, like, plain_concatenation, concatenated, plain_sum, summed, plain_product, multiplied}
use Rattle.ax_grammar.specs.ExprReader.{Inner, read_among, read_between, read_like, read_predicate, compare_or_predicate, read_comparison, read_branches, read_choice, postfix_over, sign_over, product_over, sum_over, concatenation_over, comparison_over, negation_over, conjunction_over, disjunction_over, coalesce_over, level_over, innermost, inner_over, inner_at, read_level, read_expr, read_atom}
use Rattle.ax_grammar.specs.Levels.{Level}
use Rattle.ax_grammar.specs.Reading.{Reader, at_once, nothing_read}
use Rattle.ax_grammar.specs.Tables.{comparison_of, sign_of, most_items, most_nesting}
use Rattle.ax_grammar.specs.Takes.{TakesSymbol, TakesKeyword}
use Rattle.ax_grammar.specs.Takes.Mark.{the_symbol, the_keyword}
use Rattle.ax_grammar.proofs.SoundAtoms.{atom_sound, postfix_sound, sign_sound, signed_gives}
use Rattle.ax_grammar.proofs.SoundMarks.{AreParted, gives_where, gives_behind, gives_closed}
use Rattle.ax_grammar.proofs.SoundMarks.AreParted.{are_parted}
use Rattle.ax_grammar.proofs.SoundParts.{gives_within, exprs_sound, chain_sound, operated_sound}
use Rattle.ax_grammar.proofs.SoundReading.{Gives, IsSound, gives_changed, gives_then, gives_with}
use Rattle.ax_grammar.proofs.SoundReading.Gives.{gives_none, gives}
use Rattle.ax_grammar.proofs.SoundSteps.{TakesOperator, operator_sound}

module _ (params : List (Member Tree)) (n : ℕ) where
  is_among : {is_not : Bool} {x : Expr} {items : List Expr}
      {before mark word bracket first after : List Lexeme}
      → IsExpr params n Level.concatenation before x mark → MayBeNegated is_not mark word
      → TakesKeyword keyword.In word bracket → TakesSymbol symbol.OpenParenthesis bracket first
      → (end : List Lexeme)
      → AreParted (IsExpr params n Level.choice)
      (Follow params n Level.choice (the_symbol symbol.Comma)) first items end
      → length items ≤ most_items → TakesSymbol symbol.CloseParenthesis end after
      → IsExpr params n Level.comparison before (expr.Among is_not x items) after
  is_among h m i b end (are_parted k ks) few c = among h m i b k ks few c

  module _ (inside concatenation : Reader Expr) (s : IsSound (IsExpr params n Level.choice) inside)
      (c : IsSound (IsExpr params n Level.concatenation) concatenation) where
    among_gives : (is_not : Bool) (x : Expr) (before mark word rest : List Lexeme)
        → IsExpr params n Level.concatenation before x mark → MayBeNegated is_not mark word
        → TakesKeyword keyword.In word rest
        → Gives (IsExpr params n Level.comparison before) (read_among inside is_not x rest)
    among_gives is_not x before mark word rest h m i =
        gives_behind (the_symbol symbol.OpenParenthesis) _ rest (λ first b.
        gives_changed {Q = IsExpr params n Level.comparison before} (expr.Among is_not x)
        (gives_closed
        {Q = λ items after. IsExpr params n Level.comparison before
        (expr.Among is_not x items) after}
        (the_symbol symbol.CloseParenthesis)
        (gives_within
        (exprs_sound params n Level.choice (the_symbol symbol.Comma) inside s first))
        (λ items end after k t. is_among h m i b end k.0 k.1 t)) (λ items after k. k))

    between_gives : (is_not : Bool) (x : Expr) (before mark word rest : List Lexeme)
        → IsExpr params n Level.concatenation before x mark → MayBeNegated is_not mark word
        → TakesKeyword keyword.Between word rest
        → Gives (IsExpr params n Level.comparison before)
        (read_between concatenation is_not x rest)
    between_gives is_not x before mark word rest h m i =
        gives_then _ (c rest) (λ low mid k.
        gives_changed {P = λ high after. IsExpr params n Level.comparison before
        (expr.Between is_not x low high) after} (expr.Between is_not x low)
        (gives_behind (the_keyword keyword.And) concatenation mid (λ second a.
        gives_with (c second) (λ high after l. ranged h m i k a l))) (λ high after l. l))

    like_gives : (is_not : Bool) (x : Expr) (before mark word rest : List Lexeme)
        → IsExpr params n Level.concatenation before x mark → MayBeNegated is_not mark word
        → TakesKeyword keyword.Like word rest
        → Gives (IsExpr params n Level.comparison before) (read_like concatenation is_not x rest)
    like_gives is_not x before mark word rest h m i =
        gives_changed (expr.Like is_not x) (c rest) (λ pattern_part after k. like h m i k)

    predicate_gives : (is_not : Bool) (x : Expr) (before mark word : List Lexeme)
        (else_way : Reader Expr) → IsExpr params n Level.concatenation before x mark
        → MayBeNegated is_not mark word
        → Gives (IsExpr params n Level.comparison before) (else_way word)
        → Gives (IsExpr params n Level.comparison before)
        (read_predicate inside concatenation is_not x else_way word)
    predicate_gives is_not x before mark word else_way h m e =
        gives_where (the_keyword keyword.In) (read_among inside is_not x) _ word
        (λ rest i. among_gives is_not x before mark word rest h m i) (λ no_in.
        gives_where (the_keyword keyword.Between) (read_between concatenation is_not x) _ word
        (λ rest i. between_gives is_not x before mark word rest h m i) (λ no_between.
        gives_where (the_keyword keyword.Like) (read_like concatenation is_not x) else_way word
        (λ rest i. like_gives is_not x before mark word rest h m i) (λ no_like. e)))

    compare_gives : (x : Expr) (before mark : List Lexeme) {o : Option (BinaryOp × List Lexeme)}
        → IsExpr params n Level.concatenation before x mark
        → Gives (TakesOperator comparison_of mark) o
        → Gives (IsExpr params n Level.comparison before)
        (compare_or_predicate inside concatenation x o mark)
    compare_gives x before mark h (gives {found} t) =
        gives_changed (expr.Compare found.0 x) (c found.1) (λ y after k.
        compared h t.first t.is_it k)
    compare_gives x before mark h gives_none =
        gives_where (the_keyword keyword.Not) _ _ mark
        (λ word t.
        predicate_gives true x before mark word nothing_read h (negated t) gives_none) (λ e.
        predicate_gives false x before mark mark (at_once x) h plain
        (gives (plain_comparison h)))

    comparison_sound : IsSound (IsExpr params n Level.comparison)
        (read_comparison inside concatenation)
    comparison_sound lexemes =
        gives_then _ (c lexemes) (λ x mark h.
        compare_gives x lexemes mark h (operator_sound comparison_of mark))

  -- the choice, one further out
  branches_gives : (inside : Reader Expr) → IsSound (IsExpr params n Level.choice) inside
      → (test : Expr) (before mark then_part : List Lexeme)
      → IsExpr params n Level.coalesce before test mark
      → TakesSymbol symbol.Question mark then_part
      → Gives (IsExpr params (suc n) Level.choice before) (read_branches inside test then_part)
  branches_gives inside s test before mark then_part h q =
      gives_then _ (s then_part) (λ first colon k.
      gives_changed {P = λ second after. IsExpr params (suc n) Level.choice before
      (expr.Choice test first second) after} (expr.Choice test first)
      (gives_behind (the_symbol symbol.Colon) inside colon (λ else_part t.
      gives_with (s else_part) (λ second after l. chosen h q k t l))) (λ second after l. l))

  choice_sound : (coalesce inside : Reader Expr)
      → IsSound (IsExpr params n Level.coalesce) coalesce
      → IsSound (IsExpr params n Level.choice) inside
      → IsSound (IsExpr params (suc n) Level.choice) (read_choice coalesce inside)
  choice_sound coalesce inside c s lexemes =
      gives_then _ (c lexemes) (λ test mark h.
      gives_where (the_symbol symbol.Question) (read_branches inside test) (at_once test) mark
      (λ then_part q. branches_gives inside s test lexemes mark then_part h q) (λ e.
      gives (plain_choice h)))

  -- The productions that step the nesting, read by these, are those of the grammar.
  record InnerIsSound (inner : Inner) : Type 0 where
    inside : IsSound (IsExpr params n Level.choice) inner.choice
    behind_not : (before rest : List Lexeme) → TakesKeyword keyword.Not before rest
        → Gives (IsExpr params n Level.negation before) (inner.denied rest)
    behind_sign : (operator : UnaryOp) (which : Symbol) (before rest : List Lexeme)
        → TakesSymbol which before rest → sign_of which ≡ Some operator
        → Gives (IsExpr params n Level.sign before) (inner.signed operator rest)

  module _ (inner : Inner) (i : InnerIsSound inner) where
    atom_over_sound : IsSound (IsExpr params n Level.atom) (read_atom params inner.choice)
    atom_over_sound = atom_sound params n inner.choice i.inside

    postfix_over_sound : IsSound (IsExpr params n Level.postfix) (postfix_over params inner)
    postfix_over_sound = postfix_sound params n (read_atom params inner.choice) atom_over_sound

    sign_over_sound : IsSound (IsExpr params n Level.sign) (sign_over params inner)
    sign_over_sound =
        sign_sound params n inner.signed (postfix_over params inner) i.behind_sign
        postfix_over_sound

    product_over_sound : IsSound (IsExpr params n Level.product) (product_over params inner)
    product_over_sound =
        operated_sound params n expr.Product (sign_over params inner)
        (λ x before after h. plain_product h)
        (λ x c cs before mid after h k. multiplied h k) sign_over_sound

    sum_over_sound : IsSound (IsExpr params n Level.sum) (sum_over params inner)
    sum_over_sound =
        operated_sound params n expr.Sum (product_over params inner)
        (λ x before after h. plain_sum h)
        (λ x c cs before mid after h k. summed h k) product_over_sound

    concatenation_over_sound : IsSound (IsExpr params n Level.concatenation)
        (concatenation_over params inner)
    concatenation_over_sound =
        chain_sound params n expr.Join (sum_over params inner)
        (λ x before after h. plain_concatenation h)
        (λ x y ys before mid after h k. concatenated h k) sum_over_sound

    comparison_over_sound : IsSound (IsExpr params n Level.comparison)
        (comparison_over params inner)
    comparison_over_sound =
        comparison_sound inner.choice (concatenation_over params inner) i.inside
        concatenation_over_sound

    negation_over_sound : IsSound (IsExpr params n Level.negation) (negation_over params inner)
    negation_over_sound lexemes =
        gives_where (the_keyword keyword.Not) inner.denied (comparison_over params inner) lexemes
        (λ rest t. i.behind_not lexemes rest t) (λ e.
        gives_with (comparison_over_sound lexemes) (λ x after h. plain_negation h))

    conjunction_over_sound : IsSound (IsExpr params n Level.conjunction)
        (conjunction_over params inner)
    conjunction_over_sound =
        chain_sound params n expr.And (negation_over params inner)
        (λ x before after h. plain_conjunction h)
        (λ x y ys before mid after h k. conjoined h k) negation_over_sound

    disjunction_over_sound : IsSound (IsExpr params n Level.disjunction)
        (disjunction_over params inner)
    disjunction_over_sound =
        chain_sound params n expr.Or (conjunction_over params inner)
        (λ x before after h. plain_disjunction h)
        (λ x y ys before mid after h k. disjoined h k) conjunction_over_sound

    coalesce_over_sound : IsSound (IsExpr params n Level.coalesce) (coalesce_over params inner)
    coalesce_over_sound =
        chain_sound params n expr.Coalesce (disjunction_over params inner)
        (λ x before after h. plain_coalesce h)
        (λ x y ys before mid after h k. coalesced h k) disjunction_over_sound

    level_over_sound : (level : Level)
        → IsSound (IsExpr params n level) (level_over params level inner)
    level_over_sound Level.choice = i.inside
    level_over_sound Level.coalesce = coalesce_over_sound
    level_over_sound Level.disjunction = disjunction_over_sound
    level_over_sound Level.conjunction = conjunction_over_sound
    level_over_sound Level.negation = negation_over_sound
    level_over_sound Level.comparison = comparison_over_sound
    level_over_sound Level.concatenation = concatenation_over_sound
    level_over_sound Level.sum = sum_over_sound
    level_over_sound Level.product = product_over_sound
    level_over_sound Level.sign = sign_over_sound
    level_over_sound Level.postfix = postfix_over_sound
    level_over_sound Level.atom = atom_over_sound

innermost_sound : (params : List (Member Tree)) → InnerIsSound params zero innermost
innermost_sound params = record {
  inside = λ lexemes. gives_none;
  behind_not = λ before rest t. gives_none;
  behind_sign = λ operator which before rest t e. gives_none;
}

-- one more may stand inside
inner_over_sound : (params : List (Member Tree)) (n : ℕ) (inner : Inner)
    → InnerIsSound params n inner → InnerIsSound params (suc n) (inner_over params inner)
inner_over_sound params n inner i = record {
  inside = choice_sound params n (coalesce_over params inner) inner.choice
      (coalesce_over_sound params n inner i) i.inside;
  behind_not = λ before rest t.
      gives_changed expr.Not (negation_over_sound params n inner i rest)
      (λ x after h. denied t h);
  behind_sign = λ operator which before rest t e.
      signed_gives params n operator which (sign_over params inner) before rest
      (sign_over_sound params n inner i) t e;
}

inner_at_sound : (params : List (Member Tree)) (n : ℕ)
    → InnerIsSound params n (inner_at params n)
unfolding inner_at
inner_at_sound params zero = innermost_sound params
inner_at_sound params (suc n) =
    inner_over_sound params n (inner_at params n) (inner_at_sound params n)

pub level_sound : (params : List (Member Tree)) (n : ℕ) (level : Level)
    → IsSound (IsExpr params n level) (read_level params n level)
level_sound params n level =
    level_over_sound params n (inner_at params n) (inner_at_sound params n) level

pub expr_sound : (params : List (Member Tree))
    → IsSound (IsExpr params most_nesting Level.choice) (read_expr params)
expr_sound params = level_sound params most_nesting Level.choice

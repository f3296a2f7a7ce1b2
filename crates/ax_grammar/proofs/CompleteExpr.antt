-- Expressions: what stands between two places is what the reader reads there, where what is behind
-- does not go on an expression of that level.
use Rattle.std.proofs.Common.{◌≡◌, ℕ, false, List, ◌∷◌, None, refl, arith}
use Rattle.ax_lex.specs.declared.keyword.Keyword.TheVariants as keyword
use Rattle.ax_lex.specs.declared.symbol.Symbol.TheVariants as symbol
use Rattle.ax_lex.specs.Lexeme.{Lexeme}
use Rattle.ax_mean.specs.declared.expr.Chained.{Chained}
use Rattle.ax_mean.specs.declared.expr.Expr.{Expr}
use Rattle.ax_mean.specs.declared.expr.QueryStep.{QueryStep}
use Rattle.ax_mean.specs.declared.expr.Expr.TheVariants as expr
use Rattle.ax_tree.specs.declared.members.Member.{Member}
use Rattle.ax_tree.specs.declared.tree.Tree.{Tree}
use Rattle.ax_grammar.specs.Expressions.{IsExpr, Follow, AreChained, AreListed, IsMember, MembersFollow, AreMembers}
use Rattle.ax_grammar.specs.Expressions.IsExpr.{plain_choice, chosen, plain_coalesce, coalesced, plain_disjunction, disjoined, plain_conjunction, conjoined, plain_negation, denied, plain_comparison, compared, among, ranged, like, plain_concatenation, concatenated, plain_sum, summed, plain_product, multiplied, plain_sign, signed, least, plain_postfix, stepped, null, true_value, false_value, undefined, number_value, text_value, parameter_value, called, totalled, alias, bracketed, listed, mapped}
use Rattle.ax_grammar.specs.Expressions.Follow.{followed_by_none, followed_by}
use Rattle.ax_grammar.specs.Expressions.AreChained.{chain_ended, chain_goes_on}
use Rattle.ax_grammar.specs.Expressions.AreListed.{empty_list, full_list}
use Rattle.ax_grammar.specs.Expressions.IsMember.{labelled}
use Rattle.ax_grammar.specs.Expressions.MembersFollow.{no_member_follows, member_follows}
use Rattle.ax_grammar.specs.Expressions.AreMembers.{empty_map, full_map}
use Rattle.ax_grammar.specs.ExprReader.{inner_at, turn_chained, read_list, read_member, read_members, read_level}
use Rattle.ax_grammar.specs.Fronts.{extends}
use Rattle.ax_grammar.specs.Levels.{Level}
use Rattle.ax_grammar.specs.Reading.{marked, take, take_operator}
use Rattle.ax_grammar.specs.Steps.{IsStep, AreSteps}
use Rattle.ax_grammar.specs.Steps.IsNameStep.{dotted, quoted}
use Rattle.ax_grammar.specs.Steps.IsStep.{named, positioned}
use Rattle.ax_grammar.specs.Steps.AreSteps.{ended as steps_ended, more as more_steps}
use Rattle.ax_grammar.specs.Tables.{operator_before}
use Rattle.ax_grammar.specs.Takes.{Mark, Takes}
use Rattle.ax_grammar.specs.Takes.Mark.{the_symbol, the_keyword}
use Rattle.ax_grammar.specs.Takes.Takes.{symbol_first}
use Rattle.ax_grammar.proofs.CompleteAtoms.{IsCloser, closer_outside, closer_no_comma, closer_not_first, empty_read, full_read, member_read, label_not_brace, no_members_read, members_read, null_read, true_read, false_read, undefined_read, number_read, text_read, parameter_read, alias_read, called_read, totalled_read, bracketed_read, listed_read, mapped_read}
use Rattle.ax_grammar.proofs.CompleteAtoms.IsCloser.{round, square}
use Rattle.ax_grammar.proofs.CompleteLevels.{chain_alone, chain_longer, operator_outside, no_additive, no_multiplicative, no_chained_turn, chained_turn, operated_alone, operated_longer, choice_alone, choice_whole, comparison_outside, comparison_alone, compared_read, predicate_outside, among_read, between_read, like_read, negation_alone, sign_alone, postfix_alone, postfix_whole, at_choice, denied_read, signed_read, least_read}
use Rattle.ax_grammar.proofs.CompleteSteps.{steps_read}
use Rattle.ax_grammar.proofs.CompleteTurns.{found, Reads, Turns, no_marked_turn, marked_turn}
use Rattle.ax_grammar.proofs.CompleteTurns.Turns.{no_turn, one_turn}
use Rattle.ax_grammar.proofs.FrontsExpr.{not_taken_first, no_sign_first, no_least_first}
use Rattle.ax_grammar.proofs.FrontsLengths.{mark_shorter, shorter, member_shorter}
use Rattle.ax_grammar.proofs.Openings.{opens_of}
use Rattle.ax_grammar.proofs.FrontsMarks.{IsOutside, outside_extends, not_taken_behind, no_step_behind}
use Rattle.ax_grammar.proofs.Extending.{extends_narrower}

-- ---- what stands behind an operand

pub follow_front : {params : List (Member Tree)} {n : ℕ} {operand : Level} {mark : Mark}
    {before : List Lexeme} {xs : List Expr} {after : List Lexeme}
    → Follow params n operand mark before xs after → IsOutside mark operand
    → extends operand after ≡ false → extends operand before ≡ false
follow_front followed_by_none o e = e
follow_front (followed_by {operand = operand} m a f) o e = outside_extends operand m o

chained_front : {params : List (Member Tree)} {n : ℕ} {operand : Level}
    {before : List Lexeme} {cs : List (Chained Expr)} {after : List Lexeme}
    → AreChained params n operand before cs after → extends operand after ≡ false
    → extends operand before ≡ false
chained_front chain_ended e = e
chained_front (chain_goes_on {operand = operand} {which = which} {operator = operator} m t a f) e =
    outside_extends operand m (operator_outside operand which operator t)

members_front : {params : List (Member Tree)} {n : ℕ} {before : List Lexeme}
    {ms : List (Member Expr)} {after : List Lexeme} → MembersFollow params n before ms after
    → extends Level.choice after ≡ false → extends Level.choice before ≡ false
members_front no_member_follows e = e
members_front (member_follows c m f) e = outside_extends Level.choice c refl

brace_outside : {before after : List Lexeme} → Takes (the_symbol symbol.CloseBrace) before after
    → (extends Level.choice before ≡ false) × (take (the_symbol symbol.Comma) before ≡ None)
unfolding extends
brace_outside symbol_first = (refl, refl)

member_not_brace : {params : List (Member Tree)} {n : ℕ} {before : List Lexeme}
    {m : Member Expr} {after : List Lexeme} → IsMember params n before m after
    → take (the_symbol symbol.CloseBrace) before ≡ None
member_not_brace (labelled l c a) = label_not_brace l

-- a step goes on no atom
step_outside : {step : QueryStep} {before after : List Lexeme} → IsStep step before after
    → extends Level.atom before ≡ false
unfolding extends
step_outside (named (dotted symbol_first w)) = refl
step_outside (named (quoted symbol_first t c)) = refl
step_outside (positioned symbol_first n l c) = refl

steps_outside : {step : QueryStep} {steps : List QueryStep} {before after : List Lexeme}
    → AreSteps (step ∷ steps) before after → extends Level.atom before ≡ false
steps_outside (more_steps s ss) = step_outside s

mutual
  pub expr_read : {params : List (Member Tree)} {n : ℕ} {level : Level} {before : List Lexeme}
      {x : Expr} {after : List Lexeme} → IsExpr params n level before x after
      → extends level after ≡ false → Reads (read_level params n level) before x after
  expr_read {params} (plain_choice {n} {after = after} a) e =
      at_choice params n (choice_alone (read_level params n Level.choice)
      (expr_read a (extends_narrower Level.coalesce Level.choice after refl e))
      (not_taken_behind (the_symbol symbol.Question) Level.choice after refl e))
  expr_read {params} (chosen {n} a q b c d) e =
      at_choice params n (choice_whole
      (expr_read a (outside_extends Level.coalesce q refl)) q
      (expr_read b (outside_extends Level.choice c refl)) c (expr_read d e))
  expr_read (plain_coalesce {after = after} a) e =
      chain_alone expr.Coalesce (the_symbol symbol.Coalesce)
      (expr_read a (extends_narrower Level.disjunction Level.coalesce after refl e))
      (not_taken_behind (the_symbol symbol.Coalesce) Level.coalesce after refl e)
  expr_read (coalesced {after = after} a f) e =
      let within : extends Level.disjunction after ≡ false =
      extends_narrower Level.disjunction Level.coalesce after refl e in
      chain_longer expr.Coalesce (the_symbol symbol.Coalesce)
      (expr_read a (follow_front f refl within))
      (follow_turns f refl
      (not_taken_behind (the_symbol symbol.Coalesce) Level.coalesce after refl e) within)
  expr_read (plain_disjunction {after = after} a) e =
      chain_alone expr.Or (the_keyword keyword.Or)
      (expr_read a (extends_narrower Level.conjunction Level.disjunction after refl e))
      (not_taken_behind (the_keyword keyword.Or) Level.disjunction after refl e)
  expr_read (disjoined {after = after} a f) e =
      let within : extends Level.conjunction after ≡ false =
      extends_narrower Level.conjunction Level.disjunction after refl e in
      chain_longer expr.Or (the_keyword keyword.Or)
      (expr_read a (follow_front f refl within))
      (follow_turns f refl
      (not_taken_behind (the_keyword keyword.Or) Level.disjunction after refl e) within)
  expr_read (plain_conjunction {after = after} a) e =
      chain_alone expr.And (the_keyword keyword.And)
      (expr_read a (extends_narrower Level.negation Level.conjunction after refl e))
      (not_taken_behind (the_keyword keyword.And) Level.conjunction after refl e)
  expr_read (conjoined {after = after} a f) e =
      let within : extends Level.negation after ≡ false =
      extends_narrower Level.negation Level.conjunction after refl e in
      chain_longer expr.And (the_keyword keyword.And)
      (expr_read a (follow_front f refl within))
      (follow_turns f refl
      (not_taken_behind (the_keyword keyword.And) Level.conjunction after refl e) within)
  expr_read {params} (plain_negation {n} {before = before} {after = after} a) e =
      negation_alone (inner_at params n).denied
      (expr_read a (extends_narrower Level.comparison Level.negation after refl e))
      (not_taken_first (the_keyword keyword.Not) Level.comparison before refl (opens_of a))
  expr_read {params} (denied {n} m a) e = denied_read params n m (expr_read a e)
  expr_read {params} (plain_comparison {n} {after = after} a) e =
      comparison_alone (read_level params n Level.choice)
      (expr_read a (extends_narrower Level.concatenation Level.comparison after refl e)) e
  expr_read {params} (compared {n} {which} {operator} {after = after} a m c b) e =
      compared_read (read_level params n Level.choice)
      (expr_read a (outside_extends Level.concatenation m (comparison_outside which operator c)))
      m c
      (expr_read b (extends_narrower Level.concatenation Level.comparison after refl e))
  expr_read (among a m i p f fs l c) e =
      among_read (expr_read a (predicate_outside m i refl)) m i p
      (expr_read f (follow_front fs refl (closer_outside round c)))
      (follow_turns fs refl (closer_no_comma round c) (closer_outside round c)) l c
  expr_read {params} (ranged {n} {after = after} a m w l c h) e =
      between_read (read_level params n Level.choice)
      (expr_read a (predicate_outside m w refl)) m w
      (expr_read l (outside_extends Level.concatenation c refl)) c
      (expr_read h (extends_narrower Level.concatenation Level.comparison after refl e))
  expr_read {params} (like {n} {after = after} a m w p) e =
      like_read (read_level params n Level.choice)
      (expr_read a (predicate_outside m w refl)) m w
      (expr_read p (extends_narrower Level.concatenation Level.comparison after refl e))
  expr_read (plain_concatenation {after = after} a) e =
      chain_alone expr.Join (the_symbol symbol.Join)
      (expr_read a (extends_narrower Level.sum Level.concatenation after refl e))
      (not_taken_behind (the_symbol symbol.Join) Level.concatenation after refl e)
  expr_read (concatenated {after = after} a f) e =
      let within : extends Level.sum after ≡ false =
      extends_narrower Level.sum Level.concatenation after refl e in
      chain_longer expr.Join (the_symbol symbol.Join)
      (expr_read a (follow_front f refl within))
      (follow_turns f refl
      (not_taken_behind (the_symbol symbol.Join) Level.concatenation after refl e) within)
  expr_read (plain_sum {after = after} a) e =
      operated_alone expr.Sum Level.product
      (expr_read a (extends_narrower Level.product Level.sum after refl e)) (no_additive after e)
  expr_read (summed {after = after} a f) e =
      let within : extends Level.product after ≡ false =
      extends_narrower Level.product Level.sum after refl e in
      operated_longer expr.Sum Level.product (expr_read a (chained_front f within))
      (chained_turns f (no_additive after e) within)
  expr_read (plain_product {after = after} a) e =
      operated_alone expr.Product Level.sign
      (expr_read a (extends_narrower Level.sign Level.product after refl e))
      (no_multiplicative after e)
  expr_read (multiplied {after = after} a f) e =
      let within : extends Level.sign after ≡ false =
      extends_narrower Level.sign Level.product after refl e in
      operated_longer expr.Product Level.sign (expr_read a (chained_front f within))
      (chained_turns f (no_multiplicative after e) within)
  expr_read {params} (plain_sign {n} {before = before} {after = after} a) e =
      sign_alone (inner_at params n).signed
      (expr_read a (extends_narrower Level.postfix Level.sign after refl e))
      (no_sign_first before (opens_of a))
  expr_read {params} (signed {n} t s a) e =
      signed_read params n t s (no_least_first a refl) (expr_read a e)
  expr_read {params} (least {n} t v m s) e = least_read params n t v m s
  expr_read (plain_postfix {after = after} a) e =
      postfix_alone (expr_read a (extends_narrower Level.atom Level.postfix after refl e))
      (steps_read steps_ended (no_step_behind after e))
  expr_read (stepped {after = after} a s) e =
      postfix_whole (expr_read a (steps_outside s)) (steps_read s (no_step_behind after e))
  expr_read {params} (null {n} m) e = null_read params (read_level params n Level.choice) m
  expr_read {params} (true_value {n} m) e = true_read params (read_level params n Level.choice) m
  expr_read {params} (false_value {n} m) e =
      false_read params (read_level params n Level.choice) m
  expr_read {params} (undefined {n} m) e =
      undefined_read params (read_level params n Level.choice) m
  expr_read {params} (number_value {n} v l) e =
      number_read params (read_level params n Level.choice) v l
  expr_read {params} (text_value {n} v) e =
      text_read params (read_level params n Level.choice) v
  expr_read {params} (parameter_value {n} v s) e =
      parameter_read params (read_level params n Level.choice) v s
  expr_read {params} (called {n} w c p l t) e =
      called_read params (read_level params n Level.choice) w c p (list_read l round) t
  expr_read {params} (totalled {n} w c p x m) e =
      totalled_read params (read_level params n Level.choice) w c p
      (expr_read x (outside_extends Level.choice m refl)) m
  expr_read {params} (alias {n} w s) e =
      alias_read params (read_level params n Level.choice) w s
  expr_read {params} (bracketed {n} o x m) e =
      bracketed_read params (read_level params n Level.choice) o
      (expr_read x (outside_extends Level.choice m refl)) m
  expr_read {params} (listed {n} o l m) e =
      listed_read params (read_level params n Level.choice) o (list_read l square) m
  expr_read {params} (mapped {n} o l m) e =
      mapped_read params (read_level params n Level.choice) o (map_read l) m

  pub follow_turns : {params : List (Member Tree)} {n : ℕ} {operand : Level} {mark : Mark}
      {before : List Lexeme} {xs : List Expr} {after : List Lexeme}
      → Follow params n operand mark before xs after → IsOutside mark operand
      → take mark after ≡ None → extends operand after ≡ false
      → Turns (marked mark (read_level params n operand)) before xs after
  follow_turns {params} (followed_by_none {n} {operand} {mark} {after}) o t e =
      no_turn (no_marked_turn (read_level params n operand) mark after t)
  follow_turns (followed_by m a f) o t e =
      one_turn (marked_turn m (expr_read a (follow_front f o e)))
      (omega (arith, mark_shorter m, shorter a)) (follow_turns f o t e)

  chained_turns : {params : List (Member Tree)} {n : ℕ} {operand : Level}
      {before : List Lexeme} {cs : List (Chained Expr)} {after : List Lexeme}
      → AreChained params n operand before cs after
      → take_operator (operator_before operand) after ≡ None → extends operand after ≡ false
      → Turns (turn_chained operand (read_level params n operand)) before cs after
  chained_turns {params} (chain_ended {n} {operand} {after}) t e =
      no_turn (no_chained_turn operand (read_level params n operand) after t)
  chained_turns (chain_goes_on {operand = operand} m s a f) t e =
      one_turn (chained_turn operand m s (expr_read a (chained_front f e)))
      (omega (arith, mark_shorter m, shorter a)) (chained_turns f t e)

  list_read : {params : List (Member Tree)} {n : ℕ} {close : Mark} {before : List Lexeme}
      {xs : List Expr} {after : List Lexeme} → AreListed params n close before xs after
      → IsCloser close → Reads (read_list close (read_level params n Level.choice)) before xs after
  list_read {params} (empty_list {n} m) c = empty_read (read_level params n Level.choice) m
  list_read (full_list {before = before} a f m) c =
      full_read (closer_not_first before c (opens_of a))
      (expr_read a (follow_front f refl (closer_outside c m)))
      (follow_turns f refl (closer_no_comma c m) (closer_outside c m)) m

  member_is_read : {params : List (Member Tree)} {n : ℕ} {before : List Lexeme}
      {m : Member Expr} {after : List Lexeme} → IsMember params n before m after
      → extends Level.choice after ≡ false
      → Reads (read_member (read_level params n Level.choice)) before m after
  member_is_read (labelled l c a) e = member_read l c (expr_read a e)

  members_turns : {params : List (Member Tree)} {n : ℕ} {before : List Lexeme}
      {ms : List (Member Expr)} {after : List Lexeme} → MembersFollow params n before ms after
      → take (the_symbol symbol.Comma) after ≡ None → extends Level.choice after ≡ false
      → Turns (marked (the_symbol symbol.Comma) (read_member (read_level params n Level.choice)))
      before ms after
  members_turns {params} (no_member_follows {n} {after}) t e =
      no_turn (no_marked_turn (read_member (read_level params n Level.choice))
      (the_symbol symbol.Comma) after t)
  members_turns (member_follows c m f) t e =
      one_turn (marked_turn c (member_is_read m (members_front f e)))
      (omega (arith, mark_shorter c, member_shorter m)) (members_turns f t e)

  map_read : {params : List (Member Tree)} {n : ℕ} {before : List Lexeme}
      {ms : List (Member Expr)} {after : List Lexeme} → AreMembers params n before ms after
      → Reads (read_members (read_level params n Level.choice)) before ms after
  map_read {params} (empty_map {n} m) = no_members_read (read_level params n Level.choice) m
  map_read (full_map m f c) =
      members_read (member_not_brace m) (member_is_read m (members_front f (brace_outside c).0))
      (members_turns f (brace_outside c).1 (brace_outside c).0) c

-- the reader of a level reads what stands before something that does not go on it
pub read_level_complete : {params : List (Member Tree)} {n : ℕ} {level : Level}
    {before : List Lexeme} {x : Expr} {after : List Lexeme}
    → IsExpr params n level before x after → extends level after ≡ false
    → read_level params n level before ≡ found x after
read_level_complete a e = (expr_read a e).so

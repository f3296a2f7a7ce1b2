-- Chains, lists and members that are read are those of the grammar, where the reader of their
-- expressions is sound.
use Rattle.std.proofs.Common.{ℕ, ◌≤◌, List, ◌∷◌, length, Option}
use Rattle.std.specs.Prelude.{nat_le}
use Rattle.std.proofs.lemmas.Bool.{leb-true}
use Rattle.ax_lex.specs.declared.symbol.Symbol.TheVariants as symbol
use Rattle.ax_lex.specs.Lexeme.{Lexeme}
use Rattle.ax_tree.specs.declared.members.Member.{Member}
use Rattle.ax_tree.specs.declared.tree.Tree.{Tree}
use Rattle.ax_mean.specs.declared.expr.Chained.{Chained}
use Rattle.ax_mean.specs.declared.expr.Expr.{Expr}
use Rattle.ax_mean.specs.declared.operator.BinaryOp.{BinaryOp}
use Rattle.ax_grammar.specs.Expressions.{IsExpr, Follow, AreChained, AreListed, IsMember, MembersFollow, AreMembers}
use Rattle.ax_grammar.specs.Expressions.Follow.{followed_by_none, followed_by}
use Rattle.ax_grammar.specs.Expressions.AreChained.{chain_ended, chain_goes_on}
use Rattle.ax_grammar.specs.Expressions.AreListed.{empty_list, full_list}
use Rattle.ax_grammar.specs.Expressions.IsMember.{labelled}
use Rattle.ax_grammar.specs.Expressions.MembersFollow.{no_member_follows, member_follows}
use Rattle.ax_grammar.specs.Expressions.AreMembers.{empty_map, full_map}
use Rattle.ax_grammar.specs.ExprReader.{chain_of, operated_of, read_chain, turn_operated, turn_chained, read_operated, read_list, read_member, read_members, within_limit}
use Rattle.ax_grammar.specs.Levels.{Level}
use Rattle.ax_grammar.specs.Reading.{Reader, parted}
use Rattle.ax_grammar.specs.Tables.{most_items, operator_before}
use Rattle.ax_grammar.specs.Takes.{Mark, Takes, TakesSymbol}
use Rattle.ax_grammar.specs.Takes.Mark.{the_symbol}
use Rattle.ax_grammar.proofs.SoundMarks.{IsBehind, AreParted, gives_where, gives_closed, behind_sound, parted_sound}
use Rattle.ax_grammar.proofs.SoundMarks.AreParted.{are_parted}
use Rattle.ax_grammar.proofs.SoundReading.{Gives, IsSound, TurnGives, IsRepetition, gives_provided, gives_changed, gives_then, gives_turn, all_turns_sound}
use Rattle.ax_grammar.proofs.SoundReading.Gives.{gives_none, gives}
use Rattle.ax_grammar.proofs.SoundReading.TurnGives.{has_ended}
use Rattle.ax_grammar.proofs.SoundSteps.{TakesOperator, operator_sound, label_sound}

-- a list within the limit
pub gives_within : {X : Type 0} {P : List X → List Lexeme → Type 0}
    {o : Option (List X × List Lexeme)} → Gives P o
    → Gives (λ xs after. P xs after × (length xs ≤ most_items)) (within_limit o)
gives_within gives_none = gives_none
gives_within (gives {found} h) =
    gives_provided (nat_le (length found.0) most_items) (λ e.
    gives (h, leb-true (length found.0) most_items e))

module _ (params : List (Member Tree)) (n : ℕ) where
  -- operands behind the mark, one behind the other
  follow_repeats : (operand : Level) (mark : Mark)
      → IsRepetition (IsBehind mark (IsExpr params n operand)) (Follow params n operand mark)
  follow_repeats operand mark = record {
    none = λ lexemes. followed_by_none;
    more = λ before between after x xs h m. followed_by h.first h.phrase m;
  }

  -- operand {mark operand}
  pub exprs_sound : (operand : Level) (mark : Mark) (reader : Reader Expr)
      → IsSound (IsExpr params n operand) reader
      → IsSound (AreParted (IsExpr params n operand) (Follow params n operand mark))
      (parted mark reader)
  exprs_sound operand mark reader s =
      parted_sound mark reader (follow_repeats operand mark) s

  chain_is : {level operand : Level} {mark : Mark} {before between after : List Lexeme}
      {xs : List Expr} (variant : List Expr → Expr) (x : Expr)
      → IsExpr params n operand before x between → Follow params n operand mark between xs after
      → ((x : Expr) (before after : List Lexeme) → IsExpr params n operand before x after
      → IsExpr params n level before x after)
      → ((x y : Expr) (ys : List Expr) (before between after : List Lexeme)
      → IsExpr params n operand before x between
      → Follow params n operand mark between (y ∷ ys) after
      → IsExpr params n level before (variant (x ∷ y ∷ ys)) after)
      → IsExpr params n level before (chain_of variant (x ∷ xs)) after
  chain_is {before = before} variant x h (followed_by_none {after = after}) plain full =
      plain x before after h
  chain_is {before = before} variant x h
      (followed_by {x = y} {xs = ys} {before = between} {after = after} t k m) plain full =
      full x y ys before between after h (followed_by t k m)

  pub chain_sound : {level operand : Level} {mark : Mark} (variant : List Expr → Expr)
      (reader : Reader Expr)
      → ((x : Expr) (before after : List Lexeme) → IsExpr params n operand before x after
      → IsExpr params n level before x after)
      → ((x y : Expr) (ys : List Expr) (before between after : List Lexeme)
      → IsExpr params n operand before x between
      → Follow params n operand mark between (y ∷ ys) after
      → IsExpr params n level before (variant (x ∷ y ∷ ys)) after)
      → IsSound (IsExpr params n operand) reader
      → IsSound (IsExpr params n level) (read_chain variant mark reader)
  chain_sound {level} {operand} {mark} variant reader plain full s lexemes =
      gives_changed (chain_of variant) (exprs_sound operand mark reader s lexemes)
      (λ xs after h. parted_chain h)
    where
      parted_chain : {xs : List Expr} {after : List Lexeme}
          → AreParted (IsExpr params n operand) (Follow params n operand mark) lexemes xs after
          → IsExpr params n level lexemes (chain_of variant xs) after
      parted_chain (are_parted {x} h m) = chain_is variant x h m plain full

  -- an operand behind its operator
  data IsOperated (operand : Level) : (before : List Lexeme) (c : Chained Expr)
      (after : List Lexeme) → Type 0 where
    is_operated : {operator : BinaryOp} {x : Expr} {before between after : List Lexeme}
        → TakesOperator (operator_before operand) before operator between
        → IsExpr params n operand between x after
        → IsOperated operand before (record { op = operator; operand = x }) after

  operated_gives : {operand : Level} {lexemes : List Lexeme}
      {o : Option (BinaryOp × List Lexeme)} (reader : Reader Expr)
      → IsSound (IsExpr params n operand) reader
      → Gives (TakesOperator (operator_before operand) lexemes) o
      → TurnGives (IsOperated operand lexemes) (turn_operated reader o)
  operated_gives reader s gives_none = has_ended
  operated_gives reader s (gives {found} h) =
      gives_turn (gives_changed _ (s found.1) (λ x rest k. is_operated h k))

  chained_repeats : (operand : Level)
      → IsRepetition (IsOperated operand) (AreChained params n operand)
  chained_repeats operand = record {
    none = λ lexemes. chain_ended;
    more = λ before between after c cs h m. one_more h m;
  }
    where
      one_more : {before between after : List Lexeme} {c : Chained Expr}
          {cs : List (Chained Expr)} → IsOperated operand before c between
          → AreChained params n operand between cs after
          → AreChained params n operand before (c ∷ cs) after
      one_more (is_operated t k) m = chain_goes_on t.first t.is_it k m

  operated_is : {level operand : Level} {before between after : List Lexeme}
      {cs : List (Chained Expr)} (variant : Expr → List (Chained Expr) → Expr) (x : Expr)
      → IsExpr params n operand before x between → AreChained params n operand between cs after
      → ((x : Expr) (before after : List Lexeme) → IsExpr params n operand before x after
      → IsExpr params n level before x after)
      → ((x : Expr) (c : Chained Expr) (cs : List (Chained Expr))
      (before between after : List Lexeme) → IsExpr params n operand before x between
      → AreChained params n operand between (c ∷ cs) after
      → IsExpr params n level before (variant x (c ∷ cs)) after)
      → IsExpr params n level before (operated_of variant x cs) after
  operated_is {before = before} variant x h (chain_ended {after = after}) plain full =
      plain x before after h
  operated_is {before = before} variant x h
      (chain_goes_on {operator = operator} {x = y} {cs = cs} {before = between} {after = after}
      t e k m) plain full =
      full x (record { op = operator; operand = y }) cs before between after h
      (chain_goes_on t e k m)

  pub operated_sound : {level operand : Level} (variant : Expr → List (Chained Expr) → Expr)
      (reader : Reader Expr)
      → ((x : Expr) (before after : List Lexeme) → IsExpr params n operand before x after
      → IsExpr params n level before x after)
      → ((x : Expr) (c : Chained Expr) (cs : List (Chained Expr))
      (before between after : List Lexeme) → IsExpr params n operand before x between
      → AreChained params n operand between (c ∷ cs) after
      → IsExpr params n level before (variant x (c ∷ cs)) after)
      → IsSound (IsExpr params n operand) reader
      → IsSound (IsExpr params n level) (read_operated variant operand reader)
  operated_sound {level} {operand} variant reader plain full s lexemes =
      gives_then _ (s lexemes) (λ x rest h.
      gives_changed (operated_of variant x)
      (all_turns_sound (turn_chained operand reader) (chained_repeats operand)
      (λ ls. operated_gives reader s (operator_sound (operator_before operand) ls)) rest)
      (λ cs after m. operated_is variant x h m plain full))

  -- [expr {"," expr}], and what closes the list
  pub list_sound : (close : Mark) (reader : Reader Expr)
      → IsSound (IsExpr params n Level.choice) reader
      → IsSound (AreListed params n close) (read_list close reader)
  list_sound close reader s lexemes =
      gives_where close _ _ lexemes (λ rest t. gives (empty_list t)) (λ e.
      gives_closed close (exprs_sound Level.choice (the_symbol symbol.Comma) reader s lexemes)
      (λ xs end after h t. whole_list h t))
    where
      whole_list : {xs : List Expr} {end after : List Lexeme}
          → AreParted (IsExpr params n Level.choice)
          (Follow params n Level.choice (the_symbol symbol.Comma)) lexemes xs end
          → Takes close end after → AreListed params n close lexemes xs after
      whole_list (are_parted h m) t = full_list h m t

  member_sound : (reader : Reader Expr) → IsSound (IsExpr params n Level.choice) reader
      → IsSound (IsMember params n) (read_member reader)
  member_sound reader s lexemes =
      gives_then _ (label_sound lexemes) (λ label colon l.
      gives_changed _ (behind_sound (the_symbol symbol.Colon) reader s colon) (λ x after h.
      labelled l h.first h.phrase))

  members_repeat : IsRepetition (IsBehind (the_symbol symbol.Comma) (IsMember params n))
      (MembersFollow params n)
  members_repeat = record {
    none = λ lexemes. no_member_follows;
    more = λ before between after m ms h k. member_follows h.first h.phrase k;
  }

  -- [mem {"," mem}] "}"
  pub members_sound : (reader : Reader Expr) → IsSound (IsExpr params n Level.choice) reader
      → IsSound (AreMembers params n) (read_members reader)
  members_sound reader s lexemes =
      gives_where (the_symbol symbol.CloseBrace) _ _ lexemes
      (λ rest t. gives (empty_map t)) (λ e.
      gives_closed (the_symbol symbol.CloseBrace)
      (parted_sound (the_symbol symbol.Comma) (read_member reader) members_repeat
      (member_sound reader s) lexemes) (λ ms end after h t. whole_map h t))
    where
      whole_map : {ms : List (Member Expr)} {end after : List Lexeme}
          → AreParted (IsMember params n) (MembersFollow params n) lexemes ms end
          → TakesSymbol symbol.CloseBrace end after → AreMembers params n lexemes ms after
      whole_map (are_parted h m) t = full_map h m t

-- What a query picks and from where: what is written is read.
use Rattle.std.proofs.Common.{◌≡◌, ℕ, ◌≤◌, ◌<◌, Bool, true, false, List, ◌∷◌, length, Option, Some, None, refl, ap, arith, le-leb}
use Rattle.ax_lex.specs.declared.keyword.Keyword.{Keyword}
use Rattle.ax_lex.specs.declared.keyword.Keyword.TheVariants as keyword
use Rattle.ax_lex.specs.declared.symbol.Symbol.TheVariants as symbol
use Rattle.ax_lex.specs.Lexeme.{Lexeme}
use Rattle.ax_tree.specs.declared.members.Member.{Member}
use Rattle.ax_tree.specs.declared.tree.Tree.{Tree}
use Rattle.ax_grammar.specs.Fronts.{begins_keyword, begins_name, begins_step, extends}
use Rattle.ax_grammar.specs.Levels.{Level}
use Rattle.ax_grammar.specs.Queries.{IsCount, IsDistinct, IsTop, IsNaming, IsItem, ItemsFollow, IsPick, IsSource, IsJoin, AreJoins}
use Rattle.ax_grammar.specs.Queries.IsCount.{written_count, given_count}
use Rattle.ax_grammar.specs.Queries.IsDistinct.{all_rows, distinct_rows}
use Rattle.ax_grammar.specs.Queries.IsTop.{no_top, topped}
use Rattle.ax_grammar.specs.Queries.IsNaming.{unnamed, named_at_once, named_by_as}
use Rattle.ax_grammar.specs.Queries.ItemsFollow.{no_item_follows, item_follows}
use Rattle.ax_grammar.specs.Queries.IsPick.{star, value, items}
use Rattle.ax_grammar.specs.Queries.IsSource.{each_element, whole}
use Rattle.ax_grammar.specs.Queries.AreJoins.{joins_ended, more_joins}
use Rattle.ax_grammar.specs.QueryReader.{read_optional, read_count, read_distinct, read_top, may_name, read_naming, read_item, read_pick, read_source, read_join, read_joins}
use Rattle.ax_grammar.specs.Reading.{Reader, changed, at_once, take, take_name, marked}
use Rattle.ax_grammar.specs.Tables.{greatest_u32}
use Rattle.ax_grammar.specs.Takes.{TakesKeyword, TakesName}
use Rattle.ax_grammar.specs.Takes.Mark.{the_symbol, the_keyword}
use Rattle.ax_grammar.specs.Takes.Takes.{symbol_first, keyword_first}
use Rattle.ax_grammar.specs.Takes.TakesName.{name_first}
use Rattle.ax_grammar.specs.Takes.TakesNumber.{number_first}
use Rattle.ax_grammar.specs.Takes.TakesParameter.{parameter_first}
use Rattle.ax_grammar.specs.Written.{Item, Picked, Source, Joined}
use Rattle.ax_grammar.specs.Written.Picked.{the_value, the_items}
use Rattle.ax_grammar.proofs.CompleteExpr.{expr_read}
use Rattle.ax_grammar.proofs.CompleteSteps.{steps_read}
use Rattle.ax_grammar.proofs.CompleteTurns.{found, Reads, Turns, all_read, no_marked_turn, marked_turn, parted_read}
use Rattle.ax_grammar.proofs.CompleteTurns.Turns.{no_turn, one_turn}
use Rattle.ax_grammar.proofs.FrontsClauses.{IsAtClause, at_clause, at_later, clause_no_expr, no_step_after, clause_no_comma, no_earlier}
use Rattle.ax_grammar.proofs.FrontsExpr.{not_taken_first}
use Rattle.ax_grammar.proofs.Openings.{opens_of}
use Rattle.ax_grammar.proofs.FrontsLengths.{mark_shorter, name_shorter, steps_no_longer, shorter}
use Rattle.ax_grammar.proofs.FrontsMarks.{not_taken}
use Rattle.ax_grammar.proofs.Marks.{take_complete}

-- ---- phrases that may be absent

pub absent_read : {X : Type 0} (which : Keyword) (absent : X) (phrase : Reader X)
    (after : List Lexeme) → begins_keyword which after ≡ false
    → Reads (read_optional which absent phrase) after absent after
absent_read which absent phrase after e =
    record { so = rw (not_taken (the_keyword which) after e) refl }

pub present_read : {X : Type 0} {phrase : Reader X} (which : Keyword) (absent : X)
    {before between : List Lexeme} {x : X} {after : List Lexeme}
    → TakesKeyword which before between → Reads phrase between x after
    → Reads (read_optional which absent phrase) before x after
present_read which absent m r = record { so = rw (take_complete m, r.so) refl }

pub changed_read : {X Y : Type 0} {reader : Reader X} (change : X → Y) {before : List Lexeme}
    {x : X} {after : List Lexeme} → Reads reader before x after
    → Reads (λ lexemes. changed change (reader lexemes)) before (change x) after
changed_read change r = record { so = ap (changed change) r.so }

pub count_read : {params : List (Member Tree)} {count : ℕ} {before after : List Lexeme}
    → IsCount params count before after → Reads (read_count params) before count after
count_read (written_count {count} number_first l) =
    record { so = rw (le-leb count greatest_u32 l) refl }
count_read (given_count parameter_first e c) = record { so = rw (e, c) refl }

pub distinct_read : {distinct : Bool} {before after : List Lexeme}
    → IsDistinct distinct before after → Reads read_distinct before distinct after
distinct_read (all_rows {after} e) =
    absent_read keyword.Distinct false (at_once true) after e
distinct_read (distinct_rows m) =
    present_read {phrase = at_once true} keyword.Distinct false m (record { so = refl })

pub top_read : {params : List (Member Tree)} {top : Option ℕ} {before after : List Lexeme}
    → IsTop params top before after → Reads (read_top params) before top after
top_read {params} (no_top {after} e) =
    absent_read keyword.Top None (λ lexemes. changed Some (read_count params lexemes)) after e
top_read (topped m c) = present_read keyword.Top None m (changed_read Some (count_read c))

-- ---- names

pub name_taken : {word : List ℕ} {before after : List Lexeme} → TakesName word before after
    → take_name before ≡ found word after
name_taken name_first = refl

no_name : (after : List Lexeme) → begins_name after ≡ false → may_name after ≡ found None after
no_name (Lexeme.name word ∷ rest) e = absurd (cc)
no_name _ e = refl

pub naming_read : {given : Option (List ℕ)} {before after : List Lexeme}
    → IsNaming given before after → Reads read_naming before given after
naming_read (unnamed {after} a n) =
    record { so = rw (not_taken (the_keyword keyword.As) after a) (no_name after n) }
naming_read (named_at_once name_first) = record { so = refl }
naming_read (named_by_as keyword_first name_first) = record { so = refl }

naming_outside : {given : Option (List ℕ)} {before after : List Lexeme}
    → IsNaming given before after → extends Level.choice after ≡ false
    → extends Level.choice before ≡ false
unfolding extends
naming_outside (unnamed a n) e = e
naming_outside (named_at_once name_first) e = refl
naming_outside (named_by_as keyword_first name_first) e = refl

naming_no_longer : {given : Option (List ℕ)} {before after : List Lexeme}
    → IsNaming given before after → length after ≤ length before
naming_no_longer (unnamed a n) = omega arith
naming_no_longer (named_at_once n) = omega (arith, name_shorter n)
naming_no_longer (named_by_as m n) = omega (arith, mark_shorter m, name_shorter n)

-- ---- items

item_read : {params : List (Member Tree)} {before : List Lexeme} {item : Item}
    {after : List Lexeme} → IsItem params before item after → extends Level.choice after ≡ false
    → Reads (read_item params) before item after
item_read i e =
    record {
      so = rw ((expr_read i.expr (naming_outside i.naming e)).so, (naming_read i.naming).so)
          refl;
    }

item_shorter : {params : List (Member Tree)} {before : List Lexeme} {item : Item}
    {after : List Lexeme} → IsItem params before item after → length after < length before
item_shorter i = omega (arith, shorter i.expr, naming_no_longer i.naming)

items_front : {params : List (Member Tree)} {before : List Lexeme} {items : List Item}
    {after : List Lexeme} → ItemsFollow params before items after
    → extends Level.choice after ≡ false → extends Level.choice before ≡ false
unfolding extends
items_front no_item_follows e = e
items_front (item_follows symbol_first i f) e = refl

items_turns : {params : List (Member Tree)} {before : List Lexeme} {items : List Item}
    {after : List Lexeme} → ItemsFollow params before items after
    → take (the_symbol symbol.Comma) after ≡ None → extends Level.choice after ≡ false
    → Turns (marked (the_symbol symbol.Comma) (read_item params)) before items after
items_turns {params} (no_item_follows {after}) t e =
    no_turn (no_marked_turn (read_item params) (the_symbol symbol.Comma) after t)
items_turns (item_follows m i f) t e =
    one_turn (marked_turn m (item_read i (items_front f e)))
    (omega (arith, mark_shorter m, item_shorter i)) (items_turns f t e)

pub pick_read : {params : List (Member Tree)} {before : List Lexeme} {picked : Picked}
    {after : List Lexeme} → IsPick params before picked after → IsAtClause 6 after
    → Reads (read_pick params) before picked after
pick_read (star symbol_first) e = record { so = refl }
pick_read (value {after = after} keyword_first x) e =
    record { so = ap (changed the_value) (expr_read x (clause_no_expr after e)).so }
pick_read (items {before = before} {after = after} i f) e =
    let outside : extends Level.choice after ≡ false = clause_no_expr after e in
    record {
      so = rw (
        not_taken_first (the_symbol symbol.Star) Level.choice before refl (opens_of i.expr),
        not_taken_first (the_keyword keyword.Value) Level.choice before refl (opens_of i.expr),
      ) (ap (changed the_items) (parted_read (the_symbol symbol.Comma)
          (item_read i (items_front f outside))
          (items_turns f (clause_no_comma after e) outside)).so);
    }

-- ---- sources

pub source_read : {before : List Lexeme} {source : Source} {after : List Lexeme}
    → IsSource before source after → IsAtClause 5 after → Reads read_source before source after
source_read (each_element {after = after} name_first keyword_first name_first s) e =
    let outside : extends Level.choice after ≡ false =
    clause_no_expr after (at_later 5 6 after refl e) in
    record { so = rw (steps_read s (no_step_after after outside)).so refl }
source_read (whole {path = path} {naming = naming} {after = after} name_first i s n) e =
    let outside : extends Level.choice naming ≡ false =
    naming_outside n (clause_no_expr after (at_later 5 6 after refl e)) in
    record {
      so = rw (
        not_taken (the_keyword keyword.In) path i,
        (steps_read s (no_step_after naming outside)).so,
        (naming_read n).so,
      ) refl;
    }

join_read : {before : List Lexeme} {joined : Joined} {after : List Lexeme}
    (j : IsJoin before joined after) → begins_step after ≡ false
    → Reads read_join j.name joined after
join_read j e =
    record {
      so = rw (
        name_taken j.alias,
        take_complete j.each,
        name_taken j.base,
        (steps_read j.steps e).so,
      ) refl;
    }

join_shorter : {before : List Lexeme} {joined : Joined} {after : List Lexeme}
    → IsJoin before joined after → length after < length before
join_shorter j =
    omega (
      arith,
      mark_shorter j.join,
      name_shorter j.alias,
      mark_shorter j.each,
      name_shorter j.base,
      steps_no_longer j.steps,
    )

pub joins_begin : {before : List Lexeme} {joins : List Joined} {after : List Lexeme}
    → AreJoins before joins after → IsAtClause 4 after → IsAtClause 5 before
joins_begin (joins_ended {after}) e = at_later 4 5 after refl e
joins_begin (more_joins j js) e = at_clause 5 j.join refl

joins_turns : {before : List Lexeme} {joins : List Joined} {after : List Lexeme}
    → AreJoins before joins after → IsAtClause 4 after
    → Turns (marked (the_keyword keyword.Join) read_join) before joins after
joins_turns (joins_ended {after}) e =
    no_turn (no_marked_turn read_join (the_keyword keyword.Join) after
    (no_earlier keyword.Join 4 after refl e))
joins_turns (more_joins {between = rest} j js) e =
    let outside : extends Level.choice rest ≡ false =
    clause_no_expr rest (at_later 5 6 rest refl (joins_begin js e)) in
    one_turn (marked_turn j.join (join_read j (no_step_after rest outside)))
    (join_shorter j) (joins_turns js e)

pub joins_read : {before : List Lexeme} {joins : List Joined} {after : List Lexeme}
    → AreJoins before joins after → IsAtClause 4 after → Reads read_joins before joins after
joins_read js e = all_read (joins_turns js e)

-- The parts of a query that are read are those of the grammar, up to its source and joins.
use Rattle.std.proofs.Common.{◌≡◌, ℕ, true, false, List, [], ◌∷◌, Option, Some, None, refl}
use Rattle.std.specs.Prelude.{nat_le}
use Rattle.std.proofs.lemmas.Bool.{leb-true}
use Rattle.ax_lex.specs.declared.keyword.Keyword.TheVariants as keyword
use Rattle.ax_lex.specs.declared.symbol.Symbol.TheVariants as symbol
use Rattle.ax_lex.specs.Lexeme.{Lexeme}
use Rattle.ax_tree.specs.declared.members.Member.{Member}
use Rattle.ax_tree.specs.declared.tree.Tree.{Tree}
use Rattle.ax_grammar.specs.Fronts.{begins_keyword}
use Rattle.ax_grammar.specs.Queries.{IsCount, IsDistinct, IsTop, IsNaming, IsItem, ItemsFollow, IsPick, IsSource, AreJoins}
use Rattle.ax_grammar.specs.Queries.IsCount.{written_count, given_count}
use Rattle.ax_grammar.specs.Queries.IsDistinct.{all_rows, distinct_rows}
use Rattle.ax_grammar.specs.Queries.IsTop.{no_top, topped}
use Rattle.ax_grammar.specs.Queries.IsNaming.{unnamed, named_at_once, named_by_as}
use Rattle.ax_grammar.specs.Queries.ItemsFollow.{no_item_follows, item_follows}
use Rattle.ax_grammar.specs.Queries.IsPick.{star, value, items}
use Rattle.ax_grammar.specs.Queries.IsSource.{each_element, whole}
use Rattle.ax_grammar.specs.Queries.AreJoins.{joins_ended, more_joins}
use Rattle.ax_grammar.specs.QueryReader.{read_count, read_distinct, read_top, may_name, read_naming, read_item, read_pick, read_elements, read_whole, read_source, read_join, read_joins}
use Rattle.ax_grammar.specs.Reading.{and_then, at_once, marked, take_name}
use Rattle.ax_grammar.specs.Steps.{AreSteps}
use Rattle.ax_grammar.specs.Tables.{greatest_u32, parameter_of, count_of}
use Rattle.ax_grammar.specs.Takes.{TakesKeyword, TakesName}
use Rattle.ax_grammar.specs.Takes.Mark.{the_symbol, the_keyword}
use Rattle.ax_grammar.specs.Takes.TakesName.{name_first}
use Rattle.ax_grammar.specs.Takes.TakesNumber.{number_first}
use Rattle.ax_grammar.specs.Takes.TakesParameter.{parameter_first}
use Rattle.ax_grammar.specs.Written.{Item, Joined}
use Rattle.ax_grammar.specs.Written.Picked.{the_star, the_value, the_items}
use Rattle.ax_grammar.proofs.SoundLevels.{expr_sound}
use Rattle.ax_grammar.proofs.SoundMarks.{IsBehind, AreParted, gives_where, behind_sound, marked_sound, parted_sound}
use Rattle.ax_grammar.proofs.SoundMarks.AreParted.{are_parted}
use Rattle.ax_grammar.proofs.SoundReading.{Gives, IsSound, IsRepetition, gives_provided, gives_changed, gives_then, gives_mapped, all_turns_sound}
use Rattle.ax_grammar.proofs.SoundReading.Gives.{gives_none, gives}
use Rattle.ax_grammar.proofs.SoundSteps.{name_sound, steps_sound}

-- what a count is, of a parameter's value where it has one
and_counted : (value : Option Tree) (o : Option ℕ) → o ≡ and_then value count_of → (count : ℕ)
    → o ≡ Some count → (tree : Tree) × (value ≡ Some tree) × (count_of tree ≡ Some count)
and_counted None o e count c = absurd (cc)
and_counted (Some tree) o e count c = (tree, refl, cc)

module _ (params : List (Member Tree)) where
  parameter_counts : (word : List ℕ) (rest : List Lexeme) (count : ℕ)
      → and_then (parameter_of params word) count_of ≡ Some count
      → IsCount params count (Lexeme.parameter word ∷ rest) rest
  parameter_counts word rest count e =
      let k : (tree : Tree) × (parameter_of params word ≡ Some tree)
      × (count_of tree ≡ Some count) = and_counted (parameter_of params word) _ refl count e in
      given_count parameter_first k.1 k.2

  pub count_sound : IsSound (λ before count after. IsCount params count before after)
      (read_count params)
  count_sound [] = gives_none
  count_sound (Lexeme.number n ∷ rest) =
      gives_provided (nat_le n greatest_u32) (λ e.
      gives (written_count number_first (leb-true n greatest_u32 e)))
  count_sound (Lexeme.parameter word ∷ rest) =
      gives_mapped rest (λ n. n) (and_then (parameter_of params word) count_of) (λ count e.
      parameter_counts word rest count e)
  count_sound (_ ∷ rest) = gives_none

pub distinct_sound : IsSound (λ before distinct after. IsDistinct distinct before after)
    read_distinct
distinct_sound lexemes =
    gives_where (the_keyword keyword.Distinct) (at_once true) (at_once false) lexemes
    (λ rest t. gives (distinct_rows t)) (λ e. gives (all_rows e))

may_name_gives : (lexemes : List Lexeme) → begins_keyword keyword.As lexemes ≡ false
    → Gives (λ given after. IsNaming given lexemes after) (may_name lexemes)
may_name_gives [] e = gives (unnamed e refl)
may_name_gives (Lexeme.name word ∷ rest) e = gives (named_at_once name_first)
may_name_gives (Lexeme.keyword which word ∷ rest) e = gives (unnamed e refl)
may_name_gives (Lexeme.parameter word ∷ rest) e = gives (unnamed e refl)
may_name_gives (Lexeme.text bytes ∷ rest) e = gives (unnamed e refl)
may_name_gives (Lexeme.number n ∷ rest) e = gives (unnamed e refl)
may_name_gives (Lexeme.symbol which ∷ rest) e = gives (unnamed e refl)
may_name_gives (Lexeme.nothing kind ∷ rest) e = gives (unnamed e refl)

pub naming_sound : IsSound (λ before given after. IsNaming given before after) read_naming
naming_sound lexemes =
    gives_where (the_keyword keyword.As) _ may_name lexemes
    (λ rest t.
    gives_changed Some (name_sound rest) (λ word after h. named_by_as t h))
    (λ e. may_name_gives lexemes e)

-- name IN name {step}, behind the first name
elements_gives : (alias : List ℕ) (before word behind : List Lexeme) → TakesName alias before word
    → TakesKeyword keyword.In word behind
    → Gives (λ source after. IsSource before source after) (read_elements alias behind)
elements_gives alias before word behind h i =
    gives_then _ (name_sound behind) (λ container path k.
    gives_changed _ (steps_sound path) (λ steps after m. each_element h i k m))

-- name {step} [[AS] name], behind the name
whole_gives : (container : List ℕ) (before path : List Lexeme) → TakesName container before path
    → begins_keyword keyword.In path ≡ false
    → Gives (λ source after. IsSource before source after) (read_whole container path)
whole_gives container before path h e =
    gives_then _ (steps_sound path) (λ steps naming m.
    gives_changed _ (naming_sound naming) (λ alias after k. whole h e m k))

pub source_sound : IsSound IsSource read_source
source_sound lexemes =
    gives_then _ (name_sound lexemes) (λ first path h.
    gives_where (the_keyword keyword.In) (read_elements first) (read_whole first) path
    (λ behind i. elements_gives first lexemes path behind h i)
    (λ e. whole_gives first lexemes path h e))

-- what stands behind JOIN
record IsJoined (before : List Lexeme) (joined : Joined) (after : List Lexeme) : Type 0 where
  word : List Lexeme
  behind : List Lexeme
  path : List Lexeme
  alias : TakesName joined.alias before word
  each : TakesKeyword keyword.In word behind
  base : TakesName joined.base behind path
  steps : AreSteps joined.steps path after

joined_sound : IsSound IsJoined read_join
joined_sound lexemes =
    gives_then _ (name_sound lexemes) (λ alias word h.
    gives_then _ (behind_sound (the_keyword keyword.In) take_name name_sound word) (λ base path b.
    gives_changed _ (steps_sound path) (λ steps after m. record {
      word = word;
      behind = b.between;
      path = path;
      alias = h;
      each = b.first;
      base = b.phrase;
      steps = m;
    })))

joins_repeat : IsRepetition (IsBehind (the_keyword keyword.Join) IsJoined) AreJoins
joins_repeat = record {
  none = λ lexemes. joins_ended;
  more = λ before between after joined joins h m. more_joins (record {
    name = h.between;
    word = h.phrase.word;
    behind = h.phrase.behind;
    path = h.phrase.path;
    join = h.first;
    alias = h.phrase.alias;
    each = h.phrase.each;
    base = h.phrase.base;
    steps = h.phrase.steps;
  }) m;
}

pub joins_sound : IsSound AreJoins read_joins
joins_sound =
    all_turns_sound (marked (the_keyword keyword.Join) read_join) joins_repeat
    (marked_sound (the_keyword keyword.Join) read_join joined_sound)

module _ (params : List (Member Tree)) where
  pub top_sound : IsSound (λ before top after. IsTop params top before after) (read_top params)
  top_sound lexemes =
      gives_where (the_keyword keyword.Top) _ (at_once None) lexemes
      (λ rest t. gives_changed Some (count_sound params rest) (λ count after h. topped t h))
      (λ e. gives (no_top e))

  item_sound : IsSound (IsItem params) (read_item params)
  item_sound lexemes =
      gives_then _ (expr_sound params lexemes) (λ x rest h.
      gives_changed _ (naming_sound rest) (λ given after k.
      record { between = rest; expr = h; naming = k }))

  items_repeat : IsRepetition (IsBehind (the_symbol symbol.Comma) (IsItem params))
      (ItemsFollow params)
  items_repeat = record {
    none = λ lexemes. no_item_follows;
    more = λ before between after item items h m. item_follows h.first h.phrase m;
  }

  picked_items : {lexemes after : List Lexeme} {found : List Item}
      → AreParted (IsItem params) (ItemsFollow params) lexemes found after
      → IsPick params lexemes (the_items found) after
  picked_items (are_parted h m) = items h m

  pub pick_sound : IsSound (IsPick params) (read_pick params)
  pick_sound lexemes =
      gives_where (the_symbol symbol.Star) (at_once the_star) _ lexemes
      (λ rest t. gives (star t)) (λ no_star.
      gives_where (the_keyword keyword.Value) _ _ lexemes
      (λ rest t. gives_changed the_value (expr_sound params rest) (λ x after h. value t h))
      (λ no_value.
      gives_changed the_items
      (parted_sound (the_symbol symbol.Comma) (read_item params) items_repeat item_sound lexemes)
      (λ found after h. picked_items h)))

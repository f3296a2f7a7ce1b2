-- Constants as they stand in memory and in terms. No public clause cites these words.
use Rattle.std.specs.Prelude.{List, [], ◌∷◌, Bool, true, false, Option, Some, None, if◌then◌else◌}
use Rattle.ax_tree.specs.declared.tree.Tree as tree
use Rattle.ax_mean.specs.declared.query.Step.{Step}
use Rattle.ax_mean.specs.declared.value.Value.{Value}
use Rattle.ax_mean.specs.declared.value.Value.TheVariants.{Undefined, Defined}
use Rattle.ax_term.specs.CutValues.{CutValue, cut_of}
use Rattle.ax_term.specs.declared.range.TermRange.{TermRange}
use Rattle.ax_atoms.specs.Recognised.{is_bound, is_single}
use Rattle.ax_atoms.specs.Spans.{only}
use Rattle.ax_atoms.specs.declared.constant.Constant.{Constant}
use Rattle.ax_atoms.specs.declared.constant.Constant.TheVariants as constant

-- the value that it is
abbrev pub constant_value : Constant → Value
constant_value constant.Nothing = Undefined
constant_value (constant.Tree tree) = Defined tree.now
constant_value (constant.Number number) = Defined (tree.Number number)

-- the value in terms of a scalar; none of another
abbrev pub single_in : Value → Option CutValue
single_in k = if is_single k then Some (cut_of k) else None

-- the value in terms of a number or a text; none of another
abbrev pub bound_in : Value → Option CutValue
bound_in k = if is_bound k then Some (cut_of k) else None

-- a number, and a text, in terms
abbrev pub is_cut_number : CutValue → Bool
is_cut_number (CutValue.Number number) = true
is_cut_number _ = false

abbrev pub is_cut_text : CutValue → Bool
is_cut_text (CutValue.Text text) = true
is_cut_text _ = false

-- two numbers, or two texts
abbrev pub are_alike : CutValue → CutValue → Bool
are_alike (CutValue.Number number) b = is_cut_number b
are_alike (CutValue.Text text) b = is_cut_text b
are_alike _ b = false

-- the range of a scalar's term alone; none of another value
abbrev pub range_in : List Step → Value → Option TermRange
range_in path k = if is_single k then Some (only path k) else None

-- a range before others, where all are there
abbrev pub and_range : Option TermRange → Option (List TermRange) → Option (List TermRange)
and_range None ranges = None
and_range (Some range) None = None
and_range (Some range) (Some ranges) = Some (range ∷ ranges)

-- the range of each; none where one of them is no scalar
abbrev pub ranges_in : List Step → List Value → Option (List TermRange)
ranges_in path [] = Some []
ranges_in path (k ∷ ks) = and_range (range_in path k) (ranges_in path ks)

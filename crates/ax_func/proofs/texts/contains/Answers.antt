-- By where the part is found.
use Rattle.std.proofs.Common.{◌≡◌, sym, ap, Bool, true, false, List, ℕ}
use Rattle.std.specs.Bool.{MatchBool}
use Rattle.std.specs.Str.{IsUtf8}
use Rattle.std.specs.Str.Pattern.{HasMatch, FindsText}
use Rattle.ax_mean.specs.TextFunctions.{contains_text}
use Rattle.std.specs.Option.{is_some}
use Rattle.std.proofs.Common.{None}
use Rattle.ax_func.proofs.PlaceLemmas.{place_of-none, place_of-some}
use Rattle.ax_func.proofs.texts.contains.Goals as goal

by_case : (text part : List ℕ) (u : IsUtf8 text) (v : IsUtf8 part) (r : Bool)
    → MatchBool r (HasMatch (FindsText part) text) (FindsText part text None)
    → r ≡ contains_text text part
by_case text part u v true h = sym (ap is_some (place_of-some text part u v h.0 h.1 h.2))
by_case text part u v false h = sym (ap is_some (place_of-none text part u v h))

pub returns : goal.returns
returns c =
    by_case c.args.text.now c.args.part.now c.utf8.text c.utf8.part c.contains.result
    c.contains.ensures.cases

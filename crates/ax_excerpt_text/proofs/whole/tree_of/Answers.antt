use Rattle.std.proofs.Common.{rules, ◌≡◌, subst, sym}
use Rattle.std.proofs.lemmas.Str.{IsUtf8-string_bytes}
use Rattle.std.specs.Str.{IsUtf8}
use Rattle.std.specs.String.{string_bytes}
use Rattle.ax_excerpt_text.proofs.WholeLaws.{text_well_formed}
use Rattle.ax_excerpt_text.proofs.whole.tree_of.Goals as goal

pub returns-in_ok-text-in-Ok : goal.returns-in_ok-text-in-Ok
returns-in_ok-text-in-Ok c =
    let same : c.from_string.result ≡ string_bytes c.in_ok-text-in-Ok.text = search rules in (
      search rules,
      text_well_formed c.from_string.result (subst IsUtf8 (sym same) (IsUtf8-string_bytes c.in_ok-text-in-Ok.text)),
    )

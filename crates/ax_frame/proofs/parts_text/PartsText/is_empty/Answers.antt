use Rattle.std.proofs.Common.{sym, ◌∙◌, eq-eqb}
use Rattle.std.proofs.lemmas.Bool.{eqb-true}
use Rattle.ax_frame.proofs.Parts.{empty_seen, seen_empty}
use Rattle.ax_frame.proofs.parts_text.PartsText.is_empty.Goals as goal

pub returns : goal.returns
returns c =
    let bytes = c.self.inside.bytes in (
      λ yes. sym c.self.view_is ∙ empty_seen bytes.items c.self.invariant (sym bytes.ok.0 ∙ eqb-true bytes.len 0 (sym c.is_empty.ensures ∙ yes)),
      λ none. c.is_empty.ensures ∙ eq-eqb bytes.len 0 (bytes.ok.0 ∙ seen_empty bytes.items c.self.invariant (c.self.view_is ∙ none)),
    )

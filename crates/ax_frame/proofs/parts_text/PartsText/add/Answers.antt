use Rattle.std.proofs.Common.{rules, ◌++◌, ◌∷◌, [], List, ap, ◌∙◌}
use Rattle.std.proofs.lemmas.Result.{on_ok_weaker}
use Rattle.ax_frame.specs.Part.{PartValue, part_value}
use Rattle.ax_frame.proofs.Parts.{added}
use Rattle.ax_frame.proofs.parts_text.PartsText.add.Goals as goal

pub invariant_of-self : goal.invariant_of-self
invariant_of-self c =
    (added c.append.result c.self.inside.bytes.items c.append.new.bytes.items (part_value c.args.part) c.self.invariant (record { key_fits = search rules; payload_fits = c.requires }) c.append.ensures.ok c.append.ensures.err).spells

pub returns-clause-ok : goal.returns-clause-ok
returns-clause-ok c =
    on_ok_weaker c.append.result (λ e. e ∙ ap (λ (ps : List PartValue). ps ++ part_value c.args.part ∷ []) c.self.view_is)
    (added c.append.result c.self.inside.bytes.items c.append.new.bytes.items (part_value c.args.part) c.self.invariant (record { key_fits = search rules; payload_fits = c.requires }) c.append.ensures.ok c.append.ensures.err).are

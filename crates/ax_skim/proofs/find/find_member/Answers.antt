use Rattle.std.proofs.Common.{ap, ◌∙◌}
use Rattle.std.specs.Option.{option_map}
use Rattle.ax_tree.specs.CanonicalText.{canonical_text}
use Rattle.ax_tree.specs.Document.{value_of}
use Rattle.ax_skim.proofs.Maps.{no_map, in_map}
use Rattle.ax_skim.proofs.find.find_member.Goals as goal

pub returns-in_err-members : goal.returns-in_err-members
returns-in_err-members c =
    λ tree is. ap (option_map (λ value. value.now)) c.from_residual.ensures
    ∙ no_map c.args.name.now c.args.text.now tree c.in_err-members.ensures is

pub returns : goal.returns
returns c =
    λ tree is. in_map c.args.name.now c.args.text.now c.in_ok-members.members.now tree _
    c.in_ok-members.ensures
    (λ those stands. c.find_among.ensures those stands
    ∙ ap (λ n. option_map canonical_text (value_of n those)) c.as_bytes.ensures.value) is

-- The text determines its tokens, and those the tree.
use Rattle.ax_tree.proofs.OneText.{one_text}
use Rattle.ax_tree.proofs.laws.one_canonical_text.Goals as goal

pub returns : goal.returns
returns c = one_text

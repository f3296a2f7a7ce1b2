use Rattle.ax_atoms.proofs.FitLeaves.{leaves_fit}
use Rattle.ax_atoms.proofs.Passes.{recognised_found}
use Rattle.ax_atoms.proofs.laws.a_passing_document_has_a_leaf.Goals as goal

pub returns : goal.returns
returns c = λ env alias given x atom bound fits is passes.
    recognised_found env alias given bound atom x is passes (leaves_fit given fits)

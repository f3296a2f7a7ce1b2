use Rattle.std.proofs.Common.{inl, refl}
use Rattle.ax_terms.specs.TermsOf.{leaf_term}
use Rattle.ax_atoms.proofs.FitLeaves.{leaves_fit}
use Rattle.ax_atoms.proofs.Passes.{recognised_found}
use Rattle.ax_atoms.proofs.laws.a_passing_document_has_a_term.Goals as goal

pub returns : goal.returns
returns c = λ policy env alias given x atom bound fits is passes covered.
    let has = recognised_found env alias given bound atom x is passes (leaves_fit given fits) in (
      leaf_term has.leaf,
      inl (has.leaf, has.is, covered has.leaf.path has.at, refl),
      has.in_ranges,
    )

-- The term of an id is in no range of a condition: it comes before all terms of leaves.
use Rattle.std.proofs.Common.{◌≡◌, ℕ, List, [], ◌∷◌, map, false, refl}
use Rattle.ax_mean.specs.declared.query.Step.{Step}
use Rattle.ax_mean.specs.declared.value.Value.{Value}
use Rattle.ax_term.specs.TermBytes.{term_bytes}
use Rattle.ax_term.specs.Terms.{Term}
use Rattle.ax_atoms.specs.Atoms.{Atom}
use Rattle.ax_atoms.specs.Spans.{is_in_some, only, ranges_of}

in_none : (path : List Step) (ks : List Value) (id : List ℕ)
    → is_in_some (map (only path) ks) (term_bytes (Term.Id id)) ≡ false
in_none path [] id = refl
in_none path (k ∷ ks) id = in_none path ks id

pub no_id_in : (atom : Atom) (id : List ℕ) → is_in_some (ranges_of atom) (term_bytes (Term.Id id)) ≡ false
no_id_in (Atom.Equals path k) id = refl
no_id_in (Atom.AtMost path k) id = refl
no_id_in (Atom.AtLeast path k) id = refl
no_id_in (Atom.Within path k m) id = refl
no_id_in (Atom.OneOf path ks) id = in_none path ks id
no_id_in (Atom.Exists path) id = refl
no_id_in (Atom.Begins path k) id = refl
no_id_in (Atom.Holds path k) id = refl

use Rattle.ax_area_laws.proofs.Documents.{listed_alike}
use Rattle.ax_area_laws.proofs.laws.documents_are_listed_alike.Goals as goal

pub returns : goal.returns
returns c = λ old new agree. listed_alike old.documents new.documents agree.documents

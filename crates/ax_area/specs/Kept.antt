-- What a fact on each change that was told comes to for the contents: it holds of the policies, the
-- documents and the payloads that are held. It comes from no public document.
use Rattle.std.specs.Prelude.{◌≡◌, ℕ, List, Some}
use Rattle.std.specs.List.{AllByRecursion}
use Rattle.std.specs.FinMap as map
use Rattle.ax_pages.specs.Contents.{term_page}
use Rattle.ax_area.specs.Changes.{Change, Written}
use Rattle.ax_area.specs.Changes as change
use Rattle.ax_area.specs.Contents.{Contents, Stored, stored}

-- the document was written so
pub record IsWritten (P : Change → Type 0) (number : ℕ) (document : Stored) : Type 0 where
  pub written : Written
  pub is : document ≡ stored number written
  pub so : P (change.Document number written)

pub record HoldsOfAll (P : Change → Type 0) (contents : Contents) : Type 0 where
  pub policies : (number : ℕ) (text : List ℕ)
      → map.get contents.policies number ≡ Some text → P (change.Policy number text)
  pub documents : (number : ℕ) (document : Stored)
      → map.get contents.documents number ≡ Some document → IsWritten P number document
  pub bases : (page : ℕ) (payload : List ℕ)
      → (term_page page contents.terms).base ≡ Some payload → P (change.Base page payload)
  pub deltas : (page : ℕ)
      → AllByRecursion (λ payload. P (change.Delta page payload))
      (term_page page contents.terms).deltas

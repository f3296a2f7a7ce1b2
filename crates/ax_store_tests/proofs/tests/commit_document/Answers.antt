use Rattle.std.proofs.Common.{◌≡◌, ◌≤◌, Bool, true, false, List, [], ◌∷◌, ◌++◌, sym, subst, ap, refl, ◌∙◌, arith}
use Rattle.std.specs.Prelude.{◌||◌, nat_lt, if◌then◌else◌, Some, None, option_and_then}
use Rattle.std.proofs.lemmas.Bool.{lt-ltb}
use Rattle.std.specs.FinMap as map
use Rattle.ax_frame.specs.Part.{PartValue, AllFit}
use Rattle.ax_pages.specs.Contents.{Contents}
use Rattle.ax_pages.specs.AfterPart.{after_parts}
use Rattle.ax_store.specs.Batch.{AreAllowed}
use Rattle.ax_store.specs.Putting.{AreWithin, CanTake}
use Rattle.ax_store.specs.Store.{store_contents, store_parts}
use Rattle.ax_store.proofs.CommitLemmas.{within_allowed}
use Rattle.ax_store.proofs.Saying.{many_alike}
use Rattle.ax_store.proofs.StoreLemmas.{agrees_same}
use Rattle.ax_store_tests.proofs.tests.commit_document.Goals as goal

or_true : (a b : Bool) → b ≡ true → (a || b) ≡ true
or_true true b e = refl
or_true false b e = e

abbrev both : List PartValue
both = record { kind = 1; key = 0; payload = 2 ∷ 0 ∷ 0 ∷ 0 ∷ 0 ∷ 0 ∷ 0 ∷ 0 ∷ [] } ∷ record { kind = 3; key = 1; payload = 0 ∷ 123 ∷ 125 ∷ [] } ∷ []

both_fit : AllFit both
both_fit =
    (record { key_fits = omega arith; payload_fits = omega arith }, (record { key_fits = omega arith; payload_fits = omega arith }, tt))

-- both parts are within the format where few documents are held
within : (contents : Contents) → map.len contents.documents ≤ 9
    → AreWithin both contents
within contents few =
    let new : Contents = record contents {
      meta = Some (2 ∷ 0 ∷ 0 ∷ 0 ∷ 0 ∷ 0 ∷ 0 ∷ 0 ∷ []);
      documents = map.insert contents.documents 1 (0 ∷ 123 ∷ 125 ∷ []);
    } in
    let room =
    or_true (map.contains_key contents.documents 1) (nat_lt (map.len contents.documents) 1048576)
    (lt-ltb (map.len contents.documents) 1048576 (omega (arith, few))) in
    (new, ap (λ (b : Bool). option_and_then (after_parts []) (if b then Some new else None)) room)

pub commit-requires-clause-agrees : goal.commit-requires-clause-agrees
commit-requires-clause-agrees g c = λ honest works.
    agrees_same g.C.PageCache.pages c.args.store.now c.reserve.new.self _ c.reserve.ensures.same (c.requires.agrees honest)

pub commit-requires-clause-deltas : goal.commit-requires-clause-deltas
commit-requires-clause-deltas g c =
    let first =
    c.in-Ok.ensures.ok
    ∙ ap (λ parts. parts ++ record { kind = 1; key = 0; payload = 2 ∷ 0 ∷ 0 ∷ 0 ∷ 0 ∷ 0 ∷ 0 ∷ 0 ∷ [] } ∷ []) c.begin-batch.ensures.parts in
    let parts =
    c.in-Ok-seal.ensures.parts ∙ c.in-Ok-add.ensures.ok
    ∙ ap (λ parts. parts ++ record { kind = 3; key = 1; payload = 0 ∷ 123 ∷ 125 ∷ [] } ∷ []) first in
    subst (λ parts. CanTake parts c.reserve.new.self.pages) (sym parts) (λ number. omega arith)

pub commit-requires-clause-within : goal.commit-requires-clause-within
commit-requires-clause-within g c =
    let first =
    c.in-Ok.ensures.ok
    ∙ ap (λ parts. parts ++ record { kind = 1; key = 0; payload = 2 ∷ 0 ∷ 0 ∷ 0 ∷ 0 ∷ 0 ∷ 0 ∷ 0 ∷ [] } ∷ []) c.begin-batch.ensures.parts in
    let parts =
    c.in-Ok-seal.ensures.parts ∙ c.in-Ok-add.ensures.ok
    ∙ ap (λ parts. parts ++ record { kind = 3; key = 1; payload = 0 ∷ 123 ∷ 125 ∷ [] } ∷ []) first in
    subst (λ parts. AreAllowed parts (store_contents c.reserve.new.self)) (sym parts)
    (within_allowed both (store_parts c.reserve.new.self) both_fit
    (within (store_parts c.reserve.new.self)
    (omega (arith, c.if-documents-gt9.false, c.documents.ensures, many_alike (store_parts c.reserve.new.self)))))
